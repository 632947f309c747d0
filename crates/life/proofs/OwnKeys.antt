-- Where no two requests have one key, those of each subscription are new.
use Rattle.std.proofs.Common.{◌≡◌, ℕ, List, [], ◌∷◌, ◌++◌, Bool, true, false, not, ◌&&◌, refl}
use Rattle.std.specs.Prelude.{◌||◌}
use Rattle.sip_read.specs.declared.message.Request.{Request}
use Rattle.notifier_model.specs.declared.event.Event.{Event}
use Rattle.notifier_model.specs.declared.event.Event.TheVariants.{Request as Comes, Reply as Replies, Mail as Mails, Progress as Progresses, Tick as Ticks, Shut as Shuts}
use Rattle.notifier_model.specs.declared.row.Key.{Key}
use Rattle.notifier_model.specs.Start.{Start, tag_of}
use Rattle.life.specs.Lives.{life, concerns, is_born_at}
use Rattle.life.proofs.Texts.{and-right}
use Rattle.life.specs.Own.{is_own, own}
use Rattle.life.specs.Apart.{all_keys, has_new_key, is_open_to, matters, own_requests_are_new, has_none_of, own_keys_are_unique}
use Rattle.life.specs.IsolationLaws.{OwnKeysLaw}
use Rattle.life.proofs.IsolationLaw.{alone_law}

same-new : (past : List Event) (e : Event) → has_none_of (all_keys past) e ≡ has_new_key past e
unfolding has_new_key
same-new past (Comes source r) = refl
same-new past (Replies r) = refl
same-new past (Mails m) = refl
same-new past (Progresses p) = refl
same-new past (Ticks t) = refl
same-new past Shuts = refl

weaker : (here own may new old more : Bool) → ((not (own || here) || (old && new)) && more) ≡ true → (not (here || (own && may)) || new) ≡ true
weaker true own may true old more h = last (not (true || (own && may)))
  where
    last : (d : Bool) → (d || true) ≡ true
    last true = refl
    last false = refl
weaker false own may true old more h = last (not (false || (own && may)))
  where
    last : (d : Bool) → (d || true) ≡ true
    last true = refl
    last false = refl
weaker true true may false true more h = absurd (cc)
weaker true true may false false more h = absurd (cc)
weaker true false may false true more h = absurd (cc)
weaker true false may false false more h = absurd (cc)
weaker false true may false true more h = absurd (cc)
weaker false true may false false more h = absurd (cc)
weaker false false may false old more h = refl

new_by_own_keys : (start : Start) (serial : ℕ) (x : Request) (later : List Key) (past : List Event) → own_keys_are_unique start serial x later past ≡ true → own_requests_are_new start serial x past ≡ true
unfolding own_keys_are_unique own_requests_are_new matters is_own
new_by_own_keys start serial x later [] h = refl
new_by_own_keys start serial x later (e ∷ past) h =
    let more = new_by_own_keys start serial x (all_keys (e ∷ []) ++ later) past (and-right (not (is_own start serial x past e) || (has_none_of later e && has_none_of (all_keys past) e)) (own_keys_are_unique start serial x (all_keys (e ∷ []) ++ later) past) h) in
    let here : (not (is_born_at start serial past e || (concerns (tag_of start.place serial) x e && is_open_to start.place.limits (life start past serial) e)) || has_none_of (all_keys past) e) ≡ true =
    weaker (is_born_at start serial past e) (concerns (tag_of start.place serial) x e) (is_open_to start.place.limits (life start past serial) e) (has_none_of (all_keys past) e) (has_none_of later e) (own_keys_are_unique start serial x (all_keys (e ∷ []) ++ later) past) h in
    rw (← same-new past e, here) more

pub own_keys_law : OwnKeysLaw
own_keys_law start other serial x past born like own_keys =
    alone_law start other serial x past born like (new_by_own_keys start serial x [] past own_keys)
