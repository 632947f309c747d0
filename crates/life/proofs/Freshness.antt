-- Which requests are fresh.
use Rattle.std.proofs.Common.{◌≡◌, ℕ, ◌≤◌, List, [], ◌∷◌, Option, Some, None, Bool, true, false, not, ◌&&◌, refl, ap, inl, inr, arith}
use Prim.Native.Nat.{zero, suc}
use Rattle.std.specs.Prelude.{if◌then◌else◌, ◌||◌, take, is_some}
use Rattle.life.proofs.Texts.{bytes_own}
use Rattle.sip_text.specs.declared.address.Addr.{Addr}
use Rattle.sip_read.specs.declared.message.Request.{Request}
use Rattle.notifier_model.specs.Limits.{Limits}
use Rattle.notifier_model.specs.declared.event.Event.{Event}
use Rattle.notifier_model.specs.declared.event.Event.TheVariants.{Request as Comes, Reply as Replies, Mail as Mails, Progress as Progresses, Tick as Ticks, Shut as Shuts}
use Rattle.notifier_model.specs.declared.row.Key.{Key}
use Rattle.notifier_model.specs.Requests.{is_ack, same_key, key_of_request}
use Rattle.life.specs.Past.{is_among, is_new, with_key, keys_with, keys, is_fresh}
use Rattle.life.specs.Sentences.{Came, same_transaction, FreshLaw}

-- what isn't among keys isn't among the first of them
among-take : (key : Key) (n : ℕ) (ks : List Key) → is_among key ks ≡ false → is_among key (take n ks) ≡ false
unfolding is_among
among-take key zero ks h = refl
among-take key (suc n) [] h = refl
among-take key (suc n) (k ∷ ks) h = by_first (same_key k key) h (λ g. among-take key n ks g)
  where
    by_first : (d : Bool) → (d || is_among key ks) ≡ false → (is_among key ks ≡ false → is_among key (take n ks) ≡ false) → (d || is_among key (take n ks)) ≡ false
    by_first true h rest = absurd (cc)
    by_first false h rest = rest h

among-with : (key : Key) (o : Option Key) (ks : List Key) → same_transaction o (Some key) ≡ false → is_among key ks ≡ false → is_among key (with_key o ks) ≡ false
unfolding is_among
among-with key None ks other h = h
among-with key (Some k) ks other h = rw (other, h) refl

-- no request of this transaction came
never_among : (limits : Limits) (past : List Event) (key : Key) → ((source : Addr) (q : Request) → Came past (Comes source q) → same_transaction (key_of_request q) (Some key) ≡ false) → is_among key (keys limits past) ≡ false
unfolding keys keys_with is_among
never_among limits [] key none = refl
never_among limits (Comes source q ∷ past) key none =
    by_fresh (not (is_ack q) && is_new (key_of_request q) (take limits.kept (keys limits past))) (never_among limits past key (λ s p came. none s p (inr came)))
  where
    by_fresh : (d : Bool) → is_among key (keys limits past) ≡ false → is_among key (if d then with_key (key_of_request q) (keys limits past) else keys limits past) ≡ false
    by_fresh true before = among-with key (key_of_request q) (keys limits past) (none source q (inl refl)) before
    by_fresh false before = before
never_among limits (Replies r ∷ past) key none = never_among limits past key (λ s p came. none s p (inr came))
never_among limits (Mails m ∷ past) key none = never_among limits past key (λ s p came. none s p (inr came))
never_among limits (Progresses p ∷ past) key none = never_among limits past key (λ s p came. none s p (inr came))
never_among limits (Ticks t ∷ past) key none = never_among limits past key (λ s p came. none s p (inr came))
never_among limits (Shuts ∷ past) key none = never_among limits past key (λ s p came. none s p (inr came))

first_is_fresh : (limits : Limits) (past : List Event) (r : Request) → is_ack r ≡ false → ((source : Addr) (q : Request) → Came past (Comes source q) → same_transaction (key_of_request q) (key_of_request r) ≡ false) → is_fresh limits past r ≡ true
unfolding is_fresh
first_is_fresh limits past r other none = rw other (by_key (key_of_request r) none)
  where
    by_key : (o : Option Key) → ((source : Addr) (q : Request) → Came past (Comes source q) → same_transaction (key_of_request q) o ≡ false) → is_new o (take limits.kept (keys limits past)) ≡ true
    by_key None none = refl
    by_key (Some key) none = ap not (among-take key limits.kept (keys limits past) (never_among limits past key none))

own_key : (key : Key) → same_key key key ≡ true
own_key key = rw (bytes_own key.branch, bytes_own key.sent_by, bytes_own key.method) refl

-- it is among the last, since it is the last
among-front : (n : ℕ) (key : Key) (ks : List Key) → 1 ≤ n → is_among key (take n (key ∷ ks)) ≡ true
unfolding is_among
among-front zero key ks some = absurd (omega arith)
among-front (suc n) key ks some = rw (own_key key) refl

again_is_not : (limits : Limits) (past : List Event) (source : Addr) (r : Request) → is_some (key_of_request r) ≡ true → 1 ≤ limits.kept → is_fresh limits (Comes source r ∷ past) r ≡ false
unfolding is_fresh keys keys_with
again_is_not limits past source r named some = by_key (key_of_request r) named (is_ack r)
  where
    by_new : (key : Key) (d : Bool) → not (is_among key (take limits.kept (keys limits past))) ≡ d → not (is_among key (take limits.kept (if d then key ∷ keys limits past else keys limits past))) ≡ false
    by_new key true e = ap not (among-front limits.kept key (keys limits past) some)
    by_new key false e = e

    by_key : (o : Option Key) → is_some o ≡ true → (d : Bool) → (not d && is_new o (take limits.kept (if not d && is_new o (take limits.kept (keys limits past)) then with_key o (keys limits past) else keys limits past))) ≡ false
    by_key None e d = absurd (cc)
    by_key (Some key) e true = refl
    by_key (Some key) e false = by_new key (not (is_among key (take limits.kept (keys limits past)))) refl

pub fresh_law : FreshLaw
fresh_law limits past r = record { first = first_is_fresh limits past r; again = λ source. again_is_not limits past source r }
