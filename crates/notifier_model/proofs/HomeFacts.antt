-- What homes are for.
use Rattle.std.proofs.Common.{◌≡◌, ℕ, ◌<◌, ◌%◌, Bool, true, false, ◌||◌, eqb, List, [], ◌∷◌, ◌++◌, Option, Some, None, refl, ap, arith}
use Rattle.std.proofs.Math.Nat.{mod-lt}
use Rattle.std.proofs.lemmas.Bool.{eq-eqb}
use Rattle.std.specs.Prelude.{decimal, codes, unwrap_or, ◌==◌}
use Rattle.hex.specs.Hex.{encode_lower}
use Rattle.notifier_model.specs.declared.place.Place.{Place}
use Rattle.notifier_model.specs.declared.event.Event.{Event}
use Rattle.notifier_model.specs.Start.{tag_of}
use Rattle.notifier_model.specs.Tag.{local_tag, tag_bytes}
use Rattle.notifier_model.specs.Home.{names_serial, worker_named, worker_in, key_hash, key_of, tag_in, home, is_for_all, events_for}
use Rattle.notifier_model.specs.HomeLaws.{NamedLaw, MailboxLaw, BelowLaw, OneLaw}
use Rattle.notifier_model.proofs.HomeNames.{Names, is_serial, some_named, IsBelow, named_below}

-- ---- a tag of its own names a worker

names_own : (place : Place) (serial : ℕ) → Names place.worker (tag_of place serial)
unfolding local_tag
names_own place serial = (decimal serial ++ (codes "-" ++ encode_lower (tag_bytes place.seed place.worker serial)), refl)

pub serial_own : (place : Place) (serial : ℕ) → names_serial place.worker serial (tag_of place serial) ≡ true
unfolding local_tag
serial_own place serial = is_serial place.worker serial (tag_of place serial) (encode_lower (tag_bytes place.seed place.worker serial), refl)

pub named_law : NamedLaw
unfolding home
named_law place serial n e below few is =
    let w : worker_named n (tag_of place serial) ≡ Some place.worker = some_named n place.worker (tag_of place serial) below few (names_own place serial) in
    rw (is, w) refl

pub mailbox_law : MailboxLaw
unfolding home
mailbox_law source r m n subscribes out same = rw (out, subscribes, same) refl

-- ---- a home is that of a worker

in_below : (n : ℕ) (tag : Option (List ℕ)) → IsBelow n (worker_in n tag)
in_below n None = tt
in_below n (Some tag) = named_below n tag

or_below : (n h : ℕ) (o : Option ℕ) → 0 < n → IsBelow n o → unwrap_or o (h % n) < n
or_below n h None some k = mod-lt h some
or_below n h (Some w) some k = k

pub below_law : BelowLaw
unfolding home
below_law e n some = or_below n (key_hash (key_of e)) (worker_in n (tag_in e)) some (in_below n (tag_in e))

all_to_one : (e : Event) → (is_for_all e || home e 1 == 0) ≡ true
all_to_one e = by (is_for_all e) (eq-eqb (home e 1) 0 (let below = below_law e 1 (omega arith) in omega arith)) where
  by : (d : Bool) → eqb (home e 1) 0 ≡ true → (d || eqb (home e 1) 0) ≡ true
  by true h = refl
  by false h = h

pub one_law : OneLaw
unfolding events_for
one_law [] = refl
one_law (e ∷ es) = rw (all_to_one e) (ap (λ (l : List Event). e ∷ l) (one_law es))
