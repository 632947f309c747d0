-- Classes that are told, one behind the other.
use Rattle.std.proofs.Common.{◌≡◌, ◌<◌, ◌+◌, ℕ, true, false, List, [], ◌∷◌, drop, length, get_or, refl, inl, inr, subst, sym, add-one, drop-cons}
use Rattle.package.specs.declared.counts.Class.{Class}
use Rattle.sip_write.specs.declared.status.Status.{Status}
use Rattle.control_lines.specs.Asking.{SpeakerSeen}
use Rattle.voicemail.specs.Notices.{Notice}
use Rattle.voicemail.specs.Served.{AreTold, IsTold, is_done}

here : (all : List Class) (i : ℕ) (d : Class) → i < length all → drop i all ≡ get_or all i d ∷ drop (i + 1) all
here all i d within = rw (add-one, drop-cons all i d) refl

module _ (n : Notice) (page : List ℕ) where
  -- what is told of these classes is told of all
  abbrev pub Left : List Class → SpeakerSeen → List Class → SpeakerSeen → Type 0
  Left left mid all old = (new : SpeakerSeen) (s : Status) → AreTold n page left mid new s → AreTold n page all old new s

  module _ (all : List Class) (i : ℕ) (d : Class) (old mid next : SpeakerSeen) (within : i < length all) (left : Left (drop i all) mid all old) where
    pub goes_on : (t : Status) → IsTold n page (get_or all i d) mid next t → is_done t ≡ true → Left (drop (i + 1) all) next all old
    goes_on t told ok new s rest =
        left new s (subst (λ (l : List Class). AreTold n page l mid new s) (sym (here all i d within)) (next, t, told, inl (ok, rest)))

    pub stops : (t : Status) → IsTold n page (get_or all i d) mid next t → is_done t ≡ false → AreTold n page all old next t
    stops t told other =
        left next t (subst (λ (l : List Class). AreTold n page l mid next t) (sym (here all i d within)) (next, t, told, inr (other, refl, refl)))
