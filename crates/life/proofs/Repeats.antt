-- A request that comes again doesn't count.
use Rattle.std.proofs.Common.{◌≡◌, ℕ, List, [], ◌∷◌, ◌++◌, Option, Some, None, Bool, true, false, not, ◌&&◌, refl, sym, ◌∙◌, ap, subst, arith}
use Rattle.std.specs.Prelude.{if◌then◌else◌, ◌||◌, nat_lt, is_none, option_map, bytes_eq, codes}
use Rattle.std.proofs.lemmas.Bool.Decides.{nat_tests}
use Rattle.sip_text.specs.declared.address.Addr.{Addr}
use Rattle.sip_read.specs.declared.message.Request.{Request}
use Rattle.notifier_model.specs.declared.event.Event.{Event}
use Rattle.notifier_model.specs.declared.event.Event.TheVariants.{Request as Comes}
use Rattle.notifier_model.specs.Limits.{Limits}
use Rattle.notifier_model.specs.Requests.{is_ack, is_subscribe, is_refer, misfit, key_of_request}
use Rattle.notifier_model.specs.Start.{Start, tag_of}
use Rattle.life.specs.Past.{now, is_new}
use Rattle.life.specs.Life.{Deed, Life, Then, Heard, MailChanged, Progressed, Due, Answered, Disowned, Lost, Stopped, birth, cseqs, is_above, is_gone}
use Rattle.life.specs.Lives.{is_in_dialog, concerns, may_hear, lived, life, is_born_at}
use Rattle.life.specs.Sentences.{or_before}
use Rattle.life.proofs.Texts.{Bytes, never_both, and-left, and-right, and-false, bytes_same}
use Rattle.life.proofs.Deeds.{hears, lived-comes, lived_is}
use Rattle.life.proofs.NextLives.{befell-born, life-next}
use Rattle.life.specs.Own.{is_own, born_of}
use Rattle.life.specs.Apart.{all_keys, has_new_key, matters, own_requests_are_new}
use Rattle.life.specs.IsolationLaws.{AgainLaw}
use Rattle.life.proofs.Mine.{fresh-new}
use Rattle.life.proofs.IsolationLaw.{once, new_here}

-- ---- a request against which nothing stands is no ACK

no_other_method : (r : Request) → (is_subscribe r || is_refer r) ≡ false → is_none (misfit r) ≡ false
unfolding misfit
no_other_method r e = rw e refl

no_ack : (r : Request) → is_none (misfit r) ≡ true → is_ack r ≡ false
no_ack r h = by (is_ack r) refl
  where
    by : (d : Bool) → is_ack r ≡ d → is_ack r ≡ false
    by false e = e
    by true e =
        let m = bytes_same r.method (codes "ACK") e in
        let no = no_other_method r (ap (λ (w : Bytes). bytes_eq w (codes "SUBSCRIBE") || bytes_eq w (codes "REFER")) m) in
        absurd (never_both (is_none (misfit r)) h no)

-- ---- what it heard stays heard

-- what is not above all that it heard stays so
abbrev StaysLow : Life → Option Life → Type 0
StaysLow l None = Unit {0}
StaysLow l (Some m) = (c : ℕ) → is_above l c ≡ false → is_above m c ≡ false

deed-low : (t : ℕ) (deed : Deed) (l : Life) (c : ℕ) → is_above l c ≡ false → is_above (Then t deed l) c ≡ false
unfolding is_above cseqs
deed-low t (Heard source r) l c h = rw h (and-false (nat_lt r.head.cseq c))
deed-low t MailChanged l c h = h
deed-low t (Progressed p) l c h = h
deed-low t Due l c h = h
deed-low t (Answered n) l c h = h
deed-low t Disowned l c h = h
deed-low t Lost l c h = h
deed-low t Stopped l c h = h

lived-low : (start : Start) (serial : ℕ) (past : List Event) (e : Event) (l : Life) → StaysLow l (lived start serial past e l)
lived-low start serial past e l = lived_is start serial past e l (StaysLow l) tt (λ d c h. deed-low (now (e ∷ past)) d l c h)

-- it lives no more, or this request may not be heard
abbrev quiet : Limits → Request → Life → Bool
quiet limits r l = not (is_gone limits l) && may_hear r l

quiet-low : (limits : Limits) (r : Request) (l m : Life) → ((c : ℕ) → is_above l c ≡ false → is_above m c ≡ false) → is_gone limits l ≡ false → quiet limits r l ≡ false → quiet limits r m ≡ false
unfolding may_hear
quiet-low limits r l m low alive h = by (is_gone limits l) (is_gone limits m) (is_none (misfit r)) (is_above l r.head.cseq) (is_above m r.head.cseq) (low r.head.cseq) alive h
  where
    by : (g k f a b : Bool) → (a ≡ false → b ≡ false) → g ≡ false → (not g && (f && a)) ≡ false → (not k && (f && b)) ≡ false
    by true k f a b l e h = absurd (cc)
    by false true f a b l e h = refl
    by false false false a b l e h = refl
    by false false true a b l e h = l h

record Quiet (start : Start) (serial : ℕ) (past : List Event) (r : Request) : Type 0 where
  l : Life
  is : life start past serial ≡ Some l
  still : quiet start.place.limits r l ≡ false

-- one event more
quiet-next : (start : Start) (serial : ℕ) (past : List Event) (e : Event) (r : Request) → Quiet start serial past r → Quiet start serial (e ∷ past) r
quiet-next start serial past e r q = by_gone (is_gone start.place.limits q.l) refl
  where
    next : (d : Bool) → is_gone start.place.limits q.l ≡ d → life start (e ∷ past) serial ≡ or_before (if d then None else lived start serial past e q.l) (Some q.l)
    next d g = life-next start past e serial ∙ rw (befell-born start past e serial q.l q.is, q.is, g) refl

    by_lived : (o : Option Life) → lived start serial past e q.l ≡ o → StaysLow q.l o → is_gone start.place.limits q.l ≡ false → Quiet start serial (e ∷ past) r
    by_lived None is low g = record { l = q.l; is = next false g ∙ rw is refl; still = q.still }
    by_lived (Some m) is low g = record { l = m; is = next false g ∙ rw is refl; still = quiet-low start.place.limits r q.l m low g q.still }

    by_gone : (d : Bool) → is_gone start.place.limits q.l ≡ d → Quiet start serial (e ∷ past) r
    by_gone true g = record { l = q.l; is = next true g; still = q.still }
    by_gone false g = by_lived (lived start serial past e q.l) refl (lived-low start serial past e q.l) g

quiet-on : (start : Start) (serial : ℕ) (later past : List Event) (r : Request) → Quiet start serial past r → Quiet start serial (later ++ past) r
quiet-on start serial [] past r q = q
quiet-on start serial (e ∷ later) past r q = quiet-next start serial (later ++ past) e r (quiet-on start serial later past r q)

-- ---- the first time

low-own : (l : Life) (t : ℕ) (source : Addr) (r : Request) → may_hear r (Then t (Heard source r) l) ≡ false
unfolding may_hear is_above cseqs
low-own l t source r = let e : nat_lt r.head.cseq r.head.cseq ≡ false = grind (arith, nat_tests) in rw e (and-false (is_none (misfit r)))

heard-first : (start : Start) (serial : ℕ) (past : List Event) (r : Request) (l : Life) → is_in_dialog (tag_of start.place serial) (birth l) r ≡ true → is_new (key_of_request r) (all_keys past) ≡ true → may_hear r l ≡ true → hears start serial past r l ≡ true
unfolding hears
heard-first start serial past r l dialog key may =
    rw (dialog, fresh-new start.place.limits past r key, no_ack r (fit may), may) refl
  where
    fit : may_hear r l ≡ true → is_none (misfit r) ≡ true
    fit h = unfold may_hear in (and-left (is_none (misfit r)) (is_above l r.head.cseq) h)

quiet-first : (start : Start) (serial : ℕ) (past : List Event) (source : Addr) (r : Request) (l : Life) → life start past serial ≡ Some l → is_in_dialog (tag_of start.place serial) (birth l) r ≡ true → (quiet start.place.limits r l ≡ true → is_new (key_of_request r) (all_keys past) ≡ true) → Quiet start serial (Comes source r ∷ past) r
quiet-first start serial past source r l is dialog key = by (quiet start.place.limits r l) refl
  where
    not-true : (b : Bool) → not b ≡ true → b ≡ false
    not-true true h = sym h
    not-true false h = refl

    by : (d : Bool) → quiet start.place.limits r l ≡ d → Quiet start serial (Comes source r ∷ past) r
    by false h = quiet-next start serial past (Comes source r) r (record { l = l; is = is; still = h })
    by true h =
        let alive = not-true (is_gone start.place.limits l) (and-left (not (is_gone start.place.limits l)) (may_hear r l) h) in
        let heard = heard-first start serial past r l dialog (key h) (and-right (not (is_gone start.place.limits l)) (may_hear r l) h) in
        record {
          l = Then (now past) (Heard source r) l;
          is = life-next start past (Comes source r) serial ∙ rw (befell-born start past (Comes source r) serial l is, is, alive, lived-comes start serial past source r l, heard) refl;
          still = rw (low-own l (now past) source r) (and-false (not (is_gone start.place.limits (Then (now past) (Heard source r) l))));
        }

born-of : (start : Start) (serial : ℕ) (x : Request) (past : List Event) (o : Option Life) → option_map birth o ≡ Some x → (l : Life) × (o ≡ Some l) × (birth l ≡ x)
born-of start serial x past None h = absurd (cc)
born-of start serial x past (Some l) h = (l, refl, cc)

pub again_law : AgainLaw
unfolding born_of own_requests_are_new matters is_own concerns has_new_key
again_law start serial x later past source again r born own new_keys =
    let b = born-of start serial x past (life start past serial) born in
    let here = once start serial past (Comes source r) b.0 b.1 in
    let dialog : is_in_dialog (tag_of start.place serial) x r ≡ true = first (is_in_dialog (tag_of start.place serial) x r) (is_born_at start serial past (Comes source r)) here own in
    let q = quiet-on start serial later (Comes source r ∷ past) r (quiet-first start serial past source r b.0 b.1 (subst (λ (y : Request). is_in_dialog (tag_of start.place serial) y r ≡ true) (sym b.2) dialog)
    (λ h. new_here (matters start serial x past (Comes source r)) (is_new (key_of_request r) (all_keys past)) (own_requests_are_new start serial x past) new_keys (counted b.0 b.1 dialog h))) in
    let late = once start serial (later ++ Comes source r ∷ past) (Comes again r) q.l q.is in
    rw (late, q.is, q.still) (and-false (is_in_dialog (tag_of start.place serial) x r))
  where
    first : (a b : Bool) → b ≡ false → (a || b) ≡ true → a ≡ true
    first true b e h = refl
    first false b e h = absurd (cc)

    last : (d : Bool) → (d || true) ≡ true
    last true = refl
    last false = refl

    counted : (l : Life) → life start past serial ≡ Some l → is_in_dialog (tag_of start.place serial) x r ≡ true → quiet start.place.limits r l ≡ true → matters start serial x past (Comes source r) ≡ true
    counted l is o h = rw (o, is, h) (last (is_born_at start serial past (Comes source r)))
