-- What was done with one control line.
use Rattle.std.proofs.Common.{◌≡◌, ℕ, ◌+◌, suc, Bool, true, false, cond, not, ◌||◌, Option, Some, None, option_map, List, [], ◌∷◌, ◌++◌, length, refl, ap, sym, subst, ◌∙◌, inl, inr, arith, ◌<◌, ◌≤◌}
use Rattle.std.specs.Prelude.{nat_lt, is_some}
use Rattle.std.proofs.lemmas.Bool.Decides.{nat_tests}
use Rattle.std.specs.Str.{bytes_eq}
use Rattle.std.specs.List.{position_or_len}
use Rattle.package.specs.Changes.{unset}
use Rattle.sip_text.proofs.Pieces.{some_is}
use Rattle.package.specs.declared.change.Change.{Change}
use Rattle.package.specs.declared.change.Change.TheVariants as change
use Rattle.notifier_model.specs.declared.event.Event.{Event}
use Rattle.notifier_model.specs.declared.event.Event.TheVariants as happened
use Rattle.notifier_model.specs.Told.{told_event}
use Rattle.crew.specs.Ports.{PortSeats}
use Rattle.control_lines.specs.declared.answer.ControlAnswer.{ControlAnswer}
use Rattle.control_lines.specs.declared.answer.ControlAnswer.TheVariants as answer
use Rattle.control_lines.specs.declared.line.Asked.TheVariants as asked
use Rattle.control_lines.specs.declared.question.Question.{Question}
use Rattle.control_lines.specs.Lines.{Asks}
use Rattle.control_lines.specs.Told.{Row, told, has, place, with_name}
use Rattle.service.specs.declared.lines.Handled.{Handled}
use Rattle.service.specs.declared.lines.Handled.TheVariants as did
use Rattle.service.specs.Taken.{told_of, told_by, is_known, is_taken_in, made, makes, IsNotTakenIn, IsSent, IsChanged, IsFound, IsReload, Means, IsDone}

-- what a change tells of mailboxes is what its event tells
told_alike : (c : Change) (e : Event) (rows : List Row) → told_event c ≡ Some e → told_of c (made c rows) ≡ told_by e rows
told_alike (change.Mail m) e rows is = subst (λ (x : Event). told m (with_name m.mailbox rows) ≡ told_by x rows) (some_is (happened.Mail m) e is) refl
told_alike (change.Begin tag) e rows is = absurd cc
told_alike (change.Step p) e rows is = subst (λ (x : Event). rows ≡ told_by x rows) (some_is (happened.Progress p) e is) refl
told_alike (change.Forget tag) e rows is = absurd cc

-- one more on both sides
alike : (m k : ℕ) (a b : Bool) → nat_lt (1 + m) (suc k) ≡ a → nat_lt m k ≡ b → a ≡ b
alike m k true true e f = refl
alike m k true false e f = let low : 1 + m < suc k = grind (arith, nat_tests) in let high : k ≤ m = grind (arith, nat_tests) in absurd (omega (arith, low, high))
alike m k false true e f = let high : suc k ≤ 1 + m = grind (arith, nat_tests) in let low : m < k = grind (arith, nat_tests) in absurd (omega (arith, low, high))
alike m k false false e f = refl

-- a mailbox that has a place is one of them
placed : (name : List ℕ) (rows : List Row) → is_some (place name rows) ≡ has name rows
placed name rows = some_if (nat_lt (first rows) (length rows)) (first rows) ∙ below rows where
  first : List Row → ℕ
  first rs = position_or_len (λ (row : Row). bytes_eq name row.0) rs

  some_if : (b : Bool) (n : ℕ) → is_some (cond b (Some n) None) ≡ b
  some_if true n = refl
  some_if false n = refl

  below : (rs : List Row) → nat_lt (first rs) (length rs) ≡ has name rs
  below [] = refl
  below (row ∷ rs) = step (bytes_eq name row.0) (below rs) where
    step : (b : Bool) → nat_lt (first rs) (length rs) ≡ has name rs → nat_lt (cond (not b) (1 + first rs) 0) (suc (length rs)) ≡ (b || has name rs)
    step true is = grind (arith, nat_tests)
    step false is = alike (first rs) (length rs) (nat_lt (1 + first rs) (suc (length rs))) (nat_lt (first rs) (length rs)) refl refl ∙ is

-- that of a change which is known is there already
pub known_made : (c : Change) (rows : List Row) → is_known rows c ≡ true → made c rows ≡ rows
known_made (change.Mail m) rows is = ap (λ b. cond b rows (rows ++ (m.mailbox, unset) ∷ [])) (sym (placed m.mailbox rows) ∙ is)
known_made (change.Begin tag) rows is = refl
known_made (change.Step p) rows is = refl
known_made (change.Forget tag) rows is = refl

-- and taken in
pub known_taken : (most : ℕ) (c : Change) (rows : List Row) → is_known rows c ≡ true → is_taken_in most rows c ≡ true
known_taken most c rows is = ap (λ b. b || makes most rows c) is

-- so is one whose mailbox is made
pub made_taken : (most : ℕ) (c : Change) (rows : List Row) → makes most rows c ≡ true → is_taken_in most rows c ≡ true
made_taken most c rows is = ap (λ b. is_known rows c || b) is ∙ or_true (is_known rows c) where
  or_true : (b : Bool) → (b || true) ≡ true
  or_true true = refl
  or_true false = refl

-- one that is neither known nor made isn't
pub neither_taken : (most : ℕ) (c : Change) (rows : List Row) → is_known rows c ≡ false → makes most rows c ≡ false → is_taken_in most rows c ≡ false
neither_taken most c rows unknown unmade = ap (λ b. b || makes most rows c) unknown ∙ unmade

-- one that is no event tells nothing of them
pub untold : (c : Change) (rows : List Row) → told_event c ≡ None → told_of c (made c rows) ≡ rows
untold (change.Mail m) rows is = absurd cc
untold (change.Begin tag) rows is = refl
untold (change.Step p) rows is = absurd cc
untold (change.Forget tag) rows is = refl

-- and no line tells it
no_line : (c : Change) (octets : List ℕ) → Asks octets (asked.Change c) → told_event c ≡ None → ⊥
no_line (change.Mail m) octets asks is = absurd cc
no_line (change.Begin tag) octets asks is = asks.is_control
no_line (change.Step p) octets asks is = absurd cc
no_line (change.Forget tag) octets asks is = asks.is_control

-- nothing is done with one that isn't taken in
pub not_taken : (most : ℕ) (c : Change) (rows rows' : List Row) (p : PortSeats) (a : ControlAnswer) → IsNotTakenIn most rows c a → rows' ≡ rows
    → IsChanged most c rows rows' p p (did.Answered a)
not_taken most c rows rows' p answer.Done is same = absurd is
not_taken most c rows rows' p answer.BadLine is same = absurd is
not_taken most c rows rows' p answer.UnknownMailbox is same = (is, (same, refl))
not_taken most c rows rows' p answer.Closed is same = absurd is
not_taken most c rows rows' p answer.NoMemory is same = (is, (same, refl))
not_taken most c rows rows' p answer.Busy is same = absurd is

pub changed_sent : (most : ℕ) (c : Change) (e : Event) (rows : List Row) (old new : PortSeats) (d : Handled) → told_event c ≡ Some e → is_taken_in most rows c ≡ true
    → IsSent old e new d → IsChanged most c rows (told_of c (made c rows)) old new d
changed_sent most c e rows old new (did.Answered answer.Done) is known sent = (e, is, known, refl, sent)
changed_sent most c e rows old new (did.Answered answer.BadLine) is known sent = absurd sent
changed_sent most c e rows old new (did.Answered answer.UnknownMailbox) is known sent = absurd sent
changed_sent most c e rows old new (did.Answered answer.Closed) is known sent = sent
changed_sent most c e rows old new (did.Answered answer.NoMemory) is known sent = absurd sent
changed_sent most c e rows old new (did.Answered answer.Busy) is known sent = sent
changed_sent most c e rows old new (did.Repeated a) is known sent = sent
changed_sent most c e rows old new did.Unanswered is known sent = sent
changed_sent most c e rows old new did.Foreign is known sent = sent
changed_sent most c e rows old new did.Counters is known sent = sent
changed_sent most c e rows old new (did.Shown n) is known sent = sent
changed_sent most c e rows old new (did.Dumped n) is known sent = sent
changed_sent most c e rows old new (did.Watched k n) is known sent = sent
changed_sent most c e rows old new did.Refused is known sent = sent
changed_sent most c e rows old new did.Closing is known sent = sent
changed_sent most c e rows old new did.Ending is known sent = sent
changed_sent most c e rows old new did.Gone is known sent = (e, is, known, refl, sent)

module _ (most : ℕ) (octets : List ℕ) (rows rows' : List Row) (old new : PortSeats) where
  pub done_changed : (c : Change) (d : Handled) → Asks octets (asked.Change c) → IsChanged most c rows rows' old new d → IsDone most octets rows rows' old new d
  done_changed c (did.Answered answer.Done) asks is = (Some is.0, (is.0, refl, (c, asks, is.2, is.1)), is.3 ∙ told_alike c is.0 rows is.1, is.4)
  done_changed c (did.Answered answer.BadLine) asks is = absurd (no_line c octets asks is.0)
  done_changed c (did.Answered answer.UnknownMailbox) asks is = (None, (refl, inl (c, asks, is.0)), is.1.0, is.1.1)
  done_changed c (did.Answered answer.Closed) asks is = absurd is
  done_changed c (did.Answered answer.NoMemory) asks is = (None, (refl, inr (c, asks, is.0.0, is.0.1)), is.1.0, is.1.1)
  done_changed c (did.Answered answer.Busy) asks is = absurd is
  done_changed c (did.Repeated a) asks is = absurd is
  done_changed c did.Unanswered asks is = absurd is
  done_changed c did.Foreign asks is = absurd is
  done_changed c did.Counters asks is = absurd is
  done_changed c (did.Shown n) asks is = absurd is
  done_changed c (did.Dumped n) asks is = absurd is
  done_changed c (did.Watched k n) asks is = absurd is
  done_changed c did.Refused asks is = absurd is
  done_changed c did.Closing asks is = absurd is
  done_changed c did.Ending asks is = absurd is
  done_changed c did.Gone asks is = (Some is.0, (is.0, refl, (c, asks, is.2, is.1)), is.3 ∙ told_alike c is.0 rows is.1, is.4)

module _ (most : ℕ) (octets : List ℕ) (rows : List Row) (old new : PortSeats) where
  -- what tells nothing
  pub done_none : (d : Handled) → Means most rows octets None d → IsDone most octets rows rows old old d
  done_none d means = (None, means, refl, refl)

  pub done_found : (q : Question) (d : Handled) → Asks octets (asked.Question q) → IsFound rows q d → IsDone most octets rows rows old old d
  done_found q (did.Answered answer.Done) asks is = absurd is
  done_found q (did.Answered answer.BadLine) asks is = absurd is
  done_found q (did.Answered answer.UnknownMailbox) asks is = (None, (refl, inr (q, asks, is)), refl, refl)
  done_found q (did.Answered answer.Closed) asks is = absurd is
  done_found q (did.Answered answer.NoMemory) asks is = absurd is
  done_found q (did.Answered answer.Busy) asks is = absurd is
  done_found q (did.Repeated a) asks is = absurd is
  done_found q did.Unanswered asks is = absurd is
  done_found q did.Foreign asks is = absurd is
  done_found q did.Counters asks is = (None, (refl, subst (λ (x : Question). Asks octets (asked.Question x)) is asks), refl, refl)
  done_found q (did.Shown n) asks is = (None, (refl, is.0, subst (λ (x : Question). Asks octets (asked.Question x)) is.1 asks, is.2), refl, refl)
  done_found q (did.Dumped n) asks is = (None, (refl, q, asks, is), refl, refl)
  done_found q (did.Watched k n) asks is = (None, (refl, q, asks, is), refl, refl)
  done_found q did.Refused asks is = absurd is
  done_found q did.Closing asks is = absurd is
  done_found q did.Ending asks is = absurd is
  done_found q did.Gone asks is = absurd is

  pub done_reload : (d : Handled) → Asks octets asked.Reload → IsReload d → IsDone most octets rows rows old old d
  done_reload (did.Answered a) asks is = absurd is
  done_reload (did.Repeated a) asks is = done_none (did.Repeated a) (refl, is, asks)
  done_reload did.Unanswered asks is = done_none did.Unanswered (refl, inr asks)
  done_reload did.Foreign asks is = absurd is
  done_reload did.Counters asks is = absurd is
  done_reload (did.Shown n) asks is = absurd is
  done_reload (did.Dumped n) asks is = absurd is
  done_reload (did.Watched k n) asks is = absurd is
  done_reload did.Refused asks is = done_none did.Refused (refl, asks)
  done_reload did.Closing asks is = absurd is
  done_reload did.Ending asks is = done_none did.Ending (refl, asks)
  done_reload did.Gone asks is = absurd is

-- a change is never known again, nor is a question
pub changed_anew : (most : ℕ) (c : Change) (rows rows' : List Row) (old new : PortSeats) (d : Handled) (a : ControlAnswer)
    → IsChanged most c rows rows' old new d → d ≡ did.Repeated a → ⊥
changed_anew most c rows rows' old new d a is again = subst (λ (x : Handled). IsChanged most c rows rows' old new x) again is

pub found_anew : (rows : List Row) (q : Question) (d : Handled) (a : ControlAnswer) → IsFound rows q d → d ≡ did.Repeated a → ⊥
found_anew rows q d a is again = subst (λ (x : Handled). IsFound rows q x) again is

pub behind_is : (o : Option ℕ) (n : ℕ) → Some n ≡ option_map (λ k. k + 1) o → (before : ℕ) × (o ≡ Some before) × (n ≡ before + 1)
behind_is None n e = absurd cc
behind_is (Some k) n e = (k, refl, (cc))

pub behind_none : (o : Option ℕ) → None ≡ option_map (λ k. k + 1) o → o ≡ None
behind_none None e = refl
behind_none (Some k) e = absurd cc
