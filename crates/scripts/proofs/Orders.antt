-- Control lines and scripts as a whole.
use Rattle.std.proofs.Common.{◌≡◌, ℕ, Bool, true, false, eqb, cond, List, [], ◌∷◌, ◌++◌, length, Option, Some, None, Result, Ok, Err, refl, sym, ap, subst, ◌∙◌, inl, inr, arith}
use Rattle.std.specs.Prelude.{codes, bytes_eq, ◌⊎◌, IfOk, IfErr, ◌≢◌}
use Rattle.std.proofs.lemmas.Bool.{eqb-true}
use Rattle.scripts.specs.declared.error.ScriptError.{ScriptError}
use Rattle.scripts.specs.declared.error.ScriptError.TheVariants as error
use Rattle.scripts.specs.declared.script.Control.{Control}
use Rattle.scripts.specs.declared.script.Control.TheVariants as control
use Rattle.sip_text.specs.Reading.{◌>>=◌, cut_at}
use Rattle.scripts.specs.Lines.{ended, bare_line}
use Rattle.scripts.specs.Reading.{Gives, named_at, order_of, control_of, blocks_of}
use Rattle.scripts.specs.Script.{control_text, lf, IsControl, IsControlLine, IsScript, Answers, IsExactScript, IsExactControlLine}
use Rattle.sip_text.proofs.Cuts.{cut_takes, cut_again, cut_lacks, Lacks}
use Rattle.sip_text.proofs.Pieces.{bind_some, some_is}
use Rattle.scripts.proofs.Lines.{same_text, or_takes, named_takes, HasWord, change_word, tick_word, line_lacks}
use Rattle.scripts.proofs.Blocks.{script_takes, script_again}

-- ---- a control line

line_takes : (t l : List ℕ) → bare_line t ≡ Some l → (t ≡ l) ⊎ (t ≡ l ++ lf)
unfolding bare_line
line_takes t l e = step (cut_at 10 t) refl e where
  at_end : (x r : List ℕ) → t ≡ x ++ 10 ∷ r → (b : Bool) → eqb (length r) 0 ≡ b → cond {A = Option (List ℕ)} b (Some x) None ≡ Some l → (t ≡ l) ⊎ (t ≡ l ++ lf)
  at_end x [] whole true is e = inr (whole ∙ ap (λ (y : List ℕ). y ++ lf) (some_is x l e))
  at_end x [] whole false is e = absurd cc
  at_end x (y ∷ ys) whole true is e = absurd (omega (arith, eqb-true (length (y ∷ ys)) 0 is))
  at_end x (y ∷ ys) whole false is e = absurd cc

  step : (o : Option (List ℕ × List ℕ)) → cut_at 10 t ≡ o → ended o t ≡ Some l → (t ≡ l) ⊎ (t ≡ l ++ lf)
  step None is e = inl (some_is t l e)
  step (Some p) is e = at_end p.0 p.1 (cut_takes 10 t p.0 p.1 is).0 (eqb (length p.1) 0) refl e

line_again : (t l : List ℕ) → Lacks 10 l → (t ≡ l) ⊎ (t ≡ l ++ lf) → bare_line t ≡ Some l
unfolding bare_line
line_again t l lacks (inl same) = rw (same, cut_lacks 10 l lacks) refl
line_again t l lacks (inr same) = rw (same, cut_again 10 l [] lacks) refl

record TakesOrder (line : List ℕ) (c : Control) : Type 0 where
  whole : line ≡ control_text c
  is_control : IsControl c

order_takes : (line : List ℕ) (c : Control) → order_of line ≡ Some c → TakesOrder line c
unfolding order_of
order_takes line c e =
    or_takes (bytes_eq line (codes "CLOSE")) (Some control.Close) (cut_at 32 line >>= λ word. named_at word.0 word.1) c e of_close (λ _ k. of_word k) where
      of_close : bytes_eq line (codes "CLOSE") ≡ true → ◌≡◌ {A = Option Control} (Some control.Close) (Some c) → TakesOrder line c
      of_close same e = subst (TakesOrder line) (some_is control.Close c e) (record { whole = same_text line (codes "CLOSE") same; is_control = tt })

      of_word : (cut_at 32 line >>= λ word. named_at word.0 word.1) ≡ Some c → TakesOrder line c
      of_word e =
          let p = bind_some (cut_at 32 line) (λ word. named_at word.0 word.1) c e in
          let a = cut_takes 32 line p.0.0 p.0.1 p.1 in
          let k = named_takes p.0.0 p.0.1 c p.2 in
          record { whole = a.0 ∙ k.whole; is_control = k.is_control }

word_again : (c : Control) → HasWord c → order_of (control_text c) ≡ Some c
unfolding order_of
word_again c w = rw (w.not_close, w.whole, cut_again 32 w.name w.rest w.lacks, w.named) refl

order_again : (c : Control) → IsControl c → order_of (control_text c) ≡ Some c
unfolding order_of
order_again (control.Change g) h = word_again (control.Change g) (change_word g h)
order_again (control.Tick n) h = word_again (control.Tick n) (tick_word n h)
order_again control.Close h = refl

pub control_takes : (t : List ℕ) (c : Control) → control_of t ≡ Some c → IsControlLine t c
unfolding control_of
control_takes t c e =
    let p = bind_some (bare_line t) (λ l. order_of l) c e in
    let k = order_takes p.0 c p.2 in
    record { is_control = k.is_control; whole = subst (λ (l : List ℕ). (t ≡ l) ⊎ (t ≡ l ++ lf)) k.whole (line_takes t p.0 p.1) }

pub control_again : (t : List ℕ) (c : Control) → IsControlLine t c → control_of t ≡ Some c
unfolding control_of
control_again t c h = rw (line_again t (control_text c) (line_lacks c h.is_control) h.whole, order_again c h.is_control) refl

-- the line of a CLOSE is that word
pub close_bare : (t : List ℕ) → IsControlLine t control.Close → bare_line t ≡ Some (codes "CLOSE")
close_bare t h = line_again t (codes "CLOSE") (line_lacks control.Close h.is_control) h.whole

-- ---- from what the function on lists gives to what is answered

pub found_is : {X Y : Type 0} (view : X → Y) (r : Result X ScriptError) (o : Option Y) (P : Y → Type 0) → Gives view r o → ((y : Y) → o ≡ Some y → P y) → IfOk r (λ x. P (view x))
found_is view (Ok x) o P g f = f (view x) g
found_is view (Err e) o P g f = tt

pub only_is : {X Y : Type 0} (view : X → Y) (r : Result X ScriptError) (o : Option Y) (y : Y) → Gives view r o → o ≡ Some y → Answers view r y
only_is view (Ok x) o y g e = some_is (view x) y (sym g ∙ e)
only_is view (Err error.NoMemory) o y g e = tt
only_is view (Err error.BadScript) o y g e = absurd (none_some o y g e) where
  none_some : {A : Type 0} (p : Option A) (z : A) → p ≡ None → p ≡ Some z → ⊥
  none_some p z g e = absurd cc
only_is view (Err error.Device) o y g e = absurd g

pub never_device : {X Y : Type 0} (view : X → Y) (r : Result X ScriptError) (o : Option Y) → Gives view r o → IfErr r (λ e. e ≢ error.Device)
never_device view (Ok x) o g = tt
never_device view (Err error.NoMemory) o g = λ e. absurd cc
never_device view (Err error.BadScript) o g = λ e. absurd cc
never_device view (Err error.Device) o g = absurd g

-- ---- laws

decided : {Y : Type 0} (P : Y → Type 0) (o : Option Y) → ((y : Y) → o ≡ Some y → P y) → ((y : Y) → P y → o ≡ Some y) → ((y : Y) × P y) ⊎ ((y : Y) → ¬ (P y))
decided P None takes again = inr (λ y h. (let e = again y h in absurd cc))
decided P (Some y) takes again = inl (y, takes y refl)

one_value : {Y : Type 0} (o : Option Y) (x y : Y) → o ≡ Some x → o ≡ Some y → x ≡ y
one_value o x y a b = some_is x y (sym a ∙ b)

pub exact_script : (bytes : List ℕ) → IsExactScript bytes
exact_script bytes = record {
  one = λ xs ys a b. one_value (blocks_of bytes) xs ys (script_again bytes xs a) (script_again bytes ys b);
  decided = decided (IsScript bytes) (blocks_of bytes) (script_takes bytes) (script_again bytes);
}

pub exact_control_line : (bytes : List ℕ) → IsExactControlLine bytes
exact_control_line bytes = record {
  one = λ x y a b. one_value (control_of bytes) x y (control_again bytes x a) (control_again bytes y b);
  decided = decided (IsControlLine bytes) (control_of bytes) (control_takes bytes) (control_again bytes);
}
