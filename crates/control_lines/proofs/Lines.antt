-- Which bytes are no line of a service.
use Rattle.std.proofs.Common.{◌≡◌, ℕ, List, ◌++◌, false, Option, Some, None, Result, Ok, Err, inl, inr, refl, sym, subst}
use Rattle.std.specs.Prelude.{codes, ◌⊎◌}
use Rattle.scripts.specs.declared.error.ScriptError.{ScriptError}
use Rattle.scripts.specs.declared.error.ScriptError.TheVariants as error
use Rattle.scripts.specs.declared.script.Control.{Control}
use Rattle.scripts.specs.declared.script.Control.TheVariants as control
use Rattle.scripts.specs.Script.{IsControlLine, lf}
use Rattle.scripts.specs.Lines.{bare_line}
use Rattle.control_lines.specs.Lines.{IsNoLine}
use Rattle.sip_text.specs.Reading.{cut_at}
use Rattle.control_lines.specs.Questions.{IsOneWord}

-- a TICK is none
pub tick_no_line : (octets : List ℕ) (n : ℕ) → ((x y : Control) → IsControlLine octets x → IsControlLine octets y → x ≡ y) → IsControlLine octets (control.Tick n) → IsNoLine octets
tick_no_line octets n one is = λ c h. (n, one c (control.Tick n) h is)

-- what is no line of a script is none
pub none_no_line : (octets : List ℕ) → ((c : Control) → IsControlLine octets c → ⊥) → IsNoLine octets
none_no_line octets none = λ c h. absurd (none c h)

-- ---- a CLOSE

-- a line for which memory runs out is no CLOSE
pub no_memory_no_close : (octets : List ℕ) → (IsControlLine octets control.Close → ◌≡◌ {A = Result Control ScriptError} (Err error.NoMemory) (Ok control.Close)) → ¬ (IsControlLine octets control.Close)
no_memory_no_close octets answered = λ h. (let same = answered h in absurd cc)

-- what holds of the word, with its LF and without, holds of a CLOSE
of_close : (P : List ℕ → Type 0) (octets : List ℕ) → IsControlLine octets control.Close → P (codes "CLOSE") → P (codes "CLOSE" ++ lf) → P octets
of_close P octets h bare whole = by h.whole where
  by : (octets ≡ codes "CLOSE") ⊎ (octets ≡ codes "CLOSE" ++ lf) → P octets
  by (inl is) = subst P (sym is) bare
  by (inr is) = subst P (sym is) whole

pub close_bare : (octets : List ℕ) → IsControlLine octets control.Close → bare_line octets ≡ Some (codes "CLOSE")
unfolding bare_line cut_at
close_bare octets h = of_close (λ o. bare_line o ≡ Some (codes "CLOSE")) octets h refl refl

pub close_one_word : IsOneWord (codes "CLOSE")
unfolding cut_at
close_one_word = refl
