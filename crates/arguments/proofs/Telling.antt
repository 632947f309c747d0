-- A call of `notifyd tell`: what is found is meant, and what is meant is found.
use Rattle.std.proofs.Common.{◌≡◌, ℕ, Bool, true, false, cond, List, [], ◌∷◌, ◌++◌, Option, Some, None, Result, Ok, Err, refl, sym, ap, subst, ◌∙◌}
use Rattle.std.specs.Prelude.{codes, bytes_eq, IfOk}
use Rattle.sip_text.specs.declared.address.Addr.{Addr}
use Rattle.sip_text.specs.Addresses.{addr_text}
use Rattle.sip_text.specs.Reading.{◌>>=◌, begins, addr_of}
use Rattle.sip_text.proofs.Pieces.{bind_some, some_is}
use Rattle.sip_text.proofs.Addresses.{addr_takes, addr_again}
use Rattle.arguments.specs.declared.tell.TellCall.{TellCall}
use Rattle.arguments.specs.declared.tell.TellError.{TellError}
use Rattle.arguments.specs.declared.tell.TellError.TheVariants as error
use Rattle.arguments.specs.Tell.{joined, SaysWhere, IsTellCall, AnswersTell}
use Rattle.arguments.specs.TellReading.{line_call, read_tell, GivesTell}
use Rattle.arguments.proofs.Flags.{same_text}

record TakesLine (control : Option Addr) (words : List (List ℕ)) (call : TellCall) : Type 0 where
  control_is : call.control ≡ control
  first : List ℕ
  rest : List (List ℕ)
  no_option : begins 45 first ≡ false
  line : call.line ≡ joined first rest
  whole : words ≡ first ∷ rest

line_takes : (control : Option Addr) (words : List (List ℕ)) (call : TellCall) → line_call control words ≡ Some call → TakesLine control words call
unfolding line_call
line_takes control [] call e = absurd cc
line_takes control (first ∷ rest) call e = step (begins 45 first) refl e where
  made : TellCall
  made = record { control = control; line = joined first rest }

  step : (b : Bool) → begins 45 first ≡ b → cond b None (Some made) ≡ Some call → TakesLine control (first ∷ rest) call
  step true is k = absurd cc
  step false is k = subst (TakesLine control (first ∷ rest)) (some_is made call k) (record { control_is = refl; first = first; rest = rest; no_option = is; line = refl; whole = refl })

alone : (words : List (List ℕ)) (call : TellCall) → line_call None words ≡ Some call → IsTellCall words call
alone words call e =
    let t = line_takes None words call e in
    record { place_words = []; says_where = subst (SaysWhere []) (sym t.control_is) refl; first = t.first; rest = t.rest; no_option = t.no_option; line = t.line; whole = t.whole }

pub tell_takes : (words : List (List ℕ)) (call : TellCall) → read_tell words ≡ Some call → IsTellCall words call
unfolding read_tell
tell_takes [] call e = alone [] call e
tell_takes (word ∷ []) call e = alone (word ∷ []) call e
tell_takes (flag ∷ value ∷ line) call e = step (bytes_eq flag (codes "--control")) refl e where
  placed : bytes_eq flag (codes "--control") ≡ true → (addr_of value >>= λ addr. line_call (Some addr) line) ≡ Some call → IsTellCall (flag ∷ value ∷ line) call
  placed same k =
      let p = bind_some (addr_of value) (λ addr. line_call (Some addr) line) call k in
      let a = addr_takes value p.0 p.1 in
      let t = line_takes (Some p.0) line call p.2 in
      record {
        place_words = codes "--control" ∷ addr_text p.0 ∷ [];
        says_where = subst (SaysWhere (codes "--control" ∷ addr_text p.0 ∷ [])) (sym t.control_is) (a.1, refl);
        first = t.first;
        rest = t.rest;
        no_option = t.no_option;
        line = t.line;
        whole = ap (λ (w : List ℕ). w ∷ value ∷ line) (same_text flag (codes "--control") same) ∙ ap (λ (w : List ℕ). codes "--control" ∷ w ∷ line) a.0 ∙ ap (λ (l : List (List ℕ)). codes "--control" ∷ addr_text p.0 ∷ l) t.whole;
      }

  step : (b : Bool) → bytes_eq flag (codes "--control") ≡ b → cond b (addr_of value >>= λ addr. line_call (Some addr) line) (line_call None (flag ∷ value ∷ line)) ≡ Some call → IsTellCall (flag ∷ value ∷ line) call
  step true same k = placed same k
  step false other k = alone (flag ∷ value ∷ line) call k

line_again : (control : Option Addr) (first : List ℕ) (rest : List (List ℕ)) (call : TellCall) → begins 45 first ≡ false → call.control ≡ control → call.line ≡ joined first rest
    → line_call control (first ∷ rest) ≡ Some call
unfolding line_call
line_again control first rest call plain control_is line = rw (plain, ← control_is, ← line) refl

plain_first : (first : List ℕ) → begins 45 first ≡ false → bytes_eq first (codes "--control") ≡ false
plain_first first plain = step (bytes_eq first (codes "--control")) refl where
  clash : false ≡ true → ⊥
  clash e = absurd cc

  step : (b : Bool) → bytes_eq first (codes "--control") ≡ b → b ≡ false
  step false is = refl
  step true is = absurd (clash (sym plain ∙ ap (begins 45) (same_text first (codes "--control") is)))

plain_again : (first : List ℕ) (rest : List (List ℕ)) → begins 45 first ≡ false → read_tell (first ∷ rest) ≡ line_call None (first ∷ rest)
unfolding read_tell
plain_again first [] plain = refl
plain_again first (value ∷ line) plain = rw (plain_first first plain) refl

placed_again : (addr : Addr) (line : List (List ℕ)) (call : TellCall) → addr_of (addr_text addr) ≡ Some addr → line_call (Some addr) line ≡ Some call
    → read_tell (codes "--control" ∷ addr_text addr ∷ line) ≡ Some call
unfolding read_tell
placed_again addr line call a e = rw a e

pub tell_again : (words : List (List ℕ)) (call : TellCall) → IsTellCall words call → read_tell words ≡ Some call
tell_again words call h = step call.control refl h.says_where where
  step : (o : Option Addr) → call.control ≡ o → SaysWhere h.place_words o → read_tell words ≡ Some call
  step None is says =
      ap read_tell (h.whole ∙ ap (λ (l : List (List ℕ)). l ++ h.first ∷ h.rest) says) ∙ plain_again h.first h.rest h.no_option ∙ line_again None h.first h.rest call h.no_option is h.line
  step (Some addr) is says =
      ap read_tell (h.whole ∙ ap (λ (l : List (List ℕ)). l ++ h.first ∷ h.rest) says.1)
      ∙ placed_again addr (h.first ∷ h.rest) call (addr_again addr says.0) (line_again (Some addr) h.first h.rest call h.no_option is h.line)

pub call_found : (r : Result TellCall TellError) (o : Option TellCall) (P : TellCall → Type 0) → GivesTell r o → ((call : TellCall) → o ≡ Some call → P call) → IfOk r P
call_found (Ok call) o P g f = f call g
call_found (Err e) o P g f = tt

pub call_only : (r : Result TellCall TellError) (o : Option TellCall) (call : TellCall) → GivesTell r o → o ≡ Some call → AnswersTell r call
call_only (Ok b) o call g e = some_is b call (sym g ∙ e)
call_only (Err error.NoMemory) o call g e = tt
call_only (Err error.Bad) o call g e = none_some o call g e where
  none_some : {A : Type 0} (p : Option A) (z : A) → p ≡ None → p ≡ Some z → ⊥
  none_some p z g e = absurd cc
