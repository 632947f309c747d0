-- A call of `notifyd tell -`: what is found is meant, and what is meant is found.
use Rattle.std.proofs.Common.{◌≡◌, ℕ, Bool, true, false, cond, List, [], ◌∷◌, ◌++◌, Option, Some, None, refl, sym, ap, subst, ◌∙◌}
use Rattle.std.specs.Prelude.{codes, bytes_eq, ◌&&◌, MatchOption}
use Rattle.sip_text.specs.declared.address.Addr.{Addr}
use Rattle.sip_text.specs.Addresses.{addr_text}
use Rattle.sip_text.specs.Reading.{◌>>=◌, addr_of}
use Rattle.sip_text.specs.Bytes.{Finds}
use Rattle.sip_text.proofs.Pieces.{bind_some, some_is}
use Rattle.sip_text.proofs.Addresses.{addr_takes, addr_again}
use Rattle.arguments.specs.declared.lines_call.LinesCall.{LinesCall}
use Rattle.arguments.specs.Tell.{SaysWhere}
use Rattle.arguments.specs.LinesCall.{switch_word, IsLinesCall}
use Rattle.arguments.specs.LinesReading.{switches, call_at, read_lines_call}
use Rattle.arguments.proofs.Flags.{same_text}

-- the words behind `-` that say this
abbrev said : Bool → Bool → List (List ℕ)
said progress bar = switch_word (codes "--progress") progress ++ switch_word (codes "--progress-bar") bar

one_word : (word : List ℕ) (s : Bool × Bool) → switches (word ∷ []) ≡ Some s → word ∷ [] ≡ said s.0 s.1
unfolding switches
one_word word s e = step (bytes_eq word (codes "--progress")) refl (bytes_eq word (codes "--progress-bar")) refl e where
  step : (a : Bool) → bytes_eq word (codes "--progress") ≡ a → (b : Bool) → bytes_eq word (codes "--progress-bar") ≡ b
      → cond a (Some (true, false)) (cond b (Some (false, true)) None) ≡ Some s → word ∷ [] ≡ said s.0 s.1
  step true is b is_bar k =
      subst (λ (t : Bool × Bool). word ∷ [] ≡ said t.0 t.1) (some_is (true, false) s k) (ap (λ (w : List ℕ). w ∷ []) (same_text word (codes "--progress") is))
  step false is true is_bar k =
      subst (λ (t : Bool × Bool). word ∷ [] ≡ said t.0 t.1) (some_is (false, true) s k) (ap (λ (w : List ℕ). w ∷ []) (same_text word (codes "--progress-bar") is_bar))
  step false is false is_bar k = absurd cc

two_words : (word next : List ℕ) (s : Bool × Bool) → switches (word ∷ next ∷ []) ≡ Some s → word ∷ next ∷ [] ≡ said s.0 s.1
unfolding switches
two_words word next s e = step (bytes_eq word (codes "--progress")) refl (bytes_eq next (codes "--progress-bar")) refl e where
  step : (a : Bool) → bytes_eq word (codes "--progress") ≡ a → (b : Bool) → bytes_eq next (codes "--progress-bar") ≡ b
      → cond (a && b) (Some (true, true)) None ≡ Some s → word ∷ next ∷ [] ≡ said s.0 s.1
  step true is true is_bar k =
      subst (λ (t : Bool × Bool). word ∷ next ∷ [] ≡ said t.0 t.1) (some_is (true, true) s k)
      (ap (λ (w : List ℕ). w ∷ next ∷ []) (same_text word (codes "--progress") is)
      ∙ ap (λ (w : List ℕ). codes "--progress" ∷ w ∷ []) (same_text next (codes "--progress-bar") is_bar))
  step true is false is_bar k = absurd cc
  step false is b is_bar k = absurd cc

switches_takes : (words : List (List ℕ)) (s : Bool × Bool) → switches words ≡ Some s → words ≡ said s.0 s.1
unfolding switches
switches_takes [] s e = subst (λ (t : Bool × Bool). [] ≡ said t.0 t.1) (some_is (false, false) s e) refl
switches_takes (word ∷ []) s e = one_word word s e
switches_takes (word ∷ next ∷ []) s e = two_words word next s e
switches_takes (word ∷ next ∷ other ∷ rest) s e = absurd cc

switches_again : (a b : Bool) → switches (said a b) ≡ Some (a, b)
unfolding switches
switches_again true true = refl
switches_again true false = refl
switches_again false true = refl
switches_again false false = refl

-- the call is for this server, and its words are these
record TakesCall (control : Option Addr) (words : List (List ℕ)) (call : LinesCall) : Type 0 where
  control_is : call.control ≡ control
  whole : words ≡ codes "-" ∷ said call.takes_progress call.tells_counts

call_takes : (control : Option Addr) (words : List (List ℕ)) (call : LinesCall) → call_at control words ≡ Some call → TakesCall control words call
unfolding call_at
call_takes control [] call e = absurd cc
call_takes control (dash ∷ rest) call e = step (bytes_eq dash (codes "-")) refl e where
  made : Bool × Bool → LinesCall
  made s = record { control = control; takes_progress = s.0; tells_counts = s.1 }

  step : (b : Bool) → bytes_eq dash (codes "-") ≡ b → cond b (switches rest >>= λ s. Some (made s)) None ≡ Some call
      → TakesCall control (dash ∷ rest) call
  step true is k =
      let p = bind_some (switches rest) (λ s. Some (made s)) call k in
      subst (TakesCall control (dash ∷ rest)) (some_is (made p.0) call p.2) (record {
        control_is = refl;
        whole = ap (λ (w : List ℕ). w ∷ rest) (same_text dash (codes "-") is) ∙ ap (λ (l : List (List ℕ)). codes "-" ∷ l) (switches_takes rest p.0 p.1);
      })
  step false is k = absurd cc

call_again : (call : LinesCall) → call_at call.control (codes "-" ∷ said call.takes_progress call.tells_counts) ≡ Some call
unfolding call_at
call_again call = rw (switches_again call.takes_progress call.tells_counts) refl

alone : (words : List (List ℕ)) (call : LinesCall) → call_at None words ≡ Some call → IsLinesCall words call
alone words call e =
    let t = call_takes None words call e in
    record { place_words = []; says_where = subst (SaysWhere []) (sym t.control_is) refl; whole = t.whole }

pub lines_takes : (words : List (List ℕ)) (call : LinesCall) → read_lines_call words ≡ Some call → IsLinesCall words call
unfolding read_lines_call
lines_takes [] call e = alone [] call e
lines_takes (word ∷ []) call e = alone (word ∷ []) call e
lines_takes (flag ∷ value ∷ rest) call e = step (bytes_eq flag (codes "--control")) refl e where
  placed : bytes_eq flag (codes "--control") ≡ true → (addr_of value >>= λ addr. call_at (Some addr) rest) ≡ Some call → IsLinesCall (flag ∷ value ∷ rest) call
  placed same k =
      let p = bind_some (addr_of value) (λ addr. call_at (Some addr) rest) call k in
      let a = addr_takes value p.0 p.1 in
      let t = call_takes (Some p.0) rest call p.2 in
      record {
        place_words = codes "--control" ∷ addr_text p.0 ∷ [];
        says_where = subst (SaysWhere (codes "--control" ∷ addr_text p.0 ∷ [])) (sym t.control_is) (a.1, refl);
        whole = ap (λ (w : List ℕ). w ∷ value ∷ rest) (same_text flag (codes "--control") same) ∙ ap (λ (w : List ℕ). codes "--control" ∷ w ∷ rest) a.0 ∙ ap (λ (l : List (List ℕ)). codes "--control" ∷ addr_text p.0 ∷ l) t.whole;
      }

  step : (b : Bool) → bytes_eq flag (codes "--control") ≡ b → cond b (addr_of value >>= λ addr. call_at (Some addr) rest) (call_at None (flag ∷ value ∷ rest)) ≡ Some call → IsLinesCall (flag ∷ value ∷ rest) call
  step true same k = placed same k
  step false other k = alone (flag ∷ value ∷ rest) call k

plain_again : (rest : List (List ℕ)) → read_lines_call (codes "-" ∷ rest) ≡ call_at None (codes "-" ∷ rest)
unfolding read_lines_call
plain_again [] = refl
plain_again (value ∷ rest) = refl

placed_again : (addr : Addr) (rest : List (List ℕ)) → addr_of (addr_text addr) ≡ Some addr
    → read_lines_call (codes "--control" ∷ addr_text addr ∷ rest) ≡ call_at (Some addr) rest
unfolding read_lines_call
placed_again addr rest a = rw a refl

pub lines_again : (words : List (List ℕ)) (call : LinesCall) → IsLinesCall words call → read_lines_call words ≡ Some call
lines_again words call h = step call.control refl h.says_where where
  behind : List (List ℕ)
  behind = codes "-" ∷ said call.takes_progress call.tells_counts

  step : (o : Option Addr) → call.control ≡ o → SaysWhere h.place_words o → read_lines_call words ≡ Some call
  step None is says =
      ap read_lines_call (h.whole ∙ ap (λ (l : List (List ℕ)). l ++ behind) says) ∙ plain_again (said call.takes_progress call.tells_counts)
      ∙ ap (λ (c : Option Addr). call_at c behind) (sym is) ∙ call_again call
  step (Some addr) is says =
      ap read_lines_call (h.whole ∙ ap (λ (l : List (List ℕ)). l ++ behind) says.1)
      ∙ placed_again addr behind (addr_again addr says.0)
      ∙ ap (λ (c : Option Addr). call_at c behind) (sym is) ∙ call_again call

pub lines_found : (o : Option LinesCall) (words : List (List ℕ)) → Finds (λ x. x) o (read_lines_call words)
    → MatchOption o ((call : LinesCall) → ¬ (IsLinesCall words call)) (IsLinesCall words)
lines_found (Some call) words e = lines_takes words call e
lines_found None words e = λ call h. none_some (read_lines_call words) call e (lines_again words call h) where
  none_some : {A : Type 0} (p : Option A) (z : A) → p ≡ None → p ≡ Some z → ⊥
  none_some p z g k = absurd cc
