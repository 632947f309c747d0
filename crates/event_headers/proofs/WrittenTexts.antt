-- The written text of a value, and that it is read as the value.
use Rattle.std.proofs.Common.{◌≡◌, ◌≢◌, ◌<◌, ◌≤◌, ◌+◌, ◌-◌, ℕ, suc, true, false, List, [], ◌∷◌, ◌++◌, length, take, drop, get_or, reverse, Option, Some, None, option_map, refl, sym, ap, subst, ◌∙◌, append_assoc, arith, inr}
use Rattle.std.specs.Prelude.{codes, decimal, IfSome, All}
use Rattle.std.specs.List.{list_all}
use Rattle.std.specs.Char.{to_ascii_lowercase}
use Rattle.std.specs.Str.{str_eq_ignore_ascii_case, str_to_ascii_lowercase}
use Rattle.std.proofs.lemmas.Bool.Decides.{nat_tests}
use Rattle.std.proofs.lemmas.List.{append-nil, take_more, take_all}
use Rattle.sip_text.specs.declared.scan.Class.{Class}
use Rattle.sip_text.specs.declared.scan.Class.TheVariants as class
use Rattle.sip_text.specs.Bytes.{is_in, is_space}
use Rattle.event_headers.specs.Values.{EventValue, StateValue, Range}
use Rattle.sip_text.specs.Grammar.{AllPassing, IsWord, Stops, IsValue, Parameter, IsParameter, AreParameters, values_named, IsWordNamed, AreElements, number_of}
use Rattle.sip_text.specs.Grammar.{IsToken, IsSmallToken}
use Rattle.event_headers.specs.Headers.{IsEvent, IsEventValue, IsState, IsStateValue, IsExpires, Fits, IsRange, IsAccept, IsRangeValue}
use Rattle.event_headers.specs.Written.{parameter_text, comma_joined, event_text, state_text, expires_text, range_text, next_ranges, accept_text}
use Rattle.event_headers.specs.Laws.{EventIsReadAgain, StateIsReadAgain, ExpiresIsReadAgain, AcceptIsReadAgain}
use Rattle.sip_text.proofs.Pieces.{and_both, NoSpace, word_stops_spaces}
use Rattle.sip_text.proofs.NotEmpty.{cons_some, some_behind, nonempty_reverse, ends_more}
use Rattle.sip_text.proofs.Numerals.{spelled}
use Rattle.sip_text.proofs.Trims.{all-reverse}

-- ---- what stands in a value

token_value : (x : ℕ) → is_in class.Token x ≡ true → is_in class.Value x ≡ true
token_value x e = grind (arith, nat_tests)

digit_value : (x : ℕ) → is_in class.Digit x ≡ true → is_in class.Value x ≡ true
digit_value x e = grind (arith, nat_tests)

abbrev Within : Class → Type 0
Within k = (x : ℕ) → is_in k x ≡ true → is_in class.Value x ≡ true

all_values : (k : Class) → Within k → (t : List ℕ) → AllPassing (is_in k) t → AllPassing (is_in class.Value) t
all_values k within [] all = refl
all_values k within (x ∷ xs) all = let b = and_both (is_in k x) (list_all (is_in k) xs) all in rw (within x b.0) (all_values k within xs b.1)

word_value : (k : Class) → Within k → (v : List ℕ) → IsWord k v → IsValue v
word_value k within v w = inr (all_values k within v w.0, w.1)

-- ---- parameters

abbrev one : List ℕ → Option (List ℕ) → List Parameter
one name None = []
one name (Some v) = record { name = name; value = Some v } ∷ []

parameter_is : (k : Class) → Within k → (name v : List ℕ) → IsToken name → IsWord k v → IsParameter (parameter_text name (Some v)) (record { name = name; value = Some v })
parameter_is k within name v tok w = record { before = []; behind = []; assigned = 61 ∷ v; spaces_before = refl; spaces_behind = refl; name = tok; value = ([], [], refl, refl, word_value k within v w, refl); whole = refl }

one_more : (k : Class) → Within k → (name : List ℕ) → IsToken name → (o : Option (List ℕ)) → IfSome o (IsWord k) → (rest : List ℕ) (ps : List Parameter) → AreParameters rest ps → AreParameters (parameter_text name o ++ rest) (one name o ++ ps)
one_more k within name tok None w rest ps are = are
one_more k within name tok (Some v) w rest ps are = (parameter_text name (Some v), rest, parameter_is k within name v tok w, are, refl)

abbrev valued : Option (List ℕ) → List (Option (List ℕ)) → List (Option (List ℕ))
valued None vs = vs
valued (Some v) vs = Some v ∷ vs

hit : (n : List ℕ) (o : Option (List ℕ)) (ps : List Parameter) → str_eq_ignore_ascii_case n n ≡ true → values_named n (one n o ++ ps) ≡ valued o (values_named n ps)
hit n None ps e = refl
hit n (Some v) ps e = rw e refl

skip : (n m : List ℕ) (o : Option (List ℕ)) (ps : List Parameter) → str_eq_ignore_ascii_case m n ≡ false → values_named n (one m o ++ ps) ≡ values_named n ps
skip n m None ps e = refl
skip n m (Some v) ps e = rw e refl

named : (k : Class) (n : List ℕ) (o : Option (List ℕ)) (ps : List Parameter) → values_named n ps ≡ valued o [] → IfSome o (IsWord k) → IsWordNamed k n ps o
named k n None ps e w = e
named k n (Some v) ps e w = (e, w)

-- ---- Event

id : List ℕ
id = codes "id"

event_written : (e : EventValue) → IsEventValue e → IsEvent (event_text e) e
event_written e h =
    let name : List ℕ = codes "id" in
    let text : List ℕ = parameter_text name e.id in
    let ps : List Parameter = one name e.id ++ [] in
    let are = one_more class.Token token_value name (refl, cons_some 105 (100 ∷ [])) e.id h.1 [] [] refl in (
      ps,
      record { left = []; behind = text ++ []; right = []; spaces_left = refl; spaces_right = refl; is_token = h.0; are = are; whole = ap (λ (l : List ℕ). e.«package» ++ l) (sym (append-nil text) ∙ sym (append-nil (text ++ []))) },
      named class.Token name e.id ps (hit name e.id [] refl) h.1,
    )

pub event_again_read : EventIsReadAgain
event_again_read e h = (event_written e h, tt)

-- ---- numbers

seconds_word : (o : Option ℕ) → IfSome o Fits → IfSome (option_map decimal o) (IsWord class.Digit)
seconds_word None h = tt
seconds_word (Some n) h = (spelled n (omega (arith, h))).0

seconds_same : (o : Option ℕ) → IfSome o Fits → option_map number_of (option_map decimal o) ≡ o
seconds_same None h = refl
seconds_same (Some n) h = ap (λ (m : ℕ). Some m) (spelled n (omega (arith, h))).1

expires_written : (n : ℕ) → Fits n → IsExpires (expires_text n) n
expires_written n h =
    let s = spelled n (omega (arith, h)) in
    record { left = []; digits = decimal n; right = []; spaces_left = refl; spaces_right = refl; are_digits = s.0; kept = sym s.1; whole = sym (append-nil (decimal n)) }

pub expires_again_read : ExpiresIsReadAgain
expires_again_read n h = (expires_written n h, h)

-- ---- small letters

small_byte_stays : (x : ℕ) → is_in class.Small x ≡ true → to_ascii_lowercase x ≡ x
small_byte_stays x e = grind (arith, nat_tests)

small_stays : (t : List ℕ) → AllPassing (is_in class.Small) t → str_to_ascii_lowercase t ≡ t
small_stays [] all = refl
small_stays (x ∷ xs) all = let b = and_both (is_in class.Small x) (list_all (is_in class.Small) xs) all in rw (small_byte_stays x b.0) (ap (λ (l : List ℕ). x ∷ l) (small_stays xs b.1))

small_reason : (o : Option (List ℕ)) → IfSome o IsSmallToken → IfSome o IsToken × (option_map str_to_ascii_lowercase o ≡ o)
small_reason None h = (tt, refl)
small_reason (Some v) h = (h.0, ap (λ (t : List ℕ). Some t) (small_stays v h.1))

-- ---- Subscription-State

state_written : (s : StateValue) → IsStateValue s → IsState (state_text s) s
state_written s h =
    let expires : Option (List ℕ) = option_map decimal s.expires in
    let retry_after : Option (List ℕ) = option_map decimal s.retry_after in
    let first : List ℕ = parameter_text (codes "expires") expires in
    let second : List ℕ = parameter_text (codes "reason") s.reason in
    let third : List ℕ = parameter_text (codes "retry-after") retry_after in
    let ps3 : List Parameter = one (codes "retry-after") retry_after ++ [] in
    let ps2 : List Parameter = one (codes "reason") s.reason ++ ps3 in
    let ps : List Parameter = one (codes "expires") expires ++ ps2 in
    let e = seconds_word s.expires h.1 in
    let r = small_reason s.reason h.2 in
    let a = seconds_word s.retry_after h.3 in
    let are3 = one_more class.Digit digit_value (codes "retry-after") (refl, cons_some 114 _) retry_after a [] [] refl in
    let are2 = one_more class.Token token_value (codes "reason") (refl, cons_some 114 _) s.reason r.0 (third ++ []) ps3 are3 in
    let are = one_more class.Digit digit_value (codes "expires") (refl, cons_some 101 _) expires e (second ++ (third ++ [])) ps2 are2 in
    let behind : List ℕ = first ++ (second ++ (third ++ [])) in
    let small : str_to_ascii_lowercase s.word ≡ s.word = small_stays s.word h.0.1 in
    let same_expires : option_map number_of expires ≡ s.expires = seconds_same s.expires h.1 in
    let same_retry : option_map number_of retry_after ≡ s.retry_after = seconds_same s.retry_after h.3 in
    record {
      word = s.word;
      parameters = ps;
      expires = expires;
      reason = s.reason;
      retry_after = retry_after;
      is = record {
        left = [];
        behind = behind;
        right = [];
        spaces_left = refl;
        spaces_right = refl;
        is_token = h.0.0;
        are = are;
        whole = ap (λ (l : List ℕ). s.word ++ l) (ap (λ (l : List ℕ). first ++ (second ++ l)) (sym (append-nil third)) ∙ sym (append-nil behind));
      };
      is_expires = named class.Digit (codes "expires") expires ps (hit (codes "expires") expires ps2 refl ∙ ap (valued expires) (skip (codes "expires") (codes "reason") s.reason ps3 refl ∙ skip (codes "expires") (codes "retry-after") retry_after [] refl)) e;
      is_reason = named class.Token (codes "reason") s.reason ps (skip (codes "reason") (codes "expires") expires ps2 refl ∙ hit (codes "reason") s.reason ps3 refl ∙ ap (valued s.reason) (skip (codes "reason") (codes "retry-after") retry_after [] refl)) r.0;
      is_retry_after = named class.Digit (codes "retry-after") retry_after ps (skip (codes "retry-after") (codes "expires") expires ps2 refl ∙ skip (codes "retry-after") (codes "reason") s.reason ps3 refl ∙ hit (codes "retry-after") retry_after [] refl) a;
      kept = rw (small, same_expires, r.1, same_retry) refl;
    }

pub state_again_read : StateIsReadAgain
state_again_read s h = (state_written s h, (h.1, h.3))

-- ---- Accept

token : NoSpace (is_in class.Token)
token = record { sp = refl; ht = refl }

range_written : (r : Range) → IsRangeValue r → IsRange (range_text r) r
range_written r h = record {
  main = r.main;
  left = [];
  right = [];
  sub = r.sub;
  behind = [];
  parameters = [];
  is_main = h.0.0;
  is_sub = h.1.0;
  spaces_left = refl;
  spaces_right = refl;
  are = refl;
  small_main = sym (small_stays r.main h.0.1);
  small_sub = sym (small_stays r.sub h.1.1);
  whole = ap (λ (l : List ℕ). r.main ++ 47 ∷ l) (sym (append-nil r.sub));
}

range_starts : (r : Range) (rest : List ℕ) → IsRangeValue r → Stops is_space (range_text r ++ rest)
range_starts r rest h = rw (append_assoc r.main (47 ∷ r.sub) rest) (word_stops_spaces (is_in class.Token) token r.main (47 ∷ (r.sub ++ rest)) h.0.0.0 h.0.0.1)

-- a text that doesn't end with a space
abbrev Closed : List ℕ → Type 0
Closed t = (t ≢ []) × Stops is_space (reverse t)

closed_behind : (x y : List ℕ) → Closed y → Closed (x ++ y)
closed_behind x y c = (some_behind x y c.0, ends_more x y c.0 c.1)

closed_token : (t : List ℕ) → IsToken t → Closed t
closed_token t w = (w.1, subst (Stops is_space) (append-nil (reverse t)) (word_stops_spaces (is_in class.Token) token (reverse t) [] (all-reverse (is_in class.Token) t w.0) (nonempty_reverse t w.1)))

closed_range : (r : Range) → IsRangeValue r → Closed (range_text r)
closed_range r h = closed_behind r.main (47 ∷ r.sub) (closed_behind (47 ∷ []) r.sub (closed_token r.sub h.1.0))

first_range : (r : Range) (rs : List Range) → All IsRangeValue (r ∷ rs) → IsRangeValue r
first_range r rs h = h 0 r (omega arith)

other_ranges : (r : Range) (rs : List Range) → All IsRangeValue (r ∷ rs) → All IsRangeValue rs
other_ranges r rs h = λ k d lt. h (suc k) d (omega (arith, lt))

ranges_written : (r : Range) (rs : List Range) → All IsRangeValue (r ∷ rs) → AreElements IsRange (accept_text (r ∷ rs)) (r ∷ rs) × Stops is_space (accept_text (r ∷ rs)) × Closed (accept_text (r ∷ rs))
unfolding comma_joined
ranges_written r [] h =
    let v = first_range r [] h in
    let starts : Stops is_space (range_text r) = subst (Stops is_space) (append-nil (range_text r)) (range_starts r [] v) in
    ((range_written r v, starts), starts, closed_range r v)
ranges_written r (q ∷ qs) h =
    let v = first_range r (q ∷ qs) h in
    let others = ranges_written q qs (other_ranges r (q ∷ qs) h) in
    let more : List ℕ = accept_text (q ∷ qs) in
    let starts : Stops is_space (range_text r ++ (44 ∷ 32 ∷ more)) = range_starts r (44 ∷ 32 ∷ more) v in
    ((range_text r, [], 32 ∷ [], more, range_written r v, starts, refl, refl, others.0, refl), starts, closed_behind (range_text r) (44 ∷ 32 ∷ more) (closed_behind (44 ∷ 32 ∷ []) more others.2))

accept_written : (rs : List Range) → All IsRangeValue rs → IsAccept (accept_text rs) rs
unfolding comma_joined
accept_written [] h = record { left = []; value = []; right = []; spaces_left = refl; spaces_right = refl; trimmed = (tt, tt); are = refl; whole = refl }
accept_written (r ∷ rs) h =
    let k = ranges_written r rs h in
    record { left = []; value = accept_text (r ∷ rs); right = []; spaces_left = refl; spaces_right = refl; trimmed = (k.1, k.2.1); are = k.0; whole = sym (append-nil (accept_text (r ∷ rs))) }

pub accept_again_read : AcceptIsReadAgain
accept_again_read rs h = (accept_written rs h, tt)

-- ---- for the writer of Accept

next_push : (rs : List Range) (r : Range) → next_ranges (rs ++ r ∷ []) ≡ next_ranges rs ++ (codes ", " ++ range_text r)
next_push [] r = ap (λ (l : List ℕ). codes ", " ++ l) (append-nil (range_text r))
next_push (q ∷ qs) r = ap (λ (l : List ℕ). codes ", " ++ (range_text q ++ l)) (next_push qs r) ∙ ap (λ (l : List ℕ). codes ", " ++ l) (sym (append_assoc (range_text q) (next_ranges qs) (codes ", " ++ range_text r)))

pub next_more : (old : List ℕ) (rs : List Range) (i : ℕ) (x : Range) → i < length rs → x ≡ get_or rs i x → ((old ++ next_ranges (take i rs)) ++ codes ", ") ++ range_text x ≡ old ++ next_ranges (take (i + 1) rs)
next_more old rs i x lt e =
    let step : next_ranges (take (i + 1) rs) ≡ next_ranges (take i rs) ++ (codes ", " ++ range_text x) =
    ap next_ranges (take_more rs i x lt) ∙ ap (λ (r : Range). next_ranges (take i rs ++ r ∷ [])) (sym e) ∙ next_push (take i rs) x in
    append_assoc (old ++ next_ranges (take i rs)) (codes ", ") (range_text x) ∙ append_assoc old (next_ranges (take i rs)) (codes ", " ++ range_text x) ∙ ap (λ (l : List ℕ). old ++ l) (sym step)

accept_is : (r : Range) (rs : List Range) → accept_text (r ∷ rs) ≡ range_text r ++ next_ranges rs
unfolding comma_joined
accept_is r [] = sym (append-nil (range_text r))
accept_is r (q ∷ qs) = ap (λ (l : List ℕ). range_text r ++ (codes ", " ++ l)) (accept_is q qs)

pub accept_none : (rs : List Range) → length rs < 1 → accept_text rs ≡ []
unfolding comma_joined
accept_none [] lt = refl
accept_none (r ∷ rs) lt = absurd (omega (arith, lt))

pub accept_some : (old : List ℕ) (rs : List Range) (x : Range) → 1 ≤ length rs → x ≡ get_or rs 0 x → (old ++ range_text x) ++ next_ranges (take (length rs - 1) (drop 1 rs)) ≡ old ++ accept_text rs
accept_some old [] x le e = absurd (omega (arith, le))
accept_some old (r ∷ rs) x le e =
    let same : range_text x ≡ range_text r = ap range_text e in
    let rest : take (length (r ∷ rs) - 1) rs ≡ rs = take_all (length (r ∷ rs) - 1) rs (omega arith) in
    ap (λ (l : List Range). (old ++ range_text x) ++ next_ranges l) rest ∙ ap (λ (l : List ℕ). (old ++ l) ++ next_ranges rs) same ∙ append_assoc old (range_text r) (next_ranges rs) ∙ ap (λ (l : List ℕ). old ++ l) (sym (accept_is r rs))
