-- The first line.
use Rattle.std.proofs.Common.{◌≡◌, ℕ, Bool, true, false, eqb, cond, List, ◌∷◌, ◌++◌, length, Option, Some, None, refl, sym, ap, subst, ◌∙◌, arith}
use Rattle.std.specs.Prelude.{codes, ◌&&◌, nat_le}
use Rattle.std.specs.List.{list_all}
use Rattle.std.specs.Str.{IsUtf8, str_eq_ignore_ascii_case}
use Rattle.std.proofs.lemmas.Bool.{eqb-true, eq-eqb}
use Rattle.std.proofs.lemmas.Bool.Decides.{nat_tests}
use Rattle.sip_text.specs.declared.scan.Class.TheVariants as class
use Rattle.sip_text.specs.Bytes.{is_in}
use Rattle.sip_text.specs.Reading.{◌>>=◌, span_at, after_byte, text_of, word_at}
use Rattle.sip_text.specs.Grammar.{AllPassing, IsWord, number_of}
use Rattle.sip_text.proofs.Pieces.{bind_some, some_is, and_both, span_takes, span_again, byte_taken}
use Rattle.sip_text.proofs.Utf8.{text_taken, text_again, text_from_ascii, token_small, uri_small}
use Rattle.sip_text.proofs.Words.{word_at_takes, word_at_again}
use Rattle.sip_read.specs.FirstLine.{First, request, status, IsRequestLine, IsStatusLine, IsFirstLine}
use Rattle.sip_read.specs.FirstLineComputed.{request_line, version_at, status_line, or_status, first_of, first_at}
use Rattle.sip_read.specs.LinesComputed.{line_at}
use Rattle.sip_read.proofs.Lines.{line_takes, line_again}

-- ---- a request line

abbrev request_last : List ℕ → List ℕ → List ℕ → Option First
request_last version m u = cond {A = Option First} (str_eq_ignore_ascii_case version (codes "SIP/2.0")) (Some (request m u)) None

request_takes : (line : List ℕ) (first : First) → request_line line ≡ Some first → IsFirstLine line first
unfolding request_line
request_takes line first e =
    let b = bind_some (word_at (is_in class.Token) line) (λ method. after_byte 32 method.1 >>= λ behind. word_at (is_in class.Uri) behind >>= λ uri. after_byte 32 uri.1 >>= λ version. request_last version method.0 uri.0) first e in
    let c = bind_some (after_byte 32 b.0.1) (λ behind. word_at (is_in class.Uri) behind >>= λ uri. after_byte 32 uri.1 >>= λ version. request_last version b.0.0 uri.0) first b.2 in
    let d = bind_some (word_at (is_in class.Uri) c.0) (λ uri. after_byte 32 uri.1 >>= λ version. request_last version b.0.0 uri.0) first c.2 in
    let f = bind_some (after_byte 32 d.0.1) (λ version. request_last version b.0.0 d.0.0) first d.2 in
    let m = word_at_takes class.Token line b.0.0 b.0.1 b.1 in
    let u = word_at_takes class.Uri c.0 d.0.0 d.0.1 d.1 in
    let whole = m.0 ∙ ap (λ (l : List ℕ). b.0.0 ++ l) (byte_taken 32 b.0.1 c.0 c.1 ∙ ap (λ (l : List ℕ). 32 ∷ l) (u.0 ∙ ap (λ (l : List ℕ). d.0.0 ++ l) (byte_taken 32 d.0.1 f.0 f.1))) in
    made b.0.0 d.0.0 f.0 whole m.1 u.1 (str_eq_ignore_ascii_case f.0 (codes "SIP/2.0")) refl f.2 where
      made : (method uri version : List ℕ) → line ≡ method ++ 32 ∷ (uri ++ 32 ∷ version) → IsWord class.Token method → IsWord class.Uri uri
          → (b : Bool) → str_eq_ignore_ascii_case version (codes "SIP/2.0") ≡ b → cond {A = Option First} b (Some (request method uri)) None ≡ Some first → IsFirstLine line first
      made method uri version whole m u true sip e = subst (IsFirstLine line) (some_is (request method uri) first e) (record { version = version; is_method = m; is_uri = u; sip = sip; whole = whole })
      made method uri version whole m u false sip e = absurd cc

request_again : (line method uri : List ℕ) → IsRequestLine line method uri → request_line line ≡ Some (request method uri)
unfolding request_line
request_again line method uri w =
    let second : word_at (is_in class.Token) line ≡ Some (method, 32 ∷ (uri ++ 32 ∷ w.version)) = ap (word_at (is_in class.Token)) w.whole ∙ word_at_again class.Token token_small method (32 ∷ (uri ++ 32 ∷ w.version)) w.is_method refl in
    let third : word_at (is_in class.Uri) (uri ++ 32 ∷ w.version) ≡ Some (uri, 32 ∷ w.version) = word_at_again class.Uri uri_small uri (32 ∷ w.version) w.is_uri refl in
    rw (second, third, w.sip) refl

-- ---- a status line

record TakesVersion (line rest : List ℕ) : Type 0 where
  name : List ℕ
  version : List ℕ
  is_name : IsWord class.Token name
  is_version : IsWord class.Token version
  sip : str_eq_ignore_ascii_case name (codes "SIP") ≡ true
  two : str_eq_ignore_ascii_case version (codes "2.0") ≡ true
  whole : line ≡ name ++ 47 ∷ (version ++ 32 ∷ rest)

version_takes : (line rest : List ℕ) → version_at line ≡ Some rest → TakesVersion line rest
unfolding version_at
version_takes line rest e =
    let last = λ (n v z : List ℕ). cond {A = Option (List ℕ)} (str_eq_ignore_ascii_case n (codes "SIP") && str_eq_ignore_ascii_case v (codes "2.0")) (Some z) None in
    let a = bind_some (span_at (is_in class.Token) line) (λ n. after_byte 47 n.1 >>= λ r. span_at (is_in class.Token) r >>= λ v. after_byte 32 v.1 >>= λ z. last n.0 v.0 z) rest e in
    let b = bind_some (after_byte 47 a.0.1) (λ r. span_at (is_in class.Token) r >>= λ v. after_byte 32 v.1 >>= λ z. last a.0.0 v.0 z) rest a.2 in
    let c = bind_some (span_at (is_in class.Token) b.0) (λ v. after_byte 32 v.1 >>= λ z. last a.0.0 v.0 z) rest b.2 in
    let d = bind_some (after_byte 32 c.0.1) (λ z. last a.0.0 c.0.0 z) rest c.2 in
    let n = span_takes class.Token line a.0.0 a.0.1 a.1 in
    let v = span_takes class.Token b.0 c.0.0 c.0.1 c.1 in
    made a.0.0 c.0.0 d.0 n.1 v.1 (n.0 ∙ ap (λ (l : List ℕ). a.0.0 ++ l) (byte_taken 47 a.0.1 b.0 b.1 ∙ ap (λ (l : List ℕ). 47 ∷ l) (v.0 ∙ ap (λ (l : List ℕ). c.0.0 ++ l) (byte_taken 32 c.0.1 d.0 d.1))))
    (str_eq_ignore_ascii_case a.0.0 (codes "SIP") && str_eq_ignore_ascii_case c.0.0 (codes "2.0")) refl d.2 where
      made : (n v z : List ℕ) → IsWord class.Token n → IsWord class.Token v → line ≡ n ++ 47 ∷ (v ++ 32 ∷ z) → (q : Bool) → (str_eq_ignore_ascii_case n (codes "SIP") && str_eq_ignore_ascii_case v (codes "2.0")) ≡ q
          → cond {A = Option (List ℕ)} q (Some z) None ≡ Some rest → TakesVersion line rest
      made n v z wn wv whole true good e =
          let both = and_both (str_eq_ignore_ascii_case n (codes "SIP")) (str_eq_ignore_ascii_case v (codes "2.0")) good in
          record { name = n; version = v; is_name = wn; is_version = wv; sip = both.0; two = both.1; whole = whole ∙ ap (λ (l : List ℕ). n ++ 47 ∷ (v ++ 32 ∷ l)) (some_is z rest e) }
      made n v z wn wv whole false bad e = absurd cc

abbrev good : List ℕ → List ℕ → Bool
good digits reason = eqb (length digits) 3 && (nat_le 100 (number_of digits) && (nat_le (number_of digits) 699 && list_all (is_in class.Shown) reason))

abbrev last : List ℕ → List ℕ → Option First
last digits reason = cond {A = Option First} (good digits reason) (Some (status (number_of digits) reason)) None

status_takes : (line : List ℕ) (first : First) → status_line line ≡ Some first → IsFirstLine line first
unfolding status_line
status_takes line first e =
    let a = bind_some (version_at line) (λ r. span_at (is_in class.Digit) r >>= λ d. after_byte 32 d.1 >>= λ z. text_of z >>= λ t. last d.0 t) first e in
    let b = bind_some (span_at (is_in class.Digit) a.0) (λ d. after_byte 32 d.1 >>= λ z. text_of z >>= λ t. last d.0 t) first a.2 in
    let c = bind_some (after_byte 32 b.0.1) (λ z. text_of z >>= λ t. last b.0.0 t) first b.2 in
    let d = bind_some (text_of c.0) (λ t. last b.0.0 t) first c.2 in
    let v = version_takes line a.0 a.1 in
    let w = span_takes class.Digit a.0 b.0.0 b.0.1 b.1 in
    let t = text_taken c.0 d.0 d.1 in
    made b.0.0 d.0 v w.1 (subst IsUtf8 (sym t.0) t.1) (w.0 ∙ ap (λ (l : List ℕ). b.0.0 ++ l) (byte_taken 32 b.0.1 c.0 c.1) ∙ ap (λ (l : List ℕ). b.0.0 ++ 32 ∷ l) (sym t.0)) (good b.0.0 d.0) refl d.2 where
      made : (digits reason : List ℕ) {r : List ℕ} → TakesVersion line r → IsWord class.Digit digits → IsUtf8 reason → r ≡ digits ++ 32 ∷ reason → (q : Bool) → good digits reason ≡ q → cond {A = Option First} q (Some (status (number_of digits) reason)) None ≡ Some first → IsFirstLine line first
      made digits reason v w u at true all e =
          let one = and_both (eqb (length digits) 3) _ all in
          let two = and_both (nat_le 100 (number_of digits)) _ one.1 in
          let three = and_both (nat_le (number_of digits) 699) _ two.1 in
          subst (IsFirstLine line) (some_is (status (number_of digits) reason) first e)
          (record {
            name = v.name;
            version = v.version;
            digits = digits;
            is_name = v.is_name;
            is_version = v.is_version;
            sip = v.sip;
            two = v.two;
            are_digits = w;
            three = eqb-true (length digits) 3 one.0;
            number = refl;
            least = grind (arith, nat_tests);
            most = grind (arith, nat_tests);
            no_control = three.1;
            is_text = u;
            whole = v.whole ∙ ap (λ (l : List ℕ). v.name ++ 47 ∷ (v.version ++ 32 ∷ l)) at;
          })
      made digits reason v w u at false bad e = absurd cc

status_again : (line : List ℕ) (code : ℕ) (reason : List ℕ) → IsStatusLine line code reason → status_line line ≡ Some (status code reason)
unfolding status_line version_at
status_again line code reason h =
    let rest : List ℕ = h.digits ++ 32 ∷ reason in
    let one : version_at line ≡ Some rest = ap version_at h.whole ∙ rw (
      span_again (is_in class.Token) h.name (47 ∷ (h.version ++ 32 ∷ rest)) h.is_name.0 h.is_name.1 refl,
      span_again (is_in class.Token) h.version (32 ∷ rest) h.is_version.0 h.is_version.1 refl,
      h.sip,
      h.two,
    ) refl in
    let low : nat_le 100 (number_of h.digits) ≡ true = (let k = h.least in let m = h.number in grind (arith, nat_tests)) in
    let high : nat_le (number_of h.digits) 699 ≡ true = (let k = h.most in let m = h.number in grind (arith, nat_tests)) in
    rw (one, span_again (is_in class.Digit) h.digits (32 ∷ reason) h.are_digits.0 h.are_digits.1 refl, text_again reason h.is_text, eq-eqb (length h.digits) 3 h.three, low, high, h.no_control, ← h.number) refl

-- a status line is no request line: behind its first token stands a slash
not_request : (line : List ℕ) (code : ℕ) (reason : List ℕ) → IsStatusLine line code reason → request_line line ≡ None
unfolding request_line
not_request line code reason h =
    let rest : List ℕ = h.version ++ 32 ∷ (h.digits ++ 32 ∷ reason) in
    let one : word_at (is_in class.Token) line ≡ Some (h.name, 47 ∷ rest) = ap (word_at (is_in class.Token)) h.whole ∙ word_at_again class.Token token_small h.name (47 ∷ rest) h.is_name refl in
    rw one refl

-- ---- the first line of a datagram

abbrev Begins : List ℕ → First → List ℕ → Type 0
Begins bytes first section = (line : List ℕ) × AllPassing (is_in class.Line) line × IsFirstLine line first × (bytes ≡ line ++ 13 ∷ 10 ∷ section)

first_of_takes : (line : List ℕ) (first : First) → first_of line ≡ Some first → IsFirstLine line first
first_of_takes line first e = step (request_line line) refl e where
  step : (o : Option First) → request_line line ≡ o → or_status line o ≡ Some first → IsFirstLine line first
  step None is e = status_takes line first e
  step (Some r) is e = request_takes line first (is ∙ e)

first_of_again : (line : List ℕ) (first : First) → IsFirstLine line first → first_of line ≡ Some first
first_of_again line (request method uri) h = ap (or_status line) (request_again line method uri h)
first_of_again line (status code reason) h = ap (or_status line) (not_request line code reason h) ∙ status_again line code reason h

pub first_takes : (bytes : List ℕ) (first : First) (section : List ℕ) → first_at bytes ≡ Some (first, section) → Begins bytes first section
unfolding first_at
first_takes bytes first section e =
    let a = bind_some (line_at bytes) (λ l. first_of l.0 >>= λ f. Some (f, l.1)) (first, section) e in
    let b = bind_some (first_of a.0.0) (λ f. Some (f, a.0.1)) (first, section) a.2 in
    let l = line_takes bytes a.0.0 a.0.1 a.1 in
    subst (λ (q : First × List ℕ). Begins bytes q.0 q.1) (some_is (b.0, a.0.1) (first, section) b.2) (a.0.0, l.1, first_of_takes a.0.0 b.0 b.1, l.0)

pub first_again : (bytes : List ℕ) (first : First) (section : List ℕ) → Begins bytes first section → first_at bytes ≡ Some (first, section)
unfolding first_at
first_again bytes first section h =
    let one : line_at bytes ≡ Some (h.0, section) = ap line_at h.3 ∙ line_again h.0 section h.1 in
    rw (one, first_of_again h.0 first h.2) refl

-- ---- step by step: behind its first token a request line has a space, and a status line a slash

token_text : (line word rest : List ℕ) → span_at (is_in class.Token) line ≡ Some (word, rest) → word_at (is_in class.Token) line ≡ Some (word, rest)
unfolding word_at
token_text line word rest e = rw (e, text_again word (text_from_ascii (is_in class.Token) token_small word (span_takes class.Token line word rest e).1.0)) refl

token_span : (line : List ℕ) (o : Option (List ℕ × List ℕ)) → word_at (is_in class.Token) line ≡ o → span_at (is_in class.Token) line ≡ o
unfolding word_at
token_span line o is = step (span_at (is_in class.Token) line) refl where
  step : (s : Option (List ℕ × List ℕ)) → span_at (is_in class.Token) line ≡ s → s ≡ o
  step None e = let none : word_at (is_in class.Token) line ≡ None = rw e refl in sym none ∙ is
  step (Some x) e = sym (token_text line x.0 x.1 e) ∙ is

no_status : (line : List ℕ) → version_at line ≡ None → status_line line ≡ None
unfolding status_line
no_status line e = rw e refl

no_token : (line : List ℕ) → word_at (is_in class.Token) line ≡ None → first_of line ≡ None
unfolding request_line version_at
no_token line is =
    let no_request : request_line line ≡ None = rw is refl in
    let no_version : version_at line ≡ None = rw (token_span line None is) refl in
    ap (or_status line) no_request ∙ no_status line no_version

not_status : (line word rest behind : List ℕ) → word_at (is_in class.Token) line ≡ Some (word, rest) → after_byte 32 rest ≡ Some behind → status_line line ≡ None
unfolding version_at
not_status line word rest behind is space =
    let no_slash : after_byte 47 rest ≡ None = rw (byte_taken 32 rest behind space) refl in
    no_status line (rw (token_span line (Some (word, rest)) is, no_slash) refl)

module _ (bytes line section : List ℕ) (is : line_at bytes ≡ Some (line, section)) where
  none_first : first_of line ≡ None → first_at bytes ≡ None
  unfolding first_at
  none_first e = rw (is, e) refl

  some_first : (first : First) → first_of line ≡ Some first → first_at bytes ≡ Some (first, section)
  unfolding first_at
  some_first first e = rw (is, e) refl

  pub begins_bare : word_at (is_in class.Token) line ≡ None → first_at bytes ≡ None
  begins_bare none = none_first (no_token line none)

  module _ (word rest : List ℕ) (token : word_at (is_in class.Token) line ≡ Some (word, rest)) where
    status_only : after_byte 32 rest ≡ None → first_of line ≡ status_line line
    unfolding request_line
    status_only none = let no_request : request_line line ≡ None = rw (token, none) refl in ap (or_status line) no_request

    pub no_first : after_byte 32 rest ≡ None → status_line line ≡ None → first_at bytes ≡ None
    no_first none other = none_first (status_only none ∙ other)

    pub status_first : after_byte 32 rest ≡ None → (first : First) → status_line line ≡ Some first → first_at bytes ≡ Some (first, section)
    status_first none first is_status = some_first first (status_only none ∙ is_status)

    module _ (behind : List ℕ) (space : after_byte 32 rest ≡ Some behind) where
      no_request : request_line line ≡ None → first_at bytes ≡ None
      no_request none = none_first (ap (or_status line) none ∙ not_status line word rest behind token space)

      pub no_uri : word_at (is_in class.Uri) behind ≡ None → first_at bytes ≡ None
      unfolding request_line
      no_uri e = no_request (rw (token, space, e) refl)

      module _ (uri more : List ℕ) (is_uri : word_at (is_in class.Uri) behind ≡ Some (uri, more)) where
        pub no_version : after_byte 32 more ≡ None → first_at bytes ≡ None
        unfolding request_line
        no_version e = no_request (rw (token, space, is_uri, e) refl)

        pub other_version : (version : List ℕ) → after_byte 32 more ≡ Some version → str_eq_ignore_ascii_case version (codes "SIP/2.0") ≡ false → first_at bytes ≡ None
        unfolding request_line
        other_version version e other = no_request (rw (token, space, is_uri, e, other) refl)

        pub request_first : (version : List ℕ) → after_byte 32 more ≡ Some version → str_eq_ignore_ascii_case version (codes "SIP/2.0") ≡ true → first_at bytes ≡ Some (request word uri, section)
        unfolding request_line
        request_first version e sip =
            let found : request_line line ≡ Some (request word uri) = rw (token, space, is_uri, e, sip) refl in
            some_first (request word uri) (ap (or_status line) found)
