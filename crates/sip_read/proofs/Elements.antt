-- Elements of the lists that are bad where one element is.
use Rattle.std.proofs.Common.{◌≡◌, ℕ, suc, ◌≤◌, List, ◌∷◌, ◌++◌, length, Some, refl, sym, ap, subst, ◌∙◌, arith}
use Rattle.std.specs.Str.{IsUtf8}
use Rattle.std.proofs.lemmas.List.{length-append}
use Rattle.sip_text.specs.declared.scan.Class.TheVariants as class
use Rattle.sip_text.specs.Bytes.{is_in, is_space}
use Rattle.sip_text.specs.Reading.{◌>>=◌, span_at, text_of, elements_of}
use Rattle.sip_text.specs.Grammar.{Stops, AreElements}
use Rattle.sip_text.proofs.Pieces.{Takes, bind_some, some_is, span_takes, span_again, stops_at_spaces}
use Rattle.sip_text.proofs.Utf8.{text_taken, text_again}
use Rattle.sip_text.proofs.CommaLists.{Tail, nothing_behind, comma_behind, tail_ends, elements_take, elements_again, utf8_cuts}
use Rattle.sip_read.specs.declared.datagram.Header.TheVariants as headers
use Rattle.sip_read.specs.declared.value.Listed.{Listed}
use Rattle.sip_read.specs.declared.value.Listed.TheVariants as listed
use Rattle.sip_read.specs.Items.{Item, item, IsElement}
use Rattle.sip_read.specs.ItemsComputed.{token_at, route_at, element_at}
use Rattle.sip_read.specs.ViasComputed.{hop_at}
use Rattle.sip_read.proofs.Hops.{hop_takes, hop_again}
use Rattle.sip_read.proofs.Routes.{route_takes, route_again}

pub element_takes : (k : Listed) (t : List ℕ) (x : Item) (r : List ℕ) → element_at k t ≡ Some (x, r) → Takes (IsElement k) t x r
unfolding token_at
element_takes listed.Via t x r e =
    let b = bind_some (hop_at t) (λ y. Some (item headers.Via y.0, y.1)) (x, r) e in
    let h = hop_takes t b.0.0 b.0.1 b.1 in
    subst (λ (q : Item × List ℕ). Takes (IsElement listed.Via) t q.0 q.1) (some_is (item headers.Via b.0.0, b.0.1) (x, r) b.2) (record { text = h.text; is = (b.0.0, h.is, refl); whole = h.whole })
element_takes listed.Require t x r e =
    let b = bind_some (token_at t) (λ y. Some (item headers.Require y.0, y.1)) (x, r) e in
    let d = bind_some (span_at (is_in class.Token) t) (λ w. text_of w.0 >>= λ y. Some (y, w.1)) b.0 b.1 in
    let f = bind_some (text_of d.0.0) (λ y. Some (y, d.0.1)) b.0 d.2 in
    let w = span_takes class.Token t d.0.0 d.0.1 d.1 in
    let two = some_is (f.0, d.0.1) b.0 f.2 in
    let same : b.0.0 ≡ d.0.0 = sym (ap (λ (q : List ℕ × List ℕ). q.0) two) ∙ (text_taken d.0.0 f.0 f.1).0 in
    let rest : d.0.1 ≡ b.0.1 = ap (λ (q : List ℕ × List ℕ). q.1) two in
    subst (λ (q : Item × List ℕ). Takes (IsElement listed.Require) t q.0 q.1) (some_is (item headers.Require b.0.0, b.0.1) (x, r) b.2)
    (record { text = d.0.0; is = (w.1, ap (item headers.Require) same); whole = w.0 ∙ ap (λ (l : List ℕ). d.0.0 ++ l) rest })
element_takes listed.RecordRoute t x r e =
    let b = bind_some (route_at t) (λ y. Some (item headers.RecordRoute y.0, y.1)) (x, r) e in
    let h = route_takes t b.0.0 b.0.1 b.1 in
    subst (λ (q : Item × List ℕ). Takes (IsElement listed.RecordRoute) t q.0 q.1) (some_is (item headers.RecordRoute b.0.0, b.0.1) (x, r) b.2) (record { text = h.text; is = (h.is, ap (item headers.RecordRoute) h.same); whole = h.whole })

tail_stops_host : {rest : List ℕ} → Tail rest → Stops (is_in class.Host) rest
tail_stops_host nothing_behind = tt
tail_stops_host (comma_behind left more all) = stops_at_spaces (is_in class.Host) (record { sp = refl; ht = refl }) left (44 ∷ more) all refl

pub element_again : (k : Listed) (text : List ℕ) (x : Item) (rest : List ℕ) → IsElement k text x → IsUtf8 text → Tail rest → element_at k (text ++ rest) ≡ Some (x, rest)
unfolding token_at
element_again listed.Via text x rest h u tail = rw (hop_again text h.0 rest h.1 u (tail_ends tail) (tail_stops_host tail), h.2) refl
element_again listed.Require text x rest h u tail = rw (span_again (is_in class.Token) text rest h.0.0 h.0.1 (tail_ends tail).follows.token, text_again text u, h.1) refl
element_again listed.RecordRoute text x rest h u tail = rw (route_again text rest h.0 u (tail_ends tail), h.1) refl

pub element_shortens : (k : Listed) (t : List ℕ) (x : Item) (r : List ℕ) → element_at k t ≡ Some (x, r) → length r ≤ length t
element_shortens k t x r e = let h = element_takes k t x r e in omega (arith, ap length h.whole, length-append h.text r)

pub listed_take : (k : Listed) (t : List ℕ) (xs : List Item) → Stops is_space t → elements_of (element_at k) t ≡ Some xs → AreElements (IsElement k) t xs
listed_take k t xs stops e = elements_take (element_at k) (IsElement k) (element_takes k) (suc (length t)) t xs stops e

pub listed_again : (k : Listed) (t : List ℕ) (xs : List Item) → IsUtf8 t → AreElements (IsElement k) t xs → elements_of (element_at k) t ≡ Some xs
listed_again k t xs u h = elements_again (element_at k) (IsElement k) IsUtf8 utf8_cuts (λ text x rest is utf8 tail. element_again k text x rest is utf8 tail) xs t (suc (length t)) h u (omega arith)
