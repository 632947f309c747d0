-- What the reader computes is what the bytes are.
use Rattle.std.proofs.Common.{◌≡◌, ℕ, ◌≤◌, ◌<◌, Bool, true, false, eqb, ltb, cond, List, [], ◌∷◌, length, take, Option, Some, None, option_map, Result, Ok, Err, refl, sym, ap, subst, ◌∙◌, arith, map, inl, inr}
use Rattle.std.specs.Prelude.{◌⊎◌}
use Rattle.std.proofs.lemmas.Bool.{ltb-true, lt-ltb, ltb-false, le-ltb, ne_eqb}
use Rattle.std.proofs.lemmas.List.{length-append}
use Rattle.sip_text.specs.declared.field.Field.{Field}
use Rattle.sip_text.specs.declared.field.Field.TheVariants as field
use Rattle.sip_text.specs.Grammar.{number_of}
use Rattle.sip_text.specs.Reading.{◌>>=◌}
use Rattle.event_headers.specs.Headers.{IsEvent, EventFits, IsExpires, Fits, IsAccept, RangesFit}
use Rattle.event_headers.specs.HeaderReading.{event_of, event_fits, expires_of, expires_fits, accept_of, ranges_fit}
use Rattle.event_headers.proofs.Events.{event_takes, event_again, event_fit, event_large}
use Rattle.event_headers.proofs.Expiries.{expires_takes, expires_again, expires_fit, expires_large}
use Rattle.event_headers.proofs.Ranges.{accept_takes, accept_again, ranges_are_fit, ranges_are_large}
use Rattle.sip_read.proofs.Kept.{kept_takes, kept_again}
use Rattle.sip_read.specs.declared.value.Sequence.{Sequence}
use Rattle.sip_read.specs.declared.error.HeaderName.{HeaderName}
use Rattle.sip_read.specs.declared.error.HeaderName.TheVariants as names
use Rattle.sip_read.specs.declared.error.ReadError.{ReadError}
use Rattle.sip_read.specs.declared.error.ReadError.TheVariants as errors
use Rattle.sip_read.specs.declared.datagram.Header.TheVariants as headers
use Rattle.sip_read.specs.declared.message.Head.{Head}
use Rattle.sip_read.specs.declared.message.Message.{Message}
use Rattle.sip_read.specs.declared.message.Message.TheVariants as messages
use Rattle.sip_read.specs.declared.message.Party.{Party}
use Rattle.sip_read.specs.declared.message.Request.{Request}
use Rattle.sip_read.specs.declared.message.Response.{Response}
use Rattle.sip_read.specs.declared.message.Via.{Via}
use Rattle.event_headers.specs.Values.{EventValue, Range}
use Rattle.sip_read.specs.Addresses.{IsContact}
use Rattle.sip_read.specs.AddressesComputed.{contact_of}
use Rattle.sip_read.specs.FieldsComputed.{event_kept, expires_kept, accept_kept}
use Rattle.sip_read.specs.FirstLine.{First, request, status}
use Rattle.sip_read.specs.FirstLineComputed.{first_at}
use Rattle.sip_read.specs.GatheredComputed.{Gathered, nothing, capped, with_items, gather}
use Rattle.sip_read.specs.Items.{Item, values_of}
use Rattle.sip_read.specs.ItemsComputed.{section_of, items_of}
use Rattle.sip_read.specs.LinesComputed.{lines_of}
use Rattle.sip_read.specs.Message.{HasItems, HasHead, doubled, joined_lines, with_commas, IsHead, IsBody, IsField, IsKept, IsRequest, IsResponse, Reads, Wrong, Says, Answers, IsReading}
use Rattle.sip_read.specs.MessageComputed.{◌then◌, or_else, refused, head_of, body_of, value_or_bad, accept_field, request_of, finished, message_of, read_of}
use Rattle.sip_read.specs.MessageComputed as computed
use Rattle.sip_read.specs.OnceComputed.{is_several, field_of}
use Rattle.sip_read.specs.ReferSub.{IsReferSub}
use Rattle.sip_read.specs.ValuesComputed.{refer_sub_of}
use Rattle.sip_read.specs.Vias.{Hop, via_of}
use Rattle.sip_read.proofs.FirstLines.{first_takes, first_again}
use Rattle.sip_read.proofs.GatheredLists.{once_of, top_of, texts, accept_of_lines, gathered_of, gathered_is}
use Rattle.sip_read.proofs.HeaderItems.{items_take, items_again}
use Rattle.sip_read.proofs.Parties.{contact_takes, contact_again}
use Rattle.sip_read.proofs.ReferSubs.{refer_sub_takes, refer_sub_again}
use Rattle.sip_read.proofs.Sections.{lines_take, lines_again}

-- ---- the section

abbrev section_found : List Item → List ℕ → Option (List Item × List ℕ)
section_found xs r = Some (xs, r)

section_takes : (t : List ℕ) (xs : List Item) (rest : List ℕ) → section_of t ≡ Some (xs, rest) → HasItems t xs rest
section_takes t xs rest e = lines (lines_of t) refl e where
  items : (h : List (List ℕ) × List ℕ) → lines_of t ≡ Some h → (o : Option (List Item)) → items_of h.0 ≡ o → (o >>= λ ys. section_found ys h.1) ≡ Some (xs, rest) → HasItems t xs rest
  items h is None none e = absurd cc
  items h is (Some ys) found e =
      let pair : (ys, h.1) ≡ (xs, rest) = cc in
      subst (λ (q : List Item × List ℕ). HasItems t q.0 q.1) pair (h.0, lines_take (length t) t h.0 h.1 is, items_take h.0 ys found)

  lines : (o : Option (List (List ℕ) × List ℕ)) → lines_of t ≡ o → (o >>= λ h. items_of h.0 >>= λ ys. section_found ys h.1) ≡ Some (xs, rest) → HasItems t xs rest
  lines None is e = absurd cc
  lines (Some h) is e = items h is (items_of h.0) refl e

section_again : (t : List ℕ) (xs : List Item) (rest : List ℕ) → HasItems t xs rest → section_of t ≡ Some (xs, rest)
section_again t xs rest h = rw (lines_again h.0 t rest (length t) h.1 (omega arith), items_again h.0 xs h.2) refl

-- ---- at most one

several_ltb : {T : Type 0} (ys : List T) → is_several (once_of ys) ≡ ltb 1 (length ys)
several_ltb [] = refl
several_ltb (x ∷ []) = sym (le-ltb 1 (length (x ∷ [])) (omega arith))
several_ltb (x ∷ y ∷ ys) = sym (lt-ltb 1 (length (x ∷ y ∷ ys)) (omega arith))

several_capped : (ds : List (List ℕ)) → is_several (once_of (map capped ds)) ≡ ltb 1 (length ds)
several_capped [] = refl
several_capped (x ∷ []) = sym (le-ltb 1 (length (x ∷ [])) (omega arith))
several_capped (x ∷ y ∷ ys) = sym (lt-ltb 1 (length (x ∷ y ∷ ys)) (omega arith))

doubled_same : (xs : List Item) → computed.doubled (gathered_of xs) ≡ doubled xs
doubled_same xs = rw (several_ltb (values_of headers.From xs), several_ltb (values_of headers.To xs), several_ltb (values_of headers.CallId xs), several_ltb (values_of headers.CSeq xs), several_capped (values_of headers.ContentLength xs)) refl

cond_none : (b : Bool) (n : HeaderName) (o : Option HeaderName) → cond b (Some n) o ≡ None → (b ≡ false) × (o ≡ None)
cond_none true n o e = absurd cc
cond_none false n o e = (refl, e)

abbrev doubled5 : ℕ → ℕ → ℕ → ℕ → ℕ → Option HeaderName
doubled5 f t i c l = cond (ltb 1 f) (Some names.From) (cond (ltb 1 t) (Some names.To) (cond (ltb 1 i) (Some names.CallId) (cond (ltb 1 c) (Some names.CSeq) (cond (ltb 1 l) (Some names.ContentLength) None))))

record Single (f t i c l : ℕ) : Type 0 where
  from : f ≤ 1
  to : t ≤ 1
  call_id : i ≤ 1
  cseq : c ≤ 1
  lengths : l ≤ 1

single : (f t i c l : ℕ) → doubled5 f t i c l ≡ None → Single f t i c l
single f t i c l e =
    let a = cond_none (ltb 1 f) names.From _ e in
    let b = cond_none (ltb 1 t) names.To _ a.1 in
    let d = cond_none (ltb 1 i) names.CallId _ b.1 in
    let g = cond_none (ltb 1 c) names.CSeq _ d.1 in
    let k = cond_none (ltb 1 l) names.ContentLength None g.1 in
    record { from = ltb-false _ _ a.0; to = ltb-false _ _ b.0; call_id = ltb-false _ _ d.0; cseq = ltb-false _ _ g.0; lengths = ltb-false _ _ k.0 }

not_doubled : (f t i c l : ℕ) → Single f t i c l → doubled5 f t i c l ≡ None
not_doubled f t i c l s = rw (le-ltb 1 f s.from, le-ltb 1 t s.to, le-ltb 1 i s.call_id, le-ltb 1 c s.cseq, le-ltb 1 l s.lengths) refl

-- ---- what has to stand

not_empty : {A : Type 0} (x : A) (xs : List A) → eqb (length (x ∷ xs)) 0 ≡ false
not_empty x xs = ne_eqb (length (x ∷ xs)) 0 (λ e. omega (arith, e))

two_many : {A : Type 0} (x y : A) (xs : List A) → length (x ∷ y ∷ xs) ≤ 1 → ⊥
two_many x y xs h = omega (arith, h)

abbrev absent5 : List Hop → List Party → List Party → List (List ℕ) → List Sequence → Option HeaderName
absent5 h f t i c = cond (eqb (length h) 0) (Some names.Via) (cond (eqb (length f) 0) (Some names.From) (cond (eqb (length t) 0) (Some names.To) (cond (eqb (length i) 0) (Some names.CallId) (cond (eqb (length c) 0) (Some names.CSeq) None))))

abbrev head5 : List Hop → List Party → List Party → List (List ℕ) → List Sequence → Result Head ReadError
head5 h f t i c = head_of (texts h) (top_of h) (once_of f) (once_of t) (once_of i) (once_of c)

record Lacks (h : List Hop) (f t : List Party) (i : List (List ℕ)) (c : List Sequence) (n : HeaderName) : Type 0 where
  first : absent5 h f t i c ≡ Some n
  told : head5 h f t i c ≡ Err (errors.Missing n)

record Has (h : List Hop) (f t : List Party) (i : List (List ℕ)) (c : List Sequence) (head : Head) : Type 0 where
  none : absent5 h f t i c ≡ None
  told : head5 h f t i c ≡ Ok head
  top : Hop
  others : List Hop
  hops : h ≡ top ∷ others
  vias : head.vias ≡ top.text ∷ texts others
  top_via : head.top ≡ via_of top
  from : f ≡ head.from ∷ []
  to : t ≡ head.to ∷ []
  call_id : i ≡ head.call_id ∷ []
  cseq : c ≡ record { number = head.cseq; method = head.cseq_method } ∷ []

abbrev Decided : List Hop → List Party → List Party → List (List ℕ) → List Sequence → Type 0
Decided h f t i c = ((n : HeaderName) × Lacks h f t i c n) ⊎ ((head : Head) × Has h f t i c head)

decide : (h : List Hop) (f t : List Party) (i : List (List ℕ)) (c : List Sequence) → length f ≤ 1 → length t ≤ 1 → length i ≤ 1 → length c ≤ 1 → Decided h f t i c
unfolding head_of
decide [] f t i c lf lt li lc = inl (names.Via, record { first = refl; told = refl })
decide (a ∷ h) [] t i c lf lt li lc = inl (names.From, record { first = rw (not_empty a h) refl; told = refl })
decide (a ∷ h) (b ∷ d ∷ f) t i c lf lt li lc = absurd (two_many b d f lf)
decide (a ∷ h) (b ∷ []) [] i c lf lt li lc = inl (names.To, record { first = rw (not_empty a h) refl; told = refl })
decide (a ∷ h) (b ∷ []) (d ∷ e ∷ t) i c lf lt li lc = absurd (two_many d e t lt)
decide (a ∷ h) (b ∷ []) (d ∷ []) [] c lf lt li lc = inl (names.CallId, record { first = rw (not_empty a h) refl; told = refl })
decide (a ∷ h) (b ∷ []) (d ∷ []) (g ∷ k ∷ i) c lf lt li lc = absurd (two_many g k i li)
decide (a ∷ h) (b ∷ []) (d ∷ []) (g ∷ []) [] lf lt li lc = inl (names.CSeq, record { first = rw (not_empty a h) refl; told = refl })
decide (a ∷ h) (b ∷ []) (d ∷ []) (g ∷ []) (k ∷ l ∷ c) lf lt li lc = absurd (two_many k l c lc)
decide (a ∷ h) (b ∷ []) (d ∷ []) (g ∷ []) (k ∷ []) lf lt li lc =
    inr (
      record { vias = a.text ∷ texts h; top = via_of a; from = b; to = d; call_id = g; cseq = k.number; cseq_method = k.method },
      record { none = rw (not_empty a h) refl; told = refl; top = a; others = h; hops = refl; vias = refl; top_via = refl; from = refl; to = refl; call_id = refl; cseq = refl },
    )

abbrev head_items : List Item → Result Head ReadError
head_items xs = head5 (values_of headers.Via xs) (values_of headers.From xs) (values_of headers.To xs) (values_of headers.CallId xs) (values_of headers.CSeq xs)

decide_items : (xs : List Item) → doubled xs ≡ None → Decided (values_of headers.Via xs) (values_of headers.From xs) (values_of headers.To xs) (values_of headers.CallId xs) (values_of headers.CSeq xs)
decide_items xs none =
    let s = single (length (values_of headers.From xs)) (length (values_of headers.To xs)) (length (values_of headers.CallId xs)) (length (values_of headers.CSeq xs)) (length (values_of headers.ContentLength xs)) none in
    decide (values_of headers.Via xs) (values_of headers.From xs) (values_of headers.To xs) (values_of headers.CallId xs) (values_of headers.CSeq xs) s.from s.to s.call_id s.cseq

lengths_single : (xs : List Item) → doubled xs ≡ None → length (values_of headers.ContentLength xs) ≤ 1
lengths_single xs none = (single (length (values_of headers.From xs)) (length (values_of headers.To xs)) (length (values_of headers.CallId xs)) (length (values_of headers.CSeq xs)) (length (values_of headers.ContentLength xs)) none).lengths

-- a head with other Via values
abbrev head_with : List (List ℕ) → Via → Head → Head
head_with vs t head = record { vias = vs; top = t; from = head.from; to = head.to; call_id = head.call_id; cseq = head.cseq; cseq_method = head.cseq_method }

same_head : (vs : List (List ℕ)) (t : Via) (head : Head) → head.vias ≡ vs → head.top ≡ t → head_with vs t head ≡ head
same_head vs t head v k = sym (ap (λ (l : List (List ℕ)). head_with l t head) v) ∙ sym (ap (λ (x : Via). head_with head.vias x head) k)

head_told : (xs : List Item) (head : Head) → IsHead xs head → head_items xs ≡ Ok head
unfolding head_of
head_told xs head h =
    let found : head_items xs ≡ Ok (head_with (h.top.text ∷ texts h.others) (via_of h.top) head) = rw (h.hops, h.from, h.to, h.call_id, h.cseq) refl in
    found ∙ ap (λ (x : Head). Ok x) (same_head (h.top.text ∷ texts h.others) (via_of h.top) head h.vias h.top_via)

head_single : (xs : List Item) (head : Head) → IsHead xs head → length (values_of headers.ContentLength xs) ≤ 1 → doubled xs ≡ None
head_single xs head h l = not_doubled (length (values_of headers.From xs)) (length (values_of headers.To xs)) (length (values_of headers.CallId xs)) (length (values_of headers.CSeq xs)) (length (values_of headers.ContentLength xs))
    (record { from = omega (arith, ap length h.from); to = omega (arith, ap length h.to); call_id = omega (arith, ap length h.call_id); cseq = omega (arith, ap length h.cseq); lengths = l })

-- ---- the body

-- what a Content-Length line and the rest come to
record Short (ls : List (List ℕ)) (rest : List ℕ) : Type 0 where
  told : body_of (once_of (map capped ls)) rest ≡ Err errors.ShortBody
  is : (d : List ℕ) × (ls ≡ d ∷ []) × (length rest < number_of d)

record Long (ls : List (List ℕ)) (rest body : List ℕ) : Type 0 where
  told : body_of (once_of (map capped ls)) rest ≡ Ok body
  is : IsBody ls rest body

body_cases : (ls : List (List ℕ)) (rest : List ℕ) → length ls ≤ 1 → length rest ≤ 65535 → Short ls rest ⊎ ((body : List ℕ) × Long ls rest body)
body_cases [] rest one small = inr (rest, record { told = refl; is = refl })
body_cases (d ∷ e ∷ ls) rest one small = absurd (two_many d e ls one)
body_cases (d ∷ []) rest one small = step (ltb (length rest) (capped d)) refl where
  step : (b : Bool) → ltb (length rest) (capped d) ≡ b → Short (d ∷ []) rest ⊎ ((body : List ℕ) × Long (d ∷ []) rest body)
  step true short =
      let lt : length rest < capped d = ltb-true _ _ short in
      inl (record { told = rw short refl; is = (d, refl, omega (arith, lt)) })
  step false long =
      let le : capped d ≤ length rest = ltb-false _ _ long in
      let same : capped d ≡ number_of d = omega (arith, le, small) in
      inr (take (number_of d) rest, record { told = rw (long, same) refl; is = (omega (arith, le, same), refl) })

body_told : (ls : List (List ℕ)) (rest body : List ℕ) → length rest ≤ 65535 → IsBody ls rest body → (body_of (once_of (map capped ls)) rest ≡ Ok body) × (length ls ≤ 1)
body_told [] rest body small h = (ap (λ (b : List ℕ). Ok b) (sym h), omega arith)
body_told (d ∷ []) rest body small h =
    let same : capped d ≡ number_of d = omega (arith, h.0, small) in
    let long : ltb (length rest) (number_of d) ≡ false = le-ltb (length rest) (number_of d) h.0 in
    (rw (same, long, h.1) refl, omega arith)
body_told (d ∷ e ∷ ds) rest body small h = absurd h

short_told : (ls : List (List ℕ)) (rest d : List ℕ) → length rest ≤ 65535 → ls ≡ d ∷ [] → length rest < number_of d → body_of (once_of (map capped ls)) rest ≡ Err errors.ShortBody
short_told ls rest d small is lt =
    let short : ltb (length rest) (capped d) ≡ true = lt-ltb _ _ (omega (arith, lt, small)) in
    rw (is, short) refl

-- ---- what may stand

module _ {A : Type 0} (Is : List ℕ → A → Type 0) (reads : List ℕ → Option A) (takes : (v : List ℕ) (x : A) → reads v ≡ Some x → Is v x) (again : (v : List ℕ) (x : A) → Is v x → reads v ≡ Some x) where
  field_takes : (vs : List (List ℕ)) → IsField Is vs (field_of (once_of (map reads vs)))
  field_takes [] = refl
  field_takes (v ∷ []) = step (reads v) refl where
    step : (o : Option A) → reads v ≡ o → IsField Is (v ∷ []) (field_of (once_of (o ∷ [])))
    step None none = λ x is. let k : reads v ≡ Some x = again v x is in absurd cc
    step (Some x) e = takes v x e
  field_takes (v ∷ w ∷ vs) = refl

  field_told : (vs : List (List ℕ)) (f : Field A) → IsField Is vs f → field_of (once_of (map reads vs)) ≡ f
  field_told [] f h = sym h
  field_told (v ∷ []) field.Absent h = absurd h
  field_told (v ∷ []) field.Bad h = step (reads v) refl where
    step : (o : Option A) → reads v ≡ o → field_of (once_of (o ∷ [])) ≡ field.Bad
    step None none = refl
    step (Some x) e = absurd (h x (takes v x e))
  field_told (v ∷ []) (field.Value x) h = rw (again v x h) refl
  field_told (v ∷ w ∷ vs) f h = sym h

accept_same : (vs : List (List ℕ)) → accept_field (accept_of_lines vs) ≡ field_of (once_of (map accept_kept (joined_lines vs)))
accept_same [] = refl
accept_same (v ∷ vs) = step (accept_kept (with_commas v vs)) where
  step : (o : Option (List Range)) → value_or_bad o ≡ field_of (once_of (o ∷ []))
  step None = refl
  step (Some x) = refl

-- ---- how long the rest is

rest_small : (bytes : List ℕ) (first : First) (xs : List Item) (rest : List ℕ) → HasHead bytes first xs rest → length rest ≤ 65535
rest_small bytes first xs rest h =
    let line = h.1.1 in
    let s = h.2.1 in
    omega (arith, h.1.0, ap length line.3, length-append line.0 (13 ∷ 10 ∷ h.0), ap length s.2, length-append s.0 (13 ∷ 10 ∷ rest))

-- ---- what the function gives is right

module _ (bytes : List ℕ) (xs : List Item) (rest : List ℕ) where
  is_head : (head : Head) → Has (values_of headers.Via xs) (values_of headers.From xs) (values_of headers.To xs) (values_of headers.CallId xs) (values_of headers.CSeq xs) head → IsHead xs head
  is_head head h = record { top = h.top; others = h.others; hops = h.hops; vias = h.vias; top_via = h.top_via; from = h.from; to = h.to; call_id = h.call_id; cseq = h.cseq }

  says_finished : (first : First) → HasHead bytes first xs rest → (head : Head) → IsHead xs head → (body : List ℕ) → IsBody (values_of headers.ContentLength xs) rest body → Reads bytes (finished first head (gathered_of xs).fields body)
  says_finished (request method uri) cut head is body is_body = record {
    items = xs;
    rest = rest;
    cut = cut;
    head = is;
    event = field_takes (IsKept IsEvent EventFits) event_kept (kept_takes IsEvent EventFits event_of event_fits event_takes event_again event_fit event_large) (kept_again IsEvent EventFits event_of event_fits event_takes event_again event_fit event_large) (values_of headers.Event xs);
    expires = field_takes (IsKept IsExpires Fits) expires_kept (kept_takes IsExpires Fits expires_of expires_fits expires_takes expires_again expires_fit expires_large) (kept_again IsExpires Fits expires_of expires_fits expires_takes expires_again expires_fit expires_large) (values_of headers.Expires xs);
    accept = subst (IsField (IsKept IsAccept RangesFit) (joined_lines (values_of headers.Accept xs))) (sym (accept_same (values_of headers.Accept xs))) (field_takes (IsKept IsAccept RangesFit) accept_kept (kept_takes IsAccept RangesFit accept_of ranges_fit accept_takes accept_again ranges_are_fit ranges_are_large) (kept_again IsAccept RangesFit accept_of ranges_fit accept_takes accept_again ranges_are_fit ranges_are_large) (joined_lines (values_of headers.Accept xs)));
    contact = field_takes IsContact contact_of contact_takes contact_again (values_of headers.Contact xs);
    refer_to = field_takes IsContact contact_of contact_takes contact_again (values_of headers.ReferTo xs);
    refer_sub = field_takes IsReferSub refer_sub_of refer_sub_takes refer_sub_again (values_of headers.ReferSub xs);
    require = refl;
    record_routes = refl;
    body = is_body;
  }
  says_finished (status code reason) cut head is body is_body = record { items = xs; rest = rest; cut = cut; head = is; body = body; is_body = is_body }

  module _ (first : First) (cut : HasHead bytes first xs rest) where
    says_present : doubled xs ≡ None → (head : Head) → Has (values_of headers.Via xs) (values_of headers.From xs) (values_of headers.To xs) (values_of headers.CallId xs) (values_of headers.CSeq xs) head
        → Says bytes (body_of (once_of (map capped (values_of headers.ContentLength xs))) rest then λ b. Ok (finished first head (gathered_of xs).fields b))
    says_present none head has = elim (body_cases (values_of headers.ContentLength xs) rest (lengths_single xs none) (rest_small bytes first xs rest cut)) [
      | inl w ↦ rw w.told (first, xs, rest, (cut, none), has.none, w.is)
      | inr w ↦ rw w.1.told (says_finished first cut head (is_head head has) w.0 w.1.is)
    ]

    checked : (o : Option HeaderName) → doubled xs ≡ o → Says bytes (refused o (head_items xs then λ h. body_of (once_of (map capped (values_of headers.ContentLength xs))) rest then λ b. Ok (finished first h (gathered_of xs).fields b)))
    checked (Some n) e = (first, xs, rest, cut, e)
    checked None e = elim (decide_items xs e) [
      | inl w ↦ rw w.1.told (first, xs, rest, (cut, e), w.1.first)
      | inr w ↦ rw w.1.told (says_present e w.0 w.1)
    ]

    says_message : Says bytes (message_of first (gathered_of xs) rest)
    unfolding message_of
    says_message = rw (doubled_same xs) (checked (doubled xs) refl)

abbrev gathered_pair : Gathered → List ℕ → Gathered × List ℕ
gathered_pair g r = (g, r)

gather_is : (t : List ℕ) (o : Option (List Item × List ℕ)) → section_of t ≡ o → gather nothing t ≡ option_map (λ q. gathered_pair (gathered_of q.0) q.1) o
gather_is t None e = ap (option_map (λ q. gathered_pair (with_items nothing q.0) q.1)) e
gather_is t (Some q) e = ap (option_map (λ q. gathered_pair (with_items nothing q.0) q.1)) e ∙ ap (λ (g : Gathered). Some (gathered_pair g q.1)) (gathered_is q.0)

-- the function's answer is right
pub says : (bytes : List ℕ) → Says bytes (read_of bytes)
unfolding read_of
says bytes = size (ltb 65535 (length bytes)) refl where
  section : (small : length bytes ≤ 65535) (first : First) (t : List ℕ) → first_at bytes ≡ Some (first, t) → (o : Option (List Item × List ℕ)) → section_of t ≡ o
      → Says bytes (or_else errors.BadLine (gather nothing t) then λ h. message_of first h.0 h.1)
  section small first t e None none = rw (gather_is t None none) (first, t, (small, first_takes bytes first t e), λ xs rest has. let k : section_of t ≡ Some (xs, rest) = section_again t xs rest has in absurd cc)
  section small first t e (Some q) is = rw (gather_is t (Some q) is) (says_message bytes q.0 q.1 first (t, (small, first_takes bytes first t e), section_takes t q.0 q.1 is))

  line : (small : length bytes ≤ 65535) → (o : Option (First × List ℕ)) → first_at bytes ≡ o → Says bytes (or_else errors.NotSip o then λ s. or_else errors.BadLine (gather nothing s.1) then λ h. message_of s.0 h.0 h.1)
  line small None none = (small, λ first t has. let k : first_at bytes ≡ Some (first, t) = first_again bytes first t has.1 in absurd cc)
  line small (Some s) is = section small s.0 s.1 is (section_of s.1) refl

  size : (b : Bool) → ltb 65535 (length bytes) ≡ b → Says bytes (cond b (Err errors.TooLong) (or_else errors.NotSip (first_at bytes) then λ s. or_else errors.BadLine (gather nothing s.1) then λ h. message_of s.0 h.0 h.1))
  size true large = λ short. let over = ltb-true _ _ large in omega (arith, short, over)
  size false small = line (ltb-false _ _ small) (first_at bytes) refl

-- ---- and nothing else is

read_head : (bytes : List ℕ) (first : First) (xs : List Item) (rest : List ℕ) → HasHead bytes first xs rest → read_of bytes ≡ message_of first (gathered_of xs) rest
unfolding read_of
read_head bytes first xs rest h =
    let small : ltb 65535 (length bytes) ≡ false = le-ltb _ _ h.1.0 in
    rw (small, first_again bytes first h.0 h.1.1, gather_is h.0 (Some (xs, rest)) (section_again h.0 xs rest h.2)) refl

-- a message that none of whose headers stands too often
read_single : (bytes : List ℕ) (first : First) (xs : List Item) (rest : List ℕ) → HasHead bytes first xs rest → doubled xs ≡ None
    → read_of bytes ≡ (head_items xs then λ h. body_of (once_of (map capped (values_of headers.ContentLength xs))) rest then λ b. Ok (finished first h (gathered_of xs).fields b))
unfolding message_of
read_single bytes first xs rest cut none = read_head bytes first xs rest cut ∙ rw (doubled_same xs, none) refl

-- a request with other values of the headers that may stand
abbrev request_with : Request → Field EventValue → Field ℕ → Field (List Range) → Field (List ℕ) → Field (List ℕ) → Field Bool → List (List ℕ) → List (List ℕ) → Request
request_with r e x a c f s q o = record { method = r.method; uri = r.uri; head = r.head; event = e; expires = x; accept = a; contact = c; refer_to = f; refer_sub = s; require = q; record_routes = o; body = r.body }

same_request : (r : Request) (e : Field EventValue) (x : Field ℕ) (a : Field (List Range)) (c f : Field (List ℕ)) (s : Field Bool) (q o : List (List ℕ)) → e ≡ r.event → x ≡ r.expires → a ≡ r.accept → c ≡ r.contact → f ≡ r.refer_to → s ≡ r.refer_sub → q ≡ r.require → o ≡ r.record_routes
    → request_with r e x a c f s q o ≡ r
same_request r e x a c f s q o k l m n p t u v = rw (k, l, m, n, p, t, u, v) refl

told_request : (bytes : List ℕ) (r : Request) → IsRequest bytes r → read_of bytes ≡ Ok (messages.Request r)
told_request bytes r is =
    let xs = is.items in
    let fs = (gathered_of xs).fields in
    let b = body_told (values_of headers.ContentLength xs) is.rest r.body (rest_small bytes (request r.method r.uri) xs is.rest is.cut) is.body in
    let event = field_told (IsKept IsEvent EventFits) event_kept (kept_takes IsEvent EventFits event_of event_fits event_takes event_again event_fit event_large) (kept_again IsEvent EventFits event_of event_fits event_takes event_again event_fit event_large) (values_of headers.Event xs) r.event is.event in
    let expires = field_told (IsKept IsExpires Fits) expires_kept (kept_takes IsExpires Fits expires_of expires_fits expires_takes expires_again expires_fit expires_large) (kept_again IsExpires Fits expires_of expires_fits expires_takes expires_again expires_fit expires_large) (values_of headers.Expires xs) r.expires is.expires in
    let accept = accept_same (values_of headers.Accept xs) ∙ field_told (IsKept IsAccept RangesFit) accept_kept (kept_takes IsAccept RangesFit accept_of ranges_fit accept_takes accept_again ranges_are_fit ranges_are_large) (kept_again IsAccept RangesFit accept_of ranges_fit accept_takes accept_again ranges_are_fit ranges_are_large) (joined_lines (values_of headers.Accept xs)) r.accept is.accept in
    let contact = field_told IsContact contact_of contact_takes contact_again (values_of headers.Contact xs) r.contact is.contact in
    let refer_to = field_told IsContact contact_of contact_takes contact_again (values_of headers.ReferTo xs) r.refer_to is.refer_to in
    let refer_sub = field_told IsReferSub refer_sub_of refer_sub_takes refer_sub_again (values_of headers.ReferSub xs) r.refer_sub is.refer_sub in
    let found : read_of bytes ≡ Ok (messages.Request (request_of r.method r.uri r.head fs r.body)) = read_single bytes (request r.method r.uri) xs is.rest is.cut (head_single xs r.head is.head b.1) ∙ rw (head_told xs r.head is.head, b.0) refl in
    found ∙ ap (λ (q : Request). Ok (messages.Request q)) (same_request r (field_of fs.event) (field_of fs.expires) (accept_field fs.accept) (field_of fs.contact) (field_of fs.refer_to) (field_of fs.refer_sub) fs.require fs.record_routes
    event expires accept contact refer_to refer_sub (sym is.require) (sym is.record_routes))

told_response : (bytes : List ℕ) (r : Response) → IsResponse bytes r → read_of bytes ≡ Ok (messages.Response r)
told_response bytes r is =
    let xs = is.items in
    let b = body_told (values_of headers.ContentLength xs) is.rest is.body (rest_small bytes (status r.status r.reason) xs is.rest is.cut) is.is_body in
    read_single bytes (status r.status r.reason) xs is.rest is.cut (head_single xs r.head is.head b.1) ∙ rw (head_told xs r.head is.head, b.0) refl

no_first : (bytes : List ℕ) → ((first : First) (t : List ℕ) → first_at bytes ≡ Some (first, t) → ⊥) → first_at bytes ≡ None
no_first bytes h = step (first_at bytes) (λ s r e. h s r e) where
  step : (o : Option (First × List ℕ)) → ((s : First) (r : List ℕ) → o ≡ Some (s, r) → ⊥) → o ≡ None
  step None f = refl
  step (Some q) f = absurd (f q.0 q.1 refl)

no_section : (t : List ℕ) → ((xs : List Item) (rest : List ℕ) → HasItems t xs rest → ⊥) → section_of t ≡ None
no_section t h = step (section_of t) (λ xs r e. h xs r (section_takes t xs r e)) where
  step : (o : Option (List Item × List ℕ)) → ((xs : List Item) (r : List ℕ) → o ≡ Some (xs, r) → ⊥) → o ≡ None
  step None f = refl
  step (Some q) f = absurd (f q.0 q.1 refl)

told_err : (bytes : List ℕ) (e : ReadError) → Wrong bytes e → read_of bytes ≡ Err e
unfolding read_of message_of
told_err bytes errors.TooLong w = rw (over (ltb 65535 (length bytes)) refl) refl where
  over : (b : Bool) → ltb 65535 (length bytes) ≡ b → b ≡ true
  over true e = refl
  over false e = absurd (w (ltb-false _ _ e))
told_err bytes errors.NotSip w =
    let small : ltb 65535 (length bytes) ≡ false = le-ltb _ _ w.0 in
    rw (small, no_first bytes (λ s section e. w.1 s section (w.0, first_takes bytes s section e))) refl
told_err bytes errors.BadLine w =
    let small : ltb 65535 (length bytes) ≡ false = le-ltb _ _ w.2.0 in
    rw (small, first_again bytes w.0 w.1 w.2.1, gather_is w.1 None (no_section w.1 w.3)) refl
told_err bytes (errors.Twice n) w = read_head bytes w.0 w.1 w.2 w.3 ∙ rw (doubled_same w.1, w.4) refl
told_err bytes (errors.Missing n) w = elim (decide_items w.1 w.3.1) [
  | inl z ↦ (let first = z.1.first in let wanted = w.4 in let same : z.0 ≡ n = cc (first, wanted) in
      subst (λ k. read_of bytes ≡ Err (errors.Missing k)) same (read_single bytes w.0 w.1 w.2 w.3.0 w.3.1 ∙ rw z.1.told refl))
  | inr z ↦ (let none = z.1.none in let wanted = w.4 in absurd (cc (none, wanted)))
]
told_err bytes errors.ShortBody w = elim (decide_items w.1 w.3.1) [
  | inl z ↦ (let first = z.1.first in let wanted = w.4 in absurd (cc (first, wanted)))
  | inr z ↦ read_single bytes w.0 w.1 w.2 w.3.0 w.3.1 ∙ rw (z.1.told, short_told (values_of headers.ContentLength w.1) w.2 w.5.0 (rest_small bytes w.0 w.1 w.2 w.3.0) w.5.1 w.5.2) refl
]
told_err bytes errors.NoMemory w = absurd w

pub told : (bytes : List ℕ) (r : Result Message ReadError) → Says bytes r → read_of bytes ≡ r
told bytes (Ok (messages.Request r)) h = told_request bytes r h
told bytes (Ok (messages.Response r)) h = told_response bytes r h
told bytes (Err e) h = told_err bytes e h

-- ---- for the call

pub reading : (bytes : List ℕ) (r : Result Message ReadError) → Answers (λ m. m) r (read_of bytes) → IsReading bytes r
reading bytes (Err errors.NoMemory) h = tt
reading bytes (Err e) h = subst (Says bytes) h (says bytes)
reading bytes (Ok m) h = subst (Says bytes) h (says bytes)

-- what the clauses of the call want
abbrev pub IsAnswer : List ℕ → Result Message ReadError → Type 0
IsAnswer bytes r = IsReading bytes r × ((said : Result Message ReadError) → Says bytes said → Answers (λ m. m) r said) × (Wrong bytes errors.TooLong → r ≡ Err errors.TooLong) × (Wrong bytes errors.NotSip → r ≡ Err errors.NotSip)

only : (bytes : List ℕ) (r : Result Message ReadError) → Answers (λ m. m) r (read_of bytes) → (said : Result Message ReadError) → Says bytes said → Answers (λ m. m) r said
only bytes r h said is = subst (Answers (λ m. m) r) (told bytes said is) h

pub too_long : (bytes : List ℕ) → 65535 < length bytes → IsAnswer bytes (Err errors.TooLong)
unfolding read_of
too_long bytes long =
    let h : Answers (λ m. m) (Err errors.TooLong) (read_of bytes) = rw (lt-ltb 65535 (length bytes) long) refl in
    (reading bytes (Err errors.TooLong) h, only bytes (Err errors.TooLong) h, λ w. refl, λ w. let short = w.0 in absurd (omega (arith, long, short)))

pub not_sip : (bytes : List ℕ) → length bytes ≤ 65535 → first_at bytes ≡ None → IsAnswer bytes (Err errors.NotSip)
unfolding read_of
not_sip bytes short none =
    let h : Answers (λ m. m) (Err errors.NotSip) (read_of bytes) = rw (le-ltb 65535 (length bytes) short, none) refl in
    (reading bytes (Err errors.NotSip) h, only bytes (Err errors.NotSip) h, λ w. absurd (w short), λ w. refl)

-- where a first line stands
pub answer : (bytes : List ℕ) → length bytes ≤ 65535 → (first : First) (section : List ℕ) → first_at bytes ≡ Some (first, section) → (r : Result Message ReadError) → Answers (λ m. m) r (read_of bytes) → IsAnswer bytes r
answer bytes short first section is r h =
    (reading bytes r h, only bytes r h, λ w. absurd (w short), λ w. absurd (w.1 first section (short, first_takes bytes first section is)))
