-- Requests and responses are read again.
use Rattle.std.proofs.Common.{◌≡◌, ◌∙◌, ℕ, Bool, true, false, cond, List, [], ◌∷◌, ◌++◌, Option, Some, None, eqb, refl, sym, ap, subst}
use Rattle.std.proofs.lemmas.Bool.{eqb-true}
use Rattle.sip_text.proofs.Pieces.{some_is}
use Rattle.sip_read.specs.declared.message.Via.{Via}
use Rattle.sip_read.specs.declared.message.Party.{Party}
use Rattle.sip_read.specs.declared.message.Head.{Head}
use Rattle.sip_read.specs.declared.message.Request.{Request}
use Rattle.sip_read.specs.declared.message.Response.{Response}
use Rattle.snapshots.specs.Forms.{IsForm}
use Rattle.snapshots.specs.Messages.{bool_text, bool_at, IsBool, ViaParts, via_of, via_at, via_text, IsVia, party_of, party_at, party_text, IsParty, HeadParts, head_of, head_at, head_text, IsHead, RequestParts, request_of, request_at, request_text, IsRequest, IsSound, ResponseParts, response_of, response_at, response_text, IsResponse}
use Rattle.snapshots.proofs.Fields.{field_form, range_form, accept_join, accept_fits, accept_test}
use Rattle.snapshots.proofs.Rows.{event_form}
use Rattle.snapshots.proofs.Forms.{short_form, count_form, bytes_form, text_form, option_form, both_form, IsMade, made_form, form_under, list_form}

bool_again : (b : Bool) (rest : List ℕ) → IsBool b → bool_at (bool_text b ++ rest) ≡ Some (b, rest)
unfolding bool_at
bool_again true rest h = refl
bool_again false rest h = refl

bool_takes : (t : List ℕ) (b : Bool) (rest : List ℕ) → bool_at t ≡ Some (b, rest) → (t ≡ bool_text b ++ rest) × IsBool b
unfolding bool_at
bool_takes [] b rest e = absurd cc
bool_takes (x ∷ xs) b rest e = step (eqb x 43) refl e where
  minus : (q : Bool) → eqb x 45 ≡ q → cond {A = Option (Bool × List ℕ)} q (Some (false, xs)) None ≡ Some (b, rest) → (x ∷ xs ≡ bool_text b ++ rest) × IsBool b
  minus false other e = absurd cc
  minus true is e =
      let whole : x ∷ xs ≡ bool_text false ++ xs = ap (λ (y : ℕ). y ∷ xs) (eqb-true x 45 is) in
      subst (λ (z : Bool × List ℕ). (x ∷ xs ≡ bool_text z.0 ++ z.1) × IsBool z.0) (some_is (false, xs) (b, rest) e) (whole, tt)

  step : (q : Bool) → eqb x 43 ≡ q → cond {A = Option (Bool × List ℕ)} q (Some (true, xs)) (cond (eqb x 45) (Some (false, xs)) None) ≡ Some (b, rest) → (x ∷ xs ≡ bool_text b ++ rest) × IsBool b
  step true is e =
      let whole : x ∷ xs ≡ bool_text true ++ xs = ap (λ (y : ℕ). y ∷ xs) (eqb-true x 43 is) in
      subst (λ (z : Bool × List ℕ). (x ∷ xs ≡ bool_text z.0 ++ z.1) × IsBool z.0) (some_is (true, xs) (b, rest) e) (whole, tt)
  step false other e = minus (eqb x 45) refl e

pub bool_form : IsForm bool_text IsBool bool_at
bool_form = record { again = bool_again; takes = bool_takes }

via_parts : Via → ViaParts
via_parts v = (v.sent_by, (v.branch, v.bare_rport))

via_made : IsMade via_of via_parts (λ v. Unit {0})
unfolding via_parts
via_made = record { made = λ a b e. (sym (ap via_parts (some_is _ b e)), tt); again = λ b h. refl }

pub via_form : IsForm via_text IsVia via_at
unfolding via_at via_parts
via_form =
    form_under _ _ _ _
    (λ v h. record { sent_by = h.0.0; branch = h.0.1.0 })
    (λ v h. ((h.sent_by, (h.branch, tt)), tt))
    (made_form via_made (both_form text_form (both_form option_form bool_form)))

party_parts : Party → List ℕ × Option (List ℕ)
party_parts p = (p.text, p.tag)

party_made : IsMade party_of party_parts (λ p. Unit {0})
unfolding party_parts
party_made = record { made = λ a b e. (sym (ap party_parts (some_is _ b e)), tt); again = λ b h. refl }

pub party_form : IsForm party_text IsParty party_at
unfolding party_at party_parts
party_form =
    form_under _ _ _ _
    (λ p h. record { text = h.0.0; tag = h.0.1 })
    (λ p h. ((h.text, h.tag), tt))
    (made_form party_made (both_form text_form option_form))

head_parts : Head → HeadParts
head_parts h = (h.vias, (h.top, (h.from, (h.to, (h.call_id, (h.cseq, h.cseq_method))))))

head_made : IsMade head_of head_parts (λ h. Unit {0})
unfolding head_parts
head_made = record { made = λ a b e. (sym (ap head_parts (some_is _ b e)), tt); again = λ b h. refl }

pub head_form : IsForm head_text IsHead head_at
unfolding head_at head_parts
head_form =
    form_under _ _ _ _
    (λ x h. record { vias = h.0.0; top = h.0.1.0; from = h.0.1.1.0; to = h.0.1.1.1.0; call_id = h.0.1.1.1.1.0; cseq = h.0.1.1.1.1.1.0; cseq_method = h.0.1.1.1.1.1.1 })
    (λ x h. ((h.vias, (h.top, (h.from, (h.to, (h.call_id, (h.cseq, h.cseq_method)))))), tt))
    (made_form head_made (both_form (list_form _ _ _ text_form) (both_form via_form (both_form party_form (both_form party_form (both_form text_form (both_form count_form text_form)))))))

request_parts : Request → RequestParts
request_parts r = (r.method, (r.uri, (r.head, (r.event, (r.expires, (r.accept, (r.contact, (r.refer_to, (r.refer_sub, (r.require, (r.record_routes, r.body)))))))))))

request_made : IsMade request_of request_parts (λ r. Unit {0})
unfolding request_parts
request_made = record { made = λ a b e. (sym (ap request_parts (some_is _ b e)), tt); again = λ b h. refl }

-- what its types tell of it, and its Accept is read again too
abbrev pub IsWhole : Request → Type 0
IsWhole r = IsRequest r × IsSound r

pub request_form : IsForm request_text IsWhole request_at
unfolding request_at request_parts
request_form =
    form_under _ _ _ _
    (λ r h. (record { method = h.0.0; uri = h.0.1.0; head = h.0.1.1.0; event = h.0.1.1.1.0; expires = h.0.1.1.1.1.0; accept = accept_fits r.accept h.0.1.1.1.1.1.0; contact = h.0.1.1.1.1.1.1.0; refer_to = h.0.1.1.1.1.1.1.1.0; refer_sub = h.0.1.1.1.1.1.1.1.1.0; require = h.0.1.1.1.1.1.1.1.1.1.0; record_routes = h.0.1.1.1.1.1.1.1.1.1.1.0; body = h.0.1.1.1.1.1.1.1.1.1.1.1 }, accept_test r.accept h.0.1.1.1.1.1.0))
    (λ r h. ((h.0.method, (h.0.uri, (h.0.head, (h.0.event, (h.0.expires, (accept_join r.accept h.0.accept h.1, (h.0.contact, (h.0.refer_to, (h.0.refer_sub, (h.0.require, (h.0.record_routes, h.0.body))))))))))), tt))
    (made_form request_made (both_form text_form (both_form text_form (both_form head_form (both_form (field_form event_form) (both_form (field_form count_form) (both_form (field_form (list_form _ _ _ range_form)) (both_form (field_form text_form) (both_form (field_form text_form) (both_form (field_form bool_form) (both_form (list_form _ _ _ text_form) (both_form (list_form _ _ _ text_form) bytes_form))))))))))))

response_parts : Response → ResponseParts
response_parts r = (r.status, (r.reason, r.head))

response_made : IsMade response_of response_parts (λ r. Unit {0})
unfolding response_parts
response_made = record { made = λ a b e. (sym (ap response_parts (some_is _ b e)), tt); again = λ b h. refl }

pub response_form : IsForm response_text IsResponse response_at
unfolding response_at response_parts
response_form =
    form_under _ _ _ _
    (λ r h. record { status = h.0.0; reason = h.0.1.0; head = h.0.1.1 })
    (λ r h. ((h.status, (h.reason, h.head)), tt))
    (made_form response_made (both_form short_form (both_form text_form head_form)))
