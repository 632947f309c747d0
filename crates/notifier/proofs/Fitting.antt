-- A request that fits says for which event it is, or is a REFER.
use Rattle.std.proofs.Common.{◌≡◌, Bool, true, false, not, ◌&&◌, ◌||◌, Option, Some, None, if◌then◌else◌, refl, ap, sym, ◌∙◌, Result, Ok, Err}
use Rattle.std.specs.List.{list_any}
use Rattle.std.specs.Prelude.{IfOk, bytes_eq, unwrap_or}
use Rattle.sip_text.specs.declared.field.Field.{Field}
use Rattle.sip_text.specs.declared.field.Field.TheVariants.{Absent, Bad, Value}
use Rattle.event_headers.specs.Values.{EventValue}
use Rattle.event_headers.specs.declared.values.EventValue.{EventValue as Stored}
use Rattle.sip_read.specs.declared.message.Request.{Request}
use Rattle.notifier_model.specs.declared.refusal.Refusal.{Refusal}
use Rattle.notifier_model.specs.declared.refusal.Refusal.TheVariants.{OtherMethod, OtherScheme, UnmetRequire, Malformed}
use Rattle.notifier_model.specs.Fields.{is_absent, is_bad, value_of}
use Rattle.notifier_model.specs.Requests.{is_subscribe, is_refer, is_sip_uri, is_strange, is_malformed, misfit, event_of, refer_event, no_event}

-- by the tests of a misfit: a method, a scheme, a demand, the same method again, an Event that isn't there or is bad
by_tests : (s f u q m a b c d : Bool)
    → ◌≡◌ {A = Option Refusal} (if not (s || f) then Some OtherMethod else if not u then Some OtherScheme else if q then Some UnmetRequire else if not m || ((s && (a || (b || c))) || d) then Some Malformed else None) None
    → (a || b) ≡ true → f ≡ true
by_tests s true u q m a b c d h k = refl
by_tests false false u q m a b c d h k = absurd (cc)
by_tests true false false q m a b c d h k = absurd (cc)
by_tests true false true true m a b c d h k = absurd (cc)
by_tests true false true false false a b c d h k = absurd (cc)
by_tests true false true false true true b c d h k = absurd (cc)
by_tests true false true false true false true c d h k = absurd (cc)
by_tests true false true false true false false c d h k = absurd (cc)

pub is_refer_then : (r : Request) → misfit r ≡ None → (is_absent r.event || is_bad r.event) ≡ true → is_refer r ≡ true
unfolding misfit is_malformed
is_refer_then r fits unsaid = by_tests (is_subscribe r) (is_refer r) (is_sip_uri r.uri) (list_any is_strange r.require) (bytes_eq r.head.cseq_method r.method) (is_absent r.event) (is_bad r.event) _ _ fits unsaid

-- the event that a REFER makes
pub event_of_refer : (r : Request) → is_refer r ≡ true → event_of r ≡ refer_event r.head.cseq
unfolding event_of
event_of_refer r e = ap (λ b. if b then refer_event r.head.cseq else unwrap_or (value_of r.event) no_event) e

-- no Event was said
pub unsaid : (f : Field EventValue) → ((v : Stored) → f ≡ Value (record { «package» = v.package; id = v.id }) → ⊥) → (is_absent f || is_bad f) ≡ true
unsaid Absent h = refl
unsaid Bad h = refl
unsaid (Value v) h = absurd (h (record { «package» = v.package; id = v.id }) refl)

-- what was made is the event of this REFER
pub made_by_refer : {E : Type 0} (r : Request) (made : Result EventValue E) → is_refer r ≡ true → IfOk made (λ e. e ≡ refer_event r.head.cseq) → IfOk made (λ e. e ≡ event_of r)
made_by_refer r (Ok e) h is = is ∙ sym (event_of_refer r h)
made_by_refer r (Err e) h is = is
