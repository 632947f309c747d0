-- An Event value.
use Rattle.std.proofs.Common.{◌≡◌, ℕ, true, false, List, Option, Some, None, refl, subst}
use Rattle.std.specs.Prelude.{codes, IfSome}
use Rattle.sip_text.specs.declared.scan.Class.TheVariants as class
use Rattle.sip_text.specs.Bytes.{is_in}
use Rattle.event_headers.specs.Values.{EventValue}
use Rattle.sip_text.specs.Reading.{◌>>=◌, word_named}
use Rattle.sip_text.specs.Reading.{token_with}
use Rattle.event_headers.specs.HeaderReading.{event_of, event_fits}
use Rattle.sip_text.specs.Grammar.{IsWordNamed, Parameter}
use Rattle.sip_text.specs.Grammar.{IsToken}
use Rattle.event_headers.specs.Headers.{IsEvent, EventFits, IsEventValue}
use Rattle.sip_text.proofs.Pieces.{bind_some, some_is}
use Rattle.sip_text.proofs.Utf8.{token_small}
use Rattle.sip_text.proofs.Words.{named_takes, named_again}
use Rattle.sip_text.proofs.Framing.{token_with_takes, token_with_again}

pub event_takes : (t : List ℕ) (e : EventValue) → event_of t ≡ Some e → IsEvent t e
unfolding event_of
event_takes t e h =
    let last = λ (w : List ℕ) (id : Option (List ℕ)). Some (record { «package» = w; id = id }) in
    let b = bind_some (token_with t) (λ x. word_named (is_in class.Token) (codes "id") x.1 >>= λ id. last x.0 id) e h in
    let d = bind_some (word_named (is_in class.Token) (codes "id") b.0.1) (λ id. last b.0.0 id) e b.2 in
    subst (IsEvent t) (some_is (record { «package» = b.0.0; id = d.0 }) e d.2) (b.0.1, token_with_takes t b.0.0 b.0.1 b.1, named_takes class.Token (codes "id") b.0.1 d.0 d.1)

pub event_again : (t : List ℕ) (e : EventValue) → IsEvent t e → event_of t ≡ Some e
unfolding event_of
event_again t e h = rw (token_with_again t e.«package» h.0 h.1, named_again class.Token token_small (codes "id") h.0 e.id h.2) refl

pub event_fit : (e : EventValue) → event_fits e ≡ true → EventFits e
event_fit e h = tt

pub event_large : (e : EventValue) → event_fits e ≡ false → ¬ (EventFits e)
event_large e h = absurd cc

named_token : (name : List ℕ) (ps : List Parameter) (o : Option (List ℕ)) → IsWordNamed class.Token name ps o → IfSome o IsToken
named_token name ps None h = tt
named_token name ps (Some v) h = h.1

-- what a text says is a value
pub event_is_value : (t : List ℕ) (e : EventValue) → IsEvent t e → IsEventValue e
event_is_value t e h = (h.1.is_token, named_token (codes "id") h.0 e.id h.2)
