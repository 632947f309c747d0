use Rattle.std.proofs.Common.{◌≡◌, ◌∙◌, ◌∷◌, [], length, Bool, true, false, Ok, None, Some, MatchBool, refl, sym, ap, subst}
use Rattle.std.specs.Prelude.{if◌then◌else◌, Result, is_ok, MatchResult}
use Rattle.admission.specs.declared.judging.Reading.TheVariants as reading
use Rattle.admission.specs.declared.judging.Verdict.TheVariants as verdict
use Rattle.admission.specs.Verdicts.{hears, behind}
use Rattle.sip_read.specs.declared.error.ReadError.TheVariants as errors
use Rattle.feeds.proofs.Telling.{grows_none}
use Rattle.admission.specs.declared.judging.Arrival.{Arrival}
use Rattle.sip_read.specs.Message.{IsReading}
use Rattle.service.specs.Admitted.{IsRequest, Refuses, refusal_in}
use Rattle.notifier_model.specs.declared.event.Event.{Event}
use Rattle.notifier_model.specs.declared.event.Event.TheVariants as event
use Rattle.notifier_model.specs.Home.{home, is_for_all}
use Rattle.crew.specs.declared.errors.SendError.{SendError}
use Rattle.crew.specs.Ports.{PortSeats, SendsTo}
use Rattle.crew.specs.PortErrors.{GivesBack}
use Rattle.crew.proofs.Keeping.{sent_keeps}
use Rattle.feeds.specs.Fed.{Sends, Misses}
use Rattle.feeds.proofs.SendingHome.{sent_law}
use Rattle.feeds.specs.declared.hearing.Heard.TheVariants as heard
use Rattle.sip_read.specs.declared.message.Message.TheVariants as message
use Rattle.service.proofs.Judging.{passes_none, passes_sent}
use Rattle.service.proofs.datagrams.SipDesk.take_one.Goals as goal

-- whether its event was sent
did : (old new : PortSeats) (e : Event) (r : Result (Unit {0}) SendError) (sent : Bool) → sent ≡ is_ok r → is_for_all e ≡ false → old.is_open ≡ true
    → MatchResult r (λ _. (old.is_open ≡ true) × SendsTo old (home e (length old.seats)) e new) (λ error. GivesBack old e new error)
    → MatchBool sent (Sends old (e ∷ []) new) (Misses old e new)
did old new e r sent is single opened k = let P : Bool → Type 0 = λ b. MatchBool b (Sends old (e ∷ []) new) (Misses old e new) in subst P (sym is) (sent_law r old new e single opened k)

pub returns-then-not-is_near-clause-taken : goal.returns-then-not-is_near-clause-taken
returns-then-not-is_near-clause-taken g c =
    let a = c.args.self.now.admission in
    let far : hears a c.args.source.ip ≡ false = sym c.hears-is_near.ensures ∙ c.if-not-is_near.true in
    let x : Arrival = record { octets = c.args.octets; reading = reading.Unread; source = c.args.source; moment = c.args.moment; live = 0; owner = None } in record {
      says = heard.Unread;
      verdict = Some verdict.Foreign;
      arrival = x;
      speaks = (errors.NoMemory, tt);
      of_octets = refl;
      of_source = refl;
      of_moment = refl;
      reads = refl;
      meets = (far, sym (ap (λ (b : Bool). if b then behind a x else a) far));
      refuses = (grows_none (g.W.Wire.taken c.args.self.now.going), refl);
      passes = (refl, refl);
    }

pub returns-then-not-admits-clause-taken : goal.returns-then-not-admits-clause-taken
returns-then-not-admits-clause-taken g c =
    let its = c.admits-in-Ok-Response.ensures.admits in let r = c.in-Ok-Response.response in record {
      says = heard.Event (event.Reply r);
      verdict = its.0;
      arrival = c.arrival-arrival-in-Ok-Response.result;
      speaks = (message.Response r, subst (λ m. IsReading c.args.octets.now (Ok m)) c.in-Ok-Response.field-0-is c.in-Ok-Response.ensures.found, refl);
      of_octets = ap (λ (x : Arrival). x.octets.now) c.arrival-arrival-in-Ok-Response.ensures;
      of_source = ap (λ (x : Arrival). x.source) c.arrival-arrival-in-Ok-Response.ensures;
      of_moment = ap (λ (x : Arrival). x.moment) c.arrival-arrival-in-Ok-Response.ensures;
      reads = ap (λ (x : Arrival). x.reading) c.arrival-arrival-in-Ok-Response.ensures;
      meets = its.1;
      refuses = subst (λ to. Refuses to (refusal_in its.0) (g.W.Wire.taken c.args.self.now.going) (g.W.Wire.taken c.admits-in-Ok-Response.new.self.going) (g.W.Wire.failures c.args.self.now.going) (g.W.Wire.failures c.admits-in-Ok-Response.new.self.going)) (ap (λ (x : Arrival). x.source) c.arrival-arrival-in-Ok-Response.ensures) its.3;
      passes = passes_none _ _ _ (sym its.2 ∙ c.if-not-admits.true);
    }

pub returns-then-not-admits-2-clause-taken : goal.returns-then-not-admits-2-clause-taken
returns-then-not-admits-2-clause-taken g c =
    let its = c.admits-in-Ok-Request.ensures.admits in let r = c.in-Ok-Request.request in record {
      says = heard.Event (event.Request c.args.source r);
      verdict = its.0;
      arrival = c.arrival-arrival-in-Ok-Request.result;
      speaks = (message.Request r, subst (λ m. IsReading c.args.octets.now (Ok m)) c.in-Ok-Request.field-0-is c.in-Ok-Request.ensures.found, refl);
      of_octets = ap (λ (x : Arrival). x.octets.now) c.arrival-arrival-in-Ok-Request.ensures;
      of_source = ap (λ (x : Arrival). x.source) c.arrival-arrival-in-Ok-Request.ensures;
      of_moment = ap (λ (x : Arrival). x.moment) c.arrival-arrival-in-Ok-Request.ensures;
      reads = subst (IsRequest r) (sym (ap (λ (x : Arrival). x.reading) c.arrival-arrival-in-Ok-Request.ensures)) c.deref-in-Ok-Request-2.ensures.value;
      meets = its.1;
      refuses = subst (λ to. Refuses to (refusal_in its.0) (g.W.Wire.taken c.args.self.now.going) (g.W.Wire.taken c.admits-in-Ok-Request.new.self.going) (g.W.Wire.failures c.args.self.now.going) (g.W.Wire.failures c.admits-in-Ok-Request.new.self.going)) (ap (λ (x : Arrival). x.source) c.arrival-arrival-in-Ok-Request.ensures) its.3;
      passes = passes_none _ _ _ (sym its.2 ∙ c.if-not-admits-2.true);
    }

pub returns-then-is_sent-clause-taken : goal.returns-then-is_sent-clause-taken
returns-then-is_sent-clause-taken g c =
    let its = c.admits-in-Ok-Response.ensures.admits in let r = c.in-Ok-Response.response in record {
      says = heard.Event (event.Reply r);
      verdict = its.0;
      arrival = c.arrival-arrival-in-Ok-Response.result;
      speaks = (message.Response r, subst (λ m. IsReading c.args.octets.now (Ok m)) c.in-Ok-Response.field-0-is c.in-Ok-Response.ensures.found, refl);
      of_octets = ap (λ (x : Arrival). x.octets.now) c.arrival-arrival-in-Ok-Response.ensures;
      of_source = ap (λ (x : Arrival). x.source) c.arrival-arrival-in-Ok-Response.ensures;
      of_moment = ap (λ (x : Arrival). x.moment) c.arrival-arrival-in-Ok-Response.ensures;
      reads = ap (λ (x : Arrival). x.reading) c.arrival-arrival-in-Ok-Response.ensures;
      meets = its.1;
      refuses = subst (λ to. Refuses to (refusal_in its.0) (g.W.Wire.taken c.args.self.now.going) (g.W.Wire.taken c.admits-in-Ok-Response.new.self.going) (g.W.Wire.failures c.args.self.now.going) (g.W.Wire.failures c.admits-in-Ok-Response.new.self.going)) (ap (λ (x : Arrival). x.source) c.arrival-arrival-in-Ok-Response.ensures) its.3;
      passes = passes_sent _ (event.Reply r) _ _ c.is_ok-is_sent.result (sym its.2 ∙ c.if-not-admits.false)
          (did c.args.port.now c.send.new.self (event.Reply r) c.send.result c.is_ok-is_sent.result c.is_ok-is_sent.ensures.value refl c.requires.still_open c.send.ensures);
    }

pub returns-else-is_sent-clause-taken : goal.returns-else-is_sent-clause-taken
returns-else-is_sent-clause-taken g c =
    let its = c.admits-in-Ok-Response.ensures.admits in let r = c.in-Ok-Response.response in record {
      says = heard.Event (event.Reply r);
      verdict = its.0;
      arrival = c.arrival-arrival-in-Ok-Response.result;
      speaks = (message.Response r, subst (λ m. IsReading c.args.octets.now (Ok m)) c.in-Ok-Response.field-0-is c.in-Ok-Response.ensures.found, refl);
      of_octets = ap (λ (x : Arrival). x.octets.now) c.arrival-arrival-in-Ok-Response.ensures;
      of_source = ap (λ (x : Arrival). x.source) c.arrival-arrival-in-Ok-Response.ensures;
      of_moment = ap (λ (x : Arrival). x.moment) c.arrival-arrival-in-Ok-Response.ensures;
      reads = ap (λ (x : Arrival). x.reading) c.arrival-arrival-in-Ok-Response.ensures;
      meets = its.1;
      refuses = subst (λ to. Refuses to (refusal_in its.0) (g.W.Wire.taken c.args.self.now.going) (g.W.Wire.taken c.admits-in-Ok-Response.new.self.going) (g.W.Wire.failures c.args.self.now.going) (g.W.Wire.failures c.admits-in-Ok-Response.new.self.going)) (ap (λ (x : Arrival). x.source) c.arrival-arrival-in-Ok-Response.ensures) its.3;
      passes = passes_sent _ (event.Reply r) _ _ c.is_ok-is_sent.result (sym its.2 ∙ c.if-not-admits.false)
          (did c.args.port.now c.send.new.self (event.Reply r) c.send.result c.is_ok-is_sent.result c.is_ok-is_sent.ensures.value refl c.requires.still_open c.send.ensures);
    }

pub returns-then-is_sent-2-clause-taken : goal.returns-then-is_sent-2-clause-taken
returns-then-is_sent-2-clause-taken g c =
    let its = c.admits-in-Ok-Request.ensures.admits in let r = c.in-Ok-Request.request in record {
      says = heard.Event (event.Request c.args.source r);
      verdict = its.0;
      arrival = c.arrival-arrival-in-Ok-Request.result;
      speaks = (message.Request r, subst (λ m. IsReading c.args.octets.now (Ok m)) c.in-Ok-Request.field-0-is c.in-Ok-Request.ensures.found, refl);
      of_octets = ap (λ (x : Arrival). x.octets.now) c.arrival-arrival-in-Ok-Request.ensures;
      of_source = ap (λ (x : Arrival). x.source) c.arrival-arrival-in-Ok-Request.ensures;
      of_moment = ap (λ (x : Arrival). x.moment) c.arrival-arrival-in-Ok-Request.ensures;
      reads = subst (IsRequest r) (sym (ap (λ (x : Arrival). x.reading) c.arrival-arrival-in-Ok-Request.ensures)) c.deref-in-Ok-Request-2.ensures.value;
      meets = its.1;
      refuses = subst (λ to. Refuses to (refusal_in its.0) (g.W.Wire.taken c.args.self.now.going) (g.W.Wire.taken c.admits-in-Ok-Request.new.self.going) (g.W.Wire.failures c.args.self.now.going) (g.W.Wire.failures c.admits-in-Ok-Request.new.self.going)) (ap (λ (x : Arrival). x.source) c.arrival-arrival-in-Ok-Request.ensures) its.3;
      passes = passes_sent _ (event.Request c.args.source r) _ _ c.is_ok-is_sent-in-Ok-Request.result (sym its.2 ∙ c.if-not-admits-2.false)
          (did c.args.port.now c.send-in-Ok-Request.new.self (event.Request c.args.source r) c.send-in-Ok-Request.result c.is_ok-is_sent-in-Ok-Request.result c.is_ok-is_sent-in-Ok-Request.ensures.value refl
          c.requires.still_open c.send-in-Ok-Request.ensures);
    }

pub returns-else-is_sent-2-clause-taken : goal.returns-else-is_sent-2-clause-taken
returns-else-is_sent-2-clause-taken g c =
    let its = c.admits-in-Ok-Request.ensures.admits in let r = c.in-Ok-Request.request in record {
      says = heard.Event (event.Request c.args.source r);
      verdict = its.0;
      arrival = c.arrival-arrival-in-Ok-Request.result;
      speaks = (message.Request r, subst (λ m. IsReading c.args.octets.now (Ok m)) c.in-Ok-Request.field-0-is c.in-Ok-Request.ensures.found, refl);
      of_octets = ap (λ (x : Arrival). x.octets.now) c.arrival-arrival-in-Ok-Request.ensures;
      of_source = ap (λ (x : Arrival). x.source) c.arrival-arrival-in-Ok-Request.ensures;
      of_moment = ap (λ (x : Arrival). x.moment) c.arrival-arrival-in-Ok-Request.ensures;
      reads = subst (IsRequest r) (sym (ap (λ (x : Arrival). x.reading) c.arrival-arrival-in-Ok-Request.ensures)) c.deref-in-Ok-Request-2.ensures.value;
      meets = its.1;
      refuses = subst (λ to. Refuses to (refusal_in its.0) (g.W.Wire.taken c.args.self.now.going) (g.W.Wire.taken c.admits-in-Ok-Request.new.self.going) (g.W.Wire.failures c.args.self.now.going) (g.W.Wire.failures c.admits-in-Ok-Request.new.self.going)) (ap (λ (x : Arrival). x.source) c.arrival-arrival-in-Ok-Request.ensures) its.3;
      passes = passes_sent _ (event.Request c.args.source r) _ _ c.is_ok-is_sent-in-Ok-Request.result (sym its.2 ∙ c.if-not-admits-2.false)
          (did c.args.port.now c.send-in-Ok-Request.new.self (event.Request c.args.source r) c.send-in-Ok-Request.result c.is_ok-is_sent-in-Ok-Request.result c.is_ok-is_sent-in-Ok-Request.ensures.value refl
          c.requires.still_open c.send-in-Ok-Request.ensures);
    }

pub returns-then-is_sent-clause-seats : goal.returns-then-is_sent-clause-seats
returns-then-is_sent-clause-seats g c =
    let old = c.args.port.now in
    sent_keeps c.send.result old c.send.new.self (home (event.Reply c.in-Ok-Response.response) (length old.seats)) (event.Reply c.in-Ok-Response.response) c.send.ensures

pub returns-then-is_sent-2-clause-seats : goal.returns-then-is_sent-2-clause-seats
returns-then-is_sent-2-clause-seats g c =
    let old = c.args.port.now in
    let e = event.Request c.args.source c.in-Ok-Request.request in
    sent_keeps c.send-in-Ok-Request.result old c.send-in-Ok-Request.new.self (home e (length old.seats)) e c.send-in-Ok-Request.ensures
