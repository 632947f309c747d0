use Rattle.std.proofs.Common.{◌≡◌, ℕ, true, List, [], ◌∷◌, get_or, sym, ap, ◌∙◌, subst, arith}
use Rattle.crew.specs.Ports.{PortSeats}
use Rattle.udp_command.specs.UdpRunning.{IsNew, outcome_of}
use Rattle.udp_command.specs.UdpHearing.{count_of}
use Rattle.udp_command.specs.declared.udp_listening.Intake.TheVariants as intake
use Rattle.udp_command.specs.UdpServing.{Serves}
use Rattle.udp_command.proofs.UdpStarted.{ports_len, port_open}
use Rattle.udp_command.proofs.udp_serving.listen_and_serve.Goals as goal

two_are : (ports : List PortSeats) (a b a' b' : PortSeats) → ports ≡ a ∷ b ∷ [] → a' ≡ a → b' ≡ b → ports ≡ a' ∷ b' ∷ []
two_are ports a b a' b' are first second = are ∙ ap (λ p. p ∷ b ∷ []) (sym first) ∙ ap (λ p. a' ∷ p ∷ []) (sym second)

pub take_both-first-requires : goal.take_both-first-requires
take_both-first-requires g c = let is = c.requires.new.1 in let two = ports_len c.requires.new.0 is in let len = c.args.ports.ok.0 in omega arith

pub start_listener-requires-after_bounds : goal.start_listener-requires-after_bounds
start_listener-requires-after_bounds g c κs within =
    let second = c.take_both-first.result.1 in
    let P : List PortSeats → Type 0 = λ l. (get_or l 1 second).is_open ≡ true in
    subst P c.take_both-first.ensures.both (port_open c.requires.new.0 c.requires.new.1 1 second (omega arith) c.requires.some)

pub start_listener-requires-2-after_bounds : goal.start_listener-requires-2-after_bounds
start_listener-requires-2-after_bounds g c κs within =
    let first = c.take_both-first.result.0 in
    let P : List PortSeats → Type 0 = λ l. (get_or l 0 first).is_open ≡ true in
    subst P c.take_both-first.ensures.both (port_open c.requires.new.0 c.requires.new.1 0 first (omega arith) c.requires.some)

pub serve_to_end-requires-clause-new : goal.serve_to_end-requires-clause-new
serve_to_end-requires-clause-new g c =
    let is = c.requires.new in
    let P : List PortSeats → Type 0 = λ l. IsNew is.0 l c.args.running in
    (is.0, subst P (two_are c.args.ports.items _ _ _ _ c.take_both-first.ensures.both c.in-Ok-start_listener.ensures.port c.in-Ok.ensures.port) is.1)

pub serve_to_end-requires-clause-errands : goal.serve_to_end-requires-clause-errands
serve_to_end-requires-clause-errands g c =
    let sip = c.in-Ok-start_listener.ensures.hearing in
    record { hears_sip = sip ∙ ap (λ i. intake.Sip (count_of i)) (sym sip); hears_control = c.in-Ok.ensures.hearing }

pub returns-clause-served : goal.returns-clause-served
returns-clause-served g c = λ start is.
    let P : List PortSeats → Type 0 = λ l. IsNew start l c.args.running in
    let Q : ℕ → Type 0 = λ n. Serves g.F.Write.contents start c.args.running.workers n c.args.sink.now c.serve_to_end.new.sink (outcome_of c.serve_to_end.result) in
    subst Q (ap count_of c.in-Ok-start_listener.ensures.hearing)
    (c.serve_to_end.ensures start (subst P (two_are c.args.ports.items _ _ _ _ c.take_both-first.ensures.both c.in-Ok-start_listener.ensures.port c.in-Ok.ensures.port) is))
