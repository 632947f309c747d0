use Rattle.std.proofs.Common.{Some, refl}
use Rattle.std.specs.Prelude.{codes}
use Rattle.std.proofs.lemmas.Bool.Decides.{Decides-eqb}
use Rattle.std.proofs.lemmas.Slice.Eq.{strip_prefix_is}
use Rattle.sip_read.specs.declared.datagram.Header.TheVariants as headers
use Rattle.sip_read.proofs.Lines.{begins_with}
use Rattle.sip_read.proofs.datagram.usual_line.Goals as goal

pub returns-in-Some : goal.returns-in-Some
returns-in-Some c = begins_with (codes "Via") headers.Via c.args.line.now c.in-Some.rest.now (refl, λ e. absurd cc) refl (strip_prefix_is Decides-eqb c.args.line.now (codes "Via:") (Some c.in-Some.rest) c.in-Some.ensures.cases)

pub returns-in-Some-strip_prefix : goal.returns-in-Some-strip_prefix
returns-in-Some-strip_prefix c = begins_with (codes "From") headers.From c.args.line.now c.in-Some-strip_prefix.rest.now (refl, λ e. absurd cc) refl (strip_prefix_is Decides-eqb c.args.line.now (codes "From:") (Some c.in-Some-strip_prefix.rest) c.in-Some-strip_prefix.ensures.cases)

pub returns-in-Some-strip_prefix-2 : goal.returns-in-Some-strip_prefix-2
returns-in-Some-strip_prefix-2 c = begins_with (codes "To") headers.To c.args.line.now c.in-Some-strip_prefix-2.rest.now (refl, λ e. absurd cc) refl (strip_prefix_is Decides-eqb c.args.line.now (codes "To:") (Some c.in-Some-strip_prefix-2.rest) c.in-Some-strip_prefix-2.ensures.cases)

pub returns-in-Some-strip_prefix-3 : goal.returns-in-Some-strip_prefix-3
returns-in-Some-strip_prefix-3 c = begins_with (codes "Call-ID") headers.CallId c.args.line.now c.in-Some-strip_prefix-3.rest.now (refl, λ e. absurd cc) refl (strip_prefix_is Decides-eqb c.args.line.now (codes "Call-ID:") (Some c.in-Some-strip_prefix-3.rest) c.in-Some-strip_prefix-3.ensures.cases)

pub returns-in-Some-strip_prefix-4 : goal.returns-in-Some-strip_prefix-4
returns-in-Some-strip_prefix-4 c = begins_with (codes "CSeq") headers.CSeq c.args.line.now c.in-Some-strip_prefix-4.rest.now (refl, λ e. absurd cc) refl (strip_prefix_is Decides-eqb c.args.line.now (codes "CSeq:") (Some c.in-Some-strip_prefix-4.rest) c.in-Some-strip_prefix-4.ensures.cases)

pub returns-in-Some-strip_prefix-5 : goal.returns-in-Some-strip_prefix-5
returns-in-Some-strip_prefix-5 c = begins_with (codes "Contact") headers.Contact c.args.line.now c.in-Some-strip_prefix-5.rest.now (refl, λ e. absurd cc) refl (strip_prefix_is Decides-eqb c.args.line.now (codes "Contact:") (Some c.in-Some-strip_prefix-5.rest) c.in-Some-strip_prefix-5.ensures.cases)

pub returns-in-Some-strip_prefix-6 : goal.returns-in-Some-strip_prefix-6
returns-in-Some-strip_prefix-6 c = begins_with (codes "Event") headers.Event c.args.line.now c.in-Some-strip_prefix-6.rest.now (refl, λ e. absurd cc) refl (strip_prefix_is Decides-eqb c.args.line.now (codes "Event:") (Some c.in-Some-strip_prefix-6.rest) c.in-Some-strip_prefix-6.ensures.cases)

pub returns-in-Some-strip_prefix-7 : goal.returns-in-Some-strip_prefix-7
returns-in-Some-strip_prefix-7 c = begins_with (codes "Content-Length") headers.ContentLength c.args.line.now c.in-Some-strip_prefix-7.rest.now (refl, λ e. absurd cc) refl (strip_prefix_is Decides-eqb c.args.line.now (codes "Content-Length:") (Some c.in-Some-strip_prefix-7.rest) c.in-Some-strip_prefix-7.ensures.cases)

pub returns-in-Some-strip_prefix-8 : goal.returns-in-Some-strip_prefix-8
returns-in-Some-strip_prefix-8 c = begins_with (codes "Max-Forwards") headers.Other c.args.line.now c.in-Some-strip_prefix-8.rest.now (refl, λ e. absurd cc) refl (strip_prefix_is Decides-eqb c.args.line.now (codes "Max-Forwards:") (Some c.in-Some-strip_prefix-8.rest) c.in-Some-strip_prefix-8.ensures.cases)

pub returns-in-Some-strip_prefix-9 : goal.returns-in-Some-strip_prefix-9
returns-in-Some-strip_prefix-9 c = begins_with (codes "Expires") headers.Expires c.args.line.now c.in-Some-strip_prefix-9.rest.now (refl, λ e. absurd cc) refl (strip_prefix_is Decides-eqb c.args.line.now (codes "Expires:") (Some c.in-Some-strip_prefix-9.rest) c.in-Some-strip_prefix-9.ensures.cases)

pub returns-in-Some-strip_prefix-10 : goal.returns-in-Some-strip_prefix-10
returns-in-Some-strip_prefix-10 c = begins_with (codes "Accept") headers.Accept c.args.line.now c.in-Some-strip_prefix-10.rest.now (refl, λ e. absurd cc) refl (strip_prefix_is Decides-eqb c.args.line.now (codes "Accept:") (Some c.in-Some-strip_prefix-10.rest) c.in-Some-strip_prefix-10.ensures.cases)
