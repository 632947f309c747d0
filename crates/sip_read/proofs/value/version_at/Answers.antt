use Rattle.std.proofs.Common.{Some}
use Rattle.std.specs.Prelude.{codes}
use Rattle.std.proofs.lemmas.Bool.Decides.{Decides-eqb}
use Rattle.std.proofs.lemmas.Slice.Eq.{strip_prefix_is}
use Rattle.sip_read.proofs.Hops.{plain_version}
use Rattle.sip_read.proofs.value.version_at.Goals as goal

pub returns-in-Some : goal.returns-in-Some
returns-in-Some c =
    rw c.skip_spaces.ensures (plain_version c.args.text.now c.in-Some.rest.now (strip_prefix_is Decides-eqb c.args.text.now (codes "SIP/2.0/") (Some c.in-Some.rest) c.in-Some.ensures.cases))
