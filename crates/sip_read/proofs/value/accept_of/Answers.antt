use Rattle.std.proofs.Common.{◌≡◌, ℕ, List, Option, Some, None, Result, Ok, ap, subst}
use Rattle.std.specs.Prelude.{IfOk}
use Rattle.sip_text.specs.declared.error.NoMemory.{NoMemory}
use Rattle.event_headers.specs.declared.error.HeaderError.{HeaderError}
use Rattle.event_headers.specs.Values.{Range}
use Rattle.event_headers.specs.Headers.{IsAccept, RangesFit, IsSaid}
use Rattle.event_headers.specs.HeaderReading.{accept_of, ranges_fit}
use Rattle.event_headers.proofs.Ranges.{accept_takes, accept_again, ranges_are_fit, ranges_are_large}
use Rattle.sip_read.specs.FieldsComputed.{KeptOf, accept_kept}
use Rattle.sip_read.specs.MessageComputed.{value_or_bad}
use Rattle.sip_read.proofs.Kept.{kept_said}
use Rattle.sip_read.proofs.value.accept_of.Goals as goal

kept_is : (t : List ℕ) (said : Result (List Range) HeaderError) (kept : Result (Option (List Range)) NoMemory) (o : Option (List Range))
    → IsSaid IsAccept RangesFit t said → KeptOf said kept → kept ≡ Ok o → o ≡ accept_kept t
kept_is t said kept o is_said is_kept is =
    let P : Result (Option (List Range)) NoMemory → Type 0 = λ r. IfOk r (λ o. o ≡ accept_kept t) in
    subst P is (kept_said IsAccept RangesFit accept_of ranges_fit accept_takes accept_again ranges_are_fit ranges_are_large t said kept is_said is_kept)

pub returns-in-Some : goal.returns-in-Some
returns-in-Some c =
    ap value_or_bad (kept_is c.args.joined.now c.read_accept.result c.kept.result (Some c.in-Some.ranges) c.read_accept.ensures.found c.kept.ensures (cc))

pub returns-in-None : goal.returns-in-None
returns-in-None c =
    ap value_or_bad (kept_is c.args.joined.now c.read_accept.result c.kept.result None c.read_accept.ensures.found c.kept.ensures (cc))
