use Rattle.std.proofs.Common.{◌≡◌, Some, rules}
use Rattle.event_headers.specs.HeaderReading.{range_at}
use Rattle.event_headers.specs.HeaderViews.{range_seen}
use Rattle.event_headers.proofs.Ranges.{range_shortens}
use Rattle.event_headers.proofs.accept.RangeElement.at.Goals as goal

pub returns-clause-no_longer : goal.returns-clause-no_longer
unfolding range_at
returns-clause-no_longer c =
    let is : range_at c.args.text.now ≡ Some (range_seen c.in-Some.written, c.in-Some-2.rest.now) = search rules in
    range_shortens c.args.text.now (range_seen c.in-Some.written) c.in-Some-2.rest.now is
