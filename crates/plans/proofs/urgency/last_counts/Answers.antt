use Rattle.plans.proofs.Urgent.{LastWords, no_cut, no_second_cut, no_first_count, no_second_count, ends_so}
use Rattle.plans.proofs.urgency.last_counts.Goals as goal

pub returns-in_err-rest : goal.returns-in_err-rest
returns-in_err-rest c = rw c.from_residual.ensures (λ front new old. no_cut c.args.line.now front new old c.in_err-rest.ensures)

pub returns-in_err-front : goal.returns-in_err-front
returns-in_err-front c =
    rw c.from_residual-in_err-front.ensures (λ front new old. no_second_cut c.args.line.now c.in_ok-rest.rest.now c.in_ok-rest.urgent_old.now front new old c.in_ok-rest.ensures.0 c.in_ok-rest.ensures.1 c.in_err-front.ensures)

pub returns-in_err-count_of : goal.returns-in_err-count_of
returns-in_err-count_of c =
    let words : LastWords c.args.line.now c.in_ok-front.front.now c.in_ok-front.urgent_new.now c.in_ok-rest.urgent_old.now = record {
      rest = c.in_ok-rest.rest.now;
      cut = c.in_ok-rest.ensures.0;
      again = c.in_ok-front.ensures.0;
      second_spaceless = c.in_ok-rest.ensures.1;
      first_spaceless = c.in_ok-front.ensures.1;
    } in
    rw c.from_residual-in_err-count_of.ensures (λ front new old. no_first_count c.args.line.now c.in_ok-front.front.now c.in_ok-front.urgent_new.now c.in_ok-rest.urgent_old.now front new old words c.in_err-count_of.ensures)

pub returns-in_err-count_of-2 : goal.returns-in_err-count_of-2
returns-in_err-count_of-2 c =
    let words : LastWords c.args.line.now c.in_ok-front.front.now c.in_ok-front.urgent_new.now c.in_ok-rest.urgent_old.now = record {
      rest = c.in_ok-rest.rest.now;
      cut = c.in_ok-rest.ensures.0;
      again = c.in_ok-front.ensures.0;
      second_spaceless = c.in_ok-rest.ensures.1;
      first_spaceless = c.in_ok-front.ensures.1;
    } in
    rw c.from_residual-in_err-count_of-2.ensures (λ front new old. no_second_count c.args.line.now c.in_ok-front.front.now c.in_ok-front.urgent_new.now c.in_ok-rest.urgent_old.now front new old words c.in_err-count_of-2.ensures)

pub returns : goal.returns
returns c =
    let words : LastWords c.args.line.now c.in_ok-front.front.now c.in_ok-front.urgent_new.now c.in_ok-rest.urgent_old.now = record {
      rest = c.in_ok-rest.rest.now;
      cut = c.in_ok-rest.ensures.0;
      again = c.in_ok-front.ensures.0;
      second_spaceless = c.in_ok-rest.ensures.1;
      first_spaceless = c.in_ok-front.ensures.1;
    } in
    ends_so c.args.line.now c.in_ok-front.front.now c.in_ok-front.urgent_new.now c.in_ok-rest.urgent_old.now c.in_ok-count_of.field-0 c.in_ok-count_of-2.field-0 words c.in_ok-count_of.ensures c.in_ok-count_of-2.ensures
