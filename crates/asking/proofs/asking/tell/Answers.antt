use Rattle.std.proofs.Common.{subst, ◌∙◌}
use Rattle.arguments.specs.Tell.{IsTellCall}
use Rattle.asking.proofs.Input.{told_again, no_json}
use Rattle.asking.proofs.asking.tell.Goals as goal

pub returns-in-Some-clause-no_object : goal.returns-in-Some-clause-no_object
returns-in-Some-clause-no_object g c = λ asked. absurd (no_json c.args.words.now c.in-Some.call c.in-Some.ensures asked.0)

pub returns-in-Some-clause-input : goal.returns-in-Some-clause-input
returns-in-Some-clause-input g c = λ other also. told_again c.args.words.now c.in-Some.call other _ c.in-Some.ensures also c.tell_input.ensures.told

pub returns-clause-no_call : goal.returns-clause-no_call
returns-clause-no_call g c = λ none other.
    c.tell_line_of.ensures.no_call (λ call is. none call (subst (λ words. IsTellCall words call) c.cut_json-is_json.ensures.words is))

pub returns-clause-no_object : goal.returns-clause-no_object
returns-clause-no_object g c = λ asked.
    c.tell_line_of.ensures.no_object (c.cut_json-is_json.ensures.is_json ∙ asked.0)
    (λ call is. asked.1 call (subst (λ words. IsTellCall words call) c.cut_json-is_json.ensures.words is))

pub returns-clause-input : goal.returns-clause-input
returns-clause-input g c = λ call is. absurd (c.in_default.ensures call is)
