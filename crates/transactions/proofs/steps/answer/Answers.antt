use Rattle.std.proofs.Common.{◌≡◌, ◌∙◌, sym, ap, ℕ, true, false, List, arith, filter_map}
use Rattle.std.specs.Prelude.{◌==◌, if◌then◌else◌}
use Rattle.std.proofs.lemmas.Bool.Decides.{nat_tests}
use Rattle.transactions.specs.declared.open.TheConstants.{GONE}
use Rattle.transactions.specs.Machine.{State, wherever, without, at_name, answered, answer}
use Rattle.transactions.specs.Stored.{live_list, book_state}
use Rattle.transactions.proofs.Sounds.{same_state}
use Rattle.transactions.proofs.steps.answer.Goals as goal

gone : (s : State) (tag : List ℕ) (number status : ℕ) → (status == GONE) ≡ true → record s { live = without tag s.live } ≡ answer s tag number status
unfolding answer
gone s tag number status e = sym (ap (λ b. if b then record s { live = without tag s.live } else at_name tag number (answered status) s) e)

one : (s : State) (tag : List ℕ) (number status : ℕ) → (status == GONE) ≡ false → at_name tag number (answered status) s ≡ answer s tag number status
unfolding answer
one s tag number status e = sym (ap (λ b. if b then record s { live = without tag s.live } else at_name tag number (answered status) s) e)

pub returns-then-status-eq-GONE-clause-answered : goal.returns-then-status-eq-GONE-clause-answered
returns-then-status-eq-GONE-clause-answered c = λ allowance.
    let old = c.args.book.now in
    let tag = c.args.tag.now in
    let test : (c.args.status == GONE) ≡ true = grind (arith, nat_tests) in
    same_state allowance old.kept (without tag (live_list old)) c.end_tag.new.book c.end_tag.ensures.kept c.end_tag.ensures.live
    ∙ gone (book_state allowance old) tag c.args.number c.args.status test

pub returns-else-status-eq-GONE-clause-answered : goal.returns-else-status-eq-GONE-clause-answered
returns-else-status-eq-GONE-clause-answered c = λ allowance.
    let old = c.args.book.now in
    let tag = c.args.tag.now in
    let number = c.args.number in
    let status = c.args.status in
    let test : (status == GONE) ≡ false = grind (arith, nat_tests) in
    same_state allowance old.kept (filter_map (wherever tag number (answered status)) (live_list old)) c.answer_one.new.book c.answer_one.ensures.kept c.answer_one.ensures.live
    ∙ one (book_state allowance old) tag number status test
