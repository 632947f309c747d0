use Rattle.std.proofs.Common.{◌≡◌, ◌∙◌, ◌+◌, ◌++◌, ◌∷◌, [], ap, sym, subst, append_assoc, length, arith, rules, Some}
use Rattle.std.specs.Vec.Iter.{into_iter_items}
use Rattle.std.proofs.lemmas.List.{length-append}
use Rattle.journal.specs.declared.file.Account.{Account}
use Rattle.journal.specs.Generations.{account}
use Rattle.journal.specs.Gathering.{AreAccounts}
use Rattle.journal.proofs.Gathering.{accounts_pushed}
use Rattle.journal.proofs.file.accounts.Goals as goal

pub loop-known-preserved : goal.loop-known-preserved
loop-known-preserved c =
    let at = c.loop-known in
    let known = c.in-Some.known in
    let steps : into_iter_items at.known-iterator ≡ known ∷ into_iter_items c.next.new.self = c.in-Some.ensures.steps.0 in
    let is : account known ≡ Some c.in-Some-account.account = search rules in
    let put : c.keep.new.all.items ≡ at.accounts.items ++ c.in-Some-account.account ∷ [] = search rules in
    record {
      whole = append_assoc at.yielded (known ∷ []) _ ∙ rw (← steps) at.invariant.whole;
      each = subst (AreAccounts (at.yielded ++ known ∷ [])) (sym put) (accounts_pushed at.yielded at.accounts.items known c.in-Some-account.account at.invariant.each is);
      number = (let long = length-append at.yielded (known ∷ []) in let was = at.invariant.number in omega arith);
    }
