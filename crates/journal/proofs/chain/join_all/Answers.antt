use Rattle.std.proofs.Common.{rules, ◌≡◌, ◌∙◌, ◌+◌, ◌++◌, ◌∷◌, [], List, length, true, false, sym, ap, subst, append_assoc, arith}
use Rattle.std.specs.Vec.Iter.{into_iter_items}
use Rattle.std.proofs.lemmas.List.{length-append}
use Rattle.journal.specs.declared.file.Account.{Account}
use Rattle.journal.specs.Chains.{Follows, joined}
use Rattle.journal.proofs.Chaining.{IsPart, one_joined, has_gap}
use Rattle.journal.proofs.chain.join_all.Goals as goal

pub returns-then-not-follows-clause-gap : goal.returns-then-not-follows-clause-gap
returns-then-not-follows-clause-gap c =
    let at = c.loop-account in
    let account = c.in-Some.account in
    let other = c.in-Some-next.other in
    let os = into_iter_items c.next.new.self in
    let ns = into_iter_items c.next-in-loop-account.new.self in
    let steps : into_iter_items at.account-iterator ≡ account ∷ os = c.in-Some.ensures.steps.0 in
    let others : into_iter_items at.others ≡ other ∷ ns = c.in-Some-next.ensures.items in
    let part = at.invariant.part in
    let one = subst (λ (l : List Account). IsPart c.args.older.items c.args.newer.items at.worker l (into_iter_items at.others) at.all.items) steps part in
    let both = subst (λ (l : List Account). IsPart c.args.older.items c.args.newer.items at.worker (account ∷ os) l at.all.items) others one in
    has_gap c.args.older.items c.args.newer.items at.worker account other os ns at.all.items both
    (λ (f : Follows account other). let e : c.follows.result ≡ true = c.follows.ensures.1 f in let g : c.follows.result ≡ false = c.if-not-follows.true in absurd (cc))

pub loop-account-preserved : goal.loop-account-preserved
loop-account-preserved c =
    let at = c.loop-account in
    let account = c.in-Some.account in
    let other = c.in-Some-next.other in
    let os = into_iter_items c.next.new.self in
    let ns = into_iter_items c.next-in-loop-account.new.self in
    let steps : into_iter_items at.account-iterator ≡ account ∷ os = c.in-Some.ensures.steps.0 in
    let others : into_iter_items at.others ≡ other ∷ ns = c.in-Some-next.ensures.items in
    let part = at.invariant.part in
    let one = subst (λ (l : List Account). IsPart c.args.older.items c.args.newer.items at.worker l (into_iter_items at.others) at.all.items) steps part in
    let both = subst (λ (l : List Account). IsPart c.args.older.items c.args.newer.items at.worker (account ∷ os) l at.all.items) others one in
    let f : Follows account other = c.follows.ensures.0 c.if-not-follows.false in
    let made : c.in-Ok.account ≡ joined account other = c.in-Ok.ensures in
    let put : c.keep.new.all.items ≡ at.all.items ++ c.in-Ok.account ∷ [] = search rules in
    let same : at.all.items ++ joined account other ∷ [] ≡ c.keep.new.all.items = ap (λ (x : Account). at.all.items ++ x ∷ []) (sym made) ∙ sym put in
    record {
      whole = append_assoc at.yielded (account ∷ []) os ∙ rw (← steps) at.invariant.whole;
      number = (let long = length-append at.yielded (account ∷ []) in let was = at.invariant.number in omega arith);
      part = subst (IsPart c.args.older.items c.args.newer.items (at.worker + 1) os ns) same (one_joined c.args.older.items c.args.newer.items at.worker account other os ns at.all.items both f);
    }
