use Rattle.std.proofs.Common.{◌∷◌, ◌++◌, [], refl, ap, sym, ◌∙◌, subst}
use Rattle.service.specs.declared.fates.Put.{Put}
use Rattle.service.specs.Sending.{call_of}
use Rattle.service.specs.Keeping.{AreKept, act_of}
use Rattle.service.proofs.Acts.{state_first}
use Rattle.service.proofs.Keeping.{kept_same, kept_more}
use Rattle.service.specs.Releasing.{waits}
use Rattle.service.proofs.Releasing.{fewer_same, fewer_more}
use Rattle.service.proofs.sending.Waiting.put.Goals as goal

pub returns-in-Err-clause-put : goal.returns-in-Err-clause-put
returns-in-Err-clause-put g c = λ s rows acts is.
    let back = c.in-Err.ensures.err in let first = c.settle.ensures in let one = c.keep.ensures in let p = c.in-Err.put in
    let mid = first.kept s rows acts (kept_same c.args.self.now _ (ap (λ b. b.items) back.1) refl refl is) in
    let all = kept_more mid first.none (act_of p ∷ []) c.keep.new.self (ap (λ b. b.items) one.burst ∙ first.none)
    (one.kept ∙ sym (state_first (call_of (act_of p)) [] _)) (c.keep.new.self.watchers.rows, one.seen, refl) in
    subst (λ (x : Put). AreKept s rows (acts ++ act_of x ∷ []) c.keep.new.self) back.0 all

pub returns-in-Err-clause-fewer : goal.returns-in-Err-clause-fewer
returns-in-Err-clause-fewer g c = fewer_more _ _ _ c.settle.ensures.fewer c.keep.ensures.fewer

pub returns-in_default-clause-fewer : goal.returns-in_default-clause-fewer
returns-in_default-clause-fewer g c = fewer_same (waits c.args.self.now.contacts)
