use Rattle.std.proofs.Common.{List, ℕ, subst}
use Rattle.sip_write.proofs.Cuts.{opened, lead_fits, lead_is, first_is, IsFront}
use Rattle.sip_write.proofs.via.parameter_len.Goals as goal

pub split_at-requires : goal.split_at-requires
split_at-requires c =
    let text = c.args.text.now in
    let k = opened text c.requires.front c.requires.some in
    lead_fits text _ k (lead_is text k _ c.split_front.ensures.front)

pub returns-clause-whole : goal.returns-clause-whole
returns-clause-whole c =
    let text = c.args.text.now in
    let k = opened text c.requires.front c.requires.some in
    let front : IsFront c.split_at.result.1.now c.front_len.result = record { whole = c.front_len.ensures.whole; rest = c.front_len.ensures.rest } in
    (first_is text _ c.front_len.result k (lead_is text k _ c.split_front.ensures.front)
    (subst (λ (x : List ℕ). IsFront x c.front_len.result) c.split_at.ensures.back front)).whole
