use Rattle.std.proofs.Common.{◌≡◌, ℕ, ◌+◌, ◌≤◌, ◌++◌, List, length, codes, sym, ap, ◌∙◌, arith}
use Rattle.sip_write.specs.Lines.{joined}
use Rattle.admission.specs.Challenge.{forbidden_text}
use Rattle.admission.proofs.AnswerParts.{inner, first, last, forbidden_parts, large_parts, between, long_enough}
use Rattle.admission.proofs.answer.Reply.large.Goals as goal

pub inner_lines-requires : goal.inner_lines-requires
inner_lines-requires c =
    let whole : c.as_slice.result.now ≡ forbidden_text c.args.self.now.source c.args.self.now.request.now c.args.self.now.tag.now = (let e = c.in_ok-forbidden.ensures in let k = c.as_slice.ensures in cc) in
    let h : 23 + 21 ≤ length c.as_slice.result.now = long_enough c.as_slice.result.now first (joined (inner c.args.self.now.source c.args.self.now.request.now c.args.self.now.tag.now)) last
    (whole ∙ forbidden_parts c.args.self.now.source c.args.self.now.request.now c.args.self.now.tag.now) in
    omega (arith, h)

pub returns : goal.returns
returns c =
    let whole : c.as_slice.result.now ≡ forbidden_text c.args.self.now.source c.args.self.now.request.now c.args.self.now.tag.now = (let e = c.in_ok-forbidden.ensures in let k = c.as_slice.ensures in cc) in
    let lines : List ℕ = joined (inner c.args.self.now.source c.args.self.now.request.now c.args.self.now.tag.now) in
    let mid : c.inner_lines.result.now ≡ lines = c.inner_lines.ensures ∙ between c.as_slice.result.now first lines last (whole ∙ forbidden_parts c.args.self.now.source c.args.self.now.request.now c.args.self.now.tag.now) in
    let start = c.in_ok-octets.ensures.items in
    let two = c.in_ok-extend_from_slice.ensures.items ∙ ap (λ (x : List ℕ). x ++ c.inner_lines.result.now) start ∙ ap (λ (x : List ℕ). codes "SIP/2.0 413 Request Entity Too Large\r\n" ++ x) mid in
    let three = c.in_ok-extend_from_slice-2.ensures.items ∙ ap (λ (x : List ℕ). x ++ last) two in
    c.new.ensures ∙ three ∙ sym (large_parts c.args.self.now.source c.args.self.now.request.now c.args.self.now.tag.now)
