use Rattle.std.proofs.Common.{◌≡◌, ◌++◌, ap, ◌∙◌}
use Rattle.snapshots.specs.Forms.{bytes_text, list_text, number_text}
use Rattle.snapshots.specs.Rows.{usage_text, want_text, state_text, unanswered_text}
use Rattle.snapshots.proofs.Appends.{more}
use Rattle.snapshots.proofs.row.SubForm.put.Goals as goal

pub returns : goal.returns
returns c =
    let s = c.args.self.now in
    let e1 : c.put.new.out.items ≡ c.args.out.now.items ++ usage_text s.usage = c.in_ok-put.ensures ∙ ap (λ v. c.args.out.now.items ++ usage_text v) c.usage.ensures in
    let e2 : c.put-2.new.out.items ≡ c.put.new.out.items ++ want_text s.want = c.in_ok-put-2.ensures ∙ ap (λ v. c.put.new.out.items ++ want_text v) c.want.ensures in
    let e3 : c.put-3.new.out.items ≡ c.put-2.new.out.items ++ number_text s.count = c.in_ok-put-3.ensures ∙ ap (λ v. c.put-2.new.out.items ++ number_text v) c.count.ensures.value in
    let e4 : c.put-4.new.out.items ≡ c.put-3.new.out.items ++ number_text s.due = c.in_ok-put-4.ensures ∙ ap (λ v. c.put-3.new.out.items ++ number_text v) c.due.ensures in
    more (c.args.out.now.items) (usage_text s.usage) (want_text s.want ++ (number_text s.count ++ (number_text s.due))) e1 (more (c.put.new.out.items) (want_text s.want) (number_text s.count ++ (number_text s.due)) e2 (more (c.put-2.new.out.items) (number_text s.count) (number_text s.due) e3 (e4)))
