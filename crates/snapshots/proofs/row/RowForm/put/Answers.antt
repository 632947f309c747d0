use Rattle.std.proofs.Common.{◌≡◌, ◌++◌, ap, ◌∙◌}
use Rattle.snapshots.specs.Forms.{bytes_text, list_text, number_text}
use Rattle.snapshots.specs.Rows.{usage_text, want_text, state_text, unanswered_text}
use Rattle.snapshots.proofs.Appends.{more}
use Rattle.snapshots.proofs.row.RowForm.put.Goals as goal

pub returns : goal.returns
returns c =
    let s = c.args.self.now in
    let e1 : c.put.new.out.items ≡ c.args.out.now.items ++ number_text s.serial = c.in_ok-put.ensures in
    let e2 : c.put-2.new.out.items ≡ c.put.new.out.items ++ state_text s.sub = c.in_ok-put-2.ensures in
    let e3 : c.put-3.new.out.items ≡ c.put-2.new.out.items ++ number_text s.last_cseq = c.in_ok-put-3.ensures in
    let e4 : c.put-4.new.out.items ≡ c.put-3.new.out.items ++ list_text unanswered_text s.unanswered = c.in_ok-put-4.ensures in
    more (c.args.out.now.items) (number_text s.serial) (state_text s.sub ++ (number_text s.last_cseq ++ (list_text unanswered_text s.unanswered))) e1 (more (c.put.new.out.items) (state_text s.sub) (number_text s.last_cseq ++ (list_text unanswered_text s.unanswered)) e2 (more (c.put-2.new.out.items) (number_text s.last_cseq) (list_text unanswered_text s.unanswered) e3 (e4)))
