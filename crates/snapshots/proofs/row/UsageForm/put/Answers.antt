use Rattle.std.proofs.Common.{◌≡◌, ◌++◌, ap, ◌∙◌}
use Rattle.snapshots.specs.Forms.{bytes_text, list_text, number_text}
use Rattle.snapshots.specs.Rows.{usage_text, want_text, state_text, unanswered_text}
use Rattle.snapshots.proofs.Appends.{more}
use Rattle.snapshots.proofs.row.UsageForm.put.Goals as goal

pub returns : goal.returns
returns c =
    let s = c.args.self.now in
    let e1 : c.put.new.out.items ≡ c.args.out.now.items ++ bytes_text s.call_id = c.in_ok-put.ensures in
    let e2 : c.put-2.new.out.items ≡ c.put.new.out.items ++ bytes_text s.local_tag = c.in_ok-put-2.ensures in
    let e3 : c.put-3.new.out.items ≡ c.put-2.new.out.items ++ bytes_text s.remote_tag = c.in_ok-put-3.ensures in
    let e4 : c.put-4.new.out.items ≡ c.put-3.new.out.items ++ bytes_text s.local = c.in_ok-put-4.ensures in
    let e5 : c.put-5.new.out.items ≡ c.put-4.new.out.items ++ bytes_text s.remote = c.in_ok-put-5.ensures in
    let e6 : c.put-6.new.out.items ≡ c.put-5.new.out.items ++ bytes_text s.target = c.in_ok-put-6.ensures in
    let e7 : c.put-7.new.out.items ≡ c.put-6.new.out.items ++ list_text bytes_text s.routes = c.in_ok-put-7.ensures in
    let e8 : c.put-8.new.out.items ≡ c.put-7.new.out.items ++ number_text s.remote_cseq = c.in_ok-put-8.ensures in
    more (c.args.out.now.items) (bytes_text s.call_id) (bytes_text s.local_tag ++ (bytes_text s.remote_tag ++ (bytes_text s.local ++ (bytes_text s.remote ++ (bytes_text s.target ++ (list_text bytes_text s.routes ++ (number_text s.remote_cseq))))))) e1 (more (c.put.new.out.items) (bytes_text s.local_tag) (bytes_text s.remote_tag ++ (bytes_text s.local ++ (bytes_text s.remote ++ (bytes_text s.target ++ (list_text bytes_text s.routes ++ (number_text s.remote_cseq)))))) e2 (more (c.put-2.new.out.items) (bytes_text s.remote_tag) (bytes_text s.local ++ (bytes_text s.remote ++ (bytes_text s.target ++ (list_text bytes_text s.routes ++ (number_text s.remote_cseq))))) e3 (more (c.put-3.new.out.items) (bytes_text s.local) (bytes_text s.remote ++ (bytes_text s.target ++ (list_text bytes_text s.routes ++ (number_text s.remote_cseq)))) e4 (more (c.put-4.new.out.items) (bytes_text s.remote) (bytes_text s.target ++ (list_text bytes_text s.routes ++ (number_text s.remote_cseq))) e5 (more (c.put-5.new.out.items) (bytes_text s.target) (list_text bytes_text s.routes ++ (number_text s.remote_cseq)) e6 (more (c.put-6.new.out.items) (list_text bytes_text s.routes) (number_text s.remote_cseq) e7 (e8)))))))
