use Rattle.std.proofs.Common.{◌≡◌, ◌++◌}
use Rattle.snapshots.specs.Forms.{bytes_text, list_text, number_text}
use Rattle.snapshots.specs.Messages.{via_text, party_text}
use Rattle.snapshots.proofs.Appends.{more}
use Rattle.snapshots.proofs.message.HeadForm.put.Goals as goal

pub returns : goal.returns
returns c =
    let s = c.args.self.now in
    let e1 : c.put.new.out.items ≡ c.args.out.now.items ++ list_text bytes_text s.vias = c.in_ok-put.ensures in
    let e2 : c.put-2.new.out.items ≡ c.put.new.out.items ++ via_text s.top = c.in_ok-put-2.ensures in
    let e3 : c.put-3.new.out.items ≡ c.put-2.new.out.items ++ party_text s.from = c.in_ok-put-3.ensures in
    let e4 : c.put-4.new.out.items ≡ c.put-3.new.out.items ++ party_text s.to = c.in_ok-put-4.ensures in
    let e5 : c.put-5.new.out.items ≡ c.put-4.new.out.items ++ bytes_text s.call_id = c.in_ok-put-5.ensures in
    let e6 : c.put-6.new.out.items ≡ c.put-5.new.out.items ++ number_text s.cseq = c.in_ok-put-6.ensures in
    let e7 : c.put-7.new.out.items ≡ c.put-6.new.out.items ++ bytes_text s.cseq_method = c.in_ok-put-7.ensures in
    more (c.args.out.now.items) (list_text bytes_text s.vias) (via_text s.top ++ (party_text s.from ++ (party_text s.to ++ (bytes_text s.call_id ++ (number_text s.cseq ++ (bytes_text s.cseq_method)))))) e1 (more (c.put.new.out.items) (via_text s.top) (party_text s.from ++ (party_text s.to ++ (bytes_text s.call_id ++ (number_text s.cseq ++ (bytes_text s.cseq_method))))) e2 (more (c.put-2.new.out.items) (party_text s.from) (party_text s.to ++ (bytes_text s.call_id ++ (number_text s.cseq ++ (bytes_text s.cseq_method)))) e3 (more (c.put-3.new.out.items) (party_text s.to) (bytes_text s.call_id ++ (number_text s.cseq ++ (bytes_text s.cseq_method))) e4 (more (c.put-4.new.out.items) (bytes_text s.call_id) (number_text s.cseq ++ (bytes_text s.cseq_method)) e5 (more (c.put-5.new.out.items) (number_text s.cseq) (bytes_text s.cseq_method) e6 (e7))))))
