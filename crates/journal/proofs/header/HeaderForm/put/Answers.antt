use Rattle.std.proofs.Common.{◌≡◌, ◌++◌}
use Rattle.snapshots.specs.Forms.{bytes_text, number_text, address_text}
use Rattle.snapshots.proofs.Appends.{more}
use Rattle.journal.proofs.header.HeaderForm.put.Goals as goal

pub returns : goal.returns
returns c =
    let s = c.args.self.now in
    let e1 : c.put.new.out.items ≡ c.args.out.now.items ++ bytes_text s.version = c.in_ok-put.ensures in
    let e2 : c.put-2.new.out.items ≡ c.put.new.out.items ++ number_text s.workers = c.in_ok-put-2.ensures in
    let e3 : c.put_bytes.new.out.items ≡ c.put-2.new.out.items ++ bytes_text s.seed = c.in_ok-put_bytes.ensures in
    let e4 : c.put-3.new.out.items ≡ c.put_bytes.new.out.items ++ address_text s.listen = c.in_ok-put-3.ensures in
    let e5 : c.put-4.new.out.items ≡ c.put-3.new.out.items ++ address_text s.contact = c.in_ok-put-4.ensures in
    let e6 : c.put-5.new.out.items ≡ c.put-4.new.out.items ++ bytes_text s.boot = c.in_ok-put-5.ensures in
    more (c.args.out.now.items) (bytes_text s.version) (number_text s.workers ++ (bytes_text s.seed ++ (address_text s.listen ++ (address_text s.contact ++ (bytes_text s.boot))))) e1 (more (c.put.new.out.items) (number_text s.workers) (bytes_text s.seed ++ (address_text s.listen ++ (address_text s.contact ++ (bytes_text s.boot)))) e2 (more (c.put-2.new.out.items) (bytes_text s.seed) (address_text s.listen ++ (address_text s.contact ++ (bytes_text s.boot))) e3 (more (c.put_bytes.new.out.items) (address_text s.listen) (address_text s.contact ++ (bytes_text s.boot)) e4 (more (c.put-3.new.out.items) (address_text s.contact) (bytes_text s.boot) e5 e6))))
