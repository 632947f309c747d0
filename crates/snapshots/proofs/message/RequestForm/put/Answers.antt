use Rattle.std.proofs.Common.{◌≡◌, ◌++◌}
use Rattle.snapshots.specs.Forms.{bytes_text, list_text, number_text}
use Rattle.snapshots.specs.Fields.{field_text, range_text}
use Rattle.snapshots.specs.Messages.{head_text, bool_text}
use Rattle.snapshots.specs.Rows.{event_text}
use Rattle.snapshots.proofs.Appends.{more}
use Rattle.snapshots.proofs.message.RequestForm.put.Goals as goal

pub returns : goal.returns
returns c =
    let s = c.args.self.now in
    let e1 : c.put.new.out.items ≡ c.args.out.now.items ++ bytes_text s.method = c.in_ok-put.ensures in
    let e2 : c.put-2.new.out.items ≡ c.put.new.out.items ++ bytes_text s.uri = c.in_ok-put-2.ensures in
    let e3 : c.put-3.new.out.items ≡ c.put-2.new.out.items ++ head_text s.head = c.in_ok-put-3.ensures in
    let e4 : c.put-4.new.out.items ≡ c.put-3.new.out.items ++ field_text event_text s.event = c.in_ok-put-4.ensures in
    let e5 : c.put-5.new.out.items ≡ c.put-4.new.out.items ++ field_text number_text s.expires = c.in_ok-put-5.ensures in
    let e6 : c.put-6.new.out.items ≡ c.put-5.new.out.items ++ field_text (list_text range_text) s.accept = c.in_ok-put-6.ensures in
    let e7 : c.put-7.new.out.items ≡ c.put-6.new.out.items ++ field_text bytes_text s.contact = c.in_ok-put-7.ensures in
    let e8 : c.put-8.new.out.items ≡ c.put-7.new.out.items ++ field_text bytes_text s.refer_to = c.in_ok-put-8.ensures in
    let e9 : c.put-9.new.out.items ≡ c.put-8.new.out.items ++ field_text bool_text s.refer_sub = c.in_ok-put-9.ensures in
    let e10 : c.put-10.new.out.items ≡ c.put-9.new.out.items ++ list_text bytes_text s.require = c.in_ok-put-10.ensures in
    let e11 : c.put-11.new.out.items ≡ c.put-10.new.out.items ++ list_text bytes_text s.record_routes = c.in_ok-put-11.ensures in
    let e12 : c.put-12.new.out.items ≡ c.put-11.new.out.items ++ bytes_text s.body = c.in_ok-put-12.ensures in
    more (c.args.out.now.items) (bytes_text s.method) (bytes_text s.uri ++ (head_text s.head ++ (field_text event_text s.event ++ (field_text number_text s.expires ++ (field_text (list_text range_text) s.accept ++ (field_text bytes_text s.contact ++ (field_text bytes_text s.refer_to ++ (field_text bool_text s.refer_sub ++ (list_text bytes_text s.require ++ (list_text bytes_text s.record_routes ++ (bytes_text s.body))))))))))) e1 (more (c.put.new.out.items) (bytes_text s.uri) (head_text s.head ++ (field_text event_text s.event ++ (field_text number_text s.expires ++ (field_text (list_text range_text) s.accept ++ (field_text bytes_text s.contact ++ (field_text bytes_text s.refer_to ++ (field_text bool_text s.refer_sub ++ (list_text bytes_text s.require ++ (list_text bytes_text s.record_routes ++ (bytes_text s.body)))))))))) e2 (more (c.put-2.new.out.items) (head_text s.head) (field_text event_text s.event ++ (field_text number_text s.expires ++ (field_text (list_text range_text) s.accept ++ (field_text bytes_text s.contact ++ (field_text bytes_text s.refer_to ++ (field_text bool_text s.refer_sub ++ (list_text bytes_text s.require ++ (list_text bytes_text s.record_routes ++ (bytes_text s.body))))))))) e3 (more (c.put-3.new.out.items) (field_text event_text s.event) (field_text number_text s.expires ++ (field_text (list_text range_text) s.accept ++ (field_text bytes_text s.contact ++ (field_text bytes_text s.refer_to ++ (field_text bool_text s.refer_sub ++ (list_text bytes_text s.require ++ (list_text bytes_text s.record_routes ++ (bytes_text s.body)))))))) e4 (more (c.put-4.new.out.items) (field_text number_text s.expires) (field_text (list_text range_text) s.accept ++ (field_text bytes_text s.contact ++ (field_text bytes_text s.refer_to ++ (field_text bool_text s.refer_sub ++ (list_text bytes_text s.require ++ (list_text bytes_text s.record_routes ++ (bytes_text s.body))))))) e5 (more (c.put-5.new.out.items) (field_text (list_text range_text) s.accept) (field_text bytes_text s.contact ++ (field_text bytes_text s.refer_to ++ (field_text bool_text s.refer_sub ++ (list_text bytes_text s.require ++ (list_text bytes_text s.record_routes ++ (bytes_text s.body)))))) e6 (more (c.put-6.new.out.items) (field_text bytes_text s.contact) (field_text bytes_text s.refer_to ++ (field_text bool_text s.refer_sub ++ (list_text bytes_text s.require ++ (list_text bytes_text s.record_routes ++ (bytes_text s.body))))) e7 (more (c.put-7.new.out.items) (field_text bytes_text s.refer_to) (field_text bool_text s.refer_sub ++ (list_text bytes_text s.require ++ (list_text bytes_text s.record_routes ++ (bytes_text s.body)))) e8 (more (c.put-8.new.out.items) (field_text bool_text s.refer_sub) (list_text bytes_text s.require ++ (list_text bytes_text s.record_routes ++ (bytes_text s.body))) e9 (more (c.put-9.new.out.items) (list_text bytes_text s.require) (list_text bytes_text s.record_routes ++ (bytes_text s.body)) e10 (more (c.put-10.new.out.items) (list_text bytes_text s.record_routes) (bytes_text s.body) e11 e12))))))))))
