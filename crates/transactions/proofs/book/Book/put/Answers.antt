use Rattle.std.proofs.Common.{rules, ◌≡◌, ◌∙◌, ap, refl, arith, ℕ, ◌<◌, ◌^◌, cond, Some}
use Rattle.std.specs.Prelude.{◌==◌}
use Rattle.transactions.specs.declared.open.Open.{Open}
use Rattle.transactions.specs.Places.{name_head, tag_head}
use Rattle.transactions.specs.Stored.{name_ring, tag_ring}
use Rattle.transactions.specs.Tournament.{leaf}
use Rattle.transactions.proofs.Books.{still_book, that_one, ready_ring, ring_comes}
use Rattle.transactions.proofs.Seats.{name_is_head, tag_is_head}
use Rattle.transactions.proofs.book.Book.put.Goals as goal

pub join-requires : goal.join-requires
join-requires c =
    let b = c.args.self.now in
    let h = c.requires.book in
    let t = c.args.sent in
    let place = c.insert_reserved-place.result in
    let tag : c.as_str.result.now ≡ t.tag = search rules in
    let head : c.name_head-name.result ≡ name_ring b.size t = c.name_head-name.ensures ∙ ap (λ x. name_head b.size x t.number) tag in
    let within : place < b.size = omega (arith, c.insert_reserved-place.ensures.key_in_range, c.insert_reserved-place.ensures.capacity, h.size) in
    let r = ready_ring b name_ring place t h b.names h.names h.many_names (name_is_head b.size t.tag t.number) c.insert_reserved-place.ensures.was_vacant within c.name_head-name.result head in
    record { head = r.inside; node = omega (arith, within, h.many_names); newest = r.newest; apart = r.apart; comes = r.comes }

pub join-requires-2 : goal.join-requires-2
join-requires-2 c =
    let b = c.args.self.now in
    let h = c.requires.book in
    let t = c.args.sent in
    let place = c.insert_reserved-place.result in
    let tag : c.as_str-2.result.now ≡ t.tag = search rules in
    let head : c.tag_head-tag.result ≡ tag_ring b.size t = c.tag_head-tag.ensures ∙ ap (tag_head b.size) tag in
    let within : place < b.size = omega (arith, c.insert_reserved-place.ensures.key_in_range, c.insert_reserved-place.ensures.capacity, h.size) in
    let r = ready_ring b tag_ring place t h b.tags h.tags h.many_tags (tag_is_head b.size t.tag) c.insert_reserved-place.ensures.was_vacant within c.tag_head-tag.result head in
    record { head = r.inside; node = omega (arith, within, h.many_tags); newest = r.newest; apart = r.apart; comes = r.comes }

pub returns-clause-book : goal.returns-clause-book
returns-clause-book c =
    let old = c.args.self.now in
    let h = c.requires.book in
    let t = c.args.sent in
    let put = c.insert_reserved-place.ensures in
    let place = c.insert_reserved-place.result in
    let within : place < old.size = omega (arith, put.key_in_range, put.capacity, h.size) in
    let tag : c.as_str.result.now ≡ t.tag = search rules in
    let tag_again : c.as_str-2.result.now ≡ t.tag = search rules in
    let name : c.name_head-name.result ≡ name_ring old.size t = c.name_head-name.ensures ∙ ap (λ x. name_head old.size x t.number) tag in
    let ring : c.tag_head-tag.result ≡ tag_ring old.size t = c.tag_head-tag.ensures ∙ ap (tag_head old.size) tag_again in
    still_book old _ place (Some t) h (record {
      slab = put.updates;
      capacity = put.capacity;
      size = refl;
      within = within;
      tournament = c.set_alarm.ensures.tree;
      leaves = λ p inside. c.set_alarm.ensures.leaves p inside
          ∙ ap (λ (m : ℕ). cond (place == p) (record { moment = m; serial = t.serial }) (leaf old.size old.alarms.items p)) c.alarm.ensures;
      early = λ u e. that_one (λ (x : Open). x.first < 2 ^ 63) t u e c.requires.in_range;
      names = ring_comes old name_ring place t h old.names h.names h.many_names c.insert_reserved-place.new.self c.join.new.self (name_is_head old.size t.tag t.number) put.was_vacant within put.updates c.requires.newest c.name_head-name.result name c.join.ensures;
      tags = ring_comes old tag_ring place t h old.tags h.tags h.many_tags c.insert_reserved-place.new.self c.join-2.new.self (tag_is_head old.size t.tag) put.was_vacant within put.updates c.requires.newest c.tag_head-tag.result ring c.join-2.ensures;
      many_names = c.join.ensures.many;
      many_tags = c.join-2.ensures.many;
    })
