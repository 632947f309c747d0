use Rattle.std.proofs.Common.{ap, refl, None}
use Rattle.transactions.specs.Stored.{name_ring, tag_ring, seated, name_seat, tag_seat}
use Rattle.transactions.proofs.Books.{still_book, ring_goes}
use Rattle.transactions.proofs.Ringed.{older_within, newer_within}
use Rattle.transactions.proofs.book.Book.take.Goals as goal

pub part-requires : goal.part-requires
part-requires c =
    let b = c.args.self.now in
    let h = c.requires.book in
    let place = c.args.place in
    let t = c.remove.result in
    let sits = ap (seated b.size (name_ring b.size) place) c.remove.ensures.value in
    record {
      node = h.names.within place _ sits;
      older = older_within (name_seat b) b.names h.names place _ sits;
      newer = newer_within (name_seat b) b.names h.names place _ sits;
    }

pub part-requires-2 : goal.part-requires-2
part-requires-2 c =
    let b = c.args.self.now in
    let h = c.requires.book in
    let place = c.args.place in
    let t = c.remove.result in
    let sits = ap (seated b.size (tag_ring b.size) place) c.remove.ensures.value in
    record {
      node = h.tags.within place _ sits;
      older = older_within (tag_seat b) b.tags h.tags place _ sits;
      newer = newer_within (tag_seat b) b.tags h.tags place _ sits;
    }

pub returns-clause-book : goal.returns-clause-book
returns-clause-book c =
    let old = c.args.self.now in
    let h = c.requires.book in
    let place = c.args.place in
    let t = c.remove.result in
    still_book old _ place None h (record {
      slab = c.remove.ensures.updates;
      capacity = c.remove.ensures.capacity;
      size = refl;
      within = h.within place t c.remove.ensures.value;
      tournament = c.set_alarm.ensures.tree;
      leaves = λ p inside. c.set_alarm.ensures.leaves p inside;
      early = λ u e. absurd (cc);
      names = ring_goes old name_ring place t h old.names h.names h.many_names c.remove.new.self c.part.new.self c.remove.ensures.value c.remove.ensures.updates c.part.ensures;
      tags = ring_goes old tag_ring place t h old.tags h.tags h.many_tags c.remove.new.self c.part-2.new.self c.remove.ensures.value c.remove.ensures.updates c.part-2.ensures;
      many_names = c.part.ensures.many;
      many_tags = c.part-2.ensures.many;
    })
