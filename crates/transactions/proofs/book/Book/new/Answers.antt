use Rattle.std.proofs.Common.{rules, ◌≡◌, ◌∙◌, sym, ap, subst, arith, ℕ, ◌+◌, ◌*◌, ◌<◌, ◌^◌, Option, None, Some, replicate}
use Rattle.slab.specs.Slab.{get}
use Rattle.transactions.specs.declared.alarms.TheConstants.{NEVER}
use Rattle.transactions.specs.Rings.{IsAlone}
use Rattle.transactions.specs.Stored.{slot_alarm, name_ring, tag_ring, seated}
use Rattle.transactions.specs.Tournament.{IsTournament, leaf}
use Rattle.transactions.proofs.Books.{all_never}
use Rattle.transactions.proofs.Ringed.{ringed_alone}
use Rattle.transactions.proofs.Seats.{alone}
use Rattle.std.proofs.lemmas.List.{get_or-replicate}
use Rattle.transactions.proofs.book.Book.new.Goals as goal

not_there : {T : Type 0} {o : Option T} {t : T} → o ≡ None → o ≡ Some t → ⊥
not_there e k = let x = e in let y = k in cc

pub returns-clause-book : goal.returns-clause-book
returns-clause-book c =
    let empty = c.in_ok-slab.ensures.empty in
    let none : (p : ℕ) → get c.in_ok-slab.slab p ≡ None = λ p. ap (λ slots. get (record c.in_ok-slab.slab { slots = slots }) p) empty in
    let size = c.capacity-size.result in
    let leaves : c.in-Some.leaves ≡ size * 2 = search rules in
    let more : c.in-Some-checked_add.nodes ≡ c.in-Some.leaves + 1 = search rules in
    let nodes : c.in-Some-checked_add.nodes ≡ size + size + 1 = omega (arith, leaves, more) in
    let fits : c.in-Some-checked_add.nodes < 2 ^ 64 = search rules in
    let items : c.in_ok-alarms.alarms.items ≡ replicate (size * 2) NEVER = c.in_ok-alarms.ensures.items_if_clones_equal (λ y e. e) ∙ ap (λ n. replicate n NEVER) leaves in
    let names = subst (λ (n : ℕ). IsAlone n c.in_ok-names.names) nodes c.in_ok-names.ensures in
    let tags = subst (λ (n : ℕ). IsAlone n c.in_ok-tags.tags) nodes c.in_ok-tags.ensures in
    record {
      tournament = subst (IsTournament size) (sym items) (all_never size);
      size = search rules;
      fits = omega (arith, nodes, fits);
      alarmed = λ p l. ap (λ xs. leaf size xs p) items ∙ get_or-replicate (size * 2) (size + p) NEVER (record { moment = 0; serial = 0 }) (omega (arith, l)) ∙ sym (ap slot_alarm (none p));
      within = λ p t e. absurd (not_there (none p) e);
      early = λ p t e. absurd (not_there (none p) e);
      names = ringed_alone (λ n. seated size (name_ring size) n (get c.in_ok-slab.slab n)) c.in_ok-names.names (size + size + 1) names (λ n s e. alone size (name_ring size) n s (sym (ap (seated size (name_ring size) n) (none n)) ∙ e));
      tags = ringed_alone (λ n. seated size (tag_ring size) n (get c.in_ok-slab.slab n)) c.in_ok-tags.tags (size + size + 1) tags (λ n s e. alone size (tag_ring size) n s (sym (ap (seated size (tag_ring size) n) (none n)) ∙ e));
      many_names = names.many;
      many_tags = tags.many;
    }
