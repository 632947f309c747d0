use Rattle.std.proofs.Common.{◌≡◌, ◌∷◌, [], ap, sym, ◌∙◌, append_assoc, arith, length, string_bytes}
use Rattle.std.specs.Vec.Iter.{into_iter_items}
use Rattle.std.specs.FinMap.{insert}
use Rattle.std.proofs.lemmas.Map.Text.{hash_map_updates_text}
use Rattle.package.specs.Content.{OfMail, contents_of}
use Rattle.package.specs.Changes.{unset}
use Rattle.package.proofs.Held.{held_insert}
use Rattle.message_summary.proofs.Steps.{first_contents-push}
use Rattle.message_summary.proofs.mailboxes.unset_mailboxes.Goals as goal

pub loop-name-preserved : goal.loop-name-preserved
loop-name-preserved c =
    let at = c.loop-name in
    let name = c.in-Some.name in
    let steps : into_iter_items at.name-iterator ≡ name ∷ into_iter_items c.next.new.self = c.in-Some.ensures.steps.0 in
    record {
      all = append_assoc at.yielded (name ∷ []) _ ∙ rw (← steps) at.invariant.all;
      sized = let was = at.invariant.sized in let gone = c.in-Some.ensures.steps.1 in let short = ap length steps in omega arith;
      so_far =
          held_insert OfMail at.mailboxes.entries c.insert.new.self.entries (string_bytes name) c.unset.result
          (hash_map_updates_text (string_bytes name) at.mailboxes c.insert.new.self _ c.in_ok-insert.ensures.updates)
          ∙ ap (λ counts. insert (contents_of OfMail at.mailboxes.entries) (string_bytes name) (OfMail counts)) c.unset.ensures
          ∙ ap (λ m. insert m (string_bytes name) (OfMail unset)) at.invariant.so_far
          ∙ sym (first_contents-push at.yielded name);
    }
