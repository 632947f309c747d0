use Rattle.std.proofs.Common.{◌∷◌, ◌++◌, [], sym, ap, ◌∙◌, append_assoc, map, string_bytes}
use Rattle.std.proofs.lemmas.List.Elements.{All-push}
use Rattle.std.specs.Vec.Iter.{into_iter_items}
use Rattle.arguments.specs.Settings.{IsMailbox}
use Rattle.plans.specs.Plans.{each_once}
use Rattle.plans.proofs.Further.{named, once_more_told, told_more, told_no_more}
use Rattle.plans.proofs.mailboxes.further_names.Goals as goal

pub loop-name-preserved-in_ok-push : goal.loop-name-preserved-in_ok-push
loop-name-preserved-in_ok-push c =
    let names = c.args.names.now in let done = c.loop-name.yielded in let keys = c.loop-name.set.keys in let name = c.in-Some.name in
    let set = map string_bytes keys in let is = c.loop-name.invariant in
    let further = sym c.is_further.ensures.further ∙ c.if-is_further.true in
    let more = named keys _ _ name (c.in_ok-from_str.ensures.ok ∙ c.as_str.ensures) c.in_ok-insert.ensures.keys in record {
      whole = append_assoc done (name ∷ []) (into_iter_items c.next.new.self) ∙ (ap (λ l. done ++ l) (sym (c.in-Some.ensures.steps.0)) ∙ is.whole);
      mailboxes = rw c.in_ok-push.ensures.items (All-push IsMailbox _ _ is.mailboxes (c.is_further.ensures.mailbox c.if-is_further.true));
      together = rw c.in_ok-push.ensures.items (more ∙ once_more_told names c.loop-name.further.items set name is.together);
      told = more ∙ told_more c.args.most (each_once names) done set name is.told further;
    }

pub loop-name-preserved : goal.loop-name-preserved
loop-name-preserved c =
    let names = c.args.names.now in let done = c.loop-name.yielded in let name = c.in-Some.name in
    let set = map string_bytes c.loop-name.set.keys in let is = c.loop-name.invariant in
    let further = sym c.is_further.ensures.further ∙ c.if-is_further.false in record {
      whole = append_assoc done (name ∷ []) (into_iter_items c.next.new.self) ∙ (ap (λ l. done ++ l) (sym (c.in-Some.ensures.steps.0)) ∙ is.whole);
      mailboxes = is.mailboxes;
      together = is.together;
      told = told_no_more c.args.most (each_once names) done set name is.told further;
    }
