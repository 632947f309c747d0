use Rattle.std.proofs.Common.{◌≡◌, ℕ, ◌+◌, ◌<◌, ◌^◌, ◌++◌, ◌∷◌, [], ap, sym, subst, ◌∙◌, List, Option, Some, map, is_none, true, false, arith, All, option_to_list, append-nil, rules}
use Rattle.std.specs.Prelude.{IfSome, is_ok}
use Rattle.subscription.specs.Table.{accept}
use Rattle.notifier_model.specs.Book.{telling, new_usage, new_want, new_row, first_told}
use Rattle.notifier_model.specs.Out.{Notifies, out_of}
use Rattle.notifier_model.specs.Rows.{Turned, mailbox_of, opened, notify}
use Rattle.notifier_model.specs.declared.row.Row.{Row}
use Rattle.notifier_model.specs.Start.{tag_of}
use Rattle.notifier.specs.Ledger.{book_of}
use Rattle.notifier.specs.Sound.{IsLive, IsOwn, AreRising}
use Rattle.notifier.specs.Stored.{rows_of}
use Rattle.notifier.proofs.Births.{lasting_asks}
use Rattle.notifier.proofs.FirstTurns.{told_live, told_over}
use Rattle.notifier.proofs.Lives.{all_more, born_lives}
use Rattle.notifier.proofs.Owned.{IsStill, born_keeps, own_more, rising_more}
use Rattle.notifier.proofs.Turning.{not_ok}
use Rattle.notifier.proofs.store.Ledger.begin.Goals as goal

pub accept-step-requires-clause-some_time : goal.accept-step-requires-clause-some_time
accept-step-requires-clause-some_time g c =
    c.granted.ensures.some_time (lasting_asks c.args.incoming.now.place.now.limits c.args.incoming.now.request.now c.args.newborn.now.kind c.requires.kind c.requires.lasts)

pub returns-in_err-push-in-Live-clause-rows : goal.returns-in_err-push-in-Live-clause-rows
returns-in_err-push-in-Live-clause-rows g c = let e : is_ok c.from_residual-in_err-push-in-Live.result ≡ false = search rules in not_ok _ _ e

pub returns-in_err-push-in-Live-2-clause-rows : goal.returns-in_err-push-in-Live-2-clause-rows
returns-in_err-push-in-Live-2-clause-rows g c = let e : is_ok c.from_residual-in_err-push-in-Live-2.result ≡ false = search rules in not_ok _ _ e

pub returns-in_err-out-in-Over-clause-rows : goal.returns-in_err-out-in-Over-clause-rows
returns-in_err-out-in-Over-clause-rows g c = let e : is_ok c.from_residual-in_err-out-in-Over.result ≡ false = search (rules, c.from_residual-in_err-out-in-Over.ensures) in not_ok _ _ e

pub returns-in_err-push-in-Over-clause-rows : goal.returns-in_err-push-in-Over-clause-rows
returns-in_err-push-in-Over-clause-rows g c = let e : is_ok c.from_residual-in_err-push-in-Over.result ≡ false = search (rules, c.from_residual-in_err-push-in-Over.ensures) in not_ok _ _ e

pub returns-in_ok-push-in-Live-3-clause-rows : goal.returns-in_ok-push-in-Live-3-clause-rows
unfolding opened new_row
returns-in_ok-push-in-Live-3-clause-rows g c =
    let place = c.args.incoming.now.place.now in
    let source = c.args.incoming.now.source in
    let r = c.args.incoming.now.request.now in
    let n = c.args.newborn.now in
    let t = telling place (book_of g.P.Package.seen c.args.self.now) in
    let e = c.accept-step.ensures ∙ ap (λ u. accept u c.in_ok-want.want t.clock c.granted.result) c.in_ok-usage.ensures
    ∙ ap (λ w. accept (new_usage n.tag r) w t.clock c.granted.result) c.in_ok-want.ensures.want
    ∙ ap (λ k. accept (new_usage n.tag r) (new_want place n.tag source r) t.clock k) c.granted.ensures.value in
    let told = told_live t source r n c.requires.lasts c.accept-step.result e c.in-Live.sub c.in-Live.notice c.in-Live.is in
    let unanswered = c.new.ensures ∙ c.in_ok-push-in-Live-2.ensures.items ∙ ap (λ l. l ++ record { number = c.in-Live.notice.number; moment = t.clock } ∷ []) c.new-unanswered.ensures.items in
    let before = rows_of c.args.self.now.rows in
    c.in_ok-push-in-Live-3.ensures.rows
    ∙ ap (λ l. before ++ (let row : Row = record { serial = n.serial; sub = c.in-Live.sub; last_cseq = r.head.cseq; unanswered = l } in row) ∷ []) unanswered
    ∙ ap (λ (k : Turned). before ++ option_to_list k.row) (sym told)

pub returns-in_ok-push-in-Live-3-clause-stays : goal.returns-in_ok-push-in-Live-3-clause-stays
returns-in_ok-push-in-Live-3-clause-stays g c =
    let place = c.args.incoming.now.place.now in
    let source = c.args.incoming.now.source in
    let r = c.args.incoming.now.request.now in
    let n = c.args.newborn.now in
    let t = telling place (book_of g.P.Package.seen c.args.self.now) in
    let e = c.accept-step.ensures ∙ ap (λ u. accept u c.in_ok-want.want t.clock c.granted.result) c.in_ok-usage.ensures
    ∙ ap (λ w. accept (new_usage n.tag r) w t.clock c.granted.result) c.in_ok-want.ensures.want
    ∙ ap (λ k. accept (new_usage n.tag r) (new_want place n.tag source r) t.clock k) c.granted.ensures.value in
    let told = told_live t source r n c.requires.lasts c.accept-step.result e c.in-Live.sub c.in-Live.notice c.in-Live.is in
    ap (λ (k : Turned). is_none k.row) told

pub returns-in_ok-push-in-Live-3-clause-outs : goal.returns-in_ok-push-in-Live-3-clause-outs
returns-in_ok-push-in-Live-3-clause-outs g c =
    let place = c.args.incoming.now.place.now in
    let source = c.args.incoming.now.source in
    let r = c.args.incoming.now.request.now in
    let n = c.args.newborn.now in
    let t = telling place (book_of g.P.Package.seen c.args.self.now) in
    let e = c.accept-step.ensures ∙ ap (λ u. accept u c.in_ok-want.want t.clock c.granted.result) c.in_ok-usage.ensures
    ∙ ap (λ w. accept (new_usage n.tag r) w t.clock c.granted.result) c.in_ok-want.ensures.want
    ∙ ap (λ k. accept (new_usage n.tag r) (new_want place n.tag source r) t.clock k) c.granted.ensures.value in
    let told = told_live t source r n c.requires.lasts c.accept-step.result e c.in-Live.sub c.in-Live.notice c.in-Live.is in
    let before = c.args.outs.now.items in
    c.in_ok-push-in-Live.ensures.items
    ∙ ap (λ o. before ++ o ∷ []) (c.in_ok-out-in-Live.ensures
    ∙ ap (λ u. out_of (Notifies source (mailbox_of c.want.result.now) (notify t u c.want.result.now c.in-Live.notice))) c.usage.ensures
    ∙ ap (λ w. out_of (Notifies source (mailbox_of w) (notify t c.in-Live.sub.usage w c.in-Live.notice))) c.want.ensures)
    ∙ ap (λ (k : Turned). before ++ map out_of k.notifies) (sym told)

pub returns-in_ok-push-in-Live-3-clause-sound : goal.returns-in_ok-push-in-Live-3-clause-sound
returns-in_ok-push-in-Live-3-clause-sound g c =
    let limits = c.are_in_range.ensures in
    let place = c.args.incoming.now.place.now in
    let source = c.args.incoming.now.source in
    let r = c.args.incoming.now.request.now in
    let n = c.args.newborn.now in
    let before = c.args.self.now in
    let next = before.next in
    let t = telling place (book_of g.P.Package.seen before) in
    let row : Option Row = (first_told t source r n).row in
    let live : IfSome row (IsLive before.clock) = born_lives t source r n limits c.requires.kind in
    let still : IfSome row (IsStill n.serial n.tag) = born_keeps t source r n in
    let own : IfSome row (IsStill next (tag_of place next)) =
    subst (λ k. IfSome row (IsStill k (tag_of place next))) c.requires.serial (subst (λ x. IfSome row (IsStill n.serial x)) c.requires.tag still) in
    let rows : rows_of c.push-in-Live-2.new.self ≡ rows_of before.rows ++ option_to_list row = returns-in_ok-push-in-Live-3-clause-rows g c in
    record {
      clock_fits = c.requires.sound.clock_fits;
      next_begins = omega arith;
      next_fits = let room = c.requires.room in let serials = limits.serials in omega arith;
      rows_indexed = c.in_ok-push-in-Live-3.ensures.indexed;
      rows_live = subst (All (IsLive before.clock)) (sym rows) (all_more (IsLive before.clock) (rows_of before.rows) row c.requires.sound.rows_live live);
      rows_own = subst (All (IsOwn place (next + 1))) (sym rows) (own_more place next (rows_of before.rows) row c.requires.sound.rows_own own);
      rows_rise = subst AreRising (sym rows) (rising_more place next (tag_of place next) (rows_of before.rows) row c.requires.sound.rows_rise c.requires.sound.rows_own own);
      ring_fits = c.requires.sound.ring_fits;
    }

pub returns-in_ok-push-in-Over-clause-rows : goal.returns-in_ok-push-in-Over-clause-rows
returns-in_ok-push-in-Over-clause-rows g c =
    let place = c.args.incoming.now.place.now in
    let source = c.args.incoming.now.source in
    let r = c.args.incoming.now.request.now in
    let n = c.args.newborn.now in
    let t = telling place (book_of g.P.Package.seen c.args.self.now) in
    let e = c.accept-step.ensures ∙ ap (λ u. accept u c.in_ok-want.want t.clock c.granted.result) c.in_ok-usage.ensures
    ∙ ap (λ w. accept (new_usage n.tag r) w t.clock c.granted.result) c.in_ok-want.ensures.want
    ∙ ap (λ k. accept (new_usage n.tag r) (new_want place n.tag source r) t.clock k) c.granted.ensures.value in
    let told = told_over t source r n c.requires.lasts c.accept-step.result e c.in-Over.usage c.in-Over.want c.in-Over.notice c.in-Over.is in
    let before = rows_of c.args.self.now.rows in
    sym (append-nil before) ∙ ap (λ (k : Turned). before ++ option_to_list k.row) (sym told)

pub returns-in_ok-push-in-Over-clause-stays : goal.returns-in_ok-push-in-Over-clause-stays
returns-in_ok-push-in-Over-clause-stays g c =
    let place = c.args.incoming.now.place.now in
    let source = c.args.incoming.now.source in
    let r = c.args.incoming.now.request.now in
    let n = c.args.newborn.now in
    let t = telling place (book_of g.P.Package.seen c.args.self.now) in
    let e = c.accept-step.ensures ∙ ap (λ u. accept u c.in_ok-want.want t.clock c.granted.result) c.in_ok-usage.ensures
    ∙ ap (λ w. accept (new_usage n.tag r) w t.clock c.granted.result) c.in_ok-want.ensures.want
    ∙ ap (λ k. accept (new_usage n.tag r) (new_want place n.tag source r) t.clock k) c.granted.ensures.value in
    let told = told_over t source r n c.requires.lasts c.accept-step.result e c.in-Over.usage c.in-Over.want c.in-Over.notice c.in-Over.is in
    ap (λ (k : Turned). is_none k.row) told

pub returns-in_ok-push-in-Over-clause-outs : goal.returns-in_ok-push-in-Over-clause-outs
returns-in_ok-push-in-Over-clause-outs g c =
    let place = c.args.incoming.now.place.now in
    let source = c.args.incoming.now.source in
    let r = c.args.incoming.now.request.now in
    let n = c.args.newborn.now in
    let t = telling place (book_of g.P.Package.seen c.args.self.now) in
    let e = c.accept-step.ensures ∙ ap (λ u. accept u c.in_ok-want.want t.clock c.granted.result) c.in_ok-usage.ensures
    ∙ ap (λ w. accept (new_usage n.tag r) w t.clock c.granted.result) c.in_ok-want.ensures.want
    ∙ ap (λ k. accept (new_usage n.tag r) (new_want place n.tag source r) t.clock k) c.granted.ensures.value in
    let told = told_over t source r n c.requires.lasts c.accept-step.result e c.in-Over.usage c.in-Over.want c.in-Over.notice c.in-Over.is in
    let before = c.args.outs.now.items in
    c.in_ok-push-in-Over.ensures.items ∙ ap (λ o. before ++ o ∷ []) c.in_ok-out-in-Over.ensures ∙ ap (λ (k : Turned). before ++ map out_of k.notifies) (sym told)
