use Rattle.std.proofs.Common.{◌++◌, ◌∷◌, [], ap, sym, ◌∙◌, map}
use Rattle.subscription.specs.Table.{fetch}
use Rattle.notifier_model.specs.Book.{telling, new_usage, new_want}
use Rattle.notifier_model.specs.Out.{Notifies, out_of}
use Rattle.notifier_model.specs.Rows.{Turned, mailbox_of, notify}
use Rattle.notifier.specs.Ledger.{book_of}
use Rattle.notifier.proofs.FirstTurns.{told_once}
use Rattle.notifier.proofs.store.Ledger.fetch.Goals as goal

pub returns : goal.returns
returns g c =
    let place = c.args.incoming.now.place.now in
    let source = c.args.incoming.now.source in
    let r = c.args.incoming.now.request.now in
    let n = c.args.newborn.now in
    let t = telling place (book_of g.P.Package.seen c.args.self.now) in
    let before = c.args.outs.now.items in
    let once = c.fetch-usage.ensures ∙ ap (λ u. fetch u c.in_ok-want.want) c.in_ok-usage.ensures ∙ ap (fetch (new_usage n.tag r)) c.in_ok-want.ensures.want in
    record {
      outs = c.in_ok-push.ensures.items
          ∙ ap (λ o. before ++ o ∷ []) (c.in_ok-out.ensures ∙ ap (λ f. out_of (Notifies source (mailbox_of f.1) (notify t f.0 f.1 f.2))) once)
          ∙ ap (λ (w : Turned). before ++ map out_of w.notifies) (sym (told_once t source r n c.requires.kind));
    }
