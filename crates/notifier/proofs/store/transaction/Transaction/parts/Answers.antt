use Rattle.std.proofs.Common.{◌<◌, ◌^◌, length, string_bytes, rules}
use Rattle.notifier.proofs.Written.{key_fits}
use Rattle.notifier.proofs.store.transaction.Transaction.parts.Goals as goal

pub returns-clause-fit : goal.returns-clause-fit
returns-clause-fit c =
    let few : length (string_bytes c.args.self.now.texts) < 2 ^ 64 = search rules in
    key_fits c.args.self.now.branch c.args.self.now.sent_by (string_bytes c.args.self.now.texts) few c.args.self.now.are_texts
