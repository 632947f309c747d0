use Rattle.std.proofs.Common.{string_bytes}
use Rattle.service.proofs.Paging.{page_as}
use Rattle.service.proofs.window.WatchersPage.into_text.Goals as goal

pub returns-then-is : goal.returns-then-is
returns-then-is c = page_as c.args.self.inquiry c.args.inquiry.now (string_bytes c.args.self.text) (c.is.ensures.0 c.if-is.true) c.args.self.is_page
