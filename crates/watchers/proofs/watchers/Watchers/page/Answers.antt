use Rattle.std.proofs.Common.{◌≡◌, ℕ, [], IfOk, ap, subst, ◌∙◌, arith, length, string_bytes}
use Rattle.watchers.specs.declared.page.TheConstants.{LOOKS}
use Rattle.watchers.specs.Pages.{Page, after_looks, beginning, page_text}
use Rattle.watchers.proofs.Bounded.{page_bounded}
use Rattle.watchers.proofs.watchers.Watchers.page.Goals as goal

pub returns-in_err-look-clause-bounded : goal.returns-in_err-look-clause-bounded
returns-in_err-look-clause-bounded c = page_bounded c.args.now c.args.inquiry.now.mailbox c.args.inquiry.now.place c.args.self.now.rows

pub returns-clause-page : goal.returns-clause-page
returns-clause-page c =
    let low = c.loop-looked-test.false in let end = c.loop-looked.auto._looked-end in
    let all : c.loop-looked._looked ≡ LOOKS = omega arith in
    let rows = c.args.self.now.rows in let mailbox = c.args.inquiry.now.mailbox in
    let start : Page = record { moment = c.args.now; left = beginning c.args.inquiry.now.place (length rows); lines = 0; text = [] } in
    subst (λ (p : Page). IfOk c.into_text.result (λ text. string_bytes text ≡ page_text p))
    (c.loop-looked.invariant ∙ ap (λ (n : ℕ). after_looks rows mailbox n start) all) c.into_text.ensures

pub returns-clause-bounded : goal.returns-clause-bounded
returns-clause-bounded c = page_bounded c.args.now c.args.inquiry.now.mailbox c.args.inquiry.now.place c.args.self.now.rows
