use Rattle.std.proofs.Common.{[], sym, ◌∙◌}
use Rattle.sip_write.proofs.Pages.{refused}
use Rattle.sip_write.proofs.page.Page.put_bytes.Goals as goal

pub returns : goal.returns
returns c = record {
  put = [];
  behind = refused _ _ _ _ c.extend_from_slice.ensures.items (sym c.is_ok.ensures.value ∙ c.if-is_ok.false);
  whole = λ w. absurd cc;
}
