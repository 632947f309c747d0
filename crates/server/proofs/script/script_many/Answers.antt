use Rattle.std.proofs.Common.{rules}
use Rattle.server.proofs.Runs.{on_ok, on_errs, written}
use Rattle.server.proofs.script.script_many.Goals as goal

pub returns : goal.returns
returns g c =
    let out = c.write_page.ensures in
    written c.write_page.result (search rules) out.device
    (on_ok c.write_page.result
    (λ wrote. record {
      bytes = c.in_ok-bytes.bytes.items;
      page = c.in_ok-page.page;
      was_read = c.in_ok-bytes.ensures.whole;
      is_all = c.in_ok-bytes.ensures.end;
      is_page = rw c.as_slice.ensures.value at c.in_ok-page.ensures.page;
      was_written = rw c.as_slice-2.ensures at wrote;
    }) out.whole)
    out.flushed out.no_failure
    (on_errs c.write_page.result
    (λ failed wrote. (
      failed,
      record {
        bytes = c.in_ok-bytes.bytes.items;
        page = c.in_ok-page.page;
        was_read = c.in_ok-bytes.ensures.whole;
        is_all = c.in_ok-bytes.ensures.end;
        is_page = rw c.as_slice.ensures.value at c.in_ok-page.ensures.page;
        was_written = rw c.as_slice-2.ensures at wrote;
      },
    )) out.failure out.front)
