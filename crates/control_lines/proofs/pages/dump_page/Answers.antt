use Rattle.std.proofs.Common.{◌≡◌, ◌+◌, ◌++◌, ◌≤◌, List, ℕ, Some, rules, arith, sym, ap, ◌∙◌, drop, length, slice_get, string_bytes}
use Rattle.control_lines.specs.Told.{Row}
use Rattle.control_lines.specs.Pages.{told_lines, fits, page_with}
use Rattle.control_lines.proofs.PageSteps.{none_left, none_behind, page_whole, page_full, page_more}
use Rattle.control_lines.proofs.pages.dump_page.Goals as goal

pub returns-in_default : goal.returns-in_default
returns-in_default c = page_whole c.args.told.now c.args.from c.loop-place.place (string_bytes c.loop-place.page) c.loop-place.last.now c.loop-place.invariant.so_far (none_left c.args.told.now c.loop-place.place (sym c.in_default.ensures))

pub returns-then-not-fits : goal.returns-then-not-fits
returns-then-not-fits c =
    let row : Row = (c.in-Some.name.now, c.in-Some.counts) in
    let fit : fits (string_bytes c.loop-place.page) (told_lines row.0 row.1) ≡ c.fits.result = sym (rw (c.as_str.ensures.value, c.as_str-in-loop-place.ensures.value, c.in_ok-lines.ensures) at c.fits.ensures) in
    c.in_ok-write_more.ensures
    ∙ page_full c.args.told.now c.args.from c.loop-place.place (string_bytes c.loop-place.page) c.loop-place.last.now c.loop-place.invariant.so_far row (sym c.in-Some.ensures) (fit ∙ c.if-not-fits.true)

pub loop-place-preserved : goal.loop-place-preserved
loop-place-preserved c =
    let row : Row = (c.in-Some.name.now, c.in-Some.counts) in
    let fit : fits (string_bytes c.loop-place.page) (told_lines row.0 row.1) ≡ c.fits.result = sym (rw (c.as_str.ensures.value, c.as_str-in-loop-place.ensures.value, c.in_ok-lines.ensures) at c.fits.ensures) in
    let bytes : string_bytes c.push_str.new.self ≡ string_bytes c.loop-place.page ++ told_lines row.0 row.1 = rw (c.as_str-in-loop-place-2.ensures.value, c.in_ok-lines.ensures) at c.in_ok-push_str.ensures.bytes in record {
      so_far =
          ap (λ (p : List ℕ). page_with p row.0 (drop (c.loop-place.place + 1) c.args.told.now)) bytes
          ∙ page_more c.args.told.now c.args.from c.loop-place.place (string_bytes c.loop-place.page) c.loop-place.last.now c.loop-place.invariant.so_far row (sym c.in-Some.ensures) (fit ∙ c.if-not-fits.false);
      last_utf8 = search rules;
    }

pub returns : goal.returns
returns c =
    let low = c.loop-place-test.false in
    let len = c.len-place-end.ensures in
    page_whole c.args.told.now c.args.from c.loop-place.place (string_bytes c.loop-place.page) c.loop-place.last.now c.loop-place.invariant.so_far (none_behind c.args.told.now c.loop-place.place (omega arith))
