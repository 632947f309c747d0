use Rattle.std.proofs.Common.{◌≡◌, drop, string_bytes}
use denote.Shadow.{shadow}
use denote.Text.{Utf8}
use Rattle.control_lines.specs.Pages.{page_with, dump_text}
use Rattle.control_lines.proofs.pages.dump_page.Given as goal

abbrev pub invariant-loop-place : goal.invariant-loop-place
invariant-loop-place l = record {
  so_far : page_with (string_bytes l.page) l.last (drop l.place l.told) ≡ dump_text l.told l.from;
  last_utf8 : shadow (Utf8 l.last);
}
