use Rattle.std.proofs.Common.{rules, ◌≡◌, Some, None, length, arith}
use Rattle.std.proofs.lemmas.Bool.Decides.{nat_tests}
use Rattle.std.proofs.lemmas.Result.{err_from_is_err_and}
use Rattle.snapshots.specs.Books.{behind, saved_at, Reads}
use Rattle.snapshots.proofs.Books.{no_line, not_read, more_follows, whole_book}
use Rattle.snapshots.proofs.book.read_book.Goals as goal

pub returns-in_default : goal.returns-in_default
returns-in_default c = no_line c.args.bytes.now (search rules)

pub returns-in_err-saved : goal.returns-in_err-saved
returns-in_err-saved c =
    let p = err_from_is_err_and c.from_residual.result c.from_residual.ensures.1 in
    rw (p.1, p.2) tt

pub returns-in_default-2 : goal.returns-in_default-2
returns-in_default-2 c =
    let first : behind c.args.bytes.now ≡ Some c.in-Some.rest.now = search rules in
    let none : saved_at c.in-Some.rest.now ≡ None = search rules in
    not_read c.args.bytes.now c.in-Some.rest.now first none

pub returns-then-not-is_empty : goal.returns-then-not-is_empty
returns-then-not-is_empty c =
    let first : behind c.args.bytes.now ≡ Some c.in-Some.rest.now = search rules in
    let found : saved_at c.in-Some.rest.now ≡ Some (c.in-Some-2.saved, c.in-Some-2.rest.now) = search rules in
    more_follows c.args.bytes.now c.in-Some.rest.now c.in-Some-2.saved c.in-Some-2.rest.now first found (λ e. (let f = c.if-not-is_empty.true in grind (arith, nat_tests)))

pub returns : goal.returns
returns c =
    let first : behind c.args.bytes.now ≡ Some c.in-Some.rest.now = search rules in
    let found : saved_at c.in-Some.rest.now ≡ Some (c.in-Some-2.saved, c.in-Some-2.rest.now) = search rules in
    whole_book c.args.bytes.now c.in-Some.rest.now c.in-Some-2.saved c.in-Some-2.rest.now first found (let f = c.if-not-is_empty.false in grind (arith, nat_tests))
