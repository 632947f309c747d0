use Rattle.std.proofs.Common.{rules, ◌≡◌, sym, subst, arith, decimal}
use Rattle.sip_text.specs.Grammar.{IsToken}
use Rattle.event_headers.proofs.Tokens.{token_tested, decimal_is_token}
use Rattle.event_headers.proofs.values.EventValue.numbered.Goals as goal

pub invariant_of-result : goal.invariant_of-result
invariant_of-result c =
    let name : c.in_ok-package.package ≡ c.args.package.now = search rules in
    let number : c.new.result ≡ decimal c.args.id = search rules in
    (subst IsToken (sym name) (token_tested c.args.package.now c.requires), subst IsToken (sym number) (decimal_is_token c.args.id (omega (arith, c.ranges.id.fits))))
