use Rattle.std.proofs.Common.{◌≡◌, arith, None, true, false, rules}
use Rattle.std.specs.Prelude.{codes}
use Rattle.std.specs.Str.{str_eq_ignore_ascii_case}
use Rattle.std.proofs.lemmas.Grind.{common_steps}
use Rattle.sip_read.specs.FirstLineComputed.{first_at}
use Rattle.sip_read.specs.Views.{first}
use Rattle.sip_read.proofs.FirstLines.{begins_bare, no_first, status_first, no_uri, no_version, other_version, request_first}
use Rattle.sip_read.proofs.datagram.first_at.Goals as goal

pub returns-in_err-method : goal.returns-in_err-method
returns-in_err-method c =
    let none : first_at c.args.bytes.now ≡ None = begins_bare c.args.bytes.now c.in_ok-line.line.now c.in_ok-line.section.now c.in_ok-line.ensures c.in_err-method.ensures in
    first_of (cc, search rules, grind (arith, common_steps))

pub returns-in_err-status : goal.returns-in_err-status
returns-in_err-status c =
    let none : first_at c.args.bytes.now ≡ None = no_first c.args.bytes.now c.in_ok-line.line.now c.in_ok-line.section.now c.in_ok-line.ensures c.in_ok-method.method.now c.in_ok-method.rest.now c.in_ok-method.ensures c.in_default.ensures c.in_err-status.ensures in
    first_of (cc, search rules, grind (arith, common_steps))

pub returns-in_default : goal.returns-in_default
returns-in_default c =
    status_first c.args.bytes.now c.in_ok-line.line.now c.in_ok-line.section.now c.in_ok-line.ensures c.in_ok-method.method.now c.in_ok-method.rest.now c.in_ok-method.ensures c.in_default.ensures (first c.in_ok-status.status) c.in_ok-status.ensures

pub returns-in_err-uri : goal.returns-in_err-uri
returns-in_err-uri c =
    let none : first_at c.args.bytes.now ≡ None = no_uri c.args.bytes.now c.in_ok-line.line.now c.in_ok-line.section.now c.in_ok-line.ensures c.in_ok-method.method.now c.in_ok-method.rest.now c.in_ok-method.ensures c.in-Some.rest.now c.in-Some.ensures c.in_err-uri.ensures in
    first_of (cc, search rules, grind (arith, common_steps))

pub returns-in_err-version : goal.returns-in_err-version
returns-in_err-version c =
    let none : first_at c.args.bytes.now ≡ None = no_version c.args.bytes.now c.in_ok-line.line.now c.in_ok-line.section.now c.in_ok-line.ensures c.in_ok-method.method.now c.in_ok-method.rest.now c.in_ok-method.ensures c.in-Some.rest.now c.in-Some.ensures c.in_ok-uri.uri.now c.in_ok-uri.rest.now c.in_ok-uri.ensures c.in_err-version.ensures in
    first_of (cc, search rules, grind (arith, common_steps))

pub returns-then-is_version : goal.returns-then-is_version
returns-then-is_version c =
    let sip : str_eq_ignore_ascii_case c.in_ok-version.version.now (codes "SIP/2.0") ≡ true = cc in
    request_first c.args.bytes.now c.in_ok-line.line.now c.in_ok-line.section.now c.in_ok-line.ensures c.in_ok-method.method.now c.in_ok-method.rest.now c.in_ok-method.ensures c.in-Some.rest.now c.in-Some.ensures c.in_ok-uri.uri.now c.in_ok-uri.rest.now c.in_ok-uri.ensures c.in_ok-version.version.now c.in_ok-version.ensures sip

pub returns-else-is_version : goal.returns-else-is_version
returns-else-is_version c =
    let other : str_eq_ignore_ascii_case c.in_ok-version.version.now (codes "SIP/2.0") ≡ false = cc in
    other_version c.args.bytes.now c.in_ok-line.line.now c.in_ok-line.section.now c.in_ok-line.ensures c.in_ok-method.method.now c.in_ok-method.rest.now c.in_ok-method.ensures c.in-Some.rest.now c.in-Some.ensures c.in_ok-uri.uri.now c.in_ok-uri.rest.now c.in_ok-uri.ensures c.in_ok-version.version.now c.in_ok-version.ensures other
