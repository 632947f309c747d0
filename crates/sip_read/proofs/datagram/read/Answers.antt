use Rattle.std.proofs.Common.{arith, rules}
use Rattle.std.proofs.lemmas.Grind.{common_steps}
use Rattle.sip_read.specs.MessageComputed.{read_of}
use Rattle.sip_read.specs.Views.{first}
use Rattle.sip_read.proofs.Exact.{answer, too_long, not_sip}
use Rattle.sip_read.proofs.datagram.read.Goals as goal

pub returns-then-bytes-gt65535-clause-found : goal.returns-then-bytes-gt65535-clause-found
returns-then-bytes-gt65535-clause-found c = (too_long c.args.bytes.now c.if-bytes-gt65535.true).0

pub returns-then-bytes-gt65535-clause-only : goal.returns-then-bytes-gt65535-clause-only
returns-then-bytes-gt65535-clause-only c = (too_long c.args.bytes.now c.if-bytes-gt65535.true).1

pub returns-then-bytes-gt65535-clause-long : goal.returns-then-bytes-gt65535-clause-long
returns-then-bytes-gt65535-clause-long c = (too_long c.args.bytes.now c.if-bytes-gt65535.true).2

pub returns-then-bytes-gt65535-clause-foreign : goal.returns-then-bytes-gt65535-clause-foreign
returns-then-bytes-gt65535-clause-foreign c = (too_long c.args.bytes.now c.if-bytes-gt65535.true).3

pub returns-in_default-clause-found : goal.returns-in_default-clause-found
returns-in_default-clause-found c = (not_sip c.args.bytes.now c.if-bytes-gt65535.false c.in_default.ensures).0

pub returns-in_default-clause-only : goal.returns-in_default-clause-only
returns-in_default-clause-only c = (not_sip c.args.bytes.now c.if-bytes-gt65535.false c.in_default.ensures).1

pub returns-in_default-clause-long : goal.returns-in_default-clause-long
returns-in_default-clause-long c = (not_sip c.args.bytes.now c.if-bytes-gt65535.false c.in_default.ensures).2

pub returns-in_default-clause-foreign : goal.returns-in_default-clause-foreign
returns-in_default-clause-foreign c = (not_sip c.args.bytes.now c.if-bytes-gt65535.false c.in_default.ensures).3

pub returns-in_err-rest-clause-found : goal.returns-in_err-rest-clause-found
unfolding read_of
returns-in_err-rest-clause-found c = (answer c.args.bytes.now c.if-bytes-gt65535.false (first c.in-Some.first) c.in-Some.section.now c.in-Some.ensures c.from_residual.result (first_of (search rules, grind (arith, common_steps)))).0

pub returns-in_err-rest-clause-only : goal.returns-in_err-rest-clause-only
unfolding read_of
returns-in_err-rest-clause-only c = (answer c.args.bytes.now c.if-bytes-gt65535.false (first c.in-Some.first) c.in-Some.section.now c.in-Some.ensures c.from_residual.result (first_of (search rules, grind (arith, common_steps)))).1

pub returns-in_err-rest-clause-long : goal.returns-in_err-rest-clause-long
unfolding read_of
returns-in_err-rest-clause-long c = (answer c.args.bytes.now c.if-bytes-gt65535.false (first c.in-Some.first) c.in-Some.section.now c.in-Some.ensures c.from_residual.result (first_of (search rules, grind (arith, common_steps)))).2

pub returns-in_err-rest-clause-foreign : goal.returns-in_err-rest-clause-foreign
unfolding read_of
returns-in_err-rest-clause-foreign c = (answer c.args.bytes.now c.if-bytes-gt65535.false (first c.in-Some.first) c.in-Some.section.now c.in-Some.ensures c.from_residual.result (first_of (search rules, grind (arith, common_steps)))).3

pub returns-clause-found : goal.returns-clause-found
unfolding read_of
returns-clause-found c = (answer c.args.bytes.now c.if-bytes-gt65535.false (first c.in-Some.first) c.in-Some.section.now c.in-Some.ensures c.finish.result (first_of (search rules, grind (arith, common_steps)))).0

pub returns-clause-only : goal.returns-clause-only
unfolding read_of
returns-clause-only c = (answer c.args.bytes.now c.if-bytes-gt65535.false (first c.in-Some.first) c.in-Some.section.now c.in-Some.ensures c.finish.result (first_of (search rules, grind (arith, common_steps)))).1

pub returns-clause-long : goal.returns-clause-long
unfolding read_of
returns-clause-long c = (answer c.args.bytes.now c.if-bytes-gt65535.false (first c.in-Some.first) c.in-Some.section.now c.in-Some.ensures c.finish.result (first_of (search rules, grind (arith, common_steps)))).2

pub returns-clause-foreign : goal.returns-clause-foreign
unfolding read_of
returns-clause-foreign c = (answer c.args.bytes.now c.if-bytes-gt65535.false (first c.in-Some.first) c.in-Some.section.now c.in-Some.ensures c.finish.result (first_of (search rules, grind (arith, common_steps)))).3
