use Rattle.std.proofs.Common.{refl, arith}
use Rattle.std.proofs.lemmas.Bool.{agree_below_at}
use Rattle.sip_text.specs.declared.scan.TheConstants.{CLASSES}
use Rattle.sip_text.specs.Bytes.{is_token_byte}
use Rattle.sip_text.proofs.Tables.{has_flag}
use Rattle.sip_text.proofs.scan.is_token.Goals as goal

pub returns : goal.returns
returns c = agree_below_at (has_flag CLASSES 1) is_token_byte 256 c.args.byte refl (omega arith)
