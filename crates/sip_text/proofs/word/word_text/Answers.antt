use Rattle.std.proofs.Common.{rules}
use Rattle.std.specs.Str.{IsUtf8}
use Rattle.sip_text.specs.Bytes.{is_in}
use Rattle.sip_text.proofs.Utf8.{text_from_ascii, text_again}
use Rattle.sip_text.proofs.word.word_text.Goals as goal

pub from_utf8_unchecked-requires : goal.from_utf8_unchecked-requires
from_utf8_unchecked-requires c = text_from_ascii (is_in c.args.class) (c.if-is_ascii.ensures (search rules)) c.args.word.now c.requires

pub returns-then-is_ascii : goal.returns-then-is_ascii
returns-then-is_ascii c =
    let text : IsUtf8 c.args.word.now = text_from_ascii (is_in c.args.class) (c.if-is_ascii.ensures (search rules)) c.args.word.now c.requires in
    rw c.from_utf8_unchecked.ensures (text_again c.args.word.now text)
