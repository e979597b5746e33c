use Rattle.std.proofs.Common.{◌∙◌, sym}
use Rattle.script_text.proofs.SlotLaws.{no_bytes, some_bytes, bad_bytes}
use Rattle.script_text.proofs.slots.bytes_of.Goals as goal

pub returns-then-is_empty : goal.returns-then-is_empty
returns-then-is_empty c = no_bytes c.args.word.now c.in-Ok.bytes (sym c.is_empty.ensures.none ∙ c.if-is_empty.true) c.in-Ok.ensures.read.0

pub returns-else-is_empty : goal.returns-else-is_empty
returns-else-is_empty c = some_bytes c.args.word.now c.in-Ok.bytes (sym c.is_empty.ensures.none ∙ c.if-is_empty.false) c.in-Ok.ensures.read.0 c.in-Ok.ensures.read.1

pub returns-in-Err-Bad : goal.returns-in-Err-Bad
returns-in-Err-Bad c = bad_bytes c.args.word.now (rw c.in-Err-Bad.field-0-is at c.in-Err-Bad.ensures.again)

pub returns-in-Err-TooLong : goal.returns-in-Err-TooLong
returns-in-Err-TooLong c = bad_bytes c.args.word.now (rw c.in-Err-TooLong.field-0-is at c.in-Err-TooLong.ensures.again)
