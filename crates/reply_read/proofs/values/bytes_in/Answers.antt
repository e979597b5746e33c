use Rattle.std.proofs.Common.{arith}
use Rattle.script_values.proofs.RunWordLaws.{refused_is_none, read_is_found}
use Rattle.reply_read.proofs.values.bytes_in.Goals as goal

pub returns-in-Err-Bad : goal.returns-in-Err-Bad
returns-in-Err-Bad c = refused_is_none 0 4294967295 c.args.word.now c.read_runs.result c.in-Err-Bad.field-0 (omega arith) c.read_runs.ensures.read c.in-Err-Bad.is (λ e. let is = c.in-Err-Bad.field-0-is in absurd cc)

pub returns-in-Err-TooLong : goal.returns-in-Err-TooLong
returns-in-Err-TooLong c = refused_is_none 0 4294967295 c.args.word.now c.read_runs.result c.in-Err-TooLong.field-0 (omega arith) c.read_runs.ensures.read c.in-Err-TooLong.is (λ e. let is = c.in-Err-TooLong.field-0-is in absurd cc)

pub returns-in-Ok : goal.returns-in-Ok
returns-in-Ok c = read_is_found 0 4294967295 c.args.word.now c.in-Ok.bytes c.read_runs.result c.read_runs.ensures.read c.in-Ok.is (omega arith)
