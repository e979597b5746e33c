use Rattle.std.proofs.Common.{arith}
use Rattle.script_values.proofs.RunWordLaws.{refused_is_none, read_is_found, too_few_is_none}
use Rattle.script_values.proofs.read.bytes_from.Goals as goal

pub returns-in-Err-Bad : goal.returns-in-Err-Bad
returns-in-Err-Bad c = refused_is_none c.args.least c.args.most c.args.word.now c.read_runs.result c.in-Err-Bad.field-0 c.requires c.read_runs.ensures.read c.in-Err-Bad.is (λ e. let is = c.in-Err-Bad.field-0-is in absurd cc)

pub returns-in-Err-TooLong : goal.returns-in-Err-TooLong
returns-in-Err-TooLong c = refused_is_none c.args.least c.args.most c.args.word.now c.read_runs.result c.in-Err-TooLong.field-0 c.requires c.read_runs.ensures.read c.in-Err-TooLong.is (λ e. let is = c.in-Err-TooLong.field-0-is in absurd cc)

pub returns-then-len-least : goal.returns-then-len-least
returns-then-len-least c = too_few_is_none c.args.least c.args.most c.args.word.now c.in-Ok.bytes c.read_runs.result c.requires c.read_runs.ensures.read c.in-Ok.is (omega arith)

pub returns : goal.returns
returns c = read_is_found c.args.least c.args.most c.args.word.now c.in-Ok.bytes c.read_runs.result c.read_runs.ensures.read c.in-Ok.is (omega arith)
