use Rattle.call_read.proofs.CallLaws.{front_again}
use Rattle.call_read.proofs.call.read_call.Goals as goal

pub returns-in-Err-clause-again : goal.returns-in-Err-clause-again
returns-in-Err-clause-again c = λ call rest readable e. front_again c.args.text.now c.in-Err.error c.in-Err.ensures call rest readable e
