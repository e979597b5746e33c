use Rattle.script_text.proofs.ReplayAgains.{replay_read_again}
use Rattle.script_text.proofs.ReplayLaws.{replay_read}
use Rattle.script_text.proofs.replay.read_replay.Goals as goal

pub returns-clause-read : goal.returns-clause-read
returns-clause-read c = replay_read c.args.text.now c.read.result c.read.ensures.exact

pub returns-clause-again : goal.returns-clause-again
returns-clause-again c = replay_read_again c.args.text.now c.read.result c.read.ensures.exact
