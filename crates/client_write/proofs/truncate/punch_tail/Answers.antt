use Rattle.client_write.proofs.Called.{put_back}
use Rattle.client_write.proofs.truncate.punch_tail.Goals as goal

pub returns-in-Err-NoMemory-clause-unchanged : goal.returns-in-Err-NoMemory-clause-unchanged
returns-in-Err-NoMemory-clause-unchanged c =
    put_back c.args.targets.now c.args.tail.object.target _ c.punch.new.self c.at_mut-target.ensures.same (rw c.in-Err-NoMemory.field-0-is at c.in-Err-NoMemory.ensures.after)
