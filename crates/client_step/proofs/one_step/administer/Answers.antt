use Rattle.std.proofs.Common.{refl, ap}
use Rattle.call_steps.specs.Servers.{servers}
use Rattle.mirror_admin.specs.OneStep.{one_step}
use Rattle.flr_steps.specs.Commands.{answered_by}
use Rattle.client_step.proofs.AtOnceLaws.{came_at_once}
use Rattle.client_step.proofs.one_step.administer.Goals as goal

pub returns-in-Answered : goal.returns-in-Answered
returns-in-Answered c = record {
  step = λ targets locks. came_at_once (servers c.args.meta.now targets locks) (one_step c.args.client c.args.command.now c.args.place c.args.meta.now) c.in-Answered.reply c.admin.new.meta c.answered.result c.answered.ensures c.in-Answered.ensures.came;
  free = λ h. rw c.answered.ensures tt;
}

pub returns-in-Blocked : goal.returns-in-Blocked
returns-in-Blocked c = record {
  step = λ targets locks. (ap (answered_by (servers c.args.meta.now targets locks)) c.in-Blocked.ensures.came.0, refl, ap (λ m. servers m targets locks) c.in-Blocked.ensures.came.1);
  free = λ h. tt;
}

pub returns-in-NoMemory : goal.returns-in-NoMemory
returns-in-NoMemory c = record {
  step = λ targets locks. (refl, ap (λ m. servers m targets locks) c.in-NoMemory.ensures.came.1);
  free = λ h. h c.in-NoMemory.ensures.came.0;
}
