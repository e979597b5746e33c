use Rattle.object_target.specs.Objects.{put}
use Rattle.object_target.proofs.objects.keep.Goals as goal

pub returns-clause-kept : goal.returns-clause-kept
unfolding put
returns-clause-kept c = c.in_ok-_none.ensures.entries
