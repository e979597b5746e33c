-- The best place is that of the lowest of those ids among the components so far.
use Rattle.std.proofs.Common.{Some, take}
use Rattle.mirror_select.specs.Tails.{has_lower_id, is_next}
use Rattle.mirror_select.proofs.Least.{IsBest}
use Rattle.client_write.proofs.tails.next_component.Given as goal

abbrev pub invariant-loop-index : goal.invariant-loop-index
invariant-loop-index l = IsBest (is_next (Some l.mirror) l.from l.id) has_lower_id (take l.index l.components) l.best
