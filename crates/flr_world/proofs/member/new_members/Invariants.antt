use Rattle.std.proofs.Common.{◌≡◌, replicate}
use Rattle.flr_world.specs.Worlds.{new_member}
use Rattle.flr_world.proofs.member.new_members.Given as goal

abbrev pub invariant-loop-k : goal.invariant-loop-k
invariant-loop-k l = l.members.items ≡ replicate l._k new_member
