use Rattle.std.proofs.Common.{◌≡◌, ◌-◌, not}
use Rattle.std.specs.Prelude.{find, nat_eq}
use Rattle.std.specs.List.{range_with_len}
use Rattle.resync_copy.specs.Merges.{byte_at, first_difference}
use Rattle.resync_copy.proofs.pairs.first_difference.Given as goal

abbrev pub invariant-loop-place : goal.invariant-loop-place
invariant-loop-place l = first_difference l.length l.ours l.theirs ≡ find (λ place. not (nat_eq (byte_at l.ours place) (byte_at l.theirs place))) (range_with_len l.place (l.length - l.place))
