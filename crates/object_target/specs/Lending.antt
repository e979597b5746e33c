-- A target that is lent to be called.
use Rattle.std.specs.Prelude.{ℕ, List, slice_set}
use Rattle.std.specs.Borrow.{Lends, MutBor, Fml}
use Rattle.object_target.specs.TargetState.{TargetState}
use Rattle.object_target.specs.contracts.target.Target as target
use Rattle.object_target.specs.contracts.targets.Targets.{the_row}

-- the targets end with the last value of the one that is lent
abbrev pub LendsTarget : MutBor (List TargetState) → ℕ → MutBor TargetState → Fml
LendsTarget targets id lent = Lends the_row target.the_row targets lent (slice_set targets.now id)
