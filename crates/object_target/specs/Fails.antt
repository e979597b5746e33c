-- The calls that are listed to fail.
use Rattle.std.specs.Prelude.{◌≡◌, ◌==◌, ℕ, List, [], ◌∷◌, filter, Option, None, Some, if◌then◌else◌}
use Rattle.std.specs.BTreeMap.{BTreeMap, get}
use Rattle.std.specs.Ordering.{nat_cmp}
use Rattle.object_target.specs.declared.fail.Fail.{Fail}
use Rattle.object_target.specs.declared.fail.FailKind.{FailKind}

-- those that are listed for a target
abbrev pub fails_on : ℕ → List Fail → List Fail
fails_on target fails = filter (λ fail. fail.target == target) fails

-- how a call fails by its first line, if it is listed
abbrev pub kind_of : List Fail → ℕ → Option FailKind
kind_of [] call = None
kind_of (fail ∷ fails) call = if fail.call == call then Some fail.kind else kind_of fails call

-- a look-up finds how each listed call fails
abbrev pub FindsEach : BTreeMap ℕ FailKind → List Fail → Type 0
FindsEach kinds fails = (call : ℕ) → get nat_cmp kinds call ≡ kind_of fails call
