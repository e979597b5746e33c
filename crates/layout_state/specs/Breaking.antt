-- What the break of a lease does to a layout.
use Rattle.std.specs.Prelude.{ℕ, ◌+◌, nat_eq, length, if◌then◌else◌}
use Rattle.composite_layout.specs.declared.component.State.{State}
use Rattle.composite_layout.specs.declared.component.State.TheVariants as states
use Rattle.composite_layout.specs.Layouts.{Composite}
use Rattle.composite_layout.specs.LookUps.{mirror_ids}

-- the state of so many mirrors where a write may have left some of them behind
abbrev pub pending : ℕ → State
pending mirrors = if nat_eq mirrors 1 then states.Single else states.WritePending

-- the layout after a break: one generation more, and the state of a file that may have been written; all else stays
abbrev pub broken : Composite → Composite
broken l = record l { generation = l.generation + 1; state = pending (length (mirror_ids l.components)) }

-- the layout that a change begins from: broken first where a copy is under way
abbrev pub unleased : Composite → Composite
unleased l = unleased_in l.state l
  where
    unleased_in : State → Composite → Composite
    unleased_in states.Single l = l
    unleased_in states.ReadOnly l = l
    unleased_in states.WritePending l = l
    unleased_in states.SyncPending l = broken l
