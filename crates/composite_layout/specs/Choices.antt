-- Which components a range of bytes touches, and when it is ready for a write.
use Rattle.std.specs.Prelude.{ℕ, Bool, true, false, not, ◌&&◌, ◌||◌, nat_eq, nat_lt, List, if◌then◌else◌}
use Rattle.std.specs.List.{list_any, list_all}
use Rattle.flr_base.specs.declared.reply.Range.{Range}
use Rattle.composite_layout.specs.declared.component.Component.{Component}
use Rattle.composite_layout.specs.declared.component.State.{State}
use Rattle.composite_layout.specs.declared.component.State.TheVariants as states
use Rattle.composite_layout.specs.Layouts.{Composite}
use Rattle.composite_layout.specs.LookUps.{mirror_ids}

-- whether the component has bytes of the range
abbrev pub overlaps : Range → Component → Bool
overlaps range c = nat_lt c.extent.start range.end && nat_lt range.start c.extent.end

-- whether the component stands so that a write of its bytes may go to this mirror: it is of the mirror, fresh, has its objects and isn't offline; or it is of another, and stale
abbrev pub is_open_to : ℕ → Component → Bool
is_open_to mirror c = if nat_eq c.mirror mirror then not c.flags.stale && (c.flags.init && not c.flags.offline) else c.flags.stale

-- whether all components over the range stand so
abbrev pub is_ready_mirror : Range → List Component → ℕ → Bool
is_ready_mirror range cs mirror = list_all (λ c. not (overlaps range c) || is_open_to mirror c) cs

-- whether the state lets writes go to a mirror
abbrev pub takes_writes : State → Bool
takes_writes states.Single = true
takes_writes states.ReadOnly = false
takes_writes states.WritePending = true
takes_writes states.SyncPending = false

-- whether the range is ready for a write: the state lets writes go to a mirror, and all components over the range stand so for some mirror
abbrev pub is_ready : Composite → Range → Bool
is_ready l range = takes_writes l.state && list_any (is_ready_mirror range l.components) (mirror_ids l.components)
