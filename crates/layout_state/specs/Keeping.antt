-- What a mark of a layout leaves as it was.
use Rattle.std.specs.Prelude.{◌≡◌, true}
use Rattle.composite_layout.specs.declared.component.Component.{Component}
use Rattle.layout_state.specs.Marking.{frame_of}

-- the component has its id, mirror, extent and stripes, and where it had objects it has the same
pub record Stays (old new : Component) : Type 0 where
  pub frame : frame_of new ≡ frame_of old
  pub objects : old.flags.init ≡ true → (new.flags.init ≡ true) × (new.objects ≡ old.objects)

-- the component is stale where it was
abbrev pub StaysStale : Component → Component → Type 0
StaysStale old new = old.flags.stale ≡ true → new.flags.stale ≡ true
