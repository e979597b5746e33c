-- The components of new mirrors, and a new layout.
use Rattle.std.specs.Prelude.{ℕ, ◌+◌, ◌*◌, ℤ, pos, negsuc, Bool, false, nat_eq, min, List, [], ◌∷◌, ◌++◌, length, if◌then◌else◌}
use Rattle.composite_layout.specs.declared.component.Component.{Component}
use Rattle.composite_layout.specs.declared.component.State.{State}
use Rattle.composite_layout.specs.declared.component.State.TheVariants as states
use Rattle.composite_layout.specs.declared.spec.Part.{Part}
use Rattle.composite_layout.specs.declared.spec.MirrorSpec.{MirrorSpec}
use Rattle.composite_layout.specs.Layouts.{Composite}

-- the number of stripes on so many targets: no more than there are targets, and -1 means all
abbrev pub stripes_of : ℕ → ℤ → ℕ
stripes_of targets (pos n) = min n targets
stripes_of targets (negsuc n) = targets

-- the component with number q of a new mirror that begins at this byte and is striped as the part says
abbrev pub new_component : Bool → ℕ → ℕ → Bool → ℕ → ℕ → Part → Component
new_component stale targets id prefer q start p = record {
  id = id * 65536 + q;
  mirror = id;
  flags = record { init = false; stale = stale; prefer = prefer; offline = false; nosync = false };
  extent = record { start = start; end = p.end };
  stripe = record { size = p.size; count = stripes_of targets p.count };
  objects = [];
}

-- the components of a new mirror, numbered from q on, the first of which begins at this byte
abbrev pub new_parts : Bool → ℕ → ℕ → Bool → ℕ → ℕ → List Part → List Component
new_parts stale targets id prefer q start [] = []
new_parts stale targets id prefer q start (p ∷ ps) = new_component stale targets id prefer q start p ∷ new_parts stale targets id prefer (q + 1) p.end ps

-- the components of new mirrors, whose ids go from this one on, and whose numbers go from q on
abbrev pub new_mirrors : Bool → ℕ → ℕ → ℕ → List MirrorSpec → List Component
new_mirrors stale targets id q [] = []
new_mirrors stale targets id q (m ∷ ms) = new_parts stale targets id m.prefer q 0 m.parts ++ new_mirrors stale targets (id + 1) (q + length m.parts) ms

-- how many components the mirrors have
abbrev pub part_count : List MirrorSpec → ℕ
part_count [] = 0
part_count (m ∷ ms) = length m.parts + part_count ms

-- the state of a new file with so many mirrors
abbrev pub new_state : ℕ → State
new_state mirrors = if nat_eq mirrors 1 then states.Single else states.ReadOnly

-- the layout of a new file
abbrev pub new_layout : List MirrorSpec → ℕ → Composite
new_layout ms targets = record {
  generation = 1;
  state = new_state (length ms);
  next_mirror = length ms + 1;
  next_counter = part_count ms + 1;
  components = new_mirrors false targets 1 1 ms;
}
