-- The changes of a layout, and which files a split and a merge make.
use Rattle.std.specs.Prelude.{◌≡◌, ℕ, ◌<◌, ◌≤◌, List, length, true, Some, None}
use Rattle.flr_base.specs.declared.reply.Range.{Range}
use Rattle.composite_layout.specs.declared.spec.MirrorSpec.{MirrorSpec}
use Rattle.composite_layout.specs.FlagChanges.{FlagSets}
use Rattle.composite_layout.specs.Layouts.{Composite}
use Rattle.composite_layout.specs.LookUps.{mirror_ids, wholly_fresh}
use Rattle.composite_layout.specs.Making.{part_count}
use Rattle.composite_layout.specs.Specs.{IsSpec}
use Rattle.layout_state.specs.Breaking.{broken, unleased}
use Rattle.layout_state.specs.Choosing.{primary_of}
use Rattle.layout_state.specs.Making.{AreNext}
use Rattle.layout_state.specs.Marking.{flags_refusal, IsBegin, IsDone, IsFlagChange, IsIntent}
use Rattle.layout_state.specs.Mirroring.{excess, keeping, IsAdd, IsRemove, Merge, Off}

-- the lease is broken
abbrev pub IsBreak : Composite → Composite → Type 0
IsBreak old new = new ≡ broken old

-- a layout changes into another by one of the seven, none of which is refused
pub data Change (old new : Composite) : Type 0 where
  Intent : (range : Range) (mirror file : ℕ) (nexts after : List ℕ) → AreNext nexts → primary_of range old.components ≡ Some mirror → IsIntent range mirror file nexts old new after → Change old new
  Begin : (ids : List ℕ) (file : ℕ) (nexts after : List ℕ) → AreNext nexts → IsBegin ids file nexts old new after → Change old new
  Break : IsBreak old new → Change old new
  Done : (ids : List ℕ) → IsDone ids old new → Change old new
  Add : (mirrors : List MirrorSpec) (targets most : ℕ) → IsSpec mirrors → 0 < targets → targets ≤ 64 → most ≤ 32 → excess old (length mirrors) (part_count mirrors) most ≡ None → IsAdd mirrors targets (unleased old) new → Change old new
  Remove : (mirror : ℕ) → keeping mirror old.components ≡ None → IsRemove mirror (unleased old) new → Change old new
  Flags : (id : ℕ) (change : FlagSets) → flags_refusal id change old.components ≡ None → IsFlagChange id change old new → Change old new

-- a layout takes in another, which isn't refused
pub record TakesIn (old victim new : Composite) : Type 0 where
  pub most : ℕ
  pub few : most ≤ 32
  pub within : excess old (length (mirror_ids victim.components)) (length victim.components) most ≡ None
  pub merged : Merge old victim new

-- a layout is split off with a mirror that is wholly fresh
pub record IsSplitOff (mirror : ℕ) (old part : Composite) : Type 0 where
  pub fresh : wholly_fresh mirror old.components ≡ true
  pub off : Off mirror (unleased old) part
