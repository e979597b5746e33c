-- What a call makes of a layout is one of the changes.
use Rattle.std.proofs.Common.{◌≡◌, ℕ, ◌+◌, ◌<◌, ◌≤◌, Bool, true, Some, None, List, length, map, refl}
use Rattle.flr_base.specs.declared.reply.Range.{Range}
use Rattle.composite_layout.specs.declared.spec.MirrorSpec.{MirrorSpec}
use Rattle.composite_layout.specs.FlagChanges.{FlagSets}
use Rattle.composite_layout.specs.Layouts.{Composite, IsValid}
use Rattle.composite_layout.specs.LookUps.{mirror_ids, wholly_fresh}
use Rattle.composite_layout.specs.Making.{part_count}
use Rattle.composite_layout.specs.Specs.{IsSpec}
use Rattle.layout_state.specs.Changes.{Change, Intent, Begin, Done, Add, Remove, Flags, IsSplitOff, TakesIn}
use Rattle.layout_state.specs.Choosing.{primary_of}
use Rattle.layout_state.specs.Making.{AreNext, new_targets}
use Rattle.layout_state.specs.Breaking.{unleased}
use Rattle.layout_state.specs.Marking.{changed_if_named, flags_refusal, is_named}
use Rattle.layout_state.specs.Mirroring.{excess, keeping}
use Rattle.layout_state.specs.Choosing.{is_over}
use Rattle.layout_state.proofs.ChangeLaws.{change_keeps, merge_keeps, part_keeps}
use Rattle.layout_state.proofs.MarkLaws.{unleased_components}
use Rattle.layout_state.proofs.ObjectLaws.{nexts_AreNext}
use Rattle.composite_layout.specs.declared.component.Component.{Component}
use Rattle.meta_server.specs.Layouts.{begun, extended, finished, flagged, intended, lessened, merged, nexts_over, split_off}

-- the next numbers stay those of a maker
pub over_AreNext : (wanted : Component → Bool) (file : ℕ) (nexts : List ℕ) (l : Composite) → AreNext nexts → AreNext (nexts_over wanted file nexts l)
over_AreNext wanted file nexts l h = nexts_AreNext nexts (new_targets wanted (length nexts) file l.components) h

pub intended_changes : (range : Range) (mirror file : ℕ) (nexts : List ℕ) (l : Composite) → AreNext nexts → primary_of range l.components ≡ Some mirror → Change l (intended range mirror file nexts l)
intended_changes range mirror file nexts l next primary = Intent range mirror file nexts (nexts_over (is_over range mirror) file nexts l) next primary (record { layout = refl; past = refl })

pub begun_changes : (ids : List ℕ) (file : ℕ) (nexts : List ℕ) (l : Composite) → AreNext nexts → Change l (begun ids file nexts l)
begun_changes ids file nexts l next = Begin ids file nexts (nexts_over (is_named ids) file nexts l) next (record { layout = refl; past = refl })

pub finished_changes : (ids : List ℕ) (l : Composite) → Change l (finished ids l)
finished_changes ids l = Done ids refl

pub extended_changes : (mirrors : List MirrorSpec) (targets most : ℕ) (l : Composite) → IsSpec mirrors → 0 < targets → targets ≤ 64 → most ≤ 32 → excess l (length mirrors) (part_count mirrors) most ≡ None → Change l (extended mirrors targets l)
extended_changes mirrors targets most l spec some few le within =
    Add mirrors targets most spec some few le within (record { generation = refl; state = refl; next_mirror = refl; next_counter = refl; components = refl })

pub lessened_changes : (mirror : ℕ) (l : Composite) → keeping mirror l.components ≡ None → Change l (lessened mirror l)
lessened_changes mirror l kept = Remove mirror kept (record { generation = refl; state = refl; next_mirror = refl; next_counter = refl; components = refl })

pub flagged_changes : (id : ℕ) (change : FlagSets) (l : Composite) → flags_refusal id change l.components ≡ None → Change l (flagged id change l)
flagged_changes id change l kept = Flags id change kept (λ j. record (unleased l) { generation = (unleased l).generation + 1; components = map (changed_if_named id change) (unleased_components l j) })

-- what is split off, and what takes in another
pub split_is : (mirror : ℕ) (l : Composite) → wholly_fresh mirror l.components ≡ true → IsSplitOff mirror l (split_off mirror l)
split_is mirror l fresh = record { fresh = fresh; off = record { generation = refl; state = refl; next_mirror = refl; next_counter = refl; components = refl } }

pub merged_takes : (most : ℕ) (l victim : Composite) → most ≤ 32 → excess l (length (mirror_ids victim.components)) (length victim.components) most ≡ None → TakesIn l victim (merged victim l)
merged_takes most l victim few within = record { most = most; few = few; within = within; merged = record { generation = refl; state = refl; next_mirror = refl; next_counter = refl; components = refl } }

-- ---- so each is valid

pub intended_valid : (range : Range) (mirror file : ℕ) (nexts : List ℕ) (l : Composite) → AreNext nexts → primary_of range l.components ≡ Some mirror → IsValid l → IsValid (intended range mirror file nexts l)
intended_valid range mirror file nexts l next primary v = change_keeps l (intended range mirror file nexts l) v (intended_changes range mirror file nexts l next primary)

pub begun_valid : (ids : List ℕ) (file : ℕ) (nexts : List ℕ) (l : Composite) → AreNext nexts → IsValid l → IsValid (begun ids file nexts l)
begun_valid ids file nexts l next v = change_keeps l (begun ids file nexts l) v (begun_changes ids file nexts l next)

pub finished_valid : (ids : List ℕ) (l : Composite) → IsValid l → IsValid (finished ids l)
finished_valid ids l v = change_keeps l (finished ids l) v (finished_changes ids l)

pub extended_valid : (mirrors : List MirrorSpec) (targets most : ℕ) (l : Composite) → IsSpec mirrors → 0 < targets → targets ≤ 64 → most ≤ 32 → excess l (length mirrors) (part_count mirrors) most ≡ None → IsValid l → IsValid (extended mirrors targets l)
extended_valid mirrors targets most l spec some few le within v = change_keeps l (extended mirrors targets l) v (extended_changes mirrors targets most l spec some few le within)

pub lessened_valid : (mirror : ℕ) (l : Composite) → keeping mirror l.components ≡ None → IsValid l → IsValid (lessened mirror l)
lessened_valid mirror l kept v = change_keeps l (lessened mirror l) v (lessened_changes mirror l kept)

pub flagged_valid : (id : ℕ) (change : FlagSets) (l : Composite) → flags_refusal id change l.components ≡ None → IsValid l → IsValid (flagged id change l)
flagged_valid id change l kept v = change_keeps l (flagged id change l) v (flagged_changes id change l kept)

pub split_valid : (mirror : ℕ) (l : Composite) → wholly_fresh mirror l.components ≡ true → IsValid l → IsValid (split_off mirror l)
split_valid mirror l fresh v = part_keeps mirror l (split_off mirror l) v (split_is mirror l fresh)

pub merged_valid : (most : ℕ) (l victim : Composite) → most ≤ 32 → excess l (length (mirror_ids victim.components)) (length victim.components) most ≡ None → IsValid l → IsValid victim → IsValid (merged victim l)
merged_valid most l victim few within v w = merge_keeps l victim (merged victim l) v w (merged_takes most l victim few within)
