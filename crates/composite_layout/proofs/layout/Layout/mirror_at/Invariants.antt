-- So many mirrors begin before the one that is asked for.
use Rattle.std.proofs.Common.{◌≡◌, ◌<◌, drop, length, get_or}
use Rattle.composite_layout.specs.LookUps.{mirror_ids}
use Rattle.composite_layout.proofs.layout.Layout.mirror_at.Given as goal

abbrev pub invariant-loop-component : goal.invariant-loop-component
invariant-loop-component l =
    (l.before < length (mirror_ids (drop l.component-index l.component-items)))
    × (get_or (mirror_ids (drop l.component-index l.component-items)) l.before 0 ≡ get_or (mirror_ids l.component-items) l.index 0)
