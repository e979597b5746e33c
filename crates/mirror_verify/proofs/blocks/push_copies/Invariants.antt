use Rattle.std.proofs.Common.{◌≡◌, ◌++◌, drop}
use Rattle.mirror_verify.specs.Blocks.{copies_from, holders}
use Rattle.mirror_verify.proofs.blocks.push_copies.Given as goal

abbrev pub invariant-loop-component : goal.invariant-loop-component
invariant-loop-component l =
    l.initial.copies.items ++ copies_from l.initial.against l.range (holders l.range l.components) ≡ l.copies.items ++ copies_from l.against l.range (holders l.range (drop l.component-index l.components))
