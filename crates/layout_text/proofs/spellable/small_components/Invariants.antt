use Rattle.std.proofs.Common.{◌<◌, ◌^◌, take}
use Rattle.std.specs.List.{AllByRecursion}
use Rattle.layout_text.proofs.spellable.small_components.Given as goal

abbrev pub invariant-loop-component : goal.invariant-loop-component
invariant-loop-component l = AllByRecursion (λ c. AllByRecursion (λ o. o.number < 2 ^ 32) c.objects) (take l.component-index l.components)
