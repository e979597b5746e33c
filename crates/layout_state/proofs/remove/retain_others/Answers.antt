-- The components of the other mirrors are those that the test keeps.
use Rattle.std.proofs.Common.{not, nat_eq, rules}
use Rattle.std.proofs.lemmas.Fn.{filter_same}
use Rattle.composite_layout.specs.declared.component.Component.{Component}
use Rattle.layout_state.proofs.remove.retain_others.Goals as goal

pub returns : goal.returns
returns c = filter_same _ (λ (x : Component). not (nat_eq x.mirror c.args.mirror)) _ (λ x b f' k. (search rules, search rules)) _ _ c.retain.ensures.filtered
