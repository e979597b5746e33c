-- The component that answers the byte answers all up to its end.
use Rattle.std.proofs.Common.{◌≡◌, ℕ, List, Some, false, [], sym, ap, subst, ◌∙◌}
use Rattle.std.specs.List.{list_any}
use Rattle.mirror_select.specs.Candidates.{chosen, is_candidate}
use Rattle.meta_server.proofs.Coming.{answers_on}
use Rattle.meta_server.proofs.offline.answered_to.Goals as goal

pub returns-in-Component-clause-farther : goal.returns-in-Component-clause-farther
returns-in-Component-clause-farther c =
    let is : chosen c.args.layout.now.components [] c.args.byte ≡ Some c.component.result.now =
    ap (λ ids. chosen c.args.layout.now.components ids c.args.byte) (sym c.requires.empty) ∙ sym c.in-Component.ensures.cases.1 ∙ c.component.ensures.there in
    answers_on c.args.layout.now.components c.args.byte c.component.result.now is

pub returns-in-AllOffline-clause-nobody : goal.returns-in-AllOffline-clause-nobody
returns-in-AllOffline-clause-nobody c = λ e. subst (λ (ids : List ℕ). list_any (is_candidate ids c.args.byte) c.args.layout.now.components ≡ false) c.requires.empty c.in-AllOffline.ensures.cases.0

pub returns-in-AllFailed-clause-nobody : goal.returns-in-AllFailed-clause-nobody
returns-in-AllFailed-clause-nobody c = λ e. subst (λ (ids : List ℕ). list_any (is_candidate ids c.args.byte) c.args.layout.now.components ≡ false) c.requires.empty c.in-AllFailed.ensures.cases.0
