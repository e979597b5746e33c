use Rattle.std.proofs.Common.{◌≡◌, ℕ, ◌≤◌, List, length, ap, sym, subst, ◌∙◌}
use Rattle.script_values.specs.Scripts.{ScriptView, all_commands, work_of}
use Rattle.script_values.specs.Work.{capped, work_of_parts}
use Rattle.script_values.specs.declared.command.Command.{Command}
use Rattle.script_values.proofs.WorkLaws.{counted_work}
use Rattle.script_values.proofs.bases.work.Goals as goal

counted : (v : ScriptView) (n most targets fails : ℕ) (clients : List (List Command)) → n ≡ capped (work_of_parts most targets fails (all_commands clients)) → most ≡ v.most → targets ≡ v.targets → fails ≡ length v.fails → clients ≡ v.clients
    → n ≡ capped (work_of v)
counted v n most targets fails clients e m t f c =
    e ∙ ap (λ (x : ℕ). capped (work_of_parts x targets fails (all_commands clients))) m ∙ ap (λ (x : ℕ). capped (work_of_parts v.most x fails (all_commands clients))) t
    ∙ ap (λ (x : ℕ). capped (work_of_parts v.most v.targets x (all_commands clients))) f ∙ ap (λ (x : List (List Command)). capped (work_of_parts v.most v.targets (length v.fails) (all_commands x))) c

pub returns-clause-work : goal.returns-clause-work
returns-clause-work c =
    counted_work c.args.script.now c.work_of_parts.result c.fails.ensures.limits
    (counted c.args.script.now c.work_of_parts.result c.most.result c.targets.result (length c.fails.result.now) c.all.result.now c.work_of_parts.ensures c.most.ensures.most c.targets.ensures.targets
    (ap (λ xs. length xs) c.fails.ensures.fails) c.all.ensures.all)

pub returns-clause-few : goal.returns-clause-few
returns-clause-few c =
    let same = counted_work c.args.script.now c.work_of_parts.result c.fails.ensures.limits
    (counted c.args.script.now c.work_of_parts.result c.most.result c.targets.result (length c.fails.result.now) c.all.result.now c.work_of_parts.ensures c.most.ensures.most c.targets.ensures.targets
    (ap (λ xs. length xs) c.fails.ensures.fails) c.all.ensures.all) in
    subst (λ (n : ℕ). n ≤ 8388608) (sym same) c.fails.ensures.limits.little_work
