use Rattle.std.proofs.Common.{◌≡◌, ℕ, List, length, ap, ◌∙◌, arith}
use Rattle.std.specs.List.{sum_by}
use Rattle.script_values.specs.Scripts.{all_commands, bytes_of}
use Rattle.script_values.specs.Work.{capped, work_of_parts}
use Rattle.script_values.specs.declared.command.Command.{Command}
use Rattle.script_values.proofs.WorkLaws.{too_much_work, within_limits, script_is_limited}
use Rattle.script_values.proofs.script.Script.of.Goals as goal

bytes_are : (n : ℕ) (slice clients : List (List Command)) → n ≡ capped (sum_by bytes_of (all_commands slice)) → slice ≡ clients → n ≡ capped (sum_by bytes_of (all_commands clients))
bytes_are n slice clients e same = e ∙ ap (λ (x : List (List Command)). capped (sum_by bytes_of (all_commands x))) same

work_are : (n most targets counted fails : ℕ) (slice clients : List (List Command)) → n ≡ capped (work_of_parts most targets counted (all_commands slice)) → counted ≡ fails → slice ≡ clients → n ≡ capped (work_of_parts most targets fails (all_commands clients))
work_are n most targets counted fails slice clients e count same =
    e ∙ ap (λ (x : ℕ). capped (work_of_parts most targets x (all_commands slice))) count ∙ ap (λ (x : List (List Command)). capped (work_of_parts most targets fails (all_commands x))) same

pub returns-then-work-gt-MOST_WORK : goal.returns-then-work-gt-MOST_WORK
returns-then-work-gt-MOST_WORK c = record {
  limited = too_much_work (record { most = c.args.most; targets = c.args.targets; fails = c.args.fails; clients = c.args.clients }) c.sum_of.result c.work_of_parts-work.result
      (bytes_are c.sum_of.result c.as_slice.result.now c.args.clients c.sum_of.ensures c.as_slice.ensures.same) (omega arith)
      (work_are c.work_of_parts-work.result c.args.most c.args.targets c.len.result (length c.args.fails) c.as_slice-2.result.now c.args.clients c.work_of_parts-work.ensures c.len.ensures.count c.as_slice-2.ensures.same) (omega arith);
}

pub invariant_of-result : goal.invariant_of-result
invariant_of-result c =
    within_limits (record { most = c.args.most; targets = c.args.targets; fails = c.args.fails; clients = c.args.clients }) c.sum_of.result c.work_of_parts-work.result c.requires
    (bytes_are c.sum_of.result c.as_slice.result.now c.args.clients c.sum_of.ensures c.as_slice.ensures.same) (omega arith)
    (work_are c.work_of_parts-work.result c.args.most c.args.targets c.len.result (length c.args.fails) c.as_slice-2.result.now c.args.clients c.work_of_parts-work.ensures c.len.ensures.count c.as_slice-2.ensures.same) (omega arith)

pub returns : goal.returns
returns c = record { limited = script_is_limited (record { most = c.args.most; targets = c.args.targets; fails = c.args.fails; clients = c.args.clients }) (invariant_of-result c) }
