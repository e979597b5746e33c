use Rattle.std.proofs.Common.{arith}
use Rattle.std.proofs.lemmas.Grind.{common_steps}
use Rattle.std.proofs.lemmas.List.FromFn.{map-range_with_len_more}
use Rattle.object_target.specs.TargetState.{new_target}
use Rattle.object_target.proofs.targets.Targets.new.Goals as goal

pub loop-id-preserved : goal.loop-id-preserved
loop-id-preserved c =
    let more = map-range_with_len_more (λ id. new_target id c.args.fails.now) 0 c.loop-id.id c.loop-id.id (omega arith) in
    grind (arith, common_steps, more)
