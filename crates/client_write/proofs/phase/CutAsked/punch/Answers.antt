use Rattle.std.proofs.Common.{◌<◌, List, length, sym, subst, ◌∙◌}
use Rattle.mirror_select.specs.declared.types.Tail.{Tail}
use Rattle.client_write.specs.Truncates.{tail_at}
use Rattle.client_write.proofs.Cuttable.{tail_there}
use Rattle.client_write.proofs.phase.CutAsked.punch.Goals as goal

pub punch_tail-requires-clause-there : goal.punch_tail-requires-clause-there
punch_tail-requires-clause-there c =
    subst (λ (ts : List Tail). (tail_at ts c.args.next).object.target < length c.args.targets.now) (sym (c.as_slice.ensures.same ∙ c.in-Ok.ensures.tails))
    (tail_there c.args.self.size c.args.cutting c.args.next c.args.targets.now c.requires.sound.phase.0 c.requires.sound.phase.1 c.requires.there)
