use Rattle.std.proofs.Common.{subst}
use Rattle.flr_base.specs.declared.reply.Range.{Range}
use Rattle.client_write.specs.Fitting.{HasPieces}
use Rattle.client_write.specs.Writes.{range_of, write_by}
use Rattle.client_write.specs.declared.phase.WriteAt.TheVariants as at
use Rattle.client_write.proofs.Writable.{some}
use Rattle.client_write.proofs.phase.Asked.open.Goals as goal

pub call-requires : goal.call-requires
call-requires c =
    let has = subst (λ (range : Range). HasPieces range c.new-writing.result) c.range-range.ensures.same c.new-writing.ensures.has in
    record { sound = record { client = c.requires.sound.client; asked = c.requires.sound.asked; phase = (has, some (range_of (write_by c.args.self at.Open)) c.new-writing.result c.requires.sound.asked has) } }
