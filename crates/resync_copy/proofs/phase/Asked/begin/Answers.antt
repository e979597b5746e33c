use Rattle.resync_copy.specs.Views.{begun_copy}
use Rattle.resync_copy.proofs.BeginLaws.{begun_sound, fences_sound}
use Rattle.resync_copy.proofs.phase.Asked.begin.Goals as goal

pub invariant_of-result : goal.invariant_of-result
invariant_of-result c =
    let gives = rw c.in-Ok-Copy.field-0-is at c.in-Ok-Copy.ensures.begun in
    let sound = begun_sound c.args.self.client c.args.self.name c.args.self.what c.args.meta.now c.begin_copy.new.self c.in-Ok-Copy.side c.in-Ok-Copy.ids gives c.components-components.ensures.valid in
    (record { client = c.requires.sound.client; asked = c.requires.sound.asked; stage = fences_sound (begun_copy c.in-Ok-Copy.side c.in-Ok-Copy.ids) 0 sound.0 }, sound)
