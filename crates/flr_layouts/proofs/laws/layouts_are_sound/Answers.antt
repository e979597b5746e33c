-- Layouts are sound.
use Rattle.flr_layouts.proofs.Sound.{runs_sound}
use Rattle.flr_layouts.proofs.laws.layouts_are_sound.Goals as goal

pub returns : goal.returns
returns c = record { runs = runs_sound }
