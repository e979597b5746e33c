-- Steps explain layouts.
use Rattle.flr_layouts.proofs.Steps.{steps_explained}
use Rattle.flr_layouts.proofs.laws.steps_explain_layouts.Goals as goal

pub returns : goal.returns
returns c = record { steps = steps_explained }
