-- What is claimed of fresh components.
use Rattle.flr_bytes.specs.Laws.{StepsBring, StepsClose, StepsCount, StepsGiveNew, StepsKeepBytes, StepsKeepHeld, StepsWrite}

-- fresh components hold the bytes of the plain files after each step, where the other things that steps do are known
abbrev pub HeldFollows : Type 0
HeldFollows = StepsWrite → StepsCount → StepsKeepBytes → StepsClose → StepsGiveNew → StepsBring → StepsKeepHeld
