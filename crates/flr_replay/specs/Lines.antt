-- The lines that tell why a schedule is refused.
use Rattle.std.specs.Prelude.{ℕ, List, [], ◌∷◌, ◌++◌, codes}
use Rattle.std.specs.Fmt.{decimal}
use Rattle.flr_steps.specs.Schedules.{IsBlocked, IsFinished, IsUnknown, Why}

abbrev pub why_text : Why → List ℕ
why_text IsUnknown = codes "unknown"
why_text IsFinished = codes "finished"
why_text (IsBlocked holder) = codes "blocked by " ++ decimal holder

-- the line of the place at which a schedule stops
abbrev pub stopped_line : ℕ → ℕ → Why → List ℕ
stopped_line place client why = codes "flr: schedule: place " ++ decimal place ++ codes ": client " ++ decimal client ++ codes " " ++ why_text why ++ 10 ∷ []

-- the line of a client that has a command left at the end of the schedule
abbrev pub cut_short_line : ℕ → List ℕ
cut_short_line client = codes "flr: schedule: client " ++ decimal client ++ codes " unfinished" ++ 10 ∷ []
