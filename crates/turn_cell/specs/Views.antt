-- The view of a seat in the table, and how each step of the seat changes it.
use Rattle.std.specs.Prelude.{ℕ, ◌+◌, ◌%◌, true, false, if◌then◌else◌, List, [], ◌∷◌, ◌++◌, length, Some, None}
use Rattle.turn_cell.specs.declared.view.View.{View}
use Rattle.turn_cell.specs.Schedules.{longer, shorter}
use Rattle.turn_cell.specs.Places.{merged}

module _ {O : Type 0} where
  -- the first seat of a cell
  abbrev pub first_view : O → List ℕ → View O
  first_view origin schedule = record { origin = Some origin; seen = schedule; told = []; mine = []; busy = 0; read = None; has_turn = false }

  -- the second seat of a split
  abbrev pub split_view : View O → View O
  split_view v = record { origin = v.origin; seen = v.seen; told = []; mine = []; busy = 0; read = None; has_turn = false }

  -- a seat that was joined to another: it is no seat any more
  abbrev pub spent_view : View O
  spent_view = record { origin = None; seen = []; told = []; mine = []; busy = 0; read = None; has_turn = false }

  -- the seat that two were joined to
  abbrev pub joined_view : View O → View O → View O
  joined_view v w = record { origin = v.origin; seen = longer v.seen w.seen; told = shorter v.seen w.seen; mine = merged v.mine w.mine; busy = v.busy + w.busy; read = None; has_turn = v.has_turn }

  -- after this word was loaded: an odd one is the turn of another seat, unless this seat has it
  abbrev pub view_after_load : ℕ → View O → View O
  view_after_load word v = record v { busy = if v.has_turn then v.busy else v.busy + word % 2; read = Some word }

  -- after a claim got the turn, with a value of this schedule
  abbrev pub view_after_claim : List ℕ → View O → View O
  view_after_claim schedule v = record v { seen = schedule; read = None; has_turn = true }

  -- after a claim found another word than was read
  abbrev pub view_after_lost_claim : View O → View O
  view_after_lost_claim v = record v { busy = v.busy + 1; read = None }

  -- after the turn was given up with one step made, which led to this schedule
  abbrev pub view_after_step : List ℕ → View O → View O
  view_after_step schedule v = record v { seen = schedule; mine = v.mine ++ length schedule ∷ []; has_turn = false }

  -- after the turn was given up without a step
  abbrev pub view_after_release : View O → View O
  view_after_release v = record v { has_turn = false }
