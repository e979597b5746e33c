-- How the entries of a state stand.
use Rattle.std.specs.Prelude.{◌≡◌, ℕ, ◌+◌, ◌<◌, ◌≤◌, Bool, true, false, List, [], ◌∷◌, ◌++◌, length, Some, slice_get, slice_set}
use Rattle.std.specs.List.{AllByRecursion}
use Rattle.flr_base.specs.declared.reply.Entry.{Entry}
use Rattle.flr_steps.specs.States.{State, place_in}

-- there is a client with this number: they count from 1
abbrev pub IsThere : State → ℕ → Type 0
IsThere s c = (0 < c) × (c ≤ length s.clients)

-- ---- entries of one client

-- the call of the entry has ended
abbrev pub IsOver : Entry → Type 0
IsOver e = 0 < e.last

-- one entry for each command that is done, and the call of each has ended
pub record AreOver (own : List Entry) (done : ℕ) : Type 0 where
  pub count : length own ≡ done
  pub over : AllByRecursion IsOver own

-- behind the entries of the commands that are done there is one more, with the next number, whose call hasn't ended
pub record IsLastOpen (own : List Entry) (done : ℕ) : Type 0 where
  pub front : List Entry
  pub newest : Entry
  pub are : own ≡ front ++ newest ∷ []
  pub over : AreOver front done
  pub number : newest.number ≡ done + 1
  pub not_over : newest.last ≡ 0

-- the entries of a client that has done so many commands, by whether the answer of its call is fixed
abbrev pub StandBy : Bool → List Entry → ℕ → Type 0
StandBy false own done = AreOver own done
StandBy true own done = IsLastOpen own done

-- ---- places of the list

-- at this place of the list there is an entry of this client whose call hasn't ended
pub record IsOpenAt (entries : List Entry) (c place : ℕ) : Type 0 where
  pub entry : Entry
  pub here : slice_get entries place ≡ Some entry
  pub own : entry.client ≡ c
  pub not_over : entry.last ≡ 0

-- the list with this entry at that place, ended by the step that the state makes next
abbrev pub ended_at : State → ℕ → Entry → List Entry
ended_at s place e = slice_set s.entries place (record e { last = place_in s })

-- a step of this client, which has done so many commands, ends the call of one entry, and changes that alone
pub record EndsOne (s : State) (c done : ℕ) (t : State) : Type 0 where
  pub place : ℕ
  pub at : IsOpenAt s.entries c place
  pub number : at.entry.number ≡ done + 1
  pub left : t.entries ≡ ended_at s place at.entry
