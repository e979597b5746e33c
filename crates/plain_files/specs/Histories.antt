-- Linear histories: legal on plain files, each call at a moment within its interval, each client's calls in order.
use Rattle.std.specs.Prelude.{◌≡◌, ◌==◌, ℕ, ◌+◌, ◌-◌, ◌<◌, ◌≤◌, ◌⊎◌, List, [], ◌∷◌, length, map, Some, slice_get}
use Rattle.std.specs.List.{filter, AllByRecursion}
use Rattle.flr_base.specs.declared.reply.Entry.{Entry}
use Rattle.script_values.specs.declared.command.Command.{Command}
use Rattle.script_values.specs.Scripts.{ScriptView, command_after, commands_of}
use Rattle.plain_files.specs.Files.{Plain, Sent}
use Rattle.plain_files.specs.Effects.{Allows, effect}

-- an answered call: its entry, the command that it answers, and what was sent for it
pub record Answered : Type 0 where
  pub entry : Entry
  pub command : Command
  pub sent : Sent

-- the store after an answered call
abbrev pub store_by : Answered → List Plain → List Plain
store_by a store = effect a.command a.sent a.entry.reply store

-- the store after answered calls
abbrev pub store_after : List Plain → List Answered → List Plain
store_after store [] = store
store_after store (a ∷ rest) = store_after (store_by a store) rest

-- one call after another is allowed by the store that those before it left
abbrev pub IsLegal : List Plain → List Answered → Type 0
IsLegal store [] = Unit {0}
IsLegal store (a ∷ rest) = Allows a.command store a.entry.reply × IsLegal (store_by a store) rest

-- ---- when

-- the place of the schedule, counted from 1, is a step of the client
abbrev pub IsStepOf : List ℕ → ℕ → ℕ → Type 0
IsStepOf schedule client place = (0 < place) × (slice_get schedule (place - 1) ≡ Some client)

-- first, point and last are steps of the entry's client in this order; last is 0 until the call is answered
pub record IsWithinInterval (schedule : List ℕ) (e : Entry) : Type 0 where
  pub begins : IsStepOf schedule e.client e.first
  pub counts : IsStepOf schedule e.client e.at
  pub ends : (e.last ≡ 0) ⊎ ((e.at ≤ e.last) × IsStepOf schedule e.client e.last)
  pub order : e.first ≤ e.at

-- the points ascend, each after this place
abbrev pub ArePointsAfter : ℕ → List Entry → Type 0
ArePointsAfter place [] = Unit {0}
ArePointsAfter place (e ∷ es) = (place < e.at) × ArePointsAfter e.at es

-- a call behind which another of its client stands has ended
abbrev pub HasEnded : Entry → List Entry → Type 0
HasEnded e [] = Unit {0}
HasEnded e (next ∷ es) = 0 < e.last

-- a client's entries have the numbers from this one on, and each begins after the one before has ended, the first after this place
abbrev pub FollowInOrder : ℕ → ℕ → List Entry → Type 0
FollowInOrder number ended [] = Unit {0}
FollowInOrder number ended (e ∷ es) = (e.number ≡ number) × (ended < e.first) × HasEnded e es × FollowInOrder (number + 1) e.last es

-- the entries of a client
abbrev pub entries_of : ℕ → List Entry → List Entry
entries_of client entries = filter (λ (e : Entry). e.client == client) entries

-- each call answers the command of its client that has its number
abbrev pub AnswersIts : ScriptView → Answered → Type 0
AnswersIts script a = command_after script a.entry.client (a.entry.number - 1) ≡ Some a.command

-- the calls are legal from the empty store, each answers its command, within its interval and at a point of its own, and each client's stand in its order
pub record IsLinear (script : ScriptView) (schedule : List ℕ) (calls : List Answered) : Type 0 where
  pub legal : IsLegal [] calls
  pub answers : AllByRecursion (AnswersIts script) calls
  pub within : AllByRecursion (λ (a : Answered). IsWithinInterval schedule a.entry) calls
  pub points : ArePointsAfter 0 (map (λ (a : Answered). a.entry) calls)
  pub in_order : (client : ℕ) → FollowInOrder 1 0 (entries_of client (map (λ (a : Answered). a.entry) calls))

-- every command of the script has its entry, and each entry has ended
pub record IsWhole (script : ScriptView) (entries : List Entry) : Type 0 where
  pub every : (client : ℕ) → 0 < client → length (entries_of client entries) ≡ length (commands_of script client)
  pub ended : AllByRecursion (λ (e : Entry). 0 < e.last) entries

-- a call that has ended before another began stands before it
abbrev pub EndedComesBefore : Type 0
EndedComesBefore =
    (script : ScriptView) (schedule : List ℕ) (calls : List Answered) (i j : ℕ) (a b : Answered) → IsLinear script schedule calls →
    slice_get calls i ≡ Some a → slice_get calls j ≡ Some b → 0 < a.entry.last → a.entry.last < b.entry.first → i < j
