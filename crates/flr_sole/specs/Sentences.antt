-- Which parts of writing calls lie in the only fresh components there.
use Rattle.std.specs.Prelude.{◌≡◌, ℕ, ◌<◌, ◌≤◌, true, false, List, [], length, Contains, Some, ◌⊎◌}
use Rattle.std.specs.List.{AllByRecursion}
use Rattle.composite_layout.specs.declared.component.Component.{Component}
use Rattle.meta_server.specs.Files.{File, file_of}
use Rattle.client_write.specs.declared.phase.CutAt.{CutAt}
use Rattle.client_write.specs.declared.phase.CutAt.TheVariants as cut
use Rattle.client_write.specs.declared.phase.WriteAt.{WriteAt}
use Rattle.client_write.specs.declared.phase.WriteAt.TheVariants as write
use Rattle.flr_steps.specs.declared.client.Running.{Running}
use Rattle.flr_steps.specs.declared.client.Running.TheVariants as running
use Rattle.flr_steps.specs.States.{State}
use Rattle.flr_steps.specs.Traces.{Doing, Made, Trace, doing_of, sent_calls}
use Rattle.flr_claims.specs.Honesty.{IsAttempting}
use Rattle.flr_claims.specs.Sending.{Attempt, HasLanded, IsAdmitted, Part, part_component, part_object, reach_of, reaches}

-- a part lies in the only fresh components of these: its component is there, fresh, with its objects, and has the bytes that the part reaches, of which there is one at least; and every component of another mirror that the part reaches is stale
pub record IsAlone (cs : List Component) (p : Part) : Type 0 where
  pub component : Component
  pub listed : Contains cs component
  pub same : component.id ≡ part_component p
  pub fresh : component.flags.stale ≡ false
  pub made : component.flags.init ≡ true
  pub object : Contains component.objects (part_object p)
  pub start : component.extent.start ≤ (reach_of p).start
  pub some : (reach_of p).start < (reach_of p).end
  pub end : (reach_of p).end ≤ component.extent.end
  pub others : (e : Component) → Contains cs e → (e.mirror ≡ component.mirror → ⊥) → reaches p e ≡ true → e.flags.stale ≡ true

-- the file with this number is there, and the part lies in its only fresh components
pub record StandsAlone (files : List File) (number : ℕ) (p : Part) : Type 0 where
  pub file : File
  pub there : file_of number files ≡ Some file
  pub alone : IsAlone file.layout.components p

-- the part at this place of a client's attempt may still land, or has landed
abbrev pub Counts : State → Trace → ℕ → Attempt → ℕ → Part → Type 0
Counts s t c a place p = IsAdmitted s.shared a (doing_of t c) place p ⊎ HasLanded s.script.fails a (doing_of t c) place p

-- each such part does, in the file that its call has open
abbrev pub StandAlone : State → Trace → Type 0
StandAlone s t = (c : ℕ) (a : Attempt) (place : ℕ) (p : Part) → IsAttempting s c a → Counts s t c a place p → StandsAlone s.shared.meta.files a.opened.file p

-- ---- what was sent

-- while a write asks for locks it has sent nothing since its open, and while it sends, exactly the pieces before the next one
abbrev pub HasSentPieces : WriteAt → Doing → Type 0
HasSentPieces (write.Lock x next) d = sent_calls d ≡ []
HasSentPieces (write.Send x next) d = length (sent_calls d) ≡ next
HasSentPieces other d = Unit {0}

-- so it is with a truncate and its tails
abbrev pub HasSentTails : CutAt → Doing → Type 0
HasSentTails (cut.Lock x) d = sent_calls d ≡ []
HasSentTails (cut.Punch x next) d = length (sent_calls d) ≡ next
HasSentTails other d = Unit {0}

abbrev pub HasSent : Running → Doing → Type 0
HasSent (running.Write call) d = HasSentPieces call.at d
HasSent (running.Truncate call) d = HasSentTails call.at d
HasSent other d = Unit {0}

-- a call's calls of targets were made by now, and it last opened its file by now
pub record IsPast (now : ℕ) (d : Doing) : Type 0 where
  pub opened : d.opened ≤ now
  pub made : AllByRecursion (λ (m : Made). m.place ≤ now) d.made
