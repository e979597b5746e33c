-- What a truncate says of itself, and what it wants of the servers.
use Rattle.std.specs.Prelude.{◌≡◌, ℕ, ◌^◌, ◌<◌, ◌≤◌, length, is_some, true}
use Rattle.composite_layout.specs.Layouts.{IsValid}
use Rattle.layout_lease.specs.Clients.{IsClient}
use Rattle.mirror_select.specs.Tails.{tails_of}
use Rattle.meta_server.specs.Conditions.{MayShare, HasGenerationRoom, HasObjectRoom}
use Rattle.flr_base.specs.Limits.{most_bytes}
use Rattle.meta_server.specs.Opening.{cut_opens}
use Rattle.call_steps.specs.Servers.{Servers, CanCall, AreThere, HoldsNone}
use Rattle.client_write.specs.declared.phase.CutAt.{CutAt}
use Rattle.client_write.specs.declared.phase.Sent.{Sent}
use Rattle.client_write.specs.declared.phase.Sent.TheVariants as sent
use Rattle.client_write.specs.declared.phase.CutAt.TheVariants as at
use Rattle.client_write.specs.Views.{CuttingView}
use Rattle.client_write.specs.Calls.{TruncateView}
use Rattle.client_write.specs.Refusals.{IsPlainRefusal}
use Rattle.client_write.specs.Truncates.{first_blocker, locks_for}

-- the tails are those of the layout from the size on, which a file may have
pub record HasTails (size : ℕ) (x : CuttingView) : Type 0 where
  pub valid : IsValid x.opened.layout
  pub are : x.tails ≡ tails_of x.opened.layout size
  pub below : size ≤ most_bytes

-- where not all tails are accepted, the next one is one of them; it isn't the first where it is too old
abbrev pub IsSoundCut : CuttingView → Sent → Type 0
IsSoundCut x sent.All = Unit {0}
IsSoundCut x (sent.Failed accepted call) = accepted < length x.tails
IsSoundCut x (sent.Old accepted step) = (0 < accepted) × (accepted < length x.tails)

-- what a phase says of itself
abbrev pub IsSoundCutAt : CutAt → ℕ → Type 0
IsSoundCutAt at.Open size = Unit {0}
IsSoundCutAt (at.Lock x) size = HasTails size x
IsSoundCutAt (at.Punch x next) size = HasTails size x × (next < length x.tails)
IsSoundCutAt (at.Commit x came) size = HasTails size x × IsSoundCut x came
IsSoundCutAt at.UnlockAgain size = Unit {0}
IsSoundCutAt at.Unlock size = Unit {0}

-- the truncate is one of a client, to a size that a script may name, and its phase is sound
pub record IsSoundTruncate (t : TruncateView) : Type 0 where
  pub client : IsClient t.client
  pub below : t.size ≤ 2 ^ 40
  pub phase : IsSoundCutAt t.at t.size

-- what a phase wants of the servers: who opens a file doesn't share its layout lock, and generations and object numbers leave room for an intent; who asks for the locks of all tails holds none; each object that is cut is on a target that is there
abbrev pub CutFitsAt : CutAt → TruncateView → Servers → Type 0
CutFitsAt at.Open t s = MayShare t.client t.name s.meta × HasGenerationRoom s.meta × HasObjectRoom s.meta
CutFitsAt (at.Lock x) t s = HoldsNone t.client s.locks
CutFitsAt (at.Punch x next) t s = AreThere s.targets x.opened.layout.components
CutFitsAt (at.Commit x came) t s = Unit {0}
CutFitsAt at.UnlockAgain t s = Unit {0}
CutFitsAt at.Unlock t s = Unit {0}

-- what a step of a truncate wants of the servers
pub record TruncateFits (t : TruncateView) (s : Servers) : Type 0 where
  pub calls : CanCall s.targets
  pub phase : CutFitsAt t.at t s

-- the steps that take no memory: an open that is refused with an answer that names no file, locks that a holder is in the way of, commit, and those that only give locks back
abbrev pub CutTakesNoMemory : CutAt → TruncateView → ℕ → Servers → Type 0
CutTakesNoMemory at.Open t place s = IsPlainRefusal (cut_opens t.client t.name t.size place s.meta)
CutTakesNoMemory (at.Lock x) t place s = is_some (first_blocker (locks_for t x) s.locks) ≡ true
CutTakesNoMemory (at.Punch x next) t place s = ⊥
CutTakesNoMemory (at.Commit x came) t place s = Unit {0}
CutTakesNoMemory at.UnlockAgain t place s = Unit {0}
CutTakesNoMemory at.Unlock t place s = Unit {0}
