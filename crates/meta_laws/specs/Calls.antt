-- The calls that may change the metadata server, and runs of them.
use Rattle.std.specs.Prelude.{◌≡◌, ℕ, ◌<◌, ◌≤◌, Bool, true, false, Option, List, [], ◌∷◌}
use Rattle.flr_base.specs.declared.reply.Range.{Range}
use Rattle.composite_layout.specs.declared.spec.MirrorSpec.{MirrorSpec}
use Rattle.composite_layout.specs.FlagChanges.{FlagSets}
use Rattle.composite_layout.specs.Specs.{IsSpec}
use Rattle.layout_lease.specs.declared.shared.Share.{Share}
use Rattle.layout_lease.specs.Clients.{IsClient}
use Rattle.layout_lease.specs.Leases.{KeyView, keys_of}
use Rattle.meta_server.specs.declared.answers.CopyWhat.{CopyWhat}
use Rattle.meta_server.specs.declared.answers.CopyWhat.TheVariants.{Resync, Extend, Victim}
use Rattle.meta_server.specs.Beginning.{copy_begins}
use Rattle.meta_server.specs.Closing.{commits, cuts, frees, holds}
use Rattle.meta_server.specs.Conditions.{HasGenerationRoom, HasObjectRoom, IsCopyOf, IsRoom, MayMerge, MayShare}
use Rattle.meta_server.specs.Ending.{copy_ends, merge_ends}
use Rattle.meta_server.specs.Files.{MetaView, with_eviction, with_given}
use Rattle.meta_server.specs.Naming.{creates, removes, sets}
use Rattle.flr_base.specs.Limits.{most_bytes}
use Rattle.meta_server.specs.Opening.{cut_opens, read_opens, write_opens}
use Rattle.meta_server.specs.Outcomes.{Outcome, Gives, Refuses, Waits, Ending, Ends, Breaks, Holds}

-- a call that may change the server, with what it is given
pub data Call : Type 0 where
  OpenRead : (client : ℕ) (name : List ℕ) → Call
  OpenWrite : (client : ℕ) (name : List ℕ) (range : Range) (step : ℕ) → Call
  OpenCut : (client : ℕ) (name : List ℕ) (size step : ℕ) → Call
  Free : (file : ℕ) (cookie : Share) → Call
  Confirm : (file : ℕ) (cookie : Share) → Call
  Commit : (file : ℕ) (cookie : Share) (end : ℕ) → Call
  Cut : (file : ℕ) (cookie : Share) (size : ℕ) → Call
  BeginCopy : (client : ℕ) (name : List ℕ) (what : CopyWhat) → Call
  CopyDone : (key : KeyView) (cleared : List ℕ) → Call
  MergeDone : (ours theirs : KeyView) → Call
  GiveUp : (key : KeyView) → Call
  Create : (name : List ℕ) (mirrors : List MirrorSpec) → Call
  Remove : (client : ℕ) (name : List ℕ) (mirror : ℕ) (to : Option (List ℕ)) (step : ℕ) → Call
  Set : (client : ℕ) (name : List ℕ) (id : ℕ) (change : FlagSets) (step : ℕ) → Call
  Evict : (client : ℕ) (step : ℕ) → Call

-- ---- what a caller sees to

-- the mirrors to be added are a good spec
abbrev pub IsCopyable : CopyWhat → Type 0
IsCopyable (Resync only) = Unit {0}
IsCopyable (Extend mirrors) = IsSpec mirrors
IsCopyable (Victim victim) = Unit {0}

-- an open may be made: the client is one, doesn't share the layout lock of the file of this name, and there is room for an intent
pub record MayOpen (client : ℕ) (name : List ℕ) (m : MetaView) : Type 0 where
  pub known : IsClient client
  pub share : MayShare client name m
  pub generations : HasGenerationRoom m
  pub objects : HasObjectRoom m

-- a copy may begin: the client is one and has no key, and there is room for what it makes
pub record MayBegin (client : ℕ) (name : List ℕ) (what : CopyWhat) (m : MetaView) : Type 0 where
  pub known : IsClient client
  pub no_key : keys_of client m.leases.keys ≡ []
  pub keys : IsRoom m.leases.next
  pub generations : HasGenerationRoom m
  pub objects : HasObjectRoom m
  pub copy : IsCopyOf name what
  pub mirrors : IsCopyable what

-- what holds of a call and the server to which it is made
abbrev pub MayCall : Call → MetaView → Type 0
MayCall (OpenRead client name) m = IsClient client × MayShare client name m
MayCall (OpenWrite client name range step) m = MayOpen client name m
MayCall (OpenCut client name size step) m = MayOpen client name m
MayCall (Free file cookie) m = Unit {0}
MayCall (Confirm file cookie) m = Unit {0}
MayCall (Commit file cookie end) m = end ≤ most_bytes
MayCall (Cut file cookie size) m = size ≤ most_bytes
MayCall (BeginCopy client name what) m = MayBegin client name what m
MayCall (CopyDone key cleared) m = HasGenerationRoom m
MayCall (MergeDone ours theirs) m = MayMerge ours theirs m × HasGenerationRoom m
MayCall (GiveUp key) m = Unit {0}
MayCall (Create name mirrors) m = IsRoom m.next_file × IsSpec mirrors
MayCall (Remove client name mirror to step) m = IsRoom m.next_file × HasGenerationRoom m
MayCall (Set client name id change step) m = HasGenerationRoom m
MayCall (Evict client step) m = IsClient client

-- ---- what a call leaves

-- where something is given, what that left; a refusal and a wait leave all as it was
abbrev pub left_by : {A : Type 0} → Outcome A → MetaView → MetaView
left_by (Gives given after) m = after
left_by (Refuses answer) m = m
left_by (Waits holder) m = m

-- the same for the end of a copy, which a broken lease ends too
abbrev pub left_at : {A : Type 0} → Ending A → MetaView → MetaView
left_at (Ends given after) m = after
left_at (Breaks step after) m = after
left_at (Holds holder) m = m

-- a read ends, where its cookie is still held
abbrev pub confirmed : ℕ → Share → Bool → MetaView → MetaView
confirmed file cookie true m = frees file cookie m
confirmed file cookie false m = m

-- the server after a call for which memory sufficed
abbrev pub after_call : Call → MetaView → MetaView
after_call (OpenRead client name) m = left_by (read_opens client name m) m
after_call (OpenWrite client name range step) m = left_by (write_opens client name range step m) m
after_call (OpenCut client name size step) m = left_by (cut_opens client name size step m) m
after_call (Free file cookie) m = frees file cookie m
after_call (Confirm file cookie) m = confirmed file cookie (holds file cookie m) m
after_call (Commit file cookie end) m = commits file cookie end m
after_call (Cut file cookie size) m = cuts file cookie size m
after_call (BeginCopy client name what) m = left_by (copy_begins client name what m) m
after_call (CopyDone key cleared) m = left_at (copy_ends key cleared m) m
after_call (MergeDone ours theirs) m = left_at (merge_ends ours theirs m) m
after_call (GiveUp key) m = with_given key m
after_call (Create name mirrors) m = left_by (creates name mirrors m) m
after_call (Remove client name mirror to step) m = left_by (removes client name mirror to step m) m
after_call (Set client name id change step) m = left_by (sets client name id change step m) m
after_call (Evict client step) m = with_eviction client step m

-- ---- runs

-- the server after calls, one after another. A call for which memory ran out changes nothing, and isn't among them
abbrev pub after_calls : List Call → MetaView → MetaView
after_calls [] m = m
after_calls (call ∷ calls) m = after_calls calls (after_call call m)

-- each of the calls may be made to the server that those before it left
abbrev pub MayRun : List Call → MetaView → Type 0
MayRun [] m = Unit {0}
MayRun (call ∷ calls) m = MayCall call m × MayRun calls (after_call call m)

-- what a new server is made with: 1 to 64 targets, and 1 to 32 mirrors at most
pub record IsStart (targets most : ℕ) : Type 0 where
  pub some_targets : 0 < targets
  pub few_targets : targets ≤ 64
  pub some_mirrors : 0 < most
  pub few_mirrors : most ≤ 32
