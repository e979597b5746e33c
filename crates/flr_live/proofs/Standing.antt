-- How a client stands to all others: what it holds, and what its next step needs.
use Rattle.std.proofs.Common.{◌≡◌, ℕ, false, Option, Some, None, List, [], refl, sym, ap, subst, ◌∙◌}
use Rattle.std.specs.Option.{option_map_or}
use Rattle.composite_layout.specs.Layouts.{Composite}
use Rattle.extent_lock.specs.declared.lock.Lock.{Lock}
use Rattle.extent_lock.specs.Extents.{locks_of}
use Rattle.layout_lease.specs.declared.shared.Share.{Share}
use Rattle.script_values.specs.declared.command.Command.{Command}
use Rattle.meta_server.specs.declared.answers.Opened.{Opened}
use Rattle.client_read.specs.declared.phase.ReadAt.{ReadAt}
use Rattle.client_read.specs.declared.phase.ReadAt.TheVariants as read
use Rattle.client_read.specs.Views.{ReadView}
use Rattle.client_write.specs.declared.phase.CutAt.{CutAt}
use Rattle.client_write.specs.declared.phase.CutAt.TheVariants as cut
use Rattle.client_write.specs.declared.phase.WriteAt.{WriteAt}
use Rattle.client_write.specs.declared.phase.WriteAt.TheVariants as write
use Rattle.client_write.specs.Calls.{TruncateView, WriteView}
use Rattle.client_write.specs.Fitting.{IsAsked, IsSoundAt}
use Rattle.client_write.specs.Truncates.{locks_for}
use Rattle.client_write.specs.Writes.{range_of}
use Rattle.resync_copy.specs.declared.merge_phase.MergeStage.{MergeStage}
use Rattle.resync_copy.specs.declared.merge_phase.MergeStage.TheVariants as merge
use Rattle.resync_copy.specs.declared.phase.CopyAt.{CopyAt}
use Rattle.resync_copy.specs.declared.phase.CopyAt.TheVariants as copy
use Rattle.resync_copy.specs.declared.phase.CopyStage.{CopyStage}
use Rattle.resync_copy.specs.declared.phase.CopyStage.TheVariants as stage
use Rattle.flr_steps.specs.declared.client.Client.{Client}
use Rattle.flr_steps.specs.declared.client.Running.{Running}
use Rattle.flr_steps.specs.declared.client.Running.TheVariants as running
use Rattle.flr_steps.specs.Clients.{call_now}
use Rattle.flr_steps.specs.States.{State, client_at}
use Rattle.flr_steps.specs.Traces.{is_idle}
use Rattle.flr_numbers.specs.Calls.{cut_hand, read_hand, write_hand}
use Rattle.flr_numbers.specs.Copies.{copy_hand, merge_hand, stage_hand}
use Rattle.flr_numbers.specs.Frames.{IsShared}
use Rattle.flr_numbers.specs.Hands.{IsOpenAs}
use Rattle.flr_numbers.specs.Sentences.{Holds, IsCallOf, hand_of}
use Rattle.flr_locks.specs.Phases.{AreCutLocks, AreLocksOf, AreReadLocks, AreWriteLocks}
use Rattle.flr_locks.specs.Sentences.{Locked}
use Rattle.flr_claims.specs.Blocking.{Extents, Nothing, cut_needs, needs_of, read_needs, write_needs}
use Rattle.flr_live.proofs.Knowing.{Known, Knows}
use Rattle.flr_live.proofs.Reading.{KnowsPieces}
use Rattle.flr_pieces.proofs.Reading.{IsRange}
use Rattle.flr_live.proofs.Walking.{Walks, read_walks, write_walks}

-- the client has a call under way whose next step needs nothing of all others
pub record IsFree (s : State) (c : ℕ) : Type 0 where
  pub client : Client
  pub here : client_at s.clients c ≡ Some client
  pub busy : is_idle client.call ≡ false
  pub needs : (asked : Command) → needs_of (call_now c client.call asked) asked s.shared ≡ Nothing

-- it has a truncate under way, which asks for all its extent locks and holds none
pub record Cuts (s : State) (c : ℕ) : Type 0 where
  pub client : Client
  pub here : client_at s.clients c ≡ Some client
  pub busy : is_idle client.call ≡ false
  pub asks : List Lock
  pub needs : (asked : Command) → needs_of (call_now c client.call asked) asked s.shared ≡ Extents asks
  pub none : locks_of c s.shared.locks ≡ []

-- the client holds no extent lock and no cookie; or its next step needs nothing; or it asks for the extent lock of its next piece; or for those of all its tails
pub data Stands (s : State) (c : ℕ) : Type 0 where
  Bare : (locks : locks_of c s.shared.locks ≡ []) → (cookies : (number : ℕ) (cookie : Share) (l : Composite) → IsShared s.shared.meta number cookie l → cookie.client ≡ c → ⊥) → Stands s c
  Free : (is : IsFree s c) → Stands s c
  Walking : (is : Walks s c) → Stands s c
  Cutting : (is : Cuts s c) → Stands s c

module _ (s : State) (c : ℕ) (client : Client) (here : client_at s.clients c ≡ Some client) where
  -- the client's extent locks
  abbrev own : List Lock
  own = locks_of c s.shared.locks

  -- each cookie that the client holds is that of this open file; where none is open, it holds none
  abbrev HasOpen : Option Opened → Type 0
  HasOpen opened = (number : ℕ) (cookie : Share) (l : Composite) → IsShared s.shared.meta number cookie l → cookie.client ≡ c → IsOpenAs opened number cookie l

  free : (call : Running) → client.call ≡ call → is_idle call ≡ false → ((asked : Command) → needs_of (call_now c call asked) asked s.shared ≡ Nothing) → Stands s c
  free call is busy needs = Free (record { client = client; here = here; busy = ap is_idle is ∙ busy; needs = λ asked. ap (λ (x : Running). needs_of (call_now c x asked) asked s.shared) is ∙ needs asked })

  at_read : (r : ReadView) → client.call ≡ running.Read r → (a : ReadAt) → r.at ≡ a → AreReadLocks r a own → IsRange r.range → KnowsPieces r.range a → HasOpen (read_hand a).opened → Stands s c
  at_read r is read.Open at locks range knows opened = Bare locks opened
  at_read r is (read.Lock x next) at locks range knows opened = Walking (read_walks s c client here r x next is at range knows locks)
  at_read r is other at locks range knows opened = free (running.Read r) is refl (λ asked. ap (read_needs r) at)

  at_write : (w : WriteView) → client.call ≡ running.Write w → (a : WriteAt) → w.at ≡ a → AreWriteLocks w a own → IsAsked (range_of w) → IsSoundAt a (range_of w) → HasOpen (write_hand a).opened → Stands s c
  at_write w is write.Open at locks asked sound opened = Bare locks opened
  at_write w is (write.Lock x next) at locks asked sound opened = Walking (write_walks s c client here w x next is at asked sound.0 sound.1 locks)
  at_write w is other at locks asked sound opened = free (running.Write w) is refl (λ of. ap (λ (a : WriteAt). write_needs w a s.shared) at)

  at_cut : (t : TruncateView) → client.call ≡ running.Truncate t → (a : CutAt) → t.at ≡ a → AreCutLocks t a own → HasOpen (cut_hand a).opened → Stands s c
  at_cut t is cut.Open at locks opened = Bare locks opened
  at_cut t is (cut.Lock x) at locks opened =
      Cutting (record {
        client = client;
        here = here;
        busy = ap is_idle is;
        asks = locks_for t x;
        needs = λ asked. ap (λ (call : Running). needs_of (call_now c call asked) asked s.shared) is ∙ ap (λ (a : CutAt). cut_needs t a s.shared) at;
        none = locks;
      })
  at_cut t is other at locks opened = free (running.Truncate t) is refl (λ asked. ap (λ (a : CutAt). cut_needs t a s.shared) at)

  -- a copy has no file open
  bare_stage : (a : CopyStage) → own ≡ [] → HasOpen (stage_hand a).opened → Stands s c
  bare_stage (stage.Settle x) locks opened = Bare locks opened
  bare_stage other locks opened = Bare locks opened

  bare_merge : (a : MergeStage) → own ≡ [] → HasOpen (merge_hand a).opened → Stands s c
  bare_merge (merge.Settle x) locks opened = Bare locks opened
  bare_merge other locks opened = Bare locks opened

  at_copy : (a : CopyAt) → own ≡ [] → HasOpen (copy_hand a).opened → Stands s c
  at_copy copy.Begin locks opened = Bare locks opened
  at_copy (copy.Copy next) locks opened = bare_stage next locks opened
  at_copy (copy.Merge next) locks opened = bare_merge next locks opened

  at_call : (call : Running) → client.call ≡ call → AreLocksOf call own → Knows call → IsCallOf c call → HasOpen (hand_of call).opened → Stands s c
  at_call running.Idle is locks knows of opened = Bare locks opened
  at_call (running.Read r) is locks knows of opened = at_read r is r.at refl locks knows.0 knows.1 opened
  at_call (running.Write w) is locks knows of opened = at_write w is w.at refl locks of.1 of.2 opened
  at_call (running.Truncate t) is locks knows of opened = at_cut t is t.at refl locks opened
  at_call (running.Copy k) is locks knows of opened = at_copy k.at locks opened
  at_call (running.Verify v) is locks knows of opened = free (running.Verify v) is refl (λ asked. refl)

-- every number is that of a client that stands so, or of nobody, who holds nothing
pub stands : (s : State) (c : ℕ) → Holds s → Locked s → Known s → Stands s c
stands s c holds locked known = by (client_at s.clients c) refl
  where
    by : (o : Option Client) → client_at s.clients c ≡ o → Stands s c
    by None here = Bare (subst (λ (o : Option Client). AreLocksOf (option_map_or (λ (client : Client). client.call) o running.Idle) (locks_of c s.shared.locks)) here (locked.own c)) nobody
      where
        nobody : (number : ℕ) (cookie : Share) (l : Composite) → IsShared s.shared.meta number cookie l → cookie.client ≡ c → ⊥
        nobody number cookie l shared own =
            let is = known.holders number cookie l shared in
            let both : None ≡ Some is.0 = sym here ∙ ap (client_at s.clients) (sym own) ∙ is.1 in
            absurd (cc)
    by (Some client) here =
        let of = holds.clients c client here in
        at_call s c client here client.call refl (subst (λ (o : Option Client). AreLocksOf (option_map_or (λ (x : Client). x.call) o running.Idle) (locks_of c s.shared.locks)) here (locked.own c)) (known.reads c client here) of.call
        (λ number cookie l shared own. of.has.cookies number cookie l own shared)
