-- Where an extend by a victim tells a lease broken, that of its file was broken at that place, or that one stands and the victim's was.
use Rattle.std.proofs.Common.{◌≡◌, ◌⊎◌, inl, inr, ℕ, List, [], Some, None, Option, refl, sym, ap, ◌∙◌, length}
use Rattle.flr_base.specs.declared.reply.Reply.{Reply}
use Rattle.flr_base.specs.declared.reply.Reply.TheVariants as reply
use Rattle.flr_base.specs.declared.reply.Range.{Range}
use Rattle.flr_base.specs.declared.reply.Take.{Take}
use Rattle.flr_base.specs.declared.reply.ObjectId.{ObjectId}
use Rattle.mirror_select.specs.declared.types.Piece.{Piece}
use Rattle.object_target.specs.declared.call.CallAnswer.{CallAnswer}
use Rattle.object_target.specs.declared.call.CallAnswer.TheVariants as answer
use Rattle.layout_lease.specs.declared.lease.KeyState.{KeyState}
use Rattle.layout_lease.specs.declared.lease.KeyState.TheVariants.{Held, Broken}
use Rattle.layout_lease.specs.Leases.{KeyView, holder_of, state_of}
use Rattle.layout_lease.specs.Shares.{lowest_but}
use Rattle.layout_state.specs.declared.error.StateError.{StateError}
use Rattle.layout_state.specs.declared.error.StateError.TheVariants as errors
use Rattle.layout_state.specs.Mirroring.{excess}
use Rattle.composite_layout.specs.LookUps.{mirror_ids}
use Rattle.meta_server.specs.Beginning as begin
use Rattle.meta_server.specs.declared.answers.Begun.{Begun}
use Rattle.meta_server.specs.declared.answers.Begun.TheVariants as begun_as
use Rattle.meta_server.specs.declared.answers.CopyWhat.TheVariants.{Victim}
use Rattle.meta_server.specs.Ending.{merge_ends_alone, merge_ends_by, merge_ends_files}
use Rattle.meta_server.specs.Files.{File, MetaView, file_named, file_of}
use Rattle.meta_server.specs.Layouts.{offline_byte}
use Rattle.meta_server.specs.Outcomes.{Gives, Refuses, Waits, refusal_of}
use Rattle.meta_server.specs.Outcomes as meta
use Rattle.meta_server.specs.Sound.{IsSound}
use Rattle.call_steps.specs.Servers.{Servers}
use Rattle.call_steps.specs.Steps.{Outcome}
use Rattle.resync_copy.specs.Calls.{CopyView}
use Rattle.resync_copy.specs.Comparing.{ComparingView}
use Rattle.resync_copy.specs.declared.merge_phase.MergeStage.{MergeStage}
use Rattle.resync_copy.specs.declared.merge_phase.Pair.{Pair}
use Rattle.resync_copy.specs.Merges as merges
use Rattle.resync_copy.specs.Steps.{begins}
use Rattle.flr_numbers.proofs.Holding.{covered_there}
use Rattle.flr_asked.specs.CallRuns.{FixesAnswer}
use Rattle.flr_honest.specs.Legal.Sentences.{Keeps, TellsOfBoth}

-- ---- the begin

-- the metadata server began on no file alone, and told no lease broken
abbrev pub BeginsBoth : meta.Outcome Begun → Type 0
BeginsBoth (Gives begun_as.Nothing after) = Unit {0}
BeginsBoth (Gives (begun_as.Copy side ids) after) = ⊥
BeginsBoth (Gives (begun_as.Merge ours theirs) after) = Unit {0}
BeginsBoth (Refuses refusal) = (place : ℕ) → refusal ≡ reply.Broken place → ⊥
BeginsBoth (Waits holder) = Unit {0}

error_tells : (error : StateError) (place : ℕ) → refusal_of error ≡ reply.Broken place → ⊥
error_tells (errors.NoPrimary range) place e = cc e
error_tells (errors.LastFresh mirror) place e = cc e
error_tells (errors.NoMirrorId id) place e = cc e
error_tells (errors.NoComponent id) place e = cc e
error_tells errors.TooManyMirrors place e = cc e
error_tells errors.TooManyComponents place e = cc e
error_tells errors.NoMemory place e = cc e

module _ (client : ℕ) (m : MetaView) where
  alone : (f v : File) (o p : Option ℕ) → BeginsBoth (begin.merge_alone client m f v o p)
  alone f v (Some holder) p = tt
  alone f v None (Some holder) = tt
  alone f v None None = tt

  readable : (f v : File) (o p : Option ℕ) → BeginsBoth (begin.merge_readable client m f v o p)
  readable f v (Some byte) p = λ place e. cc e
  readable f v None (Some byte) = λ place e. cc e
  readable f v None None = alone f v (lowest_but client f.lock) (lowest_but client v.lock)

  leased : (f v : File) (o p : Option ℕ) → BeginsBoth (begin.merge_leased client m f v o p)
  leased f v (Some holder) p = λ place e. cc e
  leased f v None (Some holder) = λ place e. cc e
  leased f v None None = readable f v (offline_byte f.layout) (offline_byte v.layout)

  fits : (f v : File) (o : Option StateError) → BeginsBoth (begin.merge_fits client m f v o)
  fits f v (Some error) = λ place e. error_tells error place e
  fits f v None = leased f v (holder_of m.leases f.number) (holder_of m.leases v.number)

  by_victim : (victim : List ℕ) (f : File) (o : Option File) → BeginsBoth (begin.merge_begins client m victim f o)
  by_victim victim f None = λ place e. cc e
  by_victim victim f (Some v) = fits f v (excess f.layout (length (mirror_ids v.layout.components)) (length v.layout.components) m.most)

  by_file : (name victim : List ℕ) (o : Option File) → BeginsBoth (begin.copy_begins_file client m name (Victim victim) o)
  by_file name victim None = λ place e. cc e
  by_file name victim (Some f) = by_victim victim f (file_named victim m.files)

  -- an extend by a victim begins on both files
  pub both_begin : (name victim : List ℕ) → BeginsBoth (begin.copy_begins client name (Victim victim) m)
  both_begin name victim = by_file name victim (file_named name m.files)

-- so its begin tells no lease broken
pub begin_tells : (k : CopyView) (s : Servers) (o : meta.Outcome Begun) (place : ℕ) (takes : List Take) → BeginsBoth o → FixesAnswer (begins k s o) (reply.Broken place) takes → ⊥
begin_tells k s (Gives begun_as.Nothing after) place takes both told = cc told.0
begin_tells k s (Gives (begun_as.Copy side ids) after) place takes both told = both
begin_tells k s (Gives (begun_as.Merge ours theirs) after) place takes both told = told
begin_tells k s (Refuses refusal) place takes both told = both place told.0
begin_tells k s (Waits holder) place takes both told = told

-- ---- its last step

module _ (k : CopyView) (s : Servers) (sound : IsSound s.meta) (place : ℕ) (takes : List Take) where
  abbrev Tells : Outcome CopyView → Type 0
  Tells o = FixesAnswer o (reply.Broken place) takes

  -- the first of the keys is broken there, or it stands and the second is
  abbrev pub OneBroken : KeyView → KeyView → Type 0
  OneBroken ours theirs = (state_of s.meta.leases ours ≡ Broken place) ⊎ ((state_of s.meta.leases ours ≡ Held) × (state_of s.meta.leases theirs ≡ Broken place))

  module _ (ours theirs : KeyView) where
    both_stand : state_of s.meta.leases ours ≡ Held → state_of s.meta.leases theirs ≡ Held → (x y : Option File) → file_of ours.file s.meta.files ≡ x → file_of theirs.file s.meta.files ≡ y
        → Tells (merges.ends_merge k s (merge_ends_files ours theirs s.meta x y)) → ⊥
    both_stand h l None y ex ey told = (let w = covered_there s.meta.files s.meta.leases ours sound.covered h in let both = sym ex ∙ w.1 in cc both)
    both_stand h l (Some f) None ex ey told = (let w = covered_there s.meta.files s.meta.leases theirs sound.covered l in let both = sym ey ∙ w.1 in cc both)
    both_stand h l (Some f) (Some v) ex ey told = by (lowest_but ours.client f.lock) (lowest_but ours.client v.lock) told
      where
        by : (o p : Option ℕ) → Tells (merges.ends_merge k s (merge_ends_alone ours theirs s.meta f v o p)) → ⊥
        by (Some holder) p t = t
        by None (Some holder) t = t
        by None None t = cc t.0

    by_states : (a b : KeyState) → state_of s.meta.leases ours ≡ a → state_of s.meta.leases theirs ≡ b → Tells (merges.ends_merge k s (merge_ends_by ours theirs s.meta a b)) → OneBroken ours theirs × (takes ≡ [])
    by_states (Broken step) b ea eb told = (inl (ea ∙ ap Broken (let same : step ≡ place = cc told.0 in same)), sym told.1)
    by_states Held (Broken step) ea eb told = (inr (ea, eb ∙ ap Broken (let same : step ≡ place = cc told.0 in same)), sym told.1)
    by_states Held Held ea eb told = absurd (both_stand ea eb (file_of ours.file s.meta.files) (file_of theirs.file s.meta.files) refl refl told)

    kept_tells : (kept : Reply) → TellsOfBoth kept → kept ≡ reply.Broken place → ⊥
    kept_tells (reply.CopyFault call) t e = cc e
    kept_tells (reply.Sizes a b) t e = cc e
    kept_tells (reply.DifferAt offset a b) t e = cc e
    kept_tells other t e = absurd t

    by_kept : (kept : Reply) (a b : KeyState) → TellsOfBoth kept → state_of s.meta.leases ours ≡ a → state_of s.meta.leases theirs ≡ b → merges.kept_answer kept a b ≡ reply.Broken place → OneBroken ours theirs
    by_kept kept (Broken step) b of ea eb told = inl (ea ∙ ap Broken (let same : step ≡ place = cc told in same))
    by_kept kept Held (Broken step) of ea eb told = inr (ea, eb ∙ ap Broken (let same : step ≡ place = cc told in same))
    by_kept kept Held Held of ea eb told = absurd (kept_tells kept of told)

    -- a done that tells a lease broken found one of its keys so
    pub merge_done_tells : (refusal : Option Reply) → Keeps refusal → Tells (merges.merge_ends_with k s ours theirs refusal) → OneBroken ours theirs × (takes ≡ [])
    merge_done_tells (Some kept) of told = (by_kept kept (state_of s.meta.leases ours) (state_of s.meta.leases theirs) of refl refl told.0, sym told.1)
    merge_done_tells None of told = by_states (state_of s.meta.leases ours) (state_of s.meta.leases theirs) refl refl told

  -- the steps before it answer nothing
  pub fence_none : (x : ComparingView) (next : ℕ) (o : ObjectId) (a : CallAnswer) → Tells (merges.merge_fences_object k s x next o a) → ⊥
  fence_none x next o answer.Ok h = h
  fence_none x next o (answer.Old kept) h = h
  fence_none x next o answer.Failed h = h

  pub settle_none : (x : ComparingView) (o : Option (ℕ × Range)) (next : MergeStage) → Tells (merges.merge_settles k s x o next) → ⊥
  settle_none x (Some told) next h = h
  settle_none x None next h = h

  pub ours_none : (q : Pair) (r : Piece) (a : CallAnswer) → Tells (merges.takes_ours k s q r a) → ⊥
  ours_none q r answer.Ok h = h
  ours_none q r (answer.Old kept) h = h
  ours_none q r answer.Failed h = h

  pub theirs_none : (q : Pair) (bytes : Option (List ℕ)) (r : Piece) (a : CallAnswer) → Tells (merges.takes_theirs k s q bytes r a) → ⊥
  theirs_none q bytes r answer.Ok h = h
  theirs_none q bytes r (answer.Old kept) h = h
  theirs_none q bytes r answer.Failed h = h
