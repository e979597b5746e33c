-- Which answers a command has.
use Rattle.std.proofs.Common.{◌≡◌, ◌⊎◌, ◌<◌, ◌+◌, ℕ, Bool, true, false, not, ◌&&◌, cond, nat_lt, List, [], length, map, subst, inl, inr, arith}
use Rattle.std.specs.Prelude.{Option, Some, None, option_map, is_none, is_some}
use Rattle.std.specs.Option.{option_or}
use Rattle.flr_base.specs.declared.reply.FailedCall.{FailedCall}
use Rattle.flr_base.specs.declared.reply.Left.{Left}
use Rattle.flr_base.specs.declared.reply.Range.{Range}
use Rattle.flr_base.specs.declared.reply.Reply.{Reply}
use Rattle.flr_base.specs.declared.reply.Reply.TheVariants as reply
use Rattle.composite_layout.specs.Choices.{is_ready}
use Rattle.composite_layout.specs.declared.component.Component.{Component}
use Rattle.composite_layout.specs.declared.spec.MirrorSpec.{MirrorSpec}
use Rattle.composite_layout.specs.FlagChanges.{FlagSets}
use Rattle.composite_layout.specs.Layouts.{Composite, eof}
use Rattle.composite_layout.specs.LookUps.{has_mirror, mirror_ids, wholly_fresh}
use Rattle.composite_layout.specs.Making.{part_count}
use Rattle.layout_lease.specs.Leases.{holder_of}
use Rattle.layout_state.specs.Choosing.{has_fresh, primary_of}
use Rattle.layout_state.specs.declared.error.StateError.{StateError}
use Rattle.layout_state.specs.declared.error.StateError.TheVariants as errors
use Rattle.layout_state.specs.Marking.{changed_if_named, flags_refusal, mirror_of}
use Rattle.layout_state.specs.Mirroring.{excess, keeping, without}
use Rattle.layout_state.specs.Selecting.{absent_of}
use Rattle.mirror_select.specs.Pieces.{first_without}
use Rattle.lfs_words.specs.declared.command.LfsCommand.{LfsCommand}
use Rattle.lfs_words.specs.declared.command.LfsCommand.TheVariants as lfs
use Rattle.lfs_words.specs.declared.command.SplitTo.{SplitTo}
use Rattle.lfs_words.specs.declared.command.SplitTo.TheVariants as split
use Rattle.script_values.specs.declared.command.Command.{Command}
use Rattle.script_values.specs.declared.command.Command.TheVariants as command
use Rattle.meta_server.specs.Files.{File, MetaView, file_named, is_full}
use Rattle.meta_server.specs.Layouts.{offline_byte}
use Rattle.meta_server.specs.Outcomes.{refusal_of}
use Rattle.mirror_admin.specs.Rotting.{is_kept}
use Rattle.call_steps.specs.Servers.{Servers}
use Rattle.flr_claims.specs.Calls.{Call}
use Rattle.flr_claims.specs.Causes as causes
use Rattle.flr_claims.specs.Causes.{Answers, IsCaused, IsGranted, IsRefused}
use Rattle.flr_claims.specs.Merging.{HasFenceFailed, HasNoSource}
use Rattle.flr_claims.specs.Refusals.{busy, change_refusal, delete_refusal, extend_refusal, flags_refused, lfs_refusal, make_refusal, merge_refusal, plain_refusal, read_refusal, refused_if, refusal_for, resync_refusal, split_refusal, split_to_refusal, victim_refusal}
use Rattle.flr_claims.specs.Replies.{AnswersAreOfCommands, EvictionsNameTheirClient, IsAnswerOf, RefusalsAreAlone, OfCompSet, OfDelete, OfEvict, OfExtend, OfExtendBy, OfGetStripe, OfLfs, OfMaking, OfRead, OfResync, OfRot, OfSplit, OfSplitTo, OfTruncate, OfVerify, OfWrite}

-- ---- what a refusal comes from

module _ (P : Reply → Type 0) where
  given : (a b : Reply) → P a → Some a ≡ Some b → P b
  given a b p e = subst P (cc) p

  refused : (b : Bool) (a answer : Reply) → P a → refused_if b a ≡ Some answer → P answer
  refused true a answer p e = given a answer p e
  refused false a answer p e = absurd (cc)

  either : (x y : Option Reply) (answer : Reply) → (x ≡ Some answer → P answer) → (y ≡ Some answer → P answer) → option_or x y ≡ Some answer → P answer
  either (Some a) y answer f g e = f e
  either None y answer f g e = g e

  mapped : {A : Type 0} (f : A → Reply) (x : Option A) (answer : Reply) → ((a : A) → P (f a)) → option_map f x ≡ Some answer → P answer
  mapped f (Some a) answer p e = given (f a) answer (p a) e
  mapped f None answer p e = absurd (cc)

  -- a mirror that can't go
  kept : (mirror : ℕ) (here others : Bool) (answer : Reply) → P (reply.NoMirrorId mirror) → P (reply.LastFresh mirror)
      → option_map refusal_of (cond here (cond others None (Some (errors.LastFresh mirror))) (Some (errors.NoMirrorId mirror))) ≡ Some answer → P answer
  kept mirror true true answer none last e = absurd (cc)
  kept mirror true false answer none last e = given (reply.LastFresh mirror) answer last e
  kept mirror false others answer none last e = given (reply.NoMirrorId mirror) answer none e

  -- mirrors that can't come
  exceeded : (many more : Bool) (answer : Reply) → P reply.TooManyMirrors → P reply.TooManyComponents
      → option_map refusal_of (cond many (Some errors.TooManyMirrors) (cond more (Some errors.TooManyComponents) None)) ≡ Some answer → P answer
  exceeded true more answer mirrors components e = given reply.TooManyMirrors answer mirrors e
  exceeded false true answer mirrors components e = given reply.TooManyComponents answer components e
  exceeded false false answer mirrors components e = absurd (cc)

-- ---- each command

reads : (name : List ℕ) (range : Range) (o : Option File) (answer : Reply) → read_refusal name range o ≡ Some answer → OfRead answer
reads name range None answer e = given OfRead (reply.NoFile name) answer tt e
reads name range (Some f) answer e = mapped OfRead reply.AllOffline (first_without f.layout.components range.start range.end []) answer (λ byte. tt) e

-- a writing call
changes : (P : Reply → Type 0) (name : List ℕ) (range : Range) (big : Bool) (o : Option File) (answer : Reply) → P (reply.NoFile name) → P reply.TooBig → P (reply.NoPrimary range) → change_refusal name range big o ≡ Some answer → P answer
changes P name range big None answer none too_big no_primary e = given P (reply.NoFile name) answer none e
changes P name range big (Some f) answer none too_big no_primary e =
    either P (refused_if big reply.TooBig) _ answer (refused P big reply.TooBig answer too_big)
    (refused P (not (is_ready f.layout range) && is_none (primary_of range f.layout.components)) (reply.NoPrimary range) answer no_primary) e

makes : (name : List ℕ) (files : List File) (o : Option File) (answer : Reply) → make_refusal name files o ≡ Some answer → OfMaking answer
makes name files None answer e = refused OfMaking (is_full files) reply.TooManyFiles answer tt e
makes name files (Some f) answer e = given OfMaking (reply.Exists name) answer tt e

plain : (P : Reply → Type 0) (name : List ℕ) (o : Option File) (answer : Reply) → P (reply.NoFile name) → plain_refusal name o ≡ Some answer → P answer
plain P name None answer none e = given P (reply.NoFile name) answer none e
plain P name (Some f) answer none e = absurd (cc)

flags_on : (id : ℕ) (change : FlagSets) (cs : List Component) (answer : Reply) → option_map refusal_of (flags_refusal id change cs) ≡ Some answer → OfCompSet answer
flags_on id change cs answer h = at (mirror_of id cs) h
  where
    why : Option ℕ → Option StateError
    why None = Some (errors.NoComponent id)
    why (Some mirror) = cond (has_fresh (map (changed_if_named id change) cs)) None (Some (errors.LastFresh mirror))

    last : (mirror : ℕ) (b : Bool) → option_map refusal_of (cond b None (Some (errors.LastFresh mirror))) ≡ Some answer → OfCompSet answer
    last mirror true e = absurd cc
    last mirror false e = given OfCompSet (reply.LastFresh mirror) answer tt e

    at : (o : Option ℕ) → option_map refusal_of (why o) ≡ Some answer → OfCompSet answer
    at None e = given OfCompSet (reply.NoComponent id) answer tt e
    at (Some mirror) e = last mirror (has_fresh (map (changed_if_named id change) cs)) e

sets : (name : List ℕ) (id : ℕ) (change : FlagSets) (o : Option File) (answer : Reply) → flags_refused name id change o ≡ Some answer → OfCompSet answer
sets name id change None answer e = given OfCompSet (reply.NoFile name) answer tt e
sets name id change (Some f) answer e = flags_on id change f.layout.components answer e

deletes : (name : List ℕ) (mirror : ℕ) (o : Option File) (answer : Reply) → delete_refusal name mirror o ≡ Some answer → OfDelete answer
deletes name mirror None answer e = given OfDelete (reply.NoFile name) answer tt e
deletes name mirror (Some f) answer e = kept OfDelete mirror (has_mirror mirror f.layout.components) (has_fresh (without mirror f.layout.components)) answer tt tt e

splits : (name : List ℕ) (mirror : ℕ) (to : List ℕ) (files : List File) (o : Option File) (answer : Reply) → split_refusal name mirror to files o ≡ Some answer → OfSplit answer
splits name mirror to files None answer e = given OfSplit (reply.NoFile name) answer tt e
splits name mirror to files (Some f) answer e =
    either OfSplit (option_map refusal_of (keeping mirror f.layout.components)) _ answer
    (kept OfSplit mirror (has_mirror mirror f.layout.components) (has_fresh (without mirror f.layout.components)) answer tt tt)
    (either OfSplit (refused_if (not (wholly_fresh mirror f.layout.components)) (reply.StaleMirror mirror)) _ answer
    (refused OfSplit (not (wholly_fresh mirror f.layout.components)) (reply.StaleMirror mirror) answer tt)
    (either OfSplit (refused_if (is_some (file_named to files)) (reply.Exists to)) _ answer (refused OfSplit (is_some (file_named to files)) (reply.Exists to) answer tt)
    (refused OfSplit (is_full files) reply.TooManyFiles answer tt)))
    e

resyncs : (name : List ℕ) (only : Option (List ℕ)) (m : MetaView) (o : Option File) (answer : Reply) → resync_refusal name only m o ≡ Some answer → OfResync answer
resyncs name only m None answer e = given OfResync (reply.NoFile name) answer tt e
resyncs name only m (Some f) answer e =
    either OfResync (option_map reply.NoMirrorId (absent_of only f.layout.components)) (busy m f) answer
    (mapped OfResync reply.NoMirrorId (absent_of only f.layout.components) answer (λ id. tt)) (mapped OfResync reply.Busy (holder_of m.leases f.number) answer (λ holder. tt)) e

too_many : (P : Reply → Type 0) (l : Composite) (mirrors components most : ℕ) (answer : Reply) → P reply.TooManyMirrors → P reply.TooManyComponents → option_map refusal_of (excess l mirrors components most) ≡ Some answer → P answer
too_many P l mirrors components most answer a b e = exceeded P (nat_lt most (length (mirror_ids l.components) + mirrors)) (nat_lt 65536 (l.next_counter + components)) answer a b e

extends : (name : List ℕ) (spec : List MirrorSpec) (m : MetaView) (o : Option File) (answer : Reply) → extend_refusal name spec m o ≡ Some answer → OfExtend answer
extends name spec m None answer e = given OfExtend (reply.NoFile name) answer tt e
extends name spec m (Some f) answer e =
    either OfExtend (option_map refusal_of (excess f.layout (length spec) (part_count spec) m.most)) (busy m f) answer
    (too_many OfExtend f.layout (length spec) (part_count spec) m.most answer tt tt) (mapped OfExtend reply.Busy (holder_of m.leases f.number) answer (λ holder. tt)) e

victims : (victim : List ℕ) (m : MetaView) (f : File) (o : Option File) (answer : Reply) → victim_refusal victim m f o ≡ Some answer → OfExtendBy answer
victims victim m f None answer e = given OfExtendBy (reply.NoFile victim) answer tt e
victims victim m f (Some v) answer e =
    either OfExtendBy (option_map refusal_of (excess f.layout (length (mirror_ids v.layout.components)) (length v.layout.components) m.most)) _ answer
    (too_many OfExtendBy f.layout (length (mirror_ids v.layout.components)) (length v.layout.components) m.most answer tt tt)
    (either OfExtendBy (busy m f) _ answer (held f)
    (either OfExtendBy (busy m v) _ answer (held v)
    (either OfExtendBy (option_map reply.AllOffline (offline_byte f.layout)) (option_map reply.AllOffline (offline_byte v.layout)) answer (offline f) (offline v))))
    e
  where
    held : (g : File) → busy m g ≡ Some answer → OfExtendBy answer
    held g h = mapped OfExtendBy reply.Busy (holder_of m.leases g.number) answer (λ holder. tt) h

    offline : (g : File) → option_map reply.AllOffline (offline_byte g.layout) ≡ Some answer → OfExtendBy answer
    offline g h = mapped OfExtendBy reply.AllOffline (offline_byte g.layout) answer (λ byte. tt) h

merges : (name victim : List ℕ) (m : MetaView) (o : Option File) (answer : Reply) → merge_refusal name victim m o ≡ Some answer → OfExtendBy answer
merges name victim m None answer e = given OfExtendBy (reply.NoFile name) answer tt e
merges name victim m (Some f) answer e = victims victim m f (file_named victim m.files) answer e

split_to : (name : List ℕ) (mirror : ℕ) (to : SplitTo) (files : List File) (answer : Reply) → split_to_refusal name mirror to files ≡ Some answer → OfSplitTo to answer
split_to name mirror split.Default files answer e = splits name mirror _ files (file_named name files) answer e
split_to name mirror (split.Named new) files answer e = splits name mirror new files (file_named name files) answer e
split_to name mirror split.Destroy files answer e = deletes name mirror (file_named name files) answer e

lfs_refused : (of : LfsCommand) (m : MetaView) (answer : Reply) → lfs_refusal of m ≡ Some answer → OfLfs of answer
lfs_refused (lfs.SetStripe name spec) m answer e = makes name m.files (file_named name m.files) answer e
lfs_refused (lfs.GetStripe name) m answer e = plain OfGetStripe name (file_named name m.files) answer tt e
lfs_refused (lfs.CompSet name id change) m answer e = sets name id change (file_named name m.files) answer e
lfs_refused (lfs.Create name spec) m answer e = makes name m.files (file_named name m.files) answer e
lfs_refused (lfs.Extend name spec) m answer e = extends name spec m (file_named name m.files) answer e
lfs_refused (lfs.ExtendBy name victim) m answer e = merges name victim m (file_named name m.files) answer e
lfs_refused (lfs.Split name mirror to) m answer e = split_to name mirror to m.files answer e
lfs_refused (lfs.Delete name mirror) m answer e = deletes name mirror (file_named name m.files) answer e
lfs_refused (lfs.Resync name only) m answer e = resyncs name only m (file_named name m.files) answer e
lfs_refused (lfs.Verify name) m answer e = plain OfVerify name (file_named name m.files) answer tt e

-- a refusal is an answer of its command
refusals : (asked : Command) (s : Servers) (answer : Reply) → refusal_for asked s ≡ Some answer → IsAnswerOf asked answer
refusals (command.Read name offset len) s answer e = reads name (record { start = offset; end = offset + len }) (file_named name s.meta.files) answer e
refusals (command.Write name offset bytes) s answer e =
    let end : ℕ = offset + length bytes in
    changes OfWrite name (record { start = offset; end = end }) (nat_lt _ end) (file_named name s.meta.files) answer tt tt tt e
refusals (command.Truncate name size) s answer e = changes OfTruncate name (record { start = size; end = eof }) (nat_lt _ size) (file_named name s.meta.files) answer tt tt tt e
refusals (command.Lfs of) s answer e = lfs_refused of s.meta answer e
refusals (command.Evict client) s answer e = absurd (cc)
refusals (command.Rot object offset byte) s answer e = refused OfRot (not (is_kept object s.targets)) reply.NoObject answer tt e

-- ---- what isn't refused

module _ (k : Call) where
  made : (answer : Reply) → causes.MakesFile k answer → OfMaking answer
  made reply.Created h = tt
  made other h = absurd h

  told : (answer : Reply) → causes.TellsLayout k answer → OfGetStripe answer
  told (reply.Layout text) h = tt
  told other h = absurd h

  set : (answer : Reply) → causes.SetsFlags k answer → OfCompSet answer
  set reply.Set h = tt
  set other h = absurd h

  split_off : (to : List ℕ) (answer : Reply) → causes.SplitsOff k to answer → OfSplit answer
  split_off to (reply.Split name) h = tt
  split_off to other h = absurd h

  removed : (mirror : ℕ) (answer : Reply) → causes.RemovesMirror k mirror answer → OfDelete answer
  removed mirror (reply.Removed id) h = tt
  removed mirror other h = absurd h

  evicted : (client : ℕ) (answer : Reply) → causes.EvictsClient k client answer → OfEvict answer
  evicted client (reply.EvictedClient other) h = tt
  evicted client other h = absurd h

  read : (offset len : ℕ) (answer : Reply) → causes.ReadsBytes k offset len answer → OfRead answer
  read offset len (reply.Bytes bytes) h = tt
  read offset len (reply.Fault byte calls) h = tt
  read offset len other h = absurd h

  written : (answer : Reply) → causes.WritesBytes k answer → OfWrite answer
  written reply.Written h = tt
  written (reply.WriteFault call) h = tt
  written (reply.Evicted place) h = tt
  written other h = absurd h

  truncated : (answer : Reply) → causes.TruncatesFile k answer → OfTruncate answer
  truncated reply.Truncated h = tt
  truncated (reply.WriteFault call) h = tt
  truncated (reply.Evicted place) h = tt
  truncated other h = absurd h

  resynced : (answer : Reply) → causes.CopiesFile k answer → OfResync answer
  resynced (reply.Copied cleared left) h = tt
  resynced (reply.Broken place) h = tt
  resynced other h = absurd h

  extended : (answer : Reply) → causes.CopiesFile k answer → OfExtend answer
  extended (reply.Copied cleared left) h = tt
  extended (reply.Broken place) h = tt
  extended other h = absurd h

  taken_in : (answer : Reply) → causes.TakesFileIn k answer → OfExtendBy answer
  taken_in (reply.Merged ids) h = tt
  taken_in (reply.Broken place) h = tt
  taken_in (reply.DifferAt offset ours theirs) h = tt
  taken_in (reply.Sizes ours theirs) h = tt
  taken_in (reply.CopyFault call) h = tt
  taken_in other h = absurd h

  compared : (answer : Reply) → causes.ComparesMirrors k answer → OfVerify answer
  compared (reply.Same count) h = tt
  compared (reply.Differ entries) h = tt
  compared (reply.VerifyFault call) h = tt
  compared other h = absurd h

  rotted : (answer : Reply) → causes.LetsRot k answer → OfRot answer
  rotted reply.Rotted h = tt
  rotted other h = absurd h

  splits_to : (name : List ℕ) (mirror : ℕ) (to : SplitTo) (answer : Reply) → causes.SplitsTo k name mirror to answer → OfSplitTo to answer
  splits_to name mirror split.Default answer h = split_off _ answer h
  splits_to name mirror (split.Named new) answer h = split_off new answer h
  splits_to name mirror split.Destroy answer h = removed mirror answer h

  lfs_answered : (of : LfsCommand) (answer : Reply) → causes.LfsAnswers k of answer → OfLfs of answer
  lfs_answered (lfs.SetStripe name spec) answer h = made answer h
  lfs_answered (lfs.GetStripe name) answer h = told answer h
  lfs_answered (lfs.CompSet name id change) answer h = set answer h
  lfs_answered (lfs.Create name spec) answer h = made answer h
  lfs_answered (lfs.Extend name spec) answer h = extended answer h
  lfs_answered (lfs.ExtendBy name victim) answer h = taken_in answer h
  lfs_answered (lfs.Split name mirror to) answer h = splits_to name mirror to answer h
  lfs_answered (lfs.Delete name mirror) answer h = removed mirror answer h
  lfs_answered (lfs.Resync name only) answer h = resynced answer h
  lfs_answered (lfs.Verify name) answer h = compared answer h

  answered : (asked : Command) (answer : Reply) → Answers k asked answer → IsAnswerOf asked answer
  answered (command.Read name offset len) answer h = read offset len answer h
  answered (command.Write name offset bytes) answer h = written answer h
  answered (command.Truncate name size) answer h = truncated answer h
  answered (command.Lfs of) answer h = lfs_answered of answer h
  answered (command.Evict client) answer h = evicted client answer h
  answered (command.Rot object offset byte) answer h = rotted answer h

pub answers_are_of_commands : AnswersAreOfCommands
answers_are_of_commands k answer (inl h) = refusals k.asked k.before.shared answer h.1
answers_are_of_commands k answer (inr h) = answered k k.asked answer h

-- ---- evictions

evicts : (k : Call) (asked : Command) (client other : ℕ) → asked ≡ command.Evict client → refusal_for asked k.before.shared ≡ Some (reply.EvictedClient other) ⊎ Answers k asked (reply.EvictedClient other) → other ≡ client
evicts k asked client other e h =
    by (subst (λ (a : Command). refusal_for a k.before.shared ≡ Some (reply.EvictedClient other) ⊎ Answers k a (reply.EvictedClient other)) e h)
  where
    by : refusal_for (command.Evict client) k.before.shared ≡ Some (reply.EvictedClient other) ⊎ Answers k (command.Evict client) (reply.EvictedClient other) → other ≡ client
    by (inl none) = absurd (cc)
    by (inr said) = said.1

pub evictions_name_their_client : EvictionsNameTheirClient
evictions_name_their_client k client other e (inl h) = evicts k k.asked client other e (inl h.1)
evictions_name_their_client k client other e (inr h) = evicts k k.asked client other e (inr h)

-- ---- a refused call has no other answer

module _ (k : Call) where
  -- nothing refuses the call, and it is answered at once, or it is answered later than it opened its file
  abbrev IsFree : Type 0
  IsFree = IsGranted k ⊎ (k.did.opened < k.at)

  free_made : (answer : Reply) → causes.MakesFile k answer → IsFree
  free_made reply.Created h = inl h
  free_made other h = absurd h

  free_told : (answer : Reply) → causes.TellsLayout k answer → IsFree
  free_told (reply.Layout text) h = inl h.0
  free_told other h = absurd h

  free_set : (answer : Reply) → causes.SetsFlags k answer → IsFree
  free_set reply.Set h = inl h
  free_set other h = absurd h

  free_split : (to : List ℕ) (answer : Reply) → causes.SplitsOff k to answer → IsFree
  free_split to (reply.Split name) h = inl h.0
  free_split to other h = absurd h

  free_removed : (mirror : ℕ) (answer : Reply) → causes.RemovesMirror k mirror answer → IsFree
  free_removed mirror (reply.Removed id) h = inl h.0
  free_removed mirror other h = absurd h

  free_evicted : (client : ℕ) (answer : Reply) → causes.EvictsClient k client answer → IsFree
  free_evicted client (reply.EvictedClient other) h = inl h.0
  free_evicted client other h = absurd h

  free_read : (offset len : ℕ) (answer : Reply) → causes.ReadsBytes k offset len answer → IsFree
  free_read offset len (reply.Bytes bytes) h = inr h.held.later
  free_read offset len (reply.Fault byte calls) h = inr h.1.held.later
  free_read offset len other h = absurd h

  free_written : (answer : Reply) → causes.WritesBytes k answer → IsFree
  free_written reply.Written h = inr h.1.sending.opened.later
  free_written (reply.WriteFault call) h = inr h.1.sending.opened.later
  free_written (reply.Evicted place) h = inr h.1.sending.opened.later
  free_written other h = absurd h

  free_truncated : (answer : Reply) → causes.TruncatesFile k answer → IsFree
  free_truncated reply.Truncated h = inr h.1.sending.opened.later
  free_truncated (reply.WriteFault call) h = inr h.1.sending.opened.later
  free_truncated (reply.Evicted place) h = inr h.1.sending.opened.later
  free_truncated other h = absurd h

  free_copied : (cleared : List ℕ) (left : List Left) → causes.IsCopyOfOne k cleared left → IsFree
  free_copied cleared left (causes.OfNothing granted selected none no_left) = inl granted
  free_copied cleared left (causes.OfSome f ids later some right) = inr right.begun.opened.later

  free_copy : (answer : Reply) → causes.CopiesFile k answer → IsFree
  free_copy (reply.Copied cleared left) h = free_copied cleared left h
  free_copy (reply.Broken place) h = inr h.2.later
  free_copy other h = absurd h

  free_fault : (call : FailedCall) → HasFenceFailed k call ⊎ HasNoSource k call → IsFree
  free_fault call (inl h) = inr h.leased.begun.later
  free_fault call (inr h) = inr h.sizes.leased.begun.later

  free_merge : (answer : Reply) → causes.TakesFileIn k answer → IsFree
  free_merge (reply.Merged ids) h = inr h.1.2.sizes.leased.begun.later
  free_merge (reply.Broken place) h = inr h.3.later
  free_merge (reply.DifferAt offset ours theirs) h = inr h.1.sizes.leased.begun.later
  free_merge (reply.Sizes ours theirs) h = inr h.1.sizes.leased.begun.later
  free_merge (reply.CopyFault call) h = free_fault call h.1
  free_merge other h = absurd h

  free_compared : (answer : Reply) → causes.ComparesMirrors k answer → IsFree
  free_compared (reply.Same count) h = inr h.1.1.verified.opened.later
  free_compared (reply.Differ entries) h = inr h.2.1.verified.opened.later
  free_compared (reply.VerifyFault call) h = inr h.1.verified.opened.later
  free_compared other h = absurd h

  free_rotted : (answer : Reply) → causes.LetsRot k answer → IsFree
  free_rotted reply.Rotted h = inl h
  free_rotted other h = absurd h

  free_split_to : (name : List ℕ) (mirror : ℕ) (to : SplitTo) (answer : Reply) → causes.SplitsTo k name mirror to answer → IsFree
  free_split_to name mirror split.Default answer h = free_split _ answer h
  free_split_to name mirror (split.Named new) answer h = free_split new answer h
  free_split_to name mirror split.Destroy answer h = free_removed mirror answer h

  free_lfs : (of : LfsCommand) (answer : Reply) → causes.LfsAnswers k of answer → IsFree
  free_lfs (lfs.SetStripe name spec) answer h = free_made answer h
  free_lfs (lfs.GetStripe name) answer h = free_told answer h
  free_lfs (lfs.CompSet name id change) answer h = free_set answer h
  free_lfs (lfs.Create name spec) answer h = free_made answer h
  free_lfs (lfs.Extend name spec) answer h = free_copy answer h
  free_lfs (lfs.ExtendBy name victim) answer h = free_merge answer h
  free_lfs (lfs.Split name mirror to) answer h = free_split_to name mirror to answer h
  free_lfs (lfs.Delete name mirror) answer h = free_removed mirror answer h
  free_lfs (lfs.Resync name only) answer h = free_copy answer h
  free_lfs (lfs.Verify name) answer h = free_compared answer h

  free : (asked : Command) (answer : Reply) → Answers k asked answer → IsFree
  free (command.Read name offset len) answer h = free_read offset len answer h
  free (command.Write name offset bytes) answer h = free_written answer h
  free (command.Truncate name size) answer h = free_truncated answer h
  free (command.Lfs of) answer h = free_lfs of answer h
  free (command.Evict client) answer h = free_evicted client answer h
  free (command.Rot object offset byte) answer h = free_rotted answer h

  none_free : (answer : Reply) → IsRefused k answer → IsFree → ⊥
  none_free answer h (inl granted) = let same = h.1 in let none = granted.1 in absurd (cc)
  none_free answer h (inr later) = omega (arith, h.0, later)

  same_refusal : (answer other : Reply) → IsRefused k answer → IsRefused k other → other ≡ answer
  same_refusal answer other h o = let one = h.1 in let two = o.1 in cc

pub refusals_are_alone : RefusalsAreAlone
refusals_are_alone k answer h other (inl o) = same_refusal k answer other h o
refusals_are_alone k answer h other (inr o) = absurd (none_free k answer h (free k k.asked other o))
