-- An extend by a victim that is answered where it begins is refused there.
use Rattle.std.proofs.Common.{◌≡◌, ℕ, List, [], length, Option, None, Some, refl, sym, ap, ◌∙◌}
use Rattle.std.specs.Prelude.{option_map}
use Rattle.std.specs.Option.{option_or}
use Rattle.flr_base.specs.declared.reply.Reply.TheVariants as reply
use Rattle.flr_base.specs.declared.reply.Reply.{Reply}
use Rattle.flr_base.specs.declared.reply.Take.{Take}
use Rattle.composite_layout.specs.LookUps.{mirror_ids}
use Rattle.layout_lease.specs.Leases.{holder_of}
use Rattle.layout_lease.specs.Shares.{lowest_but}
use Rattle.layout_state.specs.declared.error.StateError.{StateError}
use Rattle.layout_state.specs.Mirroring.{excess}
use Rattle.lfs_words.specs.declared.command.LfsCommand.TheVariants as lfs
use Rattle.script_values.specs.declared.command.Command.{Command}
use Rattle.script_values.specs.declared.command.Command.TheVariants as command
use Rattle.meta_server.specs.declared.answers.Begun.{Begun}
use Rattle.meta_server.specs.declared.answers.Begun.TheVariants as begun_as
use Rattle.meta_server.specs.declared.answers.CopyWhat.TheVariants.{Victim}
use Rattle.meta_server.specs.Beginning.{copy_begins, copy_begins_file, merge_alone, merge_begins, merge_fits, merge_leased, merge_readable}
use Rattle.meta_server.specs.Files.{File, MetaView, file_named}
use Rattle.meta_server.specs.Layouts.{offline_byte}
use Rattle.meta_server.specs.Outcomes.{Gives, Refuses, Waits, refusal_of}
use Rattle.meta_server.specs.Outcomes as meta
use Rattle.call_steps.specs.Servers.{Servers}
use Rattle.resync_copy.specs.Calls.{CopyView}
use Rattle.resync_copy.specs.Copies.{new_copy}
use Rattle.resync_copy.specs.Steps.{begins, copy_step}
use Rattle.flr_claims.specs.Refusals.{busy, merge_refusal, refusal_for, victim_refusal}
use Rattle.flr_asked.specs.CallRuns.{FixesAnswer}

-- ---- a begin of two files

-- it begins on both, or is refused with this
abbrev pub BeginsBoth : Option Reply → meta.Outcome Begun → Type 0
BeginsBoth refusal (Gives begun_as.Nothing after) = ⊥
BeginsBoth refusal (Gives (begun_as.Copy side ids) after) = ⊥
BeginsBoth refusal (Gives (begun_as.Merge ours theirs) after) = Unit {0}
BeginsBoth refusal (Refuses answer) = refusal ≡ Some answer
BeginsBoth refusal (Waits holder) = Unit {0}

module _ (client : ℕ) (m : MetaView) (name victim : List ℕ) where
  -- nobody is leased, and somebody may answer each byte
  alone_both : (refusal : Option Reply) (f v : File) (a b : Option ℕ) → BeginsBoth refusal (merge_alone client m f v a b)
  alone_both refusal f v (Some holder) b = tt
  alone_both refusal f v None (Some holder) = tt
  alone_both refusal f v None None = tt

  -- nobody may answer some byte, or all may be answered
  readable_both : (f v : File) (a b : Option ℕ) → BeginsBoth (option_or (option_map reply.AllOffline a) (option_map reply.AllOffline b)) (merge_readable client m f v a b)
  readable_both f v (Some byte) b = refl
  readable_both f v None (Some byte) = refl
  readable_both f v None None = alone_both None f v (lowest_but client f.lock) (lowest_but client v.lock)

  -- the refusal where nobody may
  abbrev unreadable : File → File → Option Reply
  unreadable f v = option_or (option_map reply.AllOffline (offline_byte f.layout)) (option_map reply.AllOffline (offline_byte v.layout))

  -- a file is leased, or none
  leased_both : (f v : File) (a b : Option ℕ) → BeginsBoth (option_or (option_map reply.Busy a) (option_or (option_map reply.Busy b) (unreadable f v))) (merge_leased client m f v a b)
  leased_both f v (Some holder) b = refl
  leased_both f v None (Some holder) = refl
  leased_both f v None None = readable_both f v (offline_byte f.layout) (offline_byte v.layout)

  -- the mirrors are too many, or fit
  fits_both : (f v : File) (o : Option StateError) → BeginsBoth (option_or (option_map refusal_of o) (option_or (busy m f) (option_or (busy m v) (unreadable f v)))) (merge_fits client m f v o)
  fits_both f v (Some error) = refl
  fits_both f v None = leased_both f v (holder_of m.leases f.number) (holder_of m.leases v.number)

  -- the victim is there, or not
  victim_both : (f : File) (o : Option File) → BeginsBoth (victim_refusal victim m f o) (merge_begins client m victim f o)
  victim_both f None = refl
  victim_both f (Some v) = fits_both f v (excess f.layout (length (mirror_ids v.layout.components)) (length v.layout.components) m.most)

  -- the file is there, or not
  file_both : (o : Option File) → BeginsBoth (merge_refusal name victim m o) (copy_begins_file client m name (Victim victim) o)
  file_both None = refl
  file_both (Some f) = victim_both f (file_named victim m.files)

  -- an extend by a victim begins so
  pub begins_both : BeginsBoth (merge_refusal name victim m (file_named name m.files)) (copy_begins client name (Victim victim) m)
  begins_both = file_both (file_named name m.files)

-- ---- an answer there

module _ (client place : ℕ) (s : Servers) (name victim : List ℕ) (answer : Reply) (takes : List Take) where
  -- the command
  abbrev asked : Command
  asked = command.Lfs (lfs.ExtendBy name victim)

  -- its call
  abbrev call : CopyView
  call = new_copy client name (Victim victim)

  -- by what the begin comes to
  refused_by : (o : meta.Outcome Begun) → BeginsBoth (refusal_for asked s) o → FixesAnswer (begins call s o) answer takes → (refusal_for asked s ≡ Some answer) × (takes ≡ [])
  refused_by (Gives begun_as.Nothing after) both fixes = absurd both
  refused_by (Gives (begun_as.Copy side ids) after) both fixes = absurd both
  refused_by (Gives (begun_as.Merge ours theirs) after) both fixes = absurd fixes
  refused_by (Refuses refusal) both fixes = (both ∙ ap (λ (r : Reply). Some r) fixes.0, sym fixes.1)
  refused_by (Waits holder) both fixes = absurd fixes

  -- where the first step answers, it is the refusal
  pub refused_so : FixesAnswer (copy_step call place s) answer takes → (refusal_for asked s ≡ Some answer) × (takes ≡ [])
  refused_so fixes = refused_by (copy_begins client name (Victim victim) s.meta) (begins_both client s.meta name victim) fixes
