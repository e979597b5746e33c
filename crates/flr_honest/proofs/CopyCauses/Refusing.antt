-- With what the begin of a copy of one file is refused.
use Rattle.std.proofs.Common.{◌≡◌, ℕ, Bool, true, false, ◌==◌, List, length, refl}
use Rattle.std.specs.Prelude.{Option, Some, None, option_map}
use Rattle.std.specs.Option.{option_or}
use Rattle.flr_base.specs.declared.reply.Reply.{Reply}
use Rattle.flr_base.specs.declared.reply.Reply.TheVariants as reply
use Rattle.composite_layout.specs.declared.spec.MirrorSpec.{MirrorSpec}
use Rattle.composite_layout.specs.Making.{part_count}
use Rattle.layout_lease.specs.Leases.{holder_of}
use Rattle.layout_lease.specs.Shares.{lowest_but}
use Rattle.layout_state.specs.declared.error.StateError.{StateError}
use Rattle.layout_state.specs.Mirroring.{excess}
use Rattle.layout_state.specs.Selecting.{absent_of, selected_of}
use Rattle.meta_server.specs.Beginning as begin
use Rattle.meta_server.specs.declared.answers.CopyWhat.{CopyWhat}
use Rattle.meta_server.specs.declared.answers.CopyWhat.TheVariants as what
use Rattle.meta_server.specs.Files.{File, MetaView, file_named}
use Rattle.meta_server.specs.Layouts.{extended, new_ids}
use Rattle.meta_server.specs.Outcomes.{Gives, Refuses, Waits, refusal_of}
use Rattle.meta_server.specs.Outcomes as meta
use Rattle.call_steps.specs.Servers.{Servers}
use Rattle.flr_claims.specs.Refusals.{busy, extend_refusal, refusal_for, resync_refusal}
use Rattle.flr_honest.specs.Legal.Sentences.{TakesInNone}
use Rattle.flr_honest.specs.CopyCauses.Sentences.{command_for}

-- the begin isn't refused
abbrev pub NotRefused : {A : Type 0} → meta.Outcome A → Type 0
NotRefused (Gives given after) = Unit {0}
NotRefused (Refuses answer) = ⊥
NotRefused (Waits holder) = Unit {0}

-- it is refused exactly so
abbrev pub ByMeta : {A : Type 0} → Option Reply → meta.Outcome A → Type 0
ByMeta (Some answer) o = o ≡ Refuses answer
ByMeta None o = NotRefused o

module _ (client : ℕ) (m : MetaView) where
  resync_by_holder : (f : File) (ids : List ℕ) (o : Option ℕ) → NotRefused (begin.resync_alone client m f ids o)
  resync_by_holder f ids (Some holder) = tt
  resync_by_holder f ids None = tt

  resync_by_wanted : (f : File) (ids : List ℕ) (b : Bool) → NotRefused (begin.resync_wanted client m f ids b)
  resync_by_wanted f ids true = tt
  resync_by_wanted f ids false = resync_by_holder f ids (lowest_but client f.lock)

  resync_by_lease : (only : Option (List ℕ)) (f : File) (o : Option ℕ) → ByMeta (option_map reply.Busy o) (begin.resync_leased client m only f o)
  resync_by_lease only f (Some holder) = refl
  resync_by_lease only f None = let ids = selected_of only f.layout.components in resync_by_wanted f ids (length ids == 0)

  resync_by_mirror : (only : Option (List ℕ)) (f : File) (o : Option ℕ) → ByMeta (option_or (option_map reply.NoMirrorId o) (busy m f)) (begin.resync_begins client m only f o)
  resync_by_mirror only f (Some id) = refl
  resync_by_mirror only f None = resync_by_lease only f (holder_of m.leases f.number)

  resync_by : (name : List ℕ) (only : Option (List ℕ)) (o : Option File) → ByMeta (resync_refusal name only m o) (begin.copy_begins_file client m name (what.Resync only) o)
  resync_by name only None = refl
  resync_by name only (Some f) = resync_by_mirror only f (absent_of only f.layout.components)

  extend_by_wanted : (f : File) (ids : List ℕ) (b : Bool) → NotRefused (begin.extend_wanted client m f ids b)
  extend_by_wanted f ids true = tt
  extend_by_wanted f ids false = tt

  extend_by_holder : (mirrors : List MirrorSpec) (f : File) (o : Option ℕ) → NotRefused (begin.extend_alone client m mirrors f o)
  extend_by_holder mirrors f (Some holder) = tt
  extend_by_holder mirrors f None =
      let layout = extended mirrors (length m.nexts) f.layout in
      let ids = selected_of (Some (new_ids mirrors f.layout)) layout.components in
      extend_by_wanted (record f { layout = layout }) ids (length ids == 0)

  extend_by_lease : (mirrors : List MirrorSpec) (f : File) (o : Option ℕ) → ByMeta (option_map reply.Busy o) (begin.extend_leased client m mirrors f o)
  extend_by_lease mirrors f (Some holder) = refl
  extend_by_lease mirrors f None = extend_by_holder mirrors f (lowest_but client f.lock)

  extend_by_room : (mirrors : List MirrorSpec) (f : File) (o : Option StateError) → ByMeta (option_or (option_map refusal_of o) (busy m f)) (begin.extend_begins client m mirrors f o)
  extend_by_room mirrors f (Some error) = refl
  extend_by_room mirrors f None = extend_by_lease mirrors f (holder_of m.leases f.number)

  extend_by : (name : List ℕ) (mirrors : List MirrorSpec) (o : Option File) → ByMeta (extend_refusal name mirrors m o) (begin.copy_begins_file client m name (what.Extend mirrors) o)
  extend_by name mirrors None = refl
  extend_by name mirrors (Some f) = extend_by_room mirrors f (excess f.layout (length mirrors) (part_count mirrors) m.most)

-- a copy of one file is refused for what the claims say
pub refused_so : (client : ℕ) (s : Servers) (name : List ℕ) (w : CopyWhat) → TakesInNone w → ByMeta (refusal_for (command_for name w) s) (begin.copy_begins client name w s.meta)
refused_so client s name (what.Resync only) none = resync_by client s.meta name only (file_named name s.meta.files)
refused_so client s name (what.Extend mirrors) none = extend_by client s.meta name mirrors (file_named name s.meta.files)
refused_so client s name (what.Victim victim) none = absurd none
