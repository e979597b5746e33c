-- With what reads, writes, truncates and resyncs are refused where no component is offline.
use Rattle.std.proofs.Common.{◌≡◌, ℕ, ◌≤◌, Bool, true, false, not, ◌&&◌, Option, Some, None, List, [], refl, sym, ap, subst, ◌∙◌}
use Rattle.std.specs.Prelude.{is_none, option_map}
use Rattle.std.specs.Option.{option_or}
use Rattle.flr_base.specs.declared.reply.Range.{Range}
use Rattle.flr_base.specs.declared.reply.Reply.{Reply}
use Rattle.flr_base.specs.declared.reply.Reply.TheVariants as reply
use Rattle.composite_layout.specs.Choices.{is_ready}
use Rattle.composite_layout.specs.Layouts.{eof}
use Rattle.layout_lease.specs.Leases.{holder_of}
use Rattle.layout_state.specs.Choosing.{primary_of}
use Rattle.layout_state.specs.Selecting.{absent_of}
use Rattle.meta_server.specs.Files.{File, MetaView, file_named}
use Rattle.meta_server.specs.Sound.{IsSound}
use Rattle.meta_laws.proofs.Copies.{sound_named, there_named}
use Rattle.mirror_select.specs.Pieces.{first_without}
use Rattle.flr_claims.specs.Completeness.{IsCopiedWell, IsReadWell}
use Rattle.flr_claims.specs.Refusals.{change_refusal, read_refusal, refused_if, resync_refusal}
use Rattle.flr_honest.proofs.GoingWell.Quiet.{AreFilesOnline}
use Rattle.flr_honest.proofs.GoingWell.Ready.{all_may_be_read, primary_there}

-- what is so of an answer is so of the same
answer_so : (W : Reply → Type 0) (a b : Reply) → Some a ≡ Some b → W a → W b
answer_so W a b e h = let same : a ≡ b = cc in subst W same h

-- there is no answer where there is none
no_answer : (W : Reply → Type 0) (answer : Reply) → None ≡ Some answer → W answer
no_answer W answer e = absurd (cc e)

module _ (m : MetaView) (sound : IsSound m) (all : AreFilesOnline m.files) where
  -- a read is refused only where its file isn't there
  pub read_refused : (name : List ℕ) (range : Range) (answer : Reply) → range.end ≤ eof → read_refusal name range (file_named name m.files) ≡ Some answer
      → IsReadWell answer
  read_refused name range answer low refused = by (file_named name m.files) refl refused
    where
      by : (o : Option File) → file_named name m.files ≡ o → read_refusal name range o ≡ Some answer → IsReadWell answer
      by None e h = answer_so IsReadWell (reply.NoFile name) answer h tt
      by (Some f) e h =
          let none : first_without f.layout.components range.start range.end [] ≡ None = all_may_be_read f.layout (sound_named m sound name f e).layout (all f.number f (there_named m sound name f e)) range.start range.end low in
          no_answer IsReadWell answer (sym (ap (λ (x : Option ℕ). option_map reply.AllOffline x) none) ∙ h)

  -- a write or a truncate only where its file isn't there or would be too big
  pub change_refused : (W : Reply → Type 0) (name : List ℕ) (range : Range) (too_big : Bool) (answer : Reply) → W (reply.NoFile name) → W reply.TooBig
      → change_refusal name range too_big (file_named name m.files) ≡ Some answer → W answer
  change_refused W name range too_big answer absent big refused = by (file_named name m.files) refl too_big refused
    where
      primary : (f : File) → file_named name m.files ≡ Some f → (o : Option ℕ) → primary_of range f.layout.components ≡ o → (ready : Bool)
          → refused_if (not ready && is_none o) (reply.NoPrimary range) ≡ Some answer → W answer
      primary f e None none ready h =
          absurd (primary_there f.layout (sound_named m sound name f e).layout (all f.number f (there_named m sound name f e)) range none)
      primary f e (Some mirror) is true h = no_answer W answer h
      primary f e (Some mirror) is false h = no_answer W answer h

      by : (o : Option File) → file_named name m.files ≡ o → (b : Bool) → change_refusal name range b o ≡ Some answer → W answer
      by None e b h = answer_so W (reply.NoFile name) answer h absent
      by (Some f) e true h = answer_so W reply.TooBig answer h big
      by (Some f) e false h = primary f e (primary_of range f.layout.components) refl (is_ready f.layout range) h

-- a resync is refused only where its file isn't there, a mirror that it names isn't, or the file is busy
pub resync_refused : (name : List ℕ) (only : Option (List ℕ)) (m : MetaView) (o : Option File) (answer : Reply)
    → resync_refusal name only m o ≡ Some answer → IsCopiedWell answer
resync_refused name only m None answer h = answer_so IsCopiedWell (reply.NoFile name) answer h tt
resync_refused name only m (Some f) answer h = by (absent_of only f.layout.components) (holder_of m.leases f.number) h
  where
    by : (absent holder : Option ℕ) → option_or (option_map reply.NoMirrorId absent) (option_map reply.Busy holder) ≡ Some answer → IsCopiedWell answer
    by (Some id) holder e = answer_so IsCopiedWell (reply.NoMirrorId id) answer e tt
    by None (Some other) e = answer_so IsCopiedWell (reply.Busy other) answer e tt
    by None None e = no_answer IsCopiedWell answer e
