-- Each call that a step makes for its command makes of each file what the command is for.
use Rattle.std.proofs.Common.{◌≡◌, ℕ, Bool, true, false, nat_lt, Option, Some, None, List, [], ◌∷◌, ◌++◌, length, ◌⊎◌, inl, inr, refl, sym, ap, subst, ◌∙◌}
use Rattle.std.specs.Prelude.{Contains}
use Rattle.flr_base.specs.declared.reply.Range.{Range}
use Rattle.flr_base.specs.Limits.{most_bytes}
use Rattle.composite_layout.specs.declared.spec.MirrorSpec.{MirrorSpec}
use Rattle.composite_layout.specs.Choices.{is_ready}
use Rattle.composite_layout.specs.FlagChanges.{FlagSets}
use Rattle.composite_layout.specs.Layouts.{Composite, eof}
use Rattle.composite_layout.specs.Making.{new_layout}
use Rattle.layout_lease.specs.declared.shared.Share.{Share}
use Rattle.layout_lease.specs.Leases.{KeyView}
use Rattle.layout_state.specs.Choosing.{primary_of}
use Rattle.layout_state.specs.Selecting.{selected_of}
use Rattle.lfs_words.specs.declared.command.LfsCommand.{LfsCommand}
use Rattle.lfs_words.specs.declared.command.LfsCommand.TheVariants as lfs
use Rattle.lfs_words.specs.declared.command.SplitTo.TheVariants as split
use Rattle.script_values.specs.declared.command.Command.{Command}
use Rattle.script_values.specs.declared.command.Command.TheVariants as command
use Rattle.meta_server.specs.declared.answers.CopyWhat.{CopyWhat}
use Rattle.meta_server.specs.declared.answers.CopyWhat.TheVariants.{Resync, Extend, Victim}
use Rattle.meta_server.specs.Closing.{grown, holds, shortened}
use Rattle.meta_server.specs.Conditions.{IsCopyOf}
use Rattle.meta_server.specs.Files.{File, MetaView, changed, file_named, file_of, new_file, with_evicted, with_freed, with_layout, with_share}
use Rattle.meta_server.specs.Layouts.{begun, extended, finished, flagged, intended, lessened, merged, new_ids, nexts_over, split_off}
use Rattle.layout_state.specs.Marking.{is_named}
use Rattle.meta_server.specs.Opening.{change_opens_file}
use Rattle.meta_server.specs.Sound.{IsSound}
use Rattle.meta_server.proofs.Going.{name_found}
use Rattle.meta_server.proofs.Placing.{number_found}
use Rattle.meta_laws.specs.Calls.{Call, OpenRead, OpenWrite, OpenCut, Free, Confirm, Commit, Cut, BeginCopy, CopyDone, MergeDone, GiveUp, Create, Remove, Set, Evict, after_call, confirmed, left_by}
use Rattle.meta_laws.proofs.Cases.{create_cases, end_cases, merge_cases, read_cases, set_cases}
use Rattle.meta_laws.proofs.Copies.{there_named}
use Rattle.meta_laws.proofs.Explaining.{none_next}
use Rattle.resync_copy.specs.declared.merge_phase.MergeStage.TheVariants as merge
use Rattle.resync_copy.specs.declared.phase.CopyAt.{CopyAt}
use Rattle.resync_copy.specs.declared.phase.CopyAt.TheVariants as at
use Rattle.flr_steps.specs.declared.client.Running.{Running}
use Rattle.flr_shapes.proofs.Calls.{apart}
use Rattle.flr_claims.specs.Asked.{range_of}
use Rattle.flr_claims.specs.Steps.{IsChangeBy, IsMadeBy, IsTakenIn, files_of}
use Rattle.flr_bytes.specs.Victims.{CopyHas, HasVictim, IsNamed}
use Rattle.flr_honest.specs.Legal.Sentences.{IsOfItsFile, KnowsItsFile, TakesInNone}
use Rattle.flr_honest.proofs.Legal.Asked.{lfs_for}
use Rattle.flr_honest.proofs.Changes.Asking.{EndsCopy, EndsMerge, IsAskedFor, IsRemove}
use Rattle.flr_honest.proofs.Changes.Becoming.{Becomes, Gone, Made, added_alone, added_begun, becomes, begun_none, ends, first_of, idle, keeps, named_numbered, second_of}
use Rattle.flr_honest.proofs.Changes.Cases.{begin_cases, open_cases, remove_cases}
use Rattle.flr_honest.proofs.Changes.Staying.{begun_as, extended_as, extended_begun_as, flagged_as, intended_as, lessened_as, merged_has}
use Rattle.flr_honest.proofs.Changes.Turning as turning

module _ (m : MetaView) (sound : IsSound m) (asked : Command) (c : ℕ) (call : Running) where
  abbrev Comes : File → Type 0
  Comes = Made m asked c call

  abbrev Turns : File → File → Type 0
  Turns = Becomes m asked c call

  abbrev Goes : File → Type 0
  Goes = Gone m asked c call

  abbrev rests : (f : File) → Turns f f
  rests = idle m asked c call

  -- so it is of each file
  abbrev pub AllBecome : List File → Type 0
  AllBecome new = turning.AllTurn Comes Turns Goes rests m.files new

  pub all_same : AllBecome m.files
  all_same = turning.all_stay Comes Turns Goes rests m.files

  -- the lock of a file changes, or its size
  locked : (n : ℕ) (h : File → File) → ((f : File) → (h f).number ≡ f.number) → ((f : File) → (h f).name ≡ f.name) → ((f : File) → (h f).layout ≡ f.layout) → AllBecome (changed n h m.files)
  locked n h numbers names layouts = turning.all_changed Comes Turns Goes rests n h m.files numbers (λ f. keeps m asked c call f (h f) (names f) (layouts f))

  -- the file of a name changes in another way
  laid : (name : List ℕ) (f : File) (l : Composite) → file_named name m.files ≡ Some f → Turns f (with_layout l f) → AllBecome (changed f.number (with_layout l) m.files)
  laid name f l e so = turning.all_laid Comes Turns Goes rests f (with_layout l) m.files (λ x. refl) (there_named m sound name f e) so

  -- the name of a file that is found by it is among those of a command that is about it
  about : (name : List ℕ) (more : List (List ℕ)) (f : File) → file_named name m.files ≡ Some f → Contains (name ∷ more) f.name
  about name more f e = first_of name f.name more (name_found name m.files f e)

  -- ---- opens

  -- what an intent for the range is to the command
  abbrev Intends : List ℕ → Range → Type 0
  Intends name range = (f : File) (mirror : ℕ) → file_named name m.files ≡ Some f → is_ready f.layout range ≡ false → primary_of range f.layout.components ≡ Some mirror
      → (a : Command) × (asked ≡ a) × Contains (files_of a) f.name × IsChangeBy m f (intended range mirror f.number m.nexts f.layout) a

  opened : (client : ℕ) (name : List ℕ) (range : Range) (step : ℕ) → Intends name range → (b : Bool) → AllBecome (left_by (change_opens_file client range step m name b (file_named name m.files)) m).files
  opened client name range step intends = open_cases (λ (x : MetaView). AllBecome x.files) client name range step m (record {
    same = all_same;
    shared = λ f e. locked f.number (with_share client) (λ x. refl) (λ x. refl) (λ x. refl);
    intended = λ f mirror e ready primary. (
        let w = intends f mirror e ready primary in
        let l : Composite = intended range mirror f.number m.nexts f.layout in
        turning.all_laid_twice Comes Turns Goes rests f (with_layout l) (with_share client) m.files (λ x. refl) (λ x. refl) (there_named m sound name f e)
        (becomes m asked c call w.0 w.1 f (with_share client (with_layout l f)) refl w.2 w.3 (inl (intended_as f.layout range mirror f.number m.nexts)))
        );
  })

  write_intends : (name : List ℕ) (range : Range) (offset : ℕ) (bytes : List ℕ) → asked ≡ command.Write name offset bytes → range ≡ range_of (command.Write name offset bytes) → Intends name range
  write_intends name range offset bytes is spans f mirror e ready primary =
      let a : Command = command.Write name offset bytes in
      (a, is, about name [] f e, (mirror, subst (λ (r : Range). is_ready f.layout r ≡ false) spans ready, subst (λ (r : Range). primary_of r f.layout.components ≡ Some mirror) spans primary, ap (λ (r : Range). intended r mirror f.number m.nexts f.layout) spans))

  cut_intends : (name : List ℕ) (size : ℕ) → asked ≡ command.Truncate name size → Intends name (record { start = size; end = eof })
  cut_intends name size is f mirror e ready primary = (command.Truncate name size, is, about name [] f e, (mirror, ready, primary, refl))

  -- ---- copies

  begun_copy : (client : ℕ) (name : List ℕ) (what : CopyWhat) → IsCopyOf name what → command.Lfs (lfs_for name what) ≡ asked → AllBecome (after_call (BeginCopy client name what) m).files
  begun_copy client name what copy asks = begin_cases (λ (x : MetaView). AllBecome x.files) client name what m (record {
    same = all_same;
    begins = λ only f is e. (
        let ids : List ℕ = selected_of only f.layout.components in
        let l : Composite = begun ids f.number m.nexts f.layout in
        laid name f l e (becomes m asked c call (command.Lfs (lfs.Resync name only)) (asking is) f (with_layout l f) refl (about name [] f e) (inl refl) (inl (begun_as f.layout ids f.number m.nexts)))
        );
    adds = λ mirrors f is e none. (
        let l : Composite = extended mirrors (length m.nexts) f.layout in
        let ids : List ℕ = selected_of (Some (new_ids mirrors f.layout)) l.components in
        laid name f l e (becomes m asked c call (command.Lfs (lfs.Extend name mirrors)) (asking is) f (with_layout l f) refl (about name [] f e) (inl (added_alone m f l mirrors l ids none refl)) (inl (extended_as f.layout mirrors (length m.nexts))))
        );
    extends = λ mirrors f is e some. (
        let added : Composite = extended mirrors (length m.nexts) f.layout in
        let ids : List ℕ = selected_of (Some (new_ids mirrors f.layout)) added.components in
        let l : Composite = begun ids f.number m.nexts added in
        laid name f l e (becomes m asked c call (command.Lfs (lfs.Extend name mirrors)) (asking is) f (with_layout l f) refl (about name [] f e) (inl (added_begun m f l mirrors added ids some refl))
        (inl (extended_begun_as f.layout mirrors (length m.nexts) ids f.number m.nexts)))
        );
    both = λ victim f v is e k. (
        let l : Composite = begun [] f.number m.nexts f.layout in
        let nexts : List ℕ = nexts_over (is_named []) f.number m.nexts f.layout in
        let u : Composite = begun [] v.number nexts v.layout in
        let a : Command = command.Lfs (lfs.ExtendBy name victim) in
        turning.all_laid_both Comes Turns Goes rests f v (with_layout l) (with_layout u) m.files (λ x. refl) (λ x. refl) (apart m sound name what copy victim f v is e k) (there_named m sound name f e) (there_named m sound victim v k)
        (becomes m asked c call a (asking is) f (with_layout l f) refl (about name (victim ∷ []) f e) (inl refl) (inl (begun_as f.layout [] f.number m.nexts)))
        (becomes m asked c call a (asking is) v (with_layout u v) refl (second_of name victim v.name (name_found victim m.files v k)) (inl (begun_none v.number nexts m.nexts v.layout)) (inl (begun_as v.layout [] v.number nexts)))
        );
  })
    where
      asking : {w : CopyWhat} → what ≡ w → asked ≡ command.Lfs (lfs_for name w)
      asking is = sym asks ∙ ap (λ (x : CopyWhat). command.Lfs (lfs_for name x)) is

  -- what a copy that ends knows of its file
  ends_on : (key : KeyView) (cleared : List ℕ) → (may : EndsCopy asked c call key cleared) → KnowsItsFile m call → IsNamed m may.copy.name key × TakesInNone may.copy.what
  ends_on key cleared may knows =
      let own : IsOfItsFile m may.copy.name may.copy.what may.copy.at = subst (KnowsItsFile m) may.copies knows in
      subst (λ (x : CopyAt). IsOfItsFile m may.copy.name may.copy.what x) may.at own

  finishes : (name : List ℕ) (what : CopyWhat) (key : KeyView) (cleared : List ℕ) (f : File) → (may : EndsCopy asked c call key cleared) → command.Lfs (lfs_for name what) ≡ asked → TakesInNone what → f.name ≡ name → f.name ≡ may.copy.name → key.file ≡ f.number
      → Turns f (with_layout (finished cleared f.layout) f)
  finishes name (Resync only) key cleared f may asks none named known own =
      ends m asked c call (command.Lfs (lfs.Resync name only)) (sym asks) f (with_layout (finished cleared f.layout) f) refl (first_of name f.name [] named) (inr (cleared, refl)) (record { key = key; cleared = cleared; ends = may; named = known; own = own; layout = refl })
  finishes name (Extend mirrors) key cleared f may asks none named known own =
      ends m asked c call (command.Lfs (lfs.Extend name mirrors)) (sym asks) f (with_layout (finished cleared f.layout) f) refl (first_of name f.name [] named) (inr (cleared, refl)) (record { key = key; cleared = cleared; ends = may; named = known; own = own; layout = refl })
  finishes name (Victim victim) key cleared f may asks none named known own = absurd none

  ended : (key : KeyView) (cleared : List ℕ) → EndsCopy asked c call key cleared → KnowsItsFile m call → AllBecome (after_call (CopyDone key cleared) m).files
  ended key cleared may knows = end_cases (λ (x : MetaView). AllBecome x.files) key cleared m (record {
    same = all_same;
    given = all_same;
    done = λ f held e. (
        let on = ends_on key cleared may knows in
        let own : f.number ≡ key.file = number_found key.file m.files f e in
        turning.all_laid Comes Turns Goes rests f (with_layout (finished cleared f.layout)) m.files (λ x. refl) (subst (λ (n : ℕ). file_of n m.files ≡ Some f) (sym own) e)
        (finishes may.copy.name may.copy.what key cleared f may may.asks on.1 (on.0.named f e) (on.0.named f e) (sym own))
        );
  })

  -- ---- a file is taken in

  merges : (name : List ℕ) (what : CopyWhat) (f v : File) (theirs : KeyView) → command.Lfs (lfs_for name what) ≡ asked → f.name ≡ name → CopyHas m what (at.Merge (merge.Done theirs theirs None)) → file_of theirs.file m.files ≡ Some v
      → Turns f (with_layout (merged v.layout f.layout) f) × IsTakenIn asked v
  merges name (Resync only) f v theirs asks named has beside = absurd has.0
  merges name (Extend mirrors) f v theirs asks named has beside = absurd has.0
  merges name (Victim victim) f v theirs asks named has beside =
      let a : Command = command.Lfs (lfs.ExtendBy name victim) in
      let theirs_is : v.name ≡ victim = has.0.named v beside in
      let found : file_named victim m.files ≡ Some v = subst (λ (n : List ℕ). file_named n m.files ≡ Some v) theirs_is (named_numbered theirs.file m.files v sound.named beside) in (
        becomes m asked c call a (sym asks) f (with_layout (merged v.layout f.layout) f) refl (first_of name f.name (victim ∷ []) named) (inr (v, named, found, refl)) (inr (λ x i. merged_has v.layout f.layout x i)),
        subst (λ (x : Command). IsTakenIn x v) asks (ap (λ (n : List ℕ). Some n) (sym theirs_is)),
      )

  taken_in : (ours theirs : KeyView) → EndsMerge asked c call ours theirs → KnowsItsFile m call → HasVictim m call → AllBecome (after_call (MergeDone ours theirs) m).files
  taken_in ours theirs may knows victims = merge_cases (λ (x : MetaView). AllBecome x.files) ours theirs m (record {
    same = all_same;
    given = all_same;
    merges = λ f v held held_too e k. (
        let own : f.number ≡ ours.file = number_found ours.file m.files f e in
        let other : v.number ≡ theirs.file = number_found theirs.file m.files v k in
        let w = merges may.copy.name may.copy.what f v theirs may.asks (on.0.named f e) has k in
        turning.all_without Comes Turns Goes rests m.files (changed f.number (with_layout (merged v.layout f.layout)) m.files) v
        (turning.all_laid Comes Turns Goes rests f (with_layout (merged v.layout f.layout)) m.files (λ x. refl) (subst (λ (n : ℕ). file_of n m.files ≡ Some f) (sym own) e) w.0)
        (subst (λ (n : ℕ). file_of n m.files ≡ Some v) (sym other) k) w.1
        );
  })
    where
      on : IsOfItsFile m may.copy.name may.copy.what (at.Merge (merge.Done ours theirs None))
      on = subst (λ (x : CopyAt). IsOfItsFile m may.copy.name may.copy.what x) may.at (subst (KnowsItsFile m) may.copies knows)

      has : CopyHas m may.copy.what (at.Merge (merge.Done ours theirs None))
      has = subst (λ (x : CopyAt). CopyHas m may.copy.what x) may.at (subst (HasVictim m) may.copies victims)

  -- ---- commands of one step

  -- the file of the next number comes
  comes : (mid : List File) (name : List ℕ) (size : ℕ) (l : Composite) → AllBecome mid → IsMadeBy m (new_file m.next_file name size l) asked → AllBecome (mid ++ new_file m.next_file name size l ∷ [])
  comes mid name size l turn made = turning.all_pushed Comes Turns Goes rests m.files mid (new_file m.next_file name size l) turn (none_next m.next_file m.files sound.below) made

  makes : (name : List ℕ) (mirrors : List MirrorSpec) → (asked ≡ command.Lfs (lfs.SetStripe name mirrors)) ⊎ (asked ≡ command.Lfs (lfs.Create name mirrors)) → AllBecome (after_call (Create name mirrors) m).files
  makes name mirrors may = create_cases (λ (x : MetaView). AllBecome x.files) name mirrors m (record {
    same = all_same;
    comes = λ absent room. comes m.files name 0 (new_layout mirrors (length m.nexts)) all_same (by may);
  })
    where
      x : File
      x = new_file m.next_file name 0 (new_layout mirrors (length m.nexts))

      by : (asked ≡ command.Lfs (lfs.SetStripe name mirrors)) ⊎ (asked ≡ command.Lfs (lfs.Create name mirrors)) → IsMadeBy m x asked
      by (inl is) = subst (IsMadeBy m x) (sym is) (refl, (refl, refl, refl))
      by (inr is) = subst (IsMadeBy m x) (sym is) (refl, (refl, refl, refl))

  -- a mirror goes
  lessens : (name : List ℕ) (mirror : ℕ) (f : File) → file_named name m.files ≡ Some f → (of : LfsCommand) → asked ≡ command.Lfs of → Contains (files_of (command.Lfs of)) f.name → IsChangeBy m f (lessened mirror f.layout) (command.Lfs of)
      → AllBecome (changed f.number (with_layout (lessened mirror f.layout)) m.files)
  lessens name mirror f e of is contains change =
      laid name f (lessened mirror f.layout) e (becomes m asked c call (command.Lfs of) is f (with_layout (lessened mirror f.layout) f) refl contains change (inl (lessened_as f.layout mirror)))

  goes : (name : List ℕ) (mirror : ℕ) (to : Option (List ℕ)) (f : File) → file_named name m.files ≡ Some f → IsRemove asked name mirror to → AllBecome (changed f.number (with_layout (lessened mirror f.layout)) m.files)
  goes name mirror None f e (inl is) = lessens name mirror f e (lfs.Delete name mirror) is (about name [] f e) refl
  goes name mirror None f e (inr is) = lessens name mirror f e (lfs.Split name mirror split.Destroy) is (about name [] f e) refl
  goes name mirror (Some to) f e (inl is) = lessens name mirror f e (lfs.Split name mirror split.Default) is.0 (about name [] f e) refl
  goes name mirror (Some to) f e (inr is) = lessens name mirror f e (lfs.Split name mirror (split.Named to)) is (about name [] f e) refl

  -- and comes as a file
  parts : (name : List ℕ) (mirror : ℕ) (to : List ℕ) (f : File) → file_named name m.files ≡ Some f → IsRemove asked name mirror (Some to) → IsMadeBy m (new_file m.next_file to f.size (split_off mirror f.layout)) asked
  parts name mirror to f e (inl is) = subst (IsMadeBy m (new_file m.next_file to f.size (split_off mirror f.layout))) (sym is.0) (refl, (f, e, is.1, refl, refl))
  parts name mirror to f e (inr is) = subst (IsMadeBy m (new_file m.next_file to f.size (split_off mirror f.layout))) (sym is) (refl, (f, e, refl, refl, refl))

  removes : (client : ℕ) (name : List ℕ) (mirror : ℕ) (to : Option (List ℕ)) (step : ℕ) → IsRemove asked name mirror to → AllBecome (after_call (Remove client name mirror to step) m).files
  removes client name mirror to step may = remove_cases (λ (x : MetaView). AllBecome x.files) client name mirror step to m (record {
    same = all_same;
    goes = λ f is e. goes name mirror to f e may;
    splits = λ new f is e. comes (changed f.number (with_layout (lessened mirror f.layout)) m.files) new f.size (split_off mirror f.layout) (goes name mirror to f e may) (parts name mirror new f e (subst (IsRemove asked name mirror) is may));
  })

  sets : (client : ℕ) (name : List ℕ) (id : ℕ) (change : FlagSets) (step : ℕ) → asked ≡ command.Lfs (lfs.CompSet name id change) → AllBecome (after_call (Set client name id change step) m).files
  sets client name id change step is = set_cases (λ (x : MetaView). AllBecome x.files) client name id change step m (record {
    same = all_same;
    marks = λ f e kept.
        laid name f (flagged id change f.layout) e (becomes m asked c call (command.Lfs (lfs.CompSet name id change)) is f (with_layout (flagged id change f.layout) f) refl (about name [] f e) refl (inl (flagged_as f.layout id change)));
  })

  confirms : (n : ℕ) (cookie : Share) (b : Bool) → AllBecome (confirmed n cookie b m).files
  confirms n cookie true = locked n (with_freed cookie) (λ x. refl) (λ x. refl) (λ x. refl)
  confirms n cookie false = all_same

  -- ---- each call

  pub call_becomes : (place : ℕ) → KnowsItsFile m call → HasVictim m call → (of : Call) → IsAskedFor asked c place call of → AllBecome (after_call of m).files
  call_becomes place knows victims (OpenRead client name) may = read_cases (λ (x : MetaView). AllBecome x.files) client name m (record { same = all_same; shared = λ f e. locked f.number (with_share client) (λ x. refl) (λ x. refl) (λ x. refl) })
  call_becomes place knows victims (OpenWrite client name range step) may = opened client name range step (write_intends name range may.offset may.bytes may.is may.spans) (nat_lt most_bytes range.end)
  call_becomes place knows victims (OpenCut client name size step) may = opened client name (record { start = size; end = eof }) step (cut_intends name size may) (nat_lt most_bytes size)
  call_becomes place knows victims (Free n cookie) may = locked n (with_freed cookie) (λ x. refl) (λ x. refl) (λ x. refl)
  call_becomes place knows victims (Confirm n cookie) may = confirms n cookie (holds n cookie m)
  call_becomes place knows victims (Commit n cookie end) may = locked n (grown cookie end) (λ x. refl) (λ x. refl) (λ x. refl)
  call_becomes place knows victims (Cut n cookie size) may = locked n (shortened cookie size) (λ x. refl) (λ x. refl) (λ x. refl)
  call_becomes place knows victims (BeginCopy client name what) may = begun_copy client name what may.1 may.2
  call_becomes place knows victims (CopyDone key cleared) may = ended key cleared may knows
  call_becomes place knows victims (MergeDone ours theirs) may = taken_in ours theirs may knows victims
  call_becomes place knows victims (GiveUp key) may = all_same
  call_becomes place knows victims (Create name mirrors) may = makes name mirrors may
  call_becomes place knows victims (Remove client name mirror to step) may = removes client name mirror to step may
  call_becomes place knows victims (Set client name id change step) may = sets client name id change step may
  call_becomes place knows victims (Evict client step) may = turning.all_evicted Comes Turns Goes rests client m.files (λ f. keeps m asked c call f (with_evicted client f) refl refl)
