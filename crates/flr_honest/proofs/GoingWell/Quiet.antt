-- In a quiet script no component of any file is offline, and nobody is evicted.
use Rattle.std.proofs.Common.{◌≡◌, ℕ, zero, suc, ◌+◌, ◌-◌, ◌≤◌, ◌<◌, Option, Some, None, List, [], ◌∷◌, length, take, slice_get, ◌⊎◌, inl, inr, refl, sym, ap, subst, ◌∙◌, arith}
use Rattle.std.specs.List.{AllByRecursion, slice_index_or}
use Rattle.std.proofs.Math.Seq.{take-length}
use Rattle.composite_layout.specs.declared.spec.MirrorSpec.{MirrorSpec}
use Rattle.composite_layout.specs.Layouts.{Composite}
use Rattle.layout_state.specs.Selecting.{selected_of}
use Rattle.lfs_words.specs.declared.command.LfsCommand.{LfsCommand}
use Rattle.lfs_words.specs.declared.command.LfsCommand.TheVariants as lfs
use Rattle.lfs_words.specs.declared.command.SplitTo.{SplitTo}
use Rattle.lfs_words.specs.declared.command.SplitTo.TheVariants as split
use Rattle.script_values.specs.declared.command.Command.{Command}
use Rattle.script_values.specs.declared.command.Command.TheVariants as command
use Rattle.script_values.specs.Scripts.{ScriptView, command_after, commands_of}
use Rattle.meta_server.specs.Files.{File, MetaView, file_named, file_of}
use Rattle.meta_server.specs.Layouts.{begun, extended, finished, new_ids}
use Rattle.meta_server.specs.Sound.{IsSound}
use Rattle.meta_laws.proofs.Copies.{there_named}
use Rattle.lfs_words.specs.Naming.{default_name}
use Rattle.flr_steps.specs.Runs.{IsPlace}
use Rattle.flr_steps.specs.States.{IsRun, State, after, start, state_at}
use Rattle.flr_steps.specs.Steps.{StepIs}
use Rattle.flr_steps.proofs.Fronts.{each_place_is, each_run_keeps, fronts_are_runs}
use Rattle.flr_steps.proofs.Inversion.{step_is}
use Rattle.flr_runs.proofs.Runs as runs
use Rattle.flr_claims.specs.Asked.{range_of}
use Rattle.flr_claims.specs.Calls.{IsStepAt}
use Rattle.flr_claims.specs.Completeness.{IsHarmless, IsQuiet}
use Rattle.flr_claims.specs.Steps.{ChangesFiles, IsChangeBy, IsExtended, IsKeptOrChanged, IsMadeBy, IsPartOf, IsSplitTo}
use Rattle.flr_honest.proofs.Changes.Files.{runs_change_their_files}
use Rattle.flr_honest.proofs.GoingWell.Online.{AreOnline, begun_online, extended_online, finished_online, flagged_online, intended_online, lessened_online, made_layout, merged_online, split_online}

-- ---- harmless commands

-- what is so of all is so of the one at a place
all_get : {X : Type 0} (P : X → Type 0) (xs : List X) (i : ℕ) (x : X) → slice_get xs i ≡ Some x → AllByRecursion P xs → P x
all_get P [] i x e h = absurd (cc)
all_get P (y ∷ ys) zero x e h = let same : y ≡ x = cc in subst P same h.0
all_get P (y ∷ ys) (suc i) x e h = all_get P ys i x e h.1

-- or of what stands for it
all_or : {X : Type 0} (P : X → Type 0) (xs : List X) (i : ℕ) (d : X) → P d → AllByRecursion P xs → P (slice_index_or xs i d)
all_or P [] i d base h = base
all_or P (y ∷ ys) zero d base h = h.0
all_or P (y ∷ ys) (suc i) d base h = all_or P ys i d base h.1

-- each command of a quiet script is harmless
pub is_harmless : (script : ScriptView) (c done : ℕ) (asked : Command) → IsQuiet script → command_after script c done ≡ Some asked → IsHarmless asked
is_harmless script c done asked h e =
    all_get IsHarmless (commands_of script c) done asked e (all_or (AllByRecursion IsHarmless) script.clients (c - 1) [] tt h.commands)

-- ---- a step of such a command

-- no component of these files is offline
abbrev pub AreFilesOnline : List File → Type 0
AreFilesOnline files = (n : ℕ) (f : File) → file_of n files ≡ Some f → AreOnline f.layout.components

-- so is this layout, which is one of those
moved : (l new : Composite) → new ≡ l → AreOnline l.components → AreOnline new.components
moved l new is h = subst (λ (x : Composite). AreOnline x.components) (sym is) h

module _ (m : MetaView) (sound : IsSound m) (all : AreFilesOnline m.files) where
  -- the files of names are so
  named_online : (name : List ℕ) (f : File) → file_named name m.files ≡ Some f → AreOnline f.layout.components
  named_online name f e = all f.number f (there_named m sound name f e)

  module _ (f : File) (new : Composite) (h : AreOnline f.layout.components) where
    extended_so : (spec : List MirrorSpec) (added : Composite) (ids : List ℕ) → AreOnline added.components → IsExtended m f new spec added ids
        → AreOnline new.components
    extended_so spec added [] k is = moved added new is k
    extended_so spec added (id ∷ ids) k is = moved (begun (id ∷ ids) f.number m.nexts added) new is (begun_online added k (id ∷ ids) f.number m.nexts)

    resynced_so : (ids : List ℕ) → (new ≡ begun ids f.number m.nexts f.layout) ⊎ ((cleared : List ℕ) × (new ≡ finished cleared f.layout))
        → AreOnline new.components
    resynced_so ids (inl is) = moved _ new is (begun_online f.layout h ids f.number m.nexts)
    resynced_so ids (inr end) = moved _ new end.1 (finished_online f.layout h end.0)

    changed_lfs : (of : LfsCommand) → IsHarmless (command.Lfs of) → IsChangeBy m f new (command.Lfs of) → AreOnline new.components
    changed_lfs (lfs.SetStripe name spec) harmless change = absurd change
    changed_lfs (lfs.GetStripe name) harmless change = absurd change
    changed_lfs (lfs.CompSet name id change) harmless is = moved _ new is (flagged_online f.layout h id change harmless)
    changed_lfs (lfs.Create name spec) harmless change = absurd change
    changed_lfs (lfs.Extend name spec) harmless (inl is) =
        extended_so spec (extended spec (length m.nexts) f.layout) (selected_of (Some (new_ids spec f.layout)) (extended spec (length m.nexts) f.layout).components) (extended_online f.layout h spec (length m.nexts)) is
    changed_lfs (lfs.Extend name spec) harmless (inr end) = moved _ new end.1 (finished_online f.layout h end.0)
    changed_lfs (lfs.ExtendBy name victim) harmless (inl is) = moved _ new is (begun_online f.layout h [] f.number m.nexts)
    changed_lfs (lfs.ExtendBy name victim) harmless (inr taken) =
        moved _ new taken.3 (merged_online f.layout h taken.0.layout (named_online victim taken.0 taken.2))
    changed_lfs (lfs.Split name mirror to) harmless is = moved _ new is (lessened_online f.layout h mirror)
    changed_lfs (lfs.Delete name mirror) harmless is = moved _ new is (lessened_online f.layout h mirror)
    changed_lfs (lfs.Resync name only) harmless is = resynced_so (selected_of only f.layout.components) is
    changed_lfs (lfs.Verify name) harmless change = absurd change

    changed_so : (asked : Command) → IsHarmless asked → IsChangeBy m f new asked → AreOnline new.components
    changed_so (command.Read name offset len) harmless change = absurd change
    changed_so (command.Write name offset bytes) harmless change =
        moved _ new change.3 (intended_online f.layout h (range_of (command.Write name offset bytes)) change.0 f.number m.nexts)
    changed_so (command.Truncate name size) harmless change =
        moved _ new change.3 (intended_online f.layout h (range_of (command.Truncate name size)) change.0 f.number m.nexts)
    changed_so (command.Lfs of) harmless change = changed_lfs of harmless change
    changed_so (command.Evict client) harmless change = absurd change
    changed_so (command.Rot object offset byte) harmless change = absurd change

  -- a file that was there
  kept_so : (asked : Command) → IsHarmless asked → (f g : File) → AreOnline f.layout.components → IsKeptOrChanged m asked f g → AreOnline g.layout.components
  kept_so asked harmless f g h (inl same) = moved f.layout g.layout same h
  kept_so asked harmless f g h (inr change) = changed_so f g.layout h asked harmless change.1

  -- a file that is split off
  part_so : (g : File) (name : List ℕ) (mirror : ℕ) (to : List ℕ) → IsPartOf m g name mirror to → AreOnline g.layout.components
  part_so g name mirror to is = moved _ g.layout is.4 (split_online is.0.layout (named_online name is.0 is.1) mirror)

  -- by any of the ways to split
  split_so : (g : File) (name : List ℕ) (mirror : ℕ) (to : SplitTo) → IsSplitTo m g name mirror to → AreOnline g.layout.components
  split_so g name mirror split.Default is = part_so g name mirror (default_name name mirror) is
  split_so g name mirror (split.Named to) is = part_so g name mirror to is
  split_so g name mirror split.Destroy is = absurd is

  -- a file that comes by a command of `lfs`
  made_lfs : (g : File) (of : LfsCommand) → IsMadeBy m g (command.Lfs of) → AreOnline g.layout.components
  made_lfs g (lfs.SetStripe name spec) made = moved _ g.layout made.1.2 (made_layout spec (length m.nexts))
  made_lfs g (lfs.GetStripe name) made = absurd made.1
  made_lfs g (lfs.CompSet name id change) made = absurd made.1
  made_lfs g (lfs.Create name spec) made = moved _ g.layout made.1.2 (made_layout spec (length m.nexts))
  made_lfs g (lfs.Extend name spec) made = absurd made.1
  made_lfs g (lfs.ExtendBy name victim) made = absurd made.1
  made_lfs g (lfs.Split name mirror to) made = split_so g name mirror to made.1
  made_lfs g (lfs.Delete name mirror) made = absurd made.1
  made_lfs g (lfs.Resync name only) made = absurd made.1
  made_lfs g (lfs.Verify name) made = absurd made.1

  -- by any command
  made_so : (g : File) (asked : Command) → IsMadeBy m g asked → AreOnline g.layout.components
  made_so g (command.Read name offset len) made = absurd made
  made_so g (command.Write name offset bytes) made = absurd made
  made_so g (command.Truncate name size) made = absurd made
  made_so g (command.Lfs of) made = made_lfs g of made
  made_so g (command.Evict client) made = absurd made
  made_so g (command.Rot object offset byte) made = absurd made

-- a step of a harmless command takes no component offline
step_online : (old new : State) (c : ℕ) (step : StepIs old c new) → IsSound old.shared.meta → ChangesFiles old c new step → IsHarmless step.asked
    → AreFilesOnline old.shared.meta.files → AreFilesOnline new.shared.meta.files
step_online old new c step sound changes harmless all n g e = by (file_of n old.shared.meta.files) refl
  where
    by : (o : Option File) → file_of n old.shared.meta.files ≡ o → AreOnline g.layout.components
    by None was = made_so old.shared.meta sound all g step.asked (changes.made n g e was)
    by (Some f) was = kept_so old.shared.meta sound all step.asked harmless f g (all n f was) (changes.kept n f g was e).1

-- ---- runs

-- there is something at each place of a list
got_at : {A : Type 0} (xs : List A) (i : ℕ) → i < length xs → (x : A) × (slice_get xs i ≡ Some x)
got_at [] i low = absurd (omega (arith, low))
got_at (x ∷ xs) zero low = (x, refl)
got_at (x ∷ xs) (suc i) low = got_at xs i (omega (arith, low))

module _ (last : State) (run : IsRun last) where
  -- each place of a run is a step of it
  step_at : (k : ℕ) → k < length last.schedule → IsStepAt last (suc k)
  step_at k within =
      let there = got_at last.schedule k within in
      let is : IsPlace (start last.script) last.schedule k there.0 = each_place_is (start last.script) last last.schedule k there.0 run.run there.1 in
      record {
        old = is.old;
        old_is = ap (state_at last.script last.schedule) (let n : suc k - 1 ≡ k = omega arith in n) ∙ is.old_is;
        new = is.new;
        new_is = ap (λ (n : ℕ). after (start last.script) (take n last.schedule)) (let n : suc k ≡ k + 1 = omega arith in n) ∙ is.new_is;
        client = there.0;
        step = step_is is.old is.new there.0 is.made;
      }

  module _ (quiet : IsQuiet last.script) where
    online_at : (k : ℕ) → k ≤ length last.schedule → (t : State) → state_at last.script last.schedule k ≡ Some t → AreFilesOnline t.shared.meta.files
    online_at zero within t is = λ n f e. (
        let same : start last.script ≡ t = cc in
        let none : file_of n (start last.script).shared.meta.files ≡ Some f = ap (λ (x : State). file_of n x.shared.meta.files) same ∙ e in
        absurd (cc none)
        )
    online_at (suc k) within t is =
        let at : IsStepAt last (suc k) = step_at k (omega (arith, within)) in
        let same : at.new ≡ t = (let both = sym at.new_is ∙ is in cc) in
        let old : IsRun at.old = fronts_are_runs last at.old (suc k - 1) run at.old_is in
        let script : at.old.script ≡ last.script = (each_run_keeps (start last.script) at.old (take (suc k - 1) last.schedule) at.old_is).script in
        let was : state_at last.script last.schedule k ≡ Some at.old = ap (state_at last.script last.schedule) (let n : k ≡ suc k - 1 = omega arith in n) ∙ at.old_is in
        let harmless : IsHarmless at.step.asked = is_harmless at.old.script at.client at.step.client.done at.step.asked (subst IsQuiet (sym script) quiet) at.step.commanded in
        subst (λ (x : State). AreFilesOnline x.shared.meta.files) same
        (step_online at.old at.new at.client at.step (runs.all_hold at.old old).servers.sound (runs_change_their_files last run (suc k) at) harmless (online_at k (omega (arith, within)) at.old was))

    -- in a quiet script's run no component is offline
    pub runs_online : AreFilesOnline last.shared.meta.files
    runs_online = online_at (length last.schedule) (omega arith) last (ap (after (start last.script)) (take-length last.schedule) ∙ run.run)

    -- and nobody is evicted
    pub none_evicted : (place client : ℕ) (at : IsStepAt last place) → at.step.asked ≡ command.Evict client → ⊥
    none_evicted place client at is =
        let script : at.old.script ≡ last.script = (each_run_keeps (start last.script) at.old (take (place - 1) last.schedule) at.old_is).script in
        subst IsHarmless is (is_harmless at.old.script at.client at.step.client.done at.step.asked (subst IsQuiet (sym script) quiet) at.step.commanded)
