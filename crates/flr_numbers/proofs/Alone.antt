-- Each command of one step.
use Rattle.std.proofs.Common.{◌≡◌, ℕ, ◌+◌, ◌≤◌, Bool, true, false, cond, Option, Some, None, List, length, refl, ◌∙◌, arith}
use Rattle.flr_base.specs.declared.reply.ObjectId.{ObjectId}
use Rattle.flr_base.specs.declared.reply.Reply.{Reply}
use Rattle.flr_base.specs.declared.reply.Reply.TheVariants as reply
use Rattle.composite_layout.specs.declared.spec.MirrorSpec.{MirrorSpec}
use Rattle.composite_layout.specs.FlagChanges.{FlagSets}
use Rattle.composite_layout.specs.Layouts.{Composite}
use Rattle.composite_layout.specs.Making.{new_layout}
use Rattle.composite_layout.specs.Specs.{IsSpec}
use Rattle.layout_lease.specs.declared.lease.KeyState.TheVariants.{Held}
use Rattle.layout_lease.specs.declared.shared.Share.{Share}
use Rattle.layout_lease.specs.Clients.{IsClient}
use Rattle.layout_lease.specs.Leases.{KeyView, broken_by, hand_of, state_of}
use Rattle.layout_lease.specs.Shares.{is_held, lowest_but}
use Rattle.layout_lease.proofs.Hands.{broken_hand, evicted_hand}
use Rattle.lfs_words.specs.declared.command.LfsCommand.{LfsCommand}
use Rattle.lfs_words.specs.declared.command.LfsCommand.TheVariants as lfs
use Rattle.lfs_words.specs.declared.command.SplitTo.{SplitTo}
use Rattle.lfs_words.specs.declared.command.SplitTo.TheVariants as split
use Rattle.lfs_words.specs.Facts.{IsSound}
use Rattle.object_target.specs.Calls.{after_rot}
use Rattle.script_values.specs.declared.command.Command.{Command}
use Rattle.script_values.specs.declared.command.Command.TheVariants as command
use Rattle.script_values.specs.Commands.{IsCommand}
use Rattle.meta_server.specs.Files.{File, MetaView, file_named, file_of, new_file, with_break, with_eviction, with_file, with_layout}
use Rattle.meta_server.specs.Layouts.{flagged, lessened, split_off}
use Rattle.meta_server.specs.Naming.{creates, removes, sets}
use Rattle.meta_server.specs.Outcomes.{Gives, Refuses, Waits}
use Rattle.meta_server.specs.Outcomes as meta
use Rattle.meta_laws.specs.Calls.{Create, Evict, Remove, Set, left_by}
use Rattle.meta_laws.proofs.Copies.{there_named}
use Rattle.meta_laws.proofs.Finding.{other_found}
use Rattle.flr_numbers.specs.Frames.{Leaves, Stands, StandsBelow}
use Rattle.flr_numbers.proofs.Coming.{create_cases, remove_cases, set_cases}
use Rattle.flr_numbers.proofs.Holding.{broken_held, covered_there}
use Rattle.flr_numbers.proofs.Leaving as leaving
use Rattle.flr_numbers.proofs.Standing.{flagged_rises, lessened_rises, none_stands, split_stands, unleased_grows}
use Rattle.call_steps.specs.Servers.{Servers, target_at}
use Rattle.lfs_words.specs.Naming.{default_name}
use Rattle.mirror_admin.specs.OneStep.{answered, one_step, shows, splits}
use Rattle.mirror_admin.specs.Rotting.{is_kept, rotted, with_rot}
use Rattle.flr_numbers.specs.Hands.{AreServers, Fine, Good, Has, HasRoom, nothing}
use Rattle.flr_numbers.proofs.Handing.{Backs, bare_has, changed_backs, evicted_backs, pushed_backs, still_none}
use Rattle.flr_numbers.proofs.Metas.{called, good_meta, good_same, good_targets}
use Rattle.flr_numbers.proofs.Objects.{rot_version}
use Rattle.flr_numbers.proofs.Serving.{Kept, kept_by}
use Rattle.flr_steps.specs.Commands.{answered_by, at_once}
use Rattle.flr_numbers.specs.Sentences.{IsCallOf}
use Rattle.flr_numbers.specs.Sentences as sentences
use Rattle.flr_numbers.proofs.Commands.{lfs_sound}

-- a call of the metadata server alone left all as it is to be
abbrev pub AnswersWell : ℕ → Servers → meta.Outcome (Unit {0}) → Type 0
AnswersWell c s (Gives given after) = Good c s nothing (record s { meta = after })
AnswersWell c s (Refuses answer) = Unit {0}
AnswersWell c s (Waits holder) = Unit {0}

-- a file without any cookie
no_cookie : (number : ℕ) (name : List ℕ) (size : ℕ) (l : Composite) (cookie : Share) → is_held (new_file number name size l).lock cookie ≡ true → ⊥
no_cookie number name size l cookie h = absurd (cc)

module _ (c : ℕ) (s : Servers) (is : IsClient c) (room : HasRoom s.meta) (h : AreServers s.meta s.targets) (has : Has c s.meta s.locks nothing) where
  abbrev m : MetaView
  m = s.meta

  -- nothing in hand still
  bare : (new : MetaView) → Backs m new → hand_of c new.leases ≡ hand_of c m.leases → Has c new s.locks nothing
  bare new back same = bare_has c new s.locks false (still_none c m new s.locks has back) (same ∙ has.keys) has.locks

  -- ---- files come

  comes_well : (name : List ℕ) (mirrors : List MirrorSpec) → Kept m (with_file name 0 (new_layout mirrors (length m.nexts)) m) → AnswersWell c s (Gives tt (with_file name 0 (new_layout mirrors (length m.nexts)) m))
  comes_well name mirrors kept =
      let l : Composite = new_layout mirrors (length m.nexts) in
      let x : File = new_file m.next_file name 0 l in
      good_meta c s nothing (with_file name 0 l m) kept
      (leaving.pushed c m m x (m.next_file + 1) (leaving.nothing c m) (λ o stands. absurd (none_stands o mirrors (length m.nexts) stands)) (no_cookie m.next_file name 0 l) (λ key held. covered_there m.files m.leases key h.sound.covered held))
      h
      (bare (with_file name 0 l m) (pushed_backs m m (with_file name 0 l m) x (λ number cookie l is. (l, is)) (no_cookie m.next_file name 0 l) refl) refl)

  creates_well : (name : List ℕ) (mirrors : List MirrorSpec) → IsSpec mirrors → AnswersWell c s (creates name mirrors m)
  creates_well name mirrors spec =
      create_cases (λ (o : meta.Outcome (Unit {0})). Kept m (left_by o m) → AnswersWell c s o) name mirrors m (record { refuses = λ answer kept. tt; comes = λ absent full kept. comes_well name mirrors kept })
      (kept_by (Create name mirrors) m h.sound h.once (room.files, spec))

  -- ---- layouts change

  module _ (name : List ℕ) (step : ℕ) (f : File) (e : file_named name m.files ≡ Some f) (alone : lowest_but c f.lock ≡ None) where
    there : file_of f.number m.files ≡ Some f
    there = there_named m h.sound name f e

    broken_backs : (l : Composite) → Backs m (with_break f.number step l m)
    broken_backs l = changed_backs m (with_break f.number step l m) f.number (with_layout l) (λ y. refl) (λ y cookie held. held) refl

    lessened_leaves : (mirror : ℕ) → Leaves c m (with_break f.number step (lessened mirror f.layout) m)
    lessened_leaves mirror = leaving.laid c m f.number f (lessened mirror f.layout) (broken_by f.number step m.leases) m.nexts there alone (lessened_rises m.nexts f.layout mirror) (leaving.broken_change c f.number step m.leases)

    goes_well : (mirror : ℕ) → Kept m (with_break f.number step (lessened mirror f.layout) m) → AnswersWell c s (Gives tt (with_break f.number step (lessened mirror f.layout) m))
    goes_well mirror kept =
        good_meta c s nothing (with_break f.number step (lessened mirror f.layout) m) kept (lessened_leaves mirror) h
        (bare (with_break f.number step (lessened mirror f.layout) m) (broken_backs (lessened mirror f.layout)) (broken_hand f.number step m.leases c))

    marks_well : (id : ℕ) (change : FlagSets) → Kept m (with_break f.number step (flagged id change f.layout) m) → AnswersWell c s (Gives tt (with_break f.number step (flagged id change f.layout) m))
    marks_well id change kept =
        good_meta c s nothing (with_break f.number step (flagged id change f.layout) m) kept
        (leaving.laid c m f.number f (flagged id change f.layout) (broken_by f.number step m.leases) m.nexts there alone (flagged_rises m.nexts f.layout id change) (leaving.broken_change c f.number step m.leases)) h
        (bare (with_break f.number step (flagged id change f.layout) m) (broken_backs (flagged id change f.layout)) (broken_hand f.number step m.leases c))

    module _ (mirror : ℕ) (to : List ℕ) where
      abbrev mid : MetaView
      mid = with_break f.number step (lessened mirror f.layout) m

      abbrev x : File
      x = new_file m.next_file to f.size (split_off mirror f.layout)

      stood : (o : ObjectId) → Stands o (split_off mirror f.layout) → StandsBelow m o (split_off mirror f.layout).generation
      stood o stands = let up = unleased_grows f.layout in record { number = f.number; file = f; there = there; stands = split_stands o mirror f.layout stands; below = omega (arith, up) }

      still : (key : KeyView) → state_of mid.leases key ≡ Held → (y : File) × (file_of key.file mid.files ≡ Some y)
      still key held =
          let b = broken_held f.number step m.leases key held in
          let y = covered_there m.files m.leases key h.sound.covered b.1 in
          (y.0, other_found key.file f.number (with_layout (lessened mirror f.layout)) m.files (λ z. refl) b.0 ∙ y.1)

      splits_well : Kept m (with_file to f.size (split_off mirror f.layout) mid) → AnswersWell c s (Gives tt (with_file to f.size (split_off mirror f.layout) mid))
      splits_well kept =
          good_meta c s nothing (with_file to f.size (split_off mirror f.layout) mid) kept
          (leaving.pushed c m mid x (m.next_file + 1) (lessened_leaves mirror) stood (no_cookie m.next_file to f.size (split_off mirror f.layout)) still) h
          (bare (with_file to f.size (split_off mirror f.layout) mid)
          (pushed_backs m mid (with_file to f.size (split_off mirror f.layout) mid) x (broken_backs (lessened mirror f.layout)) (no_cookie m.next_file to f.size (split_off mirror f.layout)) refl)
          (broken_hand f.number step m.leases c))

  removes_well : (name : List ℕ) (mirror : ℕ) (to : Option (List ℕ)) (step : ℕ) → AnswersWell c s (removes c name mirror to step m)
  removes_well name mirror to step =
      remove_cases (λ (o : meta.Outcome (Unit {0})). Kept m (left_by o m) → AnswersWell c s o) c name mirror step m
      (record {
        refuses = λ answer kept. tt;
        waits = λ holder kept. tt;
        goes = λ f e keep alone kept. goes_well name step f e alone mirror kept;
        splits = λ new f e keep fresh absent full alone kept. splits_well name step f e alone mirror new kept;
      })
      to (kept_by (Remove c name mirror to step) m h.sound h.once (room.files, room.generations))

  sets_well : (name : List ℕ) (id : ℕ) (change : FlagSets) (step : ℕ) → AnswersWell c s (sets c name id change step m)
  sets_well name id change step =
      set_cases (λ (o : meta.Outcome (Unit {0})). Kept m (left_by o m) → AnswersWell c s o) c name id change step m
      (record { refuses = λ answer kept. tt; waits = λ holder kept. tt; marks = λ f e keep alone kept. marks_well name step f e alone id change kept })
      (kept_by (Set c name id change step) m h.sound h.once room.generations)

  -- ---- answers

  answered_fine : (answer : Reply) (o : meta.Outcome (Unit {0})) → AnswersWell c s o → Fine c sentences.hand_of (IsCallOf c) s (answered_by s (answered answer o))
  answered_fine answer (Gives given after) well = well
  answered_fine answer (Refuses refusal) well = good_same c s nothing h has
  answered_fine answer (Waits holder) well = tt

  shows_fine : (name : List ℕ) (o : Option File) → Fine c sentences.hand_of (IsCallOf c) s (answered_by s (shows name m o))
  shows_fine name None = good_same c s nothing h has
  shows_fine name (Some f) = good_same c s nothing h has

  splits_fine : (step : ℕ) (name : List ℕ) (mirror : ℕ) (to : SplitTo) → Fine c sentences.hand_of (IsCallOf c) s (answered_by s (splits c step m name mirror to))
  splits_fine step name mirror split.Default = answered_fine (reply.Split (default_name name mirror)) (removes c name mirror (Some (default_name name mirror)) step m) (removes_well name mirror (Some (default_name name mirror)) step)
  splits_fine step name mirror (split.Named new) = answered_fine (reply.Split new) (removes c name mirror (Some new) step m) (removes_well name mirror (Some new) step)
  splits_fine step name mirror split.Destroy = answered_fine (reply.Removed mirror) (removes c name mirror None step m) (removes_well name mirror None step)

  lfs_fine : (most : ℕ) (of : LfsCommand) (step : ℕ) → IsSound most of → Fine c sentences.hand_of (IsCallOf c) s (answered_by s (one_step c of step m))
  lfs_fine most (lfs.SetStripe name spec) step sound = answered_fine reply.Created (creates name spec m) (creates_well name spec sound.1.0)
  lfs_fine most (lfs.Create name spec) step sound = answered_fine reply.Created (creates name spec m) (creates_well name spec sound.1.0)
  lfs_fine most (lfs.GetStripe name) step sound = shows_fine name (file_named name m.files)
  lfs_fine most (lfs.CompSet name id change) step sound = answered_fine reply.Set (sets c name id change step m) (sets_well name id change step)
  lfs_fine most (lfs.Split name mirror to) step sound = splits_fine step name mirror to
  lfs_fine most (lfs.Delete name mirror) step sound = answered_fine (reply.Removed mirror) (removes c name mirror None step m) (removes_well name mirror None step)
  lfs_fine most (lfs.Extend name spec) step sound = good_same c s nothing h has
  lfs_fine most (lfs.ExtendBy name victim) step sound = good_same c s nothing h has
  lfs_fine most (lfs.Resync name only) step sound = good_same c s nothing h has
  lfs_fine most (lfs.Verify name) step sound = good_same c s nothing h has

  evicts_fine : (other step : ℕ) → IsClient other → Good c s nothing (record s { meta = with_eviction other step m })
  evicts_fine other step client =
      good_meta c s nothing (with_eviction other step m) (kept_by (Evict other step) m h.sound h.once client) (leaving.evicted_leaves c other step m) h
      (bare (with_eviction other step m) (evicted_backs m other step) (evicted_hand other step m.leases c))

  rots_fine : (object : ObjectId) (offset byte : ℕ) → Good c s nothing (record s { targets = rotted object offset byte s.targets })
  rots_fine object offset byte = by (is_kept object s.targets)
    where
      by : (b : Bool) → Good c s nothing (record s { targets = cond b (with_rot object offset byte s.targets) s.targets })
      by true =
          good_targets c s nothing (with_rot object offset byte s.targets)
          (called s object.target (after_rot (target_at s.targets object.target) object.number offset byte) (λ n. rot_version (target_at s.targets object.target) object.number offset byte n) h) has
      by false = good_same c s nothing h has

  -- each command of one step is fine
  pub at_once_fine : (most targets clients : ℕ) (asked : Command) (place : ℕ) → most ≤ 32 → clients ≤ 16 → IsCommand most targets clients asked → Fine c sentences.hand_of (IsCallOf c) s (at_once c asked place s)
  at_once_fine most targets clients (command.Lfs of) place le few sound = lfs_fine most of place (lfs_sound most of le sound)
  at_once_fine most targets clients (command.Evict other) place le few sound = evicts_fine other place (sound.0, omega (arith, sound.1, few))
  at_once_fine most targets clients (command.Rot object offset byte) place le few sound = rots_fine object offset byte
  at_once_fine most targets clients (command.Read name offset len) place le few sound = tt
  at_once_fine most targets clients (command.Write name offset bytes) place le few sound = tt
  at_once_fine most targets clients (command.Truncate name size) place le few sound = tt
