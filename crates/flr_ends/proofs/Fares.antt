-- Each step of a client's call pays.
use Rattle.std.proofs.Common.{◌≡◌, ◌≢◌, ℕ, ◌+◌, ◌*◌, ◌≤◌, Bool, true, false, cond, Option, Some, None, List, refl, sym, subst, arith}
use Rattle.flr_base.specs.declared.reply.ObjectId.{ObjectId}
use Rattle.flr_base.specs.declared.reply.Range.{Range}
use Rattle.flr_base.specs.declared.reply.Reply.{Reply}
use Rattle.flr_base.specs.declared.reply.Reply.TheVariants as reply
use Rattle.layout_lease.specs.declared.shared.Share.{Share}
use Rattle.composite_layout.specs.declared.spec.MirrorSpec.{MirrorSpec}
use Rattle.lfs_words.specs.declared.command.LfsCommand.{LfsCommand}
use Rattle.lfs_words.specs.declared.command.LfsCommand.TheVariants as lfs
use Rattle.lfs_words.specs.declared.command.SplitTo.{SplitTo}
use Rattle.lfs_words.specs.declared.command.SplitTo.TheVariants as split
use Rattle.object_target.specs.declared.fail.Fail.{Fail}
use Rattle.object_target.specs.Calls.{after_rot}
use Rattle.object_target.specs.TargetState.{TargetState, next_call}
use Rattle.script_values.specs.declared.command.Command.{Command}
use Rattle.script_values.specs.declared.command.Command.TheVariants as command
use Rattle.script_values.specs.Scripts.{ScriptView}
use Rattle.script_values.specs.Work.{blocks_of}
use Rattle.client_read.specs.Reads.{new_read, read_step}
use Rattle.client_read.specs.Views.{ReadView}
use Rattle.client_write.specs.Calls.{TruncateView, WriteView}
use Rattle.client_write.specs.Truncates.{new_truncate, truncate_step}
use Rattle.client_write.specs.Writes.{new_write, range_of, write_step}
use Rattle.meta_server.specs.declared.answers.CopyWhat.TheVariants as what
use Rattle.meta_server.specs.Files.{File, MetaView, file_named}
use Rattle.meta_server.specs.Naming.{creates, removes, sets}
use Rattle.meta_server.specs.Outcomes.{Gives, Refuses, Waits}
use Rattle.meta_server.specs.Outcomes as meta
use Rattle.meta_laws.specs.Calls.{Call, Create, Remove, Set, after_call, left_by}
use Rattle.meta_growth.specs.Growth.{AreNumbered}
use Rattle.lfs_words.specs.Naming.{default_name}
use Rattle.mirror_admin.specs.OneStep.{answered, one_step, shows}
use Rattle.mirror_admin.specs.Rotting.{is_kept, with_rot}
use Rattle.mirror_verify.specs.Verifies.{new_verify, verify_step}
use Rattle.mirror_verify.specs.Views.{VerifyView}
use Rattle.resync_copy.specs.Calls.{CopyView}
use Rattle.resync_copy.specs.Copies.{new_copy}
use Rattle.resync_copy.specs.Steps.{copy_step}
use Rattle.call_steps.specs.Servers.{Servers, target_at}
use Rattle.call_steps.specs.Steps.{Outcome, Going, Fixed, Ended, Answered, Blocked, widen}
use Rattle.flr_steps.specs.declared.client.Running.{Running}
use Rattle.flr_steps.specs.declared.client.Running.TheVariants as running
use Rattle.flr_steps.specs.Clients.{call_now}
use Rattle.flr_steps.specs.Commands.{answered_by, at_once, begun_lfs, step_of}
use Rattle.flr_bound.proofs.Outcomes.{OnNext, kept_put_at}
use Rattle.flr_work.specs.Known.{KnownCall, KnownCopy, KnownCut, KnownRead, KnownVerify, KnownWrite, chunk_room, stripes_of_script, take_room}
use Rattle.flr_work.specs.Left.{OwnsCopy, OwnsRead, OwnsTruncate, OwnsVerify, OwnsWrite, copy_left, cut_left, read_left, verify_left, write_left}
use Rattle.flr_work.specs.Paying.{AreListed, Fares, Leaves, dues}
use Rattle.flr_work.proofs.Costs.{dues_fall, leaves_by}
use Rattle.flr_work.proofs.Held.{Spares}
use Rattle.flr_work.proofs.MergeSteps.{copy_fares}
use Rattle.flr_work.proofs.ReadSteps.{read_fares}
use Rattle.flr_work.proofs.VerifySteps.{verify_fares}
use Rattle.flr_work.proofs.WriteSteps.{truncate_fares, write_fares}
use Rattle.flr_ends.proofs.Calls.{OwnsCall, base_for, call_left}
use Rattle.flr_ends.proofs.Ranges.{read_range, write_range}

-- whether a command evicts nobody
abbrev pub Spared : Command → Type 0
Spared (command.Evict other) = ⊥
Spared other = Unit {0}

-- at the start of a command its call has its base left
abbrev pub budget : ScriptView → ℕ → Running → MetaView → ℕ
budget script base running.Idle m = base
budget script base call m = call_left script base call m

module _ (script : ScriptView) (c place base cost : ℕ) (fails : List Fail) (s : Servers) where
  -- a step of a call with so much left
  abbrev pub Pays : ℕ → Outcome Running → Type 0
  Pays left o = Fares Running (OwnsCall script c base) (λ next after. KnownCall script after next) (λ next m. call_left script base next m) c cost fails s left o

  widened : {C : Type 0} (owns : C → Type 0) (known : C → Servers → Type 0) (left : C → MetaView → ℕ) (extra : C → Type 0) (f : C → Running)
      → ((next : C) → owns next → extra next → OwnsCall script c base (f next)) → ((next : C) (after : Servers) → KnownCall script after (f next) → known next after) → ((next : C) (m : MetaView) → call_left script base (f next) m ≤ left next m)
      → (n : ℕ) (o : Outcome C) → OnNext extra o → Fares C owns known left c cost fails s n o → Pays n (widen f o)
  widened owns known left extra f both know less n (Going next after) e h =
      record { leaves = h.leaves; own = both next h.own e; pays = λ k. (let one = h.pays (know next after k) in let two = less next after.meta in omega (arith, one, two)) }
  widened owns known left extra f both know less n (Fixed next reply takes after) e h =
      record { leaves = h.leaves; own = both next h.own e; pays = λ k. (let one = h.pays (know next after k) in let two = less next after.meta in omega (arith, one, two)) }
  widened owns known left extra f both know less n (Ended after) e h = record { leaves = h.leaves; pays = h.pays }
  widened owns known left extra f both know less n (Answered reply takes after) e h = record { leaves = h.leaves; pays = h.pays }
  widened owns known left extra f both know less n (Blocked holder) e h = tt

  -- nothing more is asked of the call that goes on
  free : {C : Type 0} (o : Outcome C) → OnNext (λ (x : C). Unit {0}) o
  free (Going next after) = tt
  free (Fixed next reply takes after) = tt
  free (Ended after) = tt
  free (Answered reply takes after) = tt
  free (Blocked holder) = tt

  module _ (numbered : AreNumbered s.meta) (listed : AreListed fails s.targets) (most : base ≤ cost) where
    reads : (asked : Command) (call : ReadView) → OwnsCall script c base (running.Read call) → Pays (read_left base call.at s.meta) (step_of (running.Read call) c asked place s)
    reads asked call own =
        widened (OwnsRead c) (λ next after. KnownRead next next.at) (λ next m. read_left base next.at m) (λ (x : ReadView). x.range ≡ call.range) running.Read
        (λ next k same. (k, subst (λ (x : Range). 2 * blocks_of x.start x.end + 3 ≤ base) (sym same) own.1)) (λ next after k. k) (λ next m. omega arith)
        (read_left base call.at s.meta) (read_step call place s) (read_range call place s) (read_fares c cost fails call place s base own.0 listed numbered own.1 most)

    writes : (asked : Command) (call : WriteView) → OwnsCall script c base (running.Write call) → KnownCall script s (running.Write call) → Pays (write_left base call.at s.meta) (step_of (running.Write call) c asked place s)
    writes asked call own known =
        widened (OwnsWrite c) (λ next after. KnownWrite after next next.at) (λ next m. write_left base next.at m) (λ (x : WriteView). range_of x ≡ range_of call) running.Write
        (λ next k same. (k, subst (λ (x : Range). 2 * blocks_of x.start x.end + 3 ≤ base) (sym same) own.1)) (λ next after k. k) (λ next m. omega arith)
        (write_left base call.at s.meta) (write_step call place s) (write_range call place s) (write_fares c cost fails call place s base own.0 known numbered own.1)

    truncates : (asked : Command) (call : TruncateView) → OwnsCall script c base (running.Truncate call) → KnownCall script s (running.Truncate call) → Pays (cut_left base call.at s.meta) (step_of (running.Truncate call) c asked place s)
    truncates asked call own known =
        widened (OwnsTruncate c) (λ next after. KnownCut (stripes_of_script script) after next.at) (λ next m. cut_left base next.at m) (λ (x : TruncateView). Unit {0}) running.Truncate
        (λ next k e. (k, own.1)) (λ next after k. k) (λ next m. omega arith)
        (cut_left base call.at s.meta) (truncate_step call place s) (free (truncate_step call place s)) (truncate_fares c cost fails call place s base (stripes_of_script script) own.0 known numbered own.1)

    verifies : (asked : Command) (call : VerifyView) → OwnsCall script c base (running.Verify call) → Pays (verify_left base call.at s.meta) (step_of (running.Verify call) c asked place s)
    verifies asked call own =
        widened (OwnsVerify c) (λ next after. KnownVerify (take_room script) next.at) (λ next m. verify_left base next.at m) (λ (x : VerifyView). Unit {0}) running.Verify
        (λ next k e. (k, own.1)) (λ next after k. k) (λ next m. omega arith)
        (verify_left base call.at s.meta) (verify_step call place s) (free (verify_step call place s)) (verify_fares c cost fails call place s base (take_room script) own.0 numbered own.1)

    copies : (asked : Command) (call : CopyView) → OwnsCall script c base (running.Copy call) → KnownCall script s (running.Copy call) → Pays (copy_left base (chunk_room script) call.at) (step_of (running.Copy call) c asked place s)
    copies asked call own known =
        widened (OwnsCopy c) (λ next after. KnownCopy (stripes_of_script script) (chunk_room script) after next.at) (λ next m. copy_left base (chunk_room script) next.at) (λ (x : CopyView). Unit {0}) running.Copy
        (λ next k e. (k, own.1)) (λ next after k. k) (λ next m. omega arith)
        (copy_left base (chunk_room script) call.at) (copy_step call place s) (free (copy_step call place s))
        (copy_fares c cost fails call place s base (stripes_of_script script) (chunk_room script) own.0 known listed (let some = own.1 in omega (arith, some, most)) own.1)

    -- ---- commands of one step

    module _ (one : 1 ≤ base) where
      same_leaves : Leaves c s.meta s.meta
      same_leaves number cookie other h = h

      by_call : (call : Call) → ((number : ℕ) (cookie : Share) → cookie.client ≢ c → Spares number cookie call) → (o : meta.Outcome Reply) → left_by o s.meta ≡ after_call call s.meta → Pays base (answered_by s o)
      by_call call spares (Gives answer after) e = record { leaves = leaves_by c call s.meta after e spares; pays = omega (arith, one) }
      by_call call spares (Refuses answer) e = record { leaves = same_leaves; pays = omega (arith, one) }
      by_call call spares (Waits holder) e = tt

      same_left : (answer : Reply) (o : meta.Outcome (Unit {0})) → left_by (answered answer o) s.meta ≡ left_by o s.meta
      same_left answer (Gives given after) = refl
      same_left answer (Refuses refusal) = refl
      same_left answer (Waits holder) = refl

      shows_layout : (name : List ℕ) (o : Option File) → Pays base (answered_by s (shows name s.meta o))
      shows_layout name None = record { leaves = same_leaves; pays = omega (arith, one) }
      shows_layout name (Some f) = record { leaves = same_leaves; pays = omega (arith, one) }

      removed : (name : List ℕ) (mirror : ℕ) (to : Option (List ℕ)) (answer : Reply) → Pays base (answered_by s (answered answer (removes c name mirror to place s.meta)))
      removed name mirror to answer = by_call (Remove c name mirror to place) (λ number cookie other. tt) (answered answer (removes c name mirror to place s.meta)) (same_left answer (removes c name mirror to place s.meta))

      splits : (name : List ℕ) (mirror : ℕ) (to : SplitTo) → Pays base (answered_by s (one_step c (lfs.Split name mirror to) place s.meta))
      splits name mirror split.Default = removed name mirror (Some (default_name name mirror)) (reply.Split (default_name name mirror))
      splits name mirror (split.Named new) = removed name mirror (Some new) (reply.Split new)
      splits name mirror split.Destroy = removed name mirror None (reply.Removed mirror)

      created : (name : List ℕ) (spec : List MirrorSpec) → Pays base (answered_by s (answered reply.Created (creates name spec s.meta)))
      created name spec = by_call (Create name spec) (λ number cookie other. tt) (answered reply.Created (creates name spec s.meta)) (same_left reply.Created (creates name spec s.meta))

      rots : (object : ObjectId) (offset byte : ℕ) (b : Bool) → dues cost fails (cond b (with_rot object offset byte s.targets) s.targets) ≤ dues cost fails s.targets
      rots object offset byte false = omega arith
      rots object offset byte true =
          dues_fall cost fails (λ id. next_call (target_at s.targets id)) (λ id. next_call (target_at (with_rot object offset byte s.targets) id))
          (λ id. (let same = kept_put_at (λ (x : TargetState). next_call x) s.targets object.target id (after_rot (target_at s.targets object.target) object.number offset byte) refl in omega (arith, same)))

      rotted_pays : (object : ObjectId) (offset byte : ℕ) → Pays base (at_once c (command.Rot object offset byte) place s)
      rotted_pays object offset byte = record { leaves = same_leaves; pays = (let k = rots object offset byte (is_kept object s.targets) in omega (arith, one, k)) }

-- ---- the next command

module _ (script : ScriptView) (c place cost : ℕ) (fails : List Fail) (s : Servers) (numbered : AreNumbered s.meta) (listed : AreListed fails s.targets) where
  lfs_pays : (of : LfsCommand) → base_for script (command.Lfs of) ≤ cost → Pays script c place (base_for script (command.Lfs of)) cost fails s (base_for script (command.Lfs of)) (step_of (begun_lfs c of) c (command.Lfs of) place s)
  lfs_pays (lfs.Resync name only) most = copies script c place (base_for script (command.Lfs (lfs.Resync name only))) cost fails s numbered listed most (command.Lfs (lfs.Resync name only)) (new_copy c name (what.Resync only)) (record { client = refl; phase = tt }, omega arith) tt
  lfs_pays (lfs.Extend name spec) most = copies script c place (base_for script (command.Lfs (lfs.Extend name spec))) cost fails s numbered listed most (command.Lfs (lfs.Extend name spec)) (new_copy c name (what.Extend spec)) (record { client = refl; phase = tt }, omega arith) tt
  lfs_pays (lfs.ExtendBy name victim) most = copies script c place (base_for script (command.Lfs (lfs.ExtendBy name victim))) cost fails s numbered listed most (command.Lfs (lfs.ExtendBy name victim)) (new_copy c name (what.Victim victim)) (record { client = refl; phase = tt }, omega arith) tt
  lfs_pays (lfs.Verify name) most = verifies script c place (base_for script (command.Lfs (lfs.Verify name))) cost fails s numbered listed most (command.Lfs (lfs.Verify name)) (new_verify c name) (record { client = refl; phase = tt }, omega arith)
  lfs_pays (lfs.SetStripe name spec) most = created script c place 1 cost fails s numbered listed most (omega arith) name spec
  lfs_pays (lfs.Create name spec) most = created script c place 1 cost fails s numbered listed most (omega arith) name spec
  lfs_pays (lfs.GetStripe name) most = shows_layout script c place 1 cost fails s numbered listed most (omega arith) name (file_named name s.meta.files)
  lfs_pays (lfs.CompSet name id change) most =
      by_call script c place 1 cost fails s numbered listed most (omega arith) (Set c name id change place) (λ number cookie other. tt) (answered reply.Set (sets c name id change place s.meta)) (same_left script c place 1 cost fails s numbered listed most (omega arith) reply.Set (sets c name id change place s.meta))
  lfs_pays (lfs.Split name mirror to) most = splits script c place 1 cost fails s numbered listed most (omega arith) name mirror to
  lfs_pays (lfs.Delete name mirror) most = removed script c place 1 cost fails s numbered listed most (omega arith) name mirror None (reply.Removed mirror)

  begins_pays : (asked : Command) → Spared asked → base_for script asked ≤ cost → Pays script c place (base_for script asked) cost fails s (base_for script asked) (step_of (call_now c running.Idle asked) c asked place s)
  begins_pays (command.Read name offset len) spared most = reads script c place (base_for script (command.Read name offset len)) cost fails s numbered listed most (command.Read name offset len) (new_read c name offset len) (record { client = refl; phase = tt }, omega arith)
  begins_pays (command.Write name offset bytes) spared most = writes script c place (base_for script (command.Write name offset bytes)) cost fails s numbered listed most (command.Write name offset bytes) (new_write c name offset bytes) (record { client = refl; phase = tt }, omega arith) tt
  begins_pays (command.Truncate name size) spared most = truncates script c place (base_for script (command.Truncate name size)) cost fails s numbered listed most (command.Truncate name size) (new_truncate c name size) (record { client = refl; phase = tt }, omega arith) tt
  begins_pays (command.Lfs of) spared most = lfs_pays of most
  begins_pays (command.Evict other) spared most = absurd spared
  begins_pays (command.Rot object offset byte) spared most = rotted_pays script c place 1 cost fails s numbered listed most (omega arith) object offset byte

  -- each step but an eviction
  pub step_pays : (call : Running) (asked : Command) (base : ℕ) → base ≡ base_for script asked → (call ≡ running.Idle → Spared asked) → base ≤ cost → OwnsCall script c base call → KnownCall script s call
      → Pays script c place base cost fails s (budget script base call s.meta) (step_of (call_now c call asked) c asked place s)
  step_pays running.Idle asked base e spared most own known =
      let less : base_for script asked ≤ cost = omega (arith, e, most) in
      subst (λ (b : ℕ). Pays script c place b cost fails s b (step_of (call_now c running.Idle asked) c asked place s)) (sym e) (begins_pays asked (spared refl) less)
  step_pays (running.Read call) asked base e spared most own known = reads script c place base cost fails s numbered listed most asked call own
  step_pays (running.Write call) asked base e spared most own known = writes script c place base cost fails s numbered listed most asked call own known
  step_pays (running.Truncate call) asked base e spared most own known = truncates script c place base cost fails s numbered listed most asked call own known
  step_pays (running.Copy call) asked base e spared most own known = copies script c place base cost fails s numbered listed most asked call own known
  step_pays (running.Verify call) asked base e spared most own known = verifies script c place base cost fails s numbered listed most asked call own
