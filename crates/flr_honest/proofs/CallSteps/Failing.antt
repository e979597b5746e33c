-- A call of a target that failed is one that the script lists.
use Rattle.std.proofs.Common.{◌≡◌, ℕ, ◌<◌, Bool, true, false, cond, nat_eq, Option, Some, None, List, [], ◌∷◌, length, inl, inr, refl, sym, ap, subst, ◌∙◌, arith}
use Rattle.std.specs.List.{AllByRecursion, flat_map}
use Rattle.std.proofs.lemmas.Bool.Decides.{nat_tests}
use Rattle.flr_base.specs.declared.reply.ObjectId.{ObjectId}
use Rattle.mirror_select.specs.declared.types.Piece.{Piece}
use Rattle.mirror_select.proofs.Least.{In, to_contains}
use Rattle.script_values.specs.Scripts.{ScriptView}
use Rattle.script_values.specs.declared.command.Command.{Command}
use Rattle.object_target.specs.declared.call.CallEntry.{CallEntry}
use Rattle.object_target.specs.declared.fail.Fail.{Fail}
use Rattle.object_target.specs.declared.fail.FailKind.{FailKind}
use Rattle.object_target.specs.Calls.{answer_by, is_old, next_fail}
use Rattle.object_target.specs.Fails.{fails_on, kind_of}
use Rattle.object_target.specs.TargetState.{TargetState, next_call, version_at}
use Rattle.call_steps.specs.Pieces.{length_of, object_of, piece_at}
use Rattle.call_steps.specs.Runs.{CallStep}
use Rattle.call_steps.specs.Servers.{Servers, target_at}
use Rattle.client_read.specs.declared.phase.ReadAt.{ReadAt}
use Rattle.client_read.specs.declared.phase.ReadAt.TheVariants as read
use Rattle.client_read.specs.declared.phase.Reading.{Reading}
use Rattle.client_write.specs.declared.phase.CutAt.{CutAt}
use Rattle.client_write.specs.declared.phase.CutAt.TheVariants as cut
use Rattle.client_write.specs.declared.phase.WriteAt.{WriteAt}
use Rattle.client_write.specs.declared.phase.WriteAt.TheVariants as write
use Rattle.client_write.specs.Calls.{WriteView}
use Rattle.client_write.specs.Truncates.{tail_at}
use Rattle.client_write.specs.Views.{CuttingView, WritingView}
use Rattle.client_write.specs.Writes.{bytes_of, range_of}
use Rattle.mirror_verify.specs.declared.phase.VerifyAt.{VerifyAt}
use Rattle.mirror_verify.specs.declared.phase.VerifyAt.TheVariants as verify
use Rattle.mirror_verify.specs.declared.phase.Verifying.{Verifying}
use Rattle.mirror_verify.specs.Blocks.{copy_at}
use Rattle.resync_copy.specs.declared.merge_phase.MergeStage.{MergeStage}
use Rattle.resync_copy.specs.declared.merge_phase.MergeStage.TheVariants as merge
use Rattle.resync_copy.specs.declared.phase.CopyAt.{CopyAt}
use Rattle.resync_copy.specs.declared.phase.CopyAt.TheVariants as at
use Rattle.resync_copy.specs.declared.phase.CopyStage.{CopyStage}
use Rattle.resync_copy.specs.declared.phase.CopyStage.TheVariants as stage
use Rattle.resync_copy.specs.Comparing.{merge_fences, version_at as merge_version}
use Rattle.resync_copy.specs.Copies.{object_at, piece_from, piece_to}
use Rattle.resync_copy.specs.Merges.{our_piece, their_piece}
use Rattle.resync_copy.specs.Views.{fences_of, resets_of}
use Rattle.flr_numbers.specs.Hands.{AreServers, Has}
use Rattle.flr_numbers.specs.Sentences.{IsCallOf, hand_of}
use Rattle.flr_work.specs.Paying.{AreListed}
use Rattle.flr_steps.specs.declared.client.Running.{Running}
use Rattle.flr_steps.specs.declared.client.Running.TheVariants as running
use Rattle.flr_steps.specs.States.{IsRun, State}
use Rattle.flr_steps.specs.Traces.{Made}
use Rattle.flr_claims.specs.Failures.{IsListed, call_of, has_failed, is_failed}
use Rattle.flr_asked.specs.CallRuns.{StandsIn, made_in, of_kind}
use Rattle.flr_bytes.specs.Pieces as pieces
use Rattle.flr_sole.proofs.Making.{all_joined}
use Rattle.flr_honest.specs.CallSteps.StepMakes.{call_made, copy_makes, cut_makes, fence_entry, fence_made, makes, merge_makes, punch_entry, punch_made, put_made, read_entry, read_makes, reset_entry, reset_made, stage_makes, take_made, verify_makes, write_entry, write_makes}
use Rattle.flr_honest.specs.CallSteps.TypedCalls.{AllStandAs}
use Rattle.flr_honest.proofs.CallSteps.CalledThere.{copy_there, cut_there, read_there, verify_there, write_there}
use Rattle.flr_honest.proofs.CallSteps.Calling.{made_as}
use Rattle.flr_honest.proofs.CallSteps.CopyMakes.{CallsThere, CopyCallsThere, MergeCallsThere}
use Rattle.flr_honest.proofs.CallSteps.Standing as standing

-- where a call failed, the script lists it
abbrev pub FailsListed : List Fail → Made → Type 0
FailsListed fails m = has_failed m ≡ true → IsListed fails (call_of m)

-- ---- one call

-- a call that is told to fail is in the list
in_list : (fails : List Fail) (call : ℕ) (k : FailKind) → kind_of fails call ≡ Some k → (f : Fail) × In f fails × (f.call ≡ call)
in_list [] call k e = absurd (cc)
in_list (f ∷ fs) call k e = by (nat_eq f.call call) refl e (λ more. in_list fs call k more)
  where
    by : (b : Bool) → nat_eq f.call call ≡ b → cond b (Some f.kind) (kind_of fs call) ≡ Some k → (kind_of fs call ≡ Some k → (g : Fail) × In g fs × (g.call ≡ call)) → (g : Fail) × In g (f ∷ fs) × (g.call ≡ call)
    by true same e rest = (f, inl refl, grind (arith, nat_tests, same))
    by false apart e rest = let r = rest e in (r.0, inr r.1, r.2)

-- who is in the list of a target is in that of all, for that target
of_target : (id : ℕ) (fails : List Fail) (f : Fail) → In f (fails_on id fails) → In f fails × (f.target ≡ id)
of_target id [] f i = absurd i
of_target id (g ∷ gs) f i = by (nat_eq g.target id) refl i (λ more. of_target id gs f more)
  where
    by : (b : Bool) → nat_eq g.target id ≡ b → In f (cond b (g ∷ fails_on id gs) (fails_on id gs)) → (In f (fails_on id gs) → In f gs × (f.target ≡ id)) → In f (g ∷ gs) × (f.target ≡ id)
    by true same (inl is) rest = let own : g.target ≡ id = grind (arith, nat_tests, same) in (inl is, ap (λ (h : Fail). h.target) (sym is) ∙ own)
    by true same (inr more) rest = let r = rest more in (inr r.0, r.1)
    by false apart more rest = let r = rest more in (inr r.0, r.1)

fails_by : (fail : Option FailKind) (old : Bool) (kept : ℕ) → is_failed (answer_by fail old kept) ≡ true → (k : FailKind) × (fail ≡ Some k)
fails_by (Some k) old kept e = (k, refl)
fails_by None true kept e = absurd (cc)
fails_by None false kept e = absurd (cc)

module _ (fails : List Fail) (place : ℕ) (s : Servers) (listed : AreListed fails s.targets) where
  -- a call whose answer comes from its target's list
  pub one_listed : (id : ℕ) (entry : CallEntry) (old : Bool) (kept : ℕ) → id < length s.targets → entry.answer ≡ answer_by (next_fail (target_at s.targets id)) old kept → FailsListed fails (call_made place s id entry)
  one_listed id entry old kept there is failed =
      let t : TargetState = target_at s.targets id in
      let told = fails_by (next_fail t) old kept (ap is_failed (sym is) ∙ failed) in
      let found = in_list (fails_on id fails) (next_call t) told.0 (ap (λ (fs : List Fail). kind_of fs (next_call t)) (sym (listed id there)) ∙ told.1) in
      let own = of_target id fails found.0 found.1 in
      (found.0, to_contains fails found.0 own.0, own.1, found.2)

  abbrev AllListed : List Made → Type 0
  AllListed made = AllByRecursion (λ (m : Made). FailsListed fails m) made

  -- ---- by phases
  read_listed : (a : ReadAt) → ((x : Reading) (next : ℕ) → a ≡ read.Take x next → (object_of (piece_at x.pieces next)).target < length s.targets) → AllListed (read_makes place a s)
  read_listed (read.Take x next) there = (one_listed (object_of (piece_at x.pieces next)).target (read_entry (target_at s.targets (object_of (piece_at x.pieces next)).target) (object_of (piece_at x.pieces next)).number (piece_at x.pieces next).offset (length_of (piece_at x.pieces next))) false 0 (there x next refl) refl, tt)
  read_listed read.Open there = tt
  read_listed (read.Lock x next) there = tt
  read_listed (read.Again x) there = tt
  read_listed (read.Confirm x) there = tt
  read_listed read.UnlockAgain there = tt
  read_listed read.Unlock there = tt

  put_listed : (p : Piece) (bytes : List ℕ) (version : ℕ) → (object_of p).target < length s.targets → FailsListed fails (put_made place s p bytes version)
  put_listed p bytes version there =
      let t : TargetState = target_at s.targets (object_of p).target in
      one_listed (object_of p).target (write_entry t (object_of p).number p.offset bytes version) (is_old t (object_of p).number version) (version_at t (object_of p).number) there refl

  take_listed : (p : Piece) → (object_of p).target < length s.targets → FailsListed fails (take_made place s p)
  take_listed p there = one_listed (object_of p).target (read_entry (target_at s.targets (object_of p).target) (object_of p).number p.offset (length_of p)) false 0 there refl

  fence_listed : (o : ObjectId) (version : ℕ) → o.target < length s.targets → FailsListed fails (fence_made place s o version)
  fence_listed o version there = one_listed o.target (fence_entry (target_at s.targets o.target) o.number version) false 0 there refl

  reset_listed : (o : ObjectId) (version : ℕ) → o.target < length s.targets → FailsListed fails (reset_made place s o version)
  reset_listed o version there =
      let t : TargetState = target_at s.targets o.target in one_listed o.target (reset_entry t o.number version) (is_old t o.number version) (version_at t o.number) there refl

  punch_listed : (o : ObjectId) (offset version : ℕ) → o.target < length s.targets → FailsListed fails (punch_made place s o offset version)
  punch_listed o offset version there =
      let t : TargetState = target_at s.targets o.target in one_listed o.target (punch_entry t o.number offset version) (is_old t o.number version) (version_at t o.number) there refl

  write_listed : (w : WriteView) (a : WriteAt) → ((x : WritingView) (next : ℕ) → a ≡ write.Send x next → (object_of (piece_at x.pieces next)).target < length s.targets) → AllListed (write_makes place w a s)
  write_listed w (write.Send x next) there = (put_listed (piece_at x.pieces next) (bytes_of w (piece_at x.pieces next)) x.opened.layout.generation (there x next refl), tt)
  write_listed w write.Open there = tt
  write_listed w (write.Lock x next) there = tt
  write_listed w (write.Commit x end came) there = tt
  write_listed w write.UnlockAgain there = tt
  write_listed w write.Unlock there = tt

  cut_listed : (a : CutAt) → ((x : CuttingView) (next : ℕ) → a ≡ cut.Punch x next → (tail_at x.tails next).object.target < length s.targets) → AllListed (cut_makes place a s)
  cut_listed (cut.Punch x next) there = (punch_listed (tail_at x.tails next).object (tail_at x.tails next).offset x.opened.layout.generation (there x next refl), tt)
  cut_listed cut.Open there = tt
  cut_listed (cut.Lock x) there = tt
  cut_listed (cut.Commit x came) there = tt
  cut_listed cut.UnlockAgain there = tt
  cut_listed cut.Unlock there = tt

  verify_listed : (a : VerifyAt) → ((x : Verifying) (next : ℕ) → a ≡ verify.Take x next → (object_of (copy_at x.copies next).piece).target < length s.targets) → AllListed (verify_makes place a s)
  verify_listed (verify.Take x next) there = (take_listed (copy_at x.copies next).piece (there x next refl), tt)
  verify_listed verify.Open there = tt
  verify_listed (verify.Close x fault) there = tt

  stage_listed : (a : CopyStage) → CallsThere s a → AllListed (stage_makes place a s)
  stage_listed (stage.Fence x next) there = (fence_listed (object_at (fences_of x) next).object x.side.layout.generation there, tt)
  stage_listed (stage.Reset x next) there = (reset_listed (object_at (resets_of x) next).object x.side.layout.generation there, tt)
  stage_listed (stage.Take h) there = (take_listed (piece_from h) there, tt)
  stage_listed (stage.Put h bytes) there = (put_listed (piece_to h) bytes h.copying.side.layout.generation there, tt)
  stage_listed (stage.Settle x) there = tt
  stage_listed (stage.Done key cleared left) there = tt

  merge_listed : (a : MergeStage) → MergeCallsThere s a → AllListed (merge_makes place a s)
  merge_listed (merge.Fence x next) there = (fence_listed (object_at (merge_fences x) next).object (merge_version x next) there, tt)
  merge_listed (merge.TakeOurs p) there = (take_listed (our_piece p) there, tt)
  merge_listed (merge.TakeTheirs p ours) there = (take_listed (their_piece p) there, tt)
  merge_listed (merge.Settle x) there = tt
  merge_listed (merge.Done ours theirs refusal) there = tt

  copy_listed : (a : CopyAt) → CopyCallsThere s a → AllListed (copy_makes place a s)
  copy_listed at.Begin there = tt
  copy_listed (at.Copy next) there = stage_listed next there
  copy_listed (at.Merge next) there = merge_listed next there

  step_listed : (c : ℕ) (call : Running) → AreServers s.meta s.targets → 0 < length s.targets → IsCallOf c call → Has c s.meta s.locks (hand_of call) → pieces.Has call → AllListed (makes place call s)
  step_listed c running.Idle h some of has piece = tt
  step_listed c (running.Read r) h some of has piece = read_listed r.at (read_there s c h some r.client r.range r.at piece.0 piece.1 has)
  step_listed c (running.Write w) h some of has piece = write_listed w w.at (write_there s c h some (range_of w) w.at of.1 of.2 has)
  step_listed c (running.Truncate t) h some of has piece = cut_listed t.at (cut_there s c h some t.size t.at of.1 has)
  step_listed c (running.Verify v) h some of has piece = verify_listed v.at (verify_there s c h some v.client v.at piece has)
  step_listed c (running.Copy k) h some of has piece = copy_listed k.at (copy_there s c h some k.at of.3 has)

-- ---- steps that stand in a run

module _ (s : State) (run : IsRun s) (c : ℕ) (asked : Command) (x : CallStep Running) (st : StandsIn s.script s.schedule c asked x) where
  targets_listed : AreListed s.script.fails x.before.targets
  targets_listed =
      subst (λ (u : Servers). AreListed s.script.fails u.targets) (sym st.before_is)
      (subst (λ (script : ScriptView). AreListed script.fails st.old.shared.targets) (standing.old_script s.script s.schedule c asked x st) (standing.old_ground s run c asked x st).listed)

  -- where a call of it failed, the script lists it
  pub fails_listed : AllByRecursion (λ (m : Made). FailsListed s.script.fails m) (made_in x)
  fails_listed =
      subst (λ (ms : List Made). AllByRecursion (λ (m : Made). FailsListed s.script.fails m) ms) (sym (made_as s run c asked x st))
      (step_listed s.script.fails x.place x.before targets_listed c x.call (standing.before_servers s run c asked x st) (standing.some_target s run c asked x st) (standing.call_of s run c asked x st) (standing.call_has s run c asked x st) (standing.call_pieces s run c asked x st))

-- so it is with all steps of a call
pub all_listed : {C : Type 0} (f : C → Running) (s : State) → IsRun s → (c : ℕ) (asked : Command) (steps : List (CallStep C)) → AllStandAs f s.script s.schedule c asked steps
    → AllByRecursion (λ (m : Made). FailsListed s.script.fails m) (flat_map made_in steps)
all_listed f s run c asked [] st = tt
all_listed f s run c asked (x ∷ xs) st =
    all_joined (λ (m : Made). FailsListed s.script.fails m) (made_in x) (flat_map made_in xs) (fails_listed s run c asked (of_kind f x) st.0) (all_listed f s run c asked xs st.1)
