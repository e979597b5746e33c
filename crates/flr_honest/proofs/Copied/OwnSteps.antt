-- What a copy or a merge knows after a step of its own.
use Rattle.std.proofs.Common.{◌≡◌, ℕ, Bool, true, false, cond, nat_lt, Option, Some, None, List, [], ◌∷◌, length, get_or, ◌⊎◌, inl, inr, refl, sym, ap, subst, ◌∙◌}
use Rattle.std.specs.Option.{option_map_or}
use Rattle.std.specs.List.{AllByRecursion}
use Rattle.std.proofs.lemmas.Bool.{false≢true}
use Rattle.flr_base.specs.declared.reply.Reply.{Reply}
use Rattle.composite_layout.specs.Layouts.{Composite}
use Rattle.extent_lock.specs.Extents.{writer_but}
use Rattle.script_values.specs.declared.command.Command.{Command}
use Rattle.script_values.specs.declared.command.Command.TheVariants as command
use Rattle.script_values.specs.Commands.{IsCommand}
use Rattle.mirror_admin.specs.OneStep.{one_step}
use Rattle.meta_server.specs.declared.answers.Begun.{Begun}
use Rattle.meta_server.specs.declared.answers.Begun.TheVariants as begun_as
use Rattle.meta_server.specs.Beginning.{copy_begins}
use Rattle.meta_server.specs.Files.{File, MetaView, file_of}
use Rattle.meta_server.specs.Outcomes.{Gives, Refuses, Waits}
use Rattle.meta_server.specs.Outcomes as meta
use Rattle.call_steps.specs.Servers.{AreThere, Servers}
use Rattle.call_steps.specs.Steps.{Outcome, Going, Fixed, Ended, Answered, Blocked, widen}
use Rattle.client_read.specs.Reads.{read_step}
use Rattle.client_read.specs.Views.{ReadView}
use Rattle.client_write.specs.Calls.{TruncateView, WriteView}
use Rattle.client_write.specs.Truncates.{truncate_step}
use Rattle.client_write.specs.Writes.{write_step}
use Rattle.mirror_verify.specs.Verifies.{verify_step}
use Rattle.mirror_verify.specs.Views.{VerifyView}
use Rattle.resync_copy.specs.declared.merge_phase.MergeStage.TheVariants as merge
use Rattle.resync_copy.specs.declared.phase.CopyAt.{CopyAt}
use Rattle.resync_copy.specs.declared.phase.CopyAt.TheVariants as at
use Rattle.resync_copy.specs.Calls.{CopyView}
use Rattle.resync_copy.specs.Comparing.{ComparingView, comparing_of, merge_fences}
use Rattle.resync_copy.specs.Copies.{stage_at}
use Rattle.resync_copy.specs.Merges.{merge_fences_from, merge_stage_at}
use Rattle.resync_copy.specs.Steps.{begins, copy_at}
use Rattle.resync_copy.specs.Views.{begun_copy}
use Rattle.flr_numbers.specs.Copies.{IsListedAt, copy_hand}
use Rattle.flr_numbers.specs.Hands.{AreMade, AreServers, Has}
use Rattle.flr_numbers.specs.Sentences.{IsCallOf, hand_of}
use Rattle.flr_numbers.proofs.CallFits.{are_there}
use Rattle.flr_numbers.proofs.Clients.{has_now, is_now}
use Rattle.flr_numbers.proofs.Commands.{is_command}
use Rattle.flr_places.proofs.Keeping.{new_same, some_same}
use Rattle.flr_steps.specs.declared.client.Client.{Client}
use Rattle.flr_steps.specs.declared.client.Note.{Note}
use Rattle.flr_steps.specs.declared.client.Note.TheVariants.{Nothing, Adds, Closes}
use Rattle.flr_steps.specs.declared.client.Running.{Running}
use Rattle.flr_steps.specs.declared.client.Running.TheVariants as running
use Rattle.flr_steps.specs.Clients.{call_now, entry, first_now, going, over}
use Rattle.flr_steps.specs.Commands.{answered_by, at_once, step_of}
use Rattle.flr_steps.specs.States.{State, client_at, place_in, stepped}
use Rattle.flr_steps.specs.Steps.{LeavesState}
use Rattle.flr_steps.specs.Traces.{Trace, is_opening, traced}
use Rattle.flr_steps.specs.Traces as traces
use Rattle.flr_claims.specs.Runs.{store_of}
use Rattle.flr_claims.specs.Sending.{Part, attempt_of, part_object}
use Rattle.plain_files.specs.Files.{bytes_of}
use Rattle.flr_sole.specs.Copies.{HasLandedOn}
use Rattle.flr_sole.specs.Copies as sole
use Rattle.flr_sole.proofs.Keeping.{alone, now_opens, written}
use Rattle.flr_bytes.specs.Calls.{CopySays, MergeSays, Says}
use Rattle.flr_bytes.specs.Files as files
use Rattle.flr_bytes.specs.Laws.{StepsKeepBytes}
use Rattle.flr_bytes.specs.Runs.{Honest, IsStep}
use Rattle.flr_bytes.specs.Sentences.{byte_in}
use Rattle.flr_bytes.specs.Fitting.{CopiesFit, IsFit, IsFitAt}
use Rattle.flr_honest.proofs.Copied.Emptying.{fences_say}
use Rattle.flr_honest.proofs.Copied.OwnCopies.{OnBytes, by_stage}
use Rattle.flr_honest.specs.Copied.{OwnCopyFollows}
use Rattle.flr_honest.proofs.Copied.OwnMerges.{by_merge}
use Rattle.flr_honest.proofs.Copied.OwnMeta.{KeepsMeta, merge_meta, stage_meta}

-- a call that isn't to open its file or to begin was under way
pub under_way : (c : ℕ) (asked : Command) (call now : Running) → call_now c call asked ≡ now → is_opening now ≡ false → call ≡ now
under_way c asked running.Idle now e past = absurd (false≢true (sym past ∙ ap is_opening (sym e) ∙ now_opens c asked running.Idle refl))
under_way c asked (running.Read call) now e past = e
under_way c asked (running.Write call) now e past = e
under_way c asked (running.Truncate call) now e past = e
under_way c asked (running.Copy call) now e past = e
under_way c asked (running.Verify call) now e past = e

-- a copy that has just begun knows what it has to, whatever the bytes
module _ (byte : ℕ → ℕ → ℕ) (k : CopyView) (s : Servers) where
  merge_begun : (after : MetaView) (x : ComparingView) (next : ℕ) → MergeSays after byte (merge_fences_from x next)
  merge_begun after x next = by (nat_lt next (length (merge_fences x)))
    where
      by : (b : Bool) → MergeSays after byte (cond b (merge.Fence x next) (merge.Settle x))
      by true = tt
      by false = tt

  begun_knows : (o : meta.Outcome Begun) → OnBytes byte (begins k s o)
  begun_knows (Gives begun_as.Nothing after) = tt
  begun_knows (Gives (begun_as.Copy side ids) after) = fences_say (record s { meta = after }) byte (begun_copy side ids) 0
  begun_knows (Gives (begun_as.Merge ours theirs) after) = merge_begun after (comparing_of ours theirs) 0
  begun_knows (Refuses refusal) = tt
  begun_knows (Waits holder) = tt

-- where a call goes on as a copy it knows what it has to by the new bytes; or by the old ones, and the metadata server is as it was
abbrev OnOwn : (ℕ → ℕ → ℕ) → (ℕ → ℕ → ℕ) → MetaView → Type 0 → Outcome Running → Type 0
OnOwn old new m none (Going next after) = (q : CopyView) → next ≡ running.Copy q → CopySays after new q.at ⊎ (CopySays after old q.at × (after.meta ≡ m) × none)
OnOwn old new m none (Fixed next reply takes after) = (q : CopyView) → next ≡ running.Copy q → CopySays after new q.at ⊎ (CopySays after old q.at × (after.meta ≡ m) × none)
OnOwn old new m none (Ended after) = Unit {0}
OnOwn old new m none (Answered reply takes after) = Unit {0}
OnOwn old new m none (Blocked holder) = Unit {0}

module _ (old new : ℕ → ℕ → ℕ) (m : MetaView) (none : Type 0) where
  by_new : (o : Outcome CopyView) → OnBytes new o → OnOwn old new m none (widen running.Copy o)
  by_new (Going next after) k = λ q e. inl (let same : next ≡ q = cc in subst (λ (x : CopyView). CopySays after new x.at) same k)
  by_new (Fixed next reply takes after) k = λ q e. inl (let same : next ≡ q = cc in subst (λ (x : CopyView). CopySays after new x.at) same k)
  by_new (Ended after) k = tt
  by_new (Answered reply takes after) k = tt
  by_new (Blocked holder) k = tt

  by_old : (o : Outcome CopyView) → OnBytes old o → KeepsMeta m o → none → OnOwn old new m none (widen running.Copy o)
  by_old (Going next after) k stays w = λ q e. inr (let same : next ≡ q = cc in subst (λ (x : CopyView). CopySays after old x.at) same k, stays, w)
  by_old (Fixed next reply takes after) k stays w = λ q e. inr (let same : next ≡ q = cc in subst (λ (x : CopyView). CopySays after old x.at) same k, stays, w)
  by_old (Ended after) k stays w = tt
  by_old (Answered reply takes after) k stays w = tt
  by_old (Blocked holder) k stays w = tt

  other_reads : (o : Outcome ReadView) → OnOwn old new m none (widen running.Read o)
  other_reads (Going next after) = λ q e. absurd (cc)
  other_reads (Fixed next reply takes after) = λ q e. absurd (cc)
  other_reads (Ended after) = tt
  other_reads (Answered reply takes after) = tt
  other_reads (Blocked holder) = tt

  other_writes : (o : Outcome WriteView) → OnOwn old new m none (widen running.Write o)
  other_writes (Going next after) = λ q e. absurd (cc)
  other_writes (Fixed next reply takes after) = λ q e. absurd (cc)
  other_writes (Ended after) = tt
  other_writes (Answered reply takes after) = tt
  other_writes (Blocked holder) = tt

  other_cuts : (o : Outcome TruncateView) → OnOwn old new m none (widen running.Truncate o)
  other_cuts (Going next after) = λ q e. absurd (cc)
  other_cuts (Fixed next reply takes after) = λ q e. absurd (cc)
  other_cuts (Ended after) = tt
  other_cuts (Answered reply takes after) = tt
  other_cuts (Blocked holder) = tt

  other_verifies : (o : Outcome VerifyView) → OnOwn old new m none (widen running.Verify o)
  other_verifies (Going next after) = λ q e. absurd (cc)
  other_verifies (Fixed next reply takes after) = λ q e. absurd (cc)
  other_verifies (Ended after) = tt
  other_verifies (Answered reply takes after) = tt
  other_verifies (Blocked holder) = tt

  answers : (s : Servers) (o : meta.Outcome Reply) → OnOwn old new m none (answered_by s o)
  answers s (Gives answer after) = tt
  answers s (Refuses answer) = tt
  answers s (Waits holder) = tt

  once : (c place : ℕ) (s : Servers) (asked : Command) → OnOwn old new m none (at_once c asked place s)
  once c place s (command.Lfs of) = answers s (one_step c of place s.meta)
  once c place s (command.Evict other) = tt
  once c place s (command.Rot object offset byte) = tt
  once c place s (command.Read name offset len) = tt
  once c place s (command.Write name offset bytes) = tt
  once c place s (command.Truncate name size) = tt

each_there : (m : MetaView) (s : Servers) → AreServers m s.targets → (ls : List Composite) → AllByRecursion (AreMade m) ls → AllByRecursion (λ (l : Composite). AreThere s.targets l.components) ls
each_there m s h [] made = tt
each_there m s h (l ∷ ls) made = (are_there m s.targets l h made.0, each_there m s h ls made.1)

-- where the metadata server is as it was and the client has no attempt, all bytes of plain files stay
module _ (keep : StepsKeepBytes) (s t : State) (old new : Trace) (c : ℕ) (is : IsStep s t old new c) (e : new ≡ traced s t old c) (honest : Honest s old) where
  none_closes : attempt_of is.step.client.call ≡ None → (n x : ℕ) → files.Closes s t old new c n x → ⊥
  none_closes none n x w =
      let one : w.was.attempting.client ≡ is.step.client = some_same w.was.attempting.client is.step.client (sym w.was.attempting.here ∙ is.step.here) in
      let both : None ≡ Some w.was.attempt = sym none ∙ ap (λ (k : Client). attempt_of k.call) (sym one) ∙ w.was.attempting.attempt in
      (cc)

  pub bytes_stay : t.shared.meta ≡ s.shared.meta → attempt_of is.step.client.call ≡ None → byte_in s old ≡ byte_in t new
  bytes_stay same none = λ j n x. each n x j
    where
      there : (n x : ℕ) (o : Option File) → file_of n s.shared.meta.files ≡ o → byte_in s old n x ≡ byte_in t new n x
      there n x None absent =
          ap (λ (q : Option File). get_or (option_map_or (λ (f : File). bytes_of (store_of s old) f.name) q []) x 0) absent
          ∙ sym (ap (λ (q : Option File). get_or (option_map_or (λ (f : File). bytes_of (store_of t new) f.name) q []) x 0) (ap (λ (m : MetaView). file_of n m.files) same ∙ absent))
      there n x (Some f) found = by (keep s t old new c is e honest.sized n x f f found (ap (λ (m : MetaView). file_of n m.files) same ∙ found))
        where
          by : (byte_in t new n x ≡ byte_in s old n x) ⊎ files.Closes s t old new c n x → byte_in s old n x ≡ byte_in t new n x
          by (inl stays) = sym stays
          by (inr closes) = absurd (none_closes none n x closes)

      each : (n x : ℕ) → byte_in s old n x ≡ byte_in t new n x
      each n x = there n x (file_of n s.shared.meta.files) refl

module _ (keep : StepsKeepBytes) (s t : State) (old new : Trace) (c : ℕ) (is : IsStep s t old new c) (e : new ≡ traced s t old c) (honest : Honest s old) (fits : CopiesFit s) where
  abbrev m : MetaView
  m = s.shared.meta

  abbrev client : Client
  client = is.step.client

  abbrev call : Running
  call = call_now c client.call is.step.asked

  abbrev lands : ℕ → Part → Type 0
  lands n p = HasLandedOn s old n p

  good : IsCommand s.script.most s.script.targets (length s.script.clients) is.step.asked
  good = is_command s.script c client.done is.step.asked is.before.holds.script is.step.commanded

  of_call : IsCallOf c call
  of_call = is_now c s.shared is.step.asked s.script.most s.script.targets (length s.script.clients) is.before.holds.script.form.few_mirrors is.before.holds.script.form.few_clients good client.call (is.before.holds.clients c client is.step.here).call

  has : Has c m s.shared.locks (hand_of call)
  has = has_now c s.shared is.step.asked s.script.most s.script.targets (length s.script.clients) is.before.holds.script.form.few_mirrors is.before.holds.script.form.few_clients good client.call (is.before.holds.clients c client is.step.here).has

  -- a copy that was under way
  module _ (k : CopyView) (now : call ≡ running.Copy k) where
    there : AllByRecursion (λ (l : Composite). AreThere s.shared.targets l.components) (copy_hand k.at).copied
    there = each_there m s.shared is.before.holds.servers (copy_hand k.at).copied (subst (λ (x : Running). Has c m s.shared.locks (hand_of x)) now has).made

    own : IsCallOf c (running.Copy k)
    own = subst (IsCallOf c) now of_call

    under : traces.copy_begins k.at ≡ false → client.call ≡ running.Copy k
    under past = under_way c is.step.asked client.call (running.Copy k) now past

    writes : attempt_of client.call ≡ None → (n : ℕ) (p : Part) → lands n p → writer_but s.shared.locks k.client (part_object p) ≡ None → ⊥
    writes none n p landed free = written s c old is.before.holds is.before.known is.before.locked is.before.sole client is.step.here none n p landed (ap (λ (i : ℕ). writer_but s.shared.locks i (part_object p)) (sym own.0) ∙ free)

    none : client.call ≡ running.Copy k → attempt_of client.call ≡ None
    none under = ap attempt_of under

    sole_says : client.call ≡ running.Copy k → sole.CopySays m s.shared.targets lands k.at
    sole_says under = subst (λ (x : Running). sole.Says m s.shared.targets lands x) under (is.before.sole.copies c client is.step.here)

    byte_says : client.call ≡ running.Copy k → CopySays s.shared (byte_in s old) k.at
    byte_says under = subst (λ (x : Running). Says s.shared (byte_in s old) x) under (honest.calls c client is.step.here)

    fit : client.call ≡ running.Copy k → IsFitAt k.at
    fit under = subst IsFit under (fits c client is.step.here)

    by_at : (a : CopyAt) → k.at ≡ a → OnOwn (byte_in s old) (byte_in t new) m (attempt_of client.call ≡ None) (widen running.Copy (copy_at a k s.shared))
    by_at at.Begin at_begin = by_new (byte_in s old) (byte_in t new) m (attempt_of client.call ≡ None) (begins k s.shared (copy_begins k.client k.name k.what m)) (begun_knows (byte_in t new) k s.shared (copy_begins k.client k.name k.what m))
    by_at (at.Copy next) here =
        let u : client.call ≡ running.Copy k = under (ap traces.copy_begins here) in
        by_old (byte_in s old) (byte_in t new) m (attempt_of client.call ≡ None) (stage_at next k s.shared)
        (by_stage s old is.before honest k (alone s c old is.before.holds is.before.known is.before.locked is.before.sole) (writes (none u)) next
        (subst IsFitAt here (fit u))
        (subst (λ (a : CopyAt). AllByRecursion (λ (l : Composite). AreThere s.shared.targets l.components) (copy_hand a).copied) here there)
        (subst IsListedAt here own.3)
        (subst (λ (a : CopyAt). sole.CopySays m s.shared.targets lands a) here (sole_says u))
        (subst (λ (a : CopyAt). CopySays s.shared (byte_in s old) a) here (byte_says u)))
        (stage_meta k s.shared next) (none u)
    by_at (at.Merge next) here =
        let u : client.call ≡ running.Copy k = under (ap traces.copy_begins here) in
        by_old (byte_in s old) (byte_in t new) m (attempt_of client.call ≡ None) (merge_stage_at next k s.shared)
        (by_merge s old is.before honest k (alone s c old is.before.holds is.before.known is.before.locked is.before.sole) (writes (none u)) next
        (subst IsFitAt here (fit u))
        (subst (λ (a : CopyAt). sole.CopySays m s.shared.targets lands a) here (sole_says u))
        (subst (λ (a : CopyAt). CopySays s.shared (byte_in s old) a) here (byte_says u)))
        (merge_meta k s.shared next) (none u)

  own_by : (now : Running) → call ≡ now → OnOwn (byte_in s old) (byte_in t new) m (attempt_of client.call ≡ None) (step_of now c is.step.asked (place_in s) s.shared)
  own_by running.Idle now = once (byte_in s old) (byte_in t new) m (attempt_of client.call ≡ None) c (place_in s) s.shared is.step.asked
  own_by (running.Read k) now = other_reads (byte_in s old) (byte_in t new) m (attempt_of client.call ≡ None) (read_step k (place_in s) s.shared)
  own_by (running.Write k) now = other_writes (byte_in s old) (byte_in t new) m (attempt_of client.call ≡ None) (write_step k (place_in s) s.shared)
  own_by (running.Truncate k) now = other_cuts (byte_in s old) (byte_in t new) m (attempt_of client.call ≡ None) (truncate_step k (place_in s) s.shared)
  own_by (running.Copy k) now = by_at k now k.at refl
  own_by (running.Verify k) now = other_verifies (byte_in s old) (byte_in t new) m (attempt_of client.call ≡ None) (verify_step k (place_in s) s.shared)

  -- who goes on is the client then
  going_call : (x : Client) (q : CopyView) (then : Client) (after : Servers) (note : Note) → t ≡ stepped s c then after note → client_at t.clients c ≡ Some x → x.call ≡ running.Copy q → then.call ≡ running.Copy q
  going_call x q then after note left there copies =
      let same : then ≡ x = some_same then x (sym (new_same s.clients c client then is.step.here) ∙ ap (λ (u : State). client_at u.clients c) (sym left) ∙ there) in
      ap (λ (k : Client). k.call) same ∙ copies

  on_going : (q : CopyView) (after : Servers) → CopySays after (byte_in t new) q.at ⊎ (CopySays after (byte_in s old) q.at × (after.meta ≡ m) × (attempt_of client.call ≡ None)) → t.shared ≡ after → CopySays t.shared (byte_in t new) q.at
  on_going q after (inl says) same = subst (λ (v : Servers). CopySays v (byte_in t new) q.at) (sym same) says
  on_going q after (inr w) same =
      subst (λ (byte : ℕ → ℕ → ℕ). CopySays t.shared byte q.at) (bytes_stay keep s t old new c is e honest (ap (λ (v : Servers). v.meta) same ∙ w.1) w.2)
      (subst (λ (v : Servers). CopySays v (byte_in s old) q.at) (sym same) w.0)

  -- what it knows then
  left_says : (first : ℕ) (came : Outcome Running) → OnOwn (byte_in s old) (byte_in t new) m (attempt_of client.call ≡ None) came → LeavesState s c client first came t → (x : Client) (q : CopyView) → client_at t.clients c ≡ Some x → x.call ≡ running.Copy q → CopySays t.shared (byte_in t new) q.at
  left_says first (Going next after) on left x q there copies = on_going q after (on q (going_call x q (going client first next) after Nothing left there copies)) (ap (λ (u : State). u.shared) left)
  left_says first (Fixed next reply takes after) on left x q there copies = on_going q after (on q (going_call x q (going client first next) after (Adds (entry c client first (place_in s) 0 reply takes)) left there copies)) (ap (λ (u : State). u.shared) left)
  left_says first (Ended after) on left x q there copies = absurd (let no = going_call x q (over client first) after Closes left there copies in cc)
  left_says first (Answered reply takes after) on left x q there copies = absurd (let no = going_call x q (over client first) after (Adds (entry c client first (place_in s) (place_in s) reply takes)) left there copies in cc)
  left_says first (Blocked holder) on left x q there copies = absurd left

  pub own_says : (x : Client) (q : CopyView) → client_at t.clients c ≡ Some x → x.call ≡ running.Copy q → CopySays t.shared (byte_in t new) q.at
  own_says = left_says (first_now client.call (place_in s) client.first) is.step.came (subst (OnOwn (byte_in s old) (byte_in t new) m (attempt_of client.call ≡ None)) is.step.made (own_by call refl)) is.step.left

-- what copies and merges know after steps of their own
pub own_copy_follows : OwnCopyFollows
own_copy_follows keep s t old new c is e honest x q there copies = own_says keep s t old new c is e honest is.before.fit x q there copies
