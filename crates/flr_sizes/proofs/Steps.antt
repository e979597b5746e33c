-- How long files are after each step of a client.
use Rattle.std.proofs.Common.{◌≡◌, ℕ, zero, suc, ◌-◌, ◌≤◌, Option, Some, None, List, [], ◌∷◌, length, set, refl, sym, ap, subst, arith}
use Rattle.std.specs.Prelude.{slice_get, slice_index_or}
use Rattle.std.specs.List.{AllByRecursion}
use Rattle.flr_base.specs.declared.reply.Reply.{Reply}
use Rattle.flr_base.specs.declared.reply.Reply.TheVariants as reply
use Rattle.lfs_words.specs.declared.command.LfsCommand.{LfsCommand}
use Rattle.lfs_words.specs.declared.command.LfsCommand.TheVariants as lfs
use Rattle.lfs_words.specs.declared.command.SplitTo.{SplitTo}
use Rattle.lfs_words.specs.declared.command.SplitTo.TheVariants as split
use Rattle.script_values.specs.declared.command.Command.{Command}
use Rattle.script_values.specs.declared.command.Command.TheVariants as command
use Rattle.script_values.specs.Scripts.{ScriptView, all_commands}
use Rattle.script_values.specs.Work.{end_of, greatest_by}
use Rattle.script_values.proofs.Measures.{greatest-append, greatest-cons}
use Rattle.meta_server.specs.Files.{File, file_named}
use Rattle.meta_server.specs.Naming.{creates, removes, sets}
use Rattle.flr_base.specs.Limits.{most_bytes}
use Rattle.meta_server.specs.Outcomes.{Gives, Refuses, Waits}
use Rattle.meta_server.specs.Outcomes as meta
use Rattle.meta_laws.specs.Calls.{Call, Create, Evict, Remove, Set, after_call, left_by}
use Rattle.lfs_words.specs.Naming.{default_name}
use Rattle.mirror_admin.specs.OneStep.{answered, one_step, shows}
use Rattle.call_steps.specs.Servers.{Servers}
use Rattle.call_steps.specs.Steps.{Outcome, Going, Fixed, Ended, Answered, Blocked}
use Rattle.client_read.specs.Reads.{read_step}
use Rattle.client_read.specs.Views.{ReadView}
use Rattle.client_write.specs.Truncates.{truncate_step}
use Rattle.client_write.specs.Writes.{write_step}
use Rattle.mirror_verify.specs.Verifies.{verify_step}
use Rattle.mirror_verify.specs.Views.{VerifyView}
use Rattle.resync_copy.specs.Calls.{CopyView}
use Rattle.resync_copy.specs.Steps.{copy_step}
use Rattle.flr_steps.specs.declared.client.Client.{Client}
use Rattle.flr_steps.specs.declared.client.Running.{Running}
use Rattle.flr_steps.specs.declared.client.Running.TheVariants as running
use Rattle.flr_steps.specs.Clients.{call_now, first_now, going, over}
use Rattle.flr_steps.specs.Commands.{answered_by, at_once, begun, begun_lfs, step_of}
use Rattle.flr_steps.specs.States.{State, client_at, place_in}
use Rattle.flr_steps.specs.Steps.{LeavesState, StepIs}
use Rattle.script_values.specs.Commands.{IsCommand}
use Rattle.flr_numbers.specs.Sentences.{Holds, IsCallOf}
use Rattle.flr_numbers.proofs.Clients.{is_now}
use Rattle.flr_numbers.proofs.Commands.{is_command}
use Rattle.flr_sizes.specs.Laws.{AreShort, end_of_script}
use Rattle.flr_sizes.proofs.Calls.{Any, CutsBelow, EndsBelow, read_comes, truncate_comes, verify_comes, write_comes}
use Rattle.flr_sizes.proofs.Copies.{copy_comes}
use Rattle.flr_sizes.proofs.Leading.{Comes, by_call, widened}

-- ---- the greatest end

greatest_got : (f : Command → ℕ) (cs : List Command) (i : ℕ) (x : Command) → slice_get cs i ≡ Some x → f x ≤ greatest_by f cs
greatest_got f [] i x e = absurd (cc e)
greatest_got f (y ∷ ys) zero x e =
    let same : y ≡ x = cc e in
    let one : f y ≡ f x = ap f same in
    let more = greatest-cons f y ys in
    omega (arith, more, one)
greatest_got f (y ∷ ys) (suc i) x e = let rest = greatest_got f ys i x e in let more = greatest-cons f y ys in omega (arith, rest, more)

greatest_all : (f : Command → ℕ) (owns : List (List Command)) (i done : ℕ) (asked : Command) → slice_get (slice_index_or owns i []) done ≡ Some asked → f asked ≤ greatest_by f (all_commands owns)
greatest_all f [] i done asked e = absurd (cc e)
greatest_all f (own ∷ more) zero done asked e = let here = greatest_got f own done asked e in let both = greatest-append f own (all_commands more) in omega (arith, here, both)
greatest_all f (own ∷ more) (suc i) done asked e = let rest = greatest_all f more i done asked e in let both = greatest-append f own (all_commands more) in omega (arith, rest, both)

-- the greatest end that commands name
abbrev pub cap_of : ScriptView → ℕ
cap_of script = greatest_by end_of (all_commands script.clients)

-- ---- calls

-- a call makes no file end behind this
abbrev pub IsBelow : ℕ → Running → Type 0
IsBelow cap running.Idle = Unit {0}
IsBelow cap (running.Read call) = Unit {0}
IsBelow cap (running.Write call) = EndsBelow cap call
IsBelow cap (running.Truncate call) = CutsBelow cap call
IsBelow cap (running.Copy call) = Unit {0}
IsBelow cap (running.Verify call) = Unit {0}

lfs_below : (cap c : ℕ) (of : LfsCommand) → IsBelow cap (begun_lfs c of)
lfs_below cap c (lfs.Resync name only) = tt
lfs_below cap c (lfs.Extend name spec) = tt
lfs_below cap c (lfs.ExtendBy name victim) = tt
lfs_below cap c (lfs.Verify name) = tt
lfs_below cap c (lfs.SetStripe name spec) = tt
lfs_below cap c (lfs.GetStripe name) = tt
lfs_below cap c (lfs.CompSet name id change) = tt
lfs_below cap c (lfs.Create name spec) = tt
lfs_below cap c (lfs.Split name mirror to) = tt
lfs_below cap c (lfs.Delete name mirror) = tt

begun_below : (cap c : ℕ) (asked : Command) → end_of asked ≤ cap → IsBelow cap (begun c asked)
begun_below cap c (command.Read name offset len) h = tt
begun_below cap c (command.Write name offset bytes) h = h
begun_below cap c (command.Truncate name size) h = h
begun_below cap c (command.Lfs of) h = lfs_below cap c of
begun_below cap c (command.Evict other) h = tt
begun_below cap c (command.Rot object offset byte) h = tt

now_below : (cap c : ℕ) (asked : Command) (call : Running) → end_of asked ≤ cap → IsBelow cap call → IsBelow cap (call_now c call asked)
now_below cap c asked running.Idle h k = begun_below cap c asked h
now_below cap c asked (running.Read call) h k = k
now_below cap c asked (running.Write call) h k = k
now_below cap c asked (running.Truncate call) h k = k
now_below cap c asked (running.Copy call) h k = k
now_below cap c asked (running.Verify call) h k = k

-- ---- commands of one step

module _ (cap most c place : ℕ) (s : Servers) (h : AreShort most s.meta.files) where
  by_one : (call : Call) (o : meta.Outcome Reply) → left_by o s.meta ≡ after_call call s.meta → ((new : Servers) → new.meta ≡ after_call call s.meta → AreShort most new.meta.files) → Comes most (IsBelow cap) (answered_by s o)
  by_one call (Gives answer after) e short = short (record s { meta = after }) e
  by_one call (Refuses answer) e short = h
  by_one call (Waits holder) e short = tt

  same_left : (answer : Reply) (o : meta.Outcome (Unit {0})) → left_by (answered answer o) s.meta ≡ left_by o s.meta
  same_left answer (Gives given after) = refl
  same_left answer (Refuses refusal) = refl
  same_left answer (Waits holder) = refl

  shows_comes : (name : List ℕ) (o : Option File) → Comes most (IsBelow cap) (answered_by s (shows name s.meta o))
  shows_comes name None = h
  shows_comes name (Some f) = h

  removed : (name : List ℕ) (mirror : ℕ) (to : Option (List ℕ)) (answer : Reply) → Comes most (IsBelow cap) (answered_by s (answered answer (removes c name mirror to place s.meta)))
  removed name mirror to answer =
      by_one (Remove c name mirror to place) (answered answer (removes c name mirror to place s.meta)) (same_left answer (removes c name mirror to place s.meta)) (λ new e. by_call most (Remove c name mirror to place) s.meta new.meta e tt h)

  splits_comes : (name : List ℕ) (mirror : ℕ) (to : SplitTo) → Comes most (IsBelow cap) (answered_by s (one_step c (lfs.Split name mirror to) place s.meta))
  splits_comes name mirror split.Default = removed name mirror (Some (default_name name mirror)) (reply.Split (default_name name mirror))
  splits_comes name mirror (split.Named new) = removed name mirror (Some new) (reply.Split new)
  splits_comes name mirror split.Destroy = removed name mirror None (reply.Removed mirror)

  lfs_comes : (of : LfsCommand) → Comes most (IsBelow cap) (answered_by s (one_step c of place s.meta))
  lfs_comes (lfs.SetStripe name spec) = by_one (Create name spec) (answered reply.Created (creates name spec s.meta)) (same_left reply.Created (creates name spec s.meta)) (λ new e. by_call most (Create name spec) s.meta new.meta e tt h)
  lfs_comes (lfs.GetStripe name) = shows_comes name (file_named name s.meta.files)
  lfs_comes (lfs.CompSet name id change) =
      by_one (Set c name id change place) (answered reply.Set (sets c name id change place s.meta)) (same_left reply.Set (sets c name id change place s.meta)) (λ new e. by_call most (Set c name id change place) s.meta new.meta e tt h)
  lfs_comes (lfs.Create name spec) = by_one (Create name spec) (answered reply.Created (creates name spec s.meta)) (same_left reply.Created (creates name spec s.meta)) (λ new e. by_call most (Create name spec) s.meta new.meta e tt h)
  lfs_comes (lfs.Extend name spec) = h
  lfs_comes (lfs.ExtendBy name victim) = h
  lfs_comes (lfs.Split name mirror to) = splits_comes name mirror to
  lfs_comes (lfs.Delete name mirror) = removed name mirror None (reply.Removed mirror)
  lfs_comes (lfs.Resync name only) = h
  lfs_comes (lfs.Verify name) = h

  once_comes : (asked : Command) → Comes most (IsBelow cap) (at_once c asked place s)
  once_comes (command.Read name offset len) = tt
  once_comes (command.Write name offset bytes) = tt
  once_comes (command.Truncate name size) = tt
  once_comes (command.Lfs of) = lfs_comes of
  once_comes (command.Evict other) = by_call most (Evict other place) s.meta (after_call (Evict other place) s.meta) refl tt h
  once_comes (command.Rot object offset byte) = h

-- ---- each step

module _ (cap most : ℕ) (both : (n : ℕ) → n ≤ cap → n ≤ most_bytes → n ≤ most) where
  step_comes : (c place : ℕ) (s : Servers) (call : Running) (asked : Command) → AreShort most s.meta.files → IsCallOf c call → IsBelow cap call → Comes most (IsBelow cap) (step_of call c asked place s)
  step_comes c place s running.Idle asked h is low = once_comes cap most c place s h asked
  step_comes c place s (running.Read call) asked h is low = widened most (Any {C = ReadView}) (IsBelow cap) running.Read (λ x k. tt) (read_step call place s) (read_comes most call s h call.at)
  step_comes c place s (running.Write call) asked h is low = widened most (EndsBelow cap) (IsBelow cap) running.Write (λ x k. k) (write_step call place s) (write_comes cap most both call s place low h call.at is.1 is.2)
  step_comes c place s (running.Truncate call) asked h is low = widened most (CutsBelow cap) (IsBelow cap) running.Truncate (λ x k. k) (truncate_step call place s) (truncate_comes cap most both call s place low h call.at is.1)
  step_comes c place s (running.Copy call) asked h is low = widened most (Any {C = CopyView}) (IsBelow cap) running.Copy (λ x k. tt) (copy_step call place s) (copy_comes most call s h call.at)
  step_comes c place s (running.Verify call) asked h is low = widened most (Any {C = VerifyView}) (IsBelow cap) running.Verify (λ x k. tt) (verify_step call place s) (verify_comes most call s h call.at)

-- ---- lists of clients

module _ (P : Client → Type 0) where
  got : (xs : List Client) (i : ℕ) (x : Client) → AllByRecursion P xs → slice_get xs i ≡ Some x → P x
  got [] i x h e = absurd (cc)
  got (y ∷ ys) zero x h e = let same : y ≡ x = cc in subst P same h.0
  got (y ∷ ys) (suc i) x h e = got ys i x h.1 e

  pub got_at : (xs : List Client) (c : ℕ) (x : Client) → AllByRecursion P xs → client_at xs c ≡ Some x → P x
  got_at xs zero x h e = absurd (cc)
  got_at xs (suc c) x h e = got xs c x h e

  pub put : (xs : List Client) (i : ℕ) (x : Client) → AllByRecursion P xs → P x → AllByRecursion P (set xs i x)
  put [] i x h k = tt
  put (y ∷ ys) zero x h k = (k, h.1)
  put (y ∷ ys) (suc i) x h k = (h.0, put ys i x h.1 k)

-- ---- the state

-- files are short, and no call makes one longer
pub record IsShort (s : State) : Type 0 where
  pub files : AreShort (end_of_script s.script) s.shared.meta.files
  pub calls : AllByRecursion (λ (client : Client). IsBelow (cap_of s.script) client.call) s.clients

module _ (s : State) (c : ℕ) (client : Client) (first : ℕ) (h : IsShort s) where
  abbrev Below : Client → Type 0
  Below x = IsBelow (cap_of s.script) x.call

  left_short : (came : Outcome Running) (t : State) → Comes (end_of_script s.script) (IsBelow (cap_of s.script)) came → LeavesState s c client first came t → IsShort t
  left_short (Going next after) t k left = subst IsShort (sym left) (record { files = k.1; calls = put Below s.clients (c - 1) (going client first next) h.calls k.0 })
  left_short (Fixed next reply takes after) t k left = subst IsShort (sym left) (record { files = k.1; calls = put Below s.clients (c - 1) (going client first next) h.calls k.0 })
  left_short (Ended after) t k left = subst IsShort (sym left) (record { files = k; calls = put Below s.clients (c - 1) (over client first) h.calls tt })
  left_short (Answered reply takes after) t k left = subst IsShort (sym left) (record { files = k; calls = put Below s.clients (c - 1) (over client first) h.calls tt })
  left_short (Blocked holder) t k left = absurd left

-- each step leaves files short
pub step_short : (s t : State) (c : ℕ) → Holds s → IsShort s → StepIs s c t → IsShort t
step_short s t c h short step =
    let client : Client = step.client in
    let good : IsCommand s.script.most s.script.targets (length s.script.clients) step.asked = is_command s.script c client.done step.asked h.script step.commanded in
    let is : IsCallOf c (call_now c client.call step.asked) = is_now c s.shared step.asked s.script.most s.script.targets (length s.script.clients) h.script.form.few_mirrors h.script.form.few_clients good client.call (h.clients c client step.here).call in
    let asks : end_of step.asked ≤ cap_of s.script = greatest_all end_of s.script.clients (c - 1) client.done step.asked step.commanded in
    let low : IsBelow (cap_of s.script) (call_now c client.call step.asked) =
    now_below (cap_of s.script) c step.asked client.call asks (got_at (λ (x : Client). IsBelow (cap_of s.script) x.call) s.clients c client short.calls step.here) in
    left_short s c client (first_now client.call (place_in s) client.first) short step.came t
    (subst (λ (o : Outcome Running). Comes (end_of_script s.script) (IsBelow (cap_of s.script)) o) step.made
    (step_comes (cap_of s.script) (end_of_script s.script) (λ n a b. omega (arith, a, b)) c (place_in s) s.shared (call_now c client.call step.asked) step.asked short.files is low)) step.left
