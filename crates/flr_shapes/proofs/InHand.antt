-- Each step leaves each object with one shape in the files and in the layouts in hand.
use Rattle.std.proofs.Common.{◌≡◌, ℕ, ◌<◌, ◌-◌, Option, Some, None, IfSome, List, [], ◌∷◌, length, set, get_or, ◌⊎◌, inl, inr, refl, sym, ap, subst, ◌∙◌, arith}
use Rattle.std.specs.List.{AllByRecursion}
use Rattle.std.proofs.lemmas.Bool.{cases_eq}
use Rattle.flr_base.specs.declared.reply.ObjectId.{ObjectId}
use Rattle.flr_base.specs.declared.reply.Reply.{Reply}
use Rattle.composite_layout.specs.Layouts.{Composite}
use Rattle.extent_lock.specs.declared.lock.Lock.{Lock}
use Rattle.lfs_words.specs.declared.command.LfsCommand.{LfsCommand}
use Rattle.lfs_words.specs.declared.command.LfsCommand.TheVariants as lfs
use Rattle.script_values.specs.declared.command.Command.{Command}
use Rattle.script_values.specs.declared.command.Command.TheVariants as command
use Rattle.script_values.specs.Commands.{IsCommand}
use Rattle.script_values.specs.Scripts.{IsScript, ScriptView}
use Rattle.meta_server.specs.declared.answers.Opened.{Opened}
use Rattle.meta_server.specs.Files.{MetaView, with_share}
use Rattle.meta_server.specs.Outcomes.{Gives, Refuses, Waits}
use Rattle.meta_server.specs.Outcomes as meta
use Rattle.meta_server.specs.Sound.{IsSound}
use Rattle.meta_laws.proofs.Finding.{same_found}
use Rattle.mirror_admin.specs.OneStep.{one_step}
use Rattle.call_steps.specs.Servers.{Servers}
use Rattle.call_steps.specs.Steps.{Outcome, Going, Fixed, Ended, Answered, Blocked, widen}
use Rattle.client_read.specs.Reads.{read_step}
use Rattle.client_write.specs.Truncates.{truncate_step}
use Rattle.client_write.specs.Writes.{write_step}
use Rattle.mirror_verify.specs.Verifies.{verify_step}
use Rattle.resync_copy.specs.Calls.{CopyView}
use Rattle.resync_copy.specs.Steps.{copy_step}
use Rattle.flr_steps.specs.declared.client.Client.{Client}
use Rattle.flr_steps.specs.declared.client.Note.{Note}
use Rattle.flr_steps.specs.declared.client.Note.TheVariants.{Nothing, Adds, Closes}
use Rattle.flr_steps.specs.declared.client.Running.{Running}
use Rattle.flr_steps.specs.declared.client.Running.TheVariants as running
use Rattle.flr_steps.specs.Clients.{call_now, entry, first_now, going, over}
use Rattle.flr_steps.specs.Commands.{answered_by, at_once, begun, begun_lfs, step_of}
use Rattle.flr_steps.specs.States.{IsRun, State, client_at, place_in, start, stepped}
use Rattle.flr_steps.specs.Steps.{LeavesState, StepIs}
use Rattle.flr_steps.proofs.Inversion.{step_is}
use Rattle.flr_numbers.specs.Calls.{hand_of_read, hand_of_truncate, hand_of_verify, hand_of_write}
use Rattle.flr_numbers.specs.Copies.{hand_of_copy}
use Rattle.flr_numbers.specs.Frames.{IsUnmade}
use Rattle.flr_numbers.specs.Hands.{AreMade, Has}
use Rattle.flr_numbers.specs.Laws.{LeaveRoom}
use Rattle.flr_numbers.specs.Sentences.{HasRoom, Holds, IsCallOf, hand_of}
use Rattle.flr_numbers.proofs.Clients.{is_now}
use Rattle.flr_numbers.proofs.Commands.{is_command}
use Rattle.flr_numbers.proofs.Keeping.{step_holds}
use Rattle.flr_locks.proofs.Runs.{keep_always}
use Rattle.flr_places.proofs.Keeping.{new_other, new_same, some_same}
use Rattle.flr_places.proofs.Opened.{OfOpen, OnOpen, Opens, step_on}
use Rattle.flr_places.proofs.Runs.{new_at}
use Rattle.flr_shapes.specs.Sentences.{HasShape, HasShapeAmong, HaveOneShape, IsShapeIn, IsShapeInHand, IsShapeOf, Shape, layout_of, layouts_of}
use Rattle.flr_shapes.proofs.Copied.{OnLayouts, WereSeen, copy_seen}
use Rattle.flr_shapes.proofs.Keeping.{standing_made, start_agrees, step_keeps}
use Rattle.flr_shapes.proofs.Single.{one_shape, stripe_counted}

-- ---- layouts of open files

-- each shape in the layout of the open file is one in these layouts, or in the layout of a file
abbrev SeenOpen : List Composite → MetaView → Opened → Type 0
SeenOpen before m x = (o : ObjectId) (shape : Shape) → HasShape o shape x.layout → HasShapeAmong o shape before ⊎ IsShapeOf m o shape

seen_open : (before : List Composite) (m : MetaView) (o : Option Opened) → IfSome o (SeenOpen before m) → WereSeen m before (layout_of o)
seen_open before m None seen o shape has = absurd has
seen_open before m (Some x) seen o shape (inl has) = seen o shape has
seen_open before m (Some x) seen o shape (inr none) = absurd none

-- it is in its own
own_open : (m : MetaView) (o : Option Opened) → IfSome o (SeenOpen (layout_of o) m)
own_open m None = tt
own_open m (Some x) = λ o shape has. inl (inl has)

-- a file that is opened has its layout
opens_seen : (before : List Composite) (c : ℕ) → Opens (SeenOpen before) c
opens_seen before c client m f own there o shape has = inr (record { number = f.number; file = with_share client f; there = same_found f.number (with_share client) m.files f (λ y. refl) there; has = has })

widened : {C : Type 0} (before : List Composite) (f : C → Running) → ((m : MetaView) (x : C) → OfOpen (SeenOpen before m) (f x) → WereSeen m before (layouts_of (f x))) → (o : Outcome C) → OnOpen (SeenOpen before) (λ (x : Running). x) (widen f o) → OnLayouts before (λ (x : Running). x) (widen f o)
widened before f to (Going next after) seen = to after.meta next seen
widened before f to (Fixed next reply takes after) seen = to after.meta next seen
widened before f to (Ended after) seen = tt
widened before f to (Answered reply takes after) seen = tt
widened before f to (Blocked holder) seen = tt

copied : (before : List Composite) (o : Outcome CopyView) → OnLayouts before running.Copy o → OnLayouts before (λ (x : Running). x) (widen running.Copy o)
copied before (Going next after) seen = seen
copied before (Fixed next reply takes after) seen = seen
copied before (Ended after) seen = tt
copied before (Answered reply takes after) seen = tt
copied before (Blocked holder) seen = tt

-- ---- a client's own step

module _ (c : ℕ) (s : Servers) (place : ℕ) (sound : IsSound s.meta) where
  answers : (o : meta.Outcome Reply) → OnLayouts [] (λ (x : Running). x) (answered_by s o)
  answers (Gives answer after) = tt
  answers (Refuses answer) = tt
  answers (Waits holder) = tt

  once : (asked : Command) → OnLayouts [] (λ (x : Running). x) (at_once c asked place s)
  once (command.Lfs of) = answers (one_step c of place s.meta)
  once (command.Evict other) = tt
  once (command.Rot object offset byte) = tt
  once (command.Read name offset len) = tt
  once (command.Write name offset bytes) = tt
  once (command.Truncate name size) = tt

  opened : (before : List Composite) (call : Running) (asked : Command) → IsCallOf c call → OfOpen (SeenOpen before s.meta) call → OnOpen (SeenOpen before) (λ (x : Running). x) (step_of call c asked place s)
  opened before call asked is k = step_on (SeenOpen before) c s sound (opens_seen before c) place call asked is k

  -- the layouts that it has in hand then were in hand, or are those of files
  step_seen : (call : Running) (asked : Command) → IsCallOf c call → OnLayouts (layouts_of call) (λ (x : Running). x) (step_of call c asked place s)
  step_seen running.Idle asked is = once asked
  step_seen (running.Read call) asked is =
      let before : List Composite = layouts_of (running.Read call) in
      widened before running.Read (λ m x seen. seen_open before m (hand_of_read x).opened seen) (read_step call place s)
      (opened before (running.Read call) asked is (own_open s.meta (hand_of_read call).opened))
  step_seen (running.Write call) asked is =
      let before : List Composite = layouts_of (running.Write call) in
      widened before running.Write (λ m x seen. seen_open before m (hand_of_write x).opened seen) (write_step call place s)
      (opened before (running.Write call) asked is (own_open s.meta (hand_of_write call).opened))
  step_seen (running.Truncate call) asked is =
      let before : List Composite = layouts_of (running.Truncate call) in
      widened before running.Truncate (λ m x seen. seen_open before m (hand_of_truncate x).opened seen) (truncate_step call place s)
      (opened before (running.Truncate call) asked is (own_open s.meta (hand_of_truncate call).opened))
  step_seen (running.Copy call) asked is = copied (layouts_of (running.Copy call)) (copy_step call place s) (copy_seen call s sound is.1 call.at)
  step_seen (running.Verify call) asked is =
      let before : List Composite = layouts_of (running.Verify call) in
      widened before running.Verify (λ m x seen. seen_open before m (hand_of_verify x).opened seen) (verify_step call place s)
      (opened before (running.Verify call) asked is (own_open s.meta (hand_of_verify call).opened))

-- ---- a call that begins has no layout

module _ (o : ObjectId) (shape : Shape) where
  begun_lfs_bare : (c : ℕ) (of : LfsCommand) → HasShapeAmong o shape (layouts_of (begun_lfs c of)) → ⊥
  begun_lfs_bare c (lfs.Resync name only) h = h
  begun_lfs_bare c (lfs.Extend name spec) h = h
  begun_lfs_bare c (lfs.ExtendBy name victim) h = h
  begun_lfs_bare c (lfs.Verify name) h = h
  begun_lfs_bare c (lfs.SetStripe name spec) h = h
  begun_lfs_bare c (lfs.GetStripe name) h = h
  begun_lfs_bare c (lfs.CompSet name id change) h = h
  begun_lfs_bare c (lfs.Create name spec) h = h
  begun_lfs_bare c (lfs.Split name mirror to) h = h
  begun_lfs_bare c (lfs.Delete name mirror) h = h

  begun_bare : (c : ℕ) (asked : Command) → HasShapeAmong o shape (layouts_of (begun c asked)) → ⊥
  begun_bare c (command.Read name offset len) h = h
  begun_bare c (command.Write name offset bytes) h = h
  begun_bare c (command.Truncate name size) h = h
  begun_bare c (command.Lfs of) h = begun_lfs_bare c of h
  begun_bare c (command.Evict other) h = h
  begun_bare c (command.Rot object offset byte) h = h

  now_had : (c : ℕ) (asked : Command) (call : Running) → HasShapeAmong o shape (layouts_of (call_now c call asked)) → HasShapeAmong o shape (layouts_of call)
  now_had c asked running.Idle h = begun_bare c asked h
  now_had c asked (running.Read call) h = h
  now_had c asked (running.Write call) h = h
  now_had c asked (running.Truncate call) h = h
  now_had c asked (running.Copy call) h = h
  now_had c asked (running.Verify call) h = h

  -- ---- the objects of layouts in hand were made

  module _ (m : MetaView) where
    open_made : (x : Option Opened) → ((y : Opened) → x ≡ Some y → AreMade m y.layout) → HasShapeAmong o shape (layout_of x) → o.number < get_or m.nexts o.target 0
    open_made None made h = absurd h
    open_made (Some y) made (inl h) = made y refl o (stripe_counted o shape y.layout.components h)
    open_made (Some y) made (inr none) = absurd none

    all_made : (ls : List Composite) → AllByRecursion (AreMade m) ls → HasShapeAmong o shape ls → o.number < get_or m.nexts o.target 0
    all_made [] made h = absurd h
    all_made (l ∷ ls) made (inl h) = made.0 o (stripe_counted o shape l.components h)
    all_made (l ∷ ls) made (inr more) = all_made ls made.1 more

    hand_made : (c : ℕ) (held : List Lock) (call : Running) → Has c m held (hand_of call) → HasShapeAmong o shape (layouts_of call) → o.number < get_or m.nexts o.target 0
    hand_made c held running.Idle has h = absurd h
    hand_made c held (running.Read call) has h = open_made (hand_of_read call).opened has.opened h
    hand_made c held (running.Write call) has h = open_made (hand_of_write call).opened has.opened h
    hand_made c held (running.Truncate call) has h = open_made (hand_of_truncate call).opened has.opened h
    hand_made c held (running.Copy call) has h = all_made (hand_of_copy call).copied has.made h
    hand_made c held (running.Verify call) has h = open_made (hand_of_verify call).opened has.opened h

-- ---- a step

-- an object that has a shape after a step had it before, or wasn't made and has it in a file
abbrev HadShape : State → State → ObjectId → Shape → Type 0
HadShape s t o shape = IsShapeIn s o shape ⊎ (IsUnmade s.shared.meta o × IsShapeOf t.shared.meta o shape)

-- what has a shape was made
shape_made : (s : State) → Holds s → (o : ObjectId) (shape : Shape) → IsShapeIn s o shape → IsUnmade s.shared.meta o → ⊥
shape_made s h o shape (inl file) late = standing_made s.shared.meta o shape h.servers.once file late
shape_made s h o shape (inr hand) late =
    let made = hand_made o shape s.shared.meta hand.number s.shared.locks hand.client.call (h.clients hand.number hand.client hand.here).has hand.has in
    absurd (omega (arith, made, late))

-- so an object has one shape after the step
still_one : (s t : State) → Holds s → Holds t → HaveOneShape s → ((o : ObjectId) (shape : Shape) → IsShapeIn t o shape → HadShape s t o shape) → HaveOneShape t
still_one s t h now one had o a b is is_too = by (had o a is) (had o b is_too)
  where
    by : HadShape s t o a → HadShape s t o b → a ≡ b
    by (inl p) (inl q) = one o a b p q
    by (inl p) (inr q) = absurd (shape_made s h o a p q.0)
    by (inr p) (inl q) = absurd (shape_made s h o b q p.0)
    by (inr p) (inr q) = one_shape t.shared.meta now.servers.once o a b p.1 q.1

module _ (s t : State) (c : ℕ) (h : Holds s) (room : HasRoom s.shared) (step : StepIs s c t) where
  abbrev client : Client
  client = step.client

  abbrev call : Running
  call = call_now c client.call step.asked

  of_call : IsCallOf c call
  of_call =
      let of = h.clients c client step.here in
      let le = h.script.form.few_mirrors in
      let few = h.script.form.few_clients in
      let good : IsCommand s.script.most s.script.targets (length s.script.clients) step.asked = is_command s.script c client.done step.asked h.script step.commanded in
      is_now c s.shared step.asked s.script.most s.script.targets (length s.script.clients) le few good client.call of.call

  in_file : (o : ObjectId) (shape : Shape) → IsShapeOf t.shared.meta o shape → HadShape s t o shape
  in_file o shape is = by (step_keeps s t c h room step o shape is)
    where
      by : IsUnmade s.shared.meta o ⊎ IsShapeOf s.shared.meta o shape → HadShape s t o shape
      by (inl late) = inr (late, is)
      by (inr was) = inl (inl was)

  module _ (new : Client) (shared : Servers) (note : Note) (is : t ≡ stepped s c new shared note) (seen : WereSeen shared.meta (layouts_of call) (layouts_of new.call)) where
    in_new : (o : ObjectId) (shape : Shape) → HasShapeAmong o shape (layouts_of new.call) → HadShape s t o shape
    in_new o shape has = by (seen o shape has)
      where
        by : HasShapeAmong o shape (layouts_of call) ⊎ IsShapeOf shared.meta o shape → HadShape s t o shape
        by (inl before) = inl (inr (record { number = c; client = client; here = step.here; has = now_had o shape c step.asked client.call before }))
        by (inr file) = in_file o shape (subst (λ (x : State). IsShapeOf x.shared.meta o shape) (sym is) file)

    in_hand : (o : ObjectId) (shape : Shape) (n : ℕ) (other : Client) → client_at t.clients n ≡ Some other → HasShapeAmong o shape (layouts_of other.call) → (n ≡ c) ⊎ (n ≡ c → ⊥) → HadShape s t o shape
    in_hand o shape n other e has (inl same) =
        let found : client_at (set s.clients (c - 1) new) n ≡ Some other = ap (λ (x : State). client_at x.clients n) (sym is) ∙ e in
        let one : client_at (set s.clients (c - 1) new) n ≡ Some new = subst (λ i. client_at (set s.clients (c - 1) new) i ≡ Some new) (sym same) (new_same s.clients c client new step.here) in
        in_new o shape (subst (λ (x : Client). HasShapeAmong o shape (layouts_of x.call)) (some_same other new (sym found ∙ one)) has)
    in_hand o shape n other e has (inr apart) =
        let found : client_at (set s.clients (c - 1) new) n ≡ Some other = ap (λ (x : State). client_at x.clients n) (sym is) ∙ e in
        inl (inr (record { number = n; client = other; here = sym (new_other s.clients c n client new step.here apart) ∙ found; has = has }))

    had : (o : ObjectId) (shape : Shape) → IsShapeIn t o shape → HadShape s t o shape
    had o shape (inl file) = in_file o shape file
    had o shape (inr hand) = in_hand o shape hand.number hand.client hand.here hand.has (cases_eq hand.number c)

  abbrev first : ℕ
  first = first_now client.call (place_in s) client.first

  left_had : (came : Outcome Running) → OnLayouts (layouts_of call) (λ (x : Running). x) came → LeavesState s c client first came t → (o : ObjectId) (shape : Shape) → IsShapeIn t o shape → HadShape s t o shape
  left_had (Going next after) seen left = had (going client first next) after Nothing left seen
  left_had (Fixed next reply takes after) seen left = had (going client first next) after (Adds (entry c client first (place_in s) 0 reply takes)) left seen
  left_had (Ended after) seen left = had (over client first) after Closes left (λ o shape none. absurd none)
  left_had (Answered reply takes after) seen left = had (over client first) after (Adds (entry c client first (place_in s) (place_in s) reply takes)) left (λ o shape none. absurd none)
  left_had (Blocked holder) seen left = absurd left

  step_had : (o : ObjectId) (shape : Shape) → IsShapeIn t o shape → HadShape s t o shape
  step_had = left_had step.came (subst (λ (o : Outcome Running). OnLayouts (layouts_of call) (λ (x : Running). x) o) step.made (step_seen c s.shared (place_in s) h.servers.sound call step.asked of_call)) step.left

pub step_leaves_one : (s t : State) (c : ℕ) → Holds s → HasRoom s.shared → HaveOneShape s → StepIs s c t → HaveOneShape t
step_leaves_one s t c h room one step = still_one s t h (step_holds s t c h room step) one (step_had s t c h room step)

-- ---- runs

-- before any step no call has a layout
bare : (script : ScriptView) (o : ObjectId) (shape : Shape) → IsShapeInHand (start script) o shape → ⊥
bare script o shape hand = subst (λ (x : Client). HasShapeAmong o shape (layouts_of x.call)) (new_at (length script.clients) hand.number hand.client hand.here) hand.has

pub start_has : (script : ScriptView) → IsScript script → HaveOneShape (start script)
start_has script is o a b (inl p) (inl q) = start_agrees script is o a b p q
start_has script is o a b (inl p) (inr q) = absurd (bare script o b q)
start_has script is o a b (inr p) q = absurd (bare script o a p)

pub runs_leave : (s : State) → IsRun s → LeaveRoom (length s.schedule) → HaveOneShape s
runs_leave s run leave = keep_always HaveOneShape (λ s t c h room p is. step_leaves_one s t c h room p (step_is s t c is)) s run leave (start_has s.script run.limits)
