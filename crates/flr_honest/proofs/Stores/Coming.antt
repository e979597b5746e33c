-- What files have that come to be.
use Rattle.std.proofs.Common.{◌≡◌, ℕ, ◌+◌, Bool, true, false, true≢false, cond, get_or, Option, Some, None, List, [], ◌∷◌, ◌++◌, length, inl, inr, refl, sym, ap, ◌∙◌, subst}
use Rattle.std.specs.Option.{option_map_or}
use Rattle.std.specs.Str.{bytes_eq}
use Rattle.std.specs.Cmp.Lexicographic.{other_text}
use Rattle.std.proofs.lemmas.Bool.{cases_Bool}
use Rattle.std.proofs.lemmas.Slice.Eq.{bytes_eq-Decides}
use Rattle.flr_base.specs.declared.reply.Reply.{Reply}
use Rattle.flr_base.specs.declared.reply.Reply.TheVariants as reply
use Rattle.composite_layout.specs.declared.spec.MirrorSpec.{MirrorSpec}
use Rattle.composite_layout.specs.LookUps.{wholly_fresh}
use Rattle.composite_layout.specs.Making.{new_layout}
use Rattle.layout_lease.specs.Shares.{lowest_but}
use Rattle.layout_state.specs.declared.error.StateError.{StateError}
use Rattle.layout_state.specs.Mirroring.{keeping}
use Rattle.lfs_words.specs.declared.command.LfsCommand.{LfsCommand}
use Rattle.lfs_words.specs.declared.command.LfsCommand.TheVariants as lfs
use Rattle.lfs_words.specs.declared.command.SplitTo.{SplitTo}
use Rattle.lfs_words.specs.declared.command.SplitTo.TheVariants as split
use Rattle.script_values.specs.declared.command.Command.{Command}
use Rattle.script_values.specs.declared.command.Command.TheVariants as command
use Rattle.meta_server.specs.Files.{File, MetaView, changed, file_named, file_of, is_full, new_file, same_name, with_layout}
use Rattle.meta_server.specs.Layouts.{lessened, split_off}
use Rattle.meta_server.specs.Naming.{creates, creates_file, creates_within, removes_alone, removes_file, removes_from, splits_fresh, splits_to, splits_within}
use Rattle.meta_server.specs.Outcomes.{Gives, Refuses, Waits}
use Rattle.meta_server.specs.Outcomes as meta
use Rattle.lfs_words.specs.Naming.{default_name}
use Rattle.mirror_admin.specs.OneStep.{answered, one_step}
use Rattle.call_steps.specs.Steps.{Outcome}
use Rattle.flr_steps.specs.declared.client.Client.{Client}
use Rattle.flr_steps.specs.declared.client.Running.{Running}
use Rattle.flr_steps.specs.declared.client.Running.TheVariants as running
use Rattle.flr_steps.specs.Clients.{call_now, first_now}
use Rattle.flr_steps.specs.Commands.{answered_by, begun_lfs, step_of}
use Rattle.flr_steps.specs.Runs.{doing_after}
use Rattle.flr_steps.specs.States.{State, place_in}
use Rattle.flr_steps.specs.Steps.{LeavesState}
use Rattle.flr_steps.specs.Traces.{Trace}
use Rattle.plain_files.specs.Effects.{effect, lfs_effect, with_file}
use Rattle.plain_files.specs.Files.{Plain, Sent, bytes_of, plain_from}
use Rattle.flr_claims.specs.Runs.{store_of}
use Rattle.flr_claims.specs.Sending.{sent_by}
use Rattle.flr_numbers.proofs.Inverting.{was_found, was_pushed}
use Rattle.flr_bytes.specs.Files.{AreSized, NewFilesHave}
use Rattle.flr_bytes.specs.Laws.{StepsGiveNew, StoreBy}
use Rattle.flr_bytes.specs.Origins.{is_making, split_name}
use Rattle.flr_bytes.specs.Runs.{IsStep}
use Rattle.flr_bytes.specs.Sentences.{byte_in, plain_bytes}
use Rattle.flr_bytes.proofs.StoreEffects.{added_new}
use Rattle.flr_asked.specs.Sentences.{IsOf}
use Rattle.flr_honest.proofs.Stores.Answering.{steps_keep_store}

-- where there is no file of a name there is no plain file of it
pub absent_sized : (name : List ℕ) (fs : List File) (ps : List Plain) (k : ℕ) → file_named name fs ≡ None → AreSized fs ps → plain_from k name ps ≡ None
absent_sized name [] [] k e h = refl
absent_sized name [] (p ∷ ps) k e h = absurd h
absent_sized name (x ∷ fs) [] k e h = absurd h
absent_sized name (x ∷ fs) (p ∷ ps) k e h = by (same_name name x.name) refl e (λ l. absent_sized name fs ps (k + 1) l h.2)
  where
    by : (b : Bool) → same_name name x.name ≡ b → cond b (Some x) (file_named name fs) ≡ None → (file_named name fs ≡ None → plain_from (k + 1) name ps ≡ None) → plain_from k name (p ∷ ps) ≡ None
    by true is e rest = absurd (cc e)
    by false isnt e rest =
        let other : bytes_eq p.name name ≡ false = elim (cases_Bool (bytes_eq p.name name)) [
          | inl is ↦ absurd (other_text name x.name (sym isnt) (sym ((bytes_eq-Decides p.name name).0 is) ∙ sym h.0))
          | inr isnt ↦ isnt
        ] in
        ap (λ (b : Bool). cond b (Some k) (plain_from (k + 1) name ps)) other ∙ rest e

-- ---- by what a command came to

-- the plain file of each file that comes to be has these bytes
abbrev pub NewHas : MetaView → (Reply → List Plain) → List ℕ → meta.Outcome Reply → Type 0
NewHas m left want (Gives answer after) = (n : ℕ) (g : File) → file_of n m.files ≡ None → file_of n after.files ≡ Some g → bytes_of (left answer) g.name ≡ want
NewHas m left want (Refuses answer) = Unit {0}
NewHas m left want (Waits holder) = Unit {0}

-- nothing is there that wasn't
no_file : (n : ℕ) (fs : List File) (g : File) → file_of n fs ≡ None → file_of n fs ≡ Some g → ⊥
no_file n fs g none some = let clash : None ≡ Some g = sym none ∙ some in absurd (cc clash)

module _ (m : MetaView) (store : List Plain) (h : AreSized m.files store) where
  -- the file that is pushed has the bytes that its plain file gets
  pushed_has : (fs : List File) (x : File) (bytes : List ℕ) → ((n : ℕ) → file_of n m.files ≡ None → (g : File) → file_of n fs ≡ Some g → ⊥) → file_named x.name m.files ≡ None
      → (n : ℕ) (g : File) → file_of n m.files ≡ None → file_of n (fs ++ x ∷ []) ≡ Some g → bytes_of (with_file x.name bytes store) g.name ≡ bytes
  pushed_has fs x bytes apart absent n g none there = elim (was_pushed n fs x g there) [
    | inl before ↦ absurd (apart n none g before)
    | inr new ↦ ap (λ (f : File). bytes_of (with_file x.name bytes store) f.name) new ∙ added_new x.name bytes store (absent_sized x.name m.files store 0 absent h)
  ]

  -- ---- a file is made

  module _ (name : List ℕ) (mirrors : List MirrorSpec) (left : Reply → List Plain) (makes : left reply.Created ≡ with_file name [] store) where
    within_by : (b : Bool) → file_named name m.files ≡ None → NewHas m left [] (answered reply.Created (creates_within name mirrors m b))
    within_by true absent = tt
    within_by false absent = λ n g none there. ap (λ (st : List Plain). bytes_of st g.name) makes
        ∙ pushed_has m.files (new_file m.next_file name 0 (new_layout mirrors (length m.nexts))) [] (λ n none g there. no_file n m.files g none there) absent n g none there

    create_by : (o : Option File) → file_named name m.files ≡ o → NewHas m left [] (answered reply.Created (creates_file name mirrors m o))
    create_by (Some f) e = tt
    create_by None e = within_by (is_full m.files) e

    -- a file that a command makes has no bytes
    pub created_has : NewHas m left [] (answered reply.Created (creates name mirrors m))
    created_has = create_by (file_named name m.files) refl

  -- ---- a mirror goes

  module _ (client : ℕ) (name : List ℕ) (mirror step : ℕ) (left : Reply → List Plain) (want : List ℕ) (splits : (to : List ℕ) → left (reply.Split to) ≡ with_file to want store) where
    still_none : (f : File) (n : ℕ) → file_of n m.files ≡ None → (g : File) → file_of n (changed f.number (with_layout (lessened mirror f.layout)) m.files) ≡ Some g → ⊥
    still_none f n none g there = let w = was_found n f.number (with_layout (lessened mirror f.layout)) m.files g (λ x. refl) there in no_file n m.files w.before none w.there

    module _ (f : File) where
      split_alone : (to : List ℕ) (o : Option ℕ) → file_named to m.files ≡ None → NewHas m left want (answered (reply.Split to) (removes_alone client mirror step m f (Some to) o))
      split_alone to (Some holder) absent = tt
      split_alone to None absent = λ n g none there. ap (λ (st : List Plain). bytes_of st g.name) (splits to)
          ∙ pushed_has (changed f.number (with_layout (lessened mirror f.layout)) m.files) (new_file m.next_file to f.size (split_off mirror f.layout)) want (still_none f) absent n g none there

      split_within : (to : List ℕ) (b : Bool) → file_named to m.files ≡ None → NewHas m left want (answered (reply.Split to) (splits_within client mirror step m f to b))
      split_within to true absent = tt
      split_within to false absent = split_alone to (lowest_but client f.lock) absent

      split_to : (to : List ℕ) (o : Option File) → file_named to m.files ≡ o → NewHas m left want (answered (reply.Split to) (splits_to client mirror step m f to o))
      split_to to (Some other) e = tt
      split_to to None e = split_within to (is_full m.files) e

      split_fresh : (to : List ℕ) (b : Bool) → NewHas m left want (answered (reply.Split to) (splits_fresh client mirror step m f to b))
      split_fresh to false = tt
      split_fresh to true = split_to to (file_named to m.files) refl

      split_from : (to : List ℕ) (o : Option StateError) → NewHas m left want (answered (reply.Split to) (removes_from client mirror step m (Some to) f o))
      split_from to (Some error) = tt
      split_from to None = split_fresh to (wholly_fresh mirror f.layout.components)

      gone_alone : (o : Option ℕ) → NewHas m left want (answered (reply.Removed mirror) (removes_alone client mirror step m f None o))
      gone_alone (Some holder) = tt
      gone_alone None = λ n g none there. absurd (still_none f n none g there)

      gone_from : (o : Option StateError) → NewHas m left want (answered (reply.Removed mirror) (removes_from client mirror step m None f o))
      gone_from (Some error) = tt
      gone_from None = gone_alone (lowest_but client f.lock)

    split_by : (to : List ℕ) (o : Option File) → NewHas m left want (answered (reply.Split to) (removes_file client mirror step m name (Some to) o))
    split_by to None = tt
    split_by to (Some f) = split_from f to (keeping mirror f.layout.components)

    gone_by : (o : Option File) → NewHas m left want (answered (reply.Removed mirror) (removes_file client mirror step m name None o))
    gone_by None = tt
    gone_by (Some f) = gone_from f (keeping mirror f.layout.components)

    -- one that is split off has those
    pub split_has : (to : SplitTo) → NewHas m left want (one_step client (lfs.Split name mirror to) step m)
    split_has split.Default = split_by (default_name name mirror) (file_named name m.files)
    split_has (split.Named new) = split_by new (file_named name m.files)
    split_has split.Destroy = gone_by (file_named name m.files)

-- ---- a step of such a command

-- a call of a command of one step is none
idle_by : (c : ℕ) (of : LfsCommand) (call : Running) → begun_lfs c of ≡ running.Idle → IsOf c (command.Lfs of) call → call ≡ running.Idle
idle_by c of running.Idle idle h = refl
idle_by c of (running.Read r) idle h = absurd (cc (h ∙ idle))
idle_by c of (running.Write w) idle h = absurd (cc (h ∙ idle))
idle_by c of (running.Truncate t) idle h = absurd (cc (h ∙ idle))
idle_by c of (running.Copy k) idle h = absurd (cc (h ∙ idle))
idle_by c of (running.Verify v) idle h = absurd (cc (h ∙ idle))

new_by : (s t : State) (old new : Trace) (c : ℕ) (client : Client) (first : ℕ) (asked : Command) (sent : Sent) (want : List ℕ) (o : meta.Outcome Reply) → LeavesState s c client first (answered_by s.shared o) t → StoreBy s t old new asked sent (answered_by s.shared o)
    → NewHas s.shared.meta (λ answer. effect asked sent answer (store_of s old)) want o → (n : ℕ) (g : File) → file_of n s.shared.meta.files ≡ None → file_of n t.shared.meta.files ≡ Some g → bytes_of (store_of t new) g.name ≡ want
new_by s t old new c client first asked sent want (Gives answer after) left store has n g none there =
    ap (λ (st : List Plain). bytes_of st g.name) store ∙ has n g none (subst (λ (u : State). file_of n u.shared.meta.files ≡ Some g) left there)
new_by s t old new c client first asked sent want (Refuses answer) left store has n g none there = absurd (no_file n s.shared.meta.files g none (subst (λ (u : State). file_of n u.shared.meta.files ≡ Some g) left there))
new_by s t old new c client first asked sent want (Waits holder) left store has n g none there = absurd left

-- a file that is found has the bytes of its plain file
byte_found : (fs : List File) (store : List Plain) (n : ℕ) (g : File) (want : List ℕ) (x : ℕ) → file_of n fs ≡ Some g → bytes_of store g.name ≡ want → get_or (plain_bytes fs store n) x 0 ≡ get_or want x 0
byte_found fs store n g want x there has = ap (λ (o : Option File). get_or (option_map_or (λ (f : File). bytes_of store f.name) o []) x 0) there ∙ ap (λ (bytes : List ℕ). get_or bytes x 0) has

module _ (s t : State) (old new : Trace) (c : ℕ) (is : IsStep s t old new c) (stored : StoreBy s t old new is.step.asked (sent_by s.script.fails (call_now c is.step.client.call is.step.asked) (doing_after s t old c is.step.client is.step.asked)) is.step.came)
    (h : AreSized s.shared.meta.files (store_of s old)) where
  -- the client of the step
  abbrev own : Client
  own = is.step.client

  -- what was sent for its call
  abbrev sent_now : Sent
  sent_now = sent_by s.script.fails (call_now c own.call is.step.asked) (doing_after s t old c own is.step.asked)

  module _ (of : LfsCommand) (e : is.step.asked ≡ command.Lfs of) (idle : begun_lfs c of ≡ running.Idle) where
    no_call : own.call ≡ running.Idle
    no_call = idle_by c of own.call idle (subst (λ (x : Command). IsOf c x own.call) e (is.before.asked c own is.step.asked is.step.here is.step.commanded))

    came_so : answered_by s.shared (one_step c of (place_in s) s.shared.meta) ≡ is.step.came
    came_so =
        sym (ap (λ (k : Running). step_of (call_now c k is.step.asked) c is.step.asked (place_in s) s.shared) no_call
        ∙ ap (λ (x : Command). step_of (call_now c running.Idle x) c x (place_in s) s.shared) e
        ∙ ap (λ (k : Running). step_of k c (command.Lfs of) (place_in s) s.shared) idle)
        ∙ is.step.made

    -- what the new file has, where the command gives new files that
    one_new : (want : List ℕ) → NewHas s.shared.meta (λ answer. lfs_effect of answer (store_of s old)) want (one_step c of (place_in s) s.shared.meta)
        → (n : ℕ) (g : File) → file_of n s.shared.meta.files ≡ None → file_of n t.shared.meta.files ≡ Some g → (x : ℕ) → byte_in t new n x ≡ get_or want x 0
    one_new want has n g none there x =
        byte_found t.shared.meta.files (store_of t new) n g want x there
        (new_by s t old new c own (first_now own.call (place_in s) own.first) (command.Lfs of) sent_now want (one_step c of (place_in s) s.shared.meta)
        (subst (λ (o : Outcome Running). LeavesState s c own (first_now own.call (place_in s) own.first) o t) (sym came_so) is.step.left)
        (subst (λ (x : Command). StoreBy s t old new x sent_now (answered_by s.shared (one_step c of (place_in s) s.shared.meta))) e
        (subst (λ (o : Outcome Running). StoreBy s t old new is.step.asked sent_now o) (sym came_so) stored))
        has n g none there)

  nothing_new : (asked : Command) → is_making asked ≡ false → split_name asked ≡ None → NewFilesHave s t old new asked
  nothing_new asked made off n g none there = (λ is. absurd (true≢false (sym is ∙ made)), λ from f here named. (let clash : Some f.name ≡ None = sym named ∙ off in absurd (cc clash)))

  lfs_new : (of : LfsCommand) → is.step.asked ≡ command.Lfs of → NewFilesHave s t old new (command.Lfs of)
  lfs_new (lfs.SetStripe name spec) e n g none there = (
    λ is x. one_new (lfs.SetStripe name spec) e refl [] (created_has s.shared.meta (store_of s old) h name spec (λ answer. lfs_effect (lfs.SetStripe name spec) answer (store_of s old)) refl) n g none there x,
    λ from f here named. (let clash : Some f.name ≡ None = sym named in absurd (cc clash)),
  )
  lfs_new (lfs.Create name spec) e n g none there = (
    λ is x. one_new (lfs.Create name spec) e refl [] (created_has s.shared.meta (store_of s old) h name spec (λ answer. lfs_effect (lfs.Create name spec) answer (store_of s old)) refl) n g none there x,
    λ from f here named. (let clash : Some f.name ≡ None = sym named in absurd (cc clash)),
  )
  lfs_new (lfs.Split name mirror to) e n g none there = (
    λ is. absurd (true≢false (sym is)),
    λ from f here named x. (
        let want : List ℕ = bytes_of (store_of s old) name in
        let same : name ≡ f.name = cc named in
        one_new (lfs.Split name mirror to) e refl want (split_has s.shared.meta (store_of s old) h c name mirror (place_in s) (λ answer. lfs_effect (lfs.Split name mirror to) answer (store_of s old)) want (λ new. refl) to) n g none there x
        ∙ sym (byte_found s.shared.meta.files (store_of s old) from f want x here (ap (bytes_of (store_of s old)) (sym same)))
        ),
  )
  lfs_new (lfs.GetStripe name) e n g none there = nothing_new (command.Lfs (lfs.GetStripe name)) refl refl n g none there
  lfs_new (lfs.CompSet name id change) e n g none there = nothing_new (command.Lfs (lfs.CompSet name id change)) refl refl n g none there
  lfs_new (lfs.Extend name spec) e n g none there = nothing_new (command.Lfs (lfs.Extend name spec)) refl refl n g none there
  lfs_new (lfs.ExtendBy name victim) e n g none there = nothing_new (command.Lfs (lfs.ExtendBy name victim)) refl refl n g none there
  lfs_new (lfs.Delete name mirror) e n g none there = nothing_new (command.Lfs (lfs.Delete name mirror)) refl refl n g none there
  lfs_new (lfs.Resync name only) e n g none there = nothing_new (command.Lfs (lfs.Resync name only)) refl refl n g none there
  lfs_new (lfs.Verify name) e n g none there = nothing_new (command.Lfs (lfs.Verify name)) refl refl n g none there

  new_files : (asked : Command) → is.step.asked ≡ asked → NewFilesHave s t old new asked
  new_files (command.Lfs of) e n g none there = lfs_new of e n g none there
  new_files (command.Read name offset len) e n g none there = nothing_new (command.Read name offset len) refl refl n g none there
  new_files (command.Write name offset bytes) e n g none there = nothing_new (command.Write name offset bytes) refl refl n g none there
  new_files (command.Truncate name size) e n g none there = nothing_new (command.Truncate name size) refl refl n g none there
  new_files (command.Evict other) e n g none there = nothing_new (command.Evict other) refl refl n g none there
  new_files (command.Rot object offset byte) e n g none there = nothing_new (command.Rot object offset byte) refl refl n g none there

-- what files have that come to be
pub steps_give_new : StepsGiveNew
steps_give_new s t old new c is traced_so h = new_files s t old new c is (steps_keep_store s t old new c is traced_so) h is.step.asked refl
