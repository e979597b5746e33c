-- A copy of one file that isn't answered at once began on its file, and comes to its end.
use Rattle.std.proofs.Common.{◌≡◌, ℕ, ◌-◌, ◌<◌, Bool, true, false, cond, nat_eq, eq-eqb, List, [], ◌∷◌, ◌++◌, length, map, Option, None, Some, inl, inr, ◌⊎◌, refl, sym, ap, subst, ◌∙◌, arith}
use Rattle.std.specs.Prelude.{All}
use Rattle.std.specs.List.{AllByRecursion}
use Rattle.std.specs.Option.{option_map}
use Rattle.flr_base.specs.declared.reply.Entry.{Entry}
use Rattle.flr_base.specs.declared.reply.Left.{Left}
use Rattle.flr_base.specs.declared.reply.Range.{Range}
use Rattle.flr_base.specs.declared.reply.Reply.{Reply}
use Rattle.flr_base.specs.declared.reply.Take.{Take}
use Rattle.composite_layout.specs.Layouts.{Composite}
use Rattle.layout_lease.specs.Leases.{KeyView}
use Rattle.layout_lease.proofs.Lists.{find_mapped}
use Rattle.script_values.specs.declared.command.Command.{Command}
use Rattle.object_target.specs.declared.call.CallAnswer.{CallAnswer}
use Rattle.object_target.specs.declared.call.CallAnswer.TheVariants as answer
use Rattle.object_target.specs.Calls.{fence_answer, read_answer, reset_answer, write_answer}
use Rattle.mirror_select.specs.declared.types.Piece.{Piece}
use Rattle.meta_server.specs.declared.answers.Begun.TheVariants as begun_as
use Rattle.meta_server.specs.declared.answers.Side.{Side}
use Rattle.meta_server.specs.Beginning.{copy_begins}
use Rattle.meta_server.specs.Closing.{size_of}
use Rattle.meta_server.specs.Ending.{copy_ends}
use Rattle.meta_server.specs.Files.{File, MetaView, changed, file_named, same_name, with_layout}
use Rattle.meta_server.specs.Layouts.{begun}
use Rattle.meta_server.specs.Outcomes.{Gives}
use Rattle.call_steps.specs.Pieces.{object_of}
use Rattle.call_steps.specs.Runs.{CallStep, IsRun, IsRunOf, goes_on}
use Rattle.call_steps.specs.Servers.{Servers}
use Rattle.call_steps.specs.Steps.{Outcome}
use Rattle.resync_copy.specs.declared.parts.CopyObject.{CopyObject}
use Rattle.resync_copy.specs.declared.phase.Chunk.{Chunk}
use Rattle.resync_copy.specs.declared.phase.CopyAt.{CopyAt}
use Rattle.resync_copy.specs.declared.phase.CopyAt.TheVariants as at
use Rattle.resync_copy.specs.declared.phase.CopyStage.{CopyStage}
use Rattle.resync_copy.specs.declared.phase.CopyStage.TheVariants as stage
use Rattle.resync_copy.specs.Calls.{CopyView}
use Rattle.resync_copy.specs.Copies.{ends_copy, fences_object, first_writer, new_copy, object_at, piece_from, piece_to, puts_chunk, resets_object, settled_objects, settles, stage_at, takes_chunk, target_of}
use Rattle.resync_copy.specs.Steps.{copy_at, copy_step}
use Rattle.resync_copy.specs.Views.{CopyingView, fences_of, resets_of}
use Rattle.copy_laws.specs.Did.{IsMade}
use Rattle.copy_laws.proofs.Runs.{stands_at_last}
use Rattle.flr_steps.specs.States.{State, state_at}
use Rattle.flr_steps.specs.Traces.{Doing, Past}
use Rattle.flr_asked.specs.CallRuns.{FixesAnswer, opened_in}
use Rattle.flr_claims.specs.Asked.{IsFile}
use Rattle.flr_claims.specs.Calls.{HasOpened}
use Rattle.flr_claims.specs.Causes.{IsCaused}
use Rattle.flr_claims.specs.Copies.{AreSelected, HasBegun, selects}
use Rattle.flr_honest.specs.Entries.{claimed}
use Rattle.flr_honest.specs.CopyCauses.Sentences.{HasEnded, IsCopyOf, command_for}
use Rattle.flr_honest.proofs.CopyCauses.Begun.{BeginsSo, HasBegunOn, begins_so, wanted}
use Rattle.flr_honest.proofs.CopyCauses.Bounded.{IsBoundedAt}
use Rattle.flr_honest.proofs.CopyCauses.Carried.{CarriesAt, CarriesOn, IsHandedOver, carried_on}
use Rattle.flr_honest.proofs.CopyCauses.Fronts.{state_before}
use Rattle.flr_honest.proofs.CopyCauses.Made.{MayMake, Stands, copies_made, copies_may, ground_there}
use Rattle.flr_honest.proofs.CopyCauses.Once.{file_so, once_caused, selects_so}
use Rattle.flr_honest.proofs.CopyCauses.Opening.{all_last, as_any, last_behind, opened_first}

-- ---- the answer comes at the end

-- the stage is the end
abbrev pub IsEnd : CopyStage → Type 0
IsEnd next = (key : KeyView) × (cleared : List ℕ) × (left : List Left) × (next ≡ stage.Done key cleared left)

module _ (c : CopyView) (s : Servers) (told : Reply) (takes : List Take) where
  fence_none : (x : CopyingView) (next : ℕ) (o : CopyObject) (a : CallAnswer) → FixesAnswer (fences_object c s x next o a) told takes → ⊥
  fence_none x next o answer.Ok h = h
  fence_none x next o (answer.Old kept) h = h
  fence_none x next o answer.Failed h = h

  reset_none : (x : CopyingView) (next : ℕ) (o : CopyObject) (a : CallAnswer) → FixesAnswer (resets_object c s x next o a) told takes → ⊥
  reset_none x next o answer.Ok h = h
  reset_none x next o (answer.Old kept) h = h
  reset_none x next o answer.Failed h = h

  settle_none : (x : CopyingView) (o : Option (ℕ × Range)) (size : Option ℕ) → FixesAnswer (settles c s x o size) told takes → ⊥
  settle_none x (Some told) size h = h
  settle_none x None size h = h

  take_none : (t : Chunk) (p : Piece) (a : CallAnswer) → FixesAnswer (takes_chunk c s t p a) told takes → ⊥
  take_none t p answer.Ok h = h
  take_none t p (answer.Old kept) h = h
  take_none t p answer.Failed h = h

  put_none : (t : Chunk) (bytes : List ℕ) (p : Piece) (a : CallAnswer) → FixesAnswer (puts_chunk c s t bytes p a) told takes → ⊥
  put_none t bytes p answer.Ok h = h
  put_none t bytes p (answer.Old kept) h = h
  put_none t bytes p answer.Failed h = h

  answered_end : (next : CopyStage) → FixesAnswer (stage_at next c s) told takes → IsEnd next
  answered_end (stage.Fence x next) h = absurd (fence_none x next (object_at (fences_of x) next) (fence_answer (target_of s (object_at (fences_of x) next).object)) h)
  answered_end (stage.Reset x next) h = absurd (reset_none x next (object_at (resets_of x) next) (reset_answer (target_of s (object_at (resets_of x) next).object) (object_at (resets_of x) next).object.number x.side.layout.generation) h)
  answered_end (stage.Settle x) h = absurd (settle_none x (first_writer s.locks c.client (settled_objects x)) (size_of x.side.file s.meta) h)
  answered_end (stage.Take t) h = absurd (take_none t (piece_from t) (read_answer (target_of s (object_of (piece_from t)))) h)
  answered_end (stage.Put t bytes) h = absurd (put_none t bytes (piece_to t) (write_answer (target_of s (object_of (piece_to t))) (object_of (piece_to t)).number t.copying.side.layout.generation) h)
  answered_end (stage.Done key cleared left) h = (key, cleared, left, refl)

-- ---- the file as the begin leaves it

kept_name : (n : ℕ) (l : Composite) (f : File) (b : Bool) → (cond b (with_layout l f) f).name ≡ f.name
kept_name n l f true = refl
kept_name n l f false = refl

pub named_changed : (name : List ℕ) (l : Composite) (files : List File) (f : File) → file_named name files ≡ Some f → file_named name (changed f.number (with_layout l) files) ≡ Some (with_layout l f)
named_changed name l files f there =
    let change : File → File = λ (x : File). cond (nat_eq x.number f.number) (with_layout l x) x in
    find_mapped (λ (x : File). same_name name x.name) change (λ x. ap (same_name name) (kept_name f.number l x (nat_eq x.number f.number))) files ∙ ap (option_map change) there
    ∙ ap (λ (b : Bool). Some (cond b (with_layout l f) f)) (eq-eqb f.number f.number refl)

-- ---- the begin and the end of a copy

module _ {s : State} {e : Entry} {p : Past} (c : IsCopyOf s e p) where
  abbrev pub first_call : CopyView
  first_call = new_copy e.client c.name c.what

  -- each of its steps may be made
  pub made_all : All IsMade (c.call.front ++ c.call.last ∷ [])
  made_all = copies_made s c.is.run e.client c.is.asked first_call (c.call.front ++ c.call.last ∷ []) c.none refl c.call.run c.call.stand

  pub may_all : AllByRecursion MayMake (c.call.front ++ c.call.last ∷ [])
  may_all = copies_may s c.is.run e.client c.is.asked first_call (c.call.front ++ c.call.last ∷ []) c.none refl c.call.run c.call.stand

  -- what it carries at its last step
  pub carried_last : CarriesAt first_call c.call.front c.call.last.call.at
  carried_last = stands_at_last first_call (CarriesAt first_call) refl (carried_on first_call) refl c.call.front c.call.last c.call.run made_all

  last_step : (xs : List (CallStep CopyView)) (x : CallStep CopyView) (call : Option CopyView) (last : ℕ) → IsRunOf copy_step (xs ++ x ∷ []) call last → x.came ≡ copy_step x.call x.place x.before
  last_step [] x None last run = absurd run
  last_step [] x (Some v) last run = run.0.came ∙ ap (λ (w : CopyView). copy_step w x.place x.before) (sym run.0.same)
  last_step (y ∷ xs) x None last run = absurd run
  last_step (y ∷ xs) x (Some v) last run = last_step xs x (goes_on y.came) y.place run.1

  pub last_came : c.call.last.came ≡ copy_step c.call.last.call c.call.last.place c.call.last.before
  last_came = last_step c.call.front c.call.last (Some first_call) 0 c.call.run

  -- where it began, with the first of its steps
  module _ (side : Side) (ids : List ℕ) (begin : CallStep CopyView) (rest : List (CallStep CopyView)) (first : c.call.front ≡ begin ∷ rest)
      (begun_is : copy_begins e.client c.name c.what begin.before.meta ≡ Gives (begun_as.Copy side ids) begin.after.meta) where
    steps_are : c.call.front ++ c.call.last ∷ [] ≡ begin ∷ (rest ++ c.call.last ∷ [])
    steps_are = ap (λ (xs : List (CallStep CopyView)). xs ++ c.call.last ∷ []) first

    pub run_first : IsRun copy_step first_call (begin ∷ (rest ++ c.call.last ∷ []))
    run_first = subst (IsRun copy_step first_call) steps_are c.call.run

    pub begin_stands : Stands s e.client c.is.asked begin
    begin_stands = (subst (AllByRecursion (Stands s e.client c.is.asked)) steps_are c.call.stand).0

    pub opened_is : p.doing.opened ≡ begin.place
    opened_is = ap (λ (d : Doing). d.opened) c.call.did_is ∙ ap (λ (xs : List (CallStep CopyView)). opened_in 0 (map as_any xs)) steps_are ∙ opened_first first_call begin (rest ++ c.call.last ∷ []) refl run_first

    pub opened_before : p.doing.opened < e.at
    opened_before = let less : begin.place < c.call.last.place = last_behind rest c.call.last (goes_on begin.came) begin.place run_first.1 in omega (arith, less, opened_is, c.call.place_is)

    pub begun_on : HasBegunOn e.client begin.before.meta c.name c.what side ids begin.after.meta
    begun_on = subst (BeginsSo e.client begin.before.meta c.name c.what) begun_is (begins_so e.client begin.before.meta c.name c.what c.none)

    -- the file as the begin leaves it
    abbrev pub begun_file : File
    begun_file = with_layout (begun ids begun_on.file.number begin.before.meta.nexts begun_on.grown) begun_on.file

    named_behind : file_named c.name begin.after.meta.files ≡ Some begun_file
    named_behind =
        ap (λ (m : MetaView). file_named c.name m.files) begun_on.after_is
        ∙ named_changed c.name (begun ids begun_on.file.number begin.before.meta.nexts begun_on.grown) begin.before.meta.files begun_on.file begun_on.there

    at_opening : state_at c.is.before.script c.is.before.schedule p.doing.opened ≡ Some begin_stands.new
    at_opening = state_before c p.doing.opened (let less = opened_before in omega (arith, less)) ∙ ap (state_at s.script s.schedule) opened_is ∙ begin_stands.new_is

    at_old : state_at c.is.before.script c.is.before.schedule (p.doing.opened - 1) ≡ Some begin_stands.old
    at_old = state_before c (p.doing.opened - 1) (let less = opened_before in omega (arith, less)) ∙ ap (λ (n : ℕ). state_at s.script s.schedule (n - 1)) opened_is ∙ begin_stands.old_is

    opens : HasOpened (claimed c.is) begun_file
    opens = record {
      state = begin_stands.new;
      behind = at_opening;
      file = subst (λ (a : Command). IsFile begin_stands.new a begun_file) (sym c.asks)
          (file_so begin_stands.new c.name c.what begun_file (ap (λ (v : Servers). file_named c.name v.meta.files) (sym begin_stands.after_is) ∙ named_behind));
      later = opened_before;
    }

    selected : AreSelected begin_stands.old c.is.asked ids
    selected =
        let old : State = begin_stands.old in
        let named : file_named c.name old.shared.meta.files ≡ Some begun_on.file = ap (λ (v : Servers). file_named c.name v.meta.files) (sym begin_stands.before_is) ∙ begun_on.there in
        let many : length begin.before.meta.nexts ≡ old.script.targets = ap (λ (v : Servers). length v.meta.nexts) begin_stands.before_is ∙ (ground_there s c.is.run e.client c.is.asked begin begin_stands).holds.targets in
        let are : selects old (command_for c.name c.what) begun_on.file ≡ ids = selects_so old c.name c.what begun_on.file ∙ ap (λ (n : ℕ). wanted n c.what begun_on.file.layout) (sym many) ∙ begun_on.ids_are in
        subst (λ (a : Command). AreSelected old a ids) (sym c.asks) (begun_on.file, file_so old c.name c.what begun_on.file named, are)

    pub has_begun : HasBegun (claimed c.is) begun_file ids
    has_begun = record { opened = opens; old = begin_stands.old; old_is = at_old; selected = selected }

    -- it ended so
    pub ended : (key : KeyView) (cleared : List ℕ) (left : List Left) → c.call.last.call.at ≡ at.Copy (stage.Done key cleared left) → side.key ≡ key → HasEnded c begun_file side ids cleared left
    ended key cleared left done same = record {
      key = key;
      done = done;
      key_is = same;
      begin = begin;
      rest = rest;
      first = first;
      begun = begun_is;
      file = has_begun;
      number = ap (λ (x : Side). x.key.file) (sym begun_on.side_is);
      layout = ap (λ (x : Side). x.layout) (sym begun_on.side_is);
    }

-- a copy that is answered at its end
pub record IsAtEnd {s : State} {e : Entry} {p : Past} (c : IsCopyOf s e p) : Type 0 where
  pub file : File
  pub side : Side
  pub ids : List ℕ
  pub some : 0 < length ids
  pub cleared : List ℕ
  pub left : List Left
  pub ended : HasEnded c file side ids cleared left
  pub hands : IsHandedOver side ids cleared left c.call.front
  pub fixes : FixesAnswer (ends_copy c.call.last.call c.call.last.before cleared left (copy_ends side.key cleared c.call.last.before.meta)) e.reply e.takes

-- a copy is answered at once, or at its end
pub at_end : {s : State} {e : Entry} {p : Past} (c : IsCopyOf s e p) → IsCaused (claimed c.is) e.reply ⊎ IsAtEnd c
at_end {s} {e} {p} c = by c.call.last.call.at refl (carried_last c)
  where
    bounded : IsBoundedAt c.call.last.call.at
    bounded = (all_last MayMake c.call.front c.call.last (may_all c)).1

    by : (a : CopyAt) → c.call.last.call.at ≡ a → CarriesAt (first_call c) c.call.front a → IsCaused (claimed c.is) e.reply ⊎ IsAtEnd c
    by at.Begin is carries = inl (once_caused c carries)
    by (at.Merge next) is carries = absurd (subst IsBoundedAt is bounded)
    by (at.Copy next) is carries =
        let fixes : FixesAnswer (stage_at next c.call.last.call c.call.last.before) e.reply e.takes =
        subst (λ (o : Outcome CopyView). FixesAnswer o e.reply e.takes) (last_came c ∙ ap (λ (a : CopyAt). copy_at a c.call.last.call c.call.last.before) is) c.call.fixes in
        let end : IsEnd next = answered_end c.call.last.call c.call.last.before e.reply e.takes next fixes in
        inr (done end.0 end.1 end.2 (is ∙ ap at.Copy end.3) (subst (CarriesOn (first_call c) c.call.front) end.3 carries) (subst (λ (n : CopyStage). FixesAnswer (stage_at n c.call.last.call c.call.last.before) e.reply e.takes) end.3 fixes))
      where
        done : (key : KeyView) (cleared : List ℕ) (left : List Left) → c.call.last.call.at ≡ at.Copy (stage.Done key cleared left) → CarriesOn (first_call c) c.call.front (stage.Done key cleared left)
            → FixesAnswer (stage_at (stage.Done key cleared left) c.call.last.call c.call.last.before) e.reply e.takes → IsAtEnd c
        done key cleared left is o fixes = record {
          file = begun_file c o.side o.ids o.begin o.rest o.in_order o.begun;
          side = o.side;
          ids = o.ids;
          some = (begun_on c o.side o.ids o.begin o.rest o.in_order o.begun).some;
          cleared = cleared;
          left = left;
          ended = ended c o.side o.ids o.begin o.rest o.in_order o.begun key cleared left is o.carries.0;
          hands = o.carries.1;
          fixes = subst (λ (k : KeyView). FixesAnswer (ends_copy c.call.last.call c.call.last.before cleared left (copy_ends k cleared c.call.last.before.meta)) e.reply e.takes) (sym o.carries.0) fixes;
        }
