-- Where the fresh components of files come from once a call of the metadata server was made.
use Rattle.std.proofs.Common.{◌≡◌, ℕ, ◌+◌, ◌<◌, Bool, true, false, nat_lt, Option, Some, None, List, [], length, ◌⊎◌, inl, inr, refl, sym, ap, subst, ◌∙◌}
use Rattle.std.specs.Prelude.{Contains}
use Rattle.flr_base.specs.declared.reply.Left.{Left}
use Rattle.flr_base.specs.declared.reply.Range.{Range}
use Rattle.composite_layout.specs.declared.component.Component.{Component}
use Rattle.composite_layout.specs.declared.spec.MirrorSpec.{MirrorSpec}
use Rattle.composite_layout.specs.Layouts.{Composite, eof}
use Rattle.composite_layout.specs.Making.{new_layout}
use Rattle.layout_lease.specs.declared.lease.KeyState.TheVariants.{Held}
use Rattle.layout_lease.specs.declared.shared.Share.{Share}
use Rattle.layout_lease.specs.Leases.{KeyView, state_of}
use Rattle.layout_lease.specs.Shares.{lowest_but}
use Rattle.layout_state.specs.declared.error.StateError.{StateError}
use Rattle.layout_state.specs.Choosing.{is_over}
use Rattle.layout_state.specs.Making.{AreNext}
use Rattle.layout_state.specs.Marking.{is_named}
use Rattle.layout_state.specs.Mirroring.{keeping}
use Rattle.layout_state.proofs.NameLaws.{numbers_grow}
use Rattle.meta_server.specs.declared.answers.CopyWhat.{CopyWhat}
use Rattle.meta_server.specs.Beginning.{with_begin}
use Rattle.meta_server.specs.Closing.{grown, holds, shortened}
use Rattle.meta_server.specs.Conditions.{IsCopyOf}
use Rattle.meta_server.specs.Ending.{both_given, with_done}
use Rattle.meta_server.specs.Files.{File, MetaView, changed, file_named, file_of, new_file, with_break, with_change, with_freed, with_given, with_layout, with_share}
use Rattle.meta_server.specs.Layouts.{begun, extended, finished, flagged, intended, lessened, merged, split_off}
use Rattle.meta_server.specs.Naming.{removes, removes_alone, removes_file, removes_from}
use Rattle.flr_base.specs.Limits.{most_bytes}
use Rattle.meta_server.specs.Opening.{change_opens_file, with_intent}
use Rattle.meta_server.specs.Sound.{IsSound}
use Rattle.meta_server.proofs.Going.{name_found}
use Rattle.meta_server.proofs.Placing.{number_found}
use Rattle.meta_laws.specs.Calls.{Call, OpenRead, OpenWrite, OpenCut, Free, Confirm, Commit, Cut, BeginCopy, CopyDone, MergeDone, GiveUp, Create, Remove, Set, Evict, after_call, confirmed, left_by}
use Rattle.meta_laws.proofs.Cases.{begin_cases, create_cases, end_cases, merge_cases, open_cases, read_cases, remove_cases, set_cases}
use Rattle.meta_laws.proofs.Changing.{over_AreNext}
use Rattle.meta_laws.proofs.Copies.{there_named}
use Rattle.meta_laws.proofs.Explaining.{none_next}
use Rattle.meta_laws.proofs.Finding.{other_found}
use Rattle.mirror_select.proofs.Least.{from_contains, to_contains}
use Rattle.resync_copy.specs.declared.merge_phase.MergeStage.TheVariants as merge
use Rattle.resync_copy.specs.declared.phase.CopyAt.TheVariants as at
use Rattle.resync_copy.specs.declared.phase.CopyStage.TheVariants as stage
use Rattle.resync_copy.specs.Calls.{CopyView}
use Rattle.script_values.specs.declared.command.Command.{Command}
use Rattle.flr_steps.specs.declared.client.Running.{Running}
use Rattle.flr_steps.specs.declared.client.Running.TheVariants as running
use Rattle.flr_steps.specs.States.{State}
use Rattle.flr_numbers.proofs.Inverting.{was_without}
use Rattle.flr_numbers.proofs.Objects.{named_stands}
use Rattle.flr_numbers.proofs.Standing.{none_stands}
use Rattle.flr_shapes.proofs.Calls.{apart}
use Rattle.flr_bytes.specs.Origins.{Comes, IsFilledIn, WasFreshIn, is_making, split_name}
use Rattle.flr_honest.proofs.Origins.Files.{Keeps, WasThere, evicted, fresh_in, kept, laid, locked, pushed, relaid, same, stays_in, then}
use Rattle.flr_honest.proofs.Origins.Layouts.{AllStay, WasCleared, WasFresh, all_then, begun_stay, extended_stay, finished_from, flagged_stay, intended_stay, lessened_stay, merged_from, split_from}

-- ---- which call is made by which step

-- the step's call is a copy that ends with this key, and clears these components
pub record EndsCopy (call : Running) (key : KeyView) (cleared : List ℕ) : Type 0 where
  pub asked : CopyView
  pub copies : call ≡ running.Copy asked
  pub left : List Left
  pub at : asked.at ≡ at.Copy (stage.Done key cleared left)

-- it is a merge that ends with these keys
pub record EndsMerge (call : Running) (ours theirs : KeyView) : Type 0 where
  pub asked : CopyView
  pub copies : call ≡ running.Copy asked
  pub at : asked.at ≡ at.Merge (merge.Done ours theirs None)

-- a mirror goes for good, or by a command that splits it off
abbrev pub MaySplit : Command → List ℕ → Option (List ℕ) → Type 0
MaySplit asked name None = Unit {0}
MaySplit asked name (Some to) = split_name asked ≡ Some name

-- the call of the metadata server may be made by a step of this command and call
abbrev pub IsAskedAt : Command → Running → Call → Type 0
IsAskedAt asked call (BeginCopy client name what) = IsCopyOf name what
IsAskedAt asked call (CopyDone key cleared) = EndsCopy call key cleared
IsAskedAt asked call (MergeDone ours theirs) = EndsMerge call ours theirs
IsAskedAt asked call (Create name mirrors) = is_making asked ≡ true
IsAskedAt asked call (Remove client name mirror to step) = MaySplit asked name to
IsAskedAt asked call other = Unit {0}

-- ---- calls by which no component becomes fresh

module _ (m : MetaView) (h : IsSound m) where
  -- there are targets
  some : 0 < length m.nexts
  some = h.nexts.some

  -- the file of a name gets a layout
  named : (name : List ℕ) (f : File) → file_named name m.files ≡ Some f → (new : MetaView) (l : Composite) → new.files ≡ changed f.number (with_layout l) m.files → AllStay m.nexts f.layout.components l.components → Keeps m new
  named name f e new l files stay = laid m new f l (there_named m h name f e) files stay

  -- a write or a truncate opens a file
  opened : (client : ℕ) (name : List ℕ) (range : Range) (step : ℕ) (b : Bool) → Keeps m (left_by (change_opens_file client range step m name b (file_named name m.files)) m)
  opened client name range step = open_cases (Keeps m) client name range step m (record {
    same = same m;
    shared = λ f e. locked m f.number (with_share client) (λ x. refl) (λ x. refl);
    intended = λ f mirror e primary. (
        let mid : MetaView = with_intent range mirror step f m in
        then m mid (with_change f.number (with_share client) mid) (λ target. numbers_grow (is_over range mirror) f.number m.nexts f.layout.components some target)
        (named name f e mid (intended range mirror f.number m.nexts f.layout) refl (intended_stay m.nexts f.layout range mirror f.number some))
        (locked mid f.number (with_share client) (λ x. refl) (λ x. refl))
        );
  })

  -- a copy begins
  begun_copy : (client : ℕ) (name : List ℕ) (what : CopyWhat) → IsCopyOf name what → Keeps m (after_call (BeginCopy client name what) m)
  begun_copy client name what copy = begin_cases (Keeps m) client name what m (record {
    same = same m;
    begins = λ ids f e free. named name f e (with_begin client ids f m) (begun ids f.number m.nexts f.layout) refl (begun_stay m.nexts f.layout ids f.number some);
    adds = λ mirrors f is e free within. (
        let l : Composite = extended mirrors (length m.nexts) f.layout in
        named name f e (with_change f.number (with_layout l) m) l refl (extended_stay m.nexts f.layout mirrors (length m.nexts))
        );
    extends = λ mirrors ids f is e free within. (
        let l : Composite = extended mirrors (length m.nexts) f.layout in
        named name f e (with_begin client ids (with_layout l f) m) (begun ids f.number m.nexts l) refl
        (all_then m.nexts f.layout.components l.components (begun ids f.number m.nexts l).components (extended_stay m.nexts f.layout mirrors (length m.nexts)) (begun_stay m.nexts l ids f.number some))
        );
    both = λ victim f v is e k free free_too. (
        let mid : MetaView = with_begin client [] f m in
        let beside : file_of v.number m.files ≡ Some v = there_named m h victim v k in
        let next : AreNext mid.nexts = over_AreNext (is_named []) f.number m.nexts f.layout h.nexts in
        then m mid (with_begin client [] v mid) (λ target. numbers_grow (is_named []) f.number m.nexts f.layout.components some target)
        (named name f e mid (begun [] f.number m.nexts f.layout) refl (begun_stay m.nexts f.layout [] f.number some))
        (laid mid (with_begin client [] v mid) v (begun [] v.number mid.nexts v.layout) (other_found v.number f.number (with_layout (begun [] f.number m.nexts f.layout)) m.files (λ y. refl) (apart m h name what copy victim f v is e k) ∙ beside) refl (begun_stay mid.nexts v.layout [] v.number next.some))
        );
  })

  -- a read ends
  confirms : (file : ℕ) (cookie : Share) (b : Bool) → Keeps m (confirmed file cookie b m)
  confirms file cookie true = locked m file (with_freed cookie) (λ x. refl) (λ x. refl)
  confirms file cookie false = same m

  -- a mirror goes
  lessens : (name : List ℕ) (mirror step : ℕ) (f : File) → file_named name m.files ≡ Some f → Keeps m (with_break f.number step (lessened mirror f.layout) m)
  lessens name mirror step f e = named name f e (with_break f.number step (lessened mirror f.layout) m) (lessened mirror f.layout) refl (lessened_stay m.nexts f.layout mirror)

  -- for good
  gone : (client : ℕ) (name : List ℕ) (mirror step : ℕ) → Keeps m (left_by (removes client name mirror None step m) m)
  gone client name mirror step = by (file_named name m.files) refl
    where
      alone : (f : File) (o : Option ℕ) → file_named name m.files ≡ Some f → Keeps m (left_by (removes_alone client mirror step m f None o) m)
      alone f (Some holder) e = same m
      alone f None e = lessens name mirror step f e

      from : (f : File) (o : Option StateError) → file_named name m.files ≡ Some f → Keeps m (left_by (removes_from client mirror step m None f o) m)
      from f (Some error) e = same m
      from f None e = alone f (lowest_but client f.lock) e

      by : (o : Option File) → file_named name m.files ≡ o → Keeps m (left_by (removes_file client mirror step m name None o) m)
      by None e = same m
      by (Some f) e = from f (keeping mirror f.layout.components) e

-- ---- each call of a step

module _ (s : State) (asked : Command) (call : Running) where
  -- each fresh component of the file comes from somewhere
  abbrev pub AllCome : ℕ → File → Type 0
  AllCome n f = (d : Component) → Contains f.layout.components d → d.flags.stale ≡ false → Comes s asked call n d

  -- so it is of each file
  abbrev pub Brings : MetaView → Type 0
  Brings new = (n : ℕ) (f : File) → file_of n new.files ≡ Some f → AllCome n f

  -- the metadata server before the step
  abbrev m : MetaView
  m = s.shared.meta

  -- in a file that stays
  remains : (n : ℕ) (f : File) → WasThere m n f.layout → AllCome n f
  remains n f was d listed fresh = by (stays_in m n f.layout d was listed fresh)
    where
      by : WasFreshIn m n d ⊎ IsFilledIn m n d → Comes s asked call n d
      by (inl w) = inl w
      by (inr w) = inr (inl w)

  -- where no component becomes fresh
  pub stays : (new : MetaView) → Keeps m new → Brings new
  stays new keeps n f there = remains n f (keeps n f there)

  module _ (h : IsSound m) where
    -- a copy ends
    ends : (key : KeyView) (cleared : List ℕ) → EndsCopy call key cleared → Brings (after_call (CopyDone key cleared) m)
    ends key cleared by_step = end_cases Brings key cleared m (record {
      same = stays m (same m);
      given = stays (with_given key m) (kept m (with_given key m) refl);
      done = λ f held e. (
          let own : f.number ≡ key.file = number_found key.file m.files f e in
          let here : file_of f.number m.files ≡ Some f = subst (λ n. file_of n m.files ≡ Some f) (sym own) e in
          relaid m (with_done key cleared f m) f (finished cleared f.layout) AllCome here refl remains (λ g is. done f held own here g is)
          );
    })
      where
        done : (f : File) → state_of m.leases key ≡ Held → f.number ≡ key.file → file_of f.number m.files ≡ Some f → (g : File) → g.layout ≡ finished cleared f.layout → AllCome f.number g
        done f held own here g is d listed fresh = at (finished_from cleared f.layout d (from_contains (finished cleared f.layout).components d (subst (λ (l : Composite). Contains l.components d) is listed)) fresh)
          where
            at : WasFresh f.layout.components d ⊎ WasCleared cleared f.layout.components d → Comes s asked call f.number d
            at (inl w) = inl (fresh_in m f.number f d here w)
            at (inr w) = inr (inr (inr (inr (inl (record {
              asked = by_step.asked;
              copies = by_step.copies;
              key = key;
              cleared = cleared;
              left = by_step.left;
              at = by_step.at;
              held = held;
              same = sym own;
              was = record { file = f; there = here; component = w.component; listed = to_contains f.layout.components w.component w.listed; same = w.same };
              id = w.id;
              named = w.named;
            })))))

    -- a file takes in another, which goes
    merges : (ours theirs : KeyView) → EndsMerge call ours theirs → Brings (after_call (MergeDone ours theirs) m)
    merges ours theirs by_step = merge_cases Brings ours theirs m (record {
      same = stays m (same m);
      given = stays (both_given ours theirs m) (kept m (both_given ours theirs m) refl);
      merges = λ f v held held_too e k n g there. (
          let own : f.number ≡ ours.file = number_found ours.file m.files f e in
          let here : file_of f.number m.files ≡ Some f = subst (λ j. file_of j m.files ≡ Some f) (sym own) e in
          let l : Composite = merged v.layout f.layout in
          let mid : MetaView = record m { files = changed f.number (with_layout l) m.files } in
          relaid m mid f l AllCome here refl remains (λ g is. taken f v held held_too own here k g is) n g (was_without n v.number (changed f.number (with_layout l) m.files) g there).1
          );
    })
      where
        taken : (f v : File) → state_of m.leases ours ≡ Held → state_of m.leases theirs ≡ Held → f.number ≡ ours.file → file_of f.number m.files ≡ Some f → file_of theirs.file m.files ≡ Some v → (g : File) → g.layout ≡ merged v.layout f.layout → AllCome f.number g
        taken f v held held_too own here k g is d listed fresh = at (merged_from v.layout f.layout d (from_contains (merged v.layout f.layout).components d (subst (λ (l : Composite). Contains l.components d) is listed)) fresh)
          where
            at : WasFresh f.layout.components d ⊎ WasFresh v.layout.components d → Comes s asked call f.number d
            at (inl w) = inl (fresh_in m f.number f d here w)
            at (inr w) = inr (inr (inr (inr (inr (record {
              asked = by_step.asked;
              copies = by_step.copies;
              ours = ours;
              theirs = theirs;
              at = by_step.at;
              ours_held = held;
              theirs_held = held_too;
              same = sym own;
              was = fresh_in m theirs.file v d k w;
            })))))

    -- the file that comes last has the next number, which no file had
    is_next : (n : ℕ) (files : List File) (x : File) → x.number ≡ m.next_file → file_of n files ≡ Some x → file_of n m.files ≡ None
    is_next n files x number there = subst (λ k. file_of k m.files ≡ None) (sym number ∙ number_found n files x there) (none_next m.next_file m.files h.below)

    -- a file is made
    makes : (name : List ℕ) (mirrors : List MirrorSpec) → is_making asked ≡ true → Brings (after_call (Create name mirrors) m)
    makes name mirrors made = create_cases Brings name mirrors m (record {
      same = stays m (same m);
      comes = λ absent room. (
          let x : File = new_file m.next_file name 0 (new_layout mirrors (length m.nexts)) in
          pushed m m x (m.next_file + 1) AllCome (stays m (same m)) (λ n there d listed fresh. inr (inr (inl (record {
            none = is_next n _ x refl there;
            makes = made;
            unmade = λ o has. absurd (none_stands o mirrors (length m.nexts) (named_stands o x.layout.components (d, listed, has)));
          }))))
          );
    })

    -- a mirror goes, and may come as a file
    removes_mirror : (client : ℕ) (name : List ℕ) (mirror : ℕ) (to : Option (List ℕ)) (step : ℕ) → MaySplit asked name to → Brings (after_call (Remove client name mirror to step) m)
    removes_mirror client name mirror None step may = stays (left_by (removes client name mirror None step m) m) (gone m h client name mirror step)
    removes_mirror client name mirror (Some to) step may = remove_cases Brings client name mirror step m (record {
      same = stays m (same m);
      goes = λ f e kept. stays (with_break f.number step (lessened mirror f.layout) m) (lessens m h name mirror step f e);
      splits = λ new f e kept wholly absent room. (
          let mid : MetaView = with_break f.number step (lessened mirror f.layout) m in
          let x : File = new_file m.next_file new f.size (split_off mirror f.layout) in
          pushed m mid x (m.next_file + 1) AllCome (stays mid (lessens m h name mirror step f e)) (λ n there d listed fresh. inr (inr (inr (inl (record {
            none = is_next n _ x refl there;
            from = f.number;
            was = split f (there_named m h name f e) d (split_from mirror f.layout d (from_contains (split_off mirror f.layout).components d listed) fresh);
            splits = may ∙ ap (λ (text : List ℕ). Some text) (sym (name_found name m.files f e));
          })))))
          );
    }) (Some to)
      where
        split : (f : File) → file_of f.number m.files ≡ Some f → (d : Component) → WasFresh f.layout.components d → WasFreshIn m f.number d
        split f there d w = record { was = record { file = f; there = there; component = w.component; listed = to_contains f.layout.components w.component w.listed; same = w.same }; fresh = w.fresh }

    -- each call that may be made
    pub call_brings : (of : Call) → IsAskedAt asked call of → Brings (after_call of m)
    call_brings (OpenRead client name) may = stays (after_call (OpenRead client name) m) (read_cases (Keeps m) client name m (record { same = same m; shared = λ f e. locked m f.number (with_share client) (λ x. refl) (λ x. refl) }))
    call_brings (OpenWrite client name range step) may = stays (after_call (OpenWrite client name range step) m) (opened m h client name range step (nat_lt most_bytes range.end))
    call_brings (OpenCut client name size step) may = stays (after_call (OpenCut client name size step) m) (opened m h client name (record { start = size; end = eof }) step (nat_lt most_bytes size))
    call_brings (Free file cookie) may = stays (after_call (Free file cookie) m) (locked m file (with_freed cookie) (λ x. refl) (λ x. refl))
    call_brings (Confirm file cookie) may = stays (after_call (Confirm file cookie) m) (confirms m h file cookie (holds file cookie m))
    call_brings (Commit file cookie end) may = stays (after_call (Commit file cookie end) m) (locked m file (grown cookie end) (λ x. refl) (λ x. refl))
    call_brings (Cut file cookie size) may = stays (after_call (Cut file cookie size) m) (locked m file (shortened cookie size) (λ x. refl) (λ x. refl))
    call_brings (BeginCopy client name what) may = stays (after_call (BeginCopy client name what) m) (begun_copy m h client name what may)
    call_brings (CopyDone key cleared) may = ends key cleared may
    call_brings (MergeDone ours theirs) may = merges ours theirs may
    call_brings (GiveUp key) may = stays (after_call (GiveUp key) m) (kept m (with_given key m) refl)
    call_brings (Create name mirrors) may = makes name mirrors may
    call_brings (Remove client name mirror to step) may = removes_mirror client name mirror to step may
    call_brings (Set client name id change step) may = stays (after_call (Set client name id change step) m) (set_cases (Keeps m) client name id change step m (record {
      same = same m;
      marks = λ f e kept. named m h name f e (with_break f.number step (flagged id change f.layout) m) (flagged id change f.layout) refl (flagged_stay m.nexts f.layout id change);
    }))
    call_brings (Evict client step) may = stays (after_call (Evict client step) m) (evicted m client step)
