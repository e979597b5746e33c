-- What each call of the metadata server leaves of the shapes of objects.
use Rattle.std.proofs.Common.{◌≡◌, ℕ, ◌+◌, ◌<◌, ◌≤◌, Bool, true, false, nat_lt, Some, List, [], length, ◌⊎◌, inl, inr, refl, sym, ap, subst, ◌∙◌, get_or}
use Rattle.flr_base.specs.declared.reply.ObjectId.{ObjectId}
use Rattle.flr_base.specs.declared.reply.Range.{Range}
use Rattle.composite_layout.specs.Layouts.{Composite, eof}
use Rattle.composite_layout.specs.Making.{new_layout}
use Rattle.layout_lease.specs.declared.shared.Share.{Share}
use Rattle.layout_lease.specs.Leases.{KeyView}
use Rattle.layout_state.specs.Making.{AreNext}
use Rattle.layout_state.specs.Marking.{is_named}
use Rattle.layout_state.specs.Choosing.{is_over}
use Rattle.layout_state.proofs.NameLaws.{numbers_grow}
use Rattle.meta_server.specs.declared.answers.CopyWhat.{CopyWhat}
use Rattle.meta_server.specs.declared.answers.CopyWhat.TheVariants.{Victim}
use Rattle.meta_server.specs.Beginning.{with_begin}
use Rattle.meta_server.specs.Closing.{grown, holds, shortened}
use Rattle.meta_server.specs.Conditions.{IsCopyOf}
use Rattle.meta_server.specs.Ending.{both_given, with_done, with_merge}
use Rattle.meta_server.specs.Files.{File, MetaView, changed, file_named, file_of, new_file, with_break, with_change, with_freed, with_given, with_layout, with_share}
use Rattle.meta_server.specs.Layouts.{begun, extended, finished, flagged, intended, lessened, merged, split_off}
use Rattle.flr_base.specs.Limits.{most_bytes}
use Rattle.meta_server.specs.Opening.{change_opens_file, with_intent}
use Rattle.meta_server.specs.Sound.{IsSound}
use Rattle.meta_server.proofs.Going.{name_found}
use Rattle.meta_server.proofs.Placing.{number_found}
use Rattle.meta_laws.specs.Calls.{Call, OpenRead, OpenWrite, OpenCut, Free, Confirm, Commit, Cut, BeginCopy, CopyDone, MergeDone, GiveUp, Create, Remove, Set, Evict, after_call, confirmed, left_by}
use Rattle.meta_laws.proofs.Cases.{begin_cases, create_cases, end_cases, merge_cases, open_cases, read_cases, remove_cases, set_cases}
use Rattle.meta_laws.proofs.Changing.{over_AreNext}
use Rattle.meta_laws.proofs.Copies.{there_named}
use Rattle.meta_laws.proofs.Finding.{other_found}
use Rattle.meta_laws.proofs.Opens.{one_file}
use Rattle.flr_numbers.proofs.Inverting.{WasFound, was_found, was_without}
use Rattle.flr_shapes.specs.Sentences.{HasShape, IsShapeOf, Keeps, Shape}
use Rattle.flr_shapes.proofs.Files.{at_file, evicted, kept, laid, locked, pushed, same, then}
use Rattle.flr_shapes.proofs.Layouts.{begun_shape, extended_shape, finished_shape, flagged_shape, intended_shape, lessened_shape, merged_shape, new_shape, split_shape}
use Rattle.flr_behind.proofs.Calls.{IsAskedWell}

module _ (m : MetaView) (h : IsSound m) where
  -- a change breaks the lease of its file
  broken : (f : File) (step : ℕ) (l : Composite) → file_of f.number m.files ≡ Some f → ((o : ObjectId) (shape : Shape) → HasShape o shape l → HasShape o shape f.layout) → Keeps m (with_break f.number step l m)
  broken f step l here had = laid m (with_break f.number step l m) f l here refl (λ o shape is. inr (had o shape is))

  opened : (client : ℕ) (name : List ℕ) (range : Range) (step : ℕ) (b : Bool) → Keeps m (left_by (change_opens_file client range step m name b (file_named name m.files)) m)
  opened client name range step = open_cases (Keeps m) client name range step m (record {
    same = same m;
    shared = λ f e. locked m f.number (with_share client) (λ x. refl) (λ x. refl);
    intended = λ f mirror e primary. (
        let mid : MetaView = with_intent range mirror step f m in
        then m mid (with_change f.number (with_share client) mid) (λ target. numbers_grow (is_over range mirror) f.number m.nexts f.layout.components h.nexts.some target)
        (laid m mid f (intended range mirror f.number m.nexts f.layout) (there_named m h name f e) refl (λ o shape is. intended_shape o shape range mirror f.number m.nexts f.layout h.nexts.some is))
        (locked mid f.number (with_share client) (λ x. refl) (λ x. refl))
        );
  })

  -- a lease is taken, of a file that kept its shapes
  begins : (m : MetaView) (client : ℕ) (ids : List ℕ) (f x : File) → 0 < length m.nexts → x.number ≡ f.number → file_of f.number m.files ≡ Some f → ((o : ObjectId) (shape : Shape) → HasShape o shape x.layout → HasShape o shape f.layout) → Keeps m (with_begin client ids x m)
  begins m client ids f x some same here had =
      laid m (with_begin client ids x m) f (begun ids x.number m.nexts x.layout) here (ap (λ n. changed n (with_layout (begun ids x.number m.nexts x.layout)) m.files) same)
      (λ o shape is. by o shape (begun_shape o shape ids x.number m.nexts x.layout some is))
    where
      by : (o : ObjectId) (shape : Shape) → (get_or m.nexts o.target 0 ≤ o.number) ⊎ HasShape o shape x.layout → (get_or m.nexts o.target 0 ≤ o.number) ⊎ HasShape o shape f.layout
      by o shape (inl late) = inl late
      by o shape (inr is) = inr (had o shape is)

  -- two files of two names have two numbers
  pub apart : (name : List ℕ) (what : CopyWhat) → IsCopyOf name what → (victim : List ℕ) (f v : File) → what ≡ Victim victim → file_named name m.files ≡ Some f → file_named victim m.files ≡ Some v → v.number ≡ f.number → ⊥
  apart name what copy victim f v is e k same =
      let found : file_of f.number m.files ≡ Some v = ap (λ n. file_of n m.files) (sym same) ∙ there_named m h victim v k in
      let one : f ≡ v = one_file (file_of f.number m.files) f v (there_named m h name f e) found in
      let two : IsCopyOf name (Victim victim) = subst (IsCopyOf name) is copy in
      two (sym (name_found name m.files f e) ∙ ap (λ (y : File). y.name) one ∙ name_found victim m.files v k)

  begun_copy : (client : ℕ) (name : List ℕ) (what : CopyWhat) → IsCopyOf name what → Keeps m (after_call (BeginCopy client name what) m)
  begun_copy client name what copy = begin_cases (Keeps m) client name what m (record {
    same = same m;
    begins = λ ids f e free. begins m client ids f f h.nexts.some refl (there_named m h name f e) (λ o shape is. is);
    adds = λ mirrors f is e free within. (
        let l : Composite = extended mirrors (length m.nexts) f.layout in
        laid m (with_change f.number (with_layout l) m) f l (there_named m h name f e) refl (λ o shape has. inr (extended_shape o shape mirrors (length m.nexts) f.layout has))
        );
    extends = λ mirrors ids f is e free within. begins m client ids f (with_layout (extended mirrors (length m.nexts) f.layout) f) h.nexts.some refl (there_named m h name f e) (λ o shape has. extended_shape o shape mirrors (length m.nexts) f.layout has);
    both = λ victim f v is e k free free_too. (
        let mid : MetaView = with_begin client [] f m in
        let beside : file_of v.number m.files ≡ Some v = there_named m h victim v k in
        let next : AreNext mid.nexts = over_AreNext (is_named []) f.number m.nexts f.layout h.nexts in
        then m mid (with_begin client [] v mid) (λ target. numbers_grow (is_named []) f.number m.nexts f.layout.components h.nexts.some target)
        (begins m client [] f f h.nexts.some refl (there_named m h name f e) (λ o shape is. is))
        (begins mid client [] v v next.some refl (other_found v.number f.number (with_layout (begun [] f.number m.nexts f.layout)) m.files (λ y. refl) (apart name what copy victim f v is e k) ∙ beside) (λ o shape is. is))
        );
  })

  ended : (key : KeyView) (cleared : List ℕ) → Keeps m (after_call (CopyDone key cleared) m)
  ended key cleared = end_cases (Keeps m) key cleared m (record {
    same = same m;
    given = kept m (with_given key m) refl;
    done = λ f held e. (
        let own : f.number ≡ key.file = number_found key.file m.files f e in
        laid m (with_done key cleared f m) f (finished cleared f.layout) (subst (λ n. file_of n m.files ≡ Some f) (sym own) e) refl (λ o shape is. inr (finished_shape o shape cleared f.layout is))
        );
  })

  -- a file takes in another, which goes
  taken_in : (ours theirs : KeyView) (f v : File) → file_of ours.file m.files ≡ Some f → file_of theirs.file m.files ≡ Some v → Keeps m (with_merge ours theirs m f v)
  taken_in ours theirs f v e k o shape is = inr (by (was_found is.number f.number (with_layout l) m.files is.file (λ y. refl) (was_without is.number v.number (changed f.number (with_layout l) m.files) is.file is.there).1))
    where
      l : Composite
      l = merged v.layout f.layout

      one : HasShape o shape f.layout ⊎ HasShape o shape v.layout → IsShapeOf m o shape
      one (inl mine) = record { number = ours.file; file = f; there = e; has = mine }
      one (inr taken) = record { number = theirs.file; file = v; there = k; has = taken }

      by : WasFound is.number f.number (with_layout l) m.files is.file → IsShapeOf m o shape
      by w = elim w.is [
        | inl mine ↦ one (merged_shape o shape v.layout f.layout (subst (HasShape o shape) (ap (λ (y : File). y.layout) mine.1) is.has))
        | inr other ↦ at_file m o shape is.number w.before is.file w.there (ap (λ (y : File). y.layout) other.1) is.has
      ]

  confirms : (file : ℕ) (cookie : Share) (b : Bool) → Keeps m (confirmed file cookie b m)
  confirms file cookie true = locked m file (with_freed cookie) (λ x. refl) (λ x. refl)
  confirms file cookie false = same m

  -- each call
  pub call_keeps : (call : Call) → IsAskedWell call → Keeps m (after_call call m)
  call_keeps (OpenRead client name) well = read_cases (Keeps m) client name m (record { same = same m; shared = λ f e. locked m f.number (with_share client) (λ x. refl) (λ x. refl) })
  call_keeps (OpenWrite client name range step) well = opened client name range step (nat_lt most_bytes range.end)
  call_keeps (OpenCut client name size step) well = opened client name (record { start = size; end = eof }) step (nat_lt most_bytes size)
  call_keeps (Free file cookie) well = locked m file (with_freed cookie) (λ x. refl) (λ x. refl)
  call_keeps (Confirm file cookie) well = confirms file cookie (holds file cookie m)
  call_keeps (Commit file cookie end) well = locked m file (grown cookie end) (λ x. refl) (λ x. refl)
  call_keeps (Cut file cookie size) well = locked m file (shortened cookie size) (λ x. refl) (λ x. refl)
  call_keeps (BeginCopy client name what) well = begun_copy client name what well
  call_keeps (CopyDone key cleared) well = ended key cleared
  call_keeps (MergeDone ours theirs) well = merge_cases (Keeps m) ours theirs m (record { same = same m; given = kept m (both_given ours theirs m) refl; merges = λ f v held held_too e k. taken_in ours theirs f v e k })
  call_keeps (GiveUp key) well = kept m (with_given key m) refl
  call_keeps (Create name mirrors) well = create_cases (Keeps m) name mirrors m (record {
    same = same m;
    comes = λ absent room. (
        let l : Composite = new_layout mirrors (length m.nexts) in
        pushed m m (new_file m.next_file name 0 l) (m.next_file + 1) (same m) (λ o shape is. absurd (new_shape o shape mirrors (length m.nexts) is))
        );
  })
  call_keeps (Remove client name mirror to step) well = remove_cases (Keeps m) client name mirror step m (record {
    same = same m;
    goes = λ f e kept. broken f step (lessened mirror f.layout) (there_named m h name f e) (λ o shape is. lessened_shape o shape mirror f.layout is);
    splits = λ new f e kept fresh absent room. (
        let mid : MetaView = with_break f.number step (lessened mirror f.layout) m in
        pushed m mid (new_file m.next_file new f.size (split_off mirror f.layout)) (m.next_file + 1)
        (broken f step (lessened mirror f.layout) (there_named m h name f e) (λ o shape is. lessened_shape o shape mirror f.layout is))
        (λ o shape is. record { number = f.number; file = f; there = there_named m h name f e; has = split_shape o shape mirror f.layout is })
        );
  }) to
  call_keeps (Set client name id change step) well = set_cases (Keeps m) client name id change step m (record {
    same = same m;
    marks = λ f e kept. broken f step (flagged id change f.layout) (there_named m h name f e) (λ o shape is. flagged_shape o shape id change f.layout is);
  })
  call_keeps (Evict client step) well = evicted m client step
