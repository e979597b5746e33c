-- Each call makes of the layouts what is said.
use Rattle.std.proofs.Common.{◌≡◌, ℕ, Bool, true, false, nat_lt, Option, Some, None, List, [], ◌∷◌, ◌++◌, length, map, refl, sym, subst, arith}
use Rattle.flr_base.specs.declared.reply.Range.{Range}
use Rattle.composite_layout.specs.declared.spec.MirrorSpec.{MirrorSpec}
use Rattle.composite_layout.specs.FlagChanges.{FlagSets}
use Rattle.composite_layout.specs.Layouts.{Composite, eof}
use Rattle.composite_layout.specs.Making.{new_layout, part_count}
use Rattle.composite_layout.specs.Specs.{IsSpec}
use Rattle.layout_lease.specs.declared.shared.Share.{Share}
use Rattle.layout_lease.specs.Leases.{KeyView}
use Rattle.layout_state.specs.Changes.{Change}
use Rattle.layout_state.specs.Marking.{is_named}
use Rattle.layout_state.specs.Mirroring.{excess}
use Rattle.meta_server.specs.declared.answers.CopyWhat.{CopyWhat}
use Rattle.meta_server.specs.declared.answers.CopyWhat.TheVariants.{Extend}
use Rattle.meta_server.specs.Beginning.{copy_begins}
use Rattle.meta_server.specs.Closing.{commits, cuts, frees, grown, holds, shortened}
use Rattle.meta_server.specs.Conditions.{MayMerge}
use Rattle.meta_server.specs.Ending.{copy_ends, merge_ends}
use Rattle.meta_server.specs.Files.{File, MetaView, changed, file_named, file_of, new_file, with_evicted, with_freed, with_layout, with_share, without_file}
use Rattle.meta_server.specs.Layouts.{begun, extended, finished, flagged, intended, lessened, merged, nexts_over, split_off}
use Rattle.meta_server.specs.Naming.{creates, removes, sets}
use Rattle.flr_base.specs.Limits.{most_bytes}
use Rattle.meta_server.specs.Opening.{change_opens_file, read_opens}
use Rattle.meta_server.specs.Sound.{IsSound}
use Rattle.meta_server.proofs.Placing.{number_found}
use Rattle.meta_laws.specs.Calls.{Call, OpenRead, OpenWrite, OpenCut, Free, Confirm, Commit, Cut, BeginCopy, CopyDone, MergeDone, GiveUp, Create, Remove, Set, Evict, IsCopyable, MayCall, after_call, confirmed, left_at, left_by}
use Rattle.meta_laws.specs.Layouts.{AreExplained, Becomes, Changes, Comes, Extends, IsExplained, Made, Merges, SplitOff}
use Rattle.meta_laws.proofs.Cases.{begin_cases, create_cases, end_cases, merge_cases, open_cases, read_cases, remove_cases, set_cases}
use Rattle.meta_laws.proofs.Changing.{begun_changes, extended_changes, finished_changes, flagged_changes, intended_changes, lessened_changes, merged_takes, over_AreNext, split_is}
use Rattle.meta_laws.proofs.Copies.{there_named}
use Rattle.meta_laws.proofs.Explaining.{explained_kept, explained_layout, explained_pushed, explained_same, kept_changed, kept_evicted, kept_without, none_next}

-- one file that is there gets a layout
once : (m : MetaView) (f : File) (l : Composite) → file_of f.number m.files ≡ Some f → Becomes m.files f.layout l → AreExplained m (changed f.number (with_layout l) m.files)
once m f l there is = explained_layout m m.files f.number l (explained_same m) (λ x found. subst (λ (o : Option File). IsExplained m f.number o l) (sym there) is)

-- the client shares the lock, once these files are explained
then_shared : (m : MetaView) (files : List File) (client n : ℕ) → AreExplained m files → AreExplained m (changed n (with_share client) files)
then_shared m files client n h = explained_kept m files (changed n (with_share client) files) h (kept_changed n (with_share client) files (λ f. refl) (λ f. refl))

-- ---- cookies

freed_explained : (m : MetaView) (n : ℕ) (cookie : Share) → AreExplained m (frees n cookie m).files
freed_explained m n cookie = explained_kept m m.files (changed n (with_freed cookie) m.files) (explained_same m) (kept_changed n (with_freed cookie) m.files (λ f. refl) (λ f. refl))

confirmed_explained : (m : MetaView) (n : ℕ) (cookie : Share) (b : Bool) → AreExplained m (confirmed n cookie b m).files
confirmed_explained m n cookie true = freed_explained m n cookie
confirmed_explained m n cookie false = explained_same m

committed_explained : (m : MetaView) (n : ℕ) (cookie : Share) (end : ℕ) → AreExplained m (commits n cookie end m).files
committed_explained m n cookie end = explained_kept m m.files (changed n (grown cookie end) m.files) (explained_same m) (kept_changed n (grown cookie end) m.files (λ f. refl) (λ f. refl))

cut_explained : (m : MetaView) (n : ℕ) (cookie : Share) (size : ℕ) → AreExplained m (cuts n cookie size m).files
cut_explained m n cookie size = explained_kept m m.files (changed n (shortened cookie size) m.files) (explained_same m) (kept_changed n (shortened cookie size) m.files (λ f. refl) (λ f. refl))

-- ---- what each call may leave

-- the file with a number is found by its own
there_numbered : (n : ℕ) (files : List File) (f : File) → file_of n files ≡ Some f → file_of f.number files ≡ Some f
there_numbered n files f e = subst (λ k. file_of k files ≡ Some f) (sym (number_found n files f e)) e

module _ (m : MetaView) (h : IsSound m) where
  -- a file of a name gets a layout
  laid : (name : List ℕ) (f : File) (l : Composite) → file_named name m.files ≡ Some f → Becomes m.files f.layout l → AreExplained m (changed f.number (with_layout l) m.files)
  laid name f l e is = once m f l (there_named m h name f e) is

  shared : (client : ℕ) (name : List ℕ) (f : File) → file_named name m.files ≡ Some f → AreExplained m (changed f.number (with_share client) m.files)
  shared client name f e = then_shared m m.files client f.number (explained_same m)

  read_explained : (client : ℕ) (name : List ℕ) → AreExplained m (left_by (read_opens client name m) m).files
  read_explained client name = read_cases (λ (x : MetaView). AreExplained m x.files) client name m (record { same = explained_same m; shared = shared client name })

  open_explained : (client : ℕ) (name : List ℕ) (range : Range) (step : ℕ) (b : Bool) → AreExplained m (left_by (change_opens_file client range step m name b (file_named name m.files)) m).files
  open_explained client name range step = open_cases (λ (x : MetaView). AreExplained m x.files) client name range step m (record {
    same = explained_same m;
    shared = shared client name;
    intended = λ f mirror e primary.
        let l : Composite = intended range mirror f.number m.nexts f.layout in
        then_shared m (changed f.number (with_layout l) m.files) client f.number (laid name f l e (Changes (intended_changes range mirror f.number m.nexts f.layout h.nexts primary)));
  })

  -- a copy begins
  begin_explained : (name : List ℕ) (ids : List ℕ) (f : File) → file_named name m.files ≡ Some f → AreExplained m (changed f.number (with_layout (begun ids f.number m.nexts f.layout)) m.files)
  begin_explained name ids f e = laid name f (begun ids f.number m.nexts f.layout) e (Changes (begun_changes ids f.number m.nexts f.layout h.nexts))

  copy_explained : (client : ℕ) (name : List ℕ) (what : CopyWhat) → IsCopyable what → AreExplained m (left_by (copy_begins client name what m) m).files
  copy_explained client name what may = begin_cases (λ (x : MetaView). AreExplained m x.files) client name what m (record {
    same = explained_same m;
    begins = λ ids f e free. begin_explained name ids f e;
    adds = λ mirrors f is e free within. laid name f (extended mirrors (length m.nexts) f.layout) e (Changes (added mirrors f is within));
    extends = λ mirrors ids f is e free within.
        let l : Composite = extended mirrors (length m.nexts) f.layout in
        laid name f (begun ids f.number m.nexts l) e
        (Extends mirrors (length m.nexts) l ids f.number m.nexts (nexts_over (is_named ids) f.number m.nexts l) (added mirrors f is within) (record { generation = refl; state = refl; next_mirror = refl; next_counter = refl; components = refl }) (begun_changes ids f.number m.nexts l h.nexts) (record { layout = refl; past = refl }));
    both = λ victim f v is e k free free_too.
        let nexts : List ℕ = nexts_over (is_named []) f.number m.nexts f.layout in
        let l : Composite = begun [] v.number nexts v.layout in
        explained_layout m (changed f.number (with_layout (begun [] f.number m.nexts f.layout)) m.files) v.number l (begin_explained name [] f e)
        (λ x found. subst (λ (o : Option File). IsExplained m v.number o l) (sym (there_named m h victim v k)) (Changes (begun_changes [] v.number nexts v.layout (over_AreNext (is_named []) f.number m.nexts f.layout h.nexts))));
  })
    where
      added : (mirrors : List MirrorSpec) (f : File) → what ≡ Extend mirrors → excess f.layout (length mirrors) (part_count mirrors) m.most ≡ None → Change f.layout (extended mirrors (length m.nexts) f.layout)
      added mirrors f is within = extended_changes mirrors (length m.nexts) m.most f.layout (subst IsCopyable is may) h.nexts.some h.nexts.few h.most within

  end_explained : (key : KeyView) (cleared : List ℕ) → AreExplained m (left_at (copy_ends key cleared m) m).files
  end_explained key cleared = end_cases (λ (x : MetaView). AreExplained m x.files) key cleared m (record {
    same = explained_same m;
    given = explained_same m;
    done = λ f held e. once m f (finished cleared f.layout) (there_numbered key.file m.files f e) (Changes (finished_changes cleared f.layout));
  })

  merge_explained : (ours theirs : KeyView) → MayMerge ours theirs m → AreExplained m (left_at (merge_ends ours theirs m) m).files
  merge_explained ours theirs may = merge_cases (λ (x : MetaView). AreExplained m x.files) ours theirs m (record {
    same = explained_same m;
    given = explained_same m;
    merges = λ f v held held_too e k.
        let l : Composite = merged v.layout f.layout in
        explained_kept m (changed f.number (with_layout l) m.files) (without_file v.number (changed f.number (with_layout l) m.files))
        (once m f l (there_numbered ours.file m.files f e) (Merges v (there_numbered theirs.file m.files v k) (merged_takes m.most f.layout v.layout h.most (may.within held held_too f v e k))))
        (kept_without v.number (changed f.number (with_layout l) m.files));
  })

  -- a file of the next number comes
  comes_last : (files : List File) (name : List ℕ) (size : ℕ) (l : Composite) → AreExplained m files → Comes m.files l → AreExplained m (files ++ new_file m.next_file name size l ∷ [])
  comes_last files name size l explained comes =
      explained_pushed m files (new_file m.next_file name size l) explained (subst (λ (o : Option File). IsExplained m m.next_file o l) (sym (none_next m.next_file m.files h.below)) (omega arith, comes))

  create_explained : (name : List ℕ) (mirrors : List MirrorSpec) → IsSpec mirrors → AreExplained m (left_by (creates name mirrors m) m).files
  create_explained name mirrors spec = create_cases (λ (x : MetaView). AreExplained m x.files) name mirrors m (record {
    same = explained_same m;
    comes = λ absent room. comes_last m.files name 0 (new_layout mirrors (length m.nexts)) (explained_same m) (Made mirrors (length m.nexts) spec refl);
  })

  remove_explained : (client : ℕ) (name : List ℕ) (mirror step : ℕ) (to : Option (List ℕ)) → AreExplained m (left_by (removes client name mirror to step m) m).files
  remove_explained client name mirror step = remove_cases (λ (x : MetaView). AreExplained m x.files) client name mirror step m (record {
    same = explained_same m;
    goes = λ f e kept. laid name f (lessened mirror f.layout) e (Changes (lessened_changes mirror f.layout kept));
    splits = λ to f e kept fresh absent room.
        comes_last (changed f.number (with_layout (lessened mirror f.layout)) m.files) to f.size (split_off mirror f.layout) (laid name f (lessened mirror f.layout) e (Changes (lessened_changes mirror f.layout kept)))
        (SplitOff f mirror (there_named m h name f e) (split_is mirror f.layout fresh));
  })

  set_explained : (client : ℕ) (name : List ℕ) (id : ℕ) (change : FlagSets) (step : ℕ) → AreExplained m (left_by (sets client name id change step m) m).files
  set_explained client name id change step = set_cases (λ (x : MetaView). AreExplained m x.files) client name id change step m (record {
    same = explained_same m;
    marks = λ f e kept. laid name f (flagged id change f.layout) e (Changes (flagged_changes id change f.layout kept));
  })

-- ---- each call

pub call_explained : (call : Call) (m : MetaView) → IsSound m → MayCall call m → AreExplained m (after_call call m).files
call_explained (OpenRead client name) m h may = read_explained m h client name
call_explained (OpenWrite client name range step) m h may = open_explained m h client name range step (nat_lt most_bytes range.end)
call_explained (OpenCut client name size step) m h may = open_explained m h client name (record { start = size; end = eof }) step (nat_lt most_bytes size)
call_explained (Free file cookie) m h may = freed_explained m file cookie
call_explained (Confirm file cookie) m h may = confirmed_explained m file cookie (holds file cookie m)
call_explained (Commit file cookie end) m h may = committed_explained m file cookie end
call_explained (Cut file cookie size) m h may = cut_explained m file cookie size
call_explained (BeginCopy client name what) m h may = copy_explained m h client name what may.mirrors
call_explained (CopyDone key cleared) m h may = end_explained m h key cleared
call_explained (MergeDone ours theirs) m h may = merge_explained m h ours theirs may.0
call_explained (GiveUp key) m h may = explained_same m
call_explained (Create name mirrors) m h may = create_explained m h name mirrors may.1
call_explained (Remove client name mirror to step) m h may = remove_explained m h client name mirror step to
call_explained (Set client name id change step) m h may = set_explained m h client name id change step
call_explained (Evict client step) m h may = explained_kept m m.files (map (with_evicted client) m.files) (explained_same m) (kept_evicted client m.files)
