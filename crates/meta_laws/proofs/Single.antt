-- Each call leaves every object at one place at most, made before.
use Rattle.std.proofs.Common.{◌≡◌, ℕ, ◌+◌, ◌≤◌, Bool, true, false, cond, not, ◌&&◌, nat_eq, nat_lt, Option, Some, List, [], ◌∷◌, length, refl, sym, ap, subst, ◌∙◌, arith}
use Rattle.std.specs.List.{AllByRecursion}
use Rattle.flr_base.specs.declared.reply.ObjectId.{ObjectId}
use Rattle.flr_base.specs.declared.reply.Range.{Range}
use Rattle.composite_layout.specs.declared.component.Component.{Component}
use Rattle.composite_layout.specs.declared.spec.MirrorSpec.{MirrorSpec}
use Rattle.composite_layout.specs.declared.spec.Part.{Part}
use Rattle.composite_layout.specs.Choices.{overlaps}
use Rattle.composite_layout.specs.FlagChanges.{FlagSets}
use Rattle.composite_layout.specs.Layouts.{Composite, IsShaped, eof}
use Rattle.composite_layout.specs.Making.{new_layout, new_mirrors, new_parts}
use Rattle.composite_layout.proofs.New.{all_append}
use Rattle.layout_lease.specs.declared.shared.Share.{Share}
use Rattle.layout_lease.specs.Leases.{KeyView, TableView, broken_by, given}
use Rattle.layout_state.specs.Breaking.{unleased}
use Rattle.layout_state.specs.Choosing.{is_over}
use Rattle.layout_state.specs.Making.{AreNext, all_objects, new_objects, with_new_objects}
use Rattle.layout_state.specs.Marking.{changed_if_named, fresh_if_named, is_named, stale_if_behind, with_change}
use Rattle.layout_state.specs.Mirroring.{taken_in, unnamed}
use Rattle.layout_state.proofs.MarkLaws.{unleased_components}
use Rattle.layout_state.proofs.StayLaws.{taken_same}
use Rattle.meta_server.specs.declared.answers.CopyWhat.{CopyWhat}
use Rattle.meta_server.specs.Beginning.{with_begin}
use Rattle.meta_server.specs.Closing.{grown, holds, shortened}
use Rattle.meta_server.specs.Conditions.{MayMerge}
use Rattle.meta_server.specs.Ending.{with_merge}
use Rattle.meta_server.specs.Files.{File, MetaView, AreAscending, changed, file_named, file_of, new_file, new_meta, with_break, with_eviction, with_file, with_freed, with_layout, with_share}
use Rattle.meta_server.specs.Layouts.{begun, extended, finished, flagged, intended, lessened, merged, split_off}
use Rattle.flr_base.specs.Limits.{most_bytes}
use Rattle.meta_server.specs.Opening.{change_opens_file, with_intent}
use Rattle.meta_server.specs.Sound.{IsSound}
use Rattle.meta_server.proofs.Placing.{ascending_changed, number_found}
use Rattle.meta_laws.specs.Calls.{Call, OpenRead, OpenWrite, OpenCut, Free, Confirm, Commit, Cut, BeginCopy, CopyDone, MergeDone, GiveUp, Create, Remove, Set, Evict, MayBegin, MayCall, MayRun, after_call, after_calls, confirmed, left_by}
use Rattle.meta_laws.specs.Numbers.{AreObjectsOnce, times_among, times_in}
use Rattle.meta_laws.proofs.Cases.{begin_cases, create_cases, end_cases, merge_cases, open_cases, read_cases, remove_cases, set_cases}
use Rattle.meta_laws.proofs.Changing.{over_AreNext}
use Rattle.meta_laws.proofs.Copies.{added_valid, apart, sound_named, there_named}
use Rattle.meta_laws.proofs.Finding.{other_found}
use Rattle.meta_laws.proofs.Once.{evicted_layouts, gone, in_append, in_filter, in_made, in_map, in_none, once_fewer, once_more, pushed, relaid, same_layouts}
use Rattle.meta_laws.proofs.Runs.{call_sound}

-- ---- how often an object stands in a layout that changed

stale_objects : (range : Range) (mirror : ℕ) (c : Component) → (stale_if_behind range mirror c).objects ≡ c.objects
stale_objects range mirror c = by (not (nat_eq c.mirror mirror) && overlaps range c)
  where
    by : (b : Bool) → (cond b (record c { flags = record c.flags { stale = true } }) c).objects ≡ c.objects
    by true = refl
    by false = refl

fresh_objects : (ids : List ℕ) (c : Component) → (fresh_if_named ids c).objects ≡ c.objects
fresh_objects ids c = by (is_named ids c)
  where
    by : (b : Bool) → (cond b (record c { flags = record c.flags { stale = false } }) c).objects ≡ c.objects
    by true = refl
    by false = refl

marked_objects : (id : ℕ) (change : FlagSets) (c : Component) → (changed_if_named id change c).objects ≡ c.objects
marked_objects id change c = by (nat_eq c.id id)
  where
    by : (b : Bool) → (cond b (record c { flags = with_change change c.flags }) c).objects ≡ c.objects
    by true = refl
    by false = refl

-- new mirrors have no objects
no_objects : (stale : Bool) (targets id q : ℕ) (ms : List MirrorSpec) → AllByRecursion (λ (c : Component). c.objects ≡ []) (new_mirrors stale targets id q ms)
no_objects stale targets id q [] = tt
no_objects stale targets id q (m ∷ ms) = all_append (λ (c : Component). c.objects ≡ []) _ _ (parts id m.prefer q 0 m.parts) (no_objects stale targets (id + 1) (q + length m.parts) ms)
  where
    parts : (id : ℕ) (prefer : Bool) (q start : ℕ) (ps : List Part) → AllByRecursion (λ (c : Component). c.objects ≡ []) (new_parts stale targets id prefer q start ps)
    parts id prefer q start [] = tt
    parts id prefer q start (p ∷ ps) = (refl, parts id prefer (q + 1) p.end ps)

module _ (o : ObjectId) where
  in_unleased : (l : Composite) → times_in o (unleased l).components ≡ times_in o l.components
  in_unleased l = ap (times_in o) (unleased_components l)

  in_begun : (ids : List ℕ) (file : ℕ) (nexts : List ℕ) (l : Composite) → AllByRecursion IsShaped l.components → times_in o (begun ids file nexts l).components ≡ times_in o l.components + times_among o (all_objects (new_objects (is_named ids) file nexts l.components))
  in_begun ids file nexts l shaped = in_made o (is_named ids) file nexts l.components shaped

  in_intended : (range : Range) (mirror file : ℕ) (nexts : List ℕ) (l : Composite) → AllByRecursion IsShaped l.components → times_in o (intended range mirror file nexts l).components ≡ times_in o l.components + times_among o (all_objects (new_objects (is_over range mirror) file nexts l.components))
  in_intended range mirror file nexts l shaped =
      in_map o (stale_if_behind range mirror) (stale_objects range mirror) (with_new_objects (is_over range mirror) file nexts l.components) ∙ in_made o (is_over range mirror) file nexts l.components shaped

  in_finished : (ids : List ℕ) (l : Composite) → times_in o (finished ids l).components ≡ times_in o l.components
  in_finished ids l = in_map o (fresh_if_named ids) (fresh_objects ids) l.components

  in_flagged : (id : ℕ) (change : FlagSets) (l : Composite) → times_in o (flagged id change l).components ≡ times_in o l.components
  in_flagged id change l = in_map o (changed_if_named id change) (marked_objects id change) (unleased l).components ∙ in_unleased l

  in_extended : (mirrors : List MirrorSpec) (targets : ℕ) (l : Composite) → times_in o (extended mirrors targets l).components ≡ times_in o l.components
  in_extended mirrors targets l =
      let made : List Component = new_mirrors true targets (unleased l).next_mirror (unleased l).next_counter mirrors in
      let sum = in_append o (unleased l).components made in
      let none = in_none o made (no_objects true targets (unleased l).next_mirror (unleased l).next_counter mirrors) in
      let same = in_unleased l in
      omega (arith, sum, none, same)

  in_split : (mirror : ℕ) (l : Composite) → times_in o (lessened mirror l).components + times_in o (split_off mirror l).components ≡ times_in o l.components
  in_split mirror l = in_filter o (λ (c : Component). nat_eq c.mirror mirror) (unleased l).components ∙ in_unleased l

  in_merged : (victim l : Composite) → times_in o (merged victim l).components ≡ times_in o l.components + times_in o victim.components
  in_merged victim l =
      let theirs : List Component = taken_in l.next_mirror l.next_counter victim.components in
      let same : times_in o theirs ≡ times_in o victim.components = sym (in_map o unnamed (λ c. refl) theirs) ∙ ap (times_in o) (taken_same l.next_mirror l.next_counter victim.components) ∙ in_map o unnamed (λ c. refl) victim.components in
      let sum = in_append o l.components theirs in
      omega (arith, sum, same)

-- ---- in all layouts

-- a file gets a layout in which no object stands more often
laid_once : (m : MetaView) (f : File) (l : Composite) (leases : TableView) → IsSound m → AreObjectsOnce m → file_of f.number m.files ≡ Some f → ((o : ObjectId) → times_in o l.components ≤ times_in o f.layout.components) → AreObjectsOnce (record m { files = changed f.number (with_layout l) m.files; leases = leases })
laid_once m f l leases h k there fewer = once_fewer m (record m { files = changed f.number (with_layout l) m.files; leases = leases }) k (λ o. (let sum = relaid o f.number l m.files f h.ascending there in let less = fewer o in omega (arith, sum, less))) refl

-- a copy begins with this layout, in which each object stands as often as in that of the file
begin_once : (client : ℕ) (ids : List ℕ) (f : File) (l : Composite) (m : MetaView) → AreObjectsOnce m → AreNext m.nexts → AreAscending m.files → file_of f.number m.files ≡ Some f → AllByRecursion IsShaped l.components → ((o : ObjectId) → times_in o l.components ≡ times_in o f.layout.components)
    → AreObjectsOnce (with_begin client ids (with_layout l f) m)
begin_once client ids f l m k next ascending there shaped same =
    once_more m (with_begin client ids (with_layout l f) m) (is_named ids) f.number l.components k next
    (λ o. (let sum = relaid o f.number (begun ids f.number m.nexts l) m.files f ascending there in let made = in_begun o ids f.number m.nexts l shaped in let before = same o in omega (arith, sum, made, before)))
    refl

module _ (m : MetaView) (h : IsSound m) (k : AreObjectsOnce m) where
  shares_once : (n client : ℕ) → AreObjectsOnce (record m { files = changed n (with_share client) m.files })
  shares_once n client = once_fewer m (record m { files = changed n (with_share client) m.files }) k (λ o. (let same = same_layouts o n (with_share client) m.files (λ f. refl) in omega (arith, same))) refl

  locks_once : (n : ℕ) (g : File → File) → ((f : File) → (g f).layout ≡ f.layout) → AreObjectsOnce (record m { files = changed n g m.files })
  locks_once n g keeps = once_fewer m (record m { files = changed n g m.files }) k (λ o. (let same = same_layouts o n g m.files keeps in omega (arith, same))) refl

  leases_once : (leases : TableView) → AreObjectsOnce (record m { leases = leases })
  leases_once leases = once_fewer m (record m { leases = leases }) k (λ o. omega arith) refl

  intent_once : (name : List ℕ) (range : Range) (mirror step : ℕ) (f : File) → file_named name m.files ≡ Some f → AreObjectsOnce (with_intent range mirror step f m)
  intent_once name range mirror step f e =
      once_more m (with_intent range mirror step f m) (is_over range mirror) f.number f.layout.components k h.nexts
      (λ o. (let sum = relaid o f.number (intended range mirror f.number m.nexts f.layout) m.files f h.ascending (there_named m h name f e) in let made = in_intended o range mirror f.number m.nexts f.layout (sound_named m h name f e).layout.shaped in omega (arith, sum, made)))
      refl

  open_once : (client : ℕ) (name : List ℕ) (range : Range) (step : ℕ) (b : Bool) → AreObjectsOnce (left_by (change_opens_file client range step m name b (file_named name m.files)) m)
  open_once client name range step = open_cases AreObjectsOnce client name range step m (record {
    same = k;
    shared = λ f e. shares_once f.number client;
    intended = λ f mirror e primary.
        once_fewer (with_intent range mirror step f m) (record (with_intent range mirror step f m) { files = changed f.number (with_share client) (with_intent range mirror step f m).files }) (intent_once name range mirror step f e)
        (λ o. (let same = same_layouts o f.number (with_share client) (with_intent range mirror step f m).files (λ x. refl) in omega (arith, same))) refl;
  })

  copy_once : (client : ℕ) (name : List ℕ) (what : CopyWhat) → MayBegin client name what m → AreObjectsOnce (after_call (BeginCopy client name what) m)
  copy_once client name what may = begin_cases AreObjectsOnce client name what m (record {
    same = k;
    begins = λ ids f e free. begin_once client ids f f.layout m k h.nexts h.ascending (there_named m h name f e) (sound_named m h name f e).layout.shaped (λ o. refl);
    adds = λ mirrors f is e free within. laid_once m f (extended mirrors (length m.nexts) f.layout) m.leases h k (there_named m h name f e) (λ o. (let same = in_extended o mirrors (length m.nexts) f.layout in omega (arith, same)));
    extends = λ mirrors ids f is e free within.
        begin_once client ids f (extended mirrors (length m.nexts) f.layout) m k h.nexts h.ascending (there_named m h name f e) (added_valid client name what m h may mirrors f is e within).shaped (λ o. in_extended o mirrors (length m.nexts) f.layout);
    both = λ victim f v is e j free free_too.
        let first : MetaView = with_begin client [] f m in
        let l : Composite = begun [] f.number m.nexts f.layout in
        let two = apart client name what m h may victim f v is e j in
        begin_once client [] v v.layout first (begin_once client [] f f.layout m k h.nexts h.ascending (there_named m h name f e) (sound_named m h name f e).layout.shaped (λ o. refl))
        (over_AreNext (is_named []) f.number m.nexts f.layout h.nexts) (ascending_changed f.number (with_layout l) m.files (λ x. refl) h.ascending)
        (other_found v.number f.number (with_layout l) m.files (λ x. refl) (λ same. two (sym same)) ∙ there_named m h victim v j)
        (sound_named m h victim v j).layout.shaped (λ o. refl);
  })

  end_once : (key : KeyView) (cleared : List ℕ) → AreObjectsOnce (after_call (CopyDone key cleared) m)
  end_once key cleared = end_cases AreObjectsOnce key cleared m (record {
    same = k;
    given = leases_once (given key m.leases);
    done = λ f held e. laid_once m f (finished cleared f.layout) (given key m.leases) h k (subst (λ n. file_of n m.files ≡ Some f) (sym (number_found key.file m.files f e)) e) (λ o. (let same = in_finished o cleared f.layout in omega (arith, same)));
  })

  merged_once : (ours theirs : KeyView) (f v : File) → MayMerge ours theirs m → file_of ours.file m.files ≡ Some f → file_of theirs.file m.files ≡ Some v → AreObjectsOnce (with_merge ours theirs m f v)
  merged_once ours theirs f v may e j =
      let l : Composite = merged v.layout f.layout in
      let ours_is : f.number ≡ ours.file = number_found ours.file m.files f e in
      let theirs_is : v.number ≡ theirs.file = number_found theirs.file m.files v j in
      let there : file_of f.number m.files ≡ Some f = subst (λ n. file_of n m.files ≡ Some f) (sym ours_is) e in
      let beside : file_of v.number m.files ≡ Some v = subst (λ n. file_of n m.files ≡ Some v) (sym theirs_is) j in
      let after : List File = changed f.number (with_layout l) m.files in
      let still : file_of v.number after ≡ Some v = other_found v.number f.number (with_layout l) m.files (λ x. refl) (λ same. may.files (sym ours_is ∙ sym same ∙ theirs_is)) ∙ beside in
      once_fewer m (with_merge ours theirs m f v) k
      (λ o. (
      let one = relaid o f.number l m.files f h.ascending there in
      let both = in_merged o v.layout f.layout in
      let two = gone o v.number after v (ascending_changed f.number (with_layout l) m.files (λ x. refl) h.ascending) still in
      omega (arith, one, both, two)))
      refl

  merge_once : (ours theirs : KeyView) → MayMerge ours theirs m → AreObjectsOnce (after_call (MergeDone ours theirs) m)
  merge_once ours theirs may = merge_cases AreObjectsOnce ours theirs m (record {
    same = k;
    given = leases_once (given theirs (given ours m.leases));
    merges = λ f v held held_too e j. merged_once ours theirs f v may e j;
  })

  create_once : (name : List ℕ) (mirrors : List MirrorSpec) → AreObjectsOnce (after_call (Create name mirrors) m)
  create_once name mirrors = create_cases AreObjectsOnce name mirrors m (record {
    same = k;
    comes = λ absent room.
        let l : Composite = new_layout mirrors (length m.nexts) in
        once_fewer m (with_file name 0 l m) k (λ o. (let sum = pushed o m.files (new_file m.next_file name 0 l) in let none = in_none o l.components (no_objects false (length m.nexts) 1 1 mirrors) in omega (arith, sum, none))) refl;
  })

  remove_once : (client : ℕ) (name : List ℕ) (mirror : ℕ) (to : Option (List ℕ)) (step : ℕ) → AreObjectsOnce (after_call (Remove client name mirror to step) m)
  remove_once client name mirror to step = remove_cases AreObjectsOnce client name mirror step m (record {
    same = k;
    goes = λ f e kept. laid_once m f (lessened mirror f.layout) (broken_by f.number step m.leases) h k (there_named m h name f e) (λ o. (let sum = in_split o mirror f.layout in omega (arith, sum)));
    splits = λ name_to f e kept fresh absent room.
        let l : Composite = lessened mirror f.layout in
        let part : Composite = split_off mirror f.layout in
        once_fewer m (with_file name_to f.size part (with_break f.number step l m)) k
        (λ o. (
        let one = relaid o f.number l m.files f h.ascending (there_named m h name f e) in
        let sum = in_split o mirror f.layout in
        let two = pushed o (changed f.number (with_layout l) m.files) (new_file m.next_file name_to f.size part) in
        omega (arith, one, sum, two)))
        refl;
  }) to

  set_once : (client : ℕ) (name : List ℕ) (id : ℕ) (change : FlagSets) (step : ℕ) → AreObjectsOnce (after_call (Set client name id change step) m)
  set_once client name id change step = set_cases AreObjectsOnce client name id change step m (record {
    same = k;
    marks = λ f e kept. laid_once m f (flagged id change f.layout) (broken_by f.number step m.leases) h k (there_named m h name f e) (λ o. (let same = in_flagged o id change f.layout in omega (arith, same)));
  })

  confirm_once : (file : ℕ) (cookie : Share) (b : Bool) → AreObjectsOnce (confirmed file cookie b m)
  confirm_once file cookie true = locks_once file (with_freed cookie) (λ f. refl)
  confirm_once file cookie false = k

  read_once : (client : ℕ) (name : List ℕ) → AreObjectsOnce (after_call (OpenRead client name) m)
  read_once client name = read_cases AreObjectsOnce client name m (record { same = k; shared = λ f e. shares_once f.number client })

-- ---- each call, and each run

pub call_once : (call : Call) (m : MetaView) → IsSound m → MayCall call m → AreObjectsOnce m → AreObjectsOnce (after_call call m)
call_once (OpenRead client name) m h may k = read_once m h k client name
call_once (OpenWrite client name range step) m h may k = open_once m h k client name range step (nat_lt most_bytes range.end)
call_once (OpenCut client name size step) m h may k = open_once m h k client name (record { start = size; end = eof }) step (nat_lt most_bytes size)
call_once (Free file cookie) m h may k = locks_once m h k file (with_freed cookie) (λ f. refl)
call_once (Confirm file cookie) m h may k = confirm_once m h k file cookie (holds file cookie m)
call_once (Commit file cookie end) m h may k = locks_once m h k file (grown cookie end) (λ f. refl)
call_once (Cut file cookie size) m h may k = locks_once m h k file (shortened cookie size) (λ f. refl)
call_once (BeginCopy client name what) m h may k = copy_once m h k client name what may
call_once (CopyDone key cleared) m h may k = end_once m h k key cleared
call_once (MergeDone ours theirs) m h may k = merge_once m h k ours theirs may.0
call_once (GiveUp key) m h may k = leases_once m h k (given key m.leases)
call_once (Create name mirrors) m h may k = create_once m h k name mirrors
call_once (Remove client name mirror to step) m h may k = remove_once m h k client name mirror to step
call_once (Set client name id change step) m h may k = set_once m h k client name id change step
call_once (Evict client step) m h may k = once_fewer m (with_eviction client step m) k (λ o. (let same = evicted_layouts o client m.files in omega (arith, same))) refl

pub run_once : (calls : List Call) (m : MetaView) → IsSound m → MayRun calls m → AreObjectsOnce m → AreObjectsOnce (after_calls calls m)
run_once [] m h may k = k
run_once (call ∷ calls) m h may k = run_once calls (after_call call m) (call_sound call m h may.0) may.1 (call_once call m h may.0 k)

-- a new server has no objects
pub new_once : (targets most : ℕ) → AreObjectsOnce (new_meta targets most)
new_once targets most = record { once = λ o. omega arith; made = λ o late. refl }
