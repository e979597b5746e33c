-- How many mirrors files have after a call of the metadata server.
use Rattle.std.proofs.Common.{◌≡◌, ℕ, ◌≤◌, Bool, true, false, not, nat_eq, nat_lt, Option, None, Some, List, [], length, find, refl, sym, subst, arith}
use Rattle.flr_base.specs.declared.reply.Range.{Range}
use Rattle.composite_layout.specs.declared.spec.MirrorSpec.{MirrorSpec}
use Rattle.composite_layout.specs.FlagChanges.{FlagSets}
use Rattle.composite_layout.specs.Layouts.{Composite, eof}
use Rattle.composite_layout.specs.Making.{new_layout, part_count}
use Rattle.layout_lease.specs.declared.shared.Share.{Share}
use Rattle.layout_lease.specs.Leases.{KeyView}
use Rattle.layout_state.specs.Mirroring.{excess}
use Rattle.lfs_words.specs.Facts.{IsSpecOf}
use Rattle.meta_server.specs.declared.answers.CopyWhat.{CopyWhat}
use Rattle.meta_server.specs.declared.answers.CopyWhat.TheVariants.{Extend}
use Rattle.meta_server.specs.Beginning.{with_begin}
use Rattle.meta_server.specs.Closing.{grown, holds, shortened}
use Rattle.meta_server.specs.Conditions.{MayMerge}
use Rattle.meta_server.specs.Ending.{both_given}
use Rattle.meta_server.specs.Files.{File, MetaView, changed, file_named, new_file, same_name, with_change, with_evicted, with_freed, with_layout, with_share}
use Rattle.meta_server.specs.Layouts.{begun, extended, finished, flagged, intended, lessened, merged, split_off}
use Rattle.flr_base.specs.Limits.{most_bytes}
use Rattle.meta_server.specs.Opening.{change_opens_file, with_intent}
use Rattle.meta_laws.specs.Calls.{Call, OpenRead, OpenWrite, OpenCut, Free, Confirm, Commit, Cut, BeginCopy, CopyDone, MergeDone, GiveUp, Create, Remove, Set, Evict, IsCopyable, after_call, confirmed, left_by}
use Rattle.meta_laws.proofs.Cases.{begin_cases, create_cases, end_cases, merge_cases, open_cases, read_cases, remove_cases, set_cases}
use Rattle.meta_laws.proofs.Finding.{found_keeps}
use Rattle.meta_growth.proofs.Files.{each_changed, each_kept, each_mapped, each_pushed}
use Rattle.flr_mirrors.specs.Laws.{HaveFewMirrors}
use Rattle.flr_mirrors.proofs.Layouts.{begun_count, extended_few, finished_count, flagged_count, intended_count, lessened_few, made_count, merged_few, mirrors_in, split_few}

-- the metadata server lets a file have so many mirrors, and none has more
pub record HasFew (most : ℕ) (m : MetaView) : Type 0 where
  pub same : m.most ≡ most
  pub files : HaveFewMirrors most m.files

-- what is known of a call by which mirrors come
abbrev pub IsAskedFor : ℕ → MetaView → Call → Type 0
IsAskedFor most m (BeginCopy client name what) = IsCopyable what
IsAskedFor most m (MergeDone ours theirs) = MayMerge ours theirs m
IsAskedFor most m (Create name mirrors) = IsSpecOf most mirrors
IsAskedFor most m other = Unit {0}

module _ (most : ℕ) where
  abbrev Few : File → Type 0
  Few f = mirrors_in f.layout.components ≤ most

  -- a file gets a layout that has few mirrors
  laid_few : (n : ℕ) (l : Composite) (files : List File) → mirrors_in l.components ≤ most → HaveFewMirrors most files → HaveFewMirrors most (changed n (with_layout l) files)
  laid_few n l files few h = each_changed Few Few n (with_layout l) files (λ f k. few) (λ f k. k) h

  -- a file changes in what is no layout
  pub kept_few : (n : ℕ) (g : File → File) (m : MetaView) → ((f : File) → (g f).layout ≡ f.layout) → HasFew most m → HasFew most (with_change n g m)
  kept_few n g m layout h = record { same = h.same; files = each_changed Few Few n g m.files (λ f k. subst (λ (l : Composite). mirrors_in l.components ≤ most) (sym (layout f)) k) (λ f k. k) h.files }

  pub shared_few : (n client : ℕ) (m : MetaView) → HasFew most m → HasFew most (with_change n (with_share client) m)
  shared_few n client m h = kept_few n (with_share client) m (λ f. refl) h

  pub freed_few : (n : ℕ) (cookie : Share) (m : MetaView) → HasFew most m → HasFew most (with_change n (with_freed cookie) m)
  freed_few n cookie m h = kept_few n (with_freed cookie) m (λ f. refl) h

  module _ (m : MetaView) (h : HasFew most m) where
    -- a file that is found is one of them
    found_few : (test : File → Bool) (f : File) → find test m.files ≡ Some f → mirrors_in f.layout.components ≤ most
    found_few test f e = found_keeps test Few m.files f e h.files

    named_few : (name : List ℕ) (f : File) → file_named name m.files ≡ Some f → mirrors_in f.layout.components ≤ most
    named_few name f e = found_few (λ (x : File). same_name name x.name) f e

    -- the layout of a file changes, and has no more mirrors
    relaid_few : (f : File) (l : Composite) → mirrors_in f.layout.components ≤ most → mirrors_in l.components ≤ mirrors_in f.layout.components → HaveFewMirrors most (changed f.number (with_layout l) m.files)
    relaid_few f l few fewer = laid_few f.number l m.files (omega (arith, few, fewer)) h.files

    opened_few : (client : ℕ) (name : List ℕ) (range : Range) (step : ℕ) (b : Bool) → HasFew most (left_by (change_opens_file client range step m name b (file_named name m.files)) m)
    opened_few client name range step b = open_cases (HasFew most) client name range step m (record {
      same = h;
      shared = λ f e. shared_few f.number client m h;
      intended = λ f mirror e primary. (
          let l : Composite = intended range mirror f.number m.nexts f.layout in
          let count = intended_count range mirror f.number m.nexts f.layout in
          shared_few f.number client (with_intent range mirror step f m) (record { same = h.same; files = relaid_few f l (named_few name f e) (omega (arith, count)) })
          );
    }) b

    confirmed_few : (file : ℕ) (cookie : Share) (b : Bool) → HasFew most (confirmed file cookie b m)
    confirmed_few file cookie true = freed_few file cookie m h
    confirmed_few file cookie false = h

    -- mirrors come to a file by a copy
    more_few : (what : CopyWhat) (mirrors : List MirrorSpec) (f : File) → IsCopyable what → what ≡ Extend mirrors → excess f.layout (length mirrors) (part_count mirrors) m.most ≡ None → mirrors_in (extended mirrors (length m.nexts) f.layout).components ≤ most
    more_few what mirrors f able is within =
        let few = extended_few mirrors (length m.nexts) m.most f.layout (subst IsCopyable is able) within in
        let same = h.same in
        omega (arith, few, same)

    begun_few : (client : ℕ) (name : List ℕ) (what : CopyWhat) → IsCopyable what → HasFew most (after_call (BeginCopy client name what) m)
    begun_few client name what able = begin_cases (HasFew most) client name what m (record {
      same = h;
      begins = λ ids f e free. (
          let count = begun_count ids f.number m.nexts f.layout in
          record { same = h.same; files = relaid_few f (begun ids f.number m.nexts f.layout) (named_few name f e) (omega (arith, count)) }
          );
      adds = λ mirrors f is e free within. record { same = h.same; files = laid_few f.number (extended mirrors (length m.nexts) f.layout) m.files (more_few what mirrors f able is within) h.files };
      extends = λ mirrors ids f is e free within. (
          let l : Composite = extended mirrors (length m.nexts) f.layout in
          let few = more_few what mirrors f able is within in
          let count = begun_count ids f.number m.nexts l in
          record { same = h.same; files = laid_few f.number (begun ids f.number m.nexts l) m.files (omega (arith, few, count)) h.files }
          );
      both = λ victim f v is e k free free_too. (
          let mid : MetaView = with_begin client [] f m in
          let count = begun_count [] f.number m.nexts f.layout in
          let other = begun_count [] v.number mid.nexts v.layout in
          let few = named_few victim v k in
          record {
            same = h.same;
            files = laid_few v.number (begun [] v.number mid.nexts v.layout) mid.files (omega (arith, few, other)) (relaid_few f (begun [] f.number m.nexts f.layout) (named_few name f e) (omega (arith, count)));
          }
          );
    })

    ended_few : (key : KeyView) (cleared : List ℕ) → HasFew most (after_call (CopyDone key cleared) m)
    ended_few key cleared = end_cases (HasFew most) key cleared m (record {
      same = h;
      given = record { same = h.same; files = h.files };
      done = λ f held e. (
          let count = finished_count cleared f.layout in
          record { same = h.same; files = relaid_few f (finished cleared f.layout) (found_few (λ (x : File). nat_eq x.number key.file) f e) (omega (arith, count)) }
          );
    })

    pub given_few : (ours theirs : KeyView) → HasFew most (both_given ours theirs m)
    given_few ours theirs = record { same = h.same; files = h.files }

    -- a file takes in another, which goes
    taken_few : (ours theirs : KeyView) → MayMerge ours theirs m → HasFew most (after_call (MergeDone ours theirs) m)
    taken_few ours theirs may = merge_cases (HasFew most) ours theirs m (record {
      same = h;
      given = given_few ours theirs;
      merges = λ f v held held_too e k. (
          let l : Composite = merged v.layout f.layout in
          let few = merged_few m.most v.layout f.layout (may.within held held_too f v e k) in
          let same = h.same in
          record { same = h.same; files = each_kept Few (λ (x : File). not (nat_eq x.number v.number)) (changed f.number (with_layout l) m.files) (laid_few f.number l m.files (omega (arith, few, same)) h.files) }
          );
    })

    created_few : (name : List ℕ) (mirrors : List MirrorSpec) → IsSpecOf most mirrors → HasFew most (after_call (Create name mirrors) m)
    created_few name mirrors spec = create_cases (HasFew most) name mirrors m (record {
      same = h;
      comes = λ absent room. (
          let l : Composite = new_layout mirrors (length m.nexts) in
          let count = made_count mirrors (length m.nexts) spec.0 in
          record { same = h.same; files = each_pushed Few m.files (new_file m.next_file name 0 l) h.files (omega (arith, count, spec.1)) }
          );
    })

    removed_few : (client : ℕ) (name : List ℕ) (mirror : ℕ) (to : Option (List ℕ)) (step : ℕ) → HasFew most (after_call (Remove client name mirror to step) m)
    removed_few client name mirror to step = remove_cases (HasFew most) client name mirror step m (record {
      same = h;
      goes = λ f e kept. record { same = h.same; files = left f e };
      splits = λ new f e kept fresh absent room. (
          let few = named_few name f e in
          let fewer = split_few mirror f.layout in
          record { same = h.same; files = each_pushed Few _ (new_file m.next_file new f.size (split_off mirror f.layout)) (left f e) (omega (arith, few, fewer)) }
          );
    }) to
      where
        left : (f : File) → file_named name m.files ≡ Some f → HaveFewMirrors most (changed f.number (with_layout (lessened mirror f.layout)) m.files)
        left f e = relaid_few f (lessened mirror f.layout) (named_few name f e) (lessened_few mirror f.layout)

    set_few : (client : ℕ) (name : List ℕ) (id : ℕ) (change : FlagSets) (step : ℕ) → HasFew most (after_call (Set client name id change step) m)
    set_few client name id change step = set_cases (HasFew most) client name id change step m (record {
      same = h;
      marks = λ f e kept. (
          let count = flagged_count id change f.layout in
          record { same = h.same; files = relaid_few f (flagged id change f.layout) (named_few name f e) (omega (arith, count)) }
          );
    })

    -- each call leaves files with few mirrors
    pub call_few : (call : Call) → IsAskedFor most m call → HasFew most (after_call call m)
    call_few (OpenRead client name) asked = read_cases (HasFew most) client name m (record { same = h; shared = λ f e. shared_few f.number client m h })
    call_few (OpenWrite client name range step) asked = opened_few client name range step (nat_lt most_bytes range.end)
    call_few (OpenCut client name size step) asked = opened_few client name (record { start = size; end = eof }) step (nat_lt most_bytes size)
    call_few (Free file cookie) asked = freed_few file cookie m h
    call_few (Confirm file cookie) asked = confirmed_few file cookie (holds file cookie m)
    call_few (Commit file cookie end) asked = kept_few file (grown cookie end) m (λ f. refl) h
    call_few (Cut file cookie size) asked = kept_few file (shortened cookie size) m (λ f. refl) h
    call_few (BeginCopy client name what) asked = begun_few client name what asked
    call_few (CopyDone key cleared) asked = ended_few key cleared
    call_few (MergeDone ours theirs) asked = taken_few ours theirs asked
    call_few (GiveUp key) asked = record { same = h.same; files = h.files }
    call_few (Create name mirrors) asked = created_few name mirrors asked
    call_few (Remove client name mirror to step) asked = removed_few client name mirror to step
    call_few (Set client name id change step) asked = set_few client name id change step
    call_few (Evict client step) asked = record { same = h.same; files = each_mapped Few Few (with_evicted client) m.files (λ f k. k) h.files }
