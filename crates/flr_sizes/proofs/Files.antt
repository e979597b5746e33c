-- How long files are after a call of the metadata server.
use Rattle.std.proofs.Common.{◌≡◌, ℕ, ◌≤◌, Bool, true, false, cond, not, nat_eq, nat_lt, Some, List, [], ◌∷◌, ◌++◌, map, find, subst, arith}
use Rattle.flr_base.specs.declared.reply.Range.{Range}
use Rattle.composite_layout.specs.Layouts.{Composite, eof}
use Rattle.layout_lease.specs.declared.shared.Share.{Share}
use Rattle.meta_server.specs.Closing.{grown, holds, shortened}
use Rattle.meta_server.specs.Files.{File, MetaView, changed, file_named, same_name, with_evicted, with_freed, with_layout, with_share, without_file}
use Rattle.flr_base.specs.Limits.{most_bytes}
use Rattle.meta_server.specs.Opening.{change_opens_file}
use Rattle.meta_laws.specs.Calls.{Call, OpenRead, OpenWrite, OpenCut, Free, Confirm, Commit, Cut, BeginCopy, CopyDone, MergeDone, GiveUp, Create, Remove, Set, Evict, after_call, confirmed, left_by}
use Rattle.meta_laws.proofs.Cases.{begin_cases, create_cases, end_cases, merge_cases, open_cases, read_cases, remove_cases, set_cases}
use Rattle.flr_sizes.specs.Laws.{AreShort}

module _ (most : ℕ) where
  pub changed_short : (n : ℕ) (g : File → File) (files : List File) → ((f : File) → f.size ≤ most → (g f).size ≤ most) → AreShort most files → AreShort most (changed n g files)
  changed_short n g [] stays h = tt
  changed_short n g (f ∷ fs) stays h = (by (nat_eq f.number n), changed_short n g fs stays h.1)
    where
      by : (b : Bool) → (cond b (g f) f).size ≤ most
      by true = stays f h.0
      by false = h.0

  evicted_short : (client : ℕ) (files : List File) → AreShort most files → AreShort most (map (with_evicted client) files)
  evicted_short client [] h = tt
  evicted_short client (f ∷ fs) h = (h.0, evicted_short client fs h.1)

  pushed_short : (files : List File) (x : File) → AreShort most files → x.size ≤ most → AreShort most (files ++ x ∷ [])
  pushed_short [] x h one = (one, tt)
  pushed_short (f ∷ fs) x h one = (h.0, pushed_short fs x h.1 one)

  without_short : (n : ℕ) (files : List File) → AreShort most files → AreShort most (without_file n files)
  without_short n [] h = tt
  without_short n (f ∷ fs) h = by (not (nat_eq f.number n)) (without_short n fs h.1)
    where
      by : (b : Bool) → AreShort most (without_file n fs) → AreShort most (cond b (f ∷ without_file n fs) (without_file n fs))
      by true rest = (h.0, rest)
      by false rest = rest

  -- a file that is found is one of them
  found_short : (test : File → Bool) (files : List File) (x : File) → find test files ≡ Some x → AreShort most files → x.size ≤ most
  found_short test [] x e h = absurd (cc)
  found_short test (f ∷ fs) x e h = by (test f) e (λ k. found_short test fs x k h.1)
    where
      by : (b : Bool) → cond b (Some f) (find test fs) ≡ Some x → (find test fs ≡ Some x → x.size ≤ most) → x.size ≤ most
      by true k rest = let same : f ≡ x = cc in subst (λ (y : File). y.size ≤ most) same h.0
      by false k rest = rest k

  laid_short : (n : ℕ) (l : Composite) (files : List File) → AreShort most files → AreShort most (changed n (with_layout l) files)
  laid_short n l files h = changed_short n (with_layout l) files (λ f e. e) h

  pub share_short : (n client : ℕ) (files : List File) → AreShort most files → AreShort most (changed n (with_share client) files)
  share_short n client files h = changed_short n (with_share client) files (λ f e. e) h

  pub freed_short : (n : ℕ) (cookie : Share) (files : List File) → AreShort most files → AreShort most (changed n (with_freed cookie) files)
  freed_short n cookie files h = changed_short n (with_freed cookie) files (λ f e. e) h

  -- where a call makes a file end
  abbrev pub EndsWithin : Call → Type 0
  EndsWithin (OpenRead client name) = Unit {0}
  EndsWithin (OpenWrite client name range step) = Unit {0}
  EndsWithin (OpenCut client name size step) = Unit {0}
  EndsWithin (Free file cookie) = Unit {0}
  EndsWithin (Confirm file cookie) = Unit {0}
  EndsWithin (Commit file cookie end) = end ≤ most
  EndsWithin (Cut file cookie size) = size ≤ most
  EndsWithin (BeginCopy client name what) = Unit {0}
  EndsWithin (CopyDone key cleared) = Unit {0}
  EndsWithin (MergeDone ours theirs) = Unit {0}
  EndsWithin (GiveUp key) = Unit {0}
  EndsWithin (Create name mirrors) = Unit {0}
  EndsWithin (Remove client name mirror to step) = Unit {0}
  EndsWithin (Set client name id change step) = Unit {0}
  EndsWithin (Evict client step) = Unit {0}

  abbrev Short : MetaView → Type 0
  Short m = AreShort most m.files

  opens_short : (client : ℕ) (name : List ℕ) (range : Range) (step : ℕ) (m : MetaView) (b : Bool) → Short m → Short (left_by (change_opens_file client range step m name b (file_named name m.files)) m)
  opens_short client name range step m b h = open_cases Short client name range step m (record {
    same = h;
    shared = λ f e. share_short f.number client m.files h;
    intended = λ f mirror e primary. share_short f.number client _ (laid_short f.number _ m.files h);
  }) b

  confirm_short : (file : ℕ) (cookie : Share) (m : MetaView) (b : Bool) → Short m → Short (confirmed file cookie b m)
  confirm_short file cookie m true h = freed_short file cookie m.files h
  confirm_short file cookie m false h = h

  -- each call leaves files short that makes none end behind
  pub call_short : (call : Call) (m : MetaView) → EndsWithin call → Short m → Short (after_call call m)
  call_short (OpenRead client name) m ends h = read_cases Short client name m (record { same = h; shared = λ f e. share_short f.number client m.files h })
  call_short (OpenWrite client name range step) m ends h = opens_short client name range step m (nat_lt most_bytes range.end) h
  call_short (OpenCut client name size step) m ends h = opens_short client name (record { start = size; end = eof }) step m (nat_lt most_bytes size) h
  call_short (Free file cookie) m ends h = freed_short file cookie m.files h
  call_short (Confirm file cookie) m ends h = confirm_short file cookie m (holds file cookie m) h
  call_short (Commit file cookie end) m ends h = changed_short file (grown cookie end) m.files (λ f e. omega (arith, e, ends)) h
  call_short (Cut file cookie size) m ends h = changed_short file (shortened cookie size) m.files (λ f e. ends) h
  call_short (BeginCopy client name what) m ends h = begin_cases Short client name what m (record {
    same = h;
    begins = λ ids f e free. laid_short f.number _ m.files h;
    adds = λ mirrors f is e free within. laid_short f.number _ m.files h;
    extends = λ mirrors ids f is e free within. laid_short f.number _ m.files h;
    both = λ victim f v is e k free free_too. laid_short v.number _ _ (laid_short f.number _ m.files h);
  })
  call_short (CopyDone key cleared) m ends h = end_cases Short key cleared m (record { same = h; given = h; done = λ f held e. laid_short f.number _ m.files h })
  call_short (MergeDone ours theirs) m ends h = merge_cases Short ours theirs m (record { same = h; given = h; merges = λ f v held held_too e k. without_short v.number _ (laid_short f.number _ m.files h) })
  call_short (GiveUp key) m ends h = h
  call_short (Create name mirrors) m ends h = create_cases Short name mirrors m (record { same = h; comes = λ absent room. pushed_short m.files _ h (omega arith) })
  call_short (Remove client name mirror to step) m ends h = remove_cases Short client name mirror step m (record {
    same = h;
    goes = λ f e kept. laid_short f.number _ m.files h;
    splits = λ name_to f e kept fresh absent room. pushed_short _ _ (laid_short f.number _ m.files h) (found_short (λ (x : File). same_name name x.name) m.files f e h);
  }) to
  call_short (Set client name id change step) m ends h = set_cases Short client name id change step m (record { same = h; marks = λ f e kept. laid_short f.number _ m.files h })
  call_short (Evict client step) m ends h = evicted_short client m.files h
