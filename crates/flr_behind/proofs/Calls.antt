-- What each call of the metadata server leaves of the files that were there.
use Rattle.std.proofs.Common.{◌≡◌, ℕ, ◌+◌, ◌<◌, ◌≤◌, Bool, true, false, nat_lt, Some, List, [], ◌⊎◌, inl, inr, refl, sym, ap, subst, ◌∙◌, arith, length}
use Rattle.flr_base.specs.declared.reply.Range.{Range}
use Rattle.composite_layout.specs.Layouts.{Composite, eof}
use Rattle.composite_layout.specs.Making.{new_layout}
use Rattle.layout_lease.specs.declared.lease.KeyState.TheVariants.{Held}
use Rattle.layout_lease.specs.declared.shared.Share.{Share}
use Rattle.layout_lease.specs.Leases.{KeyView, given, state_of}
use Rattle.meta_server.specs.declared.answers.CopyWhat.{CopyWhat}
use Rattle.meta_server.specs.declared.answers.CopyWhat.TheVariants.{Victim}
use Rattle.meta_server.specs.Beginning.{with_begin}
use Rattle.meta_server.specs.Closing.{grown, holds, shortened}
use Rattle.meta_server.specs.Conditions.{IsCopyOf}
use Rattle.meta_server.specs.Ending.{both_given, with_done, with_merge}
use Rattle.meta_server.specs.Files.{File, MetaView, changed, file_named, file_of, with_break, with_change, with_file, with_freed, with_given, with_layout, with_share}
use Rattle.meta_server.specs.Layouts.{begun, extended, finished, flagged, intended, lessened, merged, split_off}
use Rattle.flr_base.specs.Limits.{most_bytes}
use Rattle.meta_server.specs.Opening.{change_opens_file, with_intent}
use Rattle.meta_server.specs.Sound.{IsSound}
use Rattle.meta_server.proofs.Going.{name_found}
use Rattle.meta_server.proofs.Placing.{number_found}
use Rattle.meta_laws.specs.Calls.{Call, OpenRead, OpenWrite, OpenCut, Free, Confirm, Commit, Cut, BeginCopy, CopyDone, MergeDone, GiveUp, Create, Remove, Set, Evict, after_call, confirmed, left_by}
use Rattle.meta_laws.proofs.Cases.{begin_cases, create_cases, end_cases, merge_cases, open_cases, read_cases, remove_cases, set_cases}
use Rattle.meta_laws.proofs.Copies.{there_named}
use Rattle.meta_laws.proofs.Finding.{other_found}
use Rattle.meta_laws.proofs.Opens.{one_file}
use Rattle.flr_numbers.proofs.Holding.{broken_held}
use Rattle.flr_numbers.proofs.Inverting.{was_without}
use Rattle.flr_numbers.proofs.Standing.{unleased_grows}
use Rattle.flr_behind.proofs.Following.{Follows, evicted, given_held, kept, laid, locked, pushed, same, taken_held, then}

-- a copy may be asked for, where the call begins one
abbrev pub IsAskedWell : Call → Type 0
IsAskedWell (BeginCopy client name what) = IsCopyOf name what
IsAskedWell other = Unit {0}

-- a key is given back
pub given_up : (m : MetaView) (key : KeyView) → Follows m (with_given key m)
given_up m key = kept m (with_given key m) (omega arith) (λ n f e. e) (λ other h. given_held key other m.leases h)

-- two keys are
pub both_up : (m : MetaView) (ours theirs : KeyView) → Follows m (both_given ours theirs m)
both_up m ours theirs = then m (with_given ours m) (both_given ours theirs m) (given_up m ours) (given_up (with_given ours m) theirs)

module _ (m : MetaView) (h : IsSound m) where
  -- a change breaks the lease of its file
  broken : (f : File) (step : ℕ) (l : Composite) → file_of f.number m.files ≡ Some f → f.layout.generation ≤ l.generation → Follows m (with_break f.number step l m)
  broken f step l here grows = laid m (with_break f.number step l m) f l here refl (omega arith) grows (λ key held. inl (broken_held f.number step m.leases key held).1)

  opened : (client : ℕ) (name : List ℕ) (range : Range) (step : ℕ) (b : Bool) → Follows m (left_by (change_opens_file client range step m name b (file_named name m.files)) m)
  opened client name range step = open_cases (Follows m) client name range step m (record {
    same = same m;
    shared = λ f e. locked m f.number (with_share client) (λ x. refl) (λ x. refl) (λ x. refl);
    intended = λ f mirror e primary. (
        let mid : MetaView = with_intent range mirror step f m in
        let l : Composite = intended range mirror f.number m.nexts f.layout in
        let up = unleased_grows f.layout in
        then m mid (with_change f.number (with_share client) mid)
        (laid m mid f l (there_named m h name f e) refl (omega arith) (omega (arith, up)) (λ key held. inl (broken_held f.number step m.leases key held).1))
        (locked mid f.number (with_share client) (λ x. refl) (λ x. refl) (λ x. refl))
        );
  })

  -- a lease is taken, of a file whose generation rises with that
  begins : (m : MetaView) (client : ℕ) (ids : List ℕ) (f x : File) → x.number ≡ f.number → file_of f.number m.files ≡ Some f → f.layout.generation ≤ x.layout.generation → Follows m (with_begin client ids x m)
  begins m client ids f x same here up =
      laid m (with_begin client ids x m) f (begun ids x.number m.nexts x.layout) here (ap (λ n. changed n (with_layout (begun ids x.number m.nexts x.layout)) m.files) same) (omega arith) (omega (arith, up))
      (λ key held. by key (taken_held client x.number m.leases key held))
    where
      by : (key : KeyView) → (key.file ≡ x.number) ⊎ (state_of m.leases key ≡ Held) → (state_of m.leases key ≡ Held) ⊎ ((key.file ≡ f.number) × (f.layout.generation < x.layout.generation + 1))
      by key (inl new) = inr (new ∙ same, omega (arith, up))
      by key (inr stood) = inl stood

  begun_copy : (client : ℕ) (name : List ℕ) (what : CopyWhat) → IsCopyOf name what → Follows m (after_call (BeginCopy client name what) m)
  begun_copy client name what copy = begin_cases (Follows m) client name what m (record {
    same = same m;
    begins = λ ids f e free. begins m client ids f f refl (there_named m h name f e) (omega arith);
    adds = λ mirrors f is e free within. (
        let l : Composite = extended mirrors (length m.nexts) f.layout in
        let up = unleased_grows f.layout in
        laid m (with_change f.number (with_layout l) m) f l (there_named m h name f e) refl (omega arith) (omega (arith, up)) (λ key held. inl held)
        );
    extends = λ mirrors ids f is e free within. (let up = unleased_grows f.layout in begins m client ids f (with_layout (extended mirrors (length m.nexts) f.layout) f) refl (there_named m h name f e) (omega (arith, up)));
    both = λ victim f v is e k free free_too. (
        let mid : MetaView = with_begin client [] f m in
        let beside : file_of v.number m.files ≡ Some v = there_named m h victim v k in
        then m mid (with_begin client [] v mid) (begins m client [] f f refl (there_named m h name f e) (omega arith))
        (begins mid client [] v v refl (other_found v.number f.number (with_layout (begun [] f.number m.nexts f.layout)) m.files (λ y. refl) (apart victim f v is e k) ∙ beside) (omega arith))
        );
  })
    where
      apart : (victim : List ℕ) (f v : File) → what ≡ Victim victim → file_named name m.files ≡ Some f → file_named victim m.files ≡ Some v → v.number ≡ f.number → ⊥
      apart victim f v is e k same =
          let found : file_of f.number m.files ≡ Some v = ap (λ n. file_of n m.files) (sym same) ∙ there_named m h victim v k in
          let one : f ≡ v = one_file (file_of f.number m.files) f v (there_named m h name f e) found in
          let two : IsCopyOf name (Victim victim) = subst (IsCopyOf name) is copy in
          two (sym (name_found name m.files f e) ∙ ap (λ (y : File). y.name) one ∙ name_found victim m.files v k)

  ended : (key : KeyView) (cleared : List ℕ) → Follows m (after_call (CopyDone key cleared) m)
  ended key cleared = end_cases (Follows m) key cleared m (record {
    same = same m;
    given = given_up m key;
    done = λ f held e. (
        let own : f.number ≡ key.file = number_found key.file m.files f e in
        laid m (with_done key cleared f m) f (finished cleared f.layout) (subst (λ n. file_of n m.files ≡ Some f) (sym own) e) refl (omega arith) (omega arith) (λ other is. inl (given_held key other m.leases is))
        );
  })

  -- a file takes in another, which goes
  taken_in : (ours theirs : KeyView) (f v : File) → file_of ours.file m.files ≡ Some f → Follows m (with_merge ours theirs m f v)
  taken_in ours theirs f v e =
      let own : f.number ≡ ours.file = number_found ours.file m.files f e in
      let l : Composite = merged v.layout f.layout in
      let mid : MetaView = with_change f.number (with_layout l) m in
      then m mid (with_merge ours theirs m f v) (laid m mid f l (subst (λ n. file_of n m.files ≡ Some f) (sym own) e) refl (omega arith) (omega arith) (λ key held. inl held))
      (kept mid (with_merge ours theirs m f v) (omega arith) (λ n y found. (was_without n v.number mid.files y found).1)
      (λ key held. given_held ours key m.leases (given_held theirs key (given ours m.leases) held)))

  confirms : (file : ℕ) (cookie : Share) (b : Bool) → Follows m (confirmed file cookie b m)
  confirms file cookie true = locked m file (with_freed cookie) (λ x. refl) (λ x. refl) (λ x. refl)
  confirms file cookie false = same m

  -- each call
  pub call_follows : (call : Call) → IsAskedWell call → Follows m (after_call call m)
  call_follows (OpenRead client name) well = read_cases (Follows m) client name m (record { same = same m; shared = λ f e. locked m f.number (with_share client) (λ x. refl) (λ x. refl) (λ x. refl) })
  call_follows (OpenWrite client name range step) well = opened client name range step (nat_lt most_bytes range.end)
  call_follows (OpenCut client name size step) well = opened client name (record { start = size; end = eof }) step (nat_lt most_bytes size)
  call_follows (Free file cookie) well = locked m file (with_freed cookie) (λ x. refl) (λ x. refl) (λ x. refl)
  call_follows (Confirm file cookie) well = confirms file cookie (holds file cookie m)
  call_follows (Commit file cookie end) well = locked m file (grown cookie end) (λ x. refl) (λ x. refl) (λ x. refl)
  call_follows (Cut file cookie size) well = locked m file (shortened cookie size) (λ x. refl) (λ x. refl) (λ x. refl)
  call_follows (BeginCopy client name what) well = begun_copy client name what well
  call_follows (CopyDone key cleared) well = ended key cleared
  call_follows (MergeDone ours theirs) well = merge_cases (Follows m) ours theirs m (record { same = same m; given = both_up m ours theirs; merges = λ f v held held_too e k. taken_in ours theirs f v e })
  call_follows (GiveUp key) well = given_up m key
  call_follows (Create name mirrors) well = create_cases (Follows m) name mirrors m (record { same = same m; comes = λ absent room. pushed m name 0 (new_layout mirrors (length m.nexts)) })
  call_follows (Remove client name mirror to step) well = remove_cases (Follows m) client name mirror step m (record {
    same = same m;
    goes = λ f e kept. (let up = unleased_grows f.layout in broken f step (lessened mirror f.layout) (there_named m h name f e) (omega (arith, up)));
    splits = λ new f e kept fresh absent room. (
        let up = unleased_grows f.layout in
        let mid : MetaView = with_break f.number step (lessened mirror f.layout) m in
        then m mid (with_file new f.size (split_off mirror f.layout) mid) (broken f step (lessened mirror f.layout) (there_named m h name f e) (omega (arith, up))) (pushed mid new f.size (split_off mirror f.layout))
        );
  }) to
  call_follows (Set client name id change step) well = set_cases (Follows m) client name id change step m (record {
    same = same m;
    marks = λ f e kept. (let up = unleased_grows f.layout in broken f step (flagged id change f.layout) (there_named m h name f e) (omega (arith, up)));
  })
  call_follows (Evict client step) well = evicted m client step
