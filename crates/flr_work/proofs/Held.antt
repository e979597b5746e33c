-- Whose cookies a call of the metadata server leaves.
use Rattle.std.proofs.Common.{◌≡◌, ◌≢◌, ℕ, Bool, true, false, cond, not, ◌&&◌, ◌||◌, ◌==◌, nat_eq, nat_lt, Option, Some, None, List, [], ◌∷◌, ◌++◌, map, true≢false, refl, sym, ap, ◌∙◌, arith, ◌⊎◌, inl, inr}
use Rattle.std.specs.List.{list_any}
use Rattle.std.specs.Option.{option_map, option_map_or}
use Rattle.std.proofs.lemmas.Bool.{cases_eq}
use Rattle.std.proofs.lemmas.Bool.Decides.{nat_tests}
use Rattle.std.proofs.lemmas.List.Folds.{list_any-append}
use Rattle.flr_base.specs.declared.reply.Range.{Range}
use Rattle.composite_layout.specs.Layouts.{Composite, eof}
use Rattle.layout_lease.specs.declared.lease.KeyState.{KeyState}
use Rattle.layout_lease.specs.declared.lease.KeyState.TheVariants as state
use Rattle.layout_lease.specs.declared.shared.Share.{Share}
use Rattle.layout_lease.specs.Leases.{KeyView, state_of}
use Rattle.layout_lease.specs.Shares.{LockView, cookie_for, cookies_but, evicted, freed, is_held, lowest, lowest_but, same_cookie, shared}
use Rattle.layout_lease.proofs.EventLaws.{any_kept}
use Rattle.meta_server.specs.declared.answers.CopyWhat.{CopyWhat}
use Rattle.meta_server.specs.Closing.{grown, holds, shortened}
use Rattle.meta_server.specs.Ending.{merge_ends, merge_ends_alone, merge_ends_by, merge_ends_files, with_merge}
use Rattle.meta_server.specs.Files.{File, MetaView, changed, file_named, file_of, with_evicted, with_freed, with_layout, with_share, without_file}
use Rattle.meta_server.specs.Layouts.{merged}
use Rattle.flr_base.specs.Limits.{most_bytes}
use Rattle.meta_server.specs.Opening.{change_opens_file}
use Rattle.meta_server.proofs.Placing.{nat_eq_same, number_found}
use Rattle.meta_server.proofs.SoundFiles.{file_of_changed}
use Rattle.meta_laws.specs.Calls.{Call, OpenRead, OpenWrite, OpenCut, Free, Confirm, Commit, Cut, BeginCopy, CopyDone, MergeDone, GiveUp, Create, Remove, Set, Evict, after_call, confirmed, left_at, left_by}
use Rattle.meta_laws.proofs.Cases.{begin_cases, create_cases, end_cases, open_cases, read_cases, remove_cases, set_cases}
use Rattle.meta_laws.proofs.Finding.{found_without, same_found}

-- ---- one lock

-- two clients' cookies differ
unlike : (a b : Share) → a.client ≢ b.client → same_cookie a b ≡ false
unlike a b other = grind (arith, nat_tests)

like : (a b : Share) → same_cookie a b ≡ true → a.client ≡ b.client
like a b same = grind (arith, nat_tests)

module _ (cookie : Share) where
  abbrev found : Share → Bool
  found share = same_cookie share cookie

  -- a client that shares the lock takes no cookie away
  shared_held : (client : ℕ) (lock : LockView) → is_held lock cookie ≡ true → is_held (shared client lock) cookie ≡ true
  shared_held client lock h = list_any-append found lock.cookies (cookie_for client lock ∷ []) ∙ ap (λ (b : Bool). b || list_any found (cookie_for client lock ∷ [])) h

  -- nor does another client's that is given back
  freed_held : (given : Share) (lock : LockView) → cookie.client ≢ given.client → is_held lock cookie ≡ true → is_held (freed given lock) cookie ≡ true
  freed_held given lock other h =
      any_kept found (λ share. not (same_cookie share given)) true (λ share same. (let mine = like share cookie same in ap not (unlike share given (λ e. other (sym mine ∙ e))))) lock.cookies ∙ ap (λ (b : Bool). b && true) h

  -- nor an eviction of another client
  evicted_held : (client : ℕ) (lock : LockView) → cookie.client ≢ client → is_held lock cookie ≡ true → is_held (evicted client lock) cookie ≡ true
  evicted_held client lock other h =
      any_kept found (λ share. not (share.client == client)) true (λ share same. (let mine = like share cookie same in let no : (share.client == client) ≡ false = grind (arith, nat_tests) in ap not no)) lock.cookies ∙ ap (λ (b : Bool). b && true) h

  -- where nobody but this client holds the lock, no other client's cookie is held
  none_other : (client : ℕ) (shares : List Share) → cookie.client ≢ client → lowest (map (λ (share : Share). share.client) (cookies_but client shares)) ≡ None → list_any found shares ≡ false
  none_other client [] other e = refl
  none_other client (share ∷ shares) other e = by (share.client == client) refl e (none_other client shares other)
    where
      by : (b : Bool) → (share.client == client) ≡ b → lowest (map (λ (s : Share). s.client) (cond (not b) (share ∷ cookies_but client shares) (cookies_but client shares))) ≡ None
          → (lowest (map (λ (s : Share). s.client) (cookies_but client shares)) ≡ None → list_any found shares ≡ false) → (found share || list_any found shares) ≡ false
      by true is k rest =
          let mine : share.client ≡ client = grind (arith, nat_tests) in
          let no : found share ≡ false = unlike share cookie (λ same. other (sym same ∙ mine)) in
          ap (λ (b : Bool). b || list_any found shares) no ∙ rest k
      by false is k rest = absurd (cc)

-- ---- all files

module _ (number : ℕ) (cookie : Share) where
  -- the cookie is held of the file with this number
  abbrev pub HeldIn : List File → Type 0
  HeldIn files = option_map_or (λ (f : File). is_held f.lock cookie) (file_of number files) false ≡ true

  abbrev held_of : Option File → Bool
  held_of o = option_map_or (λ (f : File). is_held f.lock cookie) o false

  pub changed_held : (n : ℕ) (g : File → File) (files : List File) → ((f : File) → (g f).number ≡ f.number) → ((f : File) → is_held f.lock cookie ≡ true → is_held (g f).lock cookie ≡ true) → HeldIn files → HeldIn (changed n g files)
  changed_held n g files keeps stays h = ap held_of (file_of_changed number n g files keeps) ∙ by (file_of number files) h
    where
      at : (b : Bool) (f : File) → is_held f.lock cookie ≡ true → is_held (cond b (g f) f).lock cookie ≡ true
      at true f e = stays f e
      at false f e = e

      by : (o : Option File) → held_of o ≡ true → held_of (option_map (λ (f : File). cond (nat_eq f.number n) (g f) f) o) ≡ true
      by None e = absurd (true≢false (sym e))
      by (Some f) e = at (nat_eq f.number n) f e

  mapped_held : (client : ℕ) (files : List File) → cookie.client ≢ client → HeldIn files → HeldIn (map (with_evicted client) files)
  mapped_held client [] other h = h
  mapped_held client (f ∷ fs) other h = by (nat_eq f.number number) h (mapped_held client fs other)
    where
      by : (b : Bool) → held_of (cond b (Some f) (file_of number fs)) ≡ true → (HeldIn fs → HeldIn (map (with_evicted client) fs)) → held_of (cond b (Some (with_evicted client f)) (file_of number (map (with_evicted client) fs))) ≡ true
      by true e rest = evicted_held cookie client f.lock other e
      by false e rest = rest e

  pushed_held : (files : List File) (x : File) → HeldIn files → HeldIn (files ++ x ∷ [])
  pushed_held [] x h = absurd (true≢false (sym h))
  pushed_held (f ∷ fs) x h = by (nat_eq f.number number) h (pushed_held fs x)
    where
      by : (b : Bool) → held_of (cond b (Some f) (file_of number fs)) ≡ true → (HeldIn fs → HeldIn (fs ++ x ∷ [])) → held_of (cond b (Some f) (file_of number (fs ++ x ∷ []))) ≡ true
      by true e rest = e
      by false e rest = rest e

  laid_held : (n : ℕ) (l : Composite) (files : List File) → HeldIn files → HeldIn (changed n (with_layout l) files)
  laid_held n l files h = changed_held n (with_layout l) files (λ f. refl) (λ f e. e) h

  -- ---- each call

  -- a call that doesn't take another client's cookie: it gives back a cookie of its own, ends its own copy, and evicts somebody else
  abbrev pub Spares : Call → Type 0
  Spares (OpenRead client name) = Unit {0}
  Spares (OpenWrite client name range step) = Unit {0}
  Spares (OpenCut client name size step) = Unit {0}
  Spares (Free file given) = cookie.client ≢ given.client
  Spares (Confirm file given) = cookie.client ≢ given.client
  Spares (Commit file given end) = cookie.client ≢ given.client
  Spares (Cut file given size) = cookie.client ≢ given.client
  Spares (BeginCopy client name what) = Unit {0}
  Spares (CopyDone key cleared) = Unit {0}
  Spares (MergeDone ours theirs) = cookie.client ≢ ours.client
  Spares (GiveUp key) = Unit {0}
  Spares (Create name mirrors) = Unit {0}
  Spares (Remove client name mirror to step) = Unit {0}
  Spares (Set client name id change step) = Unit {0}
  Spares (Evict client step) = cookie.client ≢ client

  module _ (m : MetaView) (h : HeldIn m.files) where
    share_held : (n client : ℕ) (files : List File) → HeldIn files → HeldIn (changed n (with_share client) files)
    share_held n client files k = changed_held n (with_share client) files (λ f. refl) (λ f e. shared_held cookie client f.lock e) k

    open_held : (client : ℕ) (name : List ℕ) (range : Range) (step : ℕ) (b : Bool) → HeldIn (left_by (change_opens_file client range step m name b (file_named name m.files)) m).files
    open_held client name range step = open_cases (λ (x : MetaView). HeldIn x.files) client name range step m (record {
      same = h;
      shared = λ f e. share_held f.number client m.files h;
      intended = λ f mirror e primary. share_held f.number client _ (laid_held f.number _ m.files h);
    })

    begin_held : (client : ℕ) (name : List ℕ) (what : CopyWhat) → HeldIn (after_call (BeginCopy client name what) m).files
    begin_held client name what = begin_cases (λ (x : MetaView). HeldIn x.files) client name what m (record {
      same = h;
      begins = λ ids f e free. laid_held f.number _ m.files h;
      adds = λ mirrors f is e free within. laid_held f.number _ m.files h;
      extends = λ mirrors ids f is e free within. laid_held f.number _ m.files h;
      both = λ victim f v is e k free free_too. laid_held v.number _ _ (laid_held f.number _ m.files h);
    })

    -- a file that is taken in had nobody else's cookie
    merged_held : (ours theirs : KeyView) (f v : File) → cookie.client ≢ ours.client → file_of theirs.file m.files ≡ Some v → lowest_but ours.client v.lock ≡ None → HeldIn (with_merge ours theirs m f v).files
    merged_held ours theirs f v other beside free = by (cases_eq number v.number)
      where
        l : Composite
        l = merged v.layout f.layout

        after : List File
        after = changed f.number (with_layout l) m.files

        is : v.number ≡ theirs.file
        is = number_found theirs.file m.files v beside

        by : (number ≡ v.number) ⊎ (number ≡ v.number → ⊥) → HeldIn (without_file v.number after)
        by (inl same) =
            let here : file_of number m.files ≡ Some v = ap (λ (n : ℕ). file_of n m.files) (same ∙ is) ∙ beside in
            let held : is_held v.lock cookie ≡ true = sym (ap held_of here) ∙ h in
            let none : is_held v.lock cookie ≡ false = none_other cookie ours.client v.lock.cookies other free in
            absurd (true≢false (sym held ∙ none))
        by (inr apart) = ap held_of (found_without number v.number after apart) ∙ laid_held f.number l m.files h

    merge_held : (ours theirs : KeyView) → cookie.client ≢ ours.client → HeldIn (left_at (merge_ends ours theirs m) m).files
    merge_held ours theirs other = by (state_of m.leases ours) (state_of m.leases theirs)
      where
        alone : (f v : File) (a b : Option ℕ) → file_of theirs.file m.files ≡ Some v → lowest_but ours.client v.lock ≡ b → HeldIn (left_at (merge_ends_alone ours theirs m f v a b) m).files
        alone f v (Some holder) b beside free = h
        alone f v None (Some holder) beside free = h
        alone f v None None beside free = merged_held ours theirs f v other beside free

        on : (o p : Option File) → file_of theirs.file m.files ≡ p → HeldIn (left_at (merge_ends_files ours theirs m o p) m).files
        on None p beside = h
        on (Some f) None beside = h
        on (Some f) (Some v) beside = alone f v (lowest_but ours.client f.lock) (lowest_but ours.client v.lock) beside refl

        by : (s t : KeyState) → HeldIn (left_at (merge_ends_by ours theirs m s t) m).files
        by (state.Broken step) t = h
        by state.Held (state.Broken step) = h
        by state.Held state.Held = on (file_of ours.file m.files) (file_of theirs.file m.files) refl

    given_held : (file : ℕ) (given : Share) → cookie.client ≢ given.client → HeldIn (changed file (with_freed given) m.files)
    given_held file given other = changed_held file (with_freed given) m.files (λ f. refl) (λ f e. freed_held cookie given f.lock other e) h

    confirm_held : (file : ℕ) (given : Share) (b : Bool) → cookie.client ≢ given.client → HeldIn (confirmed file given b m).files
    confirm_held file given true other = given_held file given other
    confirm_held file given false other = h

  -- a call that spares the cookie leaves it held
  pub call_held : (call : Call) (m : MetaView) → Spares call → HeldIn m.files → HeldIn (after_call call m).files
  call_held (OpenRead client name) m spares h = read_cases (λ (x : MetaView). HeldIn x.files) client name m (record { same = h; shared = λ f e. share_held m h f.number client m.files h })
  call_held (OpenWrite client name range step) m spares h = open_held m h client name range step (nat_lt most_bytes range.end)
  call_held (OpenCut client name size step) m spares h = open_held m h client name (record { start = size; end = eof }) step (nat_lt most_bytes size)
  call_held (Free file given) m spares h = given_held m h file given spares
  call_held (Confirm file given) m spares h = confirm_held m h file given (holds file given m) spares
  call_held (Commit file given end) m spares h = changed_held file (grown given end) m.files (λ f. refl) (λ f e. freed_held cookie given f.lock spares e) h
  call_held (Cut file given size) m spares h = changed_held file (shortened given size) m.files (λ f. refl) (λ f e. freed_held cookie given f.lock spares e) h
  call_held (BeginCopy client name what) m spares h = begin_held m h client name what
  call_held (CopyDone key cleared) m spares h = end_cases (λ (x : MetaView). HeldIn x.files) key cleared m (record { same = h; given = h; done = λ f held e. laid_held f.number _ m.files h })
  call_held (MergeDone ours theirs) m spares h = merge_held m h ours theirs spares
  call_held (GiveUp key) m spares h = h
  call_held (Create name mirrors) m spares h = create_cases (λ (x : MetaView). HeldIn x.files) name mirrors m (record { same = h; comes = λ absent room. pushed_held m.files _ h })
  call_held (Remove client name mirror to step) m spares h = remove_cases (λ (x : MetaView). HeldIn x.files) client name mirror step m (record {
    same = h;
    goes = λ f e kept. laid_held f.number _ m.files h;
    splits = λ name_to f e kept fresh absent room. pushed_held _ _ (laid_held f.number _ m.files h);
  }) to
  call_held (Set client name id change step) m spares h = set_cases (λ (x : MetaView). HeldIn x.files) client name id change step m (record { same = h; marks = λ f e kept. laid_held f.number _ m.files h })
  call_held (Evict client step) m spares h = mapped_held client m.files spares h

-- ---- the cookie that is given

-- a client that shares the lock of a file that is found holds the cookie that it got
pub given_held_now : (client : ℕ) (f : File) (files : List File) → file_of f.number files ≡ Some f → HeldIn f.number (cookie_for client f.lock) (changed f.number (with_share client) files)
given_held_now client f files there =
    ap (λ (o : Option File). option_map_or (λ (x : File). is_held x.lock (cookie_for client f.lock)) o false) (same_found f.number (with_share client) files f (λ x. refl) there)
    ∙ list_any-append (λ (share : Share). same_cookie share (cookie_for client f.lock)) f.lock.cookies (cookie_for client f.lock ∷ [])
    ∙ any_last (list_any (λ (share : Share). same_cookie share (cookie_for client f.lock)) f.lock.cookies) (itself (cookie_for client f.lock))
  where
    itself : (a : Share) → same_cookie a a ≡ true
    itself a = let one : (a.client == a.client) ≡ true = nat_eq_same a.client in let two : (a.number == a.number) ≡ true = nat_eq_same a.number in λ j. one j && two j

    any_last : (b : Bool) {c : Bool} → c ≡ true → (b || (c || false)) ≡ true
    any_last true e = refl
    any_last false e = ap (λ (c : Bool). c || false) e
