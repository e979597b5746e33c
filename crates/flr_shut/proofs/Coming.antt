-- Where the objects of files come from in each call of the metadata server.
use Rattle.std.proofs.Common.{◌≡◌, ℕ, ◌+◌, ◌<◌, ◌≤◌, Bool, true, false, nat_lt, Some, List, [], ◌∷◌, ◌++◌, length, ◌⊎◌, inl, inr, refl, sym, ap, subst, ◌∙◌, arith, get_or}
use Rattle.flr_base.specs.declared.reply.ObjectId.{ObjectId}
use Rattle.flr_base.specs.declared.reply.Range.{Range}
use Rattle.composite_layout.specs.declared.component.Component.{Component}
use Rattle.composite_layout.specs.declared.spec.MirrorSpec.{MirrorSpec}
use Rattle.composite_layout.specs.Layouts.{Composite, eof}
use Rattle.composite_layout.specs.Making.{new_layout}
use Rattle.layout_lease.specs.declared.shared.Share.{Share}
use Rattle.layout_lease.specs.Leases.{KeyView}
use Rattle.layout_state.specs.Marking.{is_named}
use Rattle.meta_server.specs.declared.answers.CopyWhat.{CopyWhat}
use Rattle.meta_server.specs.declared.answers.CopyWhat.TheVariants.{Victim}
use Rattle.meta_server.specs.Beginning.{with_begin}
use Rattle.meta_server.specs.Closing.{grown, holds, shortened}
use Rattle.meta_server.specs.Conditions.{IsCopyOf}
use Rattle.meta_server.specs.Ending.{with_done, with_merge}
use Rattle.meta_server.specs.Files.{File, MetaView, changed, file_named, file_of, with_break, with_change, with_eviction, with_file, with_freed, with_layout, with_share}
use Rattle.meta_server.specs.Layouts.{begun, extended, finished, flagged, intended, lessened, merged, split_off}
use Rattle.flr_base.specs.Limits.{most_bytes}
use Rattle.meta_server.specs.Opening.{change_opens_file, with_intent}
use Rattle.meta_server.specs.Sound.{IsSound}
use Rattle.meta_server.proofs.Going.{name_found}
use Rattle.meta_server.proofs.Placing.{number_found}
use Rattle.meta_laws.specs.Calls.{Call, OpenRead, OpenWrite, OpenCut, Free, Confirm, Commit, Cut, BeginCopy, CopyDone, MergeDone, GiveUp, Create, Remove, Set, Evict, after_call, confirmed, left_by}
use Rattle.meta_laws.proofs.Cases.{begin_cases, create_cases, open_cases, read_cases, remove_cases, set_cases}
use Rattle.layout_state.specs.Breaking.{unleased}
use Rattle.layout_state.specs.Choosing.{is_over}
use Rattle.layout_state.proofs.NameLaws.{numbers_grow}
use Rattle.meta_laws.proofs.Changing.{over_AreNext}
use Rattle.meta_laws.proofs.Copies.{there_named}
use Rattle.meta_laws.proofs.Finding.{other_found}
use Rattle.meta_laws.proofs.Opens.{one_file}
use Rattle.mirror_select.proofs.Least.{In, from_contains, to_contains}
use Rattle.flr_numbers.specs.Frames.{IsUnmade}
use Rattle.flr_numbers.proofs.Inverting.{WasFound, was_evicted, was_found, was_pushed, was_without}
use Rattle.flr_numbers.proofs.Objects.{named_stands}
use Rattle.flr_numbers.proofs.Standing.{none_stands, unleased_grows}
use Rattle.flr_sole.proofs.Metas.{IsPlain}
use Rattle.flr_shut.specs.Sentences.{Place}
use Rattle.flr_shut.proofs.Layouts.{AllCome, ComesFrom, begun_come, extended_come, finished_come, flagged_come, intended_come, lessened_come, merged_come, none, split_come}

-- an object of a file's component stood somewhere before: in the same file, whose generation hasn't fallen, or in one whose generation was less; and in a fresh component where this one is fresh, or in an excepted one
pub record Came (m : MetaView) (except : ℕ → Component → Type 0) (n : ℕ) (f : File) (d : Component) (o : ObjectId) : Type 0 where
  pub old : Place m o
  pub risen : ((old.number ≡ n) × (old.file.layout.generation ≤ f.layout.generation)) ⊎ (old.file.layout.generation < f.layout.generation)
  pub fresh : d.flags.stale ≡ false → (old.component.flags.stale ≡ false) ⊎ except old.number old.component

-- each did so, or wasn't made yet
abbrev pub Comes : MetaView → (ℕ → Component → Type 0) → MetaView → Type 0
Comes m except new = (n : ℕ) (f : File) (d : Component) (o : ObjectId) → file_of n new.files ≡ Some f → In d f.layout.components → In o d.objects → IsUnmade m o ⊎ Came m except n f d o

abbrev pub nobody : ℕ → Component → Type 0
nobody n c = ⊥

abbrev place : (m : MetaView) (n : ℕ) (f : File) (c : Component) (o : ObjectId) → file_of n m.files ≡ Some f → In c f.layout.components → In o c.objects → Place m o
place m n f c o there i k = record { number = n; file = f; there = there; component = c; listed = to_contains f.layout.components c i; has = to_contains c.objects o k }

-- where the file stood with the component
stood : (m : MetaView) (except : ℕ → Component → Type 0) (n : ℕ) (f g : File) (d : Component) (o : ObjectId) → file_of n m.files ≡ Some g → g.layout ≡ f.layout → In d f.layout.components → In o d.objects → Came m except n f d o
stood m except n f g d o there same i k = record {
  old = place m n g d o there (subst (λ (l : Composite). In d l.components) (sym same) i) k;
  risen = inl (refl, (let level : g.layout.generation ≡ f.layout.generation = ap (λ (l : Composite). l.generation) same in omega (arith, level)));
  fresh = λ e. inl e;
}

pub same : (m : MetaView) → Comes m nobody m
same m n f d o there i k = inr (stood m nobody n f f d o there refl i k)

-- ---- one change after another

pub then : (a b c : MetaView) → ((target : ℕ) → get_or a.nexts target 0 ≤ get_or b.nexts target 0) → Comes a nobody b → Comes b nobody c → Comes a nobody c
then a b c grow h k n f d o there i has = by (k n f d o there i has)
  where
    further : (w : Came b nobody n f d o) → IsUnmade a o ⊎ Came a nobody w.old.number w.old.file w.old.component o → IsUnmade a o ⊎ Came a nobody n f d o
    further w (inl late) = inl late
    further w (inr v) = inr (record { old = v.old; risen = at w.risen v.risen; fresh = λ e. fresh (w.fresh e) })
      where
        at : ((w.old.number ≡ n) × (w.old.file.layout.generation ≤ f.layout.generation)) ⊎ (w.old.file.layout.generation < f.layout.generation) → ((v.old.number ≡ w.old.number) × (v.old.file.layout.generation ≤ w.old.file.layout.generation)) ⊎ (v.old.file.layout.generation < w.old.file.layout.generation)
            → ((v.old.number ≡ n) × (v.old.file.layout.generation ≤ f.layout.generation)) ⊎ (v.old.file.layout.generation < f.layout.generation)
        at (inl late) (inl early) = let p = late.1 in let q = early.1 in inl (early.0 ∙ late.0, omega (arith, p, q))
        at (inl late) (inr less) = let p = late.1 in inr (omega (arith, p, less))
        at (inr less) (inl early) = let q = early.1 in inr (omega (arith, less, q))
        at (inr less) (inr more) = inr (omega (arith, less, more))

        fresh : (w.old.component.flags.stale ≡ false) ⊎ nobody w.old.number w.old.component → (v.old.component.flags.stale ≡ false) ⊎ nobody v.old.number v.old.component
        fresh (inl e) = v.fresh e
        fresh (inr never) = absurd never

    by : IsUnmade b o ⊎ Came b nobody n f d o → IsUnmade a o ⊎ Came a nobody n f d o
    by (inl late) = inl (let less = grow o.target in omega (arith, less, late))
    by (inr w) = further w (h w.old.number w.old.file w.old.component o w.old.there (from_contains w.old.file.layout.components w.old.component w.old.listed) (from_contains w.old.component.objects o w.old.has))

-- ---- single changes

-- a file changes in what is no layout
pub locked : (m : MetaView) (k : ℕ) (g : File → File) → ((x : File) → (g x).number ≡ x.number) → ((x : File) → (g x).layout ≡ x.layout) → Comes m nobody (with_change k g m)
locked m k g number layout n f d o there i has = by (was_found n k g m.files f number there)
  where
    by : WasFound n k g m.files f → IsUnmade m o ⊎ Came m nobody n f d o
    by w = elim w.is [
      | inl here ↦ inr (stood m nobody n f w.before d o w.there (sym (ap (λ (x : File). x.layout) here.1 ∙ layout w.before)) i has)
      | inr other ↦ inr (stood m nobody n f w.before d o w.there (sym (ap (λ (x : File). x.layout) other.1)) i has)
    ]

-- a file gets another layout, whose generation isn't less
pub laid : (m new : MetaView) (x : File) (l : Composite) (except : Component → Type 0) → file_of x.number m.files ≡ Some x → new.files ≡ changed x.number (with_layout l) m.files → x.layout.generation ≤ l.generation → AllCome except m.nexts x.layout.components l.components → Comes m (λ n c. (n ≡ x.number) × except c) new
laid m new x l except here files grows all n f d o there i has = by (was_found n x.number (with_layout l) m.files f (λ y. refl) (subst (λ fs. file_of n fs ≡ Some f) files there))
  where
    old : n ≡ x.number → f.layout ≡ l → (get_or m.nexts o.target 0 ≤ o.number) ⊎ ComesFrom except x.layout.components d o → IsUnmade m o ⊎ Came m (λ k c. (k ≡ x.number) × except c) n f d o
    old own layout (inl late) = inl late
    old own layout (inr w) =
        let level : f.layout.generation ≡ l.generation = ap (λ (y : Composite). y.generation) layout in
        inr (record { old = place m x.number x w.0 o here w.1 w.2; risen = inl (sym own, omega (arith, level, grows)); fresh = λ e. at (w.3 e) })
      where
        at : (w.0.flags.stale ≡ false) ⊎ except w.0 → (w.0.flags.stale ≡ false) ⊎ ((x.number ≡ x.number) × except w.0)
        at (inl f) = inl f
        at (inr e) = inr (refl, e)

    other : (w : WasFound n x.number (with_layout l) m.files f) → f ≡ w.before → Came m (λ k c. (k ≡ x.number) × except c) n f d o
    other w e = stood m (λ k c. (k ≡ x.number) × except c) n f w.before d o w.there (sym (ap (λ (y : File). y.layout) e)) i has

    by : WasFound n x.number (with_layout l) m.files f → IsUnmade m o ⊎ Came m (λ k c. (k ≡ x.number) × except c) n f d o
    by w = elim w.is [
      | inl own ↦ (let layout : f.layout ≡ l = ap (λ (y : File). y.layout) own.1 in old own.0 layout (all d o (subst (λ (y : Composite). In d y.components) layout i) has))
      | inr apart ↦ inr (other w apart.1)
    ]

-- nothing is excepted where nothing became fresh
pub plain : (m new : MetaView) (n : ℕ) → Comes m (λ k c. (k ≡ n) × none c) new → Comes m nobody new
plain m new n all k f d o there i has = by (all k f d o there i has)
  where
    fresh : (w : Came m (λ j c. (j ≡ n) × none c) k f d o) → (w.old.component.flags.stale ≡ false) ⊎ ((w.old.number ≡ n) × none w.old.component) → (w.old.component.flags.stale ≡ false) ⊎ nobody w.old.number w.old.component
    fresh w (inl e) = inl e
    fresh w (inr never) = absurd never.1

    by : IsUnmade m o ⊎ Came m (λ j c. (j ≡ n) × none c) k f d o → IsUnmade m o ⊎ Came m nobody k f d o
    by (inl late) = inl late
    by (inr w) = inr (record { old = w.old; risen = w.risen; fresh = λ e. fresh w (w.fresh e) })

-- a file comes, whose objects stood in files of lower generations
pub pushed : (m mid : MetaView) (x : File) (next : ℕ) → Comes m nobody mid → ((d : Component) (o : ObjectId) → In d x.layout.components → In o d.objects → (n : ℕ) → Came m nobody n x d o) → Comes m nobody (record mid { files = mid.files ++ x ∷ []; next_file = next })
pushed m mid x next h new n f d o there i has = by (was_pushed n mid.files x f there)
  where
    by : (file_of n mid.files ≡ Some f) ⊎ (f ≡ x) → IsUnmade m o ⊎ Came m nobody n f d o
    by (inl before) = h n f d o before i has
    by (inr e) = inr (subst (λ (y : File). Came m nobody n y d o) (sym e) (new d o (subst (λ (y : File). In d y.layout.components) e i) has n))

pub evicted : (m : MetaView) (client step : ℕ) → Comes m nobody (with_eviction client step m)
evicted m client step n f d o there i has = let w = was_evicted n client m.files f there in inr (stood m nobody n f w.before d o w.there (sym (ap (λ (x : File). x.layout) w.is)) i has)

-- ---- each call

module _ (m : MetaView) (h : IsSound m) where
  some : 0 < length m.nexts
  some = h.nexts.some

  -- the file of a name gets a layout in which no component has become fresh
  relaid : (name : List ℕ) (f : File) → file_named name m.files ≡ Some f → (new : MetaView) (l : Composite) → new.files ≡ changed f.number (with_layout l) m.files → f.layout.generation ≤ l.generation → AllCome none m.nexts f.layout.components l.components → Comes m nobody new
  relaid name f e new l files grows all = plain m new f.number (laid m new f l none (there_named m h name f e) files grows all)

  opened : (client : ℕ) (name : List ℕ) (range : Range) (step : ℕ) (b : Bool) → Comes m nobody (left_by (change_opens_file client range step m name b (file_named name m.files)) m)
  opened client name range step b = by_cases
    where
      by_cases : Comes m nobody (left_by (change_opens_file client range step m name b (file_named name m.files)) m)
      by_cases = open_cases (Comes m nobody) client name range step m (record {
        same = same m;
        shared = λ f e. locked m f.number (with_share client) (λ x. refl) (λ x. refl);
        intended = λ f mirror e primary. (
            let mid : MetaView = with_intent range mirror step f m in
            let l : Composite = intended range mirror f.number m.nexts f.layout in
            let up = unleased_grows f.layout in
            then m mid (with_change f.number (with_share client) mid) (grow_over f range mirror) (relaid name f e mid l refl (omega (arith, up)) (intended_come m.nexts f.layout range mirror f.number some)) (locked mid f.number (with_share client) (λ x. refl) (λ x. refl))
            );
      }) b
        where
          grow_over : (f : File) (range : Range) (mirror : ℕ) → (target : ℕ) → get_or m.nexts target 0 ≤ get_or (with_intent range mirror step f m).nexts target 0
          grow_over f range mirror target = numbers_grow (is_over range mirror) f.number m.nexts f.layout.components some target

  begins : (client : ℕ) (name : List ℕ) (ids : List ℕ) (f : File) → file_named name m.files ≡ Some f → Comes m nobody (with_begin client ids f m)
  begins client name ids f e = relaid name f e (with_begin client ids f m) (begun ids f.number m.nexts f.layout) refl (omega arith) (begun_come m.nexts f.layout ids f.number some)

  grow_begin : (client : ℕ) (ids : List ℕ) (f : File) → (target : ℕ) → get_or m.nexts target 0 ≤ get_or (with_begin client ids f m).nexts target 0
  grow_begin client ids f target = numbers_grow (is_named ids) f.number m.nexts f.layout.components some target

  begun_copy : (client : ℕ) (name : List ℕ) (what : CopyWhat) → IsCopyOf name what → Comes m nobody (after_call (BeginCopy client name what) m)
  begun_copy client name what copy = begin_cases (Comes m nobody) client name what m (record {
    same = same m;
    begins = λ ids f e free. begins client name ids f e;
    adds = λ mirrors f is e free within. (let up = unleased_grows f.layout in relaid name f e (with_change f.number (with_layout (extended mirrors (length m.nexts) f.layout)) m) (extended mirrors (length m.nexts) f.layout) refl (omega (arith, up)) (extended_come m.nexts f.layout mirrors (length m.nexts)));
    extends = λ mirrors ids f is e free within. (
        let l : Composite = extended mirrors (length m.nexts) f.layout in
        let up = unleased_grows f.layout in
        relaid name f e (with_begin client ids (with_layout l f) m) (begun ids f.number m.nexts l) refl (omega (arith, up)) (both_come f.layout.components l.components (begun ids f.number m.nexts l).components (begun_come m.nexts l ids f.number some) (extended_come m.nexts f.layout mirrors (length m.nexts)))
        );
    both = λ victim f v is e k free free_too. (
        let mid : MetaView = with_begin client [] f m in
        let beside : file_of v.number mid.files ≡ Some v = other_found v.number f.number (with_layout (begun [] f.number m.nexts f.layout)) m.files (λ y. refl) (apart victim f v is e k) ∙ there_named m h victim v k in
        then m mid (with_begin client [] v mid) (grow_begin client [] f) (begins client name [] f e)
        (plain mid (with_begin client [] v mid) v.number (laid mid (with_begin client [] v mid) v (begun [] v.number mid.nexts v.layout) none beside refl (omega arith) (begun_come mid.nexts v.layout [] v.number (over_AreNext (is_named []) f.number m.nexts f.layout h.nexts).some)))
        );
  })
    where
      both_come : (old mid new : List Component) → AllCome none m.nexts mid new → AllCome none m.nexts old mid → AllCome none m.nexts old new
      both_come old mid new a b d o i k = by (a d o i k)
        where
          after : (w : ComesFrom none mid d o) → (get_or m.nexts o.target 0 ≤ o.number) ⊎ ComesFrom none old w.0 o → (get_or m.nexts o.target 0 ≤ o.number) ⊎ ComesFrom none old d o
          after w (inl new) = inl new
          after w (inr v) = inr (v.0, v.1, v.2, λ e. fresh (w.3 e))
            where
              fresh : (w.0.flags.stale ≡ false) ⊎ none w.0 → (v.0.flags.stale ≡ false) ⊎ none v.0
              fresh (inl e) = v.3 e
              fresh (inr never) = absurd never

          by : (get_or m.nexts o.target 0 ≤ o.number) ⊎ ComesFrom none mid d o → (get_or m.nexts o.target 0 ≤ o.number) ⊎ ComesFrom none old d o
          by (inl new) = inl new
          by (inr w) = after w (b w.0 o w.1 w.2)

      apart : (victim : List ℕ) (f v : File) → what ≡ Victim victim → file_named name m.files ≡ Some f → file_named victim m.files ≡ Some v → v.number ≡ f.number → ⊥
      apart victim f v is e k equal =
          let found : file_of f.number m.files ≡ Some v = ap (λ n. file_of n m.files) (sym equal) ∙ there_named m h victim v k in
          let one : f ≡ v = one_file (file_of f.number m.files) f v (there_named m h name f e) found in
          let two : IsCopyOf name (Victim victim) = subst (IsCopyOf name) is copy in
          two (sym (name_found name m.files f e) ∙ ap (λ (y : File). y.name) one ∙ name_found victim m.files v k)

  confirms : (file : ℕ) (cookie : Share) (b : Bool) → Comes m nobody (confirmed file cookie b m)
  confirms file cookie true = locked m file (with_freed cookie) (λ x. refl) (λ x. refl)
  confirms file cookie false = same m

  goes : (name : List ℕ) (mirror step : ℕ) (f : File) → file_named name m.files ≡ Some f → Comes m nobody (with_break f.number step (lessened mirror f.layout) m)
  goes name mirror step f e = let up = unleased_grows f.layout in relaid name f e (with_break f.number step (lessened mirror f.layout) m) (lessened mirror f.layout) refl (omega (arith, up)) (lessened_come m.nexts f.layout mirror)

  splits : (name : List ℕ) (mirror step : ℕ) (to : List ℕ) (f : File) → file_named name m.files ≡ Some f → Comes m nobody (with_file to f.size (split_off mirror f.layout) (with_break f.number step (lessened mirror f.layout) m))
  splits name mirror step to f e = pushed m mid x (m.next_file + 1) (goes name mirror step f e) new
    where
      mid : MetaView
      mid = with_break f.number step (lessened mirror f.layout) m

      x : File
      x = record { number = m.next_file; name = to; size = f.size; layout = split_off mirror f.layout; lock = record { cookies = []; next = 1 } }

      new : (d : Component) (o : ObjectId) → In d x.layout.components → In o d.objects → (n : ℕ) → Came m nobody n x d o
      new d o i k n = record { old = place m f.number f w.0 o (there_named m h name f e) w.1 w.2; risen = inr (omega (arith, up)); fresh = λ stale. fresh (w.3 stale) }
        where
          up : f.layout.generation ≤ (unleased f.layout).generation
          up = unleased_grows f.layout

          w : ComesFrom none f.layout.components d o
          w = split_come [] f.layout mirror d o i k

          fresh : (w.0.flags.stale ≡ false) ⊎ none w.0 → (w.0.flags.stale ≡ false) ⊎ nobody f.number w.0
          fresh (inl e) = inl e
          fresh (inr never) = absurd never

  -- a file that is made has no objects
  creates : (name : List ℕ) (mirrors : List MirrorSpec) → Comes m nobody (with_file name 0 (new_layout mirrors (length m.nexts)) m)
  creates name mirrors = pushed m m (record { number = m.next_file; name = name; size = 0; layout = new_layout mirrors (length m.nexts); lock = record { cookies = []; next = 1 } }) (m.next_file + 1) (same m)
      (λ d o i k n. absurd (none_stands o mirrors (length m.nexts) (named_stands o (new_layout mirrors (length m.nexts)).components (d, to_contains (new_layout mirrors (length m.nexts)).components d i, to_contains d.objects o k))))

  -- each call but the ends of copies
  pub call_comes : (call : Call) → IsPlain call → Comes m nobody (after_call call m)
  call_comes (OpenRead client name) well = read_cases (Comes m nobody) client name m (record { same = same m; shared = λ f e. locked m f.number (with_share client) (λ x. refl) (λ x. refl) })
  call_comes (OpenWrite client name range step) well = opened client name range step (nat_lt most_bytes range.end)
  call_comes (OpenCut client name size step) well = opened client name (record { start = size; end = eof }) step (nat_lt most_bytes size)
  call_comes (Free file cookie) well = locked m file (with_freed cookie) (λ x. refl) (λ x. refl)
  call_comes (Confirm file cookie) well = confirms file cookie (holds file cookie m)
  call_comes (Commit file cookie end) well = locked m file (grown cookie end) (λ x. refl) (λ x. refl)
  call_comes (Cut file cookie size) well = locked m file (shortened cookie size) (λ x. refl) (λ x. refl)
  call_comes (BeginCopy client name what) well = begun_copy client name what well.0
  call_comes (CopyDone key cleared) well = absurd well
  call_comes (MergeDone ours theirs) well = absurd well
  call_comes (GiveUp key) well = same m
  call_comes (Create name mirrors) well = create_cases (Comes m nobody) name mirrors m (record { same = same m; comes = λ absent room. creates name mirrors })
  call_comes (Remove client name mirror to step) well = remove_cases (Comes m nobody) client name mirror step m (record {
    same = same m;
    goes = λ f e kept. goes name mirror step f e;
    splits = λ new f e kept fresh absent room. splits name mirror step new f e;
  }) to
  call_comes (Set client name id change step) well = set_cases (Comes m nobody) client name id change step m (record {
    same = same m;
    marks = λ f e kept. (let up = unleased_grows f.layout in relaid name f e (with_break f.number step (flagged id change f.layout) m) (flagged id change f.layout) refl (omega (arith, up)) (flagged_come m.nexts f.layout id change));
  })
  call_comes (Evict client step) well = evicted m client step

-- ---- the ends of copies

-- a copy is done: what it cleared is excepted
pub done_comes : (m : MetaView) (key : KeyView) (cleared : List ℕ) (f : File) → file_of key.file m.files ≡ Some f → Comes m (λ n c. (n ≡ key.file) × (is_named cleared c ≡ true)) (with_done key cleared f m)
done_comes m key cleared f e n g d o there i has =
    let own : f.number ≡ key.file = number_found key.file m.files f e in
    by own (laid m (with_done key cleared f m) f (finished cleared f.layout) (λ c. is_named cleared c ≡ true) (subst (λ k. file_of k m.files ≡ Some f) (sym own) e) refl (omega arith) (finished_come m.nexts f.layout cleared) n g d o there i has)
  where
    by : f.number ≡ key.file → IsUnmade m o ⊎ Came m (λ k c. (k ≡ f.number) × (is_named cleared c ≡ true)) n g d o → IsUnmade m o ⊎ Came m (λ k c. (k ≡ key.file) × (is_named cleared c ≡ true)) n g d o
    by own (inl late) = inl late
    by own (inr w) = inr (record { old = w.old; risen = w.risen; fresh = λ stale. at (w.fresh stale) })
      where
        at : (w.old.component.flags.stale ≡ false) ⊎ ((w.old.number ≡ f.number) × (is_named cleared w.old.component ≡ true)) → (w.old.component.flags.stale ≡ false) ⊎ ((w.old.number ≡ key.file) × (is_named cleared w.old.component ≡ true))
        at (inl e) = inl e
        at (inr w) = inr (w.0 ∙ own, w.1)

-- a file is taken in
pub merge_comes : (m : MetaView) (ours theirs : KeyView) (f v : File) → file_of ours.file m.files ≡ Some f → file_of theirs.file m.files ≡ Some v → Comes m nobody (with_merge ours theirs m f v)
merge_comes m ours theirs f v e k n g d o there i has = by (was_found n f.number change m.files g (λ y. refl) (was_without n v.number (changed f.number change m.files) g there).1)
  where
    l : Composite
    l = merged v.layout f.layout

    change : File → File
    change = with_layout l

    from : (x : File) (j : ℕ) → file_of j m.files ≡ Some x → g.layout ≡ l → x.layout.generation < l.generation → ComesFrom none x.layout.components d o → Came m nobody n g d o
    from x j found layout less w = let level : g.layout.generation ≡ l.generation = ap (λ (y : Composite). y.generation) layout in record { old = place m j x w.0 o found w.1 w.2; risen = inr (omega (arith, level, less)); fresh = λ stale. at (w.3 stale) }
      where
        at : (w.0.flags.stale ≡ false) ⊎ none w.0 → (w.0.flags.stale ≡ false) ⊎ nobody j w.0
        at (inl e) = inl e
        at (inr never) = absurd never

    by : WasFound n f.number change m.files g → IsUnmade m o ⊎ Came m nobody n g d o
    by w = elim w.is [
      | inl own ↦ (let layout : g.layout ≡ l = ap (λ (y : File). y.layout) own.1 in inr (either layout (merged_come v.layout f.layout d o (subst (λ (y : Composite). In d y.components) layout i) has)))
      | inr apart ↦ inr (stood m nobody n g w.before d o w.there (sym (ap (λ (y : File). y.layout) apart.1)) i has)
    ]
      where
        either : g.layout ≡ l → ComesFrom none f.layout.components d o ⊎ ComesFrom none v.layout.components d o → Came m nobody n g d o
        either layout (inl w) = from f ours.file e layout (omega arith) w
        either layout (inr w) = from v theirs.file k layout (omega arith) w
