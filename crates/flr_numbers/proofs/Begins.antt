-- The begin of a copy.
use Rattle.std.proofs.Common.{◌≡◌, ℕ, ◌+◌, ◌≤◌, Bool, true, false, cond, nat_eq, Some, None, List, [], ◌∷◌, ◌++◌, length, map, ◌⊎◌, inl, inr, refl, sym, ap, subst, ◌∙◌, arith, get_or}
use Rattle.std.proofs.lemmas.Bool.{cases_eq}
use Rattle.std.proofs.lemmas.Bool.Decides.{nat_tests}
use Rattle.flr_base.specs.declared.reply.ObjectId.{ObjectId}
use Rattle.composite_layout.specs.declared.component.Component.{Component}
use Rattle.composite_layout.specs.declared.spec.MirrorSpec.{MirrorSpec}
use Rattle.composite_layout.specs.Layouts.{Composite}
use Rattle.composite_layout.specs.LookUps.{mirror_ids}
use Rattle.composite_layout.specs.Making.{part_count}
use Rattle.layout_lease.specs.declared.lease.Lease.{Lease}
use Rattle.layout_lease.specs.Clients.{IsClient}
use Rattle.layout_lease.specs.Leases.{KeyView, hand_of, holder_of, key_for, key_of, keys_of, taken}
use Rattle.layout_lease.specs.Shares.{lowest_but}
use Rattle.layout_lease.proofs.Hands.{taken_hand}
use Rattle.layout_state.specs.Making.{with_new_objects}
use Rattle.layout_state.specs.Marking.{is_named}
use Rattle.layout_state.specs.Mirroring.{excess}
use Rattle.layout_state.proofs.NameLaws.{numbers_grow}
use Rattle.meta_server.specs.declared.answers.Begun.{Begun}
use Rattle.meta_server.specs.declared.answers.Begun.TheVariants as begun_as
use Rattle.meta_server.specs.declared.answers.CopyWhat.{CopyWhat}
use Rattle.meta_server.specs.declared.answers.CopyWhat.TheVariants.{Extend, Victim}
use Rattle.meta_server.specs.Beginning.{copy_begins, side_of, with_begin}
use Rattle.meta_server.specs.Conditions.{IsCopyOf}
use Rattle.meta_server.specs.Files.{File, MetaView, file_named, file_of, with_change, with_layout}
use Rattle.meta_server.specs.Layouts.{begun, extended, nexts_over}
use Rattle.meta_server.specs.Outcomes.{Gives, Refuses, Waits}
use Rattle.meta_server.specs.Outcomes as meta
use Rattle.meta_server.proofs.Leasing.{holder_taken}
use Rattle.meta_laws.specs.Calls.{IsCopyable, MayBegin, left_by}
use Rattle.meta_laws.specs.Numbers.{AreObjectsOnce, times, times_in}
use Rattle.meta_laws.proofs.Changing.{over_AreNext}
use Rattle.meta_laws.proofs.Copies.{added_valid, apart, sound_named, there_named}
use Rattle.meta_laws.proofs.Finding.{other_found, same_found}
use Rattle.meta_laws.proofs.Opens.{one_file}
use Rattle.flr_numbers.specs.Frames.{Leaves, Stands}
use Rattle.flr_numbers.proofs.Coming.{begin_cases}
use Rattle.flr_numbers.proofs.Leaving.{laid, same_change, taken_change, then}
use Rattle.flr_numbers.proofs.Standing.{RisesFrom, begun_rises, extended_rises}
use Rattle.call_steps.specs.Servers.{Servers}
use Rattle.resync_copy.specs.Comparing.{comparing_of}
use Rattle.flr_numbers.specs.Hands.{AreServers, Fit, Good, Has, HasRoom, IsBehind, nothing}
use Rattle.flr_numbers.proofs.Handing.{Backs, backs_then, bare_has, changed_backs, still_none}
use Rattle.flr_numbers.proofs.Metas.{good_meta, good_same}
use Rattle.flr_numbers.proofs.Objects.{file_made, times_found}
use Rattle.flr_numbers.proofs.Serving.{Kept}
use Rattle.flr_numbers.specs.Copies.{comparing, copying}

-- ---- an object stands in one file

module _ (o : ObjectId) where
  times_two : (k n : ℕ) (files : List File) (f x : File) → (k ≡ n → ⊥) → file_of k files ≡ Some f → file_of n files ≡ Some x → times_in o f.layout.components + times_in o x.layout.components ≤ times o files
  times_two k n [] f x apart e i = absurd (cc)
  times_two k n (y ∷ ys) f x apart e i = by (nat_eq y.number k) (nat_eq y.number n) refl refl e i (times_two k n ys f x apart)
    where
      by : (a b : Bool) → nat_eq y.number k ≡ a → nat_eq y.number n ≡ b → cond a (Some y) (file_of k ys) ≡ Some f → cond b (Some y) (file_of n ys) ≡ Some x
          → (file_of k ys ≡ Some f → file_of n ys ≡ Some x → times_in o f.layout.components + times_in o x.layout.components ≤ times o ys) → times_in o f.layout.components + times_in o x.layout.components ≤ times_in o y.layout.components + times o ys
      by true true ka nb e i rest = let one : y.number ≡ k = grind (arith, nat_tests) in let two : y.number ≡ n = grind (arith, nat_tests) in absurd (apart (sym one ∙ two))
      by true false ka nb e i rest = let same : y ≡ f = cc in let here : times_in o y.layout.components ≡ times_in o f.layout.components = ap (λ (z : File). times_in o z.layout.components) same in let more = times_found o n ys x i in omega (arith, here, more)
      by false true ka nb e i rest = let same : y ≡ x = cc in let here : times_in o y.layout.components ≡ times_in o x.layout.components = ap (λ (z : File). times_in o z.layout.components) same in let more = times_found o k ys f e in omega (arith, here, more)
      by false false ka nb e i rest = let more = rest e i in omega (arith, more)

-- a layout is behind where its own file has it
pub own_behind : (m : MetaView) (n : ℕ) (x : File) → AreObjectsOnce m → file_of n m.files ≡ Some x → IsBehind m x.layout
own_behind m n x once there = λ k f o e s t. by k f o e s t (cases_eq k n)
  where
    by : (k : ℕ) (f : File) (o : ObjectId) → file_of k m.files ≡ Some f → Stands o f.layout → Stands o x.layout → (k ≡ n) ⊎ (k ≡ n → ⊥) → x.layout.generation ≤ f.layout.generation
    by k f o e s t (inl same) =
        let one : f ≡ x = one_file (file_of n m.files) f x (subst (λ j. file_of j m.files ≡ Some f) same e) there in
        let generation : f.layout.generation ≡ x.layout.generation = ap (λ (y : File). y.layout.generation) one in
        omega (arith, generation)
    by k f o e s t (inr apart) = let two = times_two o k n m.files f x apart e there in let few = once.once o in absurd (omega (arith, two, few, s, t))

rises_then : (nexts : List ℕ) (a b c : Composite) → RisesFrom nexts a b → RisesFrom nexts b c → RisesFrom nexts a c
rises_then nexts a b c h k = record { stands = λ o s. by o (k.stands o s); grows = omega (arith, h.grows, k.grows) }
  where
    by : (o : ObjectId) → (get_or nexts o.target 0 ≤ o.number) ⊎ Stands o b → (get_or nexts o.target 0 ≤ o.number) ⊎ Stands o a
    by o (inl late) = inl late
    by o (inr s) = h.stands o s

-- a begin to no component makes no object
none_new : (file : ℕ) (nexts : List ℕ) (cs : List Component) → with_new_objects (is_named []) file nexts cs ≡ cs
none_new file nexts [] = refl
none_new file nexts (c ∷ cs) = ap (λ ds. c ∷ ds) (none_new file nexts cs)

-- no key in hand, none in the table
pub unmapped : (leases : List Lease) → map key_of leases ≡ [] → leases ≡ []
unmapped [] e = refl
unmapped (lease ∷ leases) e = absurd (cc)

-- a copy comes to this, by what its begin comes to
abbrev pub BeginsWell : ℕ → Servers → meta.Outcome Begun → Type 0
BeginsWell c s (Gives begun_as.Nothing after) = Good c s nothing (record s { meta = after })
BeginsWell c s (Gives (begun_as.Copy side ids) after) = Good c s (copying side.key side.layout) (record s { meta = after })
BeginsWell c s (Gives (begun_as.Merge ours theirs) after) = Good c s (comparing (comparing_of ours theirs)) (record s { meta = after })
BeginsWell c s (Refuses answer) = Unit {0}
BeginsWell c s (Waits holder) = Unit {0}

module _ (c : ℕ) (s : Servers) (is : IsClient c) (room : HasRoom s.meta) (h : AreServers s.meta s.targets) (has : Has c s.meta s.locks nothing) (name : List ℕ) (what : CopyWhat) (asked : IsCopyOf name what) (able : IsCopyable what) where
  abbrev m : MetaView
  m = s.meta

  -- the client has no key
  no_keys : keys_of c m.leases.keys ≡ []
  no_keys = unmapped (keys_of c m.leases.keys) has.keys

  pub may : MayBegin c name what m
  may = record { known = is; no_key = no_keys; keys = room.keys; generations = room.generations; objects = room.objects; copy = asked; mirrors = able }

  -- ---- one file

  module _ (ids : List ℕ) (f : File) (l : Composite) (e : file_named name m.files ≡ Some f) (free : holder_of m.leases f.number ≡ None) (alone : lowest_but c f.lock ≡ None) (rises : RisesFrom m.nexts f.layout (begun ids f.number m.nexts l)) where
    abbrev new : MetaView
    new = with_begin c ids (with_layout l f) m

    there : file_of f.number m.files ≡ Some f
    there = there_named m h.sound name f e

    after : file_of f.number new.files ≡ Some (with_layout (begun ids f.number m.nexts l) f)
    after = same_found f.number (with_layout (begun ids f.number m.nexts l)) m.files f (λ y. refl) there

    begun_well : Kept m new → Good c s (copying (key_for c f.number m.leases) (begun ids f.number m.nexts l)) (record s { meta = new })
    begun_well kept =
        good_meta c s (copying (key_for c f.number m.leases) (begun ids f.number m.nexts l)) new kept
        (laid c m f.number f (begun ids f.number m.nexts l) (taken c f.number m.leases) (nexts_over (is_named ids) f.number m.nexts l) there alone rises (taken_change c f.number m.leases free))
        h
        (record {
          cookies = still_none c m new s.locks has (changed_backs m new f.number (with_layout (begun ids f.number m.nexts l)) (λ y. refl) (λ y cookie held. held) refl);
          keys = taken_hand c f.number m.leases ∙ ap (λ ks. ks ++ key_for c f.number m.leases ∷ []) has.keys;
          own = (refl, tt);
          locks = has.locks;
          opened = λ o e. absurd (cc);
          made = (file_made new f.number (with_layout (begun ids f.number m.nexts l) f) kept.once after, tt);
          behind = (own_behind new f.number (with_layout (begun ids f.number m.nexts l) f) kept.once after, tt);
          merges = λ pair e. absurd (cc);
        })

  begins_case : (ids : List ℕ) (f : File) → file_named name m.files ≡ Some f → holder_of m.leases f.number ≡ None → lowest_but c f.lock ≡ None → Kept m (with_begin c ids f m) → BeginsWell c s (Gives (begun_as.Copy (side_of c ids f m) ids) (with_begin c ids f m))
  begins_case ids f e free alone kept = begun_well ids f f.layout e free alone (begun_rises m.nexts f.layout ids f.number h.sound.nexts.some (sound_named m h.sound name f e).layout.shaped) kept

  adds_case : (mirrors : List MirrorSpec) (f : File) → what ≡ Extend mirrors → file_named name m.files ≡ Some f → holder_of m.leases f.number ≡ None → lowest_but c f.lock ≡ None → excess f.layout (length mirrors) (part_count mirrors) m.most ≡ None
      → Kept m (with_change f.number (with_layout (extended mirrors (length m.nexts) f.layout)) m) → BeginsWell c s (Gives begun_as.Nothing (with_change f.number (with_layout (extended mirrors (length m.nexts) f.layout)) m))
  adds_case mirrors f same e free alone within kept =
      let l : Composite = extended mirrors (length m.nexts) f.layout in
      let new : MetaView = with_change f.number (with_layout l) m in
      good_meta c s nothing new kept
      (laid c m f.number f l m.leases m.nexts (there_named m h.sound name f e) alone (extended_rises m.nexts f.layout mirrors (length m.nexts)) (same_change c f.number m.leases free))
      h
      (bare_has c new s.locks false (still_none c m new s.locks has (changed_backs m new f.number (with_layout l) (λ y. refl) (λ y cookie held. held) refl)) has.keys has.locks)

  extends_case : (mirrors : List MirrorSpec) (ids : List ℕ) (f : File) → what ≡ Extend mirrors → file_named name m.files ≡ Some f → holder_of m.leases f.number ≡ None → lowest_but c f.lock ≡ None → excess f.layout (length mirrors) (part_count mirrors) m.most ≡ None
      → Kept m (with_begin c ids (with_layout (extended mirrors (length m.nexts) f.layout) f) m) → BeginsWell c s (Gives (begun_as.Copy (side_of c ids (with_layout (extended mirrors (length m.nexts) f.layout) f) m) ids) (with_begin c ids (with_layout (extended mirrors (length m.nexts) f.layout) f) m))
  extends_case mirrors ids f same e free alone within kept =
      let l : Composite = extended mirrors (length m.nexts) f.layout in
      begun_well ids f l e free alone
      (rises_then m.nexts f.layout l (begun ids f.number m.nexts l) (extended_rises m.nexts f.layout mirrors (length m.nexts)) (begun_rises m.nexts l ids f.number h.sound.nexts.some (added_valid c name what m h.sound may mirrors f same e within).shaped))
      kept

  -- ---- two files

  module _ (victim : List ℕ) (f v : File) (same : what ≡ Victim victim) (e : file_named name m.files ≡ Some f) (k : file_named victim m.files ≡ Some v) (free : holder_of m.leases f.number ≡ None) (free_too : holder_of m.leases v.number ≡ None) (alone : lowest_but c f.lock ≡ None) (alone_too : lowest_but c v.lock ≡ None)
      (within : excess f.layout (length (mirror_ids v.layout.components)) (length v.layout.components) m.most ≡ None) where
    abbrev mid : MetaView
    mid = with_begin c [] f m

    abbrev last : MetaView
    last = with_begin c [] v mid

    two : f.number ≡ v.number → ⊥
    two = apart c name what m h.sound may victim f v same e k

    abbrev our_layout : Composite
    our_layout = begun [] f.number m.nexts f.layout

    abbrev their_layout : Composite
    their_layout = begun [] v.number mid.nexts v.layout

    our_there : file_of f.number m.files ≡ Some f
    our_there = there_named m h.sound name f e

    their_there : file_of v.number m.files ≡ Some v
    their_there = there_named m h.sound victim v k

    mid_there : file_of v.number mid.files ≡ Some v
    mid_there = other_found v.number f.number (with_layout our_layout) m.files (λ y. refl) (λ same. two (sym same)) ∙ their_there

    our_after : file_of f.number last.files ≡ Some (with_layout our_layout f)
    our_after = other_found f.number v.number (with_layout their_layout) mid.files (λ y. refl) two ∙ same_found f.number (with_layout our_layout) m.files f (λ y. refl) our_there

    their_after : file_of v.number last.files ≡ Some (with_layout their_layout v)
    their_after = same_found v.number (with_layout their_layout) mid.files v (λ y. refl) mid_there

    leaves : Leaves c m last
    leaves =
        then c m mid last (λ target. numbers_grow (is_named []) f.number m.nexts f.layout.components h.sound.nexts.some target)
        (laid c m f.number f our_layout (taken c f.number m.leases) (nexts_over (is_named []) f.number m.nexts f.layout) our_there alone (begun_rises m.nexts f.layout [] f.number h.sound.nexts.some (sound_named m h.sound name f e).layout.shaped) (taken_change c f.number m.leases free))
        (laid c mid v.number v their_layout (taken c v.number mid.leases) (nexts_over (is_named []) v.number mid.nexts v.layout) mid_there alone_too
        (begun_rises mid.nexts v.layout [] v.number (over_AreNext (is_named []) f.number m.nexts f.layout h.sound.nexts).some (sound_named m h.sound victim v k).layout.shaped)
        (taken_change c v.number mid.leases (holder_taken c f.number v.number m.leases two free_too)))

    backs : Backs m last
    backs =
        backs_then m mid last (changed_backs m mid f.number (with_layout our_layout) (λ y. refl) (λ y cookie held. held) refl)
        (changed_backs mid last v.number (with_layout their_layout) (λ y. refl) (λ y cookie held. held) refl)

    abbrev our_key : KeyView
    our_key = key_for c f.number m.leases

    abbrev their_key : KeyView
    their_key = key_for c v.number mid.leases

    keys : hand_of c last.leases ≡ our_key ∷ their_key ∷ []
    keys =
        taken_hand c v.number mid.leases
        ∙ ap (λ ks. ks ++ their_key ∷ []) (taken_hand c f.number m.leases ∙ ap (λ ks. ks ++ our_key ∷ []) has.keys)

    fits : Fit last our_key their_key
    fits = record {
      apart = two;
      our_layout = our_layout;
      their_layout = their_layout;
      our_lease = λ held y found. ap (λ (z : File). z.layout) (one_file (file_of f.number last.files) y (with_layout our_layout f) found our_after);
      their_lease = λ held y found. ap (λ (z : File). z.layout) (one_file (file_of v.number last.files) y (with_layout their_layout v) found their_after);
      within =
          (λ j. excess (record f.layout { components = none_new f.number m.nexts f.layout.components j }) (length (mirror_ids (none_new v.number mid.nexts v.layout.components j))) (length (none_new v.number mid.nexts v.layout.components j)) m.most)
          ∙ within;
    }

    both_case : Kept m last → BeginsWell c s (Gives (begun_as.Merge (side_of c [] f m) (side_of c [] v mid)) last)
    both_case kept =
        good_meta c s (comparing (comparing_of (side_of c [] f m) (side_of c [] v mid))) last kept leaves h
        (record {
          cookies = still_none c m last s.locks has backs;
          keys = keys;
          own = (refl, (refl, tt));
          locks = has.locks;
          opened = λ o e. absurd (cc);
          made = (file_made last f.number (with_layout our_layout f) kept.once our_after, (file_made last v.number (with_layout their_layout v) kept.once their_after, tt));
          behind = (own_behind last f.number (with_layout our_layout f) kept.once our_after, (own_behind last v.number (with_layout their_layout v) kept.once their_after, tt));
          merges = λ pair i. (
              let one : (our_key, their_key) ≡ pair = cc in
              subst (λ (p : KeyView × KeyView). (p.0.client ≡ c) × (p.1.client ≡ c) × Fit last p.0 p.1) one (refl, refl, fits)
              );
        })

  -- whatever comes of the begin
  pub begins_well : Kept m (left_by (copy_begins c name what m) m) → BeginsWell c s (copy_begins c name what m)
  begins_well = begin_cases (λ (o : meta.Outcome Begun). Kept m (left_by o m) → BeginsWell c s o) c name what m (record {
    refuses = λ answer kept. tt;
    waits = λ holder kept. tt;
    same = λ kept. good_same c s nothing h has;
    begins = begins_case;
    adds = adds_case;
    extends = extends_case;
    both = both_case;
  })
