-- Each step keeps the rule.
use Rattle.std.proofs.Common.{◌≡◌, ◌≢◌, ℕ, zero, suc, ◌+◌, ◌*◌, ◌%◌, ◌^◌, ◌<◌, ◌≤◌, eqb, Bool, true, false, true≢false, if◌then◌else◌, List, [], ◌∷◌, ◌++◌, length, get_or, set, Option, Some, None, refl, sym, ap, ◌∙◌, subst, ⊎_elim, arith, le_refl, length-set, length-append, get_or-set_same, eq-eqb, ne_eqb}
use mathlib.Core.Logic.{dite}
use native.Mathlib.Decide.{ℕ_discrete}
use mathlib.Core.Option.{some, none, some-injective, some-ne-none}
use lib.ListN.{get_elem?}
use lib.Seq.{set-get_or}
use prog.Atomic.{either}
use Rattle.atomic_table.specs.Table.{State, Me, step, Act, keeps, takes, gives, Valid, carried_after, stepped, opening, Allows, Splits, Joins}
use Rattle.atomic_table.proofs.Lists.{at_set, at_snoc, set_here, set_else, at_longer, exchanged}
use Rattle.turn_cell.specs.declared.view.View.{View}
use Rattle.turn_cell.specs.Schedules.{IsFront}
use Rattle.turn_cell.specs.Rule.{IsSoundView, IsSoundTable, TellsClaim, TellsStep, TellsRelease, TellsLoad, TellsJoin}
use Rattle.turn_cell.specs.Views.{first_view, split_view, spent_view, joined_view, view_after_load, view_after_claim, view_after_lost_claim, view_after_step, view_after_release}
use Rattle.std.proofs.lemmas.List.Elements.{Contains-push_cases}
use Rattle.turn_cell.proofs.Fronts.{front_whole, front_empty, front_along, front_length, front_both, longer_is, shorter_is, length-longer, longer_whole}
use Rattle.turn_cell.proofs.PlaceLists.{contains_none, increasing_none, increasing_push, increasing_merged, both-merged}

set_at : {A : Type 0} (l : List A) (i : ℕ) (a b : A) → get_elem? l i ≡ some b → get_elem? (set l i a) i ≡ some a
set_at [] i a b e = absurd (some-ne-none b (sym e))
set_at (x ∷ xs) zero a b e = refl
set_at (x ∷ xs) (suc i) a b e = set_at xs i a b e

-- some view has the turn after the view of id has changed to one that has it where the old one had
still_taken : {O : Type 0} (vs : List (View O)) (id holder : ℕ) (u w : View O) → get_elem? vs id ≡ some u → w.has_turn ≡ u.has_turn → (v : View O) × (get_elem? vs holder ≡ some v) × (v.has_turn ≡ true)
    → (v : View O) × (get_elem? (set vs id w) holder ≡ some v) × (v.has_turn ≡ true)
still_taken {O = O} vs id holder u w at same was = dite (ℕ_discrete holder id)
    (λ e. (w, subst (λ j. get_elem? (set vs id w) j ≡ some w) (sym e) (set_at vs id w u at), same ∙ (ap (λ (v : View O). v.has_turn) (some-injective _ _ (sym at ∙ (ap (get_elem? vs) (sym e) ∙ was.1))) ∙ was.2)))
    (λ ne. (was.0, set_else vs id holder w ne ∙ was.1, was.2))

module _ {W O : Type 0} (schedule : W → List ℕ) (origin : W → O) (o : O) where
  abbrev D : Type 0
  D = View O

  abbrev St : Type 0
  St = State (Option W) D

  abbrev M : Type 0
  M = Me (Option W) D

  abbrev R : St → Type 0
  R = IsSoundTable schedule origin o

  each_set : (F : ℕ → D → Type 0) (vs : List D) (id : ℕ) (w : D) → F id w → ((j : ℕ) (v : D) → j ≢ id → get_elem? vs j ≡ some v → F j v) → (j : ℕ) (v : D) → get_elem? (set vs id w) j ≡ some v → F j v
  each_set F vs id w mine others j v e =
      ⊎_elim (λ (t : (j ≡ id) × (w ≡ v)). subst (λ (x : ℕ × D). F x.0 x.1) (λ i. (sym t.0 i, t.1 i)) mine)
      (λ (t : (j ≢ id) × (get_elem? vs j ≡ some v)). others j v t.0 t.1) (at_set vs id j w v e)

  -- a step that changes no word
  stays : (s : St) (r : R s) (id : ℕ) (cs : List (ℕ × Option W)) (u w : D) → get_elem? s.views id ≡ some u → w.has_turn ≡ u.has_turn → IsSoundView o r.past r.held r.holder r.maker id w → R (stepped s 0 (get_or s.words 0 0) id cs w keeps)
  stays s r id cs u w at same mine = subst (λ (ws : List ℕ). R record { words = ws; homes = s.homes; views = set s.views id w }) (sym (set-get_or s.words 0 0)) record {
    past = r.past;
    held = r.held;
    holder = r.holder;
    maker = r.maker;
    word = r.word;
    one = r.one;
    flag = r.flag;
    few = r.few;
    each = each_set (IsSoundView o r.past r.held r.holder r.maker) s.views id w mine (λ j v _. r.each j v);
    taken = λ h. still_taken s.views id r.holder u w at same (r.taken h);
    out = r.out;
    at_home = r.at_home;
  }

  pub loads : (slots id : ℕ) (me : M) → Allows R slots id me 0 (λ n. n) (TellsLoad (step slots 0 0 0 none) me)
  loads slots id me s r wide at _ = let f = r.each id me.0 at in let w = view_after_load (get_or s.words 0 0) me.0 in (
    w,
    keeps,
    tt,
    stays s r id me.1 me.0 w at refl record { same = f.same; seen = f.seen; told = f.told; turn = f.turn; within = f.within; ascending = f.ascending },
    refl,
  )

  pub join_loads : (slots id : ℕ) (me : M) → Allows R slots id me 0 (λ n. n) (TellsJoin (step slots 0 0 0 none) me)
  join_loads slots id me s r wide at _ = let f = r.each id me.0 at in (
    me.0,
    keeps,
    tt,
    stays s r id me.1 me.0 me.0 at refl f,
    (refl, (λ l. front_both me.0.told me.0.seen r.past f.told f.seen l), record { ascending = f.ascending; within = λ p h. let k = f.within p h in (k.0, k.1) }),
  )

  pub claims : (slots id : ℕ) (me : M) (old new : ℕ) → old % 2 ≡ 0 → new ≡ old + 1 → Allows R slots id me 0 (λ n. either (eqb n old) new n) (TellsClaim schedule origin (step slots 0 old new none) me)
  claims slots id me old new even next s r wide at _ =
      let n : ℕ = get_or s.words 0 0 in
      let f = r.each id me.0 at in
      exchanged n old new (λ z. (w : D) × (a : Act (Option W)) × Valid s.homes me.1 a × R (stepped s 0 z id me.1 w a) × TellsClaim schedule origin (step slots 0 old new none) me n (w, carried_after me.1 a))
      (λ hit. let word = r.word in let flag = r.flag in let one = r.one in
      let rest : r.held ≡ 0 = omega arith in
      let home = r.at_home rest in
      let x = home.0 in
      let len = ap length home.2 in
      let w = view_after_claim (schedule x) me.0 in (
        w,
        takes 0 (Some x),
        home.1,
        record {
          past = r.past;
          held = 1;
          holder = id;
          maker = r.maker;
          word = get_or-set_same s.words 0 new 0 (omega arith) ∙ omega arith;
          one = length-set s.words 0 new ∙ one;
          flag = le_refl 1;
          few = r.few;
          each = each_set (IsSoundView o r.past 1 id r.maker) s.views id w
              record { same = f.same; seen = front_whole (schedule x) r.past home.2; told = f.told; turn = λ _. (refl, refl, home.2); within = λ p h. let k = f.within p h in let b = front_length me.0.seen r.past f.seen in (k.0, (omega arith), k.2); ascending = f.ascending }
              (λ j v other e. let g = r.each j v e in
              record { same = g.same; seen = g.seen; told = g.told; turn = λ t. let k = (g.turn t).0 in absurd (omega arith); within = g.within; ascending = g.ascending });
          taken = λ _. (w, set_at s.views id w me.0 at, refl);
          out = λ _. set_at s.homes 0 none _ home.1;
          at_home = λ z. absurd (omega arith);
        },
        (λ _. ((λ _. (x, refl, (λ ox is. home.3 ∙ sym (f.same ox is)), subst (IsFront me.0.seen) (sym home.2) f.seen, (omega arith), subst (λ (l : List ℕ). length l < 2 ^ 32) (sym home.2) r.few)), λ miss. absurd (miss hit))),
      ))
      (λ miss. let w = view_after_lost_claim me.0 in (
        w,
        keeps,
        tt,
        stays s r id me.1 me.0 w at refl record { same = f.same; seen = f.seen; told = f.told; turn = f.turn; within = f.within; ascending = f.ascending },
        (λ _. ((λ hit. absurd (miss hit)), λ _. refl)),
      ))

  pub opens : (x : W) (word : ℕ) → word ≡ 2 * length (schedule x) → length (schedule x) < 2 ^ 32 → o ≡ origin x → R (opening (word ∷ []) (Some x ∷ []) (first_view o (schedule x)))
  opens x word is few from = record {
    past = schedule x;
    held = 0;
    holder = 0;
    maker = λ _. 0;
    word = omega arith;
    one = refl;
    flag = omega arith;
    few = few;
    each = each_one;
    taken = λ z. absurd (omega arith);
    out = λ z. absurd (omega arith);
    at_home = λ _. (x, refl, refl, sym from);
  }
    where
      fits : (j : ℕ) → IsSoundView o (schedule x) 0 0 (λ _. 0) j (first_view o (schedule x))
      fits j = record { same = λ y e. sym (some_inj o y e); seen = front_whole (schedule x) (schedule x) refl; told = front_empty (schedule x); turn = λ t. absurd (true≢false (sym t)); within = λ p h. absurd (contains_none p h); ascending = increasing_none }
        where
          from_some : O → Option O → O
          from_some d None = d
          from_some d (Some z) = z

          some_inj : (a b : O) → Some a ≡ Some b → a ≡ b
          some_inj a b e = ap (from_some a) e

      each_one : (j : ℕ) (v : D) → get_elem? (first_view o (schedule x) ∷ []) j ≡ some v → IsSoundView o (schedule x) 0 0 (λ _. 0) j v
      each_one zero v e = subst (IsSoundView o (schedule x) 0 0 (λ _. 0) 0) (some-injective _ _ e) (fits 0)
      each_one (suc j) v e = absurd (some-ne-none v (sym e))

  abbrev value_or : W → Option W → W
  value_or d None = d
  value_or d (Some z) = z

  in_hand : (x y : W) → ◌≡◌ {A = List (ℕ × Option W)} ((0, Some x) ∷ []) ((0, Some y) ∷ []) → x ≡ y
  in_hand x y e = ap (λ (l : List (ℕ × Option W)). value_or x (get_or l 0 (0, None)).1) e

  -- the turn ends with the value x at home, whose schedule begins with the one before
  ends : (s : St) (r : R s) (id : ℕ) (v : D) (x : W) (new : ℕ) (w : D) (maker : ℕ → ℕ)
      → get_elem? s.views id ≡ some v → v.has_turn ≡ true → v.origin ≡ Some (origin x) → IsFront v.seen (schedule x) → new ≡ 2 * length (schedule x) → length (schedule x) < 2 ^ 32 → 0 < length s.homes
      → ((p j : ℕ) → p ≤ length v.seen → r.maker p ≡ j → maker p ≡ j)
      → IsSoundView o (schedule x) 0 0 maker id w
      → R (stepped s 0 new id ((0, Some x) ∷ []) w gives)
  ends s r id v x new w maker at turn from more is few home kept mine =
      let f = r.each id v at in
      let mine_is = f.turn turn in
      let one = r.one in
      let along : (l : List ℕ) → IsFront l r.past → IsFront l (schedule x) = λ l b. front_along l v.seen (schedule x) (subst (IsFront l) (sym mine_is.2) b) more in
      record {
        past = schedule x;
        held = 0;
        holder = 0;
        maker = maker;
        word = get_or-set_same s.words 0 new 0 (omega arith) ∙ omega arith;
        one = length-set s.words 0 new ∙ one;
        flag = omega arith;
        few = few;
        each = each_set (IsSoundView o (schedule x) 0 0 maker) s.views id w mine
            (λ j u other e. let g = r.each j u e in
            record {
              same = g.same;
              seen = along u.seen g.seen;
              told = along u.told g.told;
              turn = λ t. absurd (other ((g.turn t).1 ∙ sym mine_is.1));
              within = λ p h. let k = g.within p h in let b = front_length u.seen r.past g.seen in let c = ap length mine_is.2 in (k.0, k.1, kept p j (omega arith) k.2);
              ascending = g.ascending;
            });
        taken = λ z. absurd (omega arith);
        out = λ z. absurd (omega arith);
        at_home = λ _. (x, set_here s.homes 0 (some (Some x)) home, refl, f.same (origin x) from);
      }

  pub step_releases : (slots id : ℕ) (me : M) (x : W) (client new : ℕ) → 0 < slots → me.0.has_turn ≡ true → me.0.origin ≡ Some (origin x) → me.1 ≡ (0, Some x) ∷ [] → schedule x ≡ me.0.seen ++ client ∷ []
      → new ≡ 2 * length me.0.seen + 2 → length (schedule x) < 2 ^ 32 → Allows R slots id me 0 (λ _. new) (λ _. TellsStep schedule (step slots 0 new 0 none) me new)
  step_releases slots id (v, cs) x client new some_slot turn from hand next word few = subst (λ (c : List (ℕ × Option W)). Allows R slots id (v, c) 0 (λ _. new) (λ _. TellsStep schedule (step slots 0 new 0 none) (v, c) new)) (sym hand) (λ s r wide at _.
      let f = r.each id v at in
      let mine_is = f.turn turn in
      let w = view_after_step (schedule x) v in
      let more : IsFront v.seen (schedule x) = (client ∷ [], next) in
      let long = ap length next ∙ length-append v.seen (client ∷ []) in
      let last : ℕ = length (schedule x) in
      let maker : ℕ → ℕ = λ p. if eqb p last then id else r.maker p in
      let old : (p : ℕ) → p ≢ last → maker p ≡ r.maker p = λ p ne. ap (λ (b : Bool). if b then id else r.maker p) (ne_eqb p last ne) in
      let new_one : maker last ≡ id = ap (λ (b : Bool). if b then id else r.maker last) (eq-eqb last last refl) in (
        w,
        gives,
        tt,
        ends s r id v x new w maker at turn from more (omega arith) few (omega arith) (λ p j l e. old p (λ z. omega arith) ∙ e) record {
          same = f.same;
          seen = front_whole (schedule x) (schedule x) refl;
          told = front_along v.told v.seen (schedule x) (subst (IsFront v.told) (sym mine_is.2) f.told) more;
          turn = λ t. absurd (true≢false (sym t));
          within = λ p h. ⊎_elim (λ t. let k = f.within p t in let a = k.0 in let b = k.1 in (a, (omega arith), old p (λ z. omega arith) ∙ k.2))
              (λ (e : last ≡ p). ((omega arith), (omega arith), ap maker (sym e) ∙ new_one)) (Contains-push_cases v.mine last p h);
          ascending = increasing_push v.mine last f.ascending (λ p h. let k = (f.within p h).1 in omega arith);
        },
        λ y same. let e = in_hand x y same in λ i. (view_after_step (schedule (e i)) v, []),
      ))

  pub releases : (slots id : ℕ) (me : M) (x : W) (new : ℕ) → 0 < slots → me.0.has_turn ≡ true → me.0.origin ≡ Some (origin x) → me.1 ≡ (0, Some x) ∷ [] → schedule x ≡ me.0.seen
      → new ≡ 2 * length me.0.seen → length (schedule x) < 2 ^ 32 → Allows R slots id me 0 (λ _. new) (λ _. TellsRelease (step slots 0 new 0 none) me new)
  releases slots id (v, cs) x new some_slot turn from hand same word few = subst (λ (c : List (ℕ × Option W)). Allows R slots id (v, c) 0 (λ _. new) (λ _. TellsRelease (step slots 0 new 0 none) (v, c) new)) (sym hand) (λ s r wide at _.
      let f = r.each id v at in
      let mine_is = f.turn turn in
      let w = view_after_release v in
      let long = ap length same in
      let more = front_whole v.seen (schedule x) (sym same) in (
        w,
        gives,
        tt,
        ends s r id v x new w r.maker at turn from more (omega arith) few (omega arith) (λ p j l e. e) record {
          same = f.same;
          seen = more;
          told = front_along v.told v.seen (schedule x) (subst (IsFront v.told) (sym mine_is.2) f.told) more;
          turn = λ t. absurd (true≢false (sym t));
          within = f.within;
          ascending = f.ascending;
        },
        λ y e. refl,
      ))

  pub splits : (id : ℕ) (v : D) → Splits R id v v (split_view v)
  splits id v s r at =
      let f = r.each id v at in
      let F = IsSoundView o r.past r.held r.holder r.maker in
      let views = set s.views id v in
      let mine : (j : ℕ) → F j (split_view v) = λ j. record { same = f.same; seen = f.seen; told = front_empty r.past; turn = λ t. absurd (true≢false (sym t)); within = λ p h. absurd (contains_none p h); ascending = increasing_none } in
      record {
        past = r.past;
        held = r.held;
        holder = r.holder;
        maker = r.maker;
        word = r.word;
        one = r.one;
        flag = r.flag;
        few = r.few;
        each = λ j u e. ⊎_elim (λ t. each_set F s.views id v f (λ i y _. r.each i y) j u t) (λ (t : split_view v ≡ u). subst (F j) t (mine j)) (at_snoc views (split_view v) u j e);
        taken = λ h. let t = still_taken s.views id r.holder v v at refl (r.taken h) in (t.0, at_longer views (split_view v ∷ []) r.holder t.0 t.1, t.2);
        out = r.out;
        at_home = r.at_home;
      }

  pub joins : (id : ℕ) (v : D) (other : ℕ) (w : D) → w.has_turn ≡ false → Joins R id v other w (joined_view v w) spent_view
  joins id v other w idle s r at apart there =
      let f = r.each id v at in
      let both = joined_view v w in
      let g : IsSoundView o r.past r.held r.holder r.maker other w = ⊎_elim (λ (t : (other ≡ id) × (both ≡ w)). absurd (apart t.0)) (λ (t : (other ≢ id) × (get_elem? s.views other ≡ some w)). r.each other w t.1) (at_set s.views id other both w there) in
      let maker : ℕ → ℕ = λ p. if eqb (r.maker p) other then id else r.maker p in
      let F = IsSoundView o r.past r.held r.holder maker in
      let kept : (j : ℕ) → j ≢ other → (p : ℕ) → r.maker p ≡ j → maker p ≡ j = λ j ne p e. ap (λ (b : Bool). if b then id else r.maker p) (ne_eqb (r.maker p) other (λ z. ne (sym e ∙ z))) ∙ e in
      let moved : (p : ℕ) → r.maker p ≡ other → maker p ≡ id = λ p e. ap (λ (b : Bool). if b then id else r.maker p) (eq-eqb (r.maker p) other e) in
      let long = length-longer v.seen w.seen in
      let mine : F id both = record {
        same = f.same;
        seen = longer_is (λ l. IsFront l r.past) v.seen w.seen f.seen g.seen;
        told = shorter_is (λ l. IsFront l r.past) v.seen w.seen f.seen g.seen;
        turn = λ t. let k = f.turn t in (k.0, k.1, longer_whole v.seen w.seen r.past k.2 g.seen);
        within = λ p h. ⊎_elim (λ t. let k = f.within p t in let a = k.0 in let b = k.1 in let c = long.0 in (a, (omega arith), kept id (λ e. apart (sym e)) p k.2))
            (λ t. let k = g.within p t in let a = k.0 in let b = k.1 in let c = long.1 in (a, (omega arith), moved p k.2)) ((both-merged v.mine w.mine p).0 h);
        ascending = increasing_merged v.mine w.mine f.ascending g.ascending (λ p h k. apart (sym (g.within p k).2 ∙ (f.within p h).2));
      } in
      let none_left : F other spent_view = record { same = λ x e. absurd (cc); seen = front_empty r.past; told = front_empty r.past; turn = λ t. absurd (true≢false (sym t)); within = λ p h. absurd (contains_none p h); ascending = increasing_none } in
      record {
        past = r.past;
        held = r.held;
        holder = r.holder;
        maker = maker;
        word = r.word;
        one = r.one;
        flag = r.flag;
        few = r.few;
        each = each_set F (set s.views id both) other spent_view none_left (λ j u ne e.
            ⊎_elim (λ (t : (j ≡ id) × (both ≡ u)). subst (λ (x : ℕ × D). F x.0 x.1) (λ i. (sym t.0 i, t.1 i)) mine)
            (λ (t : (j ≢ id) × (get_elem? s.views j ≡ some u)). let h = r.each j u t.1 in
            record { same = h.same; seen = h.seen; told = h.told; turn = h.turn; within = λ p m. let k = h.within p m in (k.0, k.1, kept j ne p k.2); ascending = h.ascending })
            (at_set s.views id j both u e));
        taken = λ h. still_taken (set s.views id both) other r.holder w spent_view there (sym idle) (still_taken s.views id r.holder v both at refl (r.taken h));
        out = r.out;
        at_home = r.at_home;
      }
