-- A reader of lines that has the reader of a layout inside.
use Rattle.std.proofs.Common.{◌≡◌, ℕ, true, ◌+◌, List, [], ◌∷◌, ◌++◌, eqb, length, take, drop, Option, Some, None, Result, Ok, Err, refl, sym, ap, subst, ◌∙◌, arith, inl, inr}
use Rattle.std.specs.Prelude.{◌⊎◌}
use Rattle.std.proofs.lemmas.List.{append-nil, take-append-drop, length-take-le, length-append}
use Rattle.std.proofs.Math.Seq.{take-append_seam, take-append-add}
use Rattle.flr_base.specs.Faults.{Begins}
use Rattle.flr_base.specs.Reading.{reads, after}
use Rattle.flr_base.proofs.Machine.{run-append, reached}
use Rattle.flr_base.proofs.Reader.{ok_of, ok_step, run_ok}
use Rattle.text_words.specs.Lines.{lines_of}
use Rattle.composite_layout.specs.Layouts.{Composite}
use Rattle.layout_text.specs.declared.place.Phase.TheVariants.{Going}
use Rattle.layout_text.specs.declared.place.Unfit.{Unfit}
use Rattle.layout_text.specs.Spelling.{AreLines, StandsFirst, IsFirstStop}
use Rattle.layout_text.specs.Viable.{layout_of, layout_at, layout_lines, State}
use Rattle.layout_text.proofs.ReadLaws.{LineKeeps, start, text_step, reads_texts, to_texts, from_texts, found, same_layout, bind_some}
use Rattle.layout_text.proofs.FrontLaws.{text_run, ends_there, full, layout_there, texts, count_texts, are_lines, ended, first_lines}

-- a reader with states for those of this one, which it leaves as soon as the layout is there
pub record Nests {S C : Type 0} (outer : S → Option (List ℕ) → Result S C) (nest : State → S) (leave : Composite → S) (cause : C) : Type 0 where
  pub goes : (s t : State) (y : Option (List ℕ)) → text_step s y ≡ Ok t → layout_at t ≡ None → outer (nest s) y ≡ Ok (nest t)
  pub leaves : (s t : State) (y : Option (List ℕ)) (l : Composite) → text_step s y ≡ Ok t → layout_at t ≡ Some l → outer (nest s) y ≡ Ok (leave l)
  pub stops : (s : State) (y : Option (List ℕ)) → text_step s y ≡ Err (record {}) → outer (nest s) y ≡ Err cause

-- where it stands for a state that may be a whole layout's
abbrev pub landed : {S : Type 0} → (State → S) → (Composite → S) → State → Option Composite → S
landed nest leave t None = nest t
landed nest leave t (Some l) = leave l

ok_is : {S C : Type 0} (r : Result S C) (t : S) → ok_of r ≡ Some t → r ≡ Ok t
ok_is (Ok s) t e = let same : s ≡ t = cc in ap (λ u. Ok u) same
ok_is (Err c) t e = absurd cc

one_step : {S C : Type 0} (outer : S → Option (List ℕ) → Result S C) (nest : State → S) (leave : Composite → S) (cause : C) → Nests outer nest leave cause
    → (s u : State) (y : Option (List ℕ)) (o : Option Composite) → text_step s y ≡ Ok u → layout_at u ≡ o → outer (nest s) y ≡ Ok (landed nest leave u o)
one_step outer nest leave cause n s u y None e h = n.goes s u y e h
one_step outer nest leave cause n s u y (Some l) e h = n.leaves s u y l e h

-- a state from which lines lead on is no whole layout's
more_comes : (u t : State) (y : Option (List ℕ)) (ys : List (Option (List ℕ))) (o : Option Composite) → layout_at u ≡ o → text_run u (y ∷ ys) ≡ Some t → o ≡ None
more_comes u t y ys None h e = refl
more_comes u t y ys (Some l) h e =
    let w = layout_there u l h in
    absurd (ends_there w.0 u.1 y ys t w.2 (subst (λ (v : State). text_run v (y ∷ ys) ≡ Some t) w.1 e))

over_by : {S C : Type 0} (outer : S → Option (List ℕ) → Result S C) (nest : State → S) (leave : Composite → S) (cause : C) → Nests outer nest leave cause
    → (at : ℕ) (s t : State) (zs more : List (Option (List ℕ))) → layout_at s ≡ None → text_run s zs ≡ Some t
    → reads outer at (nest s) (zs ++ more) ≡ reads outer (at + length zs) (landed nest leave t (layout_at t)) more
over_by outer nest leave cause n at s t [] more none e =
    let same : s ≡ t = cc in
    let here : reads outer at (nest s) more ≡ reads outer at (landed nest leave s (layout_at s)) more = ap (λ (o : Option Composite). reads outer at (landed nest leave s o) more) (sym none) in
    let place : at ≡ at + 0 = omega arith in
    here ∙ ap (λ (u : State). reads outer at (landed nest leave u (layout_at u)) more) same ∙ ap (λ (k : ℕ). reads outer k (landed nest leave t (layout_at t)) more) place
over_by {S = S} {C = C} outer nest leave cause n at s t (z ∷ []) more none e =
    let b = bind_some (λ u. text_run u []) (ok_step text_step s z) t e in
    let same : b.0 ≡ t = cc in
    let one = one_step outer nest leave cause n s b.0 z (layout_at b.0) (ok_is (text_step s z) b.0 b.1) refl in
    ap (λ (r : Result S C). after r at (λ u. reads outer (at + 1) u more)) one ∙ ap (λ (u : State). reads outer (at + 1) (landed nest leave u (layout_at u)) more) same
over_by {S = S} {C = C} outer nest leave cause n at s t (z ∷ y ∷ zs) more none e =
    let b = bind_some (λ u. text_run u (y ∷ zs)) (ok_step text_step s z) t e in
    let open_at : layout_at b.0 ≡ None = more_comes b.0 t y zs (layout_at b.0) refl b.2 in
    let one : outer (nest s) z ≡ Ok (nest b.0) = n.goes s b.0 z (ok_is (text_step s z) b.0 b.1) open_at in
    let place : at + 1 + length (y ∷ zs) ≡ at + length (z ∷ y ∷ zs) = omega arith in
    ap (λ (r : Result S C). after r at (λ u. reads outer (at + 1) u ((y ∷ zs) ++ more))) one ∙ over_by outer nest leave cause n (at + 1) b.0 t (y ∷ zs) more open_at b.2
    ∙ ap (λ (k : ℕ). reads outer k (landed nest leave t (layout_at t)) more) place

-- it goes over a whole layout, and is where it left it
pub nested_whole : {S C : Type 0} (outer : S → Option (List ℕ) → Result S C) (nest : State → S) (leave : Composite → S) (cause : C) → Nests outer nest leave cause
    → (at : ℕ) (text : List ℕ) (l : Composite) (rest : List ℕ) → StandsFirst text l rest
    → reads outer at (nest start) (lines_of text) ≡ reads outer (at + (length l.components + 1)) (leave l) (lines_of rest)
nested_whole outer nest leave cause n at text l rest h =
    let f = full (ended (texts l)) (are_lines l h.0) in
    let there : State = (Going f.0, l.components) in
    let zero : eqb f.0.left 0 ≡ true = rw f.1.left refl in
    let whole : layout_at there ≡ Some l = rw zero (ap (λ (m : Composite). Some m) (same_layout l f.0.head l.components f.1.head refl)) in
    let over = over_by outer nest leave cause n at start there (ended (texts l)) (lines_of rest) refl f.1.reads in
    ap (reads outer at (nest start)) (first_lines text l rest h) ∙ over
    ∙ ap (λ (k : ℕ). reads outer k (landed nest leave there (layout_at there)) (lines_of rest)) (ap (λ (k : ℕ). at + k) (count_texts l))
    ∙ ap (λ (o : Option Composite). reads outer (at + (length l.components + 1)) (landed nest leave there o) (lines_of rest)) whole

-- the lines that can go on to a layout's lead to a state in which something may still come
pub record Inside (ys : List (Option (List ℕ))) (s : State) : Type 0 where
  pub reads : text_run start ys ≡ Some s
  pub keeps : LineKeeps s
  pub more : layout_at s ≡ None

whole_there : (ys : List (Option (List ℕ))) (s : State) (l : Composite) → text_run start ys ≡ Some s → layout_at s ≡ Some l → AreLines ys
whole_there ys s l r e =
    let w = layout_there s l e in
    let f = found ys w.0 s.1 (run_ok text_step 0 start (Going w.0, s.1) ys (r ∙ ap (λ (u : State). Some u) w.1)) w.2 in
    from_texts ys (layout_lines (layout_of w.0.head s.1), (layout_of w.0.head s.1, f.0, refl), f.1)

no_layout : (ys : List (Option (List ℕ))) (s : State) (o : Option Composite) → text_run start ys ≡ Some s → layout_at s ≡ o → (AreLines ys → ⊥) → o ≡ None
no_layout ys s None r e none = refl
no_layout ys s (Some l) r e none = absurd (none (whole_there ys s l r e))

inside : (ys : List (Option (List ℕ))) → Begins AreLines ys → (AreLines ys → ⊥) → (s : State) × Inside ys s
inside ys (more, b) none =
    let r = reads_texts.all (ys ++ more) (to_texts (ys ++ more) b) in
    let m = bind_some (λ u. text_run u more) (text_run start ys) r.0 (sym (run-append (ok_step text_step) start ys more) ∙ r.1) in
    let stands = reached reads_texts m.0 ys m.1 in
    (m.0, record { reads = m.1; keeps = stands.1.kept; more = no_layout ys m.0 (layout_at m.0) m.1 refl none })

no_step : (ys : List (Option (List ℕ))) (s : State) (y : Option (List ℕ)) (r : Result State Unfit) → text_run start ys ≡ Some s → text_step s y ≡ r → (Begins AreLines (ys ++ y ∷ []) → ⊥) → r ≡ Err (record {})
no_step ys s y (Err e) h is dead = refl
no_step ys s y (Ok t) h is dead =
    let stands = reads_texts.next s t ys y (reached reads_texts s ys h) (ap (λ (x : Result State Unfit). ok_of x) is) in
    let g = reads_texts.goes_on t (ys ++ y ∷ []) stands in
    absurd (dead (g.0, from_texts ((ys ++ y ∷ []) ++ g.0) g.1))

-- where it stops: at the line that fits nothing, or inside the layout where the lines end early
abbrev pub Stops : {S C : Type 0} → (S → Option (List ℕ) → Result S C) → (State → S) → C → ℕ → List (Option (List ℕ)) → ℕ → Type 0
Stops outer nest cause at ys k = (reads outer at (nest start) ys ≡ Err (at + k, cause)) ⊎ ((k ≡ length ys) × (s : State) × Inside ys s × (reads outer at (nest start) ys ≡ Ok (nest s)))

stops_inside : {S C : Type 0} (outer : S → Option (List ℕ) → Result S C) (nest : State → S) (leave : Composite → S) (cause : C) → Nests outer nest leave cause
    → (at : ℕ) (zs : List (Option (List ℕ))) (y : Option (List ℕ)) (ys : List (Option (List ℕ))) (s : State) → Inside zs s → text_step s y ≡ Err (record {}) → reads outer at (nest start) (zs ++ y ∷ ys) ≡ Err (at + length zs, cause)
stops_inside {S = S} {C = C} outer nest leave cause n at zs y ys s i stuck =
    over_by outer nest leave cause n at start s zs (y ∷ ys) refl i.reads ∙ ap (λ (o : Option Composite). reads outer (at + length zs) (landed nest leave s o) (y ∷ ys)) i.more
    ∙ ap (λ (r : Result S C). after r (at + length zs) (λ u. reads outer (at + length zs + 1) u ys)) (n.stops s y stuck)

stops_early : {S C : Type 0} (outer : S → Option (List ℕ) → Result S C) (nest : State → S) (leave : Composite → S) (cause : C) → Nests outer nest leave cause
    → (at : ℕ) (zs : List (Option (List ℕ))) (s : State) → Inside zs s → reads outer at (nest start) zs ≡ Ok (nest s)
stops_early outer nest leave cause n at zs s i =
    ap (reads outer at (nest start)) (sym (append-nil zs)) ∙ over_by outer nest leave cause n at start s zs [] refl i.reads ∙ ap (λ (o : Option Composite). reads outer (at + length zs) (landed nest leave s o) []) i.more

stop_by : {S C : Type 0} (outer : S → Option (List ℕ) → Result S C) (nest : State → S) (leave : Composite → S) (cause : C) → Nests outer nest leave cause
    → (at : ℕ) (zs tail : List (Option (List ℕ))) → IsFirstStop (zs ++ tail) (length zs) → Stops outer nest cause at (zs ++ tail) (length zs)
stop_by {S = S} {C = C} outer nest leave cause n at zs [] h =
    let front : take (length zs) (zs ++ []) ≡ zs = take-append_seam zs [] in
    let i = inside zs (subst (λ (xs : List (Option (List ℕ))). Begins AreLines xs) front h.fault.begins) (λ a. h.whole (length zs) (subst AreLines (sym front) a)) in
    inr (ap (λ (xs : List (Option (List ℕ))). length xs) (sym (append-nil zs)), i.0, subst (λ (xs : List (Option (List ℕ))). Inside xs i.0) (sym (append-nil zs)) i.1, ap (reads outer at (nest start)) (append-nil zs) ∙ stops_early outer nest leave cause n at zs i.0 i.1)
stop_by outer nest leave cause n at zs (y ∷ ys) h =
    let front : take (length zs) (zs ++ y ∷ ys) ≡ zs = take-append_seam zs (y ∷ ys) in
    let i = inside zs (subst (λ (xs : List (Option (List ℕ))). Begins AreLines xs) front h.fault.begins) (λ a. h.whole (length zs) (subst AreLines (sym front) a)) in
    let size = length-append zs (y ∷ ys) in
    let longer : take (length zs + 1) (zs ++ y ∷ ys) ≡ zs ++ y ∷ [] = take-append-add zs (y ∷ ys) 1 in
    let stuck = no_step zs i.0 y (text_step i.0 y) i.1.reads refl (λ b. h.fault.stops (omega (arith, size)) (subst (λ (xs : List (Option (List ℕ))). Begins AreLines xs) (sym longer) b)) in
    inl (stops_inside outer nest leave cause n at zs y ys i.0 i.1 stuck)

pub nested_stop : {S C : Type 0} (outer : S → Option (List ℕ) → Result S C) (nest : State → S) (leave : Composite → S) (cause : C) → Nests outer nest leave cause
    → (at : ℕ) (ys : List (Option (List ℕ))) (k : ℕ) → IsFirstStop ys k → Stops outer nest cause at ys k
nested_stop outer nest leave cause n at ys k h =
    let parts = take-append-drop k ys in
    let size : length (take k ys) ≡ k = length-take-le k ys h.fault.within in
    let moved_up : IsFirstStop (take k ys ++ drop k ys) (length (take k ys)) = subst (λ (j : ℕ). IsFirstStop (take k ys ++ drop k ys) j) (sym size) (subst (λ (xs : List (Option (List ℕ))). IsFirstStop xs k) (sym parts) h) in
    let s = stop_by outer nest leave cause n at (take k ys) (drop k ys) moved_up in
    subst (λ (j : ℕ). Stops outer nest cause at ys j) size (subst (λ (xs : List (Option (List ℕ))). Stops outer nest cause at xs (length (take k ys))) parts s)
