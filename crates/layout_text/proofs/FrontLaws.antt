-- A layout at the front of a text: where it ends, and the first line with which none goes on.
use Rattle.std.proofs.Common.{◌≡◌, ℕ, ◌+◌, ◌-◌, ◌<◌, ◌≤◌, Bool, true, false, cond, eqb, List, [], ◌∷◌, ◌++◌, length, map, take, drop, get_or, Option, Some, None, Result, Ok, Err, refl, sym, ap, subst, ◌∙◌, append_assoc, arith, inl, inr}
use denote.Ref.{Bor}
use Rattle.std.specs.Prelude.{option_and_then, MatchResult}
use Rattle.std.specs.Option.{option_map}
use Rattle.std.specs.Result.{IsErr, IsErrAnd}
use Rattle.std.proofs.lemmas.Bool.{eqb-true}
use Rattle.std.proofs.lemmas.Grind.{flat_map-append}
use Rattle.std.proofs.lemmas.List.{append-nil, take-append-drop, take-take, take-append-le, append_cancel_left, map-append, length-map, length-append, take_all}
use Rattle.std.proofs.Math.Seq.{take-length, take-append_seam, get_or-append_seam}
use Rattle.flr_base.specs.Faults.{Begins, IsFirstFault}
use Rattle.flr_base.proofs.Machine.{run, run-append_some, fault_inside, fault_at_end}
use Rattle.flr_base.proofs.Reader.{ok_of, ok_step, run_ok}
use Rattle.flr_base.proofs.Spelled.{line_by}
use Rattle.text_words.specs.Lines.{onto_line, lines_of, text_of, unended}
use Rattle.text_words.specs.Pieces.{Lacks, AllLack}
use Rattle.text_words.proofs.LineLaws.{text-lines}
use Rattle.composite_layout.specs.declared.component.Component.{Component}
use Rattle.composite_layout.specs.Layouts.{Composite, IsValid}
use Rattle.layout_text.specs.declared.line.Head.{Head}
use Rattle.layout_text.specs.declared.line.Line.{Line}
use Rattle.layout_text.specs.declared.line.Line.TheVariants as lines
use Rattle.layout_text.specs.declared.place.Place.{Place}
use Rattle.layout_text.specs.declared.place.Phase.{Phase}
use Rattle.layout_text.specs.declared.place.Phase.TheVariants.{Start, Going}
use Rattle.layout_text.specs.declared.place.Unfit.{Unfit}
use Rattle.layout_text.specs.declared.error.TextError.{TextError}
use Rattle.layout_text.specs.declared.error.TextError.TheVariants.{Bad, NoMemory}
use Rattle.layout_text.specs.Texts.{head_line, component_line, text_of_layout}
use Rattle.layout_text.specs.LineWords.{line_of}
use Rattle.layout_text.specs.Spelling.{IsSpellable, Spells, AreLines, IsLayoutFault, IsNoMemory, StandsFirst, IsFirstStop, HasLine, IsFrontFault}
use Rattle.layout_text.specs.Viable.{head_of, layout_lines, layout_of, layout_at, fits, moved, begin, is_good, State, going, stated, step, IsSmall, complete}
use Rattle.layout_text.proofs.Coming.{fits_left}
use Rattle.layout_text.proofs.Lasting.{moved_left, decide}
use Rattle.layout_text.proofs.LineTexts.{print}
use Rattle.layout_text.proofs.WordLaws.{lines_of-layout, texts_lack}
use Rattle.layout_text.proofs.HeadLaws.{from_good, few}
use Rattle.layout_text.proofs.ReadLaws.{start, text_step, text_step_is, reads_texts, AreTexts, to_texts, from_texts, same_fault, ReadAs, read_as, found, printed, went, placed, one_layout}

-- ---- no layout's lines are the beginning of another's

abbrev pub text_run : State → List (Option (List ℕ)) → Option State
text_run s ys = run (ok_step text_step) s ys

no_fit : (p : Place) (seen : List Component) (c : Component) (b : Bool) → fits p seen c ≡ b → p.left ≡ 0 → ok_of (stated (cond b (going (moved p c)) (Err (record {}))) (seen ++ c ∷ [])) ≡ None
no_fit p seen c true e none = let some = fits_left p seen c e in absurd (omega (arith, some, none))
no_fit p seen c false e none = refl

-- no line comes behind the last component
full_line : (p : Place) (seen : List Component) (o : Option Line) → p.left ≡ 0 → ok_of (line_by (record {}) (step (Going p, seen)) o) ≡ None
full_line p seen None none = refl
full_line p seen (Some (lines.Head h)) none = refl
full_line p seen (Some (lines.Component c)) none = no_fit p seen c (fits p seen c) refl none

pub full_stuck : (p : Place) (seen : List Component) (y : Option (List ℕ)) → p.left ≡ 0 → ok_step text_step (Going p, seen) y ≡ None
full_stuck p seen y none = full_line p seen (line_of y) none

-- the lines are those of the layout, and lead to its end
pub record Full (ys : List (Option (List ℕ))) (l : Composite) (p : Place) : Type 0 where
  pub spellable : IsSpellable l
  pub lines : ys ≡ map print (layout_lines l)
  pub reads : text_run start ys ≡ Some (Going p, l.components)
  pub head : p.head ≡ head_of l
  pub left : p.left ≡ 0

full_by : (ys : List (Option (List ℕ))) (l : Composite) (s : State) → IsSpellable l → ys ≡ map print (layout_lines l) → text_run start ys ≡ Some s → ReadAs l s → (p : Place) × Full ys l p
full_by ys l s sp e r a = (a.0, record { spellable = sp; lines = e; reads = r ∙ ap (λ (u : State). Some u) a.1; head = a.2; left = a.3 })

pub full : (ys : List (Option (List ℕ))) (a : AreLines ys) → (p : Place) × Full ys a.0 p
full ys a =
    let e : ys ≡ map print (layout_lines a.0) = a.2 ∙ sym (printed a.0) in
    let r = reads_texts.all ys (to_texts ys a) in
    full_by ys a.0 r.0 a.1 e r.1 (read_as ys a.0 r.0 a.1 e r.1)

-- nothing comes behind a layout's last line
pub ends_there : (p : Place) (seen : List Component) (y : Option (List ℕ)) (more : List (Option (List ℕ))) (s : State) → p.left ≡ 0 → text_run (Going p, seen) (y ∷ more) ≡ Some s → ⊥
ends_there p seen y more s none e =
    let dead : text_run (Going p, seen) (y ∷ more) ≡ None = ap (λ (o : Option State). option_and_then (λ t. text_run t more) o) (full_stuck p seen y none) in
    let clash : None ≡ Some s = sym dead ∙ e in
    absurd cc

pub prefix_free : (xs more : List (Option (List ℕ))) → AreLines xs → AreLines (xs ++ more) → more ≡ []
prefix_free xs [] a b = refl
prefix_free xs (y ∷ more) a b =
    let f = full xs a in
    let r = reads_texts.all (xs ++ y ∷ more) (to_texts (xs ++ y ∷ more) b) in
    absurd (ends_there f.0 a.0.components y more r.0 f.1.left (sym (run-append_some (ok_step text_step) start (Going f.0, a.0.components) xs (y ∷ more) f.1.reads) ∙ r.1))

-- ---- the layout of a state

at_by : (p : Place) (seen : List Component) (l : Composite) (b : Bool) → eqb p.left 0 ≡ b → layout_at (Going p, seen) ≡ Some l → (p.left ≡ 0) × (layout_of p.head seen ≡ l)
at_by p seen l true e h = let left = eqb-true p.left 0 e in let is : layout_at (Going p, seen) ≡ Some (layout_of p.head seen) = rw e refl in let same : Some (layout_of p.head seen) ≡ Some l = sym is ∙ h in (left, cc)
at_by p seen l false e h = let is : layout_at (Going p, seen) ≡ None = rw e refl in let clash : None ≡ Some l = sym is ∙ h in absurd cc

pub layout_there : (s : State) (l : Composite) → layout_at s ≡ Some l → (p : Place) × (s ≡ (Going p, s.1)) × (p.left ≡ 0) × (layout_of p.head s.1 ≡ l)
layout_there (Start, seen) l e = absurd cc
layout_there (Going p, seen) l e = let a = at_by p seen l (eqb p.left 0) refl e in (p, refl, a.0, a.1)

none_left : (p : Place) (seen : List Component) → layout_at (Going p, seen) ≡ None → p.left ≡ 0 → ⊥
none_left p seen e none =
    let zero : eqb p.left 0 ≡ true = rw none refl in
    let is : layout_at (Going p, seen) ≡ Some (layout_of p.head seen) = rw zero refl in
    let clash : Some (layout_of p.head seen) ≡ None = sym is ∙ e in
    absurd cc

-- lines that lead to a state in which more has to come are no layout's
pub not_whole : (ys : List (Option (List ℕ))) (s : State) → text_run start ys ≡ Some s → layout_at s ≡ None → AreLines ys → ⊥
not_whole ys s r e a =
    let f = full ys a in
    let there : Some s ≡ Some (Going f.0, a.0.components) = sym r ∙ f.1.reads in
    let same : s ≡ (Going f.0, a.0.components) = cc in
    none_left f.0 a.0.components (sym (ap layout_at same) ∙ e) f.1.left

-- ---- the first stop

-- a front of a layout's lines begins it
begins_front : (ys : List (Option (List ℕ))) (a b : ℕ) → a ≤ b → AreLines (take b ys) → Begins AreLines (take a ys)
begins_front ys a b le h =
    let parts : take a ys ++ drop a (take b ys) ≡ take b ys = subst (λ (zs : List (Option (List ℕ))). zs ++ drop a (take b ys) ≡ take b ys) (take-take a b ys le) (take-append-drop a (take b ys)) in
    (drop a (take b ys), subst AreLines (sym parts) h)

no_more : (xs ys : List (Option (List ℕ))) → xs ++ ys ≡ [] → xs ≡ []
no_more [] ys e = refl
no_more (x ∷ xs) ys e = absurd cc

-- where lines can go on to a layout's, a layout of fewer of them is one of all
only_front : (ys : List (Option (List ℕ))) (n at : ℕ) → n ≤ at → Begins AreLines (take at ys) → AreLines (take n ys) → AreLines (take at ys)
only_front ys n at le (more, b) a =
    let zs = drop n (take at ys) in
    let parts : take n ys ++ zs ≡ take at ys = subst (λ (xs : List (Option (List ℕ))). xs ++ zs ≡ take at ys) (take-take n at ys le) (take-append-drop n (take at ys)) in
    let whole : AreLines (take n ys ++ (zs ++ more)) = subst AreLines (sym (ap (λ (xs : List (Option (List ℕ))). xs ++ more) parts) ∙ append_assoc (take n ys) zs more) b in
    let none : zs ≡ [] = no_more zs more (prefix_free (take n ys) (zs ++ more) a whole) in
    subst AreLines (sym (append-nil (take n ys)) ∙ ap (λ (xs : List (Option (List ℕ))). take n ys ++ xs) (sym none) ∙ parts) a

-- no layout ends before the first fault, where the lines before it lead to a state in which more has to come
no_front : (ys : List (Option (List ℕ))) (at : ℕ) (s : State) → IsFirstFault AreLines ys at → text_run start (take at ys) ≡ Some s → layout_at s ≡ None → (n : ℕ) → AreLines (take n ys) → ⊥
no_front ys at s f r e n a =
    elim (decide n at) as (λ _. ⊥) [
      | inl le ↦ not_whole (take at ys) s r e (only_front ys n at le f.begins a)
      | inr lt ↦ elim (decide (length ys) at) as (λ _. ⊥) [
        | inl le ↦ (let within = f.within in f.none (subst AreLines (take_all n ys (omega (arith, lt, le))) a))
        | inr more ↦ f.stops more (begins_front ys (at + 1) n (omega (arith, lt)) a)
      ]
    ]

first_stop : (ys : List (Option (List ℕ))) (at : ℕ) (s : State) → IsFirstFault AreTexts ys at → text_run start (take at ys) ≡ Some s → layout_at s ≡ None → IsFirstStop ys at
first_stop ys at s f r e =
    let g = same_fault AreTexts AreLines ys at from_texts to_texts f in
    record { fault = g; whole = no_front ys at s g r e }

-- the lines lead to a state that the next one doesn't fit
stop_at : (zs : List (Option (List ℕ))) (y : Option (List ℕ)) (ys : List (Option (List ℕ))) (s : State) → text_run start zs ≡ Some s → layout_at s ≡ None → text_step s y ≡ Err (record {}) → IsFirstStop (zs ++ y ∷ ys) (length zs)
stop_at zs y ys s r e stuck =
    let front : take (length zs) (zs ++ y ∷ ys) ≡ zs = take-append_seam zs (y ∷ ys) in
    let reaches : text_run start (take (length zs) (zs ++ y ∷ ys)) ≡ Some s = ap (text_run start) front ∙ r in
    let there : get_or (zs ++ y ∷ ys) (length zs) y ≡ y = get_or-append_seam zs y ys y in
    let dead : ok_step text_step s (get_or (zs ++ y ∷ ys) (length zs) y) ≡ None = ap (λ (x : Option (List ℕ)). ok_step text_step s x) there ∙ ap (λ (x : Result State Unfit). ok_of x) stuck in
    let size = length-append zs (y ∷ ys) in
    first_stop (zs ++ y ∷ ys) (length zs) s (fault_inside reads_texts s (zs ++ y ∷ ys) (length zs) y (omega (arith, size)) reaches dead) reaches e

-- the lines end where more has to come
stop_early : (zs : List (Option (List ℕ))) (s : State) → text_run start zs ≡ Some s → layout_at s ≡ None → IsFirstStop zs (length zs)
stop_early zs s r e =
    first_stop zs (length zs) s (fault_at_end reads_texts s zs r (λ a. not_whole zs s r e (from_texts zs a))) (ap (text_run start) (take-length zs) ∙ r) e

-- ---- a text and the lines that were taken from its front

abbrev pub ended : List (List ℕ) → List (Option (List ℕ))
ended ls = map (λ line. Some line) ls

front_texts : (xs ys : List (List ℕ)) → ended xs ≡ ended ys → xs ≡ ys
front_texts [] [] e = refl
front_texts [] (y ∷ ys) e = absurd cc
front_texts (x ∷ xs) [] e = absurd cc
front_texts (x ∷ xs) (y ∷ ys) e =
    let head : x ≡ y = cc in
    let tail : ended xs ≡ ended ys = cc in
    rw (head, front_texts xs ys tail) refl

-- ---- for the loop

-- no more lines are taken than a layout has
abbrev pub IsEarly : ℕ → Phase → Type 0
IsEarly taken Start = taken ≡ 0
IsEarly taken (Going p) = taken + p.left ≤ 65536

-- the line stands first, and more behind it
abbrev pub IsNext : List ℕ → List ℕ → List ℕ → Type 0
IsNext rest line more = (lines_of rest ≡ Some line ∷ lines_of more) × (rest ≡ line ++ 10 ∷ more)

-- the lines at the front that were taken, and the state to which they lead
pub record Taken (text : List ℕ) (s : State) (rest : List ℕ) (front : List (List ℕ)) : Type 0 where
  pub whole : text ≡ text_of front ++ rest
  pub lines : lines_of text ≡ ended front ++ lines_of rest
  pub reads : text_run start (ended front) ≡ Some s

pub record SoFar (text : List ℕ) (taken : ℕ) (phase : Phase) (seen : List Component) (rest : List ℕ) : Type 0 where
  pub front : List (List ℕ)
  pub lines : Taken text (phase, seen) rest front
  pub count : length front ≡ taken
  pub small : IsSmall phase
  pub early : IsEarly taken phase
  pub more : complete phase ≡ None

layout_none : (phase : Phase) (seen : List Component) → complete phase ≡ None → layout_at (phase, seen) ≡ None
layout_none phase seen e = ap (λ (o : Option Head). option_map (λ h. layout_of h seen) o) e

taken_more : (text : List ℕ) (s t : State) (rest line more : List ℕ) (front : List (List ℕ)) → Taken text s rest front → IsNext rest line more → text_step s (Some line) ≡ Ok t → Taken text t more (front ++ line ∷ [])
taken_more text s t rest line more front h (parts, bytes) go =
    let joined : text_of (front ++ line ∷ []) ++ more ≡ text_of front ++ (line ++ 10 ∷ more) = ap (λ (xs : List ℕ). xs ++ more) (flat_map-append (λ l. l ++ 10 ∷ []) front (line ∷ [])) ∙ simp append_assoc in
    let ends : ended (front ++ line ∷ []) ≡ ended front ++ Some line ∷ [] = map-append (λ (l : List ℕ). Some l) front (line ∷ []) in
    let last : text_run s (Some line ∷ []) ≡ Some t = ap (λ (r : Result State Unfit). option_and_then (λ u. text_run u []) (ok_of r)) go in
    let lines_join : ended front ++ Some line ∷ lines_of more ≡ ended (front ++ line ∷ []) ++ lines_of more = sym (append_assoc (ended front) (Some line ∷ []) (lines_of more)) ∙ ap (λ (ys : List (Option (List ℕ))). ys ++ lines_of more) (sym ends) in
    record {
      whole = h.whole ∙ ap (λ (xs : List ℕ). text_of front ++ xs) bytes ∙ sym joined;
      lines = h.lines ∙ ap (λ (ys : List (Option (List ℕ))). ended front ++ ys) parts ∙ lines_join;
      reads = ap (text_run start) ends ∙ run-append_some (ok_step text_step) start s (ended front) (Some line ∷ []) h.reads ∙ last;
    }

-- all components have come
taken_whole : (text : List ℕ) (p : Place) (seen : List Component) (rest : List ℕ) (front : List (List ℕ)) → Taken text (Going p, seen) rest front → p.left ≡ 0 → StandsFirst text (layout_of p.head seen) rest
taken_whole text p seen rest front h none =
    let f = found (ended front) p seen (run_ok text_step 0 start (Going p, seen) (ended front) h.reads) none in
    let l = layout_of p.head seen in
    let same : text_of front ≡ text_of_layout l = ap text_of (front_texts front (head_line l ∷ map component_line l.components) (f.1 ∙ printed l)) in
    (f.0, h.whole ∙ ap (λ (xs : List ℕ). xs ++ rest) same)

-- the line fits nothing
taken_fault : (text : List ℕ) (taken : ℕ) (s : State) (rest : List ℕ) (front : List (List ℕ)) (y : Option (List ℕ)) (ys : List (Option (List ℕ))) → Taken text s rest front → length front ≡ taken → layout_at s ≡ None → lines_of rest ≡ y ∷ ys → text_step s y ≡ Err (record {}) → IsFrontFault text (Bad (taken + 1))
taken_fault text taken s rest front y ys h count none e stuck =
    let lines_are : lines_of text ≡ ended front ++ y ∷ ys = h.lines ∙ ap (λ (zs : List (Option (List ℕ))). ended front ++ zs) e in
    let size = length-map front (λ (l : List ℕ). Some l) in
    let at : length (ended front) ≡ taken + 1 - 1 = omega (arith, size, count) in
    (omega arith, subst (λ (n : ℕ). IsFirstStop (lines_of text) n) at (subst (λ (zs : List (Option (List ℕ))). IsFirstStop zs (length (ended front))) (sym lines_are) (stop_at (ended front) y ys s h.reads none stuck)))

taken_early : (text : List ℕ) (taken : ℕ) (s : State) (rest : List ℕ) (front : List (List ℕ)) → Taken text s rest front → length front ≡ taken → layout_at s ≡ None → lines_of rest ≡ [] → IsFrontFault text (Bad (taken + 1))
taken_early text taken s rest front h count none e =
    let lines_are : lines_of text ≡ ended front = h.lines ∙ ap (λ (zs : List (Option (List ℕ))). ended front ++ zs) e ∙ append-nil (ended front) in
    let size = length-map front (λ (l : List ℕ). Some l) in
    let at : length (ended front) ≡ taken + 1 - 1 = omega (arith, size, count) in
    (omega arith, subst (λ (n : ℕ). IsFirstStop (lines_of text) n) at (subst (λ (zs : List (Option (List ℕ))). IsFirstStop zs (length (ended front))) (sym lines_are) (stop_early (ended front) s h.reads none)))

early_step : (taken : ℕ) (phase : Phase) (seen : List Component) (x : Line) (after' : Phase) (seen' : List Component) → IsEarly taken phase → step (phase, seen) x ≡ Ok (after', seen') → IsEarly (taken + 1) after'
early_step taken Start seen (lines.Head h) after' seen' k e =
    let w = went (begin h) seen (after', seen') (is_good h) (ap (λ (r : Result State Unfit). ok_of r) e) in
    let g = from_good h w.passed in
    let enough = g.enough in
    let most_ids = g.few in
    let there : State = (after', seen') in
    let here : State = (Going (begin h), seen) in
    let same : there ≡ here = w.there in
    let is : after' ≡ Going (begin h) = ap (λ (u : State). u.0) same in
    rw is (omega (arith, k, enough, most_ids))
early_step taken Start seen (lines.Component c) after' seen' k e = absurd cc
early_step taken (Going p) seen (lines.Head h) after' seen' k e = absurd cc
early_step taken (Going p) seen (lines.Component c) after' seen' k e =
    let w = went (moved p c) (seen ++ c ∷ []) (after', seen') (fits p seen c) (ap (λ (r : Result State Unfit). ok_of r) e) in
    let some = fits_left p seen c w.passed in
    let left = moved_left p c in
    let there : State = (after', seen') in
    let here : State = (Going (moved p c), seen ++ c ∷ []) in
    let same : there ≡ here = w.there in
    let is : after' ≡ Going (moved p c) = ap (λ (u : State). u.0) same in
    rw is (omega (arith, k, some, left))

pub so_far_first : (text : List ℕ) → SoFar text 0 Start [] text
so_far_first text = record { front = []; lines = record { whole = refl; lines = refl; reads = refl }; count = refl; small = tt; early = refl; more = refl }

-- a line read, and a step made
abbrev Stepped : Phase → List Component → Phase → List Component → List ℕ → Type 0
Stepped phase seen after' seen' line = (x : Line) × (line_of (Some line) ≡ Some x) × (step (phase, seen) x ≡ Ok (after', seen'))

pub so_far_more : (text : List ℕ) (taken : ℕ) (phase after' : Phase) (seen seen' : List Component) (rest line more : List ℕ) → SoFar text taken phase seen rest → IsNext rest line more
    → Stepped phase seen after' seen' line → IsSmall after' → complete after' ≡ None → SoFar text (taken + 1) after' seen' more
so_far_more text taken phase after' seen seen' rest line more h next (x, l, g) small none =
    let count = h.count in
    let size = length-append h.front (line ∷ []) in
    record {
      front = h.front ++ line ∷ [];
      lines = taken_more text (phase, seen) (after', seen') rest line more h.front h.lines next (text_step_is (phase, seen) line x l ∙ g);
      count = omega (arith, count, size);
      small = small;
      early = early_step taken phase seen x after' seen' h.early g;
      more = none;
    }

-- the last component has come
pub so_far_whole : (text : List ℕ) (taken : ℕ) (phase after' : Phase) (seen seen' cs : List Component) (rest line more : List ℕ) (head : Head) → SoFar text taken phase seen rest → IsNext rest line more
    → Stepped phase seen after' seen' line → complete after' ≡ Some head → cs ≡ seen' → StandsFirst text (layout_of head cs) more
so_far_whole text taken phase after' seen seen' cs rest line more head h next (x, l, g) whole same =
    let p = placed after' head whole in
    let reached : text_step (phase, seen) (Some line) ≡ Ok (Going p.0, seen') = text_step_is (phase, seen) line x l ∙ g ∙ ap (λ (q : Phase). Ok (q, seen')) p.1 in
    let t = taken_more text (phase, seen) (Going p.0, seen') rest line more h.front h.lines next reached in
    let w = taken_whole text p.0 seen' more (h.front ++ line ∷ []) t p.2 in
    subst (λ (m : Composite). StandsFirst text m more) (ap (λ (k : Head). layout_of k seen') p.3 ∙ ap (layout_of head) (sym same)) w

unread : (s : State) (o : Option Line) → ((x : Line) → o ≡ Some x → step s x ≡ Err (record {})) → line_by (record {}) (step s) o ≡ Err (record {})
unread s None h = refl
unread s (Some x) h = h x refl

-- the line goes on no valid layout's text
pub so_far_fault : (text : List ℕ) (taken : ℕ) (phase : Phase) (seen : List Component) (rest line more : List ℕ) → SoFar text taken phase seen rest → IsNext rest line more
    → ((x : Line) → line_of (Some line) ≡ Some x → step (phase, seen) x ≡ Err (record {})) → IsFrontFault text (Bad (taken + 1))
so_far_fault text taken phase seen rest line more h next g =
    taken_fault text taken (phase, seen) rest h.front (Some line) (lines_of more) h.lines h.count (layout_none phase seen h.more) next.0 (unread (phase, seen) (line_of (Some line)) g)

-- no further line ends
pub so_far_end : (text : List ℕ) (taken : ℕ) (phase : Phase) (seen : List Component) (rest : List ℕ) → SoFar text taken phase seen rest → lines_of rest ≡ unended rest → IsFrontFault text (Bad (taken + 1))
so_far_end text taken phase seen [] h e = taken_early text taken (phase, seen) [] h.front h.lines h.count (layout_none phase seen h.more) refl
so_far_end text taken phase seen (c ∷ cs) h e = taken_fault text taken (phase, seen) (c ∷ cs) h.front None [] h.lines h.count (layout_none phase seen h.more) e refl

-- a line stands first wherever one was taken
some_first : (text : List ℕ) (s : State) (rest line more : List ℕ) (front : List (List ℕ)) → Taken text s rest front → IsNext rest line more → HasLine (lines_of text)
some_first text s rest line more [] h next = subst HasLine (sym (h.lines ∙ next.0)) tt
some_first text s rest line more (l ∷ ls) h next = subst HasLine (sym h.lines) tt

pub so_far_memory : (text : List ℕ) (taken : ℕ) (phase : Phase) (seen : List Component) (rest line more : List ℕ) → SoFar text taken phase seen rest → IsNext rest line more → HasLine (lines_of text)
so_far_memory text taken phase seen rest line more h next = some_first text (phase, seen) rest line more h.front h.lines next

pub next_shorter : (rest line more : List ℕ) → IsNext rest line more → length more < length rest
next_shorter rest line more next =
    let size = ap (λ (xs : List ℕ). length xs) next.1 in
    let parts = length-append line (10 ∷ more) in
    omega (arith, size, parts)

-- ---- the clauses

-- the lines of a layout, without their ends
abbrev pub texts : Composite → List (List ℕ)
texts l = head_line l ∷ map component_line l.components

abbrev pub are_lines : (l : Composite) → IsSpellable l → AreLines (ended (texts l))
are_lines l s = (l, s, refl)

lines_first : (line rest : List ℕ) → Lacks 10 line → lines_of (line ++ 10 ∷ rest) ≡ Some line ∷ lines_of rest
lines_first [] rest h = refl
lines_first (c ∷ cs) rest h = rw h.0 (ap (onto_line c) (lines_first cs rest h.1))

pub lines_front : (ls : List (List ℕ)) (rest : List ℕ) → AllLack 10 ls → lines_of (text_of ls ++ rest) ≡ ended ls ++ lines_of rest
lines_front [] rest h = refl
lines_front (l ∷ ls) rest h =
    let joined : (l ++ 10 ∷ []) ++ text_of ls ++ rest ≡ l ++ 10 ∷ (text_of ls ++ rest) = append_assoc (l ++ 10 ∷ []) (text_of ls) rest ∙ append_assoc l (10 ∷ []) (text_of ls ++ rest) in
    ap lines_of joined ∙ lines_first l (text_of ls ++ rest) h.0 ∙ ap (λ (xs : List (Option (List ℕ))). Some l ∷ xs) (lines_front ls rest h.1)

pub first_lines : (text : List ℕ) (l : Composite) (rest : List ℕ) → StandsFirst text l rest → lines_of text ≡ ended (texts l) ++ lines_of rest
first_lines text l rest (s, e) = ap lines_of e ∙ lines_front (texts l) rest (texts_lack l)

pub count_texts : (l : Composite) → length (ended (texts l)) ≡ length l.components + 1
count_texts l =
    let some = length-map (texts l) (λ (t : List ℕ). Some t) in
    let size = length-map l.components component_line in
    omega (arith, some, size)

-- of two layouts' lines that begin the same lines none is longer
same_front : (xs ys tail more : List (Option (List ℕ))) → AreLines xs → AreLines ys → xs ++ tail ≡ ys ++ more → length xs ≤ length ys → xs ≡ ys
same_front xs ys tail more a b e le =
    let front : xs ≡ take (length xs) ys = sym (take-append_seam xs tail) ∙ ap (take (length xs)) e ∙ take-append-le (length xs) ys more le in
    let parts : xs ++ drop (length xs) ys ≡ ys = ap (λ (zs : List (Option (List ℕ))). zs ++ drop (length xs) ys) front ∙ take-append-drop (length xs) ys in
    let none : drop (length xs) ys ≡ [] = prefix_free xs (drop (length xs) ys) a (subst AreLines (sym parts) b) in
    sym (append-nil xs) ∙ ap (λ (zs : List (Option (List ℕ))). xs ++ zs) (sym none) ∙ parts

same_fronts : (xs ys tail more : List (Option (List ℕ))) → AreLines xs → AreLines ys → xs ++ tail ≡ ys ++ more → xs ≡ ys
same_fronts xs ys tail more a b e =
    elim (decide (length xs) (length ys)) as (λ _. xs ≡ ys) [
      | inl le ↦ same_front xs ys tail more a b e le
      | inr lt ↦ sym (same_front ys xs more tail b a (sym e) (omega (arith, lt)))
    ]

same_text : (l m : Composite) → ended (texts l) ≡ ended (texts m) → text_of_layout l ≡ text_of_layout m
same_text l m e = text-lines (text_of_layout l) (texts m) (lines_of-layout l ∙ e)

-- one layout stands first
pub one_front : (text : List ℕ) (l m : Composite) (rest more : List ℕ) → StandsFirst text l rest → StandsFirst text m more → (l ≡ m) × (rest ≡ more)
one_front text l m rest more a b =
    let lines_are = sym (first_lines text l rest a) ∙ first_lines text m more b in
    let same = same_text l m (same_fronts (ended (texts l)) (ended (texts m)) (lines_of rest) (lines_of more) (are_lines l a.0) (are_lines m b.0) lines_are) in
    (one_layout (text_of_layout l) l m (a.0, refl) (b.0, same), append_cancel_left (text_of_layout l) rest more (sym a.1 ∙ b.1 ∙ ap (λ (t : List ℕ). t ++ more) (sym same)))

-- a text that ends with its layout spells it
pub whole_spells : (text : List ℕ) (l : Composite) (rest : List ℕ) → StandsFirst text l rest → rest ≡ [] → Spells text l
whole_spells text l rest (s, e) none = (s, e ∙ ap (λ (xs : List ℕ). text_of_layout l ++ xs) none ∙ append-nil (text_of_layout l))

some_line : (c : ℕ) (cs : List ℕ) (b : Bool) (xs : List (Option (List ℕ))) → (y : Option (List ℕ)) × (ys : List (Option (List ℕ))) × (cond b (Some [] ∷ lines_of cs) (onto_line c xs) ≡ y ∷ ys)
some_line c cs true xs = (Some [], lines_of cs, refl)
some_line c cs false [] = (None, [], refl)
some_line c cs false (None ∷ xs) = (None, xs, refl)
some_line c cs false (Some l ∷ xs) = (Some (c ∷ l), xs, refl)

behind_by : (zs : List (Option (List ℕ))) (y : Option (List ℕ)) (ys : List (Option (List ℕ))) → AreLines zs → IsFirstFault AreLines (zs ++ y ∷ ys) (length zs)
behind_by zs y ys a =
    let f = full zs a in
    let s : State = (Going f.0, a.0.components) in
    let reaches : text_run start (take (length zs) (zs ++ y ∷ ys)) ≡ Some s = ap (text_run start) (take-append_seam zs (y ∷ ys)) ∙ f.1.reads in
    let stuck : ok_step text_step s (get_or (zs ++ y ∷ ys) (length zs) y) ≡ None = full_stuck f.0 a.0.components (get_or (zs ++ y ∷ ys) (length zs) y) f.1.left in
    let size = length-append zs (y ∷ ys) in
    same_fault AreTexts AreLines (zs ++ y ∷ ys) (length zs) from_texts to_texts (fault_inside reads_texts s (zs ++ y ∷ ys) (length zs) y (omega (arith, size)) reaches stuck)

pub behind_text : (text : List ℕ) (l : Composite) (rest : List ℕ) → StandsFirst text l rest → (rest ≡ [] → ⊥) → IsLayoutFault text (Bad (length l.components + 2))
behind_text text l [] h some = absurd (some refl)
behind_text text l (c ∷ cs) h some =
    let y = some_line c cs (eqb c 10) (lines_of cs) in
    let lines_are : lines_of text ≡ ended (texts l) ++ y.0 ∷ y.1 = first_lines text l (c ∷ cs) h ∙ ap (λ (zs : List (Option (List ℕ))). ended (texts l) ++ zs) y.2 in
    let size = count_texts l in
    let at : length (ended (texts l)) ≡ length l.components + 2 - 1 = omega (arith, size) in
    (omega arith, subst (λ (n : ℕ). IsFirstFault AreLines (lines_of text) n) at (subst (λ (zs : List (Option (List ℕ))). IsFirstFault AreLines zs (length (ended (texts l)))) (sym lines_are) (behind_by (ended (texts l)) y.0 y.1 (are_lines l h.0))))

pub fault_of_front : (text : List ℕ) (e : TextError) → IsFrontFault text e → IsLayoutFault text e
fault_of_front text (Bad line) h = (h.0, h.1.fault)
fault_of_front text NoMemory h = h

pub few_components : (l : Composite) → IsValid l → length l.components < 65536
few_components l v = let some = few l v in let most_ids = v.few in omega (arith, some, most_ids)

pub front_again : (text : List ℕ) (r : Result (Composite × Bor (List ℕ)) TextError) → MatchResult r (λ found. StandsFirst text found.0 found.1.now) (IsFrontFault text)
    → (l : Composite) (rest : List ℕ) → StandsFirst text l rest → MatchResult r (λ found. (found.0 ≡ l) × (found.1.now ≡ rest)) IsNoMemory
front_again text (Ok found) h l rest s = one_front text found.0 l found.1.now rest h s
front_again text (Err (Bad line)) h l rest s =
    let front : take (length (ended (texts l))) (lines_of text) ≡ ended (texts l) = ap (take (length (ended (texts l)))) (first_lines text l rest s) ∙ take-append_seam (ended (texts l)) (lines_of rest) in
    h.1.whole (length (ended (texts l))) (subst AreLines (sym front) (are_lines l s.0))
front_again text (Err NoMemory) h l rest s = tt

-- the layout is that of the head and the components
pub stands_same : (text : List ℕ) (l m : Composite) (rest : List ℕ) → l ≡ m → StandsFirst text m rest → StandsFirst text l rest
stands_same text l m rest e s = subst (λ (k : Composite). StandsFirst text k rest) (sym e) s

-- memory ran out behind a line
pub memory_behind : {A : Type 0} (P : A → Type 0) (text : List ℕ) (r : Result A TextError) → IsErr r × IsErrAnd r (λ e. e ≡ NoMemory) → HasLine (lines_of text) → MatchResult r P (IsFrontFault text)
memory_behind P text (Ok x) h m = absurd h.1
memory_behind P text (Err e) h m = subst (λ (f : TextError). IsFrontFault text f) (sym h.1) m
