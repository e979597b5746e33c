-- The reader finds the first line at which no valid layout's text goes on.
use Rattle.std.proofs.Common.{◌≡◌, ℕ, ◌+◌, ◌^◌, ◌<◌, ◌≤◌, Bool, true, false, cond, eqb, List, [], ◌∷◌, ◌++◌, length, map, Option, Some, None, Result, Ok, Err, refl, sym, ap, subst, ◌∙◌, append_assoc, arith}
use Rattle.std.specs.Prelude.{option_and_then, MatchResult}
use Rattle.std.specs.List.{AllByRecursion}
use Rattle.std.proofs.lemmas.Bool.{cond_both, eqb-true}
use Rattle.std.proofs.lemmas.List.{append-nil}
use Rattle.flr_base.specs.Faults.{IsFirstFault}
use Rattle.flr_base.specs.Reading.{reads}
use Rattle.flr_base.specs.declared.reply.ObjectId.{ObjectId}
use Rattle.flr_base.proofs.Machine.{run, Reads}
use Rattle.flr_base.proofs.Reader.{ok_of, ok_step, read_stands, ok_run, run_ok}
use Rattle.flr_base.proofs.Residual.{Residual, Leads, residual_reads}
use Rattle.flr_base.proofs.Spelled.{Spelled, line_by, line_step, line_reads}
use Rattle.text_words.specs.Items.{IsObjectItem}
use Rattle.text_words.specs.Lines.{lines_of}
use Rattle.text_words.proofs.LineLaws.{text-lines}
use Rattle.composite_layout.specs.declared.component.Component.{Component}
use Rattle.composite_layout.specs.declared.component.State.TheVariants as states
use Rattle.composite_layout.specs.Layouts.{eof, Composite, Mirror, Tiles, AreOf, Ascend, parts_of, IsShaped, IsObject}
use Rattle.composite_layout.proofs.Tiling.{within}
use Rattle.layout_text.specs.declared.line.Head.{Head}
use Rattle.layout_text.specs.declared.line.Line.{Line}
use Rattle.layout_text.specs.declared.line.Line.TheVariants as lines
use Rattle.layout_text.specs.declared.place.Place.{Place}
use Rattle.layout_text.specs.declared.place.Phase.{Phase}
use Rattle.layout_text.specs.declared.place.Phase.TheVariants.{Start, Going}
use Rattle.layout_text.specs.declared.place.Unfit.{Unfit}
use Rattle.layout_text.specs.Texts.{head_line, component_line, text_of_layout}
use Rattle.layout_text.specs.LineWords.{line_of}
use Rattle.layout_text.specs.declared.error.TextError.{TextError}
use Rattle.layout_text.specs.declared.error.TextError.TheVariants.{Bad, NoMemory}
use Rattle.layout_text.specs.Spelling.{IsSpellable, Spells, AreLines, IsLayoutFault, IsNoMemory}
use Rattle.layout_text.specs.Viable.{head_of, component, layout_lines, AreLayout, can_go_on, fits, moved, begin, is_good, State, going, next, stated, step, layout_of, complete}
use Rattle.layout_text.proofs.Coming.{CanGoOn, from_test, to_test, Rest, alive, from_fits, to_fits, back, on, moved_end, fits_left}
use Rattle.layout_text.proofs.Lasting.{Keeps, keeps, lives, moved_left, moved_head, ended}
use Rattle.layout_text.proofs.LineTexts.{print, IsHeld, IsHeldHead, IsHeldLine, one_spelling}
use Rattle.layout_text.proofs.WordLaws.{lines_of-layout}
use Rattle.layout_text.proofs.HeadLaws.{HasSmall, into, few, good, from_good, out, begins}

-- ---- the machine over records

abbrev pub LineRest : State → List Line → Type 0
LineRest (Start, seen) ls = AreLayout ls
LineRest (Going p, seen) ls = (cs : List Component) × Rest p seen cs × (ls ≡ map component cs)

abbrev pub LineKeeps : State → Type 0
LineKeeps (Start, seen) = seen ≡ []
LineKeeps (Going p, seen) = Keeps p seen

abbrev pub start : State
start = (Start, [])

-- one step to a place
pub record Went (b : Bool) (p : Place) (seen : List Component) (t : State) : Type 0 where
  pub passed : b ≡ true
  pub viable : CanGoOn p
  pub there : t ≡ (Going p, seen)

went_on : (p : Place) (seen : List Component) (t : State) (b : Bool) → can_go_on p ≡ b → ok_of (stated (cond b (Ok (Going p)) (Err (record {}))) seen) ≡ Some t → CanGoOn p × (t ≡ (Going p, seen))
went_on p seen t true e h = let same : (Going p, seen) ≡ t = cc in (from_test p e, sym same)
went_on p seen t false e h = absurd cc

pub went : (p : Place) (seen : List Component) (t : State) (b : Bool) → ok_of (stated (cond b (going p) (Err (record {}))) seen) ≡ Some t → Went b p seen t
went p seen t true h = let w = went_on p seen t (can_go_on p) refl h in record { passed = refl; viable = w.0; there = w.1 }
went p seen t false h = absurd cc

goes : (p : Place) (seen : List Component) (b : Bool) → b ≡ true → CanGoOn p → ok_of (stated (cond b (going p) (Err (record {}))) seen) ≡ Some (Going p, seen)
goes p seen b e v = rw (e, to_test p v) refl

pub kept : (s t : State) (x : Line) → LineKeeps s → ok_step step s x ≡ Some t → LineKeeps t
kept (Start, seen) t (lines.Head h) k e =
    let w = went (begin h) seen t (is_good h) e in
    let none : seen ≡ [] = k in
    rw (w.there, none) (begins h (from_good h w.passed) w.viable)
kept (Start, seen) t (lines.Component c) k e = absurd cc
kept (Going p, seen) t (lines.Head h) k e = absurd cc
kept (Going p, seen) t (lines.Component c) k e =
    let w = went (moved p c) (seen ++ c ∷ []) t (fits p seen c) e in
    rw w.there (keeps p seen c k (from_fits p seen c w.passed) w.viable)

-- a head that counts the components is that of their layout
same_head : (h : Head) (cs : List Component) → h.count ≡ length cs → h ≡ head_of (layout_of h cs)
same_head h cs e = ap (λ (n : ℕ). record { generation = h.generation; state = h.state; next_mirror = h.next_mirror; next_counter = h.next_counter; count = n }) e

pub behind : (s t : State) (x : Line) (ls : List Line) → LineKeeps s → ok_step step s x ≡ Some t → LineRest t ls → LineRest s (x ∷ ls)
behind (Start, seen) t (lines.Head h) ls k e r =
    let w = went (begin h) seen t (is_good h) e in
    let m : LineRest (Going (begin h), seen) ls = subst (λ (u : State). LineRest u ls) w.there r in
    let none : seen ≡ [] = k in
    let rest : Rest (begin h) [] m.0 = subst (λ (s : List Component). Rest (begin h) s m.0) none m.1 in
    (layout_of h m.0, out h m.0 (from_good h w.passed) rest, ap (λ (k : Head). lines.Head k ∷ ls) (same_head h m.0 rest.count) ∙ ap (λ (xs : List Line). lines.Head (head_of (layout_of h m.0)) ∷ xs) m.2)
behind (Start, seen) t (lines.Component c) ls k e r = absurd cc
behind (Going p, seen) t (lines.Head h) ls k e r = absurd cc
behind (Going p, seen) t (lines.Component c) ls k e r =
    let w = went (moved p c) (seen ++ c ∷ []) t (fits p seen c) e in
    let m : LineRest (Going (moved p c), seen ++ c ∷ []) ls = subst (λ (u : State). LineRest u ls) w.there r in
    (c ∷ m.0, back p seen m.0 c k.ends (from_fits p seen c w.passed) m.1, ap (λ (xs : List Line). component c ∷ xs) m.2)

abbrev pub Onward : State → Line → List Line → Type 0
Onward s x ls = (t : State) × (ok_step step s x ≡ Some t) × LineRest t ls

onward_head : (seen : List Component) (l : Composite) (x : Line) (ls : List Line) → seen ≡ [] → IsSpellable l → x ∷ ls ≡ layout_lines l → Onward (Start, seen) x ls
onward_head seen l x ls none s e =
    let h = head_of l in
    let head : x ≡ lines.Head h = cc in
    let tail : ls ≡ map component l.components = cc in
    let r = into l s in
    let step_is : ok_step step (Start, seen) x ≡ Some (Going (begin h), seen) = rw head (goes (begin h) seen (is_good h) (good l s) (alive (begin h) [] l.components refl r)) in
    ((Going (begin h), seen), step_is, (l.components, rw none r, tail))

onward_component : (p : Place) (seen : List Component) (cs : List Component) (x : Line) (ls : List Line) → Keeps p seen → Rest p seen cs → x ∷ ls ≡ map component cs → Onward (Going p, seen) x ls
onward_component p seen [] x ls k r e = absurd cc
onward_component p seen (c ∷ cs) x ls k r e =
    let head : x ≡ component c = cc in
    let tail : ls ≡ map component cs = cc in
    let o = on p seen cs c r in
    let viable = alive (moved p c) (seen ++ c ∷ []) cs (moved_end p seen c o.0) o.1 in
    let step_is : ok_step step (Going p, seen) x ≡ Some (Going (moved p c), seen ++ c ∷ []) = rw head (goes (moved p c) (seen ++ c ∷ []) (fits p seen c) (to_fits p seen c o.0) viable) in
    ((Going (moved p c), seen ++ c ∷ []), step_is, (cs, o.1, tail))

pub onward : (s : State) (x : Line) (ls : List Line) → LineKeeps s → LineRest s (x ∷ ls) → Onward s x ls
onward (Start, seen) x ls k r = onward_head seen r.0 x ls k r.1 r.2
onward (Going p, seen) x ls k r = onward_component p seen r.0 x ls k r.1 r.2

-- there is a valid layout
abbrev only : Component
only = record {
  id = 65537;
  mirror = 1;
  flags = record { init = false; stale = false; prefer = false; offline = false; nosync = false };
  extent = record { start = 0; end = eof };
  stripe = record { size = 65536; count = 1 };
  objects = [];
}

abbrev least_layout : Composite
least_layout = record { generation = 1; state = states.Single; next_mirror = 2; next_counter = 2; components = only ∷ [] }

abbrev only_mirror : Mirror
only_mirror = record { id = 1; parts = only ∷ [] }

least_valid : IsSpellable least_layout
least_valid = record {
  valid = record {
    mirrors = only_mirror ∷ [];
    whole = refl;
    ascend = (omega arith, omega arith, (refl, tt), (refl, omega arith, refl, refl), tt);
    numbered = (omega arith, omega arith, refl, tt);
    shaped = (record { id = refl; stripe = record { aligned = refl; least_size = omega arith; most_size = omega arith; least_count = omega arith; most_count = omega arith }; one_each = refl; objects = tt }, tt);
    fresh = refl;
    low = omega arith;
    high = omega arith;
    generation = omega arith;
    below = omega arith;
    few = omega arith;
  };
  generation = omega arith;
  objects = (tt, tt);
}

pub alive_state : (s : State) → LineKeeps s → (ls : List Line) × LineRest s ls
alive_state (Start, seen) k = (layout_lines least_layout, (least_layout, least_valid, refl))
alive_state (Going p, seen) k = let m = lives p seen k in (map component m.0, (m.0, m.1, refl))

pub layout_residual : Residual (ok_step step) start AreLayout LineRest LineKeeps
layout_residual = record {
  first = refl;
  keeps = kept;
  back = behind;
  on = onward;
  lives = alive_state;
  into = λ ls h. h;
  out = λ ls h. h;
}

-- ---- the lines of a layout are held in their types

all_split : {A : Type 0} (P : A → Type 0) (xs ys : List A) → AllByRecursion P (xs ++ ys) → AllByRecursion P xs × AllByRecursion P ys
all_split P [] ys all = (tt, all)
all_split P (x ∷ xs) ys all = let r = all_split P xs ys all.1 in ((all.0, r.0), r.1)

all_join : {A : Type 0} (P : A → Type 0) (xs ys : List A) → AllByRecursion P xs → AllByRecursion P ys → AllByRecursion P (xs ++ ys)
all_join P [] ys a b = b
all_join P (x ∷ xs) ys a b = (a.0, all_join P xs ys a.1 b)

object_items : (os : List ObjectId) → AllByRecursion IsObject os → AllByRecursion (λ o. o.number < 2 ^ 32) os → AllByRecursion IsObjectItem os
object_items [] a b = tt
object_items (o ∷ os) a b = ((let t = a.0.0 in omega (arith, t), b.0), object_items os a.1 b.1)

held : (c : Component) (id : ℕ) → id < 65536 → c.mirror ≡ id → IsShaped c → HasSmall c → c.extent.start < c.extent.end → c.extent.end ≤ eof → IsHeld c
held c id lt is s small long top =
    let i = s.id in
    let size = s.stripe.most_size in
    let count = s.stripe.most_count in
    record {
      id = omega (arith, i, is, lt);
      mirror = omega (arith, is, lt);
      start = omega (arith, long, top);
      end = omega (arith, top);
      size = omega (arith, size);
      count = omega (arith, count);
      objects = object_items c.objects s.objects small;
    }

held_parts : (id at : ℕ) (cs : List Component) → id < 65536 → AreOf id cs → Tiles at cs → AllByRecursion IsShaped cs → AllByRecursion HasSmall cs → AllByRecursion IsHeld cs
held_parts id at [] lt o t s m = tt
held_parts id at (c ∷ cs) lt o t s m =
    let begin_is = t.0 in
    let long = t.1 in
    (held c id lt o.0 s.0 m.0 (omega (arith, begin_is, long)) (within c.extent.end t.2), held_parts id c.extent.end cs lt o.1 t.3 s.1 m.1)

held_mirrors : (last next : ℕ) (ms : List Mirror) → next ≤ 65536 → Ascend last next ms → AllByRecursion IsShaped (parts_of ms) → AllByRecursion HasSmall (parts_of ms) → AllByRecursion IsHeld (parts_of ms)
held_mirrors last next [] le a s m = tt
held_mirrors last next (k ∷ ms) le a s m =
    let shapes = all_split IsShaped k.parts (parts_of ms) s in
    let smalls = all_split HasSmall k.parts (parts_of ms) m in
    let below_next = a.1 in
    all_join IsHeld k.parts (parts_of ms) (held_parts k.id 0 k.parts (omega (arith, below_next, le)) a.2 a.3 shapes.0 smalls.0) (held_mirrors k.id next ms le a.4 shapes.1 smalls.1)

held_components : (l : Composite) → IsSpellable l → AllByRecursion IsHeld l.components
held_components l s =
    let v = s.valid in
    let under = v.below in
    let most_ids = v.few in
    subst (λ (cs : List Component). AllByRecursion IsHeld cs) (sym v.whole)
    (held_mirrors 0 l.next_mirror v.mirrors (omega (arith, under, most_ids)) v.ascend (subst (λ (cs : List Component). AllByRecursion IsShaped cs) v.whole v.shaped) (subst (λ (cs : List Component). AllByRecursion HasSmall cs) v.whole s.objects))

held_head : (l : Composite) → IsSpellable l → IsHeldHead (head_of l)
held_head l s =
    let v = s.valid in
    let under = v.below in
    let most_ids = v.few in
    let lines_few = few l v in
    record { generation = s.generation; mirror = omega (arith, under, most_ids); counter = omega (arith, most_ids); count = omega (arith, lines_few, most_ids) }

held_map : (cs : List Component) → AllByRecursion IsHeld cs → AllByRecursion IsHeldLine (map component cs)
held_map [] all = tt
held_map (c ∷ cs) all = (all.0, held_map cs all.1)

pub held_lines : (ls : List Line) → AreLayout ls → AllByRecursion IsHeldLine ls
held_lines ls (l, s, e) = subst (λ (xs : List Line). AllByRecursion IsHeldLine xs) (sym e) (held_head l s, held_map l.components (held_components l s))

-- ---- the machine over lines of text

abbrev pub text_step : State → Option (List ℕ) → Result State Unfit
text_step s y = line_step line_of (record {}) step s y

abbrev pub LeadsTo : State → List Line → Type 0
LeadsTo s ls = Leads AreLayout LineRest LineKeeps s ls

abbrev pub AreTexts : List (Option (List ℕ)) → Type 0
AreTexts ys = Spelled print AreLayout ys

pub reads_texts : Reads (ok_step (line_step line_of (record {}) step)) start (Spelled print AreLayout) (λ s ys. Spelled print (LeadsTo s) ys)
reads_texts = line_reads step (record {}) start AreLayout LeadsTo line_of print IsHeldLine (residual_reads layout_residual) one_spelling held_lines

-- the lines as records are those as texts
printed_parts : (cs : List Component) → map print (map component cs) ≡ map (λ line. Some line) (map component_line cs)
printed_parts [] = refl
printed_parts (c ∷ cs) = ap (λ (ys : List (Option (List ℕ))). Some (component_line c) ∷ ys) (printed_parts cs)

pub printed : (l : Composite) → map print (layout_lines l) ≡ map (λ line. Some line) (head_line l ∷ map component_line l.components)
printed l = ap (λ (ys : List (Option (List ℕ))). Some (head_line l) ∷ ys) (printed_parts l.components)

pub to_texts : (ys : List (Option (List ℕ))) → AreLines ys → AreTexts ys
to_texts ys (l, s, e) = (layout_lines l, (l, s, refl), e ∙ sym (printed l))

pub from_texts : (ys : List (Option (List ℕ))) → AreTexts ys → AreLines ys
from_texts ys h = (h.1.0, h.1.1, h.2 ∙ ap (map print) h.1.2 ∙ printed h.1.0)

pub same_fault : {A : Type 0} (L M : List A → Type 0) (xs : List A) (at : ℕ) → ((ys : List A) → L ys → M ys) → ((ys : List A) → M ys → L ys) → IsFirstFault L xs at → IsFirstFault M xs at
same_fault L M xs at there back f = record {
  within = f.within;
  begins = (f.begins.0, there _ f.begins.1);
  stops = λ lt h. f.stops lt (h.0, back _ h.1);
  none = λ h. f.none (back xs h);
}

-- ---- what the lines say is what was read

pub bind_some : {S T : Type 0} (f : S → Option T) (o : Option S) (t : T) → option_and_then f o ≡ Some t → (s : S) × (o ≡ Some s) × (f s ≡ Some t)
bind_some f None t e = absurd cc
bind_some f (Some s) t e = (s, refl, e)

step_print : (s : State) (x : Line) → IsHeldLine x → ok_step text_step s (print x) ≡ ok_step step s x
step_print s x k = ap (λ (o : Option Line). ok_of (line_by (record {}) (step s) o)) (one_spelling.again x k)

abbrev AfterAll : Place → List Component → List Component → State → Type 0
AfterAll p seen cs t = (q : Place) × (t ≡ (Going q, seen ++ cs)) × (q.head ≡ p.head) × (q.left + length cs ≡ p.left)

after_all : (p : Place) (seen cs : List Component) (t : State) → AllByRecursion IsHeld cs → run (ok_step text_step) (Going p, seen) (map print (map component cs)) ≡ Some t → AfterAll p seen cs t
after_all p seen [] t all e =
    let same : (Going p, seen) ≡ t = cc in
    (p, rw append-nil (sym same), refl, omega arith)
after_all p seen (c ∷ cs) t all e =
    let b = bind_some (λ u. run (ok_step text_step) u (map print (map component cs))) (ok_step text_step (Going p, seen) (print (component c))) t e in
    let w = went (moved p c) (seen ++ c ∷ []) b.0 (fits p seen c) (sym (step_print (Going p, seen) (component c) all.0) ∙ b.1) in
    let on_from : run (ok_step text_step) (Going (moved p c), seen ++ c ∷ []) (map print (map component cs)) ≡ Some t = subst (λ (u : State). run (ok_step text_step) u (map print (map component cs)) ≡ Some t) w.there b.2 in
    let ih = after_all (moved p c) (seen ++ c ∷ []) cs t all.1 on_from in
    let some = fits_left p seen c w.passed in
    let left = moved_left p c in
    let count = ih.3 in
    (ih.0, subst (λ (xs : List Component). t ≡ (Going ih.0, xs)) (append_assoc seen (c ∷ []) cs) ih.1, ih.2 ∙ moved_head p c, omega (arith, some, left, count))

abbrev pub ReadAs : Composite → State → Type 0
ReadAs l s = (q : Place) × (s ≡ (Going q, l.components)) × (q.head ≡ head_of l) × (q.left ≡ 0)

pub read_as : (ys : List (Option (List ℕ))) (l : Composite) (s : State) → IsSpellable l → ys ≡ map print (layout_lines l) → run (ok_step text_step) start ys ≡ Some s → ReadAs l s
read_as ys l s sp is e =
    let h = head_of l in
    let from_head : run (ok_step text_step) start (print (lines.Head h) ∷ map print (map component l.components)) ≡ Some s = subst (λ (xs : List (Option (List ℕ))). run (ok_step text_step) start xs ≡ Some s) is e in
    let b = bind_some (λ u. run (ok_step text_step) u (map print (map component l.components))) (ok_step text_step start (print (lines.Head h))) s from_head in
    let w = went (begin h) [] b.0 (is_good h) (sym (step_print start (lines.Head h) (held_head l sp)) ∙ b.1) in
    let on_from : run (ok_step text_step) (Going (begin h), []) (map print (map component l.components)) ≡ Some s = subst (λ (u : State). run (ok_step text_step) u (map print (map component l.components)) ≡ Some s) w.there b.2 in
    let a = after_all (begin h) [] l.components s (held_components l sp) on_from in
    let count = a.3 in
    (a.0, a.1, a.2, omega (arith, count))

pub same_layout : (l : Composite) (h : Head) (cs : List Component) → h ≡ head_of l → cs ≡ l.components → layout_of h cs ≡ l
same_layout l h cs a b = rw (a, b) refl

pub found : (ys : List (Option (List ℕ))) (p : Place) (seen : List Component) → reads text_step 0 start ys ≡ Ok (Going p, seen) → p.left ≡ 0 → IsSpellable (layout_of p.head seen) × (ys ≡ map print (layout_lines (layout_of p.head seen)))
found ys p seen e none =
    let stands = read_stands text_step reads_texts ys (Going p, seen) e in
    let leads = stands.1 in
    let is : AreLayout stands.0 = subst AreLayout (append-nil stands.0) (leads.completes [] ([], ended p seen none leads.kept, refl)) in
    let lines_are : ys ≡ map print (layout_lines is.0) = stands.2 ∙ ap (map print) is.2 in
    let s = read_as ys is.0 (Going p, seen) is.1 lines_are (ok_run text_step 0 start (Going p, seen) ys e) in
    let there : State = (Going p, seen) in
    let here : State = (Going s.0, is.0.components) in
    let same : there ≡ here = s.1 in
    let components : seen ≡ is.0.components = ap (λ (u : State). u.1) same in
    let phase : Going p ≡ Going s.0 = ap (λ (u : State). u.0) same in
    let place : p ≡ s.0 = cc in
    let head : p.head ≡ head_of is.0 = ap (λ (q : Place). q.head) place ∙ s.2 in
    let whole = same_layout is.0 p.head seen head components in
    (subst IsSpellable (sym whole) is.1, lines_are ∙ ap (λ (l : Composite). map print (layout_lines l)) (sym whole))

-- ---- the text and its lines

lines_of_text : (text : List ℕ) (l : Composite) → Spells text l → lines_of text ≡ map print (layout_lines l)
lines_of_text text l (s, e) = ap lines_of e ∙ lines_of-layout l ∙ sym (printed l)

pub text_of_lines : (text : List ℕ) (l : Composite) → lines_of text ≡ map print (layout_lines l) → text ≡ text_of_layout l
text_of_lines text l e = text-lines text (head_line l ∷ map component_line l.components) (e ∙ printed l)

-- a text of a layout is read as it
read_again : (text : List ℕ) (l : Composite) → Spells text l → (q : Place) × (reads text_step 0 start (lines_of text) ≡ Ok (Going q, l.components)) × (q.head ≡ head_of l)
read_again text l sp =
    let ys = lines_of text in
    let e = lines_of_text text l sp in
    let r = reads_texts.all ys (layout_lines l, (l, sp.0, refl), e) in
    let s = read_as ys l r.0 sp.0 e r.1 in
    (s.0, run_ok text_step 0 start r.0 ys r.1 ∙ ap (λ (u : State). Ok u) s.1, s.2)

-- a text is that of one layout
pub one_layout : (text : List ℕ) (l m : Composite) → Spells text l → Spells text m → l ≡ m
one_layout text l m a b =
    let p = read_again text l a in
    let q = read_again text m b in
    let there : State = (Going p.0, l.components) in
    let here : State = (Going q.0, m.components) in
    let both_ok : Ok there ≡ Ok here = sym p.1 ∙ q.1 in
    let same : there ≡ here = cc in
    let components : l.components ≡ m.components = ap (λ (u : State). u.1) same in
    let phase : Going p.0 ≡ Going q.0 = ap (λ (u : State). u.0) same in
    let place : p.0 ≡ q.0 = cc in
    let head : head_of l ≡ head_of m = sym p.2 ∙ ap (λ (x : Place). x.head) place ∙ q.2 in
    sym (same_layout l (head_of l) l.components refl refl) ∙ same_layout m (head_of l) l.components head components

-- ---- for the code

pub text_step_is : (s : State) (line : List ℕ) (x : Line) → line_of (Some line) ≡ Some x → text_step s (Some line) ≡ step s x
text_step_is s line x e = ap (λ (o : Option Line). line_by (record {}) (step s) o) e

pub not_empty : (xs : List ℕ) (b : Bool) → b ≡ eqb (length xs) 0 → b ≡ false → xs ≡ [] → ⊥
not_empty xs b e f g = let none = ap (λ (ys : List ℕ). eqb (length ys) 0) g in let clash : false ≡ true = sym f ∙ e ∙ none in absurd cc

-- the place of a phase whose components have all come
pub placed : (phase : Phase) (head : Head) → complete phase ≡ Some head → (p : Place) × (phase ≡ Going p) × (p.left ≡ 0) × (p.head ≡ head)
placed Start head e = absurd cc
placed (Going p) head e =
    cond_both (eqb p.left 0) (Some p.head) None (λ o. o ≡ Some head → (q : Place) × (Going p ≡ Going q) × (q.left ≡ 0) × (q.head ≡ head)) (λ t f. (p, refl, eqb-true p.left 0 t, cc)) (λ t f. absurd cc) e

-- ---- the clauses

pub read_law : (text : List ℕ) (r : Result Composite TextError) → MatchResult r (Spells text) (IsLayoutFault text) → MatchResult r (Spells text) (λ _. Unit {0})
read_law text (Ok l) h = h
read_law text (Err e) h = tt

pub bad_law : (text : List ℕ) (r : Result Composite TextError) → MatchResult r (Spells text) (IsLayoutFault text) → MatchResult r (λ _. Unit {0}) (IsLayoutFault text)
bad_law text (Ok l) h = tt
bad_law text (Err e) h = h

pub again_law : (text : List ℕ) (r : Result Composite TextError) → MatchResult r (Spells text) (IsLayoutFault text) → (l : Composite) → Spells text l → MatchResult r (λ found. found ≡ l) IsNoMemory
again_law text (Ok found) h l s = one_layout text found l h s
again_law text (Err (Bad line)) h l s = h.1.none (l, s.0, lines_of_text text l s ∙ printed l)
again_law text (Err NoMemory) h l s = tt
