-- After an intent the range is ready.
use Rattle.std.proofs.Common.{◌≡◌, ℕ, Bool, true, false, not, ◌&&◌, ◌||◌, eqb, List, [], ◌∷◌, length, map, refl, sym, ap, subst, ◌∙◌, Some, inl, inr}
use Rattle.std.proofs.lemmas.Bool.{cases_Bool, eqb-true, eq-eqb, and_parts, and_from, or_parts, or_left, or_right, not-true, false≢true}
use Rattle.flr_base.specs.declared.reply.Range.{Range}
use Rattle.composite_layout.specs.declared.component.Component.{Component}
use Rattle.composite_layout.specs.Choices.{overlaps, is_open_to, is_ready_mirror, takes_writes, is_ready}
use Rattle.composite_layout.specs.Layouts.{Composite, Mirror, IsValid}
use Rattle.composite_layout.specs.LookUps.{has_mirror, has_stale, mirror_ids}
use Rattle.layout_state.specs.Breaking.{pending}
use Rattle.layout_state.specs.Choosing.{is_over, has_offline, is_candidate, IsPrimary, primary_of}
use Rattle.layout_state.specs.Making.{gets_objects, made_for, nexts_for, with_made}
use Rattle.layout_state.specs.Marking.{Frame, frame_of, stale_if_behind, with_stale, IsIntent}
use Rattle.layout_state.proofs.ChoiceLaws.{among_ids, is_among, ids_of, primary_least}
use Rattle.layout_state.proofs.MarkLaws.{same_ids, passes}
use Rattle.layout_state.proofs.ObjectLaws.{made_frame, made_stale, behind_frame, behind_not, intended, intended_frames}

-- ---- one component

-- a component of the mirror that is fresh, has objects and isn't offline is open
own_open : (mirror : ℕ) (d : Component) → d.mirror ≡ mirror → d.flags.stale ≡ false → d.flags.init ≡ true → d.flags.offline ≡ false → is_open_to mirror d ≡ true
own_open mirror d of fresh init online = rw (eq-eqb d.mirror mirror of, fresh, init, online) refl

other_open : (mirror : ℕ) (d : Component) → eqb d.mirror mirror ≡ false → d.flags.stale ≡ true → is_open_to mirror d ≡ true
other_open mirror d of stale = rw (of, stale) refl

behind_is : (range : Range) (mirror : ℕ) (d : Component) → eqb d.mirror mirror ≡ false → overlaps range d ≡ true → stale_if_behind range mirror d ≡ with_stale true d
behind_is range mirror d of over = rw (of, over) refl

made_offline : (gets : Bool) (file : ℕ) (nexts : List ℕ) (c : Component) → (with_made c (made_for gets file nexts c)).flags.offline ≡ c.flags.offline
made_offline true file nexts c = refl
made_offline false file nexts c = refl

made_init : (b i : Bool) (file : ℕ) (nexts : List ℕ) (c : Component) → b ≡ true → c.flags.init ≡ i → (with_made c (made_for (b && not i) file nexts c)).flags.init ≡ true
made_init true true file nexts c h e = e
made_init true false file nexts c h e = refl
made_init false i file nexts c h e = absurd (false≢true h)

-- what a component is after an intent
abbrev led : Range → ℕ → ℕ → List ℕ → Component → Component
led range mirror file nexts c = stale_if_behind range mirror (with_made c (made_for (gets_objects (is_over range mirror) c) file nexts c))

led_frame : (range : Range) (mirror file : ℕ) (nexts : List ℕ) (c : Component) → frame_of (led range mirror file nexts c) ≡ frame_of c
led_frame range mirror file nexts c = behind_frame range mirror (with_made c (made_for (gets_objects (is_over range mirror) c) file nexts c)) ∙ made_frame (gets_objects (is_over range mirror) c) file nexts c

over_frame : (range : Range) (c d : Component) → frame_of d ≡ frame_of c → overlaps range d ≡ overlaps range c
over_frame range c d e = let x : d.extent ≡ c.extent = ap (λ (f : Frame). f.extent) e in rw x refl

led_open : (range : Range) (mirror file : ℕ) (nexts : List ℕ) (c : Component) → overlaps range c ≡ true → (eqb c.mirror mirror && c.flags.stale) ≡ false → (is_over range mirror c && c.flags.offline) ≡ false → is_open_to mirror (led range mirror file nexts c) ≡ true
led_open range mirror file nexts c over fresh online =
    let gets = gets_objects (is_over range mirror) c in
    let w = with_made c (made_for gets file nexts c) in
    let frame : frame_of w ≡ frame_of c = made_frame gets file nexts c in
    let m : w.mirror ≡ c.mirror = ap (λ (f : Frame). f.mirror) frame in
    elim (cases_Bool (eqb c.mirror mirror)) as (λ _. is_open_to mirror (led range mirror file nexts c) ≡ true) [
      | inl e ↦ (
          let of : w.mirror ≡ mirror = m ∙ eqb-true c.mirror mirror e in
          let s : c.flags.stale ≡ false = rw e at fresh in
          let is : is_over range mirror c ≡ true = and_from _ _ e over in
          let o : c.flags.offline ≡ false = rw is at online in
          subst (λ (d : Component). is_open_to mirror d ≡ true) (sym (behind_not range mirror w of)) (own_open mirror w of (made_stale gets file nexts c ∙ s) (made_init (is_over range mirror c) c.flags.init file nexts c is refl) (made_offline gets file nexts c ∙ o))
          )
      | inr e ↦ (
          let of : eqb w.mirror mirror ≡ false = ap (λ (k : ℕ). eqb k mirror) m ∙ e in
          subst (λ (d : Component). is_open_to mirror d ≡ true) (sym (behind_is range mirror w of (over_frame range c w frame ∙ over))) (other_open mirror (with_stale true w) of refl)
          )
    ]

-- ---- the whole list

ready_parts : (range : Range) (mirror file : ℕ) (nexts : List ℕ) (cs : List Component) → has_stale mirror cs ≡ false → has_offline range cs mirror ≡ false → is_ready_mirror range (intended range mirror file nexts cs) mirror ≡ true
ready_parts range mirror file nexts [] fresh online = refl
ready_parts range mirror file nexts (c ∷ cs) fresh online =
    let f = or_parts (eqb c.mirror mirror && c.flags.stale) (has_stale mirror cs) fresh in
    let o = or_parts (is_over range mirror c && c.flags.offline) (has_offline range cs mirror) online in
    let d = led range mirror file nexts c in
    let same : overlaps range d ≡ overlaps range c = over_frame range c d (led_frame range mirror file nexts c) in
    and_from _ _ (elim (cases_Bool (overlaps range c)) as (λ _. (not (overlaps range d) || is_open_to mirror d) ≡ true) [
      | inl e ↦ or_right _ _ (led_open range mirror file nexts c e f.0 o.0)
      | inr e ↦ or_left _ _ (ap not (same ∙ e))
    ]) (ready_parts range mirror file (nexts_for (gets_objects (is_over range mirror) c) file nexts c) cs f.1 o.1)

pending_writes : (n : ℕ) → takes_writes (pending n) ≡ true
pending_writes n = elim (cases_Bool (eqb n 1)) as (λ _. takes_writes (pending n) ≡ true) [ inl e ↦ rw e refl | inr e ↦ rw e refl ]

-- the primary may take the write
primary_is : (range : Range) (cs : List Component) (mirror : ℕ) → IsPrimary range cs (Some mirror) → is_candidate range cs mirror ≡ true
primary_is range cs mirror (inl p) = (and_parts _ _ p.passes).0
primary_is range cs mirror (inr p) = p.1.passes

-- after an intent to the primary the range is ready
pub intent_ready : (range : Range) (mirror file : ℕ) (nexts : List ℕ) (old new : Composite) (after : List ℕ) → IsValid old → primary_of range old.components ≡ Some mirror → IsIntent range mirror file nexts old new after → is_ready new range ≡ true
intent_ready range mirror file nexts old new after v primary h =
    let candidate = primary_is range old.components mirror (subst (IsPrimary range old.components) primary (primary_least old v range)) in
    let c = and_parts _ _ candidate in
    let w = and_parts (has_mirror mirror old.components) (not (has_stale mirror old.components)) c.0 in
    let cs : new.components ≡ intended range mirror file nexts old.components = ap (λ (l : Composite). l.components) h.layout in
    let state : new.state ≡ pending (length (mirror_ids old.components)) = ap (λ (l : Composite). l.state) h.layout in
    let ids : mirror_ids old.components ≡ map (λ (m : Mirror). m.id) v.mirrors = ap mirror_ids v.whole ∙ ids_of 0 old.next_mirror v.mirrors v.ascend in
    let among : is_among mirror (mirror_ids old.components) ≡ true = subst (λ (ks : List ℕ). is_among mirror ks ≡ true) (sym ids) (among_ids 0 old.next_mirror mirror v.mirrors v.ascend (subst (λ (xs : List Component). has_mirror mirror xs ≡ true) v.whole w.0)) in
    let there : is_among mirror (mirror_ids new.components) ≡ true = subst (λ (ks : List ℕ). is_among mirror ks ≡ true) (sym (ap mirror_ids cs ∙ same_ids old.components (intended range mirror file nexts old.components) (intended_frames range mirror file nexts old.components))) among in
    let ready : is_ready_mirror range new.components mirror ≡ true = subst (λ (xs : List Component). is_ready_mirror range xs mirror ≡ true) (sym cs) (ready_parts range mirror file nexts old.components (not-true _ w.1) (not-true _ c.1)) in
    and_from _ _ (ap takes_writes state ∙ pending_writes _) (passes (is_ready_mirror range new.components) (mirror_ids new.components) mirror there ready)
