-- Where no component is offline, each byte may be read, and each range has a primary.
use Rattle.std.proofs.Common.{◌≡◌, ℕ, ◌<◌, ◌≤◌, Bool, true, false, not, ◌&&◌, eqb, None, List, [], ◌⊎◌, inl, inr, refl, sym, ap, subst, ◌∙◌, arith}
use Rattle.std.proofs.lemmas.Bool.{cases_Bool, false≢true, and_parts, and_from, eqb-true, eq-eqb}
use Rattle.std.specs.List.{list_any}
use Rattle.flr_base.specs.declared.reply.Range.{Range}
use Rattle.composite_layout.specs.declared.component.Component.{Component}
use Rattle.composite_layout.specs.Layouts.{Composite, IsValid, eof}
use Rattle.composite_layout.specs.LookUps.{covers, has_mirror, has_stale, mirror_ids, wholly_fresh}
use Rattle.layout_state.specs.Choosing.{IsPrimary, has_fresh, has_offline, is_candidate, is_over, primary_of}
use Rattle.layout_state.proofs.ChoiceLaws.{primary_least}
use Rattle.layout_state.proofs.MarkLaws.{fresh_there, passes, passing, valid_fresh}
use Rattle.mirror_select.specs.Candidates as reading
use Rattle.mirror_select.specs.Candidates.{has_byte}
use Rattle.mirror_select.specs.Pieces.{first_without}
use Rattle.mirror_select.proofs.Grouping.{all_answered}
use Rattle.mirror_select.proofs.Least.{In, any_in, in_none, some_in}
use Rattle.mirror_select.proofs.Sound.{are_good}
use Rattle.flr_honest.proofs.GoingWell.Online.{AreOnline}

-- some mirror of a valid layout is wholly fresh
has_one : (l : Composite) → IsValid l → has_fresh l.components ≡ true
has_one l v =
    let f = valid_fresh l v in fresh_there l.components ∙ passes (λ (mirror : ℕ). not (has_stale mirror l.components)) (mirror_ids l.components) f.mirror f.there (ap not f.fresh)

-- that mirror
fresh_mirror : (l : Composite) → IsValid l → (mirror : ℕ) × (wholly_fresh mirror l.components ≡ true)
fresh_mirror l v = let w = passing (λ (mirror : ℕ). wholly_fresh mirror l.components) (mirror_ids l.components) (has_one l v) in (w.0, w.2)

-- a mirror that is wholly fresh has no stale component
fresh_in : (mirror : ℕ) (cs : List Component) (c : Component) → wholly_fresh mirror cs ≡ true → In c cs → c.mirror ≡ mirror → c.flags.stale ≡ false
fresh_in mirror cs c h i own = by (and_parts (has_mirror mirror cs) (not (has_stale mirror cs)) h).1 (cases_Bool c.flags.stale)
  where
    by : not (has_stale mirror cs) ≡ true → (c.flags.stale ≡ true) ⊎ (c.flags.stale ≡ false) → c.flags.stale ≡ false
    by none (inr fresh) = fresh
    by none (inl stale) =
        let found : has_stale mirror cs ≡ true = any_in (λ (d : Component). eqb d.mirror mirror && d.flags.stale) cs c i (and_from (eqb c.mirror mirror) c.flags.stale (eq-eqb c.mirror mirror own) stale) in
        absurd (false≢true (ap not (sym found) ∙ none))

-- nothing is so that isn't
never_both : (b : Bool) → (b && false) ≡ false
never_both true = refl
never_both false = refl

module _ (l : Composite) (v : IsValid l) (online : AreOnline l.components) where
  -- a mirror has nothing offline over a range
  none_offline : (range : Range) (mirror : ℕ) → has_offline range l.components mirror ≡ false
  none_offline range mirror =
      in_none (λ (c : Component). is_over range mirror c && c.flags.offline) l.components (λ c i. ap (λ (b : Bool). is_over range mirror c && b) (online c i) ∙ never_both (is_over range mirror c))

  -- the wholly fresh mirror may be the primary
  fresh_candidate : (range : Range) (mirror : ℕ) → wholly_fresh mirror l.components ≡ true → is_candidate range l.components mirror ≡ true
  fresh_candidate range mirror fresh =
      and_from (wholly_fresh mirror l.components) (not (has_offline range l.components mirror)) fresh (ap not (none_offline range mirror))

  -- so each range has a primary
  pub primary_there : (range : Range) → primary_of range l.components ≡ None → ⊥
  primary_there range none =
      let w = fresh_mirror l v in
      let least : IsPrimary range l.components None = subst (IsPrimary range l.components) none (primary_least l v range) in
      false≢true (sym (least w.0) ∙ fresh_candidate range w.0 w.1)

  -- each byte has a component that may answer it
  byte_answered : (x : ℕ) → x < eof → list_any (reading.is_candidate [] x) l.components ≡ true
  byte_answered x low =
      let w = fresh_mirror l v in
      let there : has_mirror w.0 l.components ≡ true = (and_parts (has_mirror w.0 l.components) (not (has_stale w.0 l.components)) w.1).0 in
      let found = some_in (covers w.0 x) l.components ((are_good l v).covered w.0 x there low) in
      let c : Component = found.0 in
      let own = and_parts (eqb c.mirror w.0) (has_byte x c) found.2 in
      let fresh : c.flags.stale ≡ false = fresh_in w.0 l.components c w.1 found.1 (eqb-true c.mirror w.0 own.0) in
      let here : (not c.flags.offline && true) ≡ true = ap (λ (b : Bool). not b && true) (online c found.1) in
      any_in (reading.is_candidate [] x) l.components c found.1 (and_from (has_byte x c) (not c.flags.stale && (not c.flags.offline && true)) own.1 (and_from (not c.flags.stale) (not c.flags.offline && true) (ap not fresh) here))

  -- so none of a range is without one
  pub all_may_be_read : (start end : ℕ) → end ≤ eof → first_without l.components start end [] ≡ None
  all_may_be_read start end low = all_answered l.components [] start end (λ x from to. byte_answered x (omega (arith, low, to)))
