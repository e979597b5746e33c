-- Over a range that is ready for a write the candidates are the ready mirror's components.
use Rattle.std.proofs.Common.{◌≡◌, ℕ, ◌<◌, ◌≤◌, true, false, not, eqb, ltb, ◌||◌, ◌&&◌, List, [], ◌∷◌, Option, Some, None, refl, sym, subst, ◌∙◌, inl, inr, arith}
use Rattle.std.specs.List.{list_any}
use Rattle.std.proofs.lemmas.Bool.{cases_Bool, and_parts, and_from, or_cases, or_left, or_right, both_ways, eq-eqb, eqb-true, lt-ltb, not-true, not_from_false, false≢true}
use Rattle.flr_base.specs.declared.reply.Range.{Range}
use Rattle.composite_layout.specs.declared.component.Component.{Component}
use Rattle.composite_layout.specs.Choices.{overlaps, is_open_to, is_ready_mirror, takes_writes, is_ready}
use Rattle.composite_layout.specs.Layouts.{eof, Composite}
use Rattle.composite_layout.specs.LookUps.{begins_mirror, mirror_ids, has_mirror, covers}
use Rattle.mirror_select.specs.declared.types.PieceError.{PieceError}
use Rattle.mirror_select.specs.declared.types.PieceError.TheVariants as errors
use Rattle.mirror_select.specs.Candidates.{comes_first, has_byte, is_usable, is_candidate, chosen}
use Rattle.mirror_select.specs.Pieces.{Lacks, component_of, first_without, pieces_of, ready_mirror, write_pieces_of}
use Rattle.mirror_select.proofs.Least.{In, all_in, any_in, some_in, found_in, found_none, find_only}
use Rattle.mirror_select.proofs.Grouping.{all_answered, same_pieces}
use Rattle.mirror_select.proofs.Order.{total}
use Rattle.mirror_select.proofs.Sound.{AreGood, has_parts}
use Rattle.mirror_select.proofs.Walk.{Answers, chosen_from}

-- an id of a mirror is that of some component
id_in : (cs : List Component) (m : ℕ) → In m (mirror_ids cs) → has_mirror m cs ≡ true
id_in [] m i = absurd i
id_in (c ∷ cs) m i = elim (cases_Bool (begins_mirror c)) as (λ _. has_mirror m (c ∷ cs) ≡ true) [
  | inl e ↦
      let j : In m (c.mirror ∷ mirror_ids cs) = rw e at i in
      elim j as (λ _. has_mirror m (c ∷ cs) ≡ true) [ inl same ↦ or_left (eqb c.mirror m) (has_mirror m cs) (eq-eqb c.mirror m same) | inr k ↦ or_right (eqb c.mirror m) (has_mirror m cs) (id_in cs m k) ]
  | inr e ↦ or_right (eqb c.mirror m) (has_mirror m cs) (id_in cs m (rw e at i))
]

-- the mirror is ready for a write of the range, and is there
pub record TakesWrite (cs : List Component) (range : Range) (mirror : ℕ) : Type 0 where
  pub ready : is_ready_mirror range cs mirror ≡ true
  pub there : has_mirror mirror cs ≡ true

-- a ready range has a ready mirror
pub ready_there : (l : Composite) (range : Range) → is_ready l range ≡ true → (m : ℕ) × (ready_mirror l range ≡ Some m) × TakesWrite l.components range m
ready_there l range h =
    let cs = l.components in
    let some = (and_parts (takes_writes l.state) (list_any (is_ready_mirror range cs) (mirror_ids cs)) h).1 in
    at_found (ready_mirror l range) refl some
  where
    at_found : (o : Option ℕ) → ready_mirror l range ≡ o → list_any (is_ready_mirror range l.components) (mirror_ids l.components) ≡ true → (m : ℕ) × (ready_mirror l range ≡ Some m) × TakesWrite l.components range m
    at_found None e some = absurd (both_ways (list_any (is_ready_mirror range l.components) (mirror_ids l.components)) (found_none (is_ready_mirror range l.components) (mirror_ids l.components) e) some)
    at_found (Some m) e some =
        let found = found_in (is_ready_mirror range l.components) (mirror_ids l.components) m e in
        (m, e, record { ready = found.1; there = id_in l.components m found.0 })

-- a component with a byte of the range overlaps it
pub overlapping : (range : Range) (x : ℕ) (c : Component) → range.start ≤ x → x < range.end → has_byte x c ≡ true → overlaps range c ≡ true
overlapping range x c le lt h =
    let parts = has_parts x c h in
    and_from (ltb c.extent.start range.end) (ltb range.start c.extent.end) (lt-ltb c.extent.start range.end (omega (arith, parts.0))) (lt-ltb range.start c.extent.end (omega (arith, parts.1)))

-- how a component over the range stands to the mirror
pub opens : (cs : List Component) (range : Range) (m : ℕ) (c : Component) → is_ready_mirror range cs m ≡ true → In c cs → overlaps range c ≡ true → is_open_to m c ≡ true
opens cs range m c h i o =
    elim (or_cases (not (overlaps range c)) (is_open_to m c) (all_in (λ c. not (overlaps range c) || is_open_to m c) cs c h i)) as (λ _. is_open_to m c ≡ true) [
      | inl n ↦ absurd (false≢true (rw o at n))
      | inr k ↦ k
    ]

-- what is known of a component of the ready mirror, and of one of another
pub own_parts : (m : ℕ) (c : Component) → is_open_to m c ≡ true → c.mirror ≡ m → (c.flags.stale ≡ false) × (c.flags.init ≡ true) × (c.flags.offline ≡ false)
own_parts m c h same =
    let k : (not c.flags.stale && (c.flags.init && not c.flags.offline)) ≡ true = rw (eq-eqb c.mirror m same) at h in
    let parts = and_parts (not c.flags.stale) (c.flags.init && not c.flags.offline) k in
    let more = and_parts c.flags.init (not c.flags.offline) parts.1 in
    (not-true c.flags.stale parts.0, more.0, not-true c.flags.offline more.1)

pub other_stale : (m : ℕ) (c : Component) → is_open_to m c ≡ true → eqb c.mirror m ≡ false → c.flags.stale ≡ true
other_stale m c h n = rw n at h

module _ (cs : List Component) (good : AreGood cs) (range : Range) (m : ℕ) (takes : TakesWrite cs range m) where
  -- the mirror's component over a byte of the range answers it, and no other may
  pub write_answers : (x : ℕ) → range.start ≤ x → x < range.end → x < eof → (c : Component) × Answers cs [] x c × (covers m x c ≡ true)
  write_answers x le lt below =
      let some = some_in (covers m x) cs (good.covered m x takes.there below) in
      let c = some.0 in
      let parts = and_parts (eqb c.mirror m) (has_byte x c) some.2 in
      let mine = eqb-true c.mirror m parts.0 in
      let flags = own_parts m c (opens cs range m c takes.ready some.1 (overlapping range x c le lt parts.1)) mine in
      let may : is_usable [] c ≡ true = and_from (not c.flags.stale) (not c.flags.offline && true) (not_from_false c.flags.stale flags.0) (and_from (not c.flags.offline) true (not_from_false c.flags.offline flags.2) refl) in
      (c, record { there = some.1; candidate = and_from (has_byte x c) (is_usable [] c) parts.1 may; first = λ d i h. only c mine some.1 parts.1 d i h }, some.2)
    where
      itself : (c : Component) → comes_first c c ≡ true
      itself c = elim (cases_Bool (comes_first c c)) as (λ _. comes_first c c ≡ true) [ inl e ↦ e | inr e ↦ total c c e ]

      only : (c : Component) → c.mirror ≡ m → In c cs → has_byte x c ≡ true → (d : Component) → In d cs → is_candidate [] x d ≡ true → comes_first c d ≡ true
      only c mine i h d j k =
          let parts = and_parts (has_byte x d) (is_usable [] d) k in
          let open' = opens cs range m d takes.ready j (overlapping range x d le lt parts.0) in
          elim (cases_Bool (eqb d.mirror m)) as (λ _. comes_first c d ≡ true) [
            | inl e ↦ subst (λ (z : Component). comes_first c z ≡ true) (good.alone x c d i j (mine ∙ sym (eqb-true d.mirror m e)) h parts.0) (itself c)
            | inr e ↦
                let fresh = not-true d.flags.stale (and_parts (not d.flags.stale) (not d.flags.offline && true) parts.1).0 in
                absurd (both_ways d.flags.stale fresh (other_stale m d open' e))
          ]

  -- so the pieces of a write are those of a read without failures
  pub write_chosen : (x : ℕ) → range.start ≤ x → x < range.end → x < eof → chosen cs [] x ≡ component_of cs (Some m) x
  write_chosen x le lt below =
      let here = write_answers x le lt below in
      let c = here.0 in
      let parts = and_parts (eqb c.mirror m) (has_byte x c) here.2 in
      chosen_from cs [] x c good here.1
      ∙ sym (find_only (covers m x) cs c here.1.there here.2
      (λ d i h.
      let its = and_parts (eqb d.mirror m) (has_byte x d) h in
      good.alone x d c i here.1.there (eqb-true d.mirror m its.0 ∙ sym (eqb-true c.mirror m parts.0)) its.1 parts.1))

-- the pieces of a write of a ready range, as those of a read
pub write_pieces_read : (l : Composite) (range : Range) → AreGood l.components → is_ready l range ≡ true → range.end ≤ eof → pieces_of l.components range [] ≡ write_pieces_of l range
write_pieces_read l range good ready below =
    let m = ready_there l range ready in
    same_pieces (chosen l.components []) (component_of l.components (ready_mirror l range)) range.start range.end
    (λ x le lt. rw m.1 (write_chosen l.components good range m.0 m.2 x le lt (omega arith)))

-- each byte of a ready range has a candidate
pub write_answered : (l : Composite) (range : Range) → AreGood l.components → is_ready l range ≡ true → range.end ≤ eof → first_without l.components range.start range.end [] ≡ None
write_answered l range good ready below =
    let m = ready_there l range ready in
    all_answered l.components [] range.start range.end
    (λ x le lt. let a = write_answers l.components good range m.0 m.2 x le lt (omega arith) in any_in (is_candidate [] x) l.components a.0 a.1.there a.1.candidate)

-- so only memory may be wanting
pub write_refused : (l : Composite) (range : Range) (e : PieceError) → AreGood l.components → is_ready l range ≡ true → range.end ≤ eof → Lacks l.components range [] e → e ≡ errors.NoMemory
write_refused l range (errors.AllOffline byte) good ready below h = let all = write_answered l range good ready below in absurd (let k = sym all ∙ h.0 in cc)
write_refused l range (errors.AllFailed byte) good ready below h = let all = write_answered l range good ready below in absurd (let k = sym all ∙ h.0 in cc)
write_refused l range errors.NoMemory good ready below h = refl
