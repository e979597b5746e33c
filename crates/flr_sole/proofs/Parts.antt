-- The parts of a write or of a truncate lie in the only fresh components of a layout that is ready for them.
use Rattle.std.proofs.Common.{◌≡◌, ℕ, zero, suc, ◌-◌, ◌%◌, ◌<◌, ◌≤◌, true, ◌&&◌, eqb, ltb, List, [], ◌∷◌, map, Option, Some, None, ◌⊎◌, inl, inr, refl, sym, ap, subst, ◌∙◌, arith}
use Rattle.std.specs.Prelude.{All, Contains, is_some, slice_get, unwrap_or}
use Rattle.std.proofs.lemmas.Bool.{and_parts, and_from, eqb-true, ltb-true, lt-ltb}
use Rattle.flr_base.specs.declared.reply.ObjectId.{ObjectId}
use Rattle.flr_base.specs.declared.reply.Range.{Range}
use Rattle.stripe_map.specs.Places.{place_of}
use Rattle.stripe_map.specs.Cutting.{Tile}
use Rattle.composite_layout.specs.declared.component.Component.{Component}
use Rattle.composite_layout.specs.Choices.{is_ready, overlaps}
use Rattle.composite_layout.specs.Layouts.{Composite, IsValid, eof}
use Rattle.composite_layout.specs.LookUps.{covers}
use Rattle.mirror_select.specs.declared.types.Piece.{Piece}
use Rattle.mirror_select.specs.Laws.{ArePieces, HasTail, IsPieceOf, TakesWrites}
use Rattle.mirror_select.specs.Pieces.{component_of, ready_mirror, write_pieces_of}
use Rattle.mirror_select.specs.Tails.{StripeObject, ends_above, tail_stripes}
use Rattle.mirror_select.proofs.ChoiceLaws.{ready_mirrors, write_pieces}
use Rattle.mirror_select.proofs.Least.{In, found_in, from_contains, to_contains}
use Rattle.mirror_select.proofs.Sound.{are_good, has_parts}
use Rattle.mirror_select.proofs.TailLaws.{are_all}
use Rattle.call_steps.specs.Pieces.{object_of}
use Rattle.flr_claims.specs.Sending.{OfTruncate, OfWrite, reach_of}
use Rattle.flr_sole.specs.Sentences.{IsAlone}

-- what overlaps part of a range overlaps the range
wider : (inner outer : Range) (e : Component) → outer.start ≤ inner.start → inner.end ≤ outer.end → overlaps inner e ≡ true → overlaps outer e ≡ true
wider inner outer e low high over =
    let parts = and_parts (ltb e.extent.start inner.end) (ltb inner.start e.extent.end) over in
    let a = ltb-true e.extent.start inner.end parts.0 in
    let b = ltb-true inner.start e.extent.end parts.1 in
    and_from (ltb e.extent.start outer.end) (ltb outer.start e.extent.end) (lt-ltb e.extent.start outer.end (omega (arith, a, high))) (lt-ltb outer.start e.extent.end (omega (arith, b, low)))

-- over a range that is ready for a mirror the components of others are stale
other_stale : (l : Composite) (range : Range) (mirror : ℕ) → ((c : Component) → Contains l.components c → overlaps range c ≡ true → TakesWrites mirror c ⊎ ((c.mirror ≡ mirror → ⊥) × (c.flags.stale ≡ true))) → (e : Component) → Contains l.components e → (e.mirror ≡ mirror → ⊥) → overlaps range e ≡ true → e.flags.stale ≡ true
other_stale l range mirror each e listed other over = elim (each e listed over) as (λ _. e.flags.stale ≡ true) [ inl own ↦ absurd (other own.own) | inr stale ↦ stale.1 ]

same_mirror : (a b : Option ℕ) (m n : ℕ) → a ≡ b → a ≡ Some m → b ≡ Some n → n ≡ m
same_mirror a b m n e f g = let both : Some n ≡ Some m = sym g ∙ sym e ∙ f in cc

-- ---- pieces

-- each piece of a tiled range has bytes of it
tiled : (ranges : List Range) (start end : ℕ) (r : Range) → Tile ranges start end → In r ranges → (start ≤ r.start) × (r.start < r.end) × (r.end ≤ end)
tiled [] start end r t i = absurd i
tiled (x ∷ xs) start end r t (inl same) =
    let later = ends xs x.end end t.2 in
    let a = t.0 in
    let b = t.1 in
    subst (λ (y : Range). (start ≤ y.start) × (y.start < y.end) × (y.end ≤ end)) same (omega (arith, a), omega (arith, a, b), later)
  where
    ends : (ranges : List Range) (start end : ℕ) → Tile ranges start end → start ≤ end
    ends [] start end t = omega (arith, t)
    ends (y ∷ ys) start end t = let more = ends ys y.end end t.2 in let b = t.1 in omega (arith, more, b)
tiled (x ∷ xs) start end r t (inr more) = let rest = tiled xs x.end end r t.2 more in let low = rest.0 in let b = t.1 in (omega (arith, low, b), rest.1, rest.2)

in_map : {X Y : Type 0} (f : X → Y) (xs : List X) (x : X) → In x xs → In (f x) (map f xs)
in_map f [] x i = absurd i
in_map f (y ∷ ys) x (inl same) = inl (ap f same)
in_map f (y ∷ ys) x (inr more) = inr (in_map f ys x more)

some_at : {X : Type 0} (xs : List X) (i : ℕ) (x : X) → slice_get xs i ≡ Some x → Contains xs x
some_at [] i x e = absurd (cc)
some_at (y ∷ ys) zero x e = let same : y ≡ x = cc in (0, omega arith, same)
some_at (y ∷ ys) (suc i) x e = let rest = some_at ys i x e in let within = rest.1 in (suc rest.0, omega (arith, within), rest.2)

-- an object that is there is that of the piece
solid : (o : Option ObjectId) → is_some o ≡ true → o ≡ Some (unwrap_or o (record { target = 0; number = 0 }))
solid (Some x) e = refl
solid None e = absurd (cc)

-- each piece of a write that a layout is ready for lies in its only fresh component there
pub piece_alone : (l : Composite) (range : Range) → IsValid l → is_ready l range ≡ true → range.start ≤ range.end → range.end < eof → (p : Piece) → Contains (write_pieces_of l range) p → IsAlone l.components (OfWrite p)
piece_alone l range v ready low high p listed = by (write_pieces l range v ready low high) (ready_mirrors l range ready)
  where
    one : (mirror : ℕ) (c : Component) → IsPieceOf (component_of l.components (Some mirror)) c p → TakesWrites mirror c → (range.start ≤ p.range.start) × (p.range.start < p.range.end) × (p.range.end ≤ range.end)
        → ((e : Component) → Contains l.components e → overlaps range e ≡ true → TakesWrites mirror e ⊎ ((e.mirror ≡ mirror → ⊥) × (e.flags.stale ≡ true))) → IsAlone l.components (OfWrite p)
    one mirror c is takes inside each =
        let some = inside.1 in
        let back : p.range.end - 1 < p.range.end = omega (arith, some) in
        let front : p.range.start ≤ p.range.end - 1 = omega (arith, some) in
        let here = found_in (covers mirror p.range.start) l.components c (is.whole p.range.start (omega arith) some) in
        let first = has_parts p.range.start c (is.bytes p.range.start (omega arith) some).covered in
        let last = has_parts (p.range.end - 1) c (is.bytes (p.range.end - 1) front back).covered in
        let until = last.1 in
        record {
          component = c;
          listed = to_contains l.components c here.0;
          same = sym is.id;
          fresh = takes.fresh;
          made = takes.init;
          object = some_at c.objects (place_of p.range.start c.stripe).index (object_of p) ((is.bytes p.range.start (omega arith) some).object ∙ solid p.object (is.object ∙ takes.init));
          start = first.0;
          some = some;
          end = omega (arith, until, some);
          others = λ e i other meets. other_stale l range mirror each e i (λ own. other (own ∙ sym takes.own)) (wider p.range range e inside.0 inside.2 meets);
        }

    by : (mirror : ℕ) × (ready_mirror l range ≡ Some mirror) × ArePieces (component_of l.components (Some mirror)) range (write_pieces_of l range) × All (λ q. (c : Component) × IsPieceOf (component_of l.components (Some mirror)) c q × TakesWrites mirror c) (write_pieces_of l range)
        → (mirror : ℕ) × (ready_mirror l range ≡ Some mirror) × ((c : Component) → Contains l.components c → overlaps range c ≡ true → TakesWrites mirror c ⊎ ((c.mirror ≡ mirror → ⊥) × (c.flags.stale ≡ true))) → IsAlone l.components (OfWrite p)
    by law has =
        let same : has.0 ≡ law.0 = same_mirror (ready_mirror l range) (ready_mirror l range) law.0 has.0 refl law.1 has.1 in
        let own = subst (λ (q : Piece). (c : Component) × IsPieceOf (component_of l.components (Some law.0)) c q × TakesWrites law.0 c) listed.2 (law.3 listed.0 p listed.1) in
        one law.0 own.0 own.1 own.2 (tiled (map (λ (q : Piece). q.range) (write_pieces_of l range)) range.start range.end p.range law.2.tile (in_map (λ (q : Piece). q.range) (write_pieces_of l range) p (from_contains (write_pieces_of l range) p listed)))
        (subst (λ m. (e : Component) → Contains l.components e → overlaps range e ≡ true → TakesWrites m e ⊎ ((e.mirror ≡ m → ⊥) × (e.flags.stale ≡ true))) same has.2)

-- ---- tails

-- each tail of a truncate that a layout is ready for lies in its only fresh component there
pub tail_alone : (l : Composite) (size : ℕ) → IsValid l → is_ready l (record { start = size; end = eof }) ≡ true → size < eof → (s : StripeObject) → Contains (tail_stripes l size) s → IsAlone l.components (OfTruncate size s)
tail_alone l size v ready low s listed = by (ready_mirrors l range ready) ((are_all l size s v).0 listed)
  where
    range : Range
    range = record { start = size; end = eof }

    by : (mirror : ℕ) × (ready_mirror l range ≡ Some mirror) × ((c : Component) → Contains l.components c → overlaps range c ≡ true → TakesWrites mirror c ⊎ ((c.mirror ≡ mirror → ⊥) × (c.flags.stale ≡ true))) → HasTail l size s → IsAlone l.components (OfTruncate size s)
    by has tail =
        let c : Component = s.component in
        let ends : (eqb c.mirror has.0 && ltb size c.extent.end) ≡ true = subst (λ (o : Option ℕ). ends_above o size c ≡ true) has.1 tail.ends in
        let parts = and_parts (eqb c.mirror has.0) (ltb size c.extent.end) ends in
        let own : c.mirror ≡ has.0 = eqb-true c.mirror has.0 parts.0 in
        let above = ltb-true size c.extent.end parts.1 in
        let good = (are_good l v).each c (from_contains l.components c tail.there) in
        let wide = good.wide in
        let short : c.extent.end ≤ eof = at c.extent.end good.ends in
        let over : overlaps range c ≡ true = and_from (ltb c.extent.start eof) (ltb size c.extent.end) (lt-ltb c.extent.start eof (omega (arith, wide, short))) parts.1 in
        elim (has.2 c tail.there over) as (λ _. IsAlone l.components (OfTruncate size s)) [
          | inl takes ↦ record {
            component = c;
            listed = tail.there;
            same = refl;
            fresh = takes.fresh;
            made = takes.init;
            object = some_at c.objects s.index s.object tail.object;
            start = omega arith;
            some = omega (arith, above, wide);
            end = omega arith;
            others = λ e i other meets. other_stale l range has.0 has.2 e i (λ same. other (same ∙ sym own)) (wider (reach_of (OfTruncate size s)) range e (omega arith) short meets);
          }
          | inr other ↦ absurd (other.0 own)
        ]
      where
        at : (end : ℕ) → (end ≡ eof) ⊎ ((end % 65536 ≡ 0) × (end < eof)) → end ≤ eof
        at end (inl last) = omega (arith, last)
        at end (inr inner) = let less = inner.1 in omega (arith, less)
