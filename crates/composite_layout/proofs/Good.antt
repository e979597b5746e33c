-- What isn't refused is a good spec.
use Rattle.std.proofs.Common.{◌≡◌, ℕ, ◌%◌, ◌<◌, ◌≤◌, ℤ, pos, negsuc, ◌≤ℤ◌, Bool, true, false, cond, not, eqb, leb, ltb, List, [], ◌∷◌, length, map, refl, sym, ap, ◌∙◌, Option, Some, None, inl, inr, arith}
use Rattle.std.specs.List.{list_any, AllByRecursion}
use Rattle.std.specs.Option.{option_or}
use Rattle.std.proofs.lemmas.Bool.{not-false, eqb-true, leb-false, ltb-false, cases_Bool, or_parts, eqb-false, false≢true}
use Rattle.std.proofs.lemmas.List.{length-map}
use Rattle.std.proofs.lemmas.Int.{ints}
use Rattle.composite_layout.specs.declared.spec.Part.{Part}
use Rattle.composite_layout.specs.declared.spec.MirrorSpec.{MirrorSpec}
use Rattle.composite_layout.specs.declared.spec.SpecError.{SpecError}
use Rattle.composite_layout.specs.declared.spec.SpecError.TheVariants as errors
use Rattle.composite_layout.specs.Layouts.{eof, is_end}
use Rattle.composite_layout.specs.Specs.{IsAskedPart, IsAsked, size_of, count_of, normal_part, normal_mirror, parts_fault, mirrors_fault, refusal_of, IsRefusal, PartsTile, IsCount, IsPart, IsMirrorSpec, IsSpec}

-- what holds where an if gives None
not_then : (b : Bool) (e : SpecError) (o : Option SpecError) → cond b (Some e) o ≡ None → (b ≡ false) × (o ≡ None)
not_then true e o h = absurd cc
not_then false e o h = (refl, h)

good_size : (size : ℕ) → size ≤ 1073741824 → eqb (size % 65536) 0 ≡ true → (size_of size % 65536 ≡ 0) × (65536 ≤ size_of size) × (size_of size ≤ 1073741824)
good_size size most h = elim (cases_Bool (eqb size 0)) as (λ _. (size_of size % 65536 ≡ 0) × (65536 ≤ size_of size) × (size_of size ≤ 1073741824)) [
  | inl e ↦ rw e (refl, omega arith, omega arith)
  | inr e ↦ (let some = eqb-false size 0 e in let a = eqb-true (size % 65536) 0 h in rw e (a, omega (arith, a, some), most))
]

good_pos : (n : ℕ) → IsCount (pos (cond (eqb n 0) 1 n))
good_pos n = elim (cases_Bool (eqb n 0)) as (λ _. 0 < cond (eqb n 0) 1 n) [ inl e ↦ rw e (omega arith) | inr e ↦ (let some = eqb-false n 0 e in rw e (omega (arith, some))) ]

good_count : (count : ℤ) → negsuc 0 ≤ℤ count → IsCount (count_of count)
good_count (pos n) h = good_pos n
good_count (negsuc n) h = omega (arith, ints, h)

good_parts : (at : ℕ) (ps : List Part) → AllByRecursion IsAskedPart ps → parts_fault at ps ≡ None → PartsTile at (map normal_part ps) × AllByRecursion IsPart (map normal_part ps)
good_parts at [] a h = (eqb-true at eof (ended (eqb at eof) at h), tt)
  where
    ended : (b : Bool) (at : ℕ) → cond b None (Some (errors.Gap at)) ≡ None → b ≡ true
    ended true at h = refl
    ended false at h = absurd cc
good_parts at (p ∷ ps) a h =
    let one = not_then (not (is_end p.end)) (errors.Unaligned p.end) _ h in
    let two = not_then (not (eqb (p.size % 65536) 0)) (errors.Unaligned p.size) _ one.1 in
    let three = not_then (leb p.end at) (errors.Gap p.end) _ two.1 in
    let size = good_size p.size a.0.0 (not-false _ two.0) in
    let rest = good_parts p.end ps a.1 three.1 in (
      (leb-false p.end at three.0, not-false _ one.0, rest.0),
      (record { aligned = size.0; least_size = size.1; most_size = size.2; count = good_count p.count a.0.1 }, rest.1),
    )

both_none : (x y : Option SpecError) → option_or x y ≡ None → (x ≡ None) × (y ≡ None)
both_none None y h = (refl, h)
both_none (Some e) y h = absurd cc

good_mirrors : (ms : List MirrorSpec) → AllByRecursion IsAsked ms → list_any (λ (m : MirrorSpec). ltb 64 (length m.parts)) ms ≡ false → mirrors_fault ms ≡ None → AllByRecursion IsMirrorSpec (map normal_mirror ms)
good_mirrors [] a few h = tt
good_mirrors (m ∷ ms) a few h =
    let n = or_parts (ltb 64 (length m.parts)) _ few in
    let k = both_none (parts_fault 0 m.parts) (mirrors_fault ms) h in
    let g = good_parts 0 m.parts a.0.1 k.0 in (
      record {
        few = let e : length (map normal_part m.parts) ≡ length m.parts = length-map m.parts normal_part in let le = ltb-false 64 (length m.parts) n.0 in omega (arith, e, le);
        tiles = g.0;
        parts = g.1;
      },
      good_mirrors ms a.1 n.1 k.1,
    )

-- what isn't refused is good, once what was left open is put in
pub good : (ms : List MirrorSpec) (most : ℕ) → most ≤ 32 → AllByRecursion IsAsked ms → refusal_of ms most ≡ None → IsSpec (map normal_mirror ms)
good ms most le a h =
    let one = not_then (eqb (length ms) 0) errors.NoMirror _ h in
    let two = not_then (ltb most (length ms)) errors.TooManyMirrors _ one.1 in
    let three = not_then (list_any (λ (m : MirrorSpec). ltb 64 (length m.parts)) ms) errors.TooManyParts _ two.1 in
    let e : length (map normal_mirror ms) ≡ length ms = length-map ms normal_mirror in
    let some = eqb-false (length ms) 0 one.0 in
    let few = ltb-false most (length ms) two.0 in
    record { some = omega (arith, e, some); few = omega (arith, e, few, le); mirrors = good_mirrors ms a three.0 three.1 }

-- whether a refusal is another than want of memory
abbrev is_of_asking : SpecError → Bool
is_of_asking errors.NoMirror = true
is_of_asking errors.TooManyMirrors = true
is_of_asking errors.TooManyParts = true
is_of_asking (errors.Unaligned at) = true
is_of_asking (errors.Gap at) = true
is_of_asking errors.NoMemory = false

-- the same of a refusal, if there is one
abbrev asks : Option SpecError → Bool
asks None = true
asks (Some e) = is_of_asking e

asks_if : (b : Bool) (x y : Option SpecError) → asks x ≡ true → asks y ≡ true → asks (cond b x y) ≡ true
asks_if true x y h k = h
asks_if false x y h k = k

parts_ask : (at : ℕ) (ps : List Part) → asks (parts_fault at ps) ≡ true
parts_ask at [] = asks_if (eqb at eof) None (Some (errors.Gap at)) refl refl
parts_ask at (p ∷ ps) =
    asks_if (not (is_end p.end)) (Some (errors.Unaligned p.end)) _ refl
    (asks_if (not (eqb (p.size % 65536) 0)) (Some (errors.Unaligned p.size)) _ refl
    (asks_if (leb p.end at) (Some (errors.Gap p.end)) _ refl (parts_ask p.end ps)))

asks_or : (x y : Option SpecError) → asks x ≡ true → asks y ≡ true → asks (option_or x y) ≡ true
asks_or None y h k = k
asks_or (Some e) y h k = h

mirrors_ask : (ms : List MirrorSpec) → asks (mirrors_fault ms) ≡ true
mirrors_ask [] = refl
mirrors_ask (m ∷ ms) = asks_or (parts_fault 0 m.parts) (mirrors_fault ms) (parts_ask 0 m.parts) (mirrors_ask ms)

-- what is asked never calls for want of memory
refusal_asks : (ms : List MirrorSpec) (most : ℕ) → asks (refusal_of ms most) ≡ true
refusal_asks ms most =
    asks_if (eqb (length ms) 0) (Some errors.NoMirror) _ refl
    (asks_if (ltb most (length ms)) (Some errors.TooManyMirrors) _ refl
    (asks_if (list_any (λ (m : MirrorSpec). ltb 64 (length m.parts)) ms) (Some errors.TooManyParts) _ refl (mirrors_ask ms)))

-- the refusal that is called for is one
pub called_for : (ms : List MirrorSpec) (most : ℕ) (e : SpecError) → refusal_of ms most ≡ Some e → IsRefusal ms most e
called_for ms most errors.NoMirror h = h
called_for ms most errors.TooManyMirrors h = h
called_for ms most errors.TooManyParts h = h
called_for ms most (errors.Unaligned at) h = h
called_for ms most (errors.Gap at) h = h
called_for ms most errors.NoMemory h = absurd (false≢true (sym (ap asks h) ∙ refusal_asks ms most))
