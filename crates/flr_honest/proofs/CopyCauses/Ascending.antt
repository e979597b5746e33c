-- Of destinations whose ids ascend those that are cleared and those that are left ascend too.
use Rattle.std.proofs.Common.{◌≡◌, ℕ, zero, suc, ◌+◌, ◌<◌, ◌≤◌, Bool, true, false, cond, List, [], ◌∷◌, ◌++◌, map, filter, Option, None, Some, subst, arith}
use Rattle.std.specs.Prelude.{slice_index}
use Rattle.std.specs.List.Sorted.{IsStrictlyIncreasing}
use Rattle.flr_base.specs.declared.reply.FailedCall.{FailedCall}
use Rattle.flr_base.specs.declared.reply.Left.{Left}
use Rattle.resync_copy.specs.declared.parts.Destination.{Destination}
use Rattle.resync_copy.specs.Parts.{cleared_of, is_kept, lefts_of}
use Rattle.std.specs.Option.{option_map_or}

-- the numbers ascend from this one on
abbrev pub Climbs : ℕ → List ℕ → Type 0
Climbs low [] = Unit {0}
Climbs low (n ∷ ns) = (low ≤ n) × Climbs (n + 1) ns

pub climbs_so : (low : ℕ) (ns : List ℕ) → Climbs low ns → IsStrictlyIncreasing ns
climbs_so low [] a k lt = absurd (omega (arith, lt))
climbs_so low (n ∷ []) a k lt = absurd (omega (arith, lt))
climbs_so low (n ∷ m ∷ ns) a zero lt = omega (arith, a.1.0)
climbs_so low (n ∷ m ∷ ns) a (suc k) lt = let e : suc k + 1 ≡ suc (k + 1) = omega arith in rw e (climbs_so (n + 1) (m ∷ ns) a.1 k (omega (arith, lt)))

climbs_from : (low n : ℕ) (ns : List ℕ) → low ≤ n → IsStrictlyIncreasing (n ∷ ns) → Climbs low (n ∷ ns)
climbs_from low n [] le h = (le, tt)
climbs_from low n (m ∷ ns) le h =
    let up : n < m = h 0 (omega arith) in
    (le, climbs_from (n + 1) m ns (omega (arith, up)) (λ k lt. (let e : suc k + 1 ≡ suc (k + 1) = omega arith in let more = h (suc k) (omega (arith, lt)) in subst (λ (j : ℕ). slice_index (m ∷ ns) k < slice_index (n ∷ m ∷ ns) j) e more)))

pub climbs_of : (ns : List ℕ) → IsStrictlyIncreasing ns → Climbs 0 ns
climbs_of [] h = tt
climbs_of (n ∷ ns) h = climbs_from 0 n ns (omega arith) h

lower : (low high : ℕ) (ns : List ℕ) → low ≤ high → Climbs high ns → Climbs low ns
lower low high [] le h = tt
lower low high (n ∷ ns) le h = let here = h.0 in (omega (arith, le, here), h.1)

pub cleared_climb : (low : ℕ) (ds : List Destination) → Climbs low (map (λ (d : Destination). d.component) ds) → Climbs low (cleared_of ds)
cleared_climb low [] h = tt
cleared_climb low (d ∷ ds) h = by (is_kept d) (cleared_climb (d.component + 1) ds h.1)
  where
    by : (b : Bool) → Climbs (d.component + 1) (cleared_of ds) → Climbs low (map (λ (d : Destination). d.component) (cond b (d ∷ filter is_kept ds) (filter is_kept ds)))
    by true more = (h.0, more)
    by false more = let here = h.0 in lower low (d.component + 1) (cleared_of ds) (omega (arith, here)) more

pub lefts_climb : (low : ℕ) (ds : List Destination) → Climbs low (map (λ (d : Destination). d.component) ds) → Climbs low (map (λ (l : Left). l.component) (lefts_of ds))
lefts_climb low [] h = tt
lefts_climb low (d ∷ ds) h = by d.left (lefts_climb (d.component + 1) ds h.1)
  where
    by : (o : Option FailedCall) → Climbs (d.component + 1) (map (λ (l : Left). l.component) (lefts_of ds))
        → Climbs low (map (λ (l : Left). l.component) (option_map_or (λ (call : FailedCall). record { component = d.component; call = call } ∷ []) o [] ++ lefts_of ds))
    by (Some call) more = (h.0, more)
    by None more = let here = h.0 in lower low (d.component + 1) (map (λ (l : Left). l.component) (lefts_of ds)) (omega (arith, here)) more
