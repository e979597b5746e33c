-- A layout stays valid when its lease is broken.
use Rattle.std.proofs.Common.{ℕ, ◌+◌, ◌<◌, ◌≤◌, eqb, length, inl, inr, arith}
use Rattle.std.proofs.lemmas.Bool.{cases_Bool, eqb-true, eqb-false}
use Rattle.composite_layout.specs.declared.component.State.{State}
use Rattle.composite_layout.specs.declared.component.State.TheVariants as states
use Rattle.composite_layout.specs.Layouts.{Composite, least, most, IsValid}
use Rattle.composite_layout.proofs.Tiling.{few_ids}
use Rattle.composite_layout.specs.LookUps.{mirror_ids}
use Rattle.layout_state.specs.Breaking.{pending, broken}
use Rattle.layout_state.proofs.MirrorLaws.{count_ids}

-- a state that goes with so many mirrors
abbrev pub Goes : State → ℕ → Type 0
Goes s n = (least s ≤ n) × (n ≤ most s)

pub goes_pending : (n : ℕ) → 0 < n → n ≤ 65535 → Goes (pending n) n
goes_pending n some few = elim (cases_Bool (eqb n 1)) as (λ _. Goes (pending n) n) [
  | inl e ↦ (let one = eqb-true n 1 e in rw e (omega (arith, one), omega (arith, one)))
  | inr e ↦ (let one = eqb-false n 1 e in rw e (omega (arith, one, some), few))
]

-- each state goes with a mirror at least
some_least : (s : State) → 0 < least s
some_least states.Single = omega arith
some_least states.ReadOnly = omega arith
some_least states.WritePending = omega arith
some_least states.SyncPending = omega arith

-- a valid layout has a mirror
pub some_mirror : (l : Composite) → (v : IsValid l) → 0 < length v.mirrors
some_mirror l v = let one = some_least l.state in let low = v.low in omega (arith, one, low)

-- a valid layout has no more mirrors than ids
pub few_mirrors : (l : Composite) → (v : IsValid l) → length v.mirrors ≤ 65535
few_mirrors l v = let few = few_ids 0 l.next_mirror v.mirrors v.ascend in let below = v.below in let top = v.few in omega (arith, few, below, top)

-- so it has few ids
pub few_mirror_ids : (l : Composite) → IsValid l → length (mirror_ids l.components) ≤ 65535
few_mirror_ids l v = let n = count_ids l v in let few = few_mirrors l v in omega (arith, n, few)

-- another generation, and a state that goes with its mirrors, leave a layout valid
pub with_state : (l : Composite) → (v : IsValid l) → (g : ℕ) (s : State) → 0 < g → Goes s (length v.mirrors) → IsValid (record l { generation = g; state = s })
with_state l v g s some goes = record {
  mirrors = v.mirrors;
  whole = v.whole;
  ascend = v.ascend;
  numbered = v.numbered;
  shaped = v.shaped;
  fresh = v.fresh;
  low = goes.0;
  high = goes.1;
  generation = some;
  below = v.below;
  few = v.few;
}

-- a layout whose lease is broken is valid
pub broken_valid : (l : Composite) → IsValid l → IsValid (broken l)
broken_valid l v =
    let n = count_ids l v in
    with_state l v (l.generation + 1) (pending (length (mirror_ids l.components))) (omega arith) (rw n (goes_pending (length v.mirrors) (some_mirror l v) (few_mirrors l v)))
