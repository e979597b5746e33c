-- A layout is what its fields say.
use Rattle.std.proofs.Common.{◌≡◌, ℕ, List, length, refl, ap, ◌∙◌}
use Rattle.composite_layout.specs.declared.component.Component.{Component}
use Rattle.composite_layout.specs.declared.component.State.{State}
use Rattle.composite_layout.specs.declared.component.State.TheVariants as states
use Rattle.composite_layout.specs.declared.spec.MirrorSpec.{MirrorSpec}
use Rattle.composite_layout.specs.Layouts.{Composite}
use Rattle.composite_layout.specs.LookUps.{mirror_ids}
use Rattle.layout_state.specs.Breaking.{unleased}
use Rattle.layout_state.specs.Mirroring.{IsAdd, IsRemove, Merge, Off, left_state}
use Rattle.meta_server.specs.Layouts.{extended, lessened, merged, split_off}

by_fields : (l : Composite) {g : ℕ} {s : State} {m n : ℕ} {cs : List Component} → l.generation ≡ g → l.state ≡ s → l.next_mirror ≡ m → l.next_counter ≡ n → l.components ≡ cs
    → l ≡ record { generation = g; state = s; next_mirror = m; next_counter = n; components = cs }
by_fields l a b c d e = λ j. record { generation = a j; state = b j; next_mirror = c j; next_counter = d j; components = e j }

pub extended_is : {mirrors : List MirrorSpec} {targets : ℕ} (l : Composite) {new : Composite} → IsAdd mirrors targets (unleased l) new → new ≡ extended mirrors targets l
extended_is l {new = new} h = by_fields new h.generation h.state h.next_mirror h.next_counter h.components

pub lessened_is : {mirror : ℕ} (l : Composite) {new : Composite} → IsRemove mirror (unleased l) new → new ≡ lessened mirror l
lessened_is l {new = new} h =
    by_fields new h.generation (h.state ∙ ap (λ (cs : List Component). left_state (length (mirror_ids cs)) (unleased l).state) h.components) h.next_mirror h.next_counter h.components

pub split_off_is : {mirror : ℕ} (l : Composite) {part : Composite} → Off mirror (unleased l) part → part ≡ split_off mirror l
split_off_is l {part = part} h = by_fields part h.generation h.state h.next_mirror h.next_counter h.components

pub merged_is : {l victim new : Composite} → Merge l victim new → new ≡ merged victim l
merged_is {new = new} h = by_fields new h.generation h.state h.next_mirror h.next_counter h.components

-- a break leaves the next mirror id
pub unleased_next : (l : Composite) → (unleased l).next_mirror ≡ l.next_mirror
unleased_next l = go l.generation l.state l.next_mirror l.next_counter l.components
  where
    go : (g : ℕ) (s : State) (m n : ℕ) (cs : List Component) → (unleased (record { generation = g; state = s; next_mirror = m; next_counter = n; components = cs })).next_mirror ≡ m
    go g states.Single m n cs = refl
    go g states.ReadOnly m n cs = refl
    go g states.WritePending m n cs = refl
    go g states.SyncPending m n cs = refl
