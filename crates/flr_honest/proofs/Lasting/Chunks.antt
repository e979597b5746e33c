-- What a copy knows of the bytes of its destinations goes on from chunk to chunk.
use Rattle.std.proofs.Common.{◌≡◌, ℕ, ◌+◌, ◌<◌, ◌≤◌, true, false, List, length, Option, inl, inr, ◌⊎◌, refl, sym, ap, subst, ◌∙◌, arith}
use Rattle.std.proofs.lemmas.Bool.{cases_lt, false≢true}
use Rattle.flr_base.specs.declared.reply.FailedCall.{FailedCall}
use Rattle.flr_base.specs.declared.reply.Range.{Range}
use Rattle.composite_layout.specs.declared.component.Component.{Component}
use Rattle.layout_lease.specs.declared.lease.KeyState.TheVariants.{Held}
use Rattle.layout_lease.specs.Leases.{state_of}
use Rattle.mirror_select.specs.Held.{held}
use Rattle.call_steps.specs.Servers.{Servers}
use Rattle.resync_copy.specs.declared.phase.Chunk.{Chunk}
use Rattle.resync_copy.specs.Chunks.{chunk_of, chunk_start}
use Rattle.resync_copy.specs.Copies.{chunks_from, clears, copies_from, leaves_at}
use Rattle.resync_copy.specs.Parts.{destination_at, is_kept}
use Rattle.resync_copy.specs.Views.{CopyingView}
use Rattle.copy_laws.proofs.Less.{less_at}
use Rattle.flr_claims.specs.Honesty.{IsOf, content}
use Rattle.flr_claims.specs.Sending.{Part, reach_of}
use Rattle.flr_bytes.specs.Calls.{AreCopied, HoldsFile, IsCopiedTo, IsKeptDestination, StageSays}
use Rattle.flr_bytes.proofs.Held.{held_unmade}
use Rattle.flr_honest.proofs.Lasting.Destinations.{destination_extent, still_kept}
use Rattle.flr_honest.proofs.Lasting.Going.{Goes, IsHoleOf, chunks_from_go, copies_go, end_at}
use Rattle.flr_honest.proofs.Lasting.Sourced.{IsClear, source_holds}

-- a copy of which fewer destinations are kept is as clear
pub clear_less : (s : Servers) (lands : ℕ → Part → Type 0) (byte : ℕ → ℕ → ℕ) (x : CopyingView) (place : ℕ) (call : FailedCall) → IsClear s lands byte x → IsClear s lands byte (leaves_at x place call)
clear_less s lands byte x place call clear = ((clear.0.0, (less_at place call x.destinations).same ∙ clear.0.1), (λ stands p landed over. clear.1 stands p landed ((less_at place call x.destinations).overlaps (reach_of p) over)), clear.2)

module _ (s : Servers) (byte : ℕ → ℕ → ℕ) (size : ℕ) where
  -- past the size the file has no bytes; the destinations before a place are copied, and those from there on are empty
  pub record AreBefore (x : CopyingView) (place : ℕ) : Type 0 where
    pub past : (p : ℕ) (d : Component) (y : ℕ) → IsKeptDestination x p d → IsOf d y → size ≤ y → byte x.side.key.file y ≡ 0
    pub before : (p : ℕ) (d : Component) → IsKeptDestination x p d → p < place → HoldsFile s (byte x.side.key.file) d
    pub behind : (p : ℕ) (d : Component) → IsKeptDestination x p d → place ≤ p → IsCopiedTo s (byte x.side.key.file) d 0

  -- so it is with those at other places, and the one at the place is copied up to this chunk
  pub record AreAmid (x : CopyingView) (place number : ℕ) : Type 0 where
    pub past : (p : ℕ) (d : Component) (y : ℕ) → IsKeptDestination x p d → IsOf d y → size ≤ y → byte x.side.key.file y ≡ 0
    pub before : (p : ℕ) (d : Component) → IsKeptDestination x p d → p < place → HoldsFile s (byte x.side.key.file) d
    pub here : (d : Component) → IsKeptDestination x place d → IsCopiedTo s (byte x.side.key.file) d (chunk_start number)
    pub behind : (p : ℕ) (d : Component) → IsKeptDestination x p d → place < p → IsCopiedTo s (byte x.side.key.file) d 0

module _ (s : Servers) (lands : ℕ → Part → Type 0) (byte : ℕ → ℕ → ℕ) (size : ℕ) where
  abbrev pub Ready : CopyingView → ℕ → Type 0
  Ready x place = IsClear s lands byte x × (state_of s.meta.leases x.side.key ≡ Held → AreBefore s byte size x place)

  abbrev pub At : CopyingView → ℕ → ℕ → Type 0
  At x place number = IsClear s lands byte x × (state_of s.meta.leases x.side.key ≡ Held → AreAmid s byte size x place number)

  -- a byte in a hole is zero
  hole_zero : (x : CopyingView) → IsClear s lands byte x → state_of s.meta.leases x.side.key ≡ Held → (place : ℕ) (d : Component) (y : ℕ) → IsKeptDestination x place d → IsOf d y → (failed : List ℕ) → IsHoleOf x.side.layout.components failed (chunk_of y) → byte x.side.key.file y ≡ 0
  hole_zero x clear stands place d y is own failed h =
      let low : chunk_start (chunk_of y) ≤ y = omega arith in
      let high : y < chunk_start (chunk_of y) + 65536 = omega arith in
      sym (source_holds s lands byte x clear stands place d y is own failed (chunk_of y) h.0 h.1 low high) ∙ held_unmade (content s) h.0 y h.2

  skips : (x : CopyingView) (place number next : ℕ) (failed : List ℕ) → At x place number → ((n : ℕ) → number ≤ n → n < next → IsHoleOf x.side.layout.components failed n) → number ≤ next → At x place next
  skips x place number next failed k holes up = (k.0, λ stands. (let a = k.1 stands in record { past = a.past; before = a.before; here = λ d is y own. (here stands a d is y own, λ past. (a.here d is y own).1 (omega (arith, past, up))); behind = a.behind }))
    where
      here : state_of s.meta.leases x.side.key ≡ Held → (a : AreAmid s byte size x place number) → (d : Component) → IsKeptDestination x place d → (y : ℕ) → IsOf d y → y < chunk_start next → held (content s) d y ≡ byte x.side.key.file y
      here stands a d is y own less = by (cases_lt y (chunk_start number))
        where
          by : (y < chunk_start number) ⊎ (chunk_start number ≤ y) → held (content s) d y ≡ byte x.side.key.file y
          by (inl low) = (a.here d is y own).0 low
          by (inr high) =
              let from : number ≤ chunk_of y = omega (arith, high) in
              let to : chunk_of y < next = omega (arith, less) in
              (a.here d is y own).1 high ∙ sym (hole_zero x k.0 stands place d y is own failed (holes (chunk_of y) from to))

  ends : (x : CopyingView) (place number : ℕ) (failed : List ℕ) → At x place number → ((n : ℕ) → number ≤ n → chunk_start n < end_at size x place → IsHoleOf x.side.layout.components failed n) → Ready x (place + 1)
  ends x place number failed k holes = (k.0, λ stands. (let a = k.1 stands in record { past = a.past; before = λ p d is less. before stands a p d is less (cases_lt p place); behind = λ p d is more. a.behind p d is (omega (arith, more)) }))
    where
      whole : state_of s.meta.leases x.side.key ≡ Held → (a : AreAmid s byte size x place number) → (d : Component) → IsKeptDestination x place d → HoldsFile s (byte x.side.key.file) d
      whole stands a d is y own = by (cases_lt y (chunk_start number)) (cases_lt y size)
        where
          by : (y < chunk_start number) ⊎ (chunk_start number ≤ y) → (y < size) ⊎ (size ≤ y) → held (content s) d y ≡ byte x.side.key.file y
          by (inl low) which = (a.here d is y own).0 low
          by (inr high) (inr past) = (a.here d is y own).1 high ∙ sym (a.past place d y is own past)
          by (inr high) (inl less) =
              let from : number ≤ chunk_of y = omega (arith, high) in
              let extent = destination_extent x k.0.0.0.2 k.0.0.1 place d is in
              let last : (destination_at x.destinations place).extent.end ≡ d.extent.end = ap (λ (r : Range). r.end) extent in
              let within = own.1 in
              let to : chunk_start (chunk_of y) < end_at size x place = omega (arith, less, last, within) in
              (a.here d is y own).1 high ∙ sym (hole_zero x k.0 stands place d y is own failed (holes (chunk_of y) from to))

      before : state_of s.meta.leases x.side.key ≡ Held → (a : AreAmid s byte size x place number) → (p : ℕ) (d : Component) → IsKeptDestination x p d → p < place + 1 → (p < place) ⊎ (place ≤ p) → HoldsFile s (byte x.side.key.file) d
      before stands a p d is less (inl low) = a.before p d is low
      before stands a p d is less (inr high) = let same : p ≡ place = omega (arith, less, high) in whole stands a d (subst (λ k. IsKeptDestination x k d) same is)

  leaves : (x : CopyingView) (place number : ℕ) (call : FailedCall) → At x place number → Ready (leaves_at x place call) (place + 1)
  leaves x place number call k = (
    clear_less s lands byte x place call k.0,
    λ stands. (let a = k.1 stands in record {
      past = λ p d y is own past. a.past p d y (still_kept x place call p d is).1 own past;
      before = λ p d is less. (let w = still_kept x place call p d is in a.before p d w.1 (by p less w.0 (cases_lt p place)));
      behind = λ p d is more. a.behind p d (still_kept x place call p d is).1 (omega (arith, more));
    }),
  )
    where
      by : (p : ℕ) → p < place + 1 → (p ≡ place → ⊥) → (p < place) ⊎ (place ≤ p) → p < place
      by p less apart (inl low) = low
      by p less apart (inr high) = absurd (apart (omega (arith, less, high)))

  passes : (x : CopyingView) (place : ℕ) → Ready x place → is_kept (destination_at x.destinations place) ≡ false → Ready x (place + 1)
  passes x place r isnt = (r.0, λ stands. (let a = r.1 stands in record { past = a.past; before = λ p d is less. a.before p d is (by p d is less (cases_lt p place)); behind = λ p d is more. a.behind p d is (omega (arith, more)) }))
    where
      by : (p : ℕ) (d : Component) → IsKeptDestination x p d → p < place + 1 → (p < place) ⊎ (place ≤ p) → p < place
      by p d is less (inl low) = low
      by p d is less (inr high) = let same : p ≡ place = omega (arith, less, high) in absurd (false≢true (sym isnt ∙ ap (λ k. is_kept (destination_at x.destinations k)) (sym same) ∙ is.kept))

  starts : (x : CopyingView) (place : ℕ) → Ready x place → place < length x.destinations → is_kept (destination_at x.destinations place) ≡ true → At x place (chunk_of (destination_at x.destinations place).extent.start)
  starts x place r within kept = (r.0, λ stands. (let a = r.1 stands in record { past = a.past; before = a.before; here = λ d is y own. ((λ less. absurd (never d is y own less)), λ past. (a.behind place d is (omega arith) y own).1 (omega arith)); behind = λ p d is more. a.behind p d is (omega (arith, more)) }))
    where
      never : (d : Component) → IsKeptDestination x place d → (y : ℕ) → IsOf d y → y < chunk_start (chunk_of (destination_at x.destinations place).extent.start) → ⊥
      never d is y own less =
          let first : (destination_at x.destinations place).extent.start ≡ d.extent.start = ap (λ (e : Range). e.start) (destination_extent x r.0.0.0.2 r.0.0.1 place d is) in
          let low = own.0 in
          omega (arith, less, first, low)

  clear : (x : CopyingView) (place : ℕ) → Ready x place → length x.destinations ≤ place → StageSays s byte (clears x)
  clear x place r past stands = inr (x, refl, r.0.0.0.1, refl, λ p d is. (let within = is.within in (r.1 stands).before p d is (omega (arith, within, past))))

  -- what is known of a chunk, whatever failed before
  pub to_copied : (h : Chunk) → AreAmid s byte h.size h.copying h.place h.number → AreCopied s byte h
  to_copied h a = record { past = a.past; before = a.before; here = a.here; behind = a.behind }

  pub goes : Goes (StageSays s byte) size Ready At
  goes = record {
    skips = skips;
    ends = ends;
    leaves = leaves;
    passes = passes;
    starts = starts;
    clears = clear;
    takes = λ x place number failed last k c is made stands. (let a = k.1 stands in record { past = a.past; before = a.before; here = a.here; behind = a.behind });
  }

  -- the destinations from a place on are next
  pub copies_say : (place : ℕ) (x : CopyingView) → Ready x place → StageSays s byte (copies_from size place x)
  copies_say = copies_go (StageSays s byte) size Ready At goes

  -- the chunks of a destination from this one on are next
  pub chunks_say : (x : CopyingView) (place number : ℕ) (failed : List ℕ) (last : Option FailedCall) → At x place number → StageSays s byte (chunks_from size place failed last number x)
  chunks_say = chunks_from_go (StageSays s byte) size Ready At goes
