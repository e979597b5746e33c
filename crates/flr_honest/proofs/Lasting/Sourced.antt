-- A component from which bytes are copied holds the bytes of the file wherever they are to be copied.
use Rattle.std.proofs.Common.{◌≡◌, ℕ, ◌+◌, ◌<◌, ◌≤◌, Bool, true, false, ◌&&◌, ◌||◌, ltb, nat_eq, nat_le, not, List, Some, inl, inr, ◌⊎◌, refl, arith}
use Rattle.std.specs.Prelude.{◌^◌, ◌%◌}
use Rattle.std.specs.List.{list_all, list_any}
use Rattle.std.proofs.lemmas.Bool.{and_parts, leb-true, ltb-true}
use Rattle.stripe_map.specs.Places.{place_of}
use Rattle.composite_layout.specs.declared.component.Component.{Component}
use Rattle.composite_layout.specs.Layouts.{eof}
use Rattle.layout_lease.specs.declared.lease.KeyState.TheVariants.{Held}
use Rattle.layout_lease.specs.Leases.{state_of}
use Rattle.mirror_select.specs.Candidates.{chosen, comes_first, has_byte, is_candidate, is_least, is_usable}
use Rattle.mirror_select.specs.Held.{held}
use Rattle.mirror_select.proofs.Least.{In, found_in}
use Rattle.mirror_select.proofs.Sound.{IsGood, are_good, has_parts}
use Rattle.meta_server.specs.declared.answers.Side.{Side}
use Rattle.call_steps.specs.Servers.{Servers}
use Rattle.resync_copy.specs.Chunks.{chunk_start}
use Rattle.resync_copy.specs.Parts.{overlaps_kept}
use Rattle.resync_copy.specs.Views.{CopyingView}
use Rattle.flr_claims.specs.Honesty.{IsOf, content}
use Rattle.flr_claims.specs.Sending.{OfTruncate, OfWrite, Part, is_over, reach_of}
use Rattle.flr_bytes.specs.Calls.{IsKeptDestination}
use Rattle.flr_sole.specs.Copies.{IsBegun, NoneLands}
use Rattle.flr_honest.proofs.Lasting.Destinations.{destination_over}

-- a byte of the part is among those that it reaches
pub over_reach : (p : Part) (x : ℕ) → is_over x p ≡ true → ((reach_of p).start ≤ x) × (x < (reach_of p).end)
over_reach (OfWrite p) x over =
    let parts = and_parts (nat_le p.range.start x) (ltb x p.range.end) over in
    (leb-true p.range.start x parts.0, ltb-true x p.range.end parts.1)
over_reach (OfTruncate size s) x over =
    let first = and_parts (nat_le size x) ((nat_le s.component.extent.start x && ltb x s.component.extent.end) && nat_eq (place_of x s.component.stripe).index s.index) over in
    let extent = (and_parts (nat_le s.component.extent.start x && ltb x s.component.extent.end) (nat_eq (place_of x s.component.stripe).index s.index) first.1).0 in
    let parts = and_parts (nat_le s.component.extent.start x) (ltb x s.component.extent.end) extent in
    let a = leb-true size x first.0 in
    let b = leb-true s.component.extent.start x parts.0 in
    (omega (arith, a, b), ltb-true x s.component.extent.end parts.1)

not_true : (b : Bool) → not b ≡ true → b ≡ false
not_true false e = refl
not_true true e = absurd (cc)

-- who answers a byte is one of the components, is fresh, and has the byte
pub record Answers (cs : List Component) (byte : ℕ) (c : Component) : Type 0 where
  pub listed : In c cs
  pub fresh : c.flags.stale ≡ false
  pub low : c.extent.start ≤ byte
  pub high : byte < c.extent.end

pub answers : (cs : List Component) (failed : List ℕ) (byte : ℕ) (c : Component) → chosen cs failed byte ≡ Some c → Answers cs byte c
answers cs failed byte c e =
    let found = found_in (is_least cs failed byte) cs c e in
    let candidate = (and_parts (is_candidate failed byte c) (list_all (λ d. not (is_candidate failed byte d) || comes_first c d) cs) found.1).0 in
    let parts = and_parts (has_byte byte c) (is_usable failed c) candidate in
    let usable = and_parts (not c.flags.stale) (not c.flags.offline && not (list_any (λ id. nat_eq id c.id) failed)) parts.1 in
    let within = has_parts byte c parts.0 in
    record { listed = found.0; fresh = not_true c.flags.stale usable.0; low = within.0; high = within.1 }

-- it has all bytes of the chunk that are within the greatest file
pub whole_chunk : (c : Component) (n y : ℕ) → IsGood c → chunk_start n < c.extent.end → y < chunk_start n + 65536 → y < 2 ^ 40 → y < c.extent.end
whole_chunk c n y good low high most = by good.ends
  where
    by : (c.extent.end ≡ eof) ⊎ ((c.extent.end % 65536 ≡ 0) × (c.extent.end < eof)) → y < c.extent.end
    by (inl end) = let less : y < eof = omega (arith, most) in omega (arith, less, end)
    by (inr end) = let even = end.0 in omega (arith, even, low, high)

-- while its lease stands, fresh components of a side hold the bytes of its file, but where a part has landed
abbrev pub AreHeld : Servers → (ℕ → Part → Type 0) → (ℕ → ℕ → ℕ) → Side → Type 0
AreHeld s lands byte side =
    state_of s.meta.leases side.key ≡ Held → (c : Component) (y : ℕ) → In c side.layout.components → c.flags.stale ≡ false → IsOf c y → ((p : Part) → lands side.key.file p → is_over y p ≡ true → ⊥) → held (content s) c y ≡ byte side.key.file y

-- what is known of a copy that has settled: its begin, that no part that has landed reaches a destination that isn't left, and what its sources hold
abbrev pub IsClear : Servers → (ℕ → Part → Type 0) → (ℕ → ℕ → ℕ) → CopyingView → Type 0
IsClear s lands byte x = IsBegun s.meta x × NoneLands s.meta lands x.side.key (overlaps_kept x.destinations) × AreHeld s lands byte x.side

module _ (s : Servers) (lands : ℕ → Part → Type 0) (byte : ℕ → ℕ → ℕ) (x : CopyingView) (clear : IsClear s lands byte x) (stands : state_of s.meta.leases x.side.key ≡ Held) where
  pub source_holds : (place : ℕ) (d : Component) (y : ℕ) → IsKeptDestination x place d → IsOf d y → (failed : List ℕ) (n : ℕ) (c : Component) → chosen x.side.layout.components failed (chunk_start n) ≡ Some c → chunk_start n ≤ y → y < chunk_start n + 65536
      → held (content s) c y ≡ byte x.side.key.file y
  source_holds place d y is own failed n c chosen_is low high =
      let a = answers x.side.layout.components failed (chunk_start n) c chosen_is in
      let good : IsGood c = (are_good x.side.layout clear.0.0.2).each c a.listed in
      let from = a.low in
      let start : c.extent.start ≤ y = omega (arith, from, low) in
      let end : y < c.extent.end = whole_chunk c n y good a.high high own.2 in
      clear.2 stands c y a.listed a.fresh (start, end, own.2)
      (λ p landed over. (let r = over_reach p y over in clear.1 stands p landed (destination_over x clear.0.0.2 clear.0.1 place d is y (reach_of p) own.0 own.1 r.0 r.1)))
