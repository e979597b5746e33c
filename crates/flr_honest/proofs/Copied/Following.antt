-- What a copy knows of bytes goes on to its next stage.
use Rattle.std.proofs.Common.{◌≡◌, ℕ, zero, suc, ◌+◌, ◌-◌, ◌<◌, ◌≤◌, Bool, true, false, not, cond, Option, Some, None, List, [], ◌∷◌, length, drop, ◌⊎◌, inl, inr, refl, sym, ap, subst, ◌∙◌, arith}
use Rattle.std.specs.Prelude.{find, unwrap_or}
use Rattle.std.specs.List.{range_with_len}
use Rattle.std.specs.Option.{option_map_or}
use Rattle.std.proofs.lemmas.Bool.{and_parts, cases_eq, cases_lt, false≢true}
use Rattle.flr_base.specs.declared.reply.FailedCall.{FailedCall}
use Rattle.flr_base.specs.declared.reply.Range.{Range}
use Rattle.composite_layout.specs.declared.component.Component.{Component}
use Rattle.layout_lease.specs.declared.lease.KeyState.TheVariants.{Held}
use Rattle.layout_lease.specs.Leases.{state_of}
use Rattle.mirror_select.specs.Candidates.{chosen, has_byte, is_candidate, is_least, is_usable}
use Rattle.mirror_select.specs.Held.{held}
use Rattle.mirror_select.proofs.Least.{In, found_in}
use Rattle.mirror_select.proofs.Sound.{are_good}
use Rattle.call_steps.specs.Servers.{Servers}
use Rattle.resync_copy.specs.declared.parts.Destination.{Destination}
use Rattle.resync_copy.specs.declared.phase.Chunk.{Chunk}
use Rattle.resync_copy.specs.declared.phase.CopyStage.{CopyStage}
use Rattle.resync_copy.specs.Chunks.{chunk_of, chunk_start, chunks_below, chunks_between, first_solid, is_hole}
use Rattle.resync_copy.specs.Copies.{chunks_from, clears, clears_none, copies_chunks, copies_each, copies_from, copies_solid, end_of, leaves_at, no_call, takes_from}
use Rattle.resync_copy.specs.Parts.{destination_at, is_kept, left_at, left_if}
use Rattle.resync_copy.specs.Views.{CopyingView}
use Rattle.copy_laws.proofs.Less.{less_at}
use Rattle.flr_claims.specs.Honesty.{IsOf, content}
use Rattle.flr_sole.specs.Copies.{IsBegun}
use Rattle.flr_sole.proofs.Readying.{begun_less}
use Rattle.flr_bytes.specs.Calls.{AreCopied, HoldsFile, IsCopiedTo, IsKeptDestination, StageSays}
use Rattle.flr_honest.proofs.Copied.Chunks.{IsIn, covers_chunk, is_in}
use Rattle.flr_honest.proofs.Copied.Destinations.{drop_set, dropped_first, dropped_none, extent_is, kept_before}

-- where a fresh component without objects has a byte of a destination that isn't left, the file has a zero
abbrev pub HolesAreZero : (ℕ → ℕ) → CopyingView → Type 0
HolesAreZero byte x = (c : Component) → In c x.side.layout.components → c.flags.stale ≡ false → c.flags.init ≡ false → (place : ℕ) (d : Component) → IsKeptDestination x place d → (y : ℕ) → IsOf c y → IsOf d y → byte y ≡ 0

-- past the size the file has no bytes in a destination that isn't left; each of those before this place is copied, and the others are empty
pub record AreCopiedBefore (s : Servers) (byte : ℕ → ℕ) (size place : ℕ) (x : CopyingView) : Type 0 where
  pub past : (p : ℕ) (d : Component) (y : ℕ) → IsKeptDestination x p d → IsOf d y → size ≤ y → byte y ≡ 0
  pub before : (p : ℕ) (d : Component) → IsKeptDestination x p d → p < place → HoldsFile s byte d
  pub behind : (p : ℕ) (d : Component) → IsKeptDestination x p d → place ≤ p → IsCopiedTo s byte d 0

-- who is chosen is one of the components, fresh, and has the byte
pub chosen_has : (cs : List Component) (failed : List ℕ) (byte : ℕ) (c : Component) → chosen cs failed byte ≡ Some c → In c cs × (has_byte byte c ≡ true) × (c.flags.stale ≡ false)
chosen_has cs failed byte c e =
    let f = found_in (is_least cs failed byte) cs c e in
    let candidate = (and_parts (is_candidate failed byte c) _ f.1).0 in
    let parts = and_parts (has_byte byte c) (is_usable failed c) candidate in
    (f.0, parts.0, isnt c.flags.stale (and_parts (not c.flags.stale) _ parts.1).0)
  where
    isnt : (b : Bool) → not b ≡ true → b ≡ false
    isnt true e = sym e
    isnt false e = refl

-- a hole has who is chosen there, without objects
pub hole_has : (cs : List Component) (failed : List ℕ) (number : ℕ) → is_hole cs failed number ≡ true → (c : Component) × (chosen cs failed (chunk_start number) ≡ Some c) × (c.flags.init ≡ false)
hole_has cs failed number e = by (chosen cs failed (chunk_start number)) refl e
  where
    isnt : (b : Bool) → not b ≡ true → b ≡ false
    isnt true e = sym e
    isnt false e = refl

    by : (o : Option Component) → chosen cs failed (chunk_start number) ≡ o → option_map_or (λ (c : Component). not c.flags.init) o false ≡ true → (c : Component) × (chosen cs failed (chunk_start number) ≡ Some c) × (c.flags.init ≡ false)
    by None is e = absurd (false≢true e)
    by (Some c) is e = (c, is, isnt c.flags.init e)

-- of the numbers from one on none passes, or those before the first that does
pub none_passes : (p : ℕ → Bool) (from count k : ℕ) → find p (range_with_len from count) ≡ None → from ≤ k → k < from + count → p k ≡ false
none_passes p from zero k e low high = absurd (omega (arith, low, high))
none_passes p from (suc count) k e low high = by (p from) refl e (λ e low. none_passes p (from + 1) count k e low (omega (arith, high)))
  where
    by : (b : Bool) → p from ≡ b → cond b (Some from) (find p (range_with_len (from + 1) count)) ≡ None → (find p (range_with_len (from + 1) count) ≡ None → from + 1 ≤ k → p k ≡ false) → p k ≡ false
    by true is e rest = absurd (cc)
    by false is e rest = elim (cases_eq k from) [
      | inl same ↦ ap p same ∙ is
      | inr apart ↦ rest e (omega (arith, low, apart))
    ]

pub none_before : (p : ℕ → Bool) (from count first k : ℕ) → find p (range_with_len from count) ≡ Some first → from ≤ k → k < first → p k ≡ false
none_before p from zero first k e low high = absurd (cc)
none_before p from (suc count) first k e low high = by (p from) refl e (λ e low. none_before p (from + 1) count first k e low high)
  where
    by : (b : Bool) → p from ≡ b → cond b (Some from) (find p (range_with_len (from + 1) count)) ≡ Some first → (find p (range_with_len (from + 1) count) ≡ Some first → from + 1 ≤ k → p k ≡ false) → p k ≡ false
    by true is e rest = let same : from ≡ first = cc in absurd (omega (arith, low, high, same))
    by false is e rest = elim (cases_eq k from) [
      | inl same ↦ ap p same ∙ is
      | inr apart ↦ rest e (omega (arith, low, apart))
    ]

pub first_from : (p : ℕ → Bool) (from count first : ℕ) → find p (range_with_len from count) ≡ Some first → from ≤ first
first_from p from zero first e = absurd (cc)
first_from p from (suc count) first e = by (p from) e (λ e. first_from p (from + 1) count first e)
  where
    by : (b : Bool) → cond b (Some from) (find p (range_with_len (from + 1) count)) ≡ Some first → (find p (range_with_len (from + 1) count) ≡ Some first → from + 1 ≤ first) → from ≤ first
    by true e rest = let same : from ≡ first = cc in omega (arith, same)
    by false e rest = let more = rest e in omega (arith, more)

pub twice : (b : Bool) → not b ≡ false → b ≡ true
twice true e = refl
twice false e = absurd (false≢true (sym e))

module _ (s : Servers) (byte : ℕ → ℕ → ℕ) (size : ℕ) where
  -- what a copy knows that has settled, with all before this place copied
  abbrev pub KnowsTo : ℕ → CopyingView → Type 0
  KnowsTo place x = IsBegun s.meta x × (state_of s.meta.leases x.side.key ≡ Held → AreCopiedBefore s (byte x.side.key.file) size place x × HolesAreZero (byte x.side.key.file) x)

  -- with one left it still does
  pub less_knows : (place k : ℕ) (call : FailedCall) (x : CopyingView) → KnowsTo place x → KnowsTo place (leaves_at x k call)
  less_knows place k call x b = (
    begun_less s.targets x (left_at k call x.destinations) (less_at k call x.destinations) s.meta b.0,
    λ stands. (let c = b.1 stands in (
      record {
        past = λ p d y is. c.0.past p d y (kept_before x k call p d is).1;
        before = λ p d is. c.0.before p d (kept_before x k call p d is).1;
        behind = λ p d is. c.0.behind p d (kept_before x k call p d is).1;
      },
      λ e i fresh none p d is. c.1 e i fresh none p d (kept_before x k call p d is).1,
    )),
  )

  -- and when that one was next, it is before those that follow
  left_knows : (place : ℕ) (call : FailedCall) (x : CopyingView) → KnowsTo place x → KnowsTo (place + 1) (leaves_at x place call)
  left_knows place call x b = let less = less_knows place place call x b in (
    less.0,
    λ stands. (let c = (less.1 stands).0 in (
      record {
        past = c.past;
        before = λ p d is low. c.before p d is (let apart = (kept_before x place call p d is).0 in omega (arith, low, apart));
        behind = λ p d is high. c.behind p d is (omega (arith, high));
      },
      (less.1 stands).1,
    )),
  )

  -- who isn't there to be copied is passed over
  passed_knows : (place : ℕ) (x : CopyingView) → ((d : Component) → IsKeptDestination x place d → ⊥) → KnowsTo place x → KnowsTo (place + 1) x
  passed_knows place x none b = (
    b.0,
    λ stands. (let c = (b.1 stands).0 in (
      record {
        past = c.past;
        before = λ p d is low. elim (cases_eq p place) [ inl same ↦ absurd (none d (subst (λ k. IsKeptDestination x k d) same is)) | inr apart ↦ c.before p d is (omega (arith, low, apart)) ];
        behind = λ p d is high. c.behind p d is (omega (arith, high));
      },
      (b.1 stands).1,
    )),
  )

  -- ---- the stages

  pub clears_say : (place : ℕ) (x : CopyingView) → KnowsTo place x → ((p : ℕ) → p < length x.destinations → p < place) → StageSays s byte (clears x)
  clears_say place x b all stands = inr (x, refl, b.0.0.1, refl, λ p d is. (b.1 stands).0.before p d is (all p is.within))

  pub none_say : (x : CopyingView) → StageSays s byte (clears_none x)
  none_say x stands = inl refl

  -- ---- the chunks of one destination

  module _ (place : ℕ) (failed : List ℕ) (last : Option FailedCall) where
    abbrev pub chunk_at : CopyingView → ℕ → Chunk
    chunk_at x number = record { copying = x; size = size; place = place; number = number; failed = failed; last = last }

    -- what it knows at a chunk
    abbrev pub KnowsAt : CopyingView → ℕ → Type 0
    KnowsAt x number = IsBegun s.meta x × (state_of s.meta.leases x.side.key ≡ Held → AreCopied s byte (chunk_at x number) × HolesAreZero (byte x.side.key.file) x)

    module _ (x : CopyingView) (number : ℕ) (b : KnowsAt x number) where
      abbrev hole : ℕ → Bool
      hole k = is_hole x.side.layout.components failed k

      abbrev end : ℕ
      end = end_of size (destination_at x.destinations place)

      module _ (stands : state_of s.meta.leases x.side.key ≡ Held) (d : Component) (is : IsKeptDestination x place d) where
        c : AreCopied s byte (chunk_at x number) × HolesAreZero (byte x.side.key.file) x
        c = b.1 stands

        -- the file has zeros in a hole
        hole_zero : (k y : ℕ) → hole k ≡ true → IsIn k y → IsOf d y → byte x.side.key.file y ≡ 0
        hole_zero k y e i own =
            let h = hole_has x.side.layout.components failed k e in
            let f = chosen_has x.side.layout.components failed (chunk_start k) h.0 h.1 in
            let over = covers_chunk h.0 ((are_good x.side.layout b.0.0.2).each h.0 f.0) k y f.1 i own.2 in
            c.1 h.0 f.0 f.2 h.2 place d is y (over.0, over.1, own.2) own

        -- so the component holds the file's bytes up to another chunk, if those between are holes
        further : (next : ℕ) → number ≤ next → ((k : ℕ) → number ≤ k → k < next → hole k ≡ true) → IsCopiedTo s (byte x.side.key.file) d (chunk_start next)
        further next more holes y own = (below, λ high. (c.0.here d is y own).1 (omega (arith, high, more)))
          where
            below : y < chunk_start next → held (content s) d y ≡ byte x.side.key.file y
            below low = by (cases_lt y (chunk_start number))
              where
                at : IsIn (chunk_of y) y
                at = is_in y

                by : (y < chunk_start number) ⊎ (chunk_start number ≤ y) → held (content s) d y ≡ byte x.side.key.file y
                by (inl less) = (c.0.here d is y own).0 less
                by (inr past) =
                    let first = at.0 in
                    let last = at.1 in
                    (c.0.here d is y own).1 past ∙ sym (hole_zero (chunk_of y) y (holes (chunk_of y) (omega (arith, last, past)) (omega (arith, first, low))) at own)

        -- and all of them, if all are up to the end
        whole : ((k : ℕ) → number ≤ k → k < chunks_below end → hole k ≡ true) → HoldsFile s (byte x.side.key.file) d
        whole holes y own = by (cases_lt y (chunk_start number))
          where
            extent : (destination_at x.destinations place).extent.end ≡ d.extent.end
            extent = ap (λ (r : Range). r.end) (extent_is x b.0.0.2 b.0.1 place d is)

            at : IsIn (chunk_of y) y
            at = is_in y

            zero_there : chunk_start number ≤ y → (y < end) ⊎ (end ≤ y) → byte x.side.key.file y ≡ 0
            zero_there past (inl less) =
                let first = at.0 in
                let last = at.1 in
                hole_zero (chunk_of y) y (holes (chunk_of y) (omega (arith, last, past)) (omega (arith, first, less))) at own
            zero_there past (inr more) = let high = own.1 in c.0.past place d y is own (omega (arith, more, extent, high))

            by : (y < chunk_start number) ⊎ (chunk_start number ≤ y) → held (content s) d y ≡ byte x.side.key.file y
            by (inl less) = (c.0.here d is y own).0 less
            by (inr past) = (c.0.here d is y own).1 past ∙ sym (zero_there past (cases_lt y end))

      -- the chunk in hand is a later one
      later_knows : (next : ℕ) → number ≤ next → ((k : ℕ) → number ≤ k → k < next → hole k ≡ true) → KnowsAt x next
      later_knows next more holes = (b.0, λ stands. (let c = b.1 stands in (record { past = c.0.past; before = c.0.before; here = λ d is. further stands d is next more holes; behind = c.0.behind }, c.1)))

      -- or the destination is done
      done_knows : ((k : ℕ) → number ≤ k → k < chunks_below end → hole k ≡ true) → KnowsTo (place + 1) x
      done_knows holes = (
        b.0,
        λ stands. (let c = b.1 stands in (
          record {
            past = c.0.past;
            before = λ p d is low. elim (cases_eq p place) [ inl same ↦ whole stands d (subst (λ k. IsKeptDestination x k d) same is) holes | inr apart ↦ c.0.before p d is (omega (arith, low, apart)) ];
            behind = λ p d is high. c.0.behind p d is (omega (arith, high));
          },
          c.1,
        )),
      )

      -- or it is left
      gone_knows : (call : FailedCall) → KnowsTo (place + 1) (leaves_at x place call)
      gone_knows call = (
        begun_less s.targets x (left_at place call x.destinations) (less_at place call x.destinations) s.meta b.0,
        λ stands. (let c = b.1 stands in (
          record {
            past = λ p d y is. c.0.past p d y (kept_before x place call p d is).1;
            before = λ p d is low. (let k = kept_before x place call p d is in let apart = k.0 in c.0.before p d k.1 (omega (arith, low, apart)));
            behind = λ p d is high. c.0.behind p d (kept_before x place call p d is).1 (omega (arith, high));
          },
          λ e i fresh none p d is. c.1 e i fresh none p d (kept_before x place call p d is).1,
        )),
      )

    module _ (others : CopyingView → CopyStage) (x : CopyingView) (rest : (y : CopyingView) → KnowsTo (place + 1) y → drop (place + 1) y.destinations ≡ drop (place + 1) x.destinations → StageSays s byte (others y)) where
      takes_say : (number : ℕ) (o : Option Component) → KnowsAt x number → StageSays s byte (takes_from size place failed last others x number o)
      takes_say number (Some c) b = λ stands. (b.1 stands).0
      takes_say number None b = rest (leaves_at x place (unwrap_or last no_call)) (gone_knows x number b (unwrap_or last no_call)) (drop_set x.destinations place (left_if true (unwrap_or last no_call) (destination_at x.destinations place)))

      pub chunks_say : (number : ℕ) → KnowsAt x number → StageSays s byte (copies_chunks size place failed last others x (chunks_between number (end_of size (destination_at x.destinations place))))
      chunks_say number b = by (first_solid x.side.layout.components failed (chunks_between number (end_of size (destination_at x.destinations place)))) refl
        where
          solid : ℕ → Bool
          solid k = not (is_hole x.side.layout.components failed k)

          count : ℕ
          count = chunks_below (end_of size (destination_at x.destinations place)) - number

          by : (o : Option ℕ) → find solid (range_with_len number count) ≡ o → StageSays s byte (copies_solid size place failed last others x o)
          by (Some next) e = takes_say next (chosen x.side.layout.components failed (chunk_start next)) (later_knows x number b next (first_from solid number count next e) (λ k low high. twice (is_hole x.side.layout.components failed k) (none_before solid number count next k e low high)))
          by None e = rest x (done_knows x number b (λ k low high. twice (is_hole x.side.layout.components failed k) (none_passes solid number count k e low (omega (arith, low, high))))) refl

  -- ---- the destinations

  -- the first chunk of a destination that is empty
  first_knows : (place : ℕ) (x : CopyingView) → KnowsTo place x → KnowsAt place [] None x (chunk_of (destination_at x.destinations place).extent.start)
  first_knows place x b = (
    b.0,
    λ stands. (let c = b.1 stands in (
      record {
        past = c.0.past;
        before = c.0.before;
        here = λ d is y own. (
          λ less. absurd (let start = ap (λ (r : Range). r.start) (extent_is x b.0.0.2 b.0.1 place d is) in let low = own.0 in omega (arith, less, start, low)),
          λ past. (c.0.behind place d is (omega arith) y own).1 (omega arith),
        );
        behind = λ p d is high. c.0.behind p d is (omega (arith, high));
      },
      c.1,
    )),
  )

  each_say : (ds : List Destination) (place : ℕ) (x : CopyingView) → drop place x.destinations ≡ ds → KnowsTo place x → StageSays s byte (copies_each size place ds x)
  each_say [] place x e b = clears_say place x b (λ p. dropped_none x.destinations place p e)
  each_say (d ∷ ds) place x e b = by (is_kept d) refl (λ y k same. each_say ds (place + 1) y (same ∙ there.2) k)
    where
      there : (place < length x.destinations) × (destination_at x.destinations place ≡ d) × (drop (place + 1) x.destinations ≡ ds)
      there = dropped_first x.destinations place d ds (destination_at [] 0) e

      by : (t : Bool) → is_kept d ≡ t → ((y : CopyingView) → KnowsTo (place + 1) y → drop (place + 1) y.destinations ≡ drop (place + 1) x.destinations → StageSays s byte (copies_each size (place + 1) ds y))
          → StageSays s byte (cond t (copies_chunks size place [] None (copies_each size (place + 1) ds) x (chunks_between (chunk_of d.extent.start) (end_of size d))) (copies_each size (place + 1) ds x))
      by true kept rest =
          subst (λ (z : Destination). StageSays s byte (copies_chunks size place [] None (copies_each size (place + 1) ds) x (chunks_between (chunk_of z.extent.start) (end_of size z)))) there.1
          (chunks_say place [] None (copies_each size (place + 1) ds) x rest (chunk_of (destination_at x.destinations place).extent.start) (first_knows place x b))
      by false left rest = rest x (passed_knows place x (λ c is. false≢true (sym left ∙ ap is_kept (sym there.1) ∙ is.kept)) b) refl

  pub copies_say : (place : ℕ) (x : CopyingView) → KnowsTo place x → StageSays s byte (copies_from size place x)
  copies_say place x b = each_say (drop place x.destinations) place x refl b

  -- the chunks of a destination from this one on
  pub chunks_from_say : (place : ℕ) (failed : List ℕ) (last : Option FailedCall) (number : ℕ) (x : CopyingView) → KnowsAt place failed last x number → StageSays s byte (chunks_from size place failed last number x)
  chunks_from_say place failed last number x b = chunks_say place failed last (copies_from size (place + 1)) x (λ y k same. copies_say (place + 1) y k) number b
