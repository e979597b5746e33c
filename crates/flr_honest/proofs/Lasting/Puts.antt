-- What a put leaves: the chunk of its destination holds the bytes of the file, and all else what it held.
use Rattle.std.proofs.Common.{◌≡◌, ℕ, zero, suc, ◌+◌, ◌-◌, ◌<◌, ◌≤◌, Bool, true, false, cond, nat_lt, Option, None, Some, List, length, get_or, inl, inr, ◌⊎◌, refl, sym, ap, subst, ◌∙◌, arith}
use Rattle.std.specs.Prelude.{Contains, slice_index, is_some, unwrap_or, ◌/◌}
use Rattle.std.specs.List.Sorted.{IsStrictlyIncreasing}
use Rattle.std.proofs.lemmas.Bool.{cases_lt, false≢true, lt-ltb}
use Rattle.flr_base.specs.declared.reply.FailedCall.{FailedCall}
use Rattle.flr_base.specs.declared.reply.ObjectId.{ObjectId}
use Rattle.object_target.specs.TargetState.{TargetState}
use Rattle.flr_base.specs.declared.reply.Range.{Range}
use Rattle.stripe_map.specs.Places.{place_of}
use Rattle.stripe_map.proofs.PlaceLaws.{chunk_in_one_unit}
use Rattle.composite_layout.specs.declared.component.Component.{Component}
use Rattle.layout_lease.specs.declared.lease.KeyState.TheVariants.{Held}
use Rattle.layout_lease.specs.Leases.{state_of}
use Rattle.mirror_select.specs.declared.types.Piece.{Piece}
use Rattle.mirror_select.specs.Held.{held}
use Rattle.mirror_select.specs.Laws.{LiesIn}
use Rattle.mirror_select.specs.Pieces.{piece_at}
use Rattle.mirror_select.proofs.Least.{In, get_there, to_contains}
use Rattle.mirror_select.proofs.Sound.{IsGood, are_good, every_in, has_from}
use Rattle.mirror_select.proofs.Whole.{lies_in, piece_is}
use Rattle.meta_laws.specs.Numbers.{AreObjectsOnce}
use Rattle.meta_server.specs.Sound.{IsSound}
use Rattle.call_steps.specs.Pieces.{object_of}
use Rattle.call_steps.specs.Servers.{Servers}
use Rattle.copy_laws.proofs.Finds.{chunk_first}
use Rattle.resync_copy.specs.declared.phase.Chunk.{Chunk}
use Rattle.resync_copy.specs.Chunks.{chunk_of, chunk_start, piece_in}
use Rattle.resync_copy.specs.Copies.{bytes_of, destination_of, leaves_at, piece_to}
use Rattle.resync_copy.specs.Fitting as fitting
use Rattle.resync_copy.specs.Views.{CopyingView}
use Rattle.resync_copy.proofs.PartLaws.{with_id_in}
use Rattle.copy_laws.proofs.Less.{IsFrame, frame_at}
use Rattle.copy_laws.proofs.Places.{own_id}
use Rattle.flr_claims.specs.Honesty.{content}
use Rattle.flr_claims.specs.Sending.{Part}
use Rattle.flr_shut.specs.Sentences.{AreStale}
use Rattle.flr_bytes.specs.Calls.{CopiedSoFar, IsCopiedTo, IsKeptDestination, IsInHand}
use Rattle.flr_bytes.specs.Writing.{AreWritten}
use Rattle.flr_bytes.proofs.Landing.{LiesOn, piece_beside, piece_over}
use Rattle.flr_bytes.specs.Fitting.{IsChunkFit}
use Rattle.flr_honest.proofs.Lasting.Chunks.{At, Ready, clear_less}
use Rattle.flr_honest.proofs.Lasting.Destinations.{destination_extent, destination_found, destination_id, destination_in, destination_there, still_kept}
use Rattle.flr_honest.proofs.Lasting.Objects.{listed_at, once_in, other_holds}
use Rattle.flr_honest.proofs.Lasting.Sourced.{IsClear}

-- later ones of ascending numbers are greater
rising : (xs : List ℕ) → IsStrictlyIncreasing xs → (p far : ℕ) → p + suc far < length xs → slice_index xs p < slice_index xs (p + suc far)
rising xs up p zero within = let more = up p within in more
rising xs up p (suc far) within =
    let before = rising xs up p far (omega (arith, within)) in
    let last = up (p + suc far) (omega (arith, within)) in
    let next : (p + suc far) + 1 ≡ p + suc (suc far) = omega arith in
    let more : slice_index xs (p + suc far) < slice_index xs (p + suc (suc far)) = subst (λ k. slice_index xs (p + suc far) < slice_index xs k) next last in
    omega (arith, before, more)

-- none of ascending numbers is there twice
pub none_twice : (xs : List ℕ) → IsStrictlyIncreasing xs → (p q : ℕ) → p < length xs → q < length xs → slice_index xs p ≡ slice_index xs q → p ≡ q
none_twice xs up p q a b same = by (cases_lt p q) (cases_lt q p)
  where
    less : (p q : ℕ) → p < q → q < length xs → slice_index xs p < slice_index xs q
    less p q lt within =
        let far : p + suc (q - p - 1) ≡ q = omega (arith, lt) in
        subst (λ k. slice_index xs p < slice_index xs k) far (rising xs up p (q - p - 1) (omega (arith, far, within)))

    by : (p < q) ⊎ (q ≤ p) → (q < p) ⊎ (p ≤ q) → p ≡ q
    by (inl lt) other = let more = less p q lt b in absurd (omega (arith, more, same))
    by (inr le) (inl lt) = let more = less q p lt a in absurd (omega (arith, more, same))
    by (inr le) (inr ge) = omega (arith, le, ge)

-- an object that is there is that of the piece
pub solid : (o : Option ObjectId) → is_some o ≡ true → o ≡ Some (unwrap_or o (record { target = 0; number = 0 }))
solid (Some x) e = refl
solid None e = absurd (cc)

-- bytes of one chunk lie in one unit of a component's stripes
pub one_unit : (c : Component) → IsGood c → (n y : ℕ) → chunk_start n ≤ y → y < chunk_start n + 65536 → y / c.stripe.size ≡ chunk_start n / c.stripe.size
one_unit c good n y low high = chunk_in_one_unit c.stripe y (chunk_start n) good.shaped.stripe.aligned (let same : y / 65536 ≡ chunk_start n / 65536 = omega (arith, low, high) in same)

module _ (s : Servers) (h : Chunk) (sound : IsSound s.meta) (once : AreObjectsOnce s.meta) (lands : ℕ → Part → Type 0) (byte : ℕ → ℕ → ℕ) (clear : IsClear s lands byte h.copying) (stale : AreStale h.copying) (own : IsChunkFit h) where
  abbrev pub x : CopyingView
  x = h.copying

  abbrev pub cs : List Component
  cs = h.copying.side.layout.components

  pub frame : IsFrame h.copying.side.layout.components h.copying.ids h.place (destination_of h)
  frame = frame_at h.copying.side.layout.components h.copying.ids h.copying.destinations clear.0.1 h.place own.within

  abbrev pub owned : fitting.HasItsObjects h.copying.side.layout.components (slice_index h.copying.ids h.place)
  owned = every_in (fitting.HasItsObjects h.copying.side.layout.components) h.copying.ids (get_or h.copying.ids h.place 0) own.copying.made (get_there h.copying.ids h.place 0 frame.there)

  -- the destination of the chunk
  abbrev pub d : Component
  d = owned.0

  pub i : In d cs
  i = with_id_in cs (slice_index x.ids h.place) d owned.1

  id : d.id ≡ slice_index x.ids h.place
  id = own_id cs (slice_index x.ids h.place) d owned.1

  pub is : IsKeptDestination x h.place d
  is = record { within = own.within; kept = own.kept; listed = to_contains cs d i; same = id ∙ sym frame.component }

  good : IsGood d
  good = (are_good x.side.layout clear.0.0.2).each d i

  abbrev pub start : ℕ
  start = chunk_start h.number

  abbrev pub stop : ℕ
  stop = (bytes_of h).end

  -- where the chunk is put
  abbrev pub p : Piece
  p = piece_at d start stop

  pub put_to : piece_to h ≡ p
  put_to = ap (λ (o : Option Component). piece_in o (bytes_of h)) owned.1

  pub covered : (y : ℕ) → start ≤ y → y < stop → (d.extent.start ≤ y) × (y < d.extent.end) × (y < start + 65536)
  covered y low high =
      let extent : (destination_of h).extent ≡ d.extent = destination_extent x clear.0.0.2 clear.0.1 h.place d is in
      let last : (destination_of h).extent.end ≡ d.extent.end = ap (λ (r : Range). r.end) extent in
      let first : chunk_of d.extent.start ≤ h.number = subst (λ (r : Range). chunk_of r.start ≤ h.number) extent own.from in
      let from : d.extent.start ≤ start = chunk_first d.extent.start h.number good.starts first in
      (omega (arith, from, low), omega (arith, last, high), omega (arith, high))

  lies : (y : ℕ) → start ≤ y → y < stop → LiesIn d p y
  lies y low high = let c = covered y low high in lies_in (λ _. Some d) d good start stop y low (one_unit d good h.number y low c.2) (has_from y d c.0 c.1)

  there : is_some p.object ≡ true
  there =
      (piece_is (λ _. Some d) d good start stop (λ y low high. (let c = covered y low high in (refl, has_from y d c.0 c.1))) (λ y low high. one_unit d good h.number y low (covered y low high).2)).object ∙ owned.2

  abbrev pub o : ObjectId
  o = object_of p

  at : p.object ≡ Some o
  at = solid p.object there

  pub has : In o d.objects
  has = listed_at d.objects (place_of start d.stripe).index o at

  lies_on : (y : ℕ) → start ≤ y → y < stop → LiesOn d p o y
  lies_on y low high = let l = lies y low high in (l.object ∙ at, l.offset)

  -- the destination is stale
  d_stale : d.flags.stale ≡ true
  d_stale = stale d (to_contains cs d i) (subst (λ k. Contains x.ids k) (sym id) (to_contains x.ids (slice_index x.ids h.place) (get_there x.ids h.place 0 frame.there)))

  module _ (targets : List TargetState) (others : (q : ObjectId) → (q ≡ o → ⊥) → content (record s { targets = targets }) q ≡ content s q) where
    abbrev pub after : Servers
    after = record s { targets = targets }

    other : state_of s.meta.leases x.side.key ≡ Held → (place : ℕ) (e : Component) → IsKeptDestination x place e → (place ≡ h.place → ⊥) → (y : ℕ) → held (content after) e y ≡ held (content s) e y
    other stands place e to apart y =
        other_holds s.meta sound once x.side clear.0.0 stands s after o others d e i (destination_in x clear.0.0.2 clear.0.1 place e to) has
        (λ same. apart (own.copying.once place h.place (destination_there x clear.0.0.2 clear.0.1 place e to) frame.there (destination_id x clear.0.0.2 clear.0.1 place e to ∙ ap (λ (c : Component). c.id) (sym same) ∙ id))) y

    fresh : state_of s.meta.leases x.side.key ≡ Held → (c : Component) → In c cs → c.flags.stale ≡ false → (y : ℕ) → held (content after) c y ≡ held (content s) c y
    fresh stands c j isnt y = other_holds s.meta sound once x.side clear.0.0 stands s after o others d c i j has (λ same. false≢true (sym isnt ∙ ap (λ (e : Component). e.flags.stale) (sym same) ∙ d_stale)) y

    -- the sources hold what they held
    pub clear_after : IsClear after lands byte x
    clear_after = (clear.0, clear.1, λ stands c y j isnt of none. fresh stands c j isnt y ∙ clear.2 stands c y j isnt of none)

    -- where the destination is left, the others hold what they held
    pub left_after : (call : FailedCall) → CopiedSoFar s byte h → Ready after lands byte h.size (leaves_at x h.place call) (h.place + 1)
    left_after call says = (
      clear_less after lands byte x h.place call clear_after,
      λ stands. (let a = says stands in record {
        past = λ place e y to of past. a.past place e y (still_kept x h.place call place e to).1 of past;
        before = λ place e to less y of. (let w = still_kept x h.place call place e to in other stands place e w.1 w.0 y ∙ a.before place e w.1 (by place less w.0 (cases_lt place h.place)) y of);
        behind = λ place e to more y of. (
            let w = still_kept x h.place call place e to in
            let same = other stands place e w.1 w.0 y in
            let was = a.behind place e w.1 (omega (arith, more)) y of in ((λ less. same ∙ was.0 less), (λ low. same ∙ was.1 low))
            );
      }),
    )
      where
        by : (place : ℕ) → place < h.place + 1 → (place ≡ h.place → ⊥) → (place < h.place) ⊎ (h.place ≤ place) → place < h.place
        by place less apart (inl low) = low
        by place less apart (inr high) = absurd (apart (omega (arith, less, high)))

    module _ (bytes : List ℕ) (long : length bytes ≡ stop - start) (w : AreWritten s after o p.offset bytes) (says : CopiedSoFar s byte h) (hand : IsInHand s byte h bytes) where
      over : state_of s.meta.leases x.side.key ≡ Held → (y : ℕ) → start ≤ y → y < stop → held (content after) d y ≡ byte x.side.key.file y
      over stands y low high =
          let back : start + (y - start) ≡ y = omega (arith, low) in
          let less : nat_lt (start + (y - start)) stop ≡ true = lt-ltb (start + (y - start)) stop (omega (arith, back, high)) in
          piece_over s after d p o owned.2 (once_in s.meta sound once x.side clear.0.0 stands o d i) lies_on bytes long w y low high
          ∙ hand stands (y - start)
          ∙ ap (λ (b : Bool). cond b (byte x.side.key.file (start + (y - start))) 0) less
          ∙ ap (byte x.side.key.file) back

      beside : state_of s.meta.leases x.side.key ≡ Held → (y : ℕ) → (start ≤ y → y < stop → ⊥) → held (content after) d y ≡ held (content s) d y
      beside stands y out = piece_beside s after d p o owned.2 (once_in s.meta sound once x.side clear.0.0 stands o d i) lies_on bytes long w y out

      here : (stands : state_of s.meta.leases x.side.key ≡ Held) → IsCopiedTo after (byte x.side.key.file) d (chunk_start (h.number + 1))
      here stands y of = ((λ less. by less (cases_lt y start) (cases_lt y stop)), λ past. beside stands y (λ low high. absurd (omega (arith, past, high))) ∙ ((says stands).here d is y of).1 (omega (arith, past)))
        where
          by : y < chunk_start (h.number + 1) → (y < start) ⊎ (start ≤ y) → (y < stop) ⊎ (stop ≤ y) → held (content after) d y ≡ byte x.side.key.file y
          by less (inl low) which = beside stands y (λ from to. absurd (omega (arith, low, from))) ∙ ((says stands).here d is y of).0 low
          by less (inr low) (inl high) = over stands y low high
          by less (inr low) (inr high) =
              let last : (destination_of h).extent.end ≡ d.extent.end = ap (λ (r : Range). r.end) (destination_extent x clear.0.0.2 clear.0.1 h.place d is) in
              let within = of.1 in
              beside stands y (λ from to. absurd (omega (arith, high, to))) ∙ ((says stands).here d is y of).1 low ∙ sym ((says stands).past h.place d y is of (omega (arith, less, high, last, within)))

      only : (e : Component) → IsKeptDestination x h.place e → d ≡ e
      only e to = let both : Some d ≡ Some e = sym owned.1 ∙ destination_found x clear.0.0.2 clear.0.1 h.place e to in cc

      -- where it lands, the destination is copied up to the next chunk
      pub put_after : At after lands byte h.size x h.place (h.number + 1)
      put_after = (
        clear_after,
        λ stands. (let a = says stands in record {
          past = a.past;
          before = λ place e to less y of. other stands place e to (λ same. absurd (omega (arith, less, same))) y ∙ a.before place e to less y of;
          here = λ e to. subst (λ (c : Component). IsCopiedTo after (byte x.side.key.file) c (chunk_start (h.number + 1))) (only e to) (here stands);
          behind = λ place e to more y of. (let same = other stands place e to (λ e. absurd (omega (arith, more, e))) y in let was = a.behind place e to more y of in ((λ less. same ∙ was.0 less), (λ low. same ∙ was.1 low)));
        }),
      )
