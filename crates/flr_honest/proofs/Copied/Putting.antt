-- What a chunk that is put to a destination does to the bytes of destinations.
use Rattle.std.proofs.Common.{◌≡◌, ℕ, zero, suc, ◌+◌, ◌-◌, ◌%◌, ◌<◌, ◌≤◌, Bool, true, false, cond, nat_lt, min, Option, Some, None, List, [], ◌∷◌, length, get_or, ◌⊎◌, inl, inr, refl, sym, ap, subst, ◌∙◌, arith}
use Rattle.std.specs.Prelude.{is_some, slice_get, unwrap_or}
use Rattle.std.proofs.lemmas.Bool.{cases_eq, cases_lt, lt-ltb}
use Rattle.std.proofs.lemmas.Bool.Decides.{nat_tests}
use Rattle.std.proofs.lemmas.List.{get_or_past}
use Rattle.flr_base.specs.declared.reply.ObjectId.{ObjectId}
use Rattle.flr_base.specs.declared.reply.Range.{Range}
use Rattle.stripe_map.specs.declared.places.Place.{Place}
use Rattle.stripe_map.specs.Places.{place_of}
use Rattle.stripe_map.proofs.PlaceLaws.{places_apart}
use Rattle.composite_layout.specs.declared.component.Component.{Component}
use Rattle.composite_layout.specs.Layouts.{Composite, IsObject, IsValid, Numbered, counter_of}
use Rattle.mirror_select.specs.declared.types.Piece.{Piece}
use Rattle.mirror_select.specs.Held.{held}
use Rattle.mirror_select.specs.Pieces.{piece_at}
use Rattle.mirror_select.proofs.Least.{In, from_contains, get_there}
use Rattle.mirror_select.proofs.Sound.{IsGood, are_good, every_in}
use Rattle.meta_server.specs.Files.{File, MetaView, file_of}
use Rattle.meta_laws.specs.Numbers.{AreObjectsOnce}
use Rattle.call_steps.specs.Pieces.{object_of}
use Rattle.call_steps.specs.Servers.{Servers}
use Rattle.resync_copy.specs.declared.phase.Chunk.{Chunk}
use Rattle.resync_copy.specs.Chunks.{chunk_start, piece_in}
use Rattle.resync_copy.specs.Copies.{bytes_of, destination_of, piece_to}
use Rattle.resync_copy.specs.Fitting as fitting
use Rattle.resync_copy.specs.Parts.{with_id}
use Rattle.resync_copy.proofs.PartLaws.{with_id_in}
use Rattle.copy_laws.proofs.Places.{own_id}
use Rattle.flr_claims.specs.Honesty.{IsOf, content}
use Rattle.flr_sole.specs.Copies.{IsBegun}
use Rattle.flr_bytes.specs.Calls.{HoldsFile, IsCopiedTo, IsKeptDestination}
use Rattle.flr_bytes.specs.Sentences.{AreBytes}
use Rattle.flr_bytes.specs.Writing.{AreWritten}
use Rattle.flr_bytes.proofs.Held.{held_beside, held_elsewhere, held_over}
use Rattle.flr_bytes.specs.Fitting.{AreFit}
use Rattle.flr_honest.proofs.Copied.Chunks.{IsIn, object_there, place_in_chunk}
use Rattle.flr_honest.proofs.Copied.Destinations.{extent_is, id_is, id_there, with_there}
use Rattle.flr_bytes.proofs.Once.{one_index}
use Rattle.flr_honest.proofs.Copied.Once.{one_in_file}

pub listed_at : {X : Type 0} (xs : List X) (i : ℕ) (x : X) → slice_get xs i ≡ Some x → In x xs
listed_at [] i x e = absurd (cc)
listed_at (y ∷ ys) zero x e = inl (cc)
listed_at (y ∷ ys) (suc i) x e = inr (listed_at ys i x e)

behind_last : (xs : List ℕ) (i : ℕ) → length xs ≤ i → get_or xs i 0 ≡ 0
behind_last xs i past = get_or_past xs i 0 past

numbered : (next : ℕ) (seen cs : List Component) (d : Component) → Numbered next seen cs → In d cs → 0 < counter_of d
numbered next seen [] d n i = absurd i
numbered next seen (e ∷ es) d n (inl same) = subst (λ (y : Component). 0 < counter_of y) same n.0
numbered next seen (e ∷ es) d n (inr more) = numbered next _ es d n.3 more

-- an object of a component of a valid layout has a number from 1 on
pub some_number : (l : Composite) → IsValid l → (d : Component) (o : ObjectId) → In d l.components → (i : ℕ) → slice_get d.objects i ≡ Some o → 0 < o.number
some_number l valid d o here i at = (every_in IsObject d.objects o ((are_good l valid).each d here).shaped.objects (listed_at d.objects i o at)).1

-- and a component an id
some_id : (l : Composite) → IsValid l → (d : Component) → In d l.components → d.id ≡ 0 → ⊥
some_id l valid d here none = let some = numbered l.next_counter [] l.components d valid.numbered here in let low : counter_of d ≡ 0 = ap (λ k. k % 65536) none in omega (arith, some, low)

-- whether two objects are the same
pub decide : (a b : ObjectId) → (a ≡ b) ⊎ (a ≡ b → ⊥)
decide a b = elim (cases_eq a.target b.target) as (λ _. (a ≡ b) ⊎ (a ≡ b → ⊥)) [
  | inl target ↦ elim (cases_eq a.number b.number) as (λ _. (a ≡ b) ⊎ (a ≡ b → ⊥)) [
    | inl number ↦ inl (λ j. record { target = target j; number = number j })
    | inr apart ↦ inr (λ same. apart (ap (λ (x : ObjectId). x.number) same))
  ]
  | inr apart ↦ inr (λ same. apart (ap (λ (x : ObjectId). x.target) same))
]

-- either the component's object for the byte is this one, or it isn't
pub whose : (d : Component) (o : ObjectId) (x : ℕ) → (slice_get d.objects (place_of x d.stripe).index ≡ Some o) ⊎ (slice_get d.objects (place_of x d.stripe).index ≡ Some o → ⊥)
whose d o x = by (slice_get d.objects (place_of x d.stripe).index)
  where
    at : (q : ObjectId) → (q ≡ o) ⊎ (q ≡ o → ⊥) → (Some q ≡ Some o) ⊎ (Some q ≡ Some o → ⊥)
    at q (inl same) = inl (ap (λ (k : ObjectId). Some k) same)
    at q (inr apart) = inr (λ e. apart (cc))

    by : (q : Option ObjectId) → (q ≡ Some o) ⊎ (q ≡ Some o → ⊥)
    by None = inr (λ e. absurd (cc))
    by (Some q) = at q (decide q o)

-- the object to which the chunk is put isn't one of another destination
module _ (m : MetaView) (once : AreObjectsOnce m) (h : Chunk) (b : IsBegun m h.copying) (fit : AreFit h.copying) (f : File) (found : file_of h.copying.side.key.file m.files ≡ Some f) (layout : f.layout ≡ h.copying.side.layout) where
  pub apart : (p : ℕ) (d : Component) → IsKeptDestination h.copying p d → (p ≡ h.place → ⊥) → (i : ℕ) → slice_get d.objects i ≡ Some (object_of (piece_to h)) → ⊥
  apart p d is other i at = by (with_id h.copying.side.layout.components (get_or h.copying.ids h.place 0)) refl
    where
      valid : IsValid h.copying.side.layout
      valid = b.0.2

      here : In d h.copying.side.layout.components
      here = from_contains h.copying.side.layout.components d is.listed

      o : ObjectId
      o = object_of (piece_to h)

      some : 0 < o.number
      some = some_number h.copying.side.layout valid d o here i at

      none : (q : ObjectId) → q.number ≡ 0 → q ≡ o → ⊥
      none q zero_number same = let one : q.number ≡ o.number = ap (λ (x : ObjectId). x.number) same in omega (arith, some, one, zero_number)

      in_file : (c : Component) → In c h.copying.side.layout.components → In c f.layout.components
      in_file c i = subst (λ (k : Composite). In c k.components) (sym layout) i

      at_object : (c : Component) → with_id h.copying.side.layout.components (get_or h.copying.ids h.place 0) ≡ Some c → (q : Option ObjectId) → slice_get c.objects (place_of (bytes_of h).start c.stripe).index ≡ q → unwrap_or q (record { target = 0; number = 0 }) ≡ o → ⊥
      at_object c e None there same = none (record { target = 0; number = 0 }) refl same
      at_object c e (Some q) there same =
          let own : In c h.copying.side.layout.components = with_id_in h.copying.side.layout.components (get_or h.copying.ids h.place 0) c e in
          let one : c ≡ d = one_in_file m h.copying.side.key.file f o c d (place_of (bytes_of h).start c.stripe).index i once found (in_file c own) (in_file d here) (there ∙ ap (λ (y : ObjectId). Some y) same) at in
          let id : c.id ≡ get_or h.copying.ids h.place 0 = own_id h.copying.side.layout.components (get_or h.copying.ids h.place 0) c e in
          ids (cases_lt h.place (length h.copying.ids)) c own id (sym id ∙ ap (λ (y : Component). y.id) one)
        where
          ids : (h.place < length h.copying.ids) ⊎ (length h.copying.ids ≤ h.place) → (c : Component) → In c h.copying.side.layout.components → c.id ≡ get_or h.copying.ids h.place 0 → get_or h.copying.ids h.place 0 ≡ d.id → ⊥
          ids (inl less) c own id same = other (fit.once p h.place (id_there h.copying valid b.1 p d is) less (id_is h.copying valid b.1 p d is ∙ sym same))
          ids (inr past) c own id same = some_id h.copying.side.layout valid c own (id ∙ behind_last h.copying.ids h.place past)

      by : (c : Option Component) → with_id h.copying.side.layout.components (get_or h.copying.ids h.place 0) ≡ c → ⊥
      by None e = none (record { target = 0; number = 0 }) refl (ap (λ (y : Option Component). object_of (piece_in y (bytes_of h))) (sym e))
      by (Some c) e = at_object c e (slice_get c.objects (place_of (bytes_of h).start c.stripe).index) refl (ap (λ (y : Option Component). object_of (piece_in y (bytes_of h))) (sym e))

  -- so other destinations hold what they held
  module _ (s after : Servers) (others : (o : ObjectId) → (o ≡ object_of (piece_to h) → ⊥) → content after o ≡ content s o) where
    pub held_still : (p : ℕ) (d : Component) → IsKeptDestination h.copying p d → (p ≡ h.place → ⊥) → (y : ℕ) → held (content after) d y ≡ held (content s) d y
    held_still p d is other y = held_elsewhere s after (object_of (piece_to h)) others d y (λ at. apart p d is other (place_of y d.stripe).index at)

    pub copied_still : (byte : ℕ → ℕ) (p : ℕ) (d : Component) → IsKeptDestination h.copying p d → (p ≡ h.place → ⊥) → HoldsFile s byte d → HoldsFile after byte d
    copied_still byte p d is other c y own = held_still p d is other y ∙ c y own

    pub copied_to_still : (byte : ℕ → ℕ) (end p : ℕ) (d : Component) → IsKeptDestination h.copying p d → (p ≡ h.place → ⊥) → IsCopiedTo s byte d end → IsCopiedTo after byte d end
    copied_to_still byte end p d is other c y own = (λ low. held_still p d is other y ∙ (c y own).0 low, λ high. held_still p d is other y ∙ (c y own).1 high)

  -- ---- the destination itself

  module _ (d : Component) (is : IsKeptDestination h.copying h.place d) where
    valid : IsValid h.copying.side.layout
    valid = b.0.2

    here : In d h.copying.side.layout.components
    here = from_contains h.copying.side.layout.components d is.listed

    good : IsGood d
    good = (are_good h.copying.side.layout valid).each d here

    -- it has its objects
    pub init : d.flags.init ≡ true
    init =
        let w = every_in (fitting.HasItsObjects h.copying.side.layout.components) h.copying.ids (get_or h.copying.ids h.place 0) fit.made (get_there h.copying.ids h.place 0 (id_there h.copying valid b.1 h.place d is)) in
        let one : w.0 ≡ d = (let e = w.1 in let k = with_there h.copying valid b.1 h.place d is in cc) in
        ap (λ (c : Component). c.flags.init) (sym one) ∙ w.2

    abbrev first : Place
    first = place_of (chunk_start h.number) d.stripe

    -- the piece is the component's
    piece_own : piece_to h ≡ piece_at d (bytes_of h).start (bytes_of h).end
    piece_own = ap (λ (c : Option Component). piece_in c (bytes_of h)) (with_there h.copying valid b.1 h.place d is)

    offset : (piece_to h).offset ≡ first.offset
    offset = ap (λ (p : Piece). p.offset) piece_own

    pub at : slice_get d.objects (place_of (chunk_start h.number) d.stripe).index ≡ Some (object_of (piece_to h))
    at = solid (slice_get d.objects first.index) (object_there d good h.number h.number ∙ init) ∙ ap (λ (p : Piece). Some (object_of p)) (sym piece_own)
      where
        solid : (o : Option ObjectId) → is_some o ≡ true → o ≡ Some (unwrap_or o (record { target = 0; number = 0 }))
        solid (Some x) e = refl
        solid None e = absurd (cc)

    module _ (s after : Servers) (byte : ℕ → ℕ) (bytes : List ℕ) (few : length bytes ≤ 65536) (w : AreWritten s after (object_of (piece_to h)) (piece_to h).offset bytes) (are : AreBytes byte (bytes_of h) bytes)
        (past : (y : ℕ) → IsOf d y → h.size ≤ y → byte y ≡ 0) (was : IsCopiedTo s byte d (chunk_start h.number)) where
      -- who isn't in the chunk holds what it held
      beside : (y : ℕ) → (IsIn h.number y → ⊥) → held (content after) d y ≡ held (content s) d y
      beside y out = by (whose d (object_of (piece_to h)) y)
        where
          by : (slice_get d.objects (place_of y d.stripe).index ≡ Some (object_of (piece_to h))) ⊎ (slice_get d.objects (place_of y d.stripe).index ≡ Some (object_of (piece_to h)) → ⊥) → held (content after) d y ≡ held (content s) d y
          by (inr elsewhere) = held_elsewhere s after (object_of (piece_to h)) w.others d y elsewhere
          by (inl there) = held_beside s after (object_of (piece_to h)) d y init there (piece_to h).offset bytes w not_over
            where
              index : (place_of y d.stripe).index ≡ first.index
              index = one_index m h.copying.side.key.file f (object_of (piece_to h)) d (place_of y d.stripe).index first.index once found (subst (λ (k : Composite). In d k.components) (sym layout) here) there at

              not_over : (piece_to h).offset ≤ (place_of y d.stripe).offset → (place_of y d.stripe).offset < (piece_to h).offset + length bytes → ⊥
              not_over low high =
                  let z : ℕ = chunk_start h.number + ((place_of y d.stripe).offset - first.offset) in
                  let more : first.offset ≤ (place_of y d.stripe).offset = omega (arith, low, offset) in
                  let i : IsIn h.number z = (omega arith, omega (arith, high, offset, few, more)) in
                  let far : z - chunk_start h.number ≡ (place_of y d.stripe).offset - first.offset = omega arith in
                  let p = place_in_chunk d.stripe good.shaped.stripe.aligned h.number z i in
                  let o : (place_of z d.stripe).offset ≡ (place_of y d.stripe).offset = (let q = ap (λ (k : Place). k.offset) p in omega (arith, q, far, more)) in
                  let n : (place_of z d.stripe).index ≡ (place_of y d.stripe).index = ap (λ (k : Place). k.index) p ∙ sym index in
                  out (subst (IsIn h.number) (places_apart d.stripe z y (λ j. record { index = n j; offset = o j })) i)

      -- who is holds what was put
      over : (y : ℕ) → IsIn h.number y → IsOf d y → held (content after) d y ≡ get_or bytes (y - chunk_start h.number) 0
      over y i own = by (cases_lt (y - chunk_start h.number) (length bytes))
        where
          p : place_of y d.stripe ≡ record { index = first.index; offset = first.offset + (y - chunk_start h.number) }
          p = place_in_chunk d.stripe good.shaped.stripe.aligned h.number y i

          far : (place_of y d.stripe).offset ≡ first.offset + (y - chunk_start h.number)
          far = ap (λ (k : Place). k.offset) p

          there : slice_get d.objects (place_of y d.stripe).index ≡ Some (object_of (piece_to h))
          there = ap (λ (k : Place). slice_get d.objects k.index) p ∙ at

          by : (y - chunk_start h.number < length bytes) ⊎ (length bytes ≤ y - chunk_start h.number) → held (content after) d y ≡ get_or bytes (y - chunk_start h.number) 0
          by (inl less) =
              held_over s after (object_of (piece_to h)) d y init there (piece_to h).offset bytes w (omega (arith, far, offset)) (omega (arith, far, offset, less))
              ∙ ap (λ k. get_or bytes k 0) (let gone : (place_of y d.stripe).offset - (piece_to h).offset ≡ y - chunk_start h.number = omega (arith, far, offset) in gone)
          by (inr more) =
              held_beside s after (object_of (piece_to h)) d y init there (piece_to h).offset bytes w (λ low high. absurd (omega (arith, far, offset, more, high)))
              ∙ (was y own).1 i.0 ∙ sym (get_or_past bytes (y - chunk_start h.number) 0 more)

      -- which is the file's byte
      right : (y : ℕ) → IsIn h.number y → IsOf d y → get_or bytes (y - chunk_start h.number) 0 ≡ byte y
      right y i own = are (y - chunk_start h.number) ∙ by (cases_lt y (bytes_of h).end)
        where
          low : chunk_start h.number ≤ y
          low = i.0

          back : (bytes_of h).start + (y - chunk_start h.number) ≡ y
          back = let k : chunk_start h.number + (y - chunk_start h.number) ≡ y = omega (arith, low) in k

          extent : (destination_of h).extent.end ≡ d.extent.end
          extent = ap (λ (r : Range). r.end) (extent_is h.copying valid b.1 h.place d is)

          by : (y < (bytes_of h).end) ⊎ ((bytes_of h).end ≤ y) → cond (nat_lt ((bytes_of h).start + (y - chunk_start h.number)) (bytes_of h).end) (byte ((bytes_of h).start + (y - chunk_start h.number))) 0 ≡ byte y
          by (inl less) = ap (λ k. cond (nat_lt k (bytes_of h).end) (byte k) 0) back ∙ ap (λ (t : Bool). cond t (byte y) 0) (lt-ltb y (bytes_of h).end less)
          by (inr more) =
              let high = i.1 in
              let end = own.1 in
              ap (λ k. cond (nat_lt k (bytes_of h).end) (byte k) 0) back ∙ ap (λ (t : Bool). cond t (byte y) 0) (not_less y (bytes_of h).end more)
              ∙ sym (past y own (let cut : min (chunk_start h.number + 65536) (min (destination_of h).extent.end h.size) ≤ y = more in omega (arith, cut, high, end, extent)))
            where
              not_less : (a b : ℕ) → b ≤ a → nat_lt a b ≡ false
              not_less a b h = grind (arith, nat_tests)

      -- so it holds the file's bytes up to the next chunk
      pub put_copied : IsCopiedTo after byte d (chunk_start (h.number + 1))
      put_copied y own = (below, above)
        where
          above : chunk_start (h.number + 1) ≤ y → held (content after) d y ≡ 0
          above high = beside y (λ i. (let less = i.1 in absurd (omega (arith, less, high)))) ∙ (was y own).1 (omega (arith, high))

          below : y < chunk_start (h.number + 1) → held (content after) d y ≡ byte y
          below high = by (cases_lt y (chunk_start h.number))
            where
              by : (y < chunk_start h.number) ⊎ (chunk_start h.number ≤ y) → held (content after) d y ≡ byte y
              by (inl less) = beside y (λ i. (let low = i.0 in absurd (omega (arith, less, low)))) ∙ (was y own).0 less
              by (inr low) = let i : IsIn h.number y = (low, omega (arith, high)) in over y i own ∙ right y i own
