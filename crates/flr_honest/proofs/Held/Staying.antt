-- A byte of a fresh component stays, where it isn't open after the step.
use Rattle.std.proofs.Common.{◌≡◌, ℕ, ◌<◌, ◌≤◌, Bool, true, false, cond, ◌&&◌, ltb, nat_eq, nat_le, Some, List, inl, inr, ◌⊎◌, refl, sym, ap, subst, ◌∙◌}
use Rattle.std.specs.Prelude.{Contains, slice_get, get_or}
use Rattle.std.proofs.lemmas.Bool.{and_from, cases_Bool, eq-eqb, le-leb, lt-ltb}
use Rattle.flr_base.specs.declared.reply.ObjectId.{ObjectId}
use Rattle.flr_base.specs.declared.reply.Range.{Range}
use Rattle.flr_base.specs.declared.reply.Stripe.{Stripe}
use Rattle.stripe_map.specs.Places.{place_of}
use Rattle.composite_layout.specs.declared.component.Component.{Component}
use Rattle.mirror_select.specs.Held.{byte_at, held}
use Rattle.mirror_select.specs.Tails.{StripeObject}
use Rattle.mirror_select.proofs.Least.{In, from_contains, to_contains}
use Rattle.meta_server.specs.Files.{File, file_of}
use Rattle.call_steps.specs.Pieces.{object_of}
use Rattle.client_write.specs.Writes.{bytes_of}
use Rattle.resync_copy.specs.Copies.{object_at, piece_to}
use Rattle.resync_copy.specs.Views.{resets_of}
use Rattle.flr_shapes.specs.Sentences.{Shape}
use Rattle.flr_shut.specs.Sentences.{Place}
use Rattle.flr_sole.specs.Sentences.{StandsAlone}
use Rattle.flr_steps.specs.declared.client.Running.{Running}
use Rattle.flr_steps.specs.declared.client.Running.TheVariants as running
use Rattle.flr_steps.specs.Clients.{call_now}
use Rattle.flr_steps.specs.States.{State}
use Rattle.flr_steps.specs.Traces.{Trace, copy_begins, doing_of, traced}
use Rattle.flr_claims.specs.Honesty.{IsAttempting, IsOpen, content}
use Rattle.flr_claims.specs.Sending.{Attempt, HasLanded, OfTruncate, OfWrite, Part, is_over, part_object}
use Rattle.flr_bytes.specs.Laws.{LandsHere, StepsCount, StepsWrite}
use Rattle.flr_bytes.specs.Origins.{IsSamePlace}
use Rattle.flr_bytes.specs.Runs.{IsStep}
use Rattle.flr_bytes.specs.Writing.{HoldsStill, PunchesTail, PutsChunk, ResetsObject, SendsPiece, Writes}
use Rattle.flr_bytes.proofs.Held.{held_elsewhere, held_same, held_unmade}
use Rattle.flr_bytes.proofs.Landing.{IsOnceIn, LiesOn, piece_beside, tail_beside, whose}
use Rattle.flr_bytes.proofs.Alone.{listed_at, one_number, placed}
use Rattle.flr_bytes.proofs.Clients.{under_way}
use Rattle.flr_bytes.proofs.Once.{one_index, shape_of}
use Rattle.flr_bytes.proofs.Parts.{attempt_tail, hand_shape, part_lies}
use Rattle.flr_bytes.proofs.ShutOut.{no_put, no_reset}

-- components with the same objects hold the same
pub same_held : (bytes : ObjectId → List ℕ) (old new : Component) (x : ℕ) → IsSamePlace old new → held bytes new x ≡ held bytes old x
same_held bytes old new x same =
    ap (λ (k : Stripe). held bytes (record new { stripe = k }) x) same.stripe
    ∙ ap (λ (os : List ObjectId). held bytes (record new { stripe = old.stripe; objects = os }) x) same.objects
    ∙ ap (λ (b : Bool). cond b (byte_at bytes (slice_get old.objects (place_of x old.stripe).index) (place_of x old.stripe).offset) 0) same.init

-- where all objects hold what they held, so does each component
pub still_held : (s t : State) → HoldsStill s.shared t.shared → (d : Component) (x : ℕ) → held (content t.shared) d x ≡ held (content s.shared) d x
still_held s t still d x = held_same (content s.shared) (content t.shared) d x (λ o there. ap (λ (bs : List ℕ). get_or bs (place_of x d.stripe).offset 0) (still o))

module _ (write : StepsWrite) (count : StepsCount) (s t : State) (old new : Trace) (c : ℕ) (is : IsStep s t old new c) (e : new ≡ traced s t old c) where
  abbrev call : Running
  call = call_now c is.step.client.call is.step.asked

  module _ (n : ℕ) (f : File) (d : Component) (found : file_of n t.shared.meta.files ≡ Some f) (listed : Contains f.layout.components d) where
    i : In d f.layout.components
    i = from_contains f.layout.components d listed

    -- it has each object once
    once : (o : ObjectId) → IsOnceIn o d
    once o j k at there = one_index t.shared.meta n f o d j k is.after.holds.servers.once found i at there

    -- a part of the step's call that has landed in one of its objects is on this file
    on_file : (a : Attempt) (place : ℕ) (p : Part) → IsAttempting t c a → HasLanded t.script.fails a (doing_of new c) place p → (j : ℕ) → slice_get d.objects j ≡ Some (part_object p) → a.opened.file ≡ n
    on_file a place p attempting landed j at =
        let stands : StandsAlone t.shared.meta.files a.opened.file p = is.after.sole.parts c a place p attempting (inr landed) in
        let o : ObjectId = part_object p in
        let there = placed stands.alone.component.objects o (from_contains stands.alone.component.objects o stands.alone.object) in
        one_number t.shared.meta is.after.holds.servers.once o a.opened.file n stands.file f stands.alone.component d there.0 j stands.there found (from_contains stands.file.layout.components stands.alone.component stands.alone.listed) i there.1 at

    module _ (x : ℕ) (closed : IsOpen t new n x → ⊥) where
      -- a part that has landed there isn't over the byte
      not_over : (a : Attempt) (place : ℕ) (p : Part) → IsAttempting t c a → HasLanded t.script.fails a (doing_of new c) place p → (j : ℕ) → slice_get d.objects j ≡ Some (part_object p) → is_over x p ≡ true → ⊥
      not_over a place p attempting landed j at over =
          closed (record { client = c; attempt = a; attempting = attempting; same = on_file a place p attempting landed j at; place = place; part = p; landed = landed; over = over })

      -- a piece that is sent
      sent : d.flags.init ≡ true → (sends : SendsPiece s.shared t.shared call) → held (content t.shared) d x ≡ held (content s.shared) d x
      sent init sends = by (whose d o x)
        where
          o : ObjectId
          o = object_of sends.piece

          p : Part
          p = OfWrite sends.piece

          landed : slice_get d.objects (place_of x d.stripe).index ≡ Some o → HoldsStill s.shared t.shared ⊎ LandsHere s t new c p → held (content t.shared) d x ≡ held (content s.shared) d x
          landed at (inl still) = still_held s t still d x
          landed at (inr w) =
              let index : ℕ = (place_of x d.stripe).index in
              let over : (y : ℕ) → sends.piece.range.start ≤ y → y < sends.piece.range.end → is_over y p ≡ true = λ y low high. and_from (nat_le sends.piece.range.start y) (ltb y sends.piece.range.end) (le-leb sends.piece.range.start y low) (lt-ltb y sends.piece.range.end high) in
              let lies : (y : ℕ) → sends.piece.range.start ≤ y → y < sends.piece.range.end → LiesOn d sends.piece o y = λ y low high. (let l = part_lies t is.after.holds is.after.shaped c w.0 w.1 p w.3 w.4.there n f d index found i at y (over y low high) in (l.object, l.offset)) in
              piece_beside s.shared t.shared d sends.piece o init (once o) lies (bytes_of sends.asked sends.piece) sends.long sends.new x (λ low high. not_over w.0 w.1 p w.3 w.4 index at (over x low high))

          by : (slice_get d.objects (place_of x d.stripe).index ≡ Some o) ⊎ (slice_get d.objects (place_of x d.stripe).index ≡ Some o → ⊥) → held (content t.shared) d x ≡ held (content s.shared) d x
          by (inr elsewhere) = held_elsewhere s.shared t.shared o sends.new.others d x elsewhere
          by (inl at) = landed at (count s t old new c is e p (sends, refl))

      -- a tail that is punched
      punched : d.flags.init ≡ true → d.extent.start ≤ x → x < d.extent.end → (punches : PunchesTail s.shared t.shared call) → held (content t.shared) d x ≡ held (content s.shared) d x
      punched init low high punches = by (whose d o x)
        where
          stripe : StripeObject
          stripe = punches.stripe

          o : ObjectId
          o = stripe.object

          size : ℕ
          size = punches.asked.size

          p : Part
          p = OfTruncate size stripe

          landed : slice_get d.objects (place_of x d.stripe).index ≡ Some o → HoldsStill s.shared t.shared ⊎ LandsHere s t new c p → held (content t.shared) d x ≡ held (content s.shared) d x
          landed at (inl still) = still_held s t still d x
          landed at (inr w) =
              let index : ℕ = (place_of x d.stripe).index in
              let tail = attempt_tail c w.3.client.call w.0 w.1 size stripe (is.after.holds.clients c w.3.client w.3.here).call w.3.attempt w.4.there in
              let same : shape_of stripe.component stripe.index ≡ shape_of d index = hand_shape t is.after.shaped c w.0 w.3 o stripe.component stripe.index (from_contains w.0.opened.layout.components stripe.component tail.has.there) tail.has.object n f d index found i at in
              let stripes : d.stripe ≡ stripe.component.stripe = ap (λ (y : Shape). y.stripe) (sym same) in
              let extent : d.extent ≡ stripe.component.extent = ap (λ (y : Shape). y.extent) (sym same) in
              let number : index ≡ stripe.index = ap (λ (y : Shape). y.index) (sym same) in
              let there : slice_get d.objects stripe.index ≡ Some o = ap (slice_get d.objects) (sym number) ∙ at in
              let own : (place_of x stripe.component.stripe).index ≡ stripe.index = ap (λ (k : Stripe). (place_of x k).index) (sym stripes) ∙ number in
              let from : stripe.component.extent.start ≤ x = subst (λ (r : Range). r.start ≤ x) extent low in
              let to : x < stripe.component.extent.end = subst (λ (r : Range). x < r.end) extent high in
              tail_beside s.shared t.shared w.0.opened.layout tail.valid size stripe tail.has d stripes init (once o) there punches.new x
              (λ mine past. not_over w.0 w.1 p w.3 w.4 index at
              (and_from (nat_le size x) ((nat_le stripe.component.extent.start x && ltb x stripe.component.extent.end) && nat_eq (place_of x stripe.component.stripe).index stripe.index) (le-leb size x past)
              (and_from (nat_le stripe.component.extent.start x && ltb x stripe.component.extent.end) (nat_eq (place_of x stripe.component.stripe).index stripe.index) (and_from (nat_le stripe.component.extent.start x) (ltb x stripe.component.extent.end) (le-leb stripe.component.extent.start x from) (lt-ltb x stripe.component.extent.end to)) (eq-eqb (place_of x stripe.component.stripe).index stripe.index own))))

          by : (slice_get d.objects (place_of x d.stripe).index ≡ Some o) ⊎ (slice_get d.objects (place_of x d.stripe).index ≡ Some o → ⊥) → held (content t.shared) d x ≡ held (content s.shared) d x
          by (inr elsewhere) = held_elsewhere s.shared t.shared o punches.new.others d x elsewhere
          by (inl at) = landed at (count s t old new c is e p (punches, refl, refl))

      -- a component of a file before the step that has the same objects, and is fresh
      module _ (k : ℕ) (g : File) (b : Component) (was : file_of k s.shared.meta.files ≡ Some g) (mine : Contains g.layout.components b) (fresh : b.flags.stale ≡ false) (same : IsSamePlace b d) where
        abbrev stands : (o : ObjectId) (j : ℕ) → slice_get d.objects j ≡ Some o → Place s.shared.meta o
        stands o j at =
            let own : slice_get b.objects j ≡ Some o = ap (λ (os : List ObjectId). slice_get os j) (sym same.objects) ∙ at in
            record { number = k; file = g; there = was; component = b; listed = mine; has = to_contains b.objects o (listed_at b.objects j o own) }

        -- a reset or a put goes elsewhere
        reset : (resets : ResetsObject s.shared t.shared call) → held (content t.shared) d x ≡ held (content s.shared) d x
        reset resets =
            held_elsewhere s.shared t.shared (object_at (resets_of resets.copying) resets.next).object resets.new.others d x
            (λ at. no_reset s old is.before.sole is.before.shut c is.step.client is.step.here resets.asked (under_way c is.step.asked is.step.client.call (running.Copy resets.asked) resets.copies (ap copy_begins resets.at)) resets.copying resets.next resets.at resets.within
            (stands (object_at (resets_of resets.copying) resets.next).object (place_of x d.stripe).index at) fresh resets.admitted)

        put : (puts : PutsChunk s.shared t.shared call) → held (content t.shared) d x ≡ held (content s.shared) d x
        put puts =
            held_elsewhere s.shared t.shared (object_of (piece_to puts.chunk)) puts.new.others d x
            (λ at. no_put s old is.before.sole is.before.shut c is.step.client is.step.here puts.asked (under_way c is.step.asked is.step.client.call (running.Copy puts.asked) puts.copies (ap copy_begins puts.at)) is.before.holds.servers.sound puts.chunk puts.bytes puts.at
            (stands (object_of (piece_to puts.chunk)) (place_of x d.stripe).index at) fresh puts.admitted)

        -- it holds at the byte what it held
        pub fresh_stays : d.extent.start ≤ x → x < d.extent.end → held (content t.shared) d x ≡ held (content s.shared) d x
        fresh_stays low high = by (cases_Bool d.flags.init) (write s t old new c is e)
          where
            by : (d.flags.init ≡ true) ⊎ (d.flags.init ≡ false) → Writes s.shared t.shared call → held (content t.shared) d x ≡ held (content s.shared) d x
            by (inr none) w = held_unmade (content t.shared) d x none ∙ sym (held_unmade (content s.shared) d x none)
            by (inl init) (inl still) = still_held s t still d x
            by (inl init) (inr (inl sends)) = sent init sends
            by (inl init) (inr (inr (inl punches))) = punched init low high punches
            by (inl init) (inr (inr (inr (inl resets)))) = reset resets
            by (inl init) (inr (inr (inr (inr puts)))) = put puts
