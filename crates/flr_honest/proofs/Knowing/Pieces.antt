-- The bytes of the pieces of a read are those of the plain file, where none of them is open.
use Rattle.std.proofs.Common.{◌≡◌, ℕ, zero, suc, ◌+◌, ◌-◌, ◌^◌, ◌<◌, ◌≤◌, Bool, true, false, cond, Option, Some, None, List, [], ◌∷◌, length, map, get_or, inl, inr, refl, sym, ap, subst, ◌∙◌, arith}
use Rattle.std.specs.Prelude.{Contains, is_none, is_some, unwrap_or}
use Rattle.std.specs.Option.{option_map_or}
use Rattle.flr_base.proofs.Bytes.{piece_at}
use Rattle.flr_base.specs.declared.reply.ObjectId.{ObjectId}
use Rattle.layout_lease.specs.Shares.{is_held}
use Rattle.mirror_select.specs.declared.types.Piece.{Piece}
use Rattle.mirror_select.specs.Held.{byte_at}
use Rattle.mirror_select.specs.Laws.{LiesIn}
use Rattle.mirror_select.proofs.Least.{In, from_contains, to_contains}
use Rattle.mirror_select.proofs.Sound.{has_parts}
use Rattle.meta_server.specs.declared.answers.Opened.{Opened}
use Rattle.meta_server.specs.Closing.{holds}
use Rattle.meta_server.specs.Files.{File, MetaView, file_of}
use Rattle.call_steps.specs.Pieces.{length_of, object_of}
use Rattle.client_read.specs.Pieces.{is_hole}
use Rattle.client_read.specs.Reads.{bytes_of, lock_for}
use Rattle.client_read.specs.Views.{ReadView}
use Rattle.client_read.proofs.RightTakes.{IsGiven}
use Rattle.flr_steps.specs.declared.client.Client.{Client}
use Rattle.flr_steps.specs.States.{State, client_at}
use Rattle.flr_steps.specs.Traces.{Trace}
use Rattle.flr_claims.specs.Honesty.{IsOpen, content}
use Rattle.flr_claims.specs.Sending.{attempt_of}
use Rattle.flr_numbers.specs.Hands.{IsOpenAs}
use Rattle.flr_numbers.specs.Sentences.{Holds, hand_of}
use Rattle.flr_locks.specs.Phases.{read_locks, with_objects}
use Rattle.flr_bytes.specs.Files.{HoldBytes}
use Rattle.flr_bytes.specs.Runs.{Ground}
use Rattle.flr_bytes.specs.Sentences.{byte_in}
use Rattle.flr_honest.proofs.Knowing.Closed.{hole_closed, read_closed}

-- ---- the file of a cookie that is held

-- the file is there, and has this layout
pub record IsThere (m : MetaView) (o : Opened) : Type 0 where
  pub file : File
  pub there : file_of o.file m.files ≡ Some file
  pub held : is_held file.lock o.cookie ≡ true

-- a cookie that is held is one of a file that is there
pub held_there : (m : MetaView) (o : Opened) → holds o.file o.cookie m ≡ true → IsThere m o
held_there m o h = by (file_of o.file m.files) refl h
  where
    by : (f : Option File) → file_of o.file m.files ≡ f → option_map_or (λ (f : File). is_held f.lock o.cookie) f false ≡ true → IsThere m o
    by None e h = absurd (cc)
    by (Some f) e h = record { file = f; there = e; held = h }

-- which has the layout that was got, where the cookie is the client's
pub held_layout : (s : State) → Holds s → (k : ℕ) (client : Client) → client_at s.clients k ≡ Some client → (o : Opened) → (hand_of client.call).opened ≡ Some o → o.cookie.client ≡ k → (is : IsThere s.shared.meta o) → o.layout ≡ is.file.layout
held_layout s h k client here o hand own is =
    let opens : IsOpenAs (hand_of client.call).opened o.file o.cookie is.file.layout = (h.clients k client here).has.cookies o.file o.cookie is.file.layout own (record { file = is.file; there = is.there; held = is.held; layout = refl }) in
    (subst (λ (p : Option Opened). IsOpenAs p o.file o.cookie is.file.layout) hand opens).2

-- ---- a piece

some_object : (o : Option ObjectId) → is_none o ≡ false → o ≡ Some (unwrap_or o (record { target = 0; number = 0 }))
some_object None e = absurd (cc)
some_object (Some x) e = refl

no_object : (o : Option ObjectId) → is_none o ≡ true → o ≡ None
no_object None e = refl
no_object (Some x) e = absurd (cc)

-- the read holds the locks of these pieces
lock_in : (r : ReadView) (ps : List Piece) (j : ℕ) (d : Piece) → j < length ps → is_hole (get_or ps j d) ≡ false → In (lock_for r (get_or ps j d)) (read_locks r ps)
lock_in r [] j d h some = absurd (omega (arith, h))
lock_in r (p ∷ ps) j d h some = by j (is_some p.object) refl h some (λ i less e. lock_in r ps i d less e)
  where
    solid : (o : Option ObjectId) → is_none o ≡ false → is_some o ≡ true
    solid None e = absurd (cc)
    solid (Some x) e = refl

    by : (i : ℕ) (b : Bool) → is_some p.object ≡ b → i < length (p ∷ ps) → is_hole (get_or (p ∷ ps) i d) ≡ false → ((k : ℕ) → k < length ps → is_hole (get_or ps k d) ≡ false → In (lock_for r (get_or ps k d)) (read_locks r ps))
        → In (lock_for r (get_or (p ∷ ps) i d)) (map (lock_for r) (cond b (p ∷ with_objects ps) (with_objects ps)))
    by zero true e h some rest = inl refl
    by zero false e h some rest = absurd (let other : is_some p.object ≡ true = solid p.object some in cc)
    by (suc i) true e h some rest = inr (rest i (omega (arith, h)) some)
    by (suc i) false e h some rest = rest i (omega (arith, h)) some

pub lock_held : (r : ReadView) (ps : List Piece) (j : ℕ) (d : Piece) → j < length ps → is_hole (get_or ps j d) ≡ false → Contains (read_locks r ps) (lock_for r (get_or ps j d))
lock_held r ps j d h some = to_contains (read_locks r ps) (lock_for r (get_or ps j d)) (lock_in r ps j d h some)

module _ (s : State) (tr : Trace) (g : Ground s tr) (n : ℕ) (f : File) (found : file_of n s.shared.meta.files ≡ Some f) (failed : List ℕ) (p : Piece) (given : IsGiven f.layout.components failed p) (y : ℕ) (low : p.range.start ≤ y) (high : y < p.range.end) where
  lies : LiesIn given.component p y
  lies = given.whole.bytes y low high

  within : (given.component.extent.start ≤ y) × (y < given.component.extent.end)
  within = has_parts y given.component lies.covered

  unmade : (b : Bool) → given.component.flags.init ≡ b → is_some p.object ≡ b
  unmade b e = given.whole.object ∙ e

  -- no byte of a hole is open
  pub hole_shut : is_hole p ≡ true → IsOpen s tr n y → ⊥
  hole_shut none = hole_closed s tr g n f found given.component (from_contains f.layout.components given.component given.there) given.fresh (sym given.whole.object ∙ ap is_some (no_object p.object none)) y within.0 within.1

  -- and none on which a client that doesn't write holds the lock of the piece
  pub lock_shut : (k : ℕ) (client : Client) (r : ReadView) → client_at s.clients k ≡ Some client → attempt_of client.call ≡ None → r.client ≡ k → Contains s.shared.locks (lock_for r p) → is_hole p ≡ false → y < 2 ^ 40 → IsOpen s tr n y → ⊥
  lock_shut k client r here none own lock some small =
      let at = lies.offset in
      read_closed s tr g n f found k client here none (lock_for r p) lock own given.component (from_contains f.layout.components given.component given.there) given.fresh y within.0 within.1 small (lies.object ∙ some_object p.object some)
      (record { from = omega (arith, at); below = omega (arith, at, low, high) })

  -- a byte that isn't open is that of the piece
  pub shut_byte : HoldBytes s tr → y < 2 ^ 40 → (IsOpen s tr n y → ⊥) → byte_in s tr n y ≡ byte_at (content s.shared) p.object (p.offset + (y - p.range.start))
  shut_byte hold small shut = sym (hold n f given.component y found given.there given.fresh (within.0, within.1, small) shut) ∙ lies.held (content s.shared)

  -- zero in a hole
  pub hole_byte : HoldBytes s tr → y < 2 ^ 40 → is_hole p ≡ true → byte_in s tr n y ≡ 0
  hole_byte hold small none = shut_byte hold small (hole_shut none) ∙ ap (λ (o : Option ObjectId). byte_at (content s.shared) o (p.offset + (y - p.range.start))) (no_object p.object none)

  -- what is taken elsewhere
  pub taken_byte : HoldBytes s tr → y < 2 ^ 40 → is_hole p ≡ false → (IsOpen s tr n y → ⊥) → get_or (bytes_of s.shared p) (y - p.range.start) 0 ≡ byte_in s tr n y
  taken_byte hold small some shut =
      let less : y - p.range.start < length_of p = omega (arith, low, high) in
      piece_at (content s.shared (object_of p)) p.offset (length_of p) (y - p.range.start) less
      ∙ sym (shut_byte hold small shut ∙ ap (λ (o : Option ObjectId). byte_at (content s.shared) o (p.offset + (y - p.range.start))) (some_object p.object some))
