-- A copy resets no object of a fresh component, and puts to none.
use Rattle.std.proofs.Common.{◌≡◌, ℕ, zero, suc, ◌%◌, ◌<◌, ◌≤◌, false, Option, Some, None, List, [], ◌∷◌, length, get_or, inl, inr, ◌⊎◌, refl, sym, ap, subst, ◌∙◌, arith}
use Rattle.std.specs.Prelude.{slice_get, unwrap_or}
use Rattle.std.proofs.lemmas.Bool.{cases_lt, false≢true, lt-ltb}
use Rattle.flr_base.specs.declared.reply.ObjectId.{ObjectId}
use Rattle.stripe_map.specs.Places.{place_of}
use Rattle.composite_layout.specs.declared.component.Component.{Component}
use Rattle.composite_layout.specs.Layouts.{Composite, IsObject, IsValid, Numbered, counter_of}
use Rattle.mirror_select.proofs.Least.{In, from_contains, get_there}
use Rattle.mirror_select.proofs.Sound.{every_in}
use Rattle.meta_server.specs.Sound.{IsSound}
use Rattle.call_steps.specs.Pieces.{object_of}
use Rattle.resync_copy.specs.declared.parts.CopyObject.{CopyObject}
use Rattle.resync_copy.specs.declared.phase.Chunk.{Chunk}
use Rattle.resync_copy.specs.declared.phase.CopyAt.{CopyAt}
use Rattle.resync_copy.specs.declared.phase.CopyAt.TheVariants as at
use Rattle.resync_copy.specs.declared.phase.CopyStage.TheVariants as stage
use Rattle.resync_copy.specs.Calls.{CopyView}
use Rattle.resync_copy.specs.Chunks.{piece_in}
use Rattle.resync_copy.specs.Copies.{bytes_of, object_at, piece_to}
use Rattle.resync_copy.specs.Parts.{with_id}
use Rattle.resync_copy.specs.Views.{CopyingView, resets_of}
use Rattle.resync_copy.proofs.PartLaws.{shaped, with_id_in}
use Rattle.copy_laws.proofs.Places.{own_id, reset_place}
use Rattle.flr_steps.specs.declared.client.Client.{Client}
use Rattle.flr_steps.specs.declared.client.Running.{Running}
use Rattle.flr_steps.specs.declared.client.Running.TheVariants as running
use Rattle.flr_steps.specs.States.{State, client_at}
use Rattle.flr_steps.specs.Traces.{Trace}
use Rattle.flr_claims.specs.Sending.{Part}
use Rattle.flr_sole.specs.Copies as copies
use Rattle.flr_sole.specs.Copies.{HasLandedOn}
use Rattle.flr_sole.specs.Runs.{Sole}
use Rattle.flr_shut.specs.Sentences.{CopyShut, IsKeptOff, IsReset, IsShut, Place, Shut}
use Rattle.flr_bytes.specs.Writing.{Admits}
use Rattle.flr_bytes.proofs.Alone.{listed_at, valid_file}

-- ---- a reset

module _ (s : State) (tr : Trace) (sole : Sole s tr) (shut : Shut s) (c : ℕ) (client : Client) (here : client_at s.clients c ≡ Some client) (k : CopyView) (is : client.call ≡ running.Copy k) where
  stage_shut : (a : CopyAt) → k.at ≡ a → CopyShut s.shared.meta s.shared.targets a
  stage_shut a e =
      let own : CopyShut s.shared.meta s.shared.targets k.at = subst (λ (r : Running). IsShut s.shared.meta s.shared.targets r) is (shut.calls c client here) in
      subst (CopyShut s.shared.meta s.shared.targets) e own

  -- an object that the copy resets, in a fresh component, is too old
  never : (x : CopyingView) → IsKeptOff s.shared.meta s.shared.targets x → (o : ObjectId) → IsReset x o → (at : Place s.shared.meta o) → at.component.flags.stale ≡ false → Admits s.shared o x.side.layout.generation → ⊥
  never x off o reset at fresh admitted = false≢true (sym admitted ∙ lt-ltb x.side.layout.generation _ (off.0 o at fresh reset))

  pub no_reset : (x : CopyingView) (next : ℕ) → k.at ≡ at.Copy (stage.Reset x next) → next < length (resets_of x) → (stands : Place s.shared.meta (object_at (resets_of x) next).object) → stands.component.flags.stale ≡ false
      → Admits s.shared (object_at (resets_of x) next).object x.side.layout.generation → ⊥
  no_reset x next e within stands fresh admitted = never x (stage_shut (at.Copy (stage.Reset x next)) e) (object_at (resets_of x) next).object (next, within, refl) stands fresh admitted

  -- ---- a put

  -- the layout that the copy got is valid
  put_valid : (h : Chunk) (bytes : List ℕ) → k.at ≡ at.Copy (stage.Put h bytes) → IsValid h.copying.side.layout
  put_valid h bytes e =
      let lands : ℕ → Part → Type 0 = (λ n p. HasLandedOn s tr n p) in
      let own : copies.CopySays s.shared.meta s.shared.targets lands k.at = subst (λ (r : Running). copies.Says s.shared.meta s.shared.targets lands r) is (sole.copies c client here) in
      let says : copies.StageSays s.shared.meta s.shared.targets lands (stage.Put h bytes) = subst (λ (a : CopyAt). copies.CopySays s.shared.meta s.shared.targets lands a) e own in
      says.0.0.2

  -- an object of a component of a valid layout has a number from 1 on, and the component an id
  numbered : (l : Composite) → IsValid l → (d : Component) (o : ObjectId) → In d l.components → In o d.objects → 0 < o.number
  numbered l valid d o i at = (every_in IsObject d.objects o (shaped l valid d i).objects at).1

  counted : (next : ℕ) (seen cs : List Component) (d : Component) → Numbered next seen cs → In d cs → 0 < counter_of d
  counted next seen [] d n i = absurd i
  counted next seen (e ∷ es) d n (inl same) = subst (λ (y : Component). 0 < counter_of y) same n.0
  counted next seen (e ∷ es) d n (inr more) = counted next _ es d n.3 more

  -- what is put to is reset by the copy, where it stands in the layout of a file
  put_reset : (h : Chunk) (o : ObjectId) → IsValid h.copying.side.layout → 0 < o.number → object_of (piece_to h) ≡ o → IsReset h.copying o
  put_reset h o valid some same = by (with_id cs (get_or ids h.place 0)) refl
    where
      cs : List Component
      cs = h.copying.side.layout.components

      ids : List ℕ
      ids = h.copying.ids

      there : (d : Component) → with_id cs (get_or ids h.place 0) ≡ Some d → (p : Option ObjectId) → slice_get d.objects (place_of (bytes_of h).start d.stripe).index ≡ p → unwrap_or p (record { target = 0; number = 0 }) ≡ o → In o d.objects
      there d e None at one = absurd (let none : 0 ≡ o.number = ap (λ (x : ObjectId). x.number) one in omega (arith, some, none))
      there d e (Some q) at one = subst (λ (y : ObjectId). In y d.objects) one (listed_at d.objects _ q at)

      by : (d : Option Component) → with_id cs (get_or ids h.place 0) ≡ d → IsReset h.copying o
      by None e =
          let none : object_of (piece_in None (bytes_of h)) ≡ o = ap (λ (y : Option Component). object_of (piece_in y (bytes_of h))) (sym e) ∙ same in
          absurd (let zero_number : 0 ≡ o.number = ap (λ (x : ObjectId). x.number) none in omega (arith, some, zero_number))
      by (Some d) e =
          let i = with_id_in cs (get_or ids h.place 0) d e in
          let one : object_of (piece_in (Some d) (bytes_of h)) ≡ o = ap (λ (y : Option Component). object_of (piece_in y (bytes_of h))) (sym e) ∙ same in
          let has : In o d.objects = there d e (slice_get d.objects (place_of (bytes_of h).start d.stripe).index) refl one in
          within d e i has (cases_lt h.place (length ids))
        where
          within : (d : Component) → with_id cs (get_or ids h.place 0) ≡ Some d → In d cs → In o d.objects → (h.place < length ids) ⊎ (length ids ≤ h.place) → IsReset h.copying o
          within d e i has (inl less) =
              let p = reset_place cs ids (get_or ids h.place 0) d o (object_at [] 0) (get_there ids h.place 0 less) e has in
              (p.0, p.1, ap (λ (y : CopyObject). y.object) p.2)
          within d e i has (inr past) =
              let id : d.id ≡ 0 = own_id cs (get_or ids h.place 0) d e ∙ behind ids h.place past in
              let low = counted h.copying.side.layout.next_counter [] cs d valid.numbered i in
              absurd (let none : counter_of d ≡ 0 = ap (λ n. n % 65536) id in omega (arith, low, none))
            where
              behind : (xs : List ℕ) (i : ℕ) → length xs ≤ i → get_or xs i 0 ≡ 0
              behind [] i past = refl
              behind (x ∷ xs) zero past = absurd (omega (arith, past))
              behind (x ∷ xs) (suc i) past = behind xs i (omega (arith, past))

  pub no_put : IsSound s.shared.meta → (h : Chunk) (bytes : List ℕ) → k.at ≡ at.Copy (stage.Put h bytes) → (stands : Place s.shared.meta (object_of (piece_to h))) → stands.component.flags.stale ≡ false → Admits s.shared (object_of (piece_to h)) h.copying.side.layout.generation → ⊥
  no_put sound h bytes e stands fresh admitted =
      let o : ObjectId = object_of (piece_to h) in
      let valid : IsValid stands.file.layout = valid_file s.shared.meta sound stands.number stands.file stands.there in
      let some : 0 < o.number = numbered stands.file.layout valid stands.component o (from_contains stands.file.layout.components stands.component stands.listed) (from_contains stands.component.objects o stands.has) in
      never h.copying (stage_shut (at.Copy (stage.Put h bytes)) e) o (put_reset h o (put_valid h bytes e) some refl) stands fresh admitted
