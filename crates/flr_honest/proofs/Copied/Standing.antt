-- While the lease of a copy stands: its file, the size of that, and its fresh components.
use Rattle.std.proofs.Common.{◌≡◌, ℕ, ◌<◌, ◌≤◌, Bool, true, false, cond, ◌&&◌, ltb, nat_eq, nat_le, Option, Some, None, List, [], ◌∷◌, length, filter, get_or, ◌⊎◌, inl, inr, refl, sym, ap, subst, ◌∙◌, arith}
use Rattle.std.specs.Str.{bytes_eq}
use Rattle.std.specs.Option.{option_map_or, option_or}
use Rattle.std.proofs.lemmas.Bool.{and_from, and_parts, cases_Bool, leb-true, lt-ltb, ltb-true}
use Rattle.std.proofs.lemmas.List.{get_or_past}
use Rattle.std.proofs.lemmas.Slice.Eq.{bytes_eq-Decides}
use Rattle.flr_base.specs.declared.reply.Range.{Range}
use Rattle.stripe_map.specs.Places.{place_of}
use Rattle.composite_layout.specs.declared.component.Component.{Component}
use Rattle.composite_layout.specs.Layouts.{Composite}
use Rattle.extent_lock.specs.declared.lock.Lock.{Lock}
use Rattle.extent_lock.specs.Extents.{writer_but}
use Rattle.layout_lease.specs.declared.lease.KeyState.TheVariants.{Held}
use Rattle.layout_lease.specs.Leases.{state_of}
use Rattle.mirror_select.specs.Held.{held}
use Rattle.mirror_select.proofs.Least.{In, to_contains}
use Rattle.meta_server.specs.Closing.{size_of}
use Rattle.meta_server.specs.Files.{File, MetaView, file_of}
use Rattle.meta_server.specs.Sound.{AreNamedApart, IsSound}
use Rattle.meta_laws.proofs.Finding.{found_keeps}
use Rattle.meta_server.specs.declared.answers.Side.{Side}
use Rattle.resync_copy.specs.declared.parts.CopyObject.{CopyObject}
use Rattle.resync_copy.specs.Comparing.{ComparingView, merge_fences}
use Rattle.resync_copy.specs.Copies.{first_writer, settled_objects}
use Rattle.resync_copy.specs.Parts.{overlap, overlaps_kept}
use Rattle.resync_copy.specs.Views.{CopyingView, fences_of}
use Rattle.copy_laws.proofs.Less.{kept_over}
use Rattle.copy_laws.proofs.Places.{listed_object}
use Rattle.flr_steps.specs.States.{State}
use Rattle.flr_steps.specs.Traces.{Trace}
use Rattle.plain_files.specs.Files.{Plain, bytes_of}
use Rattle.flr_claims.specs.Honesty.{IsOf, IsOpen, content}
use Rattle.flr_claims.specs.Sending.{OfTruncate, OfWrite, Part, is_over, part_object, reach_of}
use Rattle.flr_sole.specs.Copies.{HasLandedOn, IsBegun, IsSideOf, NoneLands, anywhere}
use Rattle.flr_sole.specs.Sentences.{IsAlone, StandsAlone}
use Rattle.flr_sole.proofs.Excluding.{both_listed, is_listed, over_component}
use Rattle.flr_sole.proofs.Others.{held_there}
use Rattle.flr_claims.specs.Runs.{store_of}
use Rattle.flr_bytes.specs.Calls.{IsKeptDestination}
use Rattle.flr_bytes.specs.Files.{AreSized}
use Rattle.flr_bytes.specs.Runs.{Ground, Honest}
use Rattle.flr_bytes.specs.Sentences.{byte_in}
use Rattle.flr_bytes.proofs.StoreEffects.{bytes_first, first_bytes}
use Rattle.flr_honest.proofs.Copied.Destinations.{extent_is}
use Rattle.flr_honest.proofs.Copied.Taking.{FreshHold}

-- ---- sizes

-- the plain file of a file's name is as long as the file
sized_bytes : (n : ℕ) (fs : List File) (ps : List Plain) (f : File) → AreNamedApart fs → AreSized fs ps → file_of n fs ≡ Some f → f.size ≡ length (first_bytes f.name ps)
sized_bytes n [] [] f apart h e = absurd (cc)
sized_bytes n [] (p ∷ ps) f apart h e = absurd h
sized_bytes n (g ∷ fs) [] f apart h e = absurd h
sized_bytes n (g ∷ fs) (p ∷ ps) f apart h e = by (nat_eq g.number n) e (λ e. sized_bytes n fs ps f apart.1 h.2 e)
  where
    by : (b : Bool) → cond b (Some g) (file_of n fs) ≡ Some f → (file_of n fs ≡ Some f → f.size ≡ length (first_bytes f.name ps)) → f.size ≡ length (first_bytes f.name (p ∷ ps))
    by true e rest =
        let same : g ≡ f = cc in
        let is : bytes_eq p.name f.name ≡ true = (bytes_eq-Decides p.name f.name).1 (sym h.0 ∙ ap (λ (x : File). x.name) same) in
        ap (λ (x : File). x.size) (sym same) ∙ h.1 ∙ ap (λ (b : Bool). length (cond b p.bytes (first_bytes f.name ps))) (sym is)
    by false e rest =
        let isnt : bytes_eq p.name f.name ≡ false = elim (cases_Bool (bytes_eq p.name f.name)) [
          | inl is ↦ absurd (found_keeps (λ (x : File). nat_eq x.number n) (λ (x : File). g.name ≡ x.name → ⊥) fs f e apart.0 (h.0 ∙ (bytes_eq-Decides p.name f.name).0 is))
          | inr isnt ↦ isnt
        ] in
        rest e ∙ ap (λ (b : Bool). length (cond b p.bytes (first_bytes f.name ps))) (sym isnt)

-- so past its size it has zeros
pub past_size : (s : State) (tr : Trace) → IsSound s.shared.meta → AreSized s.shared.meta.files (store_of s tr) → (n size : ℕ) → size_of n s.shared.meta ≡ Some size → (y : ℕ) → size ≤ y → byte_in s tr n y ≡ 0
past_size s tr sound sized n size e y past = by (file_of n s.shared.meta.files) refl
  where
    by : (o : Option File) → file_of n s.shared.meta.files ≡ o → byte_in s tr n y ≡ 0
    by None there = ap (λ (o : Option File). get_or (option_map_or (λ (f : File). bytes_of (store_of s tr) f.name) o []) y 0) there
    by (Some f) there =
        let same : f.size ≡ size = (let k = e in cc) in
        let long = sized_bytes n s.shared.meta.files (store_of s tr) f sound.named sized there in
        ap (λ (o : Option File). get_or (option_map_or (λ (f : File). bytes_of (store_of s tr) f.name) o []) y 0) there
        ∙ ap (λ (bs : List ℕ). get_or bs y 0) (bytes_first f.name (store_of s tr)) ∙ get_or_past (first_bytes f.name (store_of s tr)) y 0 (omega (arith, same, long, past))

-- ---- open bytes

-- a byte of the part is among those that it reaches
pub over_reach : (p : Part) (x : ℕ) → is_over x p ≡ true → ((reach_of p).start ≤ x) × (x < (reach_of p).end)
over_reach (OfWrite p) x over =
    let parts = and_parts (nat_le p.range.start x) (ltb x p.range.end) over in
    (leb-true p.range.start x parts.0, ltb-true x p.range.end parts.1)
over_reach (OfTruncate size s) x over =
    let first = and_parts (nat_le size x) ((nat_le s.component.extent.start x && ltb x s.component.extent.end) && nat_eq (place_of x s.component.stripe).index s.index) over in
    let extent = (and_parts (nat_le s.component.extent.start x && ltb x s.component.extent.end) (nat_eq (place_of x s.component.stripe).index s.index) first.1).0 in
    let parts = and_parts (nat_le s.component.extent.start x) (ltb x s.component.extent.end) extent in
    let a = leb-true size x first.0 in
    let b = leb-true s.component.extent.start x parts.0 in
    (omega (arith, a, b), ltb-true x s.component.extent.end parts.1)

-- a part with a byte of a destination that isn't left overlaps it
pub over_kept : (m : MetaView) (x : CopyingView) → IsBegun m x → (place : ℕ) (d : Component) → IsKeptDestination x place d → (y : ℕ) → IsOf d y → (p : Part) → is_over y p ≡ true → overlaps_kept x.destinations (reach_of p) ≡ true
over_kept m x b place d is y own p over =
    let r = over_reach p y over in
    let low = own.0 in
    let high = own.1 in
    let from = r.0 in
    let to = r.1 in
    kept_over x.destinations place (reach_of p) is.within is.kept
    (ap (λ (e : Range). overlap e (reach_of p)) (extent_is x b.0.2 b.1 place d is)
    ∙ and_from (ltb d.extent.start (reach_of p).end) (ltb (reach_of p).start d.extent.end) (lt-ltb d.extent.start (reach_of p).end (omega (arith, low, to))) (lt-ltb (reach_of p).start d.extent.end (omega (arith, from, high))))

-- an open byte is one over which a part has landed
pub open_landed : (s : State) (tr : Trace) (n x : ℕ) (w : IsOpen s tr n x) → HasLandedOn s tr n w.part
open_landed s tr n x w = record { client = w.client; attempt = w.attempt; attempting = w.attempting; same = w.same; place = w.place; landed = w.landed }

-- ---- fresh components

module _ (s : State) (tr : Trace) (g : Ground s tr) (h : Honest s tr) where
  -- where nothing that has landed reaches a destination that isn't left, fresh components hold the file's bytes there
  pub fresh_hold : (x : CopyingView) → IsBegun s.shared.meta x → NoneLands s.shared.meta (λ n p. HasLandedOn s tr n p) x.side.key (overlaps_kept x.destinations) → state_of s.shared.meta.leases x.side.key ≡ Held → FreshHold s.shared (byte_in s tr x.side.key.file) x
  fresh_hold x b none stands c i fresh place d is y on own =
      let there = held_there s.shared.meta x.side.key g.holds.servers.sound stands in
      let layout : there.0.layout ≡ x.side.layout = b.0.1 stands there.0 there.1 in
      h.holds x.side.key.file there.0 c y there.1 (to_contains there.0.layout.components c (subst (λ (l : Composite). In c l.components) (sym layout) i)) fresh on
      (λ w. none stands w.part (open_landed s tr x.side.key.file y w) (over_kept s.shared.meta x b place d is y own w.part w.over))

  -- and where nothing has landed on a file, all of its fresh components hold the file's bytes
  pub side_hold : (side : Side) → IsSideOf s.shared.meta side → NoneLands s.shared.meta (λ n p. HasLandedOn s tr n p) side.key anywhere → state_of s.shared.meta.leases side.key ≡ Held
      → (c : Component) → In c side.layout.components → c.flags.stale ≡ false → (y : ℕ) → IsOf c y → held (content s.shared) c y ≡ byte_in s tr side.key.file y
  side_hold side is none stands c i fresh y on =
      let there = held_there s.shared.meta side.key g.holds.servers.sound stands in
      let layout : there.0.layout ≡ side.layout = is.1 stands there.0 there.1 in
      h.holds side.key.file there.0 c y there.1 (to_contains there.0.layout.components c (subst (λ (l : Composite). In c l.components) (sym layout) i)) fresh on
      (λ w. none stands w.part (open_landed s tr side.key.file y w) refl)

-- ---- settle

-- where nobody else writes to one of these objects nobody else writes to this one
no_writer : (locks : List Lock) (client : ℕ) (os : List CopyObject) (o : CopyObject) → first_writer locks client os ≡ None → In o os → writer_but locks client o.object ≡ None
no_writer locks client [] o e i = absurd i
no_writer locks client (p ∷ os) o e i = at i (both (writer_but locks client p.object) (first_writer locks client os) e) (λ j none. no_writer locks client os o none j)
  where
    both : (a b : Option (ℕ × Range)) → option_or a b ≡ None → (a ≡ None) × (b ≡ None)
    both None b e = (refl, e)
    both (Some told) b e = absurd (cc)

    at : In o (p ∷ os) → (writer_but locks client p.object ≡ None) × (first_writer locks client os ≡ None) → (In o os → first_writer locks client os ≡ None → writer_but locks client o.object ≡ None) → writer_but locks client o.object ≡ None
    at (inl one) parts rest = subst (λ (q : CopyObject). writer_but locks client q.object ≡ None) one parts.0
    at (inr more) parts rest = rest more parts.1

in_filter : (q : CopyObject → Bool) (os : List CopyObject) (o : CopyObject) → In o os → q o ≡ true → In o (filter q os)
in_filter q [] o i e = absurd i
in_filter q (y ∷ os) o (inl one) e = subst (λ (b : Bool). In o (cond b (y ∷ filter q os) (filter q os))) (sym (ap q one ∙ e)) (inl one)
in_filter q (y ∷ os) o (inr more) e = by (q y) (in_filter q os o more e)
  where
    by : (b : Bool) → In o (filter q os) → In o (cond b (y ∷ filter q os) (filter q os))
    by true i = inr i
    by false i = i

module _ (m : MetaView) (locks : List Lock) (client : ℕ) (lands : ℕ → Part → Type 0) (alone : (n : ℕ) (p : Part) → lands n p → StandsAlone m.files n p) (writes : (n : ℕ) (p : Part) → lands n p → writer_but locks client (part_object p) ≡ None → ⊥) where
  pub none_lands : (x : CopyingView) → IsBegun m x → first_writer locks client (settled_objects x) ≡ None → NoneLands m lands x.side.key (overlaps_kept x.destinations)
  none_lands x b none stood p landed over =
      let stands = alone x.side.key.file p landed in
      let layout : stands.file.layout ≡ x.side.layout = b.0.1 stood stands.file stands.there in
      let a : IsAlone x.side.layout.components p = subst (λ (l : Composite). IsAlone l.components p) layout stands.alone in
      let wide = over_component m [] x b.0.2 b.1 x.side.layout.components p a over in
      let listed = is_listed m [] x b.0.2 b.1 a.component (part_object p) a.listed a.fresh a.made a.object wide in
      writes x.side.key.file p landed (no_writer locks client (settled_objects x) (listed_object a.component (part_object p)) none (in_filter (λ (o : CopyObject). overlaps_kept x.destinations o.extent) (fences_of x) (listed_object a.component (part_object p)) listed wide))

  pub none_on_side : (x : ComparingView) (side : Side) → (side ≡ x.ours) ⊎ (side ≡ x.theirs) → IsSideOf m side → first_writer locks client (merge_fences x) ≡ None → NoneLands m lands side.key anywhere
  none_on_side x side which is none stood p landed over =
      let stands = alone side.key.file p landed in
      let layout : stands.file.layout ≡ side.layout = is.1 stood stands.file stands.there in
      let a : IsAlone side.layout.components p = subst (λ (l : Composite). IsAlone l.components p) layout stands.alone in
      writes side.key.file p landed (no_writer locks client (merge_fences x) (listed_object a.component (part_object p)) none (both_listed x side which is.2 a.component (part_object p) a.listed a.fresh a.made a.object))
