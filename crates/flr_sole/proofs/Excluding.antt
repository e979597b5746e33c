-- No part that has landed or could land reaches what a copy is ready to clear, or is on a file that a merge is ready to take in.
use Rattle.std.proofs.Common.{◌≡◌, ℕ, ◌+◌, ◌-◌, ◌<◌, ◌≤◌, Bool, true, false, cond, not, ◌&&◌, ltb, nat_eq, nat_lt, List, [], ◌∷◌, length, map, filter, get_or, Some, ◌⊎◌, inl, inr, refl, sym, ap, subst, ◌∙◌, arith, length-append}
use Rattle.std.specs.Prelude.{Contains}
use Rattle.std.specs.List.{AllByRecursion}
use Rattle.std.proofs.lemmas.Bool.{and_parts, and_from, lt-ltb, ltb-true, eqb-true}
use Rattle.std.proofs.lemmas.Bool.Decides.{nat_tests}
use Rattle.std.proofs.lemmas.List.{get_or_append_left}
use Rattle.std.proofs.Math.Seq.{get_or-append_right}
use Rattle.flr_base.specs.declared.reply.ObjectId.{ObjectId}
use Rattle.flr_base.specs.declared.reply.Range.{Range}
use Rattle.composite_layout.specs.declared.component.Component.{Component}
use Rattle.composite_layout.specs.Layouts.{Composite, IsValid}
use Rattle.layout_lease.specs.declared.lease.KeyState.TheVariants.{Held}
use Rattle.layout_lease.specs.Leases.{KeyView, state_of}
use Rattle.layout_state.specs.Marking.{is_named}
use Rattle.object_target.specs.TargetState.{TargetState}
use Rattle.meta_server.specs.declared.answers.Side.{Side}
use Rattle.meta_server.specs.Files.{File, MetaView, file_of}
use Rattle.mirror_select.proofs.Least.{In, any_in, from_contains, get_there, some_in}
use Rattle.mirror_select.proofs.Sound.{every_in, in_left, in_right}
use Rattle.call_steps.specs.Pieces.{IsNamed}
use Rattle.call_steps.specs.Servers.{AreThere}
use Rattle.resync_copy.proofs.PartLaws.{named_all}
use Rattle.resync_copy.specs.declared.parts.CopyObject.{CopyObject}
use Rattle.resync_copy.specs.declared.parts.Destination.{Destination}
use Rattle.resync_copy.specs.Comparing.{ComparingView, compared_ids, compared_in, is_compared, merge_fences, our_count}
use Rattle.resync_copy.specs.Comparing as comparing
use Rattle.resync_copy.specs.Copies.{object_at}
use Rattle.resync_copy.specs.Parts.{cleared_of, destination_at, destinations_in, extent_with, fenced_ids, is_fenced, is_kept, overlap, overlaps_any, overlaps_kept}
use Rattle.resync_copy.specs.Views.{CopyingView, fences_of}
use Rattle.copy_laws.proofs.Less.{cleared_place, frame_at, kept_over}
use Rattle.copy_laws.proofs.Places.{extent_of, in_objects, in_ordered, in_passing, listed_object, place_in, with_own}
use Rattle.flr_numbers.specs.Hands.{version_on}
use Rattle.flr_claims.specs.Sending.{Part, part_object, reach_of}
use Rattle.flr_sole.specs.Copies.{AreBothFenced, AreFenced, AreStill, IsBegun, IsReady, IsSideOf, unleft}
use Rattle.flr_sole.specs.Sentences.{IsAlone, StandsAlone}
use Rattle.flr_sole.proofs.Making.{all_joined}

-- the part may still land on the file: its object keeps no version above the generation that its call got, which is less than the file's where a lease of it stands
pub record MayLand (m : MetaView) (targets : List TargetState) (n : ℕ) (p : Part) : Type 0 where
  pub generation : ℕ
  pub current : version_on targets (part_object p) ≤ generation
  pub passed : (f : File) (key : KeyView) → file_of n m.files ≡ Some f → key.file ≡ n → state_of m.leases key ≡ Held → generation < f.layout.generation

-- ranges of which one reaches into the other
overlap_wider : (d inner outer : Range) → outer.start ≤ inner.start → inner.end ≤ outer.end → overlap d inner ≡ true → overlap d outer ≡ true
overlap_wider d inner outer low high over =
    let parts = and_parts (ltb d.start inner.end) (ltb inner.start d.end) over in
    let a = ltb-true d.start inner.end parts.0 in
    let b = ltb-true inner.start d.end parts.1 in
    and_from (ltb d.start outer.end) (ltb outer.start d.end) (lt-ltb d.start outer.end (omega (arith, a, high))) (lt-ltb outer.start d.end (omega (arith, b, low)))

fresh_not : (b : Bool) → b ≡ false → not b ≡ true
fresh_not true e = absurd (cc)
fresh_not false e = refl

-- ---- a copy of one file

module _ (m : MetaView) (targets : List TargetState) (x : CopyingView) (valid : IsValid x.side.layout) (same : map unleft x.destinations ≡ destinations_in x.side.layout.components x.ids) where
  unleft_in : (ds : List Destination) (d : Destination) → In d ds → In (unleft d) (map unleft ds)
  unleft_in [] d i = absurd i
  unleft_in (e ∷ es) d (inl one) = inl (ap unleft one)
  unleft_in (e ∷ es) d (inr more) = inr (unleft_in es d more)

  -- an object of a fresh component that overlaps a destination that isn't left is among those to fence
  pub is_listed : (c : Component) (o : ObjectId) → Contains x.side.layout.components c → c.flags.stale ≡ false → c.flags.init ≡ true → Contains c.objects o → overlaps_kept x.destinations c.extent ≡ true → In (listed_object c o) (fences_of x)
  is_listed c o listed fresh made holds over =
      let cs = x.side.layout.components in
      let ds : List Destination = destinations_in cs x.ids in
      let here : In c cs = from_contains cs c listed in
      let found = some_in (λ (d : Destination). is_kept d && overlap d.extent c.extent) x.destinations over in
      let meets = (and_parts (is_kept found.0) (overlap found.0.extent c.extent) found.2).1 in
      let any : overlaps_any ds c.extent ≡ true = any_in (λ (d : Destination). overlap d.extent c.extent) ds (unleft found.0) (subst (In (unleft found.0)) same (unleft_in x.destinations found.0 found.1)) meets in
      let passes : is_fenced ds c ≡ true = and_from (not c.flags.stale) (c.flags.init && overlaps_any ds c.extent) (fresh_not c.flags.stale fresh) (and_from c.flags.init (overlaps_any ds c.extent) made any) in
      in_objects cs (fenced_ids cs ds) c.id c o (in_ordered c.id (map (λ (d : Component). d.id) (filter (is_fenced ds) cs)) (in_passing (is_fenced ds) cs c here passes)) (with_own x.side.layout valid c here) (from_contains c.objects o holds)

  -- where all fences are in force it keeps at least the generation of begin
  pub is_shut : AreFenced targets x (length (fences_of x)) → (c : Component) (o : ObjectId) → Contains x.side.layout.components c → c.flags.stale ≡ false → c.flags.init ≡ true → Contains c.objects o → overlaps_kept x.destinations c.extent ≡ true → x.side.layout.generation ≤ version_on targets o
  is_shut fenced c o listed fresh made holds over =
      let at = place_in (fences_of x) (listed_object c o) (object_at [] 0) (is_listed c o listed fresh made holds over) in
      subst (λ (y : CopyObject). x.side.layout.generation ≤ version_on targets y.object) at.2 (fenced at.0 at.1 (ap (λ (y : CopyObject). overlaps_kept x.destinations y.extent) at.2 ∙ over))

  -- a part reaches a destination that isn't left only where its component does
  pub over_component : (cs : List Component) (p : Part) (a : IsAlone cs p) → overlaps_kept x.destinations (reach_of p) ≡ true → overlaps_kept x.destinations a.component.extent ≡ true
  over_component cs p a over =
      let found = some_in (λ (d : Destination). is_kept d && overlap d.extent (reach_of p)) x.destinations over in
      let parts = and_parts (is_kept found.0) (overlap found.0.extent (reach_of p)) found.2 in
      any_in (λ (d : Destination). is_kept d && overlap d.extent a.component.extent) x.destinations found.0 found.1 (and_from (is_kept found.0) (overlap found.0.extent a.component.extent) parts.0 (overlap_wider found.0.extent (reach_of p) a.component.extent a.start a.end parts.1))

  -- a component that is cleared is a destination that isn't left
  pub cleared_over : (c : Component) (r : Range) → In c x.side.layout.components → is_named (cleared_of x.destinations) c ≡ true → overlap c.extent r ≡ true → overlaps_kept x.destinations r ≡ true
  cleared_over c r here named over =
      let cs = x.side.layout.components in
      let found = some_in (nat_eq c.id) (cleared_of x.destinations) named in
      let at = cleared_place x.destinations found.0 found.1 in
      let frame = frame_at cs x.ids x.destinations same at.0 at.1.there in
      let id : get_or x.ids at.0 0 ≡ c.id = sym frame.component ∙ at.1.same ∙ sym (eqb-true c.id found.0 found.2) in
      let extent : (destination_at x.destinations at.0).extent ≡ c.extent = frame.extent ∙ ap (extent_with cs) id ∙ extent_of cs c.id c (with_own x.side.layout valid c here) in
      kept_over x.destinations at.0 r at.1.there at.1.kept (ap (λ (e : Range). overlap e r) extent ∙ over)

-- a copy whose fences are made: while its lease stands no part that may land reaches a destination that isn't left
pub none_may_reach : (m : MetaView) (targets : List TargetState) (x : CopyingView) → IsBegun m x → AreFenced targets x (length (fences_of x)) → state_of m.leases x.side.key ≡ Held → (p : Part) → StandsAlone m.files x.side.key.file p → MayLand m targets x.side.key.file p → overlaps_kept x.destinations (reach_of p) ≡ true → ⊥
none_may_reach m targets x b fenced held p stands may over =
    let layout : stands.file.layout ≡ x.side.layout = b.0.1 held stands.file stands.there in
    let a : IsAlone x.side.layout.components p = subst (λ (l : Composite). IsAlone l.components p) layout stands.alone in
    let high = is_shut m targets x b.0.2 b.1 fenced a.component (part_object p) a.listed a.fresh a.made a.object (over_component m targets x b.0.2 b.1 x.side.layout.components p a over) in
    let less = may.passed stands.file x.side.key stands.there refl held in
    let level : stands.file.layout.generation ≡ x.side.layout.generation = ap (λ (l : Composite). l.generation) layout in
    let low = may.current in
    omega (arith, high, less, level, low)

-- a copy that is ready: while its lease stands no part that has landed or may land reaches a destination that isn't left
pub none_reaches : (m : MetaView) (targets : List TargetState) (lands : ℕ → Part → Type 0) (x : CopyingView) → IsReady m targets lands x → state_of m.leases x.side.key ≡ Held → (p : Part) → StandsAlone m.files x.side.key.file p → lands x.side.key.file p ⊎ MayLand m targets x.side.key.file p → overlaps_kept x.destinations (reach_of p) ≡ true → ⊥
none_reaches m targets lands x r held p stands (inl landed) over = r.3 held p landed over
none_reaches m targets lands x r held p stands (inr may) over = none_may_reach m targets x r.0 r.1 held p stands may over

-- ---- a file that is to be taken in

-- an object of a fresh component is among those to compare
compared_listed : (l : Composite) → IsValid l → (c : Component) (o : ObjectId) → Contains l.components c → c.flags.stale ≡ false → c.flags.init ≡ true → Contains c.objects o → In (listed_object c o) (compared_in l.components)
compared_listed l v c o listed fresh made holds =
    let here : In c l.components = from_contains l.components c listed in
    in_objects l.components (compared_ids l.components) c.id c o (in_ordered c.id (map (λ (d : Component). d.id) (filter is_compared l.components)) (in_passing is_compared l.components c here (and_from (not c.flags.stale) c.flags.init (fresh_not c.flags.stale fresh) made))) (with_own l v c here) (from_contains c.objects o holds)

-- so it is among those that a merge fences
pub both_listed : (x : ComparingView) (side : Side) → (side ≡ x.ours) ⊎ (side ≡ x.theirs) → IsValid side.layout → (c : Component) (o : ObjectId) → Contains side.layout.components c → c.flags.stale ≡ false → c.flags.init ≡ true → Contains c.objects o → In (listed_object c o) (merge_fences x)
both_listed x side (inl ours) v c o listed fresh made holds =
    in_left (listed_object c o) (compared_in x.ours.layout.components) (compared_in x.theirs.layout.components) (subst (λ (y : Side). In (listed_object c o) (compared_in y.layout.components)) ours (compared_listed side.layout v c o listed fresh made holds))
both_listed x side (inr theirs) v c o listed fresh made holds =
    in_right (listed_object c o) (compared_in x.ours.layout.components) (compared_in x.theirs.layout.components) (subst (λ (y : Side). In (listed_object c o) (compared_in y.layout.components)) theirs (compared_listed side.layout v c o listed fresh made holds))

-- the object that a merge fences next is on a target that is there
pub both_there : (targets : List TargetState) (x : ComparingView) → AreThere targets x.ours.layout.components → AreThere targets x.theirs.layout.components → (next : ℕ) → next < length (merge_fences x) → (object_at (merge_fences x) next).object.target < length targets
both_there targets x ours theirs next within =
    every_in (λ (o : CopyObject). o.object.target < length targets) (merge_fences x) (object_at (merge_fences x) next)
    (all_joined (λ (o : CopyObject). o.object.target < length targets) (compared_in x.ours.layout.components) (compared_in x.theirs.layout.components) (each x.ours.layout.components ours) (each x.theirs.layout.components theirs)) (get_there (merge_fences x) next (object_at [] 0) within)
  where
    on : (cs : List Component) → AreThere targets cs → (os : List CopyObject) → AllByRecursion (λ (o : CopyObject). IsNamed cs o.object) os → AllByRecursion (λ (o : CopyObject). o.object.target < length targets) os
    on cs are [] named = tt
    on cs are (o ∷ os) named = (are named.0.0 o.object named.0.1 named.0.2, on cs are os named.1)

    each : (cs : List Component) → AreThere targets cs → AllByRecursion (λ (o : CopyObject). o.object.target < length targets) (compared_in cs)
    each cs are = on cs are (compared_in cs) (named_all cs (compared_ids cs))

module _ (targets : List TargetState) (x : ComparingView) (fenced : AreBothFenced targets x (length (merge_fences x))) where
  ours_shut : (c : Component) (o : ObjectId) → In (listed_object c o) (compared_in x.ours.layout.components) → x.ours.layout.generation ≤ version_on targets o
  ours_shut c o i =
      let at = place_in (compared_in x.ours.layout.components) (listed_object c o) (object_at [] 0) i in
      let within = at.1 in
      let here : object_at (merge_fences x) at.0 ≡ listed_object c o = get_or_append_left (compared_in x.ours.layout.components) (compared_in x.theirs.layout.components) (object_at [] 0) at.0 within ∙ at.2 in
      let first : nat_lt at.0 (our_count x) ≡ true = lt-ltb at.0 (our_count x) within in
      let version : comparing.version_at x at.0 ≡ x.ours.layout.generation = (λ j. cond (first j) x.ours.layout.generation x.theirs.layout.generation) in
      let long = length-append (compared_in x.ours.layout.components) (compared_in x.theirs.layout.components) in
      let high = fenced at.0 (omega (arith, within, long)) in
      let object : version_on targets (object_at (merge_fences x) at.0).object ≡ version_on targets o = ap (λ (y : CopyObject). version_on targets y.object) here in
      omega (arith, version, high, object)

  theirs_shut : (c : Component) (o : ObjectId) → In (listed_object c o) (compared_in x.theirs.layout.components) → x.theirs.layout.generation ≤ version_on targets o
  theirs_shut c o i =
      let a : List CopyObject = compared_in x.ours.layout.components in
      let b : List CopyObject = compared_in x.theirs.layout.components in
      let at = place_in b (listed_object c o) (object_at [] 0) i in
      let within = at.1 in
      let k : ℕ = length a + at.0 in
      let past : length a ≤ k = omega arith in
      let back : k - length a ≡ at.0 = omega arith in
      let here : object_at (merge_fences x) k ≡ listed_object c o = get_or-append_right a b k (object_at [] 0) past ∙ ap (λ j. get_or b j (object_at [] 0)) back ∙ at.2 in
      let second : nat_lt k (our_count x) ≡ false = not_less k (length a) past in
      let version : comparing.version_at x k ≡ x.theirs.layout.generation = (λ j. cond (second j) x.ours.layout.generation x.theirs.layout.generation) in
      let long = length-append a b in
      let high = fenced k (omega (arith, within, long)) in
      let object : version_on targets (object_at (merge_fences x) k).object ≡ version_on targets o = ap (λ (y : CopyObject). version_on targets y.object) here in
      omega (arith, version, high, object)
    where
      not_less : (a b : ℕ) → b ≤ a → nat_lt a b ≡ false
      not_less a b h = grind (arith, nat_tests)

-- a merge that is ready: while the lease of a file stands no part has landed or may land on it
none_on : (m : MetaView) (targets : List TargetState) (lands : ℕ → Part → Type 0) (side : Side) → IsSideOf m side → ((c : Component) (o : ObjectId) → In (listed_object c o) (compared_in side.layout.components) → side.layout.generation ≤ version_on targets o)
    → ((p : Part) → lands side.key.file p → ⊥) → state_of m.leases side.key ≡ Held → (p : Part) → StandsAlone m.files side.key.file p → lands side.key.file p ⊎ MayLand m targets side.key.file p → ⊥
none_on m targets lands side is shut none held p stands (inl landed) = none p landed
none_on m targets lands side is shut none held p stands (inr may) =
    let layout : stands.file.layout ≡ side.layout = is.1 held stands.file stands.there in
    let a : IsAlone side.layout.components p = subst (λ (l : Composite). IsAlone l.components p) layout stands.alone in
    let high = shut a.component (part_object p) (compared_listed side.layout is.2 a.component (part_object p) a.listed a.fresh a.made a.object) in
    let less = may.passed stands.file side.key stands.there refl held in
    let level : stands.file.layout.generation ≡ side.layout.generation = ap (λ (l : Composite). l.generation) layout in
    let low = may.current in
    omega (arith, high, less, level, low)

pub none_on_ours : (m : MetaView) (targets : List TargetState) (lands : ℕ → Part → Type 0) (x : ComparingView) → AreStill m targets lands x → state_of m.leases x.ours.key ≡ Held → (p : Part) → StandsAlone m.files x.ours.key.file p → lands x.ours.key.file p ⊎ MayLand m targets x.ours.key.file p → ⊥
none_on_ours m targets lands x r held = none_on m targets lands x.ours r.0 (ours_shut targets x r.2) (λ p landed. r.3 held p landed refl) held

pub none_on_theirs : (m : MetaView) (targets : List TargetState) (lands : ℕ → Part → Type 0) (x : ComparingView) → AreStill m targets lands x → state_of m.leases x.theirs.key ≡ Held → (p : Part) → StandsAlone m.files x.theirs.key.file p → lands x.theirs.key.file p ⊎ MayLand m targets x.theirs.key.file p → ⊥
none_on_theirs m targets lands x r held = none_on m targets lands x.theirs r.1 (theirs_shut targets x r.2) (λ p landed. r.4 held p landed refl) held

-- a merge whose fences are made: while the lease of a file stands no part may land on it
pub none_may_on : (m : MetaView) (targets : List TargetState) (x : ComparingView) (side : Side) → (side ≡ x.ours) ⊎ (side ≡ x.theirs) → IsSideOf m side → AreBothFenced targets x (length (merge_fences x)) → state_of m.leases side.key ≡ Held → (p : Part) → StandsAlone m.files side.key.file p → MayLand m targets side.key.file p → ⊥
none_may_on m targets x side (inl ours) is fenced held p stands may =
    none_on m targets (λ n q. ⊥) side is (λ c o i. subst (λ (y : Side). y.layout.generation ≤ version_on targets o) (sym ours) (ours_shut targets x fenced c o (subst (λ (y : Side). In (listed_object c o) (compared_in y.layout.components)) ours i))) (λ q e. e) held p stands (inr may)
none_may_on m targets x side (inr theirs) is fenced held p stands may =
    none_on m targets (λ n q. ⊥) side is (λ c o i. subst (λ (y : Side). y.layout.generation ≤ version_on targets o) (sym theirs) (theirs_shut targets x fenced c o (subst (λ (y : Side). In (listed_object c o) (compared_in y.layout.components)) theirs i))) (λ q e. e) held p stands (inr may)
