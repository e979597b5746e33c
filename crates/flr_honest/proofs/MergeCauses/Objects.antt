-- What holds of each object that an extend by a victim fences holds of each object that holds the bytes of one of the two files.
use Rattle.std.proofs.Common.{◌≡◌, ℕ, ◌+◌, ◌<◌, Bool, true, cond, not, List, ◌++◌, length, map, filter, get_or, ap, subst, ◌∙◌, arith, length-append}
use Rattle.std.specs.Prelude.{Contains}
use Rattle.std.proofs.lemmas.Bool.{and_from, le-ltb, lt-ltb}
use Rattle.std.proofs.lemmas.List.{get_or_append_left, get_or-append-add}
use Rattle.flr_base.specs.declared.reply.ObjectId.{ObjectId}
use Rattle.composite_layout.specs.declared.component.Component.{Component}
use Rattle.composite_layout.specs.Layouts.{Composite, IsValid}
use Rattle.mirror_select.proofs.Least.{from_contains}
use Rattle.resync_copy.specs.declared.parts.CopyObject.{CopyObject}
use Rattle.resync_copy.specs.Comparing.{ComparingView, compared_ids, compared_in, is_compared, merge_fences, our_count, version_at}
use Rattle.resync_copy.specs.Copies.{object_at}
use Rattle.copy_laws.proofs.Places.{in_objects, in_ordered, in_passing, listed_object, place_in, with_own}
use Rattle.flr_claims.specs.Copies.{HoldsBytes}

-- no object
abbrev no_object : CopyObject
no_object = record { component = 0; extent = record { start = 0; end = 0 }; object = record { target = 0; number = 0 } }

-- each object that holds bytes of a file is one to fence
compared_place : (l : Composite) → IsValid l → (d : Component) (o : ObjectId) → HoldsBytes l.components d → Contains d.objects o
    → (i : ℕ) × (i < length (compared_in l.components)) × (get_or (compared_in l.components) i no_object ≡ listed_object d o)
compared_place l v d o holds has =
    let cs : List Component = l.components in
    let here = from_contains cs d holds.listed in
    let passes : is_compared d ≡ true = and_from (not d.flags.stale) d.flags.init (ap not holds.fresh) holds.made in
    place_in (compared_in cs) (listed_object d o) no_object
    (in_objects cs (compared_ids cs) d.id d o (in_ordered d.id (map (λ (x : Component). x.id) (filter is_compared cs)) (in_passing is_compared cs d here passes)) (with_own l v d here) (from_contains d.objects o has))

module _ (x : ComparingView) (P : ObjectId → ℕ → Type 0) (all : (i : ℕ) → i < length (merge_fences x) → P (object_at (merge_fences x) i).object (version_at x i)) where
  -- of our file
  pub our_objects : IsValid x.ours.layout → (d : Component) (o : ObjectId) → HoldsBytes x.ours.layout.components d → Contains d.objects o → P o x.ours.layout.generation
  our_objects v d o holds has =
      let a : List CopyObject = compared_in x.ours.layout.components in
      let b : List CopyObject = compared_in x.theirs.layout.components in
      let at = compared_place x.ours.layout v d o holds has in
      let lt : at.0 < length a = at.1 in
      let within : at.0 < length (a ++ b) = omega (arith, lt, length-append a b) in
      let same : object_at (a ++ b) at.0 ≡ listed_object d o = get_or_append_left a b no_object at.0 lt ∙ at.2 in
      let version : version_at x at.0 ≡ x.ours.layout.generation = ap (λ (t : Bool). cond t x.ours.layout.generation x.theirs.layout.generation) (lt-ltb at.0 (our_count x) lt) in
      subst (λ (q : CopyObject). P q.object x.ours.layout.generation) same (subst (λ (g : ℕ). P (object_at (a ++ b) at.0).object g) version (all at.0 within))

  -- of theirs
  pub their_objects : IsValid x.theirs.layout → (d : Component) (o : ObjectId) → HoldsBytes x.theirs.layout.components d → Contains d.objects o → P o x.theirs.layout.generation
  their_objects v d o holds has =
      let a : List CopyObject = compared_in x.ours.layout.components in
      let b : List CopyObject = compared_in x.theirs.layout.components in
      let at = compared_place x.theirs.layout v d o holds has in
      let lt : at.0 < length b = at.1 in
      let within : length a + at.0 < length (a ++ b) = omega (arith, lt, length-append a b) in
      let same : object_at (a ++ b) (length a + at.0) ≡ listed_object d o = get_or-append-add a b at.0 no_object ∙ at.2 in
      let version : version_at x (length a + at.0) ≡ x.theirs.layout.generation = ap (λ (t : Bool). cond t x.ours.layout.generation x.theirs.layout.generation) (le-ltb (length a + at.0) (our_count x) (omega arith)) in
      subst (λ (q : CopyObject). P q.object x.theirs.layout.generation) same (subst (λ (g : ℕ). P (object_at (a ++ b) (length a + at.0)).object g) version (all (length a + at.0) within))
