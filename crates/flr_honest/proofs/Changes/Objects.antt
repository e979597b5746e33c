-- In every run each object stands at one place.
use Rattle.std.proofs.Common.{◌≡◌, ℕ, ◌<◌, ◌≤◌, Some, List, [], ◌∷◌, inl, inr, sym, ap, subst, ◌∙◌, arith}
use Rattle.std.specs.Prelude.{slice_get}
use Rattle.flr_base.specs.declared.reply.ObjectId.{ObjectId}
use Rattle.composite_layout.specs.declared.component.Component.{Component}
use Rattle.meta_server.specs.Files.{File, MetaView, file_of}
use Rattle.meta_laws.specs.Numbers.{AreObjectsOnce, times_in}
use Rattle.meta_laws.proofs.Opens.{one_file}
use Rattle.mirror_select.proofs.Least.{In, from_contains}
use Rattle.flr_numbers.proofs.Objects.{times_found}
use Rattle.flr_shapes.proofs.Single.{stripe_counted}
use Rattle.flr_steps.specs.States.{State}
use Rattle.flr_claims.specs.Steps.{ObjectsStandOnce}
use Rattle.flr_bytes.proofs.Alone.{one_number}
use Rattle.flr_bytes.proofs.Once.{one_index, shape_of, stripe_in}
use Rattle.flr_runs.proofs.Runs as runs
use Rattle.flr_honest.specs.Changes.Laws.{ObjectsStayApart}

-- an object of a component is counted among those of the components
counted : (o : ObjectId) (cs : List Component) (c : Component) (i : ℕ) → In c cs → slice_get c.objects i ≡ Some o → 0 < times_in o cs
counted o cs c i is at = stripe_counted o (shape_of c i) cs (stripe_in o cs c i is at)

-- two components with one object, where it stands once at most, are one
one_component : (o : ObjectId) (cs : List Component) (c d : Component) (i j : ℕ) → times_in o cs ≤ 1 → In c cs → In d cs → slice_get c.objects i ≡ Some o → slice_get d.objects j ≡ Some o → c ≡ d
one_component o [] c d i j once is are at there = absurd is
one_component o (x ∷ xs) c d i j once (inl a) (inl b) at there = sym a ∙ b
one_component o (x ∷ xs) c d i j once (inl a) (inr b) at there =
    let here = counted o (x ∷ []) c i (inl a) at in let behind = counted o xs d j b there in absurd (omega (arith, once, here, behind))
one_component o (x ∷ xs) c d i j once (inr a) (inl b) at there =
    let here = counted o (x ∷ []) d j (inl b) there in let behind = counted o xs c i a at in absurd (omega (arith, once, here, behind))
one_component o (x ∷ xs) c d i j once (inr a) (inr b) at there = one_component o xs c d i j (omega (arith, once)) a b at there

-- where each object is counted once at most, it stands at one place
stand_once : (s : State) → AreObjectsOnce s.shared.meta → ObjectsStandOnce s
stand_once s single o file component stripe other_file other_component other_stripe a b =
    let m : MetaView = s.shared.meta in
    let mine : In a.c a.f.layout.components = from_contains a.f.layout.components a.c a.listed in
    let number : other_file ≡ file = one_number m single o other_file file b.f a.f b.c a.c other_stripe stripe b.there a.there (from_contains b.f.layout.components b.c b.listed) mine b.here a.here in
    let same : b.f ≡ a.f = one_file (file_of file m.files) b.f a.f (subst (λ (n : ℕ). file_of n m.files ≡ Some b.f) number b.there) a.there in
    let theirs : In b.c a.f.layout.components = subst (λ (f : File). In b.c f.layout.components) same (from_contains b.f.layout.components b.c b.listed) in
    let among = times_found o file m.files a.f a.there in
    let few = single.once o in
    let one : b.c ≡ a.c = one_component o a.f.layout.components b.c a.c other_stripe stripe (omega (arith, among, few)) theirs mine b.here a.here in
    let index : other_stripe ≡ stripe = one_index m file a.f o a.c other_stripe stripe single a.there mine (ap (λ (c : Component). slice_get c.objects other_stripe) (sym one) ∙ b.here) a.here in
    (number, sym b.same ∙ ap (λ (c : Component). c.id) one ∙ a.same, index)

pub objects_stay_apart : ObjectsStayApart
objects_stay_apart s run = stand_once s (runs.all_hold s run).servers.once
