-- A copy that begins is kept off: the objects that it resets stand in stale components of its file alone, of which no other lease stands.
use Rattle.std.proofs.Common.{◌≡◌, ℕ, ◌<◌, ◌≤◌, Bool, true, false, true≢false, cond, nat_eq, List, [], ◌∷◌, length, map, filter, find, Option, Some, None, inl, inr, refl, sym, ap, subst, ◌∙◌, arith, ◌==◌}
use Rattle.std.specs.List.{AllByRecursion}
use Rattle.std.specs.Option.{option_map_or}
use Rattle.std.proofs.lemmas.Bool.{and_from, eq-eqb, eqb-true}
use Rattle.std.proofs.lemmas.Bool.Decides.{nat_tests}
use Rattle.flr_base.specs.declared.reply.ObjectId.{ObjectId}
use Rattle.composite_layout.specs.declared.component.Component.{Component}
use Rattle.composite_layout.specs.Layouts.{Composite, IsValid}
use Rattle.layout_lease.specs.declared.lease.KeyState.TheVariants.{Held, Broken}
use Rattle.layout_lease.specs.declared.lease.Lease.{Lease}
use Rattle.layout_lease.specs.Leases.{IsSoundTable, KeyView, TableView, is_key, is_lease_of, is_unbroken, key_of, state_of}
use Rattle.layout_lease.proofs.Hands.{taken_state}
use Rattle.layout_state.specs.Making.{with_new_objects}
use Rattle.layout_state.specs.Marking.{is_named}
use Rattle.layout_state.specs.Selecting.{in_order, is_selected}
use Rattle.layout_state.proofs.ChoiceLaws.{is_among}
use Rattle.layout_state.proofs.SelectLaws.{among_in_order, selected_from_test}
use Rattle.meta_server.specs.declared.answers.Begun.{Begun}
use Rattle.meta_server.specs.declared.answers.Begun.TheVariants as begun_as
use Rattle.meta_server.specs.declared.answers.CopyWhat.{CopyWhat}
use Rattle.meta_server.specs.declared.answers.Side.{Side}
use Rattle.meta_server.specs.Beginning.{copy_begins}
use Rattle.meta_server.specs.Files.{File, MetaView, file_named, file_of}
use Rattle.meta_server.specs.Outcomes.{Gives, Refuses, Waits}
use Rattle.meta_server.specs.Outcomes as meta
use Rattle.meta_server.specs.Sound.{IsSound}
use Rattle.meta_server.proofs.Placing.{number_found}
use Rattle.meta_laws.specs.Numbers.{AreObjectsOnce, times, times_among, times_in}
use Rattle.mirror_select.proofs.Least.{In, any_in, found_in, from_contains, get_there, some_in, to_contains}
use Rattle.mirror_select.proofs.Sound.{are_good, every_in}
use Rattle.object_target.specs.TargetState.{TargetState}
use Rattle.resync_copy.specs.declared.parts.CopyObject.{CopyObject}
use Rattle.resync_copy.specs.Copies.{object_at}
use Rattle.resync_copy.specs.Parts.{objects_in, objects_of, objects_with, with_id}
use Rattle.resync_copy.specs.Views.{CopyingView, begun_copy, resets_of}
use Rattle.resync_copy.proofs.BeginLaws.{IsBegun}
use Rattle.copy_laws.proofs.Begins.{of_file}
use Rattle.copy_laws.proofs.Places.{own_id}
use Rattle.copy_laws.proofs.Sourced.{new_in}
use Rattle.flr_numbers.proofs.Coming.{begin_cases}
use Rattle.flr_numbers.proofs.Objects.{named_stands, times_found}
use Rattle.flr_sole.specs.Copies.{IsSideOf}
use Rattle.flr_sole.proofs.Others.{held_there}
use Rattle.flr_sole.proofs.Making.{all_joined}
use Rattle.flr_shut.specs.Sentences.{IsKeptOff, IsReset, Place}

-- ---- each object stands at one place

module _ (o : ObjectId) where
  here : (c : Component) (cs : List Component) → In c cs → In o c.objects → 0 < times_in o cs
  here c cs i k = named_stands o cs (c, to_contains cs c i, to_contains c.objects o k)

  among : (c : Component) → In o c.objects → 0 < times_among o c.objects
  among c k = let one = here c (c ∷ []) (inl refl) k in omega (arith, one)

  one_component : (cs : List Component) (d e : Component) → times_in o cs ≤ 1 → In d cs → In e cs → In o d.objects → In o e.objects → d ≡ e
  one_component [] d e once i j k l = absurd i
  one_component (c ∷ cs) d e once (inl p) (inl q) k l = sym p ∙ q
  one_component (c ∷ cs) d e once (inl p) (inr j) k l = let first = among c (subst (λ (x : Component). In o x.objects) (sym p) k) in let more = here e cs j l in absurd (omega (arith, once, first, more))
  one_component (c ∷ cs) d e once (inr i) (inl q) k l = let first = among c (subst (λ (x : Component). In o x.objects) (sym q) l) in let more = here d cs i k in absurd (omega (arith, once, first, more))
  one_component (c ∷ cs) d e once (inr i) (inr j) k l = one_component cs d e (omega (arith, once)) i j k l

  one_place : (n k : ℕ) (f g : File) (files : List File) (d e : Component) → times o files ≤ 1 → file_of n files ≡ Some f → file_of k files ≡ Some g → In d f.layout.components → In e g.layout.components → In o d.objects → In o e.objects → (f ≡ g) × (d ≡ e)
  one_place n k f g [] d e once there found i j has holds = absurd (cc)
  one_place n k f g (x ∷ xs) d e once there found i j has holds = by (nat_eq x.number n) (nat_eq x.number k) there found (λ a b. one_place n k f g xs d e (omega (arith, once)) a b i j has holds)
    where
      both : (y z : File) (c b : Component) (q : ℕ) → x ≡ y → In c y.layout.components → In o c.objects → file_of q xs ≡ Some z → In b z.layout.components → In o b.objects → ⊥
      both y z c b q same i k found j l =
          let one = here c x.layout.components (subst (λ (w : File). In c w.layout.components) (sym same) i) k in
          let two = here b z.layout.components j l in
          let there = times_found o q xs z found in
          omega (arith, once, one, two, there)

      by : (u v : Bool) → cond u (Some x) (file_of n xs) ≡ Some f → cond v (Some x) (file_of k xs) ≡ Some g → (file_of n xs ≡ Some f → file_of k xs ≡ Some g → (f ≡ g) × (d ≡ e)) → (f ≡ g) × (d ≡ e)
      by true true a b rest =
          let one : x ≡ f = cc in
          let two : x ≡ g = cc in
          (sym one ∙ two, one_component x.layout.components d e (omega (arith, once)) (subst (λ (w : File). In d w.layout.components) (sym one) i) (subst (λ (w : File). In e w.layout.components) (sym two) j) has holds)
      by true false a b rest = let one : x ≡ f = cc in absurd (both f g d e k one i has b j holds)
      by false true a b rest = let two : x ≡ g = cc in absurd (both g f e d n two j holds a i has)
      by false false a b rest = rest a b

-- ---- one lease of a file

kept_in : (p : Lease → Bool) (xs : List Lease) (x : Lease) → In x xs → p x ≡ true → In x (filter p xs)
kept_in p [] x i e = absurd i
kept_in p (y ∷ ys) x (inl one) e = subst (λ (b : Bool). In x (cond b (y ∷ filter p ys) (filter p ys))) (sym (ap p one ∙ e)) (inl one)
kept_in p (y ∷ ys) x (inr more) e = by (p y) (kept_in p ys x more e)
  where
    by : (b : Bool) → In x (filter p ys) → In x (cond b (y ∷ filter p ys) (filter p ys))
    by true i = inr i
    by false i = i

only : (xs : List Lease) (x y : Lease) → length xs ≤ 1 → In x xs → In y xs → x ≡ y
only [] x y short i j = absurd i
only (z ∷ []) x y short (inl p) (inl q) = sym p ∙ q
only (z ∷ []) x y short (inl p) (inr j) = absurd j
only (z ∷ []) x y short (inr i) j = absurd i
only (z ∷ w ∷ ws) x y short i j = absurd (omega (arith, short))

-- the lease of a key that stands
record Standing (table : TableView) (key : KeyView) : Type 0 where
  pub lease : Lease
  pub listed : In lease table.keys
  pub own : key_of lease ≡ key
  pub stands : is_lease_of key.file lease ≡ true

standing : (table : TableView) (key : KeyView) → state_of table key ≡ Held → Standing table key
standing table key held = by (find (is_key key) table.keys) refl held
  where
    by : (o : Option Lease) → find (is_key key) table.keys ≡ o → option_map_or (λ (lease : Lease). lease.state) o (Broken 0) ≡ Held → Standing table key
    by None is e = absurd (cc)
    by (Some lease) is e =
        let found = found_in (is_key key) table.keys lease is in
        let client : lease.client ≡ key.client = grind (arith, nat_tests, found.1) in
        let file : lease.file ≡ key.file = grind (arith, nat_tests, found.1) in
        let number : lease.number ≡ key.number = grind (arith, nat_tests, found.1) in
        record { lease = lease; listed = found.0; own = (λ j. record { client = client j; file = file j; number = number j }); stands = test lease key.file e file }
      where
        test : (l : Lease) (n : ℕ) → l.state ≡ Held → l.file ≡ n → is_lease_of n l ≡ true
        test l n e same = and_from (is_unbroken l.state) (l.file == n) (ap is_unbroken e) (eq-eqb l.file n same)

one_key : (table : TableView) (a b : KeyView) → IsSoundTable table → state_of table a ≡ Held → state_of table b ≡ Held → a.file ≡ b.file → a ≡ b
one_key table a b sound held held_too same =
    let s = standing table a held in
    let t = standing table b held_too in
    let other : is_lease_of a.file t.lease ≡ true = ap (λ n. is_lease_of n t.lease) same ∙ t.stands in
    let one : s.lease ≡ t.lease = only (filter (is_lease_of a.file) table.keys) s.lease t.lease (sound.once a.file) (kept_in (is_lease_of a.file) table.keys s.lease s.listed s.stands) (kept_in (is_lease_of a.file) table.keys t.lease t.listed other) in
    sym s.own ∙ ap key_of one ∙ t.own

-- ---- which objects are reset

-- the object is one of a component with one of the ids
abbrev IsOfIds : List Component → List ℕ → CopyObject → Type 0
IsOfIds cs ids p = (c : Component) × In c cs × In c.id ids × In p.object c.objects

of_objects : (cs : List Component) (ids : List ℕ) (c : Component) → In c cs → In c.id ids → (os : List ObjectId) → ((o : ObjectId) → In o os → In o c.objects) → AllByRecursion (IsOfIds cs ids) (map (λ (o : ObjectId). record { component = c.id; extent = c.extent; object = o }) os)
of_objects cs ids c i j [] own = tt
of_objects cs ids c i j (o ∷ os) own = ((c, i, j, own o (inl refl)), of_objects cs ids c i j os (λ p k. own p (inr k)))

of_id : (cs : List Component) (ids : List ℕ) (id : ℕ) → In id ids → AllByRecursion (IsOfIds cs ids) (objects_with cs id)
of_id cs ids id j = by (with_id cs id) refl
  where
    by : (o : Option Component) → with_id cs id ≡ o → AllByRecursion (IsOfIds cs ids) (option_map_or objects_of o [])
    by None e = tt
    by (Some c) e = of_objects cs ids c (found_in (λ (x : Component). nat_eq x.id id) cs c e).0 (subst (λ k. In k ids) (sym (own_id cs id c e)) j) c.objects (λ o i. i)

of_ids : (cs : List Component) (all ids : List ℕ) → ((id : ℕ) → In id ids → In id all) → AllByRecursion (IsOfIds cs all) (objects_in cs ids)
of_ids cs all [] own = tt
of_ids cs all (id ∷ ids) own = all_joined (IsOfIds cs all) (objects_with cs id) (objects_in cs ids) (of_id cs all id (own id (inl refl))) (of_ids cs all ids (λ k i. own k (inr i)))

-- an object that a copy resets is one of a destination
pub reset_in : (x : CopyingView) (o : ObjectId) → IsReset x o → (c : Component) × In c x.side.layout.components × In c.id x.ids × In o c.objects
reset_in x o r =
    let w = every_in (IsOfIds x.side.layout.components x.ids) (resets_of x) (object_at (resets_of x) r.0) (of_ids x.side.layout.components x.ids x.ids (λ id i. i)) (get_there (resets_of x) r.0 (object_at [] 0) r.1) in
    (w.0, w.1, w.2, subst (λ p. In p w.0.objects) r.2 w.3)

in_passing : (p : Component → Bool) (cs : List Component) (id : ℕ) → In id (map (λ (c : Component). c.id) (filter p cs)) → (c : Component) × In c cs × (p c ≡ true) × (c.id ≡ id)
in_passing p [] id i = absurd i
in_passing p (x ∷ xs) id i = by (p x) refl i (in_passing p xs id)
  where
    by : (b : Bool) → p x ≡ b → In id (map (λ (c : Component). c.id) (cond b (x ∷ filter p xs) (filter p xs))) → (In id (map (λ (c : Component). c.id) (filter p xs)) → (c : Component) × In c xs × (p c ≡ true) × (c.id ≡ id)) → (c : Component) × In c (x ∷ xs) × (p c ≡ true) × (c.id ≡ id)
    by true e (inl one) rest = (x, inl refl, e, one)
    by true e (inr more) rest = let r = rest more in (r.0, inr r.1, r.2, r.3)
    by false e more rest = let r = rest more in (r.0, inr r.1, r.2, r.3)

unordered : (k : ℕ) (ks : List ℕ) → In k (in_order ks) → In k ks
unordered k ks i =
    let listed : is_among k (in_order ks) ≡ true = any_in (λ (x : ℕ). nat_eq x k) (in_order ks) k i (eq-eqb k k refl) in
    let r = some_in (λ (x : ℕ). nat_eq x k) ks (sym (among_in_order k ks) ∙ listed) in
    subst (λ (x : ℕ). In x ks) (eqb-true r.0 k r.2) r.1

-- the destinations of a begin are stale
pub begun_stale : (client : ℕ) (name : List ℕ) (what : CopyWhat) (m after : MetaView) (side : Side) (ids : List ℕ) → copy_begins client name what m ≡ Gives (begun_as.Copy side ids) after → IsValid side.layout → (e : Component) → In e side.layout.components → In e.id ids → e.flags.stale ≡ true
begun_stale client name what m after side ids is v e i j =
    let b : IsBegun side ids = of_file client m side ids after name what (file_named name m.files) is in
    let old : List Component = b.old.components in
    let new : List Component = side.layout.components in
    let is_new : new ≡ with_new_objects (is_named ids) b.file b.nexts old = ap (λ (l : Composite). l.components) b.layout in
    let r = in_passing (is_selected b.only old) old e.id (unordered e.id (map (λ (c : Component). c.id) (filter (is_selected b.only old) old)) (subst (λ (ks : List ℕ). In e.id ks) b.are j)) in
    let t = new_in (is_named ids) b.file b.nexts old r.0 r.1 in
    let there : In t.0 new = subst (λ (cs : List Component). In t.0 cs) (sym is_new) t.1 in
    let one : e ≡ t.0 = (are_good side.layout v).apart e t.0 i there (sym r.3 ∙ sym t.2.id) in
    ap (λ (x : Component). x.flags.stale) one ∙ t.2.stale ∙ (selected_from_test b.only old r.0 r.2).stale

-- ---- a begin

-- a begin takes the lease
abbrev Leased : meta.Outcome Begun → Type 0
Leased (Gives begun_as.Nothing after) = Unit {0}
Leased (Gives (begun_as.Copy side ids) after) = state_of after.leases side.key ≡ Held
Leased (Gives (begun_as.Merge ours theirs) after) = Unit {0}
Leased (Refuses refusal) = Unit {0}
Leased (Waits holder) = Unit {0}

leased : (client : ℕ) (name : List ℕ) (what : CopyWhat) (m : MetaView) → IsSound m → Leased (copy_begins client name what m)
leased client name what m h = begin_cases Leased client name what m (record {
  refuses = λ answer. tt;
  waits = λ holder. tt;
  same = tt;
  begins = λ ids f e free alone. taken_state client f.number m.leases h.leases;
  adds = λ mirrors f is e free alone within. tt;
  extends = λ mirrors ids f is e free alone within. taken_state client f.number m.leases h.leases;
  both = λ victim f v is e k free free_too alone alone_too within. tt;
})

-- a copy that begins is kept off
pub begun_kept_off : (client : ℕ) (name : List ℕ) (what : CopyWhat) (m after : MetaView) (targets : List TargetState) (side : Side) (ids : List ℕ) → IsSound m → copy_begins client name what m ≡ Gives (begun_as.Copy side ids) after → IsSideOf after side → IsSound after → AreObjectsOnce after → IsKeptOff after targets (begun_copy side ids)
begun_kept_off client name what m after targets side ids was is of h once = (
  λ o at fresh r. absurd (shut o at fresh r),
  λ o at key r file stands other. absurd (other (passed o at key r file stands)),
  λ c listed own. begun_stale client name what m after side ids is of.2 c (from_contains side.layout.components c listed) (from_contains ids c.id own),
)
  where
    held : state_of after.leases side.key ≡ Held
    held = subst Leased is (leased client name what m was)

    f : File
    f = (held_there after side.key h held).0

    there : file_of side.key.file after.files ≡ Some f
    there = (held_there after side.key h held).1

    layout : f.layout ≡ side.layout
    layout = of.1 held f there

    placed : (o : ObjectId) (at : Place after o) (r : IsReset (begun_copy side ids) o) → (at.file ≡ f) × (at.component ≡ (reset_in (begun_copy side ids) o r).0)
    placed o at r =
        let w = reset_in (begun_copy side ids) o r in
        one_place o at.number side.key.file at.file f after.files at.component w.0 (once.once o) at.there there (from_contains at.file.layout.components at.component at.listed) (subst (λ (l : Composite). In w.0 l.components) (sym layout) w.1) (from_contains at.component.objects o at.has) w.3

    shut : (o : ObjectId) (at : Place after o) → at.component.flags.stale ≡ false → IsReset (begun_copy side ids) o → ⊥
    shut o at fresh r =
        let w = reset_in (begun_copy side ids) o r in
        let one = (placed o at r).1 in
        true≢false (sym (begun_stale client name what m after side ids is of.2 w.0 w.1 w.2) ∙ sym (ap (λ (c : Component). c.flags.stale) one) ∙ fresh)

    passed : (o : ObjectId) (at : Place after o) (key : KeyView) → IsReset (begun_copy side ids) o → key.file ≡ at.number → state_of after.leases key ≡ Held → key ≡ side.key
    passed o at key r file stands =
        let same : at.number ≡ side.key.file = sym (number_found at.number after.files at.file at.there) ∙ ap (λ (x : File). x.number) (placed o at r).0 ∙ number_found side.key.file after.files f there in
        one_key after.leases key side.key h.leases stands held (file ∙ same)
