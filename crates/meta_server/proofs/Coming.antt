-- What comes of calls, from what their steps left.
use Rattle.std.proofs.Common.{◌≡◌, ℕ, ◌<◌, ◌≤◌, Bool, true, false, cond, ◌&&◌, ◌||◌, true≢false, zero, suc, Some, None, List, [], ◌∷◌, ◌++◌, length, find, refl, sym, ap, subst, ◌∙◌, arith}
use Rattle.std.specs.List.{list_any}
use Rattle.composite_layout.specs.declared.component.Component.{Component}
use Rattle.composite_layout.specs.Layouts.{Composite}
use Rattle.layout_lease.specs.Leases.{KeyView, TableView, broken_by}
use Rattle.layout_lease.specs.Shares.{lowest_but}
use Rattle.mirror_select.specs.Candidates.{chosen, has_byte, is_candidate, is_least, is_usable}
use Rattle.mirror_select.proofs.Sound.{has_from, has_parts}
use Rattle.meta_server.specs.Files.{File, MetaView, AreBelow, changed, file_at, file_of, new_file, with_break, with_file, with_layout, without_file}
use Rattle.meta_server.specs.Layouts.{lessened, merged, merged_ids, split_off}
use Rattle.meta_server.specs.Naming.{removes_alone}
use Rattle.meta_server.specs.Outcomes.{Gives, Ends}
use Rattle.meta_server.specs.Ending.{both_given, merge_ends_alone, merge_ends_files, with_merge}
use Rattle.meta_server.proofs.Leasing.{at_push, changed_push}

-- a mirror is taken away
pub deleted : (client mirror step : ℕ) (m : MetaView) (f : File) (files : List File) (leases : TableView) (layout : Composite) → lowest_but client f.lock ≡ None → layout ≡ lessened mirror f.layout
    → files ≡ changed f.number (with_layout layout) m.files → leases ≡ broken_by f.number step m.leases
    → removes_alone client mirror step m f None (lowest_but client f.lock) ≡ Gives tt (record m { files = files; leases = leases })
deleted client mirror step m f files leases layout free is put broken =
    let fs : changed f.number (with_layout (lessened mirror f.layout)) m.files ≡ files = sym (put ∙ ap (λ (l : Composite). changed f.number (with_layout l) m.files) is) in
    ap (removes_alone client mirror step m f None) free ∙ (λ j. Gives tt (record m { files = fs j; leases = sym broken j }))

-- a file is split off
pub split_is : (mirror step : ℕ) (m m2 : MetaView) (place : ℕ) (to : List ℕ) (size : ℕ) (part layout : Composite) (files : List File) (leases : TableView)
    → place < length m.files → (file_at m.files place).number < m.next_file → m2 ≡ with_file to size part m
    → size ≡ (file_at m.files place).size → part ≡ split_off mirror (file_at m.files place).layout → layout ≡ lessened mirror (file_at m.files place).layout
    → files ≡ changed (file_at m2.files place).number (with_layout layout) m2.files → leases ≡ broken_by (file_at m2.files place).number step m2.leases
    → record m2 { files = files; leases = leases } ≡ with_file to (file_at m.files place).size (split_off mirror (file_at m.files place).layout) (with_break (file_at m.files place).number step (lessened mirror (file_at m.files place).layout) m)
split_is mirror step m m2 place to size part layout files leases within below made is_size is_part is_layout put broken =
    let f : File = file_at m.files place in
    let nf : File = new_file m.next_file to f.size (split_off mirror f.layout) in
    let d : MetaView = with_file to f.size (split_off mirror f.layout) m in
    let e : m2 ≡ d = made ∙ (λ j. with_file to (is_size j) (is_part j) m) in
    let n : (file_at m2.files place).number ≡ f.number = ap (λ (s : MetaView). (file_at s.files place).number) e ∙ ap (λ (x : File). x.number) (at_push m.files nf place within) in
    let fs : files ≡ changed f.number (with_layout (lessened mirror f.layout)) m.files ++ nf ∷ [] =
    put ∙ (λ j. changed (n j) (with_layout (is_layout j)) (e j).files) ∙ changed_push f.number (with_layout (lessened mirror f.layout)) m.files nf (λ same. absurd (omega arith)) in
    let ls : leases ≡ broken_by f.number step m.leases = broken ∙ (λ j. broken_by (n j) step (e j).leases) in
    λ j. record (e j) { files = fs j; leases = ls j }

-- the file at a place was given its number before the next one
pub below_at : (next : ℕ) (files : List File) (i : ℕ) → i < length files → AreBelow next files → (file_at files i).number < next
below_at next [] i h k = absurd (omega arith)
below_at next (f ∷ fs) zero h k = k.0
below_at next (f ∷ fs) (suc i) h k = below_at next fs i (omega arith) k.1

-- a file is taken in
pub merged_comes : (ours theirs : KeyView) (m m1 m2 : MetaView) (f v : File) (ids : List ℕ) → file_of ours.file m.files ≡ Some f → file_of theirs.file m.files ≡ Some v
    → lowest_but ours.client f.lock ≡ None → lowest_but ours.client v.lock ≡ None → ids ≡ merged_ids v.layout f.layout
    → m1 ≡ record m { files = without_file v.number (changed f.number (with_layout (merged v.layout f.layout)) m.files) } → m2 ≡ both_given ours theirs m1
    → merge_ends_files ours theirs m (file_of ours.file m.files) (file_of theirs.file m.files) ≡ Ends ids m2
merged_comes ours theirs m m1 m2 f v ids found there free free_too is taken given =
    let last : m2 ≡ with_merge ours theirs m f v = given ∙ ap (both_given ours theirs) taken in
    (λ j. merge_ends_files ours theirs m (found j) (there j)) ∙ (λ j. merge_ends_alone ours theirs m f v (free j) (free_too j)) ∙ sym (λ j. Ends (is j) (last j))

-- ---- the lowest byte that is offline

and_left : (a b : Bool) → (a && b) ≡ true → a ≡ true
and_left true b h = refl
and_left false b h = h

and_right : (a b : Bool) → (a && b) ≡ true → b ≡ true
and_right true b h = h
and_right false b h = absurd (true≢false (sym h))

module _ {X : Type 0} (p : X → Bool) where
  found_passes : (xs : List X) (x : X) → find p xs ≡ Some x → p x ≡ true
  found_passes [] x h = absurd (cc)
  found_passes (y ∷ ys) x h = by (p y) refl h (found_passes ys x)
    where
      by : (b : Bool) → p y ≡ b → cond b (Some y) (find p ys) ≡ Some x → (find p ys ≡ Some x → p x ≡ true) → p x ≡ true
      by true e k rest = let same : y ≡ x = cc in subst (λ (z : X). p z ≡ true) same e
      by false e k rest = rest k

  found_any : (q : X → Bool) (xs : List X) (x : X) → find p xs ≡ Some x → q x ≡ true → list_any q xs ≡ true
  found_any q [] x h t = absurd (cc)
  found_any q (y ∷ ys) x h t = by (p y) h (found_any q ys x)
    where
      or_right : (a b : Bool) → b ≡ true → (a || b) ≡ true
      or_right true b e = refl
      or_right false b e = e

      by : (b : Bool) → cond b (Some y) (find p ys) ≡ Some x → (find p ys ≡ Some x → q x ≡ true → list_any q ys ≡ true) → (q y || list_any q ys) ≡ true
      by true k rest = let same : x ≡ y = cc in ap (λ (a : Bool). a || list_any q ys) (subst (λ (z : X). q z ≡ true) same t)
      by false k rest = or_right (q y) (list_any q ys) (rest k t)

-- the component that answers a byte answers all up to its end
pub answers_on : (cs : List Component) (byte : ℕ) (c : Component) → chosen cs [] byte ≡ Some c
    → (byte < c.extent.end) × ((x : ℕ) → byte ≤ x → x < c.extent.end → list_any (is_candidate [] x) cs ≡ true)
answers_on cs byte c h =
    let least : is_least cs [] byte c ≡ true = found_passes (is_least cs [] byte) cs c h in
    let candidate : (has_byte byte c && is_usable [] c) ≡ true = and_left _ _ least in
    let has : (c.extent.start ≤ byte) × (byte < c.extent.end) = has_parts byte c (and_left _ _ candidate) in
    let usable : is_usable [] c ≡ true = and_right _ _ candidate in
    let start : c.extent.start ≤ byte = has.0 in
    let covers : (x : ℕ) → byte ≤ x → x < c.extent.end → is_candidate [] x c ≡ true = λ x low high. (let here : has_byte x c ≡ true = has_from x c (omega arith) high in λ j. here j && usable j) in
    (has.1, λ x low high. found_any (is_least cs [] byte) (is_candidate [] x) cs c h (covers x low high))
