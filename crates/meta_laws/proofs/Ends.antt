-- The server stays sound where copies end.
use Rattle.std.proofs.Common.{◌≡◌, ℕ, ◌≤◌, Bool, true, false, cond, ◌&&◌, ◌==◌, not, nat_eq, Some, None, List, [], ◌∷◌, length, filter, refl, sym, subst, ◌∙◌, arith}
use Rattle.std.specs.List.{AllByRecursion}
use Rattle.std.proofs.lemmas.Bool.{ne_eqb}
use Rattle.composite_layout.specs.Layouts.{Composite}
use Rattle.layout_lease.specs.declared.lease.Lease.{Lease}
use Rattle.layout_lease.specs.declared.lease.KeyState.TheVariants.{Held}
use Rattle.layout_lease.specs.Leases.{IsSoundTable, KeyView, TableView, given, holder_of, is_key, is_lease_of, same_key, state_of}
use Rattle.layout_lease.proofs.Hands.{given_free, given_state}
use Rattle.layout_lease.proofs.SoundTable.{IsSoundTable-filter}
use Rattle.meta_server.specs.Conditions.{MayMerge}
use Rattle.meta_server.specs.Ending.{both_given, copy_ends, merge_ends, with_done, with_merge}
use Rattle.meta_server.specs.Files.{File, MetaView, changed, file_of, with_given, with_layout, without_file}
use Rattle.meta_server.specs.Layouts.{finished, merged}
use Rattle.meta_server.specs.Sound.{AreNamedApart, IsCovered, IsSound, IsSoundFile}
use Rattle.meta_server.proofs.Going.{ascending_filter, below_filter}
use Rattle.meta_server.proofs.Placing.{number_found}
use Rattle.meta_laws.specs.Calls.{left_at}
use Rattle.meta_laws.proofs.Cases.{end_cases, merge_cases}
use Rattle.meta_laws.proofs.Changing.{finished_valid, merged_valid}
use Rattle.meta_laws.proofs.Covering.{AreFree, all_filter, covered_beside, free_held}
use Rattle.meta_laws.proofs.Finding.{found_without}
use Rattle.meta_laws.proofs.Whole.{files_of_sound, layout_sound, sound_there, with_parts}

-- a key is given back
pub given_sound : (m : MetaView) (key : KeyView) → IsSound m → IsSound (with_given key m)
given_sound m key h =
    with_parts m m.files (given key m.leases) m.next_file m.nexts h (files_of_sound m h) (IsSoundTable-filter (λ (lease : Lease). not (is_key key lease)) m.leases h.leases)
    (all_filter (IsCovered m.files) (λ (lease : Lease). not (is_key key lease)) m.leases.keys h.covered) h.nexts

-- ---- the end of a copy of one file

module _ (key : KeyView) (cleared : List ℕ) (m : MetaView) (h : IsSound m) where
  done_sound : (f : File) → state_of m.leases key ≡ Held → file_of key.file m.files ≡ Some f → IsSound (with_done key cleared f m)
  done_sound f held e =
      let l : Composite = finished cleared f.layout in
      let file = sound_there (λ (y : File). nat_eq y.number key.file) m f h e in
      let free : holder_of (given key m.leases) f.number ≡ None = subst (λ n. holder_of (given key m.leases) n ≡ None) (sym (number_found key.file m.files f e)) (given_free key m.leases h.leases held) in
      layout_sound m f.number l (given key m.leases) m.nexts h (finished_valid cleared f.layout file.layout)
      (IsSoundTable-filter (λ (lease : Lease). not (is_key key lease)) m.leases h.leases)
      (free_held f.number (given key m.leases) free)
      (all_filter (IsCovered m.files) (λ (lease : Lease). not (is_key key lease)) m.leases.keys h.covered)
      h.nexts

  pub copy_ended : IsSound (left_at (copy_ends key cleared m) m)
  copy_ended = end_cases IsSound key cleared m (record { same = h; given = given_sound m key h; done = done_sound })

-- ---- a file goes

module _ (p : File → Bool) where
  all_some : (P : File → Type 0) (files : List File) → AllByRecursion P files → AllByRecursion P (filter p files)
  all_some P [] h = tt
  all_some P (f ∷ fs) h = elim (p f) as (λ b. AllByRecursion P (cond b (f ∷ filter p fs) (filter p fs))) [ true ↦ (h.0, all_some P fs h.1) | false ↦ all_some P fs h.1 ]

  named_some : (files : List File) → AreNamedApart files → AreNamedApart (filter p files)
  named_some [] h = tt
  named_some (f ∷ fs) h =
      elim (p f) as (λ b. AreNamedApart (cond b (f ∷ filter p fs) (filter p fs))) [ true ↦ (all_some (λ (g : File). f.name ≡ g.name → ⊥) fs h.0, named_some fs h.1) | false ↦ named_some fs h.1 ]

  few_some : (files : List File) → length (filter p files) ≤ length files
  few_some [] = omega arith
  few_some (f ∷ fs) = let rest = few_some fs in elim (p f) as (λ b. length (cond b (f ∷ filter p fs) (filter p fs)) ≤ length (f ∷ fs)) [ true ↦ omega arith | false ↦ omega arith ]

-- the file of a number that no unbroken lease has goes
without_sound : (m : MetaView) (n : ℕ) → IsSound m → AreFree n m.leases.keys → IsSound (record m { files = without_file n m.files })
without_sound m n h free =
    let p : File → Bool = λ (f : File). not (nat_eq f.number n) in
    let few = few_some p m.files in
    with_parts m (without_file n m.files) m.leases m.next_file m.nexts h
    (record {
      files = all_some p IsSoundFile m.files h.files;
      ascending = ascending_filter p m.files h.ascending;
      below = below_filter p m.next_file m.files h.below;
      named = named_some p m.files h.named;
      few = omega (arith, few, h.few);
    })
    h.leases (covered_beside n m.files (without_file n m.files) m.leases.keys (λ k apart. found_without k n m.files apart) free h.covered) h.nexts

-- ---- the end of a copy by a victim

-- keys of two files aren't the same
apart_keys : (one key : KeyView) → (one.file ≡ key.file → ⊥) → same_key one key ≡ false
apart_keys one key apart =
    let e : (key.file == one.file) ≡ false = ne_eqb key.file one.file (λ same. apart (sym same)) in
    last (key.number == one.number) (key.client == one.client) (key.file == one.file) e
  where
    last : (a b c : Bool) → c ≡ false → (a && (b && c)) ≡ false
    last true true c e = e
    last true false c e = refl
    last false b c e = refl

module _ (ours theirs : KeyView) (m : MetaView) (h : IsSound m) (may : MayMerge ours theirs m) where
  both_sound : IsSound (both_given ours theirs m)
  both_sound = given_sound (with_given ours m) theirs (given_sound m ours h)

  merged_sound : (f v : File) → state_of m.leases ours ≡ Held → state_of m.leases theirs ≡ Held → file_of ours.file m.files ≡ Some f → file_of theirs.file m.files ≡ Some v → IsSound (with_merge ours theirs m f v)
  merged_sound f v held held_too e k =
      let l : Composite = merged v.layout f.layout in
      let t1 : TableView = given ours m.leases in
      let g : MetaView = both_given ours theirs m in
      let file = sound_there (λ (y : File). nat_eq y.number ours.file) m f h e in
      let victim = sound_there (λ (y : File). nat_eq y.number theirs.file) m v h k in
      let s1 : IsSoundTable t1 = IsSoundTable-filter (λ (lease : Lease). not (is_key ours lease)) m.leases h.leases in
      let free1 : holder_of t1 f.number ≡ None = subst (λ n. holder_of t1 n ≡ None) (sym (number_found ours.file m.files f e)) (given_free ours m.leases h.leases held) in
      let free : AreFree f.number g.leases.keys = all_filter (λ (lease : Lease). is_lease_of f.number lease ≡ false) (λ (lease : Lease). not (is_key theirs lease)) t1.keys (free_held f.number t1 free1) in
      let still : state_of t1 theirs ≡ Held = given_state ours theirs m.leases (apart_keys ours theirs may.files) ∙ held_too in
      let free2 : holder_of (given theirs t1) v.number ≡ None = subst (λ n. holder_of (given theirs t1) n ≡ None) (sym (number_found theirs.file m.files v k)) (given_free theirs t1 s1 still) in
      let sound : IsSound g = both_sound in
      let taken : IsSound (record g { files = changed f.number (with_layout l) m.files }) =
      layout_sound g f.number l g.leases g.nexts sound (merged_valid m.most f.layout v.layout h.most (may.within held held_too f v e k) file.layout victim.layout) sound.leases free sound.covered sound.nexts in
      without_sound (record g { files = changed f.number (with_layout l) m.files }) v.number taken (free_held v.number (given theirs t1) free2)

  pub merge_ended : IsSound (left_at (merge_ends ours theirs m) m)
  merge_ended = merge_cases IsSound ours theirs m (record { same = h; given = both_sound; merges = merged_sound })
