-- The server stays sound where copies begin.
use Rattle.std.proofs.Common.{◌≡◌, ℕ, ◌<◌, Some, None, List, [], length, refl, sym, ap, subst, ◌∙◌, arith}
use Rattle.composite_layout.specs.declared.spec.MirrorSpec.{MirrorSpec}
use Rattle.composite_layout.specs.Layouts.{Composite, IsValid}
use Rattle.composite_layout.specs.Making.{part_count}
use Rattle.composite_layout.specs.Specs.{IsSpec}
use Rattle.layout_lease.specs.declared.lease.Lease.{Lease}
use Rattle.layout_lease.specs.Clients.{IsClient}
use Rattle.layout_lease.specs.Leases.{holder_of, keys_of, lease_for, taken}
use Rattle.layout_lease.proofs.SoundTable.{IsSoundTable-taken, no_lease}
use Rattle.layout_state.specs.Marking.{is_named}
use Rattle.layout_state.specs.Mirroring.{excess}
use Rattle.meta_server.specs.declared.answers.CopyWhat.{CopyWhat}
use Rattle.meta_server.specs.declared.answers.CopyWhat.TheVariants.{Extend, Victim}
use Rattle.meta_server.specs.Beginning.{copy_begins, with_begin}
use Rattle.meta_server.specs.Files.{File, MetaView, changed, file_named, file_of, same_name, with_layout}
use Rattle.meta_server.specs.Layouts.{begun, extended, nexts_over}
use Rattle.meta_server.specs.Sound.{IsCovered, IsUnderCopy, IsSound, IsSoundFile}
use Rattle.meta_server.proofs.Going.{name_found}
use Rattle.meta_server.proofs.Leasing.{few_taken, holder_taken}
use Rattle.meta_server.proofs.SoundFiles.{files_changed}
use Rattle.meta_server.specs.Conditions.{IsCopyOf}
use Rattle.meta_laws.specs.Calls.{IsCopyable, MayBegin, left_by}
use Rattle.meta_laws.proofs.Cases.{begin_cases}
use Rattle.meta_laws.proofs.Changing.{begun_valid, extended_valid, over_AreNext}
use Rattle.meta_laws.proofs.Covering.{all_push, covered_still, free_held}
use Rattle.meta_laws.proofs.Finding.{copied_begun, found_numbered, other_found, same_found}
use Rattle.meta_laws.proofs.Opens.{one_file}
use Rattle.meta_laws.proofs.Whole.{files_of_sound, laid_out, layout_sound, sound_there, with_parts}

-- a copy begins on a file that is there, whose layout is this one or becomes it
pub begin_sound : (client : ℕ) (ids : List ℕ) (f x : File) (m : MetaView) → IsSound m → IsClient client → length (keys_of client m.leases.keys) < 2 → holder_of m.leases f.number ≡ None → file_of f.number m.files ≡ Some x → IsValid f.layout
    → IsSound (with_begin client ids f m)
begin_sound client ids f x m h is few none there valid =
    let n : ℕ = f.number in
    let l : Composite = begun ids n m.nexts f.layout in
    let files = changed n (with_layout l) m.files in
    let new : IsUnderCopy (file_of n files) = subst IsUnderCopy (sym (same_found n (with_layout l) m.files x (λ y. refl) there)) refl in
    with_parts m files (taken client n m.leases) m.next_file (nexts_over (is_named ids) n m.nexts f.layout) h
    (files_changed m.next_file n (with_layout l) m.files (laid_out m.files n l (begun_valid ids n m.nexts f.layout h.nexts valid)) (files_of_sound m h))
    (IsSoundTable-taken client n m.leases is few (no_lease m.leases n none) h.leases)
    (all_push (IsCovered files) m.leases.keys (lease_for client n m.leases) (covered_still m.files files m.leases.keys (λ k. copied_begun k n (with_layout l) m.files (λ y. refl) (λ y. refl)) h.covered) (λ un. new))
    (over_AreNext (is_named ids) n m.nexts f.layout h.nexts)

-- the file of a name, its number, and that it is sound
module _ (m : MetaView) (h : IsSound m) (name : List ℕ) (f : File) (e : file_named name m.files ≡ Some f) where
  pub there_named : file_of f.number m.files ≡ Some f
  there_named = found_numbered (λ (y : File). same_name name y.name) m.files f h.ascending e

  pub sound_named : IsSoundFile f
  sound_named = sound_there (λ (y : File). same_name name y.name) m f h e

module _ (client : ℕ) (name : List ℕ) (what : CopyWhat) (m : MetaView) (h : IsSound m) (may : MayBegin client name what m) where
  few_keys : length (keys_of client m.leases.keys) < 2
  few_keys = subst (λ (ls : List Lease). length ls < 2) (sym may.no_key) (omega arith)

  -- two files of two names have two numbers
  pub apart : (victim : List ℕ) (f v : File) → what ≡ Victim victim → file_named name m.files ≡ Some f → file_named victim m.files ≡ Some v → f.number ≡ v.number → ⊥
  apart victim f v is e k same =
      let found : file_of f.number m.files ≡ Some v = ap (λ n. file_of n m.files) same ∙ there_named m h victim v k in
      let one : f ≡ v = one_file (file_of f.number m.files) f v (there_named m h name f e) found in
      let two : IsCopyOf name (Victim victim) = subst (IsCopyOf name) is may.copy in
      two (sym (name_found name m.files f e) ∙ ap (λ (y : File). y.name) one ∙ name_found victim m.files v k)

  -- the layout with the mirrors added is valid
  pub added_valid : (mirrors : List MirrorSpec) (f : File) → what ≡ Extend mirrors → file_named name m.files ≡ Some f → excess f.layout (length mirrors) (part_count mirrors) m.most ≡ None → IsValid (extended mirrors (length m.nexts) f.layout)
  added_valid mirrors f is e within =
      let spec : IsSpec mirrors = subst IsCopyable is may.mirrors in
      extended_valid mirrors (length m.nexts) m.most f.layout spec h.nexts.some h.nexts.few h.most within (sound_named m h name f e).layout

  -- both leases are taken
  both_sound : (victim : List ℕ) (f v : File) → what ≡ Victim victim → file_named name m.files ≡ Some f → file_named victim m.files ≡ Some v → holder_of m.leases f.number ≡ None → holder_of m.leases v.number ≡ None
      → IsSound (with_begin client [] v (with_begin client [] f m))
  both_sound victim f v is e k free free_too =
      let first : IsSound (with_begin client [] f m) = begin_sound client [] f f m h may.known few_keys free (there_named m h name f e) (sound_named m h name f e).layout in
      let two = apart victim f v is e k in
      begin_sound client [] v v (with_begin client [] f m) first may.known (few_taken client f.number m.leases may.no_key) (holder_taken client f.number v.number m.leases two free_too)
      (other_found v.number f.number (with_layout (begun [] f.number m.nexts f.layout)) m.files (λ y. refl) (λ same. two (sym same)) ∙ there_named m h victim v k)
      (sound_named m h victim v k).layout

  pub copy_sound : IsSound (left_by (copy_begins client name what m) m)
  copy_sound = begin_cases IsSound client name what m (record {
    same = h;
    begins = λ ids f e free. begin_sound client ids f f m h may.known few_keys free (there_named m h name f e) (sound_named m h name f e).layout;
    adds = λ mirrors f is e free within. layout_sound m f.number (extended mirrors (length m.nexts) f.layout) m.leases m.nexts h (added_valid mirrors f is e within) h.leases (free_held f.number m.leases free) h.covered h.nexts;
    extends = λ mirrors ids f is e free within.
        begin_sound client ids (with_layout (extended mirrors (length m.nexts) f.layout) f) f m h may.known few_keys free (there_named m h name f e) (added_valid mirrors f is e within);
    both = both_sound;
  })
