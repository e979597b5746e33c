-- The server stays sound where files are made, mirrors go or are marked, and clients are evicted.
use Rattle.std.proofs.Common.{◌≡◌, ℕ, ◌+◌, ◌<◌, ◌≤◌, Bool, true, false, cond, not, ◌&&◌, nat_eq, nat_le, ◌==◌, Option, Some, None, List, [], ◌∷◌, ◌++◌, length, map, refl, sym, ap, subst, ◌∙◌, arith, length-append, length-set, true≢false}
use Rattle.std.specs.List.{AllByRecursion}
use Rattle.std.proofs.lemmas.Bool.Decides.{nat_tests}
use Rattle.std.proofs.lemmas.List.{length-map}
use Rattle.composite_layout.specs.declared.spec.MirrorSpec.{MirrorSpec}
use Rattle.composite_layout.specs.FlagChanges.{FlagSets}
use Rattle.composite_layout.specs.Layouts.{Composite, IsValid}
use Rattle.composite_layout.specs.LookUps.{wholly_fresh}
use Rattle.composite_layout.specs.Making.{new_layout}
use Rattle.composite_layout.specs.Specs.{IsSpec}
use Rattle.composite_layout.proofs.New.{new_valid}
use Rattle.layout_lease.specs.declared.lease.Lease.{Lease}
use Rattle.layout_lease.specs.declared.shared.Share.{Share}
use Rattle.layout_lease.specs.Shares.{IsSoundLock, new_lock}
use Rattle.layout_lease.proofs.SoundLock.{IsSoundLock-filter}
use Rattle.layout_lease.proofs.SoundTable.{IsSoundTable-broken}
use Rattle.layout_state.specs.Mirroring.{keeping}
use Rattle.meta_server.specs.Files.{File, MetaView, changed, file_named, is_full, new_file, same_name, with_break, with_evicted, with_eviction, with_file, with_layout}
use Rattle.meta_server.specs.Layouts.{flagged, lessened, split_off}
use Rattle.meta_server.specs.Naming.{creates, removes, sets}
use Rattle.flr_base.specs.Limits.{most_bytes}
use Rattle.meta_server.specs.Sound.{AreNamedApart, IsSound, IsSoundFile}
use Rattle.meta_server.proofs.Placing.{ascending_mapped, ascending_push, below_mapped, below_push, length-changed, nat_eq_same}
use Rattle.meta_laws.specs.Calls.{left_by}
use Rattle.meta_laws.proofs.Cases.{create_cases, remove_cases, set_cases}
use Rattle.meta_laws.proofs.Changing.{flagged_valid, lessened_valid, split_valid}
use Rattle.meta_laws.proofs.Covering.{covered_broken, covered_still}
use Rattle.meta_laws.proofs.Finding.{copied_evicted, copied_pushed}
use Rattle.meta_laws.proofs.Whole.{broken_sound, sound_there, with_parts}

-- ---- a file comes

-- nobody holds a new lock
new_lock_sound : IsSoundLock new_lock
new_lock_sound = record { clients = λ k d h. absurd (omega arith); once = λ client. omega arith; below = λ k d h. absurd (omega arith); distinct = λ number. omega arith }

all_push : (P : File → Type 0) (files : List File) (x : File) → AllByRecursion P files → P x → AllByRecursion P (files ++ x ∷ [])
all_push P [] x h k = (k, tt)
all_push P (f ∷ fs) x h k = (h.0, all_push P fs x h.1 k)

-- a name is itself
same_self : (name : List ℕ) → same_name name name ≡ true
same_self [] = refl
same_self (x ∷ xs) = λ j. nat_eq_same x j && same_self xs j

-- a name that is found nowhere differs from each
unlike : (name : List ℕ) (files : List File) → file_named name files ≡ None → AllByRecursion (λ (f : File). f.name ≡ name → ⊥) files
unlike name [] e = tt
unlike name (f ∷ fs) e = by (same_name name f.name) refl e (unlike name fs)
  where
    by : (b : Bool) → same_name name f.name ≡ b → cond b (Some f) (file_named name fs) ≡ None → (file_named name fs ≡ None → AllByRecursion (λ (g : File). g.name ≡ name → ⊥) fs) → AllByRecursion (λ (g : File). g.name ≡ name → ⊥) (f ∷ fs)
    by true is e rest = absurd (cc)
    by false is e rest = ((λ same. true≢false (sym (ap (same_name name) same ∙ same_self name) ∙ is)), rest e)

named_push : (files : List File) (x : File) → AreNamedApart files → AllByRecursion (λ (f : File). f.name ≡ x.name → ⊥) files → AreNamedApart (files ++ x ∷ [])
named_push [] x h k = (tt, tt)
named_push (f ∷ fs) x h k = (all_push (λ (g : File). f.name ≡ g.name → ⊥) fs x h.0 k.0, named_push fs x h.1 k.1)

-- a file of a new name comes
pub pushed_sound : (m : MetaView) (name : List ℕ) (size : ℕ) (l : Composite) → IsSound m → file_named name m.files ≡ None → is_full m.files ≡ false → IsValid l → size ≤ most_bytes → IsSound (with_file name size l m)
pushed_sound m name size l h absent room valid few =
    let x : File = new_file m.next_file name size l in
    let less : length m.files < 16 = grind (arith, nat_tests) in
    let more = length-append m.files (x ∷ []) in
    with_parts m (m.files ++ x ∷ []) m.leases (m.next_file + 1) m.nexts h
    (record {
      files = all_push IsSoundFile m.files x h.files (record { layout = valid; lock = new_lock_sound; size = few });
      ascending = ascending_push m.files x h.ascending h.below;
      below = below_push (m.next_file + 1) m.files x h.below (omega arith);
      named = named_push m.files x h.named (unlike name m.files absent);
      few = omega (arith, more, less);
    })
    h.leases (covered_still m.files (m.files ++ x ∷ []) m.leases.keys (λ k. copied_pushed k m.files x) h.covered) h.nexts

pub created_sound : (name : List ℕ) (mirrors : List MirrorSpec) (m : MetaView) → IsSound m → IsSpec mirrors → IsSound (left_by (creates name mirrors m) m)
created_sound name mirrors m h spec = create_cases IsSound name mirrors m (record {
  same = h;
  comes = λ absent room. pushed_sound m name 0 (new_layout mirrors (length m.nexts)) h absent room (new_valid mirrors (length m.nexts) spec h.nexts.some h.nexts.few) (omega arith);
})

-- ---- a mirror goes

-- a change of a layout leaves the names
still_absent : (name : List ℕ) (n : ℕ) (l : Composite) (files : List File) → file_named name files ≡ None → file_named name (changed n (with_layout l) files) ≡ None
still_absent name n l [] e = refl
still_absent name n l (f ∷ fs) e = by (same_name name f.name) refl e (still_absent name n l fs)
  where
    kept : (a : Bool) → (cond a (with_layout l f) f).name ≡ f.name
    kept true = refl
    kept false = refl

    by : (b : Bool) → same_name name f.name ≡ b → cond b (Some f) (file_named name fs) ≡ None → (file_named name fs ≡ None → file_named name (changed n (with_layout l) fs) ≡ None) → file_named name (changed n (with_layout l) (f ∷ fs)) ≡ None
    by true is e rest = absurd (cc)
    by false is e rest =
        ap (λ (b : Bool). cond {A = Option File} b (Some (cond (nat_eq f.number n) (with_layout l f) f)) (file_named name (changed n (with_layout l) fs))) (ap (same_name name) (kept (nat_eq f.number n)) ∙ is) ∙ rest e

module _ (client : ℕ) (name : List ℕ) (m : MetaView) (h : IsSound m) where
  file : (f : File) → file_named name m.files ≡ Some f → IsSoundFile f
  file f e = sound_there (λ (y : File). same_name name y.name) m f h e

  module _ (mirror step : ℕ) where
    -- what stays of the file
    lessened_sound : (f : File) → file_named name m.files ≡ Some f → keeping mirror f.layout.components ≡ None → IsSound (with_break f.number step (lessened mirror f.layout) m)
    lessened_sound f e kept = broken_sound m f.number step (lessened mirror f.layout) m.nexts h (lessened_valid mirror f.layout kept (file f e).layout) h.nexts

    split_sound : (to : List ℕ) (f : File) → file_named name m.files ≡ Some f → keeping mirror f.layout.components ≡ None → wholly_fresh mirror f.layout.components ≡ true → file_named to m.files ≡ None → is_full m.files ≡ false
        → IsSound (with_file to f.size (split_off mirror f.layout) (with_break f.number step (lessened mirror f.layout) m))
    split_sound to f e kept fresh absent room =
        pushed_sound (with_break f.number step (lessened mirror f.layout) m) to f.size (split_off mirror f.layout) (lessened_sound f e kept) (still_absent to f.number (lessened mirror f.layout) m.files absent)
        (ap (nat_le 16) (length-changed f.number (with_layout (lessened mirror f.layout)) m.files) ∙ room) (split_valid mirror f.layout fresh (file f e).layout) (file f e).size

    pub removed_sound : (to : Option (List ℕ)) → IsSound (left_by (removes client name mirror to step m) m)
    removed_sound to = remove_cases IsSound client name mirror step m (record { same = h; goes = lessened_sound; splits = split_sound }) to

  -- ---- flags

  pub set_sound : (id : ℕ) (change : FlagSets) (step : ℕ) → IsSound (left_by (sets client name id change step m) m)
  set_sound id change step = set_cases IsSound client name id change step m (record {
    same = h;
    marks = λ f e kept. broken_sound m f.number step (flagged id change f.layout) m.nexts h (flagged_valid id change f.layout kept (file f e).layout) h.nexts;
  })

-- ---- an eviction

evicted_files : (client : ℕ) (files : List File) → AllByRecursion IsSoundFile files → AllByRecursion IsSoundFile (map (with_evicted client) files)
evicted_files client [] h = tt
evicted_files client (f ∷ fs) h =
    (record { layout = h.0.layout; lock = IsSoundLock-filter (λ (share : Share). not (share.client == client)) f.lock h.0.lock; size = h.0.size }, evicted_files client fs h.1)

evicted_named : (client : ℕ) (files : List File) → AreNamedApart files → AreNamedApart (map (with_evicted client) files)
evicted_named client [] h = tt
evicted_named client (f ∷ fs) h = (beside fs h.0, evicted_named client fs h.1)
  where
    beside : (gs : List File) → AllByRecursion (λ (g : File). f.name ≡ g.name → ⊥) gs → AllByRecursion (λ (g : File). f.name ≡ g.name → ⊥) (map (with_evicted client) gs)
    beside [] k = tt
    beside (g ∷ gs) k = (k.0, beside gs k.1)

pub evicted_sound : (client step : ℕ) (m : MetaView) → IsSound m → IsSound (with_eviction client step m)
evicted_sound client step m h =
    let files = map (with_evicted client) m.files in
    record {
      files = evicted_files client m.files h.files;
      ascending = ascending_mapped (with_evicted client) m.files (λ f. refl) h.ascending;
      below = below_mapped m.next_file (with_evicted client) m.files (λ f. refl) h.below;
      named = evicted_named client m.files h.named;
      few = subst (λ n. n ≤ 16) (sym (length-map m.files (with_evicted client))) h.few;
      leases = IsSoundTable-broken (λ (lease : Lease). lease.client == client) step m.leases.keys m.leases.next h.leases;
      covered = covered_broken files (λ (lease : Lease). lease.client == client) step m.leases.keys (covered_still m.files files m.leases.keys (λ k. copied_evicted client k m.files) h.covered);
      nexts = h.nexts;
      some = h.some;
      most = h.most;
      evicted = length-set m.evicted client step ∙ h.evicted;
    }
