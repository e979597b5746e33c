-- What the begin of a copy gives: the keys of files that have the layouts that were got.
use Rattle.std.proofs.Common.{◌≡◌, ℕ, Some, List, [], length, refl, sym, ap, subst, ◌∙◌}
use Rattle.composite_layout.specs.Layouts.{Composite, IsValid}
use Rattle.layout_state.specs.Marking.{is_named}
use Rattle.meta_server.specs.declared.answers.Begun.{Begun}
use Rattle.meta_server.specs.declared.answers.Begun.TheVariants as begun_as
use Rattle.meta_server.specs.declared.answers.CopyWhat.{CopyWhat}
use Rattle.meta_server.specs.declared.answers.CopyWhat.TheVariants.{Victim}
use Rattle.meta_server.specs.Beginning.{copy_begins, side_of, with_begin}
use Rattle.meta_server.specs.Conditions.{IsCopyOf}
use Rattle.meta_server.specs.Files.{File, MetaView, changed, file_named, file_of, with_layout}
use Rattle.meta_server.specs.Layouts.{begun, extended}
use Rattle.meta_server.specs.Outcomes.{Breaks, Ending, Ends, Gives, Holds, Refuses, Waits}
use Rattle.meta_server.specs.Outcomes as meta
use Rattle.meta_server.specs.Sound.{IsSound}
use Rattle.meta_server.proofs.Going.{name_found}
use Rattle.meta_laws.specs.Calls.{IsCopyable}
use Rattle.meta_laws.proofs.Changing.{begun_valid, extended_valid, over_AreNext}
use Rattle.meta_laws.proofs.Copies.{sound_named, there_named}
use Rattle.meta_laws.proofs.Finding.{other_found, same_found}
use Rattle.meta_laws.proofs.Opens.{one_file}
use Rattle.flr_numbers.proofs.Coming.{begin_cases}
use Rattle.flr_sole.specs.Copies.{IsSideOf}

-- ---- a begin

-- what a begin gives: each key is of its file, which has the layout that was got
abbrev pub Sides : meta.Outcome Begun → Type 0
Sides (Gives begun_as.Nothing after) = Unit {0}
Sides (Gives (begun_as.Copy side ids) after) = IsSideOf after side
Sides (Gives (begun_as.Merge ours theirs) after) = IsSideOf after ours × IsSideOf after theirs
Sides (Refuses refusal) = Unit {0}
Sides (Waits holder) = Unit {0}

module _ (m : MetaView) (h : IsSound m) (client : ℕ) (name : List ℕ) where
  begun_side : (mid : MetaView) (ids : List ℕ) (f x : File) (l : Composite) → x.number ≡ f.number → x.layout ≡ l → IsValid (begun ids x.number mid.nexts l) → file_of f.number mid.files ≡ Some f → IsSideOf (with_begin client ids x mid) (side_of client ids x mid)
  begun_side mid ids f x l number layout valid here = (refl, λ held y found. ap (λ (z : File). z.layout) (one_file (file_of x.number (with_begin client ids x mid).files) y (with_layout (begun ids x.number mid.nexts x.layout) f) found after), subst (λ (k : Composite). IsValid (begun ids x.number mid.nexts k)) (sym layout) valid)
    where
      after : file_of x.number (changed x.number (with_layout (begun ids x.number mid.nexts x.layout)) mid.files) ≡ Some (with_layout (begun ids x.number mid.nexts x.layout) f)
      after = same_found x.number (with_layout (begun ids x.number mid.nexts x.layout)) mid.files f (λ y. refl) (ap (λ n. file_of n mid.files) number ∙ here)

  pub sides_begun : (what : CopyWhat) → IsCopyOf name what → IsCopyable what → Sides (copy_begins client name what m)
  sides_begun what copy able = begin_cases Sides client name what m (record {
    refuses = λ answer. tt;
    waits = λ holder. tt;
    same = tt;
    begins = λ ids f e free alone. begun_side m ids f f f.layout refl refl (begun_valid ids f.number m.nexts f.layout h.nexts (valid f name e)) (there_named m h name f e);
    adds = λ mirrors f is e free alone within. tt;
    extends = λ mirrors ids f is e free alone within. (
        let l : Composite = extended mirrors (length m.nexts) f.layout in
        let good : IsValid l = extended_valid mirrors (length m.nexts) m.most f.layout (subst IsCopyable is able) h.nexts.some h.nexts.few h.most within (valid f name e) in
        begun_side m ids f (with_layout l f) l refl refl (begun_valid ids f.number m.nexts l h.nexts good) (there_named m h name f e)
        );
    both = λ victim f v is e k free free_too alone alone_too within. (
        let mid : MetaView = with_begin client [] f m in
        let last : MetaView = with_begin client [] v mid in
        let first = begun_side m [] f f f.layout refl refl (begun_valid [] f.number m.nexts f.layout h.nexts (valid f name e)) (there_named m h name f e) in
        let beside : file_of v.number mid.files ≡ Some v = other_found v.number f.number (with_layout (begun [] f.number m.nexts f.layout)) m.files (λ y. refl) (apart victim f v is e k) ∙ there_named m h victim v k in
        let still_there : file_of f.number last.files ≡ file_of f.number mid.files = other_found f.number v.number (with_layout (begun [] v.number mid.nexts v.layout)) mid.files (λ y. refl) (λ eq. apart victim f v is e k (sym eq)) in (
          (first.0, λ held y found. ap (λ (z : File). z.layout) (one_file (file_of f.number mid.files) y (with_layout (begun [] f.number m.nexts f.layout) f) (sym still_there ∙ found) (same_found f.number (with_layout (begun [] f.number m.nexts f.layout)) m.files f (λ z. refl) (there_named m h name f e))), first.2),
          begun_side mid [] v v v.layout refl refl (begun_valid [] v.number mid.nexts v.layout (over_AreNext (is_named []) f.number m.nexts f.layout h.nexts) (valid v victim k)) beside,
        )
        );
  })
    where
      valid : (f : File) (name : List ℕ) → file_named name m.files ≡ Some f → IsValid f.layout
      valid f name e = (sound_named m h name f e).layout

      apart : (victim : List ℕ) (f v : File) → what ≡ Victim victim → file_named name m.files ≡ Some f → file_named victim m.files ≡ Some v → v.number ≡ f.number → ⊥
      apart victim f v is e k equal =
          let found : file_of f.number m.files ≡ Some v = ap (λ n. file_of n m.files) (sym equal) ∙ there_named m h victim v k in
          let one : f ≡ v = one_file (file_of f.number m.files) f v (there_named m h name f e) found in
          let two : IsCopyOf name (Victim victim) = subst (IsCopyOf name) is copy in
          two (sym (name_found name m.files f e) ∙ ap (λ (y : File). y.name) one ∙ name_found victim m.files v k)
