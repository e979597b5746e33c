-- The layouts that calls get are those of files, and have no more objects than all files stripes.
use Rattle.std.proofs.Common.{◌≡◌, ℕ, ◌+◌, ◌≤◌, Bool, nat_eq, Some, List, [], length, refl, sym, ap, subst, ◌∙◌, arith}
use Rattle.flr_base.specs.declared.reply.Range.{Range}
use Rattle.composite_layout.specs.Layouts.{Composite, IsValid}
use Rattle.meta_server.specs.declared.answers.Begun.{Begun}
use Rattle.meta_server.specs.declared.answers.Begun.TheVariants as begun_as
use Rattle.meta_server.specs.declared.answers.CopyWhat.{CopyWhat}
use Rattle.meta_server.specs.declared.answers.CopyWhat.TheVariants.{Victim}
use Rattle.meta_server.specs.declared.answers.Opened.{Opened}
use Rattle.meta_server.specs.Beginning.{copy_begins, side_of, with_begin}
use Rattle.meta_server.specs.Files.{File, MetaView, file_named, file_of, with_change, with_layout, with_share, without_file}
use Rattle.meta_server.specs.Layouts.{begun, extended, intended}
use Rattle.meta_server.specs.Opening.{change_opens_file, with_intent}
use Rattle.meta_server.specs.Outcomes.{Gives, Refuses, Waits}
use Rattle.meta_server.specs.Outcomes as meta
use Rattle.meta_server.specs.Sound.{IsSound, IsSoundFile}
use Rattle.meta_laws.specs.Calls.{MayBegin}
use Rattle.meta_laws.proofs.Copies.{apart, there_named}
use Rattle.meta_laws.proofs.Finding.{found_keeps, found_without, other_found, same_found}
use Rattle.meta_growth.specs.Growth.{laid_out, stripes_at, total_in}
use Rattle.meta_growth.proofs.Files.{gone}
use Rattle.call_steps.specs.Servers.{Servers}
use Rattle.flr_numbers.proofs.Coming.{begin_cases, open_cases}
use Rattle.flr_stripes.proofs.Counting.{objects_at, objects_few}

-- the servers are sound, and all files together have at most so many stripes
pub record HasAtMost (stripes : ℕ) (s : Servers) : Type 0 where
  pub sound : IsSound s.meta
  pub few : laid_out s.meta ≤ stripes

-- a file has this layout
pub record LiesIn (m : MetaView) (l : Composite) : Type 0 where
  pub number : ℕ
  pub file : File
  pub there : file_of number m.files ≡ Some file
  pub layout : file.layout ≡ l

-- two files have these layouts
pub record LieApart (m : MetaView) (l k : Composite) : Type 0 where
  pub first : LiesIn m l
  pub second : LiesIn m k
  pub apart : first.number ≡ second.number → ⊥

-- ---- how many objects they have

pub lies_valid : (m : MetaView) (l : Composite) → IsSound m → LiesIn m l → IsValid l
lies_valid m l sound is = subst IsValid is.layout (found_keeps (λ (f : File). nat_eq f.number is.number) IsSoundFile m.files is.file is.there sound.files).layout

stripes_same : (f : File) (l : Composite) → f.layout ≡ l → total_in stripes_at f.layout.components ≡ total_in stripes_at l.components
stripes_same f l e = ap (λ (k : Composite). total_in stripes_at k.components) e

pub lies_few : (m : MetaView) (l : Composite) → IsSound m → LiesIn m l → total_in objects_at l.components ≤ laid_out m
lies_few m l sound is =
    let all = gone stripes_at is.number m.files is.file is.there in
    let same = stripes_same is.file l is.layout in
    let objects = objects_few l (lies_valid m l sound is) in
    omega (arith, all, same, objects)

-- those of two files together
pub apart_few : (m : MetaView) (l k : Composite) → IsSound m → LieApart m l k → total_in objects_at l.components + total_in objects_at k.components ≤ laid_out m
apart_few m l k sound are =
    let a : LiesIn m l = are.first in
    let b : LiesIn m k = are.second in
    let all = gone stripes_at a.number m.files a.file a.there in
    let others = gone stripes_at b.number (without_file a.number m.files) b.file (found_without b.number a.number m.files (λ same. are.apart (sym same)) ∙ b.there) in
    let same = stripes_same a.file l a.layout in
    let same_too = stripes_same b.file k b.layout in
    let objects = objects_few l (lies_valid m l sound a) in
    let objects_too = objects_few k (lies_valid m k sound b) in
    omega (arith, all, others, same, same_too, objects, objects_too)

-- ---- an open

-- the layout that is opened is that of a file
abbrev pub OpensIn : meta.Outcome Opened → Type 0
OpensIn (Gives o after) = LiesIn after o.layout
OpensIn (Refuses answer) = Unit {0}
OpensIn (Waits holder) = Unit {0}

pub opens_in : (client : ℕ) (m : MetaView) → IsSound m → (name : List ℕ) (range : Range) (step : ℕ) (big : Bool) → OpensIn (change_opens_file client range step m name big (file_named name m.files))
opens_in client m sound name range step big = open_cases OpensIn client name range step m big (record {
  refuses = λ answer. tt;
  waits = λ holder. tt;
  shared = λ f small e ready. record { number = f.number; file = with_share client f; there = same_found f.number (with_share client) m.files f (λ y. refl) (there_named m sound name f e); layout = refl };
  intended = λ f mirror small e primary alone. intends f mirror e;
})
  where
    intends : (f : File) (mirror : ℕ) → file_named name m.files ≡ Some f → LiesIn (with_change f.number (with_share client) (with_intent range mirror step f m)) (intended range mirror f.number m.nexts f.layout)
    intends f mirror e =
        let l : Composite = intended range mirror f.number m.nexts f.layout in
        let mid : MetaView = with_intent range mirror step f m in
        record {
          number = f.number;
          file = with_share client (with_layout l f);
          there = same_found f.number (with_share client) mid.files (with_layout l f) (λ y. refl) (same_found f.number (with_layout l) m.files f (λ y. refl) (there_named m sound name f e));
          layout = refl;
        }

-- ---- a begin

-- the layout with which a copy begins is that of a file; those of a merge are of two files
abbrev pub BeginsIn : meta.Outcome Begun → Type 0
BeginsIn (Gives begun_as.Nothing after) = Unit {0}
BeginsIn (Gives (begun_as.Copy side ids) after) = LiesIn after side.layout
BeginsIn (Gives (begun_as.Merge ours theirs) after) = LieApart after ours.layout theirs.layout
BeginsIn (Refuses answer) = Unit {0}
BeginsIn (Waits holder) = Unit {0}

module _ (client : ℕ) (name : List ℕ) (what : CopyWhat) (m : MetaView) (sound : IsSound m) (may : MayBegin client name what m) where
  begins_on : (ids : List ℕ) (f : File) (l : Composite) → file_named name m.files ≡ Some f → LiesIn (with_begin client ids (with_layout l f) m) (begun ids f.number m.nexts l)
  begins_on ids f l e =
      let new : Composite = begun ids f.number m.nexts l in
      record { number = f.number; file = with_layout new f; there = same_found f.number (with_layout new) m.files f (λ y. refl) (there_named m sound name f e); layout = refl }

  merges_on : (victim : List ℕ) (f v : File) → what ≡ Victim victim → file_named name m.files ≡ Some f → file_named victim m.files ≡ Some v
      → LieApart (with_begin client [] v (with_begin client [] f m)) (side_of client [] f m).layout (side_of client [] v (with_begin client [] f m)).layout
  merges_on victim f v same e k =
      let mid : MetaView = with_begin client [] f m in
      let ours : Composite = begun [] f.number m.nexts f.layout in
      let theirs : Composite = begun [] v.number mid.nexts v.layout in
      let two : f.number ≡ v.number → ⊥ = apart client name what m sound may victim f v same e k in
      record {
        first = record {
          number = f.number;
          file = with_layout ours f;
          there = other_found f.number v.number (with_layout theirs) mid.files (λ y. refl) two ∙ same_found f.number (with_layout ours) m.files f (λ y. refl) (there_named m sound name f e);
          layout = refl;
        };
        second = record {
          number = v.number;
          file = with_layout theirs v;
          there = same_found v.number (with_layout theirs) mid.files v (λ y. refl) (other_found v.number f.number (with_layout ours) m.files (λ y. refl) (λ same. two (sym same)) ∙ there_named m sound victim v k);
          layout = refl;
        };
        apart = two;
      }

  pub begins_in : BeginsIn (copy_begins client name what m)
  begins_in = begin_cases BeginsIn client name what m (record {
    refuses = λ answer. tt;
    waits = λ holder. tt;
    same = tt;
    begins = λ ids f e free alone. begins_on ids f f.layout e;
    adds = λ mirrors f is e free alone within. tt;
    extends = λ mirrors ids f is e free alone within. begins_on ids f (extended mirrors (length m.nexts) f.layout) e;
    both = λ victim f v is e k free free_too alone alone_too within. merges_on victim f v is e k;
  })
