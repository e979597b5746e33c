-- One file after the other is honest against its plain file.
use Rattle.std.proofs.Common.{◌≡◌, ℕ, ◌<◌, Bool, true, false, cond, nat_eq, Option, Some, List, [], ◌∷◌, refl, sym, ap, ◌∙◌, arith, get_or, length}
use Rattle.std.proofs.lemmas.Bool.{eq-eqb, ne_eqb}
use Rattle.std.specs.List.{AllByRecursion}
use Rattle.std.specs.Option.{option_map_or}
use Rattle.std.specs.Str.{bytes_eq}
use Rattle.std.proofs.lemmas.Slice.Eq.{bytes_eq-Decides}
use Rattle.meta_server.specs.Files.{AreAscending, File, file_of}
use Rattle.meta_server.specs.Sound.{AreNamedApart}
use Rattle.flr_steps.specs.States.{State}
use Rattle.flr_steps.specs.Traces.{Trace}
use Rattle.plain_files.specs.Files.{Plain, bytes_of}
use Rattle.flr_claims.specs.Honesty.{AreHonest, IsHonest, IsHonestFile}
use Rattle.flr_claims.specs.Runs.{store_of}
use Rattle.flr_bytes.specs.Files.{AreSized}
use Rattle.flr_bytes.specs.Runs.{Honest}
use Rattle.flr_bytes.specs.Sentences.{plain_bytes}
use Rattle.flr_bytes.proofs.StoreEffects.{bytes_first, first_bytes}

-- each file with its plain file has this, and there are as many
abbrev AreBoth : (File → Plain → Type 0) → List File → List Plain → Type 0
AreBoth P [] [] = Unit {0}
AreBoth P (f ∷ fs) (p ∷ ps) = P f p × AreBoth P fs ps
AreBoth P [] (p ∷ ps) = ⊥
AreBoth P (f ∷ fs) [] = ⊥

-- ---- the plain file that is found for a file is its own

abbrev IsOwn : List File → List Plain → File → Plain → Type 0
IsOwn fs ps f p = (f.name ≡ p.name) × (f.size ≡ length p.bytes) × (file_of f.number fs ≡ Some f) × (first_bytes f.name ps ≡ p.bytes)

both_behind : (f : File) (p : Plain) (fs gs : List File) (ps qs : List Plain) → f.name ≡ p.name → AllByRecursion (λ (g : File). f.number < g.number) gs → AllByRecursion (λ (g : File). f.name ≡ g.name → ⊥) gs → AreBoth (IsOwn fs ps) gs qs
    → AreBoth (IsOwn (f ∷ fs) (p ∷ ps)) gs qs
both_behind f p fs [] ps [] named less apart own = tt
both_behind f p fs (g ∷ gs) ps (q ∷ qs) named less apart own =
    let other : nat_eq f.number g.number ≡ false = (let less = less.0 in ne_eqb f.number g.number (λ same. omega (arith, same, less))) in
    let behind : file_of g.number (f ∷ fs) ≡ Some g = ap (λ (b : Bool). cond b (Some f) (file_of g.number fs)) other ∙ own.0.2 in
    let isnt : bytes_eq p.name g.name ≡ false = none (bytes_eq p.name g.name) refl in
    let bytes : first_bytes g.name (p ∷ ps) ≡ q.bytes = ap (λ (b : Bool). cond b p.bytes (first_bytes g.name ps)) isnt ∙ own.0.3 in
    ((own.0.0, own.0.1, behind, bytes), both_behind f p fs gs ps qs named less.1 apart.1 own.1)
  where
    none : (b : Bool) → bytes_eq p.name g.name ≡ b → b ≡ false
    none true is = absurd (apart.0 (named ∙ (bytes_eq-Decides p.name g.name).0 is))
    none false is = refl
both_behind f p fs [] ps (q ∷ qs) named less apart own = absurd own
both_behind f p fs (g ∷ gs) ps [] named less apart own = absurd own

-- so it is of all
each_own : (fs : List File) (ps : List Plain) → AreAscending fs → AreNamedApart fs → AreSized fs ps → AreBoth (IsOwn fs ps) fs ps
each_own [] [] less apart sized = tt
each_own (f ∷ fs) (p ∷ ps) less apart sized =
    let here : file_of f.number (f ∷ fs) ≡ Some f = ap (λ (b : Bool). cond b (Some f) (file_of f.number fs)) (eq-eqb f.number f.number refl) in
    let is : bytes_eq p.name f.name ≡ true = (bytes_eq-Decides p.name f.name).1 (sym sized.0) in
    ((sized.0, sized.1, here, ap (λ (b : Bool). cond b p.bytes (first_bytes f.name ps)) is), both_behind f p fs fs ps ps sized.0 less.0 apart.0 (each_own fs ps less.1 apart.1 sized.2))
each_own [] (p ∷ ps) less apart sized = absurd sized
each_own (f ∷ fs) [] less apart sized = absurd sized

-- ---- honest files

to_honest : (s : State) (t : Trace) (fs gs : List File) (ps qs : List Plain) → ((f : File) (p : Plain) → IsOwn fs ps f p → IsHonestFile s t f p) → AreBoth (IsOwn fs ps) gs qs → AreHonest s t gs qs
to_honest s t fs [] ps [] each own = tt
to_honest s t fs (g ∷ gs) ps (q ∷ qs) each own = (each g q own.0, to_honest s t fs gs ps qs each own.1)
to_honest s t fs [] ps (q ∷ qs) each own = absurd own
to_honest s t fs (g ∷ gs) ps [] each own = absurd own

-- where files have the names and sizes of the plain files, and their fresh components hold the bytes of these by the files' numbers, each file is honest
pub files_honest : (s : State) (t : Trace) → AreAscending s.shared.meta.files → AreNamedApart s.shared.meta.files → Honest s t → IsHonest s t
files_honest s t less apart h = to_honest s t fs fs ps ps each (each_own fs ps less apart h.sized)
  where
    fs : List File
    fs = s.shared.meta.files

    ps : List Plain
    ps = store_of s t

    each : (f : File) (p : Plain) → IsOwn fs ps f p → IsHonestFile s t f p
    each f p own =
        let bytes : plain_bytes fs ps f.number ≡ p.bytes = ap (λ (o : Option File). option_map_or (λ (x : File). bytes_of ps x.name) o []) own.2 ∙ bytes_first f.name ps ∙ own.3 in
        record {
          name = own.0;
          size = own.1;
          bytes = λ d x listed fresh own_byte closed. h.holds f.number f d x own.2 listed fresh own_byte closed ∙ ap (λ (bs : List ℕ). get_or bs x 0) bytes;
        }
