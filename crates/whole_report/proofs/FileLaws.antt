-- Files of a report, one after another.
use Rattle.std.proofs.Common.{◌≡◌, ℕ, ◌+◌, ◌-◌, ◌<◌, true, false, List, [], ◌∷◌, ◌++◌, length, take, Option, refl, sym, ap, subst, ◌∙◌, append_assoc, arith}
use Rattle.std.specs.List.{AllByRecursion}
use Rattle.flr_base.specs.Faults.{IsFirstFault}
use Rattle.flr_base.proofs.Lists.{all_append}
use Rattle.text_words.specs.Lines.{lines_of}
use Rattle.layout_text.specs.declared.error.TextError.{TextError}
use Rattle.layout_text.specs.declared.error.TextError.TheVariants.{Bad, NoMemory}
use Rattle.report_text.specs.Texts.{text_of_file, text_of_files}
use Rattle.report_text.specs.declared.report.FileLine.{FileLine}
use Rattle.call_read.specs.Following.{Lines, ended, StopsAt}
use Rattle.report_read.specs.Files.{AreFileLines, FileStands, IsFile}
use Rattle.whole_report.specs.Coming.{file_lines, ScheduleComes, FilesCome}
use Rattle.whole_report.specs.Fronts.{begins, ends, further, FileFault, FilesStand}
use Rattle.whole_report.proofs.CallTexts.{texts, file_first, file_own, file_ends}
use Rattle.whole_report.proofs.CallLaws.{items_more}
use Rattle.whole_report.proofs.Further.{fault_further}
use Rattle.whole_report.proofs.Comings.{files_begin, schedule_byte, files_byte, file_comes}
use Rattle.whole_report.proofs.Counts.{ends_append, shorter, first_byte, begins_first}
use Rattle.whole_report.proofs.Faults.{Then, fault_behind, stop_then, narrow}

-- ---- the first file

-- where a text begins with f, the files that come begin with one
file_heads : (top : ℕ) (text : List ℕ) (y : Option (List ℕ)) (tail zs : Lines) → begins 102 text ≡ true → lines_of text ≡ y ∷ tail → FilesCome top (y ∷ zs) → Then AreFileLines (FilesCome top) (y ∷ zs)
file_heads top text y tail zs begin first (fs, more, all, s, e) = by fs all e
  where
    by : (gs : List FileLine) → AllByRecursion IsFile gs → y ∷ zs ≡ file_lines gs ++ more → Then AreFileLines (FilesCome top) (y ∷ zs)
    by [] all e =
        let byte : first_byte (lines_of text) ≡ 115 = ap first_byte first ∙ ap first_byte e ∙ schedule_byte top more s in
        let clash : true ≡ false = sym begin ∙ begins_first 102 115 text byte (omega arith) in
        absurd cc
    by (g ∷ gs) all e = (lines_of (text_of_file g.name g.size g.layout), file_lines gs ++ more, (g, all.0, refl), (gs, more, all.1, s, refl), e ∙ append_assoc (lines_of (text_of_file g.name g.size g.layout)) (file_lines gs) more)

-- a file and then files are files
one_more : (top : ℕ) (zs : Lines) → Then AreFileLines (FilesCome top) zs → FilesCome top zs
one_more top zs (front, rest, (f, is, own), (fs, more, all, s, others), e) =
    (f ∷ fs, more, (is, all), s, e ∙ ap (λ (ls : Lines). ls ++ rest) own ∙ ap (λ (ls : Lines). lines_of (text_of_file f.name f.size f.layout) ++ ls) others ∙ sym (append_assoc (lines_of (text_of_file f.name f.size f.layout)) (file_lines fs) more))

file_fault : (text : List ℕ) (error : TextError) → begins 102 text ≡ true → StopsAt AreFileLines text error → FileFault text error
file_fault text (Bad line) begin s = λ top few.
    let here = stop_then AreFileLines (FilesCome top) (lines_of text) s.0 (files_begin top few) s.1 in
    let fault = narrow (FilesCome top) (Then AreFileLines (FilesCome top)) (lines_of text) s.0 (one_more top) (λ y tail zs first h. file_heads top text y tail zs begin first h) (λ h. let low = (files_byte top [] h).0 in omega (arith, low)) here in
    (s.0, fault, s.2)
file_fault text NoMemory begin s = tt

-- ---- files, one after another

pub record FilesSoFar (text : List ℕ) (fs : List FileLine) (rest : List ℕ) : Type 0 where
  pub all : AllByRecursion IsFile fs
  pub parts : text ≡ text_of_files fs ++ rest
  pub goes : (top at : ℕ) → IsFirstFault (FilesCome top) (lines_of rest) at → IsFirstFault (FilesCome top) (lines_of text) (ends (text_of_files fs) + at)

pub files_start : (text : List ℕ) → FilesSoFar text [] text
files_start text = record {
  all = tt;
  parts = refl;
  goes = λ top at f. let place : at ≡ 0 + at = omega arith in subst (λ (n : ℕ). IsFirstFault (FilesCome top) (lines_of text) n) place f;
}

file_goes : (text : List ℕ) (f : FileLine) (rest : List ℕ) → FileStands text f rest → (top at : ℕ) → IsFirstFault (FilesCome top) (lines_of rest) at → IsFirstFault (FilesCome top) (lines_of text) (ends (text_of_file f.name f.size f.layout) + at)
file_goes text f rest (is, parts) top at fault =
    let own : Lines = lines_of (text_of_file f.name f.size f.layout) in
    let whole = fault_behind (FilesCome top) (FilesCome top) own (lines_of rest) at (file_comes f top is) fault in
    let size : length own ≡ length (ended (texts f)) = ap length (file_own f is) in
    let count = file_ends f is in
    let place : length own + at ≡ ends (text_of_file f.name f.size f.layout) + at = omega (arith, size, count) in
    let lines : own ++ lines_of rest ≡ lines_of text = ap (λ (ys : Lines). ys ++ lines_of rest) (file_own f is) ∙ sym (ap lines_of parts ∙ file_first f rest is) in
    subst (λ (n : ℕ). IsFirstFault (FilesCome top) (lines_of text) n) place (subst (λ (ys : Lines). IsFirstFault (FilesCome top) ys (length own + at)) lines whole)

pub files_more : (text : List ℕ) (fs : List FileLine) (rest : List ℕ) (f : FileLine) (more : List ℕ) → FilesSoFar text fs rest → FileStands rest f more → FilesSoFar text (fs ++ f ∷ []) more
files_more text fs rest f more so_far s =
    let own : List ℕ = text_of_file f.name f.size f.layout in
    let longer : text_of_files (fs ++ f ∷ []) ≡ text_of_files fs ++ own = items_more (λ (g : FileLine). text_of_file g.name g.size g.layout) fs f in
    record {
      all = all_append IsFile fs (f ∷ []) so_far.all (s.0, tt);
      parts = so_far.parts ∙ ap (λ (xs : List ℕ). text_of_files fs ++ xs) s.1 ∙ sym (append_assoc (text_of_files fs) own more) ∙ ap (λ (xs : List ℕ). xs ++ more) (sym longer);
      goes = λ top at fault.
          let count : ends (text_of_files (fs ++ f ∷ [])) ≡ ends (text_of_files fs) + ends own = ap ends longer ∙ ends_append (text_of_files fs) own in
          let place : ends (text_of_files fs) + (ends own + at) ≡ ends (text_of_files (fs ++ f ∷ [])) + at = omega (arith, count) in
          subst (λ (n : ℕ). IsFirstFault (FilesCome top) (lines_of text) n) place (so_far.goes top (ends own + at) (file_goes rest f more s top at fault));
    }

pub files_shorter : (text : List ℕ) (f : FileLine) (rest : List ℕ) → FileStands text f rest → length rest < length text
files_shorter text f rest s = shorter text (text_of_file f.name f.size f.layout) rest s.1 (some (text_of_file f.name f.size f.layout) (file_ends f s.0))
  where
    some : (xs : List ℕ) → ends xs ≡ length (ended (texts f)) → 0 < length xs
    some [] e = absurd (omega (arith, e))
    some (x ∷ xs) e = omega arith

-- where no further file begins, the schedule comes
pub files_end : (text : List ℕ) (fs : List FileLine) (rest : List ℕ) → FilesSoFar text fs rest → begins 102 rest ≡ false → FilesStand text fs rest
files_end text fs rest so_far none = record {
  all = so_far.all;
  parts = so_far.parts;
  goes = λ top at f. so_far.goes top at (narrow (FilesCome top) (ScheduleComes top) (lines_of rest) at (λ zs s. ([], zs, tt, s, refl)) (thin top) (λ h. let low = (files_byte top [] h).0 in omega (arith, low)) f);
}
  where
    thin : (top : ℕ) (y : Option (List ℕ)) (tail zs : Lines) → lines_of rest ≡ y ∷ tail → FilesCome top (y ∷ zs) → ScheduleComes top (y ∷ zs)
    thin top y tail zs first (gs, more, all, s, e) = by gs all e
      where
        by : (ks : List FileLine) → AllByRecursion IsFile ks → y ∷ zs ≡ file_lines ks ++ more → ScheduleComes top (y ∷ zs)
        by [] all e = subst (ScheduleComes top) (sym e) s
        by (k ∷ ks) all e =
            let lines : y ∷ zs ≡ (ended (texts k) ++ file_lines ks) ++ more = e ∙ ap (λ (ls : Lines). (ls ++ file_lines ks) ++ more) (file_own k all.0) in
            let byte : first_byte (lines_of rest) ≡ 102 = ap first_byte first ∙ ap first_byte lines in
            let clash : false ≡ true = sym none ∙ begins_first 102 102 rest byte (omega arith) in
            absurd cc

pub files_fault : (text : List ℕ) (fs : List FileLine) (rest : List ℕ) (error told : TextError) → FilesSoFar text fs rest → begins 102 rest ≡ true → StopsAt AreFileLines rest error → told ≡ further (ends (take (length text - length rest) text)) error → FileFault text told
files_fault text fs rest error told so_far begin s is = subst (FileFault text) (sym is) (by error (file_fault rest error begin s))
  where
    by : (x : TextError) → FileFault rest x → FileFault text (further (ends (take (length text - length rest) text)) x)
    by NoMemory h = tt
    by (Bad line) h = λ top few. fault_further (FilesCome top) (FilesCome top) text (text_of_files fs) rest line so_far.parts (so_far.goes top) (h top few)
