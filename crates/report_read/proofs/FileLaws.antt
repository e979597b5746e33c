-- A line is read as that of a file where it is one, and its layout's lines follow.
use Rattle.std.proofs.Common.{◌≡◌, ℕ, suc, ◌≤◌, Bool, cond, List, [], ◌∷◌, ◌++◌, length, map, take, Option, Some, None, Result, Ok, Err, refl, sym, ap, subst, ◌∙◌, append_assoc, arith}
use denote.Ref.{Bor}
use Rattle.std.specs.Prelude.{codes, IfOk, MatchResult, true, ◌↔◌}
use Rattle.std.specs.Option.{option_map}
use Rattle.std.specs.Fmt.{decimal}
use Rattle.std.proofs.lemmas.Bool.{cond_both}
use Rattle.std.proofs.lemmas.List.{append_cancel_left}
use Rattle.std.proofs.lemmas.List.Splits.{join_with_byte-slice_split}
use Rattle.std.proofs.Math.Seq.{take-append_seam}
use Rattle.flr_base.specs.Faults.{Begins}
use Rattle.flr_base.proofs.Machine.{reached}
use Rattle.text_words.specs.Lines.{lines_of, text_of, unended}
use Rattle.text_words.specs.Names.{is_name_to}
use Rattle.text_words.specs.Numbers.{number_from}
use Rattle.text_words.specs.Pieces.{Lacks, AllLack, parts_of}
use Rattle.text_words.specs.Words.{AreWords, spaced}
use Rattle.text_words.proofs.Spellings.{from_takes, from_again}
use Rattle.text_words.proofs.WordTexts.{decimal_word, parts_of-spaced, spaced_lacks}
use Rattle.composite_layout.specs.Layouts.{Composite}
use Rattle.layout_text.specs.Spelling.{AreLines, StandsFirst, IsNoMemory}
use Rattle.layout_text.specs.Texts.{component_line, text_of_layout}
use Rattle.layout_text.specs.Texts as layouts
use Rattle.layout_text.specs.declared.error.TextError.{TextError}
use Rattle.layout_text.specs.declared.error.TextError.TheVariants.{Bad, NoMemory}
use Rattle.layout_text.proofs.FrontLaws.{one_front}
use Rattle.layout_text.proofs.ReadLaws.{start, from_texts, reads_texts}
use Rattle.layout_text.proofs.WordLaws.{lines_of-layout, texts_lack}
use Rattle.report_text.specs.Texts.{file_head, text_of_file}
use Rattle.report_text.specs.declared.report.FileLine.{FileLine}
use Rattle.reply_read.specs.declared.answer.Answer.TheVariants as answers
use Rattle.reply_read.proofs.AnswerLaws.{behind_takes}
use Rattle.reply_read.proofs.WordLaws.{mapped, word_name}
use Rattle.call_read.specs.Following.{Lines, ended, IsStop, line_on, StopsAt, Follow}
use Rattle.call_read.proofs.FollowLaws.{lines_first, not_unended}
use Rattle.call_read.proofs.Stops.{Leaves, stop_behind, stop_here}
use Rattle.report_read.specs.declared.file.FileHead.{FileHead}
use Rattle.report_read.specs.Files.{file_words, file_line, IsFileHead, head_at, IsFile, AreFileLines, FileStands, head_made, head_in, head_behind, head_words, head_of}

-- ---- a file's own line

four : (s t u v : List ℕ) (a b c d : List ℕ) → s ≡ a → t ≡ b → u ≡ c → v ≡ d → s ∷ t ∷ u ∷ v ∷ [] ≡ a ∷ b ∷ c ∷ d ∷ []
four s t u v a b c d g h i j = rw (g, h, i, j) refl

head_in_takes : (name size : List ℕ) (h : FileHead) → head_in name size ≡ Some h → IsFileHead h × (name ≡ h.name) × (size ≡ decimal h.size)
unfolding head_in
head_in_takes name size h e = cond_both (is_name_to 141 name) (option_map (head_made name) (number_from 0 18446744073709551615 size)) None (λ o. o ≡ Some h → IsFileHead h × (name ≡ h.name) × (size ≡ decimal h.size))
    (λ t f.
    let m = mapped (head_made name) (number_from 0 18446744073709551615 size) h f in
    let n = from_takes 0 18446744073709551615 size m.0 m.1 in
    subst (λ (x : FileHead). IsFileHead x × (name ≡ x.name) × (size ≡ decimal x.size)) m.2 ((t, n.1), refl, n.2))
    (λ t f. absurd cc) e

head_words_takes : (words : List (List ℕ)) (h : FileHead) → head_words words ≡ Some h → IsFileHead h × (words ≡ file_words h)
head_words_takes [] h e = absurd cc
head_words_takes (v ∷ []) h e = absurd cc
head_words_takes (v ∷ a ∷ []) h e = absurd cc
head_words_takes (v ∷ a ∷ b ∷ []) h e = absurd cc
head_words_takes (v ∷ a ∷ k ∷ b ∷ []) h e =
    let f = behind_takes (codes "file") v (head_behind a k b) h e in
    let g = behind_takes (codes "size") k (head_in a b) h f.1 in
    let t = head_in_takes a b h g.1 in
    (t.0, four v a k b (codes "file") h.name (codes "size") (decimal h.size) f.0 t.1 g.0 t.2)
head_words_takes (v ∷ a ∷ k ∷ b ∷ c ∷ words) h e = absurd cc

head_in_again : (name : List ℕ) (n : ℕ) → is_name_to 141 name ≡ true → n ≤ 18446744073709551615 → head_in name (decimal n) ≡ Some (head_made name n)
unfolding head_in
head_in_again name n h few =
    ap (λ (b : Bool). cond b (option_map (head_made name) (number_from 0 18446744073709551615 (decimal n))) None) h
    ∙ ap (λ (o : Option ℕ). option_map (head_made name) o) (from_again 0 18446744073709551615 n (omega arith) (omega arith) few)

words_words : (h : FileHead) → IsFileHead h → AreWords (file_words h)
words_words h good = (refl, ((word_name 141).word h.name good.0, (refl, (decimal_word h.size, tt))))

pub file_lacks : (h : FileHead) → IsFileHead h → Lacks 10 (file_line h)
file_lacks h good = spaced_lacks (file_words h) (words_words h good)

head_again : (h : FileHead) → IsFileHead h → head_of (file_line h) ≡ Some h
unfolding head_of
head_again h good =
    let said : head_words (file_words h) ≡ Some h = head_in_again h.name h.size good.0 good.1 in
    ap head_words (parts_of-spaced (codes "file") (h.name ∷ codes "size" ∷ decimal h.size ∷ []) (words_words h good)) ∙ said

head_takes : (line : List ℕ) (h : FileHead) → head_of line ≡ Some h → IsFileHead h × (line ≡ file_line h)
unfolding head_of
head_takes line h e = let k = head_words_takes (parts_of 32 line) h e in (k.0, sym (join_with_byte-slice_split 32 line) ∙ ap spaced k.1)

pub head_spelled : {E : Type 0} (line : List ℕ) (r : Result (Option FileHead) E) → IfOk r (λ found. found ≡ head_of line) → IfOk r (λ found. (head : FileHead) → ((found ≡ Some head) ↔ (IsFileHead head × (line ≡ file_line head))))
head_spelled line (Err e) h = tt
head_spelled line (Ok found) h = λ head. (λ e. head_takes line head (sym h ∙ e), λ k. h ∙ ap head_of k.1 ∙ head_again head k.0)

one_head : (h k : FileHead) → IsFileHead h → IsFileHead k → file_line h ≡ file_line k → h ≡ k
one_head h k a b e = let both : Some h ≡ Some k = sym (head_again h a) ∙ ap head_of e ∙ head_again k b in cc

-- ---- a file's lines

abbrev file_at : FileHead → Composite → FileLine
file_at h l = record { name = h.name; size = h.size; layout = l }

pub file_text : (f : FileLine) → text_of_file f.name f.size f.layout ≡ file_line (head_at f) ++ 10 ∷ text_of_layout f.layout
unfolding text_of_file file_head
file_text f = append_assoc (file_line (head_at f)) (10 ∷ []) (text_of_layout f.layout)

file_lines : (f : FileLine) → IsFile f → lines_of (text_of_file f.name f.size f.layout) ≡ Some (file_line (head_at f)) ∷ lines_of (text_of_layout f.layout)
file_lines f h = ap lines_of (file_text f) ∙ lines_first (file_line (head_at f)) (text_of_layout f.layout) (file_lacks (head_at f) h.head)

-- behind a file's own line comes its layout
pub file_leaves : (h : FileHead) → IsFileHead h → Leaves AreFileLines (Some (file_line h) ∷ []) (Follow answers.Layout)
file_leaves h good tail = (forth, back)
  where
    forth : AreFileLines (Some (file_line h) ∷ tail) → Follow answers.Layout tail
    forth (f, is, e) =
        let lines : Some (file_line h) ∷ tail ≡ Some (file_line (head_at f)) ∷ lines_of (text_of_layout f.layout) = e ∙ file_lines f is in
        let rest : tail ≡ lines_of (text_of_layout f.layout) = cc in
        (f.layout, is.layout, rest ∙ lines_of-layout f.layout)

    back : Follow answers.Layout tail → AreFileLines (Some (file_line h) ∷ tail)
    back (l, valid, e) =
        let is : IsFile (file_at h l) = record { head = good; layout = valid } in
        (file_at h l, is, ap (λ (ys : Lines). Some (file_line h) ∷ ys) (e ∙ sym (lines_of-layout l)) ∙ sym (file_lines (file_at h l) is))

pub first_head : (y : Option (List ℕ)) (more : Lines) → AreFileLines (y ∷ more) → (h : FileHead) × IsFileHead h × (y ≡ Some (file_line h))
first_head y more (f, is, e) =
    let lines : y ∷ more ≡ Some (file_line (head_at f)) ∷ lines_of (text_of_layout f.layout) = e ∙ file_lines f is in
    (head_at f, is.head, cc)

pub no_lines : AreFileLines [] → ⊥
no_lines (f, is, e) =
    let lines : [] ≡ Some (file_line (head_at f)) ∷ lines_of (text_of_layout f.layout) = e ∙ file_lines f is in
    absurd cc

-- there is a layout, and so a file
layout_begins : Begins AreLines []
layout_begins =
    let g = reads_texts.goes_on start [] (reached reads_texts start [] refl) in
    (g.0, from_texts g.0 g.1)

abbrev some_head : FileHead
some_head = record { name = codes "/a"; size = 0 }

file_begins : Begins AreFileLines []
file_begins =
    let b = layout_begins in
    (Some (file_line some_head) ∷ b.0, (file_leaves some_head (refl, omega arith) b.0).1 b.1)

-- ---- for the code

stop_first : (text : List ℕ) → ((h : FileHead) (tail : Lines) → IsFileHead h → lines_of text ≡ Some (file_line h) ∷ tail → ⊥) → StopsAt AreFileLines text (Bad 1)
stop_first text none =
    (0, stop_here AreFileLines (lines_of text) file_begins no_lines (λ y tail more is l. let f = first_head y more l in none f.0 tail f.1 (is ∙ ap (λ (z : Option (List ℕ)). z ∷ tail) f.2)), omega arith)

pub no_line : (text : List ℕ) → lines_of text ≡ unended text → StopsAt AreFileLines text (Bad 1)
no_line text none = stop_first text (λ h tail good e. not_unended text (file_line h) tail (sym none ∙ e))

pub no_head : (text line rest : List ℕ) (found : Option FileHead) → lines_of text ≡ Some line ∷ lines_of rest → ((h : FileHead) → ((found ≡ Some h) ↔ (IsFileHead h × (line ≡ file_line h)))) → found ≡ None → StopsAt AreFileLines text (Bad 1)
no_head text line rest found first spelled is = stop_first text (λ h tail good e.
    let lines : Some line ∷ lines_of rest ≡ Some (file_line h) ∷ tail = sym first ∙ e in
    let same : line ≡ file_line h = cc in
    let clash : None ≡ Some h = sym is ∙ (spelled h).1 (good, same) in
    absurd cc)

stop_on : (text line rest : List ℕ) (h : FileHead) (error : TextError) → lines_of text ≡ Some line ∷ lines_of rest → IsFileHead h → line ≡ file_line h → StopsAt (Follow answers.Layout) rest error → StopsAt AreFileLines text (line_on error)
stop_on text line rest h (Bad n) first good is s =
    let lines : Some (file_line h) ∷ lines_of rest ≡ lines_of text = ap (λ (l : List ℕ). Some l ∷ lines_of rest) (sym is) ∙ sym first in
    let number = s.2 in
    (suc s.0, subst (λ (ys : Lines). IsStop AreFileLines ys (suc s.0)) lines (stop_behind AreFileLines (Follow answers.Layout) (Some (file_line h)) (lines_of rest) s.0 (file_leaves h good) no_lines s.1), omega (arith, number))
stop_on text line rest h NoMemory first good is s = tt

pub stop_found : (text line rest : List ℕ) (found : Option FileHead) (h : FileHead) (error told : TextError) → lines_of text ≡ Some line ∷ lines_of rest → ((k : FileHead) → ((found ≡ Some k) ↔ (IsFileHead k × (line ≡ file_line k)))) → found ≡ Some h
    → StopsAt (Follow answers.Layout) rest error → told ≡ line_on error → StopsAt AreFileLines text told
stop_found text line rest found h error told first spelled is s e = let said = (spelled h).0 is in subst (λ (x : TextError). StopsAt AreFileLines text x) (sym e) (stop_on text line rest h error first said.0 said.1 s)

pub file_found : (text line rest behind : List ℕ) (found : Option FileHead) (h : FileHead) (l : Composite) → text ≡ line ++ 10 ∷ rest → ((k : FileHead) → ((found ≡ Some k) ↔ (IsFileHead k × (line ≡ file_line k)))) → found ≡ Some h → StandsFirst rest l behind
    → FileStands text (record { name = h.name; size = h.size; layout = l }) behind
file_found text line rest behind found h l cut spelled is s =
    let said = (spelled h).0 is in (
      record { head = said.0; layout = s.0 },
      cut ∙ ap (λ (xs : List ℕ). xs ++ 10 ∷ rest) said.1 ∙ ap (λ (xs : List ℕ). file_line h ++ 10 ∷ xs) s.1 ∙ sym (append_assoc (file_line h) (10 ∷ text_of_layout l) behind)
          ∙ ap (λ (xs : List ℕ). xs ++ behind) (sym (file_text (file_at h l))),
    )

lines_front : (ls : List (List ℕ)) (rest : List ℕ) → AllLack 10 ls → lines_of (text_of ls ++ rest) ≡ ended ls ++ lines_of rest
lines_front [] rest h = refl
lines_front (l ∷ ls) rest h =
    let joined : ((l ++ 10 ∷ []) ++ text_of ls) ++ rest ≡ l ++ 10 ∷ (text_of ls ++ rest) = append_assoc (l ++ 10 ∷ []) (text_of ls) rest ∙ append_assoc l (10 ∷ []) (text_of ls ++ rest) in
    ap lines_of joined ∙ lines_first l (text_of ls ++ rest) h.0 ∙ ap (λ (ys : Lines). Some l ∷ ys) (lines_front ls rest h.1)

-- a file's text and what stands behind it
behind_head : (f : FileLine) (rest : List ℕ) → text_of_file f.name f.size f.layout ++ rest ≡ file_line (head_at f) ++ 10 ∷ (text_of_layout f.layout ++ rest)
behind_head f rest = ap (λ (xs : List ℕ). xs ++ rest) (file_text f) ∙ append_assoc (file_line (head_at f)) (10 ∷ text_of_layout f.layout) rest

lines_behind : (f : FileLine) (rest : List ℕ) → IsFile f → lines_of (text_of_file f.name f.size f.layout ++ rest) ≡ Some (file_line (head_at f)) ∷ lines_of (text_of_layout f.layout ++ rest)
lines_behind f rest h = ap lines_of (behind_head f rest) ∙ lines_first (file_line (head_at f)) (text_of_layout f.layout ++ rest) (file_lacks (head_at f) h.head)

same_file : (f g : FileLine) → head_at f ≡ head_at g → f.layout ≡ g.layout → f ≡ g
same_file f g h l = ap (λ (k : FileHead). file_at k f.layout) h ∙ ap (file_at (head_at g)) l

-- at most one file's text stands first
pub one_file : (text : List ℕ) (f g : FileLine) (rest more : List ℕ) → FileStands text f rest → FileStands text g more → (f ≡ g) × (rest ≡ more)
one_file text f g rest more a b =
    let texts : text_of_file f.name f.size f.layout ++ rest ≡ text_of_file g.name g.size g.layout ++ more = sym a.1 ∙ b.1 in
    let lines : Some (file_line (head_at f)) ∷ lines_of (text_of_layout f.layout ++ rest) ≡ Some (file_line (head_at g)) ∷ lines_of (text_of_layout g.layout ++ more) = sym (lines_behind f rest a.0) ∙ ap lines_of texts ∙ lines_behind g more b.0 in
    let line : file_line (head_at f) ≡ file_line (head_at g) = cc in
    let whole : file_line (head_at f) ++ 10 ∷ (text_of_layout f.layout ++ rest) ≡ file_line (head_at f) ++ 10 ∷ (text_of_layout g.layout ++ more) =
    sym (behind_head f rest) ∙ texts ∙ behind_head g more ∙ ap (λ (xs : List ℕ). xs ++ 10 ∷ (text_of_layout g.layout ++ more)) (sym line) in
    let cut : 10 ∷ (text_of_layout f.layout ++ rest) ≡ 10 ∷ (text_of_layout g.layout ++ more) = append_cancel_left (file_line (head_at f)) (10 ∷ (text_of_layout f.layout ++ rest)) (10 ∷ (text_of_layout g.layout ++ more)) whole in
    let tail : text_of_layout f.layout ++ rest ≡ text_of_layout g.layout ++ more = cc in
    let layouts = one_front (text_of_layout f.layout ++ rest) f.layout g.layout rest more (a.0.layout, refl) (b.0.layout, tail) in
    (same_file f g (one_head (head_at f) (head_at g) a.0.head b.0.head line) layouts.0, layouts.1)

-- a text that begins with a file's lines is not refused
not_refused : (text : List ℕ) (error : TextError) → StopsAt AreFileLines text error → (f : FileLine) (rest : List ℕ) → FileStands text f rest → IsNoMemory error
not_refused text (Bad line) s f rest (is, e) =
    let ls : List (List ℕ) = layouts.head_line f.layout ∷ map component_line f.layout.components in
    let own : Lines = Some (file_line (head_at f)) ∷ ended ls in
    let lines : lines_of text ≡ own ++ lines_of rest = ap lines_of e ∙ lines_behind f rest is ∙ ap (λ (ys : Lines). Some (file_line (head_at f)) ∷ ys) (lines_front ls rest (texts_lack f.layout)) in
    let front : take (length own) (lines_of text) ≡ own = ap (take (length own)) lines ∙ take-append_seam own (lines_of rest) in
    let file : AreFileLines own = (f, is, ap (λ (ys : Lines). Some (file_line (head_at f)) ∷ ys) (sym (lines_of-layout f.layout)) ∙ sym (file_lines f is)) in
    s.1.whole (length own) (subst AreFileLines (sym front) file)
not_refused text NoMemory s f rest h = tt

pub file_again : (text : List ℕ) (r : Result (FileLine × Bor (List ℕ)) TextError) → MatchResult r (λ found. FileStands text found.0 found.1.now) (StopsAt AreFileLines text) → (f : FileLine) (rest : List ℕ) → FileStands text f rest → MatchResult r (λ found. (found.0 ≡ f) × (found.1.now ≡ rest)) IsNoMemory
file_again text (Err error) h f rest s = not_refused text error h f rest s
file_again text (Ok found) h f rest s = one_file text found.0 f found.1.now rest h s
