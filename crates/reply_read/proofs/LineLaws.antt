-- The lines that follow an answer are read as what they are printed for, and no other lines are.
use Rattle.std.proofs.Common.{◌≡◌, ℕ, List, [], ◌∷◌, Option, Some, None, Result, Ok, Err, refl, sym, ap, subst, ◌∙◌}
use Rattle.std.specs.Prelude.{codes, option_and_then, IfOk, ◌↔◌}
use Rattle.std.specs.Option.{option_map}
use Rattle.std.specs.List.{join_with_byte}
use Rattle.std.specs.Fmt.{decimal}
use Rattle.std.proofs.lemmas.List.Splits.{join_with_byte-slice_split}
use Rattle.flr_base.specs.Runs.{hex}
use Rattle.flr_base.specs.declared.reply.Diff.{Diff}
use Rattle.flr_base.specs.declared.reply.Range.{Range}
use Rattle.flr_base.specs.declared.reply.Take.{Take}
use Rattle.text_words.specs.Bytes.{hex_byte}
use Rattle.text_words.specs.Pieces.{Lacks, parts_of}
use Rattle.text_words.specs.Words.{AreWords, spaced}
use Rattle.text_words.proofs.WordTexts.{parts_of-spaced, spaced_lacks}
use Rattle.report_text.specs.Answers.{from_text, take_line, diff_line}
use Rattle.reply_read.specs.Limits.{IsTake, IsDiff}
use Rattle.reply_read.specs.Values.{number_32, number_64, from_in}
use Rattle.reply_read.specs.Replies.{range_in, take_in, take_words, take_of, two_bytes, two_ids, diff_in, diff_words, diff_of}
use Rattle.reply_read.proofs.WordLaws.{found, mapped, word_32, word_64, word_byte, word_from}
use Rattle.reply_read.proofs.AnswerLaws.{behind_takes}

-- the line is that of its words
joined : (line : List ℕ) (words : List (List ℕ)) → parts_of 32 line ≡ words → line ≡ spaced words
joined line words e = sym (join_with_byte-slice_split 32 line) ∙ ap (join_with_byte 32) e

-- ---- pieces of a read

abbrev words_of_take : Take → List (List ℕ)
words_of_take t = codes "take" ∷ decimal t.range.start ∷ decimal t.range.end ∷ decimal t.component ∷ from_text t.from ∷ []

five : (s t u v w : List ℕ) (a b c d e : List ℕ) → s ≡ a → t ≡ b → u ≡ c → v ≡ d → w ≡ e → s ∷ t ∷ u ∷ v ∷ w ∷ [] ≡ a ∷ b ∷ c ∷ d ∷ e ∷ []
five s t u v w a b c d e g h i j k = rw (g, h, i, j, k) refl

take_in_takes : (v a b c d : List ℕ) (t : Take) → v ≡ codes "take" → take_in a b c d ≡ Some t → IsTake t × (v ∷ a ∷ b ∷ c ∷ d ∷ [] ≡ words_of_take t)
unfolding take_in
take_in_takes v a b c d t key e =
    let range = found _ (range_in a b) t e in
    let start = found _ (number_64 a) range.0 range.1 in
    let end = mapped (λ (n : ℕ). record { start = start.0; end = n }) (number_64 b) range.0 start.2 in
    let component = found _ (number_32 c) t range.2 in
    let from = mapped (λ f. record { range = range.0; component = component.0; from = f }) (from_in d) t component.2 in
    let one = word_64.takes a start.0 start.1 in
    let two = word_64.takes b end.0 end.1 in
    let three = word_32.takes c component.0 component.1 in
    let last = word_from.takes d from.0 from.1 in
    let of_range : (r : Range) → record { start = start.0; end = end.0 } ≡ r → (t' : Take) → record { range = r; component = component.0; from = from.0 } ≡ t' → IsTake t' × (v ∷ a ∷ b ∷ c ∷ d ∷ [] ≡ words_of_take t') =
    λ r is t' made. subst (λ (x : Take). IsTake x × (v ∷ a ∷ b ∷ c ∷ d ∷ [] ≡ words_of_take x)) made
    (subst (λ (x : Range). IsTake (record { range = x; component = component.0; from = from.0 }) × (v ∷ a ∷ b ∷ c ∷ d ∷ [] ≡ words_of_take (record { range = x; component = component.0; from = from.0 }))) is
    ((one.0, two.0, three.0, last.0), five v a b c d (codes "take") (decimal start.0) (decimal end.0) (decimal component.0) (from_text from.0) key one.1 two.1 three.1 last.1)) in
    of_range range.0 end.2 t from.2

take_words_takes : (words : List (List ℕ)) (t : Take) → take_words words ≡ Some t → IsTake t × (words ≡ words_of_take t)
take_words_takes [] t e = absurd cc
take_words_takes (v ∷ []) t e = absurd cc
take_words_takes (v ∷ a ∷ []) t e = absurd cc
take_words_takes (v ∷ a ∷ b ∷ []) t e = absurd cc
take_words_takes (v ∷ a ∷ b ∷ c ∷ []) t e = absurd cc
take_words_takes (v ∷ a ∷ b ∷ c ∷ d ∷ []) t e = let k = behind_takes (codes "take") v (take_in a b c d) t e in take_in_takes v a b c d t k.0 k.1
take_words_takes (v ∷ a ∷ b ∷ c ∷ d ∷ f ∷ words) t e = absurd cc

take_words_words : (t : Take) → IsTake t → AreWords (words_of_take t)
take_words_words t h = (refl, (word_64.word t.range.start h.0, (word_64.word t.range.end h.1, (word_32.word t.component h.2, (word_from.word t.from h.3, tt)))))

pub take_lacks : (t : Take) → IsTake t → Lacks 10 (take_line t)
take_lacks t h = spaced_lacks (words_of_take t) (take_words_words t h)

take_again : (t : Take) → IsTake t → take_of (take_line t) ≡ Some t
unfolding take_of take_in
take_again t h =
    let said : take_words (words_of_take t) ≡ Some t = rw (word_64.again t.range.start h.0, word_64.again t.range.end h.1, word_32.again t.component h.2, word_from.again t.from h.3) refl in
    ap take_words (parts_of-spaced (codes "take") (decimal t.range.start ∷ decimal t.range.end ∷ decimal t.component ∷ from_text t.from ∷ []) (take_words_words t h)) ∙ said

take_takes : (line : List ℕ) (t : Take) → take_of line ≡ Some t → IsTake t × (line ≡ take_line t)
unfolding take_of
take_takes line t e = let k = take_words_takes (parts_of 32 line) t e in (k.0, joined line (words_of_take t) k.1)

pub take_spelled : {E : Type 0} (line : List ℕ) (r : Result (Option Take) E) → IfOk r (λ found. found ≡ take_of line) → IfOk r (λ found. (piece : Take) → ((found ≡ Some piece) ↔ (IsTake piece × (line ≡ take_line piece))))
take_spelled line (Err e) h = tt
take_spelled line (Ok found) h = λ t. (λ e. take_takes line t (sym h ∙ e), λ k. h ∙ ap take_of k.1 ∙ take_again t k.0)

-- ---- differences

abbrev words_of_diff : Diff → List (List ℕ)
words_of_diff d = codes "differ" ∷ decimal d.first ∷ decimal d.second ∷ decimal d.offset ∷ hex d.ours ∷ hex d.theirs ∷ []

six : (r s t u v w : List ℕ) (a b c d e f : List ℕ) → r ≡ a → s ≡ b → t ≡ c → u ≡ d → v ≡ e → w ≡ f → r ∷ s ∷ t ∷ u ∷ v ∷ w ∷ [] ≡ a ∷ b ∷ c ∷ d ∷ e ∷ f ∷ []
six r s t u v w a b c d e f g h i j k l = rw (g, h, i, j, k, l) refl

pair_takes : {A B : Type 0} (o : Option A) (p : Option B) (x : A × B) → option_and_then (λ a. option_map (λ b. (a, b)) p) o ≡ Some x → (o ≡ Some x.0) × (p ≡ Some x.1)
pair_takes None p x e = absurd cc
pair_takes (Some a) None x e = absurd cc
pair_takes {A} {B} (Some a) (Some b) x e =
    let made : A × B = (a, b) in
    let same : made ≡ x = cc in
    (ap (λ (z : A × B). Some z.0) same, ap (λ (z : A × B). Some z.1) same)

diff_in_takes : (v a b c d e : List ℕ) (x : Diff) → v ≡ codes "differ" → diff_in a b c d e ≡ Some x → IsDiff x × (v ∷ a ∷ b ∷ c ∷ d ∷ e ∷ [] ≡ words_of_diff x)
unfolding diff_in
diff_in_takes v a b c d e x key is =
    let ids = found _ (two_ids a b) x is in
    let offset = found _ (number_64 c) x ids.2 in
    let bytes = mapped (λ (two : ℕ × ℕ). record { first = ids.0.0; second = ids.0.1; offset = offset.0; ours = two.0; theirs = two.1 }) (two_bytes d e) x offset.2 in
    let both_ids = pair_takes (number_32 a) (number_32 b) ids.0 ids.1 in
    let both = pair_takes (hex_byte d) (hex_byte e) bytes.0 bytes.1 in
    let one = word_32.takes a ids.0.0 both_ids.0 in
    let two = word_32.takes b ids.0.1 both_ids.1 in
    let three = word_64.takes c offset.0 offset.1 in
    let four = word_byte.takes d bytes.0.0 both.0 in
    let last = word_byte.takes e bytes.0.1 both.1 in
    subst (λ (y : Diff). IsDiff y × (v ∷ a ∷ b ∷ c ∷ d ∷ e ∷ [] ≡ words_of_diff y)) bytes.2
    ((one.0, two.0, three.0, four.0, last.0), six v a b c d e (codes "differ") (decimal ids.0.0) (decimal ids.0.1) (decimal offset.0) (hex bytes.0.0) (hex bytes.0.1) key one.1 two.1 three.1 four.1 last.1)

diff_words_takes : (words : List (List ℕ)) (x : Diff) → diff_words words ≡ Some x → IsDiff x × (words ≡ words_of_diff x)
diff_words_takes [] x is = absurd cc
diff_words_takes (v ∷ []) x is = absurd cc
diff_words_takes (v ∷ a ∷ []) x is = absurd cc
diff_words_takes (v ∷ a ∷ b ∷ []) x is = absurd cc
diff_words_takes (v ∷ a ∷ b ∷ c ∷ []) x is = absurd cc
diff_words_takes (v ∷ a ∷ b ∷ c ∷ d ∷ []) x is = absurd cc
diff_words_takes (v ∷ a ∷ b ∷ c ∷ d ∷ e ∷ []) x is = let k = behind_takes (codes "differ") v (diff_in a b c d e) x is in diff_in_takes v a b c d e x k.0 k.1
diff_words_takes (v ∷ a ∷ b ∷ c ∷ d ∷ e ∷ f ∷ words) x is = absurd cc

diff_words_words : (d : Diff) → IsDiff d → AreWords (words_of_diff d)
diff_words_words d h = (refl, (word_32.word d.first h.0, (word_32.word d.second h.1, (word_64.word d.offset h.2, (word_byte.word d.ours h.3, (word_byte.word d.theirs h.4, tt))))))

pub diff_lacks : (d : Diff) → IsDiff d → Lacks 10 (diff_line d)
diff_lacks d h = spaced_lacks (words_of_diff d) (diff_words_words d h)

diff_again : (d : Diff) → IsDiff d → diff_of (diff_line d) ≡ Some d
unfolding diff_of diff_in
diff_again d h =
    let said : diff_words (words_of_diff d) ≡ Some d = rw (word_32.again d.first h.0, word_32.again d.second h.1, word_64.again d.offset h.2, word_byte.again d.ours h.3, word_byte.again d.theirs h.4) refl in
    ap diff_words (parts_of-spaced (codes "differ") (decimal d.first ∷ decimal d.second ∷ decimal d.offset ∷ hex d.ours ∷ hex d.theirs ∷ []) (diff_words_words d h)) ∙ said

diff_takes : (line : List ℕ) (d : Diff) → diff_of line ≡ Some d → IsDiff d × (line ≡ diff_line d)
unfolding diff_of
diff_takes line d e = let k = diff_words_takes (parts_of 32 line) d e in (k.0, joined line (words_of_diff d) k.1)

pub diff_spelled : {E : Type 0} (line : List ℕ) (r : Result (Option Diff) E) → IfOk r (λ found. found ≡ diff_of line) → IfOk r (λ found. (diff : Diff) → ((found ≡ Some diff) ↔ (IsDiff diff × (line ≡ diff_line diff))))
diff_spelled line (Err e) h = tt
diff_spelled line (Ok found) h = λ d. (λ e. diff_takes line d (sym h ∙ e), λ k. h ∙ ap diff_of k.1 ∙ diff_again d k.0)
