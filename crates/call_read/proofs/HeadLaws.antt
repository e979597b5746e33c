-- A line is read as the head whose line it is, and no other line is.
use Rattle.std.proofs.Common.{◌≡◌, ℕ, ◌^◌, ◌<◌, ◌≤◌, Bool, true, false, eqb, List, [], ◌∷◌, ◌++◌, length, Option, Some, None, Result, Ok, Err, refl, sym, ap, subst, ◌∙◌, append_assoc, arith}
use Rattle.std.specs.Prelude.{codes, option_and_then, IfOk, ◌↔◌}
use Rattle.std.specs.Option.{option_map}
use Rattle.std.specs.List.{flat_map, onto_first}
use Rattle.std.specs.Str.{bytes_eq}
use Rattle.std.specs.Fmt.{decimal}
use Rattle.std.proofs.lemmas.Bool.{cond_both, eq-eqb}
use Rattle.std.proofs.lemmas.List.Splits.{join_with_byte-slice_split, length-slice_split}
use Rattle.std.proofs.lemmas.Slice.Eq.{bytes_eq-Decides}
use Rattle.flr_base.specs.declared.reply.Reply.{Reply}
use Rattle.flr_base.specs.declared.reply.Reply.TheVariants as reply
use Rattle.text_words.specs.Numbers.{number_from}
use Rattle.text_words.specs.Cuts.{cut_of}
use Rattle.text_words.specs.Pieces.{parts_of}
use Rattle.text_words.specs.Words.{AreWords, spaced}
use Rattle.text_words.proofs.CutLaws.{cut_takes, cut_again}
use Rattle.text_words.proofs.Spellings.{from_takes, from_again}
use Rattle.text_words.proofs.Splits.{decimal_lacks}
use Rattle.text_words.proofs.WordTexts.{decimal_word, word_append, word_graphic, parts_of-spaced, spaced-first}
use Rattle.layout_text.specs.LineWords.{value, behind, field}
use Rattle.script_values.specs.declared.command.Command.{Command}
use Rattle.script_values.specs.Commands.{IsCommandAlone}
use Rattle.script_values.specs.Reading.{command_of}
use Rattle.script_values.specs.Texts.{is_equals, AreNoEquals, words_of, command_text}
use Rattle.script_values.proofs.CommandLaws.{command_takes, command_again, parts_are}
use Rattle.script_values.proofs.Ends as ends
use Rattle.report_text.specs.Answers.{reply_words}
use Rattle.reply_read.specs.declared.answer.Answer.{Answer}
use Rattle.reply_read.specs.declared.answer.Answer.TheVariants as answers
use Rattle.reply_read.specs.Limits.{answer_words}
use Rattle.reply_read.specs.Replies.{answer_of}
use Rattle.reply_read.proofs.WordLaws.{OneWord, found, mapped, same_word}
use Rattle.reply_read.proofs.AnswerLaws.{answer_takes, answer_again, answer_words_words}
use Rattle.call_read.specs.declared.head.Head.{Head}
use Rattle.call_read.specs.declared.head.Places.{Places}
use Rattle.call_read.specs.Heads.{name_text, place_words, head_line, ArePlaces, IsHead, name_in, name_of, points_of, places_from, places_of, cut_words, command_behind, head_from, head_of}

-- ---- words one after another

some_parts : (sep : ℕ) (text : List ℕ) → 0 < length (parts_of sep text)
some_parts sep text = let many = length-slice_split (λ b. eqb b sep) text in omega (arith, many)

onto_append : (c : ℕ) (xs ys : List (List ℕ)) → 0 < length xs → onto_first c (xs ++ ys) ≡ onto_first c xs ++ ys
onto_append c [] ys some = absurd (omega arith)
onto_append c (x ∷ xs) ys some = refl

parts_by : (sep c : ℕ) (cs b : List ℕ) (t : Bool) → eqb c sep ≡ t → parts_of sep (cs ++ sep ∷ b) ≡ parts_of sep cs ++ parts_of sep b → parts_of sep ((c ∷ cs) ++ sep ∷ b) ≡ parts_of sep (c ∷ cs) ++ parts_of sep b
parts_by sep c cs b true e ih = rw e (ap (λ (xs : List (List ℕ)). [] ∷ xs) ih)
parts_by sep c cs b false e ih = rw e (ap (onto_first c) ih ∙ onto_append c (parts_of sep cs) (parts_of sep b) (some_parts sep cs))

-- the parts of two texts with the byte between them
parts-append : (sep : ℕ) (a b : List ℕ) → parts_of sep (a ++ sep ∷ b) ≡ parts_of sep a ++ parts_of sep b
parts-append sep [] b = rw (eq-eqb sep sep refl) refl
parts-append sep (c ∷ cs) b = parts_by sep c cs b (eqb c sep) refl (parts-append sep cs b)

-- the text of some words and others
spaced-append : (x : List ℕ) (xs : List (List ℕ)) (y : List ℕ) (ys : List (List ℕ)) → spaced ((x ∷ xs) ++ y ∷ ys) ≡ spaced (x ∷ xs) ++ 32 ∷ spaced (y ∷ ys)
spaced-append x [] y ys = refl
spaced-append x (w ∷ ws) y ys = ap (λ (text : List ℕ). x ++ 32 ∷ text) (spaced-append w ws y ys) ∙ sym (append_assoc x (32 ∷ spaced (w ∷ ws)) (32 ∷ spaced (y ∷ ys)))

-- ---- the places

word_from_to : (least most : ℕ) → most < 2 ^ 64 → OneWord decimal (number_from least most) (λ n. (least ≤ n) × (n ≤ most))
word_from_to least most fits = record {
  takes = λ word n e. let t = from_takes least most word n e in ((t.0, t.1), t.2);
  again = λ n h. from_again least most n fits h.0 h.1;
  word = λ n h. decimal_word n;
}

abbrev IsName : ℕ × ℕ → Type 0
IsName two = (1 ≤ two.0) × (two.0 ≤ 16) × (1 ≤ two.1) × (two.1 ≤ 4294967295)

name_takes : (word : List ℕ) (two : ℕ × ℕ) → name_in word ≡ Some two → IsName two × (word ≡ name_text two.0 two.1)
unfolding name_in
name_takes word two e =
    let cut = found _ (cut_of 46 word) two e in
    let client = found _ (number_from 1 16 cut.0.0) two cut.2 in
    let number = mapped (λ (n : ℕ). (client.0, n)) (number_from 1 4294967295 cut.0.1) two client.2 in
    let one = from_takes 1 16 cut.0.0 client.0 client.1 in
    let last = from_takes 1 4294967295 cut.0.1 number.0 number.1 in
    let whole = cut_takes 46 word cut.0.0 cut.0.1 cut.1 in
    let text : word ≡ name_text client.0 number.0 = whole.0 ∙ ap (λ (xs : List ℕ). xs ++ 46 ∷ cut.0.1) one.2 ∙ ap (λ (xs : List ℕ). decimal client.0 ++ 46 ∷ xs) last.2 in
    subst (λ (t : ℕ × ℕ). IsName t × (word ≡ name_text t.0 t.1)) number.2 ((one.0, one.1, last.0, last.1), text)

name_again : (two : ℕ × ℕ) → IsName two → name_in (name_text two.0 two.1) ≡ Some two
unfolding name_in
name_again two h =
    let few = h.1 in
    let cut = cut_again 46 (decimal two.0) (decimal two.1) (decimal_lacks 46 two.0 (omega arith) (omega (arith, few))) in
    rw (cut, from_again 1 16 two.0 (omega arith) h.0 h.1, from_again 1 4294967295 two.1 (omega arith) h.2 h.3) refl

word_of_name : OneWord (λ (two : ℕ × ℕ). name_text two.0 two.1) name_in IsName
word_of_name = record { takes = name_takes; again = name_again; word = λ two h. word_append (decimal two.0) (46 ∷ decimal two.1) (decimal_word two.0) (word_graphic (decimal two.1) (decimal_word two.1)) }

behind_takes : (key : List ℕ) (words rest : List (List ℕ)) → behind key words ≡ Some rest → words ≡ key ∷ rest
behind_takes key [] rest e = absurd cc
behind_takes key (first ∷ words) rest e = cond_both (bytes_eq first key) (Some words) None (λ o. o ≡ Some rest → first ∷ words ≡ key ∷ rest)
    (λ t f. let same : words ≡ rest = cc in ap (λ (w : List ℕ). w ∷ words) (same_word first key t) ∙ ap (λ (ws : List (List ℕ)). key ∷ ws) same)
    (λ t f. absurd cc) e

value_takes : {A : Type 0} {print : A → List ℕ} {read : List ℕ → Option A} {Is : A → Type 0} → OneWord print read Is → (words : List (List ℕ)) (x : A × List (List ℕ)) → value read words ≡ Some x → Is x.0 × (words ≡ print x.0 ∷ x.1)
value_takes o [] x e = absurd cc
value_takes {A} {print = print} {read = read} {Is = Is} o (word ∷ words) x e =
    let m = mapped (λ (a : A). (a, words)) (read word) x e in
    let t = o.takes word m.0 m.1 in
    subst (λ (y : A × List (List ℕ)). Is y.0 × (word ∷ words ≡ print y.0 ∷ y.1)) m.2 (t.0, ap (λ (w : List ℕ). w ∷ words) t.1)

field_takes : {A : Type 0} {print : A → List ℕ} {read : List ℕ → Option A} {Is : A → Type 0} → OneWord print read Is → (key : List ℕ) (words : List (List ℕ)) (x : A × List (List ℕ)) → field key read words ≡ Some x → Is x.0 × (words ≡ key ∷ print x.0 ∷ x.1)
field_takes {read = read} o key words x e =
    let b = found (value read) (behind key words) x e in
    let v = value_takes o b.0 x b.2 in
    (v.0, behind_takes key words b.0 b.1 ∙ ap (λ (ws : List (List ℕ)). key ∷ ws) v.1)

same_key : (key : List ℕ) → bytes_eq key key ≡ true
same_key key = (bytes_eq-Decides key key).1 refl

field_again : {A : Type 0} {print : A → List ℕ} {read : List ℕ → Option A} {Is : A → Type 0} → OneWord print read Is → (key : List ℕ) (x : A) (rest : List (List ℕ)) → Is x → field key read (key ∷ print x ∷ rest) ≡ Some (x, rest)
field_again o key x rest h = rw (same_key key, o.again x h) refl

abbrev word_some : OneWord decimal (number_from 1 4294967295) (λ n. (1 ≤ n) × (n ≤ 4294967295))
word_some = word_from_to 1 4294967295 (omega arith)

abbrev word_any : OneWord decimal (number_from 0 4294967295) (λ n. (0 ≤ n) × (n ≤ 4294967295))
word_any = word_from_to 0 4294967295 (omega arith)

points_takes : (words : List (List ℕ)) (x : (ℕ × ℕ) × List (List ℕ)) → points_of words ≡ Some x → ((1 ≤ x.0.0) × (x.0.0 ≤ 4294967295) × (x.0.1 ≤ 4294967295)) × (words ≡ codes "from" ∷ decimal x.0.0 ∷ codes "at" ∷ decimal x.0.1 ∷ x.1)
points_takes words x e =
    let first = found (λ (f : ℕ × List (List ℕ)). option_map (λ (at : ℕ × List (List ℕ)). ((f.0, at.0), at.1)) (field (codes "at") (number_from 0 4294967295) f.1)) (field (codes "from") (number_from 1 4294967295) words) x e in
    let at = mapped (λ (at : ℕ × List (List ℕ)). ((first.0.0, at.0), at.1)) (field (codes "at") (number_from 0 4294967295) first.0.1) x first.2 in
    let one = field_takes word_some (codes "from") words first.0 first.1 in
    let two = field_takes word_any (codes "at") first.0.1 at.0 at.1 in
    subst (λ (y : (ℕ × ℕ) × List (List ℕ)). ((1 ≤ y.0.0) × (y.0.0 ≤ 4294967295) × (y.0.1 ≤ 4294967295)) × (words ≡ codes "from" ∷ decimal y.0.0 ∷ codes "at" ∷ decimal y.0.1 ∷ y.1)) at.2
    ((one.0.0, one.0.1, two.0.1), one.1 ∙ ap (λ (ws : List (List ℕ)). codes "from" ∷ decimal first.0.0 ∷ ws) two.1)

-- whose call it is and its places, and what stands behind them
places_takes : (words : List (List ℕ)) (x : Places × List (List ℕ)) → places_of words ≡ Some x → ArePlaces x.0 × (words ≡ place_words x.0 ++ x.1)
places_takes words x e =
    let name = found (λ (n : (ℕ × ℕ) × List (List ℕ)). option_and_then (λ (p : (ℕ × ℕ) × List (List ℕ)). option_map (λ (l : ℕ × List (List ℕ)). (places_from n.0 p.0 l.0, l.1)) (field (codes "to") (number_from 0 4294967295) p.1)) (points_of n.1)) (name_of words) x e in
    let points = found (λ (p : (ℕ × ℕ) × List (List ℕ)). option_map (λ (l : ℕ × List (List ℕ)). (places_from name.0.0 p.0 l.0, l.1)) (field (codes "to") (number_from 0 4294967295) p.1)) (points_of name.0.1) x name.2 in
    let last = mapped (λ (l : ℕ × List (List ℕ)). (places_from name.0.0 points.0.0 l.0, l.1)) (field (codes "to") (number_from 0 4294967295) points.0.1) x points.2 in
    let one = field_takes word_of_name (codes "call") words name.0 name.1 in
    let two = points_takes name.0.1 points.0 points.1 in
    let three = field_takes word_any (codes "to") points.0.1 last.0 last.1 in
    let are : ArePlaces (places_from name.0.0 points.0.0 last.0.0) = record { some_client = one.0.0; client = one.0.1; some_number = one.0.2; number = one.0.3; some_first = two.0.0; first = two.0.1; at = two.0.2; last = three.0.1 } in
    let text : words ≡ place_words (places_from name.0.0 points.0.0 last.0.0) ++ last.0.1 =
    one.1 ∙ ap (λ (ws : List (List ℕ)). codes "call" ∷ name_text name.0.0.0 name.0.0.1 ∷ ws) (two.1 ∙ ap (λ (ws : List (List ℕ)). codes "from" ∷ decimal points.0.0.0 ∷ codes "at" ∷ decimal points.0.0.1 ∷ ws) three.1) in
    subst (λ (y : Places × List (List ℕ)). ArePlaces y.0 × (words ≡ place_words y.0 ++ y.1)) last.2 (are, text)

places_again : (p : Places) (rest : List (List ℕ)) → ArePlaces p → places_of (place_words p ++ rest) ≡ Some (p, rest)
places_again p rest h =
    let tail : List (List ℕ) = codes "to" ∷ decimal p.last ∷ rest in
    let middle : List (List ℕ) = codes "from" ∷ decimal p.first ∷ codes "at" ∷ decimal p.at ∷ tail in
    let name : field (codes "call") name_in (codes "call" ∷ name_text p.client p.number ∷ middle) ≡ Some ((p.client, p.number), middle) = field_again word_of_name (codes "call") (p.client, p.number) middle (h.some_client, h.client, h.some_number, h.number) in
    let first : field (codes "from") (number_from 1 4294967295) middle ≡ Some (p.first, codes "at" ∷ decimal p.at ∷ tail) = field_again word_some (codes "from") p.first (codes "at" ∷ decimal p.at ∷ tail) (h.some_first, h.first) in
    let at : field (codes "at") (number_from 0 4294967295) (codes "at" ∷ decimal p.at ∷ tail) ≡ Some (p.at, tail) = field_again word_any (codes "at") p.at tail (omega arith, h.at) in
    let last : field (codes "to") (number_from 0 4294967295) tail ≡ Some (p.last, rest) = field_again word_any (codes "to") p.last rest (omega arith, h.last) in
    let points : points_of middle ≡ Some ((p.first, p.at), tail) =
    ap (λ (o : Option (ℕ × List (List ℕ))). option_and_then (λ (f : ℕ × List (List ℕ)). option_map (λ (at : ℕ × List (List ℕ)). ((f.0, at.0), at.1)) (field (codes "at") (number_from 0 4294967295) f.1)) o) first
    ∙ ap (λ (o : Option (ℕ × List (List ℕ))). option_map (λ (at : ℕ × List (List ℕ)). ((p.first, at.0), at.1)) o) at in
    ap (λ (o : Option ((ℕ × ℕ) × List (List ℕ))). option_and_then (λ (n : (ℕ × ℕ) × List (List ℕ)). option_and_then (λ (q : (ℕ × ℕ) × List (List ℕ)). option_map (λ (l : ℕ × List (List ℕ)). (places_from n.0 q.0 l.0, l.1)) (field (codes "to") (number_from 0 4294967295) q.1)) (points_of n.1)) o) name
    ∙ ap (λ (o : Option ((ℕ × ℕ) × List (List ℕ))). option_and_then (λ (q : (ℕ × ℕ) × List (List ℕ)). option_map (λ (l : ℕ × List (List ℕ)). (places_from (p.client, p.number) q.0 l.0, l.1)) (field (codes "to") (number_from 0 4294967295) q.1)) o) points
    ∙ ap (λ (o : Option (ℕ × List (List ℕ))). option_map (λ (l : ℕ × List (List ℕ)). (places_from (p.client, p.number) (p.first, p.at) l.0, l.1)) o) last

pub place_words_words : (p : Places) → AreWords (place_words p)
place_words_words p =
    (refl, (word_append (decimal p.client) (46 ∷ decimal p.number) (decimal_word p.client) (word_graphic (decimal p.number) (decimal_word p.number)), (refl, (decimal_word p.first, (refl, (decimal_word p.at, (refl, (decimal_word p.last, tt))))))))

-- ---- the command and the answer

abbrev behind_spaces : List (List ℕ) → List ℕ
behind_spaces words = flat_map (λ word. 32 ∷ word) words

words_takes : (words : List (List ℕ)) (x : List ℕ × List (List ℕ)) → cut_words words ≡ Some x → (front : List (List ℕ)) × (x.0 ≡ behind_spaces front) × (words ≡ front ++ codes "=" ∷ x.1)
words_takes [] x e = absurd cc
words_takes (word ∷ words) x e = cond_both (is_equals word) (Some ([], words)) (option_map (λ (f : List ℕ × List (List ℕ)). ((32 ∷ word) ++ f.0, f.1)) (cut_words words))
    (λ o. o ≡ Some x → (front : List (List ℕ)) × (x.0 ≡ behind_spaces front) × (word ∷ words ≡ front ++ codes "=" ∷ x.1))
    (λ t f.
    let there : List ℕ × List (List ℕ) = ([], words) in
    let same : there ≡ x = cc in
    ([], ap (λ (p : List ℕ × List (List ℕ)). p.0) (sym same), ap (λ (w : List ℕ). w ∷ words) (same_word word (codes "=") t) ∙ ap (λ (p : List ℕ × List (List ℕ)). codes "=" ∷ p.1) same))
    (λ t f.
    let m = mapped (λ (g : List ℕ × List (List ℕ)). ((32 ∷ word) ++ g.0, g.1)) (cut_words words) x f in
    let ih = words_takes words m.0 m.1 in
    subst (λ (y : List ℕ × List (List ℕ)). (front : List (List ℕ)) × (y.0 ≡ behind_spaces front) × (word ∷ words ≡ front ++ codes "=" ∷ y.1)) m.2
    (word ∷ ih.0, ap (λ (xs : List ℕ). (32 ∷ word) ++ xs) ih.1, ap (λ (ws : List (List ℕ)). word ∷ ws) ih.2)) e

words_again : (front rest : List (List ℕ)) → AreNoEquals front → cut_words (front ++ codes "=" ∷ rest) ≡ Some (behind_spaces front, rest)
words_again [] rest h = refl
words_again (word ∷ front) rest h = rw (h.0, words_again front rest h.1) refl

-- a text of words behind spaces is one of a command
command_takes_behind : (front : List (List ℕ)) (text : List ℕ) (c : Command) → text ≡ behind_spaces front → command_behind text ≡ Some c → IsCommandAlone 32 c × ((w : List ℕ) × (ws : List (List ℕ)) × (front ≡ w ∷ ws) × (spaced (w ∷ ws) ≡ command_text c))
command_takes_behind [] text c is e = let none : command_behind text ≡ None = ap command_behind is in let clash : None ≡ Some c = sym none ∙ e in absurd cc
command_takes_behind (w ∷ ws) text c is e =
    let said : command_of 32 (w ++ behind_spaces ws) ≡ Some c = sym (ap command_behind is) ∙ e in
    let t = command_takes 32 (w ++ behind_spaces ws) c said in
    (t.0, (w, ws, refl, spaced-first w ws ∙ t.1))

command_again_by : (front : List (List ℕ)) (c : Command) → 0 < length front → spaced front ≡ command_text c → IsCommandAlone 32 c → command_behind (behind_spaces front) ≡ Some c
command_again_by [] c some is h = absurd (omega arith)
command_again_by (w ∷ ws) c some is h = ap (command_of 32) (sym (spaced-first w ws) ∙ is) ∙ command_again 32 c h

command_words : (c : Command) → IsCommandAlone 32 c → 0 < length (words_of c)
command_words c h = let parts = parts_are 32 c h in subst (λ (ws : List (List ℕ)). 0 < length ws) parts (some_parts 32 (command_text c))

-- an answer has a word
reply_some : (r : Reply) → 0 < length (reply_words r)
reply_some reply.Created = omega arith
reply_some (reply.Layout text) = omega arith
reply_some reply.Set = omega arith
reply_some (reply.Split name) = omega arith
reply_some (reply.Removed id) = omega arith
reply_some (reply.EvictedClient client) = omega arith
reply_some (reply.Bytes bytes) = omega arith
reply_some reply.Written = omega arith
reply_some reply.Truncated = omega arith
reply_some (reply.Copied cleared left) = omega arith
reply_some (reply.Merged ids) = omega arith
reply_some (reply.Same blocks) = omega arith
reply_some (reply.Differ diffs) = omega arith
reply_some reply.Rotted = omega arith
reply_some (reply.NoFile name) = omega arith
reply_some (reply.Exists name) = omega arith
reply_some reply.TooManyFiles = omega arith
reply_some reply.TooBig = omega arith
reply_some (reply.NoPrimary range) = omega arith
reply_some (reply.AllOffline byte) = omega arith
reply_some (reply.Fault byte calls) = omega arith
reply_some (reply.WriteFault failed) = omega arith
reply_some (reply.Evicted place) = omega arith
reply_some (reply.Busy client) = omega arith
reply_some (reply.Broken place) = omega arith
reply_some (reply.LastFresh id) = omega arith
reply_some (reply.StaleMirror id) = omega arith
reply_some (reply.NoMirrorId id) = omega arith
reply_some (reply.NoComponent id) = omega arith
reply_some reply.TooManyMirrors = omega arith
reply_some reply.TooManyComponents = omega arith
reply_some (reply.DifferAt offset ours theirs) = omega arith
reply_some (reply.Sizes ours theirs) = omega arith
reply_some (reply.CopyFault failed) = omega arith
reply_some (reply.VerifyFault failed) = omega arith
reply_some reply.NoObject = omega arith

answer_some : (a : Answer) → 0 < length (answer_words a)
answer_some (answers.Whole r) = reply_some r
answer_some answers.Layout = omega arith
answer_some (answers.Bytes bytes) = omega arith
answer_some (answers.Differ count) = omega arith

equals_first : (words : List (List ℕ)) → 0 < length words → spaced (codes "=" ∷ words) ≡ codes "=" ++ 32 ∷ spaced words
equals_first [] some = absurd (omega arith)
equals_first (w ∷ ws) some = refl

answer_parts : (words : List (List ℕ)) → 0 < length words → AreWords words → parts_of 32 (spaced words) ≡ words
answer_parts [] some h = absurd (omega arith)
answer_parts (w ∷ ws) some h = parts_of-spaced w ws h

-- ---- the line

-- the text of the words of a head
line_text : (h : Head) (w : List ℕ) (ws : List (List ℕ)) → spaced (w ∷ ws) ≡ command_text h.command → spaced (place_words h.places ++ ((w ∷ ws) ++ codes "=" ∷ answer_words h.answer)) ≡ head_line h
line_text h w ws is =
    let tail : List (List ℕ) = codes "=" ∷ answer_words h.answer in
    let places : List (List ℕ) = place_words h.places in
    let middle : spaced ((w ∷ ws) ++ tail) ≡ command_text h.command ++ 32 ∷ (codes "=" ++ 32 ∷ spaced (answer_words h.answer)) =
    spaced-append w ws (codes "=") (answer_words h.answer) ∙ ap (λ (xs : List ℕ). xs ++ 32 ∷ spaced tail) is ∙ ap (λ (xs : List ℕ). command_text h.command ++ 32 ∷ xs) (equals_first (answer_words h.answer) (answer_some h.answer)) in
    spaced-append (codes "call") (name_text h.places.client h.places.number ∷ codes "from" ∷ decimal h.places.first ∷ codes "at" ∷ decimal h.places.at ∷ codes "to" ∷ decimal h.places.last ∷ []) w (ws ++ tail)
    ∙ ap (λ (xs : List ℕ). spaced places ++ 32 ∷ xs) middle

made_takes : (p : Places) (words : List (List ℕ)) (h : Head) → ArePlaces p → head_from p words ≡ Some h → IsHead h × (spaced (place_words p ++ words) ≡ head_line h)
made_takes p words h are e =
    let cut = found (λ (x : List ℕ × List (List ℕ)). option_and_then (λ (c : Command). option_map (λ (a : Answer). record { places = p; command = c; answer = a }) (answer_of x.1)) (command_behind x.0)) (cut_words words) h e in
    let command = found (λ (c : Command). option_map (λ (a : Answer). record { places = p; command = c; answer = a }) (answer_of cut.0.1)) (command_behind cut.0.0) h cut.2 in
    let answer = mapped (λ (a : Answer). record { places = p; command = command.0; answer = a }) (answer_of cut.0.1) h command.2 in
    let front = words_takes words cut.0 cut.1 in
    let c = command_takes_behind front.0 cut.0.0 command.0 front.1 command.1 in
    let a = answer_takes cut.0.1 answer.0 answer.1 in
    let made : Head = record { places = p; command = command.0; answer = answer.0 } in
    let all : words ≡ (c.1.0 ∷ c.1.1) ++ codes "=" ∷ answer_words answer.0 =
    front.2 ∙ ap (λ (ws : List (List ℕ)). ws ++ codes "=" ∷ cut.0.1) c.1.2 ∙ ap (λ (ws : List (List ℕ)). (c.1.0 ∷ c.1.1) ++ codes "=" ∷ ws) a.1 in
    let text : spaced (place_words p ++ words) ≡ head_line made = ap (λ (ws : List (List ℕ)). spaced (place_words p ++ ws)) all ∙ line_text made c.1.0 c.1.1 c.1.3 in
    let good : IsHead made = record { places = are; command = c.0; answer = a.0 } in
    subst (λ (x : Head). IsHead x × (spaced (place_words p ++ words) ≡ head_line x)) answer.2 (good, text)

pub head_takes : (line : List ℕ) (h : Head) → head_of line ≡ Some h → IsHead h × (line ≡ head_line h)
unfolding head_of
head_takes line h e =
    let front = found (λ (f : Places × List (List ℕ)). head_from f.0 f.1) (places_of (parts_of 32 line)) h e in
    let places = places_takes (parts_of 32 line) front.0 front.1 in
    let made = made_takes front.0.0 front.0.1 h places.0 front.2 in
    (made.0, sym (join_with_byte-slice_split 32 line) ∙ ap spaced places.1 ∙ made.1)

-- the parts of a head's line
line_parts : (h : Head) → IsHead h → parts_of 32 (head_line h) ≡ place_words h.places ++ (words_of h.command ++ codes "=" ∷ answer_words h.answer)
line_parts h good =
    let a : List ℕ = spaced (place_words h.places) in
    let b : List ℕ = command_text h.command in
    let d : List ℕ = spaced (answer_words h.answer) in
    let one : parts_of 32 a ≡ place_words h.places = answer_parts (place_words h.places) (omega arith) (place_words_words h.places) in
    let two : parts_of 32 b ≡ words_of h.command = parts_are 32 h.command good.command in
    let three : parts_of 32 d ≡ answer_words h.answer = answer_parts (answer_words h.answer) (answer_some h.answer) (answer_words_words h.answer good.answer) in
    let last : parts_of 32 (codes "=" ++ 32 ∷ d) ≡ codes "=" ∷ answer_words h.answer = parts-append 32 (codes "=") d ∙ ap (λ (ws : List (List ℕ)). codes "=" ∷ ws) three in
    let middle : parts_of 32 (b ++ 32 ∷ (codes "=" ++ 32 ∷ d)) ≡ words_of h.command ++ codes "=" ∷ answer_words h.answer =
    parts-append 32 b (codes "=" ++ 32 ∷ d) ∙ ap (λ (ws : List (List ℕ)). ws ++ parts_of 32 (codes "=" ++ 32 ∷ d)) two ∙ ap (λ (ws : List (List ℕ)). words_of h.command ++ ws) last in
    parts-append 32 a (b ++ 32 ∷ (codes "=" ++ 32 ∷ d)) ∙ ap (λ (ws : List (List ℕ)). ws ++ parts_of 32 (b ++ 32 ∷ (codes "=" ++ 32 ∷ d))) one ∙ ap (λ (ws : List (List ℕ)). place_words h.places ++ ws) middle

pub head_again : (h : Head) → IsHead h → head_of (head_line h) ≡ Some h
unfolding head_of
head_again h good =
    let tail : List (List ℕ) = words_of h.command ++ codes "=" ∷ answer_words h.answer in
    let front : places_of (parts_of 32 (head_line h)) ≡ Some (h.places, tail) = ap places_of (line_parts h good) ∙ places_again h.places tail good.places in
    let cut : cut_words tail ≡ Some (behind_spaces (words_of h.command), answer_words h.answer) = words_again (words_of h.command) (answer_words h.answer) (ends.words_others 32 h.command good.command) in
    let command : command_behind (behind_spaces (words_of h.command)) ≡ Some h.command = command_again_by (words_of h.command) h.command (command_words h.command good.command) refl good.command in
    let answer : answer_of (answer_words h.answer) ≡ Some h.answer = answer_again h.answer good.answer in
    ap (λ (o : Option (Places × List (List ℕ))). option_and_then (λ (f : Places × List (List ℕ)). head_from f.0 f.1) o) front
    ∙ ap (λ (o : Option (List ℕ × List (List ℕ))). option_and_then (λ (x : List ℕ × List (List ℕ)). option_and_then (λ (c : Command). option_map (λ (a : Answer). record { places = h.places; command = c; answer = a }) (answer_of x.1)) (command_behind x.0)) o) cut
    ∙ ap (λ (o : Option Command). option_and_then (λ (c : Command). option_map (λ (a : Answer). record { places = h.places; command = c; answer = a }) (answer_of (answer_words h.answer))) o) command
    ∙ ap (λ (o : Option Answer). option_map (λ (a : Answer). record { places = h.places; command = h.command; answer = a }) o) answer

-- ---- for the code

pub head_spelled : {E : Type 0} (line : List ℕ) (r : Result (Option Head) E) → IfOk r (λ found. found ≡ head_of line) → IfOk r (λ found. (head : Head) → ((found ≡ Some head) ↔ (IsHead head × (line ≡ head_line head))))
head_spelled line (Err e) h = tt
head_spelled line (Ok found) h = λ head. (λ e. head_takes line head (sym h ∙ e), λ k. h ∙ ap head_of k.1 ∙ head_again head k.0)
