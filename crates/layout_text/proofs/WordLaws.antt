-- Of which bytes the words of a layout's lines are, and so the text.
use Rattle.std.proofs.Common.{◌≡◌, ℕ, Bool, true, false, ◌&&◌, eqb, leb, List, [], ◌∷◌, ◌++◌, length, map, Some, refl, arith}
use Rattle.std.specs.Prelude.{codes}
use Rattle.std.specs.List.{list_all, join_with_byte, AllPass}
use Rattle.std.specs.Fmt.{decimal}
use Rattle.std.proofs.lemmas.Bool.{and_parts, and_from, or_right, le-leb, leb-true}
use Rattle.std.proofs.lemmas.List.Folds.{list_all-append}
use Rattle.std.proofs.lemmas.List.Sums.{AllPass-from_list_all}
use Rattle.flr_base.specs.declared.reply.ObjectId.{ObjectId}
use Rattle.text_words.specs.Items.{object_text}
use Rattle.text_words.specs.Lines.{lines_of, text_of}
use Rattle.text_words.specs.Pieces.{AllLack}
use Rattle.text_words.specs.Words.{is_graphic, IsGraphic, IsWord, AreWords, spaced}
use Rattle.text_words.proofs.LineLaws.{lines-text}
use Rattle.text_words.proofs.WordTexts.{word_graphic, word_append, words_append, decimal_word, end_word, list_word, spaced_lacks}
use Rattle.composite_layout.specs.declared.component.Component.{Component}
use Rattle.composite_layout.specs.declared.component.Flags.{Flags}
use Rattle.composite_layout.specs.declared.component.State.{State}
use Rattle.composite_layout.specs.declared.component.State.TheVariants as states
use Rattle.composite_layout.specs.Layouts.{Composite}
use Rattle.layout_text.specs.Texts.{state_word, named, flag_names, names_word, flags_word, head_words, component_words, head_line, component_line, is_textual, text_of_layout}

-- ---- each word

state_word_word : (s : State) → IsWord (state_word s)
state_word_word states.Single = refl
state_word_word states.ReadOnly = refl
state_word_word states.WritePending = refl
state_word_word states.SyncPending = refl

named_word : (set : Bool) (name : List ℕ) → IsWord name → AreWords (named set name)
named_word true name h = (h, tt)
named_word false name h = tt

joined_word : (name : List ℕ) (names : List (List ℕ)) → IsWord name → AreWords names → IsWord (join_with_byte 44 (name ∷ names))
joined_word name [] h k = h
joined_word name (next ∷ names) h k = word_append name (44 ∷ join_with_byte 44 (next ∷ names)) h (word_graphic (join_with_byte 44 (next ∷ names)) (joined_word next names k.0 k.1))

names_word_word : (names : List (List ℕ)) → AreWords names → IsWord (names_word names)
names_word_word [] h = refl
names_word_word (name ∷ names) h = joined_word name names h.0 h.1

flag_names_words : (f : Flags) → AreWords (flag_names f)
flag_names_words f =
    words_append _ (named f.nosync (codes "nosync")) (words_append _ (named f.offline (codes "offline")) (words_append _ (named f.prefer (codes "prefer"))
    (words_append (named f.init (codes "init")) (named f.stale (codes "stale")) (named_word f.init (codes "init") refl) (named_word f.stale (codes "stale") refl))
    (named_word f.prefer (codes "prefer") refl)) (named_word f.offline (codes "offline") refl)) (named_word f.nosync (codes "nosync") refl)

flags_word_word : (f : Flags) → IsWord (flags_word f)
flags_word_word f = names_word_word (flag_names f) (flag_names_words f)

object_word : (o : ObjectId) → IsWord (object_text o)
object_word o = word_append (decimal o.target) (46 ∷ decimal o.number) (decimal_word o.target) (word_graphic (decimal o.number) (decimal_word o.number))

-- ---- each line

pub component_words_words : (c : Component) → AreWords (component_words c)
component_words_words c = (
  refl,
  (
    decimal_word c.id,
    (
      refl,
      (
        decimal_word c.mirror,
        (
          refl,
          (
            flags_word_word c.flags,
            (
              refl,
              (
                decimal_word c.extent.start,
                (
                  end_word (codes "EOF") c.extent.end refl,
                  (refl, (decimal_word c.stripe.size, (refl, (decimal_word c.stripe.count, (refl, (list_word object_text c.objects object_word, tt)))))),
                ),
              ),
            ),
          ),
        ),
      ),
    ),
  ),
)

-- of a head line whatever it says
pub head_words_by : (generation : ℕ) (state : State) (mirror counter count : ℕ)
    → AreWords (codes "layout" ∷ codes "generation" ∷ decimal generation ∷ codes "state" ∷ state_word state ∷ codes "next" ∷ decimal mirror ∷ decimal counter ∷ codes "components" ∷ decimal count ∷ [])
head_words_by generation state mirror counter count =
    (refl, (refl, (decimal_word generation, (refl, (state_word_word state, (refl, (decimal_word mirror, (decimal_word counter, (refl, (decimal_word count, tt))))))))))

head_words_words : (l : Composite) → AreWords (head_words l)
head_words_words l = head_words_by l.generation l.state l.next_mirror l.next_counter (length l.components)

-- ---- the text comes apart into its lines

component_lines_lack : (cs : List Component) → AllLack 10 (map component_line cs)
component_lines_lack [] = tt
component_lines_lack (c ∷ cs) = (spaced_lacks (component_words c) (component_words_words c), component_lines_lack cs)

pub texts_lack : (l : Composite) → AllLack 10 (head_line l ∷ map component_line l.components)
texts_lack l = (spaced_lacks (head_words l) (head_words_words l), component_lines_lack l.components)

pub lines_of-layout : (l : Composite) → lines_of (text_of_layout l) ≡ map (λ line. Some line) (head_line l ∷ map component_line l.components)
lines_of-layout l = lines-text (head_line l ∷ map component_line l.components) (texts_lack l)

-- ---- the bytes of a text

textual_append : (xs ys : List ℕ) → list_all is_textual xs ≡ true → list_all is_textual ys ≡ true → list_all is_textual (xs ++ ys) ≡ true
textual_append xs ys h k = rw (list_all-append is_textual xs ys, h) k

graphic_is_textual : (byte : ℕ) → is_graphic byte ≡ true → is_textual byte ≡ true
graphic_is_textual byte h =
    let p = and_parts (leb 33 byte) (leb byte 126) h in
    let low = leb-true 33 byte p.0 in
    or_right (eqb byte 10) (leb 32 byte && leb byte 126) (and_from (leb 32 byte) (leb byte 126) (le-leb 32 byte (omega arith)) p.1)

graphic_textual : (text : List ℕ) → IsGraphic text → list_all is_textual text ≡ true
graphic_textual [] h = refl
graphic_textual (c ∷ cs) h =
    let p = and_parts (is_graphic c) (list_all is_graphic cs) h in
    and_from (is_textual c) (list_all is_textual cs) (graphic_is_textual c p.0) (graphic_textual cs p.1)

word_textual : (word : List ℕ) → IsWord word → list_all is_textual word ≡ true
word_textual word h = graphic_textual word (word_graphic word h)

spaced_textual : (words : List (List ℕ)) → AreWords words → list_all is_textual (spaced words) ≡ true
spaced_textual [] h = refl
spaced_textual (word ∷ []) h = word_textual word h.0
spaced_textual (word ∷ next ∷ words) h = textual_append word (32 ∷ spaced (next ∷ words)) (word_textual word h.0) (spaced_textual (next ∷ words) h.1)

ended_textual : (words : List (List ℕ)) → AreWords words → list_all is_textual (spaced words ++ 10 ∷ []) ≡ true
ended_textual words h = textual_append (spaced words) (10 ∷ []) (spaced_textual words h) refl

components_textual : (cs : List Component) → list_all is_textual (text_of (map component_line cs)) ≡ true
components_textual [] = refl
components_textual (c ∷ cs) = textual_append (component_line c ++ 10 ∷ []) (text_of (map component_line cs)) (ended_textual (component_words c) (component_words_words c)) (components_textual cs)

pub layout_textual : (l : Composite) → AllPass is_textual (text_of_layout l)
layout_textual l =
    AllPass-from_list_all is_textual (text_of_layout l)
    (textual_append (head_line l ++ 10 ∷ []) (text_of (map component_line l.components)) (ended_textual (head_words l) (head_words_words l)) (components_textual l.components))
