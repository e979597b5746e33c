-- A text is the printed form of a command exactly where it is read as that command.
use Rattle.std.proofs.Common.{◌≡◌, ℕ, ◌+◌, ◌*◌, ◌-◌, ◌/◌, ◌%◌, ◌^◌, ◌<◌, ◌≤◌, Bool, true, false, cond, ◌&&◌, ltb, leb, List, [], ◌∷◌, length, Result, Ok, Err, Option, Some, None, refl, sym, ap, subst, ◌∙◌, arith}
use Rattle.std.specs.Prelude.{codes, option_and_then, MatchOption, IfOk, IfSome, ◌↔◌}
use Rattle.std.specs.Option.{option_map}
use Rattle.std.specs.List.{join_with_byte}
use Rattle.std.specs.Str.{bytes_eq}
use Rattle.std.specs.Fmt.{decimal, digit_glyph}
use Rattle.std.proofs.lemmas.Bool.{cond_both, and_parts, and_from, ltb-true, leb-true, lt-ltb, le-leb}
use Rattle.std.proofs.lemmas.List.Splits.{join_with_byte-slice_split}
use Rattle.std.proofs.lemmas.Slice.Eq.{bytes_eq-Decides}
use Rattle.flr_base.specs.declared.reply.ObjectId.{ObjectId}
use Rattle.flr_base.specs.Runs.{hex, text_of_bytes}
use Rattle.flr_base.proofs.RunLaws.{hex_is}
use Rattle.text_words.specs.Bytes.{hex_digit, hex_byte}
use Rattle.text_words.specs.Items.{object_text, object_of}
use Rattle.text_words.specs.Names.{is_name}
use Rattle.text_words.specs.Numbers.{number_from}
use Rattle.text_words.specs.Pieces.{Lacks, parts_of}
use Rattle.text_words.specs.Words.{is_graphic, IsWord, AreWords}
use Rattle.text_words.proofs.OneWords.{object_one_word}
use Rattle.text_words.proofs.Spellings.{from_takes, from_again}
use Rattle.text_words.proofs.WordTexts.{decimal_word, name_word, word_append, word_graphic, parts_of-spaced, spaced_lacks}
use Rattle.lfs_values.specs.declared.cause.Cause.{Cause}
use Rattle.lfs_words.specs.declared.command.LfsCommand.{LfsCommand}
use Rattle.lfs_words.specs.Printing.{words_of_command, text_of_command}
use Rattle.lfs_words.specs.Reading as lfs
use Rattle.lfs_words.proofs.Answering as answering
use Rattle.lfs_words.proofs.Apart.{all_words, spelled_named}
use Rattle.lfs_words.proofs.PrintedSpecs.{printed_again}
use Rattle.script_values.specs.declared.command.Command.{Command}
use Rattle.script_values.specs.declared.command.Command.TheVariants as commands
use Rattle.script_values.specs.Commands.{most_offset, IsLength, IsLfs, IsObject, IsCommand, IsCommandAlone, IsSpellable, AreBytes}
use Rattle.script_values.specs.Reading.{name_of, if_object, object_in, read_of, write_of, truncate_of, evict_of, rot_of, three_of, two_of, one_of, plain_of, if_printed, lfs_of, begins_lfs, words_command, command_of}
use Rattle.script_values.specs.RunWords.{bytes_from}
use Rattle.script_values.specs.Texts.{words_of, command_text}
use Rattle.script_values.proofs.ScriptTexts.{spellable}
use Rattle.script_values.proofs.RunTexts.{bytes_word, glyph_is_graphic}
use Rattle.script_values.proofs.RunWordLaws as runs
use Rattle.script_values.proofs.RunWordLaws.{hex_again}

-- ---- options that are gone on with

found : {A B : Type 0} (f : A → Option B) (o : Option A) (y : B) → option_and_then f o ≡ Some y → (x : A) × (o ≡ Some x) × (f x ≡ Some y)
found f None y e = absurd cc
found f (Some x) y e = (x, refl, e)

mapped : {A B : Type 0} (f : A → B) (o : Option A) (y : B) → option_map f o ≡ Some y → (x : A) × (o ≡ Some x) × (f x ≡ y)
mapped f None y e = absurd cc
mapped f (Some x) y e = (x, refl, cc)

-- ---- words

-- the command is one that may stand, and these are its words
abbrev Says : ℕ → List (List ℕ) → Command → Type 0
Says most words c = IsCommandAlone most c × (words ≡ words_of c)

same_word : (word text : List ℕ) → bytes_eq word text ≡ true → word ≡ text
same_word word text e = (bytes_eq-Decides word text).0 e

name_takes : (word name : List ℕ) → name_of word ≡ Some name → (is_name name ≡ true) × (word ≡ name)
name_takes word name e = cond_both (is_name word) (Some word) None (λ o. o ≡ Some name → (is_name name ≡ true) × (word ≡ name))
    (λ t f. let same : word ≡ name = cc in (ap is_name (sym same) ∙ t, same))
    (λ t f. absurd cc) e

name_again : (name : List ℕ) → is_name name ≡ true → name_of name ≡ Some name
name_again name t = ap (λ (b : Bool). cond b (Some name) None) t

object_takes : (word : List ℕ) (object : ObjectId) → object_in word ≡ Some object → IsObject 64 object × (word ≡ object_text object)
unfolding object_in
object_takes word object e =
    let one = found if_object (object_of word) object e in
    let item = object_one_word.takes word one.0 one.1 in
    cond_both (ltb one.0.target 64 && leb 1 one.0.number) (Some one.0) None (λ o. o ≡ Some object → IsObject 64 object × (word ≡ object_text object))
    (λ t f.
    let p = and_parts (ltb one.0.target 64) (leb 1 one.0.number) t in
    let same : one.0 ≡ object = cc in
    subst (λ x. IsObject 64 x × (word ≡ object_text x)) same ((ltb-true one.0.target 64 p.0, leb-true 1 one.0.number p.1, item.0.1), item.1))
    (λ t f. absurd cc) one.2

object_again : (object : ObjectId) → IsObject 64 object → object_in (object_text object) ≡ Some object
unfolding object_in
object_again object h =
    ap (option_and_then if_object) (object_one_word.again object (omega (arith, h.0), h.2)) ∙ rw (lt-ltb object.target 64 h.0, le-leb 1 object.number h.1) refl

digit_is : (c d : ℕ) (o : Option ℕ) → MatchOption o (Unit {0}) (λ h. (h < 16) × (c ≡ digit_glyph false h)) → o ≡ Some d → (d < 16) × (c ≡ digit_glyph false d)
digit_is c d None h e = absurd cc
digit_is c d (Some x) h e = let same : x ≡ d = cc in subst (λ y. (y < 16) × (c ≡ digit_glyph false y)) same h

two_digits : (a b high low byte : ℕ) → (high < 16) × (a ≡ digit_glyph false high) → (low < 16) × (b ≡ digit_glyph false low) → high * 16 + low ≡ byte → (byte < 256) × (a ∷ b ∷ [] ≡ hex byte)
two_digits a b high low byte h l e =
    let most_high = h.0 in
    let most_low = l.0 in
    let first : byte / 16 ≡ high = omega arith in
    let last : byte % 16 ≡ low = omega arith in
    (omega arith, rw (first, last, h.1, l.1) refl)

pub hex_takes : (word : List ℕ) (byte : ℕ) → hex_byte word ≡ Some byte → (byte < 256) × (word ≡ hex byte)
hex_takes [] byte e = absurd cc
hex_takes (a ∷ []) byte e = absurd cc
hex_takes (a ∷ b ∷ []) byte e =
    let one = found _ (hex_digit a) byte e in
    let two = mapped (λ (l : ℕ). one.0 * 16 + l) (hex_digit b) byte one.2 in
    two_digits a b one.0 two.0 byte (digit_is a one.0 (hex_digit a) (hex_is a) one.1) (digit_is b two.0 (hex_digit b) (hex_is b) two.1) two.2
hex_takes (a ∷ b ∷ c ∷ word) byte e = absurd cc

-- words that are the same one by one
four : (v a b c d e f : List ℕ) → a ≡ d → b ≡ e → c ≡ f → v ∷ a ∷ b ∷ c ∷ [] ≡ v ∷ d ∷ e ∷ f ∷ []
four v a b c d e f p q r = rw (p, q, r) refl

three : (v a b c d : List ℕ) → a ≡ c → b ≡ d → v ∷ a ∷ b ∷ [] ≡ v ∷ c ∷ d ∷ []
three v a b c d p q = rw (p, q) refl

two : (v a b : List ℕ) → a ≡ b → v ∷ a ∷ [] ≡ v ∷ b ∷ []
two v a b p = rw p refl

-- ---- commands that aren't of lfs

read_takes : (most : ℕ) (a b c : List ℕ) (command : Command) → read_of a b c ≡ Some command → Says most (codes "read" ∷ a ∷ b ∷ c ∷ []) command
unfolding read_of
read_takes most a b c command e =
    let one = found _ (name_of a) command e in
    let two = found _ (number_from 0 most_offset b) command one.2 in
    let three = mapped (λ (l : ℕ). commands.Read one.0 two.0 l) (number_from 1 1048576 c) command two.2 in
    let name = name_takes a one.0 one.1 in
    let offset = from_takes 0 most_offset b two.0 two.1 in
    let len = from_takes 1 1048576 c three.0 three.1 in
    subst (Says most (codes "read" ∷ a ∷ b ∷ c ∷ [])) three.2 ((name.0, offset.1, (len.0, len.1)), four (codes "read") a b c one.0 (decimal two.0) (decimal three.0) name.1 offset.2 len.2)

write_takes : (most : ℕ) (a b c : List ℕ) (command : Command) → write_of a b c ≡ Some command → Says most (codes "write" ∷ a ∷ b ∷ c ∷ []) command
unfolding write_of
write_takes most a b c command e =
    let one = found _ (name_of a) command e in
    let two = found _ (number_from 0 (2 ^ 40) b) command one.2 in
    let three = mapped (λ (bytes : List ℕ). commands.Write one.0 two.0 bytes) (bytes_from 1 1048576 c) command two.2 in
    let name = name_takes a one.0 one.1 in
    let offset = from_takes 0 (2 ^ 40) b two.0 two.1 in
    let bytes = runs.from_takes 1 1048576 c three.0 three.1 in
    subst (Says most (codes "write" ∷ a ∷ b ∷ c ∷ [])) three.2 ((name.0, offset.1, (bytes.low, bytes.high), bytes.bytes_are), four (codes "write") a b c one.0 (decimal two.0) (text_of_bytes three.0) name.1 offset.2 bytes.text)

truncate_takes : (most : ℕ) (a b : List ℕ) (command : Command) → truncate_of a b ≡ Some command → Says most (codes "truncate" ∷ a ∷ b ∷ []) command
unfolding truncate_of
truncate_takes most a b command e =
    let one = found _ (name_of a) command e in
    let two = mapped (λ (s : ℕ). commands.Truncate one.0 s) (number_from 0 (2 ^ 40) b) command one.2 in
    let name = name_takes a one.0 one.1 in
    let size = from_takes 0 (2 ^ 40) b two.0 two.1 in
    subst (Says most (codes "truncate" ∷ a ∷ b ∷ [])) two.2 ((name.0, size.1), three (codes "truncate") a b one.0 (decimal two.0) name.1 size.2)

evict_takes : (most : ℕ) (a : List ℕ) (command : Command) → evict_of a ≡ Some command → Says most (codes "evict" ∷ a ∷ []) command
unfolding evict_of
evict_takes most a command e =
    let one = mapped (λ (n : ℕ). commands.Evict n) (number_from 1 16 a) command e in
    let client = from_takes 1 16 a one.0 one.1 in
    subst (Says most (codes "evict" ∷ a ∷ [])) one.2 ((client.0, client.1), two (codes "evict") a (decimal one.0) client.2)

rot_takes : (most : ℕ) (a b c : List ℕ) (command : Command) → rot_of a b c ≡ Some command → Says most (codes "rot" ∷ a ∷ b ∷ c ∷ []) command
unfolding rot_of
rot_takes most a b c command e =
    let one = found _ (object_in a) command e in
    let two = found _ (number_from 0 (most_offset - 1) b) command one.2 in
    let three = mapped (λ (byte : ℕ). commands.Rot one.0 two.0 byte) (hex_byte c) command two.2 in
    let object = object_takes a one.0 one.1 in
    let offset = from_takes 0 (most_offset - 1) b two.0 two.1 in
    let byte = hex_takes c three.0 three.1 in
    let high = offset.1 in
    subst (Says most (codes "rot" ∷ a ∷ b ∷ c ∷ [])) three.2 ((object.0, omega arith, byte.0), four (codes "rot") a b c (object_text one.0) (decimal two.0) (hex three.0) object.1 offset.2 byte.1)

three_takes : (most : ℕ) (verb a b c : List ℕ) (command : Command) → three_of verb a b c ≡ Some command → Says most (verb ∷ a ∷ b ∷ c ∷ []) command
three_takes most verb a b c command e =
    cond_both (bytes_eq verb (codes "read")) (read_of a b c) (cond (bytes_eq verb (codes "write")) (write_of a b c) (cond (bytes_eq verb (codes "rot")) (rot_of a b c) None)) (λ o. o ≡ Some command → Says most (verb ∷ a ∷ b ∷ c ∷ []) command)
    (λ t f. rw (same_word verb (codes "read") t) (read_takes most a b c command f))
    (λ t f. cond_both (bytes_eq verb (codes "write")) (write_of a b c) (cond (bytes_eq verb (codes "rot")) (rot_of a b c) None) (λ o. o ≡ Some command → Says most (verb ∷ a ∷ b ∷ c ∷ []) command)
    (λ u g. rw (same_word verb (codes "write") u) (write_takes most a b c command g))
    (λ u g. cond_both (bytes_eq verb (codes "rot")) (rot_of a b c) None (λ o. o ≡ Some command → Says most (verb ∷ a ∷ b ∷ c ∷ []) command)
    (λ v h. rw (same_word verb (codes "rot") v) (rot_takes most a b c command h))
    (λ v h. absurd cc) g) f) e

two_takes : (most : ℕ) (verb a b : List ℕ) (command : Command) → two_of verb a b ≡ Some command → Says most (verb ∷ a ∷ b ∷ []) command
two_takes most verb a b command e =
    cond_both (bytes_eq verb (codes "truncate")) (truncate_of a b) None (λ o. o ≡ Some command → Says most (verb ∷ a ∷ b ∷ []) command)
    (λ t f. rw (same_word verb (codes "truncate") t) (truncate_takes most a b command f))
    (λ t f. absurd cc) e

one_takes : (most : ℕ) (verb a : List ℕ) (command : Command) → one_of verb a ≡ Some command → Says most (verb ∷ a ∷ []) command
one_takes most verb a command e =
    cond_both (bytes_eq verb (codes "evict")) (evict_of a) None (λ o. o ≡ Some command → Says most (verb ∷ a ∷ []) command)
    (λ t f. rw (same_word verb (codes "evict") t) (evict_takes most a command f))
    (λ t f. absurd cc) e

plain_takes : (most : ℕ) (words : List (List ℕ)) (command : Command) → plain_of words ≡ Some command → Says most words command
plain_takes most [] command e = absurd cc
plain_takes most (verb ∷ []) command e = absurd cc
plain_takes most (verb ∷ a ∷ []) command e = one_takes most verb a command e
plain_takes most (verb ∷ a ∷ b ∷ []) command e = two_takes most verb a b command e
plain_takes most (verb ∷ a ∷ b ∷ c ∷ []) command e = three_takes most verb a b c command e
plain_takes most (verb ∷ a ∷ b ∷ c ∷ d ∷ words) command e = absurd cc

-- ---- commands of lfs

printed_takes : (most : ℕ) (text : List ℕ) (words : List (List ℕ)) (r : Result LfsCommand Cause) (command : Command) → lfs.read_of most words ≡ r → if_printed text r ≡ Some command → IsCommandAlone most command × (text ≡ command_text command)
printed_takes most text words (Err cause) command is e = absurd cc
printed_takes most text words (Ok lc) command is e =
    cond_both (bytes_eq (text_of_command lc) text) (Some (commands.Lfs lc)) None (λ o. o ≡ Some command → IsCommandAlone most command × (text ≡ command_text command))
    (λ t f.
    let same : commands.Lfs lc ≡ command = cc in
    subst (λ (c : Command). IsCommandAlone most c × (text ≡ command_text c)) same ((words, answering.found most words lc is), sym (same_word (text_of_command lc) text t)))
    (λ t f. absurd cc) e

-- ---- texts

pub command_takes : (most : ℕ) (text : List ℕ) (command : Command) → command_of most text ≡ Some command → IsCommandAlone most command × (text ≡ command_text command)
unfolding command_of
command_takes most text command e =
    cond_both (begins_lfs (parts_of 32 text)) (lfs_of most text (parts_of 32 text)) (plain_of (parts_of 32 text)) (λ o. o ≡ Some command → IsCommandAlone most command × (text ≡ command_text command))
    (λ t f. printed_takes most text (parts_of 32 text) (lfs.read_of most (parts_of 32 text)) command refl f)
    (λ t f. let said = plain_takes most (parts_of 32 text) command f in (said.0, sym (join_with_byte-slice_split 32 text) ∙ ap (join_with_byte 32) said.1)) e

-- ---- the other way

read_again : (name : List ℕ) (offset len : ℕ) → is_name name ≡ true → offset ≤ most_offset → IsLength len → read_of name (decimal offset) (decimal len) ≡ Some (commands.Read name offset len)
unfolding read_of
read_again name offset len named most h =
    rw (name_again name named, from_again 0 most_offset offset (omega arith) (omega arith) most, from_again 1 1048576 len (omega arith) h.0 h.1) refl

write_again : (name : List ℕ) (offset : ℕ) (bytes : List ℕ) → is_name name ≡ true → offset ≤ 2 ^ 40 → IsLength (length bytes) → AreBytes bytes → write_of name (decimal offset) (text_of_bytes bytes) ≡ Some (commands.Write name offset bytes)
unfolding write_of
write_again name offset bytes named most h are =
    rw (name_again name named, from_again 0 (2 ^ 40) offset (omega arith) (omega arith) most, runs.text_again 1 1048576 bytes are h.0 h.1 (omega arith)) refl

truncate_again : (name : List ℕ) (size : ℕ) → is_name name ≡ true → size ≤ 2 ^ 40 → truncate_of name (decimal size) ≡ Some (commands.Truncate name size)
unfolding truncate_of
truncate_again name size named most = rw (name_again name named, from_again 0 (2 ^ 40) size (omega arith) (omega arith) most) refl

evict_again : (client : ℕ) → 1 ≤ client → client ≤ 16 → evict_of (decimal client) ≡ Some (commands.Evict client)
unfolding evict_of
evict_again client some few = rw (from_again 1 16 client (omega arith) some few) refl

rot_again : (object : ObjectId) (offset byte : ℕ) → IsObject 64 object → offset < most_offset → byte < 256 → rot_of (object_text object) (decimal offset) (hex byte) ≡ Some (commands.Rot object offset byte)
unfolding rot_of
rot_again object offset byte h most lt = rw (object_again object h, from_again 0 (most_offset - 1) offset (omega arith) (omega arith) (omega arith), hex_again byte lt) refl

-- ---- the words of a command

object_is_word : (object : ObjectId) → IsWord (object_text object)
object_is_word object = word_append (decimal object.target) (46 ∷ decimal object.number) (decimal_word object.target) (word_graphic (decimal object.number) (decimal_word object.number))

hex_is_word : (byte : ℕ) → byte < 256 → IsWord (hex byte)
hex_is_word byte lt =
    and_from (is_graphic (digit_glyph false (byte / 16))) _ (glyph_is_graphic (byte / 16) (omega arith))
    (and_from (is_graphic (digit_glyph false (byte % 16))) true (glyph_is_graphic (byte % 16) (omega arith)) refl)

pub words_are : (most : ℕ) (command : Command) → IsCommandAlone most command → AreWords (words_of command)
words_are most (commands.Read name offset len) h = (refl, (name_word name h.0, (decimal_word offset, (decimal_word len, tt))))
words_are most (commands.Write name offset bytes) h = let few = h.2.1 in (refl, (name_word name h.0, (decimal_word offset, (bytes_word bytes h.3 (omega arith), tt))))
words_are most (commands.Truncate name size) h = (refl, (name_word name h.0, (decimal_word size, tt)))
words_are most (commands.Lfs command) h = all_words command (spelled_named most h.0 command h.1)
words_are most (commands.Evict client) h = (refl, (decimal_word client, tt))
words_are most (commands.Rot object offset byte) h = (refl, (object_is_word object, (decimal_word offset, (hex_is_word byte h.2, tt))))

-- the text comes apart into the words
pub parts_are : (most : ℕ) (command : Command) → IsCommandAlone most command → parts_of 32 (command_text command) ≡ words_of command
parts_are most (commands.Read name offset len) h = parts_of-spaced _ _ (words_are most (commands.Read name offset len) h)
parts_are most (commands.Write name offset bytes) h = parts_of-spaced _ _ (words_are most (commands.Write name offset bytes) h)
parts_are most (commands.Truncate name size) h = parts_of-spaced _ _ (words_are most (commands.Truncate name size) h)
parts_are most (commands.Lfs command) h = parts_of-spaced _ _ (words_are most (commands.Lfs command) h)
parts_are most (commands.Evict client) h = parts_of-spaced _ _ (words_are most (commands.Evict client) h)
parts_are most (commands.Rot object offset byte) h = parts_of-spaced _ _ (words_are most (commands.Rot object offset byte) h)

lfs_again : (most : ℕ) (command : LfsCommand) → IsLfs most command → lfs_of most (text_of_command command) (words_of_command command) ≡ Some (commands.Lfs command)
lfs_again most command h =
    let read : lfs.read_of most (words_of_command command) ≡ Ok command = answering.again most (words_of_command command) command (printed_again most h.0 command h.1) in
    let same : bytes_eq (text_of_command command) (text_of_command command) ≡ true = (bytes_eq-Decides (text_of_command command) (text_of_command command)).1 refl in
    ap (if_printed (text_of_command command)) read ∙ ap (λ (b : Bool). cond b (Some (commands.Lfs command)) None) same

said_again : (most : ℕ) (command : Command) → IsCommandAlone most command → words_command most (command_text command) (words_of command) ≡ Some command
said_again most (commands.Read name offset len) h = read_again name offset len h.0 h.1 h.2
said_again most (commands.Write name offset bytes) h = write_again name offset bytes h.0 h.1 h.2 h.3
said_again most (commands.Truncate name size) h = truncate_again name size h.0 h.1
said_again most (commands.Lfs command) h = lfs_again most command h
said_again most (commands.Evict client) h = evict_again client h.0 h.1
said_again most (commands.Rot object offset byte) h = rot_again object offset byte h.0 h.1 h.2

pub command_again : (most : ℕ) (command : Command) → IsCommandAlone most command → command_of most (command_text command) ≡ Some command
unfolding command_of
command_again most command h = ap (words_command most (command_text command)) (parts_are most command h) ∙ said_again most command h

-- both ways
pub command_spelled : (most : ℕ) (text : List ℕ) (command : Command) → ((command_of most text ≡ Some command) ↔ (IsCommandAlone most command × (text ≡ command_text command)))
command_spelled most text command = (command_takes most text command, λ h. ap (command_of most) h.1 ∙ command_again most command h.0)

pub answer_spelled : {E : Type 0} (most : ℕ) (text : List ℕ) (r : Result (Option Command) E) → IfOk r (λ found. found ≡ command_of most text)
    → IfOk r (λ found. (command : Command) → ((found ≡ Some command) ↔ (IsCommandAlone most command × (text ≡ command_text command))))
answer_spelled most text (Err e) h = tt
answer_spelled most text (Ok found) h = λ command. let both = command_spelled most text command in (λ e. both.0 (sym h ∙ e), λ k. h ∙ both.1 k)

good_by : (most : ℕ) (text : List ℕ) (o : Option Command) → o ≡ command_of most text → IfSome o (λ command. IsCommandAlone most command × IsSpellable command)
good_by most text None e = tt
good_by most text (Some command) e = let said = command_takes most text command (sym e) in (said.0, spellable most 64 16 command said.0)

pub answer_good : {E : Type 0} (most : ℕ) (text : List ℕ) (r : Result (Option Command) E) → IfOk r (λ found. found ≡ command_of most text) → IfOk r (λ found. IfSome found (λ command. IsCommandAlone most command × IsSpellable command))
answer_good most text (Err e) h = tt
answer_good most text (Ok found) h = good_by most text found h

-- what was read from the printed form
pub answer_again : {E : Type 0} (most : ℕ) (command : Command) (text : List ℕ) (r : Result (Option Command) E) → text ≡ command_text command → IfOk r (λ found. found ≡ command_of most text) → IsCommandAlone most command → IfOk r (λ found. found ≡ Some command)
answer_again most command text (Err e) is h good = tt
answer_again most command text (Ok found) is h good = h ∙ ap (command_of most) is ∙ command_again most command good

-- ---- the printed form of a good command

pub one_line : (most : ℕ) (command : Command) → IsCommandAlone most command → Lacks 10 (command_text command)
one_line most command h = spaced_lacks (words_of command) (words_are most command h)

-- a command that may stand in some script
pub alone_of : (most targets clients : ℕ) (command : Command) → targets ≤ 64 → clients ≤ 16 → IsCommand most targets clients command → IsCommandAlone most command
alone_of most targets clients (commands.Read name offset len) few_targets few_clients h = h
alone_of most targets clients (commands.Write name offset bytes) few_targets few_clients h = h
alone_of most targets clients (commands.Truncate name size) few_targets few_clients h = h
alone_of most targets clients (commands.Lfs command) few_targets few_clients h = h
alone_of most targets clients (commands.Evict client) few_targets few_clients h = let low = h.0 in let high = h.1 in (low, omega arith)
alone_of most targets clients (commands.Rot object offset byte) few_targets few_clients h = let low = h.0.0 in ((omega arith, h.0.1, h.0.2), h.1, h.2)
