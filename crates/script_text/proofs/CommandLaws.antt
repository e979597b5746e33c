-- What the line of a command said.
use Rattle.std.proofs.Common.{◌≡◌, ℕ, ◌+◌, ◌-◌, ◌^◌, ◌*◌, ◌/◌, ◌%◌, ◌<◌, false, List, [], ◌∷◌, Option, Some, None, Result, Ok, Err, refl, ap, subst, ◌∙◌, arith}
use Rattle.std.specs.Prelude.{codes, min, MatchOption, option_and_then}
use Rattle.std.specs.Option.{option_map}
use Rattle.std.specs.Fmt.{decimal, digit_glyph}
use Rattle.flr_base.specs.Runs.{hex, text_of_bytes}
use Rattle.flr_base.proofs.RunLaws.{hex_is}
use Rattle.text_words.specs.Bytes.{hex_digit, hex_byte}
use Rattle.text_words.specs.Items.{object_text}
use Rattle.lfs_values.specs.declared.cause.Cause.{Cause}
use Rattle.lfs_values.specs.declared.cause.Cause.TheVariants as causes
use Rattle.lfs_words.specs.declared.command.LfsCommand.{LfsCommand}
use Rattle.lfs_words.specs.Reading.{read_of}
use Rattle.lfs_words.proofs.Answering.{found}
use Rattle.script_values.specs.declared.command.Command.{Command}
use Rattle.script_values.specs.declared.command.Command.TheVariants as commands
use Rattle.script_values.specs.RunWords.{bytes_from}
use Rattle.script_values.proofs.RunWordLaws.{IsFound, from_takes}
use Rattle.script_text.specs.declared.error.LineError.{LineError}
use Rattle.script_text.specs.declared.lead.Verb.{Verb}
use Rattle.script_text.specs.declared.lead.Verb.TheVariants as verbs
use Rattle.script_text.specs.CommandLines.{read_line, write_line, truncate_line, evict_line, rot_line, lfs_by, command_by}
use Rattle.script_text.specs.Slots.{name_in, number_in, object_in, byte_in, bytes_in, nothing_in}
use Rattle.script_text.specs.SoFar.{Heard}
use Rattle.script_text.proofs.LeadLaws.{verb_text}
use Rattle.script_text.proofs.SlotLaws.{through, first_takes, nothing_takes, number_takes, name_takes, object_takes}

-- the word in the list is put in
pub one_more : (a : List ℕ) (x y z : List (List ℕ)) → x ≡ a ∷ y → y ≡ z → x ≡ a ∷ z
one_more a x y z e f = e ∙ ap (λ (ws : List (List ℕ)). a ∷ ws) f

pub behind_word : (word : List ℕ) (x y : List (List ℕ)) → x ≡ y → word ∷ x ≡ word ∷ y
behind_word word x y e = ap (λ (ws : List (List ℕ)). word ∷ ws) e

abbrev okay : Command → Result Command LineError
okay command = Ok command

heard_same : (targets most : ℕ) (words : List (List ℕ)) (made command : Command) → okay made ≡ okay command → Heard targets most words made → Heard targets most words command
heard_same targets most words made command e h = let same : made ≡ command = cc in subst (Heard targets most words) same h

bytes_take : (place : ℕ) (words : List (List ℕ)) (p : List ℕ × List (List ℕ)) → bytes_in place words ≡ Ok p → IsFound 1 1048576 (text_of_bytes p.0) p.0 × (words ≡ text_of_bytes p.0 ∷ p.1)
bytes_take place words p e =
    let f = first_takes (causes.BadBytes place) (bytes_from 1 1048576) words p e in
    let b = from_takes 1 1048576 f.0 p.0 f.2 in
    (record { low = b.low; high = b.high; bytes_are = b.bytes_are; text = refl }, f.1 ∙ ap (λ (w : List ℕ). w ∷ p.1) b.text)

heard_read : (targets most : ℕ) (words : List (List ℕ)) (command : Command) → read_line words ≡ Ok command → Heard targets most (codes "read" ∷ words) command
heard_read targets most words command e =
    through (name_in 2 words) _ command e (λ name is_name e1.
    through (number_in 3 0 268435456 name.1) _ command e1 (λ offset is_offset e2.
    through (number_in 4 1 1048576 offset.1) _ command e2 (λ len is_len e3.
    through (nothing_in 5 len.1) _ command e3 (λ none is_none e4.
    let n = name_takes 2 words name is_name in
    let o = number_takes 3 0 268435456 name.1 offset is_offset in
    let l = number_takes 4 1 1048576 offset.1 len is_len in
    let nil = nothing_takes 5 len.1 none is_none in
    heard_same targets most (codes "read" ∷ words) (commands.Read name.0 offset.0 len.0) command e4
    (behind_word (codes "read") words _ (one_more name.0 words name.1 _ n.0 (one_more (decimal offset.0) name.1 offset.1 _ o.words_are (one_more (decimal len.0) offset.1 len.1 [] l.words_are nil))), (n.1, o.high, (l.low, l.high)))))))

heard_write : (targets most : ℕ) (words : List (List ℕ)) (command : Command) → write_line words ≡ Ok command → Heard targets most (codes "write" ∷ words) command
heard_write targets most words command e =
    through (name_in 2 words) _ command e (λ name is_name e1.
    through (number_in 3 0 (2 ^ 40) name.1) _ command e1 (λ offset is_offset e2.
    through (bytes_in 4 offset.1) _ command e2 (λ bytes are_bytes e3.
    through (nothing_in 5 bytes.1) _ command e3 (λ none is_none e4.
    let n = name_takes 2 words name is_name in
    let o = number_takes 3 0 (2 ^ 40) name.1 offset is_offset in
    let b = bytes_take 4 offset.1 bytes are_bytes in
    let nil = nothing_takes 5 bytes.1 none is_none in
    heard_same targets most (codes "write" ∷ words) (commands.Write name.0 offset.0 bytes.0) command e4
    (behind_word (codes "write") words _ (one_more name.0 words name.1 _ n.0 (one_more (decimal offset.0) name.1 offset.1 _ o.words_are (one_more (text_of_bytes bytes.0) offset.1 bytes.1 [] b.1 nil))), (n.1, o.high, (b.0.low, b.0.high), b.0.bytes_are))))))

heard_truncate : (targets most : ℕ) (words : List (List ℕ)) (command : Command) → truncate_line words ≡ Ok command → Heard targets most (codes "truncate" ∷ words) command
heard_truncate targets most words command e =
    through (name_in 2 words) _ command e (λ name is_name e1.
    through (number_in 3 0 (2 ^ 40) name.1) _ command e1 (λ size is_size e2.
    through (nothing_in 4 size.1) _ command e2 (λ none is_none e3.
    let n = name_takes 2 words name is_name in
    let o = number_takes 3 0 (2 ^ 40) name.1 size is_size in
    let nil = nothing_takes 4 size.1 none is_none in
    heard_same targets most (codes "truncate" ∷ words) (commands.Truncate name.0 size.0) command e3
    (behind_word (codes "truncate") words _ (one_more name.0 words name.1 _ n.0 (one_more (decimal size.0) name.1 size.1 [] o.words_are nil)), (n.1, o.high)))))

heard_evict : (targets most : ℕ) (words : List (List ℕ)) (command : Command) → evict_line words ≡ Ok command → Heard targets most (codes "evict" ∷ words) command
heard_evict targets most words command e =
    through (number_in 2 0 (2 ^ 64 - 1) words) _ command e (λ client is_client e1.
    through (nothing_in 3 client.1) _ command e1 (λ none is_none e2.
    let c = number_takes 2 0 (2 ^ 64 - 1) words client is_client in
    let high = c.high in
    let nil = nothing_takes 3 client.1 none is_none in
    heard_same targets most (codes "evict" ∷ words) (commands.Evict (min client.0 255)) command e2
    (client.0, omega arith, behind_word (codes "evict") words _ (one_more (decimal client.0) words client.1 [] c.words_are nil), refl)))

-- a byte has one word
digit_takes : (c d : ℕ) → hex_digit c ≡ Some d → (d < 16) × (c ≡ digit_glyph false d)
digit_takes c d e = let h : MatchOption (hex_digit c) (Unit {0}) (λ x. (x < 16) × (c ≡ digit_glyph false x)) = hex_is c in rw e at h

byte_of_digits : (a b byte : ℕ) (o p : Option ℕ) → hex_digit a ≡ o → hex_digit b ≡ p → option_and_then (λ h. option_map (λ l. h * 16 + l) p) o ≡ Some byte → (byte < 256) × (a ∷ b ∷ [] ≡ hex byte)
byte_of_digits a b byte None p x y e = absurd cc
byte_of_digits a b byte (Some h) None x y e = absurd cc
byte_of_digits a b byte (Some h) (Some l) x y e =
    let high = digit_takes a h x in
    let low = digit_takes b l y in
    let is : h * 16 + l ≡ byte = cc in
    let top : h ≡ byte / 16 = omega (arith, is, high.0, low.0) in
    let bottom : l ≡ byte % 16 = omega (arith, is, high.0, low.0) in
    (omega (arith, is, high.0, low.0), rw (high.1, low.1, top, bottom) refl)

pub byte_takes : (word : List ℕ) (byte : ℕ) → hex_byte word ≡ Some byte → (byte < 256) × (word ≡ hex byte)
byte_takes [] byte e = absurd cc
byte_takes (a ∷ []) byte e = absurd cc
byte_takes (a ∷ b ∷ c ∷ cs) byte e = absurd cc
byte_takes (a ∷ b ∷ []) byte e = byte_of_digits a b byte (hex_digit a) (hex_digit b) refl refl e

byte_in_takes : (place : ℕ) (words : List (List ℕ)) (p : ℕ × List (List ℕ)) → byte_in place words ≡ Ok p → (p.0 < 256) × (words ≡ hex p.0 ∷ p.1)
byte_in_takes place words p e =
    let f = first_takes (causes.BadBytes place) hex_byte words p e in
    let b = byte_takes f.0 p.0 f.2 in
    (b.0, f.1 ∙ ap (λ (w : List ℕ). w ∷ p.1) b.1)

heard_rot : (targets most : ℕ) (words : List (List ℕ)) (command : Command) → rot_line targets words ≡ Ok command → Heard targets most (codes "rot" ∷ words) command
heard_rot targets most words command e =
    through (object_in 2 targets words) _ command e (λ object is_object e1.
    through (number_in 3 0 268435455 object.1) _ command e1 (λ offset is_offset e2.
    through (byte_in 4 offset.1) _ command e2 (λ byte is_byte e3.
    through (nothing_in 5 byte.1) _ command e3 (λ none is_none e4.
    let t = object_takes 2 targets words object is_object in
    let o = number_takes 3 0 268435455 object.1 offset is_offset in
    let high = o.high in
    let b = byte_in_takes 4 offset.1 byte is_byte in
    let nil = nothing_takes 5 byte.1 none is_none in
    heard_same targets most (codes "rot" ∷ words) (commands.Rot object.0 offset.0 byte.0) command e4 (
      behind_word (codes "rot") words _ (one_more (object_text object.0) words object.1 _ t.words_are (one_more (decimal offset.0) object.1 offset.1 _ o.words_are (one_more (hex byte.0) offset.1 byte.1 [] b.1 nil))),
      ((t.target, t.some, t.few), omega arith, b.0),
    )))))

heard_lfs : (targets most : ℕ) (words : List (List ℕ)) (command : Command) (r : Result LfsCommand Cause) → read_of most words ≡ r → lfs_by r ≡ Ok command → Heard targets most words command
heard_lfs targets most words command (Err cause) r e = absurd cc
heard_lfs targets most words command (Ok said) r e =
    let same : commands.Lfs said ≡ command = cc in
    let spelt = found most words said r in
    subst (Heard targets most words) same (spelt, (words, spelt))

-- what a command's line said
pub heard : (targets most : ℕ) (verb : Verb) (behind : List (List ℕ)) (command : Command) → command_by targets most verb (verb_text verb ∷ behind) behind ≡ Ok command → Heard targets most (verb_text verb ∷ behind) command
heard targets most verbs.Read behind command e = heard_read targets most behind command e
heard targets most verbs.Write behind command e = heard_write targets most behind command e
heard targets most verbs.Truncate behind command e = heard_truncate targets most behind command e
heard targets most verbs.Lfs behind command e = heard_lfs targets most (codes "lfs" ∷ behind) command (read_of most (codes "lfs" ∷ behind)) refl e
heard targets most verbs.Evict behind command e = heard_evict targets most behind command e
heard targets most verbs.Rot behind command e = heard_rot targets most behind command e
