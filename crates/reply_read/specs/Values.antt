-- What single words of an answer say.
use Rattle.std.specs.Prelude.{ℕ, ◌+◌, Bool, true, ◌&&◌, nat_lt, nat_le, if◌then◌else◌, List, [], ◌∷◌, map, Option, Some, None, option_and_then, codes}
use Rattle.std.specs.Option.{option_map}
use Rattle.std.specs.List.{list_all}
use Rattle.std.specs.Str.{bytes_eq}
use Rattle.flr_base.specs.declared.reply.FailedCall.{FailedCall}
use Rattle.flr_base.specs.declared.reply.Left.{Left}
use Rattle.flr_base.specs.declared.reply.ObjectId.{ObjectId}
use Rattle.flr_base.specs.declared.reply.TakeFrom.{TakeFrom}
use Rattle.flr_base.specs.declared.reply.TakeFrom.TheVariants.{Hole, Object}
use Rattle.text_words.specs.Cuts.{cut_of}
use Rattle.text_words.specs.Items.{call_of, left_of, object_of}
use Rattle.text_words.specs.Lists.{list_of}
use Rattle.text_words.specs.Names.{is_name_to}
use Rattle.text_words.specs.Numbers.{number_from}
use Rattle.script_values.specs.RunWords.{bytes_from}

-- the value, where the test passes
abbrev pub where_true : {A : Type 0} → (A → Bool) → Option A → Option A
where_true test o = option_and_then (λ x. if test x then Some x else None) o

-- ---- numbers

unfoldable pub number_16 : List ℕ → Option ℕ
number_16 word = number_from 0 65535 word

unfoldable pub number_32 : List ℕ → Option ℕ
number_32 word = number_from 0 4294967295 word

unfoldable pub number_64 : List ℕ → Option ℕ
number_64 word = number_from 0 18446744073709551615 word

-- clients are 1 to 16
unfoldable pub client_in : List ℕ → Option ℕ
client_in word = number_from 1 16 word

-- an end is a number of bytes, or EOF
unfoldable pub end_in : List ℕ → Option ℕ
end_in word = if bytes_eq word (codes "EOF") then Some 18446744073709551615 else number_from 0 18446744073709551614 word

-- ---- names, bytes, failed calls, objects

-- a name of at most so many bytes
unfoldable pub name_in : ℕ → List ℕ → Option (List ℕ)
name_in most word = if is_name_to most word then Some word else None

-- fewer than 2^32 bytes by runs
abbrev pub bytes_in : List ℕ → Option (List ℕ)
bytes_in word = bytes_from 0 4294967295 word

-- there are at most 64 targets
abbrev pub is_call : FailedCall → Bool
is_call failed = nat_lt failed.target 64

unfoldable pub call_in : List ℕ → Option FailedCall
call_in word = where_true is_call (call_of word)

unfoldable pub object_in : List ℕ → Option ObjectId
object_in word = where_true (λ object. nat_lt object.target 64) (object_of word)

-- ---- lists

-- each number is above the one before, and the first is at least this
abbrev pub ascend : ℕ → List ℕ → Bool
ascend least [] = true
ascend least (n ∷ ns) = nat_le least n && ascend (n + 1) ns

unfoldable pub ids_in : List ℕ → Option (List ℕ)
ids_in word = where_true (ascend 0) (list_of (number_from 0 4294967295) word)

abbrev pub is_left : Left → Bool
is_left left = is_call left.call

-- the components ascend, and each was left for a call of one of 64 targets
abbrev pub are_lefts : List Left → Bool
are_lefts lefts = ascend 0 (map (λ left. left.component) lefts) && list_all is_left lefts

unfoldable pub lefts_in : List ℕ → Option (List Left)
lefts_in word = where_true are_lefts (list_of left_of word)

unfoldable pub calls_in : List ℕ → Option (List FailedCall)
calls_in word = where_true (list_all is_call) (list_of call_of word)

-- ---- where bytes came from

unfoldable pub from_parts : List ℕ → Option TakeFrom
from_parts word = option_and_then (λ parts. option_and_then (λ object. option_map (λ call. Object object call) (number_32 parts.1)) (object_in parts.0)) (cut_of 64 word)

unfoldable pub from_in : List ℕ → Option TakeFrom
from_in word = if bytes_eq word (codes "hole") then Some Hole else from_parts word
