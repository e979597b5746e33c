-- The items of lists: objects, failed calls, and components that were left.
use Rattle.std.specs.Prelude.{ℕ, ◌^◌, ◌-◌, ◌<◌, List, ◌∷◌, ◌++◌, Option, option_and_then}
use Rattle.std.specs.Option.{option_map}
use Rattle.std.specs.Fmt.{decimal}
use Rattle.flr_base.specs.declared.reply.ObjectId.{ObjectId}
use Rattle.flr_base.specs.declared.reply.FailedCall.{FailedCall}
use Rattle.flr_base.specs.declared.reply.Left.{Left}
use Rattle.text_words.specs.Cuts.{cut_of}
use Rattle.text_words.specs.Numbers.{number_from}

-- two numbers with a dot between them
abbrev pub two_text : ℕ → ℕ → List ℕ
two_text target number = decimal target ++ 46 ∷ decimal number

-- the target below 256 and the number below 2^32 that a word spells
unfoldable pub two_of : List ℕ → Option (ℕ × ℕ)
two_of word = option_and_then (λ parts. option_and_then (λ target. option_map (λ number. (target, number)) (number_from 0 (2 ^ 32 - 1) parts.1)) (number_from 0 255 parts.0)) (cut_of 46 word)

abbrev pub object_text : ObjectId → List ℕ
object_text object = two_text object.target object.number

abbrev pub object_of : List ℕ → Option ObjectId
object_of word = option_map (λ two. record { target = two.0; number = two.1 }) (two_of word)

-- the numbers that an object may have
abbrev pub IsObjectItem : ObjectId → Type 0
IsObjectItem object = (object.target < 2 ^ 8) × (object.number < 2 ^ 32)

abbrev pub call_text : FailedCall → List ℕ
call_text failed = two_text failed.target failed.call

abbrev pub call_of : List ℕ → Option FailedCall
call_of word = option_map (λ two. record { target = two.0; call = two.1 }) (two_of word)

-- the numbers that a failed call may have
abbrev pub IsCallItem : FailedCall → Type 0
IsCallItem failed = (failed.target < 2 ^ 8) × (failed.call < 2 ^ 32)

abbrev pub left_text : Left → List ℕ
left_text left = decimal left.component ++ 64 ∷ call_text left.call

abbrev pub left_of : List ℕ → Option Left
left_of word = option_and_then (λ parts. option_and_then (λ component. option_map (λ failed. record { component = component; call = failed }) (call_of parts.1)) (number_from 0 (2 ^ 32 - 1) parts.0)) (cut_of 64 word)

-- the numbers that a component that was left may have
abbrev pub IsLeftItem : Left → Type 0
IsLeftItem left = (left.component < 2 ^ 32) × IsCallItem left.call
