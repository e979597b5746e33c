-- What the words behind options mean.
use Rattle.std.specs.Prelude.{◌≡◌, ℕ, ℤ, pos, negsuc, ◌^◌, ◌≤◌, List, length, ◌==◌, nat_le, if◌then◌else◌, Option, Some, None, option_and_then, codes, ◌⊎◌}
use Rattle.std.specs.Option.{option_map}
use Rattle.std.specs.Str.{bytes_eq}
use Rattle.std.specs.Fmt.{decimal}
use Rattle.text_words.specs.Numbers.{number_from}
use Rattle.text_words.specs.Sizes.{size_of}

-- the value, where it is at most this
abbrev pub at_most : ℕ → ℕ → Option ℕ
at_most most n = if nat_le n most then Some n else None

-- the stripe size that a word spells: at most 1 GiB
unfoldable pub stripe_size_of : List ℕ → Option ℕ
stripe_size_of word = option_and_then (at_most (2 ^ 30)) (size_of word)

-- the number of stripes that a word spells, -1 for all targets
unfoldable pub stripe_count_of : List ℕ → Option ℤ
stripe_count_of word = if bytes_eq word (codes "-1") then Some (negsuc 0) else option_map (λ n. pos n) (number_from 0 65535 word)

-- a number of stripes that a word may spell: from 0 to 65535, or -1
abbrev pub IsStripeCount : ℤ → Type 0
IsStripeCount (pos n) = n ≤ 65535
IsStripeCount (negsuc n) = n ≡ 0

-- how often a mirror is to be made, by what stands behind -N
unfoldable pub mirror_count_of : ℕ → List ℕ → Option ℕ
mirror_count_of most word = if length word == 0 then Some 1 else number_from 1 most word

-- nothing stands for 1, and a number from 1 to the most for itself
abbrev pub IsMirrorCount : ℕ → List ℕ → ℕ → Type 0
IsMirrorCount most word n = ((n ≡ 1) × (length word ≡ 0)) ⊎ ((1 ≤ n) × (n ≤ most) × (word ≡ decimal n))
