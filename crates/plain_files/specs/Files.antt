-- Plain files: what a user of files knows of them, without mirrors, targets or locks.
use Rattle.std.specs.Prelude.{◌≡◌, ◌↔◌, ℕ, ◌+◌, ◌-◌, ◌≤◌, ◌<◌, max, Bool, true, ◌&&◌, nat_eq, nat_le, nat_lt, List, [], ◌∷◌, length, map, if◌then◌else◌, Option, None, Some, get_or}
use Rattle.std.specs.List.{range_with_len, list_any, slice_index_or}
use Rattle.std.specs.Str.{bytes_eq}
use Rattle.flr_base.specs.Bytes.{overlay}
use Rattle.flr_base.specs.declared.reply.Range.{Range}
use Rattle.flr_base.specs.declared.reply.Stripe.{Stripe}
use Rattle.stripe_map.specs.Places.{place_of}

-- a file is a name and a list of bytes
pub record Plain : Type 0 where
  pub name : List ℕ
  pub bytes : List ℕ

-- a store is a list of files in order of creation; it begins empty

-- the place of the first file of a name, where the first of the list has the place n
abbrev pub plain_from : ℕ → List ℕ → List Plain → Option ℕ
plain_from n name [] = None
plain_from n name (file ∷ store) = if bytes_eq file.name name then Some n else plain_from (n + 1) name store

-- the place of the file of a name
abbrev pub plain_of : List ℕ → List Plain → Option ℕ
plain_of name store = plain_from 0 name store

-- the file is present
abbrev pub IsPresent : List Plain → List ℕ → Type 0
IsPresent store name = (place : ℕ) × (plain_of name store ≡ Some place)

-- the file is absent
abbrev pub IsAbsent : List Plain → List ℕ → Type 0
IsAbsent store name = plain_of name store ≡ None

abbrev pub plain_at : List Plain → ℕ → Plain
plain_at store place = slice_index_or store place (record { name = []; bytes = [] })

-- the bytes of the file at a place, none where there is no file
abbrev pub bytes_at : List Plain → Option ℕ → List ℕ
bytes_at store (Some place) = (plain_at store place).bytes
bytes_at store None = []

-- the bytes of the file of a name
abbrev pub bytes_of : List Plain → List ℕ → List ℕ
bytes_of store name = bytes_at store (plain_of name store)

-- the two lists are the same but for zeros at their ends
abbrev pub AreSameBytes : List ℕ → List ℕ → Type 0
AreSameBytes a b = (x : ℕ) → get_or a x 0 ≡ get_or b x 0

-- ---- writes and truncates that got only so far

-- a range of a write that was sent, and whether its bytes are the new ones
pub record SentRange : Type 0 where
  pub range : Range
  pub is_new : Bool

-- one stripe of a component that a truncate punched, and whether its bytes are gone
pub record SentTail : Type 0 where
  pub extent : Range
  pub stripe : Stripe
  pub index : ℕ
  pub is_new : Bool

-- what of a writing call was sent: ranges of a write, or stripes of a truncate
pub data Sent : Type 0 where
  Ranges : (ranges : List SentRange) → Sent
  Tails : (tails : List SentTail) → Sent

-- whether a byte lies in a range
abbrev pub is_in : ℕ → Range → Bool
is_in x range = nat_le range.start x && nat_lt x range.end

-- whether a byte lies in a range that is marked new
abbrev pub is_written : List SentRange → ℕ → Bool
is_written ranges x = list_any (λ (r : SentRange). r.is_new && is_in x r.range) ranges

-- whether the stripe has this byte of its component
abbrev pub is_of_stripe : ℕ → SentTail → Bool
is_of_stripe x t = is_in x t.extent && nat_eq (place_of x t.stripe).index t.index

-- whether a byte lies in a stripe that is marked new
abbrev pub is_punched : List SentTail → ℕ → Bool
is_punched tails x = list_any (λ (t : SentTail). t.is_new && is_of_stripe x t) tails

-- the end of the last range, 0 where there is none
abbrev pub end_of : List SentRange → ℕ
end_of [] = 0
end_of (r ∷ []) = r.range.end
end_of (r ∷ rest) = end_of rest

-- the list of the bytes that a function gives, so many
abbrev pub made_by : ℕ → (ℕ → ℕ) → List ℕ
made_by len byte = map byte (range_with_len 0 len)

-- a write of these bytes from the offset on that got only so far: it reaches to the end of the last range that was sent, and has its bytes where they are marked new
abbrev pub land : List ℕ → ℕ → List ℕ → List SentRange → List ℕ
land old offset bytes ranges =
    made_by (max (length old) (end_of ranges)) (λ x. if is_written ranges x then get_or bytes (x - offset) 0 else get_or old x 0)

-- the first bytes, so many, with zeros behind them where there are fewer
abbrev pub fit : List ℕ → ℕ → List ℕ
fit old size = made_by size (λ x. get_or old x 0)

-- a truncate to this size that got only so far: the bytes from there on are gone where they are marked new
abbrev pub wipe : List ℕ → ℕ → List SentTail → List ℕ
wipe old size tails = made_by (length old) (λ x. if nat_le size x && is_punched tails x then 0 else get_or old x 0)

-- a write all of whose ranges are marked new, and which ends with the last of them, has all its bytes
abbrev pub LandsWhole : Type 0
LandsWhole =
    (old : List ℕ) (offset : ℕ) (bytes : List ℕ) (ranges : List SentRange) →
    end_of ranges ≡ offset + length bytes → ((x : ℕ) → (is_written ranges x ≡ true) ↔ ((offset ≤ x) × (x < offset + length bytes))) →
    land old offset bytes ranges ≡ overlay old offset bytes

-- a file that is given the size that it has stays as it is
abbrev pub FitsItself : Type 0
FitsItself = (old : List ℕ) → fit old (length old) ≡ old
