-- The pages of an object, as the bytes that they hold.
use Rattle.std.specs.Prelude.{◌≡◌, ℕ, ◌+◌, ◌/◌, ◌%◌, ◌≤◌, List, length, map, slice_index, Option, None, Some, Vec}
use Rattle.std.specs.declared.alloc.Global.{Global}
use Rattle.std.specs.BTreeMap.{BTreeMap, get}
use Rattle.std.specs.List.{range_with_len}
use Rattle.std.specs.Ordering.{nat_cmp}

-- the pages by number
abbrev pub Pages : Type 0
Pages = BTreeMap ℕ (Vec ℕ Global)

-- the byte at a place of a page; a page that isn't there is zeros
abbrev pub page_byte : Option (Vec ℕ Global) → ℕ → ℕ
page_byte None i = 0
page_byte (Some page) i = slice_index page.items i

-- the byte at an offset
abbrev pub byte_at : Pages → ℕ → ℕ
byte_at pages x = page_byte (get nat_cmp pages (x / 4096)) (x % 4096)

-- the bytes up to a length
abbrev pub bytes_of : Pages → ℕ → List ℕ
bytes_of pages len = map (byte_at pages) (range_with_len 0 len)

-- how many bytes a page has; one that isn't there counts as whole
abbrev pub page_len : Option (Vec ℕ Global) → ℕ
page_len None = 4096
page_len (Some page) = length page.items

-- each page has 4096 bytes
abbrev pub AreFull : Pages → Type 0
AreFull pages = (q : ℕ) → page_len (get nat_cmp pages q) ≡ 4096

-- each page is full, and the bytes from the length on are zeros
pub record AreKept (pages : Pages) (len : ℕ) : Type 0 where
  pub full : AreFull pages
  pub zeros : (x : ℕ) → len ≤ x → byte_at pages x ≡ 0

-- where bytes from an offset on fall on a page that isn't there, they are zeros
abbrev pub HasRoom : Pages → ℕ → List ℕ → Type 0
HasRoom pages offset bytes =
    (k : ℕ) → get nat_cmp pages ((offset + k) / 4096) ≡ None → slice_index bytes k ≡ 0
