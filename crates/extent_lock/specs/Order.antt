-- Which of several locks is named: lowest start, then lowest client, then lowest end.
use Rattle.std.specs.Prelude.{◌≡◌, Bool, false, ◌&&◌, ◌||◌, ◌==◌, nat_lt, if◌then◌else◌, Option, Some, None, List, [], ◌∷◌, Contains}
use Rattle.std.specs.Option.{option_map_or}
use Rattle.extent_lock.specs.declared.lock.Lock.{Lock}

-- a lower start, else a lower client, else a lower end
abbrev pub is_before : Lock → Lock → Bool
is_before a b =
    nat_lt a.range.start b.range.start || ((a.range.start == b.range.start) && (nat_lt a.holder b.holder || ((a.holder == b.holder) && nat_lt a.range.end b.range.end)))

-- the first lock, or the second where that stands before it
abbrev pub first_of_two : Lock → Lock → Lock
first_of_two a b = if is_before b a then b else a

-- the first of these locks in that order
abbrev pub first_of : List Lock → Option Lock
first_of [] = None
first_of (lock ∷ locks) = Some (option_map_or (first_of_two lock) (first_of locks) lock)

-- the first of the locks so far, if any, and one that comes later in the list
abbrev pub with_later : Option Lock → Lock → Lock
with_later first later = option_map_or (λ found. first_of_two found later) first later

-- among the locks of this kind in the list it is one before which none stands
pub record StandsFirst (locks : List Lock) (Kind : Lock → Type 0) (lock : Lock) : Type 0 where
  pub held : Contains locks lock
  pub kind : Kind lock
  pub first : (other : Lock) → Contains locks other → Kind other → is_before other lock ≡ false
