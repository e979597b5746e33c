-- Which option a word is.
use Rattle.std.specs.Prelude.{◌≡◌, ℕ, ◌<◌, true, false, List, ◌++◌, length, drop, nat_eq, if◌then◌else◌, Bool, Option, Some, None, unwrap_or, codes}
use Rattle.std.specs.List.{starts_with}
use Rattle.std.specs.Str.{bytes_eq}
use Rattle.lfs_values.specs.declared.keys.Key.{Key}
use Rattle.lfs_values.specs.declared.keys.Key.TheVariants.{End, Size, Count, Mirror, Mirrors, Prefer, File, Destroy, Id, CompSet, CompFlags, MirrorId, MirrorIdIs, Only, OnlyIs, Dash, Plain}

-- the word begins with this text
abbrev pub begins : List ℕ → List ℕ → Bool
begins word front = starts_with nat_eq word front

-- the option whose name is the whole word
unfoldable pub exact_key : List ℕ → Option Key
exact_key word =
    if bytes_eq word (codes "-E") then Some End else
    (if bytes_eq word (codes "-S") then Some Size else
    (if bytes_eq word (codes "-c") then Some Count else
    (if bytes_eq word (codes "-N") then Some Mirror else
    (if bytes_eq word (codes "--flags=prefer") then Some Prefer else
    (if bytes_eq word (codes "-f") then Some File else
    (if bytes_eq word (codes "-d") then Some Destroy else
    (if bytes_eq word (codes "-I") then Some Id else
    (if bytes_eq word (codes "--comp-set") then Some CompSet else
    (if bytes_eq word (codes "--mirror-id") then Some MirrorId else
    (if bytes_eq word (codes "--only") then Some Only else None))))))))))

-- the option whose name the word begins with
unfoldable pub front_key : List ℕ → Key
front_key word =
    if begins word (codes "-N") then Mirrors else
    (if begins word (codes "--comp-flags=") then CompFlags else
    (if begins word (codes "--mirror-id=") then MirrorIdIs else
    (if begins word (codes "--only=") then OnlyIs else Dash)))

-- which option a word is
unfoldable pub key_of : List ℕ → Key
key_of word = if begins word (codes "-") then unwrap_or (exact_key word) (front_key word) else Plain

-- what stands before the value in one word with it
abbrev pub front_of : Key → List ℕ
front_of Mirrors = codes "-N"
front_of CompFlags = codes "--comp-flags="
front_of MirrorIdIs = codes "--mirror-id="
front_of OnlyIs = codes "--only="
front_of _ = codes ""

-- the value that stands in one word with the option's name, and else the whole word
abbrev pub value_of : List ℕ → Key → List ℕ
value_of word key = drop (length (front_of key)) word

-- the word is an option with its value
abbrev pub HasFront : Key → List ℕ → Type 0
HasFront key word = word ≡ front_of key ++ value_of word key

-- the word spells this option
abbrev pub IsOption : Key → List ℕ → Type 0
IsOption End word = word ≡ codes "-E"
IsOption Size word = word ≡ codes "-S"
IsOption Count word = word ≡ codes "-c"
IsOption Mirror word = word ≡ codes "-N"
IsOption Mirrors word = HasFront Mirrors word × (0 < length (value_of word Mirrors))
IsOption Prefer word = word ≡ codes "--flags=prefer"
IsOption File word = word ≡ codes "-f"
IsOption Destroy word = word ≡ codes "-d"
IsOption Id word = word ≡ codes "-I"
IsOption CompSet word = word ≡ codes "--comp-set"
IsOption CompFlags word = HasFront CompFlags word
IsOption MirrorId word = word ≡ codes "--mirror-id"
IsOption MirrorIdIs word = HasFront MirrorIdIs word
IsOption Only word = word ≡ codes "--only"
IsOption OnlyIs word = HasFront OnlyIs word
IsOption Dash word = ⊥
IsOption Plain word = ⊥

-- the word is this option, or begins with - and is none, or doesn't begin so
abbrev pub IsKey : Key → List ℕ → Type 0
IsKey Dash word = (begins word (codes "-") ≡ true) × ((option : Key) → IsOption option word → ⊥)
IsKey Plain word = begins word (codes "-") ≡ false
IsKey key word = IsOption key word
