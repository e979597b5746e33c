-- Which option a word is, both ways.
use Rattle.std.proofs.Common.{◌≡◌, ℕ, ◌<◌, Bool, true, false, cond, eqb, List, [], ◌∷◌, ◌++◌, length, drop, Option, Some, None, refl, sym, ap, subst, ◌∙◌, arith}
use Rattle.std.specs.Prelude.{codes, unwrap_or, ◌↔◌}
use Rattle.std.specs.Str.{bytes_eq}
use Rattle.std.proofs.lemmas.Bool.{cond_both, and_parts, eqb-true}
use Rattle.std.proofs.lemmas.Bool.Decides.{Decides-eqb}
use Rattle.std.proofs.lemmas.Slice.Eq.{bytes_eq-Decides, starts_is}
use Rattle.text_words.specs.Names.{is_name}
use Rattle.lfs_values.specs.declared.keys.Key.{Key}
use Rattle.lfs_values.specs.declared.keys.Key.TheVariants.{End, Size, Count, Mirror, Mirrors, Prefer, File, Destroy, Id, CompSet, CompFlags, MirrorId, MirrorIdIs, Only, OnlyIs, Dash, Plain}
use Rattle.lfs_values.specs.Keys.{begins, exact_key, front_key, key_of, value_of, IsOption, IsKey}

-- ---- what spells an option is found

pub key-end : key_of (codes "-E") ≡ End
unfolding key_of exact_key
key-end = refl

pub key-size : key_of (codes "-S") ≡ Size
unfolding key_of exact_key
key-size = refl

pub key-count : key_of (codes "-c") ≡ Count
unfolding key_of exact_key
key-count = refl

pub key-mirror : key_of (codes "-N") ≡ Mirror
unfolding key_of exact_key
key-mirror = refl

pub key-prefer : key_of (codes "--flags=prefer") ≡ Prefer
unfolding key_of exact_key
key-prefer = refl

pub key-file : key_of (codes "-f") ≡ File
unfolding key_of exact_key
key-file = refl

pub key-destroy : key_of (codes "-d") ≡ Destroy
unfolding key_of exact_key
key-destroy = refl

pub key-id : key_of (codes "-I") ≡ Id
unfolding key_of exact_key
key-id = refl

pub key-comp_set : key_of (codes "--comp-set") ≡ CompSet
unfolding key_of exact_key
key-comp_set = refl

pub key-mirror_id : key_of (codes "--mirror-id") ≡ MirrorId
unfolding key_of exact_key
key-mirror_id = refl

pub key-only : key_of (codes "--only") ≡ Only
unfolding key_of exact_key
key-only = refl

pub key-comp_flags : (value : List ℕ) → key_of (codes "--comp-flags=" ++ value) ≡ CompFlags
unfolding key_of exact_key front_key
key-comp_flags value = refl

pub value-comp_flags : (value : List ℕ) → value_of (codes "--comp-flags=" ++ value) CompFlags ≡ value
value-comp_flags value = refl

pub key-mirror_id_is : (value : List ℕ) → key_of (codes "--mirror-id=" ++ value) ≡ MirrorIdIs
unfolding key_of exact_key front_key
key-mirror_id_is value = refl

pub value-mirror_id_is : (value : List ℕ) → value_of (codes "--mirror-id=" ++ value) MirrorIdIs ≡ value
value-mirror_id_is value = refl

pub key-only_is : (value : List ℕ) → key_of (codes "--only=" ++ value) ≡ OnlyIs
unfolding key_of exact_key front_key
key-only_is value = refl

pub value-only_is : (value : List ℕ) → value_of (codes "--only=" ++ value) OnlyIs ≡ value
value-only_is value = refl

pub key-mirrors : (c : ℕ) (cs : List ℕ) → key_of (codes "-N" ++ c ∷ cs) ≡ Mirrors
unfolding key_of exact_key front_key
key-mirrors c cs = refl

pub value-mirrors : (value : List ℕ) → value_of (codes "-N" ++ value) Mirrors ≡ value
value-mirrors value = refl

mirrors_by : (word value : List ℕ) → word ≡ codes "-N" ++ value → 0 < length value → key_of word ≡ Mirrors
mirrors_by word [] e some = absurd (omega arith)
mirrors_by word (c ∷ cs) e some = ap key_of e ∙ key-mirrors c cs

pub option_again : (key : Key) (word : List ℕ) → IsOption key word → key_of word ≡ key
option_again End word h = ap key_of h ∙ key-end
option_again Size word h = ap key_of h ∙ key-size
option_again Count word h = ap key_of h ∙ key-count
option_again Mirror word h = ap key_of h ∙ key-mirror
option_again Prefer word h = ap key_of h ∙ key-prefer
option_again File word h = ap key_of h ∙ key-file
option_again Destroy word h = ap key_of h ∙ key-destroy
option_again Id word h = ap key_of h ∙ key-id
option_again CompSet word h = ap key_of h ∙ key-comp_set
option_again MirrorId word h = ap key_of h ∙ key-mirror_id
option_again Only word h = ap key_of h ∙ key-only
option_again CompFlags word h = ap key_of h ∙ key-comp_flags (value_of word CompFlags)
option_again MirrorIdIs word h = ap key_of h ∙ key-mirror_id_is (value_of word MirrorIdIs)
option_again OnlyIs word h = ap key_of h ∙ key-only_is (value_of word OnlyIs)
option_again Mirrors word h = mirrors_by word (value_of word Mirrors) h.0 h.1
option_again Dash word h = absurd h
option_again Plain word h = absurd h

-- ---- what is found is spelled so

abbrev OnOption : Option Key → List ℕ → Type 0
OnOption None word = Unit {0}
OnOption (Some key) word = IsOption key word

or_else : (b : Bool) (key : Key) (o : Option Key) (word : List ℕ) → (b ≡ true → IsOption key word) → OnOption o word → OnOption (cond b (Some key) o) word
or_else b key o word h k = cond_both b (Some key) o (λ x. OnOption x word) h (λ _. k)

same : (word text : List ℕ) → bytes_eq word text ≡ true → word ≡ text
same word text e = (bytes_eq-Decides word text).0 e

exact_is : (word : List ℕ) → OnOption (exact_key word) word
unfolding exact_key
exact_is word =
    or_else (bytes_eq word (codes "-E")) End _ word (same word (codes "-E"))
    (or_else (bytes_eq word (codes "-S")) Size _ word (same word (codes "-S"))
    (or_else (bytes_eq word (codes "-c")) Count _ word (same word (codes "-c"))
    (or_else (bytes_eq word (codes "-N")) Mirror _ word (same word (codes "-N"))
    (or_else (bytes_eq word (codes "--flags=prefer")) Prefer _ word (same word (codes "--flags=prefer"))
    (or_else (bytes_eq word (codes "-f")) File _ word (same word (codes "-f"))
    (or_else (bytes_eq word (codes "-d")) Destroy _ word (same word (codes "-d"))
    (or_else (bytes_eq word (codes "-I")) Id _ word (same word (codes "-I"))
    (or_else (bytes_eq word (codes "--comp-set")) CompSet _ word (same word (codes "--comp-set"))
    (or_else (bytes_eq word (codes "--mirror-id")) MirrorId _ word (same word (codes "--mirror-id"))
    (or_else (bytes_eq word (codes "--only")) Only _ word (same word (codes "--only"))
    tt))))))))))

exact_mirror : exact_key (codes "-N") ≡ Some Mirror
unfolding exact_key
exact_mirror = refl

-- what is known of a word that begins with - and is no exact option
abbrev Told : Key → List ℕ → Type 0
Told Dash word = begins word (codes "-") ≡ true
Told Plain word = begins word (codes "-") ≡ false
Told key word = IsOption key word

told_else : (b : Bool) (key other : Key) (word : List ℕ) → (b ≡ true → Told key word) → Told other word → Told (cond b key other) word
told_else b key other word h k = cond_both b key other (λ x. Told x word) h (λ _. k)

begun : (word front : List ℕ) → begins word front ≡ true → word ≡ front ++ drop (length front) word
begun word front e = (starts_is Decides-eqb word front (begins word front) refl).0 e

more_than : (word value : List ℕ) → word ≡ codes "-N" ++ value → exact_key word ≡ None → 0 < length value
more_than word [] e none =
    let found : exact_key word ≡ Some Mirror = ap exact_key e ∙ exact_mirror in
    let clash : Some Mirror ≡ None = sym found ∙ none in absurd cc
more_than word (c ∷ cs) e none = omega arith

front_is : (word : List ℕ) → begins word (codes "-") ≡ true → exact_key word ≡ None → Told (front_key word) word
unfolding front_key
front_is word dash none =
    told_else (begins word (codes "-N")) Mirrors _ word (λ e. let h = begun word (codes "-N") e in (h, more_than word (value_of word Mirrors) h none))
    (told_else (begins word (codes "--comp-flags=")) CompFlags _ word (begun word (codes "--comp-flags="))
    (told_else (begins word (codes "--mirror-id=")) MirrorIdIs _ word (begun word (codes "--mirror-id="))
    (told_else (begins word (codes "--only=")) OnlyIs Dash word (begun word (codes "--only="))
    dash)))

told_exact : (word : List ℕ) (key : Key) → IsOption key word → Told key word
told_exact word End h = h
told_exact word Size h = h
told_exact word Count h = h
told_exact word Mirror h = h
told_exact word Mirrors h = h
told_exact word Prefer h = h
told_exact word File h = h
told_exact word Destroy h = h
told_exact word Id h = h
told_exact word CompSet h = h
told_exact word CompFlags h = h
told_exact word MirrorId h = h
told_exact word MirrorIdIs h = h
told_exact word Only h = h
told_exact word OnlyIs h = h
told_exact word Dash h = absurd h
told_exact word Plain h = absurd h

told_by : (word : List ℕ) (o : Option Key) → begins word (codes "-") ≡ true → exact_key word ≡ o → OnOption o word → Told (unwrap_or o (front_key word)) word
told_by word None dash e h = front_is word dash e
told_by word (Some key) dash e h = told_exact word key h

pub key_told : (word : List ℕ) → Told (key_of word) word
unfolding key_of
key_told word = cond_both (begins word (codes "-")) (unwrap_or (exact_key word) (front_key word)) Plain (λ k. Told k word)
    (λ dash. told_by word (exact_key word) dash refl (exact_is word))
    (λ plain. plain)

dash_is : (key : Key) → key ≡ Dash → (word : List ℕ) → IsOption key word → ⊥
dash_is key e word h = let none : IsOption Dash word = subst (λ (k : Key). IsOption k word) e h in none

no_option : (word : List ℕ) (key : Key) → key_of word ≡ Dash → IsOption key word → ⊥
no_option word key is h = dash_is key (sym (option_again key word h) ∙ is) word h

is_by : (word : List ℕ) (key : Key) → key_of word ≡ key → Told key word → IsKey key word
is_by word End e h = h
is_by word Size e h = h
is_by word Count e h = h
is_by word Mirror e h = h
is_by word Mirrors e h = h
is_by word Prefer e h = h
is_by word File e h = h
is_by word Destroy e h = h
is_by word Id e h = h
is_by word CompSet e h = h
is_by word CompFlags e h = h
is_by word MirrorId e h = h
is_by word MirrorIdIs e h = h
is_by word Only e h = h
is_by word OnlyIs e h = h
is_by word Dash e h = (h, λ option. no_option word option e)
is_by word Plain e h = h

-- a word is of the kind that is found
pub key_takes : (word : List ℕ) → IsKey (key_of word) word
key_takes word = is_by word (key_of word) refl (key_told word)

plain_not : (word : List ℕ) → begins word (codes "-") ≡ false → key_of word ≡ Plain
unfolding key_of
plain_not word e = rw e refl

dash_by : (word : List ℕ) (key : Key) → key_of word ≡ key → Told key word → begins word (codes "-") ≡ true → ((option : Key) → IsOption option word → ⊥) → key ≡ Dash
dash_by word Dash e h dash none = refl
dash_by word Plain e h dash none = let clash : false ≡ true = sym h ∙ dash in absurd cc
dash_by word End e h dash none = absurd (none End h)
dash_by word Size e h dash none = absurd (none Size h)
dash_by word Count e h dash none = absurd (none Count h)
dash_by word Mirror e h dash none = absurd (none Mirror h)
dash_by word Mirrors e h dash none = absurd (none Mirrors h)
dash_by word Prefer e h dash none = absurd (none Prefer h)
dash_by word File e h dash none = absurd (none File h)
dash_by word Destroy e h dash none = absurd (none Destroy h)
dash_by word Id e h dash none = absurd (none Id h)
dash_by word CompSet e h dash none = absurd (none CompSet h)
dash_by word CompFlags e h dash none = absurd (none CompFlags h)
dash_by word MirrorId e h dash none = absurd (none MirrorId h)
dash_by word MirrorIdIs e h dash none = absurd (none MirrorIdIs h)
dash_by word Only e h dash none = absurd (none Only h)
dash_by word OnlyIs e h dash none = absurd (none OnlyIs h)

-- and no other
pub key_again : (key : Key) (word : List ℕ) → IsKey key word → key_of word ≡ key
key_again Dash word h = dash_by word (key_of word) refl (key_told word) h.0 h.1
key_again Plain word h = plain_not word h
key_again End word h = option_again End word h
key_again Size word h = option_again Size word h
key_again Count word h = option_again Count word h
key_again Mirror word h = option_again Mirror word h
key_again Mirrors word h = option_again Mirrors word h
key_again Prefer word h = option_again Prefer word h
key_again File word h = option_again File word h
key_again Destroy word h = option_again Destroy word h
key_again Id word h = option_again Id word h
key_again CompSet word h = option_again CompSet word h
key_again CompFlags word h = option_again CompFlags word h
key_again MirrorId word h = option_again MirrorId word h
key_again MirrorIdIs word h = option_again MirrorIdIs word h
key_again Only word h = option_again Only word h
key_again OnlyIs word h = option_again OnlyIs word h

pub key_spelled : (word : List ℕ) (key : Key) → ((key_of word ≡ key) ↔ IsKey key word)
key_spelled word key = (λ e. subst (λ (k : Key). IsKey k word) e (key_takes word), key_again key word)

-- a name is no option
pub key-name : (word : List ℕ) → is_name word ≡ true → key_of word ≡ Plain
unfolding is_name
key-name [] e = absurd cc
key-name (c ∷ cs) e =
    let p = and_parts (eqb c 47) _ e in
    let slash : c ≡ 47 = eqb-true c 47 p.0 in
    plain_not (c ∷ cs) (ap (λ (b : ℕ). begins (b ∷ cs) (codes "-")) slash)
