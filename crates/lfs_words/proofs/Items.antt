-- Options as they stand, and the states that their words lead to.
use Rattle.std.proofs.Common.{◌≡◌, ℕ, true, false, cond, List, [], ◌∷◌, ◌++◌, Result, Ok, Err, Option, Some, None, refl, sym, ap, ◌∙◌, append_assoc}
use Rattle.std.specs.Prelude.{codes, option_and_then}
use Rattle.std.specs.List.{flat_map}
use Rattle.std.proofs.lemmas.List.Concat.{flat_map-cons}
use Rattle.text_words.specs.Names.{is_name}
use Rattle.text_words.specs.Numbers.{number_of, number_from}
use Rattle.flr_base.proofs.Machine.{run}
use Rattle.flr_base.proofs.Reader.{ok_of, ok_step}
use Rattle.lfs_values.specs.declared.cause.Fault.{Fault}
use Rattle.lfs_values.specs.declared.cause.Fault.TheVariants as faults
use Rattle.lfs_values.specs.declared.keys.Key.{Key}
use Rattle.lfs_values.specs.declared.keys.Key.TheVariants as keys
use Rattle.lfs_values.specs.Keys.{key_of, value_of, IsOption}
use Rattle.lfs_values.proofs.KeyLaws.{key-end, key-size, key-count, key-mirror, key-mirrors, key-prefer, key-file, key-destroy, key-id, key-comp_set, key-comp_flags, key-mirror_id, key-mirror_id_is, key-only, key-only_is, key-name}
use Rattle.lfs_words.specs.declared.asked.MirrorAsk.{MirrorAsk}
use Rattle.lfs_words.specs.declared.asked.OpenMirror.{OpenMirror}
use Rattle.lfs_words.specs.declared.asked.Mirrors.{Mirrors}
use Rattle.lfs_words.specs.declared.asked.Asked.{Asked}
use Rattle.lfs_words.specs.declared.asked.Asked.TheVariants as asks
use Rattle.lfs_words.specs.declared.step.State.{State}
use Rattle.lfs_words.specs.declared.step.State.TheVariants as state
use Rattle.lfs_words.specs.Parts.{◌>>=◌, number_or}
use Rattle.lfs_words.specs.Options.{may_open, may_last, may_stand, next_mirror, take, take_last_of, take_mirrors, take_value, is_apart, is_complete}
use Rattle.lfs_words.specs.Reading.{given, opened, option, word_by, step}
use Rattle.lfs_words.specs.Grammar.{Item, option_words, item_words, with_item, with_items}
use Rattle.lfs_words.proofs.Binding.{bound}

-- ---- options one behind the other

pub items_more : (most : ℕ) (a b next : Asked) (items : List Item) (more : List Item) → with_items most a items ≡ Ok b → with_items most b more ≡ Ok next → with_items most a (items ++ more) ≡ Ok next
items_more most a b next [] more h k = let same : a ≡ b = cc in ap (λ x. with_items most x more) same ∙ k
items_more most a b next (i ∷ items) more h k =
    let found = bound (with_item most a i) (λ x. with_items most x items) b h in
    ap (λ r. r >>= λ x. with_items most x (items ++ more)) found.first ∙ items_more most found.found b next items more found.then k

pub one_item : (most : ℕ) (a next : Asked) (k : Key) (value : List ℕ) → may_stand a k ≡ Ok tt → take most a k value ≡ Ok next → with_items most a (record { key = k; value = value } ∷ []) ≡ Ok next
one_item most a next k value may taken =
    ap (λ r. (r >>= λ _. take most a k value) >>= λ x. Ok x) may ∙ ap (λ r. r >>= λ x. Ok x) taken

-- ---- a word that is an option

abbrev pub IsNoFile : Key → Type 0
IsNoFile keys.Plain = ⊥
IsNoFile k = Unit {0}

pub no_file : (most : ℕ) (a : Asked) (word : List ℕ) (k : Key) → IsNoFile k → word_by most a word k ≡ option most a k word
no_file most a word keys.Plain h = absurd h
no_file most a word keys.End h = refl
no_file most a word k h = refl

word_is : (most : ℕ) (a : Asked) (word : List ℕ) (k : Key) → key_of word ≡ k → IsNoFile k → may_stand a k ≡ Ok tt → step most (state.Options a) word ≡ opened most a k word
word_is most a word k is h may = ap (word_by most a word) is ∙ no_file most a word k h ∙ ap (λ r. r >>= λ _. opened most a k word) may

-- the option's value is the next word
pub opens : (most : ℕ) (a : Asked) (word : List ℕ) (k : Key) → key_of word ≡ k → IsNoFile k → may_stand a k ≡ Ok tt → is_apart k ≡ true → step most (state.Options a) word ≡ Ok (state.Value a k)
opens most a word k is h may apart = word_is most a word k is h may ∙ ap (λ b. cond b (Ok (state.Value a k)) (given most a k (value_of word k))) apart

-- the option is this word alone
pub joins : (most : ℕ) (a next : Asked) (word value : List ℕ) (k : Key) → key_of word ≡ k → IsNoFile k → may_stand a k ≡ Ok tt → is_apart k ≡ false → take most a k (value_of word k) ≡ Ok next → step most (state.Options a) word ≡ Ok (state.Options next)
joins most a next word value k is h may apart taken =
    word_is most a word k is h may ∙ ap (λ b. cond b (Ok (state.Value a k)) (given most a k (value_of word k))) apart ∙ ap (λ r. r >>= λ x. Ok (state.Options x)) taken

pub one : (most : ℕ) (s t : State) (word : List ℕ) (words : List (List ℕ)) → step most s word ≡ Ok t → run (ok_step (step most)) s (word ∷ words) ≡ run (ok_step (step most)) t words
one most s t word words e = ap (λ (r : Result State Fault). option_and_then (λ u. run (ok_step (step most)) u words) (ok_of r)) e

apart_reads : (most : ℕ) (a next : Asked) (k : Key) (word value : List ℕ) (rest : List (List ℕ)) → key_of word ≡ k → IsNoFile k → is_apart k ≡ true → may_stand a k ≡ Ok tt → take most a k value ≡ Ok next
    → run (ok_step (step most)) (state.Options a) (word ∷ value ∷ rest) ≡ run (ok_step (step most)) (state.Options next) rest
apart_reads most a next k word value rest is h apart may taken =
    one most (state.Options a) (state.Value a k) word (value ∷ rest) (opens most a word k is h may apart)
    ∙ one most (state.Value a k) (state.Options next) value rest (ap (λ r. r >>= λ x. Ok (state.Options x)) taken)

alone_reads : (most : ℕ) (a next : Asked) (k : Key) (word : List ℕ) (rest : List (List ℕ)) → key_of word ≡ k → IsNoFile k → is_apart k ≡ false → may_stand a k ≡ Ok tt → take most a k (value_of word k) ≡ Ok next
    → run (ok_step (step most)) (state.Options a) (word ∷ rest) ≡ run (ok_step (step most)) (state.Options next) rest
alone_reads most a next k word rest is h apart may taken = one most (state.Options a) (state.Options next) word rest (joins most a next word [] k is h may apart taken)

-- a part has no such option
no_last : (last : Option OpenMirror) (k : Key) → ((m : OpenMirror) → may_open m k ≡ Err faults.UnknownWord) → may_last last k ≡ Ok tt → ⊥
no_last None k h may = cc
no_last (Some m) k h may = let none : may_open m k ≡ Err faults.UnknownWord = h m in cc

same_mirror : (most : ℕ) (a : Asked) (v w : List ℕ) → may_stand a keys.Mirror ≡ Ok tt → take_value most a keys.Mirror v ≡ take_value most a keys.Mirror w
same_mirror most (asks.Create ms) v w may = refl
same_mirror most (asks.Extend ms) v w may = refl
same_mirror most (asks.ExtendBy mirror victim) v w may = refl
same_mirror most a v w may = absurd cc

same_last : (done : List MirrorAsk) (last : Option OpenMirror) (v w : List ℕ) → take_last_of done last keys.Prefer v ≡ take_last_of done last keys.Prefer w
same_last done None v w = refl
same_last done (Some m) v w = refl

same_prefer : (most : ℕ) (a : Asked) (v w : List ℕ) → may_stand a keys.Prefer ≡ Ok tt → take_value most a keys.Prefer v ≡ take_value most a keys.Prefer w
same_prefer most (asks.Create ms) v w may = ap (λ r. r >>= λ next. Ok (asks.Create next)) (same_last ms.done ms.last v w)
same_prefer most (asks.Extend ms) v w may = ap (λ r. r >>= λ next. Ok (asks.Extend next)) (same_last ms.done ms.last v w)
same_prefer most a v w may = absurd cc

same_destroy : (most : ℕ) (a : Asked) (v w : List ℕ) → may_stand a keys.Destroy ≡ Ok tt → take_value most a keys.Destroy v ≡ take_value most a keys.Destroy w
same_destroy most (asks.Split mirror to) v w may = refl
same_destroy most (asks.Create ms) v w may = absurd (no_last ms.last keys.Destroy (λ d. refl) may)
same_destroy most (asks.Extend ms) v w may = absurd (no_last ms.last keys.Destroy (λ d. refl) may)
same_destroy most a v w may = absurd cc

same_comp_set : (most : ℕ) (a : Asked) (v w : List ℕ) → may_stand a keys.CompSet ≡ Ok tt → take_value most a keys.CompSet v ≡ take_value most a keys.CompSet w
same_comp_set most (asks.SetStripe d) v w may = refl
same_comp_set most (asks.CompSet c) v w may = refl
same_comp_set most (asks.Create ms) v w may = absurd (no_last ms.last keys.CompSet (λ d. refl) may)
same_comp_set most (asks.Extend ms) v w may = absurd (no_last ms.last keys.CompSet (λ d. refl) may)
same_comp_set most a v w may = absurd cc

pub never_dash : (a : Asked) → may_stand a keys.Dash ≡ Ok tt → ⊥
never_dash (asks.Create ms) may = no_last ms.last keys.Dash (λ d. refl) may
never_dash (asks.Extend ms) may = no_last ms.last keys.Dash (λ d. refl) may
never_dash a may = cc

pub never_plain : (a : Asked) → may_stand a keys.Plain ≡ Ok tt → ⊥
never_plain (asks.Create ms) may = no_last ms.last keys.Plain (λ d. refl) may
never_plain (asks.Extend ms) may = no_last ms.last keys.Plain (λ d. refl) may
never_plain a may = cc

no_number : (most : ℕ) → number_from 1 most [] ≡ None
unfolding number_from number_of
no_number most = refl

no_count_at : (most : ℕ) (ms next : Mirrors) → take_mirrors most ms keys.Mirrors [] ≡ Ok next → ⊥
no_count_at most ms next e =
    let none : take_mirrors most ms keys.Mirrors [] ≡ Err faults.BadNumber = ap (λ o. number_or o >>= λ count. Ok (next_mirror ms (Some count))) (no_number most) in
    cc

no_count : (most : ℕ) (a next : Asked) → may_stand a keys.Mirrors ≡ Ok tt → take most a keys.Mirrors [] ≡ Ok next → ⊥
no_count most (asks.Create ms) next may e = let found = bound (take_mirrors most ms keys.Mirrors []) (λ x. Ok (asks.Create x)) next e in no_count_at most ms found.found found.first
no_count most (asks.Extend ms) next may e = let found = bound (take_mirrors most ms keys.Mirrors []) (λ x. Ok (asks.Extend x)) next e in no_count_at most ms found.found found.first
no_count most a next may e = cc

-- an option's words lead on to what it makes of what is asked for
item_reads : (most : ℕ) (a next : Asked) (k : Key) (v : List ℕ) (rest : List (List ℕ)) → may_stand a k ≡ Ok tt → take most a k v ≡ Ok next
    → run (ok_step (step most)) (state.Options a) (option_words k v ++ rest) ≡ run (ok_step (step most)) (state.Options next) rest
item_reads most a next keys.End v rest may e = apart_reads most a next keys.End (codes "-E") v rest key-end tt refl may e
item_reads most a next keys.Size v rest may e = apart_reads most a next keys.Size (codes "-S") v rest key-size tt refl may e
item_reads most a next keys.Count v rest may e = apart_reads most a next keys.Count (codes "-c") v rest key-count tt refl may e
item_reads most a next keys.File v rest may e = apart_reads most a next keys.File (codes "-f") v rest key-file tt refl may e
item_reads most a next keys.Id v rest may e = apart_reads most a next keys.Id (codes "-I") v rest key-id tt refl may e
item_reads most a next keys.MirrorId v rest may e = apart_reads most a next keys.MirrorId (codes "--mirror-id") v rest key-mirror_id tt refl may e
item_reads most a next keys.Only v rest may e = apart_reads most a next keys.Only (codes "--only") v rest key-only tt refl may e
item_reads most a next keys.CompFlags v rest may e = alone_reads most a next keys.CompFlags (codes "--comp-flags=" ++ v) rest (key-comp_flags v) tt refl may e
item_reads most a next keys.MirrorIdIs v rest may e = alone_reads most a next keys.MirrorIdIs (codes "--mirror-id=" ++ v) rest (key-mirror_id_is v) tt refl may e
item_reads most a next keys.OnlyIs v rest may e = alone_reads most a next keys.OnlyIs (codes "--only=" ++ v) rest (key-only_is v) tt refl may e
item_reads most a next keys.Mirrors [] rest may e = absurd (no_count most a next may e)
item_reads most a next keys.Mirrors (c ∷ cs) rest may e = alone_reads most a next keys.Mirrors (codes "-N" ++ c ∷ cs) rest (key-mirrors c cs) tt refl may e
item_reads most a next keys.Mirror v rest may e = alone_reads most a next keys.Mirror (codes "-N") rest key-mirror tt refl may (same_mirror most a (codes "-N") v may ∙ e)
item_reads most a next keys.Prefer v rest may e = alone_reads most a next keys.Prefer (codes "--flags=prefer") rest key-prefer tt refl may (same_prefer most a (codes "--flags=prefer") v may ∙ e)
item_reads most a next keys.Destroy v rest may e = alone_reads most a next keys.Destroy (codes "-d") rest key-destroy tt refl may (same_destroy most a (codes "-d") v may ∙ e)
item_reads most a next keys.CompSet v rest may e = alone_reads most a next keys.CompSet (codes "--comp-set") rest key-comp_set tt refl may (same_comp_set most a (codes "--comp-set") v may ∙ e)
item_reads most a next keys.Dash v rest may e = absurd (never_dash a may)
item_reads most a next keys.Plain v rest may e = absurd (never_plain a may)

pub file_reads : (most : ℕ) (a : Asked) (name : List ℕ) → is_complete a ≡ true → is_name name ≡ true → step most (state.Options a) name ≡ Ok (state.Done a name)
file_reads most a name whole named =
    ap (word_by most a name) (key-name name named)
    ∙ ap (λ b. cond b (cond (is_name name) (Ok (state.Done a name)) (Err faults.BadName)) (Err faults.UnknownWord)) whole
    ∙ ap (λ b. cond b (Ok (state.Done a name)) (Err faults.BadName)) named

-- options and the file lead to the end
pub items_read : (most : ℕ) (a after : Asked) (items : List Item) (name : List ℕ) → with_items most a items ≡ Ok after → is_complete after ≡ true → is_name name ≡ true
    → run (ok_step (step most)) (state.Options a) (flat_map item_words items ++ name ∷ []) ≡ Some (state.Done after name)
items_read most a after [] name h whole named =
    let same : a ≡ after = cc in
    one most (state.Options a) (state.Done a name) name [] (file_reads most a name (ap is_complete same ∙ whole) named) ∙ ap (λ x. Some (state.Done x name)) same
items_read most a after (i ∷ items) name h whole named =
    let found = bound (with_item most a i) (λ x. with_items most x items) after h in
    let may = bound (may_stand a i.key) (λ _. take most a i.key i.value) found.found found.first in
    ap (λ l. run (ok_step (step most)) (state.Options a) (l ++ name ∷ [])) (flat_map-cons item_words i items)
    ∙ ap (λ l. run (ok_step (step most)) (state.Options a) l) (append_assoc (item_words i) (flat_map item_words items) (name ∷ []))
    ∙ item_reads most a found.found i.key i.value (flat_map item_words items ++ name ∷ []) may.first may.then
    ∙ items_read most found.found after items name found.then whole named

-- ---- the words of an option that stands

pub one_word : (k : Key) (word : List ℕ) → IsOption k word → is_apart k ≡ false → option_words k (value_of word k) ≡ word ∷ []
one_word keys.Mirror word o apart = ap (λ w. w ∷ []) (sym o)
one_word keys.Prefer word o apart = ap (λ w. w ∷ []) (sym o)
one_word keys.Destroy word o apart = ap (λ w. w ∷ []) (sym o)
one_word keys.CompSet word o apart = ap (λ w. w ∷ []) (sym o)
one_word keys.Mirrors word o apart = ap (λ w. w ∷ []) (sym o.0)
one_word keys.CompFlags word o apart = ap (λ w. w ∷ []) (sym o)
one_word keys.MirrorIdIs word o apart = ap (λ w. w ∷ []) (sym o)
one_word keys.OnlyIs word o apart = ap (λ w. w ∷ []) (sym o)
one_word keys.Dash word o apart = absurd o
one_word keys.Plain word o apart = absurd o
one_word k word o apart = absurd cc

pub two_words : (k : Key) (word value : List ℕ) → IsOption k word → is_apart k ≡ true → option_words k value ≡ word ∷ value ∷ []
two_words keys.End word value o apart = ap (λ w. w ∷ value ∷ []) (sym o)
two_words keys.Size word value o apart = ap (λ w. w ∷ value ∷ []) (sym o)
two_words keys.Count word value o apart = ap (λ w. w ∷ value ∷ []) (sym o)
two_words keys.File word value o apart = ap (λ w. w ∷ value ∷ []) (sym o)
two_words keys.Id word value o apart = ap (λ w. w ∷ value ∷ []) (sym o)
two_words keys.MirrorId word value o apart = ap (λ w. w ∷ value ∷ []) (sym o)
two_words keys.Only word value o apart = ap (λ w. w ∷ value ∷ []) (sym o)
two_words k word value o apart = absurd cc
