-- Commands without parts are spelled by the words that they are printed as.
use Rattle.std.proofs.Common.{◌≡◌, ℕ, ◌-◌, ◌^◌, ◌<◌, ◌≤◌, Bool, true, false, cond, eqb, List, [], ◌∷◌, ◌++◌, get_or, Ok, Err, Option, Some, None, refl, sym, ap, subst, ◌∙◌, arith}
use Rattle.std.specs.Prelude.{IfSome, is_some}
use Rattle.std.specs.List.{flat_map}
use Rattle.std.specs.Fmt.{decimal}
use Rattle.std.proofs.lemmas.Bool.{and_parts, eqb-true, ne_eqb}
use Rattle.std.proofs.lemmas.List.{get_or_append_left}
use Rattle.composite_layout.specs.FlagChanges.{FlagSets}
use Rattle.text_words.specs.Names.{is_name}
use Rattle.text_words.specs.Numbers.{number_from}
use Rattle.text_words.proofs.SizeLaws.{digit_ends}
use Rattle.text_words.proofs.Spellings.{from_again}
use Rattle.lfs_values.specs.declared.cause.Fault.TheVariants as faults
use Rattle.lfs_values.specs.declared.keys.Key.{Key}
use Rattle.lfs_values.specs.declared.keys.Key.TheVariants as keys
use Rattle.lfs_values.specs.MirrorIds.{IsMirrorId, AreMirrorIds, ids_text}
use Rattle.lfs_values.specs.FlagLists.{flags_text}
use Rattle.lfs_values.proofs.MirrorIdLaws.{ids_again}
use Rattle.lfs_words.specs.declared.command.SplitTo.{SplitTo}
use Rattle.lfs_words.specs.declared.command.SplitTo.TheVariants as places
use Rattle.lfs_words.specs.declared.command.LfsCommand.{LfsCommand}
use Rattle.lfs_words.specs.declared.command.LfsCommand.TheVariants as commands
use Rattle.lfs_words.specs.declared.asked.Changed.{Changed}
use Rattle.lfs_words.specs.declared.asked.Asked.{Asked}
use Rattle.lfs_words.specs.declared.asked.Asked.TheVariants as asks
use Rattle.lfs_words.specs.Parts.{◌>>=◌, number_or, no_parts}
use Rattle.lfs_words.specs.Options.{name_of, id_of, no_mirrors, next_mirror, take, take_value, begins_with_dash, is_complete}
use Rattle.lfs_words.specs.Checking.{other_file, checked_to, checked_split, checked_extend_by, checked}
use Rattle.lfs_words.specs.Printing.{words_of_command}
use Rattle.lfs_words.specs.Grammar.{Form, SetStripe, GetStripe, Extend, Split, Delete, Resync, Verify, form_words, bare, Item, item_words, with_items, IsAsked, Spells}
use Rattle.lfs_words.proofs.Binding.{bound}
use Rattle.lfs_words.proofs.Items.{items_more, one_item}
use Rattle.lfs_words.proofs.Completing.{plain_take}
use Rattle.lfs_words.proofs.Saying.{Said, IsComponentId, IsSaidChange, SaidTo}

-- the command is spelled by its printed words
abbrev pub Again : ℕ → LfsCommand → Type 0
Again most command = Spells most (words_of_command command) command

-- ---- words that begin with no dash

first_plain : (word : List ℕ) → 48 ≤ get_or word 0 0 → begins_with_dash word ≡ false
first_plain [] h = refl
first_plain (c ∷ cs) h = ne_eqb c 45 (λ e. omega arith)

pub decimal_plain : (n : ℕ) → n < 2 ^ 64 → begins_with_dash (decimal n) ≡ false
decimal_plain n lt = let d = digit_ends n lt in first_plain (decimal n) d.1

ids_plain : (ids : List ℕ) → AreMirrorIds ids → begins_with_dash (ids_text ids) ≡ false
ids_plain [] h = let some = h.some in absurd (omega arith)
ids_plain (id ∷ ids) h =
    let range = h.each.0 in
    let most = range.1 in
    let d = digit_ends id (omega arith) in
    first_plain (ids_text (id ∷ ids)) (rw (get_or_append_left (decimal id) _ 0 0 d.0) d.1)

name_plain : (name : List ℕ) → is_name name ≡ true → begins_with_dash name ≡ false
unfolding is_name
name_plain [] e = absurd cc
name_plain (c ∷ cs) e =
    let slash = eqb-true c 47 (and_parts (eqb c 47) _ e).0 in
    ne_eqb c 45 (λ z. omega arith)

-- ---- options that are printed

plain_item : (most : ℕ) (a next : Asked) (k : Key) (value : List ℕ) → begins_with_dash value ≡ false → take_value most a k value ≡ Ok next → take most a k value ≡ Ok next
plain_item most a next k value plain e = plain_take most a k value plain ∙ e

name_again : (name : List ℕ) → is_name name ≡ true → name_of name ≡ Ok name
name_again name e = ap (λ b. cond b (Ok name) (Err faults.BadName)) e

id_again : (id : ℕ) → IsMirrorId id → id_of (decimal id) ≡ Ok id
id_again id h = ap number_or (from_again 1 65535 id (omega arith) h.0 h.1)

component_again : (id : ℕ) → IsComponentId id → number_or (number_from 1 (2 ^ 32 - 1) (decimal id)) ≡ Ok id
component_again id h = ap number_or (from_again 1 (2 ^ 32 - 1) id (omega arith) h.0 h.1)

abbrev pub item : Key → List ℕ → Item
item k value = record { key = k; value = value }

-- options behind the words of a form, and the file
pub asked_so : (most : ℕ) (form : Form) (items : List Item) (after : Asked) (name : List ℕ) → with_items most (bare form) items ≡ Ok after → is_complete after ≡ true → is_name name ≡ true
    → IsAsked most (form_words form ++ (flat_map item_words items ++ name ∷ [])) after name
asked_so most form items after name asked complete named = record {
  form = form;
  rest = flat_map item_words items ++ name ∷ [];
  behind = record { options = items; asked = asked; complete = complete; named = named; stand = refl };
  stand = refl;
}

mirror_id_item : (most : ℕ) (id : ℕ) → IsMirrorId id → with_items most (asks.Split None places.Default) (item keys.MirrorId (decimal id) ∷ []) ≡ Ok (asks.Split (Some id) places.Default)
mirror_id_item most id h =
    one_item most (asks.Split None places.Default) (asks.Split (Some id) places.Default) keys.MirrorId (decimal id) refl
    (plain_item most (asks.Split None places.Default) _ keys.MirrorId (decimal id) (decimal_plain id (let le = h.1 in omega arith)) (ap (λ r. r >>= λ x. Ok (asks.Split (Some x) places.Default)) (id_again id h)))

delete_again : (most : ℕ) (id : ℕ) (name : List ℕ) → IsMirrorId id → is_name name ≡ true → Again most (commands.Delete name id)
delete_again most id name h named =
    let taken = plain_item most (asks.Delete None) _ keys.MirrorId (decimal id) (decimal_plain id (let le = h.1 in omega arith)) (ap (λ r. r >>= λ x. Ok (asks.Delete (Some x))) (id_again id h)) in
    let items = one_item most (asks.Delete None) (asks.Delete (Some id)) keys.MirrorId (decimal id) refl taken in
    (asks.Delete (Some id), name, asked_so most Delete (item keys.MirrorId (decimal id) ∷ []) (asks.Delete (Some id)) name items refl named, refl)

abbrev to_items : SplitTo → List Item
to_items places.Default = []
to_items (places.Named new) = item keys.File new ∷ []
to_items places.Destroy = item keys.Destroy [] ∷ []

to_asked : (most id : ℕ) (to : SplitTo) → SaidTo to → with_items most (asks.Split (Some id) places.Default) (to_items to) ≡ Ok (asks.Split (Some id) to)
to_asked most id places.Default h = refl
to_asked most id (places.Named new) h =
    one_item most (asks.Split (Some id) places.Default) (asks.Split (Some id) (places.Named new)) keys.File new refl
    (plain_item most (asks.Split (Some id) places.Default) _ keys.File new (name_plain new h) (ap (λ r. r >>= λ n. Ok (asks.Split (Some id) (places.Named n))) (name_again new h)))
to_asked most id places.Destroy h = refl

to_stand : (id : ℕ) (to : SplitTo) (name : List ℕ) → words_of_command (commands.Split name id to) ≡ form_words Split ++ (flat_map item_words (item keys.MirrorId (decimal id) ∷ to_items to) ++ name ∷ [])
to_stand id places.Default name = refl
to_stand id (places.Named new) name = refl
to_stand id places.Destroy name = refl

split_again : (most id : ℕ) (to : SplitTo) (name : List ℕ) → IsMirrorId id → SaidTo to → is_name name ≡ true → checked_to to name ≡ Ok tt → Again most (commands.Split name id to)
split_again most id to name h said named free =
    let items = items_more most (asks.Split None places.Default) (asks.Split (Some id) places.Default) (asks.Split (Some id) to) (item keys.MirrorId (decimal id) ∷ []) (to_items to) (mirror_id_item most id h) (to_asked most id to said) in
    let asked = asked_so most Split (item keys.MirrorId (decimal id) ∷ to_items to) (asks.Split (Some id) to) name items refl named in
    (asks.Split (Some id) to, name, subst (λ (words : List (List ℕ)). IsAsked most words (asks.Split (Some id) to) name) (sym (to_stand id to name)) asked, ap (λ r. r >>= λ _. Ok (commands.Split name id to)) free)

resync_again : (most : ℕ) (only : Option (List ℕ)) (name : List ℕ) → IfSome only AreMirrorIds → is_name name ≡ true → Again most (commands.Resync name only)
resync_again most None name h named = (asks.Resync None, name, asked_so most Resync [] (asks.Resync None) name refl refl named, refl)
resync_again most (Some ids) name h named =
    let taken = plain_item most (asks.Resync None) _ keys.Only (ids_text ids) (ids_plain ids h) (ap (λ r. r >>= λ x. Ok (asks.Resync (Some x))) (ids_again ids h)) in
    let items = one_item most (asks.Resync None) (asks.Resync (Some ids)) keys.Only (ids_text ids) refl taken in
    (asks.Resync (Some ids), name, asked_so most Resync (item keys.Only (ids_text ids) ∷ []) (asks.Resync (Some ids)) name items refl named, refl)

abbrev named_only : Changed
named_only = record { named = true; id = None; change = None }

abbrev with_id : ℕ → Changed
with_id id = record { named = true; id = Some id; change = None }

abbrev with_all : ℕ → FlagSets → Changed
with_all id change = record { named = true; id = Some id; change = Some change }

abbrev set_items : ℕ → FlagSets → List Item
set_items id change = item keys.CompSet [] ∷ item keys.Id (decimal id) ∷ item keys.CompFlags (flags_text change) ∷ []

set_again : (most id : ℕ) (change : FlagSets) (name : List ℕ) → IsComponentId id → IsSaidChange change → is_name name ≡ true → Again most (commands.CompSet name id change)
set_again most id change name h said named =
    let one = one_item most (asks.SetStripe no_parts) (asks.CompSet named_only) keys.CompSet [] refl refl in
    let second = plain_item most (asks.CompSet named_only) _ keys.Id (decimal id) (decimal_plain id (let le = h.1 in omega arith)) (ap (λ r. r >>= λ x. Ok (asks.CompSet (with_id x))) (component_again id h)) in
    let two = one_item most (asks.CompSet named_only) (asks.CompSet (with_id id)) keys.Id (decimal id) refl second in
    let third : take most (asks.CompSet (with_id id)) keys.CompFlags (flags_text change) ≡ Ok (asks.CompSet (with_all id change)) = ap (λ r. r >>= λ x. Ok (asks.CompSet (with_all id x))) said in
    let three = one_item most (asks.CompSet (with_id id)) (asks.CompSet (with_all id change)) keys.CompFlags (flags_text change) refl third in
    let last = items_more most (asks.CompSet named_only) (asks.CompSet (with_id id)) (asks.CompSet (with_all id change)) (item keys.Id (decimal id) ∷ []) (item keys.CompFlags (flags_text change) ∷ []) two three in
    let items = items_more most (asks.SetStripe no_parts) (asks.CompSet named_only) (asks.CompSet (with_all id change)) (item keys.CompSet [] ∷ []) (item keys.Id (decimal id) ∷ item keys.CompFlags (flags_text change) ∷ []) one last in
    (asks.CompSet (with_all id change), name, asked_so most SetStripe (set_items id change) (asks.CompSet (with_all id change)) name items refl named, refl)

by_again : (most : ℕ) (victim name : List ℕ) → is_name victim ≡ true → is_name name ≡ true → other_file victim name ≡ Ok tt → Again most (commands.ExtendBy name victim)
by_again most victim name h named free =
    let one = one_item most (asks.Extend no_mirrors) (asks.Extend (next_mirror no_mirrors None)) keys.Mirror [] refl refl in
    let second = plain_item most (asks.Extend (next_mirror no_mirrors None)) _ keys.File victim (name_plain victim h) (ap (λ r. r >>= λ x. Ok (asks.ExtendBy true x)) (name_again victim h)) in
    let two = one_item most (asks.Extend (next_mirror no_mirrors None)) (asks.ExtendBy true victim) keys.File victim refl second in
    let items = items_more most (asks.Extend no_mirrors) (asks.Extend (next_mirror no_mirrors None)) (asks.ExtendBy true victim) (item keys.Mirror [] ∷ []) (item keys.File victim ∷ []) one two in
    (asks.ExtendBy true victim, name, asked_so most Extend (item keys.Mirror [] ∷ item keys.File victim ∷ []) (asks.ExtendBy true victim) name items refl named, ap (λ r. r >>= λ _. Ok (commands.ExtendBy name victim)) free)

pub plain_again : (most : ℕ) (name : List ℕ) → is_name name ≡ true → Again most (commands.GetStripe name) × Again most (commands.Verify name)
plain_again most name named = ((asks.GetStripe, name, asked_so most GetStripe [] asks.GetStripe name refl refl named, refl), (asks.Verify, name, asked_so most Verify [] asks.Verify name refl refl named, refl))

-- ---- what was checked

-- a command without parts
abbrev pub IsShort : Asked → Type 0
IsShort (asks.SetStripe d) = ⊥
IsShort (asks.Create ms) = ⊥
IsShort (asks.Extend ms) = ⊥
IsShort _ = Unit {0}

split_checked : (most : ℕ) (mirror : Option ℕ) (to : SplitTo) (name : List ℕ) (command : LfsCommand) → IfSome mirror IsMirrorId → SaidTo to → is_some mirror ≡ true → is_name name ≡ true → checked_split mirror to name ≡ Ok command → Again most command
split_checked most None to name command h said some named e = absurd cc
split_checked most (Some id) to name command h said some named e =
    let found = bound (checked_to to name) (λ _. Ok (commands.Split name id to)) command e in
    let same : commands.Split name id to ≡ command = let t = found.then in cc in
    subst (Again most) same (split_again most id to name h said named found.first)

delete_checked : (most : ℕ) (mirror : Option ℕ) (name : List ℕ) (command : LfsCommand) → IfSome mirror IsMirrorId → is_some mirror ≡ true → is_name name ≡ true → checked most (asks.Delete mirror) name ≡ Ok command → Again most command
delete_checked most None name command h some named e = absurd cc
delete_checked most (Some id) name command h some named e = let same : commands.Delete name id ≡ command = cc in subst (Again most) same (delete_again most id name h named)

set_checked : (most : ℕ) (stood : Bool) (id : Option ℕ) (change : Option FlagSets) (name : List ℕ) (command : LfsCommand) → IfSome id IsComponentId → IfSome change IsSaidChange → is_name name ≡ true
    → checked most (asks.CompSet (record { named = stood; id = id; change = change })) name ≡ Ok command → Again most command
set_checked most stood None change name command h said named e = absurd cc
set_checked most stood (Some id) None name command h said named e = absurd cc
set_checked most stood (Some id) (Some change) name command h said named e = let same : commands.CompSet name id change ≡ command = cc in subst (Again most) same (set_again most id change name h said named)

by_checked : (most : ℕ) (mirror : Bool) (victim name : List ℕ) (command : LfsCommand) → is_name victim ≡ true → is_name name ≡ true → checked_extend_by mirror victim name ≡ Ok command → Again most command
by_checked most true victim name command h named e =
    let found = bound (other_file victim name) (λ _. Ok (commands.ExtendBy name victim)) command e in
    let same : commands.ExtendBy name victim ≡ command = let t = found.then in cc in
    subst (Again most) same (by_again most victim name h named found.first)
by_checked most false victim name command h named e = let found = bound (other_file victim name) (λ _. Err _) command e in let t = found.then in absurd cc

-- what was asked for without parts, and was right, is said again by the words of the command
pub short_again : (most : ℕ) (a : Asked) (name : List ℕ) (command : LfsCommand) → IsShort a → Said a → is_complete a ≡ true → is_name name ≡ true → checked most a name ≡ Ok command → Again most command
short_again most asks.GetStripe name command short said whole named e = let same : commands.GetStripe name ≡ command = cc in subst (Again most) same (plain_again most name named).0
short_again most asks.Verify name command short said whole named e = let same : commands.Verify name ≡ command = cc in subst (Again most) same (plain_again most name named).1
short_again most (asks.SetStripe d) name command short said whole named e = absurd short
short_again most (asks.Create ms) name command short said whole named e = absurd short
short_again most (asks.Extend ms) name command short said whole named e = absurd short
short_again most (asks.CompSet c) name command short said whole named e = set_checked most c.named c.id c.change name command said.0 said.1 named e
short_again most (asks.ExtendBy mirror victim) name command short said whole named e = by_checked most mirror victim name command said named e
short_again most (asks.Split mirror to) name command short said whole named e = split_checked most mirror to name command said.0 said.1 whole named e
short_again most (asks.Delete mirror) name command short said whole named e = delete_checked most mirror name command said whole named e
short_again most (asks.Resync only) name command short said whole named e = let same : commands.Resync name only ≡ command = cc in subst (Again most) same (resync_again most only name said named)
