-- Every command is spelled by the words that it is printed as.
use Rattle.std.proofs.Common.{◌≡◌, ℕ, zero, suc, ℤ, pos, negsuc, ◌%◌, ◌^◌, ◌≤◌, Bool, true, false, cond, not, ◌||◌, eqb, leb, ltb, List, [], ◌∷◌, ◌++◌, length, map, Ok, Option, Some, None, refl, sym, ap, subst, ◌∙◌, arith}
use Rattle.std.specs.Prelude.{codes, replicate, nat_lt}
use Rattle.std.specs.List.{flat_map, list_any, AllByRecursion}
use Rattle.std.specs.Option.{option_or}
use Rattle.std.proofs.lemmas.Bool.{cond_both, eqb-true}
use Rattle.std.proofs.lemmas.List.{append-nil}
use Rattle.composite_layout.specs.declared.spec.Part.{Part}
use Rattle.composite_layout.specs.declared.spec.MirrorSpec.{MirrorSpec}
use Rattle.composite_layout.specs.declared.spec.SpecError.{SpecError}
use Rattle.composite_layout.specs.declared.spec.SpecError.TheVariants as errors
use Rattle.composite_layout.specs.Layouts.{is_end}
use Rattle.composite_layout.specs.Specs.{size_of, count_of, normal_part, normal_mirror, parts_fault, mirrors_fault, refusal_of}
use Rattle.text_words.specs.Names.{is_name}
use Rattle.lfs_values.specs.declared.keys.Key.{Key}
use Rattle.lfs_values.specs.declared.keys.Key.TheVariants as keys
use Rattle.lfs_values.specs.Values.{IsStripeCount}
use Rattle.lfs_words.specs.declared.command.LfsCommand.{LfsCommand}
use Rattle.lfs_words.specs.declared.command.LfsCommand.TheVariants as commands
use Rattle.lfs_words.specs.declared.parts.Draft.{Draft}
use Rattle.lfs_words.specs.declared.asked.MirrorAsk.{MirrorAsk}
use Rattle.lfs_words.specs.declared.asked.OpenMirror.{OpenMirror}
use Rattle.lfs_words.specs.declared.asked.Mirrors.{Mirrors}
use Rattle.lfs_words.specs.declared.asked.Asked.{Asked}
use Rattle.lfs_words.specs.declared.asked.Asked.TheVariants as asks
use Rattle.lfs_words.specs.Parts.{◌>>=◌, part_stands, part_value, parts_of}
use Rattle.lfs_words.specs.Options.{no_mirrors, ended_mirrors, may_stand, take_value, is_complete}
use Rattle.lfs_words.specs.Checking.{mirror_of, expanded, unless, spec_of, alone, checked}
use Rattle.lfs_words.specs.Printing.{part_words, words_of_command}
use Rattle.lfs_words.specs.Grammar.{SetStripe, Create, Extend, form_words, bare, item_words, IsAsked, Spells}
use Rattle.lfs_words.proofs.Binding.{bound}
use Rattle.composite_layout.proofs.New.{all_append}
use Rattle.lfs_words.proofs.Saying.{SaidPart, SaidAsk, SaidMirrors, Said, said_parts, said_mirrors, said_items, said_bare, some_parts}
use Rattle.lfs_words.proofs.Printed.{Again, asked_so, short_again}
use Rattle.lfs_words.proofs.PrintedParts.{IsPartKey, Holds, last_is, part_items, draft_for, draft_parts, all_on, parts_stand, Wraps, mirror_items, mirrors_after, SaidSpec, mirrors_on, ask_of, mirrors_ended, mirrors_stand}

-- ---- what was left open is put in once

abbrev part : ℕ → ℕ → ℤ → Part
part end size count = record { end = end; size = size; count = count }

size_twice : (size : ℕ) → size_of (size_of size) ≡ size_of size
size_twice size = cond_both (eqb size 0) 1048576 size (λ n. size_of n ≡ n) (λ t. refl) (λ f. rw f refl)

number_twice : (n : ℕ) → cond (eqb (cond (eqb n 0) 1 n) 0) 1 (cond (eqb n 0) 1 n) ≡ cond (eqb n 0) 1 n
number_twice n = cond_both (eqb n 0) 1 n (λ m. cond (eqb m 0) 1 m ≡ m) (λ t. refl) (λ f. rw f refl)

count_twice : (count : ℤ) → count_of (count_of count) ≡ count_of count
count_twice (pos n) = ap (λ (m : ℕ). pos m) (number_twice n)
count_twice (negsuc n) = refl

part_twice : (p : Part) → normal_part (normal_part p) ≡ normal_part p
part_twice p =
    ap (λ (size : ℕ). part p.end size (count_of (count_of p.count))) (size_twice p.size)
    ∙ ap (λ (count : ℤ). part p.end (size_of p.size) count) (count_twice p.count)

parts_twice : (ps : List Part) → map normal_part (map normal_part ps) ≡ map normal_part ps
parts_twice [] = refl
parts_twice (p ∷ ps) =
    ap (λ (q : Part). q ∷ map normal_part (map normal_part ps)) (part_twice p)
    ∙ ap (λ (qs : List Part). normal_part p ∷ qs) (parts_twice ps)

abbrev mirror : List Part → Bool → MirrorSpec
mirror parts prefer = record { parts = parts; prefer = prefer }

mirrors_twice : (ms : List MirrorSpec) → map normal_mirror (map normal_mirror ms) ≡ map normal_mirror ms
mirrors_twice [] = refl
mirrors_twice (m ∷ ms) =
    ap (λ (ps : List Part). mirror ps m.prefer ∷ map normal_mirror (map normal_mirror ms)) (parts_twice m.parts)
    ∙ ap (λ (ns : List MirrorSpec). normal_mirror m ∷ ns) (mirrors_twice ms)

-- ---- and refused no more for it

abbrev by_size : ℕ → Option SpecError → Option SpecError
by_size size rest = cond (not (eqb (size % 65536) 0)) (Some (errors.Unaligned size)) rest

size_fault : (size : ℕ) (rest : Option SpecError) → by_size (size_of size) rest ≡ by_size size rest
size_fault size rest = cond_both (eqb size 0) 1048576 size (λ n. by_size n rest ≡ by_size size rest)
    (λ t. ap (λ (n : ℕ). by_size n rest) (sym (eqb-true size 0 t)))
    (λ f. refl)

abbrev by_end : ℕ → Option SpecError → Option SpecError
by_end end rest = cond (not (is_end end)) (Some (errors.Unaligned end)) rest

abbrev by_gap : ℕ → ℕ → Option SpecError → Option SpecError
by_gap at end rest = cond (leb end at) (Some (errors.Gap end)) rest

parts_normal : (at : ℕ) (ps : List Part) → parts_fault at (map normal_part ps) ≡ parts_fault at ps
parts_normal at [] = refl
parts_normal at (p ∷ ps) =
    ap (λ (r : Option SpecError). by_end p.end (by_size (size_of p.size) (by_gap at p.end r))) (parts_normal p.end ps)
    ∙ ap (by_end p.end) (size_fault p.size (by_gap at p.end (parts_fault p.end ps)))

mirrors_normal : (ms : List MirrorSpec) → mirrors_fault (map normal_mirror ms) ≡ mirrors_fault ms
mirrors_normal [] = refl
mirrors_normal (m ∷ ms) =
    ap (λ (o : Option SpecError). option_or o (mirrors_fault (map normal_mirror ms))) (parts_normal 0 m.parts)
    ∙ ap (option_or (parts_fault 0 m.parts)) (mirrors_normal ms)

parts_length : (ps : List Part) → length (map normal_part ps) ≡ length ps
parts_length [] = refl
parts_length (p ∷ ps) = ap suc (parts_length ps)

mirrors_length : (ms : List MirrorSpec) → length (map normal_mirror ms) ≡ length ms
mirrors_length [] = refl
mirrors_length (m ∷ ms) = ap suc (mirrors_length ms)

abbrev any_large : List MirrorSpec → Bool
any_large ms = list_any (λ m. nat_lt 64 (length m.parts)) ms

large_normal : (ms : List MirrorSpec) → any_large (map normal_mirror ms) ≡ any_large ms
large_normal [] = refl
large_normal (m ∷ ms) =
    ap (λ (n : ℕ). nat_lt 64 n || any_large (map normal_mirror ms)) (parts_length m.parts)
    ∙ ap (λ (b : Bool). nat_lt 64 (length m.parts) || b) (large_normal ms)

abbrev refusal_by : ℕ → ℕ → Bool → Option SpecError → Option SpecError
refusal_by most n large fault = cond (eqb n 0) (Some errors.NoMirror) (cond (ltb most n) (Some errors.TooManyMirrors) (cond large (Some errors.TooManyParts) fault))

refusal_normal : (ms : List MirrorSpec) (most : ℕ) → refusal_of (map normal_mirror ms) most ≡ refusal_of ms most
refusal_normal ms most =
    ap (λ (n : ℕ). refusal_by most n (any_large (map normal_mirror ms)) (mirrors_fault (map normal_mirror ms))) (mirrors_length ms)
    ∙ ap (λ (b : Bool). refusal_by most (length ms) b (mirrors_fault (map normal_mirror ms))) (large_normal ms)
    ∙ ap (refusal_by most (length ms) (any_large ms)) (mirrors_normal ms)

-- ---- the mirrors of a spec can be asked for

said_count : (count : ℤ) → IsStripeCount count → IsStripeCount (count_of count)
said_count (pos n) h = cond_both (eqb n 0) 1 n (λ m. m ≤ 65535) (λ t. omega arith) (λ f. h)
said_count (negsuc n) h = h

said_normal : (p : Part) → SaidPart p → SaidPart (normal_part p)
said_normal p h = (h.0, cond_both (eqb p.size 0) 1048576 p.size (λ n. n ≤ 2 ^ 30) (λ t. omega arith) (λ f. h.1), said_count p.count h.2)

said_all : (ps : List Part) → AllByRecursion SaidPart ps → AllByRecursion SaidPart (map normal_part ps)
said_all [] h = tt
said_all (p ∷ ps) h = (said_normal p h.0, said_all ps h.1)

said_mirror : (m : MirrorSpec) → SaidSpec m → SaidSpec (normal_mirror m)
said_mirror m h = (let n = parts_length m.parts in let some = h.0 in omega arith, said_all m.parts h.1)

said_specs : (ms : List MirrorSpec) → AllByRecursion SaidSpec ms → AllByRecursion SaidSpec (map normal_mirror ms)
said_specs [] h = tt
said_specs (m ∷ ms) h = (said_mirror m h.0, said_specs ms h.1)

said_times : (n : ℕ) (m : MirrorSpec) → SaidSpec m → AllByRecursion SaidSpec (replicate n m)
said_times zero m h = tt
said_times (suc n) m h = (h, said_times n m h)

said_expanded : (ms : List MirrorAsk) → AllByRecursion SaidAsk ms → AllByRecursion SaidSpec (expanded ms)
said_expanded [] h = tt
said_expanded (m ∷ ms) h = all_append SaidSpec (replicate m.count (mirror_of m)) (expanded ms) (said_times m.count (mirror_of m) h.0) (said_expanded ms h.1)

expanded_ones : (specs : List MirrorSpec) → expanded (map ask_of specs) ≡ specs
expanded_ones [] = refl
expanded_ones (m ∷ specs) = ap (λ (ms : List MirrorSpec). m ∷ ms) (expanded_ones specs)

-- ---- specs that were checked

unless_ok : {A : Type 0} (o : Option SpecError) (x y : A) → unless o x ≡ Ok y → (o ≡ None) × (x ≡ y)
unless_ok None x y e = let same : x ≡ y = cc in (refl, same)
unless_ok (Some refusal) x y e = absurd cc

-- a spec that is as it is asked for
pub record IsFixed (most : ℕ) (specs : List MirrorSpec) : Type 0 where
  pub said : AllByRecursion SaidSpec specs
  pub right : refusal_of specs most ≡ None
  pub normal : map normal_mirror specs ≡ specs

fixed : (most : ℕ) (asked : List MirrorAsk) (specs : List MirrorSpec) → AllByRecursion SaidAsk asked → spec_of most asked ≡ Ok specs → IsFixed most specs
fixed most asked specs said e =
    let k = unless_ok (refusal_of (expanded asked) most) (map normal_mirror (expanded asked)) specs e in
    subst (IsFixed most) k.1 (record {
      said = said_specs (expanded asked) (said_expanded asked said);
      right = refusal_normal (expanded asked) most ∙ k.0;
      normal = mirrors_twice (expanded asked);
    })

fixed_again : (most : ℕ) (asked : List MirrorAsk) (specs : List MirrorSpec) → IsFixed most specs → expanded asked ≡ specs → spec_of most asked ≡ Ok specs
fixed_again most asked specs h e =
    ap (λ (ms : List MirrorSpec). unless (refusal_of ms most) (map normal_mirror ms)) e
    ∙ ap (λ (o : Option SpecError). unless o (map normal_mirror specs)) h.right
    ∙ ap (λ (ms : List MirrorSpec). Ok ms) h.normal

-- ---- setstripe

set_may : (d : Draft) (k : Key) → IsPartKey k → part_stands d k ≡ Ok tt → may_stand (asks.SetStripe d) k ≡ Ok tt
set_may d keys.End part e = e
set_may d keys.Size part e = e
set_may d keys.Count part e = e
set_may d k part e = absurd part

set_takes : (most : ℕ) (d next : Draft) (k : Key) (word : List ℕ) → IsPartKey k → part_value d k word ≡ Ok next → take_value most (asks.SetStripe d) k word ≡ Ok (asks.SetStripe next)
set_takes most d next keys.End word part e = ap (λ r. r >>= λ x. Ok (asks.SetStripe x)) e
set_takes most d next keys.Size word part e = ap (λ r. r >>= λ x. Ok (asks.SetStripe x)) e
set_takes most d next keys.Count word part e = ap (λ r. r >>= λ x. Ok (asks.SetStripe x)) e
set_takes most d next k word part e = absurd part

set_holds : (most : ℕ) → Holds most (λ d. asks.SetStripe d)
set_holds most = record { may = set_may; takes = set_takes most }

set_stand : (name : List ℕ) (m : MirrorSpec) → words_of_command (commands.SetStripe name (m ∷ [])) ≡ form_words SetStripe ++ (flat_map item_words (flat_map part_items m.parts) ++ name ∷ [])
set_stand name m =
    ap (λ (ws : List (List ℕ)). codes "lfs" ∷ codes "setstripe" ∷ (ws ++ name ∷ [])) (append-nil (flat_map part_words m.parts) ∙ sym (parts_stand m.parts))

set_again : (most : ℕ) (name : List ℕ) (parts : List Part) → is_name name ≡ true → IsFixed most (mirror parts false ∷ []) → Again most (commands.SetStripe name (mirror parts false ∷ []))
set_again most name parts named h =
    let some = h.said.0.0 in
    let after = asks.SetStripe (draft_for parts) in
    let items = all_on most (λ d. asks.SetStripe d) (set_holds most) parts h.said.0.1 in
    let asked = asked_so most SetStripe (flat_map part_items parts) (asks.SetStripe (draft_for parts)) name items refl named in
    let whole : expanded (alone (draft_for parts)) ≡ mirror parts false ∷ [] = ap (λ (ps : List Part). mirror ps false ∷ []) (draft_parts parts some) in (
      asks.SetStripe (draft_for parts),
      name,
      subst (λ (words : List (List ℕ)). IsAsked most words (asks.SetStripe (draft_for parts)) name) (sym (set_stand name (mirror parts false))) asked,
      ap (λ r. r >>= λ spec. Ok (commands.SetStripe name spec)) (fixed_again most (alone (draft_for parts)) (mirror parts false ∷ []) h whole),
    )

set_checked : (most : ℕ) (d : Draft) (name : List ℕ) (command : LfsCommand) → Said (asks.SetStripe d) → is_name name ≡ true → checked most (asks.SetStripe d) name ≡ Ok command → Again most command
set_checked most d name command said named e =
    let found = bound (spec_of most (alone d)) (λ spec. Ok (commands.SetStripe name spec)) command e in
    let same : commands.SetStripe name found.found ≡ command = let t = found.then in cc in
    let h = fixed most (alone d) found.found ((some_parts d, said_parts d said), tt) found.first in
    let k = unless_ok (refusal_of (expanded (alone d)) most) (map normal_mirror (expanded (alone d))) found.found found.first in
    let spec_is : mirror (map normal_part (parts_of d)) false ∷ [] ≡ found.found = k.1 in
    subst (Again most) same (subst (λ (spec : List MirrorSpec). Again most (commands.SetStripe name spec)) spec_is (set_again most name (map normal_part (parts_of d)) named (subst (IsFixed most) (sym spec_is) h)))

-- ---- create and extend

abbrev open_as : Bool → Draft → OpenMirror
open_as prefer d = record { count = None; prefer = prefer; parts = d }

abbrev last_as : List MirrorAsk → OpenMirror → Mirrors
last_as done m = record { done = done; last = Some m }

create_may : (done : List MirrorAsk) (prefer : Bool) (d : Draft) (k : Key) → IsPartKey k → part_stands d k ≡ Ok tt → may_stand (asks.Create (last_is done prefer d)) k ≡ Ok tt
create_may done prefer d keys.End part e = e
create_may done prefer d keys.Size part e = e
create_may done prefer d keys.Count part e = e
create_may done prefer d k part e = absurd part

create_takes : (most : ℕ) (done : List MirrorAsk) (prefer : Bool) (d next : Draft) (k : Key) (word : List ℕ) → IsPartKey k → part_value d k word ≡ Ok next
    → take_value most (asks.Create (last_is done prefer d)) k word ≡ Ok (asks.Create (last_is done prefer next))
create_takes most done prefer d next keys.End word part e = ap (λ r. r >>= (λ x. Ok (open_as prefer x)) >>= (λ m. Ok (last_as done m)) >>= λ ms. Ok (asks.Create ms)) e
create_takes most done prefer d next keys.Size word part e = ap (λ r. r >>= (λ x. Ok (open_as prefer x)) >>= (λ m. Ok (last_as done m)) >>= λ ms. Ok (asks.Create ms)) e
create_takes most done prefer d next keys.Count word part e = ap (λ r. r >>= (λ x. Ok (open_as prefer x)) >>= (λ m. Ok (last_as done m)) >>= λ ms. Ok (asks.Create ms)) e
create_takes most done prefer d next k word part e = absurd part

extend_may : (done : List MirrorAsk) (prefer : Bool) (d : Draft) (k : Key) → IsPartKey k → part_stands d k ≡ Ok tt → may_stand (asks.Extend (last_is done prefer d)) k ≡ Ok tt
extend_may done prefer d keys.End part e = e
extend_may done prefer d keys.Size part e = e
extend_may done prefer d keys.Count part e = e
extend_may done prefer d k part e = absurd part

extend_takes : (most : ℕ) (done : List MirrorAsk) (prefer : Bool) (d next : Draft) (k : Key) (word : List ℕ) → IsPartKey k → part_value d k word ≡ Ok next
    → take_value most (asks.Extend (last_is done prefer d)) k word ≡ Ok (asks.Extend (last_is done prefer next))
extend_takes most done prefer d next keys.End word part e = ap (λ r. r >>= (λ x. Ok (open_as prefer x)) >>= (λ m. Ok (last_as done m)) >>= λ ms. Ok (asks.Extend ms)) e
extend_takes most done prefer d next keys.Size word part e = ap (λ r. r >>= (λ x. Ok (open_as prefer x)) >>= (λ m. Ok (last_as done m)) >>= λ ms. Ok (asks.Extend ms)) e
extend_takes most done prefer d next keys.Count word part e = ap (λ r. r >>= (λ x. Ok (open_as prefer x)) >>= (λ m. Ok (last_as done m)) >>= λ ms. Ok (asks.Extend ms)) e
extend_takes most done prefer d next k word part e = absurd part

create_wraps : (most : ℕ) → Wraps most (λ ms. asks.Create ms)
create_wraps most = record {
  opens = λ ms. refl;
  opened = λ ms. refl;
  prefers = λ done. refl;
  preferred = λ done. refl;
  holds = λ done prefer. record { may = create_may done prefer; takes = create_takes most done prefer };
}

extend_wraps : (most : ℕ) → Wraps most (λ ms. asks.Extend ms)
extend_wraps most = record {
  opens = λ ms. refl;
  opened = λ ms. refl;
  prefers = λ done. refl;
  preferred = λ done. refl;
  holds = λ done prefer. record { may = extend_may done prefer; takes = extend_takes most done prefer };
}

-- the mirrors that are printed are those of the spec
spec_again : (most : ℕ) (spec : List MirrorSpec) → IsFixed most spec → spec_of most (ended_mirrors (mirrors_after no_mirrors spec)) ≡ Ok spec
spec_again most spec h = fixed_again most (ended_mirrors (mirrors_after no_mirrors spec)) spec h (ap expanded (mirrors_ended no_mirrors spec h.said) ∙ expanded_ones spec)

create_again : (most : ℕ) (name : List ℕ) (spec : List MirrorSpec) → is_name name ≡ true → IsFixed most spec → Again most (commands.Create name spec)
create_again most name spec named h =
    let items = mirrors_on most (λ ms. asks.Create ms) (create_wraps most) no_mirrors spec h.said in
    let asked = asked_so most Create (flat_map mirror_items spec) (asks.Create (mirrors_after no_mirrors spec)) name items refl named in
    let stand : words_of_command (commands.Create name spec) ≡ form_words Create ++ (flat_map item_words (flat_map mirror_items spec) ++ name ∷ []) = ap (λ (ws : List (List ℕ)). codes "lfs" ∷ codes "mirror" ∷ codes "create" ∷ (ws ++ name ∷ [])) (sym (mirrors_stand spec)) in (
      asks.Create (mirrors_after no_mirrors spec),
      name,
      subst (λ (words : List (List ℕ)). IsAsked most words (asks.Create (mirrors_after no_mirrors spec)) name) (sym stand) asked,
      ap (λ r. r >>= λ s. Ok (commands.Create name s)) (spec_again most spec h),
    )

extend_again : (most : ℕ) (name : List ℕ) (spec : List MirrorSpec) → is_name name ≡ true → IsFixed most spec → Again most (commands.Extend name spec)
extend_again most name spec named h =
    let items = mirrors_on most (λ ms. asks.Extend ms) (extend_wraps most) no_mirrors spec h.said in
    let asked = asked_so most Extend (flat_map mirror_items spec) (asks.Extend (mirrors_after no_mirrors spec)) name items refl named in
    let stand : words_of_command (commands.Extend name spec) ≡ form_words Extend ++ (flat_map item_words (flat_map mirror_items spec) ++ name ∷ []) = ap (λ (ws : List (List ℕ)). codes "lfs" ∷ codes "mirror" ∷ codes "extend" ∷ (ws ++ name ∷ [])) (sym (mirrors_stand spec)) in (
      asks.Extend (mirrors_after no_mirrors spec),
      name,
      subst (λ (words : List (List ℕ)). IsAsked most words (asks.Extend (mirrors_after no_mirrors spec)) name) (sym stand) asked,
      ap (λ r. r >>= λ s. Ok (commands.Extend name s)) (spec_again most spec h),
    )

create_checked : (most : ℕ) (ms : Mirrors) (name : List ℕ) (command : LfsCommand) → SaidMirrors ms → is_name name ≡ true → checked most (asks.Create ms) name ≡ Ok command → Again most command
create_checked most ms name command said named e =
    let found = bound (spec_of most (ended_mirrors ms)) (λ spec. Ok (commands.Create name spec)) command e in
    let same : commands.Create name found.found ≡ command = let t = found.then in cc in
    subst (Again most) same (create_again most name found.found named (fixed most (ended_mirrors ms) found.found (said_mirrors ms said) found.first))

extend_checked : (most : ℕ) (ms : Mirrors) (name : List ℕ) (command : LfsCommand) → SaidMirrors ms → is_name name ≡ true → checked most (asks.Extend ms) name ≡ Ok command → Again most command
extend_checked most ms name command said named e =
    let found = bound (spec_of most (ended_mirrors ms)) (λ spec. Ok (commands.Extend name spec)) command e in
    let same : commands.Extend name found.found ≡ command = let t = found.then in cc in
    subst (Again most) same (extend_again most name found.found named (fixed most (ended_mirrors ms) found.found (said_mirrors ms said) found.first))

-- ---- all forms

all_again : (most : ℕ) (a : Asked) (name : List ℕ) (command : LfsCommand) → Said a → is_complete a ≡ true → is_name name ≡ true → checked most a name ≡ Ok command → Again most command
all_again most (asks.SetStripe d) name command said whole named e = set_checked most d name command said named e
all_again most (asks.Create ms) name command said whole named e = create_checked most ms name command said named e
all_again most (asks.Extend ms) name command said whole named e = extend_checked most ms name command said named e
all_again most asks.GetStripe name command said whole named e = short_again most asks.GetStripe name command tt said whole named e
all_again most asks.Verify name command said whole named e = short_again most asks.Verify name command tt said whole named e
all_again most (asks.CompSet c) name command said whole named e = short_again most (asks.CompSet c) name command tt said whole named e
all_again most (asks.ExtendBy mirror victim) name command said whole named e = short_again most (asks.ExtendBy mirror victim) name command tt said whole named e
all_again most (asks.Split mirror to) name command said whole named e = short_again most (asks.Split mirror to) name command tt said whole named e
all_again most (asks.Delete mirror) name command said whole named e = short_again most (asks.Delete mirror) name command tt said whole named e
all_again most (asks.Resync only) name command said whole named e = short_again most (asks.Resync only) name command tt said whole named e

-- a command that some words spell is spelled by the words that it is printed as
pub printed_again : (most : ℕ) (words : List (List ℕ)) (command : LfsCommand) → Spells most words command → Spells most (words_of_command command) command
printed_again most words command (a, name, asked, right) =
    let said = said_items most (bare asked.form) a asked.behind.options asked.behind.asked (said_bare asked.form) in
    all_again most a name command said asked.behind.complete asked.behind.named right
