-- What is known of each command that some words spell.
use Rattle.std.proofs.Common.{◌≡◌, ◌≢◌, ℕ, ℤ, pos, negsuc, ◌≤◌, Bool, true, false, cond, eqb, ltb, List, [], ◌∷◌, length, map, Ok, Err, Option, Some, None, refl, sym, subst, arith}
use Rattle.std.specs.Prelude.{IfOk, ◌≤ℤ◌}
use Rattle.std.specs.List.{AllByRecursion}
use Rattle.std.specs.Str.{bytes_eq}
use Rattle.std.proofs.lemmas.Bool.{ltb-false}
use Rattle.std.proofs.lemmas.List.{length-map}
use Rattle.std.proofs.lemmas.Slice.Eq.{bytes_eq-Decides}
use Rattle.composite_layout.specs.FlagChanges.{FlagSets}
use Rattle.composite_layout.specs.declared.spec.Part.{Part}
use Rattle.composite_layout.specs.declared.spec.MirrorSpec.{MirrorSpec}
use Rattle.composite_layout.specs.declared.spec.SpecError.{SpecError}
use Rattle.composite_layout.specs.Specs.{IsAskedPart, refusal_of, normal_mirror, IsSpec}
use Rattle.composite_layout.proofs.Good.{good}
use Rattle.lfs_values.specs.Values.{IsStripeCount}
use Rattle.lfs_values.specs.FlagLists.{flags_text}
use Rattle.lfs_values.proofs.FlagLaws.{flags_takes, spelled_good}
use Rattle.lfs_values.specs.declared.cause.Cause.TheVariants as causes
use Rattle.lfs_words.specs.declared.command.SplitTo.{SplitTo}
use Rattle.lfs_words.specs.declared.command.SplitTo.TheVariants as places
use Rattle.lfs_words.specs.declared.command.LfsCommand.{LfsCommand}
use Rattle.lfs_words.specs.declared.command.LfsCommand.TheVariants as commands
use Rattle.lfs_words.specs.declared.asked.MirrorAsk.{MirrorAsk}
use Rattle.lfs_words.specs.declared.asked.Asked.{Asked}
use Rattle.lfs_words.specs.declared.asked.Asked.TheVariants as asks
use Rattle.lfs_words.specs.declared.parts.Draft.{Draft}
use Rattle.lfs_words.specs.Options.{ended_mirrors}
use Rattle.lfs_words.specs.Checking.{expanded, unless, spec_of, alone, other_file, checked_to, checked_split, checked_delete, checked_change, checked_extend_by, checked}
use Rattle.lfs_words.specs.Goodness.{IsGoodAsk}
use Rattle.lfs_words.specs.Grammar.{bare, Spells}
use Rattle.lfs_words.proofs.Binding.{if_bound, if_ok_at}
use Rattle.lfs_words.proofs.Expanding.{asked_all}
use Rattle.lfs_words.proofs.Saying.{Said, SaidPart, SaidAsk, SaidDraft, SaidTo, said_items, said_bare, said_mirrors, said_parts, some_parts}
use Rattle.lfs_words.specs.Facts.{IsName, IsSpecOf, IsSplitOf, IsSound}

-- ---- specs

count_asked : (n : ℤ) → IsStripeCount n → negsuc 0 ≤ℤ n
count_asked (pos n) h = omega arith
count_asked (negsuc n) h = subst (λ (m : ℕ). negsuc 0 ≤ℤ negsuc m) (sym h) (omega arith)

asked_parts : (ps : List Part) → AllByRecursion SaidPart ps → AllByRecursion IsAskedPart ps
asked_parts [] h = tt
asked_parts (p ∷ ps) h = ((h.0.1, count_asked p.count h.0.2), asked_parts ps h.1)

good_asks : (ms : List MirrorAsk) → AllByRecursion SaidAsk ms → AllByRecursion IsGoodAsk ms
good_asks [] h = tt
good_asks (m ∷ ms) h = ((h.0.0, asked_parts m.parts h.0.1), good_asks ms h.1)

not_then : (b : Bool) (e : SpecError) (o : Option SpecError) → cond b (Some e) o ≡ None → (b ≡ false) × (o ≡ None)
not_then true e o h = absurd cc
not_then false e o h = (refl, h)

-- what isn't refused has few mirrors
few_mirrors : (ms : List MirrorSpec) (most : ℕ) → refusal_of ms most ≡ None → length ms ≤ most
few_mirrors ms most h =
    let one = not_then (eqb (length ms) 0) _ _ h in
    let two = not_then (ltb most (length ms)) _ _ one.1 in
    ltb-false most (length ms) two.0

unless_ok : (o : Option SpecError) (made spec : List MirrorSpec) → unless o made ≡ Ok spec → (o ≡ None) × (made ≡ spec)
unless_ok None made spec e = (refl, cc)
unless_ok (Some r) made spec e = absurd cc

spec_good : (most : ℕ) (asks : List MirrorAsk) (spec : List MirrorSpec) → most ≤ 32 → AllByRecursion SaidAsk asks → spec_of most asks ≡ Ok spec → IsSpecOf most spec
spec_good most asks spec le said e =
    let u = unless_ok (refusal_of (expanded asks) most) (map normal_mirror (expanded asks)) spec e in
    let good_spec : IsSpec (map normal_mirror (expanded asks)) = good (expanded asks) most le (asked_all asks (expanded asks) refl (good_asks asks said)) u.0 in
    let few = few_mirrors (expanded asks) most u.0 in
    let same : length (map normal_mirror (expanded asks)) ≡ length (expanded asks) = length-map (expanded asks) normal_mirror in
    subst (IsSpecOf most) u.1 (good_spec, omega arith)

-- one mirror of its own
one_good : (most : ℕ) (d : Draft) (spec : List MirrorSpec) → most ≤ 32 → SaidDraft d → spec_of most (alone d) ≡ Ok spec → IsSpecOf 1 spec
one_good most d spec le said e =
    let u = unless_ok (refusal_of (expanded (alone d)) most) (map normal_mirror (expanded (alone d))) spec e in
    let all = spec_good most (alone d) spec le ((some_parts d, said_parts d said), tt) e in
    (all.0, subst (λ (ms : List MirrorSpec). length ms ≤ 1) u.1 (omega arith))

-- ---- names

other_good : (other name : List ℕ) (u : Unit {0}) → other_file other name ≡ Ok u → other ≢ name
other_good other name u e same =
    let equal : bytes_eq other name ≡ true = (bytes_eq-Decides other name).1 same in
    let clash : other_file other name ≡ Err causes.SameFile = rw equal refl in absurd cc

to_good : (to : SplitTo) (name : List ℕ) (u : Unit {0}) → SaidTo to → checked_to to name ≡ Ok u → IsSplitOf name to
to_good places.Default name u h e = tt
to_good (places.Named new) name u h e = (h, other_good new name u e)
to_good places.Destroy name u h e = tt

-- ---- commands

change_good : (most : ℕ) (id : Option ℕ) (change : Option FlagSets) (name : List ℕ) → Said (asks.CompSet (record { named = true; id = id; change = change })) → IsName name → IfOk (checked_change id change name) (IsSound most)
change_good most None change name said named = tt
change_good most (Some id) None name said named = tt
change_good most (Some id) (Some change) name said named =
    let range = said.0 in
    (named, range.0, omega arith, (spelled_good (flags_text change) change (flags_takes (flags_text change) change said.1)).0)

by_good : (most : ℕ) (mirror : Bool) (victim name : List ℕ) → IsName victim → IsName name → IfOk (checked_extend_by mirror victim name) (IsSound most)
by_good most true victim name h named = if_bound (other_file victim name) (λ _. Ok (commands.ExtendBy name victim)) (IsSound most) (λ u e. (named, h, other_good victim name u e))
by_good most false victim name h named = if_bound (other_file victim name) _ (IsSound most) (λ _ _. tt)

split_good : (most : ℕ) (mirror : Option ℕ) (to : SplitTo) (name : List ℕ) → Said (asks.Split mirror to) → IsName name → IfOk (checked_split mirror to name) (IsSound most)
split_good most None to name said named = tt
split_good most (Some id) to name said named = if_bound (checked_to to name) (λ _. Ok (commands.Split name id to)) (IsSound most) (λ u e. (named, said.0, to_good to name u said.1 e))

delete_good : (most : ℕ) (mirror : Option ℕ) (name : List ℕ) → Said (asks.Delete mirror) → IsName name → IfOk (checked_delete mirror name) (IsSound most)
delete_good most None name said named = tt
delete_good most (Some id) name said named = (named, said)

checked_good : (most : ℕ) (a : Asked) (name : List ℕ) → most ≤ 32 → Said a → IsName name → IfOk (checked most a name) (IsSound most)
checked_good most asks.GetStripe name le said named = named
checked_good most asks.Verify name le said named = named
checked_good most (asks.SetStripe d) name le said named = if_bound (spec_of most (alone d)) (λ spec. Ok (commands.SetStripe name spec)) (IsSound most) (λ spec e. (named, one_good most d spec le said e))
checked_good most (asks.CompSet c) name le said named = change_good most c.id c.change name said named
checked_good most (asks.Create ms) name le said named =
    if_bound (spec_of most (ended_mirrors ms)) (λ spec. Ok (commands.Create name spec)) (IsSound most) (λ spec e. (named, spec_good most (ended_mirrors ms) spec le (said_mirrors ms said) e))
checked_good most (asks.Extend ms) name le said named =
    if_bound (spec_of most (ended_mirrors ms)) (λ spec. Ok (commands.Extend name spec)) (IsSound most) (λ spec e. (named, spec_good most (ended_mirrors ms) spec le (said_mirrors ms said) e))
checked_good most (asks.ExtendBy mirror victim) name le said named = by_good most mirror victim name said named
checked_good most (asks.Split mirror to) name le said named = split_good most mirror to name said named
checked_good most (asks.Delete mirror) name le said named = delete_good most mirror name said named
checked_good most (asks.Resync only) name le said named = (named, said)

pub spelled_sound : (most : ℕ) (words : List (List ℕ)) (command : LfsCommand) → most ≤ 32 → Spells most words command → IsSound most command
spelled_sound most words command le (a, name, asked, right) =
    let said = said_items most (bare asked.form) a asked.behind.options asked.behind.asked (said_bare asked.form) in
    if_ok_at (checked most a name) (IsSound most) command (checked_good most a name le said asked.behind.named) right
