-- What is asked for can be said again: ids, names, lists and sizes have words of their own.
use Rattle.std.proofs.Common.{◌≡◌, ℕ, ◌-◌, ◌^◌, ◌<◌, ◌≤◌, true, ◌&&◌, List, [], ◌∷◌, length, Result, Ok, Err, Option, Some, None, refl, subst, arith, inl, inr}
use Rattle.std.specs.Prelude.{IfOk, IfSome, is_some}
use Rattle.std.specs.List.{AllByRecursion}
use Rattle.std.proofs.lemmas.Bool.{cond_both}
use Rattle.std.proofs.lemmas.List.{length_push}
use Rattle.composite_layout.specs.FlagChanges.{FlagSets}
use Rattle.composite_layout.specs.declared.spec.Part.{Part}
use Rattle.text_words.specs.Names.{is_name}
use Rattle.text_words.specs.Numbers.{number_from}
use Rattle.text_words.specs.Sizes.{end_of, IsEnd}
use Rattle.text_words.proofs.SizeLaws.{end_takes}
use Rattle.text_words.proofs.Spellings.{from_takes}
use Rattle.lfs_values.specs.declared.cause.Fault.TheVariants as faults
use Rattle.lfs_values.specs.declared.keys.Key.{Key}
use Rattle.lfs_values.specs.declared.keys.Key.TheVariants as keys
use Rattle.lfs_values.specs.Values.{stripe_size_of, stripe_count_of, IsStripeCount}
use Rattle.lfs_values.specs.MirrorIds.{IsMirrorId, AreMirrorIds, ids_of}
use Rattle.lfs_values.specs.FlagLists.{flags_of, flags_text}
use Rattle.lfs_values.proofs.ValueLaws.{stripe_size_takes, stripe_count_takes}
use Rattle.lfs_values.proofs.MirrorIdLaws.{ids_takes}
use Rattle.lfs_values.proofs.FlagLaws.{flags_printed}
use Rattle.lfs_words.specs.declared.command.SplitTo.{SplitTo}
use Rattle.lfs_words.specs.declared.command.SplitTo.TheVariants as places
use Rattle.lfs_words.specs.declared.parts.Draft.{Draft}
use Rattle.lfs_words.specs.declared.asked.MirrorAsk.{MirrorAsk}
use Rattle.lfs_words.specs.declared.asked.OpenMirror.{OpenMirror}
use Rattle.lfs_words.specs.declared.asked.Mirrors.{Mirrors}
use Rattle.lfs_words.specs.declared.asked.Changed.{Changed}
use Rattle.lfs_words.specs.declared.asked.Asked.{Asked}
use Rattle.lfs_words.specs.declared.asked.Asked.TheVariants as asks
use Rattle.lfs_words.specs.Parts.{◌>>=◌, number_or, no_parts, ended_part, parts_of, parts_before, part_value}
use Rattle.lfs_words.specs.Options.{name_of, id_of, no_change, take_change, take_set, ended_mirror, with_last, ended_mirrors, next_mirror, take_open, take_last_of, take_mirrors, take_extend, take_split, take_value, take, may_stand, bars_dash, begins_with_dash}
use Rattle.lfs_words.specs.Grammar.{Form, SetStripe, GetStripe, Create, Extend, Split, Delete, Resync, Verify, bare, Item, with_item, with_items}
use Rattle.lfs_words.proofs.Binding.{bound, if_either, if_map, if_ok_at}
use Rattle.composite_layout.proofs.New.{all_append}

-- a part that words may ask for
abbrev pub SaidPart : Part → Type 0
SaidPart p = (p.end ≤ 2 ^ 64 - 1) × (p.size ≤ 2 ^ 30) × IsStripeCount p.count

abbrev pub SaidDraft : Draft → Type 0
SaidDraft d = AllByRecursion SaidPart d.done × SaidPart (ended_part d)

abbrev pub SaidAsk : MirrorAsk → Type 0
SaidAsk m = (0 < length m.parts) × AllByRecursion SaidPart m.parts

abbrev pub SaidLast : Option OpenMirror → Type 0
SaidLast None = Unit {0}
SaidLast (Some m) = SaidDraft m.parts

abbrev pub SaidMirrors : Mirrors → Type 0
SaidMirrors ms = AllByRecursion SaidAsk ms.done × SaidLast ms.last

abbrev pub SaidTo : SplitTo → Type 0
SaidTo (places.Named name) = is_name name ≡ true
SaidTo _ = Unit {0}

abbrev pub IsComponentId : ℕ → Type 0
IsComponentId id = (1 ≤ id) × (id ≤ 2 ^ 32 - 1)

-- the change is read again as it is printed
abbrev pub IsSaidChange : FlagSets → Type 0
IsSaidChange change = flags_of (flags_text change) ≡ Ok change

abbrev pub Said : Asked → Type 0
Said (asks.SetStripe d) = SaidDraft d
Said (asks.Create ms) = SaidMirrors ms
Said (asks.Extend ms) = SaidMirrors ms
Said (asks.CompSet c) = IfSome c.id IsComponentId × IfSome c.change IsSaidChange
Said (asks.ExtendBy mirror victim) = is_name victim ≡ true
Said (asks.Split mirror to) = IfSome mirror IsMirrorId × SaidTo to
Said (asks.Delete mirror) = IfSome mirror IsMirrorId
Said (asks.Resync only) = IfSome only AreMirrorIds
Said _ = Unit {0}

-- ---- the values of words

ok_by : {E A : Type 0} (r : Result A E) (P : A → Type 0) → ((x : A) → r ≡ Ok x → P x) → IfOk r P
ok_by (Ok x) P h = h x refl
ok_by (Err e) P h = tt

number_by : {A : Type 0} (o : Option A) (P : A → Type 0) → ((x : A) → o ≡ Some x → P x) → IfOk (number_or o) P
number_by (Some x) P h = h x refl
number_by None P h = tt

name_said : (word : List ℕ) → IfOk (name_of word) (λ name. is_name name ≡ true)
name_said word = if_either (is_name word) (Ok word) (Err faults.BadName) (λ name. is_name name ≡ true) (λ e. e) (λ _. tt)

id_said : (word : List ℕ) → IfOk (id_of word) IsMirrorId
id_said word = number_by (number_from 1 65535 word) IsMirrorId (λ n e. let t = from_takes 1 65535 word n e in (t.0, t.1))

component_said : (word : List ℕ) → IfOk (number_or (number_from 1 (2 ^ 32 - 1) word)) IsComponentId
component_said word = number_by (number_from 1 (2 ^ 32 - 1) word) IsComponentId (λ n e. let t = from_takes 1 (2 ^ 32 - 1) word n e in (t.0, t.1))

ids_said : (word : List ℕ) → IfOk (ids_of word) AreMirrorIds
ids_said word = ok_by (ids_of word) AreMirrorIds (λ ids e. (ids_takes word ids e).0)

flags_said : (word : List ℕ) → IfOk (flags_of word) IsSaidChange
flags_said word = ok_by (flags_of word) IsSaidChange (λ change e. flags_printed word change e)

end_most : (word : List ℕ) (n : ℕ) → IsEnd word n → n ≤ 2 ^ 64 - 1
end_most word n (inl h) = let e = h.0 in omega arith
end_most word n (inr h) = let lt = h.0 in omega arith

end_said : (word : List ℕ) → IfOk (number_or (end_of word)) (λ n. n ≤ 2 ^ 64 - 1)
end_said word = number_by (end_of word) (λ n. n ≤ 2 ^ 64 - 1) (λ n e. end_most word n (end_takes word n e))

size_said : (word : List ℕ) → IfOk (number_or (stripe_size_of word)) (λ n. n ≤ 2 ^ 30)
size_said word = number_by (stripe_size_of word) (λ n. n ≤ 2 ^ 30) (λ n e. (stripe_size_takes word n e).0)

count_said : (word : List ℕ) → IfOk (number_or (stripe_count_of word)) IsStripeCount
count_said word = number_by (stripe_count_of word) IsStripeCount (λ n e. (stripe_count_takes word n e).0)

-- ---- one more option

said_no_parts : SaidDraft no_parts
said_no_parts = (tt, (omega arith, omega arith, omega arith))

pub said_parts : (d : Draft) → SaidDraft d → AllByRecursion SaidPart (parts_of d)
said_parts d h = all_append SaidPart d.done (ended_part d ∷ []) h.0 (h.1, tt)

pub some_parts : (d : Draft) → 0 < length (parts_of d)
some_parts d = let n = length_push d.done (ended_part d) in omega arith

said_before : (d : Draft) → SaidDraft d → AllByRecursion SaidPart (parts_before d)
said_before d h = cond_both (is_some d.end) (parts_of d) d.done (AllByRecursion SaidPart) (λ _. said_parts d h) (λ _. h.0)

said_value : (d : Draft) (k : Key) (word : List ℕ) → SaidDraft d → IfOk (part_value d k word) SaidDraft
said_value d keys.End word h = if_map (number_or (end_of word)) (λ n. n ≤ 2 ^ 64 - 1) (λ end. record { done = parts_before d; end = Some end; size = None; count = None }) SaidDraft (end_said word) (λ end le. (said_before d h, (le, omega arith, omega arith)))
said_value d keys.Size word h = if_map (number_or (stripe_size_of word)) (λ n. n ≤ 2 ^ 30) (λ size. record d { size = Some size }) SaidDraft (size_said word) (λ size le. (h.0, (h.1.0, le, h.1.2)))
said_value d keys.Count word h = if_map (number_or (stripe_count_of word)) IsStripeCount (λ count. record d { count = Some count }) SaidDraft (count_said word) (λ count le. (h.0, (h.1.0, h.1.1, le)))
said_value d k word h = tt

said_change : (c : Changed) (k : Key) (word : List ℕ) → Said (asks.CompSet c) → IfOk (take_change c k word) Said
said_change c keys.CompSet word h = h
said_change c keys.Id word h = if_map (number_or (number_from 1 (2 ^ 32 - 1) word)) IsComponentId (λ id. asks.CompSet (record c { id = Some id })) Said (component_said word) (λ id g. (g, h.1))
said_change c keys.CompFlags word h = if_map (flags_of word) IsSaidChange (λ change. asks.CompSet (record c { change = Some change })) Said (flags_said word) (λ change g. (h.0, g))
said_change c k word h = tt

set_said : (d : Draft) (k : Key) (word : List ℕ) → SaidDraft d → IfOk (part_value d k word >>= λ next. Ok (asks.SetStripe next)) Said
set_said d k word h = if_map (part_value d k word) SaidDraft (λ next. asks.SetStripe next) Said (said_value d k word h) (λ next g. g)

said_set : (d : Draft) (k : Key) (word : List ℕ) → SaidDraft d → IfOk (take_set d k word) Said
said_set d keys.CompSet word h = said_change no_change keys.CompSet word (tt, tt)
said_set d keys.Id word h = said_change no_change keys.Id word (tt, tt)
said_set d keys.CompFlags word h = said_change no_change keys.CompFlags word (tt, tt)
said_set d k word h = set_said d k word h

said_with_last : (done : List MirrorAsk) (last : Option OpenMirror) → AllByRecursion SaidAsk done → SaidLast last → AllByRecursion SaidAsk (with_last done last)
said_with_last done None h k = h
said_with_last done (Some m) h k = all_append SaidAsk done (ended_mirror m ∷ []) h ((some_parts m.parts, said_parts m.parts k), tt)

pub said_mirrors : (ms : Mirrors) → SaidMirrors ms → AllByRecursion SaidAsk (ended_mirrors ms)
said_mirrors ms h = said_with_last ms.done ms.last h.0 h.1

said_next : (ms : Mirrors) (count : Option ℕ) → SaidMirrors ms → SaidMirrors (next_mirror ms count)
said_next ms count h = (said_mirrors ms h, said_no_parts)

open_said : (m : OpenMirror) (k : Key) (word : List ℕ) → SaidDraft m.parts → IfOk (part_value m.parts k word >>= λ parts. Ok (record m { parts = parts })) (λ next. SaidDraft next.parts)
open_said m k word h = if_map (part_value m.parts k word) SaidDraft (λ parts. record m { parts = parts }) (λ next. SaidDraft next.parts) (said_value m.parts k word h) (λ next g. g)

said_open : (m : OpenMirror) (k : Key) (word : List ℕ) → SaidDraft m.parts → IfOk (take_open m k word) (λ next. SaidDraft next.parts)
said_open m keys.Prefer word h = h
said_open m k word h = open_said m k word h

said_last : (done : List MirrorAsk) (last : Option OpenMirror) (k : Key) (word : List ℕ) → AllByRecursion SaidAsk done → SaidLast last → IfOk (take_last_of done last k word) SaidMirrors
said_last done None k word h g = tt
said_last done (Some m) k word h g =
    if_map (take_open m k word) (λ next. SaidDraft next.parts) (λ next. record { done = done; last = Some next }) SaidMirrors (said_open m k word g) (λ next p. (h, p))

any_count : (o : Option ℕ) → IfOk (number_or o) (λ n. Unit {0})
any_count (Some n) = tt
any_count None = tt

said_take_mirrors : (most : ℕ) (ms : Mirrors) (k : Key) (word : List ℕ) → SaidMirrors ms → IfOk (take_mirrors most ms k word) SaidMirrors
said_take_mirrors most ms keys.Mirror word h = said_next ms None h
said_take_mirrors most ms keys.Mirrors word h = if_map (number_or (number_from 1 most word)) (λ n. Unit {0}) (λ count. next_mirror ms (Some count)) SaidMirrors (any_count (number_from 1 most word)) (λ count g. said_next ms (Some count) h)
said_take_mirrors most ms k word h = said_last ms.done ms.last k word h.0 h.1

extend_said : (most : ℕ) (ms : Mirrors) (k : Key) (word : List ℕ) → SaidMirrors ms → IfOk (take_mirrors most ms k word >>= λ next. Ok (asks.Extend next)) Said
extend_said most ms k word h = if_map (take_mirrors most ms k word) SaidMirrors (λ next. asks.Extend next) Said (said_take_mirrors most ms k word h) (λ next g. g)

said_extend : (most : ℕ) (ms : Mirrors) (k : Key) (word : List ℕ) → SaidMirrors ms → IfOk (take_extend most ms k word) Said
said_extend most ms keys.File word h = if_map (name_of word) (λ name. is_name name ≡ true) (λ victim. asks.ExtendBy (is_some ms.last) victim) Said (name_said word) (λ victim g. g)
said_extend most ms k word h = extend_said most ms k word h

said_split : (mirror : Option ℕ) (to : SplitTo) (k : Key) (word : List ℕ) → Said (asks.Split mirror to) → IfOk (take_split mirror to k word) Said
said_split mirror to keys.MirrorId word h = if_map (id_of word) IsMirrorId (λ id. asks.Split (Some id) to) Said (id_said word) (λ id g. (g, h.1))
said_split mirror to keys.MirrorIdIs word h = if_map (id_of word) IsMirrorId (λ id. asks.Split (Some id) to) Said (id_said word) (λ id g. (g, h.1))
said_split mirror to keys.Destroy word h = (h.0, tt)
said_split mirror to keys.File word h = if_map (name_of word) (λ name. is_name name ≡ true) (λ name. asks.Split mirror (places.Named name)) Said (name_said word) (λ name g. (h.0, g))
said_split mirror to k word h = tt

said_take_value : (most : ℕ) (a : Asked) (k : Key) (word : List ℕ) → Said a → IfOk (take_value most a k word) Said
said_take_value most asks.GetStripe k word h = tt
said_take_value most asks.Verify k word h = tt
said_take_value most (asks.SetStripe d) k word h = said_set d k word h
said_take_value most (asks.CompSet c) k word h = said_change c k word h
said_take_value most (asks.Create ms) k word h = if_map (take_mirrors most ms k word) SaidMirrors (λ next. asks.Create next) Said (said_take_mirrors most ms k word h) (λ next g. g)
said_take_value most (asks.Extend ms) k word h = said_extend most ms k word h
said_take_value most (asks.ExtendBy mirror victim) k word h = h
said_take_value most (asks.Split mirror to) k word h = said_split mirror to k word h
said_take_value most (asks.Delete mirror) k word h = if_map (id_of word) IsMirrorId (λ id. asks.Delete (Some id)) Said (id_said word) (λ id g. g)
said_take_value most (asks.Resync only) k word h = if_map (ids_of word) AreMirrorIds (λ ids. asks.Resync (Some ids)) Said (ids_said word) (λ ids g. g)

said_take : (most : ℕ) (a : Asked) (k : Key) (word : List ℕ) → Said a → IfOk (take most a k word) Said
said_take most a k word h = if_either (bars_dash k && begins_with_dash word) _ (take_value most a k word) Said (λ _. tt) (λ _. said_take_value most a k word h)

-- what options ask for can be said again
pub said_items : (most : ℕ) (a after : Asked) (items : List Item) → with_items most a items ≡ Ok after → Said a → Said after
said_items most a after [] e h = let same : a ≡ after = cc in subst Said same h
said_items most a after (i ∷ items) e h =
    let found = bound (with_item most a i) (λ x. with_items most x items) after e in
    let may = bound (may_stand a i.key) (λ _. take most a i.key i.value) found.found found.first in
    said_items most found.found after items found.then (if_ok_at (take most a i.key i.value) Said found.found (said_take most a i.key i.value h) may.then)

pub said_bare : (form : Form) → Said (bare form)
said_bare SetStripe = said_no_parts
said_bare GetStripe = tt
said_bare Create = (tt, tt)
said_bare Extend = (tt, tt)
said_bare Split = (tt, tt)
said_bare Delete = tt
said_bare Resync = tt
said_bare Verify = tt
