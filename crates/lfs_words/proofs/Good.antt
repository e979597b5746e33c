-- What options ask for stays within the ranges of their values.
use Rattle.std.proofs.Common.{◌≡◌, ℕ, ℤ, pos, negsuc, ◌-◌, ◌^◌, ◌<◌, ◌≤◌, ◌&&◌, List, [], ◌∷◌, ◌++◌, length, Ok, Option, Some, None, refl, sym, ap, subst, ◌∙◌, arith}
use Rattle.std.specs.Prelude.{IfOk, is_some, ◌≤ℤ◌}
use Rattle.std.specs.List.{AllByRecursion}
use Rattle.std.proofs.lemmas.Bool.{cond_both}
use Rattle.composite_layout.specs.declared.spec.Part.{Part}
use Rattle.composite_layout.specs.Specs.{IsAskedPart}
use Rattle.composite_layout.proofs.New.{all_append}
use Rattle.lfs_values.specs.declared.keys.Key.{Key}
use Rattle.lfs_values.specs.declared.keys.Key.TheVariants as keys
use Rattle.lfs_values.specs.Values.{stripe_size_of, stripe_count_of, IsStripeCount}
use Rattle.lfs_values.proofs.ValueLaws.{stripe_size_takes, stripe_count_takes}
use Rattle.text_words.specs.Sizes.{end_of}
use Rattle.text_words.specs.Numbers.{number_from}
use Rattle.lfs_values.specs.MirrorIds.{ids_of}
use Rattle.lfs_values.specs.FlagLists.{flags_of}
use Rattle.lfs_words.specs.declared.command.SplitTo.TheVariants as places
use Rattle.lfs_words.specs.declared.command.SplitTo.{SplitTo}
use Rattle.lfs_words.specs.declared.parts.Draft.{Draft}
use Rattle.lfs_words.specs.declared.asked.MirrorAsk.{MirrorAsk}
use Rattle.lfs_words.specs.declared.asked.OpenMirror.{OpenMirror}
use Rattle.lfs_words.specs.declared.asked.Mirrors.{Mirrors}
use Rattle.lfs_words.specs.declared.asked.Changed.{Changed}
use Rattle.lfs_words.specs.declared.asked.Asked.{Asked}
use Rattle.lfs_words.specs.declared.asked.Asked.TheVariants as asks
use Rattle.lfs_words.specs.Parts.{◌>>=◌, number_or, no_parts, ended_part, parts_of, parts_before, part_value}
use Rattle.lfs_words.specs.Options.{name_of, id_of, no_change, take_change, take_set, ended_mirror, with_last, ended_mirrors, next_mirror, take_open, take_last_of, take_mirrors, take_extend, take_split, take_value, take, bars_dash, begins_with_dash}
use Rattle.lfs_words.specs.Goodness.{IsGoodDraft, IsGoodAsk, IsGoodLast, AreGood, IsGood}
use Rattle.lfs_words.proofs.Binding.{if_bound, if_either, if_map, if_any}

pub good_no_parts : IsGoodDraft no_parts
good_no_parts = record { done = tt; last = (omega arith, omega arith) }

pub good_parts : (d : Draft) → IsGoodDraft d → AllByRecursion IsAskedPart (parts_of d)
good_parts d h = all_append IsAskedPart d.done (ended_part d ∷ []) h.done (h.last, tt)

some_parts : (ps : List Part) (p : Part) → 0 < length (ps ++ p ∷ [])
some_parts [] p = omega arith
some_parts (q ∷ ps) p = let more = some_parts ps p in omega arith

pub good_ask : (d : Draft) → IsGoodDraft d → (0 < length (parts_of d)) × AllByRecursion IsAskedPart (parts_of d)
good_ask d h = (some_parts d.done (ended_part d), good_parts d h)

good_before : (d : Draft) → IsGoodDraft d → AllByRecursion IsAskedPart (parts_before d)
good_before d h = cond_both (is_some d.end) (parts_of d) d.done (AllByRecursion IsAskedPart) (λ _. good_parts d h) (λ _. h.done)

count_asked : (n : ℤ) → IsStripeCount n → negsuc 0 ≤ℤ n
count_asked (pos n) h = omega arith
count_asked (negsuc n) h = subst (λ (m : ℕ). negsuc 0 ≤ℤ negsuc m) (sym h) (omega arith)

size_most : (size : ℕ) (word : List ℕ) (o : Option ℕ) → stripe_size_of word ≡ o → number_or o ≡ Ok size → size ≤ 2 ^ 30
size_most size word (Some n) is e = let same : n ≡ size = cc in (stripe_size_takes word size (is ∙ ap (λ x. Some x) same)).0
size_most size word None is e = absurd cc

count_least : (count : ℤ) (word : List ℕ) (o : Option ℤ) → stripe_count_of word ≡ o → number_or o ≡ Ok count → negsuc 0 ≤ℤ count
count_least count word (Some n) is e = let same : n ≡ count = cc in count_asked count (stripe_count_takes word count (is ∙ ap (λ x. Some x) same)).0
count_least count word None is e = absurd cc

good_value : (d : Draft) (k : Key) (word : List ℕ) → IsGoodDraft d → IfOk (part_value d k word) IsGoodDraft
good_value d keys.End word h = if_bound (number_or (end_of word)) _ IsGoodDraft (λ end e. record { done = good_before d h; last = (omega arith, omega arith) })
good_value d keys.Size word h = if_bound (number_or (stripe_size_of word)) _ IsGoodDraft (λ size e. record { done = h.done; last = (size_most size word (stripe_size_of word) refl e, h.last.1) })
good_value d keys.Count word h = if_bound (number_or (stripe_count_of word)) _ IsGoodDraft (λ count e. record { done = h.done; last = (h.last.0, count_least count word (stripe_count_of word) refl e) })
good_value d k word h = tt

good_change : (c : Changed) (k : Key) (word : List ℕ) → IfOk (take_change c k word) IsGood
good_change c keys.CompSet word = tt
good_change c keys.Id word = if_any (number_or (number_from 1 (2 ^ 32 - 1) word)) (λ id. asks.CompSet (record c { id = Some id })) IsGood (λ id. tt)
good_change c keys.CompFlags word = if_any (flags_of word) (λ change. asks.CompSet (record c { change = Some change })) IsGood (λ change. tt)
good_change c k word = tt

set_value : (d : Draft) (k : Key) (word : List ℕ) → IsGoodDraft d → IfOk (part_value d k word >>= λ next. Ok (asks.SetStripe next)) IsGood
set_value d k word h = if_map (part_value d k word) IsGoodDraft (λ next. asks.SetStripe next) IsGood (good_value d k word h) (λ next g. g)

good_set : (d : Draft) (k : Key) (word : List ℕ) → IsGoodDraft d → IfOk (take_set d k word) IsGood
good_set d keys.CompSet word h = good_change no_change keys.CompSet word
good_set d keys.Id word h = good_change no_change keys.Id word
good_set d keys.CompFlags word h = good_change no_change keys.CompFlags word
good_set d k word h = set_value d k word h

-- ---- mirrors

good_with_last : (done : List MirrorAsk) (last : Option OpenMirror) → AllByRecursion IsGoodAsk done → IsGoodLast last → AllByRecursion IsGoodAsk (with_last done last)
good_with_last done None h k = h
good_with_last done (Some m) h k = all_append IsGoodAsk done (ended_mirror m ∷ []) h (good_ask m.parts k, tt)

pub good_mirrors : (ms : Mirrors) → AreGood ms → AllByRecursion IsGoodAsk (ended_mirrors ms)
good_mirrors ms h = good_with_last ms.done ms.last h.done h.last

good_next : (ms : Mirrors) (count : Option ℕ) → AreGood ms → AreGood (next_mirror ms count)
good_next ms count h = record { done = good_mirrors ms h; last = good_no_parts }

open_value : (m : OpenMirror) (k : Key) (word : List ℕ) → IsGoodDraft m.parts → IfOk (part_value m.parts k word >>= λ parts. Ok (record m { parts = parts })) (λ next. IsGoodDraft next.parts)
open_value m k word h = if_map (part_value m.parts k word) IsGoodDraft (λ parts. record m { parts = parts }) (λ next. IsGoodDraft next.parts) (good_value m.parts k word h) (λ next g. g)

good_open : (m : OpenMirror) (k : Key) (word : List ℕ) → IsGoodDraft m.parts → IfOk (take_open m k word) (λ next. IsGoodDraft next.parts)
good_open m keys.Prefer word h = h
good_open m k word h = open_value m k word h

good_last : (done : List MirrorAsk) (last : Option OpenMirror) (k : Key) (word : List ℕ) → AllByRecursion IsGoodAsk done → IsGoodLast last → IfOk (take_last_of done last k word) AreGood
good_last done None k word h g = tt
good_last done (Some m) k word h g =
    if_map (take_open m k word) (λ next. IsGoodDraft next.parts) (λ next. record { done = done; last = Some next }) AreGood (good_open m k word g) (λ next p. record { done = h; last = p })

good_take_mirrors : (most : ℕ) (ms : Mirrors) (k : Key) (word : List ℕ) → AreGood ms → IfOk (take_mirrors most ms k word) AreGood
good_take_mirrors most ms keys.Mirror word h = good_next ms None h
good_take_mirrors most ms keys.Mirrors word h = if_any (number_or (number_from 1 most word)) (λ count. next_mirror ms (Some count)) AreGood (λ count. good_next ms (Some count) h)
good_take_mirrors most ms k word h = good_last ms.done ms.last k word h.done h.last

extend_value : (most : ℕ) (ms : Mirrors) (k : Key) (word : List ℕ) → AreGood ms → IfOk (take_mirrors most ms k word >>= λ next. Ok (asks.Extend next)) IsGood
extend_value most ms k word h = if_map (take_mirrors most ms k word) AreGood (λ next. asks.Extend next) IsGood (good_take_mirrors most ms k word h) (λ next g. g)

good_extend : (most : ℕ) (ms : Mirrors) (k : Key) (word : List ℕ) → AreGood ms → IfOk (take_extend most ms k word) IsGood
good_extend most ms keys.File word h = if_any (name_of word) (λ victim. asks.ExtendBy (is_some ms.last) victim) IsGood (λ victim. tt)
good_extend most ms k word h = extend_value most ms k word h

good_split : (mirror : Option ℕ) (to : SplitTo) (k : Key) (word : List ℕ) → IfOk (take_split mirror to k word) IsGood
good_split mirror to keys.MirrorId word = if_any (id_of word) (λ id. asks.Split (Some id) to) IsGood (λ id. tt)
good_split mirror to keys.MirrorIdIs word = if_any (id_of word) (λ id. asks.Split (Some id) to) IsGood (λ id. tt)
good_split mirror to keys.Destroy word = tt
good_split mirror to keys.File word = if_any (name_of word) (λ name. asks.Split mirror (places.Named name)) IsGood (λ name. tt)
good_split mirror to k word = tt

good_take_value : (most : ℕ) (a : Asked) (k : Key) (word : List ℕ) → IsGood a → IfOk (take_value most a k word) IsGood
good_take_value most asks.GetStripe k word h = tt
good_take_value most asks.Verify k word h = tt
good_take_value most (asks.SetStripe d) k word h = good_set d k word h
good_take_value most (asks.CompSet c) k word h = good_change c k word
good_take_value most (asks.Create ms) k word h = if_map (take_mirrors most ms k word) AreGood (λ next. asks.Create next) IsGood (good_take_mirrors most ms k word h) (λ next g. g)
good_take_value most (asks.Extend ms) k word h = good_extend most ms k word h
good_take_value most (asks.ExtendBy mirror victim) k word h = tt
good_take_value most (asks.Split mirror to) k word h = good_split mirror to k word
good_take_value most (asks.Delete mirror) k word h = if_any (id_of word) (λ id. asks.Delete (Some id)) IsGood (λ id. tt)
good_take_value most (asks.Resync only) k word h = if_any (ids_of word) (λ ids. asks.Resync (Some ids)) IsGood (λ ids. tt)

-- what is asked for with one more option is within the ranges
pub good_take : (most : ℕ) (a : Asked) (k : Key) (word : List ℕ) → IsGood a → IfOk (take most a k word) IsGood
good_take most a k word h = if_either (bars_dash k && begins_with_dash word) _ (take_value most a k word) IsGood (λ _. tt) (λ _. good_take_value most a k word h)
