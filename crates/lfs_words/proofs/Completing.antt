-- Whatever words lead somewhere go on to a command.
use Rattle.std.proofs.Common.{◌≡◌, ◌≢◌, ℕ, pos, ◌-◌, ◌^◌, ◌≤◌, Bool, true, false, cond, ◌&&◌, List, [], ◌∷◌, ◌++◌, Result, Ok, Err, Option, Some, None, refl, sym, ap, subst, ◌∙◌, append_assoc, arith}
use Rattle.std.specs.Prelude.{codes, is_some, nat_eq}
use Rattle.std.specs.List.{flat_map}
use Rattle.std.proofs.lemmas.Bool.{le-leb}
use Rattle.std.proofs.lemmas.List.{append-nil}
use Rattle.std.proofs.lemmas.Grind.{flat_map-append}
use Rattle.text_words.specs.Names.{is_name}
use Rattle.text_words.specs.Numbers.{number_of, number_from}
use Rattle.text_words.specs.Sizes.{size_of, end_of}
use Rattle.flr_base.specs.Faults.{Begins}
use Rattle.flr_base.proofs.Machine.{Reads}
use Rattle.flr_base.proofs.Reader.{ok_step}
use Rattle.composite_layout.specs.FlagChanges.{FlagSets, AreFlagSets}
use Rattle.lfs_values.proofs.FlagLaws.{flags_again}
use Rattle.lfs_values.specs.Values.{stripe_size_of, stripe_count_of}
use Rattle.lfs_values.specs.MirrorIds.{ids_of}
use Rattle.lfs_values.specs.DistinctItems.{with_found, placeless}
use Rattle.flr_base.specs.Reading.{after}
use Rattle.lfs_values.specs.declared.cause.Fault.{Fault}
use Rattle.lfs_values.specs.declared.cause.Fault.TheVariants as faults
use Rattle.lfs_values.specs.declared.keys.Key.{Key}
use Rattle.lfs_values.specs.declared.keys.Key.TheVariants as keys
use Rattle.lfs_words.specs.declared.command.SplitTo.{SplitTo}
use Rattle.lfs_words.specs.declared.command.SplitTo.TheVariants as places
use Rattle.lfs_words.specs.declared.parts.Draft.{Draft}
use Rattle.lfs_words.specs.declared.asked.MirrorAsk.{MirrorAsk}
use Rattle.lfs_words.specs.declared.asked.OpenMirror.{OpenMirror}
use Rattle.lfs_words.specs.declared.asked.Mirrors.{Mirrors}
use Rattle.lfs_words.specs.declared.asked.Changed.{Changed}
use Rattle.lfs_words.specs.declared.asked.Asked.{Asked}
use Rattle.lfs_words.specs.declared.asked.Asked.TheVariants as asks
use Rattle.lfs_words.specs.declared.step.State.{State}
use Rattle.lfs_words.specs.declared.step.State.TheVariants as state
use Rattle.lfs_values.specs.FlagLists.{flags_of, no_change as no_flags}
use Rattle.lfs_words.specs.Parts.{◌>>=◌, number_or, part_value, parts_before}
use Rattle.lfs_words.specs.Options.{no_change, may_last, may_mirrors, may_stand, name_of, id_of, take, take_open, take_last_of, take_mirrors, take_value, bars_dash, begins_with_dash, is_apart, is_complete}
use Rattle.lfs_words.specs.Reading.{step}
use Rattle.lfs_words.specs.Grammar.{GetStripe, Verify, form_words, bare, Item, option_words, item_words, with_items, IsLine}
use Rattle.lfs_words.proofs.Binding.{if_ok_at}
use Rattle.lfs_words.proofs.Items.{items_more, one_item, two_words}
use Rattle.lfs_words.proofs.Lines.{Leads, LeadsToValue, Stands, leads_form, leads_more, goes, ok_is, asked_reads, asked_of}

-- ---- values that are there

one_number : (most : ℕ) → 1 ≤ most → number_from 1 most (codes "1") ≡ Some 1
unfolding number_from number_of
one_number most some = rw (le-leb 1 most some) refl

zero_end : end_of (codes "0") ≡ Some 0
unfolding end_of size_of number_from number_of
zero_end = refl

zero_size : stripe_size_of (codes "0") ≡ Some 0
unfolding stripe_size_of size_of number_from number_of
zero_size = refl

zero_count : stripe_count_of (codes "0") ≡ Some (pos 0)
unfolding stripe_count_of number_from number_of
zero_count = refl

a_name : is_name (codes "/a") ≡ true
unfolding is_name
a_name = refl

abbrev stale_word : List ℕ
stale_word = codes "stale"

abbrev stale_change : FlagSets
stale_change = record {
  set = record { init = false; stale = true; prefer = false; offline = false; nosync = false };
  clear = record { init = false; stale = false; prefer = false; offline = false; nosync = false };
}

stale_sets : AreFlagSets stale_change
stale_sets = record { init_set = refl; init_clear = refl; stale = refl; prefer = refl; offline = refl; nosync = refl }

stale_differs : stale_change ≢ no_flags
stale_differs e = let set : true ≡ false = ap (λ c. c.set.stale) e in absurd cc

stale_flags : flags_of stale_word ≡ Ok stale_change
stale_flags = flags_again stale_change stale_sets stale_differs

one_id : ids_of (codes "1") ≡ Ok (1 ∷ [])
one_id = ap (λ o. placeless (after (with_found nat_eq faults.BadNumber [] o) 0 (λ t. Ok t))) (one_number 65535 (omega arith))

-- ---- an option whose value comes next may have some value

pub record HasValue {B : Type 0} (read : List ℕ → Result B Fault) : Type 0 where
  pub value : List ℕ
  pub next : B
  pub taken : read value ≡ Ok next
  pub plain : begins_with_dash value ≡ false

part_has : (d : Draft) (k : Key) (next : Draft) → part_value d k (codes "0") ≡ Ok next → HasValue (part_value d k)
part_has d k next e = record { value = codes "0"; next = next; taken = e; plain = refl }

end_has : (d : Draft) → HasValue (part_value d keys.End)
end_has d = part_has d keys.End _ (ap (λ o. number_or o >>= λ end. Ok (record { done = parts_before d; end = Some end; size = None; count = None })) zero_end)

size_has : (d : Draft) → HasValue (part_value d keys.Size)
size_has d = part_has d keys.Size _ (ap (λ o. number_or o >>= λ size. Ok (record d { size = Some size })) zero_size)

count_has : (d : Draft) → HasValue (part_value d keys.Count)
count_has d = part_has d keys.Count _ (ap (λ o. number_or o >>= λ count. Ok (record d { count = Some count })) zero_count)

has_map : {A B : Type 0} (read : List ℕ → Result A Fault) (f : A → B) → HasValue read → HasValue (λ value. read value >>= λ x. Ok (f x))
has_map read f h = record { value = h.value; next = f h.next; taken = ap (λ r. r >>= λ x. Ok (f x)) h.taken; plain = h.plain }

id_one : id_of (codes "1") ≡ Ok 1
id_one = ap number_or (one_number 65535 (omega arith))

id_has : HasValue id_of
id_has = record { value = codes "1"; next = 1; taken = id_one; plain = refl }

name_has : HasValue name_of
name_has = record { value = codes "/a"; next = codes "/a"; taken = ap (λ b. cond b (Ok (codes "/a")) (Err faults.BadName)) a_name; plain = refl }

ids_has : HasValue ids_of
ids_has = record { value = codes "1"; next = 1 ∷ []; taken = one_id; plain = refl }

component_one : number_or (number_from 1 (2 ^ 32 - 1) (codes "1")) ≡ Ok 1
component_one = ap number_or (one_number (2 ^ 32 - 1) (omega arith))

component_has : HasValue (λ word. number_or (number_from 1 (2 ^ 32 - 1) word))
component_has = record { value = codes "1"; next = 1; taken = component_one; plain = refl }

open_has : (m : OpenMirror) (k : Key) → HasValue (part_value m.parts k) → HasValue (λ word. part_value m.parts k word >>= λ parts. Ok (record m { parts = parts }))
open_has m k h = has_map (part_value m.parts k) (λ parts. record m { parts = parts }) h

last_has : (done : List MirrorAsk) (last : Option OpenMirror) (k : Key) → may_last last k ≡ Ok tt → is_apart k ≡ true → HasValue (take_last_of done last k)
last_has done None k may apart = absurd cc
last_has done (Some m) keys.End may apart = has_map (take_open m keys.End) (λ next. record { done = done; last = Some next }) (open_has m keys.End (end_has m.parts))
last_has done (Some m) keys.Size may apart = has_map (take_open m keys.Size) (λ next. record { done = done; last = Some next }) (open_has m keys.Size (size_has m.parts))
last_has done (Some m) keys.Count may apart = has_map (take_open m keys.Count) (λ next. record { done = done; last = Some next }) (open_has m keys.Count (count_has m.parts))
last_has done (Some m) k may apart = absurd cc

mirrors_has : (most : ℕ) (ms : Mirrors) (k : Key) → may_mirrors ms k ≡ Ok tt → is_apart k ≡ true → HasValue (take_mirrors most ms k)
mirrors_has most ms keys.Mirror may apart = absurd cc
mirrors_has most ms keys.Mirrors may apart = absurd cc
mirrors_has most ms k may apart = last_has ms.done ms.last k may apart

change_has : (c : Changed) → HasValue (take_value 0 (asks.CompSet c) keys.Id)
change_has c = has_map (λ word. number_or (number_from 1 (2 ^ 32 - 1) word)) (λ id. asks.CompSet (record c { id = Some id })) component_has

extend_has : (most : ℕ) (ms : Mirrors) (k : Key) → may_stand (asks.Extend ms) k ≡ Ok tt → is_apart k ≡ true → HasValue (take_value most (asks.Extend ms) k)
extend_has most ms keys.File may apart = has_map name_of (λ victim. asks.ExtendBy (is_some ms.last) victim) name_has
extend_has most ms keys.Mirror may apart = absurd cc
extend_has most ms keys.Mirrors may apart = absurd cc
extend_has most ms k may apart = has_map (take_mirrors most ms k) (λ next. asks.Extend next) (mirrors_has most ms k may apart)

value_has : (most : ℕ) (a : Asked) (k : Key) → may_stand a k ≡ Ok tt → is_apart k ≡ true → HasValue (take_value most a k)
value_has most (asks.SetStripe d) keys.End may apart = has_map (part_value d keys.End) (λ next. asks.SetStripe next) (end_has d)
value_has most (asks.SetStripe d) keys.Size may apart = has_map (part_value d keys.Size) (λ next. asks.SetStripe next) (size_has d)
value_has most (asks.SetStripe d) keys.Count may apart = has_map (part_value d keys.Count) (λ next. asks.SetStripe next) (count_has d)
value_has most (asks.SetStripe d) keys.Id may apart = change_has no_change
value_has most (asks.CompSet c) keys.Id may apart = change_has c
value_has most (asks.Create ms) k may apart = has_map (take_mirrors most ms k) (λ next. asks.Create next) (mirrors_has most ms k may apart)
value_has most (asks.Extend ms) k may apart = extend_has most ms k may apart
value_has most (asks.Split mirror to) keys.MirrorId may apart = has_map id_of (λ id. asks.Split (Some id) to) id_has
value_has most (asks.Split mirror to) keys.File may apart = has_map name_of (λ name. asks.Split mirror (places.Named name)) name_has
value_has most (asks.Delete mirror) keys.MirrorId may apart = has_map id_of (λ id. asks.Delete (Some id)) id_has
value_has most (asks.Resync only) keys.Only may apart = has_map ids_of (λ ids. asks.Resync (Some ids)) ids_has
value_has most (asks.ExtendBy mirror victim) keys.File may apart = absurd cc
value_has most (asks.ExtendBy mirror victim) k may apart = absurd cc
value_has most a k may apart = absurd cc

no_bar : (b c : Bool) → c ≡ false → b && c ≡ false
no_bar true c e = e
no_bar false c e = refl

pub plain_take : (most : ℕ) (a : Asked) (k : Key) (value : List ℕ) → begins_with_dash value ≡ false → take most a k value ≡ take_value most a k value
plain_take most a k value e = ap (λ b. cond b (Err faults.UnknownWord) (take_value most a k value)) (no_bar (bars_dash k) (begins_with_dash value) e)

-- ---- options that are missing may come

pub record Completes (most : ℕ) (a : Asked) : Type 0 where
  pub items : List Item
  pub after : Asked
  pub asked : with_items most a items ≡ Ok after
  pub complete : is_complete after ≡ true

already : (most : ℕ) (a : Asked) → is_complete a ≡ true → Completes most a
already most a h = record { items = []; after = a; asked = refl; complete = h }

abbrev changed : Bool → Option ℕ → Option FlagSets → Asked
changed named id change = asks.CompSet (record { named = named; id = id; change = change })

with_flags : (most id : ℕ) (change : Option FlagSets) → Completes most (changed true (Some id) change)
with_flags most id (Some change) = already most _ refl
with_flags most id None =
    record { items = record { key = keys.CompFlags; value = stale_word } ∷ []; after = changed true (Some id) (Some stale_change); asked = one_item most (changed true (Some id) None) (changed true (Some id) (Some stale_change)) keys.CompFlags stale_word refl (ap (λ r. r >>= λ change. Ok (changed true (Some id) (Some change))) stale_flags); complete = refl }

before : (most : ℕ) (a next : Asked) (items : List Item) → with_items most a items ≡ Ok next → Completes most next → Completes most a
before most a next items e h = record { items = items ++ h.items; after = h.after; asked = items_more most a next h.after items h.items e h.asked; complete = h.complete }

with_id : (most : ℕ) (id : Option ℕ) (change : Option FlagSets) → Completes most (changed true id change)
with_id most (Some id) change = with_flags most id change
with_id most None change =
    before most (changed true None change) (changed true (Some 1) change) (record { key = keys.Id; value = codes "1" } ∷ [])
    (one_item most (changed true None change) (changed true (Some 1) change) keys.Id (codes "1") refl (ap (λ r. r >>= λ id. Ok (changed true (Some id) change)) component_one))
    (with_flags most 1 change)

with_name : (most : ℕ) (named : Bool) (id : Option ℕ) (change : Option FlagSets) → Completes most (changed named id change)
with_name most true id change = with_id most id change
with_name most false id change = before most (changed false id change) (changed true id change) (record { key = keys.CompSet; value = [] } ∷ []) refl (with_id most id change)

with_mirror : (most : ℕ) (mirror : Option ℕ) (to : SplitTo) → Completes most (asks.Split mirror to)
with_mirror most (Some id) to = already most _ refl
with_mirror most None to =
    record { items = record { key = keys.MirrorId; value = codes "1" } ∷ []; after = asks.Split (Some 1) to; asked = one_item most (asks.Split None to) (asks.Split (Some 1) to) keys.MirrorId (codes "1") refl (ap (λ r. r >>= λ id. Ok (asks.Split (Some id) to)) id_one); complete = refl }

with_deleted : (most : ℕ) (mirror : Option ℕ) → Completes most (asks.Delete mirror)
with_deleted most (Some id) = already most _ refl
with_deleted most None =
    record { items = record { key = keys.MirrorId; value = codes "1" } ∷ []; after = asks.Delete (Some 1); asked = one_item most (asks.Delete None) (asks.Delete (Some 1)) keys.MirrorId (codes "1") refl (ap (λ r. r >>= λ id. Ok (asks.Delete (Some id))) id_one); complete = refl }

completing : (most : ℕ) (a : Asked) → Completes most a
completing most (asks.CompSet c) = with_name most c.named c.id c.change
completing most (asks.Split mirror to) = with_mirror most mirror to
completing most (asks.Delete mirror) = with_deleted most mirror
completing most a = already most a refl

-- ---- whatever leads somewhere goes on

lead_on : (most : ℕ) (a : Asked) (words : List (List ℕ)) → Leads most a words → Begins (IsLine most) words
lead_on most a words h =
    let c = completing most a in
    let more = flat_map item_words c.items ++ codes "/a" ∷ [] in (
      more,
      (
        c.after,
        codes "/a",
        record {
          form = h.form;
          rest = flat_map item_words h.options ++ more;
          behind = record {
            options = h.options ++ c.items;
            asked = items_more most (bare h.form) a c.after h.options c.items h.asked c.asked;
            complete = c.complete;
            named = a_name;
            stand = sym (append_assoc (flat_map item_words h.options) (flat_map item_words c.items) (codes "/a" ∷ [])) ∙ ap (λ l. l ++ codes "/a" ∷ []) (sym (flat_map-append item_words h.options c.items));
          };
          stand = ap (λ l. l ++ more) h.stand ∙ append_assoc (form_words h.form) (flat_map item_words h.options) more;
        },
      ),
    )

value_on : (most : ℕ) (a : Asked) (k : Key) (words : List (List ℕ)) → LeadsToValue most a k words → Begins (IsLine most) words
value_on most a k words h =
    let v = value_has most a k h.may h.apart in
    let taken : take most a k v.value ≡ Ok v.next = plain_take most a k v.value v.plain ∙ v.taken in
    let on = lead_on most v.next (h.front ++ option_words k v.value) (leads_more most a v.next k v.value h.front h.leads h.may taken) in
    let text : (h.front ++ option_words k v.value) ++ on.0 ≡ words ++ v.value ∷ on.0 =
    ap (λ l. (h.front ++ l) ++ on.0) (two_words k h.word v.value h.spelt h.apart) ∙ append_assoc h.front (h.word ∷ v.value ∷ []) on.0
    ∙ sym (append_assoc h.front (h.word ∷ []) (v.value ∷ on.0)) ∙ ap (λ l. l ++ v.value ∷ on.0) (sym h.stand) in
    (v.value ∷ on.0, subst (IsLine most) text on.1)

goes_on : (most : ℕ) (s : State) (words : List (List ℕ)) → Stands most s words → Begins (IsLine most) words
goes_on most state.Start words h =
    let on = lead_on most (bare GetStripe) (form_words GetStripe) (leads_form most GetStripe (form_words GetStripe) tt refl) in
    (form_words GetStripe ++ on.0, subst (λ l. IsLine most (l ++ (form_words GetStripe ++ on.0))) (sym h) on.1)
goes_on most state.Lfs words h =
    let on = lead_on most (bare GetStripe) (form_words GetStripe) (leads_form most GetStripe (form_words GetStripe) tt refl) in
    (codes "getstripe" ∷ on.0, subst (λ l. IsLine most (l ++ codes "getstripe" ∷ on.0)) (sym h) on.1)
goes_on most state.Mirror words h =
    let on = lead_on most (bare Verify) (form_words Verify) (leads_form most Verify (form_words Verify) tt refl) in
    (codes "verify" ∷ on.0, subst (λ l. IsLine most (l ++ codes "verify" ∷ on.0)) (sym h) on.1)
goes_on most (state.Options a) words h = lead_on most a words h
goes_on most (state.Value a k) words h = value_on most a k words h
goes_on most (state.Done a name) words h = ([], subst (IsLine most) (sym (append-nil words)) (a, name, asked_of most a name words h))

pub lfs_reads : (most : ℕ) → Reads (ok_step (step most)) state.Start (IsLine most) (Stands most)
lfs_reads most = record {
  first = refl;
  next = λ s t words word h e. if_ok_at (step most s word) (λ u. Stands most u (words ++ word ∷ [])) t (goes most s word words h) (ok_is (step most s word) t e);
  goes_on = λ s words h. goes_on most s words h;
  all = λ words h. (state.Done h.0 h.1, asked_reads most words h.0 h.1 h.2);
}
