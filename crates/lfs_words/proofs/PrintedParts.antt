-- Parts and mirrors are asked for by the words that they are printed as.
use Rattle.std.proofs.Common.{◌≡◌, ℕ, ◌-◌, ◌^◌, ◌<◌, ◌≤◌, Bool, true, false, cond, ◌&&◌, eqb, List, [], ◌∷◌, ◌++◌, length, map, Ok, Err, Some, None, refl, sym, ap, ◌∙◌, append_assoc, arith, inl, inr}
use Rattle.std.specs.Prelude.{codes}
use Rattle.std.specs.List.{flat_map, AllByRecursion}
use Rattle.std.specs.Fmt.{decimal, signed_decimal}
use Rattle.std.proofs.lemmas.Bool.{cond_both, eqb-true, eqb-false}
use Rattle.std.proofs.lemmas.Grind.{flat_map-append}
use Rattle.std.proofs.lemmas.List.{append-nil}
use Rattle.composite_layout.specs.declared.spec.Part.{Part}
use Rattle.composite_layout.specs.declared.spec.MirrorSpec.{MirrorSpec}
use Rattle.text_words.specs.Sizes.{end_of, end_text}
use Rattle.text_words.proofs.SizeLaws.{end_read}
use Rattle.lfs_values.specs.declared.cause.Fault.TheVariants as faults
use Rattle.lfs_values.specs.declared.keys.Key.{Key}
use Rattle.lfs_values.specs.declared.keys.Key.TheVariants as keys
use Rattle.lfs_values.specs.Values.{stripe_size_of}
use Rattle.lfs_values.proofs.ValueLaws.{stripe_size_read, stripe_count_read}
use Rattle.lfs_words.specs.declared.parts.Draft.{Draft}
use Rattle.lfs_words.specs.declared.asked.MirrorAsk.{MirrorAsk}
use Rattle.lfs_words.specs.declared.asked.Mirrors.{Mirrors}
use Rattle.lfs_words.specs.declared.asked.Asked.{Asked}
use Rattle.lfs_words.specs.Parts.{◌>>=◌, number_or, no_parts, part_stands, part_value, parts_of, parts_before}
use Rattle.lfs_words.specs.Options.{may_stand, take, take_value, next_mirror, ended_mirrors, bars_dash, begins_with_dash}
use Rattle.lfs_words.specs.Printing.{part_words, prefer_words, mirror_words}
use Rattle.lfs_words.specs.Grammar.{Item, item_words, with_items}
use Rattle.lfs_words.proofs.Items.{items_more, one_item}
use Rattle.lfs_words.proofs.Saying.{SaidPart}
use Rattle.lfs_words.proofs.Printed.{item, decimal_plain}

-- ---- the values of a part

end_again : (n : ℕ) → n ≤ 2 ^ 64 - 1 → end_of (end_text (codes "-1") n) ≡ Some n
end_again n le = cond_both (eqb n (2 ^ 64 - 1)) (codes "-1") (decimal n) (λ w. end_of w ≡ Some n)
    (λ t. end_read (codes "-1") n (inl (eqb-true n (2 ^ 64 - 1) t, inl refl)))
    (λ f. let other = eqb-false n (2 ^ 64 - 1) f in let less : n < 2 ^ 64 - 1 = omega arith in end_read (decimal n) n (inr (less, inl refl)))

size_again : (n : ℕ) → n ≤ 2 ^ 30 → stripe_size_of (decimal n) ≡ Some n
size_again n le = let less : n < 2 ^ 64 - 1 = omega arith in stripe_size_read (decimal n) n le (less, inl refl)

-- ---- parts, wherever they are asked for

abbrev pub IsPartKey : Key → Type 0
IsPartKey keys.End = Unit {0}
IsPartKey keys.Size = Unit {0}
IsPartKey keys.Count = Unit {0}
IsPartKey k = ⊥

-- what is asked for holds the parts, so their options may stand, and add to them
pub record Holds (most : ℕ) (hold : Draft → Asked) : Type 0 where
  pub may : (d : Draft) (k : Key) → IsPartKey k → part_stands d k ≡ Ok tt → may_stand (hold d) k ≡ Ok tt
  pub takes : (d next : Draft) (k : Key) (word : List ℕ) → IsPartKey k → part_value d k word ≡ Ok next → take_value most (hold d) k word ≡ Ok (hold next)

item_on : (most : ℕ) (hold : Draft → Asked) → Holds most hold → (d next : Draft) (k : Key) (value : List ℕ) → IsPartKey k → part_stands d k ≡ Ok tt → (bars_dash k && begins_with_dash value) ≡ false → part_value d k value ≡ Ok next
    → with_items most (hold d) (item k value ∷ []) ≡ Ok (hold next)
item_on most hold h d next k value part may plain taken =
    one_item most (hold d) (hold next) k value (h.may d k part may) (ap (λ b. cond b (Err faults.UnknownWord) (take_value most (hold d) k value)) plain ∙ h.takes d next k value part taken)

-- the parts, of which this is the last
abbrev pub draft_of : List Part → Part → Draft
draft_of done p = record { done = done; end = Some p.end; size = Some p.size; count = Some p.count }

abbrev pub part_items : Part → List Item
part_items p = item keys.End (end_text (codes "-1") p.end) ∷ item keys.Size (decimal p.size) ∷ item keys.Count (signed_decimal p.count) ∷ []

abbrev with_end : Draft → ℕ → Draft
with_end d end = record { done = parts_before d; end = Some end; size = None; count = None }

abbrev with_size : Draft → ℕ → ℕ → Draft
with_size d end size = record { done = parts_before d; end = Some end; size = Some size; count = None }

part_on : (most : ℕ) (hold : Draft → Asked) → Holds most hold → (d : Draft) (p : Part) → part_stands d keys.End ≡ Ok tt → SaidPart p → with_items most (hold d) (part_items p) ≡ Ok (hold (draft_of (parts_before d) p))
part_on most hold h d p free said =
    let d1 = with_end d p.end in
    let d2 = with_size d p.end p.size in
    let d3 = draft_of (parts_before d) p in
    let one = item_on most hold h d d1 keys.End (end_text (codes "-1") p.end) tt free refl (ap (λ o. number_or o >>= λ end. Ok (with_end d end)) (end_again p.end said.0)) in
    let two = item_on most hold h d1 d2 keys.Size (decimal p.size) tt refl (decimal_plain p.size (let le = said.1 in omega arith)) (ap (λ o. number_or o >>= λ size. Ok (with_size d p.end size)) (size_again p.size said.1)) in
    let three = item_on most hold h d2 d3 keys.Count (signed_decimal p.count) tt refl refl (ap (λ o. number_or o >>= λ count. Ok (record d2 { count = Some count })) (stripe_count_read p.count said.2)) in
    let last = items_more most (hold d1) (hold d2) (hold d3) (item keys.Size (decimal p.size) ∷ []) (item keys.Count (signed_decimal p.count) ∷ []) two three in
    items_more most (hold d) (hold d1) (hold d3) (item keys.End (end_text (codes "-1") p.end) ∷ []) (item keys.Size (decimal p.size) ∷ item keys.Count (signed_decimal p.count) ∷ []) one last

-- the parts and those behind them
abbrev last_draft : List Part → Part → List Part → Draft
last_draft done q [] = draft_of done q
last_draft done q (p ∷ ps) = last_draft (done ++ q ∷ []) p ps

last_parts : (done : List Part) (q : Part) (ps : List Part) → parts_of (last_draft done q ps) ≡ done ++ q ∷ ps
last_parts done q [] = refl
last_parts done q (p ∷ ps) = last_parts (done ++ q ∷ []) p ps ∙ append_assoc done (q ∷ []) (p ∷ ps)

parts_on : (most : ℕ) (hold : Draft → Asked) → Holds most hold → (done : List Part) (q : Part) (ps : List Part) → AllByRecursion SaidPart ps → with_items most (hold (draft_of done q)) (flat_map part_items ps) ≡ Ok (hold (last_draft done q ps))
parts_on most hold h done q [] said = refl
parts_on most hold h done q (p ∷ ps) said =
    items_more most (hold (draft_of done q)) (hold (draft_of (done ++ q ∷ []) p)) (hold (last_draft (done ++ q ∷ []) p ps)) (part_items p) (flat_map part_items ps)
    (part_on most hold h (draft_of done q) p refl said.0) (parts_on most hold h (done ++ q ∷ []) p ps said.1)

-- the draft of these parts alone
abbrev pub draft_for : List Part → Draft
draft_for [] = no_parts
draft_for (p ∷ ps) = last_draft [] p ps

pub draft_parts : (ps : List Part) → 0 < length ps → parts_of (draft_for ps) ≡ ps
draft_parts [] some = absurd (omega arith)
draft_parts (p ∷ ps) some = last_parts [] p ps

pub all_on : (most : ℕ) (hold : Draft → Asked) → Holds most hold → (ps : List Part) → AllByRecursion SaidPart ps → with_items most (hold no_parts) (flat_map part_items ps) ≡ Ok (hold (draft_for ps))
all_on most hold h [] said = refl
all_on most hold h (p ∷ ps) said =
    items_more most (hold no_parts) (hold (draft_of [] p)) (hold (last_draft [] p ps)) (part_items p) (flat_map part_items ps)
    (part_on most hold h no_parts p refl said.0) (parts_on most hold h [] p ps said.1)

pub parts_stand : (ps : List Part) → flat_map item_words (flat_map part_items ps) ≡ flat_map part_words ps
parts_stand [] = refl
parts_stand (p ∷ ps) = ap (λ (r : List (List ℕ)). part_words p ++ r) (parts_stand ps)

-- ---- mirrors

abbrev pub last_is : List MirrorAsk → Bool → Draft → Mirrors
last_is done prefer d = record { done = done; last = Some (record { count = None; prefer = prefer; parts = d }) }

-- what is asked for is these mirrors
pub record Wraps (most : ℕ) (wrap : Mirrors → Asked) : Type 0 where
  pub opens : (ms : Mirrors) → may_stand (wrap ms) keys.Mirror ≡ Ok tt
  pub opened : (ms : Mirrors) → take most (wrap ms) keys.Mirror [] ≡ Ok (wrap (next_mirror ms None))
  pub prefers : (done : List MirrorAsk) → may_stand (wrap (last_is done false no_parts)) keys.Prefer ≡ Ok tt
  pub preferred : (done : List MirrorAsk) → take most (wrap (last_is done false no_parts)) keys.Prefer [] ≡ Ok (wrap (last_is done true no_parts))
  pub holds : (done : List MirrorAsk) (prefer : Bool) → Holds most (λ d. wrap (last_is done prefer d))

abbrev prefer_items : Bool → List Item
prefer_items prefer = cond prefer (item keys.Prefer [] ∷ []) []

abbrev pub mirror_items : MirrorSpec → List Item
mirror_items m = (item keys.Mirror [] ∷ prefer_items m.prefer) ++ flat_map part_items m.parts

prefer_on : (most : ℕ) (wrap : Mirrors → Asked) → Wraps most wrap → (done : List MirrorAsk) (prefer : Bool) → with_items most (wrap (last_is done false no_parts)) (prefer_items prefer) ≡ Ok (wrap (last_is done prefer no_parts))
prefer_on most wrap h done true = one_item most (wrap (last_is done false no_parts)) (wrap (last_is done true no_parts)) keys.Prefer [] (h.prefers done) (h.preferred done)
prefer_on most wrap h done false = refl

mirror_on : (most : ℕ) (wrap : Mirrors → Asked) → Wraps most wrap → (ms : Mirrors) (m : MirrorSpec) → AllByRecursion SaidPart m.parts
    → with_items most (wrap ms) (mirror_items m) ≡ Ok (wrap (last_is (ended_mirrors ms) m.prefer (draft_for m.parts)))
mirror_on most wrap h ms m said =
    let done = ended_mirrors ms in
    let one = one_item most (wrap ms) (wrap (last_is (ended_mirrors ms) false no_parts)) keys.Mirror [] (h.opens ms) (h.opened ms) in
    let two = items_more most (wrap ms) (wrap (last_is (ended_mirrors ms) false no_parts)) (wrap (last_is (ended_mirrors ms) m.prefer no_parts)) (item keys.Mirror [] ∷ []) (prefer_items m.prefer) one (prefer_on most wrap h (ended_mirrors ms) m.prefer) in
    items_more most (wrap ms) (wrap (last_is (ended_mirrors ms) m.prefer no_parts)) (wrap (last_is (ended_mirrors ms) m.prefer (draft_for m.parts))) (item keys.Mirror [] ∷ prefer_items m.prefer) (flat_map part_items m.parts) two
    (all_on most (λ d. wrap (last_is (ended_mirrors ms) m.prefer d)) (h.holds (ended_mirrors ms) m.prefer) m.parts said)

-- the mirrors and those behind them
abbrev pub mirrors_after : Mirrors → List MirrorSpec → Mirrors
mirrors_after ms [] = ms
mirrors_after ms (m ∷ specs) = mirrors_after (last_is (ended_mirrors ms) m.prefer (draft_for m.parts)) specs

abbrev pub SaidSpec : MirrorSpec → Type 0
SaidSpec m = (0 < length m.parts) × AllByRecursion SaidPart m.parts

pub mirrors_on : (most : ℕ) (wrap : Mirrors → Asked) → Wraps most wrap → (ms : Mirrors) (specs : List MirrorSpec) → AllByRecursion SaidSpec specs → with_items most (wrap ms) (flat_map mirror_items specs) ≡ Ok (wrap (mirrors_after ms specs))
mirrors_on most wrap h ms [] said = refl
mirrors_on most wrap h ms (m ∷ specs) said =
    items_more most (wrap ms) (wrap (last_is (ended_mirrors ms) m.prefer (draft_for m.parts))) (wrap (mirrors_after (last_is (ended_mirrors ms) m.prefer (draft_for m.parts)) specs)) (mirror_items m) (flat_map mirror_items specs)
    (mirror_on most wrap h ms m said.0.1) (mirrors_on most wrap h (last_is (ended_mirrors ms) m.prefer (draft_for m.parts)) specs said.1)

-- each mirror is asked for once
abbrev pub ask_of : MirrorSpec → MirrorAsk
ask_of m = record { count = 1; prefer = m.prefer; parts = m.parts }

abbrev ask : Bool → List Part → MirrorAsk
ask prefer parts = record { count = 1; prefer = prefer; parts = parts }

pub mirrors_ended : (ms : Mirrors) (specs : List MirrorSpec) → AllByRecursion SaidSpec specs → ended_mirrors (mirrors_after ms specs) ≡ ended_mirrors ms ++ map ask_of specs
mirrors_ended ms [] said = sym (append-nil (ended_mirrors ms))
mirrors_ended ms (m ∷ specs) said =
    mirrors_ended (last_is (ended_mirrors ms) m.prefer (draft_for m.parts)) specs said.1
    ∙ append_assoc (ended_mirrors ms) (ask m.prefer (parts_of (draft_for m.parts)) ∷ []) (map ask_of specs)
    ∙ ap (λ (ps : List Part). ended_mirrors ms ++ ask m.prefer ps ∷ map ask_of specs) (draft_parts m.parts said.0.0)

mirror_stands : (prefer : Bool) (ps : List Part) → flat_map item_words ((item keys.Mirror [] ∷ prefer_items prefer) ++ flat_map part_items ps) ≡ (codes "-N" ∷ prefer_words prefer) ++ flat_map part_words ps
mirror_stands true ps = ap (λ (r : List (List ℕ)). codes "-N" ∷ codes "--flags=prefer" ∷ r) (parts_stand ps)
mirror_stands false ps = ap (λ (r : List (List ℕ)). codes "-N" ∷ r) (parts_stand ps)

pub mirrors_stand : (specs : List MirrorSpec) → flat_map item_words (flat_map mirror_items specs) ≡ flat_map mirror_words specs
mirrors_stand [] = refl
mirrors_stand (m ∷ specs) =
    flat_map-append item_words (mirror_items m) (flat_map mirror_items specs)
    ∙ ap (λ (r : List (List ℕ)). r ++ flat_map item_words (flat_map mirror_items specs)) (mirror_stands m.prefer m.parts)
    ∙ ap (λ (r : List (List ℕ)). mirror_words m ++ r) (mirrors_stand specs)
