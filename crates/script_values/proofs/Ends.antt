-- No word of a command is an equals sign, which stands behind the command where a reply follows.
use Rattle.std.proofs.Common.{◌≡◌, ℕ, zero, suc, ℤ, pos, negsuc, ◌<◌, ◌/◌, ◌%◌, Bool, true, false, eqb, List, [], ◌∷◌, ◌++◌, Option, Some, None, refl, subst, arith}
use Rattle.std.specs.Prelude.{codes}
use Rattle.std.specs.List.{flat_map}
use Rattle.std.specs.Fmt.{decimal, signed_decimal, digits, digits_onto, digit_glyph}
use Rattle.std.proofs.lemmas.Bool.{cond_both, and_parts, eqb-true, ne_eqb, false_from_ne_true}
use Rattle.std.proofs.lemmas.Bool.Decides.{nat_tests}
use Rattle.std.proofs.lemmas.Slice.Eq.{bytes_eq-Decides}
use Rattle.flr_base.specs.declared.runs.run.Run.{Run}
use Rattle.flr_base.specs.Runs.{run_text, runs_text, runs_of}
use Rattle.composite_layout.specs.declared.spec.Part.{Part}
use Rattle.composite_layout.specs.declared.spec.MirrorSpec.{MirrorSpec}
use Rattle.text_words.specs.Lists.{list_text}
use Rattle.text_words.specs.Names.{is_name}
use Rattle.text_words.specs.Sizes.{end_text}
use Rattle.lfs_values.specs.FlagLists.{flags_text}
use Rattle.lfs_words.specs.declared.command.SplitTo.{SplitTo}
use Rattle.lfs_words.specs.declared.command.SplitTo.TheVariants as places
use Rattle.lfs_words.specs.declared.command.LfsCommand.{LfsCommand}
use Rattle.lfs_words.specs.declared.command.LfsCommand.TheVariants as lfs
use Rattle.lfs_words.specs.Printing.{part_words, prefer_words, mirror_words, parts_words, to_words, only_words, words_of_command}
use Rattle.lfs_words.proofs.Apart.{AreNamed, spelled_named}
use Rattle.script_values.specs.declared.command.Command.{Command}
use Rattle.script_values.specs.declared.command.Command.TheVariants as commands
use Rattle.script_values.specs.Commands.{IsCommandAlone}
use Rattle.script_values.specs.Texts.{is_equals, AreNoEquals, words_of}

abbrev IsOther : List ℕ → Type 0
IsOther word = is_equals word ≡ false

-- a word that begins with another byte
by_first : (c : ℕ) (cs : List ℕ) → eqb c 61 ≡ false → IsOther (c ∷ cs)
by_first c cs e = false_from_ne_true (is_equals (c ∷ cs)) (λ t.
    let same : c ∷ cs ≡ 61 ∷ [] = (bytes_eq-Decides (c ∷ cs) (codes "=")).0 t in
    let first : c ≡ 61 = cc in
    let clash : true ≡ false = subst (λ (n : ℕ). eqb n 61 ≡ false) first e in absurd cc)

name_other : (name : List ℕ) → is_name name ≡ true → IsOther name
unfolding is_name
name_other [] h = absurd cc
name_other (c ∷ cs) h = let slash = eqb-true c 47 (and_parts (eqb c 47) _ h).0 in by_first c cs (ne_eqb c 61 (λ e. omega arith))

glyph_other : (n : ℕ) → n < 16 → eqb (digit_glyph false n) 61 ≡ false
glyph_other n lt = grind (arith, nat_tests)

-- the first digit of a number is one
abbrev BeginsOther : List ℕ → Type 0
BeginsOther [] = ⊥
BeginsOther (c ∷ cs) = eqb c 61 ≡ false

begins_is : (word : List ℕ) → BeginsOther word → IsOther word
begins_is [] h = absurd h
begins_is (c ∷ cs) h = by_first c cs h

begins_more : (word text : List ℕ) → BeginsOther word → BeginsOther (word ++ text)
begins_more [] text h = absurd h
begins_more (c ∷ cs) text h = h

digits_begin : (k n : ℕ) (after : List ℕ) → BeginsOther after → BeginsOther (digits_onto k 10 false n after)
digits_begin zero n after h = h
digits_begin (suc k) n after h =
    let more : BeginsOther (digit_glyph false (n % 10) ∷ after) = glyph_other (n % 10) (omega arith) in
    cond_both (eqb (n / 10) 0) (digit_glyph false (n % 10) ∷ after) (digits_onto k 10 false (n / 10) (digit_glyph false (n % 10) ∷ after)) BeginsOther (λ t. more) (λ f. digits_begin k (n / 10) (digit_glyph false (n % 10) ∷ after) more)

decimal_begins : (n : ℕ) → BeginsOther (decimal n)
unfolding digits
decimal_begins n =
    let last : BeginsOther (digit_glyph false (n % 10) ∷ []) = glyph_other (n % 10) (omega arith) in
    cond_both (eqb (n / 10) 0) (digit_glyph false (n % 10) ∷ []) (digits_onto 63 10 false (n / 10) (digit_glyph false (n % 10) ∷ [])) BeginsOther (λ t. last) (λ f. digits_begin 63 (n / 10) (digit_glyph false (n % 10) ∷ []) last)

decimal_other : (n : ℕ) → IsOther (decimal n)
decimal_other n = begins_is (decimal n) (decimal_begins n)

signed_other : (z : ℤ) → IsOther (signed_decimal z)
signed_other (pos n) = decimal_other n
signed_other (negsuc n) = by_first 45 (decimal (suc n)) refl

end_other : (end : ℕ) → IsOther (end_text (codes "-1") end)
end_other end = cond_both (eqb end 18446744073709551615) (codes "-1") (decimal end) IsOther (λ t. refl) (λ f. decimal_other end)

object_other : (target number : ℕ) → IsOther (decimal target ++ 46 ∷ decimal number)
object_other target number = begins_is (decimal target ++ 46 ∷ decimal number) (begins_more (decimal target) (46 ∷ decimal number) (decimal_begins target))

ids_other : (ids : List ℕ) → IsOther (list_text decimal ids)
ids_other [] = refl
ids_other (id ∷ ids) = begins_is (list_text decimal (id ∷ ids)) (begins_more (decimal id) _ (decimal_begins id))

two_other : (a b : ℕ) → IsOther (a ∷ b ∷ [])
two_other a b = false_from_ne_true (is_equals (a ∷ b ∷ [])) (λ t. let same : a ∷ b ∷ [] ≡ 61 ∷ [] = (bytes_eq-Decides (a ∷ b ∷ []) (codes "=")).0 t in absurd cc)

three_other : (a b c : ℕ) (rest : List ℕ) → IsOther (a ∷ b ∷ c ∷ rest)
three_other a b c rest = false_from_ne_true (is_equals (a ∷ b ∷ c ∷ rest)) (λ t. let same : a ∷ b ∷ c ∷ rest ≡ 61 ∷ [] = (bytes_eq-Decides (a ∷ b ∷ c ∷ rest) (codes "=")).0 t in absurd cc)

runs_other : (rs : List Run) → IsOther (runs_text rs)
runs_other [] = refl
runs_other (r ∷ rs) = three_other (digit_glyph false (r.byte / 16)) (digit_glyph false (r.byte % 16)) 42 (decimal r.count ++ flat_map (λ x. 43 ∷ run_text x) rs)

-- ---- lists of words

others_append : (xs ys : List (List ℕ)) → AreNoEquals xs → AreNoEquals ys → AreNoEquals (xs ++ ys)
others_append [] ys h k = k
others_append (x ∷ xs) ys h k = (h.0, others_append xs ys h.1 k)

flat_others : {A : Type 0} (f : A → List (List ℕ)) → ((x : A) → AreNoEquals (f x)) → (xs : List A) → AreNoEquals (flat_map f xs)
flat_others f h [] = tt
flat_others f h (x ∷ xs) = others_append (f x) (flat_map f xs) (h x) (flat_others f h xs)

part_others : (p : Part) → AreNoEquals (part_words p)
part_others p = (refl, (end_other p.end, (refl, (decimal_other p.size, (refl, (signed_other p.count, tt))))))

prefer_others : (prefer : Bool) → AreNoEquals (prefer_words prefer)
prefer_others true = (refl, tt)
prefer_others false = tt

mirror_others : (m : MirrorSpec) → AreNoEquals (mirror_words m)
mirror_others m = others_append (codes "-N" ∷ prefer_words m.prefer) (flat_map part_words m.parts) (refl, prefer_others m.prefer) (flat_others part_words part_others m.parts)

one : (name : List ℕ) → is_name name ≡ true → AreNoEquals (name ∷ [])
one name h = (name_other name h, tt)

to_others : (name : List ℕ) (id : ℕ) (to : SplitTo) → AreNamed (lfs.Split name id to) → AreNoEquals (to_words to)
to_others name id places.Default h = tt
to_others name id (places.Named new) h = (refl, (name_other new h.1, tt))
to_others name id places.Destroy h = (refl, tt)

only_others : (only : Option (List ℕ)) → AreNoEquals (only_words only)
only_others None = tt
only_others (Some ids) = (refl, (ids_other ids, tt))

lfs_others : (command : LfsCommand) → AreNamed command → AreNoEquals (words_of_command command)
lfs_others (lfs.SetStripe name spec) h = (refl, (refl, others_append (parts_words spec) (name ∷ []) (flat_others (λ (m : MirrorSpec). flat_map part_words m.parts) (λ m. flat_others part_words part_others m.parts) spec) (one name h)))
lfs_others (lfs.GetStripe name) h = (refl, (refl, one name h))
lfs_others (lfs.CompSet name id change) h = (refl, (refl, (refl, (refl, (decimal_other id, (by_first 45 (codes "-comp-flags=" ++ flags_text change) refl, one name h))))))
lfs_others (lfs.Create name spec) h = (refl, (refl, (refl, others_append (flat_map mirror_words spec) (name ∷ []) (flat_others mirror_words mirror_others spec) (one name h))))
lfs_others (lfs.Extend name spec) h = (refl, (refl, (refl, others_append (flat_map mirror_words spec) (name ∷ []) (flat_others mirror_words mirror_others spec) (one name h))))
lfs_others (lfs.ExtendBy name victim) h = (refl, (refl, (refl, (refl, (refl, (name_other victim h.1, one name h.0))))))
lfs_others (lfs.Split name mirror to) h = (refl, (refl, (refl, (refl, (decimal_other mirror, others_append (to_words to) (name ∷ []) (to_others name mirror to h) (one name h.0))))))
lfs_others (lfs.Delete name mirror) h = (refl, (refl, (refl, (refl, (decimal_other mirror, one name h)))))
lfs_others (lfs.Resync name only) h = (refl, (refl, (refl, others_append (only_words only) (name ∷ []) (only_others only) (one name h))))
lfs_others (lfs.Verify name) h = (refl, (refl, (refl, one name h)))

pub words_others : (most : ℕ) (command : Command) → IsCommandAlone most command → AreNoEquals (words_of command)
words_others most (commands.Read name offset len) h = (refl, (name_other name h.0, (decimal_other offset, (decimal_other len, tt))))
words_others most (commands.Write name offset bytes) h = (refl, (name_other name h.0, (decimal_other offset, (runs_other (runs_of bytes), tt))))
words_others most (commands.Truncate name size) h = (refl, (name_other name h.0, (decimal_other size, tt)))
words_others most (commands.Lfs command) h = lfs_others command (spelled_named most h.0 command h.1)
words_others most (commands.Evict client) h = (refl, (decimal_other client, tt))
words_others most (commands.Rot object offset byte) h = (refl, (object_other object.target object.number, (decimal_other offset, (two_other (digit_glyph false (byte / 16)) (digit_glyph false (byte % 16)), tt))))
