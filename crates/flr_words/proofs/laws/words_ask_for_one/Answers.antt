use Rattle.std.proofs.Common.{◌≡◌, ◌∙◌, ℕ, List, map, refl, sym, arith}
use Rattle.std.specs.Prelude.{string_bytes}
use Rattle.std.specs.Fmt.{decimal}
use Rattle.std.proofs.lemmas.Fmt.{decimal_injective}
use Rattle.flr_words.specs.Words.{AskFor, IsRandom, IsSoak}
use Rattle.flr_words.specs.declared.words.Words.{Words}
use Rattle.flr_words.specs.declared.words.Words.TheVariants as asked
use Rattle.flr_words.proofs.laws.words_ask_for_one.Goals as goal

-- the numbers of a soak are those that its words spell
same_numbers : (words : List (List ℕ)) (a b c x y z : ℕ) → IsSoak a b c words → IsSoak x y z words → asked.Soak a b c ≡ asked.Soak x y z
same_numbers words a b c x y z one other =
    let spelled = sym one.spelled ∙ other.spelled in
    let seeds : decimal a ≡ decimal x = cc in
    let clients : decimal b ≡ decimal y = cc in
    let calls : decimal c ≡ decimal z = cc in
    let first : a ≡ x = decimal_injective a x (omega (arith, one.seeded)) (omega (arith, other.seeded)) seeds in
    let second : b ≡ y = decimal_injective b y (omega (arith, one.few_clients)) (omega (arith, other.few_clients)) clients in
    let third : c ≡ z = decimal_injective c z (omega (arith, one.few_calls)) (omega (arith, other.few_calls)) calls in
    cc

same_seed : (words : List (List ℕ)) (a x : ℕ) → IsRandom a words → IsRandom x words → asked.Random a ≡ asked.Random x
same_seed words a x one other =
    let spelled = sym one.spelled ∙ other.spelled in
    let seeds : decimal a ≡ decimal x = cc in
    let same : a ≡ x = decimal_injective a x (omega (arith, one.seeded)) (omega (arith, other.seeded)) seeds in
    cc

ask_for_one : (words : List (List ℕ)) (one other : Words) → AskFor words one → AskFor words other → one ≡ other
ask_for_one words asked.Run asked.Run h k = refl
ask_for_one words asked.Run asked.Replay h k = absurd cc
ask_for_one words asked.Run asked.Migrate h k = absurd cc
ask_for_one words asked.Run (asked.Soak x y z) h k = let d = k.spelled in absurd cc
ask_for_one words asked.Run (asked.Random x) h k = let d = k.spelled in absurd cc
ask_for_one words asked.Run asked.Other h k = absurd (k.0 h)
ask_for_one words asked.Replay asked.Run h k = absurd cc
ask_for_one words asked.Replay asked.Replay h k = refl
ask_for_one words asked.Replay asked.Migrate h k = absurd cc
ask_for_one words asked.Replay (asked.Soak x y z) h k = let d = k.spelled in absurd cc
ask_for_one words asked.Replay (asked.Random x) h k = let d = k.spelled in absurd cc
ask_for_one words asked.Replay asked.Other h k = absurd (k.1 h)
ask_for_one words asked.Migrate asked.Run h k = absurd cc
ask_for_one words asked.Migrate asked.Replay h k = absurd cc
ask_for_one words asked.Migrate asked.Migrate h k = refl
ask_for_one words asked.Migrate (asked.Soak x y z) h k = let d = k.spelled in absurd cc
ask_for_one words asked.Migrate (asked.Random x) h k = let d = k.spelled in absurd cc
ask_for_one words asked.Migrate asked.Other h k = absurd (k.2 h)
ask_for_one words (asked.Soak a b c) asked.Run h k = let e = h.spelled in absurd cc
ask_for_one words (asked.Soak a b c) asked.Replay h k = let e = h.spelled in absurd cc
ask_for_one words (asked.Soak a b c) asked.Migrate h k = let e = h.spelled in absurd cc
ask_for_one words (asked.Soak a b c) (asked.Soak x y z) h k = same_numbers words a b c x y z h k
ask_for_one words (asked.Soak a b c) (asked.Random x) h k = let e = h.spelled in let d = k.spelled in absurd cc
ask_for_one words (asked.Soak a b c) asked.Other h k = absurd (k.3 a b c h)
ask_for_one words (asked.Random a) asked.Run h k = let e = h.spelled in absurd cc
ask_for_one words (asked.Random a) asked.Replay h k = let e = h.spelled in absurd cc
ask_for_one words (asked.Random a) asked.Migrate h k = let e = h.spelled in absurd cc
ask_for_one words (asked.Random a) (asked.Soak x y z) h k = let e = h.spelled in let d = k.spelled in absurd cc
ask_for_one words (asked.Random a) (asked.Random x) h k = same_seed words a x h k
ask_for_one words (asked.Random a) asked.Other h k = absurd (k.4 a h)
ask_for_one words asked.Other asked.Run h k = absurd (h.0 k)
ask_for_one words asked.Other asked.Replay h k = absurd (h.1 k)
ask_for_one words asked.Other asked.Migrate h k = absurd (h.2 k)
ask_for_one words asked.Other (asked.Soak a b c) h k = absurd (h.3 a b c k)
ask_for_one words asked.Other (asked.Random a) h k = absurd (h.4 a k)
ask_for_one words asked.Other asked.Other h k = refl

pub returns : goal.returns
returns c = record { law = λ words. ask_for_one (map string_bytes words) }
