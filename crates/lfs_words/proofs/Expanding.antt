-- Mirrors, each as often as its count says.
use Rattle.std.proofs.Common.{◌≡◌, ℕ, zero, suc, ◌+◌, ◌<◌, ◌≤◌, true, List, [], ◌∷◌, ◌++◌, length, get_or, take, replicate, sym, ap, subst, ◌∙◌, append_assoc, arith}
use Rattle.std.specs.Prelude.{nat_lt}
use Rattle.std.specs.List.{AllByRecursion}
use Rattle.std.proofs.lemmas.Bool.{lt-ltb}
use Rattle.std.proofs.lemmas.List.{length-append, length-replicate, replicate_more}
use Rattle.std.proofs.lemmas.List.Concat.{flat_map-cons}
use Rattle.composite_layout.specs.declared.spec.MirrorSpec.{MirrorSpec}
use Rattle.composite_layout.specs.Specs.{IsAsked}
use Rattle.lfs_words.specs.declared.asked.MirrorAsk.{MirrorAsk}
use Rattle.lfs_words.specs.Checking.{mirror_of, expanded}
use Rattle.lfs_words.specs.Goodness.{IsGoodAsk}
use Rattle.composite_layout.proofs.New.{all_append}

abbrev times : MirrorAsk → List MirrorSpec
times m = replicate m.count (mirror_of m)

length-more : (m : MirrorAsk) (ms : List MirrorAsk) → length (expanded (m ∷ ms)) ≡ m.count + length (expanded ms)
length-more m ms =
    ap length (flat_map-cons times m ms) ∙ length-append (times m) (expanded ms) ∙ ap (λ n. n + length (expanded ms)) (length-replicate m.count (mirror_of m))

front_length : (ms : List MirrorAsk) (i : ℕ) (d : MirrorAsk) → i < length ms → length (expanded (take i ms)) + (get_or ms i d).count ≤ length (expanded ms)
front_length [] i d lt = absurd (omega arith)
front_length (m ∷ ms) zero d lt = let whole = length-more m ms in omega (arith, whole)
front_length (m ∷ ms) (suc i) d lt =
    let whole = length-more m ms in
    let front = length-more m (take i ms) in
    let more = front_length ms i d (omega arith) in
    omega (arith, whole, front, more)

pub too_many : (ms : List MirrorAsk) (i left most : ℕ) (m d : MirrorAsk) → i < length ms → m ≡ get_or ms i d → left + length (expanded (take i ms)) ≡ most → left < m.count → true ≡ nat_lt most (length (expanded ms))
too_many ms i left most m d lt is sum less =
    let more = front_length ms i d lt in
    let count : m.count ≡ (get_or ms i d).count = ap (λ x. x.count) is in
    sym (lt-ltb most (length (expanded ms)) (omega (arith, more, count, sum, less)))

asked_times : (n : ℕ) (s : MirrorSpec) → IsAsked s → AllByRecursion IsAsked (replicate n s)
asked_times zero s h = tt
asked_times (suc n) s h = (h, asked_times n s h)

good_expanded : (ms : List MirrorAsk) → AllByRecursion IsGoodAsk ms → AllByRecursion IsAsked (expanded ms)
good_expanded [] h = tt
good_expanded (m ∷ ms) h =
    subst (AllByRecursion IsAsked) (sym (flat_map-cons times m ms)) (all_append IsAsked (times m) (expanded ms) (asked_times m.count (mirror_of m) h.0) (good_expanded ms h.1))

pub asked_all : (ms : List MirrorAsk) (all : List MirrorSpec) → all ≡ expanded ms → AllByRecursion IsGoodAsk ms → AllByRecursion IsAsked all
asked_all ms all is h = subst (AllByRecursion IsAsked) (sym is) (good_expanded ms h)

pub one_more_time : (m : MirrorSpec) (i : ℕ) (start before now : List MirrorSpec) → before ≡ start ++ replicate i m → now ≡ before ++ m ∷ [] → now ≡ start ++ replicate (i + 1) m
one_more_time m i start before now was put =
    put ∙ ap (λ l. l ++ m ∷ []) was ∙ append_assoc start (replicate i m) (m ∷ []) ∙ ap (λ l. start ++ l) (replicate_more i m)
