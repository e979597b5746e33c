-- Work that is counted in 64 bits, standing still at their end, is the work.
use Rattle.std.proofs.Common.{◌≡◌, ℕ, zero, suc, ◌+◌, ◌-◌, ◌*◌, ◌<◌, ◌≤◌, Bool, true, false, cond, ltb, leb, List, [], ◌∷◌, Ok, Err, refl, sym, ap, ◌∙◌, arith}
use Rattle.std.specs.List.{sum_by}
use Rattle.std.proofs.Math.Nat.{zero-mul, mul-zero, mul_comm, le-mul_of_pos_right}
use Rattle.std.proofs.lemmas.Bool.{lt-ltb, le-ltb, leb-true, leb-false}
use Rattle.std.proofs.lemmas.List.Sums.{sum_by-cons}
use Rattle.lfs_words.specs.declared.command.LfsCommand.{LfsCommand}
use Rattle.lfs_words.specs.declared.command.LfsCommand.TheVariants as lfs
use Rattle.script_values.specs.declared.bases.Reach.{Reach}
use Rattle.script_values.specs.declared.command.Command.{Command}
use Rattle.script_values.specs.declared.command.Command.TheVariants as commands
use Rattle.script_values.specs.declared.what.What.TheVariants as what
use Rattle.script_values.specs.Scripts.{ScriptView, bytes_of_script, work_of, IsWellFormed, IsScript, limited}
use Rattle.script_values.specs.Work.{greatest_by, capped, capped_reach, base_of_copy, base_of_lfs, base_of, evictions_of, work_by}
use Rattle.script_values.proofs.Measures.{greatest-cons}

-- ---- sums and greatest values of numbers that stand still alike

capped_sum : (f g : Command → ℕ) → ((c : Command) → capped (f c) ≡ capped (g c)) → (cs : List Command) → capped (sum_by f cs) ≡ capped (sum_by g cs)
capped_sum f g h [] = refl
capped_sum f g h (c ∷ cs) =
    let one = h c in
    let rest = capped_sum f g h cs in
    omega (arith, one, rest, sum_by-cons f c cs, sum_by-cons g c cs)

capped_greatest : (f g : Command → ℕ) → ((c : Command) → capped (f c) ≡ capped (g c)) → (cs : List Command) → capped (greatest_by f cs) ≡ capped (greatest_by g cs)
capped_greatest f g h [] = refl
capped_greatest f g h (c ∷ cs) =
    let one = h c in
    let rest = capped_greatest f g h cs in
    omega (arith, one, rest, greatest-cons f c cs, greatest-cons g c cs)

capped_copy : (r : Reach) → capped (base_of_copy (capped_reach r)) ≡ capped (base_of_copy r)
capped_copy r = more r.stripes ((2 * (r.mirrors - 1)) * r.blocks)
  where
    more : (s x : ℕ) → capped ((3 + capped s) + x) ≡ capped ((3 + s) + x)
    more s x = omega arith

capped_lfs : (r : Reach) (c : LfsCommand) → capped (base_of_lfs (capped_reach r) c) ≡ capped (base_of_lfs r c)
capped_lfs r (lfs.Resync name only) = capped_copy r
capped_lfs r (lfs.Extend name spec) = capped_copy r
capped_lfs r (lfs.ExtendBy name victim) = capped_copy r
capped_lfs r c = refl

capped_base : (r : Reach) (c : Command) → capped (base_of (capped_reach r) c) ≡ capped (base_of r c)
capped_base r (commands.Truncate name size) = omega arith
capped_base r (commands.Lfs c) = capped_lfs r c
capped_base r c = refl

-- ---- products

great_left : (a b : ℕ) → 18446744073709551615 ≤ a → 0 < b → capped (a * b) ≡ 18446744073709551615
great_left a b h pos = let more = le-mul_of_pos_right a pos in omega arith

great_right : (a b : ℕ) → 18446744073709551615 ≤ b → 0 < a → capped (a * b) ≡ 18446744073709551615
great_right a b h pos = ap capped (mul_comm a b) ∙ great_left b a h pos

by_size : (a b : ℕ) → 0 < a → 0 < b → (s t : Bool) → leb 18446744073709551615 a ≡ s → leb 18446744073709551615 b ≡ t → capped (capped a * capped b) ≡ capped (a * b)
by_size a b pos_a pos_b true t e f = let great = leb-true 18446744073709551615 a e in great_left (capped a) (capped b) (omega arith) (omega arith) ∙ sym (great_left a b great pos_b)
by_size a b pos_a pos_b false true e f = let great = leb-true 18446744073709551615 b f in great_right (capped a) (capped b) (omega arith) (omega arith) ∙ sym (great_right a b great pos_a)
by_size a b pos_a pos_b false false e f =
    let few_a = leb-false 18446744073709551615 a e in
    let few_b = leb-false 18446744073709551615 b f in
    let same_a : capped a ≡ a = omega arith in
    let same_b : capped b ≡ b = omega arith in
    ap (λ (n : ℕ). capped (n * capped b)) same_a ∙ ap (λ (n : ℕ). capped (a * n)) same_b

capped_by : (a b : ℕ) → capped (capped a * capped b) ≡ capped (a * b)
capped_by zero b = let e : capped zero ≡ zero = omega arith in ap (λ (n : ℕ). capped (n * capped b)) e ∙ ap capped (zero-mul (capped b) ∙ sym (zero-mul b))
capped_by (suc a) zero = let e : capped zero ≡ zero = omega arith in ap (λ (n : ℕ). capped (capped (suc a) * n)) e ∙ ap capped (mul-zero (capped (suc a)) ∙ sym (mul-zero (suc a)))
capped_by (suc a) (suc b) = by_size (suc a) (suc b) (omega arith) (omega arith) (leb 18446744073709551615 (suc a)) (leb 18446744073709551615 (suc b)) refl refl

-- ---- the work

pub work_is : (r counted : Reach) (fails sum evicts disturbed greatest product result : ℕ) (cs : List Command) → counted ≡ capped_reach r → sum ≡ capped (sum_by (base_of counted) cs) → evicts ≡ capped (sum_by evictions_of cs)
    → disturbed ≡ capped (fails + evicts) → greatest ≡ capped (greatest_by (base_of counted) cs) → product ≡ capped (disturbed * greatest) → result ≡ capped (sum + product) → result ≡ capped (work_by r fails cs)
work_is r counted fails sum evicts disturbed greatest product result cs same is_sum is_evicts is_disturbed is_greatest is_product is_result =
    let sums : sum ≡ capped (sum_by (base_of r) cs) = is_sum ∙ ap (λ (k : Reach). capped (sum_by (base_of k) cs)) same ∙ capped_sum (base_of (capped_reach r)) (base_of r) (capped_base r) cs in
    let most : greatest ≡ capped (greatest_by (base_of r) cs) = is_greatest ∙ ap (λ (k : Reach). capped (greatest_by (base_of k) cs)) same ∙ capped_greatest (base_of (capped_reach r)) (base_of r) (capped_base r) cs in
    let times : disturbed ≡ capped (fails + sum_by evictions_of cs) = omega (arith, is_evicts, is_disturbed) in
    let made : product ≡ capped ((fails + sum_by evictions_of cs) * greatest_by (base_of r) cs) =
    is_product ∙ ap (λ (n : ℕ). capped (n * greatest)) times ∙ ap (λ (n : ℕ). capped (capped (fails + sum_by evictions_of cs) * n)) most ∙ capped_by (fails + sum_by evictions_of cs) (greatest_by (base_of r) cs) in
    total sum product (sum_by (base_of r) cs) ((fails + sum_by evictions_of cs) * greatest_by (base_of r) cs) result sums made is_result
  where
    total : (a b s p n : ℕ) → a ≡ capped s → b ≡ capped p → n ≡ capped (a + b) → n ≡ capped (s + p)
    total a b s p n e f g = omega arith

-- ---- limits

below : (n x most : ℕ) → n ≡ capped x → most < 18446744073709551615 → n ≤ most → x ≤ most
below n x most e small le = omega arith

above : (n x most : ℕ) → n ≡ capped x → most < n → most < x
above n x most e lt = omega arith

pub too_much_work : (v : ScriptView) (bytes work : ℕ) → bytes ≡ capped (bytes_of_script v) → bytes ≤ 67108864 → work ≡ capped (work_of v) → 8388608 < work → Err what.Work ≡ limited v
too_much_work v bytes work is few is_work much =
    let low : bytes_of_script v ≤ 67108864 = below bytes (bytes_of_script v) 67108864 is (omega arith) few in
    let high : 8388608 < work_of v = above work (work_of v) 8388608 is_work much in
    let first : ltb 67108864 (bytes_of_script v) ≡ false = le-ltb 67108864 (bytes_of_script v) low in
    let second : ltb 8388608 (work_of v) ≡ true = lt-ltb 8388608 (work_of v) high in
    sym (ap (λ (b : Bool). cond b (Err what.Bytes) (cond (ltb 8388608 (work_of v)) (Err what.Work) (Ok v))) first ∙ ap (λ (b : Bool). cond b (Err what.Work) (Ok v)) second)

pub within_limits : (v : ScriptView) (bytes work : ℕ) → IsWellFormed v → bytes ≡ capped (bytes_of_script v) → bytes ≤ 67108864 → work ≡ capped (work_of v) → work ≤ 8388608 → IsScript v
within_limits v bytes work form is few is_work little =
    record { form = form; few_bytes = below bytes (bytes_of_script v) 67108864 is (omega arith) few; little_work = below work (work_of v) 8388608 is_work (omega arith) little }

pub script_is_limited : (v : ScriptView) → IsScript v → Ok v ≡ limited v
script_is_limited v h =
    let first : ltb 67108864 (bytes_of_script v) ≡ false = le-ltb 67108864 (bytes_of_script v) h.few_bytes in
    let second : ltb 8388608 (work_of v) ≡ false = le-ltb 8388608 (work_of v) h.little_work in
    sym (ap (λ (b : Bool). cond b (Err what.Bytes) (cond (ltb 8388608 (work_of v)) (Err what.Work) (Ok v))) first ∙ ap (λ (b : Bool). cond b (Err what.Work) (Ok v)) second)

-- the work of a script is what is counted
pub counted_work : (v : ScriptView) (n : ℕ) → IsScript v → n ≡ capped (work_of v) → n ≡ work_of v
counted_work v n h e = let little = h.little_work in omega arith
