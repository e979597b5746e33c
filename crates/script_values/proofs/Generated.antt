-- The scripts that the generator makes are within every limit.
use Rattle.std.proofs.Common.{◌≡◌, ℕ, zero, suc, ◌+◌, ◌*◌, ◌%◌, ◌<◌, ◌≤◌, eqb, ltb, cond, true, List, [], ◌∷◌, ◌++◌, length, max, replicate, refl, ap, subst, ◌∙◌, arith}
use Rattle.std.specs.List.{AllByRecursion, IsDistinct, sum_by}
use Rattle.std.proofs.Math.Nat.{zero-mul}
use Rattle.std.proofs.lemmas.Bool.{cond_both}
use Rattle.std.proofs.lemmas.List.{length-append, length-replicate}
use Rattle.std.proofs.lemmas.List.Sums.{sum_by-cons}
use Rattle.text_words.specs.Names.{is_name}
use Rattle.object_target.specs.declared.fail.Fail.{Fail}
use Rattle.script_values.specs.declared.bases.Reach.{Reach}
use Rattle.script_values.specs.declared.command.Command.{Command}
use Rattle.script_values.specs.declared.command.Command.TheVariants as commands
use Rattle.script_values.specs.Commands.{IsCommand}
use Rattle.script_values.specs.Scripts.{ScriptView, all_commands, bytes_of, is_same_call, IsScript}
use Rattle.script_values.specs.Work.{greatest_by, end_of, greatest_end, stripes_of_command, base_of, blocks_of, evictions_of, work_of_parts}
use Rattle.script_values.specs.Generator.{next_state, drawn, second, third, Drawn, file, drawn_offset, drawn_length, drawn_write, drawn_read, drawn_by, drawn_command, drawn_commands, drawn_clients, resync, verify, create, with_first, script_from}
use Rattle.script_values.proofs.Created.{resync_spelled, verify_spelled, create_spelled}
use Rattle.script_values.proofs.Measures.{greatest-cons}
use Rattle.script_values.proofs.RunTexts.{all_one}

abbrev reach : ℕ → ℕ → Reach
reach s k = record { mirrors = 16; stripes = s; blocks = k }

-- a command that is small, and is one in any script of this kind
pub record IsLight (c : Command) : Type 0 where
  pub good : (clients : ℕ) → IsCommand 16 4 clients c
  pub bytes : bytes_of c ≤ 4096
  pub end_low : end_of c ≤ 1052640
  pub stripes : stripes_of_command 4 c ≡ 0
  pub evicts : evictions_of c ≡ 0
  pub base : (s k : ℕ) → s ≤ 4 → k ≤ 17 → base_of (reach s k) c ≤ 517

named : is_name file ≡ true
unfolding is_name
named = refl

blocks_low : (offset len : ℕ) → len ≤ 4096 → 2 * blocks_of offset (offset + len) + 3 ≤ 517
blocks_low offset len h = omega arith

light_write : (offset len byte : ℕ) → offset ≤ 1048544 → 1 ≤ len → len ≤ 4096 → byte < 256 → IsLight (commands.Write file offset (replicate len byte))
light_write offset len byte low some few lt =
    let count : length (replicate len byte) ≡ len = length-replicate len byte in
    record {
      good = λ clients. (named, omega arith, (omega arith, omega arith), all_one len byte lt);
      bytes = omega arith;
      end_low = omega arith;
      stripes = refl;
      evicts = refl;
      base = λ s k h g. blocks_low offset (length (replicate len byte)) (omega arith);
    }

light_read : (offset len : ℕ) → offset ≤ 1048544 → 1 ≤ len → len ≤ 4096 → IsLight (commands.Read file offset len)
light_read offset len low some few = record {
  good = λ clients. (named, omega arith, (some, omega arith));
  bytes = few;
  end_low = omega arith;
  stripes = refl;
  evicts = refl;
  base = λ s k h g. blocks_low offset len few;
}

light_resync : IsLight resync
light_resync = record { good = λ clients. resync_spelled; bytes = omega arith; end_low = omega arith; stripes = refl; evicts = refl; base = λ s k h g. omega arith }

light_verify : IsLight verify
light_verify = record { good = λ clients. verify_spelled; bytes = omega arith; end_low = omega arith; stripes = refl; evicts = refl; base = λ s k h g. omega arith }

-- ---- what is drawn

drawn_low : (x : ℕ) → drawn (next_state x) < 32768
unfolding next_state
drawn_low x = omega arith

write_light : (x : ℕ) → IsLight (drawn_write x).command
unfolding drawn_write
write_light x = let low = drawn_low x in light_write (drawn_offset (next_state x)) (drawn_length (second x)) (drawn (third x) % 256) (omega arith) (omega arith) (omega arith) (omega arith)

read_light : (x : ℕ) → IsLight (drawn_read x).command
unfolding drawn_read
read_light x = let low = drawn_low x in light_read (drawn_offset (next_state x)) (drawn_length (second x)) (omega arith) (omega arith) (omega arith)

by_light : (kind x : ℕ) → IsLight (drawn_by kind x).command
unfolding drawn_by
by_light kind x =
    cond_both (ltb kind 4) (drawn_write x) (cond (ltb kind 6) (drawn_read x) (cond (eqb kind 6) (record { command = resync; state = x }) (record { command = verify; state = x }))) (λ (d : Drawn). IsLight d.command)
    (λ _. write_light x)
    (λ _. cond_both (ltb kind 6) (drawn_read x) (cond (eqb kind 6) (record { command = resync; state = x }) (record { command = verify; state = x })) (λ (d : Drawn). IsLight d.command)
    (λ _. read_light x)
    (λ _. cond_both (eqb kind 6) (record { command = resync; state = x }) (record { command = verify; state = x }) (λ (d : Drawn). IsLight d.command) (λ _. light_resync) (λ _. light_verify)))

command_light : (x : ℕ) → IsLight (drawn_command x).command
unfolding drawn_command
command_light x = by_light (drawn (next_state x) % 8) (next_state x)

list_light : (calls x : ℕ) → AllByRecursion IsLight (drawn_commands calls x).commands
list_light zero x = tt
list_light (suc calls) x = (command_light x, list_light calls (drawn_command x).state)

list_length : (calls x : ℕ) → length (drawn_commands calls x).commands ≡ calls
list_length zero x = refl
list_length (suc calls) x = ap suc (list_length calls (drawn_command x).state)

-- ---- clients

all_append : {A : Type 0} (P : A → Type 0) (xs ys : List A) → AllByRecursion P xs → AllByRecursion P ys → AllByRecursion P (xs ++ ys)
all_append P [] ys h k = k
all_append P (x ∷ xs) ys h k = (h.0, all_append P xs ys h.1 k)

clients_light : (n calls x : ℕ) → AllByRecursion IsLight (all_commands (drawn_clients n calls x).clients)
clients_light zero calls x = tt
clients_light (suc n) calls x =
    let own = drawn_commands calls x in
    all_append IsLight own.commands (all_commands (drawn_clients n calls own.state).clients) (list_light calls x) (clients_light n calls own.state)

clients_few : (n calls x : ℕ) → calls ≤ 255 → length (all_commands (drawn_clients n calls x).clients) ≤ 255 * n
clients_few zero calls x h = omega arith
clients_few (suc n) calls x h =
    let own = list_length calls x in
    let rest = clients_few n calls (drawn_commands calls x).state h in
    let both : length (all_commands (drawn_clients (suc n) calls x).clients) ≡ length (drawn_commands calls x).commands + length (all_commands (drawn_clients n calls (drawn_commands calls x).state).clients) =
    length-append (drawn_commands calls x).commands (all_commands (drawn_clients n calls (drawn_commands calls x).state).clients) in
    omega arith

clients_length : (n calls x : ℕ) → length (drawn_clients n calls x).clients ≡ n
clients_length zero calls x = refl
clients_length (suc n) calls x = ap suc (clients_length n calls (drawn_commands calls x).state)

good_list : (clients : ℕ) (cs : List Command) → AllByRecursion IsLight cs → AllByRecursion (IsCommand 16 4 clients) cs
good_list clients [] h = tt
good_list clients (c ∷ cs) h = (h.0.good clients, good_list clients cs h.1)

good_clients : (clients n calls x : ℕ) → AllByRecursion (AllByRecursion (IsCommand 16 4 clients)) (drawn_clients n calls x).clients
good_clients clients zero calls x = tt
good_clients clients (suc n) calls x = (good_list clients (drawn_commands calls x).commands (list_light calls x), good_clients clients n calls (drawn_commands calls x).state)

-- ---- sums

bytes_sum : (cs : List Command) → AllByRecursion IsLight cs → sum_by bytes_of cs ≤ 4096 * length cs
bytes_sum [] h = omega arith
bytes_sum (c ∷ cs) h = let one = h.0.bytes in let rest = bytes_sum cs h.1 in let both = sum_by-cons bytes_of c cs in omega arith

stripes_sum : (cs : List Command) → AllByRecursion IsLight cs → sum_by (stripes_of_command 4) cs ≡ 0
stripes_sum [] h = refl
stripes_sum (c ∷ cs) h = let one = h.0.stripes in let rest = stripes_sum cs h.1 in let both = sum_by-cons (stripes_of_command 4) c cs in omega arith

evicts_sum : (cs : List Command) → AllByRecursion IsLight cs → sum_by evictions_of cs ≡ 0
evicts_sum [] h = refl
evicts_sum (c ∷ cs) h = let one = h.0.evicts in let rest = evicts_sum cs h.1 in let both = sum_by-cons evictions_of c cs in omega arith

ends_low : (cs : List Command) → AllByRecursion IsLight cs → greatest_by end_of cs ≤ 1052640
ends_low [] h = omega arith
ends_low (c ∷ cs) h = let one = h.0.end_low in let rest = ends_low cs h.1 in let both = greatest-cons end_of c cs in omega arith

bases_sum : (s k : ℕ) (cs : List Command) → s ≤ 4 → k ≤ 17 → AllByRecursion IsLight cs → sum_by (base_of (reach s k)) cs ≤ 517 * length cs
bases_sum s k [] low few h = omega arith
bases_sum s k (c ∷ cs) low few h = let one = h.0.base s k low few in let rest = bases_sum s k cs low few h.1 in let both = sum_by-cons (base_of (reach s k)) c cs in omega arith

-- ---- the whole

work_low : (cs : List Command) → AllByRecursion IsLight cs → length cs ≤ 4080 → work_of_parts 16 4 0 (create ∷ cs) ≤ 8388608
work_low cs h few =
    let s : ℕ = sum_by (stripes_of_command 4) (create ∷ cs) in
    let k : ℕ = blocks_of 0 (greatest_end (create ∷ cs)) in
    let stripes : s ≡ 4 + sum_by (stripes_of_command 4) cs = sum_by-cons (stripes_of_command 4) create cs in
    let none = stripes_sum cs h in
    let ends : greatest_by end_of (create ∷ cs) ≡ max 0 (greatest_by end_of cs) = greatest-cons end_of create cs in
    let low = ends_low cs h in
    let blocks : k ≤ 17 = omega arith in
    let bases : sum_by (base_of (reach s k)) (create ∷ cs) ≡ 1 + sum_by (base_of (reach s k)) cs = sum_by-cons (base_of (reach s k)) create cs in
    let rest = bases_sum s k cs (omega arith) blocks h in
    let evicts : sum_by evictions_of (create ∷ cs) ≡ 0 + sum_by evictions_of cs = sum_by-cons evictions_of create cs in
    let nobody = evicts_sum cs h in
    let again : 0 + sum_by evictions_of (create ∷ cs) ≡ 0 = omega arith in
    let nothing : (0 + sum_by evictions_of (create ∷ cs)) * greatest_by (base_of (reach s k)) (create ∷ cs) ≡ 0 = ap (λ (n : ℕ). n * greatest_by (base_of (reach s k)) (create ∷ cs)) again ∙ zero-mul (greatest_by (base_of (reach s k)) (create ∷ cs)) in
    omega arith

bytes_low : (cs : List Command) → AllByRecursion IsLight cs → length cs ≤ 4080 → sum_by bytes_of (create ∷ cs) ≤ 67108864
bytes_low cs h few =
    let all : sum_by bytes_of (create ∷ cs) ≡ 0 + sum_by bytes_of cs = sum_by-cons bytes_of create cs in
    let rest = bytes_sum cs h in omega arith

none_twice : IsDistinct is_same_call []
unfolding IsDistinct
none_twice = tt

pub generated : (clients calls x : ℕ) → 1 ≤ clients → clients ≤ 16 → calls ≤ 255 → IsScript (script_from clients calls x)
generated zero calls x some few most = absurd (omega arith)
generated (suc n) calls x some few most =
    let light = clients_light (suc n) calls x in
    let count = clients_few (suc n) calls x most in
    let number : length (with_first create (drawn_clients (suc n) calls x).clients) ≡ suc n = ap suc (clients_length n calls (drawn_commands calls x).state) in
    let good = good_clients (length (with_first create (drawn_clients (suc n) calls x).clients)) (suc n) calls x in
    record {
      form = record {
        some_mirrors = omega arith;
        few_mirrors = omega arith;
        some_targets = omega arith;
        few_targets = omega arith;
        few_fails = omega arith;
        fails = tt;
        calls_differ = none_twice;
        some_clients = omega arith;
        few_clients = omega arith;
        few_commands = omega arith;
        commands = ((create_spelled, good.0), good.1);
      };
      few_bytes = bytes_low (all_commands (drawn_clients (suc n) calls x).clients) light (omega arith);
      little_work = work_low (all_commands (drawn_clients (suc n) calls x).clients) light (omega arith);
    }

pub generated_parts : (clients calls x : ℕ) (fails : List Fail) (all : List (List Command)) → (1 ≤ clients) × (clients ≤ 16) → calls ≤ 255 → fails ≡ [] → all ≡ with_first create (drawn_clients clients calls x).clients
    → IsScript (record { most = 16; targets = 4; fails = fails; clients = all })
generated_parts clients calls x fails all range most nil is =
    subst (λ (v : ScriptView). IsScript v) (let e : script_from clients calls x ≡ record { most = 16; targets = 4; fails = fails; clients = all } = cc in e) (generated clients calls x range.0 range.1 most)
