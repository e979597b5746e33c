-- The lines of a script, as they are appended.
use Rattle.std.proofs.Common.{◌≡◌, ℕ, zero, suc, ◌+◌, ◌<◌, List, [], ◌∷◌, ◌++◌, length, get_or, drop, map, Result, Ok, Err, sym, ap, ◌∙◌, append_assoc, arith}
use Rattle.std.specs.Prelude.{OnOk, codes}
use Rattle.std.specs.List.{flat_map, AllByRecursion}
use Rattle.std.proofs.lemmas.Grind.{flat_map-append}
use Rattle.std.proofs.lemmas.List.{at_drop_more}
use Rattle.std.proofs.lemmas.List.Folds.{flat_map-map}
use Rattle.text_words.specs.Lines.{text_of}
use Rattle.object_target.specs.declared.fail.Fail.{Fail}
use Rattle.script_values.specs.declared.command.Command.{Command}
use Rattle.script_values.specs.declared.command.Command.TheVariants as commands
use Rattle.script_values.specs.Commands.{IsCommand, IsSpellable}
use Rattle.script_values.specs.Scripts.{ScriptView, IsScript}
use Rattle.script_values.specs.Texts.{command_text, fail_line, number_line, client_block, client_lines, text_of_script}

-- ---- commands that may stand have a text

pub spellable : (most targets clients : ℕ) (c : Command) → IsCommand most targets clients c → IsSpellable c
spellable most targets clients (commands.Write name offset bytes) h = let few = h.2.1 in omega arith
spellable most targets clients (commands.Read name offset len) h = tt
spellable most targets clients (commands.Truncate name size) h = tt
spellable most targets clients (commands.Lfs command) h = tt
spellable most targets clients (commands.Evict client) h = tt
spellable most targets clients (commands.Rot object offset byte) h = tt

own_spellable : (most targets clients : ℕ) (cs : List Command) → AllByRecursion (IsCommand most targets clients) cs → AllByRecursion IsSpellable cs
own_spellable most targets clients [] h = tt
own_spellable most targets clients (c ∷ cs) h = (spellable most targets clients c h.0, own_spellable most targets clients cs h.1)

pub all_spellable : (most targets clients : ℕ) (all : List (List Command)) → AllByRecursion (AllByRecursion (IsCommand most targets clients)) all → AllByRecursion (AllByRecursion IsSpellable) all
all_spellable most targets clients [] h = tt
all_spellable most targets clients (own ∷ all) h = (own_spellable most targets clients own h.0, all_spellable most targets clients all h.1)

pub spellable_script : (s : ScriptView) → IsScript s → AllByRecursion (AllByRecursion IsSpellable) s.clients
spellable_script s h = all_spellable s.most s.targets (length s.clients) s.clients h.form.commands

-- what holds of each is known of one
pub at_index : {A : Type 0} (P : A → Type 0) (xs : List A) (i : ℕ) (d : A) → AllByRecursion P xs → i < length xs → P (get_or xs i d)
at_index P [] i d h lt = absurd (omega arith)
at_index P (x ∷ xs) zero d h lt = h.0
at_index P (x ∷ xs) (suc i) d h lt = at_index P xs i d h.1 (omega arith)

-- ---- lines

pub lines_text : {A : Type 0} (line : A → List ℕ) (xs : List A) → text_of (map line xs) ≡ flat_map (λ x. line x ++ 10 ∷ []) xs
lines_text line xs = flat_map-map (λ (l : List ℕ). l ++ 10 ∷ []) line xs

text_append : (xs ys : List (List ℕ)) → text_of (xs ++ ys) ≡ text_of xs ++ text_of ys
text_append xs ys = flat_map-append (λ (l : List ℕ). l ++ 10 ∷ []) xs ys

block_text : (number : ℕ) (own : List Command) → text_of (client_block number own) ≡ (number_line (codes "client") number ++ 10 ∷ []) ++ flat_map (λ c. command_text c ++ 10 ∷ []) own
block_text number own = ap (λ (t : List ℕ). (number_line (codes "client") number ++ 10 ∷ []) ++ t) (lines_text command_text own)

pub block_put : {E : Type 0} (r : Result (Unit {0}) E) (number : ℕ) (own : List Command) (start mid now : List ℕ) → mid ≡ start ++ (number_line (codes "client") number ++ 10 ∷ [])
    → OnOk r (now ≡ mid ++ flat_map (λ c. command_text c ++ 10 ∷ []) own) → OnOk r (now ≡ start ++ text_of (client_block number own))
block_put (Err e) number own start mid now was put = tt
block_put (Ok u) number own start mid now was put =
    put ∙ ap (λ (t : List ℕ). t ++ flat_map (λ c. command_text c ++ 10 ∷ []) own) was ∙ append_assoc start (number_line (codes "client") number ++ 10 ∷ []) (flat_map (λ c. command_text c ++ 10 ∷ []) own)
    ∙ ap (λ (t : List ℕ). start ++ t) (sym (block_text number own))

-- ---- clients

abbrev pub ClientsPut : List ℕ → List (List Command) → ℕ → List ℕ → Type 0
ClientsPut start clients at out = out ++ text_of (client_lines (at + 1) (drop at clients)) ≡ start ++ text_of (client_lines 1 clients)

clients_cons : (at : ℕ) (own : List Command) (rest : List (List Command)) → text_of (client_lines (at + 1) (own ∷ rest)) ≡ text_of (client_block (at + 1) own) ++ text_of (client_lines (at + 1 + 1) rest)
clients_cons at own rest = text_append (client_block (at + 1) own) (client_lines (at + 1 + 1) rest)

pub clients_put_more : (start : List ℕ) (clients : List (List Command)) (at : ℕ) (own slice : List Command) (out now : List ℕ) → at < length clients → own ≡ get_or clients at own → slice ≡ own → ClientsPut start clients at out
    → now ≡ out ++ text_of (client_block (at + 1) slice) → ClientsPut start clients (at + 1) now
clients_put_more start clients at own slice out now lt is same h put =
    let first : text_of (client_lines (at + 1) (drop at clients)) ≡ text_of (client_block (at + 1) slice) ++ text_of (client_lines (at + 1 + 1) (drop (at + 1) clients)) =
    at_drop_more (λ (xs : List (List Command)). text_of (client_lines (at + 1) xs)) clients at own lt ∙ ap (λ (x : List Command). text_of (client_lines (at + 1) (x ∷ drop (at + 1) clients))) (sym (same ∙ is))
    ∙ clients_cons at slice (drop (at + 1) clients) in
    ap (λ (t : List ℕ). t ++ text_of (client_lines (at + 1 + 1) (drop (at + 1) clients))) put ∙ append_assoc out (text_of (client_block (at + 1) slice)) (text_of (client_lines (at + 1 + 1) (drop (at + 1) clients)))
    ∙ ap (λ (t : List ℕ). out ++ t) (sym first) ∙ h

-- ---- the whole

five : (a b c d e : List ℕ) → (((([] ++ a) ++ b) ++ c) ++ d) ++ e ≡ a ++ (b ++ (c ++ (d ++ e)))
five a b c d e = simp append_assoc

pub script_put : (s : ScriptView) (targets most : ℕ) (fails : List Fail) (clients : List (List Command)) (none first second third listed out : List ℕ) → targets ≡ s.targets → most ≡ s.most → fails ≡ s.fails → clients ≡ s.clients
    → none ≡ [] → first ≡ none ++ (number_line (codes "flr-script") 2 ++ 10 ∷ []) → second ≡ first ++ (number_line (codes "targets") targets ++ 10 ∷ []) → third ≡ second ++ (number_line (codes "mirrors") most ++ 10 ∷ [])
    → listed ≡ third ++ flat_map (λ fail. fail_line fail ++ 10 ∷ []) fails → out ≡ listed ++ text_of (client_lines 1 clients) → out ≡ text_of_script s
script_put s targets most fails clients none first second third listed out t m f c n0 n1 n2 n3 n4 n5 =
    let a : List ℕ = number_line (codes "flr-script") 2 ++ 10 ∷ [] in
    let b : List ℕ = number_line (codes "targets") s.targets ++ 10 ∷ [] in
    let d : List ℕ = number_line (codes "mirrors") s.most ++ 10 ∷ [] in
    let e1 : first ≡ [] ++ a = n1 ∙ ap (λ (x : List ℕ). x ++ a) n0 in
    let e2 : second ≡ ([] ++ a) ++ b = n2 ∙ ap (λ (x : List ℕ). x ++ (number_line (codes "targets") targets ++ 10 ∷ [])) e1 ∙ ap (λ (k : ℕ). ([] ++ a) ++ (number_line (codes "targets") k ++ 10 ∷ [])) t in
    let e3 : third ≡ (([] ++ a) ++ b) ++ d = n3 ∙ ap (λ (x : List ℕ). x ++ (number_line (codes "mirrors") most ++ 10 ∷ [])) e2 ∙ ap (λ (k : ℕ). (([] ++ a) ++ b) ++ (number_line (codes "mirrors") k ++ 10 ∷ [])) m in
    let e4 : listed ≡ ((([] ++ a) ++ b) ++ d) ++ text_of (map fail_line s.fails) =
    n4 ∙ ap (λ (x : List ℕ). x ++ flat_map (λ fail. fail_line fail ++ 10 ∷ []) fails) e3 ∙ ap (λ (xs : List Fail). ((([] ++ a) ++ b) ++ d) ++ flat_map (λ fail. fail_line fail ++ 10 ∷ []) xs) f
    ∙ ap (λ (x : List ℕ). ((([] ++ a) ++ b) ++ d) ++ x) (sym (lines_text fail_line s.fails)) in
    let e5 : out ≡ (((([] ++ a) ++ b) ++ d) ++ text_of (map fail_line s.fails)) ++ text_of (client_lines 1 s.clients) =
    n5 ∙ ap (λ (x : List ℕ). x ++ text_of (client_lines 1 clients)) e4 ∙ ap (λ (xs : List (List Command)). (((([] ++ a) ++ b) ++ d) ++ text_of (map fail_line s.fails)) ++ text_of (client_lines 1 xs)) c in
    e5 ∙ five a b d (text_of (map fail_line s.fails)) (text_of (client_lines 1 s.clients)) ∙ ap (λ (x : List ℕ). a ++ (b ++ (d ++ x))) (sym (text_append (map fail_line s.fails) (client_lines 1 s.clients)))
