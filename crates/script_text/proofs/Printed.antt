-- The printed text of a script spells it.
use Rattle.std.proofs.Common.{◌≡◌, ℕ, ◌+◌, ◌-◌, ◌≤◌, true, ◌&&◌, leb, List, [], ◌∷◌, ◌++◌, length, map, Ok, refl, sym, ap, subst, ◌∙◌, arith, append_assoc, inr}
use Rattle.std.specs.Prelude.{codes}
use Rattle.std.specs.List.{flat_map, list_all, AllByRecursion}
use Rattle.std.proofs.lemmas.Bool.{and_parts, and_from, leb-true, le-leb}
use Rattle.std.proofs.lemmas.List.{map-append}
use Rattle.std.proofs.lemmas.List.Folds.{list_all-append}
use Rattle.text_words.specs.Lines.{text_of}
use Rattle.text_words.specs.Words.{is_graphic, IsGraphic, IsWord, AreWords, spaced}
use Rattle.text_words.proofs.WordTexts.{decimal_word, word_graphic, words_of-spaced, spaced_lacks}
use Rattle.lfs_words.specs.declared.command.LfsCommand.{LfsCommand}
use Rattle.lfs_words.specs.Grammar as lfs
use Rattle.lfs_words.specs.Printing.{words_of_command}
use Rattle.object_target.specs.declared.fail.Fail.{Fail}
use Rattle.object_target.specs.declared.fail.FailKind.{FailKind}
use Rattle.object_target.specs.declared.fail.FailKind.TheVariants as kinds
use Rattle.script_values.specs.declared.command.Command.{Command}
use Rattle.script_values.specs.declared.command.Command.TheVariants as commands
use Rattle.script_values.specs.Commands.{IsCommand, IsCommandAlone}
use Rattle.script_values.specs.Scripts.{ScriptView, IsScript}
use Rattle.script_values.specs.Texts as texts
use Rattle.script_text.specs.Grammar.{IsCommandLine, AreLinesOf, number_words, AreClientLines, FailRange, IsFailRange, calls_of, range_words, Says, onto_said, said_in, AreText, SpellsLines, Spells}
use Rattle.script_text.specs.HeadLines.{fails_from}
use Rattle.script_text.specs.Step.{as_text}
use Rattle.script_text.specs.TextLines.{Line, lines_in, is_text}
use Rattle.script_text.proofs.Founds.{Words, one_from}
use Rattle.script_text.proofs.TextLineLaws.{lines-first}

-- ---- the words of the printed lines

abbrev range_of : Fail → FailRange
range_of fail = record { target = fail.target; first = fail.call; last = fail.call; kind = fail.kind }

abbrev client_words : ℕ → List (List Command) → List Words
client_words number [] = []
client_words number (own ∷ clients) = number_words (codes "client") number ∷ (map texts.words_of own ++ client_words (number + 1) clients)

abbrev front_words : ScriptView → List Words
front_words script =
    number_words (codes "flr-script") 2 ∷ number_words (codes "targets") script.targets ∷ number_words (codes "mirrors") script.most ∷ map range_words (map range_of script.fails)

abbrev script_words : ScriptView → List Words
script_words script = front_words script ++ client_words 1 script.clients

spaced_commands : (cs : List Command) → map texts.command_text cs ≡ map spaced (map texts.words_of cs)
spaced_commands [] = refl
spaced_commands (c ∷ cs) = ap (λ (ls : List (List ℕ)). texts.command_text c ∷ ls) (spaced_commands cs)

spaced_clients : (number : ℕ) (clients : List (List Command)) → texts.client_lines number clients ≡ map spaced (client_words number clients)
spaced_clients number [] = refl
spaced_clients number (own ∷ clients) =
    ap (λ (ls : List (List ℕ)). texts.number_line (codes "client") number ∷ (ls ++ texts.client_lines (number + 1) clients)) (spaced_commands own)
    ∙ ap (λ (ls : List (List ℕ)). texts.number_line (codes "client") number ∷ (map spaced (map texts.words_of own) ++ ls)) (spaced_clients (number + 1) clients)
    ∙ ap (λ (ls : List (List ℕ)). texts.number_line (codes "client") number ∷ ls) (sym (map-append spaced (map texts.words_of own) (client_words (number + 1) clients)))

spaced_fails : (fails : List Fail) → map texts.fail_line fails ≡ map spaced (map range_words (map range_of fails))
spaced_fails [] = refl
spaced_fails (f ∷ fails) = ap (λ (ls : List (List ℕ)). texts.fail_line f ∷ ls) (spaced_fails fails)

abbrev three : ScriptView → List (List ℕ) → List (List ℕ)
three script ls = texts.number_line (codes "flr-script") 2 ∷ texts.number_line (codes "targets") script.targets ∷ texts.number_line (codes "mirrors") script.most ∷ ls

-- the printed lines are these words with spaces between them
spaced_lines : (script : ScriptView) → texts.script_lines script ≡ map spaced (script_words script)
spaced_lines script =
    ap (λ (ls : List (List ℕ)). three script (ls ++ texts.client_lines 1 script.clients)) (spaced_fails script.fails)
    ∙ ap (λ (ls : List (List ℕ)). three script (map spaced (map range_words (map range_of script.fails)) ++ ls)) (spaced_clients 1 script.clients)
    ∙ ap (three script) (sym (map-append spaced (map range_words (map range_of script.fails)) (client_words 1 script.clients)))

-- ---- lines of words

-- words that make a line which says something
pub record IsPlain (words : Words) : Type 0 where
  pub are_words : AreWords words
  pub says : (rest : List Words) → onto_said words rest ≡ words ∷ rest

abbrev pub line : Words → Line
line words = record { text = spaced words; ended = true }

byte_text : (byte : ℕ) → is_graphic byte ≡ true → (leb 32 byte && leb byte 126) ≡ true
byte_text byte h =
    let p = and_parts (leb 33 byte) (leb byte 126) h in
    let low = leb-true 33 byte p.0 in
    and_from (leb 32 byte) (leb byte 126) (le-leb 32 byte (omega arith)) p.1

graphic_text : (text : List ℕ) → IsGraphic text → is_text text ≡ true
graphic_text [] h = refl
graphic_text (c ∷ cs) h =
    let p = and_parts (is_graphic c) (list_all is_graphic cs) h in
    and_from (leb 32 c && leb c 126) (is_text cs) (byte_text c p.0) (graphic_text cs p.1)

text_append : (xs ys : List ℕ) → is_text xs ≡ true → is_text ys ≡ true → is_text (xs ++ ys) ≡ true
text_append xs ys h k = list_all-append (λ (b : ℕ). leb 32 b && leb b 126) xs ys ∙ and_from (is_text xs) (is_text ys) h k

spaced_text : (words : Words) → AreWords words → is_text (spaced words) ≡ true
spaced_text [] h = refl
spaced_text (word ∷ []) h = graphic_text word (word_graphic word h.0)
spaced_text (word ∷ next ∷ words) h = text_append word (32 ∷ spaced (next ∷ words)) (graphic_text word (word_graphic word h.0)) (spaced_text (next ∷ words) h.1)

pub plain_text : (words : Words) → IsPlain words → as_text (line words) ≡ Ok tt
plain_text words h = rw (spaced_text words h.are_words) refl

plain_lines : (all : List Words) → AllByRecursion IsPlain all → lines_in (text_of (map spaced all)) ≡ map line all
plain_lines [] h = refl
plain_lines (words ∷ all) h =
    ap lines_in (append_assoc (spaced words) (10 ∷ []) (text_of (map spaced all))) ∙ lines-first (spaced words) (text_of (map spaced all)) (spaced_lacks words h.0.are_words)
    ∙ ap (λ (ls : List Line). line words ∷ ls) (plain_lines all h.1)

pub plain_said : (all : List Words) → AllByRecursion IsPlain all → said_in (map line all) ≡ all
plain_said [] h = refl
plain_said (words ∷ all) h =
    ap (λ (ws : Words). onto_said ws (said_in (map line all))) (words_of-spaced words h.0.are_words) ∙ h.0.says (said_in (map line all)) ∙ ap (λ (ls : List Words). words ∷ ls) (plain_said all h.1)

pub plain_are_text : (all : List Words) → AllByRecursion IsPlain all → AreText (map line all)
plain_are_text [] h = tt
plain_are_text (words ∷ all) h = (plain_text words h.0, plain_are_text all h.1)

-- ---- the printed lines are such lines

pub number_plain : (word : List ℕ) (n : ℕ) → IsWord word → ((rest : List Words) → onto_said (number_words word n) rest ≡ number_words word n ∷ rest) → IsPlain (number_words word n)
number_plain word n w s = record { are_words = (w, (decimal_word n, tt)); says = s }

kind_is_word : (kind : FailKind) → IsWord (texts.kind_word kind)
kind_is_word kinds.Refused = refl
kind_is_word kinds.Lost = refl

fails_plain : (fails : List Fail) → AllByRecursion IsPlain (map range_words (map range_of fails))
fails_plain [] = tt
fails_plain (f ∷ fails) =
    (record { are_words = (refl, (decimal_word f.target, (decimal_word f.call, (decimal_word f.call, (kind_is_word f.kind, tt))))); says = λ rest. refl }, fails_plain fails)

-- what is known of the printed form of commands
abbrev pub WordsLaw : Type 0
WordsLaw = (most : ℕ) (command : Command) → IsCommandAlone most command → AreWords (texts.words_of command)

abbrev pub AloneLaw : Type 0
AloneLaw = (most targets clients : ℕ) (command : Command) → targets ≤ 64 → clients ≤ 16 → IsCommand most targets clients command → IsCommandAlone most command

abbrev pub AgainLaw : Type 0
AgainLaw = (most : ℕ) (words : Words) (command : LfsCommand) → lfs.Spells most words command → lfs.Spells most (words_of_command command) command

command_says : (command : Command) (rest : List Words) → onto_said (texts.words_of command) rest ≡ texts.words_of command ∷ rest
command_says (commands.Read name offset len) rest = refl
command_says (commands.Write name offset bytes) rest = refl
command_says (commands.Truncate name size) rest = refl
command_says (commands.Lfs command) rest = refl
command_says (commands.Evict client) rest = refl
command_says (commands.Rot object offset byte) rest = refl

commands_plain : WordsLaw → AloneLaw → (most targets clients : ℕ) (cs : List Command) → targets ≤ 64 → clients ≤ 16 → AllByRecursion (IsCommand most targets clients) cs → AllByRecursion IsPlain (map texts.words_of cs)
commands_plain w a most targets clients [] few small h = tt
commands_plain w a most targets clients (c ∷ cs) few small h =
    (record { are_words = w most c (a most targets clients c few small h.0); says = command_says c }, commands_plain w a most targets clients cs few small h.1)

plain_append : (xs ys : List Words) → AllByRecursion IsPlain xs → AllByRecursion IsPlain ys → AllByRecursion IsPlain (xs ++ ys)
plain_append [] ys h k = k
plain_append (x ∷ xs) ys h k = (h.0, plain_append xs ys h.1 k)

clients_plain : WordsLaw → AloneLaw → (most targets clients number : ℕ) (all : List (List Command)) → targets ≤ 64 → clients ≤ 16 → AllByRecursion (AllByRecursion (IsCommand most targets clients)) all → AllByRecursion IsPlain (client_words number all)
clients_plain w a most targets clients number [] few small h = tt
clients_plain w a most targets clients number (own ∷ all) few small h = (
  number_plain (codes "client") number refl (λ rest. refl),
  plain_append (map texts.words_of own) (client_words (number + 1) all) (commands_plain w a most targets clients own few small h.0) (clients_plain w a most targets clients (number + 1) all few small h.1),
)

script_plain : WordsLaw → AloneLaw → (script : ScriptView) → IsScript script → AllByRecursion IsPlain (script_words script)
script_plain w a script h = (
  number_plain (codes "flr-script") 2 refl (λ rest. refl),
  (
    number_plain (codes "targets") script.targets refl (λ rest. refl),
    (
      number_plain (codes "mirrors") script.most refl (λ rest. refl),
      plain_append (map range_words (map range_of script.fails)) (client_words 1 script.clients) (fails_plain script.fails)
          (clients_plain w a script.most script.targets (length script.clients) 1 script.clients h.form.few_targets h.form.few_clients h.form.commands),
    ),
  ),
)

-- ---- and say the script

command_line : AgainLaw → (most targets clients : ℕ) (command : Command) → IsCommand most targets clients command → IsCommandLine most (texts.words_of command) command
command_line g most targets clients (commands.Read name offset len) h = refl
command_line g most targets clients (commands.Write name offset bytes) h = refl
command_line g most targets clients (commands.Truncate name size) h = refl
command_line g most targets clients (commands.Lfs command) h = g most h.0 command h.1
command_line g most targets clients (commands.Evict client) h = refl
command_line g most targets clients (commands.Rot object offset byte) h = refl

commands_say : AgainLaw → (most targets clients : ℕ) (cs : List Command) → AllByRecursion (IsCommand most targets clients) cs → AreLinesOf (IsCommandLine most) (map texts.words_of cs) cs
commands_say g most targets clients [] h = refl
commands_say g most targets clients (c ∷ cs) h = (texts.words_of c, map texts.words_of cs, refl, command_line g most targets clients c h.0, commands_say g most targets clients cs h.1)

clients_say : AgainLaw → (most targets clients number : ℕ) (all : List (List Command)) → AllByRecursion (AllByRecursion (IsCommand most targets clients)) all → AreClientLines (IsCommandLine most) number (client_words number all) all
clients_say g most targets clients number [] h = refl
clients_say g most targets clients number (own ∷ all) h =
    (map texts.words_of own, client_words (number + 1) all, refl, commands_say g most targets clients own h.0, clients_say g most targets clients (number + 1) all h.1)

abbrev fails_by : Fail → ℕ → List Fail
fails_by f n = fails_from f.target f.call f.kind n

fails_flat : (fails : List Fail) → fails ≡ flat_map calls_of (map range_of fails)
fails_flat [] = refl
fails_flat (f ∷ fails) =
    let one : f.call + 1 - f.call ≡ 1 = omega arith in
    let calls : calls_of (range_of f) ≡ f ∷ [] = ap (fails_by f) one ∙ one_from f.target f.call f.kind in
    ap (λ (fs : List Fail). f ∷ fs) (fails_flat fails) ∙ ap (λ (fs : List Fail). fs ++ flat_map calls_of (map range_of fails)) (sym calls)

ranges_some : (fails : List Fail) → AllByRecursion IsFailRange (map range_of fails)
ranges_some [] = tt
ranges_some (f ∷ fails) = (omega arith, ranges_some fails)

printed_says : AgainLaw → (script : ScriptView) → IsScript script → Says script (script_words script)
printed_says g script h =
    record {
      front = front_words script;
      back = client_words 1 script.clients;
      whole = refl;
      head = inr (record { ranges = map range_of script.fails; some = ranges_some script.fails; fails = fails_flat script.fails; lines_are = refl });
      clients = clients_say g script.most script.targets (length script.clients) 1 script.clients h.form.commands;
    }

pub printed_spells : WordsLaw → AloneLaw → AgainLaw → (script : ScriptView) → IsScript script → length (texts.text_of_script script) ≤ 1048576 → Spells (texts.text_of_script script) script
printed_spells w a g script h short =
    let plain = script_plain w a script h in
    let lines : lines_in (texts.text_of_script script) ≡ map line (script_words script) = ap (λ (ls : List (List ℕ)). lines_in (text_of ls)) (spaced_lines script) ∙ plain_lines (script_words script) plain in
    let said : said_in (map line (script_words script)) ≡ script_words script = plain_said (script_words script) plain in
    record {
      short = short;
      lines = subst (λ (ls : List Line). SpellsLines ls script) (sym lines)
          (record { text = plain_are_text (script_words script) plain; says = subst (Says script) (sym said) (printed_says g script h); limits = h });
    }
