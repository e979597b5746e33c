-- What clap makes of words of which none begins with a hyphen.
use Rattle.std.proofs.Common.{◌≡◌, ◌∙◌, ◌⊎◌, ◌&&◌, ℕ, Bool, true, false, cond, refl, sym, ap, ap₂, subst, List, [], ◌∷◌, fold, Some, None, inl, inr, codes, is_some, option_map}
use Rattle.std.specs.Prelude.{option_and_then}
use Rattle.std.specs.List.{find, list_any, slice_index_or}
use Rattle.std.specs.Option.{option_map_or}
use Rattle.std.specs.Str.{bytes_eq}
use Rattle.std.proofs.lemmas.Bool.{cases_Bool, or_parts}
use Rattle.std.proofs.lemmas.Slice.Eq.{bytes_eq-Decides}
use Rattle.clap.specs.Faults.{bundle_fault, check_fault, defaults_fault, entered_fault, fault_of, flag_word_fault, level_fault, other_fault, settle_fault, step_fault, turn_fault, walk_fault, word_fault}
use Rattle.clap.specs.Kinds.{Kinds, or_else}
use Rattle.clap.specs.Lexer.{long_of, long_of_rest, short_of, short_of_rest, strip_byte}
use Rattle.clap.specs.Simple.{App, Shape, built, entered, label_of, names_of, rows_at, subcommand_of}
use Rattle.clap.specs.Values.{reading_of}
use Rattle.clap.specs.Walk.{Held, Names, Row, Rule, Step, Text, Walk, after_step, answers_to, arg_by_index, finished, idle, long_or_other, nothing_held, rows_after, settled, short_or_plain, subcommand_or_other, to_positional, trailing, value, walk, walked, word_met}
use Rattle.clap.specs.declared.builder.value_parser.ValueParser.TheVariants as parser
use Rattle.clap.specs.declared.error.kind.ErrorKind.TheVariants as kind
use Rattle.clap.specs.declared.parser.matches.ValueSource.TheVariants.{CommandLine}
use Rattle.clap.proofs.FaultLemmas.{stopped_fault}
use Rattle.clap.proofs.WalkLemmas.{walk_stopped}
use Rattle.flr_words.specs.CommandLine.{command_line, is_flag}

-- the command line as it is built, and its five forms
abbrev line : App
line = built command_line

abbrev running : Shape
running = slice_index_or line.subs 0 line.top

abbrev replaying : Shape
replaying = slice_index_or line.subs 1 line.top

abbrev migrating : Shape
migrating = slice_index_or line.subs 2 line.top

abbrev soaking : Shape
soaking = slice_index_or line.subs 3 line.top

abbrev drawing : Shape
drawing = slice_index_or line.subs 4 line.top

-- where a walk stands at a word for which nothing waits
abbrev at : ℕ → Held → Walk
at position h = record { held = h; waiting = idle; position = position; is_trailing = false; stopped = None }

-- what a level of the parse fails by, of the faults of its walk and of where the walk ended
abbrev ended : Shape → Bool → Kinds → Kinds → Walk → Kinds
ended s has_subcommand below faults w = or_else faults
    (or_else below (or_else (settle_fault s.rules s.args_override_self w.held)
    (or_else (defaults_fault (settled s.rules w.held).rows s.rules) (check_fault s (finished s.rules w.held) has_subcommand))))

-- ---- a word that begins with no hyphen, and names no form, goes to a positional

no_dashes : (word : Text) → is_flag word ≡ false → bytes_eq word (45 ∷ 45 ∷ []) ≡ false
no_dashes [] e = refl
no_dashes (c ∷ cs) e = ap (λ b. b && bytes_eq cs (45 ∷ [])) e

no_long : (word : Text) → is_flag word ≡ false → long_of word ≡ None
no_long [] e = refl
no_long (c ∷ cs) e = ap (λ b. option_and_then long_of_rest (option_and_then (strip_byte 45) (cond b (Some cs) None))) e

no_short : (word : Text) → is_flag word ≡ false → short_of word ≡ None
no_short [] e = refl
no_short (c ∷ cs) e = ap (λ b. option_and_then short_of_rest (cond b (Some cs) None)) e

module _ (names : Names) (h : Held) (word : Text) (plain : is_flag word ≡ false) (unnamed : find (answers_to word) names ≡ None) where
  met_value : (c : List Rule) (position : ℕ) → word_met c names false idle position word h ≡ (h, value)
  met_value c position =
      ap (λ o. subcommand_or_other c (option_map (λ s. s.0) o) idle position word h) unnamed
      ∙ (ap (λ b. cond b (h, trailing position) (long_or_other c idle word (long_of word) h)) (no_dashes word plain)
      ∙ (ap (λ l. long_or_other c idle word l h) (no_long word plain) ∙ ap (λ k. short_or_plain c idle word k h) (no_short word plain)))

  value_passes : (s : Shape) → word_fault s names false idle word h ≡ []
  value_passes s =
      ap (λ o. other_fault s (option_map (λ t. t.0) o) word h) unnamed
      ∙ (ap (λ b. cond b [] (flag_word_fault s.rules s.args_override_self (long_of word) word h)) (no_dashes word plain)
      ∙ (ap (λ l. flag_word_fault s.rules s.args_override_self l word h) (no_long word plain)
      ∙ ap (λ k. option_map_or (λ flags. bundle_fault s.rules s.args_override_self flags h) k []) (no_short word plain)))

  turn_value : (s : Shape) (position : ℕ) → turn_fault s names (at position h) word ≡ step_fault s position h value
  turn_value s position = ap₂ (λ k (met : Held × Step). or_else k (step_fault s position met.0 met.1)) (value_passes s) (met_value s.rules position)

  walked_value : (c : List Rule) (position : ℕ) → walked c names (at position h) word ≡ to_positional c (arg_by_index c position) word (at position h) h
  unfolding walked
  walked_value c position = ap (λ (met : Held × Step). after_step c word (at position h) met.0 met.1) (met_value c position)

-- where the walk stands behind the word
abbrev taken : List Rule → ℕ → Held → Text → Walk
taken c position h word = to_positional c (arg_by_index c position) word (at position h) h

next_fault : (s : Shape) (position : ℕ) (h : Held) (word : Text) (rest : List Text) → is_flag word ≡ false
    → walk_fault s [] (at position h) (word ∷ rest) ≡ or_else (step_fault s position h value) (walk_fault s [] (taken s.rules position h word) rest)
unfolding walk_fault
next_fault s position h word rest e = ap₂ (λ k w. or_else k (walk_fault s [] w rest)) (turn_value [] h word e refl s position) (walked_value [] h word e refl s.rules position)

next_walk : (c : List Rule) (position : ℕ) (h : Held) (word : Text) (rest : List Text) → is_flag word ≡ false
    → fold (walked c []) (at position h) (word ∷ rest) ≡ fold (walked c []) (taken c position h word) rest
next_walk c position h word rest e = ap (λ w. fold (walked c []) w rest) (walked_value [] h word e refl c position)

-- a form without numbers takes no word
no_words : (s : Shape) (words : List Text) → step_fault s 1 nothing_held value ≡ kind.UnknownArgument ∷ [] → list_any is_flag words ≡ false
    → level_fault s [] nothing_held words false [] ≡ [] → words ≡ []
no_words s [] stray plain passes = refl
no_words s (word ∷ rest) stray plain passes =
    let p = or_parts (is_flag word) (list_any is_flag rest) plain in
    let first : walk_fault s [] (at 1 nothing_held) (word ∷ rest) ≡ kind.UnknownArgument ∷ [] =
    next_fault s 1 nothing_held word rest p.0 ∙ ap (λ k. or_else k (walk_fault s [] (taken s.rules 1 nothing_held word) rest)) stray in
    let fails : level_fault s [] nothing_held (word ∷ rest) false [] ≡ kind.UnknownArgument ∷ [] =
    ap (λ k. ended s false [] k (walk s.rules [] nothing_held (word ∷ rest))) first in
    absurd cc

-- ---- the numbers of a soak

-- a number's text, as it is found
abbrev row : Text → Text → Row
row id text = record { id = id; values = text ∷ []; count = None; source = Some CommandLine; reading = reading_of parser.String }

abbrev pub rows_of_soak : Text → Text → Text → List Row
rows_of_soak seed clients calls = row (codes "seed") seed ∷ row (codes "clients") clients ∷ row (codes "calls") calls ∷ []

-- what is held behind one number, two and three
abbrev one_held : Text → Held
one_held seed = record { rows = []; pending = Some (codes "seed", seed ∷ []); skip = 0 }

abbrev two_held : Text → Text → Held
two_held seed clients = record { rows = row (codes "seed") seed ∷ []; pending = Some (codes "clients", clients ∷ []); skip = 0 }

abbrev three_held : Text → Text → Text → Held
three_held seed clients calls = record {
  rows = row (codes "seed") seed ∷ row (codes "clients") clients ∷ [];
  pending = Some (codes "calls", calls ∷ []);
  skip = 0;
}

module _ (seed : Text) (plain_seed : is_flag seed ≡ false) where
  one_fault : (rest : List Text) → walk_fault soaking [] (at 1 nothing_held) (seed ∷ rest) ≡ walk_fault soaking [] (at 2 (one_held seed)) rest
  one_fault rest = next_fault soaking 1 nothing_held seed rest plain_seed

  one_walk : (rest : List Text) → fold (walked soaking.rules []) (at 1 nothing_held) (seed ∷ rest) ≡ fold (walked soaking.rules []) (at 2 (one_held seed)) rest
  one_walk rest = next_walk soaking.rules 1 nothing_held seed rest plain_seed

  module _ (clients : Text) (plain_clients : is_flag clients ≡ false) where
    two_fault : (rest : List Text) → walk_fault soaking [] (at 1 nothing_held) (seed ∷ clients ∷ rest) ≡ walk_fault soaking [] (at 3 (two_held seed clients)) rest
    two_fault rest = one_fault (clients ∷ rest) ∙ next_fault soaking 2 (one_held seed) clients rest plain_clients

    two_walk : (rest : List Text) → fold (walked soaking.rules []) (at 1 nothing_held) (seed ∷ clients ∷ rest) ≡ fold (walked soaking.rules []) (at 3 (two_held seed clients)) rest
    two_walk rest = one_walk (clients ∷ rest) ∙ next_walk soaking.rules 2 (one_held seed) clients rest plain_clients

    module _ (calls : Text) (plain_calls : is_flag calls ≡ false) where
      three_fault : (rest : List Text) → walk_fault soaking [] (at 1 nothing_held) (seed ∷ clients ∷ calls ∷ rest) ≡ walk_fault soaking [] (at 4 (three_held seed clients calls)) rest
      three_fault rest = two_fault (calls ∷ rest) ∙ next_fault soaking 3 (two_held seed clients) calls rest plain_calls

      three_walk : (rest : List Text) → fold (walked soaking.rules []) (at 1 nothing_held) (seed ∷ clients ∷ calls ∷ rest) ≡ fold (walked soaking.rules []) (at 4 (three_held seed clients calls)) rest
      three_walk rest = two_walk (calls ∷ rest) ∙ next_walk soaking.rules 3 (two_held seed clients) calls rest plain_calls

      soak_passes : level_fault soaking [] nothing_held (seed ∷ clients ∷ calls ∷ []) false [] ≡ []
      unfolding walk_fault defaults_fault
      soak_passes = ap₂ (ended soaking false []) (three_fault []) (three_walk [])

      soak_rows : rows_after soaking.rules [] (seed ∷ clients ∷ calls ∷ []) ≡ rows_of_soak seed clients calls
      soak_rows = ap (λ (w : Walk). finished soaking.rules w.held) (three_walk [])

-- three words, of which none begins with a hyphen
abbrev pub AreThree : List Text → Type 0
AreThree words = (seed clients calls : Text) × (words ≡ seed ∷ clients ∷ calls ∷ []) × (is_flag seed ≡ false) × (is_flag clients ≡ false) × (is_flag calls ≡ false)

three_words : (words : List Text) → list_any is_flag words ≡ false → level_fault soaking [] nothing_held words false [] ≡ [] → AreThree words
unfolding walk_fault defaults_fault
three_words [] plain passes = absurd cc
three_words (seed ∷ []) plain passes =
    let p = or_parts (is_flag seed) _ plain in
    let fails : level_fault soaking [] nothing_held (seed ∷ []) false [] ≡ kind.MissingRequiredArgument ∷ [] = ap₂ (ended soaking false []) (one_fault seed p.0 []) (one_walk seed p.0 []) in
    absurd cc
three_words (seed ∷ clients ∷ []) plain passes =
    let p = or_parts (is_flag seed) _ plain in
    let q = or_parts (is_flag clients) _ p.1 in
    let fails : level_fault soaking [] nothing_held (seed ∷ clients ∷ []) false [] ≡ kind.MissingRequiredArgument ∷ [] =
    ap₂ (ended soaking false []) (two_fault seed p.0 clients q.0 []) (two_walk seed p.0 clients q.0 []) in
    absurd cc
three_words (seed ∷ clients ∷ calls ∷ []) plain passes =
    let p = or_parts (is_flag seed) _ plain in
    let q = or_parts (is_flag clients) _ p.1 in
    let r = or_parts (is_flag calls) _ q.1 in
    (seed, clients, calls, refl, p.0, q.0, r.0)
three_words (seed ∷ clients ∷ calls ∷ more ∷ rest) plain passes =
    let p = or_parts (is_flag seed) _ plain in
    let q = or_parts (is_flag clients) _ p.1 in
    let r = or_parts (is_flag calls) _ q.1 in
    let s = or_parts (is_flag more) _ r.1 in
    let stray : walk_fault soaking [] (at 1 nothing_held) (seed ∷ clients ∷ calls ∷ more ∷ rest) ≡ kind.UnknownArgument ∷ [] =
    three_fault seed p.0 clients q.0 calls r.0 (more ∷ rest) ∙ next_fault soaking 4 (three_held seed clients calls) more rest s.0 in
    let fails : level_fault soaking [] nothing_held (seed ∷ clients ∷ calls ∷ more ∷ rest) false [] ≡ kind.UnknownArgument ∷ [] =
    ap (λ k. ended soaking false [] k (walk soaking.rules [] nothing_held (seed ∷ clients ∷ calls ∷ more ∷ rest))) stray in
    absurd cc

-- ---- the number of a random run

abbrev pub rows_of_random : Text → List Row
rows_of_random seed = row (codes "seed") seed ∷ []

module _ (seed : Text) (plain_seed : is_flag seed ≡ false) where
  seed_fault : (rest : List Text) → walk_fault drawing [] (at 1 nothing_held) (seed ∷ rest) ≡ walk_fault drawing [] (at 2 (one_held seed)) rest
  seed_fault rest = next_fault drawing 1 nothing_held seed rest plain_seed

  seed_walk : (rest : List Text) → fold (walked drawing.rules []) (at 1 nothing_held) (seed ∷ rest) ≡ fold (walked drawing.rules []) (at 2 (one_held seed)) rest
  seed_walk rest = next_walk drawing.rules 1 nothing_held seed rest plain_seed

  random_passes : level_fault drawing [] nothing_held (seed ∷ []) false [] ≡ []
  unfolding walk_fault defaults_fault
  random_passes = ap₂ (ended drawing false []) (seed_fault []) (seed_walk [])

  random_rows : rows_after drawing.rules [] (seed ∷ []) ≡ rows_of_random seed
  random_rows = ap (λ (w : Walk). finished drawing.rules w.held) (seed_walk [])

-- one word, which begins with no hyphen
abbrev pub IsOne : List Text → Type 0
IsOne words = (seed : Text) × (words ≡ seed ∷ []) × (is_flag seed ≡ false)

one_word : (words : List Text) → list_any is_flag words ≡ false → level_fault drawing [] nothing_held words false [] ≡ [] → IsOne words
unfolding walk_fault defaults_fault
one_word [] plain passes = absurd cc
one_word (seed ∷ []) plain passes = let p = or_parts (is_flag seed) _ plain in (seed, refl, p.0)
one_word (seed ∷ more ∷ rest) plain passes =
    let p = or_parts (is_flag seed) _ plain in
    let q = or_parts (is_flag more) _ p.1 in
    let stray : walk_fault drawing [] (at 1 nothing_held) (seed ∷ more ∷ rest) ≡ kind.UnknownArgument ∷ [] =
    seed_fault seed p.0 (more ∷ rest) ∙ next_fault drawing 2 (one_held seed) more rest q.0 in
    let fails : level_fault drawing [] nothing_held (seed ∷ more ∷ rest) false [] ≡ kind.UnknownArgument ∷ [] =
    ap (λ k. ended drawing false [] k (walk drawing.rules [] nothing_held (seed ∷ more ∷ rest))) stray in
    absurd cc

-- ---- the first word names a form

-- what the whole parse fails by, of the faults of its first walk and of where that ended
abbrev top_ended : Kinds → Walk → Kinds
top_ended faults w = ended line.top (is_some (entered line w.stopped)) (entered_fault line w.stopped) faults w

-- the walk ends at this name, and goes on with this form
record Enters (name : Text) (s : Shape) : Type 0 where
  walks : walked line.top.rules (names_of line) (at 1 nothing_held) name ≡ record (at 1 nothing_held) { stopped = Some (name, []) }
  passes : turn_fault line.top (names_of line) (at 1 nothing_held) name ≡ []
  found : find (λ t. answers_to name (label_of t)) line.subs ≡ Some s

module _ (name : Text) (s : Shape) (enters : Enters name s) (words : List Text) where
  stopped : walk line.top.rules (names_of line) nothing_held (name ∷ words) ≡ record (at 1 nothing_held) { stopped = Some (name, words) }
  stopped = ap (λ w. fold (walked line.top.rules (names_of line)) w words) enters.walks ∙ sym (walk_stopped line.top.rules (names_of line) (at 1 nothing_held) name [] words)

  passed : walk_fault line.top (names_of line) (at 1 nothing_held) (name ∷ words) ≡ []
  unfolding walk_fault
  passed = ap₂ (λ k w. or_else k (walk_fault line.top (names_of line) w words)) enters.passes enters.walks ∙ stopped_fault line.top (names_of line) (at 1 nothing_held) (name, []) words

  -- the faults are those of the form
  form_fault : fault_of command_line (name ∷ words) ≡ or_else (level_fault s [] nothing_held words false []) []
  unfolding defaults_fault
  form_fault = ap₂ top_ended passed stopped
      ∙ ap (λ o. or_else (option_map_or (λ t. level_fault t [] nothing_held words false []) o []) (check_fault line.top [] (is_some (option_map (λ t. rows_at t words) o)))) enters.found

  form_met : subcommand_of command_line (name ∷ words) ≡ Some (s.name, rows_after s.rules [] words)
  form_met = ap (λ (w : Walk). entered line w.stopped) stopped ∙ ap (option_map (λ t. rows_at t words)) enters.found

run_enters : Enters (codes "run") running
unfolding walked
run_enters = record { walks = refl; passes = refl; found = refl }

replay_enters : Enters (codes "replay") replaying
unfolding walked
replay_enters = record { walks = refl; passes = refl; found = refl }

migrate_enters : Enters (codes "migrate") migrating
unfolding walked
migrate_enters = record { walks = refl; passes = refl; found = refl }

soak_enters : Enters (codes "soak") soaking
unfolding walked
soak_enters = record { walks = refl; passes = refl; found = refl }

random_enters : Enters (codes "random") drawing
unfolding walked
random_enters = record { walks = refl; passes = refl; found = refl }

-- any other word names none, and is refused
unnamed_word : (word : Text) → bytes_eq (codes "run") word ≡ false → bytes_eq (codes "replay") word ≡ false → bytes_eq (codes "migrate") word ≡ false → bytes_eq (codes "soak") word ≡ false → bytes_eq (codes "random") word ≡ false
    → find (answers_to word) (names_of line) ≡ None
unnamed_word word run replay migrate soak random = rw (run, replay, migrate, soak, random) refl

refused : (word : Text) (words : List Text) → turn_fault line.top (names_of line) (at 1 nothing_held) word ≡ kind.UnknownArgument ∷ kind.InvalidSubcommand ∷ []
    → fault_of command_line (word ∷ words) ≡ kind.UnknownArgument ∷ kind.InvalidSubcommand ∷ []
unfolding walk_fault
refused word words turn =
    ap (λ k. top_ended (or_else k (walk_fault line.top (names_of line) (walked line.top.rules (names_of line) (at 1 nothing_held) word) words)) (walk line.top.rules (names_of line) nothing_held (word ∷ words))) turn

-- ---- the words that pass

first_alone : (k : Kinds) → or_else k [] ≡ k
first_alone [] = refl
first_alone (x ∷ xs) = refl

pub run_passes : fault_of command_line (codes "run" ∷ []) ≡ []
unfolding walk_fault defaults_fault
run_passes = form_fault (codes "run") running run_enters []

pub replay_passes : fault_of command_line (codes "replay" ∷ []) ≡ []
unfolding walk_fault defaults_fault
replay_passes = form_fault (codes "replay") replaying replay_enters []

pub migrate_passes : fault_of command_line (codes "migrate" ∷ []) ≡ []
unfolding walk_fault defaults_fault
migrate_passes = form_fault (codes "migrate") migrating migrate_enters []

pub three_pass : (seed clients calls : Text) → is_flag seed ≡ false → is_flag clients ≡ false → is_flag calls ≡ false → fault_of command_line (codes "soak" ∷ seed ∷ clients ∷ calls ∷ []) ≡ []
three_pass seed clients calls a b c =
    form_fault (codes "soak") soaking soak_enters (seed ∷ clients ∷ calls ∷ []) ∙ (first_alone _ ∙ soak_passes seed a clients b calls c)

pub one_passes : (seed : Text) → is_flag seed ≡ false → fault_of command_line (codes "random" ∷ seed ∷ []) ≡ []
one_passes seed a = form_fault (codes "random") drawing random_enters (seed ∷ []) ∙ (first_alone _ ∙ random_passes seed a)

-- what words are that pass
abbrev pub Passing : List Text → Type 0
Passing words = (words ≡ codes "run" ∷ []) ⊎ ((words ≡ codes "replay" ∷ []) ⊎ ((words ≡ codes "migrate" ∷ [])
    ⊎ (((numbers : List Text) × (words ≡ codes "soak" ∷ numbers) × AreThree numbers) ⊎ ((numbers : List Text) × (words ≡ codes "random" ∷ numbers) × IsOne numbers))))

-- words that pass behind the name of a form pass in that form
behind : (name : Text) (s : Shape) → Enters name s → (word : Text) (words : List Text) → bytes_eq name word ≡ true → fault_of command_line (word ∷ words) ≡ []
    → (name ≡ word) × (level_fault s [] nothing_held words false [] ≡ [])
behind name s enters word words same passes =
    let is : name ≡ word = (bytes_eq-Decides name word).0 same in
    let named : fault_of command_line (name ∷ words) ≡ [] = subst (λ (w : Text). fault_of command_line (w ∷ words) ≡ []) (sym is) passes in
    (is, sym (first_alone _) ∙ (sym (form_fault name s enters words) ∙ named))

pub passing : (words : List Text) → list_any is_flag words ≡ false → fault_of command_line words ≡ [] → Passing words
unfolding walk_fault defaults_fault
passing [] plain passes = absurd cc
passing (word ∷ words) plain passes =
    let p = or_parts (is_flag word) (list_any is_flag words) plain in
    elim (cases_Bool (bytes_eq (codes "run") word)) [
      | inl same ↦
          let b = behind (codes "run") running run_enters word words same passes in
          inl (ap₂ ◌∷◌ (sym b.0) (no_words running words refl p.1 b.1))
      | inr run ↦ elim (cases_Bool (bytes_eq (codes "replay") word)) [
        | inl same ↦
            let b = behind (codes "replay") replaying replay_enters word words same passes in
            inr (inl (ap₂ ◌∷◌ (sym b.0) (no_words replaying words refl p.1 b.1)))
        | inr replay ↦ elim (cases_Bool (bytes_eq (codes "migrate") word)) [
          | inl same ↦
              let b = behind (codes "migrate") migrating migrate_enters word words same passes in
              inr (inr (inl (ap₂ ◌∷◌ (sym b.0) (no_words migrating words refl p.1 b.1))))
          | inr migrate ↦ elim (cases_Bool (bytes_eq (codes "soak") word)) [
            | inl same ↦
                let b = behind (codes "soak") soaking soak_enters word words same passes in
                inr (inr (inr (inl (words, ap (λ (w : Text). w ∷ words) (sym b.0), three_words words p.1 b.1))))
            | inr soak ↦ elim (cases_Bool (bytes_eq (codes "random") word)) [
              | inl same ↦
                  let b = behind (codes "random") drawing random_enters word words same passes in
                  inr (inr (inr (inr (words, ap (λ (w : Text). w ∷ words) (sym b.0), one_word words p.1 b.1))))
              | inr random ↦
                  let fails : fault_of command_line (word ∷ words) ≡ kind.UnknownArgument ∷ kind.InvalidSubcommand ∷ [] =
                  refused word words (turn_value (names_of line) nothing_held word p.0 (unnamed_word word run replay migrate soak random) line.top 1) in
                  absurd cc
            ]
          ]
        ]
      ]
    ]

-- what clap tells of them
pub run_met : subcommand_of command_line (codes "run" ∷ []) ≡ Some (codes "run", [])
run_met = form_met (codes "run") running run_enters []

pub replay_met : subcommand_of command_line (codes "replay" ∷ []) ≡ Some (codes "replay", [])
replay_met = form_met (codes "replay") replaying replay_enters []

pub migrate_met : subcommand_of command_line (codes "migrate" ∷ []) ≡ Some (codes "migrate", [])
migrate_met = form_met (codes "migrate") migrating migrate_enters []

pub soak_met : (seed clients calls : Text) → is_flag seed ≡ false → is_flag clients ≡ false → is_flag calls ≡ false
    → subcommand_of command_line (codes "soak" ∷ seed ∷ clients ∷ calls ∷ []) ≡ Some (codes "soak", rows_of_soak seed clients calls)
soak_met seed clients calls a b c =
    form_met (codes "soak") soaking soak_enters (seed ∷ clients ∷ calls ∷ []) ∙ ap (λ (rows : List Row). Some (codes "soak", rows)) (soak_rows seed a clients b calls c)

pub random_met : (seed : Text) → is_flag seed ≡ false → subcommand_of command_line (codes "random" ∷ seed ∷ []) ≡ Some (codes "random", rows_of_random seed)
random_met seed a = form_met (codes "random") drawing random_enters (seed ∷ []) ∙ ap (λ (rows : List Row). Some (codes "random", rows)) (random_rows seed a)
