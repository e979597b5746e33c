use Rattle.std.proofs.Common.{◌≡◌, ◌∙◌, List, Option, Some, ap, codes, option_map}
use Rattle.clap.specs.Words.{Row, Text, first_of, found_of, rows_of, subcommand_rows_of}
use Rattle.clap.proofs.WalkLemmas.{first_value-rows}
use Rattle.flr_words.proofs.words.asked.Goals as goal

-- the rows of the form that was met
met_rows : (found : Option (Text × List Row)) (name : Text) (own rows : List Row) → Some own ≡ option_map (λ p. p.1) found → found ≡ Some (name, rows) → own ≡ rows
met_rows found name own rows is met =
    let both : Some own ≡ Some rows = is ∙ ap (option_map (λ (p : Text × List Row). p.1)) met in
    cc

pub returns-in-Some-random-default-clause-random : goal.returns-in-Some-random-default-clause-random
returns-in-Some-random-default-clause-random c = λ rows seed met a.
    let found = found_of c.in-Some-random-default.number.now in
    let same = met_rows (subcommand_rows_of c.args.matches.now) (codes "random") (rows_of found) rows c.in-Some-random-default.ensures.rows met in
    c.random_of.ensures seed (first_value-rows found (codes "seed") ∙ (ap (first_of (codes "seed")) same ∙ a))

pub returns-in-Some-soak-default-clause-soak : goal.returns-in-Some-soak-default-clause-soak
returns-in-Some-soak-default-clause-soak c = λ rows seed clients calls met a b d.
    let found = found_of c.in-Some-soak-default.numbers.now in
    let same = met_rows (subcommand_rows_of c.args.matches.now) (codes "soak") (rows_of found) rows c.in-Some-soak-default.ensures.rows met in
    c.soak_of.ensures seed clients calls
    (first_value-rows found (codes "seed") ∙ (ap (first_of (codes "seed")) same ∙ a))
    (first_value-rows found (codes "clients") ∙ (ap (first_of (codes "clients")) same ∙ b))
    (first_value-rows found (codes "calls") ∙ (ap (first_of (codes "calls")) same ∙ d))
