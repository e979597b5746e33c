use Rattle.std.proofs.Common.{◌≡◌}
use Rattle.flr_words.proofs.words.random_of.Goals as goal

pub returns-in_default : goal.returns-in_default
returns-in_default c = λ seed a. let h = c.in_default.ensures in absurd cc

pub returns : goal.returns
returns c = λ seed a.
    let first : c.in-Some.seed.now ≡ seed = cc c.in-Some.ensures in
    rw (← first) c.random.ensures
