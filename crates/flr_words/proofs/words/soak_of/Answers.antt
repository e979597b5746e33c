use Rattle.std.proofs.Common.{◌≡◌}
use Rattle.flr_words.proofs.words.soak_of.Goals as goal

pub returns-in_default : goal.returns-in_default
returns-in_default c = λ seed clients calls a b d. let h = c.in_default.ensures in absurd cc

pub returns-in_default-get_str : goal.returns-in_default-get_str
returns-in_default-get_str c = λ seed clients calls a b d. let h = c.in_default-get_str.ensures in absurd cc

pub returns-in_default-get_str-2 : goal.returns-in_default-get_str-2
returns-in_default-get_str-2 c = λ seed clients calls a b d. let h = c.in_default-get_str-2.ensures in absurd cc

pub returns : goal.returns
returns c = λ seed clients calls a b d.
    let first : c.in-Some.seed.now ≡ seed = cc c.in-Some.ensures in
    let second : c.in-Some-get_str.clients.now ≡ clients = cc c.in-Some-get_str.ensures in
    let third : c.in-Some-get_str-2.calls.now ≡ calls = cc c.in-Some-get_str-2.ensures in
    rw (← first, ← second, ← third) c.soak.ensures
