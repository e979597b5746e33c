use Rattle.std.proofs.Common.{◌≡◌, map, sym, ◌∙◌}
use Rattle.lfs_values.specs.declared.cause.Cause.TheVariants as causes
use Rattle.lfs_words.proofs.Wanting.{behind_file, no_want}
use Rattle.lfs_words.proofs.Answering.{good_end, read_to, read_not}
use Rattle.lfs_words.proofs.read.read.Goals as goal

pub ended-requires-clause-good : goal.ended-requires-clause-good
ended-requires-clause-good c = good_end c.args.most (map (λ word. word.now) c.args.words.now) c.in-Ok-found.state (sym c.in-Ok-found.is ∙ c.in-Ok.ensures.exact)

pub returns-in-Ok-found-clause-exact : goal.returns-in-Ok-found-clause-exact
returns-in-Ok-found-clause-exact c = read_to c.args.most (map (λ word. word.now) c.args.words.now) c.in-Ok-found.state c.ended.result (sym c.in-Ok-found.is ∙ c.in-Ok.ensures.exact) c.ended.ensures.exact

pub returns-in-Ok-found-clause-memory : goal.returns-in-Ok-found-clause-memory
returns-in-Ok-found-clause-memory c = λ e. behind_file c.args.most (map (λ word. word.now) c.args.words.now) c.in-Ok-found.state (sym c.in-Ok-found.is ∙ c.in-Ok.ensures.exact) (c.ended.ensures.memory e)

pub returns-in-Err-clause-exact : goal.returns-in-Err-clause-exact
returns-in-Err-clause-exact c = λ _.
    let e = read_not c.args.most (map (λ word. word.now) c.args.words.now) c.in-Err.at c.in-Err.fault (sym c.in-Err.is ∙ c.in-Ok.ensures.exact) in
    let place = c.place_at.ensures in
    let value = c.cause_at.ensures.value in
    let at = c.in-Err.at-is in
    let fault = c.in-Err.fault-is in cc

pub returns-in-Err-clause-memory : goal.returns-in-Err-clause-memory
returns-in-Err-clause-memory c = λ e.
    let value = c.cause_at.ensures.value in
    absurd (no_want c.in-Err.fault c.place_at.result (let same : c.cause_at.result ≡ causes.Memory = cc in sym value ∙ same))
