use Rattle.std.proofs.Common.{◌≡◌, ◌∙◌, rules, ap, ap₂, codes}
use Rattle.std.proofs.lemmas.Result.{IfOk-weaker}
use Rattle.clap.specs.Simple.{App, app_of, new_shape, with_subcommand}
use Rattle.flr_words.specs.CommandLine.{bare, soak}
use Rattle.flr_words.proofs.command_line.command_line.Goals as goal

pub returns : goal.returns
returns c =
    let all : app_of c.subcommand_required.result ≡ bare = search rules in
    let one : app_of c.in_ok-subcommand.field-0 ≡ with_subcommand bare (new_shape (codes "run")) =
    c.in_ok-subcommand.ensures.shape c.new-run.ensures.local ∙ ap₂ with_subcommand all (ap (λ (a : App). a.top) c.new-run.ensures.app) in
    let two : app_of c.in_ok-subcommand-2.field-0 ≡ with_subcommand (with_subcommand bare (new_shape (codes "run"))) (new_shape (codes "replay")) =
    c.in_ok-subcommand-2.ensures.shape c.new-replay.ensures.local ∙ ap₂ with_subcommand one (ap (λ (a : App). a.top) c.new-replay.ensures.app) in
    let three : app_of c.in_ok-subcommand-3.field-0 ≡ with_subcommand (with_subcommand (with_subcommand bare (new_shape (codes "run"))) (new_shape (codes "replay"))) (new_shape (codes "migrate")) =
    c.in_ok-subcommand-3.ensures.shape c.new-migrate.ensures.local ∙ ap₂ with_subcommand two (ap (λ (a : App). a.top) c.new-migrate.ensures.app) in
    let four : app_of c.in_ok-subcommand-4.field-0 ≡ with_subcommand (with_subcommand (with_subcommand (with_subcommand bare (new_shape (codes "run"))) (new_shape (codes "replay"))) (new_shape (codes "migrate"))) soak.top =
    c.in_ok-subcommand-4.ensures.shape c.in_ok-soak.ensures.local ∙ ap₂ with_subcommand three (ap (λ (a : App). a.top) c.in_ok-soak.ensures.shape) in
    IfOk-weaker c.subcommand-5.result _ _ (λ r added. added.shape c.in_ok-random.ensures.local ∙ ap₂ with_subcommand four (ap (λ (a : App). a.top) c.in_ok-random.ensures.shape)) c.subcommand-5.ensures
