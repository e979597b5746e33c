-- What a command of one step comes to.
use Rattle.std.proofs.Common.{◌≡◌, ℕ, true, [], refl, sym, ap, subst, ◌∙◌}
use Rattle.flr_base.specs.declared.reply.Progress.{Progress}
use Rattle.flr_base.specs.declared.reply.Progress.TheVariants as progress
use Rattle.flr_base.specs.declared.reply.Reply.{Reply}
use Rattle.meta_server.specs.Files.{MetaView}
use Rattle.meta_server.specs.Outcomes.{Gives, Refuses, Waits}
use Rattle.meta_server.specs.Outcomes as meta
use Rattle.lfs_words.specs.declared.command.LfsCommand.{LfsCommand}
use Rattle.lfs_words.specs.declared.command.LfsCommand.TheVariants as lfs
use Rattle.mirror_admin.specs.OneStep.{IsAnswered, is_one_step}
use Rattle.call_steps.specs.Servers.{Servers}
use Rattle.call_steps.specs.Steps.{Answered, Steps}
use Rattle.flr_steps.specs.declared.client.Running.{Running}
use Rattle.flr_steps.specs.declared.client.Running.TheVariants as running
use Rattle.flr_steps.specs.Commands.{answered_by, begun_lfs}

-- what the metadata server answered is the command's answer
answered_at_once : (s : Servers) (wanted : meta.Outcome Reply) (answer : Reply) (new : MetaView) → IsAnswered wanted s.meta answer new → answered_by s wanted ≡ Answered answer [] (record s { meta = new })
answered_at_once s (Gives given after) answer new h =
    ap (λ a. Answered a [] (record s { meta = after })) (sym h.0) ∙ ap (λ m. Answered answer [] (record s { meta = m })) (sym h.1)
answered_at_once s (Refuses refusal) answer new h =
    ap (λ a. Answered a [] s) (sym h.0) ∙ ap (λ m. Answered answer [] (record s { meta = m })) (sym h.1)
answered_at_once s (Waits holder) answer new h = absurd h

-- the step answers so
pub came_at_once : (s : Servers) (wanted : meta.Outcome Reply) (answer : Reply) (new : MetaView) (result : Progress Running) → result ≡ progress.Answered answer [] → IsAnswered wanted s.meta answer new
    → Steps running.Idle s result (record s { meta = new }) (answered_by s wanted)
came_at_once s wanted answer new result is h =
    subst (λ (r : Progress Running). Steps running.Idle s r (record s { meta = new }) (answered_by s wanted)) (sym is) (answered_at_once s wanted answer new h)

-- a command that is no call of its own has one step
pub has_one_step : (client : ℕ) (of : LfsCommand) → begun_lfs client of ≡ running.Idle → is_one_step of ≡ true
has_one_step client (lfs.SetStripe name spec) e = refl
has_one_step client (lfs.GetStripe name) e = refl
has_one_step client (lfs.CompSet name id change) e = refl
has_one_step client (lfs.Create name spec) e = refl
has_one_step client (lfs.Extend name spec) e = absurd cc
has_one_step client (lfs.ExtendBy name victim) e = absurd cc
has_one_step client (lfs.Split name mirror to) e = refl
has_one_step client (lfs.Delete name mirror) e = refl
has_one_step client (lfs.Resync name only) e = absurd cc
has_one_step client (lfs.Verify name) e = absurd cc
