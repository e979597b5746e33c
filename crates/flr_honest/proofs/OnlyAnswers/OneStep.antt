-- A command of one step has one answer: it is refused so, or it says what the command is for.
use Rattle.std.proofs.Common.{◌≡◌, ℕ, List, refl, sym, ap, ◌∙◌, inl, inr}
use Rattle.flr_base.specs.declared.reply.Reply.{Reply}
use Rattle.flr_base.specs.declared.reply.Reply.TheVariants as reply
use Rattle.layout_text.specs.Texts.{text_of_layout}
use Rattle.lfs_words.specs.declared.command.LfsCommand.{LfsCommand}
use Rattle.lfs_words.specs.declared.command.LfsCommand.TheVariants as lfs
use Rattle.lfs_words.specs.declared.command.SplitTo.{SplitTo}
use Rattle.lfs_words.specs.declared.command.SplitTo.TheVariants as split
use Rattle.script_values.specs.declared.command.Command.{Command}
use Rattle.script_values.specs.declared.command.Command.TheVariants as command
use Rattle.meta_server.specs.Files.{File}
use Rattle.flr_claims.specs.Asked.{IsFile}
use Rattle.flr_claims.specs.Calls.{Call}
use Rattle.flr_claims.specs.Causes as causes
use Rattle.flr_claims.specs.Causes.{Answers, IsCaused, IsGranted}
use Rattle.flr_honest.proofs.OnlyAnswers.Refused.{refusals_are_alone}
use Rattle.flr_honest.specs.OnlyAnswers.Alone.{AreAlone, HaveOneCause, IsLfsAtOnce, IsOfOneStep}

-- two answers with their causes are one where two that aren't refusals are
pub one_if_answered : (k : Call) (a b : Reply) → (Answers k k.asked a → Answers k k.asked b → b ≡ a) → IsCaused k a → IsCaused k b → b ≡ a
one_if_answered k a b one (inl h) o = refusals_are_alone k a h b o
one_if_answered k a b one (inr h) (inl o) = sym (refusals_are_alone k b o a (inr h))
one_if_answered k a b one (inr h) (inr o) = one h o

-- what is so of whatever call is so of those of runs
pub alone_anyhow : (of : Command → Type 0) → HaveOneCause of → AreAlone of
alone_anyhow of one s e p is so caused other o = one _ e.reply other so caused o

module _ (k : Call) where
  -- the file of a command is one
  pub one_named : (f g : File) → IsFile k.before k.asked f → IsFile k.before k.asked g → f ≡ g
  one_named f g e u = let one = e in let two = u in cc

  made_one : (a b : Reply) → causes.MakesFile k a → causes.MakesFile k b → b ≡ a
  made_one reply.Created reply.Created h o = refl
  made_one reply.Created other h o = absurd o
  made_one other b h o = absurd h

  told_one : (a b : Reply) → causes.TellsLayout k a → causes.TellsLayout k b → b ≡ a
  told_one (reply.Layout text) (reply.Layout other) h o =
      let same : h.1.0 ≡ o.1.0 = one_named h.1.0 o.1.0 h.1.1 o.1.1 in
      ap reply.Layout (o.1.2 ∙ sym (ap (λ (f : File). text_of_layout f.layout) same) ∙ sym h.1.2)
  told_one (reply.Layout text) other h o = absurd o
  told_one other b h o = absurd h

  set_one : (a b : Reply) → causes.SetsFlags k a → causes.SetsFlags k b → b ≡ a
  set_one reply.Set reply.Set h o = refl
  set_one reply.Set other h o = absurd o
  set_one other b h o = absurd h

  split_one : (to : List ℕ) (a b : Reply) → causes.SplitsOff k to a → causes.SplitsOff k to b → b ≡ a
  split_one to (reply.Split name) (reply.Split other) h o = ap reply.Split (o.1 ∙ sym h.1)
  split_one to (reply.Split name) other h o = absurd o
  split_one to other b h o = absurd h

  removed_one : (mirror : ℕ) (a b : Reply) → causes.RemovesMirror k mirror a → causes.RemovesMirror k mirror b → b ≡ a
  removed_one mirror (reply.Removed id) (reply.Removed other) h o = ap reply.Removed (o.1 ∙ sym h.1)
  removed_one mirror (reply.Removed id) other h o = absurd o
  removed_one mirror other b h o = absurd h

  evicted_one : (client : ℕ) (a b : Reply) → causes.EvictsClient k client a → causes.EvictsClient k client b → b ≡ a
  evicted_one client (reply.EvictedClient one) (reply.EvictedClient other) h o = ap reply.EvictedClient (o.1 ∙ sym h.1)
  evicted_one client (reply.EvictedClient one) other h o = absurd o
  evicted_one client other b h o = absurd h

  rotted_one : (a b : Reply) → causes.LetsRot k a → causes.LetsRot k b → b ≡ a
  rotted_one reply.Rotted reply.Rotted h o = refl
  rotted_one reply.Rotted other h o = absurd o
  rotted_one other b h o = absurd h

  split_to_one : (name : List ℕ) (mirror : ℕ) (to : SplitTo) (a b : Reply) → causes.SplitsTo k name mirror to a → causes.SplitsTo k name mirror to b → b ≡ a
  split_to_one name mirror split.Default a b h o = split_one _ a b h o
  split_to_one name mirror (split.Named new) a b h o = split_one new a b h o
  split_to_one name mirror split.Destroy a b h o = removed_one mirror a b h o

  lfs_one : (of : LfsCommand) → IsLfsAtOnce of → (a b : Reply) → causes.LfsAnswers k of a → causes.LfsAnswers k of b → b ≡ a
  lfs_one (lfs.SetStripe name spec) so a b h o = made_one a b h o
  lfs_one (lfs.GetStripe name) so a b h o = told_one a b h o
  lfs_one (lfs.CompSet name id change) so a b h o = set_one a b h o
  lfs_one (lfs.Create name spec) so a b h o = made_one a b h o
  lfs_one (lfs.Split name mirror to) so a b h o = split_to_one name mirror to a b h o
  lfs_one (lfs.Delete name mirror) so a b h o = removed_one mirror a b h o
  lfs_one other so a b h o = absurd so

  step_one : (asked : Command) → IsOfOneStep asked → (a b : Reply) → Answers k asked a → Answers k asked b → b ≡ a
  step_one (command.Lfs of) so a b h o = lfs_one of so a b h o
  step_one (command.Evict client) so a b h o = evicted_one client a b h o
  step_one (command.Rot object offset byte) so a b h o = rotted_one a b h o
  step_one other so a b h o = absurd so

-- a command of one step has one answer with its cause
pub steps_have_one : HaveOneCause IsOfOneStep
steps_have_one k a b so caused o = one_if_answered k a b (step_one k k.asked so a b) caused o

pub steps_are_alone : AreAlone IsOfOneStep
steps_are_alone = alone_anyhow IsOfOneStep steps_have_one
