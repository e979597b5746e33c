-- Each answer of a command of one step has its cause.
use Rattle.std.proofs.Common.{◌≡◌, ◌⊎◌, inl, inr, ℕ, ◌-◌, List, [], ◌∷◌, ◌++◌, refl, sym, ap, ◌∙◌, subst}
use Rattle.std.specs.Prelude.{Option, Some, None, option_and_then}
use Rattle.flr_base.specs.declared.reply.Entry.{Entry}
use Rattle.flr_base.specs.declared.reply.Reply.{Reply}
use Rattle.flr_base.specs.declared.reply.Reply.TheVariants as reply
use Rattle.layout_text.specs.Texts.{text_of_layout}
use Rattle.lfs_words.specs.declared.command.LfsCommand.{LfsCommand}
use Rattle.lfs_words.specs.declared.command.LfsCommand.TheVariants as lfs
use Rattle.lfs_words.specs.declared.command.SplitTo.{SplitTo}
use Rattle.lfs_words.specs.declared.command.SplitTo.TheVariants as split
use Rattle.script_values.specs.declared.command.Command.{Command}
use Rattle.script_values.specs.declared.command.Command.TheVariants as command
use Rattle.lfs_words.specs.Naming.{default_name}
use Rattle.meta_server.specs.Files.{File, file_named}
use Rattle.meta_server.specs.Outcomes.{Gives, Refuses, Waits}
use Rattle.meta_server.specs.Outcomes as meta
use Rattle.mirror_admin.specs.OneStep.{one_step}
use Rattle.mirror_admin.specs.Rotting.{is_kept, rotted}
use Rattle.call_steps.specs.Runs.{CallStep, IsRunOf, goes_on}
use Rattle.call_steps.specs.Servers.{Servers}
use Rattle.call_steps.specs.Steps.{Outcome}
use Rattle.flr_steps.specs.declared.client.Running.{Running}
use Rattle.flr_steps.specs.declared.client.Running.TheVariants as running
use Rattle.flr_steps.specs.Commands.{answered_by, at_once, begun}
use Rattle.flr_steps.specs.States.{State, state_at}
use Rattle.flr_steps.specs.Traces.{Doing, Past, is_opening}
use Rattle.flr_asked.specs.CallRuns.{AllStand, FixesAnswer, StandsIn, opened_in, own_step, place_if}
use Rattle.flr_claims.specs.Asked.{IsFile, name_of}
use Rattle.flr_claims.specs.Calls.{Call, IsAtOnce}
use Rattle.flr_claims.specs.Causes.{Answers, IsCaused, IsGranted, IsRefused}
use Rattle.flr_claims.specs.Refusals.{plain_refusal, refusal_for}
use Rattle.flr_honest.specs.Entries.{IsEntryOf, claimed}
use Rattle.flr_honest.specs.OneStep.Sentences.{HasOneStep, OneStepsHaveCauses}
use Rattle.flr_honest.proofs.OneStep.Asking.{IsEither, by_flags, by_make, by_parted, by_removed, by_rot, by_text}

-- ---- the call has one step

ends_by : (s : Servers) (o : meta.Outcome Reply) → goes_on (answered_by s o) ≡ None
ends_by s (Gives given after) = refl
ends_by s (Refuses answer) = refl
ends_by s (Waits holder) = refl

-- a command of one step goes no further
ends_once : (c : ℕ) (asked : Command) (place : ℕ) (s : Servers) → goes_on (at_once c asked place s) ≡ None
ends_once c (command.Lfs of) place s = ends_by s (one_step c of place s.meta)
ends_once c (command.Evict other) place s = refl
ends_once c (command.Rot object offset byte) place s = refl
ends_once c (command.Read name offset len) place s = refl
ends_once c (command.Write name offset bytes) place s = refl
ends_once c (command.Truncate name size) place s = refl

-- nothing comes behind the end of a call
pub none_behind : (c : ℕ) (asked : Command) (front : List (CallStep Running)) (last : CallStep Running) (o : Option Running) (place : ℕ) → o ≡ None → IsRunOf (own_step c asked) (front ++ last ∷ []) o place → ⊥
none_behind c asked [] last None place e run = run
none_behind c asked (x ∷ xs) last None place e run = run
none_behind c asked front last (Some call) place e run = absurd (cc e)

-- what is known of the one step
pub record IsOne (c : ℕ) (asked : Command) (front : List (CallStep Running)) (last : CallStep Running) : Type 0 where
  pub none : front ≡ []
  pub idle : last.call ≡ running.Idle
  pub came : last.came ≡ at_once c asked last.place last.before

is_one : (c : ℕ) (asked : Command) (front : List (CallStep Running)) (last : CallStep Running) → IsRunOf (own_step c asked) (front ++ last ∷ []) (Some running.Idle) 0 → IsOne c asked front last
is_one c asked [] last run = record { none = refl; idle = run.0.same; came = run.0.came }
is_one c asked (x ∷ xs) last run = absurd (none_behind c asked xs last (goes_on x.came) x.place (ap goes_on run.0.came ∙ ends_once c asked x.place x.before) run.1)

-- ---- the answer

module _ (k : Call) (s : Servers) (c place : ℕ) (shared : k.before.shared ≡ s) (at : IsAtOnce k) (answer : Reply) where
  -- where the call is refused so, the answer has its cause
  by_refusal : (asked : Command) → k.asked ≡ asked → k.takes ≡ [] → refusal_for asked s ≡ Some answer → IsRefused k answer
  by_refusal asked same none r = (at, ap (λ (a : Command). refusal_for a k.before.shared) same ∙ ap (refusal_for asked) shared ∙ r, none)

  by_grant : (asked : Command) → k.asked ≡ asked → k.takes ≡ [] → refusal_for asked s ≡ None → IsGranted k
  by_grant asked same none r = (at, ap (λ (a : Command). refusal_for a k.before.shared) same ∙ ap (refusal_for asked) shared ∙ r, none)

  -- it is refused, or is answered with this success
  by_either : (asked : Command) (success : Reply) → k.asked ≡ asked → (IsGranted k → Answers k asked success) → (k.takes ≡ []) × IsEither (refusal_for asked s) success answer → IsRefused k answer ⊎ Answers k asked answer
  by_either asked success same to (none, inl r) = inl (by_refusal asked same none r)
  by_either asked success same to (none, inr (r, e)) = inr (subst (Answers k asked) e (to (by_grant asked same none r)))

  text_answers : (name : List ℕ) → k.asked ≡ command.Lfs (lfs.GetStripe name)
      → (k.takes ≡ []) × ((plain_refusal name (file_named name s.meta.files) ≡ Some answer)
      ⊎ ((f : File) × (file_named name s.meta.files ≡ Some f) × (plain_refusal name (file_named name s.meta.files) ≡ None) × (answer ≡ reply.Layout (text_of_layout f.layout))))
      → IsRefused k answer ⊎ Answers k (command.Lfs (lfs.GetStripe name)) answer
  text_answers name same (none, inl r) = inl (by_refusal (command.Lfs (lfs.GetStripe name)) same none r)
  text_answers name same (none, inr (f, there, r, e)) =
      let asked : Command = command.Lfs (lfs.GetStripe name) in
      let file : IsFile k.before k.asked f = ap (λ (a : Command). option_and_then (λ (n : List ℕ). file_named n k.before.shared.meta.files) (name_of a)) same ∙ ap (λ (x : Servers). file_named name x.meta.files) shared ∙ there in
      inr (subst (Answers k asked) (sym e) (by_grant asked same none r, (f, file, refl)))

  split_answers : (name : List ℕ) (mirror : ℕ) (to : SplitTo) → k.asked ≡ command.Lfs (lfs.Split name mirror to) → FixesAnswer (at_once c (command.Lfs (lfs.Split name mirror to)) place s) answer k.takes
      → IsRefused k answer ⊎ Answers k (command.Lfs (lfs.Split name mirror to)) answer
  split_answers name mirror split.Default same f =
      let new : List ℕ = default_name name mirror in
      by_either (command.Lfs (lfs.Split name mirror split.Default)) (reply.Split new) same (λ g. (g, refl)) (by_parted s answer k.takes c place name mirror new f)
  split_answers name mirror (split.Named new) same f =
      by_either (command.Lfs (lfs.Split name mirror (split.Named new))) (reply.Split new) same (λ g. (g, refl)) (by_parted s answer k.takes c place name mirror new f)
  split_answers name mirror split.Destroy same f =
      by_either (command.Lfs (lfs.Split name mirror split.Destroy)) (reply.Removed mirror) same (λ g. (g, refl)) (by_removed s answer k.takes c place name mirror f)

  lfs_answers : (of : LfsCommand) → k.asked ≡ command.Lfs of → begun c (command.Lfs of) ≡ running.Idle → FixesAnswer (at_once c (command.Lfs of) place s) answer k.takes → IsRefused k answer ⊎ Answers k (command.Lfs of) answer
  lfs_answers (lfs.SetStripe name spec) same idle f = by_either (command.Lfs (lfs.SetStripe name spec)) reply.Created same (λ g. g) (by_make s answer k.takes c place name spec f)
  lfs_answers (lfs.Create name spec) same idle f = by_either (command.Lfs (lfs.Create name spec)) reply.Created same (λ g. g) (by_make s answer k.takes c place name spec f)
  lfs_answers (lfs.GetStripe name) same idle f = text_answers name same (by_text s answer k.takes name (file_named name s.meta.files) f)
  lfs_answers (lfs.CompSet name id change) same idle f = by_either (command.Lfs (lfs.CompSet name id change)) reply.Set same (λ g. g) (by_flags s answer k.takes c place name id change f)
  lfs_answers (lfs.Split name mirror to) same idle f = split_answers name mirror to same f
  lfs_answers (lfs.Delete name mirror) same idle f = by_either (command.Lfs (lfs.Delete name mirror)) (reply.Removed mirror) same (λ g. (g, refl)) (by_removed s answer k.takes c place name mirror f)
  lfs_answers (lfs.Resync name only) same idle f = absurd (cc idle)
  lfs_answers (lfs.Extend name spec) same idle f = absurd (cc idle)
  lfs_answers (lfs.ExtendBy name victim) same idle f = absurd (cc idle)
  lfs_answers (lfs.Verify name) same idle f = absurd (cc idle)

  one_answers : (asked : Command) → k.asked ≡ asked → begun c asked ≡ running.Idle → FixesAnswer (at_once c asked place s) answer k.takes → IsRefused k answer ⊎ Answers k asked answer
  one_answers (command.Read name offset len) same idle f = absurd (cc idle)
  one_answers (command.Write name offset bytes) same idle f = absurd (cc idle)
  one_answers (command.Truncate name size) same idle f = absurd (cc idle)
  one_answers (command.Lfs of) same idle f = lfs_answers of same idle f
  one_answers (command.Evict client) same idle f = by_either (command.Evict client) (reply.EvictedClient client) same (λ g. (g, refl)) (sym f.1, inr (refl, f.0))
  one_answers (command.Rot object offset byte) same idle f = by_either (command.Rot object offset byte) reply.Rotted same (λ g. g) (by_rot s answer k.takes (is_kept object s.targets) (record s { targets = rotted object offset byte s.targets }) f)

-- ---- of every entry

module _ (s : State) (e : Entry) (p : Past) (is : IsEntryOf s e p) (short : HasOneStep is.asked) where
  pub one_step_is : IsOne e.client is.asked is.call.front is.call.last
  one_step_is = is_one e.client is.asked is.call.front is.call.last (subst (λ (x : Running). IsRunOf (own_step e.client is.asked) (is.call.front ++ is.call.last ∷ []) (Some x) 0) (short e.client) is.call.run)

  stands : StandsIn s.script s.schedule e.client is.asked is.call.last
  stands = (subst (λ (front : List (CallStep Running)). AllStand s.script s.schedule e.client is.asked (front ++ is.call.last ∷ [])) one_step_is.none is.call.stand).0

  opened_there : p.doing.opened ≡ e.at
  opened_there =
      ap (λ (d : Doing). d.opened) is.call.did_is ∙ ap (λ (front : List (CallStep Running)). opened_in 0 (front ++ is.call.last ∷ [])) one_step_is.none
      ∙ ap (λ (x : Running). place_if (is_opening x) is.call.last.place 0) one_step_is.idle ∙ is.call.place_is

  shared_there : is.before.shared ≡ is.call.last.before
  shared_there =
      let both : Some is.before ≡ Some stands.old = sym is.before_is ∙ ap (λ (place : ℕ). state_at s.script s.schedule (place - 1)) (sym is.call.place_is) ∙ stands.old_is in
      ap (λ (x : State). x.shared) (let same : is.before ≡ stands.old = cc both in same) ∙ sym stands.before_is

  pub one_caused : IsCaused (claimed is) e.reply
  one_caused =
      one_answers (claimed is) is.call.last.before e.client is.call.last.place shared_there opened_there e.reply is.asked refl (short e.client)
      (subst (λ (o : Outcome Running). FixesAnswer o e.reply e.takes) one_step_is.came is.call.fixes)

pub one_steps_have_causes : OneStepsHaveCauses
one_steps_have_causes s e p is none short = one_caused s e p is short
