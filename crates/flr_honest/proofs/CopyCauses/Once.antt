-- A copy that is answered with its first step is refused, or has nothing to copy.
use Rattle.std.proofs.Common.{◌≡◌, ℕ, ◌-◌, List, [], ◌∷◌, ◌++◌, length, map, Option, None, Some, inl, inr, refl, sym, ap, subst, ◌∙◌}
use Rattle.flr_base.specs.declared.reply.Entry.{Entry}
use Rattle.flr_base.specs.declared.reply.Reply.{Reply}
use Rattle.script_values.specs.declared.command.Command.{Command}
use Rattle.meta_server.specs.declared.answers.Begun.{Begun}
use Rattle.meta_server.specs.declared.answers.Begun.TheVariants as begun_as
use Rattle.meta_server.specs.declared.answers.CopyWhat.{CopyWhat}
use Rattle.meta_server.specs.declared.answers.CopyWhat.TheVariants.{Resync, Extend, Victim}
use Rattle.meta_server.specs.Beginning.{copy_begins}
use Rattle.meta_server.specs.Files.{File, file_named}
use Rattle.meta_server.specs.Outcomes.{Gives, Refuses, Waits}
use Rattle.meta_server.specs.Outcomes as meta
use Rattle.call_steps.specs.Runs.{CallStep, IsRun}
use Rattle.call_steps.specs.Servers.{Servers}
use Rattle.call_steps.specs.Steps.{Outcome}
use Rattle.resync_copy.specs.Calls.{CopyView}
use Rattle.resync_copy.specs.Copies.{new_copy}
use Rattle.resync_copy.specs.Steps.{begins, copy_step}
use Rattle.flr_steps.specs.States.{State, state_at}
use Rattle.flr_steps.specs.Traces.{Doing, Past}
use Rattle.flr_asked.specs.CallRuns.{FixesAnswer, opened_in}
use Rattle.flr_claims.specs.Asked.{IsFile}
use Rattle.flr_claims.specs.Calls.{Call, IsAtOnce}
use Rattle.flr_claims.specs.Causes.{Answers, CopiesFile, IsCaused, IsCopyOfOne, IsRefused}
use Rattle.flr_claims.specs.Copies.{AreSelected, selects}
use Rattle.flr_claims.specs.Refusals.{refusal_for}
use Rattle.flr_honest.specs.Entries.{claimed}
use Rattle.flr_honest.specs.Legal.Sentences.{TakesInNone}
use Rattle.flr_honest.specs.CopyCauses.Sentences.{IsCopyOf, command_for}
use Rattle.flr_honest.proofs.CopyCauses.Begun.{BeginsSo, begins_so, wanted}
use Rattle.flr_honest.proofs.CopyCauses.Made.{Stands, ground_there}
use Rattle.flr_honest.proofs.CopyCauses.Refusing.{ByMeta, refused_so}
use Rattle.flr_honest.proofs.CopyCauses.Opening.{all_last, as_any, opened_first}

-- ---- what is asked

-- the file of a copy is that of its name
pub file_so : (s : State) (name : List ℕ) (what : CopyWhat) (f : File) → file_named name s.shared.meta.files ≡ Some f → IsFile s (command_for name what) f
file_so s name (Resync only) f e = e
file_so s name (Extend mirrors) f e = e
file_so s name (Victim victim) f e = e

-- what it selects is what its begin wants
pub selects_so : (s : State) (name : List ℕ) (what : CopyWhat) (f : File) → selects s (command_for name what) f ≡ wanted s.script.targets what f.layout
selects_so s name (Resync only) f = refl
selects_so s name (Extend mirrors) f = refl
selects_so s name (Victim victim) f = refl

-- a copy of one file answers so
pub answers_so : (k : Call) (name : List ℕ) (what : CopyWhat) (answer : Reply) → TakesInNone what → CopiesFile k answer → Answers k (command_for name what) answer
answers_so k name (Resync only) answer none h = h
answers_so k name (Extend mirrors) answer none h = h
answers_so k name (Victim victim) answer none h = absurd none

-- ---- the last step

module _ {s : State} {e : Entry} {p : Past} (c : IsCopyOf s e p) where
  -- the last step stands in the run
  pub last_stands : Stands s e.client c.is.asked c.call.last
  last_stands = all_last (Stands s e.client c.is.asked) c.call.front c.call.last c.call.stand

  -- from the state before the point
  pub last_old : last_stands.old ≡ c.is.before
  last_old =
      let there : state_at s.script s.schedule (e.at - 1) ≡ Some last_stands.old = ap (λ (n : ℕ). state_at s.script s.schedule (n - 1)) (sym c.call.place_is) ∙ last_stands.old_is in
      same last_stands.old c.is.before (sym there ∙ c.is.before_is)
    where
      same : (a b : State) → Some a ≡ Some b → a ≡ b
      same a b h = cc

  pub last_before : c.call.last.before ≡ c.is.before.shared
  last_before = last_stands.before_is ∙ ap (λ (x : State). x.shared) last_old

  -- the answer has its cause where it is one of a copy's
  pub caused_so : CopiesFile (claimed c.is) e.reply → IsCaused (claimed c.is) e.reply
  caused_so h = inr (subst (λ (a : Command). Answers (claimed c.is) a e.reply) (sym c.asks) (answers_so (claimed c.is) c.name c.what e.reply c.none h))

  module _ (alone : c.call.front ≡ []) where
    steps_are : c.call.front ++ c.call.last ∷ [] ≡ c.call.last ∷ []
    steps_are = ap (λ (xs : List (CallStep CopyView)). xs ++ c.call.last ∷ []) alone

    run_alone : IsRun copy_step (new_copy e.client c.name c.what) (c.call.last ∷ [])
    run_alone = subst (IsRun copy_step (new_copy e.client c.name c.what)) steps_are c.call.run

    at_once : IsAtOnce (claimed c.is)
    at_once =
        let opened = opened_first (new_copy e.client c.name c.what) c.call.last [] refl run_alone in
        ap (λ (d : Doing). d.opened) c.call.did_is ∙ ap (λ (xs : List (CallStep CopyView)). opened_in 0 (map as_any xs)) steps_are ∙ opened ∙ c.call.place_is

    abbrev S : Servers
    S = c.call.last.before

    came : c.call.last.came ≡ begins (new_copy e.client c.name c.what) S (copy_begins e.client c.name c.what S.meta)
    came = run_alone.0.came

    abbrev Ends : meta.Outcome Begun → Type 0
    Ends o = FixesAnswer (begins (new_copy e.client c.name c.what) S o) e.reply e.takes

    refuses : ByMeta (refusal_for c.is.asked S) (copy_begins e.client c.name c.what S.meta)
    refuses = subst (λ (a : Command). ByMeta (refusal_for a S) (copy_begins e.client c.name c.what S.meta)) (sym c.asks) (refused_so e.client S c.name c.what c.none)

    refused : (answer : Reply) → refusal_for c.is.asked S ≡ Some answer → answer ≡ e.reply → [] ≡ e.takes → IsRefused (claimed c.is) e.reply
    refused answer is same takes = (at_once, ap (refusal_for c.is.asked) (sym last_before) ∙ is ∙ ap (λ (r : Reply). Some r) same, sym takes)

    granted : (f : File) → refusal_for c.is.asked S ≡ None → file_named c.name S.meta.files ≡ Some f → wanted (length S.meta.nexts) c.what f.layout ≡ [] → [] ≡ e.takes → IsCopyOfOne (claimed c.is) [] []
    granted f is there none takes =
        let before : State = c.is.before in
        let named : file_named c.name before.shared.meta.files ≡ Some f = ap (λ (v : Servers). file_named c.name v.meta.files) (sym last_before) ∙ there in
        let many : length S.meta.nexts ≡ before.script.targets = ap (λ (v : Servers). length v.meta.nexts) last_before ∙ targets_there in
        let ids : selects before (command_for c.name c.what) f ≡ [] = selects_so before c.name c.what f ∙ ap (λ (n : ℕ). wanted n c.what f.layout) (sym many) ∙ none in
        let selected : AreSelected before c.is.asked [] = subst (λ (a : Command). AreSelected before a []) (sym c.asks) (f, file_so before c.name c.what f named, ids) in
        IsCopyOfOne.OfNothing (at_once, ap (refusal_for c.is.asked) (sym last_before) ∙ is, sym takes) selected refl refl
      where
        targets_there : length c.is.before.shared.meta.nexts ≡ c.is.before.script.targets
        targets_there = subst (λ (x : State). length x.shared.meta.nexts ≡ x.script.targets) last_old (ground_there s c.is.run e.client c.is.asked c.call.last last_stands).holds.targets

    by : (r : Option Reply) → refusal_for c.is.asked S ≡ r → (o : meta.Outcome Begun) → ByMeta r o → BeginsSo e.client S.meta c.name c.what o → Ends o → IsCaused (claimed c.is) e.reply
    by (Some answer) is o not so fixes =
        let f : Ends (Refuses answer) = subst Ends not fixes in inl (refused answer is f.0 f.1)
    by None is (Gives begun_as.Nothing after) not so fixes = caused_so (subst (CopiesFile (claimed c.is)) fixes.0 (granted so.0 is so.1 so.2 fixes.1))
    by None is (Gives (begun_as.Copy side ids) after) not so fixes = absurd fixes
    by None is (Gives (begun_as.Merge ours theirs) after) not so fixes = absurd so
    by None is (Refuses answer) not so fixes = absurd not
    by None is (Waits holder) not so fixes = absurd fixes

    -- a copy that is answered at once has its cause
    pub once_caused : IsCaused (claimed c.is) e.reply
    once_caused =
        by (refusal_for c.is.asked S) refl (copy_begins e.client c.name c.what S.meta) refuses (begins_so e.client S.meta c.name c.what c.none)
        (subst (λ (o : Outcome CopyView). FixesAnswer o e.reply e.takes) came c.call.fixes)
