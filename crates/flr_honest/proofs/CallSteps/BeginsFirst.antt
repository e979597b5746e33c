-- Copies of entries, taken apart at their begins.
use Rattle.std.proofs.Common.{◌≡◌, ℕ, List, [], ◌∷◌, ◌++◌, Some, inl, inr, refl, sym, ap, subst, ◌∙◌, ◌⊎◌}
use Rattle.flr_base.specs.declared.reply.Entry.{Entry}
use Rattle.script_values.specs.declared.command.Command.{Command}
use Rattle.meta_server.specs.declared.answers.CopyWhat.{CopyWhat}
use Rattle.meta_server.specs.declared.answers.CopyWhat.TheVariants.{Victim}
use Rattle.meta_server.specs.Files.{file_named}
use Rattle.call_steps.specs.Runs.{CallStep, IsRunOf, goes_on}
use Rattle.resync_copy.specs.Calls.{CopyView}
use Rattle.resync_copy.specs.Copies.{new_copy}
use Rattle.resync_copy.specs.Steps.{copy_step}
use Rattle.flr_steps.specs.declared.client.Running.TheVariants as running
use Rattle.flr_steps.specs.States.{State}
use Rattle.flr_steps.specs.Traces.{Past}
use Rattle.flr_claims.specs.Asked.{name_of, victim_of}
use Rattle.flr_asked.specs.CallRuns.{StandsIn, of_kind}
use Rattle.flr_honest.specs.Entries.{IsEntryOf}
use Rattle.flr_honest.specs.CallSteps.BegunCalls.{BeginsFirst, CopyWentOn, MergeWentOn}
use Rattle.flr_honest.specs.CallSteps.BegunFiles.{HasBegunCopy, HasBegunMerge}
use Rattle.flr_honest.specs.CallSteps.SinceOpening.{IsLastSince, SinceOpening}
use Rattle.flr_honest.specs.CallSteps.TypedCalls.{IsTypedCallTo}
use Rattle.flr_honest.proofs.CallSteps.BeginsOnce.{OpensOnce, opens_once}
use Rattle.flr_honest.proofs.CallSteps.BegunFiles.{copy_begun}
use Rattle.flr_honest.proofs.CallSteps.KnownMerges.{merges_know}
use Rattle.flr_honest.proofs.CallSteps.KnownSides.{copies_know}
use Rattle.flr_honest.proofs.CallSteps.OnTheWay.{has_opened, have_begun, last_is, opening_stands}
use Rattle.flr_honest.proofs.CallSteps.OpensLast.{goes_somewhere}
use Rattle.flr_honest.proofs.CallSteps.Standing.{after_servers, before_servers, call_of}

module _ (name : List ℕ) (what : CopyWhat) {s : State} {e : Entry} {p : Past} (is : IsEntryOf s e p) (asked : Command) (call : IsTypedCallTo running.Copy copy_step (new_copy e.client name what) s.script s.schedule asked e p)
    (named : name_of is.asked ≡ Some name) (taken : (victim : List ℕ) → what ≡ Victim victim → victim_of is.asked ≡ Some victim) where
  abbrev x : CopyView
  x = new_copy e.client name what

  abbrev once : OpensOnce x (call.front ++ call.last ∷ [])
  once = opens_once x refl call.front call.last call.run

  abbrev since : SinceOpening running.Copy copy_step x (call.front ++ call.last ∷ [])
  since = once.since

  same : since.opening.call ≡ x
  same = once.same

  stands : StandsIn s.script s.schedule e.client asked (of_kind running.Copy since.opening)
  stands = opening_stands running.Copy copy_step x is asked call since

  same_name : since.opening.call.name ≡ name
  same_name = ap (λ (k : CopyView). k.name) same

  module _ (middle : List (CallStep CopyView)) (are : since.rest ≡ middle ++ call.last ∷ []) where
    went_on : HasBegunCopy since.opening ⊎ HasBegunMerge since.opening → CopyWentOn x is asked call since ⊎ MergeWentOn x is asked call since
    went_on (inl begun) = inl (record {
      middle = middle;
      are = are;
      begun = begun;
      opened = has_opened running.Copy copy_step x is asked call since refl middle are name begun.shown.file named (ap (λ (n : List ℕ). file_named n since.opening.after.meta.files) (sym same_name) ∙ begun.shown.named);
      know = copies_know since.opening since.rest begun since.run.1;
    })
    went_on (inr begun) =
        let ours = ap (λ (n : List ℕ). file_named n since.opening.after.meta.files) (sym same_name) ∙ begun.shown.ours_shown.named in
        let is_what : what ≡ Victim begun.victim = sym (ap (λ (k : CopyView). k.what) same) ∙ begun.what in
        inr (record {
          middle = middle;
          are = are;
          begun = begun;
          opened = has_opened running.Copy copy_step x is asked call since refl middle are name begun.shown.ours_shown.file named ours;
          both = have_begun running.Copy copy_step x is asked call since refl middle are name begun.victim begun.shown.ours_shown.file begun.shown.theirs_shown.file named (taken begun.victim is_what) ours begun.shown.theirs_shown.named;
          know = merges_know since.opening since.rest begun since.run.1;
        })

    began : HasBegunCopy since.opening ⊎ HasBegunMerge since.opening
    began =
        let next = goes_somewhere copy_step (goes_on since.opening.came) middle call.last since.opening.place (subst (λ (ys : List (CallStep CopyView)). IsRunOf copy_step ys (goes_on since.opening.came) since.opening.place) are since.run.1) in
        copy_begun since.opening since.run.0.came since.run.0.left (before_servers s is.run e.client asked (of_kind running.Copy since.opening) stands).sound (after_servers s is.run e.client asked (of_kind running.Copy since.opening) stands).sound
        (call_of s is.run e.client asked (of_kind running.Copy since.opening) stands).1 (ap (λ (k : CopyView). k.at) same) next.0 next.1

  -- each copy
  pub begins_first : BeginsFirst x is asked call
  begins_first = record { since = since; first = once.first; same = same; last = by (last_is running.Copy copy_step x is asked call since) }
    where
      by : IsLastSince since.opening since.rest call.last → ((since.rest ≡ []) × (since.opening ≡ call.last)) ⊎ (CopyWentOn x is asked call since ⊎ MergeWentOn x is asked call since)
      by (inl at_once) = inl at_once
      by (inr later) = inr (went_on later.0 later.1 (began later.0 later.1))
