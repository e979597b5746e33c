-- Each fresh component holds the bytes of the plain file after a step, wherever it comes from.
use Rattle.std.proofs.Common.{◌≡◌, inl, inr, ap}
use Rattle.mirror_select.specs.Held.{held}
use Rattle.resync_copy.specs.declared.phase.CopyAt.TheVariants as at
use Rattle.resync_copy.specs.declared.phase.CopyStage.TheVariants as stage
use Rattle.flr_steps.specs.declared.client.Running.TheVariants as running
use Rattle.flr_steps.specs.Clients.{call_now}
use Rattle.flr_steps.specs.Traces.{copy_begins}
use Rattle.flr_claims.specs.Honesty.{content}
use Rattle.flr_bytes.specs.Origins.{Comes}
use Rattle.flr_bytes.specs.Sentences.{byte_in}
use Rattle.flr_bytes.specs.Calls.{ClearsCopied}
use Rattle.flr_honest.specs.Held.{HeldFollows}
use Rattle.flr_honest.proofs.Held.Cleared.{cleared_held}
use Rattle.flr_bytes.proofs.Clients.{under_way}
use Rattle.flr_honest.proofs.Held.Ends.{said}
use Rattle.flr_honest.proofs.Held.Filled.{filled_held, made_held}
use Rattle.flr_honest.proofs.Held.Kept.{kept_held}
use Rattle.flr_honest.proofs.Held.SplitOff.{split_held}
use Rattle.flr_honest.proofs.Held.TakenIn.{taken_held}

-- so they do where it is known what each step writes and what it leaves of the plain files
pub held_follows : HeldFollows
held_follows write count keep close give bring s t old new c is e honest n f d x found listed fresh own closed = by (bring s t old new c is n f d found listed fresh)
  where
    by : Comes s is.step.asked (call_now c is.step.client.call is.step.asked) n d → held (content t.shared) d x ≡ byte_in t new n x
    by (inl kept) = kept_held write count s t old new c is e honest n x d kept own.0 own.1 keep close f found listed own.2 closed
    by (inr (inl filled)) = filled_held write s t old new c is e honest n x f d found own keep filled
    by (inr (inr (inl made))) = made_held write s t old new c is e honest n x f d found own give made
    by (inr (inr (inr (inl split)))) = split_held s t old new c is e honest n x f d found listed own split write count give closed
    by (inr (inr (inr (inr (inl cleared))))) =
        let was : is.step.client.call ≡ running.Copy cleared.asked = under_way c is.step.asked is.step.client.call (running.Copy cleared.asked) cleared.copies (ap copy_begins cleared.at) in
        let clears : ClearsCopied s.shared (byte_in s old) cleared.key cleared.cleared = said write s t old new c is e cleared.asked cleared.copies honest was (at.Copy (stage.Done cleared.key cleared.cleared cleared.left)) cleared.at in
        cleared_held write keep s t old new c is e honest n x f d found own cleared clears was
    by (inr (inr (inr (inr (inr taken))))) = taken_held write keep s t old new c is e honest n x f d found own taken
