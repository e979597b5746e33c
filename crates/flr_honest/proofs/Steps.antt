-- Each step of a run without rot keeps what is known of bytes.
use Rattle.std.proofs.Common.{◌≡◌, ℕ, Some, inl, inr, refl, sym, ap, ◌∙◌}
use Rattle.std.proofs.lemmas.Bool.{cases_eq}
use Rattle.resync_copy.specs.declared.phase.CopyAt.{CopyAt}
use Rattle.resync_copy.specs.declared.phase.CopyAt.TheVariants as at
use Rattle.resync_copy.specs.Calls.{CopyView}
use Rattle.flr_steps.specs.declared.client.Client.{Client}
use Rattle.flr_steps.specs.declared.client.Running.{Running}
use Rattle.flr_steps.specs.declared.client.Running.TheVariants as running
use Rattle.flr_steps.specs.States.{State, client_at}
use Rattle.flr_steps.specs.Traces.{Trace, traced}
use Rattle.flr_bytes.specs.Calls.{CopySays, Says}
use Rattle.flr_bytes.specs.Laws.{StepsClose, StepsKeepBytes, StepsKeepHonest}
use Rattle.flr_bytes.specs.Runs.{Honest, IsStep}
use Rattle.flr_bytes.specs.Sentences.{byte_in}
use Rattle.flr_bytes.proofs.Clients.{client_stays}
use Rattle.flr_honest.proofs.Landed.Counting.{steps_count}
use Rattle.flr_honest.proofs.Landed.Staying.{steps_keep_landed}
use Rattle.flr_honest.proofs.Landed.Steps.{steps_write}
use Rattle.flr_honest.proofs.Stores.Answering.{steps_keep_store}
use Rattle.flr_honest.proofs.Stores.Coming.{steps_give_new}
use Rattle.flr_honest.proofs.Stores.Sizes.{steps_keep_sizes}
use Rattle.flr_honest.proofs.Closing.Closing.{bytes_follow}
use Rattle.flr_honest.proofs.Origins.Bringing.{step_brings}
use Rattle.flr_honest.proofs.Held.Following.{held_follows}
use Rattle.flr_honest.proofs.Knowing.Others.{other_reads}
use Rattle.flr_honest.proofs.Knowing.Own.{own_reads}
use Rattle.flr_honest.proofs.Knowing.VerifySteps.{other_verifies, own_verifies}
use Rattle.flr_honest.proofs.Copied.OwnSteps.{own_copy_follows}
use Rattle.flr_honest.proofs.Lasting.MergesSay.{others_merge_follows}
use Rattle.flr_honest.proofs.Lasting.OthersSay.{others_copy_follows}

-- each byte of a plain file stays but where a call closes it, and it is closed
keep : StepsKeepBytes
keep = (bytes_follow steps_keep_store steps_keep_sizes).0

close : StepsClose
close = (bytes_follow steps_keep_store steps_keep_sizes).1

module _ (s t : State) (old new : Trace) (c : ℕ) (is : IsStep s t old new c) (e : new ≡ traced s t old c) (h : Honest s old) where
  -- the call that the step is of
  own : (client : Client) → client_at t.clients c ≡ Some client → (call : Running) → client.call ≡ call → Says t.shared (byte_in t new) call
  own client there running.Idle same = tt
  own client there (running.Read r) same = own_reads keep s t old new c is e h client r there same
  own client there (running.Write w) same = tt
  own client there (running.Truncate w) same = tt
  own client there (running.Verify v) same = own_verifies keep s t old new c is e h client v there same
  own client there (running.Copy k) same = own_copy_follows keep s t old new c is e h client k there same

  -- the calls of others
  copy_of : (d : ℕ) → (d ≡ c → ⊥) → (client : Client) (k : CopyView) → client_at s.clients d ≡ Some client → client.call ≡ running.Copy k → (a : CopyAt) → k.at ≡ a → CopySays t.shared (byte_in t new) a
  copy_of d apart client k here same at.Begin stands = tt
  copy_of d apart client k here same (at.Copy next) stands = others_copy_follows steps_write keep s t old new c d is e h apart client k next here same stands
  copy_of d apart client k here same (at.Merge next) stands = others_merge_follows steps_write keep s t old new c d is e h apart client k next here same stands

  others : (d : ℕ) → (d ≡ c → ⊥) → (client : Client) → client_at s.clients d ≡ Some client → (call : Running) → client.call ≡ call → Says t.shared (byte_in t new) call
  others d apart client here running.Idle same = tt
  others d apart client here (running.Read r) same = other_reads keep s t old new c d is e h apart client r here same
  others d apart client here (running.Write w) same = tt
  others d apart client here (running.Truncate w) same = tt
  others d apart client here (running.Verify v) same = other_verifies keep s t old new c d is e h apart client v here same
  others d apart client here (running.Copy k) same = copy_of d apart client k here same k.at refl

  says : (d : ℕ) (client : Client) → client_at t.clients d ≡ Some client → Says t.shared (byte_in t new) client.call
  says d client there = elim (cases_eq d c) as (λ _. Says t.shared (byte_in t new) client.call) [
    | inl same ↦ own client (ap (client_at t.clients) (sym same) ∙ there) client.call refl
    | inr apart ↦ others d apart client (sym (client_stays s t c old is.step d apart) ∙ there) client.call refl
  ]

pub step_honest : StepsKeepHonest
step_honest s t old new c is e h = record {
  sized = steps_keep_sizes s t old new c is e h.sized;
  holds = held_follows steps_write steps_count keep close steps_give_new step_brings s t old new c is e h;
  landed = steps_keep_landed s t old new c is e h;
  calls = says s t old new c is e h;
}
