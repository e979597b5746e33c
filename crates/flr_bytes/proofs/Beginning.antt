-- Before any step there are no files, and nobody has a call.
use Rattle.std.proofs.Common.{◌≡◌, Some, length, sym, ap, subst, ◌∙◌}
use Rattle.flr_places.proofs.Runs.{new_at}
use Rattle.flr_steps.specs.declared.client.Client.{Client}
use Rattle.flr_steps.specs.States.{new_client, start}
use Rattle.flr_steps.specs.Traces.{Trace, new_trace}
use Rattle.flr_claims.specs.Sending.{Attempt, attempt_of}
use Rattle.flr_bytes.specs.Calls.{Says}
use Rattle.flr_bytes.specs.Laws.{StartIsHonest}
use Rattle.flr_bytes.specs.Sentences.{byte_in}

pub start_honest : StartIsHonest
start_honest script = record {
  sized = tt;
  holds = λ n f d x there. absurd (cc there);
  landed = λ c client a place p x here is. absurd (no_attempt a (ap (λ (k : Client). attempt_of k.call) (sym (new_at (length script.clients) c client here)) ∙ is));
  calls = λ c client e. subst (λ (k : Client). Says (start script).shared (byte_in (start script) trace) k.call) (sym (new_at (length script.clients) c client e)) tt;
}
  where
    trace : Trace
    trace = new_trace (length script.clients)

    no_attempt : (a : Attempt) → attempt_of new_client.call ≡ Some a → ⊥
    no_attempt a e = cc
