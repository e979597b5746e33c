-- What was answered and left is what the outcome says.
use Rattle.std.proofs.Common.{◌≡◌, ℕ, List, Result, Ok, Err, ◌⊎◌, inl, inr, sym, ap, ◌∙◌}
use Rattle.layout_lease.specs.Leases.{KeyView}
use Rattle.meta_server.specs.declared.answers.DoneStop.{DoneStop}
use Rattle.meta_server.specs.declared.answers.DoneStop.TheVariants as done
use Rattle.meta_server.specs.declared.answers.MergeStop.{MergeStop}
use Rattle.meta_server.specs.declared.answers.MergeStop.TheVariants as merge
use Rattle.meta_server.specs.declared.answers.MetaStop.{MetaStop}
use Rattle.meta_server.specs.declared.answers.MetaStop.TheVariants as stops
use Rattle.meta_server.specs.Files.{MetaView}
use Rattle.meta_server.specs.Outcomes.{Completes, Ending, Meets, Outcome, TakesIn}
use Rattle.meta_laws.specs.Calls.{left_at, left_by}

pub outcome_left : (A : Type 0) (wanted : Outcome A) (old new : MetaView) (result : Result A MetaStop) → Meets wanted old result new → (new ≡ left_by wanted old) ⊎ (new ≡ old)
outcome_left A wanted old new (Ok given) h = inl (sym (ap (λ (o : Outcome A). left_by o old) h))
outcome_left A wanted old new (Err (stops.Refused answer)) h = inr h.1
outcome_left A wanted old new (Err (stops.Blocked holder)) h = inr h.1
outcome_left A wanted old new (Err stops.NoMemory) h = inr h.1

pub ending_left : (wanted : Ending (Unit {0})) (key : KeyView) (old new : MetaView) (result : Result (Unit {0}) DoneStop) → Completes wanted key old result new → new ≡ left_at wanted old
ending_left wanted key old new (Ok given) h = sym (ap (λ (e : Ending (Unit {0})). left_at e old) h)
ending_left wanted key old new (Err (done.Broken step)) h = sym (ap (λ (e : Ending (Unit {0})). left_at e old) h)
ending_left wanted key old new (Err (done.Blocked back holder)) h = h.2 ∙ sym (ap (λ (e : Ending (Unit {0})). left_at e old) h.0)

pub merge_left : (wanted : Ending (List ℕ)) (ours theirs : KeyView) (old new : MetaView) (result : Result (List ℕ) MergeStop) → TakesIn wanted ours theirs old result new → (new ≡ left_at wanted old) ⊎ (new ≡ old)
merge_left wanted ours theirs old new (Ok ids) h = inl (sym (ap (λ (e : Ending (List ℕ)). left_at e old) h))
merge_left wanted ours theirs old new (Err (merge.Broken step)) h = inl (sym (ap (λ (e : Ending (List ℕ)). left_at e old) h))
merge_left wanted ours theirs old new (Err (merge.Blocked first second holder)) h = inr h.3
merge_left wanted ours theirs old new (Err (merge.NoMemory first second)) h = inr h.3
