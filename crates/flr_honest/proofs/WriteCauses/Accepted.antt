-- No call of a run that is begun again had a part accepted since it opened its file.
use Rattle.std.proofs.Common.{◌≡◌, Bool, true, false, true≢false, cond, ◌&&◌, List, [], ◌∷◌, filter, refl, sym, ◌∙◌}
use Rattle.std.specs.List.{AllByRecursion}
use Rattle.object_target.specs.declared.fail.Fail.{Fail}
use Rattle.flr_steps.specs.declared.client.Running.{Running}
use Rattle.flr_steps.specs.declared.client.Running.TheVariants as running
use Rattle.flr_steps.specs.Traces.{Made, doing_of, is_accepted, is_sending, made_since_open, trace_after}
use Rattle.flr_claims.specs.Writing.{WentThrough}
use Rattle.flr_honest.specs.WriteCauses.Again.{IsAgain, IsLanding, LandsAll, NothingLanded, RunsBeginAgainWithoutAccepted}
use Rattle.flr_honest.proofs.WriteCauses.AgainRuns.{runs_begin_again}
use Rattle.flr_honest.proofs.WriteCauses.Landing.{runs_land}

-- whether a call counts among those that were sent
abbrev is_sent : Made → Bool
is_sent m = is_sending m.entry.kind && is_accepted m.entry.answer

-- where all that went through has landed, and nothing that was sent has, nothing went through
none_through : (fails : List Fail) (made : List Made) → AllByRecursion (IsLanding fails) made → NothingLanded fails (filter is_sent made)
    → AllByRecursion (λ (m : Made). WentThrough m → ⊥) made
none_through fails [] lands none = tt
none_through fails (m ∷ ms) lands none = by (is_sent m) refl none (none_through fails ms lands.1)
  where
    was_sent : WentThrough m → is_sent m ≡ true
    was_sent ok = (λ j. (lands.0 ok).0 j && is_accepted (ok j))

    by : (b : Bool) → is_sent m ≡ b → NothingLanded fails (cond b (m ∷ filter is_sent ms) (filter is_sent ms))
        → (NothingLanded fails (filter is_sent ms) → AllByRecursion (λ (x : Made). WentThrough x → ⊥) ms) → AllByRecursion (λ (x : Made). WentThrough x → ⊥) (m ∷ ms)
    by true is rest more = (λ ok. rest.0 (lands.0 ok).1, more rest.1)
    by false is rest more = (λ ok. true≢false (sym (was_sent ok) ∙ is), more rest)

lands_of : (fails : List Fail) (call : Running) (made : List Made) → IsAgain call → LandsAll fails call made → AllByRecursion (IsLanding fails) made
lands_of fails running.Idle made again lands = absurd again
lands_of fails (running.Read r) made again lands = absurd again
lands_of fails (running.Write w) made again lands = lands
lands_of fails (running.Truncate t) made again lands = lands
lands_of fails (running.Copy k) made again lands = absurd again
lands_of fails (running.Verify v) made again lands = absurd again

pub runs_begin_again_without : RunsBeginAgainWithoutAccepted
runs_begin_again_without s c client run here again =
    let made : List Made = made_since_open (doing_of (trace_after s.script s.schedule) c) in
    none_through s.script.fails made (lands_of s.script.fails client.call made again (runs_land s run c client here)) (runs_begin_again s run c client here again)
