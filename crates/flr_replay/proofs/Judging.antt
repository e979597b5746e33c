-- What a schedule comes to, by the world that followed it.
use Rattle.std.proofs.Common.{◌≡◌, ℕ, zero, suc, ◌+◌, List, [], ◌∷◌, ◌++◌, length, take, refl, sym, ap, ◌∙◌}
use Rattle.std.specs.Prelude.{None, Some, slice_get}
use Rattle.script_values.specs.Scripts.{ScriptView}
use Rattle.flr_steps.specs.Schedules.{IsBlocked, IsFinished, IsTaken, IsUnknown, Stops, Why}
use Rattle.flr_steps.specs.States.{Blocked, Finished, IsRun, Next, State, Stepped, Unknown, after, next, start, unfinished_of}
use Rattle.flr_claims.proofs.BlockingLaws.{blocked_where_waiting}
use Rattle.flr_replay.specs.declared.follow.Stop.{Stop}
use Rattle.flr_replay.specs.Following.{StopsAt, cause_of}
use Rattle.flr_replay.specs.Lines.{cut_short_line, stopped_line}
use Rattle.flr_replay.specs.Replays.{TellsLeft, TellsStop}

-- the world is the state after what it made
run_of : (script : ScriptView) (schedule : List ℕ) (new : State) → new.script ≡ script → IsRun new → new.schedule ≡ schedule → after (start script) schedule ≡ Some new
run_of script schedule new same run made = ap (λ (v : ScriptView). after (start v) schedule) (sym same) ∙ ap (λ (xs : List ℕ). after (start new.script) xs) (sym made) ∙ run.run

pub taken_by : (script : ScriptView) (schedule : List ℕ) (new : State) → new.script ≡ script → IsRun new → new.schedule ≡ schedule → unfinished_of new ≡ None → IsTaken script schedule new
taken_by script schedule new same run made none = record { run = run_of script schedule new same run made; finished = none }

pub left_by : (script : ScriptView) (schedule line : List ℕ) (new : State) (client : ℕ) → new.script ≡ script → IsRun new → new.schedule ≡ schedule → unfinished_of new ≡ Some client → line ≡ cut_short_line client → TellsLeft script schedule line
left_by script schedule line new client same run made left written = record { client = client; left = record { state = new; run = run_of script schedule new same run made; left = left }; written = written }

reaches : (xs : List ℕ) (k x : ℕ) → slice_get xs k ≡ Some x → length (take k xs) ≡ k
reaches [] k x e = absurd (cc e)
reaches (y ∷ xs) zero x e = refl
reaches (y ∷ xs) (suc k) x e = ap suc (reaches xs k x e)

-- a step that isn't made because of a holder is blocked by it
blocked_by : (n : Next) (why : Why) (holder : ℕ) → Stops n why → why ≡ IsBlocked holder → n ≡ Blocked holder
blocked_by (Stepped after) why holder stops is = absurd stops
blocked_by (Blocked other) why holder stops is = let both : IsBlocked other ≡ IsBlocked holder = sym stops ∙ is in let same : other ≡ holder = cc in ap Blocked same
blocked_by Finished why holder stops is = let both : IsFinished ≡ IsBlocked holder = sym stops ∙ is in absurd cc
blocked_by Unknown why holder stops is = let both : IsUnknown ≡ IsBlocked holder = sym stops ∙ is in absurd cc

pub stopped_by : (script : ScriptView) (schedule line : List ℕ) (old new : State) (stop : Stop) (place : ℕ) → old.schedule ≡ [] → new.script ≡ script → IsRun new → StopsAt schedule old new stop → place ≡ length new.schedule + 1 → line ≡ stopped_line place stop.client (cause_of stop.why) → TellsStop script schedule line
stopped_by script schedule line old new stop place first same run st counted written =
    let made : new.schedule ≡ take st.before schedule = st.made ∙ ap (λ (xs : List ℕ). xs ++ take st.before schedule) first in
    record {
      place = place;
      client = stop.client;
      why = cause_of stop.why;
      stopped = record {
        before = st.before;
        counted = counted ∙ ap (λ (n : ℕ). n + 1) (ap length made ∙ reaches schedule st.before stop.client st.here);
        here = st.here;
        state = new;
        run = run_of script (take st.before schedule) new same run made;
        stops = st.stops;
      };
      waits = λ holder is. (blocked_where_waiting new stop.client holder run).0 (blocked_by (next new stop.client) (cause_of stop.why) holder st.stops is);
      written = written;
    }
