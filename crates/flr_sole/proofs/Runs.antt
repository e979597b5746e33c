-- Every run for whose steps there is room.
use Rattle.std.proofs.Common.{◌≡◌, ℕ, zero, suc, ◌-◌, Some, [], ◌∷◌, ◌++◌, length, replicate, get_or, refl, sym, ap, subst, ◌∙◌, arith}
use Rattle.std.specs.Prelude.{nat_eq}
use Rattle.flr_behind.specs.Sentences.{Known}
use Rattle.flr_behind.proofs.Keeping.{step_knows}
use Rattle.flr_behind.proofs.Runs.{start_knows}
use Rattle.flr_locks.specs.Sentences.{Locked}
use Rattle.flr_locks.proofs.Keeping.{step_locks}
use Rattle.flr_locks.proofs.Runs.{keep_always, start_locks}
use Rattle.flr_numbers.specs.Sentences.{HasRoom, Holds}
use Rattle.flr_numbers.proofs.Runs.{runs_hold}
use Rattle.flr_places.proofs.Runs.{new_at}
use Rattle.meta_laws.proofs.Finding.{found_keeps}
use Rattle.meta_server.specs.Files.{File}
use Rattle.meta_server.specs.Sound.{IsSoundFile}
use Rattle.flr_steps.specs.declared.client.Client.{Client}
use Rattle.flr_steps.specs.States.{State, Stepped, after, new_client, next, start}
use Rattle.flr_steps.specs.Steps.{StepIs}
use Rattle.flr_steps.specs.Traces.{Trace, doing_of, new_trace, nothing_done, trace_after, traced}
use Rattle.flr_steps.proofs.Inversion.{step_is}
use Rattle.flr_steps.proofs.Runs.{after_more}
use Rattle.flr_steps.proofs.StepLaws.{each_step_leaves}
use Rattle.flr_steps.proofs.TraceLaws.{trace_goes_on, traces_stand_beside}
use Rattle.flr_claims.specs.Sending.{Attempt, attempt_of}
use Rattle.flr_sole.specs.Copies.{HasLandedOn, Says}
use Rattle.flr_sole.specs.Laws.{OnlyOneIsFresh, RunsAreSole, RunsHaveSoleHolder, StartIsSole}
use Rattle.flr_sole.specs.Runs.{Sole}
use Rattle.flr_sole.specs.Sentences.{HasSent, IsPast}
use Rattle.flr_sole.proofs.Layouts.{one_fresh}
use Rattle.flr_sole.proofs.Steps.{step_sole}

-- ---- before any step

all_same : {X : Type 0} (n i : ℕ) (x : X) → get_or (replicate n x) i x ≡ x
all_same zero i x = refl
all_same (suc n) zero x = refl
all_same (suc n) (suc i) x = all_same n i x

pub start_sole : StartIsSole
start_sole script = record {
  parts = λ c a place p is count. absurd (no_attempt a (ap (λ (x : Client). attempt_of x.call) (sym (new_at (length script.clients) c is.client is.here)) ∙ is.attempt));
  sent = λ c client e. subst (λ (x : Client). HasSent x.call (doing_of trace c)) (sym (new_at (length script.clients) c client e)) tt;
  past = λ c client e. subst (IsPast 0) (sym (all_same (length script.clients) (c - 1) nothing_done)) (record { opened = omega arith; made = tt });
  copies = λ c client e. subst (λ (x : Client). Says (start script).shared.meta (start script).shared.targets (HasLandedOn (start script) trace) x.call) (sym (new_at (length script.clients) c client e)) tt;
}
  where
    trace : Trace
    trace = new_trace (length script.clients)

    no_attempt : (a : Attempt) → attempt_of new_client.call ≡ Some a → ⊥
    no_attempt a e = cc

-- ---- after each step

-- a state that its schedule leads to, and what is kept of it
record Kept (s : State) : Type 0 where
  pub run : after (start s.script) s.schedule ≡ Some s
  pub known : Known s
  pub locked : Locked s
  pub sole : Sole s (trace_after s.script s.schedule)

step_kept : (s t : State) (c : ℕ) → Holds s → HasRoom s.shared → Kept s → next s c ≡ Stepped t → Kept t
step_kept s t c h room k made =
    let step : StepIs s c t = step_is s t c made in
    let left = each_step_leaves s t c step in
    let script : t.script ≡ s.script = ap (λ (x : State). x.script) left.is in
    let schedule : t.schedule ≡ s.schedule ++ c ∷ [] = ap (λ (x : State). x.schedule) left.is in
    let trace : trace_after t.script t.schedule ≡ traced s t (trace_after s.script s.schedule) c = (λ j. trace_after (script j) (schedule j)) ∙ trace_goes_on s.script s.schedule s t c k.run made in
    record {
      run = (λ j. after (start (script j)) (schedule j)) ∙ after_more (start s.script) s t s.schedule c k.run made;
      known = step_knows s t c h room k.known step;
      locked = step_locks s t c h room k.locked step;
      sole = subst (Sole t) (sym trace) (step_sole s t c (trace_after s.script s.schedule) h room k.known k.locked (traces_stand_beside s.script s.schedule s k.run) k.sole step);
    }

pub runs_sole : RunsAreSole
runs_sole s run leave = (keep_always Kept step_kept s run leave (record { run = refl; known = start_knows s.script; locked = start_locks s.script; sole = start_sole s.script })).sole

pub runs_hold_alone : RunsHaveSoleHolder
runs_hold_alone s run leave c a place p is count =
    let stands = (runs_sole s run leave).parts c a place p is count in
    record {
      file = stands.file;
      there = stands.there;
      component = stands.alone.component;
      listed = stands.alone.listed;
      same = stands.alone.same;
      fresh = stands.alone.fresh;
      made = stands.alone.made;
      object = stands.alone.object;
      others = stands.alone.others;
    }

pub only_one : OnlyOneIsFresh
only_one s c a place p run leave is count =
    let stands = (runs_sole s run leave).parts c a place p is count in
    let sound : IsSoundFile stands.file = found_keeps (λ (f : File). nat_eq f.number a.opened.file) IsSoundFile s.shared.meta.files stands.file stands.there (runs_hold s run leave).servers.sound.files in
    (stands, λ mirror fresh. one_fresh stands.file.layout sound.layout p stands.alone mirror fresh)
