-- In every run each step makes, changes and takes away just what its command is for.
use Rattle.std.proofs.Common.{◌≡◌, ℕ, Option, Some, None, length, subst}
use Rattle.meta_server.specs.Files.{File, MetaView, file_of}
use Rattle.meta_server.specs.Sound.{IsSound}
use Rattle.flr_steps.specs.declared.client.Running.{Running}
use Rattle.flr_steps.specs.Clients.{call_now}
use Rattle.flr_steps.specs.States.{IsRun, State, place_in}
use Rattle.flr_steps.specs.Steps.{StepIs}
use Rattle.flr_runs.proofs.Runs as runs
use Rattle.flr_claims.specs.Steps.{ChangesFiles}
use Rattle.flr_bytes.specs.Victims.{HasVictim}
use Rattle.flr_honest.specs.Legal.Sentences.{KnowsItsFile}
use Rattle.flr_honest.proofs.Legal.Keeping as legal
use Rattle.flr_honest.proofs.Stores.Begun.{now_so}
use Rattle.flr_honest.proofs.Stores.Keeping.{runs_victims}
use Rattle.flr_honest.specs.Changes.Laws.{RunsChangeTheirFiles}
use Rattle.flr_honest.proofs.Changes.Becoming.{Becomes, Gone, Made, idle}
use Rattle.flr_honest.proofs.Changes.Changing.{AllBecome, all_same, call_becomes}
use Rattle.flr_honest.proofs.Changes.Steps.{after_step, each_step}
use Rattle.flr_honest.proofs.Changes.Turning.{Turn}

module _ (s t : State) (c : ℕ) (run : IsRun s) (step : StepIs s c t) where
  -- the metadata server before the step
  abbrev m : MetaView
  m = s.shared.meta

  -- the call of the step
  abbrev call : Running
  call = call_now c step.client.call step.asked

  -- the metadata server is sound
  pub sound : IsSound m
  sound = (runs.all_hold s run).servers.sound

  -- a copy knows its file
  knows : KnowsItsFile m call
  knows = now_so (KnowsItsFile m) c step.asked step.client.call (record { idle = tt; read = λ name offset len. tt; write = λ name offset bytes. tt; truncate = λ name size. tt; copy = λ name what. tt; verify = λ name. tt })
      (legal.runs_know s run (runs.runs_leave (length s.schedule)) c step.client step.here)

  -- and the file that it takes in
  has_victim : HasVictim m call
  has_victim = now_so (HasVictim m) c step.asked step.client.call (record { idle = tt; read = λ name offset len. tt; write = λ name offset bytes. tt; truncate = λ name size. tt; copy = λ name what. tt; verify = λ name. tt })
      (runs_victims s run (runs.runs_leave (length s.schedule)) c step.client step.here)

  -- each file becomes what the command makes of it
  all_become : AllBecome m sound step.asked c call t.shared.meta.files
  all_become = after_step s t c run step (λ (x : MetaView). AllBecome m sound step.asked c call x.files)
      (record { same = all_same m sound step.asked c call; calls = call_becomes m sound step.asked c call (place_in s) knows has_victim }) (λ ours theirs own own_too. all_same m sound step.asked c call)

  -- what the command makes of a file
  abbrev TurnsInto : Option File → Option File → Type 0
  TurnsInto = Turn (Made m step.asked c call) (Becomes m step.asked c call) (Gone m step.asked c call) (idle m step.asked c call)

  -- by what is found before and after
  turns : (number : ℕ) (o p : Option File) → file_of number m.files ≡ o → file_of number t.shared.meta.files ≡ p → TurnsInto o p
  turns number o p e k = subst (λ (x : Option File). TurnsInto x p) e (subst (λ (x : Option File). TurnsInto (file_of number m.files) x) k (all_become number))

  -- a file that is there before and after
  pub file_becomes : (number : ℕ) (f g : File) → file_of number m.files ≡ Some f → file_of number t.shared.meta.files ≡ Some g → Becomes m step.asked c call f g
  file_becomes number f g e k = turns number (Some f) (Some g) e k

  -- so the step changes the files as its command is to
  changes_files : ChangesFiles s c t step
  changes_files = record {
    made = λ number g there none. turns number None (Some g) none there;
    kept = λ number f g here there. (let b = file_becomes number f g here there in (b.named, b.kept));
    gone = λ number f here none. turns number (Some f) None here none;
  }

pub runs_change_their_files : RunsChangeTheirFiles
runs_change_their_files s run = each_step ChangesFiles (λ old new c before after step. changes_files old new c before step) s run
