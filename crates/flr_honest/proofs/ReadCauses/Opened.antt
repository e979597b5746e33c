-- Which calls of targets a read has made since it last opened its file.
use Rattle.std.proofs.Common.{◌≡◌, false, List, [], ◌∷◌, ◌++◌, map, refl, ap}
use Rattle.std.specs.List.{AllByRecursion}
use Rattle.call_steps.specs.Runs.{CallStep, IsRun}
use Rattle.client_read.specs.declared.phase.ReadAt.{ReadAt}
use Rattle.client_read.specs.declared.phase.ReadAt.TheVariants as at
use Rattle.client_read.specs.Reads.{read_step}
use Rattle.client_read.specs.Told.{OpensNone}
use Rattle.client_read.specs.Views.{ReadView}
use Rattle.flr_steps.specs.declared.client.Running.{Running}
use Rattle.flr_steps.specs.declared.client.Running.TheVariants as running
use Rattle.flr_steps.specs.Traces.{made_since_open, read_opens}
use Rattle.flr_asked.specs.CallRuns.{done_in, of_kind, opened_in}
use Rattle.flr_honest.specs.CallSteps.SinceOpening.{NoneOpens}
use Rattle.flr_honest.proofs.CallSteps.Opened.{made_since, opened_last}
use Rattle.flr_honest.proofs.ReadCauses.Counting.{made_of}

-- the steps as those of a call of any kind
abbrev pub as_steps : List (CallStep ReadView) → List (CallStep Running)
as_steps xs = map (of_kind running.Read) xs

-- a read at another phase opens nothing
not_open : (a : ReadAt) → (a ≡ at.Open → ⊥) → read_opens a ≡ false
not_open at.Open h = absurd (h refl)
not_open (at.Lock x next) h = refl
not_open (at.Take x next) h = refl
not_open (at.Again x) h = refl
not_open (at.Confirm x) h = refl
not_open at.UnlockAgain h = refl
not_open at.Unlock h = refl

none_open : (xs : List (CallStep ReadView)) → AllByRecursion OpensNone xs → NoneOpens running.Read xs
none_open [] all = tt
none_open (x ∷ xs) all = (not_open x.call.at all.0, none_open xs all.1)

-- the last step that opened the file is this one, where none behind it does
pub opened_at : (front rest : List (CallStep ReadView)) (x : CallStep ReadView) → x.call.at ≡ at.Open → AllByRecursion OpensNone rest → opened_in 0 (as_steps (front ++ x ∷ rest)) ≡ x.place
opened_at front rest x phase none = opened_last running.Read front x rest 0 (ap read_opens phase) (none_open rest none)

-- of a run of a read, the calls that it made since it last opened its file are those of the steps behind that one
pub since_open : (front rest : List (CallStep ReadView)) (x : CallStep ReadView) (call : ReadView) → x.call.at ≡ at.Open → AllByRecursion OpensNone rest → IsRun read_step call (front ++ x ∷ rest)
    → made_since_open (done_in (as_steps (front ++ x ∷ rest))) ≡ made_of rest
since_open front rest x call phase none run = made_since running.Read read_step call front x rest run (opened_in 0 (as_steps (front ++ x ∷ rest))) (opened_at front rest x phase none)
