-- In a quiet script each read, write, truncate and resync of each run is answered well.
use Rattle.std.proofs.Common.{◌≡◌, ℕ, suc, Option, None, Some, List, [], ◌∷◌, ◌++◌, ◌⊎◌, inl, inr, refl, sym, subst, ◌∙◌}
use Rattle.std.specs.Prelude.{slice_get}
use Rattle.std.specs.List.{AllByRecursion}
use Rattle.flr_base.specs.declared.reply.Entry.{Entry}
use Rattle.lfs_words.specs.declared.command.LfsCommand.TheVariants as lfs
use Rattle.script_values.specs.declared.command.Command.{Command}
use Rattle.script_values.specs.declared.command.Command.TheVariants as command
use Rattle.script_values.specs.Scripts.{ScriptView}
use Rattle.meta_server.specs.declared.answers.CopyWhat.TheVariants.{Resync}
use Rattle.plain_files.specs.Histories.{Answered}
use Rattle.resync_copy.specs.Copies.{new_copy}
use Rattle.resync_copy.specs.Steps.{copy_step}
use Rattle.flr_steps.specs.declared.client.Running.TheVariants as running
use Rattle.flr_steps.specs.Reports.{command_of}
use Rattle.flr_steps.specs.States.{State}
use Rattle.flr_steps.specs.Traces.{Past, trace_after}
use Rattle.flr_asked.specs.CallRuns.{IsCallTo}
use Rattle.flr_claims.specs.Causes.{IsCaused}
use Rattle.flr_claims.specs.Completeness.{IsAnsweredWell, IsQuiet}
use Rattle.flr_claims.specs.Runs.{answered_calls, with_command}
use Rattle.flr_honest.specs.Entries.{IsEntryOf, claimed}
use Rattle.flr_honest.specs.CallSteps.TypedCalls.{IsTypedCallTo}
use Rattle.flr_honest.specs.CopyCauses.Sentences.{IsCopyOf}
use Rattle.flr_honest.specs.ReadCauses.Causes as read
use Rattle.flr_honest.specs.WriteCauses.Laws as written
use Rattle.flr_honest.specs.GoingWell.Wells.{GoWell, IsRead, IsResync, IsTruncate, IsWrite, ReadsGoWell, ResyncsGoWell, RunsGoWell, TruncatesGoWell, WritesGoWell}
use Rattle.flr_honest.proofs.CallRuns.Entries.{entries_are_of_runs}
use Rattle.flr_honest.proofs.CallSteps.EachKind.{resync_call}
use Rattle.flr_honest.proofs.GoingWell.Caused.{caused_go_well}
use Rattle.flr_honest.proofs.GoingWell.Copying.{ends_well}
use Rattle.flr_honest.proofs.CopyCauses.Ended.{IsAtEnd, at_end}
use Rattle.flr_honest.proofs.ReadCauses.Causes.{reads_have_causes}
use Rattle.flr_honest.proofs.WriteCauses.CutCauses.{truncates_have_causes}
use Rattle.flr_honest.proofs.WriteCauses.WriteCauses.{writes_have_causes}
use Rattle.flr_honest.proofs.GoingWell.Still.{quiet_still}

-- ---- kind by kind

-- each read of each run
pub reads_go_well : ReadsGoWell
reads_go_well s e p is quiet of = caused_go_well s e p is quiet (reads_have_causes s e p is (quiet_still s.script quiet) (by is.asked of))
  where
    by : (asked : Command) → IsRead asked → read.IsRead asked
    by (command.Read name offset len) h = tt
    by other h = absurd h

-- each write
pub writes_go_well : WritesGoWell
writes_go_well s e p is quiet of = caused_go_well s e p is quiet (writes_have_causes s e p is (quiet_still s.script quiet) (by is.asked of))
  where
    by : (asked : Command) → IsWrite asked → written.IsWrite asked
    by (command.Write name offset bytes) h = tt
    by other h = absurd h

-- each truncate
pub truncates_go_well : TruncatesGoWell
truncates_go_well s e p is quiet of = caused_go_well s e p is quiet (truncates_have_causes s e p is (quiet_still s.script quiet) (by is.asked of))
  where
    by : (asked : Command) → IsTruncate asked → written.IsTruncate asked
    by (command.Truncate name size) h = tt
    by other h = absurd h

-- and each resync
pub resyncs_go_well : ResyncsGoWell
resyncs_go_well s e p is quiet of = by is.asked refl of
  where
    copies : (name : List ℕ) (only : Option (List ℕ)) → is.asked ≡ command.Lfs (lfs.Resync name only) → IsAnsweredWell is.asked e.reply
    copies name only same =
        let c : IsCopyOf s e p = record {
          is = is;
          still = quiet_still s.script quiet;
          name = name;
          what = Resync only;
          none = tt;
          asks = same;
          call =
              subst (λ (a : Command). IsTypedCallTo running.Copy copy_step (new_copy e.client name (Resync only)) s.script s.schedule a e p) (sym same)
              (resync_call s.script s.schedule e p name only (subst (λ (a : Command). IsCallTo s.script s.schedule a e p) same is.call));
        } in
        end c refl (at_end c)
      where
        end : (c : IsCopyOf s e p) → c.is ≡ is → IsCaused (claimed c.is) e.reply ⊎ IsAtEnd c → IsAnsweredWell is.asked e.reply
        end c whole (inl caused) = caused_go_well s e p is quiet (subst (λ (x : IsEntryOf s e p). IsCaused (claimed x) e.reply) whole caused)
        end c whole (inr ended) = subst (λ (a : Command). IsAnsweredWell a e.reply) (sym same) (ends_well s e p c quiet.fails ended)

    by : (asked : Command) → is.asked ≡ asked → IsResync asked → IsAnsweredWell is.asked e.reply
    by (command.Lfs (lfs.Resync name only)) same h = copies name only same
    by (command.Lfs (lfs.SetStripe name spec)) same h = absurd h
    by (command.Lfs (lfs.GetStripe name)) same h = absurd h
    by (command.Lfs (lfs.CompSet name id change)) same h = absurd h
    by (command.Lfs (lfs.Create name spec)) same h = absurd h
    by (command.Lfs (lfs.Extend name spec)) same h = absurd h
    by (command.Lfs (lfs.ExtendBy name victim)) same h = absurd h
    by (command.Lfs (lfs.Split name mirror to)) same h = absurd h
    by (command.Lfs (lfs.Delete name mirror)) same h = absurd h
    by (command.Lfs (lfs.Verify name)) same h = absurd h
    by (command.Read name offset len) same h = absurd h
    by (command.Write name offset bytes) same h = absurd h
    by (command.Truncate name size) same h = absurd h
    by (command.Evict client) same h = absurd h
    by (command.Rot object offset byte) same h = absurd h

-- ---- all calls

-- one command of an entry is the other
some_same : (a b : Command) → Some a ≡ Some b → a ≡ b
some_same a b e = cc e

-- so each entry is answered well
entry_well : (s : State) (e : Entry) (p : Past) (is : IsEntryOf s e p) → IsQuiet s.script → IsAnsweredWell is.asked e.reply
entry_well s e p is quiet = by is.asked refl
  where
    so : (a : Command) → is.asked ≡ a → (of : Command → Type 0) → GoWell of → of a → IsAnsweredWell a e.reply
    so a same of well h = subst (λ (x : Command). IsAnsweredWell x e.reply) same (well s e p is quiet (subst of (sym same) h))

    by : (a : Command) → is.asked ≡ a → IsAnsweredWell is.asked e.reply
    by a same = subst (λ (x : Command). IsAnsweredWell x e.reply) (sym same) (each a same)
      where
        each : (a : Command) → is.asked ≡ a → IsAnsweredWell a e.reply
        each (command.Read name offset len) same = so (command.Read name offset len) same IsRead reads_go_well tt
        each (command.Write name offset bytes) same = so (command.Write name offset bytes) same IsWrite writes_go_well tt
        each (command.Truncate name size) same = so (command.Truncate name size) same IsTruncate truncates_go_well tt
        each (command.Lfs (lfs.Resync name only)) same = so (command.Lfs (lfs.Resync name only)) same IsResync resyncs_go_well tt
        each (command.Lfs (lfs.SetStripe name spec)) same = tt
        each (command.Lfs (lfs.GetStripe name)) same = tt
        each (command.Lfs (lfs.CompSet name id change)) same = tt
        each (command.Lfs (lfs.Create name spec)) same = tt
        each (command.Lfs (lfs.Extend name spec)) same = tt
        each (command.Lfs (lfs.ExtendBy name victim)) same = tt
        each (command.Lfs (lfs.Split name mirror to)) same = tt
        each (command.Lfs (lfs.Delete name mirror)) same = tt
        each (command.Lfs (lfs.Verify name)) same = tt
        each (command.Evict client) same = tt
        each (command.Rot object offset byte) same = tt

-- what is so of each entry's command and answer is so of each answered call
module _ (script : ScriptView) where
  abbrev Well : Answered → Type 0
  Well a = IsAnsweredWell a.command a.entry.reply

  -- by recursion on both
  calls_well : (es : List Entry) (ps : List Past)
      → ((i : ℕ) (e : Entry) (p : Past) → slice_get es i ≡ Some e → slice_get ps i ≡ Some p → (asked : Command) → command_of script e ≡ Some asked → IsAnsweredWell asked e.reply)
      → AllByRecursion Well (answered_calls script es ps)
  calls_well [] ps each = tt
  calls_well (e ∷ es) [] each = tt
  calls_well (e ∷ es) (p ∷ ps) each = by (command_of script e) refl (calls_well es ps (λ i f q there past. each (suc i) f q there past))
    where
      by : (o : Option Command) → command_of script e ≡ o → AllByRecursion Well (answered_calls script es ps)
          → AllByRecursion Well (with_command script e p o ++ answered_calls script es ps)
      by None is rest = rest
      by (Some asked) is rest = (each 0 e p refl refl asked is, rest)

-- in a quiet script all calls of every run are answered well
pub runs_go_well : RunsGoWell
runs_go_well s run quiet = calls_well s.script s.entries (trace_after s.script s.schedule).answered (λ i e p there past asked commanded.
    let is : IsEntryOf s e p = entries_are_of_runs s run i e p there past in
    let both : Some is.asked ≡ Some asked = sym is.commanded ∙ commanded in
    subst (λ (a : Command). IsAnsweredWell a e.reply) (some_same is.asked asked both) (entry_well s e p is quiet))
