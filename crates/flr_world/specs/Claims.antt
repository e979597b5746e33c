-- What is proved of every run of every script: the one record.
use Rattle.std.specs.Prelude.{◌≡◌, ◌≤◌, false, length}
use Rattle.meta_server.specs.Sound.{IsSound}
use Rattle.script_values.specs.Scripts.{work_of}
use Rattle.flr_steps.specs.States.{State}
use Rattle.flr_steps.specs.Traces.{trace_after}
use Rattle.flr_claims.specs.Causes.{has_rot}
use Rattle.flr_claims.specs.Claims.{AnswersHaveCausesWhere, AreInOrder, CallsAreEntries, CallsAreLinear, CallsGoWell, ChangesAreExplained, CommandsChangeTheirFiles, EvictionsTakeTheirs, IsLive, ObjectsAreApart, RefusalsComeFirst, StaleIsClearedByCopies, VerifiesTellWhatTheyRead}
use Rattle.flr_claims.specs.Honesty.{HasSoleHolder, IsHonest}
use Rattle.flr_honest.specs.Causes.{AnswersAreAloneWhere, CopiesNone}

-- The calls stand in order, each at a point of its own within its interval, none of them lost; where no command lets a byte rot they are linear on plain files.
-- Where no command lets a byte rot, each answer to a command that copies no bytes from mirror to mirror has its cause, and no other answer has one; what refuses a command comes first; with rot too, verifies tell what they read; and in a script in which nothing goes wrong calls go well.
-- The files are sound, so that each layout is valid with a wholly fresh mirror; each change of a layout is explained, and made by the command that it is of; stale goes by copies that cleared it alone; evictions take what is their client's; no object stands twice.
-- Each part of a write or a truncate that may still land, or has landed before its call's point, lies in the only fresh components there; where no command lets a byte rot, the files are the plain files that the calls so far leave, and fresh components hold their bytes.
-- Nobody is stuck; and the run isn't longer than its script's work.
pub record IsSoundRun (s : State) : Type 0 where
  pub order : AreInOrder s
  pub all : CallsAreEntries s (trace_after s.script s.schedule)
  pub linear : has_rot s.script ≡ false → CallsAreLinear s (trace_after s.script s.schedule)
  pub causes : has_rot s.script ≡ false → AnswersHaveCausesWhere CopiesNone s (trace_after s.script s.schedule)
  pub alone : has_rot s.script ≡ false → AnswersAreAloneWhere CopiesNone s
  pub refusals : RefusalsComeFirst s (trace_after s.script s.schedule)
  pub verifies : VerifiesTellWhatTheyRead s (trace_after s.script s.schedule)
  pub well : CallsGoWell s (trace_after s.script s.schedule)
  pub files : IsSound s.shared.meta
  pub changes : ChangesAreExplained s
  pub commands : CommandsChangeTheirFiles s
  pub stale : StaleIsClearedByCopies s
  pub evictions : EvictionsTakeTheirs s
  pub objects : ObjectsAreApart s
  pub sole : HasSoleHolder s (trace_after s.script s.schedule)
  pub honest : has_rot s.script ≡ false → IsHonest s (trace_after s.script s.schedule)
  pub live : IsLive s
  pub short : length s.schedule ≤ work_of s.script
