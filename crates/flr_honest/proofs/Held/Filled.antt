-- A component that got new objects at a step holds zeros, as the plain file has there: where it was fresh without objects before, and in a file that was made.
use Rattle.std.proofs.Common.{◌≡◌, ℕ, ◌<◌, ◌≤◌, Some, inl, inr, ◌⊎◌, sym, subst, ◌∙◌}
use Rattle.std.proofs.lemmas.Bool.{false≢true}
use Rattle.flr_base.specs.declared.reply.Range.{Range}
use Rattle.composite_layout.specs.declared.component.Component.{Component}
use Rattle.mirror_select.specs.Held.{held}
use Rattle.mirror_select.proofs.Least.{from_contains}
use Rattle.meta_server.specs.Files.{File, file_of}
use Rattle.flr_steps.specs.States.{State}
use Rattle.flr_steps.specs.Traces.{Trace, traced}
use Rattle.flr_claims.specs.Honesty.{IsOf, IsOpen, content}
use Rattle.flr_bytes.specs.Files.{Closes}
use Rattle.flr_bytes.specs.Laws.{StepsGiveNew, StepsKeepBytes, StepsWrite}
use Rattle.flr_bytes.specs.Origins.{IsFilledIn, IsMade}
use Rattle.flr_bytes.specs.Runs.{Honest, IsStep}
use Rattle.flr_bytes.specs.Sentences.{byte_in}
use Rattle.flr_bytes.proofs.Held.{held_unmade}
use Rattle.flr_bytes.proofs.Alone.{open_in}
use Rattle.flr_honest.proofs.Held.Unmade.{unmade_held}

module _ (write : StepsWrite) (s t : State) (old new : Trace) (c : ℕ) (is : IsStep s t old new c) (e : new ≡ traced s t old c) (honest : Honest s old) (n x : ℕ) (f : File) (d : Component) (found : file_of n t.shared.meta.files ≡ Some f) (own : IsOf d x) where
  -- one that was fresh without objects
  pub filled_held : StepsKeepBytes → IsFilledIn s.shared.meta n d → held (content t.shared) d x ≡ byte_in t new n x
  filled_held keep w = unmade_held write s t old new c is e d x w.unmade ∙ sym (after (keep s t old new c is e honest.sized n x w.file f w.there found))
    where
      from : w.component.extent.start ≤ x
      from = subst (λ (r : Range). r.start ≤ x) w.extent own.0

      to : x < w.component.extent.end
      to = subst (λ (r : Range). x < r.end) w.extent own.1

      closed : IsOpen s old n x → ⊥
      closed was_open =
          let made = open_in s old is.before.holds.servers.sound is.before.sole n x was_open w.file w.component w.there (from_contains w.file.layout.components w.component w.listed) w.fresh from to in
          false≢true (sym w.none ∙ made.0)

      before : byte_in s old n x ≡ 0
      before = sym (honest.holds n w.file w.component x w.there w.listed w.fresh (from, to, own.2) closed) ∙ held_unmade (content s.shared) w.component x w.none

      after : (byte_in t new n x ≡ byte_in s old n x) ⊎ Closes s t old new c n x → byte_in t new n x ≡ 0
      after (inl same) = same ∙ before
      after (inr closes) = absurd (closed (record { client = c; attempt = closes.was.attempt; attempting = closes.was.attempting; same = closes.was.same; place = closes.was.place; part = closes.was.part; landed = closes.was.landed; over = closes.was.over }))

  -- one of a new file
  pub made_held : StepsGiveNew → IsMade s.shared.meta is.step.asked n d → held (content t.shared) d x ≡ byte_in t new n x
  made_held give w = unmade_held write s t old new c is e d x w.unmade ∙ sym ((give s t old new c is e honest.sized n f w.none found).0 w.makes x)
