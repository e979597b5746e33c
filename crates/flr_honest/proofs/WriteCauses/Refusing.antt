-- A write or a truncate that is refused at its open is refused as its command is.
use Rattle.std.proofs.Common.{◌≡◌, ℕ, Bool, true, false, not, ◌&&◌, Option, Some, None, List, refl}
use Rattle.std.specs.Prelude.{is_none}
use Rattle.flr_base.specs.declared.reply.Range.{Range}
use Rattle.flr_base.specs.declared.reply.Reply.{Reply}
use Rattle.flr_base.specs.declared.reply.Reply.TheVariants as reply
use Rattle.composite_layout.specs.Choices.{is_ready}
use Rattle.layout_lease.specs.Shares.{lowest_but}
use Rattle.layout_state.specs.Choosing.{primary_of}
use Rattle.meta_server.specs.declared.answers.Opened.{Opened}
use Rattle.meta_server.specs.Files.{File, MetaView}
use Rattle.meta_server.specs.Opening.{change_opens_file, intends, intends_to, readies}
use Rattle.meta_server.specs.Outcomes.{Outcome, Gives, Refuses, Waits}
use Rattle.flr_claims.specs.Refusals.{change_refusal, refused_if}

-- where the open is refused, the command is refused so
abbrev pub IsRefusedAs : Option Reply → Outcome Opened → Type 0
IsRefusedAs r (Gives o after) = Unit {0}
IsRefusedAs r (Refuses answer) = r ≡ Some answer
IsRefusedAs r (Waits holder) = Unit {0}

module _ (client : ℕ) (range : Range) (step : ℕ) (m : MetaView) where
  intends_as : (r : Option Reply) (f : File) (mirror : ℕ) (o : Option ℕ) → IsRefusedAs r (intends client range step m f mirror o)
  intends_as r f mirror (Some holder) = tt
  intends_as r f mirror None = tt

  intends_to_as : (f : File) (o : Option ℕ) → IsRefusedAs (refused_if (is_none o) (reply.NoPrimary range)) (intends_to client range step m f o)
  intends_to_as f None = refl
  intends_to_as f (Some mirror) = intends_as None f mirror (lowest_but client f.lock)

  readies_as : (f : File) (b : Bool)
      → IsRefusedAs (refused_if (not b && is_none (primary_of range f.layout.components)) (reply.NoPrimary range)) (readies client range step m f b)
  readies_as f true = tt
  readies_as f false = intends_to_as f (primary_of range f.layout.components)

  pub open_as : (name : List ℕ) (b : Bool) (o : Option File) → IsRefusedAs (change_refusal name range b o) (change_opens_file client range step m name b o)
  open_as name b None = refl
  open_as name true (Some f) = refl
  open_as name false (Some f) = readies_as f (is_ready f.layout range)
