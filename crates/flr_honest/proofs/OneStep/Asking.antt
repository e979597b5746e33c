-- What a command of one step answers: as it is refused, or as it is granted.
use Rattle.std.proofs.Common.{◌≡◌, ◌⊎◌, inl, inr, ℕ, Bool, true, false, not, List, [], refl, sym, ap, ◌∙◌}
use Rattle.std.specs.Prelude.{Option, Some, None}
use Rattle.flr_base.specs.declared.reply.Reply.{Reply}
use Rattle.flr_base.specs.declared.reply.Reply.TheVariants as reply
use Rattle.flr_base.specs.declared.reply.Take.{Take}
use Rattle.composite_layout.specs.declared.spec.MirrorSpec.{MirrorSpec}
use Rattle.composite_layout.specs.FlagChanges.{FlagSets}
use Rattle.layout_text.specs.Texts.{text_of_layout}
use Rattle.meta_server.specs.Files.{File, file_named}
use Rattle.meta_server.specs.Naming as naming
use Rattle.meta_server.specs.Outcomes.{Gives, Refuses, Waits}
use Rattle.meta_server.specs.Outcomes as meta
use Rattle.mirror_admin.specs.OneStep.{answered, shows}
use Rattle.mirror_admin.specs.Rotting.{rot_reply}
use Rattle.call_steps.specs.Servers.{Servers}
use Rattle.call_steps.specs.Steps.{Outcome, Answered}
use Rattle.flr_steps.specs.declared.client.Running.{Running}
use Rattle.flr_steps.specs.Commands.{answered_by}
use Rattle.flr_asked.specs.CallRuns.{FixesAnswer}
use Rattle.flr_claims.specs.Refusals.{delete_refusal, flags_refused, make_refusal, plain_refusal, refused_if, split_refusal}
use Rattle.flr_claims.proofs.RefusalLaws.{ByMeta, delete_by, make_by, set_by, split_by}

-- the answer is the refusal; or nothing is refused, and it is this one
abbrev pub IsEither : Option Reply → Reply → Reply → Type 0
IsEither refusal success answer = (refusal ≡ Some answer) ⊎ ((refusal ≡ None) × (success ≡ answer))

module _ (s : Servers) (answer : Reply) (takes : List Take) where
  -- the step fixes this answer without takes, and that is the refusal or the success
  abbrev pub Comes : Option Reply → Reply → Outcome Running → Type 0
  Comes refusal success came = FixesAnswer came answer takes → (takes ≡ []) × IsEither refusal success answer

  pub by_call : (success : Reply) (r : Option Reply) (o : meta.Outcome (Unit {0})) → ByMeta r o → Comes r success (answered_by s (answered success o))
  by_call success (Some refusal) (Gives given after) h f = absurd (cc h)
  by_call success (Some refusal) (Refuses other) h f = (let is : other ≡ refusal = cc h in (sym f.1, inl (ap Some (sym is ∙ f.0))))
  by_call success (Some refusal) (Waits holder) h f = absurd f
  by_call success None (Gives given after) h f = (sym f.1, inr (refl, f.0))
  by_call success None (Refuses other) h f = absurd h
  by_call success None (Waits holder) h f = absurd f

  -- the text of a file's layout
  pub by_text : (name : List ℕ) (o : Option File) → FixesAnswer (answered_by s (shows name s.meta o)) answer takes
      → (takes ≡ []) × ((plain_refusal name o ≡ Some answer) ⊎ ((f : File) × (o ≡ Some f) × (plain_refusal name o ≡ None) × (answer ≡ reply.Layout (text_of_layout f.layout))))
  by_text name None f = (sym f.1, inl (ap Some f.0))
  by_text name (Some file) f = (sym f.1, inr (file, refl, refl, sym f.0))

  -- a byte that rots
  pub by_rot : (b : Bool) (after : Servers) → Comes (refused_if (not b) reply.NoObject) reply.Rotted (Answered (rot_reply b) [] after)
  by_rot true after f = (sym f.1, inr (refl, f.0))
  by_rot false after f = (sym f.1, inl (ap Some f.0))

  module _ (c place : ℕ) where
    -- a new file
    pub by_make : (name : List ℕ) (spec : List MirrorSpec) → Comes (make_refusal name s.meta.files (file_named name s.meta.files)) reply.Created (answered_by s (answered reply.Created (naming.creates name spec s.meta)))
    by_make name spec = let o = file_named name s.meta.files in by_call reply.Created (make_refusal name s.meta.files o) (naming.creates name spec s.meta) (make_by name spec s.meta o)

    -- a change of flags
    pub by_flags : (name : List ℕ) (id : ℕ) (change : FlagSets) → Comes (flags_refused name id change (file_named name s.meta.files)) reply.Set (answered_by s (answered reply.Set (naming.sets c name id change place s.meta)))
    by_flags name id change = let o = file_named name s.meta.files in by_call reply.Set (flags_refused name id change o) (naming.sets c name id change place s.meta) (set_by c id change place s.meta name o)

    -- a mirror that goes to a file of this name
    pub by_parted : (name : List ℕ) (mirror : ℕ) (new : List ℕ) → Comes (split_refusal name mirror new s.meta.files (file_named name s.meta.files)) (reply.Split new) (answered_by s (answered (reply.Split new) (naming.removes c name mirror (Some new) place s.meta)))
    by_parted name mirror new =
        let o = file_named name s.meta.files in by_call (reply.Split new) (split_refusal name mirror new s.meta.files o) (naming.removes c name mirror (Some new) place s.meta) (split_by c mirror place s.meta name new o)

    -- one that goes for good
    pub by_removed : (name : List ℕ) (mirror : ℕ) → Comes (delete_refusal name mirror (file_named name s.meta.files)) (reply.Removed mirror) (answered_by s (answered (reply.Removed mirror) (naming.removes c name mirror None place s.meta)))
    by_removed name mirror =
        let o = file_named name s.meta.files in by_call (reply.Removed mirror) (delete_refusal name mirror o) (naming.removes c name mirror None place s.meta) (delete_by c mirror place s.meta name o)
