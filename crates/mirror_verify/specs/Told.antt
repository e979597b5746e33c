-- What a verify has done that answers with what it compared.
use Rattle.std.specs.Prelude.{◌≡◌, ℕ, true, false, ◌↔◌, ◌⊎◌, List, [], ◌∷◌, ◌++◌, Option, None, Some, All, Contains, slice_index}
use Rattle.flr_base.specs.declared.reply.Diff.{Diff}
use Rattle.flr_base.specs.declared.reply.Reply.{Reply}
use Rattle.flr_base.specs.declared.reply.Take.{Take}
use Rattle.mirror_select.specs.declared.types.Piece.{Piece}
use Rattle.object_target.specs.declared.call.CallAnswer.TheVariants as answer
use Rattle.object_target.specs.declared.call.CallKind.TheVariants as kind
use Rattle.call_steps.specs.Pieces.{length_of, object_of}
use Rattle.call_steps.specs.Runs.{CallStep, Calls, IsRun}
use Rattle.call_steps.specs.Servers.{Servers}
use Rattle.call_steps.specs.Steps.{Answered}
use Rattle.mirror_verify.specs.declared.copies.BlockCopy.{BlockCopy}
use Rattle.mirror_verify.specs.declared.phase.VerifyAt.TheVariants as at
use Rattle.mirror_verify.specs.declared.phase.Verifying.{Verifying}
use Rattle.mirror_verify.specs.Blocks.{is_hole}
use Rattle.mirror_verify.specs.Findings.{entry_of}
use Rattle.mirror_verify.specs.Fitting.{HasCopies, IsSoundVerify, VerifyFits}
use Rattle.mirror_verify.specs.Verifies.{bytes_of, compared, new_verify, verify_step}
use Rattle.mirror_verify.specs.Views.{VerifyView}

-- the step read the copy from its object by a call, which is in the target's log as answered, and these are the bytes that the object held there
pub record IsReadBy (made : CallStep VerifyView) (p : Piece) (bytes : List ℕ) : Type 0 where
  pub call : ℕ
  pub calls : Calls made (object_of p).target call (record { kind = kind.Read; object = (object_of p).number; offset = p.offset; length = length_of p; version = 0; answer = answer.Ok })
  pub held : bytes ≡ bytes_of made.before p

-- the copy has these bytes: none, and so zeros, where it is a hole, else those that an Ok read of this verify answered
abbrev pub HasBytes : List (CallStep VerifyView) → BlockCopy → List ℕ → Type 0
HasBytes steps copy bytes =
    ((is_hole copy ≡ true) × (bytes ≡ [])) ⊎ ((is_hole copy ≡ false) × ((made : CallStep VerifyView) × Contains steps made × IsReadBy made copy.piece bytes))

-- the copies have these bytes, one by one
abbrev pub HaveBytes : List (CallStep VerifyView) → List BlockCopy → List (List ℕ) → Type 0
HaveBytes steps [] [] = Unit {0}
HaveBytes steps [] (bytes ∷ all) = ⊥
HaveBytes steps (copy ∷ copies) [] = ⊥
HaveBytes steps (copy ∷ copies) (bytes ∷ all) = HasBytes steps copy bytes × HaveBytes steps copies all

-- the bytes of the first copy of the block, once this copy is seen
abbrev pub first_of : Option ℕ → List ℕ → List ℕ → List ℕ
first_of None bytes first = bytes
first_of (Some id) bytes first = first

-- the entry of a later copy, if it differs from the first one
abbrev pub entry_by : Option ℕ → Piece → List ℕ → List ℕ → List Diff
entry_by None p first bytes = []
entry_by (Some id) p first bytes = entry_of id p first bytes

-- the entries of these copies, by their bytes: each later copy of a block is compared with the block's first
abbrev pub entries_from : List ℕ → List BlockCopy → List (List ℕ) → List Diff
entries_from first [] all = []
entries_from first (copy ∷ copies) [] = []
entries_from first (copy ∷ copies) (bytes ∷ all) =
    entry_by copy.against copy.piece first bytes ++ entries_from (first_of copy.against bytes first) copies all

-- the answer of a comparison was made so: by the copies of the file as it was opened, each with zeros or with the bytes that an Ok read of this verify answered
pub record IsCompared (steps : List (CallStep VerifyView)) (x : Verifying) (reply : Reply) : Type 0 where
  pub copies : HasCopies x
  pub all : List (List ℕ)
  pub have : HaveBytes steps x.copies all
  pub told : reply ≡ compared x.copies (entries_from [] x.copies all)

-- a step of this verify was one that its caller may make
pub record IsMade (made : CallStep VerifyView) : Type 0 where
  pub sound : IsSoundVerify made.call
  pub fits : VerifyFits made.call made.before.meta made.before.targets

-- a verify whose takes were all answered answers in no other way
abbrev pub TellsWhatItCompared : Type 0
TellsWhatItCompared =
    (client : ℕ) (name : List ℕ) (steps : List (CallStep VerifyView)) (made : CallStep VerifyView) (x : Verifying) (reply : Reply) (takes : List Take) (after : Servers) →
    IsRun verify_step (new_verify client name) (steps ++ made ∷ []) → All IsMade (steps ++ made ∷ []) →
    made.call.at ≡ at.Close x None → made.came ≡ Answered reply takes after → IsCompared steps x reply

-- a later copy has no entry exactly where its bytes equal those of the first, with zeros behind the shorter
abbrev pub NoEntryWhereEqual : Type 0
NoEntryWhereEqual =
    (first : ℕ) (p : Piece) (ours theirs : List ℕ) →
    (entry_of first p ours theirs ≡ []) ↔ ((place : ℕ) → slice_index ours place ≡ slice_index theirs place)
