-- A verify has one answer, but for which differences it may tell where bytes rot.
use Rattle.std.proofs.Common.{◌≡◌, ℕ, ◌<◌, Bool, true, false, ◌||◌, List, [], ◌∷◌, ◌++◌, length, refl, sym, ap, subst, ◌∙◌, arith}
use Rattle.std.specs.List.{list_any}
use Rattle.flr_base.specs.declared.reply.Diff.{Diff}
use Rattle.flr_base.specs.declared.reply.FailedCall.{FailedCall}
use Rattle.flr_base.specs.declared.reply.Reply.{Reply}
use Rattle.flr_base.specs.declared.reply.Reply.TheVariants as reply
use Rattle.lfs_words.specs.declared.command.LfsCommand.{LfsCommand}
use Rattle.lfs_words.specs.declared.command.LfsCommand.TheVariants as lfs
use Rattle.script_values.specs.declared.command.Command.{Command}
use Rattle.script_values.specs.declared.command.Command.TheVariants as command
use Rattle.meta_server.specs.Files.{File}
use Rattle.flr_steps.specs.States.{State}
use Rattle.flr_steps.specs.Traces.{made_since_open}
use Rattle.flr_claims.specs.Asked.{IsFile}
use Rattle.flr_claims.specs.Calls.{Call, HasOpened}
use Rattle.flr_claims.specs.Causes as causes
use Rattle.flr_claims.specs.Causes.{Answers, IsCaused, has_rot}
use Rattle.flr_claims.specs.Comparisons.{HasDifferences, HasFailedRead, compared_blocks}
use Rattle.flr_claims.specs.Failures.{call_of, has_failed}
use Rattle.flr_honest.specs.Entries.{claimed}
use Rattle.flr_honest.specs.OnlyAnswers.Alone.{AreAloneUnrotten, DifferencesAreOne, IsVerifying}
use Rattle.flr_honest.proofs.CallSteps.Before.{before_script}
use Rattle.flr_honest.proofs.OnlyAnswers.OneStep.{one_if_answered}
use Rattle.flr_honest.proofs.OnlyAnswers.Writing.{one_last}

-- where the last passes some do
any_last : {A : Type 0} (test : A → Bool) (front : List A) (last : A) → test last ≡ true → list_any test (front ++ last ∷ []) ≡ true
any_last test [] last passes = by (test last) passes
  where
    by : (b : Bool) → b ≡ true → (b || false) ≡ true
    by true e = refl
    by false e = absurd (cc)
any_last test (x ∷ xs) last passes = by (test x) (any_last test xs last passes)
  where
    by : (b : Bool) → list_any test (xs ++ last ∷ []) ≡ true → (b || list_any test (xs ++ last ∷ [])) ≡ true
    by true e = refl
    by false e = e

module _ (k : Call) where
  -- the file that a call opened, as it was right behind that step, is one
  pub one_opened : (f g : File) → HasOpened k f → HasOpened k g → f ≡ g
  one_opened f g a b =
      let here = a.behind in
      let there = b.behind in
      let same : a.state ≡ b.state = cc in
      let mine : IsFile b.state k.asked f = subst (λ (s : State). IsFile s k.asked f) same a.file in
      let theirs = b.file in
      cc

  -- where a read failed there is nothing to tell of the mirrors
  fault_or_told : (call : FailedCall) (f : File) (entries : List Diff) → HasFailedRead k call → HasDifferences k f entries → ⊥
  fault_or_told call f entries a b =
      let some : list_any has_failed (made_since_open k.did) ≡ true = ap (list_any has_failed) a.in_order ∙ any_last has_failed a.front a.last a.failed.failed in
      let none = b.through in
      absurd (cc)

  one_fault : (call other : FailedCall) → HasFailedRead k call → HasFailedRead k other → other ≡ call
  one_fault call other a b =
      let same : b.last ≡ a.last = one_last (made_since_open k.did) b.front a.front b.last a.last b.in_order a.in_order in
      sym b.failed.named ∙ ap call_of same ∙ a.failed.named

  one_count : (count other : ℕ) (f g : File) → HasDifferences k f [] → HasDifferences k g [] → count ≡ compared_blocks f → other ≡ compared_blocks g → other ≡ count
  one_count count other f g a b mine theirs = theirs ∙ ap compared_blocks (one_opened g f b.verified.opened a.verified.opened) ∙ sym mine

  -- what may be told of two lists of differences of the call's file
  abbrev TellOne : Type 0
  TellOne = (f g : File) (entries others : List Diff) → HasDifferences k f entries → HasDifferences k g others → others ≡ entries

  tell_one : DifferencesAreOne k → TellOne
  tell_one one f g entries others a b = one f entries others a (subst (λ (x : File). HasDifferences k x others) (one_opened g f b.verified.opened a.verified.opened) b)

  none_more : (entries : List Diff) → entries ≡ [] → 0 < length entries → ⊥
  none_more entries e some = let none : length entries ≡ 0 = ap (λ (es : List Diff). length es) e in omega (arith, none, some)

  compared_one : (has_rot k.before.script ≡ true → TellOne) → (a b : Reply) → causes.ComparesMirrors k a → causes.ComparesMirrors k b → b ≡ a
  compared_one tell (reply.Same count) (reply.Same other) h o = ap reply.Same (one_count count other h.1.0 o.1.0 h.1.1 o.1.1 h.1.2 o.1.2)
  compared_one tell (reply.Same count) (reply.Differ others) h o = absurd (none_more others (tell o.1 h.1.0 o.2.0 [] others h.1.1 o.2.1) o.2.2)
  compared_one tell (reply.Same count) (reply.VerifyFault call) h o = absurd (fault_or_told call h.1.0 [] o.1 h.1.1)
  compared_one tell (reply.Same count) other h o = absurd o
  compared_one tell (reply.Differ entries) (reply.Same other) h o = absurd (none_more entries (tell h.1 o.1.0 h.2.0 [] entries o.1.1 h.2.1) h.2.2)
  compared_one tell (reply.Differ entries) (reply.Differ others) h o = ap reply.Differ (tell h.1 h.2.0 o.2.0 entries others h.2.1 o.2.1)
  compared_one tell (reply.Differ entries) (reply.VerifyFault call) h o = absurd (fault_or_told call h.2.0 entries o.1 h.2.1)
  compared_one tell (reply.Differ entries) other h o = absurd o
  compared_one tell (reply.VerifyFault call) (reply.Same other) h o = absurd (fault_or_told call o.1.0 [] h.1 o.1.1)
  compared_one tell (reply.VerifyFault call) (reply.Differ others) h o = absurd (fault_or_told call o.2.0 others h.1 o.2.1)
  compared_one tell (reply.VerifyFault call) (reply.VerifyFault other) h o = ap reply.VerifyFault (one_fault call other h.1 o.1)
  compared_one tell (reply.VerifyFault call) other h o = absurd o
  compared_one tell other b h o = absurd h

  lfs_compared_one : (has_rot k.before.script ≡ true → TellOne) → (of : LfsCommand) → IsVerifying (command.Lfs of) → (a b : Reply) → causes.LfsAnswers k of a → causes.LfsAnswers k of b → b ≡ a
  lfs_compared_one tell (lfs.Verify name) so a b h o = compared_one tell a b h o
  lfs_compared_one tell other so a b h o = absurd so

  verifying_one : (has_rot k.before.script ≡ true → TellOne) → (asked : Command) → IsVerifying asked → (a b : Reply) → Answers k asked a → Answers k asked b → b ≡ a
  verifying_one tell (command.Lfs of) so a b h o = lfs_compared_one tell of so a b h o
  verifying_one tell other so a b h o = absurd so

  -- a verify has one answer with its cause, where its differences are one
  pub verifies_have_one : DifferencesAreOne k → IsVerifying k.asked → (a b : Reply) → IsCaused k a → IsCaused k b → b ≡ a
  verifies_have_one one so a b caused o = one_if_answered k a b (verifying_one (λ rots. tell_one one) k.asked so a b) caused o

  -- and where no byte may rot
  pub unrotten_have_one : has_rot k.before.script ≡ false → IsVerifying k.asked → (a b : Reply) → IsCaused k a → IsCaused k b → b ≡ a
  unrotten_have_one none so a b caused o = one_if_answered k a b (verifying_one (λ rots. absurd (never rots)) k.asked so a b) caused o
    where
      never : has_rot k.before.script ≡ true → ⊥
      never rots = let still = none in absurd (cc)

-- where no byte may rot, in each run the answer of a verify is the only one that has its cause
pub verifies_are_alone : AreAloneUnrotten IsVerifying
verifies_are_alone s e p is none so caused other o = unrotten_have_one (claimed is) (ap has_rot (before_script is) ∙ none) so e.reply other caused o
