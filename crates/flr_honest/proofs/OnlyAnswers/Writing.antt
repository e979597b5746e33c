-- A write or a truncate has one answer: what its calls came to, and the latest eviction, leave no other.
use Rattle.std.proofs.Common.{◌≡◌, ℕ, ◌≤◌, Bool, true, false, List, [], ◌∷◌, ◌++◌, refl, sym, ap, subst, ◌∙◌, arith}
use Rattle.std.specs.List.{AllByRecursion}
use Rattle.flr_base.specs.declared.reply.FailedCall.{FailedCall}
use Rattle.flr_base.specs.declared.reply.Reply.{Reply}
use Rattle.flr_base.specs.declared.reply.Reply.TheVariants as reply
use Rattle.object_target.specs.declared.call.CallAnswer.{CallAnswer}
use Rattle.object_target.specs.declared.call.CallAnswer.TheVariants as answer
use Rattle.object_target.specs.declared.fail.Fail.{Fail}
use Rattle.script_values.specs.declared.command.Command.{Command}
use Rattle.script_values.specs.declared.command.Command.TheVariants as command
use Rattle.flr_steps.specs.Traces.{Made, made_since_open}
use Rattle.flr_claims.specs.Calls.{Call}
use Rattle.flr_claims.specs.Causes as causes
use Rattle.flr_claims.specs.Causes.{Answers}
use Rattle.flr_claims.specs.Failures.{IsListedFailure, call_of, has_failed, is_failed}
use Rattle.flr_claims.specs.Writing.{HasFailedBy, IsCutOff, IsDone, WentThrough}
use Rattle.flr_honest.specs.OnlyAnswers.Alone.{AreAlone, HaveOneCause, IsWriting}
use Rattle.flr_honest.proofs.OnlyAnswers.OneStep.{alone_anyhow, one_if_answered}

-- what is so of each is so of the last
pub so_of_last : {A : Type 0} (P : A → Type 0) (front : List A) (last : A) → AllByRecursion P (front ++ last ∷ []) → P last
so_of_last P [] last h = h.0
so_of_last P (x ∷ xs) last h = so_of_last P xs last h.1

-- the last of a list, else this one
abbrev last_or : {A : Type 0} → A → List A → A
last_or x [] = x
last_or x (y ∷ ys) = last_or y ys

last_of : {A : Type 0} (x : A) (front : List A) (last : A) → last_or x (front ++ last ∷ []) ≡ last
last_of x [] last = refl
last_of x (y ∷ ys) last = last_of y ys last

-- a list has one last item
pub one_last : {A : Type 0} (all front others : List A) (last end : A) → all ≡ front ++ last ∷ [] → all ≡ others ++ end ∷ [] → last ≡ end
one_last all front others last end e u = sym (last_of last front last) ∙ ap (last_or last) (sym e ∙ u) ∙ last_of last others end

module _ (fails : List Fail) (m : Made) where
  -- a call that went through didn't fail
  none_failed : (call : FailedCall) → WentThrough m → IsListedFailure fails m call → ⊥
  none_failed call through failed = let went : has_failed m ≡ false = ap is_failed through in let fell = failed.failed in absurd (cc)

  -- nor did one that was too old
  none_old : (call : FailedCall) (kept : ℕ) → m.entry.answer ≡ answer.Old kept → IsListedFailure fails m call → ⊥
  none_old call kept old failed = let went : has_failed m ≡ false = ap is_failed old in let fell = failed.failed in absurd (cc)

-- whether a call is answered as too old
abbrev is_old : CallAnswer → Bool
is_old (answer.Old kept) = true
is_old other = false

module _ (k : Call) where
  -- the calls that the command made since it opened its file
  abbrev made : List Made
  made = made_since_open k.did

  last_through : (front : List Made) (last : Made) → made ≡ front ++ last ∷ [] → AllByRecursion WentThrough made → WentThrough last
  last_through front last e through = so_of_last WentThrough front last (subst (λ (ms : List Made). AllByRecursion WentThrough ms) e through)

  done_or_failed : (call : FailedCall) → IsDone k → HasFailedBy k call → ⊥
  done_or_failed call d f = none_failed k.before.script.fails f.last call (last_through f.front f.last f.ends.in_order d.through) f.failed

  done_or_cut : (place : ℕ) → IsDone k → IsCutOff k place → ⊥
  done_or_cut place d c =
      let through = last_through c.front c.last c.ends.in_order d.through in
      let went : is_old c.last.entry.answer ≡ false = ap is_old through in
      let old : is_old c.last.entry.answer ≡ true = ap is_old c.old in
      absurd (cc)

  failed_or_cut : (call : FailedCall) (place : ℕ) → HasFailedBy k call → IsCutOff k place → ⊥
  failed_or_cut call place f c =
      let same : c.last ≡ f.last = one_last made c.front f.front c.last f.last c.ends.in_order f.ends.in_order in
      none_old k.before.script.fails f.last call c.kept (ap (λ (m : Made). m.entry.answer) (sym same) ∙ c.old) f.failed

  one_failed : (call other : FailedCall) → HasFailedBy k call → HasFailedBy k other → other ≡ call
  one_failed call other f g =
      let same : g.last ≡ f.last = one_last made g.front f.front g.last f.last g.ends.in_order f.ends.in_order in
      sym g.failed.named ∙ ap call_of same ∙ f.failed.named

  one_cut : (place other : ℕ) → IsCutOff k place → IsCutOff k other → other ≡ place
  one_cut place other c d =
      let same : c.last ≡ d.last = one_last made c.front d.front c.last d.last c.ends.in_order d.ends.in_order in
      let at : c.last.place ≡ d.last.place = ap (λ (m : Made). m.place) same in
      let mine = c.before in
      let theirs = d.before in
      let low : other ≤ place = c.latest other d.evicted (omega (arith, at, theirs)) in
      let high : place ≤ other = d.latest place c.evicted (omega (arith, at, mine)) in
      omega (arith, low, high)

  written_one : (a b : Reply) → causes.WritesBytes k a → causes.WritesBytes k b → b ≡ a
  written_one reply.Written reply.Written h o = refl
  written_one reply.Written (reply.WriteFault other) h o = absurd (done_or_failed other h.1 o.1)
  written_one reply.Written (reply.Evicted other) h o = absurd (done_or_cut other h.1 o.1)
  written_one reply.Written other h o = absurd o
  written_one (reply.WriteFault call) reply.Written h o = absurd (done_or_failed call o.1 h.1)
  written_one (reply.WriteFault call) (reply.WriteFault other) h o = ap reply.WriteFault (one_failed call other h.1 o.1)
  written_one (reply.WriteFault call) (reply.Evicted other) h o = absurd (failed_or_cut call other h.1 o.1)
  written_one (reply.WriteFault call) other h o = absurd o
  written_one (reply.Evicted place) reply.Written h o = absurd (done_or_cut place o.1 h.1)
  written_one (reply.Evicted place) (reply.WriteFault other) h o = absurd (failed_or_cut other place o.1 h.1)
  written_one (reply.Evicted place) (reply.Evicted other) h o = ap reply.Evicted (one_cut place other h.1 o.1)
  written_one (reply.Evicted place) other h o = absurd o
  written_one other b h o = absurd h

  truncated_one : (a b : Reply) → causes.TruncatesFile k a → causes.TruncatesFile k b → b ≡ a
  truncated_one reply.Truncated reply.Truncated h o = refl
  truncated_one reply.Truncated (reply.WriteFault other) h o = absurd (done_or_failed other h.1 o.1)
  truncated_one reply.Truncated (reply.Evicted other) h o = absurd (done_or_cut other h.1 o.1)
  truncated_one reply.Truncated other h o = absurd o
  truncated_one (reply.WriteFault call) reply.Truncated h o = absurd (done_or_failed call o.1 h.1)
  truncated_one (reply.WriteFault call) (reply.WriteFault other) h o = ap reply.WriteFault (one_failed call other h.1 o.1)
  truncated_one (reply.WriteFault call) (reply.Evicted other) h o = absurd (failed_or_cut call other h.1 o.1)
  truncated_one (reply.WriteFault call) other h o = absurd o
  truncated_one (reply.Evicted place) reply.Truncated h o = absurd (done_or_cut place o.1 h.1)
  truncated_one (reply.Evicted place) (reply.WriteFault other) h o = absurd (failed_or_cut other place o.1 h.1)
  truncated_one (reply.Evicted place) (reply.Evicted other) h o = ap reply.Evicted (one_cut place other h.1 o.1)
  truncated_one (reply.Evicted place) other h o = absurd o
  truncated_one other b h o = absurd h

  writing_one : (asked : Command) → IsWriting asked → (a b : Reply) → Answers k asked a → Answers k asked b → b ≡ a
  writing_one (command.Write name offset bytes) so a b h o = written_one a b h o
  writing_one (command.Truncate name size) so a b h o = truncated_one a b h o
  writing_one other so a b h o = absurd so

-- a write or a truncate has one answer with its cause
pub writes_have_one : HaveOneCause IsWriting
writes_have_one k a b so caused o = one_if_answered k a b (writing_one k k.asked so a b) caused o

pub writes_are_alone : AreAlone IsWriting
writes_are_alone = alone_anyhow IsWriting writes_have_one
