-- What a call's step answers is what its client's step answers.
use Rattle.flr_base.specs.declared.reply.Reply.{Reply}
use Rattle.call_steps.specs.Steps.{Outcome, Going, Fixed, Ended, Answered, Blocked, widen}
use Rattle.flr_honest.specs.Legal.Sentences.{IfFixed}

pub widened : {C D : Type 0} (may : Reply → Type 0) (f : C → D) (o : Outcome C) → IfFixed may o → IfFixed may (widen f o)
widened may f (Going next after) h = tt
widened may f (Fixed next answer takes after) h = h
widened may f (Ended after) h = tt
widened may f (Answered answer takes after) h = h
widened may f (Blocked holder) h = tt

-- where what passes one test passes another
pub weaker : {C : Type 0} (may might : Reply → Type 0) (o : Outcome C) → ((answer : Reply) → may answer → might answer) → IfFixed may o → IfFixed might o
weaker may might (Going next after) so h = tt
weaker may might (Fixed next answer takes after) so h = so answer h
weaker may might (Ended after) so h = tt
weaker may might (Answered answer takes after) so h = so answer h
weaker may might (Blocked holder) so h = tt
