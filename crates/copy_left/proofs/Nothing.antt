-- A run of a copy that lost its file clears nothing.
use Rattle.std.proofs.Common.{◌≡◌, ℕ, List, [], ◌∷◌, ◌++◌, Option, None, Some, refl, sym, ap, subst, ◌∙◌, inl, inr}
use Rattle.flr_base.specs.declared.reply.Left.{Left}
use Rattle.flr_base.specs.declared.reply.Range.{Range}
use Rattle.layout_lease.specs.Leases.{KeyView}
use Rattle.meta_server.specs.Closing.{size_of}
use Rattle.meta_server.specs.Ending.{copy_ends}
use Rattle.meta_server.specs.Outcomes.{Ending, Ends, Breaks}
use Rattle.meta_server.specs.Outcomes as meta
use Rattle.mirror_select.proofs.Least.{In, from_contains}
use Rattle.call_steps.specs.Runs.{CallStep, IsRunOf, Leaves, goes_on}
use Rattle.call_steps.specs.Servers.{Servers}
use Rattle.call_steps.specs.Steps.{Outcome, Going, Fixed, Ended, Answered, Blocked}
use Rattle.resync_copy.specs.declared.phase.CopyAt.{CopyAt}
use Rattle.resync_copy.specs.declared.phase.CopyAt.TheVariants as at
use Rattle.resync_copy.specs.declared.phase.CopyStage.TheVariants as stage
use Rattle.resync_copy.specs.Calls.{CopyView}
use Rattle.resync_copy.specs.Copies.{ends_copy, first_writer, new_copy, settled_objects, settles}
use Rattle.resync_copy.specs.Laws.{EndsWithNothing, LeadsToNothing}
use Rattle.resync_copy.specs.Steps.{copy_at, copy_step}
use Rattle.resync_copy.proofs.NothingLaws.{file_gone, put_too_old, reset_too_old}
use Rattle.copy_left.specs.Nothing.{HasLost, HasLostAt, LostClearsNothing}

-- what a done is to clear
abbrev cleared_at : CopyAt → List ℕ
cleared_at at.Begin = []
cleared_at (at.Copy (stage.Fence x next)) = []
cleared_at (at.Copy (stage.Reset x next)) = []
cleared_at (at.Copy (stage.Settle x)) = []
cleared_at (at.Copy (stage.Take h)) = []
cleared_at (at.Copy (stage.Put h bytes)) = []
cleared_at (at.Copy (stage.Done key cleared left)) = cleared
cleared_at (at.Merge next) = []

-- a step that lost its file leads to a done that clears nothing
lost_leads : (c : CopyView) (s after : Servers) (a : CopyAt) → HasLostAt a s → Leaves (copy_at a c s) after → LeadsToNothing (copy_at a c s)
lost_leads c s after at.Begin lost left = absurd lost
lost_leads c s after (at.Copy (stage.Fence x next)) lost left = absurd lost
lost_leads c s after (at.Copy (stage.Reset x next)) lost left = reset_too_old c s x next lost.0 lost.1
lost_leads c s after (at.Copy (stage.Settle x)) lost left = by (first_writer s.locks c.client (settled_objects x)) refl left
  where
    by : (o : Option (ℕ × Range)) → first_writer s.locks c.client (settled_objects x) ≡ o → Leaves (settles c s x o (size_of x.side.file s.meta)) after → LeadsToNothing (settles c s x (first_writer s.locks c.client (settled_objects x)) (size_of x.side.file s.meta))
    by (Some told) e left = absurd left
    by None e left = file_gone c s x e lost
lost_leads c s after (at.Copy (stage.Take h)) lost left = absurd lost
lost_leads c s after (at.Copy (stage.Put h bytes)) lost left = put_too_old c s h bytes lost.0 lost.1
lost_leads c s after (at.Copy (stage.Done key cleared lefts)) lost left = absurd lost
lost_leads c s after (at.Merge next) lost left = absurd lost

module _ (made : CallStep CopyView) (key : KeyView) (cleared : List ℕ) (left : List Left) (done : made.call.at ≡ at.Copy (stage.Done key cleared left)) where
  -- behind a call that has ended there is no step
  no_more : (rest : List (CallStep CopyView)) (last : ℕ) → IsRunOf copy_step (rest ++ made ∷ []) None last → ⊥
  no_more [] last run = run
  no_more (m ∷ rest) last run = run

  -- a done is the last step
  ended : (c : CopyView) (s : Servers) (k : KeyView) (ids : List ℕ) (lefts : List Left) (o : Ending (Unit {0})) → goes_on (ends_copy c s ids lefts o) ≡ None
  ended c s k ids lefts (Ends none after) = refl
  ended c s k ids lefts (Breaks step after) = refl
  ended c s k ids lefts (meta.Holds holder) = refl

  at_done : (rest : List (CallStep CopyView)) (call : CopyView) (last : ℕ) (k : KeyView) (ids : List ℕ) (lefts : List Left) → call.at ≡ at.Copy (stage.Done k ids lefts) → ids ≡ [] → IsRunOf copy_step (rest ++ made ∷ []) (Some call) last → cleared ≡ []
  at_done [] call last k ids lefts is none run = ap cleared_at (sym done) ∙ ap (λ (v : CopyView). cleared_at v.at) run.0.same ∙ ap cleared_at is ∙ none
  at_done (m ∷ rest) call last k ids lefts is none run =
      let came : m.came ≡ ends_copy call m.before ids lefts (copy_ends k ids m.before.meta) = run.0.came ∙ ap (λ (a : CopyAt). copy_at a call m.before) is in
      absurd (no_more rest m.place (subst (λ (o : Option CopyView). IsRunOf copy_step (rest ++ made ∷ []) o m.place) (ap goes_on came ∙ ended call m.before k ids lefts (copy_ends k ids m.before.meta)) run.1))

  with_nothing : (rest : List (CallStep CopyView)) (call : CopyView) (last : ℕ) (a : CopyAt) → call.at ≡ a → EndsWithNothing a → IsRunOf copy_step (rest ++ made ∷ []) (Some call) last → cleared ≡ []
  with_nothing rest call last at.Begin is none run = absurd none
  with_nothing rest call last (at.Copy (stage.Fence x next)) is none run = absurd none
  with_nothing rest call last (at.Copy (stage.Reset x next)) is none run = absurd none
  with_nothing rest call last (at.Copy (stage.Settle x)) is none run = absurd none
  with_nothing rest call last (at.Copy (stage.Take h)) is none run = absurd none
  with_nothing rest call last (at.Copy (stage.Put h bytes)) is none run = absurd none
  with_nothing rest call last (at.Copy (stage.Done k ids lefts)) is none run = at_done rest call last k ids lefts is none run
  with_nothing rest call last (at.Merge next) is none run = absurd none

  after_loss : (rest : List (CallStep CopyView)) (o : Outcome CopyView) (last : ℕ) → LeadsToNothing o → IsRunOf copy_step (rest ++ made ∷ []) (goes_on o) last → cleared ≡ []
  after_loss rest (Going next after) last leads run = with_nothing rest next last next.at refl leads run
  after_loss rest (Fixed next reply takes after) last leads run = absurd leads
  after_loss rest (Ended after) last leads run = absurd leads
  after_loss rest (Answered reply takes after) last leads run = absurd leads
  after_loss rest (Blocked holder) last leads run = absurd leads

  clears_nothing : (steps : List (CallStep CopyView)) (lost : CallStep CopyView) (call : Option CopyView) (last : ℕ) → In lost steps → HasLost lost → IsRunOf copy_step (steps ++ made ∷ []) call last → cleared ≡ []
  clears_nothing [] lost call last i has run = absurd i
  clears_nothing (m ∷ rest) lost None last i has run = absurd run
  clears_nothing (m ∷ rest) lost (Some call) last i has run = elim i as (λ _. cleared ≡ []) [
    | inl same ↦
        let mine : HasLostAt call.at m.before = subst (λ (v : CopyView). HasLostAt v.at m.before) run.0.same (subst HasLost (sym same) has) in
        let leads : LeadsToNothing (copy_at call.at call m.before) = lost_leads call m.before m.after call.at mine (subst (λ (o : Outcome CopyView). Leaves o m.after) run.0.came run.0.left) in
        after_loss rest (copy_at call.at call m.before) m.place leads (subst (λ (o : Outcome CopyView). IsRunOf copy_step (rest ++ made ∷ []) (goes_on o) m.place) run.0.came run.1)
    | inr j ↦ clears_nothing rest lost (goes_on m.came) m.place j has run.1
  ]

pub lost_clears_nothing : LostClearsNothing
lost_clears_nothing client name what steps made lost key cleared left run has is done =
    clears_nothing made key cleared left done steps lost (Some (new_copy client name what)) 0 (from_contains steps lost has) is run
