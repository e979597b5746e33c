-- A copy of one file has one answer, where its lease was broken once at most and each destination is left for one call.
use Rattle.std.proofs.Common.{◌≡◌, ℕ, List, [], ◌∷◌, Contains, map, refl, sym, ap, subst, ◌∙◌, arith}
use Rattle.std.specs.List.{AllByRecursion}
use Rattle.flr_base.specs.declared.reply.Left.{Left}
use Rattle.flr_base.specs.declared.reply.Reply.{Reply}
use Rattle.flr_base.specs.declared.reply.Reply.TheVariants as reply
use Rattle.lfs_words.specs.declared.command.LfsCommand.{LfsCommand}
use Rattle.lfs_words.specs.declared.command.LfsCommand.TheVariants as lfs
use Rattle.script_values.specs.declared.command.Command.{Command}
use Rattle.script_values.specs.declared.command.Command.TheVariants as command
use Rattle.mirror_select.proofs.Least.{In, from_contains, to_contains}
use Rattle.meta_server.specs.Files.{File}
use Rattle.flr_steps.specs.States.{State}
use Rattle.flr_claims.specs.Calls.{Call, IsBrokenAt, IsLeased}
use Rattle.flr_claims.specs.Causes as causes
use Rattle.flr_claims.specs.Causes.{Answers, IsCaused, IsCopyOfOne, IsLeaseBroken}
use Rattle.flr_claims.specs.Copies.{AreSelected, HasBegun, IsRightlyCleared, IsRightlyLeft, selects}
use Rattle.flr_honest.specs.Entries.{claimed}
use Rattle.flr_honest.specs.OnlyAnswers.Alone.{AreLeftForOne, BreaksOnce, CopiesAreAlone, IsCopying}
use Rattle.flr_honest.proofs.OnlyAnswers.Ascending.{AreAmong, ascends, in_mapped, of_mapped, one_ascending, so_of_one}
use Rattle.flr_honest.proofs.OnlyAnswers.Broken.Once.{copies_break_once}
use Rattle.flr_honest.proofs.OnlyAnswers.OneStep.{one_if_answered}
use Rattle.flr_honest.proofs.OnlyAnswers.Verifying.{one_opened}

-- the components that are left
abbrev pub names_left : List Left → List ℕ
names_left left = map (λ (l : Left). l.component) left

module _ (k : Call) where
  -- what a command selects in a state is one
  one_selection : (s : State) (ids others : List ℕ) → AreSelected s k.asked ids → AreSelected s k.asked others → others ≡ ids
  one_selection s ids others a b =
      let mine = a.1 in
      let theirs = b.1 in
      let file : b.0 ≡ a.0 = cc in
      sym b.2 ∙ ap (λ (f : File). selects s k.asked f) file ∙ a.2

  pub ids_one : (f g : File) (ids others : List ℕ) → HasBegun k f ids → HasBegun k g others → others ≡ ids
  ids_one f g ids others a b =
      let here = a.old_is in
      let there = b.old_is in
      let same : b.old ≡ a.old = cc in
      one_selection a.old ids others a.selected (subst (λ (s : State). AreSelected s k.asked others) same b.selected)

  module _ (f : File) (ids : List ℕ) where
    cleared_among : (cleared others : List ℕ) (left more : List Left) → IsRightlyCleared k f ids cleared left → IsRightlyCleared k f ids others more → AreAmong cleared others
    cleared_among cleared others left more a b id i =
        let d = a.destinations id (to_contains cleared id i) in
        let whole = (a.whole d.0 d.1).0 (subst (λ (n : ℕ). Contains cleared n) (sym d.2) (to_contains cleared id i)) in
        from_contains others id (subst (λ (n : ℕ). Contains others n) d.2 ((b.whole d.0 d.1).1 whole))

    -- what a copy cleared is one
    pub cleared_one : (cleared others : List ℕ) (left more : List Left) → IsRightlyCleared k f ids cleared left → IsRightlyCleared k f ids others more → others ≡ cleared
    cleared_one cleared others left more a b =
        one_ascending cleared others (ascends cleared a.ascending) (ascends others b.ascending) (cleared_among cleared others left more a b) (cleared_among others cleared more left b a)

    left_among : (cleared : List ℕ) (left more : List Left) → IsRightlyCleared k f ids cleared left → IsRightlyCleared k f ids cleared more → AreAmong (names_left left) (names_left more)
    left_among cleared left more a b id i =
        let found = of_mapped (λ (l : Left). l.component) left id i in
        let right : IsRightlyLeft k f ids cleared found.0 = so_of_one (IsRightlyLeft k f ids cleared) left found.0 a.lefts found.1 in
        let other = b.others right.d right.destination right.kept in
        subst (λ (n : ℕ). In n (names_left more)) (other.2 ∙ sym right.same ∙ found.2) (in_mapped (λ (l : Left). l.component) more other.0 (from_contains more other.0 other.1))

    -- which components a copy left is one
    pub names_one : (cleared : List ℕ) (left more : List Left) → IsRightlyCleared k f ids cleared left → IsRightlyCleared k f ids cleared more → names_left more ≡ names_left left
    names_one cleared left more a b =
        one_ascending (names_left left) (names_left more) (ascends (names_left left) a.left_once) (ascends (names_left more) b.left_once) (left_among cleared left more a b) (left_among cleared more left b a)

    lefts_by : AreLeftForOne k → (cleared : List ℕ) (left more : List Left) → AllByRecursion (IsRightlyLeft k f ids cleared) left → AllByRecursion (IsRightlyLeft k f ids cleared) more → names_left more ≡ names_left left → more ≡ left
    lefts_by one cleared [] [] a b e = refl
    lefts_by one cleared [] (m ∷ ms) a b e = absurd (cc)
    lefts_by one cleared (l ∷ ls) [] a b e = absurd (cc)
    lefts_by one cleared (l ∷ ls) (m ∷ ms) a b e =
        let component : m.component ≡ l.component = cc in
        let names : names_left ms ≡ names_left ls = cc in
        let call = one f ids cleared l m a.0 b.0 component in
        let head : m ≡ l = (λ i. record { component = component i; call = call i }) in
        let tail : ms ≡ ls = lefts_by one cleared ls ms a.1 b.1 names in
        (λ i. head i ∷ tail i)

    copied_one : AreLeftForOne k → (cleared others : List ℕ) (left more : List Left) → IsRightlyCleared k f ids cleared left → IsRightlyCleared k f ids others more → reply.Copied others more ≡ reply.Copied cleared left
    copied_one one cleared others left more a b =
        let same : others ≡ cleared = cleared_one cleared others left more a b in
        let there : IsRightlyCleared k f ids cleared more = subst (λ (ns : List ℕ). IsRightlyCleared k f ids ns more) same b in
        let lefts : more ≡ left = lefts_by one cleared left more a.lefts there.lefts (names_one cleared left more a there) in
        (λ i. reply.Copied (same i) (lefts i))

  of_one_copy : AreLeftForOne k → (cleared others : List ℕ) (left more : List Left) → IsCopyOfOne k cleared left → IsCopyOfOne k others more → reply.Copied others more ≡ reply.Copied cleared left
  of_one_copy one cleared others left more (causes.OfNothing granted selected none no_left) (causes.OfNothing again chosen nothing no_more) =
      let same : others ≡ cleared = nothing ∙ sym none in let lefts : more ≡ left = no_more ∙ sym no_left in (λ i. reply.Copied (same i) (lefts i))
  of_one_copy one cleared others left more (causes.OfNothing granted selected none no_left) (causes.OfSome f ids later some right) = let at = granted.0 in let behind = right.begun.opened.later in absurd (omega (arith, at, behind))
  of_one_copy one cleared others left more (causes.OfSome f ids later some right) (causes.OfNothing granted selected none no_more) = let at = granted.0 in let behind = right.begun.opened.later in absurd (omega (arith, at, behind))
  of_one_copy one cleared others left more (causes.OfSome f ids later some right) (causes.OfSome g chosen after any there) =
      let file : g ≡ f = one_opened k g f there.begun.opened right.begun.opened in
      let same : chosen ≡ ids = ids_one f g ids chosen right.begun there.begun in
      copied_one f ids one cleared others left more right (subst (λ (x : File). IsRightlyCleared k x ids others more) file (subst (λ (ns : List ℕ). IsRightlyCleared k g ns others more) same there))

  -- a copy that came to its end didn't lose its lease
  copied_or_broken : (cleared : List ℕ) (left : List Left) (place : ℕ) → IsCopyOfOne k cleared left → IsLeaseBroken k place → ⊥
  copied_or_broken cleared left place (causes.OfNothing granted selected none no_left) b = let at = granted.0 in let behind = b.2.later in absurd (omega (arith, at, behind))
  copied_or_broken cleared left place (causes.OfSome f ids later some right) b = b.3.gone (subst (λ (x : File). IsLeased k x.number) (one_opened k f b.0 right.begun.opened b.2) right.leased)

  one_place : BreaksOnce k → (place other : ℕ) → IsLeaseBroken k place → IsLeaseBroken k other → other ≡ place
  one_place once place other a b = once a.0.number place other a.3 (subst (λ (x : File). IsBrokenAt k x.number other) (one_opened k b.0 a.0 b.2 a.2) b.3)

  module _ (once : BreaksOnce k) (one : AreLeftForOne k) where
    copy_one : (a b : Reply) → causes.CopiesFile k a → causes.CopiesFile k b → b ≡ a
    copy_one (reply.Copied cleared left) (reply.Copied others more) h o = of_one_copy one cleared others left more h o
    copy_one (reply.Copied cleared left) (reply.Broken place) h o = absurd (copied_or_broken cleared left place h o)
    copy_one (reply.Copied cleared left) other h o = absurd o
    copy_one (reply.Broken place) (reply.Copied others more) h o = absurd (copied_or_broken others more place o h)
    copy_one (reply.Broken place) (reply.Broken other) h o = ap reply.Broken (one_place once place other h o)
    copy_one (reply.Broken place) other h o = absurd o
    copy_one other b h o = absurd h

    lfs_copy_one : (of : LfsCommand) → IsCopying (command.Lfs of) → (a b : Reply) → causes.LfsAnswers k of a → causes.LfsAnswers k of b → b ≡ a
    lfs_copy_one (lfs.Resync name only) so a b h o = copy_one a b h o
    lfs_copy_one (lfs.Extend name spec) so a b h o = copy_one a b h o
    lfs_copy_one other so a b h o = absurd so

    copying_one : (asked : Command) → IsCopying asked → (a b : Reply) → Answers k asked a → Answers k asked b → b ≡ a
    copying_one (command.Lfs of) so a b h o = lfs_copy_one of so a b h o
    copying_one other so a b h o = absurd so

    -- a copy of one file has one answer with its cause
    pub copies_have_one : IsCopying k.asked → (a b : Reply) → IsCaused k a → IsCaused k b → b ≡ a
    copies_have_one so a b caused o = one_if_answered k a b (copying_one k.asked so a b) caused o

-- in each run the answer of a copy is the only one that has its cause, where each destination is left for one call
pub copies_are_alone : CopiesAreAlone
copies_are_alone s e p is one so caused other o = copies_have_one (claimed is) (copies_break_once is so) one so e.reply other caused o
