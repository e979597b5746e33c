-- A copy of one file is answered at its end with what it cleared and left where its lease stands, and else with the place at which that was broken.
use Rattle.std.proofs.Common.{◌≡◌, ℕ, ◌+◌, ◌-◌, List, [], ◌∷◌, ◌++◌, Option, None, Some, refl, sym, ap, subst, ◌∙◌, arith}
use Rattle.flr_base.specs.declared.reply.Entry.{Entry}
use Rattle.flr_base.specs.declared.reply.Left.{Left}
use Rattle.flr_base.specs.declared.reply.Reply.{Reply}
use Rattle.flr_base.specs.declared.reply.Reply.TheVariants as reply
use Rattle.flr_base.specs.declared.reply.Take.{Take}
use Rattle.layout_lease.specs.declared.lease.KeyState.{KeyState}
use Rattle.layout_lease.specs.declared.lease.KeyState.TheVariants.{Held, Broken}
use Rattle.layout_lease.specs.Leases.{KeyView, holder_of, state_of}
use Rattle.layout_lease.specs.Shares.{lowest_but}
use Rattle.meta_laws.proofs.Finding.{numbered, other_found, same_found}
use Rattle.meta_server.specs.declared.answers.Side.{Side}
use Rattle.meta_server.specs.Ending.{copy_ends, copy_ends_alone, copy_ends_by, copy_ends_file, with_done}
use Rattle.meta_server.specs.Files.{File, MetaView, changed, file_of, with_layout}
use Rattle.meta_server.specs.Layouts.{finished}
use Rattle.meta_server.specs.Outcomes.{Ends}
use Rattle.meta_server.specs.Sound.{IsSound}
use Rattle.call_steps.specs.Runs.{CallStep, IsRunOf, Leaves, goes_on}
use Rattle.call_steps.specs.Servers.{Servers}
use Rattle.call_steps.specs.Steps.{Outcome, Answered}
use Rattle.resync_copy.specs.declared.phase.CopyAt.{CopyAt}
use Rattle.resync_copy.specs.Calls.{CopyView}
use Rattle.resync_copy.specs.Copies.{ends_copy}
use Rattle.resync_copy.specs.Steps.{copy_at, copy_step}
use Rattle.flr_steps.specs.declared.client.Running.TheVariants as running
use Rattle.flr_steps.specs.States.{State, next, start, state_at}
use Rattle.flr_steps.specs.Traces.{Past}
use Rattle.flr_steps.proofs.Fronts.{each_place_is}
use Rattle.flr_asked.specs.CallRuns.{FixesAnswer, of_kind}
use Rattle.flr_sole.proofs.Others.{held_there}
use Rattle.flr_claims.specs.Calls.{IsLeased}
use Rattle.flr_claims.specs.Copies.{IsClearing}
use Rattle.flr_honest.specs.Entries.{claimed}
use Rattle.flr_honest.specs.CopyCauses.Sentences.{HasEnded, IsCopyOf}
use Rattle.flr_honest.proofs.CopyCauses.Begun.{HasBegunOn}
use Rattle.flr_honest.proofs.CopyCauses.Ended.{IsAtEnd, begun_on, first_call, last_came}
use Rattle.flr_honest.proofs.CallSteps.Standing.{from_one}
use Rattle.flr_honest.proofs.CopyCauses.Made.{ground_there}
use Rattle.flr_honest.proofs.CopyCauses.Once.{last_before, last_old, last_stands}
use Rattle.flr_honest.proofs.CopyCauses.Rightly.{held_holder}

-- ---- how the end is answered

-- the lease stood, and the copy is done; or it was broken
pub data EndsSo (m : MetaView) (key : KeyView) (cleared : List ℕ) (left : List Left) (answer : Reply) (takes : List Take) : Type 0 where
  Done : state_of m.leases key ≡ Held → (f : File) → file_of key.file m.files ≡ Some f → copy_ends key cleared m ≡ Ends tt (with_done key cleared f m) → answer ≡ reply.Copied cleared left → takes ≡ [] → EndsSo m key cleared left answer takes
  Cut : (place : ℕ) → state_of m.leases key ≡ Broken place → answer ≡ reply.Broken place → takes ≡ [] → EndsSo m key cleared left answer takes

pub ends_so : (c : CopyView) (s : Servers) (key : KeyView) (cleared : List ℕ) (left : List Left) (answer : Reply) (takes : List Take) → IsSound s.meta → FixesAnswer (ends_copy c s cleared left (copy_ends key cleared s.meta)) answer takes
    → EndsSo s.meta key cleared left answer takes
ends_so c s key cleared left answer takes sound fixes = by (state_of s.meta.leases key) refl fixes
  where
    alone : state_of s.meta.leases key ≡ Held → (f : File) → file_of key.file s.meta.files ≡ Some f → (o : Option ℕ) → copy_ends key cleared s.meta ≡ copy_ends_alone key cleared s.meta f o → FixesAnswer (ends_copy c s cleared left (copy_ends_alone key cleared s.meta f o)) answer takes
        → EndsSo s.meta key cleared left answer takes
    alone held f there (Some holder) is fixed = absurd fixed
    alone held f there None is fixed = EndsSo.Done held f there is (sym fixed.0) (sym fixed.1)

    file : state_of s.meta.leases key ≡ Held → (o : Option File) → file_of key.file s.meta.files ≡ o → FixesAnswer (ends_copy c s cleared left (copy_ends_file key cleared s.meta o)) answer takes → EndsSo s.meta key cleared left answer takes
    file held None there fixed = let f = held_there s.meta key sound held in let no : None ≡ Some f.0 = sym there ∙ f.1 in absurd (cc no)
    file held (Some f) there fixed =
        alone held f there (lowest_but key.client f.lock) refl_is fixed
      where
        refl_is : copy_ends key cleared s.meta ≡ copy_ends_alone key cleared s.meta f (lowest_but key.client f.lock)
        refl_is = ap (copy_ends_by key cleared s.meta) held ∙ ap (copy_ends_file key cleared s.meta) there

    by : (k : KeyState) → state_of s.meta.leases key ≡ k → FixesAnswer (ends_copy c s cleared left (copy_ends_by key cleared s.meta k)) answer takes → EndsSo s.meta key cleared left answer takes
    by Held e fixed = file e (file_of key.file s.meta.files) refl fixed
    by (Broken place) e fixed = EndsSo.Cut place e (sym fixed.0) (sym fixed.1)

-- ---- the last step

module _ {s : State} {e : Entry} {p : Past} (c : IsCopyOf s e p) where
  last_left : (xs : List (CallStep CopyView)) (x : CallStep CopyView) (call : Option CopyView) (last : ℕ) → IsRunOf copy_step (xs ++ x ∷ []) call last → Leaves x.came x.after
  last_left [] x None last run = absurd run
  last_left [] x (Some v) last run = run.0.left
  last_left (y ∷ xs) x None last run = absurd run
  last_left (y ∷ xs) x (Some v) last run = last_left xs x (goes_on y.came) y.place run.1

  pub sound_last : IsSound c.call.last.before.meta
  sound_last = subst (λ (v : Servers). IsSound v.meta) (sym (last_stands c).before_is) (ground_there s c.is.run e.client c.is.asked c.call.last (last_stands c)).holds.servers.sound

  -- how a copy at its end is answered
  pub answered : (a : IsAtEnd c) → EndsSo c.call.last.before.meta a.side.key a.cleared a.left e.reply e.takes
  answered a = ends_so c.call.last.call c.call.last.before a.side.key a.cleared a.left e.reply e.takes sound_last a.fixes

  module _ (f : File) (side : Side) (ids cleared : List ℕ) (left : List Left) (n : HasEnded c f side ids cleared left) where
    on : HasBegunOn e.client n.begin.before.meta c.name c.what side ids n.begin.after.meta
    on = begun_on c side ids n.begin n.rest n.first n.begun

    -- the key is the client's
    pub own_key : side.key.client ≡ e.client
    own_key = ap (λ (x : Side). x.key.client) on.side_is

    -- the lease that stands is that of the file
    pub leased : state_of c.call.last.before.meta.leases side.key ≡ Held → IsLeased (claimed c.is) f.number
    leased held =
        ap (λ (v : Servers). holder_of v.meta.leases f.number) (sym (last_before c)) ∙ ap (λ (k : ℕ). holder_of c.call.last.before.meta.leases k) n.number ∙ held_holder c.call.last.before.meta.leases side.key sound_last.leases held ∙ ap (λ (k : ℕ). Some k) own_key

    -- the last step takes stale from what it clears
    pub clearing : state_of c.call.last.before.meta.leases side.key ≡ Held → (now : File) → file_of side.key.file c.call.last.before.meta.files ≡ Some now
        → copy_ends side.key cleared c.call.last.before.meta ≡ Ends tt (with_done side.key cleared now c.call.last.before.meta) → IsClearing (claimed c.is) f.number cleared
    clearing held now there ends =
        let x : CallStep CopyView = c.call.last in
        let m : MetaView = x.before.meta in
        let st = last_stands c in
        let p = each_place_is (start s.script) s s.schedule (x.place - 1) e.client c.is.run.run st.own in
        let one = from_one s.script s.schedule e.client c.is.asked (of_kind running.Copy x) st in
        let next_place : (x.place - 1) + 1 ≡ x.place = omega (arith, one) in
        let old_same : p.old ≡ c.is.before = same_state p.old c.is.before (sym p.old_is ∙ st.old_is ∙ ap (λ (y : State). Some y) (last_old c)) in
        let new_same : p.new ≡ st.new = same_state p.new st.new (sym p.new_is ∙ ap (state_at s.script s.schedule) next_place ∙ st.new_is) in
        let came : x.came ≡ Answered (reply.Copied cleared left) [] (record x.before { meta = with_done side.key cleared now m }) =
        last_came c ∙ ap (λ (a : CopyAt). copy_at a x.call x.before) n.done ∙ ap (λ (k : KeyView). ends_copy x.call x.before cleared left (copy_ends k cleared m)) (sym n.key_is) ∙ ap (ends_copy x.call x.before cleared left) ends in
        let left_is : x.after ≡ record x.before { meta = with_done side.key cleared now m } = subst (λ (o : Outcome CopyView). Leaves o x.after) came (last_left c.call.front x (Some (first_call c)) 0 c.call.run) in
        let after_meta : p.new.shared.meta ≡ with_done side.key cleared now m = ap (λ (y : State). y.shared.meta) new_same ∙ ap (λ (v : Servers). v.meta) (sym st.after_is ∙ left_is) in
        let before_meta : m ≡ c.is.before.shared.meta = ap (λ (v : Servers). v.meta) (last_before c) in
        let number : now.number ≡ side.key.file = numbered side.key.file m.files now there in
        let keeps : (y : File) → (with_layout (finished cleared now.layout) y).number ≡ y.number = λ y. refl in
        record {
          after = p.new;
          made = ap (λ (y : State). next y e.client) (sym old_same) ∙ p.made;
          old = now;
          old_is = ap (λ (v : MetaView). file_of f.number v.files) (sym before_meta) ∙ ap (λ (k : ℕ). file_of k m.files) n.number ∙ there;
          new = with_layout (finished cleared now.layout) now;
          new_is = ap (λ (v : MetaView). file_of f.number v.files) after_meta ∙ ap (λ (k : ℕ). file_of k (changed now.number (with_layout (finished cleared now.layout)) m.files)) (n.number ∙ sym number)
              ∙ same_found now.number (with_layout (finished cleared now.layout)) m.files now keeps (ap (λ (k : ℕ). file_of k m.files) number ∙ there);
          done = refl;
          others = λ k apart. (
              ap (λ (v : MetaView). file_of k v.files) after_meta ∙ other_found k now.number (with_layout (finished cleared now.layout)) m.files keeps (λ same. apart (same ∙ number ∙ sym n.number)) ∙ ap (λ (v : MetaView). file_of k v.files) before_meta
              );
        }
      where
        same_state : (a b : State) → Some a ≡ Some b → a ≡ b
        same_state a b h = cc
