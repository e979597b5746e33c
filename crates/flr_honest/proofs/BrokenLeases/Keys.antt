-- A copy's key that is broken before its point was broken on its way.
use Rattle.std.proofs.Common.{◌≡◌, ◌⊎◌, inl, inr, ℕ, ◌-◌, ◌<◌, ◌≤◌, ◌==◌, true, List, [], ◌∷◌, ◌++◌, Contains, Some, refl, sym, ap, ◌∙◌, subst, arith}
use Rattle.flr_base.specs.declared.reply.Entry.{Entry}
use Rattle.layout_lease.specs.declared.lease.KeyState.TheVariants.{Held, Broken}
use Rattle.layout_lease.specs.declared.lease.Lease.{Lease}
use Rattle.layout_lease.specs.Leases.{KeyView, key_of, state_of}
use Rattle.layout_lease.specs.Leases as leases
use Rattle.mirror_select.proofs.Least.{In, to_contains}
use Rattle.meta_server.specs.Files.{MetaView}
use Rattle.meta_server.specs.Beginning.{copy_begins}
use Rattle.meta_server.specs.declared.answers.Begun.{Begun}
use Rattle.meta_server.specs.declared.answers.Begun.TheVariants as begun_as
use Rattle.meta_server.specs.Outcomes.{Gives, Refuses, Waits}
use Rattle.meta_server.specs.Outcomes as meta
use Rattle.meta_laws.specs.Calls.{left_by}
use Rattle.call_steps.specs.Runs.{CallStep, IsRunOf, Leaves, goes_on}
use Rattle.call_steps.specs.Servers.{Servers}
use Rattle.call_steps.specs.Steps.{Outcome, Going, Fixed, Ended, Answered, Blocked}
use Rattle.resync_copy.specs.Calls.{CopyView}
use Rattle.resync_copy.specs.declared.phase.CopyAt.{CopyAt}
use Rattle.resync_copy.specs.declared.phase.CopyAt.TheVariants as at
use Rattle.resync_copy.specs.Steps as steps
use Rattle.resync_copy.specs.Steps.{copy_step}
use Rattle.flr_numbers.specs.Copies.{copy_hand}
use Rattle.flr_numbers.specs.Hands.{Has}
use Rattle.flr_numbers.specs.Sentences.{hand_of}
use Rattle.flr_steps.specs.declared.client.Running.TheVariants as running
use Rattle.flr_steps.specs.States.{State, state_at}
use Rattle.flr_steps.specs.Traces as traces
use Rattle.flr_steps.specs.Traces.{Past}
use Rattle.flr_asked.specs.CallRuns.{StandsIn, of_kind}
use Rattle.flr_claims.specs.Calls.{IsBrokenAt}
use Rattle.flr_places.proofs.Steps.{OnMeta}
use Rattle.flr_honest.specs.Entries.{IsEntryOf, claimed}
use Rattle.flr_honest.specs.CallSteps.TypedCalls.{IsTypedCallTo}
use Rattle.flr_honest.proofs.CallRuns.Before.{last_behind, point_within}
use Rattle.flr_honest.proofs.CallSteps.Narrowed.{head_same}
use Rattle.flr_honest.proofs.CallSteps.Before.{before_run, last_before, last_stands, later_state, step_stands}
use Rattle.flr_honest.proofs.CallSteps.Standing.{call_has}
use Rattle.flr_honest.proofs.BrokenLeases.Breaking.{broken_on_its_way}
use Rattle.flr_honest.proofs.BrokenLeases.Fresh.{AreNew, begin_new, in_hand, none_of_none, state_there}
use Rattle.flr_honest.proofs.BrokenLeases.Origins.{of_all}
use Rattle.flr_honest.proofs.BrokenLeases.Owning.{begin_place, before_long, keeps_on_its_way, some_same, since}
use Rattle.flr_honest.proofs.BrokenLeases.Walking.{sound_in}

-- ---- behind the begin

begun_new : (k : CopyView) (s : Servers) (o : meta.Outcome Begun) → AreNew s.meta (left_by o s.meta) → OnMeta (AreNew s.meta) (steps.begins k s o)
begun_new k s (Gives begun_as.Nothing after) new = new
begun_new k s (Gives (begun_as.Copy side ids) after) new = new
begun_new k s (Gives (begun_as.Merge ours theirs) after) new = new
begun_new k s (Refuses refusal) new = new
begun_new k s (Waits holder) new = tt

begin_new_at : (k : CopyView) (s : Servers) (a : CopyAt) → traces.copy_begins a ≡ true → OnMeta (AreNew s.meta) (steps.copy_at a k s)
begin_new_at k s at.Begin is = begun_new k s (copy_begins k.client k.name k.what s.meta) (begin_new s.meta k.client k.name k.what)
begin_new_at k s (at.Copy next) is = absurd (cc is)
begin_new_at k s (at.Merge next) is = absurd (cc is)

left_new : (m : MetaView) (o : Outcome CopyView) (after : Servers) → OnMeta (AreNew m) o → Leaves o after → AreNew m after.meta
left_new m (Going next left) after new is = subst (λ (s : Servers). AreNew m s.meta) (sym is) new
left_new m (Fixed next reply takes left) after new is = subst (λ (s : Servers). AreNew m s.meta) (sym is) new
left_new m (Ended left) after new is = subst (λ (s : Servers). AreNew m s.meta) (sym is) new
left_new m (Answered reply takes left) after new is = subst (λ (s : Servers). AreNew m s.meta) (sym is) new
left_new m (Blocked holder) after new is = absurd is

-- a copy that is to begin has nothing in hand
nothing_yet : (k : CopyView) (a : CopyAt) → k.at ≡ a → traces.copy_begins a ≡ true → (hand_of (running.Copy k)).keys ≡ []
nothing_yet k at.Begin e is = ap (λ (a : CopyAt). (copy_hand a).keys) e
nothing_yet k (at.Copy next) e is = absurd (cc is)
nothing_yet k (at.Merge next) e is = absurd (cc is)

-- ---- in a run

module _ {s : State} {e : Entry} {p : Past} (is : IsEntryOf s e p) (k : CopyView) (begins : traces.copy_begins k.at ≡ true) (call : IsTypedCallTo running.Copy copy_step k s.script s.schedule is.asked e p) where
  abbrev all_steps : List (CallStep CopyView)
  all_steps = call.front ++ call.last ∷ []

  -- the copy's first step
  abbrev first : CallStep CopyView
  first = (since is k begins call).begin

  first_there : Contains all_steps first
  first_there = to_contains all_steps first (subst (λ (xs : List (CallStep CopyView)). In first xs) (sym (since is k begins call).are) (inl refl))

  first_stands : StandsIn s.script s.schedule e.client is.asked (of_kind running.Copy first)
  first_stands = step_stands running.Copy copy_step k is is.asked call first first_there

  first_runs : IsRunOf copy_step (first ∷ (since is k begins call).rest) (Some k) 0
  first_runs = subst (λ (xs : List (CallStep CopyView)). IsRunOf copy_step xs (Some k) 0) (since is k begins call).are call.run

  -- what the begin left of the keys
  first_new : AreNew first.before.meta first.after.meta
  first_new = left_new first.before.meta first.came first.after (subst (OnMeta (AreNew first.before.meta)) (sym first_runs.0.came) (begin_new_at k first.before k.at begins)) first_runs.0.left

  -- before it the client had none
  none_before : leases.hand_of e.client first.before.meta.leases ≡ []
  none_before =
      (call_has s is.run e.client is.asked (of_kind running.Copy first) first_stands).keys
      ∙ ap (λ (x : CopyView). (hand_of (running.Copy x)).keys) first_runs.0.same ∙ nothing_yet k k.at refl begins

  last_has : Has e.client call.last.before.meta call.last.before.locks (hand_of (running.Copy call.last.call))
  last_has = call_has s is.run e.client is.asked (of_kind running.Copy call.last) (last_stands running.Copy copy_step k is is.asked call)

  -- a broken key of the client isn't there behind the begin
  none_fresh : (lease : Lease) (place : ℕ) → lease.client ≡ e.client → lease.state ≡ Broken place → In lease first.after.meta.leases.keys → ⊥
  none_fresh lease place mine state within = by (of_all (λ (x : Lease). In x first.before.meta.leases.keys ⊎ (x.state ≡ Held)) first.after.meta.leases.keys lease first_new within)
    where
      by : In lease first.before.meta.leases.keys ⊎ (lease.state ≡ Held) → ⊥
      by (inl was) = none_of_none e.client first.before.meta.leases lease none_before mine was
      by (inr held) = (let both = sym state ∙ held in cc both)

  -- the begin is before the last step, if a broken key of the client is there
  begins_before : (lease : Lease) (place : ℕ) → lease.client ≡ e.client → lease.state ≡ Broken place → In lease call.last.before.meta.leases.keys → first.place < call.last.place
  begins_before lease place mine state within = by call.front call.last (since is k begins call).are call.run within
    where
      by : (front : List (CallStep CopyView)) (last : CallStep CopyView) → front ++ last ∷ [] ≡ first ∷ (since is k begins call).rest → IsRunOf copy_step (front ++ last ∷ []) (Some k) 0 → In lease last.before.meta.leases.keys → first.place < last.place
      by [] last are run there =
          (let same : last ≡ first = head_same last first [] (since is k begins call).rest are in
          absurd (none_of_none e.client first.before.meta.leases lease none_before mine (subst (λ (x : CallStep CopyView). In lease x.before.meta.leases.keys) same there)))
      by (x ∷ xs) last are run there =
          (let same : x ≡ first = head_same x first (xs ++ last ∷ []) (since is k begins call).rest are in
          subst (λ (y : CallStep CopyView). y.place < last.place) same (last_behind copy_step xs last (goes_on x.came) x.place run.1))

  -- behind the begin the run has the servers that it left
  first_state : (y : State) → e.first ≤ e.at - 1 → state_at is.before.script is.before.schedule p.doing.opened ≡ Some y → y.shared ≡ first.after
  first_state y low y_is =
      let opened = begin_place is k begins call in
      let begin_first : first.place ≡ e.first = call.begins first (since is k begins call).rest (since is k begins call).are in
      let there = later_state is p.doing.opened y (omega (arith, opened, low)) y_is in
      let same : y ≡ first_stands.new = some_same y first_stands.new (sym there ∙ ap (λ (n : ℕ). state_at s.script s.schedule n) (opened ∙ sym begin_first) ∙ first_stands.new_is) in
      ap (λ (x : State). x.shared) same ∙ sym first_stands.after_is

  -- a key that the copy has in hand at its last step, and that is broken by then, was broken on the copy's way
  pub key_broken : (key : KeyView) (place : ℕ) → In key (hand_of (running.Copy call.last.call)).keys → state_of is.before.shared.meta.leases key ≡ Broken place → IsBrokenAt (claimed is) key.file place
  key_broken key place there broken =
      let had : In key (leases.hand_of e.client call.last.before.meta.leases) = subst (λ (keys : List KeyView). In key keys) (sym last_has.keys) there in
      let w = in_hand (λ (lease : Lease). lease.client == e.client) call.last.before.meta.leases.keys key had in
      let shared : call.last.before ≡ is.before.shared = last_before running.Copy copy_step k is is.asked call in
      let here : In w.0 is.before.shared.meta.leases.keys = subst (λ (u : Servers). In w.0 u.meta.leases.keys) shared w.1 in
      let own : key.client ≡ e.client = of_all (λ (x : KeyView). x.client ≡ e.client) (hand_of (running.Copy call.last.call)).keys key last_has.own there in
      let mine : w.0.client ≡ e.client = ap (λ (x : KeyView). x.client) w.2 ∙ own in
      let state : w.0.state ≡ Broken place = state_there is.before.shared.meta.leases (sound_in s is.run is.before (before_run is)) key w.0 here w.2 ∙ broken in
      let long = before_long is k begins call in
      let opened = begin_place is k begins call in
      let begin_first : first.place ≡ e.first = call.begins first (since is k begins call).rest (since is k begins call).are in
      let before = begins_before w.0 place mine state w.1 in
      let last = call.place_is in
      let order : e.first ≤ e.at - 1 = omega (arith, before, begin_first, last) in
      subst (λ (n : ℕ). IsBrokenAt (claimed is) n place) (ap (λ (x : KeyView). x.file) w.2)
      (broken_on_its_way (claimed is) (before_run is) (let at = (point_within s e p is).0 in omega (arith, long, at)) (keeps_on_its_way is k begins call) w.0 mine place here state (omega (arith, opened, order, long)) (λ y y_is within. none_fresh w.0 place mine state (subst (λ (u : Servers). In w.0 u.meta.leases.keys) (first_state y order y_is) within)))
