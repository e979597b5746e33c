-- In every run what was stale becomes fresh only by the end of a copy that cleared it.
use Rattle.std.proofs.Common.{◌≡◌, ℕ, Bool, true, false, true≢false, cond, nat_eq, Option, Some, None, List, [], ◌∷◌, map, ◌⊎◌, inl, inr, refl, sym, ap, subst, ◌∙◌}
use Rattle.std.specs.Prelude.{Contains}
use Rattle.std.proofs.lemmas.Bool.{eqb-true}
use Rattle.flr_base.specs.declared.reply.Reply.TheVariants as reply
use Rattle.composite_layout.specs.declared.component.Component.{Component}
use Rattle.composite_layout.specs.Layouts.{Composite, IsValid}
use Rattle.layout_lease.specs.declared.lease.KeyState.{KeyState}
use Rattle.layout_lease.specs.declared.lease.KeyState.TheVariants.{Held, Broken}
use Rattle.layout_lease.specs.Leases.{KeyView, state_of}
use Rattle.layout_lease.specs.Shares.{lowest_but}
use Rattle.layout_state.specs.Marking.{fresh_if_named, is_named, with_stale}
use Rattle.mirror_select.proofs.Least.{In, from_contains, some_in, to_contains}
use Rattle.meta_server.specs.declared.answers.CopyWhat.{CopyWhat}
use Rattle.meta_server.specs.declared.answers.CopyWhat.TheVariants.{Resync, Extend, Victim}
use Rattle.meta_server.specs.Ending.{copy_ends, copy_ends_alone, copy_ends_by, copy_ends_file}
use Rattle.meta_server.specs.Files.{File, MetaView, file_of}
use Rattle.meta_server.specs.Layouts.{finished}
use Rattle.meta_server.specs.Outcomes.{Breaks, Ending, Ends, Holds}
use Rattle.meta_laws.proofs.Opens.{one_file}
use Rattle.call_steps.specs.Steps.{Outcome, widen}
use Rattle.resync_copy.specs.declared.phase.CopyAt.{CopyAt}
use Rattle.resync_copy.specs.Copies.{ends_copy}
use Rattle.resync_copy.specs.Steps.{copy_at}
use Rattle.flr_steps.specs.declared.client.Running.{Running}
use Rattle.flr_steps.specs.declared.client.Running.TheVariants as running
use Rattle.flr_steps.specs.Clients.{call_now, entry, first_now}
use Rattle.flr_steps.specs.Commands.{step_of}
use Rattle.flr_steps.specs.States.{IsRun, State, place_in}
use Rattle.flr_steps.specs.Steps.{LeavesState, StepIs}
use Rattle.flr_runs.proofs.Runs as runs
use Rattle.flr_claims.specs.Asked.{lfs_name, name_of}
use Rattle.flr_claims.specs.Steps.{IsClearedBy, StaleGoesOnlySo}
use Rattle.flr_bytes.proofs.Alone.{valid_file}
use Rattle.flr_honest.proofs.Legal.Asked.{lfs_for}
use Rattle.flr_honest.specs.Changes.Laws.{RunsClearByCopies}
use Rattle.flr_honest.proofs.Changes.Becoming.{IsFinished}
use Rattle.flr_honest.proofs.Changes.Files.{file_becomes, sound}
use Rattle.flr_honest.proofs.Changes.Staying.{StaysStale, same_component, stale_stays}
use Rattle.flr_honest.proofs.Changes.Steps.{each_step}

-- ---- which components the end of a copy clears

-- what is in an image
image : (f : Component → Component) (cs : List Component) (d : Component) → In d (map f cs) → (c : Component) × In c cs × (f c ≡ d)
image f [] d i = absurd i
image f (c ∷ cs) d (inl is) = (c, inl refl, is)
image f (c ∷ cs) d (inr more) = let w = image f cs d more in (w.0, inr w.1, w.2)

-- a component is named by its id
named_there : (ids : List ℕ) (c : Component) → is_named ids c ≡ true → Contains ids c.id
named_there ids c e = let w = some_in (nat_eq c.id) ids e in to_contains ids c.id (subst (λ (n : ℕ). In n ids) (sym (eqb-true c.id w.0 w.2)) w.1)

-- the id of a component stays
fresh_id : (ids : List ℕ) (c : Component) → (fresh_if_named ids c).id ≡ c.id
fresh_id ids c = at (is_named ids c)
  where
    at : (b : Bool) → (cond b (with_stale false c) c).id ≡ c.id
    at true = refl
    at false = refl

-- one that was stale and isn't any more is among those that were cleared
cleared_named : (ids : List ℕ) (l : Composite) → IsValid l → (a b : Component) → In a l.components → In b (finished ids l).components → b.id ≡ a.id → a.flags.stale ≡ true → b.flags.stale ≡ false → Contains ids a.id
cleared_named ids l valid a b i j same stale fresh =
    let w = image (fresh_if_named ids) l.components b j in
    let one : w.0 ≡ a = same_component l valid w.0 a w.1 i (sym (fresh_id ids w.0) ∙ ap (λ (x : Component). x.id) w.2 ∙ same) in
    at (is_named ids a) refl (subst (λ (x : Component). fresh_if_named ids x ≡ b) one w.2)
  where
    at : (t : Bool) → is_named ids a ≡ t → cond t (with_stale false a) a ≡ b → Contains ids a.id
    at true is e = named_there ids a is
    at false is e = absurd (true≢false (sym stale ∙ ap (λ (x : Component). x.flags.stale) e ∙ fresh))

-- ---- the end of a copy

-- a copy that breaks leaves the files
abbrev LeavesFiles : MetaView → Ending (Unit {0}) → Type 0
LeavesFiles m (Ends done after) = Unit {0}
LeavesFiles m (Breaks step after) = after.files ≡ m.files
LeavesFiles m (Holds holder) = Unit {0}

-- whatever state the lease is in
ends_leave : (key : KeyView) (cleared : List ℕ) (m : MetaView) → LeavesFiles m (copy_ends key cleared m)
ends_leave key cleared m = by (state_of m.leases key)
  where
    alone : (f : File) (o : Option ℕ) → LeavesFiles m (copy_ends_alone key cleared m f o)
    alone f (Some holder) = tt
    alone f None = tt

    on : (o : Option File) → LeavesFiles m (copy_ends_file key cleared m o)
    on None = refl
    on (Some f) = alone f (lowest_but key.client f.lock)

    by : (k : KeyState) → LeavesFiles m (copy_ends_by key cleared m k)
    by (Broken step) = refl
    by Held = on (file_of key.file m.files)

-- the name that a copy's command is about
copy_name : (name : List ℕ) (what : CopyWhat) → lfs_name (lfs_for name what) ≡ name
copy_name name (Resync only) = refl
copy_name name (Extend mirrors) = refl
copy_name name (Victim victim) = refl

module _ (s t : State) (c : ℕ) (run : IsRun s) (later : IsRun t) (step : StepIs s c t) where
  -- the metadata server before the step
  abbrev m : MetaView
  m = s.shared.meta

  -- the call of the step
  abbrev call : Running
  call = call_now c step.client.call step.asked

  module _ (number : ℕ) (f g : File) (a b : Component) (here : file_of number m.files ≡ Some f) (there : file_of number t.shared.meta.files ≡ Some g) (i : In a f.layout.components) (j : In b g.layout.components)
      (same : b.id ≡ a.id) (stale : a.flags.stale ≡ true) (fresh : b.flags.stale ≡ false) where
    -- the layout of the file is valid
    valid : IsValid f.layout
    valid = valid_file m (sound s t c run step) number f here

    -- what the step came to
    came : (w : IsFinished m step.asked c call f g) → step.came ≡ widen running.Copy (ends_copy w.ends.copy s.shared w.cleared w.ends.left (copy_ends w.key w.cleared m))
    came w = sym step.made ∙ ap (λ (x : Running). step_of x c step.asked (place_in s) s.shared) w.ends.copies ∙ ap (λ (x : CopyAt). widen running.Copy (copy_at x w.ends.copy s.shared)) w.ends.at

    -- the answer is that of the copy, by what it came to
    answered : (w : IsFinished m step.asked c call f g) (o : Ending (Unit {0})) → LeavesFiles m o → LeavesState s c step.client (first_now step.client.call (place_in s) step.client.first) (widen running.Copy (ends_copy w.ends.copy s.shared w.cleared w.ends.left o)) t
        → IsClearedBy s c t step f a.id
    answered w (Ends done after) files left = record {
      about = ap name_of (sym w.ends.asks) ∙ ap (λ (n : List ℕ). Some n) (copy_name w.ends.copy.name w.ends.copy.what ∙ sym w.named);
      entry = entry c step.client (first_now step.client.call (place_in s) step.client.first) (place_in s) (place_in s) (reply.Copied w.cleared w.ends.left) [];
      answered = ap (λ (x : State). x.entries) left;
      cleared = w.cleared;
      left = w.ends.left;
      copied = refl;
      there = cleared_named w.cleared f.layout valid a b i (subst (λ (l : Composite). In b l.components) w.layout j) same stale fresh;
    }
    answered w (Breaks broken after) files left =
        let kept : t.shared.meta.files ≡ m.files = ap (λ (x : State). x.shared.meta.files) left ∙ files in
        let one : g ≡ f = one_file (file_of number m.files) g f (subst (λ (fs : List File). file_of number fs ≡ Some g) kept there) here in
        let is : b ≡ a = same_component f.layout valid b a (subst (λ (x : File). In b x.layout.components) one j) i same in
        absurd (true≢false (sym stale ∙ ap (λ (x : Component). x.flags.stale) (sym is) ∙ fresh))
    answered w (Holds holder) files left = absurd left

    -- stale stayed, or a copy ended
    by : StaysStale f.layout.components g.layout.components ⊎ IsFinished m step.asked c call f g → IsClearedBy s c t step f a.id
    by (inl stays) =
        let still : b.flags.stale ≡ true = stale_stays f.layout g.layout valid (valid_file t.shared.meta (runs.all_hold t later).servers.sound number g there) stays a b i j same stale in
        absurd (true≢false (sym still ∙ fresh))
    by (inr w) = answered w (copy_ends w.key w.cleared m) (ends_leave w.key w.cleared m)
        (subst (λ (o : Outcome Running). LeavesState s c step.client (first_now step.client.call (place_in s) step.client.first) o t) (came w) step.left)

    -- so the component was cleared
    clears : IsClearedBy s c t step f a.id
    clears = by (file_becomes s t c run step number f g here there).stale

  -- so it is of each component of each file
  stale_goes : StaleGoesOnlySo s c t step
  stale_goes number f g a b here there listed found same stale fresh = clears number f g a b here there (from_contains f.layout.components a listed) (from_contains g.layout.components b found) same stale fresh

pub runs_clear_by_copies : RunsClearByCopies
runs_clear_by_copies s run = each_step StaleGoesOnlySo stale_goes s run
