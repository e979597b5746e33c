-- An extend by a victim of a run, from its first step to its point.
use Rattle.std.proofs.Common.{◌≡◌, ℕ, ◌+◌, ◌-◌, ◌<◌, ◌≤◌, List, [], ◌∷◌, ◌++◌, length, map, take, take_all, length-take-le, Option, None, Some, inl, inr, ◌⊎◌, refl, sym, ap, subst, ◌∙◌, arith, append-nil}
use Rattle.std.specs.Prelude.{Contains, slice_get}
use Rattle.std.specs.List.{flat_map}
use Rattle.flr_base.specs.declared.reply.Entry.{Entry}
use Rattle.flr_base.specs.declared.reply.Reply.{Reply}
use Rattle.flr_base.specs.declared.reply.Reply.TheVariants as reply
use Rattle.layout_lease.specs.Leases.{KeyView}
use Rattle.lfs_words.specs.declared.command.LfsCommand.TheVariants as lfs
use Rattle.mirror_select.proofs.Least.{In, from_contains}
use Rattle.mirror_select.proofs.Sound.{every_in, in_append}
use Rattle.script_values.specs.declared.command.Command.{Command}
use Rattle.script_values.specs.declared.command.Command.TheVariants as command
use Rattle.meta_server.specs.declared.answers.Begun.{Begun}
use Rattle.meta_server.specs.declared.answers.Begun.TheVariants as begun_as
use Rattle.meta_server.specs.declared.answers.CopyWhat.TheVariants.{Victim}
use Rattle.meta_server.specs.declared.answers.Side.{Side}
use Rattle.meta_server.specs.Beginning.{copy_begins}
use Rattle.meta_server.specs.Conditions.{IsCopyOf}
use Rattle.meta_server.specs.Files.{File, MetaView, file_named, file_of}
use Rattle.meta_server.specs.Outcomes.{Ending, Ends, Breaks, Gives, Holds, Refuses, Waits}
use Rattle.meta_server.specs.Outcomes as meta
use Rattle.meta_server.specs.Sound.{IsSound}
use Rattle.meta_laws.proofs.Copies.{there_named}
use Rattle.meta_laws.proofs.Opens.{one_file}
use Rattle.call_steps.specs.Runs.{CallStep, IsRun as IsRunOfCall, IsRunOf, Leaves, goes_on}
use Rattle.call_steps.specs.Servers.{Servers}
use Rattle.call_steps.specs.Steps.{Outcome}
use Rattle.resync_copy.specs.declared.phase.CopyAt.{CopyAt}
use Rattle.resync_copy.specs.Calls.{CopyView}
use Rattle.resync_copy.specs.Comparing.{comparing_of}
use Rattle.resync_copy.specs.Copies.{new_copy}
use Rattle.resync_copy.specs.Merges.{merge_fences_from, merge_on, merge_stage_at}
use Rattle.resync_copy.specs.Steps.{begins, copy_at, copy_step}
use Rattle.flr_steps.specs.declared.client.Running.TheVariants as running
use Rattle.flr_steps.specs.States.{IsRun, State, after, start, state_at}
use Rattle.flr_steps.specs.Traces as traces
use Rattle.flr_steps.specs.Traces.{Doing, Made, Past, made_by, trace_after}
use Rattle.flr_steps.proofs.Fronts.{each_run_keeps, fronts_are_runs}
use Rattle.flr_numbers.specs.Frames.{Leases}
use Rattle.flr_claims.specs.Causes.{IsCaused, IsOneBroken, TakesFileIn}
use Rattle.flr_claims.specs.Refusals.{refusal_for}
use Rattle.flr_claims.specs.Runs.{call_before}
use Rattle.flr_asked.specs.CallRuns.{FixesAnswer, StandsIn, done_in, made_in, of_kind, opened_in, place_if}
use Rattle.flr_honest.proofs.Grounds.{runs_ground}
use Rattle.flr_honest.specs.CallSteps.TypedCalls.{AllStandAs}
use Rattle.flr_honest.proofs.MergeCauses.Begins.{HasBegunMerge, has_begun, our_answered, our_named, our_new, our_valid, their_answered, their_named, their_new, their_valid}
use Rattle.flr_honest.proofs.CallSteps.Standing.{before_servers, call_of, from_one, new_ground, place_within}
use Rattle.flr_honest.proofs.MergeCauses.Ends.{answer_told}
use Rattle.flr_honest.proofs.MergeCauses.Going.{fences_know}
use Rattle.flr_honest.proofs.MergeCauses.Known.{AreAllSame, IsBegun, IsGone, IsSideFile, MergeKnows, Way}
use Rattle.flr_honest.proofs.MergeCauses.Lasting.{IsStepBehind, gone_stays, layout_stays, one_state}
use Rattle.flr_honest.proofs.MergeCauses.Refused.{BeginsBoth, begins_both, refused_so}
use Rattle.flr_honest.proofs.MergeCauses.Sites.{way_state}
use Rattle.flr_honest.proofs.MergeCauses.Walk.{AtEnd, calls_in, ends_later, nothing_more, walk}
use Rattle.flr_honest.proofs.MergeCauses.LastSteps.{calls_joined, came_last, in_front, in_last, last_targets, none_called}

module _ (s : State) (run : IsRun s) (e : Entry) (p : Past) (b : State) (before_is : state_at s.script s.schedule (e.at - 1) ≡ Some b) (name victim : List ℕ) where
  -- the command, and the call that it begins
  abbrev pub asked : Command
  asked = command.Lfs (lfs.ExtendBy name victim)

  abbrev pub copy : CopyView
  copy = new_copy e.client name (Victim victim)

  -- the state before the point is one of the run
  script : b.script ≡ s.script
  script = (each_run_keeps (start s.script) b (take (e.at - 1) s.schedule) before_is).script

  schedule : b.schedule ≡ take (e.at - 1) s.schedule
  schedule = (each_run_keeps (start s.script) b (take (e.at - 1) s.schedule) before_is).places

  run_before : IsRun b
  run_before = fronts_are_runs s b (e.at - 1) run before_is

  sound_before : IsSound b.shared.meta
  sound_before = (runs_ground b run_before).holds.servers.sound

  -- the step stands in the run
  abbrev Stands : CallStep CopyView → Type 0
  Stands x = StandsIn s.script s.schedule e.client asked (of_kind running.Copy x)

  -- the servers before the point
  end_before : (end : CallStep CopyView) → Stands end → end.place ≡ e.at → end.before ≡ b.shared
  end_before end st point = st.before_is ∙ ap (λ (u : State). u.shared) (one_state st.old b (state_at s.script s.schedule (end.place - 1)) st.old_is (ap (λ (n : ℕ). state_at s.script s.schedule (n - 1)) point ∙ before_is))

  -- ---- at once

  -- where the first step answers, it refuses
  pub refused_at_once : (end : CallStep CopyView) → Stands end → end.place ≡ e.at → IsRunOfCall copy_step copy (end ∷ []) → FixesAnswer end.came e.reply e.takes → p.doing ≡ done_in (map (of_kind running.Copy) (end ∷ [])) → IsCaused (call_before b e asked p) e.reply
  refused_at_once end st point steps fixes did =
      let told = refused_so e.client end.place end.before name victim e.reply e.takes (subst (λ (o : Outcome CopyView). FixesAnswer o e.reply e.takes) steps.0.came fixes) in
      inl (
        ap (λ (d : Doing). d.opened) did ∙ ap (λ (c : CopyView). place_if (traces.copy_begins c.at) end.place 0) steps.0.same ∙ point,
        ap (λ (u : Servers). refusal_for asked u) (sym (end_before end st point)) ∙ told.0,
        told.1,
      )

  -- ---- from its begin to its point

  module _ (first : CallStep CopyView) (rest : List (CallStep CopyView)) (end : CallStep CopyView) (steps : IsRunOfCall copy_step copy ((first ∷ rest) ++ end ∷ [])) (stand : AllStandAs running.Copy s.script s.schedule e.client asked ((first ∷ rest) ++ end ∷ [])) (begins_at : first.place ≡ e.first)
      (all : (place : ℕ) → e.first ≤ place → place ≤ e.at → slice_get s.schedule (place - 1) ≡ Some e.client → (x : CallStep CopyView) × Contains ((first ∷ rest) ++ end ∷ []) x × (x.place ≡ place)) (point : end.place ≡ e.at) (fixes : FixesAnswer end.came e.reply e.takes)
      (did : p.doing ≡ done_in (map (of_kind running.Copy) ((first ∷ rest) ++ end ∷ []))) where
    -- its way
    abbrev w : Way
    w = record { script = b.script; schedule = b.schedule; client = e.client; asked = asked; opened = first.place; at = e.at }

    -- the calls of targets that it made
    abbrev calls : List Made
    calls = calls_in rest

    -- where its first and its last step stand
    stand_first : Stands first
    stand_first = stand.0

    stand_end : Stands end
    stand_end = every_in Stands (rest ++ end ∷ []) end stand.1 (in_last rest end)

    end_within : end.place - 1 < length s.schedule
    end_within = place_within s.script s.schedule e.client asked (of_kind running.Copy end) stand_end

    end_positive : 0 < end.place
    end_positive = from_one s.script s.schedule e.client asked (of_kind running.Copy end) stand_end

    top : e.at - 1 + 1 ≡ e.at
    top = omega (arith, end_positive, point)

    first_earlier : first.place < e.at
    first_earlier = let behind = ends_later rest end (goes_on first.came) first.place steps.1 in omega (arith, behind, point)

    -- the server is sound before and behind the first step
    first_sound : IsSound first.before.meta
    first_sound = (before_servers s run e.client asked (of_kind running.Copy first) stand_first).sound

    new_sound : IsSound stand_first.new.shared.meta
    new_sound = (new_ground s run e.client asked (of_kind running.Copy first) stand_first).holds.servers.sound

    -- the state behind the first step
    behind_first : state_at b.script b.schedule first.place ≡ Some stand_first.new
    behind_first = way_state s run w (e.at - 1) script schedule first.place stand_first.new (let early = first_earlier in omega (arith, early)) stand_first.new_is

    -- the two names differ
    differ : name ≡ victim → ⊥
    differ = subst (λ (c : CopyView). IsCopyOf c.name c.what) steps.0.same (call_of s run e.client asked (of_kind running.Copy first) stand_first).1

    -- the two files of the begin
    module _ (ours theirs : Side) (new : MetaView) (is : copy_begins e.client name (Victim victim) first.before.meta ≡ Gives (begun_as.Merge ours theirs) new) (new_is : stand_first.new.shared.meta ≡ new) where
      was : HasBegunMerge e.client name victim first.before.meta ours theirs new
      was = has_begun e.client name victim first.before.meta ours theirs new is

      sound : IsSound new
      sound = subst IsSound new_is new_sound

      -- the two files as they are behind it
      abbrev our_file : File
      our_file = our_new e.client name victim first.before.meta first_sound differ ours theirs new sound was

      abbrev their_file : File
      their_file = their_new e.client name victim first.before.meta first_sound differ ours theirs new sound was

      -- the extend began on them
      began : (f : File) × (v : File) × IsBegun w (comparing_of ours theirs) f v
      began = (
        our_file,
        their_file,
        record {
          state = stand_first.new;
          behind = behind_first;
          file = subst (λ (m : MetaView). file_named name m.files ≡ Some our_file) (sym new_is) (our_named e.client name victim first.before.meta first_sound differ ours theirs new sound was);
          victim = subst (λ (m : MetaView). file_named victim m.files ≡ Some their_file) (sym new_is) (their_named e.client name victim first.before.meta first_sound differ ours theirs new sound was);
          later = first_earlier;
          ours = subst (λ (x : Side). IsSideFile w x our_file) was.ours_is (record {
            key = refl;
            file = refl;
            layout = refl;
            client = refl;
            valid = our_valid e.client name victim first.before.meta first_sound differ ours theirs new sound was;
            answered = our_answered e.client name victim first.before.meta first_sound differ ours theirs new sound was;
          });
          theirs = subst (λ (x : Side). IsSideFile w x their_file) was.theirs_is (record {
            key = refl;
            file = refl;
            layout = refl;
            client = refl;
            valid = their_valid e.client name victim first.before.meta first_sound differ ours theirs new sound was;
            answered = their_answered e.client name victim first.before.meta first_sound differ ours theirs new sound was;
          });
        },
      )

      fencing : MergeKnows w first.place [] (merge_fences_from (comparing_of ours theirs) 0)
      fencing = fences_know w first.place [] (comparing_of ours theirs) 0 (record { f = began.0; v = began.1; begun = began.2; fenced = λ i lt within. absurd (omega (arith, lt)) })

      walked : IsRunOf copy_step (rest ++ end ∷ []) (Some (merge_on copy (merge_fences_from (comparing_of ours theirs) 0))) first.place → AtEnd w [] rest end
      walked more = walk s run w (e.at - 1) script schedule top rest end (merge_on copy (merge_fences_from (comparing_of ours theirs) 0)) first.place [] fencing tt (omega arith) more stand.1 point

    -- it begins, and comes to its last step
    came_first : first.came ≡ begins copy first.before (copy_begins e.client name (Victim victim) first.before.meta)
    came_first = steps.0.came

    -- the first step goes on only where both files are begun
    begins_by : (o : meta.Outcome Begun) → copy_begins e.client name (Victim victim) first.before.meta ≡ o → ((refusal : Option Reply) × BeginsBoth refusal o) → IsRunOf copy_step (rest ++ end ∷ []) (goes_on (begins copy first.before o)) first.place → Leaves (begins copy first.before o) first.after
        → AtEnd w [] rest end × (first.after.targets ≡ first.before.targets)
    begins_by (Gives begun_as.Nothing new) is both more left = absurd both.1
    begins_by (Gives (begun_as.Copy side ids) new) is both more left = absurd both.1
    begins_by (Gives (begun_as.Merge ours theirs) new) is both more left =
        (walked ours theirs new is (ap (λ (u : Servers). u.meta) (sym stand_first.after_is ∙ left)) more, ap (λ (u : Servers). u.targets) left)
    begins_by (Refuses refusal) is both more left = absurd (nothing_more rest end first.place more)
    begins_by (Waits holder) is both more left = absurd left

    -- what is known at the last step
    ended : AtEnd w [] rest end × (first.after.targets ≡ first.before.targets)
    ended =
        begins_by (copy_begins e.client name (Victim victim) first.before.meta) refl (_, begins_both e.client first.before.meta name victim)
        (subst (λ (o : Outcome CopyView). IsRunOf copy_step (rest ++ end ∷ []) (goes_on o) first.place) came_first steps.1) (subst (λ (o : Outcome CopyView). Leaves o first.after) came_first steps.0.left)

    r : AtEnd w [] rest end
    r = ended.0

    -- what the last step comes to
    came_end : end.came ≡ merge_stage_at r.next end.call end.before
    came_end = (came_last (first ∷ rest) end (Some copy) 0 steps).0 ∙ ap (λ (a : CopyAt). copy_at a end.call end.before) r.is

    -- ---- what it did

    -- the last step calls no target
    end_targets : end.after.targets ≡ end.before.targets
    end_targets =
        last_targets end.call end.before end.after e.reply e.takes r.next (subst (λ (o : Outcome CopyView). FixesAnswer o e.reply e.takes) came_end fixes)
        (subst (λ (o : Outcome CopyView). Leaves o end.after) came_end (came_last (first ∷ rest) end (Some copy) 0 steps).1)

    -- so the calls are those between
    made_is : flat_map made_in (map (of_kind running.Copy) ((first ∷ rest) ++ end ∷ [])) ≡ calls
    made_is =
        ap (λ (ms : List Made). ms ++ calls_in (rest ++ end ∷ [])) (none_called first.place first.before.targets first.after.targets ended.1)
        ∙ calls_joined rest (end ∷ []) ∙ ap (λ (ms : List Made). calls_in rest ++ (ms ++ [])) (none_called end.place end.before.targets end.after.targets end_targets) ∙ append-nil (calls_in rest)

    -- and the begin is the first step
    opened_is : opened_in 0 (map (of_kind running.Copy) ((first ∷ rest) ++ end ∷ [])) ≡ first.place
    opened_is = ap (λ (c : CopyView). opened_in (place_if (traces.copy_begins c.at) first.place 0) (map (of_kind running.Copy) (rest ++ end ∷ []))) steps.0.same ∙ r.opened first.place

    -- what it did
    abbrev doing : Doing
    doing = record { opened = first.place; made = calls }

    doing_is : p.doing ≡ doing
    doing_is = did ∙ (λ j. record { opened = opened_is j; made = made_is j })

    -- ---- what stays

    -- so many steps come before the point
    long : length b.schedule ≡ e.at - 1
    long = ap (λ (cs : List ℕ). length cs) schedule ∙ length-take-le (e.at - 1) s.schedule (let within = end_within in omega (arith, within, point))

    -- a file that was gone where it settled is gone
    gone : (number : ℕ) → IsGone w r.last number → file_of number b.shared.meta.files ≡ None
    gone number h =
        let past = h.past in
        let later = r.later in
        let size = long in
        gone_stays b run_before number (h.place - 1) (length b.schedule) h.settled b h.before (ap (λ (cs : List ℕ). after (start b.script) cs) (take_all (length b.schedule) b.schedule (omega arith)) ∙ run_before.run) (omega (arith, past, later, size, point)) (omega arith) h.given h.none

    -- the steps between leave the metadata server as it is
    own_still : (place : ℕ) (u v : State) → first.place ≤ place → place < e.at - 1 → (is : IsStepBehind s place u v) → is.client ≡ e.client → v.shared.meta ≡ u.shared.meta
    own_still place u v low high is own =
        let back : place + 1 - 1 ≡ place = omega arith in
        let found = all (place + 1) (omega (arith, begins_at, low)) (omega (arith, high)) (ap (λ (k : ℕ). slice_get s.schedule k) back ∙ is.own ∙ ap (λ (c : ℕ). Some c) own) in
        by found.0 found.2 (from_contains ((first ∷ rest) ++ end ∷ []) found.0 found.1)
      where
        between : (x : CallStep CopyView) → x.place ≡ place + 1 → In x rest → v.shared.meta ≡ u.shared.meta
        between x at i =
            let st : Stands x = every_in Stands (rest ++ end ∷ []) x stand.1 (in_front rest (end ∷ []) x i) in
            let back : x.place - 1 ≡ place = omega (arith, at) in
            let old : st.old ≡ u = one_state st.old u (state_at s.script s.schedule place) (ap (λ (n : ℕ). state_at s.script s.schedule n) (sym back) ∙ st.old_is) is.before in
            let new : st.new ≡ v = one_state st.new v (state_at s.script s.schedule (place + 1)) (ap (λ (n : ℕ). state_at s.script s.schedule n) (sym at) ∙ st.new_is) is.behind in
            ap (λ (x : State). x.shared.meta) (sym new) ∙ ap (λ (o : Servers). o.meta) (sym st.after_is) ∙ every_in (λ (y : CallStep CopyView). y.after.meta ≡ y.before.meta) rest x r.still i ∙ ap (λ (o : Servers). o.meta) st.before_is ∙ ap (λ (x : State). x.shared.meta) old

        later : (x : CallStep CopyView) → x.place ≡ place + 1 → In x rest ⊎ In x (end ∷ []) → v.shared.meta ≡ u.shared.meta
        later x at (inl i) = between x at i
        later x at (inr (inl same)) = let one : end.place ≡ x.place = ap (λ (y : CallStep CopyView). y.place) same in absurd (omega (arith, at, one, point, high))
        later x at (inr (inr none)) = absurd none

        by : (x : CallStep CopyView) → x.place ≡ place + 1 → In x ((first ∷ rest) ++ end ∷ []) → v.shared.meta ≡ u.shared.meta
        by x at (inl same) = let one : first.place ≡ x.place = ap (λ (y : CallStep CopyView). y.place) same in absurd (omega (arith, at, one, low))
        by x at (inr more) = later x at (in_append x rest (end ∷ []) more)

    -- while its lease stands a file keeps the layout that it had behind the begin
    kept_layout : (key : KeyView) (f : File) (n : List ℕ) → file_named n stand_first.new.shared.meta.files ≡ Some f → key.file ≡ f.number → key.client ≡ e.client → Leases b.shared.meta key f.layout
    kept_layout key f n named file client =
        let here : file_of f.number stand_first.new.shared.meta.files ≡ Some f = there_named stand_first.new.shared.meta new_sound n f named in
        let within = end_within in
        let early = first_earlier in
        layout_stays s run key f.layout first.place (e.at - 1) stand_first.new b stand_first.new_is before_is (omega (arith, early)) (omega (arith, within, point))
        (λ place u v low high is own. own_still place u v low high is (own ∙ client))
        (λ held g found. ap (λ (x : File). x.layout) (one_file (file_of key.file stand_first.new.shared.meta.files) g f found (ap (λ (k : ℕ). file_of k stand_first.new.shared.meta.files) file ∙ here)))

    -- so it is with both files
    laid : (ours theirs : KeyView) (h : AreAllSame w r.last calls ours theirs) → Leases b.shared.meta ours h.f.layout × Leases b.shared.meta theirs h.v.layout
    laid ours theirs h =
        let begun = h.settled.begun in
        let one : begun.state ≡ stand_first.new = one_state begun.state stand_first.new (state_at b.script b.schedule first.place) begun.behind behind_first in (
          kept_layout ours h.f name (subst (λ (u : State). file_named name u.shared.meta.files ≡ Some h.f) one begun.file) (ap (λ (k : KeyView). k.file) (sym h.keys.0) ∙ begun.ours.key) (ap (λ (k : KeyView). k.client) (sym h.keys.0) ∙ begun.ours.client),
          kept_layout theirs h.v victim (subst (λ (u : State). file_named victim u.shared.meta.files ≡ Some h.v) one begun.victim) (ap (λ (k : KeyView). k.file) (sym h.keys.1) ∙ begun.theirs.key) (ap (λ (k : KeyView). k.client) (sym h.keys.1) ∙ begun.theirs.client),
        )

    -- ---- its answer

    -- what it did, as its answer is judged by it
    abbrev told : Past
    told = record { call = p.call; doing = doing }

    -- so its answer has its cause
    pub answers_so : ((place : ℕ) → e.reply ≡ reply.Broken place → IsOneBroken (call_before b e asked p) place) → IsCaused (call_before b e asked p) e.reply
    answers_so broken =
        inr (subst (λ (d : Doing). TakesFileIn (call_before b e asked (record { call = p.call; doing = d })) e.reply) (sym doing_is)
        (answer_told b e asked told sound_before end.call r.last (λ place same. subst (λ (d : Doing). IsOneBroken (call_before b e asked (record { call = p.call; doing = d })) place) doing_is (broken place same)) gone laid r.next r.knows
        (subst (λ (u : Servers). FixesAnswer (merge_stage_at r.next end.call u) e.reply e.takes) (end_before end stand_end point) (subst (λ (o : Outcome CopyView). FixesAnswer o e.reply e.takes) came_end fixes))))
