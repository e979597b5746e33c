-- What each step of a truncate has done for its tails.
use Rattle.std.proofs.Common.{◌≡◌, ℕ, zero, suc, ◌+◌, ◌<◌, ◌≤◌, Bool, true, false, cond, ◌&&◌, nat_eq, nat_lt, Option, Some, None, List, [], ◌∷◌, ◌++◌, length, map, refl, sym, ap, subst, ◌∙◌, arith}
use Rattle.std.specs.Prelude.{slice_get, slice_index_or, unwrap_or}
use Rattle.std.specs.List.{AllByRecursion}
use Rattle.std.proofs.lemmas.Bool.{eq-eqb}
use Rattle.std.proofs.lemmas.Bool.Decides.{nat_tests}
use Rattle.std.proofs.lemmas.List.{length-map}
use Rattle.flr_base.specs.declared.reply.ObjectId.{ObjectId}
use Rattle.flr_base.specs.declared.reply.Range.{Range}
use Rattle.mirror_select.specs.declared.types.Tail.{Tail}
use Rattle.mirror_select.specs.Tails.{StripeObject, tail_in, tail_stripes}
use Rattle.object_target.specs.declared.call.CallAnswer.{CallAnswer}
use Rattle.object_target.specs.declared.call.CallAnswer.TheVariants as answer
use Rattle.object_target.specs.declared.call.CallEntry.{CallEntry}
use Rattle.object_target.specs.declared.call.CallKind.TheVariants as kind
use Rattle.object_target.specs.Calls.{after_punch, punch_answer}
use Rattle.object_target.specs.TargetState.{bytes_at, version_at}
use Rattle.meta_server.specs.declared.answers.Opened.{Opened}
use Rattle.meta_server.specs.Closing.{holds, is_there, last_eviction}
use Rattle.meta_server.specs.Files.{MetaView}
use Rattle.meta_server.specs.Opening.{cut_opens}
use Rattle.meta_server.specs.Outcomes.{Gives, Refuses, Waits}
use Rattle.meta_server.specs.Outcomes as meta
use Rattle.script_values.specs.declared.command.Command.{Command}
use Rattle.script_values.specs.declared.command.Command.TheVariants as command
use Rattle.script_values.specs.Scripts.{ScriptView}
use Rattle.call_steps.specs.Servers.{AreThere, Servers, next_call_on}
use Rattle.call_steps.specs.Steps.{Outcome, Going, Fixed, Ended, Answered, Blocked}
use Rattle.client_write.specs.declared.phase.CutAt.{CutAt}
use Rattle.client_write.specs.declared.phase.CutAt.TheVariants as cut
use Rattle.client_write.specs.declared.phase.Sent.{Sent}
use Rattle.client_write.specs.declared.phase.Sent.TheVariants as sent
use Rattle.client_write.specs.Calls.{TruncateView}
use Rattle.client_write.specs.CutFitting.{HasTails, IsSoundCutAt}
use Rattle.client_write.specs.Parts.{came_of}
use Rattle.client_write.specs.Truncates.{after_punches, commits_cut, first_blocker, locks_for, locks_tails, opens_cut, tail_at, tail_punched, target_of_tail, truncate_at}
use Rattle.client_write.specs.Views.{CuttingView}
use Rattle.client_write.proofs.Cuttable.{tail_there}
use Rattle.flr_numbers.specs.Calls.{cut_hand}
use Rattle.flr_steps.specs.Traces.{Doing, Made, made_by, made_since_open}
use Rattle.flr_steps.specs.Traces as traces
use Rattle.flr_asked.specs.CallRuns.{place_if}
use Rattle.flr_pieces.specs.Sentences.{IsLostCut}
use Rattle.flr_sole.proofs.Making.{made_none, made_one}
use Rattle.flr_sole.proofs.Sending.{with_made}
use Rattle.flr_work.specs.Paying.{AreListed}
use Rattle.flr_claims.specs.Failures.{IsListedFailure, is_failed}
use Rattle.flr_claims.specs.Sending.{OfTruncate, Part}
use Rattle.flr_claims.specs.Writing.{AreCallsOf, IsCallOf, parts_of}
use Rattle.flr_honest.specs.WriteCauses.Stages.{CameTo, EndsFailed, EndsOld, HasDone, IsLatestEviction, IsOpenedAt, SentSoFar, cut_stage}
use Rattle.flr_honest.proofs.WriteCauses.Calling.{none_left, one_fails, one_goes, one_old}
use Rattle.flr_honest.proofs.WriteCauses.Failing.{failed_listed}
use Rattle.flr_honest.proofs.WriteCauses.Parts.{none_since, nothing_more}

-- the stripe of a tail, whose object and offset the tail has
record IsTailOf (size : ℕ) (stripes : List StripeObject) (place : ℕ) (tail : Tail) : Type 0 where
  pub stripe : StripeObject
  pub part : slice_get (map (OfTruncate size) stripes) place ≡ Some (OfTruncate size stripe)
  pub is : tail ≡ tail_in size stripe

stripe_at : (size : ℕ) (stripes : List StripeObject) (place : ℕ) (d : Tail) → place < length stripes
    → IsTailOf size stripes place (slice_index_or (map (tail_in size) stripes) place d)
stripe_at size [] place d h = absurd (omega (arith, h))
stripe_at size (s ∷ ss) zero d h = record { stripe = s; part = refl; is = refl }
stripe_at size (s ∷ ss) (suc place) d h = let r = stripe_at size ss place d (omega (arith, h)) in record { stripe = r.stripe; part = r.part; is = r.is }

module _ (script : ScriptView) (schedule : List ℕ) (c first : ℕ) (name : List ℕ) (size : ℕ) where
  abbrev asked : Command
  asked = command.Truncate name size

  -- the truncate that the command is, with this to do next
  abbrev pub cut_so : CutAt → TruncateView
  cut_so a = record { client = c; name = name; size = size; at = a }

  -- the eviction that took the cookie of the open file
  abbrev pub IsTaken : ℕ → ℕ → MetaView → Type 0
  IsTaken opened place m = (step : ℕ) × (last_eviction c m ≡ Some step) × IsLatestEviction script schedule c first asked opened place step

  -- what a step at this place finds, by what the call has done before
  pub record Finds (place : ℕ) (s : Servers) (d : Doing) (a : CutAt) : Type 0 where
    pub behind : d.opened < place
    pub past : AllByRecursion (λ (m : Made). m.place ≤ place) d.made
    pub listed : AreListed script.fails s.targets
    pub sound : IsSoundCutAt a size
    pub there : (o : Opened) → (cut_hand a).opened ≡ Some o → AreThere s.targets o.layout.components
    pub lost : IsLostCut s a
    pub taken : (o : Opened) → (cut_hand a).opened ≡ Some o → holds o.file o.cookie s.meta ≡ false → IsTaken d.opened place s.meta
    pub opens : a ≡ cut.Open → (o : Opened) (after : MetaView) → cut_opens c name size place s.meta ≡ Gives o after → IsOpenedAt script schedule c first asked place o

  module _ (place : ℕ) (s : Servers) (d : Doing) where
    -- what the call has done once the step left these servers
    abbrev pub done : Bool → Servers → Doing
    done opens after = record { opened = place_if opens place d.opened; made = d.made ++ made_by place s.targets after.targets }

    abbrev DoneAt : Doing → CutAt → Type 0
    DoneAt e a = HasDone script schedule c first asked e (cut_stage a)

    -- the truncate that goes on is the same, and has done what its stage says
    abbrev pub OnCut : Bool → Outcome TruncateView → Type 0
    OnCut opens (Going next after) = (next ≡ cut_so next.at) × DoneAt (done opens after) next.at
    OnCut opens (Fixed next reply takes after) = (next ≡ cut_so next.at) × DoneAt (done opens after) next.at
    OnCut opens (Ended after) = Unit {0}
    OnCut opens (Answered reply takes after) = Unit {0}
    OnCut opens (Blocked holder) = Unit {0}

    -- a step that calls no target adds nothing
    quiet : (opens : Bool) (after : Servers) → after.targets ≡ s.targets
        → made_since_open (done opens after) ≡ made_since_open (record { opened = place_if opens place d.opened; made = d.made })
    quiet opens after same =
        let none : made_by place s.targets after.targets ≡ [] = ap (made_by place s.targets) same ∙ made_none place s.targets in
        ap (λ (ms : List Made). made_since_open (record { opened = place_if opens place d.opened; made = d.made ++ ms })) none ∙ nothing_more (record { opened = place_if opens place d.opened; made = d.made })

    -- ---- open

    opened : (a : CutAt) → Finds place s d a → a ≡ cut.Open → (o : meta.Outcome Opened) → cut_opens c name size place s.meta ≡ o → OnCut true (opens_cut (cut_so a) s o)
    opened a f is (Gives o after) e = (refl, (f.opens is o after e, quiet true (record s { meta = after }) refl ∙ none_since place d.made f.past))
    opened a f is (Refuses reply) e = tt
    opened a f is (Waits holder) e = tt

    -- ---- the parts

    abbrev parts : CuttingView → List Part
    parts x = parts_of asked x.opened.layout

    many : (x : CuttingView) → HasTails size x → length x.tails ≡ length (parts x)
    many x has = ap (λ (ts : List Tail). length ts) has.are ∙ length-map (tail_stripes x.opened.layout size) (tail_in size) ∙ sym (length-map (tail_stripes x.opened.layout size) (OfTruncate size))

    -- ---- the locks

    locks : (x : CuttingView) → HasTails size x → IsOpenedAt script schedule c first asked d.opened x.opened → made_since_open d ≡ []
        → (o : Option (ℕ × Range)) → OnCut false (locks_tails (cut_so (cut.Lock x)) s x o)
    locks x has at none (Some told) = tt
    locks x has at none None = (refl, by (nat_lt 0 (length x.tails)) refl)
      where
        nothing : made_since_open (done false (record s { locks = s.locks ++ locks_for (cut_so (cut.Lock x)) x })) ≡ []
        nothing = quiet false (record s { locks = s.locks ++ locks_for (cut_so (cut.Lock x)) x }) refl ∙ none

        no_parts : nat_lt 0 (length x.tails) ≡ false → 0 ≡ length (parts x)
        no_parts e = let same = many x has in grind (arith, nat_tests)

        by : (b : Bool) → nat_lt 0 (length x.tails) ≡ b
            → DoneAt (done false (record s { locks = s.locks ++ locks_for (cut_so (cut.Lock x)) x })) (cond b (cut.Punch x 0) (cut.Commit x sent.All))
        by true e = (at, subst (SentSoFar script schedule c first asked x.opened.layout.generation (parts x) 0) (sym nothing) (refl, tt, tt))
        by false e = (at, subst (λ (ms : List Made). AreCallsOf x.opened.layout.generation (parts x) ms × CameTo script schedule c first asked d.opened (length (parts x)) sent.All ms) (sym nothing) (tt, (no_parts e, tt)))

    -- ---- a punch

    module _ (x : CuttingView) (next : ℕ) (f : Finds place s d (cut.Punch x next)) (at : IsOpenedAt script schedule c first asked d.opened x.opened)
        (so_far : SentSoFar script schedule c first asked x.opened.layout.generation (parts x) next (made_since_open d)) where
      abbrev t : TruncateView
      t = cut_so (cut.Punch x next)

      abbrev tail : Tail
      tail = tail_at x.tails next

      abbrev o : ObjectId
      o = tail.object

      abbrev g : ℕ
      g = x.opened.layout.generation

      abbrev entry : CallEntry
      entry = record { kind = kind.Punch; object = o.number; offset = tail.offset; length = 0; version = g; answer = punch_answer (target_of_tail s tail) o.number g }

      abbrev m : Made
      m = record { place = place; target = o.target; call = length (target_of_tail s tail).calls + 1; entry = entry; kept = version_at (target_of_tail s tail) o.number; bytes = bytes_at (target_of_tail s tail) o.number }

      abbrev left : Servers
      left = tail_punched s x tail

      within : next < length x.tails
      within = f.sound.1

      there : o.target < length s.targets
      there = tail_there size x next s.targets f.sound.0 f.sound.1 (f.there x.opened refl)

      made : made_by place s.targets left.targets ≡ m ∷ []
      made = made_one place s.targets o.target (after_punch (target_of_tail s tail) o.number tail.offset g) entry there refl

      within_parts : next < length (parts x)
      within_parts = let same = many x f.sound.0 in let less = within in omega (arith, same, less)

      within_stripes : next < length (tail_stripes x.opened.layout size)
      within_stripes = let same = length-map (tail_stripes x.opened.layout size) (OfTruncate size) in let less = within_parts in omega (arith, same, less)

      of : IsTailOf size (tail_stripes x.opened.layout size) next tail
      of = subst (λ (ts : List Tail). IsTailOf size (tail_stripes x.opened.layout size) next (tail_at ts next)) (sym f.sound.0.are) (stripe_at size (tail_stripes x.opened.layout size) next _ within_stripes)

      is_for : IsCallOf g (OfTruncate size of.stripe) m
      is_for =
          let one : nat_eq o.target of.stripe.object.target ≡ true = eq-eqb o.target of.stripe.object.target (ap (λ (y : Tail). y.object.target) of.is) in
          let two : nat_eq o.number of.stripe.object.number ≡ true = eq-eqb o.number of.stripe.object.number (ap (λ (y : Tail). y.object.number) of.is) in
          ((refl, ap (λ (y : Tail). y.offset) of.is, refl), (λ j. one j && two j), refl)

      -- what holds of the calls with this one holds of those behind the step
      then_so : (P : List Made → Type 0) → P (made_since_open (with_made d (m ∷ []))) → P (made_since_open (done false left))
      then_so P h = subst (λ (ms : List Made). P (made_since_open (with_made d ms))) (sym made) h

      abbrev OnPunch : CutAt → Type 0
      OnPunch a = DoneAt (done false left) a

      goes_on : punch_answer (target_of_tail s tail) o.number g ≡ answer.Ok
          → SentSoFar script schedule c first asked g (parts x) (next + 1) (made_since_open (done false left))
      goes_on e = then_so (SentSoFar script schedule c first asked g (parts x) (next + 1)) (one_goes script schedule c first asked d m f.behind g (parts x) (OfTruncate size of.stripe) next so_far of.part is_for e)

      punches_next : punch_answer (target_of_tail s tail) o.number g ≡ answer.Ok → (b : Bool) → nat_lt (next + 1) (length x.tails) ≡ b
          → OnPunch (cond b (cut.Punch x (next + 1)) (cut.Commit x sent.All))
      punches_next e true more = (at, goes_on e)
      punches_next e false last = let so = goes_on e in (at, (so.2, (none_left next (length (parts x)) _ so.0 within_parts (ap (nat_lt (next + 1)) (sym (many x f.sound.0)) ∙ last), so.1)))

      old_next : (kept : ℕ) → punch_answer (target_of_tail s tail) o.number g ≡ answer.Old kept → (b : Bool) → nat_eq next 0 ≡ b
          → OnPunch (cond b cut.UnlockAgain (cut.Commit x (sent.Old next (unwrap_or (last_eviction c s.meta) 0))))
      old_next kept e true none = tt
      old_next kept e false some =
          let taken = f.taken x.opened refl (f.lost kept e) in
          let evicted : IsLatestEviction script schedule c first asked d.opened place (unwrap_or (last_eviction c s.meta) 0) = subst (λ (y : Option ℕ). IsLatestEviction script schedule c first asked d.opened place (unwrap_or y 0)) (sym taken.1) taken.2 in (
            at,
            then_so (λ (ms : List Made). AreCallsOf g (parts x) ms × EndsOld script schedule c first asked d.opened ms (unwrap_or (last_eviction c s.meta) 0))
                (one_old script schedule c first asked d m f.behind g (parts x) (OfTruncate size of.stripe) next so_far of.part is_for kept (unwrap_or (last_eviction c s.meta) 0) e positive evicted),
          )
        where
          positive : 0 < next
          positive = grind (arith, nat_tests)

      failed : punch_answer (target_of_tail s tail) o.number g ≡ answer.Failed → IsListedFailure script.fails m (next_call_on s.targets o.target)
      failed e = record { named = refl; failed = (λ j. is_failed (e j)); listed = failed_listed script.fails s.targets f.listed o.target o.number g there e }

      punched_next : (a : CallAnswer) → punch_answer (target_of_tail s tail) o.number g ≡ a
          → OnPunch (after_punches (last_eviction c s.meta) x next (came_of (next_call_on s.targets o.target) a))
      punched_next answer.Ok e = punches_next e (nat_lt (next + 1) (length x.tails)) refl
      punched_next (answer.Old kept) e = old_next kept e (nat_eq next 0) refl
      punched_next answer.Failed e = (
        at,
        then_so (λ (ms : List Made). AreCallsOf g (parts x) ms × EndsFailed script schedule c first asked ms (next_call_on s.targets o.target))
            (one_fails script schedule c first asked d m f.behind g (parts x) (OfTruncate size of.stripe) next so_far of.part is_for (next_call_on s.targets o.target) (failed e)),
      )

    commits : (x : CuttingView) (came : Sent) (b : Bool) → OnCut false (commits_cut (cut_so (cut.Commit x came)) s x came b)
    commits x came true = (refl, tt)
    commits x came false = (refl, tt)

    -- ---- each step

    pub cut_does : (a : CutAt) → Finds place s d a → HasDone script schedule c first asked d (cut_stage a) → OnCut (traces.cut_opens a) (truncate_at a (cut_so a) place s)
    cut_does cut.Open f h = opened cut.Open f refl (cut_opens c name size place s.meta) refl
    cut_does (cut.Lock x) f h = locks x f.sound h.0 h.1 (first_blocker (locks_for (cut_so (cut.Lock x)) x) s.locks)
    cut_does (cut.Punch x next) f h = (refl, punched_next x next f h.0 h.1 (punch_answer (target_of_tail s (tail_at x.tails next)) (tail_at x.tails next).object.number x.opened.layout.generation) refl)
    cut_does (cut.Commit x came) f h = commits x came (is_there x.opened.file s.meta)
    cut_does cut.UnlockAgain f h = (refl, tt)
    cut_does cut.Unlock f h = tt
