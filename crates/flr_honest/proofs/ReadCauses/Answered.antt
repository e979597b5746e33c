-- The answer of a read of a run has its cause.
use Rattle.std.proofs.Common.{◌≡◌, ℕ, ◌+◌, ◌-◌, ◌<◌, Bool, true, false, cond, not, List, [], ◌∷◌, ◌++◌, length, Some, None, inl, inr, refl, sym, ap, subst, ◌∙◌, append-nil, arith}
use Rattle.std.specs.List.{AllByRecursion, concat, list_any}
use Rattle.std.proofs.lemmas.Bool.{not-true}
use Rattle.std.proofs.lemmas.Grind.{flat_map-append}
use Rattle.std.proofs.lemmas.List.Concat.{concat_is}
use Rattle.std.specs.Prelude.{nat_eq, option_map, take}
use Rattle.flr_base.specs.declared.reply.Entry.{Entry}
use Rattle.flr_base.specs.declared.reply.FailedCall.{FailedCall}
use Rattle.flr_base.specs.declared.reply.Range.{Range}
use Rattle.flr_base.specs.declared.reply.Reply.{Reply}
use Rattle.flr_base.specs.declared.reply.Reply.TheVariants as reply
use Rattle.flr_base.specs.declared.reply.Take.{Take}
use Rattle.composite_layout.specs.Layouts.{Composite}
use Rattle.mirror_select.specs.Candidates.{is_candidate}
use Rattle.mirror_select.specs.Pieces.{first_without}
use Rattle.mirror_select.proofs.Least.{found_in}
use Rattle.mirror_select.proofs.Sound.{are_good, every_in}
use Rattle.meta_server.specs.declared.answers.Opened.{Opened}
use Rattle.meta_server.specs.Closing.{holds, size_of}
use Rattle.meta_server.specs.Files.{File, file_named}
use Rattle.meta_server.specs.Sound.{IsSoundFile}
use Rattle.script_values.specs.declared.command.Command.TheVariants as command
use Rattle.script_values.specs.Scripts.{ScriptView}
use Rattle.call_steps.specs.Runs.{CallStep}
use Rattle.call_steps.specs.Servers.{Servers}
use Rattle.call_steps.specs.Steps.{Outcome, Going, Fixed, Ended, Answered, Blocked}
use Rattle.client_read.specs.declared.phase.FailedTake.{FailedTake}
use Rattle.client_read.specs.declared.phase.ReadAt.{ReadAt}
use Rattle.client_read.specs.declared.phase.ReadAt.TheVariants as at
use Rattle.client_read.specs.Ends.{FindsNone, FindsOffline, IsEnd}
use Rattle.client_read.specs.Faults.{IsFaulted, IsRightFault, failed_takes}
use Rattle.client_read.specs.Fitting.{IsAsked}
use Rattle.client_read.specs.Reads.{calls_over, ids_of, new_read, read_step, unanswered}
use Rattle.client_read.specs.Told.{AreSince, IsTold, OpensNone}
use Rattle.client_read.specs.Views.{ReadView}
use Rattle.client_read.proofs.EndLaws.{ends_at_once}
use Rattle.client_read.proofs.ToldLaws.{faults_are_told, tells_what_it_took}
use Rattle.flr_steps.specs.declared.client.Running.TheVariants as running
use Rattle.flr_steps.specs.States.{IsRun, State, state_at}
use Rattle.flr_steps.specs.Traces.{Doing, Made, Past, made_since_open}
use Rattle.flr_numbers.specs.Calls.{read_hand}
use Rattle.flr_numbers.specs.Hands.{AreServers}
use Rattle.flr_numbers.proofs.Objects.{times_found}
use Rattle.flr_asked.specs.CallRuns.{FixesAnswer, StandsIn, made_in, of_kind}
use Rattle.flr_bytes.specs.Pieces.{ReadHas}
use Rattle.flr_claims.specs.Calls.{Call, IsAtOnce, IsHeldOpen}
use Rattle.flr_claims.specs.Causes.{IsCaused}
use Rattle.flr_claims.specs.Failures.{IsListed, failed_over, is_unanswered}
use Rattle.flr_claims.specs.Refusals.{read_refusal}
use Rattle.flr_claims.specs.Runs.{call_before}
use Rattle.flr_claims.specs.Takes.{AreRightTakes, HasNobodyLeft, HasRead}
use Rattle.flr_honest.proofs.Lasting.Objects.{one_component}
use Rattle.flr_honest.specs.CallSteps.TypedCalls.{IsTypedCallTo}
use Rattle.flr_honest.proofs.CallSteps.Standing.{old_script}
use Rattle.flr_honest.proofs.ReadCauses.Counting.{AreApart, StandOnce, made_of, named_are, named_listed, some_failed, unanswered_is}
use Rattle.flr_honest.proofs.ReadCauses.Following.{CameOwn, IsFollowed, Stands, all_fair, all_own, followed}
use Rattle.flr_honest.proofs.ReadCauses.Known as known
use Rattle.flr_honest.proofs.ReadCauses.Known.{IsOpenStill}
use Rattle.flr_honest.proofs.ReadCauses.Lists.{IsFirst, all_have, all_rest, lowest_without}
use Rattle.flr_honest.proofs.ReadCauses.Logged.{right_takes}
use Rattle.flr_honest.proofs.ReadCauses.Making.{IsTake, Makes, none_made}
use Rattle.flr_honest.proofs.ReadCauses.Opened.{opened_at}
use Rattle.flr_honest.proofs.ReadCauses.Since.{HasOpen}

module _ (s : State) (run : IsRun s) (e : Entry) (p : Past) (name : List ℕ) (offset len : ℕ) (t : IsTypedCallTo running.Read read_step (new_read e.client name offset len) s.script s.schedule (command.Read name offset len) e p)
    (before : State) (before_is : state_at s.script s.schedule (e.at - 1) ≡ Some before) where
  abbrev c : ℕ
  c = e.client

  abbrev r : ReadView
  r = new_read e.client name offset len

  -- the call, as claims speak of it, and its last step
  abbrev k : Call
  k = call_before before e (command.Read name offset len) p

  -- that step stands in the run, and came to what it comes to
  st : StandsIn s.script s.schedule e.client (command.Read name offset len) (of_kind running.Read t.last)
  st = (all_rest (Stands s run e.client name offset len) t.front (t.last ∷ []) t.stand).0

  own : CameOwn t.last
  own = (all_rest CameOwn t.front (t.last ∷ []) (all_own (t.front ++ t.last ∷ []) (Some r) 0 t.run)).0

  -- before it the state was the one before the point
  old_is : st.old ≡ before
  old_is = let both : Some st.old ≡ Some before = sym st.old_is ∙ ap (λ (n : ℕ). state_at s.script s.schedule (n - 1)) t.place_is ∙ before_is in cc both

  servers_are : t.last.before ≡ before.shared
  servers_are = st.before_is ∙ ap (λ (q : State). q.shared) old_is

  script_is : before.script ≡ s.script
  script_is = sym (ap (λ (q : State). q.script) old_is) ∙ old_script s.script s.schedule c (command.Read name offset len) (of_kind running.Read t.last) st

  good : AreServers before.shared.meta before.shared.targets
  good = subst (λ (u : Servers). AreServers u.meta u.targets) servers_are (known.servers_good s run c name offset len t.last st)

  -- ---- while its file is open

  -- the file is there still, and this was made since the open
  pub record IsStill (now : File) (since : List (CallStep ReadView)) : Type 0 where
    pub held : IsHeldOpen k now
    pub made : made_since_open k.did ≡ made_of since
    pub each : AllByRecursion (Makes s.script.fails now.layout.components) since
    pub once : StandOnce now.layout.components
    pub apart : AreApart now.layout.components

  module _ (busy : OpensNone t.last) (quiet : IsTake t.last.call.at → ⊥) (o : Opened) (since : List (CallStep ReadView)) (are : AreSince (new_read e.client name offset len) t.front o since) (hand : (read_hand t.last.call.at).opened ≡ Some o)
      (cookie : o.cookie.client ≡ e.client) (held : holds o.file o.cookie t.last.before.meta ≡ true) where
    -- what it did since the open
    pub follows : IsFollowed s run e.client name offset len o are.opening since t.front t.last
    follows = followed s run e.client name offset len t.front t.last t.run t.stand busy o since are

    pub still : IsOpenStill before.shared.meta e.client name o
    still = subst (λ (u : Servers). IsOpenStill u.meta e.client name o) servers_are (known.open_still s run e.client name offset len t.last st o hand cookie held)

    -- which the trace tells as well
    made_is : made_since_open k.did ≡ made_of since
    made_is =
        ap made_since_open t.did_is ∙ follows.made ∙ flat_map-append made_in since (t.last ∷ [])
        ∙ ap (λ (ms : List Made). made_of since ++ (ms ++ [])) ((known.made_well s run c name offset len t.last st).made ∙ none_made t.last.place t.last.before t.last.call.at quiet) ∙ append-nil (made_of since)

    -- each object of the file stands in one component
    sound_file : IsSoundFile still.file
    sound_file = every_in IsSoundFile before.shared.meta.files still.file good.sound.files (found_in (λ (f : File). nat_eq f.number o.file) before.shared.meta.files still.file still.there).0

    stands_once : StandOnce still.file.layout.components
    stands_once object d f i j has holds =
        let few = good.once.once object in
        let found = times_found object o.file before.shared.meta.files still.file still.there in
        one_component object still.file.layout.components d f (omega (arith, few, found)) i j has holds

    pub is_still : IsStill still.file since
    is_still = record {
      held = record { file = still.named; shares = still.shares; later = (let early = follows.earlier in let opened : p.doing.opened ≡ are.opening.place = ap (λ (d : Doing). d.opened) t.did_is ∙ follows.opened in let place = t.place_is in omega (arith, early, opened, place)) };
      made = made_is;
      each = subst (λ (l : Composite). AllByRecursion (Makes s.script.fails l.components) since) still.layout follows.each;
      once = stands_once;
      apart = (are_good still.file.layout sound_file.layout).apart;
    }

  -- whether nobody is left for a byte, by the candidates without the components that failed
  left_is : (now : File) (since : List (CallStep ReadView)) → IsStill now since → (x : ℕ) → is_unanswered now.layout.components (made_since_open k.did) x ≡ not (list_any (is_candidate (ids_of (failed_takes since)) x) now.layout.components)
  left_is now since h x = ap (λ (ms : List Made). is_unanswered now.layout.components ms x) h.made ∙ unanswered_is s.script.fails now.layout.components h.once h.apart since h.each x

  -- ---- bytes

  -- bytes are answered with the cookie held, and come from right takes
  bytes_cause : (next : ReadView) (answer : Reply) (takes : List Take) → answer ≡ e.reply → takes ≡ e.takes → IsTold (new_read e.client name offset len) t.front t.last answer takes → IsCaused k e.reply
  bytes_cause next answer takes is from told = subst (λ (a : Reply). IsCaused k a) (sym told.joined ∙ is) (inr read)
    where
      busy : OpensNone t.last
      busy opens = cc (sym told.phase ∙ opens)

      quiet : IsTake t.last.call.at → ⊥
      quiet h = subst IsTake told.phase h

      has : ReadHas e.client r.range (at.Confirm told.reading)
      has = subst (ReadHas e.client r.range) told.phase (known.has_now s run e.client name offset len t.last st)

      -- the cookie is held, and this is the size
      sized : (b : Bool) → holds told.reading.opened.file told.reading.opened.cookie t.last.before.meta ≡ b → cond b (size_of told.reading.opened.file t.last.before.meta) None ≡ Some told.size
          → (holds told.reading.opened.file told.reading.opened.cookie t.last.before.meta ≡ true) × (size_of told.reading.opened.file t.last.before.meta ≡ Some told.size)
      sized true h size = (h, size)
      sized false h size = absurd (cc size)

      holds_it : (holds told.reading.opened.file told.reading.opened.cookie t.last.before.meta ≡ true) × (size_of told.reading.opened.file t.last.before.meta ≡ Some told.size)
      holds_it = sized (holds told.reading.opened.file told.reading.opened.cookie t.last.before.meta) refl told.held

      hand : (read_hand t.last.call.at).opened ≡ Some told.reading.opened
      hand = ap (λ (a : ReadAt). (read_hand a).opened) told.phase

      there : IsOpenStill before.shared.meta e.client name told.reading.opened
      there = still busy quiet told.reading.opened told.since told.opening hand has.own holds_it.0

      its : IsStill there.file told.since
      its = is_still busy quiet told.reading.opened told.since told.opening hand has.own holds_it.0

      failed : told.reading.failed ≡ failed_takes told.since
      failed = (subst (HasOpen told.reading.opened (failed_takes told.since)) told.phase (follows busy quiet told.reading.opened told.since told.opening hand has.own holds_it.0).last).1

      all_answered : first_without there.file.layout.components offset (offset + len) (ids_of (failed_takes told.since)) ≡ None
      all_answered =
          ap (λ (l : Composite). first_without l.components offset (offset + len) (ids_of (failed_takes told.since))) (sym there.layout)
          ∙ ap (λ (fs : List FailedTake). first_without told.reading.opened.layout.components offset (offset + len) (ids_of fs)) (sym failed) ∙ has.pieces.answered

      size_is : told.size ≡ there.file.size
      size_is =
          let both : Some told.size ≡ Some there.file.size =
          sym holds_it.1 ∙ ap (λ (v : Servers). size_of told.reading.opened.file v.meta) servers_are ∙ ap (option_map (λ (f : File). f.size)) there.there in
          cc both

      right : AreRightTakes there.file.layout.components (made_since_open k.did) offset (offset + len) e.takes told.parts
      right =
          subst (λ (ms : List Made). AreRightTakes there.file.layout.components ms offset (offset + len) e.takes told.parts) (sym its.made)
          (subst (λ (ts : List Take). AreRightTakes there.file.layout.components (made_of told.since) offset (offset + len) ts told.parts) from
          (subst (λ (l : Composite). AreRightTakes l.components (made_of told.since) offset (offset + len) takes told.parts) there.layout
          (right_takes told.since told.reading.opened.layout.components takes told.parts offset (offset + len) told.tile told.right)))

      read : HasRead k offset len (take (told.size - offset) (concat told.parts))
      read = record {
        now = there.file;
        held = its.held;
        answerable = λ y low high. left_is there.file told.since its y ∙ ap not (all_have there.file.layout.components offset (offset + len) (ids_of (failed_takes told.since)) all_answered y low high);
        takes = record {
          pieces = told.parts;
          right = right;
          joined = ap (λ (n : ℕ). take (n - offset) (concat told.parts)) size_is ∙ ap (take (there.file.size - offset)) (concat_is told.parts);
        };
      }

  -- ---- a fault

  -- nobody is left for the byte of a fault, and it names the calls that failed
  fault_cause : (byte : ℕ) (calls : List FailedCall) → e.takes ≡ [] → IsRightFault (new_read e.client name offset len) t.front t.last byte calls → IsCaused k (reply.Fault byte calls)
  fault_cause byte calls none right = inr (none, nobody)
    where
      busy : OpensNone t.last
      busy opens = cc (sym right.phase ∙ opens)

      quiet : IsTake t.last.call.at → ⊥
      quiet h = subst IsTake right.phase h

      has : ReadHas e.client r.range (at.Again right.reading)
      has = subst (ReadHas e.client r.range) right.phase (known.has_now s run e.client name offset len t.last st)

      hand : (read_hand t.last.call.at).opened ≡ Some right.reading.opened
      hand = ap (λ (a : ReadAt). (read_hand a).opened) right.phase

      there : IsOpenStill before.shared.meta e.client name right.reading.opened
      there = still busy quiet right.reading.opened right.since right.opening hand has.0 right.held

      its : IsStill there.file right.since
      its = is_still busy quiet right.reading.opened right.since right.opening hand has.0 right.held

      lowest : first_without there.file.layout.components offset (offset + len) (ids_of (failed_takes right.since)) ≡ Some byte
      lowest = ap (λ (l : Composite). first_without l.components offset (offset + len) (ids_of (failed_takes right.since))) (sym there.layout) ∙ right.lowest

      first : IsFirst (λ (x : ℕ). not (list_any (is_candidate (ids_of (failed_takes right.since)) x) there.file.layout.components)) offset (offset + len) byte
      first = lowest_without there.file.layout.components offset (offset + len) (ids_of (failed_takes right.since)) byte lowest

      answered : first_without there.file.layout.components offset (offset + len) [] ≡ None
      answered = ap (λ (l : Composite). first_without l.components offset (offset + len) []) (sym there.layout) ∙ (follows busy quiet right.reading.opened right.since right.opening hand has.0 right.held).answered

      same_calls : calls ≡ calls_over there.file.layout.components byte (failed_takes right.since)
      same_calls = right.named ∙ ap (λ (l : Composite). calls_over l.components byte (failed_takes right.since)) there.layout

      over : failed_over there.file.layout.components (made_of right.since) byte ≡ calls
      over = named_are s.script.fails there.file.layout.components its.once its.apart byte right.since its.each ∙ sym same_calls

      nobody : HasNobodyLeft k byte calls
      nobody = record {
        now = there.file;
        held = its.held;
        lowest = record {
          low = first.low;
          high = first.high;
          passes = left_is there.file right.since its byte ∙ first.passes;
          lowest = λ x low less. left_is there.file right.since its x ∙ first.first x low less;
        };
        named = sym over ∙ ap (λ (ms : List Made). failed_over there.file.layout.components ms byte) (sym its.made);
        some = subst (λ (cs : List FailedCall). 0 < length cs) (sym same_calls)
            (some_failed s.script.fails there.file.layout.components its.once its.apart byte (failed_takes right.since) (all_have there.file.layout.components offset (offset + len) [] answered byte first.low first.high)
            (not-true (list_any (is_candidate (ids_of (failed_takes right.since)) byte) there.file.layout.components) first.passes));
        listed = subst (λ (v : ScriptView). AllByRecursion (IsListed v.fails) calls) (sym script_is)
            (subst (λ (cs : List FailedCall). AllByRecursion (IsListed s.script.fails) cs) over (named_listed s.script.fails there.file.layout.components its.once its.apart byte right.since its.each));
      }

  -- ---- at once

  -- the call is answered at the step that opens the file
  at_once : t.last.call.at ≡ at.Open → IsAtOnce k
  at_once phase = ap (λ (d : Doing). d.opened) t.did_is ∙ opened_at t.front [] t.last phase tt ∙ t.place_is

  own_name : t.last.call.name ≡ name
  own_name = known.own_name s run e.client name offset len t.last st

  no_file_cause : (other : List ℕ) → e.takes ≡ [] → FindsNone t.last.call t.last.before other → IsCaused k (reply.NoFile other)
  no_file_cause other none f =
      let found : file_named name before.shared.meta.files ≡ None = ap (λ (v : Servers). file_named name v.meta.files) (sym servers_are) ∙ ap (λ (n : List ℕ). file_named n t.last.before.meta.files) (sym own_name) ∙ f.none in
      inl (at_once f.phase, ap (read_refusal name r.range) found ∙ ap (λ (n : List ℕ). Some (reply.NoFile n)) (sym (f.own ∙ own_name)), none)

  offline_cause : (byte : ℕ) → e.takes ≡ [] → FindsOffline t.last.call t.last.before byte → IsCaused k (reply.AllOffline byte)
  offline_cause byte none f =
      let found : file_named name before.shared.meta.files ≡ Some f.file = ap (λ (v : Servers). file_named name v.meta.files) (sym servers_are) ∙ ap (λ (n : List ℕ). file_named n t.last.before.meta.files) (sym own_name) ∙ f.named in
      let lowest : unanswered f.file.layout r.range [] ≡ Some byte = ap (λ (range : Range). unanswered f.file.layout range []) (sym (known.own_range s run e.client name offset len t.last st)) ∙ f.lowest in
      inl (at_once f.phase, ap (read_refusal name r.range) found ∙ ap (option_map reply.AllOffline) lowest, none)

  -- each answer that is an end
  end_cause : (answer : Reply) → e.takes ≡ [] → IsEnd t.last.call t.last.before answer → IsFaulted (new_read e.client name offset len) t.front t.last answer → IsCaused k answer
  end_cause (reply.NoFile other) none end fault = no_file_cause other none end
  end_cause (reply.AllOffline byte) none end fault = offline_cause byte none end
  end_cause (reply.Fault byte calls) none end fault = fault_cause byte calls none fault
  end_cause other none end fault = absurd end

  -- ---- each answer

  -- whichever answer the last step fixes, it has its cause
  pub read_caused : IsCaused k e.reply
  read_caused = by t.last.came refl t.fixes
    where
      asks : IsAsked r.range
      asks = known.asks s run e.client name offset len t.last st

      by : (o : Outcome ReadView) → t.last.came ≡ o → FixesAnswer o e.reply e.takes → IsCaused k e.reply
      by (Going next after) came f = absurd f
      by (Fixed next answer takes after) came f = bytes_cause next answer takes f.0 f.1 (tells_what_it_took e.client name offset len t.front t.last next answer takes after asks t.run (all_fair s run e.client name offset len (t.front ++ t.last ∷ []) t.stand) came)
      by (Ended after) came f = absurd f
      by (Answered answer takes after) came f =
          let ends = ends_at_once t.last.call t.last.place t.last.before answer takes after (sym own ∙ came) in
          subst (λ (a : Reply). IsCaused k a) f.0
          (end_cause answer (sym f.1 ∙ ends.1) ends.0 (faults_are_told e.client name offset len t.front t.last answer takes after asks t.run (all_fair s run e.client name offset len (t.front ++ t.last ∷ []) t.stand) came))
      by (Blocked holder) came f = absurd f
