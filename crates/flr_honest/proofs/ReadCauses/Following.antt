-- The steps of a read from its last open up to its last step: what they made, and what the read has then.
use Rattle.std.proofs.Common.{◌≡◌, ℕ, ◌<◌, List, [], ◌∷◌, ◌++◌, Option, Some, None, refl, sym, ap, subst, ◌∙◌, append_assoc}
use Rattle.std.specs.List.{AllByRecursion}
use Rattle.flr_base.specs.declared.reply.Range.{Range}
use Rattle.meta_server.specs.declared.answers.Opened.{Opened}
use Rattle.meta_server.specs.Files.{File, file_named}
use Rattle.meta_server.specs.Opening.{opened}
use Rattle.script_values.specs.declared.command.Command.TheVariants as command
use Rattle.call_steps.specs.Runs.{CallStep, IsRunOf, IsStepOf, call_after, goes_on, place_after}
use Rattle.call_steps.specs.Steps.{Outcome}
use Rattle.call_steps.proofs.RunLaws.{split}
use Rattle.client_read.specs.declared.phase.ReadAt.{ReadAt}
use Rattle.client_read.specs.declared.phase.ReadAt.TheVariants as at
use Rattle.client_read.specs.Faults.{failed_takes}
use Rattle.client_read.specs.Reads.{begins_with, new_read, opens_file, read_at, read_step, shares_file, unanswered}
use Rattle.client_read.specs.Told.{AreSince, IsFair, OpensNone}
use Rattle.client_read.specs.Views.{ReadView}
use Rattle.flr_steps.specs.declared.client.Running.TheVariants as running
use Rattle.flr_steps.specs.States.{IsRun, State}
use Rattle.flr_steps.specs.Traces.{made_since_open}
use Rattle.flr_asked.specs.CallRuns.{StandsIn, done_in, of_kind}
use Rattle.flr_honest.proofs.ReadCauses.Counting.{made_of}
use Rattle.flr_sole.proofs.Making.{all_joined}
use Rattle.flr_honest.proofs.ReadCauses.Lists.{all_are, all_front, all_rest}
use Rattle.flr_honest.proofs.ReadCauses.Known as known
use Rattle.flr_honest.proofs.ReadCauses.Making.{IsOver, Makes, makes}
use Rattle.flr_honest.proofs.CallSteps.Opened.{all_behind}
use Rattle.flr_honest.proofs.ReadCauses.Opened.{as_steps, opened_at, since_open}
use Rattle.flr_honest.proofs.ReadCauses.Since.{HasBefore, HasOpen, begins_have, have_open}

-- ---- steps of a run

-- the step came to what its own definition comes to
abbrev pub CameOwn : CallStep ReadView → Type 0
CameOwn x = x.came ≡ read_at x.call.at x.call x.before

came_own : (call : ReadView) (place : ℕ) (x : CallStep ReadView) → IsStepOf read_step call place x → CameOwn x
came_own call place x h = h.came ∙ ap (λ (c : ReadView). read_at c.at c x.before) (sym h.same)

-- so does each step of a run
pub all_own : (steps : List (CallStep ReadView)) (call : Option ReadView) (place : ℕ) → IsRunOf read_step steps call place → AllByRecursion CameOwn steps
all_own [] call place run = tt
all_own (x ∷ xs) None place run = absurd run
all_own (x ∷ xs) (Some call) place run = (came_own call place x run.0, all_own xs (goes_on x.came) x.place run.1)

-- a step at which the file is open is one over its layout
over_it : (o : Opened) (x : CallStep ReadView) → HasBefore o x → IsOver o.layout.components x.call.at
over_it o x h = by x.call.at h.has
  where
    by : (a : ReadAt) → HasOpen o h.failed a → IsOver o.layout.components a
    by at.Open k = tt
    by (at.Lock y next) k = tt
    by (at.Take y next) k = ap (λ (p : Opened). p.layout.components) k.0
    by (at.Again y) k = tt
    by (at.Confirm y) k = tt
    by at.UnlockAgain k = tt
    by at.Unlock k = tt

-- ---- from the open on

module _ (s : State) (run : IsRun s) (c : ℕ) (name : List ℕ) (offset len : ℕ) where
  -- the step stands in the run, as one of this read
  abbrev pub Stands : CallStep ReadView → Type 0
  Stands x = StandsIn s.script s.schedule c (command.Read name offset len) (of_kind running.Read x)

  abbrev r : ReadView
  r = new_read c name offset len

  -- what each step since the open made
  each_makes : (o : Opened) (xs : List (CallStep ReadView)) → AllByRecursion Stands xs → AllByRecursion (HasBefore o) xs → AllByRecursion (Makes s.script.fails o.layout.components) xs
  each_makes o [] st has = tt
  each_makes o (x ∷ xs) st has =
      (makes s.script.fails r.range o.layout.components x (known.made_well s run c name offset len x st.0) (known.readable s run c name offset len x st.0) (over_it o x has.0), each_makes o xs st.1 has.1)

  -- all steps find what they want
  pub all_fair : (xs : List (CallStep ReadView)) → AllByRecursion Stands xs → AllByRecursion IsFair xs
  all_fair xs st = all_are Stands IsFair xs (λ x k. known.fair s run c name offset len x k) st

  -- the read's steps since it opened its file, with what they made, and what it has at the last step
  pub record IsFollowed (o : Opened) (opening : CallStep ReadView) (since : List (CallStep ReadView)) (front : List (CallStep ReadView)) (end : CallStep ReadView) : Type 0 where
    pub opened : (done_in (as_steps (front ++ end ∷ []))).opened ≡ opening.place
    pub made : made_since_open (done_in (as_steps (front ++ end ∷ []))) ≡ made_of (since ++ end ∷ [])
    pub earlier : opening.place < end.place
    pub last : HasOpen o (failed_takes since) end.call.at
    pub each : AllByRecursion (Makes s.script.fails o.layout.components) since
    pub answered : unanswered o.layout r.range [] ≡ None

  module _ (front : List (CallStep ReadView)) (end : CallStep ReadView) (its : IsRunOf read_step (front ++ end ∷ []) (Some (new_read c name offset len)) 0) (stand : AllByRecursion Stands (front ++ end ∷ [])) (busy : OpensNone end)
      (o : Opened) (since : List (CallStep ReadView)) (are : AreSince (new_read c name offset len) front o since) where
    abbrev opening : CallStep ReadView
    opening = are.opening

    abbrev rest : List (CallStep ReadView)
    rest = since ++ end ∷ []

    parted : front ++ end ∷ [] ≡ are.front ++ opening ∷ rest
    parted = ap (λ (xs : List (CallStep ReadView)). xs ++ end ∷ []) are.split ∙ append_assoc are.front (opening ∷ since) (end ∷ [])

    its_run : IsRunOf read_step (are.front ++ opening ∷ rest) (Some r) 0
    its_run = subst (λ (xs : List (CallStep ReadView)). IsRunOf read_step xs (Some r) 0) parted its

    standing : AllByRecursion Stands (opening ∷ rest)
    standing = all_rest Stands are.front (opening ∷ rest) (subst (λ (xs : List (CallStep ReadView)). AllByRecursion Stands xs) parted stand)

    behind : IsRunOf read_step (opening ∷ rest) (call_after are.front (Some r)) (place_after are.front 0)
    behind = (split read_step are.front (opening ∷ rest) (Some r) 0 its_run).1

    none : AllByRecursion OpensNone rest
    none = all_joined OpensNone since (end ∷ []) are.last (busy, tt)

    -- what it goes on with
    record GoesOn : Type 0 where
      pub next : ReadView
      pub came : goes_on opening.came ≡ Some next
      pub has : HasOpen o [] next.at
      pub answered : unanswered o.layout r.range [] ≡ None

    nothing_follows : (xs : List (CallStep ReadView)) (place : ℕ) → IsRunOf read_step (xs ++ end ∷ []) None place → ⊥
    nothing_follows [] place k = k
    nothing_follows (x ∷ xs) place k = k

    -- the open found each byte answered, since the read goes on
    goes : (call : Option ReadView) (place : ℕ) → IsRunOf read_step (opening ∷ rest) call place → GoesOn
    goes None place k = absurd k
    goes (Some call) place k = by (unanswered file.layout opening.call.range []) refl
      where
        file : File
        file = are.opens.file

        named : file_named opening.call.name opening.before.meta.files ≡ Some are.opens.file
        named = ap (λ (n : List ℕ). file_named n opening.before.meta.files) (known.own_name s run c name offset len opening standing.0) ∙ are.opens.named

        shares : opening.came ≡ shares_file opening.call opening.before are.opens.file (unanswered are.opens.file.layout opening.call.range [])
        shares = came_own call place opening k.0 ∙ ap (λ (a : ReadAt). read_at a opening.call opening.before) are.opens.phase ∙ ap (opens_file opening.call opening.before) named

        got : opened opening.call.client are.opens.file ≡ o
        got = ap (λ (k : ℕ). opened k are.opens.file) (known.own_client s run c name offset len opening standing.0) ∙ sym are.opens.got

        by : (b : Option ℕ) → unanswered are.opens.file.layout opening.call.range [] ≡ b → GoesOn
        by (Some byte) e =
            absurd (nothing_follows since opening.place (subst (λ (q : Option ReadView). IsRunOf read_step rest q opening.place) (ap (λ (x : Outcome ReadView). goes_on x) (shares ∙ ap (shares_file opening.call opening.before are.opens.file) e)) k.1))
        by None e = record {
          next = begins_with opening.call (opened opening.call.client are.opens.file) [];
          came = ap (λ (x : Outcome ReadView). goes_on x) (shares ∙ ap (shares_file opening.call opening.before are.opens.file) e);
          has = subst (λ (p : Opened). HasOpen p [] (begins_with opening.call (opened opening.call.client are.opens.file) []).at) got (begins_have opening.call (opened opening.call.client are.opens.file) []);
          answered = subst (λ (p : Opened). unanswered p.layout r.range [] ≡ None) got (ap (λ (range : Range). unanswered are.opens.file.layout range []) (sym (known.own_range s run c name offset len opening standing.0)) ∙ e);
        }

    going : GoesOn
    going = goes (call_after are.front (Some r)) (place_after are.front 0) behind

    run_on : (call : Option ReadView) (place : ℕ) → IsRunOf read_step (opening ∷ rest) call place → IsRunOf read_step rest (Some going.next) opening.place
    run_on None place k = absurd k
    run_on (Some call) place k = subst (λ (q : Option ReadView). IsRunOf read_step rest q opening.place) going.came k.1

    on : IsRunOf read_step rest (Some going.next) opening.place
    on = run_on (call_after are.front (Some r)) (place_after are.front 0) behind

    -- all that is known of these steps
    pub followed : IsFollowed o are.opening since front end
    followed =
        let open_now = have_open o [] since end going.next opening.place going.has are.last on in
        record {
          opened = ap (λ (xs : List (CallStep ReadView)). (done_in (as_steps xs)).opened) parted ∙ opened_at are.front rest opening are.opens.phase none;
          made = ap (λ (xs : List (CallStep ReadView)). made_since_open (done_in (as_steps xs))) parted ∙ since_open are.front rest opening r are.opens.phase none its_run;
          earlier = (all_rest (λ (x : CallStep ReadView). opening.place < x.place) since (end ∷ []) (all_behind read_step rest (Some going.next) opening.place on)).0;
          last = open_now.last;
          each = each_makes o since (all_front Stands since (end ∷ []) standing.1) open_now.each;
          answered = going.answered;
        }
