-- What a verify of a run knows of its file after each of its steps, by what the trace tells that it did.
use Rattle.std.proofs.Common.{◌≡◌, ℕ, ◌+◌, ◌<◌, ◌≤◌, Bool, true, false, cond, nat_lt, ◌||◌, inr, Option, Some, None, List, [], ◌∷◌, ◌++◌, length, take, refl, sym, ap, subst, ◌∙◌, arith}
use Rattle.std.specs.Prelude.{is_none, is_some, nat_eq, unwrap_or}
use Rattle.std.specs.List.{list_any}
use Rattle.std.proofs.lemmas.Bool.{eq-eqb, or_from}
use Rattle.std.proofs.lemmas.Bool.Decides.{nat_tests}
use Rattle.std.proofs.lemmas.List.{take_all}
use Rattle.std.proofs.lemmas.List.Elements.{Contains-append_right}
use Rattle.std.proofs.lemmas.List.Folds.{list_any-append}
use Rattle.flr_base.specs.declared.reply.FailedCall.{FailedCall}
use Rattle.flr_base.specs.declared.reply.ObjectId.{ObjectId}
use Rattle.mirror_select.specs.declared.types.Piece.{Piece}
use Rattle.object_target.specs.declared.call.CallAnswer.{CallAnswer}
use Rattle.object_target.specs.declared.call.CallAnswer.TheVariants as answer
use Rattle.object_target.specs.Calls.{next_fail, read_answer}
use Rattle.script_values.specs.Scripts.{ScriptView}
use Rattle.meta_server.specs.Closing.{holds}
use Rattle.meta_server.specs.Files.{File, changed, file_named, same_name, with_share}
use Rattle.meta_server.specs.Opening.{opened}
use Rattle.meta_server.specs.Sound.{IsSound, IsSoundFile}
use Rattle.meta_laws.proofs.Copies.{sound_named}
use Rattle.call_steps.specs.Pieces.{object_of}
use Rattle.call_steps.specs.Runs.{CallStep, Leaves, goes_on}
use Rattle.call_steps.specs.Servers.{AreThere, Servers}
use Rattle.call_steps.specs.Steps.{Outcome, widen}
use Rattle.mirror_verify.specs.declared.copies.BlockCopy.{BlockCopy}
use Rattle.mirror_verify.specs.declared.phase.VerifyAt.{VerifyAt}
use Rattle.mirror_verify.specs.declared.phase.VerifyAt.TheVariants as at
use Rattle.mirror_verify.specs.declared.phase.Verifying.{Verifying}
use Rattle.mirror_verify.specs.Blocks.{copies_of, copy_at, next_object}
use Rattle.mirror_verify.specs.Findings.{no_finding}
use Rattle.mirror_verify.specs.Fitting.{HasCopies}
use Rattle.mirror_verify.specs.Verifies.{bytes_of, closes, copy_read, opens_file, takes_copy, takes_from, target_of, verify_at, verifying, with_answer}
use Rattle.mirror_verify.specs.Views.{VerifyView}
use Rattle.mirror_verify.proofs.CopyLaws.{is_there}
use Rattle.mirror_verify.proofs.ToldLaws.{with_all}
use Rattle.flr_steps.specs.declared.client.Running.{Running}
use Rattle.flr_steps.specs.declared.client.Running.TheVariants as running
use Rattle.flr_steps.specs.States.{State, state_at}
use Rattle.flr_steps.specs.Traces.{Doing, Made, is_opening, made_by, made_since_open, verify_opens}
use Rattle.flr_sole.specs.Sentences.{IsPast}
use Rattle.flr_work.specs.Paying.{AreListed}
use Rattle.flr_claims.specs.Failures.{IsListedFailure, has_failed, is_failed}
use Rattle.flr_asked.specs.CallRuns.{place_if}
use Rattle.flr_bytes.specs.Pieces.{VerifyHas}
use Rattle.flr_pieces.proofs.Leading.{Leads}
use Rattle.flr_honest.proofs.Knowing.Verifying.{IsInHand, verify_has}
use Rattle.flr_honest.proofs.VerifyCauses.Bytes.{HasRead, HaveRead, IsGot, got_copy, got_holes, got_more, nothing_got}
use Rattle.flr_honest.proofs.VerifyCauses.Doings.{since_one, since_opening, with_step}
use Rattle.flr_honest.proofs.VerifyCauses.Reading.{has_read, never_old, read_fails, read_made, reads_once}

-- ---- the file that is opened

-- it has its name also once its lock is shared
named_then : (client number : ℕ) (name : List ℕ) (files : List File) (f : File) → file_named name files ≡ Some f → f.number ≡ number → file_named name (changed number (with_share client) files) ≡ Some (with_share client f)
named_then client number name [] f e n = absurd (cc)
named_then client number name (g ∷ gs) f e n =
    ap (λ (b : Bool). cond b (Some (cond (nat_eq g.number number) (with_share client g) g)) (file_named name (changed number (with_share client) gs))) (ap (same_name name) (its_name (nat_eq g.number number)))
    ∙ by (same_name name g.name) e (λ k. named_then client number name gs f k n)
  where
    its_name : (b : Bool) → (cond b (with_share client g) g).name ≡ g.name
    its_name true = refl
    its_name false = refl

    by : (b : Bool) → cond b (Some g) (file_named name gs) ≡ Some f → (file_named name gs ≡ Some f → file_named name (changed number (with_share client) gs) ≡ Some (with_share client f))
        → cond b (Some (cond (nat_eq g.number number) (with_share client g) g)) (file_named name (changed number (with_share client) gs)) ≡ Some (with_share client f)
    by true k more =
        let same : g ≡ f = cc in
        ap (λ (b : Bool). Some (cond b (with_share client g) g)) (eq-eqb g.number number (ap (λ (h : File). h.number) same ∙ n)) ∙ ap (λ (h : File). Some (with_share client h)) same
    by false k more = more k

-- no call failed, with one more that didn't
none_failed : (made : List Made) (m : Made) → list_any has_failed made ≡ false → has_failed m ≡ false → list_any has_failed (made ++ m ∷ []) ≡ false
none_failed made m none ok = list_any-append has_failed made (m ∷ []) ∙ or_from (list_any has_failed made) (has_failed m || false) none (or_from (has_failed m) false ok refl)

-- ---- what it knows

module _ (script : ScriptView) (schedule : List ℕ) (client : ℕ) (name : List ℕ) where
  -- it opened this file, and right behind that step the file was this
  pub record IsOpenNow (x : Verifying) (d : Doing) : Type 0 where
    pub f : File
    pub state : State
    pub behind : state_at script schedule d.opened ≡ Some state
    pub there : file_named name state.shared.meta.files ≡ Some f
    pub number : f.number ≡ x.opened.file
    pub layout : f.layout ≡ x.opened.layout
    pub size : f.size ≡ x.opened.size
    pub copies : HasCopies x

  -- none of its calls failed since, and what it found is what it read
  pub record HasFound (x : Verifying) (count : ℕ) (d : Doing) : Type 0 where
    pub open_now : IsOpenNow x d
    pub through : list_any has_failed (made_since_open d) ≡ false
    pub got : IsGot (made_since_open d) x.copies count x.found

  -- the last of its calls failed, and the script lists it
  pub record HasStopped (x : Verifying) (call : FailedCall) (d : Doing) : Type 0 where
    pub open_now : IsOpenNow x d
    pub front : List Made
    pub last : Made
    pub in_order : made_since_open d ≡ front ++ last ∷ []
    pub failed : IsListedFailure script.fails last call

  abbrev pub KnowsAt : Doing → VerifyAt → Type 0
  KnowsAt d at.Open = Unit {0}
  KnowsAt d (at.Take x next) = HasFound x next d
  KnowsAt d (at.Close x None) = HasFound x (length x.copies) d
  KnowsAt d (at.Close x (Some call)) = HasStopped x call d

  -- the verify is the client's, of that file, and knows what its phase says
  pub record KnowsFile (d : Doing) (v : VerifyView) : Type 0 where
    pub name_is : v.name ≡ name
    pub client_is : v.client ≡ client
    pub has : VerifyHas v.client v.at
    pub knows : KnowsAt d v.at

  -- a call that goes on is such a verify
  abbrev pub GoesOnSo : Doing → Option Running → Type 0
  GoesOnSo d None = Unit {0}
  GoesOnSo d (Some (running.Verify v)) = KnowsFile d v
  GoesOnSo d (Some running.Idle) = ⊥
  GoesOnSo d (Some (running.Read call)) = ⊥
  GoesOnSo d (Some (running.Write call)) = ⊥
  GoesOnSo d (Some (running.Truncate call)) = ⊥
  GoesOnSo d (Some (running.Copy call)) = ⊥

  -- ---- one step

  -- what is known of a step of a verify: the servers before it, and the state that it left
  pub record IsKnownStep (x : CallStep Running) (v : VerifyView) : Type 0 where
    pub sound : IsSound x.before.meta
    pub listed : AreListed script.fails x.before.targets
    pub there : (y : Verifying) (next : ℕ) → v.at ≡ at.Take y next → AreThere x.before.targets y.opened.layout.components
    pub new : State
    pub new_is : state_at script schedule x.place ≡ Some new
    pub after_is : x.after ≡ new.shared

  -- of what its step comes to each that goes on is such a verify
  abbrev Then : Doing → Outcome VerifyView → Type 0
  Then d o = GoesOnSo d (goes_on (widen running.Verify o))

  -- with the rest of what it knows
  knows_then : (d : Doing) (v next : VerifyView) → v.name ≡ name → v.client ≡ client → next.name ≡ v.name → next.client ≡ v.client → VerifyHas next.client next.at → KnowsAt d next.at → KnowsFile d next
  knows_then d v next name_is client_is n c has knows = record { name_is = n ∙ name_is; client_is = c ∙ client_is; has = has; knows = knows }

  -- what comes next behind the copies that are got
  next_knows : (d : Doing) (x : Verifying) (next : ℕ) → HasFound x next d → KnowsAt d (takes_from x next)
  next_knows d x next found = by (nat_lt next (length x.copies)) refl
    where
      by : (b : Bool) → nat_lt next (length x.copies) ≡ b → KnowsAt d (cond b (at.Take x next) (at.Close x None))
      by true e = found
      by false e =
          let past : length x.copies ≤ next = grind (arith, nat_tests) in
          let all : take next x.copies ≡ take (length x.copies) x.copies = take_all next x.copies past ∙ sym (take_all (length x.copies) x.copies (omega arith)) in
          record {
            open_now = found.open_now;
            through = found.through;
            got = record {
              all = found.got.all;
              have = subst (λ (cs : List BlockCopy). HaveRead (made_since_open d) cs found.got.all) all found.got.have;
              is = found.got.is ∙ ap (λ (cs : List BlockCopy). with_all cs found.got.all no_finding) all;
            };
          }

  module _ (d : Doing) (x : CallStep Running) (last : ℕ) (v : VerifyView) (later : last < x.place) (past : IsPast last d) (call_is : x.call ≡ running.Verify v) (step : IsKnownStep x v) (know : KnowsFile d v) where
    abbrev then : Doing
    then = with_step d x

    -- whether it opens the file
    opens_by : (b : Bool) → verify_opens v.at ≡ b → is_opening x.call ≡ b
    opens_by b e = ap is_opening call_is ∙ e

    -- open
    opens_then : v.at ≡ at.Open → (o : Option File) → file_named v.name x.before.meta.files ≡ o → Leaves (widen running.Verify (opens_file v x.before o)) x.after → Leads IsInHand (opens_file v x.before o) → Then then (opens_file v x.before o)
    opens_then is None e left has = tt
    opens_then is (Some f) e left has =
        knows_then then v _ know.name_is know.client_is refl refl has (next_knows then y (next_object copies 0) (record {
          open_now = record {
            f = with_share v.client f;
            state = step.new;
            behind = ap (state_at script schedule) here ∙ step.new_is;
            there = ap (λ (s : Servers). file_named name s.meta.files) (sym step.after_is ∙ left) ∙ named_then v.client f.number name x.before.meta.files f (ap (λ (n : List ℕ). file_named n x.before.meta.files) (sym know.name_is) ∙ e) refl;
            number = refl;
            layout = refl;
            size = refl;
            copies = record { valid = good.layout; size = good.size; are = refl };
          };
          through = ap (list_any has_failed) since;
          got = subst (λ (made : List Made). IsGot made copies (next_object copies 0) y.found) (sym since) (got_holes [] copies 0 no_finding (nothing_got [] copies));
        }))
      where
        opens : is_opening x.call ≡ true
        opens = opens_by true (ap verify_opens is)

        good : IsSoundFile f
        good = sound_named x.before.meta step.sound v.name f e

        copies : List BlockCopy
        copies = copies_of f.layout.components f.size

        y : Verifying
        y = verifying (opened v.client f) (copies_of f.layout.components f.size)

        since : made_since_open then ≡ []
        since = since_opening d x last later past opens

        here : then.opened ≡ x.place
        here = ap (λ (b : Bool). place_if b x.place d.opened) opens

    -- any other step is of the file that is open
    open_still : (y : Verifying) → is_opening x.call ≡ false → IsOpenNow y d → IsOpenNow y then
    open_still y busy o = record {
      f = o.f;
      state = o.state;
      behind = ap (λ (b : Bool). state_at script schedule (place_if b x.place d.opened)) busy ∙ o.behind;
      there = o.there;
      number = o.number;
      layout = o.layout;
      size = o.size;
      copies = o.copies;
    }

    -- take
    module _ (y : Verifying) (next : ℕ) (is : v.at ≡ at.Take y next) where
      abbrev p : Piece
      p = (copy_at y.copies next).piece

      abbrev m : Made
      m = read_made x.place x.before p

      has : VerifyHas v.client (at.Take y next)
      has = subst (VerifyHas v.client) is know.has

      found : HasFound y next d
      found = subst (KnowsAt d) is know.knows

      busy : is_opening x.call ≡ false
      busy = opens_by false (ap verify_opens is)

      object_is : (o : Option ObjectId) → is_some o ≡ true → o ≡ Some (unwrap_or o (record { target = 0; number = 0 }))
      object_is None e = absurd (cc)
      object_is (Some z) e = refl

      not_hole : (o : Option ObjectId) → is_some o ≡ true → is_none o ≡ false
      not_hole None e = absurd (cc)
      not_hole (Some z) e = refl

      within : (object_of p).target < length x.before.targets
      within = is_there y next x.before.targets (object_of p) has.1 has.2.there (step.there y next is) (object_is p.object has.2.object)

      since : x.after ≡ copy_read x.before p → made_since_open then ≡ made_since_open d ++ m ∷ []
      since left = since_one d x last m later past busy (ap (λ (s : Servers). made_by x.place x.before.targets s.targets) left ∙ reads_once x.place x.before p within) refl

      -- the copies that are got with this one
      got_one : read_answer (target_of x.before p) ≡ answer.Ok → x.after ≡ copy_read x.before p → HasFound (with_answer x.before y next) (next_object y.copies (next + 1)) then
      got_one ok left =
          let o : IsOpenNow y then = open_still y busy found.open_now in
          let one : HasRead (made_since_open d ++ m ∷ []) (copy_at y.copies next) (bytes_of x.before p) =
          inr (not_hole p.object has.2.object, (m, Contains-append_right (made_since_open d) (m ∷ []) m (0, omega arith, refl), has_read x.place x.before p ok)) in
          record {
            open_now = record { f = o.f; state = o.state; behind = o.behind; there = o.there; number = o.number; layout = o.layout; size = o.size; copies = record { valid = o.copies.valid; size = o.copies.size; are = o.copies.are } };
            through = ap (list_any has_failed) (since left) ∙ none_failed (made_since_open d) m found.through (ap is_failed ok);
            got = subst (λ (made : List Made). IsGot made y.copies (next_object y.copies (next + 1)) (with_answer x.before y next).found) (sym (since left))
                (got_holes (made_since_open d ++ m ∷ []) y.copies (next + 1) _ (got_copy (made_since_open d ++ m ∷ []) y.copies next y.found (bytes_of x.before p) has.2.there one (got_more (made_since_open d) (m ∷ []) y.copies next y.found found.got)));
          }

      takes_then : (a : CallAnswer) → read_answer (target_of x.before p) ≡ a → Leaves (widen running.Verify (takes_copy v x.before y next p a)) x.after → Leads IsInHand (takes_copy v x.before y next p a) → Then then (takes_copy v x.before y next p a)
      takes_then answer.Ok e left hand = knows_then then v _ know.name_is know.client_is refl refl hand (next_knows then (with_answer x.before y next) (next_object y.copies (next + 1)) (got_one e left))
      takes_then (answer.Old kept) e left hand = absurd (never_old (next_fail (target_of x.before p)) kept e)
      takes_then answer.Failed e left hand = knows_then then v _ know.name_is know.client_is refl refl hand (record {
        open_now = open_still y busy found.open_now;
        front = made_since_open d;
        last = m;
        in_order = since left;
        failed = read_fails script.fails x.place x.before p step.listed within e;
      })

    -- close
    closes_then : (y : Verifying) (fault : Option FailedCall) (b : Bool) → Then then (closes v x.before y fault b)
    closes_then y fault false = knows_then then v _ know.name_is know.client_is refl refl tt tt
    closes_then y fault true = tt

    -- each phase
    by_phase : (a : VerifyAt) → v.at ≡ a → Leaves (widen running.Verify (verify_at a v x.before)) x.after → Leads IsInHand (verify_at a v x.before) → Then then (verify_at a v x.before)
    by_phase at.Open is left hand = opens_then is (file_named v.name x.before.meta.files) refl left hand
    by_phase (at.Take y next) is left hand = takes_then y next is (read_answer (target_of x.before (copy_at y.copies next).piece)) refl left hand
    by_phase (at.Close y fault) is left hand = closes_then y fault (holds y.opened.file y.opened.cookie x.before.meta)

    -- the step
    pub step_knows : x.came ≡ widen running.Verify (verify_at v.at v x.before) → Leaves x.came x.after → GoesOnSo then (goes_on x.came)
    step_knows came left =
        subst (λ (o : Outcome Running). GoesOnSo then (goes_on o)) (sym came)
        (by_phase v.at refl (subst (λ (o : Outcome Running). Leaves o x.after) came left) (verify_has v x.before step.sound v.at know.has))
