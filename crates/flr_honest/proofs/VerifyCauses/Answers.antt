-- Each answer of a verify of a run has its cause, whatever bytes there are.
use Rattle.std.proofs.Common.{◌≡◌, ℕ, ◌-◌, ◌≤◌, Bool, true, false, Option, Some, None, List, [], ◌∷◌, ◌++◌, length, take, refl, sym, ap, subst, ◌∙◌, inl, inr, arith}
use Rattle.std.specs.Prelude.{◌||◌, ◌==◌, nat_eq}
use Rattle.std.specs.List.{AllByRecursion, list_any}
use Rattle.std.proofs.lemmas.Bool.{and_parts, eq-eqb, eqb-true, or_right}
use Rattle.std.proofs.lemmas.List.{take-take, take_all}
use Rattle.flr_base.specs.Limits.{most_bytes}
use Rattle.flr_base.specs.declared.reply.Diff.{Diff}
use Rattle.flr_base.specs.declared.reply.Entry.{Entry}
use Rattle.flr_base.specs.declared.reply.FailedCall.{FailedCall}
use Rattle.flr_base.specs.declared.reply.Reply.{Reply}
use Rattle.flr_base.specs.declared.reply.Reply.TheVariants as reply
use Rattle.composite_layout.specs.Layouts.{Composite, IsValid}
use Rattle.layout_lease.specs.declared.shared.Share.{Share}
use Rattle.layout_lease.specs.Shares.{same_cookie}
use Rattle.lfs_words.specs.declared.command.LfsCommand.{LfsCommand}
use Rattle.lfs_words.specs.declared.command.LfsCommand.TheVariants as lfs
use Rattle.script_values.specs.declared.command.Command.{Command}
use Rattle.script_values.specs.declared.command.Command.TheVariants as command
use Rattle.script_values.specs.Scripts.{ScriptView}
use Rattle.object_target.specs.declared.call.CallAnswer.{CallAnswer}
use Rattle.object_target.specs.declared.call.CallAnswer.TheVariants as answer
use Rattle.object_target.specs.Calls.{read_answer}
use Rattle.mirror_select.specs.declared.types.Piece.{Piece}
use Rattle.meta_server.specs.Closing.{holds}
use Rattle.meta_server.specs.Files.{File, file_named, file_of}
use Rattle.call_steps.specs.Runs.{CallStep, Leaves}
use Rattle.call_steps.specs.Servers.{Servers}
use Rattle.call_steps.specs.Steps.{Outcome, widen}
use Rattle.mirror_verify.specs.declared.copies.BlockCopy.{BlockCopy}
use Rattle.mirror_verify.specs.declared.phase.VerifyAt.{VerifyAt}
use Rattle.mirror_verify.specs.declared.phase.VerifyAt.TheVariants as at
use Rattle.mirror_verify.specs.declared.phase.Verifying.{Verifying}
use Rattle.mirror_verify.specs.Blocks.{blocks_in, copies_of, copy_at}
use Rattle.mirror_verify.specs.Findings.{Finding, no_finding}
use Rattle.mirror_verify.specs.Told.{entries_from}
use Rattle.mirror_verify.specs.Verifies.{closes, compared, new_verify, opens_file, takes_copy, target_of, verify_at}
use Rattle.mirror_verify.specs.Views.{VerifyView}
use Rattle.mirror_verify.proofs.ToldLaws.{are_entries, with_all}
use Rattle.flr_steps.specs.declared.client.Running.{Running}
use Rattle.flr_steps.specs.declared.client.Running.TheVariants as running
use Rattle.flr_steps.specs.Clients.{call_now}
use Rattle.flr_steps.specs.States.{State, after, start, state_at}
use Rattle.flr_steps.specs.Traces.{Doing, Made, Past, is_opening, made_by, made_since_open, nothing_done, trace_after, verify_opens}
use Rattle.flr_steps.proofs.Fronts.{each_run_keeps}
use Rattle.flr_sole.proofs.Making.{made_none}
use Rattle.flr_claims.specs.Asked.{IsFile}
use Rattle.flr_claims.specs.Calls.{Call, HasOpened}
use Rattle.flr_claims.specs.Causes.{Answers, ComparesMirrors, IsCaused, IsRefused, has_rot}
use Rattle.flr_claims.specs.Comparisons.{AreDifferences, HasDifferences, IsVerified}
use Rattle.flr_claims.specs.Failures.{IsListedFailure, has_failed}
use Rattle.flr_claims.specs.Refusals.{plain_refusal, refusal_for}
use Rattle.flr_asked.specs.CallRuns.{FixesAnswer, IsCallTo, StandsIn, place_if}
use Rattle.flr_bytes.specs.Calls.{AreAlike, Says, VerifySays}
use Rattle.flr_bytes.specs.Pieces.{VerifyHas}
use Rattle.flr_bytes.specs.Runs.{Honest}
use Rattle.flr_bytes.specs.Sentences.{byte_in}
use Rattle.flr_honest.specs.Entries.{IsEntryOf, claimed}
use Rattle.flr_honest.proofs.Knowing.Pieces.{held_there}
use Rattle.flr_honest.proofs.Runs.{runs_honest}
use Rattle.flr_claims.specs.Claims.{IsVerifiedBy}
use Rattle.flr_honest.specs.VerifyCauses.Sentences.{EachVerifyIsCaused, IsLfsVerify, IsVerify, VerifiesAreTold, VerifiesHaveCauses}
use Rattle.flr_honest.proofs.VerifyCauses.Bytes.{HaveRead}
use Rattle.flr_honest.proofs.VerifyCauses.Differences.{are_differences, counted}
use Rattle.flr_honest.proofs.VerifyCauses.Doings.{done_all, since_same, with_step, with_steps}
use Rattle.flr_honest.proofs.VerifyCauses.Walked.{IsAtLast, at_last, call_before, run_before, script_before}
use Rattle.flr_honest.proofs.VerifyCauses.Walking.{HasFound, HasStopped, IsOpenNow, KnowsAt}

-- ---- small facts

one_state : (a b : State) → Some a ≡ Some b → a ≡ b
one_state a b e = cc

-- the last of those of which all this holds
all_last : {X : Type 0} (P : X → Type 0) (front : List X) (last : X) → AllByRecursion P (front ++ last ∷ []) → P last
all_last P [] last all = all.0
all_last P (x ∷ front) last all = all_last P front last all.1

-- who holds a cookie shares the lock
sharing : (client : ℕ) (cookie : Share) (shares : List Share) → cookie.client ≡ client → list_any (λ (share : Share). same_cookie share cookie) shares ≡ true → list_any (λ (share : Share). nat_eq share.client client) shares ≡ true
sharing client cookie [] own held = held
sharing client cookie (share ∷ shares) own held = by (same_cookie share cookie) refl held (sharing client cookie shares own)
  where
    by : (b : Bool) → same_cookie share cookie ≡ b → (b || list_any (λ (share : Share). same_cookie share cookie) shares) ≡ true → (list_any (λ (share : Share). same_cookie share cookie) shares ≡ true → list_any (λ (share : Share). nat_eq share.client client) shares ≡ true)
        → (nat_eq share.client client || list_any (λ (share : Share). nat_eq share.client client) shares) ≡ true
    by true same held more =
        ap (λ (b : Bool). b || list_any (λ (share : Share). nat_eq share.client client) shares)
        (eq-eqb share.client client (eqb-true share.client cookie.client (and_parts (share.client == cookie.client) (share.number == cookie.number) same).0 ∙ own))
    by false same held more = or_right (nat_eq share.client client) (list_any (λ (share : Share). nat_eq share.client client) shares) (more held)

-- a state that a run had is the one that its front had
front_state : (script : ScriptView) (schedule : List ℕ) (place : ℕ) (before : State) (at : ℕ) → state_at script schedule place ≡ Some before → at ≤ place → state_at before.script before.schedule at ≡ state_at script schedule at
front_state script schedule place before at is within =
    let kept = each_run_keeps (start script) before (take place schedule) is in
    ap (λ (x : ScriptView). state_at x before.schedule at) kept.script
    ∙ ap (λ (xs : List ℕ). state_at script xs at) kept.places
    ∙ ap (λ (xs : List ℕ). after (start script) xs) (take-take at place schedule within)

-- ---- an entry of a verify

module _ (s : State) (e : Entry) (p : Past) (is : IsEntryOf s e p) (name : List ℕ) (asks : is.asked ≡ command.Lfs (lfs.Verify name)) where
  abbrev asked : Command
  asked = command.Lfs (lfs.Verify name)

  abbrev k : Call
  k = claimed is

  call : IsCallTo s.script s.schedule (command.Lfs (lfs.Verify name)) e p
  call = subst (λ (a : Command). IsCallTo s.script s.schedule a e p) asks is.call

  module _ (front : List (CallStep Running)) (last : CallStep Running) (stands : StandsIn s.script s.schedule e.client (command.Lfs (lfs.Verify name)) last) (place_is : last.place ≡ e.at) (fixes : FixesAnswer last.came e.reply e.takes)
      (d : Doing) (did_is : p.doing ≡ with_step d last) (l : IsAtLast s is.run e.client name d last) where
    old_is : stands.old ≡ is.before
    old_is = one_state stands.old is.before (sym stands.old_is ∙ ap (λ (n : ℕ). state_at s.script s.schedule (n - 1)) place_is ∙ is.before_is)

    servers_are : last.before ≡ is.before.shared
    servers_are = stands.before_is ∙ ap (λ (x : State). x.shared) old_is

    opens_by : (b : Bool) → verify_opens l.v.at ≡ b → is_opening last.call ≡ b
    opens_by b h = ap is_opening l.call ∙ h

    -- the verify answers so, as one of its command
    answers_so : (r : Reply) → e.reply ≡ r → ComparesMirrors k r → IsCaused k e.reply
    answers_so r same h = inr (subst (λ (a : Command). Answers k a e.reply) (sym asks) (subst (ComparesMirrors k) (sym same) h))

    -- ---- refused: there is no such file
    refused : l.v.at ≡ at.Open → file_named l.v.name last.before.meta.files ≡ None → e.reply ≡ reply.NoFile l.v.name → e.takes ≡ [] → IsCaused k e.reply
    refused opens none answers takes = inl (subst (IsRefused k) (sym answers) (
      ap (λ (x : Doing). x.opened) did_is ∙ ap (λ (b : Bool). place_if b last.place d.opened) (opens_by true (ap verify_opens opens)) ∙ place_is,
      ap (λ (a : Command). refusal_for a is.before.shared) asks ∙ ap (λ (o : Option File). plain_refusal name o) (ap (λ (t : Servers). file_named name t.meta.files) (sym servers_are) ∙ ap (λ (n : List ℕ). file_named n last.before.meta.files) (sym l.know.name_is) ∙ none) ∙ ap (λ (n : List ℕ). Some (reply.NoFile n)) (sym l.know.name_is),
      takes,
    ))

    -- ---- closed
    module _ (x : Verifying) (fault : Option FailedCall) (closing : l.v.at ≡ at.Close x fault) (held : holds x.opened.file x.opened.cookie last.before.meta ≡ true) (targets : last.after.targets ≡ last.before.targets) (takes : e.takes ≡ []) where
      busy : is_opening last.call ≡ false
      busy = opens_by false (ap verify_opens closing)

      opened_is : p.doing.opened ≡ d.opened
      opened_is = ap (λ (y : Doing). y.opened) did_is ∙ ap (λ (b : Bool). place_if b last.place d.opened) busy

      since : made_since_open p.doing ≡ made_since_open d
      since = ap made_since_open did_is ∙ since_same d last busy (ap (made_by last.place last.before.targets) targets ∙ made_none last.place last.before.targets)

      has_opened : (o : IsOpenNow s.script s.schedule e.client name x d) → HasOpened k o.f
      has_opened o =
          let low = l.past.opened in
          let up = l.later in
          record {
            state = o.state;
            behind = front_state s.script s.schedule (e.at - 1) is.before p.doing.opened is.before_is (omega (arith, low, up, opened_is, place_is)) ∙ ap (state_at s.script s.schedule) opened_is ∙ o.behind;
            file = subst (λ (a : Command). IsFile o.state a o.f) (sym asks) o.there;
            later = omega (arith, low, up, opened_is, place_is);
          }

      verified : (o : IsOpenNow s.script s.schedule e.client name x d) → IsVerified k o.f
      verified o =
          let t = held_there last.before.meta x.opened held in
          let own : x.opened.cookie.client ≡ e.client = subst (VerifyHas l.v.client) closing l.know.has ∙ l.know.client_is in
          record {
            opened = has_opened o;
            now = t.file;
            there = ap (λ (n : ℕ). file_of n is.before.shared.meta.files) o.number ∙ ap (λ (y : Servers). file_of x.opened.file y.meta.files) (sym servers_are) ∙ t.there;
            shares = sharing e.client x.opened.cookie t.file.lock.cookies own t.held;
          }

      -- a call failed
      stopped : (call : FailedCall) → HasStopped s.script s.schedule e.client name x call d → e.reply ≡ reply.VerifyFault call → IsCaused k e.reply
      stopped call h answers = answers_so (reply.VerifyFault call) answers (
        takes,
        record {
          f = h.open_now.f;
          verified = verified h.open_now;
          front = h.front;
          last = h.last;
          in_order = since ∙ h.in_order;
          failed = subst (λ (script : ScriptView). IsListedFailure script.fails h.last call) (sym (ap (λ (y : State). y.script) (sym old_is) ∙ script_before s is.run e.client name last stands)) h.failed;
        },
      )

      -- all copies were compared
      module _ (h : HasFound s.script s.schedule e.client name x (length x.copies) d) where
        abbrev o : IsOpenNow s.script s.schedule e.client name x d
        o = h.open_now

        abbrev f : File
        f = h.open_now.f

        copies_are : x.copies ≡ copies_of f.layout.components f.size
        copies_are = o.copies.are ∙ ap (λ (y : Composite). copies_of y.components x.opened.size) (sym o.layout) ∙ ap (copies_of f.layout.components) (sym o.size)

        have : HaveRead (made_since_open d) x.copies h.got.all
        have = subst (λ (cs : List BlockCopy). HaveRead (made_since_open d) cs h.got.all) (take_all (length x.copies) x.copies (omega arith)) h.got.have

        told : x.found.diffs ≡ entries_from [] x.copies h.got.all
        told = ap (λ (found : Finding). found.diffs) (h.got.is ∙ ap (λ (cs : List BlockCopy). with_all cs h.got.all no_finding) (take_all (length x.copies) x.copies (omega arith))) ∙ are_entries x.copies h.got.all no_finding

        -- what it found are the differences
        differences : AreDifferences f (made_since_open p.doing) x.found.diffs
        differences =
            subst (λ (made : List Made). AreDifferences f made x.found.diffs) (sym since)
            (subst (AreDifferences f (made_since_open d)) (sym (told ∙ ap (λ (cs : List BlockCopy). entries_from [] cs h.got.all) copies_are))
            (are_differences f (subst IsValid (sym o.layout) o.copies.valid) (subst (λ (n : ℕ). n ≤ most_bytes) (sym o.size) o.copies.size) (made_since_open d) h.got.all (subst (λ (cs : List BlockCopy). HaveRead (made_since_open d) cs h.got.all) copies_are have)))

        has_differences : HasDifferences k f x.found.diffs
        has_differences = record { verified = verified o; through = ap (list_any has_failed) since ∙ h.through; are = differences }

        -- where no byte may rot none are found
        none_found : fault ≡ None → has_rot is.before.script ≡ false → x.found.diffs ≡ []
        none_found through none =
            let sound : has_rot stands.old.script ≡ false = ap (λ (y : State). has_rot y.script) old_is ∙ none in
            let honest : Honest stands.old (trace_after stands.old.script stands.old.schedule) = runs_honest stands.old (run_before s is.run e.client name last stands) sound in
            alike stands.step.client.call (call_before s is.run e.client name last stands ∙ l.call) (honest.calls e.client stands.step.client stands.step.here)
            (subst (λ (y : Servers). holds x.opened.file x.opened.cookie y.meta ≡ true) stands.before_is held)
          where
            closed : (a : VerifyAt) → a ≡ at.Close x fault → VerifySays stands.old.shared.meta (byte_in stands.old (trace_after stands.old.script stands.old.schedule)) a → AreAlike stands.old.shared.meta x
            closed a same says = subst (VerifySays stands.old.shared.meta (byte_in stands.old (trace_after stands.old.script stands.old.schedule))) same says

            alike : (r : Running) → call_now e.client r stands.step.asked ≡ running.Verify l.v → Says stands.old.shared (byte_in stands.old (trace_after stands.old.script stands.old.schedule)) r → AreAlike stands.old.shared.meta x
            alike running.Idle same says = absurd (let opening : running.Verify (new_verify e.client name) ≡ running.Verify l.v = ap (call_now e.client running.Idle) (sym stands.asked_is) ∙ same in not_open opening)
              where
                at_of : Running → Option VerifyAt
                at_of (running.Verify v) = Some v.at
                at_of other = None

                not_open : running.Verify (new_verify e.client name) ≡ running.Verify l.v → ⊥
                not_open same = let both : Some at.Open ≡ Some (at.Close x fault) = ap at_of same ∙ ap (λ (a : VerifyAt). Some a) closing in absurd (cc)
            alike (running.Read r) same says = absurd (cc)
            alike (running.Write r) same says = absurd (cc)
            alike (running.Truncate r) same says = absurd (cc)
            alike (running.Copy r) same says = absurd (cc)
            alike (running.Verify r) same says = let one : r ≡ l.v = cc in closed r.at (ap (λ (v : VerifyView). v.at) one ∙ closing) says

        through : fault ≡ None → e.reply ≡ compared x.copies x.found.diffs → IsCaused k e.reply
        through none answers = answers_so (compared x.copies x.found.diffs) answers (by x.found.diffs refl)
          where
            rots : (diff : Diff) (diffs : List Diff) → x.found.diffs ≡ diff ∷ diffs → (b : Bool) → has_rot is.before.script ≡ b → has_rot is.before.script ≡ true
            rots diff diffs some true same = same
            rots diff diffs some false same = absurd (let no : diff ∷ diffs ≡ [] = sym some ∙ none_found none same in cc)

            by : (diffs : List Diff) → x.found.diffs ≡ diffs → ComparesMirrors k (compared x.copies diffs)
            by [] same = (takes, (f, subst (HasDifferences k f) same has_differences, ap blocks_in copies_are ∙ counted f))
            by (diff ∷ diffs) same = (takes, rots diff diffs same (has_rot is.before.script) refl, (f, subst (HasDifferences k f) same has_differences, omega arith))

    -- ---- each phase
    opening : l.v.at ≡ at.Open → (o : Option File) → file_named l.v.name last.before.meta.files ≡ o → FixesAnswer (widen running.Verify (opens_file l.v last.before o)) e.reply e.takes → IsCaused k e.reply
    opening is None none fixed = refused is none (sym fixed.0) (sym fixed.1)
    opening is (Some f) there fixed = absurd fixed

    taking : (x : Verifying) (next : ℕ) (q : Piece) (a : CallAnswer) → FixesAnswer (widen running.Verify (takes_copy l.v last.before x next q a)) e.reply e.takes → IsCaused k e.reply
    taking x next q answer.Ok fixed = absurd fixed
    taking x next q (answer.Old kept) fixed = absurd fixed
    taking x next q answer.Failed fixed = absurd fixed

    closing : (x : Verifying) (fault : Option FailedCall) → l.v.at ≡ at.Close x fault → (b : Bool) → holds x.opened.file x.opened.cookie last.before.meta ≡ b → FixesAnswer (widen running.Verify (closes l.v last.before x fault b)) e.reply e.takes
        → Leaves (widen running.Verify (closes l.v last.before x fault b)) last.after → IsCaused k e.reply
    closing x fault is false held fixed left = absurd fixed
    closing x None is true held fixed left = through x None is held (ap (λ (y : Servers). y.targets) left) (sym fixed.1) (subst (KnowsAt s.script s.schedule e.client name d) is l.know.knows) refl (sym fixed.0)
    closing x (Some call) is true held fixed left = stopped x (Some call) is held (ap (λ (y : Servers). y.targets) left) (sym fixed.1) call (subst (KnowsAt s.script s.schedule e.client name d) is l.know.knows) (sym fixed.0)

    by_phase : (a : VerifyAt) → l.v.at ≡ a → FixesAnswer (widen running.Verify (verify_at a l.v last.before)) e.reply e.takes → Leaves (widen running.Verify (verify_at a l.v last.before)) last.after → IsCaused k e.reply
    by_phase at.Open is fixed left = opening is (file_named l.v.name last.before.meta.files) refl fixed
    by_phase (at.Take x next) is fixed left = taking x next (copy_at x.copies next).piece (read_answer (target_of last.before (copy_at x.copies next).piece)) fixed
    by_phase (at.Close x fault) is fixed left = closing x fault is (holds x.opened.file x.opened.cookie last.before.meta) refl fixed left

    caused_so : IsCaused k e.reply
    caused_so = by_phase l.v.at refl (subst (λ (o : Outcome Running). FixesAnswer o e.reply e.takes) l.came fixes) (subst (λ (o : Outcome Running). Leaves o last.after) l.came l.left)

  -- the entry's answer has its cause
  pub verify_caused : IsCaused k e.reply
  verify_caused =
      caused_so call.front call.last (all_last (StandsIn s.script s.schedule e.client (command.Lfs (lfs.Verify name))) call.front call.last call.stand) call.place_is call.fixes
      (with_steps nothing_done call.front) (call.did_is ∙ done_all call.front call.last) (at_last s is.run e.client name call.front call.last call.run call.stand)

-- ---- each verify

-- a command that is a verify is one of some file
record IsOfFile (asked : Command) : Type 0 where
  name : List ℕ
  is : asked ≡ command.Lfs (lfs.Verify name)

of_lfs : (of : LfsCommand) → IsLfsVerify of → IsOfFile (command.Lfs of)
of_lfs (lfs.SetStripe name spec) h = absurd h
of_lfs (lfs.GetStripe name) h = absurd h
of_lfs (lfs.CompSet name id change) h = absurd h
of_lfs (lfs.Create name spec) h = absurd h
of_lfs (lfs.Extend name spec) h = absurd h
of_lfs (lfs.ExtendBy name victim) h = absurd h
of_lfs (lfs.Split name mirror to) h = absurd h
of_lfs (lfs.Delete name mirror) h = absurd h
of_lfs (lfs.Resync name only) h = absurd h
of_lfs (lfs.Verify name) h = record { name = name; is = refl }

of_file : (asked : Command) → IsVerify asked → IsOfFile asked
of_file (command.Read name offset len) h = absurd h
of_file (command.Write name offset bytes) h = absurd h
of_file (command.Truncate name size) h = absurd h
of_file (command.Lfs of) h = of_lfs of h
of_file (command.Evict client) h = absurd h
of_file (command.Rot object offset byte) h = absurd h

pub each_verify_is_caused : EachVerifyIsCaused
each_verify_is_caused s e p is verify = let of : IsOfFile is.asked = of_file is.asked verify in verify_caused s e p is of.name of.is

pub verifies_have_causes : VerifiesHaveCauses
verifies_have_causes s e p is none verify = each_verify_is_caused s e p is verify

-- of all causes those of a comparison
told_by : (k : Call) (answer : Reply) → IsCaused k answer → IsVerifiedBy k answer
told_by k (reply.Same count) h = h
told_by k (reply.Differ entries) h = h
told_by k other h = tt

pub verifies_are_told : VerifiesAreTold
verifies_are_told s e p is verify = told_by (claimed is) e.reply (each_verify_is_caused s e p is verify)
