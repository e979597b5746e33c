-- What is known of a step of a read that stands in a run, and of the file whose cookie the read holds.
use Rattle.std.proofs.Common.{◌≡◌, ℕ, ◌+◌, true, IfSome, List, [], ◌∷◌, Option, Some, inl, inr, refl, sym, ap, subst, ◌∙◌, arith}
use Rattle.std.specs.Prelude.{nat_eq}
use Rattle.std.specs.List.{AllByRecursion}
use Rattle.std.specs.Cmp.Lexicographic.{other_text, same_text}
use Rattle.std.proofs.lemmas.Bool.{and_parts, cases_Bool, eqb-true, eq-eqb}
use Rattle.flr_base.specs.declared.reply.Range.{Range}
use Rattle.composite_layout.specs.Layouts.{IsValid}
use Rattle.layout_lease.specs.declared.shared.Share.{Share}
use Rattle.layout_lease.specs.Shares.{is_held, same_cookie}
use Rattle.mirror_select.proofs.Least.{In, any_in, find_only, found_in, some_in}
use Rattle.mirror_select.proofs.Sound.{every_in}
use Rattle.meta_server.specs.declared.answers.Opened.{Opened}
use Rattle.meta_server.specs.Closing.{holds}
use Rattle.meta_server.specs.Files.{File, MetaView, file_named, file_of, same_name}
use Rattle.meta_server.specs.Sound.{AreNamedApart, IsSoundFile}
use Rattle.script_values.specs.declared.command.Command.{Command}
use Rattle.script_values.specs.declared.command.Command.TheVariants as command
use Rattle.script_values.specs.Scripts.{command_after}
use Rattle.call_steps.specs.Runs.{CallStep}
use Rattle.client_read.specs.declared.phase.ReadAt.{ReadAt}
use Rattle.client_read.specs.declared.phase.ReadAt.TheVariants as at
use Rattle.client_read.specs.Fitting.{IsAsked, ReadFits}
use Rattle.client_read.specs.Reads.{new_read, read_on}
use Rattle.client_read.specs.Told.{IsFair}
use Rattle.client_read.specs.Views.{ReadView}
use Rattle.flr_steps.specs.declared.client.Running.{Running}
use Rattle.flr_steps.specs.declared.client.Running.TheVariants as running
use Rattle.flr_steps.specs.Conditions.{CallFits, StepFits}
use Rattle.flr_steps.specs.States.{IsRun, State}
use Rattle.flr_numbers.specs.Calls.{read_hand}
use Rattle.flr_numbers.specs.Hands.{AreServers, IsOpenAs}
use Rattle.flr_behind.specs.Sentences.{IsKnown}
use Rattle.flr_runs.proofs.Runs as runs
use Rattle.flr_asked.specs.CallRuns.{StandsIn, of_kind}
use Rattle.flr_claims.specs.Calls.{shares_lock}
use Rattle.flr_bytes.specs.Pieces.{ReadHas}
use Rattle.flr_honest.proofs.Knowing.Pieces.{IsThere, held_there}
use Rattle.flr_honest.proofs.CallSteps.Asked.{read_asked}
use Rattle.flr_honest.proofs.CallSteps.Calling.{made_as}
use Rattle.flr_honest.proofs.CallSteps.Failing.{fails_listed}
use Rattle.flr_honest.proofs.CallSteps.Standing.{before_servers, call_has, call_knows, call_pieces, old_run}
use Rattle.flr_honest.proofs.ReadCauses.Making.{IsReadableAt, MadeWell}

-- ---- files by their names

-- of files with different names one is found by its name
pub found_named : (name : List ℕ) (files : List File) (f : File) → AreNamedApart files → In f files → f.name ≡ name → file_named name files ≡ Some f
found_named name files f apart i named = find_only (λ (g : File). same_name name g.name) files f i own (λ g j has. one files g f apart j i (sym (same_text name g.name (sym has)) ∙ sym named))
  where
    own : same_name name f.name ≡ true
    own = elim (cases_Bool (same_name name f.name)) as (λ _. same_name name f.name ≡ true) [ inl is ↦ is | inr isnt ↦ absurd (other_text name f.name (sym isnt) (sym named)) ]

    one : (fs : List File) (g h : File) → AreNamedApart fs → In g fs → In h fs → g.name ≡ h.name → g ≡ h
    one [] g h apart i j same = absurd i
    one (k ∷ ks) g h apart (inl p) (inl q) same = sym p ∙ q
    one (k ∷ ks) g h apart (inl p) (inr j) same = absurd (every_in (λ (x : File). k.name ≡ x.name → ⊥) ks h apart.0 j (ap (λ (x : File). x.name) p ∙ same))
    one (k ∷ ks) g h apart (inr i) (inl q) same = absurd (every_in (λ (x : File). k.name ≡ x.name → ⊥) ks g apart.0 i (ap (λ (x : File). x.name) q ∙ sym same))
    one (k ∷ ks) g h apart (inr i) (inr j) same = one ks g h apart.1 i j same

-- who holds a cookie shares the lock
held_shares : (c : ℕ) (f : File) (cookie : Share) → cookie.client ≡ c → is_held f.lock cookie ≡ true → shares_lock c f ≡ true
held_shares c f cookie own held = by (some_in (λ (share : Share). same_cookie share cookie) f.lock.cookies held)
  where
    by : ((share : Share) × In share f.lock.cookies × (same_cookie share cookie ≡ true)) → shares_lock c f ≡ true
    by found =
        let same = (and_parts (nat_eq found.0.client cookie.client) (nat_eq found.0.number cookie.number) found.2).0 in
        any_in (λ (share : Share). nat_eq share.client c) f.lock.cookies found.0 found.1 (eq-eqb found.0.client c (eqb-true found.0.client cookie.client same ∙ own))

-- ---- a step of a read

-- the file that is open is there still by its name, its lock is shared by the client, and it has the layout that was got
pub record IsOpenStill (m : MetaView) (c : ℕ) (name : List ℕ) (o : Opened) : Type 0 where
  pub file : File
  pub there : file_of o.file m.files ≡ Some file
  pub named : file_named name m.files ≡ Some file
  pub shares : shares_lock c file ≡ true
  pub layout : o.layout ≡ file.layout

module _ (s : State) (run : IsRun s) (c : ℕ) (name : List ℕ) (offset len : ℕ) (x : CallStep ReadView) (st : StandsIn s.script s.schedule c (command.Read name offset len) (of_kind running.Read x)) where
  abbrev asked : Command
  asked = command.Read name offset len

  abbrev range : Range
  range = record { start = offset; end = offset + len }

  -- the client's step finds what it wants
  fits_step : StepFits c st.step.client asked st.old.shared
  fits_step =
      let commanded : command_after st.old.script c st.step.client.done ≡ Some asked = st.step.commanded ∙ ap Some st.asked_is in
      runs.all_fit st.old (old_run s run c asked (of_kind running.Read x) st) c st.step.client st.step.here asked commanded

  fits_call : ReadFits x.call x.before
  fits_call = subst (ReadFits x.call) (sym st.before_is) (subst (λ (k : Running). CallFits k asked st.old.shared) st.call_is fits_step.call)

  -- what holds of the servers of every run holds before the step
  pub servers_good : AreServers x.before.meta x.before.targets
  servers_good = before_servers s run c asked (of_kind running.Read x) st

  -- it asks for as many bytes as a read may
  pub asks : IsAsked range
  asks = let a = fits_step.askable in let low = a.0 in let some = a.1.0 in let most = a.1.1 in record { some = omega (arith, some); most = omega (arith, most); below = low }

  valid_files : (fs : List File) → AllByRecursion IsSoundFile fs → AllByRecursion (λ (f : File). IsValid f.layout) fs
  valid_files [] all = tt
  valid_files (f ∷ fs) all = (all.0.layout, valid_files fs all.1)

  -- the step finds what it wants
  pub fair : IsFair x
  fair = record { layouts = valid_files x.before.meta.files servers_good.sound.files; fits = fits_call }

  -- the read has the client, the name and the range of the command
  pub is_asked : x.call ≡ read_on (new_read c name offset len) x.call.at
  is_asked = read_asked s run c asked name offset len refl x st

  pub own_client : x.call.client ≡ c
  own_client = ap (λ (k : ReadView). k.client) is_asked

  pub own_name : x.call.name ≡ name
  own_name = ap (λ (k : ReadView). k.name) is_asked

  pub own_range : x.call.range ≡ range
  own_range = ap (λ (k : ReadView). k.range) is_asked

  -- what it has by its phase
  pub has_now : ReadHas c range x.call.at
  has_now = subst (λ (p : ℕ × Range). ReadHas p.0 p.1 x.call.at) (λ j. (own_client j, own_range j)) (call_pieces s run c asked (of_kind running.Read x) st).1

  -- and what it knows of the file that it has open
  known_now : IfSome (read_hand x.call.at).opened (IsKnown x.before.meta name)
  known_now = subst (λ (n : List ℕ). IfSome (read_hand x.call.at).opened (IsKnown x.before.meta n)) own_name (call_knows s run c asked (of_kind running.Read x) st)

  -- where it takes it knows its pieces
  pub readable : IsReadableAt range x.call.at
  readable = by x.call.at has_now
    where
      by : (a : ReadAt) → ReadHas c range a → IsReadableAt range a
      by at.Open has = tt
      by (at.Lock y next) has = tt
      by (at.Take y next) has = record { asked = asks; pieces = has.0.pieces; object = has.1 }
      by (at.Again y) has = tt
      by (at.Confirm y) has = tt
      by at.UnlockAgain has = tt
      by at.Unlock has = tt

  -- what it made is what its phase says
  pub made_well : MadeWell s.script.fails x
  made_well = record { made = made_as s run c asked (of_kind running.Read x) st; listed = fails_listed s run c asked (of_kind running.Read x) st }

  -- the file of a cookie that is held
  pub open_still : (o : Opened) → (read_hand x.call.at).opened ≡ Some o → o.cookie.client ≡ c → holds o.file o.cookie x.before.meta ≡ true → IsOpenStill x.before.meta c name o
  open_still o hand own held =
      let is : IsThere x.before.meta o = held_there x.before.meta o held in
      let known : IsKnown x.before.meta name o = subst (λ (p : Option Opened). IfSome p (IsKnown x.before.meta name)) hand known_now in
      let listed = found_in (λ (f : File). nat_eq f.number o.file) x.before.meta.files is.file is.there in
      let got : IsOpenAs (read_hand x.call.at).opened o.file o.cookie is.file.layout =
      (call_has s run c asked (of_kind running.Read x) st).cookies o.file o.cookie is.file.layout own (record { file = is.file; there = is.there; held = is.held; layout = refl }) in
      record {
        file = is.file;
        there = is.there;
        named = found_named name x.before.meta.files is.file servers_good.sound.named listed.0 (known.named is.file is.there);
        shares = held_shares c is.file o.cookie own is.held;
        layout = (subst (λ (p : Option Opened). IsOpenAs p o.file o.cookie is.file.layout) hand got).2;
      }
