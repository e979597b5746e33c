-- What a verify knows after each of its steps, and what it keeps through those of others.
use Rattle.std.proofs.Common.{◌≡◌, ◌≢◌, ℕ, zero, suc, ◌+◌, ◌<◌, ◌≤◌, Bool, true, false, cond, nat_lt, Option, Some, None, List, [], ◌∷◌, length, drop, get_or, refl, sym, ap, subst, ◌∙◌, zero-add, arith}
use Rattle.std.specs.List.{AllByRecursion}
use Rattle.std.proofs.lemmas.Bool.{ltb-true}
use Rattle.std.proofs.lemmas.List.{get_or-drop}
use Rattle.std.proofs.lemmas.List.Elements.{All-drop, All-from_recursion, recursion_from_All}
use Rattle.flr_base.specs.declared.reply.FailedCall.{FailedCall}
use Rattle.flr_base.specs.declared.reply.Range.{Range}
use Rattle.composite_layout.specs.Layouts.{Composite}
use Rattle.object_target.specs.declared.call.CallAnswer.{CallAnswer}
use Rattle.object_target.specs.declared.call.CallAnswer.TheVariants as answer
use Rattle.object_target.specs.Calls.{read_answer}
use Rattle.meta_server.specs.declared.answers.Opened.{Opened}
use Rattle.meta_server.specs.Closing.{holds}
use Rattle.meta_server.specs.Files.{File, MetaView, file_named, file_of, with_change, with_share}
use Rattle.meta_server.specs.Opening.{opened}
use Rattle.meta_laws.proofs.Copies.{sound_named, there_named}
use Rattle.call_steps.specs.Servers.{Servers}
use Rattle.client_read.specs.Reads.{read_step}
use Rattle.client_write.specs.Truncates.{truncate_step}
use Rattle.client_write.specs.Writes.{write_step}
use Rattle.mirror_verify.specs.declared.copies.BlockCopy.{BlockCopy}
use Rattle.mirror_verify.specs.declared.phase.VerifyAt.{VerifyAt}
use Rattle.mirror_verify.specs.declared.phase.VerifyAt.TheVariants as at
use Rattle.mirror_verify.specs.declared.phase.Verifying.{Verifying}
use Rattle.mirror_verify.specs.Blocks.{copies_of, copy_at, holes_first, is_hole, next_object}
use Rattle.mirror_verify.specs.Findings.{Finding, no_finding, with_copy, with_holes}
use Rattle.mirror_verify.specs.Fitting.{HasCopies}
use Rattle.mirror_verify.specs.Verifies.{bytes_of, closes, opens_file, takes_copy, takes_from, target_of, verify_at, verify_step, verifying, with_answer}
use Rattle.mirror_verify.specs.Views.{VerifyView}
use Rattle.resync_copy.specs.Steps.{copy_step}
use Rattle.flr_steps.specs.declared.client.Client.{Client}
use Rattle.flr_steps.specs.declared.client.Running.{Running}
use Rattle.flr_steps.specs.declared.client.Running.TheVariants as running
use Rattle.flr_steps.specs.Clients.{call_now}
use Rattle.flr_steps.specs.States.{State, client_at, place_in}
use Rattle.flr_steps.specs.Traces.{Trace, is_opening, traced, verify_opens}
use Rattle.flr_claims.specs.Sending.{attempt_of}
use Rattle.flr_numbers.specs.Calls.{verify_hand}
use Rattle.flr_numbers.specs.Sentences.{IsCallOf, hand_of}
use Rattle.flr_bytes.specs.Calls.{AreAlike, IsFirstRight, Says, VerifySays}
use Rattle.flr_bytes.specs.Files.{HoldBytes}
use Rattle.flr_bytes.specs.Laws.{StepsKeepBytes}
use Rattle.flr_bytes.specs.Runs.{Ground, Honest, IsStep}
use Rattle.flr_bytes.specs.Sentences.{AreBytes, byte_in}
use Rattle.flr_bytes.proofs.Clients.{under_way}
use Rattle.flr_honest.specs.Knowing.{OtherVerifiesSay, OwnVerifiesSay}
use Rattle.flr_bytes.specs.Pieces.{Has, HavePieces, VerifyHas}
use Rattle.flr_honest.proofs.Knowing.Closed.{file_valid}
use Rattle.flr_honest.proofs.Knowing.Copies.{InRow, IsShared, each_shared, in_row, row_behind}
use Rattle.flr_honest.proofs.Knowing.Others.{was_held}
use Rattle.flr_honest.proofs.Knowing.Own.{its_has, its_own, moved, never_next}
use Rattle.flr_honest.proofs.Knowing.Pieces.{IsThere, held_layout, held_there}
use Rattle.flr_honest.proofs.Knowing.Reading.{OnNext}
use Rattle.flr_honest.proofs.Knowing.Steps.{any_next, once_next, own_next, quiet_stays, shut_stays, widened}
use Rattle.flr_honest.proofs.Knowing.Verifying.{AreRightAt, copy_shut, hole_bytes, holes_right, one_right, read_bytes}

-- what stands behind the last copy
abbrev nothing : BlockCopy
nothing = record { piece = record { range = record { start = 0; end = 0 }; component = 0; object = None; offset = 0 }; against = None }

-- while the cookie is held, the file was there before the step, no difference was found, and the bytes of the first copy of the block in hand are those that the file had then
abbrev IsFoundSo : MetaView → MetaView → (ℕ → ℕ → ℕ) → Verifying → ℕ → Type 0
IsFoundSo old m byte x next = holds x.opened.file x.opened.cookie m ≡ true → ((f : File) × (file_of x.opened.file old.files ≡ Some f)) × AreRightAt (byte x.opened.file) (copy_at x.copies next) x.found

abbrev SaysSo : MetaView → MetaView → (ℕ → ℕ → ℕ) → VerifyAt → Type 0
SaysSo old m byte at.Open = Unit {0}
SaysSo old m byte (at.Take x next) = IsFoundSo old m byte x next
SaysSo old m byte (at.Close x fault) = AreAlike m x

takes_say : (old m : MetaView) (byte : ℕ → ℕ → ℕ) (x : Verifying) (next : ℕ) → IsFoundSo old m byte x next → SaysSo old m byte (takes_from x next)
takes_say old m byte x next so = by (nat_lt next (length x.copies))
  where
    by : (b : Bool) → SaysSo old m byte (cond b (at.Take x next) (at.Close x None))
    by true = so
    by false = (λ h. (so h).1.0)

-- what holds of each holds at a place
at_place : {X : Type 0} (P : X → Type 0) (xs : List X) (i : ℕ) (d : X) → i < length xs → AllByRecursion P xs → P (get_or xs i d)
at_place P [] i d h all = absurd (omega (arith, h))
at_place P (x ∷ xs) zero d h all = all.0
at_place P (x ∷ xs) (suc i) d h all = at_place P xs i d (omega (arith, h)) all.1

-- the copies of a verify are those of the layout that the file has
its_copies : (f : File) (x : Verifying) → HasCopies x → x.opened.layout ≡ f.layout → AllByRecursion (IsShared f.layout.components) x.copies
its_copies f x has same = subst (λ (l : Composite). AllByRecursion (IsShared l.components) x.copies) same (subst (AllByRecursion (IsShared x.opened.layout.components)) (sym has.are) (each_shared x.opened.layout has.valid x.opened.size has.size))

-- ---- its own steps

module _ (s : State) (tr : Trace) (g : Ground s tr) (hold : HoldBytes s tr) (v : VerifyView) where
  abbrev byte : ℕ → ℕ → ℕ
  byte = byte_in s tr

  abbrev Then : VerifyView → Servers → Type 0
  Then next after = SaysSo s.shared.meta after.meta byte next.at

  -- each hole among these has zeros
  zeros : (n : ℕ) (f : File) → file_of n s.shared.meta.files ≡ Some f → (copies : List BlockCopy) → AllByRecursion (IsShared f.layout.components) copies → AllByRecursion (λ (copy : BlockCopy). is_hole copy ≡ true → AreBytes (byte n) copy.piece.range []) copies
  zeros n f found [] all = tt
  zeros n f found (copy ∷ copies) all = (hole_bytes s tr g hold n f found copy all.0, zeros n f found copies all.1)

  opens_say : (o : Option File) → file_named v.name s.shared.meta.files ≡ o → OnNext Then (opens_file v s.shared o)
  opens_say None e = tt
  opens_say (Some f) e =
      let copies : List BlockCopy = copies_of f.layout.components f.size in
      let found : file_of f.number s.shared.meta.files ≡ Some f = there_named s.shared.meta g.holds.servers.sound v.name f e in
      let size = (sound_named s.shared.meta g.holds.servers.sound v.name f e).size in
      let after : MetaView = with_change f.number (with_share v.client) s.shared.meta in
      let all : AllByRecursion (IsShared f.layout.components) copies = each_shared f.layout (file_valid s tr g f.number f found) f.size size in
      let first : AreRightAt (byte f.number) (get_or copies (holes_first copies) nothing) (with_holes copies no_finding) = holes_right (byte f.number) copies None no_finding nothing refl (in_row f.layout.components f.size None) (zeros f.number f found copies all) (refl, λ range none. absurd (cc)) in
      takes_say s.shared.meta after byte (verifying (opened v.client f) copies) (next_object copies 0) (λ h. ((f, found), subst (λ n. AreRightAt (byte f.number) (get_or copies n nothing) (with_holes copies no_finding)) (sym (zero-add (holes_first copies))) first))

  module _ (k : ℕ) (client : Client) (here : client_at s.clients k ≡ Some client) (mine : v.client ≡ k) where
    pub layout_now : (a : VerifyAt) (o : Opened) → client.call ≡ running.Verify v → v.at ≡ a → (verify_hand a).opened ≡ Some o → o.cookie.client ≡ v.client → (is : IsThere s.shared.meta o) → o.layout ≡ is.file.layout
    layout_now a o call e hand own is =
        held_layout s g.holds k client here o (ap (λ (c : Running). (hand_of c).opened) call ∙ ap (λ (b : VerifyAt). (verify_hand b).opened) e ∙ hand) (own ∙ mine) is

    took_says : (x : Verifying) (next : ℕ) → client.call ≡ running.Verify v → v.at ≡ at.Take x next → VerifyHas v.client (at.Take x next) → VerifySays s.shared.meta byte (at.Take x next) → IsFoundSo s.shared.meta s.shared.meta byte (with_answer s.shared x next) (next_object x.copies (next + 1))
    took_says x next call e has known h =
        let is = held_there s.shared.meta x.opened h in
        let f : File = is.file in
        let same : x.opened.layout ≡ f.layout = layout_now (at.Take x next) x.opened call e refl has.0 is in
        let all : AllByRecursion (IsShared f.layout.components) x.copies = its_copies f x has.1 same in
        let copy : BlockCopy = copy_at x.copies next in
        let its : IsShared f.layout.components copy = at_place (IsShared f.layout.components) x.copies next nothing has.2.there all in
        let right = one_right (byte x.opened.file) copy (bytes_of s.shared copy.piece) x.found (read_bytes s tr g hold x.opened.file f is.there copy its has.2.object) (known.0 h, known.1 h) in
        let row : InRow None x.copies = subst (InRow None) (sym has.1.are) (in_row x.opened.layout.components x.opened.size None) in
        let behind : List BlockCopy = drop (next + 1) x.copies in
        let rest : AllByRecursion (IsShared f.layout.components) behind = recursion_from_All (IsShared f.layout.components) behind (All-drop (IsShared f.layout.components) (next + 1) x.copies (All-from_recursion (IsShared f.layout.components) x.copies all)) in
        let found : Finding = with_copy copy (bytes_of s.shared copy.piece) x.found in
        let after : AreRightAt (byte x.opened.file) (get_or behind (holes_first behind) nothing) (with_holes behind found) = holes_right (byte x.opened.file) behind (Some copy.piece.range) found nothing refl (row_behind x.copies None next nothing row has.2.there) (zeros x.opened.file f is.there behind rest) right in
        ((f, is.there), subst (λ (c : BlockCopy). AreRightAt (byte x.opened.file) c (with_holes behind found)) (get_or-drop (next + 1) x.copies (holes_first behind) nothing) after)

    take_says : (x : Verifying) (next : ℕ) (a : CallAnswer) → client.call ≡ running.Verify v → v.at ≡ at.Take x next → VerifyHas v.client (at.Take x next) → VerifySays s.shared.meta byte (at.Take x next) → OnNext Then (takes_copy v s.shared x next (copy_at x.copies next).piece a)
    take_says x next answer.Ok call e has known = takes_say s.shared.meta s.shared.meta byte (with_answer s.shared x next) (next_object x.copies (next + 1)) (took_says x next call e has known)
    take_says x next (answer.Old kept) call e has known = known.0
    take_says x next answer.Failed call e has known = known.0

    close_says : (x : Verifying) (fault : Option FailedCall) (b : Bool) → OnNext Then (closes v s.shared x fault b)
    close_says x fault false = tt
    close_says x fault true = tt

    -- each step of a verify
    pub verify_says : (a : VerifyAt) → v.at ≡ a → (is_opening (running.Verify v) ≡ false → client.call ≡ running.Verify v) → VerifyHas v.client a → VerifySays s.shared.meta byte a → OnNext Then (verify_at a v s.shared)
    verify_says at.Open e was has known = opens_say (file_named v.name s.shared.meta.files) refl
    verify_says (at.Take x next) e was has known = take_says x next (read_answer (target_of s.shared (copy_at x.copies next).piece)) (was (ap verify_opens e)) e has known
    verify_says (at.Close x fault) e was has known = close_says x fault (holds x.opened.file x.opened.cookie s.shared.meta)

-- the same bytes of a block
bytes_then : (old new : ℕ → ℕ) (range : Range) (bytes : List ℕ) → ((y : ℕ) → range.start ≤ y → y < range.end → new y ≡ old y) → AreBytes old range bytes → AreBytes new range bytes
bytes_then old new range bytes same right i = right i ∙ by (nat_lt (range.start + i) range.end) refl
  where
    by : (b : Bool) → nat_lt (range.start + i) range.end ≡ b → cond b (old (range.start + i)) 0 ≡ cond b (new (range.start + i)) 0
    by true e = sym (same (range.start + i) (omega arith) (ltb-true (range.start + i) range.end e))
    by false e = refl

module _ (keep : StepsKeepBytes) (s t : State) (old new : Trace) (c : ℕ) (is : IsStep s t old new c) (e : new ≡ traced s t old c) (have : HavePieces s) (honest : Honest s old) (v : VerifyView) (u : call_now c is.step.client.call is.step.asked ≡ running.Verify v) where
  was : is_opening (running.Verify v) ≡ false → is.step.client.call ≡ running.Verify v
  was past = under_way c is.step.asked is.step.client.call (running.Verify v) u past

  knew : is_opening (running.Verify v) ≡ false → VerifySays s.shared.meta (byte_in s old) v.at
  knew past = subst (λ (x : Running). Says s.shared (byte_in s old) x) (was past) (honest.calls c is.step.client is.step.here)

  known : (a : VerifyAt) → v.at ≡ a → VerifySays s.shared.meta (byte_in s old) a
  known at.Open at_it = tt
  known (at.Take x next) at_it = subst (VerifySays s.shared.meta (byte_in s old)) at_it (knew (ap verify_opens at_it))
  known (at.Close x fault) at_it = subst (VerifySays s.shared.meta (byte_in s old)) at_it (knew (ap verify_opens at_it))

  abbrev After : Running → Servers → Type 0
  After x after = (q : VerifyView) → x ≡ running.Verify q → SaysSo s.shared.meta after.meta (byte_in s old) q.at

  verify_then : OnNext After is.step.came
  verify_then =
      let has : Has (running.Verify v) = subst Has u (its_has s t old new c is have) in
      let mine : v.client ≡ c = subst (IsCallOf c) u (its_own s t old new c is) in
      subst (OnNext After) (moved s t old new c is (running.Verify v) u)
      (widened (λ next after. SaysSo s.shared.meta after.meta (byte_in s old) next.at) After running.Verify
      (λ x after says q same. (let one : x ≡ q = cc in subst (λ (y : VerifyView). SaysSo s.shared.meta after.meta (byte_in s old) y.at) one says))
      (verify_step v (place_in s) s.shared) (verify_says s old is.before honest.holds v c is.step.client is.step.here mine v.at refl was has (known v.at refl)))

  says_then : (a : VerifyAt) → SaysSo s.shared.meta t.shared.meta (byte_in s old) a → VerifySays t.shared.meta (byte_in t new) a
  says_then at.Open so = tt
  says_then (at.Take x next) so = (
    λ h. (so h).1.0,
    λ h later.
        (
        let found = so h in
        let there = held_there t.shared.meta x.opened h in
        bytes_then (byte_in s old x.opened.file) (byte_in t new x.opened.file) (copy_at x.copies next).piece.range x.found.first
        (λ y low high. quiet_stays keep s t old new c is e honest x.opened.file y found.0.0 there.file found.0.1 there.there (ap attempt_of u)) (found.1.1 later)
        ),
  )
  says_then (at.Close x fault) so = so

  pub verify_knows : (client : Client) (q : VerifyView) → client_at t.clients c ≡ Some client → client.call ≡ running.Verify q → VerifySays t.shared.meta (byte_in t new) q.at
  verify_knows client q there call = says_then q.at (own_next After (λ after p same. absurd (cc)) s t c is.step verify_then client there q call)

-- no call verifies
abbrev Never : Running → Servers → Type 0
Never x after = (q : VerifyView) → x ≡ running.Verify q → ⊥

pub own_verifies : StepsKeepBytes → OwnVerifiesSay
own_verifies keep s t old new c is e honest client call there mine = by (call_now c is.step.client.call is.step.asked) refl
  where
    never : OnNext Never is.step.came → VerifySays t.shared.meta (byte_in t new) call.at
    never h = absurd (own_next Never (λ after q same. cc) s t c is.step h client there call mine)

    by : (now : Running) → call_now c is.step.client.call is.step.asked ≡ now → VerifySays t.shared.meta (byte_in t new) call.at
    by running.Idle u = never (never_next s t old new c is Never running.Idle u (once_next Never c (place_in s) s.shared is.step.asked))
    by (running.Read w) u = never (never_next s t old new c is Never (running.Read w) u (any_next Never running.Read (λ x after q same. cc) (read_step w (place_in s) s.shared)))
    by (running.Write w) u = never (never_next s t old new c is Never (running.Write w) u (any_next Never running.Write (λ x after q same. cc) (write_step w (place_in s) s.shared)))
    by (running.Truncate w) u = never (never_next s t old new c is Never (running.Truncate w) u (any_next Never running.Truncate (λ x after q same. cc) (truncate_step w (place_in s) s.shared)))
    by (running.Copy w) u = never (never_next s t old new c is Never (running.Copy w) u (any_next Never running.Copy (λ x after q same. cc) (copy_step w (place_in s) s.shared)))
    by (running.Verify v) u = verify_knows keep s t old new c is e is.before.pieces honest v u client call there mine

-- ---- steps of others

module _ (keep : StepsKeepBytes) (s t : State) (old new : Trace) (c d : ℕ) (is : IsStep s t old new c) (e : new ≡ traced s t old c) (have : HavePieces s) (honest : Honest s old) (apart : d ≡ c → ⊥) (client : Client) (v : VerifyView) (here : client_at s.clients d ≡ Some client) (call : client.call ≡ running.Verify v) where
  its_client : v.client ≡ d
  its_client = subst (IsCallOf d) call (is.before.holds.clients d client here).call

  had : Has (running.Verify v)
  had = subst Has call (have d client here)

  said : VerifySays s.shared.meta (byte_in s old) v.at
  said = subst (λ (x : Running). Says s.shared (byte_in s old) x) call (honest.calls d client here)

  others : (o : Opened) → o.cookie.client ≡ v.client → o.cookie.client ≢ c
  others o own same = apart (sym (own ∙ its_client) ∙ same)

  alike_still : (x : Verifying) → x.opened.cookie.client ≡ v.client → AreAlike s.shared.meta x → AreAlike t.shared.meta x
  alike_still x own alike h = alike (was_held s t old new c is x.opened (others x.opened own) h).holding

  first_still : (x : Verifying) (next : ℕ) → v.at ≡ at.Take x next → VerifyHas v.client (at.Take x next) → IsFirstRight s.shared.meta (byte_in s old) x next → IsFirstRight t.shared.meta (byte_in t new) x next
  first_still x next at_it has first h later =
      let w = was_held s t old new c is x.opened (others x.opened has.0) h in
      let f : File = w.before.file in
      let same : x.opened.layout ≡ f.layout = layout_now s old is.before honest.holds v d client here its_client (at.Take x next) x.opened call at_it refl has.0 w.before in
      let its : IsShared f.layout.components (copy_at x.copies next) = at_place (IsShared f.layout.components) x.copies next nothing has.2.there (its_copies f x has.1 same) in
      bytes_then (byte_in s old x.opened.file) (byte_in t new x.opened.file) (copy_at x.copies next).piece.range x.found.first
      (λ y low high. shut_stays keep s t old new c is e honest x.opened.file y f w.after.file w.before.there w.after.there (copy_shut s old is.before honest.holds x.opened.file f w.before.there (copy_at x.copies next) its y low high))
      (first w.holding later)

  still_says : (a : VerifyAt) → v.at ≡ a → VerifyHas v.client a → VerifySays s.shared.meta (byte_in s old) a → VerifySays t.shared.meta (byte_in t new) a
  still_says at.Open at_it has k = tt
  still_says (at.Take x next) at_it has k = (alike_still x has.0 k.0, first_still x next at_it has k.1)
  still_says (at.Close x fault) at_it has k = alike_still x has k

  pub other_says : VerifySays t.shared.meta (byte_in t new) v.at
  other_says = still_says v.at refl had said

pub other_verifies : StepsKeepBytes → OtherVerifiesSay
other_verifies keep s t old new c d is e honest apart client call here mine = other_says keep s t old new c d is e is.before.pieces honest apart client call here mine
