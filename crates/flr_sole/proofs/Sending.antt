-- What a step of a writing call does to its attempt: a new one has sent nothing, and its parts lie in the only fresh components; one that goes on lands what could land; or there is none.
use Rattle.std.proofs.Common.{◌≡◌, ℕ, zero, suc, ◌+◌, ◌<◌, ◌≤◌, Bool, true, false, cond, ◌&&◌, nat_eq, nat_lt, Option, Some, None, List, [], ◌∷◌, ◌++◌, length, map, ◌⊎◌, inl, inr, refl, sym, ap, subst, ◌∙◌, arith, length-append}
use Rattle.std.specs.Prelude.{Contains, slice_get, slice_index_or, unwrap_or}
use Rattle.std.proofs.lemmas.Bool.Decides.{nat_tests}
use Rattle.flr_base.specs.declared.reply.FailedCall.{FailedCall}
use Rattle.flr_base.specs.declared.reply.ObjectId.{ObjectId}
use Rattle.flr_base.specs.declared.reply.Range.{Range}
use Rattle.composite_layout.specs.Choices.{is_ready}
use Rattle.composite_layout.specs.Layouts.{Composite, IsValid, eof}
use Rattle.layout_state.specs.Choosing.{is_over}
use Rattle.layout_state.proofs.ReadyLaws.{intent_ready}
use Rattle.mirror_select.specs.declared.types.Piece.{Piece}
use Rattle.mirror_select.specs.declared.types.Tail.{Tail}
use Rattle.mirror_select.specs.Pieces.{write_pieces_of}
use Rattle.mirror_select.specs.Tails.{StripeObject, tail_in, tail_stripes, tails_of}
use Rattle.object_target.specs.declared.call.CallAnswer.{CallAnswer}
use Rattle.object_target.specs.declared.call.CallAnswer.TheVariants as answer
use Rattle.object_target.specs.declared.call.CallEntry.{CallEntry}
use Rattle.object_target.specs.declared.call.CallKind.TheVariants as kind
use Rattle.object_target.specs.declared.fail.Fail.{Fail}
use Rattle.object_target.specs.Calls.{after_punch, after_write, punch_answer, write_answer}
use Rattle.object_target.specs.Fails.{fails_on, kind_of}
use Rattle.object_target.specs.TargetState.{bytes_at, version_at}
use Rattle.extent_lock.specs.Extents.{blocker}
use Rattle.meta_server.specs.declared.answers.Opened.{Opened}
use Rattle.meta_server.specs.Closing.{grown, is_there, last_eviction, shortened}
use Rattle.meta_server.specs.Files.{File, MetaView, file_named, file_of, with_layout, with_share}
use Rattle.meta_server.specs.Layouts.{intended, nexts_over}
use Rattle.flr_base.specs.Limits.{most_bytes}
use Rattle.meta_server.specs.Opening.{change_opens_file, cut_opens, with_intent, write_opens}
use Rattle.meta_server.specs.Outcomes.{Gives, Refuses, Waits}
use Rattle.meta_server.specs.Outcomes as meta
use Rattle.meta_server.specs.Sound.{IsSound}
use Rattle.meta_laws.specs.Calls.{OpenCut, OpenWrite, left_by}
use Rattle.meta_laws.proofs.Changing.{intended_valid}
use Rattle.meta_laws.proofs.Copies.{sound_named, there_named}
use Rattle.meta_laws.proofs.Finding.{same_found}
use Rattle.call_steps.specs.Pieces.{object_of, piece_at}
use Rattle.call_steps.specs.Servers.{AreThere, Servers, next_call_on}
use Rattle.call_steps.specs.Steps.{Outcome, Going, Fixed, Ended, Answered, Blocked}
use Rattle.client_write.specs.declared.phase.CutAt.{CutAt}
use Rattle.client_write.specs.declared.phase.CutAt.TheVariants as cut
use Rattle.client_write.specs.declared.phase.Sent.{Sent}
use Rattle.client_write.specs.declared.phase.Sent.TheVariants as sent
use Rattle.client_write.specs.declared.phase.WriteAt.{WriteAt}
use Rattle.client_write.specs.declared.phase.WriteAt.TheVariants as write
use Rattle.client_write.specs.Calls.{TruncateView, WriteView}
use Rattle.client_write.specs.CutFitting.{IsSoundCutAt}
use Rattle.client_write.specs.Fitting.{IsAsked, IsSoundAt}
use Rattle.client_write.specs.Parts.{came_of}
use Rattle.client_write.specs.Truncates.{after_punches, commits_cut, cut_committed, first_blocker, locks_for, locks_tails, opens_cut, tail_at, tail_punched, target_of_tail, truncate_at}
use Rattle.client_write.specs.Views.{CuttingView, WritingView}
use Rattle.client_write.specs.Writes.{after_send, bytes_of, commits_to, commits_write, ends_old, locks_from, opens, range_of, sends_from, sends_piece, target_of, write_at, writing}
use Rattle.client_write.specs.Writes as writes
use Rattle.client_write.proofs.Cuttable.{tail_there}
use Rattle.client_write.proofs.Writable.{object_there}
use Rattle.flr_numbers.specs.Calls.{cut_hand, write_hand}
use Rattle.flr_numbers.specs.Hands.{version_on}
use Rattle.flr_numbers.proofs.Coming.{open_cases}
use Rattle.flr_numbers.proofs.Objects.{punch_version, write_version}
use Rattle.flr_steps.specs.Traces.{Doing, Made, has_landed, is_accepted, is_sending, made_by, sent_calls}
use Rattle.flr_claims.specs.Sending.{Attempt, HasLanded, IsAdmitted, OfTruncate, OfWrite, Part, cut_attempt, part_object, write_attempt}
use Rattle.flr_sole.specs.Sentences.{HasSentPieces, HasSentTails, IsAlone, StandsAlone}
use Rattle.flr_sole.proofs.Calm.{IsCalm, calm}
use Rattle.flr_sole.proofs.Making.{made_none, made_one, sent_more, sent_one}
use Rattle.flr_sole.proofs.Metas.{Spares, call_spares, locked, same}
use Rattle.flr_sole.proofs.Parts.{piece_alone, tail_alone}
use Rattle.flr_sole.proofs.Targets.{alike, effect_new, still}

-- ---- an attempt that goes on

-- what the call has done once it made these calls more
abbrev pub with_made : Doing → List Made → Doing
with_made d made = record { opened = d.opened; made = d.made ++ made }

-- nothing that was sent is lost, and what has landed then had landed, or could land
pub record Continues (fails : List Fail) (s : Servers) (a : Option Attempt) (d new : Doing) : Type 0 where
  pub longer : length (sent_calls d) ≤ length (sent_calls new)
  pub lands : (b : Attempt) (place : ℕ) (p : Part) → a ≡ Some b → HasLanded fails b new place p → HasLanded fails b d place p ⊎ IsAdmitted s b d place p

nothing_more : (d : Doing) → sent_calls (with_made d []) ≡ sent_calls d
nothing_more d = sent_more d.opened d.made [] ∙ behind (sent_calls d)
  where
    behind : (xs : List Made) → xs ++ [] ≡ xs
    behind [] = refl
    behind (x ∷ xs) = ap (λ (ys : List Made). x ∷ ys) (behind xs)

-- where the same was sent
same_sent : (fails : List Fail) (s : Servers) (a : Option Attempt) (d new : Doing) → sent_calls new ≡ sent_calls d → Continues fails s a d new
same_sent fails s a d new same = record {
  longer = (let e : length (sent_calls new) ≡ length (sent_calls d) = ap (λ (ms : List Made). length ms) same in omega (arith, e));
  lands = λ b place p is l. inl (record { there = l.there; made = l.made; sent = sym (ap (λ (ms : List Made). slice_get ms place) same) ∙ l.sent; landed = l.landed });
}

got_last : {X : Type 0} (xs : List X) (x y : X) (i : ℕ) → slice_get (xs ++ x ∷ []) i ≡ Some y → (slice_get xs i ≡ Some y) ⊎ ((i ≡ length xs) × (x ≡ y))
got_last [] x y zero e = inr (refl, cc)
got_last [] x y (suc i) e = absurd (cc)
got_last (w ∷ ws) x y zero e = inl e
got_last (w ∷ ws) x y (suc i) e = elim (got_last ws x y i e) as (λ _. (slice_get ws i ≡ Some y) ⊎ ((suc i ≡ length (w ∷ ws)) × (x ≡ y))) [ inl k ↦ inl k | inr k ↦ inr (ap suc k.0, k.1) ]

-- a part is sent: it is the next one, and lands only where its object keeps no version above the generation of the open
module _ (fails : List Fail) (s : Servers) (a : Option Attempt) (d : Doing) (m : Made) (after : d.opened < m.place) (o : ObjectId) (b : Bool)
    (is_sent : (is_sending m.entry.kind && is_accepted m.entry.answer) ≡ b)
    (kept : m.kept ≡ version_on s.targets o)
    (next : (x : Attempt) (p : Part) → a ≡ Some x → slice_get x.parts (length (sent_calls d)) ≡ Some p → (part_object p ≡ o) × (m.entry.version ≡ x.opened.layout.generation)) where
  one_more : sent_calls (with_made d (m ∷ [])) ≡ sent_calls d ++ cond b (m ∷ []) []
  one_more = sent_more d.opened d.made (m ∷ []) ∙ ap (λ (ms : List Made). sent_calls d ++ ms) (sent_one d.opened m b after is_sent)

  current : has_landed fails m ≡ true → m.kept ≤ m.entry.version
  current landed = let isnt : nat_lt m.entry.version m.kept ≡ false = effect_new (kind_of (fails_on m.target fails) m.call) (nat_lt m.entry.version m.kept) landed in grind (arith, nat_tests)

  pub sends_on : Continues fails s a d (with_made d (m ∷ []))
  sends_on = by b one_more
    where
      at : (x : Attempt) (place : ℕ) (p : Part) → a ≡ Some x → (l : HasLanded fails x (with_made d (m ∷ [])) place p) → (slice_get (sent_calls d) place ≡ Some l.made) ⊎ ((place ≡ length (sent_calls d)) × (m ≡ l.made)) → HasLanded fails x d place p ⊎ IsAdmitted s x d place p
      at x place p is l (inl before) = inl (record { there = l.there; made = l.made; sent = before; landed = l.landed })
      at x place p is l (inr last) =
          let parts = next x p is (ap (λ i. slice_get x.parts i) (sym last.0) ∙ l.there) in
          let low = current (ap (has_landed fails) last.1 ∙ l.landed) in
          let here : version_on s.targets (part_object p) ≡ m.kept = ap (version_on s.targets) parts.0 ∙ sym kept in
          let level = parts.1 in
          let end = last.0 in
          inr (record { there = l.there; unsent = omega (arith, end); current = omega (arith, low, here, level) })

      by : (c : Bool) → sent_calls (with_made d (m ∷ [])) ≡ sent_calls d ++ cond c (m ∷ []) [] → Continues fails s a d (with_made d (m ∷ []))
      by false more = same_sent fails s a d (with_made d (m ∷ [])) (more ∙ sym (sent_more d.opened d.made []) ∙ nothing_more d)
      by true more = record {
        longer = (let e : length (sent_calls (with_made d (m ∷ []))) ≡ length (sent_calls d ++ m ∷ []) = ap (λ (ms : List Made). length ms) more in let long = length-append (sent_calls d) (m ∷ []) in omega (arith, e, long));
        lands = λ x place p is l. at x place p is l (got_last (sent_calls d) m l.made place (sym (ap (λ (ms : List Made). slice_get ms place) more) ∙ l.sent));
      }

  pub one_longer : b ≡ true → length (sent_calls (with_made d (m ∷ []))) ≡ length (sent_calls d) + 1
  one_longer e = ap (λ (ms : List Made). length ms) (one_more ∙ ap (λ (c : Bool). sent_calls d ++ cond c (m ∷ []) []) e) ∙ length-append (sent_calls d) (m ∷ [])

got_mapped : {X Y : Type 0} (f : X → Y) (xs : List X) (i : ℕ) (d : X) (y : Y) → slice_get (map f xs) i ≡ Some y → f (slice_index_or xs i d) ≡ y
got_mapped f [] i d y e = absurd (cc)
got_mapped f (x ∷ xs) zero d y e = cc
got_mapped f (x ∷ xs) (suc i) d y e = got_mapped f xs i d y e

some_same : {X : Type 0} (x y : X) → Some x ≡ Some y → x ≡ y
some_same x y e = cc

-- ---- an open

-- what an open gives: the file is there with the layout that was got, which is valid and ready for the range
pub record IsReadied (m : MetaView) (range : Range) (o : Opened) : Type 0 where
  pub file : File
  pub there : file_of o.file m.files ≡ Some file
  pub layout : file.layout ≡ o.layout
  pub valid : IsValid o.layout
  pub ready : is_ready o.layout range ≡ true

abbrev pub Readies : Bool → Range → meta.Outcome Opened → Type 0
Readies too_big range (Gives o after) = IsReadied after range o × (too_big ≡ false)
Readies too_big range (Refuses answer) = Unit {0}
Readies too_big range (Waits holder) = Unit {0}

pub readied : (m : MetaView) → IsSound m → (client : ℕ) (name : List ℕ) (range : Range) (step : ℕ) (too_big : Bool) → Readies too_big range (change_opens_file client range step m name too_big (file_named name m.files))
readied m h client name range step too_big = open_cases (Readies too_big range) client name range step m too_big (record {
  refuses = λ answer. tt;
  waits = λ holder. tt;
  shared = λ f big e ready. (record { file = with_share client f; there = same_found f.number (with_share client) m.files f (λ y. refl) (there_named m h name f e); layout = refl; valid = (sound_named m h name f e).layout; ready = ready }, big);
  intended = λ f mirror big e primary alone. (
      let l : Composite = intended range mirror f.number m.nexts f.layout in
      let mid : MetaView = with_intent range mirror step f m in
      let valid = (sound_named m h name f e).layout in
      let first : file_of f.number mid.files ≡ Some (with_layout l f) = same_found f.number (with_layout l) m.files f (λ y. refl) (there_named m h name f e) in (
        record {
          file = with_share client (with_layout l f);
          there = same_found f.number (with_share client) mid.files (with_layout l f) (λ y. refl) first;
          layout = refl;
          valid = intended_valid range mirror f.number m.nexts f.layout h.nexts primary valid;
          ready = intent_ready range mirror f.number m.nexts f.layout l (nexts_over (is_over range mirror) f.number m.nexts f.layout) valid primary (record { layout = refl; past = refl });
        },
        big,
      )
      );
})

-- ---- what a step does to the attempt

-- there is none any more; or a new one, of which nothing was sent, and whose parts lie in the only fresh components; or it goes on
pub data Turns (fails : List Fail) (s : Servers) (was : Option Attempt) (d : Doing) (is : Option Attempt) (after : Servers) (new : Doing) : Type 0 where
  GivesUp : is ≡ None → Turns fails s was d is after new
  Begins : ((a : Attempt) (place : ℕ) (p : Part) → is ≡ Some a → slice_get a.parts place ≡ Some p → StandsAlone after.meta.files a.opened.file p) → sent_calls new ≡ [] → Turns fails s was d is after new
  GoesOn : is ≡ was → Continues fails s was d new → Turns fails s was d is after new

-- what a step of a writing call leaves, with what the call has done by then
abbrev pub OnTurn : {C : Type 0} → List Fail → Servers → Option Attempt → Doing → (C → Option Attempt) → (C → Doing → Type 0) → (Servers → Doing) → Outcome C → Type 0
OnTurn fails s was d attempt sent then (Going next after) = Turns fails s was d (attempt next) after (then after) × sent next (then after) × IsCalm s after
OnTurn fails s was d attempt sent then (Fixed next reply takes after) = Turns fails s was d (attempt next) after (then after) × sent next (then after) × IsCalm s after
OnTurn fails s was d attempt sent then (Ended after) = IsCalm s after
OnTurn fails s was d attempt sent then (Answered reply takes after) = IsCalm s after
OnTurn fails s was d attempt sent then (Blocked holder) = Unit {0}

mapped : {X Y : Type 0} (f : X → Y) (xs : List X) (i : ℕ) (y : Y) → slice_get (map f xs) i ≡ Some y → (x : X) × Contains xs x × (f x ≡ y)
mapped f [] i y e = absurd (cc)
mapped f (x ∷ xs) zero y e = (x, (0, omega arith, refl), cc)
mapped f (x ∷ xs) (suc i) y e = let r = mapped f xs i y e in let within = r.1.1 in (r.0, (suc r.1.0, omega (arith, within), r.1.2), r.2)

-- the object of a part of a truncate is that of its tail
same_object : (size : ℕ) (ss : List StripeObject) (i : ℕ) (q : Part) (none : Tail) → slice_get (map (OfTruncate size) ss) i ≡ Some q → part_object q ≡ (slice_index_or (map (tail_in size) ss) i none).object
same_object size [] i q none e = absurd (cc)
same_object size (x ∷ xs) zero q none e = let own : OfTruncate size x ≡ q = cc in ap part_object (sym own)
same_object size (x ∷ xs) (suc i) q none e = same_object size xs i q none e

not_above : (most n : ℕ) → nat_lt most n ≡ false → n ≤ most
not_above most n e = grind (arith, nat_tests)

module _ (fails : List Fail) (place : ℕ) (s : Servers) (h : IsSound s.meta) where
  -- what the call has done with a step that opens no file
  abbrev pub behind : Doing → Servers → Doing
  behind d after = with_made d (made_by place s.targets after.targets)

  -- the calls of a step that calls no target
  quiet : (was : Option Attempt) (d : Doing) → Continues fails s was d (with_made d (made_by place s.targets s.targets))
  quiet was d = same_sent fails s was d (with_made d (made_by place s.targets s.targets)) (ap (λ (ms : List Made). sent_calls (with_made d ms)) (made_none place s.targets) ∙ nothing_more d)

  still_sent : (d : Doing) → sent_calls (with_made d (made_by place s.targets s.targets)) ≡ sent_calls d
  still_sent d = ap (λ (ms : List Made). sent_calls (with_made d ms)) (made_none place s.targets) ∙ nothing_more d

  -- ---- writes

  module _ (w : WriteView) (asked : IsAsked (range_of w)) where
    abbrev pub OnWrite : Option Attempt → Doing → (Servers → Doing) → Outcome WriteView → Type 0
    OnWrite was d then o = OnTurn fails s was d (λ (x : WriteView). write_attempt x.at) (λ (x : WriteView). HasSentPieces x.at) then o

    -- the write opens its file
    write_opened : (d : Doing) (then : Servers → Doing) → ((m : MetaView) → sent_calls (then (record s { meta = m })) ≡ []) → (o : meta.Outcome Opened) → write_opens w.client w.name (range_of w) place s.meta ≡ o → Readies (nat_lt most_bytes (range_of w).end) (range_of w) o → OnWrite None d then (opens w s o)
    write_opened d then none (Gives o after) e r = (Begins (λ a i p is there. begun a i p is there) (none after), none after, (subst (λ (x : MetaView). Spares s.meta x) (ap (λ (x : meta.Outcome Opened). left_by x s.meta) e) (call_spares s.meta h (OpenWrite w.client w.name (range_of w) place) tt), still s.targets))
      where
        begun : (a : Attempt) (i : ℕ) (p : Part) → Some (record { opened = o; parts = map OfWrite (write_pieces_of o.layout (range_of w)) }) ≡ Some a → slice_get a.parts i ≡ Some p → StandsAlone after.files a.opened.file p
        begun a i p is there =
            let one : record { opened = o; parts = map OfWrite (write_pieces_of o.layout (range_of w)) } ≡ a = cc in
            let q = mapped OfWrite (write_pieces_of o.layout (range_of w)) i p (ap (λ (x : Attempt). slice_get x.parts i) one ∙ there) in
            let some = asked.some in
            let below = not_above most_bytes (range_of w).end r.1 in
            let alone = piece_alone o.layout (range_of w) r.0.valid r.0.ready (omega (arith, some)) (omega (arith, below)) q.0 q.1 in
            let stands : StandsAlone after.files o.file (OfWrite q.0) = record { file = r.0.file; there = r.0.there; alone = subst (λ (l : Composite). IsAlone l.components (OfWrite q.0)) (sym r.0.layout) alone } in
            subst (λ (x : Attempt). StandsAlone after.files x.opened.file p) one (subst (StandsAlone after.files o.file) q.2 stands)
    write_opened d then none (Refuses reply) e r = calm s
    write_opened d then none (Waits holder) e r = tt

    abbrev pub attempt_in : WritingView → Option Attempt
    attempt_in x = Some (record { opened = x.opened; parts = map OfWrite x.pieces })

    write_locks : (x : WritingView) (next : ℕ) (d : Doing) → sent_calls d ≡ [] → (o : Option (ℕ × Range)) → OnWrite (attempt_in x) d (behind d) (writes.locks_piece w s x next o)
    write_locks x next d none (Some told) = tt
    write_locks x next d none None = (GoesOn (same_attempt (nat_lt (next + 1) (length x.pieces))) (quiet (attempt_in x) d), has_sent (nat_lt (next + 1) (length x.pieces)), calm s)
      where
        same_attempt : (b : Bool) → write_attempt (cond b (write.Lock x (next + 1)) (write.Send x 0)) ≡ attempt_in x
        same_attempt true = refl
        same_attempt false = refl

        has_sent : (b : Bool) → HasSentPieces (cond b (write.Lock x (next + 1)) (write.Send x 0)) (behind d s)
        has_sent true = still_sent d ∙ none
        has_sent false = ap (λ (ms : List Made). length ms) (still_sent d ∙ none)

    -- ---- a send

    module _ (x : WritingView) (next : ℕ) (d : Doing) (past : d.opened < place) (count : length (sent_calls d) ≡ next) (there : (object_of (piece_at x.pieces next)).target < length s.targets) where
      abbrev p : Piece
      p = piece_at x.pieces next

      abbrev o : ObjectId
      o = object_of p

      abbrev g : ℕ
      g = x.opened.layout.generation

      abbrev entry : CallEntry
      entry = record { kind = kind.Write; object = o.number; offset = p.offset; length = length (bytes_of w p); version = g; answer = write_answer (target_of s p) o.number g }

      abbrev m : Made
      m = record { place = place; target = o.target; call = length (target_of s p).calls + 1; entry = entry; kept = version_at (target_of s p) o.number; bytes = bytes_at (target_of s p) o.number }

      abbrev left : Servers
      left = writes.piece_sent w s x p

      made : made_by place s.targets left.targets ≡ m ∷ []
      made = made_one place s.targets o.target (after_write (target_of s p) o.number p.offset (bytes_of w p) g) entry there refl

      next_part : (a : Attempt) (q : Part) → attempt_in x ≡ Some a → slice_get a.parts (length (sent_calls d)) ≡ Some q → (part_object q ≡ o) × (g ≡ a.opened.layout.generation)
      next_part a q is found =
          let one : record { opened = x.opened; parts = map OfWrite x.pieces } ≡ a = cc in
          let own : OfWrite p ≡ q = got_mapped OfWrite x.pieces next _ q (ap (λ (y : Attempt). slice_get y.parts next) one ∙ ap (λ i. slice_get a.parts i) (sym count) ∙ found) in
          (ap part_object (sym own), ap (λ (y : Attempt). y.opened.layout.generation) one)

      is_sent : (is_sending m.entry.kind && is_accepted m.entry.answer) ≡ is_accepted (write_answer (target_of s p) o.number g)
      is_sent = refl

      goes : Continues fails s (attempt_in x) d (behind d left)
      goes = subst (λ (ms : List Made). Continues fails s (attempt_in x) d (with_made d ms)) (sym made) (sends_on fails s (attempt_in x) d m past o (is_accepted (write_answer (target_of s p) o.number g)) is_sent refl next_part)

      longer : is_accepted (write_answer (target_of s p) o.number g) ≡ true → length (sent_calls (behind d left)) ≡ next + 1
      longer ok = ap (λ (ms : List Made). length (sent_calls (with_made d ms))) made ∙ one_longer fails s (attempt_in x) d m past o (is_accepted (write_answer (target_of s p) o.number g)) is_sent refl next_part ok ∙ ap (λ n. n + 1) count

      sent_calm : IsCalm s left
      sent_calm = (same s.meta, alike s.targets o.target (after_write (target_of s p) o.number p.offset (bytes_of w p) g) (λ n. write_version (target_of s p) o.number p.offset (bytes_of w p) g n))

      abbrev OnSend : WriteAt → Type 0
      OnSend at = Turns fails s (attempt_in x) d (write_attempt at) left (behind d left) × HasSentPieces at (behind d left) × IsCalm s left

      sends_next : is_accepted (write_answer (target_of s p) o.number g) ≡ true → (b : Bool) → OnSend (cond b (write.Send x (next + 1)) (commits_to w x sent.All))
      sends_next ok true = (GoesOn refl goes, longer ok, sent_calm)
      sends_next ok false = (GoesOn refl goes, tt, sent_calm)

      old_next : (evicted : Option ℕ) (b : Bool) → OnSend (cond b write.UnlockAgain (commits_to w x (sent.Old next (unwrap_or evicted 0))))
      old_next evicted true = (GivesUp refl, tt, sent_calm)
      old_next evicted false = (GoesOn refl goes, tt, sent_calm)

      sent_next : (evicted : Option ℕ) (call : FailedCall) (a : CallAnswer) → write_answer (target_of s p) o.number g ≡ a → OnSend (after_send w evicted x next (came_of call a))
      sent_next evicted call answer.Ok e = sends_next (ap is_accepted e) (nat_lt (next + 1) (length x.pieces))
      sent_next evicted call (answer.Old kept) e = old_next evicted (nat_eq next 0)
      sent_next evicted call answer.Failed e = (GoesOn refl goes, tt, sent_calm)

    write_commits : (x : WritingView) (end : ℕ) (came : Sent) (d : Doing) (b : Bool) → OnWrite (attempt_in x) d (behind d) (commits_write w s x end came b)
    write_commits x end came d true = (GivesUp refl, tt, (locked s.meta x.opened.file (grown x.opened.cookie end) (λ y. refl) (λ y. refl), still s.targets))
    write_commits x end came d false = (GivesUp refl, tt, calm s)

    -- ---- each step

    -- the step that opens the file
    pub write_opens_well : (d : Doing) (then : Servers → Doing) → ((m : MetaView) → sent_calls (then (record s { meta = m })) ≡ []) → OnWrite None d then (write_at write.Open w place s)
    write_opens_well d then none = write_opened d then none (write_opens w.client w.name (range_of w) place s.meta) refl (readied s.meta h w.client w.name (range_of w) place (nat_lt most_bytes (range_of w).end))

    -- any other
    pub write_turns : (at : WriteAt) (d : Doing) → d.opened < place → (at ≡ write.Open → ⊥) → IsSoundAt at (range_of w) → ((x : Opened) → (write_hand at).opened ≡ Some x → AreThere s.targets x.layout.components) → HasSentPieces at d
        → OnWrite (write_attempt at) d (behind d) (write_at at w place s)
    write_turns write.Open d past busy sound there sent = absurd (busy refl)
    write_turns (write.Lock x next) d past busy sound there sent = write_locks x next d sent (blocker s.locks (writes.lock_for w (piece_at x.pieces next)))
    write_turns (write.Send x next) d past busy sound there sent =
        sent_next x next d past sent (object_there (range_of w) x next s.targets asked sound.0 sound.1 (there x.opened refl)) (last_eviction w.client s.meta) (next_call_on s.targets (object_of (piece_at x.pieces next)).target)
        (write_answer (target_of s (piece_at x.pieces next)) (object_of (piece_at x.pieces next)).number x.opened.layout.generation) refl
    write_turns (write.Commit x end came) d past busy sound there sent = write_commits x end came d (is_there x.opened.file s.meta)
    write_turns write.UnlockAgain d past busy sound there sent = (GivesUp refl, tt, calm s)
    write_turns write.Unlock d past busy sound there sent = calm s

  -- ---- truncates

  module _ (t : TruncateView) where
    abbrev pub OnCut : Option Attempt → Doing → (Servers → Doing) → Outcome TruncateView → Type 0
    OnCut was d then o = OnTurn fails s was d (λ (x : TruncateView). cut_attempt x.size x.at) (λ (x : TruncateView). HasSentTails x.at) then o

    -- the truncate opens its file
    cut_opened : (d : Doing) (then : Servers → Doing) → ((m : MetaView) → sent_calls (then (record s { meta = m })) ≡ []) → (o : meta.Outcome Opened) → cut_opens t.client t.name t.size place s.meta ≡ o → Readies (nat_lt most_bytes t.size) (record { start = t.size; end = eof }) o → OnCut None d then (opens_cut t s o)
    cut_opened d then none (Gives o after) e r = (Begins (λ a i p is there. begun a i p is there) (none after), none after, (subst (λ (x : MetaView). Spares s.meta x) (ap (λ (x : meta.Outcome Opened). left_by x s.meta) e) (call_spares s.meta h (OpenCut t.client t.name t.size place) tt), still s.targets))
      where
        begun : (a : Attempt) (i : ℕ) (p : Part) → Some (record { opened = o; parts = map (OfTruncate t.size) (tail_stripes o.layout t.size) }) ≡ Some a → slice_get a.parts i ≡ Some p → StandsAlone after.files a.opened.file p
        begun a i p is there =
            let one : record { opened = o; parts = map (OfTruncate t.size) (tail_stripes o.layout t.size) } ≡ a = cc in
            let q = mapped (OfTruncate t.size) (tail_stripes o.layout t.size) i p (ap (λ (x : Attempt). slice_get x.parts i) one ∙ there) in
            let below = not_above most_bytes t.size r.1 in
            let alone = tail_alone o.layout t.size r.0.valid r.0.ready (omega (arith, below)) q.0 q.1 in
            let stands : StandsAlone after.files o.file (OfTruncate t.size q.0) = record { file = r.0.file; there = r.0.there; alone = subst (λ (l : Composite). IsAlone l.components (OfTruncate t.size q.0)) (sym r.0.layout) alone } in
            subst (λ (x : Attempt). StandsAlone after.files x.opened.file p) one (subst (StandsAlone after.files o.file) q.2 stands)
    cut_opened d then none (Refuses reply) e r = calm s
    cut_opened d then none (Waits holder) e r = tt

    abbrev pub attempt_of_cut : CuttingView → Option Attempt
    attempt_of_cut x = Some (record { opened = x.opened; parts = map (OfTruncate t.size) (tail_stripes x.opened.layout t.size) })

    cut_locks : (x : CuttingView) (d : Doing) → sent_calls d ≡ [] → (o : Option (ℕ × Range)) → OnCut (attempt_of_cut x) d (behind d) (locks_tails t s x o)
    cut_locks x d none (Some told) = tt
    cut_locks x d none None = (GoesOn (same_attempt (nat_lt 0 (length x.tails))) (quiet (attempt_of_cut x) d), has_sent (nat_lt 0 (length x.tails)), calm s)
      where
        same_attempt : (b : Bool) → cut_attempt t.size (cond b (cut.Punch x 0) (cut.Commit x sent.All)) ≡ attempt_of_cut x
        same_attempt true = refl
        same_attempt false = refl

        has_sent : (b : Bool) → HasSentTails (cond b (cut.Punch x 0) (cut.Commit x sent.All)) (behind d s)
        has_sent true = ap (λ (ms : List Made). length ms) (still_sent d ∙ none)
        has_sent false = tt

    -- ---- a punch

    module _ (x : CuttingView) (next : ℕ) (d : Doing) (past : d.opened < place) (count : length (sent_calls d) ≡ next) (are : x.tails ≡ tails_of x.opened.layout t.size) (within : next < length x.tails) (there : (tail_at x.tails next).object.target < length s.targets) where
      abbrev tail : Tail
      tail = tail_at x.tails next

      abbrev cut_g : ℕ
      cut_g = x.opened.layout.generation

      abbrev cut_entry : CallEntry
      cut_entry = record { kind = kind.Punch; object = tail.object.number; offset = tail.offset; length = 0; version = cut_g; answer = punch_answer (target_of_tail s tail) tail.object.number cut_g }

      abbrev cut_made : Made
      cut_made = record { place = place; target = tail.object.target; call = length (target_of_tail s tail).calls + 1; entry = cut_entry; kept = version_at (target_of_tail s tail) tail.object.number; bytes = bytes_at (target_of_tail s tail) tail.object.number }

      abbrev punched : Servers
      punched = tail_punched s x tail

      made_cut : made_by place s.targets punched.targets ≡ cut_made ∷ []
      made_cut = made_one place s.targets tail.object.target (after_punch (target_of_tail s tail) tail.object.number tail.offset cut_g) cut_entry there refl

      next_tail : (a : Attempt) (q : Part) → attempt_of_cut x ≡ Some a → slice_get a.parts (length (sent_calls d)) ≡ Some q → (part_object q ≡ tail.object) × (cut_g ≡ a.opened.layout.generation)
      next_tail a q is found =
          let one : record { opened = x.opened; parts = map (OfTruncate t.size) (tail_stripes x.opened.layout t.size) } ≡ a = cc in
          let own = same_object t.size (tail_stripes x.opened.layout t.size) next q (tail_at [] 0) (ap (λ (y : Attempt). slice_get y.parts next) one ∙ ap (λ i. slice_get a.parts i) (sym count) ∙ found) in
          (own ∙ ap (λ (ts : List Tail). (tail_at ts next).object) (sym are), ap (λ (y : Attempt). y.opened.layout.generation) one)

      cut_sent : (is_sending cut_made.entry.kind && is_accepted cut_made.entry.answer) ≡ is_accepted (punch_answer (target_of_tail s tail) tail.object.number cut_g)
      cut_sent = refl

      cut_goes : Continues fails s (attempt_of_cut x) d (behind d punched)
      cut_goes = subst (λ (ms : List Made). Continues fails s (attempt_of_cut x) d (with_made d ms)) (sym made_cut) (sends_on fails s (attempt_of_cut x) d cut_made past tail.object (is_accepted (punch_answer (target_of_tail s tail) tail.object.number cut_g)) cut_sent refl next_tail)

      cut_longer : is_accepted (punch_answer (target_of_tail s tail) tail.object.number cut_g) ≡ true → length (sent_calls (behind d punched)) ≡ next + 1
      cut_longer ok = ap (λ (ms : List Made). length (sent_calls (with_made d ms))) made_cut ∙ one_longer fails s (attempt_of_cut x) d cut_made past tail.object (is_accepted (punch_answer (target_of_tail s tail) tail.object.number cut_g)) cut_sent refl next_tail ok ∙ ap (λ n. n + 1) count

      cut_calm : IsCalm s punched
      cut_calm = (same s.meta, alike s.targets tail.object.target (after_punch (target_of_tail s tail) tail.object.number tail.offset cut_g) (λ n. punch_version (target_of_tail s tail) tail.object.number tail.offset cut_g n))

      abbrev OnPunch : CutAt → Type 0
      OnPunch at = Turns fails s (attempt_of_cut x) d (cut_attempt t.size at) punched (behind d punched) × HasSentTails at (behind d punched) × IsCalm s punched

      punches_next : is_accepted (punch_answer (target_of_tail s tail) tail.object.number cut_g) ≡ true → (b : Bool) → OnPunch (cond b (cut.Punch x (next + 1)) (cut.Commit x sent.All))
      punches_next ok true = (GoesOn refl cut_goes, cut_longer ok, cut_calm)
      punches_next ok false = (GoesOn refl cut_goes, tt, cut_calm)

      old_punch : (evicted : Option ℕ) (b : Bool) → OnPunch (cond b cut.UnlockAgain (cut.Commit x (sent.Old next (unwrap_or evicted 0))))
      old_punch evicted true = (GivesUp refl, tt, cut_calm)
      old_punch evicted false = (GoesOn refl cut_goes, tt, cut_calm)

      punched_next : (evicted : Option ℕ) (call : FailedCall) (a : CallAnswer) → punch_answer (target_of_tail s tail) tail.object.number cut_g ≡ a → OnPunch (after_punches evicted x next (came_of call a))
      punched_next evicted call answer.Ok e = punches_next (ap is_accepted e) (nat_lt (next + 1) (length x.tails))
      punched_next evicted call (answer.Old kept) e = old_punch evicted (nat_eq next 0)
      punched_next evicted call answer.Failed e = (GoesOn refl cut_goes, tt, cut_calm)

    cut_commits : (x : CuttingView) (came : Sent) (d : Doing) (b : Bool) → OnCut (attempt_of_cut x) d (behind d) (commits_cut t s x came b)
    cut_commits x came d true = (GivesUp refl, tt, committed came)
      where
        committed : (came : Sent) → IsCalm s (cut_committed t s x came)
        committed sent.All = (locked s.meta x.opened.file (shortened x.opened.cookie t.size) (λ y. refl) (λ y. refl), still s.targets)
        committed (sent.Failed accepted call) = (locked s.meta x.opened.file (grown x.opened.cookie 0) (λ y. refl) (λ y. refl), still s.targets)
        committed (sent.Old accepted step) = (locked s.meta x.opened.file (grown x.opened.cookie 0) (λ y. refl) (λ y. refl), still s.targets)
    cut_commits x came d false = (GivesUp refl, tt, calm s)

    -- ---- each step

    -- the step that opens the file
    pub cut_opens_well : (d : Doing) (then : Servers → Doing) → ((m : MetaView) → sent_calls (then (record s { meta = m })) ≡ []) → OnCut None d then (truncate_at cut.Open t place s)
    cut_opens_well d then none = cut_opened d then none (cut_opens t.client t.name t.size place s.meta) refl (readied s.meta h t.client t.name (record { start = t.size; end = eof }) place (nat_lt most_bytes t.size))

    -- any other
    pub cut_turns : (at : CutAt) (d : Doing) → d.opened < place → (at ≡ cut.Open → ⊥) → IsSoundCutAt at t.size → ((x : Opened) → (cut_hand at).opened ≡ Some x → AreThere s.targets x.layout.components) → HasSentTails at d
        → OnCut (cut_attempt t.size at) d (behind d) (truncate_at at t place s)
    cut_turns cut.Open d past busy sound there sent = absurd (busy refl)
    cut_turns (cut.Lock x) d past busy sound there sent = cut_locks x d sent (first_blocker (locks_for t x) s.locks)
    cut_turns (cut.Punch x next) d past busy sound there sent =
        punched_next x next d past sent sound.0.are sound.1 (tail_there t.size x next s.targets sound.0 sound.1 (there x.opened refl)) (last_eviction t.client s.meta) (next_call_on s.targets (tail_at x.tails next).object.target)
        (punch_answer (target_of_tail s (tail_at x.tails next)) (tail_at x.tails next).object.number x.opened.layout.generation) refl
    cut_turns (cut.Commit x came) d past busy sound there sent = cut_commits x came d (is_there x.opened.file s.meta)
    cut_turns cut.UnlockAgain d past busy sound there sent = (GivesUp refl, tt, calm s)
    cut_turns cut.Unlock d past busy sound there sent = calm s
