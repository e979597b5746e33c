-- What the commit of a write leaves of a byte of a file that stays.
use Rattle.std.proofs.Common.{◌≡◌, ℕ, ◌+◌, ◌-◌, Bool, true, List, length, map, Some, None, IfSome, inl, inr, sym, ap, subst, ◌∙◌, get_or, if◌then◌else◌}
use Rattle.std.specs.Prelude.{slice_get, slice_set}
use Rattle.std.proofs.lemmas.Bool.{cases_Bool}
use Rattle.flr_base.specs.declared.reply.Reply.{Reply}
use Rattle.stripe_map.specs.Cutting.{Tile}
use Rattle.mirror_select.specs.declared.types.Piece.{Piece}
use Rattle.meta_server.specs.Files.{File, file_of}
use Rattle.client_write.specs.declared.phase.Sent.{Sent}
use Rattle.client_write.specs.declared.phase.Sent.TheVariants as ending
use Rattle.client_write.specs.declared.phase.WriteAt.{WriteAt}
use Rattle.client_write.specs.Calls.{WriteView}
use Rattle.client_write.specs.Fitting.{HasPieces, IsAsked, IsSoundAt, IsSoundSent}
use Rattle.client_write.specs.Writes.{end_of, range_of, reply_of}
use Rattle.flr_steps.specs.declared.client.Running.{Running}
use Rattle.flr_steps.specs.declared.client.Running.TheVariants as running
use Rattle.flr_steps.specs.Clients.{call_now, going}
use Rattle.flr_steps.specs.Runs.{doing_after}
use Rattle.flr_steps.specs.States.{State}
use Rattle.flr_steps.specs.Traces.{Made, Trace, doing_of, sent_calls, traced}
use Rattle.plain_files.specs.Effects.{effect, wrote}
use Rattle.plain_files.specs.Files.{Plain, Ranges, SentRange, bytes_of, is_written, plain_of}
use Rattle.flr_claims.specs.Runs.{store_of}
use Rattle.flr_claims.specs.Sending.{Attempt, OfWrite, attempt_of, is_over, ranges_from, sent_by, write_attempt}
use Rattle.flr_numbers.specs.Calls.{write_hand}
use Rattle.flr_numbers.specs.Sentences.{IsCallOf}
use Rattle.flr_behind.specs.Sentences.{IsWritten, Knows}
use Rattle.flr_bytes.specs.Files.{AreSized, Closes, HasLandedOver}
use Rattle.flr_bytes.specs.Runs.{IsStep}
use Rattle.flr_bytes.specs.Sent.{AreSentFor, AreSentTo, CallSent, WriteSent}
use Rattle.flr_bytes.proofs.StoreEffects.{other_kept}
use Rattle.flr_honest.proofs.Closing.Asking.{IsWriteFor}
use Rattle.flr_honest.proofs.Closing.Effects.{write_effect}
use Rattle.flr_honest.proofs.Closing.Files.{Stays, after, before, closes, decide_names, same_over, some_file, stays_same, there}
use Rattle.flr_honest.proofs.Closing.Lists.{mapped_there, there_mapped}
use Rattle.flr_honest.proofs.Closing.Outcomes.{WriteCommits}
use Rattle.flr_honest.proofs.Closing.Ranges.{landed_written, written_landed}
use Rattle.flr_honest.proofs.Closing.Sized.{one_number}
use Rattle.flr_honest.proofs.Closing.Steps.{call_is, call_knows, call_sent, own_attempt, sent_stays, was_call}
use Rattle.flr_honest.proofs.Closing.Written.{byte_written, pieces_tile}

-- a write leaves the files of other names
other_written : (name other : List ℕ) (offset : ℕ) (bytes : List ℕ) (ranges : List SentRange) (came : Sent) (store : List Plain) → (name ≡ other → ⊥) → bytes_of (wrote name offset bytes (Ranges ranges) (reply_of came) store) other ≡ bytes_of store other
other_written name other offset bytes ranges ending.All store apart = other_kept name other _ store apart
other_written name other offset bytes ranges (ending.Failed accepted call) store apart = other_kept name other _ store apart
other_written name other offset bytes ranges (ending.Old accepted step) store apart = other_kept name other _ store apart

module _ (s t : State) (old new : Trace) (c : ℕ) (is : IsStep s t old new c) (traced_so : new ≡ traced s t old c) (sized : AreSized s.shared.meta.files (store_of s old)) (n x : ℕ) (f g : File)
    (e : file_of n s.shared.meta.files ≡ Some f) (d : file_of n t.shared.meta.files ≡ Some g) (w : WriteView) (writes : call_now c is.step.client.call is.step.asked ≡ running.Write w) (asks : IsWriteFor is.step.asked w)
    (first : ℕ) (next : Running) (answer : Reply) (clients : t.clients ≡ slice_set s.clients (c - 1) (going is.step.client first next)) (none : attempt_of next ≡ None) (targets : t.shared.targets ≡ s.shared.targets)
    (k : WriteCommits s.shared.meta w.at answer)
    (effects : store_of t new ≡ effect is.step.asked (sent_by s.script.fails (call_now c is.step.client.call is.step.asked) (doing_after s t old c is.step.client is.step.asked)) answer (store_of s old)) where
  abbrev sent : List Made
  sent = sent_calls (doing_of old c)

  abbrev a : Attempt
  a = record { opened = k.writing.opened; parts = map OfWrite k.writing.pieces }

  attempt : attempt_of (call_now c is.step.client.call is.step.asked) ≡ Some a
  attempt = ap attempt_of writes ∙ ap write_attempt k.is

  was_write : is.step.client.call ≡ running.Write w
  was_write = was_call s t old new c is traced_so a attempt ∙ writes

  of : (w.client ≡ c) × IsAsked (range_of w) × IsSoundAt w.at (range_of w)
  of = subst (IsCallOf c) writes (call_is s t old new c is traced_so)

  sound : HasPieces (range_of w) k.writing × IsSoundSent k.writing k.came × (k.end ≡ end_of (range_of w) k.writing k.came)
  sound = subst (λ (at : WriteAt). IsSoundAt at (range_of w)) k.is of.2

  has : AreSentTo s.script.fails (length k.writing.pieces) k.came sent × AreSentFor (map OfWrite k.writing.pieces) sent
  has = subst (λ (at : WriteAt). WriteSent s.script.fails at sent) k.is (subst (λ (r : Running). CallSent s.script.fails r sent) writes (call_sent s t old new c is traced_so))

  knows : IsWritten s.shared.meta w.name k.writing.opened
  knows = subst (λ (at : WriteAt). IfSome (write_hand at).opened (IsWritten s.shared.meta w.name)) k.is (subst (Knows s.shared.meta) writes (call_knows s t old new c is traced_so a attempt))

  tile : Tile (map (λ (p : Piece). p.range) k.writing.pieces) w.offset (w.offset + length w.bytes)
  tile = pieces_tile (range_of w) k.writing of.1 sound.0

  abbrev ranges : List SentRange
  ranges = ranges_from s.script.fails w.offset sent

  store : store_of t new ≡ wrote w.name w.offset w.bytes (Ranges ranges) (reply_of k.came) (store_of s old)
  store =
      let same = sent_stays s t old new c is traced_so a attempt targets in
      let ends = k.answers in
      effects ∙ write_effect is.step.asked w asks (sent_by s.script.fails (call_now c is.step.client.call is.step.asked) (doing_after s t old c is.step.client is.step.asked)) answer (store_of s old)
      ∙ (λ j. wrote w.name w.offset w.bytes (sent_by s.script.fails (writes j) (doing_after s t old c is.step.client is.step.asked)) (ends j) (store_of s old))
      ∙ (λ j. wrote w.name w.offset w.bytes (Ranges (ranges_from s.script.fails w.offset (same j))) (reply_of k.came) (store_of s old))

  -- the open file
  file : (h : File) × (file_of k.writing.opened.file s.shared.meta.files ≡ Some h)
  file = some_file (file_of k.writing.opened.file s.shared.meta.files) k.there

  opened_name : file.0.name ≡ w.name
  opened_name = knows.0.named file.0 file.1

  abbrev now : Bool → ℕ
  now b = if b then get_or w.bytes (x - w.offset) 0 else before s t old new c is traced_so sized n x f g e d

  -- the byte of the file of this name
  value : f.name ≡ w.name → after s t old new c is traced_so sized n x f g e d ≡ now (is_written ranges x)
  value same =
      let at = there s t old new c is traced_so sized n x f g e d in
      let place : plain_of w.name (store_of s old) ≡ Some at.0 = ap (λ (nm : List ℕ). plain_of nm (store_of s old)) (sym same) ∙ at.1 in
      (λ j. get_or (bytes_of (store j) (same j)) x 0)
      ∙ byte_written s.script.fails w.name w.offset w.bytes (store_of s old) at.0 place k.writing.pieces sent tile has.1 x k.came has.0
      ∙ (λ j. if is_written ranges x then get_or w.bytes (x - w.offset) 0 else get_or (bytes_of (store_of s old) (sym same j)) x 0)

  closed : HasLandedOver s old c n x → f.name ≡ w.name → is_written ranges x ≡ true → Closes s t old new c n x
  closed was same written = closes s t old new c is traced_so sized n x f g e d first next (running.Write w) clients none was_write was (value same ∙ ap now written)

  pub commit_stays : Stays s t old new c is traced_so sized n x f g e d
  commit_stays = elim (decide_names f.name w.name) as (λ _. Stays s t old new c is traced_so sized n x f g e d) [
    | inl same ↦ elim (cases_Bool (is_written ranges x)) as (λ _. Stays s t old new c is traced_so sized n x f g e d) [
      | inl written ↦ (
          let l = written_landed s.script.fails x k.writing.pieces sent w.offset (w.offset + length w.bytes) tile has.1 written in
          let number : k.writing.opened.file ≡ n = one_number k.writing.opened.file n s.shared.meta.files file.0 f is.before.holds.servers.sound.named file.1 e (opened_name ∙ sym same) in
          inr (closed (record {
            attempt = a;
            attempting = record { client = is.step.client; here = is.step.here; attempt = ap attempt_of was_write ∙ ap write_attempt k.is };
            same = number;
            place = l.place;
            part = OfWrite l.piece;
            landed = record { there = there_mapped OfWrite k.writing.pieces l.place l.piece l.there; made = l.made; sent = l.sent; landed = l.landed };
            over = l.over;
          }) same written)
          )
      | inr not ↦ stays_same s t old new c is traced_so sized n x f g e d (value same ∙ ap now not)
    ]
    | inr apart ↦ stays_same s t old new c is traced_so sized n x f g e d (
        ap (λ (ps : List Plain). get_or (bytes_of ps f.name) x 0) store
        ∙ ap (λ (bs : List ℕ). get_or bs x 0) (other_written w.name f.name w.offset w.bytes ranges k.came (store_of s old) (λ same. apart (sym same)))
        )
  ]

  -- wherever it had landed it closes
  pub commit_closes : HasLandedOver s old c n x → Closes s t old new c n x
  commit_closes was =
      let mine : Some was.attempt ≡ Some a = sym (own_attempt s t old new c is traced_so was.attempt was.attempting) ∙ attempt in
      let one : was.attempt ≡ a = cc in
      let opened : k.writing.opened.file ≡ n = subst (λ (b : Attempt). b.opened.file ≡ n) one was.same in
      let here : Some file.0 ≡ Some f = sym file.1 ∙ ap (λ i. file_of i s.shared.meta.files) opened ∙ e in
      let own : file.0 ≡ f = cc in
      let same : f.name ≡ w.name = sym (ap (λ (y : File). y.name) own) ∙ opened_name in
      let landed = was.landed in
      let part = mapped_there OfWrite k.writing.pieces was.place was.part (ap (λ (b : Attempt). slice_get b.parts was.place) (sym one) ∙ landed.there) in
      let over : is_over x (OfWrite part.0) ≡ true = same_over x (OfWrite part.0) was.part part.2 was.over in
      closed was same (landed_written s.script.fails x k.writing.pieces sent w.offset (w.offset + length w.bytes) tile has.1 was.place part.0 landed.made part.1 landed.sent landed.landed over)
