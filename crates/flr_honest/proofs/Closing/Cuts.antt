-- What the commit of a truncate leaves of a byte of a file that stays.
use Rattle.std.proofs.Common.{◌≡◌, ℕ, ◌-◌, ◌<◌, ◌≤◌, true, leb, List, length, map, Some, None, IfSome, inl, inr, sym, ap, subst, ◌∙◌, arith, get_or}
use Rattle.std.specs.Prelude.{nat_eq, slice_get, slice_set}
use Rattle.std.specs.List.{flat_map}
use Rattle.std.proofs.lemmas.Bool.{and_from, and_parts, leb-true, le-leb}
use Rattle.flr_base.specs.declared.reply.ObjectId.{ObjectId}
use Rattle.flr_base.specs.declared.reply.Reply.{Reply}
use Rattle.composite_layout.specs.Layouts.{eof}
use Rattle.mirror_select.specs.Tails.{StripeObject, tail_stripes}
use Rattle.mirror_select.proofs.Least.{from_contains, to_contains}
use Rattle.mirror_select.proofs.TailLaws.{are_all}
use Rattle.meta_laws.proofs.Finding.{found_keeps}
use Rattle.meta_server.specs.declared.answers.Opened.{Opened}
use Rattle.meta_server.specs.Files.{File, file_of}
use Rattle.meta_server.specs.Sound.{IsSoundFile}
use Rattle.client_write.specs.declared.phase.CutAt.{CutAt}
use Rattle.client_write.specs.declared.phase.Sent.{Sent}
use Rattle.client_write.specs.declared.phase.Sent.TheVariants as ending
use Rattle.client_write.specs.Calls.{TruncateView}
use Rattle.client_write.specs.CutFitting.{HasTails, IsSoundCut, IsSoundCutAt}
use Rattle.client_write.specs.Truncates.{cut_reply}
use Rattle.flr_steps.specs.declared.client.Running.{Running}
use Rattle.flr_steps.specs.declared.client.Running.TheVariants as running
use Rattle.flr_steps.specs.Clients.{call_now, going}
use Rattle.flr_steps.specs.Runs.{doing_after}
use Rattle.flr_steps.specs.States.{State}
use Rattle.flr_steps.specs.Traces.{Made, Trace, doing_of, sent_calls, traced}
use Rattle.plain_files.specs.Effects.{effect, truncated}
use Rattle.plain_files.specs.Files.{Plain, SentTail, Tails, bytes_of, plain_of}
use Rattle.flr_claims.specs.Runs.{store_of}
use Rattle.flr_claims.specs.Sending.{Attempt, OfTruncate, attempt_of, components_for, cut_attempt, cutting_of, is_over, sent_by, tail_for}
use Rattle.flr_numbers.specs.Calls.{cut_hand}
use Rattle.flr_numbers.specs.Sentences.{IsCallOf}
use Rattle.flr_behind.specs.Sentences.{IsWritten, Knows}
use Rattle.flr_shapes.specs.Sentences.{IsStripeIn, Shape, layout_of, layouts_of, HasShapeAmong}
use Rattle.flr_bytes.specs.Files.{AreSized, Closes, HasLandedOver}
use Rattle.flr_bytes.specs.Runs.{IsStep}
use Rattle.flr_bytes.specs.Sent.{AreSentFor, AreSentTo, CallSent, CutSent}
use Rattle.flr_bytes.proofs.StoreEffects.{other_kept}
use Rattle.flr_bytes.specs.Readied.{CutsAreReadied, IsCutReady, IsReadied}
use Rattle.flr_honest.proofs.Closing.Asking.{IsTruncateFor}
use Rattle.flr_honest.proofs.Closing.Cut.{byte_cut, byte_stays}
use Rattle.flr_honest.proofs.Closing.Effects.{cut_effect}
use Rattle.flr_honest.proofs.Closing.Files.{Stays, after, closes, decide_names, same_over, some_file, stays_same, there}
use Rattle.flr_honest.proofs.Closing.Lists.{mapped_there, there_mapped}
use Rattle.flr_honest.proofs.Closing.Outcomes.{CutCommits}
use Rattle.flr_honest.proofs.Closing.Ready.{ready_tail}
use Rattle.flr_honest.proofs.Closing.Sized.{found_sized, one_number, sized_long}
use Rattle.flr_honest.proofs.Closing.Steps.{call_is, call_knows, call_sent, own_attempt, sent_stays, was_call}
use Rattle.flr_honest.proofs.Closing.Tails.{IsLandedTail, PunchEach, has_stripe, punches_own, stands_among}

-- a truncate leaves the files of other names
other_cut : (name other : List ℕ) (size : ℕ) (tails : List SentTail) (came : Sent) (store : List Plain) → (name ≡ other → ⊥) → bytes_of (truncated name size (Tails tails) (cut_reply came) store) other ≡ bytes_of store other
other_cut name other size tails ending.All store apart = other_kept name other _ store apart
other_cut name other size tails (ending.Failed accepted call) store apart = other_kept name other _ store apart
other_cut name other size tails (ending.Old accepted step) store apart = other_kept name other _ store apart

module _ (s t : State) (old new : Trace) (c : ℕ) (is : IsStep s t old new c) (readied : CutsAreReadied s) (traced_so : new ≡ traced s t old c) (sized : AreSized s.shared.meta.files (store_of s old)) (n x : ℕ) (f g : File)
    (e : file_of n s.shared.meta.files ≡ Some f) (d : file_of n t.shared.meta.files ≡ Some g) (w : TruncateView) (cuts : call_now c is.step.client.call is.step.asked ≡ running.Truncate w) (asks : IsTruncateFor is.step.asked w)
    (first : ℕ) (next : Running) (answer : Reply) (clients : t.clients ≡ slice_set s.clients (c - 1) (going is.step.client first next)) (none : attempt_of next ≡ None) (targets : t.shared.targets ≡ s.shared.targets)
    (k : CutCommits s.shared.meta w.at answer)
    (effects : store_of t new ≡ effect is.step.asked (sent_by s.script.fails (call_now c is.step.client.call is.step.asked) (doing_after s t old c is.step.client is.step.asked)) answer (store_of s old)) where
  abbrev sent : List Made
  sent = sent_calls (doing_of old c)

  abbrev opened : Opened
  opened = k.cutting.opened

  abbrev stripes : List StripeObject
  stripes = tail_stripes opened.layout w.size

  abbrev a : Attempt
  a = record { opened = opened; parts = map (OfTruncate w.size) stripes }

  attempt : attempt_of (call_now c is.step.client.call is.step.asked) ≡ Some a
  attempt = ap attempt_of cuts ∙ ap (cut_attempt w.size) k.is

  was_cut : is.step.client.call ≡ running.Truncate w
  was_cut = was_call s t old new c is traced_so a attempt ∙ cuts

  of : (w.client ≡ c) × IsSoundCutAt w.at w.size
  of = subst (IsCallOf c) cuts (call_is s t old new c is traced_so)

  sound : HasTails w.size k.cutting × IsSoundCut k.cutting k.came
  sound = subst (λ (at : CutAt). IsSoundCutAt at w.size) k.is of.1

  has : AreSentTo s.script.fails (length stripes) k.came sent × AreSentFor (map (OfTruncate w.size) stripes) sent
  has = subst (λ (at : CutAt). CutSent s.script.fails w.size at sent) k.is (subst (λ (r : Running). CallSent s.script.fails r sent) cuts (call_sent s t old new c is traced_so))

  knows : IsWritten s.shared.meta w.name opened
  knows = subst (λ (at : CutAt). IfSome (cut_hand at).opened (IsWritten s.shared.meta w.name)) k.is (subst (Knows s.shared.meta) cuts (call_knows s t old new c is traced_so a attempt))

  ready : IsCutReady w.size (Some opened)
  ready = subst (λ (at : CutAt). IsCutReady w.size (cutting_of at)) k.is (subst IsReadied was_cut (readied c is.step.client is.step.here))

  -- the objects of the layout have one shape each
  among : (o : ObjectId) (b : Shape) → IsStripeIn o b opened.layout.components → HasShapeAmong o b (layouts_of is.step.client.call)
  among o b here = subst (λ (r : Running). HasShapeAmong o b (layouts_of r)) (sym was_cut) (subst (λ (at : CutAt). HasShapeAmong o b (layout_of (cut_hand at).opened)) (sym k.is) (inl here))

  shapes : (o : ObjectId) (b d : Shape) → IsStripeIn o b opened.layout.components → IsStripeIn o d opened.layout.components → b ≡ d
  shapes o b d one two =
      is.before.shaped o b d (inr (record { number = c; client = is.step.client; here = is.step.here; has = among o b one })) (inr (record { number = c; client = is.step.client; here = is.step.here; has = among o d two }))

  each : PunchEach s.script.fails w.size opened.layout.components stripes
  each r listed m on =
      let tail = (are_all opened.layout w.size r sound.0.valid).0 (to_contains stripes r listed) in
      punches_own s.script.fails opened.layout.components shapes r m (stands_among opened.layout.components r (from_contains opened.layout.components r.component tail.there) tail.object) on

  abbrev tails : List SentTail
  tails = flat_map (tail_for s.script.fails opened.layout.components) sent

  store : store_of t new ≡ truncated w.name w.size (Tails tails) (cut_reply k.came) (store_of s old)
  store =
      let same = sent_stays s t old new c is traced_so a attempt targets in
      let ends = k.answers in
      let at = k.is in
      effects ∙ cut_effect is.step.asked w asks (sent_by s.script.fails (call_now c is.step.client.call is.step.asked) (doing_after s t old c is.step.client is.step.asked)) answer (store_of s old)
      ∙ (λ j. truncated w.name w.size (sent_by s.script.fails (cuts j) (doing_after s t old c is.step.client is.step.asked)) (ends j) (store_of s old))
      ∙ (λ j. truncated w.name w.size (Tails (flat_map (tail_for s.script.fails (components_for (cutting_of (at j)))) (same j))) (cut_reply k.came) (store_of s old))

  -- the open file
  file : (h : File) × (file_of opened.file s.shared.meta.files ≡ Some h)
  file = some_file (file_of opened.file s.shared.meta.files) k.there

  opened_name : file.0.name ≡ w.name
  opened_name = knows.0.named file.0 file.1

  place : f.name ≡ w.name → (p : ℕ) × (plain_of w.name (store_of s old) ≡ Some p)
  place same = let at = there s t old new c is traced_so sized n x f g e d in (at.0, ap (λ (nm : List ℕ). plain_of nm (store_of s old)) (sym same) ∙ at.1)

  -- no plain file is as long as the greatest byte
  low : f.name ≡ w.name → x < length (bytes_of (store_of s old) w.name) → x < eof
  low same less =
      let h = found_sized n s.shared.meta.files (store_of s old) f is.before.holds.servers.sound.named sized e in
      let long : length (bytes_of (store_of s old) w.name) ≡ f.size = ap (λ (nm : List ℕ). length (bytes_of (store_of s old) nm)) (sym same) ∙ sized_long f (store_of s old) h in
      let fine = found_keeps (λ (y : File). nat_eq y.number n) IsSoundFile s.shared.meta.files f e is.before.holds.servers.sound.files in
      let most = fine.size in
      omega (arith, less, long, most)

  covers : f.name ≡ w.name → w.size ≤ x → x < length (bytes_of (store_of s old) w.name) → (p : ℕ) × (r : StripeObject) × (slice_get stripes p ≡ Some r) × (has_stripe x r ≡ true)
  covers same past less = let h = ready_tail opened.layout w.size x sound.0.valid ready past (low same less) in (h.place, h.stripe, h.there, h.over)

  -- the byte of the file of this name
  value : f.name ≡ w.name → after s t old new c is traced_so sized n x f g e d ≡ get_or (bytes_of (truncated w.name w.size (Tails tails) (cut_reply k.came) (store_of s old)) w.name) x 0
  value same = λ j. get_or (bytes_of (store j) (same j)) x 0

  closed : HasLandedOver s old c n x → after s t old new c is traced_so sized n x f g e d ≡ 0 → Closes s t old new c n x
  closed was zero = closes s t old new c is traced_so sized n x f g e d first next (running.Truncate w) clients none was_cut was zero

  pub commit_cut_stays : Stays s t old new c is traced_so sized n x f g e d
  commit_cut_stays = elim (decide_names f.name w.name) as (λ _. Stays s t old new c is traced_so sized n x f g e d) [
    | inl same ↦ elim (byte_stays s.script.fails w.size w.name (store_of s old) (place same).0 (place same).1 opened.layout.components stripes sent each has.1 x (covers same) k.came has.0) as (λ _. Stays s t old new c is traced_so sized n x f g e d) [
      | inl kept ↦ stays_same s t old new c is traced_so sized n x f g e d (value same ∙ kept ∙ ap (λ (nm : List ℕ). get_or (bytes_of (store_of s old) nm) x 0) (sym same))
      | inr gone ↦ (
          let l = gone.1 in
          let number : opened.file ≡ n = one_number opened.file n s.shared.meta.files file.0 f is.before.holds.servers.sound.named file.1 e (opened_name ∙ sym same) in
          inr (closed (record {
            attempt = a;
            attempting = record { client = is.step.client; here = is.step.here; attempt = ap attempt_of was_cut ∙ ap (cut_attempt w.size) k.is };
            same = number;
            place = l.place;
            part = OfTruncate w.size l.stripe;
            landed = record { there = there_mapped (OfTruncate w.size) stripes l.place l.stripe l.there; made = l.made; sent = l.sent; landed = l.landed };
            over = and_from (leb w.size x) (has_stripe x l.stripe) (le-leb w.size x gone.0) l.over;
          }) (value same ∙ gone.2))
          )
    ]
    | inr apart ↦ stays_same s t old new c is traced_so sized n x f g e d (
        ap (λ (ps : List Plain). get_or (bytes_of ps f.name) x 0) store
        ∙ ap (λ (bs : List ℕ). get_or bs x 0) (other_cut w.name f.name w.size tails k.came (store_of s old) (λ same. apart (sym same)))
        )
  ]

  -- wherever it had landed it closes
  pub commit_cut_closes : HasLandedOver s old c n x → Closes s t old new c n x
  commit_cut_closes was =
      let mine : Some was.attempt ≡ Some a = sym (own_attempt s t old new c is traced_so was.attempt was.attempting) ∙ attempt in
      let one : was.attempt ≡ a = cc in
      let number : opened.file ≡ n = subst (λ (b : Attempt). b.opened.file ≡ n) one was.same in
      let here : Some file.0 ≡ Some f = sym file.1 ∙ ap (λ i. file_of i s.shared.meta.files) number ∙ e in
      let own : file.0 ≡ f = cc in
      let same : f.name ≡ w.name = sym (ap (λ (y : File). y.name) own) ∙ opened_name in
      let landed = was.landed in
      let part = mapped_there (OfTruncate w.size) stripes was.place was.part (ap (λ (b : Attempt). slice_get b.parts was.place) (sym one) ∙ landed.there) in
      let over : is_over x (OfTruncate w.size part.0) ≡ true = same_over x (OfTruncate w.size part.0) was.part part.2 was.over in
      let parts = and_parts (leb w.size x) (has_stripe x part.0) over in
      let l : IsLandedTail s.script.fails stripes sent x = record { place = was.place; stripe = part.0; there = part.1; made = landed.made; sent = landed.sent; landed = landed.landed; over = parts.1 } in
      closed was (value same ∙ byte_cut s.script.fails w.size w.name (store_of s old) (place same).0 (place same).1 opened.layout.components stripes sent each has.1 x k.came (leb-true w.size x parts.0) l)
