-- What another client's step leaves of a copy's destinations: their objects, while the copy's lease stands.
use Rattle.std.proofs.Common.{◌≡◌, ℕ, zero, suc, ◌≤◌, Some, List, [], ◌∷◌, length, map, inl, inr, ◌⊎◌, refl, sym, ap, subst, ◌∙◌, arith}
use Rattle.std.specs.List.{AllByRecursion}
use Rattle.std.specs.Prelude.{slice_get, slice_index}
use Rattle.std.proofs.lemmas.Bool.{cases_eq}
use Rattle.std.proofs.lemmas.Bool.Decides.{nat_tests}
use Rattle.flr_base.specs.declared.reply.ObjectId.{ObjectId}
use Rattle.composite_layout.specs.declared.component.Component.{Component}
use Rattle.layout_lease.specs.declared.lease.KeyState.TheVariants.{Held}
use Rattle.layout_lease.specs.Leases.{KeyView, state_of}
use Rattle.mirror_select.proofs.Least.{In, from_contains, get_there, to_contains}
use Rattle.mirror_select.specs.Tails.{tail_stripes}
use Rattle.meta_server.specs.Files.{File, file_of}
use Rattle.meta_server.proofs.Placing.{number_found}
use Rattle.call_steps.specs.Pieces.{object_of}
use Rattle.call_steps.specs.Servers.{Servers}
use Rattle.client_write.specs.declared.phase.CutAt.{CutAt}
use Rattle.client_write.specs.declared.phase.WriteAt.{WriteAt}
use Rattle.resync_copy.specs.declared.phase.CopyAt.{CopyAt}
use Rattle.resync_copy.specs.declared.phase.CopyAt.TheVariants as at
use Rattle.resync_copy.specs.declared.phase.CopyStage.TheVariants as stage
use Rattle.resync_copy.specs.declared.parts.CopyObject.{CopyObject}
use Rattle.resync_copy.specs.declared.phase.Chunk.{Chunk}
use Rattle.resync_copy.specs.Calls.{CopyView}
use Rattle.resync_copy.specs.Copies.{object_at, piece_to}
use Rattle.resync_copy.specs.Views.{CopyingView}
use Rattle.copy_laws.proofs.Places.{reset_place}
use Rattle.flr_numbers.specs.Copies.{copy_hand}
use Rattle.flr_numbers.specs.Hands.{Has, version_on}
use Rattle.flr_numbers.specs.Sentences.{hand_of}
use Rattle.flr_numbers.proofs.Clients.{has_now}
use Rattle.flr_numbers.proofs.Commands.{is_command}
use Rattle.script_values.specs.Commands.{IsCommand}
use Rattle.flr_steps.specs.declared.client.Client.{Client}
use Rattle.flr_steps.specs.declared.client.Running.{Running}
use Rattle.flr_steps.specs.declared.client.Running.TheVariants as running
use Rattle.flr_steps.specs.Clients.{call_now}
use Rattle.flr_steps.specs.States.{State}
use Rattle.flr_steps.specs.Traces.{Trace, doing_of, sent_calls}
use Rattle.flr_claims.specs.Honesty.{IsAttempting, content}
use Rattle.flr_claims.specs.Sending.{Attempt, IsAdmitted, cut_attempt, write_attempt, OfTruncate, OfWrite, Part, attempt_of, part_object}
use Rattle.flr_shut.specs.Sentences.{CopyShut, IsKeptOff, IsReset, IsShut}
use Rattle.flr_sole.specs.Copies.{HasLandedOn, IsReady}
use Rattle.flr_sole.specs.Copies as sole
use Rattle.flr_sole.specs.Sentences.{HasSent, IsAlone, HasSentPieces, HasSentTails, StandsAlone}
use Rattle.flr_sole.proofs.Keeping as keeping
use Rattle.flr_sole.proofs.Excluding.{MayLand}
use Rattle.flr_bytes.specs.Runs.{Honest, IsStep}
use Rattle.flr_bytes.specs.Sentences.{byte_in}
use Rattle.flr_bytes.specs.Writing.{Admits, PunchesTail, PutsChunk, ResetsObject, SendsPiece, Writes}
use Rattle.flr_bytes.specs.Fitting.{CopiesFit, IsChunkFit, IsFitAt, IsFit}
use Rattle.flr_honest.proofs.Lasting.Sourced.{IsClear}
use Rattle.flr_honest.proofs.Lasting.Objects.{one_place}
use Rattle.flr_honest.proofs.Lasting.Own.{IsKnownBy, now_known, side_holds}
use Rattle.flr_honest.proofs.Lasting.Puts as puts

-- whether two objects are the same
decide : (a b : ObjectId) → (a ≡ b) ⊎ (a ≡ b → ⊥)
decide a b = elim (cases_eq a.target b.target) as (λ _. (a ≡ b) ⊎ (a ≡ b → ⊥)) [
  | inl target ↦ elim (cases_eq a.number b.number) as (λ _. (a ≡ b) ⊎ (a ≡ b → ⊥)) [
    | inl number ↦ inl (λ j. record { target = target j; number = number j })
    | inr apart ↦ inr (λ same. apart (ap (λ (x : ObjectId). x.number) same))
  ]
  | inr apart ↦ inr (λ same. apart (ap (λ (x : ObjectId). x.target) same))
]

-- what is admitted isn't below the version that is kept
admitted_above : (s : Servers) (o : ObjectId) (version : ℕ) → Admits s o version → version_on s.targets o ≤ version
admitted_above s o version e = grind (arith, nat_tests, e)

mapped : {X Y : Type 0} (f : X → Y) (xs : List X) (i : ℕ) (x : X) → slice_get xs i ≡ Some x → slice_get (map f xs) i ≡ Some (f x)
mapped f [] i x e = absurd (cc)
mapped f (y ∷ ys) zero x e = let one : y ≡ x = cc in ap (λ z. Some (f z)) one
mapped f (y ∷ ys) (suc i) x e = mapped f ys i x e

module _ (s t : State) (old new : Trace) (c : ℕ) (is : IsStep s t old new c) (planned : CopiesFit s) (honest : Honest s old) where
  abbrev call : Running
  call = call_now c is.step.client.call is.step.asked

  known : IsKnownBy s old (call_now c is.step.client.call is.step.asked)
  known = now_known s old c is.step.asked is.step.client.call (honest.calls c is.step.client is.step.here, planned c is.step.client is.step.here, is.before.shut.calls c is.step.client is.step.here)

  kept : sole.Says s.shared.meta s.shared.targets (λ n p. HasLandedOn s old n p) (call_now c is.step.client.call is.step.asked)
  kept = keeping.now_says s.shared.meta s.shared.targets (λ n p. HasLandedOn s old n p) c is.step.asked is.step.client.call (is.before.sole.copies c is.step.client is.step.here)

  has_all : Has c s.shared.meta s.shared.locks (hand_of (call_now c is.step.client.call is.step.asked))
  has_all =
      let h = is.before.holds in
      let client : Client = is.step.client in
      let own = h.clients c client is.step.here in
      let le = h.script.form.few_mirrors in
      let few = h.script.form.few_clients in
      let good : IsCommand s.script.most s.script.targets (length s.script.clients) is.step.asked = is_command s.script c client.done is.step.asked h.script is.step.commanded in
      has_now c s.shared is.step.asked s.script.most s.script.targets (length s.script.clients) le few good client.call own.has

  -- what is known of a copy that the step is of
  module _ (asked : CopyView) (copies : call_now c is.step.client.call is.step.asked ≡ running.Copy asked) (next : CopyAt) (stands : asked.at ≡ next) where
    copy_planned : IsFitAt next
    copy_planned = subst IsFitAt stands (subst IsFit copies known.1)

    copy_shut : CopyShut s.shared.meta s.shared.targets next
    copy_shut = subst (CopyShut s.shared.meta s.shared.targets) stands (subst (IsShut s.shared.meta s.shared.targets) copies known.2)

    copy_kept : sole.CopySays s.shared.meta s.shared.targets (λ n p. HasLandedOn s old n p) next
    copy_kept = subst (sole.CopySays s.shared.meta s.shared.targets (λ n p. HasLandedOn s old n p)) stands (subst (sole.Says s.shared.meta s.shared.targets (λ n p. HasLandedOn s old n p)) copies kept)

    copy_keys : AllByRecursion (λ (key : KeyView). key.client ≡ c) (copy_hand next).keys
    copy_keys = subst (λ (a : CopyAt). AllByRecursion (λ (key : KeyView). key.client ≡ c) (copy_hand a).keys) stands (subst (λ (r : Running). AllByRecursion (λ (key : KeyView). key.client ≡ c) (hand_of r).keys) copies has_all.own)

  sent : HasSent (call_now c is.step.client.call is.step.asked) (doing_of old c)
  sent = keeping.now_sent c is.step.asked is.step.client.call (doing_of old c) (is.before.sole.sent c is.step.client is.step.here)

  -- an object of a stale component of a file of which another client's lease stands, that keeps at least the file's generation
  module _ (key : KeyView) (others : key.client ≡ c → ⊥) (stands : state_of s.shared.meta.leases key ≡ Held) (f : File) (there : file_of key.file s.shared.meta.files ≡ Some f) (e : Component) (i : In e f.layout.components) (no : (p : Part) (g : File) → f ≡ g → (alone : IsAlone g.layout.components p) → e ≡ alone.component → MayLand s.shared.meta s.shared.targets key.file p → ⊥) (o : ObjectId) (has : In o e.objects) (high : f.layout.generation ≤ version_on s.shared.targets o) where
    -- a part that may land isn't there
    no_part : (a : Attempt) (place : ℕ) (p : Part) → attempt_of (call_now c is.step.client.call is.step.asked) ≡ Some a → IsAdmitted s.shared a (doing_of old c) place p → o ≡ part_object p → ⊥
    no_part a place p attempts admitted same =
        let attempting : IsAttempting s c a = record { client = is.step.client; here = is.step.here; attempt = sym (keeping.now_attempts c is.step.asked is.step.client.call) ∙ attempts } in
        let alone : StandsAlone s.shared.meta.files a.opened.file p = is.before.sole.parts c a place p attempting (inl admitted) in
        let may = keeping.may_land s c old is.before.holds is.before.known is.before.locked is.before.sole c a place p attempting admitted in
        none alone may
      where
        none : StandsAlone s.shared.meta.files a.opened.file p → MayLand s.shared.meta s.shared.targets a.opened.file p → ⊥
        none alone may = no p alone.file one.0 alone.alone one.1 (subst (λ n. MayLand s.shared.meta s.shared.targets n p) number may)
          where
            one : (f ≡ alone.file) × (e ≡ alone.alone.component)
            one = one_place o s.shared.meta is.before.holds.servers.once key.file a.opened.file f alone.file e alone.alone.component there alone.there i (from_contains alone.file.layout.components alone.alone.component alone.alone.listed) has (subst (λ q. In q alone.alone.component.objects) (sym same) (from_contains alone.alone.component.objects (part_object p) alone.alone.object))

            number : a.opened.file ≡ key.file
            number = sym (number_found a.opened.file s.shared.meta.files alone.file alone.there) ∙ ap (λ (x : File). x.number) (sym one.0) ∙ number_found key.file s.shared.meta.files f there

    same_holds : (p : ObjectId) → ((q : ObjectId) → (q ≡ p → ⊥) → content t.shared q ≡ content s.shared q) → (o ≡ p → ⊥) → content t.shared o ≡ content s.shared o
    same_holds p elsewhere apart = elsewhere o apart

    sends : SendsPiece s.shared t.shared (call_now c is.step.client.call is.step.asked) → content t.shared o ≡ content s.shared o
    sends w = w.new.others o (λ same. no_part (record { opened = w.writing.opened; parts = map OfWrite w.writing.pieces }) w.next (OfWrite w.piece) attempts (record {
      there = mapped OfWrite w.writing.pieces w.next w.piece w.there;
      unsent = (let long : length (sent_calls (doing_of old c)) ≡ w.next = counted in omega (arith, long));
      current = admitted_above s.shared (object_of w.piece) w.writing.opened.layout.generation w.admitted;
    }) same)
      where
        attempts : attempt_of (call_now c is.step.client.call is.step.asked) ≡ Some (record { opened = w.writing.opened; parts = map OfWrite w.writing.pieces })
        attempts = ap attempt_of w.writes ∙ ap write_attempt w.at

        counted : length (sent_calls (doing_of old c)) ≡ w.next
        counted = subst (λ (a : WriteAt). HasSentPieces a (doing_of old c)) w.at (subst (λ (r : Running). HasSent r (doing_of old c)) w.writes sent)

    punches : PunchesTail s.shared t.shared (call_now c is.step.client.call is.step.asked) → content t.shared o ≡ content s.shared o
    punches w = w.new.others o (λ same. no_part (record { opened = w.cutting.opened; parts = map (OfTruncate w.asked.size) (tail_stripes w.cutting.opened.layout w.asked.size) }) w.next (OfTruncate w.asked.size w.stripe) attempts (record {
      there = mapped (OfTruncate w.asked.size) (tail_stripes w.cutting.opened.layout w.asked.size) w.next w.stripe w.there;
      unsent = (let long : length (sent_calls (doing_of old c)) ≡ w.next = counted in omega (arith, long));
      current = admitted_above s.shared w.stripe.object w.cutting.opened.layout.generation w.admitted;
    }) same)
      where
        attempts : attempt_of (call_now c is.step.client.call is.step.asked) ≡ Some (record { opened = w.cutting.opened; parts = map (OfTruncate w.asked.size) (tail_stripes w.cutting.opened.layout w.asked.size) })
        attempts = ap attempt_of w.truncates ∙ ap (cut_attempt w.asked.size) w.at

        counted : length (sent_calls (doing_of old c)) ≡ w.next
        counted = subst (λ (a : CutAt). HasSentTails a (doing_of old c)) w.at (subst (λ (r : Running). HasSent r (doing_of old c)) w.truncates sent)

    -- a copy with a lease of its own is too old there
    no_copy : (y : CopyingView) → IsKeptOff s.shared.meta s.shared.targets y → (key ≡ y.side.key → ⊥) → IsReset y o → Admits s.shared o y.side.layout.generation → ⊥
    no_copy y off apart r admitted =
        let less = off.1 o (record { number = key.file; file = f; there = there; component = e; listed = to_contains f.layout.components e i; has = to_contains e.objects o has }) key r refl stands apart in
        let low = admitted_above s.shared o y.side.layout.generation admitted in
        omega (arith, less, low, high)

    resets : ResetsObject s.shared t.shared (call_now c is.step.client.call is.step.asked) → content t.shared o ≡ content s.shared o
    resets w = w.new.others o (λ same.
        no_copy w.copying (copy_shut w.asked w.copies (at.Copy (stage.Reset w.copying w.next)) w.at) (λ one. others (ap (λ (k : KeyView). k.client) one ∙ (copy_keys w.asked w.copies (at.Copy (stage.Reset w.copying w.next)) w.at).0)) (w.next, w.within, sym same)
        (subst (λ q. Admits s.shared q w.copying.side.layout.generation) (sym same) w.admitted))

    puts_chunk : PutsChunk s.shared t.shared (call_now c is.step.client.call is.step.asked) → content t.shared o ≡ content s.shared o
    puts_chunk w = w.new.others o (λ same.
        no_copy h.copying off (λ one. others (ap (λ (k : KeyView). k.client) one ∙ (copy_keys w.asked w.copies (at.Copy (stage.Put w.chunk w.bytes)) w.at).0)) (reset same)
        (subst (λ q. Admits s.shared q w.chunk.copying.side.layout.generation) (sym same) w.admitted))
      where
        h : Chunk
        h = w.chunk

        off : IsKeptOff s.shared.meta s.shared.targets w.chunk.copying
        off = copy_shut w.asked w.copies (at.Copy (stage.Put w.chunk w.bytes)) w.at

        ready : IsReady s.shared.meta s.shared.targets (λ n p. HasLandedOn s old n p) w.chunk.copying
        ready = copy_kept w.asked w.copies (at.Copy (stage.Put w.chunk w.bytes)) w.at

        own : IsChunkFit w.chunk
        own = (copy_planned w.asked w.copies (at.Copy (stage.Put w.chunk w.bytes)) w.at).0

        clear : IsClear s.shared (λ n p. HasLandedOn s old n p) (byte_in s old) w.chunk.copying
        clear = (ready.0, ready.3, side_holds s old honest is.before.holds.servers.sound w.chunk.copying.side ready.0.0)

        reset : o ≡ object_of (piece_to w.chunk) → IsReset w.chunk.copying o
        reset same =
            let sound = is.before.holds.servers.sound in
            let once = is.before.holds.servers.once in
            let lands : ℕ → Part → Type 0 = (λ n p. HasLandedOn s old n p) in
            let one : o ≡ puts.o s.shared w.chunk sound once lands (byte_in s old) clear off.2 own = same ∙ ap object_of (puts.put_to s.shared w.chunk sound once lands (byte_in s old) clear off.2 own) in
            let r = reset_place w.chunk.copying.side.layout.components w.chunk.copying.ids (slice_index w.chunk.copying.ids w.chunk.place) (puts.d s.shared w.chunk sound once lands (byte_in s old) clear off.2 own) (puts.o s.shared w.chunk sound once lands (byte_in s old) clear off.2 own) (object_at [] 0)
            (get_there w.chunk.copying.ids w.chunk.place 0 (puts.frame s.shared w.chunk sound once lands (byte_in s old) clear off.2 own).there) (puts.owned s.shared w.chunk sound once lands (byte_in s old) clear off.2 own).1 (puts.has s.shared w.chunk sound once lands (byte_in s old) clear off.2 own) in
            (r.0, r.1, ap (λ (k : CopyObject). k.object) r.2 ∙ sym one)

    -- the object holds what it held
    pub untouched : Writes s.shared t.shared (call_now c is.step.client.call is.step.asked) → content t.shared o ≡ content s.shared o
    untouched (inl still) = still o
    untouched (inr (inl w)) = sends w
    untouched (inr (inr (inl w))) = punches w
    untouched (inr (inr (inr (inl w)))) = resets w
    untouched (inr (inr (inr (inr w)))) = puts_chunk w
