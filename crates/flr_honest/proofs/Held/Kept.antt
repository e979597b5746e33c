-- A component that was fresh in the same file holds the bytes of the plain file.
use Rattle.std.proofs.Common.{◌≡◌, ℕ, ◌<◌, ◌≤◌, Some, inl, inr, ◌⊎◌, refl, sym, ap, subst, ◌∙◌, get_or}
use Rattle.std.specs.Prelude.{◌^◌, Contains}
use Rattle.std.proofs.lemmas.Bool.{cases_eq}
use Rattle.flr_base.specs.declared.reply.Range.{Range}
use Rattle.composite_layout.specs.declared.component.Component.{Component}
use Rattle.mirror_select.specs.Held.{held}
use Rattle.mirror_select.proofs.Least.{from_contains}
use Rattle.meta_server.specs.Files.{File, file_of}
use Rattle.resync_copy.specs.Calls.{CopyView}
use Rattle.flr_places.proofs.Keeping.{some_same}
use Rattle.flr_steps.specs.declared.client.Client.{Client}
use Rattle.flr_steps.specs.declared.client.Running.{Running}
use Rattle.flr_steps.specs.declared.client.Running.TheVariants as running
use Rattle.flr_steps.specs.Clients.{call_now}
use Rattle.flr_steps.specs.States.{State, client_at}
use Rattle.flr_steps.specs.Traces.{Trace, copy_begins, doing_of, traced}
use Rattle.flr_claims.specs.Honesty.{IsAttempting, IsOpen, content}
use Rattle.flr_claims.specs.Sending.{Attempt, HasLanded, OfTruncate, OfWrite, Part, attempt_of, part_object}
use Rattle.flr_bytes.specs.Files.{Closes, HasLandedOver}
use Rattle.flr_bytes.specs.Laws.{LandsHere, StepsClose, StepsCount, StepsKeepBytes, StepsWrite}
use Rattle.flr_bytes.specs.Origins.{WasFreshIn}
use Rattle.flr_bytes.specs.Runs.{Honest, IsStep}
use Rattle.flr_bytes.specs.Sentences.{byte_in}
use Rattle.flr_bytes.specs.Writing.{HoldsStill, Writes}
use Rattle.flr_bytes.proofs.Held.{held_made}
use Rattle.flr_bytes.proofs.Alone.{open_in}
use Rattle.flr_bytes.proofs.Clients.{attempting_stays, landed_stays, under_way}
use Rattle.flr_bytes.proofs.Parts.{Lies, part_lies}
use Rattle.flr_honest.proofs.Held.Staying.{fresh_stays, same_held, still_held}

-- who copies has no attempt
pub none_copies : (s : State) (c : ℕ) (a : Attempt) (client : Client) (k : CopyView) → IsAttempting s c a → client_at s.clients c ≡ Some client → client.call ≡ running.Copy k → ⊥
none_copies s c a client k is here copies =
    let one : is.client ≡ client = some_same is.client client (sym is.here ∙ here) in
    let some : attempt_of (running.Copy k) ≡ Some a = ap attempt_of (sym copies) ∙ ap (λ (x : Client). attempt_of x.call) (sym one) ∙ is.attempt in
    cc

module _ (write : StepsWrite) (count : StepsCount) (s t : State) (old new : Trace) (c : ℕ) (is : IsStep s t old new c) (e : new ≡ traced s t old c) (honest : Honest s old) where
  abbrev call : Running
  call = call_now c is.step.client.call is.step.asked

  -- what has landed over a byte for the step's call leaves it open
  abbrev opened : (n x : ℕ) → HasLandedOver s old c n x → IsOpen s old n x
  opened n x w = record { client = c; attempt = w.attempt; attempting = w.attempting; same = w.same; place = w.place; part = w.part; landed = w.landed; over = w.over }

  -- a step that takes a writing call past its point writes nothing
  closes_still : (n x : ℕ) → Closes s t old new c n x → HoldsStill s.shared t.shared
  closes_still n x closes = by (write s t old new c is e)
    where
      never : (k : CopyView) → is.step.client.call ≡ running.Copy k → ⊥
      never k copies = none_copies s c closes.was.attempt is.step.client k closes.was.attempting is.step.here copies

      counted : (p : Part) → HoldsStill s.shared t.shared ⊎ LandsHere s t new c p → HoldsStill s.shared t.shared
      counted p (inl still) = still
      counted p (inr w) = absurd (closes.past w.0 w.3)

      by : Writes s.shared t.shared call → HoldsStill s.shared t.shared
      by (inl still) = still
      by (inr (inl sends)) = counted (OfWrite sends.piece) (count s t old new c is e (OfWrite sends.piece) (sends, refl))
      by (inr (inr (inl punches))) = counted (OfTruncate punches.asked.size punches.stripe) (count s t old new c is e (OfTruncate punches.asked.size punches.stripe) (punches, refl, refl))
      by (inr (inr (inr (inl resets)))) = absurd (never resets.asked (under_way c is.step.asked is.step.client.call (running.Copy resets.asked) resets.copies (ap copy_begins resets.at)))
      by (inr (inr (inr (inr puts)))) = absurd (never puts.asked (under_way c is.step.asked is.step.client.call (running.Copy puts.asked) puts.copies (ap copy_begins puts.at)))

  module _ (n x : ℕ) (d : Component) (w : WasFreshIn s.shared.meta n d) (low : d.extent.start ≤ x) (high : x < d.extent.end) where
    abbrev g : File
    g = w.was.file

    abbrev b : Component
    b = w.was.component

    from : b.extent.start ≤ x
    from = subst (λ (r : Range). r.start ≤ x) w.was.same.extent low

    to : x < b.extent.end
    to = subst (λ (r : Range). x < r.end) w.was.same.extent high

    -- where the call is past its point the byte is what it left
    pub closes_held : Closes s t old new c n x → held (content t.shared) d x ≡ byte_in t new n x
    closes_held closes =
        let landed : HasLandedOver s old c n x = closes.was in
        let p : Part = landed.part in
        let own = open_in s old is.before.holds.servers.sound is.before.sole n x (opened n x landed) g b w.was.there (from_contains g.layout.components b w.was.listed) w.fresh from to in
        let lies : Lies b p x = part_lies s is.before.holds is.before.shaped c landed.attempt landed.place p landed.attempting landed.landed.there n g b own.1.0 w.was.there (from_contains g.layout.components b w.was.listed) own.1.1 x landed.over in
        still_held s t (closes_still n x closes) d x
        ∙ same_held (content s.shared) b d x w.was.same
        ∙ held_made (content s.shared) b x (part_object p) own.0 lies.object
        ∙ ap (λ k. get_or (content s.shared (part_object p)) k 0) lies.offset
        ∙ honest.landed c landed.attempting.client landed.attempt landed.place p x landed.attempting.here landed.attempting.attempt landed.landed landed.over
        ∙ sym closes.leaves

    -- what it held before is the byte of the plain file, where that wasn't open
    was_held : x < 2 ^ 40 → (IsOpen s old n x → ⊥) → held (content s.shared) d x ≡ byte_in s old n x
    was_held most closed = same_held (content s.shared) b d x w.was.same ∙ honest.holds n g b x w.was.there w.was.listed w.fresh (from, to, most) closed

    -- so it is after the step
    pub kept_held : StepsKeepBytes → StepsClose → (f : File) → file_of n t.shared.meta.files ≡ Some f → Contains f.layout.components d → x < 2 ^ 40 → (IsOpen t new n x → ⊥) → held (content t.shared) d x ≡ byte_in t new n x
    kept_held keep close f found listed most closed = by (cases_eq (held (content t.shared) d x) (byte_in t new n x))
      where
        -- a byte that isn't what it is to be wasn't open
        not_open : (held (content t.shared) d x ≡ byte_in t new n x → ⊥) → IsOpen s old n x → ⊥
        not_open wrong was_open = at (cases_eq was_open.client c)
          where
            own : HasLandedOver s old c n x → ⊥
            own landed = after (close s t old new c is e honest.sized n x g f w.was.there found landed)
              where
                after : HasLandedOver t new c n x ⊎ Closes s t old new c n x → ⊥
                after (inl still) = closed (record { client = c; attempt = still.attempt; attempting = still.attempting; same = still.same; place = still.place; part = still.part; landed = still.landed; over = still.over })
                after (inr closes) = wrong (closes_held closes)

            at : (was_open.client ≡ c) ⊎ (was_open.client ≡ c → ⊥) → ⊥
            at (inl same) = own (record {
              attempt = was_open.attempt;
              attempting = subst (λ k. IsAttempting s k was_open.attempt) same was_open.attempting;
              same = was_open.same;
              place = was_open.place;
              part = was_open.part;
              landed = subst (λ k. HasLanded s.script.fails was_open.attempt (doing_of old k) was_open.place was_open.part) same was_open.landed;
              over = was_open.over;
            })
            at (inr apart) = closed (record {
              client = was_open.client;
              attempt = was_open.attempt;
              attempting = attempting_stays s t c old is.step was_open.client was_open.attempt apart was_open.attempting;
              same = was_open.same;
              place = was_open.place;
              part = was_open.part;
              landed = subst (λ (tr : Trace). HasLanded t.script.fails was_open.attempt (doing_of tr was_open.client) was_open.place was_open.part) (sym e) (landed_stays s t c old is.step was_open.client was_open.attempt was_open.place was_open.part apart was_open.attempting was_open.landed);
              over = was_open.over;
            })

        stays : (held (content t.shared) d x ≡ byte_in t new n x → ⊥) → byte_in t new n x ≡ byte_in s old n x → held (content t.shared) d x ≡ byte_in t new n x
        stays wrong same = fresh_stays write count s t old new c is e n f d found listed x closed n g b w.was.there w.was.listed w.fresh w.was.same low high ∙ was_held most (not_open wrong) ∙ sym same

        by : (held (content t.shared) d x ≡ byte_in t new n x) ⊎ (held (content t.shared) d x ≡ byte_in t new n x → ⊥) → held (content t.shared) d x ≡ byte_in t new n x
        by (inl right) = right
        by (inr wrong) = after (keep s t old new c is e honest.sized n x g f w.was.there found)
          where
            after : (byte_in t new n x ≡ byte_in s old n x) ⊎ Closes s t old new c n x → held (content t.shared) d x ≡ byte_in t new n x
            after (inl same) = stays wrong same
            after (inr closes) = closes_held closes
