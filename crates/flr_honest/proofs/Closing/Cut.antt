-- The bytes that the commit of a truncate leaves.
use Rattle.std.proofs.Common.{◌≡◌, ◌⊎◌, ℕ, ◌<◌, ◌≤◌, Bool, true, false, ◌&&◌, leb, List, length, map, Some, inl, inr, refl, sym, ap, ◌∙◌, arith, get_or, if◌then◌else◌}
use Rattle.std.specs.Prelude.{slice_get}
use Rattle.std.specs.List.{flat_map}
use Rattle.std.proofs.lemmas.Bool.{and_from, and_parts, cases_Bool, cases_lt, leb-true, le-leb}
use Rattle.std.proofs.lemmas.List.{get_or_past}
use Rattle.composite_layout.specs.declared.component.Component.{Component}
use Rattle.mirror_select.specs.Tails.{StripeObject}
use Rattle.object_target.specs.declared.fail.Fail.{Fail}
use Rattle.client_write.specs.declared.phase.Sent.{Sent}
use Rattle.client_write.specs.declared.phase.Sent.TheVariants as ending
use Rattle.client_write.specs.Truncates.{cut_reply}
use Rattle.flr_steps.specs.Traces.{Made, has_landed}
use Rattle.plain_files.specs.Effects.{truncated, with_bytes}
use Rattle.plain_files.specs.Files.{Plain, SentTail, Tails, bytes_of, fit, is_punched, plain_of, wipe}
use Rattle.flr_claims.specs.Sending.{OfTruncate, tail_for}
use Rattle.flr_bytes.specs.Sent.{AllLanded, AreSentFor, AreSentTo}
use Rattle.flr_bytes.proofs.StoreEffects.{own_new}
use Rattle.flr_honest.proofs.Closing.Lists.{all_there, made_past, made_within, some_there, there_within}
use Rattle.flr_honest.proofs.Closing.Tails.{IsLandedTail, PunchEach, has_stripe, landed_punched, punched_landed}

module _ (fails : List Fail) (size : ℕ) (name : List ℕ) (store : List Plain) (place : ℕ) (there : plain_of name store ≡ Some place) (cs : List Component) (ss : List StripeObject) (ms : List Made)
    (each : PunchEach fails size cs ss) (sent : AreSentFor (map (OfTruncate size) ss) ms) (x : ℕ) where
  abbrev tails : List SentTail
  tails = flat_map (tail_for fails cs) ms

  abbrev old : List ℕ
  old = bytes_of store name

  -- the byte afterwards
  abbrev pub cut_byte : Sent → ℕ
  cut_byte came = get_or (bytes_of (truncated name size (Tails tails) (cut_reply came) store) name) x 0

  -- zero where it is punched, and the old one elsewhere
  abbrev wiped : Bool → ℕ
  wiped b = if b then 0 else get_or old x 0

  by_fit : get_or (fit old size) x 0 ≡ (if leb size x then 0 else get_or old x 0)
  by_fit = elim (cases_lt x size) as (λ _. get_or (fit old size) x 0 ≡ wiped (leb size x)) [
    | inl less ↦ made_within size (λ y. get_or old y 0) x less ∙ sym (ap wiped (low less))
    | inr past ↦ made_past size (λ y. get_or old y 0) x (omega (arith, past)) ∙ sym (ap wiped (le-leb size x (omega (arith, past))))
  ]
    where
      low : x < size → leb size x ≡ false
      low less = elim (cases_Bool (leb size x)) as (λ _. leb size x ≡ false) [ inl is ↦ (let over = leb-true size x is in absurd (omega (arith, less, over))) | inr isnt ↦ isnt ]

  by_wipe : get_or (wipe old size tails) x 0 ≡ wiped (leb size x && is_punched tails x)
  by_wipe = elim (cases_lt x (length old)) as (λ _. get_or (wipe old size tails) x 0 ≡ wiped (leb size x && is_punched tails x)) [
    | inl less ↦ made_within (length old) (λ y. if leb size y && is_punched tails y then 0 else get_or old y 0) x less
    | inr past ↦ (
        let over : length old ≤ x = omega (arith, past) in
        made_past (length old) (λ y. if leb size y && is_punched tails y then 0 else get_or old y 0) x over ∙ sym (none (leb size x && is_punched tails x) over)
        )
  ]
    where
      none : (b : Bool) → length old ≤ x → wiped b ≡ 0
      none true over = refl
      none false over = get_or_past old x 0 over

  fitted : cut_byte ending.All ≡ wiped (leb size x)
  fitted = ap (λ (bs : List ℕ). get_or bs x 0) (own_new name (λ old. fit old size) store place there) ∙ by_fit

  failed : get_or (bytes_of (with_bytes name (λ old. wipe old size tails) store) name) x 0 ≡ wiped (leb size x && is_punched tails x)
  failed = ap (λ (bs : List ℕ). get_or bs x 0) (own_new name (λ old. wipe old size tails) store place there) ∙ by_wipe

  -- what is kept of a byte: it stays, or it is cut where a stripe's call landed
  abbrev pub IsCutHere : ℕ → Type 0
  IsCutHere byte = (byte ≡ get_or (bytes_of store name) x 0) ⊎ ((size ≤ x) × IsLandedTail fails ss ms x × (byte ≡ 0))

  stays_wiped : (byte : ℕ) → byte ≡ wiped (leb size x && is_punched tails x) → IsCutHere byte
  stays_wiped byte e = elim (cases_Bool (leb size x && is_punched tails x)) as (λ _. IsCutHere byte) [
    | inl is ↦ (let parts = and_parts (leb size x) (is_punched tails x) is in inr (leb-true size x parts.0, punched_landed fails size cs x ss ms each sent parts.1, e ∙ ap wiped is))
    | inr isnt ↦ inl (e ∙ ap wiped isnt)
  ]

  module _ (has : size ≤ x → x < length (bytes_of store name) → (p : ℕ) × (s : StripeObject) × (slice_get ss p ≡ Some s) × (has_stripe x s ≡ true)) where
    stays_whole : length ms ≡ length ss → AllLanded fails ms → IsCutHere (cut_byte ending.All)
    stays_whole long landed = elim (cases_Bool (leb size x)) as (λ _. IsCutHere (cut_byte ending.All)) [
      | inl is ↦ elim (cases_lt x (length old)) as (λ _. IsCutHere (cut_byte ending.All)) [
        | inl less ↦ (
            let low = leb-true size x is in
            let at = has low less in
            let inside = there_within ss at.0 at.1 at.2 in
            let made = some_there ms at.0 (omega (arith, inside, long)) in
            inr (low, record { place = at.0; stripe = at.1; there = at.2; made = made.0; sent = made.1; landed = all_there (λ (m : Made). has_landed fails m ≡ true) ms at.0 made.0 landed made.1; over = at.3 }, fitted ∙ ap wiped is)
            )
        | inr past ↦ inl (fitted ∙ ap wiped is ∙ sym (get_or_past old x 0 (omega (arith, past))))
      ]
      | inr isnt ↦ inl (fitted ∙ ap wiped isnt)
    ]

    pub byte_stays : (came : Sent) → AreSentTo fails (length ss) came ms → IsCutHere (cut_byte came)
    byte_stays ending.All to = stays_whole to.0 to.1
    byte_stays (ending.Failed accepted call) to = stays_wiped (cut_byte (ending.Failed accepted call)) failed
    byte_stays (ending.Old accepted step) to = stays_wiped (cut_byte (ending.Old accepted step)) failed

  -- where a stripe's call landed it is cut
  pub byte_cut : (came : Sent) → size ≤ x → IsLandedTail fails ss ms x → cut_byte came ≡ 0
  byte_cut ending.All low l = fitted ∙ ap wiped (le-leb size x low)
  byte_cut (ending.Failed accepted call) low l = failed ∙ ap wiped (and_from (leb size x) (is_punched tails x) (le-leb size x low) (landed_punched fails size cs x ss ms each sent l.place l.stripe l.made l.there l.sent l.landed l.over))
  byte_cut (ending.Old accepted step) low l = failed ∙ ap wiped (and_from (leb size x) (is_punched tails x) (le-leb size x low) (landed_punched fails size cs x ss ms each sent l.place l.stripe l.made l.there l.sent l.landed l.over))
