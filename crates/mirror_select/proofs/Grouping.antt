-- The pieces of a range are its first piece and those of the rest.
use Rattle.std.proofs.Common.{◌≡◌, ℕ, zero, suc, ◌+◌, ◌-◌, ◌<◌, ◌≤◌, Bool, true, false, not, List, [], ◌∷◌, filter, Option, Some, None, refl, sym, ap, ◌∙◌, inl, inr, arith}
use Rattle.std.specs.Prelude.{◌⊎◌}
use Rattle.std.specs.List.{find, list_any, range_with_len}
use Rattle.std.proofs.lemmas.Bool.{cases_Bool, cases_lt, lt-ltb, le-ltb}
use Rattle.composite_layout.specs.declared.component.Component.{Component}
use Rattle.mirror_select.specs.Candidates.{is_candidate}
use Rattle.mirror_select.specs.Pieces.{are_together, starts_of, piece_at, next_start, pieces_from, pieces_by, first_without}

module _ (q : ℕ → Bool) where
  -- numbers that fail at the front are left out
  skip_filter : (a k n : ℕ) → ((x : ℕ) → a ≤ x → x < a + k → q x ≡ false) → filter q (range_with_len a (k + n)) ≡ filter q (range_with_len (a + k) n)
  skip_filter a zero n none = let count : 0 + n ≡ n = omega arith in let here : a + 0 ≡ a = omega arith in rw (count, here) refl
  skip_filter a (suc k) n none =
      let ih = skip_filter (a + 1) k n (λ x le lt. none x (omega arith) (omega arith)) in
      let count : suc k + n ≡ suc (k + n) = omega arith in
      let here : a + 1 + k ≡ a + suc k = omega arith in
      let fails : q a ≡ false = none a (omega arith) (omega arith) in
      rw (count, fails, ← here) ih

  skip_find : (a k n : ℕ) → ((x : ℕ) → a ≤ x → x < a + k → q x ≡ false) → find q (range_with_len a (k + n)) ≡ find q (range_with_len (a + k) n)
  skip_find a zero n none = let count : 0 + n ≡ n = omega arith in let here : a + 0 ≡ a = omega arith in rw (count, here) refl
  skip_find a (suc k) n none =
      let ih = skip_find (a + 1) k n (λ x le lt. none x (omega arith) (omega arith)) in
      let count : suc k + n ≡ suc (k + n) = omega arith in
      let here : a + 1 + k ≡ a + suc k = omega arith in
      let fails : q a ≡ false = none a (omega arith) (omega arith) in
      rw (count, fails, ← here) ih

-- the bytes that begin a piece behind the first
abbrev begins : (ℕ → Option Component) → ℕ → Bool
begins whose x = not (are_together whose (x - 1) x)

module _ (whose : ℕ → Option Component) where
  pub starts_none : (start end : ℕ) → end ≤ start → starts_of whose start end ≡ []
  starts_none start end none = rw (le-ltb start end none) refl

  pub starts_some : (start end : ℕ) → start < end → starts_of whose start end ≡ start ∷ filter (begins whose) (range_with_len (start + 1) (end - (start + 1)))
  starts_some start end some = rw (lt-ltb start end some) refl

  -- the bytes from `start` up to `stop` are one piece's
  pub record IsStretch (start stop end : ℕ) : Type 0 where
    pub some : start < stop
    pub within : stop ≤ end
    pub together : (x : ℕ) → start < x → x < stop → are_together whose (x - 1) x ≡ true
    pub apart : stop < end → are_together whose (stop - 1) stop ≡ false

  starts_step : (start stop end : ℕ) → IsStretch start stop end → starts_of whose start end ≡ start ∷ starts_of whose stop end
  starts_step start stop end s =
      let some = s.some in
      let within = s.within in
      let count : end - (start + 1) ≡ (stop - (start + 1)) + (end - stop) = omega arith in
      let here : start + 1 + (stop - (start + 1)) ≡ stop = omega arith in
      let skipped = skip_filter (begins whose) (start + 1) (stop - (start + 1)) (end - stop) (λ x le lt. rw (s.together x (omega arith) (omega arith)) refl) in
      starts_some start end (omega arith)
      ∙ ap (λ (n : ℕ). start ∷ filter (begins whose) (range_with_len (start + 1) n)) count
      ∙ ap (λ (xs : List ℕ). start ∷ xs) (skipped ∙ ap (λ (b : ℕ). filter (begins whose) (range_with_len b (end - stop))) here ∙ rest (cases_lt stop end))
    where
      rest : (stop < end) ⊎ (end ≤ stop) → filter (begins whose) (range_with_len stop (end - stop)) ≡ starts_of whose stop end
      rest (inl less) =
          let count : end - stop ≡ suc (end - (stop + 1)) = omega arith in
          ap (λ (n : ℕ). filter (begins whose) (range_with_len stop n)) count ∙ rw (s.apart less) (sym (starts_some stop end less))
      rest (inr none) =
          let count : end - stop ≡ 0 = omega arith in
          ap (λ (n : ℕ). filter (begins whose) (range_with_len stop n)) count ∙ sym (starts_none stop end none)

  next_step : (stop end : ℕ) → stop ≤ end → next_start (starts_of whose stop end) end ≡ stop
  next_step stop end le = elim (cases_lt stop end) as (λ _. next_start (starts_of whose stop end) end ≡ stop) [
    | inl less ↦ rw (starts_some stop end less) refl
    | inr none ↦ rw (starts_none stop end none) (omega arith)
  ]

  pub pieces_step : (start stop end : ℕ) (c : Component) → IsStretch start stop end → whose start ≡ Some c → pieces_by whose start end ≡ piece_at c start stop ∷ pieces_by whose stop end
  unfolding pieces_by
  pieces_step start stop end c s its =
      ap (λ (xs : List ℕ). pieces_from whose xs end) (starts_step start stop end s)
      ∙ rw (next_step stop end s.within, its) refl

  pub pieces_none : (start end : ℕ) → end ≤ start → pieces_by whose start end ≡ []
  unfolding pieces_by
  pieces_none start end none = rw (starts_none start end none) refl

-- bytes with a candidate at the front aren't the first without one
pub without_step : (cs : List Component) (failed : List ℕ) (start stop end : ℕ) → start ≤ stop → stop ≤ end → ((x : ℕ) → start ≤ x → x < stop → list_any (is_candidate failed x) cs ≡ true) →
    first_without cs start end failed ≡ first_without cs stop end failed
unfolding first_without
without_step cs failed start stop end le within some =
    let q : ℕ → Bool = λ x. not (list_any (is_candidate failed x) cs) in
    let count : end - start ≡ (stop - start) + (end - stop) = omega arith in
    let here : start + (stop - start) ≡ stop = omega arith in
    ap (λ (n : ℕ). find q (range_with_len start n)) count
    ∙ skip_find q start (stop - start) (end - stop) (λ x le lt. rw (some x le (omega arith)) refl)
    ∙ ap (λ (b : ℕ). find q (range_with_len b (end - stop))) here

pub without_here : (cs : List Component) (failed : List ℕ) (start end : ℕ) → start < end → list_any (is_candidate failed start) cs ≡ false → first_without cs start end failed ≡ Some start
unfolding first_without
without_here cs failed start end less none =
    let count : end - start ≡ suc (end - (start + 1)) = omega arith in
    ap (λ (n : ℕ). find (λ x. not (list_any (is_candidate failed x) cs)) (range_with_len start n)) count ∙ rw none refl

pub without_none : (cs : List Component) (failed : List ℕ) (start end : ℕ) → end ≤ start → first_without cs start end failed ≡ None
unfolding first_without
without_none cs failed start end none =
    let count : end - start ≡ 0 = omega arith in
    ap (λ (n : ℕ). find (λ x. not (list_any (is_candidate failed x) cs)) (range_with_len start n)) count

-- who has the bytes of the range is all that its pieces hang on
module _ (whose other : ℕ → Option Component) where
  same_filter : (p q : ℕ → Bool) (a n : ℕ) → ((x : ℕ) → a ≤ x → x < a + n → p x ≡ q x) → filter p (range_with_len a n) ≡ filter q (range_with_len a n)
  same_filter p q a zero same = refl
  same_filter p q a (suc n) same =
      let here : p a ≡ q a = same a (omega arith) (omega arith) in
      let rest = same_filter p q (a + 1) n (λ x le lt. same x (omega arith) (omega arith)) in
      rw (here, rest) refl

  same_starts : (start end : ℕ) → ((x : ℕ) → start ≤ x → x < end → whose x ≡ other x) → starts_of whose start end ≡ starts_of other start end
  same_starts start end same = elim (cases_lt start end) as (λ _. starts_of whose start end ≡ starts_of other start end) [
    | inl less ↦
        starts_some whose start end less
        ∙ ap (λ (xs : List ℕ). start ∷ xs) (same_filter (begins whose) (begins other) (start + 1) (end - (start + 1)) (λ x le lt. rw (same (x - 1) (omega arith) (omega arith), same x (omega arith) (omega arith)) refl))
        ∙ sym (starts_some other start end less)
    | inr none ↦ starts_none whose start end none ∙ sym (starts_none other start end none)
  ]

  same_from : (p : ℕ → Bool) (a n end : ℕ) → ((x : ℕ) → a ≤ x → x < a + n → whose x ≡ other x) → pieces_from whose (filter p (range_with_len a n)) end ≡ pieces_from other (filter p (range_with_len a n)) end
  same_from p a zero end same = refl
  same_from p a (suc n) end same =
      let rest = same_from p (a + 1) n end (λ x le lt. same x (omega arith) (omega arith)) in
      let here : whose a ≡ other a = same a (omega arith) (omega arith) in
      elim (cases_Bool (p a)) as (λ _. pieces_from whose (filter p (range_with_len a (suc n))) end ≡ pieces_from other (filter p (range_with_len a (suc n))) end) [
        | inl e ↦ rw (e, here, rest) refl
        | inr e ↦ rw e rest
      ]

  pub same_pieces : (start end : ℕ) → ((x : ℕ) → start ≤ x → x < end → whose x ≡ other x) → pieces_by whose start end ≡ pieces_by other start end
  unfolding pieces_by
  same_pieces start end same = ap (λ (xs : List ℕ). pieces_from whose xs end) (same_starts start end same) ∙ elim (cases_lt start end) as (λ _. pieces_from whose (starts_of other start end) end ≡ pieces_from other (starts_of other start end) end) [
    | inl less ↦
        let rest = same_from (begins other) (start + 1) (end - (start + 1)) end (λ x le lt. same x (omega arith) (omega arith)) in
        let here : whose start ≡ other start = same start (omega arith) less in
        rw (starts_some other start end less, here, rest) refl
    | inr none ↦ rw (starts_none other start end none) refl
  ]

-- where each byte has a candidate none is without one
pub all_answered : (cs : List Component) (failed : List ℕ) (start end : ℕ) → ((x : ℕ) → start ≤ x → x < end → list_any (is_candidate failed x) cs ≡ true) → first_without cs start end failed ≡ None
all_answered cs failed start end some = elim (cases_lt start end) as (λ _. first_without cs start end failed ≡ None) [
  | inl less ↦ without_step cs failed start end end (omega arith) (omega arith) some ∙ without_none cs failed end end (omega arith)
  | inr none ↦ without_none cs failed start end none
]
