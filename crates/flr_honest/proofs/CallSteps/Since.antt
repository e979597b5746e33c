-- A call of an entry, taken apart at the last step that opened its file or began.
use Rattle.std.proofs.Common.{◌≡◌, ℕ, ◌<◌, true, false, nat_lt, Option, Some, None, List, [], ◌∷◌, ◌++◌, filter, map, ◌⊎◌, inl, inr, refl, sym, ap, subst, ◌∙◌}
use Rattle.std.specs.List.{AllByRecursion, flat_map}
use Rattle.call_steps.specs.Runs.{CallStep, IsRun, IsRunOf, call_after, goes_on, place_after}
use Rattle.call_steps.specs.Servers.{Servers}
use Rattle.call_steps.specs.Steps.{Outcome}
use Rattle.call_steps.proofs.RunLaws.{split}
use Rattle.flr_steps.specs.declared.client.Running.{Running}
use Rattle.flr_steps.specs.Traces.{Made, is_opening}
use Rattle.flr_asked.specs.CallRuns.{done_in, made_in, of_kind}
use Rattle.flr_honest.specs.CallSteps.SinceOpening.{IsLastSince, NoneOpens, SinceOpening}
use Rattle.flr_honest.proofs.CallSteps.Narrowed.{head_same, tail_same}
use Rattle.flr_honest.proofs.CallSteps.Opened.{LastOpening, all_behind, last_opening, made_since, opened_last}

-- which is the last step of a call that is taken apart
pub last_since : {C : Type 0} (others : List (CallStep C)) (last : CallStep C) (front : List (CallStep C)) (y : CallStep C) (rest : List (CallStep C)) → others ++ last ∷ [] ≡ front ++ y ∷ rest → IsLastSince y rest last
last_since [] last [] y rest e = inl (sym (tail_same last y [] rest e), sym (head_same last y [] rest e))
last_since (z ∷ zs) last [] y rest e = inr (zs, sym (tail_same z y (zs ++ last ∷ []) rest e))
last_since [] last (x ∷ []) y rest e = let gone = tail_same last x [] (y ∷ rest) e in absurd (cc)
last_since [] last (x ∷ w ∷ ws) y rest e = let gone = tail_same last x [] (w ∷ ws ++ y ∷ rest) e in absurd (cc)
last_since (z ∷ zs) last (x ∷ xs) y rest e = last_since zs last xs y rest (tail_same z x (zs ++ last ∷ []) (xs ++ y ∷ rest) e)

module _ {C : Type 0} (f : C → Running) (step : C → ℕ → Servers → Outcome C) (call : C) (first : is_opening (f call) ≡ true) where
  -- a run that begins with an opening step
  first_opens : (steps : List (CallStep C)) (x : CallStep C) (xs : List (CallStep C)) → steps ≡ x ∷ xs → IsRun step call steps → NoneOpens f steps → ⊥
  first_opens steps x xs is run none =
      let r : IsRun step call (x ∷ xs) = subst (λ (ys : List (CallStep C)). IsRun step call ys) is run in
      let n : NoneOpens f (x ∷ xs) = subst (λ (ys : List (CallStep C)). NoneOpens f ys) is none in
      let both : true ≡ false = sym first ∙ ap (λ (k : C). is_opening (f k)) (sym r.0.same) ∙ n.0 in
      (cc)

  pub since_opening : (steps : List (CallStep C)) (x : CallStep C) (xs : List (CallStep C)) → steps ≡ x ∷ xs → IsRun step call steps → SinceOpening f step call steps
  since_opening steps x xs is run = by (last_opening f steps)
    where
      by : NoneOpens f steps ⊎ LastOpening f steps → SinceOpening f step call steps
      by (inl none) = absurd (first_opens steps x xs is run none)
      by (inr r) = at (call_after r.front (Some call)) refl parts.1
        where
          whole : IsRun step call (r.front ++ r.opening ∷ r.rest)
          whole = subst (λ (ys : List (CallStep C)). IsRun step call ys) r.are run

          parts : IsRunOf step r.front (Some call) 0 × IsRunOf step (r.opening ∷ r.rest) (call_after r.front (Some call)) (place_after r.front 0)
          parts = split step r.front (r.opening ∷ r.rest) (Some call) 0 whole

          opened_at : (done_in (map (of_kind f) steps)).opened ≡ r.opening.place
          opened_at = ap (λ (ys : List (CallStep C)). (done_in (map (of_kind f) ys)).opened) r.are ∙ opened_last f r.front r.opening r.rest 0 r.opens r.none

          at : (o : Option C) → call_after r.front (Some call) ≡ o → IsRunOf step (r.opening ∷ r.rest) o (place_after r.front 0) → SinceOpening f step call steps
          at None e k = absurd k
          at (Some now) e k = record {
            front = r.front;
            opening = r.opening;
            rest = r.rest;
            are = r.are;
            opens = r.opens;
            none = r.none;
            before = parts.0;
            came = e ∙ ap (λ (d : C). Some d) (sym k.0.same);
            run = subst (λ (d : C). IsRunOf step (r.opening ∷ r.rest) (Some d) (place_after r.front 0)) (sym k.0.same) k;
            opened = opened_at;
            made = ap (λ (ys : List (CallStep C)). filter (λ (m : Made). nat_lt (done_in (map (of_kind f) steps)).opened m.place) (flat_map made_in (map (of_kind f) ys))) r.are
                ∙ made_since f step call r.front r.opening r.rest whole (done_in (map (of_kind f) steps)).opened opened_at;
          }

  -- with its last step
  pub since_with_last : (others : List (CallStep C)) (last : CallStep C) → IsRun step call (others ++ last ∷ []) → SinceOpening f step call (others ++ last ∷ [])
  since_with_last [] last run = since_opening (last ∷ []) last [] refl run
  since_with_last (x ∷ xs) last run = since_opening (x ∷ xs ++ last ∷ []) x (xs ++ last ∷ []) refl run

  -- the last step stands at the place of the opening one, or behind it
  pub opened_before : (others : List (CallStep C)) (last : CallStep C) (run : IsRun step call (others ++ last ∷ [])) (since : SinceOpening f step call (others ++ last ∷ [])) (middle : List (CallStep C)) → since.rest ≡ middle ++ last ∷ [] → since.opening.place < last.place
  opened_before others last run since middle are =
      last_of middle (subst (λ (ys : List (CallStep C)). AllByRecursion (λ (y : CallStep C). since.opening.place < y.place) ys) are (all_behind step since.rest (goes_on since.opening.came) since.opening.place since.run.1))
    where
      last_of : (ys : List (CallStep C)) → AllByRecursion (λ (y : CallStep C). since.opening.place < y.place) (ys ++ last ∷ []) → since.opening.place < last.place
      last_of [] h = h.0
      last_of (y ∷ ys) h = last_of ys h.1
