-- What a merge knows of bytes stays at the step of another client.
use Rattle.std.proofs.Common.{◌≡◌, ℕ, ◌+◌, cond, nat_lt, Option, None, Some, List, refl, sym, ap, subst, ◌∙◌}
use Rattle.std.specs.List.{AllByRecursion}
use Rattle.layout_lease.specs.declared.lease.KeyState.TheVariants.{Held}
use Rattle.layout_lease.specs.Leases.{KeyView, state_of}
use Rattle.resync_copy.specs.Chunks.{chunk_start}
use Rattle.flr_numbers.specs.Sentences.{hand_of}
use Rattle.flr_steps.specs.declared.client.Running.{Running}
use Rattle.flr_steps.specs.States.{State}
use Rattle.flr_steps.specs.Traces.{Trace, traced}
use Rattle.flr_sole.specs.Copies.{AreFenced, AreReset, HasLandedOn, IsBegun, IsReady}
use Rattle.flr_sole.specs.Copies as sole
use Rattle.flr_bytes.specs.Laws.{StepsKeepBytes, StepsWrite}
use Rattle.flr_bytes.specs.Runs.{Honest, IsStep}
use Rattle.flr_bytes.specs.Sentences.{byte_in}
use Rattle.flr_bytes.specs.Fitting.{CopiesFit}
use Rattle.flr_honest.proofs.Lasting.Others.{back, byte_same}
use Rattle.flr_honest.specs.Lasting.{OthersMergeFollows}
use Rattle.resync_copy.specs.declared.phase.CopyAt.{CopyAt}
use Rattle.resync_copy.specs.declared.phase.CopyAt.TheVariants as at
use Rattle.flr_numbers.specs.Copies.{copy_hand}
use Rattle.flr_bytes.specs.Calls.{CopySays, Says}
use Rattle.resync_copy.specs.declared.merge_phase.MergeStage.{MergeStage}
use Rattle.resync_copy.specs.declared.merge_phase.MergeStage.TheVariants as merge
use Rattle.resync_copy.specs.declared.merge_phase.Pair.{Pair}
use Rattle.resync_copy.specs.Chunks.{chunk_range}
use Rattle.flr_bytes.specs.Calls.{EndsAt, IsOurs, MergeSays, PairSays}
use Rattle.flr_numbers.specs.Copies.{merge_hand}
use Rattle.flr_honest.proofs.Lasting.OthersSay.{apart_keys}

module _ (write : StepsWrite) (keep : StepsKeepBytes) (s t : State) (old new : Trace) (c : ℕ) (is : IsStep s t old new c) (e : new ≡ traced s t old c) (planned : CopiesFit s) (honest : Honest s old) where
  -- nothing has landed on the file while its lease stands
  abbrev NoneOn : KeyView → Type 0
  NoneOn key = sole.NoneLands s.shared.meta (λ n p. HasLandedOn s old n p) key sole.anywhere

  was : (key : KeyView) → (key.client ≡ c → ⊥) → state_of t.shared.meta.leases key ≡ Held → state_of s.shared.meta.leases key ≡ Held
  was key others stands = back write keep s t old new c is e planned honest key others stands

  one : (key : KeyView) → (key.client ≡ c → ⊥) → NoneOn key → state_of t.shared.meta.leases key ≡ Held → (y : ℕ) → byte_in t new key.file y ≡ byte_in s old key.file y
  one key others none stands y = byte_same write keep s t old new c is e planned honest key others stands y (λ p landed over. none (was key others stands) p landed refl)

  ends_stay : (key : KeyView) (size : ℕ) → (key.client ≡ c → ⊥) → NoneOn key → EndsAt s.shared.meta (byte_in s old) key size → EndsAt t.shared.meta (byte_in t new) key size
  ends_stay key size others none says stands y past = one key others none stands y ∙ says (was key others stands) y past

  pair_stays : (p : Pair) → (p.comparing.ours.key.client ≡ c → ⊥) → (p.comparing.theirs.key.client ≡ c → ⊥) → NoneOn p.comparing.ours.key → NoneOn p.comparing.theirs.key → PairSays s.shared.meta (byte_in s old) p → PairSays t.shared.meta (byte_in t new) p
  pair_stays p a b mine theirs says = (
    ends_stay p.comparing.ours.key p.size a mine says.0,
    ends_stay p.comparing.theirs.key p.size b theirs says.1,
    λ held too y less. one p.comparing.ours.key a mine held y ∙ says.2 (was p.comparing.ours.key a held) (was p.comparing.theirs.key b too) y less ∙ sym (one p.comparing.theirs.key b theirs too y),
  )

  ours_stays : (p : Pair) (bytes : Option (List ℕ)) → (p.comparing.ours.key.client ≡ c → ⊥) → NoneOn p.comparing.ours.key → IsOurs s.shared.meta (byte_in s old) p bytes → IsOurs t.shared.meta (byte_in t new) p bytes
  ours_stays p bytes a mine says stands i =
      says (was p.comparing.ours.key a stands) i ∙ ap (λ b. cond (nat_lt (chunk_start p.number + i) (chunk_range p.number p.size).end) b 0) (sym (one p.comparing.ours.key a mine stands (chunk_start p.number + i)))

  merge_stays : (next : MergeStage) → AllByRecursion (λ (key : KeyView). key.client ≡ c → ⊥) (merge_hand next).keys → sole.MergeSays s.shared.meta s.shared.targets (λ n p. HasLandedOn s old n p) next → MergeSays s.shared.meta (byte_in s old) next → MergeSays t.shared.meta (byte_in t new) next
  merge_stays (merge.Fence x next) others still says = tt
  merge_stays (merge.Settle x) others still says = tt
  merge_stays (merge.TakeOurs p) others still says = pair_stays p others.0 others.1.0 still.3 still.4 says
  merge_stays (merge.TakeTheirs p bytes) others still says = (pair_stays p others.0 others.1.0 still.3 still.4 says.0, ours_stays p bytes others.0 still.3 says.1)
  merge_stays (merge.Done a b (Some refusal)) others still says = tt
  merge_stays (merge.Done a b None) others q says = (λ held too y.
      one a others.0 (subst NoneOn q.1 q.3.3) held y ∙ says (was a others.0 held) (was b others.1.0 too) y ∙ sym (one b others.1.0 (subst NoneOn q.2 q.3.4) too y))

pub others_merge_follows : OthersMergeFollows
others_merge_follows write keep s t old new c d is e honest apart client k next here copies stands =
    let of = is.before.holds.clients d client here in
    let own : AllByRecursion (λ (key : KeyView). key.client ≡ d) (copy_hand (at.Merge next)).keys = subst (λ (a : CopyAt). AllByRecursion (λ (key : KeyView). key.client ≡ d) (copy_hand a).keys) stands (subst (λ (r : Running). AllByRecursion (λ (key : KeyView). key.client ≡ d) (hand_of r).keys) copies of.has.own) in
    let still : sole.CopySays s.shared.meta s.shared.targets (λ n p. HasLandedOn s old n p) (at.Merge next) = subst (sole.CopySays s.shared.meta s.shared.targets (λ n p. HasLandedOn s old n p)) stands (subst (sole.Says s.shared.meta s.shared.targets (λ n p. HasLandedOn s old n p)) copies (is.before.sole.copies d client here)) in
    let says : CopySays s.shared (byte_in s old) (at.Merge next) = subst (CopySays s.shared (byte_in s old)) stands (subst (Says s.shared (byte_in s old)) copies (honest.calls d client here)) in
    merge_stays write keep s t old new c is e is.before.fit honest next (apart_keys c d apart (merge_hand next).keys own) still says
