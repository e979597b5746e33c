-- Of an extend by a victim: a broken lease is told at one place, and leaves no other answer but a refusal; and what is merged is one.
use Rattle.std.proofs.Common.{◌≡◌, ◌⊎◌, inl, inr, ℕ, List, sym, subst, ◌∙◌}
use Rattle.meta_server.specs.Files.{File}
use Rattle.meta_server.specs.Layouts.{merged_ids}
use Rattle.flr_steps.specs.States.{State}
use Rattle.flr_claims.specs.Asked.{IsFile, IsVictim}
use Rattle.flr_claims.specs.Calls.{Call, HaveBegun, IsBrokenAt, IsLeased}
use Rattle.flr_claims.specs.Causes.{IsOneBroken}
use Rattle.flr_claims.specs.Merging.{AreLeased, AreTheSame}
use Rattle.flr_honest.specs.OnlyAnswers.Alone.{BreaksOnce}

module _ (k : Call) where
  -- the files that it began on are one pair
  pub one_begun : (f g v w : File) → HaveBegun k f v → HaveBegun k g w → (f ≡ g) × (v ≡ w)
  one_begun f g v w a b =
      let here = a.behind in
      let there = b.behind in
      let same : a.state ≡ b.state = cc in
      let mine : IsFile b.state k.asked f = subst (λ (s : State). IsFile s k.asked f) same a.file in
      let taken : IsVictim b.state k.asked v = subst (λ (s : State). IsVictim s k.asked v) same a.victim in
      let theirs = b.file in
      let other = b.victim in
      let file : f ≡ g = cc in
      let victim : v ≡ w = cc in
      (file, victim)

  -- where both leases stand none is told broken
  pub leased_or_broken : (f v : File) (place : ℕ) → AreLeased k f v → IsOneBroken k place → ⊥
  leased_or_broken f v place a b = by b.4
    where
      same : (f ≡ b.0) × (v ≡ b.1)
      same = one_begun f b.0 v b.1 a.begun b.3

      by : IsBrokenAt k (b.0).number place ⊎ (IsLeased k (b.0).number × IsBrokenAt k (b.1).number place) → ⊥
      by (inl ours) = ours.gone (subst (λ (x : File). IsLeased k x.number) same.0 a.ours)
      by (inr both) = both.1.gone (subst (λ (x : File). IsLeased k x.number) same.1 a.theirs)

  -- and the place that is told is one
  pub broken_one : BreaksOnce k → (place other : ℕ) → IsOneBroken k place → IsOneBroken k other → other ≡ place
  broken_one once place other a b = by a.4 b.4
    where
      same : (b.0 ≡ a.0) × (b.1 ≡ a.1)
      same = one_begun b.0 a.0 b.1 a.1 b.3 a.3

      by : IsBrokenAt k (a.0).number place ⊎ (IsLeased k (a.0).number × IsBrokenAt k (a.1).number place)
          → IsBrokenAt k (b.0).number other ⊎ (IsLeased k (b.0).number × IsBrokenAt k (b.1).number other) → other ≡ place
      by (inl ours) (inl again) = once (a.0).number place other ours (subst (λ (x : File). IsBrokenAt k x.number other) same.0 again)
      by (inl ours) (inr both) = absurd (ours.gone (subst (λ (x : File). IsLeased k x.number) same.0 both.0))
      by (inr both) (inl ours) = absurd (ours.gone (subst (λ (x : File). IsLeased k x.number) (sym same.0) both.0))
      by (inr both) (inr again) = once (a.1).number place other both.1 (subst (λ (x : File). IsBrokenAt k x.number other) same.1 again.1)

  -- the ids of what is merged are one list
  pub merged_one : (f g v w : File) (ids others : List ℕ) → AreTheSame k f v → AreTheSame k g w → ids ≡ merged_ids v.layout f.layout → others ≡ merged_ids w.layout g.layout → others ≡ ids
  merged_one f g v w ids others a b mine theirs =
      let same = one_begun g f w v b.sizes.leased.begun a.sizes.leased.begun in
      let file = same.0 in
      let victim = same.1 in
      theirs ∙ (λ i. merged_ids (victim i).layout (file i).layout) ∙ sym mine
