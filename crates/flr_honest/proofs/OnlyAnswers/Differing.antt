-- Where each byte that a verify learnt is one, it doesn't tell differences of mirrors of which it may tell that they are the same.
use Rattle.std.proofs.Common.{◌⊎◌, ◌<◌, inl, inr, List, [], ◌∷◌, length, sym, ◌∙◌, arith}
use Rattle.flr_base.specs.declared.reply.Diff.{Diff}
use Rattle.mirror_select.proofs.Least.{from_contains}
use Rattle.meta_server.specs.Files.{File}
use Rattle.flr_steps.specs.Traces.{Made, made_since_open}
use Rattle.flr_claims.specs.Calls.{Call}
use Rattle.flr_claims.specs.Comparisons.{AreAlikeAt, AreDifferences, HasDifferences, IsDifference, IsEntryFor}
use Rattle.flr_honest.specs.OnlyAnswers.Alone.{HaveOneByte}

module _ (made : List Made) (one : HaveOneByte made) (f : File) where
  -- components that differ at a byte aren't alike there
  pub differ_or_alike : (e : Diff) (d : IsDifference f made e) → AreAlikeAt made d.c d.d e.offset → ⊥
  differ_or_alike e d alike =
      let ours = one d.c e.offset alike.0 e.ours alike.1 d.our_byte in
      let theirs = one d.d e.offset alike.0 e.theirs alike.2 d.their_byte in
      d.differ (ours ∙ sym theirs)

  -- where there is nothing to tell there is no difference
  pub none_differ : (e : Diff) → AreDifferences f made [] → IsDifference f made e → ⊥
  none_differ e none d = by (none.all e.offset d.c d.d d.within d.compared)
    where
      by : IsEntryFor [] d.d e.offset ⊎ AreAlikeAt made d.c d.d e.offset → ⊥
      by (inl entry) = absurd (from_contains [] entry.0 entry.1)
      by (inr alike) = differ_or_alike e d alike

  none_or_some : (entries : List Diff) → AreDifferences f made [] → AreDifferences f made entries → 0 < length entries → ⊥
  none_or_some [] none are some = absurd (omega (arith, some))
  none_or_some (e ∷ es) none are some = none_differ e none are.right.0

-- a verify that may tell that its mirrors are the same may tell no differences
pub same_or_differ : (k : Call) → HaveOneByte (made_since_open k.did) → (f : File) (entries : List Diff) → HasDifferences k f [] → HasDifferences k f entries → 0 < length entries → ⊥
same_or_differ k one f entries none some long = none_or_some (made_since_open k.did) one f entries none.are some.are long
