use Rattle.std.proofs.Common.{◌≡◌, map, take}
use Rattle.layout_lease.specs.declared.shared.Share.{Share}
use Rattle.layout_lease.specs.Shares.{lowest, cookies_but}
use Rattle.layout_lease.proofs.shared.lowest_other.Given as goal

abbrev pub invariant-loop-share : goal.invariant-loop-share
invariant-loop-share l =
    l.lowest ≡ lowest (map (λ (share : Share). share.client) (cookies_but l.client (take l.share-index l.shares)))
