use Rattle.layout_lease.proofs.CookiesOf.{evicted_none, freed_own, others_stay, shared_only}
use Rattle.layout_lease.proofs.holders.cookies_in_hand.Goals as goal

pub returns : goal.returns
returns c = record {
  shared = λ lock client none. shared_only client lock none;
  freed = λ lock cookie sound. freed_own cookie lock sound;
  evicted = λ lock client. evicted_none client lock;
  others = others_stay;
}
