use Rattle.layout_lease.proofs.Hands.{broken_free, evicted_leases, given_free}
use Rattle.layout_lease.proofs.holders.holders_of_leases.Goals as goal

pub returns : goal.returns
returns c = record {
  given = λ table key sound held. given_free key table sound held;
  broken = λ table file step. broken_free file step table;
  evicted = λ table client step file. evicted_leases client step table file;
}
