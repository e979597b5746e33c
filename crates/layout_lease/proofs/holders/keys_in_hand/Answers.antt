use Rattle.layout_lease.proofs.Hands.{broken_hand, evicted_hand, given_hand, given_last, taken_hand, taken_others}
use Rattle.layout_lease.proofs.holders.keys_in_hand.Goals as goal

pub returns : goal.returns
returns c = record {
  taken = λ table client file. taken_hand client file table;
  others = λ table client file other apart. taken_others client file table other apart;
  given = λ table key client. given_hand key table client;
  last = λ table key one. given_last key table one;
  broken = λ table file step client. broken_hand file step table client;
  evicted = λ table client step other. evicted_hand client step table other;
}
