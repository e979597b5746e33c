use Rattle.layout_lease.proofs.Hands.{broken_state, evicted_state, given_state, taken_before, taken_state}
use Rattle.layout_lease.proofs.holders.states_of_keys.Goals as goal

pub returns : goal.returns
returns c = record {
  taken = λ table client file sound. taken_state client file table sound;
  before = λ table client file key drawn. taken_before client file table key drawn;
  given = λ table one key apart. given_state one key table apart;
  broken = λ table file step key. broken_state file step table key;
  evicted = λ table client step key. evicted_state client step table key;
}
