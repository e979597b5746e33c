use Rattle.std.proofs.Common.{◌≡◌, ◌++◌, false, List, map, take, drop}
use Rattle.std.specs.Prelude.{All}
use Rattle.extent_lock.specs.declared.lock.Lock.{Lock}
use Rattle.client_write.specs.Truncates.{first_blocker, tail_lock}
use Rattle.client_write.proofs.truncate.lock_each.Given as goal

abbrev pub invariant-loop-tail : goal.invariant-loop-tail
invariant-loop-tail l = record {
  granted : l.lacks ≡ false → l.locks ≡ l.initial.locks ++ map (tail_lock l.client) (take l.tail-index l.tails);
  own : (own : List Lock) × All (λ (lock : Lock). lock.holder ≡ l.client) own × (l.locks ≡ l.initial.locks ++ own);
  first : first_blocker (map (tail_lock l.client) l.tails) l.initial.locks ≡ first_blocker (map (tail_lock l.client) (drop l.tail-index l.tails)) l.initial.locks;
}
