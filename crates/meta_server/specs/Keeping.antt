-- What the code keeps true of the metadata server, for its own calls.
use Rattle.std.specs.Prelude.{◌≡◌, ℕ, ◌<◌, ◌≤◌, List, length}
use Rattle.meta_server.specs.Files.{File, AreBelow}

-- the numbers of files are below the next one, there are 1 to 64 targets, a file may have 1 to 32 mirrors, and there is a latest eviction for each number up to that of the last client
pub record IsKept (files : List File) (next_file : ℕ) (nexts : List ℕ) (targets most : ℕ) (evicted : List ℕ) : Type 0 where
  pub below : AreBelow next_file files
  pub numbers : length nexts ≡ targets
  pub some_targets : 0 < targets
  pub few_targets : targets ≤ 64
  pub some_mirrors : 0 < most
  pub few_mirrors : most ≤ 32
  pub clients : length evicted ≡ 17
