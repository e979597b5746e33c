-- Which flags a change of flags sets and clears.
use Rattle.std.specs.Prelude.{◌≡◌, false, ◌&&◌}
use Rattle.composite_layout.specs.declared.component.Flags.{Flags}

-- the flags to set, and those to clear
pub record FlagSets : Type 0 where
  pub set : Flags
  pub clear : Flags

-- no flag is both set and cleared, init is neither, and stale isn't cleared
pub record AreFlagSets (change : FlagSets) : Type 0 where
  pub init_set : change.set.init ≡ false
  pub init_clear : change.clear.init ≡ false
  pub stale : change.clear.stale ≡ false
  pub prefer : (change.set.prefer && change.clear.prefer) ≡ false
  pub offline : (change.set.offline && change.clear.offline) ≡ false
  pub nosync : (change.set.nosync && change.clear.nosync) ≡ false
