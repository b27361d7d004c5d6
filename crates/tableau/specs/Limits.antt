-- The numbers that the definitions cite by name.
use Rattle.std.specs.Prelude.{◌≡◌}
use Rattle.tableau.specs.declared.limits.TheConstants.{MOST_CORES, MOST_UNTILS, MOST_STATES, MOST_ARCS, MOST_PENDING, MOST_STEPS}

-- the most of each that a translation may have
pub record Limits : Type 0 where
  pub cores : MOST_CORES ≡ 64
  pub untils : MOST_UNTILS ≡ 16
  pub states : MOST_STATES ≡ 1023
  pub arcs : MOST_ARCS ≡ 8191
  pub pending : MOST_PENDING ≡ 1024
  pub steps : MOST_STEPS ≡ 4294967295
