-- Each step lands one part at most.
use Rattle.flr_honest.proofs.Landed.Counting.{passing_parts_land, steps_count, steps_land}
use Rattle.flr_honest.proofs.laws.parts_land_once.Goals as goal

pub returns-clause-lands : goal.returns-clause-lands
returns-clause-lands c = steps_land

pub returns-clause-counts : goal.returns-clause-counts
returns-clause-counts c = steps_count

pub returns-clause-passes : goal.returns-clause-passes
returns-clause-passes c = passing_parts_land
