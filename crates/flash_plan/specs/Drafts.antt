-- Drafts in the first form, and the units that they are.
use Rattle.std.specs.Prelude.{◌≡◌, ◌+◌, ◌<◌, ◌≤◌, [], length}
use Rattle.flash_base.specs.Lists.{Each}
use Rattle.flash_base.specs.declared.unit.KeyRule.TheVariants.{Free}
use Rattle.flash_plan.specs.declared.unit.Draft.{Draft}
use Rattle.flash_plan.specs.declared.unit.Segment.{Segment}
use Rattle.flash_plan.specs.declared.unit.UnitPlan.{UnitPlan}
use Rattle.flash_plan.specs.Plan.{IsTaskName}

-- the unit of a draft that waits for no other
abbrev pub numbered : Draft → UnitPlan
numbered d = record {
  name = d.name;
  address = d.address;
  width = d.width;
  check = d.check;
  key = d.key;
  idents = d.idents;
  after = [];
  segments = d.segments;
}

-- 1 to 256 bytes, which end at most at 2^32
pub record IsShort (s : Segment) : Type 0 where
  pub some : 1 ≤ length s.body
  pub few : length s.body ≤ 256
  pub ends : s.at + length s.body ≤ 4294967296

pub record IsPlain (d : Draft) : Type 0 where
  pub name : IsTaskName d.name
  pub address : d.address < 65536
  pub size_width : d.width.size ≡ 4
  pub at_width : d.width.at ≡ 4
  pub check_range : d.check < 65536
  pub check : d.check ≡ 65280 → ⊥
  pub check_too : d.check ≡ 65281 → ⊥
  pub key : d.key ≡ Free
  pub idents : d.idents ≡ []
  pub after : d.after ≡ []
  pub one : length d.segments ≡ 1
  pub short : Each IsShort d.segments
