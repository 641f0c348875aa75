-- What every order that was read keeps.
use Rattle.std.specs.Prelude.{◌≡◌, ℕ, ◌<◌, ◌≤◌, MatchOption, length, IsTrue}
use Rattle.flash_base.specs.Lists.{Each}
use Rattle.flash_order.specs.declared.order.Order.{Order}
use Rattle.flash_order.specs.declared.order.Source.{Source}
use Rattle.flash_order.specs.declared.order.Source.TheVariants.{Raw, Session}
use Rattle.flash_order.specs.declared.order.Task.{Task}
use Rattle.flash_order.specs.declared.reading.Head.{Head}
use Rattle.flash_plan.specs.declared.unit.Wanted.{Wanted}
use Rattle.flash_plan.specs.Plan.{IsTaskName, IsKeyRule, IsWidth}
use Rattle.span_store.specs.ByteMap.{top}
use Rattle.text_forms.specs.FileNames.{file_name}

-- a check routine of the order's own
pub record IsCheck (c : ℕ) : Type 0 where
  pub range : c < 65536
  pub not_erase : c ≡ 65280 → ⊥
  pub not_finish : c ≡ 65281 → ⊥

-- an identifier has a value, and no value is empty
pub record IsAsked (w : Wanted) : Type 0 where
  pub did : w.did < 65536
  pub some : 1 ≤ length w.values
  pub filled : Each (λ v. 1 ≤ length v) w.values

abbrev pub IsSource : Source → Type 0
IsSource (Raw file at idents) = IsTrue (file_name file) × (at < top) × Each IsAsked idents
IsSource (Session id dids fill) = (1 ≤ length id) × (length id ≤ 128) × Each (λ d. d.1 < 65536) dids
    × MatchOption fill (Unit {0}) (λ b. b < 256)

pub record IsTask (t : Task) : Type 0 where
  pub name : IsTaskName t.name
  pub unit : t.unit < 65536
  pub width : IsWidth t.width
  pub check : IsCheck t.check
  pub key : IsKeyRule t.key
  pub source : IsSource t.source

pub record IsHead (h : Head) : Type 0 where
  pub tester : h.tester < 65536
  pub relinks : h.relinks ≤ 8
  pub catalogue : MatchOption h.catalogue (Unit {0}) (λ f. IsTrue (file_name f))

pub record IsOrder (o : Order) : Type 0 where
  pub tester : o.tester < 65536
  pub relinks : o.relinks ≤ 8
  pub catalogue : MatchOption o.catalogue (Unit {0}) (λ f. IsTrue (file_name f))
  pub few : length o.tasks ≤ 1000
  pub tasks : Each IsTask o.tasks
