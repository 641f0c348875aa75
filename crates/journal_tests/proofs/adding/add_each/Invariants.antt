use Rattle.std.specs.Prelude.{IsTrue}
use Rattle.flash_journal.specs.Kept.{is_live, IsKeptOn}
use Rattle.shop_model.specs.History.{disk_now}
use Rattle.journal_tests.proofs.adding.add_each.Given as goal

abbrev pub invariant-loop-entry : goal.invariant-loop-entry
invariant-loop-entry g l = IsTrue (is_live l.journal) → IsTrue g.S.Shop.tells_disk → IsKeptOn l.journal (disk_now (g.S.Shop.history l.shop))
