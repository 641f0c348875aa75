-- A bay that was opened and brought to its end, or not opened, as it is seen from the two times of its shop.
use Rattle.std.proofs.Common.{◌≡◌, Bool, List, length, sym, ◌∙◌, ap, subst}
use Rattle.barrier_board.specs.Board.{has_entry}
use Rattle.barrier_board.specs.declared.post.Post.{Post}
use Rattle.bay_law.specs.Closed.{Says}
use Rattle.bay_replay.specs.Held.{IsBoardOf}
use Rattle.flash_bay.specs.Opened.{IsOpened, IsRefused}
use Rattle.flash_bay.specs.State.{BayState}
use Rattle.flash_journal.specs.declared.looking.OpenFault.{OpenFault}
use Rattle.flash_plan.specs.Plan.{count_of}
use Rattle.flash_plan.specs.declared.outcome.Entry.{Entry}
use Rattle.flash_plan.specs.declared.unit.LinkRules.{LinkRules}
use Rattle.flash_plan.specs.declared.unit.UnitPlan.{UnitPlan}
use Rattle.flash_run.specs.Run.{RunState, core_of_run}
use Rattle.flash_shelf.specs.History.{SinkHistory}
use Rattle.flash_workers.specs.Growing.{IsWorked}
use Rattle.plan_build.specs.declared.built.Built.{Built}
use Rattle.plan_commands.specs.declared.status.Status.{Status}
use Rattle.shop_model.specs.History.{History}
use Rattle.flash_commands.specs.Outcomes.{on_board}
use Rattle.flash_commands.specs.Printing.{PrintsReport, PrintsJournalLine}
use Rattle.flash_commands.specs.Running.{rules_of, IsNotOpened, IsRun, IsRunReported}
use Rattle.flash_commands.proofs.Verdicts.{are_outcomes}

module _ {S : Type 0} (td : Bool) (history : S → History) (P : List UnitPlan) (shop new : S) where
  pub refused_over : (why : OpenFault) → IsRefused td history P shop new why → IsRefused td (λ (h : History). h) P (history shop) (history new) why
  refused_over why r = record { tells = r.tells; other = r.other; cause = r.cause; untouched = r.untouched; sound = r.sound; is_later = r.is_later }

  pub not_opened : (kt : Bool) (k0 k1 : SinkHistory) (status : Status) (why : OpenFault) → IsRefused td history P shop new why → PrintsJournalLine kt k0 k1 P why status
      → IsNotOpened td (history shop) (history new) kt k0 k1 P status
  not_opened kt k0 k1 status why r printed = record { why = why; left = refused_over why r; printed = printed }

module _ {S : Type 0} (td : Bool) (history : S → History) (P : List UnitPlan) (rules : LinkRules) (shop : S) (bay : BayState S) (opened : IsOpened td history P rules shop bay) where
  pub same_plan : P ≡ bay.run.plan
  same_plan = sym (ap (λ (r : RunState). r.plan) opened.run)

  module _ (tv : Bool) (new : S) (posts : List Post) (w : IsWorked td tv history bay new posts) where
    pub units : length posts ≡ count_of P
    units = w.board.size ∙ ap (λ (Q : List UnitPlan). count_of Q) (sym same_plan)

    pub is_run : IsRun td tv (history shop) (history new) P rules (on_board posts)
    is_run = record {
      run = w.run;
      of_plan = w.continued.plan ∙ sym same_plan;
      by_rules = w.continued.rules ∙ ap (λ (r : RunState). r.rules) opened.run;
      opens = opened.opens;
      found = λ t e. ap (λ (f : List Entry). has_entry f e) w.continued.found ∙ opened.found t e;
      kept = w.kept;
      are = are_outcomes w.run posts (subst (λ (Q : List UnitPlan). IsBoardOf Q (core_of_run w.run) posts) (sym w.continued.plan) w.board) w.ended;
      says = subst (λ (s : S). Says td tv w.run (history s) (history new)) opened.first w.says;
    }

pub is_reported : {S : Type 0} (td tv : Bool) (history : S → History) (b : Built) (shop new : S) (bay : BayState S) (posts : List Post) (kt : Bool) (k0 k1 : SinkHistory) (status : Status)
    → IsOpened td history b.plan (rules_of b.order) shop bay → IsWorked td tv history bay new posts → PrintsReport kt k0 k1 b.plan (on_board posts) status
    → IsRunReported td tv (history shop) (history new) kt k0 k1 b status
is_reported td tv history b shop new bay posts kt k0 k1 status opened w printed = record {
  outcomes = on_board posts;
  made = is_run td history b.plan (rules_of b.order) shop bay opened tv new posts w;
  reported = printed;
}
