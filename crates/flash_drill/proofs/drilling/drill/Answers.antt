use Rattle.std.proofs.Common.{◌≡◌, ◌∙◌, ℕ, ◌<◌, List, String, Global, map, string_bytes, ap, sym, subst}
use Rattle.bench_shop.specs.Shops.{history_of, starved_of}
use Rattle.bench_shop.specs.declared.shop.MemoryShop.{MemoryShop}
use Rattle.flash_drill.specs.Drilling.{Drills, EndsWell, AllHold}
use Rattle.flash_drill.specs.Ending.{IsPrintedRun}
use Rattle.flash_drill.proofs.Drilled.{drill_ends, drills, ends, ends_starved, hold}
use Rattle.shop_model.specs.History.{LAST}
use Rattle.flash_drill.proofs.drilling.drill.Goals as goal

pub returns-clause-drills : goal.returns-clause-drills
returns-clause-drills g c = subst (λ (s : MemoryShop). Drills c.args.n (history_of s) g.K.Sink.tells (g.K.Sink.history c.args.out.now) (g.K.Sink.history c.print_run-status.new.out) c.print_run-status.result) (sym c.shop.ensures)
    (drills c.args.n _ _ _ _ _ _ (map string_bytes c.as_slice.result.now) _ c.in-Ok.ensures.shop c.in-Ok.ensures.files
    c.in-Ok.ensures.page (ap (λ (ws : List (String Global)). map string_bytes ws) c.as_slice.ensures.value ∙ c.in-Ok.ensures.words) c.flash-shop.ensures.runs
    g.K.Sink.tells (g.K.Sink.history c.args.out.now) (g.K.Sink.history c.print_run-status.new.out) c.is_starved-starved.result c.print_run-status.result
    (subst (λ (lines : List ℕ). IsPrintedRun g.K.Sink.tells (g.K.Sink.history c.args.out.now) (g.K.Sink.history c.print_run-status.new.out) c.args.n lines c.flash-shop.result.1 c.is_starved-starved.result c.print_run-status.result) c.written.ensures c.print_run-status.ensures))

pub returns-clause-done : goal.returns-clause-done
returns-clause-done g c = λ done. subst (λ (s : MemoryShop). EndsWell c.args.n (history_of s) g.K.Sink.tells (g.K.Sink.history c.args.out.now) (g.K.Sink.history c.print_run-status.new.out)) (sym c.shop.ensures)
    (ends c.args.n _ _ _ _ _ _ (map string_bytes c.as_slice.result.now) _ c.in-Ok.ensures.shop c.in-Ok.ensures.files
    c.in-Ok.ensures.page (ap (λ (ws : List (String Global)). map string_bytes ws) c.as_slice.ensures.value ∙ c.in-Ok.ensures.words) c.flash-shop.ensures.runs
    g.K.Sink.tells (g.K.Sink.history c.args.out.now) (g.K.Sink.history c.print_run-status.new.out) c.is_starved-starved.result c.print_run-status.result
    (subst (λ (lines : List ℕ). IsPrintedRun g.K.Sink.tells (g.K.Sink.history c.args.out.now) (g.K.Sink.history c.print_run-status.new.out) c.args.n lines c.flash-shop.result.1 c.is_starved-starved.result c.print_run-status.result) c.written.ensures c.print_run-status.ensures) done)

pub returns-clause-holds : goal.returns-clause-holds
returns-clause-holds g c = λ done early. subst (λ (s : MemoryShop). AllHold c.args.n (history_of s)) (sym c.shop.ensures)
    (hold c.args.n c.flash-shop.result.0.shop _ _ _ _ _ (map string_bytes c.as_slice.result.now) _ c.in-Ok.ensures.shop c.in-Ok.ensures.files
    c.in-Ok.ensures.page (ap (λ (ws : List (String Global)). map string_bytes ws) c.as_slice.ensures.value ∙ c.in-Ok.ensures.words) c.flash-shop.ensures.runs
    g.K.Sink.tells (g.K.Sink.history c.args.out.now) (g.K.Sink.history c.print_run-status.new.out) (starved_of c.flash-shop.result.0.shop) c.flash-shop.new.out.page.starved c.is_starved-starved.result c.print_run-status.result c.is_starved-starved.ensures
    (λ fed. c.flash-shop.result.0.quiet fed (subst (λ (s : MemoryShop). (history_of s).moment < LAST) c.shop.ensures early))
    (subst (λ (lines : List ℕ). IsPrintedRun g.K.Sink.tells (g.K.Sink.history c.args.out.now) (g.K.Sink.history c.print_run-status.new.out) c.args.n lines c.flash-shop.result.1 c.is_starved-starved.result c.print_run-status.result) c.written.ensures c.print_run-status.ensures) done)

pub returns-clause-starved : goal.returns-clause-starved
returns-clause-starved g c = λ some. ends_starved c.args.n g.K.Sink.tells (g.K.Sink.history c.args.out.now) (g.K.Sink.history c.print_run-status.new.out) c.written.result.now c.flash-shop.result.1 c.print_run-status.result
    (starved_of c.flash-shop.result.0.shop) c.flash-shop.new.out.page.starved c.is_starved-starved.result c.is_starved-starved.ensures c.print_run-status.ensures
    (subst (λ (s : MemoryShop). 0 < starved_of s) c.shop.ensures some)

pub returns-clause-completes : goal.returns-clause-completes
returns-clause-completes g c = λ none early.
    let fed = subst (λ (s : MemoryShop). starved_of s ≡ 0) c.shop.ensures none in
    drill_ends c.args.n c.flash-shop.result.0.shop _ _ _ _ _ (map string_bytes c.as_slice.result.now) _ c.in-Ok.ensures.shop c.in-Ok.ensures.files
    c.in-Ok.ensures.page (ap (λ (ws : List (String Global)). map string_bytes ws) c.as_slice.ensures.value ∙ c.in-Ok.ensures.words) c.flash-shop.ensures.runs
    g.K.Sink.tells (g.K.Sink.history c.args.out.now) (g.K.Sink.history c.print_run-status.new.out) (starved_of c.flash-shop.result.0.shop) c.flash-shop.new.out.page.starved c.is_starved-starved.result c.print_run-status.result c.is_starved-starved.ensures
    c.flash-shop.new.shelf.whole c.flash-shop.new.out.whole fed
    (c.flash-shop.result.0.quiet fed (subst (λ (s : MemoryShop). (history_of s).moment < LAST) c.shop.ensures early))
    (subst (λ (lines : List ℕ). IsPrintedRun g.K.Sink.tells (g.K.Sink.history c.args.out.now) (g.K.Sink.history c.print_run-status.new.out) c.args.n lines c.flash-shop.result.1 c.is_starved-starved.result c.print_run-status.result) c.written.ensures c.print_run-status.ensures)
