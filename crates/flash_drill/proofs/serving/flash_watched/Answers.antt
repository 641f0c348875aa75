use Rattle.std.proofs.Common.{◌≡◌, ℕ, map, string_bytes, ap, subst}
use Rattle.bench_shop.specs.Shops.{history_of}
use Rattle.flash_drill.specs.Drilling.{ServesDrill}
use Rattle.flash_drill.proofs.Drilled.{no_look, no_run, same_number, served}
use Rattle.flash_drill.proofs.serving.flash_watched.Goals as goal

pub returns-in-Some-clause-shows : goal.returns-in-Some-clause-shows
returns-in-Some-clause-shows g c = λ order words.
    absurd (no_look (map string_bytes c.args.words.now) c.in-Some.n order c.in-Some.ensures.is words)

pub returns-in-Some-clause-runs : goal.returns-in-Some-clause-runs
returns-in-Some-clause-runs g c = λ order words.
    absurd (no_run (map string_bytes c.args.words.now) c.in-Some.n order c.in-Some.ensures.is words)

pub returns-in-Some-clause-drills : goal.returns-in-Some-clause-drills
returns-in-Some-clause-drills g c = λ n words.
    let same : c.in-Some.n ≡ n = same_number c.in-Some.n n _ c.in-Some.ensures.is words in
    subst (λ (m : ℕ). ServesDrill m g.K.Sink.tells (g.K.Sink.history c.args.out.now) (g.K.Sink.history c.drill.new.out) c.drill.result.1) same
    (served history_of c.in-Some.n g.K.Sink.tells (g.K.Sink.history c.args.out.now) (g.K.Sink.history c.drill.new.out)
    c.drill.result.0 c.drill.result.1 c.drill.ensures.none (λ e. ap g.K.Sink.history (c.drill.ensures.unwritten e)) c.drill.ensures.drills)
