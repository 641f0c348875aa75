use Rattle.std.proofs.Common.{◌≡◌, ◌∙◌, ◌+◌, ◌*◌, ◌<◌, ◌++◌, [], ◌∷◌, ℕ, length, sym, arith}
use Rattle.journal_model.specs.Records.{Form, segment_counts, total}
use Rattle.journal_steps.specs.Tables.{starts_of}
use Rattle.flash_journal.proofs.Counts.{count_length, counts_all, counts_more, total_more, starts_more}
use Rattle.flash_journal.proofs.layout.Layout.new_at.Goals as goal

pub loop-unit-preserved : goal.loop-unit-preserved
loop-unit-preserved c =
    let P = c.args.plan.now in
    let n = c.loop-unit.unit in
    let lt : n < length P = omega arith in
    record {
      counted = omega (arith, total_more P n lt);
      few = omega arith;
      counts = c.in_ok-push.ensures.items ∙ (λ i. c.loop-unit.invariant.counts i ++ (c.segment_count-count.ensures.count i ∷ [])) ∙ sym (counts_more P n lt);
      places = c.in_ok-push-2.ensures.items ∙ (λ i. c.loop-unit.invariant.places i ++ (c.loop-unit.invariant.counted i ∷ [])) ∙ sym (starts_more (2 * length P) P n lt);
    }

pub returns : goal.returns
returns c =
    let P = c.args.plan.now in
    let units : c.units-units.result ≡ length (segment_counts P) = c.units-units.ensures ∙ sym (count_length P) in
    let counts : c.loop-unit.segments.items ≡ segment_counts P = c.loop-unit.invariant.counts ∙ counts_all P c.loop-unit.unit (omega arith) in
    λ i. record { at = c.args.at; units = units i; segments = counts i }
