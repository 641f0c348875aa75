use Rattle.run_report.proofs.Texts.{lines_step}
use Rattle.run_report.proofs.imaging.put_segments.Goals as goal

pub loop-i-preserved : goal.loop-i-preserved
loop-i-preserved c = lines_step c.args.segments.now c.loop-i.i c.at.result.now c.args.out.now c.loop-i.out c.put_segment.new.out c.at.ensures c.loop-i.invariant c.in_ok-put_segment.ensures
