use Rattle.std.proofs.Common.{◌≡◌, ℕ, List, length, take, sym, ap, subst, ◌∙◌, arith}
use Rattle.std.proofs.Math.Seq.{take-length}
use Rattle.doip_frame.specs.declared.frame.Frame.{Frame}
use Rattle.run_model.specs.Link.{Link, see, see_all}
use Rattle.link_state.specs.State.{ShowsBody, tester_of, units_of}
use Rattle.link_state.proofs.Frames.{see_more}
use Rattle.link_state.proofs.Pieces.{next_loss}
use Rattle.link_state.proofs.state.LinkState.see_frames.Goals as goal

pub returns-in_err-see-clause-rest : goal.returns-in_err-see-clause-rest
returns-in_err-see-clause-rest c = next_loss _ _ _ c.loop-i.invariant.rest c.see.ensures.rest c.see.ensures.stays

pub loop-i-preserved : goal.loop-i-preserved
loop-i-preserved c = record {
  rest = next_loss _ _ _ c.loop-i.invariant.rest c.see.ensures.rest c.see.ensures.stays;
  shows = λ k s.
      let t = c.args.self.now in
      let labels = c.loop-i.invariant.rest.labels in
      let m : Link = see_all (tester_of t) (units_of t) (take c.loop-i.i c.args.frames.now) k in
      subst (ShowsBody c.see.new.self) (sym (see_more (tester_of t) (units_of t) c.args.frames.now c.loop-i.i c.at.result.now k c.at.ensures))
      (subst (ShowsBody c.see.new.self) (λ i. see (labels.tester_same i) (labels.units_same i) c.at.result.now m) (c.in_ok-see.ensures.shows m (c.loop-i.invariant.shows k s)));
}

pub returns-clause-shows : goal.returns-clause-shows
returns-clause-shows c = λ l s.
    let t = c.args.self.now in
    let all : c.loop-i.i ≡ length c.args.frames.now = omega (arith, c.loop-i-test.false, c.loop-i.auto.i-end, c.len-i-end.ensures) in
    subst (λ (fs : List Frame). ShowsBody c.loop-i.self (see_all (tester_of t) (units_of t) fs l)) (ap (λ (n : ℕ). take n c.args.frames.now) all ∙ take-length c.args.frames.now) (c.loop-i.invariant.shows l s)
