use Rattle.std.proofs.Common.{◌≡◌, List, ◌-◌, ◌≤◌, ◌+◌, Some, length, subst, sym, arith, ◌∙◌}
use Rattle.call_log.specs.Log.{sealed_call}
use Rattle.call_log.specs.declared.call.LinkCall.{LinkCall}
use Rattle.call_log.proofs.Steps.{IsAll, goes_on, stops, ends}
use Rattle.call_log.proofs.reading.calls_in.Goals as goal

pub returns-in_default : goal.returns-in_default
returns-in_default c =
    stops c.loop-i.calls c.args.frames.now c.args.from c.loop-i.i c.at.result.now c.at-in-loop-i.result.now c.in_ok-call.field-0 c.at.ensures c.at-in-loop-i.ensures
    c.in_ok-call.ensures c.in_default.not-Some c.loop-i.invariant.calls

pub loop-i-preserved : goal.loop-i-preserved
loop-i-preserved c =
    let said : sealed_call c.at.result.now c.at-in-loop-i.result.now ≡ Some c.in-Some.call = sym c.in_ok-call.ensures ∙ c.in-Some.is in
    record {
      within = omega (arith, c.loop-i-test.true, c.len.ensures, c.loop-i.invariant.within);
      calls = subst (λ (calls : List LinkCall). IsAll calls c.args.frames.now c.args.from (c.loop-i.i + 2)) (sym c.in_ok-push.ensures.ok)
          (goes_on c.loop-i.calls c.args.frames.now c.args.from c.loop-i.i c.at.result.now c.at-in-loop-i.result.now c.in-Some.call c.at.ensures c.at-in-loop-i.ensures said
          c.loop-i.invariant.calls);
    }

pub returns : goal.returns
returns c =
    let le : length c.args.frames.now - c.loop-i.i ≤ 1 = omega (arith, c.loop-i-test.false, c.len.ensures) in
    ends c.loop-i.calls c.args.frames.now c.args.from c.loop-i.i le c.loop-i.invariant.calls
