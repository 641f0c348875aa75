use Rattle.bench_shop.specs.Pasts.{vehicle_of}
use Rattle.bench_shop.proofs.bench.Bench.new.Goals as goal

pub invariant_of-result-clause-steps : goal.invariant_of-result-clause-steps
invariant_of-result-clause-steps c = λ m. ∣ c.each_link_call_is_unit_steps.ensures.same
    (vehicle_of c.args.world) ∣₁
