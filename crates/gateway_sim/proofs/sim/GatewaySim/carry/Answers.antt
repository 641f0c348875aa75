use Rattle.std.proofs.Common.{◌≡◌, ◌∙◌, ◌++◌, ◌+◌, ap, sym, take, drop, List, ℕ}
use Rattle.std.specs.Prelude.{slice_range}
use Rattle.gateway_sim.specs.Gates.{gate_of, gateway_of}
use Rattle.gateway_sim.proofs.Ready.{front_and_rest}
use Rattle.gateway_sim.proofs.sim.GatewaySim.carry.Goals as goal

pub returns-clause-is : goal.returns-clause-is
returns-clause-is c =
    let s = c.args.self.now in
    let cut : List ℕ → List ℕ = λ xs. slice_range xs s.start (s.start + c.min-n.result) in
    let front : take c.min-n.result c.put_front.new.out ≡ cut s.ready.items = c.put_front.ensures ∙ ap cut c.deref-2.ensures.value in
    let same : cut c.deref.result.now ≡ take c.min-n.result c.put_front.new.out = ap cut c.deref.ensures.value ∙ sym front in
    let carried = c.in_ok-extend_from_slice.ensures.items ∙ ap (λ (xs : List ℕ). s.carried.items ++ xs) same in
    let rest = front_and_rest s.start c.min-n.result s.ready.items _ front ∙ ap (λ (xs : List ℕ). take c.min-n.result c.put_front.new.out ++ xs) (sym c.past-self.ensures.is) in
    (rest, λ i. record (gate_of s) { gateway = record (gateway_of s) { ready = drop c.past-self.result c.past-self.new.ready.items; carried = carried i } })
