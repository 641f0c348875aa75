use Rattle.std.proofs.Common.{◌<◌, ℕ, List, refl, sym, subst, ◌∙◌, arith}
use Rattle.link_state.specs.State.{AreDistinct, IsOf}
use Rattle.bay_replay.proofs.Addresses.{distinct}
use Rattle.bay_replay.proofs.Bodies.{start_slot}
use Rattle.bay_replay.proofs.state.Core.start.Goals as goal

pub new-requires-3 : goal.new-requires-3
new-requires-3 c = subst AreDistinct (sym (c.as_slice.ensures.value ∙ c.in_ok-all.ensures)) (distinct c.args.plan.now c.is_accepted.ensures)

pub returns : goal.returns
returns c =
    let byte : c.args.rules.relinks < 256 = omega arith in
    record {
      body = record {
        posts = c.in_ok-new.ensures.size;
        units = c.in_ok-new-2.ensures.size;
        slots = λ n lt. start_slot c.args.plan.now c.args.found.now c.in_ok-new.field-0 c.in_ok-new-2.field-0 n (c.in_ok-new-2.ensures.each n lt) (c.in_ok-new.ensures.each n lt);
        link = c.in_ok-new-3.ensures.shows;
        labels = subst (λ (xs : List ℕ). IsOf c.args.rules.tester xs c.in_ok-new-3.field-0) (c.as_slice.ensures.value ∙ c.in_ok-all.ensures) c.in_ok-new-3.ensures.of;
        halt = c.none.ensures;
        before = c.none-2.ensures;
        right = tt;
      };
      byte = byte;
      few = λ none. omega arith;
    }
