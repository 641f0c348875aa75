use Rattle.std.proofs.Common.{◌≡◌, ◌≤◌, ℕ, List, length, take, sym, ap, subst, arith}
use Rattle.flash_plan.specs.declared.unit.Segment.{Segment}
use Rattle.run_model.proofs.Along.{key_length}
use Rattle.uds_codec.specs.Key.{key_of, level_of}
use Rattle.unit_session.proofs.Leads.{body_small}
use Rattle.unit_session.proofs.requests.request.Goals as goal
use Rattle.unit_session.specs.Session.{IsStage, IsKeyStage, seed_bytes, level_or_none}
use Rattle.unit_session.specs.declared.stage.Stage.{Stage}

pub key-requires-in-Key-clause-size : goal.key-requires-in-Key-clause-size
key-requires-in-Key-clause-size c =
    let u = c.args.unit.now in
    let at : IsKeyStage u c.in-Key.seed = subst (λ (s : Stage). IsStage u s) c.in-Key.is c.requires.stage in
    let (level, some, few) = key_length u u.key (level_or_none (level_of u.key)) (seed_bytes c.in-Key.seed) c.requires.accepted.key at.keyed at.some at.few in
    let lent = c.as_slice.ensures in
    let made = c.in_ok-key-in-Key.ensures in
    let size = c.from.ensures in
    let is : c.as_slice.result.now ≡ key_of u.key (seed_bytes c.in-Key.seed) = cc in
    record { least = subst (λ (xs : List ℕ). 1 ≤ length xs) (sym is) some; most = subst (λ (xs : List ℕ). length xs ≤ 32) (sym is) few }

pub block-requires-clause-few : goal.block-requires-clause-few
block-requires-clause-few c = omega (arith, body_small c.args.unit.now c.in-Block.number c.requires.accepted, ap (λ (xs : List ℕ). length xs) c.as_slice-body.ensures, ap (λ (s : Segment). length s.body) c.segment.ensures)
