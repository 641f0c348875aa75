-- The bytes that are due.
use Rattle.std.proofs.Common.{◌≡◌, ℕ, ◌+◌, ◌-◌, ◌≤◌, true, List, ◌++◌, drop, take, refl, sym, ◌∙◌, ap, arith}
use Rattle.std.specs.Prelude.{slice_range, nat_le, Result, Ok, Err, OnOk}
use Rattle.std.proofs.lemmas.Bool.{le-leb}
use Rattle.std.proofs.lemmas.List.{take-append-drop, drop-drop}
use Rattle.doip_frame.specs.Frame.{message_bytes}
use Rattle.unit_model.specs.Feed.{tester_of}
use Rattle.gateway_sim.specs.Gates.{Gate}
use Rattle.gateway_sim.specs.Handling.{says, queued}

pub front_and_rest : (s n : ℕ) (xs front : List ℕ) → front ≡ slice_range xs s (s + n) → drop s xs ≡ front ++ drop (s + n) xs
front_and_rest s n xs front is =
    let size : s + n - s ≡ n = omega arith in
    sym (take-append-drop n (drop s xs)) ∙ (λ i. ap (λ (k : ℕ). take k (drop s xs)) (sym size) i ++ drop-drop n s xs i) ∙ ap (λ (ys : List ℕ). ys ++ drop (s + n) xs) (sym is)

-- a reply that is due comes behind them
pub now_queued : (g : Gate) (unit due : ℕ) (body : List ℕ) → due ≤ g.gateway.tick → says g (message_bytes unit (tester_of g.gateway) body) ≡ queued unit due body g
now_queued g unit due body le = let yes : nat_le due g.gateway.tick ≡ true = le-leb due g.gateway.tick le in rw yes refl

pub on_ok : {T E : Type 0} (r : Result T E) (x y z : Gate) → y ≡ z → OnOk r (x ≡ y) → OnOk r (x ≡ z)
on_ok (Ok v) x y z same is = is ∙ same
on_ok (Err e) x y z same is = tt
