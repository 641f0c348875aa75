use Rattle.std.proofs.Common.{◌≡◌, ◌∙◌, ◌+◌, ◌-◌, ◌<◌, ◌≤◌, ◌++◌, ℕ, List, inl, inr, min, length, take, drop, length-drop, arith, ap}
use Rattle.std.proofs.lemmas.List.{take_rest}
use Rattle.session_image.proofs.Over.{laid_away, laid_over}
use Rattle.session_image.proofs.checks.lay_over.Goals.{then-at-bytes-via-then-at-bytes, then-at-bytes-via-else-at-bytes+then-from-out}
use Rattle.session_image.proofs.checks.lay_over.Goals as goal

pub returns-then-at-bytes : goal.returns-then-at-bytes
returns-then-at-bytes c = elim c.then-at-bytes.branch [
  | then-at-bytes-via-then-at-bytes w ↦ laid_away c.args.at c.args.from c.args.bytes.now c.args.out.now c.max-first.result c.max-first.ensures (inl w.if-at-bytes.true)
  | then-at-bytes-via-else-at-bytes+then-from-out w ↦ laid_away c.args.at c.args.from c.args.bytes.now c.args.out.now c.max-first.result c.max-first.ensures (inr w.if-from-out.true)
]

pub returns : goal.returns
returns c =
    let at : ℕ = c.args.at in
    let from : ℕ = c.args.from in
    let first : ℕ = c.max-first.result in
    let bytes : List ℕ = c.args.bytes.now in
    let out : List ℕ = c.args.out.now in
    let place : ℕ = c.copied.result in
    let there : List ℕ = drop (first - at) bytes in
    let rest : take (length bytes - (first - at)) there ≡ there = take_rest bytes (first - at) in
    let size : length there ≡ length bytes - (first - at) = length-drop (first - at) bytes in
    let stops : place ≡ first - from + min (length there) (length out - (first - from)) =
    c.copied.ensures.place ∙ ap (λ (l : List ℕ). first - from + min (length l) (length out - (first - from))) rest in
    let low : at ≤ first = omega (arith, c.max-first.ensures) in
    let begin : from ≤ first = omega (arith, c.max-first.ensures) in
    let begins : first < at + length bytes = c.if-at-bytes.false in
    let room : first < from + length out = c.if-from-out.false in
    let many : place - (first - from) ≡ min (at + length bytes - first) (from + length out - first) = omega arith in
    let end : place ≡ first - from + (place - (first - from)) = omega arith in
    laid_over at from bytes out c.copied.new.out first (place - (first - from)) c.max-first.ensures (omega arith) (omega arith) many
    (c.copied.ensures.copied ∙ ap (λ (l : List ℕ). take (first - from) out ++ (take (place - (first - from)) l ++ drop place out)) rest
    ∙ ap (λ (x : ℕ). take (first - from) out ++ (take (place - (first - from)) there ++ drop x out)) end)
