-- Calls one after another.
use Rattle.std.proofs.Common.{◌≡◌, ℕ, ◌+◌, ◌<◌, ◌≤◌, false, List, [], ◌∷◌, ◌++◌, length, refl, ◌∙◌, subst, arith, inl, inr, length-append, Result, Ok}
use Rattle.std.proofs.lemmas.Bool.{both_ways, cases_eq}
use Rattle.disk_model.specs.declared.device.DeviceFault.{DeviceFault}
use Rattle.shop_model.specs.History.{History, Call, LAST, DiskCall}
use Rattle.journal_steps.specs.Later.{AreCalls, MadeCalls}

-- a call that succeeded
pub made_one : {T : Type 0} {call : Call} (old new : History) (x : T) → old.moment ≤ LAST → DiskCall call old new (Ok x) → MadeCalls old new (call ∷ [])
made_one {T} {call} old new x bounded did = elim (cases_eq old.moment LAST) [
  | inl last ↦ absurd (both_ways false refl (did.passes.last last))
  | inr before ↦
      let room : old.moment < LAST = omega (arith, bounded, before) in
      record { moments = omega (arith, did.passes.moment, room); in_order = (did.passes.call_is room, tt) }
]

are_append : (h : History) (m : ℕ) (xs ys : List Call) → AreCalls h m xs → AreCalls h (m + length xs) ys → AreCalls h m (xs ++ ys)
are_append h m [] ys first second = subst (λ (k : ℕ). AreCalls h k ys) (omega arith) second
are_append h m (x ∷ xs) ys first second = (first.0, are_append h (m + 1) xs ys first.1 (subst (λ (k : ℕ). AreCalls h k ys) (omega arith) second))

are_later : (old new : History) (m : ℕ) (xs : List Call) → ((k : ℕ) → k < old.moment → new.call_at k ≡ old.call_at k) → m + length xs ≤ old.moment → AreCalls old m xs → AreCalls new m xs
are_later old new m [] past le are = tt
are_later old new m (x ∷ xs) past le are = (past m (omega (arith, le)) ∙ are.0, are_later old new (m + 1) xs past (omega (arith, le)) are.1)

pub made_then : (old mid new : History) (first second : List Call) → MadeCalls old mid first → MadeCalls mid new second → ((k : ℕ) → k < mid.moment → new.call_at k ≡ mid.call_at k) → MadeCalls old new (first ++ second)
made_then old mid new first second a b past = record {
  moments = omega (arith, a.moments, b.moments, length-append first second);
  in_order = are_append new old.moment first second
      (are_later mid new old.moment first past (omega (arith, a.moments)) a.in_order)
      (subst (λ (k : ℕ). AreCalls new k second) a.moments b.in_order);
}

pub made_ok : {T : Type 0} {call : Call} (old new : History) (r : Result T DeviceFault) (x : T) → r ≡ Ok x → old.moment ≤ LAST → DiskCall call old new r → MadeCalls old new (call ∷ [])
made_ok {T} {call} old new r x is bounded did = made_one old new x bounded (subst (λ (s : Result T DeviceFault). DiskCall call old new s) is did)
