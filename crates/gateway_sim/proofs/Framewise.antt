-- Frames that are handled one after another.
use Rattle.std.proofs.Common.{◌≡◌, ◌⊎◌, inl, inr, ℕ, ◌+◌, ◌<◌, ◌≤◌, List, [], ◌∷◌, ◌++◌, length, take, get_or, Some, None, Option, refl, sym, ◌∙◌, ap, subst, append_assoc, arith}
use Rattle.std.specs.Prelude.{slice_get, Result, Ok, Err, OnErr}
use Rattle.std.proofs.lemmas.List.{take_more, take_all, append-nil}
use Rattle.std.proofs.lemmas.Option.{get_or_from_slice_get, slice_get_within}
use Rattle.doip_frame.specs.declared.frame.Frame.{Frame}
use Rattle.gateway_sim.specs.Gates.{Gate}
use Rattle.gateway_sim.specs.Feeding.{one_handled, order_in, frames_handled, orders_of, IsHandledPart}

handled_one : (fs : List Frame) (f : Frame) (g : Gate) → frames_handled (fs ++ f ∷ []) g ≡ (one_handled f (frames_handled fs g)).0
handled_one [] f g = refl
handled_one (e ∷ fs) f g = handled_one fs f (one_handled e g).0

orders_one : (fs : List Frame) (f : Frame) (g : Gate) → orders_of (fs ++ f ∷ []) g ≡ orders_of fs g ++ order_in (one_handled f (frames_handled fs g)).1
orders_one [] f g = append-nil (order_in (one_handled f g).1)
orders_one (e ∷ fs) f g = ap (λ (xs : List (ℕ × List ℕ)). order_in (one_handled e g).1 ++ xs) (orders_one fs f (one_handled e g).0) ∙ sym (append_assoc (order_in (one_handled e g).1) (orders_of fs (one_handled e g).0) (order_in (one_handled f (frames_handled fs (one_handled e g).0)).1))

one_taken : (fs : List Frame) (i : ℕ) (f : Frame) → slice_get fs i ≡ Some f → take (i + 1) fs ≡ take i fs ++ f ∷ []
one_taken fs i f there =
    let lt : i < length fs = slice_get_within fs i f there in
    take_more fs i f lt ∙ ap (λ (g : Frame). take i fs ++ g ∷ []) (get_or_from_slice_get fs i f f there)

abbrev pub Goes : List Frame → ℕ → Gate → Gate → List (ℕ × List ℕ) → Type 0
Goes fs i g now orders = (now ≡ frames_handled (take i fs) g) × (orders ≡ orders_of (take i fs) g)

-- one frame more
pub goes_on : (fs : List Frame) (i : ℕ) (f : Frame) (g now next : Gate) (orders more : List (ℕ × List ℕ)) → slice_get fs i ≡ Some f → Goes fs i g now orders → (next ≡ (one_handled f now).0) × (more ≡ orders ++ order_in (one_handled f now).1) → Goes fs (i + 1) g next more
goes_on fs i f g now next orders more there (is, are) (next_is, more_is) =
    let taken = one_taken fs i f there in (
      next_is ∙ ap (λ (h : Gate). (one_handled f h).0) is ∙ sym (handled_one (take i fs) f g) ∙ ap (λ (gs : List Frame). frames_handled gs g) (sym taken),
      more_is ∙ (λ j. are j ++ order_in (one_handled f (is j)).1) ∙ sym (orders_one (take i fs) f g) ∙ ap (λ (gs : List Frame). orders_of gs g) (sym taken),
    )

-- where there was no memory, some of them were handled
pub stopped : (fs : List Frame) (i : ℕ) (f : Frame) (g now next : Gate) (orders : List (ℕ × List ℕ)) → slice_get fs i ≡ Some f → Goes fs i g now orders → (next ≡ now) ⊎ (next ≡ (one_handled f now).0) → IsHandledPart fs g next
stopped fs i f g now next orders there (is, are) (inl same) = record { count = i; becomes = same ∙ is }
stopped fs i f g now next orders there (is, are) (inr did) =
    record { count = i + 1; becomes = did ∙ ap (λ (h : Gate). (one_handled f h).0) is ∙ sym (handled_one (take i fs) f g) ∙ ap (λ (gs : List Frame). frames_handled gs g) (sym (one_taken fs i f there)) }

pub on_err : {T E : Type 0} (r : Result T E) (P : Type 0) → P → OnErr r P
on_err (Ok x) P p = tt
on_err (Err e) P p = p
