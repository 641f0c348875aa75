-- Drafts make one plan, or have one refusal.
use Rattle.std.proofs.Common.{◌≡◌, ◌∙◌, ◌⊎◌, inl, inr, sym, refl, ap, ℕ, List, Option, Some, None, Result, Ok, Err}
use Rattle.span_store.specs.Lowest.{IsLowest}
use Rattle.flash_plan.specs.Accepting.{draft_of, first_task, has_same_address, has_same_name, has_unknown, has_wide, too_many, units_of, IsPlanAnswer, IsKnown}
use Rattle.flash_plan.specs.Plan.{StandsBefore}
use Rattle.flash_plan.specs.declared.fault.PlanFault.{PlanFault}
use Rattle.flash_plan.specs.declared.fault.PlanFault.TheVariants as fault
use Rattle.flash_plan.specs.declared.fault.What.{What}
use Rattle.flash_plan.specs.declared.unit.Draft.{Draft}
use Rattle.flash_plan.specs.declared.unit.UnitPlan.{UnitPlan}
use Rattle.plan_build.proofs.OneImage.{lowest_one}

-- the first refusal before that on cycles
abbrev first : List Draft → Option What → Option ℕ → Option ℕ → Option ℕ → Option PlanFault
first ds (Some what) n a u = Some (fault.TooMany what)
first ds None (Some n) a u = Some (fault.SameName n)
first ds None None (Some n) u = Some (fault.SameUnit (draft_of ds n).address)
first ds None None None (Some n) = Some (fault.UnknownAfter n)
first ds None None None None = None

abbrev early : List Draft → Option PlanFault
early ds = first ds (too_many ds) (first_task ds (has_same_name ds)) (first_task ds (has_same_address ds)) (first_task ds (has_unknown ds))

abbrev last : List Draft → Option ℕ → Option ℕ → Result (List UnitPlan) PlanFault
last ds (Some n) w = Err (fault.Cycle n)
last ds None (Some n) = Err (fault.TooWide n)
last ds None None = Ok (units_of ds)

abbrev late : List Draft → Option ℕ → Result (List UnitPlan) PlanFault
late ds cycle = last ds cycle (first_task ds (has_wide ds))

abbrev IsRing : List Draft → ℕ → Type 0
IsRing ds n = StandsBefore (units_of ds) n n

-- how an answer comes about
data Comes (ds : List Draft) (a : Result (List UnitPlan) PlanFault) : Type 0 where
  none : a ≡ Err fault.NoMemory → Comes ds a
  soon : (e : PlanFault) → early ds ≡ Some e → a ≡ Err e → Comes ds a
  then : (cycle : Option ℕ) → early ds ≡ None → IsLowest (IsRing ds) cycle → a ≡ late ds cycle → Comes ds a

known : (ds : List Draft) → IsKnown ds → early ds ≡ None
known ds h = rw (h.addressed.named.few, h.addressed.named.names, h.addressed.addresses, h.known) refl

comes : (ds : List Draft) (a : Result (List UnitPlan) PlanFault) → IsPlanAnswer ds a → Comes ds a
comes ds (Err fault.NoMemory) h = none refl
comes ds (Err (fault.TooMany what)) h = soon (fault.TooMany what) (rw h refl) refl
comes ds (Err (fault.SameName n)) h = soon (fault.SameName n) (rw (h.0, h.1) refl) refl
comes ds (Err (fault.SameUnit address)) h = soon (fault.SameUnit (draft_of ds h.1.0).address) (rw (h.0.few, h.0.names, h.1.1) refl) (ap (λ x. Err (fault.SameUnit x)) h.1.2)
comes ds (Err (fault.UnknownAfter n)) h = soon (fault.UnknownAfter n) (rw (h.0.named.few, h.0.named.names, h.0.addresses, h.1) refl) refl
comes ds (Err (fault.Cycle n)) h = then (Some n) (known ds h.known) (h.cycle, h.first) refl
comes ds (Err (fault.TooWide n)) h = then None (known ds h.0.known) h.0.no_cycle (sym (ap (last ds None) h.1))
comes ds (Ok units) h = then None (known ds h.0.known) h.0.no_cycle (ap (λ us. Ok us) h.2 ∙ sym (ap (last ds None) h.1))

one : (ds : List Draft) (a b : Result (List UnitPlan) PlanFault) → Comes ds a → Comes ds b → (a ≡ Err fault.NoMemory) ⊎ (b ≡ Err fault.NoMemory) ⊎ (a ≡ b)
one ds a b (none h) k = inl h
one ds a b (soon e p h) (none k) = inr (inl k)
one ds a b (soon e p h) (soon f q k) = let s : e ≡ f = cc in inr (inr (h ∙ ap (λ x. Err x) s ∙ sym k))
one ds a b (soon e p h) (then c q l k) = cc
one ds a b (then c p l h) (none k) = inr (inl k)
one ds a b (then c p l h) (soon f q k) = cc
one ds a b (then c p l h) (then d q m k) = let s : c ≡ d = lowest_one (IsRing ds) c d l m in inr (inr (h ∙ ap (late ds) s ∙ sym k))

pub one_plan : (ds : List Draft) (a b : Result (List UnitPlan) PlanFault) → IsPlanAnswer ds a → IsPlanAnswer ds b → (a ≡ Err fault.NoMemory) ⊎ (b ≡ Err fault.NoMemory) ⊎ (a ≡ b)
one_plan ds a b h k = one ds a b (comes ds a h) (comes ds b k)
