-- Replies of a unit, of which one that waits for what was heard already comes at once.
use Rattle.std.proofs.Common.{◌≡◌, ◌⊎◌, inl, inr, ℕ, Bool, List, [], ◌∷◌, ◌++◌, Some, None, Option, refl, sym, ◌∙◌, ap, subst}
use Rattle.std.specs.Prelude.{if◌then◌else◌}
use Rattle.std.proofs.lemmas.Bool.{cases_Bool}
use Rattle.flash_base.specs.Lists.{Each}
use Rattle.unit_model.specs.declared.reply.Due.TheVariants.{At, Held}
use Rattle.unit_model.specs.declared.reply.UnitReply.{UnitReply}
use Rattle.unit_model.specs.Step.{CanSend, UnitStep, Obeys, Holds, Departs, reply_at, pendings, last_replies}
use Rattle.unit_model.specs.Unit.{ControlUnit}
use Rattle.unit_sim.specs.Sims.{Sim}
use Rattle.unit_sim.proofs.Held.{may_come}
use Rattle.vehicle_world.specs.Feeding.{all_met}
use Rattle.vehicle_world.specs.Running.{HasTurns, IsReply}
use Rattle.vehicle_world.specs.States.{has_heard}

abbrev CanSendIt : UnitReply → Type 0
CanSendIt r = CanSend r.body

met_sizes : (sims : List Sim) (tick : ℕ) (rs : List UnitReply) → Each CanSendIt rs → Each CanSendIt (all_met sims tick rs)
met_sizes sims tick [] sizes = tt
met_sizes sims tick (r ∷ rs) sizes = (sizes.0, met_sizes sims tick rs sizes.1)

met_pendings : (sims : List Sim) (tick sid : ℕ) (ts : List ℕ) (last : List UnitReply) → all_met sims tick last ≡ last → all_met sims tick (pendings sid ts ++ last) ≡ pendings sid ts ++ last
met_pendings sims tick sid [] last is = is
met_pendings sims tick sid (t ∷ ts) last is = ap (λ (xs : List UnitReply). reply_at t (127 ∷ sid ∷ 120 ∷ []) ∷ xs) (met_pendings sims tick sid ts last is)

met_last : (sims : List Sim) (tick : ℕ) (said : Option (List ℕ)) (due : ℕ) → all_met sims tick (last_replies said due) ≡ last_replies said due
met_last sims tick None due = refl
met_last sims tick (Some body) due = refl

along : (old : ControlUnit) (bytes : List ℕ) (tick : ℕ) (new : ControlUnit) (rs ws : List UnitReply) → ws ≡ rs → UnitStep old bytes tick rs new → UnitStep old bytes tick ws new
along old bytes tick new rs ws is step = subst (λ (xs : List UnitReply). UnitStep old bytes tick xs new) (sym is) step

same_list : (sims : List Sim) (tick : ℕ) (rs all : List UnitReply) → rs ≡ all → all_met sims tick all ≡ all → all_met sims tick rs ≡ rs
same_list sims tick rs all is met_is = ap (all_met sims tick) is ∙ met_is ∙ sym is

-- one answer that is held
met_held : (sims : List Sim) (old : ControlUnit) (bytes : List ℕ) (tick : ℕ) (new : ControlUnit) (every unit sid : ℕ) (body : List ℕ) → UnitStep old bytes tick (record { due = Held every unit sid; body = body } ∷ []) new → UnitStep old bytes tick (all_met sims tick (record { due = Held every unit sid; body = body } ∷ [])) new
met_held sims old bytes tick new every unit sid body step = elim (cases_Bool (has_heard sims unit sid)) [
  | inl e ↦ subst (λ (b : Bool). UnitStep old bytes tick (record { due = if b then At tick else Held every unit sid; body = body } ∷ []) new) (sym e) (may_come old new bytes tick every unit sid body step)
  | inr e ↦ subst (λ (b : Bool). UnitStep old bytes tick (record { due = if b then At tick else Held every unit sid; body = body } ∷ []) new) (sym e) step
]

pub met_step : (sims : List Sim) (old : ControlUnit) (bytes : List ℕ) (tick : ℕ) (rs : List UnitReply) (new : ControlUnit) → UnitStep old bytes tick rs new → UnitStep old bytes tick (all_met sims tick rs) new
met_step sims old bytes tick rs new step = go step.how
  where
    go : Obeys old bytes tick rs new ⊎ Holds old bytes tick rs new ⊎ Departs old bytes tick rs new → UnitStep old bytes tick (all_met sims tick rs) new
    go (inl o) = along old bytes tick new rs (all_met sims tick rs) (same_list sims tick rs _ o.gives (met_pendings sims tick _ o.ticks (reply_at o.due _ ∷ []) refl)) step
    go (inr (inl h)) = subst (λ (xs : List UnitReply). UnitStep old bytes tick (all_met sims tick xs) new) (sym h.gives)
        (met_held sims old bytes tick new h.every h.unit h.sid _ (subst (λ (xs : List UnitReply). UnitStep old bytes tick xs new) h.gives step))
    go (inr (inr d)) = along old bytes tick new rs (all_met sims tick rs) (same_list sims tick rs _ d.gives (met_pendings sims tick _ d.ticks (last_replies _ d.due) (met_last sims tick _ d.due))) step

-- ------ each reply can be kept
abbrev TurnsOf : UnitReply → Type 0
TurnsOf r = HasTurns r.due

turns_pendings : (sid : ℕ) (ts : List ℕ) (last : List UnitReply) → Each TurnsOf last → Each TurnsOf (pendings sid ts ++ last)
turns_pendings sid [] last has = has
turns_pendings sid (t ∷ ts) last has = (tt, turns_pendings sid ts last has)

turns_last : (said : Option (List ℕ)) (due : ℕ) → Each TurnsOf (last_replies said due)
turns_last None due = tt
turns_last (Some body) due = (tt, tt)

both : (rs : List UnitReply) → Each CanSendIt rs → Each TurnsOf rs → Each IsReply rs
both [] sizes turns = tt
both (r ∷ rs) sizes turns = (record { sizes = sizes.0; turns = turns.0 }, both rs sizes.1 turns.1)

pub are_replies : (old : ControlUnit) (bytes : List ℕ) (tick : ℕ) (rs : List UnitReply) (new : ControlUnit) → UnitStep old bytes tick rs new → Each IsReply rs
are_replies old bytes tick rs new step = both rs step.sizes (go step.how)
  where
    go : Obeys old bytes tick rs new ⊎ Holds old bytes tick rs new ⊎ Departs old bytes tick rs new → Each TurnsOf rs
    go (inl o) = subst (Each TurnsOf) (sym o.gives) (turns_pendings _ o.ticks (reply_at o.due _ ∷ []) (tt, tt))
    go (inr (inl h)) = subst (Each TurnsOf) (sym h.gives) (h.some, tt)
    go (inr (inr d)) = subst (Each TurnsOf) (sym d.gives) (turns_pendings _ d.ticks (last_replies _ d.due) (turns_last _ d.due))
