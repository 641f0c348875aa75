-- What stopped a run.
use Rattle.std.proofs.Common.{◌≡◌, true, List, [], ◌∷◌, ◌++◌, Some, None, refl, sym, ◌∙◌, ap, append_assoc}
use Rattle.std.specs.Prelude.{Option, nat_lt, if◌then◌else◌}
use Rattle.std.proofs.lemmas.Bool.{and_parts}
use Rattle.std.proofs.lemmas.List.{append-nil}
use Rattle.flash_plan.specs.declared.outcome.Outcome.{Outcome}
use Rattle.flash_plan.specs.declared.outcome.Outcome.TheVariants.{DiskFault, LinkLost}
use Rattle.flash_plan.specs.declared.unit.LinkRules.{LinkRules}
use Rattle.flash_plan.specs.declared.unit.UnitPlan.{UnitPlan}
use Rattle.run_model.specs.Link.{Link}
use Rattle.bay_core.specs.Core.{Core, core_of, core_start, core_after, link_stop, stop_after, is_disk_failure, refused_stop}
use Rattle.bay_core.specs.Legal.{is_legal}
use Rattle.bay_core.specs.declared.event.Event.{Event}
use Rattle.link_law.specs.Follows.{IsLinkOf}
use Rattle.link_law.specs.Stopped.{link_cause, cause_at, or_later, first_cause, StopFollows}
use Rattle.link_law.proofs.Following.{each_event, starts}
use Rattle.link_law.proofs.Moving.{Stands}

later_assoc : (a b c : Option Outcome) → or_later (or_later a b) c ≡ or_later a (or_later b c)
later_assoc None b c = refl
later_assoc (Some outcome) b c = refl

later_none : (a : Option Outcome) → or_later a None ≡ a
later_none None = refl
later_none (Some outcome) = refl

cause_more : (rules : LinkRules) (before es : List Event) (x : Event) → first_cause rules before (es ++ (x ∷ [])) ≡ or_later (first_cause rules before es) (cause_at rules (before ++ es) x)
cause_more rules before [] x = later_none (cause_at rules before x) ∙ ap (λ (xs : List Event). cause_at rules xs x) (sym (append-nil before))
cause_more rules before (e ∷ es) x =
    ap (or_later (cause_at rules before e)) (cause_more rules (before ++ (e ∷ [])) es x)
    ∙ sym (later_assoc (cause_at rules before e) (first_cause rules (before ++ (e ∷ [])) es) (cause_at rules ((before ++ (e ∷ [])) ++ es) x))
    ∙ ap (λ (xs : List Event). or_later (first_cause rules before (e ∷ es)) (cause_at rules xs x)) (append_assoc before (e ∷ []) es)

module _ (rules : LinkRules) (P : List UnitPlan) where
  link_stops : (es : List Event) (l : Link) → IsLinkOf rules P es l → link_stop rules l ≡ link_cause rules es
  link_stops es l is = λ i. if nat_lt rules.relinks (is.losses i) then Some (LinkLost (is.losses i)) else refused_stop (is.phase i)

  stop_more : (es : List Event) (x : Event) (l : Link) (stop : Option Outcome) → IsLinkOf rules P (es ++ (x ∷ [])) l → stop_after stop x rules l ≡ or_later stop (cause_at rules es x)
  stop_more es x l None is = ap (λ (o : Option Outcome). if is_disk_failure x then Some DiskFault else o) (link_stops (es ++ (x ∷ [])) l is)
  stop_more es x l (Some outcome) is = refl

  along : (es events : List Event) (c : Core) → is_legal rules P c events ≡ true → Stands rules P es c.link → c.halt.stop ≡ first_cause rules [] es → (core_of rules P c events).halt.stop ≡ first_cause rules [] (es ++ events)
  along es [] c legal s stop = stop ∙ ap (first_cause rules []) (sym (append-nil es))
  along es (e ∷ events) c legal s stop =
      let both = and_parts _ _ legal in
      let next : Stands rules P (es ++ (e ∷ [])) (core_after rules P e c).link = each_event rules P es c s e both.0 in
      along (es ++ (e ∷ [])) events (core_after rules P e c) both.1 next
      (stop_more es e (core_after rules P e c).link c.halt.stop next.link ∙ ap (λ (o : Option Outcome). or_later o (cause_at rules es e)) stop ∙ sym (cause_more rules [] es e))
      ∙ ap (first_cause rules []) (append_assoc es (e ∷ []) events)

pub stop_follows : StopFollows
stop_follows rules P found events legal = along rules P [] events (core_start P found) legal (starts rules P) refl
