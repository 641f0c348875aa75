-- A run over a shop with one event more, from its parts.
use Rattle.std.proofs.Common.{◌≡◌, ℕ, ◌+◌, true, false, List, [], ◌∷◌, ◌++◌, refl, sym, ◌∙◌, ap, subst, arith}
use Rattle.std.specs.Prelude.{Bool, IsTrue, MatchBool}
use Rattle.std.proofs.lemmas.Bool.{false≢true}
use Rattle.barrier_board.specs.Board.{has_entry as is_found}
use Rattle.bay_core.specs.Core.{Core, core_start, core_after}
use Rattle.bay_core.specs.Joint.{IsVehicleJoint}
use Rattle.bay_core.specs.Moves.{MovesVehicle}
use Rattle.bay_core.specs.declared.event.Event.{Event}
use Rattle.flash_base.specs.Counts.{Rises}
use Rattle.flash_base.specs.Lists.{Each}
use Rattle.disk_model.specs.Disk.{DiskState}
use Rattle.flash_run.proofs.Lists.{core_more}
use Rattle.flash_run.specs.Run.{RunState, IsKept, core_of_run, with_event}
use Rattle.outcome_law.specs.LinkCounting.{is_fault, fault_of}
use Rattle.outcome_law.specs.Rising.{RoseBy}
use Rattle.run_model.specs.Link.{is_live as lives}
use Rattle.shop_model.specs.History.{History, disk_now, vehicle_now}
use Rattle.shop_model.specs.Through.{IsLater, AreShown}
use Rattle.unit_model.specs.Vehicle.{Vehicle}
use Rattle.bay_law.specs.Bay.{JournalState, IsBay, IsJournalOf, IsSmallEvent, AreOrdered}
use Rattle.bay_law.specs.Driven.{IsTold, Strays}
use Rattle.bay_law.specs.Sentence.{KeepsSound}
use Rattle.bay_law.proofs.Driving.{driven_more, driven_joint}

each_more : (es : List Event) (e : Event) → Each IsSmallEvent es → IsSmallEvent e → Each IsSmallEvent (es ++ e ∷ [])
each_more [] e all small = (small, tt)
each_more (x ∷ xs) e all small = (all.0, each_more xs e all.1 small)

pub core_with : (r : RunState) (e : Event) → core_of_run (with_event e r) ≡ core_after r.rules r.plan e (core_of_run r)
core_with r e = core_more r.rules r.plan (core_start r.plan (is_found r.found)) r.events e

pub event_keeps : (td tv : Bool) (r : RunState) (e : Event) (first now : History) (j : JournalState) (K : DiskState → Type 0) → Each IsSmallEvent r.events → IsSmallEvent e → AreOrdered r.found → IsLater first now
    → (lives (core_after r.rules r.plan e (core_of_run r)).link.phase ≡ true → IsTrue now.linked) → ((core_after r.rules r.plan e (core_of_run r)).halt.failed ≡ true → Rises first.disk_faults now.disk_faults)
    → IsJournalOf td r.plan (core_after r.rules r.plan e (core_of_run r)) j K (disk_now now)
    → (IsTrue tv → AreShown now first.moment now.moment → IsTold (with_event e r) first now) → (IsTrue td → IsTrue tv → KeepsSound r.plan first now) → IsBay td tv (with_event e r) first now j K
event_keeps td tv r e first now j K so_far small ordered later linked failed journal told sentence =
    let more : core_of_run (with_event e r) ≡ core_after r.rules r.plan e (core_of_run r) = core_with r e in
    record {
      is_later = later;
      linked = λ l. linked (ap (λ (c : Core). lives c.link.phase) (sym more) ∙ l);
      failed = λ f. failed (ap (λ (c : Core). c.halt.failed) (sym more) ∙ f);
      small = each_more r.events e so_far small;
      ordered = ordered;
      journal = subst (λ (c : Core). IsJournalOf td r.plan c j K (disk_now now)) (sym more) journal;
      told = told;
      sentence = sentence;
    }

-- room is not spoken of
pub any_room : (td tv : Bool) (r : RunState) (room : ℕ) (first now : History) (j : JournalState) (K : DiskState → Type 0) → IsBay td tv r first now j K → IsBay td tv (record r { room = room }) first now j K
any_room td tv r room first now j K is = record { is_later = is.is_later; linked = is.linked; failed = is.failed; small = is.small; ordered = is.ordered; journal = is.journal; told = λ t s. told_room r room first now (is.told t s); sentence = is.sentence }
  where
    told_room : (r : RunState) (room : ℕ) (first now : History) → IsTold r first now → IsTold (record r { room = room }) first now
    told_room r room first now t = record { last = t.last; faults = t.faults; driven = t.driven; rose = t.rose; stands = t.stands }

-- ------ the vehicle
pub fed_stands : (b : Bool) (X Y : Type 0) → b ≡ false → MatchBool b X Y → Y
fed_stands true X Y fed is = absurd (false≢true (sym fed))
fed_stands false X Y fed is = is

pub stands_fed : (b : Bool) (X Y : Type 0) → b ≡ false → Y → MatchBool b X Y
stands_fed true X Y fed is = absurd (false≢true (sym fed))
stands_fed false X Y fed is = is

rose_more : (a b x y z : ℕ) → RoseBy a x y → RoseBy b y z → RoseBy (a + b) x z
rose_more a b x y z first then_ = omega (arith, first, then_)

-- it has moved with one event more, a call of the link
pub told_more : (r : RunState) (e : Event) (first old new : History) → r.starved ≡ false → MovesVehicle r.rules r.plan (core_of_run r) e (vehicle_now old) (vehicle_now new)
    → RoseBy (fault_of (is_fault e (vehicle_now old) (vehicle_now new))) old.link_faults new.link_faults → IsTold r first old → IsTold (with_event e r) first new
told_more r e first old new fed did rise t =
    let here : vehicle_now old ≡ t.last = fed_stands r.starved (Strays t.last (vehicle_now old)) (vehicle_now old ≡ t.last) fed t.stands in
    let moved : MovesVehicle r.rules r.plan (core_of_run r) e t.last (vehicle_now new) = subst (λ (v : Vehicle). MovesVehicle r.rules r.plan (core_of_run r) e v (vehicle_now new)) here did in
    let rose : RoseBy (fault_of (is_fault e t.last (vehicle_now new))) old.link_faults new.link_faults = subst (λ (v : Vehicle). RoseBy (fault_of (is_fault e v (vehicle_now new))) old.link_faults new.link_faults) here rise in
    record {
      last = vehicle_now new;
      faults = t.faults + fault_of (is_fault e t.last (vehicle_now new));
      driven = driven_more r.rules r.plan (is_found r.found) r.events (vehicle_now first) t.last t.faults e (vehicle_now new) t.driven moved;
      rose = rose_more t.faults (fault_of (is_fault e t.last (vehicle_now new))) first.link_faults old.link_faults new.link_faults t.rose rose;
      stands = stands_fed r.starved (Strays (vehicle_now new) (vehicle_now new)) (vehicle_now new ≡ vehicle_now new) fed refl;
    }

-- an event that makes no call of the link moves no vehicle; also behind a receive for which there was no memory
pub told_still : (r : RunState) (e : Event) (first old new : History) → ((v : Vehicle) → MovesVehicle r.rules r.plan (core_of_run r) e v v) → ((v : Vehicle) → is_fault e v v ≡ false) → vehicle_now new ≡ vehicle_now old → new.link_faults ≡ old.link_faults
    → IsTold r first old → IsTold (with_event e r) first new
told_still r e first old new still sound same faults t =
    let none : fault_of (is_fault e t.last t.last) ≡ 0 = ap fault_of (sound t.last) in
    record {
      last = t.last;
      faults = t.faults + fault_of (is_fault e t.last t.last);
      driven = driven_more r.rules r.plan (is_found r.found) r.events (vehicle_now first) t.last t.faults e t.last t.driven (still t.last);
      rose = omega (arith, t.rose, none, faults);
      stands = subst (λ (v : Vehicle). MatchBool r.starved (Strays t.last v) (v ≡ t.last)) (sym same) t.stands;
    }

-- ------ what link, gateway and units hold of each other
-- of the vehicle that the last event left
pub told_joint_last : (r : RunState) (first now : History) → IsKept r → (t : IsTold r first now) → IsVehicleJoint r.rules r.plan (is_found r.found) (core_of_run r) t.last (vehicle_now first).gateway.tick
told_joint_last r first now kept t = driven_joint r.rules r.plan (is_found r.found) r.events (vehicle_now first) t.last t.faults kept.accepted kept.legal t.driven

-- of the vehicle now, where no receive went astray
pub told_joint : (r : RunState) (first now : History) → IsKept r → r.starved ≡ false → IsTold r first now → IsVehicleJoint r.rules r.plan (is_found r.found) (core_of_run r) (vehicle_now now) (vehicle_now first).gateway.tick
told_joint r first now kept fed t =
    let here : vehicle_now now ≡ t.last = fed_stands r.starved (Strays t.last (vehicle_now now)) (vehicle_now now ≡ t.last) fed t.stands in
    subst (λ (v : Vehicle). IsVehicleJoint r.rules r.plan (is_found r.found) (core_of_run r) v (vehicle_now first).gateway.tick) (sym here) (told_joint_last r first now kept t)
