-- Each event keeps what is counted of the link.
use Rattle.std.proofs.Common.{◌≡◌, ◌⊎◌, inl, inr, ℕ, ◌+◌, ◌≤◌, true, false, List, [], ◌++◌, None, refl, sym, ◌∙◌, ap, subst, arith}
use Rattle.std.specs.Prelude.{Bool, ◌==◌}
use Rattle.std.proofs.lemmas.Bool.{false≢true, both_ways, and_parts, eq-eqb}
use Rattle.bay_core.proofs.Allowed.{SentFacts, sent_facts, collected_facts}
use Rattle.bay_core.proofs.Ticks.{between, sent_can}
use Rattle.bay_core.specs.Core.{Core, link_after, heard_link, taken_link, tended_link}
use Rattle.bay_core.specs.Joint.{IsVehicleJoint}
use Rattle.bay_core.specs.Legal.{is_allowed, fits_link}
use Rattle.bay_core.specs.Moves.{MovesVehicle, Receives, Tends, FeedsOr, request_frame}
use Rattle.bay_core.specs.declared.event.Event.TheVariants.{Claimed, Began, Sent, Collected, Tended, Marked, Completed, DiskFailed, Ended}
use Rattle.bay_core.specs.declared.event.Event.{Event}
use Rattle.bay_core.specs.declared.event.Heard.TheVariants.{Kept, Quiet, Piece, Lost}
use Rattle.bay_core.specs.declared.event.Heard.{Heard}
use Rattle.bay_core.specs.declared.event.Tend.TheVariants.{Dialed, Asked, Said, Polled}
use Rattle.bay_core.specs.declared.event.Tend.{Tend}
use Rattle.doip_frame.specs.Frame.{stream_of, activated_bytes, payload_of}
use Rattle.doip_frame.specs.declared.frame.Frame.TheVariants.{Activated}
use Rattle.flash_base.specs.Lists.{Each}
use Rattle.flash_plan.specs.Plan.{IsAccepted, plan_of}
use Rattle.flash_plan.specs.declared.outcome.Entry.{Entry}
use Rattle.flash_plan.specs.declared.unit.LinkRules.{LinkRules}
use Rattle.flash_plan.specs.declared.unit.UnitPlan.{UnitPlan}
use Rattle.run_model.proofs.Connected.{FreshParts, fresh_parts}
use Rattle.run_model.proofs.Sends.{message_sends, activate_sends, alive_sends}
use Rattle.run_model.proofs.Whole.{stream_one}
use Rattle.run_model.specs.Link.{Link, Phase, is_live, is_up, is_open, is_asked, drop_link, new_link, take_message}
use Rattle.run_model.specs.Link as phase
use Rattle.run_model.specs.Script.{bytes_at}
use Rattle.uds_codec.specs.Request.{sid_of}
use Rattle.unit_model.specs.Feed.{Activation, Accepts, Denies, Delays, Ignores, activation, Activates, Nothing, queue_due}
use Rattle.unit_model.specs.Poll.{ticked}
use Rattle.unit_model.specs.Step.{raise_code}
use Rattle.flash_base.specs.Counts.{one_more}
use Rattle.unit_model.specs.Vehicle.{Gateway, Vehicle}
use Rattle.bay_core.proofs.Sending.{came_out, Refused as refused_request, Heard as heard_request}
use Rattle.outcome_law.proofs.Fairness.{fair_on, nacked_fair, heard_fair, asked_fair}
use Rattle.outcome_law.proofs.Growing.{VehicleGrows, rose_then, up_then, ticks_up}
use Rattle.outcome_law.proofs.Losing.{phase_on, piece_counted, quiet_counted}
use Rattle.outcome_law.proofs.Steps.{moves_grow}
use Rattle.outcome_law.specs.LinkCounting.{is_fault, is_heard_fault, fault_of, has_answer, IsFairFrame, AreFair, IsPhaseCounted, IsLinkCounted}
use Rattle.outcome_law.specs.Rising.{RoseBy, Rose, Grows}
use Rattle.run_model.proofs.Phases.{up_open, asked_open, open_live, dialed_live, up_not_asked}

-- a call that failed
dropped : (l m : Link) (faults : ℕ) (first v w : Vehicle) → m.losses ≡ l.losses → VehicleGrows v w → IsLinkCounted l faults first v → IsLinkCounted (drop_link m) (faults + 1) first w
dropped l m faults first v w same grow is = record {
  losses = record {
    silent = is.losses.silent;
    losses = let a : l.losses ≤ faults + is.losses.silent = is.losses.losses in omega (arith, a, same);
    count = rose_then _ _ _ _ is.losses.count grow.silent;
    awaits = λ x. absurd (false≢true x);
  };
  denials = λ code. up_then _ _ _ (is.denials code) (grow.denied code);
  denied = tt;
  fair = λ lives. absurd (false≢true lives);
}

no_fault : (l : Link) (faults : ℕ) (first w : Vehicle) → IsLinkCounted l faults first w → IsLinkCounted l (faults + 0) first w
no_fault l faults first w is = let e : faults ≡ faults + 0 = omega arith in subst (λ (n : ℕ). IsLinkCounted l n first w) e is

-- another link with the same phase, bytes and losses
alike : (l m : Link) (faults : ℕ) (first w : Vehicle) → m.phase ≡ l.phase → m.losses ≡ l.losses → m.got ≡ l.got → m.rest ≡ l.rest → IsLinkCounted l faults first w → IsLinkCounted m faults first w
alike l m faults first w phase losses got rest is = record {
  losses = record {
    silent = is.losses.silent;
    losses = let a : l.losses ≤ faults + is.losses.silent = is.losses.losses in omega (arith, a, losses);
    count = is.losses.count;
    awaits = λ x. subst (λ (b : List ℕ). (has_answer (stream_of (b ++ w.gateway.ready)).frames ≡ true) ⊎ RoseBy (is.losses.silent + 1) first.gateway.silent w.gateway.silent) (sym rest) (is.losses.awaits (sym (ap is_asked phase) ∙ x));
  };
  denials = is.denials;
  denied = subst (λ (p : Phase). IsPhaseCounted first.gateway.denied w.gateway.denied p) (sym phase) is.denied;
  fair = λ lives. let f = is.fair (sym (ap is_live phase) ∙ lives) in record { ready = subst (λ (b : List ℕ). Each (IsFairFrame first.gateway.denied w.gateway.denied) (stream_of (b ++ w.gateway.ready)).frames) (sym got) f.ready; later = f.later };
}

taken : (a : ℕ) (h : Heard) (l : Link) (faults : ℕ) (first w : Vehicle) → IsLinkCounted l faults first w → IsLinkCounted (taken_link a h l) faults first w
taken a Kept l faults first w is = alike l (take_message a l) faults first w refl refl refl refl is
taken a Quiet l faults first w is = is
taken a (Piece bytes) l faults first w is = alike l (take_message a l) faults first w refl refl refl refl is
taken a Lost l faults first w is = is

-- the link as it was, with another gateway that is as fair
up_counted : (l : Link) (faults : ℕ) (first v w : Vehicle) → is_up l.phase ≡ true → VehicleGrows v w → AreFair first.gateway.denied w.gateway.denied l w.gateway → IsLinkCounted l faults first v → IsLinkCounted l faults first w
up_counted l faults first v w up grow fair is = record {
  losses = record { silent = is.losses.silent; losses = is.losses.losses; count = rose_then _ _ _ _ is.losses.count grow.silent; awaits = λ x. absurd (both_ways _ (up_not_asked l.phase up) x) };
  denials = λ code. up_then _ _ _ (is.denials code) (grow.denied code);
  denied = phase_on first.gateway.denied v.gateway.denied w.gateway.denied l.phase grow.denied is.denied;
  fair = λ lives. fair;
}

-- the answer to an activation request that came first
answered : (tester entity code : ℕ) (rest ready : List ℕ) → rest ≡ [] → ready ≡ [] → has_answer (stream_of (rest ++ (ready ++ activated_bytes tester entity code))).frames ≡ true
answered tester entity code rest ready none nothing =
    let one = stream_one 6 (payload_of (Activated tester entity code None)) (omega arith) refl in
    (λ i. has_answer (stream_of (none i ++ (nothing i ++ activated_bytes tester entity code))).frames) ∙ (λ i. has_answer (one i).frames)

module _ (rules : LinkRules) (P : List UnitPlan) (found : Entry → Bool) (c : Core) (v first : Vehicle) (t0 faults : ℕ) (accepted : IsAccepted P) (joint : IsVehicleJoint rules P found c v t0) (is : IsLinkCounted c.link faults first v) where
  abbrev Goal : Link → ℕ → Vehicle → Type 0
  Goal l n w = IsLinkCounted l (faults + n) first w

  still : (w : Vehicle) → w ≡ v → Goal c.link 0 w
  still w same = subst (λ (x : Vehicle). IsLinkCounted c.link (faults + 0) first x) (sym same) (no_fault c.link faults first v is)

  heard_counted : (h : Heard) (w : Vehicle) → is_open c.link.phase ≡ true → Receives h v w → VehicleGrows v w → Goal (heard_link rules P h c.link) (fault_of (is_heard_fault h v w)) w
  heard_counted Kept w opened did grow = still w did
  heard_counted Quiet w opened did grow =
      subst (λ (x : Vehicle). IsLinkCounted (heard_link rules P Quiet c.link) (faults + 0) first x) (sym did.becomes)
      (no_fault _ faults first (ticked v) (quiet_counted rules.tester c.link first v faults (joint.connected (open_live c.link.phase opened)) opened did.none (ticks_up v (ticked v) (record { none = did.none; becomes = refl })) is))
  heard_counted (Piece bytes) w opened did grow = piece_counted rules P bytes c.link first v w faults (joint.connected (open_live c.link.phase opened)) opened did grow is
  heard_counted Lost w opened did grow = dropped c.link c.link faults first v w refl grow is

  sent_counted : (u number : ℕ) (w : Vehicle) (f : SentFacts P c u number) → FeedsOr false (request_frame rules P c u) v w → VehicleGrows v w → Goal c.link 0 w
  sent_counted u number w f did grow = no_fault c.link faults first w (up_counted c.link faults first v w f.up grow (fair_of how) is)
    where
      fair : AreFair first.gateway.denied w.gateway.denied c.link v.gateway
      fair = fair_on first.gateway.denied v.gateway.denied w.gateway.denied c.link v.gateway grow.denied (is.fair (open_live c.link.phase (up_open c.link.phase f.up)))

      how : refused_request rules.tester (plan_of P u).address (bytes_at (plan_of P u) (c.slots u).talk.place) c.link v w (joint.connected (open_live c.link.phase (up_open c.link.phase f.up))) f.up
          ⊎ heard_request rules.tester (plan_of P u).address (bytes_at (plan_of P u) (c.slots u).talk.place) c.link v w (joint.connected (open_live c.link.phase (up_open c.link.phase f.up))) f.up
      how = came_out rules.tester (plan_of P u).address _ c.link v w (joint.connected (open_live c.link.phase (up_open c.link.phase f.up))) f.up
          (message_sends rules.tester (plan_of P u).address _ v w (sent_can rules P c found v t0 accepted joint u f.below f.request) (between rules c.link v.gateway (joint.connected (open_live c.link.phase (up_open c.link.phase f.up)))) did).handled

      fair_of : refused_request rules.tester (plan_of P u).address (bytes_at (plan_of P u) (c.slots u).talk.place) c.link v w (joint.connected (open_live c.link.phase (up_open c.link.phase f.up))) f.up
          ⊎ heard_request rules.tester (plan_of P u).address (bytes_at (plan_of P u) (c.slots u).talk.place) c.link v w (joint.connected (open_live c.link.phase (up_open c.link.phase f.up))) f.up
          → AreFair first.gateway.denied w.gateway.denied c.link w.gateway
      fair_of (inl r) = subst (λ (g : Gateway). AreFair first.gateway.denied w.gateway.denied c.link g) (sym r.gateway)
          (nacked_fair first.gateway.denied w.gateway.denied rules.tester (plan_of P u).address r.code c.link v.gateway (joint.connected (open_live c.link.phase (up_open c.link.phase f.up))) fair)
      fair_of (inr h) = subst (λ (g : Gateway). AreFair first.gateway.denied w.gateway.denied c.link g) (sym h.gateway)
          (heard_fair first.gateway.denied w.gateway.denied rules.tester (plan_of P u).address (sid_of (bytes_at (plan_of P u) (c.slots u).talk.place)) _ _ c.link v.gateway h.replies (joint.connected (open_live c.link.phase (up_open c.link.phase f.up))) fair h.step.sizes)

  -- the activation was asked for
  asked_counted : (w : Vehicle) (how : Activation) → FreshParts c.link v.gateway → w.gateway ≡ record (activation how rules.tester v).gateway { unfinished = [] } → VehicleGrows v w → Goal (record c.link { phase = phase.Asked; asked = c.link.ticks }) 0 w
  asked_counted w how parts at grow = no_fault (record c.link { phase = phase.Asked; asked = c.link.ticks }) faults first w (record {
    losses = record { silent = is.losses.silent; losses = is.losses.losses; count = rose_then _ _ _ _ is.losses.count grow.silent; awaits = λ x. awaits how parts at };
    denials = λ code. up_then _ _ _ (is.denials code) (grow.denied code);
    denied = tt;
    fair = λ lives.
        let f = asked_fair first.gateway.denied w.gateway.denied rules.tester c.link (record c.link { phase = phase.Asked; asked = c.link.ticks }) v how parts refl (λ code e. rose code e) in
        subst (λ (g : Gateway). AreFair first.gateway.denied w.gateway.denied (record c.link { phase = phase.Asked; asked = c.link.ticks }) g) (sym at) (record { ready = f.ready; later = f.later });
  })
    where
      rose : (code : ℕ) → how ≡ Denies code → Rose (first.gateway.denied code) (w.gateway.denied code)
      rose code e =
          let grows : Grows (first.gateway.denied code) (v.gateway.denied code) = is.denials code in
          let raised : raise_code code v.gateway.denied code ≡ one_more (v.gateway.denied code) = (let same : (code == code) ≡ true = eq-eqb code code refl in rw same refl) in
          let is_now : w.gateway.denied code ≡ one_more (v.gateway.denied code) = ap (λ (g : Gateway). g.denied code) at ∙ ap (λ (a : Activation). (activation a rules.tester v).gateway.denied code) e ∙ raised in
          omega (arith, grows, is_now)

      awaits : (a : Activation) → FreshParts c.link v.gateway → w.gateway ≡ record (activation a rules.tester v).gateway { unfinished = [] } → (has_answer (stream_of (c.link.rest ++ w.gateway.ready)).frames ≡ true) ⊎ RoseBy (is.losses.silent + 1) first.gateway.silent w.gateway.silent
      awaits Accepts (active, ready, later, held, got, rest, inbox) at = inl (ap (λ (g : Gateway). has_answer (stream_of (c.link.rest ++ g.ready)).frames) at ∙ answered rules.tester v.gateway.entity 16 c.link.rest v.gateway.ready rest ready)
      awaits (Denies code) (active, ready, later, held, got, rest, inbox) at = inl (ap (λ (g : Gateway). has_answer (stream_of (c.link.rest ++ g.ready)).frames) at ∙ answered rules.tester v.gateway.entity code c.link.rest v.gateway.ready rest ready)
      awaits (Delays ticks) parts at = inr (let now : w.gateway.silent ≡ one_more v.gateway.silent = ap (λ (g : Gateway). g.silent) at in let was = is.losses.count in omega (arith, now, was))
      awaits Ignores parts at = inr (let now : w.gateway.silent ≡ one_more v.gateway.silent = ap (λ (g : Gateway). g.silent) at in let was = is.losses.count in omega (arith, now, was))

  tended_counted : (step : Tend) (w : Vehicle) → fits_link c step ≡ true → Tends rules step v w → VehicleGrows v w → Goal (tended_link rules P step c.link) (fault_of (is_fault (Tended step) v w)) w
  tended_counted (Dialed true) w may did grow = dropped c.link (new_link c.link) faults first v w refl grow is
  tended_counted (Dialed false) w may did grow = no_fault (new_link c.link) faults first w (record {
    losses = record { silent = is.losses.silent; losses = is.losses.losses; count = rose_then _ _ _ _ is.losses.count grow.silent; awaits = λ x. absurd (false≢true x) };
    denials = λ code. up_then _ _ _ (is.denials code) (grow.denied code);
    denied = tt;
    fair = λ lives. subst (λ (g : Gateway). AreFair first.gateway.denied w.gateway.denied (new_link c.link) g) (sym (ap (λ (x : Vehicle). x.gateway) did)) (record { ready = tt; later = tt });
  })
  tended_counted (Asked true) w may did grow = dropped c.link (record c.link { phase = phase.Asked; asked = c.link.ticks }) faults first v w refl grow is
  tended_counted (Asked false) w may did grow =
      let now = joint.connected (dialed_live c.link.phase may) in
      let h = (activate_sends rules.tester v w (between rules c.link v.gateway now) did).handled in
      let a : Activates rules.tester v h.mid h.out = h.handles in
      asked_counted w a.how (fresh_parts rules.tester c.link.phase c.link v.gateway may now.phase)
      (ap (λ (x : Vehicle). x.gateway) (h.becomes ∙ (λ j. record (a.becomes j) { gateway = queue_due (record (a.becomes j).gateway { unfinished = [] }) (a.none j) }))) grow
  tended_counted (Said true) w may did grow = dropped c.link (record c.link { owes = false }) faults first v w refl grow is
  tended_counted (Said false) w may did grow =
      let up = (and_parts _ _ may).0 in
      let live = open_live c.link.phase (up_open c.link.phase up) in
      let h = (alive_sends rules.tester v w (between rules c.link v.gateway (joint.connected live)) did).handled in
      let a : Nothing v h.mid h.out = h.handles in
      let at : w.gateway ≡ record v.gateway { unfinished = [] } = ap (λ (x : Vehicle). x.gateway) (h.becomes ∙ (λ j. record (a.becomes j) { gateway = queue_due (record (a.becomes j).gateway { unfinished = [] }) (a.none j) })) in
      let f = fair_on first.gateway.denied v.gateway.denied w.gateway.denied c.link v.gateway grow.denied (is.fair live) in
      no_fault (record c.link { owes = false }) faults first w (alike c.link (record c.link { owes = false }) faults first w refl refl refl refl
      (up_counted c.link faults first v w up grow (subst (λ (g : Gateway). AreFair first.gateway.denied w.gateway.denied c.link g) (sym at) (record { ready = f.ready; later = f.later })) is))
  tended_counted (Polled Kept) w may did grow = absurd (false≢true may)
  tended_counted (Polled Quiet) w may did grow = heard_counted Quiet w (asked_open c.link.phase may) did grow
  tended_counted (Polled (Piece bytes)) w may did grow = heard_counted (Piece bytes) w (asked_open c.link.phase may) did grow
  tended_counted (Polled Lost) w may did grow = heard_counted Lost w (asked_open c.link.phase may) did grow

  pub link_step : (e : Event) (w : Vehicle) → is_allowed P c e ≡ true → MovesVehicle rules P c e v w → Goal (link_after rules P e c.link) (fault_of (is_fault e v w)) w
  link_step (Claimed u) w ok did = still w did
  link_step (Began u) w ok did = still w did
  link_step (Sent u number true) w ok did = dropped c.link c.link faults first v w refl (moves_grow rules P c (Sent u number true) v w did) is
  link_step (Sent u number false) w ok did = sent_counted u number w (sent_facts P c u number false ok) did (moves_grow rules P c (Sent u number false) v w did)
  link_step (Collected u h) w ok did =
      let f = collected_facts P c u h ok in
      taken (plan_of P u).address h (heard_link rules P h c.link) (faults + fault_of (is_heard_fault h v w)) first w (heard_counted h w (up_open c.link.phase f.up) did (moves_grow rules P c (Collected u h) v w did))
  link_step (Tended step) w ok did = tended_counted step w (and_parts _ _ ok).1 did (moves_grow rules P c (Tended step) v w did)
  link_step (Marked u s) w ok did = still w did
  link_step (Completed u) w ok did = still w did
  link_step (DiskFailed u entry) w ok did = still w did
  link_step (Ended u why) w ok did = still w did
