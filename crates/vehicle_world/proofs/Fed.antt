-- What a feed makes of a simulated vehicle is what it may make of the vehicle.
use Rattle.std.proofs.Common.{◌≡◌, ℕ, zero, suc, Bool, true, false, List, [], ◌++◌, map, take, Some, None, Option, refl, sym, ◌∙◌, ap, subst}
use Rattle.std.specs.Prelude.{MatchBool, if◌then◌else◌}
use Rattle.doip_frame.specs.declared.frame.Bad.{Bad}
use Rattle.doip_frame.specs.declared.frame.Bad.TheVariants.{Failed}
use Rattle.doip_frame.specs.declared.frame.Frame.{Frame}
use Rattle.doip_frame.specs.Deframe.{frames_in, bad_in, held_after, kept}
use Rattle.doip_frame.specs.Frame.{Partial, Stream, cut_frame, stream_of, header_nack_bytes, nack_code}
use Rattle.unit_model.specs.Feed.{DueReply, Feeds, FeedsHearing, queue_due}
use Rattle.unit_model.specs.Vehicle.{Gateway, Vehicle, redialed}
use Rattle.gateway_sim.specs.Feeding.{at_front, cut_off, ended}
use Rattle.gateway_sim.specs.Fronts.{is_deaf, unfinished_of}
use Rattle.gateway_sim.specs.Gates.{Gate, front_of}
use Rattle.gateway_sim.specs.Handling.{refusing}
use Rattle.vehicle_world.specs.Feeding.{all_queued, frames_done, state_fed}
use Rattle.vehicle_world.specs.Running.{Runs, Went, WentAll, WentPart}
use Rattle.vehicle_world.specs.States.{State, forgotten, unit_in, vehicle_in}
use Rattle.vehicle_world.specs.Worlds.{FeedsBroken}
use Rattle.vehicle_world.proofs.Fronts.{fronted, all_fronted}
use Rattle.vehicle_world.proofs.Kept.{Keeps, frames_keep, queued_held, queued_cleared, queued_tick, refused_tick, with_held}
use Rattle.vehicle_world.proofs.Prefixes.{Prefix, prefix}
use Rattle.vehicle_world.proofs.Refusals.{IsOfHeader, of_header, refusal_is}
use Rattle.vehicle_world.proofs.Streaming.{fed, finish}

finish_is : (bad : Option Bad) (rest held : List ℕ) (s : State) → IsOfHeader bad → s.gate.gateway.deaf ≡ is_deaf (kept bad rest) → s.gate.gateway.unfinished ≡ unfinished_of (kept bad rest)
    → with_held s.held (refusing bad s.gate).gateway ≡ (finish bad rest (fronted false held (vehicle_in s))).gateway
finish_is None rest held s is deaf unfinished = λ i. record (with_held s.held s.gate.gateway) { deaf = deaf i; unfinished = unfinished i }
finish_is (Some bad) rest held s is deaf unfinished =
    ap (λ (g : Gate). with_held s.held g.gateway) (refusal_is bad s.gate is)
    ∙ (λ i. record (with_held s.held s.gate.gateway) { ready = s.gate.gateway.ready ++ header_nack_bytes (nack_code bad); deaf = deaf i; unfinished = unfinished i })

finish_cleared : (bad : Option Bad) (rest held : List ℕ) (s : State) → redialed (finish bad rest (fronted false held (vehicle_in s))) ≡ forgotten s
finish_cleared None rest held s = refl
finish_cleared (Some bad) rest held s = refl

module _ (bytes : List ℕ) (old : State) where
  abbrev g : Gateway
  g = old.gate.gateway

  abbrev at : Option (List ℕ) → State
  at front = record old { gate = at_front (held_after front bytes) old.gate }

  front_deaf : g.deaf ≡ true → front_of g ≡ None
  front_deaf e = ap (λ (b : Bool). if b then None else Some g.unfinished) e

  front_hears : g.deaf ≡ false → front_of g ≡ Some g.unfinished
  front_hears e = ap (λ (b : Bool). if b then None else Some g.unfinished) e

  -- from the vehicle before
  from_old : (fs : List Frame) (now : State) (out : List DueReply) → g.deaf ≡ false → Runs fs (vehicle_in (at (Some g.unfinished))) (vehicle_in now) out → Runs fs (vehicle_in old) (fronted false g.unfinished (vehicle_in now)) out
  from_old fs now out e runs =
      subst (λ (v : Vehicle). Runs fs v (fronted false g.unfinished (vehicle_in now)) out) (λ i. fronted (sym e i) g.unfinished (vehicle_in old))
      (all_fronted false g.unfinished fs (vehicle_in (at (Some g.unfinished))) (vehicle_in now) out runs)

  -- ------ all was fed
  unheard : (new : State) → g.deaf ≡ true → g.unfinished ≡ [] → WentAll [] (Some Failed) (at None) new → vehicle_in new ≡ vehicle_in old
  unheard new e none w =
      ap vehicle_in w.becomes
      ∙ (λ i. vehicle_in (record w.mid { gate = all_queued (w.went.replies i) w.mid.gate }))
      ∙ ap vehicle_in w.went.state
      ∙ (λ i. fronted (sym e i) (sym none i) (vehicle_in old))

  heard : (new : State) → g.deaf ≡ false → (s : Stream) → stream_of (g.unfinished ++ bytes) ≡ s → WentAll s.frames s.bad (at (Some g.unfinished)) new → FeedsHearing bytes (vehicle_in old) (vehicle_in new)
  heard new e s is w =
      let all : Stream = stream_of (g.unfinished ++ bytes) in
      let b : Vehicle = fronted false g.unfinished (vehicle_in w.mid) in
      let runs : Runs all.frames (vehicle_in old) b w.out = subst (λ (t : Stream). Runs t.frames (vehicle_in old) b w.out) (sym is) (from_old s.frames w.mid w.out e w.went.runs) in
      let k : Keeps (at (Some g.unfinished)).gate.gateway (frames_done s.frames (at (Some g.unfinished))).0.gate.gateway = frames_keep s.frames (at (Some g.unfinished)) in
      let deaf : w.mid.gate.gateway.deaf ≡ is_deaf (kept all.bad all.rest) = ap (λ (x : State). x.gate.gateway.deaf) w.went.state ∙ k.deaf in
      let unfinished : w.mid.gate.gateway.unfinished ≡ unfinished_of (kept all.bad all.rest) = ap (λ (x : State). x.gate.gateway.unfinished) w.went.state ∙ k.unfinished in
      let front : with_held w.mid.held (refusing all.bad w.mid.gate).gateway ≡ (finish all.bad all.rest b).gateway = finish_is all.bad all.rest g.unfinished w.mid (of_header (g.unfinished ++ bytes)) deaf unfinished in
      let gate : with_held w.mid.held (all_queued w.out (refusing s.bad w.mid.gate)).gateway ≡ queue_due (finish all.bad all.rest b).gateway w.out =
      queued_held w.mid.held w.out (refusing s.bad w.mid.gate)
      ∙ ap (λ (t : Stream). queue_due (with_held w.mid.held (refusing t.bad w.mid.gate).gateway) w.out) (sym is)
      ∙ ap (λ (h : Gateway). queue_due h w.out) front in
      let same : vehicle_in new ≡ record (finish all.bad all.rest b) { gateway = queue_due (finish all.bad all.rest b).gateway w.out } =
      ap vehicle_in w.becomes ∙ (λ i. record { gateway = gate i; units = map unit_in w.mid.sims }) ∙ units_same all.bad all.rest w.mid (queue_due (finish all.bad all.rest b).gateway w.out) in
      subst (λ (v : Vehicle). FeedsHearing bytes (vehicle_in old) v) (sym same) (fed bytes (vehicle_in old) b w.out runs)
    where
      units_same : (bad : Option Bad) (rest : List ℕ) (m : State) (h : Gateway) → record { gateway = h; units = map unit_in m.sims } ≡ record (finish bad rest (fronted false g.unfinished (vehicle_in m))) { gateway = h }
      units_same None rest m h = refl
      units_same (Some bad) rest m h = refl

  pub feeds : (new : State) → (g.deaf ≡ true → g.unfinished ≡ []) → WentAll (ended old.gate bytes) (bad_in (front_of g) bytes) (record old { gate = cut_off old.gate bytes }) new → Feeds bytes (vehicle_in old) (vehicle_in new)
  feeds new none w = go g.deaf refl
    where
      moved : (front : Option (List ℕ)) → front_of g ≡ front → WentAll (frames_in front bytes) (bad_in front bytes) (at front) new
      moved front is = subst (λ (o : Option (List ℕ)). WentAll (frames_in o bytes) (bad_in o bytes) (at o) new) is w

      go : (deaf : Bool) → g.deaf ≡ deaf → MatchBool deaf (vehicle_in new ≡ vehicle_in old) (FeedsHearing bytes (vehicle_in old) (vehicle_in new))
      go true e = unheard new e (none e) (moved None (front_deaf e))
      go false e = heard new e (stream_of (g.unfinished ++ bytes)) refl (moved (Some g.unfinished) (front_hears e))

  pub fed_is : (new : State) → WentAll (ended old.gate bytes) (bad_in (front_of g) bytes) (record old { gate = cut_off old.gate bytes }) new → new ≡ state_fed bytes old
  fed_is new w = w.becomes ∙ (λ i. record (w.went.state i) { gate = all_queued (w.went.replies i) (refusing (bad_in (front_of g) bytes) (w.went.state i).gate) })

  pub tick_same : (fs : List Frame) (now : State) (out : List DueReply) → Went fs (record old { gate = cut_off old.gate bytes }) now out → now.gate.gateway.tick ≡ g.tick
  tick_same fs now out w = ap (λ (s : State). s.gate.gateway.tick) w.state ∙ (frames_keep fs (record old { gate = cut_off old.gate bytes })).tick

  pub all_tick : (fs : List Frame) (bad : Option Bad) (new : State) → WentAll fs bad (record old { gate = cut_off old.gate bytes }) new → new.gate.gateway.tick ≡ g.tick
  all_tick fs bad new w =
      ap (λ (s : State). s.gate.gateway.tick) w.becomes
      ∙ queued_tick w.out (refusing bad w.mid.gate)
      ∙ refused_tick bad w.mid.gate
      ∙ tick_same fs w.mid w.out w.went

  -- ------ a part was fed
  part_unheard : (new : Vehicle) → g.deaf ≡ true → WentPart [] (at None) new → FeedsBroken bytes (vehicle_in old) new
  part_unheard new e w = record {
    count = 0;
    mid = vehicle_in old;
    feeds = subst (λ (deaf : Bool). MatchBool deaf (vehicle_in old ≡ vehicle_in old) (FeedsHearing [] (vehicle_in old) (vehicle_in old))) (sym e) refl;
    broken = w.leaves ∙ ap forgotten (start w.count w.now w.out w.went);
  }
    where
      start : (n : ℕ) (now : State) (out : List DueReply) → Went (take n []) (at None) now out → now ≡ at None
      start zero now out t = t.state
      start (suc n) now out t = t.state

  part_heard : (new : Vehicle) → g.deaf ≡ false → cut_frame g.unfinished ≡ Partial → WentPart (stream_of (g.unfinished ++ bytes)).frames (at (Some g.unfinished)) new → FeedsBroken bytes (vehicle_in old) new
  part_heard new e part w =
      let p : Prefix g.unfinished bytes (take w.count (stream_of (g.unfinished ++ bytes)).frames) = prefix g.unfinished bytes w.count part in
      let t : Stream = stream_of (g.unfinished ++ take p.count bytes) in
      let b : Vehicle = fronted false g.unfinished (vehicle_in w.now) in
      let runs : Runs t.frames (vehicle_in old) b w.out = subst (λ (fs : List Frame). Runs fs (vehicle_in old) b w.out) (sym (ap (λ (x : Stream). x.frames) p.is)) (from_old _ w.now w.out e w.went.runs) in
      let v : Vehicle = finish t.bad t.rest b in
      record {
        count = p.count;
        mid = record v { gateway = queue_due v.gateway w.out };
        feeds = subst (λ (deaf : Bool). MatchBool deaf (record v { gateway = queue_due v.gateway w.out } ≡ vehicle_in old) (FeedsHearing (take p.count bytes) (vehicle_in old) (record v { gateway = queue_due v.gateway w.out }))) (sym e)
            (fed (take p.count bytes) (vehicle_in old) b w.out runs);
        broken = w.leaves ∙ sym (queued_cleared w.out v ∙ finish_cleared t.bad t.rest g.unfinished w.now);
      }

  pub broken : (new : Vehicle) → cut_frame g.unfinished ≡ Partial → WentPart (ended old.gate bytes) (record old { gate = cut_off old.gate bytes }) new → FeedsBroken bytes (vehicle_in old) new
  broken new part w = go g.deaf refl
    where
      moved : (front : Option (List ℕ)) → front_of g ≡ front → WentPart (frames_in front bytes) (at front) new
      moved front is = subst (λ (o : Option (List ℕ)). WentPart (frames_in o bytes) (at o) new) is w

      go : (deaf : Bool) → g.deaf ≡ deaf → FeedsBroken bytes (vehicle_in old) new
      go true e = part_unheard new e (moved None (front_deaf e))
      go false e = part_heard new e part (moved (Some g.unfinished) (front_hears e))

-- ------ what was cut
pub deaf_none : (front : Option (List ℕ)) → is_deaf front ≡ true → unfinished_of front ≡ []
deaf_none None e = refl
deaf_none (Some held) e = let p : ⊥ = cc in absurd p

pub moved_all : (fs gs : List Frame) (bad bad' : Option Bad) (mid cut new : State) → fs ≡ gs → bad ≡ bad' → mid ≡ cut → WentAll fs bad mid new → WentAll gs bad' cut new
moved_all fs gs bad bad' mid cut new fs_is bad_is mid_is w = subst (λ (p : List Frame × Option Bad × State). WentAll p.0 p.1 p.2 new) (λ i. (fs_is i, bad_is i, mid_is i)) w

pub moved_part : (fs gs : List Frame) (mid cut : State) (old new : Vehicle) → fs ≡ gs → mid ≡ cut → new ≡ old → WentPart fs mid old → WentPart gs cut new
moved_part fs gs mid cut old new fs_is mid_is new_is w = subst (λ (p : List Frame × State). WentPart p.0 p.1 new) (λ i. (fs_is i, mid_is i)) (record { count = w.count; now = w.now; out = w.out; went = w.went; leaves = new_is ∙ w.leaves })
