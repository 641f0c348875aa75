-- A unit whose answer is awaited, where what is on the way from it stays.
use Rattle.std.proofs.Common.{◌≡◌, ◌⊎◌, inl, inr, ℕ, ◌+◌, ◌<◌, ◌≤◌, true, List, [], ◌∷◌, ◌++◌, Some, None, refl, sym, ◌∙◌, ap, subst, arith}
use Rattle.std.specs.Prelude.{Bool, Option, is_some}
use Rattle.std.proofs.lemmas.Bool.{both_ways}
use Rattle.std.proofs.lemmas.List.{append-nil}
use Rattle.bay_core.proofs.Piecing.{live_stays_open}
use Rattle.bay_core.proofs.Takes.{others_keep}
use Rattle.bay_core.specs.Joint.{held_of}
use Rattle.doip_frame.proofs.Streams.{split}
use Rattle.doip_frame.specs.Frame.{Stream, stream_of}
use Rattle.doip_frame.specs.declared.frame.Bad.{Bad}
use Rattle.flash_base.specs.Lists.{Each}
use Rattle.flash_plan.specs.declared.unit.UnitPlan.{UnitPlan}
use Rattle.run_model.proofs.Pieces.{piece_way}
use Rattle.run_model.proofs.Sees.{piece_keeps, piece_lives}
use Rattle.run_model.specs.Connected.{IsConnected}
use Rattle.run_model.specs.Link.{Link, is_live, is_open, is_known, hear_piece, take_message}
use Rattle.run_model.specs.States.{SameButCounts}
use Rattle.run_model.specs.Talk.{Talk}
use Rattle.run_model.specs.Ways.{UnitMessage, messages_from, messages_in, messages_later, messages_held, on_way}
use Rattle.unit_model.proofs.Units.{SameState, SameIn}
use Rattle.unit_model.specs.Poll.{IsShown, IsPlain, IsSeen}
use Rattle.unit_model.specs.Step.{is_late, Departure, Refuses, Odd, Fails, Mutes, Busies}
use Rattle.unit_model.specs.Unit.{ControlUnit, Counts}
use Rattle.unit_model.specs.Vehicle.{HeldAnswer, Gateway, Vehicle, unit_at}
use Rattle.outcome_law.proofs.Growing.{rose_then}
use Rattle.outcome_law.specs.Counting.{Kept, KeptIn, IsCounted, IsHeardCounted, IsAwaitCounted, dues, come, IsOnTime, IsTimed}
use Rattle.outcome_law.specs.Rising.{Rose, CountsGrow}

-- ------ only counts rise
pub but_counts : (old u w : ControlUnit) → SameState u w → SameButCounts old u → SameButCounts old w
but_counts old u w same s = record { same = same.same ∙ (λ i. record (s.same i) { counts = w.counts }) ∙ (λ i. record old { heard = ap (λ (x : ControlUnit). x.heard) (sym same.same) i; counts = w.counts }) }

counted_on : (kind : Departure) (busies : ℕ) (a b c : Counts) → CountsGrow b c → IsCounted kind busies a b → IsCounted kind busies a c
counted_on (Refuses nrc) busies a b c grow rose = rose_then 1 _ _ _ rose (grow.refused nrc)
counted_on (Odd body) busies a b c grow rose = rose_then 1 _ _ _ rose grow.odd
counted_on (Fails body) busies a b c grow rose = rose_then 1 _ _ _ rose grow.failed
counted_on Mutes busies a b c grow rose = rose_then 1 _ _ _ rose grow.muted
counted_on Busies busies a b c grow rose = rose_then (busies + 1) _ _ _ rose grow.busy

pub heard_on : (plan : UnitPlan) (found : ℕ → Bool) (t : Talk) (first : ControlUnit) (held held2 : List HeldAnswer) (way way2 : List UnitMessage) (u w : ControlUnit) → SameState u w → Kept u w → way2 ≡ way → ((one : HeldAnswer) → held2 ≡ one ∷ [] → held ≡ one ∷ [])
    → IsHeardCounted plan found t first held way u → IsHeardCounted plan found t first held2 way2 w
heard_on plan found t first held held2 way way2 u w same kept is back h = record {
  before = h.before;
  said = h.said;
  pending = h.pending;
  state = h.state;
  takes = h.takes;
  make = h.make;
  step = elim h.step [
    | inl o ↦ inl (record { said_is = o.said_is; state = but_counts _ u w same o.state })
    | inr d ↦ inr (record { kind = d.0.kind; mid = d.0.mid; is = d.0.is; leaves = d.0.leaves; said_is = d.0.said_is; state = but_counts d.0.mid u w same d.0.state }, counted_on d.0.kind t.busies first.counts u.counts w.counts kept.counts d.1)
  ];
  on_way = is ∙ h.on_way;
  patience = elim h.patience [ inl le ↦ inl le | inr rose ↦ inr (rose_then 1 _ _ _ rose kept.counts.stalled) ];
  holding = λ one e. let x = h.holding one (back one e) in (x.0, elim x.1 [ inl le ↦ inl le | inr rose ↦ inr (rose_then 1 _ _ _ rose kept.counts.stalled) ]);
}

pub awaits_on : (plan : UnitPlan) (found : ℕ → Bool) (t : Talk) (held held2 : List HeldAnswer) (way way2 : List UnitMessage) (first now now2 : Option ControlUnit) → SameIn now now2 → KeptIn now now2 → way2 ≡ way → ((one : HeldAnswer) → held2 ≡ one ∷ [] → held ≡ one ∷ [])
    → IsAwaitCounted plan found t held way first now → IsAwaitCounted plan found t held2 way2 first now2
awaits_on plan found t held held2 way way2 None None None same kept is back a = is ∙ a
awaits_on plan found t held held2 way way2 None None (Some w) same kept is back a = absurd same
awaits_on plan found t held held2 way way2 None (Some u) now2 same kept is back a = absurd a
awaits_on plan found t held held2 way way2 (Some f) None now2 same kept is back a = absurd a
awaits_on plan found t held held2 way way2 (Some f) (Some u) None same kept is back a = absurd same
awaits_on plan found t held held2 way way2 (Some f) (Some u) (Some w) same kept is back (inl m) = inl (record { code = m.code; on_way = is ∙ m.on_way; count = rose_then 1 _ _ _ m.count (kept.counts.nacked m.code) })
awaits_on plan found t held held2 way way2 (Some f) (Some u) (Some w) same kept is back (inr h) = inr (heard_on plan found t f held held2 way way2 u w same kept is back h)

-- what has come late stays counted; else the times go on, or it is counted now
pub timed_on : (tester a sent sent2 : ℕ) (inbox inbox2 : List (ℕ × UnitMessage)) (rest rest2 : List ℕ) (g g2 : Gateway) (first now now2 : Option ControlUnit) → KeptIn now now2 → (messages_later tester a g.later ≡ [] → messages_later tester a g2.later ≡ [])
    → ((f u w : ControlUnit) → first ≡ Some f → now ≡ Some u → now2 ≡ Some w → IsOnTime tester a sent inbox rest g → Rose f.counts.late w.counts.late ⊎ IsOnTime tester a sent2 inbox2 rest2 g2)
    → IsTimed tester a sent inbox rest g first now → IsTimed tester a sent2 inbox2 rest2 g2 first now2
timed_on tester a sent sent2 inbox inbox2 rest rest2 g g2 None now now2 kept later on is = later is
timed_on tester a sent sent2 inbox inbox2 rest rest2 g g2 (Some f) None now2 kept later on is = absurd is
timed_on tester a sent sent2 inbox inbox2 rest rest2 g g2 (Some f) (Some u) None kept later on is = absurd kept
timed_on tester a sent sent2 inbox inbox2 rest rest2 g g2 (Some f) (Some u) (Some w) kept later on (inl rose) = inl (rose_then 1 _ _ _ rose kept.counts.late)
timed_on tester a sent sent2 inbox inbox2 rest rest2 g g2 (Some f) (Some u) (Some w) kept later on (inr t) = on f u w refl refl refl t

-- ------ what is on the way stays, part by part
pub record IsStillOn (tester a : ℕ) (inbox inbox2 : List (ℕ × UnitMessage)) (rest rest2 : List ℕ) (g g2 : Gateway) : Type 0 where
  pub way : on_way tester a inbox2 rest2 g2 ≡ on_way tester a inbox rest g
  pub came : come tester a inbox2 rest2 g2 ≡ [] → come tester a inbox rest g ≡ []
  pub due : dues tester a g2.later ≡ dues tester a g.later
  pub later : messages_later tester a g2.later ≡ messages_later tester a g.later
  pub holds : (one : HeldAnswer) → held_of a g2.held ≡ one ∷ [] → held_of a g.held ≡ one ∷ []
  pub tick : g2.tick ≡ g.tick

pub still_on : (tester a sent : ℕ) (inbox inbox2 : List (ℕ × UnitMessage)) (rest rest2 : List ℕ) (g g2 : Gateway) → IsStillOn tester a inbox inbox2 rest rest2 g g2 → IsOnTime tester a sent inbox rest g → IsOnTime tester a sent inbox2 rest2 g2
still_on tester a sent inbox inbox2 rest rest2 g g2 s t = record {
  last = t.last;
  past = subst (λ (n : ℕ). t.last ≤ n) (sym s.tick) t.past;
  after = subst (λ (x : ℕ × List ℕ). Each (λ d. x.0 < d) x.1) (λ i. (sym s.tick i, sym s.due i)) t.after;
  taken = λ e. t.taken (s.came e);
  next = ap (is_late t.last) s.due ∙ t.next;
  held = λ one e. let x = t.held one (s.holds one e) in record { some = x.some; from = x.from; turn = x.turn; next = subst (λ (n : ℕ). n < t.last + one.every) (sym s.tick) x.next; early = subst (λ (n : ℕ). (one.every < 1000) ⊎ (n < one.from + 1000)) (sym s.tick) x.early };
}

-- one unit's part of what is counted, while its answer is awaited
pub record IsAwaited (tester : ℕ) (plan : UnitPlan) (found : ℕ → Bool) (t0 : ℕ) (t : Talk) (l : Link) (first now : Vehicle) : Type 0 where
  pub awaits : IsAwaitCounted plan found t (held_of plan.address now.gateway.held) (on_way tester plan.address l.inbox l.rest now.gateway) (unit_at first.units plan.address) (unit_at now.units plan.address)
  pub timed : IsTimed tester plan.address (t0 + t.since) l.inbox l.rest now.gateway (unit_at first.units plan.address) (unit_at now.units plan.address)

pub still_awaited : (tester : ℕ) (plan : UnitPlan) (found : ℕ → Bool) (t0 : ℕ) (t : Talk) (l l2 : Link) (first v w : Vehicle) → IsStillOn tester plan.address l.inbox l2.inbox l.rest l2.rest v.gateway w.gateway
    → SameIn (unit_at v.units plan.address) (unit_at w.units plan.address) → KeptIn (unit_at v.units plan.address) (unit_at w.units plan.address) → IsAwaited tester plan found t0 t l first v → IsAwaited tester plan found t0 t l2 first w
still_awaited tester plan found t0 t l l2 first v w s same kept is = record {
  awaits = awaits_on plan found t _ _ _ _ _ _ _ same kept s.way s.holds is.awaits;
  timed = timed_on tester plan.address (t0 + t.since) (t0 + t.since) l.inbox l2.inbox l.rest l2.rest v.gateway w.gateway _ _ _ kept (λ e. s.later ∙ e)
      (λ f u x a b c on. inr (still_on tester plan.address (t0 + t.since) l.inbox l2.inbox l.rest l2.rest v.gateway w.gateway s on)) is.timed;
}

-- ------ a word of another unit is taken
pub other_taken : (tester a b : ℕ) (l : Link) (g : Gateway) → (a ≡ b → ⊥) → IsStillOn tester a l.inbox (take_message b l).inbox l.rest l.rest g g
other_taken tester a b l g apart = record {
  way = λ i. others_keep b a l.inbox apart i ++ (messages_in tester a (stream_of (l.rest ++ g.ready)).frames ++ (messages_later tester a g.later ++ messages_held a g.held));
  came = λ e. (λ i. sym (others_keep b a l.inbox apart) i ++ messages_in tester a (stream_of (l.rest ++ g.ready)).frames) ∙ e;
  due = refl;
  later = refl;
  holds = λ one e. e;
  tick = refl;
}

-- ------ a piece after which the link lives
abbrev bare : Gateway → Gateway
bare g = record g { later = []; held = [] }

bare_way : (tester a : ℕ) (inbox : List (ℕ × UnitMessage)) (rest : List ℕ) (g : Gateway) → on_way tester a inbox rest (bare g) ≡ come tester a inbox rest g
bare_way tester a inbox rest g = ap (λ (ws : List UnitMessage). messages_from a inbox ++ ws) (append-nil (messages_in tester a (stream_of (rest ++ g.ready)).frames))

pub piece_on : (tester : ℕ) (units : List ℕ) (a : ℕ) (piece : List ℕ) (l : Link) (v v2 : Vehicle) → is_known units a ≡ true → is_open l.phase ≡ true → is_live (hear_piece tester units piece l).phase ≡ true → IsConnected tester l v.gateway → IsShown piece v v2
    → IsStillOn tester a l.inbox (hear_piece tester units piece l).inbox l.rest (hear_piece tester units piece l).rest v.gateway v2.gateway
piece_on tester units a piece l v v2 known opened lives c shown = record {
  way = ways v.gateway v2.gateway ready later held;
  came = λ e. sym (bare_way tester a l.inbox l.rest v.gateway) ∙ sym (ways (bare v.gateway) (bare v2.gateway) ready refl refl) ∙ bare_way tester a (hear_piece tester units piece l).inbox (hear_piece tester units piece l).rest v2.gateway ∙ e;
  due = ap (dues tester a) later;
  later = ap (messages_later tester a) later;
  holds = λ one e. ap (held_of a) (sym held) ∙ e;
  tick = ap (λ (x : Vehicle). x.gateway.tick) shown.carries.becomes;
}
  where
    later : v2.gateway.later ≡ v.gateway.later
    later = ap (λ (x : Vehicle). x.gateway.later) shown.carries.becomes

    held : v2.gateway.held ≡ v.gateway.held
    held = ap (λ (x : Vehicle). x.gateway.held) shown.carries.becomes

    ways : (g g2 : Gateway) → g.ready ≡ piece ++ g2.ready → g2.later ≡ g.later → g2.held ≡ g.held → on_way tester a (hear_piece tester units piece l).inbox (hear_piece tester units piece l).rest g2 ≡ on_way tester a l.inbox l.rest g
    ways g g2 r la h = piece_way tester units a known piece l g g2 opened (live_stays_open tester units piece l opened lives) (piece_lives tester units piece l opened lives).0 (piece_keeps tester units piece l).rest r la h

    ready : v.gateway.ready ≡ piece ++ v2.gateway.ready
    ready = go shown.how
      where
        got_bad : (stream_of (l.got ++ piece)).bad ≡ (stream_of (l.rest ++ piece)).bad
        got_bad = ap (λ (x : Stream). x.bad) (split l.got piece c.bad) ∙ ap (λ (x : List ℕ). (stream_of (x ++ piece)).bad) c.rest

        carried : v2.gateway.carried ≡ l.got ++ piece
        carried = ap (λ (x : Vehicle). x.gateway.carried) shown.carries.becomes ∙ ap (λ (x : List ℕ). x ++ piece) c.carried

        go : IsPlain piece v v2 ⊎ IsSeen piece v v2 → v.gateway.ready ≡ piece ++ v2.gateway.ready
        go (inl plain) = plain.ready
        go (inr bad) = absurd (both_ways _ (ap (is_some {T = Bad}) (ap (λ (x : List ℕ). (stream_of x).bad) carried ∙ got_bad ∙ (piece_lives tester units piece l opened lives).0)) bad.is_bad)

-- ------ the word in front is taken, and the unit still awaited: what comes next is counted from now
pub own_taken : (tester a sent now_tick : ℕ) (l : Link) (g : Gateway) (first now : Option ControlUnit) → KeptIn now now → g.tick ≤ now_tick → IsTimed tester a sent l.inbox l.rest g first now → IsTimed tester a now_tick (take_message a l).inbox l.rest g first now
own_taken tester a sent now_tick l g first now kept le is = timed_on tester a sent now_tick l.inbox (take_message a l).inbox l.rest l.rest g g first now now kept (λ e. e)
    (λ f u w x y z t. inr (record { last = t.last; past = t.past; after = t.after; taken = λ e. let p : t.last ≤ g.tick = t.past in omega (arith, p, le); next = t.next; held = t.held })) is
