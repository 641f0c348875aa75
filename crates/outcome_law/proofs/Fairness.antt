-- What the gateway has said and queued stays fair: no header refused, and each denial counted.
use Rattle.std.proofs.Common.{◌≡◌, ◌⊎◌, inl, inr, ℕ, ◌+◌, List, [], ◌∷◌, ◌++◌, None, refl, sym, ◌∙◌, ap, subst, arith, append_assoc}
use Rattle.std.specs.Prelude.{Bool, ◌&&◌, nat_le, filter, is_some}
use Rattle.std.proofs.lemmas.Bool.{cases_Bool}
use Rattle.std.proofs.lemmas.List.{append-nil}
use Rattle.bay_core.proofs.Addressed.{got_whole}
use Rattle.bay_core.proofs.Queueing.{released_bytes, filter_can}
use Rattle.doip_frame.specs.Frame.{Stream, stream_of, message_bytes, ack_bytes, nack_bytes, activated_bytes, payload_of}
use Rattle.doip_frame.specs.declared.frame.Frame.TheVariants.{HeaderNack, Activate, Activated, AliveAsk, AliveSay, Message, Ack, Nack, Other}
use Rattle.doip_frame.specs.declared.frame.Frame.{Frame}
use Rattle.flash_base.specs.Lists.{Each}
use Rattle.run_model.proofs.Connected.{FreshParts, pending_can}
use Rattle.run_model.proofs.Gateway.{all_append}
use Rattle.run_model.proofs.Replies.{queue_reply, queue_replies}
use Rattle.run_model.proofs.Whole.{stream_one, stream_more, whole_append, whole_none, message_whole, message_frames, ack_whole, ack_frames, nack_whole, nack_frames}
use Rattle.run_model.specs.Connected.{IsConnected}
use Rattle.run_model.specs.Link.{Link, quiet_link}
use Rattle.run_model.specs.Ways.{AreWholeFrames}
use Rattle.unit_model.specs.Feed.{Activation, Accepts, Denies, Delays, Ignores, activation, tester_of}
use Rattle.unit_model.specs.Poll.{bytes_due, not_due, alive_bytes, has_tick, is_turn, pending_of, ticked_gateway}
use Rattle.unit_model.specs.Step.{CanSend, pending_bytes}
use Rattle.unit_model.specs.Vehicle.{HeldAnswer, Gateway, Vehicle}
use Rattle.unit_model.specs.declared.reply.Due.TheVariants.{At, Held}
use Rattle.unit_model.specs.declared.reply.Due.{Due}
use Rattle.unit_model.specs.declared.reply.UnitReply.{UnitReply}
use Rattle.outcome_law.proofs.Growing.{rose_then}
use Rattle.outcome_law.specs.LinkCounting.{IsFairFrame, AreFair}
use Rattle.outcome_law.specs.Rising.{Rose, Grows}
use Rattle.bay_core.proofs.Ticking.{due_all, not_due_all}

-- ------ counts that rise keep it
frame_on : (old a b : ℕ → ℕ) → ((code : ℕ) → Grows (a code) (b code)) → (f : Frame) → IsFairFrame old a f → IsFairFrame old b f
frame_on old a b grow (HeaderNack code) is = is
frame_on old a b grow (Activated t entity code oem) (inl yes_is) = inl yes_is
frame_on old a b grow (Activated t entity code oem) (inr rose) = inr (rose_then 1 _ _ _ rose (grow code))
frame_on old a b grow (Activate source kind oem) is = tt
frame_on old a b grow AliveAsk is = tt
frame_on old a b grow (AliveSay source) is = tt
frame_on old a b grow (Message s t body) is = tt
frame_on old a b grow (Ack s t code before) is = tt
frame_on old a b grow (Nack s t code before) is = tt
frame_on old a b grow (Other kind payload) is = tt

frames_on : (old a b : ℕ → ℕ) → ((code : ℕ) → Grows (a code) (b code)) → (fs : List Frame) → Each (IsFairFrame old a) fs → Each (IsFairFrame old b) fs
frames_on old a b grow [] all = tt
frames_on old a b grow (f ∷ fs) all = (frame_on old a b grow f all.0, frames_on old a b grow fs all.1)

queue_on : (old a b : ℕ → ℕ) → ((code : ℕ) → Grows (a code) (b code)) → (queue : List (ℕ × List ℕ)) → Each (λ q. Each (IsFairFrame old a) (stream_of q.1).frames) queue → Each (λ q. Each (IsFairFrame old b) (stream_of q.1).frames) queue
queue_on old a b grow [] all = tt
queue_on old a b grow (q ∷ qs) all = (frames_on old a b grow (stream_of q.1).frames all.0, queue_on old a b grow qs all.1)

pub fair_on : (old a b : ℕ → ℕ) (l : Link) (g : Gateway) → ((code : ℕ) → Grows (a code) (b code)) → AreFair old a l g → AreFair old b l g
fair_on old a b l g grow is = record { ready = frames_on old a b grow _ is.ready; later = queue_on old a b grow g.later is.later }

-- the front of fair frames
pub fair_front : (old new : ℕ → ℕ) (fs gs : List Frame) → Each (IsFairFrame old new) (fs ++ gs) → Each (IsFairFrame old new) fs
fair_front old new [] gs all = tt
fair_front old new (f ∷ fs) gs all = (all.0, fair_front old new fs gs all.1)

pub fair_back : (old new : ℕ → ℕ) (fs gs : List Frame) → Each (IsFairFrame old new) (fs ++ gs) → Each (IsFairFrame old new) gs
fair_back old new [] gs all = all
fair_back old new (f ∷ fs) gs all = fair_back old new fs gs all.1

module _ (old new : ℕ → ℕ) where
  abbrev Fair : Frame → Type 0
  Fair f = IsFairFrame old new f

  -- whole frames, all fair
  pub record IsFor (bytes : List ℕ) : Type 0 where
    pub whole : AreWholeFrames bytes
    pub all : Each (IsFairFrame old new) (stream_of bytes).frames

  by_frames : (bytes : List ℕ) (fs : List Frame) → (stream_of bytes).frames ≡ fs → Each Fair fs → Each Fair (stream_of bytes).frames
  by_frames bytes fs is all = subst (λ (x : List Frame). Each (IsFairFrame old new) x) (sym is) all

  for_append : (a b : List ℕ) → IsFor a → IsFor b → IsFor (a ++ b)
  for_append a b x y = record {
    whole = whole_append a b x.whole y.whole;
    all = by_frames (a ++ b) _ (ap (λ (s : Stream). s.frames) (stream_more a b x.whole)) (all_append Fair (stream_of a).frames (stream_of b).frames x.all y.all);
  }

  for_none : IsFor []
  for_none = record { whole = whole_none; all = tt }

  for_message : (unit t : ℕ) (body : List ℕ) → CanSend body → IsFor (message_bytes unit t body)
  for_message unit t body can = record { whole = message_whole unit t body can; all = by_frames (message_bytes unit t body) _ (message_frames unit t body can) (tt, tt) }

  for_nack : (t tester code : ℕ) → IsFor (nack_bytes t tester code)
  for_nack t tester code = record { whole = nack_whole t tester code; all = by_frames (nack_bytes t tester code) _ (nack_frames t tester code) (tt, tt) }

  for_ack : (t tester : ℕ) → IsFor (ack_bytes t tester)
  for_ack t tester = record { whole = ack_whole t tester; all = by_frames (ack_bytes t tester) _ (ack_frames t tester) (tt, tt) }

  for_released : (tester : ℕ) (hs : List HeldAnswer) → Each (λ h. CanSend h.body) hs → IsFor (released_bytes tester hs)
  for_released tester [] all = for_none
  for_released tester (h ∷ hs) all = for_append (message_bytes h.unit tester h.body) (released_bytes tester hs) (for_message h.unit tester h.body all.0) (for_released tester hs all.1)

  for_answer : (tester entity code : ℕ) → (code ≡ 16) ⊎ Rose (old code) (new code) → IsFor (activated_bytes tester entity code)
  for_answer tester entity code how =
      let one = stream_one 6 (payload_of (Activated tester entity code None)) (omega arith) refl in
      record { whole = record { rest = λ i. (one i).rest; bad = λ i. (one i).bad }; all = by_frames (activated_bytes tester entity code) _ (λ i. (one i).frames) (how, tt) }

  pub record Keeps (got : List ℕ) (g : Gateway) : Type 0 where
    pub ready : IsFor (got ++ g.ready)
    pub later : Each (λ q. IsFor q.1) g.later

  keeps_ready : (got : List ℕ) (g : Gateway) (frame : List ℕ) → IsFor frame → Keeps got g → Keeps got (record g { ready = g.ready ++ frame })
  keeps_ready got g frame x k = record { ready = subst (λ (b : List ℕ). IsFor b) (append_assoc got g.ready frame) (for_append (got ++ g.ready) frame k.ready x); later = k.later }

  keeps_word : (got : List ℕ) (g : Gateway) (unit sid : ℕ) (due : Due) (body : List ℕ) → CanSend body → Keeps got g → Keeps got (queue_reply g unit sid due body)
  keeps_word got g unit sid (At due) body can k = elim (cases_Bool (nat_le due g.tick)) [
    | inl e ↦ rw e (keeps_ready got g (message_bytes unit (tester_of g) body) (for_message unit (tester_of g) body can) k)
    | inr e ↦ rw e (record { ready = k.ready; later = all_append (λ q. IsFor q.1) g.later _ k.later (for_message unit (tester_of g) body can, tt) })
  ]
  keeps_word got g unit sid (Held every watch service) body can k = record { ready = k.ready; later = k.later }

  keeps_words : (got : List ℕ) (unit sid : ℕ) (rs : List UnitReply) (g : Gateway) → Each (λ r. CanSend r.body) rs → Keeps got g → Keeps got (queue_replies g unit sid rs)
  keeps_words got unit sid [] g can k = k
  keeps_words got unit sid (r ∷ rs) g can k = keeps_words got unit sid rs (queue_reply g unit sid r.due r.body) can.1 (keeps_word got g unit sid r.due r.body can.0 k)

  alive_for : (tick : ℕ) (g : Gateway) → IsFor (alive_bytes tick g)
  alive_for tick g = elim (cases_Bool (is_some g.active && has_tick tick g.alive)) [
    | inl e ↦ rw e (record { whole = record { rest = refl; bad = refl }; all = (tt, tt) })
    | inr e ↦ rw e for_none
  ]

  pending_for : (tick t : ℕ) (held : List HeldAnswer) → IsFor (pending_of tick t held)
  pending_for tick t [] = for_none
  pending_for tick t (h ∷ hs) = elim (cases_Bool (is_turn tick h)) [
    | inl e ↦ rw e (for_append (message_bytes h.unit t (pending_bytes h.sid)) (pending_of tick t hs) (for_message h.unit t (pending_bytes h.sid) (pending_can h.sid)) (pending_for tick t hs))
    | inr e ↦ rw e (pending_for tick t hs)
  ]

  zip_for : (queue : List (ℕ × List ℕ)) → Each (λ q. AreWholeFrames q.1) queue → Each (λ q. Each (IsFairFrame old new) (stream_of q.1).frames) queue → Each (λ q. IsFor q.1) queue
  zip_for [] a b = tt
  zip_for (q ∷ qs) a b = (record { whole = a.0; all = b.0 }, zip_for qs a.1 b.1)

  only_for : (queue : List (ℕ × List ℕ)) → Each (λ q. IsFor q.1) queue → Each (λ q. Each (IsFairFrame old new) (stream_of q.1).frames) queue
  only_for [] a = tt
  only_for (q ∷ qs) a = (a.0.all, only_for qs a.1)

  keeps_of : (tester : ℕ) (l : Link) (g : Gateway) → IsConnected tester l g → AreFair old new l g → Keeps l.got g
  keeps_of tester l g c a = record { ready = record { whole = got_whole tester l g c; all = a.ready }; later = zip_for g.later c.later a.later }

  fair_of : (l : Link) (g : Gateway) → Keeps l.got g → AreFair old new l g
  fair_of l g k = record { ready = k.ready.all; later = only_for g.later k.later }

  -- ------ the steps
  pub ticked_fair : (tester : ℕ) (l : Link) (g : Gateway) → IsConnected tester l g → AreFair old new l g → g.ready ≡ [] → AreFair old new (quiet_link l) (ticked_gateway (g.tick + 1) g)
  ticked_fair tester l g c a none =
      let k = keeps_of tester l g c a in
      let bare : IsFor l.got = subst (λ (x : List ℕ). IsFor x) (ap (λ (x : List ℕ). l.got ++ x) none ∙ append-nil l.got) k.ready in
      let next : IsFor (l.got ++ (bytes_due (g.tick + 1) g.later ++ (alive_bytes (g.tick + 1) g ++ pending_of (g.tick + 1) (tester_of g) g.held))) =
      for_append l.got (bytes_due (g.tick + 1) g.later ++ (alive_bytes (g.tick + 1) g ++ pending_of (g.tick + 1) (tester_of g) g.held)) bare (for_append (bytes_due (g.tick + 1) g.later) (alive_bytes (g.tick + 1) g ++ pending_of (g.tick + 1) (tester_of g) g.held) (due_all IsFor for_none for_append (g.tick + 1) g.later k.later)
      (for_append (alive_bytes (g.tick + 1) g) (pending_of (g.tick + 1) (tester_of g) g.held) (alive_for (g.tick + 1) g) (pending_for (g.tick + 1) (tester_of g) g.held))) in
      record { ready = next.all; later = only_for (not_due (g.tick + 1) g.later) (not_due_all IsFor (g.tick + 1) g.later k.later) }

  pub nacked_fair : (tester t code : ℕ) (l : Link) (g : Gateway) → IsConnected tester l g → AreFair old new l g → AreFair old new l (record g { ready = g.ready ++ nack_bytes t tester code; unfinished = [] })
  nacked_fair tester t code l g c a = let k = keeps_ready l.got g (nack_bytes t tester code) (for_nack t tester code) (keeps_of tester l g c a) in record { ready = k.ready.all; later = only_for g.later k.later }

  pub heard_fair : (tester t sid : ℕ) (waits : HeldAnswer → Bool) (held : List HeldAnswer) (l : Link) (g : Gateway) (rs : List UnitReply) → IsConnected tester l g → AreFair old new l g → Each (λ r. CanSend r.body) rs
      → AreFair old new l (queue_replies (record g { ready = (g.ready ++ ack_bytes t tester) ++ released_bytes tester (filter waits g.held); held = held; unfinished = [] }) t sid rs)
  heard_fair tester t sid waits held l g rs c a can =
      let k0 = keeps_ready l.got g (ack_bytes t tester) (for_ack t tester) (keeps_of tester l g c a) in
      let k1 = keeps_ready l.got (record g { ready = g.ready ++ ack_bytes t tester }) (released_bytes tester (filter waits g.held)) (for_released tester (filter waits g.held) (filter_can waits g.held c.held)) k0 in
      fair_of l _ (keeps_words l.got t sid rs (record g { ready = (g.ready ++ ack_bytes t tester) ++ released_bytes tester (filter waits g.held); held = held; unfinished = [] }) can (record { ready = k1.ready; later = k1.later }))

  -- the activation request came first
  pub asked_fair : (tester : ℕ) (l l2 : Link) (v : Vehicle) (how : Activation) → FreshParts l v.gateway → l2.got ≡ l.got → ((code : ℕ) → how ≡ Denies code → Rose (old code) (new code)) → AreFair old new l2 (activation how tester v).gateway
  asked_fair tester l l2 v Accepts (active, ready, later, held, got, rest, inbox) same rose = record {
    ready = subst (λ (x : List ℕ). Each (IsFairFrame old new) (stream_of x).frames) (λ i. sym (same ∙ got) i ++ (sym ready i ++ activated_bytes tester v.gateway.entity 16)) (for_answer tester v.gateway.entity 16 (inl refl)).all;
    later = subst (λ (q : List (ℕ × List ℕ)). Each (λ x. Each (IsFairFrame old new) (stream_of x.1).frames) q) (sym later) tt;
  }
  asked_fair tester l l2 v (Denies code) (active, ready, later, held, got, rest, inbox) same rose = record {
    ready = subst (λ (x : List ℕ). Each (IsFairFrame old new) (stream_of x).frames) (λ i. sym (same ∙ got) i ++ (sym ready i ++ activated_bytes tester v.gateway.entity code)) (for_answer tester v.gateway.entity code (inr (rose code refl))).all;
    later = subst (λ (q : List (ℕ × List ℕ)). Each (λ x. Each (IsFairFrame old new) (stream_of x.1).frames) q) (sym later) tt;
  }
  asked_fair tester l l2 v (Delays ticks) (active, ready, later, held, got, rest, inbox) same rose = record {
    ready = subst (λ (x : List ℕ). Each (IsFairFrame old new) (stream_of x).frames) (λ i. sym (same ∙ got) i ++ sym ready i) tt;
    later = subst (λ (q : List (ℕ × List ℕ)). Each (λ x. Each (IsFairFrame old new) (stream_of x.1).frames) (q ++ ((v.gateway.tick + 1000 + ticks, activated_bytes tester v.gateway.entity 16) ∷ []))) (sym later) ((for_answer tester v.gateway.entity 16 (inl refl)).all, tt);
  }
  asked_fair tester l l2 v Ignores (active, ready, later, held, got, rest, inbox) same rose = record {
    ready = subst (λ (x : List ℕ). Each (IsFairFrame old new) (stream_of x).frames) (λ i. sym (same ∙ got) i ++ sym ready i) tt;
    later = subst (λ (q : List (ℕ × List ℕ)). Each (λ x. Each (IsFairFrame old new) (stream_of x.1).frames) q) (sym later) tt;
  }
