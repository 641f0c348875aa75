-- Link and gateway speak of the same connection.
use Rattle.std.specs.Prelude.{◌≡◌, ◌⊎◌, ℕ, Bool, true, false, ◌&&◌, ◌||◌, ◌==◌, MatchOption, List, [], ◌∷◌, ◌++◌, Some, None, IsTrue}
use Rattle.doip_frame.specs.Frame.{stream_of}
use Rattle.doip_frame.specs.declared.frame.Frame.{Frame}
use Rattle.doip_frame.specs.declared.frame.Frame.TheVariants.{HeaderNack, Activate, Activated, AliveAsk, AliveSay, Message, Ack, Nack, Other}
use Rattle.flash_base.specs.Lists.{Each}
use Rattle.unit_model.specs.Step.{CanSend}
use Rattle.unit_model.specs.Vehicle.{Gateway}
use Rattle.run_model.specs.Link.{Link, Phase}
use Rattle.run_model.specs.Link as phase
use Rattle.run_model.specs.Ways.{AreWholeFrames}

-- a frame says that the activation was accepted
abbrev pub accepts : List Frame → Bool
accepts [] = false
accepts (Activated t entity code oem ∷ fs) = code == 16 || accepts fs
accepts (HeaderNack code ∷ fs) = accepts fs
accepts (Activate source kind oem ∷ fs) = accepts fs
accepts (AliveAsk ∷ fs) = accepts fs
accepts (AliveSay source ∷ fs) = accepts fs
accepts (Message s t body ∷ fs) = accepts fs
accepts (Ack s t code old ∷ fs) = accepts fs
accepts (Nack s t code old ∷ fs) = accepts fs
accepts (Other kind payload ∷ fs) = accepts fs

abbrev pub accepts_later : List (ℕ × List ℕ) → Bool
accepts_later [] = false
accepts_later (q ∷ qs) = accepts (stream_of q.1).frames || accepts_later qs

-- such a frame is on the way
abbrev pub will_accept : Link → Gateway → Bool
will_accept l g = accepts (stream_of (l.rest ++ g.ready)).frames || accepts_later g.later

-- A new connection has carried nothing. Where an answer that accepts the activation has come or is on the way, the gateway
-- is activated for the tester.
abbrev pub IsByPhase : ℕ → Phase → Link → Gateway → Type 0
IsByPhase tester phase.Down l g = Unit {0}
IsByPhase tester phase.Dialed l g = (g.active ≡ None) × (g.ready ≡ []) × (g.later ≡ []) × (g.held ≡ [])
    × (l.got ≡ []) × (l.rest ≡ []) × (l.inbox ≡ [])
IsByPhase tester phase.Asked l g = IsTrue (will_accept l g) → g.active ≡ Some tester
IsByPhase tester phase.Up l g = g.active ≡ Some tester
IsByPhase tester (phase.Refused code) l g = Unit {0}

-- The gateway is between frames; what it has carried is what the link got, without a refusal; what it has queued spells
-- whole frames; and it is activated, if at all, for the tester.
pub record IsConnected (tester : ℕ) (l : Link) (g : Gateway) : Type 0 where
  pub hears : g.deaf ≡ false
  pub unfinished : g.unfinished ≡ []
  pub carried : g.carried ≡ l.got
  pub rest : (stream_of l.got).rest ≡ l.rest
  pub bad : (stream_of l.got).bad ≡ None
  pub ready : AreWholeFrames (l.rest ++ g.ready)
  pub later : Each (λ q. AreWholeFrames q.1) g.later
  pub held : Each (λ h. CanSend h.body) g.held
  pub active : MatchOption g.active (Unit {0}) (λ a. a ≡ tester)
  pub phase : IsByPhase tester l.phase l g

-- each message and each refusal to deliver is for the tester
abbrev pub are_for : ℕ → List Frame → Bool
are_for tester [] = true
are_for tester (Message s t body ∷ fs) = t == tester && are_for tester fs
are_for tester (Nack s t code old ∷ fs) = t == tester && are_for tester fs
are_for tester (Activated t entity code oem ∷ fs) = are_for tester fs
are_for tester (HeaderNack code ∷ fs) = are_for tester fs
are_for tester (Activate source kind oem ∷ fs) = are_for tester fs
are_for tester (AliveAsk ∷ fs) = are_for tester fs
are_for tester (AliveSay source ∷ fs) = are_for tester fs
are_for tester (Ack s t code old ∷ fs) = are_for tester fs
are_for tester (Other kind payload ∷ fs) = are_for tester fs

-- Where the link is up, the answer that accepts the activation is among the frames carried; each message and refusal to
-- deliver that was carried or is queued is for the tester; and a held answer will be, since the gateway is activated.
pub record IsAddressed (tester : ℕ) (l : Link) (g : Gateway) : Type 0 where
  pub accepted : l.phase ≡ phase.Up → accepts (stream_of l.got).frames ≡ true
  pub ready : are_for tester (stream_of (l.got ++ g.ready)).frames ≡ true
  pub later : Each (λ q. are_for tester (stream_of q.1).frames ≡ true) g.later
  pub held : (g.held ≡ []) ⊎ (g.active ≡ Some tester)
