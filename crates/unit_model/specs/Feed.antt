-- What bytes that are sent to the gateway do to the vehicle (ISO 13400-2:2019, section 9).
use Rattle.std.specs.Prelude.{◌≡◌, ◌⊎◌, ℕ, zero, suc, ◌+◌, Bool, true, ◌&&◌, ◌==◌, not, nat_le, List, [], ◌∷◌, ◌++◌, length, take, map, filter, Option, Some, None, if◌then◌else◌, MatchBool, unwrap_or}
use Rattle.uds_codec.specs.Request.{sid_of}
use Rattle.doip_frame.specs.declared.frame.Frame.{Frame}
use Rattle.doip_frame.specs.declared.frame.Frame.TheVariants.{HeaderNack, Activate, Activated, AliveAsk, AliveSay, Message, Ack, Nack, Other}
use Rattle.doip_frame.specs.Frame.{Cut, Partial, Wrong, Whole, cut_frame, frame_of, nack_code, activated_bytes, message_bytes, ack_bytes, nack_bytes, header_nack_bytes}
use Rattle.flash_base.specs.Counts.{one_more}
use Rattle.unit_model.specs.Unit.{ControlUnit}
use Rattle.unit_model.specs.declared.reply.Due.{Due}
use Rattle.unit_model.specs.declared.reply.Due.TheVariants.{At, Held}
use Rattle.unit_model.specs.declared.reply.UnitReply.{UnitReply}
use Rattle.unit_model.specs.Step.{UnitStep, raise_code}
use Rattle.unit_model.specs.Vehicle.{HeldAnswer, Gateway, Vehicle, unit_at, redialed}

-- the units with this one in place of the one with its address
abbrev pub with_unit : List ControlUnit → ℕ → ControlUnit → List ControlUnit
with_unit [] address w = []
with_unit (u ∷ us) address w = if u.address == address then w ∷ us else u ∷ with_unit us address w

-- a frame is queued
abbrev pub enqueue : Gateway → ℕ → List ℕ → Gateway
enqueue g due frame = if nat_le due g.tick then record g { ready = g.ready ++ frame }
    else record g { later = g.later ++ ((due, frame) ∷ []) }

abbrev pub tester_of : Gateway → ℕ
tester_of g = unwrap_or g.active 0

-- a reply of a unit that is due at a tick
pub record DueReply : Type 0 where
  pub unit : ℕ
  pub due : ℕ
  pub body : List ℕ

abbrev pub queue_due : Gateway → List DueReply → Gateway
queue_due g [] = g
queue_due g (w ∷ ws) = queue_due (enqueue g w.due (message_bytes w.unit (tester_of g) w.body)) ws

-- of the replies of a unit to a service, those that are due at a tick
abbrev pub due_reply : ℕ → Due → List ℕ → List DueReply
due_reply unit (At due) body = record { unit = unit; due = due; body = body } ∷ []
due_reply unit (Held every watch service) body = []

abbrev pub due_replies : ℕ → List UnitReply → List DueReply
due_replies unit [] = []
due_replies unit (r ∷ rs) = due_reply unit r.due r.body ++ due_replies unit rs

-- and those that are held, from this tick on
abbrev pub held_answer : ℕ → ℕ → ℕ → Due → List ℕ → List HeldAnswer
held_answer tick unit sid (At due) body = []
held_answer tick unit sid (Held every watch service) body =
    record {
      unit = unit;
      sid = sid;
      body = body;
      every = every;
      watch = watch;
      service = service;
      from = tick;
      pending = 0;
    } ∷ []

abbrev pub held_answers : ℕ → ℕ → ℕ → List UnitReply → List HeldAnswer
held_answers tick unit sid [] = []
held_answers tick unit sid (r ∷ rs) = held_answer tick unit sid r.due r.body ++ held_answers tick unit sid rs

abbrev pub waits_for : ℕ → ℕ → HeldAnswer → Bool
waits_for target sid h = h.watch == target && h.service == sid

-- the held answers that this request lets go, due at once
abbrev pub released : ℕ → ℕ → ℕ → List HeldAnswer → List DueReply
released tick target sid held =
    map (λ h. record { unit = h.unit; due = tick; body = h.body }) (filter (waits_for target sid) held)

abbrev pub still_held : ℕ → ℕ → List HeldAnswer → List HeldAnswer
still_held target sid held = filter (λ h. not (waits_for target sid h)) held

abbrev pub say : Vehicle → List ℕ → Vehicle
say v frame = record v { gateway = record v.gateway { ready = v.gateway.ready ++ frame } }

-- the unit is there, and the gateway answers for it with another code
pub record Nacks (source target : ℕ) (u : ControlUnit) (old new : Vehicle)
    (out : List DueReply) : Type 0 where
  pub code : ℕ
  pub none : out ≡ []
  pub becomes : new ≡ record (say old (nack_bytes target source code)) {
    units = with_unit old.units target
        (record u { counts = record u.counts { nacked = raise_code code u.counts.nacked } });
  }

-- The unit hears the body. What it lets go comes before its own replies; a reply that it holds is held from here on, so that a
-- later frame may let it go.
pub record Hears (source target : ℕ) (body : List ℕ) (u : ControlUnit) (old new : Vehicle)
    (out : List DueReply) : Type 0 where
  pub replies : List UnitReply
  pub after : ControlUnit
  pub step : UnitStep u body old.gateway.tick replies after
  pub lets_out : out ≡ released old.gateway.tick target
      (sid_of body) old.gateway.held ++ due_replies target replies
  pub becomes : new ≡ record {
    gateway = record old.gateway {
      ready = old.gateway.ready ++ ack_bytes target source;
      held = still_held target (sid_of body) old.gateway.held ++ held_answers old.gateway.tick target
          (sid_of body) replies;
    };
    units = with_unit old.units target after;
  }

pub record Refuses (source target code : ℕ) (old new : Vehicle) (out : List DueReply) : Type 0 where
  pub none : out ≡ []
  pub becomes : new ≡ say old (nack_bytes target source code)

abbrev pub HandlesAt : ℕ → ℕ → List ℕ → Option ControlUnit → Vehicle → Vehicle → List DueReply → Type 0
HandlesAt source target body None old new out = Refuses source target 3 old new out
HandlesAt source target body (Some u) old new out =
    Nacks source target u old new out ⊎ Hears source target body u old new out

abbrev pub HandlesMessage : ℕ → ℕ → List ℕ → Option ℕ → Vehicle → Vehicle → List DueReply → Type 0
HandlesMessage source target body None old new out = Refuses source target 2 old new out
HandlesMessage source target body (Some tester) old new out =
    HandlesAt source target body (unit_at old.units target) old new out

abbrev pub activated : Vehicle → ℕ → Vehicle
activated v source = record v { gateway = record v.gateway { active = Some source } }

-- an activation request: answered with 10, with another code, late, or not at all
pub data Activation : Type 0 where
  Accepts : Activation
  Denies : ℕ → Activation
  Delays : ℕ → Activation
  Ignores : Activation

abbrev pub activation : Activation → ℕ → Vehicle → Vehicle
activation Accepts source v = say (activated v source) (activated_bytes source v.gateway.entity 16)
activation (Denies code) source v =
    say (record v { gateway = record v.gateway { denied = raise_code code v.gateway.denied } })
    (activated_bytes source v.gateway.entity code)
activation (Delays ticks) source v = record v {
  gateway = record v.gateway {
    active = Some source;
    silent = one_more v.gateway.silent;
    later = v.gateway.later ++ ((v.gateway.tick + 1000 + ticks, activated_bytes source v.gateway.entity 16)
        ∷ []);
  };
}
activation Ignores source v = record v { gateway = record v.gateway { silent = one_more v.gateway.silent } }

abbrev pub IsActivation : Activation → Type 0
IsActivation Accepts = Unit {0}
IsActivation (Denies code) = code ≡ 16 → ⊥
IsActivation (Delays ticks) = Unit {0}
IsActivation Ignores = Unit {0}

pub record Activates (source : ℕ) (old new : Vehicle) (out : List DueReply) : Type 0 where
  pub how : Activation
  pub is : IsActivation how
  pub none : out ≡ []
  pub becomes : new ≡ activation how source old

pub record Nothing (old new : Vehicle) (out : List DueReply) : Type 0 where
  pub none : out ≡ []
  pub becomes : new ≡ old

-- one whole frame
abbrev pub Handles : Frame → Vehicle → Vehicle → List DueReply → Type 0
Handles (Activate source kind oem) old new out = Activates source old new out
Handles (Message source target body) old new out =
    HandlesMessage source target body old.gateway.active old new out
Handles (HeaderNack code) old new out = Nothing old new out
Handles (Activated tester entity code oem) old new out = Nothing old new out
Handles AliveAsk old new out = Nothing old new out
Handles (AliveSay source) old new out = Nothing old new out
Handles (Ack source target code before) old new out = Nothing old new out
Handles (Nack source target code before) old new out = Nothing old new out
Handles (Other kind payload) old new out = Nothing old new out

-- what the first frame does, and then what the rest does; the units' replies are gathered in the order in which they came to be
abbrev pub AfterCut : Cut → (List ℕ → Vehicle → Vehicle → List DueReply → Type 0) → List ℕ → Vehicle → Vehicle
    → List DueReply → Type 0
AfterCut Partial Rest bytes old new out =
    (new ≡ record old { gateway = record old.gateway { unfinished = bytes } }) × (out ≡ [])
AfterCut (Wrong bad) Rest bytes old new out =
    (new ≡ say (record old { gateway = record old.gateway { deaf = true; unfinished = [] } })
    (header_nack_bytes (nack_code bad))) × (out ≡ [])
AfterCut (Whole kind payload rest) Rest bytes old new out =
    (mid : Vehicle) × (first : List DueReply) × (second : List DueReply)
    × Handles (frame_of kind payload) old mid first × Rest rest mid new second × (out ≡ first ++ second)

abbrev pub FeedsAll : ℕ → List ℕ → Vehicle → Vehicle → List DueReply → Type 0
FeedsAll zero bytes old new out = (new ≡ old) × (out ≡ [])
FeedsAll (suc n) bytes old new out = AfterCut (cut_frame bytes) (FeedsAll n) bytes old new out

-- the replies are queued behind the gateway's own answers
pub record FeedsHearing (bytes : List ℕ) (old new : Vehicle) : Type 0 where
  pub mid : Vehicle
  pub out : List DueReply
  pub all : FeedsAll (suc (length (old.gateway.unfinished ++ bytes)))
      (old.gateway.unfinished ++ bytes) old mid out
  pub becomes : new ≡ record mid { gateway = queue_due mid.gateway out }

abbrev pub Feeds : List ℕ → Vehicle → Vehicle → Type 0
Feeds bytes old new = MatchBool old.gateway.deaf (new ≡ old) (FeedsHearing bytes old new)

-- a send that failed: a prefix was fed, and the connection may be broken
pub record FeedsPart (bytes : List ℕ) (old new : Vehicle) : Type 0 where
  pub count : ℕ
  pub mid : Vehicle
  pub feeds : Feeds (take count bytes) old mid
  pub broken : (new ≡ mid) ⊎ (new ≡ redialed mid)
