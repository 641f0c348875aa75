-- Frames are handled whatever is held of a frame.
use Rattle.std.proofs.Common.{◌≡◌, inl, inr, ℕ, Bool, List, [], ◌∷◌, Some, None, Option, refl, ◌∙◌, ap}
use Rattle.doip_frame.specs.declared.frame.Frame.{Frame}
use Rattle.doip_frame.specs.declared.frame.Frame.TheVariants.{HeaderNack, Activate, Activated, AliveAsk, AliveSay, Message, Ack, Nack, Other}
use Rattle.unit_model.specs.Feed.{DueReply, Handles, HandlesMessage, HandlesAt, Activation, Accepts, Denies, Delays, Ignores, activation}
use Rattle.unit_model.specs.Unit.{ControlUnit}
use Rattle.unit_model.specs.Vehicle.{Vehicle, unit_at}
use Rattle.vehicle_world.specs.Running.{Runs}

-- the vehicle with another beginning of a frame
abbrev pub fronted : Bool → List ℕ → Vehicle → Vehicle
fronted deaf held v = record v { gateway = record v.gateway { deaf = deaf; unfinished = held } }

module _ (deaf : Bool) (held : List ℕ) where
  abbrev there : Vehicle → Vehicle
  there v = fronted deaf held v

  acts : (how : Activation) (source : ℕ) (v : Vehicle) → there (activation how source v) ≡ activation how source (there v)
  acts Accepts source v = refl
  acts (Denies code) source v = refl
  acts (Delays ticks) source v = refl
  acts Ignores source v = refl

  at_unit : (source target : ℕ) (body : List ℕ) (o : Option ControlUnit) (v w : Vehicle) (out : List DueReply) → HandlesAt source target body o v w out → HandlesAt source target body o (there v) (there w) out
  at_unit source target body None v w out h = record { none = h.none; becomes = ap there h.becomes }
  at_unit source target body (Some u) v w out h = elim h [
    | inl n ↦ inl (record { code = n.code; none = n.none; becomes = ap there n.becomes })
    | inr x ↦ inr (record { replies = x.replies; after = x.after; step = x.step; lets_out = x.lets_out; becomes = ap there x.becomes })
  ]

  at_gateway : (source target : ℕ) (body : List ℕ) (active : Option ℕ) (v w : Vehicle) (out : List DueReply) → HandlesMessage source target body active v w out → HandlesMessage source target body active (there v) (there w) out
  at_gateway source target body None v w out h = record { none = h.none; becomes = ap there h.becomes }
  at_gateway source target body (Some tester) v w out h = at_unit source target body (unit_at v.units target) v w out h

  pub one_fronted : (f : Frame) (v w : Vehicle) (out : List DueReply) → Handles f v w out → Handles f (there v) (there w) out
  one_fronted (Activate source kind oem) v w out h = record { how = h.how; is = h.is; none = h.none; becomes = ap there h.becomes ∙ acts h.how source v }
  one_fronted (Message source target body) v w out h = at_gateway source target body v.gateway.active v w out h
  one_fronted (HeaderNack code) v w out h = record { none = h.none; becomes = ap there h.becomes }
  one_fronted (Activated tester entity code oem) v w out h = record { none = h.none; becomes = ap there h.becomes }
  one_fronted AliveAsk v w out h = record { none = h.none; becomes = ap there h.becomes }
  one_fronted (AliveSay source) v w out h = record { none = h.none; becomes = ap there h.becomes }
  one_fronted (Ack source target code old) v w out h = record { none = h.none; becomes = ap there h.becomes }
  one_fronted (Nack source target code old) v w out h = record { none = h.none; becomes = ap there h.becomes }
  one_fronted (Other kind payload) v w out h = record { none = h.none; becomes = ap there h.becomes }

  pub all_fronted : (fs : List Frame) (v w : Vehicle) (out : List DueReply) → Runs fs v w out → Runs fs (there v) (there w) out
  all_fronted [] v w out r = (ap there r.0, r.1)
  all_fronted (f ∷ fs) v w out (mid, first, second, handles, runs, joined) =
      (there mid, first, second, one_fronted f v mid first handles, all_fronted fs mid w second runs, joined)
