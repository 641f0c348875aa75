-- Frames that are handled one after another.
use Rattle.std.proofs.Common.{◌≡◌, inl, inr, ℕ, ◌+◌, ◌<◌, ◌≤◌, List, [], ◌∷◌, ◌++◌, length, take, Some, Option, refl, sym, ◌∙◌, ap, subst, append_assoc}
use Rattle.std.specs.Prelude.{slice_get}
use Rattle.std.proofs.lemmas.List.{take_more, take_all, append-nil}
use Rattle.std.proofs.lemmas.Option.{get_or_from_slice_get, slice_get_within}
use Rattle.doip_frame.specs.declared.frame.Bad.{Bad}
use Rattle.doip_frame.specs.declared.frame.Frame.{Frame}
use Rattle.unit_model.specs.Feed.{DueReply, Handles}
use Rattle.unit_model.specs.Vehicle.{Vehicle}
use Rattle.gateway_sim.specs.Handling.{refusing}
use Rattle.vehicle_world.specs.Feeding.{all_queued, frame_done, frames_done}
use Rattle.vehicle_world.specs.Running.{Adds, Handled, OneOrNone, Runs, Went, WentAll, WentPart}
use Rattle.vehicle_world.specs.States.{State, forgotten, vehicle_in}
use Rattle.vehicle_world.proofs.Streaming.{one_more}

state_one : (fs : List Frame) (f : Frame) (s : State) → (frames_done (fs ++ f ∷ []) s).0 ≡ (frame_done f (frames_done fs s).0).0
state_one [] f s = refl
state_one (e ∷ fs) f s = state_one fs f (frame_done e s).0

replies_one : (fs : List Frame) (f : Frame) (s : State) → (frames_done (fs ++ f ∷ []) s).1 ≡ (frames_done fs s).1 ++ (frame_done f (frames_done fs s).0).1
replies_one [] f s = append-nil (frame_done f s).1
replies_one (e ∷ fs) f s =
    ap (λ (xs : List DueReply). (frame_done e s).1 ++ xs) (replies_one fs f (frame_done e s).0)
    ∙ sym (append_assoc (frame_done e s).1 (frames_done fs (frame_done e s).0).1 (frame_done f (frames_done fs (frame_done e s).0).0).1)

one_taken : (fs : List Frame) (i : ℕ) (f : Frame) → slice_get fs i ≡ Some f → take (i + 1) fs ≡ take i fs ++ f ∷ []
one_taken fs i f there =
    let lt : i < length fs = slice_get_within fs i f there in
    take_more fs i f lt ∙ ap (λ (g : Frame). take i fs ++ g ∷ []) (get_or_from_slice_get fs i f f there)

-- none yet
pub begins : (fs : List Frame) (s : State) → Went (take 0 fs) s s []
begins fs s = record { state = refl; replies = refl; runs = (refl, refl) }

-- one frame more
went_more : (fs : List Frame) (f : Frame) (old now next : State) (out more : List DueReply) → Went fs old now out → Adds (frame_done f now) out next more → Handled f now → Went (fs ++ f ∷ []) old next more
went_more fs f old now next out more w a h = record {
  state = a.state ∙ ap (λ (s : State). (frame_done f s).0) w.state ∙ sym (state_one fs f old);
  replies = a.replies ∙ (λ i. w.replies i ++ (frame_done f (w.state i)).1) ∙ sym (replies_one fs f old);
  runs = subst (λ (ws : List DueReply). Runs (fs ++ f ∷ []) (vehicle_in old) (vehicle_in next) ws) (sym a.replies)
      (one_more fs f (vehicle_in old) (vehicle_in now) (vehicle_in next) out (frame_done f now).1 w.runs
      (subst (λ (s : State). Handles' s) (sym a.state) h));
}
  where
    Handles' : State → Type 0
    Handles' s = Handles f (vehicle_in now) (vehicle_in s) (frame_done f now).1

pub went_on : (fs : List Frame) (i : ℕ) (f : Frame) (old now next : State) (out more : List DueReply) → slice_get fs i ≡ Some f → Went (take i fs) old now out → Adds (frame_done f now) out next more → Handled f now → Went (take (i + 1) fs) old next more
went_on fs i f old now next out more there w a h = subst (λ (gs : List Frame). Went gs old next more) (sym (one_taken fs i f there)) (went_more (take i fs) f old now next out more w a h)

-- there was no memory
pub stopped : (fs : List Frame) (i : ℕ) (f : Frame) (old now : State) (out : List DueReply) (new : Vehicle) → slice_get fs i ≡ Some f → Went (take i fs) old now out → OneOrNone f now new → WentPart fs old new
stopped fs i f old now out new there w (inl same) = record { count = i; now = now; out = out; went = w; leaves = same }
stopped fs i f old now out new there w (inr (is, h)) = record {
  count = i + 1;
  now = (frame_done f now).0;
  out = out ++ (frame_done f now).1;
  went = went_on fs i f old now (frame_done f now).0 out (out ++ (frame_done f now).1) there w (record { state = refl; replies = refl }) h;
  leaves = is;
}

-- behind all frames
pub at_end : (fs : List Frame) (i : ℕ) (old now : State) (out : List DueReply) (new : Vehicle) → Went (take i fs) old now out → new ≡ forgotten now → WentPart fs old new
at_end fs i old now out new w is = record { count = i; now = now; out = out; went = w; leaves = is }

pub all_went : (fs : List Frame) (bad : Option Bad) (i : ℕ) (old now new : State) (out : List DueReply) → length fs ≤ i → Went (take i fs) old now out → new ≡ record now { gate = all_queued out (refusing bad now.gate) } → WentAll fs bad old new
all_went fs bad i old now new out le w is = record {
  mid = now;
  out = out;
  went = subst (λ (gs : List Frame). Went gs old now out) (take_all i fs le) w;
  becomes = is;
}
