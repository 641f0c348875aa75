-- Sending nothing does nothing.
use Rattle.std.proofs.Common.{◌≡◌, ℕ, suc, Bool, true, false, List, [], ◌++◌, length, refl, sym, subst}
use Rattle.std.specs.Prelude.{MatchBool}
use Rattle.std.proofs.lemmas.List.{append-nil}
use Rattle.doip_frame.specs.Frame.{Cut, Partial, Wrong, Whole, cut_frame}
use Rattle.doip_frame.specs.Deframe.{is_partial}
use Rattle.unit_model.specs.Vehicle.{Vehicle}
use Rattle.unit_model.specs.Feed.{AfterCut, Feeds, FeedsAll, FeedsHearing}
use Rattle.vehicle_world.specs.declared.world.World.{World}
use Rattle.vehicle_world.specs.Worlds.{world_of}

pub partial_is : (cut : Cut) → is_partial cut ≡ true → cut ≡ Partial
partial_is Partial is = refl
partial_is (Wrong bad) is = cc
partial_is (Whole kind payload rest) is = cc

nothing_fed : (v : Vehicle) → cut_frame v.gateway.unfinished ≡ Partial → FeedsHearing [] v v
nothing_fed v part =
    let bytes : v.gateway.unfinished ++ [] ≡ v.gateway.unfinished = append-nil v.gateway.unfinished in
    record {
      mid = v;
      out = [];
      all = subst (λ (bs : List ℕ). FeedsAll (suc (length bs)) bs v v []) (sym bytes)
          (subst (λ (cut : Cut). AfterCut cut (FeedsAll (length v.gateway.unfinished)) v.gateway.unfinished v v []) (sym part) (refl, refl));
      becomes = refl;
    }

deaf_or_not : (v : Vehicle) (deaf : Bool) → cut_frame v.gateway.unfinished ≡ Partial → MatchBool deaf (v ≡ v) (FeedsHearing [] v v)
deaf_or_not v true part = refl
deaf_or_not v false part = nothing_fed v part

pub nothing_is_fed : (v : Vehicle) → cut_frame v.gateway.unfinished ≡ Partial → Feeds [] v v
nothing_is_fed v part = deaf_or_not v v.gateway.deaf part

pub feeds_nothing : (w : World) → Feeds [] (world_of w).vehicle (world_of w).vehicle
feeds_nothing w = nothing_is_fed (world_of w).vehicle (partial_is _ w.gate.partial)
