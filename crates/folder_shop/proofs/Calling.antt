-- Link calls of a shop, by those of its vehicle.
use Rattle.std.proofs.Common.{◌≡◌, ℕ, List, [], false, refl, sym, subst, Result, Ok, Err, IsErr}
use Rattle.std.proofs.lemmas.Bool.{both_ways}
use Rattle.disk_model.specs.declared.device.DeviceFault.{DeviceFault}
use Rattle.unit_model.specs.declared.reply.Got.{Got}
use Rattle.unit_model.specs.declared.reply.Got.TheVariants.{Quiet, Bytes}
use Rattle.unit_model.specs.Vehicle.{Vehicle}
use Rattle.unit_model.specs.Feed.{Feeds}
use Rattle.shop_model.specs.History.{Call, LinkCall, Received, Redialed, Send, Sent}
use Rattle.vehicle_world.specs.declared.world.World.{World}
use Rattle.folder_shop.specs.declared.told.Told.{Told}
use Rattle.folder_shop.specs.Moments.{vehicle_in, vehicle_of}
use Rattle.folder_shop.specs.Shops.{history}
use Rattle.folder_shop.proofs.Links.{not_sent, misses_none}
use Rattle.folder_shop.proofs.Passing.{now_is}

-- what was kept before the call is neither counted nor done
pub called : {T : Type 0} (call : Call) (old mid new : Told) (was snapped : World) (v : Vehicle)
    (result : Result T DeviceFault) → mid ≡ old → snapped ≡ was
    → LinkCall call (history mid (vehicle_of snapped)) (history new v) result
    → LinkCall call (history old (vehicle_of was)) (history new v) result
called call old mid new was snapped v result kept is made =
    subst (λ (t : Told). LinkCall call (history t (vehicle_of was)) (history new v) result) kept
    (subst (λ (w : World). LinkCall call (history mid (vehicle_of w)) (history new v) result) is made)

pub sent_as : (said bytes : List ℕ) (old mid new : Told) (was snapped : World) (v : Vehicle)
    (result : Result Unit DeviceFault) → said ≡ bytes → mid ≡ old → snapped ≡ was
    → LinkCall (Send said) (history mid (vehicle_of snapped)) (history new v) result
    → LinkCall (Send bytes) (history old (vehicle_of was)) (history new v) result
sent_as said bytes old mid new was snapped v result seen kept is made =
    called (Send bytes) old mid new was snapped v result kept is
    (subst (λ (bs : List ℕ). LinkCall (Send bs) (history mid (vehicle_of snapped)) (history new v) result)
    seen made)

-- what led from the vehicle to the next one led from one moment to the next
pub between : {T : Type 0} (P : Vehicle → Vehicle → Result T DeviceFault → Type 0) (old new : Told)
    (was kept now : World) (answer result : Result T DeviceFault) → kept ≡ was → result ≡ answer
    → P (vehicle_of kept) (vehicle_of now) answer
    → P (vehicle_in old.past (vehicle_of was) old.moments) (vehicle_in new.past (vehicle_of now) new.moments)
    result
between P old new was kept now answer result same is led =
    subst (λ (v : Vehicle). P v (vehicle_in new.past (vehicle_of now) new.moments) result)
    (sym (now_is old (vehicle_of was)))
    (subst (λ (v : Vehicle). P (vehicle_of was) v result) (sym (now_is new (vehicle_of now)))
    (subst (λ r. P (vehicle_of was) (vehicle_of now) r) (sym is)
    (subst (λ (w : World). P (vehicle_of w) (vehicle_of now) answer) same led)))

-- a piece that is always plain is so where nothing was garbled
pub plain : (out : List ℕ) (Clean : Type 0) (old new : Vehicle) (result : Result Got DeviceFault)
    → Received out (Unit {0}) old new result → Received out Clean old new result
plain out Clean old new (Ok Quiet) ticks = ticks
plain out Clean old new (Ok (Bytes n)) took = (took.0, λ clean. took.1 tt)
plain out Clean old new (Err e) misses = misses

-- ------ at the last moment
pub late_sent : (bytes : List ℕ) (old new : Told) (w : World) (result : Result Unit DeviceFault)
    → Feeds [] (vehicle_of w) (vehicle_of w) → IsErr result
    → Sent bytes (vehicle_in old.past (vehicle_of w) old.moments) (vehicle_in new.past (vehicle_of w) new.moments)
    result
late_sent bytes old new w (Ok done) feeds fails = absurd (both_ways false refl fails)
late_sent bytes old new w (Err e) feeds fails =
    between (λ a b r. Sent bytes a b r) old new w w w (Err e) (Err e) refl refl (not_sent bytes (vehicle_of w) e feeds)

pub late_received : (out : List ℕ) (Clean : Type 0) (old new : Told) (w : World)
    (result : Result Got DeviceFault) → IsErr result
    → Received out Clean (vehicle_in old.past (vehicle_of w) old.moments)
    (vehicle_in new.past (vehicle_of w) new.moments) result
late_received out Clean old new w (Ok got) fails = absurd (both_ways false refl fails)
late_received out Clean old new w (Err e) fails =
    between (λ a b r. Received out Clean a b r) old new w w w (Err e) (Err e) refl refl (misses_none (vehicle_of w))
