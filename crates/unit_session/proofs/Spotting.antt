-- The spot of a stage is that of its place, and names its request.
use Rattle.std.proofs.Common.{◌≡◌, ℕ, suc, ◌+◌, ◌-◌, ◌<◌, ◌≤◌, true, List, [], ◌∷◌, ◌++◌, length, take, drop, refl, sym, ◌∙◌, ap, subst, arith, length-drop}
use Rattle.std.specs.Prelude.{min, replicate}
use Rattle.std.proofs.lemmas.Bool.{false≢true}
use Rattle.std.proofs.lemmas.List.{length-take-le}
use Rattle.std.proofs.Math.Seq.{take-append_seam}
use Rattle.flash_plan.specs.Plan.{IsAcceptedUnit, segment_of}
use Rattle.flash_plan.specs.declared.unit.UnitPlan.{UnitPlan}
use Rattle.flash_plan.specs.declared.unit.Wanted.{Wanted}
use Rattle.doip_frame.specs.Frame.{message_bytes}
use Rattle.run_model.proofs.Along.{says}
use Rattle.run_model.specs.Places.{needs_request}
use Rattle.run_model.specs.Script.{AtKey, bytes_at, idents_from}
use Rattle.unit_session.specs.Session.{place_at, IsStage, IsKeyStage, seed_bytes, level_or_none}
use Rattle.uds_codec.specs.Key.{level_of}
use Rattle.unit_session.specs.Prepared.{IsReady}
use Rattle.unit_session.specs.Spots.{IsAsking, IsSpotOf, spot_of, spot_at, spot_with, key_spot, block_spot, padded, stage_by, request_by}
use Rattle.unit_session.specs.declared.spot.Spot.{Spot}
use Rattle.unit_session.specs.declared.stage.KeptSeed.{KeptSeed}
use Rattle.unit_session.specs.declared.stage.Stage.{Stage}
use Rattle.unit_session.specs.declared.stage.Stage.TheVariants.{Ident, Program, Seed, Key, Erase, Download, Block, Exit, Check, Mark, Finish, Reset, Done, Ended}
use Rattle.unit_session.proofs.Keeps.{stage_good}
use Rattle.unit_session.proofs.Leads.{body_small}

count : (u : UnitPlan) (n : ℕ) → n < length u.segments → n ≡ length (take n u.segments)
count u n lt = sym (length-take-le n u.segments (omega (arith, lt)))

-- the number of the identifier, by those that are left
ident_spot : (u : UnitPlan) (n : ℕ) (ws : List Wanted) → length ws + n ≡ length u.idents → spot_with 0 n 0 ≡ spot_of u (idents_from ws)
ident_spot u n [] e = ap (λ (k : ℕ). spot_with 0 k 0) (omega (arith, e))
ident_spot u n (w ∷ ws) e = ap (λ (k : ℕ). spot_with 0 k 0) (omega (arith, e))

spot_is : (u : UnitPlan) (stage : Stage) → IsAcceptedUnit u → IsStage u stage → spot_at stage ≡ spot_of u (place_at u stage)
spot_is u (Ident n) ok is = ident_spot u n (drop n u.idents) (omega (arith, length-drop n u.idents, is))
spot_is u Program ok is = refl
spot_is u Seed ok is = refl
spot_is u (Key seed) ok is = let e : min seed.size 32 ≡ seed.size = omega (arith, is.size) in ap (λ (k : ℕ). key_spot (take k seed.bytes)) e
spot_is u (Erase n) ok is = ap (λ (k : ℕ). spot_with 4 k 0) (count u n is)
spot_is u (Download n) ok is = ap (λ (k : ℕ). spot_with 4 k 1) (count u n is)
spot_is u (Block n sent counter limit) ok is =
    let some : min sent 4294967295 ≡ sent = omega (arith, is.within, body_small u n ok) in
    let here : sent ≡ length (take sent (segment_of u n).body) = sym (length-take-le sent (segment_of u n).body (omega (arith, is.within))) in
    let number : n ≡ length (take n u.segments) = count u n is.segment in
    (ap (λ (k : ℕ). block_spot n k counter limit) (some ∙ here)) ∙ ap (λ (k : ℕ). block_spot k (length (take sent (segment_of u n).body)) counter limit) number
spot_is u (Exit n) ok is = ap (λ (k : ℕ). spot_with 4 k 3) (count u n is)
spot_is u (Check n) ok is = ap (λ (k : ℕ). spot_with 4 k 4) (count u n is)
spot_is u (Mark n next) ok is = ap (λ (k : ℕ). spot_with 4 k 5) (count u n is)
spot_is u Finish ok is = refl
spot_is u Reset ok is = refl
spot_is u Done ok is = refl
spot_is u (Ended outcome) ok is = refl

-- ------ and back
abbrev Names : UnitPlan → Stage → Stage → Type 0
Names u stage s = IsStage u s × (place_at u s ≡ place_at u stage)

filled : (seed : List ℕ) → take (length seed) (padded seed) ≡ seed
filled seed = take-append_seam seed (drop (length seed) (replicate 32 0))

key_back : (u : UnitPlan) (seed : KeptSeed) → IsKeyStage u seed → Names u (Key seed) (stage_by (key_spot (seed_bytes seed)))
key_back u seed is =
    let e = filled (seed_bytes seed) in (
      record {
        keyed = is.keyed;
        size = is.few;
        some = subst (λ (xs : List ℕ). 1 ≤ length xs) (sym e) is.some;
        few = subst (λ (xs : List ℕ). length xs ≤ 32) (sym e) is.few;
      },
      ap (λ (xs : List ℕ). AtKey (level_or_none (level_of u.key)) xs) e,
    )

names : (u : UnitPlan) (stage : Stage) → IsAcceptedUnit u → IsStage u stage → needs_request (place_at u stage) ≡ true → Names u stage (stage_by (spot_at stage))
names u (Ident n) ok is needs = (is, refl)
names u Program ok is needs = (tt, refl)
names u Seed ok is needs = (is, refl)
names u (Key seed) ok is needs =
    let e : seed.size ≡ min seed.size 32 = omega (arith, is.size) in
    subst (λ (k : ℕ). Names u (Key seed) (stage_by (key_spot (take k seed.bytes)))) e (key_back u seed is)
names u (Erase n) ok is needs = (is, refl)
names u (Download n) ok is needs = (is, refl)
names u (Block n sent counter limit) ok is needs =
    let some : sent ≡ min sent 4294967295 = omega (arith, is.within, body_small u n ok) in
    let few : limit ≡ min limit 65535 = omega (arith, is.high) in
    let first : Names u (Block n sent counter limit) (Block n (min sent 4294967295) counter limit) =
    subst (λ (k : ℕ). Names u (Block n sent counter limit) (Block n k counter limit)) some (is, refl) in
    subst (λ (k : ℕ). Names u (Block n sent counter limit) (Block n (min sent 4294967295) counter k)) few first
names u (Exit n) ok is needs = (is, refl)
names u (Check n) ok is needs = (is, refl)
names u (Mark n next) ok is needs = absurd (false≢true needs)
names u Finish ok is needs = (tt, refl)
names u Reset ok is needs = (tt, refl)
names u Done ok is needs = absurd (false≢true needs)
names u (Ended outcome) ok is needs = absurd (false≢true needs)

pub spot_says : (u : UnitPlan) (stage : Stage) → IsAcceptedUnit u → IsStage u stage → IsSpotOf u (place_at u stage) (spot_at stage)
spot_says u stage ok is = record {
  is = spot_is u stage ok is;
  asks = λ needs. let n = names u stage ok is needs in record { stage = n.0; needs = ap needs_request n.1 ∙ needs };
  request = λ needs. ap (bytes_at u) (names u stage ok is needs).1;
}

pub spot_like : (u : UnitPlan) (stage : Stage) (s : Spot) → s ≡ spot_at stage → IsAcceptedUnit u → IsStage u stage → IsSpotOf u (place_at u stage) s
spot_like u stage s e ok is = subst (λ (x : Spot). IsSpotOf u (place_at u stage) x) (sym e) (spot_says u stage ok is)

-- ------ the request of a spot can be sent
pub asked_some : (u : UnitPlan) (s : Spot) → IsAcceptedUnit u → IsAsking u s → 1 ≤ length (request_by u s)
asked_some u s ok is = let good = stage_good u (stage_by s) ok is.stage in (says u (place_at u (stage_by s)) ok good.place_is good.asked is.needs).can.some

pub asked_few : (u : UnitPlan) (s : Spot) → IsAcceptedUnit u → IsAsking u s → length (request_by u s) ≤ 65535
asked_few u s ok is = let good = stage_good u (stage_by s) ok is.stage in (says u (place_at u (stage_by s)) ok good.place_is good.asked is.needs).can.few

pub message_some : (tester address : ℕ) (body : List ℕ) → 1 ≤ length (message_bytes tester address body)
message_some tester address body = omega arith

pub message_few : (tester address : ℕ) (body : List ℕ) → length body ≤ 65535 → length (message_bytes tester address body) ≤ 65600
message_few tester address body few = omega (arith, few)

pub ready_is : (tester number : ℕ) (v u : UnitPlan) (s : Spot) (body frame : List ℕ) → v ≡ u → IsAcceptedUnit u → IsAsking u s → body ≡ request_by u s → frame ≡ message_bytes tester u.address body → IsReady (record { tester = tester; number = number; unit = v; spot = s }) frame
ready_is tester number v u s body frame same ok asks is spelled =
    let whole : frame ≡ message_bytes tester u.address (request_by u s) = spelled ∙ ap (λ (xs : List ℕ). message_bytes tester u.address xs) is in
    subst (λ (x : UnitPlan × List ℕ). IsReady (record { tester = tester; number = number; unit = x.0; spot = s }) x.1) (λ i. (sym same i, sym whole i)) (record {
      accepted = ok;
      asks = asks;
      is = refl;
      some = message_some tester u.address (request_by u s);
      few = message_few tester u.address (request_by u s) (asked_few u s ok asks);
    })
