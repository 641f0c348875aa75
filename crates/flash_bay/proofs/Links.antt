-- What a call of the link keeps of a bay, with the room that was taken for its event.
use Rattle.std.proofs.Common.{◌≡◌, ◌⊎◌, inl, ℕ, ◌+◌, ◌-◌, ◌≤◌, true, false, None, Some, refl, sym, ◌∙◌, ap, subst, arith}
use Rattle.std.specs.Prelude.{Bool, Option, IsTrue, not, ◌&&◌, ◌||◌, is_some, is_none}
use Rattle.std.proofs.lemmas.Bool.{false≢true, and_parts, and_from}
use Rattle.bay_core.specs.Core.{core_after}
use Rattle.bay_core.specs.Legal.{is_allowed, is_running, fits_link}
use Rattle.bay_core.specs.declared.event.Event.{Event}
use Rattle.bay_core.specs.declared.event.Event.TheVariants.{Tended}
use Rattle.bay_core.specs.declared.event.Heard.TheVariants as heard
use Rattle.bay_core.specs.declared.event.Tend.{Tend}
use Rattle.bay_core.specs.declared.event.Tend.TheVariants.{Dialed, Asked, Said, Polled}
use Rattle.bay_law.proofs.Links.{dial_keeps, ask_keeps, say_keeps, polled_keeps}
use Rattle.bay_law.proofs.Starving.{starve_still, starve_stray}
use Rattle.bay_law.proofs.Steps.{any_room}
use Rattle.flash_bay.specs.Receiving.{LinkStep, Starves, Tends, is_tending, tended_by}
use Rattle.flash_bay.specs.State.{BayState, IsBayOf, state_of}
use Rattle.flash_bay.specs.declared.answers.Tended as answer
use Rattle.flash_journal.specs.Kept.{IsKeptOn}
use Rattle.flash_journal.specs.declared.journal.Journal.{Journal}
use Rattle.flash_plan.specs.declared.outcome.Outcome.{Outcome}
use Rattle.flash_run.proofs.Rooms.{left_after}
use Rattle.flash_run.specs.Need.{is_linked}
use Rattle.flash_run.specs.Run.{RunState, IsKept, core_of_run, with_event, with_room, may_take, left_in, is_stopped}
use Rattle.gateway_link.specs.Calls.{StraysOnce}
use Rattle.run_model.proofs.Phases.{asked_is, dialed_live, up_live}
use Rattle.run_model.specs.Link.{Phase, is_asked, is_live, is_up}
use Rattle.shop_model.specs.History.{History, LAST}

-- ------ a run whose link is tended
unstopped : (b : Bool) (o : Option Outcome) → not (b || is_some o) ≡ true → (b ≡ false) × (is_none o ≡ true)
unstopped true o e = absurd (false≢true e)
unstopped false None e = (refl, refl)
unstopped false (Some x) e = absurd (false≢true e)

pub tending_fed : (r : RunState) → is_tending r ≡ true → (r.starved ≡ false) × (is_running (core_of_run r) ≡ true)
tending_fed r due = unstopped r.starved (core_of_run r).halt.stop (and_parts (not (is_stopped r)) (not (is_linked (core_of_run r))) due).0

pub fed_may : (b c : Bool) → b ≡ false → (not b || c) ≡ true
fed_may true c e = absurd (false≢true (sym e))
fed_may false c e = refl

pub tend_may : (r : RunState) (step : Tend) → is_tending r ≡ true → fits_link (core_of_run r) step ≡ true → may_take r (Tended step) ≡ true
tend_may r step due fits =
    let fed = tending_fed r due in
    and_from (not r.starved || false) (is_running (core_of_run r) && fits_link (core_of_run r) step) (fed_may r.starved false fed.0) (and_from (is_running (core_of_run r)) (fits_link (core_of_run r) step) fed.1 fits)

pub allowed_of : (r : RunState) (step : Tend) → may_take r (Tended step) ≡ true → is_allowed r.plan (core_of_run r) (Tended step) ≡ true
allowed_of r step may = (and_parts (not r.starved || false) (is_allowed r.plan (core_of_run r) (Tended step)) may).1

-- ------ in room that was taken
pub room_for : (r : RunState) (e : Event) (room : ℕ) → left_in r.plan (core_of_run r) + 1 ≤ room → left_in r.plan (core_after r.rules r.plan e (core_of_run r)) + 1 ≤ room
room_for r e room spare =
    let less : left_in r.plan (core_after r.rules r.plan e (core_of_run r)) ≤ left_in r.plan (core_of_run r) = left_after r.rules r.plan e (core_of_run r) in
    omega (arith, less, spare)

pub may_roomed : (r r1 : RunState) (e : Event) → r1 ≡ with_room 1 r → may_take r e ≡ true → may_take r1 e ≡ true
may_roomed r r1 e is may = subst (λ (x : RunState). may_take x e ≡ true) (sym is) may

pub spare_room : (r r1 : RunState) → r1 ≡ with_room 1 r → left_in r.plan (core_of_run r) + 1 ≤ r1.room → left_in r1.plan (core_of_run r1) + 1 ≤ r1.room
spare_room r r1 is spare = subst (λ (x : RunState). left_in x.plan (core_of_run x) + 1 ≤ r1.room) (sym is) spare

pub note_room : (r r1 : RunState) (e : Event) → r1 ≡ with_room 1 r → left_in r.plan (core_of_run r) + 1 ≤ r1.room → left_in r1.plan (core_after r1.rules r1.plan e (core_of_run r1)) + 1 ≤ r1.room
note_room r r1 e is spare = room_for r1 e r1.room (spare_room r r1 is spare)

pub noted_is : (r r1 r2 : RunState) (e : Event) → r1 ≡ with_room 1 r → r2 ≡ with_event e r1 → r2 ≡ with_event e (with_room 1 r)
noted_is r r1 r2 e is did = did ∙ ap (λ (x : RunState). with_event e x) is

pub fed_roomed : (r r1 : RunState) → r1 ≡ with_room 1 r → r.starved ≡ false → r1.starved ≡ false
fed_roomed r r1 is fed = ap (λ (x : RunState). x.starved) is ∙ fed

pub fed_after : (r r1 r2 : RunState) (e : Event) → r1 ≡ with_room 1 r → r2 ≡ with_event e r1 → r.starved ≡ false → r2.starved ≡ false
fed_after r r1 r2 e is did fed = ap (λ (x : RunState). x.starved) (noted_is r r1 r2 e is did) ∙ fed

pub roomed_event : (td tv : Bool) (r r2 : RunState) (e : Event) (first now : History) (j : Journal) → r2 ≡ with_event e (with_room 1 r) → IsBayOf td tv (with_event e r) first now j → IsBayOf td tv r2 first now j
roomed_event td tv r r2 e first now j did is =
    subst (λ (x : RunState). IsBayOf td tv x first now j) (sym did) (any_room td tv (with_event e r) (r.room + 1 - 1) first now (state_of j) (IsKeptOn j) is)

-- ------ want of memory
pub starved_keeps : (td tv : Bool) (r r2 : RunState) (first now : History) (j : Journal) → r.starved ≡ false → r2 ≡ record r { starved = true } → IsBayOf td tv r first now j → IsBayOf td tv r2 first now j
starved_keeps td tv r r2 first now j fed did is = subst (λ (x : RunState). IsBayOf td tv x first now j) (sym did) (starve_still td tv r first now (state_of j) (IsKeptOn j) fed is)

pub stray_keeps : (td tv : Bool) (r r2 : RunState) (room : ℕ) (first old new : History) (j : Journal) → IsKept r → r.starved ≡ false → old.moment ≤ LAST → StraysOnce tv old new → r2 ≡ record r { starved = true; room = room } → IsBayOf td tv r first old j → IsBayOf td tv r2 first new j
stray_keeps td tv r r2 room first old new j is_kept fed bounded did is here =
    subst (λ (x : RunState). IsBayOf td tv x first new j) (sym is) (any_room td tv (record r { starved = true }) room first new (state_of j) (IsKeptOn j) (starve_stray td tv r first old new (state_of j) (IsKeptOn j) is_kept fed bounded did here))

-- no call was made, or one receive
pub starves_as : {S : Type 0} (tv : Bool) (history : S → History) (b : BayState S) (r r2 : RunState) (first shop shop2 : S) (a room : ℕ) → ◌≡◌ {A = BayState S} (record { run = r; first = first; shop = shop; slots = a }) b → r2 ≡ record r { starved = true; room = room } → r.room ≤ room
    → ((shop2 ≡ shop) ⊎ StraysOnce tv (history shop) (history shop2)) → Starves tv history b (record { run = r2; first = first; shop = shop2; slots = a })
starves_as {S = S} tv history b r r2 first shop shop2 a room view did le call =
    subst (λ (x : BayState S × RunState). Starves tv history x.0 (record { run = x.1; first = first; shop = shop2; slots = a })) (λ i. (view i, sym did i)) (record { run = refl; room = le; first = refl; slots = refl; call = call })

pub starves_still : {S : Type 0} (tv : Bool) (history : S → History) (b : BayState S) (r r2 : RunState) (first shop : S) (a : ℕ) → ◌≡◌ {A = BayState S} (record { run = r; first = first; shop = shop; slots = a }) b → r2 ≡ record r { starved = true }
    → Starves tv history b (record { run = r2; first = first; shop = shop; slots = a })
starves_still tv history b r r2 first shop a view did = starves_as tv history b r r2 first shop shop a r.room view did (omega arith) (inl refl)

-- ------ one step of the link
asked_live : (p : Phase) → is_asked p ≡ true → is_live p ≡ true
asked_live p e = ap (λ (x : Phase). is_live x) (asked_is p e)

module _ (td tv : Bool) (r : RunState) (first old : History) (j : Journal) (is : IsBayOf td tv r first old j) where
  pub linked_at : (p : Phase) → is_live p ≡ true → (core_of_run r).link.phase ≡ p → IsTrue old.linked
  linked_at p lives at = is.linked (ap (λ (x : Phase). is_live x) at ∙ lives)

module _ (td tv : Bool) (r : RunState) (first old new : History) (j : Journal) (kept : IsKept r) (due : is_tending r ≡ true) (bounded : old.moment ≤ LAST) (is : IsBayOf td tv r first old j) where
  fits_of : (step : Tend) → may_take r (Tended step) ≡ true → fits_link (core_of_run r) step ≡ true
  fits_of step may = (and_parts (is_running (core_of_run r)) (fits_link (core_of_run r) step) (allowed_of r step may)).1

  step_keeps : (step : Tend) → may_take r (Tended step) ≡ true → LinkStep tv r.rules step old new → IsBayOf td tv (with_event (Tended step) r) first new j
  step_keeps (Dialed lost) may did = dial_keeps td tv r first old new (state_of j) (IsKeptOn j) kept (tending_fed r due).0 bounded is lost (allowed_of r (Dialed lost) may) did
  step_keeps (Asked lost) may did =
      ask_keeps td tv r first old new (state_of j) (IsKeptOn j) kept (tending_fed r due).0 bounded is lost (allowed_of r (Asked lost) may) (is.linked (dialed_live (core_of_run r).link.phase (fits_of (Asked lost) may))) did
  step_keeps (Said lost) may did =
      say_keeps td tv r first old new (state_of j) (IsKeptOn j) kept (tending_fed r due).0 bounded is lost (allowed_of r (Said lost) may)
      (is.linked (up_live (core_of_run r).link.phase (and_parts (is_up (core_of_run r).link.phase) (core_of_run r).link.owes (fits_of (Said lost) may)).0)) did
  step_keeps (Polled heard.Kept) may did = absurd (false≢true (fits_of (Polled heard.Kept) may))
  step_keeps (Polled heard.Quiet) may did =
      polled_keeps td tv r first old new (state_of j) (IsKeptOn j) kept (tending_fed r due).0 bounded is heard.Quiet (allowed_of r (Polled heard.Quiet) may) (is.linked (asked_live (core_of_run r).link.phase (fits_of (Polled heard.Quiet) may))) did
  step_keeps (Polled (heard.Piece bytes)) may did =
      polled_keeps td tv r first old new (state_of j) (IsKeptOn j) kept (tending_fed r due).0 bounded is (heard.Piece bytes) (allowed_of r (Polled (heard.Piece bytes)) may)
      (is.linked (asked_live (core_of_run r).link.phase (fits_of (Polled (heard.Piece bytes)) may))) did
  step_keeps (Polled heard.Lost) may did =
      polled_keeps td tv r first old new (state_of j) (IsKeptOn j) kept (tending_fed r due).0 bounded is heard.Lost (allowed_of r (Polled heard.Lost) may) (is.linked (asked_live (core_of_run r).link.phase (fits_of (Polled heard.Lost) may))) did

  -- in room that was taken
  pub tended_keeps : (r1 r2 : RunState) (step : Tend) → may_take r (Tended step) ≡ true → LinkStep tv r.rules step old new → r1 ≡ with_room 1 r → r2 ≡ with_event (Tended step) r1 → IsBayOf td tv r2 first new j
  tended_keeps r1 r2 step may did room noted = roomed_event td tv r r2 (Tended step) first new j (noted_is r r1 r2 (Tended step) room noted) (step_keeps step may did)

room_same : (n : ℕ) → n ≤ n + 1 - 1
room_same n = omega arith

-- what it answers
pub tends_is : {S : Type 0} (tv : Bool) (history : S → History) (b : BayState S) (r r1 r2 : RunState) (first shop shop2 : S) (a : ℕ) (step : Tend) (before : ℕ) (said : answer.Tended) → ◌≡◌ {A = BayState S} (record { run = r; first = first; shop = shop; slots = a }) b
    → may_take r (Tended step) ≡ true → r1 ≡ with_room 1 r → r2 ≡ with_event (Tended step) r1 → LinkStep tv r.rules step (history shop) (history shop2) → before ≡ (core_of_run r).link.losses → said ≡ tended_by r2.rules before (core_of_run r2)
    → Tends tv history b said (record { run = r2; first = first; shop = shop2; slots = a })
tends_is {S = S} tv history b r r1 r2 first shop shop2 a step before said view may room noted call was says =
    let r3 : RunState = with_event (Tended step) (with_room 1 r) in
    let same : r2 ≡ r3 = noted_is r r1 r2 (Tended step) room noted in
    let said_so : said ≡ tended_by r3.rules (core_of_run r).link.losses (core_of_run r3) = says ∙ (λ i. tended_by (same i).rules (was i) (core_of_run (same i))) in
    let here : Tends tv history (record { run = r; first = first; shop = shop; slots = a }) said (record { run = r3; first = first; shop = shop2; slots = a }) = record {
      step = step;
      adds = record { adds = record { opening = record { plan = refl; rules = refl; found = refl; first = refl }; events = refl; starved = refl; room = room_same r.room }; allowed = may; slots = refl };
      call = call;
      answer = said_so;
    } in
    subst (λ (x : BayState S × RunState). Tends tv history x.0 said (record { run = x.1; first = first; shop = shop2; slots = a })) (λ i. (view i, sym same i)) here
