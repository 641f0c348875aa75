-- Loops over the entries of a group.
use Rattle.std.proofs.Common.{◌≡◌, ℕ, zero, suc, ◌+◌, ◌-◌, ◌<◌, ◌≤◌, true, false, List, [], ◌∷◌, ◌++◌, length, take, drop, slice_get, Some, refl, sym, ◌∙◌, ap, subst, arith, add-one}
use Rattle.std.specs.Prelude.{Bool, map, not, ◌&&◌, ◌||◌, is_some, if◌then◌else◌}
use Rattle.barrier_board.specs.Board.{has_entry}
use Rattle.bay_core.specs.Core.{Core, core_start, core_after}
use Rattle.bay_core.specs.declared.event.Event.{Event}
use Rattle.flash_plan.specs.declared.outcome.Entry.{Entry}
use Rattle.flash_plan.specs.Plan.{plan_of}
use Rattle.flash_run.proofs.Lists.{core_more}
use Rattle.flash_run.proofs.Rooms.{left_after}
use Rattle.flash_run.proofs.Needs.{stopped_by}
use Rattle.flash_run.specs.Group.{entries_by, entries_due, group_below, takes_all, TakesAll}
use Rattle.flash_run.specs.Need.{ask_in, seen_ask, need_of, need_by, is_linked, says_done}
use Rattle.flash_run.specs.Run.{RunState, core_of_run, with_event, may_take, left_in, is_open, is_stopped, seen_core}
use Rattle.flash_run.specs.declared.need.Need.{Need}
use Rattle.flash_run.specs.declared.need.Need.TheVariants as need
use Rattle.unit_session.specs.Session.{ask_of}
use Rattle.unit_session.specs.declared.session.Ask.{Ask}

-- ------ what is left of a list
rest_at : {X : Type 0} (xs : List X) (n i : ℕ) (x : X) → slice_get xs i ≡ Some x → i < n → drop i (take n xs) ≡ x ∷ drop (suc i) (take n xs)
rest_at [] n i x is lt = cc
rest_at (y ∷ ys) zero i x is lt = absurd (omega (arith, lt))
rest_at (y ∷ ys) (suc n) zero x is lt = let same : y ≡ x = cc in ap (λ z. z ∷ take n ys) same
rest_at (y ∷ ys) (suc n) (suc i) x is lt = rest_at ys n i x is (omega (arith, lt))

pub rest_more : {X : Type 0} (xs : List X) (n i : ℕ) (x : X) → slice_get xs i ≡ Some x → i < n → drop i (take n xs) ≡ x ∷ drop (i + 1) (take n xs)
rest_more xs n i x is lt = rest_at xs n i x is lt ∙ ap (λ (k : ℕ). x ∷ drop k (take n xs)) (sym (add-one i))

-- ------ a loop that notes an event of each entry: what is left may be taken, leads to the same end, and has its room
pub record IsNoting (f : Entry → Event) (start now : RunState) (all rest : List Entry) (left : ℕ) : Type 0 where
  pub plan : now.plan ≡ start.plan
  pub rules : now.rules ≡ start.rules
  pub takes : TakesAll now (map f rest)
  pub ends : takes_all (map f rest) now ≡ takes_all (map f all) start
  pub room : left_in now.plan (core_of_run now) + left ≤ now.room

core_with : (r : RunState) (e : Event) → core_of_run (with_event e r) ≡ core_after r.rules r.plan e (core_of_run r)
core_with r e = core_more r.rules r.plan (core_start r.plan (has_entry r.found)) r.events e

pub note_next : (f : Entry → Event) (start now : RunState) (all rest rest2 : List Entry) (left : ℕ) (e : Entry) → rest ≡ e ∷ rest2 → IsNoting f start now all rest (left + 1) → (may_take now (f e) ≡ true) × (left_in now.plan (core_after now.rules now.plan (f e) (core_of_run now)) + 1 ≤ now.room)
note_next f start now all rest rest2 left e is n =
    let takes : TakesAll now (map f (e ∷ rest2)) = subst (λ (es : List Entry). TakesAll now (map f es)) is n.takes in
    let less = left_after now.rules now.plan (f e) (core_of_run now) in
    (takes.0, omega (arith, less, n.room))

pub noted_next : (f : Entry → Event) (start now now2 : RunState) (all rest rest2 : List Entry) (left : ℕ) (e : Entry) → rest ≡ e ∷ rest2 → now2 ≡ with_event (f e) now → IsNoting f start now all rest (left + 1) → IsNoting f start now2 all rest2 left
noted_next f start now now2 all rest rest2 left e is did n =
    let takes : TakesAll now (map f (e ∷ rest2)) = subst (λ (es : List Entry). TakesAll now (map f es)) is n.takes in
    let ends : takes_all (map f (e ∷ rest2)) now ≡ takes_all (map f all) start = subst (λ (es : List Entry). takes_all (map f es) now ≡ takes_all (map f all) start) is n.ends in
    let less = left_after now.rules now.plan (f e) (core_of_run now) in
    let same : left_in now.plan (core_of_run (with_event (f e) now)) ≡ left_in now.plan (core_after now.rules now.plan (f e) (core_of_run now)) = ap (λ (c : Core). left_in now.plan c) (core_with now (f e)) in
    let room : left_in now.plan (core_of_run (with_event (f e) now)) + left ≤ now.room - 1 = omega (arith, less, same, n.room) in
    subst (λ (x : RunState). IsNoting f start x all rest2 left) (sym did) (record { plan = n.plan; rules = n.rules; takes = takes.1; ends = ends; room = room })

pub noting_starts : (f : Entry → Event) (start : RunState) (all : List Entry) (left : ℕ) → TakesAll start (map f all) → left_in start.plan (core_of_run start) + left ≤ start.room → IsNoting f start start all all left
noting_starts f start all left takes room = record { plan = refl; rules = refl; takes = takes; ends = refl; room = room }

-- ------ the entry of a unit, by what is kept
stopped_same : (u : ℕ) (a b : Ask) (done failed : Bool) → entries_by u a (if done && not failed then need.Complete else need.End) ≡ entries_by u b (if done && not failed then need.Complete else need.End)
stopped_same u a b true true = refl
stopped_same u a b true false = refl
stopped_same u a b false failed = refl

fed_ask : (r : RunState) (u : ℕ) → r.starved ≡ false → seen_ask r u ≡ ask_in r u
fed_ask r u e = ap (λ (b : Bool). ask_of (plan_of r.plan u) ((seen_core r.plan b (core_of_run r)).slots u).talk) e

pub entries_seen : (r : RunState) (u : ℕ) → entries_by u (seen_ask r u) (need_of r u) ≡ entries_due r u
entries_seen r u = by r.starved refl
  where
    by : (b : Bool) → r.starved ≡ b → entries_by u (seen_ask r u) (need_of r u) ≡ entries_due r u
    by true e = stops (is_open r u) refl
      where
        stops : (o : Bool) → is_open r u ≡ o → entries_by u (seen_ask r u) (need_of r u) ≡ entries_by u (ask_in r u) (need_of r u)
        stops true opens =
            let stopped : is_stopped r ≡ true = ap (λ (y : Bool). y || is_some (core_of_run r).halt.stop) e in
            let is : need_of r u ≡ (if says_done (ask_in r u) && not (core_of_run r).halt.failed then need.Complete else need.End) =
            ap (λ (y : Bool). if y then need_by (core_of_run r).halt.failed (is_stopped r) (is_linked (core_of_run r)) (ask_in r u) else need.Gone) opens
            ∙ ap (λ (y : Bool). need_by (core_of_run r).halt.failed y (is_linked (core_of_run r)) (ask_in r u)) stopped
            ∙ stopped_by (core_of_run r).halt.failed (is_linked (core_of_run r)) (ask_in r u) in
            ap (λ (n : Need). entries_by u (seen_ask r u) n) is ∙ stopped_same u (seen_ask r u) (ask_in r u) (says_done (ask_in r u)) (core_of_run r).halt.failed ∙ ap (λ (n : Need). entries_by u (ask_in r u) n) (sym is)
        stops false shuts =
            let is : need_of r u ≡ need.Gone = ap (λ (y : Bool). if y then need_by (core_of_run r).halt.failed (is_stopped r) (is_linked (core_of_run r)) (ask_in r u) else need.Gone) shuts in
            ap (λ (n : Need). entries_by u (seen_ask r u) n) is ∙ ap (λ (n : Need). entries_by u (ask_in r u) n) (sym is)
    by false e = ap (λ (a : Ask). entries_by u a (need_of r u)) (fed_ask r u e)

pub group_grown : (r : RunState) (n : ℕ) (g g2 : List Entry) (a : Ask) (k : Need) → g2 ≡ g ++ entries_by n a k → g ≡ group_below r n → a ≡ seen_ask r n → k ≡ need_of r n → g2 ≡ group_below r (n + 1)
group_grown r n g g2 a k more so_far asks needs =
    more ∙ (λ i. so_far i ++ entries_by n (asks i) (needs i)) ∙ ap (λ (es : List Entry). group_below r n ++ es) (entries_seen r n) ∙ ap (λ (m : ℕ). group_below r m) (sym (add-one n))

pub one_less : (a b : ℕ) → a < b → b - a ≡ b - (a + 1) + 1
one_less a b lt = omega (arith, lt)

-- ------ several events at once
abbrev set_room : ℕ → RunState → RunState
set_room n r = record r { room = n }

-- what may be taken does not hang on room
pub takes_room : (es : List Event) (r : RunState) (n : ℕ) → TakesAll r es → TakesAll (set_room n r) es
takes_room [] r n takes = tt
takes_room (e ∷ es) r n takes = (takes.0, takes_room es (with_event e r) (n - 1) takes.1)

joined : (xs : List Event) (y : Event) (ys : List Event) → (xs ++ y ∷ []) ++ ys ≡ xs ++ y ∷ ys
joined [] y ys = refl
joined (x ∷ xs) y ys = ap (λ (l : List Event). x ∷ l) (joined xs y ys)

append_nil : (xs : List Event) → xs ++ [] ≡ xs
append_nil [] = refl
append_nil (x ∷ xs) = ap (λ (l : List Event). x ∷ l) (append_nil xs)

pub takes_all_is : (es : List Event) (r : RunState) → takes_all es r ≡ record r { events = r.events ++ es; room = r.room - length es }
takes_all_is [] r = λ i. record r { events = none r.events i; room = same i }
  where
    none : (xs : List Event) → xs ≡ xs ++ []
    none xs = sym (append_nil xs)

    same : r.room ≡ r.room - 0
    same = omega arith
takes_all_is (e ∷ es) r = takes_all_is es (with_event e r) ∙ (λ i. record r { events = joined r.events e es i; room = less i })
  where
    less : r.room - 1 - length es ≡ r.room - length (e ∷ es)
    less = omega arith
