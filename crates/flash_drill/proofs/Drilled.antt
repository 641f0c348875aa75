-- A drill's run, and what the drill promises by it.
use mathlib.Core.Logic.{∥∥₁_map}
use Rattle.std.proofs.Common.{◌<◌, ◌||◌, nat_lt, false, arith, ◌≡◌, ◌∙◌, ◌⊎◌, inl, inr, ℕ, true, Bool, List, [], ◌∷◌, codes, map, Some, None, refl, sym, ap, subst}
use Rattle.std.specs.Prelude.{Option, IfSome}
use Rattle.std.specs.Fmt.{digits}
use Rattle.bench_gen.specs.Files.{AreFiles}
use Rattle.drill_law.specs.Vehicles.{unit_specs}
use Rattle.flash_commands.specs.Running.{RunsOrder}
use Rattle.flash_commands.specs.Words.{run_named, run_order}
use Rattle.flash_drill.specs.Calm.{unit_addresses}
use Rattle.flash_drill.specs.Drilling.{Completes, Drills, EndsStarved, EndsWell, AllHold, ServesDrill, spec_of_drill, start_of_drill}
use Rattle.flash_drill.specs.Ending.{BeginsOver, IsPrintedRun, RunsOver}
use Rattle.flash_drill.specs.Words.{drill_number, number_in}
use Rattle.flash_drill.specs.Own.{IsQuiet}
use Rattle.flash_drill.proofs.Ends.{completes, ends_printed, good, printed_well, started}
use Rattle.flash_drill.proofs.Quiet.{same_addresses, vehicle_calm, vehicle_is}
use Rattle.flash_drill.proofs.Starting.{start_calm}
use Rattle.bench_shop.specs.Shops.{history_of}
use Rattle.bench_shop.specs.declared.shop.MemoryShop.{MemoryShop}
use Rattle.flash_commands.specs.Running.{IsCalm}
use Rattle.shop_model.specs.History.{vehicle_now}
use Rattle.unit_model.specs.Vehicle.{Vehicle}
use Rattle.vehicle_world.specs.Worlds.{made_of, world_of}
use Rattle.std.proofs.lemmas.Bool.{false≢true, lt-ltb}
use Rattle.std.proofs.lemmas.Bool.Decides.{nat_tests}
use Rattle.flash_shelf.specs.History.{ShelfHistory, SinkHistory}
use Rattle.flash_words.specs.Words.{command_of}
use Rattle.flash_words.specs.declared.command.Command.{Command as AnyCommand}
use Rattle.flash_words.specs.declared.command.Command.TheVariants as any
use Rattle.plan_commands.specs.Words.{looked_at, status_order}
use Rattle.plan_commands.specs.declared.status.Status.{Status as Ending}
use Rattle.plan_commands.specs.declared.status.Status.TheVariants.{Done, NoMemory}
use Rattle.shop_model.specs.History.{History}
use Rattle.unit_model.specs.Running.{unit_of}
use Rattle.unit_model.specs.declared.spec.UnitSpec.{UnitSpec}
use Rattle.unit_sim.specs.Sims.{made_of as sim_made}
use Rattle.vehicle_world.specs.States.{unit_in}

-- ------ the start
made_units : (us : List UnitSpec) → map unit_in (map sim_made us) ≡ map unit_of us
made_units [] = refl
made_units (u ∷ us) = ap (λ vs. unit_of u ∷ vs) (made_units us)

pub start_units : (n : ℕ) → (start_of_drill n).units ≡ map unit_of (unit_specs n)
start_units n = made_units (unit_specs n)

-- ------ the run
abbrev pub run_of_drill : List (List ℕ)
run_of_drill = codes "run" ∷ codes "drill.json" ∷ codes "4" ∷ []

is_run : run_order run_of_drill ≡ Some (codes "drill.json")
unfolding digits
is_run = refl

module _ (n : ℕ) (h0 h1 : History) (s0 s1 : ShelfHistory) (p0 p1 : SinkHistory) (words : List (List ℕ)) (status : Ending)
    (begins : BeginsOver (start_of_drill n) h0) (files : AreFiles n s0.contents) (empty : p0.written ≡ [])
    (said : words ≡ run_of_drill)
    (runs : (order : List ℕ) → run_order words ≡ Some order → RunsOrder true s0 s1 true true h0 h1 true p0 p1 order status) where
  pub over : RunsOver n (start_of_drill n) h1 p1 status
  over = record {
    first = h0;
    begins = begins;
    before = s0;
    behind = s1;
    files = files;
    blank = p0;
    empty = empty;
    runs = runs (codes "drill.json") (subst (λ (ws : List (List ℕ)). run_order ws ≡ Some (codes "drill.json")) (sym said) is_run);
  }

  pub drills : (tells : Bool) (k0 k1 : SinkHistory) (starved : Bool) (result : Ending) → IsPrintedRun tells k0 k1 n p1.written status starved result → Drills n h1 tells k0 k1 result
  drills tells k0 k1 starved result printed = record { page = p1; status = status; starved = starved; ran = over; printed = printed }

  pub ends : (tells : Bool) (k0 k1 : SinkHistory) (starved : Bool) (result : Ending) → IsPrintedRun tells k0 k1 n p1.written status starved result → result ≡ Done → EndsWell n h1 tells k0 k1
  ends tells k0 k1 starved result printed done = ends_printed n (start_of_drill n) h1 p1 status over tells k0 k1 starved result printed done

  pub started_so : h1.vehicle_at 0 ≡ start_of_drill n
  started_so = started n (start_of_drill n) h1 p1 status over

-- where the shop found no memory
pub ends_starved : (n : ℕ) (tells : Bool) (k0 k1 : SinkHistory) (lines : List ℕ) (status result : Ending) (shop page : ℕ) (starved : Bool) → starved ≡ (nat_lt 0 shop || nat_lt 0 page)
    → IsPrintedRun tells k0 k1 n lines status starved result → 0 < shop → EndsStarved n tells k0 k1 result
ends_starved n tells k0 k1 lines status result shop page true e p lt = p
ends_starved n tells k0 k1 lines status result shop page false e p lt = absurd (false≢true (e ∙ ap (λ (b : Bool). b || nat_lt 0 page) (lt-ltb 0 shop lt)))

-- where neither found none
fed_page : (shop page : ℕ) (starved : Bool) → starved ≡ (nat_lt 0 shop || nat_lt 0 page) → shop ≡ 0 → starved ≡ false → page ≡ 0
fed_page shop page starved e none f = grind (arith, nat_tests, e, none, f)

fed_shop : (shop page : ℕ) (starved : Bool) → starved ≡ (nat_lt 0 shop || nat_lt 0 page) → starved ≡ false → shop ≡ 0
fed_shop shop page starved e f = grind (arith, nat_tests, e, f)

not_done : (r : Ending) → r ≡ NoMemory → r ≡ Done → ⊥
not_done r a b = let e : NoMemory ≡ Done = sym a ∙ b in cc

module _ (n : ℕ) (s : MemoryShop) (h0 : History) (s0 s1 : ShelfHistory) (p0 p1 : SinkHistory) (words : List (List ℕ)) (status : Ending)
    (begins : BeginsOver (start_of_drill n) h0) (files : AreFiles n s0.contents) (empty : p0.written ≡ [])
    (said : words ≡ run_of_drill)
    (runs : (order : List ℕ) → run_order words ≡ Some order → RunsOrder true s0 s1 true true h0 (history_of s) true p0 p1 order status) where
  quiet_calm : s1.faults ≡ 0 → p1.faults ≡ 0 → IsQuiet s → IsCalm s0 s1 h0 (history_of s) p0 p1
  quiet_calm shelf page q = record {
    shelf = λ rises. omega (arith, rises, shelf);
    disk = λ rises. let d = q.disk_faults in omega (arith, rises, d);
    link = q.link_faults ∙ sym begins.link_faults;
    below = let l = begins.link_faults in omega (arith, l);
    vehicle = vehicle_calm (vehicle_now h0) (vehicle_now (history_of s)) (made_of (spec_of_drill n)).state (world_of s.bench.world).state
        begins.vehicle (vehicle_is s) (start_calm n) q.calm
        (q.units ∙ (ap (λ (v : Vehicle). unit_addresses v.units) (started_so n h0 (history_of s) s0 s1 p0 p1 words status begins files empty said runs)
        ∙ same_addresses (made_of (spec_of_drill n)).state.sims));
    sink = λ rises. omega (arith, rises, page);
  }

  pub run_ends : s1.faults ≡ 0 → p1.faults ≡ 0 → ∥ IsQuiet s ∥₁ → (status ≡ Done) ⊎ (status ≡ NoMemory)
  unfolding over
  run_ends shelf page quiet = good status (∥∥₁_map quiet (λ q. completes n (start_of_drill n) (history_of s) p1 status (over n h0 (history_of s) s0 s1 p0 p1 words status begins files empty said runs)
      (start_units n) (quiet_calm shelf page q) q.shown))

  pub drill_ends : (tells : Bool) (k0 k1 : SinkHistory) (shop page : ℕ) (starved : Bool) (result : Ending) → starved ≡ (nat_lt 0 shop || nat_lt 0 page) → s1.faults ≡ 0 → (page ≡ 0 → p1.faults ≡ 0)
      → shop ≡ 0 → ∥ IsQuiet s ∥₁ → IsPrintedRun tells k0 k1 n p1.written status starved result → Completes k0 k1 result
  drill_ends tells k0 k1 shop page true result e shelf whole none quiet p = inr (inl p.0)
  drill_ends tells k0 k1 shop page false result e shelf whole none quiet p =
      printed_well tells k0 k1 _ status result (run_ends shelf (whole (fed_page shop page false e none refl)) quiet) p

  pub hold : (tells : Bool) (k0 k1 : SinkHistory) (shop page : ℕ) (starved : Bool) (result : Ending) → starved ≡ (nat_lt 0 shop || nat_lt 0 page) → (shop ≡ 0 → ∥ IsQuiet s ∥₁)
      → IsPrintedRun tells k0 k1 n p1.written status starved result → result ≡ Done → AllHold n (history_of s)
  hold tells k0 k1 shop page true result e quiet p done = absurd (not_done result p.0 done)
  hold tells k0 k1 shop page false result e quiet p done = ∥∥₁_map (quiet (fed_shop shop page false e refl)) (λ q.
      (ends n h0 (history_of s) s0 s1 p0 p1 words status begins files empty said runs tells k0 k1 false result p done).memory q.shown)

-- ------ the words
not_looked : (said : Option AnyCommand) (n : ℕ) (o : List ℕ) → Some n ≡ number_in said → looked_at said ≡ Some o → ⊥
not_looked None n o e f = cc
not_looked (Some (any.Check order)) n o e f = cc
not_looked (Some (any.Image order task)) n o e f = cc
not_looked (Some (any.Status order)) n o e f = cc
not_looked (Some (any.Run order workers)) n o e f = cc
not_looked (Some (any.Drill m)) n o e f = cc

not_run : (said : Option AnyCommand) (n : ℕ) (o : List ℕ) → Some n ≡ number_in said → run_named said ≡ Some o → ⊥
not_run None n o e f = cc
not_run (Some (any.Check order)) n o e f = cc
not_run (Some (any.Image order task)) n o e f = cc
not_run (Some (any.Status order)) n o e f = cc
not_run (Some (any.Run order workers)) n o e f = cc
not_run (Some (any.Drill m)) n o e f = cc

-- a drill is neither a look at a journal nor a run
pub no_look : (ws : List (List ℕ)) (n : ℕ) (o : List ℕ) → Some n ≡ drill_number ws → status_order ws ≡ Some o → ⊥
no_look ws n o = not_looked (command_of ws) n o

pub no_run : (ws : List (List ℕ)) (n : ℕ) (o : List ℕ) → Some n ≡ drill_number ws → run_order ws ≡ Some o → ⊥
no_run ws n o = not_run (command_of ws) n o

abbrev number_or : Option ℕ → ℕ
number_or None = 0
number_or (Some n) = n

pub same_number : (m n : ℕ) (said : Option ℕ) → Some m ≡ said → said ≡ Some n → m ≡ n
same_number m n said e f = ap number_or (e ∙ f)

-- ------ what became of the shop
module _ {Shop : Type 0} (history : Shop → History) (n : ℕ) (tells : Bool) (k0 k1 : SinkHistory) where
  pub served : (shop : Option Shop) (result : Ending) → (shop ≡ None → result ≡ NoMemory) → (shop ≡ None → k1 ≡ k0)
      → IfSome shop (λ s. Drills n (history s) tells k0 k1 result) → ServesDrill n tells k0 k1 result
  served None result memory same drills = inr (memory refl, same refl)
  served (Some s) result memory same drills = inl (history s, drills)
