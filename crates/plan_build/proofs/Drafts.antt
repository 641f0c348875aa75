-- The drafts of tasks are as the plan asks for, and everything is there once for each task.
use Rattle.std.proofs.Common.{◌≡◌, ◌∙◌, refl, ap, ℕ, zero, suc, ◌+◌, ◌<◌, ◌≤◌, arith, List, [], ◌∷◌, ◌++◌, length, length-append, map, Ok, Err, Some, slice_get, get_or}
use Rattle.std.proofs.lemmas.Bool.{lt-ltb, le-ltb}
use Rattle.std.specs.Prelude.{slice_index_or}
use Rattle.ecu_mem.specs.declared.types.EcuMem.{EcuMem}
use Rattle.ecu_mem.specs.declared.types.Session.{Session}
use Rattle.flash_base.specs.Lists.{Each}
use Rattle.flash_plan.specs.declared.fault.What.TheVariants.{Units}
use Rattle.session_image.specs.Files.{no_session, session_of}
use Rattle.plan_build.specs.Building.{few_tasks}
use Rattle.plan_build.specs.declared.fault.BuildFault.TheVariants.{Input}
use Rattle.plan_build.specs.declared.fault.Cause.TheVariants.{TooMany}
use Rattle.flash_order.specs.Promises as order
use Rattle.flash_order.specs.declared.order.Task.{Task}
use Rattle.flash_plan.specs.Accepting.{IsAsked, IsDraft, unit_of, units_of}
use Rattle.flash_plan.specs.Plan.{AreApart, count_of}
use Rattle.flash_plan.specs.declared.unit.Segment.{Segment}
use Rattle.flash_plan.specs.declared.unit.UnitPlan.{UnitPlan}
use Rattle.flash_plan.specs.declared.unit.Wanted.{Wanted}
use Rattle.session_image.specs.Images.{IsSegment, IsUsable}
use Rattle.session_image.specs.declared.types.Image.{Image}
use Rattle.plan_build.specs.Refusals.{name_of}
use Rattle.plan_build.specs.Tasks.{drafted, with_last}
use Rattle.plan_build.specs.Whole.{AreFor}
use Rattle.plan_build.specs.declared.built.Part.{Part}
use Rattle.plan_build.specs.declared.built.Parts.{Parts}

pub asked : (ws : List Wanted) → Each order.IsAsked ws → Each IsAsked ws
asked [] h = tt
asked (w ∷ ws) h = (record { did = h.0.did; some = h.0.some; filled = h.0.filled }, asked ws h.1)

pub is_draft : (t : Task) (ws : List Wanted) (ss : List Segment) → order.IsTask t → Each IsAsked ws → 1 ≤ length ss → Each (λ (s : Segment). 1 ≤ length s.body) ss → AreApart ss → IsDraft (drafted t ws ss)
is_draft t ws ss h idents some filled apart = record {
  name = h.name;
  address = h.unit;
  width = h.width;
  check_range = h.check.range;
  check = h.check.not_erase;
  check_too = h.check.not_finish;
  key = h.key;
  idents = idents;
  some = some;
  filled = filled;
  apart = apart;
}

some_bytes : (ss : List Segment) → Each IsSegment ss → Each (λ (s : Segment). 1 ≤ length s.body) ss
some_bytes [] h = tt
some_bytes (s ∷ ss) h = (h.0.some, some_bytes ss h.1)

-- a file's bytes
pub of_raw : (t : Task) (ws : List Wanted) (at : ℕ) (body : List ℕ) → order.IsTask t → Each order.IsAsked ws → 1 ≤ length body → IsDraft (drafted t ws (record { at = at; body = body } ∷ []))
of_raw t ws at body h idents some = is_draft t ws (record { at = at; body = body } ∷ []) h (asked ws idents) (omega arith) (some, tt) (tt, tt)

-- an image
pub of_image : (t : Task) (ws : List Wanted) (i : Image) → order.IsTask t → Each IsAsked ws → IsUsable i → IsDraft (drafted t ws i.segments)
of_image t ws i h idents u = is_draft t ws i.segments h idents u.some (some_bytes i.segments u.segments) u.apart

pub length_map : {X Y : Type 0} (f : X → Y) (xs : List X) → length (map f xs) ≡ length xs
length_map f [] = refl
length_map f (x ∷ xs) = ap suc (length_map f xs)

-- the units of the drafts of all tasks
pub as_many : (ts : List Task) (ps : Parts) (units : List UnitPlan) → AreFor ts ps → units ≡ units_of ps.drafts → count_of units ≡ length ts
as_many ts ps units h is = ap (λ us. length us) is ∙ length_map (unit_of ps.drafts) ps.drafts ∙ h.drafts

-- ------ the name of a task
pub name_at : (ts : List Task) (n : ℕ) (t : Task) → n < length ts → t ≡ get_or ts n t → t.name ≡ name_of ts n
name_at [] n t within at = absurd (omega arith)
name_at (u ∷ us) zero t within at = ap (λ (x : Task). x.name) at
name_at (u ∷ us) (suc n) t within at = name_at us n t (omega arith) at

pub no_name : (ts : List Task) (n : ℕ) → length ts ≤ n → [] ≡ name_of ts n
no_name [] n behind = refl
no_name (u ∷ us) zero behind = absurd (omega arith)
no_name (u ∷ us) (suc n) behind = no_name us n (omega arith)

-- ------ how many tasks
pub many : (name : List ℕ) (ts : List Task) → 64 < length ts → few_tasks name ts ≡ Err (Input name (TooMany Units))
many name ts h = rw (lt-ltb 64 (length ts) h) refl

pub few : (name : List ℕ) (ts : List Task) → length ts ≤ 64 → few_tasks name ts ≡ Ok ts
few name ts h = rw (le-ltb 64 (length ts) h) refl

-- ------ a session of a document
at_place : {X : Type 0} (xs : List X) (i : ℕ) (x d : X) → slice_get xs i ≡ Some x → slice_index_or xs i d ≡ x
at_place [] i x d h = cc
at_place (y ∷ ys) zero x d h = cc
at_place (y ∷ ys) (suc i) x d h = at_place ys i x d h

pub session_at : (m : EcuMem) (s : ℕ) (x : Session) → slice_get m.sessions s ≡ Some x → session_of m s ≡ x
session_at m s x h = at_place m.sessions s x no_session h

-- ------ so many parts, and one more
pub record AreSo (n : ℕ) (ps : Parts) : Type 0 where
  pub drafts : length ps.drafts ≡ n
  pub checks : length ps.checks ≡ n
  pub own : length ps.own ≡ n

one_more : {X : Type 0} (xs : List X) (x : X) (n : ℕ) → length xs ≡ n → length (xs ++ x ∷ []) ≡ n + 1
one_more xs x n h = let e = length-append xs (x ∷ []) in omega (arith, e, h)

pub so_many : (n m : ℕ) (ps : Parts) (p : Part) → AreSo n ps → AreSo (n + 1) (with_last ps m p)
so_many n m ps p h = record { drafts = one_more ps.drafts p.draft n h.drafts; checks = one_more ps.checks (record { task = m; checks = p.checks }) n h.checks; own = one_more ps.own (record { task = m; own = p.own }) n h.own }
