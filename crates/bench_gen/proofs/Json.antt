-- What is written has no float, and does not nest deep.
use Rattle.std.proofs.Common.{◌≡◌, ℕ, suc, ◌+◌, ◌≤◌, max, List, [], ◌∷◌, map, codes, Bool, false, ◌||◌, refl, ap, arith}
use Rattle.std.specs.List.{range_with_len}
use Rattle.serde_json.specs.Data.{Data, depth, items_depth}
use Rattle.serde_json.specs.View.{items_of}
use Rattle.serde_json.specs.Written.{has_float, items_have_float}
use Rattle.bench_gen.specs.Catalogue.{session, datablock, flashdata, each, mem, catalogue_data}
use Rattle.bench_gen.specs.Elements.{node}
use Rattle.bench_gen.specs.Order.{name, task, tasks, order_data}
use Rattle.bench_gen.specs.Sizes.{units_of, bytes_of, before}
use Rattle.bench_gen.specs.Vehicle.{unit, vehicle_data}
use Rattle.bench_gen.proofs.Lists.{flat_list, next_flat, no_floats}

-- ------ the order
task_plain : (k : ℕ) → has_float (task k) ≡ false
task_plain k = ap (λ (b : Bool). b || false) (no_floats name (λ j. refl) (before k))

pub order_plain : (n : ℕ) → has_float (order_data n) ≡ false
order_plain n = ap (λ (b : Bool). b || false) (no_floats task task_plain (range_with_len 0 (units_of n)))

name_flat : (k : ℕ) → depth (name k) ≤ 0
name_flat k =
    let e : depth (name k) ≡ 0 = refl in
    omega (arith, e)

task_flat : (k : ℕ) → depth (task k) ≤ 8
task_flat k =
    let a : items_depth (items_of (map name (before k))) ≤ 0 = flat_list 0 name name_flat (before k) in
    let e : depth (task k) ≡ suc (max (suc (items_depth (items_of (map name (before k))))) 1) = refl in
    omega (arith, e, a)

pub order_flat : (n : ℕ) → depth (order_data n) ≤ 127
order_flat n =
    let a : items_depth (items_of (tasks (units_of n))) ≤ 8 = flat_list 8 task task_flat (range_with_len 0 (units_of n)) in
    let e : depth (order_data n) ≡ suc (max 0 (max 0 (max (suc (items_depth (items_of (tasks (units_of n))))) 0))) = refl in
    omega (arith, e, a)

-- ------ the catalogue
three_plain : (a b c : Bool) → a ≡ false → b ≡ false → c ≡ false → (((((a || false) || ((b || false) || ((c || false) || false))) || false) || false) || false) ≡ false
three_plain a b c p q r = rw (p, q, r) refl

pub catalogue_plain : (n : ℕ) → has_float (catalogue_data n) ≡ false
catalogue_plain n =
    three_plain (items_have_float (items_of (each session (units_of n)))) (items_have_float (items_of (each (datablock (bytes_of n)) (units_of n)))) (items_have_float (items_of (each flashdata (units_of n))))
    (no_floats session (λ k. refl) (range_with_len 0 (units_of n)))
    (no_floats (datablock (bytes_of n)) (λ k. refl) (range_with_len 0 (units_of n)))
    (no_floats flashdata (λ k. refl) (range_with_len 0 (units_of n)))

session_flat : (k : ℕ) → depth (session k) ≤ 20
session_flat k = omega arith

datablock_flat : (size k : ℕ) → depth (datablock size k) ≤ 20
datablock_flat size k = omega arith

flashdata_flat : (k : ℕ) → depth (flashdata k) ≤ 20
flashdata_flat k = omega arith

node_flat : (most : ℕ) (tag : List ℕ) (kids : List Data) → items_depth (items_of kids) ≤ most → depth (node tag kids) ≤ most + 2
node_flat most tag kids h =
    let e : depth (node tag kids) ≡ suc (max (suc (items_depth (items_of kids))) 0) = refl in
    omega (arith, e, h)

none_flat : (most : ℕ) → items_depth (items_of []) ≤ most
none_flat most =
    let e : items_depth (items_of []) ≡ 0 = refl in
    omega (arith, e)

mem_flat : (units size : ℕ) → depth (mem units size) ≤ 24
mem_flat units size =
    let x : Data = node (codes "SESSIONS") (each session units) in
    let y : Data = node (codes "DATABLOCKS") (each (datablock size) units) in
    let z : Data = node (codes "FLASHDATAS") (each flashdata units) in
    let a : depth x ≤ 22 = node_flat 20 (codes "SESSIONS") (each session units) (flat_list 20 session session_flat (range_with_len 0 units)) in
    let b : depth y ≤ 22 = node_flat 20 (codes "DATABLOCKS") (each (datablock size) units) (flat_list 20 (datablock size) (datablock_flat size) (range_with_len 0 units)) in
    let c : depth z ≤ 22 = node_flat 20 (codes "FLASHDATAS") (each flashdata units) (flat_list 20 flashdata flashdata_flat (range_with_len 0 units)) in
    node_flat 22 (codes "MEM") (x ∷ y ∷ z ∷ []) (next_flat 22 x (y ∷ z ∷ []) a (next_flat 22 y (z ∷ []) b (next_flat 22 z [] c (none_flat 22))))

pub catalogue_flat : (n : ℕ) → depth (catalogue_data n) ≤ 127
catalogue_flat n =
    let a : depth (mem (units_of n) (bytes_of n)) ≤ 24 = mem_flat (units_of n) (bytes_of n) in
    let m : Data = mem (units_of n) (bytes_of n) in
    let b : depth (catalogue_data n) ≤ 26 = node_flat 24 (codes "ECU-MEM") (m ∷ []) (next_flat 24 m [] a (none_flat 24)) in
    omega (arith, b)

-- ------ the vehicle
pub vehicle_plain : (n : ℕ) → has_float (vehicle_data n) ≡ false
vehicle_plain n = ap (λ (b : Bool). b || false) (no_floats (unit (bytes_of n)) (λ k. refl) (range_with_len 0 (units_of n)))

unit_flat : (size k : ℕ) → depth (unit size k) ≤ 8
unit_flat size k = omega arith

pub vehicle_flat : (n : ℕ) → depth (vehicle_data n) ≤ 127
vehicle_flat n =
    let a : items_depth (items_of (map (unit (bytes_of n)) (range_with_len 0 (units_of n)))) ≤ 8 = flat_list 8 (unit (bytes_of n)) (unit_flat (bytes_of n)) (range_with_len 0 (units_of n)) in
    let e : depth (vehicle_data n) ≡ suc (max 0 (max (suc (items_depth (items_of (map (unit (bytes_of n)) (range_with_len 0 (units_of n)))))) 0)) = refl in
    omega (arith, e, a)
