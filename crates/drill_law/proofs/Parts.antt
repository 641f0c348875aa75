-- What the tasks of a drill's order give, one after another.
use Rattle.std.proofs.Common.{◌≡◌, ◌∙◌, ℕ, zero, suc, ◌+◌, ◌-◌, ◌*◌, ◌%◌, ◌/◌, ◌<◌, ◌≤◌, List, [], ◌∷◌, codes, length, map, Bool, true, false, cond, bytes_eq, eqb, get_or, nat_lt, ◌==◌, Option, Some, None, Result, Ok, Err, refl, sym, ap, subst, arith}
use Rattle.std.specs.FinMap as fin
use Rattle.std.specs.List.{range_with_len}
use Rattle.std.proofs.lemmas.Bool.{false_from_ne_true}
use Rattle.std.proofs.lemmas.Bool.Decides.{nat_tests}
use Rattle.std.proofs.lemmas.Slice.Eq.{bytes_eq-Decides}
use Rattle.std.proofs.lemmas.List.FromFn.{length-map-range_with_len}
use Rattle.bench_gen.specs.Catalogue.{hex_name}
use Rattle.bench_gen.specs.Files.{AreFiles, AreHexFiles, IsHexFile}
use Rattle.bench_gen.specs.Sizes.{bytes_of, image_byte, image_of, numbered, units_of}
use Rattle.flash_base.specs.Files.{first_of}
use Rattle.flash_base.specs.Lists.{all_of}
use Rattle.flash_plan.specs.declared.unit.Draft.{Draft}
use Rattle.flash_plan.specs.Plan.{size_of}
use Rattle.flash_shelf.specs.Memory.{checked}
use Rattle.flash_shelf.specs.declared.shelf.ShelfFault.{ShelfFault}
use Rattle.hex_rec.specs.Reading.{reading_of}
use Rattle.hex_rec.specs.Writing.{IsWritten}
use Rattle.hex_rec.proofs.Round.{round}
use Rattle.session_image.specs.Files.{session_of}
use Rattle.span_store.specs.ByteMap.{over}
use Rattle.span_store.proofs.Lookups.{get-over, reads}
use Rattle.plan_build.specs.Answers.{goes_on}
use Rattle.plan_build.specs.Fetched.{all_fetched, is_told}
use Rattle.plan_build.specs.Tasks.{all_wanted, image_from, no_parts, part, part_with, parts, room_after, session_in, with_part}
use Rattle.plan_build.specs.Building.{plan_from}
use Rattle.plan_build.specs.declared.fault.BuildFault.{BuildFault}
use Rattle.plan_build.specs.declared.built.TaskChecks.{TaskChecks}
use Rattle.plan_build.specs.declared.built.TaskOwn.{TaskOwn}
use Rattle.drill_law.specs.Plans.{no_checks, no_own, task_of, wanted}
use Rattle.drill_law.proofs.Accepts.{draft}
use Rattle.drill_law.proofs.Catalogues.{mem_of}
use Rattle.drill_law.proofs.Images.{files_are, idents_are, image_is, same_name}
use Rattle.drill_law.proofs.Lengths.{hex_few}
use Rattle.drill_law.proofs.Tables.{First, Rows, Second, Third, holds_of, row}

abbrev pub Catalogue : Type 0
Catalogue = First image_from

abbrev pub Parts : Type 0
Parts = Third plan_from

abbrev pub Part : Type 0
Part = Second with_part

abbrev pub catalogue_for : ℕ → ℕ → Catalogue
catalogue_for units size = record { name = codes "cat.json"; mem = mem_of units size }

-- ------ a file by its name
other_file : (j k : ℕ) → j < 12 → k < 12 → (j ≡ k → ⊥) → bytes_eq (hex_name j) (hex_name k) ≡ false
other_file j k lj lk h = false_from_ne_true (bytes_eq (hex_name j) (hex_name k)) (λ e. h (same_number ((bytes_eq-Decides (hex_name j) (hex_name k)).0 e)))
  where
    same_number : hex_name j ≡ hex_name k → j ≡ k
    same_number e =
        let a : 48 + j / 10 ≡ 48 + k / 10 = ap (λ (t : List ℕ). get_or t 1 0) e in
        let b : 48 + j % 10 ≡ 48 + k % 10 = ap (λ (t : List ℕ). get_or t 2 0) e in
        omega (arith, a, b)

pub record HasFile (n k : ℕ) (files : List (List ℕ × List ℕ)) : Type 0 where
  pub text : List ℕ
  pub found : first_of (hex_name k) files ≡ Some text
  pub written : IsWritten (over fin.empty 65536 (image_of n k)) text

has_file : (n a : ℕ) (fs : List (List ℕ × List ℕ)) (k : ℕ) → AreHexFiles n a fs → k < length fs → a + k < 12 → HasFile n (a + k) fs
has_file n a [] k are h low = absurd (omega (arith, h))
has_file n a (f ∷ fs) zero are h low =
    let s : a ≡ a + 0 = omega arith in
    let is : IsHexFile n (a + 0) f = subst (λ (j : ℕ). IsHexFile n j f) s are.0 in
    let t : bytes_eq f.0 (hex_name (a + 0)) ≡ true = ap (λ (x : List ℕ). bytes_eq x (hex_name (a + 0))) is.name ∙ same_name (hex_name (a + 0)) in
    record { text = f.1; found = ap (λ (b : Bool). cond b (Some f.1) (first_of (hex_name (a + 0)) fs)) t; written = is.text }
has_file n a (f ∷ fs) (suc k) are h low =
    let s : suc a + k ≡ a + suc k = omega arith in
    let rest : HasFile n (a + suc k) fs = subst (λ (j : ℕ). HasFile n j fs) s (has_file n (suc a) fs k are.1 (omega (arith, h)) (omega (arith, low, s))) in
    let differ : a ≡ a + suc k → ⊥ = λ e. absurd (omega (arith, e)) in
    let t : bytes_eq f.0 (hex_name (a + suc k)) ≡ false = ap (λ (x : List ℕ). bytes_eq x (hex_name (a + suc k))) are.0.name ∙ other_file a (a + suc k) (omega (arith, low)) low differ in
    record { text = rest.text; found = ap (λ (b : Bool). cond b (Some f.1) (first_of (hex_name (a + suc k)) fs)) t ∙ rest.found; written = rest.written }

-- behind the order and the catalogue
pub file_of_unit : (n : ℕ) (files : List (List ℕ × List ℕ)) (k : ℕ) → AreFiles n files → k < units_of n → HasFile n k files
file_of_unit n files k are h =
    let s : 0 + k ≡ k = omega arith in
    let in_images : HasFile n k are.images = subst (λ (j : ℕ). HasFile n j are.images) s (has_file n 0 are.images k are.each (omega (arith, h, are.number)) (omega (arith, h))) in
    record {
      text = in_images.text;
      found = ap (λ (fs : List (List ℕ × List ℕ)). first_of (hex_name k) fs) are.are ∙ in_images.found;
      written = in_images.written;
    }

small_bytes : (n k a b : ℕ) → fin.get (over fin.empty 65536 (image_of n k)) a ≡ Some b → b < 256
small_bytes n k a b h = in_reads 65536 (range_with_len 0 (bytes_of n)) (sym (get-over fin.empty 65536 (image_of n k) a ∙ ap (λ (o : Option ℕ). reads 65536 (image_of n k) a o) (fin.get-empty _ a)) ∙ h)
  where
    in_reads : (at : ℕ) (is : List ℕ) → reads at (map (image_byte n k) is) a None ≡ Some b → b < 256
    in_reads at [] e = cc
    in_reads at (i ∷ is) e =
        elim (eqb a at) as (λ t. cond t (Some (image_byte n k i)) (reads (at + 1) (map (image_byte n k) is) a None) ≡ Some b → b < 256) [
          | true ↦ λ f. let g : image_byte n k i ≡ b = cc in omega (arith, g)
          | false ↦ λ f. in_reads (at + 1) is f
        ] e

-- ------ one task
-- the session of each task by its ID
abbrev found_at : ℕ → ℕ → Result ℕ BuildFault → Bool
found_at k n (Ok m) = m == k
found_at k n (Err e) = false

found_is : (r : Result ℕ BuildFault) (k : ℕ) → found_at k 0 r ≡ true → Ok k ≡ r
found_is (Ok m) k h = let e : k ≡ m = grind (arith, nat_tests, h) in ap (λ (x : ℕ). Ok x) e
found_is (Err e) k h = cc

abbrev FindsSessions : ℕ → Type 0
FindsSessions units = (size : ℕ) → all_of (range_with_len 0 units) (λ k. found_at k 0 (session_in (codes "drill.json") (task_of k) (catalogue_for units size) (numbered (codes "S") k))) ≡ true

finds_sessions : Rows FindsSessions 2 11
finds_sessions = (
  λ n. refl,
  (
    λ n. refl,
    (
      λ n. refl,
      (
        λ n. refl,
        (
          λ n. refl,
          (
            λ n. refl,
            (λ n. refl, (λ n. refl, (λ n. refl, (λ n. refl, (λ n. refl, tt))))),
          ),
        ),
      ),
    ),
  ),
)

module _ (n : ℕ) (files : List (List ℕ × List ℕ)) (are : AreFiles n files) where
  abbrev c : Catalogue
  c = catalogue_for (units_of n) (bytes_of n)

  abbrev name : List ℕ
  name = codes "drill.json"

  session_found : (k : ℕ) → k < units_of n → Ok k ≡ session_in name (task_of k) c (numbered (codes "S") k)
  session_found k h =
      found_is (session_in name (task_of k) c (numbered (codes "S") k)) k
      (holds_of (λ k. found_at k 0 (session_in (codes "drill.json") (task_of k) c (numbered (codes "S") k))) (units_of n) (row FindsSessions 2 11 finds_sessions (n % 11) (omega arith) (bytes_of n)) k h)

  wanted_found : (k : ℕ) → k < units_of n → Ok (wanted ∷ []) ≡ all_wanted name (task_of k) ((codes "SWNR", 61845) ∷ []) (session_of c.mem k).idents
  wanted_found k h = sym (ap (λ is. all_wanted name (task_of k) ((codes "SWNR", 61845) ∷ []) is) (idents_are (units_of n) (bytes_of n) k h))

  abbrev text_of : (k : ℕ) → k < units_of n → List ℕ
  text_of k h = (file_of_unit n files k are h).text

  read_of : (k : ℕ) (h : k < units_of n) → reading_of (text_of k h) ≡ Ok (over fin.empty 65536 (image_of n k))
  read_of k h = round (over fin.empty 65536 (image_of n k)) (text_of k h) (small_bytes n k) (file_of_unit n files k are h).written

  told : (k : ℕ) (h : k < units_of n) → is_told files (hex_name k) (Ok (text_of k h))
  told k h =
      sym (ap checked (file_of_unit n files k are h).found
      ∙ ap (λ (b : Bool). cond b (Err Rattle.flash_shelf.specs.declared.shelf.ShelfFault.TheVariants.TooLarge) (Ok (text_of k h))) (hex_few n k (text_of k h) (file_of_unit n files k are h).written))

  one_fetched : (k : ℕ) (h : k < units_of n) → all_fetched (is_told files) (hex_name k ∷ []) (Ok ((hex_name k, text_of k h) ∷ []))
  one_fetched k h = goes_on (text_of k h) (record { answer = Ok (text_of k h); given = told k h; is = refl }) (goes_on [] refl refl)

  abbrev pub part_for : ℕ → Part
  part_for k = part_with (task_of k) (wanted ∷ []) (record { segments = record { at = 65536; body = image_of n k } ∷ []; checks = []; own = [] })

  part_is : (k : ℕ) → k < units_of n → part (is_told files) name (Some c) (task_of k) (Ok (part_for k))
  part_is k h =
      let l : length (image_of n k) ≡ bytes_of n = length-map-range_with_len (image_byte n k) 0 (bytes_of n) in
      goes_on k (session_found k h)
      (goes_on (wanted ∷ []) (wanted_found k h)
      (goes_on ((hex_name k, text_of k h) ∷ []) (subst (λ names. all_fetched (is_told files) names (Ok ((hex_name k, text_of k h) ∷ []))) (sym (files_are (units_of n) (bytes_of n) k h)) (one_fetched k h))
      (goes_on (record { segments = record { at = 65536; body = image_of n k } ∷ []; checks = []; own = [] })
      (record {
        answer = Ok (record { segments = record { at = 65536; body = image_of n k } ∷ []; checks = []; own = [] });
        given = image_is (units_of n) (bytes_of n) k h (image_of n k) (text_of k h) (read_of k h) l (omega arith);
        is = refl;
      })
      refl)))

  -- ------ all tasks
  abbrev pub parts_from : ℕ → ℕ → Parts
  parts_from a zero = no_parts
  parts_from a (suc m) = with_part a (part_for a) (parts_from (a + 1) m)

  room_left : (k room m : ℕ) → suc m * 1048576 ≤ room → Ok (room - size_of (part_for k).draft.segments) ≡ room_after name room (size_of (part_for k).draft.segments)
  room_left k room m h =
      let l : length (image_of n k) ≡ bytes_of n = length-map-range_with_len (image_byte n k) 0 (bytes_of n) in
      let few : length (image_of n k) + 0 ≤ room = omega (arith, l, h) in
      let t : nat_lt room (length (image_of n k) + 0) ≡ false = grind (arith, nat_tests, few) in
      sym (ap (λ (b : Bool). cond b (Err (Rattle.plan_build.specs.declared.fault.BuildFault.TheVariants.Input name (Rattle.plan_build.specs.declared.fault.Cause.TheVariants.TooMany Rattle.flash_plan.specs.declared.fault.What.TheVariants.Total))) (Ok (room - size_of (part_for k).draft.segments))) t)

  parts_are : (a m room : ℕ) → a + m ≤ units_of n → m * 1048576 ≤ room → parts (is_told files) name (Some c) a room (map task_of (range_with_len a m)) (Ok (parts_from a m))
  parts_are a zero room low h = refl
  parts_are a (suc m) room low h =
      let l : length (image_of n a) ≡ bytes_of n = length-map-range_with_len (image_byte n a) 0 (bytes_of n) in
      goes_on (part_for a) (part_is a (omega (arith, low)))
      (goes_on (room - size_of (part_for a).draft.segments) (room_left a room m h)
      (goes_on (parts_from (a + 1) m) (parts_are (a + 1) m (room - size_of (part_for a).draft.segments) (omega (arith, low)) (omega (arith, l, h))) refl))

  pub drafts_are : (a m : ℕ) → (parts_from a m).drafts ≡ map (draft n) (range_with_len a m)
  drafts_are a zero = refl
  drafts_are a (suc m) = ap (λ (ds : List Draft). draft n a ∷ ds) (drafts_are (a + 1) m)

  pub checks_are : (a m : ℕ) → (parts_from a m).checks ≡ map no_checks (range_with_len a m)
  checks_are a zero = refl
  checks_are a (suc m) = ap (λ (ds : List TaskChecks). no_checks a ∷ ds) (checks_are (a + 1) m)

  pub own_are : (a m : ℕ) → (parts_from a m).own ≡ map no_own (range_with_len a m)
  own_are a zero = refl
  own_are a (suc m) = ap (λ (ds : List TaskOwn). no_own a ∷ ds) (own_are (a + 1) m)

  abbrev pub all_parts : Parts
  all_parts = parts_from 0 (units_of n)

  pub all_parts_are : parts (is_told files) name (Some c) 0 67108864 (map task_of (range_with_len 0 (units_of n))) (Ok all_parts)
  all_parts_are = parts_are 0 (units_of n) 67108864 (omega arith) (omega arith)
