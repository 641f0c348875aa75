-- Lists are read as they are written.
use Rattle.std.proofs.Common.{◌≡◌, ℕ, ◌+◌, ◌≤◌, Bool, true, false, List, [], ◌∷◌, ◌++◌, map, refl, sym, ◌∙◌, ap, arith, append_assoc}
use Rattle.std.specs.Prelude.{nat_le, ◌&&◌, ◌||◌, Ok, codes, decimal}
use Rattle.std.proofs.lemmas.List.{append-nil}
use Rattle.std.proofs.lemmas.Bool.{and_from, and_parts, le-leb, leb-true}
use Rattle.serde_json.specs.Data.{Data}
use Rattle.serde_json.specs.View.{items_of}
use Rattle.flash_base.specs.Lists.{Each}
use Rattle.unit_model.specs.RegionTests.{LIMIT, all_apart, apart_from, is_apart, spec_extents}
use Rattle.unit_model.specs.Rules.{is_range}
use Rattle.unit_model.specs.declared.spec.RegionSpec.{RegionSpec}
use Rattle.vehicle_file.specs.Fields.{Reading, LAST_COUNT, chosen_of, entries_from, list_of, object_of, place, two, under, hold_to}
use Rattle.vehicle_file.specs.Units.{is_region_member, lies_well, region, region_members, regions, regions_from, size}
use Rattle.vehicle_text.specs.Forms.{place_data, two_data, whole_data}
use Rattle.vehicle_text.specs.Objects.{Fields}
use Rattle.vehicle_text.specs.Ranges.{FitsRegion}
use Rattle.vehicle_text.specs.Units.{list_data, list_given, region_data, region_fields}
use Rattle.vehicle_text.proofs.Digits.{place_is, two_is, whole_is}
use Rattle.vehicle_text.proofs.Finding.{bind, given_is, needed_is, normal_some, object_is}
use Rattle.vehicle_text.proofs.Sorted.{normal, normal_items}

-- ------ lists, each entry by itself
entries_are : {A : Type 0} (read : Data → Reading A) (f : A → Data) (before xs : List A) (i : ℕ) → Each (λ x. read (normal (f x)) ≡ Ok x) xs
    → entries_from read before i (normal_items (items_of (map f xs))) ≡ Ok (before ++ xs)
entries_are read f before [] i all = ap Ok (sym (append-nil before))
entries_are read f before (x ∷ xs) i all =
    bind (under (decimal i) (read (normal (f x)))) (λ y. entries_from read (before ++ y ∷ []) (i + 1) (normal_items (items_of (map f xs)))) x _ (ap (under (decimal i)) all.0)
    (entries_are read f (before ++ x ∷ []) xs (i + 1) all.1 ∙ ap Ok (append_assoc before (x ∷ []) xs))

pub list_is : {A : Type 0} (read : Data → Reading A) (f : A → Data) (xs : List A) → Each (λ x. read (normal (f x)) ≡ Ok x) xs → list_of read (normal (list_data f xs)) ≡ Ok xs
list_is read f xs all = entries_are read f [] xs 0 all

pub given_list : {A : Type 0} (name : List ℕ) (read : Data → Reading A) (f : A → Data) (xs : List A) → Each (λ x. read (normal (f x)) ≡ Ok x) xs
    → chosen_of name [] (list_of read) (normal_some (list_given f xs)) ≡ Ok xs
given_list name read f [] all = refl
given_list name read f (x ∷ xs) all = given_is name [] (list_of read) (list_data f (x ∷ xs)) (x ∷ xs) (list_is read f (x ∷ xs) all)

pub each_with : {A : Type 0} (P Q R : A → Type 0) → ((x : A) → P x → Q x → R x) → (xs : List A) → Each P xs → Each Q xs → Each R xs
each_with P Q R both [] ps qs = tt
each_with P Q R both (x ∷ xs) ps qs = (both x ps.0 qs.0, each_with P Q R both xs ps.1 qs.1)

-- ------ regions
swapped : (a b : Bool) → (a || b) ≡ true → (b || a) ≡ true
swapped true true e = refl
swapped true false e = refl
swapped false true e = refl
swapped false false e = e

amid : (s : ℕ × ℕ) (before : List RegionSpec) (r : RegionSpec) (rs : List RegionSpec) → apart_from s (spec_extents (before ++ r ∷ rs)) ≡ true → is_apart s (r.at, r.size) ≡ true
amid s [] r rs all = (and_parts (is_apart s (r.at, r.size)) (apart_from s (spec_extents rs)) all).0
amid s (b ∷ before) r rs all = amid s before r rs (and_parts (is_apart s (b.at, b.size)) (apart_from s (spec_extents (before ++ r ∷ rs))) all).1

well : (before : List RegionSpec) (r : RegionSpec) (rs : List RegionSpec) → all_apart (spec_extents (before ++ r ∷ rs)) ≡ true
    → (is_range (r.at, r.size) ≡ true) × (apart_from (r.at, r.size) (spec_extents before) ≡ true)
well [] r rs all = ((and_parts (is_range (r.at, r.size)) (apart_from (r.at, r.size) (spec_extents rs) && all_apart (spec_extents rs)) all).0, refl)
well (b ∷ before) r rs all =
    let first = and_parts (is_range (b.at, b.size)) (apart_from (b.at, b.size) (spec_extents (before ++ r ∷ rs)) && all_apart (spec_extents (before ++ r ∷ rs))) all in
    let rest = and_parts (apart_from (b.at, b.size) (spec_extents (before ++ r ∷ rs))) (all_apart (spec_extents (before ++ r ∷ rs))) first.1 in
    let later = well before r rs rest.1 in (
      later.0,
      and_from (is_apart (r.at, r.size) (b.at, b.size)) (apart_from (r.at, r.size) (spec_extents before))
          (swapped (nat_le (b.at + b.size) r.at) (nat_le (r.at + r.size) b.at) (amid (b.at, b.size) before r rs rest.0)) later.1,
    )

pub size_is : (n : ℕ) → nat_le 1 n ≡ true → n ≤ LIMIT → size (whole_data n) ≡ Ok n
size_is n some low = whole_is 1 LAST_COUNT n (and_from (nat_le 1 n) (nat_le n LAST_COUNT) some (le-leb n LAST_COUNT (omega (arith, low))))

region_is : (before : List RegionSpec) (r : RegionSpec) → is_range (r.at, r.size) ≡ true → apart_from (r.at, r.size) (spec_extents before) ≡ true → FitsRegion r
    → region before (normal (region_data r)) ≡ Ok r
region_is before r range apart fits =
    let fs : Fields = region_fields r in
    let parts = and_parts (nat_le 1 r.size) (nat_le (r.at + r.size) LIMIT) range in
    let some : 1 ≤ r.size = leb-true 1 r.size parts.0 in
    let low : r.at + r.size ≤ LIMIT = leb-true (r.at + r.size) LIMIT parts.1 in
    bind (object_of is_region_member region_members (normal (region_data r))) (λ q. hold_to (lies_well before q) q) r _
    (object_is is_region_member region_members fs r refl
    (bind _ _ r.at _ (needed_is (codes "at") place fs (place_data r.at) r.at refl (place_is r.at (omega (arith, some, low))))
    (bind _ _ r.size _ (needed_is (codes "size") size fs (whole_data r.size) r.size refl (size_is r.size parts.0 (omega (arith, low))))
    (bind _ _ r.fill _ (needed_is (codes "fill") two fs (two_data r.fill) r.fill refl (two_is r.fill fits.0)) refl))))
    (ap (λ (b : Bool). hold_to b r) (and_from (nat_le (r.at + r.size) LIMIT) (apart_from (r.at, r.size) (spec_extents before)) parts.1 apart))

regions_from_are : (before rs : List RegionSpec) (i : ℕ) → all_apart (spec_extents (before ++ rs)) ≡ true → Each FitsRegion rs
    → regions_from before i (normal_items (items_of (map region_data rs))) ≡ Ok (before ++ rs)
regions_from_are before [] i all fits = ap Ok (sym (append-nil before))
regions_from_are before (r ∷ rs) i all fits =
    let is = well before r rs all in
    bind (under (decimal i) (region before (normal (region_data r)))) (λ q. regions_from (before ++ q ∷ []) (i + 1) (normal_items (items_of (map region_data rs)))) r _
    (ap (under (decimal i)) (region_is before r is.0 is.1 fits.0))
    (regions_from_are (before ++ r ∷ []) rs (i + 1) (ap (λ (xs : List RegionSpec). all_apart (spec_extents xs)) (append_assoc before (r ∷ []) rs) ∙ all) fits.1
    ∙ ap Ok (append_assoc before (r ∷ []) rs))

pub regions_are : (rs : List RegionSpec) → all_apart (spec_extents rs) ≡ true → Each FitsRegion rs → regions (normal (list_data region_data rs)) ≡ Ok rs
regions_are rs all fits = regions_from_are [] rs 0 all fits
