-- The files of a drill are not too large.
use Rattle.std.proofs.Common.{◌≡◌, ◌∙◌, ◌⊎◌, inl, inr, ℕ, zero, suc, ◌+◌, ◌*◌, ◌-◌, ◌/◌, ◌%◌, ◌<◌, ◌≤◌, List, [], ◌∷◌, ◌++◌, codes, decimal, length, length-append, map, Bool, true, false, cond, nat_lt, nat_eq, Some, None, refl, sym, ap, arith}
use Rattle.std.specs.Fmt.{digits}
use Rattle.std.specs.List.{flat_map, range_with_len, slice_get}
use Rattle.std.specs.FinMap as fin
use Rattle.std.proofs.lemmas.Bool.Decides.{nat_tests}
use Rattle.std.proofs.lemmas.Bool.{cases_lt}
use Rattle.std.proofs.lemmas.Fmt.{length-decimal-le}
use Rattle.std.proofs.lemmas.List.FromFn.{length-map-range_with_len}
use Rattle.bench_gen.specs.Catalogue as cat
use Rattle.bench_gen.specs.Elements as json
use Rattle.bench_gen.specs.Files.{IsTextOf}
use Rattle.bench_gen.specs.Order.{order_data}
use Rattle.bench_gen.specs.Sizes.{bytes_of, image_byte, image_of, units_of}
use Rattle.flash_shelf.specs.Outside.{limit}
use Rattle.hex.specs.Hex.{encode_with}
use Rattle.hex_rec.specs.Writing.{IsWritten, base_line, checksum, line_of, lines_at, lines_of}
use Rattle.json.specs.Print.{escape, escape_byte, escape_letter, quoted}
use Rattle.rec_text.specs.Spelling.{digits_of}
use Rattle.serde_json.specs.Data.{Data, Items, Members, null, boolean, number, string, array, object, no_items, item, no_members, member}
use Rattle.serde_json.specs.View.{items_of}
use Rattle.serde_json.specs.Written.{compact_text, items_text, members_text, number_text}
use Rattle.span_store.specs.ByteMap.{ByteMap, over}
use Rattle.span_store.specs.Extents.{EndBy, Extent, StartFrom, end_of, map_of}
use Rattle.span_store.proofs.Lookups.{get-over, reads_after, reads_before, reads_hit}
use Rattle.drill_law.proofs.Orders.{data_for}
use Rattle.drill_law.proofs.Tables.{Rows, row}

-- ------ lines of Intel HEX
digits_length : (bs : List ℕ) → length (digits_of bs) ≡ 2 * length bs
digits_length [] = refl
digits_length (b ∷ bs) = let e = digits_length bs in omega (arith, e)

line_length : (bs : List ℕ) → length (line_of bs) ≡ 2 * length bs + 4
line_length bs =
    let a = length-append (digits_of bs) (digits_of (checksum bs ∷ []) ++ (10 ∷ [])) in
    let d = digits_length bs in
    let e : length (digits_of (checksum bs ∷ []) ++ (10 ∷ [])) ≡ 3 = refl in
    omega (arith, a, d, e)

at_most : (b : Bool) (xs : List ℕ) → length (cond b [] xs) ≤ length xs
at_most true xs = omega arith
at_most false xs = omega arith

base_length : (upper : ℕ) → length (base_line upper) ≡ 16
base_length upper = line_length (2 ∷ 0 ∷ 0 ∷ 4 ∷ upper / 256 ∷ upper % 256 ∷ [])

bytes_in : List Extent → ℕ
bytes_in [] = 0
bytes_in (e ∷ es) = length e.1 + bytes_in es

abbrev Filled : List Extent → Type 0
Filled [] = Unit {0}
Filled (e ∷ es) = (0 < length e.1) × Filled es

lines_length : (upper : ℕ) (es : List Extent) → Filled es → length (lines_of upper es) ≤ 30 * bytes_in es
unfolding bytes_in
lines_length upper [] f = omega arith
lines_length upper (e ∷ es) f =
    let rest = lines_length (e.0 / 65536) es f.1 in
    let whole = length-append (lines_at upper e) (lines_of (e.0 / 65536) es) in
    let one = length-append (cond (nat_eq (e.0 / 65536) upper) [] (base_line (e.0 / 65536))) (line_of (length e.1 ∷ e.0 % 65536 / 256 ∷ e.0 % 256 ∷ 0 ∷ e.1)) in
    let few = at_most (nat_eq (e.0 / 65536) upper) (base_line (e.0 / 65536)) in
    let head = base_length (e.0 / 65536) in
    let line = line_length (length e.1 ∷ e.0 % 65536 / 256 ∷ e.0 % 256 ∷ 0 ∷ e.1) in
    let some : 0 < length e.1 = f.0 in
    omega (arith, rest, whole, one, few, head, line, some)

-- ------ how many bytes the lines of a map have
byte_at : (bs : List ℕ) (k : ℕ) → k < length bs → (b : ℕ) × (slice_get bs k ≡ Some b)
byte_at [] k h = absurd (omega (arith, h))
byte_at (b ∷ bs) zero h = (b, refl)
byte_at (b ∷ bs) (suc k) h = byte_at bs k (omega (arith, h))

-- the map has no byte outside a range
abbrev Inside : ℕ → ℕ → List Extent → Type 0
Inside low high es = (q : ℕ) → (q < low) ⊎ (high ≤ q) → fin.get (map_of es) q ≡ None

has_first : (e : Extent) (es : List Extent) (k : ℕ) → k < length e.1 → fin.get (map_of (e ∷ es)) (e.0 + k) ≡ None → ⊥
has_first e es k h none =
    let b = byte_at e.1 k h in
    let hit : Some b.0 ≡ None = sym b.1 ∙ sym (reads_hit e.0 e.1 (e.0 + k) k (fin.get (map_of es) (e.0 + k)) refl h) ∙ sym (get-over (map_of es) e.0 e.1 (e.0 + k)) ∙ none in
    cc

begins : (low high : ℕ) (e : Extent) (es : List Extent) → 0 < length e.1 → Inside low high (e ∷ es) → low ≤ e.0
begins low high e es some h =
    elim (cases_lt e.0 low) [
      | inl lt ↦ let s : e.0 ≡ e.0 + 0 = omega arith in absurd (has_first e es 0 some (ap (λ q. fin.get (map_of (e ∷ es)) q) (sym s) ∙ h e.0 (inl lt)))
      | inr le ↦ le
    ]

ends : (low high : ℕ) (e : Extent) (es : List Extent) → 0 < length e.1 → Inside low high (e ∷ es) → end_of e ≤ high
ends low high e es some h =
    let k : ℕ = length e.1 - 1 in
    let last : e.0 + k + 1 ≡ end_of e = omega (arith, some) in
    elim (cases_lt (e.0 + k) high) [
      | inl lt ↦ omega (arith, lt, last)
      | inr le ↦ absurd (has_first e es k (omega (arith, some)) (h (e.0 + k) (inr le)))
    ]

rest_inside : (low high : ℕ) (e : Extent) (es : List Extent) → 0 < length e.1 → Inside low high (e ∷ es) → Inside low high es
rest_inside low high e es some h q (inl lt) =
    sym (reads_before e.0 e.1 q (fin.get (map_of es) q) (let b = begins low high e es some h in omega (arith, lt, b))) ∙ sym (get-over (map_of es) e.0 e.1 q) ∙ h q (inl lt)
rest_inside low high e es some h q (inr le) =
    sym (reads_after e.0 e.1 q (fin.get (map_of es) q) (let b = ends low high e es some h in omega (arith, le, b))) ∙ sym (get-over (map_of es) e.0 e.1 q) ∙ h q (inr le)

-- in order, from an address on
abbrev InOrder : List Extent → Type 0
InOrder [] = Unit {0}
InOrder (e ∷ es) = (0 < length e.1) × StartFrom (end_of e) es × InOrder es

few_bytes : (from low high : ℕ) (es : List Extent) → from ≤ high → InOrder es → StartFrom from es → Inside low high es → bytes_in es + from ≤ high
unfolding bytes_in
few_bytes from low high [] le o s h = omega (arith, le)
few_bytes from low high (e ∷ es) le o s h =
    let end : end_of e ≤ high = ends low high e es o.0 h in
    let rest = few_bytes (end_of e) low high es end o.2 o.1 (rest_inside low high e es o.0 h) in
    let start : from ≤ e.0 = s.0 in
    omega (arith, rest, start)

in_order : (es : List Extent) → Rattle.span_store.specs.Extents.AreExtents es → InOrder es
in_order [] a = tt
in_order (e ∷ es) a = (a.0, a.2, in_order es a.3)

all_filled : (es : List Extent) → InOrder es → Filled es
all_filled [] o = tt
all_filled (e ∷ es) o = (o.0, all_filled es o.2)

starts_low : (low high : ℕ) (es : List Extent) → InOrder es → Inside low high es → StartFrom low es
starts_low low high [] o h = tt
starts_low low high (e ∷ es) o h = (begins low high e es o.0 h, starts_low low high es o.2 (rest_inside low high e es o.0 h))

image_inside : (bytes : List ℕ) (q : ℕ) → (q < 65536) ⊎ (65536 + length bytes ≤ q) → fin.get (over fin.empty 65536 bytes) q ≡ None
image_inside bytes q (inl lt) = get-over fin.empty 65536 bytes q ∙ reads_before 65536 bytes q (fin.get fin.empty q) lt ∙ fin.get-empty _ q
image_inside bytes q (inr le) = get-over fin.empty 65536 bytes q ∙ reads_after 65536 bytes q (fin.get fin.empty q) le ∙ fin.get-empty _ q

pub hex_few : (n k : ℕ) (text : List ℕ) → IsWritten (over fin.empty 65536 (image_of n k)) text → nat_lt limit (length text) ≡ false
hex_few n k text w =
    let l : length (image_of n k) ≡ bytes_of n = length-map-range_with_len (image_byte n k) 0 (bytes_of n) in
    let high : ℕ = 65536 + length (image_of n k) in
    let inside : Inside 65536 high w.lines = λ q o. ap (λ (m : ByteMap). fin.get m q) (sym w.cuts.all) ∙ image_inside (image_of n k) q o in
    let o : InOrder w.lines = in_order w.lines w.cuts.ascending in
    let few : bytes_in w.lines + 65536 ≤ high = few_bytes 65536 65536 high w.lines (omega arith) o (starts_low 65536 high w.lines o inside) inside in
    let lines = lines_length 0 w.lines (all_filled w.lines o) in
    let whole = length-append (lines_of 0 w.lines) (line_of (0 ∷ 0 ∷ 0 ∷ 1 ∷ [])) in
    let last = line_length (0 ∷ 0 ∷ 0 ∷ 1 ∷ []) in
    let spelled : length text ≡ length (lines_of 0 w.lines ++ line_of (0 ∷ 0 ∷ 0 ∷ 1 ∷ [])) = ap (λ (t : List ℕ). length t) w.spelled in
    let small : length text ≤ 67108864 = omega (arith, l, few, lines, whole, last, spelled) in
    grind (arith, nat_tests, small)

-- ------ the order
abbrev OrderFew : ℕ → Type 0
OrderFew units = nat_lt limit (length (compact_text (data_for units))) ≡ false

orders_few : Rows OrderFew 2 11
unfolding encode_with escape_byte digits
orders_few = (refl, (refl, (refl, (refl, (refl, (refl, (refl, (refl, (refl, (refl, (refl, tt)))))))))))

pub order_few : (n : ℕ) (text : List ℕ) → IsTextOf (order_data n) text → nat_lt limit (length text) ≡ false
order_few n text t = ap (λ (s : List ℕ). nat_lt limit (length s)) t.written ∙ row OrderFew 2 11 orders_few (n % 11) (omega arith)

-- ------ the catalogue, by a bound that every JSON text keeps
abbrev mutual
  bound : Data → ℕ
  bound null = 5
  bound (boolean b) = 5
  bound (number n) = length (number_text n)
  bound (string s) = 6 * length s + 2
  bound (array ds) = 1 + items_bound ds
  bound (object ms) = 1 + members_bound ms

  items_bound : Items → ℕ
  items_bound no_items = 1
  items_bound (item d ds) = 1 + (bound d + items_bound ds)

  members_bound : Members → ℕ
  members_bound no_members = 1
  members_bound (member k d ms) = 1 + (6 * length k + 2 + (1 + (bound d + members_bound ms)))

byte_bound : (b : ℕ) → length (escape_byte b) ≤ 6
unfolding escape_byte
byte_bound b = choose (nat_lt 0 (escape_letter b)) (nat_lt b 32)
  where
    choose : (x y : Bool) → length (cond x (92 ∷ escape_letter b ∷ []) (cond y (92 ∷ 117 ∷ 48 ∷ 48 ∷ Rattle.std.specs.Char.digit_char (b / 16) ∷ Rattle.std.specs.Char.digit_char (b % 16) ∷ []) (b ∷ []))) ≤ 6
    choose true y = omega arith
    choose false true = omega arith
    choose false false = omega arith

text_bound : (s : List ℕ) → length (escape s) ≤ 6 * length s
text_bound [] = omega arith
text_bound (b ∷ s) =
    let a = length-append (escape_byte b) (escape s) in
    let one = byte_bound b in
    let rest = text_bound s in
    omega (arith, a, one, rest)

quoted_bound : (s : List ℕ) → length (quoted s) ≤ 6 * length s + 2
quoted_bound s =
    let a = length-append (escape s) (34 ∷ []) in
    let b = text_bound s in
    omega (arith, a, b)

comma_bound : (later : Bool) (xs : List ℕ) → length (cond later (44 ∷ []) [] ++ xs) ≤ 1 + length xs
comma_bound true xs = omega arith
comma_bound false xs = omega arith

mutual
  whole_bound : (d : Data) → length (compact_text d) ≤ bound d
  whole_bound null = omega arith
  whole_bound (boolean true) = omega arith
  whole_bound (boolean false) = omega arith
  whole_bound (number n) = omega arith
  whole_bound (string s) = quoted_bound s
  whole_bound (array ds) = let r = items_whole false ds in omega (arith, r)
  whole_bound (object ms) = let r = members_whole false ms in omega (arith, r)

  items_whole : (later : Bool) (ds : Items) → length (items_text later ds) ≤ items_bound ds
  items_whole later no_items = omega arith
  items_whole later (item d ds) =
      let a = comma_bound later (compact_text d ++ items_text true ds) in
      let b = length-append (compact_text d) (items_text true ds) in
      let x = whole_bound d in
      let y = items_whole true ds in
      omega (arith, a, b, x, y)

  members_whole : (later : Bool) (ms : Members) → length (members_text later ms) ≤ members_bound ms
  members_whole later no_members = omega arith
  members_whole later (member k d ms) =
      let a = comma_bound later (quoted k ++ 58 ∷ (compact_text d ++ members_text true ms)) in
      let b = length-append (quoted k) (58 ∷ (compact_text d ++ members_text true ms)) in
      let c = length-append (compact_text d) (members_text true ms) in
      let q = quoted_bound k in
      let x = whole_bound d in
      let y = members_whole true ms in
      omega (arith, a, b, c, q, x, y)

-- a list of items that each have so many
each_bound : (most : ℕ) (f : ℕ → Data) → ((k : ℕ) → bound (f k) ≤ most) → (a m : ℕ) → items_bound (items_of (map f (range_with_len a m))) ≤ 1 + m * (1 + most)
each_bound most f each a zero = omega arith
each_bound most f each a (suc m) =
    let rest = each_bound most f each (a + 1) m in
    let one = each a in
    let e : (suc m) * (1 + most) ≡ 1 + most + m * (1 + most) = grind arith in
    let s : items_bound (items_of (map f (range_with_len a (suc m)))) ≡ 1 + (bound (f a) + items_bound (items_of (map f (range_with_len (a + 1) m)))) = refl in
    omega (arith, rest, one, e, s)

session_bound : (k : ℕ) → bound (cat.session k) ≤ 4000
session_bound k = omega arith

datablock_bound : (size k : ℕ) → length (decimal size) ≤ 20 → bound (cat.datablock size k) ≤ 4000
datablock_bound size k few = omega (arith, few)

flashdata_bound : (k : ℕ) → bound (cat.flashdata k) ≤ 4000
flashdata_bound k = omega arith

group_bound : (tag : List ℕ) (f : ℕ → Data) → ((k : ℕ) → bound (f k) ≤ 4000) → (units : ℕ) → units ≤ 12 → length tag ≤ 20 → bound (json.node tag (cat.each f units)) ≤ 60000
group_bound tag f each units few short =
    let all = each_bound 4000 f each 0 units in
    let s : bound (json.node tag (cat.each f units)) ≡ 1 + (1 + (6 * 4 + 2 + (1 + (1 + items_bound (items_of (cat.each f units)) + (1 + (6 * 3 + 2 + (1 + (6 * length tag + 2 + 1)))))))) = refl in
    omega (arith, all, s, few, short)

catalogue_bound : (n : ℕ) → bound (cat.catalogue_data n) ≤ 67108864
catalogue_bound n =
    let size : length (decimal (bytes_of n)) ≤ 20 = let d = length-decimal-le 7 (bytes_of n) (omega arith) (omega arith) (omega arith) in omega (arith, d) in
    let x = group_bound (codes "SESSIONS") cat.session session_bound (units_of n) (omega arith) (omega arith) in
    let y = group_bound (codes "DATABLOCKS") (cat.datablock (bytes_of n)) (λ k. datablock_bound (bytes_of n) k size) (units_of n) (omega arith) (omega arith) in
    let z = group_bound (codes "FLASHDATAS") cat.flashdata flashdata_bound (units_of n) (omega arith) (omega arith) in
    three (json.node (codes "SESSIONS") (cat.each cat.session (units_of n))) (json.node (codes "DATABLOCKS") (cat.each (cat.datablock (bytes_of n)) (units_of n))) (json.node (codes "FLASHDATAS") (cat.each cat.flashdata (units_of n))) x y z
  where
    three : (a b c : Data) → bound a ≤ 60000 → bound b ≤ 60000 → bound c ≤ 60000 → bound (json.node (codes "ECU-MEM") (json.node (codes "MEM") (a ∷ b ∷ c ∷ []) ∷ [])) ≤ 67108864
    three a b c x y z = omega (arith, x, y, z)

pub catalogue_few : (n : ℕ) (text : List ℕ) → IsTextOf (cat.catalogue_data n) text → nat_lt limit (length text) ≡ false
catalogue_few n text t =
    let a = whole_bound (cat.catalogue_data n) in
    let b = catalogue_bound n in
    let e : length text ≡ length (compact_text (cat.catalogue_data n)) = ap (λ (s : List ℕ). length s) t.written in
    let small : length text ≤ 67108864 = omega (arith, a, b, e) in
    grind (arith, nat_tests, small)
