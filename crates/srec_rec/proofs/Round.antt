-- What was written is read to the same bytes.
use Rattle.std.proofs.Common.{◌≡◌, ℕ, ◌+◌, ◌-◌, ◌*◌, ◌/◌, ◌%◌, ◌^◌, ◌<◌, ◌≤◌, ◌&&◌, List, [], ◌∷◌, ◌++◌, length, take, sum, true, false, cond, None, Ok, Err, refl, sym, ap, ◌∙◌, subst, Some, arith, append-nil, append_assoc, length-append}
use Rattle.std.proofs.lemmas.Bool.{eq-eqb, le-leb}
use Rattle.std.specs.Prelude.{nat_le}
use Rattle.std.specs.FinMap.{get}
use Rattle.span_store.specs.ByteMap.{ByteMap, over, clash}
use Rattle.span_store.specs.Extents.{Extent, map_of, end_of, EndBy, AreExtents}
use Rattle.span_store.proofs.Order.{back, front_ends}
use Rattle.span_store.proofs.Lookups.{placed}
use Rattle.span_store.proofs.Settled.{behind_free}
use Rattle.rec_text.specs.Digits.{bytes_of}
use Rattle.rec_text.specs.Spelling.{digits_of}
use Rattle.rec_text.specs.Lines.{lines}
use Rattle.rec_text.specs.Putting.{◌>>=◌, putting, put_unless}
use Rattle.rec_text.specs.Cutting.{AreCut}
use Rattle.rec_text.specs.declared.fault.RecFault.TheVariants.{AfterEnd, BadLine}
use Rattle.rec_text.proofs.Digits.{digits_of-append}
use Rattle.rec_text.proofs.OneWay.{one_way}
use Rattle.rec_text.proofs.Smalls.{Small, AllSmall, Small-push, sum-push, take_front, small_all}
use Rattle.rec_text.proofs.Spells.{digits_back, digits_plain, line_first}
use Rattle.srec_rec.specs.Record.{is_record, checked, record_of, number_at}
use Rattle.srec_rec.specs.Reading.{with_map, data_of, applied, read_from, reading_of}
use Rattle.srec_rec.specs.Writing.{checksum, line_of, data_line, lines_of, IsWritten}
use Rattle.srec_rec.specs.declared.reading.State.{State}
use Rattle.srec_rec.proofs.Lines.{head, room}

-- a line's bytes with the checksum
abbrev whole : List ℕ → List ℕ
whole bytes = bytes ++ (checksum bytes ∷ [])

-- a line without its end
abbrev body : ℕ → List ℕ → List ℕ
body kind bytes = 83 ∷ (48 + kind) ∷ digits_of (whole bytes)

line_split : (kind : ℕ) (bytes rest : List ℕ) → line_of kind bytes ++ rest ≡ body kind bytes ++ (10 ∷ rest)
line_split kind bytes rest =
    let d : List ℕ = digits_of bytes in
    let c : List ℕ = digits_of (checksum bytes ∷ []) in
    ap (λ t. 83 ∷ (48 + kind) ∷ t)
    (append_assoc d (c ++ (10 ∷ [])) rest
    ∙ ap (λ t. d ++ t) (append_assoc c (10 ∷ []) rest)
    ∙ sym (append_assoc d c (10 ∷ rest))
    ∙ ap (λ t. t ++ (10 ∷ rest)) (sym (digits_of-append bytes (checksum bytes ∷ []))))

line_lines : (kind : ℕ) (bytes rest : List ℕ) → lines (line_of kind bytes ++ rest) ≡ body kind bytes ∷ lines rest
line_lines kind bytes rest = ap lines (line_split kind bytes rest) ∙ line_first (body kind bytes) rest (omega arith, (omega arith, digits_plain (whole bytes)))

body_record : (n kind : ℕ) (bytes : List ℕ) → Small bytes → is_record kind (whole bytes) ≡ true → record_of n (body kind bytes) ≡ Ok (kind, whole bytes)
body_record n kind bytes s form =
    let small : Small (whole bytes) = Small-push bytes (checksum bytes) s (omega arith) in
    let total : sum (whole bytes) ≡ sum bytes + checksum bytes = sum-push bytes (checksum bytes) in
    let sums : sum (whole bytes) % 256 ≡ 255 = omega arith in
    let kinds : 48 + kind - 48 ≡ kind = omega arith in
    ap (λ b. cond b (checked n (48 + kind - 48) (bytes_of (digits_of (whole bytes)))) (Err (BadLine n))) (le-leb 48 (48 + kind) (omega arith))
    ∙ ap (λ k. checked n k (bytes_of (digits_of (whole bytes)))) kinds
    ∙ ap (checked n kind) (digits_back (whole bytes) small)
    ∙ rw (form, eq-eqb (sum (whole bytes) % 256) 255 sums) refl

-- where reading stands
abbrev at_count : ℕ → ByteMap → State
at_count c m = record { count = c; ended = false; spans = m }

one_line : (s t : State) (n kind : ℕ) (bytes rest : List ℕ) → s.ended ≡ false → Small bytes → is_record kind (whole bytes) ≡ true → applied s (kind, whole bytes) ≡ Ok t
    → read_from s n (lines (line_of kind bytes ++ rest)) ≡ read_from t (n + 1) (lines rest)
one_line s t n kind bytes rest f small form does =
    ap (read_from s n) (line_lines kind bytes rest)
    ∙ ap (λ b. cond b (Err (AfterEnd (n + 1))) (record_of (n + 1) (body kind bytes) >>= applied s) >>= λ u. read_from u (n + 1) (lines rest)) f
    ∙ ap (λ q. (q >>= applied s) >>= λ u. read_from u (n + 1) (lines rest)) (body_record (n + 1) kind bytes small form)
    ∙ ap (λ q. q >>= λ u. read_from u (n + 1) (lines rest)) does

-- ------ a data line
abbrev bytes_of_line : Extent → List ℕ
bytes_of_line e = (length e.1 + 5) ∷ e.0 / 16777216 ∷ e.0 / 65536 % 256 ∷ e.0 / 256 % 256 ∷ e.0 % 256 ∷ e.1

number_back : (at : ℕ) → ((at / 16777216 * 256 + at / 65536 % 256) * 256 + at / 256 % 256) * 256 + at % 256 ≡ at
number_back at =
    let first : at / 16777216 * 256 + at / 65536 % 256 ≡ at / 65536 = omega arith in
    let second : at / 65536 * 256 + at / 256 % 256 ≡ at / 256 = omega arith in
    let third : at / 256 * 256 + at % 256 ≡ at = omega arith in
    ap (λ x. (x * 256 + at / 256 % 256) * 256 + at % 256) first ∙ ap (λ x. x * 256 + at % 256) second ∙ third

data_form : (e : Extent) → end_of e ≤ 2 ^ 32 → is_record 3 (whole (bytes_of_line e)) ≡ true
data_form e fits =
    let c : ℕ = checksum (bytes_of_line e) in
    let size : length (e.1 ++ (c ∷ [])) ≡ length e.1 + 1 = length-append e.1 (c ∷ []) in
    let all : length (whole (bytes_of_line e)) ≡ length e.1 + 5 + 1 = omega arith in
    let long : 5 ≤ length e.1 + 5 = omega arith in
    let at : number_at 4 (whole (bytes_of_line e)) ≡ e.0 = number_back e.0 in
    let within : number_at 4 (whole (bytes_of_line e)) + (length e.1 + 5 - 5) ≤ 2 ^ 32 = omega arith in
    ap (λ b. b && (nat_le 5 (length e.1 + 5) && nat_le (number_at 4 (whole (bytes_of_line e)) + (length e.1 + 5 - 5)) (2 ^ 32))) (eq-eqb (length (whole (bytes_of_line e))) (length e.1 + 5 + 1) all)
    ∙ ap (λ b. b && nat_le (number_at 4 (whole (bytes_of_line e)) + (length e.1 + 5 - 5)) (2 ^ 32)) (le-leb 5 (length e.1 + 5) long)
    ∙ le-leb (number_at 4 (whole (bytes_of_line e)) + (length e.1 + 5 - 5)) (2 ^ 32) within

data_applied : (c : ℕ) (m : ByteMap) (e : Extent) → clash m e.0 e.1 ≡ None → applied (at_count c m) (3, whole (bytes_of_line e)) ≡ Ok (at_count (c + 1) (over m e.0 e.1))
data_applied c m e free =
    let sum_byte : ℕ = checksum (bytes_of_line e) in
    let size : length e.1 + 5 - 5 ≡ length e.1 = omega arith in
    let bytes : data_of 4 (whole (bytes_of_line e)) ≡ e.1 = ap (λ k. take k (e.1 ++ (sum_byte ∷ []))) size ∙ take_front e.1 (sum_byte ∷ []) in
    ap (λ a. with_map (at_count c m) (putting m a (data_of 4 (whole (bytes_of_line e))))) (number_back e.0)
    ∙ ap (λ bs. with_map (at_count c m) (putting m e.0 bs)) bytes
    ∙ ap (λ q. with_map (at_count c m) (put_unless q (over m e.0 e.1))) free

data_read : (n c : ℕ) (m : ByteMap) (e : Extent) (rest : List ℕ) → Small e.1 → length e.1 ≤ 16 → end_of e ≤ 2 ^ 32 → 0 < length e.1 → clash m e.0 e.1 ≡ None
    → read_from (at_count c m) n (lines (data_line e ++ rest)) ≡ read_from (at_count (c + 1) (over m e.0 e.1)) (n + 1) (lines rest)
data_read n c m e rest small short fits some free =
    one_line (at_count c m) (at_count (c + 1) (over m e.0 e.1)) n 3 (bytes_of_line e) rest refl (omega arith, (omega arith, (omega arith, (omega arith, (omega arith, small))))) (data_form e fits) (data_applied c m e free)

-- reading the lines of some bytes comes to what stands behind them, with the bytes
follow : (done es : List Extent) (c n : ℕ) (m : ByteMap) (rest : List ℕ) → AreExtents (done ++ es) → AreCut room m es → AllSmall es
    → (d : ℕ) × (k : ℕ) × (read_from (at_count c (map_of done)) n (lines (lines_of es ++ rest)) ≡ read_from (at_count d (map_of (done ++ es))) k (lines rest))
follow done [] c n m rest s cut small = (c, n, ap (λ t. read_from (at_count c (map_of t)) n (lines rest)) (sym (append-nil done)))
follow done (e ∷ es) c n m rest s cut small =
    let own = back done (e ∷ es) s in
    let below : EndBy e.0 done = front_ends done e es s in
    let later : List ℕ = lines_of es ++ rest in
    let more : (done ++ (e ∷ [])) ++ es ≡ done ++ (e ∷ es) = append_assoc done (e ∷ []) es in
    let map : over (map_of done) e.0 e.1 ≡ map_of (done ++ (e ∷ [])) = sym (placed e.0 e.1 done [] [] below tt tt ∙ ap (λ t. over (map_of t) e.0 e.1) (append-nil done)) in
    let next = follow (done ++ (e ∷ [])) es (c + 1) (n + 1) m rest (subst AreExtents (sym more) s) cut.1 small.1 in (
      next.0,
      next.1,
      ap (λ t. read_from (at_count c (map_of done)) n (lines t)) (append_assoc (data_line e) (lines_of es) rest)
          ∙ data_read n c (map_of done) e later small.0 cut.0.short cut.0.below own.0 (behind_free done e.0 e.1 below)
          ∙ ap (λ t. read_from (at_count (c + 1) t) (n + 1) (lines later)) map
          ∙ next.2
          ∙ ap (λ t. read_from (at_count next.0 (map_of t)) next.1 (lines rest)) more,
    )

-- reading what was written gives the same map
pub round_small : (m : ByteMap) (text : List ℕ) (w : IsWritten m text) → AllSmall w.lines → reading_of text ≡ Ok m
round_small m text w all =
    let cuts = w.cuts in
    let last : List ℕ = line_of 7 (5 ∷ 0 ∷ 0 ∷ 0 ∷ 0 ∷ []) in
    let begun : State = at_count 0 (map_of []) in
    let go = follow [] w.lines 0 1 m last cuts.ascending cuts.cut all in
    let ended : State = record { count = go.0; ended = true; spans = map_of w.lines } in
    ap reading_of w.spelled
    ∙ one_line begun begun 0 0 (3 ∷ 0 ∷ 0 ∷ []) (lines_of w.lines ++ last) refl (omega arith, (omega arith, (omega arith, tt))) refl refl
    ∙ go.2
    ∙ ap (λ t. read_from (at_count go.0 (map_of w.lines)) go.1 (lines t)) (sym (append-nil last))
    ∙ one_line (at_count go.0 (map_of w.lines)) ended go.1 7 (5 ∷ 0 ∷ 0 ∷ 0 ∷ 0 ∷ []) [] refl (omega arith, (omega arith, (omega arith, (omega arith, (omega arith, tt))))) refl refl
    ∙ ap Ok (sym cuts.all)

pub round : (m : ByteMap) (text : List ℕ) → ((a b : ℕ) → get m a ≡ Some b → b < 256) → IsWritten m text → reading_of text ≡ Ok m
round m text small w = round_small m text w (small_all [] w.lines w.cuts.ascending (subst (λ t. (a b : ℕ) → get t a ≡ Some b → b < 256) w.cuts.all small))

-- a map has one text
pub one_text : (m : ByteMap) (s t : List ℕ) → IsWritten m s → IsWritten m t → s ≡ t
one_text m s t w v = w.spelled ∙ ap (λ l. head ++ (lines_of l ++ line_of 7 (5 ∷ 0 ∷ 0 ∷ 0 ∷ 0 ∷ []))) (one_way room m w.lines v.lines w.cuts v.cuts) ∙ sym v.spelled
