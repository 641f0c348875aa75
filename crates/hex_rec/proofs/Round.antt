-- What was written is read to the same bytes.
use Rattle.std.proofs.Common.{◌≡◌, ℕ, ◌+◌, ◌-◌, ◌*◌, ◌/◌, ◌%◌, ◌^◌, ◌<◌, ◌≤◌, List, [], ◌∷◌, ◌++◌, length, take, drop, sum, true, false, cond, eqb, Some, None, Ok, Err, refl, sym, ap, ◌∙◌, subst, inl, inr, arith, append-nil, append_assoc, length-append}
use Rattle.std.proofs.lemmas.Bool.{cases_Bool, eqb-true, eq-eqb, le-leb}
use Rattle.std.specs.FinMap.{get}
use Rattle.span_store.specs.ByteMap.{ByteMap, over, clash}
use Rattle.span_store.specs.Extents.{Extent, map_of, end_of, EndBy, AreExtents}
use Rattle.span_store.proofs.Order.{back, front_ends}
use Rattle.span_store.proofs.Lookups.{placed}
use Rattle.span_store.proofs.Settled.{behind_free}
use Rattle.rec_text.specs.Spelling.{digits_of}
use Rattle.rec_text.specs.Lines.{lines}
use Rattle.rec_text.specs.Putting.{◌>>=◌, putting, put_unless, put_round}
use Rattle.rec_text.specs.Cutting.{AreCut}
use Rattle.rec_text.specs.declared.fault.RecFault.TheVariants.{AfterEnd}
use Rattle.rec_text.proofs.Digits.{digits_of-append}
use Rattle.rec_text.proofs.OneWay.{one_way}
use Rattle.rec_text.proofs.Smalls.{Small, AllSmall, Small-push, sum-push, take_front, small_all}
use Rattle.rec_text.proofs.Spells.{digits_back, digits_plain, line_first}
use Rattle.hex_rec.specs.Record.{is_record, checked, record_of}
use Rattle.hex_rec.specs.Reading.{put_line, with_map, applied, read_from, reading_of}
use Rattle.hex_rec.specs.Writing.{checksum, line_of, base_line, lines_at, lines_of, room, IsWritten}
use Rattle.hex_rec.specs.declared.base.Base.TheVariants.{Linear}
use Rattle.hex_rec.specs.declared.reading.State.{State}

-- a line without its end
abbrev body : List ℕ → List ℕ
body bytes = 58 ∷ digits_of (bytes ++ (checksum bytes ∷ []))

line_split : (bytes rest : List ℕ) → line_of bytes ++ rest ≡ body bytes ++ (10 ∷ rest)
line_split bytes rest =
    let d : List ℕ = digits_of bytes in
    let c : List ℕ = digits_of (checksum bytes ∷ []) in
    ap (λ t. 58 ∷ t)
    (append_assoc d (c ++ (10 ∷ [])) rest
    ∙ ap (λ t. d ++ t) (append_assoc c (10 ∷ []) rest)
    ∙ sym (append_assoc d c (10 ∷ rest))
    ∙ ap (λ t. t ++ (10 ∷ rest)) (sym (digits_of-append bytes (checksum bytes ∷ []))))

line_lines : (bytes rest : List ℕ) → lines (line_of bytes ++ rest) ≡ body bytes ∷ lines rest
line_lines bytes rest = ap lines (line_split bytes rest) ∙ line_first (body bytes) rest (omega arith, digits_plain (bytes ++ (checksum bytes ∷ [])))

body_record : (n : ℕ) (bytes : List ℕ) → Small bytes → is_record (bytes ++ (checksum bytes ∷ [])) ≡ true → record_of n (body bytes) ≡ Ok (bytes ++ (checksum bytes ∷ []))
body_record n bytes s form =
    let all : List ℕ = bytes ++ (checksum bytes ∷ []) in
    let small : Small all = Small-push bytes (checksum bytes) s (omega arith) in
    let total : sum all ≡ sum bytes + checksum bytes = sum-push bytes (checksum bytes) in
    let whole : sum all % 256 ≡ 0 = omega arith in
    ap (checked n) (digits_back all small) ∙ rw (form, eq-eqb (sum all % 256) 0 whole) refl

-- where reading stands
abbrev at_upper : ℕ → ByteMap → State
at_upper u m = record { base = Linear (u * 65536); ended = false; spans = m }

one_line : (s t : State) (n : ℕ) (bytes rest : List ℕ) → s.ended ≡ false → Small bytes → is_record (bytes ++ (checksum bytes ∷ [])) ≡ true → applied s (bytes ++ (checksum bytes ∷ [])) ≡ Ok t
    → read_from s n (lines (line_of bytes ++ rest)) ≡ read_from t (n + 1) (lines rest)
one_line s t n bytes rest f small form does =
    ap (read_from s n) (line_lines bytes rest)
    ∙ ap (λ b. cond b (Err (AfterEnd (n + 1))) (record_of (n + 1) (body bytes) >>= applied s) >>= λ u. read_from u (n + 1) (lines rest)) f
    ∙ ap (λ q. (q >>= applied s) >>= λ u. read_from u (n + 1) (lines rest)) (body_record (n + 1) bytes small form)
    ∙ ap (λ q. q >>= λ u. read_from u (n + 1) (lines rest)) does

base_read : (u v n : ℕ) (m : ByteMap) (rest : List ℕ) → v < 65536 → read_from (at_upper u m) n (lines (base_line v ++ rest)) ≡ read_from (at_upper v m) (n + 1) (lines rest)
base_read u v n m rest l =
    let value : v / 256 * 256 + v % 256 ≡ v = omega arith in
    one_line (at_upper u m) (at_upper v m) n (2 ∷ 0 ∷ 0 ∷ 4 ∷ v / 256 ∷ v % 256 ∷ []) rest refl (omega arith, (omega arith, (omega arith, (omega arith, (omega arith, (omega arith, tt)))))) refl
    (ap (λ x. Ok (at_upper x m)) value)

abbrev bytes_of_line : Extent → List ℕ
bytes_of_line e = length e.1 ∷ e.0 % 65536 / 256 ∷ e.0 % 256 ∷ 0 ∷ e.1

data_put : (m : ByteMap) (at : ℕ) (bs : List ℕ) → at + length bs ≤ 2 ^ 32 → 0 < length bs → clash m at bs ≡ None → put_line m (Linear (at / 65536 * 65536)) (at % 65536 / 256 * 256 + at % 256) bs ≡ Ok (over m at bs)
data_put m at bs fits some free =
    let offset : at % 65536 / 256 * 256 + at % 256 ≡ at % 65536 = omega arith in
    let first : (at / 65536 * 65536 + at % 65536) % 2 ^ 32 ≡ at = omega arith in
    ap (λ o. put_line m (Linear (at / 65536 * 65536)) o bs) offset
    ∙ ap (λ a. put_round m 0 a (2 ^ 32 - a) bs) first
    ∙ ap (λ b. cond b (putting m at bs) (putting m 0 (drop (2 ^ 32 - at) bs) >>= λ half. putting half at (take (2 ^ 32 - at) bs))) (le-leb (length bs) (2 ^ 32 - at) (omega arith))
    ∙ ap (λ c. put_unless c (over m at bs)) free

data_read : (n : ℕ) (m : ByteMap) (e : Extent) (rest : List ℕ) → Small e.1 → length e.1 ≤ 16 → 0 < length e.1 → end_of e ≤ 2 ^ 32 → clash m e.0 e.1 ≡ None
    → read_from (at_upper (e.0 / 65536) m) n (lines (line_of (bytes_of_line e) ++ rest)) ≡ read_from (at_upper (e.0 / 65536) (over m e.0 e.1)) (n + 1) (lines rest)
data_read n m e rest small short some fits free =
    let c : ℕ = checksum (bytes_of_line e) in
    let size : length (e.1 ++ (c ∷ [])) ≡ length e.1 + 1 = length-append e.1 (c ∷ []) in
    let form : is_record (bytes_of_line e ++ (c ∷ [])) ≡ true = rw (eq-eqb (length (bytes_of_line e ++ (c ∷ []))) (length e.1 + 5) (omega arith)) refl in
    one_line (at_upper (e.0 / 65536) m) (at_upper (e.0 / 65536) (over m e.0 e.1)) n (bytes_of_line e) rest refl (omega arith, (omega arith, (omega arith, (omega arith, small)))) form
    (ap (λ t. with_map (at_upper (e.0 / 65536) m) (put_line m (Linear (e.0 / 65536 * 65536)) (e.0 % 65536 / 256 * 256 + e.0 % 256) t)) (take_front e.1 (c ∷ []))
    ∙ ap (with_map (at_upper (e.0 / 65536) m)) (data_put m e.0 e.1 fits some free))

-- reading the lines of some bytes comes to what stands behind them, with the bytes
follow : (done es : List Extent) (u n : ℕ) (whole : ByteMap) (rest : List ℕ) → AreExtents (done ++ es) → AreCut room whole es → AllSmall es
    → (v : ℕ) × (k : ℕ) × (read_from (at_upper u (map_of done)) n (lines (lines_of u es ++ rest)) ≡ read_from (at_upper v (map_of (done ++ es))) k (lines rest))
follow done [] u n whole rest s cut small = (u, n, ap (λ t. read_from (at_upper u (map_of t)) n (lines rest)) (sym (append-nil done)))
follow done (e ∷ es) u n whole rest s cut small =
    let own = back done (e ∷ es) s in
    let some : 0 < length e.1 = own.0 in
    let fits : end_of e ≤ 2 ^ 32 = cut.0.below in
    let below : EndBy e.0 done = front_ends done e es s in
    let short : length e.1 ≤ 16 = cut.0.short in
    let free : clash (map_of done) e.0 e.1 ≡ None = behind_free done e.0 e.1 below in
    let upper : ℕ = e.0 / 65536 in
    let later : List ℕ = lines_of upper es ++ rest in
    let more : (done ++ (e ∷ [])) ++ es ≡ done ++ (e ∷ es) = append_assoc done (e ∷ []) es in
    let map : over (map_of done) e.0 e.1 ≡ map_of (done ++ (e ∷ [])) = sym (placed e.0 e.1 done [] [] below tt tt ∙ ap (λ t. over (map_of t) e.0 e.1) (append-nil done)) in
    let go = follow (done ++ (e ∷ [])) es upper in
    let text : lines_of u (e ∷ es) ++ rest ≡ lines_at u e ++ later = append_assoc (lines_at u e) (lines_of upper es) rest in
    elim (cases_Bool (eqb upper u)) [
      | inl same ↦
          let is : upper ≡ u = eqb-true upper u same in
          let next = go (n + 1) whole rest (subst AreExtents (sym more) s) cut.1 small.1 in (
            next.0,
            next.1,
            ap (λ t. read_from (at_upper u (map_of done)) n (lines t)) (text ∙ ap (λ b. (cond b [] (base_line upper) ++ line_of (bytes_of_line e)) ++ later) same)
                ∙ ap (λ v. read_from (at_upper v (map_of done)) n (lines (line_of (bytes_of_line e) ++ later))) (sym is)
                ∙ data_read n (map_of done) e later small.0 short some fits free
                ∙ ap (λ m. read_from (at_upper upper m) (n + 1) (lines later)) map
                ∙ next.2
                ∙ ap (λ t. read_from (at_upper next.0 (map_of t)) next.1 (lines rest)) more,
          )
      | inr other ↦
          let next = go (n + 1 + 1) whole rest (subst AreExtents (sym more) s) cut.1 small.1 in (
            next.0,
            next.1,
            ap (λ t. read_from (at_upper u (map_of done)) n (lines t)) (text ∙ ap (λ b. (cond b [] (base_line upper) ++ line_of (bytes_of_line e)) ++ later) other ∙ append_assoc (base_line upper) (line_of (bytes_of_line e)) later)
                ∙ base_read u upper n (map_of done) (line_of (bytes_of_line e) ++ later) (omega arith)
                ∙ data_read (n + 1) (map_of done) e later small.0 short some fits free
                ∙ ap (λ m. read_from (at_upper upper m) (n + 1 + 1) (lines later)) map
                ∙ next.2
                ∙ ap (λ t. read_from (at_upper next.0 (map_of t)) next.1 (lines rest)) more,
          )
    ]

-- reading what was written gives the same map
pub round_small : (m : ByteMap) (text : List ℕ) (w : IsWritten m text) → AllSmall w.lines → reading_of text ≡ Ok m
round_small m text w all =
    let cuts = w.cuts in
    let last : List ℕ = line_of (0 ∷ 0 ∷ 0 ∷ 1 ∷ []) in
    let go = follow [] w.lines 0 0 m last cuts.ascending cuts.cut all in
    let ended : State = record { base = Linear (go.0 * 65536); ended = true; spans = map_of w.lines } in
    ap reading_of w.spelled
    ∙ go.2
    ∙ ap (λ t. read_from (at_upper go.0 (map_of w.lines)) go.1 (lines t)) (sym (append-nil last))
    ∙ one_line (at_upper go.0 (map_of w.lines)) ended go.1 (0 ∷ 0 ∷ 0 ∷ 1 ∷ []) [] refl (omega arith, (omega arith, (omega arith, (omega arith, tt)))) refl refl
    ∙ ap Ok (sym cuts.all)

pub round : (m : ByteMap) (text : List ℕ) → ((a b : ℕ) → get m a ≡ Some b → b < 256) → IsWritten m text → reading_of text ≡ Ok m
round m text small w = round_small m text w (small_all [] w.lines w.cuts.ascending (subst (λ t. (a b : ℕ) → get t a ≡ Some b → b < 256) w.cuts.all small))

-- a map has one text
pub one_text : (m : ByteMap) (s t : List ℕ) → IsWritten m s → IsWritten m t → s ≡ t
one_text m s t w v = w.spelled ∙ ap (λ l. lines_of 0 l ++ line_of (0 ∷ 0 ∷ 0 ∷ 1 ∷ [])) (one_way room m w.lines v.lines w.cuts v.cuts) ∙ sym v.spelled
