-- What the reader does, line after line.
use Rattle.std.specs.Prelude.{ℕ, ◌+◌, ◌-◌, ◌*◌, ◌%◌, ◌^◌, true, false, List, [], ◌∷◌, take, drop, slice_index, nat_eq, Result, Ok, Err, if◌then◌else◌}
use Rattle.std.specs.FinMap.{empty}
use Rattle.span_store.specs.ByteMap.{ByteMap}
use Rattle.rec_text.specs.Lines.{lines}
use Rattle.rec_text.specs.Putting.{◌>>=◌, put_round}
use Rattle.rec_text.specs.declared.fault.RecFault.{RecFault}
use Rattle.rec_text.specs.declared.fault.RecFault.TheVariants.{AfterEnd, NoEnd}
use Rattle.hex_rec.specs.Record.{record_of}
use Rattle.hex_rec.specs.declared.base.Base.{Base}
use Rattle.hex_rec.specs.declared.base.Base.TheVariants.{Linear, Segment}
use Rattle.hex_rec.specs.declared.reading.State.{State}

-- the bytes of one line
abbrev pub put_line : ByteMap → Base → ℕ → List ℕ → Result ByteMap RecFault
put_line m (Linear base) offset bytes = let first = (base + offset) % 2 ^ 32 in put_round m 0 first (2 ^ 32 - first) bytes
put_line m (Segment base) offset bytes = put_round m base (base + offset) (2 ^ 16 - offset) bytes

abbrev pub with_map : State → Result ByteMap RecFault → Result State RecFault
with_map s (Ok m) = Ok (record s { spans = m })
with_map s (Err e) = Err e

-- what one record does
abbrev pub applied : State → List ℕ → Result State RecFault
applied s bytes =
    let kind = slice_index bytes 3 in
    let value = slice_index bytes 4 * 256 + slice_index bytes 5 in
    if nat_eq kind 0 then with_map s
    (put_line s.spans s.base (slice_index bytes 1 * 256 + slice_index bytes 2)
    (take (slice_index bytes 0) (drop 4 bytes)))
    else (if nat_eq kind 1 then Ok (record s { ended = true })
    else (if nat_eq kind 2 then Ok (record s { base = Segment (value * 16) })
    else (if nat_eq kind 4 then Ok (record s { base = Linear (value * 65536) })
    else Ok s)))

-- what line n does
abbrev pub step : State → ℕ → List ℕ → Result State RecFault
step s n [] = Ok s
step s n (c ∷ cs) = if s.ended then Err (AfterEnd n) else (record_of n (c ∷ cs) >>= applied s)

-- what the lines after line n do
abbrev pub read_from : State → ℕ → List (List ℕ) → Result ByteMap RecFault
read_from s n [] = if s.ended then Ok s.spans else Err NoEnd
read_from s n (line ∷ more) = step s (n + 1) line >>= λ t. read_from t (n + 1) more

-- the bytes of a text, or the refusal of its first line that has one
abbrev pub reading_of : List ℕ → Result ByteMap RecFault
reading_of text = read_from (record { base = Linear 0; ended = false; spans = empty }) 0 (lines text)
