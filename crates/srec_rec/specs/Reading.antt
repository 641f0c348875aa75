-- What the reader does, line after line.
use Rattle.std.specs.Prelude.{ℕ, ◌+◌, true, false, List, [], ◌∷◌, take, drop, nat_eq, nat_le, Result, Ok, Err, if◌then◌else◌}
use Rattle.std.specs.FinMap.{empty}
use Rattle.span_store.specs.ByteMap.{ByteMap}
use Rattle.rec_text.specs.Lines.{lines}
use Rattle.rec_text.specs.Putting.{◌>>=◌, putting}
use Rattle.rec_text.specs.declared.fault.RecFault.{RecFault}
use Rattle.rec_text.specs.declared.fault.RecFault.TheVariants.{AfterEnd, BadCount, NoEnd}
use Rattle.srec_rec.specs.Record.{record_of, width, number_at, size_of}
use Rattle.srec_rec.specs.declared.reading.State.{State}

-- one data record more, with this map
abbrev pub with_map : State → Result ByteMap RecFault → Result State RecFault
with_map s (Ok m) = Ok (record s { count = s.count + 1; spans = m })
with_map s (Err e) = Err e

-- the data of a record
abbrev pub data_of : ℕ → List ℕ → List ℕ
data_of w bytes = take (size_of w bytes) (drop (w + 1) bytes)

-- what one record does
abbrev pub applied : State → ℕ × List ℕ → Result State RecFault
applied s r =
    let kind = r.0 in
    let value = number_at (width kind) r.1 in
    if nat_eq kind 0 then Ok s
    else (if nat_le kind 3 then with_map s (putting s.spans value (data_of (width kind) r.1))
    else (if nat_le kind 6 then (if nat_eq value s.count then Ok s else Err (BadCount value s.count))
    else Ok (record s { ended = true })))

-- what line n does
abbrev pub step : State → ℕ → List ℕ → Result State RecFault
step s n [] = Ok s
step s n (c ∷ cs) = if s.ended then Err (AfterEnd n) else (record_of n (c ∷ cs) >>= applied s)

-- what the lines after line n do
abbrev pub read_from : State → ℕ → List (List ℕ) → Result ByteMap RecFault
read_from s n [] = if s.ended then Ok s.spans else Err NoEnd
read_from s n (line ∷ more) = step s (n + 1) line >>= λ t. read_from t (n + 1) more

-- the bytes of a text, or the refusal of its first line that has one
abbrev pub reading_of : List ℕ → Result ByteMap RecFault
reading_of text = read_from (record { count = 0; ended = false; spans = empty }) 0 (lines text)
