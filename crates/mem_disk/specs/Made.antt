-- The calls that a disk in memory got.
use Rattle.std.specs.Prelude.{ℕ, suc, ◌==◌, List, [], ◌∷◌, if◌then◌else◌}
use Rattle.shop_model.specs.History.{Call, Len, ReadAt, WriteAt, Sync, Send, Receive, Redial}
use Rattle.mem_disk.specs.declared.record.Said.{Said, Nothing, More'}
use Rattle.mem_disk.specs.declared.record.Made.{Made}
use Rattle.mem_disk.specs.declared.record.Made.TheVariants as made
use Rattle.mem_disk.specs.declared.record.Calls.{Calls, Start, Then'}

abbrev pub said_bytes : Said → List ℕ
said_bytes Nothing = []
said_bytes (More' x m before) = x.value ∷ said_bytes before

abbrev pub call_of : Made → Call
call_of made.Len = Len
call_of (made.ReadAt at n) = ReadAt at n
call_of (made.WriteAt at said) = WriteAt at (said_bytes said)
call_of made.Sync = Sync
call_of (made.Send said) = Send (said_bytes said)
call_of made.Receive = Receive
call_of made.Redial = Redial

-- the number of calls
abbrev pub depth : Calls → ℕ
depth Start = 0
depth (Then' c k before) = suc (depth before)

abbrev pub call_in : Calls → ℕ → Call
call_in Start m = Len
call_in (Then' c k before) m = if depth before == m then call_of c.value else call_in before m
