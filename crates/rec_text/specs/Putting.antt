-- Bytes put into a map, or the refusal.
use Rattle.std.specs.Prelude.{◌≡◌, ◌⊎◌, ℕ, List, length, take, drop, nat_le, Option, Some, None, Result, Ok, Err, if◌then◌else◌}
use Rattle.span_store.specs.ByteMap.{ByteMap, over, clash}
use Rattle.span_store.specs.declared.clash.Clash.{Clash}
use Rattle.rec_text.specs.declared.fault.RecFault.{RecFault}
use Rattle.rec_text.specs.declared.fault.RecFault.TheVariants.{Conflict, NoMemory}

infixl 10 ◌>>=◌
abbrev pub ◌>>=◌ : {A B : Type 0} → Result A RecFault → (A → Result B RecFault) → Result B RecFault
(Ok x) >>= f = f x
(Err e) >>= f = Err e

abbrev pub put_unless : Option Clash → ByteMap → Result ByteMap RecFault
put_unless None m = Ok m
put_unless (Some c) m = Err (Conflict c.at)

-- the map with these bytes from an address on, unless another byte stands there
abbrev pub putting : ByteMap → ℕ → List ℕ → Result ByteMap RecFault
putting m at bytes = put_unless (clash m at bytes) (over m at bytes)

-- The bytes of one line, of which `room` fit from `first` on. Those that do not fit stand from `start` on, below the others.
abbrev pub put_round : ByteMap → ℕ → ℕ → ℕ → List ℕ → Result ByteMap RecFault
put_round m start first room bytes =
    if nat_le (length bytes) room then putting m first bytes
    else (putting m start (drop room bytes) >>= λ half. putting half first (take room bytes))

-- What a call did: as the result says, or it lacked memory.
abbrev pub Does : {A B : Type 0} → Result B RecFault → A → Result A RecFault → Type 0
Does (Ok x) new r = r ≡ Ok new
Does (Err e) new r = (e ≡ NoMemory) ⊎ (r ≡ Err e)
