-- What holds of every document that is resolved.
use Rattle.std.specs.Prelude.{ℕ, ◌+◌, ◌<◌, ◌≤◌, List, [], ◌∷◌, ◌++◌, map, length, bytes_eq, Bool, true, false}
use Rattle.flash_base.specs.Lists.{Each}
use Rattle.ecu_mem.specs.declared.types.Ident.{Ident}
use Rattle.ecu_mem.specs.declared.types.Check.{Check}
use Rattle.ecu_mem.specs.declared.types.Session.{Session}
use Rattle.ecu_mem.specs.declared.types.Block.{Block}
use Rattle.ecu_mem.specs.declared.types.Flash.{Flash}
use Rattle.ecu_mem.specs.declared.types.EcuMem.{EcuMem}
use Rattle.span_store.specs.ByteMap.{top}

-- a range, as its address and its size, has at least one address, and none at the limit or past it
abbrev pub IsRange : ℕ × ℕ → Type 0
IsRange r = (1 ≤ r.1) × (r.0 + r.1 ≤ top)

abbrev pub IsCheck : Check → Type 0
IsCheck c = IsRange (c.from, c.size)

-- there is a value, and none is empty
abbrev pub AreValues : List (List ℕ) → Type 0
AreValues vs = (1 ≤ length vs) × Each (λ v. 1 ≤ length v) vs

abbrev pub IsIdent : Ident → Type 0
IsIdent i = AreValues i.values

-- a session of a document with so many datablocks
pub record IsSessionAmong (count : ℕ) (s : Session) : Type 0 where
  pub positions : Each (λ i. i < count) s.blocks
  pub idents : Each IsIdent s.idents
  pub checks : Each IsCheck s.checks

-- a datablock of a document with so many flash data
pub record IsBlockAmong (count : ℕ) (b : Block) : Type 0 where
  pub position : b.flash < count
  pub filters : Each IsRange b.filters
  pub segments : Each IsRange b.segments
  pub offset : b.offset < top
  pub own : Each IsIdent b.own

abbrev pub one_if : Bool → ℕ
one_if true = 1
one_if false = 0

-- how often an ID stands in a list
abbrev pub times : List ℕ → List (List ℕ) → ℕ
times id [] = 0
times id (x ∷ xs) = one_if (bytes_eq x id) + times id xs

-- the IDs of all sessions, datablocks and flash data
abbrev pub ids_of : EcuMem → List (List ℕ)
ids_of m = map (λ (s : Session). s.id) m.sessions
    ++ (map (λ (b : Block). b.id) m.blocks ++ map (λ (f : Flash). f.id) m.flashes)

-- positions are below the lengths of their lists, ranges and offsets are within the limit, and no ID stands twice
pub record IsWholeCatalogue (m : EcuMem) : Type 0 where
  pub sessions : Each (IsSessionAmong (length m.blocks)) m.sessions
  pub blocks : Each (IsBlockAmong (length m.flashes)) m.blocks
  pub once : (id : List ℕ) → times id (ids_of m) ≤ 1
