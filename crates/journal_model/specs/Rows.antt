-- Images of a journal worked out by hand, byte by byte: both versions, and a file that was migrated.
use Rattle.std.specs.Prelude.{◌≡◌, ℕ, Bool, true, false, List, [], ◌∷◌, ◌++◌, length, replicate}
use Rattle.flash_plan.specs.declared.outcome.Entry.{Entry}
use Rattle.flash_plan.specs.declared.outcome.Entry.TheVariants.{Begun, Marked, Complete}
use Rattle.journal_model.specs.Records.{Label, is_fresh, is_journal, records}

-- one unit with one segment; the digest is 32 bytes of 07
abbrev pub one_unit : Label
one_unit = record { digest = replicate 32 7; segments = 1 ∷ [] }

-- a header of 64 bytes with this gate, version, number of slots and last byte
abbrev pub header : ℕ → ℕ → ℕ → ℕ → List ℕ
header gate version slots last =
    (gate ∷ 79 ∷ 68 ∷ 88 ∷ 70 ∷ 74 ∷ 78 ∷ 76 ∷ version ∷ 0 ∷ 0 ∷ 0 ∷ 0 ∷ 0 ∷ 0 ∷ slots ∷ [])
    ++ (replicate 32 7 ++ (replicate 15 0 ++ (last ∷ [])))

-- 01, 03 and 02: unit 0 is begun, its segment 0 is marked, it is complete
abbrev pub begun : List ℕ
begun = 1 ∷ 0 ∷ 0 ∷ 0 ∷ 0 ∷ 0 ∷ 0 ∷ 0 ∷ 0 ∷ 0 ∷ 0 ∷ 0 ∷ 0 ∷ 0 ∷ 0 ∷ 0 ∷ []

abbrev pub marked : List ℕ
marked = 3 ∷ 0 ∷ 0 ∷ 0 ∷ 0 ∷ 0 ∷ 0 ∷ 0 ∷ 0 ∷ 0 ∷ 0 ∷ 0 ∷ 0 ∷ 0 ∷ 0 ∷ 0 ∷ []

abbrev pub complete : List ℕ
complete = 2 ∷ 0 ∷ 0 ∷ 0 ∷ 0 ∷ 0 ∷ 0 ∷ 0 ∷ 0 ∷ 0 ∷ 0 ∷ 0 ∷ 0 ∷ 0 ∷ 0 ∷ 0 ∷ []

-- unit 1 is begun, and segment 1 of unit 0 is marked: this plan has neither
abbrev pub next_begun : List ℕ
next_begun = 1 ∷ 0 ∷ 0 ∷ 1 ∷ 0 ∷ 0 ∷ 0 ∷ 0 ∷ 0 ∷ 0 ∷ 0 ∷ 0 ∷ 0 ∷ 0 ∷ 0 ∷ 0 ∷ []

abbrev pub next_marked : List ℕ
next_marked = 3 ∷ 0 ∷ 0 ∷ 0 ∷ 0 ∷ 1 ∷ 0 ∷ 0 ∷ 0 ∷ 0 ∷ 0 ∷ 0 ∷ 0 ∷ 0 ∷ 0 ∷ 0 ∷ []

-- version 1: two gates and two bodies, and what stands behind
abbrev pub old_file : ℕ → ℕ → ℕ → List ℕ → List ℕ → List ℕ → List ℕ
old_file last first second body next rest =
    header 165 1 2 last ++ ((first ∷ second ∷ []) ++ (body ++ (next ++ rest)))

-- version 2: three gates and three bodies
abbrev pub new_file : ℕ → ℕ → ℕ → List ℕ → List ℕ → List ℕ → List ℕ
new_file first second third body next last =
    header 165 2 3 0 ++ ((first ∷ second ∷ third ∷ []) ++ (body ++ (next ++ last)))

-- the gate of the second slot, while it is written: the old byte, any other, or A5
abbrev pub gate_written : ℕ → List ℕ
gate_written gate = old_file 0 165 gate begun complete []

-- byte 63 of a file that is migrated, while it is written
abbrev pub last_written : ℕ → List ℕ
last_written last = old_file last 165 0 begun complete (new_file 165 0 0 begun marked complete)

pub record AreRecordsWorked : Type 0 where
  pub old_gate : (records one_unit (gate_written 0) (Begun 0) ≡ true)
      × (records one_unit (gate_written 0) (Complete 0) ≡ false)
  pub junk_gate : (records one_unit (gate_written 90) (Begun 0) ≡ true)
      × (records one_unit (gate_written 90) (Complete 0) ≡ false)
  pub new_gate : (records one_unit (gate_written 165) (Begun 0) ≡ true)
      × (records one_unit (gate_written 165) (Complete 0) ≡ true)
  -- a body behind a closed gate may be anything, and the last byte of a version 1 header may be any but A5
  pub hidden : records one_unit (old_file 9 165 0 begun (replicate 16 90) []) (Begun 0) ≡ true
  -- no other entry is there
  pub no_other : records one_unit (gate_written 165) (Begun 1) ≡ false
  pub no_mark : records one_unit (gate_written 165) (Marked 0 0) ≡ false
  -- a header that is not open yet
  pub unmade : is_fresh (header 0 2 3 0) ≡ true
  -- no journal of version 1: a mark, a unit that the plan lacks, a body twice, complete and not begun, cut
  pub old_mark : is_journal one_unit (old_file 0 165 165 begun marked []) ≡ false
  pub old_unit : is_journal one_unit (old_file 0 165 165 begun next_begun []) ≡ false
  pub old_twice : is_journal one_unit (old_file 0 165 165 begun begun []) ≡ false
  pub old_not_begun : is_journal one_unit (old_file 0 0 165 begun complete []) ≡ false
  pub old_cut : is_journal one_unit (old_file 0 165 0 begun (replicate 15 0) []) ≡ false

pub record AreMarksWorked : Type 0 where
  -- the journal of a unit that is done: 115 bytes
  pub size : length (new_file 165 165 165 begun marked complete) ≡ 115
  pub all_begun : records one_unit (new_file 165 165 165 begun marked complete) (Begun 0) ≡ true
  pub all_marked : records one_unit (new_file 165 165 165 begun marked complete) (Marked 0 0) ≡ true
  pub all_complete : records one_unit (new_file 165 165 165 begun marked complete) (Complete 0) ≡ true
  -- the order of the slots says nothing
  pub turned : records one_unit (new_file 0 165 165 complete marked begun) (Marked 0 0) ≡ true
  -- no journal: a mark without its begun, a segment that the plan lacks, a last byte of the header, another number of slots
  pub not_begun : is_journal one_unit (new_file 0 165 0 begun marked complete) ≡ false
  pub no_segment : is_journal one_unit (new_file 165 165 0 begun next_marked complete) ≡ false
  pub last_byte : is_journal one_unit (header 165 2 3 165 ++ replicate 51 0) ≡ false
  pub slots : is_journal one_unit (header 165 2 2 0 ++ replicate 51 0) ≡ false
  pub cut : is_journal one_unit (header 165 2 3 0 ++ replicate 50 0) ≡ false
  pub whole : is_journal one_unit (header 165 2 3 0 ++ replicate 51 0) ≡ true

pub record AreMigrationsWorked : Type 0 where
  -- 98 bytes, and 213 when it is migrated
  pub old_size : length (old_file 0 165 0 begun complete []) ≡ 98
  pub size : length (last_written 165) ≡ 213
  -- whatever stands at place 63 meanwhile, the entries are the same
  pub old_byte : (records one_unit (last_written 0) (Begun 0) ≡ true)
      × (records one_unit (last_written 0) (Complete 0) ≡ false)
  pub junk_byte : (records one_unit (last_written 90) (Begun 0) ≡ true)
      × (records one_unit (last_written 90) (Complete 0) ≡ false)
  pub new_byte : (records one_unit (last_written 165) (Begun 0) ≡ true)
      × (records one_unit (last_written 165) (Complete 0) ≡ false)
  -- of a migrated file the slots of version 1 count no more, whatever they say
  pub first_free : records one_unit
      (old_file 165 0 165 begun marked (new_file 165 165 0 begun marked complete)) (Marked 0 0) ≡ true
  -- no journal: the second header is of version 1, its gate is closed, or it is not there
  pub second_old : is_journal one_unit
      (old_file 165 165 0 begun complete (header 165 1 3 0 ++ replicate 51 0)) ≡ false
  pub second_closed : is_journal one_unit
      (old_file 165 165 0 begun complete (header 0 2 3 0 ++ replicate 51 0)) ≡ false
  pub second_gone : is_journal one_unit (old_file 165 165 0 begun complete []) ≡ false
