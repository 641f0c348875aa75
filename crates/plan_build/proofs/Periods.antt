-- Calls of a shelf, one after another, in one time.
use Rattle.std.proofs.Common.{◌≡◌, ◌∙◌, sym, refl, ℕ, ◌≤◌, arith, List, Bool, true, false, Result, Ok, Err}
use Rattle.flash_base.specs.Counts.{Rises}
use Rattle.flash_shelf.specs.Outside.{CameFrom}
use Rattle.flash_shelf.specs.declared.shelf.ShelfFault.{ShelfFault}
use Rattle.flash_shelf.specs.declared.shelf.ShelfFault.TheVariants.{Missing, TooLarge, Failed, NoMemory}
use Rattle.plan_build.specs.Fetched.{Period, Lies, period, came}

-- the first of two
pub earlier : {p : Period} {told : Bool} {files : List (List ℕ × List ℕ)} {a b c : ℕ} → Lies p told files a c → b ≤ c → Lies p told files a b
earlier {p} {told} {files} {a} {b} {c} l h = record { tells = l.tells; files = l.files; begins = l.begins; ends = let e : c ≤ p.after = l.ends in omega arith }

-- the second of two
pub later : {p : Period} {told : Bool} {files more : List (List ℕ × List ℕ)} {a b c : ℕ} → Lies p told files a c → more ≡ files → a ≤ b → Lies p told more b c
later {p} {told} {files} {more} {a} {b} {c} l same h = record { tells = l.tells; files = same ∙ l.files; begins = let e : p.before ≤ a = l.begins in omega arith; ends = l.ends }

-- the time of all of it
pub whole : (told : Bool) (files : List (List ℕ × List ℕ)) (a b : ℕ) → Lies (period told files a b) told files a b
whole told files a b = record { tells = refl; files = refl; begins = omega arith; ends = omega arith }

rises_in : (a b c d : ℕ) → a ≤ b → c ≤ d → Rises b c → Rises a d
rises_in a b c d low high h = omega arith

-- what a read answers in a part of the time
wider : (told : Bool) (files : List (List ℕ × List ℕ)) (name : List ℕ) (a b c d : ℕ) (answer : Result (List ℕ) ShelfFault) → a ≤ b → c ≤ d → CameFrom told files name b c answer → CameFrom told files name a d answer
wider told files name a b c d (Ok bytes) low high h = h
wider true files name a b c d (Err Missing) low high h = h
wider false files name a b c d (Err Missing) low high h = rises_in a b c d low high h
wider true files name a b c d (Err TooLarge) low high h = h
wider false files name a b c d (Err TooLarge) low high h = rises_in a b c d low high h
wider told files name a b c d (Err Failed) low high h = rises_in a b c d low high h
wider told files name a b c d (Err NoMemory) low high h = tt

pub in_time : (p : Period) (told : Bool) (files : List (List ℕ × List ℕ)) (name : List ℕ) (b c : ℕ) (answer : Result (List ℕ) ShelfFault) → Lies p told files b c → CameFrom told files name b c answer → came p name answer
in_time p told files name b c answer l h = rw (l.tells, sym_files) (wider told files name p.before b c p.after answer l.begins l.ends h)
  where
    sym_files : p.files ≡ files
    sym_files = sym l.files
