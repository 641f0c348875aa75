-- What an image of the journal records, in both versions of the file.
use Rattle.std.specs.Prelude.{ℕ, zero, suc, ◌+◌, ◌*◌, ◌/◌, ◌%◌, Bool, not, ◌&&◌, ◌||◌, ◌==◌, nat_le, nat_lt, List, [], ◌∷◌, length, get_or, replicate, slice_index, if◌then◌else◌}
use Rattle.flash_base.specs.Numbers.{each_below, some_below}
use Rattle.flash_plan.specs.declared.outcome.Entry.{Entry}
use Rattle.flash_plan.specs.declared.outcome.Entry.TheVariants.{Begun, Marked, Complete}
use Rattle.flash_plan.specs.declared.unit.UnitPlan.{UnitPlan}
use Rattle.flash_plan.specs.Canonical.{plan_digest}

-- ------ what a journal is of
-- the digest of a plan, and of each unit the number of its segments
pub record Label : Type 0 where
  pub digest : List ℕ
  pub segments : List ℕ

abbrev pub segment_counts : List UnitPlan → List ℕ
segment_counts [] = []
segment_counts (u ∷ us) = length u.segments ∷ segment_counts us

abbrev pub label_of : List UnitPlan → Label
label_of P = record { digest = plan_digest P; segments = segment_counts P }

abbrev pub total : List ℕ → ℕ
total [] = 0
total (x ∷ xs) = x + total xs

abbrev pub unit_of : Entry → ℕ
unit_of (Begun u) = u
unit_of (Marked u s) = u
unit_of (Complete u) = u

-- ------ where the slots lie
-- the place of a journal's header, the number of units, and of each unit how many segments can be marked
pub record Form : Type 0 where
  pub at : ℕ
  pub units : ℕ
  pub segments : List ℕ

-- twice the units, and one for each segment
abbrev pub slots_of : Form → ℕ
slots_of F = 2 * F.units + total F.segments

abbrev pub segments_of : Form → ℕ → ℕ
segments_of F u = get_or F.segments u 0

-- the place behind the last body
abbrev pub end_of : Form → ℕ
end_of F = F.at + (64 + 17 * slots_of F)

-- version 1 has no marks; version 2 stands at place 0, or behind a version 1 that was migrated
abbrev pub old_form : Label → Form
old_form P = record { at = 0; units = length P.segments; segments = [] }

abbrev pub new_form : Label → ℕ → Form
new_form P at = record { at = at; units = length P.segments; segments = P.segments }

abbrev pub behind : Label → ℕ
behind P = end_of (old_form P)

-- ------ the header
-- bytes 1 to 7
abbrev pub magic : List ℕ
magic = 79 ∷ 68 ∷ 88 ∷ 70 ∷ 74 ∷ 78 ∷ 76 ∷ []

-- bytes 1 to 11
abbrev pub magic_and_version : ℕ → List ℕ
magic_and_version v = 79 ∷ 68 ∷ 88 ∷ 70 ∷ 74 ∷ 78 ∷ 76 ∷ v ∷ 0 ∷ 0 ∷ 0 ∷ []

-- a number below 2^32, big-endian
abbrev pub bytes4 : ℕ → List ℕ
bytes4 x = x / 16777216 ∷ x / 65536 % 256 ∷ x / 256 % 256 ∷ x % 256 ∷ []

-- the bytes from a place are these
abbrev pub stands_at : List ℕ → ℕ → ℕ → List ℕ → Bool
stands_at image at size bytes = each_below size (λ i. slice_index image (at + i) == slice_index bytes i)

-- a file that is not made yet
abbrev pub is_fresh : List ℕ → Bool
is_fresh image = nat_le (length image) 1 || slice_index image 0 == 0
    || (nat_le 8 (length image) && stands_at image 1 7 magic && not (slice_index image 0 == 165))

-- a header of this version from a place on: its gate is open, and its fixed parts stand, but for its last byte
abbrev pub is_header : List ℕ → ℕ → ℕ → Bool
is_header image at v = slice_index image at == 165 && stands_at image (at + 1) 11 (magic_and_version v)
    && stands_at image (at + 48) 15 (replicate 15 0)

-- a version 2 header; its last byte is 0
abbrev pub is_new_header : List ℕ → ℕ → Bool
is_new_header image at = is_header image at 2 && slice_index image (at + 63) == 0

-- the first header stands; of version 1 its last byte may be any
abbrev pub is_headed : List ℕ → Bool
is_headed image = nat_le 64 (length image) && (is_header image 0 1 || is_new_header image 0)

abbrev pub says_digest : Label → List ℕ → ℕ → Bool
says_digest P image at = stands_at image (at + 16) 32 P.digest

abbrev pub says_slots : List ℕ → ℕ → ℕ → Bool
says_slots image at n = stands_at image (at + 12) 4 (bytes4 n)

-- ------ which slots count
abbrev pub is_new : List ℕ → Bool
is_new image = slice_index image 8 == 2

-- a version 1 file whose byte 63 is A5: what it records stands in a version 2 journal behind it
abbrev pub is_migrated : List ℕ → Bool
is_migrated image = not (is_new image) && slice_index image 63 == 165

abbrev pub form_of : Label → List ℕ → Form
form_of P image =
    if is_new image then new_form P 0 else (if is_migrated image then new_form P (behind P) else old_form P)

-- ------ the slots of a form
-- the entry is of a unit and a segment that the form has
abbrev pub names : Form → Entry → Bool
names F (Begun u) = nat_lt u F.units
names F (Marked u s) = nat_lt u F.units && nat_lt s (segments_of F u)
names F (Complete u) = nat_lt u F.units

-- the 16 bytes of an entry
abbrev pub body_of : Entry → List ℕ
body_of (Begun u) = 1 ∷ 0 ∷ u / 256 ∷ u % 256 ∷ replicate 12 0
body_of (Marked u s) = 3 ∷ 0 ∷ u / 256 ∷ u % 256 ∷ s / 256 ∷ s % 256 ∷ replicate 10 0
body_of (Complete u) = 2 ∷ 0 ∷ u / 256 ∷ u % 256 ∷ replicate 12 0

-- the gates of the slots stand in a row behind the header, and the bodies behind the gates
abbrev pub gate_at : Form → ℕ → ℕ
gate_at F k = F.at + (64 + k)

abbrev pub body_at : Form → ℕ → ℕ
body_at F k = F.at + (64 + slots_of F + 16 * k)

-- slot k is open; its body is that of the entry
abbrev pub is_open : Form → List ℕ → ℕ → Bool
is_open F image k = slice_index image (gate_at F k) == 165

abbrev pub spells : Form → List ℕ → ℕ → Entry → Bool
spells F image k e = each_below 16 (λ j. slice_index image (body_at F k + j) == slice_index (body_of e) j)

-- an open slot has this entry
abbrev pub has : Form → List ℕ → Entry → Bool
has F image e = some_below (slots_of F) (λ k. is_open F image k && spells F image k e)

-- the body of slot k is in the form, and names a unit, or a unit and a segment of it
abbrev pub is_spelt : Form → List ℕ → ℕ → Bool
is_spelt F image k = some_below F.units (λ u. spells F image k (Begun u) || spells F image k (Complete u)
    || some_below (segments_of F u) (λ s. spells F image k (Marked u s)))

abbrev pub is_formed : Form → List ℕ → Bool
is_formed F image = each_below (slots_of F) (λ k. not (is_open F image k) || is_spelt F image k)

-- no open body stands twice
abbrev pub is_distinct : Form → List ℕ → Bool
is_distinct F image =
    each_below (slots_of F) (λ k. not (is_open F image k) || each_below k (λ l. not (is_open F image l)
    || not (each_below 16 (λ j. slice_index image (body_at F k + j) == slice_index image (body_at F l + j)))))

-- none is complete or marked that is not begun
abbrev pub is_ordered : Form → List ℕ → Bool
is_ordered F image = each_below F.units (λ u. has F image (Begun u)
    || (not (has F image (Complete u)) && each_below (segments_of F u) (λ s. not (has F image (Marked u s)))))

-- the length and the open bodies are right
abbrev pub is_filled : Form → List ℕ → Bool
is_filled F image =
    nat_le (end_of F) (length image) && is_formed F image && is_distinct F image && is_ordered F image

-- ------ a journal of the plan
-- the first header says the number of slots of its version
abbrev pub counts : Label → List ℕ → Bool
counts P image = says_slots image 0 (if is_new image then slots_of (new_form P 0) else slots_of (old_form P))

-- a migrated file has a second header, of version 2, with this digest and number of slots
abbrev pub has_second : Label → List ℕ → Bool
has_second P image = not (is_migrated image)
    || (is_new_header image (behind P) && says_digest P image (behind P)
    && says_slots image (behind P) (slots_of (new_form P 0)))

abbrev pub is_standing : Label → List ℕ → Bool
is_standing P image = counts P image && has_second P image && is_filled (form_of P image) image

abbrev pub is_journal : Label → List ℕ → Bool
is_journal P image = is_headed image && says_digest P image 0 && is_standing P image

-- the entries of an image, as a test; none where it is no journal of this plan
abbrev pub records : Label → List ℕ → Entry → Bool
records P image e = is_journal P image && has (form_of P image) image e
