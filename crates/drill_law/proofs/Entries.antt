-- What the elements of a drill's catalogue are read as.
use Rattle.std.proofs.Common.{◌≡◌, ◌∙◌, ℕ, ◌+◌, ◌*◌, ◌/◌, ◌%◌, ◌<◌, ◌≤◌, List, [], ◌∷◌, codes, decimal, true, false, nat_lt, nat_le, Option, Some, None, Ok, refl, ap, arith}
use Rattle.std.specs.Fmt.{digits}
use Rattle.std.specs.List.{range_with_len}
use Rattle.std.proofs.lemmas.Bool.Decides.{nat_tests}
use Rattle.bench_gen.specs.Catalogue.{hex_name}
use Rattle.bench_gen.specs.Sizes.{bytes_of, numbered}
use Rattle.ecu_mem.specs.Catalogue.{id_of}
use Rattle.ecu_mem.specs.Elements.{entry_in, block_of, flash_of, session_of}
use Rattle.ecu_mem.specs.Refusals.{Reading, ◌>>=◌, both, in_kid, read_as}
use Rattle.ecu_mem.specs.Values.{or_bad, segment_in, size_from}
use Rattle.ecu_mem.specs.declared.types.Block.{Block}
use Rattle.ecu_mem.specs.declared.types.Flash.{Flash}
use Rattle.ecu_mem.specs.declared.types.Format.TheVariants.{IntelHex}
use Rattle.ecu_mem.specs.declared.types.Ident.{Ident}
use Rattle.ecu_mem.specs.declared.types.Session.{Session}
use Rattle.ecu_mem.specs.declared.types.Source.TheVariants.{File}
use Rattle.flash_base.specs.Lists.{all_of}
use Rattle.odx_tree.specs.declared.element.Element.TheBlock.{shown-the_row-Element-0}
use Rattle.odx_tree.specs.declared.element.Element.TheViews.{out-Element, roll-Element}
use Rattle.span_store.specs.ByteMap.{top}
use Rattle.text_forms.specs.Numbers.{decimal_text}
use Rattle.text_forms.specs.Trim.{cut}
use denote.Hole.Carrier.{out, roll, shown, hidden}
use Rattle.drill_law.proofs.Elements.{datablock, flashdata, segment, session}
use Rattle.drill_law.proofs.Tables.{First, Rows, holds_of, is_number, row_of}

abbrev pub Entry : Type 0
Entry = First id_of

abbrev pub ident : Ident
ident = record { name = codes "SWNR"; values = codes "OLD" ∷ [] }

abbrev pub session_with : List ℕ → ℕ → Session
session_with blocks k = record { id = numbered (codes "S") k; name = numbered (codes "S") k; blocks = blocks; idents = ident ∷ []; checks = [] }

abbrev pub block_with : ℕ → ℕ → ℕ → Block
block_with flash size k = record {
  id = numbered (codes "D") k;
  name = numbered (codes "D") k;
  flash = flash;
  filters = [];
  segments = (65536, size) ∷ [];
  down = false;
  offset = 0;
  own = [];
}

abbrev pub flash_at : ℕ → Flash
flash_at k = record { id = numbered (codes "F") k; format = IntelHex; plain = true; source = File (hex_name k) }

abbrev pub session_entry : ℕ → Entry
session_entry k = session_of (numbered (codes "S") k, (numbered (codes "S") k, (ident ∷ [], ([], numbered (codes "D") k ∷ []))))

abbrev pub block_entry : ℕ → ℕ → Entry
block_entry size k =
    block_of (numbered (codes "D") k, (numbered (codes "D") k, (numbered (codes "F") k, ([], ((65536, size) ∷ [], (None, []))))))

abbrev pub flash_entry : ℕ → Entry
flash_entry k = flash_of (numbered (codes "F") k, (IntelHex, (None, File (hex_name k))))

-- ------ a session
abbrev SessionIs : ℕ → Type 0
SessionIs k = entry_in (session k) ≡ Ok (session_entry k)

sessions_are : Rows SessionIs 0 12
unfolding out-Element roll-Element out roll shown hidden shown-the_row-Element-0
sessions_are = (refl, (refl, (refl, (refl, (refl, (refl, (refl, (refl, (refl, (refl, (refl, (refl, tt))))))))))))

pub session_is : (k : ℕ) → k < 12 → entry_in (session k) ≡ Ok (session_entry k)
session_is k h = row_of SessionIs 12 sessions_are k h

-- ------ flash data
abbrev FlashIs : ℕ → Type 0
FlashIs k = entry_in (flashdata k) ≡ Ok (flash_entry k)

flashes_are : Rows FlashIs 0 12
unfolding out-Element roll-Element out roll shown hidden shown-the_row-Element-0
flashes_are = (refl, (refl, (refl, (refl, (refl, (refl, (refl, (refl, (refl, (refl, (refl, (refl, tt))))))))))))

pub flash_is : (k : ℕ) → k < 12 → entry_in (flashdata k) ≡ Ok (flash_entry k)
flash_is k h = row_of FlashIs 12 flashes_are k h

-- ------ a datablock, by what its segment is read as
abbrev block_by : ℕ → Reading (ℕ × ℕ) → Reading Entry
block_by k r =
    read_as block_of (both (Ok (numbered (codes "D") k)) (both (Ok (numbered (codes "D") k)) (both (Ok (numbered (codes "F") k))
    (both (Ok []) (both (in_kid 2 (in_kid 0 r >>= λ x. Ok (x ∷ []))) (both (Ok None) (Ok [])))))))

abbrev BlockBy : ℕ → Type 0
BlockBy k = (size : ℕ) → entry_in (datablock size k) ≡ block_by k (segment_in (segment size))

blocks_are : Rows BlockBy 0 12
unfolding out-Element roll-Element out roll shown hidden shown-the_row-Element-0
blocks_are = (
  λ s. refl,
  (
    λ s. refl,
    (
      λ s. refl,
      (
        λ s. refl,
        (
          λ s. refl,
          (
            λ s. refl,
            (λ s. refl, (λ s. refl, (λ s. refl, (λ s. refl, (λ s. refl, (λ s. refl, tt)))))),
          ),
        ),
      ),
    ),
  ),
)

pub block_is : (size k : ℕ) → k < 12 → segment_in (segment size) ≡ Ok (65536, size) → entry_in (datablock size k) ≡ Ok (block_entry size k)
block_is size k h s = row_of BlockBy 12 blocks_are k h size ∙ ap (block_by k) s

-- ------ its segment, by the decimal text of its size
abbrev segment_by : Option ℕ → Reading (ℕ × ℕ)
segment_by o = both (Ok 65536) (in_kid 1 (or_bad (size_from 65536 o)))

segment_text : (size : ℕ) → segment_in (segment size) ≡ segment_by (decimal_text (cut (decimal size)))
unfolding out-Element roll-Element out roll shown hidden shown-the_row-Element-0
segment_text size = refl

segment_sized : (size : ℕ) → 1 ≤ size → size ≤ 1048576 → segment_by (Some size) ≡ Ok (65536, size)
segment_sized size some few =
    let a : nat_lt 0 size ≡ true = grind (arith, nat_tests, some) in
    let b : nat_le (65536 + size) top ≡ true = grind (arith, nat_tests, few) in
    rw (a, b) refl

number_is : (o : Option ℕ) (n : ℕ) → is_number o n ≡ true → o ≡ Some n
number_is None n h = cc
number_is (Some m) n h = let e : m ≡ n = grind (arith, nat_tests, h) in ap (λ (x : ℕ). Some x) e

texts_say : all_of (range_with_len 0 256) (λ m. is_number (decimal_text (cut (decimal (4096 * (1 + m))))) (4096 * (1 + m))) ≡ true
unfolding digits
texts_say = refl

text_says : (m : ℕ) → m < 256 → decimal_text (cut (decimal (4096 * (1 + m)))) ≡ Some (4096 * (1 + m))
text_says m h =
    number_is (decimal_text (cut (decimal (4096 * (1 + m))))) (4096 * (1 + m))
    (holds_of (λ m. is_number (decimal_text (cut (decimal (4096 * (1 + m))))) (4096 * (1 + m))) 256 texts_say m h)

pub segment_is : (n : ℕ) → segment_in (segment (bytes_of n)) ≡ Ok (65536, bytes_of n)
segment_is n =
    let m : ℕ = n / 11 % 256 in
    segment_text (bytes_of n) ∙ ap segment_by (text_says (n / 11 % 256) (omega arith)) ∙ segment_sized (bytes_of n) (omega arith) (omega arith)
