-- The image of each session of a drill.
use Rattle.std.proofs.Common.{◌≡◌, ◌∙◌, ℕ, zero, suc, ◌+◌, ◌<◌, ◌≤◌, List, [], ◌∷◌, ◌++◌, codes, length, true, false, nat_lt, Bool, cond, bytes_eq, Option, Some, None, Result, Ok, refl, sym, ap, arith}
use Rattle.std.specs.FinMap as fin
use Rattle.std.specs.List.{slice_get}
use Rattle.std.proofs.lemmas.Bool.Decides.{nat_tests}
use Rattle.std.proofs.lemmas.Slice.Eq.{bytes_eq-Decides}
use Rattle.std.proofs.lemmas.List.FromFn.{get_or-map-range_with_len}
use Rattle.bench_gen.specs.Catalogue.{hex_name}
use Rattle.bench_gen.specs.Sizes.{numbered}
use Rattle.ecu_mem.specs.declared.types.Block.{Block}
use Rattle.ecu_mem.specs.declared.types.Flash.{Flash}
use Rattle.ecu_mem.specs.declared.types.Session.{Session}
use Rattle.flash_base.specs.Files.{first_of}
use Rattle.hex_rec.specs.Reading.{reading_of}
use Rattle.session_image.specs.Content.{content, mapped, or_none}
use Rattle.session_image.specs.Files.{block_of, blocks_at, blocks_of, files_of, flash_of, names_with, no_block, no_flash, no_session, session_of, with_source}
use Rattle.session_image.specs.Checks.{all_checked}
use Rattle.session_image.specs.Images.{IsImageAnswer, own_of}
use Rattle.session_image.specs.Pieces.{◌>>=◌, IsShared, all_pieces, block_pieces, byte_of, filled, own_pieces, session_pieces, size_limit, size_of}
use Rattle.session_image.specs.declared.content.Content.{Content}
use Rattle.session_image.specs.declared.content.Content.TheVariants.{Mapped}
use Rattle.session_image.specs.declared.pieces.Piece.{Piece}
use Rattle.session_image.specs.declared.types.Image.{Image}
use Rattle.session_image.specs.declared.types.ImageFault.{ImageFault}
use Rattle.span_store.specs.ByteMap.{ByteMap, over, top}
use Rattle.span_store.proofs.Lookups.{get-over, reads_hit}
use Rattle.drill_law.proofs.Catalogues.{block_at, mem_of, session_at}
use Rattle.drill_law.proofs.Entries.{flash_at}

-- a name is itself
pub same_name : (name : List ℕ) → bytes_eq name name ≡ true
same_name name = (bytes_eq-Decides name name).1 refl

-- ------ the bytes of a segment, where a map has each
filled_is : (look : ℕ → Option ℕ) (a : ℕ) (bs : List ℕ) → ((k : ℕ) → k < length bs → look (a + k) ≡ slice_get bs k) → filled 0 look None a (length bs) ≡ Ok bs
filled_is look a [] h = refl
filled_is look a (b ∷ bs) h =
    let s : a ≡ a + 0 = omega arith in
    let here : look a ≡ Some b = ap look s ∙ h 0 (omega arith) in
    let rest : filled 0 look None (a + 1) (length bs) ≡ Ok bs =
    filled_is look (a + 1) bs (λ k l. let t : a + 1 + k ≡ a + suc k = omega arith in ap look t ∙ h (suc k) (omega (arith, l))) in
    rw (here, rest) refl

image_look : (bytes : List ℕ) (k : ℕ) → k < length bytes → fin.get (over fin.empty 65536 bytes) (65536 + k) ≡ slice_get bytes k
image_look bytes k h = get-over fin.empty 65536 bytes (65536 + k) ∙ reads_hit 65536 bytes (65536 + k) k (fin.get fin.empty (65536 + k)) refl h

segment_filled : (bytes : List ℕ) → filled 0 (byte_of (Mapped (over fin.empty 65536 bytes)) [] 65536 0) None 65536 (length bytes) ≡ Ok bytes
segment_filled bytes = filled_is (byte_of (Mapped (over fin.empty 65536 bytes)) [] 65536 0) 65536 bytes (image_look bytes)

-- ------ the one piece
abbrev pub piece : List ℕ → Piece
piece bytes = record { source = 65536; target = 65536; body = bytes }

one_piece : (size k : ℕ) (m : ByteMap) (bytes : List ℕ) → filled 0 (byte_of (Mapped m) [] 65536 0) None 65536 size ≡ Ok bytes → length bytes ≡ size → size ≤ 1048576 →
    own_pieces None 0 0 (block_at size k) (Mapped m) ≡ Ok (piece bytes ∷ [])
one_piece size k m bytes h l few =
    let a : nat_lt size_limit (0 + (size + 0)) ≡ false = grind (arith, nat_tests, few) in
    let b : nat_lt top (65536 + 0 + length bytes) ≡ false = grind (arith, nat_tests, few, l) in
    rw (a, h, b) refl

-- ------ the lists of the catalogue by position
module _ (units size k : ℕ) (low : k < units) where
  session_is : session_of (mem_of units size) k ≡ session_at k
  session_is = get_or-map-range_with_len session_at 0 units k k no_session low (omega arith)

  block_is : block_of (mem_of units size) k ≡ block_at size k
  block_is = get_or-map-range_with_len (block_at size) 0 units k k no_block low (omega arith)

  flash_is : flash_of (mem_of units size) (block_at size k) ≡ flash_at k
  flash_is = get_or-map-range_with_len flash_at 0 units k k no_flash low (omega arith)

  blocks_are : blocks_of (mem_of units size) k ≡ block_at size k ∷ []
  blocks_are = ap (λ (s : Session). blocks_at (mem_of units size) s.blocks) session_is ∙ ap (λ (b : Block). b ∷ []) block_is

  pub own_none : own_of (blocks_of (mem_of units size) k) ≡ []
  own_none = ap own_of blocks_are

  pub idents_are : (session_of (mem_of units size) k).idents ≡ (session_at k).idents
  idents_are = ap (λ (s : Session). s.idents) session_is

  checks_none : (session_of (mem_of units size) k).checks ≡ []
  checks_none = ap (λ (s : Session). s.checks) session_is

  pub files_are : files_of (mem_of units size) k ≡ hex_name k ∷ []
  files_are =
      ap (λ (bs : List Block). names_with (mem_of units size) [] bs) blocks_are
      ∙ ap (λ (f : Flash). with_source f.source []) flash_is

  module _ (bytes text : List ℕ) (read : reading_of text ≡ Ok (over fin.empty 65536 bytes)) (whole : length bytes ≡ size) (few : size ≤ 1048576) where
    abbrev files : List (List ℕ × List ℕ)
    files = (hex_name k, text) ∷ []

    file_found : first_of (hex_name k) files ≡ Some text
    file_found = ap (λ (b : Bool). cond b (Some text) None) (same_name (hex_name k))

    content_is : content files (flash_at k) ≡ Ok (Mapped (over fin.empty 65536 bytes))
    content_is =
        ap (λ (o : Option (List ℕ)). mapped (numbered (codes "F") k) (reading_of (or_none o))) file_found
        ∙ ap (mapped (numbered (codes "F") k)) read

    abbrev with_content : Result Content ImageFault → Result (List Piece) ImageFault
    with_content r = r >>= own_pieces None 0 0 (block_at size k)

    block_made : block_pieces (mem_of units size) files None 0 0 (block_at size k) ≡ Ok (piece bytes ∷ [])
    block_made =
        ap (λ (f : Flash). with_content (content files f)) flash_is ∙ ap with_content content_is
        ∙ one_piece size k (over fin.empty 65536 bytes) bytes (ap (λ (n : ℕ). filled 0 (byte_of (Mapped (over fin.empty 65536 bytes)) [] 65536 0) None 65536 n) (sym whole) ∙ segment_filled bytes) whole few

    pieces_are : session_pieces (mem_of units size) files None (blocks_of (mem_of units size) k) ≡ Ok (piece bytes ∷ [])
    pieces_are =
        ap (λ (bs : List Block). session_pieces (mem_of units size) files None bs) blocks_are
        ∙ only_one (block_pieces (mem_of units size) files None 0 0 (block_at size k)) block_made
      where
        only_one : (r : Result (List Piece) ImageFault) → r ≡ Ok (piece bytes ∷ []) →
            (r >>= λ ps. all_pieces (mem_of units size) files None (0 + length ps) (0 + size_of ps) [] >>= λ rest. Ok (ps ++ rest)) ≡ Ok (piece bytes ∷ [])
        only_one r h = rw h refl

    past_one : (j : ℕ) (q : Piece) → 1 ≤ j → slice_get (piece bytes ∷ []) j ≡ Some q → ⊥
    past_one zero q h e = absurd (omega (arith, h))
    past_one (suc j) q h e = cc

    alone : (a : ℕ) → IsShared (piece bytes ∷ []) a → ⊥
    alone a h = let before : h.0 < h.1 = h.4 in past_one h.1 h.3 (omega (arith, before)) h.6

    abbrev pub image : Image
    image = record { segments = record { at = 65536; body = bytes } ∷ []; checks = []; own = [] }

    pub image_is : IsImageAnswer (mem_of units size) k files None (Ok image)
    image_is = record {
      pieces = piece bytes ∷ [];
      set = record { pieces = pieces_are; apart = alone };
      segments = refl;
      checks = ap (λ cs. all_checked (piece bytes ∷ []) cs) checks_none;
      own = sym own_none;
    }
