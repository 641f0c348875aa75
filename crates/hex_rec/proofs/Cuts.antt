-- A text that is being written.
use Rattle.std.proofs.Common.{◌≡◌, ℕ, ◌+◌, ◌/◌, ◌^◌, ◌<◌, ◌≤◌, List, [], ◌∷◌, ◌++◌, length, None, refl, sym, ap, ◌∙◌, subst, arith, append-nil, append_assoc}
use Rattle.std.specs.FinMap.{get}
use Rattle.span_store.specs.ByteMap.{ByteMap, Holds}
use Rattle.span_store.specs.Extents.{Extent}
use Rattle.rec_text.specs.Cutting.{IsCut}
use Rattle.rec_text.proofs.Cuts as cuts
use Rattle.rec_text.proofs.Smalls.{Small, AllSmall}
use Rattle.hex_rec.specs.Writing.{lines_at, lines_of, line_of, room, IsWritten}

-- the upper bits that are in force behind some lines
abbrev pub last_upper : ℕ → List Extent → ℕ
last_upper u [] = u
last_upper u (e ∷ es) = last_upper (e.0 / 65536) es

lines_of-push : (u : ℕ) (cs : List Extent) (c : Extent) → lines_of u (cs ++ (c ∷ [])) ≡ lines_of u cs ++ lines_at (last_upper u cs) c
lines_of-push u [] c = append-nil (lines_at u c)
lines_of-push u (e ∷ es) c =
    ap (λ t. lines_at u e ++ t) (lines_of-push (e.0 / 65536) es c) ∙ sym (append_assoc (lines_at u e) (lines_of (e.0 / 65536) es) (lines_at (last_upper (e.0 / 65536) es) c))

last_upper-push : (u : ℕ) (cs : List Extent) (c : Extent) → last_upper u (cs ++ (c ∷ [])) ≡ c.0 / 65536
last_upper-push u [] c = refl
last_upper-push u (e ∷ es) c = last_upper-push (e.0 / 65536) es c

-- what stands before an address is written
pub record Progress (m : ByteMap) (here upper : ℕ) (text : List ℕ) : Type 0 where
  pub lines : List Extent
  pub cut : cuts.Progress room m here lines
  pub last : upper ≡ last_upper 0 lines
  pub spelled : text ≡ lines_of 0 lines

pub begun : (m : ByteMap) (text : List ℕ) → text ≡ [] → Progress m 0 0 text
begun m text e = record { lines = []; cut = cuts.begun room m; last = refl; spelled = e }

pub advanced : (m : ByteMap) (here upper : ℕ) (text more : List ℕ) (at n : ℕ) (bs : List ℕ) → Progress m here upper text → here ≤ at → ((a : ℕ) → here ≤ a → a < at → get m a ≡ None)
    → Holds m at bs → IsCut (room at) m (at, bs) → Small bs → at + n ≤ 2 ^ 32 → length bs ≡ n → more ≡ text ++ lines_at upper (at, bs) → Progress m (at + n) (at / 65536) more
advanced m here upper text more at n bs p le none holds is small within size spelled =
    let fits : at + length bs ≤ 2 ^ 32 = omega arith in
    record {
      lines = p.lines ++ ((at, bs) ∷ []);
      cut = subst (λ k. cuts.Progress room m (at + k) (p.lines ++ ((at, bs) ∷ []))) size (cuts.advanced room m here p.lines at bs p.cut le none holds is small fits);
      last = sym (last_upper-push 0 p.lines (at, bs));
      spelled = spelled ∙ ap (λ t. t ++ lines_at upper (at, bs)) p.spelled ∙ ap (λ u. lines_of 0 p.lines ++ lines_at u (at, bs)) p.last ∙ sym (lines_of-push 0 p.lines (at, bs));
    }

-- the whole text, whose data are bytes
abbrev pub Ends : ByteMap → List ℕ → Type 0
Ends m text = (w : IsWritten m text) × AllSmall w.lines

pub finished : (m : ByteMap) (here upper : ℕ) (text more : List ℕ) → Progress m here upper text → ((a : ℕ) → here ≤ a → get m a ≡ None) → more ≡ text ++ line_of (0 ∷ 0 ∷ 0 ∷ 1 ∷ []) → Ends m more
finished m here upper text more p none spelled = (
  record { lines = p.lines; cuts = cuts.finished room m here p.lines p.cut none; spelled = spelled ∙ ap (λ t. t ++ line_of (0 ∷ 0 ∷ 0 ∷ 1 ∷ [])) p.spelled },
  p.cut.small,
)
