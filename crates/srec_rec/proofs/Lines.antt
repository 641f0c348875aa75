-- A text that is being written.
use Rattle.std.proofs.Common.{◌≡◌, ℕ, ◌+◌, ◌-◌, ◌^◌, ◌<◌, ◌≤◌, List, [], ◌∷◌, ◌++◌, length, None, sym, ap, ◌∙◌, subst, arith, append-nil, append_assoc}
use Rattle.std.specs.FinMap.{get}
use Rattle.span_store.specs.ByteMap.{ByteMap, Holds}
use Rattle.span_store.specs.Extents.{Extent}
use Rattle.rec_text.specs.Cutting.{IsCut}
use Rattle.rec_text.proofs.Cuts as cuts
use Rattle.rec_text.proofs.Smalls.{Small, AllSmall}
use Rattle.srec_rec.specs.Writing.{data_line, lines_of, line_of, IsWritten}

-- how many addresses there are up to the top
abbrev pub room : ℕ → ℕ
room a = 2 ^ 32 - a

-- the header
abbrev pub head : List ℕ
head = line_of 0 (3 ∷ 0 ∷ 0 ∷ [])

lines_of-push : (cs : List Extent) (c : Extent) → lines_of (cs ++ (c ∷ [])) ≡ lines_of cs ++ data_line c
lines_of-push [] c = append-nil (data_line c)
lines_of-push (e ∷ es) c = ap (λ t. data_line e ++ t) (lines_of-push es c) ∙ sym (append_assoc (data_line e) (lines_of es) (data_line c))

-- what stands before an address is written
pub record Progress (m : ByteMap) (here : ℕ) (text : List ℕ) : Type 0 where
  pub lines : List Extent
  pub cut : cuts.Progress room m here lines
  pub spelled : text ≡ head ++ lines_of lines

pub begun : (m : ByteMap) (text : List ℕ) → text ≡ head → Progress m 0 text
begun m text e = record { lines = []; cut = cuts.begun room m; spelled = e ∙ sym (append-nil head) }

pub advanced : (m : ByteMap) (here : ℕ) (text more : List ℕ) (at n : ℕ) (bs : List ℕ) → Progress m here text → here ≤ at → ((a : ℕ) → here ≤ a → a < at → get m a ≡ None)
    → Holds m at bs → IsCut (room at) m (at, bs) → Small bs → at + n ≤ 2 ^ 32 → length bs ≡ n → more ≡ text ++ data_line (at, bs) → Progress m (at + n) more
advanced m here text more at n bs p le none holds is small within size spelled =
    let fits : at + length bs ≤ 2 ^ 32 = omega arith in
    record {
      lines = p.lines ++ ((at, bs) ∷ []);
      cut = subst (λ k. cuts.Progress room m (at + k) (p.lines ++ ((at, bs) ∷ []))) size (cuts.advanced room m here p.lines at bs p.cut le none holds is small fits);
      spelled = spelled ∙ ap (λ t. t ++ data_line (at, bs)) p.spelled ∙ append_assoc head (lines_of p.lines) (data_line (at, bs)) ∙ ap (λ t. head ++ t) (sym (lines_of-push p.lines (at, bs)));
    }

-- the whole text, whose data are bytes
abbrev pub Ends : ByteMap → List ℕ → Type 0
Ends m text = (w : IsWritten m text) × AllSmall w.lines

pub finished : (m : ByteMap) (here : ℕ) (text more : List ℕ) → Progress m here text → ((a : ℕ) → here ≤ a → get m a ≡ None) → more ≡ text ++ line_of 7 (5 ∷ 0 ∷ 0 ∷ 0 ∷ 0 ∷ []) → Ends m more
finished m here text more p none spelled = (
  record {
    lines = p.lines;
    cuts = cuts.finished room m here p.lines p.cut none;
    spelled = spelled ∙ ap (λ t. t ++ line_of 7 (5 ∷ 0 ∷ 0 ∷ 0 ∷ 0 ∷ [])) p.spelled ∙ append_assoc head (lines_of p.lines) (line_of 7 (5 ∷ 0 ∷ 0 ∷ 0 ∷ 0 ∷ []));
  },
  p.cut.small,
)
