-- The ends of lines.
use Rattle.std.proofs.Common.{zero, suc, ◌≡◌, ℕ, ◌+◌, ◌<◌, ◌≤◌, List, [], ◌∷◌, ◌++◌, length, take, drop, get_or, Bool, true, false, cond, eqb, refl, sym, ap, ◌∙◌, arith, append-nil, append_assoc}
use Rattle.std.proofs.lemmas.Bool.{eq-eqb, ne_eqb}
use Rattle.std.proofs.lemmas.List.{drop_more, drop_all, take_all}
use Rattle.memchr.specs.Find.{Nowhere, Passes, is_byte}
use Rattle.rec_text.specs.Lines.{lines, lines_from, last_line, without_return}

pub return_at_end : (line : List ℕ) (n : ℕ) → n + 1 ≡ length line → get_or line n 0 ≡ 13 → without_return line ≡ take n line
return_at_end [] n e is = absurd (omega arith)
return_at_end (c ∷ []) zero e is = rw (eq-eqb c 13 is) refl
return_at_end (c ∷ []) (suc n) e is = absurd (omega arith)
return_at_end (c ∷ d ∷ cs) zero e is = absurd (omega arith)
return_at_end (c ∷ d ∷ cs) (suc n) e is = ap (λ l. c ∷ l) (return_at_end (d ∷ cs) n (omega arith) is)

pub other_at_end : (line : List ℕ) (n : ℕ) → n + 1 ≡ length line → (get_or line n 0 ≡ 13 → ⊥) → without_return line ≡ line
other_at_end [] n e is = refl
other_at_end (c ∷ []) zero e is = rw (ne_eqb c 13 is) refl
other_at_end (c ∷ []) (suc n) e is = absurd (omega arith)
other_at_end (c ∷ d ∷ cs) zero e is = absurd (omega arith)
other_at_end (c ∷ d ∷ cs) (suc n) e is = ap (λ l. c ∷ l) (other_at_end (d ∷ cs) n (omega arith) is)

pub lines_at : (front text : List ℕ) (i : ℕ) → i < length text → get_or text i 0 ≡ 10 → lines_from front (drop i text) ≡ without_return front ∷ lines (drop (i + 1) text)
lines_at front text i h is =
    ap (lines_from front) (drop_more text i 0 h)
    ∙ ap (λ b. cond b (without_return front ∷ lines (drop (i + 1) text)) (lines_from (front ++ get_or text i 0 ∷ []) (drop (i + 1) text))) (eq-eqb (get_or text i 0) 10 is)

not_true : (b : Bool) → (b ≡ true → ⊥) → b ≡ false
not_true true h = absurd (h refl)
not_true false h = refl

-- no line feed among the first bytes
pub lines_past : (front text : List ℕ) (i : ℕ) → i ≤ length text → Nowhere (Passes (is_byte 10) text) 0 i → lines_from front text ≡ lines_from (front ++ take i text) (drop i text)
lines_past front text zero h none = ap (λ f. lines_from f text) (sym (append-nil front))
lines_past front [] (suc i) h none = absurd (omega arith)
lines_past front (c ∷ cs) (suc i) h none =
    ap (λ b. cond b (without_return front ∷ lines cs) (lines_from (front ++ c ∷ []) cs)) (not_true (eqb c 10) (λ e. none 0 (omega arith) (omega arith) e))
    ∙ lines_past (front ++ c ∷ []) cs i (omega arith) (λ k l u. none (suc k) (omega arith) (omega arith))
    ∙ ap (λ f. lines_from f (drop i cs)) (append_assoc front (c ∷ []) (take i cs))

pub lines_none : (text : List ℕ) → 0 < length text → Nowhere (Passes (is_byte 10) text) 0 (length text) → lines text ≡ text ∷ lines (drop (length text) text)
lines_none [] h none = absurd (omega arith)
lines_none (c ∷ cs) h none =
    let n : ℕ = length (c ∷ cs) in
    let d : drop n (c ∷ cs) ≡ [] = drop_all n (c ∷ cs) (omega arith) in
    let t : take n (c ∷ cs) ≡ c ∷ cs = take_all n (c ∷ cs) (omega arith) in
    lines_past [] (c ∷ cs) n (omega arith) none
    ∙ ap (λ l. lines_from (take n (c ∷ cs)) l) d
    ∙ ap (λ l. last_line l) t
    ∙ ap (λ l. (c ∷ cs) ∷ lines l) (sym d)
