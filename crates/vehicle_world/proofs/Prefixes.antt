-- The first frames of a stream are the frames of its first bytes.
use Rattle.std.proofs.Common.{◌≡◌, inl, inr, ℕ, zero, suc, ◌+◌, ◌-◌, ◌<◌, true, false, List, [], ◌∷◌, ◌++◌, length, take, drop, None, refl, sym, ◌∙◌, ap, subst, arith, append_assoc}
use Rattle.std.specs.Prelude.{nat_lt, ◌==◌, ◌&&◌}
use Rattle.std.proofs.lemmas.Bool.{cases_lt, lt-ltb, le-ltb, cases_Bool, false≢true}
use Rattle.std.proofs.lemmas.List.{append-nil, take-append-drop, take-append-le, length-take-le, length-append}
use Rattle.std.proofs.Math.Seq.{take-append_seam, take-append-add, drop-append_seam}
use Rattle.flash_base.specs.Numbers.{number2, number4}
use Rattle.doip_frame.specs.declared.frame.Frame.{Frame}
use Rattle.doip_frame.specs.Deframe.{is_partial}
use Rattle.doip_frame.specs.Frame.{Cut, Partial, Wrong, Whole, cut_frame, cut_body, cut_sized, is_length, frame_of, Stream, stream_of, stream_in, stream_after, with_frame}
use Rattle.doip_frame.proofs.Feeds.{of_part, of_whole}
use Rattle.doip_frame.proofs.Streams.{Grows, grows, Shortens, shortens}

-- a whole frame's bytes, which are cut off whatever follows them
pub record Front (cut_off : List ℕ → Cut) (s : List ℕ) (kind : ℕ) (payload rest : List ℕ) : Type 0 where
  pub front : List ℕ
  pub is : s ≡ front ++ rest
  pub cuts : (more : List ℕ) → cut_off (front ++ more) ≡ Whole kind payload more

abbrev HasFront : (List ℕ → Cut) → Cut → List ℕ → Type 0
HasFront cut_off Partial s = Unit {0}
HasFront cut_off (Wrong bad) s = Unit {0}
HasFront cut_off (Whole kind payload rest) s = Front cut_off s kind payload rest

longer : (f g : List ℕ → Cut) (head : List ℕ) (cut : Cut) (s : List ℕ) → ((xs : List ℕ) → g (head ++ xs) ≡ f xs) → HasFront f cut s → HasFront g cut (head ++ s)
longer f g head Partial s same h = tt
longer f g head (Wrong bad) s same h = tt
longer f g head (Whole kind payload rest) s same h = record {
  front = head ++ h.front;
  is = ap (λ (xs : List ℕ). head ++ xs) h.is ∙ sym (append_assoc head h.front rest);
  cuts = λ more. ap g (append_assoc head h.front more) ∙ same (h.front ++ more) ∙ h.cuts more;
}

sized_cuts : (kind n : ℕ) (xs more : List ℕ) → nat_lt 65600 n ≡ false → is_length kind n ≡ true → length xs ≡ n → cut_sized kind n (xs ++ more) ≡ Whole kind xs more
sized_cuts kind n xs more e f is =
    let s : nat_lt (length (xs ++ more)) n ≡ false = le-ltb _ _ (omega (arith, length-append xs more, is)) in
    let t : take n (xs ++ more) ≡ xs = ap (λ (k : ℕ). take k (xs ++ more)) (sym is) ∙ take-append_seam xs more in
    let d : drop n (xs ++ more) ≡ more = ap (λ (k : ℕ). drop k (xs ++ more)) (sym is) ∙ drop-append_seam xs more in
    rw (e, f, s, t, d) refl

sized_front : (kind n : ℕ) (rest : List ℕ) → HasFront (cut_sized kind n) (cut_sized kind n rest) rest
sized_front kind n rest = elim (cases_Bool (nat_lt 65600 n)) [
  | inl e ↦ rw e tt
  | inr e ↦ elim (cases_Bool (is_length kind n)) [
    | inr f ↦ rw (e, f) tt
    | inl f ↦ elim (cases_lt (length rest) n) [
      | inl lt ↦ let s : nat_lt (length rest) n ≡ true = lt-ltb _ _ lt in rw (e, f, s) tt
      | inr ge ↦
          let s : nat_lt (length rest) n ≡ false = le-ltb _ _ ge in
          let there : Front (cut_sized kind n) rest kind (take n rest) (drop n rest) = record {
            front = take n rest;
            is = sym (take-append-drop n rest);
            cuts = λ more. sized_cuts kind n (take n rest) more e f (length-take-le n rest ge);
          } in
          rw (e, f, s) there
    ]
  ]
]

body_front : (s : List ℕ) → HasFront cut_body (cut_body s) s
body_front [] = tt
body_front (a ∷ []) = tt
body_front (a ∷ b ∷ []) = tt
body_front (a ∷ b ∷ c ∷ []) = tt
body_front (a ∷ b ∷ c ∷ d ∷ []) = tt
body_front (a ∷ b ∷ c ∷ d ∷ e ∷ []) = tt
body_front (a ∷ b ∷ c ∷ d ∷ e ∷ f ∷ rest) = longer (cut_sized (number2 a b) (number4 c d e f)) cut_body (a ∷ b ∷ c ∷ d ∷ e ∷ f ∷ []) (cut_sized (number2 a b) (number4 c d e f) rest) rest (λ xs. refl) (sized_front (number2 a b) (number4 c d e f) rest)

two_front : (p q : ℕ) (rest : List ℕ) → (p == 3 && q == 252) ≡ true → (xs : List ℕ) → cut_frame (p ∷ q ∷ xs) ≡ cut_body xs
two_front p q rest e xs = rw e refl

cut_front : (s : List ℕ) → HasFront cut_frame (cut_frame s) s
cut_front [] = tt
cut_front (p ∷ []) = elim (cases_Bool (p == 3)) [ inl e ↦ rw e tt | inr e ↦ rw e tt ]
cut_front (p ∷ q ∷ rest) = elim (cases_Bool (p == 3 && q == 252)) [
  | inl e ↦ subst (λ (cut : Cut). HasFront cut_frame cut (p ∷ q ∷ rest)) (sym (two_front p q rest e rest)) (longer cut_body cut_frame (p ∷ q ∷ []) (cut_body rest) rest (two_front p q rest e) (body_front rest))
  | inr e ↦ rw e tt
]

-- these are the frames of the first bytes, so many of them
pub record FirstOf (s : List ℕ) (fs : List Frame) : Type 0 where
  pub count : ℕ
  pub is : stream_of (take count s) ≡ record { frames = fs; rest = []; bad = None }

none_of : (s : List ℕ) → FirstOf s []
none_of s = record { count = 0; is = refl }

shorter : (s : List ℕ) (kind : ℕ) (payload rest : List ℕ) → cut_frame s ≡ Whole kind payload rest → length rest < length s
shorter s kind payload rest is = subst (λ (cut : Cut). Shortens cut (length s)) is (shortens s)

more_of : (s : List ℕ) (kind : ℕ) (payload rest : List ℕ) (fs : List Frame) → Front cut_frame s kind payload rest → FirstOf rest fs → FirstOf s (frame_of kind payload ∷ fs)
more_of s kind payload rest fs f m =
    let bytes : List ℕ = take m.count rest in
    let here : take (length f.front + m.count) s ≡ f.front ++ bytes = ap (λ (xs : List ℕ). take (length f.front + m.count) xs) f.is ∙ take-append-add f.front rest m.count in
    record {
      count = length f.front + m.count;
      is = ap stream_of here ∙ of_whole (f.front ++ bytes) kind payload bytes (f.cuts bytes) (shorter (f.front ++ bytes) kind payload bytes (f.cuts bytes)) ∙ ap (with_frame (frame_of kind payload)) m.is;
    }

first_in : (n k : ℕ) (s : List ℕ) → length s < n → FirstOf s (take k (stream_in n s).frames)
first_in n zero s lt = none_of s
first_in zero (suc k) s lt = absurd (omega (arith, lt))
first_in (suc n) (suc k) s lt = go (λ rest short. first_in n k rest (omega (arith, short, lt))) (cut_frame s) (shortens s) (cut_front s)
  where
    go : ((rest : List ℕ) → length rest < length s → FirstOf rest (take k (stream_in n rest).frames)) → (cut : Cut) → Shortens cut (length s) → HasFront cut_frame cut s → FirstOf s (take (suc k) (stream_after cut (stream_in n) s).frames)
    go again Partial short f = none_of s
    go again (Wrong bad) short f = none_of s
    go again (Whole kind payload rest) short f = more_of s kind payload rest (take k (stream_in n rest).frames) f (again rest short)

no_frames : (a b : List ℕ) → cut_frame (a ++ b) ≡ Partial → (stream_of a).frames ≡ []
no_frames a b part = go (cut_frame a) (grows a b)
  where
    go : (cut : Cut) → Grows cut (cut_frame (a ++ b)) b → (stream_after cut (stream_in (length a)) a).frames ≡ []
    go Partial g = refl
    go (Wrong bad) g = refl
    go (Whole kind payload rest) g = absurd (false≢true (sym (ap is_partial (sym part ∙ g))))

-- the same of what is held and a piece
pub record Prefix (held bytes : List ℕ) (fs : List Frame) : Type 0 where
  pub count : ℕ
  pub rest : List ℕ
  pub is : stream_of (held ++ take count bytes) ≡ record { frames = fs; rest = rest; bad = None }

pub prefix : (held bytes : List ℕ) (k : ℕ) → cut_frame held ≡ Partial → Prefix held bytes (take k (stream_of (held ++ bytes)).frames)
prefix held bytes k part = from (first_in (suc (length (held ++ bytes))) k (held ++ bytes) (omega arith))
  where
    fs : List Frame
    fs = take k (stream_of (held ++ bytes)).frames

    nothing : fs ≡ [] → Prefix held bytes fs
    nothing none = record {
      count = 0;
      rest = held;
      is = ap stream_of (append-nil held) ∙ of_part held part ∙ ap (λ (gs : List Frame). record { frames = gs; rest = held; bad = None }) (sym none);
    }

    few : (f : FirstOf (held ++ bytes) fs) → f.count < length held → fs ≡ []
    few f lt =
        let here : take f.count (held ++ bytes) ≡ take f.count held = take-append-le f.count held bytes (omega (arith, lt)) in
        let all : take f.count held ++ drop f.count held ≡ held = take-append-drop f.count held in
        sym (ap (λ (s : Stream). s.frames) (ap stream_of (sym here) ∙ f.is)) ∙ no_frames (take f.count held) (drop f.count held) (ap cut_frame all ∙ part)

    from : FirstOf (held ++ bytes) fs → Prefix held bytes fs
    from f = elim (cases_lt f.count (length held)) [
      | inl lt ↦ nothing (few f lt)
      | inr ge ↦
          let n : ℕ = f.count - length held in
          let sum : f.count ≡ length held + n = omega (arith, ge) in
          let here : take f.count (held ++ bytes) ≡ held ++ take n bytes = ap (λ (m : ℕ). take m (held ++ bytes)) sum ∙ take-append-add held bytes n in
          record { count = n; rest = []; is = ap stream_of (sym here) ∙ f.is }
    ]
