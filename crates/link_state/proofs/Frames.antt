-- What frames show, one after another.
use Rattle.std.proofs.Common.{◌≡◌, ℕ, zero, suc, ◌+◌, List, [], ◌∷◌, take, slice_get, Some, Result, Ok, Err, ◌∙◌, ap, add-one}
use Rattle.std.specs.Prelude.{OnOk}
use Rattle.doip_frame.specs.declared.frame.Frame.{Frame}
use Rattle.run_model.specs.Link.{Link, see, see_all}

see_take : (tester : ℕ) (units : List ℕ) (fs : List Frame) (i : ℕ) (f : Frame) (l : Link) → slice_get fs i ≡ Some f → see_all tester units (take (suc i) fs) l ≡ see tester units f (see_all tester units (take i fs) l)
see_take tester units [] i f l is = cc
see_take tester units (x ∷ xs) zero f l is = ap (λ (g : Frame). see tester units g l) (some_is x f is)
  where
    some_is : (a b : Frame) → Some a ≡ Some b → a ≡ b
    some_is a b e = cc
see_take tester units (x ∷ xs) (suc i) f l is = see_take tester units xs i f (see tester units x l) is

pub see_more : (tester : ℕ) (units : List ℕ) (fs : List Frame) (i : ℕ) (f : Frame) (l : Link) → slice_get fs i ≡ Some f → see_all tester units (take (i + 1) fs) l ≡ see tester units f (see_all tester units (take i fs) l)
see_more tester units fs i f l is = ap (λ (n : ℕ). see_all tester units (take n fs) l) (add-one i) ∙ see_take tester units fs i f l is

pub on_ok : {X E : Type 0} (r : Result X E) (A B : Type 0) → OnOk r A → (A → B) → OnOk r B
on_ok {X} {E} (Ok x) A B a f = f a
on_ok {X} {E} (Err e) A B a f = tt
