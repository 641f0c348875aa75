-- What is written is read again.
use Rattle.std.proofs.Common.{◌≡◌, ℕ, suc, ◌/◌, ◌%◌, ◌<◌, true, false, List, ◌++◌, length, Some, None, refl, sym, ap, ◌∙◌, subst, arith, length-append}
use Rattle.std.specs.Prelude.{Bool, Option, ◌==◌, ◌||◌}
use Rattle.std.proofs.lemmas.Bool.{le-leb}
use Rattle.flash_base.specs.Numbers.{number2}
use Rattle.doip_frame.specs.declared.frame.Frame.{Frame}
use Rattle.doip_frame.specs.declared.frame.Frame.TheVariants.{HeaderNack, Activate, Activated, AliveAsk, AliveSay, Message, Ack, Nack, Other}
use Rattle.doip_frame.specs.Form.{is_known, HasForm, IsFrame}
use Rattle.doip_frame.specs.Frame.{Cut, Whole, cut_frame, frame_of, kind_of, payload_of, written, oem_of, oem_bytes, is_length, stream_of, with_frame}
use Rattle.doip_frame.specs.Laws.{Fits, FitsOem}
use Rattle.doip_frame.proofs.Cuts.{whole, number2_of, number4_of}
use Rattle.doip_frame.proofs.Feeds.{of_whole}
use Rattle.doip_frame.proofs.Streams.{Grows, grows}

or_false : (a b : Bool) → (a || b) ≡ false → (a ≡ false) × (b ≡ false)
or_false true b e = cc
or_false false b e = (refl, e)

module _ (kind : ℕ) (e : is_known kind ≡ false) where
  pub unknown_length : (n : ℕ) → is_length kind n ≡ true
  unknown_length n =
      let (e7, f7) = or_false (kind == 0 || kind == 5 || kind == 6 || kind == 7 || kind == 8 || kind == 32769 || kind == 32770) (kind == 32771) e in
      let (e6, f6) = or_false (kind == 0 || kind == 5 || kind == 6 || kind == 7 || kind == 8 || kind == 32769) (kind == 32770) e7 in
      let (e5, f5) = or_false (kind == 0 || kind == 5 || kind == 6 || kind == 7 || kind == 8) (kind == 32769) e6 in
      let (e4, f4) = or_false (kind == 0 || kind == 5 || kind == 6 || kind == 7) (kind == 8) e5 in
      let (e3, f3) = or_false (kind == 0 || kind == 5 || kind == 6) (kind == 7) e4 in
      let (e2, f2) = or_false (kind == 0 || kind == 5) (kind == 6) e3 in
      let (f0, f1) = or_false (kind == 0) (kind == 5) e2 in
      rw (f0, f1, f2, f3, f4, f5, f6, f7) refl

  pub unknown_frame : (payload : List ℕ) → frame_of kind payload ≡ Other kind payload
  unknown_frame payload =
      let (e7, f7) = or_false (kind == 0 || kind == 5 || kind == 6 || kind == 7 || kind == 8 || kind == 32769 || kind == 32770) (kind == 32771) e in
      let (e6, f6) = or_false (kind == 0 || kind == 5 || kind == 6 || kind == 7 || kind == 8 || kind == 32769) (kind == 32770) e7 in
      let (e5, f5) = or_false (kind == 0 || kind == 5 || kind == 6 || kind == 7 || kind == 8) (kind == 32769) e6 in
      let (e4, f4) = or_false (kind == 0 || kind == 5 || kind == 6 || kind == 7) (kind == 8) e5 in
      let (e3, f3) = or_false (kind == 0 || kind == 5 || kind == 6) (kind == 7) e4 in
      let (e2, f2) = or_false (kind == 0 || kind == 5) (kind == 6) e3 in
      let (f0, f1) = or_false (kind == 0) (kind == 5) e2 in
      rw (f0, f1, f2, f3, f4, f5, f6, f7) refl

right_length : (f : Frame) → HasForm f → is_length (kind_of f) (length (payload_of f)) ≡ true
right_length (HeaderNack code) h = refl
right_length (Activate source kind None) h = refl
right_length (Activate source kind (Some oem)) h = refl
right_length (Activated tester entity code None) h = refl
right_length (Activated tester entity code (Some oem)) h = refl
right_length AliveAsk h = refl
right_length (AliveSay source) h = refl
right_length (Message source target body) h = le-leb 5 (suc (suc (suc (suc (length body))))) (omega (arith, h))
right_length (Ack source target code old) h = le-leb 5 (suc (suc (suc (suc (suc (length old)))))) (omega arith)
right_length (Nack source target code old) h = le-leb 5 (suc (suc (suc (suc (suc (length old)))))) (omega arith)
right_length (Other kind payload) h = unknown_length kind h (length payload)

oem_again : (oem : Option ℕ) → FitsOem oem → oem_of (oem_bytes oem) ≡ oem
oem_again None h = refl
oem_again (Some oem) h = ap (λ (n : ℕ). Some n) (number4_of oem)

frame_again : (f : Frame) → HasForm f → Fits f → frame_of (kind_of f) (payload_of f) ≡ f
frame_again (HeaderNack code) h f = refl
frame_again (Activate source kind oem) h f =
    ap (λ (n : ℕ). Activate n kind (oem_of (oem_bytes oem))) (number2_of source) ∙ ap (λ (o : Option ℕ). Activate source kind o) (oem_again oem f.1)
frame_again (Activated tester entity code oem) h f =
    ap (λ (n : ℕ). Activated n (number2 (entity / 256) (entity % 256)) code (oem_of (oem_bytes oem))) (number2_of tester)
    ∙ ap (λ (n : ℕ). Activated tester n code (oem_of (oem_bytes oem))) (number2_of entity)
    ∙ ap (λ (o : Option ℕ). Activated tester entity code o) (oem_again oem f.2)
frame_again AliveAsk h f = refl
frame_again (AliveSay source) h f = ap (λ (n : ℕ). AliveSay n) (number2_of source)
frame_again (Message source target body) h f =
    ap (λ (n : ℕ). Message n (number2 (target / 256) (target % 256)) body) (number2_of source) ∙ ap (λ (n : ℕ). Message source n body) (number2_of target)
frame_again (Ack source target code old) h f =
    ap (λ (n : ℕ). Ack n (number2 (target / 256) (target % 256)) code old) (number2_of source) ∙ ap (λ (n : ℕ). Ack source n code old) (number2_of target)
frame_again (Nack source target code old) h f =
    ap (λ (n : ℕ). Nack n (number2 (target / 256) (target % 256)) code old) (number2_of source) ∙ ap (λ (n : ℕ). Nack source n code old) (number2_of target)
frame_again (Other kind payload) h f = unknown_frame kind h payload

pub cut_written : (f : Frame) (more : List ℕ) → IsFrame f → cut_frame (written f ++ more) ≡ Whole (kind_of f) (payload_of f) more
cut_written f more is =
    subst (λ (cut : Cut). Grows cut (cut_frame (written f ++ more)) more) (whole (kind_of f) (payload_of f) is.few (right_length f is.form)) (grows (written f) more)

pub read_again : (f : Frame) (more : List ℕ) → IsFrame f → Fits f → stream_of (written f ++ more) ≡ with_frame f (stream_of more)
read_again f more is fits =
    let l = length-append (written f) more in
    let short : length more < length (written f ++ more) = omega (arith, l) in
    of_whole (written f ++ more) (kind_of f) (payload_of f) more (cut_written f more is) short
    ∙ ap (λ (g : Frame). with_frame g (stream_of more)) (frame_again f is.form fits)

whole_kind : (j k : ℕ) (p q x y : List ℕ) → Whole j p x ≡ Whole k q y → (j ≡ k) × (p ≡ q) × (x ≡ y)
whole_kind j k p q x y e = (cc, cc, cc)

pub only_one : (f g : Frame) (x y : List ℕ) → IsFrame f → IsFrame g → Fits f → Fits g → written f ++ x ≡ written g ++ y → (f ≡ g) × (x ≡ y)
only_one f g x y is ig ff fg e =
    let w : Whole (kind_of f) (payload_of f) x ≡ Whole (kind_of g) (payload_of g) y = sym (cut_written f x is) ∙ ap cut_frame e ∙ cut_written g y ig in
    let (k, p, same) = whole_kind (kind_of f) (kind_of g) (payload_of f) (payload_of g) x y w in
    (sym (frame_again f is.form ff) ∙ ap (λ (j : ℕ). frame_of j (payload_of f)) k ∙ ap (frame_of (kind_of g)) p ∙ frame_again g ig.form fg, same)
