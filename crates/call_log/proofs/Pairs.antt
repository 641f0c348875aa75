-- Frames by twos, and the frames of bytes that were written.
use Rattle.std.proofs.Common.{◌≡◌, inl, inr, ℕ, ◌+◌, ◌-◌, ◌<◌, ◌≤◌, true, false, List, [], ◌∷◌, ◌++◌, length, take, drop, None, refl, sym, ap, ◌∙◌, subst, arith, append_assoc, length-append, append-nil}
use Rattle.std.specs.Prelude.{Bool, Option, bytes_eq, if◌then◌else◌}
use Rattle.std.proofs.lemmas.Bool.{cases_lt}
use Rattle.std.proofs.lemmas.List.{take-append-drop, take-append-le, length-drop}
use Rattle.std.proofs.Math.Seq.{take-append-add}
use Rattle.std.proofs.lemmas.Slice.Eq.{bytes_eq-Decides}
use Rattle.doip_frame.specs.declared.frame.Frame.{Frame}
use Rattle.doip_frame.specs.declared.frame.Frame.TheVariants.{Other}
use Rattle.doip_frame.specs.Form.{is_known, IsFrame}
use Rattle.doip_frame.specs.Frame.{Cut, Partial, Wrong, Whole, Stream, cut_frame, written, stream_of, stream_in, stream_after}
use Rattle.doip_frame.proofs.Again.{cut_written, read_again}
use Rattle.doip_frame.proofs.Streams.{Grows, grows}
use Rattle.call_log.specs.declared.call.LinkCall.{LinkCall}
use Rattle.call_log.specs.Log.{four, mixed, call_said, sealed_call, sealed_bytes, before, calls_in}

pub same_again : (xs : List ℕ) → bytes_eq xs xs ≡ true
same_again xs = (bytes_eq-Decides xs xs).1 refl

-- a frame of a payload type that is none of the table's
pub record IsOwn (kind : ℕ) (payload : List ℕ) : Type 0 where
  pub unknown : is_known kind ≡ false
  pub fits : kind < 65536
  pub few : length payload ≤ 65600

pub own_frame : (kind : ℕ) (payload : List ℕ) → IsOwn kind payload → IsFrame (Other kind payload)
own_frame kind payload own = record { form = own.unknown; few = own.few }

-- a frame that was written is the first of the frames, whatever stands behind it
pub first : (kind : ℕ) (payload more : List ℕ) → IsOwn kind payload → (stream_of (written (Other kind payload) ++ more)).frames ≡ Other kind payload ∷ (stream_of more).frames
first kind payload more own = ap (λ (s : Stream). s.frames) (read_again (Other kind payload) more (own_frame kind payload own) own.fits)

-- what was cut out of a whole frame, from its beginning, is no whole frame
none_in : (cut : Cut) (kind : ℕ) (payload more : List ℕ) (go : List ℕ → Stream) (bytes : List ℕ) → Grows cut (Whole kind payload []) more → 0 < length more → (stream_after cut go bytes).frames ≡ []
none_in Partial kind payload more go bytes grows some = refl
none_in (Wrong bad) kind payload more go bytes grows some = refl
none_in (Whole k p rest) kind payload more go bytes grows some =
    let e : [] ≡ rest ++ more = cc in
    let l : 0 ≡ length (rest ++ more) = ap (length {A = ℕ}) e in
    absurd (omega (arith, l, length-append rest more, some))

-- a frame that was cut short is no frame
pub short : (kind : ℕ) (payload : List ℕ) (n : ℕ) → IsOwn kind payload → n < length (written (Other kind payload)) → (stream_of (take n (written (Other kind payload)))).frames ≡ []
short kind payload n own lt =
    let w : List ℕ = written (Other kind payload) in
    let front : List ℕ = take n w in
    let back : List ℕ = drop n w in
    let whole : cut_frame (w ++ []) ≡ Whole kind payload [] = cut_written (Other kind payload) [] (own_frame kind payload own) in
    let same : front ++ back ≡ w ++ [] = take-append-drop n w ∙ sym (append-nil w) in
    let cut : cut_frame (front ++ back) ≡ Whole kind payload [] = ap cut_frame same ∙ whole in
    let some : 0 < length back = omega (arith, length-drop n w, lt) in
    none_in (cut_frame front) kind payload back (stream_in (length front)) front (subst (λ (c : Cut). Grows (cut_frame front) c back) cut (grows front back)) some

-- the seal that was written is the frame's seal
sealed_again : (kind : ℕ) (payload : List ℕ) → sealed_call (Other kind payload) (Other 61444 (four (mixed kind payload))) ≡ call_said kind payload
sealed_again kind payload =
    ap (λ (b : Bool). if b then call_said kind payload else None) (same_again (four (mixed kind payload)))

seal_own : (sum : ℕ) → IsOwn 61444 (four sum)
seal_own sum = record { unknown = refl; fits = omega arith; few = omega arith }

-- a frame and its seal are the call that the frame says, and then what stands behind them
pub pair : (kind : ℕ) (payload more : List ℕ) → IsOwn kind payload
    → calls_in (stream_of (sealed_bytes kind payload ++ more)).frames ≡ before (call_said kind payload) (calls_in (stream_of more).frames)
pair kind payload more own =
    let a : List ℕ = written (Other kind payload) in
    let s : List ℕ = written (Other 61444 (four (mixed kind payload))) in
    let together : (a ++ s) ++ more ≡ a ++ (s ++ more) = append_assoc a s more in
    let frames : (stream_of ((a ++ s) ++ more)).frames ≡ Other kind payload ∷ Other 61444 (four (mixed kind payload)) ∷ (stream_of more).frames =
    ap (λ (bytes : List ℕ). (stream_of bytes).frames) together
    ∙ first kind payload (s ++ more) own
    ∙ ap (λ (fs : List Frame). Other kind payload ∷ fs) (first 61444 (four (mixed kind payload)) more (seal_own (mixed kind payload)))
    in
    ap calls_in frames ∙ ap (λ (call : Option LinkCall). before call (calls_in (stream_of more).frames)) (sealed_again kind payload)

-- of a frame and its seal that were cut short there is no call
pub half : (kind : ℕ) (payload : List ℕ) (n : ℕ) → IsOwn kind payload → n < length (sealed_bytes kind payload) → calls_in (stream_of (take n (sealed_bytes kind payload))).frames ≡ []
half kind payload n own lt =
    let a : List ℕ = written (Other kind payload) in
    let sum : List ℕ = four (mixed kind payload) in
    let s : List ℕ = written (Other 61444 sum) in
    let within : n < length (a ++ s) = lt in
    elim (cases_lt n (length a)) [
      | inl early ↦
          let cut : take n (a ++ s) ≡ take n a = take-append-le n a s (omega (arith, early)) in
          ap (λ (bytes : List ℕ). calls_in (stream_of bytes).frames) cut ∙ ap calls_in (short kind payload n own early)
      | inr late ↦
          let is : n ≡ length a + (n - length a) = omega (arith, late) in
          let cut : take n (a ++ s) ≡ a ++ take (n - length a) s = ap (λ (k : ℕ). take k (a ++ s)) is ∙ take-append-add a s (n - length a) in
          let less : n - length a < length s = omega (arith, late, within, length-append a s) in
          let one : (stream_of (a ++ take (n - length a) s)).frames ≡ Other kind payload ∷ [] =
          first kind payload (take (n - length a) s) own ∙ ap (λ (fs : List Frame). Other kind payload ∷ fs) (short 61444 sum (n - length a) (seal_own (mixed kind payload)) less)
          in
          ap (λ (bytes : List ℕ). calls_in (stream_of bytes).frames) cut ∙ ap calls_in one
    ]
