-- Any pieces give what all their bytes give.
use Rattle.std.proofs.Common.{◌≡◌, ℕ, zero, suc, ◌<◌, List, [], ◌∷◌, ◌++◌, length, Some, None, refl, sym, ap, ◌∙◌, arith, append_assoc, length-append}
use Rattle.std.specs.Prelude.{Option}
use Rattle.std.proofs.lemmas.List.{append-nil}
use Rattle.doip_frame.specs.declared.frame.Bad.{Bad}
use Rattle.doip_frame.specs.declared.frame.Frame.{Frame}
use Rattle.doip_frame.specs.Deframe.{frames_in, bad_in, held_after, kept}
use Rattle.doip_frame.specs.Frame.{Cut, Partial, Wrong, Whole, cut_frame, frame_of, Stream, stream_of, with_frame}
use Rattle.doip_frame.specs.Laws.{joined, held_behind, frames_behind, next_bad}
use Rattle.doip_frame.proofs.Feeds.{of_part, of_wrong, of_whole}
use Rattle.doip_frame.proofs.Streams as streams

-- ------ bytes behind a refusal change nothing before it
pub record Stuck (a b : List ℕ) (bad : Bad) : Type 0 where
  pub frames : (stream_of (a ++ b)).frames ≡ (stream_of a).frames
  pub bad_is : (stream_of (a ++ b)).bad ≡ Some bad

stuck_in : (n : ℕ) (a b : List ℕ) (bad : Bad) → length a < n → (stream_of a).bad ≡ Some bad → Stuck a b bad
stuck_in zero a b bad lt e = absurd (omega (arith, lt))
stuck_in (suc n) a b bad lt e = go (λ rest short. stuck_in n rest b bad (omega (arith, short, lt))) (cut_frame a) refl (streams.shortens a) (streams.grows a b)
  where
    go : ((rest : List ℕ) → length rest < length a → (stream_of rest).bad ≡ Some bad → Stuck rest b bad) → (cut : Cut) → cut_frame a ≡ cut → streams.Shortens cut (length a) → streams.Grows cut (cut_frame (a ++ b)) b → Stuck a b bad
    go onward Partial is short grow = let none : None ≡ Some bad = ap (λ (s : Stream). s.bad) (sym (of_part a is)) ∙ e in cc
    go onward (Wrong wrong) is short grow =
        let here : stream_of a ≡ record { frames = []; rest = a; bad = Some wrong } = of_wrong a wrong is in
        let there : stream_of (a ++ b) ≡ record { frames = []; rest = a ++ b; bad = Some wrong } = of_wrong (a ++ b) wrong grow in
        let same : Some wrong ≡ Some bad = ap (λ (s : Stream). s.bad) (sym here) ∙ e in
        record { frames = ap (λ (s : Stream). s.frames) there ∙ ap (λ (s : Stream). s.frames) (sym here); bad_is = ap (λ (s : Stream). s.bad) there ∙ same }
    go onward (Whole kind payload rest) is short grow =
        let here : stream_of a ≡ with_frame (frame_of kind payload) (stream_of rest) = of_whole a kind payload rest is short in
        let la = length-append a b in
        let lr = length-append rest b in
        let there : stream_of (a ++ b) ≡ with_frame (frame_of kind payload) (stream_of (rest ++ b)) = of_whole (a ++ b) kind payload (rest ++ b) grow (omega (arith, short, la, lr)) in
        let again = onward rest short (ap (λ (s : Stream). s.bad) (sym here) ∙ e) in
        record {
          frames = ap (λ (s : Stream). s.frames) there ∙ ap (λ (l : List Frame). frame_of kind payload ∷ l) again.frames ∙ ap (λ (s : Stream). s.frames) (sym here);
          bad_is = ap (λ (s : Stream). s.bad) there ∙ again.bad_is;
        }

stuck : (a b : List ℕ) (bad : Bad) → (stream_of a).bad ≡ Some bad → Stuck a b bad
stuck a b bad e = stuck_in (suc (length a)) a b bad (omega arith) e

-- ------ one piece more
-- what a stream is kept as
abbrev pub state : List ℕ → Option (List ℕ)
state a = kept (stream_of a).bad (stream_of a).rest

pub record Step (a piece : List ℕ) : Type 0 where
  pub frames : (stream_of a).frames ++ frames_in (state a) piece ≡ (stream_of (a ++ piece)).frames
  pub held : held_after (state a) piece ≡ state (a ++ piece)
  pub bad : bad_in (state a) piece ≡ next_bad (stream_of a).bad (stream_of (a ++ piece)).bad

pub step : (a piece : List ℕ) → Step a piece
step a piece = go (stream_of a).bad refl
  where
    go : (x : Option Bad) → (stream_of a).bad ≡ x → Step a piece
    go None e =
        let s = streams.split a piece e in
        let is : state a ≡ Some (stream_of a).rest = ap (λ (o : Option Bad). kept o (stream_of a).rest) e in
        record {
          frames = ap (λ (h : Option (List ℕ)). (stream_of a).frames ++ frames_in h piece) is ∙ ap (λ (t : Stream). t.frames) (sym s);
          held = ap (λ (h : Option (List ℕ)). held_after h piece) is ∙ ap (λ (t : Stream). kept t.bad t.rest) (sym s);
          bad = ap (λ (h : Option (List ℕ)). bad_in h piece) is ∙ ap (λ (t : Stream). t.bad) (sym s) ∙ ap (λ (o : Option Bad). next_bad o (stream_of (a ++ piece)).bad) (sym e);
        }
    go (Some bad) e =
        let s = stuck a piece bad e in
        let is : state a ≡ None = ap (λ (o : Option Bad). kept o (stream_of a).rest) e in
        record {
          frames = ap (λ (h : Option (List ℕ)). (stream_of a).frames ++ frames_in h piece) is ∙ append-nil (stream_of a).frames ∙ sym s.frames;
          held = ap (λ (h : Option (List ℕ)). held_after h piece) is ∙ ap (λ (o : Option Bad). kept o (stream_of (a ++ piece)).rest) (sym s.bad_is);
          bad = ap (λ (h : Option (List ℕ)). bad_in h piece) is ∙ ap (λ (o : Option Bad). next_bad o (stream_of (a ++ piece)).bad) (sym e);
        }

-- ------ all pieces
held_from : (a : List ℕ) (pieces : List (List ℕ)) → held_behind (state a) pieces ≡ state (a ++ joined pieces)
held_from a [] = ap state (sym (append-nil a))
held_from a (piece ∷ pieces) =
    ap (λ (h : Option (List ℕ)). held_behind h pieces) (step a piece).held ∙ held_from (a ++ piece) pieces ∙ ap state (append_assoc a piece (joined pieces))

frames_from : (a : List ℕ) (pieces : List (List ℕ)) → (stream_of a).frames ++ frames_behind (state a) pieces ≡ (stream_of (a ++ joined pieces)).frames
frames_from a [] = append-nil (stream_of a).frames ∙ ap (λ (l : List ℕ). (stream_of l).frames) (sym (append-nil a))
frames_from a (piece ∷ pieces) =
    let s = step a piece in
    sym (append_assoc (stream_of a).frames (frames_in (state a) piece) (frames_behind (held_after (state a) piece) pieces))
    ∙ ap (λ (l : List Frame). l ++ frames_behind (held_after (state a) piece) pieces) s.frames
    ∙ ap (λ (h : Option (List ℕ)). (stream_of (a ++ piece)).frames ++ frames_behind h pieces) s.held
    ∙ frames_from (a ++ piece) pieces
    ∙ ap (λ (l : List ℕ). (stream_of l).frames) (append_assoc a piece (joined pieces))

pub all_frames : (pieces : List (List ℕ)) → frames_behind (Some []) pieces ≡ (stream_of (joined pieces)).frames
all_frames pieces = frames_from [] pieces

pub all_held : (pieces : List (List ℕ)) → held_behind (Some []) pieces ≡ kept (stream_of (joined pieces)).bad (stream_of (joined pieces)).rest
all_held pieces = held_from [] pieces

pub all_bad : (pieces : List (List ℕ)) (piece : List ℕ) → bad_in (held_behind (Some []) pieces) piece ≡ next_bad (stream_of (joined pieces)).bad (stream_of (joined pieces ++ piece)).bad
all_bad pieces piece = ap (λ (h : Option (List ℕ)). bad_in h piece) (all_held pieces) ∙ (step (joined pieces) piece).bad
