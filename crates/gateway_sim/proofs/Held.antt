-- What a deframer holds behind a piece is the beginning of a frame.
use Rattle.std.proofs.Common.{◌≡◌, ◌∙◌, ℕ, true, List, ◌++◌, None, Some, Option, refl, ap, Result, Ok, Err}
use Rattle.std.specs.Prelude.{OnOk, OnErr, if◌then◌else◌}
use Rattle.doip_frame.specs.declared.frame.Bad.{Bad}
use Rattle.doip_frame.specs.Frame.{cut_frame, Partial, stream_of}
use Rattle.doip_frame.specs.Deframe.{is_partial, held_after, kept, left}
use Rattle.doip_frame.proofs.Feeds.{left_part}
use Rattle.gateway_sim.specs.Fronts.{unfinished_of, is_deaf}

kept_part : (bad : Option Bad) (rest : List ℕ) → cut_frame (left bad rest) ≡ Partial → is_partial (cut_frame (unfinished_of (kept bad rest))) ≡ true
kept_part None rest part = ap is_partial part
kept_part (Some bad) rest part = refl

pub held_part : (held : Option (List ℕ)) (piece : List ℕ) → is_partial (cut_frame (unfinished_of (held_after held piece))) ≡ true
held_part None piece = refl
held_part (Some h) piece = kept_part (stream_of (h ++ piece)).bad (stream_of (h ++ piece)).rest (left_part (h ++ piece))

pub held_now : (now held : Option (List ℕ)) (piece : List ℕ) → now ≡ held_after held piece → is_partial (cut_frame (unfinished_of now)) ≡ true
held_now now held piece is = ap (λ (o : Option (List ℕ)). is_partial (cut_frame (unfinished_of o))) is ∙ held_part held piece

-- after a call of a deframer
pub held_either : {T E : Type 0} (r : Result T E) (now held : Option (List ℕ)) (piece : List ℕ) → is_partial (cut_frame (unfinished_of held)) ≡ true → OnOk r (now ≡ held_after held piece) → OnErr r (now ≡ held) → is_partial (cut_frame (unfinished_of now)) ≡ true
held_either (Ok x) now held piece was is same = held_now now held piece is
held_either (Err e) now held piece was is same = ap (λ (o : Option (List ℕ)). is_partial (cut_frame (unfinished_of o))) same ∙ was

-- the front of a gateway is what its deframer holds
pub front_is : (d : Option (List ℕ)) → (if is_deaf d then None else Some (unfinished_of d)) ≡ d
front_is None = refl
front_is (Some held) = refl
