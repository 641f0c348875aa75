-- What a stream gives, by what stands at its front.
use Rattle.std.proofs.Common.{◌≡◌, ℕ, zero, suc, ◌+◌, ◌-◌, ◌≤◌, ◌<◌, List, [], ◌∷◌, ◌++◌, length, take, drop, Some, None, true, refl, sym, ap, ◌∙◌, subst, arith, append_assoc}
use Rattle.std.specs.Prelude.{Bool, false, IfSome, if◌then◌else◌}
use Rattle.std.proofs.lemmas.List.{length-drop, length-take-le, drop-drop, take_all, take-append-drop, length-append, append-nil, take_rest}
use Rattle.doip_frame.specs.declared.frame.Bad.{Bad}
use Rattle.doip_frame.specs.declared.frame.Frame.{Frame}
use Rattle.doip_frame.specs.Frame.{Cut, Stream, cut_frame, Partial, Wrong, Whole, frame_of, is_length, stream_of, stream_in, stream_after, with_frame}
use Rattle.doip_frame.specs.Deframe.{EndsThere, Stops, left}
use Rattle.doip_frame.specs.Look.{CutsWhole}
use Rattle.doip_frame.proofs.Streams.{enough, Grows, grows, Shortens, shortens}

pub of_part : (s : List ℕ) → cut_frame s ≡ Partial → stream_of s ≡ record { frames = []; rest = s; bad = None }
of_part s e = ap (λ cut. stream_after cut (stream_in (length s)) s) e

pub of_wrong : (s : List ℕ) (bad : Bad) → cut_frame s ≡ Wrong bad → stream_of s ≡ record { frames = []; rest = s; bad = Some bad }
of_wrong s bad e = ap (λ cut. stream_after cut (stream_in (length s)) s) e

pub of_whole : (s : List ℕ) (kind : ℕ) (payload rest : List ℕ) → cut_frame s ≡ Whole kind payload rest → length rest < length s → stream_of s ≡ with_frame (frame_of kind payload) (stream_of rest)
of_whole s kind payload rest e lt =
    let here : stream_of s ≡ with_frame (frame_of kind payload) (stream_in (length s) rest) = ap (λ cut. stream_after cut (stream_in (length s)) s) e in
    let same : stream_in (length s) rest ≡ stream_of rest = enough (length s) (suc (length rest)) rest lt (omega arith) in
    here ∙ ap (with_frame (frame_of kind payload)) same

-- the streams with these frames before theirs
abbrev pub behind : List Frame → Stream → Stream
behind fs s = record { frames = fs ++ s.frames; rest = s.rest; bad = s.bad }

-- a whole frame further on in a stream
pub record Next (stream : List ℕ) (used kind size : ℕ) : Type 0 where
  pub within : used + 8 + size ≤ length stream
  pub few : size ≤ 65600
  pub form : is_length kind (length (take size (drop (used + 8) stream))) ≡ true
  pub step : stream_of (drop used stream) ≡ with_frame (frame_of kind (take size (drop (used + 8) stream))) (stream_of (drop (used + 8 + size) stream))

pub next_in : (stream : List ℕ) (used kind size : ℕ) → CutsWhole kind size (drop used stream) → Next stream used kind size
next_in stream used kind size w =
    let l : length (drop used stream) ≡ length stream - used = length-drop used stream in
    let within : 8 + size ≤ length (drop used stream) = w.within in
    let d : drop 8 (drop used stream) ≡ drop (used + 8) stream = drop-drop 8 used stream in
    let e : used + (8 + size) ≡ used + 8 + size = omega arith in
    let t : drop (8 + size) (drop used stream) ≡ drop (used + 8 + size) stream = drop-drop (8 + size) used stream ∙ ap (λ j. drop j stream) e in
    let l8 : length (drop (used + 8) stream) ≡ length stream - (used + 8) = length-drop (used + 8) stream in
    let lt : length (take size (drop (used + 8) stream)) ≡ size = length-take-le size (drop (used + 8) stream) (omega arith) in
    let cuts : cut_frame (drop used stream) ≡ Whole kind (take size (drop (used + 8) stream)) (drop (used + 8 + size) stream) =
    w.cuts ∙ ap (λ l. Whole kind (take size l) (drop (8 + size) (drop used stream))) d ∙ ap (λ l. Whole kind (take size (drop (used + 8) stream)) l) t in
    let lr : length (drop (used + 8 + size) stream) ≡ length stream - (used + 8 + size) = length-drop (used + 8 + size) stream in
    record {
      within = omega arith;
      few = w.few;
      form = ap (is_length kind) lt ∙ w.form;
      step = of_whole (drop used stream) kind (take size (drop (used + 8) stream)) (drop (used + 8 + size) stream) cuts (omega arith);
    }

pub one_more : (fs all : List Frame) (frame : Frame) (s r : Stream) → s ≡ with_frame frame r → fs ++ s.frames ≡ all → (fs ++ frame ∷ []) ++ r.frames ≡ all
one_more fs all frame s r e h = append_assoc fs (frame ∷ []) r.frames ∙ ap (λ (t : Stream). fs ++ t.frames) (sym e) ∙ h

-- ------ what is held and a piece
pub behind_of : (h piece : List ℕ) (used : ℕ) → (h ++ take used piece) ++ drop used piece ≡ h ++ piece
behind_of h piece used = append_assoc h (take used piece) (drop used piece) ∙ ap (λ (l : List ℕ). h ++ l) (take-append-drop used piece)

pub fed_part : (h piece : List ℕ) (used : ℕ) → cut_frame (h ++ take used piece) ≡ Partial → drop used piece ≡ [] → stream_of (h ++ piece) ≡ record { frames = []; rest = h ++ take used piece; bad = None }
fed_part h piece used is none =
    let all : h ++ piece ≡ h ++ take used piece = sym (behind_of h piece used) ∙ ap (λ (l : List ℕ). (h ++ take used piece) ++ l) none ∙ append-nil (h ++ take used piece) in
    ap stream_of all ∙ of_part (h ++ take used piece) is

pub fed_wrong : (h piece : List ℕ) (used : ℕ) (bad : Bad) → cut_frame (h ++ take used piece) ≡ Wrong bad → stream_of (h ++ piece) ≡ record { frames = []; rest = h ++ piece; bad = Some bad }
fed_wrong h piece used bad is =
    let grown : cut_frame ((h ++ take used piece) ++ drop used piece) ≡ Wrong bad = subst (λ (cut : Cut). Grows cut (cut_frame ((h ++ take used piece) ++ drop used piece)) (drop used piece)) is (grows (h ++ take used piece) (drop used piece)) in
    of_wrong (h ++ piece) bad (ap cut_frame (sym (behind_of h piece used)) ∙ grown)

pub record FedWhole (h piece : List ℕ) (used kind : ℕ) : Type 0 where
  pub form : is_length kind (length (drop 8 (h ++ take used piece))) ≡ true
  pub step : stream_of (h ++ piece) ≡ with_frame (frame_of kind (drop 8 (h ++ take used piece))) (stream_of (drop used piece))

pub fed_whole : (h piece : List ℕ) (used kind size : ℕ) → CutsWhole kind size (h ++ take used piece) → EndsThere (cut_frame (h ++ take used piece)) → FedWhole h piece used kind
fed_whole h piece used kind size w ends =
    let s : List ℕ = h ++ take used piece in
    let none : drop (8 + size) s ≡ [] = subst EndsThere w.cuts ends in
    let within : 8 + size ≤ length s = w.within in
    let l : length (drop (8 + size) s) ≡ length s - (8 + size) = length-drop (8 + size) s in
    let zero_left : length (drop (8 + size) s) ≡ 0 = ap length none in
    let l8 : length (drop 8 s) ≡ length s - 8 = length-drop 8 s in
    let size8 : length (drop 8 s) ≡ size = omega arith in
    let all : take size (drop 8 s) ≡ drop 8 s = take_all size (drop 8 s) (omega arith) in
    let whole : cut_frame s ≡ Whole kind (drop 8 s) [] = w.cuts ∙ ap (λ (p : List ℕ). Whole kind p (drop (8 + size) s)) all ∙ ap (λ (r : List ℕ). Whole kind (drop 8 s) r) none in
    let grown : cut_frame (s ++ drop used piece) ≡ Whole kind (drop 8 s) (drop used piece) = subst (λ (cut : Cut). Grows cut (cut_frame (s ++ drop used piece)) (drop used piece)) whole (grows s (drop used piece)) in
    let joins : s ++ drop used piece ≡ h ++ piece = behind_of h piece used in
    let la : length (s ++ drop used piece) ≡ length s + length (drop used piece) = length-append s (drop used piece) in
    record {
      form = ap (is_length kind) size8 ∙ w.form;
      step = ap stream_of (sym joins) ∙ of_whole (s ++ drop used piece) kind (drop 8 s) (drop used piece) grown (omega arith);
    }

-- ------ the code's steps
stops_part : (cut : Cut) (unused : List ℕ) → cut ≡ Partial → Stops cut unused → unused ≡ []
stops_part Partial unused e s = s
stops_part (Wrong bad) unused e s = cc
stops_part (Whole kind payload more) unused e s = cc

stops_ends : (cut : Cut) (unused : List ℕ) → Stops cut unused → EndsThere cut
stops_ends Partial unused s = tt
stops_ends (Wrong bad) unused s = tt
stops_ends (Whole kind payload more) unused s = s

module _ (h p now seen : List ℕ) (used : ℕ) (is : now ≡ h ++ take used p) (same : seen ≡ now) (stops : Stops (cut_frame now) (drop used p)) where
  pub part_stream : cut_frame seen ≡ Partial → stream_of (h ++ p) ≡ record { frames = []; rest = now; bad = None }
  part_stream e =
      let none : drop used p ≡ [] = stops_part (cut_frame now) (drop used p) (ap cut_frame (sym same) ∙ e) stops in
      fed_part h p used (ap cut_frame (sym is) ∙ ap cut_frame (sym same) ∙ e) none
      ∙ ap (λ (l : List ℕ). record { frames = []; rest = l; bad = None }) (sym is)

  pub wrong_stream : (bad : Bad) → cut_frame seen ≡ Wrong bad → stream_of (h ++ p) ≡ record { frames = []; rest = h ++ p; bad = Some bad }
  wrong_stream bad e = fed_wrong h p used bad (ap cut_frame (sym is) ∙ ap cut_frame (sym same) ∙ e)

  pub whole_stream : (kind size : ℕ) → CutsWhole kind size seen → FedWhole h p used kind
  whole_stream kind size w = fed_whole h p used kind size
      (subst (CutsWhole kind size) (same ∙ is) w)
      (subst (λ (l : List ℕ). EndsThere (cut_frame l)) is (stops_ends (cut_frame now) (drop used p) stops))

  pub whole_form : (kind size : ℕ) → CutsWhole kind size seen → is_length kind (length (take (length seen - 8) (drop 8 seen))) ≡ true
  whole_form kind size w =
      ap (λ (l : List ℕ). is_length kind (length l)) (take_rest seen 8 ∙ ap (drop 8) (same ∙ is)) ∙ (whole_stream kind size w).form

  pub whole_step : (kind size : ℕ) → CutsWhole kind size seen → stream_of (h ++ p) ≡ with_frame (frame_of kind (take (length seen - 8) (drop 8 seen))) (stream_of (take (length p - used) (drop used p)))
  whole_step kind size w =
      (whole_stream kind size w).step
      ∙ ap (λ (l : List ℕ). with_frame (frame_of kind l) (stream_of (drop used p))) (ap (drop 8) (sym is ∙ sym same) ∙ sym (take_rest seen 8))
      ∙ ap (λ (l : List ℕ). with_frame (frame_of kind (take (length seen - 8) (drop 8 seen))) (stream_of l)) (sym (take_rest p used))

-- what is left of a stream is the beginning of a frame
left_in : (n : ℕ) (bytes : List ℕ) → length bytes < n → cut_frame (left (stream_in n bytes).bad (stream_in n bytes).rest) ≡ Partial
left_in zero bytes lt = absurd (omega (arith, lt))
left_in (suc n) bytes lt = go (λ rest short. left_in n rest (omega (arith, short, lt))) (cut_frame bytes) refl (shortens bytes)
  where
    go : ((rest : List ℕ) → length rest < length bytes → cut_frame (left (stream_in n rest).bad (stream_in n rest).rest) ≡ Partial)
        → (cut : Cut) → cut_frame bytes ≡ cut → Shortens cut (length bytes)
        → cut_frame (left (stream_after cut (stream_in n) bytes).bad (stream_after cut (stream_in n) bytes).rest) ≡ Partial
    go again Partial e short = e
    go again (Wrong bad) e short = refl
    go again (Whole kind payload rest) e short = again rest short

pub left_part : (s : List ℕ) → cut_frame (left (stream_of s).bad (stream_of s).rest) ≡ Partial
left_part s = left_in (suc (length s)) s (omega arith)

pub bounded : (b : Bool) (items : List ℕ) → length items < 65608 → IfSome (if b then None else Some items) (λ held. length held < 65608)
bounded true items lt = tt
bounded false items lt = lt
