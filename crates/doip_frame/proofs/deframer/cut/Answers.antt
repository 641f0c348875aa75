use Rattle.std.proofs.Common.{◌≡◌, ℕ, ◌+◌, ◌-◌, true, List, [], ◌∷◌, ◌++◌, length, take, drop, sym, ap, subst, ◌∙◌, arith}
use Rattle.doip_frame.specs.declared.frame.Frame.{Frame}
use Rattle.doip_frame.specs.Frame.{Stream, stream_of, frame_of, is_length}
use Rattle.std.proofs.lemmas.List.{take_rest}
use Rattle.doip_frame.specs.Look.{CutsWhole}
use Rattle.doip_frame.proofs.Feeds.{next_in, one_more}
use Rattle.doip_frame.proofs.deframer.cut.Goals as goal

pub read-requires : goal.read-requires
read-requires c =
    let s : List ℕ = c.args.stream.now in
    let u : ℕ = c.loop-bad.used in
    let k : ℕ = c.in-Complete.kind in
    let n : ℕ = c.in-Complete.size in
    let next = next_in s u k n (subst (CutsWhole k n) (take_rest s u) c.in-Complete.ensures) in
    let span : u + 8 + n - (u + 8) ≡ n = omega arith in
    subst (λ (j : ℕ). is_length k (length (take j (drop (u + 8) s))) ≡ true) (sym span) next.form

pub loop-bad-preserved : goal.loop-bad-preserved
loop-bad-preserved c =
    let s : List ℕ = c.args.stream.now in
    let u : ℕ = c.loop-bad.used in
    let k : ℕ = c.in-Complete.kind in
    let n : ℕ = c.in-Complete.size in
    let next = next_in s u k n (subst (CutsWhole k n) (take_rest s u) c.in-Complete.ensures) in
    let span : u + 8 + n - (u + 8) ≡ n = omega arith in
    let frame : c.in_ok-frame-in-Complete.frame ≡ frame_of k (take n (drop (u + 8) s)) =
    c.in_ok-frame-in-Complete.ensures ∙ ap (λ (j : ℕ). frame_of k (take j (drop (u + 8) s))) span in
    let pushed : c.push.new.self ≡ c.loop-bad.frames ++ frame_of k (take n (drop (u + 8) s)) ∷ [] =
    c.in_ok-push-in-Complete.ensures.ok ∙ ap (λ (f : Frame). c.loop-bad.frames ++ f ∷ []) frame in
    let after : Stream = stream_of (drop (u + 8 + n) s) in
    record {
      within = next.within;
      frames = ap (λ (l : List Frame). l ++ after.frames) pushed
          ∙ one_more c.loop-bad.frames _ (frame_of k (take n (drop (u + 8) s))) (stream_of (drop u s)) after next.step c.loop-bad.invariant.frames;
      bad = ap (λ (t : Stream). t.bad) (sym next.step) ∙ c.loop-bad.invariant.bad;
      rest = ap (λ (t : Stream). t.rest) (sym next.step) ∙ c.loop-bad.invariant.rest;
    }
