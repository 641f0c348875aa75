use Rattle.std.proofs.Common.{◌≡◌, ◌-◌, ◌≤◌, ◌++◌, drop, length}
use Rattle.doip_frame.specs.Frame.{stream_of}
use Rattle.doip_frame.proofs.deframer.cut.Given as goal

-- the frames so far and those of what is left are all
abbrev pub invariant-loop-bad : goal.invariant-loop-bad
invariant-loop-bad l = record {
  within : l.used ≤ length l.stream;
  frames : l.frames ++ (stream_of (drop l.used l.stream)).frames ≡ l.initial.frames ++ (stream_of l.stream).frames;
  bad : (stream_of (drop l.used l.stream)).bad ≡ (stream_of l.stream).bad;
  rest : (stream_of (drop l.used l.stream)).rest ≡ (stream_of l.stream).rest;
}

abbrev pub decreases-loop-bad : goal.decreases-loop-bad
decreases-loop-bad l = length l.stream - l.used
