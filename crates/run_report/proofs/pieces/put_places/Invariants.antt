use Rattle.std.proofs.Common.{◌≡◌, ◌++◌, take, flat_map}
use Rattle.run_report.specs.Forms.{place_text}
use Rattle.run_report.proofs.pieces.put_places.Given as goal

abbrev pub invariant-loop-place : goal.invariant-loop-place
invariant-loop-place l = l.out ≡ l.initial.out ++ flat_map place_text (take l.place-index l.places)
