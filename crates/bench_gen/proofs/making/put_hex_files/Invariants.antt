use Rattle.bench_gen.specs.Files.{AddsHexFiles}
use Rattle.bench_gen.proofs.making.put_hex_files.Given as goal

abbrev pub invariant-loop-k : goal.invariant-loop-k
invariant-loop-k l = AddsHexFiles l.n l.k l.initial.files l.files
