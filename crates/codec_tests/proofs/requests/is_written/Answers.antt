use Rattle.std.proofs.Common.{arith}
use Rattle.uds_codec.specs.Form.{AreBytes}
use Rattle.codec_tests.proofs.Octets.{octets}
use Rattle.codec_tests.proofs.requests.is_written.Goals as goal

pub encode-requires : goal.encode-requires
encode-requires c =
    let bytes : AreBytes c.args.bytes.now = octets c.args.bytes.now (λ k lt. omega (arith, c.type_inv.bytes k)) in
    (c.written_again.ensures c.args.bytes.now c.args.request.now bytes c.requires).form
