-- The checksum algorithms that are known here.
use Rattle.std.specs.Prelude.{ℕ, ◌%◌, List, codes, bytes_eq, sum, Option, Some, None, if◌then◌else◌}
use Rattle.sha2.specs.Sha256.{sha256}
use Rattle.flash_base.specs.Numbers.{big_endian}
use Rattle.session_image.specs.declared.checks.Algorithm.{Algorithm}
use Rattle.session_image.specs.declared.checks.Algorithm.TheVariants.{Sha256, Sum16}

abbrev pub known : List ℕ → Option Algorithm
known name =
    if bytes_eq name (codes "SHA-256") then Some Sha256
    else if bytes_eq name (codes "SUM-16") then Some Sum16
    else None

abbrev pub value_of : Algorithm → List ℕ → List ℕ
value_of Sha256 bytes = sha256 bytes
value_of Sum16 bytes = big_endian 2 (sum bytes % 65536)
