-- How an answer to what was heard is judged.
use Rattle.std.proofs.Common.{◌≡◌, List, ℕ, None, Some, sym}
use Rattle.std.specs.Prelude.{Option, option_map}
use Rattle.uds_codec.specs.Answer.{Verdict, judge}
use Rattle.uds_codec.specs.Awaited.{awaited_by, IsJudged}
use Rattle.uds_codec.specs.Request.{request_of}
use Rattle.uds_codec.specs.declared.judging.Awaited.{Awaited}
use Rattle.uds_codec.specs.declared.request.Request.{Request}

pub judged_as : (bytes reply : List ℕ) (asked : Option Request) (a : Awaited) (v : Verdict) → asked ≡ request_of bytes → option_map awaited_by asked ≡ Some a → IsJudged a reply v → judge bytes reply ≡ v
judged_as bytes reply None a v is found judged = absurd (cc)
judged_as bytes reply (Some r) a v is found judged = judged bytes r (sym is) (cc)
