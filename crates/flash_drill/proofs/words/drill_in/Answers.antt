use Rattle.std.proofs.Common.{option_map, map, string_bytes}
use Rattle.flash_words.specs.Words.{owned}
use Rattle.flash_drill.proofs.Forms.{is_command}
use Rattle.flash_drill.proofs.words.drill_in.Goals as goal

pub drill_named-requires : goal.drill_named-requires
drill_named-requires c = is_command c.words_are_written_out.ensures (map string_bytes c.args.words.now) (option_map owned c.read_ref.result) c.read_ref.ensures
