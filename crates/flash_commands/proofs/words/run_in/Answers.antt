use Rattle.std.proofs.Common.{option_map, map, string_bytes}
use Rattle.flash_words.specs.Words.{owned}
use Rattle.flash_commands.proofs.WordForms.{is_command}
use Rattle.flash_commands.proofs.words.run_in.Goals as goal

pub run_named-requires : goal.run_named-requires
run_named-requires c = is_command c.words_are_written_out.ensures (map string_bytes c.args.words.now) (option_map owned c.read_ref.result) c.read_ref.ensures
