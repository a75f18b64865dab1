-- A newline is code point 10; any other is looked up.
use Rattle.text_lines.proofs.LinesLaws.{answer_room}
use Rattle.text_lines.proofs.add_char.Goals as goal

pub add_letter-requires : goal.add_letter-requires
add_letter-requires c = answer_room c.requires.room
