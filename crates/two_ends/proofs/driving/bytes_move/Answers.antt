use Rattle.two_ends.proofs.Moving.{bytes_move}
use Rattle.two_ends.proofs.driving.bytes_move.Goals as goal

pub returns : goal.returns
returns c = record { law = bytes_move }
