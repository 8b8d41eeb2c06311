-- What reading a datagram answers.
use Rattle.std.specs.Prelude.{ℕ, ◌≤◌, List, length, Result, Ok, Err}
use Rattle.fixp_datagram.specs.declared.datagram.Datagram.{Datagram}
use Rattle.fixp_datagram.specs.declared.datagram.DgFault.{DgFault}
use Rattle.fixp_datagram.specs.Datagrams.{most_bytes, SpellsDatagram}
use Rattle.fixp_datagram.specs.Faults.{HasCause}

-- the datagram that the bytes spell, or a fault that has its cause
abbrev pub Answers : List ℕ → Result Datagram DgFault → Type 0
Answers bytes (Ok d) = (length bytes ≤ most_bytes) × SpellsDatagram bytes d
Answers bytes (Err fault) = HasCause bytes fault
