-- The room that a framer lends.
use Rattle.std.specs.Prelude.{ℕ, List}
use Rattle.std.specs.Borrow.{Lends, MutBor, Fml, Array, u8}
use Rattle.sofh_frame.specs.Buffered.{Buffered, written_over}
use Rattle.sofh_frame.specs.contracts.buffer.Framer.{the_row}

-- the framer ends with what was last written through r as its room, and the same bytes held
abbrev pub LendsRoom : MutBor Buffered → MutBor (List ℕ) → Fml
LendsRoom f r = Lends the_row (Array u8 0) f r (λ bytes. record f.now { room = written_over f.now.room bytes })
