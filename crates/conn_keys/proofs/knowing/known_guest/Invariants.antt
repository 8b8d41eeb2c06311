use Rattle.std.proofs.Common.{◌≡◌, false}
use Rattle.conn_keys.specs.Known.{TurnsStrangers}
use Rattle.conn_keys.proofs.knowing.known_guest.Given as goal

-- strangers alone were turned away, and nothing has failed
abbrev pub invariant-guests : goal.invariant-guests
invariant-guests g l =
    let guests = g.G.Guests in
    record {
      free : guests.lent l.guests ≡ false;
      turned : TurnsStrangers l.keys (guests.told l.fn.guests) (guests.told l.guests);
      faults : guests.faults l.guests ≡ guests.faults l.fn.guests;
    }
