use Rattle.std.proofs.Common.{ap, ◌∙◌, arith}
use Rattle.gate_turn.specs.Views.{Part}
use Rattle.gate_staff.specs.Business.{lock_of}
use Rattle.order_staff.proofs.staff.Staff.desks.Goals as goal

pub returns-in-Ok-clause-staff : goal.returns-in-Ok-clause-staff
returns-in-Ok-clause-staff g c =
    let took = c.take_connection-pass.ensures in
    let made = c.in-Ok.ensures.made in
    let some = c.requires.some in
    record {
      few = c.requires.few;
      seated = (
        record {
          holds = c.in-Ok.ensures.own (lock_of c.args.gate.now) took.these;
          some = some;
          few = c.requires.few;
          senders = omega (arith, c.requires.senders);
          first = ap (λ (p : Part). p.made) (made.part 1 (record { from_one = omega arith; up_to = omega (arith, some) })) ∙ took.first some;
        },
        made.desks,
      );
      own = took.own;
      free = took.free;
      number = took.number;
      alone = took.alone;
    }
