use Rattle.gate_senders.proofs.Keeping.{keeps_stands, none_past}
use Rattle.gate_senders.proofs.kept.Kept.count_of_pass.Goals as goal

pub returns-then-number-gt16 : goal.returns-then-number-gt16
returns-then-number-gt16 g c =
    let kept = c.args.self.now in
    record { exact = none_past kept.outbox.value kept.told.history c.args.number c.if-number-gt16.true (keeps_stands kept.outbox.value kept.told.history kept.told.refused kept.holds) }
