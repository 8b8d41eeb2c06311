use Rattle.std.proofs.Common.{refl, sym, arith}
use Rattle.fixp_msgs.proofs.Payloads.{is_payload}
use Rattle.fixp_msgs.proofs.payload.is_application.Goals as goal

pub returns-in-App : goal.returns-in-App
returns-in-App c = record {
  exact = (
    λ _. is_payload c.in-Some.encoding c.in-Some-order_named.order c.in-Some.message.now c.args.payload.now
        (sym c.in-Some-order_named.ensures.named) (omega arith) (omega arith) c.in-App.ensures c.in-Some.ensures.found,
    λ _. refl,
  );
}
