use Rattle.std.proofs.Common.{arith, sym}
use Rattle.gate_senders.specs.Gate.{opening_of}
use Rattle.gw_rehearse.proofs.Driving.{conn_rests, conn_made}
use Rattle.gw_rehearse.proofs.end.new_conn.Goals as goal

pub returns : goal.returns
returns c =
    let e = c.recorded-state.ensures in
    let r = c.requires in
    record {
      may = conn_rests c.args.config 67108864 c.recorded-state.result (opening_of c.args.gate.now).history c.args.inbox.now c.opened.result c.ok.result c.ok.ensures.value c.opened.ensures e.sent
          (let few = c.if-state-gt-MOST.false in omega (arith, few)) e.finish r.credentials r.flow
          (let limit = r.limit in omega (arith, limit)) e.next e.negotiated e.peer_last;
      made = conn_made c.args.config c.recorded-state.result _ _ c.opened.result c.ok.result c.ok.ensures.value c.opened.ensures (sym e.next) e.sent;
    }
