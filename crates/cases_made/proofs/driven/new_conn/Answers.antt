use Rattle.std.proofs.Common.{sym, ◌∙◌, arith}
use Rattle.gate_senders.specs.Gate.{opening_of}
use Rattle.cases_made.proofs.Driving.{conn_rests}
use Rattle.cases_made.proofs.driven.new_conn.Goals as goal

pub returns : goal.returns
returns c =
    let e = c.recorded-state.ensures in
    let r = c.requires in
    record {
      may = conn_rests c.config.result 67108864 c.recorded-state.result (opening_of c.args.gate.now).history c.args.inbox.now c.opened.result c.ok.result c.ok.ensures.value c.opened.ensures e.sent
          (let few = c.if-state-gt-MOST.false in omega (arith, few)) e.finish (let none = c.config.ensures.credentials in omega (arith, none)) (r.flow ∙ sym c.config.ensures.flow)
          (let limit = r.limit in omega (arith, limit)) e.next e.negotiated e.peer_last;
    }
