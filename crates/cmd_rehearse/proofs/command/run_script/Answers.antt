use Rattle.cmd_rehearse.proofs.command.run_script.Goals as goal

pub give-requires : goal.give-requires
give-requires g c =
    let told = c.in-Ok.ensures in
    record {
      rehearsed = record { sent = told.sent; keeps = told.keeps; outward = told.outward; homeward = told.homeward; reported = told.reported; initiator_finished = told.initiator_finished; acceptor_finished = told.acceptor_finished; totals = told.totals };
    }
