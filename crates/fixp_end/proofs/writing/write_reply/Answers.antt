use Rattle.fixp_end.proofs.Written.{three_sent}
use Rattle.fixp_end.proofs.writing.write_reply.Goals as goal

pub returns-clause-sent : goal.returns-clause-sent
returns-clause-sent c = three_sent c.args.config.now c.args.written.now c.args.last_sent.now _ _ _ c.args.now c.told-written c.write_place.ensures.sent c.write_place-2.ensures.sent c.write_place-3.ensures.sent
