use Rattle.std.proofs.Common.{◌∙◌, ◌++◌, [], ◌∷◌, ap}
use Rattle.flow_idem.specs.Runs.{runs_of}
use Rattle.fixp_replies.specs.Events.{Made, applied_runs}
use Rattle.fixp_replies.specs.Outgoing.{messages_of}
use Rattle.fixp_machine.specs.Machine.{bytes_of, sent_at}
use Rattle.fixp_end.proofs.Turn.{written_behind, sent_behind}
use Rattle.fixp_end.proofs.runs.write_turn.Goals as goal

pub returns-clause-bytes : goal.returns-clause-bytes
returns-clause-bytes c =
    let runs = runs_of c.args.applied.now.untold in
    written_behind (applied_runs runs) (messages_of c.args.around.now.config.now (c.finish_turn-closing.result ∷ [])) c.args.output.now c.write_runs.new.output c.write_place.new.output c.write_runs.ensures.bytes c.write_place.ensures.bytes
    ∙ ap (λ (m : Made). c.args.output.now ++ bytes_of m.written) (c.finish_turn-closing.ensures.made runs)

pub returns-clause-sent : goal.returns-clause-sent
returns-clause-sent c =
    let runs = runs_of c.args.applied.now.untold in
    let now = c.args.around.now.moment in
    sent_behind (applied_runs runs) (messages_of c.args.around.now.config.now (c.finish_turn-closing.result ∷ [])) c.args.last_sent.now c.write_runs.new.last_sent c.write_place.new.last_sent now c.write_runs.ensures.sent c.write_place.ensures.sent
    ∙ ap (λ (m : Made). sent_at c.args.last_sent.now (bytes_of m.written) now) (c.finish_turn-closing.ensures.made runs)
