use Rattle.cmd_answer.specs.Answer.{acceptor_of}
use Rattle.cmd_base.specs.Causes.{NoneFell, conversation_counts}
use Rattle.cmd_base.specs.Order.{HasGiven}
use Rattle.cmd_answer.specs.Promise.{Talks, IsIdle}
use Rattle.cmd_answer.proofs.acceptor.converse.Given as goal

abbrev pub invariant-loop : goal.invariant-loop
invariant-loop g l =
    let left = g.S.Source.left in
    let taken = g.K.Sink.taken in
    record {
      idle : IsIdle l.acceptor;
      talks : Talks (acceptor_of l.fn.settings) (record { input = left l.fn.input; wire = taken l.fn.wire; out = taken l.fn.out }) (record { input = left l.input; wire = taken l.wire; out = taken l.out }) l.acceptor;
      given : HasGiven (left l.fn.input) (left l.input);
      fell : NoneFell (conversation_counts (g.S.Source.faults l.fn.input) (g.K.Sink.faults l.fn.wire) (g.K.Sink.faults l.fn.out)) (conversation_counts (g.S.Source.faults l.input) (g.K.Sink.faults l.wire) (g.K.Sink.faults l.out));
    }
