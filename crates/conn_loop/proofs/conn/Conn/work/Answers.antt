use Rattle.std.proofs.Common.{◌≡◌, Bool, if◌then◌else◌, sym, ap, subst, ◌∙◌, arith}
use Rattle.std.proofs.lemmas.Result.{on_ok_weaker, IfErr-weaker}
use Rattle.fixp_shake.specs.Flows.{is_absent}
use Rattle.fixp_shake.specs.declared.config.EndConfig.{EndConfig}
use Rattle.gate_turn.specs.Places.{known}
use Rattle.conn_turns.specs.declared.answer.TurnFault.{TurnFault}
use Rattle.conn_steps.specs.Agreeing.{IsInTurn}
use Rattle.conn_steps.proofs.Inboxes.{kind_on, kind_at}
use Rattle.conn_turns.specs.Lines.{Line}
use Rattle.conn_turns.proofs.Taking.{lines_wait}
use Rattle.conn_loop.specs.Conn.{line_of}
use Rattle.conn_loop.specs.Serving.{BlamesPass}
use Rattle.conn_loop.proofs.Working.{served_frames, agrees_at, took_at, cut_at, cut_at_frame, cut_at_outbox}
use Rattle.conn_loop.proofs.conn.Conn.work.Goals as goal

pub take_frames-requires-clause-agrees : goal.take_frames-requires-clause-agrees
take_frames-requires-clause-agrees g c = agrees_at (line_of c.args.self.now).machine c.args.inbox.now c.at.new.self c.at.ensures.same c.requires.agrees

pub close_frames-requires-clause-in_turn : goal.close_frames-requires-clause-in_turn
close_frames-requires-clause-in_turn g c =
    let took = c.in-Ok.ensures.took in
    let waits : (line_of c.take_frames.new.self).waits ≡ (line_of c.args.self.now).waits
    = ap (λ (l : Line). l.waits) took.line ∙ lines_wait c.args.now (line_of c.args.self.now) took.frames in
    subst (λ (b : Bool). IsInTurn (line_of c.take_frames.new.self).machine c.args.now 0 (if b then 4900000 else 700000)) (sym waits) c.in-Ok.ensures.in_turn

pub returns-in-Err-clause-no_link : goal.returns-in-Err-clause-no_link
returns-in-Err-clause-no_link g c = c.in-Err.ensures.blames.no_other.no_link

pub returns-in-Err-clause-outbox : goal.returns-in-Err-clause-outbox
returns-in-Err-clause-outbox g c = λ e. absurd (c.in-Err.ensures.blames.no_other.no_outbox e)

pub returns-in-Err-clause-changed : goal.returns-in-Err-clause-changed
returns-in-Err-clause-changed g c = λ at e. absurd (c.in-Err.ensures.blames.no_other.no_change at e)

pub returns-in-Err-clause-inbox : goal.returns-in-Err-clause-inbox
returns-in-Err-clause-inbox g c = λ e. let risen = c.in-Err.ensures.blames.risen e in omega (arith, risen, c.at.ensures.same.faults)

pub returns-in-Err-clause-kind : goal.returns-in-Err-clause-kind
returns-in-Err-clause-kind g c =
    kind_on c.args.inbox.now c.at.new.self c.take_frames.new.inbox (omega (arith, c.at.ensures.same.faults)) c.take_frames.ensures.never_falls (kind_at c.args.inbox.now c.at.new.self c.at.ensures.same)
    c.take_frames.ensures.kind

pub returns-in-Err-clause-never_falls : goal.returns-in-Err-clause-never_falls
returns-in-Err-clause-never_falls g c = omega (arith, c.at.ensures.same.faults, c.take_frames.ensures.never_falls)

pub returns-clause-kind : goal.returns-clause-kind
returns-clause-kind g c =
    kind_on c.args.inbox.now c.at.new.self c.take_frames.new.inbox (omega (arith, c.at.ensures.same.faults)) c.take_frames.ensures.never_falls (kind_at c.args.inbox.now c.at.new.self c.at.ensures.same)
    c.take_frames.ensures.kind

pub returns-clause-never_falls : goal.returns-clause-never_falls
returns-clause-never_falls g c = omega (arith, c.at.ensures.same.faults, c.take_frames.ensures.never_falls)

pub returns-clause-changed : goal.returns-clause-changed
returns-clause-changed g c =
    IfErr-weaker c.serve_outbox.result _ _ (λ (fault : TurnFault) (b : BlamesPass g.O.Journal.tells (known c.args.pass.now) (known c.serve_outbox.new.pass) fault). b.changed) c.serve_outbox.ensures.blames

pub returns-in-Err-clause-cut : goal.returns-in-Err-clause-cut
returns-in-Err-clause-cut g c =
    cut_at_frame c.args.now (line_of c.args.self.now) (line_of c.take_frames.new.self) c.args.inbox.now c.take_frames.new.inbox _ _ c.in-Err.fault c.in-Err.ensures.blames.no_other
    (cut_at c.args.now (line_of c.args.self.now) (line_of c.take_frames.new.self) c.args.inbox.now c.at.new.self c.take_frames.new.inbox _ _ c.in-Err.fault c.at.ensures.same c.in-Err.ensures.cut)

pub returns-clause-served : goal.returns-clause-served
returns-clause-served g c =
    on_ok_weaker c.serve_outbox.result
    (served_frames _ c.args.now c.in-Ok.taken (known c.args.pass.now).seen (known c.serve_outbox.new.pass).seen (line_of c.args.self.now) (line_of c.take_frames.new.self) (line_of c.close_frames.new.self)
    (line_of c.serve_outbox.new.self) c.args.inbox.now c.take_frames.new.inbox _ _
    (took_at c.args.now c.in-Ok.taken (line_of c.args.self.now) (line_of c.take_frames.new.self) c.args.inbox.now c.at.new.self c.take_frames.new.inbox _ _ c.at.ensures.same c.in-Ok.ensures.took) c.in-Ok.ensures.last c.close_frames.ensures.closed)
    c.serve_outbox.ensures.served

pub returns-clause-cut : goal.returns-clause-cut
returns-clause-cut g c =
    IfErr-weaker c.serve_outbox.result _ _
    (λ (fault : TurnFault) (b : BlamesPass g.O.Journal.tells (known c.args.pass.now) (known c.serve_outbox.new.pass) fault).
    cut_at_outbox c.args.now c.in-Ok.taken (line_of c.args.self.now) (line_of c.take_frames.new.self) c.args.inbox.now c.take_frames.new.inbox _ _ fault
    (took_at c.args.now c.in-Ok.taken (line_of c.args.self.now) (line_of c.take_frames.new.self) c.args.inbox.now c.at.new.self c.take_frames.new.inbox _ _ c.at.ensures.same c.in-Ok.ensures.took) c.in-Ok.ensures.last.1 b.never_full)
    c.serve_outbox.ensures.blames

pub returns-clause-least : goal.returns-clause-least
returns-clause-least g c =
    on_ok_weaker c.serve_outbox.result
    (λ least waits flow. least
    (ap (λ (l : Line). l.waits) c.close_frames.ensures.closed ∙ (ap (λ (l : Line). l.waits) c.in-Ok.ensures.took.line ∙ (lines_wait c.args.now (line_of c.args.self.now) c.in-Ok.ensures.took.frames ∙ waits)))
    (ap (λ (x : EndConfig). is_absent x.own_flow) (c.close_frames.ensures.config ∙ c.in-Ok.ensures.own.config) ∙ flow))
    c.serve_outbox.ensures.least
