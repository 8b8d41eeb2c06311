use Rattle.std.proofs.Common.{◌≡◌, true, false, sym, subst, ◌∙◌}
use Rattle.fixp_replies.specs.Acts.{is_record}
use Rattle.fixp_machine.specs.Machine.{State, done_pending}
use Rattle.conn_turns.specs.News.{items_of}
use Rattle.conn_steps.specs.Gathered.{payloads_in}
use Rattle.conn_steps.specs.Ends.{intake}
use Rattle.conn_steps.proofs.Answering.{done_is, answered, not_answered, blames_faulty}
use Rattle.conn_steps.proofs.frames.answer_act.Goals as goal

pub returns-in-Err-clause-refused : goal.returns-in-Err-clause-refused
returns-in-Err-clause-refused g c =
    let reply = c.on_frame-act.ensures.reply in
    not_answered c.args.end.now c.args.order c.args.message.now c.args.at c.args.now (intake c.args.inbox.now (items_of c.args.news.now) (payloads_in c.args.gathered.now))
    (intake c.settle.new.inbox (items_of c.settle.new.news) (payloads_in c.settle.new.gathered)) c.on_frame-act.new.self c.on_frame-act.result reply.incoming c.in-Err.fault c.refusal.result
    reply.is reply.replies c.on_frame-act.ensures.takes c.refusal.ensures c.in-Err.ensures.refused

pub returns-then-not-is_record-clause-answered : goal.returns-then-not-is_record-clause-answered
returns-then-not-is_record-clause-answered g c =
    let reply = c.on_frame-act.ensures.reply in
    let plain : false ≡ is_record c.on_frame-act.result = cc in
    answered c.args.end.now c.on_frame-act.new.self c.args.order c.args.message.now c.args.at c.args.now (intake c.args.inbox.now (items_of c.args.news.now) (payloads_in c.args.gathered.now))
    (intake c.settle.new.inbox (items_of c.settle.new.news) (payloads_in c.settle.new.gathered)) c.on_frame-act.result reply.incoming false
    reply.is reply.replies c.on_frame-act.ensures.takes plain reply.after c.in_default.ensures.ok

pub returns-clause-answered : goal.returns-clause-answered
returns-clause-answered g c =
    let reply = c.on_frame-act.ensures.reply in
    let stable : true ≡ is_record c.on_frame-act.result = cc in
    answered c.args.end.now c.did.new.self c.args.order c.args.message.now c.args.at c.args.now (intake c.args.inbox.now (items_of c.args.news.now) (payloads_in c.args.gathered.now))
    (intake c.settle.new.inbox (items_of c.settle.new.news) (payloads_in c.settle.new.gathered)) c.on_frame-act.result reply.incoming true
    reply.is reply.replies c.on_frame-act.ensures.takes stable
    (subst (λ (m : State). c.did.new.self ≡ done_pending m m.pending c.args.now) reply.after
    (done_is c.on_frame-act.new.self c.did.new.self c.on_frame-act.new.self.pending c.args.now (c.on_frame-act.ensures.pending ∙ sym stable) c.did.ensures.reply))
    c.in_default.ensures.ok

pub returns-in-Err-clause-blames : goal.returns-in-Err-clause-blames
returns-in-Err-clause-blames g c = blames_faulty c.args.inbox.now c.settle.new.inbox c.in-Err.fault c.refusal.result c.refusal.ensures c.in-Err.ensures.faulty
