use Rattle.std.proofs.Common.{◌≡◌, ◌++◌, ◌-◌, ℕ, Bool, Option, Some, None, false, if◌then◌else◌, sym, ap, ◌∙◌}
use Rattle.fixp_replies.specs.declared.act.Act.{Act}
use Rattle.fixp_replies.specs.Acts.{is_record}
use Rattle.fixp_replies.specs.Incoming.{payload_in}
use Rattle.fixp_replies.specs.Outcomes.{Outcome}
use Rattle.fixp_replies.specs.Replies.{reply_of}
use Rattle.fixp_machine.specs.Machine.{State, around, reply_applied, held_with}
use Rattle.cmd_answer.specs.Lines.{line_of}
use Rattle.cmd_answer.proofs.Steps.{plain_holds}
use Rattle.cmd_answer.proofs.frames.answer_frame.Goals as goal

pub returns-else-is_record-clause-answered : goal.returns-else-is_record-clause-answered
returns-else-is_record-clause-answered c =
    let m = c.args.end.now in
    let reply = c.on_frame-act.ensures.reply in
    let i = reply.incoming in
    let o : Outcome = reply_of (around m c.args.place 0) m.facts i in
    let taken : State = record m { moment = 0; last_received = 0; room = m.room - 1 } in
    let no_record : is_record o.act ≡ false = sym (ap is_record reply.replies) ∙ (sym c.is_record.ensures ∙ c.if-is_record.false) in
    let plain : o.holds ≡ None = plain_holds (around m c.args.place 0) m.facts i c.requires.ready.flow in
    record {
      incoming = i;
      is = reply.is;
      unheld = c.windowed.ensures.other c.requires.ready.flow;
      state = reply.after
          ∙ (ap (λ (b : Bool). if b then record taken { pending = Some o } else reply_applied (record taken { held = held_with o.holds (payload_in i) m.held }) o 0) no_record
          ∙ ap (λ (h : Option ℕ). reply_applied (record taken { held = held_with h (payload_in i) m.held }) o 0) plain);
      line = c.in_ok-push_line.ensures ∙ ap (λ (a : Act). c.args.lines.now.items ++ line_of a (record { order = c.args.order; message = c.args.message.now })) reply.replies;
    }
