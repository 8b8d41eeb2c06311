use Rattle.std.proofs.Common.{◌≡◌, ◌++◌, ℕ, List, OnOk, refl, subst}
use Rattle.sofh_frame.specs.Framing.{Frame}
use Rattle.fixp_msgs.specs.declared.reading.MsgFault.TheVariants as faults
use Rattle.fixp_msgs.specs.Spelled.{message_in}
use Rattle.fixp_msgs.specs.Reading.{HasCause}
use Rattle.frame_text.proofs.Sessions.{none-found, template-lines, short-lines}
use Rattle.frame_text.proofs.held.push_session_message.Goals as goal

pub returns-in-Err-BadTemplate : goal.returns-in-Err-BadTemplate
returns-in-Err-BadTemplate c =
    let f : Frame = record { order = c.args.held.order; message = c.args.held.message.now } in
    let cause : HasCause c.args.held.message.now (faults.BadTemplate c.in-Err-BadTemplate.id) = rw c.in-Err-BadTemplate.field-0-is at c.in-Err-BadTemplate.ensures.cause in
    subst (λ (told : List ℕ). OnOk c.push_no_template.result (c.push_no_template.new.lines.items ≡ c.args.lines.now.items ++ told))
    (template-lines f c.in-Err-BadTemplate.id cause.0 cause.1) c.push_no_template.ensures

pub returns-in-Err-Short : goal.returns-in-Err-Short
returns-in-Err-Short c =
    let f : Frame = record { order = c.args.held.order; message = c.args.held.message.now } in
    let cause : HasCause c.args.held.message.now faults.Short = rw c.in-Err-Short.field-0-is at c.in-Err-Short.ensures.cause in
    let nothing = none-found f.message (message_in f.message) refl (λ m e. cause.1 m ((c.spelled_is_found.ensures f.message m).1 e)) in
    subst (λ (told : List ℕ). OnOk c.push_unread.result (c.push_unread.new.lines.items ≡ c.args.lines.now.items ++ told))
    (short-lines f cause.0 nothing) c.push_unread.ensures
