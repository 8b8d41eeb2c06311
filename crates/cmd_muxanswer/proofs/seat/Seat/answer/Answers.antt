use Rattle.std.proofs.Common.{◌≡◌, ℕ, ◌+◌, ◌++◌, List, [], Option, ap, sym, subst, ◌∙◌}
use Rattle.fixp_replies.specs.declared.act.Ending.{Ending}
use Rattle.cmd_muxanswer.specs.declared.seat.Seat.{Seat}
use Rattle.cmd_muxanswer.specs.Lines.{bytes_of_lines, lines_with, violation_text}
use Rattle.fixp_shake.specs.declared.config.EndConfig.{EndConfig}
use Rattle.sofh_frame.specs.Framing.{Frame}
use Rattle.cmd_muxanswer.specs.declared.wire.Written.{Written}
use Rattle.cmd_muxanswer.specs.Progress.{AnswersAt, TakesOne, Writes}
use Rattle.cmd_muxanswer.proofs.Seating.{answers_at}
use Rattle.cmd_muxanswer.proofs.seat.Seat.answer.Goals as goal

pub returns-clause-going : goal.returns-clause-going
returns-clause-going c = λ going.
    let place = c.args.place in
    let old : Seat = c.args.self.now in
    let taken : Seat = c.take.new.self in
    let before : Written = c.args.written.now in
    let after : Written = record { wire = c.push.new.self; lines = c.push_violation.new.lines; line = c.take.new.line } in
    let f : Frame = record { order = c.args.order; message = c.args.message.now } in
    let lines : List ℕ = c.take.new.line.items in
    let takes : TakesOne old taken [] lines f = rw c.clear.ensures.items at c.in_ok-take.ensures in
    let writes : Writes before.wire after.wire place taken.end.config.session taken.end.unsent =
    subst (λ (bs : List ℕ). Writes before.wire after.wire place taken.end.config.session bs) c.out.ensures
    (subst (λ (cfg : EndConfig). Writes before.wire after.wire place cfg.session c.out.result.now) c.config.ensures c.in_ok-push.ensures) in
    let lined : after.lines.items ≡ (before.lines.items ++ bytes_of_lines (lines_with (place + 1) lines)) ++ bytes_of_lines (lines_with (place + 1) (violation_text taken.end.ending)) =
    subst (λ (e : Option Ending). after.lines.items ≡ (before.lines.items ++ bytes_of_lines (lines_with (place + 1) lines)) ++ bytes_of_lines (lines_with (place + 1) (violation_text e))) c.ending-2.ensures
    (c.in_ok-push_violation.ensures ∙ ap (λ (l : List ℕ). l ++ bytes_of_lines (lines_with (place + 1) (violation_text c.ending-2.result)))
    (c.in_ok-push_text.ensures ∙ ap (λ (text : List ℕ). before.lines.items ++ bytes_of_lines (lines_with (place + 1) text)) c.as_slice.ensures.value)) in
    subst (λ (s : Seat). AnswersAt place old s before after f) (sym c.empty.ensures) (answers_at place old taken before after lines f c.requires.usable going takes writes lined)
