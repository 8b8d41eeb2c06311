use Rattle.std.proofs.Common.{◌≡◌, ◌++◌, ℕ, true, List, OnOk, subst, rules, arith}
use Rattle.std.proofs.lemmas.Grind.{common_steps}
use denote.Enum.Bare.{sameb}
use Rattle.sbe_prim.specs.contracts.Order as order
use Rattle.sofh_frame.specs.Framing.{Frame}
use Rattle.frame_text.specs.Held.{unread, fault_words}
use Rattle.frame_text.proofs.Applications.{added, faulty}
use Rattle.frame_text.proofs.held.push_application.Goals as goal

pub returns-in-Ok : goal.returns-in-Ok
returns-in-Ok c =
    let f : Frame = record { order = c.args.held.order; message = c.args.held.message.now } in
    let same : sameb order.the_type f.order c.args.plan.now.order ≡ true = first_of (search rules, grind (arith, common_steps)) in
    added c.args.plan.now f c.args.lines.now.items c.print_named_wire.new.lines.items same c.in-Ok.ensures.lines

pub returns-in-Err-Fault : goal.returns-in-Err-Fault
returns-in-Err-Fault c =
    let f : Frame = record { order = c.args.held.order; message = c.args.held.message.now } in
    let same : sameb order.the_type f.order c.args.plan.now.order ≡ true = first_of (search rules, grind (arith, common_steps)) in
    let kept : c.print_named_wire.new.lines.items ≡ c.args.lines.now.items = search rules in
    subst (λ (told : List ℕ). OnOk c.push_faulty.result (c.push_faulty.new.lines.items ≡ c.args.lines.now.items ++ told))
    (faulty c.args.plan.now f c.in-Err-Fault.fault same (c.print_named_wire.ensures.fault _ (search rules)))
    (subst (λ (front : List ℕ). OnOk c.push_faulty.result (c.push_faulty.new.lines.items ≡ front ++ unread f (fault_words c.in-Err-Fault.fault))) kept c.push_faulty.ensures)
