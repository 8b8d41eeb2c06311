use Rattle.std.proofs.Common.{◌≡◌, ◌+◌, sym, ap, ◌∙◌, arith, le_refl}
use Rattle.gate_turn.specs.Listed.{pass_at}
use Rattle.gate_staff.specs.Seats.{IsBehind}
use Rattle.gate_staff.proofs.Seating.{put_back}
use Rattle.gate_staff.proofs.seats.give_last.Goals as goal

pub give-requires : goal.give-requires
give-requires g c =
    let at : c.args.pass.number ≡ c.args.senders + 1 = sym c.args.pass.numbered ∙ c.requires.number in
    (omega arith, c.requires.behind.none c.args.pass.number (λ b. omega (arith, at, b.past, b.up_to)))

pub returns : goal.returns
returns g c =
    let at : c.args.pass.number ≡ c.args.senders + 1 = sym c.args.pass.numbered ∙ c.requires.number in
    record {
      there = ap (pass_at c.give.new.self) (sym at) ∙ c.give.ensures.there;
      others = λ n ne. c.give.ensures.others n (λ e. ne (e ∙ at));
      behind = put_back c.args.gate.now (c.args.senders + 1) c.args.passes.now c.give.new.self c.args.senders c.args.pass (le_refl (c.args.senders + 1)) at c.requires.own c.requires.free
          (λ e. c.requires.first e ∙ omega (arith, e)) c.give.ensures.there c.give.ensures.others c.requires.behind;
    }
