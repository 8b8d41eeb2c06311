use Rattle.std.proofs.Common.{◌≡◌, ◌+◌, sym, ap, ◌∙◌, subst, arith}
use Rattle.gate_turn.specs.Places.{known}
use Rattle.gate_turn.specs.Listed.{known_if, known_at}
use Rattle.gate_staff.proofs.Parting.{all_back}
use Rattle.gate_staff.proofs.seats.give_connection.Goals as goal

pub give-requires : goal.give-requires
give-requires g c =
    let at : c.args.pass.number ≡ c.args.senders + 1 = sym c.args.pass.numbered ∙ c.requires.number in
    (omega arith, c.requires.these.others c.args.pass.number (λ i. let up_to = i.up_to in omega (arith, at, up_to)))

pub returns : goal.returns
returns g c =
    let at : c.args.pass.number ≡ c.args.senders + 1 = sym c.args.pass.numbered ∙ c.requires.number in
    record {
      back = all_back c.args.gate.now c.args.senders c.args.passes.now c.give.new.self c.requires.few c.args.pass c.requires.own c.requires.free at c.requires.alone c.requires.these
          c.requires.first c.give.ensures.there c.give.ensures.others;
      parts = λ n i. let up_to = i.up_to in ap (λ o. known_if o) (c.give.ensures.others n (λ e. omega (arith, at, e, up_to)));
      last = subst (λ k. known_at c.give.new.self k ≡ known c.args.pass) at (ap (λ o. known_if o) c.give.ensures.there);
    }
