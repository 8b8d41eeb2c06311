use Rattle.std.proofs.Common.{◌≡◌, ◌+◌, ◌*◌, ◌^◌, sym, ap, ◌∙◌, arith}
use Rattle.gate_turn.specs.Places.{known}
use Rattle.gate_turn.specs.Listed.{pass_at}
use Rattle.conn_loop.specs.Conn.{line_of}
use Rattle.cases_made.proofs.Driving.{passes_kept, known_there, can_turn_at, stands_at}
use Rattle.cases_made.proofs.driven.DrivenEnd.turn.Goals as goal

pub make_turn-self-inside-requires-clause-can : goal.make_turn-self-inside-requires-clause-can
make_turn-self-inside-requires-clause-can g c =
    can_turn_at _ (c.self.inside.turns * 4195840) (2 ^ 62 + 2 ^ 61) _ _ c.self.inside.inbox (omega arith)
    (sym (known_there c.self.inside.passes (c.self.inside.senders + 1) c.taken-pass.result c.taken-pass.ensures.there)) (c.self.invariant.1.turns c.in-Open.is)

pub invariant_of-self : goal.invariant_of-self
invariant_of-self g c =
    let q = c.make_turn-self-inside.new.pass in
    let at : q.number ≡ c.self.inside.senders + 1 = sym q.numbered ∙ (c.make_turn-self-inside.ensures.looks.number ∙ c.taken-pass.ensures.number) in
    let place = (c.self.invariant.1.turns c.in-Open.is).place in (
      passes_kept c.self.inside.gate c.self.inside.passes c.taken-pass.new.passes c.give.new.self c.self.inside.senders (c.self.inside.senders + 1) c.taken-pass.result q c.self.invariant.0
          c.taken-pass.ensures.there c.taken-pass.ensures.others at c.make_turn-self-inside.ensures.own c.make_turn-self-inside.ensures.free c.make_turn-self-inside.ensures.looks.made c.give.ensures.there c.give.ensures.others,
      stands_at c.make_turn-self-inside.result (line_of c.make_turn-self-inside.new.conn) ((line_of c.self.inside.conn).place + 4195840) ((c.self.inside.turns + 1) * 4195840) (known q) _ c.make_turn-self-inside.new.inbox (omega (arith, place))
          (known_there c.give.new.self (c.self.inside.senders + 1) q (ap (pass_at c.give.new.self) (sym at) ∙ c.give.ensures.there)) c.make_turn-self-inside.ensures.stands,
    )
