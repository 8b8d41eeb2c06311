use Rattle.std.proofs.Common.{sym, ◌∙◌, subst}
use Rattle.std.proofs.lemmas.Option.{none-some, same_Some}
use Rattle.gate_turn.specs.Steps.{Closed}
use Rattle.gate_turn.specs.Listed.{known_at}
use Rattle.gate_turn.specs.Calls.{opened_with}
use Rattle.gate_turn.proofs.Making.{comes_out}
use Rattle.gate_turn.proofs.lock.TurnLock.close.Goals as goal

pub unreachable-requires : goal.unreachable-requires
unreachable-requires g c =
    let out = comes_out g.T.Logged.tells c.args.self c.args.passes _ _ _ _ c.take.result c.requires.back c.join_passes-keeper.ensures.all c.close_with-closed.ensures.values.2 c.take.ensures.value in
    none-some out.0 (sym c.in_default.is ∙ out.1)

pub returns : goal.returns
returns g c =
    let out = comes_out g.T.Logged.tells c.args.self c.args.passes _ _ _ _ c.take.result c.requires.back c.join_passes-keeper.ensures.all c.close_with-closed.ensures.values.2 c.take.ensures.value in
    record {
      closed = subst (λ (v : g.row.T.Denot). Closed (known_at c.args.passes) (known_at c.args.passes 1).made (g.T.Logged.tells (opened_with c.args.self)) (g.T.Logged.tells v))
          (same_Some out.0 c.in-Some.value (sym out.1 ∙ c.in-Some.is)) out.2;
    }
