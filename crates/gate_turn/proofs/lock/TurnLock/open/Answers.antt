use Rattle.std.proofs.Common.{List, [], ◌∷◌, Option, sym, subst}
use Rattle.atomic_table.specs.Table.{opening}
use Rattle.gate_turn.specs.Views.{View, new_part}
use Rattle.gate_turn.specs.Rule.{Turns}
use Rattle.gate_turn.proofs.Ends.{begins}
use Rattle.gate_turn.proofs.lock.TurnLock.open.Goals as goal

pub new-requires : goal.new-requires
new-requires g c =
    let tells = g.T.Logged.tells in
    subst (λ (z : g.row.T.Denot × List (Option g.row.T.Denot)). Turns tells (tells z.0) (opening {V = View} (0 ∷ 0 ∷ c.length-count.result ∷ 0 ∷ []) z.1 (new_part 1 1 (tells z.0) ∷ [])))
    (λ i. (sym c.of-key.ensures i, sym c.in_ok-slots.ensures.made i))
    (begins tells c.args.value c.length-count.result c.length-count.ensures.exact c.requires.whole c.requires.clean)
