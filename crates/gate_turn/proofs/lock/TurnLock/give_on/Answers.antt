use Rattle.std.proofs.Common.{rules, ◌≡◌, ◌≤◌, [], ◌∷◌, Some, sym, ap, ◌∙◌, subst}
use Rattle.atomic_table.specs.Table.{rest}
use Rattle.gate_turn.specs.Views.{View, Account, part_of, counted, gave}
use Rattle.gate_turn.specs.Rule.{StaysBroken, Sound}
use Rattle.gate_turn.specs.Steps.{Returns}
use Rattle.gate_turn.proofs.Puts.{one_view}
use Rattle.gate_turn.proofs.Layers.{AllOrNone, refuses_all}
use Rattle.gate_turn.proofs.Moves.{publishes, gives_on}
use Rattle.gate_turn.proofs.lock.TurnLock.give_on.Goals as goal

pub store-requires : goal.store-requires
store-requires g c =
    let put = c.exchange-before.ensures in
    let view = ap (λ m. m.0) put.3 in (
      put.0 ∙ c.requires.own,
      search rules,
      publishes g.T.Logged.tells _ _ _ _ c.args.value c.length-count.result
          (subst (λ (v : View). v ≡ part_of v ∷ []) (sym view) c.requires.one)
          (ap (λ m. m.1) put.3 ∙ ap (λ r. (0, Some c.args.value) ∷ rest r) c.requires.slot)
          (subst (λ (v : View). (part_of v).held ≡ Some (part_of v).seen) (sym view) c.requires.held)
          (subst (λ (v : View). Returns (part_of v) (g.T.Logged.tells c.args.value)) (sym view) c.requires.returns)
          c.length-count.ensures.exact,
    )

pub fetch_add-served-requires : goal.fetch_add-served-requires
fetch_add-served-requires g c =
    let put = c.exchange-before.ensures in
    let a : Account = g.T.Logged.tells c.args.value in
    let slot = ap (λ m. m.1) put.3 ∙ ap (λ r. (0, Some c.args.value) ∷ rest r) c.requires.slot in
    let stored = c.store.ensures.2 c.args.value slot in
    let view = stored.0 ∙ ap (λ (v : View). counted a.history (part_of v) ∷ []) (ap (λ m. m.0) put.3) in (
      c.store.ensures.0 ∙ (put.0 ∙ c.requires.own),
      search rules,
      gives_on g.T.Logged.tells _ _ _ _ c.args.value
          (one_view _ _ view)
          (stored.1 ∙ slot)
          (ap (λ (v : View). (part_of v).held) view)
          (subst (λ (v : View). (part_of v).faults ≤ a.faults) (sym view) c.requires.returns.faults)
          (subst (λ (v : View). AllOrNone (part_of v).refused a.refused) (sym view) (refuses_all _ a c.requires.returns.refuses))
          (subst (λ (v : View). StaysBroken (part_of v).broken (part_of v).refused a.broken a.refused) (sym view) c.requires.returns.stays)
          (subst (λ (v : View). Sound (part_of v).opening a) (sym view) c.requires.returns.sound),
    )

pub returns : goal.returns
returns g c =
    let put = c.exchange-before.ensures in
    let a : Account = g.T.Logged.tells c.args.value in
    let slot = ap (λ m. m.1) put.3 ∙ ap (λ r. (0, Some c.args.value) ∷ rest r) c.requires.slot in
    let stored = c.store.ensures.2 c.args.value slot in
    let view = stored.0 ∙ ap (λ (v : View). counted a.history (part_of v) ∷ []) (ap (λ m. m.0) put.3) in
    let given = c.fetch_add-served.ensures.2 c.args.value (stored.1 ∙ slot) in
    record {
      own = c.wake.ensures.own ∙ (c.fetch_add-served.ensures.0 ∙ (c.store.ensures.0 ∙ put.0));
      slot = ap (λ m. m.1) c.wake.ensures.me ∙ given.1;
      left = ap (λ m. m.0) c.wake.ensures.me ∙ given.0 ∙ ap (λ (v : View). gave a (part_of v) ∷ []) view;
    }
