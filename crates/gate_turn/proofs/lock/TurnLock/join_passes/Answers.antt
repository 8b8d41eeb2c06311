use Rattle.std.proofs.Common.{rules, ◌≡◌, ◌+◌, Option, ◌++◌, sym, ap, ◌∙◌, subst, arith}
use Rattle.atomic_table.specs.declared.shared.Seat.{Seat}
use Rattle.gate_turn.specs.Views.{View}
use Rattle.gate_turn.proofs.Ends.{joins}
use Rattle.gate_turn.proofs.Making.{Joining, still_back, joins_one, joins_none, all_joined, view_of}
use Rattle.gate_turn.proofs.lock.TurnLock.join_passes.Goals as goal
use Rattle.gate_turn.proofs.lock.TurnLock.join_passes.Goals.{in-Some-take, in_default-take}

pub join_seat-requires : goal.join_seat-requires
join_seat-requires g c =
    let p = c.in-Some-take.pass in
    let back = still_back c.args.self.now c.args.passes c.loop-number.passes c.loop-number.keeper.me.0 c.loop-number.number _ p c.requires.back c.loop-number.invariant.joined
    c.take-in-loop-number.ensures.exact c.in-Some-take.is in (
      c.loop-number.invariant.own,
      ap (λ (s : Seat (Option g.row.T.Denot) View). s.table_id) c.into_seat.ensures.seat ∙ back.0,
      ap (λ (s : Seat (Option g.row.T.Denot) View). s.me.1) c.into_seat.ensures.seat ∙ back.1.slot,
      search rules,
      joins g.T.Logged.tells _ _ _ _ _,
    )

pub loop-number-preserved : goal.loop-number-preserved
loop-number-preserved g c =
    elim c.match-take-2.branch [
      | in-Some-take w ↦ (
          let p = w.in-Some-take.pass in
          let there = sym c.take-in-loop-number.ensures.exact ∙ w.in-Some-take.is in
          let with_p : c.loop-number.keeper.me.0 ++ w.into_seat.result.me.0 ≡ c.loop-number.keeper.me.0 ++ p.seat.me.0 =
          ap (λ (s : Seat (Option g.row.T.Denot) View). c.loop-number.keeper.me.0 ++ s.me.0) w.into_seat.ensures.seat in
          let view : c.match-take-2.keeper.me.0 ≡ c.loop-number.keeper.me.0 ++ p.seat.me.0 =
          ap (λ (s : Seat (Option g.row.T.Denot) View). s.me.0) w.keeper-is ∙ (view_of _ _ w.join_seat.ensures.2 ∙ with_p) in
          record {
            own = ap (λ (s : Seat (Option g.row.T.Denot) View). s.table_id) w.keeper-is ∙ (w.join_seat.ensures.0 ∙ c.loop-number.invariant.own);
            joined = subst (λ (v : View). Joining c.args.passes c.take-in-loop-number.new.self v (c.loop-number.number + 1)) (sym view)
                (joins_one c.args.passes c.loop-number.passes c.take-in-loop-number.new.self c.loop-number.keeper.me.0 c.loop-number.number p c.loop-number.invariant.joined there p.knows
                c.take-in-loop-number.ensures.others);
          })
      | in_default-take w ↦ record {
        own = ap (λ (s : Seat (Option g.row.T.Denot) View). s.table_id) w.keeper-is ∙ c.loop-number.invariant.own;
        joined = subst (λ (s : Seat (Option g.row.T.Denot) View). Joining c.args.passes c.take-in-loop-number.new.self s.me.0 (c.loop-number.number + 1)) (sym w.keeper-is)
            (joins_none c.args.passes c.loop-number.passes c.take-in-loop-number.new.self c.loop-number.keeper.me.0 c.loop-number.number c.loop-number.invariant.joined
            (sym c.take-in-loop-number.ensures.exact ∙ w.in_default-take.is)
            c.take-in-loop-number.ensures.others);
      }
    ]

pub returns-clause-all : goal.returns-clause-all
returns-clause-all g c = all_joined c.args.self.now c.args.passes c.loop-number.passes c.loop-number.keeper.me.0 c.loop-number.number c.requires.back c.loop-number.invariant.joined
    (omega (arith, c.loop-number-test.false))
