-- Frames were given out, bytes came or none did, and frames were given out behind them.
use Rattle.fixp_mux.specs.Stepping.{during}
use Rattle.fixp_mux.proofs.BytesIn.{read_gave, read_more, read_none}
use Rattle.fixp_mux.proofs.router.Router.read_in.Goals as goal

pub returns-then-not-branch-clause-read : goal.returns-then-not-branch-clause-read
returns-then-not-branch-clause-read g c =
    let before = c.in_ok-before.before in
    read_none _ _ _ _ (during c.args.self.now) (during c.give_out.new.self) (during c.take_in.new.self) before.gave_one c.in_ok-take_in.field-0 before.stop c.give_out.new.self.counted
    c.in_ok-before.ensures.0 c.in_ok-before.ensures.1 c.in_ok-take_in.ensures.took c.if-not-branch.true

pub returns-then-before-2-clause-read : goal.returns-then-before-2-clause-read
returns-then-before-2-clause-read g c =
    let before = c.in_ok-before.before in
    let behind = c.in_ok-behind.behind in
    rw c.if-before-2.true (read_gave _ _ _ _ (during c.args.self.now) (during c.give_out.new.self) (during c.take_in.new.self) (during c.give_out-2.new.self) before.gave_one behind.gave_one c.in_ok-take_in.field-0 behind.stop c.give_out.new.self.counted
    c.in_ok-before.ensures.0 c.in_ok-take_in.ensures.took c.if-not-branch.false c.in_ok-behind.ensures.0 c.in_ok-behind.ensures.1 c.if-before-2.true)

pub returns-else-before-2-clause-read : goal.returns-else-before-2-clause-read
returns-else-before-2-clause-read g c =
    let before = c.in_ok-before.before in
    let behind = c.in_ok-behind.behind in
    read_more _ _ _ _ (during c.args.self.now) (during c.give_out.new.self) (during c.take_in.new.self) (during c.give_out-2.new.self) before.gave_one behind.gave_one c.in_ok-take_in.field-0 behind.stop c.give_out.new.self.counted
    c.in_ok-before.ensures.0 c.in_ok-take_in.ensures.took c.if-not-branch.false c.in_ok-behind.ensures.0 c.in_ok-behind.ensures.1 c.if-before-2.false
