-- The sessions behind the one written last, and then those before it, are all sessions.
use Rattle.std.proofs.Common.{ℕ, subst, true}
use Rattle.fixp_mux.specs.Begun.{IsBegunBetween}
use Rattle.fixp_mux.proofs.Beginning.{around_behind, between_fits}
use Rattle.fixp_mux.proofs.sessions.Sessions.begin_frames.Goals as goal

pub begin_between-before-requires : goal.begin_between-before-requires
begin_between-before-requires c =
    between_fits c.behind_writing-first.result c.len.result c.behind_writing-first.result c.args.self.now c.begin_between-behind.new.self c.args.unsent.now c.begin_between-behind.new.unsent c.begin_between-behind.result c.behind_writing-first.ensures c.begin_between-behind.ensures

pub returns-then-behind : goal.returns-then-behind
returns-then-behind c =
    let x = c.args.self.now in
    let y = c.begin_between-behind.new.self in
    let z = c.begin_between-before.new.self in
    let a = c.args.unsent.now in
    let d = c.begin_between-before.new.unsent in
    subst (λ (n : ℕ). IsBegunBetween 0 n x a true z d) c.len.ensures
    (around_behind c.behind_writing-first.result c.len.result x y z a c.begin_between-behind.new.unsent d c.begin_between-behind.result c.begin_between-before.result c.begin_between-behind.ensures c.begin_between-before.ensures c.if-behind.true)
