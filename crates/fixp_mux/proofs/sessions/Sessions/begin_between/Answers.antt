-- Frames of one session more were moved, or none of them was; and no session is left behind the last one.
use Rattle.std.proofs.Common.{◌+◌, Bool, arith, subst, sym}
use Rattle.fixp_mux.specs.Begun.{IsBegunBetween}
use Rattle.fixp_mux.proofs.Beginning.{begin_count, between_end, between_next, between_some}
use Rattle.fixp_mux.proofs.sessions.Sessions.begin_between.Goals.{then-begin_all, else-begin_all}
use Rattle.fixp_mux.proofs.sessions.Sessions.begin_between.Goals as goal

pub loop-place-preserved : goal.loop-place-preserved
loop-place-preserved c =
    let x = c.args.self.now in
    let y = c.loop-place.self in
    let z = c.begin_all.new.self in
    let a = c.args.unsent.now in
    let b = c.loop-place.unsent in
    let d = c.begin_all.new.unsent in
    let from = c.args.from in
    let at = c.loop-place.place in
    let so_far = c.loop-place.invariant.begun in
    let began : IsBegunBetween from (at + 1) x a c.if-begin_all.began z d = elim c.if-begin_all.branch [
      | then-begin_all w ↦ subst (λ (t : Bool). IsBegunBetween from (at + 1) x a t z d) (sym w.began-is) (between_some from at x y z a b d c.loop-place.began c.begin_all.result so_far c.begin_all.ensures w.if-begin_all.true)
      | else-begin_all w ↦ subst (λ (t : Bool). IsBegunBetween from (at + 1) x a t z d) (sym w.began-is) (between_next from at x y z a b d c.loop-place.began c.begin_all.result so_far c.begin_all.ensures w.if-begin_all.false)
    ] in
    record {
      begun = began;
      count = begin_count at y z b d c.begin_all.result _ c.loop-place.invariant.count c.begin_all.ensures;
    }

pub returns : goal.returns
returns c =
    between_end c.args.from c.loop-place.place c.args.to c.args.self.now c.loop-place.self c.args.unsent.now c.loop-place.unsent c.loop-place.began (omega (arith, c.loop-place-test.false)) c.loop-place.invariant.begun
