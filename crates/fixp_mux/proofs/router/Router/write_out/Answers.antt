-- One round more: the link took some of the unsent bytes, and then frames were begun, or none was.
use Rattle.std.proofs.Common.{◌≡◌, ◌∙◌}
use Rattle.fixp_mux.specs.Stepping.{during}
use Rattle.fixp_mux.proofs.BytesOut.{write_more, write_part, write_whole}
use Rattle.fixp_mux.proofs.router.Router.write_out.Goals as goal

pub returns-then-has_unsent-clause-wrote : goal.returns-then-has_unsent-clause-wrote
returns-then-has_unsent-clause-wrote g c =
    rw c.saturating_add-sent.ensures
    (write_part _ _ _ _ _ _ (during c.args.self.now) (during c.loop-taken.self) (during c.send_on.new.self) c.loop-taken.sent c.in_ok-taken.taken c.has_unsent.result c.loop-taken.invariant.wrote c.in_ok-taken.ensures.sent c.has_unsent.ensures c.if-has_unsent.true)

pub returns-then-not-begin_on-clause-wrote : goal.returns-then-not-begin_on-clause-wrote
returns-then-not-begin_on-clause-wrote g c =
    rw c.saturating_add-sent.ensures
    (write_whole _ _ _ _ _ _ (during c.args.self.now) (during c.loop-taken.self) (during c.send_on.new.self) (during c.begin_on.new.self) c.loop-taken.sent c.in_ok-taken.taken c.has_unsent.result c.begin_on.result c.loop-taken.invariant.wrote c.in_ok-taken.ensures.sent c.has_unsent.ensures c.if-has_unsent.false c.begin_on.ensures c.if-not-begin_on.true)

pub loop-taken-preserved : goal.loop-taken-preserved
loop-taken-preserved g c =
    let same : g.L.Link.faults c.send_on.new.link ≡ g.L.Link.faults c.loop-taken.link = c.in_ok-taken.ensures.cause.risen in
    record {
      wrote =
          rw c.saturating_add-sent.ensures
          (write_more _ _ _ _ _ _ (during c.args.self.now) (during c.loop-taken.self) (during c.send_on.new.self) (during c.begin_on.new.self) c.loop-taken.sent c.in_ok-taken.taken c.begin_on.result c.loop-taken.invariant.wrote c.in_ok-taken.ensures.sent c.begin_on.ensures c.if-not-begin_on.false);
      stayed = c.in_ok-taken.ensures.stays ∙ c.loop-taken.invariant.stayed;
      counted = same ∙ c.loop-taken.invariant.counted;
    }
