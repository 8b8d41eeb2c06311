-- Where nothing stands behind the application frames, the bytes spell a datagram.
use Rattle.std.proofs.Common.{sym, ◌∙◌, arith}
use Rattle.fixp_datagram.proofs.Reading.{all_applications}
use Rattle.fixp_datagram.proofs.datagram.read_datagram.Goals as goal

pub invariant_of-result : goal.invariant_of-result
invariant_of-result c =
    all_applications c.in-Some.behind.now c.behind_applications-tail.result.now (sym c.is_empty.ensures ∙ c.if-is_empty.true)
    c.behind_applications-tail.ensures.found

pub returns-then-is_empty : goal.returns-then-is_empty
returns-then-is_empty c = (
  omega (arith, c.if-bytes-gt-MOST_BYTES.false),
  record {
    behind = c.in-Some.behind.now;
    sequence = c.in-Some.ensures.found;
    applications = all_applications c.in-Some.behind.now c.behind_applications-tail.result.now (sym c.is_empty.ensures ∙ c.if-is_empty.true)
        c.behind_applications-tail.ensures.found;
  },
)
