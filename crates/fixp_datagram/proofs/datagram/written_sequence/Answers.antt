-- A Sequence that is written so is one.
use Rattle.std.proofs.Common.{◌≡◌, ◌++◌, take, drop, ap, ◌∙◌, sym, take-append-drop}
use Rattle.fixp_datagram.specs.Opened.{sequence_head}
use Rattle.fixp_datagram.proofs.Packed.{begins_written}
use Rattle.fixp_datagram.proofs.datagram.written_sequence.Goals as goal

pub returns : goal.returns
returns c =
    let rest = c.in_ok-rest.rest.now in
    let parts : rest ≡ c.split_at.result.0.now ++ c.split_at.result.1.now = c.split_at.ensures.by_index.0 in
    record {
      found = begins_written c.args.bytes.now c.split_at.result.0.now c.split_at.result.1.now c.number_of.result
          (c.in_ok-rest.ensures.found ∙ ap (λ r. sequence_head ++ r) parts)
          c.number_of.ensures.spelled c.number_of.ensures.small;
    }
