use Rattle.std.proofs.Common.{◌≡◌, ◌++◌}
use Rattle.std.specs.Slice.Iter.{chunks_rest, chunks_size}
use Rattle.hex.specs.Hex.{encode_lower}
use Rattle.conn_lines.proofs.deliver.push_parts.Given as goal

-- what is written, followed by what is left, is all
abbrev pub invariant-loop-part : goal.invariant-loop-part
invariant-loop-part l =
    goal.iterator-loop-part.can_next l.part-iterator
    × goal.iterator-loop-part.is_finite l.part-iterator
    × (chunks_size l.part-iterator ≡ 1048576)
    × (l.lines.items ++ encode_lower (chunks_rest l.part-iterator) ≡ l.initial.lines.items ++ encode_lower l.bytes)
