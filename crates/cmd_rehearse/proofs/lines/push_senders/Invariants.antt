use Rattle.std.proofs.Common.{◌≡◌, ◌+◌, ◌++◌, drop}
use Rattle.cmd_rehearse.specs.Lines.{sender_lines}
use Rattle.cmd_rehearse.proofs.lines.push_senders.Given as goal

-- what is written, followed by the lines that are left, is all
abbrev pub invariant-loop-count : goal.invariant-loop-count
invariant-loop-count l = record {
  number : l.sender ≡ l.count-index + 1;
  lines : l.lines.items ++ sender_lines l.end l.sender (drop l.count-index l.entries) ≡ l.initial.lines.items ++ sender_lines l.end 1 l.entries;
}
