use Rattle.std.proofs.Common.{◌≡◌, ◌+◌, drop}
use Rattle.gw_rehearse.specs.Totals.{sum_of}
use Rattle.gw_rehearse.proofs.totals.total.Given as goal

-- what is summed, with what is left, is all
abbrev pub invariant-loop-count : goal.invariant-loop-count
invariant-loop-count l = l.sum + sum_of (drop l.count-index l.messages) ≡ sum_of l.messages
