use Rattle.std.proofs.Common.{◌≡◌, drop}
use Rattle.sbe_grammar.specs.Reading.{read_data}
use Rattle.sbe_decode.specs.Walks.{behind}
use Rattle.sbe_decode.proofs.data.skip_data.Given as goal

-- behind what is left is what is behind all
abbrev pub invariant-loop-plan : goal.invariant-loop-plan
invariant-loop-plan l =
    behind (read_data l.reading.order l.reading.version l.reading.total (drop l.plan-index l.plans) l.left) ≡ behind (read_data l.reading.order l.reading.version l.reading.total l.plans l.fn.left)
