use Rattle.std.proofs.Common.{◌≡◌, drop}
use Rattle.sbe_grammar.specs.Reading.{read_data}
use Rattle.sbe_decode.proofs.Lists.{data_before}
use Rattle.sbe_decode.proofs.data.read_data.Given as goal

-- what is read, in front of what is left, is all
abbrev pub invariant-loop-plan : goal.invariant-loop-plan
invariant-loop-plan l =
    data_before l.data.items (read_data l.reading.order l.reading.version l.reading.total (drop l.plan-index l.plans) l.left) ≡ read_data l.reading.order l.reading.version l.reading.total l.plans l.fn.left
