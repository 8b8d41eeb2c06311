use Rattle.cmd_show.proofs.stream.show_to_end.Goals as goal

pub returns-in-Ok-Some-clause-after : goal.returns-in-Ok-Some-clause-after
returns-in-Ok-Some-clause-after g c = λ choice ahead image start before t.
    (rw c.in-Ok-Some.field-0-is at c.in-Ok-Some.ensures.after) choice ahead image start before (c.loop.invariant.stands choice ahead image start before t)

pub returns-in-Err-clause-after : goal.returns-in-Err-clause-after
returns-in-Err-clause-after g c = λ choice ahead image start before t. c.in-Err.ensures.after choice ahead image start before (c.loop.invariant.stands choice ahead image start before t)
