use Rattle.gate_staff.proofs.producers.Producers.produce_all.Goals as goal

pub returns-clause-did : goal.returns-clause-did
returns-clause-did g c =
    c.conclude.ensures.did c.args.self.now (record { had = c.requires.own; given = c.give-given.result.items; gave_out = c.give-given.ensures.gave; did = c.run_producers.ensures.worked })

pub returns-clause-again : goal.returns-clause-again
returns-clause-again g c = λ start first some.
    c.conclude.ensures.again start c.args.self.now first some
    (record { had = c.requires.own; given = c.give-given.result.items; gave_out = c.give-given.ensures.gave; did = c.run_producers.ensures.worked })
