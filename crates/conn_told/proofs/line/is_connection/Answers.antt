use Rattle.conn_told.proofs.line.is_connection.Goals as goal

pub returns-in-Some-clause-yes : goal.returns-in-Some-clause-yes
returns-in-Some-clause-yes c = λ e. record { behind = _; written = c.in-Some.ensures.found }

pub returns-in-None-clause-no : goal.returns-in-None-clause-no
returns-in-None-clause-no c = λ e b. c.in-None.ensures.none b.behind b.written
