use Rattle.std.proofs.Common.{sym}
use Rattle.jr_stream.proofs.Taking.{taken_none, no_header}
use Rattle.jr_stream.proofs.reader.RecordReader.behind_header.Goals as goal

pub returns-clause-taken : goal.returns-clause-taken
returns-clause-taken g c =
    taken_none c.args.format (g.S.Source.left c.args.source.now) (g.S.Source.left c.fill.new.source) c.in_ok-reader.reader c.fill.new.self c.pass.new.self c.in_ok-reader.ensures c.in_ok-fill.ensures.reads
    (rw (sym c.waiting.ensures) (c.has_header.ensures.yes c.if-not-has_header.false)) c.pass.ensures

pub returns-then-not-has_header-clause-refused : goal.returns-then-not-has_header-clause-refused
returns-then-not-has_header-clause-refused g c =
    no_header c.args.format (g.S.Source.left c.args.source.now) (g.S.Source.left c.fill.new.source) c.in_ok-reader.reader c.fill.new.self c.in_ok-reader.ensures c.in_ok-fill.ensures.reads c.in_ok-fill.ensures.ready
    (rw (sym c.waiting.ensures) (c.has_header.ensures.no c.if-not-has_header.true))
