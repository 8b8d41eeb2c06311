use Rattle.std.proofs.Common.{◌-◌, ◌≤◌, length, refl, arith}
use Rattle.std.specs.List.{slice_range}
use Rattle.conn_tail.proofs.Delivers.{too_long}
use Rattle.conn_tail.proofs.Told.{none_told, found_told, line_told, long_range}
use Rattle.conn_tail.proofs.tail.number_at.Goals as goal

pub returns-then-end-start-gt-LONGEST_LINE-clause-none : goal.returns-then-end-start-gt-LONGEST_LINE-clause-none
returns-then-end-start-gt-LONGEST_LINE-clause-none g c = λ content e.
    let within = c.requires.within content e in
    too_long (slice_range content c.args.start c.args.end)
    (long_range content c.args.start c.args.end c.requires.order (omega (arith, within)) c.if-end-start-gt-LONGEST_LINE.true)

pub returns-clause-found : goal.returns-clause-found
returns-clause-found g c =
    let p = c.hold.new.part in
    let told = g.A.Sink.taken c.args.out.now in
    let line = slice_range c.hold.new.piece (c.args.start - p.at) (c.args.end - p.at) in
    let e = c.in_ok-hold.ensures in
    let most : p.size ≤ length c.hold.new.piece = omega (arith, e.most, c.hold.auto.piece, c.requires.piece) in
    found_told c.in_ok-number_of.field-0 told line line c.args.start c.args.end c.in_ok-number_of.ensures.found refl
    (line_told told c.hold.new.piece p.at p.size c.args.start c.args.end e.stands e.before c.requires.order e.behind c.requires.within most)

pub returns-clause-none : goal.returns-clause-none
returns-clause-none g c =
    let p = c.hold.new.part in
    let told = g.A.Sink.taken c.args.out.now in
    let line = slice_range c.hold.new.piece (c.args.start - p.at) (c.args.end - p.at) in
    let e = c.in_ok-hold.ensures in
    let most : p.size ≤ length c.hold.new.piece = omega (arith, e.most, c.hold.auto.piece, c.requires.piece) in
    none_told c.in_ok-number_of.field-0 told line line c.args.start c.args.end c.in_ok-number_of.ensures.none refl
    (line_told told c.hold.new.piece p.at p.size c.args.start c.args.end e.stands e.before c.requires.order e.behind c.requires.within most)
