use Rattle.std.proofs.Common.{◌≡◌, ◌++◌, length, ap, ◌∙◌, arith}
use Rattle.conn_accepted.specs.Lines.{refused_line}
use Rattle.conn_feed.specs.declared.end.FeedEnd.TheVariants as ends
use Rattle.conn_feed.proofs.Feeders.{memory_at, ends_at_line, refuse_goes, refuse_over}
use Rattle.conn_feed.proofs.feeder.Feeder.refuse.Goals as goal

pub returns-in_default-clause-over : goal.returns-in_default-clause-over
returns-in_default-clause-over g c = λ line wrong.
    let f = c.args.self.now in
    ends_at_line g.K.Sink.taken f f ends.Memory c.args.number line (memory_at g.K.Sink.taken f)

pub returns-clause-goes : goal.returns-clause-goes
returns-clause-goes g c =
    let f = c.args.self.now in
    let count : c.len-senders.result ≡ length f.senders.items = omega (arith, c.len-senders.ensures, f.senders.ok.0) in
    refuse_goes g.K.Sink.taken f c.tell.new.self c.args.number c.args.why c.tell.result c.as_slice.result.now c.requires.empty c.requires.clear
    (c.as_slice.ensures.value ∙ c.in-Ok.ensures.added ∙ ap (λ xs. xs ++ refused_line c.len-senders.result c.args.number c.args.why) c.new-text.ensures.items
    ∙ ap (λ n. refused_line n c.args.number c.args.why) count)
    (ap (λ v. v.items) c.tell.ensures.senders) c.tell.ensures.piece c.tell.ensures.number c.tell.ensures.ok

pub returns-clause-over : goal.returns-clause-over
returns-clause-over g c =
    let f = c.args.self.now in
    let count : c.len-senders.result ≡ length f.senders.items = omega (arith, c.len-senders.ensures, f.senders.ok.0) in
    refuse_over g.K.Sink.taken f c.tell.new.self c.args.number c.args.why c.tell.result c.as_slice.result.now c.requires.empty c.requires.clear
    (c.as_slice.ensures.value ∙ c.in-Ok.ensures.added ∙ ap (λ xs. xs ++ refused_line c.len-senders.result c.args.number c.args.why) c.new-text.ensures.items
    ∙ ap (λ n. refused_line n c.args.number c.args.why) count)
    (ap (λ v. v.items) c.tell.ensures.senders) c.tell.ensures.which c.tell.ensures.err
