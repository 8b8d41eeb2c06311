use Rattle.std.proofs.Common.{◌++◌, ap, ◌∙◌}
use Rattle.conn_feed.specs.Words.{counts_text}
use Rattle.conn_feed.specs.Fed.{dones_of}
use Rattle.conn_feed.proofs.Counts.{counts_are, told_by}
use Rattle.conn_feed.proofs.feeder.Feeder.tell_counts.Goals as goal

pub returns-clause-told : goal.returns-clause-told
returns-clause-told g c =
    let senders = c.args.self.now.senders.items in
    told_by (g.K.Sink.taken c.args.self.now.accepted) (g.K.Sink.taken c.tell.new.self.accepted) c.as_slice-2.result.now _ c.tell.result
    (c.as_slice-2.ensures.value ∙ c.in-Ok.ensures.added ∙ ap (λ xs. xs ++ counts_text 1 (dones_of c.as_slice.result.now)) c.new-text.ensures.items ∙ ap (λ xs. counts_text 1 (dones_of xs)) c.as_slice.ensures.value
    ∙ ap (counts_text 1) (counts_are senders c.requires.counted))
    c.tell.ensures.ok c.tell.ensures.err c.tell.ensures.which
