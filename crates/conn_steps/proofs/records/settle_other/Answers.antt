use Rattle.std.proofs.Common.{◌≡◌, ℕ, Err, refl, sym, ap, ◌∙◌, arith, true≢false}
use Rattle.session_model.specs.Inbox as model
use Rattle.fixp_replies.specs.Acts.{is_record}
use Rattle.jr_record.specs.declared.faults.AppendFault.TheVariants as append
use Rattle.jr_record.specs.declared.record.Record.TheVariants as kinds
use Rattle.jr_dated.specs.declared.limits.Limits.{Limits}
use Rattle.conn_turns.specs.News.{items_of}
use Rattle.conn_turns.specs.Gathering.{settled_by}
use Rattle.conn_steps.proofs.Batches.{refused_act, refused_memory, had_room}
use Rattle.conn_steps.proofs.records.settle_other.Goals as goal

pub returns-in-Skip-clause-refused : goal.returns-in-Skip-clause-refused
returns-in-Skip-clause-refused g c =
    let e = c.skip.ensures in
    let one = model.skip (record { first = c.in-Skip.from; count = c.in-Skip.count }) in
    refused_act c.args.inbox.now c.skip.new.self (items_of c.args.news.now) c.args.act one c.skip.result (ap settled_by c.in-Skip.is) (ap is_record c.in-Skip.is) e.unchanged e.cause e.fault e.broken
    (λ b is. (
      e.full_size b is,
      record {
        one = one;
        is = refl;
        plain = refl;
        past = (let past = e.full.0 (is ∙ ap (λ (n : ℕ). Err (append.Full n)) (e.full_size b is)) in omega (arith, past.past, e.full_size b is, ap (λ (l : Limits). l.bytes) e.same.0));
      },
    ))
    (λ failed. ((λ plain. had_room c.args.inbox.now (kinds.Skip c.in-Skip.from c.in-Skip.count) c.skip.result e.broken e.full failed), tt))

pub returns-in-Negotiated-clause-refused : goal.returns-in-Negotiated-clause-refused
returns-in-Negotiated-clause-refused g c =
    let e = c.negotiated.ensures in
    refused_act c.args.inbox.now c.negotiated.new.self (items_of c.args.news.now) c.args.act model.negotiated c.negotiated.result (ap settled_by c.in-Negotiated.is) (ap is_record c.in-Negotiated.is)
    e.unchanged e.cause e.fault e.broken (λ b is. absurd (e.never_full b is)) (λ failed. ((λ plain. absurd (true≢false plain)), tt))

pub returns-in-PeerFinished-clause-refused : goal.returns-in-PeerFinished-clause-refused
returns-in-PeerFinished-clause-refused g c =
    let e = c.peer_finished.ensures in
    refused_act c.args.inbox.now c.peer_finished.new.self (items_of c.args.news.now) c.args.act (model.peer_finished c.in-PeerFinished.last) c.peer_finished.result
    (ap settled_by c.in-PeerFinished.is) (ap is_record c.in-PeerFinished.is) e.unchanged e.cause e.fault e.broken (λ b is. absurd (e.never_full b is)) (λ failed. ((λ plain. absurd (true≢false plain)), tt))

pub returns-in-Err-clause-refused : goal.returns-in-Err-clause-refused
returns-in-Err-clause-refused g c = refused_memory c.args.inbox.now (items_of c.args.news.now) (items_of c.hand_on.new.news) c.args.act c.in-Err.ensures.err
