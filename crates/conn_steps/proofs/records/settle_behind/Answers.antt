use Rattle.std.proofs.lemmas.Result.{on_ok_weaker, IfErr-weaker}
use Rattle.jr_record.specs.declared.faults.AppendFault.{AppendFault}
use Rattle.conn_turns.specs.News.{items_of}
use Rattle.conn_steps.specs.Gathered.{payloads_in}
use Rattle.conn_steps.specs.Settling.{Refused}
use Rattle.conn_steps.specs.Taking.{of_waiting, of_record}
use Rattle.conn_steps.proofs.Batches.{takes_behind, done_behind, recorded_behind, faulty_behind}
use Rattle.conn_steps.proofs.records.settle_behind.Goals as goal

pub settle_other-requires : goal.settle_other-requires
settle_other-requires g c =
    record {
      takes = takes_behind c.args.inbox.now c.apply_gathered.new.inbox (items_of c.args.news.now) (items_of c.apply_gathered.new.news) (payloads_in c.args.gathered.now) c.args.act
          c.apply_gathered.ensures.kind c.in_default.ensures.ok c.requires.takes;
    }

pub returns-in-Err-clause-refused : goal.returns-in-Err-clause-refused
returns-in-Err-clause-refused g c = of_waiting c.requires.other c.in-Err.ensures.refused

pub returns-clause-ok : goal.returns-clause-ok
returns-clause-ok g c =
    on_ok_weaker c.settle_other.result
    (done_behind c.args.inbox.now c.apply_gathered.new.inbox c.settle_other.new.inbox (items_of c.args.news.now) (items_of c.apply_gathered.new.news) (items_of c.settle_other.new.news)
    (payloads_in c.args.gathered.now) (payloads_in c.apply_gathered.new.gathered) c.args.act c.requires.other c.in_default.ensures.none c.in_default.ensures.ok)
    c.settle_other.ensures.ok

pub returns-clause-recorded : goal.returns-clause-recorded
returns-clause-recorded g c =
    on_ok_weaker c.settle_other.result
    (recorded_behind c.args.inbox.now c.apply_gathered.new.inbox c.settle_other.new.inbox (items_of c.args.news.now) (items_of c.apply_gathered.new.news) (items_of c.settle_other.new.news)
    (payloads_in c.args.gathered.now) c.args.act c.in_default.ensures.ok)
    c.settle_other.ensures.ok

pub returns-clause-refused : goal.returns-clause-refused
returns-clause-refused g c =
    IfErr-weaker c.settle_other.result _ _
    (λ (fault : AppendFault) (r : Refused c.apply_gathered.new.inbox c.settle_other.new.inbox (items_of c.apply_gathered.new.news) (items_of c.settle_other.new.news) c.args.act fault).
    of_record c.requires.other (record { mid = c.apply_gathered.new.inbox; sooner = items_of c.apply_gathered.new.news; stands = c.in_default.ensures.ok; refused = r }))
    c.settle_other.ensures.refused

pub returns-in-Err-clause-faulty : goal.returns-in-Err-clause-faulty
returns-in-Err-clause-faulty g c = c.in-Err.ensures.refused.faulty

pub returns-clause-faulty : goal.returns-clause-faulty
returns-clause-faulty g c =
    IfErr-weaker c.settle_other.result _ _
    (λ (fault : AppendFault) (r : Refused c.apply_gathered.new.inbox c.settle_other.new.inbox (items_of c.apply_gathered.new.news) (items_of c.settle_other.new.news) c.args.act fault).
    faulty_behind c.args.inbox.now c.apply_gathered.new.inbox c.settle_other.new.inbox fault c.apply_gathered.ensures.never_falls r.faulty)
    c.settle_other.ensures.refused
