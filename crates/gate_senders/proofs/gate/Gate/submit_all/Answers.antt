use Rattle.std.proofs.Common.{rules}
use Rattle.gate_turn.specs.Places.{known}
use Rattle.gate_senders.specs.Told.{told_by}
use Rattle.gate_senders.proofs.Piecing.{Did, returns_all, turn_all, ended_all, submits_all, number_all, unmarked_all, closed_all, unlost_all, loses_all, full_all, fails, breaks}
use Rattle.gate_senders.proofs.gate.Gate.submit_all.Goals as goal

pub leave-requires-clause-returns : goal.leave-requires-clause-returns
leave-requires-clause-returns g c =
    let p = known c.args.pass.now in
    let q = known c.enter-value.new.pass in
    let a = told_by c.enter-value.result.value in
    let b = told_by c.add_all-answer.new.self in
    let e = c.add_all-answer.ensures in
    let did : Did a b c.number.result c.args.payloads.now c.add_all-answer.result = record {
      within = e.within;
      added = e.added;
      number = e.number;
      opened = e.opened;
      none = e.none;
      sound = e.sound;
      full = e.full;
      kept = e.kept;
      lost = e.lost;
    } in
    returns_all p q a b c.number.result c.args.payloads.now c.add_all-answer.result c.enter-value.ensures.entered c.number.ensures.exact did

pub returns : goal.returns
returns g c =
    let p = known c.args.pass.now in
    let q = known c.enter-value.new.pass in
    let last = known c.leave.new.pass in
    let a = told_by c.enter-value.result.value in
    let b = told_by c.add_all-answer.new.self in
    let e = c.add_all-answer.ensures in
    let n = c.number.result in
    let ps = c.args.payloads.now in
    let s = c.add_all-answer.result in
    let entered = c.enter-value.ensures.entered in
    let same = c.number.ensures.exact in
    let is = c.leave.ensures.left in
    let did : Did a b n ps s = record {
      within = e.within;
      added = e.added;
      number = e.number;
      opened = e.opened;
      none = e.none;
      sound = e.sound;
      full = e.full;
      kept = e.kept;
      lost = e.lost;
    } in
    record {
      own = search rules;
      free = c.leave.ensures.free;
      turn = turn_all p q a b n ps s entered same did last is;
      within = e.within;
      added = submits_all p q a b n ps s entered same did last is;
      number = number_all p q a b n ps s entered same did last is;
      whole = e.whole;
      unmarked = λ r m. unmarked_all p q a b n ps s entered same did last is m (e.unmarked r);
      none = e.none;
      ended = ended_all p q a b n ps s entered same did last is;
      closed = λ r. closed_all p q a b n ps s entered same did last is (e.closed r);
      full = full_all p q a b n ps s entered same did last is;
      fault = λ r. fails p q a b n ps s entered same did last is (e.fault r);
      broken = λ r. breaks p q a b n ps s entered same did last is (e.broken r);
      refuses = λ r. e.stuck (entered.found.shut_on r).0;
      lost = loses_all p q a b n ps s entered same did last is;
      unlost = unlost_all p q a b n ps s entered same did last is;
      unended = λ r m. unmarked_all p q a b n ps s entered same did last is m (e.unended r);
    }
