use Rattle.std.proofs.Common.{◌≡◌, ◌+◌, ◌-◌, ℕ, refl, ap, subst, ◌∙◌, arith}
use Rattle.conn_turns.specs.Lines.{Line}
use Rattle.conn_turns.proofs.Taking.{after_waits, after_number}
use Rattle.conn_turns.specs.News.{items_of}
use Rattle.conn_steps.specs.Ends.{intake, gathering_end, taking_end}
use Rattle.conn_steps.proofs.Cutting.{cut_frame}
use Rattle.conn_steps.proofs.Following.{gathered_none, gathered_more, in_turn_less, keeps_on}
use Rattle.conn_steps.proofs.Inboxes.{kind_self, kind_on}
use Rattle.conn_loop.specs.Conn.{line_of, gathered_by}
use Rattle.conn_steps.specs.Taking.{GatheredFrames}
use Rattle.conn_loop.proofs.Gathering.{agrees_none, gathered_same}
use Rattle.conn_loop.proofs.conn.Conn.gather_frames.Goals as goal

pub loop-taken-init : goal.loop-taken-init
loop-taken-init g c =
    record {
      gathered = gathered_none c.args.now (line_of c.args.self.now) c.args.inbox.now (items_of c.args.news.now) (gathered_by c.args.self.now) c.requires.none;
      in_turn = in_turn_less c.args.self.now.end c.args.now c.args.self.now.per_turn (c.args.self.now.per_turn - 0) _ (omega arith) c.requires.in_turn;
      number = refl;
      waits = refl;
      place = omega arith;
      agrees = agrees_none c.args.self.now.end c.args.inbox.now (gathered_by c.args.self.now) c.requires.none c.requires.agrees;
      own = record { config = refl; most = refl; sent = omega arith; finish = refl };
      kind = kind_self c.args.inbox.now;
      never_falls = omega arith;
    }

pub loop-taken-preserved : goal.loop-taken-preserved
loop-taken-preserved g c =
    let before = c.loop-taken.invariant in
    let one = c.in-Ok-true.ensures in
    let mid = c.loop-taken.self.end in
    let new = c.take_frame.new.self.end in
    let left = c.args.self.now.per_turn - (c.loop-taken.taken + 1) in
    let more = c.loop-taken-test.true in
    let took = one.took (cc) in
    record {
      gathered = gathered_more c.args.now c.loop-taken.taken (taking_end (line_of c.args.self.now) c.args.inbox.now (items_of c.args.news.now))
          (gathering_end (line_of c.loop-taken.self) (intake c.loop-taken.inbox (items_of c.loop-taken.news) (gathered_by c.loop-taken.self)))
          (gathering_end (line_of c.take_frame.new.self) (intake c.take_frame.new.inbox (items_of c.take_frame.new.news) (gathered_by c.take_frame.new.self))) before.gathered took;
      in_turn = in_turn_less new c.args.now left _ _ (omega arith) (one.in_turn left _ (in_turn_less mid c.args.now _ _ _ (omega (arith, more, c.from-most.ensures)) before.in_turn) (cc));
      number = ap (λ (l : Line). l.per_turn) took.line ∙ (after_number c.args.now (line_of c.loop-taken.self) took.frame ∙ before.number);
      waits = ap (λ (l : Line). l.waits) took.line ∙ (after_waits c.args.now (line_of c.loop-taken.self) took.frame ∙ before.waits);
      place = omega (arith, before.place, one.place (cc));
      agrees = one.agrees;
      own = keeps_on c.args.self.now.end mid new before.own one.own;
      kind = kind_on c.args.inbox.now c.loop-taken.inbox c.take_frame.new.inbox before.never_falls one.never_falls before.kind one.kind;
      never_falls = omega (arith, before.never_falls, one.never_falls);
    }

pub returns-in-Err-clause-cut : goal.returns-in-Err-clause-cut
returns-in-Err-clause-cut g c =
    cut_frame c.args.now c.loop-taken.taken (taking_end (line_of c.args.self.now) c.args.inbox.now (items_of c.args.news.now))
    (gathering_end (line_of c.loop-taken.self) (intake c.loop-taken.inbox (items_of c.loop-taken.news) (gathered_by c.loop-taken.self)))
    (gathering_end (line_of c.take_frame.new.self) (intake c.take_frame.new.inbox (items_of c.take_frame.new.news) (gathered_by c.take_frame.new.self))) c.in-Err.fault
    (omega (arith, c.loop-taken-test.true, c.from-most.ensures)) c.loop-taken.invariant.gathered c.in-Err.ensures.refused

pub returns-in-Ok-false-clause-gathered : goal.returns-in-Ok-false-clause-gathered
returns-in-Ok-false-clause-gathered g c =
    let none = c.in-Ok-false.ensures.none (cc) in
    gathered_same c.args.now c.loop-taken.taken (taking_end (line_of c.args.self.now) c.args.inbox.now (items_of c.args.news.now)) (line_of c.loop-taken.self) (line_of c.take_frame.new.self)
    c.loop-taken.inbox c.take_frame.new.inbox (items_of c.loop-taken.news) (items_of c.take_frame.new.news) (gathered_by c.loop-taken.self) (gathered_by c.take_frame.new.self) none.1 none.2 none.3 none.4
    c.loop-taken.invariant.gathered

pub returns-clause-gathered : goal.returns-clause-gathered
returns-clause-gathered g c =
    let all : c.loop-taken.taken ≡ c.from-most.result = omega (arith, c.loop-taken-test.false, c.loop-taken.auto.taken-end) in
    subst (λ (n : ℕ). GatheredFrames c.args.now n (taking_end (line_of c.args.self.now) c.args.inbox.now (items_of c.args.news.now))
    (gathering_end (line_of c.loop-taken.self) (intake c.loop-taken.inbox (items_of c.loop-taken.news) (gathered_by c.loop-taken.self)))) all c.loop-taken.invariant.gathered
