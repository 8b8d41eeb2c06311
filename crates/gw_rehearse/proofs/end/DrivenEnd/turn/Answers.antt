use Rattle.std.proofs.Common.{◌||◌, refl, sym, ap, ◌∙◌, arith, true≢false}
use Rattle.conn_loop.specs.declared.conn.Conn.{Conn}
use Rattle.conn_loop.specs.Conn.{line_of}
use Rattle.gw_rehearse.specs.declared.end.DrivenEnd.{DrivenEnd}
use Rattle.gw_rehearse.specs.Driven.{is_finished}
use Rattle.gw_rehearse.proofs.Stories.{turned, unturned, answered_on, answered_sound}
use Rattle.gw_rehearse.proofs.Making.{made_its}
use Rattle.gw_rehearse.proofs.end.DrivenEnd.turn.Goals as goal

pub returns-in_default : goal.returns-in_default
returns-in_default g c = record {
  driven = c.requires.driven;
  flow = refl;
  sound = λ e. e;
  turned = record { goes = λ b past leg first k sound. unturned b past leg c.args.self.now _ k };
  made = λ going. absurd (c.in_default.not-Open going);
  rests = λ _. (refl, refl);
  finished = λ given going. absurd (c.in_default.not-Open going);
  clock = refl;
  never_falls = omega arith;
  place = refl;
}

pub returns-then-self-ge-TURNS-clause-turned : goal.returns-then-self-ge-TURNS-clause-turned
returns-then-self-ge-TURNS-clause-turned g c = record { goes = λ b past leg first k sound. absurd (true≢false sound) }

pub returns-then-self-ge-TURNS-clause-made : goal.returns-then-self-ge-TURNS-clause-made
returns-then-self-ge-TURNS-clause-made g c = λ going given failed. absurd (true≢false given)

pub returns-then-self-ge-TURNS-clause-rests : goal.returns-then-self-ge-TURNS-clause-rests
returns-then-self-ge-TURNS-clause-rests g c = λ closed. absurd (closed c.in-Open.is)

pub returns-then-self-ge-TURNS-clause-finished : goal.returns-then-self-ge-TURNS-clause-finished
returns-then-self-ge-TURNS-clause-finished g c = λ given going. absurd (true≢false given)

pub returns-clause-turned : goal.returns-clause-turned
returns-clause-turned g c = record {
  goes = λ b past leg first k sound.
      let answered = c.answer.ensures.answered in
      let sees = c.see_end.ensures.answered in
      let whole = answered_sound _ _ sees sound in
      answered_on b past leg _ _ _ _ sees first sound
      (answered_on b past leg _ _ _ _ answered first whole
      (turned b past leg c.args.self.now _ _ _ _ _ _ _ _ _ _ first refl c.in-Open.is (c.requires.driven.1.turns c.in-Open.is).goes.unended c.make_turn-self.ensures.looks k (answered_sound _ _ answered whole) c.make_turn-self.ensures.turned));
}

pub returns-clause-made : goal.returns-clause-made
returns-clause-made g c = λ going given failed.
    let t = c.make_turn-self.ensures in
    made_its _ _ _ _ c.args.self.now _ _ _ _ _ _ _ _ t.clock c.answer.ensures.answered c.see_end.ensures.answered given failed t.turned t.sent

pub returns-clause-rests : goal.returns-clause-rests
returns-clause-rests g c = λ closed. absurd (closed c.in-Open.is)

pub returns-clause-finished : goal.returns-clause-finished
returns-clause-finished g c = λ given going.
    let answered = c.answer.ensures.answered.same in
    let sees = c.see_end.ensures.answered.same in
    let conn = ap (λ (x : DrivenEnd). x.conn) sees ∙ ap (λ (x : DrivenEnd). x.conn) answered in
    ap (λ (x : DrivenEnd). x.finished) sees ∙ (ap (λ (x : DrivenEnd). x.finished) answered ∙ (c.has_ended_finished-self.ensures
    ∙ ap (λ (k : Conn). c.args.self.now.finished || is_finished (line_of k).machine.ending) (sym conn)))
