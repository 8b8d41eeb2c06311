use Rattle.std.proofs.Common.{◌≡◌, ◌∷◌, [], ◌++◌, Bool, sym, ap, ◌∙◌}
use Rattle.fixp_machine.specs.Machine.{State, turn_done, run}
use Rattle.conn_turns.specs.Lines.{Line}
use Rattle.conn_turns.specs.Frames.{unframed_at, is_link_over}
use Rattle.conn_turns.specs.Turns.{bad_calls, end_calls}
use Rattle.conn_turns.proofs.Taking.{run_append}
use Rattle.conn_steps.proofs.Following.{line_is}
use Rattle.conn_loop.specs.Conn.{line_of}
use Rattle.conn_loop.proofs.Machine.{turn_keeps, turn_drained}
use Rattle.conn_loop.proofs.conn.Conn.close_frames.Goals as goal

pub returns-clause-closed : goal.returns-clause-closed
returns-clause-closed c =
    let m = c.args.self.now.end in
    let now = c.args.now in
    let bad = bad_calls now (unframed_at c.args.taken (line_of c.args.self.now)) in
    let over = end_calls (is_link_over (line_of c.args.self.now)) in
    let told = c.tell_bad.ensures.told in
    let ended = c.tell_end.ensures.told in
    let here : c.tell_bad.new.self.end ≡ run m bad = ap (λ (l : Line). l.machine) told in
    let there : c.tell_end.new.self.end ≡ run (run m bad) over
    = ap (λ (l : Line). l.machine) ended ∙ (ap (λ (b : Bool). run c.tell_bad.new.self.end (end_calls b)) (ap is_link_over told) ∙ ap (λ (s : State). run s over) here) in
    line_is _ _
    (c.turn_done.ensures.turn ∙ (ap (λ (s : State). run s (turn_done now ∷ [])) there
    ∙ (sym (run_append (run m bad) over (turn_done now ∷ [])) ∙ sym (run_append m bad (over ++ turn_done now ∷ [])))))
    (ap (λ (l : Line). l.held) ended ∙ ap (λ (l : Line). l.held) told)
    (ap (λ (l : Line). l.place) ended ∙ ap (λ (l : Line). l.place) told)
    (ap (λ (l : Line). l.over) ended ∙ ap (λ (l : Line). l.over) told)
    (ap (λ (l : Line). l.serves) ended ∙ ap (λ (l : Line). l.serves) told)
    (ap (λ (l : Line). l.waits) ended ∙ ap (λ (l : Line). l.waits) told)
    (ap (λ (l : Line). l.per_turn) ended ∙ ap (λ (l : Line). l.per_turn) told)

pub returns-clause-told : goal.returns-clause-told
returns-clause-told c = λ goes. c.turn_done.ensures.told (sym (ap (λ (s : State). s.ending) c.turn_done.ensures.turn ∙ turn_keeps c.tell_end.new.self.end c.args.now) ∙ goes)

pub returns-clause-drained : goal.returns-clause-drained
returns-clause-drained c =
    let d = c.turn_done.ensures in
    turn_drained c.tell_end.new.self.end c.turn_done.new.self c.args.now d.turn d.recorded (c.tell_end.ensures.keeps.drained (c.tell_bad.ensures.keeps.drained c.requires.in_turn.drained))
