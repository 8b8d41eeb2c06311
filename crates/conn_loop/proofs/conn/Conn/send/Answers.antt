use Rattle.std.proofs.Common.{◌≡◌, ◌≤◌, ◌==◌, not, ◌++◌, [], ℕ, List, length, take, drop, true, false, Ok, refl, sym, ap, subst, ◌∙◌, arith, length-drop, take-append-drop, true≢false}
use Rattle.std.proofs.lemmas.List.{length-take-le}
use Rattle.gw_links.specs.Links.{Moved}
use Rattle.fixp_machine.specs.Machine.{State}
use Rattle.conn_turns.specs.declared.answer.TurnEnd.{TurnEnd}
use Rattle.conn_steps.proofs.Following.{line_is}
use Rattle.conn_loop.proofs.Machine.{link_keeps}
use Rattle.conn_loop.proofs.conn.Conn.send.Goals as goal

pub returns-in-Ok-clause-sent : goal.returns-in-Ok-clause-sent
returns-in-Ok-clause-sent g c =
    let m = c.args.self.now.end in
    let u = m.unsent in
    let n = c.in-Ok.count in
    let long : length c.out.result.now ≡ length u = ap (λ (bytes : List ℕ). length bytes) c.out.ensures in
    let within : n ≤ length u = omega (arith, c.in-Ok.ensures.count, long) in
    let rest : c.taken.new.self.unsent ≡ drop n u = ap (λ (s : State). s.unsent) c.taken.ensures in
    record {
      sent = take n u;
      lost = false;
      front = (drop n u, take-append-drop n u);
      line = line_is _ _ (c.taken.ensures ∙ ap (λ (k : ℕ). record m { unsent = drop k u }) (sym (length-take-le n u within))) refl refl refl refl
          (c.has_unsent-self.ensures ∙ ap (λ (s : State). not (length s.unsent == 0)) (c.taken.ensures ∙ ap (λ (k : ℕ). record m { unsent = drop k u }) (sym (length-take-le n u within)))) refl;
      whole = λ _. sym (take-append-drop n u) ∙ ap (λ (bytes : List ℕ). take n u ++ bytes) (sym rest);
      full = λ _ some. c.in-Ok.ensures.full (omega (arith, some, ap (λ (bytes : List ℕ). length bytes) rest, length-drop n u, long));
      answer = λ e. absurd (true≢false (sym e));
      cause = λ e. absurd (true≢false (sym e));
      kept = λ _. ap (λ (end : TurnEnd). Ok end) c.answer.ensures;
      moved = subst (λ (bytes : List ℕ). Moved (g.L.Link.told c.args.link.now) (g.L.Link.told c.send_front.new.link) (g.L.Link.carried c.args.link.now) (g.L.Link.carried c.send_front.new.link) [] (take n bytes)) c.out.ensures c.in-Ok.ensures.moves;
    }

pub returns-in-Err-clause-sent : goal.returns-in-Err-clause-sent
returns-in-Err-clause-sent g c =
    let u = c.args.self.now.end.unsent in
    let took = c.in-Err.ensures.front in
    record {
      sent = take took.count u;
      lost = true;
      front = (drop took.count u, take-append-drop took.count u);
      line = c.lose_link.ensures.line ∙ line_is _ _ refl refl refl refl refl (c.has_unsent-self-in-Err.ensures ∙ ap (λ (bytes : List ℕ). not (length bytes == 0)) (sym (link_keeps c.args.self.now.end).0)) refl;
      whole = λ e. absurd (true≢false e);
      full = λ e. absurd (true≢false e);
      answer = λ _. c.lose_link.ensures.answer;
      cause = λ _. c.in-Err.ensures.cause.risen;
      kept = λ e. absurd (true≢false e);
      moved = subst (λ (bytes : List ℕ). Moved (g.L.Link.told c.args.link.now) (g.L.Link.told c.send_front.new.link) (g.L.Link.carried c.args.link.now) (g.L.Link.carried c.send_front.new.link) [] (take took.count bytes)) c.out.ensures took.moved;
    }
