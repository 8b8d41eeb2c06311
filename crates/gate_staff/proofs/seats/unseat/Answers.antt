use Rattle.std.proofs.Common.{◌≡◌, ◌+◌, [], ◌∷◌, length, slice_index_or, Some, sym, ap, ◌∙◌, subst, arith}
use Rattle.std.proofs.lemmas.List.{get_or_append_left, get_or_push}
use mathlib.Core.Logic.{dite}
use native.Mathlib.Decide.{ℕ_discrete}
use Rattle.gate_turn.specs.Listed.{pass_at}
use Rattle.std.specs.Prelude.{vec_len}
use Rattle.gate_staff.specs.Seats.{Seated, HasBehind}
use Rattle.gate_staff.proofs.Seating.{put_back, all_back, last_seated}
use Rattle.gate_staff.proofs.seats.unseat.Goals as goal

pub loop-preserved : goal.loop-preserved
loop-preserved g c =
    let at = c.loop.invariant in
    let made = vec_len c.args.senders + 1 in
    let rest = c.pop.new.self in
    let s = c.in-Some.sender in
    let last = last_seated c.args.gate.now made rest.items s (subst (λ xs. Seated c.args.gate.now xs made) c.in-Some.ensures.items at.seated) in
    let long : length rest.items ≡ vec_len rest = sym rest.ok.0 in
    let fewer : vec_len c.loop.senders ≡ vec_len rest + 1 = omega (arith, c.in-Some.ensures.cases) in
    record {
      left = omega (arith, at.left, fewer);
      seated = last.others;
      behind = put_back c.args.gate.now made c.loop.passes c.give.new.self (vec_len rest) s.pass (omega (arith, at.left, fewer)) (omega (arith, s.pass.numbered, last.number, long))
          last.ready.own.own last.ready.free (λ e. last.first (long ∙ e)) c.give.ensures.there c.give.ensures.others
          (subst (λ k. HasBehind c.args.gate.now c.loop.passes k made) fewer at.behind);
      same = λ i d lt. at.same i d (omega (arith, lt, fewer)) ∙ ap (λ senders. slice_index_or senders i d) c.in-Some.ensures.items
          ∙ get_or_append_left rest.items (s ∷ []) d i (omega (arith, lt, long));
      theirs = λ i d least lt. dite (ℕ_discrete i (vec_len rest))
          (λ e. ap (pass_at c.give.new.self) (omega (arith, e, s.pass.numbered, last.number, long)) ∙ c.give.ensures.there
          ∙ ap (λ t. Some t.pass) (sym (at.same i d (omega (arith, e, fewer)) ∙ ap (λ senders. slice_index_or senders i d) c.in-Some.ensures.items ∙ get_or_push rest.items s d i (long ∙ sym e))))
          (λ ne. c.give.ensures.others (i + 1) (λ e. omega (arith, e, ne, s.pass.numbered, last.number, long)) ∙ at.theirs i d (omega (arith, least, ne, fewer)) lt);
      others = λ n lt. c.give.ensures.others n (λ e. omega (arith, e, lt, at.left, fewer, s.pass.numbered, last.number, long)) ∙ at.others n lt;
    }

pub returns : goal.returns
returns g c =
    let at = c.loop.invariant in
    let made = vec_len c.args.senders + 1 in
    let none : vec_len c.loop.senders ≡ 0 = omega (arith, at.left, c.loop-test.false, c.len-end.ensures) in
    let long : length c.args.senders.items ≡ vec_len c.args.senders = sym c.args.senders.ok.0 in
    record {
      theirs = record {
        theirs = λ i d lt. at.theirs i d (omega (arith, none)) (omega (arith, lt, long));
        others = λ n lt. at.others n (omega (arith, lt, long));
      };
      back = all_back c.args.gate.now made c.loop.passes (omega arith) (omega (arith, c.requires.few)) (subst (λ k. HasBehind c.args.gate.now c.loop.passes k made) none at.behind);
    }
