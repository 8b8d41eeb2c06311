use Rattle.std.proofs.Common.{◌≡◌, ◌+◌, Err, sym, ap, ◌∙◌, subst, arith, length}
use Rattle.std.specs.List.{HoldsAt}
use Rattle.std.proofs.lemmas.List.{get_or_default}
use Rattle.gate_staff.proofs.Lowest.{IsLowestUpTo, lowest_of, lowest_past, lowest_new, lowest_kept, lowest_same}
use Rattle.gate_staff.proofs.run.lowest_refusal.Goals as goal
use Rattle.gate_staff.proofs.run.lowest_refusal.Goals.{in-Some+then-number-least, in-Some+else-number-least, in_default}

pub loop-sender-preserved : goal.loop-sender-preserved
loop-sender-preserved g c =
    let senders = c.args.senders.now in
    let i = c.loop-sender.sender-index in
    let s = c.sender-item.result in
    let least = c.loop-sender.least in
    let answer = c.loop-sender.answer in
    let inside = c.loop-sender-test.true in
    let before : IsLowestUpTo senders i least answer = c.loop-sender.invariant in
    let here : HoldsAt (λ t. t ≡ s) senders i = λ d. get_or_default senders i d s inside ∙ sym c.sender-item.is in
    elim c.match-sender.branch [
      | in-Some+then-number-least w ↦
          lowest_same senders (i + 1) c.match-sender.least w.number-number.result c.match-sender.answer (Err w.in-Some.fault) w.least-is w.answer-is
          (lowest_new senders i least w.number-number.result answer s w.in-Some.fault inside here w.in-Some.is w.number-number.ensures.exact w.if-number-least.true before)
      | in-Some+else-number-least w ↦
          lowest_same senders (i + 1) c.match-sender.least least c.match-sender.answer answer w.least-is w.answer-is
          (lowest_kept senders i least answer s here (omega (arith, w.number-number.ensures.exact, w.if-number-least.false)) (omega (arith, w.number-number.ensures.exact, w.number-number.ensures.in_range.1)) before)
      | in_default w ↦
          lowest_same senders (i + 1) c.match-sender.least least c.match-sender.answer answer w.least-is w.answer-is
          (lowest_past senders i least answer (λ d. ap (λ t. t.refused) (here d) ∙ w.in_default.is) before)
    ]

pub returns : goal.returns
returns g c =
    let senders = c.args.senders.now in
    let end : c.loop-sender.sender-index ≡ length senders = omega (arith, c.loop-sender-test.false, c.loop-sender.auto.sender-index-end) in
    record { lowest = lowest_of senders c.loop-sender.least c.loop-sender.answer (subst (λ k. IsLowestUpTo senders k c.loop-sender.least c.loop-sender.answer) end c.loop-sender.invariant) }
