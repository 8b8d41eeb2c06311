use Rattle.std.proofs.Common.{rules, ◌≡◌, ◌⊎◌, ◌<◌, ◌++◌, All, true, false, sym, ap, ◌∙◌, subst, arith, inl, inr, Err, Ok}
use Rattle.gate_staff.specs.Business.{lock_of, Answered, ShownByOne}
use Rattle.gate_senders.specs.Gate.{senders_of}
use Rattle.order_desk.specs.Plans.{desk_plan}
use Rattle.order_gate.specs.Desks.{IsAnswer, HasNone, part_in}
use Rattle.order_gate.proofs.Settling.{plan_same, own_any, all_stay, finish_stay, idle, ok_answered, ok_stands, err_shown, err_answered, err_own, err_stands, finish_answered, finish_refused, finish_stands}
use Rattle.order_gate.proofs.desks.DesksBusiness.settle.Goals as goal
use Rattle.order_gate.proofs.desks.DesksBusiness.settle.Goals.{then-self-via-then-self, then-self-via-else-self+then-not-self, else-finished-via-then-finished+else-self-gt0, else-finished-via-else-finished}

pub returns-then-self-clause-own : goal.returns-then-self-clause-own
returns-then-self-clause-own g c = λ before has few again.
    let same = again.took_back.same in
    (own_any (lock_of c.args.gate.now) (senders_of c.args.gate.now) c.args._payloads.now before c.args.self.now has again, same.desks, plan_same before.desks c.args.self.now.desks before.version c.args.self.now.version before.reference c.args.self.now.reference same.desks same.version same.reference)

pub returns-then-self-clause-stays : goal.returns-then-self-clause-stays
returns-then-self-clause-stays g c = λ before has few again. all_stay (lock_of c.args.gate.now) (senders_of c.args.gate.now) c.args._payloads.now before c.args.self.now has again

pub returns-then-self-clause-answered : goal.returns-then-self-clause-answered
returns-then-self-clause-answered g c = λ before has few again l st.
    let either : (c.args.self.now.met ≡ true) ⊎ (c.args.self.now.counted ≡ false) =
    elim c.then-self.branch [ then-self-via-then-self w ↦ inl (search (rules, w.if-self.true)) | then-self-via-else-self+then-not-self w ↦ inr (search (rules, w.if-not-self.true)) ] in
    idle (lock_of c.args.gate.now) (senders_of c.args.gate.now) c.args._payloads.now before c.args.self.now has again either l st (λ n. desk_plan before.desks before.version before.reference n (l ++ c.args._payloads.now)) c.args.finished

pub returns-in-Err-clause-own : goal.returns-in-Err-clause-own
returns-in-Err-clause-own g c = λ before has few again.
    let same = again.took_back.same in
    let counted : c.args.self.now.counted ≡ true = search (rules, c.if-not-self.false) in
    let unmet : c.args.self.now.met ≡ false = search (rules, c.if-self.false) in
    let answer : IsAnswer c.args.self.now.hands.items (Err c.in-Err.fault) = subst (λ xs. IsAnswer xs (Err c.in-Err.fault)) c.as_slice.ensures.value c.in-Err.ensures.answer in
    (err_own (lock_of c.args.gate.now) (senders_of c.args.gate.now) c.args._payloads.now before c.args.self.now has again counted unmet c.in-Err.fault answer c.is_closed-self.result c.is_closed-self.ensures.0, same.desks, plan_same before.desks c.args.self.now.desks before.version c.args.self.now.version before.reference c.args.self.now.reference same.desks same.version same.reference)

pub returns-in-Err-clause-stays : goal.returns-in-Err-clause-stays
returns-in-Err-clause-stays g c = λ before has few again. all_stay (lock_of c.args.gate.now) (senders_of c.args.gate.now) c.args._payloads.now before c.args.self.now has again

pub returns-in-Err-clause-answered : goal.returns-in-Err-clause-answered
returns-in-Err-clause-answered g c = λ before has few again l st.
    let counted : c.args.self.now.counted ≡ true = search (rules, c.if-not-self.false) in
    let unmet : c.args.self.now.met ≡ false = search (rules, c.if-self.false) in
    let answer : IsAnswer c.args.self.now.hands.items (Err c.in-Err.fault) = subst (λ xs. IsAnswer xs (Err c.in-Err.fault)) c.as_slice.ensures.value c.in-Err.ensures.answer in
    err_answered (lock_of c.args.gate.now) (senders_of c.args.gate.now) c.args._payloads.now before c.args.self.now has again counted unmet c.in-Err.fault answer l st c.args.finished

pub returns-in-Err-clause-refused : goal.returns-in-Err-clause-refused
returns-in-Err-clause-refused g c = λ before has few again f is ne.
    let counted : c.args.self.now.counted ≡ true = search (rules, c.if-not-self.false) in
    let unmet : c.args.self.now.met ≡ false = search (rules, c.if-self.false) in
    let answer : IsAnswer c.args.self.now.hands.items (Err c.in-Err.fault) = subst (λ xs. IsAnswer xs (Err c.in-Err.fault)) c.as_slice.ensures.value c.in-Err.ensures.answer in
    subst (λ x. ShownByOne before.desks (λ n. part_in before.hands.items n) (λ n. part_in c.args.self.now.hands.items n) x) (cc is) (err_shown (lock_of c.args.gate.now) (senders_of c.args.gate.now) c.args._payloads.now before c.args.self.now has again counted unmet c.in-Err.fault answer (λ x. ne (sym (cc is) ∙ x)))

pub returns-in-Err-clause-stands : goal.returns-in-Err-clause-stands
returns-in-Err-clause-stands g c = λ before has few again l st.
    let counted : c.args.self.now.counted ≡ true = search (rules, c.if-not-self.false) in
    let unmet : c.args.self.now.met ≡ false = search (rules, c.if-self.false) in
    let answer : IsAnswer c.args.self.now.hands.items (Err c.in-Err.fault) = subst (λ xs. IsAnswer xs (Err c.in-Err.fault)) c.as_slice.ensures.value c.in-Err.ensures.answer in
    err_stands (lock_of c.args.gate.now) (senders_of c.args.gate.now) c.args._payloads.now before c.args.self.now has again counted unmet c.in-Err.fault answer c.is_closed-self.result c.is_closed-self.ensures.1 (l ++ c.args._payloads.now)

pub finish-requires-clause-own : goal.finish-requires-clause-own
finish-requires-clause-own g c = let r = c.requires.again in own_any (lock_of c.args.gate.now) (senders_of c.args.gate.now) c.args._payloads.now r.0 c.args.self.now r.1 r.3

pub returns-then-self-gt0-clause-own : goal.returns-then-self-gt0-clause-own
returns-then-self-gt0-clause-own g c = λ before has few again.
    let same = again.took_back.same in
    let e = c.finish.ensures.same in
    (c.finish.ensures.own, e.desks ∙ same.desks, plan_same before.desks c.finish.new.self.desks before.version c.finish.new.self.version before.reference c.finish.new.self.reference (e.desks ∙ same.desks) (e.version ∙ same.version) (e.reference ∙ same.reference))

pub returns-then-self-gt0-clause-stays : goal.returns-then-self-gt0-clause-stays
returns-then-self-gt0-clause-stays g c = λ before has few again.
    let counted : c.args.self.now.counted ≡ true = search (rules, c.if-not-self.false) in
    let unmet : c.args.self.now.met ≡ false = search (rules, c.if-self.false) in
    let none : All HasNone c.args.self.now.hands.items = subst (λ xs. All HasNone xs) c.as_slice.ensures.value c.in_default.ensures.answer.none in
    let some : 0 < before.desks = omega (arith, c.if-self-gt0.true, again.took_back.same.desks) in
    finish_stay (lock_of c.args.gate.now) (senders_of c.args.gate.now) c.args._payloads.now before c.args.self.now has again counted unmet c.finish.new.self c.finish.result none some c.finish.ensures.finished c.finish.ensures.others

pub returns-then-self-gt0-clause-answered : goal.returns-then-self-gt0-clause-answered
returns-then-self-gt0-clause-answered g c = λ before has few again l st.
    let counted : c.args.self.now.counted ≡ true = search (rules, c.if-not-self.false) in
    let unmet : c.args.self.now.met ≡ false = search (rules, c.if-self.false) in
    let none : All HasNone c.args.self.now.hands.items = subst (λ xs. All HasNone xs) c.as_slice.ensures.value c.in_default.ensures.answer.none in
    let some : 0 < before.desks = omega (arith, c.if-self-gt0.true, again.took_back.same.desks) in
    subst (λ f. Answered (λ n. desk_plan before.desks before.version before.reference n (l ++ c.args._payloads.now)) before.desks (λ n. part_in before.hands.items n) (λ n. part_in c.finish.new.self.hands.items n) f c.finish.result) (sym c.if-finished.true)
    (finish_answered (lock_of c.args.gate.now) (senders_of c.args.gate.now) c.args._payloads.now before c.args.self.now has again counted unmet c.finish.new.self c.finish.result none some c.finish.ensures.finished c.finish.ensures.others l st)

pub returns-then-self-gt0-clause-refused : goal.returns-then-self-gt0-clause-refused
returns-then-self-gt0-clause-refused g c = λ before has few again f is ne.
    let counted : c.args.self.now.counted ≡ true = search (rules, c.if-not-self.false) in
    let unmet : c.args.self.now.met ≡ false = search (rules, c.if-self.false) in
    let none : All HasNone c.args.self.now.hands.items = subst (λ xs. All HasNone xs) c.as_slice.ensures.value c.in_default.ensures.answer.none in
    let some : 0 < before.desks = omega (arith, c.if-self-gt0.true, again.took_back.same.desks) in
    finish_refused (lock_of c.args.gate.now) (senders_of c.args.gate.now) c.args._payloads.now before c.args.self.now has again counted unmet c.finish.new.self c.finish.result none some c.finish.ensures.finished c.finish.ensures.others f is

pub returns-then-self-gt0-clause-stands : goal.returns-then-self-gt0-clause-stands
returns-then-self-gt0-clause-stands g c = λ before has few again l st.
    let counted : c.args.self.now.counted ≡ true = search (rules, c.if-not-self.false) in
    let unmet : c.args.self.now.met ≡ false = search (rules, c.if-self.false) in
    let none : All HasNone c.args.self.now.hands.items = subst (λ xs. All HasNone xs) c.as_slice.ensures.value c.in_default.ensures.answer.none in
    let some : 0 < before.desks = omega (arith, c.if-self-gt0.true, again.took_back.same.desks) in
    finish_stands (lock_of c.args.gate.now) (senders_of c.args.gate.now) c.args._payloads.now before c.args.self.now has again counted unmet c.finish.new.self c.finish.result none some c.finish.ensures.finished c.finish.ensures.others (c.finish.ensures.same.counted ∙ counted) c.finish.ensures.met (l ++ c.args._payloads.now)

pub returns-else-finished-clause-own : goal.returns-else-finished-clause-own
returns-else-finished-clause-own g c = λ before has few again.
    let same = again.took_back.same in
    (own_any (lock_of c.args.gate.now) (senders_of c.args.gate.now) c.args._payloads.now before c.args.self.now has again, same.desks, plan_same before.desks c.args.self.now.desks before.version c.args.self.now.version before.reference c.args.self.now.reference same.desks same.version same.reference)

pub returns-else-finished-clause-stays : goal.returns-else-finished-clause-stays
returns-else-finished-clause-stays g c = λ before has few again. all_stay (lock_of c.args.gate.now) (senders_of c.args.gate.now) c.args._payloads.now before c.args.self.now has again

pub returns-else-finished-clause-stands : goal.returns-else-finished-clause-stands
returns-else-finished-clause-stands g c = λ before has few again l st.
    let counted : c.args.self.now.counted ≡ true = search (rules, c.if-not-self.false) in
    let unmet : c.args.self.now.met ≡ false = search (rules, c.if-self.false) in
    let none : All HasNone c.args.self.now.hands.items = subst (λ xs. All HasNone xs) c.as_slice.ensures.value c.in_default.ensures.answer.none in
    ok_stands (lock_of c.args.gate.now) (senders_of c.args.gate.now) c.args._payloads.now before c.args.self.now has again counted unmet none l st

pub returns-else-finished-clause-answered : goal.returns-else-finished-clause-answered
returns-else-finished-clause-answered g c = λ before has few again l st.
    let counted : c.args.self.now.counted ≡ true = search (rules, c.if-not-self.false) in
    let unmet : c.args.self.now.met ≡ false = search (rules, c.if-self.false) in
    let none : All HasNone c.args.self.now.hands.items = subst (λ xs. All HasNone xs) c.as_slice.ensures.value c.in_default.ensures.answer.none in
    ok_answered (lock_of c.args.gate.now) (senders_of c.args.gate.now) c.args._payloads.now before c.args.self.now has again counted unmet none l st c.args.finished
    (λ some done. elim c.else-finished.branch [ else-finished-via-then-finished+else-self-gt0 w ↦ omega (arith, w.if-self-gt0.false, some, again.took_back.same.desks) | else-finished-via-else-finished w ↦ cc (w.if-finished.false, done) ])
