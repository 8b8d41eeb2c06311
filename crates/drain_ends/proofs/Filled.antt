-- What an end asked for begins where its inbox waits, and what comes in ends where that does: over any steps, whatever the other end does.
use Rattle.std.proofs.Common.{◌≡◌, ℕ, false, List, [], ◌∷◌, None, refl, sym, ap, subst, ◌∙◌}
use Rattle.std.specs.List.{AllByRecursion}
use Rattle.session_model.specs.Journal.{Entry}
use Rattle.flow_retrans.specs.declared.request.Request.{Request}
use Rattle.flow_retrans.specs.declared.request.Request.TheVariants as requests
use Rattle.fixp_shake.specs.Phases.{is_closing}
use Rattle.fixp_replies.specs.declared.facts.Facts.{Facts}
use Rattle.fixp_replies.specs.Facts.{Around, is_initiator}
use Rattle.fixp_replies.specs.Outcomes.{Outcome}
use Rattle.fixp_replies.specs.Replies.{reply_of}
use Rattle.fixp_machine.specs.Machine.{State, Call, around, run, step}
use Rattle.connection_laws.specs.Writing.{Piece}
use Rattle.connection_laws.specs.Standing.{MayStand}
use Rattle.two_ends.specs.Reading.{incoming_of}
use Rattle.honest_ends.specs.Worlds.{World, Step, meets, initiator_reads, acceptor_reads, initiator_does, acceptor_does, reading, written, initiator_read, acceptor_read, after, world_after, IsOther, MayRead, MayStep, AllMayStep}
use Rattle.honest_ends.specs.Knowing.{StartsKnown}
use Rattle.honest_ends.specs.Numbers.{Answers}
use Rattle.honest_ends.specs.Numbered.{Follows}
use Rattle.honest_ends.proofs.Serving.{was_none}
use Rattle.honest_ends.proofs.Moving.{Reads, reads_as, Does, does_as}
use Rattle.honest_ends.proofs.Past.{Lies}
use Rattle.honest_ends.proofs.Numbering.{Counted, counted_step, counted_at_first, numbered_of}
use Rattle.drain_laws.specs.Frames.{Fills}
use Rattle.drain_laws.specs.Evens.{StaysEven}
use Rattle.drain_laws.proofs.Evened.{fills_stay}
use Rattle.drain_ends.proofs.Stood.{acceptor_phase, comes_by, is_answer, yet_before, stays_even, begins_filled}

abbrev FillsIn : Facts → Type 0
FillsIn f = Fills f.connection.receiver.next f.connection.requester

-- so it is at each end whose connection goes on, and which has not begun to close it
pub record Filled (w : World) : Type 0 where
  pub initiator : w.initiator.ending ≡ None → is_closing w.initiator.facts.connection.phase ≡ false → Fills w.initiator.facts.connection.receiver.next w.initiator.facts.connection.requester
  pub acceptor : w.acceptor.ending ≡ None → Fills w.acceptor.facts.connection.receiver.next w.acceptor.facts.connection.requester

-- an end reads
read_filled : (h : List Entry) (writer s : State) (p : Piece) (left back : List Piece) (at now : ℕ) → Follows h writer s (p ∷ left) back → s.ending ≡ None → is_closing s.facts.connection.phase ≡ false → FillsIn s.facts
    → (run s (reading p at now)).ending ≡ None → FillsIn (run s (reading p at now)).facts
read_filled h writer s p left back at now f going yet fills none =
    subst FillsIn (sym rd.facts)
    (fills_stay (around s at now) s.facts (incoming_of p) fills (comes_by h writer s (p ∷ left) back f going yet) (is_answer s.facts p (f.expects going yet).answers.0) (sym rd.ending ∙ none))
  where
    rd : Reads s (incoming_of p) (reply_of (around s at now) s.facts (incoming_of p)) (run s (reading p at now)) (written s (reading p at now))
    rd = reads_as s p at now

-- and does
call_filled : (h : List Entry) (s : State) (call : Call) → IsOther h call → Lies s.facts s.held → FillsIn s.facts → (step s call).ending ≡ None → is_closing (step s call).facts.connection.phase ≡ false → FillsIn (step s call).facts
call_filled h s call other lies fills none yet = (stays_even h s call other none yet).fills lies.coming fills

initiator_reading : (hi ha : List Entry) (w : World) (way : List Piece) (at now : ℕ) → w.homeward ≡ way → Counted hi ha w → MayRead w.initiator → Filled w → Filled (initiator_read w way at now)
initiator_reading hi ha w [] at now e n may b = b
initiator_reading hi ha w (p ∷ left) at now e n may b = record {
  initiator = λ none yet.
      (let s = w.initiator in
      let rd = reads_as s p at now in
      let before = yet_before (around s at now) s.facts p (ap (λ (f : Facts). is_closing f.connection.phase) (sym rd.facts) ∙ yet) in
      read_filled ha w.acceptor s p left w.outward at now (subst (λ (ps : List Piece). Follows ha w.acceptor s ps w.outward) e (numbered_of hi ha w n).homeward) may.0.going before (b.initiator may.0.going before) none);
  acceptor = b.acceptor;
}

acceptor_reading : (hi ha : List Entry) (w : World) (way : List Piece) (at now : ℕ) → w.outward ≡ way → Counted hi ha w → MayRead w.acceptor → Filled w → Filled (acceptor_read w way at now)
acceptor_reading hi ha w [] at now e n may b = b
acceptor_reading hi ha w (p ∷ left) at now e n may b = record {
  initiator = b.initiator;
  acceptor = λ none.
      (let s = w.acceptor in
      let yet = (acceptor_phase w.initiator.config s.config w.initiator.facts w.initiator.ending s.facts w.outward w.homeward n.holds.shaking).1 in
      read_filled hi w.initiator s p left w.homeward at now (subst (λ (ps : List Piece). Follows hi w.initiator s ps w.homeward) e (numbered_of hi ha w n).outward) may.0.going yet (b.acceptor may.0.going) none);
}

initiator_doing : (hi ha : List Entry) (w : World) (call : Call) → Counted hi ha w → IsOther hi call → MayStand hi w.initiator call → Filled w → Filled (after w (initiator_does call))
initiator_doing hi ha w call n other may b = record {
  initiator = λ none yet.
      (let s = w.initiator in
      let d = does_as hi s call other may n.holds.initiator.serves n.holds.initiator_window.opening in
      let going = was_none s.ending (step s call).ending d.over none in
      let before = ap (λ p. is_closing p) (sym (stays_even hi s call other none yet).phase) ∙ yet in
      call_filled hi s call other (n.initiator_lies going before) (b.initiator going before) none yet);
  acceptor = b.acceptor;
}

acceptor_doing : (hi ha : List Entry) (w : World) (call : Call) → Counted hi ha w → IsOther ha call → MayStand ha w.acceptor call → Filled w → Filled (after w (acceptor_does call))
acceptor_doing hi ha w call n other may b = record {
  initiator = b.initiator;
  acceptor = λ none.
      (let s = w.acceptor in
      let d = does_as ha s call other may n.holds.acceptor.serves n.holds.acceptor_window.opening in
      let going = was_none s.ending (step s call).ending d.over none in
      let yet = (acceptor_phase w.initiator.config s.config w.initiator.facts w.initiator.ending s.facts w.outward w.homeward n.holds.shaking).1 in
      let then_yet = ap (λ p. is_closing p) (d.accepts (ap (λ r. is_initiator r) n.holds.matches.accepts)) ∙ yet in
      call_filled ha s call other (n.acceptor_lies going yet) (b.acceptor going) none then_yet);
}

pub filled_step : (hi ha : List Entry) (w : World) (s : Step) → Counted hi ha w → MayStep hi ha w s → Filled w → Filled (after w s)
filled_step hi ha w (meets now_i now_a) n may b = record {
  initiator = λ _ _. begins_filled (around w.initiator 0 now_i) w.initiator.facts.recorded;
  acceptor = λ _. begins_filled (around w.acceptor 0 now_a) w.acceptor.facts.recorded;
}
filled_step hi ha w (initiator_reads at now) n may b = initiator_reading hi ha w w.homeward at now refl n may b
filled_step hi ha w (acceptor_reads at now) n may b = acceptor_reading hi ha w w.outward at now refl n may b
filled_step hi ha w (initiator_does call) n may b = initiator_doing hi ha w call n may.0 may.1 b
filled_step hi ha w (acceptor_does call) n may b = acceptor_doing hi ha w call n may.0 may.1 b

filled_after : (hi ha : List Entry) (w : World) (steps : List Step) → Counted hi ha w → AllMayStep hi ha w steps → Filled w → Filled (world_after w steps)
filled_after hi ha w [] n may b = b
filled_after hi ha w (s ∷ later) n may b = filled_after hi ha (after w s) later (counted_step hi ha w s n may.0) may.1 (filled_step hi ha w s n may.0 b)

-- nothing is asked for at the beginning
filled_first : (s : State) → s.facts.connection.requester ≡ requests.Nothing → FillsIn s.facts
filled_first s none = subst (λ (q : Request). Fills s.facts.connection.receiver.next q) (sym none) tt

pub filled_holds : (hi ha : List Entry) (w : World) (steps : List Step) → StartsKnown hi ha w → AllMayStep hi ha w steps → Filled (world_after w steps)
filled_holds hi ha w steps known may = filled_after hi ha w steps (counted_at_first hi ha w known) may (record {
  initiator = λ _ _. filled_first w.initiator (ap (λ (s : State). s.facts.connection.requester) known.0.initiator);
  acceptor = λ _. filled_first w.acceptor (ap (λ (s : State). s.facts.connection.requester) known.0.acceptor);
})
