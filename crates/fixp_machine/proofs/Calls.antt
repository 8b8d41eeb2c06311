-- Each call of a session machine keeps its facts sound.
use Rattle.std.proofs.Common.{◌≡◌, ℕ, ◌-◌, ◌<◌, ◌^◌, ◌||◌, Bool, true, false, not, if◌then◌else◌, List, [], ◌∷◌, length, drop, Option, Some, None, refl, sym, subst, ◌∙◌, true≢false}
use Rattle.std.specs.Prelude.{is_some, IfSome, IsSome}
use Rattle.fixp_msgs.specs.declared.numbering.Range.{Range}
use Rattle.flow_idem.specs.Runs.{runs_of}
use Rattle.fixp_shake.specs.declared.config.EndConfig.{EndConfig}
use Rattle.fixp_shake.specs.declared.phase.Phase.{Phase}
use Rattle.fixp_shake.specs.declared.phase.Phase.TheVariants as phases
use Rattle.fixp_shake.specs.Phases.{is_negotiating, is_establishing, is_shaken}
use Rattle.fixp_shake.specs.declared.violation.Violation.{Violation}
use Rattle.fixp_replies.specs.declared.facts.EndState.{EndState}
use Rattle.fixp_replies.specs.declared.facts.Facts.{Facts}
use Rattle.fixp_replies.specs.declared.facts.OwnFinish.TheVariants as own
use Rattle.fixp_replies.specs.Acts.{is_record}
use Rattle.fixp_replies.specs.Facts.{Around, is_initiator, connecting, in_phase, serves}
use Rattle.fixp_replies.specs.Incoming.{payload_in}
use Rattle.fixp_replies.specs.Outcomes.{Outcome, opening_negotiate, opening_establish}
use Rattle.fixp_replies.specs.Replies.{reply_of}
use Rattle.fixp_replies.specs.Events.{Made, begun, turn_ended, closes, outbox_finished, tells_finish, finish_told, lateness, heartbeats, link_ending}
use Rattle.fixp_replies.specs.Serving.{own_finishing}
use Rattle.fixp_machine.specs.Sound.{Sound, KeepsSound, KeepsHeld}
use Rattle.session_model.specs.Inbox.{Numbered}
use Rattle.flow_window.specs.Window.{InReach}
use Rattle.fixp_machine.proofs.Holding.{holding_goes_on}
use Rattle.fixp_machine.proofs.Windowing.{windowed_empty, replied, framed, until, front_there, past_sound, past_windowed}
use Rattle.fixp_machine.specs.Machine.{State, around, bytes_of, wrote, made, connected, reply_applied, after_bad_frame, after_act, broken_by, begin, frame, bad_frame, did, tick, turn_done, closed, link_end, live, again, taken, reserve, held_done, done_pending, served_again, rest_of, counted_sent, held_with, held_applied, front_of, step, Windowed, StaysSound, CallsKeepSound}
use Rattle.fixp_machine.proofs.Keeping.{sound_goes_on}
use Rattle.fixp_machine.proofs.Tests.{none-some}

-- one of two states
pub either : (P : State → Type 0) (b : Bool) (first second : State) → (b ≡ true → P first) → (b ≡ false → P second) → P (if b then first else second)
either P true first second p q = p refl
either P false first second p q = q refl

-- nothing is pending
none_pending : (s : State) → s.most < 2 ^ 40 → Sound s.config s.facts → s.pending ≡ None → Windowed s.config s.most s.facts s.ending s.held → StaysSound s
none_pending s low f none w = record {
  most = low;
  facts = f;
  windowed = w;
  pending = subst (λ (p : Option Outcome). IfSome p (λ o. KeepsSound s.config s.most s.facts o)) (sym none) tt;
  holding = subst (λ (p : Option Outcome). IfSome p (λ o. KeepsHeld s.config s.most s.facts o)) (sym none) tt;
  waits = λ some. absurd (none-some s.pending some none);
}

-- facts in the same phase, as soft, whose inbox awaits the same number
alike : (s : State) (g : Facts) → Windowed s.config s.most s.facts s.ending s.held → is_shaken g.connection.phase ≡ is_shaken s.facts.connection.phase → g.connection.soft ≡ s.facts.connection.soft
    → g.recorded.inbox_next ≡ s.facts.recorded.inbox_next → Windowed s.config s.most g s.ending s.held
alike s g w p t n = record {
  fits = record { opening = λ no. w.fits.opening (sym p ∙ no); soft = λ yes. w.fits.soft (sym t ∙ yes) };
  other = w.other;
  over = w.over;
  reach = subst (λ k. InReach k s.held) (sym n) w.reach;
  most = w.most;
}

-- the facts of a connection that begins are sound where what is recorded is
connecting_sound : (cfg : EndConfig) (f : Facts) (phase : Phase) → Sound cfg f → (is_initiator cfg.role ≡ false → (is_negotiating phase || is_establishing phase) ≡ false)
    → Sound cfg (connecting f.recorded phase)
connecting_sound cfg f phase s role = record {
  waits = λ _. refl;
  even = λ _. refl;
  unread = λ _. refl;
  credentials = s.credentials;
  sent = s.sent;
  next = s.next;
  opening = λ _. record { no_request = refl; no_gap = refl; no_range = refl; firm = refl };
  soft = λ t. absurd (true≢false (sym t));
  role = role;
}

-- how a connection begins, by the role and by whether the session was negotiated
abbrev pub begun_as : Around → EndState → (initiates negotiated : Bool) → Made
begun_as x recorded initiates negotiated =
    if not initiates then record { written = []; next = connecting recorded phases.Idle }
    else if negotiated then record { written = opening_establish x (connecting recorded phases.Establishing) ∷ []; next = connecting recorded phases.Establishing }
    else record { written = opening_negotiate x ∷ []; next = connecting recorded phases.Negotiating }

begun_sound : (x : Around) (f : Facts) → Sound x.config f → Sound x.config (begun x f.recorded).next
begun_sound x f s = by_case (is_initiator x.config.role) f.recorded.negotiated refl
  where
    by_case : (i n : Bool) → is_initiator x.config.role ≡ i → Sound x.config (begun_as x f.recorded i n).next
    by_case false n e = connecting_sound x.config f phases.Idle s (λ _. refl)
    by_case true true e = connecting_sound x.config f phases.Establishing s (λ t. absurd (true≢false (sym e ∙ t)))
    by_case true false e = connecting_sound x.config f phases.Negotiating s (λ t. absurd (true≢false (sym e ∙ t)))

closed_sound : (cfg : EndConfig) (f : Facts) (last : ℕ) → Sound cfg f → Sound cfg (outbox_finished f last)
closed_sound cfg f last s = record { waits = s.waits; even = s.even; unread = s.unread; credentials = s.credentials; sent = s.sent; next = s.next; opening = s.opening; soft = s.soft; role = s.role }

told_sound : (cfg : EndConfig) (f : Facts) (last : ℕ) → Sound cfg f → Sound cfg (own_finishing (outbox_finished f last) own.Told)
told_sound cfg f last s = record { waits = s.waits; even = s.even; unread = s.unread; credentials = s.credentials; sent = s.sent; next = s.next; opening = s.opening; soft = s.soft; role = s.role }

abbrev pub chosen : Bool → Made → Made → Made
chosen b first second = if b then first else second

pub one_made : (P : Facts → Type 0) (b : Bool) (first second : Made) → P first.next → P second.next → P (chosen b first second).next
one_made P true first second p q = p
one_made P false first second p q = q

done_sound : (s : State) (p : Option Outcome) (now : ℕ) → StaysSound s → IfSome p (λ o. KeepsSound s.config s.most s.facts o) → IfSome p (λ o. KeepsHeld s.config s.most s.facts o)
    → (IsSome p → front_of s ≡ None) → StaysSound (done_pending s p now)
done_sound s None now h k held none = h
done_sound s (Some o) now h k held none = none_pending (after_act s o now) h.most k.next refl
    (until s.config s.most o.next o.ending s.held (replied s.config s.most s.facts o s.ending s.held h.windowed (none refl) held))

broken_sound : (s : State) (v : Option Violation) (now : ℕ) → StaysSound s → StaysSound (broken_by s v now)
broken_sound s None now h = h
broken_sound s (Some v) now h = none_pending (broken_by s (Some v) now) h.most h.facts refl (windowed_empty s.config s.most s.facts _)

again_sound : (s : State) (r : Option Range) (payloads : List (List ℕ)) (now : ℕ) → s.facts.connection.serving ≡ r → StaysSound s → s.pending ≡ None → StaysSound (served_again s r payloads now)
again_sound s None payloads now is h done = h
again_sound s (Some r) payloads now is h done = none_pending (served_again s (Some r) payloads now) h.most
    (record {
      waits = h.facts.waits;
      even = h.facts.even;
      unread = h.facts.unread;
      credentials = h.facts.credentials;
      sent = h.facts.sent;
      next = h.facts.next;
      opening = λ n. absurd (none-some (Some r) refl (sym is ∙ (h.facts.opening n).no_range));
      soft = h.facts.soft;
      role = h.facts.role;
    }) done (alike s (serves s.facts (rest_of r (length payloads))) h.windowed refl refl refl)

pub calls_keep_sound : CallsKeepSound
calls_keep_sound s (begin now) h may = none_pending (connected s now) h.most (begun_sound (around s 0 now) s.facts h.facts) refl (windowed_empty s.config s.most (begun (around s 0 now) s.facts.recorded).next None)
calls_keep_sound s (frame incoming at now) h may =
    let o : Outcome = reply_of (around s at now) s.facts incoming in
    let k : KeepsSound s.config s.most s.facts o = sound_goes_on (around s at now) s.facts incoming h.most h.facts h.windowed.fits in
    let held : KeepsHeld s.config s.most s.facts o = holding_goes_on (around s at now) s.facts incoming h.facts.waits in
    let w = h.windowed in
    let more : List Numbered = held_with o.holds (payload_in incoming) s.held in
    let framed_to : State = record s { moment = now; last_received = now; room = s.room - 1; held = more } in
    either StaysSound (is_record o.act) (record s { moment = now; last_received = now; room = s.room - 1; pending = Some o })
    (reply_applied framed_to o now)
    (λ _. record {
      most = h.most;
      facts = h.facts;
      pending = k;
      windowed = w;
      holding = held;
      waits = λ _. may.1;
    })
    (λ _. none_pending (reply_applied framed_to o now) h.most k.next refl
    (until s.config s.most o.next o.ending more (framed s.config s.most s.facts o s.ending s.held (payload_in incoming) w may.1 k held)))
calls_keep_sound s (bad_frame at now) h may = none_pending (after_bad_frame s at now) h.most h.facts refl (windowed_empty s.config s.most s.facts _)
calls_keep_sound s (did now) h may = done_sound s s.pending now h h.pending h.holding h.waits
calls_keep_sound s (tick now) h may =
    let x : Around = around s 0 now in
    let beat : State = wrote (record s { moment = now }) (bytes_of (heartbeats x s.facts s.last_sent s.unsent)) now in
    either StaysSound (is_some s.ending) (record s { moment = now }) (broken_by beat (lateness x s.facts s.start s.last_received) now)
    (λ _. record { most = h.most; facts = h.facts; pending = h.pending; windowed = h.windowed; holding = h.holding; waits = h.waits })
    (λ _. broken_sound beat (lateness x s.facts s.start s.last_received) now (record { most = h.most; facts = h.facts; pending = h.pending; windowed = h.windowed; holding = h.holding; waits = h.waits }))
calls_keep_sound s (turn_done now) h may =
    let x : Around = around s 0 now in
    let m : Made = turn_ended x s.facts (runs_of s.untold) in
    let next : Sound s.config m.next = one_made (λ f. Sound s.config f) (closes x s.facts) _ _
    (record {
      waits = h.facts.waits;
      even = h.facts.even;
      unread = h.facts.unread;
      credentials = h.facts.credentials;
      sent = h.facts.sent;
      next = h.facts.next;
      opening = λ n. absurd (true≢false n);
      soft = h.facts.soft;
      role = λ _. refl;
    }) h.facts in
    either StaysSound (is_some s.ending) (record s { moment = now }) (record (made (record s { moment = now }) m now) { untold = [] })
    (λ _. record { most = h.most; facts = h.facts; pending = h.pending; windowed = h.windowed; holding = h.holding; waits = h.waits })
    (λ _. none_pending (record (made (record s { moment = now }) m now) { untold = [] }) h.most next may.0
    (one_made (λ f. Windowed s.config s.most f s.ending s.held) (closes x s.facts) _ _ closing h.windowed))
  where
    closing : Windowed s.config s.most (in_phase s.facts phases.Closing) s.ending s.held
    closing = let w = h.windowed in record {
      fits = record { opening = λ n. absurd (true≢false n); soft = w.fits.soft };
      other = w.other;
      over = w.over;
      reach = w.reach;
      most = w.most;
    }
calls_keep_sound s (closed last now) h may =
    let x : Around = around s 0 now in
    let m : Made = finish_told x s.facts last in
    let next : Sound s.config m.next = one_made (λ f. Sound s.config f) (tells_finish x s.facts last) _ _ (told_sound s.config s.facts last h.facts) (closed_sound s.config s.facts last h.facts) in
    either StaysSound (is_some s.ending) (record s { moment = now; facts = outbox_finished s.facts last }) (made (record s { moment = now }) m now)
    (λ _. none_pending (record s { moment = now; facts = outbox_finished s.facts last }) h.most (closed_sound s.config s.facts last h.facts) may.0 (alike s (outbox_finished s.facts last) h.windowed refl refl refl))
    (λ _. none_pending (made (record s { moment = now }) m now) h.most next may.0
    (one_made (λ f. Windowed s.config s.most f s.ending s.held) (tells_finish x s.facts last) _ _
    (alike s (own_finishing (outbox_finished s.facts last) own.Told) h.windowed refl refl refl) (alike s (outbox_finished s.facts last) h.windowed refl refl refl)))
calls_keep_sound s link_end h may =
    either StaysSound (is_some s.ending) s (record s { ending = Some (link_ending (around s 0 s.moment) s.facts); pending = None; held = [] })
    (λ _. h) (λ _. none_pending (record s { ending = Some (link_ending (around s 0 s.moment) s.facts); pending = None; held = [] }) h.most h.facts refl
    (windowed_empty s.config s.most s.facts _))
calls_keep_sound s (live payloads now) h may =
    none_pending (step s (live payloads now)) h.most
    (record {
      waits = h.facts.waits;
      even = h.facts.even;
      unread = h.facts.unread;
      credentials = h.facts.credentials;
      sent = may.1;
      next = h.facts.next;
      opening = h.facts.opening;
      soft = h.facts.soft;
      role = h.facts.role;
    }) may.0 (alike s (counted_sent s.facts (length payloads)) h.windowed refl refl refl)
calls_keep_sound s (again payloads now) h may = again_sound s s.facts.connection.serving payloads now refl h may
calls_keep_sound s (taken count) h may =
    record { most = h.most; facts = h.facts; pending = h.pending; windowed = h.windowed; holding = h.holding; waits = h.waits }
calls_keep_sound s reserve h may =
    record { most = h.most; facts = h.facts; pending = h.pending; windowed = h.windowed; holding = h.holding; waits = h.waits }
calls_keep_sound s held_done h may =
    let k = front_there s.facts.recorded.inbox_next s.held may.1 in
    let w = h.windowed in
    subst (λ (m : Option Numbered). StaysSound (held_applied s m)) (sym k.front_is)
    (none_pending (held_applied s (Some k.first)) h.most (past_sound s.config s.most s.facts s.ending s.held h.most h.facts w k) may.0
    (past_windowed s.config s.most s.facts s.ending s.held w k))
