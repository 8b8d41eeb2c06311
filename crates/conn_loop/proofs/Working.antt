-- The work of a turn, put together from its steps.
use Rattle.std.proofs.Common.{◌≡◌, ◌≤◌, ℕ, true, false, inl, List, [], ◌∷◌, ◌++◌, length, Option, Some, None, refl, sym, ap, subst, ◌∙◌, arith, append-nil}
use Rattle.std.specs.Prelude.{IfSome}
use Rattle.session_model.specs.Inbox.{InboxRecord}
use Rattle.session_model.specs.Journal.{History}
use Rattle.fixp_machine.specs.Machine.{State, Call, turn_done, run}
use Rattle.jr_dated.specs.declared.journal.Journal.{Ghosts}
use Rattle.jr_dated.specs.declared.limits.Limits.{Limits}
use Rattle.jr_kept.specs.declared.inbox.Inbox.{Inbox}
use Rattle.jr_kept.specs.Inbox.{SameButMoment}
use Rattle.gate_turn.specs.Views.{Part}
use Rattle.gate_turn.proofs.Histories.{begins_self, begins_on}
use Rattle.conn_turns.specs.declared.news.NewsItem.{NewsItem}
use Rattle.conn_turns.specs.declared.answer.TurnFault.{TurnFault}
use Rattle.conn_turns.specs.declared.answer.TurnFault.TheVariants as faults
use Rattle.conn_turns.specs.Lines.{Line, AreTaken, lines_after}
use Rattle.conn_turns.specs.Frames.{IsDone, added, told, unframed_at, is_link_over}
use Rattle.conn_turns.specs.Turns.{bad_calls, end_calls, again_calls, live_calls, finish_calls, served_of, served_now, live_of, live_beside, finish_of, calls_of_frames}
use Rattle.conn_turns.specs.Refusals.{stood}
use Rattle.conn_turns.proofs.Taking.{run_append, frames_make_calls, lines_wait, lines_number, unless_same}
use Rattle.conn_steps.specs.Settling.{Gains, Refuses}
use Rattle.conn_steps.specs.Agreeing.{Agrees}
use Rattle.conn_steps.specs.Taking.{TookFrames, CutFrames, OfInbox, refused_by}
use Rattle.conn_steps.proofs.Rooms.{refuses_none, gains_at, refuses_at}
use Rattle.conn_loop.specs.Conn.{HasSeen, Looks}
use Rattle.conn_loop.specs.Serving.{ServedOutbox}
use Rattle.conn_loop.specs.Turned.{ServedFrames, CutShort}
use Rattle.conn_steps.specs.Ends.{taking_end}

-- what the machine is told behind so many frames
abbrev ends_at : ℕ → ℕ → Line → List Call
ends_at now count l = bad_calls now (unframed_at count l) ++ (end_calls (is_link_over l) ++ turn_done now ∷ [])

pub looks_self : (p : Part) → Looks p p
looks_self p = record { seen = begins_self p.seen; faults = omega arith; turns = omega arith; number = refl; made = refl; opening = refl; mine = refl; ended = refl; lost = refl }

pub looks_on : (p q r : Part) → Looks p q → Looks q r → Looks p r
looks_on p q r a b = record {
  seen = begins_on p.seen q.seen r.seen a.seen b.seen;
  faults = omega (arith, a.faults, b.faults);
  turns = omega (arith, a.turns, b.turns);
  number = b.number ∙ a.number;
  made = b.made ∙ a.made;
  opening = b.opening ∙ a.opening;
  mine = b.mine ∙ a.mine;
  ended = b.ended ∙ a.ended;
  lost = b.lost ∙ a.lost;
}

-- a pass that has seen enough of one machine has of another that was sent as much, and was told the same finish
pub seen_same : (m n : State) (p : Part) → n.facts.recorded.sent ≡ m.facts.recorded.sent → n.facts.recorded.finish ≡ m.facts.recorded.finish → HasSeen m p → HasSeen n p
seen_same m n p sent finish h = record {
  entries = omega (arith, sent, h.entries);
  finish = subst (λ (o : Option ℕ). IfSome o (λ k. (p.seen.finished ≡ true) × (length p.seen.made ≡ k))) (sym finish) h.finish;
}

-- where nothing was tried a stop leaves nothing of it
refused_nothing : (fault : TurnFault) → refused_by fault [] ≡ []
refused_nothing faults.Link = refl
refused_nothing faults.Inbox = refl
refused_nothing faults.Outbox = refl
refused_nothing (faults.Changed at) = refl
refused_nothing faults.Broken = refl
refused_nothing (faults.Full entries bytes) = refl
refused_nothing faults.Memory = refl

module _ {J : Type 0} {G : Ghosts J} where
  pub served_frames : (tells : Type 0) (now count : ℕ) (h seen : History) (old mid closed new : Line) (box after : Inbox J G) (news later : List NewsItem) → TookFrames now count (taking_end old box news) (taking_end mid after later)
      → IsDone count mid × (count ≤ old.per_turn) → closed ≡ record mid { machine = run mid.machine (ends_at now count mid) } → ServedOutbox tells now h seen closed new → ServedFrames tells now h seen (taking_end old box news) (taking_end new after later)
  served_frames tells now count h seen old mid closed new box after news later t last closes s =
      let l : Line = lines_after now old t.frames in
      let many : ℕ = length t.frames in
      let same : mid ≡ l = t.line in
      let closing : closed.machine ≡ run l.machine (ends_at now many l)
      = ap (λ (x : Line). x.machine) closes ∙ (ap (λ (x : Line). run x.machine (ends_at now count x)) same ∙ ap (λ (k : ℕ). run l.machine (ends_at now k l)) (sym t.many)) in
      let waits : closed.waits ≡ old.waits = ap (λ (x : Line). x.waits) closes ∙ (ap (λ (x : Line). x.waits) same ∙ lines_wait now old t.frames) in
      let number : closed.per_turn ≡ old.per_turn = ap (λ (x : Line). x.per_turn) closes ∙ (ap (λ (x : Line). x.per_turn) same ∙ lines_number now old t.frames) in
      let outbox : List Call = again_calls now s.again ++ (live_calls now s.live ++ finish_calls now s.finish) in
      record {
        work = record {
          now = now;
          got = None;
          received = [];
          frames = t.frames;
          broken = unframed_at many l;
          link_over = is_link_over l;
          due_again = s.due_again;
          due_live = s.due_live;
          again = s.again;
          live = s.live;
          at_again = s.at_again;
          at_live = seen;
          at_finish = seen;
          finish = s.finish;
          sent = [];
          lost = false;
        };
        faithful = s.faithful;
        at = refl;
        served = record {
          frames = t.taken;
          few = omega (arith, t.many, last.1);
          last = subst (λ (k : ℕ). IsDone k l) (sym t.many) (subst (λ (x : Line). IsDone count x) same last.0);
          broken = refl;
          link_over = refl;
          due_again = s.due_again_is ∙ unless_same closed old _ _ waits
              (ap (λ (n : ℕ). served_of n (served_now closed.machine) s.at_again) number ∙ ap (λ (m : State). served_of old.per_turn (served_now m) s.at_again) closing);
          due_live = s.due_live_is ∙ unless_same closed old _ _ waits
              (ap (λ (n : ℕ). live_beside s.again (live_of n (run closed.machine (again_calls now s.again)) seen)) number
              ∙ ap (λ (m : State). live_beside s.again (live_of old.per_turn (run m (again_calls now s.again)) seen)) closing);
          again = s.again_is;
          live = s.live_is;
          finish = s.finish_is ∙ unless_same closed old _ _ waits (ap (λ (m : State). finish_of m seen) closing);
          seen_again = s.seen_again;
          seen_live = s.seen_live;
          seen_finish = begins_self seen;
          seen = refl;
          machine = ap (λ (x : Line). x.machine) s.line ∙ (ap (λ (m : State). run m outbox) closing
              ∙ (ap (λ (m : State). run (run m (ends_at now many l)) outbox) (frames_make_calls now old t.frames)
              ∙ (sym (run_append (run old.machine (calls_of_frames now t.frames)) (ends_at now many l) outbox)
              ∙ sym (run_append old.machine (calls_of_frames now t.frames) (ends_at now many l ++ outbox)))));
          held = ap (λ (x : Line). x.held) s.line ∙ (ap (λ (x : Line). x.held) closes ∙ ap (λ (x : Line). x.held) same);
          place = ap (λ (x : Line). x.place) s.line ∙ (ap (λ (x : Line). x.place) closes ∙ ap (λ (x : Line). x.place) same);
          over = ap (λ (x : Line). x.over) s.line ∙ (ap (λ (x : Line). x.over) closes ∙ ap (λ (x : Line). x.over) same);
          serves = ap (λ (x : Line). x.serves) s.line ∙ (ap (λ (x : Line). x.serves) closes ∙ ap (λ (x : Line). x.serves) same);
          waits = ap (λ (x : Line). x.waits) s.line ∙ (ap (λ (x : Line). x.waits) closes ∙ ap (λ (x : Line). x.waits) same);
          per_turn = ap (λ (x : Line). x.per_turn) s.line ∙ (ap (λ (x : Line). x.per_turn) closes ∙ ap (λ (x : Line). x.per_turn) same);
        };
        gains = t.gains;
        news_are = t.news_are;
      }

  -- frames that were taken, or the act of one refused, behind a raise of the inbox's moment
  pub took_at : (now count : ℕ) (old new : Line) (box raised after : Inbox J G) (news later : List NewsItem) → SameButMoment box raised
      → TookFrames now count (taking_end old raised news) (taking_end new after later) → TookFrames now count (taking_end old box news) (taking_end new after later)
  took_at now count old new box raised after news later same t = record {
    frames = t.frames;
    many = t.many;
    taken = t.taken;
    line = t.line;
    gains = gains_at box raised after (added now old t.frames) same t.gains;
    news_are = t.news_are;
  }

  pub cut_at : (now : ℕ) (old new : Line) (box raised after : Inbox J G) (news later : List NewsItem) (fault : TurnFault) → SameButMoment box raised
      → CutFrames now (taking_end old raised news) (taking_end new after later) fault → CutFrames now (taking_end old box news) (taking_end new after later) fault
  cut_at now old new box raised after news later fault same c = record {
    frames = c.frames;
    few = c.few;
    taken = c.taken;
    refusal = c.refusal;
    is = c.is;
    tried = c.tried;
    is_tried = c.is_tried;
    refuses = refuses_at box raised after (added now old c.frames ++ stood now (lines_after now old c.frames) c.refusal) (refused_by fault c.tried) same c.refuses;
    past = c.past;
    recorded = c.recorded;
    news_are = c.news_are;
  }

  -- the inbox agrees still
  pub agrees_at : (m : State) (box raised : Inbox J G) → SameButMoment box raised → Agrees m box → Agrees m raised
  agrees_at m box raised same a = record {
    flow = same.same.1 ∙ a.flow;
    most = subst (λ (l : Limits). m.most ≤ l.entries) (sym same.same.0) a.most;
    next = same.next ∙ a.next;
    negotiated = same.negotiated ∙ a.negotiated;
    peer_last = same.peer_last ∙ a.peer_last;
  }

  -- cut at a frame of which something was refused
  pub cut_at_frame : (now : ℕ) (old new : Line) (box after : Inbox J G) (news later : List NewsItem) (fault : TurnFault) → OfInbox fault → CutFrames now (taking_end old box news) (taking_end new after later) fault
      → CutShort now old box after news later fault
  cut_at_frame now old new box after news later fault of_inbox c = record {
    frames = c.frames;
    few = omega (arith, c.few);
    taken = c.taken;
    refusal = Some c.refusal;
    is = c.is;
    tried = c.tried;
    is_tried = c.is_tried;
    refuses = c.refuses;
    past = c.past;
    recorded = c.recorded;
    of_inbox = of_inbox;
    news_are = c.news_are;
  }

  -- cut at the outbox
  pub cut_at_outbox : (now count : ℕ) (old mid : Line) (box after : Inbox J G) (news later : List NewsItem) (fault : TurnFault) → TookFrames now count (taking_end old box news) (taking_end mid after later) → count ≤ old.per_turn
      → ((entries bytes : ℕ) → fault ≡ faults.Full entries bytes → ⊥) → CutShort now old box after news later fault
  cut_at_outbox now count old mid box after news later fault t few never_full = record {
    frames = t.frames;
    few = omega (arith, t.many, few);
    taken = t.taken;
    refusal = None;
    is = tt;
    tried = [];
    is_tried = record {
      later = [];
      few = omega (arith, t.many, few);
      taken = subst (AreTaken now old) (sym (append-nil t.frames)) t.taken;
      next = tt;
      untried = [];
      adds = ap (added now old) (append-nil t.frames) ∙ (sym (append-nil (added now old t.frames)) ∙ sym (append-nil (added now old t.frames ++ [])));
      first = ([], refl);
      alike = inl refl;
    };
    refuses = subst (Refuses box after (added now old t.frames ++ [])) (sym (refused_nothing fault)) (refuses_none box after (added now old t.frames ++ []) (subst (λ (rs : List InboxRecord). Gains box after rs) (sym (append-nil (added now old t.frames))) t.gains));
    past = λ entries bytes e. absurd (never_full entries bytes e);
    recorded = tt;
    of_inbox = tt;
    news_are = t.news_are ∙ ap (λ (ns : List NewsItem). news ++ ns) (sym (append-nil (told now old t.frames)));
  }
