-- The parts of a turn, as the loop has them, are those of the laws.
use Rattle.gw_outside.specs.Faults.{HasRisen}
use Rattle.std.proofs.Common.{◌≡◌, inl, inr, ℕ, ◌<◌, ◌≤◌, max, Bool, true, List, ◌++◌, refl, sym, ap, subst, ◌∙◌, append-nil}
use Rattle.std.proofs.lemmas.List.Elements.{All-nil}
use Rattle.session_model.specs.Journal.{History}
use Rattle.jr_dated.specs.declared.journal.Journal.{Ghosts}
use Rattle.jr_kept.specs.declared.inbox.Inbox.{Inbox}
use Rattle.connection_laws.specs.Ranges.{IsInTime}
use Rattle.conn_turns.specs.declared.answer.TurnFault.{TurnFault}
use Rattle.conn_turns.specs.Lines.{Line}
use Rattle.conn_turns.specs.Frames.{added, told}
use Rattle.conn_steps.specs.Settling.{Gains}
use Rattle.conn_steps.proofs.Rooms.{gains_none}
use Rattle.fixp_machine.specs.Machine.{State, Call, run}
use Rattle.conn_turns.specs.Turns.{Work, only_sends, works, link_lost, first_calls, calls_of_frames, closing_calls, outbox_calls}
use Rattle.conn_turns.proofs.Taking.{run_append}
use Rattle.conn_turns.specs.Exact.{Served, line_ticked}
use Rattle.conn_loop.specs.Live.{EndAt}
use Rattle.conn_loop.specs.Turned.{CutShort, CutMore, Exchanged}
use Rattle.turn_laws.specs.Turns.{Sends, Works, line_received}
use Rattle.turn_laws.specs.Made.{turn_at, calls_unsent, DoesMore, SendsAll}
use Rattle.turn_laws.specs.Legs.{is_lost}
use Rattle.turn_laws.specs.Turned.{WasTurn, WasCut, TurnIsOne, CutIsOne}

-- the line as the frames of a work are taken of it
abbrev line_worked : Line → ℕ → Work → Line
line_worked old now w = line_received old now w.received w.got

-- a work's moment is the turn's
work_is_one : (now : ℕ) (before seen : History) (old new behind : Line) (w : Work) → w.now ≡ now → Served before seen (line_worked old now w) behind w
    → Sends w.sent w.lost behind new → Works before seen old new w
work_is_one now before seen old new behind w at served sends = record {
  behind = behind;
  served = subst (λ (n : ℕ). Served before seen (line_worked old n w) behind w) (sym at) served;
  sends = sends;
}

-- the state behind a work's calls before it sends
work_unsent : (now : ℕ) (before seen : History) (old behind : Line) (w : Work) → w.now ≡ now → Served before seen (line_worked old now w) behind w → behind.machine ≡ run old.machine (calls_unsent (works w))
work_unsent now before seen old behind w at served =
    let rest : List Call = calls_of_frames w.now w.frames ++ (closing_calls w ++ outbox_calls w) in
    served.machine ∙ (sym (run_append old.machine (first_calls now) rest) ∙ ap (λ (n : ℕ). run old.machine (first_calls n ++ rest)) (sym at))

module _ {J : Type 0} {G : Ghosts J} where
  pub turn_is_one : (tells : Type 0) (box : Inbox J G) → TurnIsOne tells box
  turn_is_one tells box eager before after losses losses' old new result time clock (inl x) =
      let now : ℕ = max after old.line.machine.moment in (
        record {
          turn = only_sends now x.sent.sent x.sent.lost;
          made = record {
            result = result;
            is = (record { front = x.sent.front; line = x.sent.line }, x.same_seen);
            does = (x.why, record { whole = x.sent.whole; full = x.sent.full; answer = x.sent.answer; kept = x.sent.kept });
            moved = x.sent.moved;
            moment = refl;
            clock = clock;
          };
          timely = record { bytes = All-nil (λ (b : ℕ). b < 256); time = time };
          faithful = λ _. tt;
          gains = gains_none old.box new.box x.same_box;
          news_are = x.same_news ∙ sym (append-nil old.news);
        },
        x.sent.cause,
      )
  turn_is_one tells box eager before after losses losses' old new result time clock (inr x) = by_kind x.exchanged
    where
      now : ℕ
      now = max after old.line.machine.moment

      by_kind : Exchanged tells losses losses' now eager (record old { line = line_ticked old.line now }) new result → (was : WasTurn tells eager before after old new) × (is_lost was.turn ≡ true → HasRisen losses losses')
      by_kind (inl w) = (
        record {
          turn = works w.work;
          made = record {
            result = result;
            is = work_is_one now old.seen new.seen old.line new.line w.behind w.work w.at w.served (record { front = w.front; line = w.line });
            does = (
              subst (λ (n : ℕ). DoesMore old.line n) (sym w.at) (x.little, x.unended),
              w.received,
              subst (λ (m : State). SendsAll m (turn_at new after) w.work.sent w.work.lost result) (work_unsent now old.seen new.seen old.line w.behind w.work w.at w.served)
                  (record { whole = w.whole; full = w.full; answer = w.answer; kept = w.kept }),
            );
            moved = w.moved;
            moment = w.at;
            clock = clock;
          };
          timely = record { bytes = w.bytes; time = subst IsInTime (sym w.at) time };
          faithful = w.faithful;
          gains = subst (λ (n : ℕ). Gains old.box new.box (added n (line_worked old.line n w.work) w.work.frames)) (sym w.at) w.gains;
          news_are = subst (λ (n : ℕ). new.news ≡ old.news ++ told n (line_worked old.line n w.work) w.work.frames) (sym w.at) w.news_are;
        },
        w.cause,
      )
      by_kind (inr l) = (
        record {
          turn = link_lost now;
          made = record { result = result; is = (l.line, l.same_seen); does = ((x.little, x.unended), l.answer); moved = l.moved; moment = refl; clock = clock };
          timely = record { bytes = All-nil (λ (b : ℕ). b < 256); time = time };
          faithful = λ _. tt;
          gains = gains_none old.box new.box l.same_box;
          news_are = l.same_news ∙ sym (append-nil old.news);
        },
        λ _. l.cause,
      )

  cut_more_is_one : (eager : Bool) (before after : ℕ) (old new : EndAt J G) (fault : TurnFault) → IsInTime (max after old.line.machine.moment) → before ≤ after → CutMore (max after old.line.machine.moment) eager old new fault
      → WasCut eager before after old new fault
  cut_more_is_one eager before after old new fault time clock k =
      let now : ℕ = max after old.line.machine.moment in
      let r = k.work.receives in
      let cut : CutShort now (line_received old.line now r.received k.work.got) old.box new.box old.news new.news fault =
      subst (λ (l : Line). CutShort now l old.box new.box old.news new.news fault) r.line k.work.cut in
      record {
        now = now;
        received = r.received;
        frames = cut.frames;
        refusal = cut.refusal;
        few = cut.few;
        made = record {
          cut = record { got = k.work.got; taken = cut.taken; is = cut.is };
          more = (k.little, k.unended);
          found = r.found;
          moved = r.moved;
          moment = refl;
          clock = clock;
        };
        timely = record { bytes = r.bytes; time = time };
        tried = cut.tried;
        is_tried = cut.is_tried;
        refuses = cut.refuses;
        past = cut.past;
        recorded = cut.recorded;
        of_inbox = cut.of_inbox;
        news_are = cut.news_are;
      }

  pub cut_is_one : (box : Inbox J G) → CutIsOne box
  cut_is_one box eager before after old new fault time clock (inl none) = inl none
  cut_is_one box eager before after old new fault time clock (inr k) = inr (cut_more_is_one eager before after old new fault time clock k)
