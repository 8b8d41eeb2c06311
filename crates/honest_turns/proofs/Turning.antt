-- A whole turn of an end as steps of a world.
use Rattle.std.proofs.Common.{◌≡◌, ℕ, Bool, true, false, ◌&&◌, not, if◌then◌else◌, List, [], ◌∷◌, ◌++◌, length, Option, Some, None, refl, sym, ap, subst, ◌∙◌, append-nil, append_assoc, true≢false}
use Rattle.std.specs.Prelude.{nat_lt}
use Rattle.std.specs.List.{AllByRecursion}
use Rattle.session_model.specs.Journal.{Entry, History, BeginsHistory}
use Rattle.session_model.proofs.Lists.{all_append}
use Rattle.sofh_frame.specs.Framing.{first_of}
use Rattle.fixp_shake.specs.Flows.{is_absent}
use Rattle.fixp_machine.specs.Machine.{State, Call, tick, turn_done, closed, link_end, reserve, step, run, IsDrained}
use Rattle.conn_turns.specs.Lines.{Line, TakenFrame, lines_after}
use Rattle.conn_turns.specs.Frames.{is_bad, may_take}
use Rattle.conn_turns.specs.Turns.{Turn, only_sends, works, link_lost, cut_short, not_begun, first_calls, calls_of_frames, bad_calls, end_calls, closing_calls, again_calls, live_calls, finish_calls, outbox_calls, sending_calls, calls_of, finish_of}
use Rattle.conn_turns.specs.Exact.{closed_at}
use Rattle.conn_turns.proofs.Taking.{due_unless}
use Rattle.connection_laws.specs.Writing.{Piece, bytes_written}
use Rattle.connection_laws.specs.Framed.{IsLegalPiece}
use Rattle.connection_laws.specs.Courses.{Course, next_course, course_after}
use Rattle.connection_laws.specs.Standing.{AllMayStand}
use Rattle.connection_laws.specs.Ranges.{IsInTime, FitsCall}
use Rattle.turn_laws.specs.Turns.{line_received, IsTurn}
use Rattle.turn_laws.specs.Legs.{given_in, moment_of}
use Rattle.turn_laws.proofs.Draining.{first_drained}
use Rattle.honest_ends.specs.Worlds.{World, Step, initiator_does, initiator_calls, IsOther}
use Rattle.honest_turns.specs.Steps.{does_all, frames_steps, initiator_steps, taken_in}
use Rattle.honest_turns.proofs.Reaching.{Reaches, one, leads}
use Rattle.honest_turns.proofs.Calling.{calls_then, state_then, others, others_by, may_first, may_second}
use Rattle.honest_turns.proofs.Hearing.{not_bad, FramesRead, frames_read, AreHeard, heard_of_taken}

-- the calls of a turn beside its frames are none of frames, and come without numbers
sending_other : (h : List Entry) (sent : List ℕ) (lost : Bool) → AllByRecursion (IsOther h) (sending_calls sent lost)
sending_other h sent true = (tt, tt)
sending_other h sent false = (tt, tt)

sending_fits : (sent : List ℕ) (lost : Bool) → AllByRecursion FitsCall (sending_calls sent lost)
sending_fits sent true = (tt, tt)
sending_fits sent false = (tt, tt)

closing_other : (h : List Entry) (now : ℕ) (broken : Option ℕ) (over : Bool) → broken ≡ None → AllByRecursion (IsOther h) (bad_calls now broken ++ (end_calls over ++ turn_done now ∷ []))
closing_other h now None true none = (tt, (tt, tt))
closing_other h now None false none = (tt, tt)
closing_other h now (Some at) over none = absurd (cc none)

closing_fits : (now : ℕ) (broken : Option ℕ) (over : Bool) → AllByRecursion FitsCall (bad_calls now broken ++ (end_calls over ++ turn_done now ∷ []))
closing_fits now None true = (tt, (tt, tt))
closing_fits now None false = (tt, tt)
closing_fits now (Some at) true = (tt, (tt, (tt, tt)))
closing_fits now (Some at) false = (tt, (tt, tt))

outbox_other : (h : List Entry) (now : ℕ) (agains lives : Option (List (List ℕ))) (finish : Option ℕ) → AllByRecursion (IsOther h) (finish_calls now finish)
    → AllByRecursion (IsOther h) (again_calls now agains ++ (live_calls now lives ++ finish_calls now finish))
outbox_other h now None None finish last = last
outbox_other h now None (Some l) finish last = (tt, last)
outbox_other h now (Some a) None finish last = (tt, last)
outbox_other h now (Some a) (Some l) finish last = (tt, (tt, last))

outbox_fits : (now : ℕ) (agains lives : Option (List (List ℕ))) (finish : Option ℕ) → AllByRecursion FitsCall (again_calls now agains ++ (live_calls now lives ++ finish_calls now finish))
outbox_fits now agains lives None = by_sent agains lives
  where
    by_sent : (agains lives : Option (List (List ℕ))) → AllByRecursion FitsCall (again_calls now agains ++ (live_calls now lives ++ []))
    by_sent None None = tt
    by_sent None (Some l) = (tt, tt)
    by_sent (Some a) None = (tt, tt)
    by_sent (Some a) (Some l) = (tt, (tt, tt))
outbox_fits now agains lives (Some last) = by_sent agains lives
  where
    by_sent : (agains lives : Option (List (List ℕ))) → AllByRecursion FitsCall (again_calls now agains ++ (live_calls now lives ++ closed last now ∷ []))
    by_sent None None = (tt, tt)
    by_sent None (Some l) = (tt, (tt, tt))
    by_sent (Some a) None = (tt, (tt, tt))
    by_sent (Some a) (Some l) = (tt, (tt, (tt, tt)))

-- a finish that is told is that of the whole outbox
finish_other : (outbox seen : History) (m : State) (now : ℕ) (finish : Option ℕ) → finish ≡ finish_of m seen → BeginsHistory seen outbox → AllByRecursion (IsOther outbox.made) (finish_calls now finish)
finish_other outbox seen m now None e begins = tt
finish_other outbox seen m now (Some last) e begins = (by_mark (not (is_absent m.config.own_flow)) seen.finished refl e, tt)
  where
    by_mark : (there finished : Bool) → seen.finished ≡ finished → Some last ≡ (if there && finished then Some (length seen.made) else None) → last ≡ length outbox.made
    by_mark true true f e = let same : last ≡ length seen.made = cc e in same ∙ ap (λ (h : History). length h.made) (begins.alone f)
    by_mark true false f e = absurd (cc e)
    by_mark false finished f e = absurd (cc e)

pub none_broken : (few may bad : Bool) (place : ℕ) → bad ≡ false → (if few && may && bad then Some place else None) ≡ None
none_broken true true true place e = absurd (true≢false e)
none_broken true true false place e = refl
none_broken true false bad place e = refl
none_broken false may bad place e = refl

-- a turn, by steps of the world: what is left to read of what the other wrote
pub record TurnSteps (hi ha : List Entry) (w : World) (old new : Line) (t : Turn) : Type 0 where
  pub left : List Piece
  pub reaches : Reaches hi ha w (initiator_calls w left (calls_of t))
  pub by : reaches.steps ≡ initiator_steps t
  pub read : List Piece
  pub joins : w.homeward ≡ read ++ left
  pub counts : length read ≡ length (taken_in t)
  pub goes_on : (tail : List ℕ) → (old.held ++ given_in t) ++ tail ≡ bytes_written w.homeward → new.held ++ tail ≡ bytes_written left
  pub legal : AllByRecursion IsLegalPiece left
  pub fits : AllByRecursion FitsCall (calls_of t)

-- each turn begins with a reserve, whatever room there was before
abbrev reserved : (hi ha : List Entry) (w : World) → Reaches hi ha w (initiator_calls w w.homeward (reserve ∷ []))
reserved hi ha w = one hi ha w (initiator_does reserve) (tt, record { may_call = tt; comes = tt })

-- some calls behind it
abbrev reserved_then : (hi ha : List Entry) (w : World) (c : Course) (m : State) (cs : List Call) → c.state ≡ m → step w.initiator reserve ≡ step m reserve → AllMayStand hi c (reserve ∷ cs)
    → AllByRecursion (IsOther hi) cs → Reaches hi ha w (initiator_calls w w.homeward (reserve ∷ cs))
reserved_then hi ha w c m cs is alike may other =
    calls_then hi ha w w.homeward w.homeward (reserve ∷ []) cs (reserved hi ha w)
    (others hi ha (initiator_calls w w.homeward (reserve ∷ [])) (next_course c reserve) cs (state_then c m (reserve ∷ []) is ∙ sym alike) may.1 other)

reserved_by : (hi ha : List Entry) (w : World) (c : Course) (m : State) (cs : List Call) (is : c.state ≡ m) (alike : step w.initiator reserve ≡ step m reserve) (may : AllMayStand hi c (reserve ∷ cs)) (other : AllByRecursion (IsOther hi) cs)
    → (reserved_then hi ha w c m cs is alike may other).steps ≡ does_all (reserve ∷ cs)
reserved_by hi ha w c m cs is alike may other =
    ap (λ (ss : List Step). initiator_does reserve ∷ ss) (others_by hi ha (initiator_calls w w.homeward (reserve ∷ [])) (next_course c reserve) cs (state_then c m (reserve ∷ []) is ∙ sym alike) may.1 other)

-- a turn that takes no frame
quiet_steps : (hi ha : List Entry) (w : World) (c : Course) (old new : Line) (t : Turn) (cs : List Call) → calls_of t ≡ reserve ∷ cs → initiator_steps t ≡ does_all (reserve ∷ cs) → taken_in t ≡ [] → given_in t ≡ [] → new.held ≡ old.held
    → c.state ≡ old.machine → step w.initiator reserve ≡ step old.machine reserve → AllMayStand hi c (calls_of t) → AllByRecursion (IsOther hi) cs → AllByRecursion FitsCall cs
    → AllByRecursion IsLegalPiece w.homeward → TurnSteps hi ha w old new t
quiet_steps hi ha w c old new t cs made steps unread none held is alike may other fits legal = record {
  left = w.homeward;
  reaches = leads hi ha w (initiator_calls w w.homeward (reserve ∷ cs)) (initiator_calls w w.homeward (calls_of t))
      (reserved_then hi ha w c old.machine cs is alike (subst (λ (ds : List Call). AllMayStand hi c ds) made may) other) (ap (λ (ds : List Call). initiator_calls w w.homeward ds) (sym made));
  by = reserved_by hi ha w c old.machine cs is alike (subst (λ (ds : List Call). AllMayStand hi c ds) made may) other ∙ sym steps;
  read = [];
  joins = refl;
  counts = sym (ap length unread);
  goes_on = λ tail e.
      ap (λ (bs : List ℕ). bs ++ tail) (held ∙ (sym (append-nil old.held) ∙ ap (λ (bs : List ℕ). old.held ++ bs) (sym none))) ∙ e;
  legal = legal;
  fits = subst (λ (ds : List Call). AllByRecursion FitsCall ds) (sym made) (tt, fits);
}

-- the tick of a turn, and the frames that it took of what it received
pub took_steps : (h ha : List Entry) (w : World) (c : Course) (old l : Line) (now : ℕ) (frames : List TakenFrame) (tail : List ℕ) → c.state ≡ old.machine → step w.initiator reserve ≡ step old.machine reserve
    → l.machine ≡ run old.machine (first_calls now) → AllMayStand h c (first_calls now ++ calls_of_frames now frames) → AreHeard now l frames → IsInTime now → AllByRecursion IsLegalPiece w.homeward
    → l.held ++ tail ≡ bytes_written w.homeward → FramesRead h ha w (first_calls now ++ calls_of_frames now frames) (does_all (first_calls now) ++ frames_steps now frames) (length frames) l.held (lines_after now l frames).held
took_steps h ha w c old l now frames tail is alike made may taken time legal e = record {
  left = y.left;
  reaches = calls_then h ha w w.homeward y.left first took x y.reaches;
  by = ap (λ (ss : List Step). ss ++ y.reaches.steps) (reserved_by h ha w c old.machine (tick now ∷ []) is alike (may_first h c first took may) (tt, tt)) ∙ ap (λ (ss : List Step). does_all first ++ ss) y.by;
  read = y.read;
  joins = y.joins;
  counts = y.counts;
  goes_on = y.goes_on;
  legal = y.legal;
  fits = (tt, (tt, y.fits));
}
  where
    first : List Call
    first = first_calls now

    took : List Call
    took = calls_of_frames now frames

    x : Reaches h ha w (initiator_calls w w.homeward first)
    x = reserved_then h ha w c old.machine (tick now ∷ []) is alike (may_first h c first took may) (tt, tt)

    v : World
    v = initiator_calls w w.homeward first

    ticked : v.initiator ≡ l.machine
    ticked = ap (λ (s : State). step s (tick now)) alike ∙ sym made

    y : FramesRead h ha v took (frames_steps now frames) (length frames) l.held (lines_after now l frames).held
    y = frames_read h ha v (course_after c first) now l frames tail (state_then c old.machine first is ∙ (sym made ∙ sym ticked)) ticked (may_second h c first took may) taken time legal e

pub turn_steps : (outbox : History) (ha : List Entry) (w : World) (c : Course) (before after : History) (old new : Line) (t : Turn) (tail : List ℕ)
    → c.state ≡ old.machine → step w.initiator reserve ≡ step old.machine reserve → IsDrained old.machine → AllMayStand outbox.made c (calls_of t) → BeginsHistory after outbox → IsTurn before after old new t → IsInTime (moment_of t)
    → AllByRecursion IsLegalPiece w.homeward → (old.held ++ given_in t) ++ tail ≡ bytes_written w.homeward → TurnSteps outbox.made ha w old new t
turn_steps outbox ha w c before after old new (only_sends now sent lost) tail is alike drained may begins k time legal e =
    quiet_steps outbox.made ha w c old new (only_sends now sent lost) (tick now ∷ sending_calls sent lost) refl refl refl refl (ap (λ (l : Line). l.held) k.0.line) is alike may
    (tt, sending_other outbox.made sent lost) (tt, sending_fits sent lost) legal
turn_steps outbox ha w c before after old new (works a) tail is alike drained may begins k time legal e = record {
  left = y.left;
  reaches = calls_then h ha w y.left y.left (first ++ frames) rest y.reaches z;
  by = ap (λ (ss : List Step). ss ++ z.steps) y.by
      ∙ (append_assoc (does_all first) (frames_steps a.now a.frames) z.steps ∙ ap (λ (ss : List Step). does_all first ++ (frames_steps a.now a.frames ++ ss)) z_by);
  read = y.read;
  joins = y.joins;
  counts = y.counts;
  goes_on = λ more here. ap (λ (bs : List ℕ). bs ++ more) held ∙ y.goes_on more here;
  legal = y.legal;
  fits = (
    tt,
    (
      tt,
      all_append FitsCall frames rest y.fits.1.1
          (all_append FitsCall closing (outboxes ++ sending) (closing_fits a.now a.broken a.link_over) (all_append FitsCall outboxes sending (outbox_fits a.now a.again a.live a.finish) (sending_fits a.sent a.lost))),
    ),
  );
}
  where
    h : List Entry
    h = outbox.made

    first : List Call
    first = first_calls a.now

    frames : List Call
    frames = calls_of_frames a.now a.frames

    closing : List Call
    closing = closing_calls a

    outboxes : List Call
    outboxes = outbox_calls a

    sending : List Call
    sending = sending_calls a.sent a.lost

    rest : List Call
    rest = closing ++ (outboxes ++ sending)

    l : Line
    l = line_received old a.now a.received a.got

    y : FramesRead h ha w (first ++ frames) (does_all first ++ frames_steps a.now a.frames) (length a.frames) l.held (lines_after a.now l a.frames).held
    y = took_steps h ha w c old l a.now a.frames tail is alike refl (may_first h c (first ++ frames) rest may) (heard_of_taken a.now l a.frames (first_drained old.machine a.now drained) k.served.frames) time legal e

    r : Line
    r = lines_after a.now l a.frames

    broken : a.broken ≡ None
    broken = k.served.broken ∙ none_broken (nat_lt (length a.frames) r.per_turn) (may_take r) (is_bad (first_of r.held)) r.place (not_bad y.left r.held tail y.legal (y.goes_on tail e))

    last : AllByRecursion (IsOther h) (finish_calls a.now a.finish)
    last = due_unless l (finish_of (closed_at l a) a.at_finish) a.finish (λ (o : Option ℕ). AllByRecursion (IsOther h) (finish_calls a.now o)) k.served.finish tt
        (finish_other outbox a.at_finish (closed_at l a) a.now (finish_of (closed_at l a) a.at_finish) refl (subst (λ (s : History). BeginsHistory s outbox) (sym k.served.seen) begins))

    other : AllByRecursion (IsOther h) rest
    other = all_append (IsOther h) closing (outboxes ++ sending) (closing_other h a.now a.broken a.link_over broken)
        (all_append (IsOther h) outboxes sending (outbox_other h a.now a.again a.live a.finish last) (sending_other h a.sent a.lost))

    u : World
    u = initiator_calls w y.left (first ++ frames)

    u_is : (course_after c (first ++ frames)).state ≡ u.initiator
    u_is = state_then c old.machine (first ++ frames) is ∙ ap (λ (s : State). run s (tick a.now ∷ frames)) (sym alike)

    z : Reaches h ha u (initiator_calls u u.homeward rest)
    z = others h ha u (course_after c (first ++ frames)) rest u_is (may_second h c (first ++ frames) rest may) other

    z_by : z.steps ≡ does_all rest
    z_by = others_by h ha u (course_after c (first ++ frames)) rest u_is (may_second h c (first ++ frames) rest may) other

    held : new.held ≡ r.held
    held = ap (λ (n : Line). n.held) k.sends.line ∙ k.served.held
turn_steps outbox ha w c before after old new (link_lost now) tail is alike drained may begins k time legal e =
    quiet_steps outbox.made ha w c old new (link_lost now) (tick now ∷ link_end ∷ []) refl refl refl refl (ap (λ (l : Line). l.held) k.0) is alike may (tt, (tt, tt)) (tt, (tt, tt)) legal
turn_steps outbox ha w c before after old new (cut_short now received frames refused) tail is alike drained may begins k time legal e = absurd k
turn_steps outbox ha w c before after old new not_begun tail is alike drained may begins k time legal e = absurd k
