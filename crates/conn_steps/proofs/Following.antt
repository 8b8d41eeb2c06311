-- Frames that are answered one after another, as the line, the inbox and the news go on over them.
use Rattle.std.proofs.Common.{◌≡◌, ℕ, ◌+◌, ◌<◌, ◌≤◌, Bool, true, false, if◌then◌else◌, List, [], ◌∷◌, ◌++◌, length, take, drop, Some, refl, sym, ap, subst, ◌∙◌, arith, append_assoc, append-nil, length-append}
use Rattle.std.specs.Prelude.{replicate}
use Rattle.session_model.specs.Inbox.{InboxRecord, Numbered}
use Rattle.sofh_frame.specs.Framing.{Frame, BeginsWith}
use Rattle.fixp_replies.specs.declared.act.Act.{Act}
use Rattle.fixp_replies.specs.Incoming.{Incoming, IsIncoming}
use Rattle.fixp_machine.specs.Machine.{State, run}
use Rattle.fixp_machine.specs.Machine as calls
use Rattle.jr_dated.specs.declared.journal.Journal.{Ghosts}
use Rattle.jr_kept.specs.declared.inbox.Inbox.{Inbox}
use Rattle.jr_kept.specs.Inbox.{next_of}
use Rattle.conn_turns.specs.declared.news.NewsItem.{NewsItem}
use Rattle.conn_turns.specs.declared.answer.TurnFault.{TurnFault}
use Rattle.conn_turns.specs.Lines.{Line, TakenFrame, size_of, MayTake, IsNext, IsTaken, act_calls, ready_in, line_after, lines_after}
use Rattle.conn_turns.specs.Frames.{applies, delivers, added, told}
use Rattle.conn_turns.specs.Gathering.{numbered_from, message_of, settled_by, handed_by, lets_wait, flushed_by, left_by, act_at, messages_of, messages_in, settled_first, handed_first}
use Rattle.conn_turns.proofs.Taking.{run_append, lines_more, taken_more}
use Rattle.conn_turns.proofs.Gathering.{wait_settles, wait_hands, added_latest, told_latest, lines_append, taken_append, added_append, told_append, messages_more, wait_more, settled_more, handed_more}
use Rattle.conn_steps.specs.Settling.{Gains, AllStand}
use Rattle.conn_steps.specs.Agreeing.{IsInTurn, KeepsOwn}
use Rattle.conn_steps.specs.Ends.{Intake, TakingEnd, GatheringEnd, intake, waiting_in, answering_end, gathering_end, taking_end}
use Rattle.conn_steps.specs.Taking.{taken_as, messages_at, AnsweredFrame, RefusedAnswer, Undone, TookFrame, RefusedFrame, LatestFrames, GatheredFrames, TookFrames}
use Rattle.conn_steps.proofs.Rooms.{gains_none, gains_on}

-- a line is its seven parts
pub line_is : (a b : Line) → a.machine ≡ b.machine → a.held ≡ b.held → a.place ≡ b.place → a.over ≡ b.over → a.serves ≡ b.serves → a.waits ≡ b.waits → a.per_turn ≡ b.per_turn → a ≡ b
line_is a b machine held place over serves waits per_turn =
    ap (λ (m : State). record { machine = m; held = a.held; place = a.place; over = a.over; serves = a.serves; waits = a.waits; per_turn = a.per_turn }) machine
    ∙ (ap (λ (h : List ℕ). record { machine = b.machine; held = h; place = a.place; over = a.over; serves = a.serves; waits = a.waits; per_turn = a.per_turn }) held
    ∙ (ap (λ (n : ℕ). record { machine = b.machine; held = b.held; place = n; over = a.over; serves = a.serves; waits = a.waits; per_turn = a.per_turn }) place
    ∙ (ap (λ (o : Bool). record { machine = b.machine; held = b.held; place = b.place; over = o; serves = a.serves; waits = a.waits; per_turn = a.per_turn }) over
    ∙ (ap (λ (o : Bool). record { machine = b.machine; held = b.held; place = b.place; over = b.over; serves = o; waits = a.waits; per_turn = a.per_turn }) serves
    ∙ (ap (λ (o : Bool). record { machine = b.machine; held = b.held; place = b.place; over = b.over; serves = b.serves; waits = o; per_turn = a.per_turn }) waits
    ∙ ap (λ (n : ℕ). record { machine = b.machine; held = b.held; place = b.place; over = b.over; serves = b.serves; waits = b.waits; per_turn = n }) per_turn)))))

-- a frame at the front of what is held
next_is : (l : Line) (f : Frame) (size : ℕ) (t : TakenFrame) → MayTake l → BeginsWith l.held f size → t.frame ≡ f → t.at ≡ l.place → IsIncoming t.frame.order t.frame.message t.incoming → IsNext l t
next_is l f size t may begins frame at is = record {
  may = may;
  begins = subst (λ (x : Frame). BeginsWith l.held x (size_of x)) (sym frame) (subst (λ (n : ℕ). BeginsWith l.held f n) begins.counts begins);
  at = at;
  is = is;
}

-- what an in-turn machine keeps with fewer frames before it
pub in_turn_less : (m : State) (now more fewer bytes : ℕ) → fewer ≤ more → IsInTurn m now more bytes → IsInTurn m now fewer bytes
in_turn_less m now more fewer bytes less h = record {
  begun = h.begun;
  done = h.done;
  drained = h.drained;
  time = h.time;
  room = omega (arith, h.room, less);
  credentials = h.credentials;
  unsent = omega (arith, h.unsent, less);
  output = h.output;
  untold = omega (arith, h.untold, less);
}

pub keeps_self : (m : State) → KeepsOwn m m
keeps_self m = record { config = refl; most = refl; sent = omega arith; finish = refl }

pub keeps_on : (a b c : State) → KeepsOwn a b → KeepsOwn b c → KeepsOwn a c
keeps_on a b c first second = record { config = second.config ∙ first.config; most = second.most ∙ first.most; sent = omega (arith, second.sent, first.sent); finish = second.finish ∙ first.finish }

-- a frame at the front of what is held, as it is taken: its act done where that is a record, and all held messages that are ready applied
abbrev taken_whole : ℕ → Line → Frame → Incoming → TakenFrame
taken_whole now l f i = record (taken_as now l.machine l.place f i) { helds = length (ready_in (run l.machine (act_calls now (taken_as now l.machine l.place f i)))) }

is_taken : (now size : ℕ) (l : Line) (f : Frame) (i : Incoming) → MayTake l → BeginsWith l.held f size → IsIncoming f.order f.message i → IsTaken now l (taken_whole now l f i)
is_taken now size l f i may begins is = record { next = next_is l f size (taken_whole now l f i) may begins refl refl is; recorded = refl; helds = refl }

messages_are : (now : ℕ) (l : Line) (f : Frame) (i : Incoming) → messages_of now l (taken_whole now l f i) ≡ messages_at now l.machine l.place f i
unfolding messages_of
messages_are now l f i = refl

module _ {J : Type 0} {G : Ghosts J} where
  -- a frame that was answered, once its bytes are dropped
  pub took : (now size : ℕ) (old new : Line) (f : Frame) (s after : Intake J G) → MayTake old → BeginsWith old.held f size
      → AnsweredFrame now (answering_end old.machine s) (answering_end new.machine after) f old.place → new.held ≡ drop size old.held → new.place ≡ old.place + size → new.over ≡ old.over → new.serves ≡ old.serves → new.waits ≡ old.waits → new.per_turn ≡ old.per_turn
      → TookFrame now (gathering_end old s) (gathering_end new after)
  unfolding line_after messages_of
  took now size old new f s after may begins a held place over serves waits per_turn = record {
    frame = t;
    taken = is_taken now size old f a.act.incoming may begins a.act.is;
    line = line_is new (line_after now old t)
        (a.machine ∙ (ap (λ (m : State). run m (replicate (length (ready_in m)) calls.held_done)) a.act.machine ∙ sym (run_append old.machine (act_calls now t) (replicate t.helds calls.held_done))))
        (held ∙ ap (λ (n : ℕ). drop n old.held) begins.counts) (place ∙ ap (λ (n : ℕ). old.place + n) begins.counts) over serves waits per_turn;
    done = record {
      gains = a.act.done.gains;
      news_are = a.act.done.news_are;
      waits = a.waits ∙ (ap (λ (ms : List Numbered). ms ++ ready_in a.behind) a.act.done.waits
          ∙ (append_assoc (left_by act (waiting_in s)) (message_of act a.act.incoming) (ready_in a.behind)
          ∙ ap (λ (m : State). left_by act (waiting_in s) ++ (message_of act a.act.incoming ++ ready_in m)) a.act.machine));
    };
  }
    where
      t : TakenFrame
      t = taken_whole now old f a.act.incoming

      act : Act
      act = act_at now old t

  -- the next frame, of which something was refused
  pub was_refused : (now size : ℕ) (old new : Line) (f : Frame) (s after : Intake J G) (fault : TurnFault) → MayTake old → BeginsWith old.held f size
      → RefusedAnswer now (answering_end old.machine s) (answering_end new.machine after) f old.place fault → RefusedFrame now (gathering_end old s) (gathering_end new after) fault
  was_refused now size old new f s after fault may begins r = record {
    frame = t;
    taken = is_taken now size old f r.incoming may begins r.is;
    cause = r.cause;
    caused = r.caused;
    undone = subst (λ (ms : List Numbered). Undone s after (act_at now old t) ms r.cause) (sym (messages_are now old f r.incoming)) r.undone;
  }
    where
      t : TakenFrame
      t = taken_whole now old f r.incoming

  -- none was taken yet
  pub gathered_none : (now : ℕ) (l : Line) (box : Inbox J G) (news : List NewsItem) (gathered : List (List ℕ)) → gathered ≡ [] → GatheredFrames now 0 (taking_end l box news) (gathering_end l (intake box news gathered))
  gathered_none now l box news gathered none = record {
    frames = record {
      stable = [];
      latest = [];
      many = refl;
      taken = tt;
      taken_latest = tt;
      wait = tt;
      gains = gains_none box box refl;
      news_are = sym (append-nil news);
    };
    line = refl;
    waits = ap (λ (ps : List (List ℕ)). numbered_from (next_of box) ps) none;
  }

  -- what becomes of frames that were taken as one more is, before whose act what waited was made stable, unless it lets that wait
  pub record OneMore (now count : ℕ) (old : TakingEnd J G) (box : Inbox J G) (news : List NewsItem) (f : LatestFrames now count old box news) (after : Inbox J G) (later : List NewsItem) (t : TakenFrame) : Type 0 where
    pub frames : LatestFrames now (count + 1) old after later
    pub line : lines_after now (lines_after now old.line frames.stable) frames.latest ≡ line_after now (lines_after now (lines_after now old.line f.stable) f.latest) t
    pub messages : messages_in now (lines_after now old.line frames.stable) frames.latest
        ≡ left_by (act_at now (lines_after now (lines_after now old.line f.stable) f.latest) t) (messages_in now (lines_after now old.line f.stable) f.latest)
        ++ messages_of now (lines_after now (lines_after now old.line f.stable) f.latest) t

  pub one_more : (now count : ℕ) (old : TakingEnd J G) (box : Inbox J G) (news : List NewsItem) (f : LatestFrames now count old box news) (after : Inbox J G) (later : List NewsItem) (t : TakenFrame) (act : Act) (ms : List Numbered)
      → act ≡ act_at now (lines_after now (lines_after now old.line f.stable) f.latest) t → ms ≡ messages_in now (lines_after now old.line f.stable) f.latest
      → IsTaken now (lines_after now (lines_after now old.line f.stable) f.latest) t
      → Gains box after (applies (flushed_by act ms) ++ settled_by act) → later ≡ news ++ (delivers (flushed_by act ms) ++ handed_by act)
      → OneMore now count old box news f after later t
  one_more now count old box news f after later t act ms is are taken gains said = by_wait (lets_wait act) refl
    where
      l : Line
      l = lines_after now old.line f.stable

      behind : Line
      behind = lines_after now l f.latest

      here : (b : Bool) → lets_wait act ≡ b → lets_wait (act_at now behind t) ≡ b
      here b e = ap lets_wait (sym is) ∙ e

      by_wait : (b : Bool) → lets_wait act ≡ b → OneMore now count old box news f after later t
      by_wait true e = record {
        frames = record {
          stable = f.stable;
          latest = f.latest ++ t ∷ [];
          many = omega (arith, f.many, length-append f.latest (t ∷ []));
          taken = f.taken;
          taken_latest = taken_more now l f.latest t f.taken_latest taken;
          wait = wait_more now l f.latest t f.wait (here true e);
          gains = subst (λ (rs : List InboxRecord). Gains old.box after (added now old.line f.stable ++ rs)) (sym (settled_more now l f.latest t (here true e)))
              (subst (λ (rs : List InboxRecord). Gains old.box after rs) (append-nil (added now old.line f.stable ++ settled_first now l f.latest))
              (gains_on old.box box after (added now old.line f.stable ++ settled_first now l f.latest) [] f.gains (subst (λ (rs : List InboxRecord). Gains box after rs) nothing gains)));
          news_are = said ∙ (ap (λ (ns : List NewsItem). news ++ ns) silent ∙ (append-nil news ∙ (f.news_are
              ∙ ap (λ (ns : List NewsItem). old.news ++ (told now old.line f.stable ++ ns)) (sym (handed_more now l f.latest t (here true e))))));
        };
        line = lines_more now l f.latest t;
        messages = messages_more now l f.latest t
            ∙ ap (λ (b : Bool). (if b then messages_in now l f.latest else []) ++ messages_of now behind t) (sym (here true e));
      }
        where
          nothing : applies (flushed_by act ms) ++ settled_by act ≡ []
          nothing = ap (λ (b : Bool). applies (if b then [] else ms) ++ settled_by act) e ∙ wait_settles act e

          silent : delivers (flushed_by act ms) ++ handed_by act ≡ []
          silent = ap (λ (b : Bool). delivers (if b then [] else ms) ++ handed_by act) e ∙ wait_hands act e
      by_wait false e = record {
        frames = record {
          stable = f.stable ++ f.latest;
          latest = t ∷ [];
          many = omega (arith, f.many, length-append f.stable f.latest);
          taken = taken_append now old.line f.stable f.latest f.taken f.taken_latest;
          taken_latest = (subst (λ (x : Line). IsTaken now x t) (sym there) taken, tt);
          wait = tt;
          gains = subst (λ (rs : List InboxRecord). Gains old.box after rs) all
              (gains_on old.box box after (added now old.line f.stable ++ settled_first now l f.latest) (applies ms ++ settled_by act) f.gains
              (subst (λ (b : Bool). Gains box after (applies (if b then [] else ms) ++ settled_by act)) e gains));
          news_are = said ∙ (ap (λ (b : Bool). news ++ (delivers (if b then [] else ms) ++ handed_by act)) e
              ∙ (ap (λ (ns : List NewsItem). ns ++ (delivers ms ++ handed_by act)) f.news_are
              ∙ (append_assoc old.news (told now old.line f.stable ++ handed_first now l f.latest) (delivers ms ++ handed_by act)
              ∙ ap (λ (ns : List NewsItem). old.news ++ ns) shown)));
        };
        line = ap (λ (x : Line). line_after now x t) there;
        messages = append-nil (messages_of now (lines_after now old.line (f.stable ++ f.latest)) t) ∙ (ap (λ (x : Line). messages_of now x t) there
            ∙ ap (λ (b : Bool). (if b then messages_in now l f.latest else []) ++ messages_of now behind t) (sym (here false e)));
      }
        where
          there : lines_after now old.line (f.stable ++ f.latest) ≡ behind
          there = lines_append now old.line f.stable f.latest

          same : act ≡ act_at now (lines_after now old.line (f.stable ++ f.latest)) t
          same = is ∙ ap (λ (x : Line). act_at now x t) (sym there)

          all : (added now old.line f.stable ++ settled_first now l f.latest) ++ (applies ms ++ settled_by act)
              ≡ added now old.line (f.stable ++ f.latest) ++ settled_by (act_at now (lines_after now old.line (f.stable ++ f.latest)) t)
          all =
              append_assoc (added now old.line f.stable) (settled_first now l f.latest) (applies ms ++ settled_by act)
              ∙ (ap (λ (rs : List InboxRecord). added now old.line f.stable ++ rs) (sym (append_assoc (settled_first now l f.latest) (applies ms) (settled_by act)))
              ∙ (ap (λ (xs : List Numbered). added now old.line f.stable ++ ((settled_first now l f.latest ++ applies xs) ++ settled_by act)) are
              ∙ (ap (λ (rs : List InboxRecord). added now old.line f.stable ++ (rs ++ settled_by act)) (sym (added_latest now l f.latest f.wait))
              ∙ (sym (append_assoc (added now old.line f.stable) (added now l f.latest) (settled_by act))
              ∙ (ap (λ (rs : List InboxRecord). rs ++ settled_by act) (sym (added_append now old.line f.stable f.latest))
              ∙ ap (λ (a : Act). added now old.line (f.stable ++ f.latest) ++ settled_by a) same)))))

          shown : (told now old.line f.stable ++ handed_first now l f.latest) ++ (delivers ms ++ handed_by act)
              ≡ told now old.line (f.stable ++ f.latest) ++ handed_by (act_at now (lines_after now old.line (f.stable ++ f.latest)) t)
          shown =
              append_assoc (told now old.line f.stable) (handed_first now l f.latest) (delivers ms ++ handed_by act)
              ∙ (ap (λ (ns : List NewsItem). told now old.line f.stable ++ ns) (sym (append_assoc (handed_first now l f.latest) (delivers ms) (handed_by act)))
              ∙ (ap (λ (xs : List Numbered). told now old.line f.stable ++ ((handed_first now l f.latest ++ delivers xs) ++ handed_by act)) are
              ∙ (ap (λ (ns : List NewsItem). told now old.line f.stable ++ (ns ++ handed_by act)) (sym (told_latest now l f.latest f.wait))
              ∙ (sym (append_assoc (told now old.line f.stable) (told now l f.latest) (handed_by act))
              ∙ (ap (λ (ns : List NewsItem). ns ++ handed_by act) (sym (told_append now old.line f.stable f.latest))
              ∙ ap (λ (a : Act). told now old.line (f.stable ++ f.latest) ++ handed_by a) same)))))

  -- one more was taken
  pub gathered_more : (now count : ℕ) (old : TakingEnd J G) (mid new : GatheringEnd J G) → GatheredFrames now count old mid → TookFrame now mid new → GatheredFrames now (count + 1) old new
  gathered_more now count old mid new g one =
      let t = one.frame in
      let more = one_more now count old mid.intake.box mid.intake.news g.frames new.intake.box new.intake.news t (act_at now mid.line t) (waiting_in mid.intake)
      (ap (λ (x : Line). act_at now x t) g.line) g.waits (subst (λ (x : Line). IsTaken now x t) g.line one.taken) one.done.gains one.done.news_are in
      record {
        frames = more.frames;
        line = one.line ∙ (ap (λ (x : Line). line_after now x t) g.line ∙ sym more.line);
        waits = one.done.waits ∙ (ap (λ (x : Line). left_by (act_at now x t) (waiting_in mid.intake) ++ messages_of now x t) g.line
            ∙ (ap (λ (ms : List Numbered). left_by (act_at now (lines_after now (lines_after now old.line g.frames.stable) g.frames.latest) t) ms
            ++ messages_of now (lines_after now (lines_after now old.line g.frames.stable) g.frames.latest) t) g.waits ∙ sym more.messages));
      }

  -- all that is gathered was made stable
  pub all_stable : (now count : ℕ) (old : TakingEnd J G) (new : GatheringEnd J G) (after : Inbox J G) (later : List NewsItem) → GatheredFrames now count old new
      → AllStand new.intake.box after new.intake.news later (waiting_in new.intake) → TookFrames now count old (taking_end new.line after later)
  all_stable now count old new after later g s =
      let f = g.frames in
      let l : Line = lines_after now old.line f.stable in
      record {
        frames = f.stable ++ f.latest;
        many = length-append f.stable f.latest ∙ f.many;
        taken = taken_append now old.line f.stable f.latest f.taken f.taken_latest;
        line = g.line ∙ sym (lines_append now old.line f.stable f.latest);
        gains = subst (λ (rs : List InboxRecord). Gains old.box after rs)
            (append_assoc (added now old.line f.stable) (settled_first now l f.latest) (applies (waiting_in new.intake))
            ∙ (ap (λ (ms : List Numbered). added now old.line f.stable ++ (settled_first now l f.latest ++ applies ms)) g.waits
            ∙ (ap (λ (rs : List InboxRecord). added now old.line f.stable ++ rs) (sym (added_latest now l f.latest f.wait)) ∙ sym (added_append now old.line f.stable f.latest))))
            (gains_on old.box new.intake.box after (added now old.line f.stable ++ settled_first now l f.latest) (applies (waiting_in new.intake)) f.gains s.gains);
        news_are = s.news_are ∙ (ap (λ (ns : List NewsItem). ns ++ delivers (waiting_in new.intake)) f.news_are
            ∙ (append_assoc old.news (told now old.line f.stable ++ handed_first now l f.latest) (delivers (waiting_in new.intake))
            ∙ ap (λ (ns : List NewsItem). old.news ++ ns)
            (append_assoc (told now old.line f.stable) (handed_first now l f.latest) (delivers (waiting_in new.intake))
            ∙ (ap (λ (ms : List Numbered). told now old.line f.stable ++ (handed_first now l f.latest ++ delivers ms)) g.waits
            ∙ (ap (λ (ns : List NewsItem). told now old.line f.stable ++ ns) (sym (told_latest now l f.latest f.wait)) ∙ sym (told_append now old.line f.stable f.latest))))));
      }
