-- A turn's receive, work and sending, put together.
use Rattle.std.proofs.Common.{◌≡◌, inl, inr, ⊎_elim, ◌+◌, ◌<◌, ℕ, Bool, true, false, List, [], ◌++◌, ◌≤◌, length, Option, Some, None, Result, Ok, Err, refl, sym, ap, subst, ◌∙◌, arith, append-nil, true≢false}
use Rattle.std.specs.Prelude.{IsSome, ◌⊎◌, ◌==◌, ◌&&◌, ◌||◌, not, nat_le, OnOk, IfOk, IfErr}
use Rattle.gw_outside.specs.Faults.{HasRisen}
use Rattle.gw_links.specs.Links.{LinkTold, Carried, Moved}
use Rattle.gw_links.specs.declared.link.Got.{Got}
use Rattle.gw_links.proofs.Moving.{moved_more}
use Rattle.fixp_machine.specs.Machine.{State, front_of}
use Rattle.jr_dated.specs.declared.journal.Journal.{Ghosts}
use Rattle.jr_kept.specs.declared.inbox.Inbox.{Inbox}
use Rattle.fixp_replies.specs.declared.act.Ending.{Ending}
use Rattle.fixp_replies.specs.declared.act.Ending.TheVariants as endings
use Rattle.conn_turns.specs.declared.news.NewsItem.{NewsItem}
use Rattle.conn_turns.specs.declared.answer.TurnFault.{TurnFault}
use Rattle.conn_turns.specs.declared.answer.TurnEnd.{TurnEnd}
use Rattle.conn_turns.specs.declared.answer.TurnEnd.TheVariants as ends
use Rattle.conn_turns.specs.Lines.{Line}
use Rattle.conn_turns.specs.Frames.{added, told}
use Rattle.conn_turns.specs.Turns.{Work}
use Rattle.conn_turns.specs.Exact.{Served, receives, most_unsent, line_ticked}
use Rattle.conn_steps.specs.Settling.{Gains}
use Rattle.fixp_shake.specs.Flows.{is_absent}
use Rattle.fixp_shake.specs.declared.config.EndConfig.{EndConfig}
use Rattle.fixp_replies.specs.declared.facts.Facts.{Facts}
use Rattle.gate_turn.specs.Views.{Part}
use Rattle.conn_turns.specs.declared.answer.TurnFault.TheVariants as faults
use Rattle.conn_steps.specs.Agreeing.{Agrees}
use Rattle.conn_loop.specs.Conn.{answer_of, GoesOn, HasSeen, HasLooked, KeepsAll, MayServe}
use Rattle.conn_loop.specs.Moving.{ReceivedOnce, SentOnce, IsLossOf, link_at}
use Rattle.conn_loop.proofs.Working.{seen_same}
use Rattle.conn_loop.specs.Turned.{received_by, ServedFrames, DidWork, Exchanged, CutWork, DidTurn, CutTurn, Leaves}
use Rattle.conn_steps.specs.Ends.{taking_end}
use Rattle.conn_loop.specs.Live.{EndAt}

-- a count of faults that rose behind some of them
pub risen_since : (old mid new : ℕ) → old ≤ mid → HasRisen mid new → HasRisen old new
risen_since old mid new few risen = omega (arith, few, risen)

-- a turn that answers that the connection goes on left it open
pub goes_on : (o : Option Ending) → ends.Go ≡ answer_of o → o ≡ None
goes_on None e = refl
goes_on (Some x) e = absurd (cc)

-- whatever a call answered
pub on_ok_any : {T E : Type 0} (P : Type 0) (r : Result T E) → P → OnOk r P
on_ok_any P (Ok x) p = p
on_ok_any P (Err e) p = tt

-- a link that failed as it sent gives no other fault
pub loss_cut : (old new : State) (r : Result TurnEnd TurnFault) (P : TurnFault → Type 0) → IsLossOf old new r → IfErr r (λ fault. (fault ≡ faults.Link → ⊥) → P fault)
loss_cut old new (Ok end) P h = tt
loss_cut old new (Err fault) P h = λ other. absurd (other h.0)

-- and where it gives that one, the connection ends as one whose link has ended
pub loss_ends : (old new : State) (r : Result TurnEnd TurnFault) → IsLossOf old new r → r ≡ Err faults.Link → new.ending ≡ Some endings.LinkEnded
loss_ends old new (Ok end) h e = absurd (cc)
loss_ends old new (Err fault) h e = h.2

pub loss_answer : (old new : State) (r : Result TurnEnd TurnFault) → IsLossOf old new r → IfOk r (λ end. end ≡ answer_of new.ending)
loss_answer old new (Ok end) h = h.0
loss_answer old new (Err fault) h = tt

-- a turn that answers that the connection goes on left it open
pub loss_goes : (old new : State) (r : Result TurnEnd TurnFault) → IsLossOf old new r → r ≡ Ok ends.Go → new.ending ≡ None
loss_goes old new r h e = goes_on new.ending (subst (λ (x : Result TurnEnd TurnFault). IsLossOf old new x) e h).0

pub goes_after : (now : ℕ) (mid new : State) (p : Part) → MayServe mid now 5000000 p → now < 17592186044416 → KeepsAll mid new mid.moment → new.facts ≡ mid.facts → length new.unsent ≤ length mid.unsent
    → (new.ending ≡ None → mid.ending ≡ None) → (mid.ending ≡ None → mid.untold ≡ []) → new.ending ≡ None → GoesOn new
goes_after now mid new p s limit k facts little goes untold none = record {
  begun = k.begun ∙ s.begun;
  unended = none;
  done = k.done s.done;
  drained = k.drained s.drained;
  untold = k.untold ∙ untold (goes none);
  unsent = omega (arith, little, s.little);
  time = omega (arith, k.time (omega arith), s.time, limit);
  sent = omega (arith, ap (λ (f : Facts). f.recorded.sent) facts, s.sent);
  credentials = omega (arith, ap (λ (x : EndConfig). length x.credentials) k.config, s.credentials);
}

-- the same of a turn that only sent
pub goes_still : (now : ℕ) (old l new : State) → GoesOn old → now < 17592186044416 → l.begun ≡ true → l.pending ≡ None → front_of l ≡ None → l.untold ≡ [] → l.moment ≡ now → l.config ≡ old.config → l.facts ≡ old.facts
    → (l.ending ≡ None → length l.unsent ≤ length old.unsent) → KeepsAll l new l.moment → new.facts ≡ l.facts → length new.unsent ≤ length l.unsent → (new.ending ≡ None → l.ending ≡ None) → new.ending ≡ None → GoesOn new
goes_still now old l new g limit begun done drained untold moment config facts small k same little goes none = record {
  begun = k.begun ∙ begun;
  unended = none;
  done = k.done done;
  drained = k.drained drained;
  untold = k.untold ∙ untold;
  unsent = omega (arith, little, small (goes none), g.unsent);
  time = omega (arith, k.time (omega arith), moment, limit);
  sent = omega (arith, ap (λ (f : Facts). f.recorded.sent) (same ∙ facts), g.sent);
  credentials = omega (arith, ap (λ (x : EndConfig). length x.credentials) (k.config ∙ config), g.credentials);
}

-- where nothing is unsent an end receives, and no output waits
idle_receives : (l : Line) → l.machine.unsent ≡ [] → receives l ≡ true
idle_receives l idle = ap (λ (bytes : List ℕ). (length bytes == 0) || (l.waits && nat_le (length bytes) (most_unsent l.per_turn))) idle

idle_waits : (waits : Bool) (unsent : List ℕ) → unsent ≡ [] → (waits && not (length unsent == 0)) ≡ false
idle_waits waits unsent idle = ap (λ (bytes : List ℕ). waits && not (length bytes == 0)) idle ∙ none waits
  where
    none : (b : Bool) → (b && false) ≡ false
    none true = refl
    none false = refl

-- a turn that only sent does not look; where it goes on, something was unsent
pub no_look : (l : Line) (n : State) (p : Part) (r : Result TurnEnd TurnFault) → (receives l ≡ false) ⊎ IsSome n.ending → (r ≡ Ok ends.Go → n.ending ≡ None) → HasLooked l.machine p p r
no_look l n p r why goes = record {
  most = omega arith;
  least = λ e idle flow. absurd (⊎_elim (λ none. true≢false (sym (idle_receives l idle) ∙ none)) (λ ended. true≢false (sym (subst (λ (o : Option Ending). IsSome o) (goes e) ended))) why);
}

-- it looks as its exchange does, whose machine is of the same configuration
pub looked_on : (l : Line) (n : State) (waits : Bool) (p q : Part) (r : Result TurnEnd TurnFault) → waits ≡ (l.waits && not (length l.machine.unsent == 0)) → n.config ≡ l.machine.config → q.turns ≤ p.turns + 2
    → (r ≡ Ok ends.Go → waits ≡ false → is_absent n.config.own_flow ≡ false → p.turns < q.turns) → HasLooked l.machine p q r
looked_on l n waits p q r is config most least = record {
  most = most;
  least = λ e idle flow. least e (is ∙ idle_waits l.waits l.machine.unsent idle) (ap (λ (x : EndConfig). is_absent x.own_flow) config ∙ flow);
}

module _ {J : Type 0} {G : Ghosts J} where
  pub did_work : (tells : Type 0) (losses between losses' : ℕ) (now : ℕ) (eager : Bool) (old new : EndAt J G) (told_between : Option LinkTold) (carried_between : Option Carried) (r mid : Line) (result : Result TurnEnd TurnFault) (got : Option Got)
      → ReceivedOnce eager old.told told_between old.carried carried_between old.line r got
      → ServedFrames tells now old.seen new.seen (taking_end r old.box old.news) (taking_end mid new.box new.news)
      → losses ≤ between → SentOnce (link_at between told_between carried_between) (link_at losses' new.told new.carried) mid new.line result
      → DidWork tells losses losses' now eager old new result
  did_work tells losses between losses' now eager old new told_between carried_between r mid result got x y few z =
      let w : Work = record y.work { got = got; received = x.received; sent = z.sent; lost = z.lost } in
      let s : Served old.seen new.seen (received_by old.line w) mid y.work = subst (λ (k : Line). Served old.seen new.seen k mid y.work) x.line y.served in
      record {
        work = w;
        faithful = y.faithful;
        at = y.at;
        bytes = x.bytes;
        received = x.found;
        behind = mid;
        served = record {
          frames = s.frames;
          few = s.few;
          last = s.last;
          broken = s.broken;
          link_over = s.link_over;
          due_again = s.due_again;
          due_live = s.due_live;
          again = s.again;
          live = s.live;
          finish = s.finish;
          seen_again = s.seen_again;
          seen_live = s.seen_live;
          seen_finish = s.seen_finish;
          seen = s.seen;
          machine = s.machine;
          held = s.held;
          place = s.place;
          over = s.over;
          serves = s.serves;
          waits = s.waits;
          per_turn = s.per_turn;
        };
        front = z.front;
        whole = z.whole;
        full = z.full;
        answer = z.answer;
        cause = λ e. risen_since losses between losses' few (z.cause e);
        kept = z.kept;
        line = z.line;
        gains = subst (λ (k : Line). Gains old.box new.box (added now k y.work.frames)) x.line y.gains;
        news_are = subst (λ (k : Line). new.news ≡ old.news ++ told now k y.work.frames) x.line y.news_are;
        moved = subst (λ (bytes : List ℕ). Moved old.told new.told old.carried new.carried bytes z.sent) (append-nil x.received)
            (moved_more old.told told_between new.told old.carried carried_between new.carried x.received [] [] z.sent x.moved z.moved);
      }

  -- the inbox agrees with a machine that knows the same
  pub agrees_same : (m n : State) (box : Inbox J G) → n.config ≡ m.config → n.most ≡ m.most → n.facts ≡ m.facts → Agrees m box → Agrees n box
  agrees_same m n box config most facts a = record {
    flow = a.flow ∙ sym (ap (λ (x : EndConfig). x.peer_flow) config);
    most = omega (arith, most, a.most);
    next = a.next ∙ sym (ap (λ (f : Facts). f.recorded.inbox_next) facts);
    negotiated = a.negotiated ∙ sym (ap (λ (f : Facts). f.recorded.negotiated) facts);
    peer_last = a.peer_last ∙ sym (ap (λ (f : Facts). f.recorded.peer_last) facts);
  }

  -- a turn that had no memory to begin did nothing
  pub cut_none : (now : ℕ) (eager : Bool) (old new : EndAt J G) → new.told ≡ old.told → new.carried ≡ old.carried → new.seen ≡ old.seen → new.line ≡ old.line → new.box ≡ old.box → new.news ≡ old.news
      → CutTurn now eager old new faults.Memory
  cut_none now eager old new told carried seen line box news =
      inl (refl, λ i. record { told = told i; carried = carried i; seen = seen i; line = line i; box = box i; news = news i })

  pub only_sent : (tells : Type 0) (losses losses' : ℕ) (now n : ℕ) (eager : Bool) (old new : EndAt J G) (l : Line) (result : Result TurnEnd TurnFault) → now ≡ n → l ≡ line_ticked old.line now
      → (receives old.line ≡ false) ⊎ IsSome l.machine.ending → SentOnce (link_at losses old.told old.carried) (link_at losses' new.told new.carried) l new.line result
      → new.box ≡ old.box → new.news ≡ old.news → new.seen ≡ old.seen → DidTurn tells losses losses' n eager old new result
  only_sent tells losses losses' now n eager old new l result is ticks why sent box news seen = inl (record {
    why = subst (λ (k : ℕ). (receives old.line ≡ false) ⊎ IsSome (line_ticked old.line k).machine.ending) is
        (subst (λ (x : Line). (receives old.line ≡ false) ⊎ IsSome x.machine.ending) ticks why);
    sent = subst (λ (k : ℕ). SentOnce (link_at losses old.told old.carried) (link_at losses' new.told new.carried) (line_ticked old.line k) new.line result) is
        (subst (λ (x : Line). SentOnce (link_at losses old.told old.carried) (link_at losses' new.told new.carried) x new.line result) ticks sent);
    same_box = box;
    same_news = news;
    same_seen = seen;
  })

  pub did_more : (tells : Type 0) (losses losses' : ℕ) (now n : ℕ) (eager : Bool) (old new : EndAt J G) (l : Line) (news : List NewsItem) (result : Result TurnEnd TurnFault) → now ≡ n → l ≡ line_ticked old.line now
      → receives old.line ≡ true → l.machine.ending ≡ None → news ≡ old.news → Exchanged tells losses losses' now eager (record old { line = l; news = news }) new result
      → DidTurn tells losses losses' n eager old new result
  did_more tells losses losses' now n eager old new l news result is ticks little goes none x = inr (record {
    little = little;
    unended = subst (λ (k : ℕ). (line_ticked old.line k).machine.ending ≡ None) is (subst (λ (y : Line). y.machine.ending ≡ None) ticks goes);
    exchanged = subst (λ (k : ℕ). Exchanged tells losses losses' k eager (record old { line = line_ticked old.line k }) new result) is
        (subst (λ (y : Line). Exchanged tells losses losses' now eager (record old { line = y }) new result) ticks
        (subst (λ (ns : List NewsItem). Exchanged tells losses losses' now eager (record old { line = l; news = ns }) new result) none x));
  })

  pub cut_as : (now n : ℕ) (eager : Bool) (old new : EndAt J G) (l : Line) (news : List NewsItem) (r : Result TurnEnd TurnFault) → now ≡ n → l ≡ line_ticked old.line now
      → receives old.line ≡ true → l.machine.ending ≡ None → news ≡ old.news
      → IfErr r (λ fault. (fault ≡ faults.Link → ⊥) → CutWork now eager (record old { line = l; news = news }) new fault) → IfErr r (λ fault. (fault ≡ faults.Link → ⊥) → CutTurn n eager old new fault)
  cut_as now n eager old new l news (Ok end) is ticks little goes none h = tt
  cut_as now n eager old new l news (Err fault) is ticks little goes none h = λ other. inr (record {
    little = little;
    unended = subst (λ (k : ℕ). (line_ticked old.line k).machine.ending ≡ None) is (subst (λ (y : Line). y.machine.ending ≡ None) ticks goes);
    work = subst (λ (k : ℕ). CutWork k eager (record old { line = line_ticked old.line k }) new fault) is
        (subst (λ (y : Line). CutWork now eager (record old { line = y }) new fault) ticks
        (subst (λ (ns : List NewsItem). CutWork now eager (record old { line = l; news = ns }) new fault) none (h other)));
  })

  -- what a machine keeps over the sending, or the loss, of its link
  pub leaves_of : (now : ℕ) (m n : State) (p : Part) (box : Inbox J G) → m.begun ≡ true → m.moment ≤ now → now < 17592186044416 → m.facts.recorded.sent < 1099511627776 → length m.config.credentials ≤ 2048
      → HasSeen m p → Agrees m box → KeepsAll m n m.moment → n.facts ≡ m.facts → Leaves n p box
  leaves_of now m n p box begun time limit sent credentials seen agrees k facts = record {
    begun = k.begun ∙ begun;
    time = omega (arith, k.time (omega arith), time, limit);
    sent = omega (arith, ap (λ (f : Facts). f.recorded.sent) facts, sent);
    credentials = omega (arith, ap (λ (x : EndConfig). length x.credentials) k.config, credentials);
    seen = seen_same m n p (ap (λ (f : Facts). f.recorded.sent) facts) (ap (λ (f : Facts). f.recorded.finish) facts) seen;
    agrees = agrees_same m n box k.config k.most facts agrees;
  }
