-- What an inbox and the machine agree on, before and behind what a turn gathers.
use Rattle.std.proofs.Common.{◌≡◌, ◌≤◌, ℕ, List, [], length, sym, ap, subst, ◌∙◌, arith}
use Rattle.std.specs.List.{AllByRecursion}
use Rattle.fixp_msgs.specs.Payload.{IsApplication}
use Rattle.fixp_replies.specs.declared.facts.EndState.{EndState}
use Rattle.fixp_machine.specs.Machine.{State}
use Rattle.jr_dated.specs.declared.journal.Journal.{Ghosts}
use Rattle.jr_dated.specs.declared.limits.Limits.{Limits}
use Rattle.jr_kept.specs.declared.inbox.Inbox.{Inbox}
use Rattle.jr_kept.specs.Inbox.{next_of, faults_of}
use Rattle.conn_turns.specs.declared.news.NewsItem.{NewsItem}
use Rattle.conn_turns.specs.declared.answer.TurnFault.{TurnFault}
use Rattle.conn_turns.specs.Lines.{Line}
use Rattle.conn_turns.specs.Gathering.{numbered_from}
use Rattle.conn_steps.specs.Settling.{SameKind, AllStand}
use Rattle.conn_steps.specs.Agreeing.{Agrees, AgreesBut}
use Rattle.conn_steps.specs.Ends.{TakingEnd, intake, gathering_end}
use Rattle.conn_steps.specs.Taking.{Blames, GatheredFrames}
use Rattle.conn_steps.proofs.Numbers.{length-numbered}

module _ {J : Type 0} {G : Ghosts J} where
  -- nothing is gathered
  pub agrees_none : (m : State) (box : Inbox J G) (gathered : List (List ℕ)) → gathered ≡ [] → Agrees m box → AgreesBut gathered m box
  agrees_none m box gathered none a =
      let empty : length gathered ≡ 0 = ap (λ (ps : List (List ℕ)). length ps) none in
      record {
        flow = a.flow;
        most = a.most;
        next = omega (arith, empty, a.next);
        negotiated = a.negotiated;
        peer_last = a.peer_last;
        may_stand = record {
          applications = subst (λ (ps : List (List ℕ)). AllByRecursion IsApplication ps) (sym none) tt;
          numbers = λ some. absurd (omega (arith, some, empty));
        };
      }

  -- all was made stable
  pub agrees_stable : (m : State) (box after : Inbox J G) (news later : List NewsItem) (gathered : List (List ℕ)) → AgreesBut gathered m box → SameKind box after
      → AllStand box after news later (numbered_from (next_of box) gathered) → Agrees m after
  agrees_stable m box after news later gathered a kind s = record {
    flow = kind.flow ∙ a.flow;
    most = omega (arith, a.most, ap (λ (l : Limits). l.entries) kind.limits);
    next = omega (arith, ap (λ (r : EndState). r.inbox_next) s.recorded, length-numbered (next_of box) gathered, a.next);
    negotiated = ap (λ (r : EndState). r.negotiated) s.recorded ∙ a.negotiated;
    peer_last = ap (λ (r : EndState). r.peer_last) s.recorded ∙ a.peer_last;
  }

  -- a fault behind calls over which the count of the disk's faults did not fall
  pub blames_on : (box mid after : Inbox J G) (fault : TurnFault) → faults_of box ≤ faults_of mid → Blames mid after fault → Blames box after fault
  blames_on box mid after fault falls b = record { risen = λ e. omega (arith, falls, b.risen e); broken = b.broken; full = b.full; no_other = b.no_other }

  -- the same end
  pub gathered_same : (now count : ℕ) (old : TakingEnd J G) (l l' : Line) (box box' : Inbox J G) (news news' : List NewsItem) (ps ps' : List (List ℕ)) → l' ≡ l → box' ≡ box → news' ≡ news → ps' ≡ ps
      → GatheredFrames now count old (gathering_end l (intake box news ps)) → GatheredFrames now count old (gathering_end l' (intake box' news' ps'))
  gathered_same now count old l l' box box' news news' ps ps' line inbox items payloads g =
      subst (λ (x : Line). GatheredFrames now count old (gathering_end x (intake box' news' ps'))) (sym line)
      (subst (λ (b : Inbox J G). GatheredFrames now count old (gathering_end l (intake b news' ps'))) (sym inbox)
      (subst (λ (ns : List NewsItem). GatheredFrames now count old (gathering_end l (intake box ns ps'))) (sym items)
      (subst (λ (xs : List (List ℕ)). GatheredFrames now count old (gathering_end l (intake box news xs))) (sym payloads) g)))
