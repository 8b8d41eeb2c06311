-- Where a connection was given up, either a stop may leave nothing of what was refused, or that is all that a call of the inbox's disk tried, which
-- failed in its last turn.
use Rattle.std.proofs.Common.{◌≡◌, ℕ, ◌⊎◌, inl, inr, List, [], ◌∷◌, Option, Some, None, sym, ap, subst}
use Rattle.session_model.specs.Journal.{History}
use Rattle.session_model.specs.Inbox.{InboxRecord}
use Rattle.fixp_machine.specs.Machine.{State}
use Rattle.conn_turns.specs.declared.news.NewsItem.{NewsItem}
use Rattle.conn_turns.specs.Lines.{Line, TakenFrame}
use Rattle.conn_turns.specs.Turns.{Turn, Refusal, cut_short}
use Rattle.conn_turns.specs.Refusals.{IsTried}
use Rattle.turn_laws.specs.Turns.{line_received, IsCutShort}
use Rattle.turn_laws.proofs.Tailing.{left_is}
use Rattle.conn_serve.specs.Connections.{Connection, IsConnection}
use Rattle.conn_serve.proofs.Following.{PlainCut, plain}

-- a turn that was cut short as such a call failed, which tried these
pub record FailedTurn (last : Line) (cut : Option Turn) (tried : List InboxRecord) : Type 0 where
  pub now : ℕ
  pub received : List ℕ
  pub frames : List TakenFrame
  pub refusal : Option Refusal
  pub is : cut ≡ Some (cut_short now received frames refusal)
  pub short : IsCutShort now received frames refusal last
  pub is_tried : IsTried now (line_received last now received short.got) frames refusal tried

by_cut : (last : Line) (cut : Option Turn) (told : List NewsItem) (added refused wanted : List InboxRecord) → PlainCut last cut told added refused wanted → (refused ≡ []) ⊎ FailedTurn last cut refused
by_cut last None told added refused wanted k = inl k.2
by_cut last (Some t) told added refused wanted k = by_left (left_is k.fault k.tried refused k.refused_are)
  where
    by_left : (refused ≡ []) ⊎ (refused ≡ k.tried) → (refused ≡ []) ⊎ FailedTurn last (Some t) refused
    by_left (inl none) = inl none
    by_left (inr all) = inr (record {
      now = k.now;
      received = k.received;
      frames = k.frames;
      refusal = k.refusal;
      is = ap (λ (u : Turn). Some u) k.is;
      short = k.cut;
      is_tried = subst (λ (rs : List InboxRecord). IsTried k.now (line_received last k.now k.received k.cut.got) k.frames k.refusal rs) (sym all) k.is_tried;
    })

pub failed_or_none : (before after : History) (m : State) (last : Line) (c : Connection) → IsConnection before after m last c → (c.refused ≡ []) ⊎ FailedTurn last c.leg.cut c.refused
failed_or_none before after m last c real =
    let k = plain before after m last c real in
    by_cut last c.leg.cut k.cut_told k.cut_added c.refused c.wanted k.cut
