-- What the connections of a life are to the laws over turns.
use Rattle.std.proofs.Common.{◌≡◌, ℕ, Bool, List, [], ◌∷◌, ◌++◌, Option, Some, None, ap, subst}
use Rattle.session_model.specs.Journal.{History, BeginsHistory}
use Rattle.session_model.specs.Inbox.{InboxRecord}
use Rattle.gate_turn.proofs.Histories.{begins_self}
use Rattle.fixp_machine.specs.Machine.{State}
use Rattle.conn_turns.specs.declared.news.NewsItem.{NewsItem}
use Rattle.conn_turns.specs.declared.answer.TurnFault.{TurnFault}
use Rattle.conn_turns.specs.Lines.{Line, TakenFrame, lines_after}
use Rattle.conn_turns.specs.Frames.{told}
use Rattle.conn_turns.specs.Turns.{Turn, Refusal, cut_short}
use Rattle.conn_turns.specs.Refusals.{IsTried, wanted_of, told_of}
use Rattle.conn_steps.specs.Taking.{refused_by}
use Rattle.turn_laws.specs.Turns.{line_received, IsTurn, IsCutShort, adds_in, adds_cut, tells_in}
use Rattle.turn_laws.specs.Legs.{AreTurns, first_line}
use Rattle.turn_laws.specs.Made.{TurnAt}
use Rattle.conn_serve.specs.Connections.{Connection, WereTurns, CutAt, IsConnection}
use Rattle.conn_serve.specs.Laws.{WereAreTurns}

pub were_are_turns : WereAreTurns
were_are_turns eager old new [] news adds were = (ap (λ (x : TurnAt). x.line) were.0, ap (λ (x : TurnAt). x.seen) were.0)
were_are_turns eager old new (t ∷ later) news adds were =
    let (unended, mid, made, told, added, news_are, adds_are, behind) = were in
    (unended, mid.line, mid.seen, made.is, mid.seen, begins_self mid.seen, were_are_turns eager mid new later told added behind)

-- a connection without its link: whole turns of the line and of what was seen
abbrev pub PlainTurns : (before after : History) (old new : Line) → List Turn → List NewsItem → List InboxRecord → Type 0
PlainTurns before after old new [] news adds = (new ≡ old) × (after ≡ before) × (news ≡ []) × (adds ≡ [])
PlainTurns before after old new (t ∷ later) news adds =
    (old.machine.ending ≡ None) × (mid : Line) × (between : History) × IsTurn before between old mid t
    × (more : List NewsItem) × (rest : List InboxRecord) × (news ≡ tells_in old t ++ more) × (adds ≡ adds_in old t ++ rest)
    × PlainTurns between after mid new later more rest

pub plain_are_turns : (before after : History) (old new : Line) (turns : List Turn) (news : List NewsItem) (adds : List InboxRecord) → PlainTurns before after old new turns news adds → AreTurns before after old new turns
plain_are_turns before after old new [] news adds were = (were.0, were.1)
plain_are_turns before after old new (t ∷ later) news adds were =
    let (unended, mid, between, is, told, added, news_are, adds_are, behind) = were in
    (unended, mid, between, is, between, begins_self between, plain_are_turns between after mid new later told added behind)

-- one that was cut short, if one was
pub record PlainCutAt (last : Line) (t : Turn) (news : List NewsItem) (adds refused wanted : List InboxRecord) : Type 0 where
  pub now : ℕ
  pub received : List ℕ
  pub frames : List TakenFrame
  pub refusal : Option Refusal
  pub fault : TurnFault
  pub is : t ≡ cut_short now received frames refusal
  pub cut : IsCutShort now received frames refusal last
  pub news_are : news ≡ told now (line_received last now received cut.got) frames ++ told_of now (lines_after now (line_received last now received cut.got) frames) refusal
  pub adds_are : adds ≡ adds_cut now (line_received last now received cut.got) frames refusal
  pub tried : List InboxRecord
  pub is_tried : IsTried now (line_received last now received cut.got) frames refusal tried
  pub refused_are : refused ≡ refused_by fault tried
  pub wanted_are : wanted ≡ wanted_of now (lines_after now (line_received last now received cut.got) frames) refusal

abbrev pub PlainCut : Line → Option Turn → List NewsItem → (adds refused wanted : List InboxRecord) → Type 0
PlainCut last None news adds refused wanted = (news ≡ []) × (adds ≡ []) × (refused ≡ []) × (wanted ≡ [])
PlainCut last (Some t) news adds refused wanted = PlainCutAt last t news adds refused wanted

pub record PlainConnection (before after : History) (m : State) (last : Line) (c : Connection) : Type 0 where
  pub seen : History
  pub told : List NewsItem
  pub added : List InboxRecord
  pub turns : PlainTurns before seen (first_line c.leg.per_turn m c.leg.moment) last c.leg.turns told added
  pub grows : BeginsHistory seen after
  pub cut_told : List NewsItem
  pub cut_added : List InboxRecord
  pub cut : PlainCut last c.leg.cut cut_told cut_added c.refused c.wanted
  pub news : c.news ≡ told ++ cut_told
  pub adds : c.adds ≡ added ++ cut_added

plain_turns : (eager : Bool) (old new : TurnAt) (turns : List Turn) (news : List NewsItem) (adds : List InboxRecord) → WereTurns eager old new turns news adds → PlainTurns old.seen new.seen old.line new.line turns news adds
plain_turns eager old new [] news adds were = (ap (λ (x : TurnAt). x.line) were.0, ap (λ (x : TurnAt). x.seen) were.0, were.1, were.2)
plain_turns eager old new (t ∷ later) news adds were =
    let (unended, mid, made, told, added, news_are, adds_are, behind) = were in
    (unended, mid.line, mid.seen, made.is, told, added, news_are, adds_are, plain_turns eager mid new later told added behind)

plain_cut : (eager : Bool) (old new : TurnAt) (cut : Option Turn) (news : List NewsItem) (adds refused wanted : List InboxRecord) → CutAt eager old new cut news adds refused wanted → PlainCut old.line cut news adds refused wanted
plain_cut eager old new None news adds refused wanted k = (k.0, k.1, k.2, k.3)
plain_cut eager old new (Some t) news adds refused wanted k = record {
  now = k.now;
  received = k.received;
  frames = k.frames;
  refusal = k.refusal;
  fault = k.fault;
  is = k.is;
  cut = k.made.cut;
  news_are = k.news_are;
  adds_are = k.adds_are;
  tried = k.tried;
  is_tried = k.is_tried;
  refused_are = k.refused_are;
  wanted_are = k.wanted_are;
}

pub plain : (before after : History) (m : State) (last : Line) (c : Connection) → IsConnection before after m last c → PlainConnection before after m last c
plain before after m last c k = record {
  seen = k.behind.seen;
  told = k.told;
  added = k.added;
  turns = subst (λ (h : History). PlainTurns h k.behind.seen (first_line c.leg.per_turn m c.leg.moment) last c.leg.turns k.told k.added) k.began.seen_is
      (subst (λ (l : Line). PlainTurns c.link.first.seen k.behind.seen l last c.leg.turns k.told k.added) k.began.line
      (subst (λ (l : Line). PlainTurns c.link.first.seen k.behind.seen c.link.first.line l c.leg.turns k.told k.added) k.line
      (plain_turns c.link.eager c.link.first k.behind c.leg.turns k.told k.added k.turns)));
  grows = k.grows;
  cut_told = k.cut_told;
  cut_added = k.cut_added;
  cut = subst (λ (l : Line). PlainCut l c.leg.cut k.cut_told k.cut_added c.refused c.wanted) k.line (plain_cut c.link.eager k.behind c.link.end c.leg.cut k.cut_told k.cut_added c.refused c.wanted k.cut);
  news = k.news;
  adds = k.adds;
}
