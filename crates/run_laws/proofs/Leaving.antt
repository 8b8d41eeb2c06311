-- The last connection on the way of an end, and the line that its whole turns left.
use Rattle.std.proofs.Common.{◌≡◌, ℕ, Bool, List, [], ◌∷◌, ◌++◌, refl, sym, ap, subst, ◌∙◌, ◌⊎◌}
use Rattle.std.specs.List.{AllByRecursion}
use Rattle.session_model.specs.Journal.{History}
use Rattle.fixp_machine.specs.Machine.{State, run}
use Rattle.conn_turns.specs.Lines.{Line}
use Rattle.conn_turns.specs.Turns.{Turn, only_sends, works, link_lost, cut_short, not_begun}
use Rattle.conn_turns.specs.Exact.{line_sent}
use Rattle.turn_laws.specs.Turns.{IsTurn}
use Rattle.turn_laws.specs.Legs.{TurnedLeg, AreTurns, first_line}
use Rattle.honest_turns.specs.Sides.{MakesTurns}
use Rattle.honest_turns.specs.Lives.{End, side_of, end_behind, sides, end_after}
use Rattle.run_laws.proofs.Paths.{Path, arrives, connects, opens, along}

-- the whole turns of a connection lead from its beginning to this line
pub record LedTo (e : End) (t : TurnedLeg) (x : Line) : Type 0 where
  pub before : History
  pub after : History
  pub turns : AreTurns before after (first_line t.per_turn e.state t.moment) x t.turns

-- the machine behind a connection: that of the line to which its whole turns lead, or the one that it leaves
abbrev pub EndsIn : State → End → TurnedLeg → Type 0
EndsIn s e t = ((x : Line) × LedTo e t x × (x.machine ≡ s)) ⊎ ((end_behind e t).state ≡ s)

-- so it is of the last connection of a way
abbrev pub Last : List TurnedLeg → Type 0 → Type 0 → Type 0
Last [] A B = A
Last (u ∷ us) A B = B

abbrev pub LeavesAt : (End → TurnedLeg → Type 0) → (e f : End) (ts : List TurnedLeg) → Path e ts f → Type 0
LeavesAt P e f [] arrives = ⊥
LeavesAt P e f (t ∷ ts) (connects m p) = Last ts (P e t) (LeavesAt P (end_behind e t) f ts p)
LeavesAt P e f ts (opens j r p) = LeavesAt P j f ts p

none_led : (P : End → TurnedLeg → Type 0) (e f : End) (p : Path e [] f) → LeavesAt P e f [] p → ⊥
none_led P e f arrives k = k
none_led P e f (opens j r p) k = none_led P j f p k

not_nil : (ts : List TurnedLeg) (t : TurnedLeg) → [] ≡ ts ++ t ∷ [] → ⊥
not_nil [] t e = cc e
not_nil (u ∷ ts) t e = cc e

module _ (P : End → TurnedLeg → Type 0) where
  -- behind a life's connections
  pub along_leaves : (e f : End) (ts later : List TurnedLeg) (m : AllByRecursion MakesTurns (sides e ts)) (p : Path (end_after e ts) later f) → LeavesAt P (end_after e ts) f later p
      → LeavesAt P e f (ts ++ later) (along e f ts later m p)
  along_leaves e f [] later m p k = k
  along_leaves e f (t ∷ []) [] m p k = absurd (none_led P (end_behind e t) f p k)
  along_leaves e f (t ∷ []) (u ∷ later) m p k = k
  along_leaves e f (t ∷ v ∷ ts) later m p k = along_leaves (end_behind e t) f (v ∷ ts) later m.1 p k

  -- or on them, where no connection comes behind
  pub along_last : (e f : End) (ts : List TurnedLeg) (m : AllByRecursion MakesTurns (sides e ts)) (p : Path (end_after e ts) [] f) (front : List TurnedLeg) (last : TurnedLeg) → ts ≡ front ++ last ∷ []
      → P (end_after e front) last → LeavesAt P e f (ts ++ []) (along e f ts [] m p)
  along_last e f [] m p front last is led = absurd (not_nil front last is)
  along_last e f (t ∷ []) m p [] last is led = let same : last ≡ t = cc is in subst (λ (y : TurnedLeg). P e y) same led
  along_last e f (t ∷ []) m p (v ∷ front) last is led = let rest : [] ≡ front ++ last ∷ [] = cc is in absurd (not_nil front last rest)
  along_last e f (t ∷ u ∷ ts) m p [] last is led = absurd (cc is)
  along_last e f (t ∷ u ∷ ts) m p (v ∷ front) last is led =
      let same : v ≡ t = cc is in
      let rest : u ∷ ts ≡ front ++ last ∷ [] = cc is in
      along_last (end_behind e t) f (u ∷ ts) m.1 p front last rest (subst (λ (y : TurnedLeg). P (end_after (end_behind e y) front) last) same led)

  -- a way up to its last connection
  pub record Before (e f : End) (ts : List TurnedLeg) (t : TurnedLeg) : Type 0 where
    pub mid : End
    pub path : Path e ts mid
    pub makes : MakesTurns (side_of mid t)
    pub rest : Path (end_behind mid t) [] f
    pub led : P mid t

  pub split : (e f : End) (us : List TurnedLeg) (p : Path e us f) (ts : List TurnedLeg) (t : TurnedLeg) → us ≡ ts ++ t ∷ [] → LeavesAt P e f us p → Before e f ts t
  split e f [] arrives ts t is k = absurd k
  split e f (u ∷ []) (connects m p) [] t is k =
      let same : u ≡ t = cc is in
      subst (λ (v : TurnedLeg). Before e f [] v) same (record { mid = e; path = arrives; makes = m; rest = p; led = k })
  split e f (u ∷ []) (connects m p) (v ∷ ts) t is k = let rest : [] ≡ ts ++ t ∷ [] = cc is in absurd (not_nil ts t rest)
  split e f (u ∷ w ∷ us) (connects m p) [] t is k = absurd (cc is)
  split e f (u ∷ w ∷ us) (connects m p) (v ∷ ts) t is k =
      let same : u ≡ v = cc is in
      let rest : w ∷ us ≡ ts ++ t ∷ [] = cc is in
      let b = split (end_behind e u) f (w ∷ us) p ts t rest k in
      subst (λ (y : TurnedLeg). Before e f (y ∷ ts) t) same (record { mid = b.mid; path = connects m b.path; makes = b.makes; rest = b.rest; led = b.led })
  split e f us (opens j r p) ts t is k =
      let b = split j f us p ts t is k in
      record { mid = b.mid; path = opens j r b.path; makes = b.makes; rest = b.rest; led = b.led }

-- what a way leaves of an end's outbox, and, where it has no connections, of the number that its inbox awaits
pub same_outbox : (e f : End) (ts : List TurnedLeg) → Path e ts f → f.outbox ≡ e.outbox
same_outbox e f [] arrives = refl
same_outbox e f (t ∷ ts) (connects m p) = same_outbox (end_behind e t) f ts p
same_outbox e f ts (opens j r p) = same_outbox j f ts p ∙ r.outbox

pub same_next : (e f : End) → Path e [] f → f.state.facts.recorded.inbox_next ≡ e.state.facts.recorded.inbox_next
same_next e f arrives = refl
same_next e f (opens j r p) = same_next j f p ∙ r.next

pub same_peer : (e f : End) → Path e [] f → f.state.config.peer_flow ≡ e.state.config.peer_flow
same_peer e f arrives = refl
same_peer e f (opens j r p) = same_peer j f p ∙ r.config.peer

-- ---- turns lead to one line alone

line_same : (x y : Line) → x.machine ≡ y.machine → x.held ≡ y.held → x.place ≡ y.place → x.over ≡ y.over → x.serves ≡ y.serves → x.waits ≡ y.waits → x.per_turn ≡ y.per_turn → x ≡ y
line_same x y machine held place over serves waits per_turn =
    ap (λ (m : State). record { machine = m; held = x.held; place = x.place; over = x.over; serves = x.serves; waits = x.waits; per_turn = x.per_turn }) machine
    ∙ (ap (λ (bs : List ℕ). record { machine = y.machine; held = bs; place = x.place; over = x.over; serves = x.serves; waits = x.waits; per_turn = x.per_turn }) held
    ∙ (ap (λ (n : ℕ). record { machine = y.machine; held = y.held; place = n; over = x.over; serves = x.serves; waits = x.waits; per_turn = x.per_turn }) place
    ∙ (ap (λ (b : Bool). record { machine = y.machine; held = y.held; place = y.place; over = b; serves = x.serves; waits = x.waits; per_turn = x.per_turn }) over
    ∙ (ap (λ (b : Bool). record { machine = y.machine; held = y.held; place = y.place; over = y.over; serves = b; waits = x.waits; per_turn = x.per_turn }) serves
    ∙ (ap (λ (b : Bool). record { machine = y.machine; held = y.held; place = y.place; over = y.over; serves = y.serves; waits = b; per_turn = x.per_turn }) waits
    ∙ ap (λ (n : ℕ). record { machine = y.machine; held = y.held; place = y.place; over = y.over; serves = y.serves; waits = y.waits; per_turn = n }) per_turn)))))

turn_same : (b a b' a' : History) (old x y : Line) (t : Turn) → IsTurn b a old x t → IsTurn b' a' old y t → x ≡ y
turn_same b a b' a' old x y (only_sends now sent lost) k l = k.0.line ∙ sym l.0.line
turn_same b a b' a' old x y (works w) k l =
    let same : k.behind ≡ l.behind =
    line_same k.behind l.behind (k.served.machine ∙ sym l.served.machine) (k.served.held ∙ sym l.served.held) (k.served.place ∙ sym l.served.place) (k.served.over ∙ sym l.served.over) (k.served.serves ∙ sym l.served.serves) (k.served.waits ∙ sym l.served.waits) (k.served.per_turn ∙ sym l.served.per_turn) in
    k.sends.line ∙ (ap (λ (z : Line). line_sent z w.sent w.lost) same ∙ sym l.sends.line)
turn_same b a b' a' old x y (link_lost now) k l = k.0 ∙ sym l.0
turn_same b a b' a' old x y (cut_short now received frames refused) k l = absurd k
turn_same b a b' a' old x y not_begun k l = absurd k

pub turns_same : (b a b' a' : History) (old x y : Line) (ts : List Turn) → AreTurns b a old x ts → AreTurns b' a' old y ts → x ≡ y
turns_same b a b' a' old x y [] k l = k.0 ∙ sym l.0
turns_same b a b' a' old x y (t ∷ later) k l =
    let same : k.1 ≡ l.1 = turn_same b k.2 b' l.2 old k.1 l.1 t k.3 l.3 in
    turns_same k.4 a l.4 a' k.1 x y later k.6 (subst (λ (z : Line). AreTurns l.4 a' z y later) (sym same) l.6)
