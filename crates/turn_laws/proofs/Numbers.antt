-- Turns leave how many frames a turn of their connection takes.
use Rattle.std.proofs.Common.{◌≡◌, ℕ, ap, ◌∙◌}
use Rattle.session_model.specs.Journal.{History}
use Rattle.conn_turns.specs.Lines.{Line}
use Rattle.conn_turns.specs.Turns.{Turn, only_sends, works, link_lost, cut_short, not_begun}
use Rattle.conn_turns.proofs.Taking.{lines_number}
use Rattle.turn_laws.specs.Turns.{IsTurn, line_received}

pub turn_number : (before after : History) (old new : Line) (t : Turn) → IsTurn before after old new t → new.per_turn ≡ old.per_turn
turn_number before after old new (only_sends now sent lost) k = ap (λ (l : Line). l.per_turn) k.0.line
turn_number before after old new (works w) k =
    ap (λ (l : Line). l.per_turn) k.sends.line ∙ (k.served.per_turn ∙ lines_number w.now (line_received old w.now w.received w.got) w.frames)
turn_number before after old new (link_lost now) k = ap (λ (l : Line). l.per_turn) k.0
turn_number before after old new (cut_short now received frames refused) k = absurd k
turn_number before after old new not_begun k = absurd k
