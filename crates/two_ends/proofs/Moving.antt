-- The bytes under way between two connections over one pipe.
use Rattle.std.proofs.Common.{◌≡◌, ℕ, List, [], ◌∷◌, ◌++◌, Option, None, sym, ap, ◌∙◌, append-nil, append_assoc}
use Rattle.std.specs.Prelude.{option_to_list}
use Rattle.std.specs.List.{flat_map}
use Rattle.std.proofs.lemmas.Grind.{flat_map-append}
use Rattle.conn_turns.specs.Turns.{Turn}
use Rattle.turn_laws.specs.Legs.{TurnedLeg, given_in, sent_in, given_on}
use Rattle.two_ends.specs.Pairing.{UnderWay}
use Rattle.two_ends.specs.DrivingLaws.{TurnCarries, BytesMove}

-- what was read off the turns of a connection, with one more turn
on_turn : (f : Turn → List ℕ) (t : TurnedLeg) (turn : Turn) → t.cut ≡ None
    → flat_map f ((t.turns ++ turn ∷ []) ++ option_to_list t.cut) ≡ flat_map f (t.turns ++ option_to_list t.cut) ++ f turn
on_turn f t turn e =
    ap (λ (c : Option Turn). flat_map f ((t.turns ++ turn ∷ []) ++ option_to_list c)) e
    ∙ (ap (λ (ts : List Turn). flat_map f ts) (append-nil (t.turns ++ turn ∷ []))
    ∙ (flat_map-append f t.turns (turn ∷ [])
    ∙ (ap (λ (bs : List ℕ). flat_map f t.turns ++ bs) (append-nil (f turn))
    ∙ ap (λ (ts : List Turn). flat_map f ts ++ f turn) (sym (ap (λ (c : Option Turn). t.turns ++ option_to_list c) e ∙ append-nil t.turns)))))

on_cut : (f : Turn → List ℕ) (t : TurnedLeg) (turn : Turn) → t.cut ≡ None → flat_map f (t.turns ++ turn ∷ []) ≡ flat_map f (t.turns ++ option_to_list t.cut) ++ f turn
on_cut f t turn e = sym (ap (λ (ts : List Turn). flat_map f ts) (ap (λ (c : Option Turn). (t.turns ++ turn ∷ []) ++ option_to_list c) e ∙ append-nil (t.turns ++ turn ∷ []))) ∙ on_turn f t turn e

pub turn_carries : TurnCarries
turn_carries t turn e = (
  record { gave = on_turn given_in t turn e; took = on_turn sent_in t turn e },
  record { gave = on_cut given_in t turn e; took = on_cut sent_in t turn e },
)

pub bytes_move : BytesMove
bytes_move a a' b given sent to_a to_b to_a' to_b' c w gave took = record {
  homeward = w.homeward ∙ (ap (λ (bs : List ℕ). given_on a ++ bs) gave ∙ (sym (append_assoc (given_on a) given to_a') ∙ ap (λ (bs : List ℕ). bs ++ to_a') (sym c.gave)));
  outward = c.took ∙ (ap (λ (bs : List ℕ). bs ++ sent) w.outward ∙ (append_assoc (given_on b) to_b sent ∙ ap (λ (bs : List ℕ). given_on b ++ bs) (sym took)));
}

-- it is the same seen from the other end
pub turned_round : (a b : TurnedLeg) (to_a to_b : List ℕ) → UnderWay a b to_a to_b → UnderWay b a to_b to_a
turned_round a b to_a to_b w = record { homeward = w.outward; outward = w.homeward }
