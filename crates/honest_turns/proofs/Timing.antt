-- Connections that are linked in time are linked by what went over their links.
use Rattle.std.proofs.Common.{◌≡◌, ℕ, List, [], ◌∷◌, ◌++◌, sym, ap, subst, ◌∙◌, append-nil}
use Rattle.std.specs.List.{flat_map}
use Rattle.conn_turns.specs.Turns.{Turn}
use Rattle.turn_laws.specs.Legs.{TurnedLeg, given_in, sent_in}
use Rattle.two_ends.specs.Loops.{ReadsOf, IsStrangeTo}
use Rattle.two_ends.specs.Loops as links
use Rattle.two_ends.proofs.Ends.{silent_is_strange}
use Rattle.honest_turns.specs.Links.{Move, initiator_turns, acceptor_turns, of_initiator, of_acceptor, Passes, OverOneLink}
use Rattle.honest_turns.specs.Lives.{no_more, initiator_alone, acceptor_alone, paired, TimeIsLinked}
use Rattle.honest_turns.proofs.Linking.{sum_sent, sum_given}

-- what was under way and sent was given, or is under way still
record Sums (out home : List ℕ) (order : List Move) : Type 0 where
  under_out : List ℕ
  under_home : List ℕ
  sum_out : out ++ flat_map sent_in (of_initiator order) ≡ flat_map given_in (of_acceptor order) ++ under_out
  sum_home : home ++ flat_map sent_in (of_acceptor order) ≡ flat_map given_in (of_initiator order) ++ under_home

sums : (out home : List ℕ) (order : List Move) → Passes out home order → Sums out home order
sums out home [] p = record { under_out = out; under_home = home; sum_out = append-nil out; sum_home = append-nil home }
sums out home (initiator_turns t ∷ later) p =
    let k = sums (out ++ sent_in t) p.0 later p.2 in
    record {
      under_out = k.under_out;
      under_home = k.under_home;
      sum_out = sum_sent out (sent_in t) (flat_map sent_in (of_initiator later)) (flat_map given_in (of_acceptor later)) k.under_out k.sum_out;
      sum_home = sum_given home (given_in t) p.0 (flat_map sent_in (of_acceptor later)) (flat_map given_in (of_initiator later)) k.under_home p.1 k.sum_home;
    }
sums out home (acceptor_turns t ∷ later) p =
    let k = sums p.0 (home ++ sent_in t) later p.2 in
    record {
      under_out = k.under_out;
      under_home = k.under_home;
      sum_out = sum_given out (given_in t) p.0 (flat_map sent_in (of_initiator later)) (flat_map given_in (of_acceptor later)) k.under_out p.1 k.sum_out;
      sum_home = sum_sent home (sent_in t) (flat_map sent_in (of_acceptor later)) (flat_map given_in (of_initiator later)) k.under_home k.sum_home;
    }

acceptor_reads : (i a : TurnedLeg) → OverOneLink i a → ReadsOf a i
acceptor_reads i a l =
    let k = sums [] [] l.order l.passes in
    (k.under_out, ap (λ (ts : List Turn). flat_map given_in ts ++ k.under_out) (sym l.turns_a) ∙ (sym k.sum_out ∙ ap (λ (ts : List Turn). flat_map sent_in ts) l.turns_i))

initiator_reads : (i a : TurnedLeg) → OverOneLink i a → ReadsOf i a
initiator_reads i a l =
    let k = sums [] [] l.order l.passes in
    (k.under_home, ap (λ (ts : List Turn). flat_map given_in ts ++ k.under_home) (sym l.turns_i) ∙ (sym k.sum_home ∙ ap (λ (ts : List Turn). flat_map sent_in ts) l.turns_a))

pub time_is_linked : TimeIsLinked
time_is_linked I A [] [] no_more = links.LinkedLinks.no_more
time_is_linked I A (i ∷ is) as' (initiator_alone none rest) = links.LinkedLinks.left_alone (subst (IsStrangeTo I) (sym none) (silent_is_strange I)) (time_is_linked I A is as' rest)
time_is_linked I A is (a ∷ as') (acceptor_alone none rest) = links.LinkedLinks.right_alone (subst (IsStrangeTo A) (sym none) (silent_is_strange A)) (time_is_linked I A is as' rest)
time_is_linked I A (i ∷ is) (a ∷ as') (paired l rest) = links.LinkedLinks.paired (initiator_reads i a l) (acceptor_reads i a l) (time_is_linked I A is as' rest)
