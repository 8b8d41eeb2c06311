-- A turn that was cut short, put in place of another of the same bytes.
use Rattle.std.proofs.Common.{◌≡◌, ℕ, List, [], ◌∷◌, ◌++◌, Option, Some, refl, sym, ap, subst, ◌∙◌}
use Rattle.std.specs.Prelude.{option_to_list}
use Rattle.std.specs.List.{AllByRecursion}
use Rattle.session_model.proofs.Lists.{all_append, all_first, all_second}
use Rattle.conn_turns.specs.Turns.{Turn, cut_short}
use Rattle.turn_laws.specs.Legs.{all_turns, given_in, sent_in, IsTimelyTurn}
use Rattle.honest_turns.specs.Links.{Move, initiator_turns, acceptor_turns, of_initiator, of_acceptor, Passes}
use Rattle.honest_turns.specs.Sides.{MakesTurns}
use Rattle.honest_turns.specs.Counting.{cut_by, RefusedCounts}

-- the last turn of one end in an order, put in place of another that was given and sent the same
record Swapped (order : List Move) (ts : List Turn) (new : Turn) (mine theirs : List Move → List Turn) : Type 0 where
  moves : List Move
  own : mine moves ≡ ts ++ new ∷ []
  other : theirs moves ≡ theirs order
  passes : (out home : List ℕ) → Passes out home order → Passes out home moves

swap_i : (order : List Move) (ts : List Turn) (old new : Turn) → of_initiator order ≡ ts ++ old ∷ [] → given_in new ≡ given_in old → sent_in new ≡ sent_in old → Swapped order ts new of_initiator of_acceptor
swap_i [] [] old new e g s = absurd (cc e)
swap_i [] (x ∷ ts) old new e g s = absurd (cc e)
swap_i (acceptor_turns u ∷ later) ts old new e g s =
    let k = swap_i later ts old new e g s in
    record {
      moves = acceptor_turns u ∷ k.moves;
      own = k.own;
      other = ap (λ (us : List Turn). u ∷ us) k.other;
      passes = λ out home p. (p.0, p.1, k.passes p.0 (home ++ sent_in u) p.2);
    }
swap_i (initiator_turns u ∷ later) [] old new e g s =
    let same : u ≡ old = cc e in
    let none : of_initiator later ≡ [] = cc e in
    record {
      moves = initiator_turns new ∷ later;
      own = ap (λ (us : List Turn). new ∷ us) none;
      other = refl;
      passes = λ out home p. (
        p.0,
        p.1 ∙ ap (λ (bs : List ℕ). bs ++ p.0) (ap given_in same ∙ sym g),
        subst (λ (bs : List ℕ). Passes (out ++ bs) p.0 later) (ap sent_in same ∙ sym s) p.2,
      );
    }
swap_i (initiator_turns u ∷ later) (x ∷ ts) old new e g s =
    let same : u ≡ x = cc e in
    let rest : of_initiator later ≡ ts ++ old ∷ [] = cc e in
    let k = swap_i later ts old new rest g s in
    record {
      moves = initiator_turns u ∷ k.moves;
      own = ap (λ (us : List Turn). u ∷ us) k.own ∙ ap (λ (y : Turn). y ∷ (ts ++ new ∷ [])) same;
      other = k.other;
      passes = λ out home p. (p.0, p.1, k.passes (out ++ sent_in u) p.0 p.2);
    }

swap_a : (order : List Move) (ts : List Turn) (old new : Turn) → of_acceptor order ≡ ts ++ old ∷ [] → given_in new ≡ given_in old → sent_in new ≡ sent_in old → Swapped order ts new of_acceptor of_initiator
swap_a [] [] old new e g s = absurd (cc e)
swap_a [] (x ∷ ts) old new e g s = absurd (cc e)
swap_a (initiator_turns u ∷ later) ts old new e g s =
    let k = swap_a later ts old new e g s in
    record {
      moves = initiator_turns u ∷ k.moves;
      own = k.own;
      other = ap (λ (us : List Turn). u ∷ us) k.other;
      passes = λ out home p. (p.0, p.1, k.passes (out ++ sent_in u) p.0 p.2);
    }
swap_a (acceptor_turns u ∷ later) [] old new e g s =
    let same : u ≡ old = cc e in
    let none : of_acceptor later ≡ [] = cc e in
    record {
      moves = acceptor_turns new ∷ later;
      own = ap (λ (us : List Turn). new ∷ us) none;
      other = refl;
      passes = λ out home p. (
        p.0,
        p.1 ∙ ap (λ (bs : List ℕ). bs ++ p.0) (ap given_in same ∙ sym g),
        subst (λ (bs : List ℕ). Passes p.0 (home ++ bs) later) (ap sent_in same ∙ sym s) p.2,
      );
    }
swap_a (acceptor_turns u ∷ later) (x ∷ ts) old new e g s =
    let same : u ≡ x = cc e in
    let rest : of_acceptor later ≡ ts ++ old ∷ [] = cc e in
    let k = swap_a later ts old new rest g s in
    record {
      moves = acceptor_turns u ∷ k.moves;
      own = ap (λ (us : List Turn). u ∷ us) k.own ∙ ap (λ (y : Turn). y ∷ (ts ++ new ∷ [])) same;
      other = k.other;
      passes = λ out home p. (p.0, p.1, k.passes p.0 (home ++ sent_in u) p.2);
    }

pub refused_counts : RefusedCounts
refused_counts s now received frames frames' refusal refusal' k cut short = record {
  makes = makes;
  initiates = λ other l.
      let x = swap_i l.order s.leg.turns t t' (l.turns_i ∙ turns_are) refl refl in
      record { order = x.moves; turns_i = x.own; turns_a = x.other ∙ l.turns_a; passes = x.passes [] [] l.passes };
  accepts = λ other l.
      let x = swap_a l.order s.leg.turns t t' (l.turns_a ∙ turns_are) refl refl in
      record { order = x.moves; turns_i = x.other ∙ l.turns_i; turns_a = x.own; passes = x.passes [] [] l.passes };
}
  where
    t : Turn
    t = cut_short now received frames refusal

    t' : Turn
    t' = cut_short now received frames' refusal'

    turns_are : all_turns s.leg ≡ s.leg.turns ++ t ∷ []
    turns_are = ap (λ (o : Option Turn). s.leg.turns ++ option_to_list o) cut

    timely : AllByRecursion IsTimelyTurn (s.leg.turns ++ t ∷ [])
    timely = subst (λ (ts : List Turn). AllByRecursion IsTimelyTurn ts) turns_are k.timely.turns

    old : IsTimelyTurn t
    old = (all_second IsTimelyTurn s.leg.turns (t ∷ []) timely).0

    makes : MakesTurns (cut_by s t')
    makes = record {
      ready = k.ready;
      turns = record { before = k.turns.before; after = k.turns.after; last = k.turns.last; turns = k.turns.turns; cut = short; has = k.turns.has; faithful = k.turns.faithful };
      seen = k.seen;
      timely = record {
        begins = k.timely.begins;
        turns = all_append IsTimelyTurn s.leg.turns (t' ∷ []) (all_first IsTimelyTurn s.leg.turns (t ∷ []) timely) (record { bytes = old.bytes; time = old.time }, tt);
      };
    }
