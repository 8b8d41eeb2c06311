-- What becomes of unsent output over turns of two ends.
use Rattle.std.proofs.Common.{◌≡◌, ◌+◌, ◌<◌, ◌≤◌, ℕ, Bool, true, false, not, ◌&&◌, ◌||◌, if◌then◌else◌, List, [], ◌++◌, length, Option, Some, None, refl, sym, ap, subst, ◌∙◌, arith, true≢false, length-append}
use Rattle.std.specs.Prelude.{◌==◌, nat_le}
use Rattle.std.proofs.lemmas.Bool.{eqb-true, le-leb}
use Rattle.conn_turns.specs.Lines.{Line}
use Rattle.conn_turns.specs.Turns.{Turn, Work, again_calls, live_calls, finish_calls, outbox_calls}
use Rattle.conn_turns.specs.Exact.{receives, most_unsent, line_ticked, IsAsDue, unless_waits}
use Rattle.turn_laws.proofs.Numbers.{turn_number}
use Rattle.turn_laws.specs.Turns.{line_received}
use Rattle.turn_laws.specs.Legs.{given_in, sent_in}
use Rattle.honest_turns.specs.Waiting.{unsent_at, ReadsUpTo, WritesReplies, OneReads, Between, WritesNoMore, GoOn, no_turn, initiator_turns, acceptor_turns}

-- ---- one end

-- an end that waits exactly where something is unsent receives exactly where no more than the bound is
waiting_receives : (n bound : ℕ) (waits : Bool) → waits ≡ not (n == 0) → ((n == 0) || (waits && nat_le n bound)) ≡ nat_le n bound
waiting_receives n bound waits is = by_test (n == 0) refl
  where
    by_test : (b : Bool) → (n == 0) ≡ b → ((n == 0) || (waits && nat_le n bound)) ≡ nat_le n bound
    by_test true e =
        let zero : n ≡ 0 = eqb-true n 0 e in
        ap (λ (b : Bool). b || (waits && nat_le n bound)) e ∙ sym (le-leb n bound (omega (arith, zero)))
    by_test false e = ap (λ (b : Bool). b || (waits && nat_le n bound)) e ∙ ap (λ (b : Bool). b && nat_le n bound) (is ∙ ap not e)

pub reads_up_to : ReadsUpTo
reads_up_to sent lost old new k = waiting_receives (unsent_at new) (most_unsent new.per_turn) new.waits (ap (λ (l : Line). l.waits) k.line ∙ sym (ap (λ (l : Line). not (unsent_at l == 0)) k.line))

-- of nothing that is due nothing is sent
none_due : (due sent : Option (List (List ℕ))) → due ≡ None → IsAsDue due sent → sent ≡ None
none_due None None none as_due = refl
none_due None (Some sent) none as_due = absurd as_due
none_due (Some due) sent none as_due = absurd (cc none)

unless_waiting : {A : Type 0} (l : Line) (due told : Option A) → told ≡ unless_waits l due → l.waits ≡ true → told ≡ None
unless_waiting l due told is waits = is ∙ ap (λ (b : Bool). if b then None else due) waits

pub writes_replies : WritesReplies
writes_replies before after old new w k waits =
    let v = k.served in
    let l : Line = line_received old w.now w.received w.got in
    let again : w.again ≡ None = none_due w.due_again w.again (unless_waiting l _ w.due_again v.due_again waits) v.again in
    let live : w.live ≡ None = none_due w.due_live w.live (unless_waiting l _ w.due_live v.due_live waits) v.live in
    let finish : w.finish ≡ None = unless_waiting l _ w.finish v.finish waits in
    ap (λ (o : Option (List (List ℕ))). again_calls w.now o ++ (live_calls w.now w.live ++ finish_calls w.now w.finish)) again
    ∙ (ap (λ (o : Option (List (List ℕ))). live_calls w.now o ++ finish_calls w.now w.finish) live ∙ ap (λ (o : Option ℕ). finish_calls w.now o) finish)

-- ---- two ends

-- what both have unsent, and what is under way
abbrev all_of : Between → ℕ
all_of x = (unsent_at x.initiator + unsent_at x.acceptor) + (length x.outward + length x.homeward)

-- grows over no turns that write no more than they were given
no_more : (x y : Between) → GoOn x y → all_of y ≤ all_of x
no_more x y no_turn = omega arith
no_more x y (initiator_turns t new left k is later) =
    omega (arith, no_more _ y later, k.little, length-append x.outward (sent_in t), ap (λ (bs : List ℕ). length bs) is, length-append (given_in t) left)
no_more x y (acceptor_turns t new left k is later) =
    omega (arith, no_more _ y later, k.little, length-append x.homeward (sent_in t), ap (λ (bs : List ℕ). length bs) is, length-append (given_in t) left)

-- nor do turns change the bounds
same_numbers : (x y : Between) → GoOn x y → (y.initiator.per_turn ≡ x.initiator.per_turn) × (y.acceptor.per_turn ≡ x.acceptor.per_turn)
same_numbers x y no_turn = (refl, refl)
same_numbers x y (initiator_turns t new left k is later) =
    let same = same_numbers _ y later in (same.0 ∙ turn_number k.before k.after x.initiator new t k.is, same.1)
same_numbers x y (acceptor_turns t new left k is later) =
    let same = same_numbers _ y later in (same.0, same.1 ∙ turn_number k.before k.after x.acceptor new t k.is)

pub one_reads : OneReads
one_reads room x y under little go deaf_i deaf_a =
    let same = same_numbers x y go in omega (arith, no_more x y go, under, little, same.0, same.1, deaf_i, deaf_a)
