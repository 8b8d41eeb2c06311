-- What an end does behind the frames of a turn: where it has something to do, that lowers the measure by 4.
use Rattle.std.proofs.Common.{◌≡◌, ℕ, ◌+◌, ◌*◌, ◌-◌, ◌<◌, ◌≤◌, ◌==◌, ◌&&◌, not, Bool, true, false, if◌then◌else◌, List, [], ◌∷◌, ◌++◌, length, take, drop, Option, Some, None, refl, sym, ap, subst, ◌∙◌, arith, eq-eqb, append_assoc, nat_lt, true≢false, length-drop}
use Rattle.std.specs.Prelude.{is_some, is_none, IfSome, min}
use Rattle.std.proofs.lemmas.Bool.{ltb-true, ltb-false}
use Rattle.std.proofs.lemmas.List.{length-take, length-map}
use Rattle.honest_ends.proofs.Serving.{by_bool}
use Rattle.session_model.specs.Journal.{Entry, History}
use Rattle.fixp_msgs.specs.declared.numbering.Range.{Range}
use Rattle.flow_idem.specs.Runs.{runs_of}
use Rattle.fixp_shake.specs.Flows.{is_absent}
use Rattle.fixp_shake.specs.Phases.{is_established}
use Rattle.fixp_replies.specs.declared.act.Ending.{Ending}
use Rattle.fixp_replies.specs.declared.facts.Facts.{Facts}
use Rattle.fixp_replies.specs.Facts.{Around, is_open}
use Rattle.fixp_replies.specs.Events.{closes, turn_ended, tells_finish}
use Rattle.fixp_machine.specs.Machine.{State, Call, turn_done, closed, live, again, taken, around, made, step, run}
use Rattle.conn_turns.specs.Turns.{again_calls, live_calls, finish_calls, payloads_from, served_of, served_now, live_of, live_beside, sends_live, finish_of}
use Rattle.conn_turns.specs.Exact.{IsAsDue}
use Rattle.drain_ends.specs.Falling.{call_lowers}
use Rattle.drain_steps.proofs.Stepping.{call_low}
use Rattle.drain_steps.specs.Ranges.{InRange}
use Rattle.drain_steps.proofs.Ranging.{turned_as}

-- the end of a turn that closes nothing leaves all but what was to be told
done_facts : (m : State) (now : ℕ) → m.ending ≡ None → closes (around m 0 now) m.facts ≡ false → (step m (turn_done now)).facts ≡ m.facts
done_facts m now going free = by_end (is_some m.ending) (ap (λ (e : Option Ending). is_some e) going)
  where
    x : Around
    x = around m 0 now

    by_end : (b : Bool) → b ≡ false → (if b then record m { moment = now } else record (made (record m { moment = now }) (turn_ended x m.facts (runs_of m.untold)) now) { untold = [] }).facts ≡ m.facts
    by_end true e = refl
    by_end false e = ap (λ (b : Bool). (turned_as m b).next) free

pub done_same : (m : State) (now : ℕ) → ((step m (turn_done now)).ending ≡ m.ending) × ((step m (turn_done now)).config ≡ m.config)
done_same m now = by_end (is_some m.ending)
  where
    x : Around
    x = around m 0 now

    by_end : (b : Bool) → ((if b then record m { moment = now } else record (made (record m { moment = now }) (turn_ended x m.facts (runs_of m.untold)) now) { untold = [] }).ending ≡ m.ending)
        × ((if b then record m { moment = now } else record (made (record m { moment = now }) (turn_ended x m.facts (runs_of m.untold)) now) { untold = [] }).config ≡ m.config)
    by_end true = (refl, refl)
    by_end false = (refl, refl)

-- the calls behind the frames of a turn: its end, of the outbox, and what its link took
abbrev pub rest_calls : (now : ℕ) → (agains lives : Option (List (List ℕ))) → (finish : Option ℕ) → (sent : List ℕ) → List Call
rest_calls now agains lives finish sent = turn_done now ∷ ((again_calls now agains ++ (live_calls now lives ++ finish_calls now finish)) ++ taken (length sent) ∷ [])

-- how many entries are read from a number on
count_from : (seen : History) (n most : ℕ) → length (payloads_from seen n most) ≡ min most (length seen.made - (n - 1))
count_from seen n most = length-map (take most (drop (n - 1) seen.made)) (λ (e : Entry). e.payload) ∙ (length-take most (drop (n - 1) seen.made) ∙ ap (λ (k : ℕ). min most k) (length-drop (n - 1) seen.made))

-- of a range that is served some are seen
pub range_some : (most : ℕ) (r : Range) (at seen : History) (sent : ℕ) → 1 ≤ most → (1 ≤ r.count) × (r.from + r.count ≤ sent + 1) × (1 ≤ r.from) → sent ≤ length seen.made → length seen.made ≤ length at.made → 1 ≤ length (payloads_from at r.from (min most r.count))
range_some most r at seen sent one range enough more =
    let some = range.0 in
    let end = range.1 in
    let start = range.2 in
    by_numbers (length (payloads_from at r.from (min most r.count))) most r.count r.from (length at.made) (length seen.made) sent (count_from at r.from (min most r.count)) one some end start more enough
  where
    by_numbers : (n most count from at seen sent : ℕ) → n ≡ min (min most count) (at - (from - 1)) → 1 ≤ most → 1 ≤ count → from + count ≤ sent + 1 → 1 ≤ from → seen ≤ at → sent ≤ seen → 1 ≤ n
    by_numbers n most count from at seen sent a b c d e f g = omega arith

-- what was due of the outbox at the end of a turn that waited for nothing, and what was sent of it
pub record Gives (most : ℕ) (m : State) (now : ℕ) (agains lives : Option (List (List ℕ))) (finish : Option ℕ) : Type 0 where
  pub at_again : History
  pub at_live : History
  pub at_finish : History
  pub again : IsAsDue (served_of most (served_now m) at_again) agains
  pub live : IsAsDue (live_beside agains (live_of most (run m (again_calls now agains)) at_live)) lives
  pub told : finish ≡ finish_of m at_finish

-- an end that is to do one of these things behind the frames: of its outbox so much is seen at each look
pub data ToDo (m : State) (seen : History) (now : ℕ) : Type 0 where
  serves : is_some m.facts.connection.serving ≡ true → ToDo m seen now
  shuts : closes (around m 0 now) m.facts ≡ true → ToDo m seen now
  sends : is_established m.facts.connection.phase ≡ true → is_absent m.config.own_flow ≡ false → m.facts.recorded.sent < length seen.made → ToDo m seen now
  tells : is_established m.facts.connection.phase ≡ true → is_absent m.config.own_flow ≡ false → is_open m.facts.connection.own_finish ≡ true → m.facts.recorded.sent ≤ length seen.made → seen.finished ≡ true → ToDo m seen now

-- the looks saw what was seen before, or more
pub record Looks (seen : History) (most : ℕ) (m : State) (now : ℕ) (agains lives : Option (List (List ℕ))) (finish : Option ℕ) (g : Gives most m now agains lives finish) : Type 0 where
  pub again : length seen.made ≤ length g.at_again.made
  pub live : length seen.made ≤ length g.at_live.made
  pub same : seen.finished ≡ true → g.at_finish ≡ seen

-- the calls of what was sent again, or live, and so on
first_least : (m : State) (call : Call) (later : List Call) → 4 ≤ call_lowers m call → 4 ≤ call_low m (call ∷ later)
first_least m call later h = by_numbers (call_lowers m call) (call_low (step m call) later) h
  where
    by_numbers : (a b : ℕ) → 4 ≤ a → 4 ≤ a + b
    by_numbers a b h = omega arith

later_least : (m : State) (call : Call) (later : List Call) → 4 ≤ call_low (step m call) later → 4 ≤ call_low m (call ∷ later)
later_least m call later h = by_numbers (call_lowers m call) (call_low (step m call) later) h
  where
    by_numbers : (a b : ℕ) → 4 ≤ b → 4 ≤ a + b
    by_numbers a b h = omega arith

some_four : (n : ℕ) → 1 ≤ n → 4 ≤ 4 * n
some_four n h = omega arith

again_four : (m : State) (seen : History) (most now : ℕ) (agains lives : Option (List (List ℕ))) (finish : Option ℕ) (later : List Call) → 1 ≤ most → m.ending ≡ None → InRange m.facts → m.facts.recorded.sent ≤ length seen.made
    → is_some m.facts.connection.serving ≡ true → (g : Gives most m now agains lives finish) → Looks seen most m now agains lives finish g → 4 ≤ call_low m (again_calls now agains ++ later)
again_four m seen most now agains lives finish later one going range enough serving g look = by_range m.facts.connection.serving refl
  where
    by_sent : (due : List (List ℕ)) (s : Option (List (List ℕ))) → IsAsDue (Some due) s → 1 ≤ length due → 4 ≤ call_low m (again_calls now s ++ later)
    by_sent due None sames h = absurd sames
    by_sent due (Some payloads) sames h = let same = sames.0 in first_least m (again payloads now) later (some_four (length payloads) (omega (arith, same, h)))

    by_range : (o : Option Range) → m.facts.connection.serving ≡ o → 4 ≤ call_low m (again_calls now agains ++ later)
    by_range None e = absurd (true≢false (sym serving ∙ ap (λ (k : Option Range). is_some k) e))
    by_range (Some r) e =
        by_sent (payloads_from g.at_again r.from (min most r.count)) agains (subst (λ (k : Option (List (List ℕ))). IsAsDue k agains) due g.again)
        (range_some most r g.at_again seen m.facts.recorded.sent one (subst (λ (k : Option Range). Within k) e range) enough look.again)
      where
        Within : Option Range → Type 0
        Within k = IfSome k (λ q. (1 ≤ q.count) × (q.from + q.count ≤ m.facts.recorded.sent + 1) × (1 ≤ q.from))

        due : served_of most (served_now m) g.at_again ≡ Some (payloads_from g.at_again r.from (min most r.count))
        due = ap (λ (k : Option Ending). served_of most (if is_some k then None else m.facts.connection.serving) g.at_again) going ∙ ap (λ (k : Option Range). served_of most k g.at_again) e

-- nothing is sent again where nothing is served
none_again : (m : State) (seen : History) (most now : ℕ) (agains lives : Option (List (List ℕ))) (finish : Option ℕ) → is_some m.facts.connection.serving ≡ false → Gives most m now agains lives finish → agains ≡ None
none_again m seen most now agains lives finish free g = by_sent agains (subst (λ (k : Option (List (List ℕ))). IsAsDue k agains) due g.again)
  where
    none : (o : Option Range) → is_some o ≡ false → o ≡ None
    none None e = refl
    none (Some r) e = absurd (true≢false e)

    both : (e : Option Ending) → served_of most (if is_some e then None else m.facts.connection.serving) g.at_again ≡ None
    both None = ap (λ (k : Option Range). served_of most k g.at_again) (none m.facts.connection.serving free)
    both (Some e) = refl

    due : served_of most (served_now m) g.at_again ≡ None
    due = both m.ending

    by_sent : (s : Option (List (List ℕ))) → IsAsDue None s → s ≡ None
    by_sent None sames = refl
    by_sent (Some payloads) sames = absurd sames

five_true : (a b c d e : Bool) → a ≡ false → b ≡ true → c ≡ true → d ≡ true → e ≡ true → (not a && b && c && d && e) ≡ true
five_true false true true true true p q r s t = refl
five_true true b c d e p q r s t = absurd (true≢false p)
five_true false false c d e p q r s t = absurd (true≢false (sym q))
five_true false true false d e p q r s t = absurd (true≢false (sym r))
five_true false true true false e p q r s t = absurd (true≢false (sym s))
five_true false true true true false p q r s t = absurd (true≢false (sym t))

none_is : (o : Option Range) → is_some o ≡ false → is_none o ≡ true
none_is None e = refl
none_is (Some r) e = absurd (true≢false e)

live_on : (m : State) → m.ending ≡ None → is_established m.facts.connection.phase ≡ true → is_some m.facts.connection.serving ≡ false → is_absent m.config.own_flow ≡ false → sends_live m ≡ true
live_on m going est free present = four (is_none m.ending) (is_established m.facts.connection.phase) (is_none m.facts.connection.serving) (is_absent m.config.own_flow)
    (ap (λ (e : Option Ending). is_none e) going) est (none_is m.facts.connection.serving free) present
  where
    four : (a b c d : Bool) → a ≡ true → b ≡ true → c ≡ true → d ≡ false → (a && b && c && not d) ≡ true
    four true true true false p q r s = refl
    four false b c d p q r s = absurd (true≢false (sym p))
    four true false c d p q r s = absurd (true≢false (sym q))
    four true true false d p q r s = absurd (true≢false (sym r))
    four true true true true p q r s = absurd (true≢false s)

-- entries go live, or, where all went, the finish is told
live_four : (m : State) (seen : History) (most now : ℕ) (lives : Option (List (List ℕ))) (finish : Option ℕ) (later : List Call) → 1 ≤ most → m.ending ≡ None → is_established m.facts.connection.phase ≡ true
    → is_absent m.config.own_flow ≡ false → is_some m.facts.connection.serving ≡ false → m.facts.recorded.sent < length seen.made → (at : History) → length seen.made ≤ length at.made → IsAsDue (live_of most m at) lives
    → 4 ≤ call_low m (live_calls now lives ++ later)
live_four m seen most now lives finish later one going est present free less at more sames = by_sent lives (subst (λ (k : Option (List (List ℕ))). IsAsDue k lives) due sames)
  where
    payloads_due : List (List ℕ)
    payloads_due = payloads_from at (m.facts.recorded.sent + 1) most

    due : live_of most m at ≡ Some payloads_due
    due = ap (λ (b : Bool). if b then Some payloads_due else None) (live_on m going est free present)

    some : 1 ≤ length payloads_due
    some = by_numbers (length payloads_due) most m.facts.recorded.sent (length at.made) (length seen.made) (count_from at (m.facts.recorded.sent + 1) most) one less more
      where
        by_numbers : (n most sent at seen : ℕ) → n ≡ min most (at - ((sent + 1) - 1)) → 1 ≤ most → sent < seen → seen ≤ at → 1 ≤ n
        by_numbers n most sent at seen a b c d = omega arith

    by_sent : (s : Option (List (List ℕ))) → IsAsDue (Some payloads_due) s → 4 ≤ call_low m (live_calls now s ++ later)
    by_sent None sames = absurd sames
    by_sent (Some payloads) sames = let same = sames.0 in let h = some in first_least m (live payloads now) later (some_four (length payloads) (omega (arith, same, h)))

tell_four : (m : State) (seen : History) (now : ℕ) (lives : Option (List (List ℕ))) (finish : Option ℕ) (later : List Call) → m.ending ≡ None → is_established m.facts.connection.phase ≡ true → is_absent m.config.own_flow ≡ false
    → is_some m.facts.connection.serving ≡ false → is_open m.facts.connection.own_finish ≡ true → m.facts.recorded.sent ≡ length seen.made → seen.finished ≡ true → finish ≡ finish_of m seen
    → 4 ≤ call_low m ((live_calls now lives ++ finish_calls now finish) ++ later)
tell_four m seen now lives finish later going est present free open_yet all marked told =
    subst (λ (o : Option ℕ). 4 ≤ call_low m ((live_calls now lives ++ finish_calls now o) ++ later)) (sym (told ∙ due)) (by_lives lives)
  where
    due : finish_of m seen ≡ Some (length seen.made)
    due = two (is_absent m.config.own_flow) seen.finished present marked
      where
        two : (a b : Bool) → a ≡ false → b ≡ true → (if not a && b then Some (length seen.made) else None) ≡ Some (length seen.made)
        two false true p q = refl
        two true b p q = absurd (true≢false p)
        two false false p q = absurd (true≢false (sym q))

    closed_call : Call
    closed_call = closed (length seen.made) now

    tells_in : (t : State) → t.ending ≡ None → t.config ≡ m.config → t.facts.connection ≡ m.facts.connection → t.facts.recorded.sent ≡ length seen.made → 4 ≤ call_lowers t closed_call
    tells_in t none same_config same_connection sent = four (is_none t.ending) (tells_finish (around t 0 now) t.facts (length seen.made)) (ap (λ (e : Option Ending). is_none e) none)
        (five_true (is_absent t.config.own_flow) (is_established t.facts.connection.phase) (is_open t.facts.connection.own_finish) (t.facts.recorded.sent == length seen.made) (is_none t.facts.connection.serving)
        (ap (λ c. is_absent c.own_flow) same_config ∙ present) (ap (λ c. is_established c.phase) same_connection ∙ est) (ap (λ c. is_open c.own_finish) same_connection ∙ open_yet)
        (eq-eqb t.facts.recorded.sent (length seen.made) sent) (ap (λ c. is_none c.serving) same_connection ∙ none_is m.facts.connection.serving free))
      where
        four : (a b : Bool) → a ≡ true → b ≡ true → 4 ≤ (if a && b then 4 else 0)
        four true true p q = omega arith
        four true false p q = absurd (true≢false (sym q))
        four false b p q = absurd (true≢false (sym p))

    by_lives : (ls : Option (List (List ℕ))) → 4 ≤ call_low m ((live_calls now ls ++ closed_call ∷ []) ++ later)
    by_lives None = first_least m closed_call later (tells_in m going refl refl all)
    by_lives (Some []) =
        later_least m (live [] now) (closed_call ∷ later) (first_least (step m (live [] now)) closed_call later (tells_in (step m (live [] now)) going refl refl (omega (arith, all))))
    by_lives (Some (payload ∷ payloads)) = first_least m (live (payload ∷ payloads) now) (closed_call ∷ later) (some_four (length (payload ∷ payloads)) (omega arith))

-- Behind the frames of a turn
pub rest_low : (m : State) (seen : History) (most now : ℕ) (agains lives : Option (List (List ℕ))) (finish : Option ℕ) (sent : List ℕ) → 1 ≤ most → m.ending ≡ None → InRange m.facts → m.facts.recorded.sent ≤ length seen.made
    → ToDo m seen now → (g : Gives most (step m (turn_done now)) now agains lives finish) → Looks seen most (step m (turn_done now)) now agains lives finish g → 4 ≤ call_low m (rest_calls now agains lives finish sent)
rest_low m seen most now agains lives finish sent one going range enough due g look = by_close (closes (around m 0 now) m.facts) refl
  where
    m1 : State
    m1 = step m (turn_done now)

    later : List Call
    later = taken (length sent) ∷ []

    same : (m1.ending ≡ m.ending) × (m1.config ≡ m.config)
    same = done_same m now

    by_close : (b : Bool) → closes (around m 0 now) m.facts ≡ b → 4 ≤ call_low m (rest_calls now agains lives finish sent)
    by_close true e = first_least m (turn_done now) ((again_calls now agains ++ (live_calls now lives ++ finish_calls now finish)) ++ later) (shut (is_none m.ending) (closes (around m 0 now) m.facts) (ap (λ (k : Option Ending). is_none k) going) e)
      where
        shut : (a b : Bool) → a ≡ true → b ≡ true → 4 ≤ (if a && b then 4 else 0)
        shut true true p q = omega arith
        shut true false p q = absurd (true≢false (sym q))
        shut false b p q = absurd (true≢false (sym p))
    by_close false e = later_least m (turn_done now) ((again_calls now agains ++ (live_calls now lives ++ finish_calls now finish)) ++ later) (by_serving (is_some m.facts.connection.serving) refl)
      where
        facts : m1.facts ≡ m.facts
        facts = done_facts m now going e

        on : m1.ending ≡ None
        on = same.0 ∙ going

        in_range : InRange m1.facts
        in_range = subst InRange (sym facts) range

        sent_same : m1.facts.recorded.sent ≡ m.facts.recorded.sent
        sent_same = ap (λ (f : Facts). f.recorded.sent) facts

        by_serving : (b : Bool) → is_some m.facts.connection.serving ≡ b → 4 ≤ call_low m1 ((again_calls now agains ++ (live_calls now lives ++ finish_calls now finish)) ++ later)
        by_serving true t =
            subst (λ (cs : List Call). 4 ≤ call_low m1 cs) (sym (append_assoc (again_calls now agains) (live_calls now lives ++ finish_calls now finish) later))
            (again_four m1 seen most now agains lives finish ((live_calls now lives ++ finish_calls now finish) ++ later) one on in_range (omega (arith, sent_same, enough))
            (ap (λ (f : Facts). is_some f.connection.serving) facts ∙ t) g look)
        by_serving false t =
            subst (λ (o : Option (List (List ℕ))). 4 ≤ call_low m1 ((again_calls now o ++ (live_calls now lives ++ finish_calls now finish)) ++ later)) (sym none) (by_due due)
          where
            free : is_some m1.facts.connection.serving ≡ false
            free = ap (λ (f : Facts). is_some f.connection.serving) facts ∙ t

            none : agains ≡ None
            none = none_again m1 seen most now agains lives finish free g

            live_due : IsAsDue (live_of most m1 g.at_live) lives
            live_due = subst (λ (o : Option (List (List ℕ))). IsAsDue (live_beside o (live_of most (run m1 (again_calls now o)) g.at_live)) lives) none g.live

            goes_live : is_established m.facts.connection.phase ≡ true → is_absent m.config.own_flow ≡ false → m.facts.recorded.sent < length seen.made → 4 ≤ call_low m1 ((live_calls now lives ++ finish_calls now finish) ++ later)
            goes_live est present less =
                subst (λ (cs : List Call). 4 ≤ call_low m1 cs) (sym (append_assoc (live_calls now lives) (finish_calls now finish) later))
                (live_four m1 seen most now lives finish (finish_calls now finish ++ later) one on (ap (λ (f : Facts). is_established f.connection.phase) facts ∙ est) (ap (λ c. is_absent c.own_flow) same.1 ∙ present) free
                (omega (arith, sent_same, less)) g.at_live look.live live_due)

            by_due : ToDo m seen now → 4 ≤ call_low m1 ((live_calls now lives ++ finish_calls now finish) ++ later)
            by_due (serves s) = absurd (true≢false (sym s ∙ t))
            by_due (shuts s) = absurd (true≢false (sym s ∙ e))
            by_due (sends est present less) = goes_live est present less
            by_due (tells est present open_yet most_sent marked) =
                by_bool _ (nat_lt m.facts.recorded.sent (length seen.made))
                (λ k. goes_live est present (ltb-true m.facts.recorded.sent (length seen.made) k))
                (λ k. let low = ltb-false m.facts.recorded.sent (length seen.made) k in
                tell_four m1 seen now lives finish later on (ap (λ (f : Facts). is_established f.connection.phase) facts ∙ est) (ap (λ c. is_absent c.own_flow) same.1 ∙ present) free
                (ap (λ (f : Facts). is_open f.connection.own_finish) facts ∙ open_yet) (omega (arith, sent_same, most_sent, low)) marked (g.told ∙ ap (λ (h : History). finish_of m1 h) (look.same marked)))
