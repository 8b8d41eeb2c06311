-- The sample of two loops, computed.
use Rattle.std.proofs.Common.{◌≡◌, inr, ℕ, ◌+◌, true, false, List, [], ◌∷◌, ◌++◌, length, drop, refl, sym, ap, subst, ◌∙◌, arith, append-nil}
use Rattle.std.specs.Prelude.{◌<◌, nat_lt}
use Rattle.std.specs.List.{list_all}
use Rattle.std.proofs.lemmas.List.Elements.{All-nil}
use Rattle.sofh_frame.specs.Framing.{Frame, IsBytes, spelled}
use Rattle.sofh_frame.proofs.SplitLemmas.{drop-spelled}
use Rattle.session_model.specs.Journal.{BeginsHistory}
use Rattle.session_model.proofs.Lists.{prefix_self}
use Rattle.fixp_msgs.specs.Canonical.{IsLegal, frame_bytes}
use Rattle.fixp_msgs.specs.Message.{Message}
use Rattle.fixp_msgs.proofs.Written.{message_spells}
use Rattle.fixp_shake.specs.declared.config.EndConfig.{EndConfig}
use Rattle.fixp_machine.specs.Machine.{run}
use Rattle.conn_turns.specs.Lines.{Line, IsNext, MayTake, line_after, lines_after}
use Rattle.conn_turns.specs.Exact.{line_ticked, line_sent}
use Rattle.conn_turns.specs.Turns.{Turn, Work, works, calls_of_frames, closing_calls, outbox_calls, sending_calls}
use Rattle.connection_laws.specs.Writing.{said, bytes_written}
use Rattle.connection_laws.specs.Samples.{sample_config}
use Rattle.connection_laws.proofs.Framing.{is_session, frame_of_message}
use Rattle.connection_laws.specs.Ranges.{IsInRange}
use Rattle.turn_laws.specs.MachineLives.{life_in}
use Rattle.two_ends.specs.Samples.{acceptor, opening, answer}
use Rattle.two_ends.proofs.Sampled.{opening_is_legal, answer_is_legal, are_bytes, sends_nothing, nothing_left}
use Rattle.turn_laws.specs.Turns.{Sends, line_received, Works}
use Rattle.turn_laws.specs.Legs.{first_line, AreTurnsOf, given_in, given_on, moment_of, IsTimelyTurn}
use Rattle.turn_laws.specs.LoopLives.{machine_life}
use Rattle.two_ends.specs.Loops.{no_more, paired}
use Rattle.two_ends.specs.LoopSamples.{nothing, frame_of, hears, leg_a, leg_b, begins, life_on_leg, TurnsSample}

-- what a turn that worked leaves, before and behind its sending
abbrev received_in : Line → Work → Line
received_in old w = line_received old w.now w.received w.got

abbrev served_in : Line → Work → Line
served_in old w = record {
  machine = run (received_in old w).machine (calls_of_frames w.now w.frames ++ (closing_calls w ++ outbox_calls w));
  held = (lines_after w.now (received_in old w) w.frames).held;
  place = (lines_after w.now (received_in old w) w.frames).place;
  over = (lines_after w.now (received_in old w) w.frames).over;
  serves = (lines_after w.now (received_in old w) w.frames).serves;
  waits = (lines_after w.now (received_in old w) w.frames).waits;
  per_turn = (lines_after w.now (received_in old w) w.frames).per_turn;
}

abbrev sent_in : Line → Work → Line
sent_in old w = line_sent (served_in old w) w.sent w.lost

-- the frame of a message at the front
next_is : (l : Line) (m : Message) → IsLegal m → MayTake l → l.held ≡ frame_bytes m → l.place ≡ 0 → IsNext l (frame_of m)
next_is l m legal may held place =
    let f : Frame = (frame_of m).frame in
    let there = frame_of_message m legal in
    let spells : l.held ≡ spelled f = held ∙ sym there.bytes in
    let none : drop (6 + length f.message) l.held ≡ [] = ap (λ (bs : List ℕ). drop (6 + length f.message) bs) (spells ∙ sym (append-nil (spelled f))) ∙ drop-spelled f [] in
    record {
      may = may;
      begins = record { spells = spells ∙ (sym (append-nil (spelled f)) ∙ ap (λ (bs : List ℕ). spelled f ++ bs) (sym none)); counts = refl; admissible = there.admissible };
      at = sym place;
      is = (is_session m legal, message_spells m legal);
    }

same : BeginsHistory nothing nothing
same = record { made = prefix_self []; alone = λ _. refl }

-- the turns of each end
abbrev first_a : Line
first_a = first_line 16 (begins sample_config) 0

abbrev mid_a : Line
mid_a = line_sent (line_ticked first_a 0) (frame_bytes opening) false

sends_a : Sends (frame_bytes opening) false (line_ticked first_a 0) mid_a
sends_a = record { front = ([], refl); line = refl }

abbrev work_a : Work
work_a = hears answer []

works_a : Works nothing nothing mid_a (sent_in mid_a work_a) work_a
unfolding line_after
works_a = record {
  behind = served_in mid_a work_a;
  served = record {
    frames = (record { next = next_is (received_in mid_a work_a) answer answer_is_legal (record { goes_on = refl; free = refl }) refl refl; recorded = refl; helds = refl }, tt);
    few = omega arith;
    last = inr (inr (inr refl));
    broken = refl;
    link_over = refl;
    due_again = refl;
    due_live = refl;
    again = tt;
    live = (refl, tt);
    finish = refl;
    seen_again = same;
    seen_live = same;
    seen_finish = same;
    seen = refl;
    machine = refl;
    held = refl;
    place = refl;
    over = refl;
    serves = refl;
    waits = refl;
    per_turn = refl;
  };
  sends = record { front = ((served_in mid_a work_a).machine.unsent, refl); line = refl };
}

of_a : AreTurnsOf [] (begins sample_config) leg_a
of_a = record {
  before = nothing;
  after = nothing;
  last = sent_in mid_a work_a;
  turns = (refl, mid_a, nothing, (sends_a, refl), nothing, same, (refl, sent_in mid_a work_a, nothing, works_a, nothing, same, (refl, refl)));
  cut = tt;
  has = record { begins = prefix_self []; few = omega arith };
  faithful = (tt, ((refl, refl), tt));
}

abbrev first_b : Line
first_b = first_line 16 (begins acceptor) 0

abbrev work_b : Work
work_b = hears opening (frame_bytes answer)

works_b : Works nothing nothing first_b (sent_in first_b work_b) work_b
unfolding line_after
works_b = record {
  behind = served_in first_b work_b;
  served = record {
    frames = (record { next = next_is (received_in first_b work_b) opening opening_is_legal (record { goes_on = refl; free = refl }) refl refl; recorded = refl; helds = refl }, tt);
    few = omega arith;
    last = inr (inr (inr refl));
    broken = refl;
    link_over = refl;
    due_again = refl;
    due_live = refl;
    again = tt;
    live = (refl, tt);
    finish = refl;
    seen_again = same;
    seen_live = same;
    seen_finish = same;
    seen = refl;
    machine = refl;
    held = refl;
    place = refl;
    over = refl;
    serves = refl;
    waits = refl;
    per_turn = refl;
  };
  sends = record { front = ([], refl); line = refl };
}

of_b : AreTurnsOf [] (begins acceptor) leg_b
of_b = record {
  before = nothing;
  after = nothing;
  last = sent_in first_b work_b;
  turns = (refl, sent_in first_b work_b, nothing, works_b, nothing, same, (refl, refl));
  cut = tt;
  has = record { begins = prefix_self []; few = omega arith };
  faithful = ((refl, refl), tt);
}

-- the machine is in range, and what came on a connection
in_range : (config : EndConfig) → length config.session ≡ 16 → config.keepalive ≡ 1000 → config.credentials ≡ [] → IsInRange (begins config)
in_range config session keepalive credentials = record {
  session = session;
  keepalive = omega (arith, keepalive);
  credentials = omega (arith, ap (λ (bs : List ℕ). length bs) credentials);
  most = omega arith;
  next = omega arith;
}

timely : (t : Turn) (m : Message) → list_all (λ b. nat_lt b 256) (bytes_written (said m ∷ [])) ≡ true → given_in t ≡ bytes_written (said m ∷ []) → moment_of t ≡ 0 → IsTimelyTurn t
timely t m small given zero = record { bytes = subst IsBytes (sym given) (are_bytes m small); time = omega (arith, zero) }

pub turns_sample : TurnsSample
turns_sample = (
  record {
    lives_a = (record { own_flow = refl; peer_flow = refl; range = in_range sample_config refl refl refl; opens = record { awaits = refl; enough = omega arith; before = λ _. omega arith }; payloads = tt; turns = (of_a, tt); last = tt; timely = (record { begins = omega arith; turns = (record { bytes = All-nil (λ (b : ℕ). b < 256); time = omega arith }, (timely (works work_a) answer refl refl refl, tt)) }, tt) }, tt);
    lives_b = (record { own_flow = refl; peer_flow = refl; range = in_range acceptor refl refl refl; opens = record { awaits = refl; enough = omega arith; before = λ _. omega arith }; payloads = tt; turns = (of_b, tt); last = tt; timely = (record { begins = omega arith; turns = (timely (works work_b) opening refl refl refl, tt) }, tt) }, tt);
    chained_a = ([], [], record { opens_outbox = refl; opens_inbox = refl; outbox_image = nothing_left; inbox_image = nothing_left }, (refl, refl));
    chained_b = ([], [], record { opens_outbox = refl; opens_inbox = refl; outbox_image = nothing_left; inbox_image = nothing_left }, (refl, refl));
    outboxes_a = (sends_nothing (life_in (machine_life (life_on_leg sample_config leg_a))).served, tt);
    outboxes_b = (sends_nothing (life_in (machine_life (life_on_leg acceptor leg_b))).served, tt);
    linked = paired (prefix_self (given_on leg_a)) (prefix_self (given_on leg_b)) no_more;
  },
  refl,
  refl,
)
