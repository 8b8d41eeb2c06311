-- The samples, computed.
use Rattle.std.proofs.Common.{◌≡◌, inl, false, List, [], ◌∷◌, length, None, refl, sym, ap, subst, ◌∙◌, arith, append-nil}
use Rattle.std.specs.List.{AllByRecursion}
use mathlib.Core.List.{IsPrefix}
use Rattle.session_model.specs.Journal.{Entry, History}
use Rattle.session_model.proofs.Lists.{prefix_self}
use Rattle.gate_turn.proofs.Histories.{begins_self}
use Rattle.fixp_msgs.specs.Payload.{IsApplication}
use Rattle.fixp_machine.specs.Machine.{State, run}
use Rattle.conn_turns.specs.Lines.{Line, line_after, lines_after}
use Rattle.conn_turns.specs.Turns.{Work, sending_calls}
use Rattle.conn_turns.specs.Exact.{line_ticked, line_sent}
use Rattle.turn_laws.specs.Turns.{line_received, Works}
use Rattle.turn_laws.specs.Legs.{TurnedLeg, AreTurnsOf, IsTimely, first_line}
use Rattle.honest_ends.specs.Resting.{IsIdle}
use Rattle.honest_turns.proofs.Connecting.{behind_last}
use Rattle.fixp_msgs.specs.Canonical.{frame_bytes}
use Rattle.fixp_shake.specs.declared.config.EndConfig.{EndConfig}
use Rattle.connection_laws.specs.Ranges.{IsInRange}
use Rattle.connection_laws.specs.Samples.{sample_config}
use Rattle.two_ends.specs.Samples.{acceptor, opening, answer}
use Rattle.two_ends.specs.LoopSamples.{nothing, hears, leg_a, leg_b, begins}
use Rattle.two_ends.proofs.LoopSampled.{turns_sample}
use Rattle.honest_turns.specs.Links.{OverOneLink}
use Rattle.honest_turns.specs.Sides.{behind, IsReady, MakesTurns}
use Rattle.honest_turns.specs.Lives.{side_of, no_more, paired}
use Rattle.honest_turns.specs.Samples.{UnwrittenAgree, handshake, HandshakeSample, over, RestSample}

pub unwritten_agree : UnwrittenAgree
unwritten_agree hi ha ci ca most match in_i in_a = record {
  matches = match;
  outward = record { sent = omega arith; most = in_i; one = λ _. omega arith; next = omega arith; finish = tt; last = tt; ends = λ _. tt };
  homeward = record { sent = omega arith; most = in_a; one = λ _. omega arith; next = omega arith; finish = tt; last = tt; ends = λ _. tt };
  last_i = λ _. tt;
  last_a = λ _. tt;
}

over_link : OverOneLink leg_a leg_b
over_link = record {
  order = handshake;
  turns_i = refl;
  turns_a = refl;
  passes = ([], refl, ([], sym (append-nil (frame_bytes opening)), ([], sym (append-nil (frame_bytes answer)), tt)));
}

ready : (config : EndConfig) → IsInRange (begins config) → IsReady nothing (begins config) []
ready config range = record { awaits = refl; range = range; entries = record { payloads = tt; few = omega arith } }

pub handshake_sample : HandshakeSample
handshake_sample = (
  over_link,
  paired over_link no_more,
  record {
    initiator = ready sample_config turns_sample.0.lives_a.0.range;
    acceptor = ready acceptor turns_sample.0.lives_b.0.range;
    agree = record {
      matches = record { initiates = refl; accepts = refl; session = refl; credentials = refl; outward = refl; homeward = refl; keepalive = (omega arith, omega arith) };
      outward = record { sent = omega arith; most = omega arith; one = λ _. omega arith; next = omega arith; finish = tt; last = tt; ends = λ _. tt };
      homeward = record { sent = omega arith; most = omega arith; one = λ _. omega arith; next = omega arith; finish = tt; last = tt; ends = λ _. tt };
      last_i = λ _. tt;
      last_a = λ _. tt;
    };
  },
)

-- ---- at rest behind it

prefix_nil : (h : List Entry) → IsPrefix h [] → h ≡ []
prefix_nil [] p = refl
prefix_nil (e ∷ h) p = absurd (cc (p.1))

abbrev first_a : Line
first_a = first_line 16 (begins sample_config) 0

abbrev mid_a : Line
mid_a = line_sent (line_ticked first_a 0) (frame_bytes opening) false

abbrev work_a : Work
work_a = hears answer []

abbrev work_b : Work
work_b = hears opening (frame_bytes answer)

-- what is held behind the frame that came
none_held_a : (lines_after 0 (line_received mid_a 0 (frame_bytes answer) work_a.got) work_a.frames).held ≡ []
unfolding line_after
none_held_a = refl

none_held_b : (lines_after 0 (line_received (first_line 16 (begins acceptor) 0) 0 (frame_bytes opening) work_b.got) work_b.frames).held ≡ []
unfolding line_after
none_held_b = refl

held_behind : (before after : History) (old new : Line) (w : Work) → Works before after old new w → new.held ≡ (lines_after w.now (line_received old w.now w.received w.got) w.frames).held
held_behind before after old new w k = ap (λ (l : Line). l.held) k.sends.line ∙ k.served.held

held_a : (t : AreTurnsOf [] (begins sample_config) leg_a) → t.last.held ≡ []
held_a t =
    let k = t.turns in
    ap (λ (l : Line). l.held) k.6.6.0
    ∙ (held_behind k.4 k.6.2 k.1 k.6.1 work_a k.6.3
    ∙ (ap (λ (l : Line). (lines_after 0 (line_received l 0 (frame_bytes answer) work_a.got) work_a.frames).held) k.3.0.line ∙ none_held_a))

held_b : (t : AreTurnsOf [] (begins acceptor) leg_b) → t.last.held ≡ []
held_b t =
    let k = t.turns in
    ap (λ (l : Line). l.held) k.6.0 ∙ (held_behind t.before k.2 (first_line 16 (begins acceptor) 0) k.1 work_b k.3 ∙ none_held_b)

-- a side of turns over what they saw of an outbox without entries
module _ (config : EndConfig) (leg : TurnedLeg) (range : IsInRange (begins config)) (t : AreTurnsOf [] (begins config) leg) (time : IsTimely leg) where
  none_made : t.after.made ≡ []
  none_made = prefix_nil t.after.made t.has.begins

  ready_so : IsReady t.after (begins config) []
  ready_so = record {
    awaits = refl;
    range = range;
    entries = record { payloads = subst (λ (es : List Entry). AllByRecursion (λ (e : Entry). IsApplication e.payload) es) (sym none_made) tt; few = let e : length t.after.made ≡ 0 = ap length none_made in omega (arith, e) };
  }

  makes_so : MakesTurns (side_of (over t.after config) leg)
  makes_so = record {
    ready = ready_so;
    turns = record {
      before = t.before;
      after = t.after;
      last = t.last;
      turns = t.turns;
      cut = t.cut;
      has = record { begins = prefix_self t.after.made; few = let e : length t.after.made ≡ 0 = ap length none_made in omega (arith, e) };
      faithful = t.faithful;
    };
    seen = begins_self t.after;
    timely = time;
  }

  machine_so : leg.cut ≡ None → behind (side_of (over t.after config) leg) ≡ t.last.machine
  unfolding makes_so
  machine_so whole = behind_last (side_of (over t.after config) leg) makes_so (omega arith) whole

idle_so : (h : List Entry) (x y : State) → x ≡ y → IsIdle h x → IsIdle h y
idle_so h x y e k = subst (λ (s : State). IsIdle h s) e k

turns_i : AreTurnsOf [] (begins sample_config) leg_a
turns_i = turns_sample.0.lives_a.0.turns.0

turns_a : AreTurnsOf [] (begins acceptor) leg_b
turns_a = turns_sample.0.lives_b.0.turns.0

time_i : IsTimely leg_a
time_i = turns_sample.0.lives_a.0.timely.0

time_a : IsTimely leg_b
time_a = turns_sample.0.lives_b.0.timely.0

range_i : IsInRange (begins sample_config)
range_i = turns_sample.0.lives_a.0.range

range_a : IsInRange (begins acceptor)
range_a = turns_sample.0.lives_b.0.range

none_i : turns_i.after.made ≡ []
none_i = none_made sample_config leg_a range_i turns_i time_i

none_a : turns_a.after.made ≡ []
none_a = none_made acceptor leg_b range_a turns_a time_a

last_i : behind (side_of (over turns_i.after sample_config) leg_a) ≡ turns_i.last.machine
last_i = machine_so sample_config leg_a range_i turns_i time_i refl

last_a : behind (side_of (over turns_a.after acceptor) leg_b) ≡ turns_a.last.machine
last_a = machine_so acceptor leg_b range_a turns_a time_a refl

pub rest_sample : RestSample
unfolding makes_so turns_i
rest_sample = record {
  initiator = turns_i.after;
  acceptor = turns_a.after;
  empty_i = none_i;
  empty_a = none_a;
  makes_i = makes_so sample_config leg_a range_i turns_i time_i;
  makes_a = makes_so acceptor leg_b range_a turns_a time_a;
  link = over_link;
  agree =
      let e : length turns_i.after.made ≡ 0 = ap length none_i in
      let f : length turns_a.after.made ≡ 0 = ap length none_a in
      record {
        matches = record { initiates = refl; accepts = refl; session = refl; credentials = refl; outward = refl; homeward = refl; keepalive = (omega arith, omega arith) };
        outward = record { sent = omega arith; most = omega (arith, e); one = λ _. omega arith; next = omega arith; finish = tt; last = tt; ends = λ _. tt };
        homeward = record { sent = omega arith; most = omega (arith, f); one = λ _. omega arith; next = omega arith; finish = tt; last = tt; ends = λ _. tt };
        last_i = λ _. tt;
        last_a = λ _. tt;
      };
  rest = inl (record {
    initiator = idle_so turns_i.after.made _ turns_i.last.machine last_i (record { going = refl; established = refl; unasked = refl; sent = sym (ap length none_i) });
    acceptor = idle_so turns_a.after.made _ turns_a.last.machine last_a (record { going = refl; established = refl; unasked = refl; sent = sym (ap length none_a) });
    outward = record { sent = ap (λ (s : State). s.unsent) (sym last_i); given = refl; taken = held_b turns_a };
    homeward = record { sent = ap (λ (s : State). s.unsent) (sym last_a); given = refl; taken = held_a turns_i };
  });
  opens = record {
    outbox = refl;
    ready = ready_so sample_config leg_a range_i turns_i time_i;
    config = record { role = refl; session = refl; credentials = refl; own = refl; peer = refl; interval = (omega arith, omega arith) };
    most = refl;
    next = refl;
    last = refl;
    sent = omega arith;
    enough = omega arith;
    finish = tt;
    kept = λ n e. absurd (cc e);
  };
}
