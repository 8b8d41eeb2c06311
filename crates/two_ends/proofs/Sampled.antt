-- The sample of two ends, computed.
use Rattle.std.proofs.Common.{◌≡◌, ℕ, ◌<◌, nat_lt, Bool, true, false, List, [], ◌∷◌, map, refl, sym, subst, arith, true≢false}
use Rattle.std.specs.List.{AllByRecursion, AllZip, list_all}
use Rattle.std.specs.Cmp.{first_so, second_so}
use mathlib.Core.List.{IsPrefix}
use Rattle.std.proofs.lemmas.Bool.{ltb-true}
use Rattle.std.proofs.lemmas.List.Elements.{All-from_recursion}
use Rattle.sofh_frame.specs.Framing.{Frame, IsBytes}
use Rattle.sofh_frame.specs.Splits.{frames_of}
use Rattle.session_model.proofs.Lists.{prefix_self, prefix_equal}
use Rattle.session_model.specs.Journal.{InOrder, entries, is_finished, history_of, BeginsHistory}
use Rattle.session_model.specs.Inbox.{InboxRecord, applied, payloads_of}
use Rattle.session_model.specs.Plans.{Continues, SendersDone, sent_by}
use Rattle.session_model.specs.Lives.{Served, IsImage, KeepsOutbox}
use Rattle.session_model.specs.Samples.{silence}
use Rattle.session_model.proofs.Images.{image_of_none}
use Rattle.fixp_msgs.specs.Canonical.{IsLegal}
use Rattle.fixp_msgs.specs.Message.{Message}
use Rattle.fixp_replies.specs.Incoming.{session}
use Rattle.fixp_machine.specs.Machine.{Call}
use Rattle.connection_laws.specs.Writing.{Piece, said, bytes_written}
use Rattle.connection_laws.specs.Courses.{Course}
use Rattle.connection_laws.specs.Connections.{WasTaken}
use Rattle.connection_laws.specs.Living.{course_of, state_behind, inbox_behind}
use Rattle.connection_laws.specs.Samples.{sample_config}
use Rattle.two_ends.specs.Reading.{incoming_of, ReadsAs}
use Rattle.turn_laws.specs.Came.{came, AreFirstOf}
use Rattle.two_ends.specs.Hearing.{CameFrom}
use Rattle.stranger_laws.specs.Samples as port
use Rattle.two_ends.specs.Meeting.{TookWhole, no_more, right_alone, paired}
use Rattle.turn_laws.specs.MachineLives.{life_in}
use Rattle.two_ends.specs.Samples.{acceptor, opening, answer, leg_a, leg_b, life_on_leg, course_on, HandshakeSample, client, leg_of_client, leg_of_venue, life_at_port, PortSample}
use Rattle.two_ends.proofs.Cutting.{all_is_read}

-- bytes, by a test of each
all_below : (bs : List ℕ) → list_all (λ b. nat_lt b 256) bs ≡ true → AllByRecursion (λ b. b < 256) bs
all_below [] t = tt
all_below (b ∷ bs) t =
    let rest : Bool = list_all (λ b. nat_lt b 256) bs in
    (ltb-true b 256 (first_so (nat_lt b 256) rest t), all_below bs (second_so (nat_lt b 256) rest t))

-- the frames of what was written can come
can_come : (pieces : List Piece) (frames : List Frame) → AllZip ReadsAs pieces frames → AreFirstOf (map incoming_of pieces) frames
can_come [] frames reads = tt
can_come (p ∷ pieces) [] reads = absurd reads
can_come (p ∷ pieces) (f ∷ frames) reads = (reads.0.incoming, can_come pieces frames reads.1)

pub opening_is_legal : IsLegal opening
opening_is_legal = record { fields = (refl, (omega arith, (omega arith, (omega arith, (tt, tt))))); datum = omega arith }

pub answer_is_legal : IsLegal answer
answer_is_legal = record { fields = (refl, (omega arith, (omega arith, (omega arith, (tt, tt))))); datum = tt }

comes : (m : Message) → IsLegal m → AreFirstOf (map incoming_of (said m ∷ [])) (frames_of (bytes_written (said m ∷ [])))
comes m legal = can_come (said m ∷ []) (frames_of (bytes_written (said m ∷ []))) (all_is_read (said m ∷ []) (legal, tt))

pub are_bytes : (m : Message) → list_all (λ b. nat_lt b 256) (bytes_written (said m ∷ [])) ≡ true → IsBytes (bytes_written (said m ∷ []))
are_bytes m t = All-from_recursion (λ b. b < 256) (bytes_written (said m ∷ [])) (all_below (bytes_written (said m ∷ [])) t)

-- one frame that was written and taken whole, and came
came_whole : (m : Message) (calls : List Call) → IsLegal m → list_all (λ b. nat_lt b 256) (bytes_written (said m ∷ [])) ≡ true → came calls ≡ session m ∷ [] → CameFrom (bytes_written (said m ∷ [])) calls
came_whole m calls legal t same = record {
  bytes = bytes_written (said m ∷ []);
  are_bytes = are_bytes m t;
  begins = prefix_self (bytes_written (said m ∷ []));
  frames = subst (λ is. AreFirstOf is (frames_of (bytes_written (said m ∷ [])))) (sym same) (comes m legal);
}

took_whole : (c : Course) (whole : List Piece) → whole ≡ c.output → TookWhole c (bytes_written whole) whole
took_whole c whole all = record {
  first = prefix_equal whole c.output all;
  within = prefix_self (bytes_written whole);
  all = λ more p _. subst (λ ps. IsPrefix more ps) (sym all) p;
}

-- nothing is sent, and nothing was to be
pub sends_nothing : (s : Served) → KeepsOutbox silence (record { opening_outbox = []; closing_outbox = []; refused_outbox = []; served = s })
sends_nothing s =
    let inbox : List InboxRecord = s.closing_inbox in
    let opening : List InboxRecord = s.opening_inbox in
    record {
      outbox_grows = prefix_self [];
      history_grows = λ image i. image_of_none (λ k. BeginsHistory (history_of []) (history_of k)) [] image (record { made = prefix_self []; alone = λ _. refl }) i;
      in_order = λ image i. image_of_none (λ k. InOrder (entries k)) [] image (λ s. refl) i;
      plans = λ image i s.
          image_of_none (λ k. Continues (silence s (payloads_of (applied inbox))) (sent_by [] s) (sent_by (entries k) s)) [] image (record { more = []; behind = refl; planned = prefix_self [] }) i;
      finishes = λ image i _ t.
          image_of_none (λ k. is_finished k ≡ true → SendersDone silence [] (entries k) opening inbox) [] image (λ f. absurd (true≢false (sym f))) i t;
    }

pub nothing_left : {A : Type 0} → IsImage {A = A} [] [] []
nothing_left = record { kept = []; beginning = prefix_self []; holds = refl }

pub handshake_sample : HandshakeSample
handshake_sample = (
  record {
    lives_a = (
      record {
        own_flow = refl;
        peer_flow = refl;
        opens = record { awaits = refl; enough = omega arith; before = λ _. omega arith };
        legs = (
          record {
            calls = (record { may_call = tt; comes = omega arith }, (record { may_call = (refl, refl); comes = record { begun = refl; going = refl; done = refl } }, tt));
            taken = record { first = prefix_self (said opening ∷ []); all = λ _. refl };
          },
          tt,
        );
        last = tt;
      },
      tt,
    );
    lives_b = (
      record {
        own_flow = refl;
        peer_flow = refl;
        opens = record { awaits = refl; enough = omega arith; before = λ _. omega arith };
        legs = (
          record {
            calls = (record { may_call = (refl, refl); comes = record { begun = refl; going = refl; done = refl } }, (record { may_call = tt; comes = omega arith }, tt));
            taken = record { first = prefix_self (said answer ∷ []); all = λ _. refl };
          },
          tt,
        );
        last = tt;
      },
      tt,
    );
    chained_a = ([], [], record { opens_outbox = refl; opens_inbox = refl; outbox_image = nothing_left; inbox_image = nothing_left }, (refl, refl));
    chained_b = ([], [], record { opens_outbox = refl; opens_inbox = refl; outbox_image = nothing_left; inbox_image = nothing_left }, (refl, refl));
    outboxes_a = (sends_nothing (life_in (life_on_leg sample_config leg_a)).served, tt);
    outboxes_b = (sends_nothing (life_in (life_on_leg acceptor leg_b)).served, tt);
    linked = paired
        (record { sent = bytes_written leg_b.whole; written = prefix_self (bytes_written leg_b.whole); came = came_whole answer leg_a.calls answer_is_legal refl refl; legal = (answer_is_legal, tt); whole = took_whole (course_on acceptor leg_b) leg_b.whole refl })
        (record { sent = bytes_written leg_a.whole; written = prefix_self (bytes_written leg_a.whole); came = came_whole opening leg_b.calls opening_is_legal refl refl; legal = (opening_is_legal, tt); whole = took_whole (course_on sample_config leg_a) leg_a.whole refl })
        no_more;
  },
  refl,
  refl,
)

-- ---- three strangers before the peer

known_is_legal : IsLegal port.opening
known_is_legal = record { fields = (refl, (omega arith, (omega arith, (omega arith, (tt, tt))))); datum = omega arith }

-- a connection of which the link took nothing, and that is not drained
took_nothing : (c : Course) → WasTaken c [] false
took_nothing c = record { first = (c.output, refl); all = λ e. absurd (true≢false (sym e)) }

pub port_sample : PortSample
port_sample = record {
  lives_a = (
    record {
      own_flow = refl;
      peer_flow = refl;
      opens = record { awaits = refl; enough = omega arith; before = λ _. omega arith };
      legs = (
        record {
          calls = (record { may_call = tt; comes = omega arith }, (record { may_call = (refl, refl); comes = record { begun = refl; going = refl; done = refl } }, tt));
          taken = record { first = prefix_self (said port.opening ∷ []); all = λ _. refl };
        },
        tt,
      );
      last = tt;
    },
    tt,
  );
  lives_b = (
    record {
      own_flow = refl;
      peer_flow = refl;
      opens = record { awaits = refl; enough = omega arith; before = λ _. omega arith };
      legs = (
        record { calls = (record { may_call = tt; comes = tt }, tt); taken = took_nothing _ },
        (
          record { calls = (record { may_call = tt; comes = tt }, tt); taken = took_nothing _ },
          (
            record { calls = (record { may_call = (refl, refl); comes = record { begun = refl; going = refl; done = refl } }, (record { may_call = tt; comes = tt }, tt)); taken = took_nothing _ },
            (
              record {
                calls = (record { may_call = (refl, refl); comes = record { begun = refl; going = refl; done = refl } }, (record { may_call = tt; comes = omega arith }, tt));
                taken = record { first = prefix_self (said answer ∷ []); all = λ _. refl };
              },
              tt,
            ),
          ),
        ),
      );
      last = tt;
    },
    tt,
  );
  chained_a = ([], [], record { opens_outbox = refl; opens_inbox = refl; outbox_image = nothing_left; inbox_image = nothing_left }, (refl, refl));
  chained_b = ([], [], record { opens_outbox = refl; opens_inbox = refl; outbox_image = nothing_left; inbox_image = nothing_left }, (refl, refl));
  outboxes_a = (sends_nothing (life_in (life_on_leg client leg_of_client)).served, tt);
  outboxes_b = (sends_nothing (life_in life_at_port).served, tt);
  linked = right_alone tt (right_alone tt (right_alone (refl, tt) (paired
      (record { sent = bytes_written leg_of_venue.whole; written = prefix_self (bytes_written leg_of_venue.whole); came = came_whole answer leg_of_client.calls answer_is_legal refl refl; legal = (answer_is_legal, tt); whole = took_whole last_course leg_of_venue.whole refl })
      (record { sent = bytes_written leg_of_client.whole; written = prefix_self (bytes_written leg_of_client.whole); came = came_whole port.opening leg_of_venue.calls known_is_legal refl refl; legal = (known_is_legal, tt); whole = took_whole (course_on client leg_of_client) leg_of_client.whole refl })
      no_more)));
}
  where
    last_course : Course
    last_course = course_of (state_behind port.begins [] port.strangers) (inbox_behind port.begins [] port.strangers) leg_of_venue
