-- Sample sessions that meet the guarantee's premises, so that these are no empty words: two lives at each end, a refused record
-- that is lost and one that stays, connections that reached nobody, an Establish that was rejected, two finishes.
use Rattle.std.specs.Prelude.{◌≡◌, ℕ, ◌==◌, if◌then◌else◌, List, [], ◌∷◌, map, Some, None, true, false}
use mathlib.Core.List.{IsPrefix}
use Rattle.session_model.specs.Journal.{OutboxRecord, entry, finish, BeginsHistory}
use Rattle.session_model.specs.Inbox.{Range, InboxRecord, apply, skip, negotiated, peer_finished}
use Rattle.session_model.specs.Events.{Event, announce, handshake, in_flow, message}
use Rattle.session_model.specs.Growth.{Flow, recoverable, idempotent, unsequenced, no_flow, Grown, GrownLater}
use Rattle.session_model.specs.Plans.{GoesOn, Completes}
use Rattle.session_model.specs.Lives.{Connection, Life}
use Rattle.session_model.specs.Guarantee.{OneEnd, Session}
use Rattle.session_model.specs.Moments.{Step, of_a, of_b, keep, connect, write, process, stop, opened_on, after, beginning, SessionHistory}

-- three payloads
abbrev pub one : List ℕ
one = 1 ∷ []

abbrev pub two : List ℕ
two = 2 ∷ []

abbrev pub three : List ℕ
three = 3 ∷ []

-- the reply to a message
abbrev pub reply : List ℕ → List ℕ
reply payload = 0 ∷ payload

abbrev pub sent : ℕ → ℕ → List ℕ → OutboxRecord
sent s k payload = entry (record { sender = s; own_number = k; payload = payload })

abbrev pub got : ℕ → List ℕ → InboxRecord
got n payload = apply (record { number = n; payload = payload })

-- the number that an idempotent inbox misses
abbrev pub missed : Range
missed = record { first = 2; count = 1 }

-- sender 1 of end a is to send one and three, sender 2 two
abbrev pub orders : ℕ → List (List ℕ) → List (List ℕ)
orders s applied = if 1 == s then one ∷ three ∷ [] else if 2 == s then two ∷ [] else []

-- sender 1 of end b is to send the reply to each message applied
abbrev pub replies : ℕ → List (List ℕ) → List (List ℕ)
replies s applied = if 1 == s then map reply applied else []

-- End a sent one and two; the append of three failed. Its first Establish was rejected; its second connection reached nobody
abbrev pub first_a : Life
first_a = record {
  opening_outbox = [];
  closing_outbox = sent 1 1 one ∷ sent 2 1 two ∷ [];
  refused_outbox = sent 1 2 three ∷ [];
  served = record {
    opening_inbox = [];
    closing_inbox = negotiated ∷ got 1 (reply one) ∷ [];
    refused_inbox = [];
    processed = 2;
    connections =
        record {
          accepted = announce handshake (Some 1) ∷ message (reply one) ∷ [];
          written = announce handshake (Some 1) ∷ announce handshake (Some 1) ∷ message one ∷ message two ∷ [];
          added = negotiated ∷ got 1 (reply one) ∷ [];
          reported = [];
          drained = true;
        }
        ∷ record { accepted = []; written = announce handshake (Some 3) ∷ []; added = []; reported = []; drained = false }
        ∷ [];
  };
}

-- Three stood in the journal all the same. End a is asked for two, and jumps over the reply that was lost. It has finished
abbrev pub second_a : Life
second_a = record {
  opening_outbox = sent 1 1 one ∷ sent 2 1 two ∷ sent 1 2 three ∷ [];
  closing_outbox = sent 1 1 one ∷ sent 2 1 two ∷ sent 1 2 three ∷ finish ∷ [];
  refused_outbox = [];
  served = record {
    opening_inbox = negotiated ∷ got 1 (reply one) ∷ [];
    closing_inbox = negotiated ∷ got 1 (reply one) ∷ skip missed ∷ got 3 (reply three) ∷ [];
    refused_inbox = [];
    processed = 3;
    connections =
        record {
          accepted = announce handshake (Some 2) ∷ [];
          written = announce handshake (Some 4) ∷ announce in_flow (Some 2) ∷ message two ∷ message three ∷ announce in_flow (Some 4) ∷ [];
          added = [];
          reported = [];
          drained = false;
        }
        ∷ record {
          accepted = announce handshake (Some 3) ∷ message (reply three) ∷ [];
          written = announce handshake (Some 4) ∷ [];
          added = skip missed ∷ got 3 (reply three) ∷ [];
          reported = missed ∷ [];
          drained = true;
        }
        ∷ [];
  };
}

-- End b applied one; the append of two failed, and so two is not processed for sure
abbrev pub first_b : Life
first_b = record {
  opening_outbox = [];
  closing_outbox = sent 1 1 (reply one) ∷ [];
  refused_outbox = [];
  served = record {
    opening_inbox = [];
    closing_inbox = got 1 one ∷ [];
    refused_inbox = got 2 two ∷ [];
    processed = 2;
    connections =
        record {
          accepted = announce handshake (Some 1) ∷ message one ∷ message two ∷ [];
          written = announce handshake (Some 1) ∷ message (reply one) ∷ [];
          added = got 1 one ∷ [];
          reported = [];
          drained = false;
        }
        ∷ [];
  };
}

-- Two was lost, and is sent again. The reply to it went into a connection that reached nobody. End b has finished behind the
-- reply to all that its peer had to send. So many of the events that it accepted are said to be processed for sure
abbrev pub second_b : ℕ → Life
second_b sure = record {
  opening_outbox = sent 1 1 (reply one) ∷ [];
  closing_outbox = sent 1 1 (reply one) ∷ sent 1 2 (reply two) ∷ sent 1 3 (reply three) ∷ finish ∷ [];
  refused_outbox = [];
  served = record {
    opening_inbox = got 1 one ∷ [];
    closing_inbox = got 1 one ∷ got 2 two ∷ got 3 three ∷ peer_finished 3 ∷ [];
    refused_inbox = [];
    processed = sure;
    connections =
        record {
          accepted = announce handshake (Some 4) ∷ announce in_flow (Some 2) ∷ message two ∷ message three ∷ [];
          written = announce handshake (Some 2) ∷ [];
          added = got 2 two ∷ got 3 three ∷ [];
          reported = [];
          drained = true;
        }
        ∷ record { accepted = []; written = announce handshake (Some 2) ∷ message (reply two) ∷ []; added = []; reported = []; drained = false }
        ∷ record {
          accepted = announce handshake (Some 4) ∷ [];
          written = announce handshake (Some 3) ∷ message (reply three) ∷ [];
          added = peer_finished 3 ∷ [];
          reported = [];
          drained = true;
        }
        ∷ [];
  };
}

-- both ends, where end b's second life is to have processed so many events for sure
abbrev pub end_a : OneEnd Flow Life
end_a = record {
  flow = recoverable;
  plan = orders;
  lives = first_a ∷ second_a ∷ [];
  outbox = second_a.closing_outbox;
  inbox = second_a.served.closing_inbox;
}

abbrev pub end_b : ℕ → OneEnd Flow Life
end_b sure = record {
  flow = idempotent;
  plan = replies;
  lives = first_b ∷ second_b sure ∷ [];
  outbox = (second_b sure).closing_outbox;
  inbox = (second_b sure).served.closing_inbox;
}

-- the session
abbrev pub SequencedSample : ℕ → Type 0
SequencedSample sure = Session end_a (end_b sure)

abbrev pub SamplePlansGoOn : Type 0
SamplePlansGoOn = GoesOn orders × GoesOn replies

-- end a publishes one, two and three, end b listens and misses two
abbrev pub news : ℕ → List (List ℕ) → List (List ℕ)
news s applied = if 1 == s then one ∷ two ∷ three ∷ [] else []

abbrev pub silence : ℕ → List (List ℕ) → List (List ℕ)
silence s applied = []

-- a connection on which the publisher sends, and hears of no flow
abbrev pub publishes : List ℕ → List Event → Connection
publishes payload heard = record { accepted = heard; written = announce handshake None ∷ message payload ∷ []; added = []; reported = []; drained = true }

-- a connection on which the listener applies one message under this number
abbrev pub listens : ℕ → List ℕ → Connection
listens n payload = record {
  accepted = announce handshake None ∷ message payload ∷ [];
  written = announce handshake None ∷ [];
  added = got n payload ∷ [];
  reported = [];
  drained = true;
}

abbrev pub first_publisher : Life
first_publisher = record {
  opening_outbox = [];
  closing_outbox = sent 1 1 one ∷ sent 1 2 two ∷ [];
  refused_outbox = [];
  served = record {
    opening_inbox = [];
    closing_inbox = [];
    refused_inbox = [];
    processed = 1;
    connections = publishes one (announce handshake None ∷ []) ∷ publishes two [] ∷ [];
  };
}

abbrev pub second_publisher : Life
second_publisher = record {
  opening_outbox = sent 1 1 one ∷ sent 1 2 two ∷ [];
  closing_outbox = sent 1 1 one ∷ sent 1 2 two ∷ sent 1 3 three ∷ [];
  refused_outbox = [];
  served = record {
    opening_inbox = [];
    closing_inbox = [];
    refused_inbox = [];
    processed = 1;
    connections = publishes three (announce handshake None ∷ []) ∷ [];
  };
}

abbrev pub listener : Life
listener = record {
  opening_outbox = [];
  closing_outbox = [];
  refused_outbox = [];
  served = record {
    opening_inbox = [];
    closing_inbox = got 1 one ∷ got 2 three ∷ [];
    refused_inbox = [];
    processed = 4;
    connections = listens 1 one ∷ listens 2 three ∷ [];
  };
}

abbrev pub publishing_end : OneEnd Flow Life
publishing_end = record {
  flow = unsequenced;
  plan = news;
  lives = first_publisher ∷ second_publisher ∷ [];
  outbox = second_publisher.closing_outbox;
  inbox = [];
}

abbrev pub listening_end : OneEnd Flow Life
listening_end = record { flow = no_flow; plan = silence; lives = listener ∷ []; outbox = []; inbox = listener.served.closing_inbox }

abbrev pub UnsequencedSample : Type 0
UnsequencedSample = Session publishing_end listening_end

-- growth over one connection in two parts, the second behind a number that stands announced
abbrev pub PartsSample : Type 0
PartsSample =
    Grown recoverable None (announce handshake (Some 4) ∷ announce in_flow (Some 2) ∷ message two ∷ []) (got 1 one ∷ []) (got 1 one ∷ got 2 two ∷ [])
    × Grown recoverable (Some 3) (message three ∷ announce in_flow (Some 4) ∷ []) (got 1 one ∷ got 2 two ∷ []) (got 1 one ∷ got 2 two ∷ got 3 three ∷ [])
    × Grown idempotent None (announce handshake (Some 3) ∷ message three ∷ []) (got 1 one ∷ []) (got 1 one ∷ skip missed ∷ got 3 three ∷ [])
    × Grown idempotent (Some 4) (message one ∷ []) (got 1 one ∷ skip missed ∷ got 3 three ∷ []) (got 1 one ∷ skip missed ∷ got 3 three ∷ got 4 one ∷ [])

-- three comes too early and is held; in the second part two comes, and both are applied
abbrev pub HeldSample : Type 0
HeldSample =
    Grown recoverable None (announce handshake (Some 3) ∷ message three ∷ []) (got 1 one ∷ []) (got 1 one ∷ [])
    × GrownLater recoverable None (announce handshake (Some 3) ∷ message three ∷ []) (announce in_flow (Some 2) ∷ message two ∷ announce in_flow (Some 4) ∷ [])
    (got 1 one ∷ []) (got 1 one ∷ got 2 two ∷ got 3 three ∷ [])

-- a history begins a longer one, and that one with its mark
abbrev pub HistoriesSample : Type 0
HistoriesSample =
    BeginsHistory (record { made = []; finished = false }) (record { made = record { sender = 1; own_number = 1; payload = one } ∷ []; finished = false })
    × BeginsHistory (record { made = record { sender = 1; own_number = 1; payload = one } ∷ []; finished = false })
    (record { made = record { sender = 1; own_number = 1; payload = one } ∷ []; finished = true })

-- a sender that had sent one of three payloads sends the two others
abbrev pub PlansSample : Type 0
PlansSample = IsPrefix (one ∷ []) (one ∷ two ∷ three ∷ []) × Completes (one ∷ two ∷ three ∷ []) (one ∷ []) (one ∷ two ∷ three ∷ [])

-- the first steps of a session: end a is given one and sends it, end b applies it, and a stops
abbrev pub first_steps : List Step
first_steps =
    of_a (keep (sent 1 1 one))
    ∷ of_a (connect 1)
    ∷ of_a (write (announce handshake (Some 1)))
    ∷ of_b (connect 1)
    ∷ of_b (process (announce handshake (Some 1) ∷ []) [])
    ∷ of_b (write (announce handshake (Some 1)))
    ∷ of_a (process (announce handshake (Some 1) ∷ []) [])
    ∷ of_a (write (message one))
    ∷ of_b (process (message one ∷ []) (got 1 one ∷ []))
    ∷ of_a (stop (sent 1 1 one ∷ []) [])
    ∷ []

abbrev pub HistorySample : Type 0
HistorySample =
    SessionHistory first_steps
    × ((after first_steps beginning).a.now ≡ opened_on (sent 1 1 one ∷ []) [])
    × ((after first_steps beginning).b.now.served.closing_inbox ≡ got 1 one ∷ [])
