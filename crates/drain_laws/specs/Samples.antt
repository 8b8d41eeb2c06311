-- The measure, tried on two connections: an initiator over a whole one, and a reader that has lost three messages.
use Rattle.std.specs.Prelude.{◌≡◌, true, [], ◌∷◌, Some, None}
use Rattle.fixp_msgs.specs.declared.flow.Flow.TheVariants as flows
use Rattle.fixp_msgs.specs.declared.messages.Expected.TheVariants as expects
use Rattle.fixp_msgs.specs.Message.{establishment_ack, sequence, retransmit_request, retransmission, finished_sending, finished_receiving, terminate}
use Rattle.fixp_shake.specs.declared.config.Role.TheVariants as roles
use Rattle.fixp_shake.specs.declared.phase.Phase.TheVariants as phases
use Rattle.fixp_replies.specs.Facts.{connecting}
use Rattle.fixp_replies.specs.Incoming.{Incoming, application, session}
use Rattle.fixp_machine.specs.Machine.{State, Call, begin, frame, did, live, again, turn_done, closed, fresh, step, run}
use Rattle.connection_laws.specs.Writing.{writes}
use Rattle.connection_laws.specs.Samples.{id, sample_config, recorded, one, two, three, reply}
use Rattle.drain_laws.specs.Loads.{load_at}
use Rattle.drain_laws.specs.Calls.{weights_out}

-- a frame is read, and its act is done
abbrev pub reads : State → Incoming → State
reads s i = run s (frame i 0 2 ∷ did 2 ∷ [])

-- The initiator establishes, and its outbox comes to have three entries, of which two were sent before. The acknowledgement skips two
-- numbers, the third entry goes live, a message of the peer's comes, and the peer asks for the second entry again
abbrev pub opened : State
opened = step (fresh sample_config recorded 100) (begin 0)

abbrev pub acknowledged : State
acknowledged = reads opened (session (establishment_ack id 0 1000 (Some 4) expects.Absent))

abbrev pub sent : State
sent = step acknowledged (live (three ∷ []) 2)

abbrev pub heard : State
heard = reads sent (application reply)

abbrev pub requested : State
requested = step heard (frame (session (retransmit_request id 0 2 1)) 0 2)

abbrev pub resent : State
resent = step requested (again (two ∷ []) 2)

abbrev pub applied : State
applied = step resent (turn_done 2)

-- Then both finishes are told and answered, and it closes the connection
abbrev pub finished : State
finished = step applied (closed 3 2)

abbrev pub exchanged : State
exchanged = reads (step finished (frame (session (finished_receiving id)) 0 2)) (session (finished_sending id (Some 4)))

abbrev pub closing : State
closing = step exchanged (turn_done 2)

abbrev pub over : State
over = step closing (frame (session (terminate id 1 [])) 0 2)

-- its load, call by call, down to none
abbrev pub LoadSample : Type 0
LoadSample =
    (load_at 3 4 opened ≡ 52) × (load_at 3 4 acknowledged ≡ 36) × (load_at 3 4 sent ≡ 28) × (load_at 3 4 heard ≡ 32)
    × (load_at 3 4 requested ≡ 41) × (load_at 3 4 resent ≡ 32) × (load_at 3 4 applied ≡ 28)
    × (load_at 3 4 finished ≡ 12) × (load_at 3 4 exchanged ≡ 12) × (load_at 3 4 closing ≡ 4) × (load_at 3 4 over ≡ 0)

-- A reader of a recoverable flow that has nothing of its own to send, and awaits the first of three messages
abbrev pub reader : State
reader = record (fresh (record sample_config { role = roles.Acceptor; own_flow = flows.None; peer_flow = flows.Recoverable })
    (record { negotiated = true; inbox_next = 1; peer_last = None; sent = 0; finish = None }) 100)
    { begun = true; facts = connecting (record { negotiated = true; inbox_next = 1; peer_last = None; sent = 0; finish = None }) phases.Established }

-- the peer announces 4, so that it asks for the three, and then tells its finish, which waits for them
abbrev pub gap : Call
gap = frame (session (sequence 4)) 0 2

abbrev pub asking : State
asking = step reader gap

abbrev pub waiting : State
waiting = step asking (frame (session (finished_sending id (Some 3))) 0 2)

-- they come again, and the Sequence behind them
abbrev pub restarted : State
restarted = step waiting (frame (session (retransmission id 1 0 3)) 0 2)

abbrev pub filled : State
filled = reads (reads (reads restarted (application one)) (application two)) (application three)

abbrev pub answers : State
answers = step filled (frame (session (sequence 4)) 0 2)

-- its load, and what it writes
abbrev pub GapSample : Type 0
GapSample =
    (load_at 0 3 reader ≡ 83) × (weights_out reader.config (writes reader gap) ≡ 35) × (load_at 0 3 asking ≡ 23)
    × (load_at 0 3 waiting ≡ 31) × (load_at 0 3 restarted ≡ 31) × (load_at 0 3 filled ≡ 31)
    × (weights_out reader.config (writes answers (did 2)) ≡ 4) × (load_at 0 3 (step answers (did 2)) ≡ 20)
