-- The steps of two ends that the calls of a turn are: each frame that it takes is a message which its end reads, and every other call is one of that end.
use Rattle.std.specs.Prelude.{ℕ, List, [], ◌∷◌, ◌++◌, map, replicate}
use Rattle.std.specs.List.{flat_map}
use Rattle.fixp_machine.specs.Machine.{Call, link_end, held_done}
use Rattle.conn_turns.specs.Lines.{TakenFrame}
use Rattle.conn_turns.specs.Turns.{Turn, only_sends, works, link_lost, cut_short, not_begun, first_calls, closing_calls, outbox_calls, sending_calls}
use Rattle.honest_ends.specs.Worlds.{Step, meets, initiator_reads, acceptor_reads, initiator_does, acceptor_does}

-- calls of the initiator
abbrev pub does_all : List Call → List Step
does_all calls = map initiator_does calls

-- it reads the message of a frame, whose act is done with it, and then the held messages that are ready are applied
abbrev pub frame_steps : (now : ℕ) → TakenFrame → List Step
frame_steps now t = initiator_reads t.at now ∷ does_all (replicate t.helds held_done)

abbrev pub frames_steps : (now : ℕ) → List TakenFrame → List Step
frames_steps now frames = flat_map (frame_steps now) frames

-- a whole turn of the initiator
abbrev pub initiator_steps : Turn → List Step
initiator_steps (only_sends now sent lost) = does_all (first_calls now ++ sending_calls sent lost)
initiator_steps (works w) = does_all (first_calls w.now) ++ (frames_steps w.now w.frames ++ does_all (closing_calls w ++ (outbox_calls w ++ sending_calls w.sent w.lost)))
initiator_steps (link_lost now) = does_all (first_calls now ++ link_end ∷ [])
initiator_steps (cut_short now received frames refused) = []
initiator_steps not_begun = []

-- the frames that a whole turn takes
abbrev pub taken_in : Turn → List TakenFrame
taken_in (only_sends now sent lost) = []
taken_in (works w) = w.frames
taken_in (link_lost now) = []
taken_in (cut_short now received frames refused) = []
taken_in not_begun = []

-- a step of the other end
abbrev pub turned_step : Step → Step
turned_step (meets now_i now_a) = meets now_a now_i
turned_step (initiator_reads at now) = acceptor_reads at now
turned_step (acceptor_reads at now) = initiator_reads at now
turned_step (initiator_does call) = acceptor_does call
turned_step (acceptor_does call) = initiator_does call

-- a whole turn of the acceptor
abbrev pub acceptor_steps : Turn → List Step
acceptor_steps t = map turned_step (initiator_steps t)
