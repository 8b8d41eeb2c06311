-- The premises of the law can be met: the two ends of a whole session know so much of each other at its beginning. And what some
-- messages under way bring a reader to.
use Rattle.std.specs.Prelude.{List, [], ◌∷◌, Some, None}
use Rattle.fixp_msgs.specs.declared.flow.Flow.TheVariants as flows
use Rattle.fixp_msgs.specs.declared.messages.Expected.TheVariants as expects
use Rattle.fixp_msgs.specs.Message.{establish, establishment_ack, sequence, unsequenced_heartbeat, retransmission}
use Rattle.connection_laws.specs.Samples.{id, one}
use Rattle.connection_laws.specs.Writing.{Piece, said, entry}
use Rattle.honest_ends.specs.Numbers.{exactly, at_most, softly, Runs}
use Rattle.honest_ends.specs.PhaseSamples.{outbox, beginning}
use Rattle.honest_ends.specs.Knowing.{StartsKnown}

abbrev pub KnownSample : Type 0
KnownSample = StartsKnown outbox [] beginning

-- the acknowledgement announces 3, and two entries go live behind it before it is read
abbrev pub acknowledged : List Piece
acknowledged = said (establishment_ack id 0 1000 (Some 3) expects.Absent) ∷ entry one ∷ entry one ∷ []

-- an entry is live before a retransmission of one message, which a Sequence ends
abbrev pub resent : List Piece
resent = entry one ∷ said (retransmission id 2 0 1) ∷ entry one ∷ said (sequence 6) ∷ []

-- A reader that awaits at most 1 awaits 5 behind the acknowledgement; one that awaits 5 awaits 6 behind the retransmission. Where the link
-- is cut in the midst of one, the next connection announces the next live number again. A heartbeat announces it, and no other number. On
-- an unsequenced flow a reader awaits at most one more than was sent. A soft reader of which 2 is expected and to which 5 was announced awaits
-- 3 where its writer begins with 2, and 6 behind an entry without an announcement
abbrev pub NumbersSample : Type 0
NumbersSample =
    Runs flows.Recoverable (at_most 1) None acknowledged 5 None
    × Runs flows.Recoverable (exactly 5) None resent 6 None
    × Runs flows.Recoverable (exactly 5) (Some 2) (entry one ∷ []) 5 (Some 1)
    × Runs flows.Recoverable (at_most 3) None (said (establish id 0 1000 (Some 5) expects.Absent []) ∷ []) 5 None
    × Runs flows.Idempotent (exactly 5) None (said (sequence 5) ∷ []) 5 None
    × (Runs flows.Idempotent (exactly 5) None (said (sequence 6) ∷ []) 6 None → ⊥)
    × Runs flows.Unsequenced (at_most 2) None (entry one ∷ said unsequenced_heartbeat ∷ []) 5 None
    × Runs flows.Recoverable (softly 2 5) None (said (sequence 2) ∷ entry one ∷ []) 3 None
    × Runs flows.Recoverable (softly 2 5) None (entry one ∷ []) 6 None
    × (Runs flows.Recoverable (softly 2 5) None [] 2 None → ⊥)
