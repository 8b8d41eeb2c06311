-- The lines on OUT about a session: what was applied, what the peer did not apply, and how connections ended (this project's profile).
use Rattle.std.specs.Prelude.{ℕ, List, [], ◌∷◌, ◌++◌, codes, decimal}
use Rattle.hex.specs.Hex.{encode_lower}
use Rattle.fixp_shake.specs.declared.violation.Violation.{Violation}
use Rattle.fixp_shake.specs.declared.violation.Violation.TheVariants.{BadFrame, UnknownTemplate, NotInPhase, OtherSession, WentBack, MissingNext, NumberTooLarge, BadRetransmission, AfterFinish, FlowNone, Silent, HandshakeLate}
use Rattle.fixp_replies.specs.declared.act.Ending.{Ending}
use Rattle.fixp_replies.specs.declared.act.Ending.TheVariants.{Finished, PeerTerminated, LinkEnded, Rejected}
use Rattle.fixp_replies.specs.declared.act.Ending.TheVariants as endings
use Rattle.conn_lines.specs.declared.close.Close.{Close}
use Rattle.conn_lines.specs.declared.close.Close.TheVariants.{Ended, LinkFault}

-- a message that is applied: its number, and its payload in lower-case hexadecimal
abbrev pub deliver_line : ℕ → List ℕ → List ℕ
deliver_line number payload = codes "deliver " ++ decimal number ++ codes " " ++ encode_lower payload ++ 10 ∷ []

-- so many messages, from this number on, that the peer tells it did not apply
abbrev pub not_applied_line : ℕ → ℕ → List ℕ
not_applied_line from count = codes "notapplied " ++ decimal from ++ codes " " ++ decimal count ++ 10 ∷ []

-- the numbers of the rules that a peer may break
abbrev pub number_of : Violation → ℕ
number_of (BadFrame at) = 1
number_of (UnknownTemplate id) = 2
number_of (NotInPhase template phase) = 3
number_of (OtherSession template) = 4
number_of (WentBack announced expected) = 5
number_of (MissingNext template) = 6
number_of (NumberTooLarge announced) = 7
number_of (BadRetransmission expected found) = 8
number_of (AfterFinish last found) = 9
number_of (FlowNone template) = 10
number_of (Silent last now) = 11
number_of (HandshakeLate start now) = 12

-- how a connection ended, in words
abbrev pub ending_words : Ending → List ℕ
ending_words Finished = codes "finished"
ending_words (PeerTerminated code) = codes "terminated " ++ decimal code
ending_words LinkEnded = codes "link-ended"
ending_words (Rejected template code) = codes "rejected " ++ decimal template ++ codes " " ++ decimal code
ending_words (endings.Violation violation) = codes "violation " ++ decimal (number_of violation)

abbrev pub words_of : Close → List ℕ
words_of (Ended ending) = ending_words ending
words_of LinkFault = codes "link-fault"

-- the end of the connection of this number
abbrev pub connection_line : ℕ → Close → List ℕ
connection_line number close = codes "connection " ++ decimal number ++ codes " " ++ words_of close ++ 10 ∷ []
