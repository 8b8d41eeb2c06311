-- How many messages of a kind are under way, and what each waits for at the two ends (FIXP 1.1 has the messages).
use Rattle.std.specs.Prelude.{ℕ, ◌+◌, Bool, true, false, List, [], ◌∷◌}
use Rattle.fixp_msgs.specs.Message.{Message, negotiate, negotiation_response, negotiation_reject, establish, establishment_ack, establishment_reject, retransmit_request, retransmission, retransmit_reject, finished_sending, finished_receiving, terminate}
use Rattle.flow_retrans.specs.declared.request.Request.{Request}
use Rattle.flow_retrans.specs.declared.request.Request.TheVariants as requests
use Rattle.fixp_shake.specs.Phases.{is_shaken}
use Rattle.fixp_replies.specs.declared.facts.Facts.{Facts}
use Rattle.fixp_replies.specs.declared.facts.OwnFinish.{OwnFinish}
use Rattle.fixp_replies.specs.declared.facts.OwnFinish.TheVariants as own
use Rattle.fixp_replies.specs.declared.facts.PeerFinish.{PeerFinish}
use Rattle.fixp_replies.specs.declared.facts.PeerFinish.TheVariants as peer
use Rattle.fixp_replies.specs.Incoming.{Incoming, session}
use Rattle.connection_laws.specs.Writing.{Piece, said, entry}

-- a finish, and its answer
abbrev pub finish : Message → ℕ
finish (finished_sending id last) = 1
finish _ = 0

abbrev pub answer : Message → ℕ
answer (finished_receiving id) = 1
answer _ = 0

-- a request, and its answer, which begins a retransmission or rejects it
abbrev pub request : Message → ℕ
request (retransmit_request id timestamp first count) = 1
request _ = 0

abbrev pub restart : Message → ℕ
restart (retransmission id next timestamp count) = 1
restart (retransmit_reject id timestamp code reason) = 1
restart _ = 0

-- a message of the handshake
abbrev pub opening : Message → ℕ
opening (negotiate id timestamp flow credentials) = 1
opening (negotiation_response id timestamp flow credentials) = 1
opening (negotiation_reject id timestamp code reason) = 1
opening (establish id timestamp keepalive next expected credentials) = 1
opening (establishment_ack id timestamp keepalive next expected) = 1
opening (establishment_reject id timestamp code reason) = 1
opening _ = 0

-- and of the closing
abbrev pub shutting : Message → ℕ
shutting (terminate id code reason) = 1
shutting _ = 0

-- how many there are among some messages, in a frame, and among some pieces
abbrev pub among : (Message → ℕ) → List Message → ℕ
among kind [] = 0
among kind (m ∷ later) = kind m + among kind later

abbrev pub in_frame : (Message → ℕ) → Incoming → ℕ
in_frame kind (session m) = kind m
in_frame kind _ = 0

abbrev pub in_piece : (Message → ℕ) → Piece → ℕ
in_piece kind (said m) = kind m
in_piece kind (entry payload) = 0

abbrev pub under_way : (Message → ℕ) → List Piece → ℕ
under_way kind [] = 0
under_way kind (p ∷ later) = in_piece kind p + under_way kind later

-- the peer's finish was read and waits for a gap, or is answered
abbrev pub read_of : PeerFinish → ℕ
read_of peer.Open = 0
read_of (peer.Read last) = 1
read_of (peer.Exchanged last) = 0

abbrev pub answered_of : PeerFinish → ℕ
answered_of peer.Open = 0
answered_of (peer.Read last) = 0
answered_of (peer.Exchanged last) = 1

-- the own finish was told, or its answer has come
abbrev pub told_of : OwnFinish → ℕ
told_of own.Open = 0
told_of own.Told = 1
told_of own.Exchanged = 0

abbrev pub exchanged_of : OwnFinish → ℕ
exchanged_of own.Open = 0
exchanged_of own.Told = 0
exchanged_of own.Exchanged = 1

-- a request is open to which no answer has come
abbrev pub unanswered_of : Request → ℕ
unanswered_of requests.Nothing = 0
unanswered_of (requests.Asked range) = 1
unanswered_of (requests.Coming range next left) = 0

-- the handshake is not done
abbrev pub unshaken_of : Bool → ℕ
unshaken_of true = 0
unshaken_of false = 1

-- the same of an end
abbrev pub read : Facts → ℕ
read f = read_of f.connection.peer_finish

abbrev pub answered : Facts → ℕ
answered f = answered_of f.connection.peer_finish

abbrev pub told : Facts → ℕ
told f = told_of f.connection.own_finish

abbrev pub exchanged : Facts → ℕ
exchanged f = exchanged_of f.connection.own_finish

abbrev pub unanswered : Facts → ℕ
unanswered f = unanswered_of f.connection.requester

abbrev pub unshaken : Facts → ℕ
unshaken f = unshaken_of (is_shaken f.connection.phase)
