-- The messages of a script, and what happens to them: events of the world of datagrams.
use Rattle.std.specs.Prelude.{ℕ, ◌-◌, ◌^◌, List, [], ◌∷◌, ◌++◌, map}
use Rattle.std.specs.Int.{w64, to_le_bytes}
use Rattle.session_model.specs.Journal.{Entry, counts_from}
use Rattle.fixp_datagram.specs.World.{World, Event, accepts, writes, delivers, begun}
use Rattle.cmd_datagram.specs.declared.script.Script.{Script}

-- the payload of message k: the encoding type of little-endian SBE; a message header with block length 8, template 1, schema 200 and
-- version 0; and a block that is k in 8 bytes (this project's profile)
abbrev pub payload_of : ℕ → List ℕ
payload_of k = (0xEB ∷ 0x50 ∷ 8 ∷ 0 ∷ 1 ∷ 0 ∷ 200 ∷ 0 ∷ 0 ∷ 0 ∷ []) ++ to_le_bytes w64 k

-- so many messages, all of one sender
abbrev pub entry_of : ℕ → Entry
entry_of k = record { sender = 1; own_number = k; payload = payload_of k }

abbrev pub entries : ℕ → List Entry
entries messages = map entry_of (counts_from 1 messages)

-- the greatest number that a message may have: the greatest that a receiver may be told, so that it does not depend on the script
abbrev pub most : ℕ
most = 2 ^ 64 - 2

-- nothing happened yet
abbrev pub begins : Script → World
begins s = begun s.flow most

-- all messages are accepted, then all are written in datagrams of `per`, then the listed ones are delivered
abbrev pub events_of : Script → List Event
events_of s = accepts (entries s.messages) ++ writes s.per s.messages ++ delivers s.deliver
