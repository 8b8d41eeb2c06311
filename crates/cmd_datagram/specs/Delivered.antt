-- What serves the reading of this crate's functions alone: datagrams that were packed, the line of each answer, and lines that are given in
-- pieces.
use Rattle.std.specs.Prelude.{◌≡◌, ℕ, ◌-◌, ◌≤◌, List, [], ◌∷◌, ◌++◌, map, length, codes, Option, Some}
use Rattle.std.specs.List.{flat_map}
use Rattle.std.specs.Io.KnownBytes.{Appends}
use Rattle.session_model.specs.Journal.{counts_from}
use Rattle.fixp_datagram.specs.declared.receiver.DgSeen.{DgSeen}
use Rattle.fixp_datagram.specs.declared.receiver.DgSeen.TheVariants as messages
use Rattle.fixp_datagram.specs.Datagrams.{Contents, most_bytes, SpellsDatagram}
use Rattle.fixp_datagram.specs.Packing.{cut_at}
use Rattle.fixp_datagram.specs.Receiving.{Receiver, fresh}
use Rattle.fixp_datagram.specs.Delivering.{deliveries, received_all}
use Rattle.gw_outside.specs.Faults.{TakesFront}
use Rattle.cmd_datagram.specs.declared.script.Script.{Script}
use Rattle.cmd_datagram.specs.Messages.{payload_of, most}
use Rattle.cmd_datagram.specs.Lines.{number_line, delivery_lines}

-- the bytes are a datagram with these contents
pub record IsPacked (bytes : List ℕ) (d : Contents) : Type 0 where
  pub short : length bytes ≤ most_bytes
  pub spells : SpellsDatagram bytes d

-- each of some datagrams, in order
abbrev pub ArePacked : List (List ℕ) → List Contents → Type 0
ArePacked [] [] = Unit {0}
ArePacked [] (d ∷ ds) = ⊥
ArePacked (bytes ∷ others) [] = ⊥
ArePacked (bytes ∷ others) (d ∷ ds) = IsPacked bytes d × ArePacked others ds

-- the payloads of so many messages
abbrev pub payloads_of : ℕ → List (List ℕ)
payloads_of messages = map payload_of (counts_from 1 messages)

-- the line of a message, by what became of it
abbrev pub seen_lines : DgSeen → List ℕ
seen_lines (messages.Deliver n) = number_line (codes "deliver ") n
seen_lines (messages.Late n) = number_line (codes "late ") n
seen_lines (messages.Gap n) = []
seen_lines (messages.TooLarge n) = []

-- the datagrams that are delivered
abbrev pub delivered : Script → List Contents
delivered s = map (cut_at s.per (payloads_of s.messages)) s.deliver

-- what their deliveries make of a receiver, and at the end the number that it waits for
abbrev pub received_lines : Receiver → List Contents → List ℕ
received_lines r ds = flat_map delivery_lines (deliveries r ds) ++ number_line (codes "next ") (received_all r ds).next

-- the lines of a script, by the receiver alone
abbrev pub delivered_lines : Script → List ℕ
delivered_lines s = received_lines (fresh s.flow 1 most) (delivered s)

-- this text was written: some of it was pushed to an output that told this before, and the rest is held
pub record Wrote (before : Option (List ℕ)) (text : List ℕ) (now : Option (List ℕ)) (held : List ℕ) : Type 0 where
  pub pushed : List ℕ
  pub joins : text ≡ pushed ++ held
  pub gained : Appends before now pushed

-- whatever was written before, this text more was written, or a front of both was pushed
abbrev pub WritesMore : (old new : Option (List ℕ)) → (held now_held more : List ℕ) → Type 0
WritesMore old new held now_held more = (before : Option (List ℕ)) (text : List ℕ) → Wrote before text old held → Wrote before (text ++ more) new now_held

abbrev pub WritesFront : (old new : Option (List ℕ)) → (held more : List ℕ) → Type 0
WritesFront old new held more = (before : Option (List ℕ)) (text : List ℕ) → Wrote before text old held → TakesFront before new (text ++ more)
