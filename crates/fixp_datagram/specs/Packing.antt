-- The bytes of a datagram as it is packed, and payloads that are cut into datagrams.
use Rattle.std.specs.Prelude.{ℕ, ◌+◌, ◌-◌, ◌*◌, ◌/◌, List, ◌++◌, map, length, take, drop, unwrap_or}
use Rattle.std.specs.Int.{w16, from_be_bytes}
use Rattle.sbe_prim.specs.declared.Order.TheVariants.{Little}
use Rattle.sofh_frame.specs.Framing.{Frame, order_of}
use Rattle.sofh_frame.specs.Splits.{spelled_all}
use Rattle.session_model.specs.Journal.{counts_from}
use Rattle.fixp_msgs.specs.Canonical.{frame_bytes}
use Rattle.fixp_msgs.specs.Message.{sequence}
use Rattle.fixp_datagram.specs.Datagrams.{Contents}

-- the frame of an application message's payload: two bytes name the order, and the message stands behind them (Simple Open
-- Framing Header, "Encoding Type")
abbrev pub frame_of : List ℕ → Frame
frame_of payload = record { order = unwrap_or (order_of (from_be_bytes w16 (take 2 payload))) Little; message = drop 2 payload }

-- a Sequence with this number as it is written, and behind it the frames of these payloads
abbrev pub packed : ℕ → List (List ℕ) → List ℕ
packed first payloads = frame_bytes (sequence first) ++ spelled_all (map frame_of payloads)

-- how many datagrams with `per` payloads each some payloads make, the last with what is left
abbrev pub cut_count : (per count : ℕ) → ℕ
cut_count per count = (count + (per - 1)) / per

-- the payloads are numbered from 1 on, and cut into datagrams with `per` of them each: the k-th of these, from 1
abbrev pub cut_at : ℕ → List (List ℕ) → ℕ → Contents
cut_at per payloads k = record { first = 1 + (k - 1) * per; payloads = take per (drop ((k - 1) * per) payloads) }

-- all of them, in order
abbrev pub cut : ℕ → List (List ℕ) → List Contents
cut per payloads = map (cut_at per payloads) (counts_from 1 (cut_count per (length payloads)))
