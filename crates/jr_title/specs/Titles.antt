-- The title of a journal and its 64 bytes (this project's journal format, version 3). All numbers are little-endian.
use Rattle.std.specs.Prelude.{◌≡◌, ℕ, ◌≤◌, ◌<◌, ◌^◌, List, [], ◌∷◌, ◌++◌, length, replicate, ⊤}
use Rattle.std.specs.Int.{w16, w32, w64, to_le_bytes}
use Rattle.fixp_msgs.specs.Flow.{flow_code}
use Rattle.fixp_shake.specs.declared.config.Role.{Role}
use Rattle.fixp_shake.specs.declared.config.Role.TheVariants.{Initiator, Acceptor}
use Rattle.crc32c.specs.Sums.{crc_of}
use Rattle.jr_title.specs.declared.title.Which.{Which}
use Rattle.jr_title.specs.declared.title.Which.TheVariants.{Outbox, Inbox}
use Rattle.jr_title.specs.declared.title.Orders.{Orders}
use Rattle.jr_title.specs.declared.title.WhoSends.{WhoSends}
use Rattle.jr_title.specs.declared.title.WhoSends.TheVariants.{Senders, Desks, Book}
use Rattle.jr_title.specs.declared.title.Title.{Title}

-- ---- the titles that the format has: their numbers lie in their ranges

pub record IsOrders (orders : Orders) : Type 0 where
  pub version : (1 ≤ orders.version) × (orders.version ≤ 2)
  pub reference : (1 ≤ orders.reference) × (orders.reference ≤ 10 ^ 15)

abbrev pub IsWhoSends : WhoSends → Type 0
IsWhoSends Senders = ⊤
IsWhoSends (Desks desks orders) = (1 ≤ desks) × (desks ≤ 16) × IsOrders orders
IsWhoSends (Book orders) = IsOrders orders

pub record IsTitle (t : Title) : Type 0 where
  pub session : length t.binding.session ≡ 16
  pub who : IsWhoSends t.binding.who_sends
  pub pair : t.pair < 2 ^ 64

-- ---- the numbers of the fields

abbrev pub which_code : Which → ℕ
which_code Outbox = 1
which_code Inbox = 2

abbrev pub role_code : Role → ℕ
role_code Initiator = 1
role_code Acceptor = 2

abbrev pub who_code : WhoSends → ℕ
who_code Senders = 0
who_code (Desks _ _) = 1
who_code (Book _) = 2

-- how many desks, the version of their orders, the mantissa of the reference price
abbrev pub desks_of : WhoSends → ℕ
desks_of Senders = 0
desks_of (Desks desks _) = desks
desks_of (Book _) = 1

abbrev pub version_of : WhoSends → ℕ
version_of Senders = 0
version_of (Desks _ orders) = orders.version
version_of (Book orders) = orders.version

abbrev pub reference_of : WhoSends → ℕ
reference_of Senders = 0
reference_of (Desks _ orders) = orders.reference
reference_of (Book orders) = orders.reference

-- ---- the bytes

-- FIXPJRN3
abbrev pub magic : List ℕ
magic = 0x46 ∷ 0x49 ∷ 0x58 ∷ 0x50 ∷ 0x4A ∷ 0x52 ∷ 0x4E ∷ 0x33 ∷ []

-- one byte each, from 8 on
abbrev pub codes_of : Title → List ℕ
codes_of t =
    which_code t.binding.which ∷ role_code t.binding.role ∷ flow_code t.binding.client_flow ∷ flow_code t.binding.server_flow
    ∷ who_code t.binding.who_sends ∷ desks_of t.binding.who_sends ∷ []

-- The first 60 bytes: the magic from 0 on, six bytes from 8 on, the version of orders at 14, the session at 16, the reference at 32,
-- the pair at 40, and from 48 on zeros
unfoldable pub front_of : Title → List ℕ
front_of t =
    magic ++ codes_of t ++ to_le_bytes w16 (version_of t.binding.who_sends) ++ t.binding.session
    ++ to_le_bytes w64 (reference_of t.binding.who_sends) ++ to_le_bytes w64 t.pair ++ replicate 12 0

-- and all 64, of which the last four are the sum of those before them
abbrev pub image_of : Title → List ℕ
image_of t = front_of t ++ to_le_bytes w32 (crc_of (front_of t))
