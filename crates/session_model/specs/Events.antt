-- What a connection carries of one flow, and how its messages are numbered.
-- FIXP 1.1, implicit sequence numbering: Establish, EstablishmentAck, Sequence and Retransmission announce the next
-- number, each application message behind takes one, and the messages themselves carry none.
use Rattle.std.specs.Prelude.{◌≡◌, ℕ, ◌+◌, ◌<◌, ◌≤◌, List, [], ◌∷◌, ◌++◌, length, Option, Some, None, option_map, ⊤}
use Rattle.std.specs.List.{AllByRecursion}
use Rattle.session_model.specs.Journal.{Entry, IsEntry}
use Rattle.session_model.specs.Inbox.{Numbered}

-- who announces: the handshake (Establish, EstablishmentAck), or the flow behind it (Sequence, Retransmission)
pub data Announcer : Type 0 where
  handshake in_flow : Announcer

-- an announcement, with the next number or with none, or an application message
pub data Event : Type 0 where
  announce : Announcer → Option ℕ → Event
  message : List ℕ → Event

-- the message with the number that stands announced; without one it has none, and is left out
abbrev pub with_number : Option ℕ → List ℕ → List Numbered
with_number None payload = []
with_number (Some n) payload = record { number = n; payload = payload } ∷ []

-- what stands announced behind the events, where c stood before them. A connection begins with None
abbrev pub standing : Option ℕ → List Event → Option ℕ
standing c [] = c
standing c (announce _ n ∷ es) = standing n es
standing c (message _ ∷ es) = standing (option_map (λ n. n + 1) c) es

-- the implied numbering: each message with its number, in order
abbrev pub numbered : Option ℕ → List Event → List Numbered
numbered c [] = []
numbered c (announce _ n ∷ es) = numbered n es
numbered c (message payload ∷ es) = with_number c payload ++ numbered (option_map (λ n. n + 1) c) es

-- the numbers announced
abbrev pub announced : List Event → List ℕ
announced [] = []
announced (announce _ None ∷ es) = announced es
announced (announce _ (Some n) ∷ es) = n ∷ announced es
announced (message _ ∷ es) = announced es

-- the payloads of the messages, in order
abbrev pub messages : List Event → List (List ℕ)
messages [] = []
messages (announce _ _ ∷ es) = messages es
messages (message payload ∷ es) = payload ∷ messages es

-- true of the journal: each numbered message is the journal's entry of that number, and each announced number is one
-- that an entry has, or one past the last
pub record TrueOfJournal (h : List Entry) (c : Option ℕ) (es : List Event) : Type 0 where
  pub entries : AllByRecursion (λ (m : Numbered). IsEntry h m.number m.payload) (numbered c es)
  pub announced : AllByRecursion (λ n. (1 ≤ n) × (n ≤ length h + 1)) (announced es)

-- payloads that rise through the journal above n: each is that of an entry past the one before it, the first past n
abbrev pub Rising : List Entry → ℕ → List (List ℕ) → Type 0
Rising h n [] = ⊤
Rising h n (payload ∷ later) = (m : ℕ) × (n < m) × IsEntry h m payload × Rising h m later

-- an announcement of the handshake
abbrev pub IsHandshake : Event → Type 0
IsHandshake (announce handshake n) = ⊤
IsHandshake (announce in_flow n) = ⊥
IsHandshake (message payload) = ⊥

-- The handshake comes first and announces one number: before an announcement of the handshake stands nothing but the same
-- announcement
abbrev pub HandshakeFirst : List Event → Type 0
HandshakeFirst [] = ⊤
HandshakeFirst (e ∷ es) = AllByRecursion (λ (later : Event). IsHandshake later → later ≡ e) es × HandshakeFirst es

-- nothing stands before the handshake's announcement
abbrev pub BeginsWithHandshake : List Event → Type 0
BeginsWithHandshake [] = ⊤
BeginsWithHandshake (e ∷ es) = IsHandshake e
