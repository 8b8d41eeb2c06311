-- The configuration of a session as a TOML table: its keys in the order in which they are visited (this project's profile).
use Rattle.std.specs.Prelude.{ℕ, ◌^◌, ◌==◌, ◌≤◌, Bool, true, false, IsTrue, not, ◌&&◌, ◌||◌, nat_le, if◌then◌else◌, is_some, List, [], ◌∷◌, length, Result, Ok, Err, codes}
use Rattle.sbe_value.specs.declared.path.Step.TheVariants.{Key}
use Rattle.uuid.specs.Text.{parsed}
use Rattle.hex.specs.Hex.{decode_of}
use Rattle.toml.specs.Data.{Data, boolean, get}
use Rattle.fixp_msgs.specs.declared.flow.Flow.{Flow}
use Rattle.fixp_msgs.specs.declared.flow.Flow.TheVariants as flows
use Rattle.toml_walk.specs.declared.fault.TomlFault.TheVariants.{WrongKind, Range}
use Rattle.toml_walk.specs.Reading.{Read, ◌>>=◌}
use Rattle.toml_walk.specs.Documents.{document_of}
use Rattle.toml_walk.specs.Keys.{required, get_or_default, deny_unknown_keys}
use Rattle.toml_walk.specs.Values.{text_of, natural_of, word_in, listed}
use Rattle.schema_toml.specs.declared.fault.ConfigFault.{ConfigFault}
use Rattle.schema_toml.specs.Faults.{limited, of_text}
use Rattle.fixp_shake.specs.declared.config.Role.{Role}
use Rattle.fixp_shake.specs.declared.config.Role.TheVariants.{Initiator, Acceptor}
use Rattle.cmd_config.specs.declared.purpose.Purpose.{Purpose}
use Rattle.cmd_config.specs.declared.purpose.Purpose.TheVariants.{Recorded, Live}
use Rattle.cmd_config.specs.declared.configuration.Link.{Link}
use Rattle.cmd_config.specs.declared.configuration.Trade.{Trade}
use Rattle.cmd_config.specs.declared.configuration.Configuration.{Configuration}
use Rattle.cmd_config.specs.declared.settings.Settings.{Settings}

-- ---- what stands at a key

-- a UUID in one of its text forms
abbrev pub session_of : Data → Read (List ℕ)
session_of d = text_of d >>= λ text. listed (parsed text)

abbrev pub flow_of : Data → Read Flow
flow_of d =
    text_of d >>= λ text.
    listed (word_in ((codes "recoverable", flows.Recoverable) ∷ (codes "idempotent", flows.Idempotent) ∷ (codes "unsequenced", flows.Unsequenced)
    ∷ (codes "none", flows.None) ∷ []) text)

-- at most 2,048 bytes, each as two hexadecimal digits
abbrev pub short_bytes : {E : Type 0} → Result (List ℕ) E → Read (List ℕ)
short_bytes (Ok bytes) = if nat_le (length bytes) 2048 then Ok bytes else Err (Range [])
short_bytes (Err error) = Err (Range [])

abbrev pub credentials_of : Data → Read (List ℕ)
credentials_of d = text_of d >>= λ text. short_bytes (decode_of text)

-- true or false
abbrev pub switch_of : Data → Read Bool
switch_of (boolean b) = Ok b
switch_of _ = Err (WrongKind [])

-- ---- what a configuration is for, and what that asks of several keys

-- a condition that the value at a key breaks is out of range there
abbrev pub ensure_in_range : List ℕ → Bool → Read (Unit {0})
ensure_in_range key true = Ok tt
ensure_in_range key false = Err (Range (Key key ∷ []))

abbrev pub is_unsequenced : Flow → Bool
is_unsequenced flows.Unsequenced = true
is_unsequenced flows.Recoverable = false
is_unsequenced flows.Idempotent = false
is_unsequenced flows.None = false

abbrev pub is_none : Flow → Bool
is_none flows.None = true
is_none flows.Recoverable = false
is_none flows.Idempotent = false
is_none flows.Unsequenced = false

-- `answer` is an acceptor over recorded bytes
abbrev pub role_of : Purpose → Role
role_of Recorded = Acceptor
role_of (Live role) = role

-- `answer` reads an unsequenced flow, and sends none
abbrev pub allows_client : Purpose → Flow → Bool
allows_client Recorded client = is_unsequenced client
allows_client (Live role) client = true

abbrev pub allows_server : Purpose → Flow → Bool
allows_server Recorded server = is_none server
allows_server (Live role) server = true

-- the flow that a role sends: the initiator is the client, and the acceptor the server
abbrev pub own_flow : Role → Flow → Flow → Flow
own_flow Initiator client server = client
own_flow Acceptor client server = server

-- there are no senders exactly where the own flow is none
abbrev pub allows_senders : Flow → ℕ → Bool
allows_senders own senders = if is_none own then senders == 0 else not (senders == 0)

-- `accept` is an acceptor on live connections
abbrev pub is_accept : Purpose → Bool
is_accept (Live Acceptor) = true
is_accept (Live Initiator) = false
is_accept Recorded = false

-- the flow that a role receives
abbrev pub peer_flow : Role → Flow → Flow → Flow
peer_flow Initiator client server = server
peer_flow Acceptor client server = client

-- desks are for `accept` alone, where it sends and the key `senders` is absent
abbrev pub allows_desks : Purpose → Flow → Bool → ℕ → Bool
allows_desks purpose server has_senders_key desks = desks == 0 || (is_accept purpose && (not has_senders_key && not (is_none server)))

-- a book is that of one desk
abbrev pub allows_book : ℕ → Bool → Bool
allows_book desks book = not book || desks == 1

-- ---- the keys

-- {session, keepalive, client_flow, server_flow, credentials?, ..}; the version is that of a text without its key, which comes last
abbrev pub link_of : Purpose → Data → Read Link
link_of purpose keys =
    required (codes "session") session_of keys >>= λ session.
    required (codes "keepalive") (natural_of 100 60000) keys >>= λ keepalive.
    required (codes "client_flow") flow_of keys >>= λ client.
    ensure_in_range (codes "client_flow") (allows_client purpose client) >>= λ _.
    required (codes "server_flow") flow_of keys >>= λ server.
    ensure_in_range (codes "server_flow") (allows_server purpose server) >>= λ _.
    get_or_default (codes "credentials") [] credentials_of keys >>= λ credentials.
    Ok (record { session = session; keepalive = keepalive; client_flow = client; server_flow = server; credentials = credentials; version = 1 })

-- {.., senders?, desks?, order_version?, reference?, ..}; without a book, whose key comes last
abbrev pub trade_of : Purpose → Flow → Flow → Data → Read Trade
trade_of purpose client server keys =
    get_or_default (codes "senders") 1 (natural_of 0 16) keys >>= λ senders.
    ensure_in_range (codes "senders") (allows_senders (own_flow (role_of purpose) client server) senders) >>= λ _.
    get_or_default (codes "desks") 0 (natural_of 0 16) keys >>= λ desks.
    ensure_in_range (codes "desks") (allows_desks purpose server (is_some (get (codes "senders") keys)) desks) >>= λ _.
    get_or_default (codes "order_version") 1 (natural_of 1 2) keys >>= λ order_version.
    get_or_default (codes "reference") 1000000 (natural_of 1 (10 ^ 15)) keys >>= λ reference.
    Ok (record { senders = senders; desks = desks; order_version = order_version; reference = reference; book = false })

-- {.., session_version?, ..}
abbrev pub version_of : Data → Read ℕ
version_of keys = get_or_default (codes "session_version") 1 (natural_of 0 1) keys

-- {.., book?} of `accept`; nothing else keeps a book
abbrev pub book_of : Purpose → ℕ → Data → Read Bool
book_of purpose desks keys =
    if is_accept purpose
    then (get_or_default (codes "book") false switch_of keys >>= λ book. ensure_in_range (codes "book") (allows_book desks book) >>= λ _. Ok book)
    else Ok false

-- the keys of a configuration, with that of a book or without it
abbrev pub keys_with : (book : Bool) → List (List ℕ)
keys_with book = codes "session" ∷ codes "keepalive" ∷ codes "client_flow" ∷ codes "server_flow" ∷ codes "credentials" ∷ codes "senders" ∷ codes "desks"
    ∷ codes "order_version" ∷ codes "reference" ∷ codes "session_version" ∷ (if book then codes "book" ∷ [] else [])

-- that of a book is known to `accept` alone
abbrev pub known_keys : Purpose → List (List ℕ)
known_keys purpose = keys_with (is_accept purpose)

-- all values
abbrev pub configuration_of : Purpose → Data → Read Configuration
configuration_of purpose keys =
    link_of purpose keys >>= λ link.
    trade_of purpose link.client_flow link.server_flow keys >>= λ trade.
    version_of keys >>= λ version.
    book_of purpose trade.desks keys >>= λ book.
    deny_unknown_keys (known_keys purpose) keys >>= λ _.
    Ok (record { link = record link { version = version }; trade = record trade { book = book } })

abbrev pub configuration_of_document : Purpose → List ℕ → Read Configuration
configuration_of_document purpose text = document_of text >>= configuration_of purpose

-- what a text configures for a purpose, or why it does not
abbrev pub configuration_of_text : Purpose → List ℕ → Result Configuration ConfigFault
configuration_of_text purpose = limited (λ text. of_text (configuration_of_document purpose text))

-- ---- what `answer` takes of it

abbrev pub settings_by : Configuration → Settings
settings_by c = record { session = c.link.session; keepalive = c.link.keepalive; credentials = c.link.credentials; version = c.link.version }

abbrev pub settings_of_document : List ℕ → Read Settings
settings_of_document text = configuration_of_document Recorded text >>= λ c. Ok (settings_by c)

-- what a text configures for `answer`, or why it does not
abbrev pub settings_of_text : List ℕ → Result Settings ConfigFault
settings_of_text = limited (λ text. of_text (settings_of_document text))

-- the keys of the session: the interval, how long the credentials are, and the version
pub record IsLinkInRange (l : Link) : Type 0 where
  pub least : 100 ≤ l.keepalive
  pub most : l.keepalive ≤ 60000
  pub credentials : length l.credentials ≤ 2048
  pub version : l.version ≤ 1

-- the keys of senders, desks and orders, and of a book, which is that of one desk
pub record IsTradeInRange (t : Trade) : Type 0 where
  pub senders : t.senders ≤ 16
  pub desks : t.desks ≤ 16
  pub order_version : (1 ≤ t.order_version) × (t.order_version ≤ 2)
  pub reference : (1 ≤ t.reference) × (t.reference ≤ 10 ^ 15)
  pub book : IsTrue (allows_book t.desks t.book)

-- all keys of a configuration
pub record IsConfigurationInRange (c : Configuration) : Type 0 where
  pub link : IsLinkInRange c.link
  pub trade : IsTradeInRange c.trade

-- settings that a configuration may give: the interval, how long the credentials are, and the version
pub record IsInRange (s : Settings) : Type 0 where
  pub least : 100 ≤ s.keepalive
  pub most : s.keepalive ≤ 60000
  pub credentials : length s.credentials ≤ 2048
  pub version : s.version ≤ 1
