-- What was checked on the way holds of the configuration that is read.
use Rattle.std.proofs.Common.{◌≡◌, ℕ, ◌^◌, Bool, true, false, ◌==◌, ◌&&◌, ◌||◌, not, is_some, if◌then◌else◌, IfOk, List, [], Result, Ok, Err, codes, refl, sym, subst}
use Rattle.toml.specs.Data.{Data, get}
use Rattle.fixp_msgs.specs.declared.flow.Flow.{Flow}
use Rattle.toml_walk.specs.declared.fault.TomlFault.{TomlFault}
use Rattle.toml_walk.specs.Reading.{Read, Reads, ◌>>=◌}
use Rattle.cmd_config.specs.declared.purpose.Purpose.{Purpose}
use Rattle.cmd_config.specs.declared.configuration.Link.{Link}
use Rattle.cmd_config.specs.declared.configuration.Trade.{Trade}
use Rattle.cmd_config.specs.declared.configuration.Configuration.{Configuration}
use Rattle.std.proofs.lemmas.Bool.{false≢true}
use Rattle.toml_walk.specs.Keys.{required, get_or_default, deny_unknown_keys}
use Rattle.toml_walk.specs.Values.{natural_of}
use Rattle.cmd_config.specs.Settings.{session_of, flow_of, credentials_of, known_keys, ensure_in_range, allows_client, allows_server, allows_senders, allows_desks, allows_book, role_of, own_flow, is_none, is_accept, link_of, trade_of, version_of, book_of, switch_of, configuration_of}
use Rattle.cmd_config.specs.Laws.{KeepsRole, ConfigurationsKeepTheRole}

-- a check that passed, and what stands behind it
met : {B : Type 0} (key : List ℕ) (holds : Bool) (next : Read B) (b : B) → (ensure_in_range key holds >>= λ _. next) ≡ Ok b → (holds ≡ true) × (next ≡ Ok b)
met key true next b e = (refl, e)
met key false next b e = absurd cc

-- ---- the session

abbrev link_end : List ℕ → ℕ → Flow → Flow → Read (List ℕ) → Read Link
link_end session keepalive client server credentials =
    credentials >>= λ bytes. Ok (record { session = session; keepalive = keepalive; client_flow = client; server_flow = server; credentials = bytes; version = 1 })

abbrev link_from_server : Purpose → List ℕ → ℕ → Flow → Read Flow → Read (List ℕ) → Read Link
link_from_server purpose session keepalive client server credentials =
    server >>= λ flow. ensure_in_range (codes "server_flow") (allows_server purpose flow) >>= λ _. link_end session keepalive client flow credentials

abbrev LinkKept : Purpose → Link → Type 0
LinkKept purpose link = (allows_client purpose link.client_flow ≡ true) × (allows_server purpose link.server_flow ≡ true)

end_kept : (purpose : Purpose) (session : List ℕ) (keepalive : ℕ) (client server : Flow) (credentials : Read (List ℕ)) (link : Link) → allows_client purpose client ≡ true → allows_server purpose server ≡ true → link_end session keepalive client server credentials ≡ Ok link → LinkKept purpose link
end_kept purpose session keepalive client server (Ok bytes) link c s e =
    let built : Link = record { session = session; keepalive = keepalive; client_flow = client; server_flow = server; credentials = bytes; version = 1 } in
    let same : built ≡ link = cc in
    subst (LinkKept purpose) same (c, s)
end_kept purpose session keepalive client server (Err fault) link c s e = absurd cc

server_kept : (purpose : Purpose) (session : List ℕ) (keepalive : ℕ) (client : Flow) (server : Read Flow) (credentials : Read (List ℕ)) (link : Link) → allows_client purpose client ≡ true → link_from_server purpose session keepalive client server credentials ≡ Ok link → LinkKept purpose link
server_kept purpose session keepalive client (Ok flow) credentials link c e =
    let two = met (codes "server_flow") (allows_server purpose flow) (link_end session keepalive client flow credentials) link e in
    end_kept purpose session keepalive client flow credentials link c two.0 two.1
server_kept purpose session keepalive client (Err fault) credentials link c e = absurd cc

link_by : (purpose : Purpose) (session : Read (List ℕ)) (keepalive : Read ℕ) (client server : Read Flow) (credentials : Read (List ℕ)) (link : Link)
    → (session >>= λ id. keepalive >>= λ interval. client >>= λ flow. ensure_in_range (codes "client_flow") (allows_client purpose flow) >>= λ _. link_from_server purpose id interval flow server credentials) ≡ Ok link → LinkKept purpose link
link_by purpose (Err fault) keepalive client server credentials link e = absurd cc
link_by purpose (Ok id) (Err fault) client server credentials link e = absurd cc
link_by purpose (Ok id) (Ok interval) (Err fault) server credentials link e = absurd cc
link_by purpose (Ok id) (Ok interval) (Ok flow) server credentials link e =
    let one = met (codes "client_flow") (allows_client purpose flow) (link_from_server purpose id interval flow server credentials) link e in
    server_kept purpose id interval flow server credentials link one.0 one.1

link_kept : (purpose : Purpose) (keys : Data) (link : Link) → link_of purpose keys ≡ Ok link → LinkKept purpose link
link_kept purpose keys link e =
    link_by purpose (required (codes "session") session_of keys) (required (codes "keepalive") (natural_of 100 60000) keys) (required (codes "client_flow") flow_of keys) (required (codes "server_flow") flow_of keys) (get_or_default (codes "credentials") [] credentials_of keys) link e

-- ---- senders and desks

weaker : (a b c d : Bool) → (a || (b && (c && d))) ≡ true → (a || (b && (true && d))) ≡ true
weaker true b c d e = refl
weaker false true true d e = e
weaker false true false d e = absurd (false≢true e)
weaker false false c d e = e

abbrev TradeKept : Purpose → Flow → Flow → Trade → Type 0
TradeKept purpose client server trade = (allows_senders (own_flow (role_of purpose) client server) trade.senders ≡ true) × (allows_desks purpose server false trade.desks ≡ true)

abbrev trade_end : ℕ → ℕ → Read ℕ → Read ℕ → Read Trade
trade_end senders desks version reference =
    version >>= λ order_version. reference >>= λ price. Ok (record { senders = senders; desks = desks; order_version = order_version; reference = price; book = false })

trade_end_kept : (purpose : Purpose) (client server : Flow) (senders desks : ℕ) (version reference : Read ℕ) (trade : Trade) → allows_senders (own_flow (role_of purpose) client server) senders ≡ true → allows_desks purpose server false desks ≡ true → trade_end senders desks version reference ≡ Ok trade → TradeKept purpose client server trade
trade_end_kept purpose client server senders desks (Err fault) reference trade s d e = absurd cc
trade_end_kept purpose client server senders desks (Ok number) (Err fault) trade s d e = absurd cc
trade_end_kept purpose client server senders desks (Ok number) (Ok price) trade s d e =
    let built : Trade = record { senders = senders; desks = desks; order_version = number; reference = price; book = false } in
    let same : built ≡ trade = cc in
    subst (TradeKept purpose client server) same (s, d)

trade_by : (purpose : Purpose) (client server : Flow) (has_senders_key : Bool) (senders desks version reference : Read ℕ) (trade : Trade)
    → (senders >>= λ count. ensure_in_range (codes "senders") (allows_senders (own_flow (role_of purpose) client server) count) >>= λ _. desks >>= λ more. ensure_in_range (codes "desks") (allows_desks purpose server has_senders_key more) >>= λ _. trade_end count more version reference) ≡ Ok trade → TradeKept purpose client server trade
trade_by purpose client server has_senders_key (Err fault) desks version reference trade e = absurd cc
trade_by purpose client server has_senders_key (Ok count) (Err fault) version reference trade e =
    let one = met (codes "senders") (allows_senders (own_flow (role_of purpose) client server) count) (Err fault) trade e in
    absurd cc
trade_by purpose client server has_senders_key (Ok count) (Ok more) version reference trade e =
    let one = met (codes "senders") (allows_senders (own_flow (role_of purpose) client server) count) (ensure_in_range (codes "desks") (allows_desks purpose server has_senders_key more) >>= λ _. trade_end count more version reference) trade e in
    let two = met (codes "desks") (allows_desks purpose server has_senders_key more) (trade_end count more version reference) trade one.1 in
    trade_end_kept purpose client server count more version reference trade one.0 (weaker (more == 0) (is_accept purpose) (not has_senders_key) (not (is_none server)) two.0) two.1

trade_kept : (purpose : Purpose) (client server : Flow) (keys : Data) (trade : Trade) → trade_of purpose client server keys ≡ Ok trade → TradeKept purpose client server trade
trade_kept purpose client server keys trade e =
    trade_by purpose client server (is_some (get (codes "senders") keys)) (get_or_default (codes "senders") 1 (natural_of 0 16) keys) (get_or_default (codes "desks") 0 (natural_of 0 16) keys) (get_or_default (codes "order_version") 1 (natural_of 1 2) keys) (get_or_default (codes "reference") 1000000 (natural_of 1 (10 ^ 15)) keys) trade e

-- ---- the book

book_checked : (desks : ℕ) (given : Read Bool) (book : Bool) → (given >>= λ b. ensure_in_range (codes "book") (allows_book desks b) >>= λ _. Ok b) ≡ Ok book → allows_book desks book ≡ true
book_checked desks (Err fault) book e = absurd cc
book_checked desks (Ok asked) book e =
    let one = met (codes "book") (allows_book desks asked) (Ok asked) book e in
    let same : asked ≡ book = cc in
    subst (λ (b : Bool). allows_book desks b ≡ true) same one.0

book_by : (is_known : Bool) (desks : ℕ) (given : Read Bool) (book : Bool)
    → (if is_known then (given >>= λ b. ensure_in_range (codes "book") (allows_book desks b) >>= λ _. Ok b) else Ok false) ≡ Ok book → allows_book desks book ≡ true
book_by true desks given book e = book_checked desks given book e
book_by false desks given true e = absurd cc
book_by false desks given false e = refl

book_kept : (purpose : Purpose) (desks : ℕ) (keys : Data) (book : Bool) → book_of purpose desks keys ≡ Ok book → allows_book desks book ≡ true
book_kept purpose desks keys book e = book_by (is_accept purpose) desks (get_or_default (codes "book") false switch_of keys) book e

-- ---- all

all_ok : (purpose : Purpose) (keys : Data) (link : Link) (trade : Trade) (version : Read ℕ) (book : Read Bool) (last : Read (Unit {0})) (c : Configuration)
    → link_of purpose keys ≡ Ok link → trade_of purpose link.client_flow link.server_flow keys ≡ Ok trade → book ≡ book_of purpose trade.desks keys
    → (version >>= λ v. book >>= λ b. last >>= λ _. Ok (record { link = record link { version = v }; trade = record trade { book = b } })) ≡ Ok c → KeepsRole purpose c
all_ok purpose keys link trade (Err fault) book last c l t b e = absurd cc
all_ok purpose keys link trade (Ok version) (Err fault) last c l t b e = absurd cc
all_ok purpose keys link trade (Ok version) (Ok book) (Err fault) c l t b e = absurd cc
all_ok purpose keys link trade (Ok version) (Ok book) (Ok done) c l t b e =
    let built : Configuration = record { link = record link { version = version }; trade = record trade { book = book } } in
    let same : built ≡ c = cc in
    let one = link_kept purpose keys link l in
    let two = trade_kept purpose link.client_flow link.server_flow keys trade t in
    let three = book_kept purpose trade.desks keys book (sym b) in
    subst (KeepsRole purpose) same (record { client = one.0; server = one.1; senders = two.0; desks = two.1; book = three })

trade_ok : (purpose : Purpose) (keys : Data) (link : Link) (trade : Read Trade) (c : Configuration) → link_of purpose keys ≡ Ok link → trade_of purpose link.client_flow link.server_flow keys ≡ trade
    → (trade >>= λ t. version_of keys >>= λ v. book_of purpose t.desks keys >>= λ b. deny_unknown_keys (known_keys purpose) keys >>= λ _. Ok (record { link = record link { version = v }; trade = record t { book = b } })) ≡ Ok c → KeepsRole purpose c
trade_ok purpose keys link (Err fault) c l t e = absurd cc
trade_ok purpose keys link (Ok trade) c l t e = all_ok purpose keys link trade (version_of keys) (book_of purpose trade.desks keys) (deny_unknown_keys (known_keys purpose) keys) c l t refl e

both_ok : (purpose : Purpose) (keys : Data) (link : Read Link) (c : Configuration) → link_of purpose keys ≡ link
    → (link >>= λ l. trade_of purpose l.client_flow l.server_flow keys >>= λ t. version_of keys >>= λ v. book_of purpose t.desks keys >>= λ b. deny_unknown_keys (known_keys purpose) keys >>= λ _. Ok (record { link = record l { version = v }; trade = record t { book = b } })) ≡ Ok c → KeepsRole purpose c
both_ok purpose keys (Err fault) c l e = absurd cc
both_ok purpose keys (Ok link) c l e = trade_ok purpose keys link (trade_of purpose link.client_flow link.server_flow keys) c l refl e

pub configurations_keep_the_role : ConfigurationsKeepTheRole
configurations_keep_the_role purpose keys c e = both_ok purpose keys (link_of purpose keys) c refl e

-- what is read of a table keeps it
pub read_keeps_role : (purpose : Purpose) (keys : Data) (r : Result Configuration TomlFault) → Reads r (configuration_of purpose keys) → IfOk r (KeepsRole purpose)
read_keeps_role purpose keys (Ok c) read = configurations_keep_the_role purpose keys c read
read_keeps_role purpose keys (Err fault) read = tt
