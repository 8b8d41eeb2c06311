-- The script of a rehearsal as a TOML table: its keys in the order in which they are visited (this project's profile).
use Rattle.std.specs.Prelude.{ℕ, ◌*◌, ◌^◌, ◌==◌, ◌≡◌, ◌≤◌, Bool, true, false, not, nat_le, if◌then◌else◌, List, [], ◌∷◌, length, replicate, All, Result, Ok, codes}
use Rattle.toml.specs.Data.{Data}
use Rattle.fixp_msgs.specs.declared.flow.Flow.{Flow}
use Rattle.toml_walk.specs.Reading.{Read, ◌>>=◌}
use Rattle.toml_walk.specs.Documents.{document_of}
use Rattle.toml_walk.specs.Keys.{required, get_or_default, list_of, table_of, deny_unknown_keys}
use Rattle.toml_walk.specs.Values.{text_of, natural_of, word_in, listed}
use Rattle.schema_toml.specs.declared.fault.ConfigFault.{ConfigFault}
use Rattle.schema_toml.specs.Faults.{limited, of_text}
use Rattle.fixp_shake.specs.declared.config.Role.{Role}
use Rattle.fixp_shake.specs.declared.config.Role.TheVariants as roles
use Rattle.gw_fakes.specs.declared.disk.Pick.{Pick}
use Rattle.gw_fakes.specs.declared.disk.Pick.TheVariants as picks
use Rattle.cmd_config.specs.declared.configuration.Link.{Link}
use Rattle.cmd_config.specs.Settings.{IsLinkInRange, session_of, flow_of, credentials_of, ensure_in_range, is_none, version_of}
use Rattle.cmd_script.specs.declared.script.Script.{Script}
use Rattle.cmd_script.specs.declared.script.Load.{Load}
use Rattle.cmd_script.specs.declared.steps.Action.{Action}
use Rattle.cmd_script.specs.declared.steps.Action.TheVariants as actions
use Rattle.cmd_script.specs.declared.steps.Step.{Step}
use Rattle.cmd_script.specs.declared.steps.Step.TheVariants as steps

-- ---- steps

-- how many messages or rounds a step has, or calls of a disk
abbrev pub count_of : Data → Read ℕ
count_of = natural_of 0 1000000

-- the words of what a step does
abbrev pub action_of : Data → Read Action
action_of d = text_of d >>= λ text. listed (word_in ((codes "burst", actions.Burst) ∷ (codes "rounds", actions.Rounds) ∷ (codes "cut", actions.Cut) ∷ (codes "stop", actions.Stop) ∷ [])
    text)

-- the words of an end, and of what a stop leaves
abbrev pub end_of : Data → Read Role
end_of d = text_of d >>= λ text. listed (word_in ((codes "initiator", roles.Initiator) ∷ (codes "acceptor", roles.Acceptor) ∷ []) text)

abbrev pub pick_of : Data → Read Pick
pick_of d = text_of d >>= λ text. listed (word_in ((codes "old", picks.Old) ∷ (codes "kept", picks.Kept) ∷ (codes "noise", picks.Noise) ∷ []) text)

-- {do = "stop", end, after, pick}
abbrev pub stop_keys : Data → Read Step
stop_keys keys =
    required (codes "end") end_of keys >>= λ end.
    required (codes "after") count_of keys >>= λ after.
    required (codes "pick") pick_of keys >>= λ pick.
    deny_unknown_keys (codes "do" ∷ codes "end" ∷ codes "after" ∷ codes "pick" ∷ []) keys >>= λ _.
    Ok (steps.Stop end after pick)

-- {do = "burst", count, rounds}, {do = "rounds", count}, {do = "cut"} or {do = "stop", ..}
abbrev pub step_by : Action → Data → Read Step
step_by actions.Burst keys =
    required (codes "count") count_of keys >>= λ count.
    required (codes "rounds") count_of keys >>= λ rounds.
    deny_unknown_keys (codes "do" ∷ codes "count" ∷ codes "rounds" ∷ []) keys >>= λ _.
    Ok (steps.Burst count rounds)
step_by actions.Rounds keys =
    required (codes "count") count_of keys >>= λ count.
    deny_unknown_keys (codes "do" ∷ codes "count" ∷ []) keys >>= λ _.
    Ok (steps.Rounds count)
step_by actions.Cut keys = deny_unknown_keys (codes "do" ∷ []) keys >>= λ _. Ok steps.Cut
step_by actions.Stop keys = stop_keys keys

abbrev pub step_keys : Data → Read Step
step_keys keys = required (codes "do") action_of keys >>= λ action. step_by action keys

abbrev pub step_of : Data → Read Step
step_of = table_of step_keys

-- ---- what is asked of several keys

-- the initiator sends
abbrev pub allows_client : Flow → Bool
allows_client client = not (is_none client)

-- at most 100,000 messages in all
abbrev pub allows_messages : ℕ → ℕ → Bool
allows_messages senders messages = nat_le (senders * messages) 100000

-- there are no desks exactly where the acceptor sends nothing
abbrev pub allows_desks : Flow → ℕ → Bool
allows_desks server desks = if desks == 0 then is_none server else not (is_none server)

-- ---- the keys

-- {session, keepalive, client_flow, server_flow, credentials?, ..}; the version is that of a text without its key, which comes last
abbrev pub link_of : Data → Read Link
link_of keys =
    required (codes "session") session_of keys >>= λ session.
    required (codes "keepalive") (natural_of 100 60000) keys >>= λ keepalive.
    required (codes "client_flow") flow_of keys >>= λ client.
    ensure_in_range (codes "client_flow") (allows_client client) >>= λ _.
    required (codes "server_flow") flow_of keys >>= λ server.
    get_or_default (codes "credentials") [] credentials_of keys >>= λ credentials.
    Ok (record { session = session; keepalive = keepalive; client_flow = client; server_flow = server; credentials = credentials; version = 1 })

-- {.., senders, messages, ..}: the same number of messages for each sender
abbrev pub messages_of : Data → Read (List ℕ)
messages_of keys =
    required (codes "senders") (natural_of 1 16) keys >>= λ senders.
    required (codes "messages") (natural_of 0 100000) keys >>= λ messages.
    ensure_in_range (codes "messages") (allows_messages senders messages) >>= λ _.
    Ok (replicate senders messages)

-- {.., desks, initiator_version, desk_version, reference?, ..}, behind those
abbrev pub load_of : Flow → Data → Read Load
load_of server keys =
    messages_of keys >>= λ messages.
    required (codes "desks") (natural_of 0 16) keys >>= λ desks.
    ensure_in_range (codes "desks") (allows_desks server desks) >>= λ _.
    required (codes "initiator_version") (natural_of 1 2) keys >>= λ initiator_version.
    required (codes "desk_version") (natural_of 1 2) keys >>= λ desk_version.
    get_or_default (codes "reference") 1000000 (natural_of 1 (10 ^ 15)) keys >>= λ reference.
    Ok (record { messages = messages; desks = desks; initiator_version = initiator_version; desk_version = desk_version; reference = reference })

abbrev pub known_keys : List (List ℕ)
known_keys = codes "session" ∷ codes "keepalive" ∷ codes "client_flow" ∷ codes "server_flow" ∷ codes "credentials" ∷ codes "senders" ∷ codes "messages"
    ∷ codes "desks" ∷ codes "initiator_version" ∷ codes "desk_version" ∷ codes "reference" ∷ codes "step" ∷ codes "session_version" ∷ []

-- {.., step?}
abbrev pub steps_of : Data → Read (List Step)
steps_of = get_or_default (codes "step") [] (list_of step_of)

-- all values; both ends speak the version of the session schema that stands at `session_version`
abbrev pub script_of : Data → Read Script
script_of keys =
    link_of keys >>= λ link.
    load_of link.server_flow keys >>= λ load.
    steps_of keys >>= λ steps.
    version_of keys >>= λ version.
    deny_unknown_keys known_keys keys >>= λ _.
    Ok (record { link = record link { version = version }; load = load; steps = steps })

abbrev pub script_of_document : List ℕ → Read Script
script_of_document text = document_of text >>= script_of

-- the script that a text is, or why it is none
abbrev pub script_of_text : List ℕ → Result Script ConfigFault
script_of_text = limited (λ text. of_text (script_of_document text))

-- ---- what holds of a script that is read

-- so many messages of a sender
abbrev pub IsCount : ℕ → Type 0
IsCount count = count ≤ 100000

-- some senders, 16 at most, and as many desks at most; and versions of the order schema that there are
pub record IsLoadInRange (l : Load) : Type 0 where
  pub some : 1 ≤ length l.messages
  pub few : length l.messages ≤ 16
  pub counts : All IsCount l.messages
  pub desks : l.desks ≤ 16
  pub initiator_version : (1 ≤ l.initiator_version) × (l.initiator_version ≤ 2)
  pub desk_version : (1 ≤ l.desk_version) × (l.desk_version ≤ 2)
  pub reference : (1 ≤ l.reference) × (l.reference ≤ 10 ^ 15)

-- the initiator sends, and the acceptor does exactly where it has desks
pub record IsScript (s : Script) : Type 0 where
  pub link : IsLinkInRange s.link
  pub client : is_none s.link.client_flow ≡ false
  pub load : IsLoadInRange s.load
  pub desks : allows_desks s.link.server_flow s.load.desks ≡ true
