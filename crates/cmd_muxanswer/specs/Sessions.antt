-- CONFIG of `muxanswer`: the sessions of one transport, each with the keys that `answer` has (this project's profile).
use Rattle.std.specs.Prelude.{ℕ, ◌≤◌, ◌&&◌, nat_le, if◌then◌else◌, Option, Some, None, List, [], ◌∷◌, ◌++◌, length, map, Result, Ok, Err, codes}
use Rattle.toml.specs.Data.{Data}
use Rattle.sbe_value.specs.declared.path.Step.TheVariants.{Key, At}
use Rattle.toml_walk.specs.declared.fault.TomlFault.{TomlFault}
use Rattle.toml_walk.specs.declared.fault.TomlFault.TheVariants.{Range}
use Rattle.toml_walk.specs.Reading.{Read, ◌>>=◌}
use Rattle.toml_walk.specs.Documents.{document_of}
use Rattle.toml_walk.specs.Keys.{required, list_of, table_of, is_among, deny_unknown_keys}
use Rattle.schema_toml.specs.declared.fault.ConfigFault.{ConfigFault}
use Rattle.schema_toml.specs.Faults.{limited, of_text}
use Rattle.routes.specs.Identifiers.{EachOnce}
use Rattle.cmd_config.specs.declared.purpose.Purpose.TheVariants.{Recorded}
use Rattle.cmd_config.specs.declared.settings.Settings.{Settings}
use Rattle.cmd_config.specs.Settings.{configuration_of, ensure_in_range, settings_by}

-- one of the sessions: a table with the keys of `answer`
abbrev pub session_of : Data → Read Settings
session_of = table_of (λ keys. configuration_of Recorded keys >>= λ c. Ok (settings_by c))

abbrev pub identifiers : List Settings → List (List ℕ)
identifiers sessions = map (λ (s : Settings). s.session) sessions

-- the place of the first of some identifiers that stands at an earlier place too, behind those that stand before them
abbrev pub repeated_behind : (earlier ids : List (List ℕ)) → Option ℕ
repeated_behind earlier [] = None
repeated_behind earlier (id ∷ ids) = if is_among id earlier then Some (length earlier) else repeated_behind (earlier ++ id ∷ []) ids

-- an identifier that stands twice is out of range at its second place: `session[i].session`
abbrev pub repeated_fault : ℕ → TomlFault
repeated_fault place = Range (Key (codes "session") ∷ At place ∷ Key (codes "session") ∷ [])

abbrev pub unless_repeated : Option ℕ → Read (Unit {0})
unless_repeated None = Ok tt
unless_repeated (Some place) = Err (repeated_fault place)

-- {session}: 1 to 64 tables, no two with the same identifier
abbrev pub sessions_of : Data → Read (List Settings)
sessions_of keys =
    required (codes "session") (list_of session_of) keys >>= λ sessions.
    ensure_in_range (codes "session") (nat_le 1 (length sessions) && nat_le (length sessions) 64) >>= λ _.
    unless_repeated (repeated_behind [] (identifiers sessions)) >>= λ _.
    deny_unknown_keys (codes "session" ∷ []) keys >>= λ _.
    Ok sessions

abbrev pub sessions_of_document : List ℕ → Read (List Settings)
sessions_of_document text = document_of text >>= sessions_of

-- the sessions that a text configures, or why it configures none
abbrev pub sessions_of_text : List ℕ → Result (List Settings) ConfigFault
sessions_of_text = limited (λ text. of_text (sessions_of_document text))

-- what holds of sessions that were read
pub record AreSessions (sessions : List Settings) : Type 0 where
  pub some : 1 ≤ length sessions
  pub most : length sessions ≤ 64
  pub once : EachOnce (identifiers sessions)
