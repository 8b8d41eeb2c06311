-- The script of messages in datagrams as a TOML table: its keys in the order in which they are visited (this project's profile).
use Rattle.std.specs.Prelude.{ℕ, ◌≤◌, nat_le, List, [], ◌∷◌, length, Result, Ok, codes}
use Rattle.std.specs.List.{AllByRecursion}
use Rattle.toml.specs.Data.{Data}
use Rattle.fixp_msgs.specs.declared.flow.Flow.{Flow}
use Rattle.fixp_msgs.specs.declared.flow.Flow.TheVariants as flows
use Rattle.toml_walk.specs.Reading.{Read, ◌>>=◌}
use Rattle.toml_walk.specs.Documents.{document_of}
use Rattle.toml_walk.specs.Keys.{required, get_or_default, list_of, deny_unknown_keys}
use Rattle.toml_walk.specs.Values.{text_of, natural_of, word_in, listed}
use Rattle.schema_toml.specs.declared.fault.ConfigFault.{ConfigFault}
use Rattle.schema_toml.specs.Faults.{limited, of_text}
use Rattle.cmd_config.specs.Settings.{ensure_in_range}
use Rattle.fixp_datagram.specs.Packing.{cut_count}
use Rattle.fixp_datagram.specs.Receiving.{IsCarried}
use Rattle.cmd_datagram.specs.declared.script.Script.{Script}

-- the words of the flows that are carried in datagrams
abbrev pub flow_of : Data → Read Flow
flow_of d = text_of d >>= λ text. listed (word_in ((codes "recoverable", flows.Recoverable) ∷ (codes "idempotent", flows.Idempotent) ∷ []) text)

-- {.., deliver?}: numbers of datagrams, from 1 to the last, in the order in which they are delivered; at most 100,000 of them
abbrev pub deliver_of : (datagrams : ℕ) → Data → Read (List ℕ)
deliver_of datagrams keys =
    get_or_default (codes "deliver") [] (list_of (natural_of 1 datagrams)) keys >>= λ deliver.
    ensure_in_range (codes "deliver") (nat_le (length deliver) 100000) >>= λ _.
    Ok deliver

-- {flow, messages, per, deliver?}: all values
abbrev pub script_of : Data → Read Script
script_of keys =
    required (codes "flow") flow_of keys >>= λ flow.
    required (codes "messages") (natural_of 0 10000) keys >>= λ messages.
    required (codes "per") (natural_of 1 64) keys >>= λ per.
    deliver_of (cut_count per messages) keys >>= λ deliver.
    deny_unknown_keys (codes "flow" ∷ codes "messages" ∷ codes "per" ∷ codes "deliver" ∷ []) keys >>= λ _.
    Ok (record { flow = flow; messages = messages; per = per; deliver = deliver })

abbrev pub script_of_document : List ℕ → Read Script
script_of_document text = document_of text >>= script_of

-- the script that a text is, or why it is none
abbrev pub script_of_text : List ℕ → Result Script ConfigFault
script_of_text = limited (λ text. of_text (script_of_document text))

-- the number of one of so many datagrams, from 1
abbrev pub IsNumberOf : ℕ → ℕ → Type 0
IsNumberOf datagrams k = (1 ≤ k) × (k ≤ datagrams)

-- what holds of a script that is read
pub record IsScript (s : Script) : Type 0 where
  pub flow : IsCarried s.flow
  pub messages : s.messages ≤ 10000
  pub per : (1 ≤ s.per) × (s.per ≤ 64)
  pub deliver : AllByRecursion (IsNumberOf (cut_count s.per s.messages)) s.deliver
