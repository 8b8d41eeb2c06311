-- The script of a soak of a number of messages (this project's profile).
use Rattle.std.specs.Prelude.{ℕ, ◌+◌, ◌/◌, ◌%◌, ◌==◌, List, [], ◌∷◌}
use Rattle.std.specs.List.{count_by, repeat}
use Rattle.session_model.specs.Journal.{counts_from}
use Rattle.fixp_msgs.specs.declared.flow.Flow.TheVariants as flows
use Rattle.cmd_config.specs.declared.configuration.Link.{Link}
use Rattle.cmd_script.specs.declared.script.Script.{Script}
use Rattle.cmd_script.specs.declared.script.Load.{Load}
use Rattle.cmd_script.specs.declared.steps.Step.{Step}
use Rattle.cmd_script.specs.declared.steps.Step.TheVariants as steps

-- the session 00112233-4455-6677-8899-aabbccddeeff, both of whose flows are recoverable
abbrev pub soak_link : Link
soak_link = record {
  session = 0x00 ∷ 0x11 ∷ 0x22 ∷ 0x33 ∷ 0x44 ∷ 0x55 ∷ 0x66 ∷ 0x77 ∷ 0x88 ∷ 0x99 ∷ 0xAA ∷ 0xBB ∷ 0xCC ∷ 0xDD ∷ 0xEE ∷ 0xFF ∷ [];
  keepalive = 1000;
  client_flow = flows.Recoverable;
  server_flow = flows.Recoverable;
  credentials = [];
  version = 1;
}

-- how many of the messages 1, 2, 3 and so on fall to a sender, where they are dealt out to four senders in turn
abbrev pub dealt : (messages sender : ℕ) → ℕ
dealt messages sender = count_by (λ i. i % 4 == sender % 4) (counts_from 1 messages)

abbrev pub soak_messages : ℕ → List ℕ
soak_messages messages = dealt messages 1 ∷ dealt messages 2 ∷ dealt messages 3 ∷ dealt messages 4 ∷ []

-- three desks of version 1 answer senders of version 2
abbrev pub soak_load : ℕ → Load
soak_load messages = record { messages = soak_messages messages; desks = 3; initiator_version = 2; desk_version = 1; reference = 1000000 }

-- a burst of 1,250 messages of each sender with 500 rounds, and a cut, for each 5,000 messages or a part of them
abbrev pub soak_steps : ℕ → List Step
soak_steps messages = repeat ((messages + 4999) / 5000) (steps.Burst 1250 500 ∷ steps.Cut ∷ [])

abbrev pub soak_script : ℕ → Script
soak_script messages = record { link = soak_link; load = soak_load messages; steps = soak_steps messages }
