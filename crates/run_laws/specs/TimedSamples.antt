-- The premises of the laws can be met: by the two runs of each of two ends in memory of which `run_laws` computes a sample. The first run of either is
-- stopped in an append; in the second, a next life, the initiator sends three bytes of its first message, the acceptor is given two, and the link fails.
use Rattle.std.specs.Prelude.{◌≡◌, ℕ, List, [], ◌++◌, length, codes, Ok}
use Rattle.fixp_shake.specs.declared.config.Role.TheVariants.{Initiator, Acceptor}
use Rattle.jr_dated.specs.declared.journal.Journal.{Ghosts}
use Rattle.jr_kept.specs.declared.inbox.Inbox.{Inbox}
use Rattle.jr_kept.specs.Inbox.{HoldsBox}
use Rattle.cmd_config.specs.declared.configuration.Configuration.{Configuration}
use Rattle.cmd_session.specs.Inputs.{configuration_at}
use Rattle.run_laws.specs.Samples.{configured, config_text, fed_memory, runs_of_initiator, runs_of_acceptor}
use Rattle.run_laws.specs.TimedRuns.{HasLink, EndRan, lives, legs_of}
use Rattle.run_laws.specs.TimedLaws.{AreLinked}

module _ {J : Type 0} (G : Ghosts J) where
  -- these runs, with two lives of each end and a connection of each, are linked in time
  pub record RunInTime : Type 0 where
    pub initiator : EndRan G fed_memory Initiator configured.link
    pub acceptor : EndRan G fed_memory Acceptor configured.link
    pub runs_i : initiator.runs ≡ runs_of_initiator config_text
    pub runs_a : acceptor.runs ≡ runs_of_acceptor config_text
    pub lives_i : length (lives G fed_memory Initiator configured.link initiator) ≡ 2
    pub lives_a : length (lives G fed_memory Acceptor configured.link acceptor) ≡ 2
    pub legs_i : length (legs_of (lives G fed_memory Initiator configured.link initiator)) ≡ 1
    pub legs_a : length (legs_of (lives G fed_memory Acceptor configured.link acceptor)) ≡ 1
    pub linked : AreLinked G fed_memory configured.link configured.link initiator acceptor

module _ {J : Type 0} {G : Ghosts J} where
  -- so they are where an inbox holds no records, as one does that was opened on a journal without records
  abbrev pub RunsInTimeSample : Inbox J G → Type 0
  RunsInTimeSample empty = HoldsBox empty [] [] → RunInTime G

-- what a later CONFIG may spell: another interval, and the next version of the session schema
abbrev pub later_configured : Configuration
later_configured = record configured { link = record configured.link { keepalive = 2000; version = 1 } }

abbrev pub later_text : List ℕ
later_text =
    codes "session = \"07070707-0707-0707-0707-070707070707\"\n" ++ codes "keepalive = 2000\n" ++ codes "client_flow = \"recoverable\"\n"
    ++ codes "server_flow = \"recoverable\"\n" ++ codes "session_version = 1\n"

-- it does, and so has a link of the session of those runs
abbrev pub LaterSample : Type 0
LaterSample = (configuration_at Initiator later_text ≡ Ok later_configured) × HasLink Initiator configured.link later_text
