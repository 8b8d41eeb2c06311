-- A run of an acceptor with three desks, on disks and over a dialer in memory: the link of its one connection is cut in the midst of the first message.
use Rattle.std.specs.Prelude.{ℕ, false, List, [], ◌∷◌, ◌++◌, codes}
use Rattle.fixp_shake.specs.declared.config.Role.TheVariants.{Acceptor}
use Rattle.jr_dated.specs.declared.journal.Journal.{Ghosts}
use Rattle.jr_kept.specs.declared.inbox.Inbox.{Inbox}
use Rattle.jr_kept.specs.Inbox.{HoldsBox}
use Rattle.cmd_config.specs.declared.configuration.Configuration.{Configuration}
use Rattle.run_laws.specs.Several.{IsEmptyJournal, RunsOver}
use Rattle.run_laws.specs.Samples.{configured, config_text, nothing, journal_of, memory, fed_memory, cut_run, of_acceptor}
use Rattle.run_laws.specs.Desks.{RunsDesks}

-- what the text spells
abbrev pub with_desks : Configuration
with_desks = record configured { trade = record { senders = 1; desks = 3; order_version = 1; reference = 1000000; book = false } }

abbrev pub desks_text : List ℕ
desks_text = config_text ++ codes "desks = 3\n"

module _ {J : Type 0} {G : Ghosts J} where
  -- The premises on runs are met, where an inbox holds no records, as one does that was opened on a journal without records
  abbrev pub DesksSample : Inbox J G → Type 0
  DesksSample empty = HoldsBox empty [] []
      → RunsOver memory (RunsDesks G fed_memory Acceptor with_desks.trade) (cut_run desks_text nothing of_acceptor ∷ []) IsEmptyJournal IsEmptyJournal
      (journal_of nothing) (journal_of nothing)
