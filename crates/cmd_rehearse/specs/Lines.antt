-- The lines of a rehearsal (this project's profile).
use Rattle.std.specs.Prelude.{ℕ, ◌+◌, List, [], ◌∷◌, ◌++◌, codes, decimal}
use Rattle.gw_rehearse.specs.declared.summary.EndSummary.{EndSummary}

-- a line for each number of entries, of the senders from this one on: `END sender S ENTRIES`
abbrev pub sender_lines : List ℕ → ℕ → List ℕ → List ℕ
sender_lines end sender [] = []
sender_lines end sender (entries ∷ more) =
    ((end ++ codes " sender ") ++ decimal sender) ++ (codes " " ++ decimal entries) ++ codes "\n" ++ sender_lines end (sender + 1) more

-- behind them what was applied of the other end's: `END delivered A skipped K`
abbrev pub end_lines : List ℕ → EndSummary → List ℕ
end_lines end s =
    sender_lines end 1 s.entries ++ ((end ++ codes " delivered ") ++ decimal s.delivered) ++ (codes " skipped " ++ decimal s.skipped) ++ codes "\n"

-- the initiator, the acceptor, and that both have finished
abbrev pub summary_lines : EndSummary → EndSummary → List ℕ
summary_lines initiator acceptor = end_lines (codes "initiator") initiator ++ end_lines (codes "acceptor") acceptor ++ codes "finished\n"
