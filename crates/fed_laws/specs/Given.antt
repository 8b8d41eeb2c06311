-- What lines give to senders that come one at a time, and the plans that a life is fed so submits (this project's profile).
use Rattle.std.specs.Prelude.{⊤, ◌⊎◌, ℕ, List, [], ◌∷◌, ◌++◌, map}
use Rattle.session_model.specs.Journal.{Entry, payloads, entries_of, counts_from}
use Rattle.plan_text.specs.Plans.{Gift, Gives, payloads_of_sender}

-- a line gives nothing to any of so many senders
abbrev pub GivesNone : ℕ → List ℕ → Type 0
GivesNone senders line = (g : Gift) → Gives senders line g → ⊥

-- some lines give these, in order: each one of them, or nothing
abbrev pub GiveThese : ℕ → List (List ℕ) → List Gift → Type 0
GiveThese senders [] [] = ⊤
GiveThese senders [] (g ∷ gifts) = ⊥
GiveThese senders (line ∷ lines) [] = GivesNone senders line × GiveThese senders lines []
GiveThese senders (line ∷ lines) (g ∷ gifts) =
    (GivesNone senders line × GiveThese senders lines (g ∷ gifts)) ⊎ (Gives senders line g × GiveThese senders lines gifts)

-- what a sender is to send: the messages that the outbox has of it, and behind them those that it is given
abbrev pub fed_plan : List Entry → List Gift → ℕ → List (List ℕ)
fed_plan made gifts s = payloads (entries_of made s) ++ payloads_of_sender s gifts

-- so it is of so many senders, from sender 1 on
abbrev pub fed_plans : ℕ → List Entry → List Gift → List (List (List ℕ))
fed_plans count made gifts = map (λ (s : ℕ). fed_plan made gifts s) (counts_from 1 count)
