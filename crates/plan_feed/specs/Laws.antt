-- Laws of what lines say.
use Rattle.std.specs.Prelude.{ℕ, ◌^◌, ◌<◌, ◌≤◌, List, length}
use Rattle.plan_text.specs.Plans.{Gift, Gives}
use Rattle.plan_feed.specs.declared.wrong.Wrong.{Wrong}
use Rattle.plan_feed.specs.Wrongs.{IsWrong}

-- a line of which something is wrong gives nothing
abbrev pub WrongGivesNothing : Type 0
WrongGivesNothing = (senders : ℕ) (line : List ℕ) (wrong : Wrong) (g : Gift) → senders < 2 ^ 16 → IsWrong senders line wrong → Gives senders line g → ⊥

-- a line that gives something has at most 32,778 bytes: five digits, a blank, and 16,386 bytes in hexadecimal
abbrev pub GiversAreShort : Type 0
GiversAreShort = (senders : ℕ) (line : List ℕ) (g : Gift) → senders < 2 ^ 16 → Gives senders line g → length line ≤ 32778
