-- The lines of one frame: the first, and those of what it holds (this project's profile).
use Rattle.std.specs.Prelude.{ℕ, Option, List, [], ◌∷◌, ◌++◌, codes, decimal}
use Rattle.sofh_frame.specs.Framing.{Frame}
use Rattle.session_model.specs.Events.{numbered}
use Rattle.fixp_msgs.specs.Numbering.{events_of, numbers_of}

-- the numbers that a frame implies where this one stands announced: that of its application message, if it is below 2^64, or none
abbrev pub implied_by : Option ℕ → Frame → List ℕ
implied_by standing f = numbers_of (numbered standing (events_of (f ∷ [])))

abbrev pub implied_words : List ℕ → List ℕ
implied_words [] = []
implied_words (number ∷ more) = codes " number " ++ decimal number

-- frame N at BYTE size SIZE, and the implied number
abbrev pub head_line : ℕ → ℕ → ℕ → List ℕ → List ℕ
head_line number place size implied =
    codes "frame " ++ decimal number ++ codes " at " ++ decimal place ++ codes " size " ++ decimal size ++ implied_words implied ++ codes "\n"
