-- How far the plans of a text are read. These are steps of the proof: nothing that a user relies on needs them.
use Rattle.std.specs.Prelude.{◌≡◌, ℕ, ◌+◌, ◌<◌, ◌==◌, if◌then◌else◌, List, [], ◌∷◌, ◌++◌, length, slice_index_or}
use Rattle.text_words.specs.Lines.{lines_in}
use Rattle.plan_values.specs.Plans.{payloads_of}
use Rattle.plan_values.specs.declared.plan.Plan.{Plan}
use Rattle.plan_text.specs.Plans.{Gift, AreGiven, payloads_of_sender}

-- the payload was added to the plan of its sender, and to no other
pub record IsAdded (g : Gift) (before after : List Plan) : Type 0 where
  pub many : length after ≡ length before
  pub each : (i : ℕ) (d : Plan) → i < length before
      → payloads_of (slice_index_or after i d) ≡ (if g.sender == i + 1 then payloads_of (slice_index_or before i d) ++ g.payload ∷ []
      else payloads_of (slice_index_or before i d))

-- these plans have what the lines in front of those that are left give, of which there are so many
pub record HaveRead (senders : ℕ) (text left : List ℕ) (plans : List Plan) (count : ℕ) : Type 0 where
  pub before : List (List ℕ)
  pub lines : lines_in text ≡ before ++ lines_in left
  pub counted : count ≡ length before
  pub gifts : List Gift
  pub given : AreGiven senders before gifts
  pub many : length plans ≡ senders
  pub each : (i : ℕ) (d : Plan) → i < senders → payloads_of (slice_index_or plans i d) ≡ payloads_of_sender (i + 1) gifts
