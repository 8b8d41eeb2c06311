-- What the script of a soak comes to.
use Rattle.std.specs.Prelude.{◌≡◌, ℕ, ◌+◌, ◌*◌, ◌/◌, ◌≤◌, [], ◌∷◌}
use Rattle.cmd_soak.specs.Soak.{dealt, soak_messages}

-- of 10 messages senders 1 and 2 have three, and senders 3 and 4 two
pub record SoaksDealRows : Type 0 where
  pub four : soak_messages 4 ≡ 1 ∷ 1 ∷ 1 ∷ 1 ∷ []
  pub ten : soak_messages 10 ≡ 3 ∷ 3 ∷ 2 ∷ 2 ∷ []
  pub twenty : soak_messages 20 ≡ 5 ∷ 5 ∷ 5 ∷ 5 ∷ []

-- each message falls to one sender, and each sender submits all of its own in as many bursts of 1,250 as there are
pub record SoaksSendAll : Type 0 where
  pub each_once : (messages : ℕ) → dealt messages 1 + dealt messages 2 + dealt messages 3 + dealt messages 4 ≡ messages
  pub enough : (messages sender : ℕ) → 1 ≤ sender → sender ≤ 4 → dealt messages sender ≤ (messages + 4999) / 5000 * 1250
