-- A session's link over a router of frames (this project's profile).
use Rattle.std.specs.Prelude.{◌≡◌, ℕ, [], IfSome, slice_get}
use Rattle.fixp_mux.specs.State.{State}

-- which router, and the place of the session among its sessions
pub record MuxPlace : Type 0 where
  pub mux : ℕ
  pub session : ℕ

-- nothing waits for the session at a place
abbrev pub HasNothing : ℕ → State → Type 0
HasNothing place m = IfSome (slice_get m.sessions place) (λ s. s.input ≡ [])

abbrev pub at_place : ℕ → ℕ → MuxPlace
at_place mux session = record { mux = mux; session = session }
