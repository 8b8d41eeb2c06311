-- Calls of a router of frames one after another, over any transport, in any order (this project's profile).
use Rattle.std.specs.Prelude.{◌≡◌, ℕ, zero, suc, ◌==◌, if◌then◌else◌, true, List, [], ◌∷◌, ◌++◌}
use Rattle.sofh_frame.specs.Framing.{Frame}
use Rattle.fixp_mux.specs.State.{Session, State, Pumps}

-- Frames were given out and others begun to be written; at a place among the sessions, one received bytes, sent bytes, or was released
pub data Call : Type 0 where
  pumped : (given begun : List Frame) → Call
  received : (place : ℕ) → (bytes : List ℕ) → Call
  sent : (place : ℕ) → (bytes : List ℕ) → Call
  released : (place : ℕ) → Call

-- the session at a place changes so, and no other does
abbrev pub Changes : ℕ → (Session → Session → Type 0) → List Session → List Session → Type 0
Changes place R [] new = ⊥
Changes place R (s ∷ old) [] = ⊥
Changes zero R (s ∷ old) (t ∷ new) = R s t × (new ≡ old)
Changes (suc place) R (s ∷ old) (t ∷ new) = (t ≡ s) × Changes place R old new

-- a session receives bytes off the front of its input; bytes that it sends stand behind its output
pub record Receives (bytes : List ℕ) (old new : Session) : Type 0 where
  pub front : old.input ≡ bytes ++ new.input
  pub same : new ≡ record old { input = new.input }

abbrev pub Sends : List ℕ → Session → Session → Type 0
Sends bytes old new = new ≡ record old { output = old.output ++ bytes }

abbrev pub Lets : Session → Session → Type 0
Lets old new = new ≡ record old { is_released = true }

-- nothing changes but what is said of the session at a place
pub record At (place : ℕ) (R : Session → Session → Type 0) (old new : State) : Type 0 where
  pub session : Changes place R old.sessions new.sessions
  pub same : new ≡ record old { sessions = new.sessions }

pub record IsPumped (given begun : List Frame) (old new : State) : Type 0 where
  pub gave : List ℕ
  pub took : List ℕ
  pub pumps : Pumps old new given begun gave took

abbrev pub Happens : State → Call → State → Type 0
Happens old (pumped given begun) new = IsPumped given begun old new
Happens old (received place bytes) new = At place (Receives bytes) old new
Happens old (sent place bytes) new = At place (Sends bytes) old new
Happens old (released place) new = At place Lets old new

-- calls one after another
abbrev pub Ran : State → List Call → State → Type 0
Ran first [] last = first ≡ last
Ran first (call ∷ calls) last = (next : State) × (Happens first call next × Ran next calls last)

-- all frames that were given out, and all that were begun to be written
abbrev pub given_by : Call → List Frame
given_by (pumped given begun) = given
given_by (received place bytes) = []
given_by (sent place bytes) = []
given_by (released place) = []

abbrev pub begun_by : Call → List Frame
begun_by (pumped given begun) = begun
begun_by (received place bytes) = []
begun_by (sent place bytes) = []
begun_by (released place) = []

abbrev pub given_in : List Call → List Frame
given_in [] = []
given_in (call ∷ calls) = given_by call ++ given_in calls

abbrev pub begun_in : List Call → List Frame
begun_in [] = []
begun_in (call ∷ calls) = begun_by call ++ begun_in calls

-- all bytes that the session at a place received, and all that it sent
abbrev pub received_by : ℕ → Call → List ℕ
received_by at (pumped given begun) = []
received_by at (received place bytes) = if place == at then bytes else []
received_by at (sent place bytes) = []
received_by at (released place) = []

abbrev pub sent_by : ℕ → Call → List ℕ
sent_by at (pumped given begun) = []
sent_by at (received place bytes) = []
sent_by at (sent place bytes) = if place == at then bytes else []
sent_by at (released place) = []

abbrev pub received_in : ℕ → List Call → List ℕ
received_in at [] = []
received_in at (call ∷ calls) = received_by at call ++ received_in at calls

abbrev pub sent_in : ℕ → List Call → List ℕ
sent_in at [] = []
sent_in at (call ∷ calls) = sent_by at call ++ sent_in at calls
