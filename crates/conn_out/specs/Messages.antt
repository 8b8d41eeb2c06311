-- The messages that the records of an inbox tell to be applied, and their lines on OUT (this project's profile).
use Rattle.std.specs.Prelude.{◌≡◌, ◌⊎◌, ℕ, ◌-◌, ◌<◌, ◌≤◌, nat_lt, List, [], ◌∷◌, ◌++◌, filter, flat_map, drop, slice_get, All, Some}
use Rattle.session_model.specs.Inbox.{Numbered}
use Rattle.jr_record.specs.declared.record.Record.{Record}
use Rattle.jr_record.specs.declared.record.Record.TheVariants as kinds
use Rattle.jr_dated.specs.Dated.{Dated}
use Rattle.conn_lines.specs.Lines.{deliver_line}

-- what a record tells to be applied: one message or none
abbrev pub messages_of : Record → List Numbered
messages_of (kinds.Entry sender k payload) = []
messages_of (kinds.Apply number payload) = record { number = number; payload = payload } ∷ []
messages_of (kinds.Skip first count) = []
messages_of kinds.Negotiated = []
messages_of (kinds.PeerFinished last) = []
messages_of kinds.Finish = []

-- and what records do, in order
abbrev pub messages_in : List Dated → List Numbered
messages_in ds = flat_map (λ (d : Dated). messages_of d.what) ds

-- the lines that tell of messages
abbrev pub deliver_lines : List Numbered → List ℕ
deliver_lines [] = []
deliver_lines (m ∷ ms) = deliver_line m.number m.payload ++ deliver_lines ms

-- the messages of a greater number than this
abbrev pub behind : ℕ → List Numbered → List Numbered
behind number ms = filter (λ (m : Numbered). nat_lt number m.number) ms

-- a record tells of a message up to this number
pub record TellsUpTo (r : Record) (number : ℕ) : Type 0 where
  pub message : Numbered
  pub tells : messages_of r ≡ message ∷ []
  pub up_to : message.number ≤ number

-- the record before this place tells of a message up to this number
pub record EndsUpTo (h : List Dated) (at number : ℕ) : Type 0 where
  pub record_before : Dated
  pub there : slice_get h (at - 1) ≡ Some record_before
  pub tells : TellsUpTo record_before.what number

-- of the records from this place on none tells of a message up to this number, and the one before it does, where there is one
pub record IsPlaceBehind (h : List Dated) (at number : ℕ) : Type 0 where
  pub none : All (λ (m : Numbered). number < m.number) (messages_in (drop at h))
  pub before : (at ≡ 0) ⊎ EndsUpTo h at number
