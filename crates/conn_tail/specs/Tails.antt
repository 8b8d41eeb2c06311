-- The end of a file of lines about a session (this project's profile).
use Rattle.std.specs.Prelude.{◌≡◌, ℕ, ◌^◌, ◌<◌, ◌≤◌, List, [], ◌∷◌, ◌++◌, length, All, Option, MatchOption}
use Rattle.hex.specs.Hex.{IsBytes}
use Rattle.conn_lines.specs.Lines.{deliver_line}
use Rattle.gw_lines.specs.Lines.{IsFeedless, with_feeds}

-- a line, without its line feed, tells that the message of this number was applied; a payload has at most 16,386 bytes
pub record IsDeliver (line : List ℕ) (number : ℕ) : Type 0 where
  pub size : number < 2 ^ 64
  pub payload : List ℕ
  pub short : length payload ≤ 16386
  pub each : IsBytes payload
  pub written : line ++ 10 ∷ [] ≡ deliver_line number payload

-- a line tells of no applied message
abbrev pub TellsNothing : List ℕ → Type 0
TellsNothing line = (number : ℕ) → IsDeliver line number → ⊥

-- the last of some lines that tells of an applied message tells of this one
pub record IsLastDeliver (lines : List (List ℕ)) (number : ℕ) : Type 0 where
  pub before : List (List ℕ)
  pub line : List ℕ
  pub behind : List (List ℕ)
  pub split : lines ≡ before ++ line ∷ behind
  pub tells : IsDeliver line number
  pub none : All TellsNothing behind

-- a text is these whole lines, the last of which that tells of an applied message tells of this one
pub record TellsLast (text : List ℕ) (last : Option ℕ) : Type 0 where
  pub lines : List (List ℕ)
  pub each : All IsFeedless lines
  pub bytes : text ≡ with_feeds lines []
  pub told : MatchOption last (All TellsNothing lines) (IsLastDeliver lines)

-- the first `whole` bytes of a content are its whole lines, and the last of them that tells of an applied message tells of this one
pub record HasTail (content : List ℕ) (whole : ℕ) (last : Option ℕ) : Type 0 where
  pub text : List ℕ
  pub rest : List ℕ
  pub bytes : content ≡ text ++ rest
  pub size : whole ≡ length text
  pub tells : TellsLast text last
  pub feedless : IsFeedless rest
