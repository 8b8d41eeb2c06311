-- The command lines that the program takes (this project's profile).
use Rattle.std.specs.Prelude.{ℕ, ◌&&◌, if◌then◌else◌, Option, Some, None, List, [], ◌∷◌, map, codes, String, string_bytes}
use Rattle.std.specs.Str.{bytes_eq}
use Rattle.std.specs.declared.alloc.Global.{Global}
use Rattle.cmd_codec.specs.declared.shown.Shown.TheVariants.{Numbers, Names}
use Rattle.cmd_run.specs.declared.words.Command.{Command}
use Rattle.cmd_run.specs.declared.words.Command.TheVariants.{Answer, Check, Decode, Encode, Format, Journal, Migrate}

abbrev pub bytes_of : List (String Global) → List (List ℕ)
bytes_of = map string_bytes

-- in front of two files: `check CONFIG OUT`, `format OUTBOX INBOX` and `migrate OLD NEW`
abbrev pub before_two : List ℕ → Option Command
before_two command = if bytes_eq command (codes "check") then Some Check else if bytes_eq command (codes "format") then Some Format
    else if bytes_eq command (codes "migrate") then Some Migrate else None

-- of three: `decode CONFIG INPUT OUT`, `encode CONFIG INPUT WIRE` and `journal OUTBOX INBOX OUT`
abbrev pub before_three : List ℕ → Option Command
before_three command = if bytes_eq command (codes "decode") then Some (Decode Numbers) else if bytes_eq command (codes "encode") then Some Encode
    else if bytes_eq command (codes "journal") then Some Journal else None

-- of four, or of a word and three: `answer CONFIG INPUT WIRE OUT` and `decode --names CONFIG INPUT OUT`
abbrev pub before_four : List ℕ → List ℕ → Option Command
before_four command first = if bytes_eq command (codes "answer") then Some Answer
    else if bytes_eq command (codes "decode") && bytes_eq first (codes "--names") then Some (Decode Names) else None

abbrev pub command_of : List (List ℕ) → Option Command
command_of (command ∷ first ∷ second ∷ third ∷ fourth ∷ []) = before_four command first
command_of (command ∷ first ∷ second ∷ third ∷ []) = before_three command
command_of (command ∷ first ∷ second ∷ []) = before_two command
command_of _ = None
