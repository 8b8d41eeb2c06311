-- The files of a command line (this project's profile).
use Rattle.std.specs.Prelude.{ℕ, if◌then◌else◌, List, codes}
use Rattle.std.specs.Str.{bytes_eq}

-- the path of a file that is read: `-` is standard input
abbrev pub read_path : List ℕ → List ℕ
read_path path = if bytes_eq path (codes "-") then codes "/dev/stdin" else path
