-- The words of a session (this project's profile): `accept` or `connect`, ADDRESS, N, CONFIG, INPUT, OUTBOX, INBOX and OUT, and behind them ACCEPTED where
-- INPUT is to be read as it comes.
use Rattle.std.specs.Prelude.{◌≡◌, ◌⊎◌, ℕ, if◌then◌else◌, List, [], ◌∷◌, map, Option, Some, None, IfSome, option_to_list, unwrap_or, codes}
use Rattle.std.specs.Str.{bytes_eq}
use Rattle.fixp_shake.specs.declared.config.Role.{Role}
use Rattle.fixp_shake.specs.declared.config.Role.TheVariants.{Initiator, Acceptor}
use Rattle.text_words.specs.Words.{IsPositive}
use Rattle.gw_real.specs.Names.{read_path}

-- the role of an end that a command runs
abbrev pub role_of : List ℕ → Option Role
role_of command = if bytes_eq command (codes "accept") then Some Acceptor else if bytes_eq command (codes "connect") then Some Initiator else None

-- a file of the command line: what it is to the command, and its path
pub record File : Type 0 where
  pub role : List ℕ
  pub path : List ℕ

abbrev pub path_of : File → List ℕ
path_of file = file.path

-- what the words of a session say: its end's role, ADDRESS, N, and the files
pub record SessionWords : Type 0 where
  pub role : Role
  pub address : List ℕ
  pub most : ℕ
  pub config : File
  pub input : File
  pub outbox : File
  pub inbox : File
  pub out : File
  pub accepted : Option File

-- each file has its name
pub record AreNamed (s : SessionWords) : Type 0 where
  pub config : s.config.role ≡ codes "CONFIG"
  pub input : s.input.role ≡ codes "INPUT"
  pub outbox : s.outbox.role ≡ codes "OUTBOX"
  pub inbox : s.inbox.role ≡ codes "INBOX"
  pub out : s.out.role ≡ codes "OUT"
  pub accepted : IfSome s.accepted (λ file. file.role ≡ codes "ACCEPTED")

-- two files that would both be standard input, or both standard output
abbrev pub AreBothStandard : (first second : File) → Type 0
AreBothStandard first second = (first.path ≡ codes "-") × (second.path ≡ codes "-")

-- These words are a session's, and say this. Standard output can stand for one of OUT and ACCEPTED
pub record IsSession (words : List (List ℕ)) (s : SessionWords) : Type 0 where
  pub command : List ℕ
  pub number : List ℕ
  pub words_are : words ≡ command ∷ s.address ∷ number ∷ s.config.path ∷ s.input.path ∷ s.outbox.path ∷ s.inbox.path ∷ s.out.path ∷ map path_of (option_to_list s.accepted)
  pub role : role_of command ≡ Some s.role
  pub most : IsPositive number s.most
  pub named : AreNamed s
  pub apart : IfSome s.accepted (λ file. AreBothStandard s.out file → ⊥)

-- words say one session at most
abbrev pub OneSession : Type 0
OneSession = (words : List (List ℕ)) (s t : SessionWords) → IsSession words s → IsSession words t → s ≡ t

-- standard output, as a file that an output must not be
abbrev pub standard_output : File
standard_output = record { role = codes "standard output"; path = codes "/dev/stdout" }

-- a file that is read: `-` is standard input
abbrev pub as_read : File → File
as_read file = record file { path = read_path file.path }

-- the files that OUT and ACCEPTED must not be the same as, each but itself
abbrev pub others_of : SessionWords → List File
others_of s = s.config ∷ as_read s.input ∷ s.out ∷ unwrap_or s.accepted s.out ∷ s.outbox ∷ s.inbox ∷ standard_output ∷ []

-- and those that a journal must not be
abbrev pub journals_of : SessionWords → List File
journals_of s = s.outbox ∷ s.inbox ∷ standard_output ∷ []

-- in front of whatever words of a session, these two say what it is no session of: the command runs none, or N is no number from 1 to 65,535
abbrev pub Cannot : (command number : List ℕ) → Type 0
Cannot command number = (role_of command ≡ None) ⊎ ((n : ℕ) → IsPositive number n → ⊥)

-- a session that says the same, and also where ACCEPTED is
pub record Tells (before : SessionWords) (path : List ℕ) (after : SessionWords) : Type 0 where
  pub accepted : after ≡ record before { accepted = Some (record { role = codes "ACCEPTED"; path = path }) }
  pub apart : AreBothStandard before.out (record { role = codes "ACCEPTED"; path = path }) → ⊥
