-- What an echo does to the links and the dialer that it runs over (this project's profile).
use Rattle.std.specs.Prelude.{◌≡◌, ℕ, ◌+◌, List, ◌++◌, length, take, Option, None, Some, ⊤}
use Rattle.std.specs.List.{All}
use Rattle.gw_links.specs.Links.{Carried, LinkTold, Moved}
use Rattle.gw_links.specs.Dialers.{DialerTold}

-- A link took the front of what it gave.
pub record EchoedFront (told told' : Option LinkTold) (carried carried' : Option Carried) : Type 0 where
  pub given : List ℕ
  pub taken : List ℕ
  pub front : taken ≡ take (length taken) given
  pub moved : Moved told told' carried carried' given taken

-- A link took all of what it gave.
pub record EchoedWhole (told told' : Option LinkTold) (carried carried' : Option Carried) : Type 0 where
  pub bytes : List ℕ
  pub moved : Moved told told' carried carried' bytes bytes

-- a connection took the front of what it gave
abbrev pub IsEcho : Option Carried → Type 0
IsEcho None = ⊥
IsEcho (Some c) = c.taken ≡ take (length c.taken) c.given

-- So many connections ended, and each was an echo.
pub record AllEchoed (old new : DialerTold) : Type 0 where
  pub more : List (Option Carried)
  pub back : new.back ≡ old.back ++ more
  pub echoes : All IsEcho more
  pub left : old.left ≡ new.left + length more

-- the same of a dialer that may tell nothing
abbrev pub EchoedAll : Option DialerTold → Option DialerTold → Type 0
EchoedAll None None = ⊤
EchoedAll None (Some new) = ⊥
EchoedAll (Some old) None = ⊥
EchoedAll (Some old) (Some new) = AllEchoed old new
