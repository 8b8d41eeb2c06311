-- What a door of a life lets in (this project's profile).
use Rattle.std.specs.Prelude.{Bool}
use Rattle.conn_door.specs.declared.entrance.Entrance.{Entrance}

-- an entrance lets all messages in at once
abbrev pub is_open : {W : Type 0} → Entrance W → Bool
is_open e = e.signals.now
