-- The number that an end expects of its peer's flow, told in the handshake from version 1 of the session schema on, and what the
-- peer makes of it: it starts there (this project's profile).
use Rattle.std.specs.Prelude.{◌≡◌, ℕ, ◌+◌, ◌-◌, ◌==◌, ◌&&◌, Bool, true, false, not, nat_le, if◌then◌else◌, List, [], ◌∷◌}
use Rattle.fixp_msgs.specs.declared.messages.Expected.{Expected}
use Rattle.fixp_msgs.specs.declared.messages.Expected.TheVariants.{Absent, Null, Number}
use Rattle.fixp_msgs.specs.Message.{Message, sequence}
use Rattle.fixp_shake.specs.declared.config.EndConfig.{EndConfig}
use Rattle.fixp_shake.specs.Flows.{is_recoverable}
use Rattle.fixp_replies.specs.declared.facts.Facts.{Facts}
use Rattle.fixp_replies.specs.Facts.{Around}

-- an end of version 1
abbrev pub is_newer : EndConfig → Bool
is_newer cfg = nat_le 1 cfg.version

-- the message has a word on it
abbrev pub is_present : Expected → Bool
is_present Absent = false
is_present Null = true
is_present (Number n) = true

-- the number told, where one is
abbrev pub number_in : Expected → ℕ
number_in Absent = 0
number_in Null = 0
number_in (Number n) = n

-- what an end tells of the number that it expects: the inbox's next, and null where the peer's flow is not sent again
abbrev pub told_next : Around → Facts → Expected
told_next x f =
    if not (is_newer x.config) then Absent
    else if is_recoverable x.config.peer_flow then Number f.recorded.inbox_next
    else Null

-- the answer to what was told: nothing, where nothing was
abbrev pub answers_next : Around → Expected → Facts → Expected
answers_next x e f = if is_present e then told_next x f else Absent

-- an end takes a number from 1 to one past what was sent, where its own flow is recoverable, and ignores any other
abbrev pub takes : Around → Facts → Expected → Bool
takes x f Absent = false
takes x f Null = false
takes x f (Number n) = is_newer x.config && is_recoverable x.config.own_flow && nat_le 1 n && nat_le n (f.recorded.sent + 1)

-- what was sent ends before the number that was taken
abbrev pub returned : Around → Facts → Expected → Facts
returned x f e = if takes x f e then record f { recorded = record f.recorded { sent = number_in e - 1 } } else f

-- an initiator tells that it starts there, where this is not the number that it announced
abbrev pub told_return : Around → Facts → Expected → List Message
told_return x f e = if takes x f e && not (number_in e == f.recorded.sent + 1) then sequence (number_in e) ∷ [] else []

-- an acceptor is soft from an Establish on that told a number or null, on a recoverable flow: until its peer announces a number or
-- sends a message, it asks for nothing, and the announcement may go back as far as the inbox's next
abbrev pub softens : Around → Expected → Bool
softens x e = is_newer x.config && is_present e && is_recoverable x.config.peer_flow

abbrev pub softened : Around → Expected → Facts → Facts
softened x e f = record f { connection = record f.connection { soft = softens x e } }
