-- The numbers of flows and codes in words: the names that FIXP 1.1 has for them; which number has which name is this project's profile. A
-- number without a name has none.
use Rattle.std.specs.Prelude.{ℕ, ◌==◌, if◌then◌else◌, List, [], codes}

unfoldable pub flow_name : ℕ → List ℕ
flow_name n =
    if n == 1 then codes "Recoverable"
    else if n == 2 then codes "Idempotent"
    else if n == 3 then codes "Unsequenced"
    else if n == 4 then codes "None"
    else []

unfoldable pub negotiation_reject_name : ℕ → List ℕ
negotiation_reject_name n =
    if n == 1 then codes "Unspecified"
    else if n == 2 then codes "Credentials"
    else if n == 3 then codes "FlowTypeNotSupported"
    else if n == 4 then codes "DuplicateId"
    else []

unfoldable pub establishment_reject_name : ℕ → List ℕ
establishment_reject_name n =
    if n == 1 then codes "Unspecified"
    else if n == 2 then codes "Unnegotiated"
    else if n == 3 then codes "AlreadyEstablished"
    else if n == 4 then codes "SessionBlocked"
    else if n == 5 then codes "KeepaliveInterval"
    else if n == 6 then codes "Credentials"
    else []

unfoldable pub retransmit_reject_name : ℕ → List ℕ
retransmit_reject_name n =
    if n == 1 then codes "OutOfRange"
    else if n == 2 then codes "InvalidSession"
    else if n == 3 then codes "RequestLimitExceeded"
    else []

unfoldable pub terminate_name : ℕ → List ℕ
terminate_name n =
    if n == 1 then codes "Finished"
    else if n == 2 then codes "UnspecifiedError"
    else if n == 3 then codes "ReRequestOutOfBounds"
    else if n == 4 then codes "ReRequestInProgress"
    else []
