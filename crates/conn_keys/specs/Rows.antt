-- The rejects, row by row, as this project's profile lists them (FIXP 1.1, NegotiationReject and EstablishmentReject).
use Rattle.std.specs.Prelude.{◌≡◌, ℕ, false, true, List, [], ◌∷◌, Option}
use Rattle.std.specs.Str.{bytes_eq}
use Rattle.fixp_msgs.specs.declared.messages.Expected.{Expected}
use Rattle.fixp_msgs.specs.Message.{negotiate, negotiation_reject, establish, establishment_reject}
use Rattle.fixp_shake.specs.Handshake.{is_odd_interval}
use Rattle.conn_keys.specs.declared.keys.Keys.{Keys}
use Rattle.conn_keys.specs.Verdicts.{are_given, verdict_on, serves, rejects}

-- a Negotiate: 1 for another session, else 2 for other credentials, else it is the session's
pub record NegotiateRows (k : Keys) (id : List ℕ) (timestamp flow : ℕ) (credentials : List ℕ) : Type 0 where
  pub other_session : bytes_eq id k.session ≡ false
      → verdict_on k (negotiate id timestamp flow credentials) ≡ rejects (negotiation_reject id timestamp 1 [] ∷ [])
  pub other_credentials : bytes_eq id k.session ≡ true → bytes_eq credentials k.credentials ≡ false
      → verdict_on k (negotiate id timestamp flow credentials) ≡ rejects (negotiation_reject id timestamp 2 [] ∷ [])
  pub keys : are_given k id credentials ≡ true → verdict_on k (negotiate id timestamp flow credentials) ≡ serves

-- an Establish: 2 for another session, else 5 for other credentials with an interval that nobody may have, else 6 for other credentials, else it is the
-- session's
pub record EstablishRows (k : Keys) (id : List ℕ) (timestamp keepalive : ℕ) (next : Option ℕ) (expected : Expected) (credentials : List ℕ) : Type 0 where
  pub other_session : bytes_eq id k.session ≡ false
      → verdict_on k (establish id timestamp keepalive next expected credentials) ≡ rejects (establishment_reject id timestamp 2 [] ∷ [])
  pub odd_interval : bytes_eq id k.session ≡ true → bytes_eq credentials k.credentials ≡ false → is_odd_interval keepalive ≡ true
      → verdict_on k (establish id timestamp keepalive next expected credentials) ≡ rejects (establishment_reject id timestamp 5 [] ∷ [])
  pub other_credentials : bytes_eq id k.session ≡ true → bytes_eq credentials k.credentials ≡ false → is_odd_interval keepalive ≡ false
      → verdict_on k (establish id timestamp keepalive next expected credentials) ≡ rejects (establishment_reject id timestamp 6 [] ∷ [])
  pub keys : are_given k id credentials ≡ true → verdict_on k (establish id timestamp keepalive next expected credentials) ≡ serves

abbrev pub TheRows : Type 0
TheRows = (k : Keys) (id : List ℕ) (timestamp flow keepalive : ℕ) (next : Option ℕ) (expected : Expected) (credentials : List ℕ)
    → NegotiateRows k id timestamp flow credentials × EstablishRows k id timestamp keepalive next expected credentials
