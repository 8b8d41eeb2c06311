-- The verdicts, tried on bytes: the session of the worked frames, with credentials of three bytes.
use Rattle.std.specs.Prelude.{◌≡◌, ℕ, ◌+◌, List, [], ◌∷◌, ◌++◌, map, length, take, replicate}
use Rattle.fixp_msgs.specs.Message.{negotiation_reject, establishment_reject}
use Rattle.conn_keys.specs.declared.keys.Keys.{Keys}
use Rattle.conn_keys.specs.Verdicts.{Verdict, waits, serves, rejects, closes, verdict_of}

-- the identifier 00112233-4455-6677-8899-AABBCCDDEEFF, and another
abbrev pub id : List ℕ
id = 0 ∷ 17 ∷ 34 ∷ 51 ∷ 68 ∷ 85 ∷ 102 ∷ 119 ∷ 136 ∷ 153 ∷ 170 ∷ 187 ∷ 204 ∷ 221 ∷ 238 ∷ 255 ∷ []

abbrev pub other : List ℕ
other = replicate 16 1

abbrev pub keys : Keys
keys = record { session = id; credentials = 7 ∷ 8 ∷ 9 ∷ [] }

-- Negotiate of this session with these credentials, of a flow that is not sequenced, with the timestamp 1
abbrev pub negotiate_of : (session credentials : List ℕ) → List ℕ
negotiate_of session credentials =
    0 ∷ 0 ∷ 0 ∷ (41 + length credentials) ∷ 235 ∷ 80 ∷ 25 ∷ 0 ∷ 1 ∷ 0 ∷ 17 ∷ 240 ∷ 0 ∷ 0
    ∷ (session ++ (1 ∷ 0 ∷ 0 ∷ 0 ∷ 0 ∷ 0 ∷ 0 ∷ 0 ∷ 3 ∷ length credentials ∷ 0 ∷ credentials))

-- Establish with an interval of these two bytes, the low one first, the timestamp 2, and no number
abbrev pub establish_of : (session : List ℕ) → (low high : ℕ) → (credentials : List ℕ) → List ℕ
establish_of session low high credentials =
    0 ∷ 0 ∷ 0 ∷ (52 + length credentials) ∷ 235 ∷ 80 ∷ 36 ∷ 0 ∷ 4 ∷ 0 ∷ 17 ∷ 240 ∷ 0 ∷ 0
    ∷ (session ++ (2 ∷ 0 ∷ 0 ∷ 0 ∷ 0 ∷ 0 ∷ 0 ∷ 0 ∷ low ∷ high ∷ 0 ∷ 0 ∷ (replicate 8 255 ++ (length credentials ∷ 0 ∷ credentials))))

-- a Terminate of the session, an application message, and what a browser sends
abbrev pub terminate : List ℕ
terminate = 0 ∷ 0 ∷ 0 ∷ 33 ∷ 235 ∷ 80 ∷ 17 ∷ 0 ∷ 16 ∷ 0 ∷ 17 ∷ 240 ∷ 0 ∷ 0 ∷ (id ++ (1 ∷ 0 ∷ 0 ∷ []))

abbrev pub order : List ℕ
order = 0 ∷ 0 ∷ 0 ∷ 14 ∷ 235 ∷ 80 ∷ 0 ∷ 0 ∷ 7 ∷ 0 ∷ 100 ∷ 0 ∷ 1 ∷ 0 ∷ []

abbrev pub get : List ℕ
get = 71 ∷ 69 ∷ 84 ∷ 32 ∷ 47 ∷ []

pub record Row : Type 0 where
  pub came : List ℕ
  pub verdict : Verdict

abbrev pub on : List ℕ → Verdict → Row
on came verdict = record { came = came; verdict = verdict }

abbrev pub three : List ℕ
three = 7 ∷ 8 ∷ 9 ∷ []

abbrev pub rows : List Row
rows =
    on [] waits
    ∷ on (take 43 (negotiate_of id three)) waits
    ∷ on (negotiate_of id three) serves
    ∷ on (negotiate_of id three ++ get) serves
    ∷ on (negotiate_of other three) (rejects (negotiation_reject other 1 1 [] ∷ []))
    ∷ on (negotiate_of id (7 ∷ 8 ∷ [])) (rejects (negotiation_reject id 1 2 [] ∷ []))
    ∷ on (negotiate_of id (7 ∷ 8 ∷ 9 ∷ 0 ∷ [])) (rejects (negotiation_reject id 1 2 [] ∷ []))
    ∷ on (negotiate_of id (7 ∷ 8 ∷ 8 ∷ [])) (rejects (negotiation_reject id 1 2 [] ∷ []))
    ∷ on (take 54 (establish_of id 232 3 three)) waits
    ∷ on (establish_of id 232 3 three) serves
    ∷ on (establish_of id 0 0 three) serves
    ∷ on (establish_of other 232 3 three) (rejects (establishment_reject other 2 2 [] ∷ []))
    ∷ on (establish_of id 99 0 []) (rejects (establishment_reject id 2 5 [] ∷ []))
    ∷ on (establish_of id 97 234 []) (rejects (establishment_reject id 2 5 [] ∷ []))
    ∷ on (establish_of id 96 234 []) (rejects (establishment_reject id 2 6 [] ∷ []))
    ∷ on (establish_of id 100 0 (9 ∷ 8 ∷ 7 ∷ [])) (rejects (establishment_reject id 2 6 [] ∷ []))
    ∷ on terminate closes
    ∷ on order closes
    ∷ on (take 3 get) waits
    ∷ on get closes
    ∷ on (0 ∷ 0 ∷ 16 ∷ 0 ∷ []) waits
    ∷ on (0 ∷ 0 ∷ 16 ∷ 1 ∷ []) closes
    ∷ on (0 ∷ 0 ∷ 0 ∷ 14 ∷ 1 ∷ []) waits
    ∷ on (0 ∷ 0 ∷ 0 ∷ 14 ∷ 1 ∷ 2 ∷ []) closes
    ∷ []

-- each has its verdict
abbrev pub VerdictsSample : Type 0
VerdictsSample = map (λ (r : Row). verdict_of keys r.came) rows ≡ map (λ (r : Row). r.verdict) rows
