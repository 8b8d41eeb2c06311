-- A record's bytes tell the record and where they end.
use Rattle.std.proofs.Common.{◌≡◌, ℕ, ◌+◌, ◌≤◌, ◌<◌, ◌^◌, List, [], ◌∷◌, ◌++◌, length, refl, sym, ap, ◌∙◌, arith, append_assoc, length-append}
use Rattle.std.proofs.lemmas.Nat.{from_le_bytes-to_le_bytes_2, from_le_bytes-to_le_bytes_4, from_le_bytes-to_le_bytes_8}
use Rattle.std.specs.Int.{w16, w32, w64, from_le_bytes, to_le_bytes}
use Rattle.jr_record.specs.declared.record.Record.{Record}
use Rattle.jr_record.specs.declared.record.Record.TheVariants.{Entry, Apply, Skip, Negotiated, PeerFinished, Finish}
use Rattle.jr_record.specs.Records.{IsRecord, kind_of, body_of, spelled}

-- bytes of one length at the front of the same bytes
pub same_front : (a b x y : List ℕ) → length a ≡ length b → a ++ x ≡ b ++ y → (a ≡ b) × (x ≡ y)
same_front [] [] x y n e = (refl, e)
same_front [] (c ∷ b) x y n e = absurd (omega arith)
same_front (c ∷ a) [] x y n e = absurd (omega arith)
same_front (c ∷ a) (d ∷ b) x y n e =
    let head : c ≡ d = cc in
    let tail : a ++ x ≡ b ++ y = cc in
    let both = same_front a b x y (omega arith) tail in (cc (head, both.0), both.1)

-- numbers whose bytes are the same
pub same_2 : (m n : ℕ) → m < 2 ^ 16 → n < 2 ^ 16 → to_le_bytes w16 m ≡ to_le_bytes w16 n → m ≡ n
same_2 m n small_m small_n e = sym (from_le_bytes-to_le_bytes_2 m small_m) ∙ ap (from_le_bytes w16) e ∙ from_le_bytes-to_le_bytes_2 n small_n

pub same_4 : (m n : ℕ) → m < 2 ^ 32 → n < 2 ^ 32 → to_le_bytes w32 m ≡ to_le_bytes w32 n → m ≡ n
same_4 m n small_m small_n e = sym (from_le_bytes-to_le_bytes_4 m small_m) ∙ ap (from_le_bytes w32) e ∙ from_le_bytes-to_le_bytes_4 n small_n

pub same_8 : (m n : ℕ) → m < 2 ^ 64 → n < 2 ^ 64 → to_le_bytes w64 m ≡ to_le_bytes w64 n → m ≡ n
same_8 m n small_m small_n e = sym (from_le_bytes-to_le_bytes_8 m small_m) ∙ ap (from_le_bytes w64) e ∙ from_le_bytes-to_le_bytes_8 n small_n

-- a body is short
pub body_within : (r : Record) → IsRecord r → length (body_of r) ≤ 16396
body_within (Entry sender k payload) legal =
    omega (arith, length-append (to_le_bytes w16 sender) (to_le_bytes w64 k ++ payload), length-append (to_le_bytes w64 k) payload, legal.2.1)
body_within (Apply number payload) legal = omega (arith, length-append (to_le_bytes w64 number) payload, legal.1.1)
body_within (Skip from count) legal = omega arith
body_within Negotiated legal = omega arith
body_within (PeerFinished last) legal = omega arith
body_within Finish legal = omega arith

-- a record's body has one record of its kind
same_body : (r s : Record) → IsRecord r → IsRecord s → kind_of r ≡ kind_of s → body_of r ≡ body_of s → r ≡ s
same_body (Entry sender k payload) (Entry sender' k' payload') legal legal' _ e =
    let first = same_front (to_le_bytes w16 sender) (to_le_bytes w16 sender') (to_le_bytes w64 k ++ payload) (to_le_bytes w64 k' ++ payload') refl e in
    let rest = same_front (to_le_bytes w64 k) (to_le_bytes w64 k') payload payload' refl first.1 in
    let senders : sender ≡ sender' = same_2 sender sender' (omega (arith, legal.0.1)) (omega (arith, legal'.0.1)) first.0 in
    let numbers : k ≡ k' = same_8 k k' legal.1.1 legal'.1.1 rest.0 in
    cc (senders, numbers, rest.1)
same_body (Apply number payload) (Apply number' payload') legal legal' _ e =
    let both = same_front (to_le_bytes w64 number) (to_le_bytes w64 number') payload payload' refl e in
    let numbers : number ≡ number' = same_8 number number' legal.0.1 legal'.0.1 both.0 in
    cc (numbers, both.1)
same_body (Skip from count) (Skip from' count') legal legal' _ e =
    let both = same_front (to_le_bytes w64 from) (to_le_bytes w64 from') (to_le_bytes w64 count) (to_le_bytes w64 count') refl e in
    let froms : from ≡ from' = same_8 from from' legal.0.1 legal'.0.1 both.0 in
    let counts : count ≡ count' = same_8 count count' legal.1.1 legal'.1.1 both.1 in
    cc (froms, counts)
same_body Negotiated Negotiated legal legal' _ e = refl
same_body (PeerFinished last) (PeerFinished last') legal legal' _ e =
    let numbers : last ≡ last' = same_8 last last' legal legal' e in ap PeerFinished numbers
same_body Finish Finish legal legal' _ e = refl
same_body r s legal legal' kinds e = absurd (omega arith)

-- what stands in front of a record's body
pub record Front (r : Record) (kind : ℕ) (size behind : List ℕ) (after : List ℕ) : Type 0 where
  pub kinds : kind_of r ≡ kind
  pub sizes : to_le_bytes w32 (length (body_of r)) ≡ size
  pub bodies : body_of r ++ after ≡ behind

pub front : (r : Record) (after : List ℕ) (kind : ℕ) (size behind : List ℕ) → length size ≡ 4 → spelled r ++ after ≡ kind ∷ size ++ behind → Front r kind size behind after
unfolding spelled
front r after kind size behind four e =
    let head : kind_of r ≡ kind = cc in
    let tail : (to_le_bytes w32 (length (body_of r)) ++ body_of r) ++ after ≡ size ++ behind = cc in
    let four' : 4 ≡ length size = sym four in
    let both = same_front (to_le_bytes w32 (length (body_of r))) size (body_of r ++ after) behind four' (sym (append_assoc (to_le_bytes w32 (length (body_of r))) (body_of r) after) ∙ tail) in
    record { kinds = head; sizes = both.0; bodies = both.1 }

-- at most one record at the front of given bytes
pub one : (r s : Record) (behind_r behind_s : List ℕ) → IsRecord r → IsRecord s → spelled r ++ behind_r ≡ spelled s ++ behind_s → (r ≡ s) × (behind_r ≡ behind_s)
unfolding spelled
one r s behind_r behind_s legal_r legal_s e =
    let at : spelled r ++ behind_r ≡ kind_of s ∷ to_le_bytes w32 (length (body_of s)) ++ (body_of s ++ behind_s) = e ∙ ap (λ (xs : List ℕ). kind_of s ∷ xs) (append_assoc (to_le_bytes w32 (length (body_of s))) (body_of s) behind_s) in
    let f = front r behind_r (kind_of s) (to_le_bytes w32 (length (body_of s))) (body_of s ++ behind_s) refl at in
    let sizes : length (body_of r) ≡ length (body_of s) = same_4 (length (body_of r)) (length (body_of s)) (omega (arith, body_within r legal_r)) (omega (arith, body_within s legal_s)) f.sizes in
    let both = same_front (body_of r) (body_of s) behind_r behind_s sizes f.bodies in (same_body r s legal_r legal_s f.kinds both.0, both.1)

-- the bytes of a record
pub length-spelled : (r : Record) → length (spelled r) ≡ 5 + length (body_of r)
unfolding spelled
length-spelled r = omega (arith, length-append (to_le_bytes w32 (length (body_of r))) (body_of r))
