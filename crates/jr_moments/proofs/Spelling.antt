-- A dated record's bytes tell the record, its moment, and where they end.
use Rattle.std.proofs.Common.{◌≡◌, ℕ, ◌+◌, ◌≤◌, ◌<◌, ◌^◌, List, [], ◌∷◌, ◌++◌, length, refl, sym, ap, ◌∙◌, arith, append_assoc, length-append}
use Rattle.std.proofs.lemmas.Nat.{from_le_bytes-to_le_bytes_2, from_le_bytes-to_le_bytes_4, from_le_bytes-to_le_bytes_8}
use Rattle.std.specs.Int.{w16, w32, w64, from_le_bytes, to_le_bytes}
use Rattle.jr_record.specs.declared.record.Record.{Record}
use Rattle.jr_record.specs.declared.record.Record.TheVariants.{Entry, Apply, Skip, Negotiated, PeerFinished, Finish}
use Rattle.jr_record.specs.Records.{IsRecord, kind_of, body_of, spelled as plain}
use Rattle.jr_moments.specs.Dated.{Dated, IsDated, stamped, spelled}

-- bytes of one length at the front of the same bytes
pub same_front : (a b x y : List ℕ) → length a ≡ length b → a ++ x ≡ b ++ y → (a ≡ b) × (x ≡ y)
same_front [] [] x y n e = (refl, e)
same_front [] (c ∷ b) x y n e = absurd (omega arith)
same_front (c ∷ a) [] x y n e = absurd (omega arith)
same_front (c ∷ a) (d ∷ b) x y n e =
    let head : c ≡ d = cc in
    let tail : a ++ x ≡ b ++ y = cc in
    let both = same_front a b x y (omega arith) tail in (cc (head, both.0), both.1)

-- numbers whose bytes are the same
same_2 : (m n : ℕ) → m < 2 ^ 16 → n < 2 ^ 16 → to_le_bytes w16 m ≡ to_le_bytes w16 n → m ≡ n
same_2 m n small_m small_n e = sym (from_le_bytes-to_le_bytes_2 m small_m) ∙ ap (from_le_bytes w16) e ∙ from_le_bytes-to_le_bytes_2 n small_n

pub same_4 : (m n : ℕ) → m < 2 ^ 32 → n < 2 ^ 32 → to_le_bytes w32 m ≡ to_le_bytes w32 n → m ≡ n
same_4 m n small_m small_n e = sym (from_le_bytes-to_le_bytes_4 m small_m) ∙ ap (from_le_bytes w32) e ∙ from_le_bytes-to_le_bytes_4 n small_n

pub same_8 : (m n : ℕ) → m < 2 ^ 64 → n < 2 ^ 64 → to_le_bytes w64 m ≡ to_le_bytes w64 n → m ≡ n
same_8 m n small_m small_n e = sym (from_le_bytes-to_le_bytes_8 m small_m) ∙ ap (from_le_bytes w64) e ∙ from_le_bytes-to_le_bytes_8 n small_n

-- a body is short
pub body_within : (r : Record) → IsRecord r → length (body_of r) ≤ 16396
body_within (Entry sender k payload) legal =
    omega (arith, length-append (to_le_bytes w16 sender) (to_le_bytes w64 k ++ payload), length-append (to_le_bytes w64 k) payload, legal.2.1)
body_within (Apply number payload) legal = omega (arith, length-append (to_le_bytes w64 number) payload, legal.1.1)
body_within (Skip from count) legal = omega arith
body_within Negotiated legal = omega arith
body_within (PeerFinished last) legal = omega arith
body_within Finish legal = omega arith

-- a record's body has one record of its kind
same_body : (r s : Record) → IsRecord r → IsRecord s → kind_of r ≡ kind_of s → body_of r ≡ body_of s → r ≡ s
same_body (Entry sender k payload) (Entry sender' k' payload') legal legal' _ e =
    let first = same_front (to_le_bytes w16 sender) (to_le_bytes w16 sender') (to_le_bytes w64 k ++ payload) (to_le_bytes w64 k' ++ payload') refl e in
    let rest = same_front (to_le_bytes w64 k) (to_le_bytes w64 k') payload payload' refl first.1 in
    let senders : sender ≡ sender' = same_2 sender sender' (omega (arith, legal.0.1)) (omega (arith, legal'.0.1)) first.0 in
    let numbers : k ≡ k' = same_8 k k' legal.1.1 legal'.1.1 rest.0 in
    cc (senders, numbers, rest.1)
same_body (Apply number payload) (Apply number' payload') legal legal' _ e =
    let both = same_front (to_le_bytes w64 number) (to_le_bytes w64 number') payload payload' refl e in
    let numbers : number ≡ number' = same_8 number number' legal.0.1 legal'.0.1 both.0 in
    cc (numbers, both.1)
same_body (Skip from count) (Skip from' count') legal legal' _ e =
    let both = same_front (to_le_bytes w64 from) (to_le_bytes w64 from') (to_le_bytes w64 count) (to_le_bytes w64 count') refl e in
    let froms : from ≡ from' = same_8 from from' legal.0.1 legal'.0.1 both.0 in
    let counts : count ≡ count' = same_8 count count' legal.1.1 legal'.1.1 both.1 in
    cc (froms, counts)
same_body Negotiated Negotiated legal legal' _ e = refl
same_body (PeerFinished last) (PeerFinished last') legal legal' _ e =
    let numbers : last ≡ last' = same_8 last last' legal legal' e in ap PeerFinished numbers
same_body Finish Finish legal legal' _ e = refl
same_body r s legal legal' kinds e = absurd (omega arith)

-- what stands in front of a dated record's body
pub record Front (d : Dated) (kind : ℕ) (time size behind after : List ℕ) : Type 0 where
  pub kinds : kind_of d.what ≡ kind
  pub times : to_le_bytes w64 d.moment ≡ time
  pub sizes : to_le_bytes w32 (length (body_of d.what)) ≡ size
  pub bodies : body_of d.what ++ after ≡ behind

pub front : (d : Dated) (after : List ℕ) (kind : ℕ) (time size behind : List ℕ) → length time ≡ 8 → length size ≡ 4 → spelled d ++ after ≡ kind ∷ (time ++ (size ++ behind))
    → Front d kind time size behind after
unfolding spelled
front d after kind time size behind eight four e =
    let moment = to_le_bytes w64 d.moment in
    let count = to_le_bytes w32 (length (body_of d.what)) in
    let body = body_of d.what in
    let head : kind_of d.what ≡ kind = cc in
    let tail : (moment ++ (count ++ body)) ++ after ≡ time ++ (size ++ behind) = cc in
    let eight' : 8 ≡ length time = sym eight in
    let four' : 4 ≡ length size = sym four in
    let first = same_front moment time ((count ++ body) ++ after) (size ++ behind) eight' (sym (append_assoc moment (count ++ body) after) ∙ tail) in
    let second = same_front count size (body ++ after) behind four' (sym (append_assoc count body after) ∙ first.1) in
    record { kinds = head; times = first.0; sizes = second.0; bodies = second.1 }

-- a dated record's bytes in front of others
pub opened : (d : Dated) (after : List ℕ)
    → spelled d ++ after ≡ kind_of d.what ∷ (to_le_bytes w64 d.moment ++ (to_le_bytes w32 (length (body_of d.what)) ++ (body_of d.what ++ after)))
unfolding spelled
opened d after =
    let moment = to_le_bytes w64 d.moment in
    let count = to_le_bytes w32 (length (body_of d.what)) in
    let body = body_of d.what in
    ap (λ (xs : List ℕ). kind_of d.what ∷ xs) (append_assoc moment (count ++ body) after ∙ ap (λ (xs : List ℕ). moment ++ xs) (append_assoc count body after))

pub same_dated : (d e : Dated) → d.what ≡ e.what → d.moment ≡ e.moment → d ≡ e
same_dated d e records moments =
    ap (λ (r : Record). stamped d.moment r) records ∙ ap (λ (m : ℕ). stamped m e.what) moments

-- at most one dated record at the front of given bytes
pub one : (d e : Dated) (behind_d behind_e : List ℕ) → IsDated d → IsDated e → spelled d ++ behind_d ≡ spelled e ++ behind_e → (d ≡ e) × (behind_d ≡ behind_e)
one d e behind_d behind_e legal_d legal_e is =
    let f = front d behind_d (kind_of e.what) (to_le_bytes w64 e.moment) (to_le_bytes w32 (length (body_of e.what))) (body_of e.what ++ behind_e) refl refl (is ∙ opened e behind_e) in
    let moments : d.moment ≡ e.moment = same_8 d.moment e.moment (omega (arith, legal_d.1)) (omega (arith, legal_e.1)) f.times in
    let sizes : length (body_of d.what) ≡ length (body_of e.what) =
    same_4 (length (body_of d.what)) (length (body_of e.what)) (omega (arith, body_within d.what legal_d.0)) (omega (arith, body_within e.what legal_e.0)) f.sizes in
    let both = same_front (body_of d.what) (body_of e.what) behind_d behind_e sizes f.bodies in
    let records : d.what ≡ e.what = same_body d.what e.what legal_d.0 legal_e.0 f.kinds both.0 in
    (same_dated d e records moments, both.1)

-- the bytes of a record, with its moment and without it
pub length-spelled : (d : Dated) → length (spelled d) ≡ 13 + length (body_of d.what)
unfolding spelled
length-spelled d = omega (arith, length-append (to_le_bytes w64 d.moment) (to_le_bytes w32 (length (body_of d.what)) ++ body_of d.what), length-append (to_le_bytes w32 (length (body_of d.what))) (body_of d.what))

pub length-plain : (r : Record) → length (plain r) ≡ 5 + length (body_of r)
unfolding plain
length-plain r = omega (arith, length-append (to_le_bytes w32 (length (body_of r))) (body_of r))

pub plain_is : (r : Record) → plain r ≡ kind_of r ∷ (to_le_bytes w32 (length (body_of r)) ++ body_of r)
unfolding plain
plain_is r = refl

pub spelled_is : (d : Dated) → spelled d ≡ kind_of d.what ∷ (to_le_bytes w64 d.moment ++ (to_le_bytes w32 (length (body_of d.what)) ++ body_of d.what))
unfolding spelled
spelled_is d = refl

-- a record's bytes, with a moment behind the first of them
pub with_moment : (m : ℕ) (r : Record) (kind : ℕ) (behind : List ℕ) → plain r ≡ kind ∷ behind → kind ∷ (to_le_bytes w64 m ++ behind) ≡ spelled (stamped m r)
with_moment m r kind behind is =
    let open_is : kind_of r ∷ (to_le_bytes w32 (length (body_of r)) ++ body_of r) ≡ kind ∷ behind = sym (plain_is r) ∙ is in
    let head : kind_of r ≡ kind = cc in
    let tail : to_le_bytes w32 (length (body_of r)) ++ body_of r ≡ behind = cc in
    ap (λ (k : ℕ). k ∷ (to_le_bytes w64 m ++ behind)) (sym head)
    ∙ ap (λ (xs : List ℕ). kind_of r ∷ (to_le_bytes w64 m ++ xs)) (sym tail) ∙ sym (spelled_is (stamped m r))

-- and there is a first one
pub some_plain : (r : Record) → plain r ≡ [] → ⊥
some_plain r is = omega (arith, length-plain r, ap length is)
