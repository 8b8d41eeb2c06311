-- A verdict stands, and who waits has given little.
use Rattle.std.proofs.Common.{◌≡◌, ◌≢◌, ℕ, ◌+◌, ◌<◌, ◌≤◌, ◌⊎◌, inl, inr, nat_le, nat_lt, ◌&&◌, Bool, true, false, if◌then◌else◌, List, [], ◌∷◌, ◌++◌, length, take, drop, Option, Some, None, refl, sym, ap, subst, ◌∙◌, arith}
use Rattle.std.specs.Int.{w32, from_be_bytes}
use Rattle.std.proofs.lemmas.Bool.Decides.{nat_tests}
use Rattle.std.proofs.lemmas.List.{length-append, take-append-le}
use Rattle.sofh_frame.specs.Framing.{First, frame, rest, bad_length, bad_encoding, first_of, length_in, IsRest, IsBadLength, IsBadEncoding}
use Rattle.sofh_frame.proofs.FramingLemmas.{FrameParts, parts-frame, frame-append, bad_length-append, bad_encoding-append}
use Rattle.fixp_msgs.specs.Message.{Message, negotiate, negotiation_response, negotiation_reject, establish, establishment_ack, establishment_reject, sequence, unsequenced_heartbeat, retransmit_request, retransmission, retransmit_reject, applied, not_applied, finished_sending, finished_receiving, terminate}
use Rattle.fixp_msgs.specs.Header.{kind_of}
use Rattle.conn_keys.specs.declared.keys.Keys.{Keys}
use Rattle.conn_keys.specs.Laws.{FewWait, VerdictsStand}
use Rattle.conn_keys.specs.Verdicts.{Verdict, waits, serves, rejects, closes, looked_at, are_given, table_writes, verdict_on, verdict_if, message_of_kind, verdict_at, verdict_of, is_too_long}

-- a whole frame makes nobody wait
asked : (b : Bool) (ms : List Message) → (if b then serves else rejects ms) ≢ waits
asked true ms e = absurd (cc e)
asked false ms e = absurd (cc e)

decided : (k : Keys) (o : Option Message) → verdict_if k o ≢ waits
decided k None e = absurd (cc e)
decided k (Some (negotiate id timestamp flow credentials)) e = asked (are_given k id credentials) (table_writes k (negotiate id timestamp flow credentials)) e
decided k (Some (negotiation_response _ _ _ _)) e = absurd (cc e)
decided k (Some (negotiation_reject _ _ _ _)) e = absurd (cc e)
decided k (Some (establish id timestamp keepalive next expected credentials)) e = asked (are_given k id credentials) (table_writes k (establish id timestamp keepalive next expected credentials)) e
decided k (Some (establishment_ack _ _ _ _ _)) e = absurd (cc e)
decided k (Some (establishment_reject _ _ _ _)) e = absurd (cc e)
decided k (Some (sequence _)) e = absurd (cc e)
decided k (Some unsequenced_heartbeat) e = absurd (cc e)
decided k (Some (retransmit_request _ _ _ _)) e = absurd (cc e)
decided k (Some (retransmission _ _ _ _)) e = absurd (cc e)
decided k (Some (retransmit_reject _ _ _ _)) e = absurd (cc e)
decided k (Some (applied _ _)) e = absurd (cc e)
decided k (Some (not_applied _ _)) e = absurd (cc e)
decided k (Some (finished_sending _ _)) e = absurd (cc e)
decided k (Some (finished_receiving _)) e = absurd (cc e)
decided k (Some (terminate _ _ _)) e = absurd (cc e)

few_of_rest : (bytes : List ℕ) → first_of bytes ≡ rest → is_too_long bytes ≡ false → length bytes < looked_at
few_of_rest bytes is short = grind (arith, nat_tests)

pub few_wait : FewWait
unfolding verdict_of
few_wait k bytes e = by_test (is_too_long bytes) refl e
  where
    by_first : (f : First) → first_of bytes ≡ f → is_too_long bytes ≡ false → verdict_at k f ≡ waits → length bytes < looked_at
    by_first (frame order message size) is short w = absurd (decided k (message_of_kind (kind_of order message) message) w)
    by_first rest is short w = few_of_rest bytes is short
    by_first (bad_length n) is short w = absurd (cc w)
    by_first (bad_encoding encoding) is short w = absurd (cc w)

    by_test : (b : Bool) → is_too_long bytes ≡ b → (if b then closes else verdict_at k (first_of bytes)) ≡ waits → length bytes < looked_at
    by_test true long w = absurd (cc w)
    by_test false short w = by_first (first_of bytes) refl short w

length_more : (bytes more : List ℕ) → 4 ≤ length bytes → length_in (bytes ++ more) ≡ length_in bytes
unfolding length_in
length_more bytes more there = ap (from_be_bytes w32) (take-append-le 4 bytes more there)

-- the length is judged alike, once it is there
long_more : (bytes more : List ℕ) → 4 ≤ length bytes → is_too_long (bytes ++ more) ≡ is_too_long bytes
long_more bytes more there =
    let longer : length (bytes ++ more) ≡ length bytes + length more = length-append bytes more in
    let same : length_in (bytes ++ more) ≡ length_in bytes = length_more bytes more there in
    let now : nat_le 4 (length bytes) ≡ true = grind (arith, nat_tests) in
    let then_too : nat_le 4 (length (bytes ++ more)) ≡ true = grind (arith, nat_tests) in
    ap (λ (b : Bool). b && nat_lt looked_at (length_in (bytes ++ more))) then_too
    ∙ (ap (λ (n : ℕ). nat_lt looked_at n) same ∙ sym (ap (λ (b : Bool). b && nat_lt looked_at (length_in bytes)) now))

too_long_there : (bytes : List ℕ) → is_too_long bytes ≡ true → 4 ≤ length bytes
too_long_there bytes long = grind (arith, nat_tests)

bad_length_there : (bytes : List ℕ) (n : ℕ) → first_of bytes ≡ bad_length n → 4 ≤ length bytes
bad_length_there bytes n e = let bad : IsBadLength bytes n = grind (arith, nat_tests) in bad.there

bad_encoding_there : (bytes : List ℕ) (encoding : ℕ) → first_of bytes ≡ bad_encoding encoding → 4 ≤ length bytes
bad_encoding_there bytes encoding e = let bad : IsBadEncoding bytes encoding = grind (arith, nat_tests) in omega (arith, bad.there)

-- where the length and the first frame are the same, so is the verdict
same_verdict : (k : Keys) (bytes more : List ℕ) → 4 ≤ length bytes → first_of (bytes ++ more) ≡ first_of bytes → verdict_of k (bytes ++ more) ≡ verdict_of k bytes
unfolding verdict_of
same_verdict k bytes more there first =
    ap (λ (b : Bool). if b then closes else verdict_at k (first_of (bytes ++ more))) (long_more bytes more there)
    ∙ ap (λ (f : First). if is_too_long bytes then closes else verdict_at k f) first

long_verdict : (k : Keys) (bytes : List ℕ) → is_too_long bytes ≡ true → verdict_of k bytes ≡ closes
unfolding verdict_of
long_verdict k bytes long = ap (λ (b : Bool). if b then closes else verdict_at k (first_of bytes)) long

-- a frame that is not too long has the verdict of what stands at the front
pub short_verdict : (k : Keys) (bytes : List ℕ) (f : First) → is_too_long bytes ≡ false → first_of bytes ≡ f → verdict_of k bytes ≡ verdict_at k f
unfolding verdict_of
short_verdict k bytes f short is = ap (λ (b : Bool). if b then closes else verdict_at k (first_of bytes)) short ∙ ap (verdict_at k) is

rest_verdict : (k : Keys) (bytes : List ℕ) → is_too_long bytes ≡ false → first_of bytes ≡ rest → verdict_of k bytes ≡ waits
unfolding verdict_of
rest_verdict k bytes short is =
    ap (λ (b : Bool). if b then closes else verdict_at k (first_of bytes)) short ∙ ap (verdict_at k) is

pub verdicts_stand : VerdictsStand
verdicts_stand k bytes more decides = by_test (is_too_long bytes) refl
  where
    by_first : (f : First) → first_of bytes ≡ f → is_too_long bytes ≡ false → verdict_of k (bytes ++ more) ≡ verdict_of k bytes
    by_first (frame order message size) is short =
        let parts = parts-frame bytes order message size is in
        same_verdict k bytes more (omega (arith, parts.header)) (frame-append bytes more order message size is ∙ sym is)
    by_first rest is short = absurd (decides (rest_verdict k bytes short is))
    by_first (bad_length n) is short = same_verdict k bytes more (bad_length_there bytes n is) (bad_length-append bytes more n is ∙ sym is)
    by_first (bad_encoding encoding) is short = same_verdict k bytes more (bad_encoding_there bytes encoding is) (bad_encoding-append bytes more encoding is ∙ sym is)

    by_test : (b : Bool) → is_too_long bytes ≡ b → verdict_of k (bytes ++ more) ≡ verdict_of k bytes
    by_test true long =
        let there : 4 ≤ length bytes = too_long_there bytes long in
        long_verdict k (bytes ++ more) (long_more bytes more there ∙ long) ∙ sym (long_verdict k bytes long)
    by_test false short = by_first (first_of bytes) refl short
