-- What is applied, missing and next over two parts of an inbox.
use Rattle.std.proofs.Common.{◌≡◌, ℕ, suc, ◌+◌, max, List, [], ◌∷◌, ◌++◌, length, refl, ap, arith}
use Rattle.std.proofs.lemmas.List.{map-append}
use Rattle.std.proofs.lemmas.Grind.{flat_map-append}
use Rattle.session_model.specs.Inbox.{Numbered, Range, InboxRecord, apply, skip, negotiated, peer_finished, applied, skips, settled, numbers_of, payloads_of, numbers_in, next_number, times}
use Rattle.session_model.proofs.Lists.{past_greatest-append, times-append}

pub applied-append : (first second : List InboxRecord) → applied (first ++ second) ≡ applied first ++ applied second
applied-append [] second = refl
applied-append (apply m ∷ first) second = ap (λ ms. m ∷ ms) (applied-append first second)
applied-append (skip _ ∷ first) second = applied-append first second
applied-append (negotiated ∷ first) second = applied-append first second
applied-append (peer_finished _ ∷ first) second = applied-append first second

pub skips-append : (first second : List InboxRecord) → skips (first ++ second) ≡ skips first ++ skips second
skips-append [] second = refl
skips-append (apply _ ∷ first) second = skips-append first second
skips-append (skip r ∷ first) second = ap (λ rs. r ∷ rs) (skips-append first second)
skips-append (negotiated ∷ first) second = skips-append first second
skips-append (peer_finished _ ∷ first) second = skips-append first second

pub numbers_of-append : (first second : List Numbered) → numbers_of (first ++ second) ≡ numbers_of first ++ numbers_of second
numbers_of-append first second = map-append _ first second

pub payloads_of-append : (first second : List Numbered) → payloads_of (first ++ second) ≡ payloads_of first ++ payloads_of second
payloads_of-append first second = map-append _ first second

pub length-payloads_of : (ms : List Numbered) → length (payloads_of ms) ≡ length ms
length-payloads_of [] = refl
length-payloads_of (m ∷ ms) = ap suc (length-payloads_of ms)

pub numbers_in-append : (first second : List Range) → numbers_in (first ++ second) ≡ numbers_in first ++ numbers_in second
numbers_in-append first second = flat_map-append _ first second

pub next_number-append : (first second : List InboxRecord) → next_number (first ++ second) ≡ max (next_number first) (next_number second)
next_number-append first second = simp (applied-append, skips-append, numbers_of-append, numbers_in-append, past_greatest-append) (omega arith)

pub times-settled-append : (n : ℕ) (first second : List InboxRecord) → times n (settled (first ++ second)) ≡ times n (settled first) + times n (settled second)
times-settled-append n first second = simp (applied-append, skips-append, numbers_of-append, numbers_in-append, times-append) (omega arith)
