-- The words that name a connection, by their parts.
use Rattle.std.proofs.Common.{◌≡◌, ℕ, zero, suc, ◌<◌, inr, List, [], ◌∷◌, ◌++◌, sym, ◌∙◌, arith, decimal, codes, subst, append_assoc}
use Rattle.std.specs.Net.Grammar.{IsDotted}
use Rattle.std.specs.declared.net.socket_addr.SocketAddrV4.{SocketAddrV4}
use Rattle.text_words.specs.Words.{IsAddress}
use Rattle.text_words.proofs.Decimals.{HasNone, no_end, same_halves}

none-append : (end : ℕ) (xs ys : List ℕ) → HasNone end xs → HasNone end ys → HasNone end (xs ++ ys)
none-append end [] ys p q k l e = q k l e
none-append end (x ∷ xs) ys p q zero l e = p 0 (omega arith) e
none-append end (x ∷ xs) ys p q (suc k) l e = none-append end xs ys (λ j m. p (suc j) (omega arith)) q k (omega arith) e

no_dot : HasNone 58 (codes ".")
no_dot zero l e = absurd (omega arith)
no_dot (suc k) l e = absurd (omega arith)

no_colon : (n : ℕ) → n < 256 → HasNone 58 (decimal n)
no_colon n small = no_end n 58 (omega arith) (inr (omega arith))

-- the text of an address has no colon
pub no_colon_in : (text octets : List ℕ) → IsDotted text octets → HasNone 58 text
no_colon_in text octets d = subst (HasNone 58) (sym d.spelled) (
    more _ d.d d.fit.3 (more _ d.c d.fit.2 (more _ d.b d.fit.1 (no_colon d.a d.fit.0))))
  where
    more : (xs : List ℕ) (n : ℕ) → n < 256 → HasNone 58 xs → HasNone 58 (xs ++ codes "." ++ decimal n)
    more xs n small h = none-append 58 (xs ++ codes ".") (decimal n) (none-append 58 xs (codes ".") h no_dot) (no_colon n small)

-- the parts at both sides of the first colon are those of the address
pub parts : (text xs ys : List ℕ) (a : SocketAddrV4) → text ≡ xs ++ 58 ∷ ys → HasNone 58 xs → (h : IsAddress text a) → (xs ≡ h.host) × (ys ≡ h.digits)
parts text xs ys a split none h = same_halves 58 xs h.host ys h.digits none (no_colon_in h.host _ h.address) (sym split ∙ h.written ∙ append_assoc h.host (codes ":") h.digits)
