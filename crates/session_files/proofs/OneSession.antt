-- Words say one session at most.
use Rattle.std.proofs.Common.{◌≡◌, ℕ, List, [], ◌∷◌, map, Option, Some, None, IfSome, refl, sym, ap, ◌∙◌, arith}
use Rattle.std.specs.Prelude.{codes, option_to_list}
use Rattle.std.proofs.lemmas.Fmt.{decimal_digit, decimal_injective}
use Rattle.fixp_shake.specs.declared.config.Role.{Role}
use Rattle.text_words.specs.Words.{IsPositive}
use Rattle.session_files.specs.Words.{File, path_of, role_of, SessionWords, IsSession, OneSession}
use Rattle.session_files.specs.Samples.{sample_words, SessionSample}

same_number : (text other : List ℕ) (m n : ℕ) → text ≡ other → IsPositive text m → IsPositive other n → m ≡ n
same_number text other m n same p q =
    let low = p.most in
    let high = q.most in
    decimal_injective m n (omega (arith, low)) (omega (arith, high)) (sym p.written ∙ (same ∙ q.written))

same_some : (a b : Role) → Some a ≡ Some b → a ≡ b
same_some a b e = cc

file_is : (f g : File) → f.role ≡ g.role → f.path ≡ g.path → f ≡ g
file_is f g role path = ap (λ r. record { role = r; path = f.path }) role ∙ ap (λ p. record { role = g.role; path = p }) path

-- ACCEPTED of both, by its path
accepted_is : (a b : Option File) → IfSome a (λ f. f.role ≡ codes "ACCEPTED") → IfSome b (λ f. f.role ≡ codes "ACCEPTED") → map path_of (option_to_list a) ≡ map path_of (option_to_list b) → a ≡ b
accepted_is None None p q e = refl
accepted_is None (Some g) p q e = absurd (cc e)
accepted_is (Some f) None p q e = absurd (cc e)
accepted_is (Some f) (Some g) p q e = ap Some (file_is f g (p ∙ sym q) (cc e))

session_is : (s t : SessionWords) → s.role ≡ t.role → s.address ≡ t.address → s.most ≡ t.most → s.config ≡ t.config → s.input ≡ t.input → s.outbox ≡ t.outbox → s.inbox ≡ t.inbox → s.out ≡ t.out
    → s.accepted ≡ t.accepted → s ≡ t
session_is s t role address most config input outbox inbox out accepted =
    ap (λ x. record s { role = x }) role
    ∙ (ap (λ x. record s { role = t.role; address = x }) address
    ∙ (ap (λ x. record s { role = t.role; address = t.address; most = x }) most
    ∙ (ap (λ x. record s { role = t.role; address = t.address; most = t.most; config = x }) config
    ∙ (ap (λ x. record s { role = t.role; address = t.address; most = t.most; config = t.config; input = x }) input
    ∙ (ap (λ x. record t { outbox = x; inbox = s.inbox; out = s.out; accepted = s.accepted }) outbox
    ∙ (ap (λ x. record t { inbox = x; out = s.out; accepted = s.accepted }) inbox
    ∙ (ap (λ x. record t { out = x; accepted = s.accepted }) out
    ∙ ap (λ x. record t { accepted = x }) accepted)))))))

pub one_session : OneSession
one_session words s t k l =
    let both = sym k.words_are ∙ l.words_are in
    let command : k.command ≡ l.command = cc both in
    session_is s t (same_some s.role t.role (sym k.role ∙ (ap role_of command ∙ l.role))) (cc both) (same_number k.number l.number s.most t.most (cc both) k.most l.most)
    (file_is s.config t.config (k.named.config ∙ sym l.named.config) (cc both))
    (file_is s.input t.input (k.named.input ∙ sym l.named.input) (cc both))
    (file_is s.outbox t.outbox (k.named.outbox ∙ sym l.named.outbox) (cc both))
    (file_is s.inbox t.inbox (k.named.inbox ∙ sym l.named.inbox) (cc both))
    (file_is s.out t.out (k.named.out ∙ sym l.named.out) (cc both))
    (accepted_is s.accepted t.accepted k.named.accepted l.named.accepted (cc both))

-- ACCEPTED of a session that has one more word
accepted_here : (o : Option File) (path : List ℕ) (P : File → Type 0) → path ∷ [] ≡ map path_of (option_to_list o) → IfSome o P → (f : File) × (path ≡ f.path) × P f
accepted_here None path P e p = absurd (cc e)
accepted_here (Some f) path P e p = (f, cc e, p)

no_session : (s : SessionWords) → IsSession (sample_words (codes "-") (codes "-")) s → ⊥
no_session s k =
    let a = accepted_here s.accepted (codes "-") _ (cc (k.words_are)) k.apart in
    a.2 (cc (k.words_are), sym a.1)

pub session_sample : SessionSample
session_sample = (
  record {
    command = codes "connect";
    number = codes "3";
    words_are = refl;
    role = refl;
    most = record { written = sym (decimal_digit 3 (omega arith)); least = omega arith; most = omega arith };
    named = record { config = refl; input = refl; outbox = refl; inbox = refl; out = refl; accepted = refl };
    apart = λ both. let e = both.0 in cc e;
  },
  no_session,
)
