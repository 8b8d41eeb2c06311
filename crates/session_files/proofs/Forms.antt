-- As many words as a session has, and what they say.
use Rattle.std.proofs.Common.{◌≡◌, inl, inr, ℕ, ◌<◌, ◌≤◌, List, [], ◌∷◌, length, get_or, Option, Some, None, IfSome, IfNone, refl, sym, ap, subst, ◌∙◌, arith}
use Rattle.text_words.specs.Words.{IsPositive}
use Rattle.session_files.specs.Words.{SessionWords, IsSession, Cannot, Tells, role_of}

-- words that stand at eight places are all of eight words
pub eight_words : {A : Type 0} (xs : List A) (a b c d e f g h : A) → 8 ≤ length xs → length xs < 9
    → a ≡ get_or xs 0 a → b ≡ get_or xs 1 b → c ≡ get_or xs 2 c → d ≡ get_or xs 3 d → e ≡ get_or xs 4 e → f ≡ get_or xs 5 f → g ≡ get_or xs 6 g → h ≡ get_or xs 7 h
    → xs ≡ a ∷ b ∷ c ∷ d ∷ e ∷ f ∷ g ∷ h ∷ []
eight_words [] a b c d e f g h least below p q r s t u v w = absurd (omega (arith, least))
eight_words (x1 ∷ []) a b c d e f g h least below p q r s t u v w = absurd (omega (arith, least))
eight_words (x1 ∷ x2 ∷ []) a b c d e f g h least below p q r s t u v w = absurd (omega (arith, least))
eight_words (x1 ∷ x2 ∷ x3 ∷ []) a b c d e f g h least below p q r s t u v w = absurd (omega (arith, least))
eight_words (x1 ∷ x2 ∷ x3 ∷ x4 ∷ []) a b c d e f g h least below p q r s t u v w = absurd (omega (arith, least))
eight_words (x1 ∷ x2 ∷ x3 ∷ x4 ∷ x5 ∷ []) a b c d e f g h least below p q r s t u v w = absurd (omega (arith, least))
eight_words (x1 ∷ x2 ∷ x3 ∷ x4 ∷ x5 ∷ x6 ∷ []) a b c d e f g h least below p q r s t u v w = absurd (omega (arith, least))
eight_words (x1 ∷ x2 ∷ x3 ∷ x4 ∷ x5 ∷ x6 ∷ x7 ∷ []) a b c d e f g h least below p q r s t u v w = absurd (omega (arith, least))
eight_words (x1 ∷ x2 ∷ x3 ∷ x4 ∷ x5 ∷ x6 ∷ x7 ∷ x8 ∷ []) a b c d e f g h least below p q r s t u v w =
    let p1 : a ≡ x1 = p in
    let p2 : b ≡ x2 = q in
    let p3 : c ≡ x3 = r in
    let p4 : d ≡ x4 = s in
    let p5 : e ≡ x5 = t in
    let p6 : f ≡ x6 = u in
    let p7 : g ≡ x7 = v in
    let p8 : h ≡ x8 = w in
    cc (p1, p2, p3, p4, p5, p6, p7, p8)
eight_words (x1 ∷ x2 ∷ x3 ∷ x4 ∷ x5 ∷ x6 ∷ x7 ∷ x8 ∷ x9 ∷ more) a b c d e f g h least below p q r s t u v w = absurd (omega (arith, below))

-- and nine
pub nine_words : {A : Type 0} (xs : List A) (a b c d e f g h i : A) → 9 ≤ length xs → length xs < 10
    → a ≡ get_or xs 0 a → b ≡ get_or xs 1 b → c ≡ get_or xs 2 c → d ≡ get_or xs 3 d → e ≡ get_or xs 4 e → f ≡ get_or xs 5 f → g ≡ get_or xs 6 g → h ≡ get_or xs 7 h → i ≡ get_or xs 8 i
    → xs ≡ a ∷ b ∷ c ∷ d ∷ e ∷ f ∷ g ∷ h ∷ i ∷ []
nine_words [] a b c d e f g h i least below p q r s t u v w x = absurd (omega (arith, least))
nine_words (y ∷ ys) a b c d e f g h i least below p q r s t u v w x =
    let first : a ≡ y = p in
    let rest : ys ≡ b ∷ c ∷ d ∷ e ∷ f ∷ g ∷ h ∷ i ∷ [] = eight_words ys b c d e f g h i (omega (arith, least)) (omega (arith, below)) q r s t u v w x in
    cc (first, rest)

-- what is so in any case is so where there is none
pub none_so : {A : Type 0} (o : Option A) (Q : Type 0) → Q → IfNone o Q
none_so None Q q = q
none_so (Some a) Q q = tt

pub none_weaker : {A : Type 0} (o : Option A) (P Q : Type 0) → (P → Q) → IfNone o P → IfNone o Q
none_weaker None P Q f p = f p
none_weaker (Some a) P Q f p = tt

pub some_weaker : {A : Type 0} (o : Option A) (P Q : A → Type 0) → ((a : A) → P a → Q a) → IfSome o P → IfSome o Q
some_weaker None P Q f p = tt
some_weaker (Some a) P Q f p = f a p

-- a command that runs no session, or an N that is none
pub cannot_be : (command address number : List ℕ) (rest : List (List ℕ)) → Cannot command number → (s : SessionWords) → IsSession (command ∷ address ∷ number ∷ rest) s → ⊥
cannot_be command address number rest (inl none) s k =
    let same : command ≡ k.command = cc (k.words_are) in
    cc (sym none ∙ (ap role_of same ∙ k.role))
cannot_be command address number rest (inr bad) s k =
    let same : number ≡ k.number = cc (k.words_are) in
    bad s.most (subst (λ t. IsPositive t s.most) (sym same) k.most)

-- a session of eight words, as that of nine
pub tells_session : (a b c d e f g h path : List ℕ) (before after : SessionWords) → IsSession (a ∷ b ∷ c ∷ d ∷ e ∷ f ∷ g ∷ h ∷ []) before → Tells before path after
    → IsSession (a ∷ b ∷ c ∷ d ∷ e ∷ f ∷ g ∷ h ∷ path ∷ []) after
tells_session a b c d e f g h path before after k t =
    subst (λ s. IsSession (a ∷ b ∷ c ∷ d ∷ e ∷ f ∷ g ∷ h ∷ path ∷ []) s) (sym t.accepted) (record {
      command = k.command;
      number = k.number;
      words_are = cc (k.words_are);
      role = k.role;
      most = k.most;
      named = record { config = k.named.config; input = k.named.input; outbox = k.named.outbox; inbox = k.named.inbox; out = k.named.out; accepted = refl };
      apart = t.apart;
    })
