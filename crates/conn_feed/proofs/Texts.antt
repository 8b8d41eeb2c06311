-- The lines of ACCEPTED for a piece, one by one and all together.
use Rattle.std.proofs.Common.{◌≡◌, ℕ, zero, suc, ◌+◌, ◌-◌, ◌^◌, min, List, [], ◌∷◌, ◌++◌, length, refl, sym, ap, ◌∙◌, append_assoc, append-nil, arith}
use Rattle.std.specs.Prelude.{Option, Some, None}
use Rattle.jr_kept.specs.Entries.{entries_behind}
use Rattle.jr_boxes.specs.declared.faults.SubmitFault.{SubmitFault}
use Rattle.conn_accepted.specs.declared.why.Why.{Why}
use Rattle.conn_accepted.specs.Lines.{accepted_line, refused_line}
use Rattle.conn_feed.specs.Words.{Word, alike, words_text, word_line}
use Rattle.conn_feed.specs.Ends.{why_of}
use Rattle.conn_feed.specs.Course.{accepted_text, refused_text, rest_text, accepted_from, rest_words}

pub text_append : (n line : ℕ) (ws vs : List Word) → words_text n line (ws ++ vs) ≡ words_text n line ws ++ words_text n (line + length ws) vs
text_append n line [] vs = let e : line ≡ line + 0 = omega arith in ap (λ (k : ℕ). words_text n k vs) e
text_append n line (w ∷ ws) vs =
    let e : line + 1 + length ws ≡ line + suc (length ws) = omega arith in
    ap (λ (bs : List ℕ). word_line n line w ++ bs) (text_append n (line + 1) ws vs ∙ ap (λ (k : ℕ). words_text n (line + 1) ws ++ words_text n k vs) e)
    ∙ sym (append_assoc (word_line n line w) (words_text n (line + 1) ws) (words_text n (line + suc (length ws)) vs))

-- the line of ACCEPTED for the message behind so many
abbrev one_accepted : (number s own c : ℕ) → List ℕ
one_accepted number s own c = accepted_line (number + c + 1) s (own + c + 1)

shifted : (number s own c : ℕ) → one_accepted number s own (suc c) ≡ one_accepted (number + 1) s (own + 1) c
shifted number s own c =
    let a : number + suc c + 1 ≡ number + 1 + c + 1 = omega arith in
    let b : own + suc c + 1 ≡ own + 1 + c + 1 = omega arith in
    ap (λ (k : ℕ). accepted_line k s (own + suc c + 1)) a ∙ ap (λ (k : ℕ). accepted_line (number + 1 + c + 1) s k) b

first_one : (number s own : ℕ) → one_accepted number s own 0 ≡ accepted_line (number + 1) s (own + 1)
first_one number s own =
    let a : number + 0 + 1 ≡ number + 1 = omega arith in
    let b : own + 0 + 1 ≡ own + 1 = omega arith in
    ap (λ (k : ℕ). accepted_line k s (own + 0 + 1)) a ∙ ap (λ (k : ℕ). accepted_line (number + 1) s k) b

-- the first of so many lines stands at the front
accepted_front : (number s own c : ℕ) → accepted_text number s own (suc c) ≡ accepted_line (number + 1) s (own + 1) ++ accepted_text (number + 1) s (own + 1) c
accepted_front number s own zero = first_one number s own ∙ sym (append-nil (accepted_line (number + 1) s (own + 1)))
accepted_front number s own (suc c) =
    ap (λ (bs : List ℕ). bs ++ one_accepted number s own (suc c)) (accepted_front number s own c)
    ∙ append_assoc (accepted_line (number + 1) s (own + 1)) (accepted_text (number + 1) s (own + 1) c) (one_accepted number s own (suc c))
    ∙ ap (λ (bs : List ℕ). accepted_line (number + 1) s (own + 1) ++ (accepted_text (number + 1) s (own + 1) c ++ bs)) (shifted number s own c)

pub accepted_words : (n line number s own : ℕ) (ps : List (List ℕ)) → words_text n line (accepted_from (number + 1) (entries_behind s own ps)) ≡ accepted_text number s own (length ps)
accepted_words n line number s own [] = refl
accepted_words n line number s own (p ∷ ps) =
    ap (λ (bs : List ℕ). accepted_line (number + 1) s (own + 1) ++ bs) (accepted_words n (line + 1) (number + 1) s (own + 1) ps) ∙ sym (accepted_front number s own (length ps))

-- the line of ACCEPTED for a line that was refused
abbrev one_refused : (n line : ℕ) → Why → List ℕ
one_refused n line why = refused_line n (min line (2 ^ 64 - 1)) why

refused_front : (n line : ℕ) (why : Why) (c : ℕ) → refused_text n line why (suc c) ≡ one_refused n line why ++ refused_text n (line + 1) why c
refused_front n line why zero = let e : line + 0 ≡ line = omega arith in ap (λ (k : ℕ). one_refused n k why) e ∙ sym (append-nil (one_refused n line why))
refused_front n line why (suc c) =
    let e : line + suc c ≡ line + 1 + c = omega arith in
    ap (λ (bs : List ℕ). bs ++ one_refused n (line + suc c) why) (refused_front n line why c)
    ∙ append_assoc (one_refused n line why) (refused_text n (line + 1) why c) (one_refused n (line + suc c) why)
    ∙ ap (λ (k : ℕ). one_refused n line why ++ (refused_text n (line + 1) why c ++ one_refused n k why)) e

refused_words : (n line : ℕ) (why : Why) (c : ℕ) → words_text n line (alike why c) ≡ refused_text n line why c
refused_words n line why zero = refl
refused_words n line why (suc c) = ap (λ (bs : List ℕ). one_refused n line why ++ bs) (refused_words n (line + 1) why c) ∙ sym (refused_front n line why c)

-- the greatest number stands for each greater one
refused_same : (n a b : ℕ) (why : Why) (c : ℕ) → min a (2 ^ 64 - 1) ≡ min b (2 ^ 64 - 1) → refused_text n a why c ≡ refused_text n b why c
refused_same n a b why zero e = refl
refused_same n a b why (suc c) e =
    ap (λ (bs : List ℕ). bs ++ one_refused n (a + c) why) (refused_same n a b why c e) ∙ ap (λ (k : ℕ). refused_text n b why c ++ refused_line n k why) (later a b c e)
  where
    later : (a b c : ℕ) → min a (2 ^ 64 - 1) ≡ min b (2 ^ 64 - 1) → min (a + c) (2 ^ 64 - 1) ≡ min (b + c) (2 ^ 64 - 1)
    later a b c e = omega (arith, e)

pub rest_is : (n a b : ℕ) (o : Option SubmitFault) (c : ℕ) → min a (2 ^ 64 - 1) ≡ min b (2 ^ 64 - 1) → words_text n a (rest_words o c) ≡ rest_text n b o c
rest_is n a b None c e = refl
rest_is n a b (Some f) c e = refused_words n a (why_of f) c ∙ refused_same n a b (why_of f) c e

-- what stands behind some lines and one more
pub accepted_more : (old text more : List ℕ) (number s own c : ℕ) → text ≡ old ++ accepted_text number s own c → more ≡ text ++ accepted_line (number + c + 1) s (own + c + 1)
    → more ≡ old ++ accepted_text number s own (c + 1)
accepted_more old text more number s own c e f =
    let next : suc c ≡ c + 1 = omega arith in
    f ∙ ap (λ (bs : List ℕ). bs ++ one_accepted number s own c) e ∙ append_assoc old (accepted_text number s own c) (one_accepted number s own c) ∙ ap (λ (k : ℕ). old ++ accepted_text number s own k) next

pub refused_more : (old text more : List ℕ) (n line : ℕ) (why : Why) (c : ℕ) → text ≡ old ++ refused_text n line why c → more ≡ text ++ refused_line n (min (line + c) (2 ^ 64 - 1)) why
    → more ≡ old ++ refused_text n line why (c + 1)
refused_more old text more n line why c e f =
    let next : suc c ≡ c + 1 = omega arith in
    f ∙ ap (λ (bs : List ℕ). bs ++ one_refused n (line + c) why) e ∙ append_assoc old (refused_text n line why c) (one_refused n (line + c) why) ∙ ap (λ (k : ℕ). old ++ refused_text n line why k) next
