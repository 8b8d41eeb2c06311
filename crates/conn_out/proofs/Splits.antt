-- A text is lines and a rest in one way.
use Rattle.std.proofs.Common.{◌≡◌, ℕ, suc, List, [], ◌∷◌, ◌++◌, length, slice_index, refl, ap, sym, ◌∙◌, arith}
use Rattle.std.specs.Prelude.{All}
use Rattle.std.proofs.lemmas.List.Elements.{All-head, All-tail}
use Rattle.gw_lines.specs.Lines.{IsFeedless, with_feeds}

feedless_tail : (b : ℕ) (bs : List ℕ) → IsFeedless (b ∷ bs) → IsFeedless bs
feedless_tail b bs h k l e = h (suc k) (omega (arith, l)) e

-- two lines with their feeds in front of a text
record SameFirst (x y : List ℕ) (xs ys : List ℕ) : Type 0 where
  line : x ≡ y
  rest : xs ≡ ys

first_same : (x y xs ys : List ℕ) → IsFeedless x → IsFeedless y → x ++ 10 ∷ xs ≡ y ++ 10 ∷ ys → SameFirst x y xs ys
first_same [] [] xs ys f g e = record { line = refl; rest = cc e }
first_same [] (c ∷ cs) xs ys f g e = let h : 10 ≡ c = cc e in absurd (g 0 (omega arith) (sym h))
first_same (b ∷ bs) [] xs ys f g e = let h : b ≡ 10 = cc e in absurd (f 0 (omega arith) h)
first_same (b ∷ bs) (c ∷ cs) xs ys f g e =
    let h : b ≡ c = cc e in
    let t : bs ++ 10 ∷ xs ≡ cs ++ 10 ∷ ys = cc e in
    let s = first_same bs cs xs ys (feedless_tail b bs f) (feedless_tail c cs g) t in
    record { line = ap (λ (d : ℕ). d ∷ bs) h ∙ ap (λ (ds : List ℕ). c ∷ ds) s.line; rest = s.rest }

-- a line with its feed has a feed
has_feed : (line more rest : List ℕ) → rest ≡ line ++ 10 ∷ more → IsFeedless rest → ⊥
has_feed [] more rest e f = f 0 (omega (arith, ap length e)) (ap (λ (bs : List ℕ). slice_index bs 0) e)
has_feed (b ∷ bs) more [] e f = cc e
has_feed (b ∷ bs) more (r ∷ rs) e f = let t : rs ≡ bs ++ 10 ∷ more = cc e in has_feed bs more rs t (feedless_tail r rs f)

pub record SameSplit (lines more : List (List ℕ)) (rest left : List ℕ) : Type 0 where
  pub lines_are : lines ≡ more
  pub rest_is : rest ≡ left

pub one_split : (lines more : List (List ℕ)) (rest left : List ℕ) → All IsFeedless lines → All IsFeedless more → IsFeedless rest → IsFeedless left
    → with_feeds lines rest ≡ with_feeds more left
    → SameSplit lines more rest left
one_split [] [] rest left f g r l e = record { lines_are = refl; rest_is = e }
one_split [] (m ∷ ms) rest left f g r l e = absurd (has_feed m (with_feeds ms left) rest e r)
one_split (x ∷ xs) [] rest left f g r l e = absurd (has_feed x (with_feeds xs rest) left (sym e) l)
one_split (x ∷ xs) (m ∷ ms) rest left f g r l e =
    let first = first_same x m (with_feeds xs rest) (with_feeds ms left) (All-head IsFeedless x xs f) (All-head IsFeedless m ms g) e in
    let s = one_split xs ms rest left (All-tail IsFeedless x xs f) (All-tail IsFeedless m ms g) r l first.rest in
    record { lines_are = ap (λ (y : List ℕ). y ∷ xs) first.line ∙ ap (λ (ys : List (List ℕ)). m ∷ ys) s.lines_are; rest_is = s.rest_is }
