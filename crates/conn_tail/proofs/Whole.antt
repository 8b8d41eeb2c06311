-- The lines of a text that ends with a line feed.
use Rattle.std.proofs.Common.{◌≡◌, ℕ, zero, suc, inl, inr, List, [], ◌∷◌, ◌++◌, refl, ap, sym, ◌∙◌, arith}
use Rattle.std.specs.Prelude.{All}
use Rattle.std.proofs.lemmas.Bool.{cases_eq}
use Rattle.std.proofs.lemmas.List.Elements.{All-nil, All-cons, All-head, All-tail, All-push}
use Rattle.gw_lines.specs.Lines.{IsFeedless, with_feeds}
use Rattle.gw_lines.proofs.Steps.{more_behind, line_behind, none_feedless}

record Parted (text : List ℕ) : Type 0 where
  lines : List (List ℕ)
  rest : List ℕ
  each : All IsFeedless lines
  feedless : IsFeedless rest
  bytes : text ≡ with_feeds lines rest

feedless_cons : (b : ℕ) (bs : List ℕ) → (b ≡ 10 → ⊥) → IsFeedless bs → IsFeedless (b ∷ bs)
feedless_cons b bs other h zero l e = other e
feedless_cons b bs other h (suc k) l e = h k (omega arith) e

-- a byte in front of a text's first line, or of its rest
in_front : (b : ℕ) (text : List ℕ) → (b ≡ 10 → ⊥) → Parted text → Parted (b ∷ text)
in_front b text other p = by_lines p.lines p.rest p.each p.feedless p.bytes
  where
    by_lines : (lines : List (List ℕ)) (rest : List ℕ) → All IsFeedless lines → IsFeedless rest → text ≡ with_feeds lines rest → Parted (b ∷ text)
    by_lines [] rest each feedless e = record { lines = []; rest = b ∷ rest; each = each; feedless = feedless_cons b rest other feedless; bytes = ap (λ (bs : List ℕ). b ∷ bs) e }
    by_lines (line ∷ lines) rest each feedless e = record {
      lines = (b ∷ line) ∷ lines;
      rest = rest;
      each = All-cons IsFeedless (b ∷ line) lines (feedless_cons b line other (All-head IsFeedless line lines each)) (All-tail IsFeedless line lines each);
      feedless = feedless;
      bytes = ap (λ (bs : List ℕ). b ∷ bs) e;
    }

-- a line feed in front of a text
feed_in_front : (b : ℕ) (text : List ℕ) → b ≡ 10 → Parted text → Parted (b ∷ text)
feed_in_front b text is p = record {
  lines = [] ∷ p.lines;
  rest = p.rest;
  each = All-cons IsFeedless [] p.lines none_feedless p.each;
  feedless = p.feedless;
  bytes = ap (λ (c : ℕ). c ∷ text) is ∙ ap (λ (bs : List ℕ). 10 ∷ bs) p.bytes;
}

parted : (text : List ℕ) → Parted text
parted [] = record { lines = []; rest = []; each = All-nil IsFeedless; feedless = none_feedless; bytes = refl }
parted (b ∷ bs) = elim (cases_eq b 10) [ inl is ↦ feed_in_front b bs is (parted bs) | inr other ↦ in_front b bs other (parted bs) ]

-- a text that ends with a line feed has whole lines alone
pub record Lines (text : List ℕ) : Type 0 where
  pub lines : List (List ℕ)
  pub each : All IsFeedless lines
  pub bytes : text ≡ with_feeds lines []

pub nothing : Lines []
nothing = record { lines = []; each = All-nil IsFeedless; bytes = refl }

pub ended : (front : List ℕ) → Lines (front ++ 10 ∷ [])
ended front =
    let p = parted front in
    record {
      lines = p.lines ++ p.rest ∷ [];
      each = All-push IsFeedless p.lines p.rest p.each p.feedless;
      bytes = ap (λ (bs : List ℕ). bs ++ 10 ∷ []) p.bytes ∙ more_behind p.lines p.rest (10 ∷ []) ∙ sym (line_behind p.lines p.rest []);
    }
