-- A projection that is cut off anywhere.
use Rattle.std.proofs.Common.{◌≡◌, inl, inr, ℕ, zero, suc, ◌+◌, ◌-◌, ◌<◌, ◌≤◌, List, [], ◌∷◌, ◌++◌, length, take, refl, ap, sym, subst, ◌∙◌}
use Rattle.std.proofs.Common.{arith}
use Rattle.std.specs.Prelude.{All}
use Rattle.std.proofs.lemmas.Bool.{cases_lt}
use Rattle.std.proofs.lemmas.List.{get_or-take, length-take}
use Rattle.std.proofs.lemmas.List.Elements.{All-nil, All-cons, All-head, All-tail}
use Rattle.session_model.specs.Inbox.{Numbered}
use Rattle.gw_lines.specs.Lines.{IsFeedless, with_feeds}
use Rattle.gw_lines.proofs.Steps.{more_behind}
use Rattle.conn_tail.specs.Tails.{TellsNothing}
use Rattle.conn_out.specs.Projections.{IsOf, TellOf}
use Rattle.conn_out.specs.Laws.{FrontsProject}

-- lines with their feeds and a rest, of which the lines tell of the first messages
record Cut (bytes : List ℕ) (ms : List Numbered) : Type 0 where
  count : ℕ
  lines : List (List ℕ)
  rest : List ℕ
  each : All IsFeedless lines
  feedless : IsFeedless rest
  is : bytes ≡ with_feeds lines rest
  told : TellOf lines (take count ms)

-- a line more in front
pub nothing_more : (line : List ℕ) (lines : List (List ℕ)) (ms : List Numbered) → TellsNothing line → TellOf lines ms → TellOf (line ∷ lines) ms
nothing_more line lines [] none t = (none, t)
nothing_more line lines (m ∷ ms) none t = inl (none, t)

-- a part of a line has no line feed
front_feedless : (line : List ℕ) (n : ℕ) → IsFeedless line → IsFeedless (take n line)
front_feedless line n h k l e =
    let size : length (take n line) ≡ _ = length-take n line in
    h k (omega (arith, l, size)) (sym (get_or-take n line k 0 (omega (arith, l, size))) ∙ e)

take_within : (line more : List ℕ) (n : ℕ) → n ≤ length line → take n (line ++ more) ≡ take n line
take_within line more zero l = refl
take_within [] more (suc n) l = absurd (omega (arith, l))
take_within (b ∷ bs) more (suc n) l = ap (λ (xs : List ℕ). b ∷ xs) (take_within bs more n (omega (arith, l)))

take_behind : (line more : List ℕ) (n : ℕ) → length line < n → take n (line ++ 10 ∷ more) ≡ line ++ 10 ∷ take (n - (length line + 1)) more
take_behind line more zero l = absurd (omega (arith, l))
take_behind [] more (suc n) l = let e : suc n - 1 ≡ n = omega arith in ap (λ (k : ℕ). 10 ∷ take k more) (sym e)
take_behind (b ∷ bs) more (suc n) l =
    let e : suc n - (suc (length bs) + 1) ≡ n - (length bs + 1) = omega arith in
    ap (λ (xs : List ℕ). b ∷ xs) (take_behind bs more n (omega (arith, l)) ∙ ap (λ (k : ℕ). bs ++ 10 ∷ take k more) (sym e))

cut_in_line : (line more : List ℕ) (ms : List Numbered) (n : ℕ) → IsFeedless line → n ≤ length line → Cut (take n (line ++ more)) ms
cut_in_line line more ms n feedless l = record {
  count = 0;
  lines = [];
  rest = take n line;
  each = All-nil IsFeedless;
  feedless = front_feedless line n feedless;
  is = take_within line more n l;
  told = tt;
}

-- a line that tells of no message in front of what is cut
behind_nothing : (line bytes : List ℕ) (ms : List Numbered) → IsFeedless line → TellsNothing line → Cut bytes ms → Cut (line ++ 10 ∷ bytes) ms
behind_nothing line bytes ms feedless none c = record {
  count = c.count;
  lines = line ∷ c.lines;
  rest = c.rest;
  each = All-cons IsFeedless line c.lines feedless c.each;
  feedless = c.feedless;
  is = ap (λ (bs : List ℕ). line ++ 10 ∷ bs) c.is;
  told = nothing_more line c.lines (take c.count ms) none c.told;
}

-- and one that tells of a message
behind_one : (line bytes : List ℕ) (m : Numbered) (ms : List Numbered) → IsFeedless line → IsOf line m → Cut bytes ms → Cut (line ++ 10 ∷ bytes) (m ∷ ms)
behind_one line bytes m ms feedless is c = record {
  count = suc c.count;
  lines = line ∷ c.lines;
  rest = c.rest;
  each = All-cons IsFeedless line c.lines feedless c.each;
  feedless = c.feedless;
  is = ap (λ (bs : List ℕ). line ++ 10 ∷ bs) c.is;
  told = inr (is, c.told);
}

by_line : (line bytes : List ℕ) (lines : List (List ℕ)) (ms : List Numbered) → IsFeedless line → ((ns : List Numbered) → TellOf lines ns → Cut bytes ns)
    → TellOf (line ∷ lines) ms
    → Cut (line ++ 10 ∷ bytes) ms
by_line line bytes lines [] feedless rest t = behind_nothing line bytes [] feedless t.0 (rest [] t.1)
by_line line bytes lines (m ∷ ms) feedless rest (inl t) = behind_nothing line bytes (m ∷ ms) feedless t.0 (rest (m ∷ ms) t.1)
by_line line bytes lines (m ∷ ms) feedless rest (inr t) = behind_one line bytes m ms feedless t.0 (rest ms t.1)

cut_off : (lines : List (List ℕ)) (rest : List ℕ) (ms : List Numbered) (n : ℕ) → All IsFeedless lines → IsFeedless rest → TellOf lines ms
    → Cut (take n (with_feeds lines rest)) ms
cut_off [] rest [] n each feedless told =
    record { count = 0; lines = []; rest = take n rest; each = All-nil IsFeedless; feedless = front_feedless rest n feedless; is = refl; told = tt }
cut_off [] rest (m ∷ ms) n each feedless told = absurd told
cut_off (line ∷ lines) rest ms n each feedless told = elim (cases_lt (length line) n) [
  | inl behind ↦ subst (λ (bs : List ℕ). Cut bs ms) (sym (take_behind line (with_feeds lines rest) n behind))
      (by_line line (take (n - (length line + 1)) (with_feeds lines rest)) lines ms (All-head IsFeedless line lines each)
      (λ ns t. cut_off lines rest ns (n - (length line + 1)) (All-tail IsFeedless line lines each) feedless t) told)
  | inr within ↦ cut_in_line line (10 ∷ with_feeds lines rest) ms n (All-head IsFeedless line lines each) within
]

pub fronts_project : FrontsProject
fronts_project content ms n p =
    let bytes : content ≡ with_feeds p.tells.lines p.rest = p.bytes ∙ ap (λ (bs : List ℕ). bs ++ p.rest) p.tells.bytes ∙ more_behind p.tells.lines [] p.rest in
    let c : Cut (take n (with_feeds p.tells.lines p.rest)) ms = cut_off p.tells.lines p.rest ms n p.tells.each p.feedless p.tells.told in
    record {
      count = c.count;
      projects = record {
        text = with_feeds c.lines [];
        rest = c.rest;
        bytes = ap (take n) bytes ∙ c.is ∙ sym (more_behind c.lines [] c.rest);
        feedless = c.feedless;
        tells = record { lines = c.lines; each = c.each; bytes = refl; told = c.told };
      };
    }
