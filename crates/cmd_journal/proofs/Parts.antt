-- The lines of records, part by part.
use Rattle.std.proofs.Common.{◌≡◌, ℕ, ◌+◌, ◌<◌, List, [], ◌∷◌, ◌++◌, length, take, drop, Option, sym, ap, subst, ◌∙◌, append_assoc, append-nil, take-append-drop, length-take, arith}
use Rattle.jr_dated.specs.Dated.{Dated}
use Rattle.jr_segments.specs.Journal.{instead}
use Rattle.jr_segments.proofs.Instead.{take_instead}
use Rattle.cmd_journal.specs.Lines.{line_of, lines_from}

pub lines_from-append : (n : ℕ) (xs ys : List Dated) → lines_from n (xs ++ ys) ≡ lines_from n xs ++ lines_from (n + length xs) ys
lines_from-append n [] ys = let same : n ≡ n + 0 = omega arith in ap (λ (k : ℕ). lines_from k ys) same
lines_from-append n (x ∷ xs) ys =
    let same : (n + 1) + length xs ≡ n + length (x ∷ xs) = omega arith in
    ap (λ (t : List ℕ). line_of n x ++ t) (lines_from-append (n + 1) xs ys ∙ ap (λ (k : ℕ). lines_from (n + 1) xs ++ lines_from k ys) same)
    ∙ sym (append_assoc (line_of n x) (lines_from (n + 1) xs) (lines_from (n + length (x ∷ xs)) ys))

-- one record more, read in its place
pub lines_instead : (h : List Dated) (at : ℕ) (d : Dated) → at < length h → lines_from 1 (take (at + 1) (instead at d h)) ≡ lines_from 1 (take at h) ++ line_of (at + 1) d
lines_instead h at d below =
    let place : 1 + length (take at h) ≡ at + 1 = omega (arith, length-take at h, below) in
    ap (lines_from 1) (take_instead at d h below)
    ∙ lines_from-append 1 (take at h) (d ∷ [])
    ∙ ap (λ (k : ℕ). lines_from 1 (take at h) ++ (line_of k d ++ [])) place
    ∙ ap (λ (t : List ℕ). lines_from 1 (take at h) ++ t) (append-nil (line_of (at + 1) d))

-- those of the first records begin all
pub lines_split : (records : List Dated) (at : ℕ) → lines_from 1 records ≡ lines_from 1 (take at records) ++ lines_from (1 + length (take at records)) (drop at records)
lines_split records at = ap (lines_from 1) (sym (take-append-drop at records)) ∙ lines_from-append 1 (take at records) (drop at records)

-- a text, the name of a box, and the lines of its first records: with one more, and with all
pub text_with_more : (text name : List ℕ) (h : List Dated) (at : ℕ) (d : Dated) → at < length h
    → (text ++ (name ++ lines_from 1 (take at h))) ++ line_of (at + 1) d ≡ text ++ (name ++ lines_from 1 (take (at + 1) (instead at d h)))
text_with_more text name h at d below =
    append_assoc text (name ++ lines_from 1 (take at h)) (line_of (at + 1) d)
    ∙ ap (λ (t : List ℕ). text ++ t)
    (append_assoc name (lines_from 1 (take at h)) (line_of (at + 1) d)
    ∙ ap (λ (t : List ℕ). name ++ t) (sym (lines_instead h at d below)))

pub text_with_all : (text name : List ℕ) (records : List Dated) (at : ℕ)
    → (text ++ (name ++ lines_from 1 (take at records))) ++ lines_from (1 + length (take at records)) (drop at records) ≡ text ++ (name ++ lines_from 1 records)
text_with_all text name records at =
    append_assoc text (name ++ lines_from 1 (take at records)) (lines_from (1 + length (take at records)) (drop at records))
    ∙ ap (λ (t : List ℕ). text ++ t)
    (append_assoc name (lines_from 1 (take at records)) (lines_from (1 + length (take at records)) (drop at records))
    ∙ ap (λ (t : List ℕ). name ++ t) (sym (lines_split records at)))
