-- The lines of how many messages each sender has.
use Rattle.std.proofs.Common.{◌≡◌, inl, subst, ◌≤◌, ℕ, zero, suc, ◌+◌, ◌<◌, List, [], ◌∷◌, ◌++◌, length, slice_index_or, refl, sym, ap, ◌∙◌, append_assoc, append-nil, take, arith}
use Rattle.std.specs.Prelude.{All, Option, Result, Ok, Err, OnOk, OnErr, IfErr}
use Rattle.std.specs.Io.KnownBytes.{Appends}
use Rattle.gw_outside.specs.Faults.{TakesFront}
use Rattle.conn_feed.specs.declared.end.FeedEnd.{FeedEnd}
use Rattle.conn_feed.specs.declared.end.FeedEnd.TheVariants as ends
use Rattle.conn_feed.specs.Course.{Told}
use Rattle.std.proofs.lemmas.List.{take_more}
use Rattle.std.proofs.lemmas.List.Elements.{All-head, All-tail}
use Rattle.jr_dated.specs.declared.journal.Journal.{Ghosts}
use Rattle.gate_turn.specs.Places.{known}
use Rattle.gate_staff.specs.declared.sender.Sender.{Sender}
use Rattle.conn_accepted.specs.Lines.{has_line}
use Rattle.conn_feed.specs.Words.{counts_text}
use Rattle.conn_feed.specs.Fed.{IsCounted, dones_of, parts_of, counts_of}

counts_more : (s : ℕ) (ks : List ℕ) (k : ℕ) → counts_text s (ks ++ k ∷ []) ≡ counts_text s ks ++ has_line (s + length ks) k
counts_more s [] k = let e : s ≡ s + 0 = omega arith in append-nil (has_line s k) ∙ ap (λ (n : ℕ). has_line n k) e
counts_more s (j ∷ ks) k =
    let e : s + 1 + length ks ≡ s + suc (length ks) = omega arith in
    ap (λ (bs : List ℕ). has_line s j ++ bs) (counts_more (s + 1) ks k ∙ ap (λ (n : ℕ). counts_text (s + 1) ks ++ has_line n k) e)
    ∙ sym (append_assoc (has_line s j) (counts_text (s + 1) ks) (has_line (s + suc (length ks)) k))

module _ {J : Type 0} {G : Ghosts J} where
  dones_more : (xs : List (Sender J G)) (x : Sender J G) → dones_of (xs ++ x ∷ []) ≡ dones_of xs ++ x.done ∷ []
  dones_more [] x = refl
  dones_more (y ∷ ys) x = ap (λ (ks : List ℕ). y.done ∷ ks) (dones_more ys x)

  dones_long : (xs : List (Sender J G)) → length (dones_of xs) ≡ length xs
  dones_long [] = refl
  dones_long (y ∷ ys) = ap suc (dones_long ys)

  taken_long : (xs : List (Sender J G)) (n : ℕ) → n < length xs → length (take n xs) ≡ n
  taken_long [] n l = absurd (omega (arith, l))
  taken_long (x ∷ xs) zero l = refl
  taken_long (x ∷ xs) (suc n) l = ap suc (taken_long xs n (omega (arith, l)))

  -- the line of one sender more
  pub one_more : (old text more : List ℕ) (xs : List (Sender J G)) (place : ℕ) (d : Sender J G) → place < length xs → text ≡ old ++ counts_text 1 (dones_of (take place xs))
      → more ≡ text ++ has_line (place + 1) (slice_index_or xs place d).done → more ≡ old ++ counts_text 1 (dones_of (take (place + 1) xs))
  one_more old text more xs place d inside e f =
      let x : Sender J G = slice_index_or xs place d in
      let next : take (place + 1) xs ≡ take place xs ++ slice_index_or xs place d ∷ [] = take_more xs place d inside in
      let long : 1 + length (dones_of (take place xs)) ≡ place + 1 = ap (λ (n : ℕ). 1 + n) (dones_long (take place xs) ∙ taken_long xs place inside) ∙ omega arith in
      f ∙ ap (λ (bs : List ℕ). bs ++ has_line (place + 1) (slice_index_or xs place d).done) e
      ∙ append_assoc old (counts_text 1 (dones_of (take place xs))) (has_line (place + 1) (slice_index_or xs place d).done)
      ∙ ap (λ (n : ℕ). old ++ (counts_text 1 (dones_of (take place xs)) ++ has_line n (slice_index_or xs place d).done)) (sym long)
      ∙ ap (λ (bs : List ℕ). old ++ bs) (sym (counts_more 1 (dones_of (take place xs)) (slice_index_or xs place d).done))
      ∙ ap (λ (ks : List ℕ). old ++ counts_text 1 ks) (sym (ap dones_of next ∙ dones_more (take place xs) (slice_index_or xs place d)))

  -- what each counts its pass has
  pub counts_are : (xs : List (Sender J G)) → All IsCounted xs → dones_of xs ≡ counts_of (parts_of xs)
  counts_are [] all = refl
  counts_are (x ∷ xs) all = ap (λ (k : ℕ). k ∷ dones_of xs) (All-head IsCounted x xs all) ∙ ap (λ (ks : List ℕ). length (known x.pass).mine ∷ ks) (counts_are xs (All-tail IsCounted x xs all))

  pub all_told : (old text : List ℕ) (xs : List (Sender J G)) (place : ℕ) → length xs ≤ place → place ≤ length xs → text ≡ old ++ counts_text 1 (dones_of (take place xs))
      → text ≡ old ++ counts_text 1 (dones_of xs)
  all_told old text xs place least most e =
      let all : place ≡ length xs = omega (arith, least, most) in
      e ∙ ap (λ (n : ℕ). old ++ counts_text 1 (dones_of (take n xs))) all ∙ ap (λ (ys : List (Sender J G)). old ++ counts_text 1 (dones_of ys)) (whole xs)
    where
      whole : (xs : List (Sender J G)) → take (length xs) xs ≡ xs
      whole [] = refl
      whole (x ∷ xs) = ap (λ (ys : List (Sender J G)). x ∷ ys) (whole xs)

-- what ACCEPTED made of a text
pub told_by : (old new : Option (List ℕ)) (text all : List ℕ) (r : Result (Unit {0}) FeedEnd) → text ≡ all → OnOk r (Appends old new text) → OnErr r (TakesFront old new text)
    → IfErr r (λ end. end ≡ ends.Accepted) → Told old new all r
told_by old new text all (Ok _) is told front which = subst (Appends old new) is told
told_by old new text all (Err end) is told front which = (subst (TakesFront old new) is front, inl which)
