-- What a pass makes of a plan, call by call.
use Rattle.std.proofs.Common.{◌≡◌, ℕ, zero, suc, ◌+◌, List, [], ◌∷◌, ◌++◌, length, take, drop, refl, sym, ap, ◌∙◌, arith, append_assoc, length-append}
use Rattle.std.proofs.lemmas.List.{drop_all, drop-drop}
use mathlib.Core.List.{IsPrefix}
use Rattle.session_model.specs.Journal.{Entry}
use Rattle.session_model.proofs.Lists.{prefix_take, prefix_trans, prefix_continued, drop_length}
use Rattle.gate_staff.specs.Sent.{entries_behind}
use Rattle.gate_staff.specs.Made.{MadeOf, IsAllMade}

pub prefix_drop : {A : Type 0} (n : ℕ) (xs ys : List A) → IsPrefix xs ys → IsPrefix (drop n xs) (drop n ys)
prefix_drop zero xs ys p = p
prefix_drop (suc n) [] ys p = (drop (suc n) ys, ap (λ zs. zs ++ drop (suc n) ys) (drop_all (suc n) [] (omega arith)))
prefix_drop (suc n) (x ∷ xs) [] p = absurd (cc (p.1))
prefix_drop (suc n) (x ∷ xs) (y ∷ ys) p = prefix_drop n xs ys (p.0, cc (p.1))

-- a beginning, and what is behind it
pub prefix_whole : {A : Type 0} (xs ys : List A) → IsPrefix xs ys → xs ++ drop (length xs) ys ≡ ys
prefix_whole xs ys p = ap (λ w. xs ++ w) (ap (λ w. drop (length xs) w) (sym p.1) ∙ drop_length xs p.0) ∙ p.1

take_length : {A : Type 0} (xs ys : List A) → take (length xs) (xs ++ ys) ≡ xs
take_length [] [] = refl
take_length [] (y ∷ ys) = refl
take_length (x ∷ xs) ys = ap (λ w. x ∷ w) (take_length xs ys)

pub entries_append : (sender own : ℕ) (xs ys : List (List ℕ)) → entries_behind sender own (xs ++ ys) ≡ entries_behind sender own xs ++ entries_behind sender (own + length xs) ys
entries_append sender own [] ys = let e : own ≡ own + 0 = omega arith in ap (λ k. entries_behind sender k ys) e
entries_append sender own (x ∷ xs) ys =
    let e : own + 1 + length xs ≡ own + length (x ∷ xs) = omega arith in
    ap (λ (es : List Entry). record { sender = sender; own_number = own + 1; payload = x } ∷ es)
    (entries_append sender (own + 1) xs ys ∙ ap (λ k. entries_behind sender (own + 1) xs ++ entries_behind sender k ys) e)

pub length-entries : (sender own : ℕ) (xs : List (List ℕ)) → length (entries_behind sender own xs) ≡ length xs
length-entries sender own [] = refl
length-entries sender own (x ∷ xs) = ap suc (length-entries sender (own + 1) xs)

-- a pass made these messages behind its own, which the plan has there
pub record Makes (had : List Entry) (sender : ℕ) (plan : List (List ℕ)) (mine : List Entry) : Type 0 where
  pub more : List (List ℕ)
  pub are : mine ≡ had ++ entries_behind sender (length had) more
  pub planned : IsPrefix more (drop (length had) plan)

pub makes : (had : List Entry) (sender : ℕ) (plan : List (List ℕ)) (mine : List Entry) → MadeOf had sender plan mine → Makes had sender plan mine
makes had sender plan mine m = record { more = take m.count (drop (length had) plan); are = m.are; planned = prefix_take m.count (drop (length had) plan) }

pub made_of : (had : List Entry) (sender : ℕ) (plan : List (List ℕ)) (mine : List Entry) → Makes had sender plan mine → MadeOf had sender plan mine
made_of had sender plan mine m = record {
  count = length m.more;
  are = m.are ∙ ap (λ xs. had ++ entries_behind sender (length had) xs) (sym (ap (λ ys. take (length m.more) ys) (sym m.planned.1) ∙ take_length m.more m.planned.0));
}

-- of a longer plan too
pub over_longer : (had : List Entry) (sender : ℕ) (plan longer : List (List ℕ)) (mine : List Entry) → IsPrefix plan longer → Makes had sender plan mine → Makes had sender longer mine
over_longer had sender plan longer mine p m = record {
  more = m.more;
  are = m.are;
  planned = prefix_trans m.more (drop (length had) plan) (drop (length had) longer) m.planned (prefix_drop (length had) plan longer p);
}

module _ (had mid : List Entry) (sender : ℕ) (plan : List (List ℕ)) (a : Makes had sender plan mid) where
  long : length mid ≡ length had + length a.more
  long =
      ap length a.are ∙ length-append had (entries_behind sender (length had) a.more) ∙ ap (λ k. length had + k) (length-entries sender (length had) a.more)

  behind : drop (length mid) plan ≡ drop (length a.more) (drop (length had) plan)
  behind = ap (λ k. drop k plan) long ∙ sym (drop-drop (length a.more) (length had) plan)

  joined : (more : List (List ℕ)) → mid ++ entries_behind sender (length mid) more ≡ had ++ entries_behind sender (length had) (a.more ++ more)
  joined more =
      ap (λ k. mid ++ entries_behind sender k more) long
      ∙ ap (λ (es : List Entry). es ++ entries_behind sender (length had + length a.more) more) a.are
      ∙ append_assoc had (entries_behind sender (length had) a.more) (entries_behind sender (length had + length a.more) more)
      ∙ ap (λ (es : List Entry). had ++ es) (sym (entries_append sender (length had) a.more more))

  -- some of a plan, and then more of it
  pub makes_on : (mine : List Entry) → Makes mid sender plan mine → Makes had sender plan mine
  makes_on mine b = record {
    more = a.more ++ b.more;
    are = b.are ∙ joined b.more;
    planned = prefix_continued a.more b.more (drop (length had) plan) a.planned (subst_prefix b.planned);
  }
    where
      subst_prefix : IsPrefix b.more (drop (length mid) plan) → IsPrefix b.more (drop (length a.more) (drop (length had) plan))
      subst_prefix p = (p.0, p.1 ∙ behind)

  -- some of a plan, and then all that is left
  pub all_made_on : (mine : List Entry) → IsAllMade mid sender plan mine → IsAllMade had sender plan mine
  all_made_on mine b =
      b ∙ joined (drop (length mid) plan)
      ∙ ap (λ xs. had ++ entries_behind sender (length had) xs) (ap (λ xs. a.more ++ xs) behind ∙ prefix_whole a.more (drop (length had) plan) a.planned)
