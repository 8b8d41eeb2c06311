-- Beginnings of histories, and what one pass may add to one.
use Rattle.std.proofs.Common.{◌≡◌, ◌≢◌, ◌⊎◌, ℕ, ◌<◌, ◌≤◌, eqb, cond, Bool, true, false, not, ◌&&◌, ◌||◌, true≢false, List, [], ◌∷◌, ◌++◌, length, drop, inl, inr, refl, sym, ap, ◌∙◌, subst, arith, append-nil, eq-eqb, ne_eqb}
use Rattle.std.proofs.lemmas.List.Elements.{filter-append}
use Rattle.std.specs.List.{AllByRecursion}
use Rattle.session_model.specs.Journal.{Entry, History, BeginsHistory, entries_of}
use Rattle.session_model.proofs.Lists.{prefix_self, prefix_trans, prefix_equal, prefix_length, drop_length}
use Rattle.gate_turn.specs.Views.{marks_newly}
use Rattle.gate_turn.specs.Rule.{In}
use Rattle.gate_turn.specs.Steps.{Adds, adds_nothing, adds_entries, adds_mark}

pub begins_self : (h : History) → BeginsHistory h h
begins_self h = record { made = prefix_self h.made; alone = λ _. refl }

pub begins_on : (a b c : History) → BeginsHistory a b → BeginsHistory b c → BeginsHistory a c
begins_on a b c p q = record {
  made = prefix_trans a.made b.made c.made p.made q.made;
  alone = λ f. p.alone f ∙ q.alone (ap (λ (h : History). h.finished) (sym (p.alone f)) ∙ f);
}

pub begins_length : (a b : History) → BeginsHistory a b → length a.made ≤ length b.made
begins_length a b p = prefix_length a.made b.made p.made

pub or_cases : (a b : Bool) → (a || b) ≡ true → (a ≡ true) ⊎ (b ≡ true)
or_cases true b e = inl refl
or_cases false b e = inr e

pub or_left : (a b : Bool) → a ≡ true → (a || b) ≡ true
or_left true b e = refl
or_left false b e = absurd (true≢false (sym e))

pub or_right : (a b : Bool) → b ≡ true → (a || b) ≡ true
or_right true b e = refl
or_right false b e = e

newly : (was now : Bool) → (now && not was) ≡ true → (now ≡ true) × (was ≢ true)
newly true true e = absurd (true≢false (sym e))
newly true false e = absurd (true≢false (sym e))
newly false true e = (refl, λ f. true≢false (sym f))
newly false false e = absurd (true≢false (sym e))

newly_back : (was now : Bool) → now ≡ true → (was ≡ true) ⊎ ((now && not was) ≡ true)
newly_back true now e = inl refl
newly_back false true e = inr refl
newly_back false false e = absurd (true≢false (sym e))

pub newly_marked : (was now : History) → marks_newly was now ≡ true → (now.finished ≡ true) × (was.finished ≢ true)
newly_marked was now = newly was.finished now.finished

pub marked_or_newly : (was now : History) → now.finished ≡ true → (was.finished ≡ true) ⊎ (marks_newly was now ≡ true)
marked_or_newly was now = newly_back was.finished now.finished

-- what follows where the pass of number n added what it may
pub record Goes (n : ℕ) (was now : History) : Type 0 where
  pub begins : BeginsHistory was now
  pub added : List Entry
  pub behind : now.made ≡ was.made ++ added
  pub dropped : drop (length was.made) now.made ≡ added
  pub own : AllByRecursion (λ (e : Entry). e.sender ≡ n) added
  pub stays : was.finished ≡ true → now.finished ≡ true

pub goes_nowhere : (n : ℕ) (was now : History) → now ≡ was → Goes n was now
goes_nowhere n was now e =
    let made : was.made ≡ now.made = ap (λ (h : History). h.made) (sym e) in
    let behind : now.made ≡ was.made ++ [] = sym made ∙ sym (append-nil was.made) in
    record {
      begins = record { made = prefix_equal was.made now.made made; alone = λ _. sym e };
      added = [];
      behind = behind;
      dropped = ap (drop (length was.made)) behind ∙ drop_length was.made [];
      own = tt;
      stays = λ f. ap (λ (h : History). h.finished) e ∙ f;
    }

pub goes : (n : ℕ) (was now : History) → Adds n was now → Goes n was now
goes n was now (adds_nothing e) = goes_nowhere n was now e
goes n was now (adds_entries a) = record {
  begins = record { made = (a.entries, sym a.behind); alone = λ f. absurd (a.open_before f) };
  added = a.entries;
  behind = a.behind;
  dropped = ap (drop (length was.made)) a.behind ∙ drop_length was.made a.entries;
  own = a.authors;
  stays = λ f. absurd (a.open_before f);
}
goes n was now (adds_mark a) =
    let behind : now.made ≡ was.made ++ [] = a.same ∙ sym (append-nil was.made) in
    record {
      begins = record { made = prefix_equal was.made now.made (sym a.same); alone = λ f. absurd (a.open_before f) };
      added = [];
      behind = behind;
      dropped = ap (drop (length was.made)) behind ∙ drop_length was.made [];
      own = tt;
      stays = λ f. absurd (a.open_before f);
    }

-- the entries of a pass that are none of those added
none_of : (m n : ℕ) (es : List Entry) → AllByRecursion (λ (e : Entry). e.sender ≡ n) es → m ≢ n → entries_of es m ≡ []
none_of m n [] all ne = refl
none_of m n (e ∷ es) all ne = ap (λ b. cond b (e ∷ entries_of es m) (entries_of es m)) (ne_eqb e.sender m (λ f. ne (sym f ∙ all.0))) ∙ none_of m n es all.1 ne

all_of : (n : ℕ) (es : List Entry) → AllByRecursion (λ (e : Entry). e.sender ≡ n) es → entries_of es n ≡ es
all_of n [] all = refl
all_of n (e ∷ es) all = ap (λ b. cond b (e ∷ entries_of es n) (entries_of es n)) (eq-eqb e.sender n all.0) ∙ ap (λ xs. e ∷ xs) (all_of n es all.1)

-- those of a pass that was not made yet
pub none_beyond : (made n : ℕ) (es : List Entry) → AllByRecursion (λ (e : Entry). In made e.sender) es → made < n → entries_of es n ≡ []
none_beyond made n [] all l = refl
none_beyond made n (e ∷ es) all l = ap (λ b. cond b (e ∷ entries_of es n) (entries_of es n)) (ne_eqb e.sender n (λ f. omega (arith, all.0.up_to))) ∙ none_beyond made n es all.1 l

pub entries_of-append : (xs ys : List Entry) (n : ℕ) → entries_of (xs ++ ys) n ≡ entries_of xs n ++ entries_of ys n
entries_of-append xs ys n = filter-append (λ (e : Entry). eqb e.sender n) xs ys

pub goes_others : (m n : ℕ) (was now : History) → Goes n was now → m ≢ n → entries_of now.made m ≡ entries_of was.made m
goes_others m n was now g ne =
    ap (λ es. entries_of es m) g.behind ∙ (entries_of-append was.made g.added m ∙ (ap (λ es. entries_of was.made m ++ es) (none_of m n g.added g.own ne) ∙ append-nil (entries_of was.made m)))

pub goes_own : (n : ℕ) (was now : History) → Goes n was now → entries_of now.made n ≡ entries_of was.made n ++ drop (length was.made) now.made
goes_own n was now g =
    ap (λ es. entries_of es n) g.behind ∙ (entries_of-append was.made g.added n ∙ ap (λ es. entries_of was.made n ++ es) (all_of n g.added g.own ∙ sym g.dropped))

pub all_in : (made n : ℕ) → In made n → (es : List Entry) → AllByRecursion (λ (e : Entry). e.sender ≡ n) es → AllByRecursion (λ (e : Entry). In made e.sender) es
all_in made n h [] all = tt
all_in made n h (e ∷ es) all = (subst (In made) (sym all.0) h, all_in made n h es all.1)
