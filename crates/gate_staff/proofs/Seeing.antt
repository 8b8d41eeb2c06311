-- What a pass has seen of its own entries, call by call.
use Rattle.std.proofs.Common.{◌≡◌, ℕ, suc, ◌-◌, List, [], ◌∷◌, ◌++◌, length, slice_get, Some, refl, sym, ap, subst, ◌∙◌}
use Rattle.std.specs.List.{AllByRecursion}
use Rattle.session_model.specs.Journal.{Entry, BeginsHistory}
use Rattle.session_model.proofs.Lists.{all_weaker, all_append, prefix_get}
use Rattle.gate_turn.specs.Views.{Part}
use Rattle.gate_staff.specs.Sent.{StandAt}
use Rattle.gate_staff.specs.Made.{IsAmong, SeesOwn}

-- what was seen of some entries is in what begins with it
pub among_on : (p q : Part) (es : List Entry) → BeginsHistory p.seen q.seen → AllByRecursion (IsAmong p.seen.made) es → AllByRecursion (IsAmong q.seen.made) es
among_on p q es seen all = all_weaker (IsAmong p.seen.made) (IsAmong q.seen.made) (λ e x. (x.0, prefix_get p.seen.made q.seen.made x.0 e seen.made x.1)) es all

-- a pass that made nothing
pub sees_still : (p q : Part) → BeginsHistory p.seen q.seen → q.mine ≡ p.mine → SeesOwn p → SeesOwn q
sees_still p q seen mine own = subst (λ (es : List Entry). AllByRecursion (IsAmong q.seen.made) es) (sym mine) (among_on p q p.mine seen own)

get_last : {A : Type 0} (xs : List A) (x : A) → slice_get (xs ++ x ∷ []) (length xs) ≡ Some x
get_last [] x = refl
get_last (y ∷ xs) x = get_last xs x

-- and one that made the last entry of what it has seen
pub sees_last : (p q : Part) (before : List Entry) (e : Entry) → BeginsHistory p.seen q.seen → q.seen.made ≡ before ++ e ∷ [] → q.mine ≡ p.mine ++ e ∷ [] → SeesOwn p → SeesOwn q
sees_last p q before e seen last mine own =
    subst (λ (es : List Entry). AllByRecursion (IsAmong q.seen.made) es) (sym mine)
    (all_append (IsAmong q.seen.made) p.mine (e ∷ []) (among_on p q p.mine seen own) ((length before, ap (λ (es : List Entry). slice_get es (length before)) last ∙ get_last before e), tt))

-- entries that stand at numbers are as many as these, and are among those of the history
pub stand_long : (made : List Entry) (n : ℕ) (ks : List ℕ) (es : List Entry) → StandAt made n ks es → length es ≡ length ks
stand_long made n [] [] s = refl
stand_long made n [] (e ∷ es) s = absurd s
stand_long made n (k ∷ ks) [] s = absurd s
stand_long made n (k ∷ ks) (e ∷ es) s = ap suc (stand_long made k ks es s.2)

pub stand_among : (made : List Entry) (n : ℕ) (ks : List ℕ) (es : List Entry) → StandAt made n ks es → AllByRecursion (IsAmong made) es
stand_among made n [] [] s = tt
stand_among made n [] (e ∷ es) s = absurd s
stand_among made n (k ∷ ks) [] s = absurd s
stand_among made n (k ∷ ks) (e ∷ es) s = ((k - 1, s.1), stand_among made k ks es s.2)
