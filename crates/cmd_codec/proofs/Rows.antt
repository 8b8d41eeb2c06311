-- Messages read in a row.
use Rattle.std.proofs.Common.{◌≡◌, ℕ, List, [], ◌∷◌, ◌++◌, Some, None, Ok, Err, refl, sym, ◌∙◌, ap, subst}
use Rattle.sbe_value.specs.declared.message.Message.{Message}
use Rattle.sbe_layout.specs.declared.plan.Plan.{Plan}
use Rattle.text_names.specs.Fronts.{Front, front_of, strict_or_wide}
use Rattle.cmd_codec.specs.Encoded.{AreAll, AreRead, AreStrict}

-- one more at the end
pub read-more : (plan : Plan) (ls : List (List ℕ)) (ms : List Message) (behind : List (List ℕ)) (m : Message) (rest : List (List ℕ))
    → AreRead plan ls ms behind → front_of plan behind ≡ Ok (Some (m, rest)) → AreRead plan ls (ms ++ m ∷ []) rest
read-more plan ls [] behind m rest same is = record { rest = rest; is = ap (front_of plan) same ∙ is; behind = refl }
read-more plan ls (n ∷ ms) behind m rest read is = record { rest = read.rest; is = read.is; behind = read-more plan read.rest ms behind m rest read.behind is }

-- messages behind messages
pub read-on : (plan : Plan) (ls : List (List ℕ)) (ms others : List Message) (behind end : List (List ℕ))
    → AreRead plan ls ms behind → AreRead plan behind others end → AreRead plan ls (ms ++ others) end
read-on plan ls [] others behind end same more = subst (λ l. AreRead plan l others end) (sym same) more
read-on plan ls (m ∷ ms) others behind end first more = record { rest = first.rest; is = first.is; behind = read-on plan first.rest ms others behind end first.behind more }

-- and then no others
pub all-on : (plan : Plan) (ls : List (List ℕ)) (ms others : List Message) (behind : List (List ℕ))
    → AreRead plan ls ms behind → AreAll plan behind others → AreAll plan ls (ms ++ others)
all-on plan ls [] others behind same more = subst (λ l. AreAll plan l others) (sym same) more
all-on plan ls (m ∷ ms) others behind first more = record { rest = first.rest; is = first.is; behind = all-on plan first.rest ms others behind first.behind more }

-- what is read of the lines behind some messages
pub record Others (plan : Plan) (ms all : List Message) (behind : List (List ℕ)) : Type 0 where
  pub more : List Message
  pub joins : all ≡ ms ++ more
  pub read : AreAll plan behind more

ok-pair : (m n : Message) (r s : List (List ℕ)) (x : Front) → x ≡ Ok (Some (m, r)) → x ≡ Ok (Some (n, s)) → (m ≡ n) × (r ≡ s)
ok-pair m n r s x a b =
    let pair : (m, r) ≡ (n, s) = cc in
    (ap (λ (p : Message × List (List ℕ)). p.0) pair, ap (λ (p : Message × List (List ℕ)). p.1) pair)

ok-none : (m : Message) (r : List (List ℕ)) (x : Front) → x ≡ Ok (Some (m, r)) → x ≡ Ok None → ⊥
ok-none m r x a b = cc

ok-err : (m : Message) (r : List (List ℕ)) (left : ℕ) (x : Front) → x ≡ Ok (Some (m, r)) → x ≡ Err left → ⊥
ok-err m r left x a b = cc

none-err : (left : ℕ) (x : Front) → x ≡ Ok None → x ≡ Err left → ⊥
none-err left x a b = cc

pub others : (plan : Plan) (ls : List (List ℕ)) (ms all : List Message) (behind : List (List ℕ)) → AreRead plan ls ms behind → AreAll plan ls all → Others plan ms all behind
others plan ls [] all behind same read = record { more = all; joins = refl; read = subst (λ l. AreAll plan l all) same read }
others plan ls (m ∷ ms) [] behind first none = absurd (ok-none m first.rest (front_of plan ls) first.is none)
others plan ls (m ∷ ms) (n ∷ all) behind first second =
    let both = ok-pair m n first.rest second.rest (front_of plan ls) first.is second.is in
    let same : first.rest ≡ second.rest = both.1 in
    let same_message : m ≡ n = both.0 in
    let o = others plan first.rest ms all behind first.behind (subst (λ l. AreAll plan l all) (sym same) second.behind) in
    record { more = o.more; joins = ap (λ l. n ∷ l) o.joins ∙ ap (λ x. x ∷ (ms ++ o.more)) (sym same_message); read = o.read }

-- a text spells at most one list of messages
pub one-row : (plan : Plan) (ls : List (List ℕ)) (ms all : List Message) → AreAll plan ls ms → AreAll plan ls all → ms ≡ all
one-row plan ls [] [] first second = refl
one-row plan ls [] (n ∷ all) first second = absurd (ok-none n second.rest (front_of plan ls) second.is first)
one-row plan ls (m ∷ ms) [] first second = absurd (ok-none m first.rest (front_of plan ls) first.is second)
one-row plan ls (m ∷ ms) (n ∷ all) first second =
    let both = ok-pair m n first.rest second.rest (front_of plan ls) first.is second.is in
    let same : first.rest ≡ second.rest = both.1 in
    let same_message : m ≡ n = both.0 in
    ap (λ l. m ∷ l) (one-row plan first.rest ms all first.behind (subst (λ l. AreAll plan l all) (sym same) second.behind)) ∙ ap (λ x. x ∷ all) same_message

-- and then no line of it is refused
pub not-refused : (plan : Plan) (ls : List (List ℕ)) (ms all : List Message) (behind : List (List ℕ)) (left : ℕ) → AreRead plan ls ms behind → front_of plan behind ≡ Err left → AreAll plan ls all → ⊥
not-refused plan ls ms all behind left first refused second =
    let o = others plan ls ms all behind first second in
    none-left plan o.more behind left refused o.read
  where
    none-left : (plan : Plan) (more : List Message) (behind : List (List ℕ)) (left : ℕ) → front_of plan behind ≡ Err left → AreAll plan behind more → ⊥
    none-left plan [] behind left refused read = none-err left (front_of plan behind) read refused
    none-left plan (m ∷ more) behind left refused read = ok-err m read.rest left (front_of plan behind) read.is refused

-- messages in the strict form
pub strict-all : (plan : Plan) (ls : List (List ℕ)) (ms : List Message) → AreStrict plan ls ms → AreAll plan ls ms
strict-all plan ls [] none = ap (front_of plan) none
strict-all plan ls (m ∷ ms) are = record { rest = are.0; is = ap (strict_or_wide plan ls) are.1; behind = strict-all plan are.0 ms are.2 }
