-- The walk that keeps the best fault so far ends with the least fault at its first place.
use Rattle.std.proofs.Common.{◌≡◌, ℕ, suc, ◌≤◌, ◌∙◌, sym, ap, refl, Bool, true, false, inr, Option, Some, None, IsTrue, is_none, nat_lt, List, [], ◌∷◌, ◌++◌, if◌then◌else◌, arith, le_refl, lit≤}
use Rattle.std.proofs.lemmas.Bool.{false≢true}
use Rattle.std.proofs.lemmas.Bool.Decides.{nat_tests}
use Rattle.sbe_value.specs.declared.path.Step.{Step}
use Rattle.sbe_schema.specs.declared.fault.PathStep.{PathStep}
use Rattle.sbe_schema.specs.declared.fault.SchemaFault.{SchemaFault}
use Rattle.sbe_schema.specs.declared.fault.SchemaKind.{SchemaKind}
use Rattle.schema_types.specs.declared.schema.Schema.{Schema}
use Rattle.sbe_schema.specs.Names.{Names, Numbers}
use Rattle.sbe_schema.specs.Places.{Place, Table, whole, path_of}
use Rattle.std.specs.FinSet as set
use Rattle.sbe_schema.specs.Walk.{walk, walk_types, walk_messages}
use Rattle.std.specs.Option.{option_map}
use Rattle.sbe_schema.specs.Checked.{rules_in_order, is_checked, least_fault, breaks, occurs, first_place, fault, at_first, least_of_rules, fault_of, FaultTells, KindTells, IsLeast}
use Rattle.sbe_schema.proofs.Found.{none_of, kind_of}
use Rattle.sbe_schema.specs.Search.{rank, first_broken, rule_of, found_at, better, folded}

-- rules in rising order from a rank on, and a fault that is at least of a rank
abbrev Rising : ℕ → List SchemaKind → Type 0
Rising n [] = Unit {0}
Rising n (k ∷ ks) = (n ≤ rank k) × Rising (suc (rank k)) ks

abbrev Above : ℕ → Option SchemaFault → Type 0
Above n None = Unit {0}
Above n (Some f) = n ≤ rank f.kind

weaker : (m n : ℕ) (o : Option SchemaFault) → n ≤ m → Above m o → Above n o
weaker m n None le h = tt
weaker m n (Some f) le h = omega arith

better_left : (f : SchemaFault) (o : Option SchemaFault) → Above (rank f.kind) o → better (Some f) o ≡ Some f
better_left f None h = refl
better_left f (Some g) h = let t : nat_lt (rank g.kind) (rank f.kind) ≡ false = grind (arith, nat_tests) in ap (λ b. if b then Some g else Some f) t

better_right : (o : Option SchemaFault) (g : SchemaFault) → Above (suc (rank g.kind)) o → better o (Some g) ≡ Some g
better_right None g h = refl
better_right (Some f) g h = let t : nat_lt (rank g.kind) (rank f.kind) ≡ true = grind (arith, nat_tests) in ap (λ b. if b then Some g else Some f) t

better-none : (o : Option SchemaFault) → better o None ≡ o
better-none None = refl
better-none (Some f) = refl

pick : Bool → SchemaFault → SchemaFault → Option SchemaFault
pick b g f = if b then Some g else Some f

better_assoc : (a b c : Option SchemaFault) → better (better a b) c ≡ better a (better b c)
better_assoc None b c = refl
better_assoc (Some f) None c = refl
better_assoc (Some f) (Some g) None = better-none _
better_assoc (Some f) (Some g) (Some h) =
    elim (nat_lt (rank g.kind) (rank f.kind)) as (λ b. nat_lt (rank g.kind) (rank f.kind) ≡ b → better (if b then Some g else Some f) (Some h) ≡ better (Some f) (better (Some g) (Some h))) [
      | true ↦ λ p. elim (nat_lt (rank h.kind) (rank g.kind)) as (λ b. nat_lt (rank h.kind) (rank g.kind) ≡ b → (if b then Some h else Some g) ≡ better (Some f) (if b then Some h else Some g)) [
        | true ↦ λ q. let t : nat_lt (rank h.kind) (rank f.kind) ≡ true = grind (arith, nat_tests) in sym (ap (λ b. if b then Some h else Some f) t)
        | false ↦ λ q. sym (ap (λ b. if b then Some g else Some f) p)
      ] refl
      | false ↦ λ p. elim (nat_lt (rank h.kind) (rank g.kind)) as (λ b. nat_lt (rank h.kind) (rank g.kind) ≡ b → better (Some f) (Some h) ≡ better (Some f) (if b then Some h else Some g)) [
        | true ↦ λ q. refl
        | false ↦ λ q. let t : nat_lt (rank h.kind) (rank f.kind) ≡ false = grind (arith, nat_tests) in ap (λ b. if b then Some h else Some f) t ∙ sym (ap (λ b. if b then Some g else Some f) p)
      ] refl
    ] refl

at_first_above : (k : SchemaKind) (n : ℕ) (o : Option (List Step)) (l : Option SchemaFault) → n ≤ rank k → Above (suc (rank k)) l → Above n (at_first k o l)
at_first_above k n (Some path) l le h = le
at_first_above k n None l le h = weaker (suc (rank k)) n l (omega arith) h

least_above : (s : Schema) (kinds : List SchemaKind) (n : ℕ) → Rising n kinds → (ps : List Place) → Above n (least_of_rules s kinds ps)
least_above s [] n r ps = tt
least_above s (k ∷ ks) n r ps = at_first_above k n (first_place s k ps) _ r.0 (least_above s ks (suc (rank k)) r.1 ps)

found_above : (b : Bool) (k : SchemaKind) (n : ℕ) (o : Option SchemaKind) (path_steps : List PathStep) → n ≤ rank k → Above (suc (rank k)) (found_at o path_steps) → Above n (found_at (if b then Some k else o) path_steps)
found_above true k n o path_steps le h = le
found_above false k n o path_steps le h = weaker (suc (rank k)) n (found_at o path_steps) (omega arith) h

first_above : (s : Schema) (kinds : List SchemaKind) (n : ℕ) → Rising n kinds → (names : Names) (numbers : Numbers) (table : Table) (path_steps : List PathStep) → Above n (found_at (first_broken s kinds names numbers table) path_steps)
first_above s [] n r names numbers table path_steps = tt
first_above s (k ∷ ks) n r names numbers table path_steps =
    found_above (breaks s k names numbers table) k n _ path_steps r.0 (first_above s ks (suc (rank k)) r.1 names numbers table path_steps)

by_cases : (b : Bool) (o : Option (List Step)) (k : SchemaKind) (path_steps : List PathStep) (first : Option SchemaKind) (rest all : Option SchemaFault) → Above (suc (rank k)) (found_at first path_steps) → Above (rank k) (at_first k o rest) → all ≡ better (found_at first path_steps) rest → at_first k (if b then Some (path_of path_steps) else o) all ≡ better (found_at (if b then Some k else first) path_steps) (at_first k o rest)
by_cases true o k path_steps first rest all f r e = sym (better_left (fault k (path_of path_steps)) (at_first k o rest) r)
by_cases false (Some path) k path_steps first rest all f r e = sym (better_right (found_at first path_steps) (fault k path) f)
by_cases false None k path_steps first rest all f r e = e

least-cons : (s : Schema) (kinds : List SchemaKind) (n : ℕ) → Rising n kinds → (p : Place) (ps : List Place) → least_of_rules s kinds (p ∷ ps) ≡ better (found_at (first_broken s kinds p.names p.numbers p.table) p.path_steps) (least_of_rules s kinds ps)
least-cons s [] n r p ps = refl
least-cons s (k ∷ ks) n r p ps =
    by_cases (occurs s k p) (first_place s k ps) k p.path_steps _ (least_of_rules s ks ps) _ (first_above s ks (suc (rank k)) r.1 p.names p.numbers p.table p.path_steps) (least_above s (k ∷ ks) (rank k) (le_refl (rank k), r.1) ps) (least-cons s ks (suc (rank k)) r.1 p ps)

in_order : Rising 0 rules_in_order
in_order = (lit≤ tt, (lit≤ tt, (lit≤ tt, (lit≤ tt, (lit≤ tt, (lit≤ tt, (lit≤ tt, (lit≤ tt, (lit≤ tt, (lit≤ tt, (lit≤ tt, tt)))))))))))

pub folded_is : (s : Schema) (best : Option SchemaFault) (ps : List Place) → folded s best ps ≡ better best (least_of_rules s rules_in_order ps)
unfolding rule_of
folded_is s best [] = sym (better-none best)
folded_is s best (p ∷ ps) =
    folded_is s (better best (found_at (first_broken s rules_in_order p.names p.numbers p.table) p.path_steps)) ps ∙ better_assoc best _ _ ∙ ap (better best) (sym (least-cons s rules_in_order 0 in_order p ps))

pub folded_append : (s : Schema) (best : Option SchemaFault) (xs ys : List Place) → folded s best (xs ++ ys) ≡ folded s (folded s best xs) ys
folded_append s best [] ys = refl
folded_append s best (x ∷ xs) ys =
    folded_append s (better best (found_at (rule_of s x.names x.numbers x.table) x.path_steps)) xs ys

-- ---- a schema is checked exactly where no fault is found

none_is : {A : Type 0} (o : Option A) → is_none o ≡ true → o ≡ None
none_is None e = refl
none_is (Some x) e = absurd (false≢true e)

pub tells : (s : Schema) → FaultTells s
unfolding is_checked fault_of
tells s = (λ t. none_is _ (none_of s rules_in_order ∙ t), λ e. sym (none_of s rules_in_order) ∙ ap is_none e)

pub checked_by_none : (s : Schema) → fault_of s ≡ None → IsTrue (is_checked s)
checked_by_none s = (tells s).1

pub kind_tells : (s : Schema) → KindTells s
unfolding fault_of least_fault
kind_tells s = kind_of s rules_in_order

pub least_by_fault : (s : Schema) (found : SchemaFault) → fault_of s ≡ Some found → IsLeast s found
least_by_fault s found e = inr (sym (kind_tells s) ∙ ap (option_map (λ found. found.kind)) e)

-- the walk from its first place on
pub found_by_walk : (s : Schema) (best end : Option SchemaFault) → best ≡ found_at (rule_of s set.empty set.empty whole) [] → end ≡ folded s (folded s best (walk_types s.types set.empty 0 s.types)) (walk_messages s.types set.empty set.empty 0 s.messages) → end ≡ fault_of s
unfolding fault_of walk
found_by_walk s best end b e =
    e
    ∙ sym (folded_append s best (walk_types s.types set.empty 0 s.types) (walk_messages s.types set.empty set.empty 0 s.messages))
    ∙ ap (λ o. folded s o (walk_types s.types set.empty 0 s.types ++ walk_messages s.types set.empty set.empty 0 s.messages)) b
    ∙ folded_is s None (record { path_steps = []; names = set.empty; numbers = set.empty; table = whole } ∷ (walk_types s.types set.empty 0 s.types ++ walk_messages s.types set.empty set.empty 0 s.messages))
