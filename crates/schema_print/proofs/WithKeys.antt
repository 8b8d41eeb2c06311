-- Tables by their keys: what is found at a key, which keys there are, and how deep they lie.
use Rattle.std.proofs.Common.{◌≡◌, ℕ, ◌≤◌, max, Bool, true, false, cond, List, [], ◌∷◌, Option, Some, None, Ordering, Less, Equal, Greater, nat_cmp, is_eq, refl, ap, sym, subst, ◌∙◌, arith}
use Rattle.std.specs.Bool.{Decides}
use Rattle.std.specs.Cmp.Lexicographic.{slice_cmp}
use Rattle.std.specs.Ordering.{match_ordering}
use Rattle.std.proofs.lemmas.Map.Text.{is_eq-slice_cmp}
use Rattle.std.proofs.lemmas.Slice.Eq.{bytes_eq-Decides}
use Rattle.toml.specs.Data.{Data, Members, no_members, member, get_member, same_key, depth, members_depth}
use Rattle.toml_walk.specs.Keys.{is_among, unknown_member}
use Rattle.schema_print.specs.Written.{Pairs, add_member, add_if, with_keys}

-- ---- one key

same_decides : (a b : List ℕ) → Decides (same_key a b) (a ≡ b)
same_decides a b = rw is_eq-slice_cmp (bytes_eq-Decides a b)

by_order : (o : Ordering) (found rest : Option Data) → match_ordering o rest found rest ≡ cond (is_eq o) found rest
by_order Less found rest = refl
by_order Equal found rest = refl
by_order Greater found rest = refl

get-member : (key k : List ℕ) (d : Data) (ms : Members) → get_member key (member k d ms) ≡ cond (same_key key k) (Some d) (get_member key ms)
get-member key k d ms = by_order (slice_cmp nat_cmp key k) (Some d) (get_member key ms)

hidden : (b : Bool) (x y z : Option Data) → cond b x z ≡ cond b x (cond b y z)
hidden true x y z = refl
hidden false x y z = refl

swapped : (a b : Bool) (x y z : Option Data) → (a ≡ true → b ≡ true → ⊥) → cond b y (cond a x z) ≡ cond a x (cond b y z)
swapped true true x y z apart = absurd (apart refl refl)
swapped true false x y z apart = refl
swapped false true x y z apart = refl
swapped false false x y z apart = refl

equal_keys : (k l : List ℕ) → slice_cmp nat_cmp k l ≡ Equal → k ≡ l
equal_keys k l same = (same_decides k l).0 (ap is_eq same)

apart_keys : (key k l : List ℕ) → slice_cmp nat_cmp k l ≡ Greater → same_key key k ≡ true → same_key key l ≡ true → ⊥
apart_keys key k l order first second =
    let same : k ≡ l = sym ((same_decides key k).0 first) ∙ (same_decides key l).0 second in
    let tied : same_key k l ≡ true = (same_decides k l).1 same in
    let other : same_key k l ≡ false = ap is_eq order in
    cc

added_at : (o : Ordering) (key k l : List ℕ) (d e : Data) (ms : Members) → slice_cmp nat_cmp k l ≡ o
    → get_member key (add_member k d ms) ≡ cond (same_key key k) (Some d) (get_member key ms)
    → get_member key (match_ordering o (member k d (member l e ms)) (member l d ms) (member l e (add_member k d ms))) ≡ cond (same_key key k) (Some d) (get_member key (member l e ms))
added_at Less key k l d e ms order more = get-member key k d (member l e ms)
added_at Equal key k l d e ms order more =
    subst (λ (x : List ℕ). get_member key (member l d ms) ≡ cond (same_key key x) (Some d) (get_member key (member l e ms))) (sym (equal_keys k l order))
    (get-member key l d ms ∙ hidden (same_key key l) (Some d) (Some e) (get_member key ms) ∙ ap (cond (same_key key l) (Some d)) (sym (get-member key l e ms)))
added_at Greater key k l d e ms order more =
    get-member key l e (add_member k d ms) ∙ ap (cond (same_key key l) (Some e)) more
    ∙ swapped (same_key key k) (same_key key l) (Some d) (Some e) (get_member key ms) (apart_keys key k l order)
    ∙ ap (cond (same_key key k) (Some d)) (sym (get-member key l e ms))

-- what is found at a key when another was added
pub get-add_member : (key k : List ℕ) (d : Data) (ms : Members) → get_member key (add_member k d ms) ≡ cond (same_key key k) (Some d) (get_member key ms)
unfolding add_member
get-add_member key k d no_members = get-member key k d no_members
get-add_member key k d (member l e ms) = added_at (slice_cmp nat_cmp k l) key k l d e ms refl (get-add_member key k d ms)

known_behind : (b : Bool) (l : List ℕ) (before after : Option (List ℕ)) → cond b before (Some l) ≡ None → (before ≡ None → after ≡ None) → cond b after (Some l) ≡ None
known_behind true l before after known more = more known
known_behind false l before after known more = known

unknown_at : (o : Ordering) (known : List (List ℕ)) (k l : List ℕ) (d e : Data) (ms : Members) → is_among k known ≡ true
    → unknown_member known (member l e ms) ≡ None
    → (unknown_member known ms ≡ None → unknown_member known (add_member k d ms) ≡ None)
    → unknown_member known (match_ordering o (member k d (member l e ms)) (member l d ms) (member l e (add_member k d ms))) ≡ None
unknown_at Less known k l d e ms among before more = rw among before
unknown_at Equal known k l d e ms among before more = before
unknown_at Greater known k l d e ms among before more = known_behind (is_among l known) l _ _ before more

-- a known key more
pub unknown-add_member : (known : List (List ℕ)) (k : List ℕ) (d : Data) (ms : Members) → is_among k known ≡ true → unknown_member known ms ≡ None → unknown_member known (add_member k d ms) ≡ None
unfolding add_member
unknown-add_member known k d no_members among before = rw among refl
unknown-add_member known k d (member l e ms) among before =
    unknown_at (slice_cmp nat_cmp k l) known k l d e ms among before (unknown-add_member known k d ms among)

depth_at : (o : Ordering) (most : ℕ) (k l : List ℕ) (d e : Data) (ms : Members) → depth d ≤ most → max (depth e) (members_depth ms) ≤ most
    → members_depth (add_member k d ms) ≤ most
    → members_depth (match_ordering o (member k d (member l e ms)) (member l d ms) (member l e (add_member k d ms))) ≤ most
depth_at Less most k l d e ms here all more = omega arith
depth_at Equal most k l d e ms here all more = omega arith
depth_at Greater most k l d e ms here all more = omega arith

-- no deeper than what was added
pub depth-add_member : (most : ℕ) (k : List ℕ) (d : Data) (ms : Members) → depth d ≤ most → members_depth ms ≤ most → members_depth (add_member k d ms) ≤ most
unfolding add_member
depth-add_member most k d no_members here all = omega arith
depth-add_member most k d (member l e ms) here all =
    depth_at (slice_cmp nat_cmp k l) most k l d e ms here all (depth-add_member most k d ms here (omega arith))

-- ---- many keys

abbrev pub pick : Option Data → Option Data → Option Data
pick None rest = rest
pick (Some d) rest = Some d

-- what is found at a key among some, the last one first
abbrev pub found : List ℕ → Pairs → Option Data → Option Data
found key [] rest = rest
found key (p ∷ ps) rest = found key ps (cond (same_key key p.0) (pick p.1 rest) rest)

same_both : (b : Bool) (x : Option Data) → x ≡ cond b x x
same_both true x = refl
same_both false x = refl

get-add_if : (key k : List ℕ) (o : Option Data) (ms : Members) → get_member key (add_if k o ms) ≡ cond (same_key key k) (pick o (get_member key ms)) (get_member key ms)
get-add_if key k None ms = same_both (same_key key k) (get_member key ms)
get-add_if key k (Some d) ms = get-add_member key k d ms

pub get-with_keys : (key : List ℕ) (ps : Pairs) (ms : Members) → get_member key (with_keys ms ps) ≡ found key ps (get_member key ms)
get-with_keys key [] ms = refl
get-with_keys key (p ∷ ps) ms = get-with_keys key ps (add_if p.0 p.1 ms) ∙ ap (found key ps) (get-add_if key p.0 p.1 ms)

-- each key is a known one
abbrev pub all_known : List (List ℕ) → Pairs → Bool
all_known known [] = true
all_known known (p ∷ ps) = cond (is_among p.0 known) (all_known known ps) false

known_first : (a b : Bool) → cond a b false ≡ true → (a ≡ true) × (b ≡ true)
known_first true b all = (refl, all)
known_first false b all = absurd cc

unknown-add_if : (known : List (List ℕ)) (k : List ℕ) (o : Option Data) (ms : Members) → is_among k known ≡ true → unknown_member known ms ≡ None → unknown_member known (add_if k o ms) ≡ None
unknown-add_if known k None ms among before = before
unknown-add_if known k (Some d) ms among before = unknown-add_member known k d ms among before

pub unknown-with_keys : (known : List (List ℕ)) (ps : Pairs) (ms : Members) → all_known known ps ≡ true → unknown_member known ms ≡ None → unknown_member known (with_keys ms ps) ≡ None
unknown-with_keys known [] ms all before = before
unknown-with_keys known (p ∷ ps) ms all before =
    let both = known_first (is_among p.0 known) (all_known known ps) all in
    unknown-with_keys known ps (add_if p.0 p.1 ms) both.1 (unknown-add_if known p.0 p.1 ms both.0 before)

abbrev pub option_depth : Option Data → ℕ
option_depth None = 0
option_depth (Some d) = depth d

-- the greatest depth of what is there
abbrev pub deepest : Pairs → ℕ
deepest [] = 0
deepest (p ∷ ps) = max (option_depth p.1) (deepest ps)

depth-add_if : (most : ℕ) (k : List ℕ) (o : Option Data) (ms : Members) → option_depth o ≤ most → members_depth ms ≤ most → members_depth (add_if k o ms) ≤ most
depth-add_if most k None ms here all = all
depth-add_if most k (Some d) ms here all = depth-add_member most k d ms here all

pub depth-with_keys : (most : ℕ) (ps : Pairs) (ms : Members) → deepest ps ≤ most → members_depth ms ≤ most → members_depth (with_keys ms ps) ≤ most
depth-with_keys most [] ms here all = all
depth-with_keys most (p ∷ ps) ms here all =
    depth-with_keys most ps (add_if p.0 p.1 ms) (omega arith) (depth-add_if most p.0 p.1 ms (omega arith) all)
