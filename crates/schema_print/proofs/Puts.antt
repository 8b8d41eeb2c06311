-- An insert into the map of a table, among the members that it stands for.
use Rattle.std.proofs.Common.{◌≡◌, ℕ, List, [], ◌∷◌, String, Global, Ordering, Less, Equal, Greater, string_bytes, refl, ◌∙◌}
use Rattle.std.specs.BTreeMap.{insert_entry}
use Rattle.std.specs.Ordering.{match_ordering}
use Rattle.std.specs.String.{string_cmp}
use Rattle.toml.specs.View.{view, members_view}
use Rattle.toml.specs.declared.value.Value.{Value}
use Rattle.toml.proofs.Views.{Entry}
use Rattle.schema_print.specs.Written.{add_member}

match_members : (o : Ordering) (a b c : List Entry) → members_view (match_ordering o a b c) ≡ match_ordering o (members_view a) (members_view b) (members_view c)
match_members Less a b c = refl
match_members Equal a b c = refl
match_members Greater a b c = refl

members_view-insert_entry : (k : String Global) (v : Value) (es : List Entry) → members_view (insert_entry string_cmp es k v) ≡ add_member (string_bytes k) (view v) (members_view es)
unfolding add_member
members_view-insert_entry k v [] = refl
members_view-insert_entry k v (e ∷ es) = match_members (string_cmp k e.0) _ _ _ ∙ rw (members_view-insert_entry k v es) refl

pub entries_put : (k : String Global) (name : List ℕ) (v : Value) (es : List Entry) → string_bytes k ≡ name → members_view (insert_entry string_cmp es k v) ≡ add_member name (view v) (members_view es)
entries_put k name v es same = rw (← same) (members_view-insert_entry k v es)
