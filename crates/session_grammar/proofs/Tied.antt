-- The laws: what is spelled is spelled alike, as the tree of a session message tells the message.
use Rattle.std.proofs.Common.{◌≡◌, ℕ, ◌≤◌, Bool, true, pos, ℤ, negsuc, nat_eq, nat_le, List, [], ◌∷◌, Option, Some, None, if◌then◌else◌, refl, sym, ap, ◌∙◌, subst}
use Rattle.sbe_value.specs.declared.item.Item.{Item}
use Rattle.sbe_value.specs.declared.item.Item.TheVariants.{Num, Null, Absent, Text, Raw}
use Rattle.sbe_value.specs.declared.datum.Datum.{Datum}
use Rattle.sbe_value.specs.declared.datum.Datum.TheVariants as variable
use Rattle.sbe_value.specs.declared.message.Message as tree
use Rattle.std.proofs.lemmas.Bool.{le-leb}
use Rattle.fixp_msgs.specs.declared.messages.Expected.{Expected}
use Rattle.fixp_msgs.specs.declared.messages.Expected.TheVariants as expects
use Rattle.fixp_msgs.specs.Message.{Message}
use Rattle.fixp_msgs.specs.Grammar.{Spells}
use Rattle.session_grammar.specs.SessionTrees.{tree_of, tree_before}
use Rattle.session_grammar.specs.Laws.{SpelledAlike, EveryTree, ShortAlike, OlderReads, SpellsTree}
use Rattle.session_grammar.proofs.TreeSpelled.{SpellsWith, tree_spelled, tree_spelled_before}
use Rattle.session_grammar.proofs.SessionSpelled.{session_spelled}

-- ---- the message of a tree

abbrev bytes_in : Item → List ℕ
bytes_in (Raw bytes) = bytes
bytes_in (Text text) = []
bytes_in (Num z) = []
bytes_in Null = []
bytes_in Absent = []

abbrev magnitude : ℤ → ℕ
magnitude (pos n) = n
magnitude (negsuc n) = n

abbrev number_in : Item → ℕ
number_in (Num z) = magnitude z
number_in (Raw bytes) = 0
number_in (Text text) = 0
number_in Null = 0
number_in Absent = 0

abbrev optional_in : Item → Option ℕ
optional_in (Num z) = Some (magnitude z)
optional_in (Raw bytes) = None
optional_in (Text text) = None
optional_in Null = None
optional_in Absent = None

abbrev expected_in : Item → Expected
expected_in (Num z) = expects.Number (magnitude z)
expected_in Null = expects.Null
expected_in (Raw bytes) = expects.Absent
expected_in (Text text) = expects.Absent
expected_in Absent = expects.Absent

abbrev first : List Item → Item
first [] = Absent
first (i ∷ is) = i

abbrev behind : List Item → List Item
behind [] = []
behind (i ∷ is) = is

abbrev text_in : List Datum → List ℕ
text_in [] = []
text_in (variable.Absent ∷ vs) = []
text_in (variable.Present text ∷ vs) = text

abbrev told_by : ℕ → List Item → List Datum → Message
told_by id is vs =
    let a = first is in
    let b = first (behind is) in
    let c = first (behind (behind is)) in
    let d = first (behind (behind (behind is))) in
    let e = first (behind (behind (behind (behind is)))) in
    if nat_eq id 1 then Message.negotiate (bytes_in a) (number_in b) (number_in c) (text_in vs)
    else if nat_eq id 2 then Message.negotiation_response (bytes_in a) (number_in b) (number_in c) (text_in vs)
    else if nat_eq id 3 then Message.negotiation_reject (bytes_in a) (number_in b) (number_in c) (text_in vs)
    else if nat_eq id 4 then Message.establish (bytes_in a) (number_in b) (number_in c) (optional_in d) (expected_in e) (text_in vs)
    else if nat_eq id 5 then Message.establishment_ack (bytes_in a) (number_in b) (number_in c) (optional_in d) (expected_in e)
    else if nat_eq id 6 then Message.establishment_reject (bytes_in a) (number_in b) (number_in c) (text_in vs)
    else if nat_eq id 7 then Message.sequence (number_in a)
    else if nat_eq id 8 then Message.unsequenced_heartbeat
    else if nat_eq id 9 then Message.retransmit_request (bytes_in a) (number_in b) (number_in c) (number_in d)
    else if nat_eq id 10 then Message.retransmission (bytes_in a) (number_in b) (number_in c) (number_in d)
    else if nat_eq id 11 then Message.retransmit_reject (bytes_in a) (number_in b) (number_in c) (text_in vs)
    else if nat_eq id 12 then Message.applied (number_in a) (number_in b)
    else if nat_eq id 13 then Message.not_applied (number_in a) (number_in b)
    else if nat_eq id 14 then Message.finished_sending (bytes_in a) (optional_in b)
    else if nat_eq id 15 then Message.finished_receiving (bytes_in a)
    else Message.terminate (bytes_in a) (number_in b) (text_in vs)

abbrev told : tree.Message → Message
told t = told_by t.template t.root.items t.root.vars

-- the tree tells its message
is_told : (m : Message) → told (tree_of m) ≡ m
is_told (Message.negotiate _ _ _ _) = refl
is_told (Message.negotiation_response _ _ _ _) = refl
is_told (Message.negotiation_reject _ _ _ _) = refl
is_told (Message.establish _ _ _ None expects.Absent _) = refl
is_told (Message.establish _ _ _ None expects.Null _) = refl
is_told (Message.establish _ _ _ None (expects.Number k) _) = refl
is_told (Message.establish _ _ _ (Some n) expects.Absent _) = refl
is_told (Message.establish _ _ _ (Some n) expects.Null _) = refl
is_told (Message.establish _ _ _ (Some n) (expects.Number k) _) = refl
is_told (Message.establishment_ack _ _ _ None expects.Absent) = refl
is_told (Message.establishment_ack _ _ _ None expects.Null) = refl
is_told (Message.establishment_ack _ _ _ None (expects.Number k)) = refl
is_told (Message.establishment_ack _ _ _ (Some n) expects.Absent) = refl
is_told (Message.establishment_ack _ _ _ (Some n) expects.Null) = refl
is_told (Message.establishment_ack _ _ _ (Some n) (expects.Number k)) = refl
is_told (Message.establishment_reject _ _ _ _) = refl
is_told (Message.sequence _) = refl
is_told Message.unsequenced_heartbeat = refl
is_told (Message.retransmit_request _ _ _ _) = refl
is_told (Message.retransmission _ _ _ _) = refl
is_told (Message.retransmit_reject _ _ _ _) = refl
is_told (Message.applied _ _) = refl
is_told (Message.not_applied _ _) = refl
is_told (Message.finished_sending _ None) = refl
is_told (Message.finished_sending _ (Some n)) = refl
is_told (Message.finished_receiving _) = refl
is_told (Message.terminate _ _ _) = refl

-- ---- the laws

-- from version 1 on the schema has the elements of that version
newer : (version : ℕ) → 1 ≤ version → nat_le 1 version ≡ true
newer version h = le-leb 1 version h

with_them : (version : ℕ) (bytes : List ℕ) (t : tree.Message) → 1 ≤ version → SpellsTree version bytes t → SpellsWith true version bytes t
with_them version bytes t h = subst (λ (b : Bool). SpellsWith b version bytes t) (newer version h)

by_them : (version : ℕ) (bytes : List ℕ) (t : tree.Message) → 1 ≤ version → SpellsWith true version bytes t → SpellsTree version bytes t
by_them version bytes t h = subst (λ (b : Bool). SpellsWith b version bytes t) (sym (newer version h))

message_spelled : (version : ℕ) (bytes : List ℕ) (m : Message) → SpellsWith true version bytes (tree_of m) → Spells bytes m
message_spelled version bytes m s =
    let other = session_spelled version bytes (tree_of m) s in
    let same : m ≡ other.message = sym (is_told m) ∙ ap told other.tree_is ∙ is_told other.message in
    subst (Spells bytes) (sym same) other.spelled

pub spelled_alike : SpelledAlike
spelled_alike version bytes m h = (
  λ s. by_them version bytes (tree_of m) h (tree_spelled version bytes m s),
  λ s. message_spelled version bytes m (with_them version bytes (tree_of m) h s),
)

pub every_tree : EveryTree
every_tree version bytes t h s = session_spelled version bytes t (with_them version bytes t h s)

pub short_alike : ShortAlike
short_alike version bytes h = (
  λ none t s. let other = every_tree version bytes t h s in none other.message other.spelled,
  λ none m s. none (tree_of m) (by_them version bytes (tree_of m) h (tree_spelled version bytes m s)),
)

pub older_reads : OlderReads
older_reads bytes m s = tree_spelled_before 0 bytes m s
