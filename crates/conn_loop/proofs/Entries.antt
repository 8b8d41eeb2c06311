-- The entries that are fetched of an outbox: their payloads, their numbers, how many they are, and how long their payloads.
use Rattle.std.proofs.Common.{◌≡◌, ℕ, suc, ◌+◌, ◌-◌, min, All, List, [], ◌∷◌, length, take, drop, Some, refl, sym, ap, subst, ◌∙◌, length-drop}
use Rattle.std.specs.List.{AllByRecursion}
use Rattle.std.proofs.lemmas.List.{length-take, length-map}
use Rattle.std.proofs.lemmas.List.Elements.{All-head, All-tail}
use Rattle.session_model.specs.Inbox.{Numbered}
use Rattle.session_model.specs.Journal.{Entry, History, payloads, counts_from}
use Rattle.fixp_msgs.specs.Payload.{IsApplication}
use Rattle.fixp_end.specs.Sending.{AreFrom, payloads_of}
use Rattle.jr_record.specs.Records.{IsPayload}
use Rattle.gate_senders.specs.Kept.{numbered_from, messages, GivenOf}
use Rattle.conn_turns.specs.Turns.{payloads_from}
use Rattle.conn_turns.specs.Exact.{IsAsDue}

payloads_numbered : (n : ℕ) (es : List Entry) → payloads_of (numbered_from n es) ≡ payloads es
payloads_numbered n [] = refl
payloads_numbered n (e ∷ es) = ap (λ (ps : List (List ℕ)). e.payload ∷ ps) (payloads_numbered (n + 1) es)

numbers_numbered : (n : ℕ) (es : List Entry) → AreFrom n (numbered_from n es)
numbers_numbered n [] = refl
numbers_numbered n (e ∷ es) = ap (λ (ns : List ℕ). n ∷ ns) (numbers_numbered (n + 1) es)

length_numbered : (n : ℕ) (es : List Entry) → length (numbered_from n es) ≡ length es
length_numbered n [] = refl
length_numbered n (e ∷ es) = ap (λ (k : ℕ). suc k) (length_numbered (n + 1) es)

-- the payloads of what was fetched
pub payloads_fetched : (h : History) (from most : ℕ) → payloads_of (messages h from most) ≡ payloads_from h from most
payloads_fetched h from most = payloads_numbered from (take most (drop (from - 1) h.made))

pub numbers_fetched : (h : History) (from most : ℕ) → AreFrom from (messages h from most)
numbers_fetched h from most = numbers_numbered from (take most (drop (from - 1) h.made))

-- there are no more than were asked for, and fewer only where the history ends
pub length_fetched : (h : History) (from most : ℕ) → length (messages h from most) ≡ min most (length h.made - (from - 1))
length_fetched h from most =
    length_numbered from (take most (drop (from - 1) h.made))
    ∙ (length-take most (drop (from - 1) h.made) ∙ ap (λ (n : ℕ). min most n) (length-drop (from - 1) h.made))

-- the payloads of some entries are of a payload's length where those of the same entries are
pub sized : {es given : List Numbered} → es ≡ given → All (λ (m : Numbered). IsPayload m.payload) given → All (λ (m : Numbered). IsPayload m.payload) es
sized same all = subst (All (λ (m : Numbered). IsPayload m.payload)) (sym same) all

pub length_payloads : (es : List Numbered) → length (payloads_of es) ≡ length es
length_payloads [] = refl
length_payloads (m ∷ es) = ap (λ (n : ℕ). suc n) (length_payloads es)

applications_in : (es : List Numbered) → All (λ (m : Numbered). IsApplication m.payload) es → AllByRecursion IsApplication (payloads_of es)
applications_in [] all = tt
applications_in (m ∷ es) all = (All-head (λ (n : Numbered). IsApplication n.payload) m es all, applications_in es (All-tail (λ (n : Numbered). IsApplication n.payload) m es all))

-- what was read of a history: what is fetched is given, by another name
pub given_as : {tells : Type 0} {h : History} {from most : ℕ} {es list : List Numbered} → es ≡ list → GivenOf tells h from most list → GivenOf tells h from most es
given_as {tells} {h} {from} {most} same given = subst (λ (ms : List Numbered). GivenOf tells h from most ms) (sym same) given

as_many : {tells : Type 0} (h : History) (from most : ℕ) (es : List Numbered) → GivenOf tells h from most es → length es ≡ length (messages h from most)
as_many h from most es given =
    sym (length-map es (λ (m : Numbered). m.number)) ∙ ap (λ (ns : List ℕ). length ns) given.numbers ∙ length-map (messages h from most) (λ (m : Numbered). m.number)

-- it is as many, under the same numbers
pub length_given : {tells : Type 0} (h : History) (from most : ℕ) (es : List Numbered) → GivenOf tells h from most es → length es ≡ min most (length h.made - (from - 1))
length_given h from most es given = as_many h from most es given ∙ length_fetched h from most

pub numbers_given : {tells : Type 0} (h : History) (from most : ℕ) (es : List Numbered) → GivenOf tells h from most es → AreFrom from es
numbers_given h from most es given = given.numbers ∙ numbers_fetched h from most ∙ ap (λ (n : ℕ). counts_from from n) (sym (as_many h from most es given))

-- its payloads are as many as are due, and just these where the disk tells its content
pub due_given : {tells : Type 0} (h : History) (from most : ℕ) (es : List Numbered) → GivenOf tells h from most es → All (λ (m : Numbered). IsApplication m.payload) es
    → IsAsDue (Some (payloads_from h from most)) (Some (payloads_of es))
due_given h from most es given all = (
  length_payloads es ∙ as_many h from most es given ∙ sym (length_payloads (messages h from most)) ∙ ap (λ (ps : List (List ℕ)). length ps) (payloads_fetched h from most),
  applications_in es all,
)

pub told_given : {tells : Type 0} (h : History) (from most : ℕ) (es : List Numbered) → GivenOf tells h from most es → tells → Some (payloads_of es) ≡ Some (payloads_from h from most)
told_given h from most es given tells = ap (λ (ms : List Numbered). Some (payloads_of ms)) (given.told tells) ∙ ap (λ (ps : List (List ℕ)). Some ps) (payloads_fetched h from most)

pub applied_as : {es given : List Numbered} → es ≡ given → All (λ (m : Numbered). IsApplication m.payload) given → All (λ (m : Numbered). IsApplication m.payload) es
applied_as same all = subst (All (λ (m : Numbered). IsApplication m.payload)) (sym same) all
