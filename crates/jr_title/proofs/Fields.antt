-- The fields of 64 bytes: those of a title lie in their ranges, and where they do the bytes are a title's.
use Rattle.std.proofs.Common.{◌≡◌, ℕ, ◌+◌, ◌≤◌, ◌<◌, ◌^◌, List, [], ◌∷◌, ◌++◌, length, take, drop, get_or, refl, sym, ap, subst, ◌∙◌, arith, ⊎_elim, lit<, append_assoc}
use Rattle.std.proofs.lemmas.Bool.{cases_lt}
use Rattle.std.proofs.lemmas.List.{length-take-le, length-drop, length-take, get_or-take, get_or-drop, get_or_past}
use Rattle.std.proofs.lemmas.Nat.{from_le_bytes-to_le_bytes_2, from_le_bytes-to_le_bytes_4, from_le_bytes-to_le_bytes_8, le_bytes_2, le_bytes_4, le_bytes_8}
use Rattle.std.specs.Int.{w16, w32, w64, from_le_bytes}
use Rattle.std.specs.List.{AllByRecursion}
use Rattle.fixp_msgs.specs.declared.flow.Flow.{Flow}
use Rattle.fixp_msgs.specs.declared.flow.Flow.TheVariants as flows
use Rattle.fixp_msgs.specs.Flow.{flow_code}
use Rattle.fixp_shake.specs.declared.config.Role.{Role}
use Rattle.fixp_shake.specs.declared.config.Role.TheVariants.{Initiator, Acceptor}
use Rattle.crc32c.specs.Sums.{crc_of}
use Rattle.jr_title.specs.declared.faults.Field.{Field}
use Rattle.jr_title.specs.declared.faults.Field.TheVariants as fields
use Rattle.jr_title.specs.declared.title.Which.{Which}
use Rattle.jr_title.specs.declared.title.Which.TheVariants.{Outbox, Inbox}
use Rattle.jr_title.specs.declared.title.WhoSends.{WhoSends}
use Rattle.jr_title.specs.declared.title.WhoSends.TheVariants.{Senders, Desks, Book}
use Rattle.jr_title.specs.declared.title.Title.{Title}
use Rattle.jr_title.specs.Firsts.{IsFirst}
use Rattle.jr_title.specs.Titles.{IsTitle, IsWhoSends, magic, front_of, codes_of, which_code, role_code, who_code, desks_of, version_of, reference_of}
use Rattle.jr_title.specs.Reading.{IsOneOf, IsDesks, IsVersion, IsReference, InRange, HasSum, HasZeros, SaysWho, number, of_who, all_fields}
use Rattle.jr_title.proofs.Images.{Parts, byte, joined, six, whole}
use Rattle.jr_title.proofs.Titles.{who_bounds}

-- ---- those of a title

pub which_one : (w : Which) → IsOneOf 1 2 (which_code w)
which_one Outbox = (omega arith, omega arith)
which_one Inbox = (omega arith, omega arith)

pub role_one : (r : Role) → IsOneOf 1 2 (role_code r)
role_one Initiator = (omega arith, omega arith)
role_one Acceptor = (omega arith, omega arith)

pub flow_one : (f : Flow) → IsOneOf 1 4 (flow_code f)
flow_one flows.Recoverable = (omega arith, omega arith)
flow_one flows.Idempotent = (omega arith, omega arith)
flow_one flows.Unsequenced = (omega arith, omega arith)
flow_one flows.None = (omega arith, omega arith)

who_one : (w : WhoSends) → who_code w ≤ 2
who_one Senders = omega arith
who_one (Desks d o) = omega arith
who_one (Book o) = omega arith

who_desks : (w : WhoSends) → IsWhoSends w → IsDesks (who_code w) (desks_of w)
who_desks Senders legal = record { none = λ e. refl; some = λ e. absurd (omega (arith, e)); book = λ e. absurd (omega (arith, e)) }
who_desks (Desks d o) legal = record { none = λ e. absurd (omega (arith, e)); some = λ e. (legal.0, legal.1); book = λ e. absurd (omega (arith, e)) }
who_desks (Book o) legal = record { none = λ e. absurd (omega (arith, e)); some = λ e. absurd (omega (arith, e)); book = λ e. refl }

who_version : (w : WhoSends) → IsWhoSends w → IsVersion (who_code w) (version_of w)
who_version Senders legal = record { none = λ e. refl; some = λ e. absurd (omega (arith, e)) }
who_version (Desks d o) legal = record { none = λ e. absurd (omega (arith, e)); some = λ e. legal.2.version }
who_version (Book o) legal = record { none = λ e. absurd (omega (arith, e)); some = λ e. legal.version }

who_reference : (w : WhoSends) → IsWhoSends w → IsReference (who_code w) (reference_of w)
who_reference Senders legal = record { none = λ e. refl; some = λ e. absurd (omega (arith, e)) }
who_reference (Desks d o) legal = record { none = λ e. absurd (omega (arith, e)); some = λ e. legal.2.reference }
who_reference (Book o) legal = record { none = λ e. absurd (omega (arith, e)); some = λ e. legal.reference }

moved : (P : ℕ → ℕ → Type 0) (a b c d : ℕ) → a ≡ c → b ≡ d → P a b → P c d
moved P a b c d e f p = subst (λ (x : ℕ). P x d) e (subst (λ (y : ℕ). P a y) f p)

pub says_in : (b : List ℕ) (who : WhoSends) → SaysWho b who → AllByRecursion (InRange b) of_who
says_in b who says =
    let small : get_or b 12 0 ≤ 2 = omega (arith, says.code, who_one who) in (
      small,
      (
        moved IsDesks (who_code who) (desks_of who) (get_or b 12 0) (get_or b 13 0) says.code says.desks (who_desks who says.legal),
        (
          moved IsVersion (who_code who) (version_of who) (get_or b 12 0) (number w16 14 b) says.code says.version (who_version who says.legal),
          (moved IsReference (who_code who) (reference_of who) (get_or b 12 0) (number w64 32 b) says.code says.reference (who_reference who says.legal), tt),
        ),
      ),
    )

pub all_in : (b : List ℕ) (t : Title) → IsTitle t → Parts b t → AllByRecursion (InRange b) all_fields
all_in b t legal p =
    let who = t.binding.who_sends in
    let bounds = who_bounds who legal.who in
    let says : SaysWho b who =
    record {
      legal = legal.who;
      code = sym (byte b t p 12 (omega arith));
      desks = sym (byte b t p 13 (omega arith));
      version = sym (ap (from_le_bytes w16) p.version ∙ from_le_bytes-to_le_bytes_2 (version_of who) bounds.0);
      reference = sym (ap (from_le_bytes w64) p.reference ∙ from_le_bytes-to_le_bytes_8 (reference_of who) bounds.1);
    } in
    let in_who = says_in b who says in (
      subst (IsOneOf 1 2) (sym (byte b t p 8 (omega arith))) (which_one t.binding.which),
      (
        subst (IsOneOf 1 2) (sym (byte b t p 9 (omega arith))) (role_one t.binding.role),
        (
          subst (IsOneOf 1 4) (sym (byte b t p 10 (omega arith))) (flow_one t.binding.client_flow),
          (
            subst (IsOneOf 1 4) (sym (byte b t p 11 (omega arith))) (flow_one t.binding.server_flow),
            (in_who.0, (in_who.1.0, (in_who.1.1.0, (in_who.1.1.1.0, (p.zeros, tt))))),
          ),
        ),
      ),
    )

-- ---- those that were read

part_bytes : (b : List ℕ) (m n : ℕ) → ((i : ℕ) → get_or b i 0 < 256) → (i : ℕ) → get_or (take m (drop n b)) i 0 < 256
part_bytes b m n all i =
    ⊎_elim
    (λ (within : i < m). subst (λ (k : ℕ). k < 256) (sym (get_or-take m (drop n b) i 0 within ∙ get_or-drop n b i 0)) (all (n + i)))
    (λ (past : m ≤ i).
    let short : length (take m (drop n b)) ≤ i = omega (arith, length-take m (drop n b), past) in
    subst (λ (k : ℕ). k < 256) (sym (get_or_past (take m (drop n b)) i 0 short)) (lit< tt))
    (cases_lt i m)

part_size : (b : List ℕ) (m n : ℕ) → n + m ≤ length b → length (take m (drop n b)) ≡ m
part_size b m n long = length-take-le m (drop n b) (omega (arith, length-drop n b))

pub read : (b : List ℕ) (t : Title) → 64 ≤ length b → ((i : ℕ) → get_or b i 0 < 256)
    → which_code t.binding.which ≡ get_or b 8 0 → role_code t.binding.role ≡ get_or b 9 0
    → flow_code t.binding.client_flow ≡ get_or b 10 0 → flow_code t.binding.server_flow ≡ get_or b 11 0
    → SaysWho b t.binding.who_sends → HasZeros b → t.binding.session ≡ take 16 (drop 16 b) → t.pair ≡ number w64 40 b → t.pair < 2 ^ 64
    → IsTitle t × (take 8 b ≡ magic → take 60 b ≡ front_of t)
read b t size all e8 e9 e10 e11 says zeros session pair small =
    let who = t.binding.who_sends in
    let sixteen : length t.binding.session ≡ 16 = ap length session ∙ part_size b 16 16 (omega arith) in
    let codes : get_or b 8 0 ∷ get_or b 9 0 ∷ get_or b 10 0 ∷ get_or b 11 0 ∷ get_or b 12 0 ∷ get_or b 13 0 ∷ [] ≡ codes_of t = cc (e8, e9, e10, e11, says.code, says.desks) in (
      record { session = sixteen; who = says.legal; pair = small },
      λ magical.
          whole b t
          (record {
            head = joined 8 6 b magic (codes_of t) magical (six b (omega arith) ∙ codes);
            version = sym (le_bytes_2 (take 2 (drop 14 b)) (version_of who) (part_size b 2 14 (omega arith)) (part_bytes b 2 14 all) says.version);
            session = sym session;
            reference = sym (le_bytes_8 (take 8 (drop 32 b)) (reference_of who) (part_size b 8 32 (omega arith)) (part_bytes b 8 32 all) says.reference);
            pair = sym (le_bytes_8 (take 8 (drop 40 b)) t.pair (part_size b 8 40 (omega arith)) (part_bytes b 8 40 all) pair);
            zeros = zeros;
          }),
    )

-- the first of who sends is the first of all, where those before are in their ranges
pub first_of_who : (b : List ℕ) (field : Field) → IsOneOf 1 2 (get_or b 8 0) → IsOneOf 1 2 (get_or b 9 0) → IsOneOf 1 4 (get_or b 10 0) → IsOneOf 1 4 (get_or b 11 0)
    → IsFirst of_who (InRange b) field → IsFirst all_fields (InRange b) field
first_of_who b field which role client server first =
    let zeros : List Field = fields.Zeros ∷ [] in
    record {
      before = fields.Which ∷ fields.Role ∷ fields.ClientFlow ∷ fields.ServerFlow ∷ first.before;
      behind = first.behind ++ zeros;
      whole =
          ap (λ (xs : List Field). fields.Which ∷ fields.Role ∷ fields.ClientFlow ∷ fields.ServerFlow ∷ (xs ++ zeros)) first.whole
          ∙ ap (λ (xs : List Field). fields.Which ∷ fields.Role ∷ fields.ClientFlow ∷ fields.ServerFlow ∷ xs) (append_assoc first.before (field ∷ first.behind) zeros);
      held = (which, (role, (client, (server, first.held))));
      fails = first.fails;
    }

-- the number of the last four bytes, and the bytes of the sum
pub sum_bytes : (b : List ℕ) → 64 ≤ length b → ((i : ℕ) → get_or b i 0 < 256) → number w32 60 b ≡ crc_of (take 60 b) → HasSum b
sum_bytes b long all e = sym (le_bytes_4 (take 4 (drop 60 b)) (crc_of (take 60 b)) (part_size b 4 60 (omega arith)) (part_bytes b 4 60 all) (sym e))

pub sum_number : (b : List ℕ) → crc_of (take 60 b) < 2 ^ 32 → HasSum b → number w32 60 b ≡ crc_of (take 60 b)
sum_number b small has = ap (from_le_bytes w32) has ∙ from_le_bytes-to_le_bytes_4 (crc_of (take 60 b)) small
