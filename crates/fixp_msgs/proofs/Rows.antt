-- What the table says of a message by its template alone, and what follows for reading.
use Rattle.std.proofs.Common.{◌≡◌, ℕ, ◌+◌, ◌≤◌, ◌==◌, if◌then◌else◌, Bool, true, false, IsTrue, List, [], ◌∷◌, ◌||◌, take, drop, Option, Some, None, Result, Ok, Err, is_some, IsOkAnd, refl, sym, ap, ◌∙◌, subst, nat_eq, lit≤}
use Rattle.std.proofs.lemmas.Bool.{false≢true, eqb-true}
use Rattle.std.specs.List.{list_any, AllByRecursion}
use Rattle.std.specs.Option.{ok_or}
use Rattle.fixp_msgs.specs.declared.messages.SessionMsg.{SessionMsg}
use Rattle.fixp_msgs.specs.declared.reading.MsgFault.{MsgFault}
use Rattle.fixp_msgs.specs.declared.reading.MsgFault.TheVariants.{BadTemplate, Short}
use Rattle.fixp_msgs.specs.declared.messages.Expected.{Expected}
use Rattle.fixp_msgs.specs.declared.messages.Expected.TheVariants.{Absent, Null, Number}
use Rattle.fixp_msgs.specs.Header.{template_in, block_length_in, schema_in, version_in, session_schema}
use Rattle.fixp_msgs.specs.Message.{Message, message_of}
use Rattle.fixp_msgs.specs.Table.{Field, row_of, size_of, block_size, version_of, established_block, null, templates, is_template}
use Rattle.fixp_msgs.specs.Grammar.{Spells, IsBlock, HoldsAll, HasDatum, expected_at}
use Rattle.fixp_msgs.specs.Spelled.{message_at, u64_at}
use Rattle.fixp_msgs.specs.Reading.{Answers, Lacks, Finds}

-- what holds of each template holds of a template
among-step : (P : ℕ → Type 0) (k id : ℕ) (here more : Bool) → nat_eq id k ≡ here → (here || more) ≡ true → P k → (more ≡ true → P id) → P id
among-step P k id true more e _ p _ = subst P (sym (eqb-true id k e)) p
among-step P k id false more e one p rest = rest one

among : (P : ℕ → Type 0) (ids : List ℕ) → AllByRecursion P ids → (id : ℕ) → list_any (nat_eq id) ids ≡ true → P id
among P [] _ id one = absurd (false≢true one)
among P (k ∷ ids) (p, all) id one = among-step P k id (nat_eq id k) (list_any (nat_eq id) ids) refl one p (λ more. among P ids all id more)

pub of_template : (P : ℕ → Type 0) → AllByRecursion P templates → (id : ℕ) → is_template id ≡ true → P id
of_template P all id one = among P templates all id one

-- the length of a template's block, and whether a datum stands behind it
record Shape : Type 0 where
  block : ℕ
  datum : Bool

abbrev shape : ℕ → ℕ → Shape
shape version id = record { block = block_size (row_of (message_at version id [] [])); datum = is_some (row_of (message_at version id [] [])).datum }

-- an expected number takes as many bytes at a version, whatever it is
size-by : (old none : Bool) (n : ℕ) → size_of (Field.expected (if old then Absent else if none then Null else Number n)) ≡ (if old then 0 else 8)
size-by true none n = refl
size-by false true n = refl
size-by false false n = refl

pub size-expected : (version n : ℕ) → size_of (Field.expected (expected_at version n)) ≡ (if version == 0 then 0 else 8)
size-expected version n = size-by (version == 0) (n == null) n

same-size : (version n : ℕ) (e : Expected) → e ≡ expected_at version n → size_of (Field.expected (expected_at version (u64_at 36 []))) ≡ size_of (Field.expected e)
same-size version n e is = size-expected version (u64_at 36 []) ∙ sym (size-expected version n) ∙ ap (λ x. size_of (Field.expected x)) (sym is)

-- the shape of Establish, or of EstablishmentAck, by the bytes that the expected number takes
abbrev established : Bool → ℕ → Shape
established datum n = record { block = 36 + n; datum = datum }

established-by : (datum old : Bool) → established datum (if old then 0 else 8) ≡ record { block = if old then 36 else 44; datum = datum }
established-by datum true = refl
established-by datum false = refl

pub establish-shape : (version : ℕ) → shape version 4 ≡ record { block = established_block version; datum = true }
establish-shape version = ap (established true) (size-expected version (u64_at 36 [])) ∙ established-by true (version == 0)

pub ack-shape : (version : ℕ) → shape version 5 ≡ record { block = established_block version; datum = false }
ack-shape version = ap (established false) (size-expected version (u64_at 36 [])) ∙ established-by false (version == 0)

shape-row : (version : ℕ) (m : Message) (block : List ℕ) → HoldsAll version block 0 (row_of m).fields
    → shape version (row_of m).template ≡ record { block = block_size (row_of m); datum = is_some (row_of m).datum }
shape-row version (Message.negotiate _ _ _ _) block _ = refl
shape-row version (Message.negotiation_response _ _ _ _) block _ = refl
shape-row version (Message.negotiation_reject _ _ _ _) block _ = refl
shape-row version (Message.establish _ _ _ _ e _) block (_, (_, (_, (_, (is, _))))) = ap (established true) (same-size version (u64_at 36 block) e is)
shape-row version (Message.establishment_ack _ _ _ _ e) block (_, (_, (_, (_, (is, _))))) = ap (established false) (same-size version (u64_at 36 block) e is)
shape-row version (Message.establishment_reject _ _ _ _) block _ = refl
shape-row version (Message.sequence _) block _ = refl
shape-row version Message.unsequenced_heartbeat block _ = refl
shape-row version (Message.retransmit_request _ _ _ _) block _ = refl
shape-row version (Message.retransmission _ _ _ _) block _ = refl
shape-row version (Message.retransmit_reject _ _ _ _) block _ = refl
shape-row version (Message.applied _ _) block _ = refl
shape-row version (Message.not_applied _ _) block _ = refl
shape-row version (Message.finished_sending _ _) block _ = refl
shape-row version (Message.finished_receiving _) block _ = refl
shape-row version (Message.terminate _ _ _) block _ = refl

pub is_template-row : (m : Message) → is_template (row_of m).template ≡ true
is_template-row (Message.negotiate _ _ _ _) = refl
is_template-row (Message.negotiation_response _ _ _ _) = refl
is_template-row (Message.negotiation_reject _ _ _ _) = refl
is_template-row (Message.establish _ _ _ _ _ _) = refl
is_template-row (Message.establishment_ack _ _ _ _ _) = refl
is_template-row (Message.establishment_reject _ _ _ _) = refl
is_template-row (Message.sequence _) = refl
is_template-row Message.unsequenced_heartbeat = refl
is_template-row (Message.retransmit_request _ _ _ _) = refl
is_template-row (Message.retransmission _ _ _ _) = refl
is_template-row (Message.retransmit_reject _ _ _ _) = refl
is_template-row (Message.applied _ _) = refl
is_template-row (Message.not_applied _ _) = refl
is_template-row (Message.finished_sending _ _) = refl
is_template-row (Message.finished_receiving _) = refl
is_template-row (Message.terminate _ _ _) = refl

-- how large the numbers of a row are
pub record Bounds (m : Message) : Type 0 where
  pub block : block_size (row_of m) ≤ 44
  pub template : (row_of m).template ≤ 16
  pub version : version_of (row_of m) ≤ 1

pub bounds : (m : Message) → Bounds m
bounds (Message.negotiate _ _ _ _) = record { block = lit≤ tt; template = lit≤ tt; version = lit≤ tt }
bounds (Message.negotiation_response _ _ _ _) = record { block = lit≤ tt; template = lit≤ tt; version = lit≤ tt }
bounds (Message.negotiation_reject _ _ _ _) = record { block = lit≤ tt; template = lit≤ tt; version = lit≤ tt }
bounds (Message.establish _ _ _ _ Absent _) = record { block = lit≤ tt; template = lit≤ tt; version = lit≤ tt }
bounds (Message.establish _ _ _ _ Null _) = record { block = lit≤ tt; template = lit≤ tt; version = lit≤ tt }
bounds (Message.establish _ _ _ _ (Number _) _) = record { block = lit≤ tt; template = lit≤ tt; version = lit≤ tt }
bounds (Message.establishment_ack _ _ _ _ Absent) = record { block = lit≤ tt; template = lit≤ tt; version = lit≤ tt }
bounds (Message.establishment_ack _ _ _ _ Null) = record { block = lit≤ tt; template = lit≤ tt; version = lit≤ tt }
bounds (Message.establishment_ack _ _ _ _ (Number _)) = record { block = lit≤ tt; template = lit≤ tt; version = lit≤ tt }
bounds (Message.establishment_reject _ _ _ _) = record { block = lit≤ tt; template = lit≤ tt; version = lit≤ tt }
bounds (Message.sequence _) = record { block = lit≤ tt; template = lit≤ tt; version = lit≤ tt }
bounds Message.unsequenced_heartbeat = record { block = lit≤ tt; template = lit≤ tt; version = lit≤ tt }
bounds (Message.retransmit_request _ _ _ _) = record { block = lit≤ tt; template = lit≤ tt; version = lit≤ tt }
bounds (Message.retransmission _ _ _ _) = record { block = lit≤ tt; template = lit≤ tt; version = lit≤ tt }
bounds (Message.retransmit_reject _ _ _ _) = record { block = lit≤ tt; template = lit≤ tt; version = lit≤ tt }
bounds (Message.applied _ _) = record { block = lit≤ tt; template = lit≤ tt; version = lit≤ tt }
bounds (Message.not_applied _ _) = record { block = lit≤ tt; template = lit≤ tt; version = lit≤ tt }
bounds (Message.finished_sending _ _) = record { block = lit≤ tt; template = lit≤ tt; version = lit≤ tt }
bounds (Message.finished_receiving _) = record { block = lit≤ tt; template = lit≤ tt; version = lit≤ tt }
bounds (Message.terminate _ _ _) = record { block = lit≤ tt; template = lit≤ tt; version = lit≤ tt }

-- where the block or the datum of a row is lacking, no message of that row is spelled
lacks-row : (bytes : List ℕ) (block : ℕ) (datum : Option (List ℕ)) (at behind : List ℕ) → IsBlock bytes block at behind → HasDatum behind datum → Lacks bytes block (is_some datum) → ⊥
lacks-row bytes block None at behind stands _ lack = lack at behind stands
lacks-row bytes block (Some x) at behind stands begins lack = lack at behind x stands begins

lacks : (bytes : List ℕ) (block : ℕ) (datum : Bool) → shape (version_in bytes) (template_in bytes) ≡ record { block = block; datum = datum } → Lacks bytes block datum → (m : Message) → Spells bytes m → ⊥
lacks bytes block datum row lack m s =
    let here : record { block = block; datum = datum } ≡ record { block = block_size (row_of m); datum = is_some (row_of m).datum } = sym row ∙ ap (shape (version_in bytes)) s.template
    ∙ shape-row (version_in bytes) m s.body.block s.body.fields in
    let P : Shape → Type 0 = λ x. Lacks bytes x.block x.datum in
    lacks-row bytes (block_size (row_of m)) (row_of m).datum s.body.block s.body.behind s.body.stands s.body.datum (subst P here lack)

-- what a reader of one template found is what reading answers
pub answers-ok_or : (bytes : List ℕ) (id block : ℕ) (datum : Bool) (found : Option SessionMsg) → template_in bytes ≡ id → schema_in bytes ≡ session_schema → IsTrue (is_template id)
    → shape (version_in bytes) id ≡ record { block = block; datum = datum } → Finds bytes id block datum found → Answers bytes (ok_or found Short)
answers-ok_or bytes id block datum None here session one row lack =
    let P : ℕ → Type 0 = λ n. IsTrue (is_template n) in
    (subst P (sym here) one, lacks bytes block datum (ap (shape (version_in bytes)) here ∙ row) lack)
answers-ok_or bytes id block datum (Some m) here session one row (template, body) = record { template = here ∙ sym template; schema = session; body = body }

message_at-row : (version : ℕ) (m : Message) (block behind : List ℕ) → HoldsAll version block 0 (row_of m).fields → HasDatum behind (row_of m).datum
    → m ≡ message_at version (row_of m).template block behind
message_at-row version (Message.negotiate _ _ _ _) block behind h datum = cc
message_at-row version (Message.negotiation_response _ _ _ _) block behind h datum = cc
message_at-row version (Message.negotiation_reject _ _ _ _) block behind h datum = cc
message_at-row version (Message.establish _ _ _ _ _ _) block behind h datum = cc
message_at-row version (Message.establishment_ack _ _ _ _ _) block behind h datum = cc
message_at-row version (Message.establishment_reject _ _ _ _) block behind h datum = cc
message_at-row version (Message.sequence _) block behind h datum = cc
message_at-row version Message.unsequenced_heartbeat block behind h datum = refl
message_at-row version (Message.retransmit_request _ _ _ _) block behind h datum = cc
message_at-row version (Message.retransmission _ _ _ _) block behind h datum = cc
message_at-row version (Message.retransmit_reject _ _ _ _) block behind h datum = cc
message_at-row version (Message.applied _ _) block behind h datum = cc
message_at-row version (Message.not_applied _ _) block behind h datum = cc
message_at-row version (Message.finished_sending _ _) block behind h datum = cc
message_at-row version (Message.finished_receiving _) block behind h datum = cc
message_at-row version (Message.terminate _ _ _) block behind h datum = cc

pub spelled_at : (bytes : List ℕ) (m : Message) → Spells bytes m → m ≡ message_at (version_in bytes) (template_in bytes) (take (block_length_in bytes) (drop 8 bytes)) (drop (block_length_in bytes) (drop 8 bytes))
spelled_at bytes m s =
    message_at-row (version_in bytes) m s.body.block s.body.behind s.body.fields s.body.datum
    ∙ ap (λ id. message_at (version_in bytes) id s.body.block s.body.behind) (sym s.template)
    ∙ ap (λ x. message_at (version_in bytes) (template_in bytes) x s.body.behind) s.body.stands.stated
    ∙ ap (message_at (version_in bytes) (template_in bytes) (take (block_length_in bytes) (drop 8 bytes))) s.body.stands.rest

-- at most one message is spelled by given bytes
pub at_most_one : (bytes : List ℕ) (a b : Message) → Spells bytes a → Spells bytes b → a ≡ b
at_most_one bytes a b s t = spelled_at bytes a s ∙ sym (spelled_at bytes b t)

-- a message that is spelled is the one that was read
pub only-answers : (bytes : List ℕ) (r : Result SessionMsg MsgFault) → Answers bytes r → (m : Message) → Spells bytes m → IsOkAnd r (λ x. message_of x ≡ m)
only-answers bytes (Ok x) here m s = at_most_one bytes (message_of x) m here s
only-answers bytes (Err (BadTemplate id)) (here, none) m s = absurd (false≢true (sym none ∙ ap is_template (sym here ∙ s.template) ∙ is_template-row m))
only-answers bytes (Err Short) (_, none) m s = absurd (none m s)

-- without a block there is no datum behind it
pub lacks-datum : (bytes : List ℕ) (least : ℕ) → Lacks bytes least false → Lacks bytes least true
lacks-datum bytes least lack at behind _ stands _ = lack at behind stands
