-- The reading of a message in the decoder's steps is the grammar's.
use Rattle.std.proofs.Common.{◌≡◌, ℕ, ◌==◌, Bool, true, false, if◌then◌else◌, Option, Some, None, Result, Ok, Err, List, length, refl, ap, sym, subst, ◌↔◌, IfOk}
use Rattle.sbe_value.specs.declared.message.Message.{Message}
use Rattle.sbe_value.specs.declared.item.Item.{Item}
use Rattle.sbe_value.specs.declared.datum.Datum.{Datum}
use Rattle.sbe_value.specs.Trees.{GroupList}
use Rattle.sbe_prim.specs.declared.Order.{Order}
use Rattle.sbe_layout.specs.declared.blocks.BlockPlan.{BlockPlan}
use Rattle.sbe_layout.specs.declared.plan.MessagePlan.{MessagePlan}
use Rattle.sbe_layout.specs.declared.plan.Plan.{Plan}
use Rattle.sbe_layout.specs.Plans.{message_of}
use Rattle.sbe_grammar.specs.declared.fault.DecodeFault.{DecodeFault}
use Rattle.sbe_grammar.specs.declared.fault.DecodeFault.TheVariants.{OtherSchema}
use Rattle.sbe_grammar.specs.Reading.{Read, next, alone, read_bytes, read_block, read_groups, read_data, read_body, read_by, read_headed, header_in, message_in, Entry, Header}
use Rattle.sbe_grammar.specs.Spelling.{Spells}
use Rattle.sbe_decode.specs.declared.error.DecodeError.{DecodeError}
use Rattle.sbe_decode.specs.declared.error.DecodeError.TheVariants.{Fault}
use Rattle.sbe_decode.specs.Answers.{Answers}
use Rattle.sbe_decode.specs.Walks.{along, laid, layout_by, layout_found, message_by, read_parts, read_message}

-- ---- the root block, its groups and its data, in the two orders of putting them together

abbrev with_data : List Item → GroupList → Read (List Datum) → Read Entry
with_data items groups read = next read (λ vars end. Ok (record { items = items; groups = groups; vars = vars }, end))

abbrev with_groups : List Item → (List ℕ → Read (List Datum)) → Read GroupList → Read Entry
with_groups items tail read = next read (λ groups rest. with_data items groups (tail rest))

abbrev parts : (List ℕ → Read GroupList) → (List ℕ → Read (List Datum)) → Read (List Item) → Read Entry
parts groups tail read = next read (λ items after. with_groups items tail (groups after))

body_data : (template : ℕ) (items : List Item) (gs : GroupList) (read : Read (List Datum)) → next read (λ vars rest. Ok (message_by template (record { items = items; groups = gs; vars = vars }), rest)) ≡ along (message_by template) (with_data items gs read)
body_data template items gs (Ok x) = refl
body_data template items gs (Err f) = refl

body_groups : (template : ℕ) (items : List Item) (tail : List ℕ → Read (List Datum)) (read : Read GroupList) → next read (λ groups behind. next (tail behind) (λ vars rest. Ok (message_by template (record { items = items; groups = groups; vars = vars }), rest))) ≡ along (message_by template) (with_groups items tail read)
body_groups template items tail (Ok x) = body_data template items x.0 (tail x.1)
body_groups template items tail (Err f) = refl

body_items : (template : ℕ) (groups : List ℕ → Read GroupList) (tail : List ℕ → Read (List Datum)) (read : Read (List Item)) → next read (λ items after. next (groups after) (λ gs behind. next (tail behind) (λ vars rest. Ok (message_by template (record { items = items; groups = gs; vars = vars }), rest)))) ≡ along (message_by template) (parts groups tail read)
body_items template groups tail (Ok x) = body_groups template x.0 tail (groups x.1)
body_items template groups tail (Err f) = refl

body_is : (order : Order) (version total size template : ℕ) (root : BlockPlan) (left : List ℕ) → read_body order version total size root template left ≡ along (message_by template) (read_parts order version total size root left)
body_is order version total size template root left =
    body_items template (read_groups order version total root.groups) (read_data order version total root.vars) (read_block order version total size root.marks root.items left)

-- ---- the header, and the layout that it asks for

by_test : (schema : Plan) (total : ℕ) (h : Header) (left : List ℕ) (same : Bool) (found : Option MessagePlan) → laid (if same then layout_found h found else Err (OtherSchema h.id)) (λ layout. along (message_by h.template) (read_parts schema.order h.version total h.size layout.root left)) ≡ (if same then read_by schema.order total h found left else Err (OtherSchema h.id))
by_test schema total h left true None = refl
by_test schema total h left true (Some layout) = sym (body_is schema.order h.version total h.size h.template layout.root left)
by_test schema total h left false found = refl

by_header : (schema : Plan) (bytes : List ℕ) (read : Read (List ℕ)) → alone (next (along (header_in schema.order) read) (λ h left. laid (layout_by schema h) (λ layout. along (message_by h.template) (read_parts schema.order h.version (length bytes) h.size layout.root left)))) ≡ alone (next read (λ header left. read_headed schema (length bytes) (header_in schema.order header) left))
by_header schema bytes (Ok x) =
    let h = header_in schema.order x.0 in
    ap alone (by_test schema (length bytes) h x.1 (h.id == schema.id) (message_of h.template schema.messages))
by_header schema bytes (Err f) = refl

pub message_is : (schema : Plan) (bytes : List ℕ) → read_message schema bytes ≡ message_in schema bytes
message_is schema bytes = by_header schema bytes (read_bytes (length bytes) 8 bytes)

-- ---- what decoding answers

-- what is told by the decoder's steps is told by the grammar
pub told_so : (schema : Plan) (bytes : List ℕ) (answer : Result Message DecodeError) → Answers answer (read_message schema bytes) → Answers answer (message_in schema bytes)
told_so schema bytes answer h = subst (Answers answer) (message_is schema bytes) h

-- what is answered is spelled, where reading and spelling agree
pub spelled_so : (schema : Plan) (bytes : List ℕ) → ((m : Message) → (message_in schema bytes ≡ Ok m) ↔ Spells schema bytes m) → (answer : Result Message DecodeError) → Answers answer (message_in schema bytes) → IfOk answer (Spells schema bytes)
spelled_so schema bytes law (Ok m) told = (law m).0 told
spelled_so schema bytes law (Err e) told = tt

-- and bytes with a fault spell nothing
pub unspelled_so : (schema : Plan) (bytes : List ℕ) → ((m : Message) → (message_in schema bytes ≡ Ok m) ↔ Spells schema bytes m) → (answer : Result Message DecodeError) → Answers answer (message_in schema bytes) → (f : DecodeFault) → answer ≡ Err (Fault f) → (m : Message) → Spells schema bytes m → ⊥
unspelled_so schema bytes law answer told f e m s =
    let fault : message_in schema bytes ≡ Err f = subst (λ a. Answers a (message_in schema bytes)) e told in
    let read : message_in schema bytes ≡ Ok m = (law m).1 s in
    cc
