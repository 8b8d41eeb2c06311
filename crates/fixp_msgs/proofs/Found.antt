-- The message that bytes spell, by the grammar and by the function.
use Rattle.std.proofs.Common.{◌≡◌, ℕ, ◌+◌, ◌==◌, ◌&&◌, Bool, true, false, nat_le, if◌then◌else◌, List, length, take, drop, Option, Some, None, Ok, Err, refl, sym, ap, ◌∙◌, subst}
use Rattle.std.proofs.lemmas.Bool.{false≢true, leb-true, le-leb, and_from, eqb-true}
use Rattle.std.specs.Int.{w16, from_le_bytes}
use Rattle.std.specs.List.{AllByRecursion}
use Rattle.fixp_msgs.specs.declared.messages.SessionMsg.{SessionMsg}
use Rattle.fixp_msgs.specs.declared.reading.MsgFault.{MsgFault}
use Rattle.fixp_msgs.specs.declared.reading.MsgFault.TheVariants.{BadTemplate, Short}
use Rattle.fixp_msgs.specs.Header.{block_length_in, template_in, schema_in, version_in, session_schema}
use Rattle.fixp_msgs.specs.Message.{Message, message_of}
use Rattle.fixp_msgs.specs.Table.{row_of, block_size, templates, is_template}
use Rattle.fixp_msgs.specs.Grammar.{Spells, HoldsAll, HasDatum}
use Rattle.fixp_msgs.specs.Spelled.{message_at, has_datum, message_in}
use Rattle.fixp_msgs.specs.Reading.{Answers}
use Rattle.fixp_msgs.specs.Laws.{SpelledIsFound}
use Rattle.fixp_msgs.proofs.Rows.{of_template, is_template-row, spelled_at}

-- a template's message has its template, and its fields and its datum are those of the bytes
record FitsRow (id : ℕ) : Type 0 where
  template : (version : ℕ) (block behind : List ℕ) → id ≡ (row_of (message_at version id block behind)).template
  fields : (version : ℕ) (block behind : List ℕ) → HoldsAll version block 0 (row_of (message_at version id block behind)).fields
  datum : (version : ℕ) (block behind : List ℕ) → has_datum (row_of (message_at version id block behind)).datum behind ≡ true
      → HasDatum behind (row_of (message_at version id block behind)).datum

fits-1 : FitsRow 1
fits-1 = record { template = λ version block behind. refl; fields = λ version block behind. (refl, (refl, (refl, tt))); datum = λ version block behind e. record { whole = leb-true _ _ e; value = refl } }

fits-2 : FitsRow 2
fits-2 = record { template = λ version block behind. refl; fields = λ version block behind. (refl, (refl, (refl, tt))); datum = λ version block behind e. record { whole = leb-true _ _ e; value = refl } }

fits-3 : FitsRow 3
fits-3 = record { template = λ version block behind. refl; fields = λ version block behind. (refl, (refl, (refl, tt))); datum = λ version block behind e. record { whole = leb-true _ _ e; value = refl } }

fits-4 : FitsRow 4
fits-4 = record { template = λ version block behind. refl; fields = λ version block behind. (refl, (refl, (refl, (refl, (refl, tt))))); datum = λ version block behind e. record { whole = leb-true _ _ e; value = refl } }

fits-5 : FitsRow 5
fits-5 = record { template = λ version block behind. refl; fields = λ version block behind. (refl, (refl, (refl, (refl, (refl, tt))))); datum = λ version block behind e. tt }

fits-6 : FitsRow 6
fits-6 = record { template = λ version block behind. refl; fields = λ version block behind. (refl, (refl, (refl, tt))); datum = λ version block behind e. record { whole = leb-true _ _ e; value = refl } }

fits-7 : FitsRow 7
fits-7 = record { template = λ version block behind. refl; fields = λ version block behind. (refl, tt); datum = λ version block behind e. tt }

fits-8 : FitsRow 8
fits-8 = record { template = λ version block behind. refl; fields = λ version block behind. tt; datum = λ version block behind e. tt }

fits-9 : FitsRow 9
fits-9 = record { template = λ version block behind. refl; fields = λ version block behind. (refl, (refl, (refl, (refl, tt)))); datum = λ version block behind e. tt }

fits-10 : FitsRow 10
fits-10 = record { template = λ version block behind. refl; fields = λ version block behind. (refl, (refl, (refl, (refl, tt)))); datum = λ version block behind e. tt }

fits-11 : FitsRow 11
fits-11 = record { template = λ version block behind. refl; fields = λ version block behind. (refl, (refl, (refl, tt))); datum = λ version block behind e. record { whole = leb-true _ _ e; value = refl } }

fits-12 : FitsRow 12
fits-12 = record { template = λ version block behind. refl; fields = λ version block behind. (refl, (refl, tt)); datum = λ version block behind e. tt }

fits-13 : FitsRow 13
fits-13 = record { template = λ version block behind. refl; fields = λ version block behind. (refl, (refl, tt)); datum = λ version block behind e. tt }

fits-14 : FitsRow 14
fits-14 = record { template = λ version block behind. refl; fields = λ version block behind. (refl, (refl, tt)); datum = λ version block behind e. tt }

fits-15 : FitsRow 15
fits-15 = record { template = λ version block behind. refl; fields = λ version block behind. (refl, tt); datum = λ version block behind e. tt }

fits-16 : FitsRow 16
fits-16 = record { template = λ version block behind. refl; fields = λ version block behind. (refl, (refl, tt)); datum = λ version block behind e. record { whole = leb-true _ _ e; value = refl } }

fits-rows : AllByRecursion FitsRow templates
fits-rows = (fits-1, (fits-2, (fits-3, (fits-4, (fits-5, (fits-6, (fits-7, (fits-8, (fits-9, (fits-10, (fits-11, (fits-12, (fits-13, (fits-14, (fits-15, (fits-16, tt))))))))))))))))

-- the fields of a template's message are those of the bytes
pub fields_at : (version id : ℕ) (block behind : List ℕ) → is_template id ≡ true → HoldsAll version block 0 (row_of (message_at version id block behind)).fields
fields_at version id block behind one = (of_template FitsRow fits-rows id one).fields version block behind

if-true : {A : Type 0} (b : Bool) (x y : A) → b ≡ true → (if b then x else y) ≡ x
if-true true x y e = refl
if-true false x y e = absurd (false≢true e)

and-parts : (a b : Bool) → (a && b) ≡ true → (a ≡ true) × (b ≡ true)
and-parts true b e = (refl, e)
and-parts false b e = absurd (false≢true e)

test-some : (b : Bool) (x m : Message) → (if b then Some x else None) ≡ Some m → (b ≡ true) × (x ≡ m)
test-some true x m e = (refl, cc)
test-some false x m e = cc

has_datum-true : (datum : Option (List ℕ)) (behind : List ℕ) → HasDatum behind datum → has_datum datum behind ≡ true
has_datum-true None behind _ = refl
has_datum-true (Some d) behind begins = le-leb (2 + from_le_bytes w16 behind) (length behind) begins.whole

-- what is spelled is found
pub found : (bytes : List ℕ) (m : Message) → Spells bytes m → message_in bytes ≡ Some m
unfolding message_in
found bytes m s =
    let size = block_length_in bytes in
    let block = take size (drop 8 bytes) in
    let behind = drop size (drop 8 bytes) in
    let same : m ≡ message_at (version_in bytes) (template_in bytes) block behind = spelled_at bytes m s in
    let one : is_template (template_in bytes) ≡ true = ap is_template s.template ∙ is_template-row m in
    let session : (schema_in bytes == session_schema) ≡ true = ap (λ n. n == session_schema) s.schema in
    let covers : nat_le (block_size (row_of (message_at (version_in bytes) (template_in bytes) block behind))) size ≡ true =
    ap (λ x. nat_le (block_size (row_of x)) size) (sym same) ∙ le-leb (block_size (row_of m)) size s.body.stands.covers in
    let whole : nat_le (8 + size) (length bytes) ≡ true = le-leb (8 + size) (length bytes) s.body.stands.whole in
    let datum : has_datum (row_of (message_at (version_in bytes) (template_in bytes) block behind)).datum behind ≡ true =
    ap (λ x. has_datum (row_of x).datum behind) (sym same) ∙ ap (has_datum (row_of m).datum) (sym s.body.stands.rest) ∙ has_datum-true (row_of m).datum s.body.behind s.body.datum in
    if-true _ (Some (message_at (version_in bytes) (template_in bytes) block behind)) None (and_from _ _ one (and_from _ _ session (and_from _ _ covers (and_from _ _ whole datum))))
    ∙ ap Some (sym same)

-- what is found is spelled
pub spelled : (bytes : List ℕ) (m : Message) → message_in bytes ≡ Some m → Spells bytes m
unfolding message_in
spelled bytes m e =
    let size = block_length_in bytes in
    let block = take size (drop 8 bytes) in
    let behind = drop size (drop 8 bytes) in
    let picked = test-some _ (message_at (version_in bytes) (template_in bytes) block behind) m e in
    let one = and-parts _ _ picked.0 in
    let session = and-parts _ _ one.1 in
    let covers = and-parts _ _ session.1 in
    let whole = and-parts _ _ covers.1 in
    let row = of_template FitsRow fits-rows (template_in bytes) one.0 in
    subst (Spells bytes) picked.1 (record {
      template = row.template (version_in bytes) block behind;
      schema = eqb-true (schema_in bytes) session_schema session.0;
      body = record {
        block = block;
        behind = behind;
        stands = record { covers = leb-true _ _ covers.0; whole = leb-true _ _ whole.0; stated = refl; rest = refl };
        fields = row.fields (version_in bytes) block behind;
        datum = row.datum (version_in bytes) block behind whole.1;
      };
    })

pub spelled_is_found : SpelledIsFound
spelled_is_found bytes m = (found bytes m, spelled bytes m)

none-found : (bytes : List ℕ) (o : Option Message) → message_in bytes ≡ o → ((m : Message) → Spells bytes m → ⊥) → o ≡ None
none-found bytes None e none = refl
none-found bytes (Some m) e none = absurd (none m (spelled bytes m e))

-- what reading answers is what is found
pub answers-found : (bytes : List ℕ) (x : SessionMsg) → Answers bytes (Ok x) → Some (message_of x) ≡ message_in bytes
answers-found bytes x here = sym (found bytes (message_of x) here)

pub answers-none : (bytes : List ℕ) (fault : MsgFault) → Answers bytes (Err fault) → None ≡ message_in bytes
answers-none bytes (BadTemplate id) (here, none) =
    sym (none-found bytes (message_in bytes) refl (λ m s. false≢true (sym none ∙ ap is_template (sym here ∙ s.template) ∙ is_template-row m)))
answers-none bytes Short (_, none) = sym (none-found bytes (message_in bytes) refl none)
