-- Bytes that spell a session message spell its tree by the session's schema.
use Rattle.std.proofs.Common.{◌≡◌, ℕ, ◌≤◌, pos, Bool, true, false, IsTrue, List, [], ◌∷◌, ◌++◌, length, take, drop, map, Option, Some, None, refl, sym, ap, ◌∙◌, subst, append_assoc, arith}
use Rattle.std.specs.Prelude.{⊤}
use Rattle.std.proofs.lemmas.List.{take-append-drop, append-nil}
use Rattle.std.specs.Int.{w16, from_le_bytes}
use Rattle.sbe_prim.specs.declared.Primitive.TheVariants.{UInt16}
use Rattle.sbe_prim.specs.declared.Order.TheVariants.{Little}
use Rattle.sbe_value.specs.Trees.{no_groups}
use Rattle.sbe_layout.specs.declared.items.DataPlan.{DataPlan}
use Rattle.sbe_layout.specs.declared.plan.MessagePlan.{MessagePlan}
use Rattle.sbe_layout.specs.Trees.{PlanTree}
use Rattle.sbe_layout.specs.Plans as plans
use Rattle.sbe_grammar.specs.Parts.{Then}
use Rattle.sbe_grammar.specs.Values.{is_in}
use Rattle.sbe_grammar.specs.Spelling.{IsBlock, SpellsGroups, SpellsData}
use Rattle.fixp_msgs.specs.Header.{block_length_in, version_in}
use Rattle.fixp_msgs.specs.Message.{Message}
use Rattle.fixp_msgs.specs.Table.{Row, row_of, block_size}
use Rattle.fixp_msgs.specs.Grammar.{Spells, HoldsAll, HasDatum}
use Rattle.session_grammar.specs.SessionTrees.{item_of, data_of, tree_of_row, row_before}
use Rattle.sbe_value.specs.declared.message.Message as tree
use Rattle.sbe_grammar.specs.Spelling as grammar
use Rattle.session_grammar.specs.SessionSchema.{schema_with}
use Rattle.session_grammar.proofs.Cutting.{number_2, all_there, cut_at}
use Rattle.session_grammar.proofs.Fields.{in_every, timely, values_are, all_within}
use Rattle.session_grammar.proofs.SessionRows.{DataFit, Fits, FitsFound, plans_at, fits, fits_before}

-- what came with version 0 is there
pub there : (version : ℕ) (d : DataPlan) → d ≡ record { name = d.name; since = pos 0; length = UInt16 } → IsTrue (is_in version d.since)
there version d is = ap (λ (x : DataPlan). is_in version x.since) is ∙ in_every version

-- the datum behind a block, and any bytes
data_spelled : (version : ℕ) (behind : List ℕ) (datum : Option (List ℕ)) (ds : List DataPlan) → DataFit datum ds → HasDatum behind datum → Then (SpellsData Little version (data_of datum) ds) (λ rest. ⊤) behind
data_spelled version behind None [] fit begins = record { front = []; behind = behind; joined = refl; is_front = refl; is_behind = tt }
data_spelled version behind None (d ∷ ds) fit begins = absurd fit
data_spelled version behind (Some datum) [] fit begins = absurd fit
data_spelled version behind (Some datum) (d ∷ e ∷ ds) fit begins = absurd fit
data_spelled version behind (Some datum) (d ∷ []) is begins =
    let n = from_le_bytes w16 behind in
    let after = drop n (drop 2 behind) in
    let size : n ≡ length datum = sym (ap length begins.value ∙ all_there n 2 behind begins.whole) in
    let text : drop 2 behind ≡ (datum ++ []) ++ after =
    sym (take-append-drop n (drop 2 behind)) ∙ ap (λ (xs : List ℕ). xs ++ after) (sym begins.value ∙ sym (append-nil datum)) in
    let plain : DataPlan = record { name = d.name; since = pos 0; length = UInt16 } in
    let made : SpellsData Little version (data_of (Some datum)) (plain ∷ []) (take 2 behind ++ (datum ++ [])) = (
      there version plain refl,
      record {
        front = take 2 behind;
        behind = datum ++ [];
        joined = refl;
        is_front = record { whole = all_there 2 0 behind (omega (arith, begins.whole)); number = number_2 behind ∙ size };
        is_behind = record { front = datum; behind = []; joined = refl; is_front = refl; is_behind = refl };
      },
    ) in
    record {
      front = take 2 behind ++ (datum ++ []);
      behind = after;
      joined = sym (take-append-drop 2 behind) ∙ ap (λ (xs : List ℕ). take 2 behind ++ xs) text ∙ sym (append_assoc (take 2 behind) (datum ++ []) after);
      is_front = subst (λ (x : DataPlan). SpellsData Little version (data_of (Some datum)) (x ∷ []) (take 2 behind ++ (datum ++ []))) (sym is) made;
      is_behind = tt;
    }

-- a block of a row's fields, no groups, the row's datum, and any bytes
abbrev BodyOf : ℕ → ℕ → MessagePlan → Row → List ℕ → Type 0
BodyOf version size layout r =
    Then (IsBlock Little version size layout.root.marks layout.root.items (map item_of r.fields)) (Then (SpellsGroups Little version no_groups layout.root.groups) (Then (SpellsData Little version (data_of r.datum) layout.root.vars) (λ rest. ⊤)))

body_spelled : (version size : ℕ) (layout : MessagePlan) (r : Row) (bytes block behind : List ℕ) → Fits layout r → bytes ≡ block ++ behind → length block ≡ size → block_size r ≤ size → HoldsAll version block 0 r.fields → HasDatum behind r.datum → BodyOf version size layout r bytes
body_spelled version size layout r bytes block behind fit joined whole covers fields datum = record {
  front = block;
  behind = behind;
  joined = joined;
  is_front = record {
    whole = whole;
    fields_within = all_within version size 0 r.fields layout.root.marks fit.lasts (timely version 0 block r.fields fields) fit.marks (omega (arith, covers));
    values = values_are version 0 block r.fields layout.root.items fit.lasts fit.items fields (omega (arith, covers, whole));
  };
  is_behind = record {
    front = [];
    behind = behind;
    joined = refl;
    is_front = subst (λ (x : PlanTree). SpellsGroups Little version no_groups x []) (sym fit.groups) refl;
    is_behind = data_spelled version behind r.datum layout.root.vars fit.vars datum;
  };
}

-- the tree is spelled by a plan of the session's schema, with the elements of version 1 or without
abbrev pub SpellsWith : Bool → ℕ → List ℕ → tree.Message → Type 0
SpellsWith newer version bytes t = grammar.Spells (plans.plan_of (schema_with newer version)) bytes t

-- of a message that is spelled, a row has these fields and the message's datum
record IsPart (bytes : List ℕ) (m : Message) (s : Spells bytes m) (r : Row) : Type 0 where
  template : r.template ≡ (row_of m).template
  covers : block_size r ≤ block_size (row_of m)
  fields : HoldsAll (version_in bytes) s.body.block 0 r.fields
  datum : HasDatum s.body.behind r.datum

by_layout : (newer : Bool) (version : ℕ) (bytes : List ℕ) (m : Message) (r : Row) (found : Option MessagePlan) → plans.message_of (row_of m).template (plans_at newer version) ≡ found
    → FitsFound found r → (s : Spells bytes m) → IsPart bytes m s r → SpellsWith newer version bytes (tree_of_row r)
by_layout newer version bytes m r None e fit s part = absurd fit
by_layout newer version bytes m r (Some layout) e fit s part =
    let size = block_length_in bytes in
    let stands = s.body.stands in
    let least : 8 ≤ length bytes = omega (arith, stands.whole) in
    let joined : drop 8 bytes ≡ s.body.block ++ s.body.behind =
    sym (take-append-drop size (drop 8 bytes))
    ∙ ap (λ (xs : List ℕ). xs ++ drop size (drop 8 bytes)) (sym stands.stated)
    ∙ ap (λ (xs : List ℕ). s.body.block ++ xs) (sym stands.rest) in
    let whole : length s.body.block ≡ size = ap length stands.stated ∙ all_there size 8 bytes stands.whole in
    let told = version_in bytes in (
      layout,
      record {
        size = size;
        version = told;
        found = sym (ap (λ (n : ℕ). plans.message_of n (plans_at newer version)) part.template ∙ e);
        joined = record {
          front = take 2 bytes;
          behind = drop 2 bytes;
          joined = sym (take-append-drop 2 bytes);
          is_front = record { whole = all_there 2 0 bytes (omega (arith, least)); number = number_2 bytes };
          is_behind = record {
            front = take 2 (drop 2 bytes);
            behind = drop 4 bytes;
            joined = cut_at 2 2 bytes;
            is_front = record { whole = all_there 2 2 bytes (omega (arith, least)); number = number_2 (drop 2 bytes) ∙ s.template ∙ sym part.template };
            is_behind = record {
              front = take 2 (drop 4 bytes);
              behind = drop 6 bytes;
              joined = cut_at 2 4 bytes;
              is_front = record { whole = all_there 2 4 bytes (omega (arith, least)); number = number_2 (drop 4 bytes) ∙ s.schema };
              is_behind = record {
                front = take 2 (drop 6 bytes);
                behind = drop 8 bytes;
                joined = cut_at 2 6 bytes;
                is_front = record { whole = all_there 2 6 bytes (omega (arith, least)); number = number_2 (drop 6 bytes) };
                is_behind = body_spelled told size layout r (drop 8 bytes) s.body.block s.body.behind fit joined whole (omega (arith, stands.covers, part.covers)) part.fields part.datum;
              };
            };
          };
        };
      },
    )

pub tree_spelled : (version : ℕ) (bytes : List ℕ) (m : Message) → Spells bytes m → SpellsWith true version bytes (tree_of_row (row_of m))
tree_spelled version bytes m s =
    by_layout true version bytes m (row_of m) (plans.message_of (row_of m).template (plans_at true version)) refl (fits version m) s
    (record { template = refl; covers = omega arith; fields = s.body.fields; datum = s.body.datum })

-- what version 0 has of the fields that a block holds
first_fields : (version : ℕ) (m : Message) (block : List ℕ) → HoldsAll version block 0 (row_of m).fields → HoldsAll version block 0 (row_before m).fields
first_fields version (Message.negotiate _ _ _ _) block h = h
first_fields version (Message.negotiation_response _ _ _ _) block h = h
first_fields version (Message.negotiation_reject _ _ _ _) block h = h
first_fields version (Message.establish _ _ _ _ _ _) block (a, (b, (c, (d, _)))) = (a, (b, (c, (d, tt))))
first_fields version (Message.establishment_ack _ _ _ _ _) block (a, (b, (c, (d, _)))) = (a, (b, (c, (d, tt))))
first_fields version (Message.establishment_reject _ _ _ _) block h = h
first_fields version (Message.sequence _) block h = h
first_fields version Message.unsequenced_heartbeat block h = h
first_fields version (Message.retransmit_request _ _ _ _) block h = h
first_fields version (Message.retransmission _ _ _ _) block h = h
first_fields version (Message.retransmit_reject _ _ _ _) block h = h
first_fields version (Message.applied _ _) block h = h
first_fields version (Message.not_applied _ _) block h = h
first_fields version (Message.finished_sending _ _) block h = h
first_fields version (Message.finished_receiving _) block h = h
first_fields version (Message.terminate _ _ _) block h = h

first_bytes : (m : Message) → block_size (row_before m) ≤ block_size (row_of m)
first_bytes (Message.negotiate _ _ _ _) = omega arith
first_bytes (Message.negotiation_response _ _ _ _) = omega arith
first_bytes (Message.negotiation_reject _ _ _ _) = omega arith
first_bytes (Message.establish _ _ _ _ e _) = omega arith
first_bytes (Message.establishment_ack _ _ _ _ e) = omega arith
first_bytes (Message.establishment_reject _ _ _ _) = omega arith
first_bytes (Message.sequence _) = omega arith
first_bytes Message.unsequenced_heartbeat = omega arith
first_bytes (Message.retransmit_request _ _ _ _) = omega arith
first_bytes (Message.retransmission _ _ _ _) = omega arith
first_bytes (Message.retransmit_reject _ _ _ _) = omega arith
first_bytes (Message.applied _ _) = omega arith
first_bytes (Message.not_applied _ _) = omega arith
first_bytes (Message.finished_sending _ _) = omega arith
first_bytes (Message.finished_receiving _) = omega arith
first_bytes (Message.terminate _ _ _) = omega arith

pub tree_spelled_before : (version : ℕ) (bytes : List ℕ) (m : Message) → Spells bytes m → SpellsWith false version bytes (tree_of_row (row_before m))
tree_spelled_before version bytes m s =
    by_layout false version bytes m (row_before m) (plans.message_of (row_of m).template (plans_at false version)) refl (fits_before version m) s
    (record { template = refl; covers = first_bytes m; fields = first_fields (version_in bytes) m s.body.block s.body.fields; datum = s.body.datum })
