-- The bytes of a whole message.
use Rattle.std.proofs.Common.{◌≡◌, ℕ, ◌≤◌, true, false, Some, None, Ok, List, [], ◌++◌, length, refl, ap, sym, ◌∙◌, arith, codes}
use Rattle.std.specs.Prelude.{nat_lt, if◌then◌else◌}
use Rattle.std.proofs.lemmas.Bool.Decides.{nat_tests}
use Rattle.sbe_value.specs.declared.message.Message.{Message}
use Rattle.sbe_layout.specs.declared.plan.MessagePlan.{MessagePlan}
use Rattle.sbe_layout.specs.declared.plan.Plan.{Plan}
use Rattle.sbe_layout.specs.Plans.{message_of}
use Rattle.sbe_grammar.specs.Reading.{Entry}
use Rattle.sbe_grammar.specs.Canonical.{canonical, canonical_by, header_bytes}
use Rattle.sbe_encode.specs.Faults.{or_else, header_fault, layout_fault, length_fault, fault_by, encode_fault}
use Rattle.sbe_encode.specs.Blocks.{parts_fault}
use Rattle.text_words.specs.Lines.{lines_in}
use Rattle.sbe_text.specs.Read.{Read, next, read_line}
use Rattle.sbe_text.specs.Tokens.{is_line}
use Rattle.sbe_text.specs.Reading.{read_elements, read_groups, layout_on, message_with, read_body, read_message}
use Rattle.sbe_text.proofs.Fitting.{layout_read}
use Rattle.sbe_from_text.specs.Written.{IsWritten, written, entry_fault, entry_bytes, block_of}
use Rattle.sbe_from_text.proofs.Parts.{written_ok}

-- at most 16,384 bytes
short : (n : ℕ) → n ≤ 16384 → length_fault n ≡ None
short n h =
    let not_more : nat_lt 16384 n ≡ false = grind (arith, nat_tests) in
    rw not_more refl

-- a message whose line names a layout, whose header and root block are written, and whose line `end` is read
pub message_written : (schema : Plan) (layout : MessagePlan) (text left after rest header bytes : List ℕ) → read_line (layout_on schema.messages) (lines_in text) ≡ Ok (layout, lines_in left) → header_fault layout ≡ None → ((m : Message) → m.template ≡ layout.template → header ≡ header_bytes schema layout m) → written header (entry_fault schema.listings layout.root) (entry_bytes schema.order layout.root) (read_elements [] layout.root.items (read_groups [] layout.root.groups) layout.root.vars (lines_in left)) ≡ Ok ((None, bytes), lines_in after) → read_line (is_line (codes "end")) (lines_in after) ≡ Ok (codes "end", lines_in rest) → length bytes ≤ 16384 → IsWritten schema text rest bytes
message_written schema layout text left after rest header bytes line headed head e end few =
    let fault = entry_fault schema.listings layout.root in
    let parts = entry_bytes schema.order layout.root in
    let read = read_elements [] layout.root.items (read_groups [] layout.root.groups) layout.root.vars (lines_in left) in
    written_ok header bytes fault parts read (lines_in after) _ e (λ x is clear whole.
    let m : Message = message_with layout.template x in
    let found : message_of layout.template schema.messages ≡ Some layout = layout_read schema.messages (lines_in text) layout (lines_in left) line in
    let made : canonical schema m ≡ bytes =
    ap (λ l. canonical_by schema l m) found ∙ ap (λ z. z ++ parts x) (sym (head m refl)) ∙ whole in
    record {
      message = m;
      read =
          ap (λ r. next r (λ layout rest. read_body layout rest)) line
          ∙ ap (λ r. next r (λ e rest. next (read_line (is_line (codes "end")) rest) (λ _ end. Ok (message_with layout.template e, end)))) is
          ∙ ap (λ r. next r (λ _ end. Ok (m, end))) end;
      faultless =
          ap (λ l. fault_by schema l m) found
          ∙ ap (λ t. or_else (or_else t (fault x)) (length_fault (length (canonical schema m)))) headed
          ∙ ap (λ t. or_else t (length_fault (length (canonical schema m)))) clear
          ∙ ap (λ z. length_fault (length z)) made
          ∙ short (length bytes) few;
      is = sym made;
    })
