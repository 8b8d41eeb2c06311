use Rattle.std.proofs.Common.{◌≡◌, ◌∙◌, ◌++◌, ℕ, None, Ok, List, [], refl, ap, arith}
use Rattle.sbe_value.specs.declared.message.Message.{Message}
use Rattle.sbe_value.specs.Trees.{no_groups}
use Rattle.sbe_grammar.specs.Canonical.{header_bytes}
use Rattle.text_words.specs.Lines.{lines_in}
use Rattle.sbe_text.specs.Reading.{message_with, read_elements, read_groups}
use Rattle.sbe_from_text.specs.Written.{written, entry_fault, entry_bytes}
use Rattle.sbe_from_text.proofs.Messages.{message_written}
use Rattle.sbe_from_text.proofs.message.write_whole.Goals as goal

pub returns-clause-written : goal.returns-clause-written
returns-clause-written c =
    let plan = c.args.plan.now in
    let layout = c.in-Ok.layout.now in
    let header = c.write_header.new.out.items in
    let any : Message = message_with layout.template (record { items = []; groups = no_groups; vars = [] }) in
    let block = rw (c.as_slice-listings.ensures, c.begin.ensures.names) at c.in_ok-left.ensures.bytes in
    message_written plan layout c.args.text.now c.in-Ok.left.now c.in_ok-left.left.now c.in-Ok-read_end.rest.now header c.write_block.new.sheet.bytes.items
    c.in-Ok.ensures
    (c.in-Ok-write_header.ensures any refl).faultless
    (λ m same. (c.in-Ok-write_header.ensures m same).appended ∙ ap (λ z. z ++ header_bytes plan layout m) c.begin.ensures.bytes)
    block
    c.in-Ok-read_end.ensures
    (omega arith)
