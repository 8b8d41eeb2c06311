use Rattle.std.proofs.Common.{◌∙◌, sym}
use Rattle.sbe_grammar.specs.Fits.{form_of}
use Rattle.sbe_grammar.specs.Canonical.{item_bytes}
use Rattle.sbe_encode.specs.Faults.{item_fault}
use Rattle.text_words.specs.Lines.{lines_in}
use Rattle.sbe_text.specs.Tokens.{value_of}
use Rattle.sbe_text.specs.Reading.{read_item}
use Rattle.sbe_from_text.proofs.Lined.{element_is, read_written}
use Rattle.sbe_from_text.proofs.items.write_any.Goals as goal

pub returns-in-Ok-write_item : goal.returns-in-Ok-write_item
returns-in-Ok-write_item c =
    let p = c.args.plan.now in
    let line = element_is c.args.before.now p.name c.in-Ok.text.now (value_of (form_of p)) c.in-Ok-Some.item (lines_in c.args.left.now) (lines_in c.in-Ok.rest.now) c.in-Ok.ensures (sym c.in-Ok-Some.ensures ∙ c.in-Ok-Some.field-0-is) in
    read_written c.args.out.now.items c.write_item.new.out.items (item_fault c.args.listings.now p) (item_bytes c.args.order p) (read_item c.args.before.now p (lines_in c.args.left.now)) c.in-Ok-Some.item (lines_in c.in-Ok.rest.now) line c.in-Ok-write_item.ensures.faultless c.in-Ok-write_item.ensures.appended
