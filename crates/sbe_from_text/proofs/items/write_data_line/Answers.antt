use Rattle.std.proofs.Common.{◌∙◌, sym}
use Rattle.sbe_encode.specs.Faults.{datum_fault}
use Rattle.text_words.specs.Lines.{lines_in}
use Rattle.sbe_text.specs.Tokens.{datum_of}
use Rattle.sbe_text.specs.Reading.{read_datum}
use Rattle.sbe_from_text.specs.Written.{datum_bytes}
use Rattle.sbe_from_text.proofs.Lined.{element_is, read_written}
use Rattle.sbe_from_text.proofs.items.write_data_line.Goals as goal

pub returns-in-Ok-write_datum : goal.returns-in-Ok-write_datum
returns-in-Ok-write_datum c =
    let d = c.args.plan.now in
    let line = element_is c.args.before.now d.name c.in-Ok.text.now datum_of c.in-Ok-Some.told (lines_in c.args.left.now) (lines_in c.in-Ok.rest.now) c.in-Ok.ensures (sym c.in-Ok-Some.ensures ∙ c.in-Ok-Some.field-0-is) in
    read_written c.args.out.now.items c.write_datum.new.out.items (datum_fault d) (datum_bytes c.args.order d) (read_datum c.args.before.now d (lines_in c.args.left.now)) c.in-Ok-Some.told (lines_in c.in-Ok.rest.now) line c.in-Ok-write_datum.ensures.faultless c.in-Ok-write_datum.ensures.appended
