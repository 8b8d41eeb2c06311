use Rattle.order_desk.proofs.Padded.{symbol_is}
use Rattle.order_desk.proofs.reading.symbol_of.Goals as goal

pub returns : goal.returns
returns c =
    symbol_is c.args.text.now _ _ _ _ _ _ _ _ c.byte_at.ensures c.byte_at-2.ensures c.byte_at-3.ensures c.byte_at-4.ensures c.byte_at-5.ensures c.byte_at-6.ensures c.byte_at-7.ensures c.byte_at-8.ensures
