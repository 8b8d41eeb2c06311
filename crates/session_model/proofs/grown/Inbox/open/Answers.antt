use Rattle.std.proofs.Common.{◌≡◌, ◌+◌, ◌∷◌, [], take, get_or, ap, arith}
use Rattle.session_model.specs.Inbox.{next_number}
use Rattle.session_model.specs.Views.{record_of, records_of}
use Rattle.session_model.specs.declared.event.Record.{Record}
use Rattle.session_model.specs.declared.event.Record.TheVariants.{Apply}
use Rattle.session_model.proofs.Growing.{next_within, next_more}
use Rattle.session_model.proofs.grown.Inbox.open.Goals as goal

-- what goals show past the end of the records
abbrev past_end : Record
past_end = Apply (record { number = 0; payload = record { ref_ptr = (0, 0); now = [] } })

pub next_behind-requires : goal.next_behind-requires
next_behind-requires c =
    let rs = c.deref-found-items.result.now in
    omega (arith, next_within rs c.loop-found.found-index past_end c.loop-found-test.true, ap (λ xs. next_number (records_of xs)) c.deref-found-items.ensures.value, c.requires)

pub loop-found-preserved : goal.loop-found-preserved
loop-found-preserved c =
    let rs = c.deref-found-items.result.now in
    let i = c.loop-found.found-index in
    let here : c.next_behind.result ≡ next_number (record_of (get_or rs i past_end) ∷ []) = c.next_behind.ensures.exact in
    let so_far : c.loop-found.next ≡ next_number (records_of (take i rs)) = c.loop-found.invariant in
    let both : c.max-next.result ≡ next_number (records_of (take (i + 1) rs)) = omega (arith, c.max-next.ensures, here, so_far, next_more rs i past_end c.loop-found-test.true) in
    both
