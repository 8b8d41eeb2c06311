-- What both ends come to, where each inbox has all that is sent to it.
use Rattle.std.proofs.Common.{◌≡◌, ℕ, ◌-◌, List, sym, ap, subst, ◌∙◌, arith}
use Rattle.jr_kept.specs.Inbox.{count_of, next_of}
use Rattle.cmd_script.specs.declared.script.Load.{Load}
use Rattle.gw_rehearse.specs.declared.journals.Journals.{Journals}
use Rattle.gw_rehearse.specs.declared.summary.EndSummary.{EndSummary}
use Rattle.gw_rehearse.specs.Summaries.{HasReported, counts_to, reports_to, summary_of}
use Rattle.gw_rehearse.specs.Totals.{HaveAll, HaveTotals, all_reports, sum_of}

summed : (entries : List ℕ) (delivered skipped : ℕ) → EndSummary
summed entries delivered skipped = record { entries = entries; delivered = delivered; skipped = skipped }

same_summary : (a b : List ℕ) (d e s : ℕ) → a ≡ b → d ≡ e → s ≡ 0 → summed a d s ≡ summed b e 0
same_summary a b d e s p q r =
    ap (λ (x : List ℕ). summed x d s) p ∙ (ap (λ (x : ℕ). summed b x s) q ∙ ap (λ (x : ℕ). summed b e x) r)

pub have_totals : (load : Load) (initiator acceptor : Journals) → counts_to initiator.outbox initiator.senders ≡ load.messages → HasReported load acceptor
    → HaveAll load initiator acceptor → HaveTotals load initiator acceptor
unfolding summed
have_totals load initiator acceptor sent reported all =
    let total = sum_of load.messages in
    let counted = all.0 in
    let counted_i = all.1 in
    let entries : counts_to acceptor.outbox acceptor.senders ≡ reports_to total load.desks load.desks =
    ap (λ (n : ℕ). counts_to acceptor.outbox n) reported.0 ∙ (reported.1 ∙ ap (λ (n : ℕ). reports_to n load.desks load.desks) counted.0) in
    record {
      initiator_has = same_summary (counts_to initiator.outbox initiator.senders) load.messages (count_of initiator.inbox) (all_reports total load.desks)
          (next_of initiator.inbox - 1 - count_of initiator.inbox) sent counted_i.0 (omega (arith, counted_i.0, counted_i.1));
      acceptor_has = same_summary (counts_to acceptor.outbox acceptor.senders) (reports_to total load.desks load.desks) (count_of acceptor.inbox) total
          (next_of acceptor.inbox - 1 - count_of acceptor.inbox) entries counted.0 (omega (arith, counted.0, counted.1));
    }
