-- The numbers of one flow where a connection begins.
use Rattle.std.proofs.Common.{◌≡◌, ℕ, ◌+◌, Bool, true, false, List, Option, None, refl, sym, ap, subst, ◌∙◌, arith, true≢false}
use Rattle.session_model.specs.Journal.{Entry}
use Rattle.fixp_msgs.specs.declared.flow.Flow.{Flow}
use Rattle.flow_recover.specs.Receiving as receiver_is
use Rattle.flow_retrans.specs.declared.request.Request.TheVariants as requests
use Rattle.fixp_shake.specs.declared.phase.Phase.TheVariants as phases
use Rattle.fixp_shake.specs.Phases.{is_shaken}
use Rattle.fixp_replies.specs.declared.act.Ending.{Ending}
use Rattle.fixp_replies.specs.declared.facts.EndState.{EndState}
use Rattle.fixp_replies.specs.declared.facts.Facts.{Facts}
use Rattle.fixp_replies.specs.Facts.{Around, is_initiator, connecting}
use Rattle.fixp_replies.specs.Events.{Made, begun}
use Rattle.connection_laws.specs.Writing.{Piece, said_all}
use Rattle.honest_ends.specs.Numbers.{exactly, Answers, Runs, served}
use Rattle.honest_ends.proofs.Finishing.{total}
use Rattle.honest_ends.proofs.Asking.{asks, restarts, all_none, establish_runs}
use Rattle.honest_ends.proofs.Phased.{begun_as}
use Rattle.std.specs.List.{AllByRecursion}
use Rattle.honest_ends.specs.Numbered.{Names, TellsNext}
use Rattle.honest_ends.proofs.Expecting.{opening_tells}
use Rattle.honest_ends.proofs.Awaiting.{not_softly}
use Rattle.honest_ends.proofs.Requesting.{none_named, none_answered}
use Rattle.honest_ends.proofs.Keeping.{Between, ready_first}

-- what a connection begins with
record Begins (x : Around) (recorded : EndState) (m : Made) : Type 0 where
  same : m.next.recorded ≡ recorded
  receiver : m.next.connection.receiver ≡ receiver_is.fresh recorded.inbox_next
  requester : m.next.connection.requester ≡ requests.Nothing
  before : is_shaken m.next.connection.phase ≡ false
  runs : Runs x.config.own_flow (exactly (recorded.sent + 1)) None (said_all m.written) (recorded.sent + 1) None
  free : served m.next.connection.serving ≡ None
  asks_none : total asks (said_all m.written) ≡ 0
  begins_none : total restarts (said_all m.written) ≡ 0
  firm : m.next.connection.soft ≡ false
  told : AllByRecursion (TellsNext x.config m.next) (said_all m.written)

begins : (x : Around) (recorded : EndState) → Begins x recorded (begun x recorded)
begins x recorded = by_case (is_initiator x.config.role) recorded.negotiated
  where
    by_case : (i n : Bool) → Begins x recorded (begun_as x recorded i n)
    by_case false n = record { same = refl; receiver = refl; requester = refl; before = refl; runs = (refl, refl); free = refl; asks_none = refl; begins_none = refl; firm = refl; told = tt }
    by_case true true = record {
      same = refl;
      receiver = refl;
      requester = refl;
      before = refl;
      runs = establish_runs x (connecting recorded phases.Establishing) None;
      free = refl;
      asks_none = refl;
      begins_none = refl;
      firm = refl;
      told = (opening_tells x (connecting recorded phases.Establishing) (connecting recorded phases.Establishing) refl refl, tt);
    }
    by_case true false = record { same = refl; receiver = refl; requester = refl; before = refl; runs = ((tt, tt), (refl, refl)); free = refl; asks_none = refl; begins_none = refl; firm = refl; told = (tt, tt) }

pub meeting : (h : List Entry) (xw xr : Around) (writer reader : EndState) (limit : ℕ) (fw fr : Facts) (over : Option Ending) (way back : List Piece) → fw.recorded ≡ writer → fr.recorded ≡ reader → xr.config.peer_flow ≡ xw.config.own_flow
    → Between h fw xr.config limit fr over way back → Between h (begun xw writer).next xr.config limit (begun xr reader).next None (said_all (begun xw writer).written) (said_all (begun xr reader).written)
meeting h xw xr writer reader limit fw fr over way back ew er flow b =
    let w = begins xw writer in
    let r = begins xr reader in
    let sent_w = ap (λ (k : EndState). k.sent) (w.same ∙ sym ew) in
    let inbox_r = ap (λ (k : EndState). k.inbox_next) (r.same ∙ sym er) in
    let sent = b.sent in
    let next = b.next in
    record {
      sent = omega (arith, sent_w, sent);
      most = b.most;
      one = λ rec. let one = b.one rec in omega (arith, one, inbox_r);
      next = omega (arith, sent_w, inbox_r, next);
      told = r.told;
      restarts = λ _ _ soft. absurd (true≢false (sym soft ∙ not_softly (begun xr reader).next r.firm));
      goes = λ _ _. (
        ready_first xr.config (begun xr reader).next (said_all (begun xw writer).written) ((begun xw writer).next.recorded.sent + 1) (served (begun xw writer).next.connection.serving)
            (r.receiver ∙ ap (λ (k : EndState). receiver_is.fresh k.inbox_next) (sym r.same)) r.requester r.firm r.before (omega (arith, sent_w, inbox_r, next)) (runs w),
        record { asks = all_none (Names (begun xr reader).next.connection.requester) asks (none_named (begun xr reader).next.connection.requester) (said_all (begun xr reader).written) r.asks_none; answers = all_none (Answers (begun xr reader).next.connection.requester) restarts (none_answered (begun xr reader).next.connection.requester) (said_all (begun xw writer).written) w.begins_none },
      );
    }
  where
    runs : Begins xw writer (begun xw writer)
        → Runs xr.config.peer_flow (exactly ((begun xw writer).next.recorded.sent + 1)) None (said_all (begun xw writer).written) ((begun xw writer).next.recorded.sent + 1) (served (begun xw writer).next.connection.serving)
    runs w = subst (λ (f : Flow). Runs f (exactly ((begun xw writer).next.recorded.sent + 1)) None (said_all (begun xw writer).written) ((begun xw writer).next.recorded.sent + 1) (served (begun xw writer).next.connection.serving)) (sym flow)
        (subst (λ (k : EndState). Runs xw.config.own_flow (exactly (k.sent + 1)) None (said_all (begun xw writer).written) (k.sent + 1) (served (begun xw writer).next.connection.serving)) (sym w.same)
        (subst (λ (l : Option ℕ). Runs xw.config.own_flow (exactly (writer.sent + 1)) None (said_all (begun xw writer).written) (writer.sent + 1) l) (sym w.free) w.runs))
