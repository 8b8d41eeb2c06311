-- The phases of the two ends and what is under way between them, over any steps.
use Rattle.honest_ends.proofs.Windowing.{Window, window_empty, least_none, window_does, window_reads}
use Rattle.honest_ends.proofs.Held.{closing_done}
use Rattle.std.proofs.Common.{◌≡◌, ◌⊎◌, inl, inr, ℕ, ◌+◌, ◌≤◌, ◌&&◌, not, Bool, true, false, if◌then◌else◌, List, [], ◌∷◌, ◌++◌, Option, Some, None, refl, sym, ap, subst, ◌∙◌, arith, true≢false}
use Rattle.std.specs.Prelude.{is_some, IsSome}
use Rattle.flow_retrans.specs.Requests.{is_coming}
use Rattle.std.specs.List.{AllByRecursion}
use Rattle.session_model.specs.Journal.{Entry}
use Rattle.session_model.proofs.Lists.{all_append}
use Rattle.fixp_shake.specs.declared.config.Role.{Role}
use Rattle.fixp_shake.specs.declared.config.Role.TheVariants as roles
use Rattle.fixp_shake.specs.declared.config.EndConfig.{EndConfig}
use Rattle.fixp_shake.specs.declared.phase.Phase.{Phase}
use Rattle.fixp_shake.specs.declared.phase.Phase.TheVariants as phases
use Rattle.fixp_shake.specs.declared.violation.Violation.{Violation}
use Rattle.fixp_shake.specs.Flows.{is_recoverable, is_sequenced}
use Rattle.fixp_shake.specs.Phases.{is_idle, is_shaken, is_closing}
use Rattle.fixp_replies.specs.declared.act.Ending.{Ending}
use Rattle.fixp_replies.specs.declared.act.Ending.TheVariants as endings
use Rattle.fixp_replies.specs.declared.facts.EndState.{EndState}
use Rattle.fixp_replies.specs.declared.facts.Facts.{Facts}
use Rattle.fixp_replies.specs.Facts.{Around, is_initiator, connecting}
use Rattle.fixp_replies.specs.Incoming.{Incoming}
use Rattle.fixp_replies.specs.Outcomes.{Outcome, opening_negotiate, opening_establish}
use Rattle.fixp_replies.specs.Replies.{reply_of}
use Rattle.fixp_replies.specs.Events.{Made, begun}
use Rattle.fixp_machine.specs.Machine.{State, around, step, run, begin}
use Rattle.fixp_machine.proofs.Tests.{no_gap}
use Rattle.connection_laws.specs.Writing.{Piece, said, said_all, WritesOwn, nothing, shakes, returns, resends}
use Rattle.connection_laws.specs.Standing.{IsOpen}
use Rattle.connection_laws.proofs.Replied.{frame_writes}
use Rattle.two_ends.specs.Reading.{incoming_of}
use Rattle.honest_ends.specs.PhaseLaws.{IsLeft, IsOfTime, PhasesHold}
use Rattle.honest_ends.specs.Worlds.{World, Step, meets, initiator_reads, acceptor_reads, initiator_does, acceptor_does, written, after, initiator_read, acceptor_read, MayStep, world_after, AllMayStep, Match, Starts}
use Rattle.honest_ends.proofs.Shapes.{IsFree, IsAsk, IsAnswer, OneAtMost, AckFirst, one_behind, one_before, ack_behind, ack_before, all_free_flow, free_flows}
use Rattle.honest_ends.proofs.Replying.{Left, shaken_reply}
use Rattle.honest_ends.proofs.PhaseOpening.{Quiet, quiet_same, number_given, newer_tells, free_reply, Asked, answers, acknowledged, ask_reply, answer_reply, Acknowledged, stands, lost, ack_reply}
use Rattle.honest_ends.proofs.Asking.{asks, restarts, inside, coming, is_serving}
use Rattle.honest_ends.proofs.Expecting.{Presents, Softens, marks}
use Rattle.honest_ends.proofs.Serving.{Requests, asked_by_reader, asked_by_writer, free_for, served_by_writer, served_by_reader, serves_as}
use Rattle.honest_ends.proofs.Finishing.{counts, total, sendings, answers as answer_count, waiting, reads, tells}
use Rattle.honest_ends.proofs.Telling.{Awaits, read_by_reader, read_by_writer, due, told_by_writer, told_by_reader, tells_as}
use Rattle.honest_ends.proofs.Moving.{reads_as, Does, does_as, ends_still, each_of_time}
use Rattle.fixp_msgs.specs.Message.{establish}
use Rattle.fixp_replies.specs.Expecting.{is_newer}
use Rattle.honest_ends.specs.Numbers.{IsFlowing, Peer, ServesLater, served}

-- How far the two ends are: the handshake is asked for or answered, or neither is under way; it is acknowledged; it is done; or the
-- initiator has refused the acknowledgement. Facts of the initiator and its ending, those of the acceptor, and what is under way
pub data Shaking (ci ca : EndConfig) (fi : Facts) (ei : Option Ending) (fa : Facts) (outward homeward : List Piece) : Type 0 where
  opens : is_shaken fi.connection.phase ≡ false → Quiet fi → fa.connection.phase ≡ phases.Idle → Quiet fa
      → OneAtMost ci (IsAsk ci fi.connection.phase) outward → AllByRecursion (IsFree ca) homeward → Shaking ci ca fi ei fa outward homeward
  answering : is_shaken fi.connection.phase ≡ false → Quiet fi → fa.connection.phase ≡ phases.Idle → Quiet fa
      → AllByRecursion (IsFree ci) outward → OneAtMost ca (IsAnswer ca fi.connection.phase) homeward → Shaking ci ca fi ei fa outward homeward
  acknowledging : fi.connection.phase ≡ phases.Establishing → Quiet fi → fa.connection.phase ≡ phases.Established
      → AllByRecursion (IsFree ci) outward → AckFirst ca homeward → Shaking ci ca fi ei fa outward homeward
  standing : is_shaken fi.connection.phase ≡ true → fa.connection.phase ≡ phases.Established
      → AllByRecursion (IsFlowing ci) outward → AllByRecursion (IsFlowing ca) homeward → Shaking ci ca fi ei fa outward homeward
  refusing : IsSome ei → is_shaken fi.connection.phase ≡ false → Quiet fi → fa.connection.phase ≡ phases.Established
      → AllByRecursion (IsFree ci) outward → Shaking ci ca fi ei fa outward homeward

-- one end, as far as phases go: only a recoverable flow serves, and a violation that ended its connection is one of those left
pub record Keeps (c : EndConfig) (f : Facts) (e : Option Ending) : Type 0 where
  pub serves : is_recoverable c.own_flow ≡ false → f.connection.serving ≡ None
  pub ends : (v : Violation) → e ≡ Some (endings.Violation v) → IsLeft v

pub record Holds (w : World) : Type 0 where
  pub matches : Match w.initiator.config w.acceptor.config
  pub initiator : Keeps w.initiator.config w.initiator.facts w.initiator.ending
  pub acceptor : Keeps w.acceptor.config w.acceptor.facts w.acceptor.ending
  pub shaking : Shaking w.initiator.config w.acceptor.config w.initiator.facts w.initiator.ending w.acceptor.facts w.outward w.homeward
  pub outward_finish : Awaits w.initiator.facts w.acceptor.facts w.outward w.homeward
  pub homeward_finish : Awaits w.acceptor.facts w.initiator.facts w.homeward w.outward
  pub outward_requests : Requests w.initiator.facts w.acceptor.facts w.acceptor.ending w.outward w.homeward
  pub homeward_requests : Requests w.acceptor.facts w.initiator.facts w.initiator.ending w.homeward w.outward
  pub newer : w.acceptor.facts.connection.soft ≡ true → is_newer w.initiator.config ≡ true
  pub initiator_window : Window w.initiator
  pub acceptor_window : Window w.acceptor

-- what each end is before its handshake is done
pub unshaken_not : (b : Bool) → b ≡ false → b ≡ true → ⊥
unshaken_not b n h = true≢false (sym h ∙ n)

pub initiator_quiet : (ci ca : EndConfig) (fi : Facts) (ei : Option Ending) (fa : Facts) (outward homeward : List Piece) → Shaking ci ca fi ei fa outward homeward → is_shaken fi.connection.phase ≡ false → Quiet fi
initiator_quiet ci ca fi ei fa outward homeward (opens bi qi idle qa one free) h = qi
initiator_quiet ci ca fi ei fa outward homeward (answering bi qi idle qa free one) h = qi
initiator_quiet ci ca fi ei fa outward homeward (acknowledging e qi est free first) h = qi
initiator_quiet ci ca fi ei fa outward homeward (standing shaken est out home) h = absurd (unshaken_not (is_shaken fi.connection.phase) h shaken)
initiator_quiet ci ca fi ei fa outward homeward (refusing over bi qi est free) h = qi

pub established_not : (p : Phase) → p ≡ phases.Established → is_shaken p ≡ false → ⊥
established_not p e n = true≢false (sym (ap (λ k. is_shaken k) e) ∙ n)

pub acceptor_quiet : (ci ca : EndConfig) (fi : Facts) (ei : Option Ending) (fa : Facts) (outward homeward : List Piece) → Shaking ci ca fi ei fa outward homeward → is_shaken fa.connection.phase ≡ false → Quiet fa
acceptor_quiet ci ca fi ei fa outward homeward (opens bi qi idle qa one free) h = qa
acceptor_quiet ci ca fi ei fa outward homeward (answering bi qi idle qa free one) h = qa
acceptor_quiet ci ca fi ei fa outward homeward (acknowledging e qi est free first) h = absurd (established_not fa.connection.phase est h)
acceptor_quiet ci ca fi ei fa outward homeward (standing shaken est out home) h = absurd (established_not fa.connection.phase est h)
acceptor_quiet ci ca fi ei fa outward homeward (refusing over bi qi est free) h = absurd (established_not fa.connection.phase est h)

pub to_acceptor : (i a : EndConfig) → Match i a → Peer a i
to_acceptor i a m = record { session = sym m.session; flow = m.outward }

pub to_initiator : (i a : EndConfig) → Match i a → Peer i a
to_initiator i a m = record { session = m.session; flow = m.homeward }

-- an own flow that is not recoverable serves nothing after any reply
serves_none : (x : Around) (f : Facts) (i : Incoming) → is_recoverable x.config.own_flow ≡ false → f.connection.serving ≡ None → (reply_of x f i).next.connection.serving ≡ None
serves_none x f i n h = by_case (frame_writes x f i)
  where
    by_case : WritesOwn x f (reply_of x f i) → (reply_of x f i).next.connection.serving ≡ None
    by_case (nothing e s) = s.serving ∙ h
    by_case (shakes s) = s.serving ∙ h
    by_case (returns r) = r.serving ∙ h
    by_case (resends r) = absurd (true≢false (sym r.own ∙ n))

-- a reply, as far as one end goes
keeps_replying : (x : Around) (f : Facts) (e : Option Ending) (i : Incoming) → Keeps x.config f e → Left (reply_of x f i) → Keeps x.config (reply_of x f i).next (reply_of x f i).ending
keeps_replying x f e i k l = record { serves = λ n. serves_none x f i n (k.serves n); ends = l }

waits_for_client : (r : Role) (p : Phase) → r ≡ roles.Acceptor → p ≡ phases.Idle → (not (is_initiator r) && is_idle p) ≡ true
waits_for_client r p a b = ap (λ q. not (is_initiator q) && is_idle p) a ∙ ap (λ q. is_idle q) b

unshaken : (p q : Phase) → p ≡ q → is_shaken q ≡ false → is_shaken p ≡ false
unshaken p q e h = ap (λ r. is_shaken r) e ∙ h

-- an Establish under way that tells of a number is an end's of version 1
ask_newer : (ci : EndConfig) (ph : Phase) (p : Piece) → IsAsk ci ph p → Presents p → is_newer ci ≡ true
ask_newer ci phases.Establishing (said (establish id timestamp keepalive next expected credentials)) ask told = ask.4 told
ask_newer ci phases.Idle p ask told = absurd ask
ask_newer ci phases.Negotiating (said (establish id timestamp keepalive next expected credentials)) ask told = absurd ask
ask_newer ci phases.Negotiating _ ask told = absurd told
ask_newer ci phases.Establishing _ ask told = absurd told
ask_newer ci phases.Established p ask told = absurd ask
ask_newer ci phases.Closing p ask told = absurd ask
ask_newer ci phases.Ended p ask told = absurd ask

free_untold : (ci : EndConfig) (p : Piece) → IsFree ci p → Presents p → ⊥
free_untold ci (said (establish id timestamp keepalive next expected credentials)) free told = free
free_untold ci _ free told = told

softened_newer : (ci : EndConfig) (x : Around) (fi : Facts) (ei : Option Ending) (fa : Facts) (p : Piece) (left homeward : List Piece) → Shaking ci x.config fi ei fa (p ∷ left) homeward
    → (fa.connection.soft ≡ true → is_newer ci ≡ true) → (fa.connection.soft ≡ true) ⊎ Softens x fa p → is_newer ci ≡ true
softened_newer ci x fi ei fa p left homeward sh before (inl soft) = before soft
softened_newer ci x fi ei fa p left homeward (opens bi qi idle qa (inl one) free) before (inr s) = ask_newer ci fi.connection.phase p one.0 s.2
softened_newer ci x fi ei fa p left homeward (opens bi qi idle qa (inr more) free) before (inr s) = absurd (free_untold ci p more.0 s.2)
softened_newer ci x fi ei fa p left homeward (answering bi qi idle qa free one) before (inr s) = absurd (free_untold ci p free.0 s.2)
softened_newer ci x fi ei fa p left homeward (acknowledging e qi est free first) before (inr s) = absurd (free_untold ci p free.0 s.2)
softened_newer ci x fi ei fa p left homeward (standing done est out home) before (inr s) = absurd (established_not fa.connection.phase est s.0)
softened_newer ci x fi ei fa p left homeward (refusing over bi qi est free) before (inr s) = absurd (free_untold ci p free.0 s.2)

-- before the handshake is done nothing is held
abbrev pub Unheld : Around → Facts → Type 0
Unheld x f = is_shaken f.connection.phase ≡ false → x.held ≡ None

pub unheld_in : (s : State) (at now : ℕ) → Window s → Unheld (around s at now) s.facts
unheld_in s at now w before = least_none s (w.opening before)

-- The acceptor reads the first message under way to it
abbrev Replied : EndConfig → Facts → Option Ending → List Piece → List Piece → EndConfig → Outcome → Type 0
Replied ci fi ei left homeward ca o = Shaking ci ca fi ei o.next left (homeward ++ said_all o.written) × Left o

acceptor_hears : (ci : EndConfig) (fi : Facts) (ei : Option Ending) (x : Around) (fa : Facts) (p : Piece) (left homeward : List Piece) → Match ci x.config → answer_count p ≤ tells fa → (1 ≤ asks p → is_serving fa ≡ false)
    → Unheld x fa → Shaking ci x.config fi ei fa (p ∷ left) homeward → Replied ci fi ei left homeward x.config (reply_of x fa (incoming_of p))
acceptor_hears ci fi ei x fa p left homeward m told unserved none (opens bi qi idle qa (inl one) free) =
    by_reply (ask_reply x fa ci fi.connection.phase p (to_acceptor ci x.config m) (sym m.credentials) m.keepalive (waits_for_client x.config.role fa.connection.phase m.accepts idle) (unshaken fa.connection.phase phases.Idle idle refl) (none (unshaken fa.connection.phase phases.Idle idle refl)) qa one.0)
  where
    by_reply : Asked x.config fi.connection.phase fa (reply_of x fa (incoming_of p)) → Replied ci fi ei left homeward x.config (reply_of x fa (incoming_of p))
    by_reply (answers same quiet some l) = (answering bi qi (same ∙ idle) quiet one.1 (one_behind x.config (IsAnswer x.config fi.connection.phase) homeward _ free some), l)
    by_reply (acknowledged e now first l) = (acknowledging e qi now one.1 (ack_behind x.config homeward _ free first), l)
acceptor_hears ci fi ei x fa p left homeward m told unserved none (opens bi qi idle qa (inr more) free) =
    let r = free_reply x fa ci p (to_acceptor ci x.config m) (none (unshaken fa.connection.phase phases.Idle idle refl)) qa more.0 in
    (opens bi qi (ap (λ f. f.connection.phase) r.same ∙ idle) (subst (λ (f : Facts). Quiet f) (sym r.same) qa) more.1 (all_append (IsFree x.config) homeward _ free r.writes), r.ends)
acceptor_hears ci fi ei x fa p left homeward m told unserved none (answering bi qi idle qa free one) =
    let r = free_reply x fa ci p (to_acceptor ci x.config m) (none (unshaken fa.connection.phase phases.Idle idle refl)) qa free.0 in
    (answering bi qi (ap (λ f. f.connection.phase) r.same ∙ idle) (subst (λ (f : Facts). Quiet f) (sym r.same) qa) free.1 (one_before x.config (IsAnswer x.config fi.connection.phase) homeward _ one r.writes), r.ends)
acceptor_hears ci fi ei x fa p left homeward m told unserved none (acknowledging e qi est free first) =
    let r = shaken_reply x fa ci p (to_acceptor ci x.config m) told unserved (ap (λ q. is_shaken q) est) (free_flows ci p free.0) in
    (acknowledging e qi (r.phase ∙ est) free.1 (ack_before x.config homeward _ first r.writes), r.ends)
acceptor_hears ci fi ei x fa p left homeward m told unserved none (standing done est out home) =
    let r = shaken_reply x fa ci p (to_acceptor ci x.config m) told unserved (ap (λ q. is_shaken q) est) out.0 in
    (standing done (r.phase ∙ est) out.1 (all_append (IsFlowing x.config) homeward _ home r.writes), r.ends)
acceptor_hears ci fi ei x fa p left homeward m told unserved none (refusing over bi qi est free) =
    let r = shaken_reply x fa ci p (to_acceptor ci x.config m) told unserved (ap (λ q. is_shaken q) est) (free_flows ci p free.0) in
    (refusing over bi qi (r.phase ∙ est) free.1, r.ends)

-- and the initiator the first one to it, where its connection has not ended
abbrev Resolved : EndConfig → Facts → List Piece → List Piece → EndConfig → Outcome → Type 0
Resolved ca fa outward left ci o = Shaking ci ca o.next o.ending fa (outward ++ said_all o.written) left × Left o

pub no_ending : (e : Option Ending) → e ≡ None → IsSome e → ⊥
no_ending None same h = true≢false (sym h)
no_ending (Some a) same h = cc same

initiator_hears : (x : Around) (fi : Facts) (ei : Option Ending) (ca : EndConfig) (fa : Facts) (p : Piece) (outward left : List Piece) → Match x.config ca → answer_count p ≤ tells fi → (1 ≤ asks p → is_serving fi ≡ false) → ei ≡ None
    → Unheld x fi → Shaking x.config ca fi ei fa outward (p ∷ left) → Resolved ca fa outward left x.config (reply_of x fi (incoming_of p))
initiator_hears x fi ei ca fa p outward left m told unserved going none (opens bi qi idle qa one free) =
    let r = free_reply x fi ca p (to_initiator x.config ca m) (none bi) qi free.0 in (
      opens (ap (λ f. is_shaken f.connection.phase) r.same ∙ bi) (subst (λ (f : Facts). Quiet f) (sym r.same) qi) idle qa
          (subst (λ (f : Facts). OneAtMost x.config (IsAsk x.config f.connection.phase) (outward ++ said_all (reply_of x fi (incoming_of p)).written)) (sym r.same) (one_before x.config (IsAsk x.config fi.connection.phase) outward _ one r.writes)) free.1,
      r.ends,
    )
initiator_hears x fi ei ca fa p outward left m told unserved going none (answering bi qi idle qa free (inl one)) =
    let r = answer_reply x fi ca fi.connection.phase p (to_initiator x.config ca m) refl bi (none bi) qi one.0 in
    (opens r.before r.quiet idle qa (one_behind x.config _ outward _ free r.writes) one.1, r.ends)
initiator_hears x fi ei ca fa p outward left m told unserved going none (answering bi qi idle qa free (inr more)) =
    let r = free_reply x fi ca p (to_initiator x.config ca m) (none bi) qi more.0 in (
      answering (ap (λ f. is_shaken f.connection.phase) r.same ∙ bi) (subst (λ (f : Facts). Quiet f) (sym r.same) qi) idle qa (all_append (IsFree x.config) outward _ free r.writes)
          (subst (λ (f : Facts). OneAtMost ca (IsAnswer ca f.connection.phase) left) (sym r.same) more.1),
      r.ends,
    )
initiator_hears x fi ei ca fa p outward left m told unserved going none (acknowledging e qi est free (inl first)) =
    by_reply (ack_reply x fi ca p (to_initiator x.config ca m) e (unshaken fi.connection.phase phases.Establishing e refl) first.0)
  where
    by_reply : Acknowledged x.config fi (reply_of x fi (incoming_of p)) → Resolved ca fa outward left x.config (reply_of x fi (incoming_of p))
    by_reply (stands now w l) = (standing (ap (λ q. is_shaken q) now) est (all_append (IsFlowing x.config) outward _ (all_free_flow x.config outward free) w) first.1, l)
    by_reply (lost over same w l) = (refusing over (ap (λ f. is_shaken f.connection.phase) same ∙ unshaken fi.connection.phase phases.Establishing e refl) (subst (λ (f : Facts). Quiet f) (sym same) qi) est (all_append (IsFree x.config) outward _ free w), l)
initiator_hears x fi ei ca fa p outward left m told unserved going none (acknowledging e qi est free (inr more)) =
    let r = free_reply x fi ca p (to_initiator x.config ca m) (none (unshaken fi.connection.phase phases.Establishing e refl)) qi more.0 in
    (acknowledging (ap (λ f. f.connection.phase) r.same ∙ e) (subst (λ (f : Facts). Quiet f) (sym r.same) qi) est (all_append (IsFree x.config) outward _ free r.writes) more.1, r.ends)
initiator_hears x fi ei ca fa p outward left m told unserved going none (standing done est out home) =
    let r = shaken_reply x fi ca p (to_initiator x.config ca m) told unserved done home.0 in
    (standing (ap (λ q. is_shaken q) r.phase ∙ done) est (all_append (IsFlowing x.config) outward _ out r.writes) home.1, r.ends)
initiator_hears x fi ei ca fa p outward left m told unserved going none (refusing over bi qi est free) = absurd (no_ending ei going over)

-- with a message that it reads no end begins to close its connection
abbrev Closes : Facts → Outcome → Type 0
Closes f o = is_closing o.next.connection.phase ≡ true → is_closing f.connection.phase ≡ true

closes_same : (f g : Facts) → g ≡ f → is_closing g.connection.phase ≡ true → is_closing f.connection.phase ≡ true
closes_same f g e c = ap (λ (k : Facts). is_closing k.connection.phase) (sym e) ∙ c

initiator_closes : (x : Around) (fi : Facts) (ei : Option Ending) (ca : EndConfig) (fa : Facts) (p : Piece) (outward left : List Piece) → Match x.config ca → answer_count p ≤ tells fi → (1 ≤ asks p → is_serving fi ≡ false) → ei ≡ None
    → Unheld x fi → Shaking x.config ca fi ei fa outward (p ∷ left) → Closes fi (reply_of x fi (incoming_of p))
initiator_closes x fi ei ca fa p outward left m told unserved going none (opens bi qi idle qa one free) c =
    closes_same fi (reply_of x fi (incoming_of p)).next (free_reply x fi ca p (to_initiator x.config ca m) (none bi) qi free.0).same c
initiator_closes x fi ei ca fa p outward left m told unserved going none (answering bi qi idle qa free (inl one)) c =
    let r = answer_reply x fi ca fi.connection.phase p (to_initiator x.config ca m) refl bi (none bi) qi one.0 in
    absurd (unshaken_not (is_shaken (reply_of x fi (incoming_of p)).next.connection.phase) r.before (closing_done (reply_of x fi (incoming_of p)).next.connection.phase c))
initiator_closes x fi ei ca fa p outward left m told unserved going none (answering bi qi idle qa free (inr more)) c =
    closes_same fi (reply_of x fi (incoming_of p)).next (free_reply x fi ca p (to_initiator x.config ca m) (none bi) qi more.0).same c
initiator_closes x fi ei ca fa p outward left m told unserved going none (acknowledging e qi est free (inl first)) c =
    by_reply (ack_reply x fi ca p (to_initiator x.config ca m) e (unshaken fi.connection.phase phases.Establishing e refl) first.0)
  where
    by_reply : Acknowledged x.config fi (reply_of x fi (incoming_of p)) → is_closing fi.connection.phase ≡ true
    by_reply (stands now w l) = absurd (true≢false (sym c ∙ ap (λ q. is_closing q) now))
    by_reply (lost over same w l) = closes_same fi (reply_of x fi (incoming_of p)).next same c
initiator_closes x fi ei ca fa p outward left m told unserved going none (acknowledging e qi est free (inr more)) c =
    closes_same fi (reply_of x fi (incoming_of p)).next (free_reply x fi ca p (to_initiator x.config ca m) (none (unshaken fi.connection.phase phases.Establishing e refl)) qi more.0).same c
initiator_closes x fi ei ca fa p outward left m told unserved going none (standing done est out home) c =
    ap (λ q. is_closing q) (sym (shaken_reply x fi ca p (to_initiator x.config ca m) told unserved done home.0).phase) ∙ c
initiator_closes x fi ei ca fa p outward left m told unserved going none (refusing over bi qi est free) c = absurd (no_ending ei going over)

-- an acceptor never does
acceptor_never : (ci ca : EndConfig) (fi : Facts) (ei : Option Ending) (fa : Facts) (outward homeward : List Piece) → Shaking ci ca fi ei fa outward homeward → is_closing fa.connection.phase ≡ false
acceptor_never ci ca fi ei fa outward homeward (opens bi qi idle qa one free) = ap (λ q. is_closing q) idle
acceptor_never ci ca fi ei fa outward homeward (answering bi qi idle qa free one) = ap (λ q. is_closing q) idle
acceptor_never ci ca fi ei fa outward homeward (acknowledging e qi est free first) = ap (λ q. is_closing q) est
acceptor_never ci ca fi ei fa outward homeward (standing shaken est out home) = ap (λ q. is_closing q) est
acceptor_never ci ca fi ei fa outward homeward (refusing over bi qi est free) = ap (λ q. is_closing q) est

-- the initiator has another call
initiator_does_so : (s t : State) (out : List Piece) (ca : EndConfig) (fa : Facts) (outward homeward : List Piece) → Does s t out → Shaking s.config ca s.facts s.ending fa outward homeward
    → Shaking s.config ca t.facts t.ending fa (outward ++ out) homeward
initiator_does_so s t out ca fa outward homeward d (opens bi qi idle qa one free) =
    let b = d.before bi qi in
    opens (ap (λ c. is_shaken c.phase) b.0 ∙ bi) (quiet_same s.facts t.facts b.0 qi) idle qa
    (subst (λ (q : Phase). OneAtMost s.config (IsAsk s.config q) (outward ++ out)) (sym (ap (λ c. c.phase) b.0)) (one_before s.config (IsAsk s.config s.facts.connection.phase) outward out one b.1)) free
initiator_does_so s t out ca fa outward homeward d (answering bi qi idle qa free one) =
    let b = d.before bi qi in
    answering (ap (λ c. is_shaken c.phase) b.0 ∙ bi) (quiet_same s.facts t.facts b.0 qi) idle qa (all_append (IsFree s.config) outward out free b.1)
    (subst (λ (q : Phase). OneAtMost ca (IsAnswer ca q) homeward) (sym (ap (λ c. c.phase) b.0)) one)
initiator_does_so s t out ca fa outward homeward d (acknowledging e qi est free first) =
    let b = d.before (unshaken s.facts.connection.phase phases.Establishing e refl) qi in
    acknowledging (ap (λ c. c.phase) b.0 ∙ e) (quiet_same s.facts t.facts b.0 qi) est (all_append (IsFree s.config) outward out free b.1) first
initiator_does_so s t out ca fa outward homeward d (standing done est out_flows home) =
    let b = d.done done in
    standing b.0 est (all_append (IsFlowing s.config) outward out out_flows b.1) home
initiator_does_so s t out ca fa outward homeward d (refusing over bi qi est free) =
    let b = d.before bi qi in
    refusing (d.over over) (ap (λ c. is_shaken c.phase) b.0 ∙ bi) (quiet_same s.facts t.facts b.0 qi) est (all_append (IsFree s.config) outward out free b.1)

-- and the acceptor
acceptor_does_so : (s t : State) (out : List Piece) (ci : EndConfig) (fi : Facts) (ei : Option Ending) (outward homeward : List Piece) → is_initiator s.config.role ≡ false → Does s t out
    → Shaking ci s.config fi ei s.facts outward homeward → Shaking ci s.config fi ei t.facts outward (homeward ++ out)
acceptor_does_so s t out ci fi ei outward homeward role d (opens bi qi idle qa one free) =
    let b = d.before (unshaken s.facts.connection.phase phases.Idle idle refl) qa in
    opens bi qi (d.accepts role ∙ idle) (quiet_same s.facts t.facts b.0 qa) one (all_append (IsFree s.config) homeward out free b.1)
acceptor_does_so s t out ci fi ei outward homeward role d (answering bi qi idle qa free one) =
    let b = d.before (unshaken s.facts.connection.phase phases.Idle idle refl) qa in
    answering bi qi (d.accepts role ∙ idle) (quiet_same s.facts t.facts b.0 qa) free (one_before s.config (IsAnswer s.config fi.connection.phase) homeward out one b.1)
acceptor_does_so s t out ci fi ei outward homeward role d (acknowledging e qi est free first) =
    acknowledging e qi (d.accepts role ∙ est) free (ack_before s.config homeward out first (d.done (ap (λ q. is_shaken q) est)).1)
acceptor_does_so s t out ci fi ei outward homeward role d (standing done est out_flows home) =
    standing done (d.accepts role ∙ est) out_flows (all_append (IsFlowing s.config) homeward out home (d.done (ap (λ q. is_shaken q) est)).1)
acceptor_does_so s t out ci fi ei outward homeward role d (refusing over bi qi est free) = refusing over bi qi (d.accepts role ∙ est) free

-- those of time are left
time_left : (v : Violation) → IsOfTime v → IsLeft v
time_left = each_of_time IsLeft (λ last now. tt) (λ start now. tt)

-- a connection begins
quiet_beginning : (recorded : EndState) (p : Phase) → Quiet (connecting recorded p)
quiet_beginning recorded p = record { even = no_gap recorded.inbox_next recorded.inbox_next refl; free = refl; untold = refl }

abbrev pub begun_as : Around → EndState → (initiates negotiated : Bool) → Made
begun_as x recorded initiates negotiated =
    if not initiates then record { written = []; next = connecting recorded phases.Idle }
    else if negotiated then record { written = opening_establish x (connecting recorded phases.Establishing) ∷ []; next = connecting recorded phases.Establishing }
    else record { written = opening_negotiate x ∷ []; next = connecting recorded phases.Negotiating }

-- no finish is told or read yet
record Unfinished (m : Made) : Type 0 where
  sends : total sendings (said_all m.written) ≡ 0
  answers_none : total answer_count (said_all m.written) ≡ 0
  unread : reads m.next ≡ 0
  asks_none : total asks (said_all m.written) ≡ 0
  restarts_none : total restarts (said_all m.written) ≡ 0
  stays : inside false (said_all m.written) ≡ false
  none_coming : coming m.next ≡ false
  none_served : is_serving m.next ≡ false

record Opened (c : EndConfig) (m : Made) : Type 0 where
  before : is_shaken m.next.connection.phase ≡ false
  quiet : Quiet m.next
  asks : OneAtMost c (IsAsk c m.next.connection.phase) (said_all m.written)
  fresh : Unfinished m

initiator_begins : (x : Around) (recorded : EndState) → is_initiator x.config.role ≡ true → Opened x.config (begun x recorded)
initiator_begins x recorded role = by_case (is_initiator x.config.role) recorded.negotiated role
  where
    by_case : (i n : Bool) → i ≡ true → Opened x.config (begun_as x recorded i n)
    by_case true true e = record {
      before = refl;
      quiet = quiet_beginning recorded phases.Establishing;
      asks = inl ((refl, refl, (λ n. number_given (is_sequenced x.config.own_flow) (recorded.sent + 1) n), refl, newer_tells x (connecting recorded phases.Establishing)), tt);
      fresh = record { sends = refl; answers_none = refl; unread = refl; asks_none = refl; restarts_none = refl; stays = refl; none_coming = refl; none_served = refl };
    }
    by_case true false e = record { before = refl; quiet = quiet_beginning recorded phases.Negotiating; asks = inl ((refl, refl, refl), tt); fresh = record { sends = refl; answers_none = refl; unread = refl; asks_none = refl; restarts_none = refl; stays = refl; none_coming = refl; none_served = refl } }
    by_case false n e = absurd (true≢false (sym e))

record Waits (c : EndConfig) (m : Made) : Type 0 where
  idle : m.next.connection.phase ≡ phases.Idle
  quiet : Quiet m.next
  silent : AllByRecursion (IsFree c) (said_all m.written)
  firm : m.next.connection.soft ≡ false
  fresh : Unfinished m

acceptor_begins : (x : Around) (recorded : EndState) → is_initiator x.config.role ≡ false → Waits x.config (begun x recorded)
acceptor_begins x recorded role = by_case (is_initiator x.config.role) recorded.negotiated role
  where
    by_case : (i n : Bool) → i ≡ false → Waits x.config (begun_as x recorded i n)
    by_case false n e = record { idle = refl; quiet = quiet_beginning recorded phases.Idle; silent = tt; firm = refl; fresh = record { sends = refl; answers_none = refl; unread = refl; asks_none = refl; restarts_none = refl; stays = refl; none_coming = refl; none_served = refl } }
    by_case true n e = absurd (true≢false e)

no_violation : (e : Option Ending) → e ≡ None → (v : Violation) → e ≡ Some (endings.Violation v) → IsLeft v
no_violation e none v is = absurd (cc (none, is))

unfinished : (m n : Made) → Unfinished m → Unfinished n → Awaits m.next n.next (said_all m.written) (said_all n.written)
unfinished m n a b = let e = a.sends in let k = b.answers_none in let r = b.unread in record { once = omega (arith, e, k, r) }

unasked : (m n : Made) → Unfinished m → Unfinished n → Requests m.next n.next None (said_all m.written) (said_all n.written)
unasked m n a b =
    let e = a.restarts_none in
    let k = b.asks_none in
    record {
      once = omega (arith, e, k);
      free = λ some. a.none_served;
      even = λ _ _. ap (λ c. inside c (said_all m.written)) b.none_coming ∙ (a.stays ∙ sym a.none_served);
    }

pub holds_meeting : (w : World) (now_i now_a : ℕ) → Holds w → Holds (after w (meets now_i now_a))
holds_meeting w now_i now_a h =
    let i = initiator_begins (around w.initiator 0 now_i) w.initiator.facts.recorded (ap (λ r. is_initiator r) h.matches.initiates) in
    let a = acceptor_begins (around w.acceptor 0 now_a) w.acceptor.facts.recorded (ap (λ r. is_initiator r) h.matches.accepts) in
    record {
      matches = h.matches;
      newer = λ soft. absurd (true≢false (sym soft ∙ a.firm));
      initiator_window = window_empty (step w.initiator (begin now_i)) refl;
      acceptor_window = window_empty (step w.acceptor (begin now_a)) refl;
      initiator = record { serves = λ _. i.quiet.free; ends = no_violation None refl };
      acceptor = record { serves = λ _. a.quiet.free; ends = no_violation None refl };
      shaking = opens i.before i.quiet a.idle a.quiet i.asks a.silent;
      outward_finish = unfinished (begun (around w.initiator 0 now_i) w.initiator.facts.recorded) (begun (around w.acceptor 0 now_a) w.acceptor.facts.recorded) i.fresh a.fresh;
      homeward_finish = unfinished (begun (around w.acceptor 0 now_a) w.acceptor.facts.recorded) (begun (around w.initiator 0 now_i) w.initiator.facts.recorded) a.fresh i.fresh;
      outward_requests = unasked (begun (around w.initiator 0 now_i) w.initiator.facts.recorded) (begun (around w.acceptor 0 now_a) w.acceptor.facts.recorded) i.fresh a.fresh;
      homeward_requests = unasked (begun (around w.acceptor 0 now_a) w.acceptor.facts.recorded) (begun (around w.initiator 0 now_i) w.initiator.facts.recorded) a.fresh i.fresh;
    }

-- what holds with these parts holds with equal ones
pub carried : (P : EndConfig → Facts → Option Ending → List Piece → Type 0) {c d : EndConfig} {f g : Facts} {e k : Option Ending} {o r : List Piece} → d ≡ c → g ≡ f → k ≡ e → r ≡ o → P c f e o → P d g k r
carried P {c = c} {d = d} {f = f} {g = g} {e = e} {k = k} {o = o} {r = r} a b m n h =
    subst (λ (u : EndConfig). P u g k r) (sym a) (subst (λ (u : Facts). P c u k r) (sym b) (subst (λ (u : Option Ending). P c f u r) (sym m) (subst (λ (u : List Piece). P c f e u) (sym n) h)))

pub initiator_reading : (w : World) (way : List Piece) (at now : ℕ) → w.homeward ≡ way → Holds w → IsOpen w.initiator → Holds (initiator_read w way at now)
initiator_reading w [] at now e h going = h
initiator_reading w (p ∷ left) at now e h going =
    let s = w.initiator in
    let o : Outcome = reply_of (around s at now) s.facts (incoming_of p) in
    let rd = reads_as s p at now in
    let sh = subst (λ (way : List Piece). Shaking s.config w.acceptor.config s.facts s.ending w.acceptor.facts w.outward way) e h.shaking in
    let out_asks = subst (λ (way : List Piece). Requests s.facts w.acceptor.facts w.acceptor.ending w.outward way) e h.outward_requests in
    let home_asks = subst (λ (way : List Piece). Requests w.acceptor.facts s.facts s.ending way w.outward) e h.homeward_requests in
    let out_way = subst (λ (way : List Piece). Awaits s.facts w.acceptor.facts w.outward way) e h.outward_finish in
    let home_way = subst (λ (way : List Piece). Awaits w.acceptor.facts s.facts way w.outward) e h.homeward_finish in
    let later : ServesLater s.config s.facts = λ _ before. (initiator_quiet s.config w.acceptor.config s.facts s.ending w.acceptor.facts w.outward w.homeward h.shaking before).free in
    let c = counts (around s at now) s.facts p in
    let none = unheld_in s at now h.initiator_window in
    let r = initiator_hears (around s at now) s.facts s.ending w.acceptor.config w.acceptor.facts p w.outward left h.matches (due s.facts w.acceptor.facts p w.outward left out_way) (free_for s.facts w.acceptor.facts w.acceptor.ending p w.outward left out_asks) going.going none sh in
    let closes = initiator_closes (around s at now) s.facts s.ending w.acceptor.config w.acceptor.facts p w.outward left h.matches (due s.facts w.acceptor.facts p w.outward left out_way) (free_for s.facts w.acceptor.facts w.acceptor.ending p w.outward left out_asks) going.going none sh in
    let k = keeps_replying (around s at now) s.facts s.ending (incoming_of p) h.initiator r.1 in
    record {
      matches = subst (λ (c : EndConfig). Match c w.acceptor.config) (sym rd.config) h.matches;
      newer = λ soft. ap is_newer rd.config ∙ h.newer soft;
      initiator_window = window_reads s p at now closes h.initiator_window;
      acceptor_window = h.acceptor_window;
      initiator = carried (λ c f g out. Keeps c f g) rd.config rd.facts rd.ending rd.writes k;
      acceptor = h.acceptor;
      shaking = carried (λ c f g out. Shaking c w.acceptor.config f g w.acceptor.facts (w.outward ++ out) left) rd.config rd.facts rd.ending rd.writes r.0;
      outward_finish = carried (λ c f g out. Awaits f w.acceptor.facts (w.outward ++ out) left) rd.config rd.facts rd.ending rd.writes (read_by_writer s.facts w.acceptor.facts p w.outward left o out_way c);
      homeward_finish = carried (λ c f g out. Awaits w.acceptor.facts f left (w.outward ++ out)) rd.config rd.facts rd.ending rd.writes (read_by_reader w.acceptor.facts s.facts p left w.outward o home_way c);
      outward_requests = carried (λ c f g out. Requests f w.acceptor.facts w.acceptor.ending (w.outward ++ out) left) rd.config rd.facts rd.ending rd.writes
          (asked_by_writer (around s at now) s.facts w.acceptor.facts w.acceptor.ending p w.outward left later out_asks);
      homeward_requests = carried (λ c f g out. Requests w.acceptor.facts f g left (w.outward ++ out)) rd.config rd.facts rd.ending rd.writes
          (asked_by_reader w.acceptor.facts (around s at now) s.facts s.ending p left w.outward later going.going home_asks);
    }

pub acceptor_reading : (w : World) (way : List Piece) (at now : ℕ) → w.outward ≡ way → Holds w → IsOpen w.acceptor → Holds (acceptor_read w way at now)
acceptor_reading w [] at now e h going = h
acceptor_reading w (p ∷ left) at now e h going =
    let s = w.acceptor in
    let rd = reads_as s p at now in
    let sh = subst (λ (way : List Piece). Shaking w.initiator.config s.config w.initiator.facts w.initiator.ending s.facts way w.homeward) e h.shaking in
    let o : Outcome = reply_of (around s at now) s.facts (incoming_of p) in
    let out_asks = subst (λ (way : List Piece). Requests w.initiator.facts s.facts s.ending way w.homeward) e h.outward_requests in
    let home_asks = subst (λ (way : List Piece). Requests s.facts w.initiator.facts w.initiator.ending w.homeward way) e h.homeward_requests in
    let out_way = subst (λ (way : List Piece). Awaits w.initiator.facts s.facts way w.homeward) e h.outward_finish in
    let home_way = subst (λ (way : List Piece). Awaits s.facts w.initiator.facts w.homeward way) e h.homeward_finish in
    let later : ServesLater s.config s.facts = λ _ before. (acceptor_quiet w.initiator.config s.config w.initiator.facts w.initiator.ending s.facts w.outward w.homeward h.shaking before).free in
    let c = counts (around s at now) s.facts p in
    let none = unheld_in s at now h.acceptor_window in
    let r = acceptor_hears w.initiator.config w.initiator.facts w.initiator.ending (around s at now) s.facts p left w.homeward h.matches (due s.facts w.initiator.facts p w.homeward left home_way) (free_for s.facts w.initiator.facts w.initiator.ending p w.homeward left home_asks) none sh in
    let k = keeps_replying (around s at now) s.facts s.ending (incoming_of p) h.acceptor r.1 in
    record {
      matches = subst (λ (c : EndConfig). Match w.initiator.config c) (sym rd.config) h.matches;
      newer = λ soft. softened_newer w.initiator.config (around s at now) w.initiator.facts w.initiator.ending s.facts p left w.homeward sh h.newer
          ((marks (around s at now) s.facts p).soft (sym (ap (λ (f : Facts). f.connection.soft) rd.facts) ∙ soft));
      initiator_window = h.initiator_window;
      acceptor_window = window_reads s p at now
          (λ t. absurd (true≢false (sym t ∙ acceptor_never w.initiator.config s.config w.initiator.facts w.initiator.ending o.next left (w.homeward ++ said_all o.written) r.0))) h.acceptor_window;
      initiator = h.initiator;
      acceptor = carried (λ c f g out. Keeps c f g) rd.config rd.facts rd.ending rd.writes k;
      shaking = carried (λ c f g out. Shaking w.initiator.config c w.initiator.facts w.initiator.ending f left (w.homeward ++ out)) rd.config rd.facts rd.ending rd.writes r.0;
      outward_finish = carried (λ c f g out. Awaits w.initiator.facts f left (w.homeward ++ out)) rd.config rd.facts rd.ending rd.writes (read_by_reader w.initiator.facts s.facts p left w.homeward o out_way c);
      homeward_finish = carried (λ c f g out. Awaits f w.initiator.facts (w.homeward ++ out) left) rd.config rd.facts rd.ending rd.writes (read_by_writer s.facts w.initiator.facts p w.homeward left o home_way c);
      outward_requests = carried (λ c f g out. Requests w.initiator.facts f g left (w.homeward ++ out)) rd.config rd.facts rd.ending rd.writes
          (asked_by_reader w.initiator.facts (around s at now) s.facts s.ending p left w.homeward later going.going out_asks);
      homeward_requests = carried (λ c f g out. Requests f w.initiator.facts w.initiator.ending (w.homeward ++ out) left) rd.config rd.facts rd.ending rd.writes
          (asked_by_writer (around s at now) s.facts w.initiator.facts w.initiator.ending p w.homeward left later home_asks);
    }

pub holds_step : (hi ha : List Entry) (w : World) (step : Step) → Holds w → MayStep hi ha w step → Holds (after w step)
holds_step hi ha w (meets now_i now_a) h may = holds_meeting w now_i now_a h
holds_step hi ha w (initiator_reads at now) h may = initiator_reading w w.homeward at now refl h may.0
holds_step hi ha w (acceptor_reads at now) h may = acceptor_reading w w.outward at now refl h may.0
holds_step hi ha w (initiator_does call) h may =
    let d = does_as hi w.initiator call may.0 may.1 h.initiator.serves h.initiator_window.opening in
    let t = run w.initiator (call ∷ []) in
    record {
      matches = subst (λ (c : EndConfig). Match c w.acceptor.config) (sym d.config) h.matches;
      newer = λ soft. ap is_newer d.config ∙ h.newer soft;
      initiator_window = window_does w.initiator t (written w.initiator (call ∷ [])) d (serves_as hi w.initiator call may.0 may.1) h.initiator_window;
      acceptor_window = h.acceptor_window;
      initiator = subst (λ (c : EndConfig). Keeps c t.facts t.ending) (sym d.config) (record { serves = λ n. d.serves n (h.initiator.serves n); ends = ends_still IsLeft w.initiator t d.ends time_left h.initiator.ends });
      acceptor = h.acceptor;
      shaking = subst (λ (c : EndConfig). Shaking c w.acceptor.config t.facts t.ending w.acceptor.facts (w.outward ++ written w.initiator (call ∷ [])) w.homeward) (sym d.config)
          (initiator_does_so w.initiator t (written w.initiator (call ∷ [])) w.acceptor.config w.acceptor.facts w.outward w.homeward d h.shaking);
      outward_finish = told_by_writer w.initiator.facts t.facts w.acceptor.facts w.outward w.homeward (written w.initiator (call ∷ [])) h.outward_finish (tells_as hi w.initiator call may.0 may.1);
      homeward_finish = told_by_reader w.acceptor.facts w.initiator.facts t.facts w.homeward w.outward (written w.initiator (call ∷ [])) h.homeward_finish (tells_as hi w.initiator call may.0 may.1);
      outward_requests = served_by_writer w.initiator t w.acceptor.facts w.acceptor.ending w.outward w.homeward (written w.initiator (call ∷ [])) h.outward_requests (serves_as hi w.initiator call may.0 may.1);
      homeward_requests = served_by_reader w.acceptor.facts w.initiator t w.homeward w.outward (written w.initiator (call ∷ [])) d.over h.homeward_requests (serves_as hi w.initiator call may.0 may.1);
    }
holds_step hi ha w (acceptor_does call) h may =
    let d = does_as ha w.acceptor call may.0 may.1 h.acceptor.serves h.acceptor_window.opening in
    let t = run w.acceptor (call ∷ []) in
    record {
      matches = subst (λ (c : EndConfig). Match w.initiator.config c) (sym d.config) h.matches;
      newer = λ soft. h.newer (sym (serves_as ha w.acceptor call may.0 may.1).soft ∙ soft);
      initiator_window = h.initiator_window;
      acceptor_window = window_does w.acceptor t (written w.acceptor (call ∷ [])) d (serves_as ha w.acceptor call may.0 may.1) h.acceptor_window;
      initiator = h.initiator;
      acceptor = subst (λ (c : EndConfig). Keeps c t.facts t.ending) (sym d.config) (record { serves = λ n. d.serves n (h.acceptor.serves n); ends = ends_still IsLeft w.acceptor t d.ends time_left h.acceptor.ends });
      shaking = subst (λ (c : EndConfig). Shaking w.initiator.config c w.initiator.facts w.initiator.ending t.facts w.outward (w.homeward ++ written w.acceptor (call ∷ []))) (sym d.config)
          (acceptor_does_so w.acceptor t (written w.acceptor (call ∷ [])) w.initiator.config w.initiator.facts w.initiator.ending w.outward w.homeward (ap (λ r. is_initiator r) h.matches.accepts) d h.shaking);
      outward_finish = told_by_reader w.initiator.facts w.acceptor.facts t.facts w.outward w.homeward (written w.acceptor (call ∷ [])) h.outward_finish (tells_as ha w.acceptor call may.0 may.1);
      homeward_finish = told_by_writer w.acceptor.facts t.facts w.initiator.facts w.homeward w.outward (written w.acceptor (call ∷ [])) h.homeward_finish (tells_as ha w.acceptor call may.0 may.1);
      outward_requests = served_by_reader w.initiator.facts w.acceptor t w.outward w.homeward (written w.acceptor (call ∷ [])) d.over h.outward_requests (serves_as ha w.acceptor call may.0 may.1);
      homeward_requests = served_by_writer w.acceptor t w.initiator.facts w.initiator.ending w.homeward w.outward (written w.acceptor (call ∷ [])) h.homeward_requests (serves_as ha w.acceptor call may.0 may.1);
    }

pub holds_after : (hi ha : List Entry) (w : World) (steps : List Step) → Holds w → AllMayStep hi ha w steps → Holds (world_after w steps)
holds_after hi ha w [] h may = h
holds_after hi ha w (step ∷ later) h may = holds_after hi ha (after w step) later (holds_step hi ha w step h may.0) may.1

nothing_told : (f g : Facts) (way back : List Piece) → reads g ≡ 0 → way ≡ [] → back ≡ [] → Awaits f g way back
nothing_told f g way back e none no_more = subst (λ (ps : List Piece). Awaits f g ps back) (sym none) (subst (λ (ps : List Piece). Awaits f g [] ps) (sym no_more) (record { once = omega (arith, e) }))

nothing_asked : (f g : Facts) (e : Option Ending) (way back : List Piece) → is_serving f ≡ false → coming g ≡ false → way ≡ [] → back ≡ [] → Requests f g e way back
nothing_asked f g e way back served comes none no_more =
    subst (λ (ps : List Piece). Requests f g e ps back) (sym none) (subst (λ (ps : List Piece). Requests f g e [] ps) (sym no_more)
    (record { once = omega arith; free = λ _. served; even = λ _ _. comes ∙ sym served }))

pub holds_at_first : (w : World) → Starts w → Holds w
holds_at_first w st =
    let fi = ap (λ (s : State). s.facts.connection) st.initiator in
    let fa = ap (λ (s : State). s.facts.connection) st.acceptor in
    let qi = quiet_same (connecting w.initiator.facts.recorded phases.Idle) w.initiator.facts fi (quiet_beginning w.initiator.facts.recorded phases.Idle) in
    let qa = quiet_same (connecting w.acceptor.facts.recorded phases.Idle) w.acceptor.facts fa (quiet_beginning w.acceptor.facts.recorded phases.Idle) in
    record {
      matches = st.matches;
      newer = λ soft. absurd (true≢false (sym soft ∙ ap (λ c. c.soft) fa));
      initiator_window = window_empty w.initiator (ap (λ (s : State). s.held) st.initiator);
      acceptor_window = window_empty w.acceptor (ap (λ (s : State). s.held) st.acceptor);
      initiator = record { serves = λ _. qi.free; ends = no_violation w.initiator.ending (ap (λ (s : State). s.ending) st.initiator) };
      acceptor = record { serves = λ _. qa.free; ends = no_violation w.acceptor.ending (ap (λ (s : State). s.ending) st.acceptor) };
      shaking = opens (ap (λ c. is_shaken c.phase) fi) qi (ap (λ c. c.phase) fa) qa
          (subst (λ (way : List Piece). OneAtMost w.initiator.config (IsAsk w.initiator.config w.initiator.facts.connection.phase) way) (sym st.outward) tt)
          (subst (λ (way : List Piece). AllByRecursion (IsFree w.acceptor.config) way) (sym st.homeward) tt);
      outward_finish = nothing_told w.initiator.facts w.acceptor.facts w.outward w.homeward (ap (λ c. waiting c.peer_finish) fa) st.outward st.homeward;
      homeward_finish = nothing_told w.acceptor.facts w.initiator.facts w.homeward w.outward (ap (λ c. waiting c.peer_finish) fi) st.homeward st.outward;
      outward_requests = nothing_asked w.initiator.facts w.acceptor.facts w.acceptor.ending w.outward w.homeward (ap (λ c. is_some c.serving) fi) (ap (λ c. is_coming c.requester) fa) st.outward st.homeward;
      homeward_requests = nothing_asked w.acceptor.facts w.initiator.facts w.initiator.ending w.homeward w.outward (ap (λ c. is_some c.serving) fa) (ap (λ c. is_coming c.requester) fi) st.homeward st.outward;
    }

pub phases_hold : PhasesHold
phases_hold hi ha w steps st may = let h = holds_after hi ha w steps (holds_at_first w st) may in (h.initiator.ends, h.acceptor.ends)
