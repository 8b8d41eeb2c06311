-- What each end may read, and what it is, as far as the handshake is.
use Rattle.std.proofs.Common.{◌≡◌, ◌⊎◌, inl, inr, true, false, List, ◌∷◌, Option, None, refl, sym, ap, ◌∙◌, true≢false}
use Rattle.std.specs.Prelude.{⊤}
use Rattle.std.specs.List.{AllByRecursion}
use Rattle.session_model.proofs.Lists.{all_weaker}
use Rattle.fixp_msgs.specs.Message.{establish, establishment_ack}
use Rattle.fixp_shake.specs.declared.config.EndConfig.{EndConfig}
use Rattle.fixp_shake.specs.declared.phase.Phase.{Phase}
use Rattle.fixp_shake.specs.declared.phase.Phase.TheVariants as phases
use Rattle.fixp_shake.specs.Phases.{is_shaken}
use Rattle.fixp_replies.specs.declared.act.Ending.{Ending}
use Rattle.fixp_replies.specs.declared.facts.Facts.{Facts}
use Rattle.fixp_replies.specs.Facts.{Around}
use Rattle.fixp_replies.specs.Expecting.{is_newer}
use Rattle.fixp_replies.specs.Replies.{reply_of}
use Rattle.connection_laws.specs.Writing.{Piece, said}
use Rattle.two_ends.specs.Reading.{incoming_of}
use Rattle.honest_ends.specs.Worlds.{Match}
use Rattle.honest_ends.specs.Numbers.{IsFlowing}
use Rattle.honest_ends.proofs.Shapes.{IsFree, IsAck, all_free_flow}
use Rattle.honest_ends.proofs.PhaseOpening.{free_reply, answer_reply}
use Rattle.honest_ends.proofs.Phased.{Shaking, opens, answering, acknowledging, standing, refusing, unshaken_not, established_not, no_ending, to_acceptor, to_initiator, Unheld}

no_two : (p q : Phase) → p ≡ q → is_shaken q ≡ false → is_shaken p ≡ true → ⊥
no_two p q e n h = true≢false (sym h ∙ (ap (λ k. is_shaken k) e ∙ n))

pub initiator_flows : (ci ca : EndConfig) (fi : Facts) (ei : Option Ending) (fa : Facts) (outward homeward : List Piece) → Shaking ci ca fi ei fa outward homeward → is_shaken fi.connection.phase ≡ true → AllByRecursion (IsFlowing ca) homeward
initiator_flows ci ca fi ei fa outward homeward (opens bi qi idle qa one free) h = absurd (unshaken_not (is_shaken fi.connection.phase) bi h)
initiator_flows ci ca fi ei fa outward homeward (answering bi qi idle qa free one) h = absurd (unshaken_not (is_shaken fi.connection.phase) bi h)
initiator_flows ci ca fi ei fa outward homeward (acknowledging e qi est free first) h = absurd (no_two fi.connection.phase phases.Establishing e refl h)
initiator_flows ci ca fi ei fa outward homeward (standing shaken est out home) h = home
initiator_flows ci ca fi ei fa outward homeward (refusing over bi qi est free) h = absurd (unshaken_not (is_shaken fi.connection.phase) bi h)

pub acceptor_flows : (ci ca : EndConfig) (fi : Facts) (ei : Option Ending) (fa : Facts) (outward homeward : List Piece) → Shaking ci ca fi ei fa outward homeward → is_shaken fa.connection.phase ≡ true → AllByRecursion (IsFlowing ci) outward
acceptor_flows ci ca fi ei fa outward homeward (opens bi qi idle qa one free) h = absurd (no_two fa.connection.phase phases.Idle idle refl h)
acceptor_flows ci ca fi ei fa outward homeward (answering bi qi idle qa free one) h = absurd (no_two fa.connection.phase phases.Idle idle refl h)
acceptor_flows ci ca fi ei fa outward homeward (acknowledging e qi est free first) h = all_free_flow ci outward free
acceptor_flows ci ca fi ei fa outward homeward (standing shaken est out home) h = out
acceptor_flows ci ca fi ei fa outward homeward (refusing over bi qi est free) h = all_free_flow ci outward free

-- a message that does not tell of a number
abbrev pub Untold : Piece → Type 0
Untold (said (establish id timestamp keepalive next expected credentials)) = ⊥
Untold (said (establishment_ack id timestamp keepalive next expected)) = ⊥
Untold p = ⊤

flowing_untold : (cfg : EndConfig) (p : Piece) → IsFlowing cfg p → Untold p
flowing_untold cfg (said (establish id timestamp keepalive next expected credentials)) f = absurd f
flowing_untold cfg (said (establishment_ack id timestamp keepalive next expected)) f = absurd f
flowing_untold cfg _ f = tt

pub flows_untold : (cfg : EndConfig) (ps : List Piece) → AllByRecursion (IsFlowing cfg) ps → AllByRecursion Untold ps
flows_untold cfg ps a = all_weaker (IsFlowing cfg) Untold (flowing_untold cfg) ps a

free_untold : (cfg : EndConfig) (ps : List Piece) → AllByRecursion (IsFree cfg) ps → AllByRecursion Untold ps
free_untold cfg ps a = flows_untold cfg ps (all_free_flow cfg ps a)

-- What an end reads is free, or no message back tells of a number
abbrev pub Quietly : EndConfig → Piece → List Piece → Type 0
Quietly theirs p back = AllByRecursion Untold back ⊎ IsFree theirs p

pub initiator_quietly : (ci ca : EndConfig) (fi : Facts) (ei : Option Ending) (fa : Facts) (p : Piece) (outward left : List Piece) → ei ≡ None → Shaking ci ca fi ei fa outward (p ∷ left) → Quietly ca p outward
initiator_quietly ci ca fi ei fa p outward left going (opens bi qi idle qa one free) = inr free.0
initiator_quietly ci ca fi ei fa p outward left going (answering bi qi idle qa free one) = inl (free_untold ci outward free)
initiator_quietly ci ca fi ei fa p outward left going (acknowledging e qi est free first) = inl (free_untold ci outward free)
initiator_quietly ci ca fi ei fa p outward left going (standing shaken est out home) = inl (flows_untold ci outward out)
initiator_quietly ci ca fi ei fa p outward left going (refusing over bi qi est free) = absurd (no_ending ei going over)

pub acceptor_quietly : (ci ca : EndConfig) (fi : Facts) (ei : Option Ending) (fa : Facts) (p : Piece) (left homeward : List Piece) → Shaking ci ca fi ei fa (p ∷ left) homeward → Quietly ci p homeward
acceptor_quietly ci ca fi ei fa p left homeward (opens bi qi idle qa one free) = inl (free_untold ca homeward free)
acceptor_quietly ci ca fi ei fa p left homeward (answering bi qi idle qa free one) = inr free.0
acceptor_quietly ci ca fi ei fa p left homeward (acknowledging e qi est free first) = inr free.0
acceptor_quietly ci ca fi ei fa p left homeward (standing shaken est out home) = inl (flows_untold ca homeward home)
acceptor_quietly ci ca fi ei fa p left homeward (refusing over bi qi est free) = inr free.0

-- the initiator's handshake is not done where the acceptor's is not
pub acceptor_waits : (ci ca : EndConfig) (fi : Facts) (ei : Option Ending) (fa : Facts) (outward homeward : List Piece) → Shaking ci ca fi ei fa outward homeward → is_shaken fa.connection.phase ≡ false → is_shaken fi.connection.phase ≡ false
acceptor_waits ci ca fi ei fa outward homeward (opens bi qi idle qa one free) h = bi
acceptor_waits ci ca fi ei fa outward homeward (answering bi qi idle qa free one) h = bi
acceptor_waits ci ca fi ei fa outward homeward (acknowledging e qi est free first) h = absurd (established_not fa.connection.phase est h)
acceptor_waits ci ca fi ei fa outward homeward (standing shaken est out home) h = absurd (established_not fa.connection.phase est h)
acceptor_waits ci ca fi ei fa outward homeward (refusing over bi qi est free) h = absurd (established_not fa.connection.phase est h)

-- Where a reply ends an end's handshake, all that it wrote is free yet, and its reader's is not done, or it has read an acknowledgement
abbrev pub Opening : (mine theirs : EndConfig) (reader : Facts) (p : Piece) (way : List Piece) → Type 0
Opening mine theirs reader p way = AllByRecursion (IsFree mine) way × ((is_shaken reader.connection.phase ≡ false) ⊎ (IsAck theirs p × (reader.connection.soft ≡ true → is_newer mine ≡ true)))

not_done : (f g : Facts) → g ≡ f → is_shaken f.connection.phase ≡ false → is_shaken g.connection.phase ≡ true → ⊥
not_done f g same before done = true≢false (sym done ∙ (ap (λ (k : Facts). is_shaken k.connection.phase) same ∙ before))

pub initiator_opening : (x : Around) (ca : EndConfig) (fi : Facts) (ei : Option Ending) (fa : Facts) (p : Piece) (outward left : List Piece) → Match x.config ca → ei ≡ None → (fa.connection.soft ≡ true → is_newer x.config ≡ true)
    → Unheld x fi → Shaking x.config ca fi ei fa outward (p ∷ left) → is_shaken fi.connection.phase ≡ false → is_shaken (reply_of x fi (incoming_of p)).next.connection.phase ≡ true → Opening x.config ca fa p outward
initiator_opening x ca fi ei fa p outward left m going newer none (opens bi qi idle qa one free) before done =
    absurd (not_done fi (reply_of x fi (incoming_of p)).next (free_reply x fi ca p (to_initiator x.config ca m) (none before) qi free.0).same before done)
initiator_opening x ca fi ei fa p outward left m going newer none (answering bi qi idle qa free (inl one)) before done =
    absurd (true≢false (sym done ∙ (answer_reply x fi ca fi.connection.phase p (to_initiator x.config ca m) refl bi (none before) qi one.0).before))
initiator_opening x ca fi ei fa p outward left m going newer none (answering bi qi idle qa free (inr more)) before done =
    absurd (not_done fi (reply_of x fi (incoming_of p)).next (free_reply x fi ca p (to_initiator x.config ca m) (none before) qi more.0).same before done)
initiator_opening x ca fi ei fa p outward left m going newer none (acknowledging e qi est free (inl first)) before done = (free, inr (first.0, newer))
initiator_opening x ca fi ei fa p outward left m going newer none (acknowledging e qi est free (inr more)) before done =
    absurd (not_done fi (reply_of x fi (incoming_of p)).next (free_reply x fi ca p (to_initiator x.config ca m) (none before) qi more.0).same before done)
initiator_opening x ca fi ei fa p outward left m going newer none (standing shaken est out home) before done = absurd (unshaken_not (is_shaken fi.connection.phase) before shaken)
initiator_opening x ca fi ei fa p outward left m going newer none (refusing over bi qi est free) before done = absurd (no_ending ei going over)

pub acceptor_opening : (ci : EndConfig) (x : Around) (fi : Facts) (ei : Option Ending) (fa : Facts) (p : Piece) (left homeward : List Piece) → Match ci x.config → Unheld x fa → Shaking ci x.config fi ei fa (p ∷ left) homeward
    → is_shaken fa.connection.phase ≡ false → is_shaken (reply_of x fa (incoming_of p)).next.connection.phase ≡ true → Opening x.config ci fi p homeward
acceptor_opening ci x fi ei fa p left homeward m none (opens bi qi idle qa one free) before done = (free, inl bi)
acceptor_opening ci x fi ei fa p left homeward m none (answering bi qi idle qa free one) before done =
    absurd (not_done fa (reply_of x fa (incoming_of p)).next (free_reply x fa ci p (to_acceptor ci x.config m) (none before) qa free.0).same before done)
acceptor_opening ci x fi ei fa p left homeward m none (acknowledging e qi est free first) before done = absurd (established_not fa.connection.phase est before)
acceptor_opening ci x fi ei fa p left homeward m none (standing shaken est out home) before done = absurd (established_not fa.connection.phase est before)
acceptor_opening ci x fi ei fa p left homeward m none (refusing over bi qi est free) before done = absurd (established_not fa.connection.phase est before)
