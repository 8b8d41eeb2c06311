-- The sample, computed.
use Rattle.std.proofs.Common.{◌≡◌, [], ◌∷◌, ◌++◌, map, Ok, refl, sym, subst, ◌∙◌, arith}
use Rattle.fixp_shake.specs.declared.config.Role.{Role}
use Rattle.fixp_shake.specs.declared.config.Role.TheVariants.{Initiator, Acceptor}
use Rattle.turn_laws.specs.Legs.{all_turns}
use Rattle.jr_dated.specs.declared.journal.Journal.{Ghosts}
use Rattle.jr_kept.specs.declared.inbox.Inbox.{Inbox}
use Rattle.jr_kept.specs.Inbox.{HoldsBox}
use Rattle.cmd_config.specs.declared.configuration.Configuration.{Configuration}
use Rattle.cmd_session.specs.Inputs.{configuration_at}
use Rattle.run_laws.specs.Pieces.{LinkFits}
use Rattle.run_laws.specs.Samples.{configured, config_text, fed_memory, with_one, nothing, runs_of_initiator, runs_of_acceptor}
use Rattle.run_laws.proofs.Sampled.{leg_i, leg_a, ran_i, ran_a}
use Rattle.run_laws.proofs.Spelled.{spelled_initiator, spelled_acceptor, spelled_later}
use Rattle.honest_turns.specs.Links.{initiator_turns, acceptor_turns, OverOneLink}
use Rattle.honest_turns.specs.Lives.{no_more, paired}
use Rattle.run_laws.specs.TimedRuns.{Matching, EndRan, HasLink}
use Rattle.run_laws.specs.TimedSamples.{RunInTime, RunsInTimeSample, later_configured, LaterSample}

fits : LinkFits configured.link
fits = record { session = refl; interval = omega arith; keepalive = omega arith; credentials = omega arith }

has_link : (role : Role) → configuration_at role config_text ≡ Ok configured → HasLink role configured.link config_text
has_link role spelled c e =
    let same : configured ≡ c = cc (sym spelled ∙ e) in
    subst (λ (d : Configuration). Matching configured.link d.link) same (record { session = refl; credentials = refl; client = refl; server = refl })

-- the initiator sends, the acceptor is given two bytes, and then its link fails
over_link : OverOneLink leg_i leg_a
over_link = record {
  order = map initiator_turns (all_turns leg_i) ++ map acceptor_turns (all_turns leg_a);
  turns_i = refl;
  turns_a = refl;
  passes = ([], refl, (0 ∷ [], refl, (0 ∷ [], refl, tt)));
}

module _ {J : Type 0} {G : Ghosts J} (box : Inbox J G) (held : HoldsBox box [] []) where
  abbrev of_i : EndRan G fed_memory Initiator configured.link
  of_i = record {
    runs = runs_of_initiator config_text;
    outbox = with_one;
    inbox = [];
    ran = ran_i box held config_text spelled_initiator;
    fits = fits;
    configured = (has_link Initiator spelled_initiator, (has_link Initiator spelled_initiator, tt));
    few = omega arith;
  }

  abbrev of_a : EndRan G fed_memory Acceptor configured.link
  of_a = record {
    runs = runs_of_acceptor config_text;
    outbox = nothing;
    inbox = [];
    ran = ran_a box held config_text spelled_acceptor;
    fits = fits;
    configured = (has_link Acceptor spelled_acceptor, (has_link Acceptor spelled_acceptor, tt));
    few = omega arith;
  }

  run_in_time : RunInTime G
  run_in_time = record {
    initiator = of_i;
    acceptor = of_a;
    runs_i = refl;
    runs_a = refl;
    lives_i = refl;
    lives_a = refl;
    legs_i = refl;
    legs_a = refl;
    linked = record { matches = record { session = refl; credentials = refl; client = refl; server = refl }; in_time = paired over_link no_more };
  }

pub runs_in_time_sample : {J : Type 0} {G : Ghosts J} (box : Inbox J G) → RunsInTimeSample box
runs_in_time_sample box held = run_in_time box held

pub later_sample : LaterSample
later_sample = (
  spelled_later,
  λ c e.
      let same : later_configured ≡ c = cc (sym spelled_later ∙ e) in
      subst (λ (d : Configuration). Matching configured.link d.link) same (record { session = refl; credentials = refl; client = refl; server = refl }),
)
