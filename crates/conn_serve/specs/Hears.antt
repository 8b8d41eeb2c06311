-- What the devices of a life tell of themselves (this project's profile).
use Rattle.std.specs.Prelude.{ℕ, Bool, List, Option}
use Rattle.gw_outside.specs.declared.streams.Sink.{Ghosts as SinkGhosts}
use Rattle.gw_links.specs.declared.dialer.Dialer.{Ghosts as DialerGhosts}
use Rattle.gw_links.specs.declared.link.Link.{Ghosts as LinkGhosts}
use Rattle.gw_links.specs.declared.clock.Clock.{Ghosts as ClockGhosts}
use Rattle.gw_links.specs.Dialers.{DialerTold}

-- What OUT has taken, and how often it failed; what a dialer tells that its links carried, whether it has lent one, and how often it failed; its
-- links, and the clock, as their contracts have them
pub record Hears (K N C : Type 0) : Type 1 where
  pub taken : K → Option (List ℕ)
  pub sink : K → ℕ
  pub carried : N → Option DialerTold
  pub lent : N → Bool
  pub dials : N → ℕ
  pub Link : Type 0
  pub links : LinkGhosts Link
  pub clock : ClockGhosts C

module _ {K N C L W : Type 0} where
  -- as the contracts of the devices have it
  abbrev pub hears : SinkGhosts K → DialerGhosts N L W → LinkGhosts L → ClockGhosts C → Hears K N C
  hears sink dialer links clock = record {
    taken = sink.taken;
    sink = sink.faults;
    carried = dialer.told;
    lent = dialer.lent;
    dials = dialer.faults;
    Link = L;
    links = links;
    clock = clock;
  }
