-- What the devices of a session that is fed tell, how often they failed, and which of them a run left as they were (this project's profile).
use Rattle.std.specs.Prelude.{◌≡◌, ℕ, ◌≤◌, Bool, List, Option}
use Rattle.gw_outside.specs.declared.streams.Source.{Ghosts as SourceGhosts}
use Rattle.gw_outside.specs.declared.streams.Sink.{Ghosts as SinkGhosts}
use Rattle.cmd_base.specs.Causes.{NoneFellInSession}
use Rattle.cmd_session.specs.Outsides.{Sees, counts_of}
use Rattle.cmd_base.specs.Contents.{Disks}
use Rattle.cmd_session.specs.declared.outside.Live.{Live}
use Rattle.cmd_session.specs.declared.outside.SessionOutside.{SessionOutside}
use Rattle.cmd_feed.specs.declared.outside.FeedOutside.{FeedOutside}

-- What devices of these kinds tell of themselves: those that any session has, and INPUT and ACCEPTED, with how often each of these has failed; and whether
-- each OUT of its kind keeps what it takes
pub record FeedSees (S I K A D N C : Type 0) : Type 1 where
  pub session : Sees S K D N C
  pub keeps : Bool
  pub left : I → Option (List ℕ)
  pub taken : A → Option (List ℕ)
  pub input : I → ℕ
  pub accepted : A → ℕ

module _ {S I K A D N C : Type 0} where
  -- as the contracts of the devices have it
  abbrev pub feed_sees : Sees S K D N C → (keeps : Bool) → SourceGhosts I → SinkGhosts A → FeedSees S I K A D N C
  feed_sees session keeps source sink = record {
    session = session;
    keeps = keeps;
    left = source.left;
    taken = sink.taken;
    input = source.faults;
    accepted = sink.faults;
  }

  -- the devices that any session has; what is said of a life over its disks is not about INPUT, in whose place CONFIG stands
  abbrev pub session_of : FeedOutside S I K A D N C → SessionOutside S K D N C
  session_of outside = record {
    config = outside.config;
    input = outside.config;
    out = outside.out;
    out_disk = outside.out_disk;
    in_disk = outside.in_disk;
    dialer = outside.dialer;
    clock = outside.clock;
  }

  -- the devices of a session that is fed, from those that a life is lived on, its streams and the disks
  abbrev pub around : S → Live K N C → I → A → Disks D → FeedOutside S I K A D N C
  around config live input accepted disks = record {
    config = config;
    input = input;
    out = live.out;
    accepted = accepted;
    out_disk = disks.outbox;
    in_disk = disks.inbox;
    dialer = live.dialer;
    clock = live.clock;
  }

  -- INPUT and ACCEPTED are as they were
  pub record KeepsStreams (before after : FeedOutside S I K A D N C) : Type 0 where
    pub input : after.input ≡ before.input
    pub accepted : after.accepted ≡ before.accepted

  -- the dialer and the clock are as they were
  pub record KeepsLinks (before after : FeedOutside S I K A D N C) : Type 0 where
    pub dialer : after.dialer ≡ before.dialer
    pub clock : after.clock ≡ before.clock

  -- no count fell
  pub record NoneFellFed (sees : FeedSees S I K A D N C) (before after : FeedOutside S I K A D N C) : Type 0 where
    pub session : NoneFellInSession (counts_of sees.session (session_of before)) (counts_of sees.session (session_of after))
    pub input : sees.input before.input ≤ sees.input after.input
    pub accepted : sees.accepted before.accepted ≤ sees.accepted after.accepted
