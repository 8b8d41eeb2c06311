-- What the words of a session say, without its references.
use Rattle.std.specs.Prelude.{option_map}
use Rattle.gw_real.specs.declared.named.Named.{Named}
use Rattle.session_files.specs.declared.session.Session.{Session}
use Rattle.session_files.specs.Words.{File, SessionWords}

abbrev pub file_seen : Named → File
file_seen f = record { role = f.role.now; path = f.path.now }

abbrev pub seen : Session → SessionWords
seen s = record {
  role = s.role;
  address = s.address.now;
  most = s.most;
  config = file_seen s.config;
  input = file_seen s.input;
  outbox = file_seen s.outbox;
  inbox = file_seen s.inbox;
  out = file_seen s.out;
  accepted = option_map file_seen s.accepted;
}
