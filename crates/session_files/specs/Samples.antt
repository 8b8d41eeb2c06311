-- Words of a session, and what they say.
use Rattle.std.specs.Prelude.{ℕ, List, [], ◌∷◌, Some, codes}
use Rattle.fixp_shake.specs.declared.config.Role.TheVariants.{Initiator}
use Rattle.session_files.specs.Words.{File, SessionWords, IsSession}

abbrev pub sample_words : (out accepted : List ℕ) → List (List ℕ)
sample_words out accepted =
    codes "connect" ∷ codes "127.0.0.1:15617" ∷ codes "3" ∷ codes "end.toml" ∷ codes "-" ∷ codes "out.jrn" ∷ codes "in.jrn" ∷ out ∷ accepted ∷ []

abbrev pub file_at : (role path : List ℕ) → File
file_at role path = record { role = role; path = path }

abbrev pub sample_session : SessionWords
sample_session = record {
  role = Initiator;
  address = codes "127.0.0.1:15617";
  most = 3;
  config = file_at (codes "CONFIG") (codes "end.toml");
  input = file_at (codes "INPUT") (codes "-");
  outbox = file_at (codes "OUTBOX") (codes "out.jrn");
  inbox = file_at (codes "INBOX") (codes "in.jrn");
  out = file_at (codes "OUT") (codes "told.txt");
  accepted = Some (file_at (codes "ACCEPTED") (codes "-"));
}

-- an initiator that is fed from standard input and tells what it accepts on standard output; and where OUT were to be that too, the words are no session's
abbrev pub SessionSample : Type 0
SessionSample = IsSession (sample_words (codes "told.txt") (codes "-")) sample_session
    × ((s : SessionWords) → IsSession (sample_words (codes "-") (codes "-")) s → ⊥)
