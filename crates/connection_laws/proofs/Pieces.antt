-- What session messages and entries say, as pieces.
use Rattle.std.proofs.Common.{◌≡◌, ℕ, List, [], ◌∷◌, ◌++◌, map, option_to_list, refl, ap}
use Rattle.session_model.specs.Events.{message}
use Rattle.fixp_msgs.specs.Canonical.{frame_bytes}
use Rattle.fixp_msgs.specs.Message.{Message}
use Rattle.fixp_msgs.specs.Numbering.{announcement_of}
use Rattle.fixp_machine.specs.Machine.{bytes_of, payload_frame, payload_frames}
use Rattle.fixp_machine.specs.Accepting as accepting
use Rattle.fixp_machine.specs.Accepting.{model_flow, event_of, records_of, Agrees, GrowsBy, told_in, turn_end, outbox_finish}
use Rattle.connection_laws.specs.Writing.{events_in, said_all, entries, bytes_written, events_written, ranges_told}

pub bytes_said : (ms : List Message) → bytes_written (said_all ms) ≡ bytes_of ms
bytes_said [] = refl
bytes_said (m ∷ ms) = ap (λ bs. frame_bytes m ++ bs) (bytes_said ms)

pub events_said : (ms : List Message) → events_written (said_all ms) ≡ events_in ms
events_said [] = refl
events_said (m ∷ ms) = ap (λ es. option_to_list (announcement_of m) ++ es) (events_said ms)

pub told_said : (ms : List Message) → ranges_told (said_all ms) ≡ told_in ms
told_said [] = refl
told_said (m ∷ ms) = ap (λ rs. accepting.told_by m ++ rs) (told_said ms)

pub bytes_entries : (ps : List (List ℕ)) → bytes_written (entries ps) ≡ payload_frames ps
bytes_entries [] = refl
bytes_entries (p ∷ ps) = ap (λ bs. payload_frame p ++ bs) (bytes_entries ps)

pub events_entries : (ps : List (List ℕ)) → events_written (entries ps) ≡ map message ps
events_entries [] = refl
events_entries (p ∷ ps) = ap (λ es. message p ∷ es) (events_entries ps)

pub told_entries : (ps : List (List ℕ)) → ranges_told (entries ps) ≡ []
told_entries [] = refl
told_entries (p ∷ ps) = told_entries ps
