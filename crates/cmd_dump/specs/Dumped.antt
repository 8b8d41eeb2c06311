-- What `dump` makes of recorded bytes: the lines of each frame, in order, and of the bytes behind them (this project's profile).
use Rattle.std.specs.Prelude.{ℕ, Option, None, List, [], ◌∷◌, ◌++◌, length, codes, decimal}
use Rattle.sofh_frame.specs.Framing.{Frame, First, frame, rest, bad_length, bad_encoding, first_of, spelled}
use Rattle.sofh_frame.specs.Splits.{frames_of, tail_of}
use Rattle.session_model.specs.Events.{standing}
use Rattle.fixp_msgs.specs.Numbering.{events_of}
use Rattle.sbe_layout.specs.declared.plan.Plan.{Plan}
use Rattle.cmd_codec.specs.Decoded.{next_number, next_place}
use Rattle.cmd_dump.specs.declared.outcome.Outcome.{Outcome}
use Rattle.cmd_dump.specs.declared.outcome.Outcome.TheVariants as outcomes
use Rattle.frame_text.specs.Held.{held_lines}
use Rattle.cmd_dump.specs.Frames.{head_line, implied_by}

-- what is printed, and how it ends
pub record Dumped : Type 0 where
  pub lines : List ℕ
  pub outcome : Outcome

-- lines in front of what is printed behind them
abbrev pub behind : List ℕ → Dumped → Dumped
behind lines more = record { lines = lines ++ more.lines; outcome = more.outcome }

-- where a frame stands: its number, from 1, its place in bytes, from 0, and the number that stands announced before it
pub record Spot : Type 0 where
  pub number : ℕ
  pub place : ℕ
  pub announced : Option ℕ

abbrev pub lines_of_frame : Plan → Spot → Frame → List ℕ
lines_of_frame plan spot f = head_line spot.number spot.place (length (spelled f)) (implied_by spot.announced f) ++ held_lines plan f

-- where the next frame stands; what is past the greatest number of 64 bits is given as that number
abbrev pub spot_behind : Spot → Frame → Spot
spot_behind spot f = record {
  number = next_number spot.number;
  place = next_place spot.place (length (spelled f));
  announced = standing spot.announced (events_of (f ∷ []));
}

-- cut at BYTE: the bytes end inside the frame that begins there
abbrev pub cut_line : ℕ → List ℕ
cut_line place = codes "cut at " ++ decimal place ++ codes "\n"

-- broken at BYTE: no frame begins there
abbrev pub broken_line : ℕ → List ℕ
broken_line place = codes "broken at " ++ decimal place ++ codes "\n"

-- the end of the bytes: behind a frame, or inside one; or bytes that no frame begins with
abbrev pub ended : ℕ → List ℕ → First → Dumped
ended place tail (frame order message size) = record { lines = broken_line place; outcome = outcomes.Broken place }
ended place tail (bad_length n) = record { lines = broken_line place; outcome = outcomes.Broken place }
ended place tail (bad_encoding encoding) = record { lines = broken_line place; outcome = outcomes.Broken place }
ended place [] rest = record { lines = []; outcome = outcomes.Done }
ended place (byte ∷ bytes) rest = record { lines = cut_line place; outcome = outcomes.Cut place }

-- frames, the first of which stands there, and the bytes behind them
abbrev pub frames_dumped : Plan → Spot → List Frame → List ℕ → Dumped
frames_dumped plan spot [] tail = ended spot.place tail (first_of tail)
frames_dumped plan spot (f ∷ fs) tail = behind (lines_of_frame plan spot f) (frames_dumped plan (spot_behind spot f) fs tail)

-- bytes whose first frame stands there
abbrev pub dumped_from : Plan → Spot → List ℕ → Dumped
dumped_from plan spot bytes = frames_dumped plan spot (frames_of bytes) (tail_of bytes)

-- a whole input, before which nothing stands announced
abbrev pub dumped : Plan → List ℕ → Dumped
dumped plan input = dumped_from plan (record { number = 1; place = 0; announced = None }) input
