-- What a split that owns its messages says, without where these lie in memory.
use Rattle.std.specs.Prelude.{◌≡◌, ℕ, List, ◌++◌, map}
use Rattle.std.specs.List.{flat_map, AllByRecursion}
use Rattle.std.specs.Borrow.{Bor}
use Rattle.sofh_frame.specs.Framing.{Frame, First, rest, bad_length, bad_encoding, first_of, IsFrame}
use Rattle.sofh_frame.specs.Splits.{spelled_all, place_behind, IsSplit, frames_of, tail_of}
use Rattle.sofh_frame.specs.declared.pieces.Split.{Split}
use Rattle.sofh_frame.specs.declared.pieces.OwnedFrame.{OwnedFrame}
use Rattle.sofh_frame.specs.declared.pieces.End.{End}
use Rattle.sofh_frame.specs.declared.pieces.End.TheVariants.{Rest, BadLength, BadEncoding}

abbrev pub frame_seen : OwnedFrame → Frame
frame_seen f = record { order = f.order; message = f.message.items }

abbrev pub frames_seen : List OwnedFrame → List Frame
frames_seen = map frame_seen

abbrev pub end_seen : End → First
end_seen Rest = rest
end_seen (BadLength n) = bad_length n
end_seen (BadEncoding encoding) = bad_encoding encoding

-- the bytes of pieces, one behind another
abbrev pub joined : List (Bor (List ℕ)) → List ℕ
joined = flat_map (λ piece. piece.now)

-- the end of a split answers the first frame of what follows the frames
abbrev pub IsEndAt : End → List ℕ → Type 0
IsEndAt end tail = end_seen end ≡ first_of tail

-- a split holds the frames of these bytes, the place behind them and what stands there; there is no other split
pub record SplitsAs (bytes : List ℕ) (s : Split) : Type 0 where
  pub split : IsSplit bytes (frames_seen s.frames.items) (tail_of bytes)
  pub frames : frames_seen s.frames.items ≡ frames_of bytes
  pub place : s.at ≡ place_behind (frames_of bytes)
  pub end : end_seen s.end ≡ first_of (tail_of bytes)

-- the bytes so far are the frames of the split and what is held behind them
pub record IsRead (bytes : List ℕ) (s : Split) (held : List ℕ) : Type 0 where
  pub joins : bytes ≡ spelled_all (frames_seen s.frames.items) ++ held
  pub each : AllByRecursion IsFrame (frames_seen s.frames.items)
  pub at : s.at ≡ place_behind (frames_seen s.frames.items)
