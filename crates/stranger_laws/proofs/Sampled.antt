-- The sample of three strangers and the peer, computed.
use Rattle.std.proofs.Common.{refl, sym, arith, true≢false}
use Rattle.sofh_frame.specs.Framing.{first_of, length_in, encoding_in}
use Rattle.sofh_frame.specs.Splits.{IsNoFrame}
use Rattle.sofh_frame.proofs.SplitLemmas.{frames_of-none}
use Rattle.fixp_msgs.specs.Canonical.{IsLegal}
use Rattle.stranger_laws.specs.Opening.{gives_keys}
use Rattle.stranger_laws.specs.Samples.{venue, guess, silent, half, StrangersSample}
use Rattle.stranger_laws.proofs.Given.{no_frame_is_strange, frame_is_strange}

guess_is_legal : IsLegal guess
guess_is_legal = record { fields = (refl, (omega arith, (omega arith, (omega arith, (tt, tt))))); datum = omega arith }

-- the header of a frame is there, and not all of its bytes
half_a_frame : IsNoFrame (first_of half)
unfolding length_in encoding_in
half_a_frame = tt

pub strangers_sample : StrangersSample
strangers_sample = (
  no_frame_is_strange (gives_keys venue) silent (frames_of-none silent tt),
  no_frame_is_strange (gives_keys venue) half (frames_of-none half half_a_frame),
  frame_is_strange venue guess guess_is_legal refl,
  refl,
  (
    record { calls = (record { may_call = tt; comes = tt }, tt); taken = record { first = (_, refl); all = λ e. absurd (true≢false (sym e)) } },
    (
      record { calls = (record { may_call = tt; comes = tt }, tt); taken = record { first = (_, refl); all = λ e. absurd (true≢false (sym e)) } },
      (
        record { calls = (record { may_call = (refl, refl); comes = record { begun = refl; going = refl; done = refl } }, (record { may_call = tt; comes = tt }, tt)); taken = record { first = (_, refl); all = λ e. absurd (true≢false (sym e)) } },
        (record { calls = (record { may_call = (refl, refl); comes = record { begun = refl; going = refl; done = refl } }, tt); taken = record { first = (_, refl); all = λ e. absurd (true≢false (sym e)) } }, tt),
      ),
    ),
  ),
  refl,
)
