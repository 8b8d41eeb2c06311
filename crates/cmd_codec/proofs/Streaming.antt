-- What a round leaves of the promise.
use Rattle.std.proofs.Common.{◌≡◌, Bool, ℕ, ◌+◌, ◌<◌, List, [], ◌∷◌, ◌++◌, length, take, Option, Some, None, Result, refl, sym, ◌∙◌, ap, subst, arith, append_assoc, append-nil, length-append, eq-eqb}
use Rattle.std.proofs.lemmas.Grind.{common_steps}
use Rattle.std.proofs.lemmas.List.{take-append-le}
use Rattle.std.proofs.Math.Seq.{take-append-add}
use Rattle.std.specs.Io.KnownBytes.{Appends, Consumes, IsAtEnd}
use Rattle.std.proofs.KnownBytes.{Appends-nil, Appends-trans, Consumes-nil, Consumes-trans}
use Rattle.gw_outside.specs.Faults.{TakesFront}
use Rattle.sofh_frame.specs.Framing.{First, rest, first_of}
use Rattle.sofh_frame.specs.Buffered.{written_over}
use Rattle.sofh_frame.specs.Splits.{IsNoFrame}
use Rattle.sbe_layout.specs.declared.plan.Plan.{Plan}
use Rattle.cmd_codec.specs.declared.shown.Shown.{Shown}
use Rattle.cmd_base.specs.declared.status.Bad.{Bad}
use Rattle.cmd_base.specs.declared.status.Status.{Status}
use Rattle.cmd_base.specs.declared.status.Status.TheVariants.{Done, Message, InputFault, Memory}
use Rattle.cmd_codec.specs.declared.decoder.Decoder.{Decoder}
use Rattle.cmd_codec.specs.Decoded.{Decoded, ends, behind, status_at, decoded_from, decoded}
use Rattle.cmd_codec.specs.Decoding.{goes_on, IsNew}
use Rattle.cmd_codec.specs.Decoding as progress
use Rattle.cmd_codec.specs.Decodes.{GaveDecoded, Streams, Stands, IsIdle, AfterRound, KeepsPromise, as_round}
use Rattle.cmd_codec.proofs.Going.{behind-behind, from-none}

-- what was told of an input is what was read of it and what is left
pub told : (before now : Option (List ℕ)) (read input : List ℕ) → Consumes before now read → before ≡ Some input → (left : List ℕ) × (input ≡ read ++ left) × (now ≡ Some left)
told None now read input consumed e = cc
told (Some xs) None read input consumed e = absurd consumed
told (Some xs) (Some ys) read input consumed e = let same : xs ≡ input = cc in (ys, sym same ∙ consumed, refl)

at_end : (now : Option (List ℕ)) (left : List ℕ) → IsAtEnd now → now ≡ Some left → left ≡ []
at_end None left end e = cc
at_end (Some xs) left end e = let same : xs ≡ left = cc in sym same ∙ end

-- a front of some lines behind those that were pushed is a front of the whole
pub more-front : (old mid new : Option (List ℕ)) (printed lines more whole : List ℕ) → whole ≡ printed ++ (lines ++ more) → Appends old mid printed → TakesFront mid new lines → TakesFront old new whole
more-front old mid new printed lines more whole all pushed front =
    let taken : take (length printed + front.count) whole ≡ printed ++ take front.count lines =
    ap (take (length printed + front.count)) all ∙ take-append-add printed (lines ++ more) front.count ∙ ap (λ l. printed ++ l) (take-append-le front.count lines more front.within) in
    let long : length whole ≡ length printed + (length lines + length more) =
    ap length all ∙ length-append printed (lines ++ more) ∙ ap (λ n. length printed + n) (length-append lines more) in
    record {
      count = length printed + front.count;
      within = omega (arith, long, front.within);
      appended = subst (Appends old new) (sym taken) (Appends-trans old mid new printed (take front.count lines) pushed front.appended);
    }

no-front : (now : Option (List ℕ)) → TakesFront now now []
no-front now = record { count = 0; within = omega arith; appended = Appends-nil now }

-- what is told of the whole input, from where the decoder stands
stood : (shown : Shown) (plan : Plan) (before now : Streams) (d : Decoder) (s : Stands shown plan before now d) (input : List ℕ) → before.input ≡ Some input
    → (left : List ℕ) × (now.input ≡ Some left) × (decoded shown plan input ≡ behind s.printed (goes_on shown plan d left))
stood shown plan before now d s input e =
    let t = told before.input now.input s.read input s.consumed e in
    (t.0, t.2, ap (decoded shown plan) t.1 ∙ s.same t.0)

-- nothing was pushed since the last round
pub kept-front : (shown : Shown) (plan : Plan) (before now : Streams) (d : Decoder) → Stands shown plan before now d → (input : List ℕ) → before.input ≡ Some input
    → TakesFront before.out now.out (decoded shown plan input).lines
kept-front shown plan before now d s input e =
    let t = stood shown plan before now d s input e in
    more-front before.out now.out now.out s.printed [] _ _ (ap (λ (x : Decoded). x.lines) t.2) s.gained (no-front now.out)

-- bytes were read behind those that are held
pub filled : (shown : Shown) (plan : Plan) (before now : Streams) (old d : Decoder) (bytes : List ℕ) (input : Option (List ℕ)) → Stands shown plan before now old
    → d.framer.held ≡ old.framer.held ++ bytes → d.lines ≡ old.lines → d.number ≡ old.number → d.place ≡ old.place → Consumes now.input input bytes
    → Stands shown plan before (record { input = input; out = now.out }) d
filled shown plan before now old d bytes input s held lines number place consumed = record {
  read = s.read ++ bytes;
  printed = s.printed;
  consumed = Consumes-trans _ _ _ _ _ s.consumed consumed;
  gained = s.gained;
  same = λ left.
      ap (decoded shown plan) (append_assoc s.read bytes left) ∙ s.same (bytes ++ left)
      ∙ ap (λ h. behind s.printed (behind old.lines.items (decoded_from shown plan old.number old.place h))) (sym (append_assoc old.framer.held bytes left) ∙ ap (λ h. h ++ left) (sym held))
      ∙ rw (lines, number, place) refl;
}

-- frames were taken
pub kept : (shown : Shown) (plan : Plan) (before now : Streams) (old new : Decoder) → Stands shown plan before now old → progress.Keeps shown plan old new → Stands shown plan before now new
kept shown plan before now old new s same = record {
  read = s.read;
  printed = s.printed;
  consumed = s.consumed;
  gained = s.gained;
  same = λ left. s.same left ∙ ap (behind s.printed) (same left);
}

-- the lines were pushed
pub pushed : (shown : Shown) (plan : Plan) (before now : Streams) (old new : Decoder) (out : Option (List ℕ)) → Stands shown plan before now old → Appends now.out out old.lines.items
    → new.lines.items ≡ [] → new.framer ≡ old.framer → new.number ≡ old.number → new.place ≡ old.place
    → Stands shown plan before (record { input = now.input; out = out }) new
pushed shown plan before now old new out s appended none framer number place = record {
  read = s.read;
  printed = s.printed ++ old.lines.items;
  consumed = s.consumed;
  gained = Appends-trans _ _ _ _ _ s.gained appended;
  same = λ left.
      s.same left ∙ behind-behind s.printed old.lines.items (decoded_from shown plan old.number old.place (old.framer.held ++ left))
      ∙ rw (none, framer, number, place) refl;
}

-- a push failed in the middle
pub cut-front : (shown : Shown) (plan : Plan) (before now : Streams) (old new : Decoder) (out : Option (List ℕ)) → Stands shown plan before now old → progress.Keeps shown plan old new → TakesFront now.out out new.lines.items
    → (input : List ℕ) → before.input ≡ Some input → TakesFront before.out out (decoded shown plan input).lines
cut-front shown plan before now old new out s same front input e =
    let t = stood shown plan before now old s input e in
    more-front before.out now.out out s.printed new.lines.items _ _ (ap (λ (x : Decoded). x.lines) (t.2 ∙ ap (behind s.printed) (same t.0))) s.gained front

pub stopped-front : (shown : Shown) (plan : Plan) (before now : Streams) (old new : Decoder) (wrong : Bad) (out : Option (List ℕ)) → Stands shown plan before now old → progress.Stops shown plan old new wrong → TakesFront now.out out new.lines.items
    → (input : List ℕ) → before.input ≡ Some input → TakesFront before.out out (decoded shown plan input).lines
stopped-front shown plan before now old new wrong out s stops front input e =
    let t = stood shown plan before now old s input e in
    more-front before.out now.out out s.printed new.lines.items [] _ (ap (λ (x : Decoded). x.lines) (t.2 ∙ ap (behind s.printed) (stops t.0)) ∙ ap (λ l. s.printed ++ l) (sym (append-nil new.lines.items))) s.gained front

-- the lines before a fault were pushed
pub stopped-whole : (shown : Shown) (plan : Plan) (before now : Streams) (old new : Decoder) (wrong : Bad) (out : Option (List ℕ)) → Stands shown plan before now old → progress.Stops shown plan old new wrong → Appends now.out out new.lines.items
    → (input : List ℕ) → before.input ≡ Some input → GaveDecoded (decoded shown plan input) before.out out (Message wrong)
stopped-whole shown plan before now old new wrong out s stops appended input e =
    let t = stood shown plan before now old s input e in
    let is = t.2 ∙ ap (behind s.printed) (stops t.0) in
    record {
      lines = subst (Appends before.out out) (sym (ap (λ (x : Decoded). x.lines) is)) (Appends-trans _ _ _ _ _ s.gained appended);
      status_is = sym (ap (λ (x : Decoded). x.status) is);
    }

-- the input has ended
at-rest : (place : ℕ) (held : List ℕ) (shown : Shown) (plan : Plan) (before after : Streams) (d : Decoder) → ((input : List ℕ) → before.input ≡ Some input → GaveDecoded (decoded shown plan input) before.out after.out (status_at place held rest))
    → AfterRound shown plan before after d (as_round (status_at place held rest))
at-rest place [] shown plan before after d gave = gave
at-rest place (byte ∷ bytes) shown plan before after d gave = gave

pub finished : (shown : Shown) (plan : Plan) (before now after : Streams) (d b : Decoder) → Stands shown plan before now d → IsIdle d → Consumes now.input after.input [] → IsAtEnd after.input → after.out ≡ now.out
    → AfterRound shown plan before after b (as_round (status_at d.place d.framer.held (first_of d.framer.held)))
finished shown plan before now after d b s idle consumed end same =
    let first = idle.waits in
    subst (λ (f : First). AfterRound shown plan before after b (as_round (status_at d.place d.framer.held f))) (sym first)
    (at-rest d.place d.framer.held shown plan before after b (λ input e.
    let t = told before.input after.input (s.read ++ []) input (Consumes-trans _ _ _ _ _ s.consumed consumed) e in
    let whole : input ≡ s.read ++ [] = t.1 ∙ ap (λ l. s.read ++ [] ++ l) (at_end after.input t.0 end t.2) ∙ append-nil (s.read ++ []) in
    let held_is : decoded_from shown plan d.number d.place (d.framer.held ++ []) ≡ ends (status_at d.place d.framer.held rest) =
    ap (decoded_from shown plan d.number d.place) (append-nil d.framer.held) ∙ from-none shown plan d.number d.place d.framer.held (subst IsNoFrame (sym first) tt) ∙ ap (λ (f : First). ends (status_at d.place d.framer.held f)) first in
    let is : decoded shown plan input ≡ behind s.printed (behind [] (ends (status_at d.place d.framer.held rest))) =
    ap (decoded shown plan) whole ∙ s.same [] ∙ ap (λ x. behind s.printed (behind d.lines.items x)) held_is ∙ ap (λ l. behind s.printed (behind l (ends (status_at d.place d.framer.held rest)))) idle.pushed in
    record {
      lines = rw same (subst (Appends before.out now.out) (sym (ap (λ (x : Decoded). x.lines) is ∙ append-nil s.printed)) s.gained);
      status_is = sym (ap (λ (x : Decoded). x.status) is);
    }))

-- the same of a decoder that holds as many bytes at the same place
pub finished-by : (shown : Shown) (plan : Plan) (before now after : Streams) (d b : Decoder) → Stands shown plan before now d → IsIdle d → Consumes now.input after.input [] → IsAtEnd after.input → after.out ≡ now.out
    → b.place ≡ d.place → b.framer.held ≡ d.framer.held → (result : Result Bool Status) → result ≡ as_round (status_at b.place b.framer.held (first_of b.framer.held)) → AfterRound shown plan before after b result
finished-by shown plan before now after d b s idle consumed end same place held result is =
    subst (AfterRound shown plan before after b) (sym is)
    (subst (λ (at : ℕ). AfterRound shown plan before after b (as_round (status_at at b.framer.held (first_of b.framer.held)))) (sym place)
    (subst (λ (bytes : List ℕ). AfterRound shown plan before after b (as_round (status_at d.place bytes (first_of bytes)))) (sym held)
    (finished shown plan before now after d b s idle consumed end same)))

-- a borrower leaves a room as long as it was
pub written_over-same : (room bytes : List ℕ) → length bytes ≡ length room → written_over room bytes ≡ bytes
written_over-same room bytes e = rw (eq-eqb (length bytes) (length room) e) refl

-- where less than a frame is held there is room
pub room_left : (held : List ℕ) (room : ℕ) → first_of held ≡ rest → room + length held ≡ 32780 → 0 < room
room_left held room waits whole = grind (arith, common_steps)

-- a decoder that has read nothing stands at the beginning of any input
pub stands-new : (shown : Shown) (plan : Plan) (before now : Streams) (d : Decoder) → IsNew d → before.input ≡ now.input → Appends before.out now.out [] → Consumes before.input now.input [] → Stands shown plan before now d
stands-new shown plan before now d new same appended consumed = record {
  read = [];
  printed = [];
  consumed = consumed;
  gained = appended;
  same = λ left. rw (new.held, new.lines, new.number, new.place) refl;
}

-- a piece was read into the room
pub piece : (shown : Shown) (plan : Plan) (before : Streams) (input after out : Option (List ℕ)) (old d : Decoder) (count : ℕ) (into : List ℕ)
    → Stands shown plan before (record { input = input; out = out }) old
    → d.framer.held ≡ old.framer.held ++ take count (written_over old.framer.room into) → length into ≡ length old.framer.room
    → d.lines ≡ old.lines → d.number ≡ old.number → d.place ≡ old.place → Consumes input after (take count into)
    → Stands shown plan before (record { input = after; out = out }) d
piece shown plan before input after out old d count into s held same lines number place consumed =
    filled shown plan before (record { input = input; out = out }) old d (take count into) after s
    (held ∙ ap (λ l. old.framer.held ++ take count l) (written_over-same old.framer.room into same)) lines number place consumed

-- nothing was printed yet
none-printed : (out : Option (List ℕ)) (lines : List ℕ) → TakesFront out out lines
none-printed out lines = record { count = 0; within = omega arith; appended = Appends-nil out }

pub unread : (shown : Shown) (plan : Plan) (before after : Streams) → after.out ≡ before.out → KeepsPromise shown plan before after InputFault
unread shown plan before after same = λ input e. rw same (none-printed before.out (decoded shown plan input).lines)

pub unmade : (shown : Shown) (plan : Plan) (before after : Streams) → after.out ≡ before.out → KeepsPromise shown plan before after Memory
unmade shown plan before after same = λ input e. rw same (none-printed before.out (decoded shown plan input).lines)

-- the input has nothing
pub empty : (shown : Shown) (plan : Plan) (before after : Streams) (d : Decoder) → IsNew d → Consumes before.input after.input [] → IsAtEnd after.input → Appends before.out after.out [] → KeepsPromise shown plan before after Done
empty shown plan before after d new consumed end nothing =
    let now : Streams = record { input = before.input; out = after.out } in
    let idle : IsIdle d = record { waits = rw new.held refl; pushed = new.lines } in
    let s = stands-new shown plan before now d new refl nothing (Consumes-nil before.input) in
    subst (λ (h : List ℕ). AfterRound shown plan before after d (as_round (status_at d.place h (first_of h)))) new.held
    (finished shown plan before now after d d s idle consumed end refl)
