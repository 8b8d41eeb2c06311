-- What one round over a piece of input leaves.
use Rattle.std.proofs.Common.{◌≡◌, ◌≢◌, ℕ, ◌+◌, ◌-◌, ◌^◌, min, List, [], ◌∷◌, ◌++◌, length, take, drop, Option, Some, None, Result, Ok, Err, Bool, false, refl, sym, ap, subst, ◌∙◌, append_assoc, append-nil, take-append-drop, arith}
use Rattle.std.specs.Io.KnownBytes.{Consumes, Appends, IsAtEnd}
use Rattle.std.proofs.KnownBytes.{Appends-nil, Appends-trans, Consumes-nil, Consumes-trans}
use Rattle.std.proofs.lemmas.List.{length-append}
use Rattle.sofh_frame.specs.Framing.{Frame, IsFrame, BeginsWith, spelled, First, frame, rest, bad_length, bad_encoding, first_of}
use Rattle.sofh_frame.specs.Buffered.{Buffered}
use Rattle.sofh_frame.specs.Splits.{spelled_all}
use Rattle.sofh_frame.proofs.FramingLemmas.{bad_length-append, bad_encoding-append, frame-append}
use Rattle.sofh_frame.proofs.SplitLemmas.{spelled_all-push, AllByRecursion-push, length-spelled}
use Rattle.gw_outside.specs.Faults.{TakesFront}
use Rattle.fixp_mux.specs.Context.{says}
use Rattle.fixp_mux.specs.Parts.{named_behind}
use Rattle.routes.specs.Identifiers.{EachOnce}
use Rattle.cmd_config.specs.declared.settings.Settings.{Settings}
use Rattle.cmd_base.specs.Contents.{Content}
use Rattle.cmd_answer.specs.Promise.{Begins}
use Rattle.cmd_muxanswer.proofs.Given.{told, at_end}
use Rattle.cmd_answer.proofs.Fronts.{Begins-more, Begins-trans}
use Rattle.cmd_muxanswer.specs.declared.unrouted.Unrouted.{Unrouted}
use Rattle.cmd_muxanswer.specs.declared.unrouted.Unrouted.TheVariants.{BadFrame}
use Rattle.cmd_muxanswer.specs.Input.{Closing}
use Rattle.cmd_muxanswer.specs.Input as closings
use Rattle.cmd_muxanswer.specs.declared.outcome.Outcome.{Outcome}
use Rattle.cmd_muxanswer.specs.declared.outcome.Outcome.TheVariants as outcomes
use Rattle.cmd_muxanswer.specs.declared.conversation.Conversation.{Conversation}
use Rattle.cmd_muxanswer.specs.declared.conversation.Step.{Step}
use Rattle.cmd_muxanswer.specs.declared.conversation.Step.TheVariants as steps
use Rattle.cmd_muxanswer.specs.Sessions.{identifiers}
use Rattle.cmd_muxanswer.specs.Input.{IsUnrouted, IsUnroutedAt, Closes, place_of}
use Rattle.cmd_muxanswer.specs.Lines.{bytes_of_lines}
use Rattle.cmd_muxanswer.specs.Answer.{reach_after}
use Rattle.cmd_muxanswer.specs.Promise.{GaveWhole, GaveFront, outcome_of}
use Rattle.cmd_muxanswer.specs.Progress.{Holds, Stands, StandsBefore, Leaves, IsEmptied, Talks, KeepsPromise, AfterRound, IsOpen, IsIdle}
use Rattle.cmd_muxanswer.proofs.Fronts.{answered_begins}

-- ---- one frame

-- the place behind one more frame
pub place_more : (frames : List Frame) (f : Frame) (place size : ℕ) → place ≡ place_of frames → size ≡ 6 + length f.message → min (place + size) (2 ^ 64 - 1) ≡ place_of (frames ++ f ∷ [])
place_more frames f place size is counts =
    let whole : length (spelled_all (frames ++ f ∷ [])) ≡ length (spelled_all frames) + size =
    ap length (spelled_all-push frames f) ∙ length-append (spelled_all frames) (spelled f) ∙ ap (λ (n : ℕ). length (spelled_all frames) + n) (length-spelled f ∙ sym counts) in
    omega (arith, whole, is)

-- one more frame was given out
pub stands_more : (sessions : List Settings) (read wire out : List ℕ) (a b : Conversation) (f : Frame) (size : ℕ) → (x : Stands sessions read wire out a)
    → BeginsWith a.framer.held f size → Holds sessions (x.frames ++ f ∷ []) wire out b.router → b.framer.held ≡ drop size a.framer.held → b.place ≡ min (a.place + size) (2 ^ 64 - 1)
    → Stands sessions read wire out b
stands_more sessions read wire out a b f size x begins holds held place = record {
  frames = x.frames ++ f ∷ [];
  joins =
      x.joins ∙ ap (λ (bs : List ℕ). spelled_all x.frames ++ bs) (begins.spells ∙ ap (λ (bs : List ℕ). spelled f ++ bs) (sym held))
      ∙ sym (append_assoc (spelled_all x.frames) (spelled f) b.framer.held)
      ∙ ap (λ (bs : List ℕ). bs ++ b.framer.held) (sym (spelled_all-push x.frames f));
  each = AllByRecursion-push IsFrame x.frames f x.each begins.admissible;
  place = place ∙ place_more x.frames f a.place size x.place begins.counts;
  holds = holds;
}

-- ---- whole answers

-- what cannot be routed stays so, whatever follows
unrouted_more : (ids : List (List ℕ)) (before : Option (List ℕ)) (held left : List ℕ) (why : Unrouted) (first : First) → first_of held ≡ first → IsUnroutedAt ids before first why → IsUnroutedAt ids before (first_of (held ++ left)) why
unrouted_more ids before held left why (frame order message size) e un =
    subst (λ (x : First). IsUnroutedAt ids before x why) (sym (frame-append held left order message size e)) un
unrouted_more ids before held left why rest e un = absurd un
unrouted_more ids before held left why (bad_length n) e un = subst (λ (x : First). IsUnroutedAt ids before x why) (sym (bad_length-append held left n e)) un
unrouted_more ids before held left why (bad_encoding n) e un = subst (λ (x : First). IsUnroutedAt ids before x why) (sym (bad_encoding-append held left n e)) un

-- no further frame is given out, and all was pushed
pub gave_whole : (sessions : List Settings) (before now : Content) (c : Conversation) (read wire out left input : List ℕ) (closing : Closing) → (x : Stands sessions read wire out c) → input ≡ read ++ left
    → Closes (identifiers sessions) (named_behind None x.frames) (c.framer.held ++ left) closing
    → Appends before.wire now.wire (wire ++ c.router.written.wire.bytes.items) → Appends before.out now.out (out ++ c.router.written.lines.items)
    → GaveWhole sessions input before now (outcome_of c.place closing)
gave_whole sessions before now c read wire out left input closing x is closes wired outed =
    let reach = reach_after x.holds.came in
    record {
      answer = record { wire = spelled_all reach.wire; out = bytes_of_lines reach.lines; at = place_of x.frames; closing = closing };
      is = record {
        frames = x.frames;
        tail = c.framer.held ++ left;
        came = x.holds.came;
        is_input = record {
          joins = is ∙ ap (λ (bs : List ℕ). bs ++ left) x.joins ∙ append_assoc (spelled_all x.frames) c.framer.held left;
          each = x.each;
          well = x.holds.well;
          closes = closes;
        };
        taken = x.holds.taken;
        wire = refl;
        out = refl;
        at = refl;
      };
      outcome_is = ap (λ (at : ℕ). outcome_of at closing) x.place;
      wire = subst (Appends before.wire now.wire) x.holds.wire_is wired;
      out = subst (Appends before.out now.out) x.holds.out_is outed;
    }

-- ---- fronts

pub front : (sessions : List Settings) → EachOnce (identifiers sessions) → (before now : Content) (c : Conversation) (read wire out left input w o : List ℕ) → Stands sessions read wire out c → input ≡ read ++ left
    → Appends before.wire now.wire w → Appends before.out now.out o → Begins w (wire ++ c.router.written.wire.bytes.items) → Begins o (out ++ c.router.written.lines.items)
    → GaveFront sessions input before now
front sessions once before now c read wire out left input w o x is wired outed of_wire of_out =
    let joins : input ≡ spelled_all x.frames ++ (c.framer.held ++ left) = is ∙ ap (λ (bs : List ℕ). bs ++ left) x.joins ∙ append_assoc (spelled_all x.frames) c.framer.held left in
    let of_reach_wire = subst (Begins w) x.holds.wire_is of_wire in
    let of_reach_out = subst (Begins o) x.holds.out_is of_out in
    record {
      wire = w;
      out = o;
      wire_gained = wired;
      out_gained = outed;
      wire_begins = λ answer a. Begins-trans _ _ _ of_reach_wire (answered_begins sessions once input x.frames x.holds.came (c.framer.held ++ left) joins x.each x.holds.well x.holds.taken answer a).0;
      out_begins = λ answer a. Begins-trans _ _ _ of_reach_out (answered_begins sessions once input x.frames x.holds.came (c.framer.held ++ left) joins x.each x.holds.well x.holds.taken answer a).1;
    }

-- what a call that failed took of the bytes to push
begins_taken : (front bytes : List ℕ) (n : ℕ) → Begins (front ++ take n bytes) (front ++ bytes)
begins_taken front bytes n = record { rest = drop n bytes; joins = sym (append_assoc front (take n bytes) (drop n bytes) ∙ ap (λ (l : List ℕ). front ++ l) (take-append-drop n bytes)) }

-- ---- the goals of a round

-- nothing was pushed since the last round
pub kept_front : (sessions : List Settings) → EachOnce (identifiers sessions) → (before now : Content) (c : Conversation) → Talks sessions before now c → (after : Content) → after.wire ≡ now.wire → after.out ≡ now.out
    → (input : List ℕ) → before.input ≡ Some input → GaveFront sessions input before after
kept_front sessions once before now c talks after same_wire same_out input e =
    let t = told before.input now.input talks.read input talks.consumed e in
    front sessions once before after c talks.read talks.wire talks.out t.0 input talks.wire talks.out talks.stands t.1
    (subst (λ (w : Option (List ℕ)). Appends before.wire w talks.wire) (sym same_wire) talks.wire_gained) (subst (λ (w : Option (List ℕ)). Appends before.out w talks.out) (sym same_out) talks.out_gained)
    (Begins-more talks.wire c.router.written.wire.bytes.items) (Begins-more talks.out c.router.written.lines.items)

-- what every step leaves
pub stands_of : (step : Step) (sessions : List Settings) (read wire out : List ℕ) (c : Conversation) → Leaves step sessions read wire out c → Stands sessions read wire out c
stands_of steps.Took sessions read wire out c leaves = leaves
stands_of steps.Waits sessions read wire out c leaves = leaves
stands_of (steps.Stops why) sessions read wire out c leaves = leaves.stands

-- a push failed in the middle
pub cut_front : (sessions : List Settings) → EachOnce (identifiers sessions) → (before now after : Content) (c : Conversation) (read wire out : List ℕ) → Stands sessions read wire out c
    → Consumes before.input now.input read → Appends before.wire now.wire wire → Appends before.out now.out out
    → TakesFront now.wire after.wire c.router.written.wire.bytes.items → TakesFront now.out after.out c.router.written.lines.items
    → (input : List ℕ) → before.input ≡ Some input → GaveFront sessions input before after
cut_front sessions once before now after c read wire out x consumed wired outed w o input e =
    let t = told before.input now.input read input consumed e in
    front sessions once before after c read wire out t.0 input _ _ x t.1 (Appends-trans _ _ _ _ _ wired w.appended) (Appends-trans _ _ _ _ _ outed o.appended)
    (begins_taken wire c.router.written.wire.bytes.items w.count) (begins_taken out c.router.written.lines.items o.count)

-- all was pushed
stands_emptied : (sessions : List Settings) (read wire out : List ℕ) (a b : Conversation) → Stands sessions read wire out a → IsEmptied a b
    → Stands sessions read (wire ++ a.router.written.wire.bytes.items) (out ++ a.router.written.lines.items) b
stands_emptied sessions read wire out a b x emptied = record {
  frames = x.frames;
  joins = x.joins ∙ ap (λ (b : Buffered). spelled_all x.frames ++ b.held) (sym emptied.framer);
  each = x.each;
  place = emptied.place ∙ x.place;
  holds = record {
    came = x.holds.came;
    same = emptied.sessions ∙ x.holds.same;
    well = x.holds.well;
    taken = x.holds.taken;
    named = rw emptied.named x.holds.named;
    seats = rw emptied.seats x.holds.seats;
    writing = emptied.writing ∙ x.holds.writing;
    wire_is = rw (emptied.bytes, append-nil (wire ++ a.router.written.wire.bytes.items)) x.holds.wire_is;
    out_is = rw (emptied.lines, append-nil (out ++ a.router.written.lines.items)) x.holds.out_is;
  };
}

-- and the conversation goes on
pub talks_on : (sessions : List Settings) (before now after : Content) (a b : Conversation) (read wire out : List ℕ) → Stands sessions read wire out a
    → Consumes before.input after.input read → Appends before.wire now.wire wire → Appends before.out now.out out
    → Appends now.wire after.wire a.router.written.wire.bytes.items → Appends now.out after.out a.router.written.lines.items → IsEmptied a b
    → Talks sessions before after b
talks_on sessions before now after a b read wire out x consumed wired outed w o emptied = record {
  read = read;
  wire = wire ++ a.router.written.wire.bytes.items;
  out = out ++ a.router.written.lines.items;
  stands = stands_emptied sessions read wire out a b x emptied;
  consumed = consumed;
  wire_gained = Appends-trans _ _ _ _ _ wired w;
  out_gained = Appends-trans _ _ _ _ _ outed o;
}

-- and what comes next can be given to no session
pub after_stop : (sessions : List Settings) (before now after : Content) (c : Conversation) (read wire out : List ℕ) (why : Unrouted) → StandsBefore sessions read wire out c why
    → Consumes before.input after.input read → Appends before.wire now.wire wire → Appends before.out now.out out
    → Appends now.wire after.wire c.router.written.wire.bytes.items → Appends now.out after.out c.router.written.lines.items
    → KeepsPromise sessions before after (outcomes.Mux c.place why)
after_stop sessions before now after c read wire out why x consumed wired outed w o input e =
    let t = told before.input after.input read input consumed e in
    gave_whole sessions before after c read wire out t.0 input (closings.unrouted why) x.stands t.1
    (unrouted_more (identifiers sessions) (named_behind None x.stands.frames) c.framer.held t.0 why (first_of c.framer.held) refl x.unrouted)
    (Appends-trans _ _ _ _ _ wired w) (Appends-trans _ _ _ _ _ outed o)

-- ---- the input has ended

closed_whole : (ids : List (List ℕ)) (before : Option (List ℕ)) (held : List ℕ) → held ≡ [] → Closes ids before (held ++ []) closings.whole
closed_whole ids before held is = append-nil held ∙ is

closed_cut : (ids : List (List ℕ)) (before : Option (List ℕ)) (held : List ℕ) → held ≢ [] → first_of held ≡ rest → Closes ids before (held ++ []) closings.cut
closed_cut ids before held some first = ((λ e. some (sym (append-nil held) ∙ e)), ap first_of (append-nil held) ∙ first)

pub after_finish : (sessions : List Settings) (before now after : Content) (c : Conversation) (closing : Closing) → (talks : Talks sessions before now c)
    → c.router.written.wire.bytes.items ≡ [] → c.router.written.lines.items ≡ []
    → Closes (identifiers sessions) (named_behind None talks.stands.frames) (c.framer.held ++ []) closing
    → Consumes now.input after.input [] → IsAtEnd after.input → after.wire ≡ now.wire → after.out ≡ now.out
    → (input : List ℕ) → before.input ≡ Some input → GaveWhole sessions input before after (outcome_of c.place closing)
after_finish sessions before now after c closing talks bytes lines closes consumed end same_wire same_out input e =
    let t = told before.input after.input (talks.read ++ []) input (Consumes-trans _ _ _ _ _ talks.consumed consumed) e in
    let all : input ≡ talks.read ++ [] = t.1 ∙ ap (λ (l : List ℕ). talks.read ++ [] ++ l) (at_end after.input t.0 end t.2) ∙ append-nil (talks.read ++ []) in
    let wired : Appends before.wire after.wire (talks.wire ++ c.router.written.wire.bytes.items) = rw (bytes, append-nil talks.wire, same_wire) talks.wire_gained in
    let outed : Appends before.out after.out (talks.out ++ c.router.written.lines.items) = rw (lines, append-nil talks.out, same_out) talks.out_gained in
    gave_whole sessions before after c talks.read talks.wire talks.out [] input closing talks.stands all closes wired outed

pub finish_whole : (sessions : List Settings) (before now after : Content) (c : Conversation) → Talks sessions before now c
    → c.router.written.wire.bytes.items ≡ [] → c.router.written.lines.items ≡ [] → c.framer.held ≡ []
    → Consumes now.input after.input [] → IsAtEnd after.input → after.wire ≡ now.wire → after.out ≡ now.out → KeepsPromise sessions before after outcomes.Done
finish_whole sessions before now after c talks bytes lines held consumed end same_wire same_out input e =
    after_finish sessions before now after c closings.whole talks bytes lines (closed_whole (identifiers sessions) (named_behind None talks.stands.frames) c.framer.held held) consumed end same_wire same_out input e

pub finish_cut : (sessions : List Settings) (before now after : Content) (c : Conversation) → Talks sessions before now c
    → c.router.written.wire.bytes.items ≡ [] → c.router.written.lines.items ≡ [] → c.framer.held ≢ [] → first_of c.framer.held ≡ rest
    → Consumes now.input after.input [] → IsAtEnd after.input → after.wire ≡ now.wire → after.out ≡ now.out → KeepsPromise sessions before after (outcomes.Cut c.place)
finish_cut sessions before now after c talks bytes lines some first consumed end same_wire same_out input e =
    after_finish sessions before now after c closings.cut talks bytes lines (closed_cut (identifiers sessions) (named_behind None talks.stands.frames) c.framer.held some first) consumed end same_wire same_out input e

-- ---- a piece is read

-- bytes are added behind those that are held
pub stands_filled : (sessions : List Settings) (read wire out bytes : List ℕ) (a b : Conversation) → Stands sessions read wire out a → b.router ≡ a.router → b.place ≡ a.place → b.framer.held ≡ a.framer.held ++ bytes
    → Stands sessions (read ++ bytes) wire out b
stands_filled sessions read wire out bytes a b x router place held = record {
  frames = x.frames;
  joins = ap (λ (l : List ℕ). l ++ bytes) x.joins ∙ append_assoc (spelled_all x.frames) a.framer.held bytes ∙ ap (λ (l : List ℕ). spelled_all x.frames ++ l) (sym held);
  each = x.each;
  place = place ∙ x.place;
  holds = subst (Holds sessions x.frames wire out) (sym router) x.holds;
}

-- ---- before the outputs are begun

-- there was no memory
pub unmade : (sessions : List Settings) (before after : Content) → after.wire ≡ before.wire → after.out ≡ before.out → KeepsPromise sessions before after outcomes.Memory
unmade sessions before after wire out input e = record {
  wire = [];
  out = [];
  wire_gained = rw wire (Appends-nil before.wire);
  out_gained = rw out (Appends-nil before.out);
  wire_begins = λ answer is. record { rest = answer.wire; joins = refl };
  out_begins = λ answer is. record { rest = answer.out; joins = refl };
}

-- a conversation that has read nothing stands at the beginning of any input
pub talks_new : (sessions : List Settings) (before now : Content) (c : Conversation) → Stands sessions [] [] [] c → now.input ≡ before.input → Appends before.wire now.wire [] → Appends before.out now.out [] → Talks sessions before now c
talks_new sessions before now c stands same wire out = record {
  read = [];
  wire = [];
  out = [];
  stands = stands;
  consumed = rw same (Consumes-nil before.input);
  wire_gained = wire;
  out_gained = out;
}

-- the answer of a round where the input has ended
pub after_finished : (sessions : List Settings) (before now after : Content) (c d : Conversation) (result : Result Bool Outcome) → Talks sessions before now c
    → c.router.written.wire.bytes.items ≡ [] → c.router.written.lines.items ≡ [] → first_of c.framer.held ≡ rest
    → Consumes now.input after.input [] → IsAtEnd after.input → after.wire ≡ now.wire → after.out ≡ now.out
    → (c.framer.held ≡ [] → result ≡ Ok false) → ((c.framer.held ≡ [] → ⊥) → result ≡ Err (outcomes.Cut c.place))
    → AfterRound sessions before after d result
after_finished sessions before now after c d result talks bytes lines first consumed end same_wire same_out done cut = by_held c.framer.held refl
  where
    by_held : (held : List ℕ) → c.framer.held ≡ held → AfterRound sessions before after d result
    by_held [] none = subst (AfterRound sessions before after d) (sym (done none)) (finish_whole sessions before now after c talks bytes lines none consumed end same_wire same_out)
    by_held (byte ∷ held) is =
        let some : c.framer.held ≡ [] → ⊥ = λ e. (let no : byte ∷ held ≡ [] = sym is ∙ e in absurd (cc no)) in
        subst (AfterRound sessions before after d) (sym (cut some)) (finish_cut sessions before now after c talks bytes lines some first consumed end same_wire same_out)

-- the identifiers stand once
pub once_of : (sessions : List Settings) (read wire out : List ℕ) (c : Conversation) → Stands sessions read wire out c → EachOnce (identifiers c.router.sessions) → EachOnce (identifiers sessions)
once_of sessions read wire out c x once = subst (λ (s : List Settings). EachOnce (identifiers s)) x.holds.same once

-- ---- what comes next can be given to no session

-- a frame, which its router refused
pub stands_stopped : (sessions : List Settings) (read wire out : List ℕ) (a b : Conversation) (f : Frame) (size : ℕ) (why : Unrouted) → (x : Stands sessions read wire out a)
    → first_of a.framer.held ≡ frame f.order f.message size → b.framer ≡ a.framer → b.place ≡ a.place
    → Holds sessions x.frames wire out b.router × IsUnrouted (identifiers sessions) (named_behind None x.frames) (says f) why
    → StandsBefore sessions read wire out b why
stands_stopped sessions read wire out a b f size why x first framer place held = record {
  stands = record {
    frames = x.frames;
    joins = x.joins ∙ ap (λ (l : Buffered). spelled_all x.frames ++ l.held) (sym framer);
    each = x.each;
    place = place ∙ x.place;
    holds = held.0;
  };
  unrouted = subst (λ (n : First). IsUnroutedAt (identifiers sessions) (named_behind None x.frames) n why) (sym (ap (λ (l : Buffered). first_of l.held) framer ∙ first)) held.1;
}

-- bytes that no frame begins with
pub stands_bad_length : (sessions : List Settings) (read wire out : List ℕ) (a : Conversation) (n : ℕ) → Stands sessions read wire out a → first_of a.framer.held ≡ bad_length n → StandsBefore sessions read wire out a BadFrame
stands_bad_length sessions read wire out a n x first = record {
  stands = x;
  unrouted = subst (λ (l : First). IsUnroutedAt (identifiers sessions) (named_behind None x.frames) l BadFrame) (sym first) refl;
}

pub stands_bad_encoding : (sessions : List Settings) (read wire out : List ℕ) (a : Conversation) (n : ℕ) → Stands sessions read wire out a → first_of a.framer.held ≡ bad_encoding n → StandsBefore sessions read wire out a BadFrame
stands_bad_encoding sessions read wire out a n x first = record {
  stands = x;
  unrouted = subst (λ (l : First). IsUnroutedAt (identifiers sessions) (named_behind None x.frames) l BadFrame) (sym first) refl;
}

-- between two rounds, once all is pushed
pub idle_emptied : (old new : Conversation) → IsOpen old.router → IsEmptied old new → IsIdle new
idle_emptied old new opened e = record {
  ready = record {
    seats = rw (e.seats, e.sessions) opened.seats;
    known = rw e.sessions opened.known;
    named = rw (e.named, e.sessions) opened.named;
    usable = rw e.seats opened.usable;
  };
  bytes = e.bytes;
  lines = e.lines;
}

-- nothing begins every answer
pub front_nothing : (sessions : List Settings) (input : List ℕ) (before after : Content) → Appends before.wire after.wire [] → Appends before.out after.out [] → GaveFront sessions input before after
front_nothing sessions input before after wired outed = record {
  wire = [];
  out = [];
  wire_gained = wired;
  out_gained = outed;
  wire_begins = λ answer a. record { rest = answer.wire; joins = refl };
  out_begins = λ answer a. record { rest = answer.out; joins = refl };
}
