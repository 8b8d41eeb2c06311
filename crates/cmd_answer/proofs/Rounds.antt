-- What one round over a piece of input leaves.
use Rattle.std.proofs.Common.{◌≡◌, ◌⊎◌, inl, inr, ℕ, List, [], ◌∷◌, ◌++◌, length, take, drop, Option, Some, None, refl, sym, ap, subst, ◌∙◌, append_assoc, append-nil, take-append-drop, eq-eqb, ◌+◌, ◌<◌, arith}
use Rattle.std.proofs.lemmas.Grind.{common_steps}
use Rattle.std.specs.Prelude.{IsSome}
use Rattle.std.specs.Io.KnownBytes.{Consumes, Appends, IsAtEnd}
use Rattle.std.proofs.KnownBytes.{Appends-nil, Appends-trans, Consumes-nil, Consumes-trans}
use Rattle.sofh_frame.specs.Framing.{First, frame, rest, bad_length, bad_encoding, first_of}
use Rattle.sofh_frame.specs.Buffered.{written_over}
use Rattle.sofh_frame.specs.Splits.{spelled_all, IsNoFrame}
use Rattle.sofh_frame.proofs.FramingLemmas.{bad_length-append, bad_encoding-append}
use Rattle.gw_outside.specs.Faults.{TakesFront}
use Rattle.fixp_shake.specs.declared.config.EndConfig.{EndConfig}
use Rattle.fixp_replies.specs.declared.act.Ending.{Ending}
use Rattle.fixp_replies.specs.declared.act.Ending.TheVariants as endings
use Rattle.fixp_replies.specs.Replies.{reply_to_bad_frame}
use Rattle.fixp_machine.specs.Machine.{State, around, after_bad_frame, bytes_of}
use Rattle.cmd_answer.specs.declared.acceptor.Acceptor.{Acceptor}
use Rattle.cmd_answer.specs.declared.acceptor.Step.{Step}
use Rattle.cmd_answer.specs.declared.acceptor.Step.TheVariants as steps
use Rattle.cmd_config.specs.declared.settings.Settings.{Settings}
use Rattle.cmd_base.specs.declared.status.Status.{Status}
use Rattle.cmd_base.specs.declared.status.Status.TheVariants.{Done, Message, Memory}
use Rattle.cmd_answer.specs.Answer.{Stage, stage_after, around_place, Answer, status_of, status_after, status_at_rest, ended_answer, broken_answer, answer_at_end, answer_after, IsAnswer, acceptor_of}
use Rattle.cmd_answer.specs.Progress.{IsBroken, IsNew, Stands, BrokeOff, AnsweredAll, Halts, IsEmptied}
use Rattle.cmd_base.specs.Contents.{Content}
use Rattle.cmd_answer.specs.Promise.{Begins, GaveWhole, GaveFront, Talks, AfterRound, KeepsPromise, round_of}
use Rattle.cmd_answer.proofs.Devices.{told, at_end}
use Rattle.cmd_answer.proofs.Fronts.{frames_in, one_answer, answered-begins, Begins-more, Begins-trans}

some_of : {A : Type 0} (o : Option A) → IsSome o → (a : A) × (o ≡ Some a)
some_of None some = cc
some_of (Some a) some = (a, refl)

-- ---- statuses that a whole answer has

abbrev IsFinal : Status → Type 0
IsFinal Done = Unit {0}
IsFinal (Message b) = Unit {0}
IsFinal _ = ⊥

final-status_of : (place : ℕ) (ending : Ending) → IsFinal (status_of place ending)
final-status_of place endings.Finished = tt
final-status_of place (endings.PeerTerminated code) = tt
final-status_of place endings.LinkEnded = tt
final-status_of place (endings.Rejected template code) = tt
final-status_of place (endings.Violation violation) = tt

final-status_after : (place : ℕ) (ending : Option Ending) → IsFinal (status_after place ending)
final-status_after place None = tt
final-status_after place (Some ending) = final-status_of place ending

final-status_at_rest : (place : ℕ) (tail : List ℕ) → IsFinal (status_at_rest place tail)
final-status_at_rest place [] = tt
final-status_at_rest place (x ∷ xs) = tt

-- a promise kept by a whole answer, as a round answers it
after-whole : (cfg : EndConfig) (before now : Content) (a : Acceptor) (status : Status) → IsFinal status
    → ((input : List ℕ) → before.input ≡ Some input → GaveWhole cfg input before now status) → AfterRound cfg before now a (round_of status)
after-whole cfg before now a Done final gave = gave
after-whole cfg before now a (Message b) final gave = gave
after-whole cfg before now a _ final gave = absurd final

-- ---- whole answers

-- the answer where the connection goes on and the input ends, which has less than a frame left
rest_answer : (cfg : EndConfig) (s : Stage) (tail : List ℕ) → s.ending ≡ None → first_of tail ≡ rest
    → answer_at_end cfg s tail s.ending ≡ record { wire = s.wire; out = s.out; status = status_at_rest s.place tail }
rest_answer cfg s tail going first = rw (going, first) refl

end_answer : (cfg : EndConfig) (s : Stage) (tail : List ℕ) (e : Ending) → s.ending ≡ Some e → answer_at_end cfg s tail s.ending ≡ ended_answer s e
end_answer cfg s tail e ended = rw ended refl

-- no frame begins with what is broken, whatever follows
abbrev BrokenAnswer : EndConfig → Stage → List ℕ → Type 0
BrokenAnswer cfg s tail = IsNoFrame (first_of tail) × (answer_at_end cfg s tail None ≡ broken_answer s (reply_to_bad_frame (around_place cfg s.place) s.facts))

bad_answer : (cfg : EndConfig) (s : Stage) (held left : List ℕ) (first : First) → first_of held ≡ first → IsBroken first → BrokenAnswer cfg s (held ++ left)
bad_answer cfg s held left (frame order message size) e broken = absurd broken
bad_answer cfg s held left rest e broken = absurd broken
bad_answer cfg s held left (bad_length n) e broken =
    let first : first_of (held ++ left) ≡ bad_length n = bad_length-append held left n e in
    let P : First → Type 0 = IsNoFrame in
    (subst P (sym first) tt, rw first refl)
bad_answer cfg s held left (bad_encoding n) e broken =
    let first : first_of (held ++ left) ≡ bad_encoding n = bad_encoding-append held left n e in
    let P : First → Type 0 = IsNoFrame in
    (subst P (sym first) tt, rw first refl)

-- the input has ended, with nothing to push
pub whole-rest : (cfg : EndConfig) (before now : Content) (a : Acceptor) (read wire out input : List ℕ) → Stands cfg read wire out a → input ≡ read → a.end.ending ≡ None → first_of a.framer.held ≡ rest
    → Appends before.wire now.wire (wire ++ a.end.unsent) → Appends before.out now.out (out ++ a.lines.items)
    → GaveWhole cfg input before now (status_at_rest a.place a.framer.held)
whole-rest cfg before now a read wire out input stands is going first wired outed =
    let s = stage_after cfg stands.received in
    let ended : s.ending ≡ None = ap (λ (t : Stage). t.ending) stands.stage ∙ going in
    let answer_is = rest_answer cfg s a.framer.held ended first in
    let P : First → Type 0 = IsNoFrame in
    record {
      answer = answer_after cfg stands.received a.framer.held;
      is = record { received = stands.received; tail = a.framer.held; joins = is ∙ stands.joins; each = stands.each; classified = stands.classified; all = λ _. subst P (sym first) tt; is = refl };
      status_is = sym (ap (λ (x : Answer). x.status) answer_is ∙ ap (λ (t : Stage). status_at_rest t.place a.framer.held) stands.stage);
      wire = subst (Appends before.wire now.wire) (sym (ap (λ (x : Answer). x.wire) answer_is ∙ ap (λ (t : Stage). t.wire) stands.stage)) wired;
      out = subst (Appends before.out now.out) (sym (ap (λ (x : Answer). x.out) answer_is ∙ ap (λ (t : Stage). t.out) stands.stage)) outed;
    }

-- a frame ended the connection
pub whole-ended : (cfg : EndConfig) (before now : Content) (a : Acceptor) (read wire out left input : List ℕ) → Stands cfg read wire out a → input ≡ read ++ left → IsSome a.end.ending
    → Appends before.wire now.wire (wire ++ a.end.unsent) → Appends before.out now.out (out ++ a.lines.items)
    → GaveWhole cfg input before now (status_after a.place a.end.ending)
whole-ended cfg before now a read wire out left input stands is some wired outed =
    let s = stage_after cfg stands.received in
    let e = some_of a.end.ending some in
    let ended : s.ending ≡ Some e.0 = ap (λ (t : Stage). t.ending) stands.stage ∙ e.1 in
    let tail = a.framer.held ++ left in
    let answer_is = end_answer cfg s tail e.0 ended in
    record {
      answer = answer_after cfg stands.received tail;
      is = record { received = stands.received; tail = tail; joins = is ∙ ap (λ (l : List ℕ). l ++ left) stands.joins ∙ append_assoc (spelled_all (frames_in stands.received)) a.framer.held left; each = stands.each; classified = stands.classified; all = λ going. let no : None ≡ Some e.0 = sym going ∙ ended in cc; is = refl };
      status_is = ap (status_after a.place) e.1 ∙ sym (ap (λ (x : Answer). x.status) answer_is ∙ ap (λ (t : Stage). status_of t.place e.0) stands.stage);
      wire = subst (Appends before.wire now.wire) (sym (ap (λ (x : Answer). x.wire) answer_is ∙ ap (λ (t : Stage). t.wire) stands.stage)) wired;
      out = subst (Appends before.out now.out) (sym (ap (λ (x : Answer). x.out) answer_is ∙ ap (λ (t : Stage). t.out) stands.stage)) outed;
    }

-- the answer to an input whose frames are followed by bytes that are none
pub broken-answer : (cfg : EndConfig) (a : Acceptor) (read wire out left input : List ℕ) → (b : BrokeOff cfg read wire out a) → input ≡ read ++ left
    → IsAnswer cfg input (record { wire = wire ++ a.end.unsent; out = out ++ a.lines.items; status = status_after a.place a.end.ending })
broken-answer cfg a read wire out left input b is =
    let s = stage_after cfg b.received in
    let tail = a.framer.held ++ left in
    let bad = bad_answer cfg s a.framer.held left (first_of a.framer.held) refl b.broken in
    let at_none : answer_after cfg b.received tail ≡ broken_answer s (reply_to_bad_frame (around_place cfg s.place) s.facts) = ap (answer_at_end cfg s tail) b.going ∙ bad.1 in
    record {
      received = b.received;
      tail = tail;
      joins = is ∙ ap (λ (l : List ℕ). l ++ left) b.joins ∙ append_assoc (spelled_all (frames_in b.received)) a.framer.held left;
      each = b.each;
      classified = b.classified;
      all = λ _. bad.0;
      is = rw (b.wire_is, b.out_is, b.place, b.ending) (sym at_none);
    }

pub whole-broken : (cfg : EndConfig) (before now : Content) (a : Acceptor) (read wire out left input : List ℕ) → BrokeOff cfg read wire out a → input ≡ read ++ left
    → Appends before.wire now.wire (wire ++ a.end.unsent) → Appends before.out now.out (out ++ a.lines.items)
    → GaveWhole cfg input before now (status_after a.place a.end.ending)
whole-broken cfg before now a read wire out left input b is wired outed = record {
  answer = record { wire = wire ++ a.end.unsent; out = out ++ a.lines.items; status = status_after a.place a.end.ending };
  is = broken-answer cfg a read wire out left input b is;
  status_is = refl;
  wire = wired;
  out = outed;
}

-- ---- fronts

pub front-stands : (cfg : EndConfig) (before now : Content) (a : Acceptor) (read wire out left input w o : List ℕ) → Stands cfg read wire out a → input ≡ read ++ left
    → Appends before.wire now.wire w → Appends before.out now.out o → Begins w (wire ++ a.end.unsent) → Begins o (out ++ a.lines.items)
    → GaveFront cfg input before now
front-stands cfg before now a read wire out left input w o stands is wired outed of_wire of_out =
    let s = stage_after cfg stands.received in
    let joins : input ≡ spelled_all (frames_in stands.received) ++ (a.framer.held ++ left) =
    is ∙ ap (λ (l : List ℕ). l ++ left) stands.joins ∙ append_assoc (spelled_all (frames_in stands.received)) a.framer.held left in
    let of_stage_wire : Begins w s.wire = subst (Begins w) (sym (ap (λ (t : Stage). t.wire) stands.stage)) of_wire in
    let of_stage_out : Begins o s.out = subst (Begins o) (sym (ap (λ (t : Stage). t.out) stands.stage)) of_out in
    record {
      wire = w;
      out = o;
      wire_gained = wired;
      out_gained = outed;
      wire_begins = λ answer x. Begins-trans _ _ _ of_stage_wire (answered-begins cfg input stands.received _ joins stands.each stands.classified answer x).0;
      out_begins = λ answer x. Begins-trans _ _ _ of_stage_out (answered-begins cfg input stands.received _ joins stands.each stands.classified answer x).1;
    }

pub front-broken : (cfg : EndConfig) (before now : Content) (a : Acceptor) (read wire out left input w o : List ℕ) → BrokeOff cfg read wire out a → input ≡ read ++ left
    → Appends before.wire now.wire w → Appends before.out now.out o → Begins w (wire ++ a.end.unsent) → Begins o (out ++ a.lines.items)
    → GaveFront cfg input before now
front-broken cfg before now a read wire out left input w o b is wired outed of_wire of_out =
    let is_answer = broken-answer cfg a read wire out left input b is in
    record {
      wire = w;
      out = o;
      wire_gained = wired;
      out_gained = outed;
      wire_begins = λ answer x. subst (λ (l : Answer). Begins w l.wire) (one_answer cfg input _ answer is_answer x) of_wire;
      out_begins = λ answer x. subst (λ (l : Answer). Begins o l.out) (one_answer cfg input _ answer is_answer x) of_out;
    }

-- what a call that failed took of the bytes to push
begins-taken : (wire unsent : List ℕ) (n : ℕ) → Begins (wire ++ take n unsent) (wire ++ unsent)
begins-taken wire unsent n = record { rest = drop n unsent; joins = sym (append_assoc wire (take n unsent) (drop n unsent) ∙ ap (λ (l : List ℕ). wire ++ l) (take-append-drop n unsent)) }

-- ---- the goals of a round

-- nothing was pushed since the last round
pub kept-front : (cfg : EndConfig) (before now : Content) (a : Acceptor) → Talks cfg before now a → (after : Content) → after.wire ≡ now.wire → after.out ≡ now.out
    → (input : List ℕ) → before.input ≡ Some input → GaveFront cfg input before after
kept-front cfg before now a talks after same_wire same_out input e =
    let t = told before.input now.input talks.read input talks.consumed e in
    front-stands cfg before after a talks.read talks.wire talks.out t.0 input talks.wire talks.out talks.stands t.1
    (subst (λ (w : Option (List ℕ)). Appends before.wire w talks.wire) (sym same_wire) talks.wire_gained) (subst (λ (w : Option (List ℕ)). Appends before.out w talks.out) (sym same_out) talks.out_gained)
    (Begins-more talks.wire a.end.unsent) (Begins-more talks.out a.lines.items)

-- a push failed in the middle
pub cut-front : (cfg : EndConfig) (before now after : Content) (a : Acceptor) (read wire out : List ℕ) (step : Step) → AnsweredAll cfg read wire out a step
    → Consumes before.input now.input read → Appends before.wire now.wire wire → Appends before.out now.out out
    → TakesFront now.wire after.wire a.end.unsent → TakesFront now.out after.out a.lines.items
    → (input : List ℕ) → before.input ≡ Some input → GaveFront cfg input before after
cut-front cfg before now after a read wire out steps.Answered all consumed wired outed w o input e =
    let t = told before.input now.input read input consumed e in
    front-stands cfg before after a read wire out t.0 input _ _ all t.1 (Appends-trans _ _ _ _ _ wired w.appended) (Appends-trans _ _ _ _ _ outed o.appended) (begins-taken wire a.end.unsent w.count) (begins-taken out a.lines.items o.count)
cut-front cfg before now after a read wire out steps.Waits all consumed wired outed w o input e =
    let t = told before.input now.input read input consumed e in
    front-stands cfg before after a read wire out t.0 input _ _ all t.1 (Appends-trans _ _ _ _ _ wired w.appended) (Appends-trans _ _ _ _ _ outed o.appended) (begins-taken wire a.end.unsent w.count) (begins-taken out a.lines.items o.count)
cut-front cfg before now after a read wire out steps.Ended all consumed wired outed w o input e =
    let t = told before.input now.input read input consumed e in
    front-stands cfg before after a read wire out t.0 input _ _ all t.1 (Appends-trans _ _ _ _ _ wired w.appended) (Appends-trans _ _ _ _ _ outed o.appended) (begins-taken wire a.end.unsent w.count) (begins-taken out a.lines.items o.count)
cut-front cfg before now after a read wire out steps.Broken all consumed wired outed w o input e =
    let t = told before.input now.input read input consumed e in
    front-broken cfg before after a read wire out t.0 input _ _ all t.1 (Appends-trans _ _ _ _ _ wired w.appended) (Appends-trans _ _ _ _ _ outed o.appended) (begins-taken wire a.end.unsent w.count) (begins-taken out a.lines.items o.count)

-- the input has ended
pub after-finish : (cfg : EndConfig) (before now after : Content) (a b : Acceptor) → Talks cfg before now a → a.end.ending ≡ None → first_of a.framer.held ≡ rest → a.end.unsent ≡ [] → a.lines.items ≡ []
    → Consumes now.input after.input [] → IsAtEnd after.input → after.wire ≡ now.wire → after.out ≡ now.out
    → AfterRound cfg before after b (round_of (status_at_rest a.place a.framer.held))
after-finish cfg before now after a b talks going first unsent lines consumed end same_wire same_out =
    after-whole cfg before after b _ (final-status_at_rest a.place a.framer.held) (λ input e.
    let t = told before.input after.input (talks.read ++ []) input (Consumes-trans _ _ _ _ _ talks.consumed consumed) e in
    let whole : input ≡ talks.read = t.1 ∙ ap (λ (l : List ℕ). talks.read ++ [] ++ l) (at_end after.input t.0 end t.2) ∙ append-nil (talks.read ++ []) ∙ append-nil talks.read in
    let wired : Appends before.wire after.wire (talks.wire ++ a.end.unsent) = rw (unsent, append-nil talks.wire, same_wire) talks.wire_gained in
    let outed : Appends before.out after.out (talks.out ++ a.lines.items) = rw (lines, append-nil talks.out, same_out) talks.out_gained in
    whole-rest cfg before after a talks.read talks.wire talks.out input talks.stands whole going first wired outed)

-- all was pushed
stands-emptied : (cfg : EndConfig) (read wire out : List ℕ) (a b : Acceptor) → Stands cfg read wire out a → IsEmptied a b → Stands cfg read (wire ++ a.end.unsent) (out ++ a.lines.items) b
stands-emptied cfg read wire out a b stands emptied = record {
  received = stands.received;
  joins = rw emptied.framer stands.joins;
  each = stands.each;
  classified = stands.classified;
  config = ap (λ (s : State). s.config) emptied.end ∙ stands.config;
  most = ap (λ (s : State). s.most) emptied.end ∙ stands.most;
  stage = rw (emptied.end, emptied.place, emptied.lines, append-nil (wire ++ a.end.unsent), append-nil (out ++ a.lines.items)) stands.stage;
}

-- and the connection goes on
pub talks-on : (cfg : EndConfig) (before now after : Content) (a b : Acceptor) (read wire out : List ℕ) → Stands cfg read wire out a
    → Consumes before.input after.input read → Appends before.wire now.wire wire → Appends before.out now.out out
    → Appends now.wire after.wire a.end.unsent → Appends now.out after.out a.lines.items → IsEmptied a b
    → Talks cfg before after b
talks-on cfg before now after a b read wire out stands consumed wired outed w o emptied = record {
  read = read;
  wire = wire ++ a.end.unsent;
  out = out ++ a.lines.items;
  stands = stands-emptied cfg read wire out a b stands emptied;
  consumed = consumed;
  wire_gained = Appends-trans _ _ _ _ _ wired w;
  out_gained = Appends-trans _ _ _ _ _ outed o;
}

-- and the connection has ended
abbrev pub IsLast : Step → Type 0
IsLast steps.Answered = ⊥
IsLast steps.Waits = ⊥
IsLast steps.Broken = Unit {0}
IsLast steps.Ended = Unit {0}

pub last_of : (step : Step) → (step ≡ steps.Broken) ⊎ (step ≡ steps.Ended) → IsLast step
last_of step (inl is) = rw is tt
last_of step (inr is) = rw is tt

pub after-end : (cfg : EndConfig) (before now after : Content) (a b : Acceptor) (read wire out : List ℕ) (step : Step) → IsLast step → AnsweredAll cfg read wire out a step → Halts step a
    → Consumes before.input after.input read → Appends before.wire now.wire wire → Appends before.out now.out out
    → Appends now.wire after.wire a.end.unsent → Appends now.out after.out a.lines.items
    → AfterRound cfg before after b (round_of (status_after a.place a.end.ending))
after-end cfg before now after a b read wire out steps.Answered last all halts consumed wired outed w o = absurd last
after-end cfg before now after a b read wire out steps.Waits last all halts consumed wired outed w o = absurd last
after-end cfg before now after a b read wire out steps.Ended last all halts consumed wired outed w o =
    after-whole cfg before after b _ (final-status_after a.place a.end.ending) (λ input e.
    let t = told before.input after.input read input consumed e in
    whole-ended cfg before after a read wire out t.0 input all t.1 halts (Appends-trans _ _ _ _ _ wired w) (Appends-trans _ _ _ _ _ outed o))
after-end cfg before now after a b read wire out steps.Broken last all halts consumed wired outed w o =
    after-whole cfg before after b _ (final-status_after a.place a.end.ending) (λ input e.
    let t = told before.input after.input read input consumed e in
    whole-broken cfg before after a read wire out t.0 input all t.1 (Appends-trans _ _ _ _ _ wired w) (Appends-trans _ _ _ _ _ outed o))

-- ---- a piece is read and answered

-- bytes are added behind those that are held
pub stands-filled : (cfg : EndConfig) (read wire out bytes : List ℕ) (a b : Acceptor) → Stands cfg read wire out a → b.end ≡ a.end → b.lines.items ≡ a.lines.items → b.place ≡ a.place → b.framer.held ≡ a.framer.held ++ bytes
    → Stands cfg (read ++ bytes) wire out b
stands-filled cfg read wire out bytes a b stands end lines place held = record {
  received = stands.received;
  joins = ap (λ (l : List ℕ). l ++ bytes) stands.joins ∙ append_assoc (spelled_all (frames_in stands.received)) a.framer.held bytes ∙ ap (λ (l : List ℕ). spelled_all (frames_in stands.received) ++ l) (sym held);
  each = stands.each;
  classified = stands.classified;
  config = ap (λ (s : State). s.config) end ∙ stands.config;
  most = ap (λ (s : State). s.most) end ∙ stands.most;
  stage = rw (end, place, lines) stands.stage;
}

-- bytes that are no frame are answered
pub broke-off : (cfg : EndConfig) (read wire out : List ℕ) (a b : Acceptor) → Stands cfg read wire out a → IsBroken (first_of a.framer.held) → a.end.ending ≡ None
    → b.end ≡ after_bad_frame a.end a.place 0 → b.framer.held ≡ a.framer.held → b.lines.items ≡ a.lines.items → b.place ≡ a.place
    → BrokeOff cfg read wire out b
broke-off cfg read wire out a b stands broken going end held lines place =
    let s = stage_after cfg stands.received in
    let reply = reply_to_bad_frame (around_place cfg s.place) s.facts in
    let same : reply_to_bad_frame (around a.end a.place 0) a.end.facts ≡ reply =
    ap (λ (c : EndConfig). reply_to_bad_frame (record { config = c; most = a.end.most; at = a.place; moment = 0; held = None }) a.end.facts) stands.config
    ∙ ap (λ (m : ℕ). reply_to_bad_frame (record { config = cfg; most = m; at = a.place; moment = 0; held = None }) a.end.facts) stands.most
    ∙ ap (λ (t : Stage). reply_to_bad_frame (around_place cfg t.place) t.facts) (sym stands.stage) in
    let P : List ℕ → Type 0 = λ l. IsBroken (first_of l) in
    record {
      received = stands.received;
      joins = stands.joins ∙ ap (λ (l : List ℕ). spelled_all (frames_in stands.received) ++ l) (sym held);
      each = stands.each;
      classified = stands.classified;
      broken = subst P (sym held) broken;
      going = ap (λ (t : Stage). t.ending) stands.stage ∙ going;
      place = place ∙ sym (ap (λ (t : Stage). t.place) stands.stage);
      wire_is =
          ap (λ (e : State). wire ++ e.unsent) end ∙ ap (λ o. wire ++ (a.end.unsent ++ bytes_of o.written)) same ∙ sym (append_assoc wire a.end.unsent (bytes_of reply.written))
          ∙ ap (λ (t : Stage). t.wire ++ bytes_of reply.written) (sym stands.stage);
      out_is = ap (λ (l : List ℕ). out ++ l) lines ∙ sym (ap (λ (t : Stage). t.out) stands.stage);
      ending = ap (λ (e : State). e.ending) end ∙ ap (λ o. o.ending) same;
    }

-- a borrower leaves a room as long as it was
pub written_over-same : (room bytes : List ℕ) → length bytes ≡ length room → written_over room bytes ≡ bytes
written_over-same room bytes e = rw (eq-eqb (length bytes) (length room) e) refl

-- where less than a frame is held there is room
pub room_left : (held : List ℕ) (room : ℕ) → first_of held ≡ rest → room + length held ≡ 32780 → 0 < room
room_left held room waits whole = grind (arith, common_steps)

-- ---- before the outputs are begun

-- there was no memory
pub unmade : (cfg : EndConfig) (before after : Content) → after.wire ≡ before.wire → after.out ≡ before.out → KeepsPromise cfg before after Memory
unmade cfg before after wire out = λ input e. record {
  wire = [];
  out = [];
  wire_gained = rw wire (Appends-nil before.wire);
  out_gained = rw out (Appends-nil before.out);
  wire_begins = λ answer is. record { rest = answer.wire; joins = refl };
  out_begins = λ answer is. record { rest = answer.out; joins = refl };
}

-- an acceptor that has read nothing stands at the beginning of any input
pub talks-new : (settings : Settings) (before now : Content) (a : Acceptor) → IsNew (acceptor_of settings) a → now.input ≡ before.input → Appends before.wire now.wire [] → Appends before.out now.out [] → Talks (acceptor_of settings) before now a
talks-new settings before now a new same wire out = record {
  read = [];
  wire = [];
  out = [];
  stands = record {
    received = [];
    joins = sym new.held;
    each = tt;
    classified = tt;
    config = ap (λ (s : State). s.config) new.end;
    most = ap (λ (s : State). s.most) new.end;
    stage = rw (new.end, new.lines, new.place) refl;
  };
  consumed = rw same (Consumes-nil before.input);
  wire_gained = wire;
  out_gained = out;
}
