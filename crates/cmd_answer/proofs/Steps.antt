-- One more frame is answered.
use Rattle.std.proofs.Common.{◌≡◌, ℕ, List, [], ◌∷◌, ◌++◌, map, drop, Vec, Global, Option, Some, None, false, refl, sym, ap, subst, ◌∙◌, append_assoc, true≢false}
use Rattle.std.specs.Prelude.{is_some, IfSome, if◌then◌else◌}
use Rattle.std.specs.List.{AllByRecursion}
use Rattle.std.proofs.lemmas.List.{map-append}
use Rattle.std.proofs.lemmas.List.Sums.{fold-append}
use Rattle.sofh_frame.specs.Framing.{Frame, IsFrame, spelled, BeginsWith}
use Rattle.sofh_frame.specs.Splits.{spelled_all}
use Rattle.sofh_frame.specs.Buffered.{Buffered}
use Rattle.sofh_frame.proofs.SplitLemmas.{spelled_all-push, AllByRecursion-push}
use Rattle.fixp_shake.specs.declared.config.EndConfig.{EndConfig}
use Rattle.fixp_shake.specs.Flows.{is_recoverable}
use Rattle.fixp_replies.specs.declared.facts.Facts.{Facts}
use Rattle.fixp_replies.specs.Facts.{Around}
use Rattle.fixp_replies.specs.Incoming.{Incoming}
use Rattle.fixp_replies.specs.Outcomes.{Outcome}
use Rattle.fixp_replies.specs.Replies.{reply_of}
use Rattle.fixp_machine.specs.Machine.{State, around, bytes_of}
use Rattle.fixp_machine.specs.Sound.{MayHold}
use Rattle.fixp_machine.proofs.Holding.{holding_goes_on}
use Rattle.cmd_answer.specs.declared.acceptor.Acceptor.{Acceptor}
use Rattle.cmd_answer.specs.Lines.{line_of}
use Rattle.cmd_answer.specs.Answer.{Received, IsClassified, Stage, next_place, answered, next_stage, first_stage, stage_after, around_place}
use Rattle.cmd_answer.specs.Progress.{AnswersOne, Stands}

-- no message is held of a flow that is not recoverable
pub plain_holds : (x : Around) (f : Facts) (i : Incoming) → is_recoverable x.config.peer_flow ≡ false → (reply_of x f i).holds ≡ None
plain_holds x f i other = by_number (reply_of x f i).holds (holding_goes_on x f i (λ t. absurd (true≢false (sym t ∙ other)))).holds
  where
    by_number : (h : Option ℕ) → IfSome h (λ n. MayHold x.config x.most f (reply_of x f i) n) → h ≡ None
    by_number None m = refl
    by_number (Some n) m = absurd (true≢false (sym m.flow ∙ other))

-- one more frame at the end
pub stage_after-push : (cfg : EndConfig) (received : List Received) (h : Received) → stage_after cfg (received ++ h ∷ []) ≡ next_stage cfg (stage_after cfg received) h
stage_after-push cfg received h = fold-append (next_stage cfg) first_stage received (h ∷ [])

-- where the connection goes on, the next frame is answered by the table
pub next_stage-going : (cfg : EndConfig) (s : Stage) (h : Received) → s.ending ≡ None → next_stage cfg s h ≡ answered s h (reply_of (around_place cfg s.place) s.facts h.incoming)
next_stage-going cfg s h going = rw going refl

-- the stage that an acceptor stands for, with the bytes pushed so far
abbrev pub stage_of : List ℕ → List ℕ → Acceptor → Stage
stage_of wire out a = record { place = a.place; facts = a.end.facts; wire = wire ++ a.end.unsent; out = out ++ a.lines.items; ending = a.end.ending }

pub answered-stage : (wire out : List ℕ) (old : Acceptor) (h : Received) (o : Outcome) (new : Acceptor)
    → new.place ≡ (if is_some o.ending then old.place else next_place old.place h.frame) → new.end.facts ≡ o.next → new.end.ending ≡ o.ending
    → new.end.unsent ≡ old.end.unsent ++ bytes_of o.written → new.lines.items ≡ old.lines.items ++ line_of o.act h.frame
    → answered (stage_of wire out old) h o ≡ stage_of wire out new
answered-stage wire out old h o new place facts ending unsent lines =
    rw (place, facts, ending, unsent, lines, ← append_assoc wire old.end.unsent (bytes_of o.written), ← append_assoc out old.lines.items (line_of o.act h.frame)) refl

-- the acceptor stands as before, with one frame more
pub stands-frame : (cfg : EndConfig) (read wire out : List ℕ) (old : Acceptor) (end : State) (framer : Buffered) (lines : Vec ℕ Global) (place : ℕ) (f : Frame) (size : ℕ)
    → AnswersOne old.end end old.lines.items lines.items f old.place
    → BeginsWith old.framer.held f size → framer.held ≡ drop size old.framer.held
    → old.end.ending ≡ None → place ≡ (if is_some end.ending then old.place else next_place old.place f)
    → Stands cfg read wire out old → Stands cfg read wire out (record { end = end; framer = framer; lines = lines; place = place })
stands-frame cfg read wire out old end framer lines place f size one begins held going placed stands =
    let h : Received = record { frame = f; incoming = one.incoming } in
    let frames = map (λ (x : Received). x.frame) stands.received in
    let o : Outcome = reply_of (around old.end old.place 0) old.end.facts one.incoming in
    let new : Acceptor = record { end = end; framer = framer; lines = lines; place = place } in
    let mapped : map (λ (x : Received). x.frame) (stands.received ++ h ∷ []) ≡ frames ++ f ∷ [] = map-append (λ (x : Received). x.frame) stands.received (h ∷ []) in
    let P : List Frame → Type 0 = AllByRecursion IsFrame in
    let ended : end.ending ≡ o.ending = ap (λ (s : State). s.ending) one.state in
    let going_on : stage_after cfg stands.received ≡ stage_of wire out old = stands.stage in
    let reply : reply_of (around_place cfg old.place) old.end.facts one.incoming ≡ o = rw (stands.config, stands.most, one.unheld) refl in
    record {
      received = stands.received ++ h ∷ [];
      joins =
          stands.joins ∙ ap (λ (xs : List ℕ). spelled_all frames ++ xs) (begins.spells ∙ ap (λ (xs : List ℕ). spelled f ++ xs) (sym held))
          ∙ sym (append_assoc (spelled_all frames) (spelled f) framer.held)
          ∙ ap (λ (xs : List ℕ). xs ++ framer.held) (sym (ap spelled_all mapped ∙ spelled_all-push frames f));
      each = subst P (sym mapped) (AllByRecursion-push IsFrame frames f stands.each begins.admissible);
      classified = AllByRecursion-push IsClassified stands.received h stands.classified one.is;
      config = ap (λ (s : State). s.config) one.state ∙ stands.config;
      most = ap (λ (s : State). s.most) one.state ∙ stands.most;
      stage =
          stage_after-push cfg stands.received h
          ∙ ap (λ (s : Stage). next_stage cfg s h) going_on
          ∙ next_stage-going cfg (stage_of wire out old) h going
          ∙ ap (answered (stage_of wire out old) h) reply
          ∙ answered-stage wire out old h o new (placed ∙ ap (λ (e : Option _). if is_some e then old.place else next_place old.place f) ended) (ap (λ (s : State). s.facts) one.state) ended (ap (λ (s : State). s.unsent) one.state) one.line;
    }
