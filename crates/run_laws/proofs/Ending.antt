-- What a life answers where no call of a device failed.
use Rattle.std.proofs.Common.{◌≡◌, ⊎_elim, ℕ, Bool, true, false, All, Contains, List, Option, Some, None, IfSome, Result, Ok, Err, refl, sym, ap, subst, ◌∙◌}
use Rattle.std.specs.Prelude.{⊤}
use Rattle.std.proofs.lemmas.Option.{same_Some}
use Rattle.std.proofs.lemmas.List.Elements.{All-contains, Contains-push_cases}
use Rattle.session_model.specs.Journal.{History}
use Rattle.fixp_replies.specs.declared.act.Ending.TheVariants as endings
use Rattle.fixp_machine.specs.Machine.{State}
use Rattle.gw_links.specs.Dialers.{DialerTold}
use Rattle.conn_lines.specs.declared.close.Close.{Close}
use Rattle.conn_lines.specs.declared.close.Close.TheVariants as closes
use Rattle.jr_boxes.specs.declared.faults.Which.TheVariants as boxes
use Rattle.cmd_base.specs.declared.status.Status.TheVariants.{Full}
use Rattle.conn_door.specs.declared.answer.ServeFault.{ServeFault}
use Rattle.conn_door.specs.declared.answer.ServeFault.TheVariants as faults
use Rattle.conn_door.specs.declared.answer.LifeEnd.{LifeEnd}
use Rattle.conn_door.specs.declared.answer.LifeEnd.TheVariants as ends
use Rattle.conn_door.specs.Answers.{answer_of, IsOfSender, IsUnrefused}
use Rattle.conn_serve.specs.Answering.{IsOfBusiness, IsRefusal}
use Rattle.conn_serve.specs.Connections.{Connection, Follows, IsFollowed}
use Rattle.conn_serve.specs.Served.{EndsWith, IsLifeAnswer}
use Rattle.cmd_session.specs.Lived.{status_of}
use Rattle.run_laws.specs.Completeness.{OneFinished, EndsAs, IsBehindFinish, IsOfConnections}

-- the faults that blame a device, or a record that has changed
abbrev pub IsOfDevice : ServeFault → Type 0
IsOfDevice faults.Output = ⊤
IsOfDevice faults.Journal = ⊤
IsOfDevice (faults.Changed which at) = ⊤
IsOfDevice faults.Dial = ⊤
IsOfDevice _ = ⊥

-- no device is to blame for this answer
abbrev pub BlamesNone : Result (Unit {0}) ServeFault → Type 0
BlamesNone result = (x : ServeFault) → IsOfDevice x → result ≡ Err x → ⊥

-- where each connection was followed by the next, none ended as Finished
none_finished : (ended : List Connection) → All IsFollowed ended → OneFinished ended → ⊥
none_finished ended all one = subst (λ (o : Option Close). IfSome o Follows) one.finished (All-contains IsFollowed ended one.connection all one.among)

-- where the last ended otherwise, none did
last_finished : (close : Close) (ended : List Connection) → EndsWith close ended → OneFinished ended → close ≡ closes.Ended endings.Finished
last_finished close ended e one = ⊎_elim
    (λ earlier. absurd (none_finished e.earlier e.followed (record { connection = one.connection; among = earlier; finished = one.finished })))
    (λ same. same_Some close (closes.Ended endings.Finished) (sym e.closed ∙ (ap (λ (c : Connection). c.close) same ∙ one.finished)))
    (Contains-push_cases e.earlier e.last one.connection (subst (λ (cs : List Connection). Contains cs one.connection) e.are one.among))

not_rejected : (template code : ℕ) (ended : List Connection) → EndsWith (closes.Ended (endings.Rejected template code)) ended → OneFinished ended → ⊥
not_rejected template code ended e one = let same : closes.Ended (endings.Rejected template code) ≡ closes.Ended endings.Finished = last_finished _ ended e one in cc

-- a refusal of those who send is one of a business
sender_of : (x : ServeFault) → IsOfSender x → IsOfBusiness x
sender_of faults.Journal of = tt
sender_of (faults.Full entries bytes) of = tt
sender_of faults.Memory of = tt
sender_of _ of = absurd of

pub of_business : (looks : Bool) (refused : Option ServeFault) → IfSome refused (IsRefusal looks) → IfSome refused IsOfBusiness
of_business looks None of = tt
of_business true (Some x) of = of
of_business false (Some x) of = sender_of x of

-- a failed dialer is the answer, or the failed journal that comes before it
dial_blames : (x : ServeFault) → IsOfBusiness x → BlamesNone (answer_of (Err faults.Dial) (Some x)) → ⊥
dial_blames faults.Journal of none = none faults.Journal tt refl
dial_blames (faults.Changed boxes.Inbox at) of none = none faults.Dial tt refl
dial_blames (faults.Full entries bytes) of none = none faults.Dial tt refl
dial_blames faults.Memory of none = none faults.Dial tt refl
dial_blames _ of none = of

module _ (behind seen : History) (m : State) (later : Option DialerTold) (ended : List Connection) (given_up : Option Connection) where
  -- a refusal of a business that blames no device is a limit, or want of memory
  refusal_ends : (x : ServeFault) → IsOfBusiness x → BlamesNone (Err x) → EndsAs behind seen m later ended given_up (status_of (Err x))
  refusal_ends faults.Journal of none = absurd (none faults.Journal tt refl)
  refusal_ends (faults.Changed boxes.Inbox at) of none = absurd (none (faults.Changed boxes.Inbox at) tt refl)
  refusal_ends (faults.Full entries bytes) of none = tt
  refusal_ends faults.Memory of none = tt
  refusal_ends _ of none = absurd of

  pub ends_as : (connections : Result LifeEnd ServeFault) (refused : Option ServeFault) → IfSome refused IsOfBusiness → BlamesNone (answer_of connections refused) → IsLifeAnswer behind seen m later ended given_up connections
      → EndsAs behind seen m later ended given_up (status_of (answer_of connections refused))
  ends_as (Ok ends.Finished) None of none answer = answer
  ends_as (Ok ends.Finished) (Some x) of none answer = refusal_ends x of none
  ends_as (Ok ends.Stopped) None of none answer = tt
  ends_as (Ok ends.Stopped) (Some x) of none answer = refusal_ends x of none
  ends_as (Err faults.Output) None of none answer = absurd (none faults.Output tt refl)
  ends_as (Err faults.Output) (Some x) of none answer = absurd (none faults.Output tt refl)
  ends_as (Err faults.Journal) None of none answer = absurd (none faults.Journal tt refl)
  ends_as (Err faults.Journal) (Some x) of none answer = absurd (none faults.Journal tt refl)
  ends_as (Err (faults.Changed which at)) None of none answer = absurd (none (faults.Changed which at) tt refl)
  ends_as (Err (faults.Changed which at)) (Some x) of none answer = absurd (none (faults.Changed which at) tt refl)
  ends_as (Err faults.Dial) None of none answer = absurd (none faults.Dial tt refl)
  ends_as (Err faults.Dial) (Some x) of none answer = absurd (dial_blames x of none)
  ends_as (Err (faults.Unfinished phase)) None of none answer = answer
  ends_as (Err (faults.Unfinished phase)) (Some x) of none answer = refusal_ends x of none
  ends_as (Err (faults.Rejected template code)) None of none answer = answer
  ends_as (Err (faults.Rejected template code)) (Some x) of none answer = refusal_ends x of none
  ends_as (Err (faults.Full entries bytes)) None of none answer = tt
  ends_as (Err (faults.Full entries bytes)) (Some x) of none answer = tt
  ends_as (Err faults.Turns) None of none answer = answer
  ends_as (Err faults.Turns) (Some x) of none answer = refusal_ends x of none
  ends_as (Err faults.Memory) None of none answer = tt
  ends_as (Err faults.Memory) (Some x) of none answer = tt

  refusal_finishes : (x : ServeFault) → IsOfBusiness x → BlamesNone (Err x) → IsBehindFinish (Some x) (status_of (Err x))
  refusal_finishes faults.Journal of none = absurd (none faults.Journal tt refl)
  refusal_finishes (faults.Changed boxes.Inbox at) of none = absurd (none (faults.Changed boxes.Inbox at) tt refl)
  refusal_finishes (faults.Full entries bytes) of none = refl
  refusal_finishes faults.Memory of none = tt
  refusal_finishes _ of none = absurd of

  pub behind_finish : (connections : Result LifeEnd ServeFault) (refused : Option ServeFault) → IfSome refused IsOfBusiness → BlamesNone (answer_of connections refused) → IsLifeAnswer behind seen m later ended given_up connections
      → OneFinished ended → IsBehindFinish refused (status_of (answer_of connections refused))
  behind_finish (Ok ends.Finished) None of none answer one = tt
  behind_finish (Ok ends.Finished) (Some x) of none answer one = refusal_finishes x of none
  behind_finish (Ok ends.Stopped) None of none answer one = tt
  behind_finish (Ok ends.Stopped) (Some x) of none answer one = refusal_finishes x of none
  behind_finish (Err faults.Output) None of none answer one = absurd (none faults.Output tt refl)
  behind_finish (Err faults.Output) (Some x) of none answer one = absurd (none faults.Output tt refl)
  behind_finish (Err faults.Journal) refused of none answer one = absurd (none_finished ended answer.0 one)
  behind_finish (Err (faults.Changed which at)) refused of none answer one = absurd (none_finished ended answer.0 one)
  behind_finish (Err faults.Dial) refused of none answer one = absurd (none_finished ended answer.0 one)
  behind_finish (Err (faults.Unfinished phase)) refused of none answer one = absurd (none_finished ended answer.0 one)
  behind_finish (Err (faults.Rejected template code)) refused of none answer one = absurd (not_rejected template code ended answer.1 one)
  behind_finish (Err (faults.Full entries bytes)) refused of none answer one = absurd (none_finished ended answer.0 one)
  behind_finish (Err faults.Turns) refused of none answer one = absurd (none_finished ended answer.0 one)
  behind_finish (Err faults.Memory) None of none answer one = tt
  behind_finish (Err faults.Memory) (Some x) of none answer one = tt

-- a status that comes of the connections alone is one behind which the mark stands
pub unrefused : (result : Result (Unit {0}) ServeFault) → IsOfConnections (status_of result) → IsUnrefused result
unrefused (Ok done) of = tt
unrefused (Err faults.Output) of = absurd of
unrefused (Err faults.Journal) of = absurd of
unrefused (Err (faults.Changed which at)) of = absurd of
unrefused (Err faults.Dial) of = absurd of
unrefused (Err (faults.Unfinished phase)) of = refl
unrefused (Err (faults.Rejected template code)) of = refl
unrefused (Err (faults.Full entries bytes)) of = absurd of
unrefused (Err faults.Turns) of = refl
unrefused (Err faults.Memory) of = absurd of

-- the status Full is that of the answer Full
pub full_is : (result : Result (Unit {0}) ServeFault) (entries bytes : ℕ) → status_of result ≡ Full entries bytes → result ≡ Err (faults.Full entries bytes)
full_is (Ok done) entries bytes e = cc
full_is (Err faults.Output) entries bytes e = cc
full_is (Err faults.Journal) entries bytes e = cc
full_is (Err (faults.Changed which at)) entries bytes e = cc
full_is (Err faults.Dial) entries bytes e = cc
full_is (Err (faults.Unfinished phase)) entries bytes e = cc
full_is (Err (faults.Rejected template code)) entries bytes e = cc
full_is (Err (faults.Full n k)) entries bytes e =
    let first : n ≡ entries = cc in
    let second : k ≡ bytes = cc in
    ap (λ (x : ℕ). Err (faults.Full x k)) first ∙ ap (λ (x : ℕ). Err (faults.Full entries x)) second
full_is (Err faults.Turns) entries bytes e = cc
full_is (Err faults.Memory) entries bytes e = cc
