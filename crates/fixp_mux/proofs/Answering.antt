-- What a pump answers, by what was written and read.
use Rattle.std.proofs.Common.{◌≡◌, ◌≢◌, ◌⊎◌, ⊎_elim, inl, inr, ℕ, ◌<◌, Bool, true, false, List, [], ◌++◌, length, take, Option, Some, None, Result, Ok, Err, refl, sym, ◌∙◌, ap, subst, arith, append-nil}
use Rattle.sofh_frame.specs.Framing.{Frame, First, rest, first_of}
use Rattle.gw_links.specs.Links.{Carried, LinkTold, Moved, Steps}
use Rattle.gw_links.proofs.Moving.{moved_more}
use Rattle.fixp_mux.specs.Context.{carries, says}
use Rattle.fixp_mux.specs.Giving.{GaveOne, IsFull}
use Rattle.fixp_mux.specs.Pumping.{Begins, DidPump, GaveAll, HasGone, IsAnswered, IsAtEnd, IsBlocked, IsDone, IsFault, IsLinkFull, IsLinkOver, IsLinkQuiet, IsOver, WroteAll, ends}
use Rattle.fixp_mux.specs.State.{State, Fed, Pumps}
use Rattle.fixp_mux.specs.Stepping.{FailedToRead, FailedToWrite, HasStopped, IsChosen, IsStill, IsReadIn, IsWritten, ReadIn, WroteSome, during, state_of}
use Rattle.fixp_mux.specs.declared.pump.MuxFault.{MuxFault}
use Rattle.fixp_mux.specs.declared.pump.MuxFault.TheVariants.{NoContext, OtherSession, BadFrame, LinkFault}
use Rattle.fixp_mux.specs.declared.pump.Pumped.{Pumped}
use Rattle.fixp_mux.specs.declared.pump.Pumped.TheVariants.{Went, Quiet, End}
use Rattle.fixp_mux.specs.declared.reading.Stop.{Stop}
use Rattle.fixp_mux.specs.declared.reading.Stop.TheVariants.{Waits, Full}
use Rattle.fixp_mux.specs.declared.receiving.Read.{Read}
use Rattle.fixp_mux.specs.declared.router.Router.{Router}
use Rattle.fixp_mux.specs.declared.writing.Wrote.{Wrote}
use Rattle.fixp_mux.proofs.Apart.{fed_before}
use Rattle.fixp_mux.proofs.Doing.{Does, does_bytes, does_more}

-- a router whose transport has ended or not, else the same
abbrev pub marked : State → Bool → State
marked m ended = record m { has_ended = ended }

-- frames were written, and then others read
pub record Both (t t' : Option LinkTold) (c c' : Option Carried) (x z : State) (came : List ℕ) (count : ℕ) (gave_one : Bool) : Type 0 where
  pub given : List Frame
  pub begun : List Frame
  pub sent : List ℕ
  pub does : Does x z given begun came sent gave_one
  pub moved : Moved t t' c c' came (sent ++ take 0 z.unsent)
  pub over : IsOver t' x z
  pub some_sent : 0 < count → 0 < length sent
  pub none_sent : count ≡ 0 → sent ≡ []

over_behind : (t : Option LinkTold) (x y z : State) → y.is_over ≡ x.is_over → IsOver t y z → IsOver t x z
over_behind t x y z same over = record {
  stays = λ e. over.stays (same ∙ e);
  only = λ e. subst (λ (b : Bool). (b ≡ true) ⊎ IsLinkOver t) same (over.only e);
}

pub both : (a b d : Option LinkTold) (p q r : Option Carried) (x y z : State) (count : ℕ) (gave_one : Bool) → WroteSome a b p q x y count → (k : ReadIn b d q r y z gave_one) → Both a d p r x z k.came count gave_one
both a b d p q r x y z count gave_one w k =
    let does : Does x z k.given (w.out.begun ++ []) k.came (w.out.sent ++ []) gave_one =
    does_more x y z [] k.given w.out.begun [] [] k.came w.out.sent [] false gave_one (does_bytes x y w.out.begun [] w.out.sent w.out.pumps) (record { pumps = k.pumps; gave = k.gave; none = k.none }) in
    let moved : Moved a d p r k.came ((w.out.sent ++ []) ++ []) = moved_more a b d p q r [] (w.out.sent ++ []) k.came [] w.out.moved k.moved in
    record {
      given = k.given;
      begun = w.out.begun ++ [];
      sent = w.out.sent ++ [];
      does = does;
      moved = moved;
      over = over_behind d x y z w.out.over k.over;
      some_sent = λ e. subst (λ (l : List ℕ). 0 < length l) (sym (append-nil w.out.sent)) (w.some e);
      none_sent = λ e. append-nil w.out.sent ∙ w.none e;
    }

-- what was to write stays so while frames are read
unsent_same : (y z : State) (g : List Frame) (came : List ℕ) → Pumps y z g [] came [] → z.unsent ≡ y.unsent
unsent_same y z g came pumps = pumps.writes ∙ append-nil y.unsent

pub wrote_still : (y z : State) (g : List Frame) (came : List ℕ) → Pumps y z g [] came [] → WroteAll y → WroteAll z
wrote_still y z g came pumps wrote = record {
  unsent = unsent_same y z g came pumps ∙ wrote.unsent;
  sessions = λ place s stands ready.
      let found = fed_before (Fed y.named y.writing g []) y.sessions z.sessions place s pumps.sessions stands in
      wrote.sessions place found.session found.stands (subst (λ (l : List ℕ). Begins (first_of l) (λ f. says f ≡ carries)) (sym found.was.output) ready);
}

full_told : (t t' : Option LinkTold) (came : List ℕ) → Steps t t' came [] → IsLinkFull t → IsLinkFull t'
full_told None None came steps full = full
full_told None (Some u) came steps full = absurd steps
full_told (Some t) None came steps full = absurd steps
full_told (Some t) (Some u) came steps full = omega (arith, steps.fitted, full)

pub full_still : (t t' : Option LinkTold) (c c' : Option Carried) (came : List ℕ) → Moved t t' c c' came [] → IsLinkFull t → IsLinkFull t'
full_still t t' c c' came moved full = full_told t t' came moved.tells full

-- something happened exactly where one of the three did
nothing_long : (l : List ℕ) → l ≡ [] → 0 < length l → ⊥
nothing_long l e long = omega (arith, ap length e, long)

pub gone_came : (x : State) (given : List Frame) (came sent : List ℕ) → 0 < length came → HasGone x given came sent
gone_came x given came sent long = inl long

pub gone_sent : (x : State) (given : List Frame) (came sent : List ℕ) → 0 < length sent → HasGone x given came sent
gone_sent x given came sent long = inr (inl long)

pub gone_gave : (x : State) (given : List Frame) (came sent : List ℕ) → GaveOne x.sessions x.named given → HasGone x given came sent
gone_gave x given came sent gave = inr (inr gave)

pub gone_none : (x : State) (given : List Frame) (came sent : List ℕ) → came ≡ [] → sent ≡ [] → (GaveOne x.sessions x.named given → ⊥) → HasGone x given came sent → ⊥
gone_none x given came sent no_bytes no_sent no_frame gone =
    ⊎_elim (λ (l : 0 < length came). nothing_long came no_bytes l)
    (λ (other : (0 < length sent) ⊎ GaveOne x.sessions x.named given). ⊎_elim (λ (l : 0 < length sent). nothing_long sent no_sent l) (λ (gave : GaveOne x.sessions x.named given). no_frame gave) other)
    gone

-- what is left behind a pump that did not fail
stopped_all : (stop : Stop) (z : State) → HasStopped stop z → GaveAll z
stopped_all Waits z stopped = inl stopped
stopped_all Full z stopped = inr stopped

done : (a b d : Option LinkTold) (p q r : Option Carried) (x y z : State) (wrote : Wrote) (read : Read) → (w : IsWritten a b p q x y wrote) → (k : IsReadIn b d q r y z read) → IsDone d z k.did.came
done a b d p q r x y z wrote read w k = record {
  gave = stopped_all read.stop z k.stopped;
  wrote = by_all wrote.is_all refl;
  read = by_came read.came refl;
}
  where
    by_came : (came : Bool) → read.came ≡ came → k.did.came ≡ [] → IsLinkQuiet d ⊎ ((z.is_over ≡ true) ⊎ IsBlocked z)
    by_came true e none = absurd (nothing_long k.did.came none (k.some_came e))
    by_came false e none = k.why e

    by_all : (all : Bool) → wrote.is_all ≡ all → WroteAll z ⊎ IsLinkFull d
    by_all true e = inl (wrote_still y z k.did.given k.did.came k.did.pumps (w.all e))
    by_all false e = inr (full_still b d q r k.did.came k.did.moved (w.full e))

-- the mark of the transport's end changes nothing else
pumps_marked : (x z : State) (e : Bool) (g b : List Frame) (came sent : List ℕ) → Pumps x z g b came sent → Pumps x (marked z e) g b came sent
pumps_marked x z e g b came sent p = record {
  sessions = p.sessions;
  named = p.named;
  writing = p.writing;
  reads = p.reads;
  writes = p.writes;
  at = p.at;
  well = p.well;
  known = p.known;
  tight = p.tight;
}

over_marked : (t : Option LinkTold) (x z : State) (e : Bool) → IsOver t x z → IsOver t x (marked z e)
over_marked t x z e o = record { stays = o.stays; only = o.only }

wrote_marked : (z : State) (e : Bool) → WroteAll z → WroteAll (marked z e)
wrote_marked z e w = record { unsent = w.unsent; sessions = w.sessions }

wrote_unmarked : (z : State) (e : Bool) → WroteAll (marked z e) → WroteAll z
wrote_unmarked z e w = record { unsent = w.unsent; sessions = w.sessions }

done_marked : (t : Option LinkTold) (z : State) (e : Bool) (came : List ℕ) → IsDone t z came → IsDone t (marked z e) came
done_marked t z e came d = record {
  gave = d.gave;
  wrote = ⊎_elim (λ (w : WroteAll z). inl (wrote_marked z e w)) (λ (f : IsLinkFull t). inr f) d.wrote;
  read = d.read;
}

end_marked : (x z : State) (e : Bool) (given : List Frame) (came sent : List ℕ) → IsAtEnd x z given came sent → IsAtEnd x (marked z e) given came sent
end_marked x z e given came sent a = record { over = a.over; gave = a.gave; wrote = wrote_marked z e a.wrote; still = a.still }

end_unmarked : (x z : State) (e : Bool) (given : List Frame) (came sent : List ℕ) → IsAtEnd x (marked z e) given came sent → IsAtEnd x z given came sent
end_unmarked x z e given came sent a = record { over = a.over; gave = a.gave; wrote = wrote_unmarked z e a.wrote; still = a.still }

answered_marked : (t : Option LinkTold) (x z : State) (e : Bool) (given : List Frame) (came sent : List ℕ) (answer : Pumped) → IsAnswered t x z given came sent (Ok answer) → IsAnswered t x (marked z e) given came sent (Ok answer)
answered_marked t x z e given came sent Went a = (a.0, done_marked t z e came a.1)
answered_marked t x z e given came sent Quiet a = (a.0, ((λ end. a.1.0 (end_unmarked x z e given came sent end)), (a.1.1.0, done_marked t z e came a.1.1.1)))
answered_marked t x z e given came sent End a = end_marked x z e given came sent a

-- the pump, from what was done and its answer
pumped : (t t' : Option LinkTold) (c c' : Option Carried) (x z : State) (came : List ℕ) (count : ℕ) (gave_one : Bool) (m : Both t t' c c' x z came count gave_one) (answer : Pumped)
    → IsAnswered t' x z m.given came m.sent (Ok answer) → DidPump t t' c c' x (marked z (ends (Ok answer))) (Ok answer)
pumped t t' c c' x z came count gave_one m answer answered = record {
  given = m.given;
  begun = m.begun;
  came = came;
  sent = m.sent;
  failing = 0;
  pumps = pumps_marked x z (ends (Ok answer)) m.given m.begun came m.sent m.does.pumps;
  moved = m.moved;
  only_failing = λ e. absurd (omega (arith, e));
  over = over_marked t' x z (ends (Ok answer)) m.over;
  ended = refl;
  answered = answered_marked t' x z (ends (Ok answer)) m.given came m.sent answer answered;
}

went : (a b d : Option LinkTold) (p q r : Option Carried) (x y z : State) (wrote : Wrote) (read : Read) → IsWritten a b p q x y wrote → IsReadIn b d q r y z read
    → (0 < wrote.sent) ⊎ ((read.came ≡ true) ⊎ (read.gave_one ≡ true)) → DidPump a d p r x (marked z false) (Ok Went)
went a b d p q r x y z wrote read w k which =
    let m = both a b d p q r x y z wrote.sent read.gave_one w.did k.did in
    let gone : HasGone x m.given k.did.came m.sent =
    ⊎_elim
    (λ (e : 0 < wrote.sent). gone_sent x m.given k.did.came m.sent (m.some_sent e))
    (λ (other : (read.came ≡ true) ⊎ (read.gave_one ≡ true)). ⊎_elim
    (λ (e : read.came ≡ true). gone_came x m.given k.did.came m.sent (k.some_came e))
    (λ (e : read.gave_one ≡ true). gone_gave x m.given k.did.came m.sent (m.does.gave e))
    other)
    which in
    pumped a d p r x z k.did.came wrote.sent read.gave_one m Went (gone, done a b d p q r x y z wrote read w k)

still_none : (a b d : Option LinkTold) (p q r : Option Carried) (x y z : State) (wrote : Wrote) (read : Read) → IsWritten a b p q x y wrote → (k : IsReadIn b d q r y z read) → IsStill wrote read
    → (m : Both a d p r x z k.did.came wrote.sent read.gave_one) → HasGone x m.given k.did.came m.sent → ⊥
still_none a b d p q r x y z wrote read w k still m = gone_none x m.given k.did.came m.sent (k.none_came still.1.0) (m.none_sent still.0) (m.does.none still.1.1)

ended : (a b d : Option LinkTold) (p q r : Option Carried) (x y z : State) (wrote : Wrote) (read : Read) → IsWritten a b p q x y wrote → IsReadIn b d q r y z read
    → IsStill wrote read → z.is_over ≡ true → wrote.is_all ≡ true → read.stop ≡ Waits → DidPump a d p r x (marked z true) (Ok End)
ended a b d p q r x y z wrote read w k still over all waits =
    let m = both a b d p q r x y z wrote.sent read.gave_one w.did k.did in
    pumped a d p r x z k.did.came wrote.sent read.gave_one m End (record {
      over = over;
      gave = subst (λ (s : Stop). HasStopped s z) waits k.stopped;
      wrote = wrote_still y z k.did.given k.did.came k.did.pumps (w.all all);
      still = still_none a b d p q r x y z wrote read w k still m;
    })

not_blocked : (z : State) → first_of z.unread ≡ rest → IsBlocked z → ⊥
not_blocked z is blocked = subst (λ (f : First). Begins f (IsFull z.sessions z.named)) is blocked

wrote_before : (y z : State) (g : List Frame) (came : List ℕ) → Pumps y z g [] came [] → y.unsent ≢ [] → WroteAll z → ⊥
wrote_before y z g came pumps left wrote = left (sym (unsent_same y z g came pumps) ∙ wrote.unsent)

quiet : (a b d : Option LinkTold) (p q r : Option Carried) (x y z : State) (wrote : Wrote) (read : Read) → IsWritten a b p q x y wrote → IsReadIn b d q r y z read
    → IsStill wrote read → (z.is_over ≡ true → wrote.is_all ≡ true → read.stop ≡ Waits → ⊥) → DidPump a d p r x (marked z false) (Ok Quiet)
quiet a b d p q r x y z wrote read w k still not_end =
    let m = both a b d p q r x y z wrote.sent read.gave_one w.did k.did in
    pumped a d p r x z k.did.came wrote.sent read.gave_one m Quiet (
      still_none a b d p q r x y z wrote read w k still m,
      (
        (λ end. no_end end.over (by_parts wrote.is_all read.stop refl refl end.gave end.wrote)),
        (why (k.why still.1.0), done a b d p q r x y z wrote read w k),
      ),
    )
  where
    no_end : z.is_over ≡ true → (wrote.is_all ≡ true) × (read.stop ≡ Waits) → ⊥
    no_end over parts = not_end over parts.0 parts.1

    by_parts : (all : Bool) (stop : Stop) → wrote.is_all ≡ all → read.stop ≡ stop → first_of z.unread ≡ rest → WroteAll z → (wrote.is_all ≡ true) × (read.stop ≡ Waits)
    by_parts false stop e s gave wrote_all = absurd (wrote_before y z k.did.given k.did.came k.did.pumps (w.left e) wrote_all)
    by_parts true Waits e s gave wrote_all = (e, s)
    by_parts true Full e s gave wrote_all = absurd (not_blocked z gave (subst (λ (t : Stop). HasStopped t z) s k.stopped))

    by_over : (all : Bool) (stop : Stop) → wrote.is_all ≡ all → read.stop ≡ stop → z.is_over ≡ true → IsLinkFull d ⊎ IsBlocked z
    by_over false stop e s over = inl (full_still b d q r k.did.came k.did.moved (w.full e))
    by_over true Full e s over = inr (subst (λ (t : Stop). HasStopped t z) s k.stopped)
    by_over true Waits e s over = absurd (not_end over e s)

    why : IsLinkQuiet d ⊎ ((z.is_over ≡ true) ⊎ IsBlocked z) → IsLinkQuiet d ⊎ (IsLinkFull d ⊎ IsBlocked z)
    why reason =
        ⊎_elim
        (λ (n : IsLinkQuiet d). inl n)
        (λ (o : (z.is_over ≡ true) ⊎ IsBlocked z). inr (⊎_elim (λ (over : z.is_over ≡ true). by_over wrote.is_all read.stop refl refl over) (λ (blocked : IsBlocked z). inr blocked) o))
        reason

-- the answer that is chosen
chosen : (a b d : Option LinkTold) (p q r : Option Carried) (x y z : State) (wrote : Wrote) (read : Read) (pumped : Pumped) → IsWritten a b p q x y wrote → IsReadIn b d q r y z read
    → IsChosen wrote read z.is_over pumped → DidPump a d p r x (marked z (ends (Ok pumped))) (Ok pumped)
chosen a b d p q r x y z wrote read Went w k which = went a b d p q r x y z wrote read w k which
chosen a b d p q r x y z wrote read Quiet w k which = quiet a b d p q r x y z wrote read w k which.0 which.1
chosen a b d p q r x y z wrote read End w k which = ended a b d p q r x y z wrote read w k which.0 which.1.0 which.1.1.0 which.1.1.1

-- writing or reading failed
fault_marked : (z : State) (fault : MuxFault) → IsFault z fault → IsFault (marked z true) fault
fault_marked z (NoContext at) is = is
fault_marked z (OtherSession at) is = is
fault_marked z (BadFrame at) is = is
fault_marked z LinkFault is = is

failed_to_write : (a b : Option LinkTold) (p q : Option Carried) (x y : State) (fault : MuxFault) → FailedToWrite a b p q x y fault → DidPump a b p q x (marked y true) (Err fault)
failed_to_write a b p q x y fault f = record {
  given = [];
  begun = f.out.begun;
  came = [];
  sent = f.out.sent;
  failing = f.failing;
  pumps = pumps_marked x y true [] f.out.begun [] f.out.sent f.out.pumps;
  moved = f.out.moved;
  only_failing = λ e. ap Err f.is;
  over = record { stays = λ e. f.out.over ∙ e; only = λ e. inl (sym f.out.over ∙ e) };
  ended = refl;
  answered = subst (IsFault (marked y true)) (sym f.is) tt;
}

failed_to_read : (a b d : Option LinkTold) (p q r : Option Carried) (x y z : State) (wrote : Wrote) (fault : MuxFault) → IsWritten a b p q x y wrote → FailedToRead b d q r y z fault → DidPump a d p r x (marked z true) (Err fault)
failed_to_read a b d p q r x y z wrote fault w f =
    let m = both a b d p q r x y z wrote.sent f.some w.did f.did in
    record {
      given = m.given;
      begun = m.begun;
      came = f.did.came;
      sent = m.sent;
      failing = 0;
      pumps = pumps_marked x z true m.given m.begun f.did.came m.sent m.does.pumps;
      moved = m.moved;
      only_failing = λ e. absurd (omega (arith, e));
      over = over_marked d x z true m.over;
      ended = refl;
      answered = fault_marked z fault f.is;
    }

-- the same of a router's parts
pub did_answer : (a b d : Option LinkTold) (p q r : Option Carried) (x y z : Router) (wrote : Wrote) (read : Read) (pumped : Pumped) → IsWritten a b p q (during x) (during y) wrote → IsReadIn b d q r (during y) (during z) read
    → IsChosen wrote read z.is_over pumped → DidPump a d p r (during x) (state_of z (ends (Ok pumped))) (Ok pumped)
did_answer a b d p q r x y z wrote read pumped w k which = chosen a b d p q r (during x) (during y) (during z) wrote read pumped w k which

pub did_not_write : (a b : Option LinkTold) (p q : Option Carried) (x y w : State) (fault : MuxFault) → FailedToWrite a b p q x y fault → w ≡ marked y true → DidPump a b p q x w (Err fault)
did_not_write a b p q x y w fault f is = subst (λ (m : State). DidPump a b p q x m (Err fault)) (sym is) (failed_to_write a b p q x y fault f)

pub did_not_read : (a b d : Option LinkTold) (p q r : Option Carried) (x y z w : State) (wrote : Wrote) (fault : MuxFault) → IsWritten a b p q x y wrote → FailedToRead b d q r y z fault → w ≡ marked z true → DidPump a d p r x w (Err fault)
did_not_read a b d p q r x y z w wrote fault written f is = subst (λ (m : State). DidPump a d p r x m (Err fault)) (sym is) (failed_to_read a b d p q r x y z wrote fault written f)

-- with the mark that is kept
pub did_pump : (a d : Option LinkTold) (p r : Option Carried) (x z : Router) (was mark : Bool) (result : Result Pumped MuxFault) → was ≡ false → mark ≡ ends result → DidPump a d p r (during x) (state_of z (ends result)) result → DidPump a d p r (state_of x was) (state_of z mark) result
did_pump a d p r x z was mark result going is did =
    subst (λ (b : Bool). DidPump a d p r (state_of x b) (state_of z mark) result) (sym going) (subst (λ (b : Bool). DidPump a d p r (during x) (state_of z b) result) (sym is) did)

-- what makes an answer
pub goes_sent : (wrote : Wrote) (read : Read) (over : Bool) → 0 < wrote.sent → IsChosen wrote read over Went
goes_sent wrote read over some = inl some

pub goes_came : (wrote : Wrote) (read : Read) (over : Bool) → read.came ≡ true → IsChosen wrote read over Went
goes_came wrote read over came = inr (inl came)

pub goes_gave : (wrote : Wrote) (read : Read) (over : Bool) → read.gave_one ≡ true → IsChosen wrote read over Went
goes_gave wrote read over gave = inr (inr gave)
