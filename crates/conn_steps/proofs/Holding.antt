-- Held messages that are applied one after another: which are ready, and what the machine, the inbox and the news are behind some.
use Rattle.std.proofs.Common.{◌≡◌, ℕ, suc, ◌+◌, ◌<◌, ◌≤◌, ⊎_elim, List, [], ◌∷◌, ◌++◌, length, take, drop, get_or, Option, Some, None, Result, Ok, Err, refl, sym, ap, subst, ◌∙◌, arith, add-one, add-zero, length-drop, length-append, append_assoc, append-nil}
use Rattle.std.specs.Prelude.{is_some, replicate, OnOk}
use Rattle.std.proofs.Math.Seq.{take-suc, drop-cons}
use Rattle.std.specs.List.{AllByRecursion}
use Rattle.std.proofs.Math.Seq.{take-length}
use Rattle.std.proofs.lemmas.List.{map-append, length-map}
use Rattle.std.proofs.lemmas.Grind.{replicate_next}
use Rattle.session_model.specs.Inbox.{Numbered, payloads_of}
use Rattle.flow_window.specs.Window.{front}
use Rattle.flow_window.specs.Gathering.{ready}
use Rattle.flow_window.proofs.Taken.{front_by_front}
use Rattle.fixp_shake.specs.declared.config.EndConfig.{EndConfig}
use Rattle.fixp_replies.specs.declared.facts.EndState.{EndState}
use Rattle.fixp_machine.specs.Machine.{State, Call, held_done, run, front_of, held_applied}
use Rattle.fixp_machine.proofs.Windowing.{front_there}
use Rattle.fixp_msgs.specs.Payload.{IsApplication}
use Rattle.jr_dated.specs.declared.journal.Journal.{Ghosts}
use Rattle.jr_kept.specs.declared.inbox.Inbox.{Inbox}
use Rattle.jr_kept.specs.Inbox.{next_of as next_in}
use Rattle.conn_turns.specs.declared.answer.TurnFault.{TurnFault}
use Rattle.conn_turns.specs.Lines.{ready_in}
use Rattle.conn_turns.specs.Gathering.{numbered_from}
use Rattle.conn_turns.proofs.Taking.{run_append}
use Rattle.conn_steps.specs.Agreeing.{IsInTurn, AgreesBut, KeepsOwn, unheld}
use Rattle.conn_steps.specs.Taking.{AppliedHeld}
use Rattle.conn_steps.proofs.Numbers.{numbered-append, ready-in, within}

-- the element behind the first ones
record IsNextOf (n : ℕ) (xs : List Numbered) (x : Numbered) (ys : List Numbered) : Type 0 where
  within : n < length xs
  taken : take (n + 1) xs ≡ take n xs ++ x ∷ []
  left : drop (n + 1) xs ≡ ys

next_of : (n : ℕ) (xs : List Numbered) (x : Numbered) (ys : List Numbered) → drop n xs ≡ x ∷ ys → IsNextOf n xs x ys
next_of n xs x ys e =
    let within : n < length xs = omega (arith, length-drop n xs, ap (λ (l : List Numbered). length l) e) in
    let cons : drop n xs ≡ get_or xs n x ∷ drop (suc n) xs = drop-cons xs n x within in
    let here : get_or xs n x ≡ x = cc (e, cons) in
    let behind : drop (suc n) xs ≡ ys = cc (e, cons) in
    record {
      within = within;
      taken = ap (λ (k : ℕ). take k xs) (add-one n) ∙ (take-suc xs n x within ∙ ap (λ (m : Numbered). take n xs ++ m ∷ []) here);
      left = ap (λ (k : ℕ). drop k xs) (add-one n) ∙ behind;
    }

-- the message that is awaited has the number awaited
pub front_number : (next : ℕ) (held : List Numbered) (m : Numbered) → front next held ≡ Some m → m.number ≡ next
front_number next held m e =
    let k = front_there next held (ap is_some e) in
    let same : k.first ≡ m = (let is = k.front_is in cc (is, e)) in
    ap (λ (j : Numbered). j.number) (sym same) ∙ k.number

-- the message that is awaited is the first that is ready; the others are ready once it was applied
pub ready_held : (m : State) (first : Numbered) → front_of m ≡ Some first → ready_in m ≡ first ∷ ready_in (held_applied m (front_of m))
ready_held m first e =
    let next = m.facts.recorded.inbox_next in
    ((front_by_front next m.held).some first e).0
    ∙ (ap (λ (n : ℕ). first ∷ ready (n + 1) (drop 1 m.held)) (sym (front_number next m.held first e))
    ∙ ap (λ (o : Option Numbered). first ∷ ready_in (held_applied m o)) (sym e))

-- none is ready where none is awaited
pub ready_none : (m : State) → front_of m ≡ None → ready_in m ≡ []
ready_none m e = ((front_by_front m.facts.recorded.inbox_next m.held).none e).0

-- a machine between held messages that are applied, were nothing held
pub in_turn_held : (m n : State) (now frames bytes : ℕ) → n.begun ≡ m.begun → n.pending ≡ None → n.moment ≡ m.moment → n.room ≡ m.room → n.config ≡ m.config → n.unsent ≡ m.unsent → n.untold ≡ m.untold
    → IsInTurn (unheld m) now frames bytes → IsInTurn (unheld n) now frames bytes
in_turn_held m n now frames bytes begun done moment room config unsent untold h = record {
  begun = begun ∙ h.begun;
  done = done;
  drained = refl;
  time = omega (arith, moment, h.time);
  room = omega (arith, room, h.room);
  credentials = omega (arith, ap (λ (x : EndConfig). length x.credentials) config, h.credentials);
  unsent = omega (arith, ap (λ (ns : List ℕ). length ns) unsent, h.unsent);
  output = h.output;
  untold = omega (arith, ap (λ (ns : List ℕ). length ns) untold, h.untold);
}

-- and one behind them
pub in_turn_drained : (m : State) (now frames bytes : ℕ) → front_of m ≡ None → IsInTurn (unheld m) now frames bytes → IsInTurn m now frames bytes
in_turn_drained m now frames bytes drained h = record {
  begun = h.begun;
  done = h.done;
  drained = drained;
  time = h.time;
  room = h.room;
  credentials = h.credentials;
  unsent = h.unsent;
  output = h.output;
  untold = h.untold;
}

-- what is recorded but the awaited number stays
pub keeps_held : (m n : State) (next : ℕ) → n.config ≡ m.config → n.most ≡ m.most → n.facts.recorded ≡ record m.facts.recorded { inbox_next = next } → KeepsOwn m n
keeps_held m n next config most recorded = record {
  config = config;
  most = most;
  sent = omega (arith, ap (λ (r : EndState). r.sent) recorded);
  finish = ap (λ (r : EndState). r.finish) recorded;
}

-- as many held messages were gathered as were ready first, and the others are ready still
pub record Draining (old now : State) (gathered gathered' : List (List ℕ)) : Type 0 where
  pub count : ℕ
  pub helds : AppliedHeld count old now gathered gathered'
  pub left : ready_in now ≡ drop count (ready_in old)
  pub recorded : now.facts.recorded ≡ record old.facts.recorded { inbox_next = old.facts.recorded.inbox_next + count }
  pub numbers : 0 < count → now.facts.recorded.inbox_next ≤ old.most + 1

pub draining_none : (m : State) (gathered : List (List ℕ)) → Draining m m gathered gathered
draining_none m gathered = record {
  count = 0;
  helds = record { few = omega arith; machine = refl; gathers = sym (append-nil gathered) };
  left = refl;
  recorded = ap (λ (j : ℕ). record m.facts.recorded { inbox_next = j }) (sym (add-zero m.facts.recorded.inbox_next));
  numbers = λ none. absurd (omega (arith, none));
}

-- one more was
pub draining_more : (old mid new : State) (first : Numbered) (gathered sooner later : List (List ℕ)) → Draining old mid gathered sooner → front_of mid ≡ Some first → new ≡ held_applied mid (front_of mid)
    → later ≡ sooner ++ first.payload ∷ [] → new.facts.recorded ≡ record mid.facts.recorded { inbox_next = mid.facts.recorded.inbox_next + 1 } → mid.facts.recorded.inbox_next ≤ old.most
    → Draining old new gathered later
draining_more old mid new first gathered sooner later d awaits applied more recorded most =
    let n : ℕ = d.count in
    let ready : List Numbered = ready_in old in
    let rest : drop n ready ≡ first ∷ ready_in new = sym d.left ∙ (ready_held mid first awaits ∙ ap (λ (s : State). first ∷ ready_in s) (sym applied)) in
    let k : IsNextOf n ready first (ready_in new) = next_of n ready first (ready_in new) rest in
    record {
      count = n + 1;
      helds = record {
        few = omega (arith, k.within);
        machine = applied ∙ (ap (λ (s : State). held_applied s (front_of s)) d.helds.machine
            ∙ (sym (run_append old (replicate n held_done) (held_done ∷ [])) ∙ ap (λ (cs : List Call). run old cs) (sym (replicate_next n held_done))));
        gathers = more ∙ (ap (λ (ps : List (List ℕ)). ps ++ first.payload ∷ []) d.helds.gathers
            ∙ (append_assoc gathered (payloads_of (take n ready)) (first.payload ∷ [])
            ∙ ap (λ (ps : List (List ℕ)). gathered ++ ps) (sym (map-append (λ (m : Numbered). m.payload) (take n ready) (first ∷ [])) ∙ ap payloads_of (sym k.taken))));
      };
      left = sym k.left;
      recorded = recorded ∙ (ap (λ (r : EndState). record r { inbox_next = r.inbox_next + 1 }) d.recorded
          ∙ ap (λ (j : ℕ). record old.facts.recorded { inbox_next = j }) (omega arith));
      numbers = λ _. omega (arith, ap (λ (r : EndState). r.inbox_next) recorded, most);
    }

-- all were
pub all_drained : (old now : State) (gathered gathered' : List (List ℕ)) → (d : Draining old now gathered gathered') → front_of now ≡ None → d.count ≡ length (ready_in old)
all_drained old now gathered gathered' d none =
    let ready : List Numbered = ready_in old in
    let empty : drop d.count ready ≡ [] = sym d.left ∙ ready_none now none in
    omega (arith, d.helds.few, length-drop d.count ready, ap (λ (ms : List Numbered). length ms) empty)

-- one is ready where one is awaited
pub some_ready : (old now : State) (first : Numbered) (gathered gathered' : List (List ℕ)) → Draining old now gathered gathered' → front_of now ≡ Some first → 0 < length (ready_in old)
some_ready old now first gathered gathered' d awaits =
    let rest : drop d.count (ready_in old) ≡ first ∷ ready_in (held_applied now (front_of now)) = sym d.left ∙ ready_held now first awaits in
    omega (arith, length-drop d.count (ready_in old), ap (λ (ms : List Numbered). length ms) rest)

module _ {J : Type 0} {G : Ghosts J} where
  -- what waits once all that is ready is gathered
  pub waits_behind : (m n : State) (box : Inbox J G) (gathered gathered' : List (List ℕ)) → AgreesBut gathered m box → AppliedHeld (length (ready_in m)) m n gathered gathered'
      → numbered_from (next_in box) gathered' ≡ numbered_from (next_in box) gathered ++ ready_in m
  waits_behind m n box gathered gathered' a h =
      ap (λ (ps : List (List ℕ)). numbered_from (next_in box) ps) (h.gathers ∙ ap (λ (ms : List Numbered). gathered ++ payloads_of ms) (take-length (ready_in m)))
      ∙ (numbered-append (next_in box) gathered (payloads_of (ready_in m))
      ∙ ap (λ (ms : List Numbered). numbered_from (next_in box) gathered ++ ms) (ap (λ (k : ℕ). numbered_from k (payloads_of (ready_in m))) a.next ∙ sym (ready-in m)))

  -- the inbox agrees then but for these too
  pub agrees_behind : (m n : State) (box : Inbox J G) (gathered gathered' : List (List ℕ)) → AgreesBut gathered m box → AppliedHeld (length (ready_in m)) m n gathered gathered' → KeepsOwn m n
      → n.facts.recorded ≡ record m.facts.recorded { inbox_next = m.facts.recorded.inbox_next + length (ready_in m) } → AllByRecursion IsApplication gathered'
      → (0 < length (ready_in m) → n.facts.recorded.inbox_next ≤ m.most + 1) → AgreesBut gathered' n box
  agrees_behind m n box gathered gathered' a h own recorded applications numbers =
      let many : length gathered' ≡ length gathered + length (ready_in m) =
      ap (λ (ps : List (List ℕ)). length ps) (h.gathers ∙ ap (λ (ms : List Numbered). gathered ++ payloads_of ms) (take-length (ready_in m)))
      ∙ (length-append gathered (payloads_of (ready_in m)) ∙ ap (λ (k : ℕ). length gathered + k) (length-map (ready_in m) (λ (x : Numbered). x.payload))) in
      let next : next_in box + length gathered' ≡ n.facts.recorded.inbox_next = omega (arith, many, a.next, ap (λ (r : EndState). r.inbox_next) recorded) in
      record {
        flow = a.flow ∙ sym (ap (λ (x : EndConfig). x.peer_flow) own.config);
        most = omega (arith, a.most, own.most);
        next = next;
        negotiated = a.negotiated ∙ sym (ap (λ (r : EndState). r.negotiated) recorded);
        peer_last = a.peer_last ∙ sym (ap (λ (r : EndState). r.peer_last) recorded);
        may_stand = record {
          applications = applications;
          numbers = λ some. ⊎_elim (λ ready. omega (arith, numbers ready, next, a.most)) (λ none. (let few = a.may_stand.numbers (omega (arith, many, none, some)) in omega (arith, few, many, none)))
              (within 0 (length (ready_in m)));
        };
      }

  pub agrees_on : (result : Result (Unit {0}) TurnFault) (m n : State) (box : Inbox J G) (gathered gathered' : List (List ℕ)) → AgreesBut gathered m box
      → OnOk result (AppliedHeld (length (ready_in m)) m n gathered gathered') → KeepsOwn m n
      → OnOk result (n.facts.recorded ≡ record m.facts.recorded { inbox_next = m.facts.recorded.inbox_next + length (ready_in m) })
      → (AllByRecursion IsApplication gathered → OnOk result (AllByRecursion IsApplication gathered'))
      → (0 < length (ready_in m) → OnOk result (n.facts.recorded.inbox_next ≤ m.most + 1)) → OnOk result (AgreesBut gathered' n box)
  agrees_on (Ok done) m n box gathered gathered' a h own recorded applications numbers =
      agrees_behind m n box gathered gathered' a h own recorded (applications a.may_stand.applications) numbers
  agrees_on (Err fault) m n box gathered gathered' a h own recorded applications numbers = tt
