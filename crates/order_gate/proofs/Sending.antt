-- A desk that sends by its pass.
use Rattle.std.proofs.Common.{◌≡◌, ℕ, ◌+◌, ◌≤◌, List, [], ◌∷◌, length, take, flat_map, All, ℤ, to_z, of_z, w64, Some, Result, Ok, Err, OnOk, sym, ap, subst, ◌∙◌, arith, length-append}
use Rattle.std.proofs.lemmas.Option.{same_Some}
use Rattle.std.proofs.lemmas.Int.{ints, to_z-of_z}
use Rattle.std.proofs.lemmas.List.{length-take-le}
use Rattle.std.proofs.lemmas.List.Elements.{All-from_recursion, All-nil, All-append}
use Rattle.sbe_layout.specs.declared.plan.Plan.{Plan}
use Rattle.fixp_msgs.specs.Payload.{IsApplication}
use Rattle.order_desk.specs.Schema.{IsOrderPlan, order_plan}
use Rattle.order_desk.specs.Plans.{answers}
use Rattle.order_desk.specs.Laws.{AnswersAreApplication}
use Rattle.jr_dated.specs.declared.journal.Journal.{Ghosts}
use Rattle.jr_boxes.specs.declared.faults.SubmitFault.{SubmitFault}
use Rattle.gate_turn.specs.Views.{Part}
use Rattle.gate_turn.specs.Places.{known}
use Rattle.gate_turn.specs.Listed.{known_if}
use Rattle.gate_turn.specs.Calls.{IsFree}
use Rattle.gate_turn.specs.declared.pass.Pass.{Pass}
use Rattle.gate_senders.specs.Gate.{IsPassAt, IsSenderAt}
use Rattle.gate_senders.specs.Shown.{SubmittedAll, entries_after}
use Rattle.gate_senders.specs.declared.gate.Gate.{Gate}
use Rattle.gate_senders.specs.declared.kept.Kept.{Kept}
use Rattle.order_gate.specs.declared.desk.Desk.{Desk}
use Rattle.order_gate.specs.Reported.{IsPrice, Reported}
use Rattle.order_gate.specs.Desks.{known_of, IsReady}
use Rattle.order_gate.proofs.Parts.{length-entries}

module _ {J : Type 0} {G : Ghosts J} (gate : Gate J G) (d : Desk J G) (p q : Pass (Kept J G)) (ready : IsReady gate d) (there : d.pass ≡ Some p) where
  -- the desk's pass is the one that is there
  the_pass : ready.manned.pass ≡ p
  the_pass = same_Some ready.manned.pass p (sym ready.manned.there ∙ there)

  pub its_number : (known p).number ≡ d.number
  its_number = ap (λ x. (known x).number) (sym the_pass) ∙ ready.manned.number

  pub its_made : length (known p).mine ≡ d.made
  its_made = ap (λ x. length (known x).mine) (sym the_pass) ∙ ready.manned.made

  pub is_own : IsSenderAt gate p
  is_own = record { own = subst (λ x. IsPassAt gate x) the_pass ready.manned.own; sender = omega (arith, its_number, ready.sender) }

  pub is_free : IsFree p
  is_free = subst (λ x. IsFree x) the_pass ready.manned.free

  -- with another knowledge of the same pass it is ready again
  pub ready_again : (e : Desk J G) → e.pass ≡ Some q → e.number ≡ d.number → IsSenderAt gate q → IsFree q → (known q).number ≡ (known p).number → length (known q).mine ≡ e.made → IsReady gate e
  ready_again e is number own free same made = record {
    manned = record { pass = q; there = is; own = own.own; free = free; number = same ∙ its_number ∙ sym number; made = made };
    sender = omega (arith, number, ready.sender);
    few = record { from_one = omega (arith, number, ready.few.from_one); up_to = omega (arith, number, ready.few.up_to) };
  }

  -- the same, where only the pass is known to be the gate's
  pub ready_still : (e : Desk J G) → e.pass ≡ Some q → e.number ≡ d.number → IsPassAt gate q → IsFree q → (known q).number ≡ (known p).number → length (known q).mine ≡ e.made → IsReady gate e
  ready_still e is number own free same made =
      let sender = is_own.sender in
      ready_again e is number (record { own = own; sender = omega (arith, same, sender) }) free same made

  pub reported_by : (next : List (List ℕ)) (result : Result (Unit {0}) SubmitFault) → Reported (known p) (known q) next result → Reported (known_of d) (known q) next result
  reported_by next result r = subst (λ k. Reported k (known q) next result) (sym (ap known_if there)) r

-- how many entries it has, once so many of a piece were added
pub made_more : (p q : Part) (ps : List (List ℕ)) (count : ℕ) → count ≤ length ps → SubmittedAll p q (take count ps) → length q.mine ≡ length p.mine + count
made_more p q ps count within did =
    ap length did.mine ∙ length-append p.mine (entries_after p (take count ps))
    ∙ ap (λ k. length p.mine + k) (length-entries p.number (length p.mine) (take count ps) ∙ length-take-le count ps within)

-- what desks send may be submitted
all_applications : (p : Plan) (desk : ℕ) (reference : ℤ) (payloads : List (List ℕ)) → ((payload : List ℕ) → All IsApplication (answers p desk reference payload)) → All IsApplication (flat_map (answers p desk reference) payloads)
all_applications p desk reference [] each = All-nil IsApplication
all_applications p desk reference (x ∷ xs) each =
    All-append IsApplication (answers p desk reference x) (flat_map (answers p desk reference) xs) (each x) (all_applications p desk reference xs each)

pub applications : AnswersAreApplication → (p : Plan) → IsOrderPlan p → (desk : ℕ) (reference : ℤ) (payloads : List (List ℕ)) → All IsApplication (flat_map (answers p desk reference) payloads)
applications law p plan desk reference payloads = all_applications p desk reference payloads
    (λ payload. subst (λ q. All IsApplication (answers q desk reference payload)) (sym plan.planned)
    (All-from_recursion IsApplication (answers (order_plan plan.version) desk reference payload) (law plan.version desk reference payload)))

-- a price that is passed is the price
pub passed_price : (z : ℤ) → IsPrice z → to_z w64 (of_z w64 z) ≡ z
passed_price z ranged = let least = ranged.least in let most = ranged.most in to_z-of_z w64 z (grind (arith, ints))

pub on_ok : (result : Result (Unit {0}) SubmitFault) (A : Type 0) → result ≡ Ok tt → OnOk result A → A
on_ok (Ok _) A e a = a
on_ok (Err f) A e a = absurd (cc e)
