-- What each sender has submitted, as it is counted and as the outbox has it.
use Rattle.std.proofs.Common.{◌≡◌, ℕ, zero, suc, ◌+◌, ◌<◌, ◌≤◌, List, [], ◌∷◌, ◌++◌, length, take, refl, sym, ap, ◌∙◌, subst, arith}
use Rattle.std.specs.Prelude.{slice_index_or}
use Rattle.std.proofs.lemmas.List.{ext_get_or, get_or-map, length-map, take_all}
use Rattle.std.proofs.Math.Seq.{take-suc}
use Rattle.std.proofs.Math.Logic.{∥∥₁_elim}
use native.Mathlib.Nat.{ℕ_set}
use Rattle.session_model.specs.Journal.{entries_of, BeginsHistory}
use Rattle.jr_dated.specs.declared.journal.Journal.{Ghosts}
use Rattle.jr_kept.specs.declared.outbox.Outbox.{Outbox}
use Rattle.jr_kept.specs.Outbox.{mine_of}
use Rattle.gate_turn.specs.Views.{Part}
use Rattle.gate_turn.specs.Places.{known}
use Rattle.gate_turn.specs.Listed.{known_at}
use Rattle.gate_turn.specs.declared.pass.Pass.{Pass}
use Rattle.gate_turn.specs.declared.passes.Passes.{Passes}
use Rattle.gate_senders.specs.Gate.{ClosedWith, opening_of}
use Rattle.gate_senders.specs.declared.gate.Gate.{Gate}
use Rattle.gate_senders.specs.declared.kept.Kept.{Kept}
use Rattle.gate_staff.specs.Runs.{CountedEach}
use Rattle.gate_staff.specs.declared.sender.Sender.{Sender}
use Rattle.order_staff.specs.Staffs.{HasMade, sent_by}
use Rattle.gw_rehearse.specs.Standing.{AreDone}
use Rattle.gw_rehearse.specs.Summaries.{counts_to}

-- some element of a list that has one
any : {A : Type 0} (xs : List A) → 0 < length xs → A
any [] some = absurd (omega (arith, some))
any (x ∷ xs) some = x

module _ {J : Type 0} {G : Ghosts J} where
  abbrev made : Sender J G → ℕ
  made s = length (known s.pass).mine

  -- where those that were counted are all, so many were sent
  pub done_are_sent : (gate : Gate J G) (before after : List (Sender J G)) (messages : List ℕ) → CountedEach gate before after → AreDone after messages → sent_by after ≡ messages
  done_are_sent gate before after messages c a = ext_get_or 0 (sent_by after) messages (length-map after made ∙ sym a.long) (λ i lt.
      let within : i < length after = omega (arith, lt, length-map after made) in
      let d = any after (omega (arith, within)) in
      get_or-map made after i d 0 within ∙ (sym (c.each i d (omega (arith, within, c.long))).done ∙ sym (a.each i d within)))

  -- an outbox that counts these numbers of the senders from 1 on
  counts_of : (box : Outbox J G) (xs : List ℕ) (n : ℕ) → n ≤ length xs → ((i : ℕ) → i < length xs → mine_of box (i + 1) ≡ slice_index_or xs i 0) → counts_to box n ≡ take n xs
  counts_of box xs zero within each = refl
  counts_of box xs (suc n) within each =
      ap (λ (ys : List ℕ). ys ++ mine_of box (n + 1) ∷ []) (counts_of box xs n (omega (arith, within)) each)
      ∙ (ap (λ (m : ℕ). take n xs ++ m ∷ []) (each n (omega (arith, within))) ∙ sym (take-suc xs n 0 (omega (arith, within))))

  -- an outbox that comes out of its gate counts of each sender what its pass has made
  pub sent_back : (gate : Gate J G) (passes : Passes (Kept J G)) (counts : List ℕ) (count : ℕ) (box : Outbox J G) → length counts ≡ count → count ≤ 16 → HasMade passes counts → (known_at passes 1).made ≡ count + 1
      → ClosedWith gate passes box → counts_to box count ≡ counts
  sent_back gate passes counts count box long few has first closed = counts_of box counts count (omega (arith, long)) each ∙ take_all count counts (omega (arith, long))
    where
      each : (i : ℕ) → i < length counts → mine_of box (i + 1) ≡ slice_index_or counts i 0
      each i lt =
          let found = closed.closed.found (i + 1) (record { from_one = omega arith; up_to = omega (arith, lt, long, first) }) in
          let mine : (known_at passes (i + 1)).mine ≡ entries_of closed.history.made (i + 1) = found.mine ∙ ap (λ (n : ℕ). entries_of closed.history.made n) (has.numbers i lt) in
          let counted : mine_of box (i + 1) ≡ length (entries_of closed.history.made (i + 1)) =
          ∥∥₁_elim closed.holds (ℕ_set _ _) (λ h. h.tallied.each (i + 1) (omega arith, omega (arith, lt, long, few))) in
          counted ∙ (ap length (sym mine) ∙ has.mine i lt)

  -- the connection's pass has seen a beginning of the history that the outbox holds then
  pub last_found : (gate : Gate J G) (passes : Passes (Kept J G)) (count : ℕ) (p : Pass (Kept J G)) (box : Outbox J G) → (known_at passes 1).made ≡ count + 1 → known_at passes (count + 1) ≡ known p
      → (k : ClosedWith gate passes box) → BeginsHistory (known p).seen k.history
  last_found gate passes count p box first last k =
      subst (λ (x : Part). BeginsHistory x.seen k.history) last (k.closed.found (count + 1) (record { from_one = omega arith; up_to = omega (arith, first) })).seen

  -- which goes on from what the gate was made with
  pub opened_found : (gate : Gate J G) (passes : Passes (Kept J G)) (count : ℕ) (box : Outbox J G) → (known_at passes 1).made ≡ count + 1 → (k : ClosedWith gate passes box) → BeginsHistory (opening_of gate).history k.history
  opened_found gate passes count box first k =
      let found = k.closed.found (count + 1) (record { from_one = omega arith; up_to = omega (arith, first) }) in
      let opened = k.closed.opened (count + 1) (record { from_one = omega arith; up_to = omega (arith, first) }) in
      subst (λ a. BeginsHistory a.history k.history) opened found.begins
