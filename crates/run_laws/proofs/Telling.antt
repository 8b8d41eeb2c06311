-- The records of a box tell what it holds.
use Rattle.std.proofs.Common.{◌≡◌, ℕ, List, [], ◌∷◌, ◌++◌, map, refl, sym, ap, ◌∙◌}
use Rattle.std.proofs.lemmas.List.{map-append}
use mathlib.Core.List.{IsPrefix}
use Rattle.session_model.specs.Journal.{OutboxRecord}
use Rattle.session_model.specs.Inbox.{Numbered, Range, InboxRecord, apply, skip, negotiated, peer_finished}
use Rattle.session_model.specs.Lives.{IsImage}
use Rattle.jr_boxes.specs.Outboxes as outboxes
use Rattle.jr_boxes.specs.Inboxes as inboxes
use Rattle.jr_boxes.specs.Inboxes.{records_of_inbox}
use Rattle.cmd_session.proofs.Histories.{same_lists, out_tells}
use Rattle.run_laws.specs.Pieces.{BoxesTell}

module _ {A B : Type 0} (f : A → B) (tells : (x y : A) → f x ≡ f y → x ≡ y) where
  -- a beginning of some images is those of a beginning
  pub first_of_images : (zs : List B) (ys : List A) → IsPrefix zs (map f ys) → (xs : List A) × IsPrefix xs ys × (map f xs ≡ zs)
  first_of_images [] ys p = ([], (ys, refl), refl)
  first_of_images (z ∷ zs) [] p = let e = p.1 in absurd cc
  first_of_images (z ∷ zs) (y ∷ ys) p =
      let e = p.1 in
      let head : f y ≡ z = cc in
      let tails : zs ++ p.0 ≡ map f ys = cc in
      let r = first_of_images zs ys (p.0, tails) in
      (y ∷ r.0, (r.1.0, ap (λ (w : List A). y ∷ w) r.1.1), ap (λ (w : B). w ∷ map f r.0) head ∙ ap (λ (ws : List B). z ∷ ws) r.2)

  pub same_image : (closing refused image : List A) → IsImage (map f closing) (map f refused) (map f image) → IsImage closing refused image
  same_image closing refused image g =
      let r = first_of_images g.kept refused g.beginning in
      record {
        kept = r.0;
        beginning = r.1;
        holds = same_lists f tells image (closing ++ r.0) (g.holds ∙ (ap (λ (ws : List B). map f closing ++ ws) (sym r.2) ∙ sym (map-append f closing r.0)));
      }

same_numbered : (m n : Numbered) → m.number ≡ n.number → m.payload ≡ n.payload → m ≡ n
same_numbered m n numbers payloads =
    ap (λ (k : ℕ). record { number = k; payload = m.payload }) numbers ∙ ap (λ (p : List ℕ). record { number = n.number; payload = p }) payloads

same_range : (r s : Range) → r.first ≡ s.first → r.count ≡ s.count → r ≡ s
same_range r s firsts counts = ap (λ (k : ℕ). record { first = k; count = r.count }) firsts ∙ ap (λ (k : ℕ). record { first = s.first; count = k }) counts

pub in_tells : (x y : InboxRecord) → inboxes.record_of x ≡ inboxes.record_of y → x ≡ y
in_tells (apply m) (apply n) is =
    let numbers : m.number ≡ n.number = cc in
    let payloads : m.payload ≡ n.payload = cc in
    ap (λ (x : Numbered). apply x) (same_numbered m n numbers payloads)
in_tells (apply m) (skip s) is = absurd cc
in_tells (apply m) negotiated is = absurd cc
in_tells (apply m) (peer_finished k) is = absurd cc
in_tells (skip r) (apply n) is = absurd cc
in_tells (skip r) (skip s) is =
    let firsts : r.first ≡ s.first = cc in
    let counts : r.count ≡ s.count = cc in
    ap (λ (x : Range). skip x) (same_range r s firsts counts)
in_tells (skip r) negotiated is = absurd cc
in_tells (skip r) (peer_finished k) is = absurd cc
in_tells negotiated (apply n) is = absurd cc
in_tells negotiated (skip s) is = absurd cc
in_tells negotiated negotiated is = refl
in_tells negotiated (peer_finished k) is = absurd cc
in_tells (peer_finished j) (apply n) is = absurd cc
in_tells (peer_finished j) (skip s) is = absurd cc
in_tells (peer_finished j) negotiated is = absurd cc
in_tells (peer_finished j) (peer_finished k) is = let same : j ≡ k = cc in ap (λ (n : ℕ). peer_finished n) same

pub same_outbox : (xs ys : List OutboxRecord) → map outboxes.record_of xs ≡ map outboxes.record_of ys → xs ≡ ys
same_outbox = same_lists outboxes.record_of out_tells

pub same_inbox : (xs ys : List InboxRecord) → records_of_inbox xs ≡ records_of_inbox ys → xs ≡ ys
same_inbox = same_lists inboxes.record_of in_tells

pub boxes_tell : BoxesTell
boxes_tell = record {
  outbox = same_outbox;
  inbox = same_inbox;
  outbox_image = same_image outboxes.record_of out_tells;
  inbox_image = same_image inboxes.record_of in_tells;
}
