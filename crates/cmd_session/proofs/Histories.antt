-- The records of an outbox are those of one history.
use Rattle.std.proofs.Common.{◌≡◌, ℕ, List, [], ◌∷◌, map, refl, sym, ap, ◌∙◌}
use Rattle.session_model.specs.Journal.{Entry, OutboxRecord, entry, finish, History, history_of}
use Rattle.jr_boxes.specs.Outboxes.{record_of, outbox_of, records_of_history}
use Rattle.life_laws.proofs.Outboxes.{history_of-outbox_of}

pub same_lists : {A B : Type 0} (f : A → B) → ((x y : A) → f x ≡ f y → x ≡ y) → (xs ys : List A) → map f xs ≡ map f ys → xs ≡ ys
same_lists f tells [] [] e = refl
same_lists f tells [] (y ∷ ys) e = absurd cc
same_lists f tells (x ∷ xs) [] e = absurd cc
same_lists {A} f tells (x ∷ xs) (y ∷ ys) e =
    let head : f x ≡ f y = cc in
    let tails : map f xs ≡ map f ys = cc in
    ap (λ (z : A). z ∷ xs) (tells x y head) ∙ ap (λ (zs : List A). y ∷ zs) (same_lists f tells xs ys tails)

same_entry : (d e : Entry) → d.sender ≡ e.sender → d.own_number ≡ e.own_number → d.payload ≡ e.payload → d ≡ e
same_entry d e senders numbers payloads =
    ap (λ (s : ℕ). record { sender = s; own_number = d.own_number; payload = d.payload }) senders
    ∙ ap (λ (k : ℕ). record { sender = e.sender; own_number = k; payload = d.payload }) numbers
    ∙ ap (λ (p : List ℕ). record { sender = e.sender; own_number = e.own_number; payload = p }) payloads

pub out_tells : (x y : OutboxRecord) → record_of x ≡ record_of y → x ≡ y
out_tells (entry d) (entry e) is =
    let senders : d.sender ≡ e.sender = cc in
    let numbers : d.own_number ≡ e.own_number = cc in
    let payloads : d.payload ≡ e.payload = cc in
    ap (λ (x : Entry). entry x) (same_entry d e senders numbers payloads)
out_tells (entry d) finish is = absurd cc
out_tells finish (entry e) is = absurd cc
out_tells finish finish is = refl

pub same_history : (h k : History) → records_of_history h ≡ records_of_history k → h ≡ k
same_history h k e = sym (history_of-outbox_of h) ∙ (ap history_of (same_lists record_of out_tells (outbox_of h) (outbox_of k) e) ∙ history_of-outbox_of k)
