-- The plans of senders that submit them, whatever is applied.
use Rattle.std.proofs.Common.{◌≡◌, ℕ, zero, suc, ◌+◌, true, false, true≢false, List, [], ◌∷◌, ◌++◌, map, length, slice_index_or, refl, sym, ap, subst, ◌∙◌, arith, append-nil}
use Rattle.session_model.specs.Journal.{History, OutboxRecord, counts_from}
use Rattle.session_model.specs.Inbox.{InboxRecord}
use Rattle.conn_serve.specs.Answering.{messages_of}
use Rattle.life_laws.specs.Plans.{plan_in, KeepsPlans, LosesNext, submitting, plans_at, KeepsSenders}

-- what a list has at the places of some numbers, one behind another
all_from : {X : Type 0} (rest : List X) (d : X) (f : ℕ → X) (n : ℕ) → ((k : ℕ) → f (n + k) ≡ slice_index_or rest k d) → map f (counts_from n (length rest)) ≡ rest
all_from [] d f n is = refl
all_from (x ∷ rest) d f n is =
    let first : n ≡ n + 0 = omega arith in
    ap (λ y. y ∷ map f (counts_from (n + 1) (length rest))) (ap f first ∙ is 0)
    ∙ ap (λ ys. x ∷ ys) (all_from rest d f (n + 1) (λ k. let one : n + 1 + k ≡ n + suc k = omega arith in ap f one ∙ is (suc k)))

pub plans_submitted : (plans : List (List (List ℕ))) (i : List InboxRecord) → plans_at (submitting plans) i ≡ plans
plans_submitted plans i = all_from plans [] (λ (n : ℕ). plan_in plans n (messages_of i)) 1
    (λ k. let one : 1 + k ≡ suc k = omega arith in ap (λ (n : ℕ). plan_in plans n (messages_of i)) one)

-- no plans, where there are none
pub none_of : (plans : List (List (List ℕ))) → length plans ≡ 0 → plans ≡ []
none_of [] e = refl
none_of (x ∷ plans) e = absurd (cc e)

-- whatever was applied, an outbox that keeps them keeps those of its senders
pub keeps_submitted : (plans : List (List (List ℕ))) (opening closing whole : History) (lost : List OutboxRecord) (i adds : List InboxRecord)
    → LosesNext plans opening closing lost → KeepsPlans plans opening whole → KeepsSenders (submitting plans) opening closing whole lost i (i ++ adds)
keeps_submitted plans opening closing whole lost i adds loses keeps = record {
  answered = i;
  opened = ([], append-nil i);
  reached = (adds, refl);
  loses = subst (λ (ps : List (List (List ℕ))). LosesNext ps opening closing lost) (sym (plans_submitted plans i)) loses;
  keeps = subst (λ (ps : List (List (List ℕ))). KeepsPlans ps opening whole) (sym (plans_submitted plans i)) keeps;
  waited = λ e before after. absurd (true≢false (sym e));
}

-- they look at nothing that is applied
pub never_waits : {A : Type 0} → false ≡ true → A
never_waits e = absurd (true≢false (sym e))

pub plans_kept : (plans : List (List (List ℕ))) (opening closing whole : History) (lost : List OutboxRecord) (i j : List InboxRecord)
    → KeepsSenders (submitting plans) opening closing whole lost i j → KeepsPlans plans opening whole
plans_kept plans opening closing whole lost i j k = subst (λ (ps : List (List (List ℕ))). KeepsPlans ps opening whole) (plans_submitted plans k.answered) k.keeps
