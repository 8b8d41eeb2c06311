-- What holds of each call behind the frames of a turn.
use Rattle.std.proofs.Common.{ℕ, Bool, true, false, List, [], ◌∷◌, ◌++◌, Option, Some, None}
use Rattle.std.specs.List.{AllByRecursion}
use Rattle.session_model.proofs.Lists.{all_append}
use Rattle.fixp_machine.specs.Machine.{Call, bad_frame, turn_done, closed, link_end, live, again}
use Rattle.conn_turns.specs.Turns.{bad_calls, end_calls, call_for, again_calls, live_calls, finish_calls}

-- of the call of what may have come
for_all : {A : Type 0} (P : Call → Type 0) (call : A → Call) (o : Option A) → ((a : A) → P (call a)) → AllByRecursion P (call_for call o)
for_all P call None p = tt
for_all P call (Some a) p = (p a, tt)

pub closing_all : (P : Call → Type 0) (now : ℕ) (broken : Option ℕ) (over : Bool) → ((at : ℕ) → P (bad_frame at now)) → P link_end → P (turn_done now)
    → AllByRecursion P (bad_calls now broken ++ (end_calls over ++ turn_done now ∷ []))
closing_all P now broken true p q r = all_append P (bad_calls now broken) (link_end ∷ turn_done now ∷ []) (for_all P (λ at. bad_frame at now) broken p) (q, (r, tt))
closing_all P now broken false p q r = all_append P (bad_calls now broken) (turn_done now ∷ []) (for_all P (λ at. bad_frame at now) broken p) (r, tt)

pub outbox_all : (P : Call → Type 0) (now : ℕ) (agains lives : Option (List (List ℕ))) (finish : Option ℕ) → ((sent : List (List ℕ)) → P (again sent now)) → ((sent : List (List ℕ)) → P (live sent now))
    → ((last : ℕ) → P (closed last now)) → AllByRecursion P (again_calls now agains ++ (live_calls now lives ++ finish_calls now finish))
outbox_all P now agains lives finish p q r =
    all_append P (again_calls now agains) (live_calls now lives ++ finish_calls now finish) (for_all P (λ sent. again sent now) agains p)
    (all_append P (live_calls now lives) (finish_calls now finish) (for_all P (λ sent. live sent now) lives q) (for_all P (λ last. closed last now) finish r))
