-- The messages of a reply, place by place.
use Rattle.std.proofs.Common.{◌≡◌, ℕ, List, [], ◌∷◌, ◌++◌, length, get_or, Option, Some, None, refl, sym, ap, ◌∙◌, arith}
use Rattle.fixp_shake.specs.declared.config.EndConfig.{EndConfig}
use Rattle.fixp_replies.specs.declared.reply.Outgoing.{Outgoing}
use Rattle.fixp_replies.specs.Outgoing.{messages_of}
use Rattle.fixp_machine.specs.Machine.{bytes_of, sent_at}
use Rattle.fixp_end.proofs.Turn.{sent_behind}

first_of_places : (cfg : EndConfig) (place : Option Outgoing) (later : List (Option Outgoing)) → messages_of cfg (place ∷ later) ≡ messages_of cfg (place ∷ []) ++ messages_of cfg later
first_of_places cfg None later = refl
first_of_places cfg (Some m) later = refl

-- the moment of the last frame written, behind three places
pub three_sent : (cfg : EndConfig) (places : List (Option Outgoing)) (before first second third now : ℕ) → length places ≡ 3
    → first ≡ sent_at before (bytes_of (messages_of cfg (get_or places 0 None ∷ []))) now
    → second ≡ sent_at first (bytes_of (messages_of cfg (get_or places 1 None ∷ []))) now
    → third ≡ sent_at second (bytes_of (messages_of cfg (get_or places 2 None ∷ []))) now
    → third ≡ sent_at before (bytes_of (messages_of cfg places)) now
three_sent cfg [] before first second third now three one two last = absurd (omega arith)
three_sent cfg (a ∷ []) before first second third now three one two last = absurd (omega arith)
three_sent cfg (a ∷ b ∷ []) before first second third now three one two last = absurd (omega arith)
three_sent cfg (a ∷ b ∷ c ∷ []) before first second third now three one two last =
    sent_behind (messages_of cfg (a ∷ [])) (messages_of cfg (b ∷ c ∷ [])) before first third now one
    (sent_behind (messages_of cfg (b ∷ [])) (messages_of cfg (c ∷ [])) first second third now two last
    ∙ ap (λ ms. sent_at first (bytes_of ms) now) (sym (first_of_places cfg b (c ∷ []))))
    ∙ ap (λ ms. sent_at before (bytes_of ms) now) (sym (first_of_places cfg a (b ∷ c ∷ [])))
three_sent cfg (a ∷ b ∷ c ∷ d ∷ later) before first second third now three one two last = absurd (omega arith)
