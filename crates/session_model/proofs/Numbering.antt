-- The laws of implied numbering.
use Rattle.std.proofs.Common.{◌≡◌, ℕ, ◌+◌, List, [], ◌∷◌, ◌++◌, map, length, Option, Some, None, option_map, refl, sym, ap, ◌∙◌, arith, append_assoc}
use Rattle.session_model.specs.Events.{Event, announce, message, with_number, standing, numbered, announced, messages}
use Rattle.session_model.specs.Laws.{NumberingLooksBack, MessageTakesStanding, NumberingSplits}

pub numbered-append : (c : Option ℕ) (first second : List Event) → numbered c (first ++ second) ≡ numbered c first ++ numbered (standing c first) second
numbered-append c [] second = refl
numbered-append c (announce _ n ∷ first) second = numbered-append n first second
numbered-append c (message p ∷ first) second =
    ap (λ ms. with_number c p ++ ms) (numbered-append (option_map (λ n. n + 1) c) first second) ∙ sym (append_assoc (with_number c p) _ _)

pub standing-append : (c : Option ℕ) (first second : List Event) → standing c (first ++ second) ≡ standing (standing c first) second
standing-append c [] second = refl
standing-append c (announce _ n ∷ first) second = standing-append n first second
standing-append c (message p ∷ first) second = standing-append (option_map (λ n. n + 1) c) first second

pub announced-append : (first second : List Event) → announced (first ++ second) ≡ announced first ++ announced second
announced-append [] second = refl
announced-append (announce _ None ∷ first) second = announced-append first second
announced-append (announce _ (Some n) ∷ first) second = ap (λ ns. n ∷ ns) (announced-append first second)
announced-append (message p ∷ first) second = announced-append first second

pub messages-append : (first second : List Event) → messages (first ++ second) ≡ messages first ++ messages second
messages-append [] second = refl
messages-append (announce _ n ∷ first) second = messages-append first second
messages-append (message p ∷ first) second = ap (λ ps. p ∷ ps) (messages-append first second)

pub numbering_splits : NumberingSplits
numbering_splits c first second = (numbered-append c first second, standing-append c first second)

pub message_takes_standing : MessageTakesStanding
message_takes_standing c earlier later payload = numbered-append c earlier (message payload ∷ later)

-- so many messages behind a number
standing-messages : (c : Option ℕ) (since : List (List ℕ)) → standing c (map message since) ≡ option_map (λ k. k + length since) c
standing-messages None [] = refl
standing-messages (Some n) [] = ap Some (omega arith)
standing-messages None (p ∷ since) = standing-messages None since
standing-messages (Some n) (p ∷ since) = standing-messages (Some (n + 1)) since ∙ ap Some (omega arith)

pub numbering_looks_back : NumberingLooksBack
numbering_looks_back c n who earlier since = standing-append c earlier (announce who n ∷ map message since) ∙ standing-messages n since
