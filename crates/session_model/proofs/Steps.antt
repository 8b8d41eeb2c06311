-- One more event, for the loops of the plain program.
use Rattle.std.proofs.Common.{◌≡◌, ℕ, ◌+◌, ◌<◌, List, [], ◌∷◌, ◌++◌, map, take, length, get_or, Option, None, Some, option_to_list, option_map, append-nil, sym, ap, ◌∙◌}
use Rattle.std.proofs.lemmas.List.{take_more, map-append}
use Rattle.session_model.specs.Events.{numbered, standing}
use Rattle.session_model.specs.Views.{event_of, events_of, numbered_of}
use Rattle.session_model.specs.declared.event.Event.{Event}
use Rattle.session_model.specs.declared.event.Numbered.{Numbered}
use Rattle.session_model.proofs.Numbering.{numbered-append, standing-append}

pub events_more : (es : List Event) (i : ℕ) (d : Event) → i < length es → events_of (take (i + 1) es) ≡ events_of (take i es) ++ event_of (get_or es i d) ∷ []
events_more es i d h = ap (λ xs. events_of xs) (take_more es i d h) ∙ map-append event_of (take i es) (get_or es i d ∷ [])

pub numbered_more : (es : List Event) (i : ℕ) (d : Event) → i < length es
    → numbered None (events_of (take (i + 1) es))
    ≡ numbered None (events_of (take i es)) ++ numbered (standing None (events_of (take i es))) (event_of (get_or es i d) ∷ [])
numbered_more es i d h =
    ap (λ xs. numbered None xs) (events_more es i d h) ∙ numbered-append None (events_of (take i es)) (event_of (get_or es i d) ∷ [])

pub standing_more : (es : List Event) (i : ℕ) (d : Event) → i < length es
    → standing None (events_of (take (i + 1) es)) ≡ standing (standing None (events_of (take i es))) (event_of (get_or es i d) ∷ [])
standing_more es i d h =
    ap (λ xs. standing None xs) (events_more es i d h) ∙ standing-append None (events_of (take i es)) (event_of (get_or es i d) ∷ [])

-- what one more event adds to the numbered messages so far
pub messages_more : (es : List Event) (i : ℕ) (d : Event) (s : Option ℕ) (old new : List Numbered) (r : Option Numbered) → i < length es
    → map numbered_of old ≡ numbered None (events_of (take i es)) → s ≡ standing None (events_of (take i es))
    → option_to_list (option_map numbered_of r) ≡ numbered s (event_of (get_or es i d) ∷ [])
    → new ≡ old ++ option_to_list r → map numbered_of new ≡ numbered None (events_of (take (i + 1) es))
messages_more es i d s old new None h so_far stands here e =
    ap (λ ms. map numbered_of ms) (e ∙ append-nil old) ∙ (so_far ∙ (sym (append-nil (numbered None (events_of (take i es))))
    ∙ (ap (λ ms. numbered None (events_of (take i es)) ++ ms) (here ∙ ap (λ c. numbered c (event_of (get_or es i d) ∷ [])) stands) ∙ sym (numbered_more es i d h))))
messages_more es i d s old new (Some m) h so_far stands here e =
    ap (λ ms. map numbered_of ms) e ∙ (map-append numbered_of old (m ∷ []) ∙ (ap (λ ms. ms ++ numbered_of m ∷ []) so_far
    ∙ (ap (λ ms. numbered None (events_of (take i es)) ++ ms) (here ∙ ap (λ c. numbered c (event_of (get_or es i d) ∷ [])) stands) ∙ sym (numbered_more es i d h))))
