-- What a receiver delivers is what its window takes of the numbered messages, and an inbox that applies it grows as a
-- recoverable one, also over parts of a connection.
use Rattle.std.proofs.Common.{◌≡◌, ℕ, ◌+◌, List, [], ◌∷◌, ◌++◌, map, Contains, Some, refl, sym, ap, subst, ◌∙◌}
use Rattle.std.specs.List.{AllByRecursion}
use Rattle.session_model.specs.Inbox.{Numbered, apply}
use Rattle.session_model.specs.Events.{numbered, standing}
use Rattle.session_model.specs.Growth.{GrownInOrder}
use Rattle.flow_recover.specs.Receiving.{announced, retransmitted, number, seen}
use Rattle.flow_recover.specs.Laws.{Arrival, announcement, retransmission, message, event_of, given}
use Rattle.flow_recover.proofs.Chains.{number_counted}
use Rattle.flow_window.specs.Gathering.{Gathering, after_held, ready, all_dropped}
use Rattle.flow_window.specs.Laws.{taken, kept, window_of, delivered, behind, DeliversWhatIsTaken, GrowsRecoverable, GrowsLater}
use Rattle.flow_window.proofs.Taken.{holds_what_came, grows_with_window}

-- a message takes one number
counted : (g : Gathering) (payload : List ℕ) → number (all_dropped (after_held g payload)).numbers ≡ number g.numbers + 1
counted g payload = number_counted g.numbers.next g.numbers.live g.numbers.again

pub delivers_what_is_taken : DeliversWhatIsTaken
delivers_what_is_taken g [] = (refl, refl)
delivers_what_is_taken g (announcement who n ∷ later) = delivers_what_is_taken (record g { numbers = announced g.numbers n }) later
delivers_what_is_taken g (retransmission n ∷ later) = delivers_what_is_taken (record g { numbers = retransmitted g.numbers n }) later
delivers_what_is_taken g (message payload ∷ later) =
    let h = after_held g payload in
    let d = all_dropped h in
    let es = map event_of later in
    let rest = delivers_what_is_taken d later in
    let now : delivered d later ≡ taken (window_of d) (numbered (Some (number g.numbers + 1)) es) =
    rest.0 ∙ ap (λ n. taken (window_of d) (numbered (Some n) es)) (counted g payload) in
    let then_held : window_of (behind d later) ≡ kept (window_of d) (numbered (Some (number g.numbers + 1)) es) =
    rest.1 ∙ ap (λ n. kept (window_of d) (numbered (Some n) es)) (counted g payload) in
    (ap (λ ms. given (seen g.numbers) payload ++ (ready h.numbers.next h.held ++ ms)) now, then_held)

pub grows_recoverable : GrowsRecoverable
grows_recoverable g earlier arrivals inbox waits held =
    let ms = numbered (Some (number g.numbers)) (map event_of arrivals) in
    subst (λ got. GrownInOrder earlier ms inbox (inbox ++ map apply got)) (sym (delivers_what_is_taken g arrivals).0)
    (grows_with_window (window_of g) earlier ms inbox waits held)

-- what stands announced behind all that came is the number of the receiver behind it
standing_behind : (g : Gathering) (arrivals : List Arrival)
    → standing (Some (number g.numbers)) (map event_of arrivals) ≡ Some (number (behind g arrivals).numbers)
standing_behind g [] = refl
standing_behind g (announcement who n ∷ later) = standing_behind (record g { numbers = announced g.numbers n }) later
standing_behind g (retransmission n ∷ later) = standing_behind (record g { numbers = retransmitted g.numbers n }) later
standing_behind g (message payload ∷ later) =
    ap (λ n. standing (Some n) (map event_of later)) (sym (counted g payload)) ∙ standing_behind (all_dropped (after_held g payload)) later

pub grows_later : GrowsLater
grows_later g first second inbox none waits =
    let c = Some (number g.numbers) in
    let came = numbered c (map event_of first) in
    let at = behind g first in
    let nothing : AllByRecursion (λ m. Contains [] m) g.held = subst (AllByRecursion (λ (m : Numbered). Contains [] m)) (sym none) tt in
    let held : AllByRecursion (λ m. Contains came m) (kept (window_of g) came).held = (holds_what_came (window_of g) [] came nothing).1 in
    let held_there : AllByRecursion (λ m. Contains came m) at.held =
    subst (λ w. AllByRecursion (λ m. Contains came m) w.held) (sym (delivers_what_is_taken g first).1) held in
    subst (λ s. GrownInOrder came (numbered s (map event_of second)) inbox (inbox ++ map apply (delivered at second)))
    (sym (standing_behind g first)) (grows_recoverable at came second inbox waits held_there)
