-- Lines with their feeds are the lines of a text.
use Rattle.std.proofs.Common.{◌≡◌, ℕ, List, [], ◌∷◌, refl, ap, ◌∙◌}
use Rattle.std.proofs.lemmas.List.Elements.{All-head, All-tail}
use Rattle.text_words.specs.Lines.{lines_in, unreturned}
use Rattle.text_words.proofs.Feeds.{first_of_lines, last_of_lines}
use Rattle.gw_lines.specs.Lines.{IsFeedless, with_feeds}
use Rattle.gw_lines.specs.Laws.{last_line, LinesOfAText}
use Rattle.gw_lines.proofs.Streams.{none_is}

last_is : (rest : List ℕ) → IsFeedless rest → lines_in rest ≡ last_line rest
last_is [] h = refl
last_is (b ∷ bs) h = last_of_lines b bs (none_is (b ∷ bs) h)

pub lines_of_a_text : LinesOfAText
lines_of_a_text [] rest each h = last_is rest h
lines_of_a_text (line ∷ lines) rest each h =
    first_of_lines line (with_feeds lines rest) (none_is line (All-head IsFeedless line lines each))
    ∙ ap (λ (ls : List (List ℕ)). unreturned line ∷ ls) (lines_of_a_text lines rest (All-tail IsFeedless line lines each) h)
