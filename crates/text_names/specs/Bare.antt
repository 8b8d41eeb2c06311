-- A line without its indentation, its comment and the blanks at its end, and a text cut at a byte (this project's profile).
use Rattle.std.specs.Prelude.{ℕ, ◌==◌, ◌||◌, Bool, false, if◌then◌else◌, Option, Some, None, List, [], ◌∷◌}
use Rattle.std.specs.Option.{option_map}
use Rattle.text_names.specs.declared.bare.Quote.{Quote}
use Rattle.text_names.specs.declared.bare.Quote.TheVariants.{Outside, Inside, Escaped}

-- ---- blanks: the space (32), the tab (9), the carriage return (13)

abbrev pub is_blank : ℕ → Bool
is_blank byte = byte == 32 || (byte == 9 || byte == 13)

-- without the blanks at its front
abbrev pub unindented : List ℕ → List ℕ
unindented [] = []
unindented (b ∷ bs) = if is_blank b then unindented bs else b ∷ bs

-- a byte and what is left behind it, where a blank at the end goes
abbrev pub unless_last : ℕ → List ℕ → List ℕ
unless_last b [] = if is_blank b then [] else b ∷ []
unless_last b (c ∷ cs) = b ∷ c ∷ cs

-- without the blanks at its end
abbrev pub unended : List ℕ → List ℕ
unended [] = []
unended (b ∷ bs) = unless_last b (unended bs)

abbrev pub trimmed : List ℕ → List ℕ
trimmed text = unended (unindented text)

-- ---- comments: from a `#` (35) that stands between no quotes to the line's end

-- where the next byte stands: a quote (34) begins and ends a text in quotes, in which a backslash (92) takes the byte behind it
abbrev pub turned : Quote → ℕ → Quote
turned Outside b = if b == 34 then Inside else Outside
turned Inside b = if b == 34 then Outside else (if b == 92 then Escaped else Inside)
turned Escaped b = Inside

abbrev pub begins_comment : Quote → ℕ → Bool
begins_comment Outside b = b == 35
begins_comment Inside b = false
begins_comment Escaped b = false

abbrev pub uncommented : Quote → List ℕ → List ℕ
uncommented at [] = []
uncommented at (b ∷ bs) = if begins_comment at b then [] else b ∷ uncommented (turned at b) bs

-- a line without all these
abbrev pub bare : List ℕ → List ℕ
bare line = trimmed (uncommented Outside line)

-- ---- what stands in front of the first such byte, and what behind it

abbrev pub behind_one : ℕ → List ℕ × List ℕ → List ℕ × List ℕ
behind_one b p = (b ∷ p.0, p.1)

abbrev pub cut_at : ℕ → List ℕ → Option (List ℕ × List ℕ)
cut_at byte [] = None
cut_at byte (b ∷ bs) = if b == byte then Some ([], bs) else option_map (behind_one b) (cut_at byte bs)
