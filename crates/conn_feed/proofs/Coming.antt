-- What comes of the lines of a piece.
use Rattle.std.proofs.Common.{◌≡◌, ℕ, zero, suc, ◌+◌, List, [], ◌∷◌, ◌++◌, length, take, refl, ap, arith}
use Rattle.std.specs.Prelude.{Option, Some, None, All}
use Rattle.std.proofs.lemmas.List.Elements.{All-nil, All-cons}
use Rattle.session_model.specs.Journal.{Entry}
use Rattle.jr_kept.specs.Entries.{entries_behind}
use Rattle.jr_boxes.specs.declared.faults.SubmitFault.{SubmitFault}
use Rattle.jr_boxes.specs.declared.faults.SubmitFault.TheVariants as submit
use Rattle.conn_accepted.specs.declared.why.Why.{Why}
use Rattle.plan_text.specs.Plans.{Gives, AreGiven}
use Rattle.conn_feed.specs.Words.{Word, accepted, refused, alike, entries_in, GivesSome, IsWhy, CameOfEach, IsClear}
use Rattle.conn_feed.specs.Fed.{gifts_to}
use Rattle.conn_feed.specs.Ends.{why_of}
use Rattle.conn_feed.specs.Course.{accepted_from, rest_words}

-- one more line
pub came_more : (n : ℕ) (lines more : List (List ℕ)) (ws vs : List Word) → CameOfEach n lines ws → CameOfEach n more vs → CameOfEach n (lines ++ more) (ws ++ vs)
came_more n [] more [] vs c d = d
came_more n [] more (w ∷ ws) vs c d = absurd c
came_more n (line ∷ lines) more [] vs c d = absurd c
came_more n (line ∷ lines) more (w ∷ ws) vs c d = (c.0, came_more n lines more ws vs c.1 d)

pub came_long : (n : ℕ) (lines : List (List ℕ)) (ws : List Word) → CameOfEach n lines ws → length ws ≡ length lines
came_long n [] [] c = refl
came_long n [] (w ∷ ws) c = absurd c
came_long n (line ∷ lines) [] c = absurd c
came_long n (line ∷ lines) (w ∷ ws) c = ap suc (came_long n lines ws c.1)

why_given : (n : ℕ) (line : List ℕ) (f : SubmitFault) → GivesSome n line → IsWhy n line (why_of f)
why_given n line submit.Broken g = g
why_given n line submit.Closed g = g
why_given n line (submit.Full entries bytes) g = g
why_given n line submit.Memory g = g
why_given n line submit.Fault g = g

-- lines that give payloads to a sender: the first of them were accepted, and the others refused
pub came_piece : (n s k own c m : ℕ) (o : Option SubmitFault) (held : List (List ℕ)) (ps : List (List ℕ)) → m + c ≡ length ps → (o ≡ None → m ≡ 0) → AreGiven n held (gifts_to s ps)
    → CameOfEach n held (accepted_from k (entries_behind s own (take c ps)) ++ rest_words o m)
came_piece n s k own c m o [] (p ∷ ps) long all given = absurd given
came_piece n s k own c m o (line ∷ held) [] long all given = absurd given
came_piece n s k own (suc c) m o [] [] long all given = absurd (omega (arith, long))
came_piece n s k own zero (suc m) o [] [] long all given = absurd (omega (arith, long))
came_piece n s k own zero zero None [] [] long all given = tt
came_piece n s k own zero zero (Some f) [] [] long all given = tt
came_piece n s k own zero zero o (line ∷ held) (p ∷ ps) long all given = absurd (omega (arith, long))
came_piece n s k own zero (suc m) None (line ∷ held) (p ∷ ps) long all given = let none = all refl in absurd (omega (arith, none))
came_piece n s k own zero (suc m) (Some f) (line ∷ held) (p ∷ ps) long all given =
    (why_given n line f (record { sender = s; payload = p }, given.0), came_piece n s k own zero m (Some f) held ps (omega (arith, long)) (λ e. cc e) given.1)
came_piece n s k own (suc c) m o (line ∷ held) (p ∷ ps) long all given = (given.0, came_piece n s (k + 1) (own + 1) c m o held ps (omega (arith, long)) all given.1)

pub given_long : (n s : ℕ) (held : List (List ℕ)) (ps : List (List ℕ)) → AreGiven n held (gifts_to s ps) → length held ≡ length ps
given_long n s [] [] g = refl
given_long n s [] (p ∷ ps) g = absurd g
given_long n s (line ∷ held) [] g = absurd g
given_long n s (line ∷ held) (p ∷ ps) g = ap suc (given_long n s held ps g.1)

-- one line more gives one payload more
pub given_more : (n s : ℕ) (held : List (List ℕ)) (ps : List (List ℕ)) (line p : List ℕ) → AreGiven n held (gifts_to s ps) → Gives n line (record { sender = s; payload = p })
    → AreGiven n (held ++ line ∷ []) (gifts_to s (ps ++ p ∷ []))
given_more n s [] [] line p g one = (one, tt)
given_more n s [] (q ∷ ps) line p g one = absurd g
given_more n s (l ∷ held) [] line p g one = absurd g
given_more n s (l ∷ held) (q ∷ ps) line p g one = (g.0, given_more n s held ps line p g.1 one)

-- the entries of what was accepted
pub entries_append : (ws vs : List Word) → entries_in (ws ++ vs) ≡ entries_in ws ++ entries_in vs
entries_append [] vs = refl
entries_append (accepted n e ∷ ws) vs = ap (λ (es : List Entry). e ∷ es) (entries_append ws vs)
entries_append (refused why ∷ ws) vs = entries_append ws vs

pub entries_accepted : (k : ℕ) (es : List Entry) (vs : List Word) → entries_in (accepted_from k es ++ vs) ≡ es ++ entries_in vs
entries_accepted k [] vs = refl
entries_accepted k (e ∷ es) vs = ap (λ (fs : List Entry). e ∷ fs) (entries_accepted (k + 1) es vs)

pub entries_rest : (o : Option SubmitFault) (c : ℕ) → entries_in (rest_words o c) ≡ []
entries_rest None c = refl
entries_rest (Some f) zero = refl
entries_rest (Some f) (suc c) = entries_rest (Some f) c

pub clear_accepted : (k : ℕ) (es : List Entry) → All IsClear (accepted_from k es)
clear_accepted k [] = All-nil IsClear
clear_accepted k (e ∷ es) = All-cons IsClear (accepted k e) (accepted_from (k + 1) es) tt (clear_accepted (k + 1) es)

pub accepted_long : (k : ℕ) (es : List Entry) → length (accepted_from k es) ≡ length es
accepted_long k [] = refl
accepted_long k (e ∷ es) = ap suc (accepted_long (k + 1) es)

pub alike_long : (why : Why) (c : ℕ) → length (alike why c) ≡ c
alike_long why zero = refl
alike_long why (suc c) = ap suc (alike_long why c)
