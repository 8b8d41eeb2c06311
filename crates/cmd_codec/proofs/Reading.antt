-- The reading of all messages of a text, one after another.
use Rattle.std.proofs.Common.{◌≡◌, ◌≢◌, ℕ, ◌==◌, ◌&&◌, Bool, true, false, if◌then◌else◌, List, [], ◌∷◌, ◌++◌, Some, None, Ok, Err, refl, ap}
use Rattle.std.proofs.lemmas.Bool.{false≢true}
use Rattle.sbe_value.specs.declared.message.Message.{Message}
use Rattle.sbe_layout.specs.declared.plan.Plan.{Plan}
use Rattle.sbe_text.specs.declared.error.Refusal.{Refusal}
use Rattle.sbe_text.specs.declared.error.Refusal.TheVariants.{At, Memory}
use Rattle.sbe_text.specs.Answers.{Fails}
use Rattle.text_words.specs.Lines.{lines_in, in_first, begins_with}
use Rattle.text_names.specs.Fronts.{front_of}
use Rattle.cmd_codec.specs.Encoding.{Spelled, HasRead, Reads}
use Rattle.cmd_codec.proofs.Rows.{all-on, read-more}

-- bytes have a line at least
line-some : (t u : Bool) (b : ℕ) (ls other : List (List ℕ)) → (u ≡ true → other ≡ [] → ⊥) → (if t then [] ∷ ls else (if u then other else in_first b ls)) ≡ [] → ⊥
line-some true u b ls other some e = cc
line-some false true b ls other some e = some refl e
line-some false false b [] other some e = cc
line-some false false b (l ∷ ls) other some e = cc

and-false : (t : Bool) → (t && false) ≡ true → ⊥
and-false true e = false≢true e
and-false false e = false≢true e

pub lines-some : (b : ℕ) (bs : List ℕ) → lines_in (b ∷ bs) ≡ [] → ⊥
lines-some b [] = line-some (b == 10) (b == 13 && false) b (lines_in []) (lines_in []) (λ e. absurd (and-false (b == 13) e))
lines-some b (c ∷ cs) = line-some (b == 10) (b == 13 && begins_with 10 (c ∷ cs)) b (lines_in (c ∷ cs)) (lines_in (c ∷ cs)) (λ e. lines-some c cs)

pub some-lines : (bytes : List ℕ) → bytes ≢ [] → lines_in bytes ≢ []
some-lines [] some = absurd (some refl)
some-lines (b ∷ bs) some = lines-some b bs

pub none-yet : (plan : Plan) (text : List ℕ) → HasRead plan text text
none-yet plan text = record { messages = []; read = refl }

pub one-more : (plan : Plan) (text left rest : List ℕ) (m : Message) → HasRead plan text left → front_of plan (lines_in left) ≡ Ok (Some (m, lines_in rest)) → HasRead plan text rest
one-more plan text left rest m h e = record { messages = h.messages ++ m ∷ []; read = read-more plan (lines_in text) h.messages (lines_in left) m (lines_in rest) h.read e }

pub all_read : (plan : Plan) (text left : List ℕ) → HasRead plan text left → front_of plan (lines_in left) ≡ Ok None → Spelled plan text
all_read plan text left h none = record { messages = h.messages ++ []; read = all-on plan (lines_in text) h.messages [] (lines_in left) h.read none }

-- nothing is left
pub empty_read : (plan : Plan) (text left : List ℕ) → HasRead plan text left → left ≡ [] → Spelled plan text
empty_read plan text left h none = all_read plan text left h (ap (λ (l : List ℕ). front_of plan (lines_in l)) none)

pub refused : (A : Type 0) (plan : Plan) (text left : List ℕ) (r : Refusal) → HasRead plan text left → left ≢ [] → Fails r (front_of plan (lines_in left)) → Reads {A = A} plan text (Err r)
refused A plan text left (At at) h some told = record { messages = h.messages; behind = lines_in left; read = h.read; more = some-lines left some; refused = told }
refused A plan text left Memory h some told = tt
