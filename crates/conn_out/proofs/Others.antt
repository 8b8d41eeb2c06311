-- Lines behind a text that tell of no applied message.
use Rattle.std.proofs.Common.{◌≡◌, ℕ, List, [], ◌∷◌, ◌++◌, get_or, refl, ap, subst, append-nil, codes, decimal, arith}
use Rattle.std.proofs.lemmas.List.Elements.{All-nil, All-cons}
use Rattle.session_model.specs.Inbox.{Numbered}
use Rattle.fixp_replies.specs.declared.act.Ending.{Ending}
use Rattle.fixp_replies.specs.declared.act.Ending.TheVariants as endings
use Rattle.gw_lines.specs.Lines.{IsFeedless}
use Rattle.gw_lines.proofs.Steps.{feedless_append}
use Rattle.conn_lines.specs.Lines.{number_of, ending_words, words_of}
use Rattle.conn_lines.specs.declared.close.Close.{Close}
use Rattle.conn_lines.specs.declared.close.Close.TheVariants as closes
use Rattle.conn_tail.specs.Tails.{TellsNothing}
use Rattle.conn_out.specs.Projections.{Tells}
use Rattle.conn_out.specs.Laws.{OthersTellOn}
use Rattle.conn_out.proofs.Lines.{one_feedless, decimal_feedless, feedless_above, tells_on}

-- one line behind a text
line_tells_on : (line text : List ℕ) (ms : List Numbered) → IsFeedless line → TellsNothing line → Tells text ms → Tells (text ++ (line ++ 10 ∷ [])) ms
line_tells_on line text ms feedless none t =
    let one : Tells (line ++ 10 ∷ []) [] =
    record { lines = line ∷ []; each = All-cons IsFeedless line [] feedless (All-nil IsFeedless); bytes = refl; told = (none, tt) } in
    subst (Tells (text ++ (line ++ 10 ∷ []))) (append-nil ms) (tells_on text (line ++ 10 ∷ []) ms [] t one)

-- ---- what the peer did not apply

abbrev not_applied : (from count : ℕ) → List ℕ
not_applied from count = codes "notapplied " ++ decimal from ++ codes " " ++ decimal count

not_applied_feedless : (from count : ℕ) → IsFeedless (not_applied from count)
not_applied_feedless from count =
    feedless_append (codes "notapplied " ++ decimal from ++ codes " ") (decimal count)
    (feedless_append (codes "notapplied " ++ decimal from) (codes " ")
    (feedless_append (codes "notapplied ") (decimal from) (feedless_above (codes "notapplied ") refl) (decimal_feedless from)) (one_feedless 32 (omega arith)))
    (decimal_feedless count)

not_applied_nothing : (from count : ℕ) → TellsNothing (not_applied from count)
not_applied_nothing from count number h = let first : 110 ≡ 100 = ap (λ (bytes : List ℕ). get_or bytes 0 0) h.written in omega (arith, first)

-- ---- how a connection ended

ending_feedless : (ending : Ending) → IsFeedless (ending_words ending)
ending_feedless endings.Finished = feedless_above (codes "finished") refl
ending_feedless (endings.PeerTerminated code) = feedless_append (codes "terminated ") (decimal code) (feedless_above (codes "terminated ") refl) (decimal_feedless code)
ending_feedless endings.LinkEnded = feedless_above (codes "link-ended") refl
ending_feedless (endings.Rejected template code) =
    feedless_append (codes "rejected " ++ decimal template ++ codes " ") (decimal code)
    (feedless_append (codes "rejected " ++ decimal template) (codes " ")
    (feedless_append (codes "rejected ") (decimal template) (feedless_above (codes "rejected ") refl) (decimal_feedless template)) (one_feedless 32 (omega arith)))
    (decimal_feedless code)
ending_feedless (endings.Violation violation) =
    feedless_append (codes "violation ") (decimal (number_of violation)) (feedless_above (codes "violation ") refl) (decimal_feedless (number_of violation))

words_feedless : (close : Close) → IsFeedless (words_of close)
words_feedless (closes.Ended ending) = ending_feedless ending
words_feedless closes.LinkFault = feedless_above (codes "link-fault") refl

abbrev connection : ℕ → Close → List ℕ
connection number close = codes "connection " ++ decimal number ++ codes " " ++ words_of close

connection_feedless : (number : ℕ) (close : Close) → IsFeedless (connection number close)
connection_feedless number close =
    feedless_append (codes "connection " ++ decimal number ++ codes " ") (words_of close)
    (feedless_append (codes "connection " ++ decimal number) (codes " ")
    (feedless_append (codes "connection ") (decimal number) (feedless_above (codes "connection ") refl) (decimal_feedless number)) (one_feedless 32 (omega arith)))
    (words_feedless close)

connection_nothing : (number : ℕ) (close : Close) → TellsNothing (connection number close)
connection_nothing number close n h = let first : 99 ≡ 100 = ap (λ (bytes : List ℕ). get_or bytes 0 0) h.written in omega (arith, first)

pub others_tell_on : OthersTellOn
others_tell_on = record {
  not_applied = λ text ms from count t. line_tells_on (not_applied from count) text ms (not_applied_feedless from count) (not_applied_nothing from count) t;
  ended = λ text ms number close t. line_tells_on (connection number close) text ms (connection_feedless number close) (connection_nothing number close) t;
}
