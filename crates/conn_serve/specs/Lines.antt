-- The lines on OUT of a life (this project's profile).
use Rattle.std.specs.Prelude.{ℕ, ◌+◌, List, [], ◌∷◌, ◌++◌, Option, Some, None}
use Rattle.conn_turns.specs.declared.news.NewsItem.{NewsItem}
use Rattle.conn_turns.specs.declared.news.NewsItem.TheVariants as items
use Rattle.conn_lines.specs.declared.close.Close.{Close}
use Rattle.conn_lines.specs.Lines.{deliver_line, not_applied_line, connection_line}
use Rattle.conn_serve.specs.Connections.{Connection}

-- the line of a piece of news
abbrev pub news_line : NewsItem → List ℕ
news_line (items.Delivered number payload) = deliver_line number payload
news_line (items.NotApplied from count) = not_applied_line from count

abbrev pub news_lines : List NewsItem → List ℕ
news_lines [] = []
news_lines (item ∷ later) = news_line item ++ news_lines later

-- the line of the end of the connection of this number; one that was given up has none
abbrev pub close_line : ℕ → Option Close → List ℕ
close_line n None = []
close_line n (Some close) = connection_line n close

-- the lines of connections, the first of which has the number n: of each its news, and then its end
abbrev pub lines_from : ℕ → List Connection → List ℕ
lines_from n [] = []
lines_from n (c ∷ later) = (news_lines c.news ++ close_line n c.close) ++ lines_from (n + 1) later
