use Rattle.std.proofs.Common.{◌≡◌, ◌++◌, drop}
use Rattle.conn_serve.specs.Lines.{news_lines}
use Rattle.conn_serve.proofs.news.push_items.Given as goal

-- what is written, followed by the lines that are left, is all
abbrev pub invariant-loop-item : goal.invariant-loop-item
invariant-loop-item l = l.lines.items ++ news_lines (drop l.item-index l.items) ≡ l.initial.lines.items ++ news_lines l.items
