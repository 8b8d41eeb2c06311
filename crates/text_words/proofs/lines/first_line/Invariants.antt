use Rattle.std.proofs.Common.{◌≡◌, true, take}
use Rattle.text_words.proofs.Feeds.{no_feeds}
use Rattle.text_words.proofs.lines.first_line.Given as goal

abbrev pub invariant-loop-at : goal.invariant-loop-at
invariant-loop-at l = no_feeds (take l.at l.text) ≡ true
