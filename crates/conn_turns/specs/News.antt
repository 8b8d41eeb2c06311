-- What a turn tells beside its answer: what was delivered, and what the peer did not apply (this project's profile).
use Rattle.std.specs.Prelude.{◌+◌, ◌≤◌, ℕ, List, [], ◌∷◌, vec_len, vec_capacity}
use Rattle.fixp_replies.specs.declared.act.Act.{Act}
use Rattle.fixp_replies.specs.declared.act.Act.TheVariants as acts
use Rattle.fixp_replies.specs.Incoming.{Incoming}
use Rattle.fixp_replies.specs.Incoming.{payload_in}
use Rattle.conn_turns.specs.declared.news.News.{News}
use Rattle.conn_turns.specs.declared.news.NewsItem.{NewsItem}
use Rattle.conn_turns.specs.declared.news.NewsItem.TheVariants as items

-- the items, in order
abbrev pub items_of : News → List NewsItem
items_of news = news.items.items

-- there is room for so many more
abbrev pub HasRoom : News → ℕ → Type 0
HasRoom news count = vec_len news.items + count ≤ vec_capacity news.items

-- what an act tells once it is done: a message that is applied is delivered, and a NotApplied that was read is handed on
abbrev pub told_by : Act → Incoming → List NewsItem
told_by acts.Nothing i = []
told_by (acts.Apply number) i = items.Delivered number (payload_in i) ∷ []
told_by (acts.Skip from count) i = []
told_by acts.Negotiated i = []
told_by (acts.PeerFinished last) i = []
told_by (acts.Told from count) i = items.NotApplied from count ∷ []
told_by acts.Ended i = []

-- the payloads of the messages that were delivered, in order
abbrev pub delivered_in : List NewsItem → List (List ℕ)
delivered_in [] = []
delivered_in (items.Delivered number payload ∷ later) = payload ∷ delivered_in later
delivered_in (items.NotApplied from count ∷ later) = delivered_in later
