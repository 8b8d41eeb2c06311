use Rattle.std.proofs.Common.{rules, ◌≡◌, ◌+◌, ◌-◌, ◌≤◌, List, ℕ, ◌∷◌, [], ◌++◌, length, take, min, sym, ap, ◌∙◌, arith, append_assoc, length-take}
use Rattle.std.specs.Vec.Iter.{drain_items}
use Rattle.session_model.specs.Inbox.{Numbered}
use Rattle.conn_turns.specs.declared.news.NewsItem.{NewsItem}
use Rattle.conn_turns.specs.declared.news.NewsItem.TheVariants as items
use Rattle.conn_turns.specs.News.{items_of, HasRoom}
use Rattle.conn_turns.specs.Frames.{delivers}
use Rattle.conn_turns.specs.Gathering.{numbered_from}
use Rattle.conn_steps.specs.Gathered.{payloads_in}
use Rattle.conn_steps.proofs.Numbers.{take-numbered, take-most}
use Rattle.conn_steps.proofs.gathered.Gathered.tell.Goals as goal

pub loop-payload-init : goal.loop-payload-init
loop-payload-init c =
    let count = c.args.past - c.args.first in
    let payloads = payloads_in c.args.self.now in
    let least : c.min-count.result ≡ min count (length payloads) = c.min-count.ensures ∙ ap (λ (ps : List (List ℕ)). min count (length ps)) c.as_slice.ensures.value in
    let drained : drain_items c.into_iter-payload-iterator.result ≡ take count payloads =
    ap (λ d. drain_items d) c.into_iter-payload-iterator.ensures.into_iter_gives ∙ (c.drain-payload-items.ensures.rest ∙ (ap (λ (n : ℕ). take n payloads) (omega (arith, least)) ∙ take-most count payloads)) in
    let few : length (drain_items c.into_iter-payload-iterator.result) ≡ length (take count payloads) = ap (λ (ps : List (List ℕ)). length ps) drained in
    record {
      next = tt;
      finite = tt;
      all = ap (λ (ps : List (List ℕ)). items_of c.args.news.now ++ delivers (numbered_from c.args.first ps)) drained
          ∙ ap (λ (ms : List Numbered). items_of c.args.news.now ++ delivers ms) (sym (take-numbered count c.args.first payloads));
      room = omega (arith, few, length-take count payloads, c.requires.room);
      numbers = omega (arith, few, length-take count payloads, c.requires.order);
    }

pub loop-payload-preserved : goal.loop-payload-preserved
loop-payload-preserved c =
    let before = c.loop-payload.invariant in
    let rest = drain_items c.next.new.self in
    let n = c.loop-payload.number in
    let cons : drain_items c.loop-payload.payload-iterator ≡ c.in-Some.payload ∷ rest = search rules in
    let few : length (drain_items c.loop-payload.payload-iterator) ≡ length rest + 1 = omega (arith, ap (λ (ps : List (List ℕ)). length ps) cons) in
    record {
      next = tt;
      finite = tt;
      all = ap (λ (ns : List NewsItem). ns ++ delivers (numbered_from (n + 1) rest)) c.push.ensures.items
          ∙ (append_assoc (items_of c.loop-payload.news) (items.Delivered n c.in-Some.payload ∷ []) (delivers (numbered_from (n + 1) rest))
          ∙ (ap (λ (ps : List (List ℕ)). items_of c.loop-payload.news ++ delivers (numbered_from n ps)) (sym cons) ∙ before.all));
      room = c.push.ensures.room (length rest) (omega (arith, before.room, few));
      numbers = omega (arith, before.numbers, few);
    }
