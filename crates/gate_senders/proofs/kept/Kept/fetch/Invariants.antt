use Rattle.std.proofs.Common.{◌≡◌, ◌-◌, true, take, drop}
use Rattle.std.specs.List.{All}
use Rattle.session_model.specs.Inbox.{Numbered}
use Rattle.fixp_msgs.specs.Payload.{IsApplication}
use Rattle.jr_record.specs.Records.{IsPayload}
use Rattle.gate_senders.specs.Kept.{numbered_from, StaysSound}
use Rattle.gate_senders.specs.Told.{told_by}
use Rattle.gate_senders.proofs.Fetching.{numbers_of}
use Rattle.gate_senders.proofs.kept.Kept.fetch.Given as goal

abbrev pub invariant-loop-number : goal.invariant-loop-number
invariant-loop-number g l = record {
  same : ((told_by l.self).history ≡ (told_by l.fn.self).history) × ((told_by l.self).refused ≡ (told_by l.fn.self).refused);
  numbers : numbers_of l.list.items ≡ numbers_of (numbered_from l.from (take (l.number - l.from) (drop (l.from - 1) (told_by l.fn.self).history.made)));
  given : g.J.Journal.tells → l.list.items ≡ numbered_from l.from (take (l.number - l.from) (drop (l.from - 1) (told_by l.fn.self).history.made));
  sizes : All (λ (m : Numbered). IsPayload m.payload) l.list.items;
  applications : All (λ (m : Numbered). IsApplication m.payload) l.list.items;
  sound : StaysSound (told_by l.fn.self) (told_by l.self);
  broken : (told_by l.self).broken ≡ true → (told_by l.fn.self).broken ≡ true;
}
