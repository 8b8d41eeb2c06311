-- A datagram that is taken, step by step: what it jumps over, and then what its messages have delivered.
use Rattle.std.proofs.Common.{◌≡◌, ℕ, ◌+◌, ◌≤◌, max, Bool, true, if◌then◌else◌, List, ◌++◌, map, length, Option, Some, None, option_map, option_to_list, refl, ap, ◌∙◌, arith}
use Rattle.std.proofs.lemmas.Bool.Decides.{nat_tests}
use Rattle.session_model.specs.Inbox.{InboxRecord, apply}
use Rattle.session_model.specs.Growth.{chain}
use Rattle.fixp_msgs.specs.declared.numbering.Range.{Range}
use Rattle.flow_idem.specs.Laws.{skipped}
use Rattle.fixp_datagram.specs.declared.receiver.Start.TheVariants.{TooLarge}
use Rattle.fixp_datagram.specs.Datagrams.{Contents}
use Rattle.fixp_datagram.specs.Receiving.{Receiver, may_begin, missed, next_behind, start_with, start_of, started}
use Rattle.fixp_datagram.specs.Delivering.{told_all, counted_all, recorded, reports_behind, received_behind, reports, received}
use Rattle.fixp_datagram.proofs.Chained.{inside, messages_from, told_chain, Behind, counted_behind}

-- the record of what is jumped over, if anything is
abbrev pub jump_records : Option Range → List InboxRecord
jump_records o = option_to_list (option_map skipped o)

pub may_begin_at : (most n : ℕ) → 1 ≤ n → n ≤ most + 1 → may_begin most n ≡ true
may_begin_at most n least greatest = grind (arith, nat_tests)

-- the receiver once a datagram that may begin so has begun
begun_inside : (r : Receiver) (n : ℕ) → may_begin r.most n ≡ true → started r n ≡ inside r.flow (next_behind r.flow r.next n) r.most (max r.known n) n
begun_inside r n may =
    ap (λ (b : Bool). if b then inside r.flow (next_behind r.flow r.next n) r.most (max r.known n) n else record r { counting = None }) may

begun_answer : (r : Receiver) (n : ℕ) → may_begin r.most n ≡ true → start_of r n ≡ start_with (missed r.flow r.next n)
begun_answer r n may = ap (λ (b : Bool). if b then start_with (missed r.flow r.next n) else TooLarge) may

reports_with : (o : Option Range) (r : Receiver) (ps : List (List ℕ)) → recorded (reports_behind (start_with o) r ps) ≡ jump_records o ++ recorded (told_all r ps)
reports_with None r ps = refl
reports_with (Some range) r ps = refl

received_with : (o : Option Range) (r : Receiver) (ps : List (List ℕ)) → received_behind (start_with o) r ps ≡ counted_all r ps
received_with None r ps = refl
received_with (Some range) r ps = refl

-- what is recorded of a datagram whose numbers are all within the greatest
pub records_taken : (r : Receiver) (d : Contents) → 1 ≤ d.first → d.first + length d.payloads ≤ r.most + 1
    → recorded (reports r d)
    ≡ jump_records (missed r.flow r.next d.first) ++ map apply (chain (next_behind r.flow r.next d.first) (messages_from d.first d.payloads))
records_taken r d least greatest =
    let may : may_begin r.most d.first ≡ true = may_begin_at r.most d.first least (omega arith) in
    let next : ℕ = next_behind r.flow r.next d.first in
    let o : Option Range = missed r.flow r.next d.first in
    ap (λ s. recorded (reports_behind s (started r d.first) d.payloads)) (begun_answer r d.first may)
    ∙ (ap (λ r'. recorded (reports_behind (start_with o) r' d.payloads)) (begun_inside r d.first may)
    ∙ (reports_with o (inside r.flow next r.most (max r.known d.first) d.first) d.payloads
    ∙ ap (λ rs. jump_records o ++ rs) (told_chain r.flow next r.most (max r.known d.first) d.first d.payloads greatest)))

-- and the receiver behind it
pub receiver_behind : (r : Receiver) (d : Contents) → 1 ≤ d.first → d.first + length d.payloads ≤ r.most + 1
    → Behind r.flow (next_behind r.flow r.next d.first) r.most (messages_from d.first d.payloads) (received r d)
receiver_behind r d least greatest =
    let may : may_begin r.most d.first ≡ true = may_begin_at r.most d.first least (omega arith) in
    let next : ℕ = next_behind r.flow r.next d.first in
    let o : Option Range = missed r.flow r.next d.first in
    let same : received r d ≡ counted_all (inside r.flow next r.most (max r.known d.first) d.first) d.payloads =
    ap (λ s. received_behind s (started r d.first) d.payloads) (begun_answer r d.first may)
    ∙ (ap (λ r'. received_behind (start_with o) r' d.payloads) (begun_inside r d.first may)
    ∙ received_with o (inside r.flow next r.most (max r.known d.first) d.first) d.payloads) in
    let there = counted_behind r.flow next r.most (max r.known d.first) d.first d.payloads greatest in
    record {
      same_flow = ap (λ (r' : Receiver). r'.flow) same ∙ there.same_flow;
      same_most = ap (λ (r' : Receiver). r'.most) same ∙ there.same_most;
      waits = ap (λ (r' : Receiver). r'.next) same ∙ there.waits;
    }
