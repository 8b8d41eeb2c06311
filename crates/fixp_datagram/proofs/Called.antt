-- The calls for some datagrams are their deliveries, and deliveries are events of the world.
use Rattle.std.proofs.Common.{◌≡◌, ℕ, List, [], ◌∷◌, ◌++◌, map, slice_get, Some, refl, sym, ap, ◌∙◌, append_assoc, append-nil}
use Rattle.std.specs.List.{flat_map}
use Rattle.fixp_datagram.specs.declared.receiver.Start.{Start}
use Rattle.fixp_datagram.specs.declared.receiver.Start.TheVariants.{Plain, Missing, TooLarge}
use Rattle.fixp_datagram.specs.Datagrams.{Contents}
use Rattle.fixp_datagram.specs.Receiving.{Receiver, start_of, started, seen, counted}
use Rattle.fixp_datagram.specs.Delivering.{missing, told, told_all, counted_all, reports_behind, received_behind, reports, received, recorded, Delivery, deliveries, received_all}
use Rattle.fixp_datagram.specs.Calls.{Call, start, app, called, start_told, reported, calls_behind, calls_of}
use Rattle.fixp_datagram.specs.World.{World, deliver, delivered_to, happens, run}
use Rattle.fixp_datagram.specs.Laws.{CallsAreDeliveries, DeliveriesAreEvents}
use Rattle.fixp_datagram.proofs.Chained.{recorded-append}

-- calls in two parts
called-append : (r : Receiver) (first second : List Call) → called r (first ++ second) ≡ called (called r first) second
called-append r [] second = refl
called-append r (start n ∷ first) second = called-append (started r n) first second
called-append r (app p ∷ first) second = called-append (counted r) first second

reported-append : (r : Receiver) (first second : List Call) → reported r (first ++ second) ≡ reported r first ++ reported (called r first) second
reported-append r [] second = refl
reported-append r (start n ∷ first) second =
    ap (λ rs. start_told (start_of r n) ++ rs) (reported-append (started r n) first second)
    ∙ sym (append_assoc (start_told (start_of r n)) (reported (started r n) first) (reported (called (started r n) first) second))
reported-append r (app p ∷ first) second =
    ap (λ rs. told (seen r) p ++ rs) (reported-append (counted r) first second)
    ∙ sym (append_assoc (told (seen r) p) (reported (counted r) first) (reported (called (counted r) first) second))

-- the messages of a datagram
called_messages : (r : Receiver) (ps : List (List ℕ)) → called r (map app ps) ≡ counted_all r ps
called_messages r [] = refl
called_messages r (p ∷ ps) = called_messages (counted r) ps

reported_messages : (r : Receiver) (ps : List (List ℕ)) → reported r (map app ps) ≡ told_all r ps
reported_messages r [] = refl
reported_messages r (p ∷ ps) = ap (λ rs. told (seen r) p ++ rs) (reported_messages (counted r) ps)

called_behind : (s : Start) (r : Receiver) (ps : List (List ℕ)) → called r (calls_behind s ps) ≡ received_behind s r ps
called_behind Plain r ps = called_messages r ps
called_behind (Missing range) r ps = called_messages r ps
called_behind TooLarge r ps = refl

reported_behind : (s : Start) (r : Receiver) (ps : List (List ℕ)) → start_told s ++ reported r (calls_behind s ps) ≡ reports_behind s r ps
reported_behind Plain r ps = reported_messages r ps
reported_behind (Missing range) r ps = ap (λ rs. missing range ∷ rs) (reported_messages r ps)
reported_behind TooLarge r ps = refl

-- one datagram
called_one : (r : Receiver) (d : Contents) → called r (start d.first ∷ calls_behind (start_of r d.first) d.payloads) ≡ received r d
called_one r d = called_behind (start_of r d.first) (started r d.first) d.payloads

reported_one : (r : Receiver) (d : Contents) → reported r (start d.first ∷ calls_behind (start_of r d.first) d.payloads) ≡ reports r d
reported_one r d = reported_behind (start_of r d.first) (started r d.first) d.payloads

called_all : (r : Receiver) (ds : List Contents) → called r (calls_of r ds) ≡ received_all r ds
called_all r [] = refl
called_all r (d ∷ ds) =
    called-append r (start d.first ∷ calls_behind (start_of r d.first) d.payloads) (calls_of (received r d) ds)
    ∙ (ap (λ r'. called r' (calls_of (received r d) ds)) (called_one r d) ∙ called_all (received r d) ds)

reported_all : (r : Receiver) (ds : List Contents) → reported r (calls_of r ds) ≡ flat_map (λ (x : Delivery). x.reports) (deliveries r ds)
reported_all r [] = refl
reported_all r (d ∷ ds) =
    let later = calls_of (received r d) ds in
    reported-append r (start d.first ∷ calls_behind (start_of r d.first) d.payloads) later
    ∙ (ap (λ rs. rs ++ reported (called r (start d.first ∷ calls_behind (start_of r d.first) d.payloads)) later) (reported_one r d)
    ∙ (ap (λ r'. reports r d ++ reported r' later) (called_one r d)
    ∙ ap (λ rs. reports r d ++ rs) (reported_all (received r d) ds)))

pub calls_are_deliveries : CallsAreDeliveries
calls_are_deliveries r ds = (reported_all r ds, called_all r ds)

-- deliveries of what was written
pub deliveries_are_events : DeliveriesAreEvents
deliveries_are_events w [] [] e = record { receiver = refl; inbox = sym (append-nil w.inbox); delivered = sym (append-nil w.delivered) }
deliveries_are_events w [] (d ∷ ds) e = absurd (cc e)
deliveries_are_events w (place ∷ places) [] e = absurd (cc e)
deliveries_are_events w (place ∷ places) (d ∷ ds) e =
    let here : slice_get w.written place ≡ Some d = cc e in
    let later : map (slice_get w.written) places ≡ map Some ds = cc e in
    let next = delivered_to w (Some d) in
    let same : run (map deliver places) (happens w (deliver place)) ≡ run (map deliver places) next =
    ap (λ o. run (map deliver places) (delivered_to w o)) here in
    let rest = deliveries_are_events next places ds later in
    let told = recorded (reports w.receiver d) in
    let behind = flat_map (λ (x : Delivery). x.reports) (deliveries (received w.receiver d) ds) in
    record {
      receiver = ap (λ (x : World). x.receiver) same ∙ rest.receiver;
      inbox = ap (λ (x : World). x.inbox) same
          ∙ (rest.inbox
          ∙ (append_assoc w.inbox told (recorded behind)
          ∙ ap (λ rs. w.inbox ++ rs) (sym (recorded-append (reports w.receiver d) behind))));
      delivered = ap (λ (x : World). x.delivered) same ∙ (rest.delivered ∙ append_assoc w.delivered (d ∷ []) ds);
    }
