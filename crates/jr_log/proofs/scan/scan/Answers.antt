use Rattle.std.proofs.Common.{◌≡◌, ◌⊎◌, inl, inr, ◌+◌, ◌≤◌, ◌<◌, ◌^◌, ◌++◌, ℕ, List, Bool, true, false, Option, length, take, refl, sym, ◌∙◌, ap, subst, arith, rules}
use Rattle.std.proofs.lemmas.Bool.Decides.{nat_tests}
use Rattle.std.specs.Prelude.{nat_lt, nat_eq}
use Rattle.jr_log.specs.Opening.{Takes, Stops, IsRead}
use Rattle.jr_log.proofs.Scans.{read_taken, read_piece, closed_journal, damaged_journal, told_reads}
use Rattle.jr_log.proofs.scan.scan.Goals as goal

pub returns-in-Closed-clause-list : goal.returns-in-Closed-clause-list
returns-in-Closed-clause-list g c x is =
    let takes = subst (λ (xs : List ℕ). Takes xs c.pieces.records.items c.take_records.new.records.items c.in_ok-rest.rest.now) c.as_slice.ensures.value c.in_ok-rest.ensures.takes in
    let read = read_taken (g.D.Disk.told c.pieces.disk) c.pieces.records.items c.take_records.new.records.items c.pieces.held.items c.in_ok-rest.rest.now c.pieces.at c.pieces.more c.pieces.invariant.read takes in
    closed_journal (g.D.Disk.told c.pieces.disk) c.take_records.new.records.items c.in_ok-rest.rest.now c.pieces.at c.pieces.more read
    (subst (Stops c.in_ok-rest.rest.now c.pieces.more) c.in-Closed.is c.in_ok-rest.ensures.stops) x (c.pieces.invariant.told ∙ is)

pub returns-in-Damaged-clause-refused : goal.returns-in-Damaged-clause-refused
returns-in-Damaged-clause-refused g c x is =
    let takes = subst (λ (xs : List ℕ). Takes xs c.pieces.records.items c.take_records.new.records.items c.in_ok-rest.rest.now) c.as_slice.ensures.value c.in_ok-rest.ensures.takes in
    let read = read_taken (g.D.Disk.told c.pieces.disk) c.pieces.records.items c.take_records.new.records.items c.pieces.held.items c.in_ok-rest.rest.now c.pieces.at c.pieces.more c.pieces.invariant.read takes in
    damaged_journal (g.D.Disk.told c.pieces.disk) c.take_records.new.records.items c.in_ok-rest.rest.now c.pieces.at _ c.pieces.more refl read
    (subst (Stops c.in_ok-rest.rest.now c.pieces.more) c.in-Damaged.is c.in_ok-rest.ensures.stops) x (c.pieces.invariant.told ∙ is)

pub pieces-preserved-then-count-eq-PIECE : goal.pieces-preserved-then-count-eq-PIECE
pieces-preserved-then-count-eq-PIECE g c =
    let told = g.D.Disk.told c.pieces.disk in
    let more = nat_lt (c.pieces.at + c.in_ok-count.count) 1099511627776 in
    let takes = subst (λ (xs : List ℕ). Takes xs c.pieces.records.items c.take_records.new.records.items c.in_ok-rest.rest.now) c.as_slice.ensures.value c.in_ok-rest.ensures.takes in
    let read = read_taken told c.pieces.records.items c.take_records.new.records.items c.pieces.held.items c.in_ok-rest.rest.now c.pieces.at c.pieces.more c.pieces.invariant.read takes in
    let on : c.pieces.more ≡ true = subst (Stops c.in_ok-rest.rest.now c.pieces.more) c.in-Short.is c.in_ok-rest.ensures.stops in
    let same : c.in_ok-next.next.items ≡ c.in_ok-rest.rest.now = search rules in
    let items : c.extend_from_slice.new.self.items ≡ c.in_ok-rest.rest.now ++ take c.in_ok-count.count c.read_at.new.into =
    c.in_ok-extend_from_slice.ensures.items ∙ ap (λ (xs : List ℕ). xs ++ c.split_at.result.0.now) same ∙ ap (λ (xs : List ℕ). c.in_ok-rest.rest.now ++ xs) c.split_at.ensures.front in
    let piece : length c.read_at.new.into ≡ 65536 = search rules in
    let goes_on : more ≡ true → (c.in_ok-count.count ≡ 65536) × (c.pieces.at + c.in_ok-count.count < 2 ^ 40) = λ is. (c.if-count-eq-PIECE.true, grind (arith, nat_tests)) in
    let stops : more ≡ false → (c.in_ok-count.count < 65536) ⊎ (2 ^ 40 ≤ c.pieces.at + c.in_ok-count.count) = λ is. inr (grind (arith, nat_tests)) in
    let next : IsRead told c.take_records.new.records.items c.extend_from_slice.new.self.items (c.pieces.at + c.in_ok-count.count) more =
    read_piece told c.take_records.new.records.items c.in_ok-rest.rest.now c.extend_from_slice.new.self.items c.read_at.new.into c.pieces.at c.in_ok-count.count more
    (subst (λ (b : Bool). IsRead told c.take_records.new.records.items c.in_ok-rest.rest.now c.pieces.at b) on read)
    (told_reads told c.pieces.at c.read_at.new.into c.in_ok-count.count c.in_ok-count.ensures.bytes)
    (λ content is. g.met.D.Disk.limited c.pieces.disk content (g.met.D.Disk.told_is_left c.pieces.disk content is))
    piece (omega (arith, c.in_ok-count.ensures.count)) items goes_on stops in
    record {
      read = subst (λ (t : Option (List ℕ)). IsRead t c.take_records.new.records.items c.extend_from_slice.new.self.items (c.pieces.at + c.in_ok-count.count) more) (sym c.read_at.ensures.content) next;
      told = c.read_at.ensures.content ∙ c.pieces.invariant.told;
      images = λ content. (
        λ left. (c.pieces.invariant.images content).0 ((c.read_at.ensures.images content).0 left),
        λ left. (c.read_at.ensures.images content).1 ((c.pieces.invariant.images content).1 left),
      );
      faults = c.in_ok-count.ensures.cause.risen ∙ c.pieces.invariant.faults;
      piece = piece;
    }

pub pieces-preserved : goal.pieces-preserved
pieces-preserved g c =
    let told = g.D.Disk.told c.pieces.disk in
    let more = nat_eq c.in_ok-count.count 65536 in
    let takes = subst (λ (xs : List ℕ). Takes xs c.pieces.records.items c.take_records.new.records.items c.in_ok-rest.rest.now) c.as_slice.ensures.value c.in_ok-rest.ensures.takes in
    let read = read_taken told c.pieces.records.items c.take_records.new.records.items c.pieces.held.items c.in_ok-rest.rest.now c.pieces.at c.pieces.more c.pieces.invariant.read takes in
    let on : c.pieces.more ≡ true = subst (Stops c.in_ok-rest.rest.now c.pieces.more) c.in-Short.is c.in_ok-rest.ensures.stops in
    let same : c.in_ok-next.next.items ≡ c.in_ok-rest.rest.now = search rules in
    let items : c.extend_from_slice.new.self.items ≡ c.in_ok-rest.rest.now ++ take c.in_ok-count.count c.read_at.new.into =
    c.in_ok-extend_from_slice.ensures.items ∙ ap (λ (xs : List ℕ). xs ++ c.split_at.result.0.now) same ∙ ap (λ (xs : List ℕ). c.in_ok-rest.rest.now ++ xs) c.split_at.ensures.front in
    let piece : length c.read_at.new.into ≡ 65536 = search rules in
    let goes_on : more ≡ true → (c.in_ok-count.count ≡ 65536) × (c.pieces.at + c.in_ok-count.count < 2 ^ 40) = λ is. absurd (grind (arith, nat_tests)) in
    let stops : more ≡ false → (c.in_ok-count.count < 65536) ⊎ (2 ^ 40 ≤ c.pieces.at + c.in_ok-count.count) = λ is. inl (grind (arith, nat_tests)) in
    let next : IsRead told c.take_records.new.records.items c.extend_from_slice.new.self.items (c.pieces.at + c.in_ok-count.count) more =
    read_piece told c.take_records.new.records.items c.in_ok-rest.rest.now c.extend_from_slice.new.self.items c.read_at.new.into c.pieces.at c.in_ok-count.count more
    (subst (λ (b : Bool). IsRead told c.take_records.new.records.items c.in_ok-rest.rest.now c.pieces.at b) on read)
    (told_reads told c.pieces.at c.read_at.new.into c.in_ok-count.count c.in_ok-count.ensures.bytes)
    (λ content is. g.met.D.Disk.limited c.pieces.disk content (g.met.D.Disk.told_is_left c.pieces.disk content is))
    piece (omega (arith, c.in_ok-count.ensures.count)) items goes_on stops in
    record {
      read = subst (λ (t : Option (List ℕ)). IsRead t c.take_records.new.records.items c.extend_from_slice.new.self.items (c.pieces.at + c.in_ok-count.count) more) (sym c.read_at.ensures.content) next;
      told = c.read_at.ensures.content ∙ c.pieces.invariant.told;
      images = λ content. (
        λ left. (c.pieces.invariant.images content).0 ((c.read_at.ensures.images content).0 left),
        λ left. (c.read_at.ensures.images content).1 ((c.pieces.invariant.images content).1 left),
      );
      faults = c.in_ok-count.ensures.cause.risen ∙ c.pieces.invariant.faults;
      piece = piece;
    }
