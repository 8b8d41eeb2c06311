use Rattle.std.proofs.Common.{◌≡◌, ◌⊎◌, inl, inr, ◌+◌, ◌-◌, ◌≤◌, ◌<◌, ◌^◌, ◌++◌, ℕ, List, Bool, true, false, Option, length, take, refl, sym, ◌∙◌, ap, subst, arith, rules}
use Rattle.std.proofs.lemmas.Bool.Decides.{nat_tests}
use Rattle.std.specs.Prelude.{nat_lt, nat_eq}
use Rattle.jr_segments.specs.Opening.{Takes, Stops, IsRead}
use Rattle.jr_segments.proofs.Scans.{read_taken, read_piece, closed_journal, damaged_journal, told_reads}
use Rattle.jr_segments.proofs.scan.scan.Goals as goal

pub returns-in-Closed-clause-found : goal.returns-in-Closed-clause-found
returns-in-Closed-clause-found g c =
    let told = g.D.Disk.told c.args.disk.now in
    let takes = subst (λ (xs : List ℕ). Takes c.args.format xs (c.pieces.at - length xs) c.pieces.index c.take_records.new.index c.in_ok-rest.rest.now) c.as_slice.ensures.value c.in_ok-rest.ensures.takes in
    let before = subst (λ (t : Option (List ℕ)). IsRead c.args.format t c.pieces.index c.pieces.held.items c.pieces.at c.pieces.more) c.pieces.invariant.told c.pieces.invariant.read in
    let read = read_taken c.args.format told c.pieces.index c.take_records.new.index c.pieces.held.items c.in_ok-rest.rest.now (c.pieces.at - length c.pieces.held.items) c.pieces.at c.pieces.more (omega (arith, before.place)) before takes in
    closed_journal c.args.format told _ c.take_records.new.index c.in_ok-rest.rest.now c.pieces.at c.pieces.more refl (omega (arith, read.place)) read
    (subst (Stops c.args.format c.in_ok-rest.rest.now c.pieces.more) c.in-Closed.is c.in_ok-rest.ensures.stops)

pub returns-in-Damaged-clause-refused : goal.returns-in-Damaged-clause-refused
returns-in-Damaged-clause-refused g c =
    let told = g.D.Disk.told c.args.disk.now in
    let takes = subst (λ (xs : List ℕ). Takes c.args.format xs (c.pieces.at - length xs) c.pieces.index c.take_records.new.index c.in_ok-rest.rest.now) c.as_slice.ensures.value c.in_ok-rest.ensures.takes in
    let before = subst (λ (t : Option (List ℕ)). IsRead c.args.format t c.pieces.index c.pieces.held.items c.pieces.at c.pieces.more) c.pieces.invariant.told c.pieces.invariant.read in
    let read = read_taken c.args.format told c.pieces.index c.take_records.new.index c.pieces.held.items c.in_ok-rest.rest.now (c.pieces.at - length c.pieces.held.items) c.pieces.at c.pieces.more (omega (arith, before.place)) before takes in
    damaged_journal c.args.format told c.take_records.new.index c.in_ok-rest.rest.now c.pieces.at _ c.pieces.more refl read
    (subst (Stops c.args.format c.in_ok-rest.rest.now c.pieces.more) c.in-Damaged.is c.in_ok-rest.ensures.stops)

pub pieces-preserved-then-count-eq-PIECE : goal.pieces-preserved-then-count-eq-PIECE
pieces-preserved-then-count-eq-PIECE g c =
    let format = c.args.format in
    let told = g.D.Disk.told c.pieces.disk in
    let index = c.take_records.new.index in
    let more = nat_lt (c.pieces.at + c.in_ok-count.count) 1099511627776 in
    let takes = subst (λ (xs : List ℕ). Takes format xs (c.pieces.at - length xs) c.pieces.index index c.in_ok-rest.rest.now) c.as_slice.ensures.value c.in_ok-rest.ensures.takes in
    let read = read_taken format told c.pieces.index index c.pieces.held.items c.in_ok-rest.rest.now (c.pieces.at - length c.pieces.held.items) c.pieces.at c.pieces.more (omega (arith, c.pieces.invariant.read.place)) c.pieces.invariant.read takes in
    let on : c.pieces.more ≡ true = subst (Stops format c.in_ok-rest.rest.now c.pieces.more) c.in-Short.is c.in_ok-rest.ensures.stops in
    let same : c.in_ok-next.next.items ≡ c.in_ok-rest.rest.now = search rules in
    let items : c.extend_from_slice.new.self.items ≡ c.in_ok-rest.rest.now ++ take c.in_ok-count.count c.read_at.new.into =
    c.in_ok-extend_from_slice.ensures.items ∙ ap (λ (xs : List ℕ). xs ++ c.split_at.result.0.now) same ∙ ap (λ (xs : List ℕ). c.in_ok-rest.rest.now ++ xs) c.split_at.ensures.front in
    let piece : length c.read_at.new.into ≡ 65536 = search rules in
    let goes_on : more ≡ true → (c.in_ok-count.count ≡ 65536) × (c.pieces.at + c.in_ok-count.count < 2 ^ 40) = λ is. (c.if-count-eq-PIECE.true, grind (arith, nat_tests)) in
    let stops : more ≡ false → (c.in_ok-count.count < 65536) ⊎ (2 ^ 40 ≤ c.pieces.at + c.in_ok-count.count) = λ is. inr (grind (arith, nat_tests)) in
    let next : IsRead format told index c.extend_from_slice.new.self.items (c.pieces.at + c.in_ok-count.count) more =
    read_piece format told index c.in_ok-rest.rest.now c.extend_from_slice.new.self.items c.read_at.new.into c.pieces.at c.in_ok-count.count more
    (subst (λ (b : Bool). IsRead format told index c.in_ok-rest.rest.now c.pieces.at b) on read)
    (told_reads told c.pieces.at c.read_at.new.into c.in_ok-count.count c.in_ok-count.ensures.bytes)
    (λ content is. g.met.D.Disk.limited c.pieces.disk content (g.met.D.Disk.told_is_left c.pieces.disk content is))
    piece (omega (arith, c.in_ok-count.ensures.count)) items goes_on stops in
    record {
      read = subst (λ (t : Option (List ℕ)). IsRead format t index c.extend_from_slice.new.self.items (c.pieces.at + c.in_ok-count.count) more) (sym c.read_at.ensures.content) next;
      told = c.read_at.ensures.content ∙ c.pieces.invariant.told;
      images = λ content. (
        λ left. (c.pieces.invariant.images content).0 ((c.read_at.ensures.images content).0 left),
        λ left. (c.read_at.ensures.images content).1 ((c.pieces.invariant.images content).1 left),
      );
      faults = c.in_ok-count.ensures.cause.risen ∙ c.pieces.invariant.faults;
      piece = piece;
    }

pub pieces-preserved : goal.pieces-preserved
pieces-preserved g c =
    let format = c.args.format in
    let told = g.D.Disk.told c.pieces.disk in
    let index = c.take_records.new.index in
    let more = nat_eq c.in_ok-count.count 65536 in
    let takes = subst (λ (xs : List ℕ). Takes format xs (c.pieces.at - length xs) c.pieces.index index c.in_ok-rest.rest.now) c.as_slice.ensures.value c.in_ok-rest.ensures.takes in
    let read = read_taken format told c.pieces.index index c.pieces.held.items c.in_ok-rest.rest.now (c.pieces.at - length c.pieces.held.items) c.pieces.at c.pieces.more (omega (arith, c.pieces.invariant.read.place)) c.pieces.invariant.read takes in
    let on : c.pieces.more ≡ true = subst (Stops format c.in_ok-rest.rest.now c.pieces.more) c.in-Short.is c.in_ok-rest.ensures.stops in
    let same : c.in_ok-next.next.items ≡ c.in_ok-rest.rest.now = search rules in
    let items : c.extend_from_slice.new.self.items ≡ c.in_ok-rest.rest.now ++ take c.in_ok-count.count c.read_at.new.into =
    c.in_ok-extend_from_slice.ensures.items ∙ ap (λ (xs : List ℕ). xs ++ c.split_at.result.0.now) same ∙ ap (λ (xs : List ℕ). c.in_ok-rest.rest.now ++ xs) c.split_at.ensures.front in
    let piece : length c.read_at.new.into ≡ 65536 = search rules in
    let goes_on : more ≡ true → (c.in_ok-count.count ≡ 65536) × (c.pieces.at + c.in_ok-count.count < 2 ^ 40) = λ is. absurd (grind (arith, nat_tests)) in
    let stops : more ≡ false → (c.in_ok-count.count < 65536) ⊎ (2 ^ 40 ≤ c.pieces.at + c.in_ok-count.count) = λ is. inl (grind (arith, nat_tests)) in
    let next : IsRead format told index c.extend_from_slice.new.self.items (c.pieces.at + c.in_ok-count.count) more =
    read_piece format told index c.in_ok-rest.rest.now c.extend_from_slice.new.self.items c.read_at.new.into c.pieces.at c.in_ok-count.count more
    (subst (λ (b : Bool). IsRead format told index c.in_ok-rest.rest.now c.pieces.at b) on read)
    (told_reads told c.pieces.at c.read_at.new.into c.in_ok-count.count c.in_ok-count.ensures.bytes)
    (λ content is. g.met.D.Disk.limited c.pieces.disk content (g.met.D.Disk.told_is_left c.pieces.disk content is))
    piece (omega (arith, c.in_ok-count.ensures.count)) items goes_on stops in
    record {
      read = subst (λ (t : Option (List ℕ)). IsRead format t index c.extend_from_slice.new.self.items (c.pieces.at + c.in_ok-count.count) more) (sym c.read_at.ensures.content) next;
      told = c.read_at.ensures.content ∙ c.pieces.invariant.told;
      images = λ content. (
        λ left. (c.pieces.invariant.images content).0 ((c.read_at.ensures.images content).0 left),
        λ left. (c.read_at.ensures.images content).1 ((c.pieces.invariant.images content).1 left),
      );
      faults = c.in_ok-count.ensures.cause.risen ∙ c.pieces.invariant.faults;
      piece = piece;
    }
