use Rattle.std.proofs.Common.{◌≡◌, length, take}
use Rattle.jr_places.specs.Numbers.{numbers_of}
use Rattle.jr_places.proofs.segments.Segments.shorten.Given as goal

abbrev pub invariant-shortening : goal.invariant-shortening
invariant-shortening l = record {
  front : take l.count (numbers_of l.self) ≡ take l.count (numbers_of l.fn.self);
}

abbrev pub decreases-shortening : goal.decreases-shortening
decreases-shortening l = length (numbers_of l.self)
